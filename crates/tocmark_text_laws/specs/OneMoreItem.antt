-- What the blocks are of a text that ends with a list, an empty line, and a text that begins with an item of the same sort.
use Rattle.std.specs.Prelude.{ℕ, ◌+◌, ◌*◌, ◌^◌, ◌<◌, ◌≡◌, Bool, true, false, ◌==◌, ◌&&◌, List, ◌∷◌, ◌++◌, length, codes, Some}
use Rattle.std.specs.List.{list_any}
use Rattle.tocmark_read_scan.specs.declared.syntax.TheConstants.{CORE}
use Rattle.tocmark_read_blocks.specs.Blocks.{blocks_in}
use Rattle.tocmark_text_laws.specs.Quoted.{Tree, Node, Trees, none, more, read_trees}
use Rattle.tocmark_text_laws.specs.Sequence.{after_lines, trees_joined, count_of}
use Rattle.tocmark_text_laws.specs.Items.{ListMark, Bullet, Numbered, ItemMark, IsItemMark, BeginsItem, marker_bytes, item_text, first_line, is_break, begins_loose}
use Rattle.tocmark_text_laws.specs.ListEnds.{LeavesList, outer_mark, ends_leaf, begins_at_margin, first_mark, goes_into}

-- a list gets what is in the first one of others, and is loose; the other ones come after it
abbrev pub list_joined : Tree → Trees → Trees
list_joined t none = more t none
list_joined (Node sort loose lines items) (more (Node k l ls others) us) = more (Node sort true lines (trees_joined items others)) us

-- so does the last one of some trees
abbrev pub lists_joined : Trees → Trees → Trees
lists_joined none us = us
lists_joined (more t none) us = list_joined t us
lists_joined (more t (more v vs)) us = more t (lists_joined (more v vs) us)

-- The blocks of a whole text are those of a first text and of another one, with the last list of the first and the first list of the
-- other as one loose list. The definitions of links are those of both. What is open after the whole is what is open after the other text:
-- a list with the same marker, and a leaf that ends before an empty line.
pub record IsOneMore (whole text rest : List ℕ) : Type 0 where
  pub trees : read_trees whole ≡ lists_joined (read_trees text) (read_trees rest)
  pub definitions : (blocks_in CORE whole).definitions ≡ (blocks_in CORE text).definitions ++ (blocks_in CORE rest).definitions
  pub list : outer_mark (after_lines whole).opened ≡ outer_mark (after_lines rest).opened
  pub ends : ends_leaf (after_lines whole) ≡ ends_leaf (after_lines rest)

-- A list that is in no container goes on after an empty line, if an item for that list begins at the margin (CommonMark 5.3). The list
-- is loose then, because the empty line is between two of its items.
abbrev pub OneMoreItem : Type 0
OneMoreItem =
    (text rest : List ℕ) (mark : ℕ) → LeavesList text mark → ends_leaf (after_lines text) ≡ true → begins_at_margin rest ≡ true → goes_into mark (first_mark rest) ≡ true
    → 4 * (length text + length rest) + 28 < 2 ^ 64 → IsOneMore (text ++ 10 ∷ rest) text rest

-- the last byte of a list marker
abbrev pub last_byte : ListMark → ℕ
last_byte (Bullet b) = b
last_byte (Numbered digits b) = b

-- After an item that a marker makes of a text, a list with this marker is open, and the leaf that is open after the text.
pub record LeavesItem (m : ItemMark) (bare : ℕ → Bool) (text : List ℕ) : Type 0 where
  pub list : outer_mark (after_lines (item_text m bare text)).opened ≡ Some (last_byte m.mark)
  pub ends : ends_leaf (after_lines (item_text m bare text)) ≡ ends_leaf (after_lines text)

-- so it is with each text of which `MarksMakeAnItem` speaks
abbrev pub ItemsLeaveTheirList : Type 0
ItemsLeaveTheirList =
    (m : ItemMark) (bare : ℕ → Bool) (text : List ℕ) → IsItemMark m → BeginsItem m text → list_any (λ b. b == 9) text ≡ false
    → is_break (marker_bytes m ++ first_line text) ≡ false → 32 * length text + 30 < 2 ^ 64 → LeavesItem m bare text

-- the premises hold, of a list with this mark
abbrev pub is_going : ℕ → List ℕ → List ℕ → Bool
is_going mark text rest = goes_into mark (outer_mark (after_lines text).opened) && ends_leaf (after_lines text) && begins_at_margin rest && goes_into mark (first_mark rest)

-- how many blocks are directly in the first one
abbrev pub first_count : Trees → ℕ
first_count none = 0
first_count (more (Node sort loose lines items) ts) = count_of items

-- whether the premises hold, and what is read of both texts with an empty line between: whether the first list is loose, how many items
-- it has, and how many blocks are in no container
abbrev pub GoesOn : ℕ → List ℕ → List ℕ → Bool → Bool → ℕ → ℕ → Type 0
GoesOn mark text rest going loose items count =
    (is_going mark text rest ≡ going) × (begins_loose (read_trees (text ++ 10 ∷ rest)) ≡ loose)
    × (first_count (read_trees (text ++ 10 ∷ rest)) ≡ items) × (count_of (read_trees (text ++ 10 ∷ rest)) ≡ count)

-- Some lists get more items: one, an empty one, one after an empty one, two with a paragraph after them, a numbered one, and one after
-- fenced code in a quote. In the last two examples, the premises don't hold: a list stays tight if the empty line is in fenced code,
-- and a thematic break ends it.
abbrev pub SomeGetItems : Type 0
SomeGetItems =
    GoesOn 45 (codes "- a\n") (codes "- b\n") true true 2 1
    × GoesOn 42 (codes "* a\n") (codes "*\n") true true 2 1
    × GoesOn 42 (codes "*\n") (codes "* a\n") true true 2 1
    × GoesOn 45 (codes "- a\n") (codes "- b\n- c\n\nd\n") true true 3 2
    × GoesOn 46 (codes "1. a\n") (codes "7. b\n") true true 2 1
    × GoesOn 45 (codes "- > ```\n") (codes "- b\n") true true 2 1
    × GoesOn 45 (codes "- ```\n") (codes "- b\n") false false 2 1
    × GoesOn 45 (codes "- a\n") (codes "- - -\n") false false 1 2

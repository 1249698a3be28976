-- What a list marker in front of a text, and as many columns of spaces in front of its other lines, make of its blocks.
use Rattle.std.specs.Prelude.{ℕ, zero, suc, ◌+◌, ◌-◌, ◌*◌, ◌^◌, ◌<◌, ◌≤◌, ◌≡◌, ◌⊎◌, Bool, true, false, not, ◌==◌, ◌&&◌, ◌||◌, nat_le, if◌then◌else◌, List, [], ◌∷◌, ◌++◌, length, map, filter, take_while, replicate, Option, Some, None, codes}
use Rattle.std.specs.List.{AllByRecursion, list_any}
use Rattle.std.specs.Char.{is_ascii_digit}
use Rattle.std.specs.Option.{option_map}
use Rattle.tocmark_read_scan.specs.declared.syntax.TheConstants.{CORE}
use Rattle.tocmark_read_lines.specs.Marks.{number_of}
use Rattle.tocmark_read_blocks.specs.Blocks.{blocks_in}
use Rattle.tocmark_text_laws.specs.Quoted.{ends_line, ListFrom, Item, Told, Trees, Node, none, more, blocks_told, read_trees}
use Rattle.tocmark_text_laws.specs.Sequence.{count_of}

-- A list marker (CommonMark 5.2): `-`, `+` or `*`, or some digits and `.` or `)`.
pub data ListMark : Type 0 where
  Bullet : ℕ → ListMark
  Numbered : List ℕ → ℕ → ListMark

abbrev pub IsListMark : ListMark → Type 0
IsListMark (Bullet b) = ((b == 45) || (b == 43) || (b == 42)) ≡ true
IsListMark (Numbered digits b) = (1 ≤ length digits) × (length digits ≤ 9) × AllByRecursion (λ d. is_ascii_digit d ≡ true) digits × (((b == 46) || (b == 41)) ≡ true)

abbrev pub list_mark_bytes : ListMark → List ℕ
list_mark_bytes (Bullet b) = b ∷ []
list_mark_bytes (Numbered digits b) = digits ++ b ∷ []

-- the number that a list begins with, if it has numbers
abbrev pub first_number : ListMark → Option ℕ
first_number (Bullet b) = None
first_number (Numbered digits b) = Some (number_of digits)

-- What is in front of the first line: some spaces, a marker, and some spaces after it.
pub record ItemMark : Type 0 where
  pub before : ℕ
  pub mark : ListMark
  pub after : ℕ

-- the marker and the spaces after it
abbrev pub marker_bytes : ItemMark → List ℕ
marker_bytes m = list_mark_bytes m.mark ++ replicate m.after 32

abbrev pub item_front : ItemMark → List ℕ
item_front m = replicate m.before 32 ++ marker_bytes m

-- such a marker has at most three spaces in front, and one to four after it
abbrev pub IsItemMark : ItemMark → Type 0
IsItemMark m = (m.before ≤ 3) × IsListMark m.mark × (1 ≤ m.after) × (m.after ≤ 4)

-- the first byte of a line ending
abbrev pub is_end : ℕ → Bool
is_end b = (b == 10) || (b == 13)

-- the spaces in front of a line that begins with this byte: an empty line can stay empty
abbrev pub spaces_before : ℕ → Bool → ℕ → List ℕ
spaces_before width bare b = if bare && is_end b then [] else replicate width 32

-- bytes with the spaces of their lines, if so many lines begin before them, and if they begin at the front of a line or not
abbrev pub indented : ℕ → (ℕ → Bool) → ℕ → Bool → List ℕ → List ℕ
indented width bare n front [] = []
indented width bare n true (b ∷ bs) = spaces_before width (bare n) b ++ (b ∷ indented width bare (n + 1) (ends_line b bs) bs)
indented width bare n false (b ∷ bs) = b ∷ indented width bare n (ends_line b bs) bs

-- a text with a marker in front, and each other line as many columns further
abbrev pub item_text : ItemMark → (ℕ → Bool) → List ℕ → List ℕ
item_text m bare text = item_front m ++ indented (length (item_front m)) bare 1 false text

-- a text begins with a byte that is neither a space nor a line ending
abbrev pub begins_with_ink : List ℕ → Bool
begins_with_ink [] = false
begins_with_ink (b ∷ bs) = not ((b == 32) || is_end b)

-- a text begins with so many spaces or more, and ink after them
abbrev pub begins_after : ℕ → List ℕ → Bool
begins_after n [] = false
begins_after n (b ∷ bs) = if b == 32 then begins_after (n - 1) bs else (n == 0) && not (is_end b)

-- A text begins in an item as it begins without it: with ink, or with four spaces or more after a marker with one space.
abbrev pub BeginsItem : ItemMark → List ℕ → Type 0
BeginsItem m text = (begins_with_ink text ≡ true) ⊎ ((m.after ≡ 1) × (begins_after 4 text ≡ true))

-- the first line of a text, without its ending
abbrev pub first_line : List ℕ → List ℕ
first_line text = take_while (λ b. not (is_end b)) text

-- at least three of one of `*`, `-`, `_`, and nothing else but spaces (CommonMark 4.1)
abbrev pub is_break : List ℕ → Bool
is_break [] = false
is_break (b ∷ bs) =
    ((b == 42) || (b == 45) || (b == 95))
    && not (list_any (λ x. not ((x == 32) || (x == b))) (b ∷ bs))
    && nat_le 3 (length (filter (λ x. x == b) (b ∷ bs)))

-- a list that is in no container, and its first item
abbrev pub outer_list : Option ℕ → Bool → Told
outer_list first loose = record { depth = 0; sort = ListFrom first; loose = loose; list = None; lines = [] }

abbrev pub first_item : Told
first_item = record { depth = 1; sort = Item; loose = false; list = Some 0; lines = [] }

-- The list of a block, as an index of the blocks: a block that was in no container is directly in an item of the first list.
abbrev pub list_in_item : ℕ → Option ℕ → Option ℕ
list_in_item zero list = Some 0
list_in_item (suc depth) list = option_map (λ i. suc (suc i)) list

-- the same block in a list and its item, with two blocks more in front
abbrev pub in_item : Told → Told
in_item b = record { depth = suc (suc b.depth); sort = b.sort; loose = b.loose; list = list_in_item b.depth b.list; lines = b.lines }

-- Such a text is one list with one item that has the blocks of the text, and the definitions of links stay. In the order in which
-- they begin, the blocks are the list, the item, and then those of the text, each two containers deeper. The law doesn't say when the
-- list is `loose`.
pub record IsItem (m : ItemMark) (bare : ℕ → Bool) (text : List ℕ) : Type 0 where
  pub loose : Bool
  pub trees : read_trees (item_text m bare text) ≡ more (Node (ListFrom (first_number m.mark)) loose [] (more (Node Item false [] (read_trees text)) none)) none
  pub blocks : blocks_told (item_text m bare text) (blocks_in CORE (item_text m bare text)) ≡ outer_list (first_number m.mark) loose ∷ first_item ∷ map in_item (blocks_told text (blocks_in CORE text))
  pub definitions : (blocks_in CORE (item_text m bare text)).definitions ≡ (blocks_in CORE text).definitions

-- So it is with each text that begins with ink or indented code, and has no tab. The marker, the spaces after it and the first line
-- aren't a thematic break.
abbrev pub MarksMakeAnItem : Type 0
MarksMakeAnItem =
    (m : ItemMark) (bare : ℕ → Bool) (text : List ℕ) → IsItemMark m → BeginsItem m text → list_any (λ b. b == 9) text ≡ false
    → is_break (marker_bytes m ++ first_line text) ≡ false → 32 * length text + 30 < 2 ^ 64 → IsItem m bare text

-- a bullet, and a marker with these digits
abbrev pub bulleted : ItemMark
bulleted = record { before = 0; mark = Bullet 45; after = 1 }

abbrev pub numbered_by : List ℕ → ItemMark
numbered_by digits = record { before = 0; mark = Numbered digits 46; after = 1 }

-- the first block of these is a loose list
abbrev pub begins_loose : Trees → Bool
begins_loose none = false
begins_loose (more (Node sort loose lines within) ts) = loose

-- whether the list with a text in its item is loose, and how many blocks are in no container
abbrev pub Makes : ItemMark → List ℕ → Bool → ℕ → Type 0
Makes m text loose count = (begins_loose (read_trees (item_text m (λ n. false) text)) ≡ loose) × (count_of (read_trees (item_text m (λ n. false) text)) ≡ count)

-- Some lists with one item. Such a list is loose if a blank line is between two blocks that are directly in the item. Definitions of
-- links count, and blocks that are deeper don't.
abbrev pub SomeItems : Type 0
SomeItems =
    Makes bulleted (codes "a\nb\n") false 1
    × Makes bulleted (codes "a\n\nb\n") true 1
    × Makes bulleted (codes "# a\nb\n") false 1
    × Makes bulleted (codes "- a\n\n  b\n") false 1
    × Makes bulleted (codes "[a]: b\n\nc\n") true 1

-- Some texts aren't in one item, so the premises are needed: a text that begins with a space, one that begins with a line ending, one
-- that makes a thematic break of its marker, and one after ten digits.
abbrev pub SomeMakeNoItem : Type 0
SomeMakeNoItem =
    Makes bulleted (codes " a\n\nb\n") false 2
    × Makes bulleted (codes "\n\na\n") false 2
    × Makes bulleted (codes "- -\n\na\n") false 2
    × Makes (numbered_by (codes "1234567890")) (codes "a\n\nb\n") false 2

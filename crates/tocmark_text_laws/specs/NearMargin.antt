-- What the blocks are of a text that ends with a list, an empty line, and a text that begins at the margin or after one space.
use Rattle.std.specs.Prelude.{ℕ, ◌+◌, ◌*◌, ◌^◌, ◌<◌, ◌≡◌, Bool, true, false, ◌==◌, if◌then◌else◌, List, [], ◌∷◌, ◌++◌, length, codes}
use Rattle.std.specs.List.{list_any}
use Rattle.tocmark_text_laws.specs.Items.{ItemMark, IsItemMark, first_number, marker_bytes, item_text, BeginsItem, first_line, is_break}
use Rattle.tocmark_text_laws.specs.Quoted.{ListFrom, Item, Node, none, more, read_trees}
use Rattle.tocmark_text_laws.specs.Sequence.{after_lines, IsSequence, trees_joined, count_of}
use Rattle.tocmark_text_laws.specs.ListEnds.{LeavesList, ends_leaf, begins_at_margin, first_mark, goes_into}

-- a text begins at the margin, or after one space there
abbrev pub begins_near_margin : List ℕ → Bool
begins_near_margin [] = false
begins_near_margin (b ∷ bs) = if b == 32 then begins_at_margin bs else begins_at_margin (b ∷ bs)

-- A list ends before such a text as it does before one at the margin, because the text in an item is two columns further or more.
abbrev pub AListEndsNearMargin : Type 0
AListEndsNearMargin =
    (text rest : List ℕ) (mark : ℕ) → LeavesList text mark → ends_leaf (after_lines text) ≡ true → begins_near_margin rest ≡ true → goes_into mark (first_mark rest) ≡ false
    → 4 * (length text + length rest) + 28 < 2 ^ 64 → IsSequence (text ++ 10 ∷ rest) text rest

-- So does a list in an item, and the list of that item is loose.
abbrev pub AListEndsNearMarginInALooseItem : Type 0
AListEndsNearMarginInALooseItem =
    (m : ItemMark) (bare : ℕ → Bool) (text rest : List ℕ) (mark : ℕ) → IsItemMark m → BeginsItem m (text ++ 10 ∷ rest) → list_any (λ b. b == 9) (text ++ 10 ∷ rest) ≡ false
    → is_break (marker_bytes m ++ first_line (text ++ 10 ∷ rest)) ≡ false → 32 * length (text ++ 10 ∷ rest) + 30 < 2 ^ 64
    → LeavesList text mark → ends_leaf (after_lines text) ≡ true → begins_near_margin rest ≡ true → goes_into mark (first_mark rest) ≡ false
    → read_trees (item_text m bare (text ++ 10 ∷ rest)) ≡ more (Node (ListFrom (first_number m.mark)) true [] (more (Node Item false [] (trees_joined (read_trees text) (read_trees rest))) none)) none

-- how many blocks are in no container if an empty line is between two texts
abbrev pub Blocks : List ℕ → List ℕ → ℕ → Type 0
Blocks text rest count = count_of (read_trees (text ++ 10 ∷ rest)) ≡ count

-- Some texts after a list: a quote after one space, a paragraph after one, and a quote after two, which is in the item.
abbrev pub SomeTextsNearMargin : Type 0
SomeTextsNearMargin = Blocks (codes "- a\n") (codes " > b\n") 2 × Blocks (codes "- a\n") (codes " b\n") 2 × Blocks (codes "- a\n") (codes "  > b\n") 1

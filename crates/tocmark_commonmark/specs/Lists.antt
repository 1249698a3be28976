-- Lists (CommonMark 0.31.2, 5.3).
use Rattle.std.specs.Prelude.{ℕ, zero, suc, ◌+◌, ◌-◌, Bool, false, not, ◌==◌, ◌||◌, nat_lt, if◌then◌else◌, List, [], ◌∷◌, length, map, drop, take_while, Option, Some, None}
use Rattle.std.specs.List.{fold, list_any}
use Rattle.tocmark_commonmark.specs.Lines.{Line, is_blank_line}
use Rattle.tocmark_commonmark.specs.Tree.{Block, Blocks, BulletList, OrderedList, Item, Found, ends_open, last_of, tree, Taken, taken}
use Rattle.tocmark_commonmark.specs.Beginnings.{ItemMark, Beginning, ItemLine, beginning}
use Rattle.tocmark_commonmark.specs.Containers.{item_lines}

-- 5.2: an item's blocks, its first line, and how many it has
pub record ItemFound : Type 0 where
  pub found : List Found
  pub first : ℕ
  pub count : ℕ

-- 5.3: the last line of an item that isn't blank
abbrev pub item_last : ItemFound → ℕ
item_last i = i.first + last_of i.found

-- 5.2: the item as a block
abbrev pub item_block : ItemFound → Found
item_block i = record { block = Item (tree i.found); first = i.first; last = item_last i; is_open = ends_open i.count i.found }

-- 5.3: items are of the same type if they have the same bullet or the same delimiter
abbrev pub same_sort : ℕ → List Line → Beginning → Option (ItemMark × List Line)
same_sort sort ls (ItemLine m) = if m.sort == sort then Some (m, ls) else None
same_sort sort ls b = None

-- 5.3: the item that the next line begins, if it is of this type
abbrev pub sibling : ℕ → List Line → Option (ItemMark × List Line)
sibling sort [] = None
sibling sort (l ∷ ls) = same_sort sort ls (beginning l)

-- 5.3: the items from there on
abbrev pub and_siblings : (ItemMark × List Line → List ItemFound) → Option (ItemMark × List Line) → List ItemFound
and_siblings next None = []
and_siblings next (Some s) = next s

-- 5.3: the blank lines in front of lines
abbrev pub blank_count : List Line → ℕ
blank_count ls = length (take_while is_blank_line ls)

-- 5.3: the items after so many blank lines
abbrev pub items_after : (ℕ → ItemMark × List Line → List ItemFound) → ℕ → ItemMark → List Line → ℕ → List ItemFound
items_after next first m rest blanks = and_siblings (next (first + blanks)) (sibling m.sort (drop blanks rest))

-- 5.3: an item with these lines, and those after it
abbrev pub items_with : (ℕ → ItemMark × List Line → List ItemFound) → (List Line → List Found) → ℕ → ItemMark → List Line → List Line → List ItemFound
items_with next blocks first m ls inside =
    record { found = blocks inside; first = first; count = length inside }
    ∷ items_after next (first + length inside) m (drop (length inside - 1) ls) (blank_count (drop (length inside - 1) ls))

-- 5.3: a list is a sequence of items of the same type; fuel counts down, because each item takes a line
abbrev pub items : (List Line → List Found) → ℕ → ℕ → ItemMark × List Line → List ItemFound
items blocks zero first m = []
items blocks (suc fuel) first m = items_with (λ n s. items blocks fuel n s) blocks first (m.0) (m.1) (item_lines blocks (m.0) (m.1))

-- a blank line is before one of these, the first of which comes after this line
abbrev pub gap_after : ℕ → List Found → Bool
gap_after last [] = false
gap_after last (f ∷ fs) = nat_lt (last + 1) f.first || gap_after f.last fs

-- a blank line separates two of these
abbrev pub has_gap : List Found → Bool
has_gap [] = false
has_gap (f ∷ fs) = gap_after f.last fs

-- 5.3: a list is loose if blank lines separate two of its items, or an item directly contains two blocks with a blank line
-- between them; otherwise it is tight
abbrev pub is_tight : List ItemFound → Bool
is_tight is = not (has_gap (map item_block is) || list_any (λ (i : ItemFound). has_gap i.found) is)

-- 5.3: a bullet list, or an ordered list with its start number
abbrev pub list_block : ItemMark → Option ℕ → Bool → Blocks → Block
list_block m None tight is = BulletList m.sort tight is
list_block m (Some n) tight is = OrderedList m.sort n tight is

-- the first line after the items
abbrev pub items_end : List ItemFound → ℕ
items_end is = fold (λ (n : ℕ) (i : ItemFound). i.first + i.count) 0 is

-- a list is open if its last item is
abbrev pub last_is_open : List Found → Bool
last_is_open found = fold (λ (was : Bool) (f : Found). f.is_open) false found

-- 5.3: a list of these items, which are these blocks
abbrev pub list_of : ItemMark → ℕ → List ItemFound → List Found → Taken
list_of m at is found = taken (record {
  block = list_block m m.number (is_tight is) (tree found);
  first = at;
  last = last_of found;
  is_open = last_is_open found;
}) (items_end is - at)

-- 5.3: a list of these items
abbrev pub list_with : ItemMark → ℕ → List ItemFound → Taken
list_with m at is = list_of m at is (map item_block is)

-- 5.3: the list that a marker begins, if these lines are after it
abbrev pub list : (List Line → List Found) → ℕ → ItemMark → List Line → Taken
list blocks at m ls = list_with m at (items blocks (length ls + 1) at (m, ls))

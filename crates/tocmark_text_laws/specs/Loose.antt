-- Lists are tight where no line is idle, and so where none is blank.
use Rattle.std.specs.Prelude.{ℕ, ◌*◌, ◌+◌, ◌^◌, ◌<◌, ◌≡◌, Bool, false, true, not, ◌==◌, ◌&&◌, ◌||◌, nat_le, if◌then◌else◌, List, [], ◌∷◌, ◌++◌, length, codes}
use Rattle.std.specs.List.{AllByRecursion, list_any}
use Rattle.tocmark_read_scan.specs.Basic.{bytes_between}
use Rattle.tocmark_read_scan.specs.declared.syntax.TheConstants.{CORE}
use Rattle.tocmark_read_lines.specs.Lines.{lines_of}
use Rattle.tocmark_read_lines.specs.declared.line.Line.{Line}
use Rattle.tocmark_read_page.specs.Pages.{State, first_page}
use Rattle.tocmark_read_page.specs.declared.leaf.Leaf.{Leaf}
use Rattle.tocmark_read_page.specs.declared.leaf.Leaf.TheVariants as leaf
use Rattle.tocmark_read_page.specs.declared.page.Block.{Block}
use Rattle.tocmark_read_blocks.specs.Blocks.{core_known, line_taken_in, blocks_in}
use Rattle.tocmark_text_laws.specs.Items.{ItemMark, IsItemMark, is_end, first_number, marker_bytes, item_text, BeginsItem, first_line, is_break, bulleted, begins_loose}
use Rattle.tocmark_text_laws.specs.Quoted.{ListFrom, Item, Node, none, more, read_trees}
use Rattle.tocmark_text_laws.specs.Sequence.{after_lines, is_quiet, IsQuiet, trees_joined, count_of}
use Rattle.tocmark_text_laws.specs.ListEnds.{LeavesList, ends_leaf, begins_at_margin, first_mark, goes_into}

-- a byte that is neither a space, nor a tab, nor `>`
abbrev pub is_inky : ℕ → Bool
is_inky b = not ((b == 32) || (b == 9) || (b == 62))

-- one of the bytes is such
abbrev pub has_ink : List ℕ → Bool
has_ink [] = false
has_ink (b ∷ bs) = is_inky b || has_ink bs

-- No line of a text is blank, not even in a block quote: each has a byte that is neither a space, nor a tab, nor `>`.
abbrev pub NoneIsBlank : List ℕ → Type 0
NoneIsBlank text = AllByRecursion (λ (l : Line). has_ink (bytes_between text l.start l.end) ≡ true) (lines_of text)

-- a leaf is open
abbrev pub is_open : Leaf → Bool
is_open leaf.Nothing = false
is_open leaf.Paragraph = true
is_open leaf.Indented = true
is_open (leaf.Fenced f) = true
is_open (leaf.Html k) = true
is_open (leaf.Metadata k) = true
is_open (leaf.Table t) = true

-- after a line, a leaf is open whose last line it is
abbrev pub goes_in_leaf : Line → State → Bool
goes_in_leaf l s = is_open s.leaf && nat_le l.number s.line

-- No line of a text is idle: each has ink, or it goes into a leaf, such as a blank line in fenced code does. The lines are those from
-- a page on.
abbrev pub NoneIsIdleFrom : List ℕ → State → List Line → Type 0
NoneIsIdleFrom text s [] = Unit
NoneIsIdleFrom text s (l ∷ ls) =
    ((has_ink (bytes_between text l.start l.end) || goes_in_leaf l (line_taken_in core_known text s l)) ≡ true)
    × NoneIsIdleFrom text (line_taken_in core_known text s l) ls

abbrev pub NoneIsIdle : List ℕ → Type 0
NoneIsIdle text = NoneIsIdleFrom text first_page (lines_of text)

-- where no line is blank, none is idle
abbrev pub NoBlankLineIsIdle : Type 0
NoBlankLineIsIdle = (text : List ℕ) → NoneIsBlank text → NoneIsIdle text

-- no list in a text is loose if none of its lines is idle
abbrev pub NoIdleLineNoLooseList : Type 0
NoIdleLineNoLooseList = (text : List ℕ) → NoneIsIdle text → AllByRecursion (λ (b : Block). b.loose ≡ false) (blocks_in CORE text).blocks

-- the same if none is blank
abbrev pub NoBlankLineNoLooseList : Type 0
NoBlankLineNoLooseList = (text : List ℕ) → NoneIsBlank text → AllByRecursion (λ (b : Block). b.loose ≡ false) (blocks_in CORE text).blocks

-- So the item that a marker makes of a text without an idle line is in a tight list.
abbrev pub MarksMakeATightItem : Type 0
MarksMakeATightItem =
    (m : ItemMark) (bare : ℕ → Bool) (text : List ℕ) → IsItemMark m → BeginsItem m text → list_any (λ b. b == 9) text ≡ false
    → is_break (marker_bytes m ++ first_line text) ≡ false → 32 * length text + 30 < 2 ^ 64 → NoneIsIdle text
    → read_trees (item_text m bare text) ≡ more (Node (ListFrom (first_number m.mark)) false [] (more (Node Item false [] (read_trees text)) none)) none

-- So is an item with one block, whatever blank lines are in that.
abbrev pub MarksMakeATightItemOfOneBlock : Type 0
MarksMakeATightItemOfOneBlock =
    (m : ItemMark) (bare : ℕ → Bool) (text : List ℕ) → IsItemMark m → BeginsItem m text → list_any (λ b. b == 9) text ≡ false
    → is_break (marker_bytes m ++ first_line text) ≡ false → 32 * length text + 30 < 2 ^ 64 → count_of (read_trees text) ≡ 1
    → read_trees (item_text m bare text) ≡ more (Node (ListFrom (first_number m.mark)) false [] (more (Node Item false [] (read_trees text)) none)) none

-- whether some list in a text is loose
abbrev pub has_loose_list : List ℕ → Bool
has_loose_list text = list_any (λ (b : Block). b.loose) (blocks_in CORE text).blocks

-- Some lists: a tight one, one with a blank line between its items, one in a block quote whose blank line has the quote's marker, and
-- one with fenced code in which a blank line is.
abbrev pub SomeLists : Type 0
SomeLists =
    (has_loose_list (codes "- a\n- b\n") ≡ false)
    × (has_loose_list (codes "- a\n\n- b\n") ≡ true)
    × (has_loose_list (codes "> - a\n>\n> - b\n") ≡ true)
    × (has_loose_list (codes "- ```\n\n  ```\n- b\n") ≡ false)

-- the first line of a text is blank, or it has no line
abbrev pub begins_blank : List ℕ → Bool
begins_blank [] = true
begins_blank (b ∷ bs) = if b == 32 then begins_blank bs else is_end b

-- An item of two texts with an empty line between them is in a loose list. The item is one of the whole text. The empty line ends what
-- the first text leaves open, and the other text doesn't begin with a blank line.
abbrev pub MarksMakeALooseItem : Type 0
MarksMakeALooseItem =
    (m : ItemMark) (bare : ℕ → Bool) (text rest : List ℕ) → IsItemMark m → BeginsItem m (text ++ 10 ∷ rest) → list_any (λ b. b == 9) (text ++ 10 ∷ rest) ≡ false
    → is_break (marker_bytes m ++ first_line (text ++ 10 ∷ rest)) ≡ false → 32 * length (text ++ 10 ∷ rest) + 30 < 2 ^ 64 → IsQuiet text → begins_blank rest ≡ false
    → read_trees (item_text m bare (text ++ 10 ∷ rest)) ≡ more (Node (ListFrom (first_number m.mark)) true [] (more (Node Item false [] (trees_joined (read_trees text) (read_trees rest))) none)) none

-- So it is if the first text leaves a list open that is in no container, and the other text ends it.
abbrev pub AListEndsInALooseItem : Type 0
AListEndsInALooseItem =
    (m : ItemMark) (bare : ℕ → Bool) (text rest : List ℕ) (mark : ℕ) → IsItemMark m → BeginsItem m (text ++ 10 ∷ rest) → list_any (λ b. b == 9) (text ++ 10 ∷ rest) ≡ false
    → is_break (marker_bytes m ++ first_line (text ++ 10 ∷ rest)) ≡ false → 32 * length (text ++ 10 ∷ rest) + 30 < 2 ^ 64
    → LeavesList text mark → ends_leaf (after_lines text) ≡ true → begins_at_margin rest ≡ true → goes_into mark (first_mark rest) ≡ false
    → read_trees (item_text m bare (text ++ 10 ∷ rest)) ≡ more (Node (ListFrom (first_number m.mark)) true [] (more (Node Item false [] (trees_joined (read_trees text) (read_trees rest))) none)) none

-- whether an empty line ends what the first text leaves open, whether the other text begins with a blank line, and whether the list
-- with both in its item is loose
abbrev pub Joins : List ℕ → List ℕ → Bool → Bool → Bool → Type 0
Joins text rest quiet blank loose = (is_quiet text ≡ quiet) × (begins_blank rest ≡ blank) × (begins_loose (read_trees (item_text bulleted (λ n. false) (text ++ 10 ∷ rest))) ≡ loose)

-- Some items of two texts with an empty line between them. In the first three, the premises hold. The list is tight where the empty
-- line is in fenced code, in indented code, or in an inner list, and where nothing but blank lines is after it. In the last one, the
-- inner list ends.
abbrev pub SomeJoins : Type 0
SomeJoins =
    Joins (codes "a\n") (codes "b\n") true false true
    × Joins (codes "# a\n") (codes "    b\n") true false true
    × Joins (codes "> - a\n") (codes "  - b\n") true false true
    × Joins (codes "```\n") (codes "a\n") false false false
    × Joins (codes "    a\n") (codes "    b\n") false false false
    × Joins (codes "- a\n") (codes "  b\n") false false false
    × Joins (codes "a\n") (codes " \n") true true false
    × Joins (codes "- a\n") (codes "- b\n") false false false
    × Joins (codes "- a\n") (codes "b\n") false false true

-- how many blocks of a text are in no container, and whether the list with the text in its item is loose
abbrev pub Enclosed : List ℕ → ℕ → Bool → Type 0
Enclosed text count loose = (count_of (read_trees text) ≡ count) × (begins_loose (read_trees (item_text bulleted (λ n. false) text)) ≡ loose)

-- Some items with one block are in a tight list: a quote, fenced code, and a list that is loose itself, each with a blank line in it.
-- An item with two blocks is in a loose one, and the premise doesn't hold.
abbrev pub SomeSingles : Type 0
SomeSingles =
    Enclosed (codes "> a\n>\n> b\n") 1 false
    × Enclosed (codes "```\n\n```\n") 1 false
    × Enclosed (codes "- a\n\n  b\n") 1 false
    × Enclosed (codes "> a\n\nb\n") 2 true

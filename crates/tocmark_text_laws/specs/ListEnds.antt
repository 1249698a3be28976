-- What the blocks are of a text that ends with a list, an empty line, and another text.
use Rattle.std.specs.Prelude.{ℕ, ◌+◌, ◌*◌, ◌^◌, ◌<◌, ◌≡◌, Bool, true, false, not, ◌==◌, ◌&&◌, ◌||◌, List, [], ◌∷◌, ◌++◌, length, codes, Option, Some, None}
use Rattle.tocmark_read_scan.specs.declared.syntax.TheConstants.{CORE}
use Rattle.tocmark_read_lines.specs.Cells.{cells_of, first_cursor}
use Rattle.tocmark_read_lines.specs.Containers.{container_at}
use Rattle.tocmark_read_lines.specs.Marks.{tail_of}
use Rattle.tocmark_read_lines.specs.declared.cell.Cell.{Cell}
use Rattle.tocmark_read_lines.specs.declared.container.Container.{Container}
use Rattle.tocmark_read_lines.specs.declared.container.Container.TheVariants as container
use Rattle.tocmark_read_lines.specs.declared.container.ContainerStart.{ContainerStart}
use Rattle.tocmark_read_lines.specs.declared.container.ContainerStart.TheVariants as begins
use Rattle.tocmark_read_lines.specs.declared.container.Opened.{Opened}
use Rattle.tocmark_read_lines.specs.declared.html.HtmlKind.TheVariants as html
use Rattle.tocmark_read_page.specs.Leaves.{is_paragraph}
use Rattle.tocmark_read_page.specs.Pages.{State, is_quote}
use Rattle.tocmark_read_blocks.specs.Blocks.{blocks_in}
use Rattle.tocmark_read_blocks.specs.Leaves.{leaf_at}
use Rattle.tocmark_read_blocks.specs.declared.leaf.LeafStart.{LeafStart}
use Rattle.tocmark_read_blocks.specs.declared.leaf.LeafStart.TheVariants as start
use Rattle.tocmark_text_laws.specs.Items.{is_end, first_line}
use Rattle.tocmark_text_laws.specs.Quoted.{Told, blocks_told, read_trees}
use Rattle.tocmark_text_laws.specs.Sequence.{after_lines, ends_before_blank, IsSequence, count_of}

-- the last byte of each marker of a list: its bullet, or what comes after the numbers
abbrev pub list_mark : Container → Option ℕ
list_mark container.Quote = None
list_mark (container.List sort) = Some sort
list_mark (container.Item width) = None
list_mark container.Footnote = None
list_mark container.Definitions = None
list_mark (container.Definition width) = None

-- that of the outermost open container, if it is a list
abbrev pub outer_mark : List Opened → Option ℕ
outer_mark [] = None
outer_mark (o ∷ os) = list_mark o.container

-- a quote is among the open containers
abbrev pub has_quote : List Opened → Bool
has_quote [] = false
has_quote (o ∷ os) = is_quote o.container || has_quote os

-- a text ends with a line feed, and the outermost container that is open after it is a list with these markers
pub record LeavesList (text : List ℕ) (mark : ℕ) : Type 0 where
  pub line : (front : List ℕ) × (text ≡ front ++ 10 ∷ [])
  pub list : outer_mark (after_lines text).opened ≡ Some mark

-- an empty line ends the open leaf: one that is in a quote, or that ends before an empty line
abbrev pub ends_leaf : State → Bool
ends_leaf s = has_quote s.opened || ends_before_blank s.leaf

-- a text begins at the margin: with a byte that is neither a tab nor a space nor a line ending
abbrev pub begins_at_margin : List ℕ → Bool
begins_at_margin [] = false
begins_at_margin (b ∷ bs) = not ((b == 9) || (b == 32) || is_end b)

-- the last byte of the marker of an item that begins
abbrev pub item_mark : Option ContainerStart → Option ℕ
item_mark None = None
item_mark (Some begins.Quote) = None
item_mark (Some (begins.Item i)) = Some i.sort
item_mark (Some (begins.Footnote n)) = None
item_mark (Some (begins.Definition d)) = None

-- the columns of the first line of a text
abbrev pub first_cells : List ℕ → List Cell
first_cells text = cells_of [] 0 (first_line text)

-- the last byte of the marker that a text begins with, if it begins with an item
abbrev pub first_mark : List ℕ → Option ℕ
first_mark text = item_mark (container_at (first_cells text) (tail_of (first_cells text)) (first_cursor (first_cells text)) false)

-- an item with this marker goes into such a list
abbrev pub goes_into : ℕ → Option ℕ → Bool
goes_into mark None = false
goes_into mark (Some other) = mark == other

-- A list that is in no container ends before an empty line and a text that begins at the margin, and not with an item for that
-- list. So the blocks and the definitions of the whole are those of the first text, and then those of the other one. The list is
-- loose if it is loose in the first text alone: the empty line after it doesn't count.
abbrev pub AListEnds : Type 0
AListEnds =
    (text rest : List ℕ) (mark : ℕ) → LeavesList text mark → ends_leaf (after_lines text) ≡ true → begins_at_margin rest ≡ true → goes_into mark (first_mark rest) ≡ false
    → 4 * (length text + length rest) + 28 < 2 ^ 64 → IsSequence (text ++ 10 ∷ rest) text rest

-- a leaf that ends a paragraph as it begins: no text, and no tag that is alone on its line (CommonMark 4.6 and 4.8)
abbrev pub ends_paragraph : LeafStart → Bool
ends_paragraph start.Blank = true
ends_paragraph start.Text = false
ends_paragraph (start.Indented column) = false
ends_paragraph (start.Heading heading) = true
ends_paragraph (start.Fence fence) = true
ends_paragraph (start.Html html.Alone) = false
ends_paragraph (start.Html k) = true
ends_paragraph (start.Underline level) = false
ends_paragraph start.Rule = true
ends_paragraph (start.Metadata k) = false
ends_paragraph (start.Task done) = false
ends_paragraph (start.QuoteKind k) = false

-- a line goes on with a paragraph if it begins no container and no leaf that ends one
abbrev pub continues : Option ContainerStart → LeafStart → Bool
continues None leaf = not (ends_paragraph leaf)
continues (Some o) leaf = false

-- the first line of a text goes on with a paragraph that is open in a list
abbrev pub goes_on : List ℕ → Bool
goes_on text =
    continues (container_at (first_cells text) (tail_of (first_cells text)) (first_cursor (first_cells text)) false)
    (leaf_at (first_cells text) (first_line text) (tail_of (first_cells text)) (first_cursor (first_cells text)) false false)

-- So it is without an empty line, whatever leaf is open. Only an open paragraph may go on.
abbrev pub AListEndsAtOnce : Type 0
AListEndsAtOnce =
    (text rest : List ℕ) (mark : ℕ) → LeavesList text mark → begins_at_margin rest ≡ true → goes_into mark (first_mark rest) ≡ false → (is_paragraph (after_lines text).leaf && goes_on rest) ≡ false
    → 4 * (length text + length rest) + 20 < 2 ^ 64 → IsSequence (text ++ rest) text rest

-- the premises hold, of a list whose bullet is `-`
abbrev pub is_left : List ℕ → List ℕ → Bool
is_left text rest = goes_into 45 (outer_mark (after_lines text).opened) && ends_leaf (after_lines text) && begins_at_margin rest && not (goes_into 45 (first_mark rest))

-- whether the premises hold, and how many blocks are in no container: of a text, of another one, and of both with an empty line between
abbrev pub ListCounts : List ℕ → List ℕ → Bool → ℕ → ℕ → ℕ → Type 0
ListCounts text rest left first second both = (is_left text rest ≡ left) × (count_of (read_trees text) ≡ first) × (count_of (read_trees rest) ≡ second) × (count_of (read_trees (text ++ 10 ∷ rest)) ≡ both)

-- how many lines the blocks of a text have
abbrev pub line_sum : List Told → ℕ
line_sum [] = 0
line_sum (b ∷ bs) = length b.lines + line_sum bs

abbrev pub lines_in : List ℕ → ℕ
lines_in text = line_sum (blocks_told text (blocks_in CORE text))

-- Some lists go on after an empty line, so the premises are needed: before an item of the same sort, and before a line that is
-- indented as the item's text is. Where fenced code is open in the item, the empty line is a line of the code. Other lists end: before
-- a paragraph, an item with another bullet, or a thematic break, and where the fenced code is in a quote. Without the empty line,
-- a paragraph in the list goes on. It ends before a heading, and fenced code ends before a paragraph.
abbrev pub SomeListsGoOn : Type 0
SomeListsGoOn =
    ListCounts (codes "- a\n") (codes "- b\n") false 1 1 1
    × ListCounts (codes "- a\n") (codes "  b\n") false 1 1 1
    × ((is_left (codes "- ```\n") (codes "a\n") ≡ false) × (lines_in (codes "- ```\n") ≡ 0) × (lines_in (codes "a\n") ≡ 1) × (lines_in (codes "- ```\n\na\n") ≡ 2))
    × ListCounts (codes "- a\n") (codes "b\n") true 1 1 2
    × ListCounts (codes "- a\n") (codes "+ b\n") true 1 1 2
    × ListCounts (codes "- a\n") (codes "- - -\n") true 1 1 2
    × ListCounts (codes "- > ```\n") (codes "a\n") true 1 1 2
    × ((goes_on (codes "b\n") ≡ true) × (count_of (read_trees (codes "- a\nb\n")) ≡ 1))
    × ((goes_on (codes "# b\n") ≡ false) × (count_of (read_trees (codes "- a\n# b\n")) ≡ 2))
    × ((is_paragraph (after_lines (codes "- ```\n")).leaf ≡ false) × (count_of (read_trees (codes "- ```\nb\n")) ≡ 2))

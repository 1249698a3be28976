-- What a line begins (CommonMark 0.31.2, chapters 4 and 5). What one line is by itself (a heading, a fence, a rule, an underline,
-- a marker, HTML) is the reader's definition, because each of these already states a rule of the standard.
use Rattle.std.specs.Prelude.{ℕ, ◌+◌, Bool, true, false, not, ◌==◌, ◌&&◌, ◌||◌, nat_le, if◌then◌else◌, List, [], ◌∷◌, length, Option, Some, None}
use Rattle.tocmark_read_scan.specs.Basic.{bytes_between}
use Rattle.tocmark_read_lines.specs.declared.cell.Cell.{Cell}
use Rattle.tocmark_read_lines.specs.declared.beginnings.Heading.{Heading as HeadingMark}
use Rattle.tocmark_read_lines.specs.declared.beginnings.Fence.{Fence}
use Rattle.tocmark_read_lines.specs.declared.beginnings.Marker.{Marker}
use Rattle.tocmark_read_lines.specs.declared.html.HtmlKind.{HtmlKind}
use Rattle.tocmark_read_lines.specs.declared.html.HtmlKind.TheVariants as html
use Rattle.tocmark_read_lines.specs.Cells.{cell_place, first_cursor}
use Rattle.tocmark_read_lines.specs.Marks.{heading_at, fence_at, tail_of, is_rule, marker_at}
use Rattle.tocmark_read_lines.specs.Html.{html_kind}
use Rattle.tocmark_commonmark.specs.Lines.{Part, Line, Written, Lazy, is_blank, indent, ink, after_ink, without_columns, cells}

-- 5.2: a marker's sort (its bullet or delimiter) and its number, how far the item's content is indented, what the marker's line
-- has of the content, and whether that is blank
pub record ItemMark : Type 0 where
  pub sort : ℕ
  pub number : Option ℕ
  pub width : ℕ
  pub first : Part
  pub is_empty : Bool

-- 5.2: one to four columns of spaces after a marker belong to it; one, if the item begins with indented code or a blank line
abbrev pub marker_spaces : Part → ℕ
marker_spaces rest = if is_blank rest.bytes || nat_le 5 (indent rest) then 1 else indent rest

-- 5.2: what a marker says of an item, if this is the rest of its line
abbrev pub item_mark_with : Part → Marker → Part → ItemMark
item_mark_with p m rest = record {
  sort = m.sort;
  number = m.number;
  width = indent p + m.length + marker_spaces rest;
  first = without_columns (marker_spaces rest) rest;
  is_empty = is_blank rest.bytes;
}

-- 5.2: the same of a line with a marker
abbrev pub item_mark : Part → Marker → ItemMark
item_mark p m = item_mark_with p m (after_ink m.length p)

-- What a line begins where no paragraph is open.
pub data Beginning : Type 0 where
  BlankLine : Beginning
  CodeLine : Beginning
  QuoteLine : Beginning
  HeadingLine : HeadingMark → Beginning
  FenceLine : Fence → Beginning
  HtmlLine : HtmlKind → Beginning
  RuleLine : Beginning
  ItemLine : ItemMark → Beginning
  TextLine : Beginning
  LazyLine : Beginning

-- 5.1, 4.2, 4.5, 4.6, 4.1, 5.2, 4.8: the first of these that a line is; a thematic break comes before an item (4.1)
abbrev pub first_of_these : Part → Bool → Option HeadingMark → Option Fence → Option HtmlKind → Bool → Option Marker → Beginning
first_of_these p true h f k r m = QuoteLine
first_of_these p false (Some h) f k r m = HeadingLine h
first_of_these p false None (Some f) k r m = FenceLine (record f { indent = indent p })
first_of_these p false None None (Some k) r m = HtmlLine k
first_of_these p false None None None true m = RuleLine
first_of_these p false None None None false (Some m) = ItemLine (item_mark p m)
first_of_these p false None None None false None = TextLine

-- 4.6: the kind of HTML block that a line begins, if it begins with `<`
abbrev pub html_if : Bool → List ℕ → Option HtmlKind
html_if false bytes = None
html_if true bytes = html_kind bytes

-- the first byte is this one
abbrev pub begins_with : ℕ → List ℕ → Bool
begins_with byte [] = false
begins_with byte (b ∷ bs) = b == byte

-- 5.1: a block quote marker is `>`; the others by the reader's definitions of their line
abbrev pub near_beginning : Part → List ℕ → List Cell → Beginning
near_beginning p bytes c =
    first_of_these p (begins_with 62 bytes) (heading_at c 0) (fence_at c (first_cursor c)) (html_if (begins_with 60 bytes) bytes) (is_rule c (tail_of c) 0) (marker_at c 0)

-- 4.4: four columns of spaces or tabs in front begin nothing but code
abbrev pub beginning_of : Part → Bool → Bool → Beginning
beginning_of p true far = BlankLine
beginning_of p false true = CodeLine
beginning_of p false false = near_beginning p (ink p) (cells (ink p))

-- what a line begins; a lazy line begins nothing (5.1)
unfoldable pub beginning : Line → Beginning
beginning (Lazy bytes) = LazyLine
beginning (Written p) = beginning_of p (is_blank p.bytes) (nat_le 4 (indent p))

-- 4.6: the seventh kind can't interrupt a paragraph
abbrev pub html_interrupts : HtmlKind → Bool
html_interrupts html.Alone = false
html_interrupts k = true

-- 5.2: a list that interrupts a paragraph starts with 1 if it is ordered
abbrev pub number_interrupts : Option ℕ → Bool
number_interrupts None = true
number_interrupts (Some n) = n == 1

-- 4.8: a line that ends the paragraph above it (a blank line ends it, too); an empty item can't (5.2)
unfoldable pub interrupts : Beginning → Bool
interrupts QuoteLine = true
interrupts (HeadingLine h) = true
interrupts (FenceLine f) = true
interrupts RuleLine = true
interrupts (HtmlLine k) = html_interrupts k
interrupts (ItemLine m) = not m.is_empty && number_interrupts m.number
interrupts b = false

-- 5.1, 5.2: paragraph continuation text, which may be lazy: a line that would begin nothing if it were not in a paragraph
unfoldable pub may_be_lazy : Beginning → Bool
may_be_lazy BlankLine = false
may_be_lazy (ItemLine m) = false
may_be_lazy b = not (interrupts b)

-- 4.2: the text of a heading, without the marks at its end
abbrev pub heading_text : HeadingMark → List ℕ → List Cell → List ℕ
heading_text h bytes c = bytes_between bytes (cell_place c h.from (length bytes)) (cell_place c h.to (length bytes))

-- Leaf blocks of several lines (CommonMark 0.31.2, chapter 4). Definitions of links are the reader's, because these state 4.7.
use Rattle.std.specs.Prelude.{ℕ, ◌+◌, ◌-◌, min, Bool, false, not, ◌&&◌, ◌||◌, nat_lt, nat_le, if◌then◌else◌, List, [], ◌∷◌, ◌++◌, length, map, take, drop, reverse, take_while, Option, Some, None}
use Rattle.tocmark_event.specs.declared.event.HeadingLevel.{HeadingLevel}
use Rattle.tocmark_read_scan.specs.Repeat.{repeated}
use Rattle.tocmark_read_lines.specs.declared.beginnings.Fence.{Fence}
use Rattle.tocmark_read_lines.specs.declared.html.HtmlKind.{HtmlKind}
use Rattle.tocmark_read_lines.specs.declared.html.HtmlKind.TheVariants as html
use Rattle.tocmark_read_lines.specs.Cells.{first_cursor}
use Rattle.tocmark_read_lines.specs.Marks.{closes_fence, underline_at}
use Rattle.tocmark_read_lines.specs.Html.{html_ends}
use Rattle.tocmark_read_page.specs.Definitions.{DefinitionView, define_once, line_count}
use Rattle.tocmark_commonmark.specs.Lines.{Line, Written, Lazy, is_blank, is_blank_line, indent, ink, line_ink, line_spelled, spelled, without_columns, without_first_blanks, without_last_blanks, with_feeds, cells}
use Rattle.tocmark_commonmark.specs.Tree.{Heading, IndentedCode, FencedCode, Html, Definitions, Paragraph, Found, ended, unended, Taken, taken}
use Rattle.tocmark_commonmark.specs.Beginnings.{Beginning, BlankLine, beginning, interrupts}

-- 4.4: a line of indented code is indented by four columns or more, or blank
abbrev pub is_code_line : Line → Bool
is_code_line (Lazy bytes) = false
is_code_line (Written p) = is_blank p.bytes || nat_le 4 (indent p)

-- lines without the blank ones at their end
abbrev pub without_blank_end : List Line → List Line
without_blank_end ls = take (length ls - length (take_while is_blank_line (reverse ls))) ls

-- 4.4, 4.5: the content of a line of code, without so many columns of indentation
abbrev pub code_line : ℕ → Line → List ℕ
code_line count (Written p) = spelled (without_columns count p)
code_line count (Lazy bytes) = bytes

-- 4.4: the content is that of the lines, without four columns of indentation each
abbrev pub indented_code_of : ℕ → List Line → Taken
indented_code_of at ls = taken (ended (IndentedCode (with_feeds (map (code_line 4) ls))) at (at + length ls - 1)) (length ls)

-- 4.4: blank lines at the end are no part of it
abbrev pub indented_code : ℕ → List Line → Taken
indented_code at ls = indented_code_of at (without_blank_end (take_while is_code_line ls))

-- 4.5: a closing fence is indented by up to three columns
abbrev pub closes : Fence → Line → Bool
closes f (Lazy bytes) = false
closes f (Written p) = nat_lt (indent p) 4 && closes_fence (cells (ink p)) (first_cursor (cells (ink p))) f

-- 4.5: the info string, without spaces or tabs around it
abbrev pub info : Fence → List ℕ → List ℕ
info f bytes = without_last_blanks (without_first_blanks (drop f.count bytes))

-- 4.5: the content is that of the lines up to a closing fence, or to the end; each is without as many columns as the opening
-- fence is indented, or as many as it has
abbrev pub fenced_code_of : ℕ → Fence → List ℕ → ℕ → List Line → Taken
fenced_code_of at f bytes after inside =
    taken (ended (FencedCode (info f bytes) (with_feeds (map (code_line f.indent) inside))) at (at + min (length inside + 1) after))
    (min (length inside + 1) after + 1)

-- 4.5: the code after an opening fence
abbrev pub fenced_code : ℕ → Fence → List ℕ → List Line → Taken
fenced_code at f bytes ls = fenced_code_of at f bytes (length ls) (take_while (λ l. not (closes f l)) ls)

-- 4.6: an HTML block ends with a line that has its end condition, or with the document; kinds 6 and 7 end before a blank line
abbrev pub html_count : HtmlKind → List Line → ℕ
html_count html.Named ls = length (take_while (λ l. not (is_blank_line l)) ls)
html_count html.Alone ls = length (take_while (λ l. not (is_blank_line l)) ls)
html_count k ls = min (length (take_while (λ l. not (html_ends k (line_ink l))) ls) + 1) (length ls)

-- 4.6: these lines, as they are
abbrev pub html_block_of : ℕ → List Line → Taken
html_block_of at ls = taken (ended (Html (with_feeds (map line_spelled ls))) at (at + length ls - 1)) (length ls)

-- 4.6: the block of this kind
abbrev pub html_block : ℕ → HtmlKind → List Line → Taken
html_block at k ls = html_block_of at (take (html_count k ls) ls)

-- 4.7: definitions, and how many lines they take
abbrev pub counted : List ℕ → List DefinitionView × ℕ → List DefinitionView × ℕ
counted content found = (found.0, line_count content (found.1))

-- 4.7: one definition after the other, as long as there is one
abbrev pub definitions_in : List ℕ → List DefinitionView × ℕ
definitions_in content = counted content (repeated (define_once content) (length content) 0 [])

-- 4.7: the same of lines
abbrev pub definitions : List (List ℕ) → List DefinitionView × ℕ
definitions texts = definitions_in (with_feeds texts)

-- lines, with a line feed between each two
abbrev pub joined : List (List ℕ) → List ℕ
joined [] = []
joined (t ∷ []) = t
joined (t ∷ u ∷ ts) = t ++ 10 ∷ joined (u ∷ ts)

-- 4.8: the raw content: the lines joined, without spaces or tabs at the beginning and the end
abbrev pub text_of : List (List ℕ) → List ℕ
text_of texts = without_last_blanks (joined texts)

-- 4.3: an underline below lines that aren't all definitions
abbrev pub underlined : List (List ℕ) → Option HeadingLevel → Option HeadingLevel
underlined texts None = None
underlined texts (Some level) = if nat_lt ((definitions texts).1) (length texts) then Some level else None

-- 4.3: the level of the heading that a line makes of those above it; an underline can't be a lazy line
abbrev pub underline : List (List ℕ) → Line → Option HeadingLevel
underline texts (Lazy bytes) = None
underline texts (Written p) = if nat_le 4 (indent p) then None else underlined texts (underline_at (cells (ink p)) 0)

-- 4.8 and 4.3: what a line is to the paragraph above it
pub data Turn : Type 0 where
  GoesOn : Turn
  Stops : Turn
  Underlines : HeadingLevel → Turn

-- 4.8, 4.3: a blank line ends a paragraph; an underline takes precedence over a thematic break and an item
abbrev pub turn_of : Beginning → Option HeadingLevel → Turn
turn_of BlankLine u = Stops
turn_of b (Some level) = Underlines level
turn_of b None = if interrupts b then Stops else GoesOn

-- 4.8, 4.3: the same of a line below these
abbrev pub turn : List (List ℕ) → Line → Turn
turn texts l = turn_of (beginning l) (underline texts l)

-- the lines of a paragraph, and the level of the heading that an underline makes of it
abbrev pub turned : (List (List ℕ) → List (List ℕ) × Option HeadingLevel) → List (List ℕ) → List ℕ → Turn → List (List ℕ) × Option HeadingLevel
turned next texts bytes Stops = (texts, None)
turned next texts bytes (Underlines level) = (texts, Some level)
turned next texts bytes GoesOn = next (texts ++ bytes ∷ [])

-- 4.8: these lines, and those after them that continue the paragraph
abbrev pub paragraph_lines : List (List ℕ) → List Line → List (List ℕ) × Option HeadingLevel
paragraph_lines texts [] = (texts, None)
paragraph_lines texts (l ∷ ls) = turned (λ ts. paragraph_lines ts ls) texts (line_ink l) (turn texts l)

-- 4.7: what is left of a paragraph after its definitions
abbrev pub paragraph_left : ℕ → List (List ℕ) → List Found
paragraph_left at [] = []
paragraph_left at (t ∷ ts) = unended (Paragraph (text_of (t ∷ ts))) at (at + length ts) ∷ []

-- 4.7: the definitions at the front, if there are some
abbrev pub definitions_found : ℕ → List DefinitionView → ℕ → List Found
definitions_found at [] count = []
definitions_found at (d ∷ ds) count = unended (Definitions (d ∷ ds)) at (at + count - 1) ∷ []

-- 4.8, 4.3: definitions, and a paragraph or a heading of what is left
abbrev pub paragraph_with : ℕ → List (List ℕ) → Option HeadingLevel → List DefinitionView × ℕ → Taken
paragraph_with at texts None d = record {
  found = definitions_found at (d.0) (d.1) ++ paragraph_left (at + d.1) (drop (d.1) texts);
  count = length texts;
}
paragraph_with at texts (Some level) d = record {
  found = definitions_found at (d.0) (d.1) ++ ended (Heading level (text_of (drop (d.1) texts))) (at + d.1) (at + length texts) ∷ [];
  count = length texts + 1;
}

-- 4.8: what lines become, with the level of an underline
abbrev pub paragraph_of : ℕ → List (List ℕ) × Option HeadingLevel → Taken
paragraph_of at p = paragraph_with at (p.0) (p.1) (definitions (p.0))

-- 4.8: the paragraph or the headings that a line begins
abbrev pub paragraph : ℕ → Line → List Line → Taken
paragraph at l ls = paragraph_of at (paragraph_lines (line_ink l ∷ []) ls)

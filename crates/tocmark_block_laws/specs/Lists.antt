-- The reader and the declaration say the same of texts of paragraphs, headings, thematic breaks and lists.
use Rattle.std.specs.Prelude.{ℕ, zero, suc, ◌+◌, ◌^◌, ◌<◌, ◌≡◌, Bool, true, false, not, ◌==◌, ◌&&◌, ◌||◌, if◌then◌else◌, nat_lt, nat_le, List, [], ◌∷◌, length, map, drop, take_while, is_some}
use Rattle.std.specs.List.{fold, list_any}
use Rattle.tocmark_commonmark.specs.Lines.{Line, Written, Lazy, is_blank, is_blank_line, indent, line_ink, without_columns, lines_of}
use Rattle.tocmark_commonmark.specs.Beginnings.{ItemMark, Beginning, BlankLine, HeadingLine, RuleLine, ItemLine, TextLine, beginning, begins_with, interrupts}
use Rattle.tocmark_commonmark.specs.Leaves.{definitions, underline}
use Rattle.tocmark_commonmark.specs.Blocks.{size}
use Rattle.tocmark_block_laws.specs.Quotes.{is_special, Agrees}

-- a line that is blank, or begins a paragraph, a heading or a thematic break
abbrev pub is_one_line : Beginning → Bool
is_one_line BlankLine = true
is_one_line (HeadingLine h) = true
is_one_line RuleLine = true
is_one_line TextLine = true
is_one_line b = false

-- a line belongs to an item whose text is indented so far: it is blank, or indented as far
abbrev pub belongs : ℕ → Line → Bool
belongs width (Written p) = is_blank p.bytes || nat_le width (indent p)
belongs width (Lazy bytes) = false

-- a line without the indentation of an item
abbrev pub inner_line : ℕ → Line → Line
inner_line width (Written p) = Written (without_columns width p)
inner_line width (Lazy bytes) = Lazy bytes

-- the lines of an item after that of its marker
abbrev pub item_rest : ItemMark → List Line → List Line
item_rest m ls = take_while (belongs m.width) ls

-- the last of lines is blank
abbrev pub ends_blank : List Line → Bool
ends_blank ls = fold (λ (was : Bool) (l : Line). is_blank_line l) false ls

abbrev pub is_text : Beginning → Bool
is_text TextLine = true
is_text b = false

-- the first of lines would begin a paragraph, or continue one
abbrev pub starts_text : List Line → Bool
starts_text [] = false
starts_text (l ∷ ls) = is_text (beginning l)

-- a line ends a paragraph above it, and is no underline
abbrev pub ends_text_as : Line → Beginning → Bool
ends_text_as l BlankLine = true
ends_text_as l b = interrupts b && not (is_some (underline ([] ∷ []) l))

-- a paragraph can be before these lines
abbrev pub ends_text : List Line → Bool
ends_text [] = true
ends_text (l ∷ ls) = ends_text_as l (beginning l)

-- a heading, a thematic break or a paragraph
abbrev pub is_short_leaf : Beginning → Bool
is_short_leaf (HeadingLine h) = true
is_short_leaf RuleLine = true
is_short_leaf TextLine = true
is_short_leaf b = false

-- a line goes on in a paragraph, and is no underline
abbrev pub continues_text : Line → Bool
continues_text l = is_text (beginning l) && not (is_some (underline ([] ∷ []) l))

-- the lines of a paragraph after its first one
abbrev pub text_rest : List Line → List Line
text_rest ls = take_while continues_text ls

-- a paragraph of this line and those defines no link; one that does begins with a bracket
abbrev pub defines_nothing : Line → List Line → Bool
defines_nothing l rest = not (begins_with 91 (line_ink l)) || (length ((definitions (line_ink l ∷ map line_ink rest)).0) == 0)

-- a line makes a heading of a paragraph above it
abbrev pub underlines_as : Line → Beginning → Bool
underlines_as l RuleLine = is_some (underline ([] ∷ []) l)
underlines_as l TextLine = is_some (underline ([] ∷ []) l)
underlines_as l b = false

-- these lines are after those of a paragraph: the first one underlines it or ends it, or no line comes
abbrev pub is_after_text : (List Line → Bool) → List Line → Bool
is_after_text nested [] = nested []
is_after_text nested (l ∷ ls) = if underlines_as l (beginning l) then nested ls else (ends_text (l ∷ ls) && nested (l ∷ ls))

-- a paragraph with these lines in it after its first one, if these are all lines after that
abbrev pub is_nested_text : (List Line → Bool) → Line → List Line → List Line → Bool
is_nested_text nested l rest ls = defines_nothing l rest && is_after_text nested (drop (length rest) ls)

-- An item with these lines in it after that of its marker, if these are all lines after that: it begins with one of these leaves.
-- No line after the item continues a paragraph in it.
abbrev pub is_nested_item : (List Line → Bool) → List Line → List Line → ItemMark → Bool
is_nested_item nested inside ls m =
    is_short_leaf (beginning (Written m.first)) && nested (Written m.first ∷ map (inner_line m.width) inside) && nested (drop (length inside) ls)
    && (ends_blank (Written m.first ∷ inside) || not (starts_text (drop (length inside) ls)))

-- a line that is blank, or begins one of these leaves or an item, if these are the lines after it
abbrev pub is_nested_line : (List Line → Bool) → Line → List Line → Beginning → Bool
is_nested_line nested l ls BlankLine = nested ls
is_nested_line nested l ls (HeadingLine h) = nested ls
is_nested_line nested l ls RuleLine = nested ls
is_nested_line nested l ls TextLine = is_nested_text nested l (text_rest ls) ls
is_nested_line nested l ls (ItemLine m) = is_nested_item nested (item_rest m ls) ls m
is_nested_line nested l ls b = false

-- each of these lines is such a line; fuel counts down
abbrev pub are_nested : ℕ → List Line → Bool
are_nested zero ls = false
are_nested (suc n) [] = true
are_nested (suc n) (l ∷ ls) = is_nested_line (λ xs. are_nested n xs) l ls (beginning l)

-- a text without tabs, of which each line is such a line
unfoldable pub has_plain_lists : List ℕ → Bool
has_plain_lists text = not (list_any is_special text) && are_nested (suc (size (lines_of text))) (lines_of text)

abbrev pub NestedListsAreDeclared : Type 0
NestedListsAreDeclared = (text : List ℕ) → length text + 3 < 2 ^ 64 → has_plain_lists text ≡ true → Agrees text

-- the columns of spaces in front of a line
abbrev pub indent_of_line : Line → ℕ
indent_of_line (Written p) = indent p
indent_of_line (Lazy bytes) = 0

-- no line comes, or a blank one
abbrev pub pauses : List Line → Bool
pauses [] = true
pauses (l ∷ ls) = is_blank_line l

-- A line after others: the text of the item above is indented so far (four columns where no list is open), and maybe no paragraph
-- is open. The line is blank, or it is no part of that item and begins a block of one line. A paragraph comes only where none is
-- open, and before a blank line.
abbrev pub is_short_line : (ℕ → Bool → Bool) → ℕ → Bool → Line → List Line → Beginning → Bool
is_short_line next width quiet l ls BlankLine = next width true
is_short_line next width quiet l ls (HeadingLine h) = nat_lt (indent_of_line l) width && next 4 true
is_short_line next width quiet l ls RuleLine = nat_lt (indent_of_line l) width && next 4 true
is_short_line next width quiet l ls (ItemLine m) = nat_lt (indent_of_line l) width && is_one_line (beginning (Written m.first)) && next m.width false
is_short_line next width quiet l ls TextLine = nat_lt (indent_of_line l) width && quiet && pauses ls && next 4 true
is_short_line next width quiet l ls b = false

-- each of these lines is such a line
abbrev pub are_short_lines : ℕ → Bool → List Line → Bool
are_short_lines width quiet [] = true
are_short_lines width quiet (l ∷ ls) = is_short_line (λ w q. are_short_lines w q ls) width quiet l ls (beginning l)

-- a text without tabs, of which each line is such a line
unfoldable pub has_one_line_blocks : List ℕ → Bool
has_one_line_blocks text = not (list_any is_special text) && are_short_lines 4 true (lines_of text)

-- of these texts the reader and the declaration say the same
abbrev pub ListsAreDeclared : Type 0
ListsAreDeclared = (text : List ℕ) → length text + 3 < 2 ^ 64 → has_one_line_blocks text ≡ true → Agrees text

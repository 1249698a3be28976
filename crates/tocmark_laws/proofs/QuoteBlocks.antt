-- The blocks of a quote of a paragraph.
use Rattle.std.proofs.Common.{◌≡◌, ℕ, zero, suc, ◌+◌, ◌-◌, ◌^◌, ◌<◌, ◌≤◌, max, Bool, true, false, ◌==◌, if◌then◌else◌, nat_lt, nat_le, List, [], ◌∷◌, ◌++◌, length, map, take, refl, ap, sym, ◌∙◌, arith, append_assoc, append-nil, length-append, Option, None, Some, ◌⊎◌, inl, inr}
use Rattle.std.proofs.Math.Seq.{take-length}
use Rattle.std.proofs.lemmas.Bool.Decides.{nat_tests}
use Rattle.std.specs.Char.{is_ascii_alphabetic, to_ascii_lowercase}
use Rattle.std.specs.List.{AllByRecursion, fold}
use Rattle.tocmark_event.specs.declared.event.BlockQuoteKind.{BlockQuoteKind}
use Rattle.tocmark_read_scan.specs.Basic.{plus, byte_at, bytes_between}
use Rattle.tocmark_read_scan.specs.declared.syntax.Syntax.{Syntax}
use Rattle.tocmark_read_scan.proofs.PlainContent.{byte_behind}
use Rattle.tocmark_read_scan.proofs.PlainPieces.{piece_between}
use Rattle.tocmark_read_scan.proofs.PlainTests.{turned}
use Rattle.tocmark_read_scan.proofs.Repeats.{repeated_more, repeated_stop}
use Rattle.tocmark_read_lines.specs.Cells.{cells_of, cell_place, first_cursor, moved}
use Rattle.tocmark_read_lines.specs.Containers.{container_at, container_in, note_or, going_on, after_quote, matched, matched_from, passed, raised, raised_at}
use Rattle.tocmark_read_tokens.specs.Footnotes.{note_label}
use Rattle.tocmark_read_scan.specs.Basic.{starts_at}
use Rattle.tocmark_read_lines.specs.DefinitionLists.{begins_definition as begins_list, definition_start}
use Rattle.tocmark_read_lines.specs.Footnotes.{note_at, note_start}
use Rattle.tocmark_read_lines.specs.declared.footnote.FootnoteStart.{FootnoteStart}
use Rattle.tocmark_read_lines.specs.declared.cell.Cursor.{Cursor}
use Rattle.tocmark_read_lines.specs.Html.{same_word, html_kind}
use Rattle.tocmark_read_lines.specs.Lines.{line, lines_from, lines_of}
use Rattle.tocmark_read_lines.specs.Marks.{tail_of}
use Rattle.tocmark_read_lines.specs.declared.cell.Cell.{Cell}
use Rattle.tocmark_read_lines.specs.declared.container.Container.TheVariants as container
use Rattle.tocmark_read_lines.specs.declared.container.ContainerStart.TheVariants as begins
use Rattle.tocmark_read_lines.specs.declared.container.Opened.{Opened}
use Rattle.tocmark_read_lines.specs.declared.line.Line.{Line}
use Rattle.tocmark_read_page.specs.Definitions.{begins_definition, definitions_from}
use Rattle.tocmark_read_page.specs.Leaves.{is_paragraph, is_table}
use Rattle.tocmark_read_page.specs.Pages.{State, first_page, leaf_opened, leaf_closed, closed_to, times, list_left, begun, loosened, had_marked, list_of, is_apart, leaf_finished, finished, piece_taken, opened_with, is_list, is_quote, left_noted, some_place, settled, shortened, one_closed, ended}
use Rattle.tocmark_read_page.specs.Pieces.{piece_of, text_piece, code_piece, is_split}
use Rattle.tocmark_read_page.specs.declared.leaf.Leaf.TheVariants as leaf
use Rattle.tocmark_read_page.specs.declared.line_start.Known.{Known}
use Rattle.tocmark_read_page.specs.declared.line_start.LineStart.{LineStart}
use Rattle.tocmark_read_page.specs.declared.page.Block.{Block}
use Rattle.tocmark_read_page.specs.declared.page.BlockKind.TheVariants as kind
use Rattle.tocmark_read_page.specs.declared.page.HeaderLine.{HeaderLine}
use Rattle.tocmark_read_page.specs.declared.page.HeaderLine.TheVariants.{Never}
use Rattle.tocmark_read_page.specs.declared.piece.Piece.{Piece}
use Rattle.tocmark_read_constructs.specs.Blanks.{trailing_blanks}
use Rattle.tocmark_read_constructs.specs.Metadata.{known_of, metadata_in, is_front}
use Rattle.tocmark_read_constructs.specs.Quotes.{quote_opened, quote_kind_in, quote_kind_of, kind_named, tag_in}
use Rattle.tocmark_read_constructs.specs.Tables.{may_delimit, delimiters_taken, header_of, is_delimiter_row}
use Rattle.tocmark_read_constructs.specs.Tasks.{task_in, box_at}
use Rattle.tocmark_read_blocks.specs.Blocks.{BlocksView, blocks_in, page_in, start_or, leaf_started_in, started_in, started_at_in, tabled_in, tabled_as, is_lazy, passed_in, turn_in, turn_of, touched, taken_at_in, turn_taken_in, cells_taken_in, line_taken_in}
use Rattle.tocmark_read_blocks.specs.Containers.{container_once_in, containers_opened_in, goes_directly, begun_at}
use Rattle.tocmark_read_blocks.specs.Leaves.{leaf_at, leaf_turn, metadata_or, task_or, quote_kind_or, tag_or}
use Rattle.tocmark_read_blocks.specs.Paragraphs.{text_taken, text_started}
use Rattle.tocmark_read_blocks.specs.declared.leaf.LeafStart.TheVariants as start
use Rattle.tocmark_read_blocks.specs.declared.leaf.Turn.TheVariants as turn
use Rattle.tocmark_read_blocks.proofs.PlainLines.{IsWithin, lines_within, cells_within, numbered}
use Rattle.tocmark_read_blocks.proofs.PlainSteps.{front}
use Rattle.tocmark_read_blocks.proofs.PlainTexts.{line_list}
use Rattle.tocmark_laws.specs.Extensions.{lined}
use Rattle.tocmark_laws.proofs.DocumentBlocks.{piece_taken_whole}
use Rattle.tocmark_laws.proofs.ExtensionBlocks.{never, here, passes}
use Rattle.tocmark_laws.proofs.ExtensionParagraphs.{free_row, free_html}
use Rattle.tocmark_laws.proofs.FrontMatterBlocks.{IsLineText, feed_ends, feed_stop, lines_split}
use Rattle.tocmark_laws.proofs.NoteBlocks.{blank_starts, blank_leaf, no_blank_row}
use Rattle.tocmark_laws.proofs.InkAtColumn.{StandsAt, at_column, stands_at, letter_opens_none, letter_begins_text, place_numbered, piece_there}
use Rattle.tocmark_laws.proofs.WordsReading.{free_letter}

-- ---- how a quote is: at the front of its text; or as it is written, after a blank line and a line with nothing
-- but a mark, where each mark has a space in front of it

-- what is in front of a line's space
abbrev pub mark_front : Bool → List ℕ
mark_front false = 62 ∷ []
mark_front true = 32 ∷ 62 ∷ []

abbrev pub line_mark : Bool → List ℕ
line_mark low = mark_front low ++ 32 ∷ []

abbrev pub width : Bool → ℕ
width low = length (line_mark low)

-- where its first line of words begins, and how many lines are before it
abbrev pub first_place : Bool → ℕ
first_place false = 0
first_place true = 5

abbrev pub lines_before : Bool → ℕ
lines_before false = 0
lines_before true = 2

-- where its first mark is
abbrev pub mark_place : Bool → ℕ
mark_place false = 0
mark_place true = 2

-- the cursor in front of a line
abbrev pub line_front : Bool → Cursor
line_front false = record { column = 0; ink = 0 }
line_front true = record { column = 0; ink = 1 }

-- ---- blocks and pages

abbrev pub quote_block : Bool → ℕ → Block
quote_block low to = record { depth = 0; kind = kind.Quote None; start = mark_place low; end = to; first = 0; last = 0; loose = false; list = None; task = None }

abbrev pub inner_block : Bool → ℕ → ℕ → Block
inner_block low to last = record { depth = 1; kind = kind.Paragraph; start = first_place low + width low; end = to; first = 0; last = last; loose = false; list = None; task = None }

abbrev pub open_quote : ℕ → ℕ → Bool → Opened
open_quote end number had = record { container = container.Quote; block = 0; end = end; line = number; had = had }

-- the page in front of the quote
abbrev pub page_before : HeaderLine → State
page_before header = record first_page { header = header }

-- a quote with nothing in it
abbrev empty_quote : Bool → HeaderLine → ℕ → ℕ → State
empty_quote low header end number = record first_page {
  blocks = quote_block low (mark_place low) ∷ [];
  opened = open_quote end number false ∷ [];
  quotes = 0 ∷ [];
  header = header;
}

-- a quote with an open paragraph
abbrev quoted : Bool → Piece → List Piece → ℕ → ℕ → HeaderLine → State
quoted low p ps end number header = record first_page {
  blocks = quote_block low (mark_place low) ∷ inner_block low (first_place low + width low) 0 ∷ [];
  pieces = p ∷ ps;
  opened = open_quote end number true ∷ [];
  quotes = 0 ∷ [];
  leaf = leaf.Paragraph;
  end = end;
  line = number;
  kept = length (p ∷ ps);
  header = header;
}

-- the blocks in the end
abbrev pub quote_blocks : Bool → ℕ → List Piece → List Block
quote_blocks low to ps = quote_block low to ∷ inner_block low to (length ps) ∷ []

abbrev pub view : State → BlocksView
view s = record { blocks = s.blocks; pieces = s.pieces; definitions = s.definitions }

settled_quote : (low : Bool) (text : List ℕ) (p : Piece) (ps : List Piece) (end number : ℕ) (header : HeaderLine) → p.start ≡ first_place low + width low → (byte_at text p.start == 91) ≡ false → settled text (quoted low p ps end number header) ≡ quoted low p ps end number header
unfolding settled definitions_from begins_definition shortened
settled_quote low text p ps end number header at h = rw (h, at) refl

quote_finished : (low : Bool) (p : Piece) (ps : List Piece) (end number : ℕ) (header : HeaderLine) → view (one_closed (leaf_finished (quoted low p ps end number header))) ≡ record { blocks = quote_blocks low end (p ∷ ps); pieces = p ∷ ps; definitions = [] }
unfolding leaf_finished finished raised_at raised one_closed ended is_quote
quote_finished low p ps end number header =
    let same : max end end ≡ end = omega arith in
    rw (take-length ps, same) refl

quote_ends : (low : Bool) (text : List ℕ) (p : Piece) (ps : List Piece) (end number : ℕ) (header : HeaderLine) → p.start ≡ first_place low + width low → (byte_at text p.start == 91) ≡ false → view (closed_to text 0 (quoted low p ps end number header)) ≡ record { blocks = quote_blocks low end (p ∷ ps); pieces = p ∷ ps; definitions = [] }
unfolding closed_to leaf_closed times one_closed leaf_finished raised_at
quote_ends low text p ps end number header at h =
    ap (λ s. view (times one_closed (length s.opened - 0) s)) (ap leaf_finished (settled_quote low text p ps end number header at h))
    ∙ quote_finished low p ps end number header

-- ---- a line of it

-- a letter, and what is after it in its line
pub record QuoteLine : Type 0 where
  pub letter : ℕ
  pub others : List ℕ

abbrev pub quoted_bytes : Bool → QuoteLine → List ℕ
quoted_bytes low q = line_mark low ++ q.letter ∷ q.others

pub record IsQuoteLine (low : Bool) (q : QuoteLine) : Type 0 where
  pub letter : is_ascii_alphabetic q.letter ≡ true
  pub within : AllByRecursion IsWithin (quoted_bytes low q)

-- no letter begins the name of a kind
lower_letter : (b : ℕ) → is_ascii_alphabetic b ≡ true → (to_ascii_lowercase b == 91) ≡ false
lower_letter b h = grind (arith, h, nat_tests)

no_kind_named : (w : List ℕ) → (w ≡ []) ⊎ ((b : ℕ) × (bs : List ℕ) × (w ≡ b ∷ bs) × (is_ascii_alphabetic b ≡ true)) → kind_named w ≡ None
unfolding kind_named same_word
no_kind_named w (inl e) = rw e refl
no_kind_named w (inr h) = let e : w ≡ h.0 ∷ h.1 = h.2 in rw (e, lower_letter (h.0) (h.3)) refl

front_of : (b : ℕ) (bs : List ℕ) (n : ℕ) → is_ascii_alphabetic b ≡ true → (bytes_between (b ∷ bs) 0 n ≡ []) ⊎ ((c : ℕ) × (cs : List ℕ) × (bytes_between (b ∷ bs) 0 n ≡ c ∷ cs) × (is_ascii_alphabetic c ≡ true))
front_of b bs zero h = inl (none (nat_le 0 (length (b ∷ bs))))
  where
    none : (t : Bool) → if◌then◌else◌ {A = List ℕ} t [] [] ≡ []
    none true = refl
    none false = refl
front_of b bs (suc n) h = by_fits (nat_le (suc n) (length (b ∷ bs))) refl
  where
    by_fits : (t : Bool) → nat_le (suc n) (length (b ∷ bs)) ≡ t → (bytes_between (b ∷ bs) 0 (suc n) ≡ []) ⊎ ((c : ℕ) × (cs : List ℕ) × (bytes_between (b ∷ bs) 0 (suc n) ≡ c ∷ cs) × (is_ascii_alphabetic c ≡ true))
    by_fits true e =
        let low : nat_le 0 (suc n) ≡ true = grind (arith, nat_tests) in
        let same : suc n - 0 ≡ suc n = omega arith in
        inr (b, take n bs, rw (low, e, same) refl, h)
    by_fits false e = inl (rw (e, never) refl)

no_kind_of : (b : ℕ) (bs : List ℕ) → is_ascii_alphabetic b ≡ true → quote_kind_of (b ∷ bs) ≡ None
unfolding quote_kind_of
no_kind_of b bs h = no_kind_named _ (front_of b bs (length (b ∷ bs) - trailing_blanks (b ∷ bs)) h)

-- ---- a line's columns

some_columns_of : (low : Bool) (from : ℕ) (xs : List ℕ) → nat_le (length (numbered from (line_mark low ++ xs))) (line_front low).ink ≡ false
some_columns_of false from xs = grind (arith, nat_tests)
some_columns_of true from xs = grind (arith, nat_tests)

front_of_line : (low : Bool) (from : ℕ) (xs : List ℕ) → first_cursor (numbered from (line_mark low ++ xs)) ≡ line_front low
unfolding first_cursor
front_of_line false from xs = refl
front_of_line true from xs = refl

quote_at : (low : Bool) (syntax : Syntax) (from : ℕ) (xs : List ℕ) → container_in syntax (numbered from (line_mark low ++ xs)) (tail_of (numbered from (line_mark low ++ xs))) (line_front low) false ≡ Some begins.Quote
unfolding container_in container_at definition_start begins_list note_start note_at note_label starts_at
quote_at false syntax from xs =
    let some : nat_le (length (numbered from (line_mark false ++ xs))) 0 ≡ false = some_columns_of false from xs in
    rw (some, never) (either _)
  where
    either : (t : Bool) → note_or (if◌then◌else◌ {A = Option FootnoteStart} t None None) (Some begins.Quote) ≡ Some begins.Quote
    either true = refl
    either false = refl
quote_at true syntax from xs =
    let some : nat_le (length (numbered from (line_mark true ++ xs))) 1 ≡ false = some_columns_of true from xs in
    rw (some, never) (either _)
  where
    either : (t : Bool) → note_or (if◌then◌else◌ {A = Option FootnoteStart} t None None) (Some begins.Quote) ≡ Some begins.Quote
    either true = refl
    either false = refl

some_width : (low : Bool) → (width low == 0) ≡ false
some_width false = refl
some_width true = refl

some_of : (low : Bool) (from : ℕ) (xs : List ℕ) → 0 < length (numbered from (line_mark low ++ xs))
some_of false from xs = omega arith
some_of true from xs = omega arith

more_of : (low : Bool) (from : ℕ) (xs : List ℕ) → 0 < length (numbered from (line_mark low ++ xs)) - 1
more_of false from xs = omega arith
more_of true from xs = omega arith

-- the text of a kind would be after the mark
code_starts : (low : Bool) (from b : ℕ) (bs : List ℕ) (l : Line) → (code_piece (numbered from (line_mark low ++ b ∷ bs)) (width low) l).start ≡ from + width low
unfolding code_piece is_split
code_starts false from b bs l =
    let other : (from + 1 == from + 1 + 1) ≡ false = grind (arith, nat_tests) in
    let one : from + 1 + 1 ≡ from + 2 = omega arith in
    rw (other, never) one
code_starts true from b bs l =
    let other : (from + 1 + 1 == from + 1 + 1 + 1) ≡ false = grind (arith, nat_tests) in
    let one : from + 1 + 1 + 1 ≡ from + 3 = omega arith in
    rw (other, never) one

-- after the mark and its space
behind_mark : (low : Bool) (from b : ℕ) (bs : List ℕ) → (b == 32) ≡ false → after_quote (numbered from (line_mark low ++ b ∷ bs)) (line_front low) ≡ at_column (width low)
unfolding after_quote moved
behind_mark false from b bs h = rw h refl
behind_mark true from b bs h = rw h refl

-- an open quote goes on
goes_on : (low : Bool) (from : ℕ) (xs : List ℕ) (o : Opened) → o.container ≡ container.Quote → matched_from (numbered from (line_mark low ++ xs)) (o ∷ []) (0 ∷ []) 0 (line_front low) (o ∷ []) ≡ (1, after_quote (numbered from (line_mark low ++ xs)) (line_front low))
unfolding passed going_on
goes_on false from xs o h =
    let some : nat_le (length (numbered from (line_mark false ++ xs))) 0 ≡ false = some_columns_of false from xs in
    rw (some, h) refl
goes_on true from xs o h =
    let some : nat_le (length (numbered from (line_mark true ++ xs))) 0 ≡ false = grind (arith, nat_tests) in
    rw (some, h) refl

module _ (low : Bool) (known : Known) (text : List ℕ) (q : QuoteLine) (h : IsQuoteLine low q) (from end next number : ℕ) where
  abbrev b : ℕ
  b = q.letter

  abbrev bs : List ℕ
  bs = q.others

  abbrev cells : List Cell
  cells = numbered from (line_mark low ++ b ∷ bs)

  abbrev l : Line
  l = record { number = number; start = from; end = end; next = next }

  abbrev place_before : LineStart
  place_before = record { cursor = line_front low; depth = 0 }

  abbrev place_behind : LineStart
  place_behind = record { cursor = at_column (width low); depth = 1 }

  abbrev p : Piece
  p = piece_of 0 (from + width low) end next

  there : StandsAt cells (width low) b
  there = stands_at from (line_mark low) b bs (small low)
    where
      small : (k : Bool) → width k < 2 ^ 64
      small false = omega arith
      small true = omega arith

  no_space : (b == 32) ≡ false
  no_space = turned is_ascii_alphabetic 32 b h.letter refl

  pub piece_here : text_piece cells (at_column (width low)) l ≡ p
  piece_here = piece_there from (mark_front low) 32 b bs l

  some_columns : nat_le (length cells) (line_front low).ink ≡ false
  some_columns = some_columns_of low from (b ∷ bs)

  none_found : (within : Bool) → container_in known.syntax cells (tail_of cells) (at_column (width low)) within ≡ None
  none_found within = letter_opens_none known.syntax cells (tail_of cells) (width low) b within there h.letter

  -- nothing begins after the mark
  pub none_begins : (s : State) → container_once_in known.syntax text cells l (tail_of cells) place_behind s ≡ (s, None)
  unfolding container_once_in
  none_begins s = ap (begun_at text cells l place_behind s) (none_found (goes_directly 1 s))

  -- where the line is in the text
  abbrev pub Stands : Type 0
  Stands = (bytes_between text from end ≡ line_mark low ++ b ∷ bs) × (bytes_between text (from + width low) end ≡ b ∷ bs) × ((byte_at text (from + width low) == 91) ≡ false) × (from + width low < next) × (from + length (line_mark low ++ b ∷ bs) < 2 ^ 64)

  pub columns : Stands → cells_of [] from (bytes_between text from end) ≡ cells
  columns w = ap (cells_of [] from) (w.0) ∙ cells_within from (line_mark low ++ b ∷ bs) h.within (w.4)

  pub order_of : Stands → nat_lt p.start next ≡ true
  order_of w = let o : from + width low < next = w.3 in grind (arith, o, nat_tests)

  place_is : cell_place cells (width low) end ≡ from + width low
  place_is = place_numbered from (line_mark low) b bs end

  -- no extension has a say after the mark
  no_kind : (s : State) → Stands → quote_kind_in known text cells l place_behind s ≡ None
  unfolding quote_kind_in
  no_kind s w =
      let none : quote_kind_of (bytes_between text (code_piece cells (width low) l).start end) ≡ None = ap (λ n. quote_kind_of (bytes_between text n end)) (code_starts low from b bs l) ∙ ap quote_kind_of (w.1) ∙ no_kind_of b bs h.letter in
      rw none (either _)
    where
      either : (t : Bool) → if◌then◌else◌ {A = Option BlockQuoteKind} t None None ≡ None
      either true = refl
      either false = refl

  no_tag : (directly : Bool) (s : State) → Stands → tag_in known text cells l place_behind directly s ≡ false
  unfolding tag_in
  no_tag directly s w =
      let none : html_kind (bytes_between text (cell_place cells (width low) end) end) ≡ None =
      ap (λ n. html_kind (bytes_between text n end)) place_is ∙ ap html_kind (w.1) ∙ free_html b bs (free_letter b h.letter).less
      in
      rw none (either _)
    where
      either : (t : Bool) → (if t then false else false) ≡ false
      either true = refl
      either false = refl

  no_box : (s : State) → Stands → task_in known text cells l place_behind s ≡ None
  unfolding task_in box_at
  no_box s w = let byte : (byte_at text (from + width low) == 91) ≡ false = w.2 in rw (place_is, byte) (either _)
    where
      either : (t : Bool) → if◌then◌else◌ {A = Option Bool} t None None ≡ None
      either true = refl
      either false = refl

  no_metadata : (directly : Bool) (s : State) → metadata_in known text cells l place_behind directly s ≡ None
  unfolding metadata_in is_front
  no_metadata directly s = simp (some_width low, never) refl

  pub text_starts : (within directly : Bool) (s : State) → Stands → start_or known text cells l place_behind directly s (leaf_at cells (bytes_between text (cell_place cells (width low) end) end) (tail_of cells) (at_column (width low)) within directly) ≡ start.Text
  unfolding quote_kind_or tag_or task_or metadata_or
  text_starts within directly s w =
      rw (no_kind s w, no_tag directly s w, no_box s w, no_metadata directly s)
      (ap (λ n. leaf_at cells (bytes_between text n end) (tail_of cells) (at_column (width low)) within directly) place_is
      ∙ ap (λ (xs : List ℕ). leaf_at cells xs (tail_of cells) (at_column (width low)) within directly) (w.1)
      ∙ letter_begins_text cells (tail_of cells) (width low) b bs within directly there h.letter)

  -- ---- the first line

  cursor_moves : after_quote cells (line_front low) ≡ at_column (width low)
  cursor_moves = behind_mark low from b bs no_space

  quote_opens : (header : HeaderLine) → cell_place cells (line_front low).ink end ≡ mark_place low → quote_opened text cells l place_before (page_before header) ≡ (empty_quote low header end number, place_behind)
  unfolding quote_opened opened_with begun loosened had_marked list_of is_apart list_left is_quote closed_to leaf_closed times
  quote_opens header k = rw (cursor_moves, k) refl

  quote_comes : (header : HeaderLine) → cell_place cells (line_front low).ink end ≡ mark_place low → containers_opened_in known.syntax text cells l (tail_of cells) place_before (page_before header) ≡ (empty_quote low header end number, place_behind)
  unfolding container_once_in goes_directly is_paragraph
  quote_comes header k =
      let once : container_once_in known.syntax text cells l (tail_of cells) place_before (page_before header) ≡ (empty_quote low header end number, Some place_behind) = ap (begun_at text cells l place_before (page_before header)) (quote_at low known.syntax from (b ∷ bs)) ∙ ap some_place (quote_opens header k) in
      let some : 0 < length cells = some_of low from (b ∷ bs) in
      let more : 0 < length cells - 1 = more_of low from (b ∷ bs) in
      repeated_more (container_once_in known.syntax text cells l (tail_of cells)) (length cells) place_before place_behind (page_before header) (empty_quote low header end number) some (sym once)
      ∙ repeated_stop (container_once_in known.syntax text cells l (tail_of cells)) (length cells - 1) place_behind (empty_quote low header end number) (empty_quote low header end number) more (sym (none_begins (empty_quote low header end number)))

  -- the paragraph without its line
  abbrev fresh : HeaderLine → State
  fresh header = record first_page {
    blocks = quote_block low (mark_place low) ∷ inner_block low (first_place low + width low) 0 ∷ [];
    opened = open_quote end number true ∷ [];
    quotes = 0 ∷ [];
    leaf = leaf.Paragraph;
    end = end;
    line = number;
    header = header;
  }

  fresh_opens : (header : HeaderLine) → from ≡ first_place low → leaf_opened leaf.Paragraph kind.Paragraph p.start l (closed_to text 1 (empty_quote low header end number)) ≡ fresh header
  unfolding leaf_opened closed_to leaf_closed times list_left is_list begun loosened had_marked list_of is_apart left_noted
  fresh_opens header e = rw e refl

  fresh_stays : (header : HeaderLine) → from ≡ first_place low → text_started p.start (fresh header) ≡ fresh header
  unfolding text_started
  fresh_stays header e = rw e refl

  text_comes : (header : HeaderLine) → from ≡ first_place low → Stands → text_taken text cells l place_behind (empty_quote low header end number) ≡ quoted low p [] end number header
  unfolding text_taken is_paragraph
  text_comes header e w =
      ap (λ (x : Piece). piece_taken x l true (text_started x.start (leaf_opened leaf.Paragraph kind.Paragraph x.start l (closed_to text 1 (empty_quote low header end number))))) piece_here
      ∙ ap (λ (s : State). piece_taken p l true (text_started p.start s)) (fresh_opens header e)
      ∙ ap (λ (s : State). piece_taken p l true s) (fresh_stays header e)
      ∙ piece_taken_whole p l (fresh header) (order_of w) refl

  first_comes : (header : HeaderLine) → cell_place cells (line_front low).ink end ≡ mark_place low → from ≡ first_place low → Stands → leaf_started_in known text cells l place_before (page_before header) ≡ quoted low p [] end number header
  unfolding leaf_started_in started_in goes_directly is_paragraph
  first_comes header k e w =
      ap (started_at_in known text cells l (tail_of cells)) (quote_comes header k)
      ∙ ap (λ x. started_in known x text cells l (tail_of cells) place_behind (empty_quote low header end number)) (text_starts false false (empty_quote low header end number) w)
      ∙ text_comes header e w

  abbrev noted_page : State → State → State
  noted_page s u = record u { header = header_of cells (line_front low) (is_lazy place_before s (leaf_started_in known text cells l place_before s)) }

  no_row_front : (header : HeaderLine) → delimiters_taken text cells l (line_front low) (goes_directly 0 (page_before header)) (page_before header) ≡ (page_before header, false)
  unfolding delimiters_taken may_delimit goes_directly is_paragraph
  no_row_front header = refl

  first_passed : (header : HeaderLine) → cell_place cells (line_front low).ink end ≡ mark_place low → from ≡ first_place low → Stands → (now : HeaderLine) × (passed_in known text cells l place_before (page_before header) ≡ quoted low p [] end number now)
  unfolding passed_in tabled_in
  first_passed header k e w = by_tables known.syntax.tables
    where
      by_tables : (t : Bool) → (now : HeaderLine) × ((if t then tabled_as known text cells l place_before (delimiters_taken text cells l (line_front low) (goes_directly 0 (page_before header)) (page_before header)) else leaf_started_in known text cells l place_before (page_before header)) ≡ quoted low p [] end number now)
      by_tables true = (header_of cells (line_front low) (is_lazy place_before (page_before header) (leaf_started_in known text cells l place_before (page_before header))), ap (tabled_as known text cells l place_before) (no_row_front header) ∙ ap (noted_page (page_before header)) (first_comes header k e w))
      by_tables false = (header, first_comes header k e w)

  first_passes : (header : HeaderLine) → turn_in known text cells l place_before (page_before header) ≡ turn.Passes
  unfolding turn_in turn_of is_table leaf_turn
  first_passes header = rw never refl

  pub first_taken : (header : HeaderLine) → cell_place cells (line_front low).ink end ≡ mark_place low → from ≡ first_place low → Stands → (now : HeaderLine) × (line_taken_in known text (page_before header) l ≡ quoted low p [] end number now)
  unfolding line_taken_in cells_taken_in touched leaf_turn is_table
  first_taken header k e w =
      let passed = first_passed header k e w in (
        passed.0,
        ap (λ c. cells_taken_in known text c l (page_before header)) (columns w)
            ∙ ap (λ c. taken_at_in known text cells l (record { cursor = c; depth = 0 }) (page_before header)) (front_of_line low from (b ∷ bs))
            ∙ ap (λ t. turn_taken_in known t text cells l place_before (page_before header)) (first_passes header)
            ∙ passed.1,
      )

  pub quote_continues : (end0 number0 : ℕ) (had : Bool) → matched cells (open_quote end0 number0 had ∷ []) (0 ∷ []) ≡ (1, at_column (width low))
  quote_continues end0 number0 had =
      ap (λ c. matched_from cells (open_quote end0 number0 had ∷ []) (0 ∷ []) 0 c (open_quote end0 number0 had ∷ [])) (front_of_line low from (b ∷ bs))
      ∙ goes_on low from (b ∷ bs) (open_quote end0 number0 had) refl
      ∙ ap (λ c. (let m : ℕ × Cursor = (1, c) in m)) cursor_moves

  -- ---- the first line in an open quote

  empty_reaches : (header : HeaderLine) (end0 number0 : ℕ) → end0 ≤ end → number0 ≤ number → touched l 1 (empty_quote low header end0 number0) ≡ empty_quote low header end number
  unfolding touched raised_at raised
  empty_reaches header end0 number0 e n =
      let far : max end0 end ≡ end = omega (arith, e) in
      let late : max number0 number ≡ number = omega (arith, n) in
      rw (far, late) refl

  empty_passes : (header : HeaderLine) → turn_in known text cells l place_behind (empty_quote low header end number) ≡ turn.Passes
  unfolding turn_in turn_of is_table leaf_turn
  empty_passes header = rw never refl

  no_row_inside : (header : HeaderLine) → delimiters_taken text cells l (at_column (width low)) (goes_directly 1 (empty_quote low header end number)) (empty_quote low header end number) ≡ (empty_quote low header end number, false)
  unfolding delimiters_taken may_delimit goes_directly is_paragraph
  no_row_inside header = refl

  words_come : (header : HeaderLine) → from ≡ first_place low → Stands → leaf_started_in known text cells l place_behind (empty_quote low header end number) ≡ quoted low p [] end number header
  unfolding leaf_started_in started_in goes_directly is_paragraph
  words_come header e w =
      let s : State = empty_quote low header end number in
      ap (started_at_in known text cells l (tail_of cells)) (repeated_stop (container_once_in known.syntax text cells l (tail_of cells)) (length cells) place_behind s s (some_of low from (b ∷ bs)) (sym (none_begins s)))
      ∙ ap (λ x. started_in known x text cells l (tail_of cells) place_behind s) (text_starts false (goes_directly 1 s) s w)
      ∙ text_comes header e w

  words_passed : (header : HeaderLine) → from ≡ first_place low → Stands → (now : HeaderLine) × (passed_in known text cells l place_behind (empty_quote low header end number) ≡ quoted low p [] end number now)
  unfolding passed_in tabled_in
  words_passed header e w = by_tables known.syntax.tables
    where
      by_tables : (t : Bool) → (now : HeaderLine) × ((if t then tabled_as known text cells l place_behind (delimiters_taken text cells l (at_column (width low)) (goes_directly 1 (empty_quote low header end number)) (empty_quote low header end number)) else leaf_started_in known text cells l place_behind (empty_quote low header end number)) ≡ quoted low p [] end number now)
      by_tables true = (header_of cells (at_column (width low)) (is_lazy place_behind (empty_quote low header end number) (leaf_started_in known text cells l place_behind (empty_quote low header end number))), ap (tabled_as known text cells l place_behind) (no_row_inside header) ∙ ap (λ (u : State). record u { header = header_of cells (at_column (width low)) (is_lazy place_behind (empty_quote low header end number) (leaf_started_in known text cells l place_behind (empty_quote low header end number))) }) (words_come header e w))
      by_tables false = (header, words_come header e w)

  pub words_taken : (header : HeaderLine) (end0 number0 : ℕ) → from ≡ first_place low → Stands → end0 ≤ end → number0 ≤ number → (now : HeaderLine) × (line_taken_in known text (empty_quote low header end0 number0) l ≡ quoted low p [] end number now)
  unfolding line_taken_in cells_taken_in
  words_taken header end0 number0 e w far late =
      let s : State = empty_quote low header end0 number0 in
      let passed = words_passed header e w in (
        passed.0,
        ap (λ c. cells_taken_in known text c l s) (columns w)
            ∙ ap (λ m. taken_at_in known text cells l (record { cursor = m.1; depth = m.0 }) (touched l (m.0) s)) (quote_continues end0 number0 false)
            ∙ ap (λ (u : State). taken_at_in known text cells l place_behind u) (empty_reaches header end0 number0 far late)
            ∙ ap (λ t. turn_taken_in known t text cells l place_behind (empty_quote low header end number)) (empty_passes header)
            ∙ passed.1,
      )

  -- ---- a further line

  module _ (p0 : Piece) (ps : List Piece) (end0 number0 : ℕ) (header : HeaderLine) where
    -- the page, in which the quote reaches to this line
    abbrev reached : State
    reached = record (quoted low p0 ps end0 number0 header) { opened = open_quote end number true ∷ [] }

    quote_reaches : end0 ≤ end → number0 ≤ number → touched l 1 (quoted low p0 ps end0 number0 header) ≡ reached
    unfolding touched raised_at raised
    quote_reaches e n =
        let far : max end0 end ≡ end = omega (arith, e) in
        let late : max number0 number ≡ number = omega (arith, n) in
        rw (far, late) refl

    no_row : Stands → delimiters_taken text cells l (at_column (width low)) (goes_directly 1 reached) reached ≡ (reached, false)
    unfolding delimiters_taken may_delimit
    no_row w =
        let none : is_delimiter_row (bytes_between text (cell_place cells (width low) end) end) ≡ false =
        ap (λ n. is_delimiter_row (bytes_between text n end)) place_is ∙ ap is_delimiter_row (w.1) ∙ free_row b bs (free_letter b h.letter)
        in
        rw (none, never) refl

    some_pieces : (n : ℕ) → nat_le (suc n) 0 ≡ false
    some_pieces n = grind (arith, nat_tests)

    goes_on_there : text_started p.start reached ≡ reached
    unfolding text_started
    goes_on_there = rw (some_pieces (length ps)) refl

    line_comes : Stands → text_taken text cells l place_behind reached ≡ quoted low p0 (ps ++ p ∷ []) end number header
    unfolding text_taken is_paragraph
    line_comes w =
        ap (λ (x : Piece). piece_taken x l true (text_started x.start reached)) piece_here
        ∙ ap (λ (s : State). piece_taken p l true s) goes_on_there
        ∙ piece_taken_whole p l reached (order_of w) refl

    next_comes : Stands → leaf_started_in known text cells l place_behind reached ≡ quoted low p0 (ps ++ p ∷ []) end number header
    unfolding leaf_started_in started_in
    next_comes w =
        ap (started_at_in known text cells l (tail_of cells)) (repeated_stop (container_once_in known.syntax text cells l (tail_of cells)) (length cells) place_behind reached reached (some_of low from (b ∷ bs)) (sym (none_begins reached)))
        ∙ ap (λ x. started_in known x text cells l (tail_of cells) place_behind reached) (text_starts (is_paragraph leaf.Paragraph) (goes_directly 1 reached) reached w)
        ∙ line_comes w

    next_passed : Stands → (now : HeaderLine) × (passed_in known text cells l place_behind reached ≡ quoted low p0 (ps ++ p ∷ []) end number now)
    unfolding passed_in tabled_in
    next_passed w = by_tables known.syntax.tables
      where
        by_tables : (t : Bool) → (now : HeaderLine) × ((if t then tabled_as known text cells l place_behind (delimiters_taken text cells l (at_column (width low)) (goes_directly 1 reached) reached) else leaf_started_in known text cells l place_behind reached) ≡ quoted low p0 (ps ++ p ∷ []) end number now)
        by_tables true = (header_of cells (at_column (width low)) (is_lazy place_behind reached (leaf_started_in known text cells l place_behind reached)), ap (tabled_as known text cells l place_behind) (no_row w) ∙ ap (λ (u : State). record u { header = header_of cells (at_column (width low)) (is_lazy place_behind reached (leaf_started_in known text cells l place_behind reached)) }) (next_comes w))
        by_tables false = (header, next_comes w)

    away : turn_in known text cells l place_behind reached ≡ turn.Passes
    unfolding turn_in turn_of is_table leaf_turn
    away = rw never refl

    pub next_taken : Stands → end0 ≤ end → number0 ≤ number → (now : HeaderLine) × (line_taken_in known text (quoted low p0 ps end0 number0 header) l ≡ quoted low p0 (ps ++ p ∷ []) end number now)
    unfolding line_taken_in cells_taken_in
    next_taken w e n =
        let s : State = quoted low p0 ps end0 number0 header in
        let passed = next_passed w in (
          passed.0,
          ap (λ c. cells_taken_in known text c l s) (columns w)
              ∙ ap (λ m. taken_at_in known text cells l (record { cursor = m.1; depth = m.0 }) (touched l (m.0) s)) (quote_continues end0 number0 true)
              ∙ ap (λ (u : State). taken_at_in known text cells l place_behind u) (quote_reaches e n)
              ∙ ap (λ t. turn_taken_in known t text cells l place_behind reached) away
              ∙ passed.1,
        )

-- ---- all lines

abbrev pub end_of : Bool → ℕ → QuoteLine → ℕ
end_of low from q = from + length (quoted_bytes low q)

abbrev pub next_place : ℕ → List QuoteLine → ℕ
next_place end [] = end
next_place end (m ∷ ms) = end + 1

abbrev pub piece_at : Bool → ℕ → QuoteLine → List QuoteLine → Piece
piece_at low from q qs = piece_of 0 (from + width low) (end_of low from q) (next_place (end_of low from q) qs)

abbrev pub quote_pieces : Bool → ℕ → QuoteLine → List QuoteLine → List Piece
quote_pieces low from q [] = piece_at low from q [] ∷ []
quote_pieces low from q (m ∷ ms) = piece_at low from q (m ∷ ms) ∷ quote_pieces low (end_of low from q + 1) m ms

abbrev pub AreQuoteLines : Bool → List QuoteLine → Type 0
AreQuoteLines low qs = AllByRecursion (IsQuoteLine low) qs

-- the bytes of lines, and a text of them
abbrev pub rows_of : Bool → List QuoteLine → List (List ℕ)
rows_of low qs = map (quoted_bytes low) qs

abbrev pub quote_rows : Bool → QuoteLine → List QuoteLine → List ℕ
quote_rows low q qs = lined (quoted_bytes low q) (rows_of low qs)

-- the lines after one
abbrev lines_past : Bool → ℕ → ℕ → List QuoteLine → List Line
lines_past low before from [] = []
lines_past low before from (m ∷ ms) = line_list before from (quoted_bytes low m) (rows_of low ms)

abbrev text_past : Bool → List QuoteLine → List ℕ
text_past low [] = []
text_past low (m ∷ ms) = 10 ∷ quote_rows low m ms

joined_past : (low : Bool) (q : QuoteLine) (ms : List QuoteLine) → quote_rows low q ms ≡ quoted_bytes low q ++ text_past low ms
joined_past low q [] = sym (append-nil (quoted_bytes low q))
joined_past low q (m ∷ ms) = refl

line_stands : (low : Bool) (known : Known) (text pre : List ℕ) (from number : ℕ) (q : QuoteLine) (ms : List QuoteLine) (h : IsQuoteLine low q) → text ≡ pre ++ quote_rows low q ms → from ≡ length pre → length text < 2 ^ 64 → Stands low known text q h from (end_of low from q) (next_place (end_of low from q) ms) number
line_stands low known text pre from number q ms h t at fits =
    let rest : List ℕ = text_past low ms in
    let words : List ℕ = q.letter ∷ q.others in
    let mark : List ℕ = line_mark low in
    let row : List ℕ = quoted_bytes low q in
    let whole : text ≡ pre ++ (row ++ rest) = t ∙ ap (λ (xs : List ℕ). pre ++ xs) (joined_past low q ms) in
    let parted : text ≡ (pre ++ mark) ++ (words ++ rest) = whole ∙ ap (λ (xs : List ℕ). pre ++ xs) (append_assoc mark words rest) ∙ sym (append_assoc pre mark (words ++ rest)) in
    let all : length text ≡ length pre + (length row + length rest) = ap length whole ∙ length-append pre (row ++ rest) ∙ ap (λ n. length pre + n) (length-append row rest) in
    let wide : length row ≡ width low + length words = length-append mark words in
    let behind : from + width low ≡ length (pre ++ mark) = ap (λ n. n + width low) at ∙ sym (length-append pre mark) in
    let byte : byte_at text (from + width low) ≡ q.letter = ap (λ (xs : List ℕ). byte_at xs (from + width low)) parted ∙ byte_behind (pre ++ mark) (q.others ++ rest) q.letter (from + width low) behind in (
      piece_between text pre row rest from (end_of low from q) whole at (ap (λ n. n + length row) at),
      piece_between text (pre ++ mark) words rest (from + width low) (end_of low from q) parted behind (omega (arith, behind, wide)),
      ap (λ x. x == 91) byte ∙ turned is_ascii_alphabetic 91 q.letter h.letter refl,
      past wide ms,
      omega (arith, all, at, fits),
    )
  where
    past : length (quoted_bytes low q) ≡ width low + length (q.letter ∷ q.others) → (ks : List QuoteLine) → from + width low < next_place (end_of low from q) ks
    past wide [] = omega (arith, wide)
    past wide (k ∷ ks) = omega (arith, wide)

more_read : (low : Bool) (known : Known) (text pre : List ℕ) (before from : ℕ) (p0 : Piece) (ps : List Piece) (end0 number0 : ℕ) (header : HeaderLine) (m : QuoteLine) (ms : List QuoteLine) → AreQuoteLines low (m ∷ ms) → text ≡ pre ++ quote_rows low m ms → from ≡ length pre → length text < 2 ^ 64 → end0 ≤ from → number0 ≤ plus before 1
    → (last : ℕ) × (now : HeaderLine) × (fold (line_taken_in known text) (quoted low p0 ps end0 number0 header) (line_list before from (quoted_bytes low m) (rows_of low ms)) ≡ quoted low p0 (ps ++ quote_pieces low from m ms) (length text) last now)
more_read low known text pre before from p0 ps end0 number0 header m [] h t at fits e n =
    let stands = line_stands low known text pre from (plus before 1) m [] (h.0) t at fits in
    let all : length text ≡ end_of low from m = ap length t ∙ length-append pre (quoted_bytes low m) ∙ ap (λ k. k + length (quoted_bytes low m)) (sym at) in
    let taken = next_taken low known text m (h.0) from (end_of low from m) (end_of low from m) (plus before 1) p0 ps end0 number0 header stands (omega (arith, e)) n in
    (plus before 1, taken.0, taken.1 ∙ ap (λ k. quoted low p0 (ps ++ piece_at low from m [] ∷ []) k (plus before 1) (taken.0)) (sym all))
more_read low known text pre before from p0 ps end0 number0 header m (k ∷ ks) h t at fits e n =
    let row : List ℕ = quoted_bytes low m in
    let end : ℕ = end_of low from m in
    let p : Piece = piece_at low from m (k ∷ ks) in
    let more : List ℕ = quote_rows low k ks in
    let stands = line_stands low known text pre from (plus before 1) m (k ∷ ks) (h.0) t at fits in
    let there : text ≡ (pre ++ (row ++ 10 ∷ [])) ++ more = t ∙ ap (λ (xs : List ℕ). pre ++ xs) (sym (append_assoc row (10 ∷ []) more)) ∙ sym (append_assoc pre (row ++ 10 ∷ []) more) in
    let longer : end + 1 ≡ length (pre ++ (row ++ 10 ∷ [])) = ap (λ k2. k2 + length row + 1) at ∙ (let q : length pre + length row + 1 ≡ length (pre ++ (row ++ 10 ∷ [])) = grind (arith, length-append) in q) in
    let taken = next_taken low known text m (h.0) from end (end + 1) (plus before 1) p0 ps end0 number0 header stands (omega (arith, e)) n in
    let rest = more_read low known text (pre ++ (row ++ 10 ∷ [])) (before + 1) (end + 1) p0 (ps ++ p ∷ []) end (plus before 1) (taken.0) k ks (h.1) there longer fits (omega arith) (omega arith) in (
      rest.0,
      rest.1,
      ap (λ (s : State). fold (line_taken_in known text) s (line_list (before + 1) (end + 1) (quoted_bytes low k) (rows_of low ks))) (taken.1)
          ∙ rest.2
          ∙ ap (λ (qs : List Piece). quoted low p0 qs (length text) (rest.0) (rest.1)) (append_assoc ps (p ∷ []) (quote_pieces low (end + 1) k ks)),
    )

-- where the first line of words is, after a front of the text
abbrev first_line : Bool → QuoteLine → List QuoteLine → Line
first_line low q ms = line (lines_before low) (first_place low) (end_of low (first_place low) q) (next_place (end_of low (first_place low) q) ms)

-- that line is taken, and the paragraph is open
abbrev IsBegun : Bool → Known → List ℕ → State → QuoteLine → List QuoteLine → Type 0
IsBegun low known text begun_page q ms = (now : HeaderLine) × (line_taken_in known text begun_page (first_line low q ms) ≡ quoted low (piece_at low (first_place low) q ms) [] (end_of low (first_place low) q) (plus (lines_before low) 1) now)

-- the lines of words are read
rows_read : (low : Bool) (known : Known) (text pre : List ℕ) (page : State) (q : QuoteLine) (ms : List QuoteLine) → IsBegun low known text page q ms → ((byte_at text (first_place low + width low) == 91) ≡ false) → AreQuoteLines low ms → text ≡ pre ++ quote_rows low q ms → first_place low ≡ length pre → length text < 2 ^ 64
    → view (closed_to text 0 (fold (line_taken_in known text) page (line_list (lines_before low) (first_place low) (quoted_bytes low q) (rows_of low ms)))) ≡ record { blocks = quote_blocks low (length text) (quote_pieces low (first_place low) q ms); pieces = quote_pieces low (first_place low) q ms; definitions = [] }
rows_read low known text pre page q [] taken other h t at fits =
    let from : ℕ = first_place low in
    let end : ℕ = end_of low from q in
    let all : end ≡ length text = ap (λ n. n + length (quoted_bytes low q)) at ∙ sym (ap length t ∙ length-append pre (quoted_bytes low q)) in
    ap (λ (s : State). view (closed_to text 0 s)) (taken.1)
    ∙ quote_ends low text (piece_at low from q []) [] end (plus (lines_before low) 1) (taken.0) refl other
    ∙ ap (λ n. (let v : BlocksView = record { blocks = quote_blocks low n (piece_at low from q [] ∷ []); pieces = piece_at low from q [] ∷ []; definitions = [] } in v)) all
rows_read low known text pre page q (m ∷ ms) taken other h t at fits =
    let from : ℕ = first_place low in
    let before : ℕ = lines_before low in
    let row : List ℕ = quoted_bytes low q in
    let end : ℕ = end_of low from q in
    let more : List ℕ = quote_rows low m ms in
    let p : Piece = piece_at low from q (m ∷ ms) in
    let there : text ≡ (pre ++ (row ++ 10 ∷ [])) ++ more = t ∙ ap (λ (xs : List ℕ). pre ++ xs) (sym (append_assoc row (10 ∷ []) more)) ∙ sym (append_assoc pre (row ++ 10 ∷ []) more) in
    let longer : end + 1 ≡ length (pre ++ (row ++ 10 ∷ [])) = ap (λ k2. k2 + length row + 1) at ∙ (let q2 : length pre + length row + 1 ≡ length (pre ++ (row ++ 10 ∷ [])) = grind (arith, length-append) in q2) in
    let rest = more_read low known text (pre ++ (row ++ 10 ∷ [])) (before + 1) (end + 1) p [] end (plus before 1) (taken.0) m ms h there longer fits (omega arith) (omega arith) in
    ap (λ (s : State). view (closed_to text 0 (fold (line_taken_in known text) s (line_list (before + 1) (end + 1) (quoted_bytes low m) (rows_of low ms))))) (taken.1)
    ∙ ap (λ (s : State). view (closed_to text 0 s)) (rest.2)
    ∙ quote_ends low text p (quote_pieces low (end + 1) m ms) (length text) (rest.0) (rest.1) refl other

lines_text : (low : Bool) (qs : List QuoteLine) → AreQuoteLines low qs → AllByRecursion IsLineText (rows_of low qs)
lines_text low [] h = tt
lines_text low (q ∷ qs) h = (record { some = some_bytes low q; within = (h.0).within }, lines_text low qs (h.1))
  where
    some_bytes : (k : Bool) (q : QuoteLine) → 0 < length (quoted_bytes k q)
    some_bytes false q = omega arith
    some_bytes true q = omega arith

-- ---- the text

-- what is in front of its first line of words
abbrev pub first_feed : Bool → List ℕ
first_feed false = []
first_feed true = 10 ∷ 32 ∷ 62 ∷ 32 ∷ 10 ∷ []

nothing_closes : (text : List ℕ) → closed_to text 0 first_page ≡ first_page
unfolding closed_to leaf_closed times leaf_finished settled definitions_from begins_definition
nothing_closes text = refl

-- a blank line changes nothing but what it may be as a header
blank_passes : (known : Known) (text : List ℕ) (l : Line) → bytes_between text l.start l.end ≡ [] → (now : HeaderLine) × (line_taken_in known text first_page l ≡ page_before now)
unfolding line_taken_in cells_taken_in touched leaf_turn is_table first_cursor passed_in tabled_in
blank_passes known text l e =
    let passed = by_tables known.syntax.tables in (
      passed.0,
      ap (λ (xs : List ℕ). cells_taken_in known text (cells_of [] l.start xs) l first_page) e
          ∙ ap (λ t. turn_taken_in known t text [] l here first_page) (passes known text [] l first_page refl refl refl)
          ∙ passed.1,
    )
  where
    comes : leaf_started_in known text [] l here first_page ≡ first_page
    comes = blank_leaf known text l first_page ∙ nothing_closes text

    by_tables : (t : Bool) → (now : HeaderLine) × ((if t then tabled_as known text [] l here (delimiters_taken text [] l front (goes_directly 0 first_page) first_page) else leaf_started_in known text [] l here first_page) ≡ page_before now)
    by_tables true = (header_of [] front (is_lazy here first_page (leaf_started_in known text [] l here first_page)), ap (tabled_as known text [] l here) (no_blank_row text l (goes_directly 0 first_page) first_page) ∙ ap (λ (u : State). record u { header = header_of [] front (is_lazy here first_page (leaf_started_in known text [] l here first_page)) }) comes)
    by_tables false = (Never, comes)

-- the line with nothing but a mark

abbrev mark_cells : List Cell
mark_cells = numbered 1 (line_mark true ++ [])

abbrev mark_line : Line
mark_line = line 1 1 4 5

abbrev mark_behind : LineStart
mark_behind = record { cursor = at_column 3; depth = 1 }

abbrev mark_before : LineStart
mark_before = record { cursor = line_front true; depth = 0 }

mark_opens : (text : List ℕ) (header : HeaderLine) → quote_opened text mark_cells mark_line mark_before (page_before header) ≡ (empty_quote true header 4 2, mark_behind)
unfolding quote_opened opened_with begun loosened had_marked list_of is_apart list_left is_quote closed_to leaf_closed times after_quote moved
mark_opens text header = refl

nothing_behind : (syntax : Syntax) (within : Bool) → container_in syntax mark_cells (tail_of mark_cells) (at_column 3) within ≡ None
unfolding container_in container_at definition_start begins_list note_start
nothing_behind syntax within = rw (never, never) refl

nothing_begins : (known : Known) (text : List ℕ) (s : State) → container_once_in known.syntax text mark_cells mark_line (tail_of mark_cells) mark_behind s ≡ (s, None)
unfolding container_once_in
nothing_begins known text s = ap (begun_at text mark_cells mark_line mark_behind s) (nothing_behind known.syntax (goes_directly 1 s))

mark_comes : (known : Known) (text : List ℕ) (header : HeaderLine) → containers_opened_in known.syntax text mark_cells mark_line (tail_of mark_cells) mark_before (page_before header) ≡ (empty_quote true header 4 2, mark_behind)
unfolding container_once_in goes_directly is_paragraph
mark_comes known text header =
    let s : State = empty_quote true header 4 2 in
    let step = container_once_in known.syntax text mark_cells mark_line (tail_of mark_cells) in
    let once : step mark_before (page_before header) ≡ (s, Some mark_behind) = ap (begun_at text mark_cells mark_line mark_before (page_before header)) (quote_at true known.syntax 1 []) ∙ ap some_place (mark_opens text header) in
    repeated_more step 3 mark_before mark_behind (page_before header) s (omega arith) (sym once)
    ∙ repeated_stop step (3 - 1) mark_behind s s (omega arith) (sym (nothing_begins known text s))

quote_stays : (text : List ℕ) (header : HeaderLine) → closed_to text 1 (empty_quote true header 4 2) ≡ empty_quote true header 4 2
unfolding closed_to leaf_closed times
quote_stays text header = refl

mark_starts : (known : Known) (text : List ℕ) (header : HeaderLine) → leaf_started_in known text mark_cells mark_line mark_before (page_before header) ≡ empty_quote true header 4 2
unfolding leaf_started_in
mark_starts known text header =
    ap (started_at_in known text mark_cells mark_line (tail_of mark_cells)) (mark_comes known text header)
    ∙ blank_starts known text mark_cells mark_line mark_behind (empty_quote true header 4 2) refl
    ∙ quote_stays text header

no_mark_row : (text : List ℕ) (header : HeaderLine) → delimiters_taken text mark_cells mark_line (line_front true) (goes_directly 0 (page_before header)) (page_before header) ≡ (page_before header, false)
unfolding delimiters_taken may_delimit goes_directly is_paragraph
no_mark_row text header = refl

mark_passes : (known : Known) (text : List ℕ) (header : HeaderLine) → turn_in known text mark_cells mark_line mark_before (page_before header) ≡ turn.Passes
unfolding turn_in turn_of is_table leaf_turn
mark_passes known text header = rw never refl

marks_within : AllByRecursion IsWithin (line_mark true ++ [])
marks_within = (mark_byte 32 refl refl refl, (mark_byte 62 refl refl refl, (mark_byte 32 refl refl refl, tt)))
  where
    mark_byte : (b : ℕ) → (b == 10) ≡ false → (b == 13) ≡ false → (b == 9) ≡ false → IsWithin b
    mark_byte b feed return tab = record { feed = feed; return = return; tab = tab }

mark_taken : (known : Known) (text : List ℕ) (header : HeaderLine) → bytes_between text 1 4 ≡ line_mark true ++ [] → (now : HeaderLine) × (line_taken_in known text (page_before header) mark_line ≡ empty_quote true now 4 2)
unfolding line_taken_in cells_taken_in touched passed_in tabled_in
mark_taken known text header e =
    let passed = by_tables known.syntax.tables in (
      passed.0,
      ap (λ (xs : List ℕ). cells_taken_in known text (cells_of [] 1 xs) mark_line (page_before header)) e
          ∙ ap (λ c. cells_taken_in known text c mark_line (page_before header)) (cells_within 1 (line_mark true ++ []) marks_within (omega arith))
          ∙ ap (λ c. taken_at_in known text mark_cells mark_line (record { cursor = c; depth = 0 }) (page_before header)) (front_of_line true 1 [])
          ∙ ap (λ t. turn_taken_in known t text mark_cells mark_line mark_before (page_before header)) (mark_passes known text header)
          ∙ passed.1,
    )
  where
    by_tables : (t : Bool) → (now : HeaderLine) × ((if t then tabled_as known text mark_cells mark_line mark_before (delimiters_taken text mark_cells mark_line (line_front true) (goes_directly 0 (page_before header)) (page_before header)) else leaf_started_in known text mark_cells mark_line mark_before (page_before header)) ≡ empty_quote true now 4 2)
    by_tables true = (header_of mark_cells (line_front true) (is_lazy mark_before (page_before header) (leaf_started_in known text mark_cells mark_line mark_before (page_before header))), ap (tabled_as known text mark_cells mark_line mark_before) (no_mark_row text header) ∙ ap (λ (u : State). record u { header = header_of mark_cells (line_front true) (is_lazy mark_before (page_before header) (leaf_started_in known text mark_cells mark_line mark_before (page_before header))) }) (mark_starts known text header))
    by_tables false = (header, mark_starts known text header)

-- the two lines in front of the words
lines_below : (text rows : List ℕ) → AllByRecursion (λ b. (b == 13) ≡ false) text → lines_from text 0 0 0 (10 ∷ 32 ∷ 62 ∷ 32 ∷ 10 ∷ rows) ≡ line 0 0 0 1 ∷ mark_line ∷ lines_from text 2 5 5 rows
lines_below text rows none =
    let blank : lines_from text 0 0 0 (10 ∷ 32 ∷ 62 ∷ 32 ∷ 10 ∷ rows) ≡ line 0 0 0 1 ∷ lines_from text 1 1 1 (32 ∷ 62 ∷ 32 ∷ 10 ∷ rows) = rw (feed_ends text 0, feed_stop text 0 0 none) refl in
    let mark : lines_from text 1 1 4 (10 ∷ rows) ≡ mark_line ∷ lines_from text 2 5 5 rows = rw (feed_ends text 4, feed_stop text 1 4 none) refl in
    blank ∙ ap (λ ls. line 0 0 0 1 ∷ ls) (lines_within text 1 1 1 (line_mark true ++ []) (10 ∷ rows) marks_within ∙ mark)

-- the blocks of such a quote
pub quote_is_read : (low : Bool) (syntax : Syntax) (q : QuoteLine) (ms : List QuoteLine) → AreQuoteLines low (q ∷ ms) → AllByRecursion (λ b. (b == 13) ≡ false) (first_feed low ++ quote_rows low q ms) → length (first_feed low ++ quote_rows low q ms) < 2 ^ 64
    → (let text : List ℕ = first_feed low ++ quote_rows low q ms in blocks_in syntax text ≡ record { blocks = quote_blocks low (length text) (quote_pieces low (first_place low) q ms); pieces = quote_pieces low (first_place low) q ms; definitions = [] })
unfolding blocks_in page_in
quote_is_read false syntax q ms h returns fits =
    let text : List ℕ = quote_rows false q ms in
    let known : Known = known_of syntax text (line_list 0 0 (quoted_bytes false q) (rows_of false ms)) in
    let end : ℕ = end_of false 0 q in
    let stands = line_stands false known text [] 0 1 q ms (h.0) refl refl fits in
    let taken = first_taken false known text q (h.0) 0 end (next_place end ms) 1 Never refl refl stands in
    ap (λ ls. view (closed_to text 0 (fold (line_taken_in (known_of syntax text ls) text) first_page ls))) (lines_split text returns 0 0 (quoted_bytes false q) (rows_of false ms) (lines_text false (q ∷ ms) h))
    ∙ rows_read false known text [] first_page q ms taken (stands.2) (h.1) refl refl fits
quote_is_read true syntax q ms h returns fits =
    let rows : List ℕ = quote_rows true q ms in
    let text : List ℕ = 10 ∷ 32 ∷ 62 ∷ 32 ∷ 10 ∷ rows in
    let lines : List Line = line 0 0 0 1 ∷ mark_line ∷ line_list 2 5 (quoted_bytes true q) (rows_of true ms) in
    let known : Known = known_of syntax text lines in
    let split : lines_of text ≡ lines = lines_below text rows returns ∙ ap (λ ls. line 0 0 0 1 ∷ mark_line ∷ ls) (lines_split text returns 2 5 (quoted_bytes true q) (rows_of true ms) (lines_text true (q ∷ ms) h)) in
    let blank = blank_passes known text (line 0 0 0 1) (piece_between text [] [] text 0 0 refl refl refl) in
    let mark = mark_taken known text (blank.0) (piece_between text (10 ∷ []) (32 ∷ 62 ∷ 32 ∷ []) (10 ∷ rows) 1 4 refl refl refl) in
    let end : ℕ = end_of true 5 q in
    let stands = line_stands true known text (10 ∷ 32 ∷ 62 ∷ 32 ∷ 10 ∷ []) 5 3 q ms (h.0) refl refl fits in
    let taken = words_taken true known text q (h.0) 5 end (next_place end ms) 3 (mark.0) 4 2 refl stands (omega arith) (omega arith) in
    ap (λ ls. view (closed_to text 0 (fold (line_taken_in (known_of syntax text ls) text) first_page ls))) split
    ∙ ap (λ (s : State). view (closed_to text 0 (fold (line_taken_in known text) (line_taken_in known text s mark_line) (line_list 2 5 (quoted_bytes true q) (rows_of true ms))))) (blank.1)
    ∙ ap (λ (s : State). view (closed_to text 0 (fold (line_taken_in known text) s (line_list 2 5 (quoted_bytes true q) (rows_of true ms))))) (mark.1)
    ∙ rows_read true known text (10 ∷ 32 ∷ 62 ∷ 32 ∷ 10 ∷ []) (empty_quote true (mark.0) 4 2) q ms taken (stands.2) (h.1) refl refl fits

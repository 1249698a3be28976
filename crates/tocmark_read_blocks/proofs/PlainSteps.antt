-- A line that begins nothing: it begins a paragraph, or goes into the one that is open.
use Rattle.std.proofs.Common.{◌≡◌, ℕ, suc, ◌-◌, ◌<◌, Bool, true, false, ◌==◌, nat_lt, nat_le, List, [], ◌∷◌, ◌++◌, length, refl, ap, sym, ◌∙◌, arith, None}
use Rattle.std.proofs.Math.Seq.{take-length}
use Rattle.tocmark_read_scan.specs.Basic.{byte_at, bytes_between}
use Rattle.tocmark_read_scan.proofs.Repeats.{repeated_stop}
use Rattle.tocmark_read_lines.specs.Cells.{cells_of, cell_byte, cell_place, first_cursor}
use Rattle.tocmark_read_blocks.specs.Blocks.{leaf_started_in, started_in, cells_taken_in, line_taken_in, leaf_started, started_at, passed_in, turn_in, turn_of, touched, cells_taken, line_taken, started}
use Rattle.tocmark_read_constructs.specs.Metadata.{metadata_in}
use Rattle.tocmark_read_blocks.specs.Leaves.{metadata_or, task_or, quote_kind_or, tag_or}
use Rattle.tocmark_read_constructs.specs.Tasks.{task_in}
use Rattle.tocmark_read_constructs.specs.Quotes.{quote_kind_in, tag_in}
use Rattle.tocmark_read_blocks.specs.Containers.{container_once_in, container_once, containers_opened, goes_directly, begun_at}
use Rattle.tocmark_read_blocks.specs.Paragraphs.{text_taken, text_started}
use Rattle.tocmark_read_page.specs.Pieces.{piece_of, is_split, whole_place, text_piece}
use Rattle.tocmark_read_lines.specs.Containers.{container_at, container_in, item_at, raised_at}
use Rattle.tocmark_read_lines.specs.DefinitionLists.{definition_start}
use Rattle.tocmark_read_lines.specs.Footnotes.{note_start}
use Rattle.std.proofs.lemmas.Bool.Decides.{nat_tests}
use Rattle.tocmark_read_page.specs.Definitions.{begins_definition, definitions_from}
use Rattle.tocmark_read_blocks.specs.Leaves.{leaf_at, mark_at, html_at, underline_in, rule_at, leaf_turn}
use Rattle.tocmark_read_page.specs.Leaves.{is_paragraph}
use Rattle.tocmark_read_lines.specs.Html.{html_kind}
use Rattle.tocmark_read_lines.specs.Marks.{is_rule, marker_at, heading_at, fence_at, underline_at, tail_of}
use Rattle.tocmark_read_page.specs.Pages.{State, first_page, leaf_opened, leaf_closed, closed_to, times, list_left, begun, loosened, had_marked, list_of, is_apart, leaf_finished, finished, settled, shortened, piece_taken, one_closed}
use Rattle.tocmark_read_page.specs.declared.line_start.LineStart.{LineStart}
use Rattle.tocmark_read_lines.specs.declared.cell.Cell.{Cell}
use Rattle.tocmark_read_lines.specs.declared.cell.Cursor.{Cursor}
use Rattle.tocmark_read_lines.specs.declared.line.Line.{Line}
use Rattle.tocmark_read_page.specs.declared.piece.Piece.{Piece}
use Rattle.tocmark_read_page.specs.declared.page.BlockKind.TheVariants as kind
use Rattle.tocmark_read_page.specs.declared.leaf.Leaf.TheVariants as leaf
use Rattle.tocmark_read_page.specs.declared.page.HeaderLine.TheVariants.{Never}
use Rattle.tocmark_read_blocks.specs.declared.leaf.LeafStart.TheVariants as start

-- the front of a line that begins with no space
abbrev pub front : Cursor
front = record { column = 0; ink = 0 }

-- a line that isn't blank, has no space in front, and begins no block
pub record BeginsNothing (bytes : List ℕ) (cells : List Cell) : Type 0 where
  pub some : nat_le (length cells) 0 ≡ false
  pub ink : first_cursor cells ≡ front
  pub quote : (cell_byte cells 0 == 62) ≡ false
  pub rule : is_rule cells (tail_of cells) 0 ≡ false
  pub marker : marker_at cells 0 ≡ None
  pub heading : heading_at cells 0 ≡ None
  pub fence : fence_at cells front ≡ None
  pub html : (byte_at bytes 0 == 60) ≡ false
  pub underline : underline_at cells 0 ≡ None

no_container : (bytes : List ℕ) (cells : List Cell) (within : Bool) → BeginsNothing bytes cells → container_at cells (tail_of cells) front within ≡ None
unfolding container_at item_at
no_container bytes cells within h = rw (h.some, h.quote, h.rule, h.marker) refl

no_html : (bytes : List ℕ) (within : Bool) → (byte_at bytes 0 == 60) ≡ false → html_at bytes within ≡ None
unfolding html_at html_kind
no_html bytes within h = rw h refl

no_underline : (cells : List Cell) (directly : Bool) → underline_at cells 0 ≡ None → underline_in cells 0 directly ≡ None
unfolding underline_in
no_underline cells true h = h
no_underline cells false h = refl

a_text : (bytes : List ℕ) (cells : List Cell) (within directly : Bool) → BeginsNothing bytes cells → leaf_at cells bytes (tail_of cells) front within directly ≡ start.Text
unfolding leaf_at mark_at rule_at
a_text bytes cells within directly h = rw (h.some, h.heading, h.fence, no_html bytes within h.html, no_underline cells directly h.underline, h.rule) refl

-- a paragraph at the top is open, with these lines
abbrev pub paragraph : List Piece → ℕ → ℕ → ℕ → State
paragraph pieces start end number = record {
  blocks = record { depth = 0; kind = kind.Paragraph; start = start; end = start; first = 0; last = 0; loose = false; list = None; task = None } ∷ [];
  pieces = pieces;
  definitions = [];
  opened = [];
  quotes = [];
  leaf = leaf.Paragraph;
  end = end;
  line = number;
  kept = length pieces;
  header = Never;
  tried = 0;
  left = None;
  filled = 0;
}

-- the columns of a line, and that nothing begins with them
pub record IsPlainLine (text : List ℕ) (cells : List Cell) (l : Line) : Type 0 where
  pub columns : cells_of [] l.start (bytes_between text l.start l.end) ≡ cells
  pub place : cell_place cells 0 l.end ≡ l.start
  pub order : nat_lt l.start l.next ≡ true
  pub begins : BeginsNothing (bytes_between text l.start l.end) cells

abbrev here : LineStart
here = record { cursor = front; depth = 0 }

opens_none : (text : List ℕ) (cells : List Cell) (l : Line) (s : State) → BeginsNothing (bytes_between text l.start l.end) cells → containers_opened text cells l (tail_of cells) here s ≡ (s, here)
unfolding container_once_in container_in definition_start note_start
opens_none text cells l s h =
    let some : 0 < length cells = grind (arith, h.some) in
    repeated_stop (container_once text cells l (tail_of cells)) (length cells) here s s some
    (sym (ap (begun_at text cells l here s) (no_container (bytes_between text l.start l.end) cells (goes_directly 0 s) h)))

starts_text : (text : List ℕ) (cells : List Cell) (l : Line) (s : State) → cell_place cells 0 l.end ≡ l.start → BeginsNothing (bytes_between text l.start l.end) cells → leaf_started text cells l here s ≡ text_taken text cells l here s
unfolding leaf_started_in started_in metadata_in metadata_or task_in task_or quote_kind_in quote_kind_or tag_in tag_or
starts_text text cells l s p h =
    ap (started_at text cells l (tail_of cells)) (opens_none text cells l s h)
    ∙ ap (λ at. started (leaf_at cells (bytes_between text at l.end) (tail_of cells) front (is_paragraph s.leaf) (goes_directly 0 s)) text cells l (tail_of cells) here s) p
    ∙ ap (λ k. started k text cells l (tail_of cells) here s) (a_text (bytes_between text l.start l.end) cells (is_paragraph s.leaf) (goes_directly 0 s) h)

-- a line's piece of a paragraph
abbrev pub line_piece : Line → Piece
line_piece l = piece_of 0 l.start l.end l.next

piece_taken_whole : (l : Line) (s : State) → nat_lt l.start l.next ≡ true → piece_taken (line_piece l) l true s ≡ record s { pieces = s.pieces ++ line_piece l ∷ []; kept = length (s.pieces ++ line_piece l ∷ []); end = l.end; line = l.number }
unfolding piece_taken
piece_taken_whole l s h = rw h refl

text_begins : (text : List ℕ) (cells : List Cell) (l : Line) → cell_place cells 0 l.end ≡ l.start → nat_lt l.start l.next ≡ true → text_taken text cells l here first_page ≡ paragraph (line_piece l ∷ []) l.start l.end l.number
unfolding text_taken text_piece whole_place is_split text_started is_paragraph leaf_opened closed_to leaf_closed times list_left begun loosened had_marked list_of is_apart
text_begins text cells l p h =
    ap (λ at. piece_taken (piece_of 0 at l.end l.next) l true (text_started at (leaf_opened leaf.Paragraph kind.Paragraph at l (closed_to text 0 first_page)))) p
    ∙ piece_taken_whole l (paragraph [] l.start l.end l.number) h

some_pieces : (n : ℕ) → nat_le (suc n) 0 ≡ false
some_pieces n = grind (arith, nat_tests)

started_before : (at : ℕ) (p0 : Piece) (pieces : List Piece) (start end number : ℕ) → text_started at (paragraph (p0 ∷ pieces) start end number) ≡ paragraph (p0 ∷ pieces) start end number
unfolding text_started
started_before at p0 pieces start end number = rw (some_pieces (length pieces)) refl

text_goes_on : (text : List ℕ) (cells : List Cell) (l : Line) (p0 : Piece) (pieces : List Piece) (start end number : ℕ) → cell_place cells 0 l.end ≡ l.start → nat_lt l.start l.next ≡ true → text_taken text cells l here (paragraph (p0 ∷ pieces) start end number) ≡ paragraph ((p0 ∷ pieces) ++ line_piece l ∷ []) start l.end l.number
unfolding text_taken text_piece whole_place is_split is_paragraph
text_goes_on text cells l p0 pieces start end number p h =
    ap (λ at. piece_taken (piece_of 0 at l.end l.next) l true (text_started at (paragraph (p0 ∷ pieces) start end number))) p
    ∙ ap (λ s. piece_taken (line_piece l) l true s) (started_before l.start p0 pieces start end number)
    ∙ piece_taken_whole l (paragraph (p0 ∷ pieces) start end number) h

-- the first line begins a paragraph
pub line_begins : (text : List ℕ) (cells : List Cell) (l : Line) → IsPlainLine text cells l → line_taken text first_page l ≡ paragraph (line_piece l ∷ []) l.start l.end l.number
unfolding line_taken_in cells_taken_in passed_in touched turn_in turn_of leaf_turn
line_begins text cells l h =
    ap (λ c. cells_taken text c l first_page) h.columns
    ∙ ap (λ c. leaf_started text cells l (record { cursor = c; depth = 0 }) first_page) (h.begins).ink
    ∙ starts_text text cells l first_page h.place h.begins
    ∙ text_begins text cells l h.place h.order

-- a further line goes into it
pub line_goes_on : (text : List ℕ) (cells : List Cell) (l : Line) (p0 : Piece) (pieces : List Piece) (start end number : ℕ) → IsPlainLine text cells l → line_taken text (paragraph (p0 ∷ pieces) start end number) l ≡ paragraph ((p0 ∷ pieces) ++ line_piece l ∷ []) start l.end l.number
unfolding line_taken_in cells_taken_in passed_in touched turn_in turn_of leaf_turn
line_goes_on text cells l p0 pieces start end number h =
    let s = paragraph (p0 ∷ pieces) start end number in
    ap (λ c. cells_taken text c l s) h.columns
    ∙ ap (λ c. leaf_started text cells l (record { cursor = c; depth = 0 }) s) (h.begins).ink
    ∙ starts_text text cells l s h.place h.begins
    ∙ text_goes_on text cells l p0 pieces start end number h.place h.order

-- what is left at the end: one paragraph with all lines
abbrev pub whole : List Piece → ℕ → ℕ → ℕ → State
whole pieces start end number = record (paragraph pieces start end number) {
  blocks = record { depth = 0; kind = kind.Paragraph; start = start; end = end; first = 0; last = length pieces; loose = false; list = None; task = None } ∷ [];
  leaf = leaf.Nothing;
}

-- no definition is at the front of a paragraph whose first byte is no bracket
settled_none : (text : List ℕ) (p : Piece) (pieces : List Piece) (end number : ℕ) → (byte_at text p.start == 91) ≡ false → settled text (paragraph (p ∷ pieces) p.start end number) ≡ paragraph (p ∷ pieces) p.start end number
unfolding settled definitions_from begins_definition shortened
settled_none text p pieces end number h = rw h refl

finished_whole : (p : Piece) (pieces : List Piece) (end number : ℕ) → leaf_finished (paragraph (p ∷ pieces) p.start end number) ≡ whole (p ∷ pieces) p.start end number
unfolding leaf_finished finished raised_at
finished_whole p pieces end number = rw (take-length pieces) refl

-- a paragraph ends with all its lines
pub paragraph_ends : (text : List ℕ) (p : Piece) (pieces : List Piece) (end number : ℕ) → (byte_at text p.start == 91) ≡ false → closed_to text 0 (paragraph (p ∷ pieces) p.start end number) ≡ whole (p ∷ pieces) p.start end number
unfolding closed_to leaf_closed times
paragraph_ends text p pieces end number h =
    ap (λ s. times one_closed (length s.opened - 0) s) (ap leaf_finished (settled_none text p pieces end number h) ∙ finished_whole p pieces end number)

-- Lines that begin nothing in any extension are a paragraph under every syntax.
use Rattle.std.proofs.Common.{◌≡◌, ℕ, suc, ◌+◌, ◌-◌, ◌^◌, ◌<◌, Bool, true, false, not, ◌==◌, ◌&&◌, if◌then◌else◌, nat_lt, nat_le, List, [], ◌∷◌, ◌++◌, length, map, refl, ap, sym, subst, ◌∙◌, arith, append_assoc, append-nil, length-append, Option, None}
use Rattle.std.proofs.Math.Seq.{take-length}
use Rattle.std.proofs.lemmas.Bool.Decides.{nat_tests}
use Rattle.std.specs.List.{AllByRecursion, fold}
use Rattle.tocmark_read_scan.specs.Basic.{plus, byte_at, bytes_between}
use Rattle.tocmark_read_scan.specs.declared.syntax.Syntax.{Syntax}
use Rattle.tocmark_read_scan.proofs.PlainContent.{byte_behind}
use Rattle.tocmark_read_scan.proofs.PlainPieces.{feed_joined, piece_between}
use Rattle.tocmark_read_scan.proofs.Repeats.{repeated_stop}
use Rattle.tocmark_read_lines.specs.Cells.{cells_of, cell_byte, cell_place}
use Rattle.tocmark_read_lines.specs.Containers.{container_at, container_in, item_at, raised_at}
use Rattle.tocmark_read_lines.specs.DefinitionLists.{begins_definition, definition_start}
use Rattle.tocmark_read_lines.specs.Html.{html_kind}
use Rattle.tocmark_read_lines.specs.Lines.{lines_of}
use Rattle.tocmark_read_lines.specs.Marks.{tail_of}
use Rattle.tocmark_read_lines.specs.Footnotes.{note_at, note_start}
use Rattle.tocmark_read_lines.specs.declared.cell.Cell.{Cell}
use Rattle.tocmark_read_lines.specs.declared.line.Line.{Line}
use Rattle.tocmark_read_lines.specs.declared.footnote.FootnoteStart.{FootnoteStart}
use Rattle.tocmark_read_page.specs.Definitions.{begins_definition as begins_link, definitions_from}
use Rattle.tocmark_read_page.specs.Leaves.{is_paragraph, is_table}
use Rattle.tocmark_read_page.specs.Pages.{State, first_page, leaf_opened, leaf_closed, closed_to, times, list_left, begun, loosened, had_marked, list_of, is_apart, leaf_finished, finished, settled, shortened, piece_taken, one_closed}
use Rattle.tocmark_read_page.specs.Pieces.{piece_of, is_split, whole_place, text_piece}
use Rattle.tocmark_read_page.specs.declared.leaf.Leaf.TheVariants as leaf
use Rattle.tocmark_read_page.specs.declared.line_start.Known.{Known}
use Rattle.tocmark_read_page.specs.declared.line_start.LineStart.{LineStart}
use Rattle.tocmark_read_page.specs.declared.page.BlockKind.TheVariants as kind
use Rattle.tocmark_read_page.specs.declared.page.HeaderLine.{HeaderLine}
use Rattle.tocmark_read_page.specs.declared.page.HeaderLine.TheVariants.{Never}
use Rattle.tocmark_read_page.specs.declared.piece.Piece.{Piece}
use Rattle.tocmark_read_constructs.specs.Metadata.{known_of, metadata_in, begins_metadata, opens_metadata, is_triple, mark_of}
use Rattle.tocmark_read_constructs.specs.Quotes.{quote_kind_in, is_new_quote, tag_in}
use Rattle.tocmark_read_constructs.specs.Tables.{header_of, is_delimiter_row, may_delimit, delimiters_taken}
use Rattle.tocmark_read_constructs.specs.Tasks.{task_in, is_new_item}
use Rattle.tocmark_read_blocks.specs.Blocks.{BlocksView, blocks_in, page_in, start_or, leaf_started_in, started_in, started_at_in, tabled_in, tabled_as, noted, passed_in, turn_in, turn_of, touched, taken_at_in, turn_taken_in, cells_taken_in, line_taken_in}
use Rattle.tocmark_read_blocks.specs.Containers.{container_once_in, containers_opened_in, goes_directly, begun_at}
use Rattle.tocmark_read_blocks.specs.Leaves.{leaf_at, mark_at, html_at, underline_in, rule_at, leaf_turn, metadata_or, task_or, quote_kind_or, tag_or}
use Rattle.tocmark_read_blocks.specs.Paragraphs.{text_taken, text_started}
use Rattle.tocmark_read_blocks.specs.declared.leaf.LeafStart.{LeafStart}
use Rattle.tocmark_read_blocks.specs.declared.leaf.LeafStart.TheVariants as start
use Rattle.tocmark_read_blocks.specs.declared.leaf.Turn.TheVariants as turn
use Rattle.tocmark_read_blocks.proofs.PlainLines.{IsWithin, cells_within, numbered}
use Rattle.tocmark_read_blocks.proofs.PlainSteps.{BeginsNothing, front, line_piece}
use Rattle.tocmark_read_blocks.proofs.PlainTexts.{IsTextLine, line_list, lines_joined}

-- a line that begins nothing, in CommonMark and in its extensions
pub record BeginsFreely (bytes : List ℕ) (cells : List Cell) : Type 0 where
  pub nothing : BeginsNothing bytes cells
  pub note : note_at cells 0 ≡ None
  pub colon : (cell_byte cells 0 == 58) ≡ false
  pub row : is_delimiter_row bytes ≡ false
  pub html : html_kind bytes ≡ None

-- the columns of a line of a text that begins nothing
pub record IsFreeLine (text : List ℕ) (cells : List Cell) (l : Line) : Type 0 where
  pub columns : cells_of [] l.start (bytes_between text l.start l.end) ≡ cells
  pub place : cell_place cells 0 l.end ≡ l.start
  pub order : nat_lt l.start l.next ≡ true
  pub begins : BeginsFreely (bytes_between text l.start l.end) cells
  pub dash : (byte_at text l.start == 45) ≡ false
  pub cross : (byte_at text l.start == 43) ≡ false

pub never : (a : Bool) → (a && false) ≡ false
never true = refl
never false = refl

abbrev pub here : LineStart
here = record { cursor = front; depth = 0 }

-- ---- what begins

pub no_definition : (syntax : Syntax) (cells : List Cell) → (cell_byte cells 0 == 58) ≡ false → definition_start syntax cells front ≡ None
unfolding definition_start begins_definition
no_definition syntax cells h = rw (h, never, never) refl

pub no_note : (syntax : Syntax) (cells : List Cell) → note_at cells 0 ≡ None → note_start syntax cells front ≡ None
unfolding note_start
no_note syntax cells h = rw h (by_test (syntax.footnotes && (not (nat_le (length cells) 0) && true)))
  where
    by_test : (k : Bool) → if◌then◌else◌ {A = Option FootnoteStart} k None None ≡ None
    by_test true = refl
    by_test false = refl

no_container_at : (bytes : List ℕ) (cells : List Cell) (within : Bool) → BeginsNothing bytes cells → container_at cells (tail_of cells) front within ≡ None
unfolding container_at item_at
no_container_at bytes cells within h = rw (h.some, h.quote, h.rule, h.marker) refl

no_container : (syntax : Syntax) (bytes : List ℕ) (cells : List Cell) (within : Bool) → BeginsFreely bytes cells → container_in syntax cells (tail_of cells) front within ≡ None
unfolding container_in
no_container syntax bytes cells within h = rw (no_definition syntax cells h.colon, no_note syntax cells h.note, no_container_at bytes cells within h.nothing) refl

opens_none : (syntax : Syntax) (text : List ℕ) (cells : List Cell) (l : Line) (s : State) → BeginsFreely (bytes_between text l.start l.end) cells → containers_opened_in syntax text cells l (tail_of cells) here s ≡ (s, here)
unfolding container_once_in
opens_none syntax text cells l s h =
    let some : 0 < length cells = grind (arith, h.nothing.some) in
    repeated_stop (container_once_in syntax text cells l (tail_of cells)) (length cells) here s s some
    (sym (ap (begun_at text cells l here s) (no_container syntax (bytes_between text l.start l.end) cells (goes_directly 0 s) h)))

no_html : (bytes : List ℕ) (within : Bool) → html_kind bytes ≡ None → html_at bytes within ≡ None
unfolding html_at
no_html bytes within h = rw h refl

no_underline : (cells : List Cell) (directly : Bool) → BeginsNothing [] cells → underline_in cells 0 directly ≡ None
unfolding underline_in
no_underline cells true h = h.underline
no_underline cells false h = refl

-- the same of the columns alone
columns_alone : (bytes : List ℕ) (cells : List Cell) → BeginsNothing bytes cells → BeginsNothing [] cells
columns_alone bytes cells h = record { some = h.some; ink = h.ink; quote = h.quote; rule = h.rule; marker = h.marker; heading = h.heading; fence = h.fence; html = refl; underline = h.underline }

a_text : (bytes : List ℕ) (cells : List Cell) (within directly : Bool) → BeginsFreely bytes cells → leaf_at cells bytes (tail_of cells) front within directly ≡ start.Text
unfolding leaf_at mark_at rule_at
a_text bytes cells within directly h =
    let n = h.nothing in
    rw (n.some, n.heading, n.fence, no_html bytes within h.html, no_underline cells directly (columns_alone bytes cells n), n.rule) refl

pub no_kind : (known : Known) (text : List ℕ) (cells : List Cell) (l : Line) (s : State) → s.opened ≡ [] → quote_kind_in known text cells l here s ≡ None
unfolding quote_kind_in is_new_quote
no_kind known text cells l s top = rw (top, never, never) refl

no_tag : (known : Known) (text : List ℕ) (cells : List Cell) (l : Line) (directly : Bool) (s : State) → IsFreeLine text cells l → tag_in known text cells l here directly s ≡ false
unfolding tag_in
no_tag known text cells l directly s h =
    let none : html_kind (bytes_between text (cell_place cells 0 l.end) l.end) ≡ None = ap (λ at. html_kind (bytes_between text at l.end)) h.place ∙ h.begins.html in
    rw none (by_test _)
  where
    by_test : (k : Bool) → (if k then false else false) ≡ false
    by_test true = refl
    by_test false = refl

pub no_task : (known : Known) (text : List ℕ) (cells : List Cell) (l : Line) (s : State) → s.opened ≡ [] → task_in known text cells l here s ≡ None
unfolding task_in is_new_item
no_task known text cells l s top = rw (top, never, never) refl

no_metadata : (known : Known) (text : List ℕ) (cells : List Cell) (l : Line) (directly : Bool) (s : State) → IsFreeLine text cells l → metadata_in known text cells l here directly s ≡ None
unfolding metadata_in begins_metadata opens_metadata is_triple mark_of
no_metadata known text cells l directly s h = simp (h.dash, h.cross, never) refl

no_extension : (known : Known) (text : List ℕ) (cells : List Cell) (l : Line) (directly : Bool) (s : State) (core : LeafStart) → IsFreeLine text cells l → s.opened ≡ [] → start_or known text cells l here directly s core ≡ core
unfolding quote_kind_or tag_or task_or metadata_or
no_extension known text cells l directly s core h top =
    rw (no_kind known text cells l s top, no_tag known text cells l directly s h, no_task known text cells l s top, no_metadata known text cells l directly s h) refl

starts_text : (known : Known) (text : List ℕ) (cells : List Cell) (l : Line) (s : State) → IsFreeLine text cells l → s.opened ≡ [] → leaf_started_in known text cells l here s ≡ text_taken text cells l here s
unfolding leaf_started_in started_in
starts_text known text cells l s h top =
    let leaf_from : ℕ → LeafStart = λ at. leaf_at cells (bytes_between text at l.end) (tail_of cells) front (is_paragraph s.leaf) (goes_directly 0 s) in
    ap (started_at_in known text cells l (tail_of cells)) (opens_none known.syntax text cells l s h.begins)
    ∙ ap (λ k. started_in known k text cells l (tail_of cells) here s) (no_extension known text cells l (goes_directly 0 s) s (leaf_from (cell_place cells 0 l.end)) h top)
    ∙ ap (λ at. started_in known (leaf_from at) text cells l (tail_of cells) here s) h.place
    ∙ ap (λ k. started_in known k text cells l (tail_of cells) here s) (a_text (bytes_between text l.start l.end) cells (is_paragraph s.leaf) (goes_directly 0 s) h.begins)

no_row : (text : List ℕ) (cells : List Cell) (l : Line) (directly : Bool) (s : State) → IsFreeLine text cells l → delimiters_taken text cells l front directly s ≡ (s, false)
unfolding delimiters_taken may_delimit
no_row text cells l directly s h =
    let none : is_delimiter_row (bytes_between text (cell_place cells 0 l.end) l.end) ≡ false = ap (λ at. is_delimiter_row (bytes_between text at l.end)) h.place ∙ h.begins.row in
    rw (none, never) refl

pub passes : (known : Known) (text : List ℕ) (cells : List Cell) (l : Line) (s : State) → is_table s.leaf ≡ false → s.opened ≡ [] → leaf_turn text cells l front s.leaf ≡ turn.Passes → turn_in known text cells l here s ≡ turn.Passes
unfolding turn_in turn_of
passes known text cells l s t top p = rw (t, never, top, p) refl

-- ---- an open paragraph

-- a paragraph at the top is open, with these lines; what its last line may be as a header of a table
abbrev pub paragraph : HeaderLine → List Piece → ℕ → ℕ → ℕ → State
paragraph header pieces start end number = record {
  blocks = record { depth = 0; kind = kind.Paragraph; start = start; end = start; first = 0; last = 0; loose = false; list = None; task = None } ∷ [];
  pieces = pieces;
  definitions = [];
  opened = [];
  quotes = [];
  leaf = leaf.Paragraph;
  end = end;
  line = number;
  kept = length pieces;
  header = header;
  tried = 0;
  left = None;
  filled = 0;
}

piece_taken_whole : (l : Line) (s : State) → nat_lt l.start l.next ≡ true → piece_taken (line_piece l) l true s ≡ record s { pieces = s.pieces ++ line_piece l ∷ []; kept = length (s.pieces ++ line_piece l ∷ []); end = l.end; line = l.number }
unfolding piece_taken
piece_taken_whole l s h = rw h refl

text_begins : (text : List ℕ) (cells : List Cell) (l : Line) → cell_place cells 0 l.end ≡ l.start → nat_lt l.start l.next ≡ true → text_taken text cells l here first_page ≡ paragraph Never (line_piece l ∷ []) l.start l.end l.number
unfolding text_taken text_piece whole_place is_split text_started is_paragraph leaf_opened closed_to leaf_closed times list_left begun loosened had_marked list_of is_apart
text_begins text cells l p h =
    ap (λ at. piece_taken (piece_of 0 at l.end l.next) l true (text_started at (leaf_opened leaf.Paragraph kind.Paragraph at l (closed_to text 0 first_page)))) p
    ∙ piece_taken_whole l (paragraph Never [] l.start l.end l.number) h

some_pieces : (n : ℕ) → nat_le (suc n) 0 ≡ false
some_pieces n = grind (arith, nat_tests)

started_before : (header : HeaderLine) (at : ℕ) (p0 : Piece) (pieces : List Piece) (start end number : ℕ) → text_started at (paragraph header (p0 ∷ pieces) start end number) ≡ paragraph header (p0 ∷ pieces) start end number
unfolding text_started
started_before header at p0 pieces start end number = rw (some_pieces (length pieces)) refl

text_goes_on : (header : HeaderLine) (text : List ℕ) (cells : List Cell) (l : Line) (p0 : Piece) (pieces : List Piece) (start end number : ℕ) → cell_place cells 0 l.end ≡ l.start → nat_lt l.start l.next ≡ true → text_taken text cells l here (paragraph header (p0 ∷ pieces) start end number) ≡ paragraph header ((p0 ∷ pieces) ++ line_piece l ∷ []) start l.end l.number
unfolding text_taken text_piece whole_place is_split is_paragraph
text_goes_on header text cells l p0 pieces start end number p h =
    ap (λ at. piece_taken (piece_of 0 at l.end l.next) l true (text_started at (paragraph header (p0 ∷ pieces) start end number))) p
    ∙ ap (λ s. piece_taken (line_piece l) l true s) (started_before header l.start p0 pieces start end number)
    ∙ piece_taken_whole l (paragraph header (p0 ∷ pieces) start end number) h

-- what a line of a paragraph may be as a header
abbrev pub header_behind : Bool → List Cell → HeaderLine → HeaderLine
header_behind tables cells header = if tables then header_of cells front false else header

first_passed : (known : Known) (text : List ℕ) (cells : List Cell) (l : Line) → IsFreeLine text cells l → passed_in known text cells l here first_page ≡ paragraph (header_behind known.syntax.tables cells Never) (line_piece l ∷ []) l.start l.end l.number
unfolding passed_in tabled_in
first_passed known text cells l h = by_tables known.syntax.tables
  where
    begins : leaf_started_in known text cells l here first_page ≡ paragraph Never (line_piece l ∷ []) l.start l.end l.number
    begins = starts_text known text cells l first_page h refl ∙ text_begins text cells l h.place h.order

    by_tables : (t : Bool) → (if t then tabled_as known text cells l here (delimiters_taken text cells l front (goes_directly 0 first_page) first_page) else leaf_started_in known text cells l here first_page) ≡ paragraph (header_behind t cells Never) (line_piece l ∷ []) l.start l.end l.number
    by_tables true = ap (tabled_as known text cells l here) (no_row text cells l (goes_directly 0 first_page) first_page h) ∙ ap (noted cells here first_page) begins
    by_tables false = begins

next_passed : (known : Known) (header : HeaderLine) (text : List ℕ) (cells : List Cell) (l : Line) (p0 : Piece) (pieces : List Piece) (start end number : ℕ) → IsFreeLine text cells l → passed_in known text cells l here (paragraph header (p0 ∷ pieces) start end number) ≡ paragraph (header_behind known.syntax.tables cells header) ((p0 ∷ pieces) ++ line_piece l ∷ []) start l.end l.number
unfolding passed_in tabled_in
next_passed known header text cells l p0 pieces start end number h = by_tables known.syntax.tables
  where
    s : State
    s = paragraph header (p0 ∷ pieces) start end number

    goes_on : leaf_started_in known text cells l here s ≡ paragraph header ((p0 ∷ pieces) ++ line_piece l ∷ []) start l.end l.number
    goes_on = starts_text known text cells l s h refl ∙ text_goes_on header text cells l p0 pieces start end number h.place h.order

    by_tables : (t : Bool) → (if t then tabled_as known text cells l here (delimiters_taken text cells l front (goes_directly 0 s) s) else leaf_started_in known text cells l here s) ≡ paragraph (header_behind t cells header) ((p0 ∷ pieces) ++ line_piece l ∷ []) start l.end l.number
    by_tables true = ap (tabled_as known text cells l here) (no_row text cells l (goes_directly 0 s) s h) ∙ ap (noted cells here s) goes_on
    by_tables false = goes_on

-- the first line begins a paragraph
pub line_begins : (known : Known) (text : List ℕ) (cells : List Cell) (l : Line) → IsFreeLine text cells l → line_taken_in known text first_page l ≡ paragraph (header_behind known.syntax.tables cells Never) (line_piece l ∷ []) l.start l.end l.number
unfolding line_taken_in cells_taken_in touched leaf_turn is_table
line_begins known text cells l h =
    ap (λ c. cells_taken_in known text c l first_page) h.columns
    ∙ ap (λ c. taken_at_in known text cells l (record { cursor = c; depth = 0 }) first_page) h.begins.nothing.ink
    ∙ ap (λ t. turn_taken_in known t text cells l here first_page) (passes known text cells l first_page refl refl refl)
    ∙ first_passed known text cells l h

-- a further line goes into it
line_goes_on : (known : Known) (header : HeaderLine) (text : List ℕ) (cells : List Cell) (l : Line) (p0 : Piece) (pieces : List Piece) (start end number : ℕ) → IsFreeLine text cells l → line_taken_in known text (paragraph header (p0 ∷ pieces) start end number) l ≡ paragraph (header_behind known.syntax.tables cells header) ((p0 ∷ pieces) ++ line_piece l ∷ []) start l.end l.number
unfolding line_taken_in cells_taken_in touched leaf_turn is_table
line_goes_on known header text cells l p0 pieces start end number h =
    let s : State = paragraph header (p0 ∷ pieces) start end number in
    ap (λ c. cells_taken_in known text c l s) h.columns
    ∙ ap (λ c. taken_at_in known text cells l (record { cursor = c; depth = 0 }) s) h.begins.nothing.ink
    ∙ ap (λ t. turn_taken_in known t text cells l here s) (passes known text cells l s refl refl refl)
    ∙ next_passed known header text cells l p0 pieces start end number h

-- ---- the whole paragraph

-- each line begins nothing
abbrev pub AreFree : List ℕ → List Line → Type 0
AreFree text ls = AllByRecursion (λ l. (cells : List Cell) × IsFreeLine text cells l) ls

-- where the last line ends, and its number
abbrev pub last_end : ℕ → List Line → ℕ
last_end end [] = end
last_end end (l ∷ ls) = last_end l.end ls

abbrev last_number : ℕ → List Line → ℕ
last_number number [] = number
last_number number (l ∷ ls) = last_number l.number ls

more_lines : (known : Known) (header : HeaderLine) (text : List ℕ) (p0 : Piece) (pieces : List Piece) (start end number : ℕ) (ls : List Line) → AreFree text ls → (last : HeaderLine) × (fold (line_taken_in known text) (paragraph header (p0 ∷ pieces) start end number) ls ≡ paragraph last ((p0 ∷ pieces) ++ map line_piece ls) start (last_end end ls) (last_number number ls))
more_lines known header text p0 pieces start end number [] h = (header, ap (λ ps. paragraph header (p0 ∷ ps) start end number) (sym (append-nil pieces)))
more_lines known header text p0 pieces start end number (l ∷ ls) h =
    let next : HeaderLine = header_behind known.syntax.tables (h.0.0) header in
    let more = more_lines known next text p0 (pieces ++ line_piece l ∷ []) start l.end l.number ls (h.1) in (
      more.0,
      ap (λ s. fold (line_taken_in known text) s ls) (line_goes_on known header text (h.0.0) l p0 pieces start end number (h.0.1))
          ∙ more.1
          ∙ ap (λ ps. paragraph (more.0) (p0 ∷ ps) start (last_end l.end ls) (last_number l.number ls)) (append_assoc pieces (line_piece l ∷ []) (map line_piece ls)),
    )

-- what is left at the end: one paragraph with all lines
abbrev pub whole : HeaderLine → List Piece → ℕ → ℕ → ℕ → State
whole header pieces start end number = record (paragraph header pieces start end number) {
  blocks = record { depth = 0; kind = kind.Paragraph; start = start; end = end; first = 0; last = length pieces; loose = false; list = None; task = None } ∷ [];
  leaf = leaf.Nothing;
}

pub settled_none : (header : HeaderLine) (text : List ℕ) (p : Piece) (pieces : List Piece) (end number : ℕ) → (byte_at text p.start == 91) ≡ false → settled text (paragraph header (p ∷ pieces) p.start end number) ≡ paragraph header (p ∷ pieces) p.start end number
unfolding settled definitions_from begins_link shortened
settled_none header text p pieces end number h = rw h refl

pub finished_whole : (header : HeaderLine) (p : Piece) (pieces : List Piece) (end number : ℕ) → leaf_finished (paragraph header (p ∷ pieces) p.start end number) ≡ whole header (p ∷ pieces) p.start end number
unfolding leaf_finished finished raised_at
finished_whole header p pieces end number = rw (take-length pieces) refl

pub paragraph_ends : (header : HeaderLine) (text : List ℕ) (p : Piece) (pieces : List Piece) (end number : ℕ) → (byte_at text p.start == 91) ≡ false → closed_to text 0 (paragraph header (p ∷ pieces) p.start end number) ≡ whole header (p ∷ pieces) p.start end number
unfolding closed_to leaf_closed times
paragraph_ends header text p pieces end number h =
    ap (λ s. times one_closed (length s.opened - 0) s) (ap leaf_finished (settled_none header text p pieces end number h) ∙ finished_whole header p pieces end number)

-- one paragraph with these pieces
abbrev pub one_block : ℕ → ℕ → List Piece → BlocksView
one_block start end pieces = record {
  blocks = record { depth = 0; kind = kind.Paragraph; start = start; end = end; first = 0; last = length pieces; loose = false; list = None; task = None } ∷ [];
  pieces = pieces;
  definitions = [];
}

-- the blocks of such lines: one paragraph with a piece for each line
pub free_blocks : (syntax : Syntax) (text : List ℕ) (l : Line) (ls : List Line) → lines_of text ≡ l ∷ ls → AreFree text (l ∷ ls) → (byte_at text l.start == 91) ≡ false → blocks_in syntax text ≡ one_block l.start (last_end l.end ls) (map line_piece (l ∷ ls))
unfolding blocks_in page_in
free_blocks syntax text l ls e h k =
    let known : Known = known_of syntax text (l ∷ ls) in
    let view : State → BlocksView = λ s. record { blocks = s.blocks; pieces = s.pieces; definitions = s.definitions } in
    let header : HeaderLine = header_behind known.syntax.tables (h.0.0) Never in
    let more = more_lines known header text (line_piece l) [] l.start l.end l.number ls (h.1) in
    ap (λ lines. view (closed_to text 0 (fold (line_taken_in (known_of syntax text lines) text) first_page lines))) e
    ∙ ap (λ s. view (closed_to text 0 (fold (line_taken_in known text) s ls))) (line_begins known text (h.0.0) l (h.0.1))
    ∙ ap (λ s. view (closed_to text 0 s)) (more.1)
    ∙ ap view (paragraph_ends (more.0) text (line_piece l) (map line_piece ls) (last_end l.end ls) (last_number l.number ls) k)

-- ---- lines of bytes

-- a line that begins nothing, wherever it is
pub record IsFreeText (l : List ℕ) : Type 0 where
  pub within : AllByRecursion IsWithin l
  pub begins : (at : ℕ) → BeginsFreely l (numbered at l)
  pub first : ℕ
  pub rest : List ℕ
  pub shape : l ≡ first ∷ rest
  pub dash : (first == 45) ≡ false
  pub cross : (first == 43) ≡ false

pub some_bytes : (l : List ℕ) → IsFreeText l → 0 < length l
some_bytes l h = let e : length l ≡ suc (length h.rest) = ap length h.shape in omega (arith, e)

pub text_lines : (ls : List (List ℕ)) → AllByRecursion IsFreeText ls → AllByRecursion IsTextLine ls
text_lines [] h = tt
text_lines (l ∷ ls) h = (record { some = some_bytes l (h.0); within = (h.0).within; begins = λ at. ((h.0).begins at).nothing }, text_lines ls (h.1))

first_place_of : (l : List ℕ) (start end : ℕ) → 0 < length l → cell_place (numbered start l) 0 end ≡ start
first_place_of [] start end h = absurd (omega arith)
first_place_of (b ∷ bs) start end h = refl

first_byte : (text pre l rest : List ℕ) (start : ℕ) (h : IsFreeText l) → text ≡ pre ++ (l ++ rest) → start ≡ length pre → byte_at text start ≡ h.first
first_byte text pre l rest start h e at =
    ap (λ (xs : List ℕ). byte_at xs start) (e ∙ ap (λ (xs : List ℕ). pre ++ (xs ++ rest)) h.shape)
    ∙ byte_behind pre (h.rest ++ rest) h.first start at

pub line_free : (text pre l rest : List ℕ) (start end next number : ℕ) → text ≡ pre ++ (l ++ rest) → start ≡ length pre → end ≡ start + length l → IsFreeText l → end < 2 ^ 64 → start < next → IsFreeLine text (numbered start l) (record { number = number; start = start; end = end; next = next })
line_free text pre l rest start end next number e at to h fits order =
    let stands : bytes_between text start end ≡ l = piece_between text pre l rest start end e at (to ∙ ap (λ n. n + length l) at) in
    let byte : byte_at text start ≡ h.first = first_byte text pre l rest start h e at in
    record {
      columns = ap (cells_of [] start) stands ∙ cells_within start l h.within (omega (arith, to, fits));
      place = first_place_of l start end (some_bytes l h);
      order = grind (arith, nat_tests);
      begins = subst (λ (xs : List ℕ). BeginsFreely xs (numbered start l)) (sym stands) (h.begins start);
      dash = ap (λ b. b == 45) byte ∙ h.dash;
      cross = ap (λ b. b == 43) byte ∙ h.cross;
    }

lines_free : (text pre : List ℕ) (before start : ℕ) (l : List ℕ) (ms : List (List ℕ)) → text ≡ pre ++ feed_joined l ms → start ≡ length pre → AllByRecursion IsFreeText (l ∷ ms) → length text < 2 ^ 64 → AreFree text (line_list before start l ms)
lines_free text pre before start l [] e at h fits =
    let stands : text ≡ pre ++ (l ++ []) = e ∙ ap (λ (xs : List ℕ). pre ++ xs) (sym (append-nil l)) in
    let all : length text ≡ start + length l = ap length e ∙ length-append pre l ∙ ap (λ n. n + length l) (sym at) in
    let long : 0 < length l = some_bytes l (h.0) in
    ((numbered start l, line_free text pre l [] start (start + length l) (start + length l) (plus before 1) stands at refl (h.0) (let q : start + length l < 2 ^ 64 = omega (arith, all, fits) in q) (omega arith)), tt)
lines_free text pre before start l (m ∷ ms) e at h fits =
    let more : List ℕ = feed_joined m ms in
    let next : ℕ = start + length l + 1 in
    let all : length text ≡ start + (length l + suc (length more)) = ap length e ∙ length-append pre (l ++ 10 ∷ more) ∙ ap (λ n. length pre + n) (length-append l (10 ∷ more)) ∙ ap (λ n. n + (length l + suc (length more))) (sym at) in
    let there : text ≡ (pre ++ (l ++ 10 ∷ [])) ++ more = e ∙ ap (λ (xs : List ℕ). pre ++ xs) (sym (append_assoc l (10 ∷ []) more)) ∙ sym (append_assoc pre (l ++ 10 ∷ []) more) in
    let longer : next ≡ length (pre ++ (l ++ 10 ∷ [])) = ap (λ n. n + length l + 1) at ∙ (let q : length pre + length l + 1 ≡ length (pre ++ (l ++ 10 ∷ [])) = grind (arith, length-append) in q) in (
      (numbered start l, line_free text pre l (10 ∷ more) start (start + length l) next (plus before 1) e at refl (h.0) (let q : start + length l < 2 ^ 64 = omega (arith, all, fits) in q) (omega arith)),
      lines_free text (pre ++ (l ++ 10 ∷ [])) (before + 1) next m ms there longer (h.1) fits,
    )

lines_end : (before start end : ℕ) (l : List ℕ) (ms : List (List ℕ)) → last_end end (line_list before start l ms) ≡ start + length (feed_joined l ms)
lines_end before start end l [] = refl
lines_end before start end l (m ∷ ms) =
    let width : length (l ++ 10 ∷ feed_joined m ms) ≡ length l + suc (length (feed_joined m ms)) = length-append l (10 ∷ feed_joined m ms) in
    lines_end (before + 1) (start + length l + 1) (start + length l) m ms ∙ omega (arith, width)

-- the blocks of a text of such lines
pub text_blocks : (syntax : Syntax) (l : List ℕ) (ms : List (List ℕ)) → AllByRecursion IsFreeText (l ∷ ms) → AllByRecursion (λ b. (b == 13) ≡ false) (feed_joined l ms) → length (feed_joined l ms) < 2 ^ 64 → (byte_at (feed_joined l ms) 0 == 91) ≡ false → blocks_in syntax (feed_joined l ms) ≡ one_block 0 (length (feed_joined l ms)) (map line_piece (line_list 0 0 l ms))
text_blocks syntax l [] h returns fits k =
    free_blocks syntax l _ [] (lines_joined l returns 0 0 l [] (text_lines (l ∷ []) h)) (lines_free l [] 0 0 l [] refl refl h fits) k
    ∙ ap (λ n. one_block 0 n (map line_piece (line_list 0 0 l []))) (let q : 0 + length l ≡ length l = omega arith in q)
text_blocks syntax l (m ∷ ms) h returns fits k =
    let text : List ℕ = feed_joined l (m ∷ ms) in
    let next : ℕ = 0 + length l + 1 in
    free_blocks syntax text _ (line_list 1 next m ms) (lines_joined text returns 0 0 l (m ∷ ms) (text_lines (l ∷ m ∷ ms) h)) (lines_free text [] 0 0 l (m ∷ ms) refl refl h fits) k
    ∙ ap (λ n. one_block 0 n (map line_piece (line_list 0 0 l (m ∷ ms)))) (lines_end 0 0 0 l (m ∷ ms) ∙ (let q : 0 + length text ≡ length text = omega arith in q))

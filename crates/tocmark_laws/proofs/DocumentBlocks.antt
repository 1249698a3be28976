-- A page at the top of which blocks have ended, and what a line makes of it.
use Rattle.std.proofs.Common.{◌≡◌, ℕ, ◌+◌, ◌-◌, ◌^◌, ◌<◌, Bool, true, false, ◌==◌, nat_lt, nat_le, List, [], ◌∷◌, ◌++◌, length, slice_get, refl, ap, sym, ◌∙◌, arith, length-append, Some, None}
use Rattle.std.proofs.Math.Seq.{take-length}
use Rattle.std.specs.Prelude.{slice_set}
use Rattle.tocmark_read_scan.specs.Basic.{plus, byte_at, bytes_between}
use Rattle.tocmark_read_scan.proofs.PlainContent.{get_behind}
use Rattle.tocmark_read_scan.proofs.PlainPieces.{drop_behind}
use Rattle.tocmark_read_scan.proofs.Repeats.{repeated_stop, repeated_zero}
use Rattle.tocmark_read_lines.specs.Cells.{cells_of, cell_byte, cell_place, first_cursor}
use Rattle.tocmark_read_blocks.specs.Blocks.{leaf_started_in, started_in, cells_taken_in, line_taken_in, leaf_started, started_at, passed_in, turn_in, turn_of, touched, cells_taken, line_taken, started}
use Rattle.tocmark_read_constructs.specs.Metadata.{metadata_in}
use Rattle.tocmark_read_blocks.specs.Leaves.{metadata_or, task_or, quote_kind_or, tag_or}
use Rattle.tocmark_read_constructs.specs.Tasks.{task_in}
use Rattle.tocmark_read_constructs.specs.Quotes.{quote_kind_in, tag_in}
use Rattle.tocmark_read_blocks.specs.Containers.{container_once_in, container_once, containers_opened, goes_directly, begun_at}
use Rattle.tocmark_read_blocks.specs.Paragraphs.{text_taken, text_started, rule_started}
use Rattle.tocmark_read_constructs.specs.Headings.{heading_put, heading_started_in}
use Rattle.tocmark_read_page.specs.Pieces.{piece_of, is_split, whole_place, text_piece, heading_piece}
use Rattle.tocmark_event.specs.declared.event.HeadingLevel.{HeadingLevel}
use Rattle.tocmark_read_lines.specs.declared.beginnings.Heading.{Heading}
use Rattle.tocmark_read_lines.specs.Containers.{container_at, container_in, item_at, raised_at}
use Rattle.tocmark_read_lines.specs.DefinitionLists.{definition_start}
use Rattle.tocmark_read_lines.specs.Footnotes.{note_start}
use Rattle.std.proofs.lemmas.Bool.Decides.{nat_tests}
use Rattle.tocmark_read_page.specs.Definitions.{begins_definition, definitions_from}
use Rattle.tocmark_read_blocks.specs.Leaves.{leaf_at, mark_at, html_at, underline_in, rule_at, leaf_turn}
use Rattle.tocmark_read_page.specs.Leaves.{is_paragraph}
use Rattle.tocmark_read_lines.specs.Html.{html_kind}
use Rattle.tocmark_read_lines.specs.Marks.{is_rule, is_rule_byte, is_behind, marker_at, heading_at, fence_at, is_fence_byte, underline_at, tail_of}
use Rattle.tocmark_read_page.specs.Pages.{State, leaf_opened, leaf_closed, closed_to, times, list_left, begun, loosened, had_marked, list_of, is_apart, leaf_finished, finished, settled, shortened, piece_taken, one_closed}
use Rattle.tocmark_read_page.specs.declared.line_start.LineStart.{LineStart}
use Rattle.tocmark_read_page.specs.declared.page.Block.{Block}
use Rattle.tocmark_read_page.specs.declared.page.BlockKind.{BlockKind}
use Rattle.tocmark_read_page.specs.declared.page.BlockKind.TheVariants as kind
use Rattle.tocmark_read_lines.specs.declared.cell.Cell.{Cell}
use Rattle.tocmark_read_lines.specs.declared.line.Line.{Line}
use Rattle.tocmark_read_page.specs.declared.piece.Piece.{Piece}
use Rattle.tocmark_read_page.specs.declared.leaf.Leaf.TheVariants as leaf
use Rattle.tocmark_read_page.specs.declared.page.HeaderLine.TheVariants.{Never}
use Rattle.tocmark_read_blocks.specs.declared.leaf.LeafStart.TheVariants as start
use Rattle.tocmark_read_blocks.proofs.PlainLines.{IsWithin, numbered, cells_within}
use Rattle.tocmark_read_blocks.proofs.PlainSteps.{IsPlainLine, BeginsNothing, front, line_piece}

abbrev pub here : LineStart
here = record { cursor = front; depth = 0 }

no_container : (bytes : List ℕ) (cells : List Cell) (within : Bool) → BeginsNothing bytes cells → container_at cells (tail_of cells) front within ≡ None
unfolding container_at item_at
no_container bytes cells within h = rw (h.some, h.quote, h.rule, h.marker) refl

no_html : (bytes : List ℕ) (within : Bool) → (byte_at bytes 0 == 60) ≡ false → html_at bytes within ≡ None
unfolding html_at html_kind
no_html bytes within h = rw h refl

no_underline : (cells : List Cell) (directly : Bool) → underline_at cells 0 ≡ None → underline_in cells 0 directly ≡ None
unfolding underline_in
no_underline cells true h = h
no_underline cells false h = refl

a_text : (bytes : List ℕ) (cells : List Cell) (within directly : Bool) → BeginsNothing bytes cells → leaf_at cells bytes (tail_of cells) front within directly ≡ start.Text
unfolding leaf_at mark_at rule_at
a_text bytes cells within directly h = rw (h.some, h.heading, h.fence, no_html bytes within h.html, no_underline cells directly h.underline, h.rule) refl

opens_none : (text : List ℕ) (cells : List Cell) (l : Line) (s : State) → BeginsNothing (bytes_between text l.start l.end) cells → containers_opened text cells l (tail_of cells) here s ≡ (s, here)
unfolding container_once_in container_in definition_start note_start
opens_none text cells l s h =
    let some : 0 < length cells = grind (arith, h.some) in
    repeated_stop (container_once text cells l (tail_of cells)) (length cells) here s s some
    (sym (ap (begun_at text cells l here s) (no_container (bytes_between text l.start l.end) cells (goes_directly 0 s) h)))

pub starts_text : (text : List ℕ) (cells : List Cell) (l : Line) (s : State) → cell_place cells 0 l.end ≡ l.start → BeginsNothing (bytes_between text l.start l.end) cells → leaf_started text cells l here s ≡ text_taken text cells l here s
unfolding leaf_started_in started_in metadata_in metadata_or task_in task_or quote_kind_in quote_kind_or tag_in tag_or
starts_text text cells l s p h =
    ap (started_at text cells l (tail_of cells)) (opens_none text cells l s h)
    ∙ ap (λ at. started (leaf_at cells (bytes_between text at l.end) (tail_of cells) front (is_paragraph s.leaf) (goes_directly 0 s)) text cells l (tail_of cells) here s) p
    ∙ ap (λ k. started k text cells l (tail_of cells) here s) (a_text (bytes_between text l.start l.end) cells (is_paragraph s.leaf) (goes_directly 0 s) h)

pub piece_taken_whole : (p : Piece) (l : Line) (s : State) → nat_lt p.start p.next ≡ true → p.spaces ≡ 0 → piece_taken p l true s ≡ record s { pieces = s.pieces ++ p ∷ []; kept = length (s.pieces ++ p ∷ []); end = l.end; line = l.number }
unfolding piece_taken
piece_taken_whole p l s h k = rw (k, h) refl

-- a block at the top
abbrev pub block : BlockKind → ℕ → ℕ → ℕ → ℕ → Block
block k start end first last = record { depth = 0; kind = k; start = start; end = end; first = first; last = last; loose = false; list = None; task = None }

-- a page on which all blocks have ended
abbrev pub closed : List Block → List Piece → ℕ → ℕ → State
closed bs ps end number = record {
  blocks = bs;
  pieces = ps;
  definitions = [];
  opened = [];
  quotes = [];
  leaf = leaf.Nothing;
  end = end;
  line = number;
  kept = length ps;
  header = Never;
  tried = 0;
  left = None;
  filled = 0;
}

-- a page on which a paragraph began that has no line yet
abbrev fresh : List Block → List Piece → ℕ → ℕ → ℕ → State
fresh bs ps start end number = record {
  blocks = bs ++ block kind.Paragraph start start (length ps) (length ps) ∷ [];
  pieces = ps;
  definitions = [];
  opened = [];
  quotes = [];
  leaf = leaf.Paragraph;
  end = end;
  line = number;
  kept = length ps;
  header = Never;
  tried = 0;
  left = None;
  filled = 0;
}

-- a page with an open paragraph of one line
abbrev pub open_page : List Block → List Piece → Piece → ℕ → ℕ → ℕ → State
open_page bs ps p start end number = record {
  blocks = bs ++ block kind.Paragraph start start (length ps) (length ps) ∷ [];
  pieces = ps ++ p ∷ [];
  definitions = [];
  opened = [];
  quotes = [];
  leaf = leaf.Paragraph;
  end = end;
  line = number;
  kept = length (ps ++ p ∷ []);
  header = Never;
  tried = 0;
  left = None;
  filled = 0;
}

pub last_place : {A : Type 0} (xs : List A) (x : A) → length (xs ++ x ∷ []) - 1 ≡ length xs
last_place xs x = grind (arith, length-append)

pub get_last : {A : Type 0} (xs : List A) (x : A) → slice_get (xs ++ x ∷ []) (length (xs ++ x ∷ []) - 1) ≡ Some x
get_last xs x = ap (slice_get (xs ++ x ∷ [])) (last_place xs x) ∙ get_behind xs [] x

set_behind : {A : Type 0} (xs : List A) (x y : A) → slice_set (xs ++ x ∷ []) (length xs) y ≡ xs ++ y ∷ []
set_behind [] x y = refl
set_behind (z ∷ xs) x y = ap (λ l. z ∷ l) (set_behind xs x y)

pub set_last : {A : Type 0} (xs : List A) (x y : A) → slice_set (xs ++ x ∷ []) (length (xs ++ x ∷ []) - 1) y ≡ xs ++ y ∷ []
set_last xs x y = ap (λ n. slice_set (xs ++ x ∷ []) n y) (last_place xs x) ∙ set_behind xs x y

started_fresh : (bs : List Block) (ps : List Piece) (start end number : ℕ) → text_started start (fresh bs ps start end number) ≡ fresh bs ps start end number
unfolding text_started
started_fresh bs ps start end number =
    let b : Block = block kind.Paragraph start start (length ps) (length ps) in
    let same : nat_le (length ps) (length ps) ≡ true = grind (arith, nat_tests) in
    rw (get_last bs b, same, set_last bs b b) refl

text_begins : (text : List ℕ) (cells : List Cell) (l : Line) (bs : List Block) (ps : List Piece) (end number : ℕ) → cell_place cells 0 l.end ≡ l.start → nat_lt l.start l.next ≡ true → text_taken text cells l here (closed bs ps end number) ≡ open_page bs ps (line_piece l) l.start l.end l.number
unfolding text_taken text_piece whole_place is_split is_paragraph leaf_opened closed_to leaf_closed times list_left begun loosened had_marked list_of is_apart
text_begins text cells l bs ps end number p h =
    ap (λ at. piece_taken (piece_of 0 at l.end l.next) l true (text_started at (leaf_opened leaf.Paragraph kind.Paragraph at l (closed_to text 0 (closed bs ps end number))))) p
    ∙ ap (λ s. piece_taken (line_piece l) l true s) (started_fresh bs ps l.start l.end l.number)
    ∙ piece_taken_whole (line_piece l) l (fresh bs ps l.start l.end l.number) h refl

-- a line that begins nothing begins a paragraph
pub line_begins : (text : List ℕ) (cells : List Cell) (l : Line) (bs : List Block) (ps : List Piece) (end number : ℕ) → IsPlainLine text cells l → line_taken text (closed bs ps end number) l ≡ open_page bs ps (line_piece l) l.start l.end l.number
unfolding line_taken_in cells_taken_in passed_in touched turn_in turn_of leaf_turn
line_begins text cells l bs ps end number h =
    let s : State = closed bs ps end number in
    ap (λ c. cells_taken text c l s) h.columns
    ∙ ap (λ c. leaf_started text cells l (record { cursor = c; depth = 0 }) s) (h.begins).ink
    ∙ starts_text text cells l s h.place h.begins
    ∙ text_begins text cells l bs ps end number h.place h.order

settled_none : (text : List ℕ) (bs : List Block) (ps : List Piece) (p : Piece) (end number : ℕ) → (byte_at text p.start == 91) ≡ false → length ps < 2 ^ 64 → settled text (open_page bs ps p p.start end number) ≡ open_page bs ps p p.start end number
unfolding settled definitions_from begins_definition shortened
settled_none text bs ps p end number h fits =
    let b : Block = block kind.Paragraph p.start p.start (length ps) (length ps) in
    let first : plus (length ps) 0 ≡ length ps = omega (arith, fits) in
    rw (get_last bs b, drop_behind ps (p ∷ []), h, first, get_behind ps [] p, set_last bs b b) refl

finished_whole : (bs : List Block) (ps : List Piece) (p : Piece) (end number : ℕ) → leaf_finished (open_page bs ps p p.start end number) ≡ closed (bs ++ block kind.Paragraph p.start end (length ps) (length (ps ++ p ∷ [])) ∷ []) (ps ++ p ∷ []) end number
unfolding leaf_finished finished raised_at
finished_whole bs ps p end number =
    let b : Block = block kind.Paragraph p.start p.start (length ps) (length ps) in
    rw (take-length (ps ++ p ∷ []), get_last bs b, set_last bs b (block kind.Paragraph p.start end (length ps) (length (ps ++ p ∷ [])))) refl

-- the open paragraph ends
pub paragraph_ends : (text : List ℕ) (bs : List Block) (ps : List Piece) (p : Piece) (end number : ℕ) → (byte_at text p.start == 91) ≡ false → length ps < 2 ^ 64 → closed_to text 0 (open_page bs ps p p.start end number) ≡ closed (bs ++ block kind.Paragraph p.start end (length ps) (length (ps ++ p ∷ [])) ∷ []) (ps ++ p ∷ []) end number
unfolding closed_to leaf_closed times
paragraph_ends text bs ps p end number h fits =
    ap (λ s. times one_closed (length s.opened - 0) s) (ap leaf_finished (settled_none text bs ps p end number h fits) ∙ finished_whole bs ps p end number)

-- nothing is open, so nothing ends
pub nothing_ends : (text : List ℕ) (bs : List Block) (ps : List Piece) (end number : ℕ) → closed_to text 0 (closed bs ps end number) ≡ closed bs ps end number
unfolding closed_to leaf_closed times
nothing_ends text bs ps end number = refl

pub blank_started : (text : List ℕ) (l : Line) (s : State) → leaf_started text [] l here s ≡ closed_to text 0 s
unfolding leaf_started_in started_in metadata_in metadata_or task_in task_or quote_kind_in quote_kind_or tag_in tag_or leaf_at
blank_started text l s =
    ap (started_at text [] l (tail_of [])) (repeated_zero (container_once text [] l (tail_of [])) 0 here s refl)

-- a blank line ends the open paragraph
pub blank_ends : (text : List ℕ) (l : Line) (bs : List Block) (ps : List Piece) (p : Piece) (end number : ℕ) → bytes_between text l.start l.end ≡ [] → (byte_at text p.start == 91) ≡ false → length ps < 2 ^ 64 → line_taken text (open_page bs ps p p.start end number) l ≡ closed (bs ++ block kind.Paragraph p.start end (length ps) (length (ps ++ p ∷ [])) ∷ []) (ps ++ p ∷ []) end number
unfolding line_taken_in cells_taken_in passed_in touched turn_in turn_of leaf_turn first_cursor
blank_ends text l bs ps p end number e h fits =
    let s : State = open_page bs ps p p.start end number in
    ap (λ xs. cells_taken text (cells_of [] l.start xs) l s) e
    ∙ blank_started text l s
    ∙ paragraph_ends text bs ps p end number h fits

-- a blank line changes nothing else
pub blank_passes : (text : List ℕ) (l : Line) (bs : List Block) (ps : List Piece) (end number : ℕ) → bytes_between text l.start l.end ≡ [] → line_taken text (closed bs ps end number) l ≡ closed bs ps end number
unfolding line_taken_in cells_taken_in passed_in touched turn_in turn_of leaf_turn first_cursor
blank_passes text l bs ps end number e =
    let s : State = closed bs ps end number in
    ap (λ xs. cells_taken text (cells_of [] l.start xs) l s) e
    ∙ blank_started text l s
    ∙ nothing_ends text bs ps end number

-- the columns of a line that is a heading, whose text is between two places
pub record IsHeadingLine (text : List ℕ) (cells : List Cell) (l : Line) (h : Heading) (from to : ℕ) : Type 0 where
  pub columns : cells_of [] l.start (bytes_between text l.start l.end) ≡ cells
  pub place : cell_place cells 0 l.end ≡ l.start
  pub some : nat_le (length cells) 0 ≡ false
  pub ink : first_cursor cells ≡ front
  pub quote : (cell_byte cells 0 == 62) ≡ false
  pub rule : is_rule cells (tail_of cells) 0 ≡ false
  pub marker : marker_at cells 0 ≡ None
  pub heading : heading_at cells 0 ≡ Some h
  pub from_place : cell_place cells h.from l.end ≡ from
  pub to_place : cell_place cells h.to l.end ≡ to
  pub order : nat_lt from to ≡ true

heading_no_container : (text : List ℕ) (cells : List Cell) (l : Line) (h : Heading) (from to : ℕ) (within : Bool) → IsHeadingLine text cells l h from to → container_at cells (tail_of cells) front within ≡ None
unfolding container_at item_at
heading_no_container text cells l h from to within k = rw (k.some, k.quote, k.rule, k.marker) refl

heading_opens_none : (text : List ℕ) (cells : List Cell) (l : Line) (h : Heading) (from to : ℕ) (s : State) → IsHeadingLine text cells l h from to → containers_opened text cells l (tail_of cells) here s ≡ (s, here)
unfolding container_once_in container_in definition_start note_start
heading_opens_none text cells l h from to s k =
    let some : 0 < length cells = grind (arith, k.some) in
    repeated_stop (container_once text cells l (tail_of cells)) (length cells) here s s some
    (sym (ap (begun_at text cells l here s) (heading_no_container text cells l h from to (goes_directly 0 s) k)))

a_heading : (text : List ℕ) (cells : List Cell) (l : Line) (h : Heading) (from to : ℕ) (bytes : List ℕ) (within directly : Bool) → IsHeadingLine text cells l h from to → leaf_at cells bytes (tail_of cells) front within directly ≡ start.Heading h
unfolding leaf_at mark_at
a_heading text cells l h from to bytes within directly k = rw (k.some, k.heading) refl

starts_heading : (text : List ℕ) (cells : List Cell) (l : Line) (h : Heading) (from to : ℕ) (s : State) → IsHeadingLine text cells l h from to → leaf_started text cells l here s ≡ heading_put text cells l here None h s
unfolding leaf_started_in started_in metadata_in metadata_or task_in task_or quote_kind_in quote_kind_or tag_in tag_or heading_started_in
starts_heading text cells l h from to s k =
    ap (started_at text cells l (tail_of cells)) (heading_opens_none text cells l h from to s k)
    ∙ ap (λ x. started x text cells l (tail_of cells) here s) (a_heading text cells l h from to (bytes_between text (cell_place cells 0 l.end) l.end) (is_paragraph s.leaf) (goes_directly 0 s) k)

-- a page with a heading that has its piece, before it is finished
abbrev headed : List Block → List Piece → Piece → HeadingLevel → ℕ → ℕ → ℕ → State
headed bs ps p level start end number = record {
  blocks = bs ++ block (kind.Heading level None) start start (length ps) (length ps) ∷ [];
  pieces = ps ++ p ∷ [];
  definitions = [];
  opened = [];
  quotes = [];
  leaf = leaf.Nothing;
  end = end;
  line = number;
  kept = length (ps ++ p ∷ []);
  header = Never;
  tried = 0;
  left = None;
  filled = 0;
}

abbrev unheaded : List Block → List Piece → HeadingLevel → ℕ → ℕ → ℕ → State
unheaded bs ps level start end number = record {
  blocks = bs ++ block (kind.Heading level None) start start (length ps) (length ps) ∷ [];
  pieces = ps;
  definitions = [];
  opened = [];
  quotes = [];
  leaf = leaf.Nothing;
  end = end;
  line = number;
  kept = length ps;
  header = Never;
  tried = 0;
  left = None;
  filled = 0;
}

heading_finished : (bs : List Block) (ps : List Piece) (p : Piece) (level : HeadingLevel) (start end number : ℕ) → leaf_finished (headed bs ps p level start end number) ≡ closed (bs ++ block (kind.Heading level None) start end (length ps) (length (ps ++ p ∷ [])) ∷ []) (ps ++ p ∷ []) end number
unfolding leaf_finished finished raised_at
heading_finished bs ps p level start end number =
    let b : Block = block (kind.Heading level None) start start (length ps) (length ps) in
    rw (take-length (ps ++ p ∷ []), get_last bs b, set_last bs b (block (kind.Heading level None) start end (length ps) (length (ps ++ p ∷ [])))) refl

heading_comes : (text : List ℕ) (cells : List Cell) (l : Line) (h : Heading) (from to : ℕ) (bs : List Block) (ps : List Piece) (end number : ℕ) → IsHeadingLine text cells l h from to → heading_put text cells l here None h (closed bs ps end number) ≡ closed (bs ++ block (kind.Heading h.level None) l.start l.end (length ps) (length (ps ++ piece_of 0 from to to ∷ [])) ∷ []) (ps ++ piece_of 0 from to to ∷ []) l.end l.number
unfolding heading_put heading_piece leaf_opened closed_to leaf_closed times list_left begun loosened had_marked list_of is_apart
heading_comes text cells l h from to bs ps end number k =
    let after : Piece → ℕ → State = λ p at. leaf_finished (piece_taken p l true (unheaded bs ps h.level at l.end l.number)) in
    ap (λ at. after (piece_of 0 (cell_place cells h.from l.end) (cell_place cells h.to l.end) (cell_place cells h.to l.end)) at) k.place
    ∙ ap (λ a. after (piece_of 0 a (cell_place cells h.to l.end) (cell_place cells h.to l.end)) l.start) k.from_place
    ∙ ap (λ b. after (piece_of 0 from b b) l.start) k.to_place
    ∙ ap leaf_finished (piece_taken_whole (piece_of 0 from to to) l (unheaded bs ps h.level l.start l.end l.number) k.order refl)
    ∙ heading_finished bs ps (piece_of 0 from to to) h.level l.start l.end l.number

-- a heading on one line begins and ends
pub line_heads : (text : List ℕ) (cells : List Cell) (l : Line) (h : Heading) (from to : ℕ) (bs : List Block) (ps : List Piece) (end number : ℕ) → IsHeadingLine text cells l h from to → line_taken text (closed bs ps end number) l ≡ closed (bs ++ block (kind.Heading h.level None) l.start l.end (length ps) (length (ps ++ piece_of 0 from to to ∷ [])) ∷ []) (ps ++ piece_of 0 from to to ∷ []) l.end l.number
unfolding line_taken_in cells_taken_in passed_in touched turn_in turn_of leaf_turn
line_heads text cells l h from to bs ps end number k =
    let s : State = closed bs ps end number in
    ap (λ c. cells_taken text c l s) k.columns
    ∙ ap (λ c. leaf_started text cells l (record { cursor = c; depth = 0 }) s) k.ink
    ∙ starts_heading text cells l h from to s k
    ∙ heading_comes text cells l h from to bs ps end number k

-- a thematic break

-- three hyphens
abbrev pub hyphens : List ℕ
hyphens = 45 ∷ 45 ∷ 45 ∷ []

within_hyphen : IsWithin 45
within_hyphen = record { feed = refl; return = refl; tab = refl }

front_hyphens : (at : ℕ) → first_cursor (numbered at hyphens) ≡ front
unfolding first_cursor
front_hyphens at = refl

rule_no_container : (at : ℕ) (within : Bool) → container_at (numbered at hyphens) (tail_of (numbered at hyphens)) front within ≡ None
unfolding container_at is_rule is_rule_byte tail_of
rule_no_container at within = refl

rule_opens_none : (text : List ℕ) (at : ℕ) (l : Line) (s : State) → containers_opened text (numbered at hyphens) l (tail_of (numbered at hyphens)) here s ≡ (s, here)
unfolding container_once_in container_in definition_start note_start
rule_opens_none text at l s =
    let cells : List Cell = numbered at hyphens in
    repeated_stop (container_once text cells l (tail_of cells)) (length cells) here s s (omega arith)
    (sym (ap (begun_at text cells l here s) (rule_no_container at (goes_directly 0 s))))

a_rule : (at : ℕ) (bytes : List ℕ) (within : Bool) → (byte_at bytes 0 == 60) ≡ false → leaf_at (numbered at hyphens) bytes (tail_of (numbered at hyphens)) front within false ≡ start.Rule
unfolding leaf_at mark_at rule_at heading_at is_behind fence_at is_fence_byte underline_in is_rule is_rule_byte tail_of
a_rule at bytes within h = rw (no_html bytes within h) refl

starts_rule : (text : List ℕ) (at : ℕ) (l : Line) (bs : List Block) (ps : List Piece) (end number : ℕ) → (byte_at (bytes_between text at l.end) 0 == 60) ≡ false → leaf_started text (numbered at hyphens) l here (closed bs ps end number) ≡ rule_started text (numbered at hyphens) l here (closed bs ps end number)
unfolding leaf_started_in started_in metadata_in metadata_or task_in task_or quote_kind_in quote_kind_or tag_in tag_or goes_directly is_paragraph
starts_rule text at l bs ps end number h =
    let cells : List Cell = numbered at hyphens in
    let s : State = closed bs ps end number in
    ap (started_at text cells l (tail_of cells)) (rule_opens_none text at l s)
    ∙ ap (λ x. started x text cells l (tail_of cells) here s) (a_rule at (bytes_between text at l.end) false h)

-- a page on which a thematic break began
abbrev ruled : List Block → List Piece → ℕ → ℕ → ℕ → State
ruled bs ps at end number = record (closed (bs ++ block kind.Rule at at (length ps) (length ps) ∷ []) ps end number) { kept = length ps }

rule_finished : (bs : List Block) (ps : List Piece) (at end number : ℕ) → leaf_finished (ruled bs ps at end number) ≡ closed (bs ++ block kind.Rule at end (length ps) (length ps) ∷ []) ps end number
unfolding leaf_finished finished raised_at
rule_finished bs ps at end number =
    let b : Block = block kind.Rule at at (length ps) (length ps) in
    rw (take-length ps, get_last bs b, set_last bs b (block kind.Rule at end (length ps) (length ps))) refl

rule_comes : (text : List ℕ) (at : ℕ) (l : Line) (bs : List Block) (ps : List Piece) (end number : ℕ) → rule_started text (numbered at hyphens) l here (closed bs ps end number) ≡ closed (bs ++ block kind.Rule at l.end (length ps) (length ps) ∷ []) ps l.end l.number
unfolding rule_started leaf_opened closed_to leaf_closed times list_left begun loosened had_marked list_of is_apart
rule_comes text at l bs ps end number = rule_finished bs ps at l.end l.number

-- a line of three hyphens is a thematic break
pub line_rules : (text : List ℕ) (at next number : ℕ) (bs : List Block) (ps : List Piece) (end0 number0 : ℕ) → bytes_between text at (at + 3) ≡ hyphens → at + 3 < 2 ^ 64 →
    line_taken text (closed bs ps end0 number0) (record { number = number; start = at; end = at + 3; next = next }) ≡ closed (bs ++ block kind.Rule at (at + 3) (length ps) (length ps) ∷ []) ps (at + 3) number
unfolding line_taken_in cells_taken_in passed_in touched turn_in turn_of leaf_turn
line_rules text at next number bs ps end0 number0 e fits =
    let s : State = closed bs ps end0 number0 in
    let l : Line = record { number = number; start = at; end = at + 3; next = next } in
    ap (λ c. cells_taken text c l s) (ap (cells_of [] at) e ∙ cells_within at hyphens (within_hyphen, (within_hyphen, (within_hyphen, tt))) fits)
    ∙ ap (λ c. leaf_started text (numbered at hyphens) l (record { cursor = c; depth = 0 }) s) (front_hyphens at)
    ∙ starts_rule text at l bs ps end0 number0 (ap (λ (bytes : List ℕ). byte_at bytes 0 == 60) e)
    ∙ rule_comes text at l bs ps end0 number0

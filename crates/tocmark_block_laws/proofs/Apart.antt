-- The definitions that were found change nothing of what a line does.
use Rattle.std.proofs.Common.{◌≡◌, ℕ, zero, suc, ◌-◌, Bool, true, false, ◌==◌, ◌||◌, if◌then◌else◌, nat_le, nat_lt, List, [], ◌∷◌, ◌++◌, length, take, drop, slice_get, refl, ap, sym, ◌∙◌, append_assoc, true≢false}
use Rattle.std.specs.Prelude.{slice_set, Option, Some, None, is_some}
use Rattle.std.specs.List.{fold}
use Rattle.std.specs.Option.{option_map, option_map_or}
use Rattle.tocmark_event.specs.declared.event.HeadingLevel.{HeadingLevel}
use Rattle.tocmark_event.specs.declared.event.BlockQuoteKind.{BlockQuoteKind}
use Rattle.tocmark_event.specs.declared.event.MetadataBlockKind.{MetadataBlockKind}
use Rattle.tocmark_read_scan.specs.Basic.{plus, bytes_between}
use Rattle.tocmark_read_scan.specs.Repeat.{going, repeated}
use Rattle.tocmark_read_scan.specs.declared.syntax.TheConstants.{CORE}
use Rattle.tocmark_read_tokens.specs.Word.{definition_at}
use Rattle.tocmark_read_tokens.specs.declared.word.Definition.{Definition}
use Rattle.tocmark_read_lines.specs.Cells.{cell_byte, cell_place, cells_of, indent_of, is_blank_at, moved}
use Rattle.tocmark_read_lines.specs.Containers.{matched, after_quote, container_in, container_at, item_at}
use Rattle.tocmark_read_lines.specs.DefinitionLists.{definition_start}
use Rattle.tocmark_read_lines.specs.Html.{html_ends}
use Rattle.tocmark_read_lines.specs.Marks.{tail_of, is_rule}
use Rattle.tocmark_read_lines.specs.Footnotes.{note_start}
use Rattle.tocmark_read_lines.specs.declared.beginnings.Fence.{Fence}
use Rattle.tocmark_read_lines.specs.declared.beginnings.Heading.{Heading}
use Rattle.tocmark_read_lines.specs.declared.beginnings.Tail.{Tail}
use Rattle.tocmark_read_lines.specs.declared.cell.Cell.{Cell}
use Rattle.tocmark_read_lines.specs.declared.cell.Cursor.{Cursor}
use Rattle.tocmark_read_lines.specs.declared.container.Container.{Container}
use Rattle.tocmark_read_lines.specs.declared.container.Container.TheVariants as container
use Rattle.tocmark_read_lines.specs.declared.container.ContainerStart.{ContainerStart}
use Rattle.tocmark_read_lines.specs.declared.container.ContainerStart.TheVariants as begins
use Rattle.tocmark_read_lines.specs.declared.container.ItemStart.{ItemStart}
use Rattle.tocmark_read_lines.specs.declared.container.Opened.{Opened}
use Rattle.tocmark_read_lines.specs.declared.html.HtmlKind.{HtmlKind}
use Rattle.tocmark_read_lines.specs.declared.line.Line.{Line}
use Rattle.tocmark_read_page.specs.Definitions.{DefinitionView, found_view, begins_definition, joined, define_once, counted, lines_defined, definitions_from}
use Rattle.tocmark_read_page.specs.Leaves.{is_paragraph}
use Rattle.tocmark_read_page.specs.Pages.{State, innermost, leaf_finished, table_finished, settled_as, defined_as, settled, shortened, leaf_closed_as, leaf_closed, is_quote, is_list, is_definitions, quote_left, raised_last, ended, one_closed, times, closed_to, is_loose, list_of, left_noted, list_left, begun, opened_with, leaf_opened, has_text, piece_taken, start_of, with_place, some_place, of_kind}
use Rattle.tocmark_read_page.specs.Pieces.{code_piece, heading_piece, keeps_line, piece_of, text_piece}
use Rattle.tocmark_read_page.specs.declared.leaf.Leaf.{Leaf}
use Rattle.tocmark_read_page.specs.declared.leaf.Leaf.TheVariants as leaf
use Rattle.tocmark_read_page.specs.declared.leaf.Table.{Table}
use Rattle.tocmark_read_page.specs.declared.line_start.LineStart.{LineStart}
use Rattle.tocmark_read_page.specs.declared.page.Block.{Block}
use Rattle.tocmark_read_page.specs.declared.page.BlockKind.{BlockKind}
use Rattle.tocmark_read_page.specs.declared.page.BlockKind.TheVariants as kind
use Rattle.tocmark_read_page.specs.declared.piece.Piece.{Piece}
use Rattle.tocmark_read_constructs.specs.Blanks.{behind_blanks}
use Rattle.tocmark_read_constructs.specs.Headings.{heading_put, heading_started_in, underlined, underlined_in}
use Rattle.tocmark_read_constructs.specs.Metadata.{metadata_in, metadata_started}
use Rattle.tocmark_read_constructs.specs.Quotes.{quote_opened, quote_kind_in, tag_in, quote_kind_started}
use Rattle.tocmark_read_constructs.specs.Tables.{cell_end, row_pushed, cell_pushed, row_put, row_taken, with_table, first_cell, ink_of}
use Rattle.tocmark_read_constructs.specs.Tasks.{task_in, with_task, boxed_taken, task_started}
use Rattle.tocmark_read_blocks.specs.Blocks.{leaf_ended, turn_taken_in, core_known, rule_or_text, underlined_if, underline_taken_in, started_in, started_at_in, leaf_started_in, passed_in, cells_taken_in, line_taken_in, turn_in, turn_of, touched, line_taken}
use Rattle.tocmark_read_blocks.specs.Codes.{html_ended_as, html_ended, code_taken, indented_started, fence_started, html_started, info_of}
use Rattle.tocmark_read_blocks.specs.Containers.{goes_directly, is_in_list, list_started, item_opened, begun_at, container_once_in}
use Rattle.tocmark_read_blocks.specs.Leaves.{leaf_at, rule_at, metadata_or, task_or, quote_kind_or, tag_or}
use Rattle.tocmark_read_blocks.specs.Paragraphs.{text_started, in_paragraph, text_taken, rule_started}
use Rattle.tocmark_read_blocks.specs.declared.leaf.LeafStart.{LeafStart}
use Rattle.tocmark_read_blocks.specs.declared.leaf.LeafStart.TheVariants as start
use Rattle.tocmark_read_blocks.specs.declared.leaf.Turn.{Turn}
use Rattle.tocmark_read_blocks.specs.declared.leaf.Turn.TheVariants as turn

-- a page on which these definitions were found before its own
abbrev pub after_these : List DefinitionView → State → State
after_these ds s = record s { definitions = ds ++ s.definitions }

-- definitions at the front of a paragraph

defines_after : (content : List ℕ) (place : ℕ) (ds xs : List DefinitionView) → define_once content place (ds ++ xs) ≡ (ds ++ (define_once content place xs).0, (define_once content place xs).1)
unfolding define_once
defines_after content place ds xs = by (definition_at content place)
  where
    step : List DefinitionView → Option Definition → List DefinitionView × Option ℕ
    step ys o = option_map_or (λ (d : Definition). (ys ++ found_view content d ∷ [], Some d.next)) o (ys, None)

    by : (o : Option Definition) → step (ds ++ xs) o ≡ (ds ++ (step xs o).0, (step xs o).1)
    by None = refl
    by (Some d) = ap (λ (ys : List DefinitionView). (ys, Some d.next)) (append_assoc ds xs (found_view content d ∷ []))

pub repeats_after : (content : List ℕ) (n place : ℕ) (ds xs : List DefinitionView)
    → repeated (define_once content) n place (ds ++ xs) ≡ (ds ++ (repeated (define_once content) n place xs).0, (repeated (define_once content) n place xs).1)
unfolding repeated
repeats_after content zero place ds xs = refl
repeats_after content (suc n) place ds xs =
    ap (going (λ d t. repeated (define_once content) n d t) place) (defines_after content place ds xs)
    ∙ by (define_once content place xs) (λ d t. repeats_after content n d ds t)
  where
    on : ℕ → List DefinitionView → List DefinitionView × ℕ
    on d t = repeated (define_once content) n d t

    by : (r : List DefinitionView × Option ℕ) → ((d : ℕ) (t : List DefinitionView) → on d (ds ++ t) ≡ (ds ++ (on d t).0, (on d t).1))
        → going on place (ds ++ r.0, r.1) ≡ (ds ++ (going on place r).0, (going on place r).1)
    by (t, None) again = refl
    by (t, Some d) again = again d t

pub found_after : (text : List ℕ) (ps : List Piece) (ds xs : List DefinitionView) → definitions_from text ps (ds ++ xs) ≡ (ds ++ (definitions_from text ps xs).0, (definitions_from text ps xs).1)
unfolding definitions_from
found_after text ps ds xs = by (begins_definition text ps)
  where
    content : List ℕ
    content = joined text ps

    by : (k : Bool) → (if k then lines_defined text ps (ds ++ xs) else (ds ++ xs, 0)) ≡ (ds ++ (if k then lines_defined text ps xs else (xs, 0)).0, (if k then lines_defined text ps xs else (xs, 0)).1)
    by true = ap (counted content) (repeats_after content (length content) 0 ds xs)
    by false = refl

-- leaves and containers end

settled_after : (text : List ℕ) (ds : List DefinitionView) (s : State) → settled text (after_these ds s) ≡ after_these ds (settled text s)
unfolding settled
settled_after text ds s = by (slice_get s.blocks (length s.blocks - 1))
  where
    with_found : Block → List DefinitionView × ℕ → State
    with_found b found = record s { definitions = found.0; blocks = slice_set s.blocks (length s.blocks - 1) (shortened b s.pieces (found.1)) }

    boxed : (b : Block) (k : Bool) → (if k then after_these ds s else defined_as text (after_these ds s) b) ≡ after_these ds (if k then s else defined_as text s b)
    boxed b true = refl
    boxed b false = ap (with_found b) (found_after text (drop b.first s.pieces) ds s.definitions)

    by : (o : Option Block) → option_map_or (settled_as text (after_these ds s)) o (after_these ds s) ≡ after_these ds (option_map_or (settled_as text s) o s)
    by None = refl
    by (Some b) = boxed b (is_some b.task)

finished_after : (ds : List DefinitionView) (s : State) → leaf_finished (after_these ds s) ≡ after_these ds (leaf_finished s)
unfolding leaf_finished
finished_after ds s = refl

table_finished_after : (ds : List DefinitionView) (t : Table) (s : State) → table_finished t (after_these ds s) ≡ after_these ds (table_finished t s)
unfolding table_finished
table_finished_after ds t s = refl

pub closed_leaf_after : (text : List ℕ) (ds : List DefinitionView) (s : State) → leaf_closed text (after_these ds s) ≡ after_these ds (leaf_closed text s)
unfolding leaf_closed
closed_leaf_after text ds s = by s.leaf
  where
    by : (k : Leaf) → leaf_closed_as k text (after_these ds s) ≡ after_these ds (leaf_closed_as k text s)
    by leaf.Nothing = refl
    by leaf.Paragraph = ap leaf_finished (settled_after text ds s) ∙ finished_after ds (settled text s)
    by leaf.Indented = finished_after ds s
    by (leaf.Fenced f) = finished_after ds s
    by (leaf.Html x) = finished_after ds s
    by (leaf.Metadata x) = finished_after ds s
    by (leaf.Table t) = table_finished_after ds t s

pub one_closed_after : (ds : List DefinitionView) (s : State) → one_closed (after_these ds s) ≡ after_these ds (one_closed s)
unfolding one_closed
one_closed_after ds s = by (slice_get s.opened (length s.opened - 1))
  where
    last : ℕ
    last = length s.opened - 1

    left : Opened → State → State
    left o t = quote_left o.container (raised_last o.end o.line (record t { opened = take last t.opened; blocks = ended t.blocks o.block o.end }))

    quoted : (o : Opened) (k : Bool) (t : State) → (if k then record (after_these ds t) { quotes = take (length t.quotes - 1) t.quotes } else after_these ds t) ≡ after_these ds (if k then record t { quotes = take (length t.quotes - 1) t.quotes } else t)
    quoted o true t = refl
    quoted o false t = refl

    by : (o : Option Opened) → option_map_or (λ (x : Opened). left x (after_these ds s)) o (after_these ds s) ≡ after_these ds (option_map_or (λ (x : Opened). left x s) o s)
    by None = refl
    by (Some o) = quoted o (is_quote o.container) (raised_last o.end o.line (record s { opened = take last s.opened; blocks = ended s.blocks o.block o.end }))

times_after : (ds : List DefinitionView) (n : ℕ) (s : State) → times one_closed n (after_these ds s) ≡ after_these ds (times one_closed n s)
unfolding times
times_after ds zero s = refl
times_after ds (suc n) s = ap (times one_closed n) (one_closed_after ds s) ∙ times_after ds n (one_closed s)

pub closed_after : (text : List ℕ) (depth : ℕ) (ds : List DefinitionView) (s : State) → closed_to text depth (after_these ds s) ≡ after_these ds (closed_to text depth s)
unfolding closed_to
closed_after text depth ds s =
    ap (λ (t : State). times one_closed (length t.opened - depth) t) (closed_leaf_after text ds s)
    ∙ times_after ds (length (leaf_closed text s).opened - depth) (leaf_closed text s)

list_left_after : (ds : List DefinitionView) (s : State) → list_left (after_these ds s) ≡ after_these ds (list_left s)
unfolding list_left left_noted
list_left_after ds s = by (innermost s.opened)
  where
    left_with : Opened → State → State
    left_with o t = record t { left = Some (record { list = o.block; behind = length t.blocks; loose = is_loose t.blocks (list_of t.opened) }) }

    noted : (o : Opened) (k : Bool) (t : State) → (if k then left_with o (after_these ds t) else after_these ds t) ≡ after_these ds (if k then left_with o t else t)
    noted o true t = refl
    noted o false t = refl

    listed : (o : Opened) (k : Bool) → (if k then left_noted o (one_closed (after_these ds s)) else after_these ds s) ≡ after_these ds (if k then left_noted o (one_closed s) else s)
    listed o true = ap (left_noted o) (one_closed_after ds s) ∙ noted o (is_definitions o.container) (one_closed s)
    listed o false = refl

    by : (o : Option Opened) → option_map_or (λ (x : Opened). if is_list x.container then left_noted x (one_closed (after_these ds s)) else after_these ds s) o (after_these ds s)
        ≡ after_these ds (option_map_or (λ (x : Opened). if is_list x.container then left_noted x (one_closed s) else s) o s)
    by None = refl
    by (Some o) = listed o (is_list o.container)

-- leaves and containers begin

begun_after : (k : BlockKind) (start number : ℕ) (ds : List DefinitionView) (s : State) → begun k start number (after_these ds s) ≡ after_these ds (begun k start number s)
unfolding begun
begun_after k start number ds s = refl

leaf_opened_after : (l : Leaf) (k : BlockKind) (start : ℕ) (line : Line) (ds : List DefinitionView) (s : State) → leaf_opened l k start line (after_these ds s) ≡ after_these ds (leaf_opened l k start line s)
unfolding leaf_opened begun
leaf_opened_after l k start line ds s = ap (with_leaf) (list_left_after ds s)
  where
    with_leaf : State → State
    with_leaf t =
        let u : State = begun k start line.number t in
        record u { leaf = l; end = line.end; line = line.number; kept = length u.pieces }

opened_with_after : (c : Container) (k : BlockKind) (start : ℕ) (line : Line) (ds : List DefinitionView) (s : State) → opened_with c k start line (after_these ds s) ≡ after_these ds (opened_with c k start line s)
unfolding opened_with begun
opened_with_after c k start line ds s = entered (is_quote c) (with_container (begun k start line.number s))
  where
    with_container : State → State
    with_container t = record t { opened = t.opened ++ record { container = c; block = length t.blocks - 1; end = line.end; line = line.number; had = false } ∷ [] }

    entered : (b : Bool) (t : State) → (if b then record (after_these ds t) { quotes = t.quotes ++ (length t.opened - 1) ∷ [] } else after_these ds t) ≡ after_these ds (if b then record t { quotes = t.quotes ++ (length t.opened - 1) ∷ [] } else t)
    entered true t = refl
    entered false t = refl

piece_taken_after : (p : Piece) (line : Line) (keeps : Bool) (ds : List DefinitionView) (s : State) → piece_taken p line keeps (after_these ds s) ≡ after_these ds (piece_taken p line keeps s)
unfolding piece_taken
piece_taken_after p line keeps ds s = by (nat_lt 0 p.spaces || nat_lt p.start p.next) keeps
  where
    with_piece : State → State
    with_piece t = record t { pieces = t.pieces ++ p ∷ [] }

    kept : State → State
    kept t = record t { kept = length t.pieces; end = line.end; line = line.number }

    by : (a b : Bool) → (if b then kept (if a then with_piece (after_these ds s) else after_these ds s) else (if a then with_piece (after_these ds s) else after_these ds s))
        ≡ after_these ds (if b then kept (if a then with_piece s else s) else (if a then with_piece s else s))
    by true true = refl
    by true false = refl
    by false true = refl
    by false false = refl

-- paragraphs, rules, headings, code and HTML

text_started_after : (start : ℕ) (ds : List DefinitionView) (s : State) → text_started start (after_these ds s) ≡ after_these ds (text_started start s)
unfolding text_started
text_started_after start ds s = by (slice_get s.blocks (length s.blocks - 1))
  where
    moved_to : Block → State → State
    moved_to b t = record t { blocks = slice_set t.blocks (length t.blocks - 1) (record b { start = start }) }

    first : (b : Block) (k : Bool) → (if k then moved_to b (after_these ds s) else after_these ds s) ≡ after_these ds (if k then moved_to b s else s)
    first b true = refl
    first b false = refl

    by : (o : Option Block) → option_map_or (λ (b : Block). if nat_le (length s.pieces) b.first then moved_to b (after_these ds s) else after_these ds s) o (after_these ds s)
        ≡ after_these ds (option_map_or (λ (b : Block). if nat_le (length s.pieces) b.first then moved_to b s else s) o s)
    by None = refl
    by (Some b) = first b (nat_le (length s.pieces) b.first)

in_paragraph_after : (text : List ℕ) (cells : List Cell) (line : Line) (place : LineStart) (ds : List DefinitionView) (s : State) → in_paragraph text cells line place (after_these ds s) ≡ after_these ds (in_paragraph text cells line place s)
in_paragraph_after text cells line place ds s = by (is_paragraph s.leaf)
  where
    opened : State → State
    opened t = leaf_opened leaf.Paragraph kind.Paragraph (text_piece cells place.cursor line).start line (closed_to text place.depth t)

    by : (k : Bool) → (if k then after_these ds s else opened (after_these ds s)) ≡ after_these ds (if k then s else opened s)
    by true = refl
    by false =
        ap (leaf_opened leaf.Paragraph kind.Paragraph (text_piece cells place.cursor line).start line) (closed_after text place.depth ds s)
        ∙ leaf_opened_after leaf.Paragraph kind.Paragraph (text_piece cells place.cursor line).start line ds (closed_to text place.depth s)

text_taken_after : (text : List ℕ) (cells : List Cell) (line : Line) (place : LineStart) (ds : List DefinitionView) (s : State) → text_taken text cells line place (after_these ds s) ≡ after_these ds (text_taken text cells line place s)
unfolding text_taken
text_taken_after text cells line place ds s =
    let words : Piece = text_piece cells place.cursor line in
    let p : State = in_paragraph text cells line place s in
    ap (λ t. piece_taken words line true (text_started words.start t)) (in_paragraph_after text cells line place ds s)
    ∙ ap (piece_taken words line true) (text_started_after words.start ds p) ∙ piece_taken_after words line true ds (text_started words.start p)

-- a leaf begins where all else has ended
opens_after : (text : List ℕ) (depth : ℕ) (l : Leaf) (k : BlockKind) (start : ℕ) (line : Line) (ds : List DefinitionView) (s : State)
    → leaf_opened l k start line (closed_to text depth (after_these ds s)) ≡ after_these ds (leaf_opened l k start line (closed_to text depth s))
opens_after text depth l k start line ds s =
    ap (leaf_opened l k start line) (closed_after text depth ds s) ∙ leaf_opened_after l k start line ds (closed_to text depth s)

rule_after : (text : List ℕ) (cells : List Cell) (line : Line) (place : LineStart) (ds : List DefinitionView) (s : State) → rule_started text cells line place (after_these ds s) ≡ after_these ds (rule_started text cells line place s)
unfolding rule_started
rule_after text cells line place ds s =
    ap leaf_finished (opens_after text place.depth leaf.Nothing kind.Rule (start_of cells place line) line ds s)
    ∙ finished_after ds (leaf_opened leaf.Nothing kind.Rule (start_of cells place line) line (closed_to text place.depth s))

html_ended_after : (rest : List ℕ) (ds : List DefinitionView) (s : State) → html_ended rest (after_these ds s) ≡ after_these ds (html_ended rest s)
unfolding html_ended
html_ended_after rest ds s = by s.leaf
  where
    ends : (k : Bool) → (if k then leaf_finished (after_these ds s) else after_these ds s) ≡ after_these ds (if k then leaf_finished s else s)
    ends true = finished_after ds s
    ends false = refl

    by : (k : Leaf) → html_ended_as k rest (after_these ds s) ≡ after_these ds (html_ended_as k rest s)
    by leaf.Nothing = refl
    by leaf.Paragraph = refl
    by leaf.Indented = refl
    by (leaf.Fenced f) = refl
    by (leaf.Html x) = ends (html_ends x rest)
    by (leaf.Metadata x) = refl
    by (leaf.Table t) = refl

code_after : (text : List ℕ) (cells : List Cell) (column : ℕ) (line : Line) (ds : List DefinitionView) (s : State) → code_taken text cells column line (after_these ds s) ≡ after_these ds (code_taken text cells column line s)
unfolding code_taken
code_after text cells column line ds s =
    let p : Piece = code_piece cells column line in
    ap (html_ended (bytes_between text p.start p.end)) (piece_taken_after p line (keeps_line cells column s.leaf) ds s)
    ∙ html_ended_after (bytes_between text p.start p.end) ds (piece_taken p line (keeps_line cells column s.leaf) s)

indented_after : (text : List ℕ) (cells : List Cell) (line : Line) (place : LineStart) (column : ℕ) (ds : List DefinitionView) (s : State) → indented_started text cells line place column (after_these ds s) ≡ after_these ds (indented_started text cells line place column s)
unfolding indented_started
indented_after text cells line place column ds s =
    ap (code_taken text cells column line) (opens_after text place.depth leaf.Indented kind.Indented (cell_place cells column line.end) line ds s)
    ∙ code_after text cells column line ds (leaf_opened leaf.Indented kind.Indented (cell_place cells column line.end) line (closed_to text place.depth s))

fence_after : (text : List ℕ) (cells : List Cell) (line : Line) (place : LineStart) (f : Fence) (ds : List DefinitionView) (s : State) → fence_started text cells line place f (after_these ds s) ≡ after_these ds (fence_started text cells line place f s)
unfolding fence_started
fence_after text cells line place f ds s = opens_after text place.depth (leaf.Fenced f) (info_of cells place.cursor f line) (start_of cells place line) line ds s

html_after : (text : List ℕ) (cells : List Cell) (line : Line) (place : LineStart) (k : HtmlKind) (ds : List DefinitionView) (s : State) → html_started text cells line place k (after_these ds s) ≡ after_these ds (html_started text cells line place k s)
unfolding html_started
html_after text cells line place k ds s =
    ap (code_taken text cells place.cursor.column line) (opens_after text place.depth (leaf.Html k) kind.Html (cell_place cells place.cursor.column line.end) line ds s)
    ∙ code_after text cells place.cursor.column line ds (leaf_opened (leaf.Html k) kind.Html (cell_place cells place.cursor.column line.end) line (closed_to text place.depth s))

heading_after : (text : List ℕ) (cells : List Cell) (line : Line) (place : LineStart) (h : Heading) (ds : List DefinitionView) (s : State) → heading_started_in core_known text cells line place h (after_these ds s) ≡ after_these ds (heading_started_in core_known text cells line place h s)
unfolding heading_started_in heading_put
heading_after text cells line place h ds s =
    let t : State = leaf_opened leaf.Nothing (kind.Heading h.level None) (start_of cells place line) line (closed_to text place.depth s) in
    ap (λ u. leaf_finished (piece_taken (heading_piece cells h line) line true u)) (opens_after text place.depth leaf.Nothing (kind.Heading h.level None) (start_of cells place line) line ds s)
    ∙ ap leaf_finished (piece_taken_after (heading_piece cells h line) line true ds t) ∙ finished_after ds (piece_taken (heading_piece cells h line) line true t)

-- an underline

underlined_after : (text : List ℕ) (level : HeadingLevel) (line : Line) (ds : List DefinitionView) (s : State) → underlined_in core_known text level line (after_these ds s) ≡ after_these ds (underlined_in core_known text level line s)
unfolding underlined_in underlined leaf_finished
underlined_after text level line ds s = refl

pub rule_or_text_after : (text : List ℕ) (cells : List Cell) (line : Line) (tail : Tail) (place : LineStart) (ds : List DefinitionView) (s : State)
    → rule_or_text (rule_at cells tail place.cursor.ink) text cells line place (after_these ds s) ≡ after_these ds (rule_or_text (rule_at cells tail place.cursor.ink) text cells line place s)
unfolding rule_at
rule_or_text_after text cells line tail place ds s = by (is_rule cells tail place.cursor.ink)
  where
    by : (k : Bool) → rule_or_text (if k then start.Rule else start.Text) text cells line place (after_these ds s) ≡ after_these ds (rule_or_text (if k then start.Rule else start.Text) text cells line place s)
    by true = rule_after text cells line place ds s
    by false = text_taken_after text cells line place ds s

underline_after : (text : List ℕ) (cells : List Cell) (line : Line) (tail : Tail) (place : LineStart) (level : HeadingLevel) (ds : List DefinitionView) (s : State)
    → underline_taken_in core_known text cells line tail place level (after_these ds s) ≡ after_these ds (underline_taken_in core_known text cells line tail place level s)
unfolding underline_taken_in metadata_in metadata_or has_text
underline_after text cells line tail place level ds s =
    ap (λ t. underlined_if core_known (has_text t) (rule_at cells tail place.cursor.ink) text cells line place level t) (settled_after text ds s)
    ∙ by (has_text (settled text s))
  where
    by : (k : Bool) → underlined_if core_known k (rule_at cells tail place.cursor.ink) text cells line place level (after_these ds (settled text s))
        ≡ after_these ds (underlined_if core_known k (rule_at cells tail place.cursor.ink) text cells line place level (settled text s))
    by true = underlined_after text level line ds (settled text s)
    by false = rule_or_text_after text cells line tail place ds (settled text s)

-- containers begin

list_started_after : (item : ItemStart) (start : ℕ) (line : Line) (ds : List DefinitionView) (s : State) → list_started item start line (after_these ds s) ≡ after_these ds (list_started item start line s)
unfolding list_started is_in_list
list_started_after item start line ds s = by (is_in_list item.sort s)
  where
    listed : State → State
    listed t = opened_with (container.List item.sort) (kind.List item.number) start line (list_left t)

    by : (k : Bool) → (if k then after_these ds s else listed (after_these ds s)) ≡ after_these ds (if k then s else listed s)
    by true = refl
    by false =
        ap (opened_with (container.List item.sort) (kind.List item.number) start line) (list_left_after ds s)
        ∙ opened_with_after (container.List item.sort) (kind.List item.number) start line ds (list_left s)

-- a page with something beside it
abbrev pub beside : {C : Type 0} → List DefinitionView → State × C → State × C
beside ds (s, c) = (after_these ds s, c)

item_after : (text : List ℕ) (cells : List Cell) (line : Line) (place : LineStart) (item : ItemStart) (ds : List DefinitionView) (s : State) → item_opened text cells line place item (after_these ds s) ≡ beside ds (item_opened text cells line place item s)
unfolding item_opened
item_after text cells line place item ds s =
    let at : ℕ = start_of cells place line in
    let c : Cursor = moved cells place.cursor item.next in
    let t : State = closed_to text place.depth s in
    ap (λ (u : State). with_place c (opened_with (container.Item item.width) kind.Item at line (list_started item at line u))) (closed_after text place.depth ds s)
    ∙ ap (λ (u : State). with_place c (opened_with (container.Item item.width) kind.Item at line u)) (list_started_after item at line ds t)
    ∙ ap (λ (u : State). with_place c u) (opened_with_after (container.Item item.width) kind.Item at line ds (list_started item at line t))

quote_after : (text : List ℕ) (cells : List Cell) (line : Line) (place : LineStart) (ds : List DefinitionView) (s : State) → quote_opened text cells line place (after_these ds s) ≡ beside ds (quote_opened text cells line place s)
unfolding quote_opened
quote_after text cells line place ds s =
    let at : ℕ = start_of cells place line in
    let c : Cursor = after_quote cells place.cursor in
    let t : State = closed_to text place.depth s in
    ap (λ (u : State). with_place c (opened_with container.Quote (kind.Quote None) at line (list_left u))) (closed_after text place.depth ds s)
    ∙ ap (λ (u : State). with_place c (opened_with container.Quote (kind.Quote None) at line u)) (list_left_after ds t)
    ∙ ap (λ (u : State). with_place c u) (opened_with_after container.Quote (kind.Quote None) at line ds (list_left t))

-- CommonMark has quotes and items
abbrev is_core_start : Option ContainerStart → Bool
is_core_start None = true
is_core_start (Some begins.Quote) = true
is_core_start (Some (begins.Item i)) = true
is_core_start (Some (begins.Footnote n)) = false
is_core_start (Some (begins.Definition d)) = false

core_start : (cells : List Cell) (tail : Tail) (cursor : Cursor) (p : Bool) → is_core_start (container_in CORE cells tail cursor p) ≡ true
unfolding container_in definition_start note_start container_at
core_start cells tail cursor p = by (is_blank_at cells cursor || nat_le 4 (indent_of cursor)) (cell_byte cells cursor.ink == 62) (is_rule cells tail cursor.ink) (item_at cells cursor p)
  where
    by : (a q r : Bool) (o : Option ItemStart) → is_core_start (if a then None else (if q then Some begins.Quote else (if r then None else option_map (λ i. begins.Item i) o))) ≡ true
    by true q r o = refl
    by false true r o = refl
    by false false true o = refl
    by false false false None = refl
    by false false false (Some i) = refl

begun_at_after : (text : List ℕ) (cells : List Cell) (line : Line) (place : LineStart) (ds : List DefinitionView) (s : State) (o : Option ContainerStart) → is_core_start o ≡ true → begun_at text cells line place (after_these ds s) o ≡ beside ds (begun_at text cells line place s o)
begun_at_after text cells line place ds s None h = refl
begun_at_after text cells line place ds s (Some begins.Quote) h = ap some_place (quote_after text cells line place ds s)
begun_at_after text cells line place ds s (Some (begins.Item i)) h = ap some_place (item_after text cells line place i ds s)
begun_at_after text cells line place ds s (Some (begins.Footnote n)) h = absurd (true≢false (sym h))
begun_at_after text cells line place ds s (Some (begins.Definition d)) h = absurd (true≢false (sym h))

once_after : (text : List ℕ) (cells : List Cell) (line : Line) (tail : Tail) (ds : List DefinitionView) (place : LineStart) (s : State) → container_once_in CORE text cells line tail place (after_these ds s) ≡ beside ds (container_once_in CORE text cells line tail place s)
unfolding container_once_in goes_directly
once_after text cells line tail ds place s =
    begun_at_after text cells line place ds s (container_in CORE cells tail place.cursor (goes_directly place.depth s)) (core_start cells tail place.cursor (goes_directly place.depth s))

containers_after : (text : List ℕ) (cells : List Cell) (line : Line) (tail : Tail) (ds : List DefinitionView) (n : ℕ) (place : LineStart) (s : State)
    → repeated (container_once_in CORE text cells line tail) n place (after_these ds s) ≡ beside ds (repeated (container_once_in CORE text cells line tail) n place s)
unfolding repeated
containers_after text cells line tail ds zero place s = refl
containers_after text cells line tail ds (suc n) place s =
    ap (going (λ d t. repeated (container_once_in CORE text cells line tail) n d t) place) (once_after text cells line tail ds place s)
    ∙ by (container_once_in CORE text cells line tail place s) (λ d t. containers_after text cells line tail ds n d t)
  where
    on : LineStart → State → State × LineStart
    on d t = repeated (container_once_in CORE text cells line tail) n d t

    by : (r : State × Option LineStart) → ((d : LineStart) (t : State) → on d (after_these ds t) ≡ beside ds (on d t)) → going on place (beside ds r) ≡ beside ds (going on place r)
    by (t, None) again = refl
    by (t, Some d) again = again d t

-- what a line begins

metadata_after : (text : List ℕ) (cells : List Cell) (line : Line) (place : LineStart) (k : MetadataBlockKind) (ds : List DefinitionView) (s : State) → metadata_started text cells line place k (after_these ds s) ≡ after_these ds (metadata_started text cells line place k s)
unfolding metadata_started
metadata_after text cells line place k ds s = opens_after text 0 (leaf.Metadata k) (kind.Metadata k) (start_of cells place line) line ds s

task_after : (text : List ℕ) (cells : List Cell) (line : Line) (place : LineStart) (done : Bool) (ds : List DefinitionView) (s : State) → task_started text cells line place done (after_these ds s) ≡ after_these ds (task_started text cells line place done s)
unfolding task_started boxed_taken with_task
task_after text cells line place done ds s = by (nat_lt behind line.end)
  where
    at : ℕ
    at = start_of cells place line

    behind : ℕ
    behind = behind_blanks text (plus at 3)

    opened : State
    opened = leaf_opened leaf.Paragraph kind.Paragraph at line (closed_to text place.depth s)

    p : Piece
    p = piece_of 0 behind line.end line.next

    by : (k : Bool) → (if k then boxed_taken text line place done at behind (after_these ds s) else with_task done at (after_these ds s)) ≡ after_these ds (if k then boxed_taken text line place done at behind s else with_task done at s)
    by true =
        ap (λ t. piece_taken p line true (with_task done at t)) (opens_after text place.depth leaf.Paragraph kind.Paragraph at line ds s)
        ∙ piece_taken_after p line true ds (with_task done at opened)
    by false = refl

quote_kind_after : (cells : List Cell) (line : Line) (place : LineStart) (k : BlockQuoteKind) (ds : List DefinitionView) (s : State) → quote_kind_started cells line place k (after_these ds s) ≡ after_these ds (quote_kind_started cells line place k s)
unfolding quote_kind_started
quote_kind_after cells line place k ds s = leaf_opened_after leaf.Paragraph kind.Paragraph (start_of cells place line) line ds (record s { blocks = of_kind (kind.Quote (Some k)) s.blocks })

pub started_after : (b : LeafStart) (text : List ℕ) (cells : List Cell) (line : Line) (tail : Tail) (place : LineStart) (ds : List DefinitionView) (s : State) → started_in core_known b text cells line tail place (after_these ds s) ≡ after_these ds (started_in core_known b text cells line tail place s)
unfolding started_in
started_after start.Blank text cells line tail place ds s = closed_after text place.depth ds s
started_after start.Text text cells line tail place ds s = text_taken_after text cells line place ds s
started_after (start.Indented c) text cells line tail place ds s = indented_after text cells line place c ds s
started_after (start.Heading h) text cells line tail place ds s = heading_after text cells line place h ds s
started_after (start.Fence f) text cells line tail place ds s = fence_after text cells line place f ds s
started_after (start.Html k) text cells line tail place ds s = html_after text cells line place k ds s
started_after (start.Underline level) text cells line tail place ds s = underline_after text cells line tail place level ds s
started_after start.Rule text cells line tail place ds s = rule_after text cells line place ds s
started_after (start.Metadata k) text cells line tail place ds s = metadata_after text cells line place k ds s
started_after (start.Task done) text cells line tail place ds s = task_after text cells line place done ds s
started_after (start.QuoteKind k) text cells line tail place ds s = quote_kind_after cells line place k ds s

pub leaf_started_after : (text : List ℕ) (cells : List Cell) (line : Line) (place : LineStart) (ds : List DefinitionView) (s : State) → leaf_started_in core_known text cells line place (after_these ds s) ≡ after_these ds (leaf_started_in core_known text cells line place s)
unfolding leaf_started_in metadata_in metadata_or task_in task_or quote_kind_in quote_kind_or tag_in tag_or goes_directly
leaf_started_after text cells line place ds s =
    ap (started_at_in core_known text cells line (tail_of cells)) (containers_after text cells line (tail_of cells) ds (length cells) place s)
    ∙ by (repeated (container_once_in CORE text cells line (tail_of cells)) (length cells) place s)
  where
    by : (r : State × LineStart) → started_at_in core_known text cells line (tail_of cells) (beside ds r) ≡ after_these ds (started_at_in core_known text cells line (tail_of cells) r)
    by (t, next) = started_after (leaf_at cells (bytes_between text (start_of cells next line) line.end) (tail_of cells) next.cursor (is_paragraph t.leaf) (goes_directly next.depth t)) text cells line (tail_of cells) next ds t

-- rows of tables

cell_after : (text : List ℕ) (end : ℕ) (ds : List DefinitionView) (s : State) (place : ℕ) → cell_pushed text end (after_these ds s, place) ≡ beside ds (cell_pushed text end (s, place))
unfolding cell_pushed row_pushed
cell_after text end ds s place = by (cell_end text end place)
  where
    by : (o : Option ℕ) → option_map_or (λ bar. (row_pushed 2 kind.TableCell place bar (after_these ds s), plus bar 1)) o (row_pushed 2 kind.TableCell end end (after_these ds s), plus end 1)
        ≡ beside ds (option_map_or (λ bar. (row_pushed 2 kind.TableCell place bar s, plus bar 1)) o (row_pushed 2 kind.TableCell end end s, plus end 1))
    by None = refl
    by (Some bar) = refl

cells_after : (text : List ℕ) (end n : ℕ) (ds : List DefinitionView) (s : State) (place : ℕ) → times (cell_pushed text end) n (after_these ds s, place) ≡ beside ds (times (cell_pushed text end) n (s, place))
unfolding times
cells_after text end zero ds s place = refl
cells_after text end (suc n) ds s place =
    let r : State × ℕ = cell_pushed text end (s, place) in
    ap (times (cell_pushed text end) n) (cell_after text end ds s place) ∙ cells_after text end n ds (r.0) (r.1)

row_after : (text : List ℕ) (cells : List Cell) (line : Line) (cursor : Cursor) (t : Table) (ds : List DefinitionView) (s : State) → row_taken text cells line cursor t (after_these ds s) ≡ after_these ds (row_taken text cells line cursor t s)
unfolding row_taken row_put row_pushed
row_after text cells line cursor t ds s =
    let at : ℕ = ink_of cells line cursor in
    ap (λ (r : State × ℕ). r.0) (cells_after text line.end t.columns ds (row_pushed 1 kind.TableRow at line.end (with_table t line s)) (first_cell text at))

-- what a line does, and all lines

turn_after : (t : Turn) (text : List ℕ) (cells : List Cell) (line : Line) (place : LineStart) (ds : List DefinitionView) (s : State) → turn_taken_in core_known t text cells line place (after_these ds s) ≡ after_these ds (turn_taken_in core_known t text cells line place s)
unfolding leaf_ended leaf_finished passed_in
turn_after turn.Closes text cells line place ds s = refl
turn_after (turn.Takes column) text cells line place ds s = code_after text cells column line ds s
turn_after turn.Passes text cells line place ds s = leaf_started_after text cells line place ds s
turn_after (turn.Row t) text cells line place ds s = row_after text cells line place.cursor t ds s

-- a line does the same on a page on which definitions were found before
pub line_after : (text : List ℕ) (ds : List DefinitionView) (s : State) (line : Line) → line_taken text (after_these ds s) line ≡ after_these ds (line_taken text s line)
unfolding line_taken_in cells_taken_in touched turn_in turn_of
line_after text ds s line =
    let cells : List Cell = cells_of [] line.start (bytes_between text line.start line.end) in
    let found : ℕ × Cursor = matched cells s.opened s.quotes in
    let place : LineStart = record { cursor = found.1; depth = found.0 } in
    turn_after (turn_of text cells line place (touched line (found.0) s)) text cells line place ds (touched line (found.0) s)

-- and so do all lines
pub lines_after : (text : List ℕ) (ds : List DefinitionView) (s : State) (ls : List Line) → fold (line_taken text) (after_these ds s) ls ≡ after_these ds (fold (line_taken text) s ls)
lines_after text ds s [] = refl
lines_after text ds s (l ∷ ls) = ap (λ (t : State). fold (line_taken text) t ls) (line_after text ds s l) ∙ lines_after text ds (line_taken text s l) ls

-- definitions before definitions
pub join_after : (xs ys : List DefinitionView) (s : State) → after_these xs (after_these ys s) ≡ after_these (xs ++ ys) s
join_after xs ys s = ap (λ (zs : List DefinitionView). record s { definitions = zs }) (sym (append_assoc xs ys s.definitions))

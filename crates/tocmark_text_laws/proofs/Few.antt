-- How many blocks and lines of leaves each line of a text adds to a page.
use Rattle.std.proofs.Common.{◌≡◌, ℕ, zero, suc, ◌+◌, ◌-◌, ◌*◌, ◌^◌, ◌<◌, ◌≤◌, Bool, true, false, ◌==◌, ◌&&◌, ◌||◌, if◌then◌else◌, nat_lt, nat_le, List, [], ◌∷◌, ◌++◌, length, take, drop, refl, sym, subst, arith, length-append, length-take}
use Rattle.std.specs.Prelude.{min, ◌%◌, replicate, slice_get, slice_range, slice_set, Option, Some, None, is_some}
use Rattle.std.specs.List.{fold}
use Rattle.std.specs.Option.{option_map_or}
use Rattle.std.proofs.lemmas.List.{length-drop, length-replicate}
use Rattle.tocmark_event.specs.declared.event.HeadingLevel.{HeadingLevel}
use Rattle.tocmark_read_scan.specs.Basic.{plus, bytes_between}
use Rattle.tocmark_read_scan.specs.Repeat.{going, repeated}
use Rattle.tocmark_read_scan.specs.declared.syntax.TheConstants.{CORE}
use Rattle.tocmark_read_lines.specs.Cells.{cell, cells_of, cell_place, filled, is_blank_at}
use Rattle.tocmark_read_lines.specs.Containers.{matched, container_in}
use Rattle.tocmark_read_lines.specs.Html.{html_ends}
use Rattle.tocmark_read_lines.specs.Lines.{ends_here, line, line_stop, lines_from, lines_of}
use Rattle.tocmark_read_lines.specs.Marks.{tail_of, is_rule}
use Rattle.tocmark_read_lines.specs.declared.beginnings.Tail.{Tail}
use Rattle.tocmark_read_lines.specs.declared.cell.Cell.{Cell}
use Rattle.tocmark_read_lines.specs.declared.cell.Cursor.{Cursor}
use Rattle.tocmark_read_lines.specs.declared.container.Container.{Container}
use Rattle.tocmark_read_lines.specs.declared.container.Container.TheVariants as container
use Rattle.tocmark_read_lines.specs.declared.container.ContainerStart.{ContainerStart}
use Rattle.tocmark_read_lines.specs.declared.container.ContainerStart.TheVariants as begins
use Rattle.tocmark_read_lines.specs.declared.container.ItemStart.{ItemStart}
use Rattle.tocmark_read_lines.specs.declared.container.Opened.{Opened}
use Rattle.tocmark_read_lines.specs.declared.line.Line.{Line}
use Rattle.tocmark_read_page.specs.Leaves.{is_paragraph}
use Rattle.tocmark_read_page.specs.Pages.{State, first_page, innermost, ended, finished, raised_last, leaf_finished, table_finished, shortened, defined_as, settled_as, settled, leaf_closed_as, leaf_closed, is_quote, is_list, is_definitions, quote_left, one_closed, times, closed_to, list_of, is_loose, left_noted, list_left, is_apart, loosened, begun, opened_with, leaf_opened, piece_taken, has_text, start_of, of_kind}
use Rattle.tocmark_read_page.specs.Pieces.{code_piece, text_piece, heading_piece, keeps_line}
use Rattle.tocmark_read_page.specs.declared.leaf.Leaf.{Leaf}
use Rattle.tocmark_read_page.specs.declared.leaf.Leaf.TheVariants as leaf
use Rattle.tocmark_read_page.specs.declared.line_start.LineStart.{LineStart}
use Rattle.tocmark_read_page.specs.declared.page.Block.{Block}
use Rattle.tocmark_read_page.specs.declared.page.BlockKind.{BlockKind}
use Rattle.tocmark_read_page.specs.declared.page.BlockKind.TheVariants as kind
use Rattle.tocmark_read_page.specs.declared.piece.Piece.{Piece}
use Rattle.tocmark_read_constructs.specs.Headings.{heading_put, heading_started_in, underlined, underlined_in}
use Rattle.tocmark_read_constructs.specs.Metadata.{known_of, metadata_in}
use Rattle.tocmark_read_constructs.specs.Quotes.{quote_opened}
use Rattle.tocmark_read_blocks.specs.Blocks.{core_known, underlined_if, underline_taken_in, started_in, started_at_in, leaf_started_in, passed_in, turn_in, leaf_ended, touched, turn_taken_in, taken_at_in, cells_taken_in, line_taken_in, page_in}
use Rattle.tocmark_read_blocks.specs.Codes.{info_of, html_ended_as, html_ended, code_taken, indented_started, fence_started, html_started}
use Rattle.tocmark_read_blocks.specs.Containers.{goes_directly, is_in_list, list_started, item_opened, begun_at, container_once_in, containers_opened_in}
use Rattle.tocmark_read_blocks.specs.Leaves.{metadata_or, rule_at}
use Rattle.tocmark_read_blocks.specs.Paragraphs.{in_paragraph, rule_started, text_started, text_taken}
use Rattle.tocmark_read_blocks.specs.declared.leaf.LeafStart.{LeafStart}
use Rattle.tocmark_read_blocks.specs.declared.leaf.LeafStart.TheVariants as start
use Rattle.tocmark_read_blocks.specs.declared.leaf.Turn.{Turn}
use Rattle.tocmark_read_blocks.specs.declared.leaf.Turn.TheVariants as turn
use Rattle.tocmark_text_laws.proofs.Pairs.{set_length, changed_length}
use Rattle.tocmark_text_laws.proofs.Leaves.{is_core}
use Rattle.tocmark_text_laws.proofs.Core.{turns_core}
use Rattle.tocmark_text_laws.proofs.Begun.{is_core_start, container_core}
use Rattle.tocmark_text_laws.proofs.Machine.{core_at, core_begun}
use Rattle.tocmark_text_laws.proofs.Turns.{turn_of_core}
use Rattle.tocmark_text_laws.proofs.Kept.{line_core}
use Rattle.tocmark_text_laws.proofs.TightWalk.{Starts, leaf_starts}

-- a step adds so many blocks and lines of leaves at most
pub record Adds (b p : ℕ) (s u : State) : Type 0 where
  pub blocks : length u.blocks ≤ length s.blocks + b
  pub pieces : length u.pieces ≤ length s.pieces + p

adds_none : (s : State) → Adds 0 0 s s
adds_none s = record { blocks = omega arith; pieces = omega arith }

adds_more : (a b p q : ℕ) (s u : State) → a ≤ b → p ≤ q → Adds a p s u → Adds b q s u
adds_more a b p q s u l m f = record { blocks = omega (arith, f.blocks, l); pieces = omega (arith, f.pieces, m) }

adds_on : (a b c p q r : ℕ) (s u v : State) → a + b ≤ c → p + q ≤ r → Adds a p s u → Adds b q u v → Adds c r s v
adds_on a b c p q r s u v l m f g = record { blocks = omega (arith, f.blocks, g.blocks, l); pieces = omega (arith, f.pieces, g.pieces, m) }

-- a change that adds nothing, and then others
then_adds : (b p : ℕ) (s u v : State) → Adds 0 0 s u → Adds b p u v → Adds b p s v
then_adds b p s u v f g = adds_on 0 b b 0 p p s u v (omega arith) (omega arith) f g

adds_then : (b p : ℕ) (s u v : State) → Adds b p s u → Adds 0 0 u v → Adds b p s v
adds_then b p s u v f g = adds_on b 0 b p 0 p s u v (omega arith) (omega arith) f g

few_changed : (bs : List Block) (i : ℕ) (f : Block → Block) → length (option_map_or (λ (b : Block). slice_set bs i (f b)) (slice_get bs i) bs) ≤ length bs + 0
few_changed bs i f = omega (arith, changed_length i f bs)

same_few : {m n : ℕ} → m ≡ n → m ≤ n + 0
same_few e = omega (arith, e)

few_taken : (n : ℕ) (ps : List Piece) → length (take n ps) ≤ length ps + 0
few_taken n ps = let w : length (take n ps) ≡ min n (length ps) = length-take n ps in omega arith

-- leaves and containers end

finished_adds : (s : State) → Adds 0 0 s (leaf_finished s)
unfolding leaf_finished finished
finished_adds s = record {
  blocks = few_changed s.blocks (length s.blocks - 1) (λ (b : Block). record b { end = s.end; last = length (take s.kept s.pieces) });
  pieces = few_taken s.kept s.pieces;
}

settled_adds : (t : List ℕ) (s : State) → Adds 0 0 s (settled t s)
unfolding settled shortened
settled_adds t s = by (slice_get s.blocks (length s.blocks - 1))
  where
    boxed : (b : Block) (k : Bool) → Adds 0 0 s (if k then s else defined_as t s b)
    boxed b true = adds_none s
    boxed b false = record { blocks = same_few (set_length s.blocks (length s.blocks - 1) _); pieces = omega arith }

    by : (o : Option Block) → Adds 0 0 s (option_map_or (settled_as t s) o s)
    by None = adds_none s
    by (Some b) = boxed b (is_some b.task)

leaf_closed_adds : (t : List ℕ) (s : State) → Adds 0 0 s (leaf_closed t s)
unfolding leaf_closed table_finished ended
leaf_closed_adds t s = by s.leaf
  where
    by : (k : Leaf) → Adds 0 0 s (leaf_closed_as k t s)
    by leaf.Nothing = adds_none s
    by leaf.Paragraph = then_adds 0 0 s (settled t s) (leaf_finished (settled t s)) (settled_adds t s) (finished_adds (settled t s))
    by leaf.Indented = finished_adds s
    by (leaf.Fenced f) = finished_adds s
    by (leaf.Html x) = finished_adds s
    by (leaf.Metadata x) = finished_adds s
    by (leaf.Table x) = record { blocks = few_changed s.blocks x.block (λ (b : Block). record b { end = s.end }); pieces = omega arith }

one_adds : (s : State) → Adds 0 0 s (one_closed s)
unfolding one_closed ended
one_adds s = by (slice_get s.opened (length s.opened - 1))
  where
    closes : Opened → State
    closes o = raised_last o.end o.line (record s { opened = take (length s.opened - 1) s.opened; blocks = option_map_or (λ (b : Block). slice_set s.blocks o.block (record b { end = o.end })) (slice_get s.blocks o.block) s.blocks })

    closed : (o : Opened) → Adds 0 0 s (closes o)
    closed o = record { blocks = few_changed s.blocks o.block (λ (b : Block). record b { end = o.end }); pieces = omega arith }

    quoted : (u : State) → Adds 0 0 s u → (b : Bool) → Adds 0 0 s (if b then record u { quotes = take (length u.quotes - 1) u.quotes } else u)
    quoted u g true = record { blocks = g.blocks; pieces = g.pieces }
    quoted u g false = g

    by : (x : Option Opened) → Adds 0 0 s (option_map_or (λ (o : Opened). quote_left o.container (closes o)) x s)
    by None = adds_none s
    by (Some o) = quoted (closes o) (closed o) (is_quote o.container)

times_add : (n : ℕ) (s : State) → Adds 0 0 s (times one_closed n s)
unfolding times
times_add zero s = adds_none s
times_add (suc n) s = then_adds 0 0 s (one_closed s) (times one_closed n (one_closed s)) (one_adds s) (times_add n (one_closed s))

closed_adds : (t : List ℕ) (depth : ℕ) (s : State) → Adds 0 0 s (closed_to t depth s)
unfolding closed_to
closed_adds t depth s = then_adds 0 0 s (leaf_closed t s) (times one_closed (length (leaf_closed t s).opened - depth) (leaf_closed t s)) (leaf_closed_adds t s) (times_add (length (leaf_closed t s).opened - depth) (leaf_closed t s))

list_left_adds : (s : State) → Adds 0 0 s (list_left s)
unfolding list_left left_noted
list_left_adds s = by (innermost s.opened)
  where
    u : State
    u = one_closed s

    noted : (o : Opened) (b : Bool) → Adds 0 0 s (if b then record u { left = Some (record { list = o.block; behind = length u.blocks; loose = is_loose u.blocks (list_of u.opened) }) } else u)
    noted o true = record { blocks = (one_adds s).blocks; pieces = (one_adds s).pieces }
    noted o false = one_adds s

    inner : (o : Opened) (b : Bool) → Adds 0 0 s (if b then left_noted o u else s)
    inner o true = noted o (is_definitions o.container)
    inner o false = adds_none s

    by : (o : Option Opened) → Adds 0 0 s (option_map_or (λ (o : Opened). if is_list o.container then left_noted o (one_closed s) else s) o s)
    by None = adds_none s
    by (Some o) = inner o (is_list o.container)

-- blocks begin

loosened_few : (list : Option ℕ) (apart : Bool) (bs : List Block) → length (loosened list apart bs) ≤ length bs + 0
unfolding loosened
loosened_few list false bs = omega arith
loosened_few None true bs = omega arith
loosened_few (Some i) true bs = few_changed bs i (λ (b : Block). record b { loose = true })

one_longer : (bs cs : List Block) (b : Block) → length cs ≤ length bs + 0 → length (cs ++ b ∷ []) ≤ length bs + 1
one_longer bs cs b l = let w : length (cs ++ b ∷ []) ≡ length cs + 1 = length-append cs (b ∷ []) in omega arith

begun_adds : (b : BlockKind) (x n : ℕ) (s : State) → Adds 1 0 s (begun b x n s)
unfolding begun
begun_adds b x n s = record {
  blocks = one_longer s.blocks (loosened (list_of s.opened) (is_apart s.opened n) s.blocks) _ (loosened_few (list_of s.opened) (is_apart s.opened n) s.blocks);
  pieces = omega arith;
}

opened_adds : (c : Container) (b : BlockKind) (x : ℕ) (line : Line) (s : State) → Adds 1 0 s (opened_with c b x line s)
unfolding opened_with
opened_adds c b x line s = by (is_quote c)
  where
    t : State
    t = begun b x line.number s

    u : State
    u = record t { opened = t.opened ++ record { container = c; block = length t.blocks - 1; end = line.end; line = line.number; had = false } ∷ [] }

    by : (q : Bool) → Adds 1 0 s (if q then record u { quotes = u.quotes ++ (length u.opened - 1) ∷ [] } else u)
    by true = record { blocks = (begun_adds b x line.number s).blocks; pieces = (begun_adds b x line.number s).pieces }
    by false = record { blocks = (begun_adds b x line.number s).blocks; pieces = (begun_adds b x line.number s).pieces }

leaf_opened_adds : (f : Leaf) (b : BlockKind) (x : ℕ) (line : Line) (s : State) → Adds 1 0 s (leaf_opened f b x line s)
unfolding leaf_opened
leaf_opened_adds f b x line s = record { blocks = v_adds.blocks; pieces = v_adds.pieces }
  where
    v : State
    v = begun b x line.number (list_left s)

    v_adds : Adds 1 0 s v
    v_adds = then_adds 1 0 s (list_left s) v (list_left_adds s) (begun_adds b x line.number (list_left s))

piece_adds : (p : Piece) (line : Line) (keeps : Bool) (s : State) → Adds 0 1 s (piece_taken p line keeps s)
unfolding piece_taken
piece_adds p line keeps s = by keeps (nat_lt 0 p.spaces || nat_lt p.start p.next)
  where
    made : Bool → State → State
    made y t = if y then record t { kept = length t.pieces; end = line.end; line = line.number } else t

    more : length (s.pieces ++ p ∷ []) ≤ length s.pieces + 1
    more = let w : length (s.pieces ++ p ∷ []) ≡ length s.pieces + 1 = length-append s.pieces (p ∷ []) in omega arith

    by : (y x : Bool) → Adds 0 1 s (made y (if x then record s { pieces = s.pieces ++ p ∷ [] } else s))
    by true true = record { blocks = omega arith; pieces = more }
    by true false = record { blocks = omega arith; pieces = omega arith }
    by false true = record { blocks = omega arith; pieces = more }
    by false false = record { blocks = omega arith; pieces = omega arith }

-- leaves take a line

html_adds : (rest : List ℕ) (s : State) → Adds 0 0 s (html_ended rest s)
unfolding html_ended
html_adds rest s = by s.leaf
  where
    ends : (b : Bool) → Adds 0 0 s (if b then leaf_finished s else s)
    ends true = finished_adds s
    ends false = adds_none s

    by : (k : Leaf) → Adds 0 0 s (html_ended_as k rest s)
    by leaf.Nothing = adds_none s
    by leaf.Paragraph = adds_none s
    by leaf.Indented = adds_none s
    by (leaf.Fenced x) = adds_none s
    by (leaf.Html k) = ends (html_ends k rest)
    by (leaf.Metadata k) = adds_none s
    by (leaf.Table x) = adds_none s

code_adds : (t : List ℕ) (cs : List Cell) (column : ℕ) (line : Line) (s : State) → Adds 0 1 s (code_taken t cs column line s)
unfolding code_taken
code_adds t cs column line s = adds_then 0 1 s u (html_ended rest u) (piece_adds (code_piece cs column line) line (keeps_line cs column s.leaf) s) (html_adds rest u)
  where
    u : State
    u = piece_taken (code_piece cs column line) line (keeps_line cs column s.leaf) s

    rest : List ℕ
    rest = bytes_between t (code_piece cs column line).start (code_piece cs column line).end

begins_adds : (x : ℕ) (s : State) → Adds 0 0 s (text_started x s)
unfolding text_started
begins_adds x s = by (slice_get s.blocks (length s.blocks - 1))
  where
    inside : (b : Block) (k : Bool) → Adds 0 0 s (if k then record s { blocks = slice_set s.blocks (length s.blocks - 1) (record b { start = x }) } else s)
    inside b true = record { blocks = omega (arith, set_length s.blocks (length s.blocks - 1) (record b { start = x })); pieces = omega arith }
    inside b false = adds_none s

    by : (o : Option Block) → Adds 0 0 s (option_map_or (λ (b : Block). if nat_le (length s.pieces) b.first then record s { blocks = slice_set s.blocks (length s.blocks - 1) (record b { start = x }) } else s) o s)
    by None = adds_none s
    by (Some b) = inside b (nat_le (length s.pieces) b.first)

-- a leaf begins after containers that end
leaf_adds : (t : List ℕ) (f : Leaf) (b : BlockKind) (x depth : ℕ) (line : Line) (s : State) → Adds 1 0 s (leaf_opened f b x line (closed_to t depth s))
leaf_adds t f b x depth line s = then_adds 1 0 s (closed_to t depth s) (leaf_opened f b x line (closed_to t depth s)) (closed_adds t depth s) (leaf_opened_adds f b x line (closed_to t depth s))

text_adds : (t : List ℕ) (cs : List Cell) (line : Line) (place : LineStart) (s : State) → Adds 1 1 s (text_taken t cs line place s)
unfolding text_taken
text_adds t cs line place s =
    adds_on 1 0 1 0 1 1 s (text_started words.start u) (piece_taken words line true (text_started words.start u)) (omega arith) (omega arith)
    (adds_then 1 0 s u (text_started words.start u) (inside (is_paragraph s.leaf)) (begins_adds words.start u))
    (piece_adds words line true (text_started words.start u))
  where
    words : Piece
    words = text_piece cs place.cursor line

    u : State
    u = in_paragraph t cs line place s

    inside : (b : Bool) → Adds 1 0 s (if b then s else leaf_opened leaf.Paragraph kind.Paragraph words.start line (closed_to t place.depth s))
    inside true = adds_more 0 1 0 0 s s (omega arith) (omega arith) (adds_none s)
    inside false = leaf_adds t leaf.Paragraph kind.Paragraph words.start place.depth line s

-- the open leaf ends with this line
ended_adds : (line : Line) (s : State) (bs : List Block) → length bs ≤ length s.blocks + 0 → Adds 0 0 s (leaf_finished (record s { blocks = bs; end = line.end; line = line.number }))
ended_adds line s bs few = then_adds 0 0 s u (leaf_finished u) (record { blocks = few; pieces = omega arith }) (finished_adds u)
  where
    u : State
    u = record s { blocks = bs; end = line.end; line = line.number }

rule_adds : (t : List ℕ) (cs : List Cell) (line : Line) (place : LineStart) (s : State) → Adds 1 0 s (rule_started t cs line place s)
unfolding rule_started
rule_adds t cs line place s = adds_then 1 0 s u (leaf_finished u) (leaf_adds t leaf.Nothing kind.Rule (start_of cs place line) place.depth line s) (finished_adds u)
  where
    u : State
    u = leaf_opened leaf.Nothing kind.Rule (start_of cs place line) line (closed_to t place.depth s)

-- in a line, one block and one line of a leaf at most
abbrev AddsOne : State → State → Type 0
AddsOne s u = Adds 1 1 s u

underline_adds : (t : List ℕ) (cs : List Cell) (line : Line) (tail : Tail) (place : LineStart) (level : HeadingLevel) (s : State) → AddsOne s (underline_taken_in core_known t cs line tail place level s)
unfolding underline_taken_in metadata_in metadata_or underlined_in underlined rule_at
underline_adds t cs line tail place level s = then_adds 1 1 s u _ (settled_adds t s) (by (has_text u) (is_rule cs tail place.cursor.ink))
  where
    u : State
    u = settled t s

    by : (b r : Bool) → AddsOne u (underlined_if core_known b (if r then start.Rule else start.Text) t cs line place level u)
    by true r = adds_more 0 1 0 1 u _ (omega arith) (omega arith) (ended_adds line u (of_kind (kind.Heading level None) u.blocks) (few_changed u.blocks (length u.blocks - 1) (λ (b : Block). record b { kind = kind.Heading level None })))
    by false true = adds_more 1 1 0 1 u _ (omega arith) (omega arith) (rule_adds t cs line place u)
    by false false = text_adds t cs line place u

started_adds : (t : List ℕ) (cs : List Cell) (line : Line) (tail : Tail) (place : LineStart) (blank : Bool) (s : State) (b : LeafStart) → Starts blank b → AddsOne s (started_in core_known b t cs line tail place s)
unfolding started_in indented_started fence_started html_started heading_started_in heading_put info_of
started_adds t cs line tail place blank s b w = by b w
  where
    u : State
    u = closed_to t place.depth s

    code : (f : Leaf) (x : BlockKind) (n column : ℕ) → AddsOne s (code_taken t cs column line (leaf_opened f x n line u))
    code f x n column = adds_on 1 0 1 0 1 1 s (leaf_opened f x n line u) (code_taken t cs column line (leaf_opened f x n line u)) (omega arith) (omega arith) (leaf_adds t f x n place.depth line s) (code_adds t cs column line (leaf_opened f x n line u))

    by : (b : LeafStart) → Starts blank b → AddsOne s (started_in core_known b t cs line tail place s)
    by start.Blank w = adds_more 0 1 0 1 s u (omega arith) (omega arith) (closed_adds t place.depth s)
    by start.Text w = text_adds t cs line place s
    by (start.Indented column) w = code leaf.Indented kind.Indented (cell_place cs column line.end) column
    by (start.Heading x) w = adds_then 1 1 s v (leaf_finished v) (adds_on 1 0 1 0 1 1 s o v (omega arith) (omega arith) (leaf_adds t leaf.Nothing (kind.Heading x.level None) (start_of cs place line) place.depth line s) (piece_adds (heading_piece cs x line) line true o)) (finished_adds v)
      where
        o : State
        o = leaf_opened leaf.Nothing (kind.Heading x.level None) (start_of cs place line) line u

        v : State
        v = piece_taken (heading_piece cs x line) line true o
    by (start.Fence f) w = adds_more 1 1 0 1 s _ (omega arith) (omega arith) (leaf_adds t (leaf.Fenced f) (info_of cs place.cursor f line) (start_of cs place line) place.depth line s)
    by (start.Html x) w = code (leaf.Html x) kind.Html (cell_place cs place.cursor.column line.end) place.cursor.column
    by (start.Underline level) w = underline_adds t cs line tail place level s
    by start.Rule w = adds_more 1 1 0 1 s _ (omega arith) (omega arith) (rule_adds t cs line place s)
    by (start.Metadata x) w = absurd w
    by (start.Task d) w = absurd w
    by (start.QuoteKind x) w = absurd w

leaf_at_adds : (t : List ℕ) (cs : List Cell) (line : Line) (place : LineStart) (s : State) → AddsOne s (started_at_in core_known t cs line (tail_of cs) (s, place))
leaf_at_adds t cs line place s = subst (AddsOne s) (sym (core_begun t cs line (tail_of cs) s place))
    (started_adds t cs line (tail_of cs) place (is_blank_at cs place.cursor) s (core_at t cs line (tail_of cs) s place) (leaf_starts cs (bytes_between t (start_of cs place line) line.end) (tail_of cs) place.cursor (is_paragraph s.leaf) (goes_directly place.depth s)))

-- containers begin

list_adds : (i : ItemStart) (x : ℕ) (line : Line) (s : State) → Adds 1 0 s (list_started i x line s)
unfolding list_started
list_adds i x line s = by (is_in_list i.sort s)
  where
    by : (b : Bool) → Adds 1 0 s (if b then s else opened_with (container.List i.sort) (kind.List i.number) x line (list_left s))
    by true = adds_more 0 1 0 0 s s (omega arith) (omega arith) (adds_none s)
    by false = then_adds 1 0 s (list_left s) _ (list_left_adds s) (opened_adds (container.List i.sort) (kind.List i.number) x line (list_left s))

quote_adds : (t : List ℕ) (cs : List Cell) (line : Line) (place : LineStart) (s : State) → Adds 2 0 s ((quote_opened t cs line place s).0)
unfolding quote_opened
quote_adds t cs line place s =
    adds_more 1 2 0 0 s _ (omega arith) (omega arith)
    (then_adds 1 0 s u (opened_with container.Quote (kind.Quote None) (start_of cs place line) line u)
    (then_adds 0 0 s (closed_to t place.depth s) u (closed_adds t place.depth s) (list_left_adds (closed_to t place.depth s)))
    (opened_adds container.Quote (kind.Quote None) (start_of cs place line) line u))
  where
    u : State
    u = list_left (closed_to t place.depth s)

item_adds : (t : List ℕ) (cs : List Cell) (line : Line) (place : LineStart) (i : ItemStart) (s : State) → Adds 2 0 s ((item_opened t cs line place i s).0)
unfolding item_opened
item_adds t cs line place i s =
    adds_on 1 1 2 0 0 0 s v (opened_with (container.Item i.width) kind.Item (start_of cs place line) line v) (omega arith) (omega arith)
    (then_adds 1 0 s u v (closed_adds t place.depth s) (list_adds i (start_of cs place line) line u))
    (opened_adds (container.Item i.width) kind.Item (start_of cs place line) line v)
  where
    u : State
    u = closed_to t place.depth s

    v : State
    v = list_started i (start_of cs place line) line u

begun_at_adds : (t : List ℕ) (cs : List Cell) (line : Line) (place : LineStart) (s : State) (o : Option ContainerStart) → is_core_start o ≡ true → Adds 2 0 s ((begun_at t cs line place s o).0)
unfolding is_core_start
begun_at_adds t cs line place s None c = adds_more 0 2 0 0 s s (omega arith) (omega arith) (adds_none s)
begun_at_adds t cs line place s (Some begins.Quote) c = quote_adds t cs line place s
begun_at_adds t cs line place s (Some (begins.Item i)) c = item_adds t cs line place i s
begun_at_adds t cs line place s (Some (begins.Footnote n)) c = absurd cc
begun_at_adds t cs line place s (Some (begins.Definition d)) c = absurd cc

once_adds : (t : List ℕ) (cs : List Cell) (line : Line) (tail : Tail) (place : LineStart) (s : State) → Adds 2 0 s ((container_once_in CORE t cs line tail place s).0)
unfolding container_once_in
once_adds t cs line tail place s = begun_at_adds t cs line place s (container_in CORE cs tail place.cursor (goes_directly place.depth s)) (container_core cs tail place.cursor (goes_directly place.depth s))

repeat_adds : (t : List ℕ) (cs : List Cell) (line : Line) (tail : Tail) (n : ℕ) (place : LineStart) (s : State) → Adds (2 * n) 0 s ((repeated (container_once_in CORE t cs line tail) n place s).0)
unfolding repeated
repeat_adds t cs line tail zero place s = adds_more 0 (2 * 0) 0 0 s s (omega arith) (omega arith) (adds_none s)
repeat_adds t cs line tail (suc n) place s = by (container_once_in CORE t cs line tail place s) (once_adds t cs line tail place s) (λ d u. repeat_adds t cs line tail n d u)
  where
    more : LineStart → State → State × LineStart
    more = λ d u. repeated (container_once_in CORE t cs line tail) n d u

    by : (r : State × Option LineStart) → Adds 2 0 s (r.0) → ((d : LineStart) (u : State) → Adds (2 * n) 0 u ((more d u).0)) → Adds (2 * suc n) 0 s ((going more place r).0)
    by (u, None) g again = adds_more 2 (2 * suc n) 0 0 s u (omega arith) (omega arith) g
    by (u, Some d) g again = adds_on 2 (2 * n) (2 * suc n) 0 0 0 s u ((more d u).0) (omega arith) (omega arith) g (again d u)

-- what a line with these columns adds
abbrev AddsLine : List Cell → State → State → Type 0
AddsLine cs s u = Adds (2 * length cs + 1) 1 s u

leaf_started_adds : (t : List ℕ) (cs : List Cell) (line : Line) (place : LineStart) (s : State) → AddsLine cs s (leaf_started_in core_known t cs line place s)
unfolding leaf_started_in
leaf_started_adds t cs line place s = by (containers_opened_in CORE t cs line (tail_of cs) place s) (repeat_adds t cs line (tail_of cs) (length cs) place s)
  where
    by : (r : State × LineStart) → Adds (2 * length cs) 0 s (r.0) → AddsLine cs s (started_at_in core_known t cs line (tail_of cs) r)
    by (u, next) g = adds_on (2 * length cs) 1 (2 * length cs + 1) 0 1 1 s u (started_at_in core_known t cs line (tail_of cs) (u, next)) (omega arith) (omega arith) g (leaf_at_adds t cs line next u)

turned_adds : (t : List ℕ) (cs : List Cell) (line : Line) (place : LineStart) (s : State) (u : Turn) → turns_core u s.leaf ≡ true → AddsLine cs s (turn_taken_in core_known u t cs line place s)
unfolding passed_in turns_core leaf_ended
turned_adds t cs line place s turn.Closes g = adds_more 0 (2 * length cs + 1) 0 1 s _ (omega arith) (omega arith) (ended_adds line s s.blocks (omega arith))
turned_adds t cs line place s (turn.Takes column) g = adds_more 0 (2 * length cs + 1) 1 1 s _ (omega arith) (omega arith) (code_adds t cs column line s)
turned_adds t cs line place s turn.Passes g = leaf_started_adds t cs line place s
turned_adds t cs line place s (turn.Row x) g = absurd cc

touched_adds : (line : Line) (depth : ℕ) (s : State) → Adds 0 0 s (touched line depth s)
unfolding touched
touched_adds line depth s = record { blocks = omega arith; pieces = omega arith }

-- a byte has four columns at most
filled_few : (cs : List Cell) (b at : ℕ) → length (filled cs b at) ≤ length cs + 4
unfolding filled
filled_few cs b at = by (b == 9)
  where
    by : (x : Bool) → length (if x then cs ++ replicate (4 - length cs % 4) (cell 32 at) else cs ++ cell b at ∷ []) ≤ length cs + 4
    by true =
        let w : length (cs ++ replicate (4 - length cs % 4) (cell 32 at)) ≡ length cs + length (replicate (4 - length cs % 4) (cell 32 at)) = length-append cs (replicate (4 - length cs % 4) (cell 32 at)) in
        let q : length (replicate (4 - length cs % 4) (cell 32 at)) ≡ 4 - length cs % 4 = length-replicate (4 - length cs % 4) (cell 32 at) in
        omega arith
    by false = let w : length (cs ++ cell b at ∷ []) ≡ length cs + 1 = length-append cs (cell b at ∷ []) in omega arith

cells_few : (cs : List Cell) (at : ℕ) (bs : List ℕ) → length (cells_of cs at bs) ≤ length cs + 4 * length bs
cells_few cs at [] = omega arith
cells_few cs at (b ∷ bs) =
    let w : length (cells_of (filled cs b at) (plus at 1) bs) ≤ length (filled cs b at) + 4 * length bs = cells_few (filled cs b at) (plus at 1) bs in
    let q : length (filled cs b at) ≤ length cs + 4 = filled_few cs b at in
    omega arith

pub between_few : (t : List ℕ) (a b : ℕ) → length (bytes_between t a b) ≤ length t
between_few t a b = by (nat_le a b && nat_le b (length t))
  where
    by : (x : Bool) → length (if x then slice_range t a b else []) ≤ length t
    by true = let w : length (take (b - a) (drop a t)) ≡ min (b - a) (length (drop a t)) = length-take (b - a) (drop a t) in let q : length (drop a t) ≡ length t - a = length-drop a t in omega arith
    by false = omega arith

touched_core : (line : Line) (depth : ℕ) (s : State) → is_core s.leaf ≡ true → is_core (touched line depth s).leaf ≡ true
unfolding touched
touched_core line depth s c = c

line_adds : (t : List ℕ) (line : Line) (s : State) → length t < 2 ^ 30 → is_core s.leaf ≡ true → Adds (2 ^ 33) 1 s (line_taken_in core_known t s line)
unfolding line_taken_in cells_taken_in turn_in
line_adds t line s short c = adds_more (2 * length cells + 1) (2 ^ 33) 1 1 s _ (omega (arith, few)) (omega arith) (by (matched cells s.opened s.quotes))
  where
    cells : List Cell
    cells = cells_of [] line.start (bytes_between t line.start line.end)

    few : length cells ≤ 4 * length t
    few = let w : length cells ≤ 0 + 4 * length (bytes_between t line.start line.end) = cells_few [] line.start (bytes_between t line.start line.end) in omega (arith, w, between_few t line.start line.end)

    by : (found : ℕ × Cursor) → AddsLine cells s (taken_at_in core_known t cells line (record { cursor = found.1; depth = found.0 }) (touched line (found.0) s))
    by (depth, cursor) = then_adds (2 * length cells + 1) 1 s (touched line depth s) _ (touched_adds line depth s)
        (turned_adds t cells line (record { cursor = cursor; depth = depth }) (touched line depth s) _ (turn_of_core t cells line (record { cursor = cursor; depth = depth }) (touched line depth s) (touched_core line depth s c)))

lines_add : (t : List ℕ) (ls : List Line) (s : State) → length t < 2 ^ 30 → is_core s.leaf ≡ true → Adds (2 ^ 33 * length ls) (length ls) s (fold (line_taken_in core_known t) s ls)
lines_add t [] s short c = adds_more 0 (2 ^ 33 * 0) 0 0 s s (omega arith) (omega arith) (adds_none s)
lines_add t (l ∷ ls) s short c = adds_on (2 ^ 33) (2 ^ 33 * length ls) (2 ^ 33 * suc (length ls)) 1 (length ls) (suc (length ls)) s (line_taken_in core_known t s l) (fold (line_taken_in core_known t) (line_taken_in core_known t s l) ls)
    (omega arith) (omega arith) (line_adds t l s short c) (lines_add t ls (line_taken_in core_known t s l) short (line_core t l s c))

-- a text has one line more than bytes at most
lines_few : (t : List ℕ) (before start at : ℕ) (rest : List ℕ) → length (lines_from t before start at rest) ≤ length rest + 1
lines_few t before start at [] = by (nat_lt start at)
  where
    by : (b : Bool) → length (if b then line before start at at ∷ [] else []) ≤ 0 + 1
    by true = omega arith
    by false = omega arith
lines_few t before start at (b ∷ bs) = by (ends_here t b at) (lines_few t (before + 1) (at + 1) (at + 1) bs) (lines_few t before start (at + 1) bs)
  where
    by : (x : Bool) → length (lines_from t (before + 1) (at + 1) (at + 1) bs) ≤ length bs + 1 → length (lines_from t before start (at + 1) bs) ≤ length bs + 1
        → length (if x then line before start (line_stop t start b at) (at + 1) ∷ lines_from t (before + 1) (at + 1) (at + 1) bs else lines_from t before start (at + 1) bs) ≤ suc (length bs) + 1
    by true l m = omega arith
    by false l m = omega arith

-- the blocks of a text, and the lines of its leaves
pub page_few : (t : List ℕ) → length t < 2 ^ 30 → (length (page_in CORE t).blocks ≤ 2 ^ 63) × (length (page_in CORE t).pieces ≤ 2 ^ 30)
unfolding page_in known_of is_core
page_few t short =
    let n : length (lines_of t) ≤ length t + 1 = lines_few t 0 0 0 t in
    let all : Adds (2 ^ 33 * length (lines_of t)) (length (lines_of t)) first_page (closed_to t 0 last) = adds_then (2 ^ 33 * length (lines_of t)) (length (lines_of t)) first_page last (closed_to t 0 last) (lines_add t (lines_of t) first_page short refl) (closed_adds t 0 last) in
    (omega (arith, all.blocks, n), omega (arith, all.pieces, n))
  where
    last : State
    last = fold (line_taken_in core_known t) first_page (lines_of t)

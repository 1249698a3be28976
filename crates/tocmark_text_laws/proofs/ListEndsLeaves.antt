-- No leaf is open directly in a list.
use Rattle.std.proofs.Common.{◌≡◌, ◌⊎◌, inl, inr, ℕ, ◌-◌, Bool, true, false, ◌||◌, if◌then◌else◌, nat_lt, nat_le, List, [], ◌∷◌, ◌++◌, length, refl, ap, sym, subst, ◌∙◌}
use Rattle.std.specs.Prelude.{slice_get, slice_set, Option, Some, None}
use Rattle.std.specs.List.{fold}
use Rattle.std.specs.Option.{option_map_or}
use Rattle.tocmark_event.specs.declared.event.HeadingLevel.{HeadingLevel}
use Rattle.tocmark_read_scan.specs.Basic.{bytes_between}
use Rattle.tocmark_read_scan.specs.declared.syntax.TheConstants.{CORE}
use Rattle.tocmark_read_lines.specs.Cells.{cells_of, cell_place}
use Rattle.tocmark_read_lines.specs.Containers.{matched, container_in}
use Rattle.tocmark_read_lines.specs.Html.{html_ends}
use Rattle.tocmark_read_lines.specs.Marks.{is_rule, tail_of}
use Rattle.tocmark_read_lines.specs.declared.beginnings.Tail.{Tail}
use Rattle.tocmark_read_lines.specs.declared.cell.Cell.{Cell}
use Rattle.tocmark_read_lines.specs.declared.cell.Cursor.{Cursor}
use Rattle.tocmark_read_lines.specs.declared.container.ContainerStart.{ContainerStart}
use Rattle.tocmark_read_lines.specs.declared.container.ContainerStart.TheVariants as begins
use Rattle.tocmark_read_lines.specs.declared.line.Line.{Line}
use Rattle.tocmark_read_page.specs.Leaves.{is_paragraph}
use Rattle.tocmark_read_page.specs.Pages.{State, leaf_finished, settled, closed_to, list_left, begun, leaf_opened, has_text, piece_taken, start_of, of_kind}
use Rattle.tocmark_read_page.specs.Pieces.{code_piece, keeps_line, text_piece}
use Rattle.tocmark_read_page.specs.declared.leaf.Leaf.{Leaf}
use Rattle.tocmark_read_page.specs.declared.leaf.Leaf.TheVariants as leaf
use Rattle.tocmark_read_page.specs.declared.line_start.LineStart.{LineStart}
use Rattle.tocmark_read_page.specs.declared.page.Block.{Block}
use Rattle.tocmark_read_page.specs.declared.page.BlockKind.{BlockKind}
use Rattle.tocmark_read_page.specs.declared.page.BlockKind.TheVariants as kind
use Rattle.tocmark_read_page.specs.declared.piece.Piece.{Piece}
use Rattle.tocmark_read_constructs.specs.Headings.{heading_put, heading_started_in, underlined, underlined_in}
use Rattle.tocmark_read_constructs.specs.Metadata.{metadata_in}
use Rattle.tocmark_read_blocks.specs.Blocks.{core_known, rule_or_text, underlined_if, underline_taken_in, started_in, started_at_in, leaf_started_in, passed_in, turn_in, leaf_ended, touched, turn_taken_in, taken_at_in, cells_taken_in, line_taken_in}
use Rattle.tocmark_read_blocks.specs.Codes.{info_of, html_ended_as, html_ended, code_taken, indented_started, fence_started, html_started}
use Rattle.tocmark_read_blocks.specs.Containers.{goes_directly, begun_at, container_once_in, containers_opened_in}
use Rattle.tocmark_read_blocks.specs.Leaves.{metadata_or, rule_at}
use Rattle.tocmark_read_blocks.specs.Paragraphs.{text_started, in_paragraph, text_taken, rule_started}
use Rattle.tocmark_read_blocks.specs.declared.leaf.LeafStart.{LeafStart}
use Rattle.tocmark_read_blocks.specs.declared.leaf.LeafStart.TheVariants as start
use Rattle.tocmark_read_blocks.specs.declared.leaf.Turn.{Turn}
use Rattle.tocmark_read_blocks.specs.declared.leaf.Turn.TheVariants as turn
use Rattle.tocmark_text_laws.proofs.Leaves.{is_core}
use Rattle.tocmark_text_laws.proofs.Shut.{finished_shut, closed_shut}
use Rattle.tocmark_text_laws.proofs.Core.{begins_core, leaf_core, repeated_keeps, settled_leaf, turns_core}
use Rattle.tocmark_text_laws.proofs.Begun.{is_core_start, container_core, item_shut, quote_shut}
use Rattle.tocmark_text_laws.proofs.Machine.{core_at, core_begun}
use Rattle.tocmark_text_laws.proofs.Turns.{turn_of_core}
use Rattle.tocmark_text_laws.proofs.Kept.{line_core}
use Rattle.tocmark_text_laws.proofs.Sorted.{containers, had_containers, touched_containers}
use Rattle.tocmark_text_laws.proofs.Houses.{Housed, Home, in_list, same_home, settled_same, closed_to_house, list_left_house}
use Rattle.tocmark_text_laws.proofs.HouseWalk.{containers_home, line_home}

abbrev pub Deep : State → Type 0
Deep s = (s.leaf ≡ leaf.Nothing) ⊎ (in_list false (containers s.opened) ≡ false)

same_deep : (s u : State) → u.leaf ≡ s.leaf → containers u.opened ≡ containers s.opened → Deep s → Deep u
same_deep s u e f (inl h) = inl (e ∙ h)
same_deep s u e f (inr h) = inr (ap (in_list false) f ∙ h)

piece_deep : (p : Piece) (line : Line) (keeps : Bool) (s : State) → Deep s → Deep (piece_taken p line keeps s)
unfolding piece_taken
piece_deep p line keeps s h = by (nat_lt 0 p.spaces || nat_lt p.start p.next) keeps
  where
    by : (x y : Bool) → Deep (let t = if x then record s { pieces = s.pieces ++ p ∷ [] } else s in if y then record t { kept = length t.pieces; end = line.end; line = line.number } else t)
    by true true = h
    by true false = h
    by false true = h
    by false false = h

code_deep : (t : List ℕ) (cs : List Cell) (column : ℕ) (line : Line) (s : State) → Deep s → Deep (code_taken t cs column line s)
unfolding code_taken html_ended
code_deep t cs column line s h = by u.leaf
  where
    rest : List ℕ
    rest = bytes_between t (code_piece cs column line).start (code_piece cs column line).end

    u : State
    u = piece_taken (code_piece cs column line) line (keeps_line cs column s.leaf) s

    same : Deep u
    same = piece_deep (code_piece cs column line) line (keeps_line cs column s.leaf) s h

    ends : (b : Bool) → Deep (if b then leaf_finished u else u)
    ends true = inl (finished_shut u)
    ends false = same

    by : (k : Leaf) → Deep (html_ended_as k rest u)
    by leaf.Nothing = same
    by leaf.Paragraph = same
    by leaf.Indented = same
    by (leaf.Fenced x) = same
    by (leaf.Html k) = ends (html_ends k rest)
    by (leaf.Metadata k) = same
    by (leaf.Table x) = same

leaf_deep : (f : Leaf) (k : BlockKind) (x : ℕ) (line : Line) (s : State) → Housed s → Deep (leaf_opened f k x line s)
unfolding leaf_opened begun
leaf_deep f k x line s h = inr (ap (in_list false) (had_containers (list_left s).opened) ∙ (list_left_house s h).1)

begins_deep : (t : List ℕ) (d : ℕ) (f : Leaf) (k : BlockKind) (x : ℕ) (line : Line) (s : State) → Home s → Deep (leaf_opened f k x line (closed_to t d s))
begins_deep t d f k x line s h = leaf_deep f k x line (closed_to t d s) (closed_to_house t d s h.house)

text_started_deep : (x : ℕ) (s : State) → Deep s → Deep (text_started x s)
unfolding text_started
text_started_deep x s h = by (slice_get s.blocks (length s.blocks - 1))
  where
    inner : (b : Block) (k : Bool) → Deep (if k then record s { blocks = slice_set s.blocks (length s.blocks - 1) (record b { start = x }) } else s)
    inner b true = h
    inner b false = h

    by : (o : Option Block) → Deep (option_map_or (λ (b : Block). if nat_le (length s.pieces) b.first then record s { blocks = slice_set s.blocks (length s.blocks - 1) (record b { start = x }) } else s) o s)
    by None = h
    by (Some b) = inner b (nat_le (length s.pieces) b.first)

text_deep : (t : List ℕ) (cs : List Cell) (line : Line) (place : LineStart) (s : State) → Home s → Deep s → Deep (text_taken t cs line place s)
unfolding text_taken
text_deep t cs line place s h d =
    piece_deep (text_piece cs place.cursor line) line true (text_started (text_piece cs place.cursor line).start (in_paragraph t cs line place s))
    (text_started_deep (text_piece cs place.cursor line).start (in_paragraph t cs line place s) (by (is_paragraph s.leaf)))
  where
    by : (b : Bool) → Deep (if b then s else leaf_opened leaf.Paragraph kind.Paragraph (text_piece cs place.cursor line).start line (closed_to t place.depth s))
    by true = d
    by false = begins_deep t place.depth leaf.Paragraph kind.Paragraph (text_piece cs place.cursor line).start line s h

rule_deep : (t : List ℕ) (cs : List Cell) (line : Line) (place : LineStart) (s : State) → Deep (rule_started t cs line place s)
unfolding rule_started
rule_deep t cs line place s = inl (finished_shut (leaf_opened leaf.Nothing kind.Rule (start_of cs place line) line (closed_to t place.depth s)))

rule_or_text_deep : (t : List ℕ) (cs : List Cell) (line : Line) (tail : Tail) (place : LineStart) (s : State) → Home s → Deep s → Deep (rule_or_text (rule_at cs tail place.cursor.ink) t cs line place s)
unfolding rule_at
rule_or_text_deep t cs line tail place s h d = by (is_rule cs tail place.cursor.ink)
  where
    by : (b : Bool) → Deep (rule_or_text (if b then start.Rule else start.Text) t cs line place s)
    by true = rule_deep t cs line place s
    by false = text_deep t cs line place s h d

underline_deep : (t : List ℕ) (cs : List Cell) (line : Line) (tail : Tail) (place : LineStart) (level : HeadingLevel) (s : State) → Home s → Deep s → Deep (underline_taken_in core_known t cs line tail place level s)
unfolding underline_taken_in metadata_in metadata_or underlined_in underlined
underline_deep t cs line tail place level s h d = by (has_text u)
  where
    u : State
    u = settled t s

    home : Home u
    home = same_home s u ((settled_same t s).0) (ap containers ((settled_same t s).1)) (ap is_paragraph (settled_leaf t s)) h

    by : (b : Bool) → Deep (underlined_if core_known b (rule_at cs tail place.cursor.ink) t cs line place level u)
    by true = inl (finished_shut (record u { blocks = of_kind (kind.Heading level None) u.blocks; end = line.end; line = line.number }))
    by false = rule_or_text_deep t cs line tail place u home (same_deep s u (settled_leaf t s) (ap containers ((settled_same t s).1)) d)

started_deep : (t : List ℕ) (cs : List Cell) (line : Line) (tail : Tail) (place : LineStart) (s : State) (b : LeafStart) → Home s → Deep s → begins_core b ≡ true → Deep (started_in core_known b t cs line tail place s)
unfolding started_in begins_core indented_started fence_started html_started heading_started_in heading_put info_of
started_deep t cs line tail place s start.Blank h d k = inl (closed_shut t place.depth s)
started_deep t cs line tail place s start.Text h d k = text_deep t cs line place s h d
started_deep t cs line tail place s (start.Indented column) h d k = code_deep t cs column line _ (begins_deep t place.depth leaf.Indented kind.Indented (cell_place cs column line.end) line s h)
started_deep t cs line tail place s (start.Heading x) h d k = inl (finished_shut _)
started_deep t cs line tail place s (start.Fence f) h d k = begins_deep t place.depth (leaf.Fenced f) (info_of cs place.cursor f line) (start_of cs place line) line s h
started_deep t cs line tail place s (start.Html x) h d k = code_deep t cs place.cursor.column line _ (begins_deep t place.depth (leaf.Html x) kind.Html (cell_place cs place.cursor.column line.end) line s h)
started_deep t cs line tail place s (start.Underline level) h d k = underline_deep t cs line tail place level s h d
started_deep t cs line tail place s start.Rule h d k = rule_deep t cs line place s
started_deep t cs line tail place s (start.Metadata x) h d k = absurd cc
started_deep t cs line tail place s (start.Task x) h d k = absurd cc
started_deep t cs line tail place s (start.QuoteKind x) h d k = absurd cc

begun_deep : (t : List ℕ) (cs : List Cell) (line : Line) (place : LineStart) (s : State) (o : Option ContainerStart) → is_core_start o ≡ true → Deep s → Deep ((begun_at t cs line place s o).0)
unfolding is_core_start
begun_deep t cs line place s None k d = d
begun_deep t cs line place s (Some begins.Quote) k d = inl (quote_shut t cs line place s)
begun_deep t cs line place s (Some (begins.Item i)) k d = inl (item_shut t cs line place i s)
begun_deep t cs line place s (Some (begins.Footnote n)) k d = absurd cc
begun_deep t cs line place s (Some (begins.Definition x)) k d = absurd cc

containers_deep : (t : List ℕ) (cs : List Cell) (line : Line) (tail : Tail) (place : LineStart) (s : State) → Deep s → Deep ((containers_opened_in CORE t cs line tail place s).0)
unfolding container_once_in
containers_deep t cs line tail place s d =
    repeated_keeps (λ (u : State). Deep u) (container_once_in CORE t cs line tail)
    (λ next u k. begun_deep t cs line next u (container_in CORE cs tail next.cursor (goes_directly next.depth u)) (container_core cs tail next.cursor (goes_directly next.depth u)) k)
    (length cs) place s d

leaf_started_deep : (t : List ℕ) (cs : List Cell) (line : Line) (place : LineStart) (s : State) → Home s → Deep s → Deep (leaf_started_in core_known t cs line place s)
unfolding leaf_started_in
leaf_started_deep t cs line place s h d = by (containers_opened_in CORE t cs line (tail_of cs) place s) (containers_home t cs line (tail_of cs) place s h) (containers_deep t cs line (tail_of cs) place s d)
  where
    by : (r : State × LineStart) → Home (r.0) → Deep (r.0) → Deep (started_at_in core_known t cs line (tail_of cs) r)
    by (u, next) k e = subst (λ (x : State). Deep x) (sym (core_begun t cs line (tail_of cs) u next))
        (started_deep t cs line (tail_of cs) next u (core_at t cs line (tail_of cs) u next) k e (leaf_core cs (bytes_between t (start_of cs next line) line.end) (tail_of cs) next.cursor (is_paragraph u.leaf) (goes_directly next.depth u)))

turned_deep : (t : List ℕ) (cs : List Cell) (line : Line) (place : LineStart) (s : State) (u : Turn) → Home s → Deep s → turns_core u s.leaf ≡ true → Deep (turn_taken_in core_known u t cs line place s)
unfolding passed_in turns_core leaf_ended
turned_deep t cs line place s turn.Closes h d k = inl (finished_shut (record s { end = line.end; line = line.number }))
turned_deep t cs line place s (turn.Takes column) h d k = code_deep t cs column line s d
turned_deep t cs line place s turn.Passes h d k = leaf_started_deep t cs line place s h d
turned_deep t cs line place s (turn.Row x) h d k = absurd cc

line_deep : (t : List ℕ) (line : Line) (s : State) → is_core s.leaf ≡ true → Home s → Deep s → Deep (line_taken_in core_known t s line)
unfolding line_taken_in cells_taken_in touched turn_in
line_deep t line s c h d = by (matched cells s.opened s.quotes)
  where
    cells : List Cell
    cells = cells_of [] line.start (bytes_between t line.start line.end)

    by : (found : ℕ × Cursor) → Deep (taken_at_in core_known t cells line (record { cursor = found.1; depth = found.0 }) (touched line (found.0) s))
    by (depth, cursor) =
        turned_deep t cells line (record { cursor = cursor; depth = depth }) (touched line depth s) _
        (same_home s _ refl (touched_containers depth line.end line.number s.quotes s.opened) refl h)
        (same_deep s (touched line depth s) refl (touched_containers depth line.end line.number s.quotes s.opened) d)
        (turn_of_core t cells line (record { cursor = cursor; depth = depth }) (touched line depth s) c)

pub lines_deep : (t : List ℕ) (ls : List Line) (s : State) → is_core s.leaf ≡ true → Home s → Deep s → Deep (fold (line_taken_in core_known t) s ls)
lines_deep t [] s c h d = d
lines_deep t (l ∷ ls) s c h d = lines_deep t ls (line_taken_in core_known t s l) (line_core t l s c) (line_home t l s c h) (line_deep t l s c h d)

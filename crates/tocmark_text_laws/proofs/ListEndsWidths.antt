-- The items that are open go on in indented lines alone.
use Rattle.std.proofs.Common.{◌≡◌, ℕ, zero, suc, ◌-◌, ◌*◌, ◌^◌, ◌<◌, ◌≤◌, Bool, true, false, not, ◌&&◌, ◌||◌, cond, if◌then◌else◌, nat_lt, nat_le, List, [], ◌∷◌, ◌++◌, length, take, drop, refl, ap, sym, subst, ◌∙◌, arith, length-take}
use Rattle.std.specs.Prelude.{slice_get, slice_set, take_while, ◌==◌, Option, Some, None, is_some}
use Rattle.std.specs.List.{AllByRecursion, fold}
use Rattle.std.specs.Option.{option_map, option_map_or, option_and_then, option_or}
use Rattle.std.proofs.lemmas.Bool.Decides.{nat_tests}
use Rattle.std.proofs.lemmas.List.{map-append, length-drop}
use Rattle.std.proofs.lemmas.List.Sums.{take_while-cons}
use Rattle.tocmark_event.specs.declared.event.HeadingLevel.{HeadingLevel}
use Rattle.tocmark_read_scan.specs.Basic.{plus, bytes_between}
use Rattle.tocmark_read_scan.specs.declared.syntax.TheConstants.{CORE}
use Rattle.tocmark_read_lines.specs.Cells.{cells_of, cell_byte, cell_place, bytes_of, indent_of, ink_from}
use Rattle.tocmark_read_lines.specs.Containers.{matched, item_gap, may_interrupt, item_from, item_at, container_at, container_in}
use Rattle.tocmark_read_lines.specs.DefinitionLists.{definition_start}
use Rattle.tocmark_read_lines.specs.Footnotes.{note_start}
use Rattle.tocmark_read_lines.specs.Html.{html_ends}
use Rattle.tocmark_read_lines.specs.Marks.{is_behind, is_rule, digit_count, number_of, bullet_at, ordered_at, marker_at, tail_of}
use Rattle.tocmark_read_lines.specs.declared.beginnings.Marker.{Marker}
use Rattle.tocmark_read_lines.specs.declared.beginnings.Tail.{Tail}
use Rattle.tocmark_read_lines.specs.declared.cell.Cell.{Cell}
use Rattle.tocmark_read_lines.specs.declared.cell.Cursor.{Cursor}
use Rattle.tocmark_read_lines.specs.declared.container.Container.{Container}
use Rattle.tocmark_read_lines.specs.declared.container.Container.TheVariants as container
use Rattle.tocmark_read_lines.specs.declared.container.ContainerStart.{ContainerStart}
use Rattle.tocmark_read_lines.specs.declared.container.ContainerStart.TheVariants as begins
use Rattle.tocmark_read_lines.specs.declared.container.ItemStart.{ItemStart}
use Rattle.tocmark_read_lines.specs.declared.container.Opened.{Opened}
use Rattle.tocmark_read_lines.specs.declared.line.Line.{Line}
use Rattle.tocmark_read_page.specs.Leaves.{is_paragraph}
use Rattle.tocmark_read_page.specs.Pages.{State, innermost, leaf_finished, settled, is_quote, is_list, is_definitions, one_closed, closed_to, list_of, is_loose, left_noted, list_left, begun, opened_with, leaf_opened, has_text, piece_taken, start_of, of_kind}
use Rattle.tocmark_read_page.specs.Pieces.{code_piece, heading_piece, keeps_line, text_piece}
use Rattle.tocmark_read_page.specs.declared.leaf.Leaf.{Leaf}
use Rattle.tocmark_read_page.specs.declared.leaf.Leaf.TheVariants as leaf
use Rattle.tocmark_read_page.specs.declared.line_start.LineStart.{LineStart}
use Rattle.tocmark_read_page.specs.declared.page.Block.{Block}
use Rattle.tocmark_read_page.specs.declared.page.BlockKind.{BlockKind}
use Rattle.tocmark_read_page.specs.declared.page.BlockKind.TheVariants as kind
use Rattle.tocmark_read_page.specs.declared.piece.Piece.{Piece}
use Rattle.tocmark_read_constructs.specs.Headings.{heading_put, heading_started_in, underlined, underlined_in}
use Rattle.tocmark_read_constructs.specs.Metadata.{metadata_in}
use Rattle.tocmark_read_constructs.specs.Quotes.{quote_opened}
use Rattle.tocmark_read_blocks.specs.Blocks.{core_known, rule_or_text, underlined_if, underline_taken_in, started_in, started_at_in, leaf_started_in, passed_in, turn_in, leaf_ended, touched, turn_taken_in, taken_at_in, cells_taken_in, line_taken_in}
use Rattle.tocmark_read_blocks.specs.Codes.{info_of, html_ended_as, html_ended, code_taken, indented_started, fence_started, html_started}
use Rattle.tocmark_read_blocks.specs.Containers.{goes_directly, is_in_list, list_started, item_opened, begun_at, container_once_in, containers_opened_in}
use Rattle.tocmark_read_blocks.specs.Leaves.{metadata_or, rule_at}
use Rattle.tocmark_read_blocks.specs.Paragraphs.{text_started, in_paragraph, text_taken, rule_started}
use Rattle.tocmark_read_blocks.specs.declared.leaf.LeafStart.{LeafStart}
use Rattle.tocmark_read_blocks.specs.declared.leaf.LeafStart.TheVariants as start
use Rattle.tocmark_read_blocks.specs.declared.leaf.Turn.{Turn}
use Rattle.tocmark_read_blocks.specs.declared.leaf.Turn.TheVariants as turn
use Rattle.tocmark_text_laws.proofs.Alls.{all_both, all_take}
use Rattle.tocmark_text_laws.proofs.Ranged.{cells_few}
use Rattle.tocmark_text_laws.proofs.Leaves.{is_core}
use Rattle.tocmark_text_laws.proofs.Core.{begins_core, leaf_core, repeated_keeps, turns_core}
use Rattle.tocmark_text_laws.proofs.Begun.{is_core_start, container_core}
use Rattle.tocmark_text_laws.proofs.Machine.{core_at, core_begun}
use Rattle.tocmark_text_laws.proofs.Turns.{turn_of_core}
use Rattle.tocmark_text_laws.proofs.Kept.{line_core}
use Rattle.tocmark_text_laws.proofs.Sorted.{containers, raised_containers, had_containers, touched_containers}
use Rattle.tocmark_text_laws.proofs.Houses.{settled_same, one_containers}
use Rattle.tocmark_text_laws.proofs.ListEndsClosed.{closed_containers}

-- an item has some columns
abbrev pub HasWidth : Container → Type 0
HasWidth (container.Item width) = 1 < width
HasWidth c = Unit

abbrev pub Wides : State → Type 0
Wides s = AllByRecursion HasWidth (containers s.opened)

same_wide : (s u : State) → containers u.opened ≡ containers s.opened → Wides s → Wides u
same_wide s u e h = subst (AllByRecursion HasWidth) (sym e) h

closed_wide : (t : List ℕ) (d : ℕ) (s : State) → Wides s → Wides (closed_to t d s)
closed_wide t d s h = subst (AllByRecursion HasWidth) (sym (closed_containers t d s)) (all_take HasWidth d (containers s.opened) h)

finish_wide : (s : State) → Wides s → Wides (leaf_finished s)
unfolding leaf_finished
finish_wide s h = same_wide s (leaf_finished s) (raised_containers s.opened (length s.opened - 1) s.end s.line) h

piece_wide : (p : Piece) (line : Line) (keeps : Bool) (s : State) → Wides s → Wides (piece_taken p line keeps s)
unfolding piece_taken
piece_wide p line keeps s h = by (nat_lt 0 p.spaces || nat_lt p.start p.next) keeps
  where
    by : (x y : Bool) → Wides (let t = if x then record s { pieces = s.pieces ++ p ∷ [] } else s in if y then record t { kept = length t.pieces; end = line.end; line = line.number } else t)
    by true true = h
    by true false = h
    by false true = h
    by false false = h

code_wide : (t : List ℕ) (cs : List Cell) (column : ℕ) (line : Line) (s : State) → Wides s → Wides (code_taken t cs column line s)
unfolding code_taken html_ended
code_wide t cs column line s h = by u.leaf
  where
    rest : List ℕ
    rest = bytes_between t (code_piece cs column line).start (code_piece cs column line).end

    u : State
    u = piece_taken (code_piece cs column line) line (keeps_line cs column s.leaf) s

    same : Wides u
    same = piece_wide (code_piece cs column line) line (keeps_line cs column s.leaf) s h

    ends : (b : Bool) → Wides (if b then leaf_finished u else u)
    ends true = finish_wide u same
    ends false = same

    by : (k : Leaf) → Wides (html_ended_as k rest u)
    by leaf.Nothing = same
    by leaf.Paragraph = same
    by leaf.Indented = same
    by (leaf.Fenced x) = same
    by (leaf.Html k) = ends (html_ends k rest)
    by (leaf.Metadata k) = same
    by (leaf.Table x) = same

one_wide : (s : State) → Wides s → Wides (one_closed s)
one_wide s h = subst (AllByRecursion HasWidth) (sym ((one_containers s).1)) (by (is_some (slice_get s.opened (length s.opened - 1))))
  where
    by : (b : Bool) → AllByRecursion HasWidth (if b then take (length s.opened - 1) (containers s.opened) else containers s.opened)
    by true = all_take HasWidth (length s.opened - 1) (containers s.opened) h
    by false = h

left_wide : (s : State) → Wides s → Wides (list_left s)
unfolding list_left left_noted
left_wide s h = by (innermost s.opened)
  where
    noted : (o : Opened) (u : State) (b : Bool) → Wides u → Wides (if b then record u { left = Some (record { list = o.block; behind = length u.blocks; loose = is_loose u.blocks (list_of u.opened) }) } else u)
    noted o u true w = w
    noted o u false w = w

    inner : (o : Opened) (b : Bool) → Wides (if b then left_noted o (one_closed s) else s)
    inner o true = noted o (one_closed s) (is_definitions o.container) (one_wide s h)
    inner o false = h

    by : (f : Option Opened) → Wides (option_map_or (λ (o : Opened). if is_list o.container then left_noted o (one_closed s) else s) f s)
    by None = h
    by (Some o) = inner o (is_list o.container)

opened_wide : (c : Container) (k : BlockKind) (x : ℕ) (line : Line) (s : State) → HasWidth c → Wides s → Wides (opened_with c k x line s)
unfolding opened_with begun
opened_wide c k x line s w h = by (is_quote c)
  where
    t : State
    t = begun k x line.number s

    new : Opened
    new = record { container = c; block = length t.blocks - 1; end = line.end; line = line.number; had = false }

    u : State
    u = record t { opened = t.opened ++ new ∷ [] }

    same : containers u.opened ≡ containers s.opened ++ c ∷ []
    same = map-append (λ (o : Opened). o.container) t.opened (new ∷ []) ∙ ap (λ cs. cs ++ c ∷ []) (had_containers s.opened)

    whole : Wides u
    whole = subst (AllByRecursion HasWidth) (sym same) (all_both HasWidth (containers s.opened) (c ∷ []) h (w, tt))

    by : (b : Bool) → Wides (if b then record u { quotes = u.quotes ++ (length u.opened - 1) ∷ [] } else u)
    by true = whole
    by false = whole

leaf_wide : (f : Leaf) (k : BlockKind) (x : ℕ) (line : Line) (s : State) → Wides s → Wides (leaf_opened f k x line s)
unfolding leaf_opened begun
leaf_wide f k x line s h = same_wide (list_left s) (begun k x line.number (list_left s)) (had_containers (list_left s).opened) (left_wide s h)

text_started_wide : (x : ℕ) (s : State) → Wides s → Wides (text_started x s)
unfolding text_started
text_started_wide x s h = by (slice_get s.blocks (length s.blocks - 1))
  where
    inner : (b : Block) (k : Bool) → Wides (if k then record s { blocks = slice_set s.blocks (length s.blocks - 1) (record b { start = x }) } else s)
    inner b true = h
    inner b false = h

    by : (o : Option Block) → Wides (option_map_or (λ (b : Block). if nat_le (length s.pieces) b.first then record s { blocks = slice_set s.blocks (length s.blocks - 1) (record b { start = x }) } else s) o s)
    by None = h
    by (Some b) = inner b (nat_le (length s.pieces) b.first)

text_wide : (t : List ℕ) (cs : List Cell) (line : Line) (place : LineStart) (s : State) → Wides s → Wides (text_taken t cs line place s)
unfolding text_taken
text_wide t cs line place s h =
    piece_wide (text_piece cs place.cursor line) line true (text_started (text_piece cs place.cursor line).start (in_paragraph t cs line place s))
    (text_started_wide (text_piece cs place.cursor line).start (in_paragraph t cs line place s) (by (is_paragraph s.leaf)))
  where
    by : (b : Bool) → Wides (if b then s else leaf_opened leaf.Paragraph kind.Paragraph (text_piece cs place.cursor line).start line (closed_to t place.depth s))
    by true = h
    by false = leaf_wide leaf.Paragraph kind.Paragraph (text_piece cs place.cursor line).start line (closed_to t place.depth s) (closed_wide t place.depth s h)

begins_wide : (t : List ℕ) (d : ℕ) (f : Leaf) (k : BlockKind) (x : ℕ) (line : Line) (s : State) → Wides s → Wides (leaf_opened f k x line (closed_to t d s))
begins_wide t d f k x line s h = leaf_wide f k x line (closed_to t d s) (closed_wide t d s h)

rule_wide : (t : List ℕ) (cs : List Cell) (line : Line) (place : LineStart) (s : State) → Wides s → Wides (rule_started t cs line place s)
unfolding rule_started
rule_wide t cs line place s h = finish_wide (leaf_opened leaf.Nothing kind.Rule (start_of cs place line) line (closed_to t place.depth s)) (begins_wide t place.depth leaf.Nothing kind.Rule (start_of cs place line) line s h)

rule_or_text_wide : (t : List ℕ) (cs : List Cell) (line : Line) (tail : Tail) (place : LineStart) (s : State) → Wides s → Wides (rule_or_text (rule_at cs tail place.cursor.ink) t cs line place s)
unfolding rule_at
rule_or_text_wide t cs line tail place s h = by (is_rule cs tail place.cursor.ink)
  where
    by : (b : Bool) → Wides (rule_or_text (if b then start.Rule else start.Text) t cs line place s)
    by true = rule_wide t cs line place s h
    by false = text_wide t cs line place s h

underline_wide : (t : List ℕ) (cs : List Cell) (line : Line) (tail : Tail) (place : LineStart) (level : HeadingLevel) (s : State) → Wides s → Wides (underline_taken_in core_known t cs line tail place level s)
unfolding underline_taken_in metadata_in metadata_or underlined_in underlined
underline_wide t cs line tail place level s h = by (has_text u)
  where
    u : State
    u = settled t s

    same : Wides u
    same = same_wide s u (ap containers ((settled_same t s).1)) h

    by : (b : Bool) → Wides (underlined_if core_known b (rule_at cs tail place.cursor.ink) t cs line place level u)
    by true = finish_wide (record u { blocks = of_kind (kind.Heading level None) u.blocks; end = line.end; line = line.number }) same
    by false = rule_or_text_wide t cs line tail place u same

started_wide : (t : List ℕ) (cs : List Cell) (line : Line) (tail : Tail) (place : LineStart) (s : State) (b : LeafStart) → Wides s → begins_core b ≡ true → Wides (started_in core_known b t cs line tail place s)
unfolding started_in begins_core indented_started fence_started html_started heading_started_in heading_put info_of
started_wide t cs line tail place s start.Blank h k = closed_wide t place.depth s h
started_wide t cs line tail place s start.Text h k = text_wide t cs line place s h
started_wide t cs line tail place s (start.Indented column) h k = code_wide t cs column line _ (begins_wide t place.depth leaf.Indented kind.Indented (cell_place cs column line.end) line s h)
started_wide t cs line tail place s (start.Heading x) h k = finish_wide _ (piece_wide (heading_piece cs x line) line true _ (begins_wide t place.depth leaf.Nothing (kind.Heading x.level None) (start_of cs place line) line s h))
started_wide t cs line tail place s (start.Fence f) h k = begins_wide t place.depth (leaf.Fenced f) (info_of cs place.cursor f line) (start_of cs place line) line s h
started_wide t cs line tail place s (start.Html x) h k = code_wide t cs place.cursor.column line _ (begins_wide t place.depth (leaf.Html x) kind.Html (cell_place cs place.cursor.column line.end) line s h)
started_wide t cs line tail place s (start.Underline level) h k = underline_wide t cs line tail place level s h
started_wide t cs line tail place s start.Rule h k = rule_wide t cs line place s h
started_wide t cs line tail place s (start.Metadata x) h k = absurd cc
started_wide t cs line tail place s (start.Task d) h k = absurd cc
started_wide t cs line tail place s (start.QuoteKind x) h k = absurd cc

-- a marker has some columns, and a space or the end of the line is after it
abbrev HasMarker : List Cell → ℕ → Option Marker → Type 0
HasMarker cs c None = Unit
HasMarker cs c (Some m) = (0 < m.length) × (is_behind cs (plus c m.length) ≡ true)

last_true : (a b : Bool) → (a && b) ≡ true → b ≡ true
last_true true b h = h
last_true false b h = absurd cc

marker_wide : (cs : List Cell) (c : ℕ) → HasMarker cs c (marker_at cs c)
unfolding marker_at bullet_at ordered_at
marker_wide cs c = by (bullet && is_behind cs (plus c 1)) (digits && is_behind cs (plus (plus c count) 1)) refl refl
  where
    count : ℕ
    count = digit_count cs c

    bullet : Bool
    bullet = (cell_byte cs c == 45) || (cell_byte cs c == 43) || (cell_byte cs c == 42)

    digits : Bool
    digits = nat_le 1 count && nat_le count 9 && ((cell_byte cs (plus c count) == 46) || (cell_byte cs (plus c count) == 41))

    by : (x y : Bool) → (bullet && is_behind cs (plus c 1)) ≡ x → (digits && is_behind cs (plus (plus c count) 1)) ≡ y
        → HasMarker cs c (option_or (if x then Some (record { sort = cell_byte cs c; number = None; length = 1 }) else None)
        (if y then Some (record { sort = cell_byte cs (plus c count); number = Some (number_of (bytes_between (bytes_of cs) c (plus c count))); length = plus count 1 }) else None))
    by true y e f = (omega arith, last_true bullet (is_behind cs (plus c 1)) e)
    by false true e f = (omega arith, ap (is_behind cs) (let z : plus c (plus count 1) ≡ plus (plus c count) 1 = omega arith in z) ∙ last_true digits (is_behind cs (plus (plus c count) 1)) f)
    by false false e f = tt

-- the gap after it has a column
gap_some : (cs : List Cell) (n : ℕ) → length cs ≤ 2 ^ 64 - 1 → n ≤ 2 ^ 64 - 1 → is_behind cs n ≡ true → 1 ≤ item_gap (nat_le (length cs) (ink_from cs n)) (ink_from cs n - n)
unfolding is_behind item_gap
gap_some cs n few low h = by (nat_le (length cs) n) refl (cell_byte cs n == 32) refl h
  where
    gap : Bool → ℕ
    gap e = if e || nat_le 5 (ink_from cs n - n) then 1 else ink_from cs n - n

    run : (xs : List Cell) (i : ℕ) → i < length xs → (option_map_or (λ (c : Cell). c.byte) (slice_get xs i) 10 == 32) ≡ true → 1 ≤ length (take_while (λ (c : Cell). c.byte == 32) (drop i xs))
    run [] i l e = absurd (omega (arith, l))
    run (x ∷ xs) zero l e = subst (λ (ws : List Cell). 1 ≤ length ws) (sym (take_while-cons (λ (c : Cell). c.byte == 32) x xs ∙ ap (λ k. cond k (x ∷ take_while (λ (c : Cell). c.byte == 32) xs) []) e)) (omega arith)
    run (x ∷ xs) (suc i) l e = run xs i (omega (arith, l)) e

    some : (k : Bool) → 1 ≤ ink_from cs n - n → 1 ≤ (if k then 1 else ink_from cs n - n)
    some true w = omega arith
    some false w = w

    by : (x : Bool) → nat_le (length cs) n ≡ x → (y : Bool) → (cell_byte cs n == 32) ≡ y → (x || y) ≡ true → 1 ≤ gap (nat_le (length cs) (ink_from cs n))
    by true e y f g =
        let low : length cs ≤ n = grind (arith, e, nat_tests) in
        let over : length cs ≤ ink_from cs n = omega (arith, low, few) in
        subst (λ k. 1 ≤ gap k) (sym (let z : nat_le (length cs) (ink_from cs n) ≡ true = grind (arith, over, nat_tests) in z)) (omega arith)
    by false e true f g =
        let less : n < length cs = grind (arith, e, nat_tests) in
        some (nat_le (length cs) (ink_from cs n) || nat_le 5 (ink_from cs n - n)) (omega (arith, run cs n less f, less, few))
    by false e false f g = absurd cc

abbrev HasItem : Option ItemStart → Type 0
HasItem None = Unit
HasItem (Some x) = 1 < x.width

abbrev HasStart : Option ContainerStart → Type 0
HasStart (Some (begins.Item x)) = 1 < x.width
HasStart o = Unit

item_wide : (cs : List Cell) (cursor : Cursor) (p : Bool) → length cs ≤ 2 ^ 64 - 1 → HasItem (item_at cs cursor p)
unfolding item_at
item_wide cs cursor p few = by (marker_at cs cursor.ink) (marker_wide cs cursor.ink)
  where
    inner : (b : Bool) (m : Marker) (gap next : ℕ) → 0 < m.length → 1 ≤ gap → HasItem (if b then None else Some (record { sort = m.sort; number = m.number; width = plus (indent_of cursor) (plus m.length gap); next = next }))
    inner true m gap next h w = tt
    inner false m gap next h w = omega (arith, h, w)

    by : (o : Option Marker) → HasMarker cs cursor.ink o → HasItem (option_and_then (item_from cs cursor p) o)
    by None h = tt
    by (Some m) (h, behind) =
        inner (p && not (may_interrupt (nat_le (length cs) (ink_from cs (plus cursor.ink m.length))) m)) m
        (item_gap (nat_le (length cs) (ink_from cs (plus cursor.ink m.length))) (ink_from cs (plus cursor.ink m.length) - plus cursor.ink m.length)) _ h
        (gap_some cs (plus cursor.ink m.length) few (omega arith) behind)

container_wide : (cs : List Cell) (tail : Tail) (cursor : Cursor) (p : Bool) → length cs ≤ 2 ^ 64 - 1 → HasStart (container_in CORE cs tail cursor p)
unfolding container_in container_at definition_start note_start
container_wide cs tail cursor p few = by (nat_le (length cs) cursor.ink || nat_le 4 (indent_of cursor)) (cell_byte cs cursor.ink == 62) (is_rule cs tail cursor.ink) (item_at cs cursor p) (item_wide cs cursor p few)
  where
    by : (a b d : Bool) (o : Option ItemStart) → HasItem o → HasStart (if a then None else (if b then Some begins.Quote else (if d then None else option_map (λ i. begins.Item i) o)))
    by true b d o h = tt
    by false true d o h = tt
    by false false true o h = tt
    by false false false None h = tt
    by false false false (Some i) h = h

list_wide : (i : ItemStart) (x : ℕ) (line : Line) (s : State) → Wides s → Wides (list_started i x line s)
unfolding list_started
list_wide i x line s h = by (is_in_list i.sort s)
  where
    by : (b : Bool) → Wides (if b then s else opened_with (container.List i.sort) (kind.List i.number) x line (list_left s))
    by true = h
    by false = opened_wide (container.List i.sort) (kind.List i.number) x line (list_left s) tt (left_wide s h)

begun_wide : (t : List ℕ) (cs : List Cell) (line : Line) (place : LineStart) (s : State) (o : Option ContainerStart) → is_core_start o ≡ true → HasStart o → Wides s → Wides ((begun_at t cs line place s o).0)
unfolding is_core_start item_opened quote_opened
begun_wide t cs line place s None k w h = h
begun_wide t cs line place s (Some begins.Quote) k w h = opened_wide container.Quote (kind.Quote None) (start_of cs place line) line (list_left (closed_to t place.depth s)) tt (left_wide (closed_to t place.depth s) (closed_wide t place.depth s h))
begun_wide t cs line place s (Some (begins.Item i)) k w h = opened_wide (container.Item i.width) kind.Item (start_of cs place line) line (list_started i (start_of cs place line) line (closed_to t place.depth s)) w (list_wide i (start_of cs place line) line (closed_to t place.depth s) (closed_wide t place.depth s h))
begun_wide t cs line place s (Some (begins.Footnote n)) k w h = absurd cc
begun_wide t cs line place s (Some (begins.Definition d)) k w h = absurd cc

containers_wide : (t : List ℕ) (cs : List Cell) (line : Line) (tail : Tail) (place : LineStart) (s : State) → length cs ≤ 2 ^ 64 - 1 → Wides s → Wides ((containers_opened_in CORE t cs line tail place s).0)
unfolding container_once_in
containers_wide t cs line tail place s few h =
    repeated_keeps (λ (u : State). Wides u) (container_once_in CORE t cs line tail)
    (λ next u k. begun_wide t cs line next u (container_in CORE cs tail next.cursor (goes_directly next.depth u)) (container_core cs tail next.cursor (goes_directly next.depth u)) (container_wide cs tail next.cursor (goes_directly next.depth u) few) k)
    (length cs) place s h

leaf_started_wide : (t : List ℕ) (cs : List Cell) (line : Line) (place : LineStart) (s : State) → length cs ≤ 2 ^ 64 - 1 → Wides s → Wides (leaf_started_in core_known t cs line place s)
unfolding leaf_started_in
leaf_started_wide t cs line place s few h = by (containers_opened_in CORE t cs line (tail_of cs) place s) (containers_wide t cs line (tail_of cs) place s few h)
  where
    by : (r : State × LineStart) → Wides (r.0) → Wides (started_at_in core_known t cs line (tail_of cs) r)
    by (u, next) k = subst (λ (x : State). Wides x) (sym (core_begun t cs line (tail_of cs) u next))
        (started_wide t cs line (tail_of cs) next u (core_at t cs line (tail_of cs) u next) k (leaf_core cs (bytes_between t (start_of cs next line) line.end) (tail_of cs) next.cursor (is_paragraph u.leaf) (goes_directly next.depth u)))

turned_wide : (t : List ℕ) (cs : List Cell) (line : Line) (place : LineStart) (s : State) (u : Turn) → length cs ≤ 2 ^ 64 - 1 → Wides s → turns_core u s.leaf ≡ true → Wides (turn_taken_in core_known u t cs line place s)
unfolding passed_in turns_core leaf_ended
turned_wide t cs line place s turn.Closes few h k = finish_wide (record s { end = line.end; line = line.number }) h
turned_wide t cs line place s (turn.Takes column) few h k = code_wide t cs column line s h
turned_wide t cs line place s turn.Passes few h k = leaf_started_wide t cs line place s few h
turned_wide t cs line place s (turn.Row x) few h k = absurd cc

between_short : (t : List ℕ) (from to : ℕ) → length (bytes_between t from to) ≤ length t
between_short t from to = by (nat_le from to && nat_le to (length t))
  where
    by : (k : Bool) → length (if k then take (to - from) (drop from t) else []) ≤ length t
    by true = omega (arith, length-take (to - from) (drop from t), length-drop from t)
    by false = omega arith

line_wide : (t : List ℕ) (line : Line) (s : State) → 4 * length t < 2 ^ 64 - 1 → is_core s.leaf ≡ true → Wides s → Wides (line_taken_in core_known t s line)
unfolding line_taken_in cells_taken_in touched turn_in
line_wide t line s small c h = by (matched cells s.opened s.quotes)
  where
    cells : List Cell
    cells = cells_of [] line.start (bytes_between t line.start line.end)

    few : length cells ≤ 2 ^ 64 - 1
    few = omega (arith, small, cells_few [] line.start (bytes_between t line.start line.end), between_short t line.start line.end)

    by : (found : ℕ × Cursor) → Wides (taken_at_in core_known t cells line (record { cursor = found.1; depth = found.0 }) (touched line (found.0) s))
    by (depth, cursor) = turned_wide t cells line (record { cursor = cursor; depth = depth }) (touched line depth s) _ few (same_wide s (touched line depth s) (touched_containers depth line.end line.number s.quotes s.opened) h) (turn_of_core t cells line (record { cursor = cursor; depth = depth }) (touched line depth s) c)

pub lines_wide : (t : List ℕ) (ls : List Line) (s : State) → 4 * length t < 2 ^ 64 - 1 → is_core s.leaf ≡ true → Wides s → Wides (fold (line_taken_in core_known t) s ls)
lines_wide t [] s small c h = h
lines_wide t (l ∷ ls) s small c h = lines_wide t ls (line_taken_in core_known t s l) small (line_core t l s c) (line_wide t l s small c h)

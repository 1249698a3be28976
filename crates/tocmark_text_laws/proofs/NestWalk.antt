-- A line leaves a page whose blocks nest.
use Rattle.std.proofs.Common.{◌≡◌, ℕ, zero, suc, ◌+◌, ◌-◌, ◌^◌, ◌<◌, ◌≤◌, ◌⊎◌, inl, inr, not, ◌||◌, ◌==◌, Bool, true, false, ◌&&◌, if◌then◌else◌, nat_lt, nat_le, List, [], ◌∷◌, ◌++◌, length, refl, ap, sym, ◌∙◌, subst, arith, true≢false, length-append}
use Rattle.std.specs.Prelude.{slice_get, slice_set, min, unwrap_or, Option, Some, None, is_some}
use Rattle.std.specs.Option.{option_map, option_map_or, option_and_then}
use Rattle.tocmark_event.specs.declared.event.HeadingLevel.{HeadingLevel}
use Rattle.tocmark_read_scan.specs.Basic.{plus, bytes_between}
use Rattle.tocmark_read_scan.specs.Repeat.{going, repeated}
use Rattle.tocmark_read_scan.specs.declared.syntax.TheConstants.{CORE}
use Rattle.std.proofs.lemmas.Bool.Decides.{nat_tests}
use Rattle.tocmark_read_lines.specs.Cells.{cell_byte, cell_place, indent_of, ink_from, is_blank_at, moved, run_of}
use Rattle.tocmark_read_lines.specs.Containers.{after_quote, container_at, container_in, item_at, item_from, item_gap, matched, may_interrupt, touched_from}
use Rattle.tocmark_read_lines.specs.DefinitionLists.{definition_start}
use Rattle.tocmark_read_lines.specs.Footnotes.{note_start}
use Rattle.tocmark_read_lines.specs.declared.container.Opened.{Opened}
use Rattle.tocmark_read_lines.specs.Html.{html_ends}
use Rattle.tocmark_read_lines.specs.Marks.{closes_fence, fence_at, heading_at, is_rule, marker_at, tail_of, underline_at}
use Rattle.tocmark_read_lines.specs.declared.beginnings.Tail.{Tail}
use Rattle.tocmark_read_lines.specs.declared.beginnings.Fence.{Fence}
use Rattle.tocmark_read_lines.specs.declared.beginnings.Heading.{Heading}
use Rattle.tocmark_read_lines.specs.declared.beginnings.Marker.{Marker}
use Rattle.tocmark_read_lines.specs.declared.html.HtmlKind.{HtmlKind}
use Rattle.tocmark_read_lines.specs.declared.cell.Cell.{Cell}
use Rattle.tocmark_read_lines.specs.declared.cell.Cursor.{Cursor}
use Rattle.tocmark_read_lines.specs.declared.container.Container.{Container}
use Rattle.tocmark_read_lines.specs.declared.container.Container.TheVariants as container
use Rattle.tocmark_read_lines.specs.declared.container.ContainerStart.{ContainerStart}
use Rattle.tocmark_read_lines.specs.declared.container.ContainerStart.TheVariants as begins
use Rattle.tocmark_read_lines.specs.declared.container.ItemStart.{ItemStart}
use Rattle.tocmark_read_lines.specs.declared.line.Line.{Line}
use Rattle.tocmark_read_page.specs.Leaves.{is_paragraph}
use Rattle.tocmark_read_page.specs.Pages.{State, leaf_finished, table_finished, defined_as, settled_as, settled, leaf_closed_as, leaf_closed, is_quote, is_list, one_closed, times, closed_to, list_left, had_marked, begun, opened_with, leaf_opened, piece_taken, has_text, start_of, of_kind}
use Rattle.tocmark_read_page.specs.Pieces.{code_piece, text_piece, heading_piece, keeps_line}
use Rattle.tocmark_read_page.specs.declared.leaf.Leaf.{Leaf}
use Rattle.tocmark_read_page.specs.declared.leaf.Leaf.TheVariants as leaf
use Rattle.tocmark_read_page.specs.declared.line_start.LineStart.{LineStart}
use Rattle.tocmark_read_page.specs.declared.page.Block.{Block}
use Rattle.tocmark_read_page.specs.declared.page.BlockKind.{BlockKind}
use Rattle.tocmark_read_page.specs.declared.page.BlockKind.TheVariants as kind
use Rattle.tocmark_read_page.specs.declared.piece.Piece.{Piece}
use Rattle.tocmark_read_constructs.specs.Headings.{heading_put, heading_started_in, underlined, underlined_in}
use Rattle.tocmark_read_constructs.specs.Metadata.{metadata_in}
use Rattle.tocmark_read_constructs.specs.Quotes.{quote_opened}
use Rattle.tocmark_read_blocks.specs.Blocks.{core_known, rule_or_text, underlined_if, underline_taken_in, started_in, started_at_in, leaf_started_in, passed_in, turn_of, turn_in, leaf_ended, touched, turn_taken_in, taken_at_in, cells_taken_in}
use Rattle.tocmark_read_blocks.specs.Codes.{info_of, html_ended_as, html_ended, code_taken, indented_started, fence_started, html_started}
use Rattle.tocmark_read_blocks.specs.Containers.{goes_directly, is_in_list, list_started, item_opened, begun_at, container_once_in, containers_opened_in}
use Rattle.tocmark_read_blocks.specs.Leaves.{goes_past_blank, html_at, leaf_at, leaf_turn, mark_at, metadata_or, rule_at, underline_in}
use Rattle.tocmark_read_blocks.specs.Paragraphs.{text_started, in_paragraph, text_taken, rule_started}
use Rattle.tocmark_read_blocks.specs.declared.leaf.LeafStart.{LeafStart}
use Rattle.tocmark_read_blocks.specs.declared.leaf.LeafStart.TheVariants as start
use Rattle.tocmark_read_blocks.specs.declared.leaf.Turn.{Turn}
use Rattle.tocmark_read_blocks.specs.declared.leaf.Turn.TheVariants as turn
use Rattle.tocmark_text_laws.proofs.Alls.{got_last, set_last, last_changed}
use Rattle.tocmark_text_laws.proofs.Shut.{closed_shut, piece_taken_leaf, leaf_opened_leaf}
use Rattle.tocmark_text_laws.proofs.Begun.{item_shut, quote_shut}
use Rattle.tocmark_text_laws.proofs.Leaves.{is_core}
use Rattle.tocmark_text_laws.proofs.Core.{settled_leaf}
use Rattle.tocmark_text_laws.proofs.Machine.{core_at, core_begun}
use Rattle.tocmark_text_laws.proofs.Placed.{is_worded}
use Rattle.tocmark_text_laws.proofs.Grounds.{Grounded, past_place}
use Rattle.tocmark_text_laws.proofs.Walked.{Leads, words_worded, text_started_leaf, direct_words}
use Rattle.tocmark_text_laws.proofs.Stacked.{Stack, extents, stack_grows, raised_length, touched_grows, touched_length}
use Rattle.tocmark_text_laws.proofs.Sorted.{sorted_anew, sorted_touched}
use Rattle.tocmark_text_laws.proofs.Nesting.{Calm, Leafed, Rests, calm, leafed, calm_more, leafed_more, finish_calm, some_left, settled_leafed, settled_end, closed_to_calm, list_left_calm, had_length, opened_with_calm, leaf_opened_leafed, taken_leafed}

-- a set that has all places
abbrev pub Any : ℕ → Type 0
Any x = Unit

-- the columns of a cursor are not before a place
pub record Floor (cs : List Cell) (line : Line) (f : ℕ) (cursor : Cursor) : Type 0 where
  pub column : f ≤ cell_place cs cursor.column line.end
  pub ink : f ≤ cell_place cs cursor.ink line.end

place_up : (cs : List Cell) (line : Line) → Grounded Any cs line → (c d : ℕ) → (c ≤ d) ⊎ (length cs ≤ d) → cell_place cs c line.end ≤ cell_place cs d line.end
place_up cs line g c d (inl l) = g.rising c d l
place_up cs line g c d (inr l) = let q : line.end ≡ cell_place cs d line.end = past_place cs d line.end l in let w : cell_place cs c line.end ≤ line.end = g.within c in omega arith

reach : (cs : List Cell) (line : Line) → Grounded Any cs line → (c k : ℕ) → (c ≤ plus c k) ⊎ (length cs ≤ plus c k)
reach cs line g c k = by (nat_le (c + k) (2 ^ 64 - 1)) refl
  where
    by : (x : Bool) → nat_le (c + k) (2 ^ 64 - 1) ≡ x → (c ≤ plus c k) ⊎ (length cs ≤ plus c k)
    by true e = let w : c + k ≤ 2 ^ 64 - 1 = grind (arith, nat_tests) in inl (omega arith)
    by false e = let w : 2 ^ 64 - 1 < c + k = grind (arith, nat_tests) in let f : length cs ≤ 2 ^ 64 - 1 = g.few in inr (omega arith)

plus_up : (cs : List Cell) (line : Line) → Grounded Any cs line → (c k : ℕ) → cell_place cs c line.end ≤ cell_place cs (plus c k) line.end
plus_up cs line g c k = place_up cs line g c (plus c k) (reach cs line g c k)

floor_moved : (cs : List Cell) (line : Line) → Grounded Any cs line → (cursor : Cursor) (c : ℕ) → cell_place cs cursor.ink line.end ≤ cell_place cs c line.end → Floor cs line (cell_place cs cursor.ink line.end) (moved cs cursor c)
unfolding moved
floor_moved cs line g cursor c l = record { column = l; ink = by (nat_le c cursor.ink) }
  where
    up : cell_place cs c line.end ≤ cell_place cs (ink_from cs c) line.end
    up = plus_up cs line g c (run_of cs c 32)

    by : (x : Bool) → cell_place cs cursor.ink line.end ≤ cell_place cs (if x then cursor.ink else ink_from cs c) line.end
    by true = omega arith
    by false = let w : cell_place cs c line.end ≤ cell_place cs (ink_from cs c) line.end = up in omega arith

quote_floor : (cs : List Cell) (line : Line) → Grounded Any cs line → (cursor : Cursor) → Floor cs line (cell_place cs cursor.ink line.end) (after_quote cs cursor)
unfolding after_quote
quote_floor cs line g cursor = by (cell_byte cs (plus cursor.ink 1) == 32)
  where
    first : cell_place cs cursor.ink line.end ≤ cell_place cs (plus cursor.ink 1) line.end
    first = plus_up cs line g cursor.ink 1

    second : cell_place cs (plus cursor.ink 1) line.end ≤ cell_place cs (plus (plus cursor.ink 1) 1) line.end
    second = plus_up cs line g (plus cursor.ink 1) 1

    by : (x : Bool) → Floor cs line (cell_place cs cursor.ink line.end) (if x then moved cs cursor (plus (plus cursor.ink 1) 1) else moved cs cursor (plus cursor.ink 1))
    by true = floor_moved cs line g cursor (plus (plus cursor.ink 1) 1) (let a : cell_place cs cursor.ink line.end ≤ cell_place cs (plus cursor.ink 1) line.end = first in let b : cell_place cs (plus cursor.ink 1) line.end ≤ cell_place cs (plus (plus cursor.ink 1) 1) line.end = second in omega arith)
    by false = floor_moved cs line g cursor (plus cursor.ink 1) first

gap_up : (cs : List Cell) (line : Line) → Grounded Any cs line → (c size gap : ℕ) → cell_place cs c line.end ≤ cell_place cs (min (plus (plus c size) gap) (length cs)) line.end
gap_up cs line g c size gap = by (nat_le (length cs) (plus (plus c size) gap)) refl
  where
    by : (x : Bool) → nat_le (length cs) (plus (plus c size) gap) ≡ x → cell_place cs c line.end ≤ cell_place cs (min (plus (plus c size) gap) (length cs)) line.end
    by true e = let w : length cs ≤ plus (plus c size) gap = grind (arith, nat_tests) in place_up cs line g c (min (plus (plus c size) gap) (length cs)) (inr (omega arith))
    by false e =
        let w : plus (plus c size) gap < length cs = grind (arith, nat_tests) in
        let f : length cs ≤ 2 ^ 64 - 1 = g.few in
        place_up cs line g c (min (plus (plus c size) gap) (length cs)) (inl (omega arith))

-- nothing, or an item after whose marker a cursor is further
abbrev MayBe : List Cell → Line → Cursor → Option ItemStart → Type 0
MayBe cs line cursor None = Unit
MayBe cs line cursor (Some i) = Floor cs line (cell_place cs cursor.ink line.end) (moved cs cursor i.next)

item_floor : (cs : List Cell) (line : Line) → Grounded Any cs line → (cursor : Cursor) (p : Bool) → MayBe cs line cursor (item_at cs cursor p)
unfolding item_at
item_floor cs line g cursor p = by (marker_at cs cursor.ink)
  where
    gap : Marker → ℕ
    gap m = item_gap (nat_le (length cs) (ink_from cs (plus cursor.ink m.length))) (ink_from cs (plus cursor.ink m.length) - plus cursor.ink m.length)

    made : (m : Marker) (x : Bool) → MayBe cs line cursor (if x then None else Some (record {
      sort = m.sort;
      number = m.number;
      width = plus (indent_of cursor) (plus m.length (item_gap (nat_le (length cs) (ink_from cs (plus cursor.ink m.length))) (ink_from cs (plus cursor.ink m.length) - plus cursor.ink m.length)));
      next = min (plus (plus cursor.ink m.length) (item_gap (nat_le (length cs) (ink_from cs (plus cursor.ink m.length))) (ink_from cs (plus cursor.ink m.length) - plus cursor.ink m.length))) (length cs);
    }))
    made m true = tt
    made m false = floor_moved cs line g cursor (min (plus (plus cursor.ink m.length) (gap m)) (length cs)) (gap_up cs line g cursor.ink m.length (gap m))

    by : (o : Option Marker) → MayBe cs line cursor (option_and_then (item_from cs cursor p) o)
    by None = tt
    by (Some m) = made m (p && not (may_interrupt (nat_le (length cs) (ink_from cs (plus cursor.ink m.length))) m))

containers_floor : (cs : List Cell) (line : Line) → Grounded Any cs line → (tail : Tail) (cursor : Cursor) (p : Bool) → Leads (Floor cs line (cell_place cs cursor.ink line.end)) cs cursor (container_in CORE cs tail cursor p)
unfolding container_in container_at definition_start note_start
containers_floor cs line g tail cursor p = by (is_blank_at cs cursor || nat_le 4 (indent_of cursor)) (cell_byte cs cursor.ink == 62) (is_rule cs tail cursor.ink) (item_at cs cursor p) (item_floor cs line g cursor p)
  where
    by : (a b d : Bool) (o : Option ItemStart) → MayBe cs line cursor o → Leads (Floor cs line (cell_place cs cursor.ink line.end)) cs cursor (if a then None else (if b then Some begins.Quote else (if d then None else option_map (λ i. begins.Item i) o)))
    by true b d o h = tt
    by false true d o h = quote_floor cs line g cursor
    by false false true o h = tt
    by false false false None h = tt
    by false false false (Some i) h = h

-- what a line may begin, not before a place
abbrev Starts : List Cell → Line → ℕ → Bool → LeafStart → Type 0
Starts cs line f d start.Blank = Unit
Starts cs line f d start.Text = Unit
Starts cs line f d (start.Indented column) = f ≤ cell_place cs column line.end
Starts cs line f d (start.Heading h) = Unit
Starts cs line f d (start.Fence x) = Unit
Starts cs line f d (start.Html k) = Unit
Starts cs line f d (start.Underline l) = d ≡ true
Starts cs line f d start.Rule = Unit
Starts cs line f d (start.Metadata k) = ⊥
Starts cs line f d (start.Task t) = ⊥
Starts cs line f d (start.QuoteKind k) = ⊥

-- nothing, or an underline of an open paragraph
abbrev MayUnder : Bool → Option HeadingLevel → Type 0
MayUnder d None = Unit
MayUnder d (Some l) = d ≡ true

under_may : (cs : List Cell) (c : ℕ) (d : Bool) → MayUnder d (underline_in cs c d)
unfolding underline_in
under_may cs c false = tt
under_may cs c true = by (underline_at cs c)
  where
    by : (o : Option HeadingLevel) → MayUnder true o
    by None = tt
    by (Some l) = refl

leaves_start : (cs : List Cell) (line : Line) → Grounded Any cs line → (f : ℕ) (rest : List ℕ) (tail : Tail) (cursor : Cursor) (p d : Bool) → Floor cs line f cursor → Starts cs line f d (leaf_at cs rest tail cursor p d)
unfolding leaf_at mark_at rule_at
leaves_start cs line g f rest tail cursor p d v = by (is_blank_at cs cursor) (nat_lt (indent_of cursor) 4) p
  where
    rule : (x : Bool) → Starts cs line f d (if x then start.Rule else start.Text)
    rule true = tt
    rule false = tt

    mark : (h : Option Heading) (x : Option Fence) (k : Option HtmlKind) (u : Option HeadingLevel) → MayUnder d u
        → Starts cs line f d (unwrap_or (option_map (λ h. start.Heading h) h) (unwrap_or (option_map (λ f. start.Fence f) x) (unwrap_or (option_map (λ k. start.Html k) k) (unwrap_or (option_map (λ l. start.Underline l) u) (if is_rule cs tail cursor.ink then start.Rule else start.Text)))))
    mark (Some h) x k u b = tt
    mark None (Some x) k u b = tt
    mark None None (Some k) u b = tt
    mark None None None (Some l) b = b
    mark None None None None b = rule (is_rule cs tail cursor.ink)

    by : (a b q : Bool) → Starts cs line f d (if a then start.Blank else (if b then mark_at cs rest tail cursor p d else (if q then start.Text else start.Indented (plus cursor.column 4))))
    by true b q = tt
    by false true q = mark (heading_at cs cursor.ink) (fence_at cs cursor) (html_at rest p) (underline_in cs cursor.ink d) (under_may cs cursor.ink d)
    by false false true = tt
    by false false false = let w : cell_place cs cursor.column line.end ≤ cell_place cs (plus cursor.column 4) line.end = plus_up cs line g cursor.column 4 in let q : f ≤ cell_place cs cursor.column line.end = v.column in omega arith

-- what an open leaf may do with a line
abbrev Turned : Leaf → Turn → Type 0
Turned k turn.Closes = is_worded k ≡ true
Turned k (turn.Takes column) = (is_worded k ≡ true) × (is_paragraph k ≡ false)
Turned k turn.Passes = Unit
Turned k (turn.Row t) = ⊥

leaf_turned : (t : List ℕ) (cs : List Cell) (line : Line) (cursor : Cursor) (k : Leaf) → is_core k ≡ true → Turned k (leaf_turn t cs line cursor k)
unfolding leaf_turn is_core is_paragraph
leaf_turned t cs line cursor leaf.Nothing h = tt
leaf_turned t cs line cursor leaf.Paragraph h = tt
leaf_turned t cs line cursor leaf.Indented h = by (nat_le 4 (indent_of cursor)) (is_blank_at cs cursor)
  where
    by : (a b : Bool) → Turned leaf.Indented (if a then turn.Takes (plus cursor.column 4) else (if b then turn.Takes cursor.ink else turn.Passes))
    by true b = (refl, refl)
    by false true = (refl, refl)
    by false false = tt
leaf_turned t cs line cursor (leaf.Fenced f) h = by (closes_fence cs cursor f)
  where
    by : (a : Bool) → Turned (leaf.Fenced f) (if a then turn.Closes else turn.Takes (plus cursor.column (min f.indent (indent_of cursor))))
    by true = refl
    by false = (refl, refl)
leaf_turned t cs line cursor (leaf.Html k) h = by (is_blank_at cs cursor && not (goes_past_blank k))
  where
    by : (a : Bool) → Turned (leaf.Html k) (if a then turn.Passes else turn.Takes cursor.column)
    by true = tt
    by false = (refl, refl)
leaf_turned t cs line cursor (leaf.Metadata k) h = absurd cc
leaf_turned t cs line cursor (leaf.Table x) h = absurd cc

turn_turned : (t : List ℕ) (cs : List Cell) (line : Line) (place : LineStart) (s : State) → is_core s.leaf ≡ true → Turned s.leaf (turn_of t cs line place s)
unfolding turn_of
turn_turned t cs line place s c = by (nat_le (length s.opened) place.depth)
  where
    by : (x : Bool) → Turned s.leaf (if x then leaf_turn t cs line place.cursor s.leaf else turn.Passes)
    by true = leaf_turned t cs line place.cursor s.leaf c
    by false = tt

rests_core : (m e c f : ℕ) (s : State) → Rests m e c f s → is_core s.leaf ≡ true
unfolding is_core
rests_core m e c f s (calm q h) = ap is_core q
rests_core m e c f s (leafed w r front b h) = by s.leaf w
  where
    by : (k : Leaf) → is_worded k ≡ true → is_core k ≡ true
    by leaf.Nothing q = refl
    by leaf.Paragraph q = refl
    by leaf.Indented q = refl
    by (leaf.Fenced x) q = refl
    by (leaf.Html k) q = refl
    by (leaf.Metadata k) q = absurd cc
    by (leaf.Table x) q = absurd cc

-- how many containers go on: none of the others reaches past the place
abbrev pub GoOn : ℕ → ℕ → State → Type 0
GoOn m depth s = (m ≤ depth) × (m ≤ length s.opened)

leaf_closed_length : (t : List ℕ) (s : State) → length (leaf_closed t s).opened ≡ length s.opened
unfolding leaf_closed leaf_finished table_finished settled
leaf_closed_length t s = by s.leaf
  where
    defined : (b : Block) (k : Bool) → length (leaf_finished (if k then s else defined_as t s b)).opened ≡ length s.opened
    defined b true = raised_length s.opened (length s.opened - 1) s.end s.line
    defined b false = raised_length s.opened (length s.opened - 1) s.end s.line

    words : (o : Option Block) → length (leaf_finished (option_map_or (settled_as t s) o s)).opened ≡ length s.opened
    words None = raised_length s.opened (length s.opened - 1) s.end s.line
    words (Some b) = defined b (is_some b.task)

    by : (k : Leaf) → length (leaf_closed_as k t s).opened ≡ length s.opened
    by leaf.Nothing = refl
    by leaf.Paragraph = words (slice_get s.blocks (length s.blocks - 1))
    by leaf.Indented = raised_length s.opened (length s.opened - 1) s.end s.line
    by (leaf.Fenced x) = raised_length s.opened (length s.opened - 1) s.end s.line
    by (leaf.Html k) = raised_length s.opened (length s.opened - 1) s.end s.line
    by (leaf.Metadata k) = raised_length s.opened (length s.opened - 1) s.end s.line
    by (leaf.Table x) = raised_length s.opened (length s.opened - 1) s.end s.line

closed_many : (m : ℕ) (t : List ℕ) (depth : ℕ) (s : State) → GoOn m depth s → m ≤ length (closed_to t depth s).opened
unfolding closed_to
closed_many m t depth s w = by (nat_le (length u.opened) depth) refl
  where
    u : State
    u = leaf_closed t s

    same : length u.opened ≡ length s.opened
    same = leaf_closed_length t s

    by : (b : Bool) → nat_le (length u.opened) depth ≡ b → m ≤ length (times one_closed (length u.opened - depth) u).opened
    by true q =
        let l : length u.opened ≤ depth = grind (arith, nat_tests) in
        let n : length (times one_closed (length u.opened - depth) u).opened ≡ length u.opened = some_left (length u.opened - depth) (length u.opened) u (omega (arith, same)) in
        let a : m ≤ length s.opened = w.1 in
        omega (arith, same)
    by false q =
        let l : depth < length u.opened = grind (arith, nat_tests) in
        let n : length (times one_closed (length u.opened - depth) u).opened ≡ depth = some_left (length u.opened - depth) depth u (omega (arith, same)) in
        let a : m ≤ depth = w.0 in
        omega (arith, same)

taken_end : (p : Piece) (line : Line) (keeps : Bool) (s : State) → s.end ≤ line.end → (piece_taken p line keeps s).end ≤ line.end
unfolding piece_taken
taken_end p line keeps s l = by (nat_lt 0 p.spaces || nat_lt p.start p.next) keeps
  where
    by : (x y : Bool) → (let t = if x then record s { pieces = s.pieces ++ p ∷ [] } else s in if y then record t { kept = length t.pieces; end = line.end; line = line.number } else t).end ≤ line.end
    by true true = omega arith
    by true false = l
    by false true = omega arith
    by false false = l

opened_end : (l : Leaf) (k : BlockKind) (start : ℕ) (line : Line) (s : State) → (leaf_opened l k start line s).end ≤ line.end
unfolding leaf_opened
opened_end l k start line s = omega arith

finished_rests : (m e c f : ℕ) (s : State) (front : List Block) (b : Block) → s.end ≤ f → Leafed m e c f s front b → Rests m e c f (leaf_finished s)
unfolding leaf_finished
finished_rests m e c f s front b r h = calm refl (finish_calm m e c f s front b r h)

html_rests : (m e c f : ℕ) (rest : List ℕ) (s : State) (front : List Block) (b : Block) → is_worded s.leaf ≡ true → s.end ≤ f → Leafed m e c f s front b → Rests m e c f (html_ended rest s)
unfolding html_ended
html_rests m e c f rest s front b w r h = by s.leaf
  where
    same : Rests m e c f s
    same = leafed w r front b h

    ends : (x : Bool) → Rests m e c f (if x then leaf_finished s else s)
    ends true = finished_rests m e c f s front b r h
    ends false = same

    by : (k : Leaf) → Rests m e c f (html_ended_as k rest s)
    by leaf.Nothing = same
    by leaf.Paragraph = same
    by leaf.Indented = same
    by (leaf.Fenced x) = same
    by (leaf.Html k) = ends (html_ends k rest)
    by (leaf.Metadata k) = same
    by (leaf.Table t) = same

-- a leaf that a line comes into reaches to its end
line_leafed : (m c f : ℕ) (line : Line) (s : State) (front : List Block) (b : Block) → Leafed m line.end c f s front b → Leafed m line.end c line.end s front b
line_leafed m c f line s front b h = leafed_more m line.end c c f line.end s front b (omega arith) h.sorted.room (omega arith) h

code_rests : (m c f : ℕ) (t : List ℕ) (cs : List Cell) (column : ℕ) (line : Line) (s : State) (front : List Block) (b : Block) → is_worded s.leaf ≡ true → is_paragraph s.leaf ≡ false → s.end ≤ line.end → Leafed m line.end c f s front b → Rests m line.end (suc c) line.end (code_taken t cs column line s)
unfolding code_taken
code_rests m c f t cs column line s front b w n r h =
    html_rests m line.end (suc c) line.end (bytes_between t (code_piece cs column line).start (code_piece cs column line).end) (piece_taken (code_piece cs column line) line (keeps_line cs column s.leaf) s) front b
    (ap is_worded (piece_taken_leaf (code_piece cs column line) line (keeps_line cs column s.leaf) s) ∙ w)
    (taken_end (code_piece cs column line) line (keeps_line cs column s.leaf) s r)
    (line_leafed m (suc c) f line (piece_taken (code_piece cs column line) line (keeps_line cs column s.leaf) s) front b
    (taken_leafed m line.end c f (code_piece cs column line) line (keeps_line cs column s.leaf) s front b (λ q. absurd (true≢false (sym q ∙ n))) h))

text_started_leafed : (m e c f x : ℕ) (s : State) (front : List Block) (b : Block) → f ≤ x → Leafed m e c f s front b → (y : Block) × Leafed m e c f (text_started x s) front y
unfolding text_started
text_started_leafed m e c f x s front b l h = by (slice_get s.blocks (length s.blocks - 1)) (ap (λ (bs : List Block). slice_get bs (length bs - 1)) h.split ∙ got_last front b)
  where
    new : Block
    new = record b { start = x }

    inside : (k : Bool) → (y : Block) × Leafed m e c f (if k then record s { blocks = slice_set s.blocks (length s.blocks - 1) (record b { start = x }) } else s) front y
    inside true = (new, record { floor = h.floor; split = ap (λ (bs : List Block). slice_set bs (length bs - 1) new) h.split ∙ set_last front b new; stack = h.stack; depth = h.depth; after = let q : h.floor ≤ f = h.low in omega arith; low = h.low; count = h.count; first = h.first; words = h.words; past = h.past; sorted = h.sorted })
    inside false = (b, h)

    change : Block → State
    change y = if nat_le (length s.pieces) y.first then record s { blocks = slice_set s.blocks (length s.blocks - 1) (record y { start = x }) } else s

    by : (o : Option Block) → o ≡ Some b → (y : Block) × Leafed m e c f (option_map_or change o s) front y
    by None q = absurd cc
    by (Some z) w = let q : z ≡ b = cc in subst (λ z. (y : Block) × Leafed m e c f (change z) front y) (sym q) (inside (nat_le (length s.pieces) b.first))

text_started_end : (x : ℕ) (s : State) → (text_started x s).end ≡ s.end
unfolding text_started
text_started_end x s = by (slice_get s.blocks (length s.blocks - 1))
  where
    change : Block → State
    change y = if nat_le (length s.pieces) y.first then record s { blocks = slice_set s.blocks (length s.blocks - 1) (record y { start = x }) } else s

    inside : (y : Block) (k : Bool) → (if k then record s { blocks = slice_set s.blocks (length s.blocks - 1) (record y { start = x }) } else s).end ≡ s.end
    inside y true = refl
    inside y false = refl

    by : (o : Option Block) → (option_map_or change o s).end ≡ s.end
    by None = refl
    by (Some y) = inside y (nat_le (length s.pieces) y.first)

-- an open leaf that reaches no further than a place
abbrev pub Words : ℕ → ℕ → ℕ → ℕ → State → Type 0
Words m e c f s = (s.end ≤ f) × ((front : List Block) × (b : Block) × Leafed m e c f s front b)

words_leafed : (m e c f : ℕ) (s : State) → is_paragraph s.leaf ≡ true → Rests m e c f s → Words m e c f s
unfolding is_paragraph
words_leafed m e c f s p (calm q h) = absurd (true≢false (sym p ∙ ap is_paragraph q))
words_leafed m e c f s p (leafed w r front b h) = (r, (front, b, h))

abbrev InWords : ℕ → ℕ → ℕ → Line → State → Type 0
InWords m c f line s = (is_paragraph s.leaf ≡ true) × (s.end ≤ line.end) × ((front : List Block) × (b : Block) × Leafed m line.end c f s front b)

in_paragraph_leafed : (m c f : ℕ) (t : List ℕ) (cs : List Cell) (line : Line) (place : LineStart) (s : State) → c ≤ 2 ^ 64 - 1 → f ≤ cell_place cs place.cursor.ink line.end → GoOn m place.depth s → Rests m line.end c f s → InWords m c f line (in_paragraph t cs line place s)
unfolding text_piece is_paragraph
in_paragraph_leafed m c f t cs line place s few l g h = by (is_paragraph s.leaf) refl
  where
    on : is_paragraph s.leaf ≡ true → Words m line.end c f s → InWords m c f line s
    on q (r, (front, b, k)) = (q, (let a : f ≤ line.end = k.sorted.room in omega arith), (front, b, k))

    by : (x : Bool) → is_paragraph s.leaf ≡ x → InWords m c f line (if x then s else leaf_opened leaf.Paragraph kind.Paragraph (text_piece cs place.cursor line).start line (closed_to t place.depth s))
    by true q = on q (words_leafed m line.end c f s q h)
    by false q = (
      ap is_paragraph (leaf_opened_leaf leaf.Paragraph kind.Paragraph (cell_place cs place.cursor.ink line.end) line (closed_to t place.depth s)),
      opened_end leaf.Paragraph kind.Paragraph (cell_place cs place.cursor.ink line.end) line (closed_to t place.depth s),
      leaf_opened_leafed m line.end c f leaf.Paragraph kind.Paragraph (cell_place cs place.cursor.ink line.end) line (closed_to t place.depth s) l few (closed_many m t place.depth s g) (closed_to_calm m line.end c f t place.depth s (g.0) h),
    )

text_rests : (m c f : ℕ) (t : List ℕ) (cs : List Cell) (line : Line) (place : LineStart) (s : State) → c ≤ 2 ^ 64 - 1 → f ≤ cell_place cs place.cursor.ink line.end → GoOn m place.depth s → Rests m line.end c f s → Rests m line.end (suc c) line.end (text_taken t cs line place s)
unfolding text_taken text_piece
text_rests m c f t cs line place s few l g h = by (in_paragraph t cs line place s) (in_paragraph_leafed m c f t cs line place s few l g h)
  where
    at : ℕ
    at = cell_place cs place.cursor.ink line.end

    words : Piece
    words = text_piece cs place.cursor line

    last : (u : State) (front : List Block) → (y : Block) × Leafed m line.end c f (text_started at u) front y → is_paragraph u.leaf ≡ true → u.end ≤ line.end → Rests m line.end (suc c) line.end (piece_taken words line true (text_started at u))
    last u front (y, k) q r = leafed (ap is_worded (piece_taken_leaf words line true (text_started at u) ∙ text_started_leaf at u) ∙ words_worded u.leaf q) (taken_end words line true (text_started at u) (let a : (text_started at u).end ≡ u.end = text_started_end at u in omega arith)) front y
        (line_leafed m (suc c) f line (piece_taken words line true (text_started at u)) front y (taken_leafed m line.end c f words line true (text_started at u) front y (λ w. l) k))

    by : (u : State) → InWords m c f line u → Rests m line.end (suc c) line.end (piece_taken words line true (text_started at u))
    by u (q, r, (front, b, k)) = last u front (text_started_leafed m line.end c f at u front b l k) q r

rule_rests : (m c f : ℕ) (t : List ℕ) (cs : List Cell) (line : Line) (place : LineStart) (s : State) → c ≤ 2 ^ 64 - 1 → f ≤ start_of cs place line → GoOn m place.depth s → Rests m line.end c f s → Rests m line.end (suc c) line.end (rule_started t cs line place s)
unfolding rule_started
rule_rests m c f t cs line place s few l g h = by (leaf_opened_leafed m line.end c f leaf.Nothing kind.Rule (start_of cs place line) line (closed_to t place.depth s) l few (closed_many m t place.depth s g) (closed_to_calm m line.end c f t place.depth s (g.0) h))
  where
    u : State
    u = leaf_opened leaf.Nothing kind.Rule (start_of cs place line) line (closed_to t place.depth s)

    by : (front : List Block) × (b : Block) × Leafed m line.end c f u front b → Rests m line.end (suc c) line.end (leaf_finished u)
    by (front, b, k) = finished_rests m line.end (suc c) line.end u front b (opened_end leaf.Nothing kind.Rule (start_of cs place line) line (closed_to t place.depth s)) (leafed_more m line.end c (suc c) f line.end u front b (omega arith) k.sorted.room (omega arith) k)

rule_or_text_rests : (m c f : ℕ) (t : List ℕ) (cs : List Cell) (line : Line) (tail : Tail) (place : LineStart) (s : State) → c ≤ 2 ^ 64 - 1 → f ≤ cell_place cs place.cursor.ink line.end → GoOn m place.depth s → Rests m line.end c f s
    → Rests m line.end (suc c) line.end (rule_or_text (rule_at cs tail place.cursor.ink) t cs line place s)
unfolding rule_at
rule_or_text_rests m c f t cs line tail place s few l g h = by (is_rule cs tail place.cursor.ink)
  where
    by : (x : Bool) → Rests m line.end (suc c) line.end (rule_or_text (if x then start.Rule else start.Text) t cs line place s)
    by true = rule_rests m c f t cs line place s few l g h
    by false = text_rests m c f t cs line place s few l g h

underlined_rests : (m c f : ℕ) (t : List ℕ) (level : HeadingLevel) (line : Line) (s : State) (front : List Block) (b : Block) → Leafed m line.end c f s front b → Rests m line.end (suc c) line.end (underlined_in core_known t level line s)
unfolding underlined_in underlined
underlined_rests m c f t level line s front b h = finished_rests m line.end (suc c) line.end u front (record b { kind = kind.Heading level None }) (omega arith) (leafed_more m line.end c (suc c) f line.end u front (record b { kind = kind.Heading level None }) (omega arith) h.sorted.room (omega arith) record {
  floor = h.floor;
  split = last_changed s.blocks front b (λ (x : Block). record x { kind = kind.Heading level None }) h.split;
  stack = h.stack;
  depth = h.depth;
  after = h.after;
  low = h.low;
  count = h.count;
  first = h.first;
  words = h.words;
  past = h.past;
  sorted = h.sorted;
})
  where
    u : State
    u = record s { blocks = of_kind (kind.Heading level None) s.blocks; end = line.end; line = line.number }

settled_opened : (t : List ℕ) (s : State) → (settled t s).opened ≡ s.opened
unfolding settled
settled_opened t s = by (slice_get s.blocks (length s.blocks - 1))
  where
    boxed : (b : Block) (k : Bool) → (if k then s else defined_as t s b).opened ≡ s.opened
    boxed b true = refl
    boxed b false = refl

    by : (o : Option Block) → (option_map_or (settled_as t s) o s).opened ≡ s.opened
    by None = refl
    by (Some b) = boxed b (is_some b.task)

underline_rests : (m c f : ℕ) (t : List ℕ) (cs : List Cell) (line : Line) (tail : Tail) (place : LineStart) (level : HeadingLevel) (s : State) → c ≤ 2 ^ 64 - 1 → f ≤ cell_place cs place.cursor.ink line.end → is_paragraph s.leaf ≡ true → GoOn m place.depth s → Rests m line.end c f s
    → Rests m line.end (suc c) line.end (underline_taken_in core_known t cs line tail place level s)
unfolding underline_taken_in metadata_in metadata_or
underline_rests m c f t cs line tail place level s few l q g h = took (words_leafed m line.end c f s q h)
  where
    with : (front : List Block) → (y : Block) × Leafed m line.end c f (settled t s) front y → (settled t s).end ≤ f → Rests m line.end (suc c) line.end (underline_taken_in core_known t cs line tail place level s)
    with front (y, k) r = by (has_text (settled t s))
      where
        goes : GoOn m place.depth (settled t s)
        goes = (g.0, subst (λ (os : List Opened). m ≤ length os) (sym (settled_opened t s)) (g.1))

        by : (x : Bool) → Rests m line.end (suc c) line.end (underlined_if core_known x (rule_at cs tail place.cursor.ink) t cs line place level (settled t s))
        by true = underlined_rests m c f t level line (settled t s) front y k
        by false = rule_or_text_rests m c f t cs line tail place (settled t s) few l goes (leafed (words_worded (settled t s).leaf (ap is_paragraph (settled_leaf t s) ∙ q)) r front y k)

    took : Words m line.end c f s → Rests m line.end (suc c) line.end (underline_taken_in core_known t cs line tail place level s)
    took (r, (front, b, k)) = with front (settled_leafed m line.end c f t s front b k q) (let a : (settled t s).end ≡ s.end = settled_end t s in omega arith)

coded_rests : (m c f : ℕ) (t : List ℕ) (cs : List Cell) (column : ℕ) (line : Line) (x : Leaf) (k : BlockKind) (s : State) → c ≤ 2 ^ 64 - 1 → f ≤ cell_place cs column line.end → is_worded x ≡ true → is_paragraph x ≡ false → m ≤ length s.opened → Calm m line.end c f s
    → Rests m line.end (suc c) line.end (code_taken t cs column line (leaf_opened x k (cell_place cs column line.end) line s))
coded_rests m c f t cs column line x k s few l w n g h = by (leaf_opened_leafed m line.end c f x k (cell_place cs column line.end) line s l few g h)
  where
    u : State
    u = leaf_opened x k (cell_place cs column line.end) line s

    by : (front : List Block) × (b : Block) × Leafed m line.end c f u front b → Rests m line.end (suc c) line.end (code_taken t cs column line u)
    by (front, b, q) = code_rests m c f t cs column line u front b (ap is_worded (leaf_opened_leaf x k (cell_place cs column line.end) line s) ∙ w) (ap is_paragraph (leaf_opened_leaf x k (cell_place cs column line.end) line s) ∙ n) (opened_end x k (cell_place cs column line.end) line s) q

fence_rests : (m c f : ℕ) (line : Line) (x : Leaf) (k : BlockKind) (at : ℕ) (s : State) → c ≤ 2 ^ 64 - 1 → f ≤ at → is_worded x ≡ true → m ≤ length s.opened → Calm m line.end c f s → Rests m line.end (suc c) line.end (leaf_opened x k at line s)
fence_rests m c f line x k at s few l w g h = by (leaf_opened_leafed m line.end c f x k at line s l few g h)
  where
    by : (front : List Block) × (b : Block) × Leafed m line.end c f (leaf_opened x k at line s) front b → Rests m line.end (suc c) line.end (leaf_opened x k at line s)
    by (front, b, q) = leafed (ap is_worded (leaf_opened_leaf x k at line s) ∙ w) (opened_end x k at line s) front b (leafed_more m line.end c (suc c) f line.end (leaf_opened x k at line s) front b (omega arith) q.sorted.room (omega arith) q)

heading_rests : (m c f : ℕ) (line : Line) (p : Piece) (k : BlockKind) (at : ℕ) (s : State) → c ≤ 2 ^ 64 - 1 → f ≤ at → m ≤ length s.opened → Calm m line.end c f s → Rests m line.end (suc c) line.end (leaf_finished (piece_taken p line true (leaf_opened leaf.Nothing k at line s)))
unfolding is_paragraph
heading_rests m c f line p k at s few l g h = by (leaf_opened_leafed m line.end c f leaf.Nothing k at line s l few g h)
  where
    u : State
    u = leaf_opened leaf.Nothing k at line s

    by : (front : List Block) × (b : Block) × Leafed m line.end c f u front b → Rests m line.end (suc c) line.end (leaf_finished (piece_taken p line true u))
    by (front, b, q) = finished_rests m line.end (suc c) line.end (piece_taken p line true u) front b (taken_end p line true u (opened_end leaf.Nothing k at line s)) (line_leafed m (suc c) f line (piece_taken p line true u) front b (taken_leafed m line.end c f p line true u front b (λ w. absurd (true≢false (sym w ∙ ap is_paragraph (leaf_opened_leaf leaf.Nothing k at line s)))) q))

started_rests : (m c f : ℕ) (t : List ℕ) (cs : List Cell) (line : Line) (tail : Tail) (place : LineStart) (s : State) (b : LeafStart) → c ≤ 2 ^ 64 - 1 → Floor cs line f place.cursor → Starts cs line f (goes_directly place.depth s) b → GoOn m place.depth s → Rests m line.end c f s → Rests m line.end (suc c) line.end (started_in core_known b t cs line tail place s)
unfolding started_in indented_started fence_started html_started heading_started_in heading_put is_paragraph
started_rests m c f t cs line tail place s b few v w g h = by b w
  where
    u : Calm m line.end c f (closed_to t place.depth s)
    u = closed_to_calm m line.end c f t place.depth s (g.0) h

    many : m ≤ length (closed_to t place.depth s).opened
    many = closed_many m t place.depth s g

    ink : f ≤ cell_place cs place.cursor.ink line.end
    ink = v.ink

    by : (b : LeafStart) → Starts cs line f (goes_directly place.depth s) b → Rests m line.end (suc c) line.end (started_in core_known b t cs line tail place s)
    by start.Blank w = calm (closed_shut t place.depth s) (calm_more m line.end c (suc c) f line.end (closed_to t place.depth s) (omega arith) (u.2).room (omega arith) u)
    by start.Text w = text_rests m c f t cs line place s few ink g h
    by (start.Indented column) w = coded_rests m c f t cs column line leaf.Indented kind.Indented (closed_to t place.depth s) few w refl refl many u
    by (start.Heading x) w = heading_rests m c f line (heading_piece cs x line) (kind.Heading x.level None) (start_of cs place line) (closed_to t place.depth s) few ink many u
    by (start.Fence x) w = fence_rests m c f line (leaf.Fenced x) (info_of cs place.cursor x line) (start_of cs place line) (closed_to t place.depth s) few ink refl many u
    by (start.Html x) w = coded_rests m c f t cs place.cursor.column line (leaf.Html x) kind.Html (closed_to t place.depth s) few v.column refl refl many u
    by (start.Underline level) w = underline_rests m c f t cs line tail place level s few ink (direct_words place.depth s w) g h
    by start.Rule w = rule_rests m c f t cs line place s few ink g h
    by (start.Metadata x) w = absurd w
    by (start.Task d) w = absurd w
    by (start.QuoteKind x) w = absurd w

-- a container begins after another one that may go on
abbrev Begun : ℕ → ℕ → Line → State → Type 0
Begun c x line s = (n : ℕ) × Calm n line.end c x s

list_started_calm : (m c f : ℕ) (i : ItemStart) (x : ℕ) (line : Line) (s : State) → f ≤ x → x ≤ line.end → m ≤ length s.opened → Calm m line.end c f s → Begun c x line (list_started i x line s)
unfolding list_started
list_started_calm m c f i x line s l k g h = by (is_in_list i.sort s)
  where
    n : ℕ
    n = suc (suc (length (list_left s).opened))

    by : (b : Bool) → Begun c x line (if b then s else opened_with (container.List i.sort) (kind.List i.number) x line (list_left s))
    by true = (m, calm_more m line.end c c f x s (omega arith) l k h)
    by false = (n, opened_with_calm m n line.end c f (container.List i.sort) (kind.List i.number) x line (list_left s) l k (omega arith) (inl (omega arith)) (list_left_calm m line.end c f s g h))

opened_with_length : (x : Container) (k : BlockKind) (start : ℕ) (line : Line) (s : State) → length (opened_with x k start line s).opened ≡ suc (length s.opened)
unfolding opened_with begun
opened_with_length x k start line s = by (is_quote x)
  where
    u : State
    u = begun k start line.number s

    new : Opened
    new = record { container = x; block = length u.blocks - 1; end = line.end; line = line.number; had = false }

    v : State
    v = record u { opened = u.opened ++ new ∷ [] }

    size : length (had_marked s.opened ++ new ∷ []) ≡ suc (length s.opened)
    size = let w : length (had_marked s.opened ++ new ∷ []) ≡ length (had_marked s.opened) + 1 = length-append (had_marked s.opened) (new ∷ []) in let q : length (had_marked s.opened) ≡ length s.opened = had_length s.opened in omega arith

    by : (b : Bool) → length (if b then record v { quotes = v.quotes ++ (length v.opened - 1) ∷ [] } else v).opened ≡ suc (length s.opened)
    by true = size
    by false = size

-- a container that is no list begins in one that may go on
within_rests : (n c f x : ℕ) (k : Container) (y : BlockKind) (line : Line) (s : State) → f ≤ x → x ≤ line.end → is_list k ≡ false → (opened_with k y x line s).leaf ≡ leaf.Nothing → Calm n line.end c f s
    → Rests (length (opened_with k y x line s).opened) line.end c x (opened_with k y x line s)
within_rests n c f x k y line s l z p q h = calm q (opened_with_calm n (length (opened_with k y x line s).opened) line.end c f k y x line s l z (omega arith) (inr (let w : length (opened_with k y x line s).opened ≡ suc (length s.opened) = opened_with_length k y x line s in omega arith, p)) h)

-- a container that begins is not before a place
abbrev Went : ℕ → ℕ → ℕ → ℕ → ℕ → List Cell → Line → State × Option LineStart → Type 0
Went m c f depth x cs line (u, None) = Rests m line.end c f u × GoOn m depth u
Went m c f depth x cs line (u, Some d) = Rests (length u.opened) line.end c x u × (length u.opened ≡ d.depth) × Floor cs line x d.cursor

begun_rests : (m c f : ℕ) (t : List ℕ) (cs : List Cell) (line : Line) (place : LineStart) (s : State) (o : Option ContainerStart) → f ≤ start_of cs place line → start_of cs place line ≤ line.end → Leads (Floor cs line (start_of cs place line)) cs place.cursor o → GoOn m place.depth s → Rests m line.end c f s
    → Went m c f place.depth (start_of cs place line) cs line (begun_at t cs line place s o)
unfolding item_opened quote_opened is_list
begun_rests m c f t cs line place s None l z w g h = (h, g)
begun_rests m c f t cs line place s (Some begins.Quote) l z w g h = (
  within_rests m c f (start_of cs place line) container.Quote (kind.Quote None) line (list_left (closed_to t place.depth s)) l z refl (quote_shut t cs line place s) (list_left_calm m line.end c f (closed_to t place.depth s) (closed_many m t place.depth s g) (closed_to_calm m line.end c f t place.depth s (g.0) h)),
  refl,
  w,
)
begun_rests m c f t cs line place s (Some (begins.Item i)) l z w g h = by (list_started_calm m c f i (start_of cs place line) line (closed_to t place.depth s) l z (closed_many m t place.depth s g) (closed_to_calm m line.end c f t place.depth s (g.0) h))
  where
    x : ℕ
    x = start_of cs place line

    u : State
    u = list_started i x line (closed_to t place.depth s)

    v : State
    v = opened_with (container.Item i.width) kind.Item x line u

    by : Begun c x line u → Rests (length v.opened) line.end c x v × (length v.opened ≡ length v.opened) × Floor cs line x (moved cs place.cursor i.next)
    by (n, k) = (within_rests n c x x (container.Item i.width) kind.Item line u (omega arith) z refl (item_shut t cs line place i s) k, refl, w)
begun_rests m c f t cs line place s (Some (begins.Footnote n)) l z w g h = absurd w
begun_rests m c f t cs line place s (Some (begins.Definition d)) l z w g h = absurd w

-- a page and a cursor, not before some place
abbrev Found : ℕ → List Cell → Line → State × LineStart → Type 0
Found c cs line r = (m : ℕ) × (g : ℕ) × GoOn m ((r.1).depth) (r.0) × Rests m line.end c g (r.0) × Floor cs line g ((r.1).cursor)

containers_rest : (m c : ℕ) (t : List ℕ) (cs : List Cell) (line : Line) (tail : Tail) → Grounded Any cs line → (n f : ℕ) (place : LineStart) (s : State) → Floor cs line f place.cursor → GoOn m place.depth s → Rests m line.end c f s → Found c cs line (repeated (container_once_in CORE t cs line tail) n place s)
unfolding repeated container_once_in
containers_rest m c t cs line tail k zero f place s v g h = (m, f, g, h, v)
containers_rest m c t cs line tail k (suc n) f place s v g h =
    by (begun_at t cs line place s o) (begun_rests m c f t cs line place s o v.ink (k.within place.cursor.ink) (containers_floor cs line k tail place.cursor (goes_directly place.depth s)) g h)
    (λ i d u x y z. containers_rest i c t cs line tail k n (start_of cs place line) d u x y z)
  where
    o : Option ContainerStart
    o = container_in CORE cs tail place.cursor (goes_directly place.depth s)

    more : LineStart → State → State × LineStart
    more = λ d u. repeated (container_once_in CORE t cs line tail) n d u

    by : (r : State × Option LineStart) → Went m c f place.depth (start_of cs place line) cs line r
        → ((i : ℕ) (d : LineStart) (u : State) → Floor cs line (start_of cs place line) d.cursor → GoOn i d.depth u → Rests i line.end c (start_of cs place line) u → Found c cs line (more d u)) → Found c cs line (going more place r)
    by (u, None) (w, q) a = (m, f, q, w, v)
    by (u, Some d) (w, q, x) a = a (length u.opened) d u x (omega arith, omega arith) w

-- a line has ended: all containers may end
abbrev Ended : ℕ → Line → State → Type 0
Ended c line s = Rests 0 line.end (suc c) line.end s

anew : (m c : ℕ) (line : Line) (s : State) → Rests m line.end c line.end s → Rests 0 line.end c line.end s
anew m c line s (calm q h) = calm q (h.0, h.1, sorted_anew m line.end s.opened s.quotes (extents s.blocks) (h.2))
anew m c line s (leafed w r front b h) = leafed w r front b (record {
  floor = h.floor;
  split = h.split;
  stack = h.stack;
  depth = h.depth;
  after = h.after;
  low = h.low;
  count = h.count;
  first = h.first;
  words = h.words;
  past = h.past;
  sorted = sorted_anew m line.end s.opened s.quotes (extents front) h.sorted;
})

leaf_started_rests : (m c f : ℕ) (t : List ℕ) (cs : List Cell) (line : Line) (place : LineStart) (s : State) → Grounded Any cs line → c ≤ 2 ^ 64 - 1 → Floor cs line f place.cursor → GoOn m place.depth s → Rests m line.end c f s → Ended c line (leaf_started_in core_known t cs line place s)
unfolding leaf_started_in
leaf_started_rests m c f t cs line place s k few v g h = by (containers_opened_in CORE t cs line (tail_of cs) place s) (containers_rest m c t cs line (tail_of cs) k (length cs) f place s v g h)
  where
    starts : (u : State) (next : LineStart) (n i : ℕ) → GoOn n next.depth u → Rests n line.end c i u → Floor cs line i next.cursor → Ended c line (started_at_in core_known t cs line (tail_of cs) (u, next))
    starts u next n i x r w =
        subst (Ended c line) (sym (core_begun t cs line (tail_of cs) u next))
        (anew n (suc c) line (started_in core_known (core_at t cs line (tail_of cs) u next) t cs line (tail_of cs) next u)
        (started_rests n c i t cs line (tail_of cs) next u (core_at t cs line (tail_of cs) u next) few w
        (leaves_start cs line k i (bytes_between t (start_of cs next line) line.end) (tail_of cs) next.cursor (is_paragraph u.leaf) (goes_directly next.depth u) w) x r))

    by : (r : State × LineStart) → Found c cs line r → Ended c line (started_at_in core_known t cs line (tail_of cs) r)
    by (u, next) (n, i, x, r, w) = starts u next n i x r w

worded_leafed : (m e c f : ℕ) (s : State) → is_worded s.leaf ≡ true → Rests m e c f s → Words m e c f s
worded_leafed m e c f s w (calm q h) = absurd (true≢false (sym w ∙ ap is_worded q))
worded_leafed m e c f s w (leafed x r front b h) = (r, (front, b, h))

turned_rests : (m c f : ℕ) (t : List ℕ) (cs : List Cell) (line : Line) (place : LineStart) (s : State) (u : Turn) → Grounded Any cs line → c ≤ 2 ^ 64 - 1 → f ≤ line.end → Floor cs line f place.cursor → Turned s.leaf u → GoOn m place.depth s → Rests m line.end c f s → Ended c line (turn_taken_in core_known u t cs line place s)
unfolding passed_in leaf_ended
turned_rests m c f t cs line place s turn.Closes k few l v w g h = by (worded_leafed m line.end c f s w h)
  where
    u : State
    u = record s { end = line.end; line = line.number }

    by : Words m line.end c f s → Ended c line (leaf_finished u)
    by (r, (front, b, x)) = anew m (suc c) line (leaf_finished u) (finished_rests m line.end (suc c) line.end u front b (omega arith) (leafed_more m line.end c (suc c) f line.end u front b (omega arith) l (omega arith) record {
      floor = x.floor;
      split = x.split;
      stack = x.stack;
      depth = x.depth;
      after = x.after;
      low = x.low;
      count = x.count;
      first = x.first;
      words = x.words;
      past = x.past;
      sorted = x.sorted;
    }))
turned_rests m c f t cs line place s (turn.Takes column) k few l v w g h = by (worded_leafed m line.end c f s (w.0) h)
  where
    by : Words m line.end c f s → Ended c line (code_taken t cs column line s)
    by (r, (front, b, x)) = anew m (suc c) line (code_taken t cs column line s) (code_rests m c f t cs column line s front b (w.0) (w.1) (omega arith) x)
turned_rests m c f t cs line place s turn.Passes k few l v w g h = leaf_started_rests m c f t cs line place s k few v g h
turned_rests m c f t cs line place s (turn.Row x) k few l v w g h = absurd w

touched_stack : (f e l depth : ℕ) (qs : List ℕ) (os : List Opened) (bs : List Block) → Stack (length os) f os (extents bs) → Stack (length (touched_from depth e l qs os)) f (touched_from depth e l qs os) (extents bs)
touched_stack f e l depth qs os bs h = subst (λ n. Stack n f (touched_from depth e l qs os) (extents bs)) (sym (touched_length depth e l qs os)) (stack_grows (length os) f f os (touched_from depth e l qs os) (extents bs) (omega arith) (touched_grows (length os) depth e l qs os) h)

touched_rests : (m c f : ℕ) (line : Line) (depth : ℕ) (s : State) → m ≤ depth → (length s.opened ≤ m) ⊎ (depth ≤ m) → f ≤ line.end → Rests 0 f c f s → Rests m line.end c f (touched line depth s)
unfolding touched
touched_rests m c f line depth s a d l (calm q h) = calm q (touched_stack f line.end line.number depth s.quotes s.opened s.blocks (h.0), h.1, sorted_touched m depth line.end f line.number s.opened s.quotes (extents s.blocks) a d l (h.2))
touched_rests m c f line depth s a d l (leafed w r front b h) = leafed w r front b (record {
  floor = h.floor;
  split = h.split;
  stack = touched_stack h.floor line.end line.number depth s.quotes s.opened front h.stack;
  depth = h.depth ∙ sym (touched_length depth line.end line.number s.quotes s.opened);
  after = h.after;
  low = h.low;
  count = h.count;
  first = h.first;
  words = h.words;
  past = h.past;
  sorted = sorted_touched m depth line.end f line.number s.opened s.quotes (extents front) a d l h.sorted;
})

-- a line leaves a page whose blocks nest and are in order
pub cells_rest : (c f : ℕ) (t : List ℕ) (cs : List Cell) (line : Line) (s : State) → Grounded Any cs line → c ≤ 2 ^ 64 - 1 → f ≤ line.end → ((x : ℕ) → f ≤ cell_place cs x line.end) → Rests 0 f c f s → Rests 0 line.end (suc c) line.end (cells_taken_in core_known t cs line s)
unfolding cells_taken_in turn_in touched
cells_rest c f t cs line s k few l low h = by (matched cs s.opened s.quotes)
  where
    by : (found : ℕ × Cursor) → Ended c line (taken_at_in core_known t cs line (record { cursor = found.1; depth = found.0 }) (touched line (found.0) s))
    by (depth, cursor) = turns (nat_le (length s.opened) depth) refl
      where
        place : LineStart
        place = record { cursor = cursor; depth = depth }

        u : State
        u = touched line depth s

        same : length u.opened ≡ length s.opened
        same = touched_length depth line.end line.number s.quotes s.opened

        goes : (m : ℕ) → m ≤ depth → m ≤ length s.opened → (length s.opened ≤ m) ⊎ (depth ≤ m) → Ended c line (taken_at_in core_known t cs line place u)
        goes m a b d = turned_rests m c f t cs line place u (turn_of t cs line place u) k few l (record { column = low cursor.column; ink = low cursor.ink }) (turn_turned t cs line place u (rests_core m line.end c f u w)) (a, omega (arith, same)) w
          where
            w : Rests m line.end c f u
            w = touched_rests m c f line depth s a d l h

        turns : (b : Bool) → nat_le (length s.opened) depth ≡ b → Ended c line (taken_at_in core_known t cs line place u)
        turns true q = let a : length s.opened ≤ depth = grind (arith, nat_tests) in goes (length s.opened) a (omega arith) (inl (omega arith))
        turns false q = let a : depth < length s.opened = grind (arith, nat_tests) in goes depth (omega arith) (omega arith) (inr (omega arith))

-- A line with ink leaves a page that it reaches.
use Rattle.std.proofs.Common.{◌≡◌, ◌⊎◌, inl, inr, ℕ, zero, suc, ◌+◌, ◌-◌, ◌^◌, ◌<◌, ◌≤◌, Bool, true, false, not, ◌==◌, ◌&&◌, ◌||◌, cond, if◌then◌else◌, nat_lt, nat_le, List, [], ◌∷◌, ◌++◌, length, drop, refl, ap, sym, ◌∙◌, subst, arith}
use Rattle.std.specs.Prelude.{min, ◌%◌, replicate, take_while, slice_get, slice_set, unwrap_or, Option, Some, None}
use Rattle.std.specs.Option.{option_map, option_map_or}
use Rattle.std.proofs.lemmas.Bool.Decides.{nat_tests}
use Rattle.std.proofs.lemmas.List.Sums.{take_while-cons}
use Rattle.tocmark_event.specs.declared.event.HeadingLevel.{HeadingLevel}
use Rattle.tocmark_read_scan.specs.Basic.{plus, bytes_between}
use Rattle.tocmark_read_scan.specs.Repeat.{going, repeated}
use Rattle.tocmark_read_scan.specs.declared.syntax.TheConstants.{CORE}
use Rattle.tocmark_read_lines.specs.Cells.{cell, filled, cells_of, cell_byte, cell_place, run_of, ink_from, first_cursor, moved, indent_of, is_blank_at}
use Rattle.tocmark_read_lines.specs.Containers.{after_quote, item_goes_on, going_on_as, going_on, passed, stopped, matched_from, matched, container_in, touched_from}
use Rattle.tocmark_read_lines.specs.Html.{html_ends}
use Rattle.tocmark_read_lines.specs.Lines.{ends_here, line_stop, line, lines_from}
use Rattle.tocmark_read_lines.specs.Marks.{closes_fence, tail_of, is_rule, heading_at, fence_at}
use Rattle.tocmark_read_lines.specs.declared.beginnings.Fence.{Fence}
use Rattle.tocmark_read_lines.specs.declared.beginnings.Heading.{Heading}
use Rattle.tocmark_read_lines.specs.declared.beginnings.Tail.{Tail}
use Rattle.tocmark_read_lines.specs.declared.cell.Cell.{Cell}
use Rattle.tocmark_read_lines.specs.declared.cell.Cursor.{Cursor}
use Rattle.tocmark_read_lines.specs.declared.container.Container.{Container}
use Rattle.tocmark_read_lines.specs.declared.container.Container.TheVariants as container
use Rattle.tocmark_read_lines.specs.declared.container.ContainerStart.{ContainerStart}
use Rattle.tocmark_read_lines.specs.declared.container.ContainerStart.TheVariants as begins
use Rattle.tocmark_read_lines.specs.declared.container.ItemStart.{ItemStart}
use Rattle.tocmark_read_lines.specs.declared.container.Opened.{Opened}
use Rattle.tocmark_read_lines.specs.declared.html.HtmlKind.{HtmlKind}
use Rattle.tocmark_read_lines.specs.declared.line.Line.{Line}
use Rattle.tocmark_read_page.specs.Leaves.{is_paragraph}
use Rattle.tocmark_read_page.specs.Pages.{State, leaf_finished, settled, closed_to, list_left, leaf_opened, piece_taken, opened_with, has_text, start_of, of_kind}
use Rattle.tocmark_read_page.specs.Pieces.{code_piece, text_piece, heading_piece, keeps_line}
use Rattle.tocmark_read_page.specs.declared.leaf.Leaf.{Leaf}
use Rattle.tocmark_read_page.specs.declared.leaf.Leaf.TheVariants as leaf
use Rattle.tocmark_read_page.specs.declared.line_start.LineStart.{LineStart}
use Rattle.tocmark_read_page.specs.declared.page.Block.{Block}
use Rattle.tocmark_read_page.specs.declared.page.BlockKind.TheVariants as kind
use Rattle.tocmark_read_page.specs.declared.piece.Piece.{Piece}
use Rattle.tocmark_read_constructs.specs.Headings.{heading_put, heading_started_in, underlined, underlined_in}
use Rattle.tocmark_read_constructs.specs.Metadata.{metadata_in}
use Rattle.tocmark_read_constructs.specs.Quotes.{quote_opened}
use Rattle.tocmark_read_blocks.specs.Blocks.{core_known, rule_or_text, underlined_if, underline_taken_in, started_in, started_at_in, leaf_started_in, passed_in, turn_of, turn_in, leaf_ended, touched, turn_taken_in, taken_at_in, cells_taken_in, line_taken_in}
use Rattle.tocmark_read_blocks.specs.Codes.{info_of, html_ended_as, html_ended, code_taken, indented_started, fence_started, html_started}
use Rattle.tocmark_read_blocks.specs.Containers.{goes_directly, is_in_list, list_started, item_opened, begun_at, container_once_in, containers_opened_in}
use Rattle.tocmark_read_blocks.specs.Leaves.{goes_past_blank, leaf_turn, html_at, leaf_at, mark_at, metadata_or, rule_at, underline_in}
use Rattle.tocmark_read_blocks.specs.Paragraphs.{in_paragraph, rule_started, text_started, text_taken}
use Rattle.tocmark_read_blocks.specs.declared.leaf.LeafStart.{LeafStart}
use Rattle.tocmark_read_blocks.specs.declared.leaf.LeafStart.TheVariants as start
use Rattle.tocmark_read_blocks.specs.declared.leaf.Turn.{Turn}
use Rattle.tocmark_read_blocks.specs.declared.leaf.Turn.TheVariants as turn
use Rattle.tocmark_text_laws.specs.Loose.{is_inky, has_ink}
use Rattle.tocmark_text_laws.proofs.Alls.{all_set, all_got, all_changed}
use Rattle.tocmark_text_laws.proofs.Shut.{closed_shut, finished_shut}
use Rattle.tocmark_text_laws.proofs.Leaves.{is_core}
use Rattle.tocmark_text_laws.proofs.Core.{repeated_keeps}
use Rattle.tocmark_text_laws.proofs.Begun.{is_core_start, container_core, item_shut, quote_shut}
use Rattle.tocmark_text_laws.proofs.Machine.{core_at, core_begun}
use Rattle.tocmark_text_laws.proofs.Pages.{is_shut}
use Rattle.tocmark_text_laws.proofs.QuotedLeaves.{paragraph_open}
use Rattle.tocmark_text_laws.proofs.Tight.{IsTight, Tight, Calm, Along, Next, calm_along, words_along, calm_less, along_less, touched_inner, finish_calm, settled_along, closed_calm, list_left_calm, opened_calm, leaf_opened_tight, piece_tight}

-- columns with ink

abbrev inked : List Cell → Bool
inked [] = false
inked (c ∷ cs) = is_inky c.byte || inked cs

-- ink is left from a column on
abbrev More : List Cell → ℕ → Type 0
More cs n = inked (drop n cs) ≡ true

pub or_more : (a b : Bool) → b ≡ true → (a || b) ≡ true
or_more true b e = refl
or_more false b e = e

pub or_left : (a b : Bool) → a ≡ true → (a || b) ≡ true
or_left true b e = refl
or_left false b e = absurd cc

or_rest : (a b : Bool) → a ≡ false → (a || b) ≡ true → b ≡ true
or_rest true b e h = absurd cc
or_rest false b e h = h

or_two : (a b c : Bool) → (a || b) ≡ true → (b ≡ true → c ≡ true) → (a || c) ≡ true
or_two true b c h f = refl
or_two false b c h f = f h

inked_left : (xs ys : List Cell) → inked xs ≡ true → inked (xs ++ ys) ≡ true
inked_left [] ys h = absurd cc
inked_left (x ∷ xs) ys h = or_two (is_inky x.byte) (inked xs) (inked (xs ++ ys)) h (inked_left xs ys)

inked_right : (xs ys : List Cell) → inked ys ≡ true → inked (xs ++ ys) ≡ true
inked_right [] ys h = h
inked_right (x ∷ xs) ys h = or_more (is_inky x.byte) (inked (xs ++ ys)) (inked_right xs ys h)

no_tab : (x y z : Bool) → not (x || y || z) ≡ true → y ≡ false
no_tab x false z h = refl
no_tab true true z h = absurd cc
no_tab false true z h = absurd cc

filled_more : (cells : List Cell) (b at : ℕ) → inked cells ≡ true → inked (filled cells b at) ≡ true
unfolding filled
filled_more cells b at h = by (b == 9)
  where
    by : (k : Bool) → inked (if k then cells ++ replicate (4 - length cells % 4) (cell 32 at) else cells ++ cell b at ∷ []) ≡ true
    by true = inked_left cells (replicate (4 - length cells % 4) (cell 32 at)) h
    by false = inked_left cells (cell b at ∷ []) h

filled_ink : (cells : List Cell) (b at : ℕ) → is_inky b ≡ true → inked (filled cells b at) ≡ true
unfolding filled
filled_ink cells b at h = by (b == 9) (no_tab (b == 32) (b == 9) (b == 62) h)
  where
    by : (k : Bool) → k ≡ false → inked (if k then cells ++ replicate (4 - length cells % 4) (cell 32 at) else cells ++ cell b at ∷ []) ≡ true
    by true e = absurd cc
    by false e = inked_right cells (cell b at ∷ []) (or_left (is_inky b) false h)

cells_inked : (cells : List Cell) (at : ℕ) (bs : List ℕ) → (inked cells ≡ true) ⊎ (has_ink bs ≡ true) → inked (cells_of cells at bs) ≡ true
cells_inked cells at [] (inl h) = h
cells_inked cells at [] (inr h) = absurd cc
cells_inked cells at (b ∷ bs) h = cells_inked (filled cells b at) (plus at 1) bs (by h)
  where
    each : (x : Bool) → is_inky b ≡ x → (x || has_ink bs) ≡ true → (inked (filled cells b at) ≡ true) ⊎ (has_ink bs ≡ true)
    each true e g = inl (filled_ink cells b at e)
    each false e g = inr g

    by : (inked cells ≡ true) ⊎ (has_ink (b ∷ bs) ≡ true) → (inked (filled cells b at) ≡ true) ⊎ (has_ink bs ≡ true)
    by (inl g) = inl (filled_more cells b at g)
    by (inr g) = each (is_inky b) refl g

-- ink that is left

drop_less : (cs : List Cell) (m n : ℕ) → m ≤ n → More cs n → More cs m
drop_less cs zero zero l h = h
drop_less [] zero (suc n) l h = absurd cc
drop_less (c ∷ cs) zero (suc n) l h = or_more (is_inky c.byte) (inked cs) (drop_less cs zero n (omega arith) h)
drop_less cs (suc m) zero l h = absurd (omega (arith, l))
drop_less [] (suc m) (suc n) l h = h
drop_less (c ∷ cs) (suc m) (suc n) l h = drop_less cs m n (omega (arith, l)) h

more_low : (cs : List Cell) (n : ℕ) → More cs n → n < length cs
more_low [] zero h = absurd cc
more_low [] (suc n) h = absurd cc
more_low (c ∷ cs) zero h = omega arith
more_low (c ∷ cs) (suc n) h = omega (arith, more_low cs n h)

skip : (cs : List Cell) (n : ℕ) → is_inky (cell_byte cs n) ≡ false → More cs n → More cs (suc n)
skip [] zero e h = absurd cc
skip [] (suc n) e h = absurd cc
skip (c ∷ cs) zero e h = or_rest (is_inky c.byte) (inked cs) e h
skip (c ∷ cs) (suc n) e h = skip cs n e h

pale_space : (b : ℕ) → (b == 32) ≡ true → is_inky b ≡ false
pale_space b e = let z : b ≡ 32 = grind (arith, e, nat_tests) in ap is_inky z

pale_quote : (b : ℕ) → (b == 62) ≡ true → is_inky b ≡ false
pale_quote b e = let z : b ≡ 62 = grind (arith, e, nat_tests) in ap is_inky z

run_skip : (cs : List Cell) → inked cs ≡ true → inked (drop (length (take_while (λ (c : Cell). c.byte == 32) cs)) cs) ≡ true
run_skip [] h = absurd cc
run_skip (c ∷ cs) h = subst (λ (xs : List Cell). inked (drop (length xs) (c ∷ cs)) ≡ true) (sym (take_while-cons (λ (c : Cell). c.byte == 32) c cs)) (by (c.byte == 32) refl (run_skip cs))
  where
    by : (b : Bool) → (c.byte == 32) ≡ b → (inked cs ≡ true → inked (drop (length (take_while (λ (c : Cell). c.byte == 32) cs)) cs) ≡ true) → inked (drop (length (cond b (c ∷ take_while (λ (c : Cell). c.byte == 32) cs) [])) (c ∷ cs)) ≡ true
    by true e again = again (or_rest (is_inky c.byte) (inked cs) (pale_space c.byte e) h)
    by false e again = h

none_more : (n : ℕ) → More [] n → ⊥
none_more zero h = absurd cc
none_more (suc n) h = absurd cc

more_add : (cs : List Cell) (n r : ℕ) → inked (drop r (drop n cs)) ≡ true → More cs (n + r)
more_add cs zero r h = let z : r ≡ zero + r = omega arith in subst (More cs) z h
more_add [] (suc n) r h = absurd (none_more r h)
more_add (c ∷ cs) (suc n) r h = let z : suc (n + r) ≡ suc n + r = omega arith in subst (More (c ∷ cs)) z (more_add cs n r h)

plus_low : (a b : ℕ) → plus a b ≤ a + b
plus_low a b = omega arith

plus_up : (a b : ℕ) → a ≤ 2 ^ 64 - 1 → a ≤ plus a b
plus_up a b h = omega (arith, h)

plus_top : (a b : ℕ) → plus a b ≤ 2 ^ 64 - 1
plus_top a b = omega arith

plus_one : (a : ℕ) → plus a 1 ≤ suc a
plus_one a = omega arith

ink_more : (cs : List Cell) (n : ℕ) → More cs n → More cs (ink_from cs n)
ink_more cs n h = drop_less cs (ink_from cs n) (n + run_of cs n 32) (plus_low n (run_of cs n 32)) (more_add cs n (run_of cs n 32) (run_skip (drop n cs) h))

less_yes : (a b : ℕ) → a < b → nat_lt a b ≡ true
less_yes a b h = grind (arith, h, nat_tests)

not_blank : (a b : ℕ) → b < a → nat_le a b ≡ false
not_blank a b h = grind (arith, h, nat_tests)

pub le_true : (a b : ℕ) → nat_le a b ≡ true → a ≤ b
le_true a b h = grind (arith, h, nat_tests)

-- a cursor after which ink is left
record Rich (cs : List Cell) (c : Cursor) : Type 0 where
  order : c.column ≤ c.ink
  ink : More cs c.ink

abbrev MayRich : List Cell → Option Cursor → Type 0
MayRich cs None = Unit
MayRich cs (Some c) = Rich cs c

rich_some : (cs : List Cell) (c : Cursor) → Rich cs c → is_blank_at cs c ≡ false
rich_some cs c h = not_blank (length cs) c.ink (more_low cs c.ink h.ink)

first_rich : (cs : List Cell) → inked cs ≡ true → Rich cs (first_cursor cs)
unfolding first_cursor
first_rich cs h = record { order = omega arith; ink = ink_more cs 0 h }

moved_rich : (cs : List Cell) (c : Cursor) (n : ℕ) → n ≤ 2 ^ 64 - 1 → More cs n → Rich cs c → Rich cs (moved cs c n)
unfolding moved
moved_rich cs c n top m h = by (nat_le n c.ink) refl
  where
    by : (b : Bool) → nat_le n c.ink ≡ b → Rich cs (record { column = n; ink = (if b then c.ink else ink_from cs n) })
    by true e = record { order = le_true n c.ink e; ink = h.ink }
    by false e = record { order = plus_up n (run_of cs n 32) top; ink = ink_more cs n m }

after_rich : (cs : List Cell) (c : Cursor) → (cell_byte cs c.ink == 62) ≡ true → Rich cs c → Rich cs (after_quote cs c)
unfolding after_quote
after_rich cs c e h = by (cell_byte cs behind == 32) refl
  where
    behind : ℕ
    behind = plus c.ink 1

    first : More cs behind
    first = drop_less cs behind (suc c.ink) (plus_one c.ink) (skip cs c.ink (pale_quote (cell_byte cs c.ink) e) h.ink)

    by : (b : Bool) → (cell_byte cs behind == 32) ≡ b → Rich cs (if b then moved cs c (plus behind 1) else moved cs c behind)
    by true g = moved_rich cs c (plus behind 1) (plus_top behind 1) (drop_less cs (plus behind 1) (suc behind) (plus_one behind) (skip cs behind (pale_space (cell_byte cs behind) g) first)) h
    by false g = moved_rich cs c behind (plus_top c.ink 1) first h

within : (a w b : ℕ) → a ≤ b → w ≤ b - a → plus a w ≤ b
within a w b h k = omega (arith, h, k)

item_rich : (cs : List Cell) (c : Cursor) (w : ℕ) (had : Bool) → Rich cs c → MayRich cs (item_goes_on cs c w had)
unfolding item_goes_on
item_rich cs c w had h = rw (rich_some cs c h) (by (nat_le w (indent_of c)) refl)
  where
    by : (b : Bool) → nat_le w (indent_of c) ≡ b → MayRich cs (if b then Some (moved cs c (plus c.column w)) else None)
    by true e = moved_rich cs c (plus c.column w) (plus_top c.column w) (drop_less cs (plus c.column w) c.ink (within c.column w c.ink h.order (le_true w (indent_of c) e)) h.ink) h
    by false e = tt

goes_rich : (cs : List Cell) (c : Cursor) (k : Container) (had : Bool) → Rich cs c → MayRich cs (going_on_as k cs c had)
goes_rich cs c container.Quote had h = by (nat_le (indent_of c) 3) (cell_byte cs c.ink == 62) refl
  where
    by : (a b : Bool) → (cell_byte cs c.ink == 62) ≡ b → MayRich cs (if a && b then Some (after_quote cs c) else None)
    by true true e = after_rich cs c e h
    by true false e = tt
    by false b e = tt
goes_rich cs c (container.List sort) had h = h
goes_rich cs c (container.Item width) had h = item_rich cs c width had h
goes_rich cs c container.Footnote had h = item_rich cs c 4 true h
goes_rich cs c container.Definitions had h = h
goes_rich cs c (container.Definition width) had h = item_rich cs c width had h

passed_rich : (cs : List Cell) (c : Cursor) (o : Opened) → Rich cs c → MayRich cs (passed cs c o)
unfolding passed going_on
passed_rich cs c o h = by (nat_le (length cs) c.column)
  where
    by : (b : Bool) → MayRich cs (if b then None else going_on_as o.container cs c o.had)
    by true = tt
    by false = goes_rich cs c o.container o.had h

matched_rich : (cs : List Cell) (opened : List Opened) (qs : List ℕ) (count : ℕ) (c : Cursor) (os : List Opened) → Rich cs c → Rich cs ((matched_from cs opened qs count c os).1)
matched_rich cs opened qs count c [] h = h
matched_rich cs opened qs count c (o ∷ os) h = by (passed cs c o) (passed_rich cs c o h) (λ d g. matched_rich cs opened qs (plus count 1) d os g)
  where
    by : (x : Option Cursor) → MayRich cs x → ((d : Cursor) → Rich cs d → Rich cs ((matched_from cs opened qs (plus count 1) d os).1)) → Rich cs ((option_map_or (λ next. matched_from cs opened qs (plus count 1) next os) x (stopped cs opened qs count c, c)).1)
    by None g again = h
    by (Some d) g again = again d g

-- the open leaf takes the line

abbrev Goes : List Cell → Leaf → Turn → Type 0
Goes cs k turn.Closes = Unit
Goes cs k (turn.Takes column) = (keeps_line cs column k ≡ true) × (is_shut k ≡ false)
Goes cs k turn.Passes = Unit
Goes cs k (turn.Row x) = ⊥

leaf_goes : (t : List ℕ) (cs : List Cell) (line : Line) (c : Cursor) (k : Leaf) → is_core k ≡ true → Rich cs c → Goes cs k (leaf_turn t cs line c k)
unfolding is_core leaf_turn keeps_line is_shut
leaf_goes t cs line c leaf.Nothing h r = tt
leaf_goes t cs line c leaf.Paragraph h r = tt
leaf_goes t cs line c leaf.Indented h r = by (nat_le 4 (indent_of c)) (is_blank_at cs c) refl (rich_some cs c r)
  where
    by : (a b : Bool) → nat_le 4 (indent_of c) ≡ a → b ≡ false → Goes cs leaf.Indented (if a then turn.Takes (plus c.column 4) else (if b then turn.Takes c.ink else turn.Passes))
    by true b e g = (less_yes (ink_from cs (plus c.column 4)) (length cs) (more_low cs (ink_from cs (plus c.column 4)) (ink_more cs (plus c.column 4) (drop_less cs (plus c.column 4) c.ink (within c.column 4 c.ink r.order (le_true 4 (indent_of c) e)) r.ink))), refl)
    by false true e g = absurd cc
    by false false e g = tt
leaf_goes t cs line c (leaf.Fenced f) h r = by (closes_fence cs c f)
  where
    by : (b : Bool) → Goes cs (leaf.Fenced f) (if b then turn.Closes else turn.Takes (plus c.column (min f.indent (indent_of c))))
    by true = tt
    by false = (refl, refl)
leaf_goes t cs line c (leaf.Html k) h r = by (is_blank_at cs c && not (goes_past_blank k))
  where
    by : (b : Bool) → Goes cs (leaf.Html k) (if b then turn.Passes else turn.Takes c.column)
    by true = tt
    by false = (refl, refl)
leaf_goes t cs line c (leaf.Metadata k) h r = absurd cc
leaf_goes t cs line c (leaf.Table x) h r = absurd cc

turn_goes : (t : List ℕ) (cs : List Cell) (line : Line) (place : LineStart) (s : State) → is_core s.leaf ≡ true → Rich cs place.cursor → Goes cs s.leaf (turn_of t cs line place s)
unfolding turn_of
turn_goes t cs line place s h r = by (nat_le (length s.opened) place.depth)
  where
    by : (b : Bool) → Goes cs s.leaf (if b then leaf_turn t cs line place.cursor s.leaf else turn.Passes)
    by true = leaf_goes t cs line place.cursor s.leaf h r
    by false = tt

-- leaves take the line

same_low : (a b : ℕ) → a ≡ b → b ≤ a
same_low a b e = omega (arith, e)

piece_any : (p : Piece) (line : Line) (keeps : Bool) (s : State) → (keeps ≡ true) ⊎ (line.number ≤ s.line) → Tight s → Tight (piece_taken p line keeps s) × (line.number ≤ (piece_taken p line keeps s).line) × ((piece_taken p line keeps s).leaf ≡ s.leaf)
unfolding piece_taken
piece_any p line keeps s k h = by keeps (nat_lt 0 p.spaces || nat_lt p.start p.next) k
  where
    made : Bool → State → State
    made y t = if y then record t { kept = length t.pieces; end = line.end; line = line.number } else t

    by : (y x : Bool) → (y ≡ true) ⊎ (line.number ≤ s.line) → Tight (made y (if x then record s { pieces = s.pieces ++ p ∷ [] } else s)) × (line.number ≤ (made y (if x then record s { pieces = s.pieces ++ p ∷ [] } else s)).line) × ((made y (if x then record s { pieces = s.pieces ++ p ∷ [] } else s)).leaf ≡ s.leaf)
    by true true g = (h, omega arith, refl)
    by true false g = (h, omega arith, refl)
    by false true (inl e) = absurd cc
    by false false (inl e) = absurd cc
    by false true (inr l) = (h, l, refl)
    by false false (inr l) = (h, l, refl)

pub ended_along : (n : ℕ) (rest : List ℕ) (s : State) → Tight s → n ≤ s.line → is_shut s.leaf ≡ false → Along n (html_ended rest s)
unfolding html_ended
ended_along n rest s h low e = by s.leaf
  where
    same : Along n s
    same = words_along n s h low e

    ends : (b : Bool) → Along n (if b then leaf_finished s else s)
    ends true = calm_along n (leaf_finished s) (finished_shut s) (finish_calm n s h low)
    ends false = same

    by : (k : Leaf) → Along n (html_ended_as k rest s)
    by leaf.Nothing = same
    by leaf.Paragraph = same
    by leaf.Indented = same
    by (leaf.Fenced x) = same
    by (leaf.Html k) = ends (html_ends k rest)
    by (leaf.Metadata k) = same
    by (leaf.Table x) = same

code_along : (t : List ℕ) (cs : List Cell) (column : ℕ) (line : Line) (s : State) → (keeps_line cs column s.leaf ≡ true) ⊎ (line.number ≤ s.line) → is_shut s.leaf ≡ false → Tight s → Along line.number (code_taken t cs column line s)
unfolding code_taken
code_along t cs column line s k e h =
    ended_along line.number (bytes_between t (code_piece cs column line).start (code_piece cs column line).end) (piece_taken (code_piece cs column line) line (keeps_line cs column s.leaf) s) (all.0) (all.1) (ap is_shut (all.2) ∙ e)
  where
    all : Tight (piece_taken (code_piece cs column line) line (keeps_line cs column s.leaf) s) × (line.number ≤ (piece_taken (code_piece cs column line) line (keeps_line cs column s.leaf) s).line) × ((piece_taken (code_piece cs column line) line (keeps_line cs column s.leaf) s).leaf ≡ s.leaf)
    all = piece_any (code_piece cs column line) line (keeps_line cs column s.leaf) s k h

abbrev Wordy : State → Type 0
Wordy s = Tight s × (is_shut s.leaf ≡ false)

begins_wordy : (x : ℕ) (s : State) → Wordy s → Wordy (text_started x s)
unfolding text_started
begins_wordy x s h = by (slice_get s.blocks (length s.blocks - 1)) refl
  where
    inside : (b : Block) → slice_get s.blocks (length s.blocks - 1) ≡ Some b → (k : Bool) → Wordy (if k then record s { blocks = slice_set s.blocks (length s.blocks - 1) (record b { start = x }) } else s)
    inside b e true = (all_set IsTight s.blocks (length s.blocks - 1) (record b { start = x }) (h.0) (all_got IsTight s.blocks (length s.blocks - 1) b (h.0) e), h.1)
    inside b e false = h

    by : (o : Option Block) → slice_get s.blocks (length s.blocks - 1) ≡ o → Wordy (option_map_or (λ (b : Block). if nat_le (length s.pieces) b.first then record s { blocks = slice_set s.blocks (length s.blocks - 1) (record b { start = x }) } else s) o s)
    by None e = h
    by (Some b) e = inside b e (nat_le (length s.pieces) b.first)

text_along : (t : List ℕ) (cs : List Cell) (line : Line) (place : LineStart) (k : ℕ) (s : State) → Next k line.number → Along k s → Along line.number (text_taken t cs line place s)
unfolding text_taken is_shut
text_along t cs line place k s near h = words_along line.number (piece_taken words line true u) (all.0) (same_low (piece_taken words line true u).line line.number (all.1)) (ap is_shut (all.2) ∙ wordy.1)
  where
    words : Piece
    words = text_piece cs place.cursor line

    inside : (b : Bool) → is_paragraph s.leaf ≡ b → Wordy (if b then s else leaf_opened leaf.Paragraph kind.Paragraph words.start line (closed_to t place.depth s))
    inside true e = (h.tight, paragraph_open s.leaf e)
    inside false e = (opened.0, ap is_shut (opened.2))
      where
        opened : Tight (leaf_opened leaf.Paragraph kind.Paragraph words.start line (closed_to t place.depth s)) × ((leaf_opened leaf.Paragraph kind.Paragraph words.start line (closed_to t place.depth s)).line ≡ line.number) × ((leaf_opened leaf.Paragraph kind.Paragraph words.start line (closed_to t place.depth s)).leaf ≡ leaf.Paragraph)
        opened = leaf_opened_tight k leaf.Paragraph kind.Paragraph words.start line (closed_to t place.depth s) near (closed_calm t k place.depth s h)

    u : State
    u = text_started words.start (in_paragraph t cs line place s)

    wordy : Wordy u
    wordy = begins_wordy words.start (in_paragraph t cs line place s) (inside (is_paragraph s.leaf) refl)

    all : Tight (piece_taken words line true u) × ((piece_taken words line true u).line ≡ line.number) × ((piece_taken words line true u).leaf ≡ u.leaf)
    all = piece_tight words line u (wordy.0)

rule_along : (t : List ℕ) (cs : List Cell) (line : Line) (place : LineStart) (k : ℕ) (s : State) → Next k line.number → Along k s → Along line.number (rule_started t cs line place s)
unfolding rule_started
rule_along t cs line place k s near h = calm_along line.number (leaf_finished u) (finished_shut u) (finish_calm line.number u (all.0) (same_low u.line line.number (all.1)))
  where
    u : State
    u = leaf_opened leaf.Nothing kind.Rule (start_of cs place line) line (closed_to t place.depth s)

    all : Tight u × (u.line ≡ line.number) × (u.leaf ≡ leaf.Nothing)
    all = leaf_opened_tight k leaf.Nothing kind.Rule (start_of cs place line) line (closed_to t place.depth s) near (closed_calm t k place.depth s h)

rule_or_text_along : (t : List ℕ) (cs : List Cell) (line : Line) (tail : Tail) (place : LineStart) (k : ℕ) (s : State) → Next k line.number → Along k s → Along line.number (rule_or_text (rule_at cs tail place.cursor.ink) t cs line place s)
unfolding rule_at
rule_or_text_along t cs line tail place k s near h = by (is_rule cs tail place.cursor.ink)
  where
    by : (b : Bool) → Along line.number (rule_or_text (if b then start.Rule else start.Text) t cs line place s)
    by true = rule_along t cs line place k s near h
    by false = text_along t cs line place k s near h

underline_along : (t : List ℕ) (cs : List Cell) (line : Line) (tail : Tail) (place : LineStart) (level : HeadingLevel) (k : ℕ) (s : State) → Next k line.number → Along k s → Along line.number (underline_taken_in core_known t cs line tail place level s)
unfolding underline_taken_in metadata_in metadata_or underlined_in underlined
underline_along t cs line tail place level k s near h = by (has_text u)
  where
    u : State
    u = settled t s

    same : Along k u
    same = settled_along t k s h

    headed : State
    headed = record u { blocks = of_kind (kind.Heading level None) u.blocks; end = line.end; line = line.number }

    by : (b : Bool) → Along line.number (underlined_if core_known b (rule_at cs tail place.cursor.ink) t cs line place level u)
    by true = calm_along line.number (leaf_finished headed) (finished_shut headed) (finish_calm line.number headed (all_changed IsTight u.blocks (length u.blocks - 1) (λ (b : Block). record b { kind = kind.Heading level None }) (λ y e q. q) same.tight) (let z : line.number ≤ line.number = omega arith in z))
    by false = rule_or_text_along t cs line tail place k u near same

-- what a line may begin: nothing only where it is blank
abbrev pub Starts : Bool → LeafStart → Type 0
Starts e start.Blank = e ≡ true
Starts e (start.Metadata k) = ⊥
Starts e (start.Task t) = ⊥
Starts e (start.QuoteKind k) = ⊥
Starts e b = Unit

pub leaf_starts : (cs : List Cell) (rest : List ℕ) (tail : Tail) (cursor : Cursor) (p d : Bool) → Starts (is_blank_at cs cursor) (leaf_at cs rest tail cursor p d)
unfolding leaf_at mark_at rule_at
leaf_starts cs rest tail cursor p d = by (is_blank_at cs cursor) (nat_lt (indent_of cursor) 4) p
  where
    rule : (e x : Bool) → Starts e (if x then start.Rule else start.Text)
    rule e true = tt
    rule e false = tt

    mark : (e : Bool) (h : Option Heading) (x : Option Fence) (k : Option HtmlKind) (u : Option HeadingLevel)
        → Starts e (unwrap_or (option_map (λ h. start.Heading h) h) (unwrap_or (option_map (λ f. start.Fence f) x) (unwrap_or (option_map (λ k. start.Html k) k) (unwrap_or (option_map (λ l. start.Underline l) u) (if is_rule cs tail cursor.ink then start.Rule else start.Text)))))
    mark e (Some h) x k u = tt
    mark e None (Some x) k u = tt
    mark e None None (Some k) u = tt
    mark e None None None (Some l) = tt
    mark e None None None None = rule e (is_rule cs tail cursor.ink)

    by : (a b q : Bool) → Starts a (if a then start.Blank else (if b then mark_at cs rest tail cursor p d else (if q then start.Text else start.Indented (plus cursor.column 4))))
    by true b q = refl
    by false true q = mark false (heading_at cs cursor.ink) (fence_at cs cursor) (html_at rest p) (underline_in cs cursor.ink d)
    by false false true = tt
    by false false false = tt

pub started_along : (t : List ℕ) (cs : List Cell) (line : Line) (tail : Tail) (place : LineStart) (k : ℕ) (s : State) (b : LeafStart) → Next k line.number → Starts (is_blank_at cs place.cursor) b → (is_blank_at cs place.cursor ≡ true → Along line.number s) → Along k s → Along line.number (started_in core_known b t cs line tail place s)
unfolding started_in indented_started fence_started html_started heading_started_in heading_put info_of is_shut
started_along t cs line tail place k s b near w blank h = by b w
  where
    u : State
    u = closed_to t place.depth s

    opened : (f : Leaf) (x : _) (n : ℕ) → Tight (leaf_opened f x n line u) × ((leaf_opened f x n line u).line ≡ line.number) × ((leaf_opened f x n line u).leaf ≡ f)
    opened f x n = leaf_opened_tight k f x n line u near (closed_calm t k place.depth s h)

    code : (f : Leaf) (x : _) (n column : ℕ) → is_shut f ≡ false → Along line.number (code_taken t cs column line (leaf_opened f x n line u))
    code f x n column e = code_along t cs column line (leaf_opened f x n line u) (inr (same_low (leaf_opened f x n line u).line line.number ((opened f x n).1))) (ap is_shut ((opened f x n).2) ∙ e) ((opened f x n).0)

    by : (b : LeafStart) → Starts (is_blank_at cs place.cursor) b → Along line.number (started_in core_known b t cs line tail place s)
    by start.Blank w = calm_along line.number u (closed_shut t place.depth s) (closed_calm t line.number place.depth s (blank w))
    by start.Text w = text_along t cs line place k s near h
    by (start.Indented column) w = code leaf.Indented kind.Indented (cell_place cs column line.end) column refl
    by (start.Heading x) w = calm_along line.number (leaf_finished v) (finished_shut v) (finish_calm line.number v (all.0) (same_low v.line line.number (all.1)))
      where
        o : State
        o = leaf_opened leaf.Nothing (kind.Heading x.level None) (start_of cs place line) line u

        v : State
        v = piece_taken (heading_piece cs x line) line true o

        all : Tight v × (v.line ≡ line.number) × (v.leaf ≡ o.leaf)
        all = piece_tight (heading_piece cs x line) line o ((opened leaf.Nothing (kind.Heading x.level None) (start_of cs place line)).0)
    by (start.Fence f) w = words_along line.number v (all.0) (same_low v.line line.number (all.1)) (ap is_shut (all.2))
      where
        v : State
        v = leaf_opened (leaf.Fenced f) (info_of cs place.cursor f line) (start_of cs place line) line u

        all : Tight v × (v.line ≡ line.number) × (v.leaf ≡ leaf.Fenced f)
        all = opened (leaf.Fenced f) (info_of cs place.cursor f line) (start_of cs place line)
    by (start.Html x) w = code (leaf.Html x) kind.Html (cell_place cs place.cursor.column line.end) place.cursor.column refl
    by (start.Underline level) w = underline_along t cs line tail place level k s near h
    by start.Rule w = rule_along t cs line place k s near h
    by (start.Metadata x) w = absurd w
    by (start.Task d) w = absurd w
    by (start.QuoteKind x) w = absurd w

-- containers begin

list_calm : (i : ItemStart) (x : ℕ) (line : Line) (k : ℕ) (s : State) → Next k line.number → Calm k s → Calm k (list_started i x line s)
unfolding list_started
list_calm i x line k s near h = by (is_in_list i.sort s)
  where
    by : (b : Bool) → Calm k (if b then s else opened_with (container.List i.sort) (kind.List i.number) x line (list_left s))
    by true = h
    by false = calm_less k line.number (opened_with (container.List i.sort) (kind.List i.number) x line (list_left s)) (near.0) (opened_calm k (container.List i.sort) (kind.List i.number) x line (list_left s) near (list_left_calm k s h))

-- nothing began, or the page is along the line
abbrev Stays : ℕ → State → State × Option LineStart → Type 0
Stays n s r = (r ≡ (s, None)) ⊎ Along n (r.0)

quote_along : (t : List ℕ) (cs : List Cell) (line : Line) (place : LineStart) (k : ℕ) (s : State) → Next k line.number → Along k s → Along line.number ((quote_opened t cs line place s).0)
unfolding quote_opened
quote_along t cs line place k s near h = calm_along line.number _ (quote_shut t cs line place s) (opened_calm k container.Quote (kind.Quote None) (start_of cs place line) line (list_left (closed_to t place.depth s)) near (list_left_calm k (closed_to t place.depth s) (closed_calm t k place.depth s h)))

item_along : (t : List ℕ) (cs : List Cell) (line : Line) (place : LineStart) (k : ℕ) (i : ItemStart) (s : State) → Next k line.number → Along k s → Along line.number ((item_opened t cs line place i s).0)
unfolding item_opened
item_along t cs line place k i s near h = calm_along line.number _ (item_shut t cs line place i s) (opened_calm k (container.Item i.width) kind.Item (start_of cs place line) line (list_started i (start_of cs place line) line (closed_to t place.depth s)) near (list_calm i (start_of cs place line) line k (closed_to t place.depth s) near (closed_calm t k place.depth s h)))

begun_along : (t : List ℕ) (cs : List Cell) (line : Line) (place : LineStart) (k : ℕ) (s : State) (o : Option ContainerStart) → is_core_start o ≡ true → Next k line.number → Along k s → Stays line.number s (begun_at t cs line place s o)
unfolding is_core_start
begun_along t cs line place k s None c near h = inl refl
begun_along t cs line place k s (Some begins.Quote) c near h = inr (quote_along t cs line place k s near h)
begun_along t cs line place k s (Some (begins.Item i)) c near h = inr (item_along t cs line place k i s near h)
begun_along t cs line place k s (Some (begins.Footnote n)) c near h = absurd cc
begun_along t cs line place k s (Some (begins.Definition d)) c near h = absurd cc

once_along : (t : List ℕ) (cs : List Cell) (line : Line) (tail : Tail) (k : ℕ) (place : LineStart) (s : State) → Next k line.number → Along k s → Stays line.number s (container_once_in CORE t cs line tail place s)
unfolding container_once_in
once_along t cs line tail k place s near h = begun_along t cs line place k s (container_in CORE cs tail place.cursor (goes_directly place.depth s)) (container_core cs tail place.cursor (goes_directly place.depth s)) near h

once_keeps : (t : List ℕ) (cs : List Cell) (line : Line) (tail : Tail) (k : ℕ) (place : LineStart) (s : State) → Next k line.number → Along line.number s → Along line.number ((container_once_in CORE t cs line tail place s).0)
once_keeps t cs line tail k place s near h = by (container_once_in CORE t cs line tail place s) (once_along t cs line tail k place s near (along_less k line.number s (near.0) h))
  where
    by : (r : State × Option LineStart) → Stays line.number s r → Along line.number (r.0)
    by r (inl e) = subst (λ (x : State × Option LineStart). Along line.number (x.0)) (sym e) h
    by r (inr g) = g

pub repeat_along : (t : List ℕ) (cs : List Cell) (line : Line) (tail : Tail) (k n : ℕ) (place : LineStart) (s : State) → Next k line.number → Along k s
    → (repeated (container_once_in CORE t cs line tail) n place s ≡ (s, place)) ⊎ Along line.number ((repeated (container_once_in CORE t cs line tail) n place s).0)
unfolding repeated
repeat_along t cs line tail k zero place s near h = inl refl
repeat_along t cs line tail k (suc n) place s near h = by (container_once_in CORE t cs line tail place s) (once_along t cs line tail k place s near h)
  where
    more : LineStart → State → State × LineStart
    more = λ d u. repeated (container_once_in CORE t cs line tail) n d u

    by : (r : State × Option LineStart) → Stays line.number s r → (going more place r ≡ (s, place)) ⊎ Along line.number ((going more place r).0)
    by r (inl e) = inl (ap (going more place) e)
    by (u, None) (inr g) = inr g
    by (u, Some d) (inr g) = inr (repeated_keeps (λ (v : State). Along line.number v) (container_once_in CORE t cs line tail) (λ c v q. once_keeps t cs line tail k c v near q) n d u g)

leaf_started_along : (t : List ℕ) (cs : List Cell) (line : Line) (place : LineStart) (k : ℕ) (s : State) → Next k line.number → Rich cs place.cursor → Along k s → Along line.number (leaf_started_in core_known t cs line place s)
unfolding leaf_started_in
leaf_started_along t cs line place k s near rich h = by (containers_opened_in CORE t cs line (tail_of cs) place s) (repeat_along t cs line (tail_of cs) k (length cs) place s near h)
  where
    starts : (u : State) (next : LineStart) → Along k u → (is_blank_at cs next.cursor ≡ true → Along line.number u) → Along line.number (started_at_in core_known t cs line (tail_of cs) (u, next))
    starts u next g blank = subst (Along line.number) (sym (core_begun t cs line (tail_of cs) u next)) (started_along t cs line (tail_of cs) next k u (core_at t cs line (tail_of cs) u next) near (leaf_starts cs (bytes_between t (start_of cs next line) line.end) (tail_of cs) next.cursor (is_paragraph u.leaf) (goes_directly next.depth u)) blank g)

    not_here : is_blank_at cs place.cursor ≡ true → Along line.number s
    not_here w = let z : true ≡ false = sym w ∙ rich_some cs place.cursor rich in absurd cc

    by : (r : State × LineStart) → (r ≡ (s, place)) ⊎ Along line.number (r.0) → Along line.number (started_at_in core_known t cs line (tail_of cs) r)
    by r (inl e) = subst (λ (x : State × LineStart). Along line.number (started_at_in core_known t cs line (tail_of cs) x)) (sym e) (starts s place h not_here)
    by (u, next) (inr g) = starts u next (along_less k line.number u (near.0) g) (λ w. g)

turned_along : (t : List ℕ) (cs : List Cell) (line : Line) (place : LineStart) (k : ℕ) (s : State) (u : Turn) → Next k line.number → Rich cs place.cursor → Goes cs s.leaf u → Along k s → Along line.number (turn_taken_in core_known u t cs line place s)
unfolding passed_in leaf_ended
turned_along t cs line place k s turn.Closes near rich g h = calm_along line.number _ (finished_shut (record s { end = line.end; line = line.number })) (finish_calm line.number (record s { end = line.end; line = line.number }) h.tight (let z : line.number ≤ line.number = omega arith in z))
turned_along t cs line place k s (turn.Takes column) near rich g h = code_along t cs column line s (inl (g.0)) (g.1) h.tight
turned_along t cs line place k s turn.Passes near rich g h = leaf_started_along t cs line place k s near rich h
turned_along t cs line place k s (turn.Row x) near rich g h = absurd g

pub line_along : (t : List ℕ) (line : Line) (k : ℕ) (s : State) → is_core s.leaf ≡ true → has_ink (bytes_between t line.start line.end) ≡ true → Next k line.number → Along k s → Along line.number (line_taken_in core_known t s line)
unfolding line_taken_in cells_taken_in touched turn_in
line_along t line k s c ink near h = by (matched cells s.opened s.quotes) (matched_rich cells s.opened s.quotes 0 (first_cursor cells) s.opened (first_rich cells (cells_inked [] line.start (bytes_between t line.start line.end) (inr ink))))
  where
    cells : List Cell
    cells = cells_of [] line.start (bytes_between t line.start line.end)

    by : (found : ℕ × Cursor) → Rich cells (found.1) → Along line.number (taken_at_in core_known t cells line (record { cursor = found.1; depth = found.0 }) (touched line (found.0) s))
    by (depth, cursor) rich = turned_along t cells line (record { cursor = cursor; depth = depth }) k u _ near rich (turn_goes t cells line (record { cursor = cursor; depth = depth }) u c rich)
        (record { tight = h.tight; words = h.words; inner = λ o. touched_inner k depth line.end line.number s.quotes s.opened (h.inner o) })
      where
        u : State
        u = record s { opened = touched_from depth line.end line.number s.quotes s.opened }

-- lines come one after the other

abbrev pub Follow : ℕ → List Line → Type 0
Follow k [] = Unit
Follow k (l ∷ ls) = Next k l.number × Follow l.number ls

next_line : (before : ℕ) → Next (plus before 1) (plus (before + 1) 1)
next_line before = (omega arith, omega arith)

pub follow_from : (t : List ℕ) (k before from at : ℕ) (rest : List ℕ) → Next k (plus before 1) → Follow k (lines_from t before from at rest)
follow_from t k before from at [] near = by (nat_lt from at)
  where
    by : (b : Bool) → Follow k (if b then line before from at at ∷ [] else [])
    by true = (near, tt)
    by false = tt
follow_from t k before from at (b ∷ bs) near = by (ends_here t b at) (follow_from t (plus before 1) (before + 1) (at + 1) (at + 1) bs (next_line before)) (follow_from t k before from (at + 1) bs near)
  where
    by : (x : Bool) → Follow (plus before 1) (lines_from t (before + 1) (at + 1) (at + 1) bs) → Follow k (lines_from t before from (at + 1) bs) → Follow k (if x then line before from (line_stop t from b at) (at + 1) ∷ lines_from t (before + 1) (at + 1) (at + 1) bs else lines_from t before from (at + 1) bs)
    by true g again = (near, g)
    by false g again = again

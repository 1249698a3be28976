-- Ink that is left in a line after the containers that go on.
use Rattle.std.proofs.Common.{◌≡◌, ◌⊎◌, inl, inr, ℕ, zero, suc, ◌+◌, ◌-◌, ◌^◌, ◌<◌, ◌≤◌, Bool, true, false, not, ◌==◌, ◌&&◌, ◌||◌, cond, if◌then◌else◌, nat_lt, nat_le, List, [], ◌∷◌, ◌++◌, length, drop, refl, ap, sym, subst, arith}
use Rattle.std.specs.Prelude.{min, ◌%◌, replicate, take_while, Option, Some, None}
use Rattle.std.specs.Option.{option_map_or}
use Rattle.std.proofs.lemmas.Bool.Decides.{nat_tests}
use Rattle.std.proofs.lemmas.List.Sums.{take_while-cons}
use Rattle.tocmark_read_scan.specs.Basic.{plus}
use Rattle.tocmark_read_lines.specs.Cells.{cell, filled, cells_of, cell_byte, run_of, ink_from, first_cursor, moved, indent_of, is_blank_at}
use Rattle.tocmark_read_lines.specs.Containers.{after_quote, item_goes_on, going_on_as, going_on, passed, stopped, matched_from}
use Rattle.tocmark_read_lines.specs.Lines.{line}
use Rattle.tocmark_read_lines.specs.Marks.{closes_fence}
use Rattle.tocmark_read_lines.specs.declared.cell.Cell.{Cell}
use Rattle.tocmark_read_lines.specs.declared.cell.Cursor.{Cursor}
use Rattle.tocmark_read_lines.specs.declared.container.Container.{Container}
use Rattle.tocmark_read_lines.specs.declared.container.Container.TheVariants as container
use Rattle.tocmark_read_lines.specs.declared.container.Opened.{Opened}
use Rattle.tocmark_read_lines.specs.declared.line.Line.{Line}
use Rattle.tocmark_read_page.specs.Pages.{State}
use Rattle.tocmark_read_page.specs.Pieces.{keeps_line}
use Rattle.tocmark_read_page.specs.declared.leaf.Leaf.{Leaf}
use Rattle.tocmark_read_page.specs.declared.leaf.Leaf.TheVariants as leaf
use Rattle.tocmark_read_page.specs.declared.line_start.LineStart.{LineStart}
use Rattle.tocmark_read_blocks.specs.Blocks.{turn_of}
use Rattle.tocmark_read_blocks.specs.Leaves.{goes_past_blank, leaf_turn}
use Rattle.tocmark_read_blocks.specs.declared.leaf.Turn.{Turn}
use Rattle.tocmark_read_blocks.specs.declared.leaf.Turn.TheVariants as turn
use Rattle.tocmark_text_laws.specs.Loose.{is_inky, has_ink}
use Rattle.tocmark_text_laws.proofs.Leaves.{is_core}
use Rattle.tocmark_text_laws.proofs.Pages.{is_shut}

-- columns with ink

abbrev pub inked : List Cell → Bool
inked [] = false
inked (c ∷ cs) = is_inky c.byte || inked cs

-- ink is left from a column on
abbrev pub More : List Cell → ℕ → Type 0
More cs n = inked (drop n cs) ≡ true

pub or_more : (a b : Bool) → b ≡ true → (a || b) ≡ true
or_more true b e = refl
or_more false b e = e

pub or_left : (a b : Bool) → a ≡ true → (a || b) ≡ true
or_left true b e = refl
or_left false b e = absurd cc

or_rest : (a b : Bool) → a ≡ false → (a || b) ≡ true → b ≡ true
or_rest true b e h = absurd cc
or_rest false b e h = h

or_two : (a b c : Bool) → (a || b) ≡ true → (b ≡ true → c ≡ true) → (a || c) ≡ true
or_two true b c h f = refl
or_two false b c h f = f h

inked_left : (xs ys : List Cell) → inked xs ≡ true → inked (xs ++ ys) ≡ true
inked_left [] ys h = absurd cc
inked_left (x ∷ xs) ys h = or_two (is_inky x.byte) (inked xs) (inked (xs ++ ys)) h (inked_left xs ys)

inked_right : (xs ys : List Cell) → inked ys ≡ true → inked (xs ++ ys) ≡ true
inked_right [] ys h = h
inked_right (x ∷ xs) ys h = or_more (is_inky x.byte) (inked (xs ++ ys)) (inked_right xs ys h)

no_tab : (x y z : Bool) → not (x || y || z) ≡ true → y ≡ false
no_tab x false z h = refl
no_tab true true z h = absurd cc
no_tab false true z h = absurd cc

filled_more : (cells : List Cell) (b at : ℕ) → inked cells ≡ true → inked (filled cells b at) ≡ true
unfolding filled
filled_more cells b at h = by (b == 9)
  where
    by : (k : Bool) → inked (if k then cells ++ replicate (4 - length cells % 4) (cell 32 at) else cells ++ cell b at ∷ []) ≡ true
    by true = inked_left cells (replicate (4 - length cells % 4) (cell 32 at)) h
    by false = inked_left cells (cell b at ∷ []) h

filled_ink : (cells : List Cell) (b at : ℕ) → is_inky b ≡ true → inked (filled cells b at) ≡ true
unfolding filled
filled_ink cells b at h = by (b == 9) (no_tab (b == 32) (b == 9) (b == 62) h)
  where
    by : (k : Bool) → k ≡ false → inked (if k then cells ++ replicate (4 - length cells % 4) (cell 32 at) else cells ++ cell b at ∷ []) ≡ true
    by true e = absurd cc
    by false e = inked_right cells (cell b at ∷ []) (or_left (is_inky b) false h)

pub cells_inked : (cells : List Cell) (at : ℕ) (bs : List ℕ) → (inked cells ≡ true) ⊎ (has_ink bs ≡ true) → inked (cells_of cells at bs) ≡ true
cells_inked cells at [] (inl h) = h
cells_inked cells at [] (inr h) = absurd cc
cells_inked cells at (b ∷ bs) h = cells_inked (filled cells b at) (plus at 1) bs (by h)
  where
    each : (x : Bool) → is_inky b ≡ x → (x || has_ink bs) ≡ true → (inked (filled cells b at) ≡ true) ⊎ (has_ink bs ≡ true)
    each true e g = inl (filled_ink cells b at e)
    each false e g = inr g

    by : (inked cells ≡ true) ⊎ (has_ink (b ∷ bs) ≡ true) → (inked (filled cells b at) ≡ true) ⊎ (has_ink bs ≡ true)
    by (inl g) = inl (filled_more cells b at g)
    by (inr g) = each (is_inky b) refl g

-- ink that is left

drop_less : (cs : List Cell) (m n : ℕ) → m ≤ n → More cs n → More cs m
drop_less cs zero zero l h = h
drop_less [] zero (suc n) l h = absurd cc
drop_less (c ∷ cs) zero (suc n) l h = or_more (is_inky c.byte) (inked cs) (drop_less cs zero n (omega arith) h)
drop_less cs (suc m) zero l h = absurd (omega (arith, l))
drop_less [] (suc m) (suc n) l h = h
drop_less (c ∷ cs) (suc m) (suc n) l h = drop_less cs m n (omega (arith, l)) h

more_low : (cs : List Cell) (n : ℕ) → More cs n → n < length cs
more_low [] zero h = absurd cc
more_low [] (suc n) h = absurd cc
more_low (c ∷ cs) zero h = omega arith
more_low (c ∷ cs) (suc n) h = omega (arith, more_low cs n h)

skip : (cs : List Cell) (n : ℕ) → is_inky (cell_byte cs n) ≡ false → More cs n → More cs (suc n)
skip [] zero e h = absurd cc
skip [] (suc n) e h = absurd cc
skip (c ∷ cs) zero e h = or_rest (is_inky c.byte) (inked cs) e h
skip (c ∷ cs) (suc n) e h = skip cs n e h

pale_space : (b : ℕ) → (b == 32) ≡ true → is_inky b ≡ false
pale_space b e = let z : b ≡ 32 = grind (arith, e, nat_tests) in ap is_inky z

pale_quote : (b : ℕ) → (b == 62) ≡ true → is_inky b ≡ false
pale_quote b e = let z : b ≡ 62 = grind (arith, e, nat_tests) in ap is_inky z

run_skip : (cs : List Cell) → inked cs ≡ true → inked (drop (length (take_while (λ (c : Cell). c.byte == 32) cs)) cs) ≡ true
run_skip [] h = absurd cc
run_skip (c ∷ cs) h = subst (λ (xs : List Cell). inked (drop (length xs) (c ∷ cs)) ≡ true) (sym (take_while-cons (λ (c : Cell). c.byte == 32) c cs)) (by (c.byte == 32) refl (run_skip cs))
  where
    by : (b : Bool) → (c.byte == 32) ≡ b → (inked cs ≡ true → inked (drop (length (take_while (λ (c : Cell). c.byte == 32) cs)) cs) ≡ true) → inked (drop (length (cond b (c ∷ take_while (λ (c : Cell). c.byte == 32) cs) [])) (c ∷ cs)) ≡ true
    by true e again = again (or_rest (is_inky c.byte) (inked cs) (pale_space c.byte e) h)
    by false e again = h

none_more : (n : ℕ) → More [] n → ⊥
none_more zero h = absurd cc
none_more (suc n) h = absurd cc

more_add : (cs : List Cell) (n r : ℕ) → inked (drop r (drop n cs)) ≡ true → More cs (n + r)
more_add cs zero r h = let z : r ≡ zero + r = omega arith in subst (More cs) z h
more_add [] (suc n) r h = absurd (none_more r h)
more_add (c ∷ cs) (suc n) r h = let z : suc (n + r) ≡ suc n + r = omega arith in subst (More (c ∷ cs)) z (more_add cs n r h)

plus_low : (a b : ℕ) → plus a b ≤ a + b
plus_low a b = omega arith

plus_up : (a b : ℕ) → a ≤ 2 ^ 64 - 1 → a ≤ plus a b
plus_up a b h = omega (arith, h)

plus_top : (a b : ℕ) → plus a b ≤ 2 ^ 64 - 1
plus_top a b = omega arith

plus_one : (a : ℕ) → plus a 1 ≤ suc a
plus_one a = omega arith

ink_more : (cs : List Cell) (n : ℕ) → More cs n → More cs (ink_from cs n)
ink_more cs n h = drop_less cs (ink_from cs n) (n + run_of cs n 32) (plus_low n (run_of cs n 32)) (more_add cs n (run_of cs n 32) (run_skip (drop n cs) h))

less_yes : (a b : ℕ) → a < b → nat_lt a b ≡ true
less_yes a b h = grind (arith, h, nat_tests)

not_blank : (a b : ℕ) → b < a → nat_le a b ≡ false
not_blank a b h = grind (arith, h, nat_tests)

pub le_true : (a b : ℕ) → nat_le a b ≡ true → a ≤ b
le_true a b h = grind (arith, h, nat_tests)

-- a cursor after which ink is left
pub record Rich (cs : List Cell) (c : Cursor) : Type 0 where
  pub order : c.column ≤ c.ink
  pub ink : More cs c.ink

abbrev pub MayRich : List Cell → Option Cursor → Type 0
MayRich cs None = Unit
MayRich cs (Some c) = Rich cs c

pub rich_some : (cs : List Cell) (c : Cursor) → Rich cs c → is_blank_at cs c ≡ false
rich_some cs c h = not_blank (length cs) c.ink (more_low cs c.ink h.ink)

pub first_rich : (cs : List Cell) → inked cs ≡ true → Rich cs (first_cursor cs)
unfolding first_cursor
first_rich cs h = record { order = omega arith; ink = ink_more cs 0 h }

moved_rich : (cs : List Cell) (c : Cursor) (n : ℕ) → n ≤ 2 ^ 64 - 1 → More cs n → Rich cs c → Rich cs (moved cs c n)
unfolding moved
moved_rich cs c n top m h = by (nat_le n c.ink) refl
  where
    by : (b : Bool) → nat_le n c.ink ≡ b → Rich cs (record { column = n; ink = (if b then c.ink else ink_from cs n) })
    by true e = record { order = le_true n c.ink e; ink = h.ink }
    by false e = record { order = plus_up n (run_of cs n 32) top; ink = ink_more cs n m }

after_rich : (cs : List Cell) (c : Cursor) → (cell_byte cs c.ink == 62) ≡ true → Rich cs c → Rich cs (after_quote cs c)
unfolding after_quote
after_rich cs c e h = by (cell_byte cs behind == 32) refl
  where
    behind : ℕ
    behind = plus c.ink 1

    first : More cs behind
    first = drop_less cs behind (suc c.ink) (plus_one c.ink) (skip cs c.ink (pale_quote (cell_byte cs c.ink) e) h.ink)

    by : (b : Bool) → (cell_byte cs behind == 32) ≡ b → Rich cs (if b then moved cs c (plus behind 1) else moved cs c behind)
    by true g = moved_rich cs c (plus behind 1) (plus_top behind 1) (drop_less cs (plus behind 1) (suc behind) (plus_one behind) (skip cs behind (pale_space (cell_byte cs behind) g) first)) h
    by false g = moved_rich cs c behind (plus_top c.ink 1) first h

within : (a w b : ℕ) → a ≤ b → w ≤ b - a → plus a w ≤ b
within a w b h k = omega (arith, h, k)

item_rich : (cs : List Cell) (c : Cursor) (w : ℕ) (had : Bool) → Rich cs c → MayRich cs (item_goes_on cs c w had)
unfolding item_goes_on
item_rich cs c w had h = rw (rich_some cs c h) (by (nat_le w (indent_of c)) refl)
  where
    by : (b : Bool) → nat_le w (indent_of c) ≡ b → MayRich cs (if b then Some (moved cs c (plus c.column w)) else None)
    by true e = moved_rich cs c (plus c.column w) (plus_top c.column w) (drop_less cs (plus c.column w) c.ink (within c.column w c.ink h.order (le_true w (indent_of c) e)) h.ink) h
    by false e = tt

goes_rich : (cs : List Cell) (c : Cursor) (k : Container) (had : Bool) → Rich cs c → MayRich cs (going_on_as k cs c had)
goes_rich cs c container.Quote had h = by (nat_le (indent_of c) 3) (cell_byte cs c.ink == 62) refl
  where
    by : (a b : Bool) → (cell_byte cs c.ink == 62) ≡ b → MayRich cs (if a && b then Some (after_quote cs c) else None)
    by true true e = after_rich cs c e h
    by true false e = tt
    by false b e = tt
goes_rich cs c (container.List sort) had h = h
goes_rich cs c (container.Item width) had h = item_rich cs c width had h
goes_rich cs c container.Footnote had h = item_rich cs c 4 true h
goes_rich cs c container.Definitions had h = h
goes_rich cs c (container.Definition width) had h = item_rich cs c width had h

passed_rich : (cs : List Cell) (c : Cursor) (o : Opened) → Rich cs c → MayRich cs (passed cs c o)
unfolding passed going_on
passed_rich cs c o h = by (nat_le (length cs) c.column)
  where
    by : (b : Bool) → MayRich cs (if b then None else going_on_as o.container cs c o.had)
    by true = tt
    by false = goes_rich cs c o.container o.had h

pub matched_rich : (cs : List Cell) (opened : List Opened) (qs : List ℕ) (count : ℕ) (c : Cursor) (os : List Opened) → Rich cs c → Rich cs ((matched_from cs opened qs count c os).1)
matched_rich cs opened qs count c [] h = h
matched_rich cs opened qs count c (o ∷ os) h = by (passed cs c o) (passed_rich cs c o h) (λ d g. matched_rich cs opened qs (plus count 1) d os g)
  where
    by : (x : Option Cursor) → MayRich cs x → ((d : Cursor) → Rich cs d → Rich cs ((matched_from cs opened qs (plus count 1) d os).1)) → Rich cs ((option_map_or (λ next. matched_from cs opened qs (plus count 1) next os) x (stopped cs opened qs count c, c)).1)
    by None g again = h
    by (Some d) g again = again d g

-- the open leaf takes the line

abbrev pub Goes : List Cell → Leaf → Turn → Type 0
Goes cs k turn.Closes = Unit
Goes cs k (turn.Takes column) = (keeps_line cs column k ≡ true) × (is_shut k ≡ false)
Goes cs k turn.Passes = Unit
Goes cs k (turn.Row x) = ⊥

leaf_goes : (t : List ℕ) (cs : List Cell) (line : Line) (c : Cursor) (k : Leaf) → is_core k ≡ true → Rich cs c → Goes cs k (leaf_turn t cs line c k)
unfolding is_core leaf_turn keeps_line is_shut
leaf_goes t cs line c leaf.Nothing h r = tt
leaf_goes t cs line c leaf.Paragraph h r = tt
leaf_goes t cs line c leaf.Indented h r = by (nat_le 4 (indent_of c)) (is_blank_at cs c) refl (rich_some cs c r)
  where
    by : (a b : Bool) → nat_le 4 (indent_of c) ≡ a → b ≡ false → Goes cs leaf.Indented (if a then turn.Takes (plus c.column 4) else (if b then turn.Takes c.ink else turn.Passes))
    by true b e g = (less_yes (ink_from cs (plus c.column 4)) (length cs) (more_low cs (ink_from cs (plus c.column 4)) (ink_more cs (plus c.column 4) (drop_less cs (plus c.column 4) c.ink (within c.column 4 c.ink r.order (le_true 4 (indent_of c) e)) r.ink))), refl)
    by false true e g = absurd cc
    by false false e g = tt
leaf_goes t cs line c (leaf.Fenced f) h r = by (closes_fence cs c f)
  where
    by : (b : Bool) → Goes cs (leaf.Fenced f) (if b then turn.Closes else turn.Takes (plus c.column (min f.indent (indent_of c))))
    by true = tt
    by false = (refl, refl)
leaf_goes t cs line c (leaf.Html k) h r = by (is_blank_at cs c && not (goes_past_blank k))
  where
    by : (b : Bool) → Goes cs (leaf.Html k) (if b then turn.Passes else turn.Takes c.column)
    by true = tt
    by false = (refl, refl)
leaf_goes t cs line c (leaf.Metadata k) h r = absurd cc
leaf_goes t cs line c (leaf.Table x) h r = absurd cc

pub turn_goes : (t : List ℕ) (cs : List Cell) (line : Line) (place : LineStart) (s : State) → is_core s.leaf ≡ true → Rich cs place.cursor → Goes cs s.leaf (turn_of t cs line place s)
unfolding turn_of
turn_goes t cs line place s h r = by (nat_le (length s.opened) place.depth)
  where
    by : (b : Bool) → Goes cs s.leaf (if b then leaf_turn t cs line place.cursor s.leaf else turn.Passes)
    by true = leaf_goes t cs line place.cursor s.leaf h r
    by false = tt

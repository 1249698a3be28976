-- Which containers go on in a line with a block quote marker in front, and which begin in it.
use Rattle.std.proofs.Common.{◌≡◌, ℕ, zero, suc, ◌+◌, ◌-◌, ◌^◌, ◌<◌, ◌≤◌, Bool, true, false, not, ◌==◌, ◌&&◌, ◌||◌, cond, if◌then◌else◌, nat_le, List, [], ◌∷◌, ◌++◌, length, map, take, refl, ap, ap₂, sym, subst, ◌∙◌, arith, length-take, length-append}
use Rattle.std.specs.Prelude.{replicate, slice_get, slice_set, take_while, min, max, unwrap_or, Option, Some, None}
use Rattle.std.specs.List.{find, prefix_len}
use Rattle.std.specs.Option.{option_map, option_map_or, option_and_then, option_or}
use Rattle.std.proofs.lemmas.Bool.Decides.{nat_tests}
use Rattle.std.proofs.lemmas.List.{length-replicate}
use Rattle.std.proofs.lemmas.List.Folds.{length-prefix_len}
use Rattle.tocmark_read_scan.specs.Basic.{plus, byte_at, bytes_between}
use Rattle.tocmark_read_scan.specs.declared.syntax.TheConstants.{CORE}
use Rattle.tocmark_read_lines.specs.Cells.{bytes_of, run_of, cell_byte, first_cursor, indent_of, ink_from, moved}
use Rattle.tocmark_read_lines.specs.Containers.{raised, raised_at, after_quote, item_goes_on, going_on_as, going_on, is_empty_as, is_empty, blank_depth, quote_from, stopped, passed, matched_from, matched, touched_from, item_gap, may_interrupt, item_from, item_at, container_at, container_in}
use Rattle.tocmark_read_lines.specs.DefinitionLists.{definition_start}
use Rattle.tocmark_read_lines.specs.Footnotes.{note_start}
use Rattle.tocmark_read_lines.specs.Marks.{is_behind, is_rule, tail_of, digit_count, number_of, bullet_at, ordered_at, marker_at}
use Rattle.tocmark_read_lines.specs.declared.beginnings.Marker.{Marker}
use Rattle.tocmark_read_lines.specs.declared.cell.Cell.{Cell}
use Rattle.tocmark_read_lines.specs.declared.cell.Cursor.{Cursor}
use Rattle.tocmark_read_lines.specs.declared.container.Container.{Container}
use Rattle.tocmark_read_lines.specs.declared.container.Container.TheVariants as container
use Rattle.tocmark_read_lines.specs.declared.container.ContainerStart.{ContainerStart}
use Rattle.tocmark_read_lines.specs.declared.container.ContainerStart.TheVariants as begins
use Rattle.tocmark_read_lines.specs.declared.container.ItemStart.{ItemStart}
use Rattle.tocmark_read_lines.specs.declared.container.Opened.{Opened}
use Rattle.tocmark_read_lines.proofs.Columns.{byte_asked, run_asked}
use Rattle.tocmark_text_laws.specs.Quoted.{Mark, space_if, mark_bytes}
use Rattle.tocmark_text_laws.proofs.Pairs.{Pairs, PairOf, changed, changed_length, got_some, After, LastOf, after_length, after_changed, after_each_last, after_take, after_end, after_last_got}
use Rattle.tocmark_text_laws.proofs.QuotedCells.{Fronted, cursor_on, length_on, byte_two, digits_low, ink_low, ink_after, plus_shift, ink_two, le_shift, less_shift, moved_two}
use Rattle.tocmark_text_laws.proofs.QuotedMarks.{marker_two, rule_two}

-- a container in the text without markers, and the same in the text with them
pub record OpenedOn (there here : Opened) : Type 0 where
  pub container : there.container ≡ here.container
  pub block : there.block ≡ suc here.block
  pub line : there.line ≡ here.line
  pub had : there.had ≡ here.had

-- the quote that is round all others
pub record IsOuter (o : Opened) : Type 0 where
  pub quote : o.container ≡ container.Quote
  pub first : o.block ≡ 0

-- a container that is in a list
unfoldable pub is_inner : Container → Bool
is_inner container.Quote = false
is_inner (container.List sort) = false
is_inner (container.Item width) = true
is_inner container.Footnote = false
is_inner container.Definitions = false
is_inner (container.Definition width) = true

-- the outermost container is in no list
abbrev pub Rooted : List Opened → Type 0
Rooted [] = Unit
Rooted (o ∷ os) = is_inner o.container ≡ false

-- the open containers of both texts, so many at most
pub record Opens (n : ℕ) (there here : List Opened) : Type 0 where
  pub after : After IsOuter OpenedOn there here
  pub rooted : Rooted here
  pub few : length here ≤ n

-- lists of open containers change

pub rooted_changed : (i : ℕ) (f : Opened → Opened) → ((o : Opened) → (f o).container ≡ o.container) → (os : List Opened) → Rooted os → Rooted (changed i f os)
rooted_changed i f k [] h = tt
rooted_changed zero f k (o ∷ os) h = ap is_inner (k o) ∙ h
rooted_changed (suc i) f k (o ∷ os) h = by (slice_get os i)
  where
    by : (p : Option Opened) → Rooted (option_map_or (λ (x : Opened). slice_set (o ∷ os) (suc i) (f x)) p (o ∷ os))
    by None = h
    by (Some x) = h

opens_at : (n i : ℕ) (f g : Opened → Opened) → ((x y : Opened) → OpenedOn x y → OpenedOn (f x) (g y)) → ((o : Opened) → (g o).container ≡ o.container) → (there here : List Opened) → Opens n there here → Opens n (changed (suc i) f there) (changed i g here)
opens_at n i f g k c there here h = record {
  after = after_changed IsOuter OpenedOn i f g k there here h.after;
  rooted = rooted_changed i g c here h.rooted;
  few = omega (arith, h.few, changed_length i g here);
}

pub opens_last : (n : ℕ) (f g : Opened → Opened) → ((x : Opened) → IsOuter x → IsOuter (f x)) → ((x y : Opened) → OpenedOn x y → OpenedOn (f x) (g y)) → ((o : Opened) → (g o).container ≡ o.container) → (there here : List Opened) → Opens n there here → Opens n (changed (length there - 1) f there) (changed (length here - 1) g here)
opens_last n f g j k c there here h = record {
  after = after_each_last IsOuter OpenedOn f g j k there here h.after;
  rooted = rooted_changed (length here - 1) g c here h.rooted;
  few = omega (arith, h.few, changed_length (length here - 1) g here);
}

opens_first : (n : ℕ) (f : Opened → Opened) → ((x : Opened) → IsOuter x → IsOuter (f x)) → (there here : List Opened) → Opens n there here → Opens n (changed 0 f there) here
opens_first n f j [] here h = absurd h.after
opens_first n f j (o ∷ os) here h = record { after = (j o (h.after.0), h.after.1); rooted = h.rooted; few = h.few }

pub rooted_take : (k : ℕ) (os : List Opened) → Rooted os → Rooted (take k os)
rooted_take zero os h = tt
rooted_take (suc k) [] h = tt
rooted_take (suc k) (o ∷ os) h = h

pub opens_take : (n k : ℕ) (there here : List Opened) → Opens n there here → Opens n (take (suc k) there) (take k here)
opens_take n k there here h = record {
  after = after_take IsOuter OpenedOn k there here h.after;
  rooted = rooted_take k here h.rooted;
  few = omega (arith, h.few, length-take k here);
}

pub rooted_end : (os : List Opened) (o : Opened) → (is_inner o.container ≡ true → 0 < length os) → Rooted os → Rooted (os ++ o ∷ [])
rooted_end [] o k h = by (is_inner o.container) refl
  where
    by : (b : Bool) → is_inner o.container ≡ b → is_inner o.container ≡ false
    by true e = absurd (let f : 0 < 0 = k e in omega (arith, f))
    by false e = e
rooted_end (x ∷ xs) o k h = h

pub opens_end : (n : ℕ) (a b : Opened) → OpenedOn a b → (there here : List Opened) → (is_inner b.container ≡ true → 0 < length here) → Opens n there here → Opens (suc n) (there ++ a ∷ []) (here ++ b ∷ [])
opens_end n a b k there here inside h = record {
  after = after_end IsOuter OpenedOn a b k there here h.after;
  rooted = rooted_end here b inside h.rooted;
  few = omega (arith, h.few, length-append here (b ∷ []));
}

pub opens_more : (n m : ℕ) (there here : List Opened) → n ≤ m → Opens n there here → Opens m there here
opens_more n m there here k h = record { after = h.after; rooted = h.rooted; few = omega (arith, k, h.few) }

-- containers reach further

pub raised_on : (end far line : ℕ) (x y : Opened) → OpenedOn x y → OpenedOn (raised x end line) (raised y far line)
unfolding raised
raised_on end far line x y h = record { container = h.container; block = h.block; line = ap (λ n. max n line) h.line; had = h.had }

pub raised_outer : (end line : ℕ) (x : Opened) → IsOuter x → IsOuter (raised x end line)
unfolding raised
raised_outer end line x h = record { quote = h.quote; first = h.first }

pub raised_same : (end line : ℕ) (x : Opened) → (raised x end line).container ≡ x.container
unfolding raised
raised_same end line x = refl

touched_on : (n count end far line : ℕ) (qs : List ℕ) (there here : List Opened) → Opens n there here → Opens n (touched_from (suc count) end line (map suc qs) there) (touched_from count far line qs here)
unfolding raised_at
touched_on n count end far line [] there here h = h
touched_on n count end far line (q ∷ qs) there here h =
    rw less (by (nat_le count q) (touched_on n count end far line qs (raised_at there (suc q) end line) (raised_at here q far line) raised_both))
  where
    less : nat_le (suc count) (suc q) ≡ nat_le count q
    less = grind (arith, nat_tests)

    raised_both : Opens n (raised_at there (suc q) end line) (raised_at here q far line)
    raised_both = opens_at n q (λ o. raised o end line) (λ o. raised o far line) (raised_on end far line) (raised_same far line) there here h

    by : (k : Bool) → Opens n (touched_from (suc count) end line (map suc qs) (raised_at there (suc q) end line)) (touched_from count far line qs (raised_at here q far line))
        → Opens n (if k then there else touched_from (suc count) end line (map suc qs) (raised_at there (suc q) end line)) (if k then here else touched_from count far line qs (raised_at here q far line))
    by true again = h
    by false again = again

pub touched_two : (n count end far line : ℕ) (qs : List ℕ) (there here : List Opened) → Opens n there here → Opens n (touched_from (suc count) end line (0 ∷ map suc qs) there) (touched_from count far line qs here)
unfolding raised_at
touched_two n count end far line qs there here h =
    rw less (touched_on n count end far line qs (changed 0 (λ o. raised o end line) there) here (opens_first n (λ o. raised o end line) (raised_outer end line) there here h))
  where
    less : nat_le (suc count) 0 ≡ false
    less = grind (arith, nat_tests)

-- a place in a line, and the same after the marker

pub record InLine (r : List Cell) (c : Cursor) : Type 0 where
  pub column : c.column ≤ c.ink
  pub ink : c.ink ≤ length r

-- a cursor in a line, and the same after the marker
abbrev pub CursorOn : ℕ → List Cell → Cursor → Cursor → Type 0
CursorOn shift r there here = (there ≡ cursor_on shift here) × InLine r here

pub column_in : (r : List Cell) (c : Cursor) → InLine r c → c.column ≤ length r
column_in r c h = omega (arith, h.column, h.ink)

pub byte_in : (r : List Cell) (k b : ℕ) → (cell_byte r k == b) ≡ true → (b == 10) ≡ false → k < length r
byte_in [] k b h e = absurd (let q : 10 ≡ b = grind (arith, h, nat_tests) in let f : (b == 10) ≡ true = grind (arith, q, nat_tests) in let z : true ≡ false = sym f ∙ e in true_not_false z)
  where
    true_not_false : true ≡ false → ⊥
    true_not_false z = cc
byte_in (x ∷ xs) zero b h e = omega arith
byte_in (x ∷ xs) (suc k) b h e = let q : k < length xs = byte_in xs k b h e in omega (arith, q)

pub moved_in : (r : List Cell) (c : Cursor) (k : ℕ) → k ≤ length r → length r + 9 < 2 ^ 64 → InLine r c → InLine r (moved r c k)
unfolding moved
moved_in r c k low fits h = by (nat_le k c.ink) refl
  where
    by : (b : Bool) → nat_le k c.ink ≡ b → InLine r (record { column = k; ink = (if b then c.ink else ink_from r k) })
    by true e = record { column = (grind (arith, e, nat_tests)); ink = h.ink }
    by false e = record { column = ink_after r k low fits; ink = ink_low r k low }

pub moved_on : (shift : ℕ) (w r : List Cell) (c : Cursor) (k : ℕ) → Fronted shift w r → k ≤ length r → InLine r c → CursorOn shift r (moved w (cursor_on shift c) (shift + k)) (moved r c k)
moved_on shift w r c k h low i = (moved_two shift w r c k h low, moved_in r c k low (omega (arith, h.fits)) i)

-- after the mark of a quote in the line
pub after_on : (shift : ℕ) (w r : List Cell) (c : Cursor) → Fronted shift w r → (cell_byte r c.ink == 62) ≡ true → InLine r c → CursorOn shift r (after_quote w (cursor_on shift c)) (after_quote r c)
unfolding after_quote
after_on shift w r c h e i = rw (one, byte_two shift w r (plus c.ink 1) h, two) (by (cell_byte r (plus c.ink 1) == 32) refl)
  where
    some : c.ink < length r
    some = byte_in r c.ink 62 e refl

    one : plus (shift + c.ink) 1 ≡ shift + plus c.ink 1
    one = plus_shift shift c.ink 1 (omega (arith, some, h.fits))

    two : plus (shift + plus c.ink 1) 1 ≡ shift + plus (plus c.ink 1) 1
    two = plus_shift shift (plus c.ink 1) 1 (omega (arith, some, h.fits))

    by : (k : Bool) → (cell_byte r (plus c.ink 1) == 32) ≡ k
        → CursorOn shift r (if k then moved w (cursor_on shift c) (shift + plus (plus c.ink 1) 1) else moved w (cursor_on shift c) (shift + plus c.ink 1)) (if k then moved r c (plus (plus c.ink 1) 1) else moved r c (plus c.ink 1))
    by true q = let more : plus c.ink 1 < length r = byte_in r (plus c.ink 1) 32 q refl in moved_on shift w r c (plus (plus c.ink 1) 1) h (omega (arith, more)) i
    by false q = moved_on shift w r c (plus c.ink 1) h (omega (arith, some)) i

-- the mark of a quote takes a column
pub after_further : (r : List Cell) (c : Cursor) → (cell_byte r c.ink == 62) ≡ true → length r + 9 < 2 ^ 64 → c.ink < (after_quote r c).column
unfolding after_quote moved
after_further r c e fits = by (cell_byte r (plus c.ink 1) == 32)
  where
    some : c.ink < length r
    some = byte_in r c.ink 62 e refl

    by : (k : Bool) → c.ink < (if k then moved r c (plus (plus c.ink 1) 1) else moved r c (plus c.ink 1)).column
    by true = omega (arith, some, fits)
    by false = omega (arith, some, fits)

-- containers that go on

pub item_two : (shift : ℕ) (w r : List Cell) (c : Cursor) (width : ℕ) (had : Bool) → Fronted shift w r → InLine r c → PairOf (CursorOn shift r) (item_goes_on w (cursor_on shift c) width had) (item_goes_on r c width had)
unfolding item_goes_on
item_two shift w r c width had h i = rw (length_on shift w r h, le_shift shift (length r) c.ink, less_shift shift c.ink c.column) (by (nat_le (length r) c.ink) (not had) (nat_le width (c.ink - c.column)) refl)
  where
    whole : CursorOn shift r (moved w (cursor_on shift c) (shift + length r)) (moved r c (length r))
    whole = moved_on shift w r c (length r) h (omega arith) i

    wide : nat_le width (c.ink - c.column) ≡ true → CursorOn shift r (moved w (cursor_on shift c) (plus (shift + c.column) width)) (moved r c (plus c.column width))
    wide e =
        let low : width ≤ c.ink - c.column = grind (arith, e, nat_tests) in
        let s : c.column + width ≤ length r = omega (arith, low, i.column, i.ink) in
        let q : plus (shift + c.column) width ≡ shift + plus c.column width = plus_shift shift c.column width (omega (arith, s, h.fits)) in
        subst (λ k. CursorOn shift r (moved w (cursor_on shift c) k) (moved r c (plus c.column width))) (sym q) (moved_on shift w r c (plus c.column width) h (omega (arith, s)) i)

    by : (blank none far : Bool) → nat_le width (c.ink - c.column) ≡ far
        → PairOf (CursorOn shift r) (if blank && none then None else (if far then Some (moved w (cursor_on shift c) (plus (shift + c.column) width)) else (if blank then Some (moved w (cursor_on shift c) (shift + length r)) else None)))
        (if blank && none then None else (if far then Some (moved r c (plus c.column width)) else (if blank then Some (moved r c (length r)) else None)))
    by true true far e = tt
    by true false true e = wide e
    by true false false e = whole
    by false none true e = wide e
    by false none false e = tt

pub quote_goes : (shift : ℕ) (w r : List Cell) (c : Cursor) → Fronted shift w r → InLine r c
    → PairOf (CursorOn shift r) (if nat_le (indent_of (cursor_on shift c)) 3 && (cell_byte w (shift + c.ink) == 62) then Some (after_quote w (cursor_on shift c)) else None) (if nat_le (indent_of c) 3 && (cell_byte r c.ink == 62) then Some (after_quote r c) else None)
quote_goes shift w r c h i = rw (byte_two shift w r c.ink h, less_shift shift c.ink c.column) (by (nat_le (indent_of c) 3) (cell_byte r c.ink == 62) refl)
  where
    by : (near mark : Bool) → (cell_byte r c.ink == 62) ≡ mark → PairOf (CursorOn shift r) (if near && mark then Some (after_quote w (cursor_on shift c)) else None) (if near && mark then Some (after_quote r c) else None)
    by false mark e = tt
    by true false e = tt
    by true true e = after_on shift w r c h e i

pub going_as : (k : Container) (shift : ℕ) (w r : List Cell) (c : Cursor) (had : Bool) → Fronted shift w r → InLine r c → PairOf (CursorOn shift r) (going_on_as k w (cursor_on shift c) had) (going_on_as k r c had)
going_as container.Quote shift w r c had h i = quote_goes shift w r c h i
going_as (container.List sort) shift w r c had h i = (refl, i)
going_as (container.Item width) shift w r c had h i = item_two shift w r c width had h i
going_as container.Footnote shift w r c had h i = item_two shift w r c 4 true h i
going_as container.Definitions shift w r c had h i = (refl, i)
going_as (container.Definition width) shift w r c had h i = item_two shift w r c width had h i

going_two : (shift : ℕ) (w r : List Cell) (c : Cursor) (x y : Opened) → Fronted shift w r → InLine r c → OpenedOn x y → PairOf (CursorOn shift r) (going_on w (cursor_on shift c) x) (going_on r c y)
unfolding going_on
going_two shift w r c x y h i o = rw (o.container, o.had) (going_as y.container shift w r c y.had h i)

passed_two : (shift : ℕ) (w r : List Cell) (c : Cursor) (x y : Opened) → Fronted shift w r → InLine r c → OpenedOn x y → PairOf (CursorOn shift r) (passed w (cursor_on shift c) x) (passed r c y)
unfolding passed
passed_two shift w r c x y h i o = rw (length_on shift w r h, le_shift shift (length r) c.column) (by (nat_le (length r) c.column))
  where
    by : (k : Bool) → PairOf (CursorOn shift r) (if k then None else going_on w (cursor_on shift c) x) (if k then None else going_on r c y)
    by true = tt
    by false = going_two shift w r c x y h i o

-- where a line stops

from_two : (qs : List ℕ) (count : ℕ) → find (λ q. nat_le (suc count) q) (map suc qs) ≡ option_map suc (find (λ q. nat_le count q) qs)
from_two [] count = refl
from_two (q ∷ qs) count = rw less (by (nat_le count q) (from_two qs count))
  where
    less : nat_le (suc count) (suc q) ≡ nat_le count q
    less = grind (arith, nat_tests)

    by : (k : Bool) → find (λ q. nat_le (suc count) q) (map suc qs) ≡ option_map suc (find (λ q. nat_le count q) qs)
        → cond k (Some (suc q)) (find (λ q. nat_le (suc count) q) (map suc qs)) ≡ option_map suc (cond k (Some q) (find (λ q. nat_le count q) qs))
    by true e = refl
    by false e = e

quote_two : (qs : List ℕ) (count : ℕ) → quote_from (0 ∷ map suc qs) (suc count) ≡ option_map suc (quote_from qs count)
quote_two qs count = ap (λ k. cond k (Some 0) (find (λ q. nat_le (suc count) q) (map suc qs))) less ∙ from_two qs count
  where
    less : nat_le (suc count) 0 ≡ false
    less = grind (arith, nat_tests)

blank_depth_two : (n : ℕ) (there here : List Opened) → Opens n there here → blank_depth there ≡ suc (blank_depth here)
unfolding blank_depth is_empty
blank_depth_two n there here h = by (slice_get there (length there - 1)) (slice_get here (length here - 1)) refl (after_last_got IsOuter OpenedOn there here h.after)
  where
    long : length there ≡ suc (length here)
    long = after_length IsOuter OpenedOn there here h.after

    empty : Opened → Bool
    empty o = is_empty_as o.container o.had

    each : (k : Bool) → 0 < length here → (if k then length there - 1 else length there) ≡ suc (if k then length here - 1 else length here)
    each true q = omega (arith, q, long)
    each false q = long

    by : (o p : Option Opened) → slice_get here (length here - 1) ≡ p → LastOf IsOuter OpenedOn o p → (if option_map_or empty o false then length there - 1 else length there) ≡ suc (if option_map_or empty p false then length here - 1 else length here)
    by None None e u = long
    by None (Some y) e u = absurd u
    by (Some x) None e u = rw u.quote long
    by (Some x) (Some y) e u = rw (u.container, u.had) (each (empty y) (got_some here (length here - 1) y e))

stopped_two : (n shift : ℕ) (w r : List Cell) (there here : List Opened) (qs : List ℕ) (count : ℕ) (c : Cursor) → Fronted shift w r → Opens n there here → stopped w there (0 ∷ map suc qs) (suc count) (cursor_on shift c) ≡ suc (stopped r here qs count c)
unfolding stopped
stopped_two n shift w r there here qs count c h o = rw (length_on shift w r h, le_shift shift (length r) c.column, quote_two qs count, blank_depth_two n there here o) (by (nat_le (length r) c.column))
  where
    each : (f : Option ℕ) → unwrap_or (option_map suc f) (suc (blank_depth here)) ≡ suc (unwrap_or f (blank_depth here))
    each None = refl
    each (Some q) = refl

    by : (k : Bool) → (if k then unwrap_or (option_map suc (quote_from qs count)) (suc (blank_depth here)) else suc count) ≡ suc (if k then unwrap_or (quote_from qs count) (blank_depth here) else count)
    by true = each (quote_from qs count)
    by false = refl

-- how many go on, and where
abbrev pub MatchedOn : ℕ → List Cell → ℕ × Cursor → ℕ × Cursor → Type 0
MatchedOn shift r there here = (there ≡ (suc (here.0), cursor_on shift (here.1))) × InLine r (here.1)

matched_rest : (n shift : ℕ) (w r : List Cell) (there here : List Opened) (qs : List ℕ) (count : ℕ) (c : Cursor) (xs ys : List Opened) → Fronted shift w r → Opens n there here → InLine r c → count + length ys + 4 < 2 ^ 64 → Pairs OpenedOn xs ys
    → MatchedOn shift r (matched_from w there (0 ∷ map suc qs) (suc count) (cursor_on shift c) xs) (matched_from r here qs count c ys)
matched_rest n shift w r there here qs count c [] [] h o i few p = (refl, i)
matched_rest n shift w r there here qs count c [] (y ∷ ys) h o i few p = absurd p
matched_rest n shift w r there here qs count c (x ∷ xs) [] h o i few p = absurd p
matched_rest n shift w r there here qs count c (x ∷ xs) (y ∷ ys) h o i few p =
    rw (next, stopped_two n shift w r there here qs count c h o)
    (by (passed w (cursor_on shift c) x) (passed r c y) (passed_two shift w r c x y h i (p.0)) (λ d j. matched_rest n shift w r there here qs (plus count 1) d xs ys h o j (omega (arith, few)) (p.1)))
  where
    next : plus (suc count) 1 ≡ suc (plus count 1)
    next = omega (arith, few)

    by : (a b : Option Cursor) → PairOf (CursorOn shift r) a b → ((d : Cursor) → InLine r d → MatchedOn shift r (matched_from w there (0 ∷ map suc qs) (suc (plus count 1)) (cursor_on shift d) xs) (matched_from r here qs (plus count 1) d ys))
        → MatchedOn shift r (option_map_or (λ d. matched_from w there (0 ∷ map suc qs) (suc (plus count 1)) d xs) a (suc (stopped r here qs count c), cursor_on shift c)) (option_map_or (λ d. matched_from r here qs (plus count 1) d ys) b (stopped r here qs count c, c))
    by None None u again = (refl, i)
    by None (Some d) u again = absurd u
    by (Some e) None u again = absurd u
    by (Some e) (Some d) u again = rw (u.0) (again d (u.1))

-- the front of a line with a marker

-- the bytes of a marker, and others after it
abbrev after_mark : ℕ → List ℕ → List ℕ → List ℕ
after_mark s more xs = (replicate s 32 ++ (62 ∷ more)) ++ xs

mark_run : (s : ℕ) (more xs : List ℕ) → prefix_len (λ x. x == 32) (after_mark s more xs) ≡ s
mark_run zero more xs = refl
mark_run (suc s) more xs = let z : 1 + prefix_len (λ x. x == 32) (after_mark s more xs) ≡ suc s = omega (arith, mark_run s more xs) in z

mark_byte : (s : ℕ) (more xs : List ℕ) → byte_at (after_mark s more xs) s ≡ 62
mark_byte zero more xs = refl
mark_byte (suc s) more xs = mark_byte s more xs

mark_next : (s : ℕ) (more xs : List ℕ) → byte_at (after_mark s more xs) (suc s) ≡ byte_at (more ++ xs) 0
mark_next zero more xs = refl
mark_next (suc s) more xs = mark_next s more xs

-- the columns in front are a block quote marker
pub record Quoted (shift : ℕ) (w r : List Cell) : Type 0 where
  pub fronted : Fronted shift w r
  pub mark : Mark
  pub near : mark.spaces ≤ 3
  pub apart : (mark.spaced || not (cell_byte r 0 == 32)) ≡ true
  pub whole : fronted.front ≡ mark_bytes mark

quoted_bytes : (shift : ℕ) (w r : List Cell) (h : Quoted shift w r) → bytes_of w ≡ mark_bytes h.mark ++ bytes_of r
quoted_bytes shift w r h = h.fronted.bytes ∙ ap (λ xs. xs ++ bytes_of r) h.whole

quoted_long : (shift : ℕ) (w r : List Cell) (h : Quoted shift w r) → length (mark_bytes h.mark) ≡ shift
quoted_long shift w r h = ap length (sym h.whole) ∙ h.fronted.long

front_byte : (shift : ℕ) (w r : List Cell) (h : Quoted shift w r) → cell_byte w h.mark.spaces ≡ 62
front_byte shift w r h = byte_asked w h.mark.spaces ∙ ap (λ (bs : List ℕ). byte_at bs h.mark.spaces) (quoted_bytes shift w r h) ∙ mark_byte h.mark.spaces (space_if h.mark.spaced) (bytes_of r)

pub front_long : (shift : ℕ) (w r : List Cell) (h : Quoted shift w r) → shift ≡ h.mark.spaces + suc (length (space_if h.mark.spaced))
front_long shift w r h = sym (quoted_long shift w r h) ∙ length-append (replicate h.mark.spaces 32) (62 ∷ space_if h.mark.spaced) ∙ ap (λ n. n + suc (length (space_if h.mark.spaced))) (length-replicate h.mark.spaces 32)

front_ink : (shift : ℕ) (w r : List Cell) (h : Quoted shift w r) → ink_from w 0 ≡ h.mark.spaces
front_ink shift w r h =
    let e : run_of w 0 32 ≡ h.mark.spaces =
    run_asked w 0 32 ∙ ap (λ (bs : List ℕ). length (take_while (λ x. x == 32) bs)) (quoted_bytes shift w r h) ∙ length-prefix_len (λ x. x == 32) (after_mark h.mark.spaces (space_if h.mark.spaced) (bytes_of r)) ∙ mark_run h.mark.spaces (space_if h.mark.spaced) (bytes_of r) in
    omega (arith, e, h.near)

pub front_in : (r : List Cell) → length r + 9 < 2 ^ 64 → InLine r (first_cursor r)
unfolding first_cursor
front_in r fits = record { column = omega arith; ink = ink_low r 0 (omega arith) }

-- the cursor before the marker
abbrev pub front_place : ℕ → Cursor
front_place s = record { column = 0; ink = s }

pub front_cursor : (shift : ℕ) (w r : List Cell) (h : Quoted shift w r) → first_cursor w ≡ front_place h.mark.spaces
unfolding first_cursor
front_cursor shift w r h = ap front_place (front_ink shift w r h)

-- a space is just after `>` only if it belongs to the marker
front_space : (shift : ℕ) (w r : List Cell) (h : Quoted shift w r) → (cell_byte w (suc h.mark.spaces) == 32) ≡ h.mark.spaced
front_space shift w r h = ap (λ b. b == 32) (byte_asked w (suc h.mark.spaces) ∙ ap (λ (bs : List ℕ). byte_at bs (suc h.mark.spaces)) (quoted_bytes shift w r h) ∙ mark_next h.mark.spaces (space_if h.mark.spaced) (bytes_of r)) ∙ by h.mark.spaced refl
  where
    none : (k : Bool) → (false || not k) ≡ true → k ≡ false
    none true e = absurd cc
    none false e = refl

    by : (k : Bool) → h.mark.spaced ≡ k → (byte_at (space_if k ++ bytes_of r) 0 == 32) ≡ k
    by true e = refl
    by false e = ap (λ b. b == 32) (sym (byte_asked r 0)) ∙ none (cell_byte r 0 == 32) (sym (ap (λ k. k || not (cell_byte r 0 == 32)) e) ∙ h.apart)

front_moved : (shift : ℕ) (w r : List Cell) (h : Quoted shift w r) → moved w (front_place h.mark.spaces) shift ≡ cursor_on shift (first_cursor r)
unfolding moved first_cursor
front_moved shift w r h = rw late (ap₂ at none (ap (ink_from w) none ∙ ink_two shift w r 0 h.fronted (omega arith)))
  where
    at : ℕ → ℕ → Cursor
    at c n = record { column = c; ink = n }

    none : shift ≡ shift + 0
    none = omega arith

    late : nat_le shift h.mark.spaces ≡ false
    late = let z : h.mark.spaces < shift = omega (arith, front_long shift w r h) in grind (arith, z, nat_tests)

pub front_after : (shift : ℕ) (w r : List Cell) (h : Quoted shift w r) → after_quote w (front_place h.mark.spaces) ≡ cursor_on shift (first_cursor r)
unfolding after_quote
front_after shift w r h = rw (one, front_space shift w r h) (by h.mark.spaced refl)
  where
    one : plus h.mark.spaces 1 ≡ suc h.mark.spaces
    one = omega (arith, h.near)

    two : plus (suc h.mark.spaces) 1 ≡ suc (suc h.mark.spaces)
    two = omega (arith, h.near)

    long : (k : Bool) → h.mark.spaced ≡ k → shift ≡ h.mark.spaces + suc (length (space_if k))
    long k e = front_long shift w r h ∙ ap (λ x. h.mark.spaces + suc (length (space_if x))) e

    at_shift : (c : ℕ) → c ≡ shift → moved w (front_place h.mark.spaces) c ≡ cursor_on shift (first_cursor r)
    at_shift c e = ap (moved w (front_place h.mark.spaces)) e ∙ front_moved shift w r h

    by : (k : Bool) → h.mark.spaced ≡ k → (if k then moved w (front_place h.mark.spaces) (plus (suc h.mark.spaces) 1) else moved w (front_place h.mark.spaces) (suc h.mark.spaces)) ≡ cursor_on shift (first_cursor r)
    by true e = at_shift (plus (suc h.mark.spaces) 1) (omega (arith, two, long true e))
    by false e = at_shift (suc h.mark.spaces) (omega (arith, long false e))

outer_goes : (shift : ℕ) (w r : List Cell) (o : Opened) (h : Quoted shift w r) → IsOuter o → passed w (front_place h.mark.spaces) o ≡ Some (cursor_on shift (first_cursor r))
unfolding passed going_on
outer_goes shift w r o h i = rw (some, i.quote, near, mark) (ap Some (front_after shift w r h))
  where
    some : nat_le (length w) 0 ≡ false
    some = let q : length w ≡ shift + length r = length_on shift w r h.fronted in let k : 0 < length w = omega (arith, q, front_long shift w r h) in grind (arith, k, nat_tests)

    near : nat_le (h.mark.spaces - 0) 3 ≡ true
    near = let z : h.mark.spaces - 0 ≤ 3 = omega (arith, h.near) in grind (arith, z, nat_tests)

    mark : (cell_byte w h.mark.spaces == 62) ≡ true
    mark = ap (λ b. b == 62) (front_byte shift w r h)

pub matched_two : (n shift : ℕ) (w r : List Cell) (there here : List Opened) (qs : List ℕ) → Quoted shift w r → n + 9 < 2 ^ 64 → Opens n there here → MatchedOn shift r (matched w there (0 ∷ map suc qs)) (matched r here qs)
matched_two n shift w r [] here qs h few o = absurd o.after
matched_two n shift w r (x ∷ xs) here qs h few o =
    rw (front_cursor shift w r h, outer_goes shift w r x h (o.after.0))
    (matched_rest n shift w r (x ∷ xs) here qs 0 (first_cursor r) xs here h.fronted o (front_in r (omega (arith, h.fronted.fits))) (omega (arith, few, o.few)) (o.after.1))

-- containers that begin

-- an item whose text begins so many columns further
abbrev pub item_on : ℕ → ItemStart → ItemStart
item_on shift i = record i { next = shift + i.next }

abbrev pub start_on : ℕ → ContainerStart → ContainerStart
start_on shift begins.Quote = begins.Quote
start_on shift (begins.Item i) = begins.Item (item_on shift i)
start_on shift (begins.Footnote n) = begins.Footnote n
start_on shift (begins.Definition d) = begins.Definition d

-- what is known of a container of CommonMark that begins at a cursor
abbrev pub Fine : List Cell → Cursor → Option ContainerStart → Type 0
Fine r c None = Unit
Fine r c (Some begins.Quote) = (cell_byte r c.ink == 62) ≡ true
Fine r c (Some (begins.Item i)) = (c.ink < i.next) × (i.next ≤ length r)
Fine r c (Some (begins.Footnote n)) = ⊥
Fine r c (Some (begins.Definition d)) = ⊥

-- a marker takes a column, and is in the line
abbrev IsShort : List Cell → ℕ → Option Marker → Type 0
IsShort r k None = Unit
IsShort r k (Some m) = (0 < m.length) × (k + m.length ≤ length r)

bullet_short : (r : List Cell) (k : ℕ) → IsShort r k (bullet_at r k)
unfolding bullet_at
bullet_short r k = by (cell_byte r k == 45) (cell_byte r k == 43) (cell_byte r k == 42) (is_behind r (plus k 1)) refl refl refl
  where
    marker : Option Marker
    marker = Some (record { sort = cell_byte r k; number = None; length = 1 })

    by : (a b d e : Bool) → (cell_byte r k == 45) ≡ a → (cell_byte r k == 43) ≡ b → (cell_byte r k == 42) ≡ d → IsShort r k (if (a || b || d) && e then marker else None)
    by a b d false p q s = none (a || b || d)
      where
        none : (x : Bool) → IsShort r k (if x && false then marker else None)
        none true = tt
        none false = tt
    by true b d true p q s = (omega arith, (let z : k < length r = byte_in r k 45 p refl in omega (arith, z)))
    by false true d true p q s = (omega arith, (let z : k < length r = byte_in r k 43 q refl in omega (arith, z)))
    by false false true true p q s = (omega arith, (let z : k < length r = byte_in r k 42 s refl in omega (arith, z)))
    by false false false true p q s = tt

ordered_short : (r : List Cell) (k : ℕ) → k ≤ length r → length r + 9 < 2 ^ 64 → IsShort r k (ordered_at r k)
unfolding ordered_at
ordered_short r k low fits = by (nat_le 1 (digit_count r k) && nat_le (digit_count r k) 9) (cell_byte r last == 46) (cell_byte r last == 41) (is_behind r (plus last 1)) refl refl (Some (number_of (bytes_between (bytes_of r) k last)))
  where
    last : ℕ
    last = plus k (digit_count r k)

    few : k + digit_count r k ≤ length r
    few = digits_low r k low

    marker : (number : Option ℕ) → Option Marker
    marker number = Some (record { sort = cell_byte r last; number = number; length = plus (digit_count r k) 1 })

    inside : (b : ℕ) → (cell_byte r last == b) ≡ true → (b == 10) ≡ false → (number : Option ℕ) → IsShort r k (marker number)
    inside b e q number = let z : last < length r = byte_in r last b e q in (omega (arith, few, fits), omega (arith, few, fits, z))

    by : (a b d e : Bool) → (cell_byte r last == 46) ≡ b → (cell_byte r last == 41) ≡ d → (number : Option ℕ) → IsShort r k (if a && (b || d) && e then marker number else None)
    by false b d e p q number = tt
    by true false false e p q number = tt
    by true true d false p q number = tt
    by true false true false p q number = tt
    by true true d true p q number = inside 46 p refl number
    by true false true true p q number = inside 41 q refl number

marker_short : (r : List Cell) (k : ℕ) → k ≤ length r → length r + 9 < 2 ^ 64 → IsShort r k (marker_at r k)
unfolding marker_at
marker_short r k low fits = by (bullet_at r k) (ordered_at r k) (bullet_short r k) (ordered_short r k low fits)
  where
    by : (a b : Option Marker) → IsShort r k a → IsShort r k b → IsShort r k (option_or a b)
    by None b h j = j
    by (Some m) b h j = h

-- what is known of an item that begins
abbrev FineItem : List Cell → Cursor → Option ItemStart → Type 0
FineItem r c None = Unit
FineItem r c (Some i) = (c.ink < i.next) × (i.next ≤ length r)

abbrev ItemOn : ℕ → List Cell → Cursor → Option ItemStart → Option ItemStart → Type 0
ItemOn shift r c there here = (there ≡ option_map (item_on shift) here) × FineItem r c here

item_from_two : (shift : ℕ) (w r : List Cell) (c : Cursor) (p : Bool) (m : Marker) → Fronted shift w r → InLine r c → IsShort r c.ink (Some m) → c.ink < length r → ItemOn shift r c (item_from w (cursor_on shift c) p m) (item_from r c p m)
unfolding item_gap
item_from_two shift w r c p m h i short some =
    rw (far, ink_two shift w r behind h low, length_on shift w r h, le_shift shift (length r) (ink_from r behind), less_shift shift (ink_from r behind) behind, less_shift shift c.ink c.column)
    (by (p && not (may_interrupt (nat_le (length r) (ink_from r behind)) m)) (nat_le (length r) (ink_from r behind)) refl)
  where
    behind : ℕ
    behind = plus c.ink m.length

    low : behind ≤ length r
    low = omega (arith, short.1)

    far : plus (shift + c.ink) m.length ≡ shift + behind
    far = plus_shift shift c.ink m.length (omega (arith, short.1, h.fits))

    gap : Bool → ℕ
    gap empty = if empty || nat_le 5 (ink_from r behind - behind) then 1 else ink_from r behind - behind

    start : ℕ → Bool → ItemStart
    start next empty = record { sort = m.sort; number = m.number; width = plus (indent_of c) (plus m.length (gap empty)); next = next }

    after : (g : ℕ) → g ≤ length r + 1 → min (plus (shift + behind) g) (shift + length r) ≡ shift + min (plus behind g) (length r)
    after g small = omega (arith, low, small, h.fits)

    small : (empty : Bool) → gap empty ≤ length r + 1
    small empty = each (empty || nat_le 5 (ink_from r behind - behind))
      where
        each : (k : Bool) → (if k then 1 else ink_from r behind - behind) ≤ length r + 1
        each true = omega arith
        each false = omega (arith, ink_low r behind low)

    known : (empty : Bool) → (c.ink < min (plus behind (gap empty)) (length r)) × (min (plus behind (gap empty)) (length r) ≤ length r)
    known empty = (omega (arith, short.0, short.1, some, h.fits), omega arith)

    by : (k empty : Bool) → nat_le (length r) (ink_from r behind) ≡ empty
        → ItemOn shift r c (if k then None else Some (start (min (plus (shift + behind) (gap empty)) (shift + length r)) empty)) (if k then None else Some (start (min (plus behind (gap empty)) (length r)) empty))
    by true empty e = (refl, tt)
    by false empty e = (ap (λ n. Some (start n empty)) (after (gap empty) (small empty)), known empty)

item_at_two : (shift : ℕ) (w r : List Cell) (c : Cursor) (p : Bool) → Fronted shift w r → InLine r c → c.ink < length r → ItemOn shift r c (item_at w (cursor_on shift c) p) (item_at r c p)
unfolding item_at
item_at_two shift w r c p h i some = rw (marker_two shift w r c.ink h i.ink) (by (marker_at r c.ink) (marker_short r c.ink i.ink (omega (arith, h.fits))))
  where
    by : (o : Option Marker) → IsShort r c.ink o → ItemOn shift r c (option_and_then (item_from w (cursor_on shift c) p) o) (option_and_then (item_from r c p) o)
    by None s = (refl, tt)
    by (Some m) s = item_from_two shift w r c p m h i s some

-- what begins at a cursor in both lines
abbrev pub StartOn : ℕ → List Cell → Cursor → Option ContainerStart → Option ContainerStart → Type 0
StartOn shift r c there here = (there ≡ option_map (start_on shift) here) × Fine r c here

container_two : (shift : ℕ) (w r : List Cell) (c : Cursor) (p : Bool) → Fronted shift w r → InLine r c → StartOn shift r c (container_at w (tail_of w) (cursor_on shift c) p) (container_at r (tail_of r) c p)
unfolding container_at
container_two shift w r c p h i =
    rw (length_on shift w r h, le_shift shift (length r) c.ink, less_shift shift c.ink c.column, byte_two shift w r c.ink h, rule_two shift w r c.ink h)
    (by (nat_le (length r) c.ink) refl (nat_le 4 (c.ink - c.column)) (cell_byte r c.ink == 62) refl (is_rule r (tail_of r) c.ink))
  where
    item : c.ink < length r → StartOn shift r c (option_map (λ i. begins.Item i) (item_at w (cursor_on shift c) p)) (option_map (λ i. begins.Item i) (item_at r c p))
    item some = each (item_at w (cursor_on shift c) p) (item_at r c p) (item_at_two shift w r c p h i some)
      where
        each : (a b : Option ItemStart) → ItemOn shift r c a b → StartOn shift r c (option_map (λ i. begins.Item i) a) (option_map (λ i. begins.Item i) b)
        each a None u = (ap (option_map (λ i. begins.Item i)) (u.0), tt)
        each a (Some z) u = (ap (option_map (λ i. begins.Item i)) (u.0), u.1)

    by : (blank : Bool) → nat_le (length r) c.ink ≡ blank → (far mark : Bool) → (cell_byte r c.ink == 62) ≡ mark → (rule : Bool)
        → StartOn shift r c (if blank || far then None else (if mark then Some begins.Quote else (if rule then None else option_map (λ i. begins.Item i) (item_at w (cursor_on shift c) p))))
        (if blank || far then None else (if mark then Some begins.Quote else (if rule then None else option_map (λ i. begins.Item i) (item_at r c p))))
    by true e far mark q rule = (refl, tt)
    by false e true mark q rule = (refl, tt)
    by false e false true q rule = (refl, q)
    by false e false false q true = (refl, tt)
    by false e false false q false = item (grind (arith, e, nat_tests))

pub container_in_two : (shift : ℕ) (w r : List Cell) (c : Cursor) (p : Bool) → Fronted shift w r → InLine r c → StartOn shift r c (container_in CORE w (tail_of w) (cursor_on shift c) p) (container_in CORE r (tail_of r) c p)
unfolding container_in definition_start note_start
container_in_two shift w r c p h i = container_two shift w r c p h i

-- the marker begins a quote
pub front_begins : (shift : ℕ) (w r : List Cell) (p : Bool) (h : Quoted shift w r) → container_in CORE w (tail_of w) (front_place h.mark.spaces) p ≡ Some begins.Quote
unfolding container_in container_at definition_start note_start
front_begins shift w r p h = rw (some, near, mark) refl
  where
    some : nat_le (length w) h.mark.spaces ≡ false
    some = let q : length w ≡ shift + length r = length_on shift w r h.fronted in let k : h.mark.spaces < length w = omega (arith, q, front_long shift w r h) in grind (arith, k, nat_tests)

    near : nat_le 4 (h.mark.spaces - 0) ≡ false
    near = let z : h.mark.spaces - 0 < 4 = omega (arith, h.near) in grind (arith, z, nat_tests)

    mark : (cell_byte w h.mark.spaces == 62) ≡ true
    mark = ap (λ b. b == 62) (front_byte shift w r h)

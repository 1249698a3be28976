-- Which containers go on in a line of a list item, and which begin in it.
use Rattle.std.proofs.Common.{◌≡◌, ◌⊎◌, inl, inr, ℕ, zero, suc, ◌+◌, ◌-◌, ◌^◌, ◌<◌, ◌≤◌, Bool, true, false, ◌==◌, ◌&&◌, cond, if◌then◌else◌, nat_le, List, [], ◌∷◌, ◌++◌, length, map, take, refl, ap, sym, subst, ◌∙◌, arith, length-take, length-append}
use Rattle.std.specs.Prelude.{replicate, slice_get, take_while, max, unwrap_or, Option, Some, None}
use Rattle.std.specs.List.{find, prefix_len}
use Rattle.std.specs.Option.{option_map, option_map_or}
use Rattle.std.proofs.lemmas.Bool.Decides.{nat_tests}
use Rattle.std.proofs.lemmas.List.{length-replicate}
use Rattle.std.proofs.lemmas.List.Folds.{length-prefix_len}
use Rattle.tocmark_read_scan.specs.Basic.{plus}
use Rattle.tocmark_read_lines.specs.Cells.{bytes_of, run_of, first_cursor, ink_from, moved}
use Rattle.tocmark_read_lines.specs.Containers.{raised, raised_at, item_goes_on, going_on, is_empty_as, is_empty, blank_depth, quote_from, stopped, passed, matched_from, matched, touched_from}
use Rattle.tocmark_read_lines.specs.declared.cell.Cell.{Cell}
use Rattle.tocmark_read_lines.specs.declared.cell.Cursor.{Cursor}
use Rattle.tocmark_read_lines.specs.declared.container.Container.TheVariants as container
use Rattle.tocmark_read_lines.specs.declared.container.ItemStart.{ItemStart}
use Rattle.tocmark_read_lines.specs.declared.container.Opened.{Opened}
use Rattle.tocmark_read_lines.proofs.Columns.{run_asked}
use Rattle.tocmark_text_laws.proofs.Pairs.{Pairs, PairOf, changed, changed_length, got_some, LastOf, Afters, afters_length, afters_changed, afters_each_last, afters_take, afters_end, afters_last_got}
use Rattle.tocmark_text_laws.proofs.QuotedCells.{Fronted, cursor_on, length_on, run_low, le_shift}
use Rattle.tocmark_text_laws.proofs.QuotedContainers.{is_inner, Rooted, rooted_changed, rooted_take, rooted_end, InLine, CursorOn, going_as, front_in}

-- a container in the text itself, and the same in the text that is in an item
pub record OpenedIn (there here : Opened) : Type 0 where
  pub container : there.container ≡ here.container
  pub block : there.block ≡ suc (suc here.block)
  pub line : there.line ≡ here.line
  pub had : there.had ≡ here.had

-- the list that is round all others
pub record IsOuterList (item : ItemStart) (o : Opened) : Type 0 where
  pub list : o.container ≡ container.List item.sort
  pub first : o.block ≡ 0

-- its item, in which a block is
pub record IsOuterItem (item : ItemStart) (o : Opened) : Type 0 where
  pub held : o.container ≡ container.Item item.width
  pub second : o.block ≡ 1
  pub had : o.had ≡ true

-- the open containers of both texts, so many at most
pub record Opens (item : ItemStart) (n : ℕ) (there here : List Opened) : Type 0 where
  pub after : Afters (IsOuterList item) (IsOuterItem item) OpenedIn there here
  pub rooted : Rooted here
  pub few : length here ≤ n

-- lists of open containers change

opens_at : (item : ItemStart) (n i : ℕ) (f g : Opened → Opened) → ((x y : Opened) → OpenedIn x y → OpenedIn (f x) (g y)) → ((o : Opened) → (g o).container ≡ o.container) → (there here : List Opened) → Opens item n there here → Opens item n (changed (suc (suc i)) f there) (changed i g here)
opens_at item n i f g k c there here h = record {
  after = afters_changed (IsOuterList item) (IsOuterItem item) OpenedIn i f g k there here h.after;
  rooted = rooted_changed i g c here h.rooted;
  few = omega (arith, h.few, changed_length i g here);
}

pub opens_last : (item : ItemStart) (n : ℕ) (f g : Opened → Opened) → ((x : Opened) → IsOuterItem item x → IsOuterItem item (f x)) → ((x y : Opened) → OpenedIn x y → OpenedIn (f x) (g y)) → ((o : Opened) → (g o).container ≡ o.container) → (there here : List Opened) → Opens item n there here → Opens item n (changed (length there - 1) f there) (changed (length here - 1) g here)
opens_last item n f g j k c there here h = record {
  after = afters_each_last (IsOuterList item) (IsOuterItem item) OpenedIn f g j k there here h.after;
  rooted = rooted_changed (length here - 1) g c here h.rooted;
  few = omega (arith, h.few, changed_length (length here - 1) g here);
}

pub opens_take : (item : ItemStart) (n k : ℕ) (there here : List Opened) → Opens item n there here → Opens item n (take (suc (suc k)) there) (take k here)
opens_take item n k there here h = record {
  after = afters_take (IsOuterList item) (IsOuterItem item) OpenedIn k there here h.after;
  rooted = rooted_take k here h.rooted;
  few = omega (arith, h.few, length-take k here);
}

pub opens_end : (item : ItemStart) (n : ℕ) (a b : Opened) → OpenedIn a b → (there here : List Opened) → (is_inner b.container ≡ true → 0 < length here) → Opens item n there here → Opens item (suc n) (there ++ a ∷ []) (here ++ b ∷ [])
opens_end item n a b k there here inside h = record {
  after = afters_end (IsOuterList item) (IsOuterItem item) OpenedIn a b k there here h.after;
  rooted = rooted_end here b inside h.rooted;
  few = omega (arith, h.few, length-append here (b ∷ []));
}

pub opens_more : (item : ItemStart) (n m : ℕ) (there here : List Opened) → n ≤ m → Opens item n there here → Opens item m there here
opens_more item n m there here k h = record { after = h.after; rooted = h.rooted; few = omega (arith, k, h.few) }

-- containers reach further

pub raised_on : (end far line : ℕ) (x y : Opened) → OpenedIn x y → OpenedIn (raised x end line) (raised y far line)
unfolding raised
raised_on end far line x y h = record { container = h.container; block = h.block; line = ap (λ n. max n line) h.line; had = h.had }

pub raised_outer : (item : ItemStart) (end line : ℕ) (x : Opened) → IsOuterItem item x → IsOuterItem item (raised x end line)
unfolding raised
raised_outer item end line x h = record { held = h.held; second = h.second; had = h.had }

pub raised_same : (end line : ℕ) (x : Opened) → (raised x end line).container ≡ x.container
unfolding raised
raised_same end line x = refl

-- two further
abbrev pub two_on : ℕ → ℕ
two_on i = suc (suc i)

pub touched_in : (item : ItemStart) (n count end far line : ℕ) (qs : List ℕ) (there here : List Opened) → Opens item n there here → Opens item n (touched_from (suc (suc count)) end line (map two_on qs) there) (touched_from count far line qs here)
unfolding raised_at
touched_in item n count end far line [] there here h = h
touched_in item n count end far line (q ∷ qs) there here h =
    rw less (by (nat_le count q) (touched_in item n count end far line qs (raised_at there (suc (suc q)) end line) (raised_at here q far line) raised_both))
  where
    less : nat_le (suc (suc count)) (suc (suc q)) ≡ nat_le count q
    less = grind (arith, nat_tests)

    raised_both : Opens item n (raised_at there (suc (suc q)) end line) (raised_at here q far line)
    raised_both = opens_at item n q (λ o. raised o end line) (λ o. raised o far line) (raised_on end far line) (raised_same far line) there here h

    by : (k : Bool) → Opens item n (touched_from (suc (suc count)) end line (map two_on qs) (raised_at there (suc (suc q)) end line)) (touched_from count far line qs (raised_at here q far line))
        → Opens item n (if k then there else touched_from (suc (suc count)) end line (map two_on qs) (raised_at there (suc (suc q)) end line)) (if k then here else touched_from count far line qs (raised_at here q far line))
    by true again = h
    by false again = again

-- containers that go on

going_in : (shift : ℕ) (w r : List Cell) (c : Cursor) (x y : Opened) → Fronted shift w r → InLine r c → OpenedIn x y → PairOf (CursorOn shift r) (going_on w (cursor_on shift c) x) (going_on r c y)
unfolding going_on
going_in shift w r c x y h i o = rw (o.container, o.had) (going_as y.container shift w r c y.had h i)

passed_in_both : (shift : ℕ) (w r : List Cell) (c : Cursor) (x y : Opened) → Fronted shift w r → InLine r c → OpenedIn x y → PairOf (CursorOn shift r) (passed w (cursor_on shift c) x) (passed r c y)
unfolding passed
passed_in_both shift w r c x y h i o = rw (length_on shift w r h, le_shift shift (length r) c.column) (by (nat_le (length r) c.column))
  where
    by : (k : Bool) → PairOf (CursorOn shift r) (if k then None else going_on w (cursor_on shift c) x) (if k then None else going_on r c y)
    by true = tt
    by false = going_in shift w r c x y h i o

-- where a line stops

from_in : (qs : List ℕ) (count : ℕ) → quote_from (map two_on qs) (suc (suc count)) ≡ option_map two_on (quote_from qs count)
from_in [] count = refl
from_in (q ∷ qs) count = rw less (by (nat_le count q) (from_in qs count))
  where
    less : nat_le (suc (suc count)) (suc (suc q)) ≡ nat_le count q
    less = grind (arith, nat_tests)

    by : (k : Bool) → find (λ q. nat_le (suc (suc count)) q) (map two_on qs) ≡ option_map two_on (find (λ q. nat_le count q) qs)
        → cond k (Some (suc (suc q))) (find (λ q. nat_le (suc (suc count)) q) (map two_on qs)) ≡ option_map two_on (cond k (Some q) (find (λ q. nat_le count q) qs))
    by true e = refl
    by false e = e

-- the first quote of all
from_front : (qs : List ℕ) → quote_from (map two_on qs) 0 ≡ option_map two_on (quote_from qs 0)
from_front [] = refl
from_front (q ∷ qs) = rw (less (suc (suc q)), less q) refl
  where
    less : (n : ℕ) → nat_le 0 n ≡ true
    less n = grind (arith, nat_tests)

blank_depth_in : (item : ItemStart) (n : ℕ) (there here : List Opened) → Opens item n there here → blank_depth there ≡ suc (suc (blank_depth here))
unfolding blank_depth is_empty
blank_depth_in item n there here h = by (slice_get there (length there - 1)) (slice_get here (length here - 1)) refl (afters_last_got (IsOuterList item) (IsOuterItem item) OpenedIn there here h.after)
  where
    long : length there ≡ suc (suc (length here))
    long = afters_length (IsOuterList item) (IsOuterItem item) OpenedIn there here h.after

    empty : Opened → Bool
    empty o = is_empty_as o.container o.had

    each : (k : Bool) → 0 < length here → (if k then length there - 1 else length there) ≡ suc (suc (if k then length here - 1 else length here))
    each true q = omega (arith, q, long)
    each false q = long

    by : (o p : Option Opened) → slice_get here (length here - 1) ≡ p → LastOf (IsOuterItem item) OpenedIn o p → (if option_map_or empty o false then length there - 1 else length there) ≡ suc (suc (if option_map_or empty p false then length here - 1 else length here))
    by None None e u = long
    by None (Some y) e u = absurd u
    by (Some x) None e u = rw (u.held, u.had) long
    by (Some x) (Some y) e u = rw (u.container, u.had) (each (empty y) (got_some here (length here - 1) y e))

stops : (f : Option ℕ) (d : ℕ) → unwrap_or (option_map two_on f) (suc (suc d)) ≡ suc (suc (unwrap_or f d))
stops None d = refl
stops (Some q) d = refl

stopped_in : (item : ItemStart) (n shift : ℕ) (w r : List Cell) (there here : List Opened) (qs : List ℕ) (count : ℕ) (c : Cursor) → Fronted shift w r → Opens item n there here → stopped w there (map two_on qs) (suc (suc count)) (cursor_on shift c) ≡ suc (suc (stopped r here qs count c))
unfolding stopped
stopped_in item n shift w r there here qs count c h o = rw (length_on shift w r h, le_shift shift (length r) c.column, from_in qs count, blank_depth_in item n there here o) (by (nat_le (length r) c.column))
  where
    by : (k : Bool) → (if k then unwrap_or (option_map two_on (quote_from qs count)) (suc (suc (blank_depth here))) else suc (suc count)) ≡ suc (suc (if k then unwrap_or (quote_from qs count) (blank_depth here) else count))
    by true = stops (quote_from qs count) (blank_depth here)
    by false = refl

-- how many go on, and where
abbrev pub MatchedIn : ℕ → List Cell → ℕ × Cursor → ℕ × Cursor → Type 0
MatchedIn shift r there here = (there ≡ (suc (suc (here.0)), cursor_on shift (here.1))) × InLine r (here.1)

matched_rest : (item : ItemStart) (n shift : ℕ) (w r : List Cell) (there here : List Opened) (qs : List ℕ) (count : ℕ) (c : Cursor) (xs ys : List Opened) → Fronted shift w r → Opens item n there here → InLine r c → count + length ys + 4 < 2 ^ 64 → Pairs OpenedIn xs ys
    → MatchedIn shift r (matched_from w there (map two_on qs) (suc (suc count)) (cursor_on shift c) xs) (matched_from r here qs count c ys)
matched_rest item n shift w r there here qs count c [] [] h o i few p = (refl, i)
matched_rest item n shift w r there here qs count c [] (y ∷ ys) h o i few p = absurd p
matched_rest item n shift w r there here qs count c (x ∷ xs) [] h o i few p = absurd p
matched_rest item n shift w r there here qs count c (x ∷ xs) (y ∷ ys) h o i few p =
    rw (next, stopped_in item n shift w r there here qs count c h o)
    (by (passed w (cursor_on shift c) x) (passed r c y) (passed_in_both shift w r c x y h i (p.0)) (λ d j. matched_rest item n shift w r there here qs (plus count 1) d xs ys h o j (omega (arith, few)) (p.1)))
  where
    next : plus (suc (suc count)) 1 ≡ suc (suc (plus count 1))
    next = omega (arith, few)

    by : (a b : Option Cursor) → PairOf (CursorOn shift r) a b → ((d : Cursor) → InLine r d → MatchedIn shift r (matched_from w there (map two_on qs) (suc (suc (plus count 1))) (cursor_on shift d) xs) (matched_from r here qs (plus count 1) d ys))
        → MatchedIn shift r (option_map_or (λ d. matched_from w there (map two_on qs) (suc (suc (plus count 1))) d xs) a (suc (suc (stopped r here qs count c)), cursor_on shift c)) (option_map_or (λ d. matched_from r here qs (plus count 1) d ys) b (stopped r here qs count c, c))
    by None None u again = (refl, i)
    by None (Some d) u again = absurd u
    by (Some e) None u again = absurd u
    by (Some e) (Some d) u again = rw (u.0) (again d (u.1))

-- the front of a line

-- a line after the first one has so many spaces in front, or it is empty and has none
abbrev pub Indents : ℕ → List Cell → List ℕ → Type 0
Indents width r front = (front ≡ replicate width 32) ⊎ ((front ≡ []) × (length r ≡ 0))

spaces_run : (width : ℕ) (xs : List ℕ) → prefix_len (λ x. x == 32) (replicate width 32 ++ xs) ≡ width + prefix_len (λ x. x == 32) xs
spaces_run zero xs = omega arith
spaces_run (suc k) xs = let z : 1 + prefix_len (λ x. x == 32) (replicate k 32 ++ xs) ≡ suc k + prefix_len (λ x. x == 32) xs = omega (arith, spaces_run k xs) in z

pub run_front : (shift : ℕ) (w r : List Cell) (h : Fronted shift w r) → h.front ≡ replicate shift 32 → run_of w 0 32 ≡ shift + run_of r 0 32
run_front shift w r h e =
    run_asked w 0 32 ∙ ap (λ (bs : List ℕ). length (take_while (λ x. x == 32) bs)) (h.bytes ∙ ap (λ xs. xs ++ bytes_of r) e)
    ∙ length-prefix_len (λ x. x == 32) (replicate shift 32 ++ bytes_of r) ∙ spaces_run shift (bytes_of r)
    ∙ ap (λ n. shift + n) (sym (run_asked r 0 32 ∙ length-prefix_len (λ x. x == 32) (bytes_of r)))

ink_front : (shift : ℕ) (w r : List Cell) (h : Fronted shift w r) → h.front ≡ replicate shift 32 → ink_from w 0 ≡ shift + ink_from r 0
ink_front shift w r h e = omega (arith, run_front shift w r h e, run_low r 0 32 (omega arith), h.fits)

-- a cursor at the front of a line
abbrev pub front_at : ℕ → Cursor
front_at ink = record { column = 0; ink = ink }

front_cursor : (shift : ℕ) (w r : List Cell) (h : Fronted shift w r) → h.front ≡ replicate shift 32 → first_cursor w ≡ front_at (shift + ink_from r 0)
unfolding first_cursor
front_cursor shift w r h e = ap front_at (ink_front shift w r h e)

some_columns : (shift : ℕ) (w r : List Cell) → 0 < shift → Fronted shift w r → nat_le (length w) 0 ≡ false
some_columns shift w r some h = let q : length w ≡ shift + length r = length_on shift w r h in let k : 0 < length w = omega (arith, q, some) in grind (arith, k, nat_tests)

list_goes : (item : ItemStart) (w : List Cell) (k : ℕ) (o : Opened) → nat_le (length w) 0 ≡ false → IsOuterList item o → passed w (front_at k) o ≡ Some (front_at k)
unfolding passed going_on
list_goes item w k o some i = rw (some, i.list) refl

item_goes : (item : ItemStart) (shift : ℕ) (w r : List Cell) (o : Opened) (h : Fronted shift w r) → 0 < shift → item.width ≡ shift → IsOuterItem item o → passed w (front_at (shift + ink_from r 0)) o ≡ Some (cursor_on shift (first_cursor r))
unfolding passed going_on item_goes_on first_cursor moved
item_goes item shift w r o h some wide i = rw (some_columns shift w r some h, i.held, i.had, wide, far, column, near) (by (nat_le (length w) (shift + ink_from r 0)))
  where
    at : ℕ → ℕ → Cursor
    at c n = record { column = c; ink = n }

    far : nat_le shift (shift + ink_from r 0 - 0) ≡ true
    far = let z : shift ≤ shift + ink_from r 0 - 0 = omega arith in grind (arith, z, nat_tests)

    column : plus 0 shift ≡ shift
    column = omega (arith, h.fits)

    near : nat_le shift (shift + ink_from r 0) ≡ true
    near = let z : shift ≤ shift + ink_from r 0 = omega arith in grind (arith, z, nat_tests)

    by : (k : Bool) → (if k && false then None else Some (at shift (shift + ink_from r 0))) ≡ Some (at (shift + 0) (shift + ink_from r 0))
    by true = ap (λ n. Some (at n (shift + ink_from r 0))) (let z : shift ≡ shift + 0 = omega arith in z)
    by false = ap (λ n. Some (at n (shift + ink_from r 0))) (let z : shift ≡ shift + 0 = omega arith in z)

matched_spaces : (item : ItemStart) (n shift : ℕ) (w r : List Cell) (there here : List Opened) (qs : List ℕ) (h : Fronted shift w r) → h.front ≡ replicate shift 32 → 0 < shift → item.width ≡ shift → n + 9 < 2 ^ 64 → Opens item n there here → MatchedIn shift r (matched w there (map two_on qs)) (matched r here qs)
matched_spaces item n shift w r [] here qs h e some wide few o = absurd o.after
matched_spaces item n shift w r (x ∷ []) here qs h e some wide few o = absurd (o.after.1)
matched_spaces item n shift w r (x ∷ z ∷ zs) here qs h e some wide few o =
    rw (front_cursor shift w r h e, list_goes item w (shift + ink_from r 0) x (some_columns shift w r some h) (o.after.0), item_goes item shift w r z h some wide (o.after.1.0))
    (matched_rest item n shift w r (x ∷ z ∷ zs) here qs 0 (first_cursor r) zs here h o (front_in r (omega (arith, h.fits))) (omega (arith, few, o.few)) (o.after.1.1))

none_deep : blank_depth [] ≡ 0
unfolding blank_depth
none_deep = refl

matched_empty : (item : ItemStart) (n : ℕ) (w r : List Cell) (there here : List Opened) (qs : List ℕ) → length w ≡ 0 → length r ≡ 0 → (length here ≡ 0 → length qs ≡ 0) → Opens item n there here → MatchedIn 0 r (matched w there (map two_on qs)) (matched r here qs)
unfolding first_cursor stopped passed
matched_empty item n (c ∷ cs) r there here qs e f k o = absurd (omega (arith, e))
matched_empty item n [] (c ∷ cs) there here qs e f k o = absurd (omega (arith, f))
matched_empty item n [] [] [] here qs e f k o = absurd o.after
matched_empty item n [] [] (x ∷ []) here qs e f k o = absurd (o.after.1)
matched_empty item n [] [] (x ∷ z ∷ zs) [] [] e f k o = (ap (λ d. (d, front_at 0)) (blank_depth_in item n (x ∷ z ∷ zs) [] o ∙ ap two_on none_deep), record { column = omega arith; ink = omega arith })
matched_empty item n [] [] (x ∷ z ∷ zs) [] (q ∷ qs) e f k o = absurd (omega (arith, k refl))
matched_empty item n [] [] (x ∷ z ∷ zs) (y ∷ ys) qs e f k o =
    (ap (λ d. (d, front_at 0)) (rw (from_front qs, blank_depth_in item n (x ∷ z ∷ zs) (y ∷ ys) o) (stops (quote_from qs 0) (blank_depth (y ∷ ys)))), record { column = omega arith; ink = omega arith })

-- the containers that go on in a line after the first one
pub matched_in : (item : ItemStart) (n shift : ℕ) (w r : List Cell) (there here : List Opened) (qs : List ℕ) (h : Fronted shift w r) → Indents item.width r h.front → 0 < item.width → n + 9 < 2 ^ 64 → (length here ≡ 0 → length qs ≡ 0) → Opens item n there here → MatchedIn shift r (matched w there (map two_on qs)) (matched r here qs)
matched_in item n shift w r there here qs h (inl e) some few k o =
    let wide : item.width ≡ shift = sym (length-replicate {A = ℕ} item.width 32) ∙ ap length (sym e) ∙ h.long in
    matched_spaces item n shift w r there here qs h (e ∙ ap (λ m. replicate m 32) wide) (omega (arith, some, wide)) wide few o
matched_in item n shift w r there here qs h (inr (e, f)) some few k o =
    let none : shift ≡ 0 = sym h.long ∙ ap length e in
    let empty : length w ≡ 0 = omega (arith, length_on shift w r h, none, f) in
    subst (λ s. MatchedIn s r (matched w there (map two_on qs)) (matched r here qs)) (sym none) (matched_empty item n w r there here qs empty f k o)

-- The open block quotes, and which of them go on in a line.
use Rattle.std.proofs.Common.{◌≡◌, ◌⊎◌, inl, inr, ℕ, zero, suc, ◌+◌, ◌-◌, ◌^◌, ◌<◌, ◌≤◌, Bool, true, false, ◌==◌, ◌&&◌, if◌then◌else◌, nat_le, List, [], ◌∷◌, ◌++◌, length, map, slice_get, refl, ap, sym, subst, ◌∙◌, arith, length-append, Option, Some, None}
use Rattle.std.specs.Prelude.{slice_set, unwrap_or}
use Rattle.std.specs.List.{AllByRecursion, find}
use Rattle.std.specs.Option.{option_map_or, option_or}
use Rattle.std.proofs.lemmas.Bool.Decides.{nat_tests}
use Rattle.std.proofs.lemmas.List.{length-map, map-append}
use Rattle.std.proofs.lemmas.List.Folds.{find-append}
use Rattle.tocmark_read_scan.specs.Basic.{plus}
use Rattle.tocmark_read_scan.proofs.PlainContent.{get_behind}
use Rattle.tocmark_read_lines.specs.Cells.{cell_byte, indent_of}
use Rattle.tocmark_read_lines.specs.Containers.{raised, raised_at, after_quote, going_on, quote_from, stopped, passed, matched_from, touched_from, blank_depth}
use Rattle.tocmark_read_lines.specs.declared.cell.Cell.{Cell}
use Rattle.tocmark_read_lines.specs.declared.cell.Cursor.{Cursor}
use Rattle.tocmark_read_lines.specs.declared.container.Container.{Container}
use Rattle.tocmark_read_lines.specs.declared.container.Container.TheVariants as container
use Rattle.tocmark_read_lines.specs.declared.container.Opened.{Opened}
use Rattle.tocmark_read_lines.specs.declared.line.Line.{Line}
use Rattle.tocmark_read_page.specs.Pages.{innermost, had_marked, list_of}

-- lists

pub last_place : {A : Type 0} (xs : List A) (x : A) → length (xs ++ x ∷ []) - 1 ≡ length xs
last_place xs x = grind (arith, length-append)

pub get_last : {A : Type 0} (xs : List A) (x : A) → slice_get (xs ++ x ∷ []) (length (xs ++ x ∷ []) - 1) ≡ Some x
get_last xs x = ap (slice_get (xs ++ x ∷ [])) (last_place xs x) ∙ get_behind xs [] x

pub set_middle : {A : Type 0} (xs : List A) (x y : A) (ys : List A) → slice_set (xs ++ x ∷ ys) (length xs) y ≡ xs ++ y ∷ ys
set_middle [] x y ys = refl
set_middle (z ∷ xs) x y ys = ap (λ zs. z ∷ zs) (set_middle xs x y ys)

-- a list in which one element is replaced by one that looks the same looks the same
set_same : {A B : Type 0} (f : A → B) (xs : List A) (i : ℕ) (x y : A) → slice_get xs i ≡ Some x → f y ≡ f x → map f (slice_set xs i y) ≡ map f xs
set_same f [] i x y e same = refl
set_same f (z ∷ zs) zero x y e same = let q : z ≡ x = cc in ap (λ w. w ∷ map f zs) (same ∙ ap f (sym q))
set_same f (z ∷ zs) (suc i) x y e same = ap (λ ws. f z ∷ ws) (set_same f zs i x y e same)

-- a list that looks like one with a last element has one
pub record Ended {A B : Type 0} (f : A → B) (os : List A) (zs : List B) (z : B) : Type 0 where
  pub init : List A
  pub last : A
  pub is : os ≡ init ++ last ∷ []
  pub before : map f init ≡ zs
  pub same : f last ≡ z

pub ended_as : {A B : Type 0} (f : A → B) (os : List A) (zs : List B) (z : B) → map f os ≡ zs ++ z ∷ [] → Ended f os zs z
ended_as f [] [] z e = absurd cc
ended_as f [] (y ∷ ys) z e = absurd cc
ended_as f (o ∷ []) [] z e = record { init = []; last = o; is = refl; before = refl; same = (let q : f o ≡ z = cc in q) }
ended_as f (o ∷ p ∷ os) [] z e = absurd cc
ended_as f (o ∷ os) (y ∷ ys) z e =
    let first : f o ≡ y = cc in
    let rest : map f os ≡ ys ++ z ∷ [] = cc in
    let g : Ended f os ys z = ended_as f os ys z rest in
    record { init = o ∷ g.init; last = g.last; is = ap (λ ws. o ∷ ws) g.is; before = ap (λ w. w ∷ map f g.init) first ∙ ap (λ ws. y ∷ ws) g.before; same = g.same }

-- the numbers below one
abbrev pub upto : ℕ → List ℕ
upto zero = []
upto (suc n) = upto n ++ n ∷ []

upto_long : (n : ℕ) → length (upto n) ≡ n
upto_long zero = refl
upto_long (suc n) = length-append (upto n) (n ∷ []) ∙ (let q : length (upto n) ≡ n = upto_long n in let r : length (upto n) + 1 ≡ suc n = omega (arith, q) in r)

none_from : (k n : ℕ) → n ≤ k → find (λ q. nat_le k q) (upto n) ≡ None
none_from k zero low = refl
none_from k (suc n) low =
    let no : nat_le k n ≡ false = grind (arith, low, nat_tests) in
    find-append (λ q. nat_le k q) (upto n) (n ∷ []) ∙ rw (none_from k n (omega (arith, low)), no) refl

some_from : (k n : ℕ) → k < n → find (λ q. nat_le k q) (upto n) ≡ Some k
some_from k zero low = absurd (omega (arith, low))
some_from k (suc n) low = find-append (λ q. nat_le k q) (upto n) (n ∷ []) ∙ by (nat_le n k) refl (λ m. some_from k n m)
  where
    by : (b : Bool) → nat_le n k ≡ b → (k < n → find (λ q. nat_le k q) (upto n) ≡ Some k) → option_or (find (λ q. nat_le k q) (upto n)) (find (λ q. nat_le k q) (n ∷ [])) ≡ Some k
    by true e again =
        let same : n ≡ k = grind (arith, e, low, nat_tests) in
        let yes : nat_le k n ≡ true = grind (arith, same, nat_tests) in
        rw (none_from k n (omega (arith, same)), yes) (ap (λ m. Some m) same)
    by false e again =
        let less : k < n = grind (arith, e, low, nat_tests) in
        rw (again less) refl

-- the open containers are quotes

-- what of an open container doesn't change as lines come in
abbrev pub shape : Opened → Container × ℕ
shape o = (o.container, o.block)

-- quotes with these blocks, the innermost one first
abbrev pub quotes_at : List ℕ → List (Container × ℕ)
quotes_at [] = []
quotes_at (b ∷ outer) = quotes_at outer ++ (container.Quote, b) ∷ []

-- only quotes are open, and these are their blocks
pub record Open (outer : List ℕ) : Type 0 where
  pub opened : List Opened
  pub quotes : List ℕ
  pub are : map shape opened ≡ quotes_at outer
  pub places : quotes ≡ upto (length outer)

pub quotes_long : (outer : List ℕ) → length (quotes_at outer) ≡ length outer
quotes_long [] = refl
quotes_long (b ∷ outer) = length-append (quotes_at outer) ((container.Quote, b) ∷ []) ∙ (let q : length (quotes_at outer) ≡ length outer = quotes_long outer in let r : length (quotes_at outer) + 1 ≡ suc (length outer) = omega (arith, q) in r)

pub open_count : (outer : List ℕ) (x : Open outer) → length x.opened ≡ length outer
open_count outer x = sym (length-map x.opened shape) ∙ ap length x.are ∙ quotes_long outer

abbrev pub IsQuote : Opened → Type 0
IsQuote o = o.container ≡ container.Quote

pub all_append : {A : Type 0} (P : A → Type 0) (xs ys : List A) → AllByRecursion P xs → AllByRecursion P ys → AllByRecursion P (xs ++ ys)
all_append P [] ys h k = k
all_append P (x ∷ xs) ys h k = (h.0, all_append P xs ys (h.1) k)

quotes_are : (outer : List ℕ) → AllByRecursion (λ (z : Container × ℕ). z.0 ≡ container.Quote) (quotes_at outer)
quotes_are [] = tt
quotes_are (b ∷ outer) = all_append (λ (z : Container × ℕ). z.0 ≡ container.Quote) (quotes_at outer) ((container.Quote, b) ∷ []) (quotes_are outer) (refl, tt)

all_quotes : (os : List Opened) (zs : List (Container × ℕ)) → map shape os ≡ zs → AllByRecursion (λ (z : Container × ℕ). z.0 ≡ container.Quote) zs → AllByRecursion IsQuote os
all_quotes [] zs e h = tt
all_quotes (o ∷ os) [] e h = absurd cc
all_quotes (o ∷ os) (z ∷ zs) e h =
    let first : shape o ≡ z = cc in
    let rest : map shape os ≡ zs = cc in
    (ap (λ (y : Container × ℕ). y.0) first ∙ h.0, all_quotes os zs rest (h.1))

pub open_quotes : (outer : List ℕ) (x : Open outer) → AllByRecursion IsQuote x.opened
open_quotes outer x = all_quotes x.opened (quotes_at outer) x.are (quotes_are outer)

-- lines change the open quotes

set_shape : (os : List Opened) (i : ℕ) (change : Opened → Opened) → ((o : Opened) → shape (change o) ≡ shape o) → map shape (option_map_or (λ (o : Opened). slice_set os i (change o)) (slice_get os i) os) ≡ map shape os
set_shape os i change same = by (slice_get os i) refl
  where
    by : (g : Option Opened) → slice_get os i ≡ g → map shape (option_map_or (λ (o : Opened). slice_set os i (change o)) g os) ≡ map shape os
    by None e = refl
    by (Some o) e = set_same shape os i o (change o) e (same o)

pub raised_shape : (os : List Opened) (i end line : ℕ) → map shape (raised_at os i end line) ≡ map shape os
unfolding raised_at raised
raised_shape os i end line = set_shape os i (λ o. raised o end line) (λ o. refl)

pub touched_shape : (count end line : ℕ) (qs : List ℕ) (os : List Opened) → map shape (touched_from count end line qs os) ≡ map shape os
touched_shape count end line [] os = refl
touched_shape count end line (q ∷ qs) os = by (nat_le count q) (touched_shape count end line qs (raised_at os q end line))
  where
    by : (k : Bool) → map shape (touched_from count end line qs (raised_at os q end line)) ≡ map shape (raised_at os q end line) → map shape (if k then os else touched_from count end line qs (raised_at os q end line)) ≡ map shape os
    by true again = refl
    by false again = again ∙ raised_shape os q end line

pub had_shape : (os : List Opened) → map shape (had_marked os) ≡ map shape os
unfolding had_marked
had_shape os = set_shape os (length os - 1) (λ o. record o { had = true }) (λ o. refl)

-- a quote that a line begins
abbrev pub new_quote : ℕ → Line → Opened
new_quote b l = record { container = container.Quote; block = b; end = l.end; line = l.number; had = false }

pub entered_are : {outer : List ℕ} (b : ℕ) (l : Line) (x : Open outer) → map shape (had_marked x.opened ++ new_quote b l ∷ []) ≡ quotes_at (b ∷ outer)
entered_are b l x = map-append shape (had_marked x.opened) (new_quote b l ∷ []) ∙ ap (λ zs. zs ++ (container.Quote, b) ∷ []) (had_shape x.opened ∙ x.are)

pub entered_places : {outer : List ℕ} (b : ℕ) (l : Line) (x : Open outer) → x.quotes ++ (length (had_marked x.opened ++ new_quote b l ∷ []) - 1) ∷ [] ≡ upto (length (b ∷ outer))
entered_places {outer = outer} b l x =
    ap (λ qs. qs ++ (length (had_marked x.opened ++ new_quote b l ∷ []) - 1) ∷ []) x.places
    ∙ ap (λ n. upto (length outer) ++ n ∷ []) (let all : length (had_marked x.opened ++ new_quote b l ∷ []) ≡ length (had_marked x.opened) + 1 = length-append (had_marked x.opened) (new_quote b l ∷ []) in
    let same : length (had_marked x.opened) ≡ length outer = sym (length-map (had_marked x.opened) shape) ∙ ap length (had_shape x.opened ∙ x.are) ∙ quotes_long outer in
    let q : length (had_marked x.opened ++ new_quote b l ∷ []) - 1 ≡ length outer = omega (arith, all, same) in q)

-- the quotes that go on in a line reach to it
abbrev pub touch : {outer : List ℕ} → Line → ℕ → Open outer → Open outer
touch l depth x = record {
  opened = touched_from depth l.end l.number x.quotes x.opened;
  quotes = x.quotes;
  are = touched_shape depth l.end l.number x.quotes x.opened ∙ x.are;
  places = x.places;
}

-- the innermost quote reaches at least so far
abbrev pub raise : {outer : List ℕ} → ℕ → ℕ → Open outer → Open outer
raise end line x = record {
  opened = raised_at x.opened (length x.opened - 1) end line;
  quotes = x.quotes;
  are = raised_shape x.opened (length x.opened - 1) end line ∙ x.are;
  places = x.places;
}

-- a block is in the innermost quote
abbrev pub with_block : {outer : List ℕ} → Open outer → Open outer
with_block x = record {
  opened = had_marked x.opened;
  quotes = x.quotes;
  are = had_shape x.opened ∙ x.are;
  places = x.places;
}

-- another quote begins
abbrev pub entered : {outer : List ℕ} → (b : ℕ) → Line → Open outer → Open (b ∷ outer)
entered b l x = record {
  opened = had_marked x.opened ++ new_quote b l ∷ [];
  quotes = x.quotes ++ (length (had_marked x.opened ++ new_quote b l ∷ []) - 1) ∷ [];
  are = entered_are b l x;
  places = entered_places b l x;
}

-- what of the open containers a block asks for

nothing_open : (os : List Opened) → map shape os ≡ [] → os ≡ []
nothing_open [] e = refl
nothing_open (o ∷ os) e = absurd cc

-- the innermost quote, if there is one
abbrev pub Innermost : List Opened → Type 0
Innermost os = (innermost os ≡ None) ⊎ ((o : Opened) × (innermost os ≡ Some o) × IsQuote o)

pub innermost_open : (outer : List ℕ) (x : Open outer) → Innermost x.opened
innermost_open [] x = inl (ap innermost (nothing_open x.opened x.are))
innermost_open (b ∷ outer) x =
    let g : Ended shape x.opened (quotes_at outer) (container.Quote, b) = ended_as shape x.opened (quotes_at outer) (container.Quote, b) x.are in
    inr (g.last, ap innermost g.is ∙ get_last g.init g.last, ap (λ (z : Container × ℕ). z.0) g.same)

pub no_list : (outer : List ℕ) (x : Open outer) → list_of x.opened ≡ None
unfolding list_of
no_list outer x = by (innermost_open outer x)
  where
    by : Innermost x.opened → list_of x.opened ≡ None
    by (inl e) = rw e refl
    by (inr (o, e, q)) = rw (e, q) refl

-- which quotes go on in a line

-- a block quote marker is at a place
abbrev pub is_marked : List Cell → Cursor → Bool
is_marked columns place = nat_le (indent_of place) 3 && (cell_byte columns place.ink == 62)

-- so many markers lie between two places
abbrev pub Reaches : List Cell → ℕ → Cursor → Cursor → Type 0
Reaches columns zero from to = from ≡ to
Reaches columns (suc n) from to = (nat_le (length columns) from.column ≡ false) × (is_marked columns from ≡ true) × Reaches columns n (after_quote columns from) to

pub reaches_more : (columns : List Cell) (n : ℕ) (from to : Cursor) → Reaches columns n from to → nat_le (length columns) to.column ≡ false → is_marked columns to ≡ true → Reaches columns (suc n) from (after_quote columns to)
reaches_more columns zero from to h left mark =
    subst (λ (c : Cursor). (nat_le (length columns) c.column ≡ false) × (is_marked columns c ≡ true) × (after_quote columns c ≡ after_quote columns to)) (sym h) (left, mark, refl)
reaches_more columns (suc n) from to h left mark = (h.0, h.1, reaches_more columns n (after_quote columns from) to (h.2) left mark)

passes_quote : (columns : List Cell) (from : Cursor) (o : Opened) → IsQuote o → nat_le (length columns) from.column ≡ false → is_marked columns from ≡ true → passed columns from o ≡ Some (after_quote columns from)
unfolding passed going_on
passes_quote columns from o q left mark = rw (left, q, mark) refl

stops_quote : (columns : List Cell) (from : Cursor) (o : Opened) → IsQuote o → is_marked columns from ≡ false → passed columns from o ≡ None
unfolding passed going_on
stops_quote columns from o q mark = rw (q, mark) (by (nat_le (length columns) from.column))
  where
    either : Bool → Option Cursor
    either k = if k then None else None

    by : (k : Bool) → either k ≡ None
    by true = refl
    by false = refl

-- a line that has all their markers goes on in all quotes
matched_all : (columns : List Cell) (opened : List Opened) (quotes : List ℕ) (count : ℕ) (from to : Cursor) (os : List Opened) → AllByRecursion IsQuote os → Reaches columns (length os) from to → count + length os + 1 < 2 ^ 64
    → matched_from columns opened quotes count from os ≡ (count + length os, to)
matched_all columns opened quotes count from to [] all h fits = ap (λ n. (n, from)) (let q : count ≡ count + 0 = omega arith in q) ∙ ap (λ (c : Cursor). (count + 0, c)) h
matched_all columns opened quotes count from to (o ∷ os) all h fits =
    ap (λ (p : Option Cursor). option_map_or (λ next. matched_from columns opened quotes (plus count 1) next os) p (stopped columns opened quotes count from, from)) (passes_quote columns from o (all.0) (h.0) (h.1))
    ∙ ap (λ n. matched_from columns opened quotes n (after_quote columns from) os) (let q : plus count 1 ≡ count + 1 = omega (arith, fits) in q)
    ∙ matched_all columns opened quotes (count + 1) (after_quote columns from) to os (all.1) (h.2) (omega (arith, fits))
    ∙ ap (λ n. (n, to)) (let q : count + 1 + length os ≡ count + suc (length os) = omega arith in q)

-- a line that has the markers of the first quotes alone goes on in those
matched_front : (columns : List Cell) (opened : List Opened) (quotes : List ℕ) (n count : ℕ) (from to : Cursor) (os : List Opened) → AllByRecursion IsQuote os → Reaches columns n from to → is_marked columns to ≡ false → n < length os → count + n + 1 < 2 ^ 64
    → quote_from quotes (count + n) ≡ Some (count + n)
    → matched_from columns opened quotes count from os ≡ (count + n, to)
unfolding stopped
matched_front columns opened quotes n count from to [] all h mark low fits found = absurd (omega (arith, low))
matched_front columns opened quotes zero count from to (o ∷ os) all h mark low fits found =
    ap (λ (c : Cursor). matched_from columns opened quotes count c (o ∷ os)) h
    ∙ ap (λ (p : Option Cursor). option_map_or (λ next. matched_from columns opened quotes (plus count 1) next os) p (stopped columns opened quotes count to, to)) (stops_quote columns to o (all.0) mark)
    ∙ ap (λ n. (n, to)) (by (nat_le (length columns) to.column) ∙ (let q : count ≡ count + 0 = omega arith in q))
  where
    here : quote_from quotes count ≡ Some count
    here = ap (quote_from quotes) (let q : count ≡ count + 0 = omega arith in q) ∙ found ∙ ap (λ m. Some m) (let q : count + 0 ≡ count = omega arith in q)

    by : (k : Bool) → (if k then unwrap_or (quote_from quotes count) (blank_depth opened) else count) ≡ count
    by true = rw here refl
    by false = refl
matched_front columns opened quotes (suc n) count from to (o ∷ os) all h mark low fits found =
    ap (λ (p : Option Cursor). option_map_or (λ next. matched_from columns opened quotes (plus count 1) next os) p (stopped columns opened quotes count from, from)) (passes_quote columns from o (all.0) (h.0) (h.1))
    ∙ ap (λ m. matched_from columns opened quotes m (after_quote columns from) os) (let q : plus count 1 ≡ count + 1 = omega (arith, fits) in q)
    ∙ matched_front columns opened quotes n (count + 1) (after_quote columns from) to os (all.1) (h.2) mark (omega (arith, low)) (omega (arith, fits))
    (ap (quote_from quotes) further ∙ found ∙ ap (λ m. Some m) (sym further))
    ∙ ap (λ m. (m, to)) further
  where
    further : count + 1 + n ≡ count + suc n
    further = omega arith

pub open_matched : (outer : List ℕ) (x : Open outer) (columns : List Cell) (from to : Cursor) → Reaches columns (length outer) from to → length outer + 1 < 2 ^ 64 → matched_from columns x.opened x.quotes 0 from x.opened ≡ (length outer, to)
open_matched outer x columns from to h fits =
    matched_all columns x.opened x.quotes 0 from to x.opened (open_quotes outer x) (subst (λ n. Reaches columns n from to) (sym (open_count outer x)) h) (omega (arith, open_count outer x, fits))
    ∙ ap (λ n. (n, to)) (let q : 0 + length x.opened ≡ length outer = omega (arith, open_count outer x) in q)

pub open_stopped : (outer : List ℕ) (x : Open outer) (columns : List Cell) (n : ℕ) (from to : Cursor) → Reaches columns n from to → is_marked columns to ≡ false → n < length outer → n + 1 < 2 ^ 64 → matched_from columns x.opened x.quotes 0 from x.opened ≡ (n, to)
open_stopped outer x columns n from to h mark low fits =
    matched_front columns x.opened x.quotes n 0 from to x.opened (open_quotes outer x) h mark (omega (arith, low, open_count outer x)) (omega (arith, fits))
    (ap (λ qs. quote_from qs (0 + n)) x.places ∙ some_from (0 + n) (length outer) (omega (arith, low)))
    ∙ ap (λ m. (m, to)) (let q : 0 + n ≡ n = omega arith in q)

-- One event more: only an End makes a list need a placeholder, that of its empty first item or its own.
use Rattle.std.proofs.Common.{◌≡◌, ℕ, zero, suc, ◌+◌, ◌-◌, ◌≤◌, ◌<◌, Bool, true, false, Option, Some, None, List, [], ◌∷◌, ◌++◌, refl, sym, ap, ◌∙◌, length, drop, map, take, reverse, if◌then◌else◌, arith}
use Rattle.std.specs.Prelude.{◌&&◌, ◌||◌, ◌==◌, nat_lt}
use Rattle.std.proofs.lemmas.Bool.{false≢true, true≢false}
use Rattle.std.proofs.lemmas.Bool.Decides.{nat_tests}
use Rattle.std.proofs.lemmas.List.{drop-drop, length-drop, length-map, reverse-append, take-append-drop}
use Rattle.tocmark_event.specs.View.{SourcedEvent, TagView, Start, End, Leaf, unsourced}
use Rattle.tocmark_event.specs.declared.event.TagEnd.{TagEnd}
use Rattle.tocmark_spelling.specs.Buffered.{buffered_view}
use Rattle.tocmark_spelling.specs.Kinds.{is_item, is_list, is_paragraph, starts}
use Rattle.tocmark_spelling.specs.Scans.{end_at, end_from, span}
use Rattle.tocmark_spelling.specs.declared.buffered.BufferedEvent.{BufferedEvent}
use Rattle.tocmark_spelling.proofs.Turns.{events-drop}
use Rattle.tocmark_write_pending.specs.EndedLists.{are_two_ends, begins_end, begins_first_item, begins_list, ends_in_first_item, ends_only_item, ends_only_item_from, is_last_but_one, is_only_item_body}
use Rattle.tocmark_write_pending.specs.OpenContainers.{EndsAt, left_open}
use Rattle.tocmark_write_pending.specs.Placeholder.{is_inline_end_or_leaf}
use Rattle.tocmark_write_pending.specs.Waiting.{begins_empty_item, begins_only_item, begins_three_ends, from_end, has_ambiguous_list, is_end, starts_ambiguous_list}
use Rattle.tocmark_write_pending.proofs.OpenContainers.{drop-behind, empty-not, ended, inner-fewer, never, unended}

-- ---- truth values

and-false : (a : Bool) → (a && false) ≡ false
and-false true = refl
and-false false = refl

or-false : (a : Bool) → (a || false) ≡ a
or-false true = refl
or-false false = refl

parts : (a b : Bool) → (a && b) ≡ true → (a ≡ true) × (b ≡ true)
parts true b h = (refl, h)
parts false b h = absurd (false≢true h)

four : (a b c d : Bool) → (a || b) || (c || d) ≡ (a || c) || (b || d)
four true b c d = refl
four false true true d = refl
four false true false d = refl
four false false c d = refl

-- what a list needs now, beside what it needed before
split : (l i n v o w : Bool) → l && (((i || n) && v) || (o || w)) ≡ (l && ((i && v) || o)) || (l && ((n && v) || w))
split false i n v o w = refl
split true true n true o w = refl
split true true true false true w = refl
split true true false false true w = refl
split true true true false false w = refl
split true true false false false w = refl
split true false true true true w = refl
split true false true true false w = refl
split true false true false true w = refl
split true false true false false w = refl
split true false false true true w = refl
split true false false true false w = refl
split true false false false true w = refl
split true false false false false w = refl

-- ---- what one list asks of the event

-- whether its first item, which is empty, ends now
abbrev item_now : List SourcedEvent → SourcedEvent → Bool
item_now [] e = false
item_now (a ∷ []) e = starts is_item (unsourced a) && is_end e
item_now (a ∷ b ∷ es) e = false

item-more : (xs : List SourcedEvent) (e : SourcedEvent) → begins_empty_item (xs ++ e ∷ []) ≡ (begins_empty_item xs || item_now xs e)
item-more [] e = refl
item-more (a ∷ []) e = refl
item-more (a ∷ b ∷ xs) e = sym (or-false (starts is_item (unsourced a) && is_end b))

three-more : (zs : List SourcedEvent) (e : SourcedEvent) → begins_three_ends (zs ++ e ∷ []) ≡ (begins_three_ends zs || (are_two_ends zs && is_end e))
three-more [] e = refl
three-more (x ∷ []) e = refl
three-more (x ∷ y ∷ []) e = assoc (is_end x) (is_end y) (is_end e)
  where
    assoc : (a b c : Bool) → (a && b && c) ≡ ((a && b) && c)
    assoc true b c = refl
    assoc false b c = refl
three-more (x ∷ y ∷ z ∷ zs) e = sym (or-false (is_end x && is_end y && is_end z))

-- from the End on of the container in which events are
drop-kept : (n : ℕ) (xs ys : List SourcedEvent) → n < length xs → drop n (xs ++ ys) ≡ drop n xs ++ ys
drop-kept n [] ys lt = absurd (omega (arith, lt))
drop-kept zero (x ∷ xs) ys lt = refl
drop-kept (suc n) (x ∷ xs) ys lt = drop-kept n xs ys (omega (arith, lt))

drop-some : (n : ℕ) (xs : List SourcedEvent) → n ≡ length xs → drop n xs ≡ []
drop-some zero [] h = refl
drop-some (suc n) [] h = absurd (omega (arith, h))
drop-some zero (x ∷ xs) h = absurd (omega (arith, h))
drop-some (suc n) (x ∷ xs) h = drop-some n xs (omega (arith, h))

-- of a list with at most one event
three-short : (n : ℕ) (xs : List SourcedEvent) (e : SourcedEvent) → length xs < n + 1 → begins_three_ends (drop n (xs ++ e ∷ [])) ≡ false
three-short zero [] e lt = refl
three-short (suc zero) [] e lt = refl
three-short (suc (suc n)) [] e lt = refl
three-short zero (x ∷ xs) e lt = absurd (omega (arith, lt))
three-short (suc n) (x ∷ xs) e lt = three-short n xs e (omega (arith, lt))

span-least : (d : ℕ) (es : List SourcedEvent) (e : SourcedEvent) (k : ℕ) → left_open d es ≡ Some k → length es < span d (es ++ e ∷ []) + 1
span-least d [] e k h = omega arith
span-least d (Start t ∷ es) e k h = let r = span-least (suc d) es e k h in omega (arith, r)
span-least zero (End x ∷ es) e k h = absurd (never k h)
span-least (suc d) (End x ∷ es) e k h = let r = span-least d es e k h in omega (arith, r)
span-least zero (Leaf l ∷ es) e k h = let r = span-least zero es e k h in omega (arith, r)
span-least (suc d) (Leaf l ∷ es) e k h = let r = span-least (suc d) es e k h in omega (arith, r)

from-more : (xs : List SourcedEvent) (e : SourcedEvent) → begins_three_ends (from_end (xs ++ e ∷ [])) ≡ (begins_three_ends (from_end xs) || (are_two_ends (from_end xs) && is_end e))
from-more xs e = by (left_open 0 xs) refl
  where
    by : (o : Option ℕ) → left_open 0 xs ≡ o → begins_three_ends (from_end (xs ++ e ∷ [])) ≡ (begins_three_ends (from_end xs) || (are_two_ends (from_end xs) && is_end e))
    by None h =
        let r = ended 0 xs (e ∷ []) h in
        ap (λ n. begins_three_ends (drop n (xs ++ e ∷ []))) r.span_same
        ∙ ap begins_three_ends (drop-kept (span 0 xs) xs (e ∷ []) r.inside)
        ∙ three-more (from_end xs) e
    by (Some k) h =
        three-short (span 0 (xs ++ e ∷ [])) xs e (span-least 0 xs e k h)
        ∙ sym (ap (λ (zs : List SourcedEvent). begins_three_ends zs || (are_two_ends zs && is_end e)) (drop-some (span 0 xs) xs (unended 0 xs k h)))

-- whether its only item holds a Paragraph alone, and it ends now
abbrev only_now : List SourcedEvent → SourcedEvent → Bool
only_now xs e = is_only_item_body xs && is_end e

triple : (a b c d e : Bool) → (a && b && (c || (d && e))) ≡ ((a && b && c) || ((a && b && d) && e))
triple false b c d e = refl
triple true false c d e = refl
triple true true c d e = refl

no-three : (a b : Bool) → (a && b && false) ≡ false
no-three true true = refl
no-three true false = refl
no-three false b = refl

only-more : (xs : List SourcedEvent) (e : SourcedEvent) → begins_only_item (xs ++ e ∷ []) (from_end (drop 2 (xs ++ e ∷ []))) ≡ (begins_only_item xs (from_end (drop 2 xs)) || only_now xs e)
only-more [] e = refl
only-more (a ∷ []) e = no-three (starts is_item (unsourced a)) (starts is_paragraph (unsourced e))
only-more (a ∷ b ∷ xs) e =
    ap (λ t. starts is_item (unsourced a) && starts is_paragraph (unsourced b) && t) (from-more xs e)
    ∙ triple (starts is_item (unsourced a)) (starts is_paragraph (unsourced b)) (begins_three_ends (from_end xs)) (are_two_ends (from_end xs)) (is_end e)

abbrev needs_now : Bool → SourcedEvent → List SourcedEvent → SourcedEvent → Bool
needs_now inline x xs e = starts is_list (unsourced x) && ((item_now xs e && inline) || only_now xs e)

list-more : (inline : Bool) (x : SourcedEvent) (xs : List SourcedEvent) (e : SourcedEvent)
    → starts_ambiguous_list inline x (xs ++ e ∷ []) (from_end (drop 2 (xs ++ e ∷ []))) ≡ (starts_ambiguous_list inline x xs (from_end (drop 2 xs)) || needs_now inline x xs e)
list-more inline x xs e =
    (λ j. starts is_list (unsourced x) && ((item-more xs e j && inline) || only-more xs e j))
    ∙ split (starts is_list (unsourced x)) (begins_empty_item xs) (item_now xs e) inline (begins_only_item xs (from_end (drop 2 xs))) (only_now xs e)

-- ---- all lists

abbrev some_now : Bool → List SourcedEvent → SourcedEvent → Bool
some_now inline [] e = false
some_now inline (x ∷ xs) e = needs_now inline x xs e || some_now (is_inline_end_or_leaf (unsourced x)) xs e

ambiguous-more : (inline : Bool) (es : List SourcedEvent) (e : SourcedEvent) → has_ambiguous_list inline (es ++ e ∷ []) ≡ (has_ambiguous_list inline es || some_now inline es e)
ambiguous-more inline [] e = ap (λ b. b || false) (and-false (starts is_list (unsourced e)))
ambiguous-more inline (x ∷ xs) e =
    (λ j. list-more inline x xs e j || ambiguous-more (is_inline_end_or_leaf (unsourced x)) xs e j)
    ∙ four (starts_ambiguous_list inline x xs (from_end (drop 2 xs))) (needs_now inline x xs e) (has_ambiguous_list (is_inline_end_or_leaf (unsourced x)) xs) (some_now (is_inline_end_or_leaf (unsourced x)) xs e)

-- an event that is no End changes nothing
item-never : (xs : List SourcedEvent) (e : SourcedEvent) → is_end e ≡ false → item_now xs e ≡ false
item-never [] e h = refl
item-never (a ∷ []) e h = ap (λ b. starts is_item (unsourced a) && b) h ∙ and-false (starts is_item (unsourced a))
item-never (a ∷ b ∷ xs) e h = refl

none-now : (inline : Bool) (es : List SourcedEvent) (e : SourcedEvent) → is_end e ≡ false → some_now inline es e ≡ false
none-now inline [] e h = refl
none-now inline (x ∷ xs) e h =
    (λ j. (starts is_list (unsourced x) && ((item-never xs e h j && inline) || (is_only_item_body xs && h j))) || none-now (is_inline_end_or_leaf (unsourced x)) xs e h j)
    ∙ ap (λ b. (starts is_list (unsourced x) && b) || false) (and-false (is_only_item_body xs))
    ∙ ap (λ b. b || false) (and-false (starts is_list (unsourced x)))

ambiguous-same : (inline : Bool) (es : List SourcedEvent) (e : SourcedEvent) → is_end e ≡ false → has_ambiguous_list inline (es ++ e ∷ []) ≡ has_ambiguous_list inline es
ambiguous-same inline es e h = ambiguous-more inline es e ∙ ap (λ b. has_ambiguous_list inline es || b) (none-now inline es e h) ∙ or-false (has_ambiguous_list inline es)

-- ---- an End

abbrev some_only : List SourcedEvent → Bool
some_only [] = false
some_only (x ∷ xs) = ends_only_item x xs || some_only xs

and-true : (a : Bool) → (a && true) ≡ a
and-true true = refl
and-true false = refl

apart : (l i v o a b : Bool) → (l && ((i && v) || o)) || (a || b) ≡ ((l && i && v) || a) || ((l && o) || b)
apart false i v o a b = refl
apart true true true o true b = refl
apart true true true o false b = refl
apart true true false true true b = refl
apart true true false true false b = refl
apart true true false false true b = refl
apart true true false false false b = refl
apart true false v true true b = refl
apart true false v true false b = refl
apart true false v false true b = refl
apart true false v false false b = refl

-- the lists whose first items end, and those that end
now-parts : (inline : Bool) (es : List SourcedEvent) (k : TagEnd) → some_now inline es (End k) ≡ (ends_in_first_item inline es || some_only es)
now-parts inline [] k = refl
now-parts inline (x ∷ []) k = one (starts is_list (unsourced x)) inline
  where
    one : (l v : Bool) → ((l && ((false && v) || (false && true))) || false) ≡ (false || ((l && false) || false))
    one true v = refl
    one false v = refl
now-parts inline (x ∷ a ∷ []) k =
    ap (λ b. b || ((starts is_list (unsourced a) && ((false && is_inline_end_or_leaf (unsourced x)) || (false && true))) || false)) (first (starts is_list (unsourced x)) (starts is_item (unsourced a)) inline)
    ∙ last (starts is_list (unsourced x) && starts is_item (unsourced a) && inline) (starts is_list (unsourced x)) (starts is_list (unsourced a))
  where
    first : (l i v : Bool) → (l && (((i && true) && v) || (false && true))) ≡ (l && i && v)
    first false i v = refl
    first true true v = or-false v
    first true false v = refl

    last : (b l m : Bool) → (b || ((m && false) || false)) ≡ (b || ((l && false) || ((m && false) || false)))
    last true l m = refl
    last false true m = refl
    last false false m = refl
now-parts inline (x ∷ a ∷ b ∷ es) k =
    (λ j. (starts is_list (unsourced x) && (false || and-true (is_only_item_body (a ∷ b ∷ es)) j)) || now-parts (is_inline_end_or_leaf (unsourced x)) (a ∷ b ∷ es) k j)
    ∙ swap (starts is_list (unsourced x) && is_only_item_body (a ∷ b ∷ es)) (ends_in_first_item (is_inline_end_or_leaf (unsourced x)) (a ∷ b ∷ es)) (some_only (a ∷ b ∷ es))
  where
    swap : (p q r : Bool) → (p || (q || r)) ≡ (q || (p || r))
    swap true true r = refl
    swap true false r = refl
    swap false q r = refl

-- what is open outside it is open after it
open-behind : (d a b : ℕ) (es : List SourcedEvent) → b ≡ d + suc a → left_open d es ≡ None → left_open b es ≡ left_open a (drop (suc (span d es)) es)
open-behind d a b [] e h = absurd (never d (sym h))
open-behind d a b (Start t ∷ es) e h = open-behind (suc d) a (suc b) es (omega (arith, e)) h
open-behind zero a zero (End k ∷ es) e h = absurd (omega (arith, e))
open-behind zero a (suc b) (End k ∷ es) e h = let same : b ≡ a = omega (arith, e) in ap (λ n. left_open n es) same
open-behind (suc d) a zero (End k ∷ es) e h = absurd (omega (arith, e))
open-behind (suc d) a (suc b) (End k ∷ es) e h = open-behind d a b es (omega (arith, e)) h
open-behind zero a zero (Leaf l ∷ es) e h = absurd (omega (arith, e))
open-behind zero a (suc b) (Leaf l ∷ es) e h = open-behind zero a (suc b) es e h
open-behind (suc d) a zero (Leaf l ∷ es) e h = absurd (omega (arith, e))
open-behind (suc d) a (suc b) (Leaf l ∷ es) e h = open-behind (suc d) a (suc b) es e h

-- a list that ends now is the innermost open container
started-by : (test : TagView → Bool) (x : SourcedEvent) → starts test (unsourced x) ≡ true → (t : TagView) × (x ≡ Start t)
started-by test (Start t) h = (t, refl)
started-by test (End k) h = absurd (false≢true h)
started-by test (Leaf l) h = absurd (false≢true h)

drop-one : (n : ℕ) (xs : List SourcedEvent) → drop (suc n) xs ≡ drop 1 (drop n xs)
drop-one zero xs = refl
drop-one (suc n) [] = refl
drop-one (suc n) (x ∷ xs) = drop-one n xs

last-end : (zs : List SourcedEvent) → are_two_ends zs ≡ true → left_open 1 (drop 1 zs) ≡ Some 0
last-end [] h = absurd (false≢true h)
last-end (x ∷ []) h = absurd (false≢true h)
last-end (x ∷ Start t ∷ []) h = absurd (true≢false (sym h ∙ and-false (is_end x)))
last-end (x ∷ End k ∷ []) h = refl
last-end (x ∷ Leaf l ∷ []) h = absurd (true≢false (sym h ∙ and-false (is_end x)))
last-end (x ∷ y ∷ z ∷ zs) h = absurd (false≢true h)

body-open : (xs : List SourcedEvent) → is_only_item_body xs ≡ true → left_open 0 xs ≡ Some 0
body-open [] h = absurd (false≢true h)
body-open (a ∷ []) h = absurd (false≢true h)
body-open (a ∷ b ∷ es) h =
    let p = parts (starts is_item (unsourced a) && starts is_paragraph (unsourced b)) (are_two_ends (from_end es)) h in
    let q = parts (starts is_item (unsourced a)) (starts is_paragraph (unsourced b)) p.0 in
    let item = started-by is_item a q.0 in
    let paragraph = started-by is_paragraph b q.1 in
    (λ j. left_open 0 (item.1 j ∷ paragraph.1 j ∷ es)) ∙ inside es p.1 (left_open 0 es) refl
  where
    inside : (es : List SourcedEvent) → are_two_ends (from_end es) ≡ true → (o : Option ℕ) → left_open 0 es ≡ o → left_open 2 es ≡ Some 0
    inside es h None e = open-behind 0 1 2 es (omega arith) e ∙ ap (left_open 1) (drop-one (span 0 es) es) ∙ last-end (from_end es) h
    inside es h (Some k) e = absurd (false≢true (sym (ap are_two_ends (drop-some (span 0 es) es (unended 0 es k e))) ∙ h))

-- no list that ends now is where none is open
not-here : (x : SourcedEvent) (es : List SourcedEvent) (d : ℕ) → left_open d (x ∷ es) ≡ Some 0 → (b : Bool) → ends_only_item x es ≡ b → ends_only_item x es ≡ false
not-here x es d h false e = e
not-here x es d h true e =
    let p = parts (starts is_list (unsourced x)) (is_only_item_body es) e in
    let list = started-by is_list x p.0 in
    let less = inner-fewer (x ∷ es) d 0 0 0 list.0 es h (ap (λ y. y ∷ es) list.1) (body-open es p.1) in
    absurd (omega (arith, less))

only-inner : (d : ℕ) (es : List SourcedEvent) → left_open d es ≡ Some 0 → some_only es ≡ false
only-inner d [] h = refl
only-inner d (Start t ∷ es) h = λ j. not-here (Start t) es d h (ends_only_item (Start t) es) refl j || only-inner (suc d) es h j
only-inner zero (End k ∷ es) h = absurd (never 0 h)
only-inner (suc d) (End k ∷ es) h = λ j. not-here (End k) es (suc d) h (ends_only_item (End k) es) refl j || only-inner d es h j
only-inner zero (Leaf l ∷ es) h = λ j. not-here (Leaf l) es zero h (ends_only_item (Leaf l) es) refl j || only-inner zero es h j
only-inner (suc d) (Leaf l ∷ es) h = λ j. not-here (Leaf l) es (suc d) h (ends_only_item (Leaf l) es) refl j || only-inner (suc d) es h j

-- nor outside of the innermost container
outside : (x : SourcedEvent) (es : List SourcedEvent) (p : ℕ) (t : TagView) (rest : List SourcedEvent) → drop p es ≡ Start t ∷ rest → left_open 0 rest ≡ Some 0 → (b : Bool) → ends_only_item x es ≡ b → ends_only_item x es ≡ false
outside x es p t rest s o false e = e
outside x es p t rest s o true e =
    let q = parts (starts is_list (unsourced x)) (is_only_item_body es) e in
    let less = inner-fewer es 0 p 0 0 t rest (body-open es q.1) s o in
    absurd (omega (arith, less))

only-at : (es : List SourcedEvent) (p : ℕ) (t : TagView) (rest : List SourcedEvent) → drop p es ≡ Start t ∷ rest → left_open 0 rest ≡ Some 0 → some_only es ≡ ends_only_item (Start t) rest
only-at [] zero t rest s o = absurd (empty-not (Start t) rest s)
only-at [] (suc p) t rest s o = absurd (empty-not (Start t) rest s)
only-at (x ∷ es) zero t rest s o = ap some_only s ∙ ap (λ b. ends_only_item (Start t) rest || b) (only-inner 0 rest o) ∙ or-false (ends_only_item (Start t) rest)
only-at (x ∷ es) (suc p) t rest s o = λ j. outside x es p t rest s o (ends_only_item x es) refl j || only-at es p t rest s o j

-- with an End that ends the container at this place
ambiguous-end : (es : List SourcedEvent) (k : TagEnd) (p : ℕ) (t : TagView) (rest : List SourcedEvent) → drop p es ≡ Start t ∷ rest → left_open 0 rest ≡ Some 0
    → has_ambiguous_list false (es ++ End k ∷ []) ≡ (has_ambiguous_list false es || (ends_in_first_item false es || ends_only_item (Start t) rest))
ambiguous-end es k p t rest s o =
    ambiguous-more false es (End k)
    ∙ ap (λ b. has_ambiguous_list false es || b) (now-parts false es k ∙ ap (λ b. ends_in_first_item false es || b) (only-at es p t rest s o))

-- one event more that ends no container
pub ambiguous-joined : (es : List SourcedEvent) (e : SourcedEvent) → EndsAt es e None → has_ambiguous_list false es ≡ has_ambiguous_list false (es ++ e ∷ [])
ambiguous-joined es (Start t) a = sym (ambiguous-same false es (Start t) refl)
ambiguous-joined es (End k) a = absurd a
ambiguous-joined es (Leaf l) a = sym (ambiguous-same false es (Leaf l) refl)

-- and one that ends the container at a place
pub ambiguous-ended : (es : List SourcedEvent) (e : SourcedEvent) (p : ℕ) (was now : Bool) → was ≡ has_ambiguous_list false es → now ≡ (ends_in_first_item false es || ends_only_item_from (drop p es)) → EndsAt es e (Some p)
    → (was || now) ≡ has_ambiguous_list false (es ++ e ∷ [])
ambiguous-ended es (Start t) p was now w n a = absurd a
ambiguous-ended es (Leaf l) p was now w n a = absurd a
ambiguous-ended es (End k) p was now w n a =
    (λ j. w j || n j)
    ∙ ap (λ (xs : List SourcedEvent). has_ambiguous_list false es || (ends_in_first_item false es || ends_only_item_from xs)) a.starts
    ∙ sym (ambiguous-end es k p a.tag a.rest a.starts a.within)

-- ---- what is found at places

-- the last three events
first-last : (inline : Bool) (x a b : SourcedEvent) (es : List SourcedEvent) → ends_in_first_item inline (x ∷ a ∷ b ∷ es) ≡ begins_first_item (drop (length es) (x ∷ a ∷ b ∷ es))
first-last inline x a b [] = refl
first-last inline x a b (c ∷ es) = first-last (is_inline_end_or_leaf (unsourced x)) a b c es

pub first-item-last : (es : List SourcedEvent) → ends_in_first_item false es ≡ begins_first_item (drop (length es - 3) es)
first-item-last [] = refl
first-item-last (x ∷ []) = refl
first-item-last (x ∷ a ∷ []) = and-false (starts is_list (unsourced x) && starts is_item (unsourced a))
first-item-last (x ∷ a ∷ b ∷ es) =
    let n : length es ≡ length (x ∷ a ∷ b ∷ es) - 3 = omega arith in
    first-last false x a b es ∙ ap (λ n. begins_first_item (drop n (x ∷ a ∷ b ∷ es))) n

-- where a body has ended an End is
body-ends : (d : ℕ) (es : List SourcedEvent) (x : SourcedEvent) (zs : List SourcedEvent) → drop (span d es) es ≡ x ∷ zs → is_end x ≡ true
body-ends d [] x zs h = absurd (empty-not x zs h)
body-ends d (Start t ∷ es) x zs h = body-ends (suc d) es x zs h
body-ends zero (End k ∷ es) x zs h = ap begins_end (sym h)
body-ends (suc d) (End k ∷ es) x zs h = body-ends d es x zs h
body-ends zero (Leaf l ∷ es) x zs h = body-ends zero es x zs h
body-ends (suc d) (Leaf l ∷ es) x zs h = body-ends (suc d) es x zs h

-- the last event
last-of-two : (n : ℕ) (es : List SourcedEvent) (x y : SourcedEvent) → drop n es ≡ x ∷ y ∷ [] → begins_end (reverse es) ≡ is_end y
last-of-two n es x y h =
    ap (λ (zs : List SourcedEvent). begins_end (reverse zs)) (sym (take-append-drop n es) ∙ ap (λ zs. take n es ++ zs) h)
    ∙ ap begins_end (reverse-append (take n es) (x ∷ y ∷ []))

-- the events after the Start of a Paragraph, which are from a place on
module _ (all : List SourcedEvent) (base : ℕ) (es : List SourcedEvent) (at : drop base all ≡ es) (le : base ≤ length all) where
  abbrev found : Bool
  found = is_last_but_one (end_from 0 base es) (length all)

  none-found : length (from_end es) ≡ 0 → found ≡ false
  none-found h =
      let outside : nat_lt (span 0 es) (length es) ≡ false = grind (arith, nat_tests, h, length-drop (span 0 es) es) in
      λ j. is_last_but_one (if outside j then Some (base + span 0 es) else None) (length all)

  some-found : (m : ℕ) → length (from_end es) ≡ suc m → found ≡ (suc m == 2)
  some-found m h =
      let lt : span 0 es < length es = omega (arith, h, length-drop (span 0 es) es) in
      let inside : nat_lt (span 0 es) (length es) ≡ true = grind (arith, nat_tests, lt) in
      let count : length all ≡ base + length es = omega (arith, le, length-drop base all, ap length at) in
      let before : nat_lt (base + span 0 es) (length all) ≡ true = grind (arith, nat_tests, lt, count) in
      let left : length all - (base + span 0 es) ≡ suc m = omega (arith, lt, count, h, length-drop (span 0 es) es) in
      (λ j. is_last_but_one (if inside j then Some (base + span 0 es) else None) (length all)) ∙ (λ j. before j && (left j == 2))

  two-ends-found : are_two_ends (from_end es) ≡ (found && begins_end (reverse all))
  two-ends-found = by (from_end es) refl
    where
      by : (zs : List SourcedEvent) → from_end es ≡ zs → are_two_ends zs ≡ (found && begins_end (reverse all))
      by [] h = sym (ap (λ b. b && begins_end (reverse all)) (none-found (ap length h)))
      by (x ∷ []) h = sym (ap (λ b. b && begins_end (reverse all)) (some-found 0 (ap length h)))
      by (x ∷ y ∷ []) h =
          let two : found ≡ true = some-found 1 (ap length h) in
          let last : begins_end (reverse all) ≡ is_end y = last-of-two (base + span 0 es) all x y (sym (drop-drop (span 0 es) base all) ∙ ap (drop (span 0 es)) at ∙ h) in
          ap (λ b. b && is_end y) (body-ends 0 es x (y ∷ []) h) ∙ sym (λ j. two j && last j)
      by (x ∷ y ∷ z ∷ zs) h =
          let many : (suc (suc (suc (length zs))) == 2) ≡ false = grind (arith, nat_tests) in
          sym (ap (λ b. b && begins_end (reverse all)) (some-found (suc (suc (length zs))) (ap length h) ∙ many))

no-body : (l i p w : Bool) → (l && i && p) ≡ false → false ≡ (l && (i && p && w))
no-body true true true w h = absurd (true≢false h)
no-body true true false w h = refl
no-body true false p w h = refl
no-body false i p w h = refl

whole-body : (l i p w : Bool) → (l && i && p) ≡ true → w ≡ (l && (i && p && w))
whole-body true true true w h = refl
whole-body true true false w h = absurd (false≢true h)
whole-body true false p w h = absurd (false≢true h)
whole-body false i p w h = absurd (false≢true h)

no-start : (x : SourcedEvent) (rest : List SourcedEvent) → begins_list (x ∷ rest) ≡ false → false ≡ ends_only_item x rest
no-start x [] h = sym (and-false (starts is_list (unsourced x)))
no-start x (a ∷ []) h = sym (and-false (starts is_list (unsourced x)))
no-start x (a ∷ b ∷ es) h = no-body (starts is_list (unsourced x)) (starts is_item (unsourced a)) (starts is_paragraph (unsourced b)) (are_two_ends (from_end es)) h

only-not-found : (xs : List SourcedEvent) → begins_list xs ≡ false → false ≡ ends_only_item_from xs
only-not-found [] h = refl
only-not-found (x ∷ rest) h = no-start x rest h

module _ (all : List SourcedEvent) (start : ℕ) where
  abbrev last_two : Bool
  last_two = is_last_but_one (end_at (start + 2) (drop (start + 2) all)) (length all) && begins_end (reverse all)

  only-found : (xs : List SourcedEvent) → drop start all ≡ xs → begins_list xs ≡ true → last_two ≡ ends_only_item_from xs
  only-found [] s h = absurd (false≢true h)
  only-found (x ∷ []) s h = absurd (false≢true h)
  only-found (x ∷ a ∷ []) s h = absurd (false≢true h)
  only-found (x ∷ a ∷ b ∷ es) s h =
      let paragraph = started-by is_paragraph b (parts (starts is_list (unsourced x) && starts is_item (unsourced a)) (starts is_paragraph (unsourced b)) h).1 in
      let two : suc (start + 1) ≡ start + 2 = omega arith in
      let three : suc (start + 2) ≡ start + 2 + 1 = omega arith in
      let second : drop (start + 2) all ≡ Start paragraph.0 ∷ es = ap (λ n. drop n all) (sym two) ∙ sym (drop-behind all start 1 x (a ∷ b ∷ es) s) ∙ ap (λ y. y ∷ es) paragraph.1 in
      let behind : drop (start + 2 + 1) all ≡ es = ap (λ n. drop n all) (sym three) ∙ sym (drop-behind all start 2 x (a ∷ b ∷ es) s) in
      let inside : start + 2 + 1 ≤ length all = omega (arith, length-drop start all, ap length s) in
      ap (λ (zs : List SourcedEvent). is_last_but_one (end_at (start + 2) zs) (length all) && begins_end (reverse all)) second
      ∙ sym (two-ends-found all (start + 2 + 1) es behind inside)
      ∙ whole-body (starts is_list (unsourced x)) (starts is_item (unsourced a)) (starts is_paragraph (unsourced b)) (are_two_ends (from_end es)) h

-- ---- the same of the events that wait

module _ (es from : List BufferedEvent) (start : ℕ) (begins : Bool) (f : from ≡ drop start es) (b : begins ≡ begins_list (map buffered_view from)) where
  abbrev events : List SourcedEvent
  events = map buffered_view es

  begins-at : begins ≡ begins_list (drop start events)
  begins-at = b ∙ ap (λ (xs : List BufferedEvent). begins_list (map buffered_view xs)) f ∙ ap begins_list (events-drop es start)

  pub other-begins : begins ≡ false → false ≡ ends_only_item_from (drop start events)
  other-begins h = only-not-found (drop start events) (sym begins-at ∙ h)

  module _ (end : Option ℕ) (last two : Bool) (e : end ≡ end_at (start + 2) (drop (start + 2) events)) (n : last ≡ is_last_but_one end (length es)) (h : begins ≡ true) where
    is-found : (last && begins_end (reverse events)) ≡ ends_only_item_from (drop start events)
    is-found =
        (λ j. (n ∙ ap (is_last_but_one end) (sym (length-map es buffered_view)) ∙ ap (λ (o : Option ℕ). is_last_but_one o (length events)) e) j && begins_end (reverse events))
        ∙ only-found events start (drop start events) refl (sym begins-at ∙ h)

    pub last-ends : two ≡ begins_end (reverse events) → last ≡ true → two ≡ ends_only_item_from (drop start events)
    last-ends t l = t ∙ ap (λ x. x && begins_end (reverse events)) (sym l) ∙ is-found

    pub last-stays : last ≡ false → last ≡ ends_only_item_from (drop start events)
    last-stays l = l ∙ ap (λ x. x && begins_end (reverse events)) (sym l) ∙ is-found

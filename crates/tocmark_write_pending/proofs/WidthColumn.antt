-- One event more: how many markers the container opens with that it ends.
use Rattle.std.proofs.Common.{◌≡◌, ℕ, zero, suc, ◌+◌, ◌-◌, ◌<◌, ◌≤◌, Bool, true, false, Option, Some, None, List, [], ◌∷◌, ◌++◌, refl, sym, ap, ◌∙◌, subst, length, drop, if◌then◌else◌, arith, ⊎_elim, length-set}
use Rattle.std.proofs.Math.ListN.{set}
use Rattle.std.specs.Prelude.{is_none, nat_lt, slice_index_or, ◌==◌, ◌&&◌}
use Rattle.std.proofs.lemmas.Bool.{cases_lt, true≢false}
use Rattle.std.proofs.lemmas.Bool.Decides.{nat_tests}
use Rattle.std.proofs.lemmas.List.{drop-drop, get_or_past, length-drop}
use Rattle.tocmark_event.specs.View.{SourcedEvent, TagView, Emphasis, Strong, Start, End, Leaf}
use Rattle.tocmark_event.specs.declared.event.TagEnd.{TagEnd}
use Rattle.tocmark_spelling.specs.Kinds.{is_emphasis_or_strong}
use Rattle.tocmark_spelling.specs.Runs.{start_width, tag_width}
use Rattle.tocmark_spelling.specs.Scans.{end_at, span}
use Rattle.tocmark_write_pending.specs.Ahead.{behind_body, ends_here, first_width, width_ahead_of, width_in}
use Rattle.tocmark_write_pending.specs.OpenContainers.{EndsAt, IsOpenAt, left_open}
use Rattle.tocmark_write_pending.specs.RunColumn.{begins_in_run, in_run}
use Rattle.tocmark_write_pending.specs.WidthColumn.{AreWidths, added_by, first_added, is_last, is_none_left, width_at, width_by, width_ended, width_now}
use Rattle.tocmark_write_pending.proofs.Columns.{IsFound, IsOfEnded, found-end, found-leaf, found-start, got-other, got-same, rest-length}
use Rattle.tocmark_write_pending.proofs.OpenContainers.{drop-behind, drop-more, ended, never, open-more, open_after, shifted, some-same}

-- ---- what the first event of a body adds

-- the events after a body that has ended
pub body-kept : (d : ℕ) (es ys : List SourcedEvent) → left_open d es ≡ None → drop (suc (span d (es ++ ys))) (es ++ ys) ≡ drop (suc (span d es)) es ++ ys
body-kept d [] ys h = absurd (never d (sym h))
body-kept d (Start t ∷ es) ys h = body-kept (suc d) es ys h
body-kept zero (End k ∷ es) ys h = refl
body-kept (suc d) (End k ∷ es) ys h = body-kept d es ys h
body-kept zero (Leaf l ∷ es) ys h = body-kept zero es ys h
body-kept (suc d) (Leaf l ∷ es) ys h = body-kept (suc d) es ys h

-- what is open outside it is open after it
pub open-behind : (d a b : ℕ) (es : List SourcedEvent) → b ≡ d + suc a → left_open d es ≡ None → left_open b es ≡ left_open a (drop (suc (span d es)) es)
open-behind d a b [] e h = absurd (never d (sym h))
open-behind d a b (Start t ∷ es) e h = open-behind (suc d) a (suc b) es (omega (arith, e)) h
open-behind zero a zero (End k ∷ es) e h = absurd (omega (arith, e))
open-behind zero a (suc b) (End k ∷ es) e h = let same : b ≡ a = omega (arith, e) in ap (λ n. left_open n es) same
open-behind (suc d) a zero (End k ∷ es) e h = absurd (omega (arith, e))
open-behind (suc d) a (suc b) (End k ∷ es) e h = open-behind d a b es (omega (arith, e)) h
open-behind zero a zero (Leaf l ∷ es) e h = absurd (omega (arith, e))
open-behind zero a (suc b) (Leaf l ∷ es) e h = open-behind zero a (suc b) es e h
open-behind (suc d) a zero (Leaf l ∷ es) e h = absurd (omega (arith, e))
open-behind (suc d) a (suc b) (Leaf l ∷ es) e h = open-behind (suc d) a (suc b) es e h

-- a container that is ended with all those outside it has ended itself
inner-ended : (es : List SourcedEvent) → left_open 1 es ≡ None → left_open 0 es ≡ None
inner-ended es h = by (left_open 0 es) refl
  where
    by : (o : Option ℕ) → left_open 0 es ≡ o → left_open 0 es ≡ None
    by None e = e
    by (Some k) e = absurd (never (k + 1) (sym h ∙ shifted es 0 1 1 k (k + 1) (omega arith) refl e))

inner-ended-at : (es : List SourcedEvent) → left_open 1 es ≡ Some 0 → left_open 0 es ≡ None
inner-ended-at es h = by (left_open 0 es) refl
  where
    by : (o : Option ℕ) → left_open 0 es ≡ o → left_open 0 es ≡ None
    by None e = e
    by (Some k) e = let same : k + 1 ≡ 0 = some-same (k + 1) 0 (sym (shifted es 0 1 1 k (k + 1) (omega arith) refl e) ∙ h) in absurd (omega (arith, same))

ends-more : (es ys : List SourcedEvent) → left_open 0 es ≡ None → ends_here (es ++ ys) ≡ ends_here es
ends-more [] ys h = absurd (never 0 (sym h))
ends-more (Start t ∷ es) ys h = refl
ends-more (End k ∷ es) ys h = refl
ends-more (Leaf l ∷ es) ys h = refl

-- where its container has ended, the width doesn't change
pub width-kept : (rest ys : List SourcedEvent) → left_open 0 rest ≡ None → width_in (rest ++ ys) ≡ width_in rest
width-kept [] ys h = absurd (never 0 (sym h))
width-kept (End k ∷ es) ys h = refl
width-kept (Leaf l ∷ es) ys h = refl
width-kept (Start t ∷ es) ys h =
    let inner : left_open 0 es ≡ None = inner-ended es h in
    let outer : left_open 0 (behind_body es) ≡ None = sym (open-behind 0 0 1 es (omega arith) inner) ∙ h in
    let here : ends_here (behind_body (es ++ ys)) ≡ ends_here (behind_body es) = ap ends_here (body-kept 0 es ys inner) ∙ ends-more (behind_body es) ys outer in
    (λ j. first_width t (here j) (tag_width t + (if is_emphasis_or_strong t then width_in (es ++ ys) else 0)))
    ∙ ap (λ n. first_width t (ends_here (behind_body es)) (tag_width t + (if is_emphasis_or_strong t then n else 0))) (width-kept es ys inner)

no-end : (es : List SourcedEvent) (k : TagEnd) → left_open 0 es ≡ Some 0 → ends_here (es ++ End k ∷ []) ≡ is_none_left es
no-end [] k h = refl
no-end (Start t ∷ es) k h = refl
no-end (End x ∷ es) k h = absurd (never 0 h)
no-end (Leaf l ∷ es) k h = refl

other-tag : (t : TagView) (only b : Bool) (n : ℕ) → first_width t b (tag_width t + (if is_emphasis_or_strong t then n else 0)) ≡ added_by (Start t) b (tag_width t + n)
other-tag Emphasis only true n = refl
other-tag Emphasis only false n = refl
other-tag Strong only true n = refl
other-tag Strong only false n = refl
other-tag t only true n = refl
other-tag t only false n = refl

pub body-now : (rest : List SourcedEvent) (k : TagEnd) → left_open 0 rest ≡ Some 0 → width_in (rest ++ End k ∷ []) ≡ first_added rest
body-now [] k h = refl
body-now (End x ∷ es) k h = absurd (never 0 h)
body-now (Leaf l ∷ es) k h = refl
body-now (Start t ∷ es) k h =
    let inner : left_open 0 es ≡ None = inner-ended-at es h in
    let outer : left_open 0 (behind_body es) ≡ Some 0 = sym (open-behind 0 0 1 es (omega arith) inner) ∙ h in
    let here : ends_here (behind_body (es ++ End k ∷ [])) ≡ is_none_left (behind_body es) = ap ends_here (body-kept 0 es (End k ∷ []) inner) ∙ no-end (behind_body es) k outer in
    let is : width_at (Start t ∷ es) ≡ tag_width t + width_in es = λ j. if is_none (inner j) then width_ahead_of t es else 0 in
    (λ j. first_width t (here j) (tag_width t + (if is_emphasis_or_strong t then width_in (es ++ End k ∷ []) else 0)))
    ∙ ap (λ n. first_width t (is_none_left (behind_body es)) (tag_width t + (if is_emphasis_or_strong t then n else 0))) (width-kept es (End k ∷ []) inner)
    ∙ other-tag t true (is_none_left (behind_body es)) (width_in es)
    ∙ ap (added_by (Start t) (is_none_left (behind_body es))) (sym is)

-- ---- the column

width-column : (i : ℕ) → width_at [] ≡ 0
width-column i = refl

abbrev widths_value : ℕ → List SourcedEvent → ℕ
widths_value i es = width_at es

widths-of : IsOfEnded widths_value 0
widths-of = record {
  kept = λ i t rest x h. (λ j. if is_none ((ended 0 rest (x ∷ []) h).still j) then tag_width t + width-kept rest (x ∷ []) h j else 0) ∙ (λ j. if is_none (sym h j) then width_ahead_of t rest else 0);
  opened = λ i t rest k h. λ j. if is_none (h j) then width_ahead_of t rest else 0;
  at_end = λ i k rest. refl;
  at_leaf = λ i l rest. refl;
}

-- ---- after the last delimiter

-- no width is added where no delimiter begins
none-added : (x : SourcedEvent) (es : List SourcedEvent) → in_run x ≡ false → added_by x (is_none_left (behind_body es)) (width_at (x ∷ es)) ≡ 0
none-added (Start Emphasis) es h = absurd (true≢false h)
none-added (Start Strong) es h = absurd (true≢false h)
none-added (Start t) es h = refl
none-added (End k) es h = refl
none-added (Leaf l) es h = refl

none-first : (es : List SourcedEvent) → begins_in_run es ≡ false → first_added es ≡ 0
none-first [] h = refl
none-first (x ∷ es) h = none-added x es h

none-started : (x : SourcedEvent) → in_run x ≡ false → start_width x ≡ 0
none-started (Start Emphasis) h = absurd (true≢false h)
none-started (Start Strong) h = absurd (true≢false h)
none-started (Start t) h = refl
none-started (End k) h = refl
none-started (Leaf l) h = refl

none-now : (es : List SourcedEvent) → begins_in_run es ≡ false → begins_in_run (drop 1 es) ≡ false → width_now es ≡ 0
none-now [] h k = refl
none-now (x ∷ rest) h k = omega (arith, none-started x h, none-first rest k)

-- where no delimiter is at a place, nor after it, no container opens with one
pub no-width : (es : List SourcedEvent) (p : ℕ) → begins_in_run (drop p es) ≡ false → begins_in_run (drop (p + 1) es) ≡ false → width_now (drop p es) ≡ 0
no-width es p h k = none-now (drop p es) h (ap begins_in_run (drop-drop 1 p es) ∙ k)

-- ---- one event more

widths-found : (es : List SourcedEvent) (widths mid : List ℕ) → AreWidths es widths → ((i : ℕ) → slice_index_or mid i 0 ≡ slice_index_or widths i 0) → IsFound widths_value 0 width-column es (λ i. slice_index_or mid i 0)
widths-found es widths mid held same i = same i ∙ held.at i

-- one event more, of whatever kind
module _ (es : List SourcedEvent) (widths mid : List ℕ) (held : AreWidths es widths) (same : (i : ℕ) → slice_index_or mid i 0 ≡ slice_index_or widths i 0) (beyond : (i : ℕ) → length mid ≤ i → begins_in_run (drop i es) ≡ false) where
  widths-set : (k : TagEnd) (p : ℕ) (a : IsOpenAt es p 0) → AreWidths (es ++ End k ∷ []) (set mid p (width_now (drop p es)))
  widths-set k p a = record {
    at = found-end widths_value 0 width-column widths-of es (λ i. slice_index_or mid i 0) (widths-found es widths mid held same) k p (width_now (drop p es)) (λ i. slice_index_or (set mid p (width_now (drop p es))) i 0) a
        (ap width_at (drop-more es p (Start a.tag) a.rest (End k ∷ []) a.starts)
        ∙ (λ j. if is_none (shut j) then width_ahead_of a.tag (a.rest ++ End k ∷ []) else 0)
        ∙ ap (λ n. tag_width a.tag + n) (body-now a.rest k a.within)
        ∙ ap width_now (sym a.starts))
        (λ i ne. got-other mid 0 (width_now (drop p es)) p i ne)
        (⊎_elim
        (λ (lt : p < length mid). got-same mid 0 (width_now (drop p es)) p lt)
        (λ (le : length mid ≤ p).
        get_or_past (set mid p (width_now (drop p es))) p 0 (omega (arith, length-set {A = ℕ}, le))
        ∙ sym (no-width es p (beyond p le) (beyond (p + 1) (omega (arith, le)))))
        (cases_lt p (length mid)));
  }
    where
      shut : left_open 0 (a.rest ++ End k ∷ []) ≡ None
      shut = open-more 0 a.rest (End k) ∙ ap (open_after (End k)) a.within

  pub widths-more : (e : SourcedEvent) (o : Option ℕ) (new : List ℕ) (w : ℕ) → EndsAt es e o → w ≡ width_ended es o → (o ≡ None → new ≡ mid) → ((p : ℕ) → o ≡ Some p → new ≡ set mid p w) → AreWidths (es ++ e ∷ []) new
  widths-more (Start t) (Some p) new w a is none some = absurd a
  widths-more (Start t) None new w a is none some =
      subst (AreWidths (es ++ Start t ∷ [])) (sym (none refl)) (record { at = found-start widths_value 0 width-column widths-of es (λ i. slice_index_or mid i 0) (widths-found es widths mid held same) t refl })
  widths-more (Leaf l) (Some p) new w a is none some = absurd a
  widths-more (Leaf l) None new w a is none some =
      subst (AreWidths (es ++ Leaf l ∷ [])) (sym (none refl)) (record { at = found-leaf widths_value 0 width-column widths-of es (λ i. slice_index_or mid i 0) (widths-found es widths mid held same) l })
  widths-more (End k) None new w a is none some = absurd a
  widths-more (End k) (Some p) new w a is none some =
      subst (AreWidths (es ++ End k ∷ [])) (sym (some p refl ∙ ap (λ n. set mid p n) is)) (widths-set k p a)

-- ---- the container that ends now, as it is found

none-left : (es : List SourcedEvent) → is_none_left es ≡ (length es == 0)
none-left [] = refl
none-left (e ∷ es) = sym (not-zero (length es))
  where
    not-zero : (n : ℕ) → (suc n == 0) ≡ false
    not-zero n = grind (arith, nat_tests)

one-more : (m : ℕ) → (suc m == 1) ≡ (m == 0)
one-more zero = refl
one-more (suc m) =
    let a : (suc (suc m) == 1) ≡ false = grind (arith, nat_tests) in
    let b : (suc m == 0) ≡ false = grind (arith, nat_tests) in
    a ∙ sym b

-- a first child is the only one if it ended with the last event
only-child : (p : ℕ) (u : TagView) (kids : List SourcedEvent) (n : ℕ) → left_open 0 (Start u ∷ kids) ≡ Some 0 → n ≡ p + 2 + length kids
    → is_last (end_at (p + 1) (Start u ∷ kids)) n ≡ is_none_left (behind_body kids)
only-child p u kids n within count =
    let inside = (ended 0 kids [] (inner-ended-at kids within)).inside in
    let found : end_at (p + 1) (Start u ∷ kids) ≡ Some (p + 1 + 1 + span 0 kids) =
    let yes : nat_lt (span 0 kids) (length kids) ≡ true = grind (arith, nat_tests, inside) in
    λ j. if yes j then Some (p + 1 + 1 + span 0 kids) else None in
    let less : nat_lt (p + 1 + 1 + span 0 kids) n ≡ true = grind (arith, nat_tests, inside, count) in
    let left : n - (p + 1 + 1 + span 0 kids) ≡ suc (length (behind_body kids)) = omega (arith, inside, count, length-drop (suc (span 0 kids)) kids) in
    ap (λ o. is_last o n) found
    ∙ (λ j. less j && (left j == 1))
    ∙ one-more (length (behind_body kids))
    ∙ sym (none-left (behind_body kids))

-- that is asked of emphasis alone
asked : (y : SourcedEvent) (a b : Bool) (width : ℕ) → ((u : TagView) → y ≡ Start u → a ≡ b) → added_by y a width ≡ added_by y b width
asked (Start u) a b width h = ap (λ only. added_by (Start u) only width) (h u refl)
asked (End k) a b width h = refl
asked (Leaf l) a b width h = refl

by-first : (p n : ℕ) (t : TagView) (rest : List SourcedEvent) → left_open 0 rest ≡ Some 0 → n ≡ p + 1 + length rest
    → width_by (Start t ∷ rest) (is_last (end_at (p + 1) rest) n) (width_at rest) ≡ width_now (Start t ∷ rest)
by-first p n t [] within count = omega arith
by-first p n t (y ∷ kids) within count =
    ap (λ w. tag_width t + w)
    (asked y (is_last (end_at (p + 1) (y ∷ kids)) n) (is_none_left (behind_body kids)) (width_at (y ∷ kids))
    (λ u start.
    let here : left_open 0 (Start u ∷ kids) ≡ Some 0 = ap (λ (e : SourcedEvent). left_open 0 (e ∷ kids)) (sym start) ∙ within in
    ap (λ (e : SourcedEvent). is_last (end_at (p + 1) (e ∷ kids)) n) start
    ∙ only-child p u kids n here (omega (arith, count))))

-- the width that is found by the first child's end and width
pub ended-by-first : (es : List SourcedEvent) (p : ℕ) → IsOpenAt es p 0
    → width_by (drop p es) (is_last (end_at (p + 1) (drop (p + 1) es)) (length es)) (width_at (drop (p + 1) es)) ≡ width_now (drop p es)
ended-by-first es p a =
    let next : drop (p + 1) es ≡ a.rest =
    (let q : suc (p + 0) ≡ p + 1 = omega arith in ap (λ n. drop n es) (sym q)) ∙ sym (drop-behind es p 0 (Start a.tag) a.rest a.starts) in
    ap (λ (xs : List SourcedEvent). width_by (drop p es) (is_last (end_at (p + 1) xs) (length es)) (width_at xs)) next
    ∙ ap (λ (xs : List SourcedEvent). width_by xs (is_last (end_at (p + 1) a.rest) (length es)) (width_at a.rest)) a.starts
    ∙ by-first p (length es) a.tag a.rest a.within (sym (rest-length es p 0 a))
    ∙ ap width_now (sym a.starts)

-- the place that an event ends is an open container's
pub open-at : (es : List SourcedEvent) (e : SourcedEvent) (p : ℕ) → EndsAt es e (Some p) → IsOpenAt es p 0
open-at es (Start t) p a = absurd a
open-at es (End k) p a = a
open-at es (Leaf l) p a = absurd a

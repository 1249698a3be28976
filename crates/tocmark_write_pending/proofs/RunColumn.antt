-- One event more changes the last run alone.
use Rattle.std.proofs.Common.{◌≡◌, ℕ, suc, ◌+◌, ◌≤◌, Bool, true, false, Option, Some, None, List, [], ◌∷◌, ◌++◌, refl, sym, ap, ◌∙◌, subst, length, if◌then◌else◌, arith, unwrap_or, eq-eqb, ⊎_elim}
use Rattle.std.specs.Prelude.{◌==◌, ◌&&◌, ◌||◌, not}
use Rattle.std.proofs.lemmas.Bool.{false≢true, true≢false, or_cases, or_parts}
use Rattle.std.proofs.lemmas.Bool.Decides.{nat_tests}
use Rattle.tocmark_event.specs.View.{SourcedEvent, EventView, Start, End, Leaf, unsourced}
use Rattle.tocmark_spelling.specs.Edges.{edge_before, edge_after}
use Rattle.tocmark_spelling.specs.Page.{front}
use Rattle.tocmark_spelling.specs.Runs.{Run, behind_run, marker_only, run_at, run_before, literal_before, text_only, width_ahead}
use Rattle.tocmark_write_pending.specs.RunColumn.{Counted, Starts, Ends, width_of, AreRuns, HoldRuns, IsRunAt, begun_by, bordered, ends_counted, ends_run, goes_on, in_run, is_counted, own_width, run_numbered, runs_begun, wider}

-- ---- tests

pub pick-true : {A : Type 0} (b : Bool) (x y : A) → b ≡ true → (if b then x else y) ≡ x
pick-true true x y h = refl
pick-true false x y h = absurd (false≢true h)

pub pick-false : {A : Type 0} (b : Bool) (x y : A) → b ≡ false → (if b then x else y) ≡ y
pick-false true x y h = absurd (true≢false h)
pick-false false x y h = refl

pick-not : {A : Type 0} (b : Bool) (x y : A) → not b ≡ true → (if b then x else y) ≡ y
pick-not true x y h = absurd (false≢true h)
pick-not false x y h = refl

pick-yes : {A : Type 0} (b : Bool) (x y : A) → not b ≡ false → (if b then x else y) ≡ x
pick-yes true x y h = refl
pick-yes false x y h = absurd (true≢false h)

some-same : {A : Type 0} (a b : A) → Some a ≡ Some b → a ≡ b
some-same a b e = ap (λ o. unwrap_or o a) e

filled : (e : SourcedEvent) (es : List SourcedEvent) → e ∷ es ≡ [] → ⊥
filled e es h = cc

-- ---- no event is of both kinds

not-both : (e : SourcedEvent) → is_counted Starts e ≡ true → is_counted Ends e ≡ false
not-both (Start t) h = refl
not-both (End k) h = absurd (false≢true h)
not-both (Leaf l) h = refl

not-starts : (e : SourcedEvent) → is_counted Ends e ≡ true → is_counted Starts e ≡ false
not-starts (Start t) h = absurd (false≢true h)
not-starts (End k) h = refl
not-starts (Leaf l) h = refl

only : (c d : Counted) (e : SourcedEvent) → is_counted c e ≡ true → is_counted d e ≡ true → c ≡ d
only Starts Starts e h k = refl
only Starts Ends e h k = absurd (false≢true (sym (not-both e h) ∙ k))
only Ends Starts e h k = absurd (false≢true (sym (not-both e k) ∙ h))
only Ends Ends e h k = refl

either-in : (a b : Bool) → a ≡ true → (a || b) ≡ true
either-in a b h = ap (λ x. x || b) h

or-true : (a : Bool) → (a || true) ≡ true
or-true true = refl
or-true false = refl

pub in-of : (c : Counted) (e : SourcedEvent) → is_counted c e ≡ true → in_run e ≡ true
in-of Starts e h = ap (λ x. x || is_counted Ends e) h
in-of Ends e h = ap (λ x. is_counted Starts e || x) h ∙ or-true (is_counted Starts e)

both : (a b : Bool) → a ≡ true → b ≡ true → (a && b) ≡ true
both a b h k = λ j. h j && k j

-- an event of the kind that the run has goes on with it
on-of : (c : Counted) (e : SourcedEvent) (back : List SourcedEvent) → ends_counted c back ≡ true → is_counted c e ≡ true → goes_on e back ≡ true
on-of Starts e back h k = λ j. (h j && k j) || (ends_counted Ends back && is_counted Ends e)
on-of Ends e back h k = (λ j. (ends_counted Starts back && is_counted Starts e) || (h j && k j)) ∙ or-true (ends_counted Starts back && is_counted Starts e)

and-false : (a : Bool) → (a && false) ≡ false
and-false true = refl
and-false false = refl

-- one of another kind doesn't
off-of : (c : Counted) (e : SourcedEvent) (back : List SourcedEvent) → ends_counted c back ≡ false → is_counted c e ≡ true → goes_on e back ≡ false
off-of Starts e back h k =
    (λ j. (h j && is_counted Starts e) || (ends_counted Ends back && not-both e k j)) ∙ and-false (ends_counted Ends back)
off-of Ends e back h k =
    (λ j. (ends_counted Starts back && not-starts e k j) || (h j && is_counted Ends e)) ∙ ap (λ x. x || false) (and-false (ends_counted Starts back))

-- ---- runs that begin

begun-on : (e : SourcedEvent) (back : List SourcedEvent) → goes_on e back ≡ true → runs_begun (e ∷ back) ≡ runs_begun back
begun-on e back h = pick-false (in_run e && not (goes_on e back)) (suc (runs_begun back)) (runs_begun back) (ap (λ x. in_run e && not x) h ∙ and-false (in_run e))

begun-new : (e : SourcedEvent) (back : List SourcedEvent) → in_run e ≡ true → goes_on e back ≡ false → runs_begun (e ∷ back) ≡ suc (runs_begun back)
begun-new e back h k = pick-true (in_run e && not (goes_on e back)) (suc (runs_begun back)) (runs_begun back) (λ j. h j && not (k j))

begun-out : (e : SourcedEvent) (back : List SourcedEvent) → in_run e ≡ false → runs_begun (e ∷ back) ≡ runs_begun back
begun-out e back h = pick-false (in_run e && not (goes_on e back)) (suc (runs_begun back)) (runs_begun back) (ap (λ x. x && not (goes_on e back)) h)

begun-least : (e : SourcedEvent) (back : List SourcedEvent) → runs_begun back ≤ runs_begun (e ∷ back)
begun-least e back = by (in_run e && not (goes_on e back))
  where
    by : (b : Bool) → runs_begun back ≤ (if b then suc (runs_begun back) else runs_begun back)
    by true = omega arith
    by false = omega arith

-- ---- runs by their numbers

pub last-numbered : (n : ℕ) (r : Run) (rs : List Run) → n ≡ suc (length rs) → run_numbered n (r ∷ rs) ≡ Some r
last-numbered n r rs e = pick-true (n == suc (length rs)) (Some r) (run_numbered n rs) (eq-eqb n (suc (length rs)) e)

pub inner-numbered : (n : ℕ) (r : Run) (rs : List Run) → n ≤ length rs → run_numbered n (r ∷ rs) ≡ run_numbered n rs
inner-numbered n r rs le = pick-false (n == suc (length rs)) (Some r) (run_numbered n rs) (grind (arith, nat_tests))

-- ---- the events after a run, with one more at the end

module _ (c : Counted) where
  abbrev w : SourcedEvent → ℕ
  w = width_of c

  pub behind-cons : (e : SourcedEvent) (es : List SourcedEvent) → is_counted c e ≡ true → behind_run w (e ∷ es) ≡ behind_run w es
  behind-cons e es h = pick-not (w e == 0) (e ∷ es) (behind_run w es) h

  pub behind-other : (e : SourcedEvent) (es : List SourcedEvent) → is_counted c e ≡ false → behind_run w (e ∷ es) ≡ e ∷ es
  behind-other e es h = pick-yes (w e == 0) (e ∷ es) (behind_run w es) h

  width-cons : (e : SourcedEvent) (es : List SourcedEvent) → is_counted c e ≡ true → width_ahead w (e ∷ es) ≡ w e + width_ahead w es
  width-cons e es h = pick-not (w e == 0) 0 (w e + width_ahead w es) h

  width-other : (e : SourcedEvent) (es : List SourcedEvent) → is_counted c e ≡ false → width_ahead w (e ∷ es) ≡ 0
  width-other e es h = pick-yes (w e == 0) 0 (w e + width_ahead w es) h

  -- all of them are of the run
  record IsAllRun (es ys : List SourcedEvent) : Type 0 where
    behind : behind_run w (es ++ ys) ≡ behind_run w ys
    width : width_ahead w (es ++ ys) ≡ width_ahead w es + width_ahead w ys

  all-run : (es ys : List SourcedEvent) → behind_run w es ≡ [] → IsAllRun es ys
  all-run [] ys h = record { behind = refl; width = omega arith }
  all-run (e ∷ es) ys h = by (λ k. all-run es ys k) (is_counted c e) refl
    where
      by : (behind_run w es ≡ [] → IsAllRun es ys) → (b : Bool) → is_counted c e ≡ b → IsAllRun (e ∷ es) ys
      by again true k =
          let rest = again (sym (behind-cons e es k) ∙ h) in
          record {
            behind = behind-cons e (es ++ ys) k ∙ rest.behind;
            width = omega (arith, width-cons e (es ++ ys) k, width-cons e es k, rest.width);
          }
      by again false k = absurd (filled e es (sym (behind-other e es k) ∙ h))

  -- the run ends among them
  record IsPartRun (es ys : List SourcedEvent) (x : SourcedEvent) (xs : List SourcedEvent) : Type 0 where
    behind : behind_run w (es ++ ys) ≡ x ∷ (xs ++ ys)
    width : width_ahead w (es ++ ys) ≡ width_ahead w es

  part-run : (es ys : List SourcedEvent) (x : SourcedEvent) (xs : List SourcedEvent) → behind_run w es ≡ x ∷ xs → IsPartRun es ys x xs
  part-run [] ys x xs h = absurd (filled x xs (sym h))
  part-run (e ∷ es) ys x xs h = by (λ k. part-run es ys x xs k) (is_counted c e) refl
    where
      by : (behind_run w es ≡ x ∷ xs → IsPartRun es ys x xs) → (b : Bool) → is_counted c e ≡ b → IsPartRun (e ∷ es) ys x xs
      by again true k =
          let rest = again (sym (behind-cons e es k) ∙ h) in
          record {
            behind = behind-cons e (es ++ ys) k ∙ rest.behind;
            width = omega (arith, width-cons e (es ++ ys) k, width-cons e es k, rest.width);
          }
      by again false k = record {
        behind = behind-other e (es ++ ys) k ∙ ap (λ zs. zs ++ ys) (sym (behind-other e es k) ∙ h);
        width = width-other e (es ++ ys) k ∙ sym (width-other e es k);
      }

  -- the run between what is before it and a first event after it
  abbrev run_from : List SourcedEvent → Option EventView → ℕ → Run
  run_from before f width = record {
    before = run_before w before;
    after = edge_after f;
    literal_before = literal_before w before;
    literal_after = marker_only (edge_after (text_only f));
    width = width;
  }

  -- a run that has ended stays as it is
  run-keep : (own : ℕ) (before es ys : List SourcedEvent) (x : SourcedEvent) (xs : List SourcedEvent) → behind_run w es ≡ x ∷ xs → run_at w own before (es ++ ys) ≡ run_at w own before es
  run-keep own before es ys x xs h =
      let part = part-run es ys x xs h in
      ap (λ (zs : List SourcedEvent). run_from before (front zs) (width_ahead w before + own + width_ahead w (es ++ ys))) part.behind
      ∙ ap (λ n. run_from before (Some (unsourced x)) (width_ahead w before + own + n)) part.width
      ∙ ap (λ (zs : List SourcedEvent). run_from before (front zs) (width_ahead w before + own + width_ahead w es)) (sym h)

  -- one that hasn't goes on with the event, or borders on it
  abbrev mended : SourcedEvent → Run → Run
  mended x r = if is_counted c x then wider (w x) r else bordered x r

  run-mend : (own : ℕ) (before es : List SourcedEvent) (x : SourcedEvent) → behind_run w es ≡ [] → run_at w own before (es ++ x ∷ []) ≡ mended x (run_at w own before es)
  run-mend own before es x h = by (is_counted c x) refl
    where
      all : IsAllRun es (x ∷ [])
      all = all-run es (x ∷ []) h

      by : (b : Bool) → is_counted c x ≡ b → run_at w own before (es ++ x ∷ []) ≡ (if b then wider (w x) (run_at w own before es) else bordered x (run_at w own before es))
      by true k =
          let width : width_ahead w before + own + width_ahead w (es ++ x ∷ []) ≡ width_ahead w before + own + width_ahead w es + w x = omega (arith, all.width, width-cons x [] k) in
          ap (λ (zs : List SourcedEvent). run_from before (front zs) (width_ahead w before + own + width_ahead w (es ++ x ∷ []))) (all.behind ∙ behind-cons x [] k ∙ sym h)
          ∙ ap (λ n. run_from before (front (behind_run w es)) n) width
      by false k =
          let width : width_ahead w before + own + width_ahead w (es ++ x ∷ []) ≡ width_ahead w before + own + width_ahead w es = omega (arith, all.width, width-other x [] k) in
          ap (λ (zs : List SourcedEvent). run_from before (front zs) (width_ahead w before + own + width_ahead w (es ++ x ∷ []))) (all.behind ∙ behind-other x [] k)
          ∙ ap (λ n. run_from before (Some (unsourced x)) n) width

-- ---- the column

-- no run that the events after end in goes on before them
abbrev Closed : List SourcedEvent → List SourcedEvent → Type 0
Closed back after = (d : Counted) → behind_run (width_of d) after ≡ [] → ends_counted d back ≡ false

closed-more : (e : SourcedEvent) (back after : List SourcedEvent) → Closed (e ∷ back) after → Closed back (e ∷ after)
closed-more e back after h d k = by (is_counted d e) refl
  where
    by : (b : Bool) → is_counted d e ≡ b → ends_counted d back ≡ false
    by true i = absurd (true≢false (sym i ∙ h d (sym (behind-cons d e after i) ∙ k)))
    by false i = absurd (filled e after (sym (behind-other d e after i) ∙ k))

-- the runs of events that a further one doesn't touch
keep : (runs : List Run) (x : SourcedEvent) (back after : List SourcedEvent) → Closed back after → AreRuns runs back after → AreRuns runs back (after ++ x ∷ [])
keep runs x [] after h a = a
keep runs x (e ∷ back) after h a =
    (record { run = λ c k. a.0.run c k ∙ ap Some (sym (same c k (behind_run (width_of c) after) refl)) }, keep runs x back (e ∷ after) (closed-more e back after h) a.1)
  where
    same : (c : Counted) → is_counted c e ≡ true → (zs : List SourcedEvent) → behind_run (width_of c) after ≡ zs → run_at (width_of c) (width_of c e) back (after ++ x ∷ []) ≡ run_at (width_of c) (width_of c e) back after
    same c k [] z = absurd (true≢false (sym k ∙ h c z))
    same c k (y ∷ ys) z = run-keep c (width_of c e) back after (x ∷ []) y ys z

-- a run that begins after all of them
deepen : (r : Run) (runs : List Run) (back after : List SourcedEvent) → runs_begun back ≤ length runs → AreRuns runs back after → AreRuns (r ∷ runs) back after
deepen r runs [] after le a = a
deepen r runs (e ∷ back) after le a =
    (record { run = λ c k. inner-numbered (runs_begun (e ∷ back)) r runs le ∙ a.0.run c k }, deepen r runs back (e ∷ after) (omega (arith, le, begun-least e back)) a.1)

-- and without it
shallow : (r : Run) (runs : List Run) (back after : List SourcedEvent) → runs_begun back ≤ length runs → AreRuns (r ∷ runs) back after → AreRuns runs back after
shallow r runs [] after le a = a
shallow r runs (e ∷ back) after le a =
    (record { run = λ c k. sym (inner-numbered (runs_begun (e ∷ back)) r runs le) ∙ a.0.run c k }, shallow r runs back (e ∷ after) (omega (arith, le, begun-least e back)) a.1)

-- the run that the events end with is mended
trailing : (c : Counted) (x : SourcedEvent) (r : Run) (rs : List Run) (back after : List SourcedEvent)
    → ends_counted c back ≡ true → behind_run (width_of c) after ≡ [] → runs_begun back ≡ suc (length rs)
    → AreRuns (r ∷ rs) back after → AreRuns (mended c x r ∷ rs) back (after ++ x ∷ [])
trailing c x r rs [] after h b g a = absurd (false≢true h)
trailing c x r rs (e ∷ back) after h b g a = (at, rest (λ k. trailing c x r rs back (e ∷ after) k (behind-cons c e after h ∙ b)) (ends_counted c back) refl)
  where
    run-is : r ≡ run_at (width_of c) (width_of c e) back after
    run-is = some-same r (run_at (width_of c) (width_of c e) back after) (sym (last-numbered (runs_begun (e ∷ back)) r rs g) ∙ a.0.run c h)

    changed : run_numbered (runs_begun (e ∷ back)) (mended c x r ∷ rs) ≡ Some (run_at (width_of c) (width_of c e) back (after ++ x ∷ []))
    changed = last-numbered (runs_begun (e ∷ back)) (mended c x r) rs g ∙ ap Some (ap (mended c x) run-is ∙ sym (run-mend c (width_of c e) back after x b))

    at : IsRunAt (mended c x r ∷ rs) e back (after ++ x ∷ [])
    at = record {
      run = λ d k. subst (λ d. run_numbered (runs_begun (e ∷ back)) (mended c x r ∷ rs) ≡ Some (run_at (width_of d) (width_of d e) back (after ++ x ∷ []))) (only c d e h k) changed;
    }

    closed : ends_counted c back ≡ false → Closed back (e ∷ after)
    closed k d i = by (is_counted d e) refl
      where
        by : (t : Bool) → is_counted d e ≡ t → ends_counted d back ≡ false
        by true j = subst (λ d. ends_counted d back ≡ false) (only c d e h j) k
        by false j = absurd (filled e after (sym (behind-other d e after j) ∙ i))

    rest : (ends_counted c back ≡ true → runs_begun back ≡ suc (length rs) → AreRuns (r ∷ rs) back (e ∷ after) → AreRuns (mended c x r ∷ rs) back ((e ∷ after) ++ x ∷ []))
        → (t : Bool) → ends_counted c back ≡ t → AreRuns (mended c x r ∷ rs) back ((e ∷ after) ++ x ∷ [])
    rest again true k = again k (sym (begun-on e back (on-of c e back k h)) ∙ g) a.1
    rest again false k =
        let fewer : runs_begun back ≤ length rs = omega (arith, g, begun-new e back (in-of c e h) (off-of c e back k h)) in
        deepen (mended c x r) rs back ((e ∷ after) ++ x ∷ []) fewer (keep rs x back (e ∷ after) (closed k) (shallow r rs back (e ∷ after) fewer a.1))

-- a run after which nothing is, by the events before it
abbrev open_run : List SourcedEvent → ℕ → Run
open_run zs n = record {
  before = edge_before (front zs);
  after = None;
  literal_before = marker_only (edge_before (text_only (front zs)));
  literal_after = None;
  width = n;
}

-- a run is the same from its next event
run-two : (c : Counted) (e x : SourcedEvent) (back : List SourcedEvent) → is_counted c e ≡ true → is_counted c x ≡ true
    → run_at (width_of c) (width_of c e) back (x ∷ []) ≡ run_at (width_of c) (width_of c x) (e ∷ back) []
run-two c e x back h k =
    let width : width_ahead (width_of c) back + width_of c e + width_ahead (width_of c) (x ∷ []) ≡ width_ahead (width_of c) (e ∷ back) + width_of c x + 0 = omega (arith, width-cons c e back h, width-cons c x [] k) in
    ap (λ (zs : List SourcedEvent). run_from c back (front zs) (width_ahead (width_of c) back + width_of c e + width_ahead (width_of c) (x ∷ []))) (behind-cons c x [] k)
    ∙ ap (λ (zs : List SourcedEvent). open_run zs (width_ahead (width_of c) back + width_of c e + width_ahead (width_of c) (x ∷ []))) (sym (behind-cons c e back h))
    ∙ ap (λ n. open_run (behind_run (width_of c) (e ∷ back)) n) width

own-is : (c : Counted) (e : SourcedEvent) → is_counted c e ≡ true → own_width e ≡ width_of c e
own-is Starts (Start t) h = omega arith
own-is Starts (End k) h = absurd (false≢true h)
own-is Starts (Leaf l) h = absurd (false≢true h)
own-is Ends (Start t) h = absurd (false≢true h)
own-is Ends (End k) h = omega arith
own-is Ends (Leaf l) h = absurd (false≢true h)

-- no run of this kind ends there
behind-back : (c : Counted) (back : List SourcedEvent) → ends_counted c back ≡ false → behind_run (width_of c) back ≡ back
behind-back c [] h = refl
behind-back c (e ∷ back) h = behind-other c e back h

width-back : (c : Counted) (back : List SourcedEvent) → ends_counted c back ≡ false → width_ahead (width_of c) back ≡ 0
width-back c [] h = refl
width-back c (e ∷ back) h = width-other c e back h

parts : (a b : Bool) → (a && b) ≡ true → (a ≡ true) × (b ≡ true)
parts true b h = (refl, h)
parts false b h = absurd (false≢true h)

-- the kind of the run with which an event goes on
record GoesOn (e : SourcedEvent) (back : List SourcedEvent) : Type 0 where
  kind : Counted
  ends : ends_counted kind back ≡ true
  counted : is_counted kind e ≡ true

goes-on : (e : SourcedEvent) (back : List SourcedEvent) → goes_on e back ≡ true → GoesOn e back
goes-on e back h =
    ⊎_elim
    (λ a. let p = parts (ends_counted Starts back) (is_counted Starts e) a in record { kind = Starts; ends = p.0; counted = p.1 })
    (λ b. let p = parts (ends_counted Ends back) (is_counted Ends e) b in record { kind = Ends; ends = p.0; counted = p.1 })
    (or_cases (ends_counted Starts back && is_counted Starts e) (ends_counted Ends back && is_counted Ends e) h)

record EndsRun (back : List SourcedEvent) : Type 0 where
  kind : Counted
  ends : ends_counted kind back ≡ true

run-end : (back : List SourcedEvent) → ends_run back ≡ true → EndsRun back
run-end back h =
    ⊎_elim (λ a. record { kind = Starts; ends = a }) (λ b. record { kind = Ends; ends = b }) (or_cases (ends_counted Starts back) (ends_counted Ends back) h)

no-end : (back : List SourcedEvent) → ends_run back ≡ false → (d : Counted) → ends_counted d back ≡ false
no-end back h Starts = (or_parts (ends_counted Starts back) (ends_counted Ends back) h).0
no-end back h Ends = (or_parts (ends_counted Starts back) (ends_counted Ends back) h).1

none-some : {A B : Type 0} (a : A) → None ≡ Some a → B
none-some a h = absurd (cc)

-- ---- the runs with one event more

-- the first of some runs is changed
abbrev pub with_first : (Run → Run) → List Run → List Run
with_first f [] = []
with_first f (r ∷ rs) = f r ∷ rs

-- the runs, the last one first, as an event after these changes them
abbrev pub runs_changed : SourcedEvent → List SourcedEvent → List Run → List Run
runs_changed e back runs =
    if goes_on e back then with_first (wider (own_width e)) runs else (if ends_run back then with_first (bordered e) runs else runs)

first-length : (f : Run → Run) (runs : List Run) → length (with_first f runs) ≡ length runs
first-length f [] = refl
first-length f (r ∷ rs) = refl

module _ (x : SourcedEvent) (back : List SourcedEvent) (runs : List Run) (h : HoldRuns back runs) where
  -- the last run is mended
  mended-all : (c : Counted) → ends_counted c back ≡ true → AreRuns (with_first (mended c x) runs) back (x ∷ [])
  mended-all c k = by runs back h.count h.are k
    where
      by : (rs : List Run) (back : List SourcedEvent) → length rs ≡ runs_begun back → AreRuns rs back [] → ends_counted c back ≡ true → AreRuns (with_first (mended c x) rs) back (x ∷ [])
      by (r ∷ rs) back count are k = trailing c x r rs back [] k refl (sym count) are
      by [] [] count are k = absurd (false≢true k)
      by [] (e ∷ back) count are k = none-some (run_at (width_of c) (width_of c e) back []) (are.0.run c k)

  changed-on : goes_on x back ≡ true → AreRuns (with_first (wider (own_width x)) runs) back (x ∷ [])
  changed-on k =
      let on = goes-on x back k in
      subst (λ (rs : List Run). AreRuns rs back (x ∷ []))
      ((λ j. with_first (λ r. if on.counted j then wider (width_of on.kind x) r else bordered x r) runs) ∙ ap (λ n. with_first (wider n) runs) (sym (own-is on.kind x on.counted)))
      (mended-all on.kind on.ends)

  changed-off : goes_on x back ≡ false → ends_run back ≡ true → AreRuns (with_first (bordered x) runs) back (x ∷ [])
  changed-off k e =
      let end = run-end back e in
      subst (λ (rs : List Run). AreRuns rs back (x ∷ [])) (λ j. with_first (λ r. if other end.kind end.ends j then wider (width_of end.kind x) r else bordered x r) runs) (mended-all end.kind end.ends)
    where
      other : (c : Counted) → ends_counted c back ≡ true → is_counted c x ≡ false
      other c i = by (is_counted c x) refl
        where
          by : (b : Bool) → is_counted c x ≡ b → is_counted c x ≡ false
          by true t = absurd (true≢false (sym (on-of c x back i t) ∙ k))
          by false t = t

  -- after no run nothing changes
  pub unchanged : ends_run back ≡ false → AreRuns runs back (x ∷ [])
  unchanged e = keep runs x back [] (λ d i. no-end back e d) h.are

  pub changed-is : AreRuns (runs_changed x back runs) back (x ∷ [])
  changed-is = by (goes_on x back) refl (ends_run back) refl
    where
      by : (b : Bool) → goes_on x back ≡ b → (t : Bool) → ends_run back ≡ t → AreRuns (if b then with_first (wider (own_width x)) runs else (if t then with_first (bordered x) runs else runs)) back (x ∷ [])
      by true k t e = changed-on k
      by false k true e = changed-off k e
      by false k false e = unchanged e

  pub changed-count : length (runs_changed x back runs) ≡ length runs
  changed-count = by (goes_on x back) (ends_run back)
    where
      by : (b t : Bool) → length (if b then with_first (wider (own_width x)) runs else (if t then with_first (bordered x) runs else runs)) ≡ length runs
      by true t = first-length (wider (own_width x)) runs
      by false true = first-length (bordered x) runs
      by false false = refl

-- an event in no run is noted by none
pub runs-quiet : (x : SourcedEvent) (back : List SourcedEvent) (runs : List Run) → in_run x ≡ false → length runs ≡ runs_begun back → AreRuns runs back (x ∷ []) → HoldRuns (x ∷ back) runs
runs-quiet x back runs out count are = record {
  count = count ∙ sym (begun-out x back out);
  are = (record { run = λ c k. absurd (true≢false (sym (in-of c x k) ∙ out)) }, are);
}

-- a run that begins
new-run : (x : SourcedEvent) (back : List SourcedEvent) (c : Counted) → is_counted c x ≡ true → ends_counted c back ≡ false → begun_by x back ≡ run_at (width_of c) (width_of c x) back []
new-run x back c k e =
    let width : own_width x ≡ width_ahead (width_of c) back + width_of c x + 0 = omega (arith, own-is c x k, width-back c back e) in
    ap (λ n. open_run back n) width ∙ ap (λ (zs : List SourcedEvent). open_run zs (width_ahead (width_of c) back + width_of c x + 0)) (sym (behind-back c back e))

not-ended : (x : SourcedEvent) (back : List SourcedEvent) (c : Counted) → is_counted c x ≡ true → goes_on x back ≡ false → (b : Bool) → ends_counted c back ≡ b → ends_counted c back ≡ false
not-ended x back c k g true t = absurd (true≢false (sym (on-of c x back t k) ∙ g))
not-ended x back c k g false t = t

-- the run of the last event is that of one more that goes on with it
last-on : (x : SourcedEvent) (back : List SourcedEvent) (runs : List Run) (c : Counted) → is_counted c x ≡ true → goes_on x back ≡ true → length runs ≡ runs_begun back → AreRuns runs back (x ∷ [])
    → run_numbered (runs_begun (x ∷ back)) runs ≡ Some (run_at (width_of c) (width_of c x) back [])
last-on x back runs c k g count are =
    let on = goes-on x back g in
    let ends : ends_counted c back ≡ true = subst (λ d. ends_counted d back ≡ true) (only on.kind c x on.counted k) on.ends in
    ap (λ n. run_numbered n runs) (begun-on x back g) ∙ by back are ends
  where
    by : (back : List SourcedEvent) → AreRuns runs back (x ∷ []) → ends_counted c back ≡ true → run_numbered (runs_begun back) runs ≡ Some (run_at (width_of c) (width_of c x) back [])
    by [] are i = absurd (false≢true i)
    by (e ∷ back) are i = are.0.run c i ∙ ap Some (run-two c e x back i k)

module _ (x : SourcedEvent) (back : List SourcedEvent) (changed : List Run) (count : length changed ≡ runs_begun back) (are : AreRuns changed back (x ∷ [])) where
  least : runs_begun back ≤ length changed
  least = omega (arith, count)

  begun : goes_on x back ≡ false → in_run x ≡ true → HoldRuns (x ∷ back) (begun_by x back ∷ changed)
  begun g i = record {
    count = ap suc count ∙ sym (begun-new x back i g);
    are = (record { run = λ c k. last-numbered (runs_begun (x ∷ back)) (begun_by x back) changed (begun-new x back i g ∙ ap suc (sym count)) ∙ ap Some (new-run x back c k (not-ended x back c k g (ends_counted c back) refl)) }, deepen (begun_by x back) changed back (x ∷ []) least are);
  }

  on : goes_on x back ≡ true → HoldRuns (x ∷ back) changed
  on g = record {
    count = count ∙ sym (begun-on x back g);
    are = (record { run = λ c k. last-on x back changed c k g count are }, are);
  }

  -- a delimiter goes on with the last run, or begins one
  pub runs-joined : (runs : List Run) → in_run x ≡ true → runs ≡ (if in_run x && not (goes_on x back) then begun_by x back ∷ changed else changed) → HoldRuns (x ∷ back) runs
  runs-joined runs i is = by (goes_on x back) refl
    where
      by : (g : Bool) → goes_on x back ≡ g → HoldRuns (x ∷ back) runs
      by true g =
          let none : (in_run x && not (goes_on x back)) ≡ false = ap (λ b. in_run x && not b) g ∙ and-false (in_run x) in
          subst (λ (rs : List Run). HoldRuns (x ∷ back) rs) (sym (is ∙ pick-false (in_run x && not (goes_on x back)) (begun_by x back ∷ changed) changed none)) (on g)
      by false g =
          let some : (in_run x && not (goes_on x back)) ≡ true = λ j. i j && not (g j) in
          subst (λ (rs : List Run). HoldRuns (x ∷ back) rs) (sym (is ∙ pick-true (in_run x && not (goes_on x back)) (begun_by x back ∷ changed) changed some)) (begun g i)

-- over no events
pub runs-none : HoldRuns [] []
runs-none = record { count = refl; are = tt }

-- The column of runs as lists in memory.
use Rattle.std.proofs.Common.{◌≡◌, ℕ, zero, suc, Bool, true, false, List, [], ◌∷◌, ◌++◌, refl, sym, ap, ◌∙◌, subst, length, map, reverse, take, get_or, arith, if◌then◌else◌}
use Rattle.std.proofs.Math.ListN.{set}
use Rattle.std.specs.Prelude.{◌&&◌, not}
use Rattle.std.proofs.lemmas.List.{length-map, length-reverse, map-append, reverse-append}
use Rattle.tocmark_event.specs.View.{SourcedEvent}
use Rattle.tocmark_write_pending.specs.declared.runs.Run as declared
use Rattle.tocmark_spelling.specs.Runs.{Run}
use Rattle.tocmark_write_pending.specs.RunColumn.{AreRuns, HoldRuns, begun_by, bordered, ends_run, goes_on, in_run, own_width, run_view, wider}
use Rattle.tocmark_write_pending.proofs.RunColumn.{changed-is, runs_changed, runs-joined, runs-quiet, with_first}

pub turned-count : (rs : List declared.Run) → length (reverse (map run_view rs)) ≡ length rs
turned-count rs = length-reverse (map run_view rs) ∙ length-map rs run_view

-- the runs, the last one first, with one more
pub last-turned : (xs : List declared.Run) (x : declared.Run) → reverse (map run_view (xs ++ x ∷ [])) ≡ run_view x ∷ reverse (map run_view xs)
last-turned xs x = ap (λ (rs : List Run). reverse rs) (map-append run_view xs (x ∷ [])) ∙ reverse-append (map run_view xs) (run_view x ∷ [])

first-by : (g t : Bool) (f h : Run → Run) (r : Run) (rs : List Run)
    → (if g then with_first f (r ∷ rs) else (if t then with_first h (r ∷ rs) else r ∷ rs)) ≡ (if g then f r else (if t then h r else r)) ∷ rs
first-by true t f h r rs = refl
first-by false true f h r rs = refl
first-by false false f h r rs = refl

changed-list : (e : SourcedEvent) (back : List SourcedEvent) (old xs new : List declared.Run) (run next : declared.Run) → old ≡ xs ++ run ∷ [] → new ≡ xs ++ next ∷ []
    → run_view next ≡ (if goes_on e back then wider (own_width e) (run_view run) else (if ends_run back then bordered e (run_view run) else run_view run))
    → reverse (map run_view new) ≡ runs_changed e back (reverse (map run_view old))
changed-list e back old xs new run next o n h =
    let rs : List Run = reverse (map run_view xs) in
    ap (λ (ys : List declared.Run). reverse (map run_view ys)) n
    ∙ last-turned xs next
    ∙ ap (λ (r : Run). r ∷ rs) h
    ∙ sym (first-by (goes_on e back) (ends_run back) (wider (own_width e)) (bordered e) (run_view run) rs)
    ∙ ap (runs_changed e back) (sym (last-turned xs run) ∙ ap (λ (ys : List declared.Run). reverse (map run_view ys)) (sym o))

-- the last one is changed
pub last-changed : (e : SourcedEvent) (back : List SourcedEvent) (old xs new : List declared.Run) (run next : declared.Run) → HoldRuns back (reverse (map run_view old)) → old ≡ xs ++ run ∷ [] → new ≡ xs ++ next ∷ []
    → run_view next ≡ (if goes_on e back then wider (own_width e) (run_view run) else (if ends_run back then bordered e (run_view run) else run_view run))
    → AreRuns (reverse (map run_view new)) back (e ∷ [])
last-changed e back old xs new run next held o n h =
    subst (λ (rs : List Run). AreRuns rs back (e ∷ [])) (sym (changed-list e back old xs new run next o n h)) (changed-is e back (reverse (map run_view old)) held)

whole-split : (rs : List declared.Run) (i : ℕ) (run : declared.Run) → suc i ≡ length rs → run ≡ get_or rs i run → rs ≡ take i rs ++ run ∷ []
whole-split [] i run e is = absurd (omega (arith, e))
whole-split (x ∷ []) zero run e is = ap (λ (y : declared.Run). y ∷ []) (sym is)
whole-split (x ∷ y ∷ rs) zero run e is = absurd (omega (arith, e))
whole-split (x ∷ rs) (suc i) run e is = ap (λ (ys : List declared.Run). x ∷ ys) (whole-split rs i run (omega (arith, e)) is)

set-split : (rs : List declared.Run) (i : ℕ) (next : declared.Run) → suc i ≡ length rs → set rs i next ≡ take i rs ++ next ∷ []
set-split [] i next e = absurd (omega (arith, e))
set-split (x ∷ []) zero next e = refl
set-split (x ∷ y ∷ rs) zero next e = absurd (omega (arith, e))
set-split (x ∷ rs) (suc i) next e = ap (λ (ys : List declared.Run). x ∷ ys) (set-split rs i next (omega (arith, e)))

-- the same where the last one is set
pub last-set : (e : SourcedEvent) (back : List SourcedEvent) (old new : List declared.Run) (i : ℕ) (run next : declared.Run) → HoldRuns back (reverse (map run_view old)) → suc i ≡ length old → run ≡ get_or old i run → new ≡ set old i next
    → run_view next ≡ (if goes_on e back then wider (own_width e) (run_view run) else (if ends_run back then bordered e (run_view run) else run_view run))
    → AreRuns (reverse (map run_view new)) back (e ∷ [])
last-set e back old new i run next held last is n h =
    last-changed e back old (take i old) new run next held (whole-split old i run last is) (n ∙ set-split old i next last) h

-- none is there
pub none-changed : (e : SourcedEvent) (back : List SourcedEvent) (old new : List declared.Run) → HoldRuns back (reverse (map run_view old)) → old ≡ [] → new ≡ old → AreRuns (reverse (map run_view new)) back (e ∷ [])
none-changed e back old new held o n =
    subst (λ (rs : List Run). AreRuns rs back (e ∷ []))
    (ap (runs_changed e back) (ap (λ (ys : List declared.Run). reverse (map run_view ys)) o) ∙ by (goes_on e back) (ends_run back) ∙ ap (λ (ys : List declared.Run). reverse (map run_view ys)) (sym o ∙ sym n))
    (changed-is e back (reverse (map run_view old)) held)
  where
    by : (g t : Bool) → (if g then with_first (wider (own_width e)) [] else (if t then with_first (bordered e) [] else [])) ≡ []
    by true t = refl
    by false true = refl
    by false false = refl

-- one begins
pub last-begun : (b : Bool) (first : Run) (old new : List declared.Run) (run : declared.Run) → b ≡ true → new ≡ old ++ run ∷ [] → run_view run ≡ first
    → reverse (map run_view new) ≡ (if b then first ∷ reverse (map run_view old) else reverse (map run_view old))
last-begun b first old new run t n h =
    ap (λ (ys : List declared.Run). reverse (map run_view ys)) n
    ∙ last-turned old run
    ∙ ap (λ (r : Run). r ∷ reverse (map run_view old)) h
    ∙ ap (λ b. if b then first ∷ reverse (map run_view old) else reverse (map run_view old)) (sym t)

pub none-begun : (b : Bool) (first : Run) (rs : List Run) → b ≡ false → rs ≡ (if b then first ∷ rs else rs)
none-begun b first rs f = ap (λ b. if b then first ∷ rs else rs) (sym f)

-- an event in no run, after a run or after none
pub quiet-joined : (e : SourcedEvent) (back : List SourcedEvent) (old new : List declared.Run) → HoldRuns back (reverse (map run_view old)) → in_run e ≡ false → length new ≡ length old → AreRuns (reverse (map run_view new)) back (e ∷ [])
    → HoldRuns (e ∷ back) (reverse (map run_view new))
quiet-joined e back old new held out count are = runs-quiet e back (reverse (map run_view new)) out (turned-count new ∙ count ∙ sym (turned-count old) ∙ held.count) are

-- a delimiter
pub delimiter-joined : (e : SourcedEvent) (back : List SourcedEvent) (old changed new : List declared.Run) → HoldRuns back (reverse (map run_view old)) → in_run e ≡ true → length changed ≡ length old → AreRuns (reverse (map run_view changed)) back (e ∷ [])
    → reverse (map run_view new) ≡ (if in_run e && not (goes_on e back) then begun_by e back ∷ reverse (map run_view changed) else reverse (map run_view changed))
    → HoldRuns (e ∷ back) (reverse (map run_view new))
delimiter-joined e back old changed new held i count are is =
    runs-joined e back (reverse (map run_view changed)) (turned-count changed ∙ count ∙ sym (turned-count old) ∙ held.count) are (reverse (map run_view new)) i is

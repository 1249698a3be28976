-- What was done with a list and with a writer, under another name of how units are written; and what it says of the script.
use Rattle.std.proofs.Common.{◌≡◌, ℕ, List, Option, Result, Ok, Err, inl, inr, subst}
use Rattle.std.specs.Borrow.{Bor}
use Rattle.std.specs.Iterator.{DrainsIf}
use Rattle.std.specs.Prelude.{[], IsErrAnd, IsOk}
use Rattle.tocmark_event.specs.Text.{ParserEvent}
use Rattle.tocmark_event.specs.declared.event.flags.ParserOptions.{ParserOptions}
use Rattle.tocmark_event.specs.declared.options.Error.{Error}
use Rattle.tocmark_state.specs.Ranges.{Pair, Range}
use Rattle.tocmark_state.specs.Walk.{Rendering, Standing, done, ended, nothing_yet, script, walk}
use Rattle.tocmark_state.specs.Writes.{Makes}
use Rattle.tocmark_state.specs.WorkView.{pairs, ranged_pairs}
use Rattle.tocmark_state.proofs.Steps.{no_ok}
use Rattle.tocmark_state.proofs.Walks.{RefusesAt-longer}
use Rattle.tocmark.specs.Writing.{Fails, TakesEvents, WritesEvents, WritesRanged}

-- events without ranges, all of them
pub written : {L I W A : Type 0} (into : L → I → Type 0) (next : I → Option (Bor ParserEvent) → I → Type 0) (list : L) (gives refuses : W → List ℕ → W → Type 0) (w v : W) (r : Result A Error) (how named : Rendering) (flags : ParserOptions) (it : I) (xs : List (Bor ParserEvent))
    → how ≡ named
    → into list it
    → DrainsIf next (Unit {0}) it xs
    → ((source : List ℕ) → Makes gives refuses w v r done (script how source (nothing_yet flags) (pairs xs)))
    → WritesEvents into next list gives refuses w v r named flags
written into next list gives refuses w v r how named flags it xs same given drains made =
    subst (λ (x : Rendering). WritesEvents into next list gives refuses w v r x flags) same (inl (it, xs, given, drains, made))

-- a front of them
pub failed : {L I W A : Type 0} (into : L → I → Type 0) (next : I → Option (Bor ParserEvent) → I → Type 0) (list : L) (gives refuses : W → List ℕ → W → Type 0) (w v : W) (r : Result A Error) (how named : Rendering) (flags : ParserOptions) (it : I) (xs : List (Bor ParserEvent))
    → how ≡ named
    → into list it
    → DrainsIf next ⊥ it xs
    → ((source : List ℕ) → Fails gives refuses w v r (walk how source (nothing_yet flags) (pairs xs)))
    → WritesEvents into next list gives refuses w v r named flags
failed into next list gives refuses w v r how named flags it xs same given drains fails =
    subst (λ (x : Rendering). WritesEvents into next list gives refuses w v r x flags) same (inr (it, xs, given, drains, fails))

-- events with ranges, all of them
pub written-ranged : {L I W A : Type 0} (into : L → I → Type 0) (next : I → Option (Bor ParserEvent × Option Range) → I → Type 0) (list : L) (source : List ℕ) (gives refuses : W → List ℕ → W → Type 0) (w v : W) (r : Result A Error) (how named : Rendering) (flags : ParserOptions) (it : I) (xs : List (Bor ParserEvent × Option Range))
    → how ≡ named
    → into list it
    → DrainsIf next (Unit {0}) it xs
    → Makes gives refuses w v r done (script how source (nothing_yet flags) (ranged_pairs xs))
    → WritesRanged into next list source gives refuses w v r named flags
written-ranged into next list source gives refuses w v r how named flags it xs same given drains made =
    subst (λ (x : Rendering). WritesRanged into next list source gives refuses w v r x flags) same (inl (it, xs, given, drains, made))

-- a front of them
pub failed-ranged : {L I W A : Type 0} (into : L → I → Type 0) (next : I → Option (Bor ParserEvent × Option Range) → I → Type 0) (list : L) (source : List ℕ) (gives refuses : W → List ℕ → W → Type 0) (w v : W) (r : Result A Error) (how named : Rendering) (flags : ParserOptions) (it : I) (xs : List (Bor ParserEvent × Option Range))
    → how ≡ named
    → into list it
    → DrainsIf next ⊥ it xs
    → Fails gives refuses w v r (walk how source (nothing_yet flags) (ranged_pairs xs))
    → WritesRanged into next list source gives refuses w v r named flags
failed-ranged into next list source gives refuses w v r how named flags it xs same given drains fails =
    subst (λ (x : Rendering). WritesRanged into next list source gives refuses w v r x flags) same (inr (it, xs, given, drains, fails))

-- a call that failed at a walk has made the script that begins with it
made : {W A : Type 0} (gives refuses : W → List ℕ → W → Type 0) (w v : W) (r : Result A Error) (how : Rendering) (source : List ℕ) (s : Standing) (p : List Pair) → Fails gives refuses w v r (walk how source s p) → Makes gives refuses w v r done (script how source s p)
made gives refuses w v (Ok x) how source s p h = absurd h
made gives refuses w v (Err e) how source s p h =
    RefusesAt-longer gives refuses w v e (walk how source s p).texts (walk how source s p).outcome (λ t. ended how t) h

-- it has no answer
never : {A : Type 0} (r : Result A Error) (P : Error → Type 0) → IsErrAnd r P → IsOk r → ⊥
never (Ok x) P h k = h
never (Err e) P h k = no_ok k

-- what follows for events from the script that is made of them holds of those that a call took
pub taken : {L I W A : Type 0} (into : L → I → Type 0) (next : I → Option (Bor ParserEvent) → I → Type 0) (list : L) (gives refuses : W → List ℕ → W → Type 0) (w v : W) (r : Result A Error) (how : Rendering) (flags : ParserOptions) (Holds : List (Bor ParserEvent) → Type 0)
    → ((xs : List (Bor ParserEvent)) → Makes gives refuses w v r done (script how [] (nothing_yet flags) (pairs xs)) → Holds xs)
    → WritesEvents into next list gives refuses w v r how flags
    → TakesEvents into next list r Holds
taken into next list gives refuses w v r how flags Holds holds (inl m) = (m.0, m.1, m.2, (m.3.0, m.3.1, λ h. m.3.2 tt), holds m.1 (m.4 []))
taken into next list gives refuses w v r how flags Holds holds (inr m) =
    (m.0, m.1, m.2, (m.3.0, m.3.1, λ h. absurd (never r _ (m.4 []) h)), holds m.1 (made gives refuses w v r how [] (nothing_yet flags) (pairs m.1) (m.4 [])))

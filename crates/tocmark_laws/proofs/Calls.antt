-- A list of calls on one state comes to the script of all their pairs.
use Rattle.std.proofs.Common.{◌≡◌, ℕ, List, [], ◌∷◌, ◌++◌, Result, Ok, Err, refl, ap, sym, ◌∙◌, subst, append_assoc, append-nil}
use Rattle.std.specs.List.{FoldsTo}
use Rattle.tocmark_event.specs.declared.event.flags.ParserOptions.{ParserOptions}
use Rattle.tocmark_event.specs.declared.options.Error.{Error}
use Rattle.tocmark_state.specs.declared.work.Progress.{Progress}
use Rattle.tocmark_laws.specs.Calls.{AreCalls, GoesOn, all_pairs}
use Rattle.tocmark_state.specs.Ranges.{Pair}
use Rattle.tocmark_state.specs.StateView.{Adds, Ends}
use Rattle.tocmark_state.specs.Walk.{Done, done, Rendering, Standing, Walk, ended, go_on, nothing_yet, script, walk}
use Rattle.tocmark_state.specs.Writes.{Makes, RefusesAt}
use Rattle.tocmark_state.proofs.Walks.{FoldsTo-append, Makes-then, RefusesAt-longer, go_on-assoc, walk-append}

-- a script goes on where a shorter walk is
script-append : (how : Rendering) (source : List ℕ) (s : Standing) (xs ys : List Pair) → script how source s (xs ++ ys) ≡ go_on (walk how source s xs).texts (walk how source s xs).outcome (λ t. script how source t ys)
script-append how source s xs ys =
    ap (λ (w : Walk Standing). go_on w.texts w.outcome (λ u. ended how u)) (walk-append how source s xs ys)
    ∙ go (walk how source s xs).texts (walk how source s xs).outcome
  where
    go : (ts : List (List ℕ)) (o : Result Standing Error) → go_on (go_on ts o (λ t. walk how source t ys)).texts (go_on ts o (λ t. walk how source t ys)).outcome (λ u. ended how u) ≡ go_on ts o (λ t. script how source t ys)
    go ts (Ok t) = sym (go_on-assoc ts (walk how source t ys).texts (walk how source t ys).outcome (λ u. ended how u))
    go ts (Err e) = refl

-- what `finish` makes after calls that succeeded
ends_make : {W : Type 0} (gives refuses : W → List ℕ → W → Type 0) (how : Rendering) (flags : ParserOptions) (source : List ℕ) (p : List Pair) (w w' v : W) (r : Result Progress Error) → FoldsTo gives w (walk how source (nothing_yet flags) p).texts w' → Ends gives refuses w' v how flags source r p → Makes gives refuses w v r done (script how source (nothing_yet flags) (p ++ []))
ends_make gives refuses how flags source p w w' v r folds b =
    let whole = script how source (nothing_yet flags) p in
    let is : whole ≡ record { texts = (walk how source (nothing_yet flags) p).texts ++ b.more; outcome = whole.outcome } =
    ap (λ (ts : List (List ℕ)). record { texts = ts; outcome = whole.outcome }) b.added in
    subst (λ (ps : List Pair). Makes gives refuses w v r done (script how source (nothing_yet flags) ps)) (sym (append-nil p))
    (subst (λ (x : Walk Done). Makes gives refuses w v r done x) (sym is)
    (Makes-then gives refuses w w' v r done done (walk how source (nothing_yet flags) p).texts (λ _. record { texts = b.more; outcome = whole.outcome }) folds b.made))

-- what a call that was refused makes of the script, after calls that succeeded
refused_makes : {W : Type 0} (gives refuses : W → List ℕ → W → Type 0) (how : Rendering) (flags : ParserOptions) (source : List ℕ) (p q rest : List Pair) (s : Standing) (w w' u : W) (e : Error) (place : Standing) → FoldsTo gives w (walk how source (nothing_yet flags) p).texts w' → Adds gives refuses w' u how flags source (Err e) place p q → RefusesAt gives refuses w u e (script how source (nothing_yet flags) (p ++ (q ++ rest)))
refused_makes gives refuses how flags source p q rest s w w' u e place folds a =
    let both = walk how source (nothing_yet flags) (p ++ q) in
    let r : Result Progress Error = Err e in
    let made = Makes-then gives refuses w w' u r s s (walk how source (nothing_yet flags) p).texts (λ _. record { texts = a.more; outcome = both.outcome }) folds a.made in
    let whole = subst (λ (ts : List (List ℕ)). RefusesAt gives refuses w u e (record { texts = ts; outcome = both.outcome })) (sym a.added) made in
    let longer = RefusesAt-longer gives refuses w u e both.texts both.outcome (λ t. script how source t rest) whole in
    subst (λ (ps : List Pair). RefusesAt gives refuses w u e (script how source (nothing_yet flags) ps)) (append_assoc p q rest)
    (subst (λ (x : Walk Done). RefusesAt gives refuses w u e x) (sym (script-append how source (nothing_yet flags) (p ++ q) rest)) longer)

-- calls after pairs at which the state was
pub calls_make : {W : Type 0} (gives refuses : W → List ℕ → W → Type 0) (how : Rendering) (flags : ParserOptions) (source : List ℕ) (qs : List (List Pair)) (p : List Pair) (s : Standing) (w w' v : W) (counts : List Progress) (r : Result Progress Error) → (walk how source (nothing_yet flags) p).outcome ≡ Ok s → FoldsTo gives w (walk how source (nothing_yet flags) p).texts w' → AreCalls gives refuses how flags source p qs w' v counts r → Makes gives refuses w v r done (script how source (nothing_yet flags) (p ++ all_pairs qs))
calls_make gives refuses how flags source [] p s w w' v counts r at folds b = ends_make gives refuses how flags source p w w' v r folds b.1
calls_make {W} gives refuses how flags source (q ∷ qs) p s w w' v counts r at folds (c, g) = go (λ t u ns. calls_make gives refuses how flags source qs (p ++ q) t w u v ns r) c.answer c.place c.u c.added g
  where
    go : ((t : Standing) (u : W) (ns : List Progress) → (walk how source (nothing_yet flags) (p ++ q)).outcome ≡ Ok t → FoldsTo gives w (walk how source (nothing_yet flags) (p ++ q)).texts u → AreCalls gives refuses how flags source (p ++ q) qs u v ns r → Makes gives refuses w v r done (script how source (nothing_yet flags) ((p ++ q) ++ all_pairs qs))) → (answer : Result Progress Error) (place : Standing) (u : W) → Adds gives refuses w' u how flags source answer place p q → GoesOn answer u v counts r (λ ns. AreCalls gives refuses how flags source (p ++ q) qs u v ns r) → Makes gives refuses w v r done (script how source (nothing_yet flags) (p ++ (q ++ all_pairs qs)))
    go again (Ok n) place u a (ns, is, g) =
        subst (λ (ps : List Pair). Makes gives refuses w v r done (script how source (nothing_yet flags) ps)) (append_assoc p q (all_pairs qs))
        (again place u ns a.made.0 (subst (λ (ts : List (List ℕ)). FoldsTo gives w ts u) (sym a.added) (FoldsTo-append gives w (walk how source (nothing_yet flags) p).texts a.more w' u folds a.made.1)) g)
    go again (Err e) place u a (none, same, is) =
        subst (λ (x : Result Progress Error). Makes gives refuses w v x done (script how source (nothing_yet flags) (p ++ (q ++ all_pairs qs)))) (sym is)
        (subst (λ (x : W). RefusesAt gives refuses w x e (script how source (nothing_yet flags) (p ++ (q ++ all_pairs qs)))) same
        (refused_makes gives refuses how flags source p q (all_pairs qs) s w w' u e place folds a))

-- What a loop over events, and a call after others, add to a walk.
use Rattle.std.proofs.Common.{◌≡◌, ℕ, List, [], ◌++◌, length, sum_by, Result, Ok, Err, ap, ◌∙◌, sym, subst}
use Rattle.std.specs.List.{FoldsTo}
use Rattle.std.specs.Result.{IfOk}
use Rattle.tocmark_event.specs.Options.{OptionsView}
use Rattle.tocmark_event.specs.Reading.{ReadingView}
use Rattle.tocmark_event.specs.declared.event.flags.ParserOptions.{ParserOptions}
use Rattle.tocmark_event.specs.declared.options.Error.{Error}
use Rattle.tocmark_spelling.specs.Page.{Reference}
use Rattle.tocmark_state.specs.declared.work.Progress.{Progress}
use Rattle.tocmark_state.specs.Ranges.{Pair}
use Rattle.tocmark_state.specs.Walk.{Done, done, Rendering, Standing, Walk, go_on, walk, nothing_yet, ended, script}
use Rattle.tocmark_state.specs.Writes.{Makes, RefusesAt}
use Rattle.tocmark_state.specs.StateView.{Adds, Ends}
use Rattle.tocmark_state.specs.WorkView.{Counts, rendering_behind}
use Rattle.tocmark_state.proofs.Walks.{walk_after, Makes-then}

-- a call after the list p
pub Adds-from : {W : Type 0} (gives refuses : W → List ℕ → W → Type 0) (w v : W) (how : Rendering) (flags : ParserOptions) (source : List ℕ) (r : Result Progress Error) (place : Standing) (p q : List Pair) (s : Standing) → (walk how source (nothing_yet flags) p).outcome ≡ Ok s → Makes gives refuses w v r place (walk how source s q) → IfOk r (λ n. Counts n (length q) (sum_by length (walk how source s q).texts)) → Adds gives refuses w v how flags source r place p q
Adds-from gives refuses w v how flags source r place p q s h m k = record {
  more = (walk how source s q).texts;
  added = ap (λ (x : Walk Standing). x.texts) (walk_after how source (nothing_yet flags) s p q h);
  made = rw (walk_after how source (nothing_yet flags) s p q h) m;
  counts = k;
}

pub Ends-from : {W : Type 0} (gives refuses : W → List ℕ → W → Type 0) (w v : W) (how : Rendering) (flags : ParserOptions) (source : List ℕ) (r : Result Progress Error) (p : List Pair) (s : Standing) → (walk how source (nothing_yet flags) p).outcome ≡ Ok s → Makes gives refuses w v r done (ended how s) → IfOk r (λ n. Counts n 0 (sum_by length (ended how s).texts)) → Ends gives refuses w v how flags source r p
Ends-from gives refuses w v how flags source r p s h m k =
    let e : script how source (nothing_yet flags) p ≡ go_on (walk how source (nothing_yet flags) p).texts (Ok s) (λ t. ended how t) = ap (λ o. go_on (walk how source (nothing_yet flags) p).texts o (λ t. ended how t)) h in
    record {
      more = (ended how s).texts;
      added = ap (λ (x : Walk Done). x.texts) e;
      made = subst (λ (o : Result Done Error). Makes gives refuses w v r done (record { texts = (ended how s).texts; outcome = o })) (sym (ap (λ (x : Walk Done). x.outcome) e)) m;
      counts = k;
    }

pub behind-same : (d d' : List Reference) (o o' : OptionsView) (reading : List ℕ → ParserOptions → ReadingView) → d' ≡ d → o' ≡ o → rendering_behind d' o' reading ≡ rendering_behind d o reading
behind-same d d' o o' reading h e = ap (λ x. rendering_behind x o' reading) h ∙ ap (λ x. rendering_behind d x reading) e

pub Adds-with : {W : Type 0} (gives refuses : W → List ℕ → W → Type 0) (w v : W) (d d' : List Reference) (o o' : OptionsView) (reading : List ℕ → ParserOptions → ReadingView) (flags : ParserOptions) (source : List ℕ) (r : Result Progress Error) (place : Standing) (p q : List Pair) (s : Standing) → d' ≡ d → o' ≡ o → (walk (rendering_behind d o reading) source (nothing_yet flags) p).outcome ≡ Ok s → Makes gives refuses w v r place (walk (rendering_behind d' o' reading) source s q) → IfOk r (λ n. Counts n (length q) (sum_by length (walk (rendering_behind d' o' reading) source s q).texts)) → Adds gives refuses w v (rendering_behind d o reading) flags source r place p q
Adds-with gives refuses w v d d' o o' reading flags source r place p q s f e h m k =
    let same = behind-same d d' o o' reading f e in
    Adds-from gives refuses w v (rendering_behind d o reading) flags source r place p q s h
    (subst (λ (x : Rendering). Makes gives refuses w v r place (walk x source s q)) same m)
    (subst (λ (x : Rendering). IfOk r (λ n. Counts n (length q) (sum_by length (walk x source s q).texts))) same k)

pub Ends-with : {W : Type 0} (gives refuses : W → List ℕ → W → Type 0) (w v : W) (d d' : List Reference) (o o' : OptionsView) (reading : List ℕ → ParserOptions → ReadingView) (flags : ParserOptions) (source : List ℕ) (r : Result Progress Error) (p : List Pair) (s : Standing) → d' ≡ d → o' ≡ o → (walk (rendering_behind d o reading) source (nothing_yet flags) p).outcome ≡ Ok s → Makes gives refuses w v r done (ended (rendering_behind d' o' reading) s) → IfOk r (λ n. Counts n 0 (sum_by length (ended (rendering_behind d' o' reading) s).texts)) → Ends gives refuses w v (rendering_behind d o reading) flags source r p
Ends-with gives refuses w v d d' o o' reading flags source r p s f e h m k =
    let same = behind-same d d' o o' reading f e in
    Ends-from gives refuses w v (rendering_behind d o reading) flags source r p s h
    (subst (λ (x : Rendering). Makes gives refuses w v r done (ended x s)) same m)
    (subst (λ (x : Rendering). IfOk r (λ n. Counts n 0 (sum_by length (ended x s).texts))) same k)

-- the first call of a run that was refused
pub Adds-walk : {W : Type 0} (gives refuses : W → List ℕ → W → Type 0) (w v : W) (how : Rendering) (flags : ParserOptions) (source : List ℕ) (e : Error) (place : Standing) (q : List Pair) → Adds gives refuses w v how flags source (Err e) place [] q → RefusesAt gives refuses w v e (walk how source (nothing_yet flags) q)
Adds-walk gives refuses w v how flags source e place q a =
    subst (λ (ts : List (List ℕ)). RefusesAt gives refuses w v e (record { texts = ts; outcome = (walk how source (nothing_yet flags) q).outcome })) (sym a.added) a.made

-- the last call of a run
pub Ends-script : {W : Type 0} (gives refuses : W → List ℕ → W → Type 0) (w v u : W) (how : Rendering) (flags : ParserOptions) (source : List ℕ) (n : Progress) (r : Result Progress Error) (place : Standing) (q : List Pair) → Adds gives refuses w v how flags source (Ok n) place [] q → Ends gives refuses v u how flags source r q → Makes gives refuses w u r done (script how source (nothing_yet flags) q)
Ends-script gives refuses w v u how flags source n r place q a b =
    let k : script how source (nothing_yet flags) q ≡ record { texts = (walk how source (nothing_yet flags) q).texts ++ b.more; outcome = (script how source (nothing_yet flags) q).outcome } =
    ap (λ (ts : List (List ℕ)). record { texts = ts; outcome = (script how source (nothing_yet flags) q).outcome }) b.added in
    subst (λ (x : Walk Done). Makes gives refuses w u r done x) (sym k)
    (Makes-then gives refuses w v u r done done (walk how source (nothing_yet flags) q).texts (λ _. record { texts = b.more; outcome = (script how source (nothing_yet flags) q).outcome })
    (subst (λ (ts : List (List ℕ)). FoldsTo gives w ts v) (sym a.added) a.made.1) b.made)

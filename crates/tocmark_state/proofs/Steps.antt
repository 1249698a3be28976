-- One more event of a loop.
use Rattle.std.proofs.Common.{◌≡◌, ℕ, ◌+◌, ◌-◌, ◌^◌, min, List, [], ◌∷◌, ◌++◌, length, sum_by, Result, Ok, Option, ap, ◌∙◌, arith, false, true}
use Rattle.std.proofs.lemmas.List.{map-append}
use Rattle.std.proofs.lemmas.List.Sums.{sum_by-append}
use Rattle.std.specs.List.{FoldsTo}
use Rattle.tocmark_event.specs.View.{EventView}
use Rattle.tocmark_event.specs.declared.options.Error.{Error}
use Rattle.tocmark_state.specs.declared.work.Progress.{Progress}
use Rattle.tocmark_state.specs.Ranges.{Range}
use Rattle.tocmark_state.specs.Walk.{Rendering, Standing, Walk, walk, step}
use Rattle.tocmark_state.specs.Writes.{Makes}
use Rattle.tocmark_state.specs.WorkView.{incoming_pairs, Counts}
use Rattle.tocmark_state.proofs.Walks.{walk_more, Makes-more}

pub no_ok : {A : Type 0} → false ≡ true → A
no_ok h = absurd (cc)

pub incoming_more : {E : Type 0} (event : E → EventView) (ys : List (E × Option Range)) (y : E × Option Range) → incoming_pairs event (ys ++ y ∷ []) ≡ incoming_pairs event ys ++ (event y.0, y.1) ∷ []
incoming_more event ys y = map-append (λ x. (event x.0, x.1)) ys (y ∷ [])

pub Makes-ranged : {W X E : Type 0} (gives refuses : W → List ℕ → W → Type 0) (w v u : W) (r : Result X Error) (t' : Standing) (how : Rendering) (source : List ℕ) (event : E → EventView) (s t : Standing) (ys : List (E × Option Range)) (y : E × Option Range) → (walk how source s (incoming_pairs event ys)).outcome ≡ Ok t → FoldsTo gives w (walk how source s (incoming_pairs event ys)).texts v → Makes gives refuses v u r t' (step how source (event y.0, y.1) t) → Makes gives refuses w u r t' (walk how source s (incoming_pairs event (ys ++ y ∷ [])))
Makes-ranged gives refuses w v u r t' how source event s t ys y h folds m =
    rw (incoming_more event ys y) (Makes-more gives refuses w v u r t' how source s t (incoming_pairs event ys) (event y.0, y.1) h folds m)

pub ranged_bytes : {E : Type 0} (how : Rendering) (source : List ℕ) (event : E → EventView) (s t : Standing) (ys : List (E × Option Range)) (y : E × Option Range) → (walk how source s (incoming_pairs event ys)).outcome ≡ Ok t → sum_by length (walk how source s (incoming_pairs event (ys ++ y ∷ []))).texts ≡ sum_by length (walk how source s (incoming_pairs event ys)).texts + sum_by length (step how source (event y.0, y.1) t).texts
ranged_bytes how source event s t ys y h =
    ap (λ es. sum_by length (walk how source s es).texts) (incoming_more event ys y)
    ∙ (ap (λ (w : Walk Standing). sum_by length w.texts) (walk_more how source s t (incoming_pairs event ys) (event y.0, y.1) h)
    ∙ sum_by-append length (walk how source s (incoming_pairs event ys)).texts (step how source (event y.0, y.1) t).texts)

pub Counts-more : (p : Progress) (a b events bytes n : ℕ) → Counts p events bytes → a ≡ min (p.events_consumed + 1) (2 ^ 64 - 1) → b ≡ min (p.bytes_written + n) (2 ^ 64 - 1) → Counts (record { events_consumed = a; bytes_written = b }) (events + 1) (bytes + n)
Counts-more p a b events bytes n c e f = record { events_consumed = omega (arith, c.events_consumed); bytes_written = omega (arith, c.bytes_written) }

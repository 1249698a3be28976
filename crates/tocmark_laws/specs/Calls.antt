-- A list of calls on one state, over one source, ended by `finish`.
use Rattle.std.specs.Prelude.{◌≡◌, ℕ, ◌<◌, ◌^◌, List, [], ◌∷◌, ◌++◌, take, Result, Ok, Err}
use Rattle.std.specs.List.{sum_by}
use Rattle.tocmark_event.specs.declared.event.flags.ParserOptions.{ParserOptions}
use Rattle.tocmark_event.specs.declared.options.Error.{Error}
use Rattle.tocmark_state.specs.declared.work.Progress.{Progress}
use Rattle.tocmark_state.specs.Ranges.{Pair}
use Rattle.tocmark_state.specs.StateView.{Adds, Ends}
use Rattle.tocmark_state.specs.Walk.{Rendering, Standing}

-- the pairs of all calls as one list
abbrev pub all_pairs : List (List Pair) → List Pair
all_pairs [] = []
all_pairs (q ∷ qs) = q ++ all_pairs qs

-- one call after the pairs p took the pairs q, and the writer went from w to u
pub record Call {W : Type 0} (gives refuses : W → List ℕ → W → Type 0) (how : Rendering) (flags : ParserOptions) (source : List ℕ) (p q : List Pair) (w : W) : Type 0 where
  pub answer : Result Progress Error
  pub place : Standing
  pub u : W
  pub added : Adds gives refuses w u how flags source answer place p q

-- after a call that succeeded they go on, and its counts come first; after one that was refused they end with its error
abbrev pub GoesOn : {W : Type 0} → Result Progress Error → W → W → List Progress → Result Progress Error → (List Progress → Type 0) → Type 0
GoesOn (Ok n) u v counts r more = (ns : List Progress) × (counts ≡ n ∷ ns) × more ns
GoesOn (Err e) u v counts r more = (counts ≡ []) × (u ≡ v) × (r ≡ Err e)

-- Calls that took these lists of pairs in turn, after the pairs p, up to the first that was refused, and then `finish`:
-- the writer went from w to v, those that succeeded answered these counts, and the last answer is r, that of `finish` or a refusal.
abbrev pub AreCalls : {W : Type 0} → (W → List ℕ → W → Type 0) → (W → List ℕ → W → Type 0) → Rendering → ParserOptions → List ℕ → List Pair → List (List Pair) → W → W → List Progress → Result Progress Error → Type 0
AreCalls gives refuses how flags source p [] w v counts r = (counts ≡ []) × Ends gives refuses w v how flags source r p
AreCalls gives refuses how flags source p (q ∷ qs) w v counts r =
    (c : Call gives refuses how flags source p q w) × GoesOn c.answer c.u v counts r (λ ns. AreCalls gives refuses how flags source (p ++ q) qs c.u v ns r)

-- counts whose sums are so many events and so many bytes, each unless it passes the greatest `usize`
pub record AddUpTo (events bytes : ℕ) (counts : List Progress) : Type 0 where
  pub events_consumed : events < 2 ^ 64 → sum_by (λ n. n.events_consumed) counts ≡ events
  pub bytes_written : bytes < 2 ^ 64 → sum_by (λ n. n.bytes_written) counts ≡ bytes

-- the pairs of the first so many calls
abbrev pub pairs_of_first : ℕ → List (List Pair) → List Pair
pairs_of_first n calls = all_pairs (take n calls)

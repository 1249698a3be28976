-- The manners in which a unit is tried ask for ASCII where their layouts choose among single bytes.
use Rattle.std.proofs.Common.{◌≡◌, sym, subst, ℕ, zero, suc, ◌<◌, Bool, true, false, ◌||◌, if◌then◌else◌, List, [], ◌∷◌, bytes_eq, codes, get_or, length, map, slice_index, arith, ⊎_elim}
use Rattle.std.specs.Prelude.{◌==◌}
use Rattle.std.specs.List.{AllByRecursion}
use Rattle.std.proofs.lemmas.Bool.{false≢true, or_cases}
use Rattle.std.proofs.lemmas.Bool.Decides.{Decides-eqb}
use Rattle.std.proofs.lemmas.Slice.Eq.{bytes_eq-Decides}
use Rattle.tocmark_event.specs.Options.{OptionsView}
use Rattle.tocmark_spelling.specs.Plan.{Manner, Plan}
use Rattle.tocmark_choose.specs.Candidates.{fallback_manners, other_emphasis, other_strong, source_manners}
use Rattle.tocmark_choose.specs.Choice.{has_standard_markers}
use Rattle.tocmark_choose.specs.TrialOf.{IsLow}
use Rattle.tocmark_choose.specs.Tries.{run_manners}
use Rattle.tocmark_choose.proofs.Trials.{both_true}

-- a fallback with each pair of markers
pub low-fallback : (p : Plan) → AllByRecursion IsLow (fallback_manners p)
low-fallback p = ((λ _. (omega arith, omega arith)), ((λ _. (omega arith, omega arith)), ((λ _. (omega arith, omega arith)), ((λ _. (omega arith, omega arith)), tt))))

low-emphasis : (e : ℕ) → ((e == 42) || (e == 95)) ≡ true → e < 128
low-emphasis e h =
    ⊎_elim (λ t. subst (λ n. n < 128) (sym ((Decides-eqb e 42).0 t)) (omega arith)) (λ t. subst (λ n. n < 128) (sym ((Decides-eqb e 95).0 t)) (omega arith)) (or_cases (e == 42) (e == 95) h)

low-strong : (t : List ℕ) → (bytes_eq t (codes "**") || bytes_eq t (codes "__")) ≡ true → slice_index t 0 < 128
low-strong t h =
    let first : bytes_eq t (codes "**") ≡ true → slice_index t 0 < 128 = λ b. subst (λ x. slice_index x 0 < 128) (sym ((bytes_eq-Decides t (codes "**")).0 b)) (omega arith) in
    let second : bytes_eq t (codes "__") ≡ true → slice_index t 0 < 128 = λ b. subst (λ x. slice_index x 0 < 128) (sym ((bytes_eq-Decides t (codes "__")).0 b)) (omega arith) in
    ⊎_elim first second (or_cases (bytes_eq t (codes "**")) (bytes_eq t (codes "__")) h)

low-other-emphasis : (e : ℕ) → other_emphasis e < 128
low-other-emphasis e = by (e == 42)
  where
    by : (b : Bool) → (if b then 95 else 42) < 128
    by true = omega arith
    by false = omega arith

low-other-strong : (t : List ℕ) → slice_index (other_strong t) 0 < 128
low-other-strong t = by (bytes_eq t (codes "**"))
  where
    by : (b : Bool) → slice_index (if b then codes "__" else codes "**") 0 < 128
    by true = omega arith
    by false = omega arith

module _ (o : OptionsView) (standard : has_standard_markers o ≡ true) where
  own-markers : (o.emphasis_token < 128) × (slice_index o.strong_token 0 < 128)
  own-markers =
      let each = both_true ((o.emphasis_token == 42) || (o.emphasis_token == 95)) (bytes_eq o.strong_token (codes "**") || bytes_eq o.strong_token (codes "__")) standard in
      (low-emphasis o.emphasis_token each.0, low-strong o.strong_token each.1)

  -- the manners from the source
  pub low-source : (del : Bool) → AllByRecursion IsLow (source_manners o del)
  low-source false = ((λ e. absurd (false≢true e)), tt)
  low-source true = ((λ e. absurd (false≢true e)), ((λ _. own-markers), tt))

  -- the preferred one, and those by runs
  pub low-runs : AllByRecursion IsLow (run_manners o)
  low-runs = ((λ e. absurd (false≢true e)), ((λ _. own-markers), ((λ _. (low-other-emphasis o.emphasis_token, own-markers.1)), ((λ _. (own-markers.0, low-other-strong o.strong_token)), ((λ _. (low-other-emphasis o.emphasis_token, low-other-strong o.strong_token)), tt)))))

-- a manner among those that ask for ASCII
pub low-at : {C : Type 0} (f : C → Manner) (xs : List C) (i : ℕ) (d : C) → i < length xs → AllByRecursion IsLow (map f xs) → IsLow (f (get_or xs i d))
low-at f [] i d lt h = absurd (omega arith)
low-at f (x ∷ xs) zero d lt h = h.0
low-at f (x ∷ xs) (suc i) d lt h = low-at f xs i d (omega arith) h.1

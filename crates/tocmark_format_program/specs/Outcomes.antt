-- What became of the texts of a call, and when it ends with status 0, and when with status 1.
use Rattle.std.specs.Prelude.{ℕ, Bool, true, false, not, ◌==◌, ◌&&◌, ◌||◌, ◌≡◌, ◌++◌, IsFalse, List, length, replicate}
use Rattle.std.specs.List.{list_any}
use Rattle.tocmark_format_program.specs.declared.outcome.Outcome.{Outcome}
use Rattle.tocmark_format_program.specs.declared.outcome.Terms.{Terms}

-- what became of a text is a reason for status 1: it failed, it would change and texts are checked, or it has a warning and the
-- call is strict
abbrev pub is_reason : Terms → Outcome → Bool
is_reason terms outcome =
    outcome.has_failed || (terms.checks && outcome.is_changed) || (terms.is_strict && not (outcome.warnings == 0))

-- the status of a call, from whether there is a reason for 1
abbrev pub status : Bool → ℕ
status true = 1
status false = 0

-- a text that failed
abbrev pub failed : Outcome
failed = record { is_changed = false; has_failed = true; warnings = 0 }

-- each of so many texts has an outcome after the old ones, unless one of them failed
pub record AreAnswered (texts : ℕ) (old new : List Outcome) : Type 0 where
  pub added : List Outcome
  pub comes : new ≡ old ++ added
  pub all : IsFalse (list_any (λ (o : Outcome). o.has_failed) added) → length added ≡ texts

-- a status follows from so many failures and the outcomes of so many texts
pub record EndsBy (terms : Terms) (failures texts answer : ℕ) : Type 0 where
  pub outcomes : List Outcome
  pub answered : AreAnswered texts (replicate failures failed) outcomes
  pub follows : answer ≡ status (list_any (is_reason terms) outcomes)

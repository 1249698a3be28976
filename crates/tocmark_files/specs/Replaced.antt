-- What was done to a file that is open.
use Rattle.std.specs.Prelude.{◌≡◌, ℕ, List, ◌∷◌, Bool}
use Rattle.tocmark_replace.specs.Steps.{Step, Found, Renamed, given, written}
use Rattle.tocmark_files.specs.declared.place.OpenFile.{OpenFile}

-- the steps of its replacements, the newest first
abbrev pub steps_on : OpenFile → List Step
steps_on file = file.log.steps

-- It was found to have the old text, and was then given the new one. If that is wanted, this was on the disk before.
abbrev pub IsGiven : List ℕ → List ℕ → Bool → OpenFile → OpenFile → Type 0
IsGiven old new syncs before after = steps_on after ≡ Renamed ∷ Found old ∷ written new syncs (steps_on before)

-- it was given no text
abbrev pub IsGivenNothing : OpenFile → OpenFile → Type 0
IsGivenNothing before after = given (steps_on after) ≡ given (steps_on before)

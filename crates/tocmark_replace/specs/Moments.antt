-- What a file has at each moment of a call.
use Rattle.std.specs.Prelude.{◌≡◌, ◌⊎◌, ℕ, List, [], ◌∷◌, ◌++◌}
use Rattle.tocmark_replace.specs.Steps.{Step, Made, Wrote, Tore, Synced, Found, FoundOther, Renamed, Removed, Left, Failed}
use Rattle.tocmark_replace.specs.Texts.{text_after}

-- the step leaves the file as it is
abbrev pub IsQuiet : Step → Type 0
IsQuiet Made = Unit {0}
IsQuiet (Wrote text) = Unit {0}
IsQuiet Tore = Unit {0}
IsQuiet Synced = Unit {0}
IsQuiet (Found text) = Unit {0}
IsQuiet FoundOther = Unit {0}
IsQuiet Renamed = ⊥
IsQuiet Removed = Unit {0}
IsQuiet Left = Unit {0}
IsQuiet Failed = Unit {0}

abbrev pub AreQuiet : List Step → Type 0
AreQuiet [] = Unit {0}
AreQuiet (step ∷ steps) = IsQuiet step × AreQuiet steps

-- further steps left the file as it was
abbrev pub Stays : List Step → List Step → Type 0
Stays before after = (more : List Step) × (after ≡ more ++ before) × AreQuiet more

-- after each of the further steps, the file had the text that it had before them, or the new one
abbrev pub HadOnly : List ℕ → List ℕ → List Step → List Step → Type 0
HadOnly new first before [] = Unit {0}
HadOnly new first before (step ∷ more) =
    ((text_after first (step ∷ (more ++ before)) ≡ text_after first before) ⊎ (text_after first (step ∷ (more ++ before)) ≡ new)) × HadOnly new first before more

-- the same, whatever text the file had at first
abbrev pub HasOldOrNew : List ℕ → List Step → List Step → Type 0
HasOldOrNew new before after = (more : List Step) × (after ≡ more ++ before) × ((first : List ℕ) → HadOnly new first before more)

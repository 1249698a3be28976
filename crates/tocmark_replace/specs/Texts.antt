-- The texts of a file and of the new one beside it, after steps.
use Rattle.std.specs.Prelude.{ℕ, List, [], ◌∷◌}
use Rattle.tocmark_replace.specs.Steps.{Draft, NoDraft, Whole, Torn, Step, Made, Wrote, Tore, Synced, Found, FoundOther, Renamed, Removed, Left, Failed, draft_of}

abbrev pub text_in : Draft → List ℕ
text_in NoDraft = []
text_in (Whole text is_synced) = text
text_in Torn = []

-- the text of the new file, or nothing
abbrev pub draft_text : List Step → List ℕ
draft_text steps = text_in (draft_of steps)

-- the text of a file that had this one at first
abbrev pub text_after : List ℕ → List Step → List ℕ
text_after first [] = first
text_after first (Made ∷ steps) = text_after first steps
text_after first (Wrote text ∷ steps) = text_after first steps
text_after first (Tore ∷ steps) = text_after first steps
text_after first (Synced ∷ steps) = text_after first steps
text_after first (Found text ∷ steps) = text_after first steps
text_after first (FoundOther ∷ steps) = text_after first steps
text_after first (Renamed ∷ steps) = draft_text steps
text_after first (Removed ∷ steps) = text_after first steps
text_after first (Left ∷ steps) = text_after first steps
text_after first (Failed ∷ steps) = text_after first steps

-- What the calls of a replacement did to a file and to the new one beside it.
use Rattle.std.specs.Prelude.{ℕ, suc, List, [], ◌∷◌, Bool, true, false, ◌<◌, ◌≡◌, ◌⊎◌, if◌then◌else◌, ◌==◌, slice_index}

-- a call, with its answer
pub data Step : Type 0 where
  -- an empty new file was made
  Made : Step
  -- this text was written to it
  Wrote : List ℕ → Step
  -- a part of a text may be in it
  Tore : Step
  -- what it has is on the disk
  Synced : Step
  -- the file was found by its name, with this text
  Found : List ℕ → Step
  -- another text was found, or another file
  FoundOther : Step
  -- the new file got the name of the file
  Renamed : Step
  -- the new file was removed
  Removed : Step
  -- the new file couldn't be removed
  Left : Step
  -- another call failed, and changed neither text
  Failed : Step

-- the new file beside a file
pub data Draft : Type 0 where
  NoDraft : Draft
  -- its text, and whether that is on the disk
  Whole : List ℕ → Bool → Draft
  -- a part of a text
  Torn : Draft

abbrev pub synced_draft : Draft → Draft
synced_draft NoDraft = NoDraft
synced_draft (Whole text is_synced) = Whole text true
synced_draft Torn = Torn

-- the new file after these steps, the newest first
abbrev pub draft_of : List Step → Draft
draft_of [] = NoDraft
draft_of (Made ∷ steps) = Whole [] false
draft_of (Wrote text ∷ steps) = Whole text false
draft_of (Tore ∷ steps) = Torn
draft_of (Synced ∷ steps) = synced_draft (draft_of steps)
draft_of (Found text ∷ steps) = draft_of steps
draft_of (FoundOther ∷ steps) = draft_of steps
draft_of (Renamed ∷ steps) = NoDraft
draft_of (Removed ∷ steps) = NoDraft
draft_of (Left ∷ steps) = draft_of steps
draft_of (Failed ∷ steps) = draft_of steps

abbrev pub IsWhole : Draft → Type 0
IsWhole NoDraft = ⊥
IsWhole (Whole text is_synced) = Unit {0}
IsWhole Torn = ⊥

-- a new file is given to the name of a file
abbrev pub with_draft : Draft → List (List ℕ × Bool) → List (List ℕ × Bool)
with_draft NoDraft before = before
with_draft (Whole text is_synced) before = (text, is_synced) ∷ before
with_draft Torn before = before

-- the texts that the file was given by these steps, the newest first, and whether each was on the disk before
abbrev pub given : List Step → List (List ℕ × Bool)
given [] = []
given (Made ∷ steps) = given steps
given (Wrote text ∷ steps) = given steps
given (Tore ∷ steps) = given steps
given (Synced ∷ steps) = given steps
given (Found text ∷ steps) = given steps
given (FoundOther ∷ steps) = given steps
given (Renamed ∷ steps) = with_draft (draft_of steps) (given steps)
given (Removed ∷ steps) = given steps
given (Left ∷ steps) = given steps
given (Failed ∷ steps) = given steps

-- how many of these steps failed
abbrev pub failures : List Step → ℕ
failures [] = 0
failures (Made ∷ steps) = failures steps
failures (Wrote text ∷ steps) = failures steps
failures (Tore ∷ steps) = suc (failures steps)
failures (Synced ∷ steps) = failures steps
failures (Found text ∷ steps) = failures steps
failures (FoundOther ∷ steps) = failures steps
failures (Renamed ∷ steps) = failures steps
failures (Removed ∷ steps) = failures steps
failures (Left ∷ steps) = suc (failures steps)
failures (Failed ∷ steps) = suc (failures steps)

-- the steps that write a text to a new file
abbrev pub written : List ℕ → Bool → List Step → List Step
written text true before = Synced ∷ Wrote text ∷ Made ∷ before
written text false before = Wrote text ∷ Made ∷ before

-- a step failed, and the file was given nothing
pub record Fails (before after : List Step) : Type 0 where
  pub nothing_given : given after ≡ given before
  pub cause : failures before < failures after

-- the last step removed the new file, or failed to
abbrev pub Clears : List Step → List Step → Type 0
Clears before after = (after ≡ Removed ∷ before) ⊎ (after ≡ Left ∷ before)

-- the step with a number, and the text that it is about
abbrev pub step_of : List ℕ → List ℕ → Step
step_of numbers text =
    let n = slice_index numbers 0 in
    if n == 0 then Made else
    (if n == 1 then Wrote text else
    (if n == 2 then Tore else
    (if n == 3 then Synced else
    (if n == 4 then Found text else
    (if n == 5 then FoundOther else
    (if n == 6 then Renamed else
    (if n == 7 then Removed else
    (if n == 8 then Left else Failed))))))))

-- What a call answers, and what it leaves in the room that it was lent.
use Rattle.std.specs.Prelude.{◌≡◌, ◌++◌, if◌then◌else◌, ℕ, ℤ, pos, negsuc, List, leb, length, drop}
use Rattle.tocmark_c.specs.Codes.{code_of, error_text, number_of}
use Rattle.tocmark_c.specs.declared.cause.Cause.{Cause}

-- a text is in the front of the room where that is large enough, and else nothing is written
abbrev pub laid : List ℕ → List ℕ → List ℕ
laid text room = if leb (length text) (length room) then text ++ drop (length text) room else room

-- A call answers how many bytes its text takes, which is laid into the room; or the code of what caused the refusal, and the
-- room is as it was.
abbrev pub IsAnswer : (List ℕ → Type 0) → (Cause → Type 0) → ℤ → List ℕ → List ℕ → Type 0
IsAnswer IsText IsCause (pos n) old new = (text : List ℕ) × IsText text × (length text ≡ n) × (new ≡ laid text old)
IsAnswer IsText IsCause (negsuc k) old new = (cause : Cause) × (code_of cause ≡ negsuc k) × IsCause cause × (new ≡ old)

-- the text of an error's code
abbrev pub IsErrorText : ℤ → List ℕ → Type 0
IsErrorText code text = text ≡ error_text (number_of code)

-- a call that is never refused
abbrev pub IsNever : Cause → Type 0
IsNever cause = ⊥

-- What a call answers, from what was said and what was laid.
use Rattle.std.proofs.Common.{◌≡◌, ℕ, ℤ, pos, List, sym, subst, refl, length, string_bytes, String, Result, Ok, Err}
use Rattle.std.specs.Global.{Global}
use Rattle.std.specs.Prelude.{IfOk, IfErr, MatchResult}
use Rattle.tocmark_c.specs.Answer.{IsAnswer, laid}
use Rattle.tocmark_c.specs.Codes.{code_of}
use Rattle.tocmark_c.specs.Place.{IsFilled, IsTold}
use Rattle.tocmark_c.specs.declared.cause.Cause.{Cause}
use Rattle.tocmark_c.specs.declared.place.TocmarkPlace.{TocmarkPlace}
use Rattle.tocmark_c.specs.declared.refusal.Refusal.{Refusal}

-- a text that is laid is answered
pub text_answered : (IsText : List ℕ → Type 0) (IsCause : Cause → Type 0) (text : List ℕ) (result : ℤ) (old new : List ℕ) → IsText text → result ≡ pos (length text) → new ≡ laid text old → IsAnswer IsText IsCause result old new
text_answered IsText IsCause text result old new is size laid =
    subst (λ (r : ℤ). IsAnswer IsText IsCause r old new) (sym size) (text, is, refl, laid)

-- so is a cause's code
pub cause_answered : (IsText : List ℕ → Type 0) (IsCause : Cause → Type 0) (cause : Cause) (result : ℤ) (old new : List ℕ) → IsCause cause → result ≡ code_of cause → new ≡ old → IsAnswer IsText IsCause result old new
cause_answered IsText IsCause cause result old new is code same =
    subst (λ (r : ℤ). IsAnswer IsText IsCause r old new) (sym code) (cause, refl, is, same)

-- what was said is answered
pub answered : (IsText : List ℕ → Type 0) (IsCause : Cause → Type 0) (said : Result (String Global) Cause) (result : ℤ) (old new : List ℕ) → IfOk said (λ s. IsText (string_bytes s)) → IfErr said IsCause → MatchResult said (λ text. (result ≡ pos (length (string_bytes text))) × (new ≡ laid (string_bytes text) old)) (λ cause. (result ≡ code_of cause) × (new ≡ old)) → IsAnswer IsText IsCause result old new
answered IsText IsCause (Ok s) result old new is cause h =
    text_answered IsText IsCause (string_bytes s) result old new is h.0 h.1
answered IsText IsCause (Err c) result old new is cause h =
    cause_answered IsText IsCause c result old new cause h.0 h.1

-- a text leaves a place as it was
pub place_kept : (n : ℕ) (result : ℤ) (old new : TocmarkPlace) → result ≡ pos n → new ≡ old → IsTold result old new
place_kept n result old new is same =
    subst (λ (r : ℤ). IsTold r old new) (sym is) same

-- a cause's code fills it
pub place_filled : (cause : Cause) (result : ℤ) (old new : TocmarkPlace) → result ≡ code_of cause → IsFilled old new → IsTold result old new
place_filled cause result old new is filled =
    subst (λ (r : ℤ). IsTold r old new) (sym is) filled

-- what is answered, and what is told of the place
abbrev AnswersAt : Result (String Global) Refusal → ℤ → List ℕ → List ℕ → TocmarkPlace → TocmarkPlace → Type 0
AnswersAt said result old new before after = MatchResult said (λ text. (result ≡ pos (length (string_bytes text))) × (new ≡ laid (string_bytes text) old) × (after ≡ before)) (λ refusal. (result ≡ code_of refusal.cause) × (new ≡ old) × IsFilled before after)

-- what was said is answered, with a place
pub answered_at : (IsText : List ℕ → Type 0) (IsCause : Cause → Type 0) (said : Result (String Global) Refusal) (result : ℤ) (old new : List ℕ) (before after : TocmarkPlace) → IfOk said (λ s. IsText (string_bytes s)) → IfErr said (λ refusal. IsCause refusal.cause) → AnswersAt said result old new before after → IsAnswer IsText IsCause result old new
answered_at IsText IsCause (Ok s) result old new before after is cause h =
    text_answered IsText IsCause (string_bytes s) result old new is h.0 h.1
answered_at IsText IsCause (Err refusal) result old new before after is cause h =
    cause_answered IsText IsCause refusal.cause result old new cause h.0 h.1

-- its place is told
pub told_at : (said : Result (String Global) Refusal) (result : ℤ) (old new : List ℕ) (before after : TocmarkPlace) → AnswersAt said result old new before after → IsTold result before after
told_at (Ok s) result old new before after h =
    place_kept (length (string_bytes s)) result before after h.0 h.2
told_at (Err refusal) result old new before after h =
    place_filled refusal.cause result before after h.0 h.2

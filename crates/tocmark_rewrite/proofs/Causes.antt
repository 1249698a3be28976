-- Why there is no answer.
use Rattle.std.proofs.Common.{◌≡◌, ℕ, List, subst, sym}
use Rattle.std.specs.Prelude.{IfErr, IsErrAnd, Result, Ok, Err}
use Rattle.tocmark_event.specs.Reading.{ReadingView}
use Rattle.tocmark_event.specs.View.{EventView}
use Rattle.tocmark_rewrite.specs.Edited.{HasItsCause, IsChanged, IsTriedInVain, IsVain}
use Rattle.tocmark_rewrite.specs.declared.fault.Fault.{Fault}
use Rattle.tocmark_rewrite.specs.declared.fault.Fault.TheVariants as fault

pub caused : (reading : List ℕ → ReadingView) (labels : List (List ℕ)) (source : List ℕ) (given : List EventView) (f : Fault) → labels ≡ (reading source).defined → IsChanged reading source given → IsVain reading labels source given f → HasItsCause reading source given f
caused reading labels source given fault.OutOfMemory e changed vain = vain
caused reading labels source given (fault.Refused place error) e changed vain = changed
caused reading labels source given (fault.ReadOtherwise place) e changed vain =
    (changed, subst (λ (ls : List (List ℕ)). IsTriedInVain reading ls source given) e vain)

pub if-err : {A B : Type 0} {P Q : B → Type 0} (r : Result A B) → ((e : B) → P e → Q e) → IfErr r P → IfErr r Q
if-err (Ok x) f h = h
if-err (Err e) f h = f e h

-- an error that is handed on
pub err-from : {A B : Type 0} (P : B → Type 0) (r : Result A B) (x : B) → IsErrAnd r (λ e. e ≡ x) → P x → IfErr r P
err-from P (Ok a) x h p = absurd h
err-from P (Err e) x h p = subst P (sym h) p

-- What begins with no part begins with no whole.
use Rattle.std.proofs.Common.{◌≡◌, List, ℕ, IfErr, IsErrAnd, Result, Ok, Err, subst, sym}
use Rattle.tocmark_documents.specs.Unpacked.{BeginsNone, Refuses}
use Rattle.tocmark_documents.specs.declared.packed.Fault.{Fault}
use Rattle.tocmark_documents.specs.declared.packed.Fault.TheVariants as fault

-- whatever the fault is
pub refused : {A : Type 0} (whole : A → List ℕ) (bytes : List ℕ) → BeginsNone whole bytes → (e : Fault) → Refuses whole bytes e
refused whole bytes lacks fault.NoneBegins = lacks
refused whole bytes lacks fault.OutOfMemory = tt

-- the fault of a part is one of the whole
pub lifted : {A B : Type 0} (part : A → List ℕ) (whole : B → List ℕ) (bytes more : List ℕ) → (BeginsNone part bytes → BeginsNone whole more) → (e : Fault) → Refuses part bytes e → Refuses whole more e
lifted part whole bytes more step fault.NoneBegins h = step h
lifted part whole bytes more step fault.OutOfMemory h = tt

-- the same where a `?` returns it
pub returned : {T A B : Type 0} (r : Result T Fault) (e : Fault) → IsErrAnd r (λ y. y ≡ e) → (part : A → List ℕ) (whole : B → List ℕ) (bytes more : List ℕ) → (BeginsNone part bytes → BeginsNone whole more) → Refuses part bytes e → IfErr r (Refuses whole more)
returned (Ok x) e is part whole bytes more step h = absurd is
returned (Err y) e is part whole bytes more step h = subst (λ (f : Fault). Refuses whole more f) (sym is) (lifted part whole bytes more step e h)

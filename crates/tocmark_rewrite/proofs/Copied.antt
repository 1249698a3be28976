-- Trees that are kept in the first part.
use Rattle.std.proofs.Common.{◌≡◌, sym, subst, ap, arith, refl, true≢false, ℕ, List, [], ◌∷◌, length, Option, Some, None, IsSome, IsTrue, get_or, slice_get}
use Rattle.std.specs.List.{All}
use Rattle.std.specs.Prelude.{IfSome}
use Rattle.tocmark_event.specs.View.{EventView}
use Rattle.tocmark_rewrite.specs.Kept.{AreCopied, HasEventsOf, IsCopiedFirst, IsFrom, IsKeptIn, is_kept}
use Rattle.tocmark_rewrite.specs.Lines.{HasItsLines}
use Rattle.tocmark_rewrite.specs.declared.answer.Fate.{Fate}
use Rattle.tocmark_rewrite.specs.declared.answer.Fate.TheVariants as fate
use Rattle.tocmark_rewrite.specs.declared.output.Part.{Part}
use Rattle.tocmark_rewrite.specs.declared.output.Part.TheVariants.{Source}
use Rattle.tocmark_rewrite.specs.declared.plan.Plan.{Plan}
use Rattle.tocmark_rewrite.specs.declared.trees.Block.{Block}
use Rattle.std.proofs.lemmas.Option.{get_or_from_slice_get, slice_get_within}

pub was-kept : (part : ℕ) (f : Fate) → IsKeptIn part f → IsTrue (is_kept f)
was-kept part (fate.Kept k) h = refl
was-kept part fate.Patched h = absurd h
was-kept part fate.Written h = absurd h

-- what is true of each item is true of the one at a place
pub all-at : {A : Type 0} (P : A → Type 0) (xs : List A) (k : ℕ) (x : A) → slice_get xs k ≡ Some x → All P xs → P x
all-at P xs k x e h = subst P (get_or_from_slice_get xs k x x e) (h k x (slice_get_within xs k x e))

-- what is kept of a source that one part copies is copied there
one-copied : (source : List ℕ) (parts : List Part) (blocks : List Block) (p : Plan) (kept : Option Block) → kept ≡ p.kept → parts ≡ Source 0 (length source) ∷ [] → All (HasItsLines source) blocks → IfSome kept (λ b. (k : ℕ) × (slice_get blocks k ≡ Some b)) → IsSome kept → IsCopiedFirst parts p
one-copied source parts blocks p None e one lines from is = absurd (true≢false (sym is))
one-copied source parts blocks p (Some b) e one lines from is =
    record { block = b; kept = sym e; copied = (0, length source, ap (λ ps. slice_get ps 0) one, omega arith, (all-at (HasItsLines source) blocks from.0 b from.1 lines).in_source) }

if-first : {A : Type 0} (P Q : A → Type 0) (o : Option A) → IfSome o (λ x. P x × Q x) → IfSome o P
if-first P Q None h = h
if-first P Q (Some x) h = h.0

pub all-copied : (source : List ℕ) (parts : List Part) (blocks : List Block) (found given : List EventView) (plans : List Plan) → parts ≡ Source 0 (length source) ∷ [] → All (HasItsLines source) blocks → All (IsFrom found given blocks) plans → All (λ (p : Plan). IsSome p.kept) plans → AreCopied parts plans
all-copied source parts blocks found given plans one lines from kept =
    λ i d l.
    let p = get_or plans i d in
    one-copied source parts blocks p p.kept refl one lines (if-first (λ (b : Block). (k : ℕ) × (slice_get blocks k ≡ Some b)) (λ (b : Block). HasEventsOf found given p.tree b) p.kept (from i d l)) (kept i d l)

-- Blocks that are the trees of the events that were given.
use Rattle.std.proofs.lemmas.List.{take_more, map-append}
use Rattle.std.proofs.Common.{◌≡◌, ◌∙◌, ◌+◌, ◌++◌, ap, ap₂, get_or, take, ℕ, zero, suc, ◌<◌, List, [], ◌∷◌, length, map, Option, Some, IsSome, refl, sym, subst, arith, slice_get, slice_index_or}
use Rattle.std.specs.Prelude.{IfSome}
use Rattle.tocmark_rewrite.specs.declared.trees.Block.{Block}
use Rattle.tocmark_rewrite.specs.declared.trees.Tree.{Tree}

-- the tree at a place is that of the block there
pub block-there : (blocks : List Block) (i : ℕ) (d : Tree) → i < length (map (λ (b : Block). b.tree) blocks) → (b : Block) × (slice_get blocks i ≡ Some b) × (b.tree ≡ slice_index_or (map (λ (b : Block). b.tree) blocks) i d)
block-there [] i d h = absurd (omega arith)
block-there (b ∷ bs) zero d h = (b, refl, refl)
block-there (b ∷ bs) (suc i) d h = block-there bs i d (omega arith)

-- what is true of what a lookup finds
pub if-some : {A : Type 0} (P : A → Type 0) (o : Option A) (x : A) → o ≡ Some x → IfSome o P → P x
if-some {A} P o x e h = subst (λ (p : Option A). IfSome p P) e h

pub some-is : {A : Type 0} {o : Option A} {x : A} → o ≡ Some x → IsSome o
some-is {A} {o} {x} e = subst (λ (p : Option A). IsSome p) (sym e) refl

-- one item more is listed, as it is in another list
pub listed-more : {A C : Type 0} (f : A → C) (made more : List A) (x : A) (items : List C) (i : ℕ) (d : C) → more ≡ made ++ x ∷ [] → map f made ≡ take i items → i < length items → f x ≡ get_or items i d → map f more ≡ take (i + 1) items
listed-more f made more x items i d e so_far l same =
    ap (map f) e
    ∙ map-append f made (x ∷ [])
    ∙ ap₂ (λ vs v. vs ++ v ∷ []) so_far same
    ∙ sym (take_more items i d l)

-- the same, of what is seen of both
pub seen-more : {A B C : Type 0} (f : A → C) (h : B → C) (made more : List A) (x : A) (items : List B) (i : ℕ) (d : B) → more ≡ made ++ x ∷ [] → map f made ≡ map h (take i items) → i < length items → f x ≡ h (get_or items i d) → map f more ≡ map h (take (i + 1) items)
seen-more f h made more x items i d e so_far l same =
    ap (map f) e
    ∙ map-append f made (x ∷ [])
    ∙ ap₂ (λ vs v. vs ++ v ∷ []) so_far same
    ∙ sym (map-append h (take i items) (get_or items i d ∷ []))
    ∙ sym (ap (map h) (take_more items i d l))

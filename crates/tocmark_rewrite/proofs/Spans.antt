-- The stretches of events that plans are for.
use Rattle.std.proofs.Common.{◌≡◌, ap, ap₂, refl, ℕ, List, [], ◌∷◌, map}
use Rattle.tocmark_rewrite.specs.Kept.{planned_span}
use Rattle.tocmark_rewrite.specs.Trees.{tree_at}
use Rattle.tocmark_rewrite.specs.declared.plan.Plan.{Plan}
use Rattle.tocmark_rewrite.specs.declared.trees.Tree.{Tree}

one-span : (ranges : List (ℕ × ℕ)) (p : Plan) (s : ℕ × ℕ) → p.tree ≡ tree_at ranges s → planned_span p ≡ s
one-span ranges p s e = ap (λ (t : Tree). (let span : ℕ × ℕ = (t.first, t.past) in span)) e

-- the plans are for the trees of the events
pub all-spans : (ranges spans : List (ℕ × ℕ)) (plans : List Plan) → map (λ (p : Plan). p.tree) plans ≡ map (tree_at ranges) spans → map planned_span plans ≡ spans
all-spans ranges [] [] e = refl
all-spans ranges (s ∷ ss) [] e = absurd (let is = e in cc)
all-spans ranges [] (p ∷ ps) e = absurd (let is = e in cc)
all-spans ranges (s ∷ ss) (p ∷ ps) e =
    let here : p.tree ≡ tree_at ranges s = let is = e in cc in
    let rest : map (λ (q : Plan). q.tree) ps ≡ map (tree_at ranges) ss = let is = e in cc in
    ap₂ (λ x xs. x ∷ xs) (one-span ranges p s here) (all-spans ranges ss ps rest)

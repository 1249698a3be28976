-- What is planned to be kept has the lines of its first event.
use Rattle.std.proofs.Common.{◌≡◌, ◌∙◌, sym, subst, ap, refl, ℕ, zero, suc, List, [], ◌∷◌, map, Option, Some, None, get_or, slice_get}
use Rattle.std.specs.List.{All}
use Rattle.std.specs.Prelude.{IfSome}
use Rattle.tocmark_event.specs.View.{EventView}
use Rattle.tocmark_rewrite.specs.Kept.{AreItsLines, HasEventsOf, IsFrom, IsHonest, ReadSource}
use Rattle.tocmark_rewrite.specs.Lines.{AreLinesOf, HasItsLines}
use Rattle.tocmark_rewrite.specs.Trees.{range_at, tree_at}
use Rattle.tocmark_rewrite.specs.declared.plan.Plan.{Plan}
use Rattle.tocmark_rewrite.specs.declared.trees.Block.{Block}
use Rattle.tocmark_rewrite.specs.declared.trees.Tree.{Tree}
use Rattle.tocmark_rewrite.proofs.Copied.{all-at}

-- a tree is where its first event is
tree-placed : (ranges : List (ℕ × ℕ)) (t : Tree) (s : ℕ × ℕ) → t ≡ tree_at ranges s → range_at ranges t.first ≡ (t.begins, t.ends)
tree-placed ranges t s e = subst (λ (u : Tree). range_at ranges u.first ≡ (u.begins, u.ends)) (sym e) refl

pub placed-at : (ranges spans : List (ℕ × ℕ)) (blocks : List Block) (k : ℕ) (b : Block) → map (λ (x : Block). x.tree) blocks ≡ map (tree_at ranges) spans → slice_get blocks k ≡ Some b → range_at ranges b.tree.first ≡ (b.tree.begins, b.tree.ends)
placed-at ranges spans [] k b e h = absurd (let is = h in cc)
placed-at ranges [] (x ∷ xs) k b e h = absurd (let is = e in cc)
placed-at ranges (s ∷ ss) (x ∷ xs) zero b e h =
    let here : x.tree ≡ tree_at ranges s = let is = e in cc in
    let same : x ≡ b = let is = h in cc in
    tree-placed ranges b.tree s (sym (ap (λ (y : Block). y.tree) same) ∙ here)
placed-at ranges (s ∷ ss) (x ∷ xs) (suc k) b e h =
    let rest : map (λ (y : Block). y.tree) xs ≡ map (tree_at ranges) ss = let is = e in cc in
    placed-at ranges ss xs k b rest h

lines-there : (r : ReadSource) (b : Block) → range_at r.ranges b.tree.first ≡ (b.tree.begins, b.tree.ends) → HasItsLines r.source b → AreItsLines r b.from b.to b.tree.first
lines-there r b e h = subst (λ (p : ℕ × ℕ). AreLinesOf r.source b.from b.to p.0 p.1) (sym e) h

one-honest : (r : ReadSource) (given : List EventView) (spans : List (ℕ × ℕ)) (blocks : List Block) (p : Plan) (kept : Option Block) → map (λ (x : Block). x.tree) blocks ≡ map (tree_at r.ranges) spans → All (HasItsLines r.source) blocks → IfSome kept (λ b. ((k : ℕ) × (slice_get blocks k ≡ Some b)) × HasEventsOf r.found given p.tree b) → IfSome kept (λ b. HasEventsOf r.found given p.tree b × AreItsLines r b.from b.to b.tree.first)
one-honest r given spans blocks p None e lines h = h
one-honest r given spans blocks p (Some b) e lines h =
    let there = h.0 in (
      h.1,
      lines-there r b (placed-at r.ranges spans blocks there.0 b e there.1) (all-at (HasItsLines r.source) blocks there.0 b there.1 lines),
    )

pub all-honest : (r : ReadSource) (given : List EventView) (spans : List (ℕ × ℕ)) (blocks : List Block) (plans : List Plan) → map (λ (x : Block). x.tree) blocks ≡ map (tree_at r.ranges) spans → All (HasItsLines r.source) blocks → All (IsFrom r.found given blocks) plans → All (IsHonest r given) plans
all-honest r given spans blocks plans e lines from =
    λ i d l. let p = get_or plans i d in one-honest r given spans blocks p p.kept e lines (from i d l)

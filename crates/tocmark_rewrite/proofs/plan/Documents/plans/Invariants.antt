use Rattle.std.specs.Prelude.{◌≡◌, IsSome, map, take}
use Rattle.std.specs.List.{All}
use Rattle.tocmark_compare.specs.Given.{given_events}
use Rattle.tocmark_rewrite.specs.Kept.{IsFrom}
use Rattle.tocmark_rewrite.specs.Trees.{ranges_of, trees_of}
use Rattle.tocmark_rewrite.specs.declared.plan.Plan.{Plan}
use Rattle.tocmark_rewrite.proofs.plan.Documents.plans.Given as goal

abbrev pub invariant-loop-at : goal.invariant-loop-at
invariant-loop-at l = record {
  trees : map (λ (p : Plan). p.tree) l.plans.items ≡ take l.at l.trees.items;
  kept : All (IsFrom (given_events l.self.found.now) (given_events l.self.given.now) l.self.blocks.now) l.plans.items;
  all : map (λ b. b.tree) l.self.blocks.now ≡ trees_of (given_events l.self.found.now) (ranges_of l.self.found.now)
      → given_events l.self.given.now ≡ given_events l.self.found.now
      → ranges_of l.self.given.now ≡ ranges_of l.self.found.now
      → All (λ (p : Plan). IsSome p.kept) l.plans.items × (l.next ≡ l.at);
}

use Rattle.std.proofs.Common.{◌≡◌, map, take}
use Rattle.std.specs.List.{All}
use Rattle.tocmark_rewrite.specs.Lines.{HasItsLines}
use Rattle.tocmark_rewrite.proofs.trees.blocks_in.Given as goal

abbrev pub invariant-loop-tree : goal.invariant-loop-tree
invariant-loop-tree l = record {
  trees : map (λ b. b.tree) l.all.items ≡ take l.tree-index l.tree-items;
  lines : All (HasItsLines l.bytes) l.all.items;
}

use Rattle.std.proofs.Common.{◌≡◌, ◌≤◌, ◌++◌, map, drop}
use Rattle.tocmark_compare.specs.Given.{given_events}
use Rattle.tocmark_rewrite.specs.Trees.{ranges_of, spans_from, tree_at, trees_of}
use Rattle.tocmark_rewrite.proofs.trees.trees.Given as goal

abbrev pub invariant-loop-i : goal.invariant-loop-i
invariant-loop-i l = record {
  rest : l.all.items ++ map (tree_at (ranges_of l.events)) (spans_from l.first l.i l.depth (given_events (drop l.i l.events))) ≡ trees_of (given_events l.events) (ranges_of l.events);
  deep : l.depth ≤ l.i;
}

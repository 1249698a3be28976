use Rattle.std.specs.Prelude.{◌≡◌, List, map, take}
use Rattle.std.specs.List.{All}
use Rattle.tocmark_event.specs.View.{EventView}
use Rattle.tocmark_rewrite.specs.Kept.{AreCopied, IsHonest, IsTold, ReadSource, WasKept, planned_span, span_of}
use Rattle.tocmark_rewrite.proofs.answer.told.Given as goal

abbrev pub invariant-loop-plan : goal.invariant-loop-plan
invariant-loop-plan l = record {
  trees : map span_of l.trees.items ≡ map planned_span (take l.plan-index l.plans);
  told : (r : ReadSource) (given : List EventView) → All (IsHonest r given) l.plans → All (IsTold r given l.parts) l.trees.items;
  all : AreCopied l.parts l.plans → All WasKept l.trees.items × (l.next ≡ 0);
}

use Rattle.std.proofs.Common.{map, drop}
use Rattle.serde_json.specs.Data.{string}
use Rattle.tocmark_json.proofs.Adding.{Goes}
use Rattle.tocmark_json.proofs.printing.print_classes.Given as goal

abbrev pub invariant-loop-class : goal.invariant-loop-class
invariant-loop-class g l = Goes (map string (map (g.T.Words.bytes) l.classes)) (map string (map (g.T.Words.bytes) (drop l.class-index l.classes))) l.later l.initial.out.items l.out.items

use Rattle.std.proofs.Common.{map, drop}
use Rattle.tocmark_json.specs.Json.{pair_json, ranged_view}
use Rattle.tocmark_json.proofs.Adding.{Goes}
use Rattle.tocmark_json.proofs.printing.print_ranged_events.Given as goal

abbrev pub invariant-loop-pair : goal.invariant-loop-pair
invariant-loop-pair g l = Goes (map pair_json (map (ranged_view g.T.Words.bytes) l.pairs)) (map pair_json (map (ranged_view g.T.Words.bytes) (drop l.pair-index l.pairs))) l.later l.initial.out.items l.out.items

use Rattle.std.proofs.Common.{map, drop}
use Rattle.tocmark_json.specs.Json.{located_json, located_view}
use Rattle.tocmark_json.proofs.Adding.{Goes}
use Rattle.tocmark_json.proofs.locating.print_all_located.Given as goal

abbrev pub invariant-loop-pair : goal.invariant-loop-pair
invariant-loop-pair g l = Goes (map located_json (map (located_view g.T.Words.bytes l.positions.bytes.now) l.pairs)) (map located_json (map (located_view g.T.Words.bytes l.positions.bytes.now) (drop l.pair-index l.pairs))) l.later l.initial.out.items l.out.items

use Rattle.std.proofs.Common.{◌≡◌, ◌++◌, drop, map}
use Rattle.tocmark_json.specs.Json.{located_view}
use Rattle.tocmark_json.specs.Printed.{located_lines}
use Rattle.tocmark_json.proofs.locating.indexed_to_lines.Given as goal

-- what is written, and the lines of what is left, are all lines
abbrev pub invariant-loop-pair : goal.invariant-loop-pair
invariant-loop-pair g l = l.out.items ++ located_lines (map (located_view g.T.Words.bytes l.positions.bytes.now) (drop l.pair-index l.pairs)) ≡ located_lines (map (located_view g.T.Words.bytes l.positions.bytes.now) l.pairs)

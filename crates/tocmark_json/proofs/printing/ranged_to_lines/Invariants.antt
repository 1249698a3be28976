use Rattle.std.proofs.Common.{◌≡◌, ◌++◌, drop, map}
use Rattle.tocmark_json.specs.Json.{ranged_view}
use Rattle.tocmark_json.specs.Printed.{lines_text}
use Rattle.tocmark_json.proofs.printing.ranged_to_lines.Given as goal

-- what is written, and the lines of what is left, are all lines
abbrev pub invariant-loop-pair : goal.invariant-loop-pair
invariant-loop-pair g l = l.out.items ++ lines_text (map (ranged_view g.T.Words.bytes) (drop l.pair-index l.pairs)) ≡ lines_text (map (ranged_view g.T.Words.bytes) l.pairs)

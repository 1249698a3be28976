use Rattle.std.proofs.Common.{◌≡◌, drop, reverse}
use Rattle.tocmark_read_spans.specs.Math.{partners_from}
use Rattle.tocmark_read_spans.proofs.Partners.{HoldFrom}
use Rattle.tocmark_read_spans.proofs.math.partners_among.Given as goal

-- under .rev() the loop's variable is the end of what is left
abbrev pub invariant-loop-place : goal.invariant-loop-place
invariant-loop-place l =
    record {
      levels : HoldFrom l.signs (reverse l.levels.items) l.place;
      found : reverse l.found.items ≡ partners_from l.place (drop l.place l.signs);
    }

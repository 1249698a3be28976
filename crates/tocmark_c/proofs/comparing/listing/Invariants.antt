use Rattle.tocmark_c.proofs.Listed.{Begun}
use Rattle.std.proofs.Common.{◌≡◌, []}
use Rattle.tocmark_c.proofs.comparing.listing.Given as goal

abbrev pub invariant-loop-difference : goal.invariant-loop-difference
invariant-loop-difference l = record {
  begun : Begun l.difference-index l.writer.tokens;
  before : l.writer.before ≡ [];
}

use Rattle.std.proofs.Common.{map}
use Rattle.tocmark_links.proofs.Parts.{gone_out, out-when}
use Rattle.tocmark_links.proofs.paths.go_all.Goals as goal

pub returns-then-not-branch : goal.returns-then-not-branch
returns-then-not-branch c =
    gone_out (map (λ p. p.now) c.loop-part.place.items) (map (λ p. p.now) c.args.place.now.items) c.args.parts.now c.loop-part.part-index _ c.loop-part.invariant c.loop-part-test.true (out-when _ _ _ c.in_ok-go.ensures c.if-not-branch.true)

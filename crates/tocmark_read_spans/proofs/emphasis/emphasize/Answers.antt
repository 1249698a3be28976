use Rattle.std.proofs.Common.{rules, ◌<◌, ◌∙◌, length, arith}
use Rattle.tocmark_read_spans.specs.Role.{roles_of}
use Rattle.tocmark_read_spans.specs.Emphasis.{openers}
use Rattle.tocmark_read_spans.proofs.Stacks.{taken_on}
use Rattle.tocmark_read_spans.proofs.emphasis.emphasize.Goals as goal

pub loop-at-preserved : goal.loop-at-preserved
loop-at-preserved c =
    let kept = c.in_ok-take.ensures.kept in
    let low = c.loop-at.invariant.0 in
    let within : c.loop-at.at < length c.loop-at.runs = search rules in (
      omega (arith, kept.0, low),
      taken_on (openers (roles_of c.loop-at.roles) c.loop-at.runs c.loop-at.machine) (openers (roles_of c.take.new.roles) c.take.new.runs c.take.new.self) c.loop-at.runs c.take.new.runs c.loop-at.at c.loop-at.machine.height c.take.new.self.height _ within low kept c.in_ok-take.ensures.step ∙ c.loop-at.invariant.1,
    )

use Rattle.std.proofs.Common.{◌∙◌, ap, sym, Some, arith}
use Rattle.tocmark_spelling.specs.Buffered.{event_of}
use Rattle.tocmark_write_unit.proofs.Events.{front-before}
use Rattle.tocmark_write_unit.proofs.turn.previous_of.Goals as goal

pub returns-else-i-eq0 : goal.returns-else-i-eq0
returns-else-i-eq0 c =
    ap (λ b. Some (event_of b)) (sym c.index-events-i.is)
    ∙ front-before c.args.events.now c.args.i c.index-events-i.result (omega (arith, c.if-i-eq0.false)) (omega (arith, c.requires, c.if-i-eq0.false)) c.index-events-i.is

use Rattle.std.proofs.Common.{◌∙◌, ap, false, sym}
use Rattle.tocmark_write_pending.specs.Pending.{PendingView}
use Rattle.tocmark_write_pending.specs.Waiting.{has_ambiguous_list}
use Rattle.tocmark_write_pending.proofs.Ambiguous.{waits-balanced, waits-unbalanced}
use Rattle.tocmark_write_pending.proofs.pending.Pending.needs_placeholder.Goals as goal

pub returns-then-is_whole : goal.returns-then-is_whole
returns-then-is_whole c =
    c.self.invariant.0.ambiguity
    ∙ ap (λ (p : PendingView). has_ambiguous_list false p.events) c.self.view_is
    ∙ waits-balanced c.args.self.now.events (sym c.if-is_whole.ensures.whole)

pub returns-else-is_whole : goal.returns-else-is_whole
returns-else-is_whole c =
    c.if-is_whole.false ∙ waits-unbalanced c.args.self.now.events (sym c.if-is_whole.ensures.whole)

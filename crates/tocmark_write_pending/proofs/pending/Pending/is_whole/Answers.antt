use Rattle.std.proofs.Common.{◌≡◌, ◌∙◌, ap, length, map}
use Rattle.std.specs.Prelude.{is_some, ◌==◌}
use Rattle.tocmark_spelling.specs.Buffered.{buffered_view}
use Rattle.tocmark_write_pending.specs.Pending.{PendingView}
use Rattle.tocmark_write_pending.specs.PendingOf.{ends_awaited}
use Rattle.tocmark_write_pending.specs.Units.{trees_of}
use Rattle.tocmark_write_pending.proofs.Balanced.{reading-whole}
use Rattle.tocmark_write_pending.proofs.Joined.{awaited-count}
use Rattle.tocmark_write_pending.proofs.pending.Pending.is_whole.Goals as goal

pub returns-clause-whole : goal.returns-clause-whole
returns-clause-whole c =
    let containers = c.self.inside.containers in
    let closed : c.is_empty.result ≡ (length (ends_awaited containers.items) == 0) = cc (containers.ok.0, c.is_empty.ensures, awaited-count containers.items) in
    closed
    ∙ reading-whole (map buffered_view c.self.inside.events.items) (ends_awaited containers.items) c.self.invariant.0.nested
    ∙ ap (λ (p : PendingView). is_some (trees_of p.events)) c.self.view_is

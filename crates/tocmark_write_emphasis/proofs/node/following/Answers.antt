use Rattle.std.proofs.Common.{◌∙◌, ap, sym, Some, arith}
use Rattle.tocmark_spelling.specs.Buffered.{event_of, following_view}
use Rattle.tocmark_write_emphasis.proofs.Nodes.{front-behind, none-behind}
use Rattle.tocmark_write_emphasis.proofs.node.following.Goals as goal

pub returns-then-place-saturating_sub : goal.returns-then-place-saturating_sub
returns-then-place-saturating_sub c =
    ap (λ b. Some (event_of b)) (sym c.index-events-place.is)
    ∙ front-behind c.args.events.now c.args.place c.index-events-place.result (following_view c.args.next) (omega (arith, c.if-place-saturating_sub.true, c.saturating_sub.ensures)) c.index-events-place.is

pub returns-else-place-saturating_sub : goal.returns-else-place-saturating_sub
returns-else-place-saturating_sub c =
    none-behind c.args.events.now c.args.place (following_view c.args.next) (omega (arith, c.if-place-saturating_sub.false, c.saturating_sub.ensures))

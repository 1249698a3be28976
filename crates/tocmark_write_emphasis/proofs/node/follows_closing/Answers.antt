use Rattle.std.proofs.Common.{◌∙◌, ap, arith}
use Rattle.tocmark_spelling.specs.Marker.{ends_delimiter}
use Rattle.tocmark_write_emphasis.proofs.Nodes.{front-before}
use Rattle.tocmark_write_emphasis.proofs.node.follows_closing.Goals as goal

pub returns-else-place-eq0 : goal.returns-else-place-eq0
returns-else-place-eq0 c =
    c.ends_delimiter.ensures
    ∙ ap ends_delimiter (front-before c.args.events.now c.args.place c.index-events-place.result (omega (arith, c.if-place-eq0.false)) (omega (arith, c.requires, c.if-place-eq0.false)) c.index-events-place.is)

use Rattle.std.proofs.Common.{◌∙◌, ap, map, take}
use Rattle.tocmark_spelling.specs.Buffered.{buffered_view}
use Rattle.tocmark_write_inlines.proofs.Names.{body-is}
use Rattle.tocmark_write_inlines.proofs.named.body_behind.Goals as goal

pub returns : goal.returns
returns c = λ t rest at.
    ap (map buffered_view) (c.first_of.ensures ∙ ap (take c.saturating_sub-width.result) c.rest_of.ensures)
    ∙ body-is c.args.events.now t rest c.args.i c.saturating_sub-width.result c.body_end.result at (c.body_end.ensures.start (map buffered_view c.args.events.now) t rest c.requires.ends at) c.saturating_sub-width.ensures

use Rattle.std.proofs.Common.{◌∙◌, map}
use Rattle.tocmark_spelling.specs.Buffered.{buffered_view}
use Rattle.tocmark_write_emphasis.proofs.Nodes.{next-is}
use Rattle.tocmark_write_emphasis.proofs.node.next_in_unit.Goals as goal

pub returns : goal.returns
returns c = λ t rest begins. c.following.ensures ∙ next-is (map buffered_view c.args.events.now) rest c.args.place c.body_end.result t (c.body_end.ensures.start (map buffered_view c.args.events.now) t rest c.requires.ends begins.at) begins

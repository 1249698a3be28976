use Rattle.std.proofs.Common.{[]}
use Rattle.tocmark_judge.proofs.judge.Judge.outline_of.Goals as goal

pub returns : goal.returns
returns g c = c.in_ok-read_parts.ensures.taken [] c.new-outline.ensures

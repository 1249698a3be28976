use Rattle.tocmark_judge.proofs.Marking.{stripped}
use Rattle.tocmark_judge.proofs.mark.without_mark.Goals as goal

pub returns : goal.returns
returns c = stripped c.args.text.now c.strip_prefix.result c.strip_prefix.ensures.cases

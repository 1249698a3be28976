use Rattle.tocmark_links.proofs.Cutting.{before-text}
use Rattle.tocmark_links.proofs.tree.before.Goals as goal

pub returns : goal.returns
returns c = before-text c.args.path.now c.args.ending.now c.strip_suffix.result c.strip_suffix.ensures.cases

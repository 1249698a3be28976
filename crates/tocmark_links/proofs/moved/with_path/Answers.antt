use Rattle.std.proofs.Common.{rules}
use Rattle.tocmark_links.proofs.moved.with_path.Goals as goal

pub returns : goal.returns
returns c = (c.rest_of.result.now, c.rest_of.ensures, search rules)

use Rattle.tocmark_links.proofs.Back.{leads-back}
use Rattle.tocmark_links.proofs.paths.relative_leads_back.Goals as goal

pub returns : goal.returns
returns c = leads-back c.args.folder.now c.args.target.now

use Rattle.tocmark_write_emphasis.proofs.Stars.{star-is}
use Rattle.tocmark_write_emphasis.proofs.preferred.is_star.Goals as goal

pub returns : goal.returns
returns c = star-is c.args.marker

use Rattle.std.proofs.Common.{refl}
use Rattle.tocmark.proofs.token_count.Seen.longest.Goals as goal

pub returns : goal.returns
returns c = rw (c.max.ensures, c.longest.ensures 96, c.longest-2.ensures 126) refl

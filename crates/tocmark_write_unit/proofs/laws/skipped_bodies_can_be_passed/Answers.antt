use Rattle.tocmark_write_unit.proofs.Jumps.{passes-body}
use Rattle.tocmark_write_unit.proofs.laws.skipped_bodies_can_be_passed.Goals as goal

pub returns : goal.returns
returns c = passes-body

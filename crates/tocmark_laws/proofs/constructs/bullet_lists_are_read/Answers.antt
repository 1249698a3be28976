use Rattle.tocmark_laws.proofs.BulletReading.{bullets_read}
use Rattle.tocmark_laws.proofs.constructs.bullet_lists_are_read.Goals as goal

pub returns : goal.returns
returns c syntax bullet l ms is plain fits = bullets_read syntax bullet l ms is plain fits

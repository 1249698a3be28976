use Rattle.tocmark_reader.proofs.PlainRanges.{ranges_kept}
use Rattle.tocmark_reader.proofs.laws.plain_ranges_are_kept.Goals as goal

pub returns : goal.returns
returns c l ms plain fits = ranges_kept l ms plain fits

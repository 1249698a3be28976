use Rattle.tocmark_spelling.proofs.ForestLaws.{flat-same}
use Rattle.tocmark_spelling.proofs.laws.forests_are_unique.Goals as goal

pub returns : goal.returns
returns c = record { plain = flat-same; sourced = flat-same }

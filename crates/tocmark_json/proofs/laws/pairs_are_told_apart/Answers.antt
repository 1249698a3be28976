use Rattle.tocmark_json.proofs.Inverse.{pairs-told-apart}
use Rattle.tocmark_json.proofs.laws.pairs_are_told_apart.Goals as goal

pub returns : goal.returns
returns c ps qs same = pairs-told-apart ps qs same

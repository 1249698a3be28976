use Rattle.tocmark_json.proofs.Inverse.{located-told-apart}
use Rattle.tocmark_json.proofs.laws.located_pairs_are_told_apart.Goals as goal

pub returns : goal.returns
returns c value ps qs h k = located-told-apart value ps qs h k

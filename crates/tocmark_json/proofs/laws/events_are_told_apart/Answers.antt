use Rattle.tocmark_json.proofs.Inverse.{events-told-apart}
use Rattle.tocmark_json.proofs.laws.events_are_told_apart.Goals as goal

pub returns : goal.returns
returns c es fs same = events-told-apart es fs same

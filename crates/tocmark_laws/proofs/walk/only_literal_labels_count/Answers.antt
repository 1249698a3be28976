use Rattle.tocmark_laws.proofs.LiteralLabels.{script_alike}
use Rattle.tocmark_laws.proofs.walk.only_literal_labels_count.Goals as goal

pub returns : goal.returns
returns c defined options reading source s texts p same = script_alike defined options reading source s texts p same

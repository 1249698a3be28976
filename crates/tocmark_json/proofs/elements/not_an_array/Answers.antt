use Rattle.tocmark_json.specs.Node.{view}
use Rattle.tocmark_json.proofs.Taking.{no_list}
use Rattle.tocmark_json.proofs.Whole.{no_array}
use Rattle.tocmark_json.proofs.elements.not_an_array.Goals as goal

pub returns-in-Ok : goal.returns-in-Ok
returns-in-Ok c =
    let d = view c.in-Ok._node in
    (d, c.in-Ok.ensures.value, no_list d (no_array c.args.text.now d c.requires c.in-Ok.ensures.value))

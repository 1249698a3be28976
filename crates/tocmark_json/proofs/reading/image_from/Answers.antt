use Rattle.std.proofs.Common.{codes}
use Rattle.tocmark_json.specs.Node.{view}
use Rattle.tocmark_json.specs.Json.{tag_json, tagged, target_json}
use Rattle.tocmark_json.proofs.Refusals.{no_image, returned}
use Rattle.tocmark_json.proofs.reading.image_from.Goals as goal

pub returns-in_err-link_type-clause-refused : goal.returns-in_err-link_type-clause-refused
returns-in_err-link_type-clause-refused g c =
    let v = view c.args.value.now in
    returned c.from_residual.result c.in_err-link_type.field-0.0 c.from_residual.ensures.1 target_json tag_json v (tagged (codes "Image") v) (no_image v) c.in_err-link_type.ensures.refused

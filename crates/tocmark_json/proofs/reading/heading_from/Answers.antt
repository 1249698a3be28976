use Rattle.std.proofs.Common.{codes}
use Rattle.serde_json.specs.Data.{string}
use Rattle.tocmark_json.specs.Node.{view}
use Rattle.tocmark_json.specs.Json.{attribute_json, level_json, listed, optional, tag_json, tagged}
use Rattle.tocmark_json.proofs.Refusals.{no_heading, refused}
use Rattle.tocmark_json.proofs.reading.heading_from.Goals as goal

pub returns-in_default-clause-refused : goal.returns-in_default-clause-refused
returns-in_default-clause-refused g c =
    let v = view c.args.value.now in
    refused tag_json (tagged (codes "Heading") v) (no_heading v (λ l id cs vs h. c.in_default.ensures.none (listed attribute_json vs) (listed string cs) (optional string id) (level_json l) h)) c.wanted.result

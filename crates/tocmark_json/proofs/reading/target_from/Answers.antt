use Rattle.serde_json.specs.Data.{string}
use Rattle.tocmark_json.specs.Node.{view}
use Rattle.tocmark_json.specs.Json.{link_type_json, target_json}
use Rattle.tocmark_json.proofs.Refusals.{refused}
use Rattle.tocmark_json.proofs.reading.target_from.Goals as goal

pub returns-in_default-clause-refused : goal.returns-in_default-clause-refused
returns-in_default-clause-refused g c =
    refused target_json (view c.args.value.now) (λ t h. c.in_default.ensures.none (string t.1) (string t.3) (link_type_json t.0) (string t.2) h) c.wanted.result

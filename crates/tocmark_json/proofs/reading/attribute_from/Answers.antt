use Rattle.std.proofs.Common.{refl}
use Rattle.serde_json.specs.Data.{item, no_items, string}
use Rattle.tocmark_json.specs.Node.{view}
use Rattle.tocmark_json.specs.Json.{attribute_json, optional}
use Rattle.tocmark_json.proofs.Refusals.{refused}
use Rattle.tocmark_json.proofs.reading.attribute_from.Goals as goal

pub returns-in_default-clause-refused : goal.returns-in_default-clause-refused
returns-in_default-clause-refused g c =
    refused attribute_json (view c.args.value.now) (λ a h. c.in_default.ensures.none (item (string a.0) (item (optional string a.1) no_items)) h refl) c.wanted.result

use Rattle.std.proofs.Common.{◌∙◌, ap, refl, sym}
use Rattle.serde_json.specs.Data.{item, no_items}
use Rattle.tocmark_json.specs.Node.{view}
use Rattle.tocmark_json.specs.Json.{event_json, located_json, location_json, place_json}
use Rattle.tocmark_json.proofs.Inverse.{item_at, items_in}
use Rattle.tocmark_json.proofs.Refusals.{refused, returned}
use Rattle.tocmark_json.proofs.reading.pair_from_json.Goals as goal

pub returns-in_default-clause-refused : goal.returns-in_default-clause-refused
returns-in_default-clause-refused g c =
    refused located_json (view c.args.value.now) (λ l h. c.in_default.ensures.none (item (event_json l.0.0) (item (location_json l.0.1 l.1) no_items)) h refl) c.wanted.result

pub returns-in_err-location-clause-refused : goal.returns-in_err-location-clause-refused
returns-in_err-location-clause-refused g c =
    returned c.from_residual.result c.in_err-location.field-0.0 c.from_residual.ensures.1 place_json located_json (view c.in-Some.range.now) (view c.args.value.now) (λ lacks l h. lacks (l.0.1, l.1) (ap (λ d. item_at 1 (items_in d)) (sym c.in-Some.ensures.found ∙ h))) c.in_err-location.ensures.refused

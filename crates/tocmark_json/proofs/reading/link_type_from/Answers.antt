use Rattle.std.proofs.Common.{Bool}
use Rattle.tocmark_json.specs.Node.{view}
use Rattle.tocmark_event.specs.declared.event.LinkType.TheVariants as link
use Rattle.tocmark_json.specs.Json.{link_type_json}
use Rattle.tocmark_json.proofs.Refusals.{handed_on, no_link_type}
use Rattle.tocmark_json.proofs.reading.link_type_from.Goals as goal

pub returns-in_default-clause-refused : goal.returns-in_default-clause-refused
returns-in_default-clause-refused c =
    let v = view c.args.value.now in
    handed_on c.wiki_link_from.result (λ (b : Bool). link_type_json (link.WikiLink b)) link_type_json v v (no_link_type v c.in_default.ensures.none) c.wiki_link_from.ensures.refused

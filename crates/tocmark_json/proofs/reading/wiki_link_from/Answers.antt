use Rattle.std.proofs.Common.{◌∙◌, Bool, ap, sym}
use Rattle.serde_json.specs.Data.{boolean}
use Rattle.tocmark_json.specs.Node.{view}
use Rattle.tocmark_event.specs.declared.event.LinkType.TheVariants as link
use Rattle.tocmark_json.specs.Json.{link_type_json}
use Rattle.tocmark_json.proofs.Inverse.{content}
use Rattle.tocmark_json.proofs.Refusals.{refused}
use Rattle.tocmark_json.proofs.reading.wiki_link_from.Goals as goal

pub returns-in_default-one_named-clause-refused : goal.returns-in_default-one_named-clause-refused
returns-in_default-one_named-clause-refused c =
    refused (λ (b : Bool). link_type_json (link.WikiLink b)) (view c.args.value.now) (λ b h. c.in_default-one_named.ensures.none (boolean b) (ap (content 0) (sym c.in-Some.ensures.found ∙ h))) c.wanted-in_default-one_named.result

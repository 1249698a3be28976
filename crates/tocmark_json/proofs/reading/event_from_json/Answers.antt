use Rattle.tocmark_json.specs.Node.{view}
use Rattle.tocmark_json.specs.Json.{event_json}
use Rattle.tocmark_json.proofs.Forms.{no_event_form}
use Rattle.tocmark_json.proofs.Refusals.{refused}
use Rattle.tocmark_json.proofs.reading.event_from_json.Goals as goal

pub returns-in-None-only_member-clause-refused : goal.returns-in-None-only_member-clause-refused
returns-in-None-only_member-clause-refused g c =
    let v = view c.args.value.now in
    refused event_json v (no_event_form v c.in_default.ensures.none c.in-None-only_member.ensures.none) c.wanted-in-None-only_member.result

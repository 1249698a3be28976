use Rattle.tocmark_json.specs.Node.{view}
use Rattle.tocmark_json.specs.Json.{end_json}
use Rattle.tocmark_json.proofs.Forms.{no_end_form}
use Rattle.tocmark_json.proofs.Refusals.{refused}
use Rattle.tocmark_json.proofs.reading.end_from.Goals as goal

pub returns-in-None-only_member-clause-refused : goal.returns-in-None-only_member-clause-refused
returns-in-None-only_member-clause-refused c =
    let v = view c.args.value.now in
    refused end_json v (no_end_form v c.in_default.ensures.none c.in-None-only_member.ensures.none) c.wanted-in-None-only_member.result

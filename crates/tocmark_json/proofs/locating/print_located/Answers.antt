use Rattle.std.proofs.Common.{subst}
use Rattle.std.specs.Prelude.{OnOk}
use Rattle.tocmark_event.specs.View.{event_view}
use Rattle.tocmark_json.specs.Destinations.{details_of}
use Rattle.tocmark_json.specs.Json.{detailed_json, event_json}
use Rattle.tocmark_json.specs.Printed.{Follows}
use Rattle.tocmark_json.specs.declared.positions.Details.{Details}
use Rattle.tocmark_json.proofs.Adding.{both_added}
use Rattle.tocmark_json.proofs.locating.print_located.Goals as goal

pub returns : goal.returns
returns g c =
    let range = c.args.pair.now.1 in
    let event = event_view g.T.Words.bytes c.args.pair.now.0 in
    let details = details_of c.args.positions.now.bytes.now event range in
    both_added c.print_detailed.result c.args.out.now.items c.push.new.out.items c.print_event.new.out.items c.print_detailed.new.out.items
    (event_json event) (detailed_json range details)
    c.in_ok-push.ensures c.in_ok-print_event.ensures
    (subst (λ (d : Details). OnOk c.print_detailed.result (Follows (detailed_json range d) c.print_event.new.out.items c.print_detailed.new.out.items)) c.in_ok-details.ensures c.print_detailed.ensures)

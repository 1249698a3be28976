use Rattle.tocmark_event.specs.View.{event_view}
use Rattle.tocmark_json.specs.Json.{event_json, optional, range_json}
use Rattle.tocmark_json.proofs.Adding.{both_added}
use Rattle.tocmark_json.proofs.printing.print_pair.Goals as goal

pub returns : goal.returns
returns g c =
    both_added c.print_place.result c.args.out.now.items c.push.new.out.items c.print_event.new.out.items c.print_place.new.out.items (event_json (event_view g.T.Words.bytes c.args.event.now)) (optional range_json c.args.range)
    c.in_ok-push.ensures c.in_ok-print_event.ensures c.print_place.ensures

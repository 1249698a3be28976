use Rattle.std.proofs.Common.{codes, map}
use Rattle.json.specs.Print.{escape_byte}
use Rattle.std.specs.Option.{option_map}
use Rattle.tocmark_event.specs.View.{attribute_view}
use Rattle.tocmark_json.specs.Json.{heading_json}
use Rattle.tocmark_json.proofs.Adding.{tagged_closed}
use Rattle.tocmark_json.proofs.printing.print_heading.Goals as goal

pub returns : goal.returns
unfolding escape_byte
returns g c =
    tagged_closed c.push-2.result c.args.out.now.items c.push.new.out.items c.print_heading_content.new.out.items c.push-2.new.out.items (codes "Heading") (heading_json c.args.level (option_map g.T.Words.bytes c.args.id.now) (map g.T.Words.bytes c.args.classes.now) (map (attribute_view g.T.Words.bytes) c.args.attrs.now)) c.in_ok-push.ensures c.in_ok-print_heading_content.ensures c.push-2.ensures

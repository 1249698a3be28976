use Rattle.std.proofs.Common.{codes}
use Rattle.json.specs.Print.{escape_byte}
use Rattle.tocmark_event.specs.View.{tag_view}
use Rattle.tocmark_json.specs.Json.{tag_json}
use Rattle.tocmark_json.proofs.Adding.{tagged_added}
use Rattle.tocmark_json.proofs.printing.print_started.Goals as goal

pub returns : goal.returns
unfolding escape_byte
returns g c = tagged_added c.print_tag.result c.args.out.now.items c.push.new.out.items c.print_tag.new.out.items (codes "Start") (tag_json (tag_view g.T.Words.bytes c.args.tag.now)) c.in_ok-push.ensures c.print_tag.ensures

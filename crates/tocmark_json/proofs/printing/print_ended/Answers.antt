use Rattle.std.proofs.Common.{codes}
use Rattle.json.specs.Print.{escape_byte}
use Rattle.tocmark_json.specs.Json.{end_json}
use Rattle.tocmark_json.proofs.Adding.{tagged_added}
use Rattle.tocmark_json.proofs.printing.print_ended.Goals as goal

pub returns : goal.returns
unfolding escape_byte
returns c = tagged_added c.print_end.result c.args.out.now.items c.push.new.out.items c.print_end.new.out.items (codes "End") (end_json c.args.end) c.in_ok-push.ensures c.print_end.ensures

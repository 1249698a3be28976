use Rattle.std.proofs.Common.{codes}
use Rattle.json.specs.Print.{escape_byte}
use Rattle.tocmark_json.specs.Json.{alignment_json, listed}
use Rattle.tocmark_json.proofs.Adding.{tagged_closed}
use Rattle.tocmark_json.proofs.printing.print_table.Goals as goal

pub returns : goal.returns
unfolding escape_byte
returns c =
    tagged_closed c.push-2.result c.args.out.now.items c.push.new.out.items c.print_alignments.new.out.items c.push-2.new.out.items (codes "Table") (listed alignment_json c.args.alignments.now) c.in_ok-push.ensures c.in_ok-print_alignments.ensures c.push-2.ensures

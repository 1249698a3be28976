use Rattle.tocmark_json.proofs.Adding.{string_added}
use Rattle.tocmark_json.proofs.printing.print_name.Goals as goal

pub returns : goal.returns
returns c = string_added c.push_string.result c.args.out.now.items c.push_string.new.out.items c.args.name.now c.push_string.ensures

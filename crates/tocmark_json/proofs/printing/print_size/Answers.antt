use Rattle.std.proofs.Common.{rules}
use Rattle.tocmark_json.proofs.Adding.{size_added}
use Rattle.tocmark_json.proofs.printing.print_size.Goals as goal

pub returns : goal.returns
returns c = size_added c.push.result c.args.out.now.items c.push.new.out.items c.args.size (search rules) (rw (c.as_bytes.ensures.value, c.format.ensures.text) at c.push.ensures)

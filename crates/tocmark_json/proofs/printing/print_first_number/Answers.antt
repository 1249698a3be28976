use Rattle.serde_json.specs.Data.{null}
use Rattle.tocmark_json.proofs.Adding.{brought, null_sound}
use Rattle.tocmark_json.proofs.printing.print_first_number.Goals as goal

pub returns-in-None : goal.returns-in-None
returns-in-None c = rw c.in-None.is (brought c.push.result c.args.out.now.items c.push.new.out.items _ null null_sound c.push.ensures)

pub returns-in-Some : goal.returns-in-Some
returns-in-Some c = rw c.in-Some.is c.print_size.ensures

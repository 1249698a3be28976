use Rattle.std.proofs.Common.{codes, subst}
use Rattle.std.specs.Prelude.{OnOk}
use Rattle.json.specs.Print.{escape_byte}
use Rattle.serde_json.specs.Data.{Data, null}
use Rattle.tocmark_json.specs.Json.{tagged}
use Rattle.tocmark_json.specs.Printed.{Closes}
use Rattle.tocmark_json.proofs.Adding.{brought, null_sound, tagged_sound, text_tagged_closed}
use Rattle.tocmark_json.proofs.printing.print_quote.Goals as goal

pub returns-in-None : goal.returns-in-None
unfolding escape_byte
returns-in-None c = rw c.in-None.is (brought c.push.result c.args.out.now.items c.push.new.out.items _ (tagged (codes "BlockQuote") null) (tagged_sound (codes "BlockQuote") null null_sound) c.push.ensures)

pub returns-in-Some : goal.returns-in-Some
unfolding escape_byte
returns-in-Some c =
    rw c.in-Some.is (subst (λ (d : Data). OnOk c.push_string.result (Closes (tagged (codes "BlockQuote") d) c.args.out.now.items c.push_string.new.out.items)) c.quote_name.ensures
    (text_tagged_closed c.push_string.result c.args.out.now.items c.push_string.new.out.items (codes "BlockQuote") c.quote_name.result.now c.push_string.ensures))

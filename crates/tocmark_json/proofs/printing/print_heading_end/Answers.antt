use Rattle.std.proofs.Common.{codes, subst}
use Rattle.std.specs.Prelude.{OnOk}
use Rattle.json.specs.Print.{escape_byte}
use Rattle.serde_json.specs.Data.{Data}
use Rattle.tocmark_json.specs.Json.{tagged}
use Rattle.tocmark_json.specs.Printed.{Closes}
use Rattle.tocmark_json.proofs.Adding.{text_tagged_closed}
use Rattle.tocmark_json.proofs.printing.print_heading_end.Goals as goal

pub returns : goal.returns
unfolding escape_byte
returns c =
    subst (λ (d : Data). OnOk c.push_string.result (Closes (tagged (codes "Heading") d) c.args.out.now.items c.push_string.new.out.items)) c.level_name.ensures
    (text_tagged_closed c.push_string.result c.args.out.now.items c.push_string.new.out.items (codes "Heading") c.level_name.result.now c.push_string.ensures)

use Rattle.std.specs.Option.{option_map}
use Rattle.serde_json.specs.Data.{string}
use Rattle.tocmark_json.specs.Json.{optional}
use Rattle.tocmark_json.proofs.Adding.{attribute_added}
use Rattle.tocmark_json.proofs.printing.print_attribute.Goals as goal

pub returns : goal.returns
returns g c =
    let bytes = g.T.Words.bytes in
    attribute_added c.push.result c.args.out.now.items c.push_text.new.out.items c.print_optional_text.new.out.items c.push.new.out.items (bytes c.args.attribute.now.0) (optional string (option_map bytes c.args.attribute.now.1))
    c.in_ok-push_text.ensures c.in_ok-print_optional_text.ensures c.push.ensures

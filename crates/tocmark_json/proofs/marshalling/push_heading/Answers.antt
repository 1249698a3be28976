use Rattle.std.proofs.Common.{◌∷◌, codes, map}
use Rattle.std.specs.Option.{option_map}
use Rattle.tocmark_event.specs.View.{attribute_view}
use Rattle.tocmark_json.specs.Marshal.{heading_bytes, name_bytes}
use Rattle.tocmark_json.proofs.Marshalled.{tagged_comes}
use Rattle.tocmark_json.proofs.marshalling.push_heading.Goals as goal

pub returns : goal.returns
returns g c =
    let bytes = g.T.Words.bytes in
    tagged_comes c.close.result c.args.out.now.items c.open_tagged.new.out.items c.push_heading_content.new.out.items c.close.new.out.items
    (123 ∷ name_bytes (codes "Heading")) (heading_bytes c.args.level (option_map bytes c.args.id.now) (map bytes c.args.classes.now) (map (attribute_view bytes) c.args.attrs.now))
    c.in_ok-open_tagged.ensures c.in_ok-push_heading_content.ensures c.close.ensures

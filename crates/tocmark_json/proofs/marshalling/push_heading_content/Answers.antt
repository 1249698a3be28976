use Rattle.std.proofs.Common.{codes, map}
use Rattle.std.specs.Option.{option_map}
use Rattle.tocmark_event.specs.View.{attribute_view}
use Rattle.tocmark_json.specs.Marshal.{attribute_bytes, level_bytes, listed, name_bytes, optional, text_bytes}
use Rattle.tocmark_json.proofs.Marshalled.{four_come}
use Rattle.tocmark_json.proofs.marshalling.push_heading_content.Goals as goal

pub returns : goal.returns
returns g c =
    let bytes = g.T.Words.bytes in
    four_come c.close.result c.args.out.now.items c.push_byte.new.out.items c.push_name.new.out.items c.push_attributes.new.out.items c.push_name-2.new.out.items c.push_classes.new.out.items c.push_name-3.new.out.items c.push_optional_text.new.out.items c.push_name-4.new.out.items c.push_level.new.out.items c.close.new.out.items
    (name_bytes (codes "attrs")) (listed attribute_bytes (map (attribute_view bytes) c.args.attrs.now)) (name_bytes (codes "classes")) (listed text_bytes (map bytes c.args.classes.now)) (name_bytes (codes "id")) (optional text_bytes (option_map bytes c.args.id.now)) (name_bytes (codes "level")) (level_bytes c.args.level)
    c.in_ok-push_byte.ensures c.in_ok-push_name.ensures c.in_ok-push_attributes.ensures c.in_ok-push_name-2.ensures c.in_ok-push_classes.ensures c.in_ok-push_name-3.ensures c.in_ok-push_optional_text.ensures c.in_ok-push_name-4.ensures c.in_ok-push_level.ensures c.close.ensures

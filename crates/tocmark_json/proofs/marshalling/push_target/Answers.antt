use Rattle.std.proofs.Common.{codes}
use Rattle.tocmark_json.specs.Marshal.{link_type_bytes, name_bytes, text_bytes}
use Rattle.tocmark_json.proofs.Marshalled.{four_come}
use Rattle.tocmark_json.proofs.marshalling.push_target.Goals as goal

pub returns : goal.returns
returns g c =
    let bytes = g.T.Words.bytes in
    four_come c.close.result c.args.out.now.items c.push_byte.new.out.items c.push_name.new.out.items c.push_text.new.out.items c.push_name-2.new.out.items c.push_text-2.new.out.items c.push_name-3.new.out.items c.push_link_type.new.out.items c.push_name-4.new.out.items c.push_text-3.new.out.items c.close.new.out.items
    (name_bytes (codes "dest_url")) (text_bytes (bytes c.args.dest_url.now)) (name_bytes (codes "id")) (text_bytes (bytes c.args.id.now)) (name_bytes (codes "link_type")) (link_type_bytes c.args.link_type) (name_bytes (codes "title")) (text_bytes (bytes c.args.title.now))
    c.in_ok-push_byte.ensures c.in_ok-push_name.ensures c.in_ok-push_text.ensures c.in_ok-push_name-2.ensures c.in_ok-push_text-2.ensures c.in_ok-push_name-3.ensures c.in_ok-push_link_type.ensures c.in_ok-push_name-4.ensures c.in_ok-push_text-3.ensures c.close.ensures

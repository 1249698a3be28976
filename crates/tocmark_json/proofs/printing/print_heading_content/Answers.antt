use Rattle.std.proofs.Common.{[], codes, map, refl, subst}
use Rattle.std.proofs.lemmas.Result.{on_ok_weaker}
use Rattle.std.specs.Prelude.{OnOk}
use Rattle.std.specs.Option.{option_map}
use Rattle.json.specs.Print.{escape_byte}
use Rattle.serde_json.specs.Data.{Data, member, no_members, object, string}
use Rattle.tocmark_event.specs.View.{attribute_view}
use Rattle.tocmark_json.specs.Json.{attribute_json, listed, optional}
use Rattle.tocmark_json.specs.Printed.{Adds}
use Rattle.tocmark_json.proofs.Adding.{behind, four_sound, member_grows, object_grows, string_sound, text_member_grows}
use Rattle.tocmark_json.proofs.printing.print_heading_content.Goals as goal

pub returns : goal.returns
unfolding escape_byte
returns g c =
    let bytes = g.T.Words.bytes in
    let attrs = listed attribute_json (map (attribute_view bytes) c.args.attrs.now) in
    let classes = listed string (map bytes c.args.classes.now) in
    let id = optional string (option_map bytes c.args.id.now) in
    let level = c.level_name.result.now in
    let at_0 = c.args.out.now.items in
    let at_1 = c.print_attributes.new.out.items in
    let at_2 = c.print_classes.new.out.items in
    let at_3 = c.print_optional_text.new.out.items in
    let at_4 = c.push_string.new.out.items in
    let last = member (codes "level") (string level) no_members in
    subst (λ (d : Data). OnOk c.push_string.result (Adds (object (member (codes "attrs") attrs (member (codes "classes") classes (member (codes "id") id (member (codes "level") d no_members))))) at_0 at_4)) c.level_name.ensures
    (on_ok_weaker c.push_string.result (λ end. record {
      grows = object_grows (codes "attrs") attrs (member (codes "classes") classes (member (codes "id") id last)) at_0 at_1 at_4 (behind at_0 c.push.new.out.items at_1 _ _ c.in_ok-push.ensures c.in_ok-print_attributes.ensures.grows)
          (member_grows (codes "classes") classes (member (codes "id") id last) [] at_1 at_2 at_4 (behind at_1 c.push-2.new.out.items at_2 _ _ c.in_ok-push-2.ensures c.in_ok-print_classes.ensures.grows)
          (member_grows (codes "id") id last [] at_2 at_3 at_4 (behind at_2 c.push-3.new.out.items at_3 _ _ c.in_ok-push-3.ensures c.in_ok-print_optional_text.ensures.grows)
          (text_member_grows (codes "level") level at_3 at_4 end)));
      sound = four_sound (codes "attrs") (codes "classes") (codes "id") (codes "level") attrs classes id (string level) (λ o p q v. refl) c.in_ok-print_attributes.ensures.sound c.in_ok-print_classes.ensures.sound c.in_ok-print_optional_text.ensures.sound (string_sound level);
    }) c.push_string.ensures)

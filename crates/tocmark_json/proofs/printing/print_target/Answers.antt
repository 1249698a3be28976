use Rattle.std.proofs.Common.{[], codes, refl}
use Rattle.std.proofs.lemmas.Result.{on_ok_weaker}
use Rattle.json.specs.Print.{escape_byte}
use Rattle.serde_json.specs.Data.{member, no_members, string}
use Rattle.tocmark_json.specs.Json.{link_type_json}
use Rattle.tocmark_json.proofs.Adding.{behind, four_sound, member_grows, object_grows, string_sound, text_member_grows}
use Rattle.tocmark_json.proofs.printing.print_target.Goals as goal

pub returns : goal.returns
unfolding escape_byte
returns g c =
    let bytes = g.T.Words.bytes in
    let dest_url = bytes c.args.dest_url.now in
    let id = bytes c.args.id.now in
    let link_type = link_type_json c.args.link_type in
    let title = bytes c.args.title.now in
    let at_0 = c.args.out.now.items in
    let at_1 = c.push_text.new.out.items in
    let at_2 = c.push_text-2.new.out.items in
    let at_3 = c.print_link_type.new.out.items in
    let at_4 = c.push_text-3.new.out.items in
    let last = member (codes "title") (string title) no_members in
    on_ok_weaker c.push_text-3.result (λ end. record {
      grows = object_grows (codes "dest_url") (string dest_url) (member (codes "id") (string id) (member (codes "link_type") link_type last)) at_0 at_1 at_4 c.in_ok-push_text.ensures
          (member_grows (codes "id") (string id) (member (codes "link_type") link_type last) [] at_1 at_2 at_4 c.in_ok-push_text-2.ensures
          (member_grows (codes "link_type") link_type last [] at_2 at_3 at_4 (behind at_2 c.push.new.out.items at_3 _ _ c.in_ok-push.ensures c.in_ok-print_link_type.ensures.grows)
          (text_member_grows (codes "title") title at_3 at_4 end)));
      sound = four_sound (codes "dest_url") (codes "id") (codes "link_type") (codes "title") (string dest_url) (string id) link_type (string title) (λ o p q v. refl) (string_sound dest_url) (string_sound id) c.in_ok-print_link_type.ensures.sound (string_sound title);
    }) c.push_text-3.ensures

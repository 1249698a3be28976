use Rattle.std.proofs.Common.{◌∷◌, [], codes, refl}
use Rattle.std.proofs.lemmas.Result.{on_ok_weaker}
use Rattle.json.specs.Print.{escape_byte}
use Rattle.serde_json.specs.Data.{member, no_members}
use Rattle.tocmark_json.specs.Json.{size_json}
use Rattle.tocmark_json.proofs.Adding.{behind, eight_sound, member_grows, object_follows}
use Rattle.tocmark_json.proofs.locating.print_targeted.Goals as goal

pub returns : goal.returns
unfolding escape_byte
returns c =
    let v_1 = size_json c.args.destination.1 in
    let v_2 = size_json c.args.destination.0 in
    let v_3 = size_json c.args.range.1 in
    let v_4 = size_json c.args.span.end.column in
    let v_5 = size_json c.args.span.end.line in
    let v_6 = size_json c.args.range.0 in
    let v_7 = size_json c.args.span.start.column in
    let v_8 = size_json c.args.span.start.line in
    let at_0 = c.args.out.now.items in
    let at_1 = c.print_size.new.out.items in
    let at_2 = c.print_size-2.new.out.items in
    let at_3 = c.print_size-3.new.out.items in
    let at_4 = c.print_size-4.new.out.items in
    let at_5 = c.print_size-5.new.out.items in
    let at_6 = c.print_size-6.new.out.items in
    let at_7 = c.print_size-7.new.out.items in
    let at_8 = c.print_size-8.new.out.items in
    let at_9 = c.push-9.new.out.items in
    let m_8 = member (codes "start_line") v_8 no_members in
    let m_7 = member (codes "start_column") v_7 m_8 in
    let m_6 = member (codes "start") v_6 m_7 in
    let m_5 = member (codes "end_line") v_5 m_6 in
    let m_4 = member (codes "end_column") v_4 m_5 in
    let m_3 = member (codes "end") v_3 m_4 in
    let m_2 = member (codes "dest_start") v_2 m_3 in
    on_ok_weaker c.push-9.result (λ last. record {
      grows = object_follows (codes "dest_end") v_1 m_2 at_0 at_1 at_9 (behind at_0 c.push.new.out.items at_1 _ _ c.in_ok-push.ensures c.in_ok-print_size.ensures.grows)
          (member_grows (codes "dest_start") v_2 m_3 (93 ∷ []) at_1 at_2 at_9 (behind at_1 c.push-2.new.out.items at_2 _ _ c.in_ok-push-2.ensures c.in_ok-print_size-2.ensures.grows)
          (member_grows (codes "end") v_3 m_4 (93 ∷ []) at_2 at_3 at_9 (behind at_2 c.push-3.new.out.items at_3 _ _ c.in_ok-push-3.ensures c.in_ok-print_size-3.ensures.grows)
          (member_grows (codes "end_column") v_4 m_5 (93 ∷ []) at_3 at_4 at_9 (behind at_3 c.push-4.new.out.items at_4 _ _ c.in_ok-push-4.ensures c.in_ok-print_size-4.ensures.grows)
          (member_grows (codes "end_line") v_5 m_6 (93 ∷ []) at_4 at_5 at_9 (behind at_4 c.push-5.new.out.items at_5 _ _ c.in_ok-push-5.ensures c.in_ok-print_size-5.ensures.grows)
          (member_grows (codes "start") v_6 m_7 (93 ∷ []) at_5 at_6 at_9 (behind at_5 c.push-6.new.out.items at_6 _ _ c.in_ok-push-6.ensures c.in_ok-print_size-6.ensures.grows)
          (member_grows (codes "start_column") v_7 m_8 (93 ∷ []) at_6 at_7 at_9 (behind at_6 c.push-7.new.out.items at_7 _ _ c.in_ok-push-7.ensures c.in_ok-print_size-7.ensures.grows)
          (member_grows (codes "start_line") v_8 no_members (93 ∷ []) at_7 at_8 at_9 (behind at_7 c.push-8.new.out.items at_8 _ _ c.in_ok-push-8.ensures c.in_ok-print_size-8.ensures.grows)
          last)))))));
      sound = eight_sound (codes "dest_end") (codes "dest_start") (codes "end") (codes "end_column") (codes "end_line") (codes "start") (codes "start_column") (codes "start_line") v_1 v_2 v_3 v_4 v_5 v_6 v_7 v_8 (λ o1 o2 o3 o4 o5 o6 o7 o8. refl) c.in_ok-print_size.ensures.sound c.in_ok-print_size-2.ensures.sound c.in_ok-print_size-3.ensures.sound c.in_ok-print_size-4.ensures.sound c.in_ok-print_size-5.ensures.sound c.in_ok-print_size-6.ensures.sound c.in_ok-print_size-7.ensures.sound c.in_ok-print_size-8.ensures.sound;
    }) c.push-9.ensures

use Rattle.std.proofs.Common.{◌∷◌, [], codes, refl}
use Rattle.std.proofs.lemmas.Result.{on_ok_weaker}
use Rattle.json.specs.Print.{escape_byte}
use Rattle.serde_json.specs.Data.{member, no_members}
use Rattle.tocmark_json.specs.Json.{size_json}
use Rattle.tocmark_json.proofs.Adding.{behind, member_grows, object_follows, two_sound}
use Rattle.tocmark_json.proofs.printing.print_range.Goals as goal

pub returns : goal.returns
unfolding escape_byte
returns c =
    let end = size_json c.args.range.1 in
    let start = size_json c.args.range.0 in
    let at_0 = c.args.out.now.items in
    let at_1 = c.print_size.new.out.items in
    let at_2 = c.print_size-2.new.out.items in
    let at_3 = c.push-3.new.out.items in
    on_ok_weaker c.push-3.result (λ last. record {
      grows = object_follows (codes "end") end (member (codes "start") start no_members) at_0 at_1 at_3 (behind at_0 c.push.new.out.items at_1 _ _ c.in_ok-push.ensures c.in_ok-print_size.ensures.grows)
          (member_grows (codes "start") start no_members (93 ∷ []) at_1 at_2 at_3 (behind at_1 c.push-2.new.out.items at_2 _ _ c.in_ok-push-2.ensures c.in_ok-print_size-2.ensures.grows) last);
      sound = two_sound (codes "end") (codes "start") end start (λ v w. refl) c.in_ok-print_size.ensures.sound c.in_ok-print_size-2.ensures.sound;
    }) c.push-3.ensures

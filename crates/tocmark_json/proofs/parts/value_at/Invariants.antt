use Rattle.std.proofs.Common.{◌≡◌, option_map, take}
use Rattle.serde_json.specs.Find.{get_member}
use Rattle.tocmark_json.specs.Node.{members_view, view}
use Rattle.tocmark_json.proofs.parts.value_at.Given as goal

abbrev pub invariant-loop-member : goal.invariant-loop-member
invariant-loop-member l = get_member l.name (members_view (take l.member-index l.members)) ≡ option_map (λ v. view v.now) l.found

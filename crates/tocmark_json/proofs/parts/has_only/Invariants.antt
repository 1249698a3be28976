use Rattle.std.proofs.Common.{◌≡◌, List, None, ℕ, take}
use Rattle.serde_json.specs.Find.{get_member}
use Rattle.tocmark_json.specs.Node.{IsOther, members_view}
use Rattle.tocmark_json.proofs.parts.has_only.Given as goal

abbrev pub invariant-loop-member : goal.invariant-loop-member
invariant-loop-member l = (name : List ℕ) → IsOther l.keys name → get_member name (members_view (take l.member-index l.members)) ≡ None

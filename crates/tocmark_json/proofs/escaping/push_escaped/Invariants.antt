use Rattle.std.proofs.Common.{◌≡◌, ◌≤◌, ◌++◌, ◌-◌, [], drop, length}
use Rattle.json.specs.Print.{escape}
use Rattle.tocmark_json.proofs.escaping.push_escaped.Given as goal

abbrev pub invariant-loop-out : goal.invariant-loop-out
invariant-loop-out l = (l.out.items ++ (escape (drop l.at l.text) ++ []) ≡ l.initial.out.items ++ escape l.text) × (l.at ≤ length l.text)

abbrev pub decreases-loop-out : goal.decreases-loop-out
decreases-loop-out l = length l.text - l.at

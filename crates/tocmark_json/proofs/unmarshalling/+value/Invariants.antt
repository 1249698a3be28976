use Rattle.std.proofs.Common.{◌≡◌, ℕ, ◌+◌, ◌-◌, ◌*◌, ◌≤◌, Some, length, map}
use Rattle.serde_json.specs.Data.{no_members}
use Rattle.tocmark_json.specs.Node.{members_view, view}
use Rattle.tocmark_json.specs.Unmarshal.{members, value, values}
use Rattle.tocmark_json.proofs.unmarshalling.+value.Given as goal

abbrev pub decreases-value : goal.decreases-value
decreases-value l = 2 * l.depth

abbrev pub decreases-values : goal.decreases-values
decreases-values l = 2 * l.depth + 1

abbrev pub decreases-members : goal.decreases-members
decreases-members l = 2 * l.depth + 1

abbrev pub invariant-values-values : goal.invariant-values-values
invariant-values-values l =
    (values (value l.depth) (length l.found.items) l.initial.dumped.rest.now ≡ Some (map view l.found.items, l.dumped.rest.now))
    × (length l.found.items ≤ l.count) × (length l.dumped.rest.now ≤ length l.initial.dumped.rest.now)

abbrev pub decreases-values-values : goal.decreases-values-values
decreases-values-values l = l.count - length l.found.items

abbrev pub invariant-members-members : goal.invariant-members-members
invariant-members-members l =
    (n : ℕ) × (length l.dumped.rest.now ≤ n)
    × (members (value l.depth) (length l.initial.dumped.rest.now) no_members l.initial.dumped.rest.now ≡ members (value l.depth) n (members_view l.found.items) l.dumped.rest.now)
    × (length l.dumped.rest.now ≤ length l.initial.dumped.rest.now)

abbrev pub decreases-members-members : goal.decreases-members-members
decreases-members-members l = length l.dumped.rest.now

use Rattle.std.proofs.Common.{◌≡◌, ◌-◌, ◌≤◌, Some, length, map}
use Rattle.tocmark_json.specs.Json.{pair_view}
use Rattle.tocmark_json.specs.Unmarshal.{placed, placed_json, values}
use Rattle.tocmark_json.proofs.unmarshalling.pairs_from_marshal.Given as goal

abbrev pub invariant-loop-alloc : goal.invariant-loop-alloc
invariant-loop-alloc g l =
    (values placed (length l.pairs.items) l.initial.dumped.rest.now ≡ Some (map (λ p. placed_json (pair_view g.U.Words.bytes p)) l.pairs.items, l.dumped.rest.now))
    × (length l.pairs.items ≤ l.count)

abbrev pub decreases-loop-alloc : goal.decreases-loop-alloc
decreases-loop-alloc g l = l.count - length l.pairs.items

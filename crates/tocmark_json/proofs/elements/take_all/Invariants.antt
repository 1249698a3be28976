use Rattle.std.proofs.Common.{◌≡◌, ℕ, ◌≤◌, List, length, map}
use Rattle.json.specs.Json.{items, parse_map, value}
use Rattle.serde_json.specs.Data.{Data}
use Rattle.serde_json.specs.Read.{converted, of_items}
use Rattle.tocmark_json.specs.Elements.{AreTaken}
use Rattle.tocmark_json.specs.Json.{pair_view}
use Rattle.tocmark_json.proofs.Turns.{items_before}
use Rattle.tocmark_json.proofs.elements.take_all.Given as goal

abbrev pub invariant-elements : goal.invariant-elements
invariant-elements g l =
    (n : ℕ) × (length l.reader ≤ n) × (ds : List Data)
    × (converted of_items (items (value 126) (length l.initial.reader) l.initial.reader) ≡ parse_map (items_before ds) (converted of_items (items (value 126) n l.reader)))
    × AreTaken l.taken.has_ranges l.taken.fault ds (map (pair_view g.U.Words.bytes) l.taken.events.items)

abbrev pub decreases-elements : goal.decreases-elements
decreases-elements g l = length l.reader

-- Lists of values beside lists of what they are the values of.
use Rattle.std.proofs.Common.{◌≡◌, List, map, ap, sym, ◌∙◌}
use mathlib.Core.List.{map-map}
use Rattle.serde_json.specs.Data.{Data, array}
use Rattle.serde_json.specs.View.{items_of}
use Rattle.tocmark_json.specs.Node.{view, items_view}
use Rattle.tocmark_json.specs.declared.node.Node.{Node}
use Rattle.tocmark_json.specs.Json.{listed}

-- an array of the values of a list's elements, each seen first, is the value of the list that is seen
pub listed-seen : {A B : Type 0} (json : B → Data) (seen : A → B) (values : List Node) (xs : List A) → map view values ≡ map (λ x. json (seen x)) xs → array (items_view values) ≡ listed json (map seen xs)
listed-seen json seen values xs same = ap (λ ds. array (items_of ds)) (same ∙ sym (map-map json seen xs))

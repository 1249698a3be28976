-- Examples: lists of which the first element is of one form and the second of the other.
use Rattle.std.proofs.Common.{◌≡◌, ◌∙◌, [], ◌∷◌, ap, codes, None, false, is_some, refl, true}
use Rattle.std.specs.Borrow.{Bor}
use Rattle.std.specs.Prelude.{List, ℕ}
use Rattle.serde_json.specs.Data.{Data, array, item, no_items, null, string}
use Rattle.serde_json.specs.Find.{as_array}
use Rattle.tocmark_event.specs.View.{Leaf, Rule}
use Rattle.tocmark_json.specs.Elements.{IsNoList, begins_with_array}
use Rattle.tocmark_json.specs.declared.fault.JsonError.TheVariants as error
use Rattle.tocmark_json.proofs.Taking.{no_array}

-- `"Rule"` is an event alone, and `["Rule", null]` a pair
abbrev event : Data
event = string (codes "Rule")

abbrev pair : Data
pair = array (item event (item null no_items))

-- `["Rule", ["Rule", null]]` and `[["Rule", null], "Rule"]`
abbrev event_first : Data
event_first = array (item event (item pair no_items))

abbrev pair_first : Data
pair_first = array (item pair (item event no_items))

as_events : begins_with_array event_first ≡ false
as_events = refl

as_pairs : begins_with_array pair_first ≡ true
as_pairs = refl

empty_as_events : begins_with_array (array no_items) ≡ false
empty_as_events = refl

-- an error names the second element of the one and the other
module _ (key wanted : Bor (List ℕ)) where
  pair_is_named : IsNoList event_first (error.Event 1 key wanted)
  pair_is_named = (Leaf Rule ∷ [], pair, [], refl, refl, λ e is. let same : true ≡ false = ap (λ d. is_some (as_array d)) is ∙ no_array e in absurd cc)

  event_is_named : IsNoList pair_first (error.Event 1 key wanted)
  event_is_named = (((Leaf Rule, None), None) ∷ [], event, [], refl, refl, λ e is. absurd cc)

  -- and not the first one, although that is no event alone
  pair_is_not_named : IsNoList pair_first (error.Event 0 key wanted) → ⊥
  pair_is_not_named ([], there, after, is, count, lacks) = lacks ((Leaf Rule, None), None) cc
  pair_is_not_named (l ∷ before, there, after, is, count, lacks) = absurd cc

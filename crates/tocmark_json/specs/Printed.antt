-- What printing adds to bytes, and lines of JSON.
use Rattle.std.specs.Prelude.{◌≡◌, ℕ, List, [], ◌∷◌, ◌++◌, Option, Some}
use Rattle.std.specs.List.{flat_map}
use Rattle.json.specs.Tree.{HasNumbers}
use Rattle.serde_json.specs.Data.{Data}
use Rattle.serde_json.specs.Read.{of_json}
use Rattle.serde_json.specs.Written.{outline, blank, compact_text}
use Rattle.tocmark_event.specs.View.{EventView}
use Rattle.tocmark_json.specs.Json.{located_json, pair_json}
use Rattle.tocmark_json.specs.declared.positions.Details.{Details}

-- these bytes are after what was there
abbrev pub Grows : List ℕ → List ℕ → List ℕ → Type 0
Grows bytes old new = new ≡ old ++ bytes

-- the text of a value reads as the value: so do its numbers, and its keys are in their order
pub record IsSound (d : Data) : Type 0 where
  pub whole : blank (outline d) ≡ outline d
  pub reads : of_json (outline d) ≡ Some d
  pub numbers : HasNumbers (outline d)

-- these bytes do, and the value's text reads as the value
pub record Brings (bytes : List ℕ) (d : Data) (old new : List ℕ) : Type 0 where
  pub grows : Grows bytes old new
  pub sound : IsSound d

-- the value's text
abbrev pub Adds : Data → List ℕ → List ℕ → Type 0
Adds d = Brings (compact_text d) d

-- the value's text, and a closing brace
abbrev pub Closes : Data → List ℕ → List ℕ → Type 0
Closes d = Brings (compact_text d ++ 125 ∷ []) d

-- the text of the second of two values in an array: a comma, the value's text, and the closing bracket
abbrev pub Follows : Data → List ℕ → List ℕ → Type 0
Follows d = Brings (44 ∷ (compact_text d ++ 93 ∷ [])) d

-- the JSON texts of events with their ranges, each with a line feed after it
abbrev pub lines_text : List (EventView × Option (ℕ × ℕ)) → List ℕ
lines_text = flat_map (λ p. compact_text (pair_json p) ++ 10 ∷ [])

-- the JSON texts of events with their ranges and the details of these, each with a line feed after it
abbrev pub located_lines : List ((EventView × Option (ℕ × ℕ)) × Option Details) → List ℕ
located_lines = flat_map (λ l. compact_text (located_json l) ++ 10 ∷ [])

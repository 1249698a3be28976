-- The events of a JSON text, element by element.
use Rattle.std.specs.Prelude.{◌≡◌, ℕ, List, Bool, true, false, Option, None, Some, is_some, map, option_and_then}
use Rattle.serde_json.specs.Data.{Data, array}
use Rattle.serde_json.specs.Find.{as_array, at}
use Rattle.serde_json.specs.Read.{read}
use Rattle.serde_json.specs.View.{items_of}
use Rattle.tocmark_event.specs.View.{EventView}
use Rattle.tocmark_json.specs.Json.{IsPairsJson, event_json, events_json, located_json}
use Rattle.tocmark_json.specs.Place.{Refuses, StandsIn}
use Rattle.tocmark_json.specs.declared.fault.Fault.{Fault}
use Rattle.tocmark_json.specs.declared.fault.JsonError.{JsonError}
use Rattle.tocmark_json.specs.declared.fault.ReadError.{ReadError}
use Rattle.tocmark_json.specs.declared.fault.ReadError.TheVariants as read_error
use Rattle.tocmark_json.specs.declared.positions.Details.{Details}

abbrev pub Pair : Type 0
Pair = EventView × Option (ℕ × ℕ)

-- an event without a range
abbrev pub alone : EventView → Pair
alone e = (e, None)

-- a value is that of a list: of events with their ranges, or of events alone
abbrev pub IsListOf : Bool → Data → List Pair → Type 0
IsListOf true value pairs = IsPairsJson value pairs
IsListOf false value pairs = (es : List EventView) × (value ≡ events_json es) × (pairs ≡ map alone es)

-- a text is the JSON of a list
pub record IsListIn (has_ranges : Bool) (text : List ℕ) (pairs : List Pair) : Type 0 where
  pub value : Data
  pub is_read : read text ≡ Some value
  pub is_list : IsListOf has_ranges value pairs

-- a value is an array whose first element is an array
abbrev pub begins_with_array : Data → Bool
begins_with_array value = is_some (option_and_then as_array (at 0 value))

-- the element that an error names is the first one that is wrong: no event with its range, or no event alone
abbrev pub IsNoListOf : Bool → Data → JsonError → Type 0
IsNoListOf true value e = StandsIn located_json value e
IsNoListOf false value e = StandsIn event_json value e

-- the first element decides what each element has to be: if it is an array, an event with its range, else an event alone
abbrev pub IsNoList : Data → JsonError → Type 0
IsNoList value e = IsNoListOf (begins_with_array value) value e

-- why a text is not the JSON of events
abbrev pub IsReadFault : List ℕ → ReadError → Type 0
IsReadFault text read_error.NotJson = read text ≡ None
IsReadFault text (read_error.NotEvents e) = (value : Data) × (read text ≡ Some value) × IsNoList value e
IsReadFault text read_error.OutOfMemory = Unit {0}

-- ---- the elements so far

-- an element is an event and its range, or an event alone
abbrev pub IsElement : Bool → Data → Pair → Type 0
IsElement true d p = (details : Option Details) × (d ≡ located_json (p, details))
IsElement false d p = (d ≡ event_json p.0) × (p.1 ≡ None)

abbrev pub RefusesElement : Bool → Data → Fault → Type 0
RefusesElement true d f = Refuses located_json d f
RefusesElement false d f = Refuses event_json d f

-- all are
abbrev pub AreElements : Bool → List Data → List Pair → Type 0
AreElements true ds pairs = (ls : List (Pair × Option Details)) × (map located_json ls ≡ ds) × (map (λ l. l.0) ls ≡ pairs)
AreElements false ds pairs = (es : List EventView) × (map event_json es ≡ ds) × (map alone es ≡ pairs)

-- all elements so far are, or an error says why no list begins with them
abbrev pub AreTaken : Bool → Option JsonError → List Data → List Pair → Type 0
AreTaken has_ranges None ds pairs = AreElements has_ranges ds pairs
AreTaken has_ranges (Some e) ds pairs = IsNoList (array (items_of ds)) e

-- Why a value is refused, and where a list of events goes wrong.
use Rattle.std.specs.Prelude.{◌≡◌, ℕ, List, ◌∷◌, ◌++◌, length, map, None}
use Rattle.serde_json.specs.Data.{Data, Items, Members, array, object}
use Rattle.serde_json.specs.Events.{items_len, members_len}
use Rattle.serde_json.specs.Find.{as_array}
use Rattle.serde_json.specs.View.{items_of}
use Rattle.tocmark_json.specs.declared.fault.Fault.{Fault}
use Rattle.tocmark_json.specs.declared.fault.Fault.TheVariants as fault
use Rattle.tocmark_json.specs.declared.fault.JsonError.{JsonError}
use Rattle.tocmark_json.specs.declared.fault.JsonError.TheVariants as error
use Rattle.tocmark_json.specs.declared.fault.ReadError.{ReadError}
use Rattle.tocmark_json.specs.declared.fault.ReadError.TheVariants as read_error
use Rattle.tocmark_json.specs.declared.fault.TextError.{TextError}
use Rattle.tocmark_json.specs.declared.fault.TextError.TheVariants as text_error

-- the value is the JSON of nothing of this type
abbrev pub IsNoneOf : {A : Type 0} → (A → Data) → Data → Type 0
IsNoneOf {A} json value = (a : A) → value ≡ json a → ⊥

-- the value is no object of so many members
abbrev pub IsNoObject : ℕ → Data → Type 0
IsNoObject count value = (ms : Members) → value ≡ object ms → members_len ms ≡ count → ⊥

-- the value is no array of so many items
abbrev pub IsNoArray : ℕ → Data → Type 0
IsNoArray count value = (ds : Items) → value ≡ array ds → items_len ds ≡ count → ⊥

-- the value is the JSON of nothing of this type, or memory ran out
abbrev pub Refuses : {A : Type 0} → (A → Data) → Data → Fault → Type 0
Refuses json value (fault.Wanted key wanted) = IsNoneOf json value
Refuses json value fault.OutOfMemory = Unit {0}

-- the error of a text that is not read as a value
abbrev pub read_error_of : TextError → ReadError
read_error_of text_error.NotJson = read_error.NotJson
read_error_of text_error.OutOfMemory = read_error.OutOfMemory

-- an element that is named is in the value and hasn't the form, and those before it have
abbrev pub StandsIn : {A : Type 0} → (A → Data) → Data → JsonError → Type 0
StandsIn json value error.NotAnArray = as_array value ≡ None
StandsIn {A} json value (error.Event at key wanted) =
    (before : List A) × (there : Data) × (after : List Data) × (value ≡ array (items_of (map json before ++ there ∷ after))) × (at ≡ length before) × IsNoneOf json there

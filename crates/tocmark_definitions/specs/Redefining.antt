-- Which text has the definitions of links that a JSON text gives.
use Rattle.std.specs.Prelude.{◌≡◌, ◌+◌, ◌++◌, if◌then◌else◌, ℕ, List, [], Option, None, Some, Contains, codes, map, option_and_then, string_bytes}
use Rattle.serde_json.specs.Data.{Data, array}
use Rattle.serde_json.specs.Find.{as_array, as_number, as_str, as_u64, get}
use Rattle.serde_json.specs.Read.{read}
use Rattle.serde_json.specs.View.{items_of}
use Rattle.tocmark_event.specs.declared.event.flags.ParserOptions.{ParserOptions}
use Rattle.tocmark_judge.specs.Marks.{after_mark, has_mark, mark}
use Rattle.tocmark_redefine.specs.Defined.{IsDefined}
use Rattle.tocmark_redefine.specs.declared.defining.GivenDefinition.{GivenDefinition}
use Rattle.tocmark_redefine.specs.declared.redefining.DefinitionFault.{DefinitionFault}
use Rattle.tocmark_redefine.specs.declared.redefining.DefinitionFault.TheVariants as definition_fault
use Rattle.tocmark_definitions.specs.declared.fault.Fault.{Fault}
use Rattle.tocmark_definitions.specs.declared.fault.Fault.TheVariants as fault

-- the text that a value has at a key
abbrev pub text_at : List ℕ → Data → Option (List ℕ)
text_at key value = option_and_then as_str (get key value)

-- the whole number that a value has at a key
abbrev pub number_at : List ℕ → Data → Option ℕ
number_at key value = option_and_then as_u64 (option_and_then as_number (get key value))

-- an end of the range that a value has
abbrev pub end_at : List ℕ → Data → Option ℕ
end_at key value = option_and_then (number_at key) (get (codes "range") value)

-- what a value says of a definition
pub record Saying : Type 0 where
  pub label : Option (List ℕ)
  pub destination : Option (List ℕ)
  pub title : Option (List ℕ)
  pub begins : Option ℕ
  pub ends : Option ℕ

abbrev pub said_by : Data → Saying
said_by value = record {
  label = text_at (codes "label") value;
  destination = text_at (codes "destination") value;
  title = text_at (codes "title") value;
  begins = end_at (codes "start") value;
  ends = end_at (codes "end") value;
}

-- what a value says of a given definition, before which the whole text has so many bytes more
abbrev pub saying_of : ℕ → GivenDefinition → Saying
saying_of more given = record {
  label = Some (string_bytes given.label);
  destination = Some (string_bytes given.destination);
  title = Some (string_bytes given.title);
  begins = Some (given.range.0 + more);
  ends = Some (given.range.1 + more);
}

-- a text is the JSON of a list of these definitions
pub record AreGivenBy (more : ℕ) (json : List ℕ) (all : List GivenDefinition) : Type 0 where
  pub values : List Data
  pub is_read : read json ≡ Some (array (items_of values))
  pub are_said : map said_by values ≡ map (saying_of more) all

-- a text after so many bytes has the definitions that a JSON text gives, and else it is as it was
pub record IsDefinedBy (flags : ParserOptions) (more : ℕ) (json old new : List ℕ) : Type 0 where
  pub all : List GivenDefinition
  pub are_given : AreGivenBy more json all
  pub is_defined : IsDefined flags all old new

-- the byte order mark at the front of a text, if it has one
abbrev pub mark_of : List ℕ → List ℕ
mark_of text = if has_mark text then mark else []

-- how many bytes it has
abbrev pub mark_length : List ℕ → ℕ
mark_length text = if has_mark text then 3 else 0

-- what follows the mark of a text has the definitions that a JSON text gives, and the mark stays
pub record IsRedefinedBy (flags : ParserOptions) (json old new : List ℕ) : Type 0 where
  pub rest : List ℕ
  pub is_marked : new ≡ mark_of old ++ rest
  pub is_defined : IsDefinedBy flags (mark_length old) json (after_mark old) rest

-- ---- faults

-- the fault of the library that makes the new text
abbrev pub fault_of : DefinitionFault → Fault
fault_of definition_fault.OutOfMemory = fault.OutOfMemory
fault_of (definition_fault.NoDefinition index) = fault.NoDefinition index
fault_of (definition_fault.Misread line) = fault.Misread line

-- an element of a list is faulty only if this is so
abbrev pub IsFaultOf : Type 0 → Fault → Type 0
IsFaultOf IsSo (fault.NotJson e) = ⊥
IsFaultOf IsSo fault.NotAList = ⊥
IsFaultOf IsSo (fault.Wanted index key wanted) = IsSo
IsFaultOf IsSo (fault.NoDefinition index) = Unit {0}
IsFaultOf IsSo (fault.Misread line) = Unit {0}
IsFaultOf IsSo fault.OutOfMemory = Unit {0}

-- a value is no definition
abbrev pub IsNoDefinition : Data → Type 0
IsNoDefinition value = (more : ℕ) → (given : GivenDefinition) → said_by value ≡ saying_of more given → ⊥

-- one of these values is none
abbrev pub HasNoDefinition : List Data → Type 0
HasNoDefinition values = (value : Data) × Contains values value × IsNoDefinition value

-- why a JSON text is no list of definitions
abbrev pub IsCause : List ℕ → Fault → Type 0
IsCause json (fault.NotJson e) = read json ≡ None
IsCause json fault.NotAList = (value : Data) × (read json ≡ Some value) × (as_array value ≡ None)
IsCause json (fault.Wanted index key wanted) = (values : List Data) × (read json ≡ Some (array (items_of values))) × HasNoDefinition values
IsCause json (fault.NoDefinition index) = Unit {0}
IsCause json (fault.Misread line) = Unit {0}
IsCause json fault.OutOfMemory = Unit {0}

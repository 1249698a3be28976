-- Why bytes are not the packed form of events.
use Rattle.std.specs.Prelude.{◌≡◌, ℕ, List, ◌++◌, Option, String, length, string_bytes}
use Rattle.std.specs.Global.{Global}
use Rattle.tocmark_event.specs.View.{EventView, attribute_view, code_view, event_view, tag_view}
use Rattle.tocmark_event.specs.declared.event.CodeBlockKindOf.{CodeBlockKindOf}
use Rattle.tocmark_event.specs.declared.event.LinkType.{LinkType}
use Rattle.tocmark_event.specs.declared.event.TagOf.{TagOf}
use Rattle.tocmark_event.specs.declared.event.EventOf.{EventOf}
use Rattle.tocmark_json.specs.Json.{pair_view}
use Rattle.tocmark_documents.specs.Packed.{packed_attribute, packed_code, packed_event, packed_link, packed_pair, packed_pairs, packed_tag, packed_text}
use Rattle.tocmark_documents.specs.declared.packed.Fault.{Fault}
use Rattle.tocmark_documents.specs.declared.packed.Fault.TheVariants as fault
use Rattle.tocmark_documents.specs.declared.packed.PackedError.{PackedError}
use Rattle.tocmark_documents.specs.declared.packed.PackedError.TheVariants as error

-- the bytes do not begin with the packed form of a value of this type
abbrev pub BeginsNone : {A : Type 0} → (A → List ℕ) → List ℕ → Type 0
BeginsNone {A} packed bytes = (a : A) (rest : List ℕ) → bytes ≡ packed a ++ rest → ⊥

-- the same, or memory ran out
abbrev pub Refuses : {A : Type 0} → (A → List ℕ) → List ℕ → Fault → Type 0
Refuses packed bytes fault.NoneBegins = BeginsNone packed bytes
Refuses packed bytes fault.OutOfMemory = Unit {0}

-- values whose texts are UTF-8, as each String is
abbrev pub own_text : String Global → List ℕ
own_text s = packed_text (string_bytes s)

abbrev pub own_code : CodeBlockKindOf (String Global) → List ℕ
own_code kind = packed_code (code_view string_bytes kind)

abbrev pub own_attribute : String Global × Option (String Global) → List ℕ
own_attribute a = packed_attribute (attribute_view string_bytes a)

abbrev pub own_link : LinkType × String Global × String Global × String Global → List ℕ
own_link t = packed_link t.0 (string_bytes t.1) (string_bytes t.2) (string_bytes t.3)

abbrev pub own_tag : TagOf (String Global) → List ℕ
own_tag tag = packed_tag (tag_view string_bytes tag)

abbrev pub own_event : EventOf (String Global) → List ℕ
own_event event = packed_event (event_view string_bytes event)

-- an event, and its range, if it has one
abbrev pub own_pair : EventOf (String Global) × Option (ℕ × ℕ) → List ℕ
own_pair p = packed_pair (pair_view string_bytes p)

-- the bytes begin with as many events as the error says, and what is after these begins with no event; or memory
-- ran out
abbrev pub IsNotPacked : List ℕ → PackedError → Type 0
IsNotPacked bytes (error.Event number) =
    (before : List (EventView × Option (ℕ × ℕ))) × (rest : List ℕ) × (bytes ≡ packed_pairs before ++ rest) × (number ≡ length before) × BeginsNone own_pair rest
IsNotPacked bytes error.OutOfMemory = Unit {0}

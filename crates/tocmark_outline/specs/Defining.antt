-- The JSON of the definitions of links of a text.
use Rattle.std.specs.Prelude.{◌≡◌, ℕ, List, [], ◌∷◌, ◌++◌, Bool, codes, decimal, flat_map, map}
use Rattle.json.specs.Print.{print}
use Rattle.json.specs.Token.{Token, begin_array, begin_object, boolean, end_array, end_object, key, number, string}
use Rattle.tocmark_event.specs.declared.event.flags.ParserOptions.{ParserOptions}
use Rattle.tocmark_marked.specs.Marked.{marked_definitions}
use Rattle.tocmark_reader.specs.Definitions.{SaidDefinition, said_view}
use Rattle.tocmark_outline.specs.declared.defining.Listed.{Listed}

-- a definition, and whether it is used
abbrev pub listed_view : Listed → SaidDefinition × Bool
listed_view l = (said_view l.definition, l.is_used)

-- a member that is a text
abbrev pub text_tokens : List ℕ → List ℕ → List Token
text_tokens name text = key name ∷ string text ∷ []

-- a member that is a range
abbrev pub range_tokens : List ℕ → ℕ × ℕ → List Token
range_tokens name range =
    key name ∷ begin_object ∷ key (codes "start") ∷ number (decimal range.0) ∷ key (codes "end") ∷ number (decimal range.1) ∷ end_object ∷ []

-- the members of a definition
abbrev pub member_tokens : SaidDefinition → List Token
member_tokens d =
    text_tokens (codes "label") d.label ++ text_tokens (codes "destination") d.destination
    ++ text_tokens (codes "title") d.title ++ range_tokens (codes "range") d.place.whole
    ++ range_tokens (codes "destination_range") d.place.destination ++ range_tokens (codes "title_range") d.place.title

-- its object, with whether it is used
abbrev pub definition_tokens : SaidDefinition × Bool → List Token
definition_tokens d =
    begin_object ∷ (member_tokens d.0 ++ key (codes "used") ∷ boolean d.1 ∷ end_object ∷ [])

-- an array of the definitions of a text, each with a boolean
abbrev pub IsDefinitionsJson : ParserOptions → List ℕ → List ℕ → Type 0
IsDefinitionsJson flags text output =
    (all : List (SaidDefinition × Bool)) × (map (λ d. d.0) all ≡ marked_definitions flags text)
    × (output ≡ print (begin_array ∷ flat_map definition_tokens all ++ end_array ∷ []))

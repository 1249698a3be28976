-- A heading's attributes as plain values.
use Rattle.std.specs.Prelude.{ℕ, List, Option, String, string_bytes, map}
use Rattle.std.specs.Global.{Global}
use Rattle.std.specs.Option.{option_map}
use Rattle.tocmark_event.specs.View.{attribute_view}
use Rattle.tocmark_spelling.specs.Closing.{attributes_text}

-- what is after the text of a heading with this id, these classes and these attributes
abbrev pub attributes_of : Option (String Global) → List (String Global) → List (String Global × Option (String Global)) → List ℕ
attributes_of id classes attributes =
    attributes_text (option_map string_bytes id) (map string_bytes classes) (map (attribute_view string_bytes) attributes)

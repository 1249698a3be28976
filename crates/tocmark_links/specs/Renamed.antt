-- What anchors lead to after headings get other words.
use Rattle.std.specs.Prelude.{ℕ, suc, List, [], ◌∷◌, Option, None, Some, String, string_bytes, ◌≡◌, if◌then◌else◌}
use Rattle.std.specs.HashMap.{HashMap, get_by_text}
use Rattle.std.specs.Option.{option_map_or}
use Rattle.std.specs.Str.{bytes_eq}
use Rattle.tocmark_links.specs.Anchors.{names_after}
use Rattle.tocmark_links.specs.declared.anchors.Anchor.{Anchor}

-- the names of the headings among some anchors
abbrev pub heading_names : List Anchor → List (List ℕ)
heading_names [] = []
heading_names (a ∷ anchors) = names_after (heading_names anchors) a.kind (string_bytes a.name)

-- the place of a name: that of the first one that is it, counted from a number on
abbrev pub place_from : ℕ → List (List ℕ) → List ℕ → Option ℕ
place_from n [] name = None
place_from n (other ∷ names) name = if bytes_eq other name then Some n else place_from (suc n) names name

-- the heading that an anchor leads to: its place among the headings
abbrev pub heading_at : List Anchor → List ℕ → Option ℕ
heading_at anchors name = place_from 0 (heading_names anchors) name

module _ {Y Z S : Type 0} where
  -- the new name of an anchor
  abbrev pub renamed : HashMap (String Y) (String Z) S → List ℕ → List ℕ
  renamed changed name = option_map_or string_bytes (get_by_text changed name) name

  -- each name that has a place among the old ones has it among the new ones, by its new name
  abbrev pub KeepsPlaces : HashMap (String Y) (String Z) S → List (List ℕ) → List (List ℕ) → Type 0
  KeepsPlaces changed old new = (name : List ℕ) (n : ℕ) → place_from 0 old name ≡ Some n → place_from 0 new (renamed changed name) ≡ Some n

-- The new definition of a label.
use Rattle.std.proofs.Common.{◌≡◌, ◌∙◌, sym, ap, ℕ, List, Option, map}
use mathlib.Core.List.{map-map}
use Rattle.tocmark_read_tokens.specs.Label.{first_place, key_of}
use Rattle.tocmark_reader.specs.Definitions.{SaidDefinition, said_view}
use Rattle.tocmark_reader.specs.declared.definitions.ReferenceDefinition.{ReferenceDefinition}
use Rattle.tocmark_redefine.specs.Followed.{place_of_label}

-- a label's place by its key
pub placed : (olds : List ReferenceDefinition) (at : List ℕ → Option ℕ) (label : List ℕ) → ((key : List ℕ) → at key ≡ first_place 0 (map (λ d. key_of (said_view d).label) olds) key) → at (key_of label) ≡ place_of_label (map said_view olds) label
placed olds at label h =
    h (key_of label) ∙ ap (λ (keys : List (List ℕ)). first_place 0 keys (key_of label)) (sym (map-map (λ (d : SaidDefinition). key_of d.label) said_view olds))

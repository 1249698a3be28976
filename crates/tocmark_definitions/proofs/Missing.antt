-- A value in which something is missing is no definition.
use Rattle.std.proofs.Common.{◌≡◌, ◌∙◌, ◌<◌, ap, arith, length, map, slice_index_or, sym, ℕ, List, Option, None, Some, codes}
use Rattle.std.proofs.lemmas.List.{get_or-map, length-map}
use Rattle.std.specs.Prelude.{option_and_then}
use Rattle.serde_json.specs.Data.{Data}
use Rattle.serde_json.specs.Find.{get}
use Rattle.serde_json.specs.View.{view}
use Rattle.serde_json.specs.declared.value.Value.{Value}
use Rattle.tocmark_definitions.specs.Redefining.{HasNoDefinition, IsFaultOf, IsNoDefinition, Saying, number_at, text_at}
use Rattle.tocmark_definitions.specs.declared.fault.Fault.{Fault}
use Rattle.tocmark_definitions.specs.declared.fault.Fault.TheVariants as fault

-- what is so in one case is so in a more general one
weaker : (P Q : Type 0) → (P → Q) → (f : Fault) → IsFaultOf P f → IsFaultOf Q f
weaker P Q such (fault.NotJson e) h = h
weaker P Q such fault.NotAList h = h
weaker P Q such (fault.Wanted index key wanted) h = such h
weaker P Q such (fault.NoDefinition index) h = h
weaker P Q such (fault.Misread line) h = h
weaker P Q such fault.OutOfMemory h = h

never : {A : Type 0} (a : A) → None ≡ Some a → ⊥
never a e = absurd cc

none-some : {A : Type 0} (o : Option A) (a : A) → o ≡ None → o ≡ Some a → ⊥
none-some o a none some = never a (sym none ∙ some)

no-label : (value : Data) → text_at (codes "label") value ≡ None → IsNoDefinition value
no-label value none more given e = none-some _ _ none (ap (λ (s : Saying). s.label) e)

no-destination : (value : Data) → text_at (codes "destination") value ≡ None → IsNoDefinition value
no-destination value none more given e = none-some _ _ none (ap (λ (s : Saying). s.destination) e)

no-title : (value : Data) → text_at (codes "title") value ≡ None → IsNoDefinition value
no-title value none more given e = none-some _ _ none (ap (λ (s : Saying). s.title) e)

no-range : (value : Data) → get (codes "range") value ≡ None → IsNoDefinition value
no-range value none more given e =
    none-some _ _ (ap (option_and_then (number_at (codes "start"))) none) (ap (λ (s : Saying). s.begins) e)

no-start : (value range : Data) → get (codes "range") value ≡ Some range → number_at (codes "start") range ≡ None → IsNoDefinition value
no-start value range is none more given e =
    none-some _ _ (ap (option_and_then (number_at (codes "start"))) is ∙ none) (ap (λ (s : Saying). s.begins) e)

no-end : (value range : Data) → get (codes "range") value ≡ Some range → number_at (codes "end") range ≡ None → IsNoDefinition value
no-end value range is none more given e =
    none-some _ _ (ap (option_and_then (number_at (codes "end"))) is ∙ none) (ap (λ (s : Saying). s.ends) e)

pub label_missing : (value : Data) (f : Fault) → IsFaultOf (text_at (codes "label") value ≡ None) f → IsFaultOf (IsNoDefinition value) f
label_missing value f h = weaker (text_at (codes "label") value ≡ None) (IsNoDefinition value) (no-label value) f h

pub destination_missing : (value : Data) (f : Fault) → IsFaultOf (text_at (codes "destination") value ≡ None) f → IsFaultOf (IsNoDefinition value) f
destination_missing value f h = weaker (text_at (codes "destination") value ≡ None) (IsNoDefinition value) (no-destination value) f h

pub title_missing : (value : Data) (f : Fault) → IsFaultOf (text_at (codes "title") value ≡ None) f → IsFaultOf (IsNoDefinition value) f
title_missing value f h = weaker (text_at (codes "title") value ≡ None) (IsNoDefinition value) (no-title value) f h

pub range_missing : (value : Data) (f : Fault) → IsFaultOf (get (codes "range") value ≡ None) f → IsFaultOf (IsNoDefinition value) f
range_missing value f h = weaker (get (codes "range") value ≡ None) (IsNoDefinition value) (no-range value) f h

pub start_missing : (value range : Data) (f : Fault) → get (codes "range") value ≡ Some range → IsFaultOf (number_at (codes "start") range ≡ None) f → IsFaultOf (IsNoDefinition value) f
start_missing value range f is h = weaker (number_at (codes "start") range ≡ None) (IsNoDefinition value) (no-start value range is) f h

pub end_missing : (value range : Data) (f : Fault) → get (codes "range") value ≡ Some range → IsFaultOf (number_at (codes "end") range ≡ None) f → IsFaultOf (IsNoDefinition value) f
end_missing value range f is h = weaker (number_at (codes "end") range ≡ None) (IsNoDefinition value) (no-end value range is) f h

-- a fault of an element is one of the list
pub of_element : (values : List Value) (i : ℕ) (value : Value) (f : Fault) → i < length values → slice_index_or values i value ≡ value → IsFaultOf (IsNoDefinition (view value)) f → IsFaultOf (HasNoDefinition (map view values)) f
of_element values i value f lt is h =
    let long = length-map values view in
    weaker (IsNoDefinition (view value)) (HasNoDefinition (map view values)) (λ none. (view value, (i, omega arith, get_or-map view values i value (view value) lt ∙ ap view is), none)) f h

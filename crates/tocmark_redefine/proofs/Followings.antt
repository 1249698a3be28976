-- Events that follow definitions, event by event.
use Rattle.std.proofs.Common.{◌≡◌, ◌∙◌, ap, ap₂, add-one, ℕ, ◌<◌, ◌+◌, List, length, map, slice_index_or, slice_set}
use Rattle.tocmark_event.specs.View.{EventView}
use Rattle.tocmark_reader.specs.Definitions.{SaidDefinition}
use Rattle.tocmark_rewrite.proofs.Fronts.{front, one-more}

pub next_one : {A B : Type 0} (f : A → B) (h : B → B) (xs : List A) (vs : List B) (i : ℕ) (d new : A) → map f xs ≡ front h i vs → i < length xs → f new ≡ h (f (slice_index_or xs i d)) → map f (slice_set xs i new) ≡ front h (i + 1) vs
next_one f h xs vs i d new e l same = rw add-one (one-more f h xs vs i d new e l same)

pub all_followed : (follow : List SaidDefinition → List SaidDefinition → EventView → EventView) (o olds n news : List SaidDefinition) (new old found : List EventView) → new ≡ map (follow o n) old → old ≡ found → o ≡ olds → n ≡ news → new ≡ map (follow olds news) found
all_followed follow o olds n news new old found a b c d =
    a ∙ ap (map (follow o n)) b ∙ ap₂ (λ (x y : List SaidDefinition). map (follow x y) found) c d

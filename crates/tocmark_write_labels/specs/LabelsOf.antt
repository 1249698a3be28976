-- What folded labels mean.
use Rattle.std.specs.Prelude.{◌≡◌, ℕ, Bool, ◌||◌, Option, Some, None, List, [], ◌∷◌, ◌++◌, map, option_map, string_bytes}
use Rattle.std.specs.Borrow.{Bor}
use Rattle.tocmark_write_labels.specs.Document.{folded, is_among, is_label}
use Rattle.tocmark_write_labels.specs.declared.labels.Labels.{Labels}
use Rattle.tocmark_write_labels.specs.declared.taken.Taken.{Taken}

-- the labels as bytes, in order of arrival
abbrev pub labels_of : Labels → List (List ℕ)
labels_of l = map string_bytes l.folded.keys

-- a list of labels begins with these
abbrev pub Begins : List (List ℕ) → List (List ℕ) → Type 0
Begins front labels = (more : List (List ℕ)) × (labels ≡ front ++ more)

-- ids as labels are compared
abbrev pub folded_ids : List (Bor (List ℕ)) → List (List ℕ)
folded_ids ids = map (λ id. folded id.now) ids

-- an id as labels are compared, if there is one
abbrev pub started_label : Option (Bor (List ℕ)) → List (List ℕ)
started_label None = []
started_label (Some id) = folded id.now ∷ []

-- a label that is lent, if there is one
abbrev pub label_now : Option (Bor (List ℕ)) → Option (List ℕ)
label_now label = option_map (λ l. l.now) label

-- whether a unit may not leave a label open
abbrev pub is_taken_in : Taken → List ℕ → Bool
is_taken_in t label = is_among (labels_of t.known.now) label || is_label (label_now t.reserved) label

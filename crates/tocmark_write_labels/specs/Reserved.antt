-- The label that is reserved for lists that need a placeholder.
use Rattle.std.specs.Prelude.{ℕ, zero, suc, true, false, List, [], ◌∷◌, ◌++◌, codes, decimal, length}
use Rattle.tocmark_event.specs.View.{TagView, Link, Image, Start, SourcedEvent}
use Rattle.tocmark_spelling.specs.Plan.{Setting}
use Rattle.tocmark_write_labels.specs.Document.{DocumentView, folded, is_among, literal_in}

-- the folded id of a link or image; nothing for other containers
abbrev pub id_label : TagView → List (List ℕ)
id_label (Link kind dest title id) = folded id ∷ []
id_label (Image kind dest title id) = folded id ∷ []
id_label t = []

-- the folded ids of the links and images that start in a list of events
abbrev pub ids_of : List SourcedEvent → List (List ℕ)
ids_of [] = []
ids_of (Start t ∷ es) = id_label t ++ ids_of es
ids_of (e ∷ es) = ids_of es

-- the folded labels that mean something else: those of definitions, those taken literally, and the ids of pending events
abbrev pub used_labels : Setting → DocumentView → List SourcedEvent → List (List ℕ)
used_labels s d pending = d.known ++ literal_in s.reading s.flags d.bracketed ++ ids_of pending

-- `cmark-loose-n` with this number
abbrev pub numbered_label : ℕ → List ℕ
numbered_label n = codes "cmark-loose-" ++ decimal n

-- the first label from this number on that isn't used, among so many and one more
abbrev pub free_label : ℕ → ℕ → List (List ℕ) → List ℕ
free_label zero n used = numbered_label n
free_label (suc tries) n used =
    elim (is_among used (numbered_label n)) as (λ _. List ℕ) [ true ↦ free_label tries (suc n) used | false ↦ numbered_label n ]

-- `cmark-loose-n` with the least n from 1 that isn't used; one of the first labels, one more than are used, is free
unfoldable pub reserved_label : Setting → DocumentView → List SourcedEvent → List ℕ
reserved_label s d pending = free_label (length (used_labels s d pending)) 1 (used_labels s d pending)

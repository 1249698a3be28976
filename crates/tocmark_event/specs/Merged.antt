-- Events with each stretch of texts as one.
use Rattle.std.specs.Prelude.{ℕ, List, [], ◌∷◌, ◌++◌, Option, Some, None}
use Rattle.tocmark_event.specs.View.{EventView, Leaf, Text}

-- events whose first text, if they begin with one, has this text before it
abbrev pub after_text : List ℕ → List EventView → List EventView
after_text t (Leaf (Text u) ∷ es) = Leaf (Text (t ++ u)) ∷ es
after_text t es = Leaf (Text t) ∷ es

-- each longest stretch of texts is one text of their joined texts; all else stays
abbrev pub merged : List EventView → List EventView
merged [] = []
merged (Leaf (Text t) ∷ es) = after_text t (merged es)
merged (e ∷ es) = e ∷ merged es

-- a text that waits for its neighbours, as an event; nothing where none waits
abbrev pub pending_text : Option (List ℕ) → List EventView
pending_text None = []
pending_text (Some t) = Leaf (Text t) ∷ []

-- events with the text that waits before them; it joins their first text, if they begin with one
abbrev pub with_text : Option (List ℕ) → List EventView → List EventView
with_text None es = es
with_text (Some t) es = after_text t es

-- the text that waits; the empty one where none does
abbrev pub or_empty : Option (List ℕ) → List ℕ
or_empty None = []
or_empty (Some t) = t

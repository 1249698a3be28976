-- A list of one label at most has none that matches another.
use Rattle.std.proofs.Common.{◌≡◌, ℕ, true, List, [], ◌∷◌, arith, bytes_eq, length, map, refl, ap}
use Rattle.std.proofs.lemmas.Slice.Eq.{bytes_eq-Decides}
use Rattle.tocmark_read_tokens.specs.Label.{distinct_from}
use Rattle.tocmark_read_spans.specs.Definitions.{distinct_labels, label_at, label_key}
use Rattle.tocmark_read_spans.specs.declared.role.Stretch.{Stretch}

only_place : (k : List ℕ) → distinct_from 0 (k ∷ []) (k ∷ []) ≡ 0 ∷ []
only_place k = let same : bytes_eq k k ≡ true = (bytes_eq-Decides k k).1 refl in rw same refl

pub no_label : (texts : List ℕ) (labels : List Stretch) → length labels ≡ 0 → [] ≡ distinct_labels texts labels
no_label texts [] h = refl
no_label texts (s ∷ ss) h = absurd (omega (arith, h))

pub one_label : (texts : List ℕ) (labels : List Stretch) → length labels ≡ 1 → distinct_labels texts labels ≡ label_at texts labels 0 ∷ []
one_label texts [] h = absurd (omega (arith, h))
one_label texts (s ∷ []) h = ap (map (label_at texts (s ∷ []))) (only_place (label_key texts s))
one_label texts (s ∷ t ∷ ss) h = absurd (omega (arith, h))

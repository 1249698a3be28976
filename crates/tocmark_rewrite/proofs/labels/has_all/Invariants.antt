use Rattle.std.proofs.Common.{◌≡◌, ℕ, IsTrue, List, bytes_eq, string_bytes, take}
use Rattle.std.specs.HashSet.{contains_text}
use Rattle.std.specs.List.{list_any}
use Rattle.tocmark_rewrite.proofs.labels.has_all.Given as goal

abbrev pub invariant-loop-label : goal.invariant-loop-label
invariant-loop-label l = (q : List ℕ) → contains_text l.known q ≡ list_any (λ s. bytes_eq (string_bytes s) q) (take l.label-index l.others)

abbrev pub invariant-loop-label-2 : goal.invariant-loop-label-2
invariant-loop-label-2 l = record {
  known : (q : List ℕ) → contains_text l.known q ≡ list_any (λ s. bytes_eq (string_bytes s) q) l.others;
  found : (q : List ℕ) → IsTrue (list_any (λ s. bytes_eq (string_bytes s) q) (take l.label-index l.labels)) → IsTrue (contains_text l.known q);
}

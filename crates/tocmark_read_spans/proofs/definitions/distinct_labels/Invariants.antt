use Rattle.std.proofs.Common.{◌≡◌, ◌++◌, map, drop, string_bytes}
use Rattle.tocmark_read_spans.specs.Definitions.{label_at}
use Rattle.tocmark_read_spans.proofs.definitions.distinct_labels.Given as goal

abbrev pub invariant-loop-place : goal.invariant-loop-place
invariant-loop-place l =
    map string_bytes l.out.items ++ map (label_at l.texts l.labels) (drop l.place-index l.place-items) ≡ map (label_at l.texts l.labels) l.place-items

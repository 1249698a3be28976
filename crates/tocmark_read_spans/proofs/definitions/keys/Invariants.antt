use Rattle.std.proofs.Common.{◌≡◌, ◌++◌, map, drop, string_bytes}
use Rattle.tocmark_read_spans.specs.Definitions.{label_key}
use Rattle.tocmark_read_spans.proofs.definitions.keys.Given as goal

abbrev pub invariant-loop-label : goal.invariant-loop-label
invariant-loop-label l =
    map string_bytes l.keys.items ++ map (label_key l.texts) (drop l.label-index l.labels) ≡ map (label_key l.texts) l.labels

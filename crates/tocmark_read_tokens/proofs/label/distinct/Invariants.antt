use Rattle.std.proofs.Common.{◌≡◌, ◌++◌, drop, map, string_bytes}
use Rattle.tocmark_read_tokens.specs.Label.{distinct_from}
use Rattle.tocmark_read_tokens.proofs.label.distinct.Given as goal

abbrev pub invariant-loop-key : goal.invariant-loop-key
invariant-loop-key l =
    l.kept.items ++ distinct_from l.place (map string_bytes l.keys) (map string_bytes (drop l.key-index l.keys))
    ≡ distinct_from 0 (map string_bytes l.keys) (map string_bytes l.keys)

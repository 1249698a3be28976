use Rattle.std.proofs.Common.{◌≡◌, ◌++◌, drop, map, string_bytes}
use Rattle.tocmark_read_tokens.specs.Label.{key_of}
use Rattle.tocmark_reader.specs.Definitions.{said_view}
use Rattle.tocmark_redefine.proofs.following.keys_of.Given as goal

abbrev pub invariant-loop-definition : goal.invariant-loop-definition
invariant-loop-definition l =
    map string_bytes l.keys.items ++ map (λ d. key_of (said_view d).label) (drop l.definition-index l.definitions)
    ≡ map (λ d. key_of (said_view d).label) l.definitions

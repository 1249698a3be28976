use Rattle.std.proofs.Common.{◌≡◌, ℕ, List, drop, map, string_bytes}
use Rattle.std.specs.HashMap.{get_by_text}
use Rattle.tocmark_read_tokens.specs.Label.{first_place}
use Rattle.tocmark_read_tokens.proofs.label.first_places.Given as goal

abbrev pub invariant-loop-place : goal.invariant-loop-place
invariant-loop-place l = (q : List ℕ) → get_by_text l.places q ≡ first_place l.place (map string_bytes (drop l.place l.keys)) q

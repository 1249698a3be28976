use Rattle.std.proofs.Common.{◌≡◌, ℕ, List, drop, map}
use Rattle.std.specs.HashMap.{get_by_text}
use Rattle.tocmark_links.specs.Renamed.{place_from}
use Rattle.tocmark_links.proofs.renamed.places.Given as goal

abbrev pub invariant-loop-place : goal.invariant-loop-place
invariant-loop-place l = (q : List ℕ) → get_by_text l.places q ≡ place_from l.place (map (λ n. n.now) (drop l.place l.names)) q

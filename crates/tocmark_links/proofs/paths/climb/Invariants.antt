use Rattle.std.proofs.Common.{◌≡◌, ◌++◌, map, drop}
use Rattle.tocmark_links.specs.Paths.{climbed}
use Rattle.tocmark_links.proofs.paths.climb.Given as goal

abbrev pub invariant-loop-part : goal.invariant-loop-part
invariant-loop-part l =
    map (λ p. p.now) l.path.items ++ climbed (map (λ p. p.now) (drop l._part-index l.parts))
    ≡ map (λ p. p.now) l.initial.path.items ++ climbed (map (λ p. p.now) l.parts)

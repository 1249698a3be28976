use Rattle.std.proofs.Common.{◌≡◌, ◌+◌, map, drop}
use Rattle.tocmark_links.specs.Paths.{common}
use Rattle.tocmark_links.proofs.paths.common.Given as goal

abbrev pub invariant-loop-part : goal.invariant-loop-part
invariant-loop-part l = (l.count ≡ l.part-index)
    × (l.part-index + common (map (λ p. p.now) (drop l.part-index l.one)) (drop l.part-index (map (λ p. p.now) l.other))
    ≡ common (map (λ p. p.now) l.one) (map (λ p. p.now) l.other))

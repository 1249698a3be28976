use Rattle.std.proofs.Common.{◌≡◌, map, drop, Some}
use Rattle.std.specs.List.{fold}
use Rattle.tocmark_links.specs.Paths.{gone}
use Rattle.tocmark_links.proofs.paths.go_all.Given as goal

abbrev pub invariant-loop-part : goal.invariant-loop-part
invariant-loop-part l =
    fold gone (Some (map (λ p. p.now) l.place.items)) (map (λ p. p.now) (drop l.part-index l.parts))
    ≡ fold gone (Some (map (λ p. p.now) l.initial.place.items)) (map (λ p. p.now) l.parts)

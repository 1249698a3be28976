use Rattle.std.proofs.Common.{◌≡◌, map, drop, [], string_bytes}
use Rattle.std.specs.List.{fold}
use Rattle.tocmark_links.specs.Paths.{followed}
use Rattle.tocmark_links.proofs.paths.joined.Given as goal

abbrev pub invariant-loop-part : goal.invariant-loop-part
invariant-loop-part l =
    fold followed (string_bytes l.path) (map (λ p. p.now) (drop l.part-index l.parts)) ≡ fold followed [] (map (λ p. p.now) l.parts)

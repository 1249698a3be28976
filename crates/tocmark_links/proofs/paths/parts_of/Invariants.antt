use Rattle.std.proofs.Common.{◌≡◌, map, ◌++◌, length}
use denote.Text.{Utf8}
use denote.Shadow.{shadow}
use Rattle.tocmark_links.specs.Paths.{parts_of}
use Rattle.tocmark_links.proofs.paths.parts_of.Given as goal

abbrev pub invariant-loop-part : goal.invariant-loop-part
invariant-loop-part l = shadow (Utf8 l.rest) × (map (λ p. p.now) l.parts.items ++ parts_of l.rest ≡ parts_of l.path)

abbrev pub decreases-loop-part : goal.decreases-loop-part
decreases-loop-part l = length l.rest

use Rattle.std.proofs.Common.{◌≡◌, drop, map}
use Rattle.tocmark_redefine.specs.Redefined.{replaced}
use Rattle.tocmark_redefine.proofs.redefining.replaced.Given as goal

abbrev pub invariant-loop-number : goal.invariant-loop-number
invariant-loop-number l = replaced (drop l.number-index l.changes) (map (λ d. d.now) l.all.items) ≡ replaced l.changes (map (λ d. d.now) l.texts)

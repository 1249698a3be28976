use Rattle.std.proofs.Common.{◌≡◌, take, map}
use Rattle.tocmark_redefine.proofs.redefining.parting.Given as goal

abbrev pub invariant-loop-i : goal.invariant-loop-i
invariant-loop-i l = map (λ d. d.now) (take l.i l.some) ≡ map (λ d. d.now) (take l.i l.others)

use Rattle.std.proofs.Common.{◌≡◌, map, drop}
use Rattle.tocmark_event.specs.Validation.{sizes_fault, named_size}
use Rattle.tocmark_event.proofs.options.first_too_large.Given as goal

abbrev pub invariant-loop-size : goal.invariant-loop-size
invariant-loop-size l = sizes_fault (map named_size (drop l.size-index l.sizes)) ≡ sizes_fault (map named_size l.sizes)

use Rattle.std.proofs.Common.{◌≡◌, ◌++◌, drop}
use Rattle.tocmark_compare.specs.Given.{given_events}
use Rattle.tocmark_differences.specs.Erased.{erased}
use Rattle.tocmark_differences.specs.declared.erase.Within.TheVariants as within
use Rattle.tocmark_differences.proofs.erase.erased.Given as goal

abbrev pub invariant-loop-pair : goal.invariant-loop-pair
invariant-loop-pair l = record {
  done :
      given_events l.all.items ++ erased l.allowed l.within (given_events (drop l.pair-index l.events))
      ≡ erased l.allowed within.Prose (given_events l.events);
  at : l.next ≡ l.pair-index;
}

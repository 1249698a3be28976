use Rattle.std.proofs.Common.{false, drop, map}
use Rattle.tocmark_spelling.specs.Buffered.{buffered_view}
use Rattle.tocmark_choose.specs.Alike.{AreAlike}
use Rattle.tocmark_choose.specs.declared.alike.Place.TheVariants.{Front}
use Rattle.tocmark_choose.proofs.alike.are_alike.Given as goal

abbrev pub invariant-loop-event : goal.invariant-loop-event
invariant-loop-event l = AreAlike l.raw l.place (drop l.event-index (map buffered_view l.events)) → AreAlike false Front (map buffered_view l.events)

use Rattle.std.proofs.Common.{◌≡◌, map, drop}
use Rattle.std.specs.List.{list_any}
use Rattle.tocmark_spelling.specs.Buffered.{event_of}
use Rattle.tocmark_compare.specs.InParagraph.{stands_alone}
use Rattle.tocmark_compare.proofs.agrees.has_block.Given as goal

abbrev pub invariant-loop-buffered : goal.invariant-loop-buffered
invariant-loop-buffered l = list_any stands_alone (map event_of (drop l.buffered-index l.unit)) ≡ list_any stands_alone (map event_of l.unit)

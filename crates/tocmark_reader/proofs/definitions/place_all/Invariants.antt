use Rattle.std.proofs.Common.{◌≡◌, length}
use Rattle.tocmark_read_scan.specs.Repeat.{repeated}
use Rattle.tocmark_reader.specs.Definitions.{placed_once}
use Rattle.tocmark_reader.proofs.definitions.place_all.Given as goal

abbrev pub invariant-loop-steps_left : goal.invariant-loop-steps_left
invariant-loop-steps_left l =
    repeated (placed_once l.lines.bytes.items l.lines.places.items) l._steps_left l.at l.all.items
    ≡ repeated (placed_once l.lines.bytes.items l.lines.places.items) (length l.lines.bytes.items) 0 l.fn.all.items

use Rattle.std.proofs.Common.{◌≡◌, map, length}
use Rattle.tocmark_read_scan.specs.Repeat.{repeated}
use Rattle.tocmark_read_page.specs.Definitions.{definition_view, define_once}
use Rattle.tocmark_read_page.proofs.definition.define_all.Given as goal

abbrev pub invariant-loop-steps_left : goal.invariant-loop-steps_left
invariant-loop-steps_left l =
    repeated (define_once l.content) l._steps_left l.place (map definition_view l.definitions.items)
    ≡ repeated (define_once l.content) (length l.content) 0 (map definition_view l.fn.definitions.items)

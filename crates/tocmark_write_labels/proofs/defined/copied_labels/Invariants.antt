use Rattle.std.proofs.Common.{◌≡◌, map, take}
use Rattle.tocmark_write_renderer.specs.WriterOf.{reference_view}
use Rattle.tocmark_write_labels.specs.Defined.{defined_view}
use Rattle.tocmark_write_labels.proofs.defined.copied_labels.Given as goal

abbrev pub invariant-loop-label : goal.invariant-loop-label
invariant-loop-label l = map reference_view l.copies.items ≡ map defined_view (take l.label-index l.defined)

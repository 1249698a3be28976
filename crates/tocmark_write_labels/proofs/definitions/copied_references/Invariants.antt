use Rattle.std.proofs.Common.{◌≡◌, map, take}
use Rattle.tocmark_write_renderer.specs.WriterOf.{reference_view}
use Rattle.tocmark_write_labels.proofs.definitions.copied_references.Given as goal

abbrev pub invariant-loop-reference : goal.invariant-loop-reference
invariant-loop-reference l = map reference_view l.copies.items ≡ map reference_view (take l.reference-index l.references)

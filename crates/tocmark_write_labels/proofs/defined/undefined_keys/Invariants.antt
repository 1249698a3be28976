use Rattle.std.proofs.Common.{◌≡◌, ◌++◌, drop, map, reverse}
use Rattle.tocmark_write_renderer.specs.WriterOf.{reference_view}
use Rattle.tocmark_write_labels.specs.Defined.{undefined}
use Rattle.tocmark_write_labels.specs.Definitions.{distinct, distinct_after}
use Rattle.tocmark_write_labels.specs.DefinitionsOf.{key_view}
use Rattle.tocmark_write_labels.proofs.defined.undefined_keys.Given as goal

abbrev pub invariant-loop-reference : goal.invariant-loop-reference
invariant-loop-reference l =
    map key_view l.keys.keys ++ distinct_after (reverse (map key_view l.keys.keys)) (undefined (map reference_view l.defined) (map reference_view (drop l.reference-index l.references)))
    ≡ distinct (undefined (map reference_view l.defined) (map reference_view l.references))

use Rattle.std.proofs.Common.{map}
use Rattle.tocmark_write_renderer.specs.WriterOf.{reference_view}
use Rattle.tocmark_write_labels.specs.Definitions.{distinct}
use Rattle.tocmark_write_labels.proofs.DefinitionTexts.{key-more}
use Rattle.tocmark_write_labels.proofs.definitions.distinct.Goals as goal

pub loop-reference-preserved : goal.loop-reference-preserved
loop-reference-preserved c =
    key-more c.args.references.now c.loop-reference.reference-index c.reference-item.result c.key_of.result c.loop-reference.keys.keys c.insert.new.self.keys (distinct (map reference_view c.args.references.now))
    c.loop-reference-test.true c.reference-item.is c.key_of.ensures c.in_ok-insert.ensures.keys c.loop-reference.invariant

use Rattle.std.proofs.Common.{◌≡◌, take}
use Rattle.tocmark_read_spans.specs.Definitions.{collected_view}
use Rattle.tocmark_reader.specs.Reading.{noted}
use Rattle.tocmark_reader.proofs.reader.note_all.Given as goal

abbrev pub invariant-loop-block : goal.invariant-loop-block
invariant-loop-block l = collected_view l.collected ≡ noted l.text (take l.block-index l.blocks) (collected_view l.fn.collected)

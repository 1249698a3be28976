use Rattle.std.proofs.Common.{◌-◌}
use Rattle.tocmark_event.specs.Text.{text_of}
use Rattle.tocmark_documents.specs.Packed.{packed_text}
use Rattle.tocmark_documents.proofs.PackedCuts.{HasRead}
use Rattle.tocmark_documents.proofs.packed.Packed.texts.Given as goal

abbrev pub invariant-loop-texts : goal.invariant-loop-texts
invariant-loop-texts l = HasRead (λ x. packed_text (text_of x)) l.count l.texts.items l.texts.len l.fn.self.rest.now l.self.rest.now

abbrev pub decreases-loop-texts : goal.decreases-loop-texts
decreases-loop-texts l = l.count - l.texts.len

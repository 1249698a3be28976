use Rattle.std.proofs.Common.{◌∙◌, ◌++◌, ap, drop, length, sym}
use Rattle.std.proofs.lemmas.List.{take-append-drop}
use Rattle.tocmark_documents.proofs.PackedCuts.{text_broken, text_lacks, text_read, text_short}
use Rattle.tocmark_documents.specs.Packed.{packed_number}
use Rattle.tocmark_documents.specs.Unpacked.{own_text}
use Rattle.tocmark_documents.proofs.PackedRefusals.{returned}
use Rattle.tocmark_documents.proofs.packed.Packed.text.Goals as goal

pub returns-in-Ok-clause-read : goal.returns-in-Ok-clause-read
returns-in-Ok-clause-read c =
    let rest = c.number.new.self.rest.now in
    let n = c.in_ok-length.length in
    let split = c.in-Some.ensures.cases in
    let text = c.in-Ok.text.now in
    text_read c.args.self.now.rest.now rest text c.in-Some.rest.now n c.in_ok-length.ensures.read (sym (take-append-drop n rest) ∙ (ap (λ f. f ++ drop n rest) (sym split.1 ∙ sym c.in-Ok.ensures.cases.0) ∙ ap (λ b. text ++ b) (sym split.2))) (ap length c.in-Ok.ensures.cases.0 ∙ split.3)

pub returns-in-Err-clause-refused : goal.returns-in-Err-clause-refused
returns-in-Err-clause-refused c =
    text_broken c.args.self.now.rest.now c.number.new.self.rest.now c.in-Some.bytes.now c.in_ok-length.length c.in_ok-length.ensures.read c.in-Some.ensures.cases.1 c.in-Err.ensures.cases.0

pub returns-in-None-clause-refused : goal.returns-in-None-clause-refused
returns-in-None-clause-refused c = text_short c.args.self.now.rest.now c.number.new.self.rest.now c.in_ok-length.length c.in_ok-length.ensures.read c.in-None.ensures.cases

pub returns-in_err-length-clause-refused : goal.returns-in_err-length-clause-refused
returns-in_err-length-clause-refused c =
    let bytes = c.args.self.now.rest.now in
    returned c.from_residual.result c.in_err-length.field-0.0 c.from_residual.ensures.1 packed_number own_text bytes bytes (text_lacks bytes) c.in_err-length.ensures.refused

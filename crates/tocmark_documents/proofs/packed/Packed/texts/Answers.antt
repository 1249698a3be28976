use Rattle.std.proofs.Common.{◌∙◌, ◌++◌, ap, arith}
use Rattle.tocmark_event.specs.Text.{text_of}
use Rattle.tocmark_documents.specs.Packed.{packed_list, packed_number, packed_text}
use Rattle.tocmark_documents.specs.Unpacked.{own_text}
use Rattle.tocmark_documents.proofs.PackedCuts.{list_begun, list_lacks, list_more, list_none, list_read, list_viewed, text_cuts}
use Rattle.tocmark_documents.proofs.PackedRefusals.{returned}
use Rattle.tocmark_documents.proofs.packed.Packed.texts.Goals as goal

pub returns-in_err-count-clause-refused : goal.returns-in_err-count-clause-refused
returns-in_err-count-clause-refused c =
    let bytes = c.args.self.now.rest.now in
    returned c.from_residual.result c.in_err-count.field-0.0 c.from_residual.ensures.1 packed_number (packed_list own_text) bytes bytes (list_none own_text bytes) c.in_err-count.ensures.refused

pub loop-texts-init : goal.loop-texts-init
loop-texts-init c =
    list_begun (λ x. packed_text (text_of x)) c.in_ok-count.count c.new-texts.result.items c.new-texts.result.len c.args.self.now.rest.now c.number.new.self.rest.now c.in_ok-count.ensures.read c.new-texts.ensures.items c.new-texts.ensures.len

pub returns-in_err-text-clause-refused : goal.returns-in_err-text-clause-refused
returns-in_err-text-clause-refused c =
    let l = c.loop-texts in
    let bytes = c.args.self.now.rest.now in
    returned c.from_residual-in_err-text.result c.in_err-text.field-0.0 c.from_residual-in_err-text.ensures.1 own_text (packed_list own_text) l.self.rest.now bytes (list_lacks (λ x. packed_text (text_of x)) own_text (λ x a. text_cuts (text_of x) a) c.in_ok-count.count l.texts.items l.texts.len bytes l.self.rest.now l.invariant (omega (arith, c.loop-texts-test.true, c.len.ensures))) c.in_err-text.ensures.refused

pub loop-texts-preserved : goal.loop-texts-preserved
loop-texts-preserved c =
    let l = c.loop-texts in
    list_more (λ x. packed_text (text_of x)) c.in_ok-count.count l.texts.items l.texts.len c.args.self.now.rest.now l.self.rest.now l.invariant (omega (arith, c.loop-texts-test.true, c.len.ensures)) c.in_ok-text.field-0 c.text.new.self.rest.now c.in_ok-text.ensures.read c.push.new.self.items c.in_ok-push.ensures.items c.push.new.self.len c.in_ok-push.ensures.len

pub returns-clause-read : goal.returns-clause-read
returns-clause-read c =
    let l = c.loop-texts in
    list_read (λ x. packed_text (text_of x)) c.in_ok-count.count l.texts.items l.texts.len c.args.self.now.rest.now l.self.rest.now l.invariant (omega (arith, c.loop-texts-test.false, c.len.ensures)) ∙ ap (λ z. z ++ c.loop-texts.self.rest.now) (list_viewed packed_text text_of c.loop-texts.texts.items)

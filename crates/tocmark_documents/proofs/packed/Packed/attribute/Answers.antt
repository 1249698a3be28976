use Rattle.tocmark_event.specs.Text.{text_of}
use Rattle.tocmark_documents.specs.Packed.{packed_option}
use Rattle.tocmark_documents.specs.Unpacked.{own_attribute, own_text}
use Rattle.tocmark_documents.proofs.PackedRefusals.{returned}
use Rattle.tocmark_documents.proofs.PackedWholes.{attribute_behind}
use Rattle.tocmark_documents.proofs.packed.Packed.attribute.Goals as goal

pub returns-in_err-optional_text-clause-refused : goal.returns-in_err-optional_text-clause-refused
returns-in_err-optional_text-clause-refused c =
    let bytes = c.args.self.now.rest.now in
    let mid = c.text.new.self.rest.now in
    returned c.from_residual-in_err-optional_text.result c.in_err-optional_text.field-0.0 c.from_residual-in_err-optional_text.ensures.1 (packed_option own_text) own_attribute mid bytes (attribute_behind (text_of c.in_ok-key.key) bytes mid c.in_ok-key.ensures.read) c.in_err-optional_text.ensures.refused

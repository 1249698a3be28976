use Rattle.std.proofs.Common.{◌∷◌}
use Rattle.tocmark_documents.specs.Packed.{packed_byte, packed_option, quote_byte}
use Rattle.tocmark_documents.specs.Unpacked.{own_tag}
use Rattle.tocmark_documents.proofs.PackedRefusals.{returned}
use Rattle.tocmark_documents.proofs.PackedWholes.{quote_tag}
use Rattle.tocmark_documents.proofs.packed.Packed.tag_with.Goals as goal

pub returns-in_err-optional_quote-in-20-clause-refused : goal.returns-in_err-optional_quote-in-20-clause-refused
returns-in_err-optional_quote-in-20-clause-refused c =
    let xs = c.args.self.now.rest.now in
    let kind = c.args.kind in
    returned c.from_residual-in_err-optional_quote-in-20.result c.in_err-optional_quote-in-20.field-0.0 c.from_residual-in_err-optional_quote-in-20.ensures.1 (packed_option (packed_byte quote_byte)) own_tag xs (kind ∷ xs) (quote_tag kind xs c.in-20.is) c.in_err-optional_quote-in-20.ensures.refused

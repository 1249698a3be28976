use Rattle.std.proofs.Common.{◌∷◌}
use Rattle.tocmark_documents.specs.Unpacked.{own_link, own_tag}
use Rattle.tocmark_documents.proofs.PackedRefusals.{returned}
use Rattle.tocmark_documents.proofs.PackedWholes.{image_tag}
use Rattle.tocmark_documents.proofs.packed.Packed.image.Goals as goal

pub returns-in_err-link_type-clause-refused : goal.returns-in_err-link_type-clause-refused
returns-in_err-link_type-clause-refused c =
    let xs = c.args.self.now.rest.now in
    returned c.from_residual.result c.in_err-link_type.field-0.0 c.from_residual.ensures.1 own_link own_tag xs (18 ∷ xs) (image_tag xs) c.in_err-link_type.ensures.refused

use Rattle.std.proofs.Common.{◌∷◌, ap, map}
use Rattle.std.specs.Option.{option_map}
use Rattle.tocmark_event.specs.Text.{text_of}
use Rattle.tocmark_event.specs.View.{attribute_view}
use Rattle.tocmark_documents.specs.Packed.{level_byte, packed_attribute, packed_byte, packed_list, packed_option, packed_text}
use Rattle.tocmark_documents.specs.Unpacked.{own_attribute, own_tag, own_text}
use Rattle.tocmark_documents.proofs.PackedRefusals.{returned}
use Rattle.tocmark_documents.proofs.PackedWholes.{attributes_none, classes_none, four_read, level_none, name_none}
use Rattle.tocmark_documents.proofs.packed.Packed.heading.Goals as goal

pub returns-in_err-level-clause-refused : goal.returns-in_err-level-clause-refused
returns-in_err-level-clause-refused c =
    let xs = c.args.self.now.rest.now in
    returned c.from_residual.result c.in_err-level.field-0.0 c.from_residual.ensures.1 (packed_byte level_byte) own_tag xs (19 ∷ xs) (level_none xs) c.in_err-level.ensures.refused

pub returns-in_err-id-clause-refused : goal.returns-in_err-id-clause-refused
returns-in_err-id-clause-refused c =
    let xs = c.args.self.now.rest.now in
    let m1 = c.level.new.self.rest.now in
    returned c.from_residual-in_err-id.result c.in_err-id.field-0.0 c.from_residual-in_err-id.ensures.1 (packed_option own_text) own_tag m1 (19 ∷ xs) (name_none c.in_ok-level.level xs m1 c.in_ok-level.ensures.read) c.in_err-id.ensures.refused

pub returns-in_err-classes-clause-refused : goal.returns-in_err-classes-clause-refused
returns-in_err-classes-clause-refused c =
    let xs = c.args.self.now.rest.now in
    let m1 = c.level.new.self.rest.now in
    let m2 = c.optional_text.new.self.rest.now in
    returned c.from_residual-in_err-classes.result c.in_err-classes.field-0.0 c.from_residual-in_err-classes.ensures.1 (packed_list own_text) own_tag m2 (19 ∷ xs) (classes_none c.in_ok-level.level (option_map text_of c.in_ok-id.id) xs m1 m2 c.in_ok-level.ensures.read c.in_ok-id.ensures.read) c.in_err-classes.ensures.refused

pub returns-in_err-attributes-clause-refused : goal.returns-in_err-attributes-clause-refused
returns-in_err-attributes-clause-refused c =
    let xs = c.args.self.now.rest.now in
    let m1 = c.level.new.self.rest.now in
    let m2 = c.optional_text.new.self.rest.now in
    let m3 = c.texts.new.self.rest.now in
    returned c.from_residual-in_err-attributes.result c.in_err-attributes.field-0.0 c.from_residual-in_err-attributes.ensures.1 (packed_list own_attribute) own_tag m3 (19 ∷ xs) (attributes_none c.in_ok-level.level (option_map text_of c.in_ok-id.id) (map text_of c.in_ok-classes.classes.items) xs m1 m2 m3 c.in_ok-level.ensures.read c.in_ok-id.ensures.read c.in_ok-classes.ensures.read) c.in_err-attributes.ensures.refused

pub returns-clause-read : goal.returns-clause-read
returns-clause-read c =
    ap (λ m. 19 ∷ m) (four_read (level_byte c.in_ok-level.level) (packed_option packed_text (option_map text_of c.in_ok-id.id)) (packed_list packed_text (map text_of c.in_ok-classes.classes.items)) (packed_list packed_attribute (map (attribute_view text_of) c.in_ok-attributes.field-0.items)) c.args.self.now.rest.now c.level.new.self.rest.now c.optional_text.new.self.rest.now c.texts.new.self.rest.now c.attributes.new.self.rest.now c.in_ok-level.ensures.read c.in_ok-id.ensures.read c.in_ok-classes.ensures.read c.in_ok-attributes.ensures.read)

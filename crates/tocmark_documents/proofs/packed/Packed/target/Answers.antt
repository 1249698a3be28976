use Rattle.tocmark_event.specs.Text.{text_of}
use Rattle.tocmark_documents.specs.Packed.{link_byte, packed_byte, packed_text}
use Rattle.tocmark_documents.specs.Unpacked.{own_link, own_text}
use Rattle.tocmark_documents.proofs.PackedRefusals.{returned}
use Rattle.tocmark_documents.proofs.PackedWholes.{dest_none, four_read, id_none, link_type_none, title_none}
use Rattle.tocmark_documents.proofs.packed.Packed.target.Goals as goal

pub returns-in_err-link_type-clause-refused : goal.returns-in_err-link_type-clause-refused
returns-in_err-link_type-clause-refused c =
    let xs = c.args.self.now.rest.now in
    returned c.from_residual.result c.in_err-link_type.field-0.0 c.from_residual.ensures.1 (packed_byte link_byte) own_link xs xs (link_type_none xs) c.in_err-link_type.ensures.refused

pub returns-in_err-dest_url-clause-refused : goal.returns-in_err-dest_url-clause-refused
returns-in_err-dest_url-clause-refused c =
    let xs = c.args.self.now.rest.now in
    let m1 = c.link_type.new.self.rest.now in
    returned c.from_residual-in_err-dest_url.result c.in_err-dest_url.field-0.0 c.from_residual-in_err-dest_url.ensures.1 own_text own_link m1 xs (dest_none c.in_ok-link_type.link_type xs m1 c.in_ok-link_type.ensures.read) c.in_err-dest_url.ensures.refused

pub returns-in_err-title-clause-refused : goal.returns-in_err-title-clause-refused
returns-in_err-title-clause-refused c =
    let xs = c.args.self.now.rest.now in
    let m1 = c.link_type.new.self.rest.now in
    let m2 = c.text.new.self.rest.now in
    returned c.from_residual-in_err-title.result c.in_err-title.field-0.0 c.from_residual-in_err-title.ensures.1 own_text own_link m2 xs (title_none c.in_ok-link_type.link_type (text_of c.in_ok-dest_url.dest_url) xs m1 m2 c.in_ok-link_type.ensures.read c.in_ok-dest_url.ensures.read) c.in_err-title.ensures.refused

pub returns-in_err-text-clause-refused : goal.returns-in_err-text-clause-refused
returns-in_err-text-clause-refused c =
    let xs = c.args.self.now.rest.now in
    let m1 = c.link_type.new.self.rest.now in
    let m2 = c.text.new.self.rest.now in
    let m3 = c.text-2.new.self.rest.now in
    returned c.from_residual-in_err-text.result c.in_err-text.field-0.0 c.from_residual-in_err-text.ensures.1 own_text own_link m3 xs (id_none c.in_ok-link_type.link_type (text_of c.in_ok-dest_url.dest_url) (text_of c.in_ok-title.title) xs m1 m2 m3 c.in_ok-link_type.ensures.read c.in_ok-dest_url.ensures.read c.in_ok-title.ensures.read) c.in_err-text.ensures.refused

pub returns-clause-read : goal.returns-clause-read
returns-clause-read c =
    four_read (link_byte c.in_ok-link_type.link_type) (packed_text (text_of c.in_ok-dest_url.dest_url)) (packed_text (text_of c.in_ok-title.title)) (packed_text (text_of c.in_ok-text.field-0)) c.args.self.now.rest.now c.link_type.new.self.rest.now c.text.new.self.rest.now c.text-2.new.self.rest.now c.text-3.new.self.rest.now c.in_ok-link_type.ensures.read c.in_ok-dest_url.ensures.read c.in_ok-title.ensures.read c.in_ok-text.ensures.read

use Rattle.std.proofs.Common.{codes}
use Rattle.json.specs.Print.{escape_byte}
use Rattle.tocmark_json.proofs.Adding.{text_tagged_closed}
use Rattle.tocmark_json.proofs.printing.print_footnote.Goals as goal

pub returns : goal.returns
unfolding escape_byte
returns g c = text_tagged_closed c.push_text.result c.args.out.now.items c.push_text.new.out.items (codes "FootnoteDefinition") (g.T.Words.bytes c.args.label.now) c.push_text.ensures

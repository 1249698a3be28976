use Rattle.std.proofs.Common.{codes}
use Rattle.json.specs.Print.{escape_byte}
use Rattle.serde_json.specs.Data.{string}
use Rattle.tocmark_json.specs.Json.{tagged}
use Rattle.tocmark_json.proofs.Adding.{brought, string_sound, tagged_sound, text_tagged_twice}
use Rattle.tocmark_json.proofs.printing.print_code_block.Goals as goal

pub returns-in-Indented : goal.returns-in-Indented
unfolding escape_byte
returns-in-Indented g c = rw c.in-Indented.is (brought c.push.result c.args.out.now.items c.push.new.out.items _ (tagged (codes "CodeBlock") (string (codes "Indented"))) (tagged_sound (codes "CodeBlock") (string (codes "Indented")) (string_sound (codes "Indented"))) c.push.ensures)

pub returns-in-Fenced : goal.returns-in-Fenced
unfolding escape_byte
returns-in-Fenced g c = rw c.in-Fenced.is (text_tagged_twice c.push_text.result c.args.out.now.items c.push_text.new.out.items (codes "CodeBlock") (codes "Fenced") (g.T.Words.bytes c.in-Fenced.info) c.push_text.ensures)

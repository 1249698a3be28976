use Rattle.std.proofs.Common.{codes}
use Rattle.json.specs.Print.{escape_byte}
use Rattle.serde_json.specs.Data.{string}
use Rattle.tocmark_json.proofs.Adding.{brought, string_sound, text_tagged, truth_tagged}
use Rattle.tocmark_json.proofs.printing.print_event.Goals as goal

pub returns-in-Start : goal.returns-in-Start
returns-in-Start g c = rw c.in-Start.is c.print_started.ensures

pub returns-in-End : goal.returns-in-End
returns-in-End g c = rw c.in-End.is c.print_ended.ensures

pub returns-in-Text : goal.returns-in-Text
unfolding escape_byte
returns-in-Text g c = rw c.in-Text.is (text_tagged c.push_text.result c.args.out.now.items c.push_text.new.out.items (codes "Text") (g.T.Words.bytes c.in-Text.text) c.push_text.ensures)

pub returns-in-Code : goal.returns-in-Code
unfolding escape_byte
returns-in-Code g c = rw c.in-Code.is (text_tagged c.push_text-in-Code.result c.args.out.now.items c.push_text-in-Code.new.out.items (codes "Code") (g.T.Words.bytes c.in-Code.text) c.push_text-in-Code.ensures)

pub returns-in-InlineMath : goal.returns-in-InlineMath
unfolding escape_byte
returns-in-InlineMath g c = rw c.in-InlineMath.is (text_tagged c.push_text-in-InlineMath.result c.args.out.now.items c.push_text-in-InlineMath.new.out.items (codes "InlineMath") (g.T.Words.bytes c.in-InlineMath.text) c.push_text-in-InlineMath.ensures)

pub returns-in-DisplayMath : goal.returns-in-DisplayMath
unfolding escape_byte
returns-in-DisplayMath g c = rw c.in-DisplayMath.is (text_tagged c.push_text-in-DisplayMath.result c.args.out.now.items c.push_text-in-DisplayMath.new.out.items (codes "DisplayMath") (g.T.Words.bytes c.in-DisplayMath.text) c.push_text-in-DisplayMath.ensures)

pub returns-in-Html : goal.returns-in-Html
unfolding escape_byte
returns-in-Html g c = rw c.in-Html.is (text_tagged c.push_text-in-Html.result c.args.out.now.items c.push_text-in-Html.new.out.items (codes "Html") (g.T.Words.bytes c.in-Html.text) c.push_text-in-Html.ensures)

pub returns-in-InlineHtml : goal.returns-in-InlineHtml
unfolding escape_byte
returns-in-InlineHtml g c = rw c.in-InlineHtml.is (text_tagged c.push_text-in-InlineHtml.result c.args.out.now.items c.push_text-in-InlineHtml.new.out.items (codes "InlineHtml") (g.T.Words.bytes c.in-InlineHtml.text) c.push_text-in-InlineHtml.ensures)

pub returns-in-FootnoteReference : goal.returns-in-FootnoteReference
unfolding escape_byte
returns-in-FootnoteReference g c = rw c.in-FootnoteReference.is (text_tagged c.push_text-in-FootnoteReference.result c.args.out.now.items c.push_text-in-FootnoteReference.new.out.items (codes "FootnoteReference") (g.T.Words.bytes c.in-FootnoteReference.label) c.push_text-in-FootnoteReference.ensures)

pub returns-in-SoftBreak : goal.returns-in-SoftBreak
unfolding escape_byte
returns-in-SoftBreak g c = rw c.in-SoftBreak.is (brought c.push.result c.args.out.now.items c.push.new.out.items _ (string (codes "SoftBreak")) (string_sound (codes "SoftBreak")) c.push.ensures)

pub returns-in-HardBreak : goal.returns-in-HardBreak
unfolding escape_byte
returns-in-HardBreak g c = rw c.in-HardBreak.is (brought c.push-in-HardBreak.result c.args.out.now.items c.push-in-HardBreak.new.out.items _ (string (codes "HardBreak")) (string_sound (codes "HardBreak")) c.push-in-HardBreak.ensures)

pub returns-in-Rule : goal.returns-in-Rule
unfolding escape_byte
returns-in-Rule g c = rw c.in-Rule.is (brought c.push-in-Rule.result c.args.out.now.items c.push-in-Rule.new.out.items _ (string (codes "Rule")) (string_sound (codes "Rule")) c.push-in-Rule.ensures)

pub returns-in-TaskListMarker : goal.returns-in-TaskListMarker
unfolding escape_byte
returns-in-TaskListMarker g c = rw c.in-TaskListMarker.is (truth_tagged c.push_truth.result c.args.out.now.items c.push_truth.new.out.items (codes "TaskListMarker") _ c.push_truth.ensures)

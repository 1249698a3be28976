use Rattle.std.proofs.Common.{refl}
use Rattle.tocmark_event.proofs.event.EventOf.copied.Goals as goal

pub returns-in_ok-copied-in-Start : goal.returns-in_ok-copied-in-Start
returns-in_ok-copied-in-Start g c = rw (c.in-Start.is, c.in_ok-copied-in-Start.ensures) refl

pub returns-in_ok-copied_text-in-Text : goal.returns-in_ok-copied_text-in-Text
returns-in_ok-copied_text-in-Text g c = rw (c.in-Text.is, c.in_ok-copied_text-in-Text.ensures) refl

pub returns-in_ok-copied_text-in-Code : goal.returns-in_ok-copied_text-in-Code
returns-in_ok-copied_text-in-Code g c = rw (c.in-Code.is, c.in_ok-copied_text-in-Code.ensures) refl

pub returns-in_ok-copied_text-in-InlineMath : goal.returns-in_ok-copied_text-in-InlineMath
returns-in_ok-copied_text-in-InlineMath g c = rw (c.in-InlineMath.is, c.in_ok-copied_text-in-InlineMath.ensures) refl

pub returns-in_ok-copied_text-in-DisplayMath : goal.returns-in_ok-copied_text-in-DisplayMath
returns-in_ok-copied_text-in-DisplayMath g c = rw (c.in-DisplayMath.is, c.in_ok-copied_text-in-DisplayMath.ensures) refl

pub returns-in_ok-copied_text-in-Html : goal.returns-in_ok-copied_text-in-Html
returns-in_ok-copied_text-in-Html g c = rw (c.in-Html.is, c.in_ok-copied_text-in-Html.ensures) refl

pub returns-in_ok-copied_text-in-InlineHtml : goal.returns-in_ok-copied_text-in-InlineHtml
returns-in_ok-copied_text-in-InlineHtml g c = rw (c.in-InlineHtml.is, c.in_ok-copied_text-in-InlineHtml.ensures) refl

pub returns-in_ok-copied_text-in-FootnoteReference : goal.returns-in_ok-copied_text-in-FootnoteReference
returns-in_ok-copied_text-in-FootnoteReference g c = rw (c.in-FootnoteReference.is, c.in_ok-copied_text-in-FootnoteReference.ensures) refl

pub returns-in-End : goal.returns-in-End
returns-in-End g c = rw c.in-End.is refl

pub returns-in-SoftBreak : goal.returns-in-SoftBreak
returns-in-SoftBreak g c = rw c.in-SoftBreak.is refl

pub returns-in-HardBreak : goal.returns-in-HardBreak
returns-in-HardBreak g c = rw c.in-HardBreak.is refl

pub returns-in-Rule : goal.returns-in-Rule
returns-in-Rule g c = rw c.in-Rule.is refl

pub returns-in-TaskListMarker : goal.returns-in-TaskListMarker
returns-in-TaskListMarker g c = rw c.in-TaskListMarker.is refl

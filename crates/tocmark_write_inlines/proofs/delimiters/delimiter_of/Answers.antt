use Rattle.std.proofs.Common.{refl}
use Rattle.tocmark_event.specs.View.{Strikethrough}
use Rattle.tocmark_write_renderer.specs.JobOf.{manner_view, setting_in}
use Rattle.tocmark_write_inlines.proofs.Tokens.{same-delimited}
use Rattle.tocmark_write_inlines.proofs.delimiters.delimiter_of.Goals as goal

pub returns-in-Strikethrough : goal.returns-in-Strikethrough
returns-in-Strikethrough c =
    λ reading l path p is. rw c.in-Strikethrough.is (same-delimited Strikethrough _ _ _ path p (c.struck.ensures.before reading path is) c.struck.ensures.after)

pub returns-in-Superscript : goal.returns-in-Superscript
returns-in-Superscript c =
    λ reading l path p is. rw c.in-Superscript.is (c.superscript.ensures (setting_in c.args.job reading) (manner_view c.args.manner) path p refl refl)

pub returns-in-Subscript : goal.returns-in-Subscript
returns-in-Subscript c =
    λ reading l path p is. rw c.in-Subscript.is (c.subscript.ensures (setting_in c.args.job reading) path p refl)

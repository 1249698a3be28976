use Rattle.std.proofs.Common.{◌∙◌, sym}
use Rattle.tocmark_write_pending.proofs.DelimiterColumn.{numbers-set, widths-set}
use Rattle.tocmark_write_pending.proofs.OpenContainers.{some-same}
use Rattle.tocmark_write_pending.proofs.delimiters.note_width.Goals as goal

pub returns-then-start-len-clause-numbers : goal.returns-then-start-len-clause-numbers
returns-then-start-len-clause-numbers c =
    numbers-set c.args.delimiters.now.items c.in-Some.start c.args.width c.index.result.now c.index.ensures

pub returns-then-start-len-clause-widths : goal.returns-then-start-len-clause-widths
returns-then-start-len-clause-widths c = λ p is.
    widths-set c.args.delimiters.now.items c.in-Some.start p c.index.result.now.run c.args.width (some-same c.in-Some.start p (sym c.in-Some.is ∙ is))

use Rattle.std.proofs.Common.{◌≡◌, drop}
use Rattle.tocmark_read_inlines.specs.Write.{ascend}
use Rattle.tocmark_read_inlines.proofs.write.ascend.Given as goal

abbrev pub invariant-loop-mark : goal.invariant-loop-mark
invariant-loop-mark l = ascend l.place l.end (drop l.mark-index l.marks) ≡ ascend 0 l.end l.marks

use Rattle.std.proofs.Common.{◌≡◌, take}
use Rattle.std.specs.List.{fold}
use Rattle.tocmark_read_inlines.specs.Write.{writing, mark_step}
use Rattle.tocmark_read_inlines.proofs.write.Writer.take_marks.Given as goal

abbrev pub invariant-loop-mark : goal.invariant-loop-mark
invariant-loop-mark l = writing l.self ≡ fold mark_step (writing l.fn.self) (take l.mark-index l.marks)

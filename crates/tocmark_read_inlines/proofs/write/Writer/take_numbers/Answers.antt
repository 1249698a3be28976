use Rattle.std.proofs.Common.{sym, arith}
use Rattle.tocmark_read_inlines.proofs.Sparse.{passed_here}
use Rattle.tocmark_read_inlines.specs.Write.{writing}
use Rattle.tocmark_read_inlines.proofs.write.Writer.take_numbers.Goals as goal

pub loop-place-init : goal.loop-place-init
loop-place-init c = (sym (passed_here (writing c.args.self.now) 0 c.requires), omega (arith, c.requires))

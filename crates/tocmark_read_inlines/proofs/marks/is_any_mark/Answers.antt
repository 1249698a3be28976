use Rattle.std.proofs.Common.{◌==◌, arith, get_or, refl}
use Rattle.std.specs.Prelude.{not}
use Rattle.std.proofs.lemmas.Bool.{agree_below_at}
use Rattle.tocmark_read_inlines.specs.Scan.{is_any_mark, is_mark}
use Rattle.tocmark_read_inlines.specs.declared.marks.TheConstants.{MARKS}
use Rattle.tocmark_read_inlines.proofs.marks.is_any_mark.Goals as goal

pub returns : goal.returns
unfolding is_any_mark is_mark
returns c = agree_below_at (λ b. not (get_or MARKS b 0 == 44)) is_any_mark 256 c.args.byte refl (omega arith)

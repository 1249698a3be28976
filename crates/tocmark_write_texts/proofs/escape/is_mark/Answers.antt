use Rattle.std.proofs.Common.{◌==◌, arith, get_or, refl}
use Rattle.std.specs.Prelude.{not}
use Rattle.std.proofs.lemmas.Bool.{agree_below_at}
use Rattle.tocmark_write_texts.specs.Bare.{is_mark}
use Rattle.tocmark_write_texts.specs.declared.escape.TheConstants.{MARKS}
use Rattle.tocmark_write_texts.proofs.escape.is_mark.Goals as goal

pub returns : goal.returns
returns c = agree_below_at (λ b. not (get_or MARKS b 0 == 44)) is_mark 256 c.args.byte refl (omega arith)

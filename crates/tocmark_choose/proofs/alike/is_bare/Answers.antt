use Rattle.std.proofs.Common.{◌==◌, arith, get_or, refl}
use Rattle.std.proofs.lemmas.Bool.{agree_below_at}
use Rattle.tocmark_write_texts.specs.Bare.{is_bare}
use Rattle.tocmark_choose.specs.declared.alike.TheConstants.{MARKS}
use Rattle.tocmark_choose.proofs.alike.is_bare.Goals as goal

pub returns : goal.returns
returns c = agree_below_at (λ b. get_or MARKS b 0 == 44) is_bare 256 c.args.byte refl (omega arith)

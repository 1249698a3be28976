use Rattle.std.proofs.Common.{◌==◌, arith, get_or, refl}
use Rattle.std.proofs.lemmas.Bool.{agree_below_at}
use Rattle.tocmark_read_inlines.specs.Scan.{is_any_mark, is_mark}
use Rattle.tocmark_reader.specs.QuietLines.{is_text_byte}
use Rattle.tocmark_reader.specs.declared.quiet.TheConstants.{TEXT_BYTES}
use Rattle.tocmark_reader.proofs.quiet.is_text_byte.Goals as goal

pub returns : goal.returns
unfolding is_text_byte is_any_mark is_mark
returns c = agree_below_at (λ b. get_or TEXT_BYTES b 0 == 44) is_text_byte 256 c.args.byte refl (omega arith)

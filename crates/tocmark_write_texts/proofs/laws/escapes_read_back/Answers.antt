use Rattle.std.proofs.Common.{[]}
use Rattle.tocmark_write_texts.proofs.ReadBack.{escape_after-read}
use Rattle.tocmark_write_texts.proofs.TextLaws.{escaped-read}
use Rattle.tocmark_write_texts.proofs.laws.escapes_read_back.Goals as goal

pub returns : goal.returns
returns c = record { characters = λ p text standard all. escape_after-read p [] text standard all; texts = escaped-read }

use Rattle.tocmark_write_texts.proofs.ReadBack.{title_text-read}
use Rattle.tocmark_write_texts.proofs.TextLaws.{title_text-chars-read}
use Rattle.tocmark_write_texts.proofs.laws.titles_read_back.Goals as goal

pub returns : goal.returns
returns c = record { characters = title_text-read; texts = title_text-chars-read }

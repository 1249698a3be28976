use Rattle.tocmark_write_texts.proofs.ReadBack.{destination_text-read}
use Rattle.tocmark_write_texts.proofs.TextLaws.{destination_text-chars-read}
use Rattle.tocmark_write_texts.proofs.laws.destinations_read_back.Goals as goal

pub returns : goal.returns
returns c = record { characters = destination_text-read; texts = destination_text-chars-read }

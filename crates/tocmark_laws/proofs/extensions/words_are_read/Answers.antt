use Rattle.tocmark_laws.proofs.WordsReading.{words_agree, words_read}
use Rattle.tocmark_laws.proofs.extensions.words_are_read.Goals as goal

pub returns : goal.returns
returns c syntax l ms words fits = (words_agree syntax l ms words fits, words_read syntax l ms words fits)

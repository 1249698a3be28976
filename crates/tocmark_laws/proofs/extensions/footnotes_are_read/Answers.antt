use Rattle.tocmark_laws.proofs.NoteReading.{footnotes_read}
use Rattle.tocmark_laws.proofs.extensions.footnotes_are_read.Goals as goal

pub returns : goal.returns
returns c syntax words label note has plain named below fits = footnotes_read syntax words label note has plain named below fits

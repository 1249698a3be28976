use Rattle.tocmark_laws.proofs.TableReading.{table_read}
use Rattle.tocmark_laws.proofs.extensions.tables_are_read.Goals as goal

pub returns : goal.returns
returns c syntax header column columns rows has plain fits = table_read syntax header column columns rows has plain fits

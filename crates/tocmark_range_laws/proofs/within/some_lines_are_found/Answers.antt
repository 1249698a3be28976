use Rattle.tocmark_range_laws.proofs.Rows.{some_texts}
use Rattle.tocmark_range_laws.proofs.within.some_lines_are_found.Goals as goal

pub returns : goal.returns
returns c = some_texts

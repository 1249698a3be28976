use Rattle.tocmark_text_laws.proofs.ListEndsRows.{list_rows}
use Rattle.tocmark_text_laws.proofs.list_ends.some_lists_go_on.Goals as goal

pub returns : goal.returns
returns c = list_rows

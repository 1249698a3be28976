use Rattle.tocmark_laws.proofs.TablesReadBack.{tables_read_back}
use Rattle.tocmark_laws.proofs.read_back.tables_are_read_back.Goals as goal

pub returns : goal.returns
returns c options header column columns rows plain h reading flags source = tables_read_back options header column columns rows plain h reading flags source

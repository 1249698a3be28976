use Rattle.std.proofs.Common.{refl}
use Rattle.tocmark_rewrite.proofs.answer.tree_of.Goals as goal

pub returns-clause-told : goal.returns-clause-told
returns-clause-told c = λ r given h. c.fate_of.ensures.told r given h _ refl refl

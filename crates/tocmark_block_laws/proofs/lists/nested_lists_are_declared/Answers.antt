use Rattle.tocmark_block_laws.proofs.NestedTexts.{nested-lists-declared}
use Rattle.tocmark_block_laws.proofs.lists.nested_lists_are_declared.Goals as goal

pub returns : goal.returns
returns c = nested-lists-declared

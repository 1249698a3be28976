use Rattle.std.proofs.Common.{rules, tests}
use Rattle.std.proofs.lemmas.Iterator.Adapters.{YieldsList-from_rev_slice}
use Rattle.std.proofs.lemmas.Iterator.Consumers.{count_from_yields_List}
use Rattle.std.proofs.lemmas.Iterator.Search.{YieldsList-from_take_while}
use Rattle.tocmark_read_constructs.specs.DefinitionLists.{is_spent}
use Rattle.tocmark_read_constructs.proofs.definition_list.spent_count.Goals as goal

pub returns : goal.returns
returns c =
    count_from_yields_List c.take_while.result _ c.count.ensures.ran
    (YieldsList-from_take_while _ is_spent (YieldsList-from_rev_slice c.args.blocks.now cc) c.take_while.ensures.closure c.take_while.ensures.done (λ x b q k. search (rules, tests)))

use Rattle.std.proofs.Common.{rules, tests}
use Rattle.std.proofs.lemmas.Iterator.{YieldsList-from_slice}
use Rattle.std.proofs.lemmas.Iterator.Search.{all_from_yields_List}
use Rattle.tocmark_write_texts.specs.Bare.{is_bare}
use Rattle.tocmark_choose.proofs.alike.are_bare.Goals as goal

pub returns : goal.returns
returns c = all_from_yields_List is_bare _ _ c.all.result c.all.ensures.ran (YieldsList-from_slice c.args.text.now cc) (λ x b q k. search (rules, tests))

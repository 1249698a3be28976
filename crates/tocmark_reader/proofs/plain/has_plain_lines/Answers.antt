use Rattle.std.proofs.Common.{rules, tests}
use Rattle.std.proofs.lemmas.Iterator.Search.{all_from_yields_List}
use Rattle.std.proofs.lemmas.Iterator.Splits.{YieldsList-from_slice_split}
use Rattle.tocmark_reader.specs.PlainTexts.{has_plain_bytes}
use Rattle.tocmark_reader.proofs.PlainSearch.{is_feed}
use Rattle.tocmark_reader.proofs.plain.has_plain_lines.Goals as goal

pub returns : goal.returns
returns c =
    all_from_yields_List has_plain_bytes _ _ c.all.result c.all.ensures.ran
    (YieldsList-from_slice_split _ is_feed c.args.text.now c.split.ensures.rest c.split.ensures.done c.split.ensures.closure (λ x b q k. search (rules, tests)))
    (λ x b q k. search (rules, tests))

use Rattle.std.proofs.Common.{◌∙◌, sym, ap, Some, None, arith}
use Rattle.std.proofs.lemmas.Str.Pattern.{split_parts}
use Rattle.tocmark_links.specs.Destinations.{rest_after}
use Rattle.tocmark_links.proofs.Firsts.{after-all, after-stops}
use Rattle.tocmark_links.proofs.headings.anchor_of.Goals as goal

pub returns-in-None : goal.returns-in-None
returns-in-None c =
    sym (after-all 35 c.args.destination.now (split_parts 35 c.args.destination.now None c.in-None.ensures.cases (omega arith)))

pub returns-in-Some : goal.returns-in-Some
returns-in-Some c =
    let parts = c.in-Some.parts in
    let cut = split_parts 35 c.args.destination.now (Some parts) c.in-Some.ensures.cases (omega arith) in
    sym (ap (rest_after 35) cut.0 ∙ after-stops 35 parts.0.now parts.1.now cut.1)

use Rattle.std.proofs.Common.{◌∙◌, sym, ap, Some, None}
use Rattle.std.proofs.lemmas.Str.Pattern.{split_parts}
use Rattle.tocmark_links.specs.Destinations.{until}
use Rattle.tocmark_links.proofs.Cutting.{until-all, until-stops}
use Rattle.tocmark_links.proofs.destination.until.Goals as goal

pub returns-in-None : goal.returns-in-None
returns-in-None c = λ low.
    sym (until-all c.args.mark c.args.text.now (split_parts c.args.mark c.args.text.now None c.in-None.ensures.cases low))

pub returns-in-Some : goal.returns-in-Some
returns-in-Some c = λ low.
    let parts = c.in-Some.parts in
    let cut = split_parts c.args.mark c.args.text.now (Some parts) c.in-Some.ensures.cases low in
    sym (ap (until c.args.mark) cut.0 ∙ until-stops c.args.mark parts.0.now parts.1.now cut.1)

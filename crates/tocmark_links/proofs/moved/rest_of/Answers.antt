use Rattle.std.proofs.Common.{◌∙◌, ap, length, arith}
use Rattle.tocmark_links.proofs.Cutting.{rest-from}
use Rattle.tocmark_links.proofs.moved.rest_of.Goals as goal

pub returns-in-Some : goal.returns-in-Some
returns-in-Some c =
    rest-from c.args.destination.now c.in-Some.rest.now (length c.parts.result.path.now) (ap length c.parts.ensures) c.in-Some.ensures.cases.0

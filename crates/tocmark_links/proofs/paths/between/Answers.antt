use Rattle.tocmark_links.proofs.Parts.{between-is}
use Rattle.tocmark_links.proofs.paths.between.Goals as goal

pub returns : goal.returns
returns c =
    between-is c.or_here.new.parts.items c.extend_from_slice.new.self.items c.climb.new.path.items c.new-parts.result.items c.rest.result.now c.rest-2.result.now c.args.from.now c.args.to.now c.common-shared.result c.in_ok-or_here.ensures c.in_ok-extend_from_slice.ensures.items c.in_ok-climb.ensures c.new-parts.ensures.items c.rest.ensures c.rest-2.ensures c.common-shared.ensures

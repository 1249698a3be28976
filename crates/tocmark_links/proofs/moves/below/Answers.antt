use Rattle.std.proofs.Common.{◌∙◌, sym, ap, Some, None, if◌then◌else◌}
use Rattle.tocmark_links.proofs.Cutting.{below-text}
use Rattle.tocmark_links.proofs.moves.below.Goals as goal

pub returns-in-None : goal.returns-in-None
returns-in-None c = sym (below-text c.args.folder.now c.args.path.now None c.in-None.ensures.cases)

pub returns-then-is_tail : goal.returns-then-is_tail
returns-then-is_tail c =
    let rest = c.in-Some.rest in
    sym (below-text c.args.folder.now c.args.path.now (Some rest) c.in-Some.ensures.cases ∙ ap (λ b. if b then Some rest.now else None) (sym c.is_tail.ensures ∙ c.if-is_tail.true))

pub returns-else-is_tail : goal.returns-else-is_tail
returns-else-is_tail c =
    let rest = c.in-Some.rest in
    sym (below-text c.args.folder.now c.args.path.now (Some rest) c.in-Some.ensures.cases ∙ ap (λ b. if b then Some rest.now else None) (sym c.is_tail.ensures ∙ c.if-is_tail.false))

use Rattle.std.proofs.Common.{[], replicate, subst, sym}
use Rattle.std.proofs.lemmas.Result.{on_ok_weaker}
use Rattle.tocmark_spelling.specs.Page.{laid_on}
use Rattle.tocmark_write_renderer.specs.WriterOf.{Stands, levels_of, page_of}
use Rattle.tocmark_write_renderer.proofs.renderer.Renderer.lay_bare_feeds.Goals as goal

pub returns-in-Some-clause-written : goal.returns-in-Some-clause-written
returns-in-Some-clause-written c =
    let path = levels_of c.args.self.now in
    let page = page_of c.args.self.now in
    on_ok_weaker
    c.write_alone.result
    (λ h.
    subst (λ p. Stands c.write_alone.new.self path (laid_on p (replicate c.args.count 10) page)) (sym c.requires)
    (subst (λ t. Stands c.write_alone.new.self path (laid_on [] t page)) c.in-Some.ensures h))
    c.write_alone.ensures.written

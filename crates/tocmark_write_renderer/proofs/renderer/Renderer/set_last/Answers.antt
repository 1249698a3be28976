use Rattle.tocmark_spelling.specs.Page.{Trail}
use Rattle.tocmark_write_renderer.proofs.Carries.{carries}
use Rattle.tocmark_write_renderer.proofs.renderer.Renderer.set_last.Goals as goal

pub returns-clause-stands : goal.returns-clause-stands
returns-clause-stands c =
    carries c.carried.result c.with_last.result (λ (t : Trail). record t { last = c.args.last }) c.args.self.now c.set_carried.new.self c.carried.ensures c.with_last.ensures c.set_carried.ensures.site

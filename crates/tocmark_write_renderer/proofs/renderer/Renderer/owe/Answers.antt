use Rattle.tocmark_spelling.specs.Page.{Trail}
use Rattle.tocmark_write_renderer.proofs.Carries.{carries}
use Rattle.tocmark_write_renderer.proofs.renderer.Renderer.owe.Goals as goal

pub returns-clause-stands : goal.returns-clause-stands
returns-clause-stands c =
    carries c.carried.result c.with_owed.result (λ (t : Trail). record t { owed = c.args.lines }) c.args.self.now c.set_carried.new.self c.carried.ensures c.with_owed.ensures c.set_carried.ensures.site

use Rattle.tocmark_spelling.specs.Page.{Trail}
use Rattle.tocmark_write_renderer.proofs.Carries.{carries}
use Rattle.tocmark_write_blocks.proofs.trail.set_last_list.Goals as goal

pub returns-clause-stands : goal.returns-clause-stands
returns-clause-stands c =
    carries c.carried.result c.with_last_list.result (λ (t : Trail). record t { last_list = c.args.list }) c.args.renderer.now c.set_carried.new.self c.carried.ensures c.with_last_list.ensures c.set_carried.ensures.site

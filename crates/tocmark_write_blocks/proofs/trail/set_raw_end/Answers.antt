use Rattle.tocmark_spelling.specs.Page.{Trail}
use Rattle.tocmark_write_renderer.proofs.Carries.{carries}
use Rattle.tocmark_write_blocks.proofs.trail.set_raw_end.Goals as goal

pub returns-clause-stands : goal.returns-clause-stands
returns-clause-stands c =
    carries c.carried.result c.with_raw_end.result (λ (t : Trail). record t { raw_end = c.args.raw_end }) c.args.renderer.now c.set_carried.new.self c.carried.ensures c.with_raw_end.ensures c.set_carried.ensures.site

use Rattle.tocmark_spelling.specs.Page.{Trail}
use Rattle.tocmark_write_renderer.proofs.Carries.{carries}
use Rattle.tocmark_write_blocks.proofs.trail.set_open_html.Goals as goal

pub returns-clause-stands : goal.returns-clause-stands
returns-clause-stands c =
    carries c.carried.result c.with_open_html.result (λ (t : Trail). record t { open_html = c.args.open_html }) c.args.renderer.now c.set_carried.new.self c.carried.ensures c.with_open_html.ensures c.set_carried.ensures.site

use Rattle.tocmark_spelling.specs.Page.{raised}
use Rattle.tocmark_write_renderer.proofs.Carries.{carries}
use Rattle.tocmark_write_blocks.proofs.trail.owe_at_least.Goals as goal

pub returns-clause-stands : goal.returns-clause-stands
returns-clause-stands c =
    carries c.carried.result c.raised.result (raised c.args.lines) c.args.renderer.now c.set_carried.new.self c.carried.ensures c.raised.ensures c.set_carried.ensures.site

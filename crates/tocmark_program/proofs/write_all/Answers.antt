use Rattle.tocmark_program.specs.Program.{events_in}
use Rattle.tocmark_program.proofs.Written.{all_rewritten}
use Rattle.tocmark_program.proofs.write_all.Goals as goal

pub returns : goal.returns
returns c h =
    all_rewritten c.args.spelling c.args.text.now c.write_blocks.new.state c.write_blocks.new.output c.finish.new.writer c.in_ok-finish.field-0
    (c.in_ok-write_blocks.ensures (events_in c.args.spelling c.args.text.now) h) c.in_ok-finish.ensures.active

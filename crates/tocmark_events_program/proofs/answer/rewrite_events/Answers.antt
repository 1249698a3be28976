use Rattle.std.proofs.Common.{refl}
use Rattle.tocmark_events_program.proofs.answer.rewrite_events.Goals as goal

pub returns-clause-rewritten : goal.returns-clause-rewritten
returns-clause-rewritten c =
    record { answer = c.in_ok-rewritten.rewritten; is_rewritten = c.in_ok-rewritten.ensures.edited; is_its_text = refl }

use Rattle.std.proofs.Common.{◌∙◌, sym, ap, arith}
use Rattle.tocmark_spelling.proofs.Turns.{drop-event}
use Rattle.tocmark_write_pending.specs.RunColumn.{begins_in_run}
use Rattle.tocmark_write_pending.proofs.runs.is_in_run.Goals as goal

pub returns-then-place-events : goal.returns-then-place-events
returns-then-place-events c =
    c.in_run.ensures ∙ ap begins_in_run (sym (drop-event c.args.events.now c.args.place _ (omega arith) c.index-events-place.is))

use Rattle.std.proofs.Common.{◌∙◌, ap, reverse, sym, take}
use Rattle.std.specs.Prelude.{option_map}
use Rattle.tocmark_spelling.specs.Buffered.{buffered_view}
use Rattle.tocmark_write_pending.specs.RunColumn.{Ends, run_here, run_view}
use Rattle.tocmark_write_emphasis.proofs.RoundRuns.{behind-other-is, behind-record}
use Rattle.tocmark_write_emphasis.proofs.preferences.behind_ends.Goals as goal

pub returns-then-is_finish : goal.returns-then-is_finish
returns-then-is_finish c = λ rest at.
    let back = reverse (take c.args.place c.args.unit.now.events) in
    behind-record Ends (buffered_view c.args.event.now) back rest (option_map run_view c.run_at.result) (c.run_at.ensures ∙ ap (run_here back) at) (sym c.is_finish.ensures ∙ c.if-is_finish.true) c.behind_run.result c.behind_run.ensures

pub returns-else-is_finish : goal.returns-else-is_finish
returns-else-is_finish c = λ rest at.
    c.first_edge.ensures ∙ behind-other-is Ends (buffered_view c.args.event.now) rest (sym c.is_finish.ensures ∙ c.if-is_finish.false)

use Rattle.std.proofs.Common.{◌∙◌, ap, reverse, sym, take}
use Rattle.std.specs.Prelude.{option_map}
use Rattle.tocmark_spelling.specs.Buffered.{buffered_view}
use Rattle.tocmark_write_pending.specs.RunColumn.{Starts, run_here, run_view}
use Rattle.tocmark_write_emphasis.proofs.RoundRuns.{before-other, before-record}
use Rattle.tocmark_write_emphasis.proofs.preferences.before_starts.Goals as goal

pub returns-then-is_start : goal.returns-then-is_start
returns-then-is_start c = λ rest at.
    let back = reverse (take c.args.place c.args.unit.now.events) in
    before-record Starts (buffered_view c.args.event.now) back rest (option_map run_view c.run_at.result) (c.run_at.ensures ∙ ap (run_here back) at) (sym c.is_start.ensures ∙ c.if-is_start.true) c.before_run.result c.before_run.ensures

pub returns-else-is_start : goal.returns-else-is_start
returns-else-is_start c = λ rest at.
    let back = reverse (take c.args.place c.args.unit.now.events) in
    c.last_edge.ensures ∙ before-other Starts (buffered_view c.args.event.now) back (sym c.is_start.ensures ∙ c.if-is_start.false)

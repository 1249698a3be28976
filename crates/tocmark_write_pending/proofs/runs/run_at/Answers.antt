use Rattle.std.proofs.Common.{◌∙◌, sym, ap, drop, map, reverse, take}
use Rattle.tocmark_spelling.specs.Buffered.{buffered_view}
use Rattle.tocmark_write_pending.specs.DelimiterColumn.{numbers_of}
use Rattle.tocmark_write_pending.specs.RunColumn.{run_numbered, run_view}
use Rattle.tocmark_write_pending.proofs.RunPlaces.{here-none, here-some}
use Rattle.tocmark_write_pending.proofs.runs.run_at.Goals as goal

pub returns-then-is_in_run : goal.returns-then-is_in_run
returns-then-is_in_run c =
    let es = map buffered_view c.args.events.now in
    let runs = reverse (map run_view c.args.runs.now) in
    c.run_numbered.ensures
    ∙ ap (λ n. run_numbered n runs) c.number_at.ensures
    ∙ here-some es runs (numbers_of c.args.delimiters.now) c.args.place c.requires.held c.requires.numbered (sym c.is_in_run.ensures ∙ c.if-is_in_run.true)

pub returns-else-is_in_run : goal.returns-else-is_in_run
returns-else-is_in_run c =
    let es = map buffered_view c.args.events.now in
    here-none (reverse (take c.args.place es)) (drop c.args.place es) (sym c.is_in_run.ensures ∙ c.if-is_in_run.false)

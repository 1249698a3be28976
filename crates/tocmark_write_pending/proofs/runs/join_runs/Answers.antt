use Rattle.std.proofs.Common.{map, reverse, refl, sym}
use Rattle.tocmark_spelling.specs.Buffered.{buffered_view}
use Rattle.tocmark_write_pending.specs.DelimiterColumn.{numbers_of}
use Rattle.tocmark_write_pending.specs.RunColumn.{run_view}
use Rattle.tocmark_write_pending.proofs.DelimiterColumn.{numbered-quiet}
use Rattle.tocmark_write_pending.proofs.RunColumn.{unchanged}
use Rattle.tocmark_write_pending.proofs.RunLists.{quiet-joined}
use Rattle.tocmark_write_pending.proofs.runs.join_runs.Goals as goal

pub returns-else-ends_known_run-clause-held : goal.returns-else-ends_known_run-clause-held
returns-else-ends_known_run-clause-held c =
    let x = buffered_view c.args.event.now in
    let back = reverse (map buffered_view c.args.events.now) in
    let runs = c.args.runs.now.items in
    quiet-joined x back runs runs c.requires.held (sym c.if-in_run.ensures) refl
    (unchanged x back (reverse (map run_view runs)) c.requires.held (sym c.if-ends_known_run.ensures))

pub returns-else-ends_known_run-clause-numbered : goal.returns-else-ends_known_run-clause-numbered
returns-else-ends_known_run-clause-numbered c =
    numbered-quiet (map buffered_view c.args.events.now) (buffered_view c.args.event.now) (numbers_of c.args.delimiters.now.items) c.requires.numbered (sym c.if-in_run.ensures)

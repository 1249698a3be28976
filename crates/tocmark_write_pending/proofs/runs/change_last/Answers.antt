use Rattle.std.proofs.Common.{◌-◌, arith, map, refl, reverse}
use Rattle.std.proofs.lemmas.Bool.Decides.{nat_tests}
use Rattle.std.proofs.lemmas.List.{nil_from_length}
use Rattle.tocmark_spelling.specs.Buffered.{buffered_view}
use Rattle.tocmark_write_pending.proofs.RunLists.{last-set, none-changed}
use Rattle.tocmark_write_pending.proofs.runs.change_last.Goals as goal

pub returns-then-is_empty-clause-changed : goal.returns-then-is_empty-clause-changed
returns-then-is_empty-clause-changed c =
    let runs = c.args.runs.now in
    none-changed (buffered_view c.args.event.now) (reverse (map buffered_view c.args.events.now)) runs.items runs.items c.requires
    (nil_from_length runs.items (grind (arith, nat_tests, c.if-is_empty.ensures, runs.ok.0))) refl

pub returns-clause-changed : goal.returns-clause-changed
returns-clause-changed c =
    let runs = c.args.runs.now in
    last-set (buffered_view c.args.event.now) (reverse (map buffered_view c.args.events.now)) runs.items _ (c.len-last.result - 1) c.index.result.now c.in_ok-runs.field-0 c.requires
    (grind (arith, nat_tests, c.if-is_empty.ensures, c.len-last.ensures, runs.ok.0)) c.index.ensures refl c.in_ok-runs.ensures

use Rattle.tocmark_replace.proofs.Quiet.{stays_cleared, stays_old, ended_new, ended_old}
use Rattle.tocmark_replace.proofs.replace.replace.Goals as goal

pub returns-in-Ok-true-clause-any_moment : goal.returns-in-Ok-true-clause-any_moment
returns-in-Ok-true-clause-any_moment g c =
    let s = g.F.ReplaceableFile.steps in
    ended_new c.args.old.now c.args.new.now c.args.syncs (s c.args.file.now) (s c.fill_and_rename.new.file) c.in-Ok-true.field-0 c.in-Ok-true.ensures.ends c.in-Ok-true.field-0-test

pub returns-in-Ok-false-clause-any_moment : goal.returns-in-Ok-false-clause-any_moment
returns-in-Ok-false-clause-any_moment g c =
    let s = g.F.ReplaceableFile.steps in
    let stays = ended_old c.args.old.now c.args.new.now c.args.syncs (s c.args.file.now) (s c.fill_and_rename.new.file) c.in-Ok-false.field-0 c.in-Ok-false.ensures.ends c.in-Ok-false.field-0-test in
    stays_old c.args.new.now (s c.args.file.now) (s c.remove.new.self) (stays_cleared (s c.args.file.now) (s c.fill_and_rename.new.file) (s c.remove.new.self) stays c.remove.ensures)

pub returns-in-Err-clause-any_moment : goal.returns-in-Err-clause-any_moment
returns-in-Err-clause-any_moment g c =
    let s = g.F.ReplaceableFile.steps in
    stays_old c.args.new.now (s c.args.file.now) (s c.remove-in-Err.new.self) (stays_cleared (s c.args.file.now) (s c.fill_and_rename.new.file) (s c.remove-in-Err.new.self) c.in-Err.ensures.stays c.remove-in-Err.ensures)

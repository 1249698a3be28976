use Rattle.tocmark_replace.proofs.Quiet.{on_err, stays_then, stays_written}
use Rattle.tocmark_replace.proofs.replace.fill_and_rename.Goals as goal

pub returns-in_err-done-clause-stays : goal.returns-in_err-done-clause-stays
returns-in_err-done-clause-stays g c =
    let s = g.F.ReplaceableFile.steps in
    let filled = stays_written (s c.args.file.now) (s c.write_new.new.file) c.args.new.now c.args.syncs c.in_ok-write_new.ensures.ok in
    on_err c.from_residual-in_err-done.result (stays_then (s c.args.file.now) (s c.write_new.new.file) (s c.rename_if_same.new.file) filled c.in_err-done.ensures.stays)

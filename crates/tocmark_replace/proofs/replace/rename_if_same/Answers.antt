use Rattle.tocmark_replace.specs.Steps.{Failed}
use Rattle.tocmark_replace.proofs.Quiet.{on_err, stays_by, stays_then, stays_found}
use Rattle.tocmark_replace.proofs.replace.rename_if_same.Goals as goal

pub returns-in_err-still_has-clause-stays : goal.returns-in_err-still_has-clause-stays
returns-in_err-still_has-clause-stays g c =
    let s = g.F.ReplaceableFile.steps in
    on_err c.from_residual.result (stays_by (s c.args.file.now) (s c.still_has.new.self) Failed tt c.in_err-still_has.ensures)

pub returns-in_err-rename-clause-stays : goal.returns-in_err-rename-clause-stays
returns-in_err-rename-clause-stays g c =
    let s = g.F.ReplaceableFile.steps in
    let found = stays_found (s c.args.file.now) (s c.still_has.new.self) c.args.old.now c.in_ok-still_has.field-0 c.in_ok-still_has.ensures in
    on_err c.from_residual-in_err-rename.result (stays_then (s c.args.file.now) (s c.still_has.new.self) (s c.rename.new.self) found (stays_by (s c.still_has.new.self) (s c.rename.new.self) Failed tt c.in_err-rename.ensures.err))

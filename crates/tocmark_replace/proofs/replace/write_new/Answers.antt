use Rattle.tocmark_replace.specs.Steps.{Made, Wrote, Tore, Failed}
use Rattle.tocmark_replace.proofs.Quiet.{on_err, stays_by, stays_then}
use Rattle.tocmark_replace.proofs.replace.write_new.Goals as goal

pub returns-in_err-create-clause-stays : goal.returns-in_err-create-clause-stays
returns-in_err-create-clause-stays g c =
    let s = g.F.ReplaceableFile.steps in
    on_err c.from_residual.result (stays_by (s c.args.file.now) (s c.create.new.self) Failed tt c.in_err-create.ensures.err)

pub returns-in_err-write-clause-stays : goal.returns-in_err-write-clause-stays
returns-in_err-write-clause-stays g c =
    let s = g.F.ReplaceableFile.steps in
    let made = stays_by (s c.args.file.now) (s c.create.new.self) Made tt c.in_ok-create.ensures.ok in
    on_err c.from_residual-in_err-write.result (stays_then (s c.args.file.now) (s c.create.new.self) (s c.write.new.self) made (stays_by (s c.create.new.self) (s c.write.new.self) Tore tt c.in_err-write.ensures.err))

pub returns-in_err-sync-clause-stays : goal.returns-in_err-sync-clause-stays
returns-in_err-sync-clause-stays g c =
    let s = g.F.ReplaceableFile.steps in
    let made = stays_by (s c.args.file.now) (s c.create.new.self) Made tt c.in_ok-create.ensures.ok in
    let wrote = stays_then (s c.args.file.now) (s c.create.new.self) (s c.write.new.self) made (stays_by (s c.create.new.self) (s c.write.new.self) (Wrote c.args.text.now) tt c.in_ok-write.ensures.ok) in
    on_err c.from_residual-in_err-sync.result (stays_then (s c.args.file.now) (s c.write.new.self) (s c.sync.new.self) wrote (stays_by (s c.write.new.self) (s c.sync.new.self) Failed tt c.in_err-sync.ensures.err))

use Rattle.std.proofs.Common.{arith}
use Rattle.std.proofs.lemmas.Str.{IsCharBoundary-start}
use Rattle.tocmark_reader.proofs.emit.snapped.Goals as goal

-- the front of a text is a boundary
pub returns-else-start-end-clause-good : goal.returns-else-start-end-clause-good
returns-else-start-end-clause-good c =
    let front = IsCharBoundary-start _ c.utf8.text in
    record { ordered = omega arith; start = front; end = front }

use Rattle.std.proofs.Common.{◌++◌, take}
use Rattle.std.proofs.KnownBytes.{Appends-trans}
use Rattle.tocmark_documents.proofs.LinesStreamed.{moves_front}
use Rattle.tocmark_documents.proofs.lines.write_bytes.Goals as goal

pub loop-turn-preserved-in-Ok : goal.loop-turn-preserved-in-Ok
loop-turn-preserved-in-Ok g c =
    let (done, split, appended) = c.loop-turn.invariant in
    let rest = c.loop-turn.rest.now in
    let n = c.in-Ok.taken in
    (done ++ take n rest, moves_front _ done rest n split, Appends-trans _ _ _ _ _ appended c.in-Ok.ensures.bytes)

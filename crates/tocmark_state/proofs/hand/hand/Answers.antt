use Rattle.std.proofs.Common.{[], refl, sym}
use Rattle.std.proofs.lemmas.Result.{err_from_is_err_and}
use Rattle.tocmark_state.proofs.Walks.{handed_text-nonempty}
use Rattle.tocmark_state.proofs.hand.hand.Goals as goal

pub returns-in_err-take-clause-handed : goal.returns-in_err-take-clause-handed
returns-in_err-take-clause-handed g c =
    let p = err_from_is_err_and c.from_residual.result c.from_residual.ensures.1 in
    rw (p.1, p.2) ([], c.args.text.now, [], handed_text-nonempty c.args.text.now (sym c.if-not-is_empty.ensures), c.args.writer.now, refl, c.in_err-take.ensures.err refl)

use Rattle.std.proofs.Common.{◌∙◌, sym, None, arith}
use Rattle.std.proofs.lemmas.List.{get_or_past}
use Rattle.tocmark_write_pending.proofs.ends.end_at.Goals as goal

pub returns-else-place-ends-clause-end : goal.returns-else-place-ends-clause-end
returns-else-place-ends-clause-end c = λ es are. sym (get_or_past c.args.ends.now c.args.place None (omega (arith, c.if-place-ends.false))) ∙ are.at c.args.place

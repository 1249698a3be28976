use Rattle.std.proofs.Common.{◌≤◌, min, length, arith, sym, ◌∙◌}
use Rattle.std.proofs.lemmas.Bool.Decides.{nat_tests}
use Rattle.tocmark_compare.proofs.Apart.{past_end}
use Rattle.tocmark_compare.proofs.same.differ.Goals as goal

pub returns : goal.returns
returns c =
    let past : min (length c.args.found.now) (length c.args.given.now) ≤ c.loop-i.i = grind (arith, nat_tests) in
    sym (past_end c.loop-i.i c.args.found.now c.args.given.now past) ∙ c.loop-i.invariant.rest

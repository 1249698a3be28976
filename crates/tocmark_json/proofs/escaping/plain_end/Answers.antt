use Rattle.std.proofs.Common.{arith, rules}
use Rattle.tocmark_json.proofs.Plain.{run_through}
use Rattle.tocmark_json.proofs.escaping.plain_end.Goals as goal

pub loop-at-preserved : goal.loop-at-preserved
loop-at-preserved c =
    let run = run_through c.args.text.now c.loop-at.at 16 (omega arith) c.are_plain.result (search rules) c.are_plain.ensures in
    (omega (arith, run, c.loop-at.invariant.0), omega arith)

use Rattle.std.proofs.Common.{ℕ, Option, sym, ap, ◌∙◌, arith}
use Rattle.tocmark_read_scan.proofs.Repeats.{repeated_stop}
use Rattle.tocmark_read_constructs.specs.Tables.{count_once}
use Rattle.tocmark_read_constructs.proofs.table.cell_count.Goals as goal

pub returns-in-None : goal.returns-in-None
returns-in-None c =
    let counted = c.count_once-counted.result in
    sym (ap (λ (r : ℕ × ℕ). r.0)
    (repeated_stop (count_once c.args.text.now c.args.end) c.loop-steps_left._steps_left c.loop-steps_left.place c.loop-steps_left.count counted.0
    (omega arith) (ap (λ (o : Option ℕ). (counted.0, o)) (sym c.in-None.is) ∙ c.count_once-counted.ensures)))
    ∙ c.loop-steps_left.invariant

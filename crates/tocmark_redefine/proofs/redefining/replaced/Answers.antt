use Rattle.std.proofs.Common.{◌∙◌, ◌+◌, ap, arith, drop}
use Rattle.tocmark_redefine.specs.Redefined.{replaced}
use Rattle.tocmark_redefine.proofs.Replacing.{texts, one_put, one_past}
use Rattle.tocmark_redefine.proofs.redefining.replaced.Goals as goal
use Rattle.tocmark_redefine.proofs.redefining.replaced.Goals.{then-number-len, else-number-len}

pub loop-number-preserved : goal.loop-number-preserved
loop-number-preserved c =
    let changes = c.args.changes.now in
    let i = c.loop-number.number-index in
    let change = c.loop-number-item.result in
    let all = c.loop-number.all in
    let whole = replaced changes (texts c.args.texts.now) in
    elim c.if-number-len.branch [
      | then-number-len w ↦
          one_put changes i change all.items whole c.loop-number-test.true c.loop-number-item.is c.loop-number.invariant c.if-number-len.all.items w.as_str.result (ap (λ v. v.items) w.all-is) w.as_str.ensures.value
      | else-number-len w ↦
          ap (λ v. replaced (drop (i + 1) changes) (texts v.items)) w.all-is
          ∙ one_past changes i change all.items whole c.loop-number-test.true c.loop-number-item.is c.loop-number.invariant (omega (arith, w.if-number-len.false, c.len.ensures, all.ok.0))
    ]

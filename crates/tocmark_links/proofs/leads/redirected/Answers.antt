use Rattle.std.proofs.Common.{◌∙◌, ◌+◌, ap, arith, drop}
use Rattle.tocmark_links.specs.Leads.{destinations, redirected}
use Rattle.tocmark_links.proofs.Redirecting.{texts, one-put, one-past}
use Rattle.tocmark_links.proofs.leads.redirected.Goals as goal
use Rattle.tocmark_links.proofs.leads.redirected.Goals.{then-number-len, else-number-len}

pub loop-number-preserved : goal.loop-number-preserved
loop-number-preserved c =
    let changes = c.args.changes.now in
    let i = c.loop-number.number-index in
    let change = c.loop-number-item.result in
    let all = c.loop-number.all in
    let whole = redirected changes (destinations c.args.links.now) in
    elim c.if-number-len.branch [
      | then-number-len w ↦
          one-put changes i change all.items whole c.loop-number-test.true c.loop-number-item.is c.loop-number.invariant c.if-number-len.all.items w.as_str.result (ap (λ v. v.items) w.all-is) w.as_str.ensures.value
      | else-number-len w ↦
          ap (λ v. redirected (drop (i + 1) changes) (texts v.items)) w.all-is
          ∙ one-past changes i change all.items whole c.loop-number-test.true c.loop-number-item.is c.loop-number.invariant (omega (arith, w.if-number-len.false, c.len.ensures, all.ok.0))
    ]

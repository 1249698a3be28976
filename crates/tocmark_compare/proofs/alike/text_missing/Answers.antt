use Rattle.tocmark_compare.proofs.Comparisons.{missing-unbegun, missing-unread}
use Rattle.tocmark_compare.proofs.alike.text_missing.Goals as goal
use Rattle.tocmark_compare.proofs.alike.text_missing.Goals.{else-at-via-then-at+else-expected-at, else-at-via-else-at}

pub returns-else-at-clause-onward : goal.returns-else-at-clause-onward
returns-else-at-clause-onward c xs ys x y =
    elim c.else-at.branch [
      | else-at-via-then-at+else-expected-at w ↦ missing-unread xs ys c.args.expected.now c.args.at.found c.args.at.expected x y c.args.at.begun w.if-at.true w.if-expected-at.false
      | else-at-via-else-at w ↦ missing-unbegun xs ys c.args.expected.now c.args.at.found c.args.at.expected x y c.args.at.begun w.if-at.false
    ]

use Rattle.tocmark_compare.proofs.Comparisons.{alone-unbegun, alone-unread}
use Rattle.tocmark_compare.proofs.alike.text_alone.Goals as goal
use Rattle.tocmark_compare.proofs.alike.text_alone.Goals.{else-at-via-then-at+else-found-at, else-at-via-else-at}

pub returns-else-at-clause-onward : goal.returns-else-at-clause-onward
returns-else-at-clause-onward c xs ys x y =
    elim c.else-at.branch [
      | else-at-via-then-at+else-found-at w ↦ alone-unread xs ys c.args.found.now c.args.at.found c.args.at.expected x y c.args.at.begun w.if-at.true w.if-found-at.false
      | else-at-via-else-at w ↦ alone-unbegun xs ys c.args.found.now c.args.at.found c.args.at.expected x y c.args.at.begun w.if-at.false
    ]

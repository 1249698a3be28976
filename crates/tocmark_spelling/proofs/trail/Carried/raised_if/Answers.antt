use Rattle.tocmark_spelling.proofs.trail.Carried.raised_if.Goals as goal

pub returns-then-needed : goal.returns-then-needed
returns-then-needed c = λ line. rw c.if-needed.true (c.raised.ensures line)

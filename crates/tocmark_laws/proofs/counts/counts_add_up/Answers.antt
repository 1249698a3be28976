use Rattle.tocmark_laws.proofs.Sums.{calls_sum, list_sums}
use Rattle.tocmark_laws.proofs.counts.counts_add_up.Goals as goal

pub returns-clause-list : goal.returns-clause-list
returns-clause-list g c how flags source calls w v counts last h =
    list_sums g.W.Taker.takes g.W.Taker.refuses how flags source calls w v counts last h

pub returns-clause-calls : goal.returns-clause-calls
returns-clause-calls g c how flags source calls w v counts r h =
    calls_sum g.W.Taker.takes g.W.Taker.refuses how flags source calls w v counts r h

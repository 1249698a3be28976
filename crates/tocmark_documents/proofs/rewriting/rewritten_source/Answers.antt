use Rattle.std.proofs.Common.{IfErr, IfOk, List, ℕ, subst, sym}
use Rattle.tocmark_compare.specs.Given.{given_events}
use Rattle.tocmark_judge.proofs.Marking.{rest-marked, rest-unmarked}
use Rattle.tocmark_documents.specs.Rewriting.{IsOfBlock, IsWrittenAfterMark, reading_under}
use Rattle.tocmark_documents.proofs.Rewritten.{unmarked}
use Rattle.tocmark_documents.proofs.rewriting.rewritten_source.Goals as goal

pub returns-in-Some-clause-edited : goal.returns-in-Some-clause-edited
returns-in-Some-clause-edited c =
    subst (λ (s : List ℕ). IfOk c.rewritten_after_mark.result (IsWrittenAfterMark (reading_under c.args.flags) s (given_events c.args.pairs.items)))
    (sym c.in-Some.ensures) c.rewritten_after_mark.ensures.edited

pub returns-in-Some-clause-block : goal.returns-in-Some-clause-block
returns-in-Some-clause-block c =
    subst (λ (s : List ℕ). IfErr c.rewritten_after_mark.result (IsOfBlock (reading_under c.args.flags) s (given_events c.args.pairs.items)))
    (sym (rest-marked c.args.source.now c.in-Some.rest.now c.in-Some.ensures)) c.rewritten_after_mark.ensures.block

pub returns-in-None-clause-edited : goal.returns-in-None-clause-edited
returns-in-None-clause-edited c =
    unmarked (reading_under c.args.flags) c.args.source.now (given_events c.args.pairs.items) c.rewritten_pairs.result c.in-None.ensures c.rewritten_pairs.ensures.edited

pub returns-in-None-clause-block : goal.returns-in-None-clause-block
returns-in-None-clause-block c =
    subst (λ (s : List ℕ). IfErr c.rewritten_pairs.result (IsOfBlock (reading_under c.args.flags) s (given_events c.args.pairs.items)))
    (sym (rest-unmarked c.args.source.now c.in-None.ensures)) c.rewritten_pairs.ensures.block

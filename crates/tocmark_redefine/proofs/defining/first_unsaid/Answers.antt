use Rattle.std.proofs.Common.{All, arith, map, subst, take}
use Rattle.std.proofs.lemmas.List.{take_all, take_more}
use Rattle.std.proofs.lemmas.List.Elements.{All-push}
use Rattle.std.specs.Prelude.{List, get_or}
use Rattle.tocmark_reader.specs.Definitions.{said_view}
use Rattle.tocmark_redefine.specs.Defined.{IsSaid}
use Rattle.tocmark_redefine.specs.declared.defining.GivenDefinition.{GivenDefinition}
use Rattle.tocmark_redefine.proofs.defining.first_unsaid.Goals as goal

pub loop-i-preserved : goal.loop-i-preserved
loop-i-preserved c =
    let all = c.args.all.now in
    let i = c.loop-i.i in
    let given = c.index-all-i.result in
    rw (take_more all i given c.loop-i-test.true)
    (All-push (IsSaid (map said_view c.args.olds.now) (map said_view c.args.news.now)) (take i all) (get_or all i given) c.loop-i.invariant
    (subst (IsSaid (map said_view c.args.olds.now) (map said_view c.args.news.now)) c.index-all-i.is (c.is_said.ensures c.if-not-is_said.false)))

pub returns : goal.returns
returns c =
    subst (λ (xs : List GivenDefinition). All (IsSaid (map said_view c.args.olds.now) (map said_view c.args.news.now)) xs) (take_all c.loop-i.i c.args.all.now (omega (arith, c.loop-i-test.false))) c.loop-i.invariant

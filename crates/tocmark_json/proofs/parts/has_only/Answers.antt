use Rattle.std.proofs.Common.{List, ℕ, refl, subst}
use Rattle.serde_json.specs.Data.{no_members}
use Rattle.tocmark_json.specs.Node.{IsOther}
use Rattle.tocmark_json.proofs.Members.{none_more, some_found}
use Rattle.tocmark_json.proofs.parts.has_only.Goals as goal

pub returns-then-not-has_key-clause-no : goal.returns-then-not-has_key-clause-no
returns-then-not-has_key-clause-no c is =
    let e = c.member-item.result in
    let found = some_found c.args.members.now c.loop-member.member-index e c.loop-member-test.true c.member-item.is no_members in
    (e.0.now, c.if-not-has_key.ensures.no refl, found.0, found.1)

pub loop-member-preserved : goal.loop-member-preserved
loop-member-preserved c name other =
    let e = c.member-item.result in
    none_more c.args.members.now c.loop-member.member-index e name c.loop-member-test.true c.member-item.is (λ same. c.if-not-has_key.ensures.yes refl (subst (λ (n : List ℕ). IsOther c.args.keys n) same other)) (c.loop-member.invariant name other)

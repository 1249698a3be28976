use Rattle.std.proofs.Common.{All, map, subst, sym, String, ℕ}
use Rattle.std.proofs.lemmas.List.Elements.{All-push}
use Rattle.std.specs.Global.{Global}
use Rattle.std.specs.Prelude.{IfSome, Option}
use Rattle.tocmark_reader.specs.Definitions.{said_view}
use Rattle.tocmark_redefine.specs.Defined.{IsNamed, IsOfGiven}
use Rattle.tocmark_redefine.proofs.defining.changes_of.Goals as goal
use Rattle.tocmark_redefine.proofs.defining.changes_of.Goals.{in-Some+in_ok-push, in_default}

pub loop-given-preserved : goal.loop-given-preserved
loop-given-preserved c =
    let olds = map said_view c.args.olds.now in
    let given = c.given-item.result in
    elim c.match-branch-2.branch [
      | in-Some+in_ok-push w ↦
          let named : IsNamed olds given w.in-Some.change.0 =
          subst (λ (o : Option (ℕ × String Global)). IfSome o (λ x. IsNamed olds given x.0)) w.in-Some.is c.in_ok-change.ensures in
          subst (λ v. All (IsOfGiven olds c.args.all.now) v.items) (sym w.changes-is)
          (rw w.in_ok-push.ensures.items (All-push (IsOfGiven olds c.args.all.now) c.loop-given.changes.items w.in-Some.change c.loop-given.invariant (given, (c.loop-given.given-index, c.loop-given-test.true, sym c.given-item.is), named)))
      | in_default w ↦ subst (λ v. All (IsOfGiven olds c.args.all.now) v.items) (sym w.changes-is) c.loop-given.invariant
    ]

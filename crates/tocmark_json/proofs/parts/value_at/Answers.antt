use Rattle.std.proofs.Common.{◌∙◌, ap, option_map, sym}
use Rattle.std.proofs.lemmas.Slice.Eq.{bytes_eq-Decides}
use Rattle.tocmark_json.specs.Node.{view}
use Rattle.tocmark_json.proofs.Members.{here_more, same_more, unequal}
use Rattle.tocmark_json.proofs.parts.value_at.Goals as goal
use Rattle.tocmark_json.proofs.parts.value_at.Goals.{then-eq, else-eq}

pub loop-member-preserved : goal.loop-member-preserved
loop-member-preserved c =
    let l = c.loop-member in
    let es = c.args.members.now in
    let e = c.member-item.result in
    let name = c.args.name.now in
    elim c.if-eq.branch [
      | then-eq w ↦
          here_more es l.member-index e name c.loop-member-test.true c.member-item.is ((bytes_eq-Decides e.0.now name).0 (sym c.eq.ensures ∙ w.if-eq.true))
          ∙ sym (ap (option_map (λ v. view v.now)) w.found-is)
      | else-eq w ↦
          same_more es l.member-index e name c.loop-member-test.true c.member-item.is (λ is. unequal e.0.now name (sym c.eq.ensures ∙ w.if-eq.false) (sym is))
          ∙ l.invariant
          ∙ sym (ap (option_map (λ v. view v.now)) w.found-is)
    ]

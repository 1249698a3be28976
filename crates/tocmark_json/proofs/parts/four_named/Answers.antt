use Rattle.std.proofs.Common.{◌≡◌, ◌∙◌, ap, refl, sym}
use Rattle.serde_json.specs.Data.{Data, member, no_members, object}
use Rattle.tocmark_json.specs.Node.{members_view, view}
use Rattle.tocmark_json.proofs.Members.{has_another, holds_all, lacks_one, matched, none_at, sorted_view}
use Rattle.tocmark_json.proofs.Refusals.{none_given}
use Rattle.tocmark_json.proofs.parts.four_named.Goals as goal

pub returns-then-not-has_only-clause-none : goal.returns-then-not-has_only-clause-none
returns-then-not-has_only-clause-none c w x y z same =
    let form = member c.args.first.now w (member c.args.second.now x (member c.args.third.now y (member c.args.fourth.now z no_members))) in
    let other = c.if-not-has_only.ensures.no refl in
    has_another form (members_view c.in_ok-members.members.now) other.0 other.2 (none_at other.0 form (other.1.0, (other.1.1, (other.1.2, (other.1.3, tt))))) other.3 (sym c.in_ok-members.ensures.found ∙ same)

pub returns-in_err-first-clause-none : goal.returns-in_err-first-clause-none
returns-in_err-first-clause-none c =
    none_given c.from_residual-in_err-first.result ((w x y z : Data) → view c.args.value.now ≡ object (member c.args.first.now w (member c.args.second.now x (member c.args.third.now y (member c.args.fourth.now z no_members)))) → ⊥) (λ w x y z same. let form = member c.args.first.now w (member c.args.second.now x (member c.args.third.now y (member c.args.fourth.now z no_members))) in lacks_one form (members_view c.in_ok-members.members.now) c.args.first.now w (holds_all form c.requires).0 c.in_err-first.ensures.none (sym c.in_ok-members.ensures.found ∙ same))

pub returns-in_err-second-clause-none : goal.returns-in_err-second-clause-none
returns-in_err-second-clause-none c =
    none_given c.from_residual-in_err-second.result ((w x y z : Data) → view c.args.value.now ≡ object (member c.args.first.now w (member c.args.second.now x (member c.args.third.now y (member c.args.fourth.now z no_members)))) → ⊥) (λ w x y z same. let form = member c.args.first.now w (member c.args.second.now x (member c.args.third.now y (member c.args.fourth.now z no_members))) in lacks_one form (members_view c.in_ok-members.members.now) c.args.second.now x (holds_all form c.requires).1.0 c.in_err-second.ensures.none (sym c.in_ok-members.ensures.found ∙ same))

pub returns-in_err-third-clause-none : goal.returns-in_err-third-clause-none
returns-in_err-third-clause-none c =
    none_given c.from_residual-in_err-third.result ((w x y z : Data) → view c.args.value.now ≡ object (member c.args.first.now w (member c.args.second.now x (member c.args.third.now y (member c.args.fourth.now z no_members)))) → ⊥) (λ w x y z same. let form = member c.args.first.now w (member c.args.second.now x (member c.args.third.now y (member c.args.fourth.now z no_members))) in lacks_one form (members_view c.in_ok-members.members.now) c.args.third.now y (holds_all form c.requires).1.1.0 c.in_err-third.ensures.none (sym c.in_ok-members.ensures.found ∙ same))

pub returns-in_err-fourth-clause-none : goal.returns-in_err-fourth-clause-none
returns-in_err-fourth-clause-none c =
    none_given c.from_residual-in_err-fourth.result ((w x y z : Data) → view c.args.value.now ≡ object (member c.args.first.now w (member c.args.second.now x (member c.args.third.now y (member c.args.fourth.now z no_members)))) → ⊥) (λ w x y z same. let form = member c.args.first.now w (member c.args.second.now x (member c.args.third.now y (member c.args.fourth.now z no_members))) in lacks_one form (members_view c.in_ok-members.members.now) c.args.fourth.now z (holds_all form c.requires).1.1.1.0 c.in_err-fourth.ensures.none (sym c.in_ok-members.ensures.found ∙ same))

pub returns-clause-found : goal.returns-clause-found
returns-clause-found c =
    let es = c.in_ok-members.members.now in
    let form = member c.args.first.now (view c.in_ok-first.first.now) (member c.args.second.now (view c.in_ok-second.second.now) (member c.args.third.now (view c.in_ok-third.third.now) (member c.args.fourth.now (view c.in_ok-fourth.fourth.now) no_members))) in
    c.in_ok-members.ensures.found ∙ ap object (matched form (members_view es) c.requires (sorted_view es) (c.in_ok-first.ensures.found, (c.in_ok-second.ensures.found, (c.in_ok-third.ensures.found, (c.in_ok-fourth.ensures.found, tt)))) (λ q h. c.if-not-has_only.ensures.yes refl q (h.0, h.1.0, h.1.1.0, h.1.1.1.0, h.1.1.1.0, h.1.1.1.0, h.1.1.1.0, h.1.1.1.0)))

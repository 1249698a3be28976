use Rattle.std.proofs.Common.{◌≡◌, ◌∙◌, ap, refl, sym}
use Rattle.serde_json.specs.Data.{Data, member, no_members, object}
use Rattle.tocmark_json.specs.Node.{members_view, view}
use Rattle.tocmark_json.proofs.Members.{has_another, holds_all, lacks_one, matched, none_at, sorted_view}
use Rattle.tocmark_json.proofs.Refusals.{none_given}
use Rattle.tocmark_json.proofs.parts.two_named.Goals as goal

pub returns-then-not-has_only-clause-none : goal.returns-then-not-has_only-clause-none
returns-then-not-has_only-clause-none c a b same =
    let form = member c.args.first.now a (member c.args.second.now b no_members) in
    let other = c.if-not-has_only.ensures.no refl in
    has_another form (members_view c.in_ok-members.members.now) other.0 other.2 (none_at other.0 form (other.1.0, (other.1.1, tt))) other.3 (sym c.in_ok-members.ensures.found ∙ same)

pub returns-in_err-first-clause-none : goal.returns-in_err-first-clause-none
returns-in_err-first-clause-none c =
    let first = c.args.first.now in
    let second = c.args.second.now in
    none_given c.from_residual-in_err-first.result ((a b : Data) → view c.args.value.now ≡ object (member first a (member second b no_members)) → ⊥) (λ a b same. let form = member first a (member second b no_members) in lacks_one form (members_view c.in_ok-members.members.now) first a (holds_all form c.requires).0 c.in_err-first.ensures.none (sym c.in_ok-members.ensures.found ∙ same))

pub returns-in_err-second-clause-none : goal.returns-in_err-second-clause-none
returns-in_err-second-clause-none c =
    let first = c.args.first.now in
    let second = c.args.second.now in
    none_given c.from_residual-in_err-second.result ((a b : Data) → view c.args.value.now ≡ object (member first a (member second b no_members)) → ⊥) (λ a b same. let form = member first a (member second b no_members) in lacks_one form (members_view c.in_ok-members.members.now) second b (holds_all form c.requires).1.0 c.in_err-second.ensures.none (sym c.in_ok-members.ensures.found ∙ same))

pub returns-clause-found : goal.returns-clause-found
returns-clause-found c =
    let es = c.in_ok-members.members.now in
    let form = member c.args.first.now (view c.in_ok-first.first.now) (member c.args.second.now (view c.in_ok-second.second.now) no_members) in
    c.in_ok-members.ensures.found ∙ ap object (matched form (members_view es) c.requires (sorted_view es) (c.in_ok-first.ensures.found, (c.in_ok-second.ensures.found, tt)) (λ q h. c.if-not-has_only.ensures.yes refl q (h.0, h.1.0, h.1.0, h.1.0, h.1.0, h.1.0, h.1.0, h.1.0)))

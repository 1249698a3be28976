use Rattle.std.proofs.Common.{◌∙◌, ap, refl, sym}
use Rattle.serde_json.specs.Data.{member, no_members, object}
use Rattle.tocmark_json.specs.Node.{members_view, view}
use Rattle.tocmark_json.specs.Place.{IsNoObject}
use Rattle.tocmark_json.proofs.Members.{first_differs, first_is, matched, one_only, sorted_view}
use Rattle.tocmark_json.proofs.Refusals.{none_given}
use Rattle.tocmark_json.proofs.parts.only_member.Goals as goal

pub returns-then-not-has_only-clause-none : goal.returns-then-not-has_only-clause-none
returns-then-not-has_only-clause-none c ms same one =
    let es = c.in_ok-members.members.now in
    let other = c.if-not-has_only.ensures.no refl in
    let first = first_is es c.in_ok-name.field-0.now c.in_ok-name.ensures.value in
    one_only (members_view es) ms other.0 c.in_ok-name.field-0.now.0.now other.2 first.0 (sym c.in_ok-members.ensures.found ∙ same) one other.1.0 other.3 first.1

pub returns-in_err-content-clause-none : goal.returns-in_err-content-clause-none
returns-in_err-content-clause-none c =
    let first = first_is c.in_ok-members.members.now c.in_ok-name.field-0.now c.in_ok-name.ensures.value in
    none_given c.from_residual-in_err-content.result (IsNoObject 1 (view c.args.value.now)) (λ ms same one. first_differs first.0 (sym c.in_err-content.ensures.none ∙ first.1))

pub returns-clause-found : goal.returns-clause-found
returns-clause-found c =
    let es = c.in_ok-members.members.now in
    let name = c.in_ok-name.field-0.now.0.now in
    let content = view c.in_ok-content.content.now in
    c.in_ok-members.ensures.found ∙ ap object (matched (member name content no_members) (members_view es) (tt, tt) (sorted_view es) (c.in_ok-content.ensures.found, tt) (λ q h. c.if-not-has_only.ensures.yes refl q (h.0, h.0, h.0, h.0, h.0, h.0, h.0, h.0)))

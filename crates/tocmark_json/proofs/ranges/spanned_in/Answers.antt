use Rattle.std.proofs.Common.{◌∙◌, ap, codes, refl, sym}
use Rattle.serde_json.specs.Data.{Data, Members, member, no_members, object}
use Rattle.tocmark_json.specs.Node.{members_view, view}
use Rattle.tocmark_json.specs.Json.{full_place_json, size_json}
use Rattle.tocmark_json.specs.Place.{IsNoneOf}
use Rattle.tocmark_json.proofs.Members.{AreSorted, has_another, holds_all, lacks_one, matched, none_at, sorted_view}
use Rattle.tocmark_json.proofs.Refusals.{none_given}
use Rattle.tocmark_json.proofs.ranges.spanned_in.Goals as goal

-- an object with these six members
abbrev form_of : Data → Data → Data → Data → Data → Data → Members
form_of u v w x y z = member (codes "end") u (member (codes "end_column") v (member (codes "end_line") w (member (codes "start") x (member (codes "start_column") y (member (codes "start_line") z no_members)))))

ascending : (u v w x y z : Data) → AreSorted (form_of u v w x y z)
ascending u v w x y z = ((refl, (refl, (refl, (refl, (refl, tt))))), ((refl, (refl, (refl, (refl, tt)))), ((refl, (refl, (refl, tt))), ((refl, (refl, tt)), ((refl, tt), (tt, tt))))))

pub returns-then-not-has_only-clause-none : goal.returns-then-not-has_only-clause-none
returns-then-not-has_only-clause-none c p same =
    let form = form_of (size_json p.0.1) (size_json p.1.end.column) (size_json p.1.end.line) (size_json p.0.0) (size_json p.1.start.column) (size_json p.1.start.line) in
    let other = c.if-not-has_only.ensures.no refl in
    has_another form (members_view c.in_ok-members.members.now) other.0 other.2 (none_at other.0 form (other.1.0, (other.1.1, (other.1.2, (other.1.3, (other.1.4, (other.1.5, tt))))))) other.3 (sym c.in_ok-members.ensures.found ∙ same)

pub returns-in_err-end-clause-none : goal.returns-in_err-end-clause-none
returns-in_err-end-clause-none c =
    none_given c.from_residual-in_err-end.result (IsNoneOf full_place_json (view c.args.value.now)) (λ p same. let form = form_of (size_json p.0.1) (size_json p.1.end.column) (size_json p.1.end.line) (size_json p.0.0) (size_json p.1.start.column) (size_json p.1.start.line) in lacks_one form (members_view c.in_ok-members.members.now) (codes "end") (size_json p.0.1) (holds_all form (ascending (size_json p.0.1) (size_json p.1.end.column) (size_json p.1.end.line) (size_json p.0.0) (size_json p.1.start.column) (size_json p.1.start.line))).0 c.in_err-end.ensures.none (sym c.in_ok-members.ensures.found ∙ same))

pub returns-in_err-end_column-clause-none : goal.returns-in_err-end_column-clause-none
returns-in_err-end_column-clause-none c =
    none_given c.from_residual-in_err-end_column.result (IsNoneOf full_place_json (view c.args.value.now)) (λ p same. let form = form_of (size_json p.0.1) (size_json p.1.end.column) (size_json p.1.end.line) (size_json p.0.0) (size_json p.1.start.column) (size_json p.1.start.line) in lacks_one form (members_view c.in_ok-members.members.now) (codes "end_column") (size_json p.1.end.column) (holds_all form (ascending (size_json p.0.1) (size_json p.1.end.column) (size_json p.1.end.line) (size_json p.0.0) (size_json p.1.start.column) (size_json p.1.start.line))).1.0 c.in_err-end_column.ensures.none (sym c.in_ok-members.ensures.found ∙ same))

pub returns-in_err-end_line-clause-none : goal.returns-in_err-end_line-clause-none
returns-in_err-end_line-clause-none c =
    none_given c.from_residual-in_err-end_line.result (IsNoneOf full_place_json (view c.args.value.now)) (λ p same. let form = form_of (size_json p.0.1) (size_json p.1.end.column) (size_json p.1.end.line) (size_json p.0.0) (size_json p.1.start.column) (size_json p.1.start.line) in lacks_one form (members_view c.in_ok-members.members.now) (codes "end_line") (size_json p.1.end.line) (holds_all form (ascending (size_json p.0.1) (size_json p.1.end.column) (size_json p.1.end.line) (size_json p.0.0) (size_json p.1.start.column) (size_json p.1.start.line))).1.1.0 c.in_err-end_line.ensures.none (sym c.in_ok-members.ensures.found ∙ same))

pub returns-in_err-start-clause-none : goal.returns-in_err-start-clause-none
returns-in_err-start-clause-none c =
    none_given c.from_residual-in_err-start.result (IsNoneOf full_place_json (view c.args.value.now)) (λ p same. let form = form_of (size_json p.0.1) (size_json p.1.end.column) (size_json p.1.end.line) (size_json p.0.0) (size_json p.1.start.column) (size_json p.1.start.line) in lacks_one form (members_view c.in_ok-members.members.now) (codes "start") (size_json p.0.0) (holds_all form (ascending (size_json p.0.1) (size_json p.1.end.column) (size_json p.1.end.line) (size_json p.0.0) (size_json p.1.start.column) (size_json p.1.start.line))).1.1.1.0 c.in_err-start.ensures.none (sym c.in_ok-members.ensures.found ∙ same))

pub returns-in_err-start_column-clause-none : goal.returns-in_err-start_column-clause-none
returns-in_err-start_column-clause-none c =
    none_given c.from_residual-in_err-start_column.result (IsNoneOf full_place_json (view c.args.value.now)) (λ p same. let form = form_of (size_json p.0.1) (size_json p.1.end.column) (size_json p.1.end.line) (size_json p.0.0) (size_json p.1.start.column) (size_json p.1.start.line) in lacks_one form (members_view c.in_ok-members.members.now) (codes "start_column") (size_json p.1.start.column) (holds_all form (ascending (size_json p.0.1) (size_json p.1.end.column) (size_json p.1.end.line) (size_json p.0.0) (size_json p.1.start.column) (size_json p.1.start.line))).1.1.1.1.0 c.in_err-start_column.ensures.none (sym c.in_ok-members.ensures.found ∙ same))

pub returns-in_err-start_line-clause-none : goal.returns-in_err-start_line-clause-none
returns-in_err-start_line-clause-none c =
    none_given c.from_residual-in_err-start_line.result (IsNoneOf full_place_json (view c.args.value.now)) (λ p same. let form = form_of (size_json p.0.1) (size_json p.1.end.column) (size_json p.1.end.line) (size_json p.0.0) (size_json p.1.start.column) (size_json p.1.start.line) in lacks_one form (members_view c.in_ok-members.members.now) (codes "start_line") (size_json p.1.start.line) (holds_all form (ascending (size_json p.0.1) (size_json p.1.end.column) (size_json p.1.end.line) (size_json p.0.0) (size_json p.1.start.column) (size_json p.1.start.line))).1.1.1.1.1.0 c.in_err-start_line.ensures.none (sym c.in_ok-members.ensures.found ∙ same))

pub returns-clause-found : goal.returns-clause-found
returns-clause-found c =
    let es = c.in_ok-members.members.now in
    let form = form_of (view c.in_ok-end.end.now) (view c.in_ok-end_column.end_column.now) (view c.in_ok-end_line.end_line.now) (view c.in_ok-start.start.now) (view c.in_ok-start_column.start_column.now) (view c.in_ok-start_line.start_line.now) in
    c.in_ok-members.ensures.found ∙ ap object (matched form (members_view es) (ascending (view c.in_ok-end.end.now) (view c.in_ok-end_column.end_column.now) (view c.in_ok-end_line.end_line.now) (view c.in_ok-start.start.now) (view c.in_ok-start_column.start_column.now) (view c.in_ok-start_line.start_line.now)) (sorted_view es) (c.in_ok-end.ensures.found, (c.in_ok-end_column.ensures.found, (c.in_ok-end_line.ensures.found, (c.in_ok-start.ensures.found, (c.in_ok-start_column.ensures.found, (c.in_ok-start_line.ensures.found, tt)))))) (λ q h. c.if-not-has_only.ensures.yes refl q (h.0, h.1.0, h.1.1.0, h.1.1.1.0, h.1.1.1.1.0, h.1.1.1.1.1.0, h.1.1.1.1.1.0, h.1.1.1.1.1.0)))

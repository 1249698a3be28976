use Rattle.std.proofs.Common.{◌∙◌, ℕ, ap, codes, refl, sym}
use Rattle.serde_json.specs.Data.{Data, Members, member, no_members, object}
use Rattle.tocmark_json.specs.Node.{members_view, view}
use Rattle.tocmark_json.specs.Json.{size_json, target_place_json}
use Rattle.tocmark_json.specs.Place.{IsNoneOf}
use Rattle.tocmark_json.specs.declared.positions.Span.{Span}
use Rattle.tocmark_json.proofs.Members.{AreSorted, has_another, holds_all, lacks_one, matched, none_at, sorted_view}
use Rattle.tocmark_json.proofs.Refusals.{none_given}
use Rattle.tocmark_json.proofs.ranges.targeted_in.Goals as goal

-- an object with these eight members
abbrev form_of : Data → Data → Data → Data → Data → Data → Data → Data → Members
form_of t u v w x y z s = member (codes "dest_end") t (member (codes "dest_start") u (member (codes "end") v (member (codes "end_column") w (member (codes "end_line") x (member (codes "start") y (member (codes "start_column") z (member (codes "start_line") s no_members)))))))

ascending : (t u v w x y z s : Data) → AreSorted (form_of t u v w x y z s)
ascending t u v w x y z s = ((refl, (refl, (refl, (refl, (refl, (refl, (refl, tt))))))), ((refl, (refl, (refl, (refl, (refl, (refl, tt)))))), ((refl, (refl, (refl, (refl, (refl, tt))))), ((refl, (refl, (refl, (refl, tt)))), ((refl, (refl, (refl, tt))), ((refl, (refl, tt)), ((refl, tt), (tt, tt))))))))

-- the members of a value's JSON
abbrev form_in : (ℕ × ℕ) × (Span × (ℕ × ℕ)) → Members
form_in p = form_of (size_json p.1.1.1) (size_json p.1.1.0) (size_json p.0.1) (size_json p.1.0.end.column) (size_json p.1.0.end.line) (size_json p.0.0) (size_json p.1.0.start.column) (size_json p.1.0.start.line)

sorted : (p : (ℕ × ℕ) × (Span × (ℕ × ℕ))) → AreSorted (form_in p)
sorted p = ascending (size_json p.1.1.1) (size_json p.1.1.0) (size_json p.0.1) (size_json p.1.0.end.column) (size_json p.1.0.end.line) (size_json p.0.0) (size_json p.1.0.start.column) (size_json p.1.0.start.line)

pub returns-then-not-has_only-clause-none : goal.returns-then-not-has_only-clause-none
returns-then-not-has_only-clause-none c p same =
    let other = c.if-not-has_only.ensures.no refl in
    has_another (form_in p) (members_view c.in_ok-members.members.now) other.0 other.2 (none_at other.0 (form_in p) (other.1.0, (other.1.1, (other.1.2, (other.1.3, (other.1.4, (other.1.5, (other.1.6, (other.1.7, tt))))))))) other.3 (sym c.in_ok-members.ensures.found ∙ same)

pub returns-in_err-dest_end-clause-none : goal.returns-in_err-dest_end-clause-none
returns-in_err-dest_end-clause-none c =
    none_given c.from_residual-in_err-dest_end.result (IsNoneOf target_place_json (view c.args.value.now)) (λ p same. lacks_one (form_in p) (members_view c.in_ok-members.members.now) (codes "dest_end") (size_json p.1.1.1) (holds_all (form_in p) (sorted p)).0 c.in_err-dest_end.ensures.none (sym c.in_ok-members.ensures.found ∙ same))

pub returns-in_err-dest_start-clause-none : goal.returns-in_err-dest_start-clause-none
returns-in_err-dest_start-clause-none c =
    none_given c.from_residual-in_err-dest_start.result (IsNoneOf target_place_json (view c.args.value.now)) (λ p same. lacks_one (form_in p) (members_view c.in_ok-members.members.now) (codes "dest_start") (size_json p.1.1.0) (holds_all (form_in p) (sorted p)).1.0 c.in_err-dest_start.ensures.none (sym c.in_ok-members.ensures.found ∙ same))

pub returns-in_err-end-clause-none : goal.returns-in_err-end-clause-none
returns-in_err-end-clause-none c =
    none_given c.from_residual-in_err-end.result (IsNoneOf target_place_json (view c.args.value.now)) (λ p same. lacks_one (form_in p) (members_view c.in_ok-members.members.now) (codes "end") (size_json p.0.1) (holds_all (form_in p) (sorted p)).1.1.0 c.in_err-end.ensures.none (sym c.in_ok-members.ensures.found ∙ same))

pub returns-in_err-end_column-clause-none : goal.returns-in_err-end_column-clause-none
returns-in_err-end_column-clause-none c =
    none_given c.from_residual-in_err-end_column.result (IsNoneOf target_place_json (view c.args.value.now)) (λ p same. lacks_one (form_in p) (members_view c.in_ok-members.members.now) (codes "end_column") (size_json p.1.0.end.column) (holds_all (form_in p) (sorted p)).1.1.1.0 c.in_err-end_column.ensures.none (sym c.in_ok-members.ensures.found ∙ same))

pub returns-in_err-end_line-clause-none : goal.returns-in_err-end_line-clause-none
returns-in_err-end_line-clause-none c =
    none_given c.from_residual-in_err-end_line.result (IsNoneOf target_place_json (view c.args.value.now)) (λ p same. lacks_one (form_in p) (members_view c.in_ok-members.members.now) (codes "end_line") (size_json p.1.0.end.line) (holds_all (form_in p) (sorted p)).1.1.1.1.0 c.in_err-end_line.ensures.none (sym c.in_ok-members.ensures.found ∙ same))

pub returns-in_err-start-clause-none : goal.returns-in_err-start-clause-none
returns-in_err-start-clause-none c =
    none_given c.from_residual-in_err-start.result (IsNoneOf target_place_json (view c.args.value.now)) (λ p same. lacks_one (form_in p) (members_view c.in_ok-members.members.now) (codes "start") (size_json p.0.0) (holds_all (form_in p) (sorted p)).1.1.1.1.1.0 c.in_err-start.ensures.none (sym c.in_ok-members.ensures.found ∙ same))

pub returns-in_err-start_column-clause-none : goal.returns-in_err-start_column-clause-none
returns-in_err-start_column-clause-none c =
    none_given c.from_residual-in_err-start_column.result (IsNoneOf target_place_json (view c.args.value.now)) (λ p same. lacks_one (form_in p) (members_view c.in_ok-members.members.now) (codes "start_column") (size_json p.1.0.start.column) (holds_all (form_in p) (sorted p)).1.1.1.1.1.1.0 c.in_err-start_column.ensures.none (sym c.in_ok-members.ensures.found ∙ same))

pub returns-in_err-start_line-clause-none : goal.returns-in_err-start_line-clause-none
returns-in_err-start_line-clause-none c =
    none_given c.from_residual-in_err-start_line.result (IsNoneOf target_place_json (view c.args.value.now)) (λ p same. lacks_one (form_in p) (members_view c.in_ok-members.members.now) (codes "start_line") (size_json p.1.0.start.line) (holds_all (form_in p) (sorted p)).1.1.1.1.1.1.1.0 c.in_err-start_line.ensures.none (sym c.in_ok-members.ensures.found ∙ same))

pub returns-clause-found : goal.returns-clause-found
returns-clause-found c =
    let es = c.in_ok-members.members.now in
    let form = form_of (view c.in_ok-dest_end.dest_end.now) (view c.in_ok-dest_start.dest_start.now) (view c.in_ok-end.end.now) (view c.in_ok-end_column.end_column.now) (view c.in_ok-end_line.end_line.now) (view c.in_ok-start.start.now) (view c.in_ok-start_column.start_column.now) (view c.in_ok-start_line.start_line.now) in
    c.in_ok-members.ensures.found ∙ ap object (matched form (members_view es) (ascending (view c.in_ok-dest_end.dest_end.now) (view c.in_ok-dest_start.dest_start.now) (view c.in_ok-end.end.now) (view c.in_ok-end_column.end_column.now) (view c.in_ok-end_line.end_line.now) (view c.in_ok-start.start.now) (view c.in_ok-start_column.start_column.now) (view c.in_ok-start_line.start_line.now)) (sorted_view es) (c.in_ok-dest_end.ensures.found, (c.in_ok-dest_start.ensures.found, (c.in_ok-end.ensures.found, (c.in_ok-end_column.ensures.found, (c.in_ok-end_line.ensures.found, (c.in_ok-start.ensures.found, (c.in_ok-start_column.ensures.found, (c.in_ok-start_line.ensures.found, tt)))))))) (λ q h. c.if-not-has_only.ensures.yes refl q (h.0, h.1.0, h.1.1.0, h.1.1.1.0, h.1.1.1.1.0, h.1.1.1.1.1.0, h.1.1.1.1.1.1.0, h.1.1.1.1.1.1.1.0)))

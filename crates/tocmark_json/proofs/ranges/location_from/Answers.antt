use Rattle.std.proofs.Common.{◌≡◌, ℕ, Option, None, Some, IfErr, subst, sym}
use Rattle.serde_json.specs.Data.{Data}
use Rattle.tocmark_json.specs.Node.{targeted_view, view}
use Rattle.tocmark_json.specs.Json.{full_place_json, place_json, spanned_or_targeted, target_place_json}
use Rattle.tocmark_json.specs.Place.{IsNoneOf, Refuses}
use Rattle.tocmark_json.specs.declared.fault.Fault.{Fault}
use Rattle.tocmark_json.specs.declared.positions.Details.{Details}
use Rattle.tocmark_json.specs.declared.ranges.Targeted.{Targeted}
use Rattle.tocmark_json.proofs.Refusals.{handed_on, no_place}
use Rattle.tocmark_json.proofs.ranges.location_from.Goals as goal

-- an object with these eight members that is no range of a link with its destination is no range
no_target : (t : Targeted) → IsNoneOf target_place_json (targeted_view t) → IsNoneOf place_json (targeted_view t)
no_target t none (None, d) h = absurd cc
no_target t none (Some r, None) h = absurd cc
no_target t none (Some r, Some d) h = by d.destination h
  where
    by : (o : Option (ℕ × ℕ)) → targeted_view t ≡ spanned_or_targeted r d.span o → ⊥
    by None is = absurd cc
    by (Some place) is = none (r, (d.span, place)) is

pub returns-in-Some-targeted_in-clause-refused : goal.returns-in-Some-targeted_in-clause-refused
returns-in-Some-targeted_in-clause-refused c =
    let found = c.in-Some-targeted_in.found in
    subst (λ (v : Data). IfErr c.targeted_from.result (Refuses place_json v)) (sym c.in-Some-targeted_in.ensures.found)
    (handed_on c.targeted_from.result target_place_json place_json (targeted_view found) (targeted_view found) (no_target found) c.targeted_from.ensures.refused)

pub returns-clause-refused : goal.returns-clause-refused
returns-clause-refused c =
    let v = view c.args.value.now in
    handed_on c.spanned_from.result full_place_json place_json v v (no_place v (c.is_null.ensures.no c.if-is_null.false) c.in_default.ensures.none c.in_default-targeted_in.ensures.none) c.spanned_from.ensures.refused

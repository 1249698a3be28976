use Rattle.std.proofs.Common.{◌≡◌, ◌∙◌, ◌-◌, ℕ, None, ap, arith, suc, sym, take}
use Rattle.tocmark_json.specs.Destinations.{ends_of_text, first_some, place_after, place_in}
use Rattle.tocmark_json.proofs.Searching.{missed, none_there, skipped, struck}
use Rattle.tocmark_json.proofs.destinations.place_in.Goals as goal

pub returns : goal.returns
unfolding place_in
returns c =
    let link = c.args.link.now in
    let f = place_after link c.args.destination.now c.args.title.now in
    let t = c.loop-at.tries in
    let over : 0 ≡ c.loop-at.at = omega (arith, c.loop-at-test.false) in
    sym (none_there f t) ∙ ap (λ m. first_some f (take t (ends_of_text link m))) over ∙ c.loop-at.invariant

pub loop-at-preserved : goal.loop-at-preserved
loop-at-preserved c =
    let link = c.args.link.now in
    let at = c.loop-at.at in
    let next : at ≡ suc (at - 1) = omega (arith, c.loop-at-test.true) in
    sym (skipped (place_after link c.args.destination.now c.args.title.now) link (at - 1) at next c.loop-at.tries (sym c.starts_at.ensures ∙ c.if-starts_at.false))
    ∙ c.loop-at.invariant

pub returns-then-is_some : goal.returns-then-is_some
unfolding place_in
returns-then-is_some c =
    let link = c.args.link.now in
    let at = c.loop-at.at in
    let t = c.loop-at.tries in
    let next : at ≡ suc (at - 1) = omega (arith, c.loop-at-test.true) in
    let left : t ≡ suc (t - 1) = omega (arith, c.if-tries-eq0.false) in
    sym (struck (place_after link c.args.destination.now c.args.title.now) link (at - 1) at next t (t - 1) left (sym c.starts_at.ensures ∙ c.if-starts_at.true) c.in_ok-place.place c.in_ok-place.ensures (sym c.is_some.ensures ∙ c.if-is_some.true))
    ∙ c.loop-at.invariant

pub loop-at-preserved-then-starts_at : goal.loop-at-preserved-then-starts_at
loop-at-preserved-then-starts_at c =
    let link = c.args.link.now in
    let f = place_after link c.args.destination.now c.args.title.now in
    let at = c.loop-at.at in
    let t = c.loop-at.tries in
    let next : at ≡ suc (at - 1) = omega (arith, c.loop-at-test.true) in
    let left : t ≡ suc (t - 1) = omega (arith, c.if-tries-eq0.false) in
    ap (λ m. first_some f (take m (ends_of_text link (at - 1)))) c.saturating_sub-tries.ensures
    ∙ sym (missed f link (at - 1) at next t (t - 1) left (sym c.starts_at.ensures ∙ c.if-starts_at.true) c.in_ok-place.place c.in_ok-place.ensures (sym c.is_some.ensures ∙ c.if-is_some.false))
    ∙ c.loop-at.invariant

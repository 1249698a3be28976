use Rattle.std.proofs.Common.{◌≡◌, ◌+◌, ◌-◌, ◌<◌, ◌≤◌, ℕ, Bool, false, None, ap, ◌∙◌, take, drop, length, get_or, arith, subst, length-set, rules}
use Rattle.std.specs.Prelude.{unwrap_or}
use Rattle.std.specs.List.{list_any}
use Rattle.tocmark_write_pending.specs.Ahead.{comes_before}
use Rattle.tocmark_write_emphasis.proofs.Nearest.{nearest-step, nearest-none, found-at, found-step}
use Rattle.tocmark_write_pending.proofs.Ahead.{are-disturbed}
use Rattle.tocmark_write_emphasis.proofs.preferences.marks_within.Goals as goal

pub loop-i-init : goal.loop-i-init
loop-i-init c =
    record {
      within = omega arith;
      len = search rules;
      nearest = nearest-none c.args.marks.now (length c.args.marks.now) (omega arith);
      found = λ j le lt. absurd (omega arith);
    }

pub loop-i-preserved : goal.loop-i-preserved
loop-i-preserved c =
    let marks = c.args.marks.now in
    let ends = c.args.ends.now in
    let k = c.loop-i.i - 1 in
    let q : c.loop-i.i ≡ k + 1 = omega arith in
    let lt : k < length marks = omega arith in
    let P : ℕ → Type 0 = λ i. (j : ℕ) → i ≤ j → j < length marks → get_or c.loop-i.found.items j false ≡ list_any (λ b. b) (take (unwrap_or (get_or ends j None) (length marks) - (j + 1)) (drop (j + 1) marks)) in
    record {
      within = omega arith;
      len = omega (arith, length-set {A = Bool}, c.loop-i.invariant.len);
      nearest = nearest-step marks c.loop-i.nearest c.nearer-nearest.result c.loop-i.i k _ q lt c.loop-i.invariant.nearest c.nearer-nearest.ensures;
      found = found-step c.loop-i.found.items marks ends k c.comes_before.result (omega (arith, c.loop-i.invariant.len)) (found-at marks ends c.loop-i.nearest c.comes_before.result c.loop-i.i k q c.loop-i.invariant.nearest (c.comes_before.ensures ∙ ap (comes_before c.loop-i.nearest) c.end_at.ensures.value)) (subst P q c.loop-i.invariant.found);
    }

pub returns-clause-marked : goal.returns-clause-marked
returns-clause-marked c =
    record {
      len = c.loop-i.invariant.len;
      at = λ i h. c.loop-i.invariant.found i (omega arith) h;
    }

pub returns-clause-disturbed : goal.returns-clause-disturbed
returns-clause-disturbed c =
    λ s runs es e are. are-disturbed s runs es c.args.marks.now c.args.ends.now c.loop-i.found.items e are (record { len = c.loop-i.invariant.len; at = λ i h. c.loop-i.invariant.found i (omega arith) h })

use Rattle.std.proofs.Common.{rules, ◌≡◌, ◌∙◌, ◌+◌, ◌-◌, ◌<◌, ◌≤◌, ℕ, ap, length, map, drop, get_or, arith, subst, length-set}
use Rattle.tocmark_write_pending.specs.BodyFacts.{FactLayers, no_facts, facts_of}
use Rattle.tocmark_spelling.specs.Buffered.{buffered_view}
use Rattle.tocmark_spelling.specs.Machine.{kids_of}
use Rattle.tocmark_write_pending.specs.declared.body_facts.BodyFacts.{BodyFacts}
use Rattle.tocmark_write_pending.proofs.FactLemmas.{layer-step, layer-none, place-set, facts-past}
use Rattle.tocmark_spelling.proofs.Turns.{drop-event, length-events}
use Rattle.tocmark_write_pending.proofs.body_facts.body_facts.Goals as goal

pub loop-i-init : goal.loop-i-init
loop-i-init c =
    let evs = map buffered_view c.args.events.now in
    let len = length c.args.events.now in
    let count = length-events c.args.events.now in
    record {
      within = omega arith;
      len = search rules;
      layer = layer-none evs len _ _ (omega (arith, count)) c.no_facts-inner.ensures c.new-outer.ensures.items;
      found = λ j le. facts-past c.in_ok-facts.facts.items evs len j (search rules) count le;
    }

pub loop-i-preserved : goal.loop-i-preserved
loop-i-preserved c =
    let evs = map buffered_view c.args.events.now in
    let k = c.loop-i.i - 1 in
    let q : c.loop-i.i ≡ k + 1 = omega arith in
    let lt : k < length c.args.events.now = omega arith in
    let at = drop-event c.args.events.now k _ lt c.index-events-i.is in
    let value : ℕ → BodyFacts = λ j. facts_of (kids_of (drop (j + 1) evs)) in
    let here = ap (λ (x : FactLayers). x.inner) c.loop-i.invariant.layer ∙ ap (λ i. facts_of (kids_of (drop i evs))) q in
    let P : ℕ → Type 0 = λ i. (j : ℕ) → i ≤ j → get_or c.loop-i.facts.items j no_facts ≡ value j in
    record {
      within = omega arith;
      len = omega (arith, length-set {A = BodyFacts}, c.loop-i.invariant.len);
      layer = layer-step evs _ _ _ c.loop-i.i k q at c.loop-i.invariant.layer c.in_ok-inner.ensures;
      found = place-set c.loop-i.facts.items no_facts k c.loop-i.inner value (omega (arith, c.loop-i.invariant.len)) here (subst P q c.loop-i.invariant.found);
    }

pub returns : goal.returns
returns c = record { at = λ i. c.loop-i.invariant.found i (omega arith) }

use Rattle.std.proofs.Common.{rules, ◌≡◌, ◌+◌, ◌-◌, ◌<◌, ◌≤◌, ℕ, length, map, get_or, arith, subst, length-set}
use Rattle.tocmark_event.specs.Options.{options_view}
use Rattle.tocmark_spelling.specs.Buffered.{buffered_view}
use Rattle.tocmark_spelling.proofs.Turns.{drop-event, length-events}
use Rattle.tocmark_write_blocks.specs.Raw.{no_raw}
use Rattle.tocmark_write_blocks.specs.declared.raw_facts.RawFacts.{RawFacts}
use Rattle.tocmark_write_blocks.proofs.RawLemmas.{IsGathered, all-raw, gathers, past-gathered, place-holds}
use Rattle.tocmark_write_blocks.proofs.raw_facts.gathered.Goals as goal

pub loop-i-init : goal.loop-i-init
loop-i-init c =
    let a = c.args in
    let count = length-events a.events.now in
    record {
      within = omega arith;
      len = search rules;
      found = λ j le. past-gathered (options_view a.options.now) (map buffered_view a.events.now) a.preferred.now a.tildes.now a.html.now j _ (omega (arith, count));
    }

pub loop-i-preserved : goal.loop-i-preserved
loop-i-preserved c =
    let a = c.args in
    let o = options_view a.options.now in
    let evs = map buffered_view a.events.now in
    let k = c.loop-i.i - 1 in
    let q : c.loop-i.i ≡ k + 1 = omega arith in
    let lt : k < length a.events.now = omega arith in
    let at = drop-event a.events.now k _ lt c.index-events-i.is in
    let P : ℕ → RawFacts → Type 0 = IsGathered o evs a.preferred.now a.tildes.now a.html.now in
    let facts = c.loop-i.facts.items in
    let Q : ℕ → Type 0 = λ i. (j : ℕ) → i ≤ j → P j (get_or facts j no_raw) in
    record {
      within = omega arith;
      len = omega (arith, length-set {A = RawFacts}, c.loop-i.invariant.len);
      found = place-holds P facts no_raw k c.raw_of.result (omega (arith, c.loop-i.invariant.len))
          (gathers o evs a.preferred.now a.tildes.now a.html.now k _ c.raw_of.result _ _ _ at c.longest_at-preferred.ensures c.longest_at-tilde.ensures c.html_at.ensures c.raw_of.ensures)
          (subst Q q c.loop-i.invariant.found);
    }

pub returns : goal.returns
returns c =
    let a = c.args in
    all-raw (options_view a.options.now) (map buffered_view a.events.now) a.preferred.now a.tildes.now a.html.now c.loop-i.facts.items
    c.requires.preferred c.requires.tildes c.requires.html (λ j. c.loop-i.invariant.found j (omega arith))

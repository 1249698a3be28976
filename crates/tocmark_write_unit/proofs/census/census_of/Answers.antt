use Rattle.std.proofs.Common.{◌≡◌, ◌∙◌, ◌+◌, ◌-◌, ◌<◌, ℕ, List, arith, ap, drop, length, map, subst, sym}
use Rattle.std.proofs.lemmas.List.{drop_all}
use Rattle.tocmark_event.specs.View.{SourcedEvent}
use Rattle.tocmark_spelling.proofs.Turns.{drop-event, length-events}
use Rattle.tocmark_spelling.specs.Buffered.{buffered_view}
use Rattle.tocmark_write_unit.specs.CensusOf.{IsCensus}
use Rattle.tocmark_write_unit.proofs.census.census_of.Goals as goal

pub loop-i-init : goal.loop-i-init
loop-i-init c =
    let events = c.events-events.result.now in
    let es = map buffered_view events in
    let P : List SourcedEvent → Type 0 = λ xs. IsCensus xs c.new-census.result in
    record {
      within = omega arith;
      counted = subst P (sym (drop_all (length events) es (omega (arith, length-events events)))) c.new-census.ensures;
    }

pub loop-i-preserved : goal.loop-i-preserved
loop-i-preserved c =
    let events = c.events-events.result.now in
    let es = map buffered_view events in
    let k = c.loop-i.i - 1 in
    let q : c.loop-i.i ≡ k + 1 = omega arith in
    let lt : k < length events = omega arith in
    let at = drop-event events k _ lt c.index-events-i.is in
    let P : List SourcedEvent → Type 0 = λ xs. IsCensus xs c.with_event-census.result in
    let Q : ℕ → Type 0 = λ i. IsCensus (drop i es) c.loop-i.census in
    record {
      within = omega arith;
      counted = subst P (sym at) (c.with_event-census.ensures (drop (k + 1) es) (subst Q q c.loop-i.invariant.counted));
    }

pub returns : goal.returns
returns c =
    let es = map buffered_view c.events-events.result.now in
    let P : List SourcedEvent → Type 0 = λ xs. IsCensus xs c.loop-i.census in
    let none : c.loop-i.i ≡ 0 = omega arith in
    subst P (ap (λ i. drop i es) none ∙ c.events-events.ensures) c.loop-i.invariant.counted

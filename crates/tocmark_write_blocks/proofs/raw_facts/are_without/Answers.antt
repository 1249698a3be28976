use Rattle.std.proofs.Common.{◌≡◌, ◌∙◌, ◌+◌, ◌-◌, ◌<◌, arith, drop, length, map, subst, sym}
use Rattle.tocmark_spelling.specs.Buffered.{buffered_view}
use Rattle.tocmark_spelling.proofs.Turns.{drop-event, length-events}
use Rattle.tocmark_write_blocks.specs.Raw.{AreWithout}
use Rattle.tocmark_write_blocks.proofs.Silent.{none-without, one-without}
use Rattle.tocmark_write_blocks.proofs.raw_facts.are_without.Goals as goal

pub loop-i-init : goal.loop-i-init
loop-i-init c =
    let events = c.args.events.now in
    record {
      within = omega arith;
      without = none-without c.args.byte (map buffered_view events) (length events) (omega (arith, length-events events));
    }

pub loop-i-preserved : goal.loop-i-preserved
loop-i-preserved c =
    let events = c.args.events.now in
    let k = c.loop-i.i - 1 in
    let q : c.loop-i.i ≡ k + 1 = omega arith in
    let lt : k < length events = omega arith in
    record {
      within = omega arith;
      without = one-without c.args.byte (map buffered_view events) _ c.loop-i.i k q (drop-event events k _ lt c.index-events-i.is)
          (sym c.event_holds.ensures.held ∙ c.if-event_holds.false) c.event_holds.ensures.text c.loop-i.invariant.without;
    }

pub returns : goal.returns
returns c =
    let none : c.loop-i.i ≡ 0 = omega arith in
    λ is. subst (λ i. AreWithout c.args.byte (drop i (map buffered_view c.args.events.now))) none c.loop-i.invariant.without

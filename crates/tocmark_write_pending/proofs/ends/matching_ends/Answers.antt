use Rattle.std.proofs.Common.{◌≡◌, ◌∙◌, map, ◌+◌, ◌-◌, ◌<◌, ◌≤◌, ℕ, Option, None, sym, drop, length, get_or, reverse, arith, subst, length-set, rules}
use Rattle.tocmark_spelling.specs.Buffered.{buffered_view}
use Rattle.tocmark_spelling.specs.Scans.{end_at}
use Rattle.tocmark_spelling.proofs.Turns.{drop-event, drop-all, length-events}
use Rattle.tocmark_write_pending.proofs.Closers.{closers-turn, closers-none, closer-turn, ends-past}
use Rattle.tocmark_write_pending.proofs.FactLemmas.{place-set}
use Rattle.tocmark_write_pending.proofs.ends.matching_ends.Goals as goal

pub loop-i-init : goal.loop-i-init
loop-i-init c =
    let evs = map buffered_view c.args.events.now in
    let len = length c.args.events.now in
    let count = length-events c.args.events.now in
    record {
      within = omega arith;
      len = search rules;
      closers = λ d. closers-none evs _ len d c.new-closers.ensures.items (drop-all evs len (omega (arith, count)));
      ends = λ j le. ends-past c.in_ok-ends.ends.items evs len j (search rules) count le;
    }

pub loop-i-preserved : goal.loop-i-preserved
loop-i-preserved c =
    let evs = map buffered_view c.args.events.now in
    let k = c.loop-i.i - 1 in
    let q : c.loop-i.i ≡ k + 1 = omega arith in
    let lt : k < length c.args.events.now = omega arith in
    let at = drop-event c.args.events.now k _ lt c.index-events-i.is in
    let ends = c.loop-i.ends.items in
    let value : ℕ → Option ℕ = λ j. end_at j (drop j evs) in
    let P : ℕ → Type 0 = λ i. (j : ℕ) → i ≤ j → get_or ends j None ≡ value j in
    let end = closer-turn _ evs (reverse c.loop-i.closers.items) c.loop-i.i k c.in_ok-end.end q at c.in_ok-end.ensures.end c.loop-i.invariant.closers in
    record {
      within = omega arith;
      len = omega (arith, length-set {A = Option ℕ}, c.loop-i.invariant.len);
      closers = closers-turn _ evs _ _ c.loop-i.i k q at c.in_ok-end.ensures.closers c.loop-i.invariant.closers;
      ends = place-set ends None k c.in_ok-end.end value (omega (arith, c.loop-i.invariant.len)) end (subst P q c.loop-i.invariant.ends);
    }

pub returns : goal.returns
returns c =
    record {
      len = c.loop-i.invariant.len ∙ sym (length-events c.args.events.now);
      at = λ i. c.loop-i.invariant.ends i (omega arith);
    }

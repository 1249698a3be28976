use Rattle.std.proofs.Common.{map, length, drop, ap, sym, ◌∙◌, ◌+◌, ◌&&◌, ◌<◌, arith}
use Rattle.std.proofs.lemmas.List.{length-map}
use Rattle.std.specs.Cmp.Lexicographic.{unequal}
use Rattle.std.proofs.Math.ListN.{drop_of_length-le}
use Rattle.tocmark_event.specs.View.{event_view}
use Rattle.tocmark_spelling.specs.SameEvents.{same_event, same_events}
use Rattle.tocmark_compare.proofs.SameKeys.{same-at}
use Rattle.tocmark_compare.proofs.event.same_events.Goals as goal

pub returns-then-a-b : goal.returns-then-a-b
returns-then-a-b g c =
    let f = event_view g.T.Words.bytes in
    let h = event_view g.U.Words.bytes in
    let xs = c.args.a.now in
    let ys = c.args.b.now in
    sym (unequal same_event (map f xs) (map h ys) (λ e. omega (arith, c.if-a-b.true, e, length-map xs f, length-map ys h)))

pub returns-then-not-same_event : goal.returns-then-not-same_event
returns-then-not-same_event g c =
    let f = event_view g.T.Words.bytes in
    let h = event_view g.U.Words.bytes in
    let xs = c.args.a.now in
    let ys = c.args.b.now in
    let i = c.loop-i.i in
    let lt : i < length ys = omega (arith, c.loop-i.invariant.long, c.loop-i-test.true) in
    let at = same-at same_event f h xs ys i c.index-a-i.result c.index-b-i.result (omega arith) lt c.index-a-i.is c.index-b-i.is in
    let rest = same_events (map f (drop (i + 1) xs)) (map h (drop (i + 1) ys)) in
    sym (ap (λ b. b && rest) (sym c.same_event.ensures ∙ c.if-not-same_event.true)) ∙ sym at ∙ c.loop-i.invariant.rest

pub loop-i-preserved : goal.loop-i-preserved
loop-i-preserved g c =
    let f = event_view g.T.Words.bytes in
    let h = event_view g.U.Words.bytes in
    let xs = c.args.a.now in
    let ys = c.args.b.now in
    let i = c.loop-i.i in
    let lt : i < length ys = omega (arith, c.loop-i.invariant.long, c.loop-i-test.true) in
    let at = same-at same_event f h xs ys i c.index-a-i.result c.index-b-i.result (omega arith) lt c.index-a-i.is c.index-b-i.is in
    let rest = same_events (map f (drop (i + 1) xs)) (map h (drop (i + 1) ys)) in
    record {
      long = c.loop-i.invariant.long;
      rest = sym (ap (λ b. b && rest) (sym c.same_event.ensures ∙ c.if-not-same_event.false)) ∙ sym at ∙ c.loop-i.invariant.rest;
    }

pub returns : goal.returns
returns g c =
    let f = event_view g.T.Words.bytes in
    let h = event_view g.U.Words.bytes in
    let xs = c.args.a.now in
    let ys = c.args.b.now in
    let first = drop_of_length-le xs (omega arith) in
    let second = drop_of_length-le ys (omega arith) in
    sym (λ j. same_events (map f (first j)) (map h (second j))) ∙ c.loop-i.invariant.rest

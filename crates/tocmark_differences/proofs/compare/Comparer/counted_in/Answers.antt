use Rattle.std.proofs.Common.{◌≡◌, ◌∙◌, ap, sym, List}
use Rattle.std.proofs.lemmas.Result.{IfOk-weaker}
use Rattle.tocmark_event.specs.View.{EventView}
use Rattle.tocmark_compare.proofs.Found.{found-given}
use Rattle.tocmark_compare.specs.Given.{found_events, given_events}
use Rattle.tocmark_judge.specs.Same.{at_front, counted, folded}
use Rattle.tocmark_differences.proofs.compare.Comparer.counted_in.Goals as goal

pub returns-then-self : goal.returns-then-self
returns-then-self g c =
    let found : List EventView = found_events (g.R.Reader.reading c.args.self.now.reader.now c.args.text.now c.args.self.now.flags) in
    let read : given_events c.deref.result.now ≡ found =
    ap given_events c.deref.ensures.value
    ∙ sym (found-given c.in_ok-reading.reading)
    ∙ ap found_events c.in_ok-reading.ensures in
    let counts : folded at_front (given_events c.deref.result.now) ≡ counted c.args.self.now.allowed.wrap found =
    ap (folded at_front) read ∙ ap (λ w. counted w found) (sym c.if-self.true) in
    IfOk-weaker c.folded.result _ _ (λ all h. h ∙ counts) c.folded.ensures

pub returns : goal.returns
returns g c =
    let found : List EventView = found_events (g.R.Reader.reading c.args.self.now.reader.now c.args.text.now c.args.self.now.flags) in
    sym (found-given c.in_ok-reading.reading)
    ∙ ap found_events c.in_ok-reading.ensures
    ∙ ap (λ w. counted w found) (sym c.if-self.false)

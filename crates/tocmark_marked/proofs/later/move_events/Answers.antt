use Rattle.std.proofs.Common.{◌≡◌, ◌∙◌, add-one, ap, arith, slice_index_or, ℕ}
use Rattle.tocmark_marked.specs.Marked.{with_later_range}
use Rattle.tocmark_marked.proofs.Fronts.{all_changed, one_more}
use Rattle.tocmark_event.specs.Text.{ParserEvent}
use Rattle.tocmark_marked.proofs.later.move_events.Goals as goal

pub loop-pair-preserved : goal.loop-pair-preserved
loop-pair-preserved c =
    let old : ParserEvent × (ℕ × ℕ) = slice_index_or c.loop-pair.events c.loop-pair.pair-index c.pair-item.result in
    let new : ParserEvent × (ℕ × ℕ) = (old.0, c.later-pair.result) in
    let same : new ≡ with_later_range old = ap (λ (r : ℕ × ℕ). (old.0, r)) c.later-pair.ensures in
    rw add-one (one_more with_later_range c.loop-pair.events c.args.events.now c.loop-pair.pair-index c.pair-item.result new c.loop-pair.invariant (omega arith) same)

pub returns : goal.returns
returns c =
    c.loop-pair.invariant
    ∙ all_changed with_later_range c.loop-pair.pair-index c.args.events.now c.loop-pair-test.false

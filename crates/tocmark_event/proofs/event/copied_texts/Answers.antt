use Rattle.tocmark_event.proofs.Copying.{copied-more, copied-all}
use Rattle.tocmark_event.proofs.event.copied_texts.Goals as goal

pub loop-text-preserved : goal.loop-text-preserved
loop-text-preserved g c =
    copied-more g.U.Words.bytes g.T.Words.bytes c.loop-text.copies.items c.args.texts.now c.loop-text.text-index c.loop-text.invariant c.push.new.self.items c.in_ok-copied_text.field-0 c.text-item.result c.loop-text-test.true c.text-item.is c.in_ok-push.ensures.items c.in_ok-copied_text.ensures

pub returns : goal.returns
returns g c =
    copied-all g.U.Words.bytes g.T.Words.bytes c.loop-text.copies.items c.args.texts.now c.loop-text.text-index c.loop-text.invariant c.loop-text-test.false

use Rattle.std.proofs.Common.{refl}
use Rattle.std.proofs.lemmas.Result.{on_ok_weaker}
use Rattle.tocmark_event.specs.Text.{text_of}
use Rattle.tocmark_event.specs.View.{event_view}
use Rattle.tocmark_judge.proofs.Shapes.{outlines-more, outlines-still}
use Rattle.tocmark_judge.proofs.shape.Outline.add.Goals as goal

pub returns-in-Some : goal.returns-in-Some
returns-in-Some c =
    on_ok_weaker c.put.result
    (λ longer before h. outlines-more c.args.self.now c.put.new.self c.in-Some.mark (event_view text_of c.args.pair.now.0) longer c.in-Some.ensures.some before h)
    c.put.ensures

pub returns-in-None : goal.returns-in-None
returns-in-None c = λ before h. outlines-still c.args.self.now c.args.self.now (event_view text_of c.args.pair.now.0) refl (c.in-None.ensures.none refl) before h

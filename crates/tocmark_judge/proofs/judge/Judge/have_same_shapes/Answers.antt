use Rattle.std.proofs.Common.{◌≤◌, length, subst, arith}
use Rattle.std.specs.List.{All}
use Rattle.std.proofs.lemmas.List.{take_all}
use Rattle.tocmark_event.specs.declared.event.flags.ParserOptions.{ParserOptions}
use Rattle.tocmark_judge.specs.Shape.{has_same_shape}
use Rattle.tocmark_judge.proofs.judge.Judge.have_same_shapes.Goals as goal

pub returns : goal.returns
returns g c = λ _.
    let f = c.args.self.now in
    let all : length f.also.now ≤ c.loop-flags.flags-index = omega arith in
    subst (All (λ (o : ParserOptions). has_same_shape (g.R.Reader.reading f.reader.now c.args.one.now o) (g.R.Reader.reading f.reader.now c.args.other.now o)))
    (take_all c.loop-flags.flags-index f.also.now all) c.loop-flags.invariant

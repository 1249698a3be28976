use Rattle.std.proofs.Common.{take}
use Rattle.std.specs.List.{All}
use Rattle.tocmark_event.specs.declared.event.flags.ParserOptions.{ParserOptions}
use Rattle.tocmark_judge.specs.Shape.{has_same_shape}
use Rattle.tocmark_judge.proofs.judge.Judge.have_same_shapes.Given as goal

abbrev pub invariant-loop-flags : goal.invariant-loop-flags
invariant-loop-flags g l = All (λ (f : ParserOptions). has_same_shape (g.R.Reader.reading l.self.reader.now l.one f) (g.R.Reader.reading l.self.reader.now l.other f)) (take l.flags-index l.self.also.now)

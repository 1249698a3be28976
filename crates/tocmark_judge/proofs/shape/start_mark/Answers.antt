use Rattle.std.proofs.Common.{◌∙◌, ap, ◌+◌, ◌-◌, ◌^◌, min}
use Rattle.tocmark_compare.specs.Digest.{marked}
use Rattle.tocmark_compare.proofs.Marks.{start-marked}
use Rattle.tocmark_judge.proofs.shape.start_mark.Goals as goal

pub returns : goal.returns
returns c = ap marked (c.saturating_add.ensures ∙ ap (λ n. min (n + 35) (2 ^ 8 - 1)) c.end_number.ensures) ∙ start-marked c.args.end

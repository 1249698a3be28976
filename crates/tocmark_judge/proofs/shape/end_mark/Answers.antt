use Rattle.std.proofs.Common.{◌∙◌, ap}
use Rattle.tocmark_compare.specs.Digest.{marked}
use Rattle.tocmark_compare.proofs.Marks.{end-marked}
use Rattle.tocmark_judge.proofs.shape.end_mark.Goals as goal

pub returns : goal.returns
returns c = ap marked c.end_number.ensures ∙ end-marked c.args.end

use Rattle.std.proofs.Common.{◌∙◌, ap}
use Rattle.tocmark_spelling.specs.Page.{raised}
use Rattle.tocmark_spelling.specs.TrailOf.{trail_of}
use Rattle.tocmark_spelling.proofs.trail.Carried.raised_to_least.Goals as goal

pub returns : goal.returns
returns c = λ line. c.raised.ensures line ∙ ap (λ n. raised n (trail_of c.args.self line)) c.least.ensures

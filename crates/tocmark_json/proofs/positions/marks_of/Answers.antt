use Rattle.std.proofs.Common.{◌∙◌, ap}
use Rattle.tocmark_json.specs.Positions.{behind}
use Rattle.tocmark_json.proofs.Passing.{next_place}
use Rattle.tocmark_json.proofs.positions.marks_of.Goals as goal

pub loop-offset-preserved : goal.loop-offset-preserved
loop-offset-preserved c =
    let bytes = c.args.bytes.now in
    let l = c.loop-offset in
    (next_place bytes l.offset l.position c.behind-position.result l.invariant.0 (c.behind-position.ensures ∙ ap (λ b. behind b l.position) c.rest.ensures), c.in_ok-push_mark.ensures bytes l.invariant.0 l.invariant.1)

use Rattle.std.proofs.Common.{◌-◌, ◌∙◌, ap, drop}
use Rattle.tocmark_json.specs.Positions.{behind, passed}
use Rattle.tocmark_json.proofs.Passing.{goes_on}
use Rattle.tocmark_json.proofs.positions.passed.Goals as goal

pub loop-at-preserved : goal.loop-at-preserved
loop-at-preserved c =
    let bytes = c.args.bytes.now in
    goes_on c.loop-at.place c.behind-place.result (passed c.args.position (drop c.args.from bytes) (c.args.to - c.args.from)) bytes c.loop-at.at c.args.to c.loop-at-test.true (c.behind-place.ensures ∙ ap (λ l. behind l c.loop-at.place) c.rest.ensures) c.loop-at.invariant

use Rattle.std.proofs.Common.{◌<◌, ◌≤◌, ◌∙◌, ap, sym, length, map, arith}
use Rattle.std.proofs.lemmas.List.{take_all}
use Rattle.tocmark_judge.specs.LinkDefinitions.{link_defined}
use Rattle.tocmark_judge.proofs.Folding.{taken-more}
use Rattle.tocmark_judge.proofs.summary.same_definitions.Goals as goal

pub loop-at-preserved : goal.loop-at-preserved
loop-at-preserved c =
    let at = c.loop-at.at in
    let lt : at < length c.args.other.now = omega (arith, c.loop-at.invariant.long, c.loop-at-test.true) in
    record {
      long = c.loop-at.invariant.long;
      same = taken-more link_defined c.args.one.now c.args.other.now at c.index-one-at.result c.index-other-at.result
          (omega arith) lt c.index-one-at.is c.index-other-at.is c.loop-at.invariant.same
          (c.is_same_definition.ensures c.if-not-is_same_definition.false);
    }

pub returns : goal.returns
returns c = λ _.
    let first : length c.args.one.now ≤ c.loop-at.at = omega arith in
    let second : length c.args.other.now ≤ c.loop-at.at = omega (arith, c.loop-at.invariant.long) in
    ap (map link_defined) (sym (take_all c.loop-at.at c.args.one.now first))
    ∙ c.loop-at.invariant.same
    ∙ ap (map link_defined) (take_all c.loop-at.at c.args.other.now second)

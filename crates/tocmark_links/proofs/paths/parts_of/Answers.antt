use Rattle.std.proofs.Common.{rules, arith, Some, None}
use Rattle.std.proofs.lemmas.Str.Pattern.{split_parts}
use Rattle.tocmark_links.proofs.Parts.{parts-step, parts-end, lacks}
use Rattle.tocmark_links.proofs.paths.parts_of.Goals as goal

pub loop-part-preserved : goal.loop-part-preserved
loop-part-preserved c =
    let cut = split_parts 47 c.loop-part.rest.now (Some (c.in-Some.part, c.in-Some.next)) c.in-Some.ensures.cases (omega arith) in
    (search rules, rw c.in_ok-push.ensures.items (parts-step c.loop-part.parts.items c.in-Some.part c.in-Some.next c.loop-part.rest.now c.args.path.now cut.0 (lacks c.in-Some.part.now cut.1) c.loop-part.invariant.1))

pub returns : goal.returns
returns c =
    let whole = split_parts 47 c.loop-part.rest.now None c.in_default.ensures.cases (omega arith) in
    rw c.in_ok-push-2.ensures.items (parts-end c.loop-part.parts.items c.loop-part.rest c.args.path.now (lacks c.loop-part.rest.now whole) c.loop-part.invariant.1)

use Rattle.std.proofs.Common.{◌+◌, ◌∙◌, ◌++◌, ap, sym, arith, take, length, length-append}
use Rattle.tocmark_write_containers.specs.KeptOf.{present, seen}
use Rattle.tocmark_spelling.specs.Page.{prefix_of}
use Rattle.tocmark_write_containers.proofs.Seen.{joined-more, joined-bound}
use Rattle.tocmark_write_containers.proofs.containers.join.Goals as goal

pub put-requires : goal.put-requires
put-requires c =
    let i = c.loop-kept.kept-index in
    let before = prefix_of (seen present (take i c.args.frames.now)) in
    omega (
      arith,
      ap length c.loop-kept.invariant.done,
      ap length (joined-more c.args.frames.now i c.kept-item.result c.loop-kept-test.true c.kept-item.is),
      length-append before (present c.kept-item.result).prefix,
      joined-bound c.args.frames.now (i + 1),
      c.loop-kept.invariant.room,
    )

pub loop-kept-preserved : goal.loop-kept-preserved
loop-kept-preserved c =
    let i = c.loop-kept.kept-index in
    record {
      done =
          c.put.ensures.bytes
          ∙ ap (λ l. l ++ (present c.kept-item.result).prefix) c.loop-kept.invariant.done
          ∙ sym (joined-more c.args.frames.now i c.kept-item.result c.loop-kept-test.true c.kept-item.is);
      room = omega (arith, c.loop-kept.invariant.room, c.put.ensures.capacity);
    }

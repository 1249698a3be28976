use Rattle.std.proofs.Common.{◌∙◌, ◌<◌, length, arith}
use Rattle.std.proofs.lemmas.List.{length-set}
use Rattle.tocmark_write_containers.proofs.Notes.{restore-step, rest-step}
use Rattle.tocmark_write_containers.specs.KeptOf.{original, outside_at, present}
use Rattle.tocmark_write_containers.proofs.kept.restore_all.Goals as goal

pub loop-i-preserved : goal.loop-i-preserved
loop-i-preserved c =
    let less : c.loop-i.i < length c.loop-i.frames.items = omega (arith, c.loop-i-test.true, c.len-i-end.ensures, c.loop-i.invariant.len) in
    record {
      done = restore-step present original c.loop-i.frames.items c.args.frames.now.items c.loop-i.i c.restore.new.self c.index_mut.result.now less c.loop-i.invariant.len c.index_mut.ensures.value c.restore.ensures.present c.loop-i.invariant.done c.loop-i.invariant.rest;
      told = restore-step outside_at outside_at c.loop-i.frames.items c.args.frames.now.items c.loop-i.i c.restore.new.self c.index_mut.result.now less c.loop-i.invariant.len c.index_mut.ensures.value c.restore.ensures.outside c.loop-i.invariant.told c.loop-i.invariant.rest;
      rest = rest-step c.loop-i.frames.items c.args.frames.now.items c.loop-i.i c.restore.new.self c.loop-i.invariant.rest;
      len = length-set c.loop-i.frames.items c.loop-i.i c.restore.new.self ∙ c.loop-i.invariant.len;
    }

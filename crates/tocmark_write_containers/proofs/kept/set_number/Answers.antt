use Rattle.std.proofs.Common.{◌≡◌, ◌<◌, ◌+◌, ◌-◌, length, arith}
use Rattle.tocmark_write_containers.specs.KeptOf.{original, outside_at}
use Rattle.tocmark_write_containers.specs.Nesting.{numbered}
use Rattle.tocmark_write_containers.proofs.Seen.{change-seen, replace-one}
use Rattle.tocmark_write_containers.proofs.kept.set_number.Goals as goal

pub returns-then-n-gt0-clause-present : goal.returns-then-n-gt0-clause-present
returns-then-n-gt0-clause-present c =
    let less : c.len-n.result - 1 < length c.args.frames.now.items = omega (arith, c.if-n-gt0.true, c.len-n.ensures) in
    let sum : 0 + (c.len-n.result - 1) + 1 ≡ length c.args.frames.now.items = omega (arith, c.if-n-gt0.true, c.len-n.ensures) in
    change-seen (numbered c.args.number) c.args.frames.now.items (c.len-n.result - 1) 0 c.set_number.new.self c.index_mut.result.now less sum c.index_mut.ensures.value c.set_number.ensures.present

pub returns-then-n-gt0-clause-original : goal.returns-then-n-gt0-clause-original
returns-then-n-gt0-clause-original c =
    let less : c.len-n.result - 1 < length c.args.frames.now.items = omega (arith, c.if-n-gt0.true, c.len-n.ensures) in
    replace-one original c.args.frames.now.items (c.len-n.result - 1) c.set_number.new.self c.index_mut.result.now less c.index_mut.ensures.value c.set_number.ensures.original

pub returns-then-n-gt0-clause-outside : goal.returns-then-n-gt0-clause-outside
returns-then-n-gt0-clause-outside c =
    let less : c.len-n.result - 1 < length c.args.frames.now.items = omega (arith, c.if-n-gt0.true, c.len-n.ensures) in
    replace-one outside_at c.args.frames.now.items (c.len-n.result - 1) c.set_number.new.self c.index_mut.result.now less c.index_mut.ensures.value c.set_number.ensures.outside

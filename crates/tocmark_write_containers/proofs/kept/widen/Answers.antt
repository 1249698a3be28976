use Rattle.std.proofs.Common.{◌≡◌, ◌+◌, ◌-◌, ap, length, reverse, arith}
use Rattle.std.proofs.lemmas.Result.{on_ok_weaker, on_err_weaker}
use Rattle.tocmark_spelling.specs.Places.{wider}
use Rattle.tocmark_write_containers.specs.KeptOf.{original, outside_at, present}
use Rattle.tocmark_write_containers.proofs.Seen.{change-seen, replace-one}
use Rattle.tocmark_write_containers.proofs.kept.widen.Goals as goal

pub returns-clause-present : goal.returns-clause-present
returns-clause-present c =
    let n = length c.args.frames.now.items - 1 - c.args.place in
    let sum : n + c.args.place + 1 ≡ length c.args.frames.now.items = omega (arith, c.requires) in
    on_ok_weaker
    c.widen.result
    (λ h. change-seen (wider c.args.characters) c.args.frames.now.items c.args.place n c.widen.new.self c.index_mut.result.now c.requires sum c.index_mut.ensures.value h)
    c.widen.ensures.present

pub returns-clause-stays : goal.returns-clause-stays
returns-clause-stays c =
    on_err_weaker
    c.widen.result
    (λ h. ap reverse (replace-one present c.args.frames.now.items c.args.place c.widen.new.self c.index_mut.result.now c.requires c.index_mut.ensures.value h))
    c.widen.ensures.stays

pub returns-clause-original : goal.returns-clause-original
returns-clause-original c = replace-one original c.args.frames.now.items c.args.place c.widen.new.self c.index_mut.result.now c.requires c.index_mut.ensures.value c.widen.ensures.original

pub returns-clause-outside : goal.returns-clause-outside
returns-clause-outside c = replace-one outside_at c.args.frames.now.items c.args.place c.widen.new.self c.index_mut.result.now c.requires c.index_mut.ensures.value c.widen.ensures.outside

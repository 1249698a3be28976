use Rattle.std.proofs.Common.{◌≡◌, ◌∙◌, ap, ◌++◌, ◌∷◌, [], arith, length}
use Rattle.tocmark_write_containers.proofs.Seen.{last-is, closed-by}
use Rattle.tocmark_write_containers.specs.KeptOf.{present, seen}
use Rattle.tocmark_spelling.specs.Page.{prefix_of}
use Rattle.tocmark_write_containers.specs.FrameOf.{level_of}
use Rattle.tocmark_write_containers.proofs.containers.move_last.Goals as goal

pub cut-requires : goal.cut-requires
cut-requires c =
    let m = c.shift.ensures.moved in
    let n : c.len.result ≡ length c.args.frames.now.items = grind arith in
    let same : level_of c.in_ok-copy.copy ≡ present m.0 = c.in_ok-copy.ensures ∙ ap present (last-is c.args.frames.now.items c.shift.new.frames.items c.len.result m.0 c.index.result.now n c.index.ensures m.1) in (
      prefix_of (seen present c.shift.new.frames.items),
      closed-by c.args.frames.now.items c.shift.new.frames.items m.0 c.in_ok-copy.copy _ m.1 same c.requires.joined,
    )

pub returns-clause-joined : goal.returns-clause-joined
returns-clause-joined c =
    let m = c.shift.ensures.moved in
    let n : c.len.result ≡ length c.args.frames.now.items = grind arith in
    let same : level_of c.in_ok-copy.copy ≡ present m.0 = c.in_ok-copy.ensures ∙ ap present (last-is c.args.frames.now.items c.shift.new.frames.items c.len.result m.0 c.index.result.now n c.index.ensures m.1) in
    c.cut.ensures.cut
    (prefix_of (seen present c.shift.new.frames.items))
    (closed-by c.args.frames.now.items c.shift.new.frames.items m.0 c.in_ok-copy.copy _ m.1 same c.requires.joined)

pub returns-clause-moved : goal.returns-clause-moved
returns-clause-moved c =
    let m = c.shift.ensures.moved in
    let n : c.len.result ≡ length c.args.frames.now.items = grind arith in (
      m.0,
      m.1,
      m.2 ∙ ap (λ l. l ++ m.0 ∷ []) c.in_ok-reserve.ensures.items,
      c.in_ok-copy.ensures ∙ ap present (last-is c.args.frames.now.items c.shift.new.frames.items c.len.result m.0 c.index.result.now n c.index.ensures m.1),
    )

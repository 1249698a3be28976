use Rattle.std.proofs.Common.{refl}
use Rattle.tocmark_write_containers.proofs.Seen.{closed-by}
use Rattle.tocmark_write_containers.specs.KeptOf.{present, seen}
use Rattle.tocmark_spelling.specs.Page.{prefix_of}
use Rattle.tocmark_write_containers.proofs.containers.take_last.Goals as goal

pub cut-requires : goal.cut-requires
cut-requires c = (
  prefix_of (seen present c.pop.new.self.items),
  closed-by c.args.frames.now.items c.pop.new.self.items c.in_ok-kept.kept c.in_ok-kept.kept.frame _ c.in_ok-kept.ensures.items refl c.requires.joined,
)

pub returns-clause-taken : goal.returns-clause-taken
returns-clause-taken c = (c.in_ok-kept.kept, c.in_ok-kept.ensures.items, refl)

pub returns-clause-joined : goal.returns-clause-joined
returns-clause-joined c =
    c.cut.ensures.cut
    (prefix_of (seen present c.pop.new.self.items))
    (closed-by c.args.frames.now.items c.pop.new.self.items c.in_ok-kept.kept c.in_ok-kept.kept.frame _ c.in_ok-kept.ensures.items refl c.requires.joined)

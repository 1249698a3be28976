use Rattle.tocmark_write_unit.specs.NeighboursOf.{unit_in}
use Rattle.tocmark_write_unit.proofs.turn.end_of.Goals as goal

pub returns : goal.returns
returns c = c.end_at.ensures.end (unit_in c.args.around)

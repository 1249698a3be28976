use Rattle.std.proofs.Common.{All, map, take}
use Rattle.tocmark_reader.specs.Definitions.{said_view}
use Rattle.tocmark_redefine.specs.Defined.{IsSaid}
use Rattle.tocmark_redefine.proofs.defining.first_unsaid.Given as goal

abbrev pub invariant-loop-i : goal.invariant-loop-i
invariant-loop-i l = All (IsSaid (map said_view l.olds) (map said_view l.news)) (take l.i l.all)

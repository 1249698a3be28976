use Rattle.std.proofs.Common.{All, map}
use Rattle.tocmark_reader.specs.Definitions.{said_view}
use Rattle.tocmark_redefine.specs.Defined.{IsOfGiven}
use Rattle.tocmark_redefine.proofs.defining.changes_of.Given as goal

abbrev pub invariant-loop-given : goal.invariant-loop-given
invariant-loop-given l = All (IsOfGiven (map said_view l.olds) l.all) l.changes.items

use Rattle.std.proofs.Common.{All, map}
use Rattle.tocmark_reader.specs.Definitions.{said_view}
use Rattle.tocmark_redefine.specs.Redefined.{IsAsked}
use Rattle.tocmark_redefine.proofs.redefining.all_patches.Given as goal

abbrev pub invariant-loop-change : goal.invariant-loop-change
invariant-loop-change l = All (IsAsked (map said_view l.olds) l.changes) l.patches.items

abbrev pub invariant-loop-title : goal.invariant-loop-title
invariant-loop-title l = All (IsAsked (map said_view l.olds) l.changes) l.patches.items

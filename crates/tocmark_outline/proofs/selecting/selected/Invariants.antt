use Rattle.std.proofs.Common.{◌≡◌, [], map, take}
use Rattle.std.specs.List.{fold}
use Rattle.tocmark_outline.specs.Outline.{placed, select, selection_view}
use Rattle.tocmark_outline.proofs.selecting.selected.Given as goal

abbrev pub invariant-loop-pair : goal.invariant-loop-pair
invariant-loop-pair l =
    selection_view l.selection ≡ fold (select l.wanted) ([], 0) (map placed (take l.pair-index l.events))

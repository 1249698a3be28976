use Rattle.std.proofs.Common.{◌≡◌, ◌++◌, drop, map}
use Rattle.std.specs.List.{All}
use Rattle.tocmark_read_page.specs.Definitions.{definition_view}
use Rattle.tocmark_reader.specs.Definitions.{said_from, said_view, IsWellPlaced}
use Rattle.tocmark_reader.proofs.definitions.said_all.Given as goal

abbrev pub invariant-loop-one : goal.invariant-loop-one
invariant-loop-one l =
    (map said_view l.all.items ++ said_from l.names l.text l.places l.at (map definition_view (drop l.one-index l.found))
    ≡ said_from l.names l.text l.places 0 (map definition_view l.found))
    × All (IsWellPlaced l.text) l.all.items

use Rattle.std.proofs.Common.{◌≡◌, [], take}
use Rattle.std.specs.List.{fold}
use Rattle.tocmark_reader.specs.Definitions.{place_step}
use Rattle.tocmark_reader.proofs.definitions.places_in.Given as goal

abbrev pub invariant-loop-block : goal.invariant-loop-block
invariant-loop-block l =
    (l.all.items, l.next)
    ≡ fold (place_step l.text l.found.pieces.items) ([], 0) (take l.block-index l.found.blocks.items)

use Rattle.std.proofs.Common.{◌∙◌, ap, map, sym}
use mathlib.Core.List.{map-map}
use Rattle.tocmark_reader.specs.Definitions.{said_view}
use Rattle.tocmark_judge.specs.LinkDefinitions.{unplaced}
use Rattle.tocmark_judge.proofs.parts.ExtendedReaderPartReader.read_parts.Goals as goal

pub returns-clause-definitions : goal.returns-clause-definitions
returns-clause-definitions g c =
    let all = c.in_ok-blocks.definitions in
    sym (map-map unplaced said_view all.items) ∙ ap (map unplaced) c.in_ok-blocks.ensures.definitions

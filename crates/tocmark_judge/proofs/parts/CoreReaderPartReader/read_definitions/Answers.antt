use Rattle.std.proofs.Common.{◌∙◌, ap, map, sym}
use Rattle.std.proofs.lemmas.Result.{IfOk-weaker}
use mathlib.Core.List.{map-map}
use Rattle.tocmark_reader.specs.Definitions.{said_view}
use Rattle.tocmark_judge.specs.LinkDefinitions.{unplaced}
use Rattle.tocmark_judge.proofs.parts.CoreReaderPartReader.read_definitions.Goals as goal

pub returns : goal.returns
returns c =
    IfOk-weaker c.find_definitions.result _ _
    (λ all h. sym (map-map unplaced said_view all.items) ∙ ap (map unplaced) h)
    c.find_definitions.ensures.exact

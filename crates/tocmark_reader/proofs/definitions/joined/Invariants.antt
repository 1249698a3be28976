use Rattle.std.proofs.Common.{◌≡◌, take}
use Rattle.std.specs.List.{flat_map}
use Rattle.tocmark_read_page.specs.Definitions.{joined}
use Rattle.tocmark_reader.specs.Definitions.{line_places}
use Rattle.tocmark_reader.proofs.definitions.joined.Given as goal

abbrev pub invariant-loop-line : goal.invariant-loop-line
invariant-loop-line l =
    (l.all.bytes.items ≡ joined l.text (take l.line-index l.lines))
    × (l.all.places.items ≡ flat_map (line_places l.text) (take l.line-index l.lines))

use Rattle.std.proofs.Common.{◌≡◌, take, map}
use Rattle.tocmark_read_page.specs.Definitions.{definition_view}
use Rattle.tocmark_read_spans.specs.Definitions.{collected_view}
use Rattle.tocmark_reader.specs.Reading.{collected_in}
use Rattle.tocmark_reader.proofs.reader.collect.Given as goal

abbrev pub invariant-loop-found : goal.invariant-loop-found
invariant-loop-found l = collected_view l.collected ≡ collected_in l.names (map definition_view (take l.found-index l.all))

use Rattle.std.proofs.Common.{◌<◌, ◌^◌, length, arith}
use Rattle.tocmark_reader.proofs.PlainTests.{plain_found}
use Rattle.tocmark_event.specs.Reading.{reading_view}
use Rattle.tocmark_reader.proofs.reader.CoreReaderReader.read.Goals as goal

pub returns-clause-plain : goal.returns-clause-plain
returns-clause-plain c = λ l ms h e.
    let fits : length c.args.text.now < 2 ^ 64 = omega arith in
    plain_found c.args.text.now l ms (reading_view c.in_ok-found.found) c.in_ok-found.ensures fits h e

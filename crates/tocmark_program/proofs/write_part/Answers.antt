use Rattle.std.proofs.Common.{ℕ, List}
use Rattle.tocmark_event.specs.Reading.{reading_view}
use Rattle.tocmark_program.specs.Program.{as_pairs}
use Rattle.tocmark_program.specs.declared.arguments.Spelling.TheVariants.{Escaped, FromSource}
use Rattle.tocmark_program.proofs.Written.{one_more}
use Rattle.tocmark_program.proofs.write_part.Goals as goal

pub returns-in-Escaped : goal.returns-in-Escaped
returns-in-Escaped c done h =
    let more = as_pairs Escaped (reading_view c.args.part).events in
    rw c.in-Escaped.is
    (one_more c.args.text.now c.args.state.now c.process_reading.new.self c.args.output.now c.process_reading.new.writer c.process_reading.result done more
    h c.process_reading.ensures.stands c.process_reading.ensures.same (c.process_reading.ensures.active (record { 0 = 0 }) c.args.text.now done h.stands))

pub returns-in-FromSource : goal.returns-in-FromSource
returns-in-FromSource c done h =
    let more = as_pairs FromSource (reading_view c.args.part).events in
    rw c.in-FromSource.is
    (one_more c.args.text.now c.args.state.now c.process_reading_with_source_range.new.self c.args.output.now c.process_reading_with_source_range.new.writer c.process_reading_with_source_range.result done more
    h c.process_reading_with_source_range.ensures.stands c.process_reading_with_source_range.ensures.same (c.process_reading_with_source_range.ensures.active (record { 0 = 0 }) done h.stands))

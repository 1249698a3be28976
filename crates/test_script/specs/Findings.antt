-- What is known of a unit that is tried.
use Rattle.test_script.specs.declared.unit.Unit.{Unit}
use Rattle.tocmark_event.specs.Options.{options_view}
use Rattle.tocmark_reader.specs.Reading.{core_reading}
use Rattle.tocmark_write_unit.specs.FindingsOf.{AreFindings}

-- the findings are those over the unit's events, with the core reader
abbrev pub HasFindings : Unit → Type 0
HasFindings u = AreFindings (λ text _. core_reading text) (options_view u.options.now) u.flags u.known.pending.now.events u.known.found.now

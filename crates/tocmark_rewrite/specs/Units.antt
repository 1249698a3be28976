-- What the writer reads units back as.
use Rattle.std.specs.Prelude.{ℕ, List, Option, Some, None}
use Rattle.tocmark_event.specs.Reading.{ReadingView}
use Rattle.tocmark_event.specs.declared.event.flags.ParserOptions.{ParserOptions}
use Rattle.tocmark_reader.specs.Flags.{unit_syntax_of}
use Rattle.tocmark_reader.specs.Reading.{reading_of}
use Rattle.tocmark_reader.specs.declared.unit_reader.UnitReader.{UnitReader}

-- the reading of a reader of units, if there is one, or else that of the reader of documents
abbrev pub unit_reading : {R : Type 0} → (R → List ℕ → ParserOptions → ReadingView) → Option UnitReader → R → List ℕ → ParserOptions → ReadingView
unit_reading reading None reader text flags = reading reader text flags
unit_reading reading (Some units) reader text flags = reading_of (unit_syntax_of units.names flags) text

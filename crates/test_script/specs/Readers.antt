-- What the reader of a script reads a text as.
use Rattle.std.specs.Prelude.{ℕ, List, [], ◌∷◌, ◌++◌, map, string_bytes}
use Rattle.std.specs.Option.{unwrap_or}
use Rattle.std.specs.HashMap.{get_by_text}
use Rattle.tocmark_event.specs.Text.{ParserEvent, text_of}
use Rattle.tocmark_event.specs.View.{EventView, event_view}
use Rattle.tocmark_event.specs.Reading.{ReadingView}
use Rattle.tocmark_event.specs.declared.event.flags.ParserOptions.{ParserOptions}
use Rattle.tocmark_reader.specs.Reading.{core_reading, reading_of}
use Rattle.tocmark_reader.specs.Flags.{syntax_of}
use Rattle.tocmark_read_scan.specs.declared.syntax.Names.TheVariants.{All}
use Rattle.test_script.specs.declared.readers.Table.{Table as ReadingTable}
use Rattle.test_script.specs.declared.readers.ScriptReader.{ScriptReader}
use Rattle.test_script.specs.declared.readers.ScriptReader.TheVariants.{Core, Labelled, Table, Extended}

-- an event with its range, as a plain value
abbrev pub ranged_view : ParserEvent × (ℕ × ℕ) → EventView × (ℕ × ℕ)
ranged_view e = (event_view text_of e.0, e.1)

-- the events that a table has for a text, or those for any other text
abbrev pub table_events : ReadingTable → List ℕ → List (ParserEvent × (ℕ × ℕ))
table_events t text = (unwrap_or (get_by_text t.readings text) t.otherwise).items

-- these events, without labels
abbrev pub table_reading : ReadingTable → List ℕ → ReadingView
table_reading t text = record {
  events = map ranged_view (table_events t text);
  defined = [];
  unresolved = [];
}

-- the core reader's reading, with one label more that was looked up in vain
abbrev pub labelled_reading : List ℕ → List ℕ → ReadingView
labelled_reading label text = let found = core_reading text in record {
  events = found.events;
  defined = found.defined;
  unresolved = found.unresolved ++ (label ∷ []);
}

-- the core reader's reading, with its label or without, the table's, which depend on the text alone, or that with the
-- extensions that the flags name
abbrev pub script_reading : ScriptReader → List ℕ → ParserOptions → ReadingView
script_reading Core text flags = core_reading text
script_reading (Labelled l) text flags = labelled_reading (string_bytes l) text
script_reading (Table t) text flags = table_reading t text
script_reading Extended text flags = reading_of (syntax_of All flags) text

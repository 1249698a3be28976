-- What is read, as the bytes of which Python makes it.
use Rattle.std.specs.Prelude.{ℕ, List}
use Rattle.tocmark_event.specs.declared.event.flags.ParserOptions.{ParserOptions}
use Rattle.tocmark_json.specs.Marshal.{events_bytes}
use Rattle.tocmark_marked.specs.Marked.{marked_reading}

-- the bytes of what is read in a text under these flags
abbrev pub reading_bytes : ParserOptions → List ℕ → List ℕ
reading_bytes flags text = events_bytes (marked_reading flags text).events

-- What is read in a text that may begin with a byte order mark, which is no text.
use Rattle.std.specs.Prelude.{ℕ, List, Bool, true, false, map}
use Rattle.tocmark_event.specs.Reading.{ReadingView}
use Rattle.tocmark_event.specs.Text.{ParserEvent}
use Rattle.tocmark_event.specs.View.{EventView}
use Rattle.tocmark_event.specs.declared.event.flags.ParserOptions.{ParserOptions}
use Rattle.tocmark_judge.specs.Marks.{after_mark, has_mark}
use Rattle.tocmark_read_scan.specs.Basic.{plus}
use Rattle.tocmark_read_scan.specs.declared.syntax.Names.TheVariants.{All}
use Rattle.tocmark_reader.specs.Definitions.{SaidDefinition, definitions_of}
use Rattle.tocmark_reader.specs.Flags.{syntax_of}
use Rattle.tocmark_reader.specs.Left.{reading_left}
use Rattle.tocmark_reader.specs.Reading.{reading_of}
use Rattle.tocmark_reader.specs.declared.definitions.DefinitionPlace.{DefinitionPlace}
use Rattle.tocmark_reader.specs.declared.definitions.ReferenceDefinition.{ReferenceDefinition}
use Rattle.tocmark_marked.specs.declared.blocks.MarkedBlocks.{MarkedBlocks}

-- a range of what follows the three bytes of a mark, in the whole text
abbrev pub later : ℕ × ℕ → ℕ × ℕ
later range = (plus range.0 3, plus range.1 3)

-- an event of what follows a mark, with its range in the whole text
abbrev pub later_event : EventView × (ℕ × ℕ) → EventView × (ℕ × ℕ)
later_event e = (e.0, later e.1)

-- what is read after a mark, with its ranges in the whole text
abbrev pub later_reading : ReadingView → ReadingView
later_reading r = record { events = map later_event r.events; defined = r.defined; unresolved = r.unresolved }

-- what is read after a mark, if there is one, with its ranges in the whole text
abbrev pub in_whole : Bool → ReadingView → ReadingView
in_whole true r = later_reading r
in_whole false r = r

-- what the reader of extensions finds in a text under these flags: it reads what follows the mark
abbrev pub marked_reading : ParserOptions → List ℕ → ReadingView
marked_reading flags text = in_whole (has_mark text) (reading_of (syntax_of All flags) (after_mark text))

-- the place of a definition in the whole text
abbrev pub later_place : DefinitionPlace → DefinitionPlace
later_place p = record { whole = later p.whole; destination = later p.destination; title = later p.title }

-- a definition of what follows a mark, with its place in the whole text
abbrev pub later_definition : SaidDefinition → SaidDefinition
later_definition d = record { label = d.label; destination = d.destination; title = d.title; place = later_place d.place }

-- definitions of what follows a mark, if there is one, with their places in the whole text
abbrev pub definitions_in_whole : Bool → List SaidDefinition → List SaidDefinition
definitions_in_whole true ds = map later_definition ds
definitions_in_whole false ds = ds

-- the definitions of links that it finds
abbrev pub marked_definitions : ParserOptions → List ℕ → List SaidDefinition
marked_definitions flags text = definitions_in_whole (has_mark text) (definitions_of (syntax_of All flags) (after_mark text))

-- what isn't handed out yet of a reading
abbrev pub blocks_left : MarkedBlocks → ReadingView
blocks_left b = in_whole b.is_marked (reading_left b.rest)

-- ---- as they are kept

-- an event with its range in the whole text
abbrev pub with_later_range : ParserEvent × (ℕ × ℕ) → ParserEvent × (ℕ × ℕ)
with_later_range e = (e.0, later e.1)

-- a definition with its place in the whole text
abbrev pub with_later_place : ReferenceDefinition → ReferenceDefinition
with_later_place d = record { label = d.label; destination = d.destination; title = d.title; place = later_place d.place }

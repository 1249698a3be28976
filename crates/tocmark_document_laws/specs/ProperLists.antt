-- Lists of events that the writer never refuses as unexpected.
use Rattle.std.specs.Prelude.{◌≡◌, ◌≢◌, ℕ, ◌^◌, ◌<◌, List, [], ◌∷◌, ◌++◌, None, Err, length, map}
use Rattle.std.specs.List.{AllByRecursion}
use Rattle.tocmark_event.specs.Forest.{IsBalanced}
use Rattle.tocmark_event.specs.Options.{OptionsView}
use Rattle.tocmark_event.specs.Reading.{ReadingView}
use Rattle.tocmark_event.specs.View.{EventView, Start, End, Item, Heading}
use Rattle.tocmark_event.specs.declared.event.HeadingLevel.TheVariants.{H1, H2}
use Rattle.tocmark_event.specs.declared.event.TagEnd.TheVariants as end
use Rattle.tocmark_event.specs.declared.event.flags.ParserOptions.{ParserOptions}
use Rattle.tocmark_event.specs.declared.options.Error.TheVariants.{UnexpectedEvent}
use Rattle.tocmark_read_scan.specs.declared.syntax.TheConstants.{CORE}
use Rattle.tocmark_read_blocks.specs.Blocks.{blocks_in}
use Rattle.tocmark_reader.specs.Reading.{core_reading}
use Rattle.tocmark_text_laws.specs.Proper.{IsCounted, NoneIsMisplaced}
use Rattle.tocmark_state.specs.Ranges.{Pair, unranged}
use Rattle.tocmark_state.specs.Walk.{nothing_yet, script, walk}
use Rattle.tocmark_state.specs.WorkView.{rendering}

-- each container is ended, the innermost first, and none begins where it is refused
pub record IsProper (es : List EventView) : Type 0 where
  pub balanced : IsBalanced es
  pub placed : NoneIsMisplaced [] es

-- the events of pairs
abbrev pub events_of : List Pair → List EventView
events_of p = map (λ x. x.0) p

-- a new state never refuses these pairs as unexpected, and no front of them, whatever their ranges are
pub record AreExpected (options : OptionsView) (reading : List ℕ → ParserOptions → ReadingView) (flags : ParserOptions) (source : List ℕ) (p : List Pair) : Type 0 where
  pub whole : (script (rendering options reading) source (nothing_yet flags) p).outcome ≢ Err UnexpectedEvent
  pub fronts : (front rest : List Pair) → p ≡ front ++ rest → (walk (rendering options reading) source (nothing_yet flags) front).outcome ≢ Err UnexpectedEvent

-- so it is with proper events, under all options, over every reader
abbrev pub ProperListsAreExpected : Type 0
ProperListsAreExpected = (options : OptionsView) (reading : List ℕ → ParserOptions → ReadingView) (flags : ParserOptions) (source : List ℕ) (p : List Pair)
    → IsProper (events_of p) → AreExpected options reading flags source p

-- so it is with what `CoreReader` reads of each text
abbrev pub ReadingsAreExpected : Type 0
ReadingsAreExpected = (options : OptionsView) (reading : List ℕ → ParserOptions → ReadingView) (flags : ParserOptions) (source text : List ℕ) (p : List Pair)
    → AllByRecursion (IsCounted text (blocks_in CORE text).pieces) (blocks_in CORE text).blocks → events_of p ≡ map (λ e. e.0) (core_reading text).events
    → AreExpected options reading flags source p

-- and with that of each text of fewer than 2^30 bytes
abbrev pub ShortReadingsAreExpected : Type 0
ShortReadingsAreExpected = (options : OptionsView) (reading : List ℕ → ParserOptions → ReadingView) (flags : ParserOptions) (source text : List ℕ) (p : List Pair)
    → length text < 2 ^ 30 → events_of p ≡ map (λ e. e.0) (core_reading text).events → AreExpected options reading flags source p

-- an item in no list, and a heading in a heading
abbrev pub lone_item : List EventView
lone_item = Start Item ∷ End end.Item ∷ []

abbrev pub inner_heading : List EventView
inner_heading = Start (Heading H1 None [] []) ∷ Start (Heading H2 None [] []) ∷ End (end.Heading H2) ∷ End (end.Heading H1) ∷ []

-- these are refused as unexpected
abbrev pub SomeListsAreUnexpected : Type 0
SomeListsAreUnexpected = (options : OptionsView) (reading : List ℕ → ParserOptions → ReadingView) (flags : ParserOptions) (source : List ℕ)
    → ((script (rendering options reading) source (nothing_yet flags) (map unranged lone_item)).outcome ≡ Err UnexpectedEvent)
    × ((script (rendering options reading) source (nothing_yet flags) (map unranged inner_heading)).outcome ≡ Err UnexpectedEvent)

-- What a text says, but for what may differ.
use Rattle.std.specs.Prelude.{ℕ, Bool, true, false, ◌≡◌, List, [], ◌++◌, map}
use Rattle.tocmark_event.specs.Merged.{merged}
use Rattle.tocmark_event.specs.Reading.{ReadingView}
use Rattle.tocmark_event.specs.View.{Link, EventView, Start}
use Rattle.tocmark_event.specs.declared.event.LinkType.TheVariants as link
use Rattle.tocmark_event.specs.declared.event.flags.ParserOptions.{ParserOptions}
use Rattle.tocmark_compare.specs.Given.{found_events}
use Rattle.tocmark_judge.specs.Letters.{letters}
use Rattle.tocmark_judge.specs.LinkDefinitions.{DefinedLink}
use Rattle.tocmark_judge.specs.Marks.{after_mark}
use Rattle.tocmark_judge.specs.Same.{counted}
use Rattle.tocmark_differences.specs.Erased.{erased}
use Rattle.tocmark_differences.specs.declared.allowed.Allowed.{Allowed}
use Rattle.tocmark_differences.specs.declared.erase.Within.TheVariants as within

-- a link definition as the start of a link
abbrev pub definition_event : DefinedLink → EventView
definition_event d = Start (Link link.Reference d.destination d.title d.label)

-- the link definitions, unless they may differ
abbrev pub definition_events : Bool → List DefinedLink → List EventView
definition_events true ds = []
definition_events false ds = map definition_event ds

-- the events that a reader finds, and then the link definitions, without what may differ; each longest stretch of texts is one
abbrev pub remaining_events : Allowed → ReadingView → List DefinedLink → List EventView
remaining_events a found ds =
    merged (erased a within.Prose (counted a.wrap (found_events found) ++ definition_events a.definitions ds))

-- what a reader finds in a text; a byte order mark at its front is no text
abbrev pub remaining_events_of : Allowed → ParserOptions → (List ℕ → ParserOptions → ReadingView) → (List ℕ → ParserOptions → List DefinedLink) → List ℕ → List EventView
remaining_events_of a flags reading definitions text =
    remaining_events a (reading (after_mark text) flags) (definitions (after_mark text) flags)

-- two texts say the same but for what may differ
abbrev pub SayTheSame : Allowed → ParserOptions → (List ℕ → ParserOptions → ReadingView) → (List ℕ → ParserOptions → List DefinedLink) → List ℕ → List ℕ → Type 0
SayTheSame a flags reading definitions old new =
    remaining_events_of a flags reading definitions old ≡ remaining_events_of a flags reading definitions new

-- two texts have the same letters in the same order, whatever a reader finds
abbrev pub HaveSameLetters : List ℕ → List ℕ → Type 0
HaveSameLetters old new = letters (after_mark old) ≡ letters (after_mark new)

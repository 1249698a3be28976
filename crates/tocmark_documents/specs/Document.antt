-- When a written document says what its events say.
use Rattle.std.specs.Prelude.{◌≡◌, ◌+◌, ◌<◌, ◌&&◌, ℕ, List, ◌∷◌, Bool, false, drop, length, map}
use Rattle.std.specs.List.{common_prefix_len}
use Rattle.tocmark_marked.specs.Marked.{marked_reading}
use Rattle.tocmark_event.specs.Merged.{merged}
use Rattle.tocmark_event.specs.Options.{OptionsView}
use Rattle.tocmark_event.specs.View.{EventView}
use Rattle.tocmark_event.specs.declared.event.flags.ParserOptions.{ParserOptions}
use Rattle.tocmark_documents.specs.Interchange.{IsCause, IsTextOf, IsWritten, in_source}
use Rattle.tocmark_documents.specs.declared.fault.DocumentError.{DocumentError}
use Rattle.tocmark_documents.specs.declared.fault.DocumentError.TheVariants as document_error
use Rattle.tocmark_spelling.specs.Kinds.{is_text}
use Rattle.tocmark_spelling.specs.SameEvents.{same_event}
use Rattle.tocmark_state.specs.Ranges.{Pair}

-- the events that are read in a text under these flags
abbrev pub events_read : ParserOptions → List ℕ → List EventView
events_read flags text = map (λ e. e.0) (marked_reading flags text).events

-- the events without their ranges
abbrev pub without_range : List Pair → List EventView
without_range = map (λ p. p.0)

-- in a text just these events are found, on either side with each longest stretch of texts as one
abbrev pub IsFoundIn : ParserOptions → List ℕ → List Pair → Type 0
IsFoundIn flags text pairs = merged (events_read flags text) ≡ merged (without_range pairs)

-- the events that a text has as JSON, written over the source, if there is one, are this text, and are found in it
pub record IsWrittenTheSame (options : OptionsView) (flags : ParserOptions) (has_source : Bool) (source input output : List ℕ) : Type 0 where
  pub pairs : List Pair
  pub is_text : IsTextOf input pairs
  pub is_written : IsWritten options flags source (in_source has_source pairs) output
  pub is_found : IsFoundIn flags output pairs

-- an event's place in a list is the first one that has this many stretches before it, where each longest stretch of texts
-- is one: so many fewer are left from there on, and more from any place before
pub record IsFirstBehind (stretches : ℕ) (es : List EventView) (place : ℕ) : Type 0 where
  pub behind : length (merged (drop place es)) + stretches ≡ length (merged es)
  pub first : (before : ℕ) → before < place → length (merged es) < length (merged (drop before es)) + stretches

-- whether the first two events are in one stretch: whether both are texts
abbrev pub goes_on : List EventView → Bool
goes_on (a ∷ b ∷ es) = is_text a && is_text b
goes_on es = false

-- how many stretches both lists begin with
abbrev pub shared : List EventView → List EventView → ℕ
shared = common_prefix_len same_event

-- the place of the first event that isn't found again: the first one after all that both lists begin with
abbrev pub IsFirstLost : List EventView → List EventView → ℕ → Type 0
IsFirstLost found given place = IsFirstBehind (shared (merged found) (merged given)) given place

-- the events that a text has as JSON, written over the source, are a text in which others are found, and the given one at
-- this place is the first that isn't
pub record IsChange (options : OptionsView) (flags : ParserOptions) (has_source : Bool) (source input : List ℕ) (place : ℕ) : Type 0 where
  pub pairs : List Pair
  pub output : List ℕ
  pub is_text : IsTextOf input pairs
  pub is_written : IsWritten options flags source (in_source has_source pairs) output
  pub is_lost : ¬ (IsFoundIn flags output pairs)
  pub is_first : IsFirstLost (events_read flags output) (without_range pairs) place

-- why no document is written
abbrev pub IsDocumentCause : OptionsView → ParserOptions → Bool → List ℕ → List ℕ → DocumentError → Type 0
IsDocumentCause options flags has_source source input (document_error.Write e) = IsCause options flags has_source source input e
IsDocumentCause options flags has_source source input (document_error.Changed n) = IsChange options flags has_source source input n

-- Edited events, and what is written for them.
use Rattle.std.specs.Prelude.{◌≡◌, ℕ, List, Option, map, string_bytes}
use Rattle.std.specs.Borrow.{Bor}
use Rattle.std.specs.List.{All}
use Rattle.tocmark_event.specs.Merged.{merged}
use Rattle.tocmark_event.specs.Reading.{ReadingView}
use Rattle.tocmark_event.specs.Text.{ParserEvent, text_of}
use Rattle.tocmark_event.specs.View.{EventView, event_view}
use Rattle.tocmark_compare.specs.Given.{found_events}
use Rattle.tocmark_rewrite.specs.Kept.{IsTold, ReadSource, span_of}
use Rattle.tocmark_rewrite.specs.Labels.{AreAmong}
use Rattle.tocmark_rewrite.specs.Parts.{IsMadeOf}
use Rattle.tocmark_rewrite.specs.Trees.{ranges_of, spans_of}
use Rattle.tocmark_rewrite.specs.declared.answer.Rewritten.{Rewritten}
use Rattle.tocmark_rewrite.specs.declared.fault.Fault.{Fault}
use Rattle.tocmark_rewrite.specs.declared.fault.Fault.TheVariants as fault
use Rattle.tocmark_rewrite.specs.declared.output.Part.{Part}

-- the events of pairs
abbrev pub edited_events : List (Bor ParserEvent × Option (ℕ × ℕ)) → List EventView
edited_events = map (λ x. event_view text_of x.0.now)

-- a source as it is read
abbrev pub read_source : (List ℕ → ReadingView) → List ℕ → ReadSource
read_source reading source = record { source = source; found = found_events (reading source); ranges = ranges_of (reading source).events }

-- a text says what these events do, and defines these labels: it is read as the events, if on either side each longest stretch
-- of texts is one
pub record SaysSame (reading : List ℕ → ReadingView) (known : List (List ℕ)) (given : List EventView) (text : List ℕ) : Type 0 where
  pub same : merged (found_events (reading text)) ≡ merged given
  pub labels : AreAmong known (reading text).defined

-- an answer for events that were given: it is read as they are, and defines the labels of the source; if they are those of the
-- source, it is the source; its trees are those of the events, one for one; and what is said of a tree that was kept is so
pub record IsWrittenFor (reading : List ℕ → ReadingView) (source : List ℕ) (given : List EventView) (answer : Rewritten) : Type 0 where
  pub same : merged (found_events (reading (string_bytes answer.text))) ≡ merged given
  pub labels : AreAmong (reading source).defined (reading (string_bytes answer.text)).defined
  pub unchanged : merged given ≡ merged (found_events (reading source)) → string_bytes answer.text ≡ source
  pub trees : map span_of answer.trees.items ≡ spans_of given
  pub kept : All (IsTold (read_source reading source) given answer.parts.items) answer.trees.items

-- the events that were given aren't those of the source
abbrev pub IsChanged : (List ℕ → ReadingView) → List ℕ → List EventView → Type 0
IsChanged reading source given = ¬ (merged given ≡ merged (found_events (reading source)))

-- a text of slices of the source and written texts was tried, and doesn't say what the events do
pub record IsTriedInVain (reading : List ℕ → ReadingView) (labels : List (List ℕ)) (source : List ℕ) (given : List EventView) : Type 0 where
  pub text : List ℕ
  pub parts : List Part
  pub made : IsMadeOf source text parts
  pub otherwise : ¬ (SaysSame reading labels given text)

-- a text is said to be read otherwise only if one was tried
abbrev pub IsVain : (List ℕ → ReadingView) → List (List ℕ) → List ℕ → List EventView → Fault → Type 0
IsVain reading labels source given fault.OutOfMemory = Unit {0}
IsVain reading labels source given (fault.Refused place error) = Unit {0}
IsVain reading labels source given (fault.ReadOtherwise place) = IsTriedInVain reading labels source given

-- a fault has its cause: events that are those of the source are never refused, and a text was tried in vain
abbrev pub HasItsCause : (List ℕ → ReadingView) → List ℕ → List EventView → Fault → Type 0
HasItsCause reading source given fault.OutOfMemory = Unit {0}
HasItsCause reading source given (fault.Refused place error) = IsChanged reading source given
HasItsCause reading source given (fault.ReadOtherwise place) =
    IsChanged reading source given × IsTriedInVain reading (reading source).defined source given

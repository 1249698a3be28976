-- How what a reader found is compared with events that aren't joined yet, one text after the other.
use Rattle.std.specs.Prelude.{ℕ, Bool, true, false, Option, Some, None, IsSome, List, [], ◌∷◌, ◌++◌, drop, map, string_bytes}
use Rattle.tocmark_event.specs.Merged.{after_text, merged}
use Rattle.tocmark_event.specs.View.{EventView, Leaf, Text, event_view}
use Rattle.tocmark_spelling.specs.Buffered.{event_of}
use Rattle.tocmark_spelling.specs.SameEvents.{same_events}
use Rattle.tocmark_compare.specs.declared.alike.Expected.{Expected}
use Rattle.tocmark_compare.specs.declared.alike.Step.{Step}
use Rattle.tocmark_compare.specs.declared.alike.Step.TheVariants as step

-- both lists are the same, each stretch of texts as one; if a stretch is begun, a text is before both
abbrev pub alike : Bool → List EventView → List EventView → Bool
alike true xs ys = same_events (after_text [] (merged xs)) (after_text [] (merged ys))
alike false xs ys = same_events (merged xs) (merged ys)

-- the first event
abbrev pub first : List EventView → Option EventView
first [] = None
first (e ∷ es) = Some e

-- the event without so many bytes of its text
abbrev pub shortened : ℕ → EventView → EventView
shortened n (Leaf (Text t)) = Leaf (Text (drop n t))
shortened n e = e

-- the events without so many bytes of the text that comes first
abbrev pub cut : ℕ → List EventView → List EventView
cut n [] = []
cut n (e ∷ es) = shortened n e ∷ es

-- the text of an event; none for another event
abbrev pub text_in : Option EventView → Option (List ℕ)
text_in (Some (Leaf (Text t))) = Some t
text_in e = None

-- the events that must be read: those of a body, and those after it
abbrev pub expected_view : Expected → List EventView
expected_view e = map event_of e.body.now ++ map (event_view string_bytes) e.behind.now

-- what is still to be compared after a step
abbrev pub onward : Step → List EventView → List EventView → Bool
onward (step.Over same) xs ys = same
onward (step.Found read) xs ys = alike true (drop 1 xs) (cut read ys)
onward (step.Expected read) xs ys = alike true (cut read xs) (drop 1 ys)
onward step.Both xs ys = alike false (drop 1 xs) (drop 1 ys)

-- an event that a step passes is there
abbrev pub Passes : Step → Option EventView → Option EventView → Type 0
Passes (step.Over same) x y = Unit {0}
Passes (step.Found read) x y = IsSome x
Passes (step.Expected read) x y = IsSome y
Passes step.Both x y = IsSome x × IsSome y

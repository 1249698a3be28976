-- What a state makes of its events, as plain values.
use Rattle.std.specs.Prelude.{◌≡◌, ℕ, ◌-◌, ◌^◌, min, List, length, map, sum_by, IfOk, Result, Ok, Err, Option, None, string_bytes, String}
use Rattle.std.specs.Borrow.{Bor}
use Rattle.std.specs.Global.{Global}
use Rattle.tocmark_event.specs.Options.{OptionsView, options_view}
use Rattle.tocmark_event.specs.Reading.{ReadingView}
use Rattle.tocmark_event.specs.Text.{ParserEvent, text_of}
use Rattle.tocmark_event.specs.View.{EventView, SourcedEvent, event_view}
use Rattle.tocmark_event.specs.declared.event.flags.ParserOptions.{ParserOptions}
use Rattle.tocmark_event.specs.declared.options.Error.{Error}
use Rattle.tocmark_spelling.specs.Buffered.{sourced}
use Rattle.tocmark_spelling.specs.PlanOf.{setting_of}
use Rattle.tocmark_spelling.specs.Page.{Reference}
use Rattle.tocmark_write_renderer.specs.WriterOf.{reference_view}
use Rattle.tocmark_write_labels.specs.Defined.{behind, undefined}
use Rattle.tocmark_write_labels.specs.Definitions.{definitions_text}
use Rattle.tocmark_write_labels.specs.Document.{DocumentView}
use Rattle.tocmark_choose.specs.TrialOf.{Refuses}
use Rattle.tocmark_choose.specs.DocumentOf.{document_view, document_flags}
use Rattle.tocmark_write_labels.specs.Ending.{holds_raw_block}
use Rattle.tocmark_choose.specs.Chosen.{chosen}
use Rattle.tocmark_write_pending.specs.Pending.{text_now}
use Rattle.tocmark_write_pending.specs.Units.{waits}
use Rattle.tocmark_choose.specs.declared.document.Document.{Document}
use Rattle.tocmark_choose.specs.declared.tools.Tools.{Tools}
use Rattle.tocmark_state.specs.declared.work.Progress.{Progress}
use Rattle.tocmark_state.specs.declared.work.Work.{Work}
use Rattle.tocmark_state.specs.Ranges.{Pair, Range, unranged}
use Rattle.tocmark_state.specs.Walk.{Kept, Rendering, Standing, Walk}

-- a call that left y where it succeeded
abbrev pub Answers : {X Y : Type 0} → Result X Error → Y → Result Y Error → Type 0
Answers (Ok x) y answer = answer ≡ Ok y
Answers (Err e) y answer = Refuses e answer

-- the flags stay with the document
abbrev pub keeping : ParserOptions → Result (List ℕ × DocumentView) Error → Result (List ℕ × Kept) Error
keeping flags (Ok x) = Ok (x.0, record { flags = flags; document = x.1 })
keeping flags (Err e) = Err e

-- how units are written with these options and a reader with these readings
abbrev pub rendering : OptionsView → (List ℕ → ParserOptions → ReadingView) → Rendering
rendering options reading = record {
  choice = λ kept unit next. keeping kept.flags (chosen (setting_of options kept.flags reading None) kept.document unit next);
  waits = waits;
  definitions = λ kept. definitions_text kept.document.references kept.document.feeds;
  holds_raw = holds_raw_block;
}

-- a document with its flags, after which a unit is written where it has these definitions already
abbrev pub kept_behind : List Reference → Kept → Kept
kept_behind defined kept = record kept { document = behind defined kept.document }

-- how units are written where a document has these definitions already: their labels are known to the first unit, and so to
-- all, and the definitions that are left at the end are those of references that they don't define; all else is as without them
abbrev pub rendering_behind : List Reference → OptionsView → (List ℕ → ParserOptions → ReadingView) → Rendering
rendering_behind defined options reading = record (rendering options reading) {
  choice = λ kept unit next. (rendering options reading).choice (kept_behind defined kept) unit next;
  definitions = λ kept. definitions_text (undefined defined kept.document.references) kept.document.feeds;
}

-- a document with its flags
abbrev pub kept_of : Document → Kept
kept_of d = record { flags = document_flags d; document = document_view d }

-- where a state's events are
abbrev pub standing_of : Work → Standing
standing_of w = record {
  pending = w.pending.events;
  open_tags = w.pending.open_tags;
  document = kept_of w.document;
  range_end = w.range_end;
  is_deferred = w.is_deferred;
}

-- the flags for which events are written
abbrev pub flags_of : Work → ParserOptions
flags_of w = (standing_of w).document.flags

-- a call that wrote a unit answered its text and left this document, or refused the unit as the choice does
abbrev pub Chooses : Result (String Global) Error → Kept → Result (List ℕ × Kept) Error → Type 0
Chooses (Ok text) kept choice = choice ≡ Ok (string_bytes text, kept)
Chooses (Err e) kept choice = Refuses e choice

-- how units are written in a call
abbrev pub rendering_with : {R : Type 0} → (R → List ℕ → ParserOptions → ReadingView) → Tools R → Rendering
rendering_with reading t = rendering_behind (map reference_view t.defined.now) (options_view t.options) (reading t.reader.now)

-- events as pairs without ranges
abbrev pub pairs : List (Bor ParserEvent) → List Pair
pairs xs = map (λ x. unranged (event_view text_of x.now)) xs

-- an event with its range
abbrev pub ranged_pair : Bor ParserEvent × Option Range → Pair
ranged_pair x = (event_view text_of x.0.now, x.1)

-- events with their ranges
abbrev pub ranged_pairs : List (Bor ParserEvent × Option Range) → List Pair
ranged_pairs xs = map ranged_pair xs

-- events in any form that they come in, with their ranges
abbrev pub incoming_pairs : {E : Type 0} → (E → EventView) → List (E × Option Range) → List Pair
incoming_pairs event xs = map (λ x. (event x.0, x.1)) xs

-- an event with this spelling in the source, and the end of the last range
abbrev pub ResolvedAs : EventView → Result (Option (Bor (List ℕ)) × ℕ) Error → Result (SourcedEvent × ℕ) Error → Type 0
ResolvedAs e (Ok x) answer = answer ≡ Ok (sourced e (text_now x.0), x.1)
ResolvedAs e (Err x) answer = Refuses x answer

-- a count stops at the greatest number of its type
abbrev pub at_most : ℕ → ℕ
at_most n = min n (2 ^ 64 - 1)

-- what a call counts: its events, and the bytes that it handed
pub record Counts (p : Progress) (events bytes : ℕ) : Type 0 where
  pub events_consumed : p.events_consumed ≡ at_most events
  pub bytes_written : p.bytes_written ≡ at_most bytes

-- what a call that answers at all counts: its events, and the bytes of the texts of this walk
abbrev pub CountsIn : {S : Type 0} → Result Progress Error → ℕ → Walk S → Type 0
CountsIn r events walk = IfOk r (λ p. Counts p events (sum_by length walk.texts))

-- nothing is known of what a writer refuses
abbrev pub unknown : {W : Type 0} → W → List ℕ → W → Type 0
unknown w text v = Unit {0}

-- What a list of events comes to: the texts of its units, and where it is after them.
use Rattle.std.specs.Prelude.{ℕ, List, [], ◌∷◌, ◌++◌, Bool, true, false, not, ◌&&◌, if◌then◌else◌, Result, Ok, Err, Option, Some, None}
use Rattle.tocmark_event.specs.View.{EventView, SourcedEvent, unsourced}
use Rattle.tocmark_event.specs.declared.event.TagEnd.{TagEnd}
use Rattle.tocmark_event.specs.declared.event.flags.ParserOptions.{ParserOptions}
use Rattle.tocmark_event.specs.declared.options.Error.{Error}
use Rattle.tocmark_event.specs.declared.options.Error.TheVariants as error
use Rattle.tocmark_write_labels.specs.Document.{DocumentView, first_document}
use Rattle.tocmark_write_labels.specs.Ending.{unless_empty, last_texts}
use Rattle.tocmark_write_pending.specs.Pending.{nested}
use Rattle.tocmark_state.specs.Ranges.{Pair, resolved}

-- a document: the parser's flags, and what earlier units left
pub record Kept : Type 0 where
  pub flags : ParserOptions
  pub document : DocumentView

-- how units are written, of which the walk assumes nothing
pub record Rendering : Type 0 where
  -- the text of a unit that the event follows, and the document after it, or a refusal
  pub choice : Kept → List SourcedEvent → Option EventView → Result (List ℕ × Kept) Error
  -- whether a unit can't be written before the end of the events
  pub waits : List SourcedEvent → Bool
  -- the definitions that are left at the end
  pub definitions : Kept → List ℕ
  -- whether a unit holds raw text, which nothing can follow
  pub holds_raw : List SourcedEvent → Bool

-- where a list of events is
pub record Standing : Type 0 where
  -- the events since the last unit that was written
  pub pending : List SourcedEvent
  -- the Ends of the open containers, innermost first
  pub open_tags : List TagEnd
  pub document : Kept
  -- the end of the last range, Starts left out
  pub range_end : ℕ
  -- a unit waits, so that all later events join it
  pub is_deferred : Bool

-- the end of a list, where nothing is left to be
pub data Done : Type 0 where
  done : Done

-- texts that are handed, and where it is then, or why it stops
pub record Walk (S : Type 0) : Type 0 where
  pub texts : List (List ℕ)
  pub outcome : Result S Error

-- a walk, and another one from where it is
abbrev pub go_on : {A S : Type 0} → List (List ℕ) → Result A Error → (A → Walk S) → Walk S
go_on texts (Ok s) f = record { texts = texts ++ (f s).texts; outcome = (f s).outcome }
go_on texts (Err e) f = record { texts = texts; outcome = Err e }

-- nothing is handed
abbrev pub stay : {S : Type 0} → S → Walk S
stay s = record { texts = []; outcome = Ok s }

-- nothing is handed, and the walk stops
abbrev pub refuse : {S : Type 0} → Error → Walk S
refuse e = record { texts = []; outcome = Err e }

-- an empty text isn't handed
abbrev pub handed_text : List ℕ → List (List ℕ)
handed_text text = unless_empty text

-- one text
abbrev pub hand_walk : {S : Type 0} → List ℕ → S → Walk S
hand_walk text s = record { texts = handed_text text; outcome = Ok s }

-- the event joins what is pending, where it is nested right
abbrev pub with_event : Standing → SourcedEvent → Result (List TagEnd) Error → Walk Standing
with_event s e (Ok os) = stay (record s { pending = s.pending ++ e ∷ []; open_tags = os })
with_event s e (Err x) = refuse x

-- the event joins what is pending
unfoldable pub joins : SourcedEvent → Standing → Walk Standing
joins e s = with_event s e (nested s.open_tags (unsourced e))

-- nothing is pending after a unit's choice, whose text is handed
abbrev pub flush_of : Standing → Result (List ℕ × Kept) Error → Walk Standing
flush_of s (Ok x) = hand_walk x.0 (record s { pending = []; document = x.1 })
flush_of s (Err e) = refuse e

-- what is pending is written as one unit
unfoldable pub flushed : Rendering → Option EventView → Standing → Walk Standing
flushed how next s = flush_of s (how.choice s.document s.pending next)

-- events are pending and no container is open
abbrev pub is_whole : List TagEnd → List SourcedEvent → Bool
is_whole [] (e ∷ es) = true
is_whole os es = false

-- what is pending is a unit of its own
abbrev pub is_due : Standing → Bool
is_due s = not s.is_deferred && is_whole s.open_tags s.pending

-- a unit that waits is left for the end; any other is written
abbrev pub flushed_or_deferred : Rendering → Bool → EventView → Standing → Walk Standing
flushed_or_deferred how true next s = stay (record s { is_deferred = true })
flushed_or_deferred how false next s = flushed how (Some next) s

-- a whole unit is written before the event that follows it, unless it waits
unfoldable pub flushed_before : Rendering → EventView → Standing → Walk Standing
flushed_before how next s = if is_due s then flushed_or_deferred how (how.waits s.pending) next s else stay s

-- one more event
unfoldable pub advance : Rendering → SourcedEvent → Standing → Walk Standing
advance how e s = go_on (flushed_before how (unsourced e) s).texts (flushed_before how (unsourced e) s).outcome (λ t. joins e t)

-- a bad range is refused before anything else
abbrev pub advance_with : Rendering → Standing → Result (SourcedEvent × ℕ) Error → Walk Standing
advance_with how s (Ok x) = advance how x.0 (record s { range_end = x.1 })
advance_with how s (Err e) = refuse e

-- one more pair: its range is looked at first
unfoldable pub step : Rendering → List ℕ → Pair → Standing → Walk Standing
step how source pair s = advance_with how s (resolved source s.range_end pair)

-- a list of pairs over a source, from a standing
abbrev pub walk : Rendering → List ℕ → Standing → List Pair → Walk Standing
walk how source s [] = stay s
walk how source s (x ∷ xs) = go_on (step how source x s).texts (step how source x s).outcome (λ t. walk how source t xs)

-- where nothing is yet, over a document
abbrev pub beginning : Kept → Standing
beginning kept = record { pending = []; open_tags = []; document = kept; range_end = 0; is_deferred = false }

-- what a new state is at
abbrev pub nothing_yet : ParserOptions → Standing
nothing_yet flags = beginning (record { flags = flags; document = first_document })

-- the text of all that is pending as one unit, and the document after it; an empty text where nothing is pending
abbrev pub last_choice : Rendering → Kept → List SourcedEvent → Result (List ℕ × Kept) Error
last_choice how kept [] = Ok ([], kept)
last_choice how kept (e ∷ es) = how.choice kept (e ∷ es) None

-- two texts, neither of which is handed where it is empty
abbrev pub two_texts : List ℕ → List ℕ → Walk Done
two_texts first second = record { texts = handed_text first ++ handed_text second; outcome = Ok done }

-- the text of the last unit and the definitions that are left
abbrev pub last_walk : Bool → List ℕ → List ℕ → Walk Done
last_walk raw defs text = record { texts = last_texts raw defs text; outcome = Ok done }

-- the texts of the last unit and of the definitions that are left, or the refusal of that unit
abbrev pub finished_of : Rendering → List SourcedEvent → Result (List ℕ × Kept) Error → Walk Done
finished_of how unit (Ok x) = last_walk (how.holds_raw unit) (how.definitions x.1) x.0
finished_of how unit (Err e) = refuse e

-- the last unit is what is pending, if anything is
abbrev pub finished : Rendering → List SourcedEvent → Kept → Walk Done
finished how [] kept = hand_walk (how.definitions kept) done
finished how (e ∷ es) kept = finished_of how (e ∷ es) (how.choice kept (e ∷ es) None)

-- an open container is refused
abbrev pub ended_at : Rendering → List TagEnd → Standing → Walk Done
ended_at how [] s = finished how s.pending s.document
ended_at how (o ∷ os) s = refuse error.UnexpectedEvent

-- the end of the events: what is pending is written, and the definitions that are left
unfoldable pub ended : Rendering → Standing → Walk Done
ended how s = ended_at how s.open_tags s

-- what the whole list comes to
abbrev pub script : Rendering → List ℕ → Standing → List Pair → Walk Done
script how source s p = go_on (walk how source s p).texts (walk how source s p).outcome (λ t. ended how t)

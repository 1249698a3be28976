-- What a trial of a unit asks, as plain values.
use Rattle.std.specs.Prelude.{◌≡◌, ◌==◌, ◌&&◌, ◌||◌, ◌<◌, ℕ, Bool, true, false, not, length, slice_index, List, Option, Some, None, Result, Ok, Err, IfOk, IfSome, is_some, string_bytes, String}
use Rattle.std.specs.Global.{Global}
use Rattle.std.specs.List.{AllByRecursion}
use Rattle.indexmap.specs.IndexSet.{IndexSet}
use Rattle.tocmark_write_emphasis.specs.Low.{chooses_bytes}
use Rattle.tocmark_event.specs.Forest.{empty}
use Rattle.tocmark_event.specs.Options.{OptionsView, options_view}
use Rattle.tocmark_event.specs.Reading.{ReadingView}
use Rattle.tocmark_event.specs.View.{SourcedEvent}
use Rattle.tocmark_event.specs.declared.event.flags.ParserOptions.{ParserOptions}
use Rattle.tocmark_event.specs.declared.options.Error.{Error}
use Rattle.tocmark_event.specs.declared.options.Error.TheVariants as error
use Rattle.tocmark_spelling.specs.Body.{Trees}
use Rattle.tocmark_spelling.specs.Buffered.{following_view}
use Rattle.tocmark_spelling.specs.Page.{Page, Site}
use Rattle.tocmark_spelling.specs.Plan.{Manner, Setting}
use Rattle.tocmark_spelling.specs.PlanOf.{setting_of}
use Rattle.tocmark_spelling.specs.Spelling.{spelling}
use Rattle.tocmark_write_unit.specs.FindingsOf.{AreFindings}
use Rattle.tocmark_write_renderer.specs.WriterOf.{Arrives, IsRefusal, Rendering, blank, page_of, site_of}
use Rattle.tocmark_choose.specs.Choice.{Chosen, accepted, choice, definitions_of, preferred}
use Rattle.tocmark_write_labels.specs.Document.{DocumentView, first_document}
use Rattle.tocmark_write_labels.specs.LabelsOf.{label_now, labels_of}
use Rattle.tocmark_write_pending.specs.Placeholder.{whole}
use Rattle.tocmark_choose.specs.ReadsBack.{flags_at, is_read_back, whole_text}
use Rattle.tocmark_choose.specs.Tries.{Asked, Tries}
use Rattle.tocmark_write_pending.specs.Units.{trees_of}
use Rattle.tocmark_choose.specs.declared.earlier.Earlier.{Earlier}
use Rattle.tocmark_choose.specs.declared.read_back.ReadBack.{ReadBack}
use Rattle.tocmark_choose.specs.declared.tools.Tools.{Tools}
use Rattle.tocmark_choose.specs.declared.trial.Trial.{Trial}

-- a forest that is there, or none of its trees
abbrev pub or_no_trees : Option Trees → Trees
or_no_trees None = empty
or_no_trees (Some f) = f

-- the events of the unit
abbrev pub events_in : {R : Type 0} → Trial R → List SourcedEvent
events_in t = t.unit.now.events

-- the options that the unit is written with
abbrev pub options_in : {R : Type 0} → Trial R → OptionsView
options_in t = options_view t.tools.now.options

-- whether the unit is written only as it is read back, as its census has it
abbrev pub is_checked_in : {R : Type 0} → Trial R → Bool
is_checked_in t = t.found.now.census.delimiters || ((options_in t).check_plain_blocks && not (length (events_in t) == 0))

-- how a unit is written with these tools, for events of a parser with these flags, and with this reserved label
abbrev pub setting_with : {R : Type 0} → (R → List ℕ → ParserOptions → ReadingView) → Tools R → ParserOptions → Option (List ℕ) → Setting
setting_with reading tools flags label = setting_of (options_view tools.options) flags (reading tools.reader.now) label

-- what is asked of all spellings of the unit
abbrev pub asked_of : {R : Type 0} → (R → List ℕ → ParserOptions → ReadingView) → Trial R → Asked
asked_of reading t = record {
  setting = setting_with reading t.tools.now t.flags (label_now t.label);
  unit = or_no_trees (trees_of (events_in t));
  next = following_view t.next;
}

-- the unit's events are balanced, and what is found out of them is so
pub record IsReady {R : Type 0} (reading : R → List ℕ → ParserOptions → ReadingView) (t : Trial R) : Type 0 where
  pub balanced : is_some (trees_of (events_in t)) ≡ true
  pub found : AreFindings (reading t.tools.now.reader.now) (options_in t) t.flags (events_in t) t.found.now

-- where a manner's layout chooses among single bytes, the markers that it asks for are ASCII
abbrev pub IsLow : Manner → Type 0
IsLow m = chooses_bytes m.plan.layout ≡ true → (m.markers.emphasis < 128) × (slice_index m.markers.strong 0 < 128)

-- nothing is written of the unit
abbrev pub IsFront : Site → Type 0
IsFront here = here ≡ blank here.page.sheet.feeds here.page.trail

-- what a unit is spelled as from here, in one manner
abbrev pub spelled_at : Asked → Site → Manner → Option Site
spelled_at q here m = spelling q.setting m q.unit (whole q.next) here.path here.page

-- what is read of a page: its text after the definitions that it needs
abbrev pub read_of : Page → List ℕ
read_of p = whole_text (definitions_of p) p.sheet.text

-- whether the unit is read back in a text that begins with its definitions
abbrev pub reads_back_in : Asked → DocumentView → List ℕ → Bool
reads_back_in q d text = is_read_back q.setting d q.unit (q.setting.reading text (flags_at q.setting d))

-- what is known of a page is so: its definitions
abbrev pub IsKnown : Page → ReadBack → Type 0
IsKnown p known = string_bytes known.definitions ≡ definitions_of p

-- a document that leaves nothing but this to a unit
abbrev pub earlier_view : Earlier → DocumentView
earlier_view e = record first_document { known = labels_of e.known.now; flushed = e.flushed }

-- the same, after which a renderer is here
abbrev pub earlier_at : Earlier → Site → DocumentView
earlier_at e here = record (earlier_view e) { trail = here.page.trail; feeds = here.page.sheet.feeds }

-- a document that leaves this to a unit and is otherwise like this one, and after which a renderer is here
abbrev pub left_by : DocumentView → Earlier → Site → DocumentView
left_by d e here = record d { trail = here.page.trail; feeds = here.page.sheet.feeds; known = labels_of e.known.now; flushed = e.flushed }

-- in none of these texts is the unit read back
abbrev pub AreRefused : {S : Type 0} → Asked → DocumentView → IndexSet (String Global) S → Type 0
AreRefused q d refused = AllByRecursion (λ t. reads_back_in q d (string_bytes t) ≡ false) refused.keys

-- the renderer came to where the definition does, and the mark is where it began
pub record Came (old : Site) (new : Rendering) (answer : Option Site) : Type 0 where
  pub arrives : Arrives new answer
  pub marked : new.at_mark ≡ Some old

-- the definition refuses the unit, unless memory ran out, and the renderer is where it began
pub record WentBack (old : Site) (new : Rendering) (e : Error) (answer : Option Site) : Type 0 where
  pub refused : IsRefusal e answer
  pub kept : site_of new ≡ old

-- a unit was written as the definition has it, or the renderer went back
abbrev pub ComesOrBack : {X : Type 0} → Result X Error → Site → Rendering → Option Site → Type 0
ComesOrBack (Ok x) old new answer = Came old new answer
ComesOrBack (Err e) old new answer = WentBack old new e answer

-- the unit of a trial was written in one manner, or the renderer went back
abbrev pub WritesIn : {R X : Type 0} → (R → List ℕ → ParserOptions → ReadingView) → Trial R → Rendering → Rendering → Manner → Result X Error → Type 0
WritesIn reading t old new m r = ComesOrBack r (site_of old) new (spelled_at (asked_of reading t) (site_of old) m)

-- what trying these spellings of a trial's unit in order came to
abbrev pub TriesIn : {R X : Type 0} → (R → List ℕ → ParserOptions → ReadingView) → Trial R → Earlier → Rendering → Rendering → List Manner → Result (Option X) Error → Type 0
TriesIn reading t e old new ms r = Tries (asked_of reading t) (earlier_at e (site_of old)) (site_of old) new ms r

-- what is known of a spelling that is read back is so of the page that the renderer came to
abbrev pub Knows : {E : Type 0} → Rendering → Result (Option ReadBack) E → Type 0
Knows new r = IfOk r (λ known. IfSome known (IsKnown (page_of new)))

-- an error is that of the definition, unless memory ran out
abbrev pub Refuses : {Y : Type 0} → Error → Result Y Error → Type 0
Refuses error.OutOfMemory answer = Unit {0}
Refuses (error.FormatFailed f) answer = ⊥
Refuses e answer = answer ≡ Err e

-- the renderer has written what is chosen, and the mark is where it began
pub record IsWritten (s : Setting) (d : DocumentView) (old : Site) (new : Rendering) (answer : Chosen) : Type 0 where
  pub written : answer ≡ accepted s d (page_of new)
  pub marked : new.at_mark ≡ Some old

-- what is chosen is this error, unless memory ran out, and the renderer is where it began
pub record IsLeft (old : Site) (new : Rendering) (e : Error) (answer : Chosen) : Type 0 where
  pub refused : Refuses e answer
  pub kept : site_of new ≡ old

-- a unit was written as it is chosen, or refused so
abbrev pub Writes : {X : Type 0} → Result X Error → Setting → DocumentView → Site → Rendering → Chosen → Type 0
Writes (Ok x) s d old new answer = IsWritten s d old new answer
Writes (Err e) s d old new answer = IsLeft old new e answer

-- the unit was written as it is chosen after this document, or refused so
abbrev pub WritesChoice : {X : Type 0} → Asked → DocumentView → Rendering → Rendering → Result X Error → Type 0
WritesChoice q d old new r = Writes r q.setting d (site_of old) new (choice q.setting d q.unit q.next)

-- the unit of a trial was written as it is chosen after each document that leaves this to it, or refused so
abbrev pub Chooses : {R X : Type 0} → (R → List ℕ → ParserOptions → ReadingView) → Trial R → Earlier → Rendering → Rendering → Result X Error → Type 0
Chooses reading t e old new r = (d : DocumentView) → WritesChoice (asked_of reading t) (left_by d e (site_of old)) old new r

-- the preferred spelling is chosen for a unit, of which nothing is written yet
pub record IsPlain (q : Asked) (d : DocumentView) (old : Site) (new : Rendering) : Type 0 where
  pub plain : choice q.setting d q.unit q.next ≡ preferred q.setting d q.unit q.next
  pub kept : site_of new ≡ old

-- a search wrote the unit as it is chosen, left it to its preferred spelling, or refused it as the choice does
abbrev pub FindsChoice : {X : Type 0} → Asked → DocumentView → Site → Rendering → Result (Option X) Error → Type 0
FindsChoice q d old new (Ok (Some x)) = IsWritten q.setting d old new (choice q.setting d q.unit q.next)
FindsChoice q d old new (Ok None) = IsPlain q d old new
FindsChoice q d old new (Err e) = IsLeft old new e (choice q.setting d q.unit q.next)

-- the same of the unit of a trial, after each document that leaves this to it
abbrev pub Finds : {R X : Type 0} → (R → List ℕ → ParserOptions → ReadingView) → Trial R → Earlier → Rendering → Rendering → Result (Option X) Error → Type 0
Finds reading t e old new r = (d : DocumentView) → FindsChoice (asked_of reading t) (left_by d e (site_of old)) (site_of old) new r

-- The units of a list of events that are written, and that one with delimiters reads back.
use Rattle.std.specs.Prelude.{◌≡◌, ℕ, List, [], ◌∷◌, Bool, true, false, Option, Some, None, Result, Ok, Err, flat_map}
use Rattle.tocmark_event.specs.Forest.{Forest, empty, leaf, node, flat, flat_onto}
use Rattle.tocmark_event.specs.View.{EventView, Start, End, Leaf, SourcedEvent, SourcedLeaf, unsourced, end_of}
use Rattle.tocmark_event.specs.declared.event.TagEnd.{TagEnd}
use Rattle.tocmark_event.specs.declared.event.flags.ParserOptions.{ParserOptions}
use Rattle.tocmark_event.specs.Options.{OptionsView}
use Rattle.tocmark_event.specs.declared.options.Error.{Error}
use Rattle.tocmark_event.specs.Reading.{ReadingView}
use Rattle.tocmark_spelling.specs.Body as body
use Rattle.tocmark_spelling.specs.Page.{Page}
use Rattle.tocmark_spelling.specs.Plan.{Setting}
use Rattle.tocmark_write_labels.specs.Ending.{last_texts}
use Rattle.tocmark_write_labels.specs.Units.{labelled}
use Rattle.tocmark_choose.specs.Candidates.{candidates, is_delimiter_block}
use Rattle.tocmark_choose.specs.Choice.{document_after}
use Rattle.tocmark_choose.specs.FirstReadBack.{IsFirstReadBack}
use Rattle.tocmark_laws.specs.Trees.{Part, Trees, part_onto, ranged}
use Rattle.tocmark_laws.specs.Unexpected.{setting_at}
use Rattle.tocmark_state.specs.Ranges.{Pair}
use Rattle.tocmark_state.specs.Walk.{Done, Kept, Rendering, Standing, beginning, handed_text, walk}

-- a unit that is written: its events, the event that follows it, the document before it, its text, and the document after it
pub record Written : Type 0 where
  pub unit : List SourcedEvent
  pub next : Option EventView
  pub before : Kept
  pub text : List ℕ
  pub after : Kept

-- a unit as it is chosen, and the units after it; none where it is refused
abbrev pub written_as : Kept → List SourcedEvent → Option EventView → Result (List ℕ × Kept) Error → (Kept → List Written) → List Written
written_as kept unit next (Ok x) others = record { unit = unit; next = next; before = kept; text = x.0; after = x.1 } ∷ others x.1
written_as kept unit next (Err e) others = []

-- a unit that an event follows: it waits, or is written
abbrev pub written_unless : Bool → Rendering → Kept → List SourcedEvent → EventView → (Kept → List Written) → List Written
written_unless true how kept unit next others = []
written_unless false how kept unit next others = written_as kept unit (Some next) (how.choice kept unit (Some next)) others

-- a whole tree, which is written where an event follows it
abbrev pub written_unit : Rendering → Kept → List SourcedEvent → List SourcedEvent → (Kept → List Written) → List Written
written_unit how kept unit [] others = []
written_unit how kept unit (e ∷ rest) others = written_unless (how.waits unit) how kept unit (unsourced e) others

-- the units that the walk over trees writes, in order
abbrev pub written_trees : Rendering → Kept → Forest SourcedLeaf → Part → List SourcedEvent → List Written
written_trees how kept empty part refused = []
written_trees how kept (leaf l f) part refused =
    written_unit how kept (Leaf l ∷ []) (flat_onto f (part_onto part refused)) (λ k. written_trees how k f part refused)
written_trees how kept (node t kids f) part refused =
    written_unit how kept (Start t ∷ flat_onto kids (End (end_of t) ∷ [])) (flat_onto f (part_onto part refused))
    (λ k. written_trees how k f part refused)

-- the texts of units, of which an empty one isn't handed
abbrev pub texts_of : List Written → List (List ℕ)
texts_of units = flat_map (λ w. handed_text w.text) units

-- what is pending, if anything is, as the last unit
abbrev pub last_unit : Rendering → Kept → List SourcedEvent → List Written
last_unit how kept [] = []
last_unit how kept (e ∷ es) = written_as kept (e ∷ es) None (how.choice kept (e ∷ es) None) (λ k. [])

-- the unit that is written at the end, where no container is open
abbrev pub last_written : Rendering → List TagEnd → Standing → List Written
last_written how [] at = last_unit how at.document at.pending
last_written how (o ∷ os) at = []

-- the last unit of a script, whose walk ends so
abbrev pub last_of : Rendering → Result Standing Error → List Written
last_of how (Ok at) = last_written how at.open_tags at
last_of how (Err e) = []

-- the text of the last unit, if there is one, and the definitions that are left
abbrev pub ending_texts : Rendering → Kept → List Written → List (List ℕ)
ending_texts how kept [] = handed_text (how.definitions kept)
ending_texts how kept (w ∷ ws) = last_texts (how.holds_raw w.unit) (how.definitions w.after) w.text

-- these, unless the script is refused
abbrev pub ending_unless_refused : Rendering → Kept → List Written → Result Done Error → List (List ℕ)
ending_unless_refused how kept last (Ok d) = ending_texts how kept last
ending_unless_refused how kept last (Err e) = []

-- what a script hands after the units of its walk, by how the walk ends, and how the script
abbrev pub texts_at_end : Rendering → Result Standing Error → Result Done Error → List (List ℕ)
texts_at_end how (Ok at) outcome = ending_unless_refused how at.document (last_written how at.open_tags at) outcome
texts_at_end how (Err e) outcome = []

-- the unit is written as the first of its candidates that reads back in its document
pub record IsWrittenAsRead (s : Setting) (f : body.Trees) (w : Written) : Type 0 where
  pub page : Page
  pub text_is : w.text ≡ page.sheet.text
  pub after_is : w.after.document ≡ document_after s w.before.document page
  pub first : IsFirstReadBack s w.before.document f w.next (candidates s.options f) page

-- a unit with delimiters, which are the events of this forest, reads back in its document
abbrev pub ReadsBackIfDelimited : OptionsView → (List ℕ → ParserOptions → ReadingView) → Written → Type 0
ReadsBackIfDelimited options reading w =
    (f : body.Trees) → flat f ≡ w.unit → is_delimiter_block f ≡ true
    → IsWrittenAsRead (labelled (setting_at options reading w.before) w.before.document w.unit w.next) f w

-- the texts of a walk are those of the units that are written, which are trees of the list
pub record AreWritten (how : Rendering) (source : List ℕ) (kept : Kept) (p : List Pair) (units : List Written) : Type 0 where
  pub trees : Trees (ranged source 0 p).events
  pub units_are : units ≡ written_trees how kept trees.whole trees.part trees.refused
  pub texts_are : (walk how source (beginning kept) p).texts ≡ texts_of units

-- What a whole list of trees is written as, each tree a unit of its own.
use Rattle.std.specs.Prelude.{◌≡◌, ℕ, Bool, true, false, ◌&&◌, ◌||◌, ◌==◌, if◌then◌else◌, Option, Some, None, Ok, Err, List, [], ◌∷◌, bytes_eq, map}
use Rattle.tocmark_event.specs.Forest.{empty, leaf, node, flat}
use Rattle.tocmark_event.specs.Options.{OptionsView}
use Rattle.tocmark_event.specs.Reading.{ReadingView}
use Rattle.tocmark_event.specs.View.{LeafView, Text, EventView}
use Rattle.tocmark_event.specs.declared.options.Error.{Error}
use Rattle.tocmark_event.specs.declared.event.flags.ParserOptions.{ParserOptions}
use Rattle.tocmark_spelling.specs.Plan.{Setting}
use Rattle.tocmark_spelling.specs.Body.{Trees}
use Rattle.tocmark_spelling.specs.Page.{front}
use Rattle.tocmark_choose.specs.Candidates.{some_tag}
use Rattle.tocmark_choose.specs.Choice.{Chosen, choice}
use Rattle.tocmark_write_labels.specs.Definitions.{definitions_text}
use Rattle.tocmark_write_labels.specs.Ending.{is_raw_block, last_texts}
use Rattle.tocmark_write_labels.specs.Document.{DocumentView, first_document}
use Rattle.tocmark_write_pending.specs.Placeholder.{needs_placeholder}
use Rattle.tocmark_write_labels.specs.Reserved.{reserved_label}

-- the texts that are written, and the error that ends them, if one does
pub record Outcome : Type 0 where
  pub texts : List (List ℕ)
  pub error : Option Error

abbrev pub wrote : List (List ℕ) → Outcome
wrote texts = record { texts = texts; error = None }

-- a text, unless it is empty, and then the rest
abbrev pub then_texts : List ℕ → Outcome → Outcome
then_texts [] o = o
then_texts (b ∷ text) o = record o { texts = (b ∷ text) ∷ o.texts }

abbrev pub after_last : Trees → Chosen → Outcome
after_last f (Err e) = record { texts = []; error = Some e }
after_last f (Ok c) = wrote (last_texts (some_tag is_raw_block f) (definitions_text c.1.references c.1.feeds) c.0)

abbrev pub label_for : Bool → Setting → DocumentView → Trees → Option (List ℕ)
label_for true s d f = Some (reserved_label s d (flat f))
label_for false s d f = None

-- the last unit, and the definitions of all
abbrev pub finished : Setting → DocumentView → Trees → Outcome
finished s d f = after_last f (choice (record s { label = label_for (needs_placeholder f) s d f }) d f None)

abbrev pub after_unit : Chosen → (DocumentView → Outcome) → Outcome
after_unit (Err e) rest = record { texts = []; error = Some e }
after_unit (Ok c) rest = then_texts c.0 (rest c.1)

-- a unit and then the rest, or all as one unit where a list needs a placeholder
abbrev pub unit_then : Bool → Setting → DocumentView → Trees → Trees → Trees → (DocumentView → Outcome) → Outcome
unit_then true s d unit f all rest = finished s d all
unit_then false s d unit f all rest = after_unit (choice s d unit (front (flat f))) rest

abbrev pub is_empty : Trees → Bool
is_empty empty = true
is_empty f = false

-- each tree in turn; the last one is written when all are there
abbrev pub script : Setting → Trees → DocumentView → Outcome
script s empty d = finished s d empty
script s (leaf l f) d = unit_then (is_empty f || needs_placeholder (leaf l empty)) s d (leaf l empty) f (leaf l f) (λ d'. script s f d')
script s (node t kids f) d =
    unit_then (is_empty f || needs_placeholder (node t kids empty)) s d (node t kids empty) f (node t kids f) (λ d'. script s f d')

-- what a whole list is written as
abbrev pub outcome : Setting → Trees → Outcome
outcome s f = script s f first_document

-- a text whose source isn't known, and one whose source is
abbrev pub text : List ℕ → Trees → Trees
text t f = leaf (record { leaf = Text t; source = None }) f

abbrev pub text_from : List ℕ → List ℕ → Trees → Trees
text_from source t f = leaf (record { leaf = Text t; source = Some source }) f

abbrev pub one : LeafView → Trees → Trees
one l f = leaf (record { leaf = l; source = None }) f

abbrev pub flags_of : ℕ → ParserOptions
flags_of bits = record { 0 = bits }

-- a reading of these events, with these defined and unresolved labels
abbrev pub reading_of : List EventView → List (List ℕ) → List (List ℕ) → ReadingView
reading_of events defined unresolved = record { events = map (λ e. (e, (0, 0))) events; defined = defined; unresolved = unresolved }

abbrev pub nothing : ReadingView
nothing = reading_of [] [] []

-- readings, each of a text under flags
abbrev pub Readings : Type 0
Readings = List (ℕ × List ℕ × ReadingView)

-- a reader that knows these readings, and reads anything else as nothing
abbrev pub reads : Readings → List ℕ → ParserOptions → ReadingView
reads [] t f = nothing
reads (r ∷ rs) t f = if (r.0 == f.0) && bytes_eq r.1 t then r.2 else reads rs t f

abbrev pub setting : OptionsView → ℕ → Readings → Setting
setting o flags table = record { options = o; flags = flags_of flags; reading = reads table; label = None }

-- an example: a list of trees in a setting, and what it is written as
pub record Row : Type 0 where
  pub setting : Setting
  pub trees : Trees
  pub written : Outcome

abbrev pub IsWritten : Row → Type 0
IsWritten r = outcome r.setting r.trees ≡ r.written

-- each is written as it says
unfoldable pub AreWritten : List Row → Type 0
AreWritten [] = Unit {0}
AreWritten (r ∷ rs) = IsWritten r × AreWritten rs

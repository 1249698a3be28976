-- The label that is reserved for the lists of a unit.
use Rattle.std.specs.Prelude.{ℕ, if◌then◌else◌, Option, Some, None, List}
use Rattle.tocmark_event.specs.View.{EventView, SourcedEvent}
use Rattle.tocmark_spelling.specs.Plan.{Setting}
use Rattle.tocmark_write_labels.specs.Document.{DocumentView}
use Rattle.tocmark_write_labels.specs.Reserved.{reserved_label}
use Rattle.tocmark_write_pending.specs.Units.{waits}

-- the label that is reserved for the lists of a unit: the last unit, which no event follows, has one if it waits
abbrev pub label_for : Setting → DocumentView → List SourcedEvent → Option EventView → Option (List ℕ)
label_for s d unit None = if waits unit then Some (reserved_label s d unit) else None
label_for s d unit (Some e) = None

-- a setting with the label of a unit, whatever label it had
abbrev pub labelled : Setting → DocumentView → List SourcedEvent → Option EventView → Setting
labelled s d unit next = record s { label = label_for s d unit next }

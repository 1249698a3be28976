-- What the columns over a unit's events say.
use Rattle.std.specs.Prelude.{ℕ, Bool, true, false, List, Option}
use Rattle.tocmark_event.specs.Options.{OptionsView}
use Rattle.tocmark_event.specs.View.{SourcedEvent}
use Rattle.tocmark_event.specs.declared.event.flags.ParserOptions.{ParserOptions}
use Rattle.tocmark_spelling.specs.PlanOf.{setting_of}
use Rattle.tocmark_write_pending.specs.Ahead.{AreDisturbed}
use Rattle.tocmark_write_emphasis.specs.Facts.{Readings}
use Rattle.tocmark_write_emphasis.specs.declared.columns.Columns.{Columns}

-- with this reader, whatever the options, flags and label are: for each Start whether a node of its body disturbs
abbrev pub ArePreferences : Readings → Bool → List SourcedEvent → List Bool → Type 0
ArePreferences reading runs es found =
    (o : OptionsView) (flags : ParserOptions) (label : Option (List ℕ))
    → AreDisturbed (setting_of o flags reading label) runs es found

-- the columns are those of these events, with this reader
pub record AreColumns (reading : Readings) (es : List SourcedEvent) (c : Columns) : Type 0 where
  pub by_runs : ArePreferences reading true es c.by_runs.items
  pub by_neighbours : ArePreferences reading false es c.by_neighbours.items

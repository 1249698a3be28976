-- Chapters with each heading one level down.
use Rattle.std.specs.Prelude.{List, map}
use Rattle.tocmark_event.specs.Reading.{ReadingView}
use Rattle.tocmark_event.specs.View.{EventView}
use Rattle.tocmark_rewrite.specs.Edits.{with_level}
use Rattle.tocmark_compare.specs.Given.{found_events}
use Rattle.tocmark_rewrite.specs.declared.edits.Shift.TheVariants.{Down}

-- the events of a reading, each heading one level down, but none below the sixth
abbrev pub lowered_events : ReadingView → List EventView
lowered_events r = map (with_level (Down 1)) (found_events r)

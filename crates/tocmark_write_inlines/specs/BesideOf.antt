-- What is beside a leaf, as plain values.
use Rattle.std.specs.Prelude.{◌≡◌, List, Option}
use Rattle.tocmark_event.specs.View.{EventView, SourcedEvent}
use Rattle.tocmark_spelling.specs.Buffered.{following_view}
use Rattle.tocmark_spelling.specs.Kinds.{is_text, and_is}
use Rattle.tocmark_spelling.specs.Page.{front}
use Rattle.tocmark_spelling.specs.Words.{or_else}
use Rattle.tocmark_write_inlines.specs.declared.leaf.Beside.{Beside}

-- what is said of the events beside a leaf is so after these events and before those; the last one follows the unit
pub record IsBeside (b : Beside) (before rest : List SourcedEvent) (next : Option EventView) : Type 0 where
  pub previous_is : following_view b.previous ≡ front before
  pub text_is : b.text_follows ≡ and_is is_text (front rest)
  pub next_is : following_view b.next ≡ or_else (front rest) next

-- Units as lists of events, and their trees.
use Rattle.std.specs.Prelude.{Bool, false, Option, Some, None, List, [], ◌∷◌}
use Rattle.tocmark_event.specs.Forest.{Opened, Grown, read_all, nothing_read}
use Rattle.tocmark_event.specs.View.{SourcedLeaf, SourcedEvent}
use Rattle.tocmark_spelling.specs.Body.{Trees}
use Rattle.tocmark_write_pending.specs.Placeholder.{needs_placeholder}

-- the forest, if no container is open
abbrev pub if_closed : List (Opened SourcedLeaf) → Trees → Option Trees
if_closed [] f = Some f
if_closed (o ∷ opens) f = None

-- the forest that was read, if each container in it was closed
abbrev pub trees_read : Option (Grown SourcedLeaf) → Option Trees
trees_read None = None
trees_read (Some r) = if_closed r.opens r.since

-- the forest that a list of events is; none where it isn't balanced
unfoldable pub trees_of : List SourcedEvent → Option Trees
trees_of es = trees_read (read_all es nothing_read)

-- whether a unit needs a placeholder; one whose events are not balanced does not
abbrev pub placeholder_in : Option Trees → Bool
placeholder_in None = false
placeholder_in (Some f) = needs_placeholder f

-- whether a unit that is given as its events waits for a label
unfoldable pub waits : List SourcedEvent → Bool
waits unit = placeholder_in (trees_of unit)

-- A machine over flat events, which is where the spelling of their forest is.
use Rattle.std.specs.Prelude.{ℕ, zero, suc, Bool, true, false, Option, Some, None, List, [], ◌∷◌}
use Rattle.tocmark_event.specs.View.{TagView, SourcedEvent, EventView, Start, End, Leaf}
use Rattle.tocmark_event.specs.Forest.{empty, leaf, node}
use Rattle.tocmark_event.specs.declared.event.TagEnd.{TagEnd}
use Rattle.tocmark_spelling.specs.Plan.{Setting, Manner}
use Rattle.tocmark_spelling.specs.Body.{Trees}
use Rattle.tocmark_spelling.specs.Look.{look}
use Rattle.tocmark_spelling.specs.Page.{Site, Around}
use Rattle.tocmark_spelling.specs.Gap.{gap}
use Rattle.tocmark_spelling.specs.Opening.{opening}
use Rattle.tocmark_spelling.specs.Closing.{closing}
use Rattle.tocmark_spelling.specs.Stretch.{leaf_on}
use Rattle.tocmark_spelling.specs.Spelling.{skips_body, id_on}

-- the trees that are before the first End of a container that is open, and those before each further such End
pub record Layers : Type 0 where
  pub inner : Trees
  pub outer : List Trees

-- the layers with another innermost one, as when a leaf is put in front of it
abbrev pub with_leaf : Layers → (Trees → Trees) → Layers
with_leaf l put = record l { inner = put l.inner }

-- a container whose body is the innermost layer; it may be that it isn't closed
abbrev pub with_node : TagView → Trees → List Trees → Layers
with_node t kids [] = record { inner = node t kids empty; outer = [] }
with_node t kids (f ∷ fs) = record { inner = node t kids f; outer = fs }

-- the layers after an End: inside the container that it ends nothing is yet
abbrev pub with_end : Layers → Layers
with_end l = record { inner = empty; outer = l.inner ∷ l.outer }

-- the events as trees, from the last event to the first
abbrev pub layers : List SourcedEvent → Layers
layers [] = record { inner = empty; outer = [] }
layers (Leaf l ∷ es) = with_leaf (layers es) (leaf l)
layers (Start t ∷ es) = with_node t (layers es).inner (layers es).outer
layers (End k ∷ es) = with_end (layers es)

-- the body of a container after whose Start these events are, as trees
abbrev pub kids_of : List SourcedEvent → Trees
kids_of es = (layers es).inner

-- the events after the End of the container that is open with so many others inside it; none where it isn't closed
abbrev pub behind_end : ℕ → List SourcedEvent → Option (List SourcedEvent)
behind_end d [] = None
behind_end d (Leaf l ∷ es) = behind_end d es
behind_end d (Start t ∷ es) = behind_end (suc d) es
behind_end zero (End k ∷ es) = Some es
behind_end (suc d) (End k ∷ es) = behind_end d es

-- where the machine is, with the events so far, the last one first: it goes on, or skips a body whose id is written,
-- with so many containers open in it, or it has refused an event
pub data Machine : Type 0 where
  going : Site → List SourcedEvent → Machine
  skipping : ℕ → Site → List SourcedEvent → Machine
  refused : Machine

-- the machine goes on from this place, or has refused the event where there is none
abbrev pub arrive : Option Site → List SourcedEvent → Machine
arrive (Some here) before = going here before
arrive None before = refused

-- the machine skips a body from this place on, or has refused the event where there is none
abbrev pub skip : Option Site → List SourcedEvent → Machine
skip (Some here) before = skipping 0 here before
skip None before = refused

-- the body comes, or its id is written in its place
abbrev pub entered : Bool → TagView → Site → List SourcedEvent → Machine
entered true t here before = skip (id_on t here) before
entered false t here before = going here before

-- after the opening of a container: its body comes, or its id; where the opening is refused, so is the event
abbrev pub started : TagView → Option Site → List SourcedEvent → Machine
started t (Some here) before = entered (skips_body here.path) t here before
started t None before = refused

-- where an event is: those before it, the last one first, those after it, and what flushes the unit
abbrev pub around : List SourcedEvent → List SourcedEvent → Option EventView → Around
around before after next = record { before = before; after = after; next = next }

-- a container with this body is opened
abbrev pub begun : Setting → Manner → Option EventView → TagView → Trees → List SourcedEvent → Site → List SourcedEvent → Machine
begun s m next t kids after here before =
    started t (opening s m t (look s m t kids (around before after next)) here.path (gap (Start t) here.path here.page)) (Start t ∷ before)

-- the same, if it is closed
abbrev pub begun_if : Setting → Manner → Option EventView → TagView → Trees → Option (List SourcedEvent) → Site → List SourcedEvent → Machine
begun_if s m next t kids (Some after) here before = begun s m next t kids after here before
begun_if s m next t kids None here before = refused

-- the innermost container is closed, or its End is refused
abbrev pub ended : Setting → TagEnd → Site → List SourcedEvent → Machine
ended s k here before = arrive (closing s.options here.path here.page) (End k ∷ before)

-- one event, after which these are
abbrev pub step : Setting → Manner → Option EventView → SourcedEvent → List SourcedEvent → Machine → Machine
step s m next e rest refused = refused
step s m next (Leaf l) rest (going here before) = going (leaf_on s m l (around before rest next) here.path here.page) (Leaf l ∷ before)
step s m next (Start t) rest (going here before) = begun_if s m next t (kids_of rest) (behind_end 0 rest) here before
step s m next (End k) rest (going here before) = ended s k here before
step s m next (Leaf l) rest (skipping d here before) = skipping d here (Leaf l ∷ before)
step s m next (Start t) rest (skipping d here before) = skipping (suc d) here (Start t ∷ before)
step s m next (End k) rest (skipping zero here before) = ended s k here before
step s m next (End k) rest (skipping (suc d) here before) = skipping d here (End k ∷ before)

-- the events in turn
abbrev pub run : Setting → Manner → Option EventView → List SourcedEvent → Machine → Machine
run s m next [] machine = machine
run s m next (e ∷ es) machine = run s m next es (step s m next e es machine)

-- where a run has come to an end
abbrev pub answer_of : Machine → Option Site
answer_of (going here before) = Some here
answer_of (skipping d here before) = None
answer_of refused = None

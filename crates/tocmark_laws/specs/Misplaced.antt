-- An event that isn't allowed where it is.
use Rattle.std.specs.Prelude.{◌≡◌, Bool, true, not, ◌&&◌, List, [], ◌∷◌, ◌++◌, drop, map}
use Rattle.tocmark_event.specs.Forest.{empty, leaf, node, flat}
use Rattle.tocmark_event.specs.View.{TagView, SourcedEvent, Start, End, Leaf, end_of}
use Rattle.tocmark_spelling.specs.Body.{Trees}
use Rattle.tocmark_spelling.specs.ById.{by_id}
use Rattle.tocmark_spelling.specs.Plan.{Setting}
use Rattle.tocmark_spelling.specs.Spelling.{is_wrong_in}

-- the containers that are open after these events, the innermost first, where those were open before
abbrev pub open_behind : List TagView → List SourcedEvent → List TagView
open_behind outside [] = outside
open_behind outside (Leaf l ∷ es) = open_behind outside es
open_behind outside (Start t ∷ es) = open_behind (t ∷ outside) es
open_behind outside (End k ∷ es) = open_behind (drop 1 outside) es

-- an event, and whether it is looked at
abbrev pub Marked : Type 0
Marked = SourcedEvent × Bool

-- the events of trees, before others; those of a body in whose place its id is written aren't looked at
abbrev pub marked_onto : Setting → Bool → Trees → List Marked → List Marked
marked_onto s looked empty rest = rest
marked_onto s looked (leaf l f) rest = (Leaf l, looked) ∷ marked_onto s looked f rest
marked_onto s looked (node t kids f) rest =
    (Start t, looked) ∷ marked_onto s (looked && not (by_id s t kids)) kids ((End (end_of t), looked) ∷ marked_onto s looked f rest)

-- the events of a unit, each with whether it is looked at
abbrev pub marked : Setting → Trees → List Marked
marked s f = marked_onto s true f []

-- the events alone
abbrev pub events_in : List Marked → List SourcedEvent
events_in es = map (λ e. e.0) es

-- a Start among a unit's events, in no body that its id replaces, that may not be in the containers that are open before
-- it: an Item not directly in a List, a Heading in a Heading, a TableHead not directly in a Table, or a TableCell in no Table
pub record HasMisplacedStart (s : Setting) (f : Trees) : Type 0 where
  pub before : List Marked
  pub tag : TagView
  pub after : List Marked
  pub is : flat f ≡ events_in before ++ Start tag ∷ events_in after
  pub looked_at : marked s f ≡ before ++ (Start tag, true) ∷ after
  pub wrong : is_wrong_in tag (open_behind [] (events_in before)) ≡ true

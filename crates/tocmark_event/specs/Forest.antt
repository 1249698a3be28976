-- Events as trees.
use Rattle.std.specs.Prelude.{◌≡◌, Bool, true, false, Option, Some, None, List, [], ◌∷◌}
use Rattle.tocmark_event.specs.Ends.{same_end}
use Rattle.tocmark_event.specs.View.{EventWith, Start, End, Leaf, TagView, end_of}
use Rattle.tocmark_event.specs.declared.event.TagEnd.{TagEnd}

-- a forest is empty, a leaf and what is to its right, or a container with its children and what is to its right
pub data Forest (L : Type 0) : Type 0 where
  empty : Forest L
  leaf : L → Forest L → Forest L
  node : TagView → Forest L → Forest L → Forest L

-- the forest's Starts, leaves and Ends in order, and then the rest
abbrev pub flat_onto : {L : Type 0} → Forest L → List (EventWith L) → List (EventWith L)
flat_onto empty rest = rest
flat_onto (leaf l f) rest = Leaf l ∷ flat_onto f rest
flat_onto (node t kids f) rest = Start t ∷ flat_onto kids (End (end_of t) ∷ flat_onto f rest)

-- the forest's Starts, leaves and Ends in order
abbrev pub flat : {L : Type 0} → Forest L → List (EventWith L)
flat f = flat_onto f []

-- the list is the events of a forest
abbrev pub IsBalanced : {L : Type 0} → List (EventWith L) → Type 0
IsBalanced {L} es = (f : Forest L) × (flat f ≡ es)

-- one forest and then another
abbrev pub joined : {L : Type 0} → Forest L → Forest L → Forest L
joined empty g = g
joined (leaf l f) g = leaf l (joined f g)
joined (node t kids f) g = node t kids (joined f g)

-- a container that is open, and the forest on its left
pub record Opened (L : Type 0) : Type 0 where
  pub tag : TagView
  pub before : Forest L

-- events read so far: the open containers, innermost first, and the forest since
pub record Grown (L : Type 0) : Type 0 where
  pub opens : List (Opened L)
  pub since : Forest L

-- the innermost container ends, with its children since its Start; none where the End isn't its own
abbrev pub closed_if : {L : Type 0} → Bool → TagView → Forest L → List (Opened L) → Forest L → Option (Grown L)
closed_if true t before opens since = Some (record { opens = opens; since = joined before (node t since empty) })
closed_if false t before opens since = None

-- an End, which none but the innermost open container's may be
abbrev pub read_end : {L : Type 0} → TagEnd → List (Opened L) → Forest L → Option (Grown L)
read_end k [] since = None
read_end k (o ∷ opens) since = closed_if (same_end k (end_of o.tag)) o.tag o.before opens since

-- one more event; none for an End that is not that of the innermost open container
abbrev pub read_one : {L : Type 0} → EventWith L → Grown L → Option (Grown L)
read_one (Leaf l) r = Some (record { opens = r.opens; since = joined r.since (leaf l empty) })
read_one (Start t) r = Some (record { opens = record { tag = t; before = r.since } ∷ r.opens; since = empty })
read_one (End k) r = read_end k r.opens r.since

-- reading goes on, unless an earlier event was none that could come
abbrev pub then_read : {L : Type 0} → Option (Grown L) → (Grown L → Option (Grown L)) → Option (Grown L)
then_read (Some r) f = f r
then_read None f = None

-- a flat list read into trees
abbrev pub read_all : {L : Type 0} → List (EventWith L) → Grown L → Option (Grown L)
read_all [] r = Some r
read_all (e ∷ es) r = then_read (read_one e r) (λ r. read_all es r)

-- no event is read, and no container is open
abbrev pub nothing_read : {L : Type 0} → Grown L
nothing_read = record { opens = []; since = empty }

-- the Ends of open containers, innermost first
abbrev pub ends_of : {L : Type 0} → List (Opened L) → List TagEnd
ends_of [] = []
ends_of (o ∷ opens) = end_of o.tag ∷ ends_of opens

-- the events begin a forest's, and these containers are open, innermost first
abbrev pub IsReading : {L : Type 0} → List (EventWith L) → List TagEnd → Type 0
IsReading {L} es ends = (r : Grown L) × (read_all es nothing_read ≡ Some r) × (ends_of r.opens ≡ ends)

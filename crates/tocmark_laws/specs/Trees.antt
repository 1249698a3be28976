-- The units of a list of events, as trees.
use Rattle.std.specs.Prelude.{◌≡◌, ℕ, List, [], ◌∷◌, Bool, true, false, if◌then◌else◌, Some, Result, Ok, Err}
use Rattle.tocmark_event.specs.Ends.{same_end}
use Rattle.tocmark_event.specs.Forest.{Forest, empty, leaf, node, flat_onto}
use Rattle.tocmark_event.specs.View.{EventView, Start, End, Leaf, SourcedEvent, SourcedLeaf, TagView, unsourced, end_of}
use Rattle.tocmark_event.specs.declared.event.TagEnd.{TagEnd}
use Rattle.tocmark_event.specs.declared.options.Error.{Error}
use Rattle.tocmark_event.specs.declared.options.Error.TheVariants as error
use Rattle.tocmark_state.specs.Ranges.{Pair, resolved}
use Rattle.tocmark_state.specs.Walk.{Kept, Rendering, Standing, Walk, beginning, go_on, refuse, stay, flush_of}

-- pairs up to the first bad range
pub record Ranged : Type 0 where
  pub events : List SourcedEvent
  -- the end of the last range, Starts left out
  pub range_end : ℕ
  -- whether a bad range follows
  pub is_cut : Bool

-- an event in front, or the bad range
abbrev pub with_first : Result (SourcedEvent × ℕ) Error → ℕ → (ℕ → Ranged) → Ranged
with_first (Ok x) range_end f = record { events = x.0 ∷ (f x.1).events; range_end = (f x.1).range_end; is_cut = (f x.1).is_cut }
with_first (Err e) range_end f = record { events = []; range_end = range_end; is_cut = true }

-- the events up to the first bad range, with their spellings in the source
abbrev pub ranged : List ℕ → ℕ → List Pair → Ranged
ranged source range_end [] = record { events = []; range_end = range_end; is_cut = false }
ranged source range_end (x ∷ xs) = with_first (resolved source range_end x) range_end (λ n. ranged source n xs)

-- a tree that isn't whole: its open containers, outermost first, each with the trees that it has so far
abbrev pub Part : Type 0
Part = List (TagView × Forest SourcedLeaf)

-- its events, and then the rest
abbrev pub part_onto : Part → List SourcedEvent → List SourcedEvent
part_onto [] rest = rest
part_onto (x ∷ xs) rest = Start x.0 ∷ flat_onto x.1 (part_onto xs rest)

-- the Ends of its containers, innermost first, and then the rest
abbrev pub part_ends : Part → List TagEnd → List TagEnd
part_ends [] rest = rest
part_ends (x ∷ xs) rest = part_ends xs (end_of x.0 ∷ rest)

-- the End is that of the innermost open container
abbrev pub ends_innermost : TagEnd → List TagEnd → Bool
ends_innermost k [] = false
ends_innermost k (o ∷ os) = same_end k o

-- nothing is left, or an End that isn't the innermost open container's and what follows it
abbrev pub IsRefused : List SourcedEvent → List TagEnd → Type 0
IsRefused [] os = Unit {0}
IsRefused (End k ∷ rest) os = ends_innermost k os ≡ false
IsRefused (e ∷ rest) os = ⊥

-- events as whole trees, then a tree that isn't whole, then a wrong End and what follows it
pub record Trees (events : List SourcedEvent) : Type 0 where
  pub whole : Forest SourcedLeaf
  pub part : Part
  pub refused : List SourcedEvent
  pub are : flat_onto whole (part_onto part refused) ≡ events
  pub wrong : IsRefused refused (part_ends part [])

-- where the trees end: a wrong End is refused
abbrev pub stop_at : List SourcedEvent → Standing → Walk Standing
stop_at [] s = stay s
stop_at (e ∷ rest) s = refuse error.UnexpectedEvent

-- the events of a tree that isn't whole are pending, and nothing is written
abbrev pub rest_of_trees : Kept → Part → List SourcedEvent → Walk Standing
rest_of_trees kept part refused =
    stop_at refused (record (beginning kept) { pending = part_onto part []; open_tags = part_ends part [] })

-- a unit that waits: all the rest joins it
abbrev pub deferred_unit : Kept → List SourcedEvent → Part → List SourcedEvent → Walk Standing
deferred_unit kept events part refused =
    stop_at refused (record (beginning kept) { pending = events; open_tags = part_ends part []; is_deferred = true })

-- a unit that an event follows: it waits, or its choice is the next text, or the refusal
abbrev pub followed_unit : Rendering → Bool → Kept → List SourcedEvent → EventView → Walk Standing → (Kept → Walk Standing) → Walk Standing
followed_unit how true kept unit next waiting go = waiting
followed_unit how false kept unit next waiting go =
    go_on (flush_of (beginning kept) (how.choice kept unit (Some next))).texts (flush_of (beginning kept) (how.choice kept unit (Some next))).outcome (λ s. go s.document)

-- a whole tree: it is a unit, which is pending where nothing follows it
abbrev pub unit_walk : Rendering → Kept → List SourcedEvent → List SourcedEvent → Walk Standing → (Kept → Walk Standing) → Walk Standing
unit_walk how kept unit [] waiting go = stay (record (beginning kept) { pending = unit })
unit_walk how kept unit (e ∷ rest) waiting go = followed_unit how (how.waits unit) kept unit (unsourced e) waiting go

-- each whole tree is a unit, up to the first that waits, from which all the rest is one unit
abbrev pub walk_trees : Rendering → Kept → Forest SourcedLeaf → Part → List SourcedEvent → Walk Standing
walk_trees how kept empty part refused = rest_of_trees kept part refused
walk_trees how kept (leaf l f) part refused =
    unit_walk how kept (Leaf l ∷ []) (flat_onto f (part_onto part refused))
    (deferred_unit kept (Leaf l ∷ flat_onto f (part_onto part [])) part refused)
    (λ k. walk_trees how k f part refused)
walk_trees how kept (node t kids f) part refused =
    unit_walk how kept (Start t ∷ flat_onto kids (End (end_of t) ∷ [])) (flat_onto f (part_onto part refused))
    (deferred_unit kept (Start t ∷ flat_onto kids (End (end_of t) ∷ flat_onto f (part_onto part []))) part refused)
    (λ k. walk_trees how k f part refused)

-- a bad range is refused after the events before it
abbrev pub end_ranged : Ranged → Standing → Result Standing Error
end_ranged r s = if r.is_cut then Err error.InvalidSourceRange else Ok (record s { range_end = r.range_end })

-- the walk of trees, and then the bad range that follows them, if there is one
abbrev pub then_ranged : Ranged → Walk Standing → Walk Standing
then_ranged r w = go_on w.texts w.outcome (λ s. record { texts = []; outcome = end_ranged r s })

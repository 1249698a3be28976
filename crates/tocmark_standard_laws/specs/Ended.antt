-- From what is said to events: a container ends before what isn't deeper.
use Rattle.std.specs.Prelude.{ℕ, ◌≡◌, false, List, [], ◌∷◌, ◌++◌, flat_map, map, take, drop, reverse}
use Rattle.std.specs.List.{AllByRecursion}
use Rattle.tocmark_event.specs.declared.event.TagEnd.{TagEnd}
use Rattle.tocmark_event.specs.View.{EventView, Start, End, Leaf, LeafView, Text, Html, end_of}
use Rattle.tocmark_reader.specs.Emitted.{ItemView, NodeView, Container, Source, Given, source_text, emitted}
use Rattle.tocmark_reader.specs.Range.{snapped}
use Rattle.tocmark_commonmark.specs.Blocks.{blocks_of}
use Rattle.tocmark_commonmark.specs.Events.{events_of}
use Rattle.tocmark_inline_laws.specs.Said.{Piece, letters}
use Rattle.tocmark_standard_laws.specs.Labels.{destinations_of}
use Rattle.tocmark_standard_laws.specs.Lettered.{lettered}
use Rattle.tocmark_standard_laws.specs.SaidBlocks.{html_at, blocks_said}

-- the ends of these containers, the innermost first
abbrev pub end_events : List TagEnd → List EventView
end_events ends = map (λ (e : TagEnd). End e) (reverse ends)

-- the ends of the containers from a depth on, the innermost first
abbrev pub ends_from : ℕ → List TagEnd → List EventView
ends_from depth stack = end_events (drop depth stack)

abbrev pub opened : EventView → List TagEnd → List TagEnd
opened (Start t) stack = stack ++ end_of t ∷ []
opened e stack = stack

-- the events of what is said, in these containers
abbrev pub ended : List TagEnd → List Piece → List EventView
ended stack [] = ends_from 0 stack
ended stack (p ∷ ps) = ends_from (p.0) stack ++ (p.1 ∷ ended (opened (p.1) (take (p.0) stack)) ps)

-- 3.1: the declared events of every text are those of what its declared blocks say
abbrev pub DeclaredEventsAreSaid : Type 0
DeclaredEventsAreSaid = (text : List ℕ) → lettered (events_of text) ≡ ended [] (blocks_said (destinations_of text) 0 false (blocks_of text))

-- what a leaf shows at a depth
abbrev pub leaf_shows : ℕ → LeafView → List Piece
leaf_shows depth (Text t) = letters depth t
leaf_shows depth (Html t) = html_at depth t
leaf_shows depth l = (depth, Leaf l) ∷ []

-- what an item shows, which has a range
abbrev pub item_shows : List ℕ → ℕ → ℕ × ℕ → ItemView → List Piece
item_shows text depth range (Container t) = (depth, Start t) ∷ []
item_shows text depth range Source = letters depth (source_text text range)
item_shows text depth range (Given l) = leaf_shows depth l

-- what a node shows
abbrev pub node_shows : List ℕ → NodeView → List Piece
node_shows text n = item_shows text n.depth (snapped text n.start n.end) n.item

-- nodes, one after the other
abbrev pub nodes_show : List ℕ → List NodeView → List Piece
nodes_show text ns = flat_map (node_shows text) ns

-- something
abbrev pub IsSome : List Piece → Type 0
IsSome [] = ⊥
IsSome (p ∷ ps) = Unit {0}

-- the events of nodes that all show something are those of what they show
abbrev pub NodesAreEmitted : Type 0
NodesAreEmitted =
    (text : List ℕ) (nodes : List NodeView) → AllByRecursion (λ (n : NodeView). IsSome (node_shows text n)) nodes
    → lettered (map (λ (e : EventView × (ℕ × ℕ)). e.0) (emitted text nodes)) ≡ ended [] (nodes_show text nodes)

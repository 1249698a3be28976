-- The events of a list of nodes.
use Rattle.std.specs.Prelude.{ℕ, false, List, [], ◌∷◌, ◌++◌, map, reverse, take, drop}
use Rattle.std.specs.List.{fold}
use Rattle.tocmark_read_scan.specs.Basic.{bytes_between}
use Rattle.tocmark_reader.specs.Words.{cleaned}
use Rattle.tocmark_event.specs.Text.{ParserEvent, text_of}
use Rattle.tocmark_event.specs.View.{EventView, Start, End, Leaf, TagView, LeafView, Text, event_view, end_of}
use Rattle.tocmark_reader.specs.Range.{snapped}
use Rattle.tocmark_reader.specs.declared.emit.Emission.{Emission}
use Rattle.tocmark_reader.specs.declared.emit.Open.{Open}

-- what is at a node: a container, the text of the node's own range, or a leaf as it is given
pub data ItemView : Type 0 where
  Container : TagView → ItemView
  Source : ItemView
  Given : LeafView → ItemView

-- a node lies in the nearest node before it that is less deep
pub record NodeView : Type 0 where
  pub depth : ℕ
  pub item : ItemView
  pub start : ℕ
  pub end : ℕ

-- an event with its range, as a reading shows it
abbrev pub shown : ParserEvent × (ℕ × ℕ) → EventView × (ℕ × ℕ)
shown e = (event_view text_of e.0, e.1)

-- the events so far, and the containers that are open, the outermost first
pub record Writing : Type 0 where
  pub events : List (EventView × (ℕ × ℕ))
  pub stack : List Open

-- what is written so far as plain values
abbrev pub emission_view : Emission → Writing
emission_view e = record { events = map shown e.events.items; stack = e.stack.items }

-- the End of a container, with the range of its Start
abbrev pub end_event : Open → EventView × (ℕ × ℕ)
end_event o = (End o.end, o.range)

-- the Ends of the containers from a depth on, the innermost first
abbrev pub closings : ℕ → List Open → List (EventView × (ℕ × ℕ))
closings depth stack = map end_event (reverse (drop depth stack))

-- all containers from a depth on are ended
abbrev pub closed : ℕ → Writing → Writing
closed depth w = record { events = w.events ++ closings depth w.stack; stack = take depth w.stack }

-- one more event, with which no container begins or ends
abbrev pub with_event : EventView → ℕ × ℕ → Writing → Writing
with_event event range w = record { events = w.events ++ (event, range) ∷ []; stack = w.stack }

-- one more leaf
abbrev pub with_leaf : LeafView → ℕ × ℕ → Writing → Writing
with_leaf leaf range w = with_event (Leaf leaf) range w

-- the text of a range of the source
abbrev pub source_text : List ℕ → ℕ × ℕ → List ℕ
source_text text range = cleaned (bytes_between text (range.0) (range.1)) false

-- one more item, with this range
abbrev pub put : List ℕ → ItemView → ℕ × ℕ → Writing → Writing
put text (Container tag) range w = record {
  events = w.events ++ (Start tag, range) ∷ [];
  stack = w.stack ++ record { end = end_of tag; range = range } ∷ [];
}
put text Source range w = with_leaf (Text (source_text text range)) range w
put text (Given leaf) range w = with_leaf leaf range w

-- a node ends the containers that it doesn't lie in, and is put after them
abbrev pub step : List ℕ → Writing → NodeView → Writing
step text w node = put text node.item (snapped text node.start node.end) (closed node.depth w)

-- the events of all nodes; at the end every container is ended
abbrev pub emitted : List ℕ → List NodeView → List (EventView × (ℕ × ℕ))
emitted text nodes = (closed 0 (fold (step text) (record { events = []; stack = [] }) nodes)).events

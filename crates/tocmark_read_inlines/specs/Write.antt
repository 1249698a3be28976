-- The second pass over a leaf's text: from what each byte is to nodes.
use Rattle.std.specs.Prelude.{ℕ, ◌-◌, max, Bool, true, ◌&&◌, nat_lt, nat_le, if◌then◌else◌, List, [], ◌∷◌, ◌++◌, fold, slice_get, Option, Some, None, unwrap_or}
use Rattle.tocmark_read_scan.specs.Basic.{plus}
use Rattle.tocmark_read_spans.specs.declared.role.MarkedByte.{MarkedByte}
use Rattle.tocmark_read_spans.specs.declared.role.Role.{Role}
use Rattle.tocmark_read_spans.specs.declared.role.Role.TheVariants.{Plain, Fresh, Hidden, Open, Close, Single}
use Rattle.tocmark_read_spans.specs.declared.role.Leaf.{Leaf}
use Rattle.tocmark_read_spans.specs.declared.role.Span.{Span}
use Rattle.tocmark_read_inlines.specs.declared.write.InlineKind.{InlineKind}
use Rattle.tocmark_read_inlines.specs.declared.write.InlineKind.TheVariants as item
use Rattle.tocmark_read_inlines.specs.declared.write.Node.{Node}
use Rattle.tocmark_read_inlines.specs.declared.write.Writer.{Writer}

-- the nodes so far, the depth, and where the open text began
pub record State : Type 0 where
  pub nodes : List Node
  pub depth : ℕ
  pub text : Option ℕ
  pub place : ℕ
  pub resume : ℕ

-- a writer as its list and places
abbrev pub writing : Writer → State
writing w = record { nodes = w.nodes.items; depth = w.depth; text = w.text; place = w.place; resume = w.resume }

-- one more node
unfoldable pub pushed : InlineKind → ℕ → ℕ → State → State
pushed i start end s = record s { nodes = s.nodes ++ record { depth = s.depth; item = i; start = start; end = end } ∷ [] }

-- no text is open
abbrev pub without_text : State → State
without_text s = record s { text = None }

-- the text from there on is a node
abbrev pub flushed_from : Option ℕ → State → State
flushed_from None s = s
flushed_from (Some start) s = without_text (pushed item.Text start s.place s)

-- the open text ends
unfoldable pub flushed : State → State
flushed s = flushed_from s.text s

-- one level deeper
abbrev pub deeper : State → State
deeper s = record s { depth = plus s.depth 1 }

-- a container begins
unfoldable pub opened : Span → ℕ → State → State
opened span end s = let t = flushed s in deeper (pushed (item.Span span) t.place end t)

-- a container ends
unfoldable pub closed : ℕ → State → State
closed end s = let t = flushed s in record t { depth = t.depth - 1; resume = end }

-- roles are read again from there on
abbrev pub resumed : ℕ → State → State
resumed end s = record s { resume = end }

-- a leaf
unfoldable pub single : Leaf → ℕ → State → State
single leaf end s = let t = flushed s in resumed end (pushed (item.Leaf leaf) t.place end t)

-- a text is open
abbrev pub texted : State → Option ℕ → State
texted s None = record s { text = Some s.place }
texted s (Some start) = s

-- a text goes on or begins
abbrev pub gone_on : State → State
gone_on s = texted s s.text

-- a text begins here
abbrev pub fresh : State → State
fresh s = record s { text = Some s.place }

-- what one byte is
unfoldable pub shown : Role → State → State
shown Plain s = gone_on s
shown Fresh s = fresh (flushed s)
shown Hidden s = flushed s
shown (Open span end) s = opened span end s
shown (Close end) s = closed end s
shown (Single leaf end) s = single leaf end s

-- the next place
abbrev pub next_place : State → State
next_place s = record s { place = plus s.place 1 }

-- one byte further
unfoldable pub role_step : State → Role → State
role_step s role = next_place (if nat_le s.resume s.place then shown role s else s)

-- the text that is open, or one from a place on
abbrev pub begun_at : ℕ → Option ℕ → Option ℕ
begun_at place None = Some place
begun_at place (Some start) = Some start

-- plain bytes up to a place
unfoldable pub passed : ℕ → State → State
passed end s =
    let from = max s.resume s.place in
    record s { text = if nat_lt from end then begun_at from s.text else s.text; place = end }

-- plain bytes up to a mark, and the byte that has it
unfoldable pub mark_step : State → MarkedByte → State
mark_step s m = role_step (passed m.place s) m.role

-- a mark is from a place on and before another
unfoldable pub is_between : MarkedByte → ℕ → ℕ → Bool
is_between m place end = nat_le place m.place && nat_lt m.place end

-- marks are one after the other, from a place on and before another
abbrev pub ascend : ℕ → ℕ → List MarkedByte → Bool
ascend place end [] = true
ascend place end (m ∷ ms) = is_between m place end && ascend (plus m.place 1) end ms

-- nothing is written yet
abbrev pub write_start : ℕ → State
write_start depth = record { nodes = []; depth = depth; text = None; place = 0; resume = 0 }

-- the nodes of the roles of a text's bytes
unfoldable pub written : List Role → ℕ → List Node
written roles depth = (flushed (fold role_step (write_start depth) roles)).nodes

-- a node with its range in the source
unfoldable pub moved : List (ℕ × ℕ) → Node → Node
moved places node = record node {
  start = (unwrap_or (slice_get places node.start) (0, 0)).0;
  end = (unwrap_or (slice_get places (node.end - 1)) (0, 0)).1;
}

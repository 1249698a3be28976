-- The inlines of a document's leaves, one after the other.
use Rattle.std.specs.Prelude.{ℕ, ◌==◌, if◌then◌else◌, List, [], ◌++◌, length, map, replicate, slice_set, Option}
use Rattle.std.specs.List.{fold}
use Rattle.tocmark_read_scan.specs.Basic.{plus}
use Rattle.tocmark_read_scan.specs.Content as content
use Rattle.tocmark_read_scan.specs.declared.syntax.TheConstants.{CORE}
use Rattle.tocmark_read_scan.specs.declared.syntax.Syntax.{Syntax}
use Rattle.tocmark_read_inlines.specs.Scan as scan
use Rattle.tocmark_read_inlines.specs.Write.{written, moved}
use Rattle.tocmark_read_spans.specs.declared.definitions.Entry.{Entry}
use Rattle.tocmark_read_inlines.specs.declared.inlines.Inlines.{Inlines}
use Rattle.tocmark_read_spans.specs.declared.role.Role.{Role}
use Rattle.tocmark_read_spans.specs.declared.role.Role.TheVariants.{Plain, Fresh}
use Rattle.tocmark_read_spans.specs.declared.role.Stretch.{Stretch}
use Rattle.tocmark_read_spans.specs.declared.role.Target.{Target}
use Rattle.tocmark_read_inlines.specs.declared.write.Node.{Node}

-- the nodes of the leaves so far, and the texts, targets and missed labels beside them
pub record State : Type 0 where
  pub nodes : List Node
  pub targets : List Target
  pub texts : List ℕ
  pub missed : List Stretch

-- inlines as lists
abbrev pub inlines_view : Inlines → State
inlines_view v = record { nodes = v.nodes.items; targets = v.targets.items; texts = v.texts.items; missed = v.missed.items }

-- the pass at the front of a text of so many bytes
unfoldable pub scan_start : ℕ → List Target → List ℕ → List Stretch → scan.State
scan_start length targets texts missed = record {
  roles = replicate length Plain;
  runs = [];
  brackets = [];
  inactive = 0;
  place = 0;
  resume = 0;
  targets = targets;
  texts = texts;
  missed = missed;
}

-- the nodes of one more leaf after the others
abbrev pub inlines_from : content.State → ℕ → scan.State → State → State
inlines_from leaf depth after s = record {
  nodes = s.nodes ++ map (moved leaf.places) (written after.roles depth);
  targets = after.targets;
  texts = after.texts;
  missed = after.missed;
}

-- one more leaf: what each byte is, nodes, their ranges in the source
unfoldable pub read_inlines_in : Syntax → content.State → ℕ → (List ℕ → Option Entry) → State → State
read_inlines_in syntax leaf depth definitions s =
    inlines_from leaf depth (scan.scanned_in syntax leaf.bytes definitions (scan_start (length leaf.bytes) s.targets s.texts s.missed)) s

-- one more byte of a cell, and the next place: a bar begins a text
unfoldable pub bar_step : ℕ × List Role → ℕ → ℕ × List Role
bar_step (place, roles) b = (plus place 1, if b == 124 then slice_set roles place Fresh else roles)

-- each bar begins a text
abbrev pub bars_marked : List ℕ → List Role → List Role
bars_marked bytes roles = (fold bar_step (0, roles) bytes).1

-- the pass at the front of a cell
abbrev pub cell_start : List ℕ → scan.State → scan.State
cell_start bytes s = record s { roles = bars_marked bytes s.roles }

-- one more cell of a table
unfoldable pub read_cell_in : Syntax → content.State → ℕ → (List ℕ → Option Entry) → State → State
read_cell_in syntax leaf depth definitions s =
    inlines_from leaf depth
    (scan.scanned_in syntax leaf.bytes definitions (cell_start leaf.bytes (scan_start (length leaf.bytes) s.targets s.texts s.missed))) s

-- the same of CommonMark alone
abbrev pub read_inlines : content.State → ℕ → (List ℕ → Option Entry) → State → State
read_inlines = read_inlines_in CORE

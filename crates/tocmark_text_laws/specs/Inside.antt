-- How deep the inlines of a leaf are.
use Rattle.std.specs.Prelude.{ℕ, ◌+◌, ◌-◌, ◌^◌, ◌<◌, ◌≤◌, List, [], length, Option}
use Rattle.std.specs.List.{AllByRecursion}
use Rattle.tocmark_read_scan.specs.Content as content
use Rattle.tocmark_read_spans.specs.declared.definitions.Entry.{Entry}
use Rattle.tocmark_read_inlines.specs.Inlines.{State, read_inlines}
use Rattle.tocmark_read_inlines.specs.declared.write.Node.{Node}

-- no CommonMark inline of a leaf ends a container that none of them began: each is as deep as the first, or deeper
abbrev pub InlinesStayInside : Type 0
InlinesStayInside = (leaf : content.State) (depth : ℕ) (definitions : List ℕ → Option Entry) (s : State) → depth + length leaf.bytes < 2 ^ 64 - 1
    → AllByRecursion (λ (n : Node). depth ≤ n.depth) (read_inlines leaf depth definitions (record s { nodes = [] })).nodes

-- How the inlines of a leaf nest.
use Rattle.std.specs.Prelude.{ℕ, ◌+◌, ◌-◌, ◌*◌, ◌^◌, ◌<◌, ◌≤◌, nat_lt, List, [], ◌∷◌, length, take_while, Option}
use Rattle.std.specs.List.{AllByRecursion}
use Rattle.std.specs.Str.{IsUtf8}
use Rattle.tocmark_read_scan.specs.declared.syntax.TheConstants.{CORE}
use Rattle.tocmark_read_spans.specs.declared.definitions.Entry.{Entry}
use Rattle.tocmark_read_inlines.specs.Inlines.{State, scan_start, read_inlines}
use Rattle.tocmark_read_inlines.specs.Scan.{scanned_in}
use Rattle.tocmark_read_inlines.specs.Write.{written}
use Rattle.tocmark_read_inlines.specs.declared.write.Node.{Node}
use Rattle.tocmark_text_laws.specs.SourceOrder.{leaf_of}

-- the range of an inline lies in that of another one
pub record IsWithin (n m : Node) : Type 0 where
  pub begins : n.start ≤ m.start
  pub ends : m.end ≤ n.end

-- the inlines that one contains: those after it that are deeper, up to one that isn't
abbrev pub inner : Node → List Node → List Node
inner n ms = take_while (λ (m : Node). nat_lt n.depth m.depth) ms

-- the ranges of all inlines lie in those of the inlines that contain them
abbrev pub Nest : List Node → Type 0
Nest [] = Unit
Nest (n ∷ ns) = AllByRecursion (IsWithin n) (inner n ns) × Nest ns

-- so it is with the inlines of a CommonMark leaf, in the source
abbrev pub InlinesNest : Type 0
InlinesNest = (text : List ℕ) (first last depth : ℕ) (definitions : List ℕ → Option Entry) (s : State) → IsUtf8 text → 4 * length text + 1 < 2 ^ 64 → depth + length (leaf_of text first last).bytes < 2 ^ 64 - 1
    → Nest (read_inlines (leaf_of text first last) depth definitions (record s { nodes = [] })).nodes

-- and with their ranges in the leaf's text, before they become ranges of the source
abbrev pub InlinesNestInTheirLeaf : Type 0
InlinesNestInTheirLeaf = (bytes : List ℕ) (depth : ℕ) (definitions : List ℕ → Option Entry) (s : State) → depth + length bytes < 2 ^ 64 - 1
    → Nest (written (scanned_in CORE bytes definitions (scan_start (length bytes) s.targets s.texts s.missed)).roles depth)

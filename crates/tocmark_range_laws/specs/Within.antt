-- What lies within the range of each block.
use Rattle.std.specs.Prelude.{ℕ, ◌+◌, ◌-◌, ◌*◌, ◌^◌, ◌<◌, ◌≤◌, List, [], length, Option}
use Rattle.std.specs.List.{AllByRecursion}
use Rattle.std.specs.Str.{IsUtf8}
use Rattle.tocmark_read_scan.specs.declared.syntax.TheConstants.{CORE}
use Rattle.tocmark_read_page.specs.declared.page.Block.{Block}
use Rattle.tocmark_read_page.specs.declared.piece.Piece.{Piece}
use Rattle.tocmark_read_blocks.specs.Blocks.{blocks_in}
use Rattle.tocmark_read_spans.specs.declared.definitions.Entry.{Entry}
use Rattle.tocmark_read_inlines.specs.Inlines.{State, read_inlines}
use Rattle.tocmark_read_inlines.specs.declared.write.Node.{Node}
use Rattle.tocmark_reader.specs.Pages.{pieces_of}
use Rattle.tocmark_text_laws.specs.SourceOrder.{leaf_of}

-- a line of a leaf begins at a place or after it, and ends at another one or before it
pub record Lies (from to : ℕ) (p : Piece) : Type 0 where
  pub begins : from ≤ p.start
  pub ends : p.end ≤ to

-- so do the lines of each CommonMark block, at the places where it begins and ends
abbrev pub LinesLieInTheirBlocks : Type 0
LinesLieInTheirBlocks = (text : List ℕ) → 4 * length text + 1 < 2 ^ 64
    → AllByRecursion (λ (b : Block). AllByRecursion (Lies b.start b.end) (pieces_of (blocks_in CORE text).pieces b.first b.last)) (blocks_in CORE text).blocks

-- an inline begins where a block does or after it, and ends where that does or before it
pub record IsIn (b : Block) (n : Node) : Type 0 where
  pub begins : b.start ≤ n.start
  pub ends : n.end ≤ b.end

-- so do the inlines of the lines of each CommonMark block
abbrev pub InlinesLieInTheirBlocks : Type 0
InlinesLieInTheirBlocks = (text : List ℕ) (depth : ℕ) (definitions : List ℕ → Option Entry) (s : State) → IsUtf8 text → 4 * length text + 1 < 2 ^ 64
    → AllByRecursion (λ (b : Block). length (leaf_of text b.first b.last).bytes < 2 ^ 64 - 1 → AllByRecursion (IsIn b) (read_inlines (leaf_of text b.first b.last) depth definitions (record s { nodes = [] })).nodes) (blocks_in CORE text).blocks

-- and so it is with each text of less than a gibibyte
abbrev pub ShortInlinesLieInTheirBlocks : Type 0
ShortInlinesLieInTheirBlocks = (text : List ℕ) (depth : ℕ) (definitions : List ℕ → Option Entry) (s : State) → IsUtf8 text → length text < 2 ^ 30
    → AllByRecursion (λ (b : Block). AllByRecursion (IsIn b) (read_inlines (leaf_of text b.first b.last) depth definitions (record s { nodes = [] })).nodes) (blocks_in CORE text).blocks

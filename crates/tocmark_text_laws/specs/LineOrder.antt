-- The order of the lines of leaves.
use Rattle.std.specs.Prelude.{ℕ, ◌+◌, ◌*◌, ◌^◌, ◌<◌, ◌≤◌, List, [], ◌∷◌, length}
use Rattle.tocmark_read_scan.specs.declared.syntax.TheConstants.{CORE}
use Rattle.tocmark_read_page.specs.declared.piece.Piece.{Piece}
use Rattle.tocmark_read_blocks.specs.Blocks.{blocks_in}

-- lines of leaves from one place to another: each begins where the one before it ends, or after it
abbrev pub Rise : ℕ → ℕ → List Piece → Type 0
Rise from to [] = from ≤ to
Rise from to (p ∷ ps) = (from ≤ p.start) × (p.start ≤ p.next) × Rise p.next to ps

-- so it is with the lines of all CommonMark leaves of each text
abbrev pub LinesOfLeavesAreInOrder : Type 0
LinesOfLeavesAreInOrder = (text : List ℕ) → 4 * length text + 1 < 2 ^ 64 → Rise 0 (length text) (blocks_in CORE text).pieces

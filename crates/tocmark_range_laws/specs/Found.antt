-- Where each line of a text is found.
use Rattle.std.specs.Prelude.{◌≡◌, ℕ, ◌+◌, ◌*◌, ◌^◌, ◌<◌, ◌≤◌, true, List, [], ◌∷◌, codes, length, map, slice_get, Some}
use Rattle.std.specs.List.{AllByRecursion}
use Rattle.tocmark_read_scan.specs.Basic.{bytes_between}
use Rattle.tocmark_read_scan.specs.declared.syntax.TheConstants.{CORE}
use Rattle.tocmark_read_lines.specs.Lines.{lines_of}
use Rattle.tocmark_read_lines.specs.declared.line.Line.{Line}
use Rattle.tocmark_read_page.specs.declared.page.Block.{Block}
use Rattle.tocmark_read_page.specs.declared.piece.Piece.{Piece}
use Rattle.tocmark_read_blocks.specs.Blocks.{blocks_in}
use Rattle.tocmark_text_laws.specs.Loose.{has_ink}

-- the range of a block meets a line: it begins in it or before it, and ends in it or after it
pub record Meets (l : Line) (b : Block) : Type 0 where
  pub begins : b.start ≤ l.end
  pub ends : l.start ≤ b.end

-- a line of a leaf, or of definitions of links, is a part of a line of the text, and has a byte
pub record IsLineOf (l : Line) (p : Piece) : Type 0 where
  pub after : l.start ≤ p.start
  pub some : p.start < p.end
  pub before : p.end ≤ l.end

-- one of a list is so
pub record HasOne {A : Type 0} (Q : A → Type 0) (xs : List A) : Type 0 where
  pub index : ℕ
  pub one : A
  pub got : slice_get xs index ≡ Some one
  pub holds : Q one

-- where a line is found
pub data IsFound (blocks : List Block) (pieces : List Piece) (l : Line) : Type 0 where
  InBlock : HasOne (Meets l) blocks → IsFound blocks pieces l
  InLeaf : HasOne (IsLineOf l) pieces → IsFound blocks pieces l

-- each line of each text is found that has a byte which is neither a space, nor a tab, nor `>`
abbrev pub LinesAreFound : Type 0
LinesAreFound = (text : List ℕ) → 4 * length text + 1 < 2 ^ 64
    → AllByRecursion (λ (l : Line). has_ink (bytes_between text l.start l.end) ≡ true → IsFound (blocks_in CORE text).blocks (blocks_in CORE text).pieces l) (lines_of text)

-- where a text has no definitions of links, each such line meets the range of a block
abbrev pub LinesMeetBlocks : Type 0
LinesMeetBlocks = (text : List ℕ) → 4 * length text + 1 < 2 ^ 64 → (blocks_in CORE text).definitions ≡ []
    → AllByRecursion (λ (l : Line). has_ink (bytes_between text l.start l.end) ≡ true → HasOne (Meets l) (blocks_in CORE text).blocks) (lines_of text)

-- where the blocks of a text begin and end
abbrev pub ranges_in : List ℕ → List (ℕ × ℕ)
ranges_in text = map (λ (b : Block). (b.start, b.end)) (blocks_in CORE text).blocks

-- where the lines of its leaves begin and end, with those of definitions of links
abbrev pub leaf_lines_in : List ℕ → List (ℕ × ℕ)
leaf_lines_in text = map (λ (p : Piece). (p.start, p.end)) (blocks_in CORE text).pieces

-- Some texts. In the first one, an item has a heading with an underline, which is in no line of a leaf. In the second one, fences are in
-- none. In the third one, a definition of a link is in no block, but in a line of a leaf. In the fourth one, the quote ends with a line
-- that is `>` alone.
abbrev pub SomeTexts : Type 0
SomeTexts =
    ((ranges_in (codes "- a\n  -\n") ≡ (0, 7) ∷ (0, 7) ∷ (2, 7) ∷ []) × (leaf_lines_in (codes "- a\n  -\n") ≡ (2, 3) ∷ []))
    × ((ranges_in (codes "```\na\n```") ≡ (0, 9) ∷ []) × (leaf_lines_in (codes "```\na\n```") ≡ (4, 5) ∷ []))
    × ((ranges_in (codes "[a]: b\nc") ≡ (7, 8) ∷ []) × (leaf_lines_in (codes "[a]: b\nc") ≡ (0, 6) ∷ (7, 8) ∷ []))
    × ((ranges_in (codes "> a\n>\n") ≡ (0, 5) ∷ (2, 3) ∷ []) × (leaf_lines_in (codes "> a\n>\n") ≡ (2, 3) ∷ []))

-- The content of a leaf is the text that its lines are declared to have.
use Rattle.std.specs.Prelude.{ℕ, ◌≡◌, false, ◌==◌, List, map}
use Rattle.std.specs.List.{list_any}
use Rattle.tocmark_read_scan.specs.Content.{content_of}
use Rattle.tocmark_read_page.specs.declared.piece.Piece.{Piece}
use Rattle.tocmark_reader.specs.Pages.{content_line}
use Rattle.tocmark_block_laws.specs.Quotes.{ends_with_feed}
use Rattle.tocmark_block_laws.specs.Trees.{leaf_text}

-- the bytes that the reader scans for inlines, of these lines of a text
abbrev pub content_bytes : List ℕ → List Piece → List ℕ
content_bytes text ps = (content_of text (map content_line ps)).bytes

-- no byte is U+0000
abbrev pub HasNoZero : List ℕ → Type 0
HasNoZero text = list_any (λ b. b == 0) text ≡ false

-- 4.8: the content of lines is their declared text, unless this ends with a line feed; so it does only if the last line is blank
abbrev pub ContentsAreDeclared : Type 0
ContentsAreDeclared = (text : List ℕ) (ps : List Piece) → HasNoZero text → ends_with_feed (leaf_text text ps) ≡ false → content_bytes text ps ≡ leaf_text text ps

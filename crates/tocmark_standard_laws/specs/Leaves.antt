-- The inlines of the leaves of a text are those that are declared.
use Rattle.std.specs.Prelude.{ℕ, ◌+◌, ◌^◌, ◌<◌, ◌≡◌, false, List, ◌++◌, length}
use Rattle.tocmark_read_page.specs.declared.piece.Piece.{Piece}
use Rattle.tocmark_read_spans.specs.declared.role.Stretch.{Stretch}
use Rattle.tocmark_read_spans.specs.declared.role.Target.{Target}
use Rattle.tocmark_commonmark.specs.Inlines.{inlines}
use Rattle.tocmark_block_laws.specs.Quotes.{ends_with_feed}
use Rattle.tocmark_block_laws.specs.Trees.{leaf_text}
use Rattle.tocmark_inline_laws.specs.Said.{said, declared}
use Rattle.tocmark_standard_laws.specs.Contents.{content_bytes}
use Rattle.tocmark_standard_laws.specs.Labels.{collected_of, entry_in, destinations_of, IsOfLeaves}

-- the inlines of a leaf with these lines, whatever the leaves before it added to texts, targets and missed labels
abbrev pub IsLeafRead : List ℕ → List Piece → Type 0
IsLeafRead text ps =
    (targets : List Target) (further : List ℕ) (missed : List Stretch)
    → said (content_bytes text ps) (entry_in text) targets ((collected_of text).texts ++ further) missed ≡ declared 0 (inlines (destinations_of text) (leaf_text text ps))

-- chapter 6: in such a text each leaf has the inlines that its lines and the document's definitions are declared to give
abbrev pub LeavesAreReadAsDeclared : Type 0
LeavesAreReadAsDeclared =
    (text : List ℕ) → IsOfLeaves text → (ps : List Piece) → ends_with_feed (leaf_text text ps) ≡ false → length (leaf_text text ps) + 2 < 2 ^ 64 → IsLeafRead text ps

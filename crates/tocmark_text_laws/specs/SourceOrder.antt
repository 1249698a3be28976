-- The order of the inlines of a leaf in the source.
use Rattle.std.specs.Prelude.{◌≡◌, ℕ, ◌+◌, ◌-◌, ◌*◌, ◌^◌, ◌<◌, ◌≤◌, List, [], ◌∷◌, length, map, Option}
use Rattle.std.specs.List.{AllByRecursion}
use Rattle.std.specs.Str.{IsUtf8}
use Rattle.tocmark_read_scan.specs.Content as content
use Rattle.tocmark_read_scan.specs.declared.syntax.TheConstants.{CORE}
use Rattle.tocmark_read_spans.specs.declared.role.Role.{Role}
use Rattle.tocmark_read_spans.specs.declared.definitions.Entry.{Entry}
use Rattle.tocmark_read_inlines.specs.Inlines.{State, read_inlines}
use Rattle.tocmark_read_inlines.specs.Write.{written, moved}
use Rattle.tocmark_read_inlines.specs.declared.write.Node.{Node}
use Rattle.tocmark_read_blocks.specs.Blocks.{blocks_in}
use Rattle.tocmark_reader.specs.Pages.{content_line, pieces_of}
use Rattle.tocmark_text_laws.specs.InlineOrder.{AreInOrder}

-- the text of these lines of the CommonMark leaves of a text, with the range of the source for each of its bytes
abbrev pub leaf_of : List ℕ → ℕ → ℕ → content.State
leaf_of text first last = content.content_of text (map content_line (pieces_of (blocks_in CORE text).pieces first last))

-- no inline begins before one that comes before it
abbrev pub BeginInOrder : List Node → Type 0
BeginInOrder [] = Unit
BeginInOrder (n ∷ ns) = AllByRecursion (λ (m : Node). n.start ≤ m.start) ns × BeginInOrder ns

-- so it is with the ranges that the inlines of a leaf have in the source, whatever roles the bytes of its text have
abbrev pub InlinesFollowTheSource : Type 0
InlinesFollowTheSource = (text : List ℕ) (first last depth : ℕ) (roles : List Role) → IsUtf8 text → 4 * length text + 1 < 2 ^ 64 → length roles ≡ length (leaf_of text first last).bytes → length roles + 1 < 2 ^ 64
    → BeginInOrder (map (moved (leaf_of text first last).places) (written roles depth))

-- in CommonMark, moreover, a text among them ends where a later one begins, or before
abbrev pub InlinesAreInOrderInTheSource : Type 0
InlinesAreInOrderInTheSource = (text : List ℕ) (first last depth : ℕ) (definitions : List ℕ → Option Entry) (s : State) → IsUtf8 text → 4 * length text + 1 < 2 ^ 64 → length (leaf_of text first last).bytes < 2 ^ 64 - 1
    → AreInOrder (read_inlines (leaf_of text first last) depth definitions (record s { nodes = [] })).nodes

-- Where the inlines of a leaf, and so all events of a text, are in the source.
use Rattle.std.specs.Prelude.{ℕ, ◌+◌, ◌-◌, ◌*◌, ◌^◌, ◌<◌, ◌≤◌, List, [], ◌∷◌, length, Option}
use Rattle.std.specs.List.{AllByRecursion}
use Rattle.std.specs.Str.{IsUtf8}
use Rattle.tocmark_read_scan.specs.declared.syntax.TheConstants.{CORE}
use Rattle.tocmark_read_spans.specs.declared.definitions.Entry.{Entry}
use Rattle.tocmark_read_inlines.specs.Inlines.{State, read_inlines}
use Rattle.tocmark_read_inlines.specs.declared.write.Node.{Node}
use Rattle.tocmark_read_blocks.specs.Blocks.{blocks_in}
use Rattle.tocmark_read_page.specs.declared.piece.Piece.{Piece}
use Rattle.tocmark_reader.specs.Emitted.{NodeView}
use Rattle.tocmark_reader.specs.Pages.{pieces_of}
use Rattle.tocmark_reader.specs.Reading.{found_in}
use Rattle.tocmark_text_laws.specs.Proper.{IsCounted}
use Rattle.tocmark_text_laws.specs.Ranges.{IsInPlace}
use Rattle.tocmark_text_laws.specs.SourceOrder.{leaf_of}

-- the range of each inline of a CommonMark leaf is in order, within the text and on boundaries of characters
abbrev pub InlinesAreInPlace : Type 0
InlinesAreInPlace = (text : List ℕ) (first last depth : ℕ) (definitions : List ℕ → Option Entry) (s : State) → IsUtf8 text → 4 * length text + 1 < 2 ^ 64 → length (leaf_of text first last).bytes < 2 ^ 64 - 1
    → AllByRecursion (λ (n : Node). IsInPlace text (n.start, n.end)) (read_inlines (leaf_of text first last) depth definitions (record s { nodes = [] })).nodes

-- the last of some lines
abbrev pub last_of : Piece → List Piece → Piece
last_of p [] = p
last_of p (q ∷ qs) = last_of q qs

-- an inline begins where the first of these lines does, or after it, and ends where the last one does, or before
abbrev pub LiesIn : List Piece → Node → Type 0
LiesIn [] n = ⊥
LiesIn (p ∷ ps) n = (p.start ≤ n.start) × (n.end ≤ (last_of p ps).end)

-- so do all inlines of a CommonMark leaf that has these lines
abbrev pub InlinesLieInTheirLines : Type 0
InlinesLieInTheirLines = (text : List ℕ) (first last depth : ℕ) (definitions : List ℕ → Option Entry) (s : State) → IsUtf8 text → 4 * length text + 1 < 2 ^ 64 → length (leaf_of text first last).bytes < 2 ^ 64 - 1
    → AllByRecursion (LiesIn (pieces_of (blocks_in CORE text).pieces first last)) (read_inlines (leaf_of text first last) depth definitions (record s { nodes = [] })).nodes

-- in place is the range of each node, too, that the events of a text are made of, where the depth of each block and the length of its text, together, are numbers of 64 bits
abbrev pub EventsAreInPlace : Type 0
EventsAreInPlace = (text : List ℕ) → IsUtf8 text → 4 * length text + 1 < 2 ^ 64 → AllByRecursion (IsCounted text (blocks_in CORE text).pieces) (blocks_in CORE text).blocks
    → AllByRecursion (λ (n : NodeView). IsInPlace text (n.start, n.end)) (found_in text).nodes

-- and so it is with each text of less than a gibibyte
abbrev pub ShortEventsAreInPlace : Type 0
ShortEventsAreInPlace = (text : List ℕ) → IsUtf8 text → length text < 2 ^ 30 → AllByRecursion (λ (n : NodeView). IsInPlace text (n.start, n.end)) (found_in text).nodes

-- Where the events of a reading may be.
use Rattle.std.specs.Prelude.{◌≡◌, ℕ, ◌+◌, ◌-◌, ◌^◌, ◌<◌, Bool, true, false, not, List, [], ◌∷◌, drop, length, map}
use Rattle.std.specs.List.{AllByRecursion, list_any}
use Rattle.tocmark_event.specs.View.{EventView, TagView, Start, End, Leaf, Heading, Item, ListOf, Table, TableCell, TableHead}
use Rattle.tocmark_read_scan.specs.Content.{content_of}
use Rattle.tocmark_read_scan.specs.declared.syntax.TheConstants.{CORE}
use Rattle.tocmark_read_page.specs.declared.page.Block.{Block}
use Rattle.tocmark_read_page.specs.declared.piece.Piece.{Piece}
use Rattle.tocmark_read_blocks.specs.Blocks.{blocks_in}
use Rattle.tocmark_reader.specs.Pages.{content_line, pieces_of}
use Rattle.tocmark_reader.specs.Reading.{core_reading}

abbrev pub is_heading_tag : TagView → Bool
is_heading_tag (Heading level id classes attributes) = true
is_heading_tag t = false

abbrev pub is_list_tag : TagView → Bool
is_list_tag (ListOf first) = true
is_list_tag t = false

abbrev pub is_table_tag : TagView → Bool
is_table_tag (Table alignments) = true
is_table_tag t = false

-- the innermost of these containers passes a test
abbrev pub directly_in : (TagView → Bool) → List TagView → Bool
directly_in test [] = false
directly_in test (t ∷ outside) = test t

-- a container that the writer refuses in these, the innermost first: an item not directly in a list, a heading in a heading, a cell in no table, and a head not directly in a table
abbrev pub is_refused_in : TagView → List TagView → Bool
is_refused_in Item outside = not (directly_in is_list_tag outside)
is_refused_in (Heading level id classes attributes) outside = list_any is_heading_tag outside
is_refused_in TableCell outside = not (list_any is_table_tag outside)
is_refused_in TableHead outside = not (directly_in is_table_tag outside)
is_refused_in t outside = false

-- no container begins where it is refused, in those that are open
abbrev pub NoneIsMisplaced : List TagView → List EventView → Type 0
NoneIsMisplaced outside [] = Unit
NoneIsMisplaced outside (Start t ∷ es) = (is_refused_in t outside ≡ false) × NoneIsMisplaced (t ∷ outside) es
NoneIsMisplaced outside (End k ∷ es) = NoneIsMisplaced (drop 1 outside) es
NoneIsMisplaced outside (Leaf l ∷ es) = NoneIsMisplaced outside es

-- the depth of a block and the length of its text are numbers of 64 bits, also together
abbrev pub IsCounted : List ℕ → List Piece → Block → Type 0
IsCounted text pieces b = b.depth + length (content_of text (map content_line (pieces_of pieces b.first b.last))).bytes + 1 < 2 ^ 64 - 1

-- so it is with what `CoreReader` reads of each text
abbrev pub ReadingsAreProper : Type 0
ReadingsAreProper = (text : List ℕ) → AllByRecursion (IsCounted text (blocks_in CORE text).pieces) (blocks_in CORE text).blocks → NoneIsMisplaced [] (map (λ e. e.0) (core_reading text).events)

-- Where the blocks of a text and their lines are.
use Rattle.std.specs.Prelude.{◌≡◌, ℕ, ◌+◌, ◌*◌, ◌^◌, ◌<◌, Bool, true, false, List, length}
use Rattle.std.specs.List.{AllByRecursion}
use Rattle.std.specs.Str.{IsUtf8}
use Rattle.tocmark_event.specs.View as view
use Rattle.tocmark_read_scan.specs.declared.syntax.TheConstants.{CORE}
use Rattle.tocmark_read_page.specs.declared.page.Block.{Block}
use Rattle.tocmark_read_blocks.specs.Blocks.{blocks_in}
use Rattle.tocmark_reader.specs.Emitted.{ItemView, NodeView, Container, Source, Given}
use Rattle.tocmark_reader.specs.Pages.{lines_nodes}
use Rattle.tocmark_reader.specs.Range.{IsGoodRange, snapped}
use Rattle.tocmark_reader.specs.Reading.{found_in}

-- a range is in order, within the text and on boundaries of characters, so a reader hands it out as it is and not as 0..0
pub record IsInPlace (text : List ℕ) (range : ℕ × ℕ) : Type 0 where
  pub good : IsGoodRange text range
  pub kept : snapped text range.0 range.1 ≡ range

-- the range of each CommonMark block of each text is so
abbrev pub BlocksAreInPlace : Type 0
BlocksAreInPlace = (text : List ℕ) → IsUtf8 text → 4 * length text + 1 < 2 ^ 64 → AllByRecursion (λ (b : Block). IsInPlace text (b.start, b.end)) (blocks_in CORE text).blocks

-- so is the range of each line of a leaf, with its ending, and as code or HTML that of each text that it has
abbrev pub LinesAreInPlace : Type 0
LinesAreInPlace = (text : List ℕ) (html : Bool) (depth : ℕ) → IsUtf8 text → 4 * length text + 1 < 2 ^ 64 → AllByRecursion (λ (n : NodeView). IsInPlace text (n.start, n.end)) (lines_nodes text html depth (blocks_in CORE text).pieces)

-- an item of a block: a container that isn't one of inlines, a thematic break or a line of HTML
abbrev pub is_of_block : ItemView → Bool
is_of_block (Container view.Emphasis) = false
is_of_block (Container view.Strong) = false
is_of_block (Container view.Strikethrough) = false
is_of_block (Container view.Superscript) = false
is_of_block (Container view.Subscript) = false
is_of_block (Container (view.Link k d t i)) = false
is_of_block (Container (view.Image k d t i)) = false
is_of_block (Container t) = true
is_of_block (Given view.Rule) = true
is_of_block (Given (view.Html words)) = true
is_of_block (Given leaf) = false
is_of_block Source = false

-- so is the range of each node of a block that the events of each text are made of
abbrev pub BlockEventsAreInPlace : Type 0
BlockEventsAreInPlace = (text : List ℕ) → IsUtf8 text → 4 * length text + 1 < 2 ^ 64 → AllByRecursion (λ (n : NodeView). is_of_block n.item ≡ true → IsInPlace text (n.start, n.end)) (found_in text).nodes

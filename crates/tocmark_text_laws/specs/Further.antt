-- What is read of a text after one more byte: places and numbers of lines are one further, all else is the same.
use Rattle.std.specs.Prelude.{ℕ, suc, ◌+◌, ◌^◌, ◌<◌, ◌≡◌, List, ◌∷◌, length, map}
use Rattle.std.specs.Option.{option_map}
use Rattle.tocmark_read_lines.specs.declared.cell.Cell.{Cell}
use Rattle.tocmark_read_lines.specs.declared.container.Opened.{Opened}
use Rattle.tocmark_read_lines.specs.declared.line.Line.{Line}
use Rattle.tocmark_read_scan.specs.declared.syntax.TheConstants.{CORE}
use Rattle.tocmark_read_page.specs.Pages.{State}
use Rattle.tocmark_read_blocks.specs.Blocks.{BlocksView, blocks_in}
use Rattle.tocmark_read_page.specs.declared.page.Block.{Block}
use Rattle.tocmark_read_page.specs.declared.page.Braces.{Braces}
use Rattle.tocmark_read_page.specs.declared.page.Task.{Task}
use Rattle.tocmark_read_page.specs.declared.page.BlockKind.{BlockKind}
use Rattle.tocmark_read_page.specs.declared.page.BlockKind.TheVariants as kind
use Rattle.tocmark_read_page.specs.declared.piece.Piece.{Piece}

abbrev pub cell_on : Cell → Cell
cell_on c = record { byte = c.byte; at = suc c.at }

abbrev pub line_on : Line → Line
line_on l = record { number = suc l.number; start = suc l.start; end = suc l.end; next = suc l.next }

abbrev pub opened_on : Opened → Opened
opened_on o = record { container = o.container; block = o.block; end = suc o.end; line = suc o.line; had = o.had }

abbrev pub piece_on : Piece → Piece
piece_on p = record { spaces = p.spaces; from = suc p.from; start = suc p.start; end = suc p.end; next = suc p.next }

abbrev pub braces_on : Braces → Braces
braces_on b = record { from = suc b.from; to = suc b.to }

abbrev pub task_on : Task → Task
task_on t = record { done = t.done; start = suc t.start }

abbrev pub kind_on : BlockKind → BlockKind
kind_on (kind.Quote k) = kind.Quote k
kind_on (kind.List first) = kind.List first
kind_on kind.Item = kind.Item
kind_on kind.Paragraph = kind.Paragraph
kind_on (kind.Heading level braces) = kind.Heading level (option_map braces_on braces)
kind_on kind.Indented = kind.Indented
kind_on (kind.Fenced from to) = kind.Fenced (suc from) (suc to)
kind_on kind.Html = kind.Html
kind_on kind.Rule = kind.Rule
kind_on (kind.Metadata k) = kind.Metadata k
kind_on (kind.Footnote from to) = kind.Footnote (suc from) (suc to)
kind_on (kind.Table from to) = kind.Table (suc from) (suc to)
kind_on kind.TableHead = kind.TableHead
kind_on kind.TableRow = kind.TableRow
kind_on kind.TableCell = kind.TableCell
kind_on kind.DefinitionList = kind.DefinitionList
kind_on kind.DefinitionListTitle = kind.DefinitionListTitle
kind_on kind.DefinitionListDefinition = kind.DefinitionListDefinition

abbrev pub block_on : Block → Block
block_on b = record { depth = b.depth; kind = kind_on b.kind; start = suc b.start; end = suc b.end; first = b.first; last = b.last; loose = b.loose; list = b.list; task = option_map task_on b.task }

-- a page one further, with the end and the line of the open leaf given, since they say nothing where no leaf is open
abbrev pub page_on : ℕ → ℕ → State → State
page_on e l s = record {
  blocks = map block_on s.blocks;
  pieces = map piece_on s.pieces;
  definitions = s.definitions;
  opened = map opened_on s.opened;
  quotes = s.quotes;
  leaf = s.leaf;
  end = e;
  line = l;
  kept = s.kept;
  header = s.header;
  tried = s.tried;
  left = s.left;
  filled = s.filled;
}

-- a page one further, whose open leaf ends there too
abbrev pub tied_on : State → State
tied_on s = page_on (suc s.end) (suc s.line) s

-- the blocks of a text one further
abbrev pub view_on : BlocksView → BlocksView
view_on v = record { blocks = map block_on v.blocks; pieces = map piece_on v.pieces; definitions = v.definitions }

-- an empty line in front of a text moves the places of its blocks by one, and changes nothing else
abbrev pub EmptyLineInFront : Type 0
EmptyLineInFront = (text : List ℕ) → length text + 3 < 2 ^ 64 → blocks_in CORE (10 ∷ text) ≡ view_on (blocks_in CORE text)

-- What a block quote marker in front of each line of a text makes of its blocks.
use Rattle.std.specs.Prelude.{ℕ, suc, ◌+◌, ◌*◌, ◌^◌, ◌<◌, ◌≤◌, ◌≡◌, Bool, true, false, not, ◌==◌, ◌&&◌, ◌||◌, List, [], ◌∷◌, ◌++◌, length, map, take, drop, take_while, nat_lt, replicate, Option, None}
use Rattle.std.specs.List.{list_any}
use Rattle.std.specs.Option.{option_map}
use Rattle.tocmark_event.specs.declared.event.HeadingLevel.{HeadingLevel}
use Rattle.tocmark_read_scan.specs.Basic.{bytes_between}
use Rattle.tocmark_read_scan.specs.declared.syntax.TheConstants.{CORE}
use Rattle.tocmark_read_page.specs.declared.page.Block.{Block}
use Rattle.tocmark_read_page.specs.declared.page.BlockKind.{BlockKind}
use Rattle.tocmark_read_page.specs.declared.page.BlockKind.TheVariants as kind
use Rattle.tocmark_read_page.specs.declared.piece.Piece.{Piece}
use Rattle.tocmark_read_blocks.specs.Blocks.{BlocksView, blocks_in}

-- a byte with these after it ends a line: a line feed, or a carriage return without a line feed after it (CommonMark 2.1)
abbrev pub ends_line : ℕ → List ℕ → Bool
ends_line b [] = (b == 10) || (b == 13)
ends_line b (c ∷ cs) = (b == 10) || ((b == 13) && not (c == 10))

-- A block quote marker (CommonMark 5.1): spaces, `>`, and a space that belongs to it or not.
pub record Mark : Type 0 where
  pub spaces : ℕ
  pub spaced : Bool

-- a space, if it is there
abbrev pub space_if : Bool → List ℕ
space_if true = 32 ∷ []
space_if false = []

abbrev pub mark_bytes : Mark → List ℕ
mark_bytes m = replicate m.spaces 32 ++ (62 ∷ space_if m.spaced)

-- bytes with the markers of their lines, if so many lines begin before them, and if they begin at the front of a line or not
abbrev pub marked : (ℕ → Mark) → ℕ → Bool → List ℕ → List ℕ
marked marks n front [] = []
marked marks n true (b ∷ bs) = mark_bytes (marks n) ++ (b ∷ marked marks (n + 1) (ends_line b bs) bs)
marked marks n false (b ∷ bs) = b ∷ marked marks n (ends_line b bs) bs

-- a text with a marker in front of each line
abbrev pub quoted : (ℕ → Mark) → List ℕ → List ℕ
quoted marks text = marked marks 0 true text

-- a marker before a byte: it has at most three spaces in front, and a space just after its `>` belongs to it
abbrev pub IsMark : Mark → ℕ → Type 0
IsMark m b = (m.spaces ≤ 3) × ((m.spaced || not (b == 32)) ≡ true)

-- so are the markers of all lines
abbrev pub AreMarks : (ℕ → Mark) → ℕ → Bool → List ℕ → Type 0
AreMarks marks n front [] = Unit
AreMarks marks n true (b ∷ bs) = IsMark (marks n) b × AreMarks marks (n + 1) (ends_line b bs) bs
AreMarks marks n false (b ∷ bs) = AreMarks marks n (ends_line b bs) bs

-- what a block is: a list has its first number, and fenced code its info string
pub data Sort : Type 0 where
  Quote : Sort
  ListFrom : Option ℕ → Sort
  Item : Sort
  Paragraph : Sort
  Heading : HeadingLevel → Sort
  Indented : Sort
  Fenced : List ℕ → Sort
  Html : Sort
  Rule : Sort
  Other : Sort

abbrev pub sort_of : List ℕ → BlockKind → Sort
sort_of text (kind.Quote k) = Quote
sort_of text (kind.List first) = ListFrom first
sort_of text kind.Item = Item
sort_of text kind.Paragraph = Paragraph
sort_of text (kind.Heading level braces) = Heading level
sort_of text kind.Indented = Indented
sort_of text (kind.Fenced from to) = Fenced (bytes_between text from to)
sort_of text kind.Html = Html
sort_of text kind.Rule = Rule
sort_of text k = Other

-- a line of a leaf: the spaces that are left of a tab, its bytes, and these with the line ending
pub record LineTold : Type 0 where
  pub spaces : ℕ
  pub words : List ℕ
  pub whole : List ℕ

abbrev pub line_told : List ℕ → Piece → LineTold
line_told text p = record { spaces = p.spaces; words = bytes_between text p.start p.end; whole = bytes_between text p.start p.next }

-- A block without its places: how many containers it is in, what it is, whether it is a loose list, the list that it is in as
-- an index of the blocks, and its lines.
pub record Told : Type 0 where
  pub depth : ℕ
  pub sort : Sort
  pub loose : Bool
  pub list : Option ℕ
  pub lines : List LineTold

abbrev pub told : List ℕ → List Piece → Block → Told
told text pieces b = record {
  depth = b.depth;
  sort = sort_of text b.kind;
  loose = b.loose;
  list = b.list;
  lines = map (line_told text) (drop b.first (take b.last pieces));
}

-- the blocks that were found in a text, in order
abbrev pub blocks_told : List ℕ → BlocksView → List Told
blocks_told text v = map (told text v.pieces) v.blocks

-- a quote that is in no container
abbrev pub outer_quote : Told
outer_quote = record { depth = 0; sort = Quote; loose = false; list = None; lines = [] }

-- the same block in one container more, with one block more in front
abbrev pub deeper : Told → Told
deeper b = record { depth = suc b.depth; sort = b.sort; loose = b.loose; list = option_map suc b.list; lines = b.lines }

-- A block with its lines, and with the blocks in it.
mutual
  pub data Tree : Type 0 where
    Node : Sort → Bool → List LineTold → Trees → Tree

  pub data Trees : Type 0 where
    none : Trees
    more : Tree → Trees → Trees

-- a block that is in so many containers
pub record Placed : Type 0 where
  pub depth : ℕ
  pub tree : Tree

-- blocks without their depths
abbrev pub trees_of : List Placed → Trees
trees_of [] = none
trees_of (p ∷ ps) = more p.tree (trees_of ps)

-- a block with these in it, and those after them
abbrev pub put_with : Told → List Placed → List Placed → List Placed
put_with b within placed = record { depth = b.depth; tree = Node b.sort b.loose b.lines (trees_of within) } ∷ drop (length within) placed

-- the blocks after a block are in it as long as they are deeper
abbrev pub put : Told → List Placed → List Placed
put b placed = put_with b (take_while (λ (p : Placed). nat_lt b.depth p.depth) placed) placed

-- blocks in order, each with what is in it
abbrev pub placed_in : List Told → List Placed
placed_in [] = []
placed_in (b ∷ bs) = put b (placed_in bs)

-- the trees of blocks in order
abbrev pub tree_told : List Told → Trees
tree_told bs = trees_of (placed_in bs)

-- the trees of a text
abbrev pub read_trees : List ℕ → Trees
read_trees text = tree_told (blocks_told text (blocks_in CORE text))

-- With a marker in front of each line, the blocks of a text are in one quote, and its definitions of links stay. In the order in
-- which they begin, the blocks are the quote, and then those of the text, each one container deeper.
pub record IsQuoted (marks : ℕ → Mark) (text : List ℕ) : Type 0 where
  pub trees : read_trees (quoted marks text) ≡ more (Node Quote false [] (read_trees text)) none
  pub blocks : blocks_told (quoted marks text) (blocks_in CORE (quoted marks text)) ≡ outer_quote ∷ map deeper (blocks_told text (blocks_in CORE text))
  pub definitions : (blocks_in CORE (quoted marks text)).definitions ≡ (blocks_in CORE text).definitions

-- so it is with each text that isn't empty and has no tab, and with all markers of its lines
abbrev pub MarksMakeAQuote : Type 0
MarksMakeAQuote = (marks : ℕ → Mark) (text : List ℕ) → 0 < length text → 8 * length text + 20 < 2 ^ 64 → list_any (λ b. b == 9) text ≡ false → AreMarks marks 0 true text → IsQuoted marks text

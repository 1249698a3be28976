-- The reader's blocks without their places, as the declaration has them.
use Rattle.std.specs.Prelude.{ℕ, Bool, not, nat_lt, List, [], ◌∷◌, ◌++◌, map, take, drop, take_while, length, replicate, Option, Some, None}
use Rattle.std.specs.List.{flat_map}
use Rattle.tocmark_read_scan.specs.Basic.{bytes_between}
use Rattle.tocmark_read_page.specs.declared.page.Block.{Block as ReadBlock}
use Rattle.tocmark_read_page.specs.declared.page.BlockKind.{BlockKind}
use Rattle.tocmark_read_page.specs.declared.page.BlockKind.TheVariants as kind
use Rattle.tocmark_read_page.specs.declared.piece.Piece.{Piece}
use Rattle.tocmark_read_blocks.specs.Blocks.{BlocksView}
use Rattle.tocmark_commonmark.specs.Tree.{Block, Blocks, none, more, Rule, Heading, IndentedCode, FencedCode, Html, Definitions, Paragraph, Quote, BulletList, OrderedList, Item}
use Rattle.tocmark_commonmark.specs.Leaves.{text_of}

-- The declared blocks as far as the reader keeps them: it has no sort of a list, and no block for definitions.
abbrev mutual
  pub told : Blocks → Blocks
  told none = none
  told (more b bs) = told_before b (told bs)

  pub told_before : Block → Blocks → Blocks
  told_before (Definitions d) bs = bs
  told_before (Quote q) bs = more (Quote (told q)) bs
  told_before (BulletList s t is) bs = more (BulletList 0 t (told is)) bs
  told_before (OrderedList s n t is) bs = more (OrderedList 0 n t (told is)) bs
  told_before (Item i) bs = more (Item (told i)) bs
  told_before Rule bs = more Rule bs
  told_before (Heading l t) bs = more (Heading l t) bs
  told_before (IndentedCode t) bs = more (IndentedCode t) bs
  told_before (FencedCode i t) bs = more (FencedCode i t) bs
  told_before (Html t) bs = more (Html t) bs
  told_before (Paragraph t) bs = more (Paragraph t) bs

-- a line of a paragraph or a heading
abbrev pub line_text : List ℕ → Piece → List ℕ
line_text text p = bytes_between text p.start p.end

-- a line of code or HTML with what is left of a tab, and with its line ending
abbrev pub whole_text : List ℕ → Piece → List ℕ
whole_text text p = replicate p.spaces 32 ++ bytes_between text p.start p.next

-- the text of a paragraph or a heading
abbrev pub leaf_text : List ℕ → List Piece → List ℕ
leaf_text text ps = text_of (map (line_text text) ps)

-- the text of code or HTML
abbrev pub code_text : List ℕ → List Piece → List ℕ
code_text text ps = flat_map (whole_text text) ps

-- a paragraph without lines is definitions alone
abbrev pub paragraph_in : List ℕ → List Piece → Option Block
paragraph_in text [] = None
paragraph_in text (p ∷ ps) = Some (Paragraph (leaf_text text (p ∷ ps)))

-- a list, with its first number if it has one
abbrev pub list_in : Bool → Blocks → Option ℕ → Option Block
list_in tight is None = Some (BulletList 0 tight is)
list_in tight is (Some n) = Some (OrderedList 0 n tight is)

-- a block of the reader with its lines and what lies in it; only CommonMark's blocks have one
abbrev pub block_as : List ℕ → BlockKind → Bool → List Piece → Blocks → Option Block
block_as text (kind.Quote k) loose ps bs = Some (Quote bs)
block_as text (kind.List n) loose ps bs = list_in (not loose) bs n
block_as text kind.Item loose ps bs = Some (Item bs)
block_as text kind.Paragraph loose ps bs = paragraph_in text ps
block_as text (kind.Heading l braces) loose ps bs = Some (Heading l (leaf_text text ps))
block_as text kind.Indented loose ps bs = Some (IndentedCode (code_text text ps))
block_as text (kind.Fenced from to) loose ps bs = Some (FencedCode (bytes_between text from to) (code_text text ps))
block_as text kind.Html loose ps bs = Some (Html (code_text text ps))
block_as text kind.Rule loose ps bs = Some Rule
block_as text k loose ps bs = None

-- a block that lies at a depth
pub record Placed : Type 0 where
  pub depth : ℕ
  pub block : Option Block

-- a block, if there is one, before others
abbrev pub more_if : Option Block → Blocks → Blocks
more_if None bs = bs
more_if (Some b) bs = more b bs

-- blocks without their depths
abbrev pub tree_of : List Placed → Blocks
tree_of [] = none
tree_of (p ∷ ps) = more_if p.block (tree_of ps)

-- the lines of a block
abbrev pub pieces_of : List Piece → ReadBlock → List Piece
pieces_of pieces b = drop b.first (take b.last pieces)

-- a block with these in it, and those after them
abbrev pub put_with : List ℕ → List Piece → ReadBlock → List Placed → List Placed → List Placed
put_with text pieces b placed within =
    record { depth = b.depth; block = block_as text b.kind b.loose (pieces_of pieces b) (tree_of within) } ∷ drop (length within) placed

-- the blocks after a block lie in it as long as they are deeper
abbrev pub put : List ℕ → List Piece → ReadBlock → List Placed → List Placed
put text pieces b placed = put_with text pieces b placed (take_while (λ (p : Placed). nat_lt b.depth p.depth) placed)

-- blocks in order, each with what lies in it
abbrev pub placed_in : List ℕ → List Piece → List ReadBlock → List Placed
placed_in text pieces [] = []
placed_in text pieces (b ∷ bs) = put text pieces b (placed_in text pieces bs)

-- the blocks that the reader found in a text
abbrev pub read_tree : List ℕ → BlocksView → Blocks
read_tree text v = tree_of (placed_in text v.pieces v.blocks)

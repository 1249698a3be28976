-- What blocks say: each container and each inline with the number of containers that it is in, in order.
use Rattle.std.specs.Prelude.{ℕ, suc, Bool, true, false, ◌==◌, List, [], ◌∷◌, ◌++◌, flat_map, Option, Some, None, ◌≡◌}
use Rattle.tocmark_event.specs.View.{Paragraph, Heading, BlockQuote, CodeBlock, Indented, Fenced, HtmlBlock, ListOf, Item, Start, Leaf, Html, Rule}
use Rattle.tocmark_read_blocks.specs.Blocks.{BlocksView, blocks_in}
use Rattle.tocmark_read_page.specs.declared.page.Block.{Block as ReadBlock}
use Rattle.tocmark_read_page.specs.declared.piece.Piece.{Piece as Line}
use Rattle.tocmark_reader.specs.Pages.{is_unwrapped}
use Rattle.tocmark_commonmark.specs.Inlines.{inlines}
use Rattle.tocmark_commonmark.specs.Links.{Destination}
use Rattle.tocmark_commonmark.specs.Tokens.{resolved}
use Rattle.tocmark_commonmark.specs.Tree as block
use Rattle.tocmark_block_laws.specs.Trees.{block_as, pieces_of, read_tree}
use Rattle.tocmark_inline_laws.specs.Said.{commonmark, Piece, letters, declared}

-- the bytes of HTML at a depth
abbrev pub html_at : ℕ → List ℕ → List Piece
html_at depth [] = []
html_at depth (b ∷ bs) = (depth, Leaf (Html (b ∷ []))) ∷ html_at depth bs

-- one more byte of a line
abbrev pub line_said : (List ℕ → List Piece) → ℕ → List ℕ → ℕ → Bool → List Piece
line_said next depth line b true = html_at depth (line ++ b ∷ []) ++ next []
line_said next depth line b false = next (line ++ b ∷ [])

-- the lines of HTML, up to the last line feed
abbrev pub html_said : ℕ → List ℕ → List ℕ → List Piece
html_said depth line [] = []
html_said depth line (b ∷ bs) = line_said (λ l. html_said depth l bs) depth line b (b == 10)

-- the paragraphs of a tight list have no container
abbrev pub words_said : Bool → List Destination → ℕ → List ℕ → List Piece
words_said true labels depth t = declared depth (inlines labels t)
words_said false labels depth t = (depth, Start Paragraph) ∷ declared (suc depth) (inlines labels t)

-- blocks at a depth, in a tight list or not
abbrev mutual
  pub blocks_said : List Destination → ℕ → Bool → block.Blocks → List Piece
  blocks_said labels depth tight block.none = []
  blocks_said labels depth tight (block.more b rest) = block_said labels depth tight b ++ blocks_said labels depth tight rest

  pub block_said : List Destination → ℕ → Bool → block.Block → List Piece
  block_said labels depth tight block.Rule = (depth, Leaf Rule) ∷ []
  block_said labels depth tight (block.Heading l t) = (depth, Start (Heading l None [] [])) ∷ declared (suc depth) (inlines labels t)
  block_said labels depth tight (block.IndentedCode t) = (depth, Start (CodeBlock Indented)) ∷ letters (suc depth) t
  block_said labels depth tight (block.FencedCode i t) = (depth, Start (CodeBlock (Fenced (resolved i)))) ∷ letters (suc depth) t
  block_said labels depth tight (block.Html t) = (depth, Start HtmlBlock) ∷ html_said (suc depth) [] t
  block_said labels depth tight (block.Definitions d) = []
  block_said labels depth tight (block.Paragraph t) = words_said tight labels depth t
  block_said labels depth tight (block.Quote q) = (depth, Start (BlockQuote None)) ∷ blocks_said labels (suc depth) false q
  block_said labels depth tight (block.BulletList s t items) = (depth, Start (ListOf None)) ∷ blocks_said labels (suc depth) t items
  block_said labels depth tight (block.OrderedList s n t items) = (depth, Start (ListOf (Some n))) ∷ blocks_said labels (suc depth) t items
  block_said labels depth tight (block.Item i) = (depth, Start Item) ∷ blocks_said labels (suc depth) tight i

-- a block, if there is one
abbrev pub said_if : List Destination → ℕ → Bool → Option block.Block → List Piece
said_if labels depth tight None = []
said_if labels depth tight (Some b) = block_said labels depth tight b

-- a block of the reader says this, without what is in it
abbrev pub one_said : List Destination → List ReadBlock → List ℕ → List Line → ReadBlock → List Piece
one_said labels all text pieces b = said_if labels b.depth (is_unwrapped all b) (block_as text b.kind b.loose (pieces_of pieces b) block.none)

-- the blocks of the reader, one after the other
abbrev pub flat_said : List Destination → List ℕ → BlocksView → List Piece
flat_said labels text v = flat_map (one_said labels v.blocks text v.pieces) v.blocks

-- 3.2: in every text the blocks say, one after the other, what their tree says
abbrev pub BlocksSayTheirTree : Type 0
BlocksSayTheirTree =
    (labels : List Destination) (text : List ℕ)
    → flat_said labels text (blocks_in commonmark text) ≡ blocks_said labels 0 false (read_tree text (blocks_in commonmark text))

-- The trees that are told of a text, as the blocks that CommonMark declares.
use Rattle.std.specs.Prelude.{ℕ, ◌≡◌, Bool, not, List, [], ◌∷◌, ◌++◌, map, replicate, Option, Some, None}
use Rattle.std.specs.List.{flat_map}
use Rattle.tocmark_read_blocks.specs.Blocks.{BlocksView}
use Rattle.tocmark_commonmark.specs.Tree as block
use Rattle.tocmark_commonmark.specs.Leaves.{text_of}
use Rattle.tocmark_text_laws.specs.Quoted.{Sort, LineTold, Trees, Tree, Node, none, more, blocks_told, tree_told}
use Rattle.tocmark_text_laws.specs.Quoted as read
use Rattle.tocmark_block_laws.specs.Trees.{list_in, more_if, read_tree}

-- the text of a paragraph or a heading
abbrev pub words_of : List LineTold → List ℕ
words_of ls = text_of (map (λ (l : LineTold). l.words) ls)

-- a line of code or HTML, with what is left of a tab
abbrev pub whole_of : LineTold → List ℕ
whole_of l = replicate l.spaces 32 ++ l.whole

-- the text of code or HTML
abbrev pub code_of : List LineTold → List ℕ
code_of ls = flat_map whole_of ls

-- a paragraph, if it has lines
abbrev pub paragraph_from : List LineTold → Option block.Block
paragraph_from [] = None
paragraph_from (l ∷ ls) = Some (block.Paragraph (words_of (l ∷ ls)))

-- a block of a sort, with its lines and what is in it
abbrev pub block_from : Sort → Bool → List LineTold → block.Blocks → Option block.Block
block_from read.Quote loose ls bs = Some (block.Quote bs)
block_from (read.ListFrom first) loose ls bs = list_in (not loose) bs first
block_from read.Item loose ls bs = Some (block.Item bs)
block_from read.Paragraph loose ls bs = paragraph_from ls
block_from (read.Heading level) loose ls bs = Some (block.Heading level (words_of ls))
block_from read.Indented loose ls bs = Some (block.IndentedCode (code_of ls))
block_from (read.Fenced info) loose ls bs = Some (block.FencedCode info (code_of ls))
block_from read.Html loose ls bs = Some (block.Html (code_of ls))
block_from read.Rule loose ls bs = Some block.Rule
block_from read.Other loose ls bs = None

abbrev mutual
  pub blocks_as : Trees → block.Blocks
  blocks_as none = block.none
  blocks_as (more t ts) = more_if (block_as t) (blocks_as ts)

  pub block_as : Tree → Option block.Block
  block_as (Node s loose ls ts) = block_from s loose ls (blocks_as ts)

-- the blocks that are found are those of the trees that are told
abbrev pub TreesAreBlocks : Type 0
TreesAreBlocks = (text : List ℕ) (v : BlocksView) → read_tree text v ≡ blocks_as (tree_told (blocks_told text v))

-- The trees that are told of a text are the blocks that were found.
use Rattle.std.proofs.Common.{◌≡◌, ℕ, zero, suc, Bool, true, false, cond, nat_lt, List, [], ◌∷◌, ◌++◌, length, map, drop, refl, ap, sym, ◌∙◌}
use Rattle.std.proofs.lemmas.List.Sums.{take_while-cons}
use Rattle.std.specs.Prelude.{take_while, Option, Some}
use Rattle.tocmark_read_scan.specs.Basic.{bytes_between}
use Rattle.tocmark_read_page.specs.declared.page.Block.{Block as ReadBlock}
use Rattle.tocmark_read_page.specs.declared.page.BlockKind.{BlockKind}
use Rattle.tocmark_read_page.specs.declared.page.BlockKind.TheVariants as kind
use Rattle.tocmark_read_page.specs.declared.piece.Piece.{Piece}
use Rattle.tocmark_commonmark.specs.Tree as block
use Rattle.tocmark_commonmark.specs.Leaves.{text_of}
use Rattle.tocmark_text_laws.specs.Quoted.{LineTold, line_told, told, sort_of, Placed, trees_of, blocks_told}
use Rattle.tocmark_text_laws.specs.Quoted as read
use Rattle.tocmark_block_laws.specs.Trees.{leaf_text, line_text, code_text, whole_text, more_if, tree_of, pieces_of}
use Rattle.tocmark_block_laws.specs.Trees as found
use Rattle.tocmark_read_back_laws.specs.Trees.{words_of, code_of, block_from, blocks_as, block_as, TreesAreBlocks}

-- lines

words_told : (text : List ℕ) (ps : List Piece) → map (line_text text) ps ≡ map (λ (l : LineTold). l.words) (map (line_told text) ps)
words_told text [] = refl
words_told text (p ∷ ps) = ap (λ ls. line_text text p ∷ ls) (words_told text ps)

pub leaf_told : (text : List ℕ) (ps : List Piece) → leaf_text text ps ≡ words_of (map (line_told text) ps)
leaf_told text ps = ap text_of (words_told text ps)

code_told : (text : List ℕ) (ps : List Piece) → code_text text ps ≡ code_of (map (line_told text) ps)
code_told text [] = refl
code_told text (p ∷ ps) = ap (λ t. whole_text text p ++ t) (code_told text ps)

-- blocks of each kind
one_told : (text : List ℕ) (loose : Bool) (ps : List Piece) (bs : block.Blocks) (k : BlockKind) → found.block_as text k loose ps bs ≡ block_from (sort_of text k) loose (map (line_told text) ps) bs
one_told text loose ps bs (kind.Quote q) = refl
one_told text loose ps bs (kind.List n) = refl
one_told text loose ps bs kind.Item = refl
one_told text loose [] bs kind.Paragraph = refl
one_told text loose (p ∷ ps) bs kind.Paragraph = ap (λ t. Some (block.Paragraph t)) (leaf_told text (p ∷ ps))
one_told text loose ps bs (kind.Heading l x) = ap (λ t. Some (block.Heading l t)) (leaf_told text ps)
one_told text loose ps bs kind.Indented = ap (λ t. Some (block.IndentedCode t)) (code_told text ps)
one_told text loose ps bs (kind.Fenced x y) = ap (λ t. Some (block.FencedCode (bytes_between text x y) t)) (code_told text ps)
one_told text loose ps bs kind.Html = ap (λ t. Some (block.Html t)) (code_told text ps)
one_told text loose ps bs kind.Rule = refl
one_told text loose ps bs (kind.Metadata x) = refl
one_told text loose ps bs (kind.Footnote x y) = refl
one_told text loose ps bs (kind.Table x y) = refl
one_told text loose ps bs kind.TableHead = refl
one_told text loose ps bs kind.TableRow = refl
one_told text loose ps bs kind.TableCell = refl
one_told text loose ps bs kind.DefinitionList = refl
one_told text loose ps bs kind.DefinitionListTitle = refl
one_told text loose ps bs kind.DefinitionListDefinition = refl

-- blocks with their depths
abbrev placed_as : Placed → found.Placed
placed_as p = record { depth = p.depth; block = block_as p.tree }

tree_as : (ps : List Placed) → tree_of (map placed_as ps) ≡ blocks_as (trees_of ps)
tree_as [] = refl
tree_as (p ∷ ps) = ap (more_if (block_as p.tree)) (tree_as ps)

inside_as : (depth : ℕ) (ps : List Placed) → take_while (λ (p : found.Placed). nat_lt depth p.depth) (map placed_as ps) ≡ map placed_as (take_while (λ (p : Placed). nat_lt depth p.depth) ps)
inside_as depth [] = refl
inside_as depth (p ∷ ps) =
    take_while-cons (λ (q : found.Placed). nat_lt depth q.depth) (placed_as p) (map placed_as ps)
    ∙ ap (λ qs. cond (nat_lt depth p.depth) (placed_as p ∷ qs) []) (inside_as depth ps)
    ∙ by (nat_lt depth p.depth)
    ∙ ap (map placed_as) (sym (take_while-cons (λ (q : Placed). nat_lt depth q.depth) p ps))
  where
    rest : List Placed
    rest = take_while (λ (q : Placed). nat_lt depth q.depth) ps

    by : (c : Bool) → cond c (placed_as p ∷ map placed_as rest) [] ≡ map placed_as (cond c (p ∷ rest) [])
    by true = refl
    by false = refl

after_as : (n : ℕ) (ps : List Placed) → drop n (map placed_as ps) ≡ map placed_as (drop n ps)
after_as zero ps = refl
after_as (suc n) [] = refl
after_as (suc n) (p ∷ ps) = after_as n ps

count_as : (ps : List Placed) → length (map placed_as ps) ≡ length ps
count_as [] = refl
count_as (p ∷ ps) = ap suc (count_as ps)

put_as : (text : List ℕ) (pieces : List Piece) (b : ReadBlock) (ps : List Placed) → found.put text pieces b (map placed_as ps) ≡ map placed_as (read.put (told text pieces b) ps)
put_as text pieces b ps =
    let within : List Placed = take_while (λ (p : Placed). nat_lt b.depth p.depth) ps in
    let put : block.Blocks → List found.Placed → List found.Placed = λ bs rest. record { depth = b.depth; block = found.block_as text b.kind b.loose (pieces_of pieces b) bs } ∷ rest in
    ap (λ qs. found.put_with text pieces b (map placed_as ps) qs) (inside_as b.depth ps)
    ∙ ap (λ bs. put bs (drop (length (map placed_as within)) (map placed_as ps))) (tree_as within)
    ∙ ap (λ n. put (blocks_as (trees_of within)) (drop n (map placed_as ps))) (count_as within)
    ∙ ap (put (blocks_as (trees_of within))) (after_as (length within) ps)
    ∙ ap (let f : Option block.Block → List found.Placed = λ o. record { depth = b.depth; block = o } ∷ map placed_as (drop (length within) ps) in f) (one_told text b.loose (pieces_of pieces b) (blocks_as (trees_of within)) b.kind)

placed_told : (text : List ℕ) (pieces : List Piece) (bs : List ReadBlock) → found.placed_in text pieces bs ≡ map placed_as (read.placed_in (map (told text pieces) bs))
placed_told text pieces [] = refl
placed_told text pieces (b ∷ bs) = ap (found.put text pieces b) (placed_told text pieces bs) ∙ put_as text pieces b (read.placed_in (map (told text pieces) bs))

pub trees_blocks : TreesAreBlocks
trees_blocks text v = ap tree_of (placed_told text v.pieces v.blocks) ∙ tree_as (read.placed_in (blocks_told text v))

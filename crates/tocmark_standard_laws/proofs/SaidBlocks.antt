-- What declared blocks say that the reader doesn't keep.
use Rattle.std.proofs.Common.{◌≡◌, ℕ, suc, Bool, false, List, ◌∷◌, ◌++◌, refl, ap, ◌∙◌}
use Rattle.std.specs.Prelude.{Some, None}
use Rattle.tocmark_event.specs.View.{BlockQuote, ListOf, Item, Start}
use Rattle.tocmark_commonmark.specs.Links.{Destination}
use Rattle.tocmark_commonmark.specs.Tree as block
use Rattle.tocmark_block_laws.specs.Trees.{told, told_before}
use Rattle.tocmark_standard_laws.specs.SaidBlocks.{blocks_said, block_said}

-- what the reader doesn't keep of declared blocks says nothing
mutual
  pub told_said : (labels : List Destination) (depth : ℕ) (tight : Bool) (bs : block.Blocks) → blocks_said labels depth tight (told bs) ≡ blocks_said labels depth tight bs
  told_said labels depth tight block.none = refl
  told_said labels depth tight (block.more b rest) = told_one labels depth tight b (told rest) ∙ ap (λ ps. block_said labels depth tight b ++ ps) (told_said labels depth tight rest)

  told_one : (labels : List Destination) (depth : ℕ) (tight : Bool) (b : block.Block) (rest : block.Blocks) → blocks_said labels depth tight (told_before b rest) ≡ block_said labels depth tight b ++ blocks_said labels depth tight rest
  told_one labels depth tight block.Rule rest = refl
  told_one labels depth tight (block.Heading l t) rest = refl
  told_one labels depth tight (block.IndentedCode t) rest = refl
  told_one labels depth tight (block.FencedCode i t) rest = refl
  told_one labels depth tight (block.Html t) rest = refl
  told_one labels depth tight (block.Definitions d) rest = refl
  told_one labels depth tight (block.Paragraph t) rest = refl
  told_one labels depth tight (block.Quote q) rest = ap (λ ps. ((depth, Start (BlockQuote None)) ∷ ps) ++ blocks_said labels depth tight rest) (told_said labels (suc depth) false q)
  told_one labels depth tight (block.BulletList s t items) rest = ap (λ ps. ((depth, Start (ListOf None)) ∷ ps) ++ blocks_said labels depth tight rest) (told_said labels (suc depth) t items)
  told_one labels depth tight (block.OrderedList s n t items) rest = ap (λ ps. ((depth, Start (ListOf (Some n))) ∷ ps) ++ blocks_said labels depth tight rest) (told_said labels (suc depth) t items)
  told_one labels depth tight (block.Item i) rest = ap (λ ps. ((depth, Start Item) ∷ ps) ++ blocks_said labels depth tight rest) (told_said labels (suc depth) tight i)

-- What an example of blocks is: a text, its blocks without the definitions, and the definitions in order.
use Rattle.std.specs.Prelude.{◌≡◌, ℕ, List, [], ◌∷◌}
use Rattle.tocmark_read_page.specs.Definitions.{DefinitionView}
use Rattle.tocmark_commonmark.specs.Tree.{Block, Blocks, none, more, Rule, Heading, IndentedCode, FencedCode, Html, Definitions, Paragraph, Quote, BulletList, OrderedList, Item, defined}
use Rattle.tocmark_commonmark.specs.Blocks.{blocks_of}

-- the blocks that are seen: definitions make none
abbrev mutual
  pub seen : Blocks → Blocks
  seen none = none
  seen (more b bs) = seen_before b (seen bs)

  pub seen_before : Block → Blocks → Blocks
  seen_before (Definitions d) bs = bs
  seen_before (Quote q) bs = more (Quote (seen q)) bs
  seen_before (BulletList s t is) bs = more (BulletList s t (seen is)) bs
  seen_before (OrderedList s n t is) bs = more (OrderedList s n t (seen is)) bs
  seen_before (Item i) bs = more (Item (seen i)) bs
  seen_before Rule bs = more Rule bs
  seen_before (Heading l t) bs = more (Heading l t) bs
  seen_before (IndentedCode t) bs = more (IndentedCode t) bs
  seen_before (FencedCode i t) bs = more (FencedCode i t) bs
  seen_before (Html t) bs = more (Html t) bs
  seen_before (Paragraph t) bs = more (Paragraph t) bs

-- a row: a text and what it means
pub record Row : Type 0 where
  pub text : List ℕ
  pub blocks : Blocks
  pub definitions : List DefinitionView

-- a row of these
abbrev pub row : List ℕ → Blocks → List DefinitionView → Row
row text blocks definitions = record { text = text; blocks = blocks; definitions = definitions }

-- a definition of these
abbrev pub definition : List ℕ → List ℕ → List ℕ → DefinitionView
definition label destination title = record { label = label; destination = destination; title = title }

-- a text with its blocks and definitions
abbrev pub meaning_of : List ℕ → Blocks → Row
meaning_of text found = row text (seen found) (defined found)

-- a row is what its text means
abbrev pub IsRight : Row → Type 0
IsRight r = meaning_of r.text (blocks_of r.text) ≡ r

-- each row is
unfoldable pub AreRight : List Row → Type 0
AreRight [] = Unit {0}
AreRight (r ∷ rs) = IsRight r × AreRight rs

-- The tree of a document (CommonMark 0.31.2, chapter 3): blocks, and the lines that they take.
use Rattle.std.specs.Prelude.{ℕ, ◌+◌, Bool, true, false, ◌==◌, ◌&&◌, List, [], ◌∷◌, ◌++◌, max}
use Rattle.std.specs.List.{fold}
use Rattle.tocmark_event.specs.declared.event.HeadingLevel.{HeadingLevel}
use Rattle.tocmark_read_page.specs.Definitions.{DefinitionView}

-- A block. A list has its sort (the bullet or the delimiter), its first number, and whether it is tight. `Definitions` is what
-- link reference definitions leave where they are.
mutual
  pub data Block : Type 0 where
    Rule : Block
    Heading : HeadingLevel → List ℕ → Block
    IndentedCode : List ℕ → Block
    FencedCode : List ℕ → List ℕ → Block
    Html : List ℕ → Block
    Definitions : List DefinitionView → Block
    Paragraph : List ℕ → Block
    Quote : Blocks → Block
    BulletList : ℕ → Bool → Blocks → Block
    OrderedList : ℕ → ℕ → Bool → Blocks → Block
    Item : Blocks → Block

  pub data Blocks : Type 0 where
    none : Blocks
    more : Block → Blocks → Blocks

-- 4.7: the definitions, in order
abbrev mutual
  pub defined : Blocks → List DefinitionView
  defined none = []
  defined (more b bs) = defined_in b ++ defined bs

  pub defined_in : Block → List DefinitionView
  defined_in (Definitions d) = d
  defined_in (Quote q) = defined q
  defined_in (BulletList s t is) = defined is
  defined_in (OrderedList s n t is) = defined is
  defined_in (Item i) = defined i
  defined_in b = []

-- A block, the numbers of its first and last line (which looseness needs), and whether it ends with an open paragraph.
pub record Found : Type 0 where
  pub block : Block
  pub first : ℕ
  pub last : ℕ
  pub is_open : Bool

-- a block that no line continues
abbrev pub ended : Block → ℕ → ℕ → Found
ended b first last = record { block = b; first = first; last = last; is_open = false }

-- a block that ends with an open paragraph
abbrev pub unended : Block → ℕ → ℕ → Found
unended b first last = record { block = b; first = first; last = last; is_open = true }

-- the last block decides whether so many lines end with an open paragraph
abbrev pub ends_open : ℕ → List Found → Bool
ends_open count found = fold (λ (was : Bool) (f : Found). f.is_open && (f.last + 1 == count)) false found

-- the last line that a block takes
abbrev pub last_of : List Found → ℕ
last_of found = fold (λ (n : ℕ) (f : Found). max n f.last) 0 found

-- blocks without the numbers of their lines
abbrev pub tree : List Found → Blocks
tree [] = none
tree (f ∷ fs) = more f.block (tree fs)

-- how many lines blocks take, and the blocks
pub record Taken : Type 0 where
  pub found : List Found
  pub count : ℕ

-- one block
abbrev pub taken : Found → ℕ → Taken
taken f count = record { found = f ∷ []; count = count }

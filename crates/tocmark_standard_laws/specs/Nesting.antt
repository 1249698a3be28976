-- How the blocks that the reader finds are in one another.
use Rattle.std.specs.Prelude.{ℕ, suc, ◌≡◌, ◌≤◌, Bool, true, false, List, [], ◌∷◌, ◌++◌, length, map, take, Option, Some, None, is_some}
use Rattle.std.specs.List.{fold}
use Rattle.tocmark_read_scan.specs.declared.syntax.Names.{Names}
use Rattle.tocmark_read_page.specs.declared.page.Block.{Block}
use Rattle.tocmark_read_page.specs.declared.page.BlockKind.{BlockKind}
use Rattle.tocmark_read_page.specs.declared.page.BlockKind.TheVariants as kind
use Rattle.tocmark_read_blocks.specs.Blocks.{blocks_in}
use Rattle.tocmark_block_laws.specs.Named.{named}

-- the sorts of containers that CommonMark has
pub data Sort : Type 0 where
  OfQuote : Sort
  OfList : Sort
  OfItem : Sort

-- the sort of a block that is a container
abbrev pub sort_of : BlockKind → Option Sort
sort_of (kind.Quote k) = Some OfQuote
sort_of (kind.List first) = Some OfList
sort_of kind.Item = Some OfItem
sort_of k = None

-- a kind that CommonMark has
abbrev pub is_common : BlockKind → Bool
is_common (kind.Quote None) = true
is_common (kind.List first) = true
is_common kind.Item = true
is_common kind.Paragraph = true
is_common (kind.Heading level None) = true
is_common kind.Indented = true
is_common (kind.Fenced from to) = true
is_common kind.Html = true
is_common kind.Rule = true
is_common k = false

-- a container with its number among the blocks
pub record Outer : Type 0 where
  pub number : ℕ
  pub sort : Sort

-- the list that a block counts for which is directly in a container, where this one counts for another list or none
abbrev pub list_at : Option ℕ → Outer → Sort → Option ℕ
list_at list o OfList = Some o.number
list_at list o OfItem = list
list_at list o OfQuote = None

-- the same in containers, the outermost first
abbrev pub list_in : List Outer → Option ℕ
list_in path = fold (λ (list : Option ℕ) (o : Outer). list_at list o o.sort) None path

abbrev pub is_list_sort : Sort → Bool
is_list_sort OfList = true
is_list_sort s = false

-- the innermost container is a list
abbrev pub ends_in_list : List Outer → Bool
ends_in_list path = fold (λ (was : Bool) (o : Outer). is_list_sort o.sort) false path

-- what nesting asks of a block
pub record Shape : Type 0 where
  pub depth : ℕ
  pub sort : Option Sort
  pub common : Bool
  pub list : Option ℕ
  pub boxed : Bool

abbrev pub shape : Block → Shape
shape b = record { depth = b.depth; sort = sort_of b.kind; common = is_common b.kind; list = b.list; boxed = is_some b.task }

-- an item is directly in a list
abbrev pub HasList : Option Sort → List Outer → Type 0
HasList (Some OfItem) path = ends_in_list path ≡ true
HasList s path = Unit {0}

-- a block after which these containers could go on
pub record IsIn (path : List Outer) (b : Shape) : Type 0 where
  pub depth : b.depth ≤ length path
  pub common : b.common ≡ true
  pub list : b.list ≡ list_in (take b.depth path)
  pub plain : b.boxed ≡ false
  pub item : HasList b.sort (take b.depth path)

-- the containers that could go on after a block with a number
abbrev pub after_as : List Outer → ℕ → Option Sort → List Outer
after_as path at None = path
after_as path at (Some s) = path ++ record { number = at; sort = s } ∷ []

abbrev pub after : List Outer → ℕ → Shape → List Outer
after path at b = after_as (take b.depth path) at b.sort

-- blocks from a number on, after which these containers could go on
abbrev pub Nested : List Outer → ℕ → List Shape → Type 0
Nested path at [] = Unit {0}
Nested path at (b ∷ bs) = IsIn path b × Nested (after path at b) (suc at) bs

-- Each block is in the containers before it that its depth names: all blocks are CommonMark's, items are directly in lists, leaves
-- have no blocks in them, and a block says which list it counts for.
abbrev pub BlocksAreNested : Type 0
BlocksAreNested = (names : Names) (text : List ℕ) → Nested [] 0 (map shape (blocks_in (named names) text).blocks)

-- Which blocks of a text are in which.
use Rattle.std.specs.Prelude.{◌≡◌, ℕ, ◌≤◌, Bool, true, false, List, [], ◌∷◌, ◌++◌, length, take, None}
use Rattle.std.specs.List.{AllByRecursion}
use Rattle.tocmark_read_scan.specs.declared.syntax.TheConstants.{CORE}
use Rattle.tocmark_read_page.specs.declared.page.Block.{Block}
use Rattle.tocmark_read_page.specs.declared.page.BlockKind.{BlockKind}
use Rattle.tocmark_read_page.specs.declared.page.BlockKind.TheVariants as kind
use Rattle.tocmark_read_blocks.specs.Blocks.{blocks_in}

abbrev pub is_list : BlockKind → Bool
is_list (kind.List first) = true
is_list k = false

abbrev pub is_item : BlockKind → Bool
is_item kind.Item = true
is_item k = false

-- a container
abbrev pub is_container : BlockKind → Bool
is_container (kind.Quote k) = true
is_container (kind.List first) = true
is_container kind.Item = true
is_container k = false

-- a block that CommonMark has
abbrev pub is_known : BlockKind → Bool
is_known (kind.Quote None) = true
is_known (kind.List first) = true
is_known kind.Item = true
is_known kind.Paragraph = true
is_known (kind.Heading level None) = true
is_known kind.Indented = true
is_known (kind.Fenced from to) = true
is_known kind.Html = true
is_known kind.Rule = true
is_known k = false

-- the innermost of these blocks is a list; where there is none, what is round them
abbrev pub is_in_list : Bool → List BlockKind → Bool
is_in_list around [] = around
is_in_list around (k ∷ ks) = is_in_list (is_list k) ks

-- a block of CommonMark at a depth, after others of which these are the last at each depth: it is in containers alone, and directly in a list exactly if it is an item
pub record IsHoused (before : List BlockKind) (depth : ℕ) (k : BlockKind) : Type 0 where
  pub known : is_known k ≡ true
  pub deep : depth ≤ length before
  pub held : AllByRecursion (λ c. is_container c ≡ true) (take depth before)
  pub listed : is_item k ≡ is_in_list false (take depth before)

-- all blocks are so
abbrev pub AreHoused : List BlockKind → List Block → Type 0
AreHoused before [] = Unit
AreHoused before (b ∷ bs) = IsHoused before b.depth b.kind × AreHoused (take b.depth before ++ b.kind ∷ []) bs

-- so it is with the CommonMark blocks of each text
abbrev pub BlocksAreHoused : Type 0
BlocksAreHoused = (text : List ℕ) → AreHoused [] (blocks_in CORE text).blocks

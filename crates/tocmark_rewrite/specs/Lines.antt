-- The lines of a source on which a block is.
use Rattle.std.specs.Option.{option_map_or}
use Rattle.std.specs.Prelude.{◌≤◌, ◌<◌, ◌||◌, ℕ, Bool, true, IsTrue, List, length, nat_eq, slice_get}
use Rattle.tocmark_rewrite.specs.declared.trees.Block.{Block}

-- whether a byte is a space, a tab, or of a line's end
abbrev pub is_blank : ℕ → Bool
is_blank b = nat_eq b 32 || nat_eq b 9 || nat_eq b 10 || nat_eq b 13

-- whether a byte is blank, or there is none
abbrev pub is_blank_at : List ℕ → ℕ → Bool
is_blank_at bytes k = option_map_or is_blank (slice_get bytes k) true

-- each byte from one place up to another is blank
abbrev pub AreBlank : List ℕ → ℕ → ℕ → Type 0
AreBlank bytes from to = (k : ℕ) → from ≤ k → k < to → IsTrue (is_blank_at bytes k)

-- lines that begin no later than these bytes, and end in the source where but for blanks nothing of these bytes is left
pub record AreLinesOf (source : List ℕ) (from to begins ends : ℕ) : Type 0 where
  pub begins_first : from ≤ begins
  pub blank : AreBlank source to ends
  pub in_source : to ≤ length source

-- the lines of a block are those of its bytes
abbrev pub HasItsLines : List ℕ → Block → Type 0
HasItsLines source b = AreLinesOf source b.from b.to b.tree.begins b.tree.ends

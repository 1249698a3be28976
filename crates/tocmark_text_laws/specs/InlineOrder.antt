-- The order of the inlines of a leaf.
use Rattle.std.specs.Prelude.{◌≡◌, ℕ, ◌+◌, ◌^◌, ◌<◌, ◌≤◌, List, [], ◌∷◌, length}
use Rattle.std.specs.List.{AllByRecursion}
use Rattle.tocmark_read_spans.specs.declared.role.Leaf.TheVariants.{SoftBreak}
use Rattle.tocmark_read_spans.specs.declared.role.Role.{Role}
use Rattle.tocmark_read_spans.specs.declared.role.Role.TheVariants.{Plain, Fresh, Open, Close, Single}
use Rattle.tocmark_read_spans.specs.declared.role.Span.TheVariants.{Emphasis}
use Rattle.tocmark_read_inlines.specs.Write.{written}
use Rattle.tocmark_read_inlines.specs.declared.write.InlineKind.{InlineKind}
use Rattle.tocmark_read_inlines.specs.declared.write.InlineKind.TheVariants as item
use Rattle.tocmark_read_inlines.specs.declared.write.Node.{Node}

-- a later inline doesn't begin before another one, and if that is a text, not before its end
pub record IsAfter (n m : Node) : Type 0 where
  pub begins : n.start ≤ m.start
  pub apart : n.item ≡ item.Text → n.end ≤ m.start

-- all inlines after one are so
abbrev pub AreInOrder : List Node → Type 0
AreInOrder [] = Unit
AreInOrder (n ∷ ns) = AllByRecursion (IsAfter n) ns × AreInOrder ns

-- an inline begins within a leaf's text of so many bytes, and if it is a text, it has a byte and lies within that
pub record IsInLeaf (count : ℕ) (n : Node) : Type 0 where
  pub begins : n.start < count
  pub filled : n.item ≡ item.Text → n.start < n.end
  pub within : n.item ≡ item.Text → n.end ≤ count

-- whatever roles the bytes of a leaf's text have, its inlines are in it, one after the other
pub record AreLaidOut (count : ℕ) (ns : List Node) : Type 0 where
  pub inside : AllByRecursion (IsInLeaf count) ns
  pub ordered : AreInOrder ns

abbrev pub InlinesAreInOrder : Type 0
InlinesAreInOrder = (roles : List Role) (depth : ℕ) → length roles + 1 < 2 ^ 64 → AreLaidOut (length roles) (written roles depth)

abbrev pub inline_at : ℕ → InlineKind → ℕ → ℕ → Node
inline_at depth kind start end = record { depth = depth; item = kind; start = start; end = end }

-- the inlines of some roles: of `a*b*c`, of two texts side by side, and of a mark that skips bytes
abbrev pub SomeInlines : Type 0
SomeInlines =
    (written (Plain ∷ Open Emphasis 4 ∷ Plain ∷ Close 4 ∷ Plain ∷ []) 0
    ≡ inline_at 0 item.Text 0 1 ∷ inline_at 0 (item.Span Emphasis) 1 4 ∷ inline_at 1 item.Text 2 3 ∷ inline_at 0 item.Text 4 5 ∷ [])
    × (written (Plain ∷ Fresh ∷ Plain ∷ []) 0 ≡ inline_at 0 item.Text 0 1 ∷ inline_at 0 item.Text 1 3 ∷ [])
    × (written (Plain ∷ Single SoftBreak 3 ∷ Plain ∷ Plain ∷ []) 0 ≡ inline_at 0 item.Text 0 1 ∷ inline_at 0 (item.Leaf SoftBreak) 1 3 ∷ inline_at 0 item.Text 3 4 ∷ [])

-- What becomes of each byte of a leaf's text.
use Rattle.std.specs.Prelude.{◌≡◌, ℕ, ◌+◌, ◌^◌, ◌<◌, ◌≤◌, Bool, true, false, List, length, slice_get, Some}
use Rattle.tocmark_read_spans.specs.declared.role.Role.{Role}
use Rattle.tocmark_read_spans.specs.declared.role.Role.TheVariants.{Plain, Fresh, Hidden, Open, Close, Single}
use Rattle.tocmark_read_inlines.specs.Write.{written}
use Rattle.tocmark_read_inlines.specs.declared.write.InlineKind.TheVariants as item
use Rattle.tocmark_read_inlines.specs.declared.write.Node.{Node}

-- a byte that is a mark's first, or isn't shown
abbrev pub is_marked : Role → Bool
is_marked Plain = false
is_marked Fresh = false
is_marked Hidden = true
is_marked (Open span end) = true
is_marked (Close end) = true
is_marked (Single leaf end) = true

-- where the range of a mark ends
abbrev pub end_of_mark : Role → ℕ
end_of_mark Plain = 0
end_of_mark Fresh = 0
end_of_mark Hidden = 0
end_of_mark (Open span end) = end
end_of_mark (Close end) = end
end_of_mark (Single leaf end) = end

-- a byte that is marked
pub record IsMark (roles : List Role) (place : ℕ) : Type 0 where
  pub role : Role
  pub found : slice_get roles place ≡ Some role
  pub marked : is_marked role ≡ true

-- a byte in the range of a mark before it
pub record IsInMark (roles : List Role) (place : ℕ) : Type 0 where
  pub first : ℕ
  pub role : Role
  pub found : slice_get roles first ≡ Some role
  pub before : first < place
  pub within : place < end_of_mark role

-- a byte in the range of a node that is a text
pub record IsInText (nodes : List Node) (place : ℕ) : Type 0 where
  pub index : ℕ
  pub node : Node
  pub found : slice_get nodes index ≡ Some node
  pub text : node.item ≡ item.Text
  pub after : node.start ≤ place
  pub before : place < node.end

-- what becomes of a byte of a text with these roles, which is written as these nodes
pub data IsSaid (roles : List Role) (nodes : List Node) (place : ℕ) : Type 0 where
  Marks : IsMark roles place → IsSaid roles nodes place
  InMark : IsInMark roles place → IsSaid roles nodes place
  InText : IsInText nodes place → IsSaid roles nodes place

-- whatever roles the bytes of a leaf's text have, none is left out: each is marked, in the range of a mark, or in a text
abbrev pub NoByteIsLost : Type 0
NoByteIsLost = (roles : List Role) (depth place : ℕ) → length roles + 1 < 2 ^ 64 → place < length roles → IsSaid roles (written roles depth) place

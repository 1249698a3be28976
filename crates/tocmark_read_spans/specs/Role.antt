-- The roles of the bytes of a leaf's text.
use Rattle.std.specs.Prelude.{◌≡◌, ℕ, zero, suc, List, fold, replicate, slice_get, slice_set}
use Rattle.std.specs.List.{insert}
use Rattle.std.specs.Option.{option_map_or}
use Rattle.tocmark_read_spans.specs.declared.role.MarkedByte.{MarkedByte}
use Rattle.tocmark_read_spans.specs.declared.role.Role.{Role}
use Rattle.tocmark_read_spans.specs.declared.role.Role.TheVariants.{Plain}
use Rattle.tocmark_read_spans.specs.declared.role.Roles.{Roles}

-- one more byte has a role
abbrev pub with_mark : List Role → MarkedByte → List Role
with_mark roles m = slice_set roles m.place m.role

-- the role of each byte: plain, but for its last mark
abbrev pub roles_of : Roles → List Role
roles_of r = fold with_mark (replicate r.length Plain) r.marks.items

-- one more mark after so many gives a byte the same role as one after all
abbrev pub IsSlot : List MarkedByte → ℕ → ℕ → Type 0
IsSlot marks place k = (roles : List Role) (role : Role) → fold with_mark roles (insert marks k (record { place = place; role = role })) ≡ slice_set (fold with_mark roles marks) place role

-- the role of a mark by its number from 1 on; 0 stands for none
abbrev pub role_at : List MarkedByte → ℕ → Role
role_at marks zero = Plain
role_at marks (suc k) = option_map_or (λ (m : MarkedByte). m.role) (slice_get marks k) Plain

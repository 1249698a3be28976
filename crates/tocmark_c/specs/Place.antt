-- What a call tells of the place of an error.
use Rattle.std.specs.Prelude.{◌≡◌, nat_le, ℤ, pos, negsuc, Bool, false}
use Rattle.tocmark_c.specs.declared.place.TocmarkPlace.{TocmarkPlace}

-- a struct that has all these fields
abbrev pub has_room : TocmarkPlace → Bool
has_room place = nat_le 32 place.size

-- it is filled: its size stays, and all of it stays if it lacks a field
abbrev pub IsFilled : TocmarkPlace → TocmarkPlace → Type 0
IsFilled old new = (new.size ≡ old.size) × (has_room old ≡ false → new ≡ old)

-- an error fills it, and a text leaves it as it was
abbrev pub IsTold : ℤ → TocmarkPlace → TocmarkPlace → Type 0
IsTold (pos n) old new = new ≡ old
IsTold (negsuc k) old new = IsFilled old new

-- Mathematics between dollar signs.
use Rattle.std.specs.Prelude.{ℕ, zero, suc, Bool, true, false, not, ◌+◌, ◌-◌, ◌==◌, ◌&&◌, ◌||◌, nat_le, if◌then◌else◌, List, [], ◌∷◌, codes, slice_get, Option, Some, None, unwrap_or}
use Rattle.std.specs.Option.{option_and_then, option_flatten}
use Rattle.tocmark_read_scan.specs.Basic.{plus, byte_at, starts_at}
use Rattle.tocmark_read_spans.specs.declared.math.Sign.{Sign}
use Rattle.tocmark_read_spans.specs.declared.math.Sign.TheVariants.{Dollar, OpeningBrace, ClosingBrace, Other}
use Rattle.tocmark_read_spans.specs.declared.math.Math.{Math}

-- a byte as a sign
unfoldable pub sign_of : ℕ → Sign
sign_of b = if b == 36 then Dollar else (if b == 123 then OpeningBrace else (if b == 125 then ClosingBrace else Other))

-- a byte after an escaping backslash is no sign
unfoldable pub sign_in : Bool → ℕ → Sign
sign_in escaped b = if escaped then Other else sign_of b

-- the signs of a text's bytes
abbrev pub signs : Bool → List ℕ → List Sign
signs escaped [] = []
signs escaped (b ∷ bs) = sign_in escaped b ∷ signs (not escaped && (b == 92)) bs

-- the sign at a place
unfoldable pub sign_at : List Sign → ℕ → Sign
sign_at signs place = unwrap_or (slice_get signs place) Other

-- with so many braces open since a `$`: the next `$` at which none is, as long as none is closed that wasn't opened
abbrev pub partner : ℕ → ℕ → List Sign → Option ℕ
partner braces place [] = None
partner zero place (Dollar ∷ rest) = Some place
partner (suc n) place (Dollar ∷ rest) = partner (suc n) (place + 1) rest
partner braces place (OpeningBrace ∷ rest) = partner (suc braces) (place + 1) rest
partner zero place (ClosingBrace ∷ rest) = None
partner (suc n) place (ClosingBrace ∷ rest) = partner n (place + 1) rest
partner braces place (Other ∷ rest) = partner braces (place + 1) rest

-- the partner of a sign, if it is a `$`: the next `$` with balanced braces between
abbrev pub partner_behind : Sign → ℕ → List Sign → Option ℕ
partner_behind Dollar place rest = partner 0 place rest
partner_behind OpeningBrace place rest = None
partner_behind ClosingBrace place rest = None
partner_behind Other place rest = None

-- the partner of each sign from a place on
abbrev pub partners_from : ℕ → List Sign → List (Option ℕ)
partners_from place [] = []
partners_from place (s ∷ rest) = partner_behind s (place + 1) rest ∷ partners_from (place + 1) rest

-- the partner of each byte of a text
unfoldable pub partners : List ℕ → List (Option ℕ)
partners bytes = partners_from 0 (signs false bytes)

-- without the first
abbrev pub but_first : List (Option ℕ) → List (Option ℕ)
but_first [] = []
but_first (l ∷ levels) = levels

-- the next `$` at each number of open braces, from a sign on and after it
abbrev pub levels_before : Sign → ℕ → List (Option ℕ) → List (Option ℕ)
levels_before Dollar place levels = Some place ∷ but_first levels
levels_before OpeningBrace place levels = but_first levels
levels_before ClosingBrace place levels = None ∷ levels
levels_before Other place levels = levels

-- the next `$` with so many braces open
abbrev pub level : List (Option ℕ) → ℕ → Option ℕ
level levels braces = option_flatten (slice_get levels braces)

-- the partner of a sign by the levels after it
abbrev pub partner_of : Sign → List (Option ℕ) → Option ℕ
partner_of Dollar levels = level levels 0
partner_of OpeningBrace levels = None
partner_of ClosingBrace levels = None
partner_of Other levels = None

-- white space
unfoldable pub is_white : ℕ → Bool
is_white b = (b == 32) || (nat_le 9 b && nat_le b 13)

-- the partner of the `$` at a place
unfoldable pub partner_at : List (Option ℕ) → ℕ → Option ℕ
partner_at partners place = option_flatten (slice_get partners place)

-- between a `$` and its partner, with no white space at either end
unfoldable pub inline_to : List ℕ → ℕ → ℕ → Option Math
inline_to bytes place end =
    if is_white (byte_at bytes (plus place 1)) || is_white (byte_at bytes (end - 1)) then None
    else Some (record { display = false; start = plus place 1; end = end; next = plus end 1 })

-- between `$$` and the partner of its second byte, after which another one is
unfoldable pub display_to : List ℕ → ℕ → ℕ → Option Math
display_to bytes place end =
    if starts_at bytes end (codes "$$") then Some (record { display = true; start = plus place 2; end = end; next = plus end 2 })
    else None

-- what the `$` at a place opens
unfoldable pub math_at : List ℕ → List (Option ℕ) → ℕ → Option Math
math_at bytes partners place =
    if starts_at bytes place (codes "$$") then option_and_then (display_to bytes place) (partner_at partners (plus place 1))
    else option_and_then (inline_to bytes place) (partner_at partners place)

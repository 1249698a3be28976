-- The parts of a destination, and what it says.
use Rattle.std.specs.Prelude.{ℕ, ◌==◌, Bool, true, false, ◌||◌, ◌&&◌, not, List, [], ◌∷◌, ◌++◌, ◌≡◌, if◌then◌else◌}
use Rattle.std.specs.Char.{is_ascii_alphabetic, is_ascii_alphanumeric}
use Rattle.std.specs.Str.Lossy.{utf8_lossy}
use Rattle.percent_encoding.specs.Percent.{percent_decode}
use Rattle.tocmark_links.specs.Paths.{begins_at_root}

-- a text with the bytes that percent signs stand for
abbrev pub decoded : List ℕ → List ℕ
decoded text = utf8_lossy (percent_decode text)

-- what is before the first such byte
abbrev pub until : ℕ → List ℕ → List ℕ
until mark [] = []
until mark (b ∷ bytes) = if b == mark then [] else b ∷ until mark bytes

-- the path of a destination: what is before `#`, and there before `?`
abbrev pub path_of : List ℕ → List ℕ
path_of destination = until 63 (until 35 destination)

-- what is after the first such byte
abbrev pub rest_after : ℕ → List ℕ → List ℕ
rest_after mark [] = []
rest_after mark (b ∷ bytes) = if b == mark then bytes else rest_after mark bytes

-- the name of a destination's anchor: what is after `#`
abbrev pub anchor_of : List ℕ → List ℕ
anchor_of destination = rest_after 35 destination

-- a byte that ends a path
abbrev pub is_mark : ℕ → Bool
is_mark b = (b == 35) || (b == 63)

-- a byte that ends no path
abbrev pub IsPlain : ℕ → Type 0
IsPlain b = is_mark b ≡ false

-- what is after the path of a destination
abbrev pub IsRest : List ℕ → Type 0
IsRest [] = Unit {0}
IsRest (b ∷ bytes) = is_mark b ≡ true

-- a destination that begins with a path, and has a query or an anchor after it, or nothing
abbrev pub IsFollowed : List ℕ → List ℕ → Type 0
IsFollowed path destination = (rest : List ℕ) × IsRest rest × (destination ≡ path ++ rest)

-- a byte of a scheme's name
abbrev pub is_scheme_byte : ℕ → Bool
is_scheme_byte b = is_ascii_alphanumeric b || (b == 43) || (b == 45) || (b == 46)

-- the rest of a scheme's name, and a colon
abbrev pub ends_scheme : List ℕ → Bool
ends_scheme [] = false
ends_scheme (b ∷ bytes) = if is_scheme_byte b then ends_scheme bytes else b == 58

-- the name of a scheme, as in `https:`
abbrev pub has_scheme : List ℕ → Bool
has_scheme [] = false
has_scheme (b ∷ bytes) = is_ascii_alphabetic b && ends_scheme bytes

-- two slashes in front of a host
abbrev pub has_host : List ℕ → Bool
has_host [] = false
has_host (b ∷ bytes) = (b == 47) && begins_at_root bytes

-- a destination that isn't empty, and names no host and no scheme
abbrev pub is_local : List ℕ → Bool
is_local [] = false
is_local (b ∷ bytes) = not (has_host (b ∷ bytes)) && not (has_scheme (b ∷ bytes))

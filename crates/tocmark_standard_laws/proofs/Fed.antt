-- Texts that end with a line feed.
use Rattle.std.specs.Prelude.{ℕ, Bool, false, ◌==◌, List, [], ◌∷◌}

-- the last byte is a line feed
abbrev pub is_fed : List ℕ → Bool
is_fed [] = false
is_fed (b ∷ []) = b == 10
is_fed (b ∷ c ∷ bs) = is_fed (c ∷ bs)

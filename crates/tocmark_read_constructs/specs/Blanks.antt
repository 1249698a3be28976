-- Spaces and tabs.
use Rattle.std.specs.Prelude.{ℕ, ◌==◌, ◌||◌, List, length, drop, take_while, reverse}
use Rattle.tocmark_read_scan.specs.Basic.{plus}

-- the place after the spaces from one on
abbrev pub behind_spaces : List ℕ → ℕ → ℕ
behind_spaces text place = plus place (length (take_while (λ b. b == 32) (drop place text)))

-- the place after the spaces and tabs from one on
abbrev pub behind_blanks : List ℕ → ℕ → ℕ
behind_blanks text place = plus place (length (take_while (λ b. (b == 32) || (b == 9)) (drop place text)))

-- the spaces and tabs at the end
abbrev pub trailing_blanks : List ℕ → ℕ
trailing_blanks bytes = length (take_while (λ b. (b == 32) || (b == 9)) (reverse bytes))

-- The line feeds that end what is laid on a sheet.
use Rattle.std.specs.Prelude.{ℕ, ◌==◌, List, [], ◌∷◌}
use Rattle.std.specs.List.{suffix_len}
use Rattle.tocmark_spelling.specs.Page.{Sheet, laid}

-- how many line feeds end a text
abbrev pub ending_feeds : List ℕ → ℕ
ending_feeds text = suffix_len (λ b. b == 10) text

-- a text that is laid, with the prefix of its lines
pub record Part : Type 0 where
  pub prefix : List ℕ
  pub text : List ℕ

-- texts laid one after another
abbrev pub laid_in_turn : List Part → Sheet → Sheet
laid_in_turn [] s = s
laid_in_turn (p ∷ ps) s = laid_in_turn ps (laid p.prefix p.text s)

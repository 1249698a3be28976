-- Bytes at places of which what is after is known.
use Rattle.std.proofs.Common.{◌≡◌, ℕ, zero, suc, List, [], ◌∷◌, ◌++◌, length, drop, ap, ◌∙◌}
use Rattle.tocmark_read_scan.specs.Basic.{byte_at}
use Rattle.tocmark_read_scan.proofs.PlainPieces.{drop_behind}

-- what is at a place
pub drop_at : (bytes pre rest : List ℕ) (p : ℕ) → bytes ≡ pre ++ rest → p ≡ length pre → drop p bytes ≡ rest
drop_at bytes pre rest p e at = ap (λ n. drop n bytes) at ∙ ap (drop (length pre)) e ∙ drop_behind pre rest

pub byte_front : (bytes : List ℕ) (q : ℕ) (ys : List ℕ) → drop q bytes ≡ ys → byte_at bytes q ≡ byte_at ys 0
byte_front bytes zero ys e = ap (λ l. byte_at l 0) e
byte_front [] (suc q) ys e = ap (λ l. byte_at l 0) e
byte_front (x ∷ xs) (suc q) ys e = byte_front xs q ys e

pub byte_dropped : (bytes : List ℕ) (q y : ℕ) (ys : List ℕ) → drop q bytes ≡ y ∷ ys → byte_at bytes q ≡ y
byte_dropped bytes q y ys e = byte_front bytes q (y ∷ ys) e

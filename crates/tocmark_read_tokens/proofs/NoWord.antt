-- Where a byte isn't in a text, no word that begins with it is.
use Rattle.std.proofs.Common.{◌≡◌, ℕ, zero, suc, false, ◌==◌, List, [], ◌∷◌, length, refl, arith}
use Rattle.std.proofs.lemmas.Bool.Decides.{nat_tests}
use Rattle.std.specs.List.{list_any}
use Rattle.std.specs.Prelude.{codes}
use Rattle.tocmark_read_scan.specs.Basic.{starts_at}
use Rattle.tocmark_read_scan.specs.Repeat.{iterated}
use Rattle.tocmark_read_scan.proofs.PlainTests.{both_false}
use Rattle.tocmark_read_tokens.specs.Html.{last_of, nearer}

-- no such word is at a place
none_at : (bytes word : List ℕ) (place b : ℕ) → list_any (λ x. x == b) bytes ≡ false → starts_at bytes place (b ∷ word) ≡ false
unfolding starts_at
none_at [] word zero b h = refl
none_at [] word (suc n) b h = refl
none_at (x ∷ xs) word zero b h =
    let apart : (x == b) ≡ false = (both_false (x == b) (list_any (λ y. y == b) xs) h).0 in
    let other : (b == x) ≡ false = grind (arith, apart, nat_tests) in
    rw other refl
none_at (x ∷ xs) word (suc n) b h = none_at xs word n b (both_false (x == b) (list_any (λ y. y == b) xs) h).1

-- so none is the last one
none_last : (bytes word : List ℕ) (b : ℕ) → list_any (λ x. x == b) bytes ≡ false → last_of bytes (b ∷ word) ≡ 0
unfolding last_of
none_last bytes word b h = rw (none_at bytes word (iterated (nearer bytes (b ∷ word)) (length bytes) (length bytes)) b h) refl

pub no_comment : (bytes : List ℕ) → list_any (λ b. b == 45) bytes ≡ false → last_of bytes (codes "-->") ≡ 0
no_comment bytes h = none_last bytes (codes "->") 45 h

pub no_instruction : (bytes : List ℕ) → list_any (λ b. b == 63) bytes ≡ false → last_of bytes (codes "?>") ≡ 0
no_instruction bytes h = none_last bytes (codes ">") 63 h

pub no_cdata : (bytes : List ℕ) → list_any (λ b. b == 93) bytes ≡ false → last_of bytes (codes "]]>") ≡ 0
no_cdata bytes h = none_last bytes (codes "]>") 93 h

-- Bytes without U+0000 are left as they are.
use Rattle.std.proofs.Common.{◌≡◌, false, ◌==◌, ℕ, List, [], ◌∷◌, refl, ap}
use Rattle.std.specs.List.{flat_map, list_any}
use Rattle.tocmark_read_scan.proofs.PlainTests.{both_false}
use Rattle.tocmark_read_page.specs.Definitions.{replaced}

pub without_zeros : (bytes : List ℕ) → list_any (λ b. b == 0) bytes ≡ false → flat_map replaced bytes ≡ bytes
unfolding replaced
without_zeros [] h = refl
without_zeros (b ∷ bs) h =
    let both = both_false (b == 0) (list_any (λ x. x == 0) bs) h in
    rw (both.0) (ap (λ (xs : List ℕ). b ∷ xs) (without_zeros bs (both.1)))

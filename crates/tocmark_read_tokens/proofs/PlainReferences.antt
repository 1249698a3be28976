-- The references to an ampersand and to a space.
use Rattle.std.proofs.Common.{◌≡◌, ℕ, ◌+◌, ◌^◌, ◌<◌, true, nat_lt, nat_le, List, [], ◌∷◌, ◌++◌, length, drop, refl, sym, ◌∙◌, arith, append_assoc, length-append, Some}
use Rattle.std.proofs.lemmas.Bool.Decides.{nat_tests}
use Rattle.tocmark_read_scan.specs.Basic.{plus, byte_at, bytes_between, starts_at, character_of}
use Rattle.tocmark_read_scan.specs.Class.{run_end, is_in}
use Rattle.tocmark_read_tokens.specs.Reference.{reference_at, named, referred, numeric, closed_number, number, character, digit}
use Rattle.tocmark_read_scan.proofs.PlainPieces.{piece_between}
use Rattle.tocmark_read_scan.proofs.PlainPlaces.{drop_at, byte_dropped}

pub amp_reference : (bytes rest : List ℕ) (p : ℕ) → drop p bytes ≡ 38 ∷ 97 ∷ 109 ∷ 112 ∷ 59 ∷ rest → p + 5 < 2 ^ 64 → reference_at bytes p ≡ Some (record { character = 38; next = p + 1 + 4 })
unfolding reference_at named referred starts_at
amp_reference bytes rest p e fits =
    let end : plus p 5 ≡ p + 1 + 4 = omega arith in
    rw (e, end) refl

is_numeric : (bytes rest : List ℕ) (p : ℕ) → drop p bytes ≡ 38 ∷ 35 ∷ rest → reference_at bytes p ≡ numeric bytes p
unfolding reference_at starts_at
is_numeric bytes rest p e = rw e refl

digits_read : (bytes rest : List ℕ) (p : ℕ) → drop (p + 2) bytes ≡ 51 ∷ 50 ∷ 59 ∷ rest → p + 5 < 2 ^ 64 → numeric bytes p ≡ closed_number bytes (p + 2) (p + 4) 10 7
unfolding numeric run_end is_in
digits_read bytes rest p e fits =
    let start : plus p 2 ≡ p + 2 = omega arith in
    let end : plus (p + 2) 2 ≡ p + 4 = omega arith in
    rw (start, byte_dropped bytes (p + 2) 51 (50 ∷ 59 ∷ rest) e, e, end) refl

number_closed : (bytes : List ℕ) (p : ℕ) → byte_at bytes (p + 4) ≡ 59 → bytes_between bytes (p + 2) (p + 4) ≡ 51 ∷ 50 ∷ [] → p + 5 < 2 ^ 64 → closed_number bytes (p + 2) (p + 4) 10 7 ≡ Some (record { character = 32; next = p + 1 + 4 })
unfolding closed_number number character digit character_of
number_closed bytes p e k fits =
    let some : nat_lt (p + 2) (p + 4) ≡ true = grind (arith, nat_tests) in
    let most : nat_le (p + 4) (plus (p + 2) 7) ≡ true = grind (arith, nat_tests) in
    let next : plus (p + 4) 1 ≡ p + 1 + 4 = omega arith in
    rw (some, most, e, k, next) refl

-- `&#32;` is a reference to a space
pub space_reference : (bytes pre rest : List ℕ) (p : ℕ) → bytes ≡ pre ++ 38 ∷ 35 ∷ 51 ∷ 50 ∷ 59 ∷ rest → p ≡ length pre → p + 5 < 2 ^ 64 → reference_at bytes p ≡ Some (record { character = 32; next = p + 1 + 4 })
space_reference bytes pre rest p e at fits =
    let front : List ℕ = pre ++ 38 ∷ 35 ∷ [] in
    let there : bytes ≡ front ++ 51 ∷ 50 ∷ 59 ∷ rest = e ∙ sym (append_assoc pre (38 ∷ 35 ∷ []) (51 ∷ 50 ∷ 59 ∷ rest)) in
    let first : p + 2 ≡ length front = grind (arith, length-append) in
    let last : bytes ≡ (front ++ 51 ∷ 50 ∷ []) ++ 59 ∷ rest = there ∙ sym (append_assoc front (51 ∷ 50 ∷ []) (59 ∷ rest)) in
    let end : p + 4 ≡ length (front ++ 51 ∷ 50 ∷ []) = grind (arith, length-append) in
    is_numeric bytes (51 ∷ 50 ∷ 59 ∷ rest) p (drop_at bytes pre _ p e at)
    ∙ digits_read bytes rest p (drop_at bytes front _ (p + 2) there first) fits
    ∙ number_closed bytes p (byte_dropped bytes (p + 4) 59 rest (drop_at bytes (front ++ 51 ∷ 50 ∷ []) _ (p + 4) last end)) (piece_between bytes front (51 ∷ 50 ∷ []) (59 ∷ rest) (p + 2) (p + 4) there first (let q : p + 4 ≡ length front + 2 = omega arith in q)) fits

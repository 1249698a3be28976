-- A text in which no U+0000 is, is left as it is, and so is an empty info string.
use Rattle.std.proofs.Common.{◌≡◌, ◌<◌, ◌-◌, ℕ, zero, suc, true, false, ◌==◌, List, [], ◌∷◌, ◌++◌, length, drop, take, slice_range, refl, ap, ◌∙◌, append-nil, slice_index, arith}
use Rattle.std.specs.List.{flat_map, list_any}
use Rattle.std.specs.Str.{IsUtf8}
use Rattle.std.specs.Str.Lossy.{utf8_lossy}
use Rattle.std.proofs.lemmas.Str.{IsUtf8-append, IsUtf8-from_ascii, utf8_lossy-IsUtf8, utf8_lossy_empty}
use Rattle.tocmark_read_scan.proofs.PlainTests.{both_false}
use Rattle.tocmark_read_page.specs.Definitions.{replaced}
use Rattle.tocmark_read_scan.specs.declared.syntax.Names.{Names}
use Rattle.tocmark_read_tokens.specs.Reference.{unescaped_in}
use Rattle.tocmark_reader.specs.Words.{cleaned, feed_if, info_text_in}

pub without_zeros : (bytes : List ℕ) → list_any (λ b. b == 0) bytes ≡ false → flat_map replaced bytes ≡ bytes
unfolding replaced
without_zeros [] h = refl
without_zeros (b ∷ bs) h =
    let both = both_false (b == 0) (list_any (λ x. x == 0) bs) h in
    rw (both.0) (ap (λ (xs : List ℕ). b ∷ xs) (without_zeros bs (both.1)))

pub text_kept : (bytes : List ℕ) → IsUtf8 bytes → list_any (λ b. b == 0) bytes ≡ false → cleaned bytes false ≡ bytes
unfolding cleaned
text_kept bytes utf8 h =
    ap (λ (xs : List ℕ). utf8_lossy (xs ++ [])) (without_zeros bytes h) ∙ ap utf8_lossy (append-nil bytes) ∙ utf8_lossy-IsUtf8 bytes utf8

feed_ascii : (i : ℕ) → slice_index (10 ∷ []) i < 128
feed_ascii zero = omega arith
feed_ascii (suc i) = omega arith

pub line_kept : (bytes : List ℕ) → IsUtf8 bytes → list_any (λ b. b == 0) bytes ≡ false → cleaned bytes true ≡ bytes ++ feed_if true
unfolding cleaned
line_kept bytes utf8 h =
    ap (λ (xs : List ℕ). utf8_lossy (xs ++ 10 ∷ [])) (without_zeros bytes h)
    ∙ utf8_lossy-IsUtf8 (bytes ++ 10 ∷ []) (IsUtf8-append bytes (10 ∷ []) utf8 (IsUtf8-from_ascii (10 ∷ []) feed_ascii))

-- an empty info string is an empty text
pub no_info : (names : Names) (bytes : List ℕ) → length bytes ≡ 0 → info_text_in names bytes ≡ []
unfolding info_text_in unescaped_in
no_info names [] h = utf8_lossy_empty [] refl
no_info names (b ∷ bs) h = absurd (omega (arith, h))

none_behind : (n : ℕ) (xs : List ℕ) → list_any (λ b. b == 0) xs ≡ false → list_any (λ b. b == 0) (drop n xs) ≡ false
none_behind zero xs h = h
none_behind (suc n) [] h = refl
none_behind (suc n) (x ∷ xs) h = none_behind n xs ((both_false (x == 0) (list_any (λ b. b == 0) xs) h).1)

none_before : (n : ℕ) (xs : List ℕ) → list_any (λ b. b == 0) xs ≡ false → list_any (λ b. b == 0) (take n xs) ≡ false
none_before zero xs h = refl
none_before (suc n) [] h = refl
none_before (suc n) (x ∷ xs) h =
    let both = both_false (x == 0) (list_any (λ b. b == 0) xs) h in rw (both.0) (none_before n xs (both.1))

-- nor in any part of it
pub none_between : (text : List ℕ) (start end : ℕ) → list_any (λ b. b == 0) text ≡ false → list_any (λ b. b == 0) (slice_range text start end) ≡ false
none_between text start end h = none_before (end - start) (drop start text) (none_behind start text h)

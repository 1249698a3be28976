-- The rule for the characters of an info string is one for its bytes.
use Rattle.std.proofs.Common.{◌≡◌, ℕ, zero, suc, ◌<◌, Bool, true, false, cond, codes, List, [], ◌∷◌, ◌++◌, ◌∙◌, ap, sym, refl, flat_map, replicate, append-nil, encode_utf8, encode_utf8_all, arith, rules}
use Rattle.std.specs.Prelude.{◌==◌, ◌||◌}
use Rattle.std.specs.List.{list_any}
use Rattle.std.proofs.lemmas.Bool.{or_from, or_parts}
use Rattle.std.specs.Str.{IsAscii}
use Rattle.std.proofs.lemmas.Bool.Decides.{nat_tests}
use Rattle.std.proofs.lemmas.Str.{encode_ascii, encodes-IsAscii}
use Rattle.tocmark_write_texts.proofs.CharacterLemmas.{IsAsciiRule}
use Rattle.tocmark_spelling.specs.Opening.{info_byte}

either : (P : List ℕ → Type 0) (b : Bool) (x y : List ℕ) → P x → P y → P (cond b x y)
either P true x y p q = p
either P false x y p q = q

abbrev IsFixed : List ℕ → Type 0
IsFixed r = encode_utf8_all r ≡ r

one_fixed : (c : ℕ) → c < 128 → IsFixed (c ∷ [])
one_fixed c low = append-nil (encode_utf8 c) ∙ encode_ascii c low

abbrev text_fixed : (r : List ℕ) → IsAscii r → IsFixed r
text_fixed r a = encodes-IsAscii r a

pub info_rule : IsAsciiRule info_byte
info_rule = record {
  kept = λ c past. grind (arith, nat_tests);
  ascii = λ c low.
      either IsFixed (c == 38) _ _ (text_fixed (codes "&amp;") (search rules))
      (either IsFixed (c == 92) _ _ (text_fixed (codes "\\\\") (search rules)) (one_fixed c low));
}

-- an info string without `&` and backslash is written as it is
pub plain_info : (bs : List ℕ) → (list_any (λ b. b == 38) bs || list_any (λ b. b == 92) bs) ≡ false → flat_map info_byte bs ≡ bs
plain_info [] h = refl
plain_info (b ∷ bs) h =
    let two = or_parts (list_any (λ b. b == 38) (b ∷ bs)) (list_any (λ b. b == 92) (b ∷ bs)) h in
    let ampersands = or_parts (b == 38) (list_any (λ b. b == 38) bs) two.0 in
    let backslashes = or_parts (b == 92) (list_any (λ b. b == 92) bs) two.1 in
    let tail = plain_info bs (or_from (list_any (λ b. b == 38) bs) (list_any (λ b. b == 92) bs) ampersands.1 backslashes.1) in
    let one : info_byte b ≡ b ∷ [] = rw (ampersands.0, backslashes.0) refl in
    ap (λ x. x ++ flat_map info_byte bs) one ∙ ap (λ x. b ∷ x) tail

-- a few backticks as the characters of a fence
pub ticks_fence : (n token : ℕ) (ticks : List ℕ) → token ≡ 96 → ticks ≡ replicate n 96 → ticks ≡ flat_map encode_utf8 (replicate n token)
ticks_fence n token ticks e h = h ∙ go n ∙ ap (λ t. flat_map encode_utf8 (replicate n t)) (sym e)
  where
    go : (n : ℕ) → replicate n 96 ≡ flat_map encode_utf8 (replicate n 96)
    go zero = refl
    go (suc n) = ap (λ x. 96 ∷ x) (go n) ∙ ap (λ x. x ++ flat_map encode_utf8 (replicate n 96)) (sym (encode_ascii 96 (omega arith)))

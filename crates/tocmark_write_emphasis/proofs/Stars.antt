-- A marker is `*` if its bytes are.
use Rattle.std.proofs.Common.{◌≡◌, ℕ, ◌<◌, [], ◌∷◌, length, bytes_eq, codes, encode_utf8, sym, ap, ◌∙◌, append-nil, lit<, arith}
use Rattle.std.specs.Prelude.{◌==◌}
use Rattle.std.proofs.lemmas.Bool.Decides.{same_from_decides, Decides-eqb, Decides-like}
use Rattle.std.proofs.lemmas.Slice.Eq.{bytes_eq-Decides}
use Rattle.std.proofs.lemmas.Str.{encode_ascii, inside_one}

its-bytes : (c : ℕ) → c ≡ 42 → encode_utf8 c ≡ 42 ∷ []
its-bytes c e = ap encode_utf8 e ∙ encode_ascii 42 (lit< tt)

its-code : (c : ℕ) → encode_utf8 c ≡ 42 ∷ [] → c ≡ 42
its-code c e =
    let some : 0 < length (encode_utf8 c) = omega (arith, ap length e) in
    inside_one c [] (42 ∷ []) 0 (sym e ∙ sym (append-nil (encode_utf8 c))) some (lit< tt)

pub star-is : (c : ℕ) → (c == 42) ≡ bytes_eq (encode_utf8 c) (codes "*")
star-is c =
    same_from_decides (c == 42) (bytes_eq (encode_utf8 c) (codes "*"))
    (Decides-like (c == 42) (its-bytes c) (its-code c) (Decides-eqb c 42)) (bytes_eq-Decides (encode_utf8 c) (codes "*"))

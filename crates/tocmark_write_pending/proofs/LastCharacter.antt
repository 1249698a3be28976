-- The last character of a text.
use Rattle.std.proofs.Common.{◌≡◌, ℕ, Some, None, List, [], ◌∷◌, ◌++◌, refl, sym, ap, ◌∙◌, take, length, reverse, subst, encode_utf8}
use Rattle.std.proofs.lemmas.List.{reverse-append, append-nil, take_at, nil_from_length}
use Rattle.std.proofs.lemmas.Str.{chars-nil, chars-append, chars_past_char, IsUtf8-take, IsUtf8-encode, IsCharBoundary-at_seam}
use Rattle.std.specs.Char.{IsScalar}
use Rattle.std.specs.Prelude.{slice_get}
use Rattle.std.specs.Str.{chars, IsUtf8}
use Rattle.tocmark_spelling.specs.Words.{last_character}

chars-encode : (c : ℕ) → IsUtf8 (encode_utf8 c) → chars (encode_utf8 c) ≡ c ∷ []
chars-encode c v = chars_past_char (encode_utf8 c) [] c v (sym (append-nil (encode_utf8 c))) ∙ ap (λ t. c ∷ t) chars-nil

pub last-is : (bs front : List ℕ) (c : ℕ) → IsUtf8 bs → IsScalar c → bs ≡ front ++ encode_utf8 c → last_character bs ≡ Some c
last-is bs front c u scalar e =
    let v : IsUtf8 (encode_utf8 c) = IsUtf8-encode c scalar in
    let n : ℕ = length front in
    let w : IsUtf8 front = subst IsUtf8 (ap (take n) e ∙ take_at front (encode_utf8 c) n refl) (IsUtf8-take bs n u (IsCharBoundary-at_seam bs front (encode_utf8 c) e v)) in
    ap (λ x. slice_get (reverse x) 0) (ap chars e ∙ chars-append front (encode_utf8 c) w ∙ ap (λ t. chars front ++ t) (chars-encode c v))
    ∙ ap (λ x. slice_get x 0) (reverse-append (chars front) (c ∷ []))

pub last-none : (bs : List ℕ) → length bs ≡ 0 → last_character bs ≡ None
last-none bs e = ap (λ x. slice_get (reverse x) 0) (ap chars (nil_from_length bs e) ∙ chars-nil)

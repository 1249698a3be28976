-- The written characters of a stretch in bytes, and the stretch by what its loop carries.
use Rattle.std.proofs.Common.{◌≡◌, ℕ, ◌<◌, ◌^◌, Bool, true, false, ◌&&◌, cond, Option, Some, None, MatchOption, List, [], ◌∷◌, ◌++◌, length, chars, encode_utf8, encode_utf8_all, codes, decimal, append-nil, append_assoc, IsUtf8, refl, ap, ◌∙◌, lit<, arith, rules, subst, ◌==◌}
use Rattle.std.specs.Prelude.{slice_get, not, is_some, is_none}
use Rattle.std.specs.Char.{is_ascii_digit}
use Rattle.std.specs.List.{list_all}
use Rattle.std.specs.Str.{IsAscii}
use Rattle.std.specs.Str.Iter.{chars_rest}
use Rattle.std.specs.declared.str.Chars.{Chars}
use Rattle.std.proofs.lemmas.Str.{encodes-append, encodes-IsAscii, chars_past_char, chars-nil, IsAscii-append}
use Rattle.std.proofs.lemmas.Str.Ascii.{IsAscii-cons, IsAscii-nil}
use Rattle.std.proofs.lemmas.Fmt.{IsAscii-decimal}
use Rattle.tocmark_write_texts.specs.Escape.{Surroundings, coded, reference, is_first, is_literal, is_encoded, written, spot, spot_from, escape_after}
use Rattle.tocmark_write_texts.specs.declared.escape.Spot.{Spot}

pub encoded_one : (c : ℕ) → encode_utf8_all (c ∷ []) ≡ encode_utf8 c
encoded_one c = append-nil (encode_utf8 c)

pub encoded_code : (c : ℕ) → c < 2 ^ 32 → encode_utf8_all (coded c) ≡ codes "&#" ++ (decimal c ++ codes ";")
unfolding coded
encoded_code c small =
    let ascii : IsAscii (decimal c ++ 59 ∷ []) =
    IsAscii-append (decimal c) (59 ∷ []) (IsAscii-decimal c (omega arith)) (IsAscii-cons 59 [] (lit< tt) IsAscii-nil) in
    encodes-IsAscii (38 ∷ 35 ∷ (decimal c ++ 59 ∷ []))
    (IsAscii-cons 38 (35 ∷ (decimal c ++ 59 ∷ [])) (lit< tt) (IsAscii-cons 35 (decimal c ++ 59 ∷ []) (lit< tt) ascii))

Some-same : (x y : List ℕ) → Some x ≡ Some y → x ≡ y
Some-same x y e = cc

-- a choice gives what its first part or what is left gives
chosen : (P : List ℕ → Type 0) (b : Bool) (x : List ℕ) (o : Option (List ℕ)) (r : List ℕ) → P x → (o ≡ Some r → P r) → cond b (Some x) o ≡ Some r → P r
chosen P true x o r p q e = subst P (Some-same x r e) p
chosen P false x o r p q e = q e

abbrev Same : List ℕ → Type 0
Same r = encode_utf8_all r ≡ r

fixed : (r : List ℕ) → IsAscii r → Same r
fixed r a = encodes-IsAscii r a

-- references are ASCII
pub encoded_reference : (p : Surroundings) (s : Spot) (r : List ℕ) → reference p s ≡ Some r → encode_utf8_all r ≡ r
unfolding reference
encoded_reference p s r =
    chosen Same (s.character == 10) (codes "&#10;") _ r (fixed _ (search rules))
    (chosen Same (s.character == 13) (codes "&#13;") _ r (fixed _ (search rules))
    (chosen Same (s.character == 38) (codes "&amp;") _ r (fixed _ (search rules))
    (chosen Same (s.character == 32 && is_first s && p.at_front) (codes "&#32;") _ r (fixed _ (search rules))
    (chosen Same (s.character == 9 && is_first s && p.at_front) (codes "&#9;") _ r (fixed _ (search rules)) (λ e. absurd cc)))))

pub chars_of_empty : (bs : List ℕ) → length bs ≡ 0 → chars bs ≡ []
chars_of_empty [] e = chars-nil
chars_of_empty (b ∷ bs) e = absurd (omega arith)

-- the second character of a text is the first one of what follows its first
pub second_character : (bs rest : List ℕ) (r : Option ℕ) → IsUtf8 bs → MatchOption r ((length bs ≡ 0) × (rest ≡ bs)) (λ c. bs ≡ encode_utf8 c ++ rest) → slice_get (chars rest) 0 ≡ slice_get (chars bs) 1
second_character bs rest None u h = rw (h.1, chars_of_empty bs h.0) refl
second_character bs rest (Some c) u h = rw (chars_past_char bs rest c u h) refl

-- how characters are written, by the one before them and whether all before them are digits
abbrev pub escape_on : Surroundings → Option ℕ → Bool → List ℕ → List ℕ
escape_on p before only_digits [] = []
escape_on p before only_digits (c ∷ cs) =
    written p (spot_from before only_digits c cs) ++ escape_on p (Some c) (is_ascii_digit c && only_digits) cs

pub escape_on-is : (p : Surroundings) (before cs : List ℕ) → escape_on p (slice_get before 0) (list_all is_ascii_digit before) cs ≡ escape_after p before cs
escape_on-is p before [] = refl
escape_on-is p before (c ∷ cs) = ap (λ x. written p (spot before c cs) ++ x) (escape_on-is p (c ∷ before) cs)

-- one more character of the text in bytes
pub escape_on-step : (p : Surroundings) (before : Option ℕ) (only_digits : Bool) (bs rest : List ℕ) (c : ℕ) → IsUtf8 bs → bs ≡ encode_utf8 c ++ rest
    → encode_utf8_all (escape_on p before only_digits (chars bs))
    ≡ encode_utf8_all (written p (spot_from before only_digits c (chars rest))) ++ encode_utf8_all (escape_on p (Some c) (is_ascii_digit c && only_digits) (chars rest))
escape_on-step p before only_digits bs rest c u e =
    ap (λ x. encode_utf8_all (escape_on p before only_digits x)) (chars_past_char bs rest c u e)
    ∙ encodes-append (written p (spot_from before only_digits c (chars rest))) _

-- a turn of the loop: one more character is written
pub escape_on-more : (p : Surroundings) (before : Option ℕ) (only_digits all_digits : Bool) (bs rest old new whole : List ℕ) (c : ℕ) → IsUtf8 bs
    → bs ≡ encode_utf8 c ++ rest → all_digits ≡ (is_ascii_digit c && only_digits)
    → new ≡ old ++ encode_utf8_all (written p (spot_from before only_digits c (chars rest)))
    → old ++ encode_utf8_all (escape_on p before only_digits (chars bs)) ≡ whole
    → new ++ encode_utf8_all (escape_on p (Some c) all_digits (chars rest)) ≡ whole
escape_on-more p before only_digits all_digits bs rest old new whole c u e d w h =
    let step = escape_on-step p before only_digits bs rest c u e in
    rw (w, d, append_assoc) (rw step at h)

none_from_some : (o : Option ℕ) (b : Bool) → is_some o ≡ not b → b ≡ is_none o
none_from_some None true e = refl
none_from_some None false e = cc
none_from_some (Some x) true e = cc
none_from_some (Some x) false e = refl

-- what is round a character, part by part
pub spot_from_parts : (before : Option ℕ) (only_digits : Bool) (c : ℕ) (after : List ℕ) (digits : Bool) (first second : Option ℕ) (none : Bool)
    → digits ≡ (is_some before && only_digits) → first ≡ slice_get after 0 → second ≡ slice_get after 1 → is_some second ≡ not none
    → (let s : Spot = record { character = c; before = before; after_digits = digits; after = first; before_last = none } in s ≡ spot_from before only_digits c after)
spot_from_parts before only_digits c after digits first second none d f e n =
    let l : none ≡ is_none (slice_get after 1) = none_from_some second none n ∙ ap is_none e in
    rw (d, f, l) refl

-- a reference stands for the character
pub written_reference : (p : Surroundings) (s : Spot) (r : List ℕ) → is_literal p s.character ≡ false → is_encoded p s ≡ false → reference p s ≡ Some r
    → encode_utf8_all (written p s) ≡ r
unfolding written
written_reference p s r l e f = rw (l, e, f) (encoded_reference p s r f)

-- the first two characters that are read from a text
pub two_characters : (text bs ds : List ℕ) (first second : Option ℕ) → IsUtf8 text → bs ≡ text
    → MatchOption first ((length bs ≡ 0) × (ds ≡ bs)) (λ c. bs ≡ encode_utf8 c ++ ds) → first ≡ slice_get (chars bs) 0 → second ≡ slice_get (chars ds) 0
    → (first ≡ slice_get (chars text) 0) × (second ≡ slice_get (chars text) 1)
two_characters text bs ds first second u e h f g =
    let v : IsUtf8 bs = rw e u in
    (f ∙ ap (λ x. slice_get (chars x) 0) e, g ∙ second_character bs ds first v h ∙ ap (λ x. slice_get (chars x) 1) e)

pub ended_at : (first : Option ℕ) (s t : Chars) → MatchOption first ((length (chars_rest s) ≡ 0) × (t ≡ s)) (λ c. chars_rest s ≡ encode_utf8 c ++ chars_rest t)
    → MatchOption first ((length (chars_rest s) ≡ 0) × (chars_rest t ≡ chars_rest s)) (λ c. chars_rest s ≡ encode_utf8 c ++ chars_rest t)
ended_at None s t h = (h.0, ap (λ (x : Chars). chars_rest x) h.1)
ended_at (Some c) s t h = h

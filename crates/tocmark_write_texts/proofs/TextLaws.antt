-- The laws of reading back, for texts in bytes.
use Rattle.std.proofs.Common.{◌≡◌, ◌≢◌, ℕ, suc, true, ◌&&◌, List, [], ◌∷◌, ◌++◌, codes, decimal, chars, IsUtf8, encode_utf8, encode_utf8_all, refl, sym, ap, ◌∙◌, arith}
use Rattle.std.specs.Prelude.{All, ◌==◌, ◌||◌}
use Rattle.std.specs.Char.{char_set_contains}
use Rattle.std.proofs.lemmas.List.Elements.{All-cons, All-head, All-tail}
use Rattle.std.proofs.lemmas.List.Concat.{flat_map-append}
use Rattle.std.specs.Str.{all_scalars, IsAscii}
use Rattle.std.specs.List.{flat_map}
use Rattle.std.proofs.lemmas.Bool.{and_parts, and_from}
use Rattle.std.proofs.lemmas.Str.{chars-encodes, encodes-chars, encodes-append, scalars-chars}
use Rattle.std.proofs.lemmas.Fmt.{IsAscii-decimal}
use lib.Utf8.{scalar, low_scalar, scalar_fits}
use Rattle.tocmark_write_texts.specs.Escape.{Surroundings, is_literal, is_encoded, is_first, needs_backslash, coded, reference, with_backslash, written, spot, escape_after, escaped}
use Rattle.tocmark_write_texts.specs.Destination.{destination_character, destination_text, title_character, title_text}
use Rattle.tocmark_write_texts.specs.Unescape.{unescape, IsReadable}
use Rattle.tocmark_write_texts.specs.declared.escape.Spot.{Spot}
use Rattle.tocmark_write_texts.proofs.CharacterLemmas.{IsAsciiRule, flat_map-encode, destination_rule, title_rule}
use Rattle.tocmark_write_texts.proofs.ReadBack.{pick, pick_some, escape_after-read, destination_text-read, title_text-read}

abbrev AreScalars : List ℕ → Type 0
AreScalars cs = all_scalars cs ≡ true

scalars-append : (xs ys : List ℕ) → AreScalars xs → AreScalars ys → AreScalars (xs ++ ys)
scalars-append [] ys a b = b
scalars-append (x ∷ xs) ys a b =
    let parts = and_parts (scalar x) (all_scalars xs) a in
    and_from (scalar x) (all_scalars (xs ++ ys)) parts.0 (scalars-append xs ys parts.1 b)

scalars_one : (c : ℕ) → scalar c ≡ true → AreScalars (c ∷ [])
scalars_one c s = and_from (scalar c) true s refl

scalars-ascii : (bs : List ℕ) → IsAscii bs → AreScalars bs
scalars-ascii [] a = refl
scalars-ascii (b ∷ bs) a =
    let low = a 0 in
    let tail : IsAscii bs = λ i. a (suc i) in
    and_from (scalar b) (all_scalars bs) (low_scalar b (omega arith)) (scalars-ascii bs tail)

scalars-coded : (c : ℕ) → scalar c ≡ true → AreScalars (coded c)
unfolding coded
scalars-coded c s =
    let small = scalar_fits c s in
    scalars-append (decimal c) (59 ∷ []) (scalars-ascii (decimal c) (IsAscii-decimal c (omega arith))) refl

scalars-written : (p : Surroundings) (s : Spot) → scalar s.character ≡ true → AreScalars (written p s)
unfolding written reference with_backslash
scalars-written p s v =
    let c = s.character in
    let P = AreScalars in
    pick P (is_literal p c) (c ∷ []) _ (λ _. scalars_one c v)
    (λ _. pick P (is_encoded p s) (coded c) _ (λ _. scalars-coded c v)
    (λ _. pick_some P (c == 10) (codes "&#10;") _ _ (λ _. refl)
    (λ _. pick_some P (c == 13) (codes "&#13;") _ _ (λ _. refl)
    (λ _. pick_some P (c == 38) (codes "&amp;") _ _ (λ _. refl)
    (λ _. pick_some P (c == 32 && is_first s && p.at_front) (codes "&#32;") _ _ (λ _. refl)
    (λ _. pick_some P (c == 9 && is_first s && p.at_front) (codes "&#9;") _ _ (λ _. refl)
    (λ _. pick P (needs_backslash p s) (92 ∷ c ∷ []) (c ∷ []) (λ _. scalars_one c v) (λ _. scalars_one c v))))))))

pub scalars-escape_after : (p : Surroundings) (before cs : List ℕ) → AreScalars cs → AreScalars (escape_after p before cs)
scalars-escape_after p before [] a = refl
scalars-escape_after p before (c ∷ cs) a =
    let parts = and_parts (scalar c) (all_scalars cs) a in
    scalars-append (written p (spot before c cs)) (escape_after p (c ∷ before) cs) (scalars-written p (spot before c cs) parts.0)
    (scalars-escape_after p (c ∷ before) cs parts.1)

readable : (cs : List ℕ) → AreScalars cs → All (λ c. c ≢ 0) cs → All IsReadable cs
readable [] a n = λ k d l. absurd (omega arith)
readable (c ∷ cs) a n =
    let parts = and_parts (scalar c) (all_scalars cs) a in
    All-cons IsReadable c cs (parts.0, All-head (λ x. x ≢ 0) c cs n) (readable cs parts.1 (All-tail (λ x. x ≢ 0) c cs n))

-- the characters of an escaped text are read as those of the text
pub escaped-read : (p : Surroundings) (text : List ℕ) → char_set_contains (codes "*_") p.token ≡ true → IsUtf8 text → All (λ c. c ≢ 0) (chars text)
    → unescape (chars (escaped p text)) ≡ chars text
unfolding escaped
escaped-read p text standard u n =
    let values = scalars-chars text u in
    ap unescape (chars-encodes (escape_after p [] (chars text)) (scalars-escape_after p [] (chars text) values))
    ∙ escape_after-read p [] (chars text) standard (readable (chars text) values n)

flat_map-encodes : (f : ℕ → List ℕ) → IsAsciiRule f → (cs : List ℕ) → flat_map f (encode_utf8_all cs) ≡ encode_utf8_all (flat_map f cs)
flat_map-encodes f h [] = refl
flat_map-encodes f h (c ∷ cs) =
    flat_map-append f (encode_utf8 c) (encode_utf8_all cs)
    ∙ rw (flat_map-encode f h c, flat_map-encodes f h cs) (sym (encodes-append (f c) (flat_map f cs)))

scalars-flat_map : (f : ℕ → List ℕ) → ((c : ℕ) → scalar c ≡ true → AreScalars (f c)) → (cs : List ℕ) → AreScalars cs → AreScalars (flat_map f cs)
scalars-flat_map f h [] a = refl
scalars-flat_map f h (c ∷ cs) a =
    let parts = and_parts (scalar c) (all_scalars cs) a in
    scalars-append (f c) (flat_map f cs) (h c parts.0) (scalars-flat_map f h cs parts.1)

-- a rule for ASCII goes by characters as it goes by bytes
chars-flat_map : (f : ℕ → List ℕ) → IsAsciiRule f → ((c : ℕ) → scalar c ≡ true → AreScalars (f c)) → (text : List ℕ) → IsUtf8 text
    → chars (flat_map f text) ≡ flat_map f (chars text)
chars-flat_map f h v text u =
    ap (λ x. chars (flat_map f x)) (sym (encodes-chars text u))
    ∙ ap chars (flat_map-encodes f h (chars text))
    ∙ chars-encodes (flat_map f (chars text)) (scalars-flat_map f v (chars text) (scalars-chars text u))

scalars-destination : (c : ℕ) → scalar c ≡ true → AreScalars (destination_character c)
scalars-destination c v =
    let P = AreScalars in
    pick P (c == 38) (codes "&amp;") _ (λ _. refl)
    (λ _. pick P (c == 10) (codes "&#10;") _ (λ _. refl)
    (λ _. pick P (c == 13) (codes "&#13;") _ (λ _. refl)
    (λ _. pick P (c == 92 || c == 60 || c == 62) (92 ∷ c ∷ []) (c ∷ []) (λ _. scalars_one c v) (λ _. scalars_one c v))))

scalars-title : (c : ℕ) → scalar c ≡ true → AreScalars (title_character c)
scalars-title c v =
    let P = AreScalars in
    pick P (c == 38) (codes "&amp;") _ (λ _. refl)
    (λ _. pick P (c == 34 || c == 92) (92 ∷ c ∷ []) (c ∷ []) (λ _. scalars_one c v) (λ _. scalars_one c v))

-- the characters of an escaped destination are read as those of the destination
pub destination_text-chars-read : (text : List ℕ) → IsUtf8 text → unescape (chars (destination_text text)) ≡ chars text
destination_text-chars-read text u =
    ap unescape (chars-flat_map destination_character destination_rule scalars-destination text u) ∙ destination_text-read (chars text)

-- and so are those of a title
pub title_text-chars-read : (text : List ℕ) → IsUtf8 text → unescape (chars (title_text text)) ≡ chars text
title_text-chars-read text u =
    ap unescape (chars-flat_map title_character title_rule scalars-title text u) ∙ title_text-read (chars text)

-- The white space at the front of HTML.
use Rattle.std.proofs.Common.{◌≡◌, ℕ, suc, ◌+◌, ◌-◌, ◌<◌, ◌≤◌, Bool, true, false, cond, List, [], ◌∷◌, ◌++◌, refl, sym, ap, ◌∙◌, drop, take, length, length-append, get_or, arith, nat_eq, inl, inr, ◌≢◌, encode_utf8, encode_utf8_all, append_assoc, IsUtf8, chars}
use Rattle.std.specs.Prelude.{◌||◌, ◌&&◌, ◌==◌}
use Rattle.std.specs.Char.{is_whitespace, to_ascii_lowercase}
use Rattle.std.specs.List.{list_any}
use Rattle.std.specs.Str.{trim_start, skip_leading_whitespace, str_to_ascii_lowercase}
use Rattle.std.proofs.Math.Seq.{take-append_seam, drop-append_seam}
use Rattle.std.proofs.lemmas.Bool.{cases_lt, false≢true, ne_eqb}
use Rattle.std.proofs.lemmas.Bool.Decides.{nat_tests}
use Rattle.std.proofs.lemmas.List.Folds.{list_any-append}
use Rattle.std.proofs.lemmas.Str.{chars-nil, encode_ascii, encodes-append, encodes-chars, chars-append, length-encode, len_utf8_bounds}
use Rattle.tocmark_write_texts.proofs.CharacterLemmas.{bytes_past_ascii}
use Rattle.tocmark_spelling.specs.Words.{begins_with}
use Rattle.tocmark_write_blocks.specs.BlockEnds.{left_from, last_of}
use Rattle.tocmark_write_blocks.specs.HtmlAhead.{visible_with}
use Rattle.tocmark_write_blocks.proofs.RawLemmas.{left-false, right-false}

-- the white space at the front of some characters
abbrev white : List ℕ → List ℕ
white [] = []
white (c ∷ cs) = cond (is_whitespace c) (c ∷ white cs) []

-- the white space at the front of a text
abbrev pub white_of : List ℕ → List ℕ
white_of text = encode_utf8_all (white (chars text))

split-at : (b : Bool) (c : ℕ) (cs : List ℕ) → encode_utf8_all cs ≡ encode_utf8_all (white cs) ++ encode_utf8_all (skip_leading_whitespace cs)
    → encode_utf8_all (c ∷ cs) ≡ encode_utf8_all (cond b (c ∷ white cs) []) ++ encode_utf8_all (cond b (skip_leading_whitespace cs) (c ∷ cs))
split-at true c cs h =
    ap (λ x. encode_utf8 c ++ x) h
    ∙ sym (append_assoc (encode_utf8 c) (encode_utf8_all (white cs)) (encode_utf8_all (skip_leading_whitespace cs)))
split-at false c cs h = refl

white-split : (cs : List ℕ) → encode_utf8_all cs ≡ encode_utf8_all (white cs) ++ encode_utf8_all (skip_leading_whitespace cs)
white-split [] = refl
white-split (c ∷ cs) = split-at (is_whitespace c) c cs (white-split cs)

pub trim-split : (text : List ℕ) → IsUtf8 text → text ≡ white_of text ++ trim_start text
unfolding trim_start
trim-split text u = sym (encodes-chars text u) ∙ white-split (chars text)

pub trim-nil : trim_start [] ≡ []
unfolding trim_start
trim-nil = ap (λ cs. encode_utf8_all (skip_leading_whitespace cs)) chars-nil

pub trim-shorter : (text : List ℕ) → IsUtf8 text → length (trim_start text) ≤ length text
trim-shorter text u = let e = ap length (trim-split text u) in omega (arith, e, length-append (white_of text) (trim_start text))

-- ---- a byte that is none of white space

none-high : (q : ℕ) → q < 128 → (xs : List ℕ) → ((k : ℕ) → k < length xs → 128 ≤ get_or xs k 0) → list_any (λ b. nat_eq q b) xs ≡ false
none-high q low [] h = refl
none-high q low (x ∷ xs) h =
    let big : 128 ≤ x = h 0 (omega arith) in
    let differ : q ≢ x = omega arith in
    let tail : (k : ℕ) → k < length xs → 128 ≤ get_or xs k 0 = λ k l. h (suc k) (omega arith) in
    ap (λ z. z || list_any (λ b. nat_eq q b) xs) (ne_eqb q x differ) ∙ none-high q low xs tail

char-none : (q c : ℕ) → q < 128 → is_whitespace q ≡ false → is_whitespace c ≡ true → list_any (λ b. nat_eq q b) (encode_utf8 c) ≡ false
char-none q c low plain blank =
    elim (cases_lt c 128) [
      | inl small ↦
          let differ : q ≢ c = λ e. false≢true (sym plain ∙ ap is_whitespace e ∙ blank) in
          ap (list_any (λ b. nat_eq q b)) (encode_ascii c small) ∙ ap (λ z. z || false) (ne_eqb q c differ)
      | inr high ↦ none-high q low (encode_utf8 c) (bytes_past_ascii c high)
    ]

none-at : (q c : ℕ) (cs : List ℕ) (b : Bool) → b ≡ is_whitespace c → q < 128 → is_whitespace q ≡ false → list_any (λ b. nat_eq q b) (encode_utf8_all (white cs)) ≡ false
    → list_any (λ b. nat_eq q b) (encode_utf8_all (cond b (c ∷ white cs) [])) ≡ false
none-at q c cs true e low plain h =
    list_any-append (λ b. nat_eq q b) (encode_utf8 c) (encode_utf8_all (white cs))
    ∙ ap (λ z. z || list_any (λ b. nat_eq q b) (encode_utf8_all (white cs))) (char-none q c low plain (sym e)) ∙ h
none-at q c cs false e low plain h = refl

any-white : (q : ℕ) → q < 128 → is_whitespace q ≡ false → (cs : List ℕ) → list_any (λ b. nat_eq q b) (encode_utf8_all (white cs)) ≡ false
any-white q low plain [] = refl
any-white q low plain (c ∷ cs) = none-at q c cs (is_whitespace c) refl low plain (any-white q low plain cs)

pub none-white : (q : ℕ) (text : List ℕ) → q < 128 → is_whitespace q ≡ false → list_any (λ b. nat_eq q b) (white_of text) ≡ false
none-white q text low plain = any-white q low plain (chars text)

-- 60 is `<`
low-byte : (b : ℕ) → nat_eq 60 (to_ascii_lowercase b) ≡ nat_eq 60 b
low-byte b = grind (arith, nat_tests)

any-lower : (xs : List ℕ) → list_any (λ b. nat_eq 60 b) (str_to_ascii_lowercase xs) ≡ list_any (λ b. nat_eq 60 b) xs
any-lower [] = refl
any-lower (x ∷ xs) =
    ap (λ z. z || list_any (λ b. nat_eq 60 b) (str_to_ascii_lowercase xs)) (low-byte x) ∙ ap (λ z. nat_eq 60 x || z) (any-lower xs)

pub none-lower : (text : List ℕ) → list_any (λ b. nat_eq 60 b) (str_to_ascii_lowercase (white_of text)) ≡ false
none-lower text = any-lower (white_of text) ∙ none-white 60 text (omega arith) refl

pub skip-bytes : (q : ℕ) (ps xs s : List ℕ) → list_any (λ b. nat_eq q b) xs ≡ false → left_from (q ∷ ps) (xs ++ s) ≡ left_from (q ∷ ps) s
skip-bytes q ps [] s h = refl
skip-bytes q ps (x ∷ xs) s h =
    let first = left-false (nat_eq q x) (list_any (λ b. nat_eq q b) xs) h in
    let rest = right-false (nat_eq q x) (list_any (λ b. nat_eq q b) xs) h in
    ap (λ z. cond (z && begins_with (xs ++ s) ps) (suc (length (xs ++ s))) (left_from (q ∷ ps) (xs ++ s))) first ∙ skip-bytes q ps xs s rest

-- ---- two texts that are joined

-- characters without the white space at their front, and others after them
abbrev joined_skip : List ℕ → List ℕ → List ℕ
joined_skip [] ys = skip_leading_whitespace ys
joined_skip (x ∷ xs) ys = x ∷ (xs ++ ys)

skip-at : (b : Bool) (c : ℕ) (xs ys : List ℕ) → skip_leading_whitespace (xs ++ ys) ≡ joined_skip (skip_leading_whitespace xs) ys
    → cond b (skip_leading_whitespace (xs ++ ys)) (c ∷ (xs ++ ys)) ≡ joined_skip (cond b (skip_leading_whitespace xs) (c ∷ xs)) ys
skip-at true c xs ys h = h
skip-at false c xs ys h = refl

skip-append : (xs ys : List ℕ) → skip_leading_whitespace (xs ++ ys) ≡ joined_skip (skip_leading_whitespace xs) ys
skip-append [] ys = refl
skip-append (c ∷ xs) ys = skip-at (is_whitespace c) c xs ys (skip-append xs ys)

-- a text without the white space at its front, and another after it
abbrev pub joined_trim : List ℕ → List ℕ → List ℕ
joined_trim [] s = trim_start s
joined_trim (x ∷ xs) s = x ∷ (xs ++ s)

joined-full : (xs s : List ℕ) → 1 ≤ length xs → joined_trim xs s ≡ xs ++ s
joined-full [] s le = absurd (omega arith)
joined-full (x ∷ xs) s le = refl

encode-joined : (xs : List ℕ) (s : List ℕ) → IsUtf8 s → encode_utf8_all (joined_skip xs (chars s)) ≡ joined_trim (encode_utf8_all xs) s
unfolding trim_start
encode-joined [] s u = refl
encode-joined (x ∷ xs) s u =
    let some : 1 ≤ length (encode_utf8 x ++ encode_utf8_all xs) = omega (arith, length-append (encode_utf8 x) (encode_utf8_all xs), length-encode x, (len_utf8_bounds x).0) in
    encodes-append (x ∷ xs) (chars s) ∙ ap (λ z. encode_utf8_all (x ∷ xs) ++ z) (encodes-chars s u) ∙ sym (joined-full (encode_utf8_all (x ∷ xs)) s some)

pub trim-append : (t s : List ℕ) → IsUtf8 t → IsUtf8 s → trim_start (t ++ s) ≡ joined_trim (trim_start t) s
unfolding trim_start
trim-append t s u v =
    ap (λ cs. encode_utf8_all (skip_leading_whitespace cs)) (chars-append t s u)
    ∙ ap encode_utf8_all (skip-append (chars t) (chars s))
    ∙ encode-joined (skip_leading_whitespace (chars t)) s v

visible-at : (trimmed s : List ℕ) → cond (length trimmed == 0) (length (trim_start s)) (length s + length trimmed) ≡ length (joined_trim trimmed s)
visible-at [] s = refl
visible-at (x ∷ xs) s =
    let ne : suc (length xs) ≢ 0 = omega arith in
    ap (λ b. cond b (length (trim_start s)) (length s + suc (length xs))) (ne_eqb (suc (length xs)) 0 ne)
    ∙ omega (arith, length-append xs s)

pub visible-is : (t s : List ℕ) → IsUtf8 t → IsUtf8 s → visible_with t (length s) (length (trim_start s)) ≡ length (trim_start (t ++ s))
visible-is t s u v = visible-at (trim_start t) s ∙ ap length (sym (trim-append t s u v))

opening-at : (trimmed after : List ℕ) → IsUtf8 after → take (length (joined_trim trimmed after) - length after) (joined_trim trimmed after) ≡ trimmed
opening-at [] after v =
    let none : length (trim_start after) - length after ≡ 0 = omega (arith, trim-shorter after v) in
    ap (λ n. take n (trim_start after)) none
opening-at (x ∷ xs) after v =
    let size : length (x ∷ (xs ++ after)) - length after ≡ length (x ∷ xs) = omega (arith, length-append xs after) in
    ap (λ n. take n (x ∷ (xs ++ after))) size ∙ take-append_seam (x ∷ xs) after

-- the front of a body, in all HTML from its first byte on
pub opening-is : (body after : List ℕ) → IsUtf8 body → IsUtf8 after
    → take (length (trim_start (body ++ after)) - length after) (trim_start (body ++ after)) ≡ trim_start body
opening-is body after u v =
    ap (λ x. take (length x - length after) x) (trim-append body after u v) ∙ opening-at (trim_start body) after v

-- the last bytes of a text
pub last-is : (front s : List ℕ) → last_of (length s) (front ++ s) ≡ s
last-is front s =
    let size : length (front ++ s) - length s ≡ length front = omega (arith, length-append front s) in
    ap (λ n. drop n (front ++ s)) size ∙ drop-append_seam front s

pub trim-last : (front s : List ℕ) → IsUtf8 s → last_of (length (trim_start s)) (front ++ s) ≡ trim_start s
trim-last front s u =
    let whole : front ++ s ≡ (front ++ white_of s) ++ trim_start s = ap (λ x. front ++ x) (trim-split s u) ∙ sym (append_assoc front (white_of s) (trim_start s)) in
    ap (last_of (length (trim_start s))) whole ∙ last-is (front ++ white_of s) (trim_start s)

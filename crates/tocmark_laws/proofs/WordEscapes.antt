-- Words without a bar are written as they are.
use Rattle.std.proofs.Common.{◌≡◌, ℕ, zero, suc, ◌<◌, ◌≤◌, Bool, true, false, not, ◌==◌, ◌&&◌, ◌||◌, if◌then◌else◌, List, [], ◌∷◌, ◌++◌, codes, encode_utf8_all, IsAscii, unwrap_or, refl, ap, sym, ◌∙◌, arith, Option, Some, None, true≢false}
use Rattle.std.proofs.lemmas.Bool.Decides.{nat_tests}
use Rattle.std.proofs.lemmas.Str.{chars-IsAscii, encodes-IsAscii}
use Rattle.std.specs.Prelude.{is_none}
use Rattle.std.specs.Char.{char_set_contains, is_ascii_digit, is_ascii_alphanumeric, is_ascii_punctuation}
use Rattle.std.specs.List.{AllByRecursion, list_all}
use Rattle.tocmark_write_texts.specs.Escape.{Surroundings, spot_from, is_last, is_literal, is_encoded, reference, with_backslash, needs_backslash, is_read_as_marker, is_marker, is_own_token, written, escape_after, escape, escaped}
use Rattle.tocmark_read_scan.proofs.PlainTests.{eq_of, not_char, differs, turned, both_true}
use Rattle.tocmark_laws.proofs.WordsReading.{IsWordByte, marks}

-- a byte of words that isn't a bar
pub record IsBareByte (c : ℕ) : Type 0 where
  pub word : IsWordByte c
  pub bar : (c == 124) ≡ false

-- a place outside headings, where characters are escaped as they are wanted
pub record IsWordPlace (p : Surroundings) : Type 0 where
  pub literal : p.literal ≡ false
  pub first : p.first_encoded ≡ false
  pub last : p.last_encoded ≡ false
  pub heading : p.in_heading ≡ false
  pub token : char_set_contains (codes "*_") p.token ≡ true

set_apart : (test : ℕ → Bool) (xs : List ℕ) (c : ℕ) → list_all test xs ≡ true → test c ≡ false → char_set_contains xs c ≡ false
set_apart test [] c h k = refl
set_apart test (x ∷ xs) c h k =
    let both = both_true (test x) (list_all test xs) h in
    rw (turned test c x (both.0) k) (set_apart test xs c (both.1) k)

no_own_token : (p : Surroundings) (c : ℕ) → IsWordPlace p → is_own_token p c ≡ false
no_own_token p c h = by_eq (c == p.token) refl
  where
    by_eq : (k : Bool) → (c == p.token) ≡ k → (k && not (char_set_contains (codes "*_") c)) ≡ false
    by_eq true e = let same : char_set_contains (codes "*_") c ≡ true = ap (char_set_contains (codes "*_")) (eq_of c p.token e) ∙ h.token in rw same refl
    by_eq false e = refl

-- a letter or digit has no backslash before it
letter_free : (p : Surroundings) (before : Option ℕ) (o : Bool) (c : ℕ) (cs : List ℕ) → IsWordPlace p → is_ascii_punctuation c ≡ false → needs_backslash p (spot_from before o c cs) ≡ false
unfolding needs_backslash is_read_as_marker
letter_free p before o c cs h k =
    let test : ℕ → Bool = is_ascii_punctuation in
    rw (set_apart test (codes "*[]<~`") c refl k, differs test c 92 refl k, differs test c 62 refl k, differs test c 94 refl k, differs test c 36 refl k, differs test c 58 refl k, differs test c 123 refl k, differs test c 95 refl k, differs test c 124 refl k, differs test c 35 refl k, set_apart test (codes "-+=") c refl k, set_apart test (codes ".)") c refl k, differs test c 33 refl k, no_own_token p c h) refl

-- whichever of these tests holds, the answer is no
no_answer : (a b c d e f g : Bool) → g ≡ false → ((if a then false else (if b then false else (if c then false else (if d then false else (if e then false else (if f then g else false)))))) || false) ≡ false
no_answer true b c d e f g h = refl
no_answer false true c d e f g h = refl
no_answer false false true d e f g h = refl
no_answer false false false true e f g h = refl
no_answer false false false false true f g h = refl
no_answer false false false false false true g h = rw h refl
no_answer false false false false false false g h = refl

-- nor has a byte of words after another one, unless it could end the number of a list
later_free : (p : Surroundings) (b : ℕ) (o : Bool) (c : ℕ) (cs : List ℕ) → IsWordPlace p → IsBareByte c → (not p.in_table && o) ≡ false → needs_backslash p (spot_from (Some b) o c cs) ≡ false
unfolding needs_backslash is_read_as_marker is_marker
later_free p b o c cs h k digits =
    let test : ℕ → Bool = char_set_contains marks in
    let out : test c ≡ false = k.word.out in
    rw (set_apart test (codes "*[]<~`") c refl out, differs test c 92 refl out, differs test c 94 refl out, differs test c 36 refl out, differs test c 95 refl out, k.bar, differs test c 33 refl out, h.heading, no_own_token p c h)
    (no_answer (c == 62) (c == 58) (c == 123) (c == 35) (char_set_contains (codes "-+=") c) (char_set_contains (codes ".)") c) (not p.in_table && o) digits)

no_code : (a b c : Bool) → (((a && false) || (b && false)) && c) ≡ false
no_code true true c = refl
no_code true false c = refl
no_code false true c = refl
no_code false false c = refl

-- a blank that isn't at the front, or no blank, is no reference
no_blank : (s f g : Bool) (xs : List ℕ) → (s && f) ≡ false → unwrap_or (if s && f && g then Some (codes "&#32;") else (if false && f && g then Some (codes "&#9;") else None)) xs ≡ xs
no_blank true true g xs h = absurd (true≢false h)
no_blank true false g xs h = refl
no_blank false f g xs h = refl

byte_written : (p : Surroundings) (before : Option ℕ) (o : Bool) (c : ℕ) (cs : List ℕ) → IsWordPlace p → IsBareByte c → ((c == 32) && is_none before) ≡ false → needs_backslash p (spot_from before o c cs) ≡ false → written p (spot_from before o c cs) ≡ c ∷ []
unfolding written reference with_backslash
byte_written p before o c cs h k blank free =
    let low : 32 ≤ c = k.word.printable.low in
    let literal : is_literal p c ≡ false = rw h.literal refl in
    let encoded : is_encoded p (spot_from before o c cs) ≡ false = rw (h.first, h.last) (no_code (is_none before) (is_last (spot_from before o c cs)) _) in
    let feed : (c == 10) ≡ false = grind (arith, nat_tests) in
    let return : (c == 13) ≡ false = grind (arith, nat_tests) in
    let tab : (c == 9) ≡ false = grind (arith, nat_tests) in
    let ampersand : (c == 38) ≡ false = differs (char_set_contains marks) c 38 refl k.word.out in
    rw (literal, encoded, feed, return, ampersand, tab, free) (no_blank (c == 32) (is_none before) p.at_front (c ∷ []) blank)

never_front : (b : Bool) → (b && false) ≡ false
never_front true = refl
never_front false = refl

fewer_digits : (t d o : Bool) → (not t && o) ≡ false → (not t && (d && o)) ≡ false
fewer_digits true d o h = refl
fewer_digits false true o h = h
fewer_digits false false o h = refl

later_written : (p : Surroundings) (b : ℕ) (bs cs : List ℕ) → IsWordPlace p → AllByRecursion IsBareByte cs → (not p.in_table && list_all is_ascii_digit (b ∷ bs)) ≡ false → escape_after p (b ∷ bs) cs ≡ cs
later_written p b bs [] h k digits = refl
later_written p b bs (c ∷ cs) h k digits =
    let o : Bool = list_all is_ascii_digit (b ∷ bs) in
    ap (λ (xs : List ℕ). xs ++ escape_after p (c ∷ b ∷ bs) cs) (byte_written p (Some b) o c cs h (k.0) (never_front (c == 32)) (later_free p b o c cs h (k.0) digits))
    ∙ ap (λ (xs : List ℕ). c ∷ xs) (later_written p c (b ∷ bs) cs h (k.1) (fewer_digits p.in_table (is_ascii_digit c) o digits))

no_number : (t d : Bool) → ((not t && d) ≡ false) → (not t && (d && true)) ≡ false
no_number true d h = refl
no_number false true h = h
no_number false false h = refl

letter_no_punctuation : (c : ℕ) → is_ascii_alphanumeric c ≡ true → is_ascii_punctuation c ≡ false
letter_no_punctuation c h = grind (arith, h, nat_tests)

no_space_letter : (c : ℕ) → is_ascii_alphanumeric c ≡ true → (c == 32) ≡ false
no_space_letter c h = not_char c 32 (λ e. true≢false (sym h ∙ ap is_ascii_alphanumeric e))

line_written : (p : Surroundings) (c : ℕ) (cs : List ℕ) → IsWordPlace p → AllByRecursion IsBareByte (c ∷ cs) → is_ascii_alphanumeric c ≡ true → (not p.in_table && is_ascii_digit c) ≡ false → escape p (c ∷ cs) ≡ c ∷ cs
line_written p c cs h k letter digits =
    ap (λ (xs : List ℕ). xs ++ escape_after p (c ∷ []) cs) (byte_written p None true c cs h (k.0) (rw (no_space_letter c letter) refl) (letter_free p None true c cs h (letter_no_punctuation c letter)))
    ∙ ap (λ (xs : List ℕ). c ∷ xs) (later_written p c [] cs h (k.1) (no_number p.in_table (is_ascii_digit c) digits))

bare_ascii : (xs : List ℕ) → AllByRecursion IsBareByte xs → IsAscii xs
bare_ascii [] h i = omega arith
bare_ascii (x ∷ xs) h zero = let high : x < 127 = (h.0).word.printable.high in omega arith
bare_ascii (x ∷ xs) h (suc i) = bare_ascii xs (h.1) i

-- a line that begins with a letter, or in a table with a letter or digit, is written as it is
pub words_escaped : (p : Surroundings) (c : ℕ) (cs : List ℕ) → IsWordPlace p → AllByRecursion IsBareByte (c ∷ cs) → is_ascii_alphanumeric c ≡ true → (not p.in_table && is_ascii_digit c) ≡ false → escaped p (c ∷ cs) ≡ c ∷ cs
unfolding escaped
words_escaped p c cs h k letter digits =
    ap (λ (xs : List ℕ). encode_utf8_all (escape p xs)) (chars-IsAscii (c ∷ cs) (bare_ascii (c ∷ cs) k))
    ∙ ap encode_utf8_all (line_written p c cs h k letter digits)
    ∙ encodes-IsAscii (c ∷ cs) (bare_ascii (c ∷ cs) k)

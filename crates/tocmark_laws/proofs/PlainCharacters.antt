-- What a character of a paragraph's text is written as, and what is known of it.
use Rattle.std.proofs.Common.{◌≡◌, ℕ, ◌<◌, ◌≤◌, Bool, true, false, not, ◌==◌, ◌&&◌, ◌||◌, if◌then◌else◌, nat_lt, List, [], ◌∷◌, codes, unwrap_or, refl, ap, sym, ◌∙◌, arith, Option, Some, None, true≢false}
use Rattle.std.proofs.lemmas.Bool.Decides.{nat_tests}
use Rattle.std.specs.Prelude.{is_none}
use Rattle.std.specs.Char.{char_set_contains, is_ascii_digit, is_ascii_alphanumeric, is_ascii_punctuation}
use Rattle.std.specs.List.{list_all}
use Rattle.tocmark_write_texts.specs.Characters.{is_alphanumeric}
use Rattle.tocmark_write_texts.specs.Escape.{Surroundings, spot_from, is_last, is_literal, is_encoded, reference, with_backslash, needs_backslash, is_read_as_marker, is_own_token, written, is_marker, is_alone, doubles_backslash, opens_emphasis}
use Rattle.tocmark_reader.proofs.PlainReading.{IsPrintable}
use Rattle.tocmark_read_scan.proofs.PlainTests.{eq_of, not_char, differs, turned, both_true, both_false}
use Rattle.tocmark_read_scan.specs.PlainParts.{Part, Bare, Escaped, Referred, spelled_part}
use Rattle.tocmark_laws.specs.PlainLines.{IsInParagraph}

abbrev pub ampersand_part : Part
ampersand_part = Referred 38 (97 ∷ 109 ∷ 112 ∷ 59 ∷ [])

abbrev pub space_part : Part
space_part = Referred 32 (35 ∷ 51 ∷ 50 ∷ 59 ∷ [])

-- the part that a character is written as
abbrev pub part_of : Surroundings → Option ℕ → Bool → ℕ → List ℕ → Part
part_of p before o c cs =
    if c == 38 then ampersand_part
    else (if (c == 32) && is_none before then space_part
    else (if needs_backslash p (spot_from before o c cs) then Escaped c else Bare c))

-- the parts that characters are written as, with the one before them and whether all before them are digits
abbrev pub parts_on : Surroundings → Option ℕ → Bool → List ℕ → List Part
parts_on p before only_digits [] = []
parts_on p before only_digits (c ∷ cs) = part_of p before only_digits c cs ∷ parts_on p (Some c) (is_ascii_digit c && only_digits) cs

-- the parts that a line is written as
abbrev pub parts_of : Surroundings → List ℕ → List Part
parts_of p cs = parts_on p None true cs

no_code : (a b c : Bool) → (((a && false) || (b && false)) && c) ≡ false
no_code true true c = refl
no_code true false c = refl
no_code false true c = refl
no_code false false c = refl

same_choice : (a b f n : Bool) (c : ℕ) → unwrap_or (if a then Some (codes "&amp;") else (if b && f && true then Some (codes "&#32;") else (if false && f && true then Some (codes "&#9;") else None))) (if n then 92 ∷ c ∷ [] else c ∷ []) ≡ spelled_part (if a then ampersand_part else (if b && f then space_part else (if n then Escaped c else Bare c)))
same_choice true b f n c = refl
same_choice false true true n c = refl
same_choice false true false true c = refl
same_choice false true false false c = refl
same_choice false false f true c = refl
same_choice false false f false c = refl

same_choice_at : (a b f n g : Bool) (c : ℕ) → g ≡ true → unwrap_or (if a then Some (codes "&amp;") else (if b && f && g then Some (codes "&#32;") else (if false && f && g then Some (codes "&#9;") else None))) (if n then 92 ∷ c ∷ [] else c ∷ []) ≡ spelled_part (if a then ampersand_part else (if b && f then space_part else (if n then Escaped c else Bare c)))
same_choice_at a b f n true c e = same_choice a b f n c
same_choice_at a b f n false c e = absurd (true≢false (sym e))

-- a character is written as its part is spelled
pub written_is : (p : Surroundings) (before : Option ℕ) (o : Bool) (c : ℕ) (cs : List ℕ) → IsInParagraph p → IsPrintable c → written p (spot_from before o c cs) ≡ spelled_part (part_of p before o c cs)
unfolding written reference with_backslash
written_is p before o c cs h k =
    let low : 32 ≤ c = k.low in
    let literal : is_literal p c ≡ false = rw h.literal refl in
    let encoded : is_encoded p (spot_from before o c cs) ≡ false = rw (h.first, h.last) (no_code (is_none before) (is_last (spot_from before o c cs)) _) in
    let feed : (c == 10) ≡ false = grind (arith, nat_tests) in
    let return : (c == 13) ≡ false = grind (arith, nat_tests) in
    let tab : (c == 9) ≡ false = grind (arith, nat_tests) in
    rw (literal, encoded, feed, return, tab) (same_choice_at (c == 38) (c == 32) (is_none before) (needs_backslash p (spot_from before o c cs)) p.at_front c h.front)

-- a fact of each part that a character may be written as
pub part_elim : (P : Part → Type 0) (p : Surroundings) (before : Option ℕ) (o : Bool) (c : ℕ) (cs : List ℕ) → ((c == 38) ≡ true → P ampersand_part) → (((c == 32) && is_none before) ≡ true → P space_part) → (needs_backslash p (spot_from before o c cs) ≡ true → P (Escaped c)) → (needs_backslash p (spot_from before o c cs) ≡ false → (c == 38) ≡ false → ((c == 32) && is_none before) ≡ false → P (Bare c)) → P (part_of p before o c cs)
part_elim P p before o c cs f g h k = by_tests (c == 38) refl ((c == 32) && is_none before) refl (needs_backslash p (spot_from before o c cs)) refl
  where
    by_tests : (a : Bool) → (c == 38) ≡ a → (b : Bool) → ((c == 32) && is_none before) ≡ b → (n : Bool) → needs_backslash p (spot_from before o c cs) ≡ n → P (if a then ampersand_part else (if b then space_part else (if n then Escaped c else Bare c)))
    by_tests true e b i n j = f e
    by_tests false e true i n j = g i
    by_tests false e false i true j = h j
    by_tests false e false i false j = k j e i

set_apart : (xs : List ℕ) (c : ℕ) → list_all is_ascii_punctuation xs ≡ true → is_ascii_punctuation c ≡ false → char_set_contains xs c ≡ false
set_apart [] c h k = refl
set_apart (x ∷ xs) c h k =
    let both = both_true (is_ascii_punctuation x) (list_all is_ascii_punctuation xs) h in
    rw (turned is_ascii_punctuation c x (both.0) k) (set_apart xs c (both.1) k)

no_own_token : (p : Surroundings) (c : ℕ) → IsInParagraph p → is_own_token p c ≡ false
no_own_token p c h = by_eq (c == p.token) refl
  where
    by_eq : (k : Bool) → (c == p.token) ≡ k → (k && not (char_set_contains (codes "*_") c)) ≡ false
    by_eq true e = let same : char_set_contains (codes "*_") c ≡ true = ap (char_set_contains (codes "*_")) (eq_of c p.token e) ∙ h.token in rw same refl
    by_eq false e = refl

-- what is no punctuation has no backslash before it
pub no_backslash : (p : Surroundings) (before : Option ℕ) (o : Bool) (c : ℕ) (cs : List ℕ) → IsInParagraph p → is_ascii_punctuation c ≡ false → needs_backslash p (spot_from before o c cs) ≡ false
unfolding needs_backslash is_read_as_marker
no_backslash p before o c cs h k =
    rw (set_apart (codes "*[]<~`") c refl k, differs is_ascii_punctuation c 92 refl k, differs is_ascii_punctuation c 62 refl k, differs is_ascii_punctuation c 94 refl k, differs is_ascii_punctuation c 36 refl k, differs is_ascii_punctuation c 58 refl k, differs is_ascii_punctuation c 123 refl k, differs is_ascii_punctuation c 95 refl k, differs is_ascii_punctuation c 124 refl k, differs is_ascii_punctuation c 35 refl k, set_apart (codes "-+=") c refl k, set_apart (codes ".)") c refl k, differs is_ascii_punctuation c 33 refl k, no_own_token p c h) refl

-- what has a backslash before it is punctuation
pub backslash_punctuation : (p : Surroundings) (before : Option ℕ) (o : Bool) (c : ℕ) (cs : List ℕ) → IsInParagraph p → needs_backslash p (spot_from before o c cs) ≡ true → is_ascii_punctuation c ≡ true
backslash_punctuation p before o c cs h n = by_test (is_ascii_punctuation c) refl
  where
    by_test : (k : Bool) → is_ascii_punctuation c ≡ k → k ≡ true
    by_test true e = refl
    by_test false e = absurd (true≢false (sym n ∙ no_backslash p before o c cs h e))

-- what has no backslash before it isn't read as a marker
pub no_marker : (p : Surroundings) (before : Option ℕ) (o : Bool) (c : ℕ) (cs : List ℕ) → needs_backslash p (spot_from before o c cs) ≡ false → is_read_as_marker p (spot_from before o c cs) ≡ false
unfolding needs_backslash
no_marker p before o c cs h = (both_false (is_read_as_marker p (spot_from before o c cs)) (is_own_token p c) h).0

if_false : (k r : Bool) → (if k then true else r) ≡ false → k ≡ false
if_false true r h = absurd (true≢false h)
if_false false r h = refl

pub no_mark_of : (p : Surroundings) (before : Option ℕ) (o : Bool) (c : ℕ) (cs : List ℕ) → is_read_as_marker p (spot_from before o c cs) ≡ false → char_set_contains (codes "*[]<~`") c ≡ false
unfolding is_read_as_marker
no_mark_of p before o c cs h = if_false (char_set_contains (codes "*[]<~`") c) _ h

-- what no marker means for single characters
pub at_backslash : (p : Surroundings) (before : Option ℕ) (o : Bool) (cs : List ℕ) → is_read_as_marker p (spot_from before o 92 cs) ≡ false → doubles_backslash p (spot_from before o 92 cs) ≡ false
unfolding is_read_as_marker
at_backslash p before o cs h = h

pub at_underscore : (p : Surroundings) (before : Option ℕ) (o : Bool) (cs : List ℕ) → is_read_as_marker p (spot_from before o 95 cs) ≡ false → opens_emphasis (spot_from before o 95 cs) ≡ false
unfolding is_read_as_marker
at_underscore p before o cs h = h

alone_at_front : (f t x : Bool) → f ≡ true → t ≡ false → ((true && f && not t) && x) ≡ false → x ≡ false
alone_at_front true false x e k h = h
alone_at_front true true x e k h = absurd (true≢false k)
alone_at_front false t x e k h = absurd (true≢false (sym e))

pub at_minus : (p : Surroundings) (o : Bool) (cs : List ℕ) → IsInParagraph p → is_read_as_marker p (spot_from None o 45 cs) ≡ false → is_alone p (spot_from None o 45 cs) ≡ false
unfolding is_read_as_marker is_marker
at_minus p o cs h k = alone_at_front p.at_front p.in_table (is_alone p (spot_from None o 45 cs)) h.front h.table k

pub at_plus : (p : Surroundings) (o : Bool) (cs : List ℕ) → IsInParagraph p → is_read_as_marker p (spot_from None o 43 cs) ≡ false → is_alone p (spot_from None o 43 cs) ≡ false
unfolding is_read_as_marker is_marker
at_plus p o cs h k = alone_at_front p.at_front p.in_table (is_alone p (spot_from None o 43 cs)) h.front h.table k

pub at_equals : (p : Surroundings) (o : Bool) (cs : List ℕ) → IsInParagraph p → is_read_as_marker p (spot_from None o 61 cs) ≡ false → is_alone p (spot_from None o 61 cs) ≡ false
unfolding is_read_as_marker is_marker
at_equals p o cs h k = alone_at_front p.at_front p.in_table (is_alone p (spot_from None o 61 cs)) h.front h.table k

pub at_greater : (p : Surroundings) (o : Bool) (cs : List ℕ) → IsInParagraph p → is_read_as_marker p (spot_from None o 62 cs) ≡ true
unfolding is_read_as_marker
at_greater p o cs h = rw h.table refl

pub at_hash : (p : Surroundings) (o : Bool) (cs : List ℕ) → IsInParagraph p → is_read_as_marker p (spot_from None o 35 cs) ≡ true
unfolding is_read_as_marker
at_hash p o cs h = rw h.table refl

pub at_dot : (p : Surroundings) (b : ℕ) (cs : List ℕ) → IsInParagraph p → is_read_as_marker p (spot_from (Some b) true 46 cs) ≡ true
unfolding is_read_as_marker
at_dot p b cs h = rw h.table refl

pub at_parenthesis : (p : Surroundings) (b : ℕ) (cs : List ℕ) → IsInParagraph p → is_read_as_marker p (spot_from (Some b) true 41 cs) ≡ true
unfolding is_read_as_marker
at_parenthesis p b cs h = rw h.table refl

-- a character at which a test of its spot gives another answer is another character
pub no_such : (p : Surroundings) (before : Option ℕ) (o : Bool) (c d : ℕ) (cs : List ℕ) → is_read_as_marker p (spot_from before o d cs) ≡ true → is_read_as_marker p (spot_from before o c cs) ≡ false → (c == d) ≡ false
no_such p before o c d cs h k = differs (λ x. is_read_as_marker p (spot_from before o x cs)) c d h k

-- a letter or digit is written as it is
pub bare_if : (p : Surroundings) (before : Option ℕ) (o : Bool) (c : ℕ) (cs : List ℕ) → IsInParagraph p → is_ascii_punctuation c ≡ false → ((c == 32) && is_none before) ≡ false → part_of p before o c cs ≡ Bare c
bare_if p before o c cs h k s = rw (differs is_ascii_punctuation c 38 refl k, s, no_backslash p before o c cs h k) refl

pub no_space_letter : (c : ℕ) → is_ascii_alphanumeric c ≡ true → (c == 32) ≡ false
no_space_letter c h = not_char c 32 (λ e. true≢false (sym h ∙ ap is_ascii_alphanumeric e))

pub letter_no_punctuation : (c : ℕ) → is_ascii_alphanumeric c ≡ true → is_ascii_punctuation c ≡ false
letter_no_punctuation c h = grind (arith, h, nat_tests)

pub bare_letter : (p : Surroundings) (before : Option ℕ) (o : Bool) (c : ℕ) (cs : List ℕ) → IsInParagraph p → is_ascii_alphanumeric c ≡ true → part_of p before o c cs ≡ Bare c
bare_letter p before o c cs h k = bare_if p before o c cs h (letter_no_punctuation c k) (rw (no_space_letter c k) refl)

if_true : (b x y : Bool) → b ≡ true → (if b then x else y) ≡ true → x ≡ true
if_true true x y e h = h
if_true false x y e h = absurd (true≢false (sym e))

pub letter_ascii : (c : ℕ) → IsPrintable c → is_alphanumeric c ≡ true → is_ascii_alphanumeric c ≡ true
unfolding is_alphanumeric
letter_ascii c h k =
    let high : c < 127 = h.high in
    let ascii : nat_lt c 128 ≡ true = grind (arith, nat_tests) in
    if_true (nat_lt c 128) (is_ascii_alphanumeric c) _ ascii k

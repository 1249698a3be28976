-- The tests of plain texts, and the facts that the proofs build on: each follows from the other.
use Rattle.std.proofs.Common.{◌≡◌, ℕ, ◌^◌, ◌<◌, ◌≤◌, Bool, true, false, not, ◌==◌, ◌&&◌, ◌||◌, nat_lt, nat_le, List, [], ◌∷◌, bytes_eq, codes, length, map, refl, ap, sym, subst, ◌∙◌, arith, ◌⊎◌, inl, inr, true≢false}
use Rattle.std.proofs.lemmas.Bool.Decides.{nat_tests}
use Rattle.std.proofs.lemmas.Slice.Eq.{bytes_eq-Decides}
use Rattle.std.specs.Char.{char_set_contains, is_ascii_alphanumeric, is_ascii_digit, is_ascii_punctuation}
use Rattle.std.specs.List.{AllByRecursion, list_all}
use Rattle.tocmark_event.specs.Reading.{ReadingView}
use Rattle.tocmark_read_scan.specs.Basic.{byte_at}
use Rattle.tocmark_read_scan.specs.PlainParts.{Part, Bare, Escaped, Referred, Feed, spelled, spelled_part, meant, is_inert, is_plain_byte, is_plain_reference, is_plain_part, last_byte, are_plain_parts, is_quiet, ends_number, goes_on, begins_plainly}
use Rattle.tocmark_read_scan.proofs.PlainTests.{eq_of, differs, both_true, all_true, is_not, one_of_two, one_of_three, one_of_four, or_first, or_second, none_of, all_from, all_to}
use Rattle.tocmark_read_blocks.proofs.PlainFronts.{BeginsPlainly, GoesOn}
use Rattle.tocmark_read_blocks.proofs.PlainStarts.{IsQuiet}
use Rattle.tocmark_read_inlines.proofs.PlainInlines.{IsInert}
use Rattle.tocmark_read_inlines.proofs.PlainNeighbours.{IsPlainByte, IsPlainPart, ArePlainParts}
use Rattle.tocmark_reader.specs.PlainTexts.{text_parts, is_printable, is_plain_line, is_plain_text, lines_paragraph, IsReadAs}
use Rattle.tocmark_reader.specs.Reading.{core_reading}
use Rattle.tocmark_reader.proofs.PlainReading.{IsPrintable, IsPlainLine, IsPlainText, plain_text_is_meant}

both_hold : (a b : Bool) → a ≡ true → b ≡ true → (a && b) ≡ true
both_hold true b h k = k
both_hold false b h k = h

bytes_same : (xs ys : List ℕ) → bytes_eq xs ys ≡ true → xs ≡ ys
bytes_same xs ys h = (bytes_eq-Decides xs ys).0 h

abbrev marks : List ℕ
marks = codes "*_[]<`!\\&\n"

inert_from : (b : ℕ) → is_inert b ≡ true → IsInert b
inert_from b h =
    let out : char_set_contains marks b ≡ false = is_not (char_set_contains marks b) h in
    record {
      bracket = differs (char_set_contains marks) b 91 refl out;
      exclamation = differs (char_set_contains marks) b 33 refl out;
      closing = differs (char_set_contains marks) b 93 refl out;
      less = differs (char_set_contains marks) b 60 refl out;
      backslash = differs (char_set_contains marks) b 92 refl out;
      ampersand = differs (char_set_contains marks) b 38 refl out;
      feed = differs (char_set_contains marks) b 10 refl out;
      backtick = differs (char_set_contains marks) b 96 refl out;
      star = differs (char_set_contains marks) b 42 refl out;
      underscore = differs (char_set_contains marks) b 95 refl out;
    }

inert_to : (b : ℕ) → IsInert b → is_inert b ≡ true
inert_to b h = ap not (none_of marks b (h.star, (h.underscore, (h.bracket, (h.closing, (h.less, (h.backtick, (h.exclamation, (h.backslash, (h.ampersand, (h.feed, tt)))))))))))

-- a byte between two others
byte_from : (x b y : ℕ) → is_plain_byte x b y ≡ true → IsPlainByte x b y
byte_from x b y h = by_case (one_of_four (is_inert b) ((b == 33) && not (y == 91)) ((b == 92) && not (is_ascii_punctuation y) && not (y == 10)) ((b == 95) && is_ascii_alphanumeric x && is_ascii_alphanumeric y) h)
  where
    by_case : (is_inert b ≡ true) ⊎ (((b == 33) && not (y == 91)) ≡ true) ⊎ (((b == 92) && not (is_ascii_punctuation y) && not (y == 10)) ≡ true) ⊎ (((b == 95) && is_ascii_alphanumeric x && is_ascii_alphanumeric y) ≡ true) → IsPlainByte x b y
    by_case (inl i) = inl (inert_from b i)
    by_case (inr (inl i)) =
        let all = both_true (b == 33) (not (y == 91)) i in
        inr (inl (eq_of b 33 (all.0), is_not (y == 91) (all.1)))
    by_case (inr (inr (inl i))) =
        let all = all_true (b == 92) (not (is_ascii_punctuation y)) (not (y == 10)) i in
        inr (inr (inl (eq_of b 92 (all.0), is_not (is_ascii_punctuation y) (all.1), is_not (y == 10) (all.2))))
    by_case (inr (inr (inr i))) =
        let all = all_true (b == 95) (is_ascii_alphanumeric x) (is_ascii_alphanumeric y) i in
        inr (inr (inr (eq_of b 95 (all.0), all.1, all.2)))

byte_to : (x b y : ℕ) → IsPlainByte x b y → is_plain_byte x b y ≡ true
byte_to x b y (inl h) = rw (inert_to b h) refl
byte_to x b y (inr (inl h)) = let e : b ≡ 33 = h.0 in let k : (y == 91) ≡ false = h.1 in rw (e, k) refl
byte_to x b y (inr (inr (inl h))) = let e : b ≡ 92 = h.0 in let k : is_ascii_punctuation y ≡ false = h.1 in let m : (y == 10) ≡ false = h.2 in rw (e, k, m) refl
byte_to x b y (inr (inr (inr h))) = let e : b ≡ 95 = h.0 in let k : is_ascii_alphanumeric x ≡ true = h.1 in let m : is_ascii_alphanumeric y ≡ true = h.2 in rw (e, k, m) refl

-- a reference
reference_from : (c : ℕ) (bs : List ℕ) → is_plain_reference c bs ≡ true → ((c ≡ 38) × (bs ≡ 97 ∷ 109 ∷ 112 ∷ 59 ∷ [])) ⊎ ((c ≡ 32) × (bs ≡ 35 ∷ 51 ∷ 50 ∷ 59 ∷ []))
reference_from c bs h = by_case (one_of_two ((c == 38) && bytes_eq bs (codes "amp;")) ((c == 32) && bytes_eq bs (codes "#32;")) h)
  where
    by_case : (((c == 38) && bytes_eq bs (codes "amp;")) ≡ true) ⊎ (((c == 32) && bytes_eq bs (codes "#32;")) ≡ true) → ((c ≡ 38) × (bs ≡ 97 ∷ 109 ∷ 112 ∷ 59 ∷ [])) ⊎ ((c ≡ 32) × (bs ≡ 35 ∷ 51 ∷ 50 ∷ 59 ∷ []))
    by_case (inl i) = let all = both_true (c == 38) (bytes_eq bs (codes "amp;")) i in inl (eq_of c 38 (all.0), bytes_same bs (codes "amp;") (all.1))
    by_case (inr i) = let all = both_true (c == 32) (bytes_eq bs (codes "#32;")) i in inr (eq_of c 32 (all.0), bytes_same bs (codes "#32;") (all.1))

-- a part between two bytes
part_from : (x : ℕ) (a : Part) (y : ℕ) → is_plain_part x a y ≡ true → IsPlainPart x a y
part_from x (Bare b) y h = byte_from x b y h
part_from x (Escaped b) y h = h
part_from x (Referred c bs) y h = reference_from c bs h
part_from x Feed y h = is_not (x == 32) h

part_to : (x : ℕ) (a : Part) (y : ℕ) → IsPlainPart x a y → is_plain_part x a y ≡ true
part_to x (Bare b) y h = byte_to x b y h
part_to x (Escaped b) y h = h
part_to x (Referred c bs) y (inl h) = let e : c ≡ 38 = h.0 in let k : bs ≡ 97 ∷ 109 ∷ 112 ∷ 59 ∷ [] = h.1 in rw (e, k) refl
part_to x (Referred c bs) y (inr h) = let e : c ≡ 32 = h.0 in let k : bs ≡ 35 ∷ 51 ∷ 50 ∷ 59 ∷ [] = h.1 in rw (e, k) refl
part_to x Feed y h = ap not h

pub parts_tested : (x : ℕ) (parts : List Part) → are_plain_parts x parts ≡ true → ArePlainParts x parts
parts_tested x [] h = tt
parts_tested x (a ∷ parts) h =
    let y : ℕ = byte_at (spelled parts) 0 in
    let next : ℕ = last_byte x (spelled_part a) in
    let both = both_true (is_plain_part x a y) (are_plain_parts next parts) h in
    (part_from x a y (both.0), parts_tested next parts (both.1))

parts_to : (x : ℕ) (parts : List Part) → ArePlainParts x parts → are_plain_parts x parts ≡ true
parts_to x [] h = refl
parts_to x (a ∷ parts) h =
    rw (part_to x a (byte_at (spelled parts) 0) (h.0)) (parts_to (last_byte x (spelled_part a)) parts (h.1))

abbrev fronts : List ℕ
fronts = codes " ><*-+=_#`~"

quiet_from : (b : ℕ) → is_quiet b ≡ true → IsQuiet b
quiet_from b h =
    let both = both_true (not (char_set_contains fronts b)) (not (is_ascii_digit b)) h in
    let out : char_set_contains fronts b ≡ false = is_not (char_set_contains fronts b) (both.0) in
    record {
      space = differs (char_set_contains fronts) b 32 refl out;
      greater = differs (char_set_contains fronts) b 62 refl out;
      less = differs (char_set_contains fronts) b 60 refl out;
      star = differs (char_set_contains fronts) b 42 refl out;
      minus = differs (char_set_contains fronts) b 45 refl out;
      plus = differs (char_set_contains fronts) b 43 refl out;
      equals = differs (char_set_contains fronts) b 61 refl out;
      underscore = differs (char_set_contains fronts) b 95 refl out;
      hash = differs (char_set_contains fronts) b 35 refl out;
      backtick = differs (char_set_contains fronts) b 96 refl out;
      tilde = differs (char_set_contains fronts) b 126 refl out;
      digit = is_not (is_ascii_digit b) (both.1);
    }

quiet_to : (b : ℕ) → IsQuiet b → is_quiet b ≡ true
quiet_to b h =
    let out : char_set_contains fronts b ≡ false = none_of fronts b (h.space, (h.greater, (h.less, (h.star, (h.minus, (h.plus, (h.equals, (h.underscore, (h.hash, (h.backtick, (h.tilde, tt))))))))))) in
    ap (λ k. not k && not (is_ascii_digit b)) out ∙ ap not h.digit

goes_from : (bs : List ℕ) → goes_on bs ≡ true → GoesOn bs
goes_from [] h = absurd (true≢false (sym h))
goes_from (c ∷ cs) h =
    let out : char_set_contains (codes " -=") c ≡ false = is_not (char_set_contains (codes " -=") c) h in
    record {
      space = differs (char_set_contains (codes " -=")) c 32 refl out;
      minus = differs (char_set_contains (codes " -=")) c 45 refl out;
      equals = differs (char_set_contains (codes " -=")) c 61 refl out;
    }

goes_to : (bs : List ℕ) → GoesOn bs → goes_on bs ≡ true
goes_to [] h = absurd h
goes_to (c ∷ cs) h = ap not (none_of (codes " -=") c (h.space, (h.minus, (h.equals, tt))))

one_in_row : (a b c : Bool) → (a || (b || (c || false))) ≡ true → (a ≡ true) ⊎ (b ≡ true) ⊎ (c ≡ true)
one_in_row true b c h = inl refl
one_in_row false true c h = inr (inl refl)
one_in_row false false true h = inr (inr refl)
one_in_row false false false h = absurd (true≢false (sym h))

-- one of the marks `-`, `+` and `=`
mark_from : (b : ℕ) → char_set_contains (codes "-+=") b ≡ true → (b ≡ 45) ⊎ (b ≡ 43) ⊎ (b ≡ 61)
mark_from b h = by_case (one_in_row (45 == b) (43 == b) (61 == b) h)
  where
    by_case : ((45 == b) ≡ true) ⊎ ((43 == b) ≡ true) ⊎ ((61 == b) ≡ true) → (b ≡ 45) ⊎ (b ≡ 43) ⊎ (b ≡ 61)
    by_case (inl e) = inl (sym (eq_of 45 b e))
    by_case (inr (inl e)) = inr (inl (sym (eq_of 43 b e)))
    by_case (inr (inr e)) = inr (inr (sym (eq_of 61 b e)))

mark_to : (b : ℕ) → (b ≡ 45) ⊎ (b ≡ 43) ⊎ (b ≡ 61) → char_set_contains (codes "-+=") b ≡ true
mark_to b (inl e) = rw e refl
mark_to b (inr (inl e)) = rw e refl
mark_to b (inr (inr e)) = rw e refl

-- what is in front of a line
front_from : (l : List ℕ) → begins_plainly l ≡ true → BeginsPlainly l
front_from [] h = absurd (true≢false (sym h))
front_from (b ∷ bs) h = by_case (one_of_three (is_quiet b) (is_ascii_digit b && not (ends_number (b ∷ bs))) (char_set_contains (codes "-+=") b && goes_on bs) h)
  where
    by_case : (is_quiet b ≡ true) ⊎ ((is_ascii_digit b && not (ends_number (b ∷ bs))) ≡ true) ⊎ ((char_set_contains (codes "-+=") b && goes_on bs) ≡ true) → BeginsPlainly (b ∷ bs)
    by_case (inl k) = inl (quiet_from b k)
    by_case (inr (inl k)) = let both = both_true (is_ascii_digit b) (not (ends_number (b ∷ bs))) k in inr (inl (both.0, is_not (ends_number (b ∷ bs)) (both.1)))
    by_case (inr (inr k)) = let both = both_true (char_set_contains (codes "-+=") b) (goes_on bs) k in inr (inr (mark_from b (both.0), goes_from bs (both.1)))

front_to : (l : List ℕ) → BeginsPlainly l → begins_plainly l ≡ true
front_to [] h = absurd h
front_to (b ∷ bs) (inl h) = or_first (is_quiet b || (is_ascii_digit b && not (ends_number (b ∷ bs)))) (char_set_contains (codes "-+=") b && goes_on bs) (or_first (is_quiet b) (is_ascii_digit b && not (ends_number (b ∷ bs))) (quiet_to b h))
front_to (b ∷ bs) (inr (inl h)) =
    or_first (is_quiet b || (is_ascii_digit b && not (ends_number (b ∷ bs)))) (char_set_contains (codes "-+=") b && goes_on bs) (or_second (is_quiet b) (is_ascii_digit b && not (ends_number (b ∷ bs))) (both_hold (is_ascii_digit b) (not (ends_number (b ∷ bs))) (h.0) (ap not (h.1))))
front_to (b ∷ bs) (inr (inr h)) =
    or_second (is_quiet b || (is_ascii_digit b && not (ends_number (b ∷ bs)))) (char_set_contains (codes "-+=") b && goes_on bs) (both_hold (char_set_contains (codes "-+=") b) (goes_on bs) (mark_to b (h.0)) (goes_to bs (h.1)))

pub printable_from : (b : ℕ) → is_printable b ≡ true → IsPrintable b
printable_from b h =
    let both = both_true (nat_le 32 b) (nat_lt b 127) h in
    let least : nat_le 32 b ≡ true = both.0 in
    let most : nat_lt b 127 ≡ true = both.1 in
    record { low = grind (arith, nat_tests); high = grind (arith, nat_tests) }

printable_to : (b : ℕ) → IsPrintable b → is_printable b ≡ true
printable_to b h =
    let low : 32 ≤ b = h.low in
    let high : b < 127 = h.high in
    both_hold (nat_le 32 b) (nat_lt b 127) (grind (arith, nat_tests)) (grind (arith, nat_tests))

pub line_from : (l : List Part) → is_plain_line l ≡ true → IsPlainLine l
line_from l h =
    let all = all_true (list_all is_printable (spelled l)) (begins_plainly (spelled l)) (not (last_byte 10 (spelled l) == 32)) h in
    record {
      printable = all_from is_printable IsPrintable (spelled l) printable_from (all.0);
      begins = front_from (spelled l) (all.1);
      last = is_not (last_byte 10 (spelled l) == 32) (all.2);
    }

line_to : (l : List Part) → IsPlainLine l → is_plain_line l ≡ true
line_to l h =
    both_hold (list_all is_printable (spelled l) && begins_plainly (spelled l)) (not (last_byte 10 (spelled l) == 32))
    (both_hold (list_all is_printable (spelled l)) (begins_plainly (spelled l)) (all_to is_printable IsPrintable (spelled l) printable_to h.printable) (front_to (spelled l) h.begins))
    (ap not h.last)

-- a text that passes the test is one that the proofs speak of
pub text_from : (l : List Part) (ms : List (List Part)) → is_plain_text l ms ≡ true → length (spelled (text_parts l ms)) < 2 ^ 64 → IsPlainText l ms
text_from l ms h fits =
    let both = both_true (are_plain_parts 10 (text_parts l ms)) (list_all is_plain_line (l ∷ ms)) h in
    record {
      parts = parts_tested 10 (text_parts l ms) (both.0);
      lines = all_from is_plain_line IsPlainLine (l ∷ ms) line_from (both.1);
      fits = fits;
    }

-- and the other way round
pub text_to : (l : List Part) (ms : List (List Part)) → ArePlainParts 10 (text_parts l ms) → AllByRecursion IsPlainLine (l ∷ ms) → is_plain_text l ms ≡ true
text_to l ms h k =
    both_hold (are_plain_parts 10 (text_parts l ms)) (list_all is_plain_line (l ∷ ms)) (parts_to 10 (text_parts l ms) h) (all_to is_plain_line IsPlainLine (l ∷ ms) line_to k)

-- a text that passes the test is read as its lines
pub plain_read : (text : List ℕ) (l : List Part) (ms : List (List Part)) → length text < 2 ^ 64 → is_plain_text l ms ≡ true → text ≡ spelled (text_parts l ms) → IsReadAs (core_reading text) (lines_paragraph (meant l) (map meant ms))
plain_read text l ms fits h e =
    subst (λ xs. IsReadAs (core_reading xs) (lines_paragraph (meant l) (map meant ms))) (sym e)
    (plain_text_is_meant l ms (text_from l ms h (subst (λ (xs : List ℕ). length xs < 2 ^ 64) e fits)))

-- so is what is found in it
pub plain_found : (text : List ℕ) (l : List Part) (ms : List (List Part)) (r : ReadingView) → r ≡ core_reading text → length text < 2 ^ 64 → is_plain_text l ms ≡ true → text ≡ spelled (text_parts l ms) → IsReadAs r (lines_paragraph (meant l) (map meant ms))
plain_found text l ms r same fits h e = subst (λ (x : ReadingView). IsReadAs x (lines_paragraph (meant l) (map meant ms))) (sym same) (plain_read text l ms fits h e)

-- The escape of a line is a plain line: its bytes, its front and its end.
use Rattle.std.proofs.Common.{◌≡◌, ℕ, ◌<◌, ◌≤◌, Bool, true, false, ◌==◌, ◌&&◌, List, [], ◌∷◌, ◌++◌, codes, refl, ap, sym, subst, ◌∙◌, arith, Option, Some, None, inl, inr, true≢false}
use Rattle.std.proofs.lemmas.Str.{encode_ascii}
use Rattle.std.specs.Prelude.{is_none}
use Rattle.std.specs.Char.{char_set_contains, is_ascii_digit}
use Rattle.tocmark_write_texts.specs.Escape.{Surroundings, spot_from, is_read_as_marker, is_alone, goes_on_marker}
use Rattle.tocmark_read_blocks.proofs.PlainStarts.{IsQuiet}
use Rattle.tocmark_read_blocks.proofs.PlainFronts.{BeginsPlainly, GoesOn}
use Rattle.tocmark_reader.proofs.PlainReading.{IsPrintable, IsPlainLine}
use Rattle.tocmark_read_scan.proofs.PlainTests.{eq_of, not_char, differs}
use Rattle.tocmark_laws.proofs.PlainCharacters.{part_of, parts_on, parts_of, part_elim, no_marker, no_mark_of, at_underscore, at_minus, at_plus, at_equals, at_greater, at_hash, at_dot, at_parenthesis, no_such}
use Rattle.tocmark_laws.proofs.PlainEscapes.{ArePrintable, last_append}
use Rattle.tocmark_read_scan.specs.PlainParts.{Part, spelled_part, spelled, last_byte, ends_number}
use Rattle.tocmark_read_scan.specs.PlainParts.{meant}
use Rattle.tocmark_laws.specs.PlainLines.{IsInParagraph}

printed : (b : ℕ) → 32 ≤ b → b < 127 → IsPrintable b
printed b h k = record { low = h; high = k }

-- what is written is printable
parts_printable : (p : Surroundings) (before : Option ℕ) (o : Bool) (cs : List ℕ) → ArePrintable cs → ArePrintable (spelled (parts_on p before o cs))
parts_printable p before o [] h = tt
parts_printable p before o (c ∷ cs) h =
    let q : Bool = is_ascii_digit c && o in
    let rest : List ℕ = spelled (parts_on p (Some c) q cs) in
    let more : ArePrintable rest = parts_printable p (Some c) q cs (h.1) in
    part_elim (λ a. ArePrintable (spelled_part a ++ rest)) p before o c cs
    (λ _. (printed 38 (omega arith) (omega arith), (printed 97 (omega arith) (omega arith), (printed 109 (omega arith) (omega arith), (printed 112 (omega arith) (omega arith), (printed 59 (omega arith) (omega arith), more))))))
    (λ _. (printed 38 (omega arith) (omega arith), (printed 35 (omega arith) (omega arith), (printed 51 (omega arith) (omega arith), (printed 50 (omega arith) (omega arith), (printed 59 (omega arith) (omega arith), more))))))
    (λ _. (printed 92 (omega arith) (omega arith), (h.0, more)))
    (λ _ _ _. (h.0, more))

-- what is written ends with a space only if the line does
parts_end : (p : Surroundings) (before : Option ℕ) (o : Bool) (c : ℕ) (cs : List ℕ) (b : ℕ) → (last_byte c cs == 32) ≡ false → (last_byte b (spelled (parts_on p before o (c ∷ cs))) == 32) ≡ false
parts_end p before o c [] b h =
    part_elim (λ a. (last_byte b (spelled_part a ++ []) == 32) ≡ false) p before o c []
    (λ _. refl) (λ _. refl) (λ _. h) (λ _ _ _. h)
parts_end p before o c (d ∷ ds) b h =
    let q : Bool = is_ascii_digit c && o in
    ap (λ x. x == 32) (last_append b (spelled_part (part_of p before o c (d ∷ ds))) (spelled (parts_on p (Some c) q (d ∷ ds))))
    ∙ parts_end p (Some c) q d ds (last_byte b (spelled_part (part_of p before o c (d ∷ ds)))) h

-- what is written means the characters
parts_mean : (p : Surroundings) (before : Option ℕ) (o : Bool) (cs : List ℕ) → meant (parts_on p before o cs) ≡ cs
parts_mean p before o [] = refl
parts_mean p before o (c ∷ cs) =
    let q : Bool = is_ascii_digit c && o in
    let rest : List Part = parts_on p (Some c) q cs in
    part_elim (λ a. meant (a ∷ rest) ≡ c ∷ meant rest) p before o c cs
    (λ e. ap (λ x. x ++ meant rest) (encode_ascii 38 (omega arith)) ∙ ap (λ x. x ∷ meant rest) (sym (eq_of c 38 e)))
    (λ e. ap (λ x. x ++ meant rest) (encode_ascii 32 (omega arith)) ∙ ap (λ x. x ∷ meant rest) (sym (eq_of c 32 (first_true (c == 32) (is_none before) e))))
    (λ _. refl) (λ _ _ _. refl)
    ∙ ap (λ x. c ∷ x) (parts_mean p (Some c) q cs)
  where
    first_true : (a b : Bool) → (a && b) ≡ true → a ≡ true
    first_true true b h = refl
    first_true false b h = h

-- a line's parts mean its characters
pub line_means : (p : Surroundings) (cs : List ℕ) → meant (parts_of p cs) ≡ cs
line_means p cs = parts_mean p None true cs

-- after digits is neither `.` nor `)`
no_number : (p : Surroundings) (b : ℕ) (cs : List ℕ) → IsInParagraph p → ends_number (spelled (parts_on p (Some b) true cs)) ≡ false
no_number p b [] h = refl
no_number p b (d ∷ ds) h =
    by_digit (no_number p d ds h) (is_ascii_digit d) refl
  where
    by_digit : ends_number (spelled (parts_on p (Some d) true ds)) ≡ false → (k : Bool) → is_ascii_digit d ≡ k → ends_number (spelled (parts_on p (Some b) true (d ∷ ds))) ≡ false
    by_digit more k e =
        part_elim (λ a. ends_number (spelled_part a ++ spelled (parts_on p (Some d) (is_ascii_digit d && true) ds)) ≡ false) p (Some b) true d ds
        (λ _. refl) (λ _. refl) (λ _. refl)
        (λ n _ _. bare k e (no_marker p (Some b) true d ds n))
      where
        bare : (k : Bool) → is_ascii_digit d ≡ k → is_read_as_marker p (spot_from (Some b) true d ds) ≡ false → ends_number (d ∷ spelled (parts_on p (Some d) (is_ascii_digit d && true) ds)) ≡ false
        bare true e m = rw e more
        bare false e m = rw (e, no_such p (Some b) true d 46 ds (at_dot p b ds h) m, no_such p (Some b) true d 41 ds (at_parenthesis p b ds h) m) refl

-- after a mark that isn't escaped is a byte that goes on
mark_goes_on : (p : Surroundings) (o q : Bool) (c : ℕ) (cs : List ℕ) → IsInParagraph p → is_alone p (spot_from None o c cs) ≡ false → GoesOn (spelled (parts_on p (Some c) q cs))
mark_goes_on p o q c [] h e = absurd (true≢false (sym h.line ∙ e))
mark_goes_on p o q c (d ∷ ds) h e =
    part_elim (λ a. GoesOn (spelled_part a ++ spelled (parts_on p (Some d) (is_ascii_digit d && q) ds))) p (Some c) q d ds
    (λ _. record { space = refl; minus = refl; equals = refl })
    (λ _. record { space = refl; minus = refl; equals = refl })
    (λ _. record { space = refl; minus = refl; equals = refl })
    (λ _ _ _. record { space = differs goes_on_marker d 32 refl e; minus = differs goes_on_marker d 45 refl e; equals = differs goes_on_marker d 61 refl e })

-- a reference or an escape in front begins nothing
quiet_ampersand : IsQuiet 38
quiet_ampersand = record { space = refl; greater = refl; less = refl; star = refl; minus = refl; plus = refl; equals = refl; underscore = refl; hash = refl; backtick = refl; tilde = refl; digit = refl }

quiet_backslash : IsQuiet 92
quiet_backslash = record { space = refl; greater = refl; less = refl; star = refl; minus = refl; plus = refl; equals = refl; underscore = refl; hash = refl; backtick = refl; tilde = refl; digit = refl }

no_underscore : (p : Surroundings) (o : Bool) (c : ℕ) (cs : List ℕ) → is_read_as_marker p (spot_from None o c cs) ≡ false → (c == 95) ≡ false
no_underscore p o c cs m = not_char c 95 (λ e. true≢false (at_underscore p None o cs (subst (λ x. is_read_as_marker p (spot_from None o x cs) ≡ false) e m)))

space_first : (a : Bool) → (a && true) ≡ false → a ≡ false
space_first true h = h
space_first false h = h

-- a character that is written as it is in front begins nothing
bare_begins : (p : Surroundings) (c : ℕ) (cs : List ℕ) → IsInParagraph p → is_read_as_marker p (spot_from None true c cs) ≡ false → (c == 32) ≡ false → BeginsPlainly (c ∷ spelled (parts_on p (Some c) (is_ascii_digit c && true) cs))
bare_begins p c cs h m s = by_tests (is_ascii_digit c) refl (c == 45) refl (c == 43) refl (c == 61) refl
  where
    mark : char_set_contains (codes "*[]<~`") c ≡ false
    mark = no_mark_of p None true c cs m

    at_char : (d : ℕ) → (c == d) ≡ true → is_read_as_marker p (spot_from None true d cs) ≡ false
    at_char d e = subst (λ x. is_read_as_marker p (spot_from None true x cs) ≡ false) (eq_of c d e) m

    by_tests : (i : Bool) → is_ascii_digit c ≡ i → (x : Bool) → (c == 45) ≡ x → (y : Bool) → (c == 43) ≡ y → (z : Bool) → (c == 61) ≡ z → BeginsPlainly (c ∷ spelled (parts_on p (Some c) (is_ascii_digit c && true) cs))
    by_tests true i x e y f z g = inr (inl (i, rw i (no_number p c cs h)))
    by_tests false i true e y f z g = inr (inr (inl (eq_of c 45 e), subst (λ x. GoesOn (spelled (parts_on p (Some x) (is_ascii_digit c && true) cs))) (sym (eq_of c 45 e)) (mark_goes_on p true (is_ascii_digit c && true) 45 cs h (at_minus p true cs h (at_char 45 e)))))
    by_tests false i false e true f z g = inr (inr (inr (inl (eq_of c 43 f)), subst (λ x. GoesOn (spelled (parts_on p (Some x) (is_ascii_digit c && true) cs))) (sym (eq_of c 43 f)) (mark_goes_on p true (is_ascii_digit c && true) 43 cs h (at_plus p true cs h (at_char 43 f)))))
    by_tests false i false e false f true g = inr (inr (inr (inr (eq_of c 61 g)), subst (λ x. GoesOn (spelled (parts_on p (Some x) (is_ascii_digit c && true) cs))) (sym (eq_of c 61 g)) (mark_goes_on p true (is_ascii_digit c && true) 61 cs h (at_equals p true cs h (at_char 61 g)))))
    by_tests false i false e false f false g = inl (record {
      space = s;
      greater = no_such p None true c 62 cs (at_greater p true cs h) m;
      less = differs (char_set_contains (codes "*[]<~`")) c 60 refl mark;
      star = differs (char_set_contains (codes "*[]<~`")) c 42 refl mark;
      minus = e;
      plus = f;
      equals = g;
      underscore = no_underscore p true c cs m;
      hash = no_such p None true c 35 cs (at_hash p true cs h) m;
      backtick = differs (char_set_contains (codes "*[]<~`")) c 96 refl mark;
      tilde = differs (char_set_contains (codes "*[]<~`")) c 126 refl mark;
      digit = i;
    })

-- a line's parts begin nothing
line_begins : (p : Surroundings) (c : ℕ) (cs : List ℕ) → IsInParagraph p → BeginsPlainly (spelled (parts_of p (c ∷ cs)))
line_begins p c cs h =
    part_elim (λ a. BeginsPlainly (spelled_part a ++ spelled (parts_on p (Some c) (is_ascii_digit c && true) cs))) p None true c cs
    (λ _. inl quiet_ampersand) (λ _. inl quiet_ampersand) (λ _. inl quiet_backslash)
    (λ n _ s. bare_begins p c cs h (no_marker p None true c cs n) (space_first (c == 32) s))

-- the escape of a line is a plain line
pub line_is_plain : (p : Surroundings) (c : ℕ) (cs : List ℕ) → IsInParagraph p → ArePrintable (c ∷ cs) → (last_byte c cs == 32) ≡ false → IsPlainLine (parts_of p (c ∷ cs))
line_is_plain p c cs h k e = record {
  printable = parts_printable p None true (c ∷ cs) k;
  begins = line_begins p c cs h;
  last = parts_end p None true c cs 10 e;
}

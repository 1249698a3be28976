-- The escape of a paragraph's lines is a plain text that means these lines.
use Rattle.std.proofs.Common.{◌≡◌, ℕ, ◌≤◌, Bool, true, false, not, ◌==◌, ◌&&◌, ◌||◌, List, [], ◌∷◌, ◌++◌, codes, refl, ap, sym, subst, ◌∙◌, arith, Option, Some, inl, inr, true≢false}
use Rattle.std.proofs.lemmas.Bool.Decides.{nat_tests}
use Rattle.std.specs.Prelude.{slice_get}
use Rattle.std.specs.Char.{char_set_contains, is_ascii_digit, is_ascii_alphanumeric, is_ascii_punctuation}
use Rattle.std.specs.List.{AllByRecursion, list_all}
use Rattle.std.specs.Option.{option_map_or}
use Rattle.tocmark_read_scan.specs.Basic.{byte_at}
use Rattle.tocmark_write_texts.specs.Characters.{is_alphanumeric}
use Rattle.tocmark_write_texts.specs.Escape.{Surroundings, spot_from, needs_backslash, is_read_as_marker, escape_after, escape, doubles_backslash}
use Rattle.tocmark_read_inlines.proofs.PlainNeighbours.{IsPlainByte, IsPlainPart, ArePlainParts}
use Rattle.tocmark_reader.proofs.PlainReading.{IsPrintable}
use Rattle.tocmark_read_scan.proofs.PlainTests.{eq_of, differs}
use Rattle.tocmark_laws.proofs.PlainCharacters.{part_of, parts_on, parts_of, written_is, part_elim, backslash_punctuation, no_marker, no_mark_of, at_backslash, at_underscore, bare_if, bare_letter, letter_ascii}
use Rattle.tocmark_read_scan.specs.PlainParts.{Part, Bare, spelled_part, spelled, last_byte}
use Rattle.tocmark_laws.specs.PlainLines.{IsInParagraph}

abbrev pub ArePrintable : List ℕ → Type 0
ArePrintable cs = AllByRecursion IsPrintable cs

-- characters are written as their parts are spelled
written_on : (p : Surroundings) (before cs : List ℕ) → IsInParagraph p → ArePrintable cs → escape_after p before cs ≡ spelled (parts_on p (slice_get before 0) (list_all is_ascii_digit before) cs)
written_on p before [] h k = refl
written_on p before (c ∷ cs) h k =
    ap (λ (xs : List ℕ). xs ++ escape_after p (c ∷ before) cs) (written_is p (slice_get before 0) (list_all is_ascii_digit before) c cs h (k.0))
    ∙ ap (λ (xs : List ℕ). spelled_part (part_of p (slice_get before 0) (list_all is_ascii_digit before) c cs) ++ xs) (written_on p (c ∷ before) cs h (k.1))

-- a line is written as its parts are spelled
pub escape_is : (p : Surroundings) (cs : List ℕ) → IsInParagraph p → ArePrintable cs → escape p cs ≡ spelled (parts_of p cs)
escape_is p cs h k = written_on p [] cs h k

-- a byte that no character before it makes a letter of, and no character after it a mark of
record Sides (p : Surroundings) (before : Option ℕ) (o : Bool) (c : ℕ) (cs : List ℕ) (b f : ℕ) : Type 0 where
  letter_before : option_map_or is_alphanumeric before false ≡ true → is_ascii_alphanumeric b ≡ true
  letter_behind : option_map_or is_alphanumeric (slice_get cs 0) false ≡ true → is_ascii_alphanumeric f ≡ true
  bracket : (f == 91) ≡ false
  free : doubles_backslash p (spot_from before o c cs) ≡ false → (is_ascii_punctuation f ≡ false) × ((f == 10) ≡ false)

both_letters : (a b : Bool) → not (a && b) ≡ false → (a ≡ true) × (b ≡ true)
both_letters true true h = (refl, refl)
both_letters true false h = absurd (true≢false h)
both_letters false b h = absurd (true≢false h)

-- a character that is written as it is means itself
bare_is_plain : (p : Surroundings) (before : Option ℕ) (o : Bool) (c : ℕ) (cs : List ℕ) (b f : ℕ) → IsPrintable c → needs_backslash p (spot_from before o c cs) ≡ false → (c == 38) ≡ false → Sides p before o c cs b f → IsPlainByte b c f
bare_is_plain p before o c cs b f print n amp sides = by_tests (c == 92) refl (c == 95) refl (c == 33) refl
  where
    marker : is_read_as_marker p (spot_from before o c cs) ≡ false
    marker = no_marker p before o c cs n

    mark : char_set_contains (codes "*[]<~`") c ≡ false
    mark = no_mark_of p before o c cs marker

    at_char : (d : ℕ) → (c == d) ≡ true → is_read_as_marker p (spot_from before o d cs) ≡ false
    at_char d e = subst (λ x. is_read_as_marker p (spot_from before o x cs) ≡ false) (eq_of c d e) marker

    feed : (c == 10) ≡ false
    feed = let low : 32 ≤ c = print.low in grind (arith, nat_tests)

    same_spot : (c == 92) ≡ true → doubles_backslash p (spot_from before o c cs) ≡ false
    same_spot e = subst (λ x. doubles_backslash p (spot_from before o x cs) ≡ false) (sym (eq_of c 92 e)) (at_backslash p before o cs (at_char 92 e))

    letters : (c == 95) ≡ true → (option_map_or is_alphanumeric before false ≡ true) × (option_map_or is_alphanumeric (slice_get cs 0) false ≡ true)
    letters e = both_letters (option_map_or is_alphanumeric before false) (option_map_or is_alphanumeric (slice_get cs 0) false) (at_underscore p before o cs (at_char 95 e))

    by_tests : (i : Bool) → (c == 92) ≡ i → (j : Bool) → (c == 95) ≡ j → (k : Bool) → (c == 33) ≡ k → IsPlainByte b c f
    by_tests true e j u k v = inr (inr (inl (eq_of c 92 e, (sides.free (same_spot e)).0, (sides.free (same_spot e)).1)))
    by_tests false e true u k v = inr (inr (inr (eq_of c 95 u, sides.letter_before ((letters u).0), sides.letter_behind ((letters u).1))))
    by_tests false e false u true v = inr (inl (eq_of c 33 v, sides.bracket))
    by_tests false e false u false v = inl (record {
      bracket = differs (char_set_contains (codes "*[]<~`")) c 91 refl mark;
      exclamation = v;
      closing = differs (char_set_contains (codes "*[]<~`")) c 93 refl mark;
      less = differs (char_set_contains (codes "*[]<~`")) c 60 refl mark;
      backslash = e;
      ampersand = amp;
      feed = feed;
      backtick = differs (char_set_contains (codes "*[]<~`")) c 96 refl mark;
      star = differs (char_set_contains (codes "*[]<~`")) c 42 refl mark;
      underscore = u;
    })

-- the first byte after a character
abbrev first_behind : Surroundings → ℕ → Bool → List ℕ → List Part → ℕ
first_behind p c o cs more = byte_at (spelled (parts_on p (Some c) o cs ++ more)) 0

behind_letter : (p : Surroundings) (c : ℕ) (o : Bool) (cs : List ℕ) (more : List Part) → IsInParagraph p → ArePrintable cs → option_map_or is_alphanumeric (slice_get cs 0) false ≡ true → is_ascii_alphanumeric (first_behind p c o cs more) ≡ true
behind_letter p c o [] more h k e = absurd (true≢false (sym e))
behind_letter p c o (d ∷ ds) more h k e =
    let letter : is_ascii_alphanumeric d ≡ true = letter_ascii d (k.0) e in
    ap (λ a. is_ascii_alphanumeric (byte_at (spelled_part a ++ spelled (parts_on p (Some d) (is_ascii_digit d && o) ds ++ more)) 0)) (bare_letter p (Some c) o d ds h letter) ∙ letter

behind_bracket : (p : Surroundings) (c : ℕ) (o : Bool) (cs : List ℕ) (more : List Part) → byte_at (spelled more) 0 ≡ 10 → (first_behind p c o cs more == 91) ≡ false
behind_bracket p c o [] more e = rw e refl
behind_bracket p c o (d ∷ ds) more e =
    part_elim (λ a. (byte_at (spelled_part a ++ spelled (parts_on p (Some d) (is_ascii_digit d && o) ds ++ more)) 0 == 91) ≡ false) p (Some c) o d ds
    (λ _. refl) (λ _. refl) (λ _. refl)
    (λ n _ _. differs (char_set_contains (codes "*[]<~`")) d 91 refl (no_mark_of p (Some c) o d ds (no_marker p (Some c) o d ds n)))

last_false : (a b c d : Bool) → (a || b || c || d) ≡ false → a ≡ false
last_false false b c d h = refl
last_false true b c d h = absurd (true≢false h)

behind_backslash : (p : Surroundings) (before : Option ℕ) (c : ℕ) (o q : Bool) (cs : List ℕ) (more : List Part) → IsInParagraph p → ArePrintable cs → doubles_backslash p (spot_from before o c cs) ≡ false → let f = first_behind p c q cs more in (is_ascii_punctuation f ≡ false) × ((f == 10) ≡ false)
unfolding doubles_backslash
behind_backslash p before c o q [] more h k e = absurd (true≢false e)
behind_backslash p before c o q (d ∷ ds) more h k e =
    let other : is_ascii_punctuation d ≡ false = last_false (is_ascii_punctuation d) _ _ _ e in
    let bare : part_of p (Some c) q d ds ≡ Bare d = bare_if p (Some c) q d ds h other (no_first (d == 32)) in
    let low : 32 ≤ d = (k.0).low in
    let feed : (d == 10) ≡ false = grind (arith, nat_tests) in
    subst (λ a. let f = byte_at (spelled_part a ++ spelled (parts_on p (Some d) (is_ascii_digit d && q) ds ++ more)) 0 in (is_ascii_punctuation f ≡ false) × ((f == 10) ≡ false)) (sym bare) (other, feed)
  where
    no_first : (x : Bool) → (x && false) ≡ false
    no_first true = refl
    no_first false = refl

-- a letter before a part is the byte before it
abbrev IsLetterBefore : Option ℕ → ℕ → Type 0
IsLetterBefore before b = option_map_or is_alphanumeric before false ≡ true → is_ascii_alphanumeric b ≡ true

letter_written : (p : Surroundings) (before : Option ℕ) (o : Bool) (c : ℕ) (cs : List ℕ) (b : ℕ) → IsInParagraph p → IsPrintable c → IsLetterBefore (Some c) (last_byte b (spelled_part (part_of p before o c cs)))
letter_written p before o c cs b h k e =
    let letter : is_ascii_alphanumeric c ≡ true = letter_ascii c k e in
    ap (λ a. is_ascii_alphanumeric (last_byte b (spelled_part a))) (bare_letter p before o c cs h letter) ∙ letter

-- the part of a character is plain
part_plain : (p : Surroundings) (before : Option ℕ) (o : Bool) (c : ℕ) (cs : List ℕ) (b f : ℕ) → IsInParagraph p → IsPrintable c → Sides p before o c cs b f → IsPlainPart b (part_of p before o c cs) f
part_plain p before o c cs b f h k sides =
    part_elim (λ a. IsPlainPart b a f) p before o c cs
    (λ _. inl (refl, refl))
    (λ _. inr (refl, refl))
    (λ n. backslash_punctuation p before o c cs h n)
    (λ n amp _. bare_is_plain p before o c cs b f k n amp sides)

pub last_append : (b : ℕ) (xs ys : List ℕ) → last_byte b (xs ++ ys) ≡ last_byte (last_byte b xs) ys
last_append b [] ys = refl
last_append b (x ∷ xs) ys = last_append x xs ys

-- parts of a line, with plain parts after them, are plain
pub line_parts_plain : (p : Surroundings) (before : Option ℕ) (o : Bool) (cs : List ℕ) (b : ℕ) (more : List Part) → IsInParagraph p → ArePrintable cs → IsLetterBefore before b → byte_at (spelled more) 0 ≡ 10 → ArePlainParts (last_byte b (spelled (parts_on p before o cs))) more → ArePlainParts b (parts_on p before o cs ++ more)
line_parts_plain p before o [] b more h k e f rest = rest
line_parts_plain p before o (c ∷ cs) b more h k e f rest =
    let q : Bool = is_ascii_digit c && o in
    let a : Part = part_of p before o c cs in (
      part_plain p before o c cs b (first_behind p c q cs more) h (k.0) (record {
        letter_before = e;
        letter_behind = behind_letter p c q cs more h (k.1);
        bracket = behind_bracket p c q cs more f;
        free = behind_backslash p before c o q cs more h (k.1);
      }),
      line_parts_plain p (Some c) q cs (last_byte b (spelled_part a)) more h (k.1) (letter_written p before o c cs b h (k.0)) f (subst (λ x. ArePlainParts x more) (last_append b (spelled_part a) (spelled (parts_on p (Some c) q cs))) rest),
    )

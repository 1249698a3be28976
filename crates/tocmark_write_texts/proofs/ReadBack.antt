-- An escaped stretch is read as the stretch.
use Rattle.std.proofs.Common.{◌≡◌, ℕ, ◌+◌, ◌<◌, ◌≤◌, ◌^◌, Bool, true, false, cond, ◌&&◌, ◌||◌, Option, Some, None, unwrap_or, List, [], ◌∷◌, ◌++◌, length, take, drop, codes, decimal, append_assoc, length-append, ne_eqb, refl, sym, ap, ◌∙◌, subst, inl, inr, lit<, arith}
use Rattle.std.specs.Prelude.{◌==◌, All}
use Rattle.std.specs.Char.{IsScalar, char_set_contains, is_digit, digit_value}
use Rattle.std.specs.List.{list_all, prefix_len}
use Rattle.std.specs.Str.Parse.{AllDigits, digits_value}
use Rattle.std.proofs.lemmas.Bool.{cases_Bool, cases_eq, or_cases, and_parts, and_right, eqb-true, eqb-false, lt-ltb, le-leb, false≢true}
use Rattle.std.proofs.lemmas.Fmt.{decimal_is_IsNumeral, length-decimal-le}
use Rattle.std.proofs.lemmas.List.Elements.{All-head, All-tail}
use lib.Utf8.{scalar_cases}
use Rattle.tocmark_write_texts.specs.Characters.{is_ascii_punctuation}
use Rattle.tocmark_write_texts.specs.Escape.{Surroundings, is_literal, is_encoded, is_first, coded, reference, doubles_backslash, is_read_as_marker, is_own_token, needs_backslash, with_backslash, written, spot, escape_after}
use Rattle.tocmark_write_texts.specs.Unescape.{Spelled, numbered, by_number, referred, escaped_by, spelled, unescape_after, IsReadable}
use Rattle.tocmark_write_texts.specs.Destination.{destination_character, destination_text, title_character, title_text}
use Rattle.tocmark_write_texts.specs.declared.escape.Spot.{Spot}

-- the characters that belong to one that was read are passed over
passed : (xs rest : List ℕ) → unescape_after (length xs) (xs ++ rest) ≡ unescape_after 0 rest
passed [] rest = refl
passed (x ∷ xs) rest = passed xs rest

-- a character is read from those that spell it
read_one : (c x : ℕ) (xs rest : List ℕ) → spelled c (xs ++ rest) ≡ record { character = x; more = length xs }
    → unescape_after 0 (c ∷ (xs ++ rest)) ≡ x ∷ unescape_after 0 rest
read_one c x xs rest e =
    let step : unescape_after 0 (c ∷ (xs ++ rest)) ≡ x ∷ unescape_after (length xs) (xs ++ rest) =
    ap (λ (s : Spelled). s.character ∷ unescape_after s.more (xs ++ rest)) e in
    step ∙ ap (λ r. x ∷ r) (passed xs rest)

-- a character that is neither a backslash nor an ampersand stands for itself
read_itself : (c : ℕ) (rest : List ℕ) → (c ≡ 92 → ⊥) → (c ≡ 38 → ⊥) → unescape_after 0 (c ∷ rest) ≡ c ∷ unescape_after 0 rest
read_itself c rest a b = read_one c c [] rest (rw (ne_eqb c 92 a, ne_eqb c 38 b) refl)

-- and so does a backslash that escapes nothing
read_bare : (rest : List ℕ) → escaped_by rest ≡ None → unescape_after 0 (92 ∷ rest) ≡ 92 ∷ unescape_after 0 rest
read_bare rest e = read_one 92 92 [] rest (rw e refl)

-- a backslash and what it escapes
read_escaped : (c : ℕ) (rest : List ℕ) → is_ascii_punctuation c ≡ true → unescape_after 0 (92 ∷ c ∷ rest) ≡ c ∷ unescape_after 0 rest
read_escaped c rest e = read_one 92 c (c ∷ []) rest (rw e refl)

digits-front : (ds rest : List ℕ) → AllDigits 10 ds → prefix_len (λ c. is_digit c 10) (ds ++ 59 ∷ rest) ≡ length ds
digits-front [] rest all = refl
digits-front (d ∷ ds) rest all = rw (lt-ltb (digit_value d) 10 all.0, digits-front ds rest all.1) (omega arith)

take-front : (ds rest : List ℕ) → take (length ds) (ds ++ rest) ≡ ds
take-front [] rest = refl
take-front (d ∷ ds) rest = ap (λ x. d ∷ x) (take-front ds rest)

drop-front : (ds rest : List ℕ) → drop (length ds) (ds ++ rest) ≡ rest
drop-front [] rest = refl
drop-front (d ∷ ds) rest = drop-front ds rest

-- a reference by a decimal number
by_number-is : (ds rest : List ℕ) → AllDigits 10 ds → 1 ≤ length ds → length ds ≤ 7
    → by_number 10 7 1 (ds ++ 59 ∷ rest) ≡ Some (record { character = numbered (digits_value 10 ds); more = 1 + length ds + 1 })
by_number-is ds rest all some few =
    rw (digits-front ds rest all, take-front ds (59 ∷ rest), drop-front ds (59 ∷ rest), le-leb 1 (length ds) some, le-leb (length ds) 7 few) refl

-- the number of a reference is the character's
numbered-scalar : (c : ℕ) → IsScalar c → (c ≡ 0 → ⊥) → numbered c ≡ c
numbered-scalar c s z = rw (ne_eqb c 0 z, s) refl

scalar-below : (c : ℕ) → IsScalar c → c < 10 ^ 7
scalar-below c s = elim (scalar_cases c s) [ inl low ↦ omega arith | inr high ↦ omega arith ]

-- a character that is written by its code
referred-number : (c : ℕ) (ds rest : List ℕ) → AllDigits 10 ds → 1 ≤ length ds → length ds ≤ 7 → numbered (digits_value 10 ds) ≡ c
    → referred (35 ∷ (ds ++ 59 ∷ rest)) ≡ Some (record { character = c; more = 1 + length ds + 1 })
unfolding referred
referred-number c [] rest all some few e = absurd (omega arith)
referred-number c (d ∷ ds) rest all some few e =
    let x : d ≡ 120 → ⊥ = λ h. let low = rw h at all.0 in omega arith in
    let y : d ≡ 88 → ⊥ = λ h. let low = rw h at all.0 in omega arith in
    rw (ne_eqb 120 d (λ h. x (sym h)), ne_eqb 88 d (λ h. y (sym h))) (by_number-is (d ∷ ds) rest all some few ∙ ap (λ (n : ℕ). let r : Spelled = record { character = n; more = 1 + length (d ∷ ds) + 1 } in Some r) e)

read_coded : (c : ℕ) (rest : List ℕ) → IsScalar c → (c ≡ 0 → ⊥) → unescape_after 0 (coded c ++ rest) ≡ c ∷ unescape_after 0 rest
unfolding coded
read_coded c rest s z =
    let low = scalar-below c s in
    let is_numeral = decimal_is_IsNumeral c (omega arith) in
    let few = length-decimal-le 7 c (lit< tt) low (omega arith) in
    let itself : Spelled = record { character = 38; more = 0 } in
    let found = ap (λ x. referred (35 ∷ x)) (append_assoc (decimal c) (59 ∷ []) rest)
    ∙ referred-number c (decimal c) rest is_numeral.0.1 (omega (arith, is_numeral.0.0)) few (ap numbered is_numeral.1 ∙ numbered-scalar c s z) in
    let long : 1 + length (decimal c) + 1 ≡ length (35 ∷ (decimal c ++ 59 ∷ [])) = omega (arith, length-append (decimal c) (59 ∷ [])) in
    read_one 38 c (35 ∷ (decimal c ++ 59 ∷ [])) rest
    (ap (λ o. unwrap_or o itself) found ∙ ap (λ (n : ℕ). let r : Spelled = record { character = c; more = n } in r) long)

module _ (P : List ℕ → Type 0) where
  pub pick : (b : Bool) (x y : List ℕ) → (b ≡ true → P x) → (b ≡ false → P y) → P (cond b x y)
  pick true x y p q = p refl
  pick false x y p q = q refl

  pub pick_some : (b : Bool) (x : List ℕ) (o : Option (List ℕ)) (d : List ℕ) → (b ≡ true → P x) → (b ≡ false → P (unwrap_or o d)) → P (unwrap_or (cond b (Some x) o) d)
  pick_some true x o d p q = p refl
  pick_some false x o d p q = q refl

-- a choice that is true
tested : (Q : Type 0) (b x y : Bool) → (b ≡ true → Q) → (y ≡ true → Q) → cond b x y ≡ true → Q
tested Q true x y p q e = p refl
tested Q false x y p q e = q e

abbrev IsMark : ℕ → Type 0
IsMark c = is_ascii_punctuation c ≡ true

mark_at : (c d : ℕ) → IsMark d → (c == d) ≡ true → IsMark c
mark_at c d m e = rw (eqb-true c d e) m

among : (cs : List ℕ) (c : ℕ) → list_all is_ascii_punctuation cs ≡ true → char_set_contains cs c ≡ true → IsMark c
among [] c all e = absurd cc
among (d ∷ cs) c all e =
    let parts = and_parts (is_ascii_punctuation d) (list_all is_ascii_punctuation cs) all in
    elim (or_cases (d == c) (char_set_contains cs c) e) [
      | inl here ↦ rw (sym (eqb-true d c here)) parts.0
      | inr there ↦ among cs c parts.1 there
    ]

abbrev IsStandard : Surroundings → Type 0
IsStandard p = char_set_contains (codes "*_") p.token ≡ true

-- a character that could be read as a marker is punctuation
marker_is_mark : (p : Surroundings) (s : Spot) → is_read_as_marker p s ≡ true → IsMark s.character
unfolding is_read_as_marker
marker_is_mark p s =
    let c = s.character in
    let Q = IsMark s.character in
    tested Q (char_set_contains (codes "*[]<~`") c) _ _ (among (codes "*[]<~`") c refl)
    (tested Q (c == 92) _ _ (mark_at c 92 refl)
    (tested Q (c == 62) _ _ (mark_at c 62 refl)
    (tested Q (c == 94) _ _ (mark_at c 94 refl)
    (tested Q (c == 36) _ _ (mark_at c 36 refl)
    (tested Q (c == 58) _ _ (mark_at c 58 refl)
    (tested Q (c == 123) _ _ (mark_at c 123 refl)
    (tested Q (c == 95) _ _ (mark_at c 95 refl)
    (tested Q (c == 124) _ _ (mark_at c 124 refl)
    (tested Q (c == 35) _ _ (mark_at c 35 refl)
    (tested Q (char_set_contains (codes "-+=") c) _ _ (among (codes "-+=") c refl)
    (tested Q (char_set_contains (codes ".)") c) _ _ (among (codes ".)") c refl)
    (tested Q (c == 33) _ _ (mark_at c 33 refl) (λ e. absurd cc)))))))))))))

no_own_token : (p : Surroundings) (c : ℕ) → IsStandard p → is_own_token p c ≡ false
no_own_token p c standard =
    elim (cases_eq c p.token) [
      | inl same ↦ rw (same, standard) (and_right _ false refl)
      | inr other ↦ rw (ne_eqb c p.token other) refl
    ]

needs_is_mark : (p : Surroundings) (s : Spot) → IsStandard p → needs_backslash p s ≡ true → IsMark s.character
unfolding needs_backslash
needs_is_mark p s standard e =
    elim (or_cases (is_read_as_marker p s) (is_own_token p s.character) e) [
      | inl read ↦ marker_is_mark p s read
      | inr own ↦ absurd (false≢true (sym (no_own_token p s.character standard) ∙ own))
    ]

or_parts_false : (x y : Bool) → (x || y) ≡ false → (x ≡ false) × (y ≡ false)
or_parts_false true y e = cc
or_parts_false false y e = (refl, e)

marker_at_backslash : (p : Surroundings) (s : Spot) → s.character ≡ 92 → is_read_as_marker p s ≡ doubles_backslash p s
unfolding is_read_as_marker
marker_at_backslash p s e = rw e refl

-- without a backslash is a backslash that would escape nothing
bare_escapes_nothing : (p : Surroundings) (s : Spot) → s.character ≡ 92 → needs_backslash p s ≡ false → doubles_backslash p s ≡ false
unfolding needs_backslash
bare_escapes_nothing p s e n =
    sym (marker_at_backslash p s e) ∙ (or_parts_false (is_read_as_marker p s) (is_own_token p s.character) n).0

among_not : (cs : List ℕ) (c x : ℕ) → char_set_contains cs x ≡ false → char_set_contains cs c ≡ true → c ≡ x → ⊥
among_not cs c x out inside e = false≢true (sym out ∙ ap (char_set_contains cs) (sym e) ∙ inside)

first_part : (c d : ℕ) (x y : Bool) → ((c == d) && x && y) ≡ true → c ≡ d
first_part c d x y e = eqb-true c d (and_parts (c == d) x (and_parts ((c == d) && x) y e).0).0

-- what one character is written as is read as that character, if what follows isn't escaped by it
read_written : (p : Surroundings) (s : Spot) (rest : List ℕ) → IsStandard p → IsScalar s.character → (s.character ≡ 0 → ⊥)
    → (s.character ≡ 92 → doubles_backslash p s ≡ false → escaped_by rest ≡ None)
    → unescape_after 0 (written p s ++ rest) ≡ s.character ∷ unescape_after 0 rest
unfolding written reference with_backslash referred
read_written p s rest standard scalar_value nonzero free =
    let c = s.character in
    let P : List ℕ → Type 0 = λ w. unescape_after 0 (w ++ rest) ≡ s.character ∷ unescape_after 0 rest in
    pick P (is_literal p c) (c ∷ []) _
    (λ l.
    let held = (and_parts p.literal _ l).1 in
    read_itself c rest (among_not (codes "*_~^$") c 92 refl held) (among_not (codes "*_~^$") c 38 refl held))
    (λ _. pick P (is_encoded p s) (coded c) _ (λ _. read_coded c rest scalar_value nonzero)
    (λ _. pick_some P (c == 10) (codes "&#10;") _ _ (λ e. rw (eqb-true c 10 e) refl)
    (λ _. pick_some P (c == 13) (codes "&#13;") _ _ (λ e. rw (eqb-true c 13 e) refl)
    (λ _. pick_some P (c == 38) (codes "&amp;") _ _ (λ e. rw (eqb-true c 38 e) refl)
    (λ amp. pick_some P (c == 32 && is_first s && p.at_front) (codes "&#32;") _ _ (λ e. rw (first_part c 32 (is_first s) p.at_front e) refl)
    (λ _. pick_some P (c == 9 && is_first s && p.at_front) (codes "&#9;") _ _ (λ e. rw (first_part c 9 (is_first s) p.at_front e) refl)
    (λ _. pick P (needs_backslash p s) (92 ∷ c ∷ []) (c ∷ []) (λ n. read_escaped c rest (needs_is_mark p s standard n))
    (λ n.
    elim (cases_eq c 92) [
      | inl e ↦
          subst (λ x. unescape_after 0 (x ∷ rest) ≡ x ∷ unescape_after 0 rest) (sym e)
          (read_bare rest (free e (bare_escapes_nothing p s e n)))
      | inr other ↦ read_itself c rest other (eqb-false c 38 amp)
    ]))))))))

not_mark_at : (c d : ℕ) → IsMark d → is_ascii_punctuation c ≡ false → (c == d) ≡ false
not_mark_at c d m n = ne_eqb c d (λ e. false≢true (sym n ∙ ap is_ascii_punctuation e ∙ m))

not_among : (cs : List ℕ) (c : ℕ) → list_all is_ascii_punctuation cs ≡ true → is_ascii_punctuation c ≡ false → char_set_contains cs c ≡ false
not_among cs c all n =
    elim (cases_Bool (char_set_contains cs c)) [
      | inl inside ↦ absurd (false≢true (sym n ∙ among cs c all inside))
      | inr out ↦ out
    ]

no_backslash : (p : Surroundings) (s : Spot) → IsStandard p → is_ascii_punctuation s.character ≡ false → needs_backslash p s ≡ false
no_backslash p s standard n =
    elim (cases_Bool (needs_backslash p s)) [
      | inl needs ↦ absurd (false≢true (sym n ∙ needs_is_mark p s standard needs))
      | inr none ↦ none
    ]

not_front : (b c : Bool) → (b && false && c) ≡ false
not_front true c = refl
not_front false c = refl

-- what a bare backslash is before is written as it is
written_behind : (p : Surroundings) (c d : ℕ) (before ds : List ℕ) → IsStandard p → doubles_backslash p (spot before c (d ∷ ds)) ≡ false
    → (is_ascii_punctuation d ≡ false) × (written p (spot (c ∷ before) d ds) ≡ d ∷ [])
unfolding doubles_backslash written reference with_backslash
written_behind p c d before ds standard h =
    let one = or_parts_false _ _ h in
    let two = or_parts_false _ _ one.0 in
    let three = or_parts_false _ _ two.0 in
    let plain = three.0 in (
      plain,
      rw (
        not_among (codes "*_~^$") d refl plain,
        and_right p.literal false refl,
        one.1,
        three.1,
        two.1,
        not_mark_at d 38 refl plain,
        not_front (d == 32) p.at_front,
        not_front (d == 9) p.at_front,
        no_backslash p (spot (c ∷ before) d ds) standard plain,
      )
          refl,
    )

-- a bare backslash escapes nothing
escapes_nothing : (p : Surroundings) (c : ℕ) (before cs : List ℕ) → IsStandard p → doubles_backslash p (spot before c cs) ≡ false
    → escaped_by (escape_after p (c ∷ before) cs) ≡ None
escapes_nothing p c before [] standard h = refl
escapes_nothing p c before (d ∷ ds) standard h =
    let behind = written_behind p c d before ds standard h in
    rw (behind.1, behind.0) refl

pub escape_after-read : (p : Surroundings) (before cs : List ℕ) → IsStandard p → All IsReadable cs → unescape_after 0 (escape_after p before cs) ≡ cs
escape_after-read p before [] standard all = refl
escape_after-read p before (c ∷ cs) standard all =
    let readable = All-head IsReadable c cs all in
    read_written p (spot before c cs) (escape_after p (c ∷ before) cs) standard readable.0 readable.1
    (λ e h. escapes_nothing p c before cs standard h)
    ∙ ap (λ x. c ∷ x) (escape_after-read p (c ∷ before) cs standard (All-tail IsReadable c cs all))

-- what a character of a destination is written as is read as that character
read_destination : (c : ℕ) (rest : List ℕ) → unescape_after 0 (destination_character c ++ rest) ≡ c ∷ unescape_after 0 rest
unfolding referred
read_destination c rest =
    let P : List ℕ → Type 0 = λ w. unescape_after 0 (w ++ rest) ≡ c ∷ unescape_after 0 rest in
    pick P (c == 38) (codes "&amp;") _ (λ e. rw (eqb-true c 38 e) refl)
    (λ amp. pick P (c == 10) (codes "&#10;") _ (λ e. rw (eqb-true c 10 e) refl)
    (λ _. pick P (c == 13) (codes "&#13;") _ (λ e. rw (eqb-true c 13 e) refl)
    (λ _. pick P (c == 92 || c == 60 || c == 62) (92 ∷ c ∷ []) (c ∷ [])
    (λ e. read_escaped c rest
    (elim (or_cases (c == 92 || c == 60) (c == 62) e) [
      | inl two ↦ elim (or_cases (c == 92) (c == 60) two) [ inl one ↦ mark_at c 92 refl one | inr one ↦ mark_at c 60 refl one ]
      | inr one ↦ mark_at c 62 refl one
    ]))
    (λ e.
    let two = (or_parts_false (c == 92 || c == 60) (c == 62) e).0 in
    read_itself c rest (eqb-false c 92 (or_parts_false (c == 92) (c == 60) two).0) (eqb-false c 38 amp)))))

pub destination_text-read : (text : List ℕ) → unescape_after 0 (destination_text text) ≡ text
destination_text-read [] = refl
destination_text-read (c ∷ cs) = read_destination c (destination_text cs) ∙ ap (λ x. c ∷ x) (destination_text-read cs)

read_title : (c : ℕ) (rest : List ℕ) → unescape_after 0 (title_character c ++ rest) ≡ c ∷ unescape_after 0 rest
unfolding referred
read_title c rest =
    let P : List ℕ → Type 0 = λ w. unescape_after 0 (w ++ rest) ≡ c ∷ unescape_after 0 rest in
    pick P (c == 38) (codes "&amp;") _ (λ e. rw (eqb-true c 38 e) refl)
    (λ amp. pick P (c == 34 || c == 92) (92 ∷ c ∷ []) (c ∷ [])
    (λ e. read_escaped c rest
    (elim (or_cases (c == 34) (c == 92) e) [ inl one ↦ mark_at c 34 refl one | inr one ↦ mark_at c 92 refl one ]))
    (λ e. read_itself c rest (eqb-false c 92 (or_parts_false (c == 34) (c == 92) e).1) (eqb-false c 38 amp)))

pub title_text-read : (text : List ℕ) → unescape_after 0 (title_text text) ≡ text
title_text-read [] = refl
title_text-read (c ∷ cs) = read_title c (title_text cs) ∙ ap (λ x. c ∷ x) (title_text-read cs)

-- A label whose white space is collapsed, character by character.
use Rattle.std.proofs.Common.{◌≡◌, ◌∙◌, sym, ap, refl, arith, ℕ, Bool, true, false, not, ◌&&◌, ◌==◌, if◌then◌else◌, List, [], ◌∷◌, ◌++◌, append-nil, append_assoc, chars, codes, encode_utf8, encode_utf8_all, filter, IsUtf8, length, length-append}
use Rattle.std.specs.List.{flat_map, join_by, onto_first, slice_split}
use Rattle.std.proofs.lemmas.Bool.Decides.{nat_tests}
use Rattle.std.proofs.lemmas.List.Splits.{slice_split-cons_yes, slice_split-cons_no}
use Rattle.std.proofs.lemmas.Str.{chars_past_char, chars-nil, encodes-append, length-encode, len_utf8_bounds}
use Rattle.tocmark_write_labels.specs.Matched.{is_blank, is_word}

-- these words, each after a space
abbrev spaced : List (List ℕ) → List ℕ
spaced ws = flat_map (λ w. codes " " ++ w) ws

-- the rest of a word and what follows it, of parts between white space
abbrev going_on : List (List ℕ) → List ℕ
going_on [] = []
going_on (p ∷ ps) = p ++ spaced (filter is_word ps)

-- what is left to write of such parts, by whether nothing is written and whether white space came last
abbrev pub left_of : Bool → Bool → List (List ℕ) → List ℕ
left_of true after ps = join_by (λ w. w) (codes " ") (filter is_word ps)
left_of false true ps = spaced (filter is_word ps)
left_of false false ps = going_on ps

-- the same of a label from a character on
abbrev pub left : Bool → Bool → List ℕ → List ℕ
left first after cs = left_of first after (slice_split is_blank cs)

-- the space before a word that needs one
abbrev gap : Bool → List ℕ
gap b = if b then codes " " else []

-- white space changes only what comes before the next word
with-blank : (first after : Bool) (ps : List (List ℕ)) → left_of first after ([] ∷ ps) ≡ left_of first true ps
with-blank true after ps = refl
with-blank false true ps = refl
with-blank false false ps = refl

at-blank : (first after : Bool) (c : ℕ) (cs : List ℕ) → is_blank c ≡ true → left first after (c ∷ cs) ≡ left first true cs
at-blank first after c cs h = ap (left_of first after) (slice_split-cons_yes is_blank c cs h) ∙ with-blank first after (slice_split is_blank cs)

-- another character begins a word or goes on with it
with-letter : (first after : Bool) (c : ℕ) (ps : List (List ℕ)) → left_of first after (onto_first c ps) ≡ gap (after && not first) ++ c ∷ going_on ps
with-letter true true c [] = refl
with-letter true true c (p ∷ ps) = refl
with-letter true false c [] = refl
with-letter true false c (p ∷ ps) = refl
with-letter false true c [] = refl
with-letter false true c (p ∷ ps) = refl
with-letter false false c [] = refl
with-letter false false c (p ∷ ps) = refl

at-letter : (first after : Bool) (c : ℕ) (cs : List ℕ) → is_blank c ≡ false → left first after (c ∷ cs) ≡ gap (after && not first) ++ c ∷ left false false cs
at-letter first after c cs h = ap (left_of first after) (slice_split-cons_no is_blank c cs h) ∙ with-letter first after c (slice_split is_blank cs)

no-chars : (bs : List ℕ) → length bs ≡ 0 → chars bs ≡ []
no-chars [] e = chars-nil
no-chars (b ∷ bs) e = absurd (omega (arith, e))

nothing-left : (first after : Bool) → left first after [] ≡ []
nothing-left true after = refl
nothing-left false true = refl
nothing-left false false = refl

-- the text before a character, with the space that a new word needs
abbrev pub before : Bool → List ℕ → List ℕ
before after done = if after && not (length done == 0) then done ++ codes " " else done

-- the text after one more character
abbrev pub pushed : Bool → List ℕ → ℕ → List ℕ
pushed after done c = if is_blank c then done else before after done ++ encode_utf8 c

spaced-gap : (b : Bool) (done rest : List ℕ) → (if b then done ++ codes " " else done) ++ rest ≡ done ++ (encode_utf8_all (gap b) ++ rest)
unfolding lib.Utf8.encode
spaced-gap true done rest = append_assoc done (codes " ") rest
spaced-gap false done rest = refl

not-empty : (done : List ℕ) (c : ℕ) → (length (done ++ encode_utf8 c) == 0) ≡ false
not-empty done c = grind (arith, nat_tests, length-append done (encode_utf8 c), length-encode c, len_utf8_bounds c)

module _ (done rest whole : List ℕ) (after : Bool) (c : ℕ) where
  blank-more : is_blank c ≡ true → done ++ encode_utf8_all (left (length done == 0) after (c ∷ chars rest)) ≡ whole → done ++ encode_utf8_all (left (length done == 0) true (chars rest)) ≡ whole
  blank-more b h = ap (λ cs. done ++ encode_utf8_all cs) (sym (at-blank (length done == 0) after c (chars rest) b)) ∙ h

  letter-more : is_blank c ≡ false → done ++ encode_utf8_all (left (length done == 0) after (c ∷ chars rest)) ≡ whole → (before after done ++ encode_utf8 c) ++ encode_utf8_all (left (length (before after done ++ encode_utf8 c) == 0) false (chars rest)) ≡ whole
  letter-more b h =
      ap (λ first. (before after done ++ encode_utf8 c) ++ encode_utf8_all (left first false (chars rest))) (not-empty (before after done) c)
      ∙ append_assoc (before after done) (encode_utf8 c) (encode_utf8_all (left false false (chars rest)))
      ∙ spaced-gap (after && not (length done == 0)) done (encode_utf8_all (c ∷ left false false (chars rest)))
      ∙ ap (λ x. done ++ x) (sym (encodes-append (gap (after && not (length done == 0))) (c ∷ left false false (chars rest))))
      ∙ ap (λ cs. done ++ encode_utf8_all cs) (sym (at-letter (length done == 0) after c (chars rest) b))
      ∙ h

  one-more : (b : Bool) → is_blank c ≡ b → done ++ encode_utf8_all (left (length done == 0) after (c ∷ chars rest)) ≡ whole
      → (if b then done else before after done ++ encode_utf8 c) ++ encode_utf8_all (left (length (if b then done else before after done ++ encode_utf8 c) == 0) b (chars rest)) ≡ whole
  one-more true b h = blank-more b h
  one-more false b h = letter-more b h

-- one more character of a label
pub collapsed-more : (done new bs rest whole : List ℕ) (after now : Bool) (c : ℕ) → new ≡ pushed after done c → now ≡ is_blank c → IsUtf8 bs → bs ≡ encode_utf8 c ++ rest
    → done ++ encode_utf8_all (left (length done == 0) after (chars bs)) ≡ whole → new ++ encode_utf8_all (left (length new == 0) now (chars rest)) ≡ whole
collapsed-more done new bs rest whole after now c p q u e h =
    ap (λ x. x ++ encode_utf8_all (left (length x == 0) now (chars rest))) p
    ∙ ap (λ b. pushed after done c ++ encode_utf8_all (left (length (pushed after done c) == 0) b (chars rest))) q
    ∙ one-more done rest whole after c (is_blank c) refl (ap (λ cs. done ++ encode_utf8_all (left (length done == 0) after cs)) (sym (chars_past_char bs rest c u e)) ∙ h)

-- and none
pub collapsed-none : (done bs whole : List ℕ) (after : Bool) → length bs ≡ 0 → done ++ encode_utf8_all (left (length done == 0) after (chars bs)) ≡ whole → done ≡ whole
collapsed-none done bs whole after e h =
    sym (append-nil done)
    ∙ ap (λ cs. done ++ encode_utf8_all cs) (sym (nothing-left (length done == 0) after))
    ∙ ap (λ cs. done ++ encode_utf8_all (left (length done == 0) after cs)) (sym (no-chars bs e))
    ∙ h

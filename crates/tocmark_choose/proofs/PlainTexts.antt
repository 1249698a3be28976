-- A plain text is escaped as it is.
use Rattle.std.proofs.Common.{◌≡◌, ◌≤◌, ◌<◌, ◌⊎◌, inl, inr, ◌==◌, ℕ, Bool, true, false, ◌&&◌, ◌||◌, if◌then◌else◌, codes, None, Some, List, [], ◌∷◌, ◌++◌, chars, encode_utf8, encode_utf8_all, refl, sym, ap, ◌∙◌, arith}
use Rattle.std.specs.Prelude.{not, nat_lt, unwrap_or}
use Rattle.std.specs.Char.{char_set_contains, is_ascii_digit}
use Rattle.std.specs.List.{list_all}
use Rattle.std.specs.Str.{IsUtf8}
use Rattle.std.proofs.lemmas.Bool.{and_from, and_left, and_parts, and_right, cases_lt, le-ltb, not-true, not_from_false, or_from, or_parts}
use Rattle.std.proofs.lemmas.Bool.Decides.{nat_tests}
use Rattle.std.proofs.lemmas.List.Folds.{list_all-append}
use Rattle.std.proofs.lemmas.Str.{encode_ascii, encodes-chars}
use Rattle.tocmark_write_texts.specs.Bare.{is_bare, is_mark}
use Rattle.tocmark_write_texts.specs.Characters.{is_white_space}
use Rattle.tocmark_write_texts.specs.Escape.{Surroundings, begins_block, escape, escaped, has, is_alone, is_encoded, is_first, is_last, is_literal, is_marker, is_own_token, is_read_as_marker, needs_backslash, reference, spot_from, with_backslash, written}
use Rattle.tocmark_write_texts.specs.declared.escape.Spot.{Spot}
use Rattle.tocmark_write_texts.proofs.Bare.{differs, is_none_of, itself}
use Rattle.tocmark_write_texts.proofs.EscapeLemmas.{escape_on, escape_on-is}
use Rattle.tocmark_choose.specs.Alike.{has_bare_front, is_front_mark, is_line_mark, is_plain}

-- ---- the first character

skip : {A : Type 0} (b : Bool) (x y z : A) → b ≡ false → y ≡ z → (if b then x else y) ≡ z
skip b x y z e f = ap (λ t. if t then x else y) e ∙ f

either : {A : Type 0} (b : Bool) (x y z : A) → x ≡ z → y ≡ z → (if b then x else y) ≡ z
either true x y z e f = e
either false x y z e f = f

-- no block begins inside a line
no_block : (p : Surroundings) (s : Spot) → p.at_front ≡ false → is_marker p s ≡ false
unfolding is_marker
no_block p s e =
    and_left (begins_block p s) (is_alone p s) (and_left (is_first s && p.at_front) (not p.in_table) (and_right (is_first s) p.at_front e))

module _ (p : Surroundings) (s : Spot) (h : is_mark s.character ≡ false) (n : is_front_mark s.character ≡ false) (l : (is_line_mark s.character ≡ false) ⊎ (p.at_front ≡ false)) where
  -- what begins a block at the front of a line alone
  by_line : (b x y : Bool) → (is_line_mark s.character ≡ false → b ≡ false) → (p.at_front ≡ false → x ≡ false) → y ≡ false → (if b then x else y) ≡ false
  by_line b x y low high rest = by l
    where
      by : ((is_line_mark s.character ≡ false) ⊎ (p.at_front ≡ false)) → (if b then x else y) ≡ false
      by (inl e) = skip b x y false (low e) rest
      by (inr e) = either b x y false (high e) rest

  no_marker : s.after_digits ≡ false → is_read_as_marker p s ≡ false
  unfolding is_read_as_marker
  no_marker d =
      let c = s.character in
      skip (char_set_contains (codes "*[]<~`") c) _ _ _ (is_none_of is_mark (codes "*[]<~`") c h refl)
      (skip (c == 92) _ _ _ (differs is_mark c 92 h refl)
      (skip (c == 62) _ _ _ (differs is_front_mark c 62 n refl)
      (skip (c == 94) _ _ _ (differs is_mark c 94 h refl)
      (skip (c == 36) _ _ _ (differs is_mark c 36 h refl)
      (by_line (c == 58) _ _ (λ e. differs is_line_mark c 58 e refl) (λ e. and_left (is_marker p s) (has p 0x1000) (no_block p s e))
      (skip (c == 123) _ _ _ (differs is_mark c 123 h refl)
      (skip (c == 95) _ _ _ (differs is_mark c 95 h refl)
      (skip (c == 124) _ _ _ (differs is_mark c 124 h refl)
      (skip (c == 35) _ _ _ (differs is_mark c 35 h refl)
      (by_line (char_set_contains (codes "-+=") c) _ _ (λ e. is_none_of is_line_mark (codes "-+=") c e refl) (λ e. no_block p s e)
      (either (char_set_contains (codes ".)") c) _ _ _ (and_right (not p.in_table) s.after_digits d)
      (skip (c == 33) _ _ _ (differs is_mark c 33 h refl) refl))))))))))))

  no_backslash : (s.character == p.token) ≡ false → s.after_digits ≡ false → with_backslash p s ≡ s.character ∷ []
  unfolding with_backslash needs_backslash
  no_backslash t d =
      skip (is_read_as_marker p s || is_own_token p s.character) _ _ _
      (or_from (is_read_as_marker p s) (is_own_token p s.character) (no_marker d)
      (and_left (s.character == p.token) (not (char_set_contains (codes "*_") s.character)) t)) refl

  -- a blank that isn't at the front of a line
  no_blank : (k : ℕ) → is_line_mark k ≡ true → (s.character == k && is_first s && p.at_front) ≡ false
  no_blank k mark = by l
    where
      by : ((is_line_mark s.character ≡ false) ⊎ (p.at_front ≡ false)) → (s.character == k && is_first s && p.at_front) ≡ false
      by (inl e) = and_left (s.character == k && is_first s) p.at_front (and_left (s.character == k) (is_first s) (differs is_line_mark s.character k e mark))
      by (inr e) = and_right (s.character == k && is_first s) p.at_front e

  no_reference : reference p s ≡ None
  unfolding reference
  no_reference =
      let c = s.character in
      skip (c == 10) _ _ _ (differs is_mark c 10 h refl)
      (skip (c == 13) _ _ _ (differs is_mark c 13 h refl)
      (skip (c == 38) _ _ _ (differs is_mark c 38 h refl)
      (skip (c == 32 && is_first s && p.at_front) _ _ _ (no_blank 32 refl)
      (skip (c == 9 && is_first s && p.at_front) _ _ _ (no_blank 9 refl) refl))))

  not_encoded : p.first_encoded ≡ false → p.last_encoded ≡ false → is_encoded p s ≡ false
  not_encoded f l =
      and_left ((is_first s && p.first_encoded) || (is_last s && p.last_encoded)) (not (is_white_space s.character))
      (or_from (is_first s && p.first_encoded) (is_last s && p.last_encoded) (and_right (is_first s) p.first_encoded f) (and_right (is_last s) p.last_encoded l))

  front_itself : is_mark p.token ≡ true → s.after_digits ≡ false → p.first_encoded ≡ false → p.last_encoded ≡ false → written p s ≡ s.character ∷ []
  unfolding written
  front_itself t d f l =
      either (is_literal p s.character) (s.character ∷ []) _ _ refl
      (skip (is_encoded p s) _ _ _ (not_encoded f l)
      (ap (λ r. unwrap_or r (with_backslash p s)) no_reference ∙ no_backslash (differs is_mark s.character p.token h t) d))

-- ---- the characters of a text

abbrev is_ascii : ℕ → Bool
is_ascii c = nat_lt c 128

past_ascii : (c : ℕ) → 128 ≤ c → is_bare c ≡ true
past_ascii c h =
    let low : is_ascii c ≡ false = le-ltb c 128 h in
    not_from_false (is_mark c)
    (or_from _ _ (or_from _ _ (is_none_of is_ascii (codes "*[]<~`") c low refl) (is_none_of is_ascii (codes "\\^${_|#!") c low refl))
    (is_none_of is_ascii (38 ∷ 10 ∷ 13 ∷ []) c low refl))

bare_character : (c : ℕ) → list_all is_bare (encode_utf8 c) ≡ true → ((c < 128) ⊎ (128 ≤ c)) → is_bare c ≡ true
bare_character c h (inl low) = (and_parts (is_bare c) true (ap (list_all is_bare) (sym (encode_ascii c low)) ∙ h)).0
bare_character c h (inr high) = past_ascii c high

bare_characters : (cs : List ℕ) → list_all is_bare (encode_utf8_all cs) ≡ true → list_all is_bare cs ≡ true
bare_characters [] h = refl
bare_characters (c ∷ cs) h =
    let parts = and_parts (list_all is_bare (encode_utf8 c)) (list_all is_bare (encode_utf8_all cs))
    (sym (list_all-append is_bare (encode_utf8 c) (encode_utf8_all cs)) ∙ h) in
    and_from (is_bare c) (list_all is_bare cs) (bare_character c parts.0 (cases_lt c 128)) (bare_characters cs parts.1)

no_digit : (c : ℕ) → 128 ≤ c → is_ascii_digit c ≡ false
no_digit c high = grind (arith, high, nat_tests)

abbrev IsFrontCharacter : Bool → ℕ → Type 0
IsFrontCharacter within c = (is_front_mark c ≡ false) × ((within || not (is_line_mark c)) ≡ true)

front_character : (within : Bool) (c : ℕ) (bs : List ℕ) → has_bare_front within (encode_utf8 c ++ bs) ≡ true → ((c < 128) ⊎ (128 ≤ c)) → IsFrontCharacter within c
front_character within c bs h (inl low) =
    let parts = and_parts (not (is_front_mark c)) (within || not (is_line_mark c)) (ap (λ xs. has_bare_front within (xs ++ bs)) (sym (encode_ascii c low)) ∙ h) in
    (not-true (is_front_mark c) parts.0, parts.1)
front_character within c bs h (inr high) =
    let past : is_ascii c ≡ false = le-ltb c 128 high in
    let line : is_line_mark c ≡ false = is_none_of is_ascii (9 ∷ codes " -+=:") c past refl in
    (or_from (is_ascii_digit c) (c == 62) (no_digit c high) (differs is_ascii c 62 past refl), or_true within (ap not line))
  where
    or_true : (b : Bool) {x : Bool} → x ≡ true → (b || x) ≡ true
    or_true true e = refl
    or_true false e = e

module _ (p : Surroundings) (f : p.first_encoded ≡ false) (l : p.last_encoded ≡ false) (t : is_mark p.token ≡ true) (within : Bool) (inside : within ≡ true → p.at_front ≡ false) where
  bare_written : (b : ℕ) (cs : List ℕ) → list_all is_bare cs ≡ true → escape_on p (Some b) false cs ≡ cs
  bare_written b [] h = refl
  bare_written b (c ∷ cs) h =
      let parts = and_parts (is_bare c) (list_all is_bare cs) h in
      ap (λ x. x ++ escape_on p (Some c) (is_ascii_digit c && false) cs) (itself p (spot_from (Some b) false c cs) parts.0 t refl refl l)
      ∙ ap (λ x. c ∷ escape_on p (Some c) x cs) (and_right (is_ascii_digit c) false refl)
      ∙ ap (λ x. c ∷ x) (bare_written c cs parts.1)

  at_line : (b : Bool) → within ≡ b → (c : ℕ) → (within || not (is_line_mark c)) ≡ true → (is_line_mark c ≡ false) ⊎ (p.at_front ≡ false)
  at_line true e c h = inr (inside e)
  at_line false e c h = inl (not-true (is_line_mark c) (ap (λ b. b || not (is_line_mark c)) (sym e) ∙ h))

  plain_written : (cs : List ℕ) → has_bare_front within (encode_utf8_all cs) ≡ true → list_all is_bare (encode_utf8_all cs) ≡ true → escape p cs ≡ cs
  plain_written [] front h = refl
  plain_written (c ∷ cs) front h =
      let all = and_parts (is_bare c) (list_all is_bare cs) (bare_characters (c ∷ cs) h) in
      let n = front_character within c (encode_utf8_all cs) front (cases_lt c 128) in
      sym (escape_on-is p [] (c ∷ cs))
      ∙ ap (λ x. x ++ escape_on p (Some c) (is_ascii_digit c && true) cs)
      (front_itself p (spot_from None true c cs) (not-true (is_mark c) all.0) n.0 (at_line within refl c n.1) t refl f l)
      ∙ ap (λ b. c ∷ escape_on p (Some c) (b && true) cs) (or_parts (is_ascii_digit c) (c == 62) n.0).0
      ∙ ap (λ x. c ∷ x) (bare_written c cs all.1)

  -- a plain text is escaped as it is
  pub plain_escaped : (text : List ℕ) → IsUtf8 text → is_plain within text ≡ true → escaped p text ≡ text
  unfolding escaped
  plain_escaped text u h =
      let same : encode_utf8_all (chars text) ≡ text = encodes-chars text u in
      let parts = and_parts (has_bare_front within text) (list_all is_bare text) h in
      ap encode_utf8_all (plain_written (chars text) (ap (has_bare_front within) same ∙ parts.0) (ap (list_all is_bare) same ∙ parts.1)) ∙ same

-- ---- two plain texts joined

or-left : (b c n : Bool) → (b || n) ≡ true → ((b || c) || n) ≡ true
or-left true c n h = refl
or-left false true n h = refl
or-left false false n h = h

or-right : (b c n : Bool) → (c || n) ≡ true → ((b || c) || n) ≡ true
or-right true c n h = refl
or-right false c n h = h

-- inside a line of which either knows
front-right : (b c : Bool) (text : List ℕ) → has_bare_front c text ≡ true → has_bare_front (b || c) text ≡ true
front-right b c [] h = refl
front-right b c (x ∷ xs) h =
    let parts = and_parts (not (is_front_mark x)) (c || not (is_line_mark x)) h in
    and_from (not (is_front_mark x)) ((b || c) || not (is_line_mark x)) parts.0 (or-right b c (not (is_line_mark x)) parts.1)

pub plain-joined : (b c : Bool) (t u : List ℕ) → is_plain b t ≡ true → is_plain c u ≡ true → is_plain (b || c) (t ++ u) ≡ true
plain-joined b c [] u h k =
    let two = and_parts (has_bare_front c u) (list_all is_bare u) k in
    and_from (has_bare_front (b || c) u) (list_all is_bare u) (front-right b c u two.0) two.1
plain-joined b c (x ∷ xs) u h k =
    let one = and_parts (has_bare_front b (x ∷ xs)) (list_all is_bare (x ∷ xs)) h in
    let two = and_parts (has_bare_front c u) (list_all is_bare u) k in
    let front = and_parts (not (is_front_mark x)) (b || not (is_line_mark x)) one.0 in
    and_from (has_bare_front (b || c) ((x ∷ xs) ++ u)) (list_all is_bare ((x ∷ xs) ++ u))
    (and_from (not (is_front_mark x)) ((b || c) || not (is_line_mark x)) front.0 (or-left b c (not (is_line_mark x)) front.1))
    (list_all-append is_bare (x ∷ xs) u ∙ and_from (list_all is_bare (x ∷ xs)) (list_all is_bare u) one.1 two.1)

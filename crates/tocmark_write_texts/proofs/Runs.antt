-- A run of characters that stand for themselves is written as it is.
use Rattle.std.proofs.Common.{◌≡◌, ◌≤◌, ◌<◌, ◌⊎◌, inl, inr, ℕ, Bool, true, false, ◌&&◌, ◌||◌, if◌then◌else◌, codes, Some, List, [], ◌∷◌, ◌++◌, append_assoc, take, drop, length, chars, encode_utf8, encode_utf8_all, refl, sym, ap, subst, ◌∙◌}
use Rattle.std.specs.Prelude.{not, nat_lt}
use Rattle.std.specs.Char.{char_set_contains, is_ascii_digit, IsScalar}
use Rattle.std.specs.List.{list_all, prefix_len, take_while}
use Rattle.std.specs.Str.{IsCharBoundary, IsUtf8}
use Rattle.std.proofs.lemmas.Bool.{and_from, and_parts, and_right, both_ways, cases_lt, cond_both, le-ltb, not-false, not_from_false, or_from, or_parts, true_from_ne_false, true≢false}
use Rattle.std.proofs.lemmas.List.{append-nil, take_at, take-append-drop}
use Rattle.std.proofs.lemmas.List.Folds.{list_all-append}
use Rattle.std.proofs.lemmas.List.Sums.{prefix_len-le-length, prefix_len_stops, take_while-cons}
use Rattle.std.proofs.lemmas.Str.{chars-append, chars-nil, chars_past_char, encode_ascii, encodes-append, encodes-chars, IsCharBoundary-at_seam, IsCharBoundary-start, IsUtf8-drop, IsUtf8-encode, IsUtf8-take}
use Rattle.tocmark_write_texts.specs.Bare.{bare_size, is_bare, is_mark, last_of}
use Rattle.tocmark_write_texts.specs.Escape.{Surroundings, spot_from}
use Rattle.tocmark_write_texts.proofs.Bare.{is_none_of, itself}
use Rattle.tocmark_write_texts.proofs.EscapeLemmas.{escape_on}

abbrev is_ascii : ℕ → Bool
is_ascii c = nat_lt c 128

-- no mark is past ASCII
past_ascii : (b : ℕ) → 128 ≤ b → is_bare b ≡ true
past_ascii b h =
    let low : is_ascii b ≡ false = le-ltb b 128 h in
    not_from_false (is_mark b)
    (or_from _ _ (or_from _ _ (is_none_of is_ascii (codes "*[]<~`") b low refl) (is_none_of is_ascii (codes "\\^${_|#!") b low refl))
    (is_none_of is_ascii (38 ∷ 10 ∷ 13 ∷ []) b low refl))

-- a text may be cut after what stands for itself
bare_boundary : (bs : List ℕ) → IsCharBoundary bs (prefix_len is_bare bs)
bare_boundary bs =
    (prefix_len-le-length is_bare bs, λ inside high. absurd (both_ways _ (prefix_len_stops is_bare bs 0 inside) (past_ascii _ high)))

-- the markers of Markdown's emphasis are marks
token_mark : (token : ℕ) → char_set_contains (codes "*_") token ≡ true → is_mark token ≡ true
token_mark token h =
    true_from_ne_false (is_mark token) (λ no_mark. true≢false (sym h ∙ is_none_of is_mark (codes "*_") token no_mark refl))

-- a choice, by its test
by_test : {A : Type 0} (P : A → Type 0) (b : Bool) (x y : A) → (b ≡ true → P x) → (b ≡ false → P y) → P (if b then x else y)
by_test P true x y f g = f refl
by_test P false x y f g = g refl

-- what is so where some bytes are looked at
record IsLooked (p : Surroundings) (only_digits : Bool) : Type 0 where
  digits : only_digits ≡ false
  last : p.last_encoded ≡ false
  token : is_mark p.token ≡ true

looked : (p : Surroundings) (only_digits : Bool) → (only_digits || p.last_encoded || not (char_set_contains (codes "*_") p.token)) ≡ false → IsLooked p only_digits
looked p only_digits e =
    let one = or_parts (only_digits || p.last_encoded) (not (char_set_contains (codes "*_") p.token)) e in
    let two = or_parts only_digits p.last_encoded one.0 in
    record { digits = two.0; last = two.1; token = token_mark p.token (not-false (char_set_contains (codes "*_") p.token) one.1) }

pub size_boundary : (p : Surroundings) (only_digits : Bool) (bs : List ℕ) → IsUtf8 bs → IsCharBoundary bs (bare_size p only_digits bs)
size_boundary p only_digits bs u =
    by_test (IsCharBoundary bs) (only_digits || p.last_encoded || not (char_set_contains (codes "*_") p.token)) 0 (prefix_len is_bare bs)
    (λ e. IsCharBoundary-start bs u) (λ e. bare_boundary bs)

-- each of the elements at a list's front that pass a test passes it
all_taken : (test : ℕ → Bool) (bs : List ℕ) → list_all test (take_while test bs) ≡ true
all_taken test [] = refl
all_taken test (b ∷ bs) =
    ap (list_all test) (take_while-cons test b bs)
    ∙ cond_both (test b) (b ∷ take_while test bs) [] (λ l. list_all test l ≡ true)
    (λ e. and_from (test b) (list_all test (take_while test bs)) e (all_taken test bs)) (λ e. refl)

-- what each byte of a character and all codes past ASCII pass, it passes itself
char_passes : (test : ℕ → Bool) (c : ℕ) → ((b : ℕ) → 128 ≤ b → test b ≡ true) → list_all test (encode_utf8 c) ≡ true → ((c < 128) ⊎ (128 ≤ c)) → test c ≡ true
char_passes test c past h (inl low) = (and_parts (test c) true (ap (list_all test) (sym (encode_ascii c low)) ∙ h)).0
char_passes test c past h (inr high) = past c high

chars_pass : (test : ℕ → Bool) (cs : List ℕ) → ((b : ℕ) → 128 ≤ b → test b ≡ true) → list_all test (encode_utf8_all cs) ≡ true → list_all test cs ≡ true
chars_pass test [] past h = refl
chars_pass test (c ∷ cs) past h =
    let parts = and_parts (list_all test (encode_utf8 c)) (list_all test (encode_utf8_all cs))
    (sym (list_all-append test (encode_utf8 c) (encode_utf8_all cs)) ∙ h) in
    and_from (test c) (list_all test cs) (char_passes test c past parts.0 (cases_lt c 128)) (chars_pass test cs past parts.1)

-- characters that stand for themselves, after another one and not after digits alone
run_written : (p : Surroundings) (b : ℕ) (cs ds : List ℕ) → p.last_encoded ≡ false → is_mark p.token ≡ true → list_all is_bare cs ≡ true
    → escape_on p (Some b) false (cs ++ ds) ≡ cs ++ escape_on p (Some (last_of b cs)) false ds
run_written p b [] ds l t h = refl
run_written p b (c ∷ cs) ds l t h =
    let parts = and_parts (is_bare c) (list_all is_bare cs) h in
    ap (λ x. x ++ escape_on p (Some c) (is_ascii_digit c && false) (cs ++ ds)) (itself p (spot_from (Some b) false c (cs ++ ds)) parts.0 t refl refl l)
    ∙ ap (λ x. c ∷ escape_on p (Some c) x (cs ++ ds)) (and_right (is_ascii_digit c) false refl)
    ∙ ap (λ x. c ∷ x) (run_written p c cs ds l t parts.1)

-- so many bytes of a text are written as they are
abbrev IsCopied : Surroundings → ℕ → Bool → List ℕ → ℕ → Type 0
IsCopied p b only_digits bs n =
    encode_utf8_all (escape_on p (Some b) only_digits (chars bs))
    ≡ take n bs ++ encode_utf8_all (escape_on p (Some (last_of b (chars (take n bs)))) only_digits (chars (drop n bs)))

none_copied : (p : Surroundings) (b : ℕ) (only_digits : Bool) (bs : List ℕ) → IsCopied p b only_digits bs 0
none_copied p b only_digits bs = sym (ap (λ cs. encode_utf8_all (escape_on p (Some (last_of b cs)) only_digits (chars bs))) chars-nil)

run_copied : (p : Surroundings) (b : ℕ) (bs : List ℕ) → IsUtf8 bs → IsLooked p false → IsCopied p b false bs (prefix_len is_bare bs)
run_copied p b bs u is =
    let n : ℕ = prefix_len is_bare bs in
    let run : List ℕ = take n bs in
    let tail : List ℕ = drop n bs in
    let v : IsUtf8 run = IsUtf8-take bs n u (bare_boundary bs) in
    let same : encode_utf8_all (chars run) ≡ run = encodes-chars run v in
    let all : list_all is_bare (chars run) ≡ true =
    chars_pass is_bare (chars run) past_ascii (ap (list_all is_bare) same ∙ all_taken is_bare bs) in
    let after : List ℕ = escape_on p (Some (last_of b (chars run))) false (chars tail) in
    ap (λ x. encode_utf8_all (escape_on p (Some b) false x)) (ap chars (sym (take-append-drop n bs)) ∙ chars-append run tail v)
    ∙ ap encode_utf8_all (run_written p b (chars run) (chars tail) is.last is.token all)
    ∙ encodes-append (chars run) after
    ∙ ap (λ x. x ++ encode_utf8_all after) same

copied : (p : Surroundings) (b : ℕ) (only_digits : Bool) (bs : List ℕ) → IsUtf8 bs → IsCopied p b only_digits bs (bare_size p only_digits bs)
copied p b true bs u = none_copied p b true bs
copied p b false bs u =
    by_test (IsCopied p b false bs) (p.last_encoded || not (char_set_contains (codes "*_") p.token)) 0 (prefix_len is_bare bs)
    (λ e. none_copied p b false bs) (λ e. run_copied p b bs u (looked p false e))

-- a run is written after a character
pub escape_on-run : (p : Surroundings) (c last : ℕ) (only_digits : Bool) (bs run tail old new whole : List ℕ) → IsUtf8 bs
    → run ≡ take (bare_size p only_digits bs) bs → tail ≡ drop (bare_size p only_digits bs) bs → last ≡ last_of c (chars run) → new ≡ old ++ run
    → old ++ encode_utf8_all (escape_on p (Some c) only_digits (chars bs)) ≡ whole
    → new ++ encode_utf8_all (escape_on p (Some last) only_digits (chars tail)) ≡ whole
escape_on-run p c last only_digits bs run tail old new whole u r t l w h =
    let is = copied p c only_digits bs u in
    rw (w, l, r, t, append_assoc) (rw is at h)

pub run_rest : (p : Surroundings) (only_digits : Bool) (bs tail : List ℕ) → IsUtf8 bs → tail ≡ drop (bare_size p only_digits bs) bs → IsUtf8 tail
run_rest p only_digits bs tail u e =
    subst IsUtf8 (sym e) (IsUtf8-drop bs (bare_size p only_digits bs) u (size_boundary p only_digits bs u))

-- the last one of a character and those of a text after it
last_at : (c : ℕ) (cs : List ℕ) (d : ℕ) → last_of c (cs ++ d ∷ []) ≡ d
last_at c [] d = refl
last_at c (x ∷ cs) d = last_at x cs d

chars-encode : (c : ℕ) → IsUtf8 (encode_utf8 c) → chars (encode_utf8 c) ≡ c ∷ []
chars-encode c v = chars_past_char (encode_utf8 c) [] c v (sym (append-nil (encode_utf8 c))) ∙ ap (λ t. c ∷ t) chars-nil

pub last_is : (c : ℕ) (bs front : List ℕ) (d : ℕ) → IsUtf8 bs → IsScalar d → bs ≡ front ++ encode_utf8 d → last_of c (chars bs) ≡ d
last_is c bs front d u scalar e =
    let v : IsUtf8 (encode_utf8 d) = IsUtf8-encode d scalar in
    let n : ℕ = length front in
    let w : IsUtf8 front = subst IsUtf8 (ap (take n) e ∙ take_at front (encode_utf8 d) n refl) (IsUtf8-take bs n u (IsCharBoundary-at_seam bs front (encode_utf8 d) e v)) in
    ap (last_of c) (ap chars e ∙ chars-append front (encode_utf8 d) w ∙ ap (λ t. chars front ++ t) (chars-encode d v)) ∙ last_at c (chars front) d

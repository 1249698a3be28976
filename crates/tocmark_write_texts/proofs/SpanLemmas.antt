-- Runs of characters, and code spans.
use Rattle.std.proofs.Common.{◌≡◌, ℕ, suc, ◌+◌, ◌-◌, ◌<◌, ◌≤◌, false, max, Some, List, [], ◌∷◌, ◌++◌, length, get_or, IsUtf8, chars, encode_utf8, encode_utf8_all, refl, sym, ap, ◌∙◌, length-append, eq-eqb, ne_eqb, arith, inl, inr}
use Rattle.std.specs.Ordering.{ord_max, nat_cmp}
use Rattle.std.proofs.lemmas.Bool.Decides.{nat_tests}
use Rattle.std.proofs.lemmas.Str.{chars_past_char}
use Rattle.tocmark_write_texts.proofs.EscapeLemmas.{chars_of_empty}
use native.Mathlib.Numerals.{unary_clauses}
use Rattle.std.specs.List.{list_any}
use Rattle.std.proofs.lemmas.List.Sums.{prefix_len-le-length}
use Rattle.std.proofs.lemmas.Bool.{cases_lt, or_parts}
use Rattle.std.proofs.lemmas.Str.{encode_ascii, encodes-chars, length-le-encodes}
use Rattle.tocmark_write_texts.proofs.CharacterLemmas.{bytes_past_ascii}
use Rattle.std.proofs.lemmas.Str.{length-encode, len_utf8_bounds}
use Rattle.std.specs.Prelude.{slice_get, ◌==◌}
use Rattle.tocmark_write_texts.specs.Leaves.{last_is, run_length, longest_run}

pub last_is_at : (c : ℕ) (text : List ℕ) (d : ℕ) → slice_get text (length text - 1) ≡ Some d → last_is c text ≡ (d == c)
last_is_at c [] d e = cc
last_is_at c (x ∷ []) d e = let same : x ≡ d = cc in ap (λ z. z == c) same
last_is_at c (x ∷ y ∷ ys) d e = last_is_at c (y ∷ ys) d (simp unary_clauses (simp unary_clauses at e))

run_length-le : (s : ℕ) (cs : List ℕ) → run_length s cs ≤ longest_run s cs
run_length-le s [] = omega arith
run_length-le s (c ∷ cs) = omega arith

-- a run goes on
pub run_goes_on : (longest current s c : ℕ) (cs : List ℕ) → c ≡ s
    → max (max longest (current + 1)) (max (current + 1 + run_length s cs) (longest_run s cs))
    ≡ max longest (max (current + run_length s (c ∷ cs)) (longest_run s (c ∷ cs)))
run_goes_on longest current s c cs e = rw (eq-eqb c s e) (omega arith)

-- a run ends, or none was there
pub run_ends : (longest current s c : ℕ) (cs : List ℕ) → (c ≡ s → ⊥) → current ≤ longest
    → max longest (max (0 + run_length s cs) (longest_run s cs))
    ≡ max longest (max (current + run_length s (c ∷ cs)) (longest_run s (c ∷ cs)))
run_ends longest current s c cs e l = let within = run_length-le s cs in rw (ne_eqb c s e) (omega arith)

pub length-character : (bs rest : List ℕ) (c : ℕ) → bs ≡ encode_utf8 c ++ rest → length rest + 1 ≤ length bs
length-character bs rest c e =
    let some = (len_utf8_bounds c).0 in
    omega (arith, ap length e, length-append (encode_utf8 c) rest, length-encode c)

pub longest_run-le : (s : ℕ) (cs : List ℕ) → longest_run s cs ≤ length cs
longest_run-le s [] = omega arith
longest_run-le s (c ∷ cs) =
    let tail = longest_run-le s cs in
    omega (arith, prefix_len-le-length (λ d. d == s) (c ∷ cs))

pub longest_run-chars-le : (s : ℕ) (bs : List ℕ) → IsUtf8 bs → longest_run s (chars bs) ≤ length bs
longest_run-chars-le s bs u =
    omega (arith, longest_run-le s (chars bs), length-le-encodes (chars bs), ap length (encodes-chars bs u))

-- what is before has none of the character
longest_run_after : (s : ℕ) (xs ys : List ℕ) → ((k : ℕ) → k < length xs → get_or xs k 0 ≡ s → ⊥) → longest_run s (xs ++ ys) ≡ longest_run s ys
longest_run_after s [] ys none = refl
longest_run_after s (x ∷ xs) ys none =
    let tail : (k : ℕ) → k < length xs → get_or xs k 0 ≡ s → ⊥ = λ k l. none (suc k) (omega arith) in
    rw (ne_eqb x s (none 0 (omega arith)), longest_run_after s xs ys tail) (omega arith)

run_length_after : (s : ℕ) (xs ys : List ℕ) → 0 < length xs → ((k : ℕ) → k < length xs → get_or xs k 0 ≡ s → ⊥) → run_length s (xs ++ ys) ≡ 0
run_length_after s [] ys some none = absurd (omega arith)
run_length_after s (x ∷ xs) ys some none = rw (ne_eqb x s (none 0 (omega arith))) refl

past : (s c : ℕ) → s < 128 → 128 ≤ c → (k : ℕ) → k < length (encode_utf8 c) → get_or (encode_utf8 c) k 0 ≡ s → ⊥
past s c low high k l e = let more = bytes_past_ascii c high k l in omega arith

run_length-encodes : (s : ℕ) → s < 128 → (cs : List ℕ) → run_length s (encode_utf8_all cs) ≡ run_length s cs
run_length-encodes s low [] = refl
run_length-encodes s low (c ∷ cs) =
    elim (cases_lt c 128) [
      | inl small ↦ rw (encode_ascii c small, run_length-encodes s low cs) refl
      | inr high ↦
          let differs : c ≡ s → ⊥ = λ e. omega arith in
          run_length_after s (encode_utf8 c) (encode_utf8_all cs) (omega (arith, length-encode c, (len_utf8_bounds c).0)) (past s c low high)
          ∙ rw (ne_eqb c s differs) refl
    ]

longest_run-encodes : (s : ℕ) → s < 128 → (cs : List ℕ) → longest_run s (encode_utf8_all cs) ≡ longest_run s cs
longest_run-encodes s low [] = refl
longest_run-encodes s low (c ∷ cs) =
    elim (cases_lt c 128) [
      | inl small ↦ rw (encode_ascii c small, run_length-encodes s low cs, longest_run-encodes s low cs) refl
      | inr high ↦
          let differs : c ≡ s → ⊥ = λ e. omega arith in
          longest_run_after s (encode_utf8 c) (encode_utf8_all cs) (past s c low high)
          ∙ longest_run-encodes s low cs ∙ rw (ne_eqb c s differs) (omega arith)
    ]

-- an ASCII character's runs are those of its byte
pub longest_run-chars : (s : ℕ) (bs : List ℕ) → s < 128 → IsUtf8 bs → longest_run s (chars bs) ≡ longest_run s bs
longest_run-chars s bs low u = sym (longest_run-encodes s low (chars bs)) ∙ ap (longest_run s) (encodes-chars bs u)

ord_max-is : (a b : ℕ) → ord_max nat_cmp a b ≡ max a b
ord_max-is a b = grind (arith, nat_tests)

-- one more character of the text that is read, in a run
pub run_goes_on_in : (longest current s c new whole : ℕ) (bs rest : List ℕ) → IsUtf8 bs → bs ≡ encode_utf8 c ++ rest → c ≡ s
    → new ≡ ord_max nat_cmp longest (current + 1)
    → max longest (max (current + run_length s (chars bs)) (longest_run s (chars bs))) ≡ whole
    → (current + 1 ≤ new) × (max new (max (current + 1 + run_length s (chars rest)) (longest_run s (chars rest))) ≡ whole)
run_goes_on_in longest current s c new whole bs rest u e same n h =
    let is_max : new ≡ max longest (current + 1) = n ∙ ord_max-is longest (current + 1) in
    let seen = ap (λ x. max longest (max (current + run_length s x) (longest_run s x))) (chars_past_char bs rest c u e) in
    (omega arith, rw is_max (run_goes_on longest current s c (chars rest) same ∙ sym seen ∙ h))

-- and after one
pub run_ends_in : (longest current s c whole : ℕ) (bs rest : List ℕ) → IsUtf8 bs → bs ≡ encode_utf8 c ++ rest → (c ≡ s → ⊥) → current ≤ longest
    → max longest (max (current + run_length s (chars bs)) (longest_run s (chars bs))) ≡ whole
    → max longest (max (0 + run_length s (chars rest)) (longest_run s (chars rest))) ≡ whole
run_ends_in longest current s c whole bs rest u e other l h =
    let seen = ap (λ x. max longest (max (current + run_length s x) (longest_run s x))) (chars_past_char bs rest c u e) in
    run_ends longest current s c (chars rest) other l ∙ sym seen ∙ h

-- nothing is left to read
pub all_read : (longest current s whole : ℕ) (bs : List ℕ) → length bs ≡ 0 → current ≤ longest
    → max longest (max (current + run_length s (chars bs)) (longest_run s (chars bs))) ≡ whole → longest ≡ whole
all_read longest current s whole bs e l h =
    let seen = ap (λ x. max longest (max (current + run_length s x) (longest_run s x))) (chars_of_empty bs e) in
    let none : max longest (max (current + 0) 0) ≡ longest = omega arith in
    sym none ∙ sym seen ∙ h

-- all is to be read
pub all_to_read : (s : ℕ) (bs text : List ℕ) → bs ≡ text
    → max 0 (max (0 + run_length s (chars bs)) (longest_run s (chars bs))) ≡ longest_run s (chars text)
all_to_read s bs text e =
    let within = run_length-le s (chars bs) in
    let whole : max 0 (max (0 + run_length s (chars bs)) (longest_run s (chars bs))) ≡ longest_run s (chars bs) = omega arith in
    whole ∙ ap (λ x. longest_run s (chars x)) e

-- where no character is a backtick, no run of them is
pub no_run : (bs : List ℕ) → list_any (λ b. b == 96) bs ≡ false → 0 ≡ longest_run 96 bs
no_run [] e = refl
no_run (b ∷ bs) e =
    let parts = or_parts (b == 96) (list_any (λ x. x == 96) bs) e in
    let tail = no_run bs parts.1 in
    rw parts.0 (omega (arith, tail))

-- An ASCII letter or digit beside a place is neither white space nor punctuation.
use Rattle.std.proofs.Common.{◌≡◌, ℕ, zero, suc, ◌-◌, ◌<◌, ◌≤◌, Bool, true, false, not, ◌==◌, ◌&&◌, ◌||◌, nat_lt, nat_le, List, refl, ap, sym, ◌∙◌, arith, true≢false, ◌⊎◌, inl, inr, eq-or-lt_of_le}
use Rattle.std.proofs.lemmas.Bool.Decides.{nat_tests}
use Rattle.std.specs.Char.{is_ascii_alphanumeric}
use Rattle.tocmark_read_scan.specs.Basic.{byte_at, character_of}
use Rattle.tocmark_read_scan.specs.Side.{side_of, side_at, code_at, is_space, side_before, start_before, is_continuation}
use Rattle.ucd_category.specs.GeneralCategory.{general_category}
use Rattle.ucd_category.specs.GeneralCategoryRows.{general_category_rows}
use Rattle.ucd_table.specs.Rows.{value_in}
use Rattle.tocmark_read_scan.specs.declared.side.Side.{Side}
use Rattle.tocmark_read_scan.specs.declared.side.Side.TheVariants.{Space, Punctuation, Other}
use Rattle.tocmark_read_scan.proofs.PlainTests.{both_true}

-- a test holds below a number
abbrev all_below : (ℕ → Bool) → ℕ → Bool
all_below test zero = true
all_below test (suc n) = test n && all_below test n

is_other : Side → Bool
is_other Other = true
is_other Space = false
is_other Punctuation = false

letter_is_other : ℕ → Bool
letter_is_other c = not (is_ascii_alphanumeric c) || is_other (side_of c)

letters_are_other : all_below letter_is_other 123 ≡ true
unfolding side_of is_space is_other letter_is_other general_category value_in general_category_rows
letters_are_other = refl

by_place : (test : ℕ → Bool) (n c : ℕ) → (all_below test n ≡ true → c < n → test c ≡ true) → (c ≡ n) ⊎ (c < n) → (test n && all_below test n) ≡ true → test c ≡ true
by_place test n c more (inl e) h = ap test e ∙ (both_true (test n) (all_below test n) h).0
by_place test n c more (inr l) h = more ((both_true (test n) (all_below test n) h).1) l

below : (test : ℕ → Bool) (n c : ℕ) → all_below test n ≡ true → c < n → test c ≡ true
below test zero c h k = absurd (omega arith)
below test (suc n) c h k = by_place test n c (below test n c) (eq-or-lt_of_le (let q : c ≤ n = omega arith in q)) h

other_from : (a : Bool) (k : Side) → (not a || is_other k) ≡ true → a ≡ true → k ≡ Other
unfolding is_other
other_from true Other h e = refl
other_from true Space h e = absurd (true≢false (sym h))
other_from true Punctuation h e = absurd (true≢false (sym h))
other_from false k h e = absurd (true≢false (sym e))

-- an ASCII letter or digit is neither white space nor punctuation
pub letter_side : (c : ℕ) → c < 123 → is_ascii_alphanumeric c ≡ true → side_of c ≡ Other
unfolding letter_is_other
letter_side c small h = other_from (is_ascii_alphanumeric c) (side_of c) (below letter_is_other 123 c letters_are_other small) h

pub side_at_letter : (bytes : List ℕ) (p c : ℕ) → byte_at bytes p ≡ c → c < 123 → is_ascii_alphanumeric c ≡ true → side_at bytes p ≡ Other
unfolding side_at code_at character_of
side_at_letter bytes p c e small h =
    let ascii : nat_lt c 128 ≡ true = grind (arith, nat_tests) in
    let low : nat_lt c 0xD800 ≡ true = grind (arith, nat_tests) in
    rw (e, ascii, low) (letter_side c small h)

pub side_before_letter : (bytes : List ℕ) (p a : ℕ) → 0 < p → byte_at bytes (p - 1) ≡ a → a < 123 → is_ascii_alphanumeric a ≡ true → side_before bytes p ≡ Other
unfolding side_before start_before is_continuation
side_before_letter bytes p a some e small h =
    let behind : (p == 0) ≡ false = grind (arith, nat_tests) in
    let first : nat_le 128 a ≡ false = grind (arith, nat_tests) in
    rw (behind, e, first) (side_at_letter bytes (p - 1) a e small h)

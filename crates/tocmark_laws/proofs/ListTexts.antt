-- The text of a tight list as it is written: its items on a line each, after a bullet, or after their numbers.
use Rattle.std.proofs.Common.{◌≡◌, ℕ, ◌+◌, ◌%◌, ◌^◌, ◌<◌, ◌≤◌, min, Bool, true, false, ◌==◌, if◌then◌else◌, nat_le, List, [], ◌∷◌, ◌++◌, length, refl, ap, sym, subst, ◌∙◌, arith, append_assoc, append-nil, length-append, Some, None, decimal, ◌⊎◌, inl, inr}
use Rattle.std.proofs.lemmas.Bool.Decides.{nat_tests}
use Rattle.std.proofs.lemmas.Fmt.{decimal_by_steps, decimal_is_IsNumeral, length-decimal-le}
use Rattle.std.proofs.lemmas.Str.{encode_ascii}
use Rattle.std.specs.Char.{is_ascii_digit}
use Rattle.std.specs.List.{AllByRecursion, list_all}
use Rattle.std.specs.Str.Parse.{digits_value}
use Rattle.tocmark_event.specs.Options.{OptionsView}
use Rattle.tocmark_read_scan.proofs.PlainTests.{eq_of, one_of_two, one_of_three}
use Rattle.tocmark_reader.proofs.PlainReading.{IsPrintable}
use Rattle.tocmark_laws.specs.OrderedLists.{NumberedLine, is_number, is_delimiter, ordered_list}
use Rattle.tocmark_laws.specs.PlainLists.{is_bullet, bullet_list}
use Rattle.tocmark_laws.proofs.ListSpelling.{marker_of, items_text, AreMarkers}

shown : (b : ℕ) → 32 ≤ b → b < 127 → IsPrintable b
shown b low high = record { low = low; high = high }

-- ---- bullets

bullet_shown : (b : ℕ) → is_bullet b ≡ true → IsPrintable b
bullet_shown b h = by_bullet (one_of_three (b == 45) (b == 43) (b == 42) h)
  where
    by_bullet : ((b == 45) ≡ true) ⊎ ((b == 43) ≡ true) ⊎ ((b == 42) ≡ true) → IsPrintable b
    by_bullet (inl e) = let q : b ≡ 45 = eq_of b 45 e in shown b (omega (arith, q)) (omega (arith, q))
    by_bullet (inr (inl e)) = let q : b ≡ 43 = eq_of b 43 e in shown b (omega (arith, q)) (omega (arith, q))
    by_bullet (inr (inr e)) = let q : b ≡ 42 = eq_of b 42 e in shown b (omega (arith, q)) (omega (arith, q))

bullet_marker : (b : ℕ) → is_bullet b ≡ true → marker_of None b ≡ b ∷ 32 ∷ []
bullet_marker b h =
    let high : b < 127 = (bullet_shown b h).high in
    ap (λ (xs : List ℕ). xs ++ 32 ∷ []) (encode_ascii b (omega (arith, high)))

pub bullets_are_markers : (o : OptionsView) (b : ℕ) (ls : List (List ℕ)) → is_bullet b ≡ true → AreMarkers o None b ls
bullets_are_markers o b [] h = tt
bullets_are_markers o b (l ∷ ls) h =
    let is : marker_of None b ≡ b ∷ 32 ∷ [] = bullet_marker b h in
    let some : 0 < length (b ∷ 32 ∷ []) = omega arith in (
      subst (λ (xs : List ℕ). 0 < length xs) (sym is) some,
      subst (AllByRecursion IsPrintable) (sym is) (bullet_shown b h, (shown 32 (omega arith) (omega arith), tt)),
      bullets_are_markers o b ls h,
    )

pub bullets_text : (o : OptionsView) (b : ℕ) (l : List ℕ) (ls : List (List ℕ)) → is_bullet b ≡ true → items_text o None b l ls ≡ bullet_list b l ls
bullets_text o b l [] h = ap (λ (xs : List ℕ). xs ++ (l ++ [])) (bullet_marker b h) ∙ ap (λ (xs : List ℕ). b ∷ 32 ∷ xs) (append-nil l)
bullets_text o b l (n ∷ ns) h =
    ap (λ (xs : List ℕ). xs ++ (l ++ 10 ∷ items_text o None b n ns)) (bullet_marker b h)
    ∙ ap (λ (xs : List ℕ). b ∷ 32 ∷ (l ++ 10 ∷ xs)) (bullets_text o b n ns h)

-- ---- numbers

delimiter_shown : (b : ℕ) → is_delimiter b ≡ true → IsPrintable b
delimiter_shown b h = by_delimiter (one_of_two (b == 46) (b == 41) h)
  where
    by_delimiter : ((b == 46) ≡ true) ⊎ ((b == 41) ≡ true) → IsPrintable b
    by_delimiter (inl e) = let q : b ≡ 46 = eq_of b 46 e in shown b (omega (arith, q)) (omega (arith, q))
    by_delimiter (inr e) = let q : b ≡ 41 = eq_of b 41 e in shown b (omega (arith, q)) (omega (arith, q))

abbrev IsDigit : ℕ → Type 0
IsDigit d = (48 ≤ d) × (d ≤ 57)

all_with : (ds : List ℕ) (d : ℕ) → AllByRecursion IsDigit ds → IsDigit d → AllByRecursion IsDigit (ds ++ d ∷ [])
all_with [] d h k = (k, tt)
all_with (x ∷ xs) d h k = (h.0, all_with xs d (h.1) k)

decimal_digits : (n : ℕ) → n < 2 ^ 64 → AllByRecursion IsDigit (decimal n)
decimal_digits n h = decimal_by_steps (λ n ds. AllByRecursion IsDigit ds)
    (λ n k. ((omega arith, omega (arith, k)), tt))
    (λ n ds k all. all_with ds (48 + n % 10) all (omega arith, (let q : n % 10 < 10 = omega arith in omega (arith, q))))
    n h

digits_tested : (ds : List ℕ) → AllByRecursion IsDigit ds → list_all is_ascii_digit ds ≡ true
digits_tested [] h = refl
digits_tested (d ∷ ds) h =
    let low : 48 ≤ d = (h.0).0 in
    let high : d ≤ 57 = (h.0).1 in
    let one : is_ascii_digit d ≡ true = grind (arith, low, high, nat_tests) in
    rw one (digits_tested ds (h.1))

digits_shown : (ds : List ℕ) → AllByRecursion IsDigit ds → AllByRecursion IsPrintable ds
digits_shown [] h = tt
digits_shown (d ∷ ds) h =
    let low : 48 ≤ d = (h.0).0 in
    let high : d ≤ 57 = (h.0).1 in
    (shown d (omega (arith, low)) (omega (arith, high)), digits_shown ds (h.1))

below : (n : ℕ) → n < 10 ^ 9 → n < 2 ^ 64
below n h = omega (arith, h)

few_digits : (n : ℕ) → n < 10 ^ 9 → length (decimal n) ≤ 9
few_digits n h = length-decimal-le 9 n (omega arith) h (below n h)

some_digits : (n : ℕ) → n < 10 ^ 9 → 0 < length (decimal n)
some_digits n h = ((decimal_is_IsNumeral n (below n h)).0).0

-- a number of an item is one of at most nine digits
pub number_tested : (n : ℕ) → n < 10 ^ 9 → is_number (decimal n) ≡ true
number_tested n h =
    let some : 0 < length (decimal n) = some_digits n h in
    let few : length (decimal n) ≤ 9 = few_digits n h in
    let least : nat_le 1 (length (decimal n)) ≡ true = grind (arith, some, nat_tests) in
    let most : nat_le (length (decimal n)) 9 ≡ true = grind (arith, few, nat_tests) in
    rw (least, most, digits_tested (decimal n) (decimal_digits n (below n h))) refl

pub number_value : (n : ℕ) → n < 10 ^ 9 → digits_value 10 (decimal n) ≡ n
number_value n h = (decimal_is_IsNumeral n (below n h)).1

-- the number after another one
abbrev pub number_behind : OptionsView → ℕ → ℕ
number_behind o n = if o.increment_ordered_list_bullets then min (n + 1) 999999999 else n

pub behind_below : (o : OptionsView) (n : ℕ) → n < 10 ^ 9 → number_behind o n < 10 ^ 9
behind_below o n h = by_option o.increment_ordered_list_bullets
  where
    by_option : (b : Bool) → (if b then min (n + 1) 999999999 else n) < 10 ^ 9
    by_option true = omega arith
    by_option false = h

-- the items after a number on, each with its own
abbrev pub numbered : OptionsView → ℕ → List (List ℕ) → List NumberedLine
numbered o n [] = []
numbered o n (l ∷ ls) = record { digits = decimal n; line = l } ∷ numbered o (number_behind o n) ls

number_marker : (n delimiter : ℕ) → is_delimiter delimiter ≡ true → marker_of (Some n) delimiter ≡ decimal n ++ delimiter ∷ 32 ∷ []
number_marker n delimiter h =
    let high : delimiter < 127 = (delimiter_shown delimiter h).high in
    ap (λ (xs : List ℕ). (decimal n ++ xs) ++ 32 ∷ []) (encode_ascii delimiter (omega (arith, high))) ∙ append_assoc (decimal n) (delimiter ∷ []) (32 ∷ [])

all_both : (xs ys : List ℕ) → AllByRecursion IsPrintable xs → AllByRecursion IsPrintable ys → AllByRecursion IsPrintable (xs ++ ys)
all_both [] ys h k = k
all_both (x ∷ xs) ys h k = (h.0, all_both xs ys (h.1) k)

pub numbers_are_markers : (o : OptionsView) (n delimiter : ℕ) (ls : List (List ℕ)) → is_delimiter delimiter ≡ true → n < 10 ^ 9 → AreMarkers o (Some n) delimiter ls
numbers_are_markers o n delimiter [] h k = tt
numbers_are_markers o n delimiter (l ∷ ls) h k =
    let is : marker_of (Some n) delimiter ≡ decimal n ++ delimiter ∷ 32 ∷ [] = number_marker n delimiter h in
    let some : 0 < length (decimal n ++ delimiter ∷ 32 ∷ []) = omega (arith, length-append (decimal n) (delimiter ∷ 32 ∷ [])) in (
      subst (λ (xs : List ℕ). 0 < length xs) (sym is) some,
      subst (AllByRecursion IsPrintable) (sym is) (all_both (decimal n) (delimiter ∷ 32 ∷ []) (digits_shown (decimal n) (decimal_digits n (below n k))) (delimiter_shown delimiter h, (shown 32 (omega arith) (omega arith), tt))),
      numbers_are_markers o (number_behind o n) delimiter ls h (behind_below o n k),
    )

pub numbers_text : (o : OptionsView) (n delimiter : ℕ) (l : List ℕ) (ls : List (List ℕ)) → is_delimiter delimiter ≡ true → items_text o (Some n) delimiter l ls ≡ ordered_list delimiter (record { digits = decimal n; line = l }) (numbered o (number_behind o n) ls)
numbers_text o n delimiter l [] h =
    ap (λ (xs : List ℕ). xs ++ (l ++ [])) (number_marker n delimiter h)
    ∙ append_assoc (decimal n) (delimiter ∷ 32 ∷ []) (l ++ [])
    ∙ ap (λ (xs : List ℕ). decimal n ++ delimiter ∷ 32 ∷ xs) (append-nil l)
numbers_text o n delimiter l (m ∷ ms) h =
    let next : ℕ = number_behind o n in
    let rest : List ℕ = items_text o (Some next) delimiter m ms in
    ap (λ (xs : List ℕ). xs ++ (l ++ 10 ∷ rest)) (number_marker n delimiter h)
    ∙ ap (λ (xs : List ℕ). (decimal n ++ delimiter ∷ 32 ∷ []) ++ (l ++ 10 ∷ xs)) (numbers_text o next delimiter m ms h)
    ∙ append_assoc (decimal n) (delimiter ∷ 32 ∷ []) (l ++ 10 ∷ ordered_list delimiter (record { digits = decimal next; line = m }) (numbered o (number_behind o next) ms))
    ∙ sym (append_assoc (decimal n) (delimiter ∷ 32 ∷ l) (10 ∷ ordered_list delimiter (record { digits = decimal next; line = m }) (numbered o (number_behind o next) ms)))

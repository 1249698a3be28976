-- The run round a place, in a text that is given backwards.
use Rattle.std.proofs.Common.{◌≡◌, ◌==◌, ◌≤◌, ◌+◌, ◌&&◌, ◌++◌, ℕ, zero, suc, Bool, true, false, cond, if◌then◌else◌, List, [], ◌∷◌, refl, sym, ap, ◌∙◌, arith, drop, length, leb, reverse, take}
use Rattle.std.specs.List.{prefix_len}
use Rattle.std.proofs.lemmas.Bool.{eq-eqb, eqb-true, le-leb, leb-false, leb-true, lt-leb, ne_eqb}
use Rattle.std.proofs.lemmas.List.{drop_at, length-drop, length-reverse, length-take-le, reverse-append, reverse-reverse, take_at, take-append-drop}
use Rattle.std.proofs.lemmas.List.Folds.{prefix_len-append}
use Rattle.std.proofs.lemmas.List.Sums.{prefix_len-le-length}
use Rattle.tocmark_spelling.specs.Runs.{run_around}

-- how long the run of a byte is at the front of a list
abbrev pub front_run : ℕ → List ℕ → ℕ
front_run c bs = prefix_len (λ b. b == c) bs

-- how long it is in front of the place after so many bytes
abbrev pub back_run : ℕ → ℕ → List ℕ → ℕ
back_run c k bs = front_run c (reverse (take k bs))

-- what one more byte adds to it
abbrev pub added : ℕ → ℕ → ℕ → List ℕ → ℕ
added c k b bs = if (b == c) && leb k (front_run c bs) then 1 else 0

back-bound : (c k : ℕ) (bs : List ℕ) → k ≤ length bs → back_run c k bs ≤ k
back-bound c k bs le =
    omega (arith, prefix_len-le-length (λ b. b == c) (reverse (take k bs)), length-reverse (take k bs), length-take-le k bs le)

grow : (c k b : ℕ) (bs : List ℕ) → k ≤ length bs → (back_run c k bs == k) ≡ leb k (front_run c bs) → back_run c (suc k) (b ∷ bs) ≡ back_run c k bs + added c k b bs
grow c k b bs le whole =
    ap (front_run c) (reverse-append (b ∷ []) (take k bs))
    ∙ prefix_len-append (λ x. x == c) (reverse (take k bs)) (b ∷ [])
    ∙ ap (λ n. cond (back_run c k bs == n) (n + (if b == c then 1 else 0)) (back_run c k bs)) (length-reverse (take k bs) ∙ length-take-le k bs le)
    ∙ by (leb k (front_run c bs)) (b == c) whole
  where
    by : (x y : Bool) → (back_run c k bs == k) ≡ x
        → cond (back_run c k bs == k) (k + (if y then 1 else 0)) (back_run c k bs) ≡ back_run c k bs + (if y && x then 1 else 0)
    by true true e = ap (λ z. cond z (k + 1) (back_run c k bs)) e ∙ omega (arith, eqb-true (back_run c k bs) k e)
    by true false e = ap (λ z. cond z (k + 0) (back_run c k bs)) e ∙ omega (arith, eqb-true (back_run c k bs) k e)
    by false true e = ap (λ z. cond z (k + 1) (back_run c k bs)) e ∙ omega arith
    by false false e = ap (λ z. cond z (k + 0) (back_run c k bs)) e ∙ omega arith

leb-more : (k n : ℕ) → leb (suc k) (1 + n) ≡ leb k n
leb-more k n = by (leb k n) refl
  where
    by : (x : Bool) → leb k n ≡ x → leb (suc k) (1 + n) ≡ x
    by true e = le-leb (suc k) (1 + n) (omega (arith, leb-true k n e))
    by false e = lt-leb (suc k) (1 + n) (omega (arith, leb-false k n e))

whole-more : (c k b : ℕ) (bs : List ℕ) → k ≤ length bs → (back_run c k bs == k) ≡ leb k (front_run c bs) → (back_run c (suc k) (b ∷ bs) == suc k) ≡ leb (suc k) (front_run c (b ∷ bs))
whole-more c k b bs less whole = ap (λ n. n == suc k) (grow c k b bs less whole) ∙ by (leb k (front_run c bs)) (b == c) whole refl
  where
    bound : back_run c k bs ≤ k
    bound = back-bound c k bs less

    by : (x y : Bool) → (back_run c k bs == k) ≡ x → leb k (front_run c bs) ≡ x
        → (back_run c k bs + (if y && x then 1 else 0) == suc k) ≡ leb (suc k) (if y then 1 + front_run c bs else 0)
    by true true e h = eq-eqb _ (suc k) (omega (arith, eqb-true (back_run c k bs) k e)) ∙ sym (leb-more k (front_run c bs) ∙ h)
    by false true e h = ne_eqb _ (suc k) (λ q. omega (arith, q, bound)) ∙ sym (leb-more k (front_run c bs) ∙ h)
    by true false e h = ne_eqb _ (suc k) (λ q. omega (arith, q, bound)) ∙ sym (lt-leb (suc k) 0 (omega arith))
    by false false e h = ne_eqb _ (suc k) (λ q. omega (arith, q, bound)) ∙ sym (lt-leb (suc k) 0 (omega arith))

whole-back : (c k : ℕ) (bs : List ℕ) → k ≤ length bs → (back_run c k bs == k) ≡ leb k (front_run c bs)
whole-back c zero bs le = sym (le-leb 0 (front_run c bs) (omega arith))
whole-back c (suc k) [] le = absurd (omega (arith, le))
whole-back c (suc k) (b ∷ bs) le = let less : k ≤ length bs = omega (arith, le) in whole-more c k b bs less (whole-back c k bs less)

-- the run round the place after so many bytes
abbrev pub round_back : ℕ → ℕ → List ℕ → ℕ
round_back c zero bs = front_run c bs
round_back c (suc k) [] = 0
round_back c (suc k) (b ∷ bs) = round_back c k bs + added c k b bs

round-sides : (c k : ℕ) (bs : List ℕ) → k ≤ length bs → round_back c k bs ≡ front_run c (drop k bs) + back_run c k bs
round-sides c zero bs le = omega arith
round-sides c (suc k) [] le = absurd (omega (arith, le))
round-sides c (suc k) (b ∷ bs) le =
    let less : k ≤ length bs = omega (arith, le) in
    omega (arith, round-sides c k bs less, grow c k b bs less (whole-back c k bs less))

module _ {X : Type 0} (xs : List X) (place k : ℕ) (sum : place + k ≡ length xs) where
  turned : reverse xs ≡ reverse (drop place xs) ++ reverse (take place xs)
  turned = ap reverse (sym (take-append-drop place xs)) ∙ reverse-append (take place xs) (drop place xs)

  behind : length (reverse (drop place xs)) ≡ k
  behind = length-reverse (drop place xs) ∙ length-drop place xs ∙ omega (arith, sum)

  -- what is before a place, backwards
  pub drop-turned : drop k (reverse xs) ≡ reverse (take place xs)
  drop-turned = ap (drop k) turned ∙ drop_at (reverse (drop place xs)) (reverse (take place xs)) k behind

  -- what is after it
  take-turned : reverse (take k (reverse xs)) ≡ drop place xs
  take-turned =
      ap (λ x. reverse (take k x)) turned
      ∙ ap reverse (take_at (reverse (drop place xs)) (reverse (take place xs)) k behind)
      ∙ reverse-reverse (drop place xs)

-- the run round a place
pub round-back : (text : List ℕ) (place k c : ℕ) → place + k ≡ length text → round_back c k (reverse text) ≡ run_around c place text
round-back text place k c sum =
    round-sides c k (reverse text) (omega (arith, sum, length-reverse text))
    ∙ ap (λ x. front_run c x + back_run c k (reverse text)) (drop-turned text place k sum)
    ∙ ap (λ x. front_run c (reverse (take place text)) + front_run c x) (take-turned text place k sum)

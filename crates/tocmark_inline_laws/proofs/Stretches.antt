-- Stretches of lists.
use Rattle.std.proofs.Common.{◌≡◌, ℕ, zero, suc, ◌+◌, ◌-◌, ◌<◌, ◌≤◌, true, nat_le, List, [], ◌∷◌, ◌++◌, length, take, drop, refl, ap, sym, ◌∙◌, arith, length-take, min}
use Rattle.std.specs.Prelude.{slice_get, Some, None}
use Rattle.std.proofs.lemmas.Bool.Decides.{nat_tests}
use Rattle.std.proofs.lemmas.List.{take-append-drop}
use Rattle.std.proofs.Math.Seq.{drop-nil}
use Rattle.tocmark_read_scan.specs.Basic.{byte_at, bytes_between}
use Rattle.tocmark_inline_laws.specs.Said.{letters}

pub letters_append : (depth : ℕ) (xs ys : List ℕ) → letters depth (xs ++ ys) ≡ letters depth xs ++ letters depth ys
letters_append depth [] ys = refl
letters_append depth (x ∷ xs) ys = ap (λ ps. letters depth (x ∷ []) ++ ps) (letters_append depth xs ys)

-- between two places within the list
pub between_within : (xs : List ℕ) (a b : ℕ) → a ≤ b → b ≤ length xs → bytes_between xs a b ≡ take (b - a) (drop a xs)
between_within xs a b h k =
    let x : nat_le a b ≡ true = grind (arith, nat_tests) in
    let y : nat_le b (length xs) ≡ true = grind (arith, nat_tests) in
    rw (x, y) refl

take_one : (xs : List ℕ) (n : ℕ) → n < length xs → take (suc n) xs ≡ take n xs ++ byte_at xs n ∷ []
take_one [] n h = absurd (omega arith)
take_one (x ∷ xs) zero h = refl
take_one (x ∷ xs) (suc n) h = ap (λ ys. x ∷ ys) (take_one xs n (omega arith))

drop_at : (xs : List ℕ) (a n : ℕ) → byte_at (drop a xs) n ≡ byte_at xs (a + n)
drop_at xs zero n = ap (λ m. byte_at xs m) (let e : n ≡ 0 + n = omega arith in e)
drop_at [] (suc a) n = refl
drop_at (x ∷ xs) (suc a) n = drop_at xs a n ∙ ap (λ m. byte_at (x ∷ xs) m) (let e : suc (a + n) ≡ suc a + n = omega arith in e)

drop_drop : (xs : List ℕ) (a n : ℕ) → drop n (drop a xs) ≡ drop (a + n) xs
drop_drop xs zero n = let e : n ≡ 0 + n = omega arith in ap (λ m. drop m xs) e
drop_drop [] (suc a) n = drop-nil n ∙ sym (drop-nil (suc a + n))
drop_drop (x ∷ xs) (suc a) n = drop_drop xs a n ∙ ap (λ m. drop m (x ∷ xs)) (let e : suc (a + n) ≡ suc a + n = omega arith in e)

pub drop_length : (xs : List ℕ) (a : ℕ) → a ≤ length xs → length (drop a xs) + a ≡ length xs
drop_length xs zero h = omega arith
drop_length [] (suc a) h = absurd (omega arith)
drop_length (x ∷ xs) (suc a) h = let e = drop_length xs a (omega arith) in omega (arith, e)

-- one more byte
pub between_more : (xs : List ℕ) (a b : ℕ) → a ≤ b → b < length xs → bytes_between xs a (suc b) ≡ bytes_between xs a b ++ byte_at xs b ∷ []
between_more xs a b h k =
    between_within xs a (suc b) (omega arith) (omega arith)
    ∙ ap (λ n. take n (drop a xs)) (let e : suc b - a ≡ suc (b - a) = omega arith in e)
    ∙ take_one (drop a xs) (b - a) (let l : length (drop a xs) + a ≡ length xs = drop_length xs a (omega arith) in omega arith)
    ∙ ap (λ c. take (b - a) (drop a xs) ++ c ∷ []) (drop_at xs a (b - a) ∙ ap (λ m. byte_at xs m) (let e : a + (b - a) ≡ b = omega arith in e))
    ∙ ap (λ ys. ys ++ byte_at xs b ∷ []) (sym (between_within xs a b h (omega arith)))

pub between_none : (xs : List ℕ) (a : ℕ) → a ≤ length xs → bytes_between xs a a ≡ []
between_none xs a h = between_within xs a a (omega arith) h ∙ ap (λ n. take n (drop a xs)) (let e : a - a ≡ 0 = omega arith in e)

-- a list is cut at two places
pub cut : (xs : List ℕ) (a b : ℕ) → a ≤ b → b ≤ length xs → drop a xs ≡ bytes_between xs a b ++ drop b xs
cut xs a b h k =
    sym (take-append-drop (b - a) (drop a xs))
    ∙ ap (λ ys. ys ++ drop (b - a) (drop a xs)) (sym (between_within xs a b h k))
    ∙ ap (λ ys. bytes_between xs a b ++ ys) (drop_drop xs a (b - a) ∙ ap (λ n. drop n xs) (let e : a + (b - a) ≡ b = omega arith in e))

pub cut_length : (xs : List ℕ) (a b : ℕ) → a ≤ b → b ≤ length xs → length (bytes_between xs a b) ≡ b - a
cut_length xs a b h k =
    let l : length (drop a xs) + a ≡ length xs = drop_length xs a (omega arith) in
    ap length (between_within xs a b h k) ∙ length-take (b - a) (drop a xs) ∙ (let e : min (b - a) (length (drop a xs)) ≡ b - a = omega arith in e)

-- the first byte of what is left
pub first_left : (xs : List ℕ) (p : ℕ) → p < length xs → drop p xs ≡ byte_at xs p ∷ drop (suc p) xs
first_left [] p h = absurd (omega arith)
first_left (x ∷ xs) zero h = refl
first_left (x ∷ xs) (suc p) h = first_left xs p (omega arith)

pub first_cut : (xs : List ℕ) (p e : ℕ) → p < e → e ≤ length xs → drop p xs ≡ byte_at xs p ∷ (bytes_between xs (suc p) e ++ drop e xs)
first_cut xs p e h k = first_left xs p (omega arith) ∙ ap (λ ys. byte_at xs p ∷ ys) (cut xs (suc p) e (omega arith) k)

pub none : (xs : List ℕ) → length xs ≡ 0 → xs ≡ []
none [] h = refl
none (x ∷ xs) h = absurd (omega arith)

-- a byte that is there
pub got : (xs : List ℕ) (p : ℕ) → p < length xs → slice_get xs p ≡ Some (byte_at xs p)
got [] p h = absurd (omega arith)
got (x ∷ xs) zero h = refl
got (x ∷ xs) (suc p) h = got xs p (omega arith)

pub not_got : (xs : List ℕ) (p : ℕ) → length xs ≤ p → slice_get xs p ≡ None
not_got [] p h = refl
not_got (x ∷ xs) zero h = absurd (omega arith)
not_got (x ∷ xs) (suc p) h = not_got xs p (omega arith)

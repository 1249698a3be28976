-- Where lists are cut, and where texts may be cut: at bytes of ASCII.
use Rattle.std.proofs.Common.{◌≡◌, ℕ, zero, suc, ◌+◌, ◌-◌, ◌<◌, ◌≤◌, Bool, true, false, ◌&&◌, if◌then◌else◌, nat_le, List, [], ◌∷◌, ◌++◌, length, take, drop, slice_range, refl, ap, sym, ◌∙◌, subst, arith, length-append, length-drop}
use Rattle.std.specs.Prelude.{slice_get, slice_index, unwrap_or}
use Rattle.std.specs.List.{AllByRecursion}
use Rattle.std.specs.Str.{IsUtf8, IsCharBoundary}
use Rattle.std.proofs.lemmas.Bool.Decides.{nat_tests}
use Rattle.std.proofs.lemmas.Option.{get_or_from_slice_get}
use Rattle.std.proofs.lemmas.Str.{IsCharBoundary-before_ascii, IsCharBoundary-after_ascii}
use Rattle.tocmark_read_scan.specs.Basic.{byte_at, bytes_between}
use Rattle.tocmark_inline_laws.proofs.Stretches.{got, between_within}

-- bytes are between two places of the list
pub has_bytes : (text : List ℕ) (s e : ℕ) → 0 < length (bytes_between text s e) → (s ≤ e) × (e ≤ length text)
has_bytes text s e h = by (nat_le s e) (nat_le e (length text)) refl refl h
  where
    by : (x y : Bool) → nat_le s e ≡ x → nat_le e (length text) ≡ y → 0 < length (if x && y then slice_range text s e else []) → (s ≤ e) × (e ≤ length text)
    by true true p q k = (grind (arith, nat_tests, p), grind (arith, nat_tests, q))
    by true false p q k = absurd (omega arith)
    by false y p q k = absurd (omega arith)

pub byte_drop : (p : ℕ) (t : List ℕ) (x : ℕ) → byte_at (drop p t) x ≡ byte_at t (p + x)
byte_drop zero t x = let q : x ≡ 0 + x = omega arith in ap (byte_at t) q
byte_drop (suc p) [] x = refl
byte_drop (suc p) (c ∷ cs) x = byte_drop p cs x ∙ (let q : suc (p + x) ≡ suc p + x = omega arith in ap (byte_at (c ∷ cs)) q)

pub got_take : {A : Type 0} (n : ℕ) (xs : List A) (i : ℕ) → i < n → slice_get (take n xs) i ≡ slice_get xs i
got_take zero xs i l = absurd (omega arith)
got_take (suc n) [] i l = refl
got_take (suc n) (x ∷ xs) zero l = refl
got_take (suc n) (x ∷ xs) (suc i) l = got_take n xs i (omega arith)

pub byte_between : (t : List ℕ) (a b i : ℕ) → a ≤ b → b ≤ length t → i < b - a → byte_at (bytes_between t a b) i ≡ byte_at t (a + i)
byte_between t a b i h k l = ap (λ xs. byte_at xs i) (between_within t a b h k) ∙ ap (λ o. unwrap_or o 10) (got_take (b - a) (drop a t) i l) ∙ byte_drop a t i

pub got_front : {A : Type 0} (xs ys : List A) (i : ℕ) → i < length xs → slice_get (xs ++ ys) i ≡ slice_get xs i
got_front [] ys i l = absurd (omega arith)
got_front (x ∷ xs) ys zero l = refl
got_front (x ∷ xs) ys (suc i) l = got_front xs ys i (omega arith)

pub got_back : {A : Type 0} (xs ys : List A) (i : ℕ) → slice_get (xs ++ ys) (length xs + i) ≡ slice_get ys i
got_back [] ys i = let q : 0 + i ≡ i = omega arith in ap (slice_get ys) q
got_back (x ∷ xs) ys i = (let q : suc (length xs) + i ≡ suc (length xs + i) = omega arith in ap (slice_get (x ∷ (xs ++ ys))) q) ∙ got_back xs ys i

pub byte_front : (xs ys : List ℕ) (i : ℕ) → i < length xs → byte_at (xs ++ ys) i ≡ byte_at xs i
byte_front xs ys i l = ap (λ o. unwrap_or o 10) (got_front xs ys i l)

pub byte_back : (xs ys : List ℕ) (i : ℕ) → byte_at (xs ++ ys) (length xs + i) ≡ byte_at ys i
byte_back xs ys i = ap (λ o. unwrap_or o 10) (got_back xs ys i)

take_less : {A : Type 0} (n : ℕ) (xs ys : List A) → n ≤ length xs → take n (xs ++ ys) ≡ take n xs
take_less zero [] [] l = refl
take_less zero [] (y ∷ ys) l = refl
take_less zero (x ∷ xs) ys l = refl
take_less (suc n) [] ys l = absurd (omega arith)
take_less (suc n) (x ∷ xs) ys l = ap (λ zs. x ∷ zs) (take_less n xs ys (omega arith))

pub drop_front : {A : Type 0} (n : ℕ) (xs ys : List A) → n ≤ length xs → drop n (xs ++ ys) ≡ drop n xs ++ ys
drop_front zero [] ys l = nothing ys
  where
    nothing : {A : Type 0} (zs : List A) → drop 0 zs ≡ zs
    nothing [] = refl
    nothing (z ∷ zs) = refl
drop_front zero (x ∷ xs) ys l = refl
drop_front (suc n) [] ys l = absurd (omega arith)
drop_front (suc n) (x ∷ xs) ys l = drop_front n xs ys (omega arith)

drop_back : {A : Type 0} (xs ys : List A) (n : ℕ) → drop (length xs + n) (xs ++ ys) ≡ drop n ys
drop_back [] ys n = let q : 0 + n ≡ n = omega arith in ap (λ k. drop k ys) q
drop_back (x ∷ xs) ys n = (let q : suc (length xs) + n ≡ suc (length xs + n) = omega arith in ap (λ k. drop k (x ∷ (xs ++ ys))) q) ∙ drop_back xs ys n

pub between_front : (xs ys : List ℕ) (a b : ℕ) → a ≤ b → b ≤ length xs → bytes_between (xs ++ ys) a b ≡ bytes_between xs a b
between_front xs ys a b h k =
    let long : length (xs ++ ys) ≡ length xs + length ys = length-append xs ys in
    let left : length (drop a xs) ≡ length xs - a = length-drop a xs in
    between_within (xs ++ ys) a b h (omega (arith, long, k))
    ∙ ap (take (b - a)) (drop_front a xs ys (omega (arith, h, k)))
    ∙ take_less (b - a) (drop a xs) ys (omega (arith, left, h, k))
    ∙ sym (between_within xs a b h k)

pub between_back : (xs ys : List ℕ) (a b : ℕ) → a ≤ b → b ≤ length ys → bytes_between (xs ++ ys) (length xs + a) (length xs + b) ≡ bytes_between ys a b
between_back xs ys a b h k =
    let long : length (xs ++ ys) ≡ length xs + length ys = length-append xs ys in
    between_within (xs ++ ys) (length xs + a) (length xs + b) (omega (arith, h)) (omega (arith, long, k))
    ∙ ap (take (length xs + b - (length xs + a))) (drop_back xs ys a)
    ∙ ap (λ n. take n (drop a ys)) (let q : length xs + b - (length xs + a) ≡ b - a = omega arith in q)
    ∙ sym (between_within ys a b h k)

pub all_drop : {A : Type 0} (Q : A → Type 0) (n : ℕ) (xs : List A) → AllByRecursion Q xs → AllByRecursion Q (drop n xs)
all_drop Q zero [] h = tt
all_drop Q zero (x ∷ xs) h = h
all_drop Q (suc n) [] h = tt
all_drop Q (suc n) (x ∷ xs) h = all_drop Q n xs (h.1)

-- a text may be cut before and after a byte of ASCII

index_is : (t : List ℕ) (i : ℕ) → i < length t → slice_index t i ≡ byte_at t i
index_is t i l = get_or_from_slice_get t i (byte_at t i) 0 (got t i l)

pub before_low : (t : List ℕ) (i : ℕ) → i < length t → byte_at t i < 128 → IsCharBoundary t i
before_low t i l h = IsCharBoundary-before_ascii t i l (let q : slice_index t i ≡ byte_at t i = index_is t i l in let w : slice_index t i < 128 = omega (arith, q, h) in w)

pub after_low : (t : List ℕ) (i : ℕ) → IsUtf8 t → i < length t → byte_at t i < 128 → IsCharBoundary t (suc i)
after_low t i u l h = subst (IsCharBoundary t) (let e : i + 1 ≡ suc i = omega arith in e) (IsCharBoundary-after_ascii t i u l (let q : slice_index t i ≡ byte_at t i = index_is t i l in let w : slice_index t i < 128 = omega (arith, q, h) in w))

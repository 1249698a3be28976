-- Where the first bracket is that no backslash escapes, token by token: there a label ends.
use Rattle.std.proofs.Common.{◌≡◌, ℕ, zero, suc, ◌+◌, ◌-◌, ◌^◌, ◌<◌, ◌≤◌, Bool, true, false, not, ◌==◌, ◌&&◌, nat_lt, if◌then◌else◌, ◌⊎◌, inl, inr, List, [], length, drop, refl, ap, sym, subst, ◌∙◌, arith}
use Rattle.std.proofs.lemmas.Bool.Decides.{nat_tests}
use Rattle.std.specs.Char.{is_ascii_punctuation}
use Rattle.tocmark_read_scan.specs.Basic.{plus, byte_at}
use Rattle.tocmark_read_scan.proofs.PlainTests.{differs}
use Rattle.tocmark_read_tokens.specs.Word.{stops, ends_enclosed, escapes, enclosed_end}
use Rattle.tocmark_read_tokens.specs.declared.word.Enclosure.TheVariants.{Bracketed}
use Rattle.tocmark_inline_laws.proofs.Stretches.{drop_length, first_left, none}

-- the first such bracket from a place on, after an escaping backslash or not
abbrev pub bracket_from : List ℕ → Bool → ℕ → ℕ
bracket_from bytes escaped p = enclosed_end Bracketed escaped p (drop p bytes)

-- between two places is such a bracket, or the first one is the same from both
abbrev pub Passes : List ℕ → ℕ → ℕ → Type 0
Passes bytes p end = (bracket_from bytes false p < end) ⊎ (bracket_from bytes false p ≡ bracket_from bytes false end)

-- two stretches, one after the other
pub passes_on : (bytes : List ℕ) (p q end : ℕ) → q ≤ end → Passes bytes p q → Passes bytes q end → Passes bytes p end
passes_on bytes p q end l (inl h) k = inl (omega arith)
passes_on bytes p q end l (inr h) (inl k) = inl (subst (λ n. n < end) (sym h) k)
passes_on bytes p q end l (inr h) (inr k) = inr (h ∙ k)

bracket_step : (bytes : List ℕ) (x : Bool) (p : ℕ) → p < length bytes → length bytes + 1 < 2 ^ 64 → bracket_from bytes x p ≡ (if ends_enclosed Bracketed x (byte_at bytes p) then p else bracket_from bytes (escapes x (byte_at bytes p)) (suc p))
bracket_step bytes x p inner fits =
    ap (enclosed_end Bracketed x p) (first_left bytes p inner)
    ∙ ap (λ (q : ℕ). if ends_enclosed Bracketed x (byte_at bytes p) then p else enclosed_end Bracketed (escapes x (byte_at bytes p)) q (drop (suc p) bytes)) (let k : plus p 1 ≡ suc p = omega arith in k)

stops_here : (bytes : List ℕ) (x : Bool) (p : ℕ) → p < length bytes → length bytes + 1 < 2 ^ 64 → ends_enclosed Bracketed x (byte_at bytes p) ≡ true → bracket_from bytes x p ≡ p
stops_here bytes x p inner fits e = bracket_step bytes x p inner fits ∙ ap (λ (z : Bool). if z then p else bracket_from bytes (escapes x (byte_at bytes p)) (suc p)) e

goes_past : (bytes : List ℕ) (x y : Bool) (p : ℕ) → p < length bytes → length bytes + 1 < 2 ^ 64 → ends_enclosed Bracketed x (byte_at bytes p) ≡ false → escapes x (byte_at bytes p) ≡ y → bracket_from bytes x p ≡ bracket_from bytes y (suc p)
goes_past bytes x y p inner fits e f =
    bracket_step bytes x p inner fits
    ∙ ap (λ (z : Bool). if z then p else bracket_from bytes (escapes x (byte_at bytes p)) (suc p)) e
    ∙ ap (λ (z : Bool). bracket_from bytes z (suc p)) f

and_no : (a : Bool) → (a && false) ≡ false
and_no true = refl
and_no false = refl

calm : (x : Bool) (b : ℕ) → (b == 92) ≡ false → escapes x b ≡ false
unfolding escapes
calm x b h = ap (λ (z : Bool). not x && z) h ∙ and_no (not x)

-- a byte that is no backslash ends a stretch
walk : (bytes : List ℕ) → length bytes + 1 < 2 ^ 64 → (n : ℕ) (x : Bool) (p : ℕ) → p + suc n ≤ length bytes → (byte_at bytes (p + n) == 92) ≡ false → (bracket_from bytes x p < p + suc n) ⊎ (bracket_from bytes x p ≡ bracket_from bytes false (p + suc n))
walk bytes fits zero x p l h = by (ends_enclosed Bracketed x (byte_at bytes p)) refl
  where
    last : (byte_at bytes p == 92) ≡ false
    last = ap (λ q. byte_at bytes q == 92) (let k : p ≡ p + 0 = omega arith in k) ∙ h

    by : (z : Bool) → ends_enclosed Bracketed x (byte_at bytes p) ≡ z → (bracket_from bytes x p < p + 1) ⊎ (bracket_from bytes x p ≡ bracket_from bytes false (p + 1))
    by true e = inl (subst (λ m. m < p + 1) (sym (stops_here bytes x p (omega arith) fits e)) (omega arith))
    by false e = inr (goes_past bytes x false p (omega arith) fits e (calm x (byte_at bytes p) last) ∙ ap (bracket_from bytes false) (let k : suc p ≡ p + 1 = omega arith in k))
walk bytes fits (suc n) x p l h = by (walk bytes fits n (escapes x (byte_at bytes p)) (suc p) (omega arith) (ap (λ q. byte_at bytes q == 92) (let k : suc p + n ≡ p + suc n = omega arith in k) ∙ h)) (ends_enclosed Bracketed x (byte_at bytes p)) refl
  where
    far : suc p + suc n ≡ p + suc (suc n)
    far = omega arith

    by : (bracket_from bytes (escapes x (byte_at bytes p)) (suc p) < suc p + suc n) ⊎ (bracket_from bytes (escapes x (byte_at bytes p)) (suc p) ≡ bracket_from bytes false (suc p + suc n)) → (z : Bool) → ends_enclosed Bracketed x (byte_at bytes p) ≡ z → (bracket_from bytes x p < p + suc (suc n)) ⊎ (bracket_from bytes x p ≡ bracket_from bytes false (p + suc (suc n)))
    by later true e = inl (subst (λ m. m < p + suc (suc n)) (sym (stops_here bytes x p (omega arith) fits e)) (omega arith))
    by (inl k) false e = inl (subst (λ m. m < p + suc (suc n)) (sym (goes_past bytes x (escapes x (byte_at bytes p)) p (omega arith) fits e refl)) (omega (arith, k)))
    by (inr k) false e = inr (goes_past bytes x (escapes x (byte_at bytes p)) p (omega arith) fits e refl ∙ k ∙ ap (bracket_from bytes false) far)

pub passes_by : (bytes : List ℕ) (p end at : ℕ) → length bytes + 1 < 2 ^ 64 → end ≡ suc at → p ≤ at → at < length bytes → (byte_at bytes at == 92) ≡ false → Passes bytes p end
passes_by bytes p end at fits is before inner h =
    subst (λ q. (bracket_from bytes false p < q) ⊎ (bracket_from bytes false p ≡ bracket_from bytes false q)) (let k : p + suc (at - p) ≡ end = omega arith in k)
    (walk bytes fits (at - p) false p (omega arith) (ap (λ q. byte_at bytes q == 92) (let k : p + (at - p) ≡ at = omega arith in k) ∙ h))

-- a backslash
backslash_goes_on : (bytes : List ℕ) (p : ℕ) → p < length bytes → length bytes + 1 < 2 ^ 64 → byte_at bytes p ≡ 92 → bracket_from bytes false p ≡ bracket_from bytes true (suc p)
unfolding ends_enclosed stops escapes
backslash_goes_on bytes p inner fits is = goes_past bytes false true p inner fits (ap (ends_enclosed Bracketed false) is) (ap (escapes false) is)

ends_escaped : (c : ℕ) → is_ascii_punctuation c ≡ true → ends_enclosed Bracketed true c ≡ false
unfolding ends_enclosed
ends_escaped c h = ap (λ (z : Bool). stops Bracketed c && not z) h ∙ and_no (stops Bracketed c)

escapes_none : (c : ℕ) → escapes true c ≡ false
unfolding escapes
escapes_none c = refl

pub escape_passes : (bytes : List ℕ) (p : ℕ) → p + 2 ≤ length bytes → length bytes + 1 < 2 ^ 64 → byte_at bytes p ≡ 92 → is_ascii_punctuation (byte_at bytes (p + 1)) ≡ true → Passes bytes p (p + 2)
escape_passes bytes p inner fits is punct =
    inr (backslash_goes_on bytes p (omega arith) fits is
    ∙ goes_past bytes true false (suc p) (omega arith) fits (ends_escaped (byte_at bytes (suc p)) (ap (λ q. is_ascii_punctuation (byte_at bytes q)) (let k : suc p ≡ p + 1 = omega arith in k) ∙ punct)) (escapes_none (byte_at bytes (suc p)))
    ∙ ap (bracket_from bytes false) (let k : suc (suc p) ≡ p + 2 = omega arith in k))

stops_not : (x : Bool) (c : ℕ) → is_ascii_punctuation c ≡ false → ends_enclosed Bracketed x c ≡ false
unfolding ends_enclosed stops
stops_not x c h =
    let first : (c == 91) ≡ false = differs is_ascii_punctuation c 91 refl h in
    let second : (c == 93) ≡ false = differs is_ascii_punctuation c 93 refl h in
    rw (first, second) refl

pub lone_passes : (bytes : List ℕ) (p : ℕ) → p < length bytes → length bytes + 1 < 2 ^ 64 → byte_at bytes p ≡ 92 → is_ascii_punctuation (byte_at bytes (p + 1)) ≡ false → Passes bytes p (p + 1)
lone_passes bytes p inner fits is plain = inr (backslash_goes_on bytes p inner fits is ∙ by (nat_lt (suc p) (length bytes)) refl ∙ ap (bracket_from bytes false) one)
  where
    one : suc p ≡ p + 1
    one = omega arith

    c : ℕ
    c = byte_at bytes (suc p)

    plainly : is_ascii_punctuation (byte_at bytes (suc p)) ≡ false
    plainly = ap (λ q. is_ascii_punctuation (byte_at bytes q)) one ∙ plain

    by : (z : Bool) → nat_lt (suc p) (length bytes) ≡ z → bracket_from bytes true (suc p) ≡ bracket_from bytes false (suc p)
    by true e =
        let l : suc p < length bytes = grind (arith, nat_tests, e) in
        goes_past bytes true false (suc p) l fits (stops_not true c plainly) (escapes_none c)
        ∙ sym (goes_past bytes false false (suc p) l fits (stops_not false c plainly) (calm false c (differs is_ascii_punctuation c 92 refl plainly)))
    by false e =
        let l : length bytes ≤ suc p = grind (arith, nat_tests, e) in
        let empty : drop (suc p) bytes ≡ [] = none (drop (suc p) bytes) (let k : length (drop (suc p) bytes) + suc p ≡ length bytes = drop_length bytes (suc p) (omega arith) in omega (arith, k)) in
        ap (enclosed_end Bracketed true (suc p)) empty ∙ sym (ap (enclosed_end Bracketed false (suc p)) empty)

-- an opening bracket
pub bracket_here : (bytes : List ℕ) (p : ℕ) → p < length bytes → length bytes + 1 < 2 ^ 64 → byte_at bytes p ≡ 91 → bracket_from bytes false p ≡ p
unfolding ends_enclosed stops
bracket_here bytes p inner fits is = stops_here bytes false p inner fits (ap (ends_enclosed Bracketed false) is)

-- also after an exclamation mark
pub before_bracket : (bytes : List ℕ) (p : ℕ) → p + 2 ≤ length bytes → length bytes + 1 < 2 ^ 64 → byte_at bytes p ≡ 33 → byte_at bytes (p + 1) ≡ 91 → bracket_from bytes false p ≡ p + 1
unfolding ends_enclosed stops escapes
before_bracket bytes p inner fits is next =
    goes_past bytes false false p (omega arith) fits (ap (ends_enclosed Bracketed false) is) (ap (escapes false) is)
    ∙ ap (bracket_from bytes false) (let k : suc p ≡ p + 1 = omega arith in k)
    ∙ bracket_here bytes (p + 1) (omega arith) fits next

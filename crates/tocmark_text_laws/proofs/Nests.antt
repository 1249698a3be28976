-- A walk over the roles of a leaf's bytes, in which containers nest: each ends where its beginning says, and what is in it ends before.
use Rattle.std.proofs.Common.{◌≡◌, ℕ, zero, suc, ◌+◌, ◌-◌, ◌<◌, ◌≤◌, ◌⊎◌, inl, inr, Bool, true, false, List, [], ◌∷◌, ◌++◌, length, drop, refl, sym, ◌∙◌, subst, arith}
use Rattle.std.specs.Prelude.{slice_get, slice_set, Some}
use Rattle.tocmark_read_spans.specs.declared.role.Role.{Role}
use Rattle.tocmark_read_spans.specs.declared.role.Role.TheVariants.{Plain, Fresh, Hidden, Open, Close, Single}
use Rattle.tocmark_read_spans.specs.declared.role.Leaf.{Leaf}
use Rattle.tocmark_read_spans.specs.declared.role.Span.{Span}
use Rattle.tocmark_text_laws.proofs.Walks.{is_neutral, skips, Read, Calm, Neutral, neutral_skips}

-- the ends of the containers that are open after a byte, the innermost first, where these were open before it
abbrev pub inner : Role → List ℕ → List ℕ
inner Plain es = es
inner Fresh es = es
inner Hidden es = es
inner (Open span end) es = end ∷ es
inner (Close end) es = drop 1 es
inner (Single leaf end) es = es

-- a place isn't after the end of the innermost container
abbrev pub Under : ℕ → List ℕ → Type 0
Under e [] = Unit
Under e (x ∷ es) = e ≤ x

-- the innermost container ends at a place
abbrev pub Tops : ℕ → List ℕ → Type 0
Tops e [] = ⊥
Tops e (x ∷ es) = e ≡ x

-- what a byte may be before a place, where these containers are open
abbrev pub Fits : Role → ℕ → List ℕ → Type 0
Fits Plain q es = Unit
Fits Fresh q es = Unit
Fits Hidden q es = Unit
Fits (Open span end) q es = Under end es
Fits (Close end) q es = (q ≤ end) × Tops end es
Fits (Single leaf end) q es = Under end es

-- so it is with each byte, from a place on, where so many are skipped first and these containers are open; at the end none is
abbrev pub Nested : ℕ → ℕ → List ℕ → List Role → Type 0
Nested p k es [] = es ≡ []
Nested p zero es (x ∷ xs) = Fits x (suc p) es × Nested (suc p) (skips x (suc p)) (inner x es) xs
Nested p (suc k) es (x ∷ xs) = Nested (suc p) k es xs

-- no container is open before a byte
abbrev pub Level : ℕ → ℕ → List ℕ → List Role → ℕ → Type 0
Level p k es [] i = es ≡ []
Level p k es (x ∷ xs) zero = es ≡ []
Level p zero es (x ∷ xs) (suc i) = Level (suc p) (skips x (suc p)) (inner x es) xs i
Level p (suc k) es (x ∷ xs) (suc i) = Level (suc p) k es xs i

-- a byte at which no container begins or ends
abbrev pub is_flat : Role → Bool
is_flat Plain = true
is_flat Fresh = true
is_flat Hidden = true
is_flat (Open span end) = false
is_flat (Close end) = false
is_flat (Single leaf end) = true

pub neutral_flat : (x : Role) → is_neutral x ≡ true → is_flat x ≡ true
neutral_flat Plain e = refl
neutral_flat Fresh e = refl
neutral_flat Hidden e = refl
neutral_flat (Open span end) e = absurd cc
neutral_flat (Close end) e = absurd cc
neutral_flat (Single leaf end) e = refl

flat_inner : (x : Role) (es : List ℕ) → is_flat x ≡ true → inner x es ≡ es
flat_inner Plain es e = refl
flat_inner Fresh es e = refl
flat_inner Hidden es e = refl
flat_inner (Open span end) es e = absurd cc
flat_inner (Close end) es e = absurd cc
flat_inner (Single leaf end) es e = refl

neutral_inner : (x : Role) (es : List ℕ) → is_neutral x ≡ true → inner x es ≡ es
neutral_inner x es e = flat_inner x es (neutral_flat x e)

neutral_fits : (x : Role) (q : ℕ) (es : List ℕ) → is_neutral x ≡ true → Fits x q es
neutral_fits Plain q es e = tt
neutral_fits Fresh q es e = tt
neutral_fits Hidden q es e = tt
neutral_fits (Open span end) q es e = absurd cc
neutral_fits (Close end) q es e = absurd cc
neutral_fits (Single leaf end) q es e = absurd cc

-- after a neutral byte
past_neutral : (p : ℕ) (es : List ℕ) (x : Role) (xs : List Role) → is_neutral x ≡ true → Nested (suc p) (skips x (suc p)) (inner x es) xs → Nested (suc p) 0 es xs
past_neutral p es x xs e h = subst (λ n. Nested (suc p) 0 n xs) (neutral_inner x es e) (subst (λ k. Nested (suc p) k (inner x es) xs) (neutral_skips x (suc p) e) h)

with_neutral : (p : ℕ) (es : List ℕ) (x : Role) (xs : List Role) → is_neutral x ≡ true → Nested (suc p) 0 es xs → Nested p 0 es (x ∷ xs)
with_neutral p es x xs e h = (neutral_fits x (suc p) es e, subst (λ k. Nested (suc p) k (inner x es) xs) (sym (neutral_skips x (suc p) e)) (subst (λ n. Nested (suc p) 0 n xs) (sym (neutral_inner x es e)) h))

level_past : (p : ℕ) (es : List ℕ) (x : Role) (xs : List Role) (i : ℕ) → is_neutral x ≡ true → Level (suc p) (skips x (suc p)) (inner x es) xs i → Level (suc p) 0 es xs i
level_past p es x xs i e h = subst (λ n. Level (suc p) 0 n xs i) (neutral_inner x es e) (subst (λ k. Level (suc p) k (inner x es) xs i) (neutral_skips x (suc p) e) h)

level_with : (p : ℕ) (es : List ℕ) (x : Role) (xs : List Role) (i : ℕ) → is_neutral x ≡ true → Level (suc p) 0 es xs i → Level (suc p) (skips x (suc p)) (inner x es) xs i
level_with p es x xs i e h = subst (λ k. Level (suc p) k (inner x es) xs i) (sym (neutral_skips x (suc p) e)) (subst (λ n. Level (suc p) 0 n xs i) (sym (neutral_inner x es e)) h)

calm_rest : (n : ℕ) (x : Role) (xs : List Role) → Calm (suc n) (x ∷ xs) → Calm n xs
calm_rest n x xs c j y l e = c (suc j) y (omega arith) e

calm_next : (n : ℕ) (x : Role) (xs : List Role) → Calm n (x ∷ xs) → Calm n xs
calm_next n x xs c j y l e = c (suc j) y (omega arith) e

-- neutral bytes after some that are skipped
pub calm_nested : (p k : ℕ) (xs : List Role) → Calm k xs → Nested p k [] xs
calm_nested p k [] c = refl
calm_nested p zero (x ∷ xs) c = with_neutral p [] x xs (c 0 x (omega arith) refl) (calm_nested (suc p) 0 xs (calm_next 0 x xs c))
calm_nested p (suc k) (x ∷ xs) c = calm_nested (suc p) k xs (calm_rest k x xs c)

pub calm_level : (p k : ℕ) (xs : List Role) (j : ℕ) → Calm k xs → Level p k [] xs j
calm_level p k [] j c = refl
calm_level p k (x ∷ xs) zero c = refl
calm_level p zero (x ∷ xs) (suc j) c = level_with p [] x xs j (c 0 x (omega arith) refl) (calm_level (suc p) 0 xs j (calm_next 0 x xs c))
calm_level p (suc k) (x ∷ xs) (suc j) c = calm_level (suc p) k xs j (calm_rest k x xs c)

-- a neutral byte in place of another one
pub neutral_nested : (p k : ℕ) (es : List ℕ) (xs : List Role) (i : ℕ) (y : Role) → Neutral xs i → is_neutral y ≡ true → Nested p k es xs → Nested p k es (slice_set xs i y)
neutral_nested p k es [] i y n e h = h
neutral_nested p zero es (x ∷ xs) zero y n e h = with_neutral p es y xs e (past_neutral p es x xs (n x refl) (h.1))
neutral_nested p (suc k) es (x ∷ xs) zero y n e h = h
neutral_nested p zero es (x ∷ xs) (suc i) y n e h = (h.0, neutral_nested (suc p) (skips x (suc p)) (inner x es) xs i y n e (h.1))
neutral_nested p (suc k) es (x ∷ xs) (suc i) y n e h = neutral_nested (suc p) k es xs i y n e h

pub neutral_level : (p k : ℕ) (es : List ℕ) (xs : List Role) (i : ℕ) (y : Role) (j : ℕ) → Neutral xs i → is_neutral y ≡ true → Level p k es xs j → Level p k es (slice_set xs i y) j
neutral_level p k es [] i y j n e h = h
neutral_level p k es (x ∷ xs) zero y zero n e h = h
neutral_level p zero es (x ∷ xs) zero y (suc j) n e h = level_with p es y xs j e (level_past p es x xs j (n x refl) h)
neutral_level p (suc k) es (x ∷ xs) zero y (suc j) n e h = h
neutral_level p k es (x ∷ xs) (suc i) y zero n e h = h
neutral_level p zero es (x ∷ xs) (suc i) y (suc j) n e h = neutral_level (suc p) (skips x (suc p)) (inner x es) xs i y j n e h
neutral_level p (suc k) es (x ∷ xs) (suc i) y (suc j) n e h = neutral_level (suc p) k es xs i y j n e h

-- a byte before which nothing changes
pub before_level : (p k : ℕ) (es : List ℕ) (xs : List Role) (i : ℕ) (y : Role) (j : ℕ) → j ≤ i → Level p k es xs j → Level p k es (slice_set xs i y) j
before_level p k es [] i y j l h = h
before_level p k es (x ∷ xs) zero y zero l h = h
before_level p k es (x ∷ xs) zero y (suc j) l h = absurd (omega arith)
before_level p k es (x ∷ xs) (suc i) y zero l h = h
before_level p zero es (x ∷ xs) (suc i) y (suc j) l h = before_level (suc p) (skips x (suc p)) (inner x es) xs i y j (omega arith) h
before_level p (suc k) es (x ∷ xs) (suc i) y (suc j) l h = before_level (suc p) k es xs i y j (omega arith) h

-- from a byte before which no container is open, back over bytes at which none begins or ends
pub level_back : (p k : ℕ) (es : List ℕ) (xs : List Role) (i j : ℕ) → i ≤ j → ((n : ℕ) (x : Role) → i ≤ n → n < j → slice_get xs n ≡ Some x → is_flat x ≡ true) → Level p k es xs j → Level p k es xs i
level_back p k es [] i j l f h = h
level_back p k es (x ∷ xs) (suc i) zero l f h = absurd (omega arith)
level_back p k es (x ∷ xs) zero zero l f h = h
level_back p zero es (x ∷ xs) zero (suc j) l f h = sym (flat_inner x es (f 0 x (omega arith) (omega arith) refl)) ∙ front (suc p) (skips x (suc p)) (inner x es) xs (level_back (suc p) (skips x (suc p)) (inner x es) xs zero j (omega arith) (λ n y m o e. f (suc n) y (omega arith) (omega arith) e) h)
  where
    front : (p k : ℕ) (es : List ℕ) (xs : List Role) → Level p k es xs zero → es ≡ []
    front p k es [] h = h
    front p k es (x ∷ xs) h = h
level_back p (suc k) es (x ∷ xs) zero (suc j) l f h = front (suc p) k es xs (level_back (suc p) k es xs zero j (omega arith) (λ n y m o e. f (suc n) y (omega arith) (omega arith) e) h)
  where
    front : (p k : ℕ) (es : List ℕ) (xs : List Role) → Level p k es xs zero → es ≡ []
    front p k es [] h = h
    front p k es (x ∷ xs) h = h
level_back p zero es (x ∷ xs) (suc i) (suc j) l f h = level_back (suc p) (skips x (suc p)) (inner x es) xs i j (omega arith) (λ n y m o e. f (suc n) y (omega arith) (omega arith) e) h
level_back p (suc k) es (x ∷ xs) (suc i) (suc j) l f h = level_back (suc p) k es xs i j (omega arith) (λ n y m o e. f (suc n) y (omega arith) (omega arith) e) h

-- a mark without children where no container is open, after which all bytes that it doesn't skip are neutral
pub single_nested : (p k : ℕ) (es : List ℕ) (xs : List Role) (i : ℕ) (leaf : Leaf) (e : ℕ) → Calm (suc i + (e - suc (p + i))) xs → Level p k es xs i → Nested p k es xs → Nested p k es (slice_set xs i (Single leaf e))
single_nested p k es [] i leaf e c l h = h
single_nested p zero es (x ∷ xs) zero leaf e c l h = subst (λ n. Nested p 0 n (Single leaf e ∷ xs)) (sym l) (tt, calm_nested (suc p) (e - suc p) xs (λ j y l q. c (suc j) y (omega arith) q))
single_nested p (suc k) es (x ∷ xs) zero leaf e c l h = h
single_nested p zero es (x ∷ xs) (suc i) leaf e c l h = (h.0, single_nested (suc p) (skips x (suc p)) (inner x es) xs i leaf e (λ j y l q. c (suc j) y (omega arith) q) l (h.1))
single_nested p (suc k) es (x ∷ xs) (suc i) leaf e c l h = single_nested (suc p) k es xs i leaf e (λ j y l q. c (suc j) y (omega arith) q) l h

pub single_level : (p k : ℕ) (es : List ℕ) (xs : List Role) (i : ℕ) (leaf : Leaf) (e j : ℕ) → Calm (suc i + (e - suc (p + i))) xs → Level p k es xs i → Level p k es xs j → Level p k es (slice_set xs i (Single leaf e)) j
single_level p k es [] i leaf e j c l h = h
single_level p k es (x ∷ xs) zero leaf e zero c l h = h
single_level p zero es (x ∷ xs) zero leaf e (suc j) c l h = subst (λ n. Level (suc p) (e - suc p) n xs j) (sym l) (calm_level (suc p) (e - suc p) xs j (λ j y l q. c (suc j) y (omega arith) q))
single_level p (suc k) es (x ∷ xs) zero leaf e (suc j) c l h = h
single_level p k es (x ∷ xs) (suc i) leaf e zero c l h = h
single_level p zero es (x ∷ xs) (suc i) leaf e (suc j) c l h = single_level (suc p) (skips x (suc p)) (inner x es) xs i leaf e j (λ j y l q. c (suc j) y (omega arith) q) l h
single_level p (suc k) es (x ∷ xs) (suc i) leaf e (suc j) c l h = single_level (suc p) k es xs i leaf e j (λ j y l q. c (suc j) y (omega arith) q) l h

-- all places are before another one, or there
abbrev Limits : ℕ → List ℕ → Type 0
Limits n [] = Unit
Limits n (e ∷ es) = (e ≤ n) × Limits n es

-- where a byte is read and no container is open, the marks before it and the containers that were open end before it
limits : (p k : ℕ) (es : List ℕ) (xs : List Role) (i : ℕ) → i < length xs → Read p k xs i → Level p k es xs i → Nested p k es xs → (k ≤ i) × Limits (p + i) es
limits p k es [] i b r l h = absurd (omega arith)
limits p k es (x ∷ xs) zero b r l h = (omega arith, subst (Limits (p + 0)) (sym l) tt)
limits p (suc k) es (x ∷ xs) (suc i) b r l h = let w : (k ≤ i) × Limits (suc p + i) es = limits (suc p) k es xs i (omega arith) r l h in let q : suc p + i ≡ p + suc i = omega arith in (let z : k ≤ i = w.0 in omega arith, subst (λ n. Limits n es) q (w.1))
limits p zero es (x ∷ xs) (suc i) b r l (f, h) = (omega arith, by x f (limits (suc p) (skips x (suc p)) (inner x es) xs i (omega arith) r l h))
  where
    q : suc p + i ≡ p + suc i
    q = omega arith

    same : Limits (suc p + i) es → Limits (p + suc i) es
    same w = subst (λ n. Limits n es) q w

    by : (x : Role) → Fits x (suc p) es → (skips x (suc p) ≤ i) × Limits (suc p + i) (inner x es) → Limits (p + suc i) es
    by Plain f w = same (w.1)
    by Fresh f w = same (w.1)
    by Hidden f w = same (w.1)
    by (Open span end) f w = same ((w.1).1)
    by (Close end) f w = tops es f (w.0) (w.1)
      where
        tops : (us : List ℕ) → (suc p ≤ end) × Tops end us → end - suc p ≤ i → Limits (suc p + i) (drop 1 us) → Limits (p + suc i) us
        tops [] g m v = tt
        tops (u ∷ us) (g, o) m v = (omega arith, subst (λ n. Limits n us) q v)
    by (Single leaf end) f w = same (w.1)

-- where one more container is open, the outermost one
limit_under : (n e end : ℕ) (es : List ℕ) → end ≤ n → n < e → Under end es → Under end (es ++ e ∷ [])
limit_under n e end [] a b u = omega arith
limit_under n e end (x ∷ es) a b u = u

outer_fits : (p i e : ℕ) (x : Role) (es : List ℕ) → suc p + i < e → (skips x (suc p) ≤ i) × Limits (suc p + i) (inner x es) → Fits x (suc p) es → Fits x (suc p) (es ++ e ∷ [])
outer_fits p i e Plain es a w f = tt
outer_fits p i e Fresh es a w f = tt
outer_fits p i e Hidden es a w f = tt
outer_fits p i e (Open span end) es a w f = limit_under (suc p + i) e end es ((w.1).0) a f
outer_fits p i e (Close end) es a w f = (f.0, by es (f.1))
  where
    by : (us : List ℕ) → Tops end us → Tops end (us ++ e ∷ [])
    by [] t = absurd t
    by (u ∷ us) t = t
outer_fits p i e (Single leaf end) es a w f = limit_under (suc p + i) e end es (let z : end - suc p ≤ i = w.0 in omega arith) a f

outer_inner : (p e : ℕ) (x : Role) (es : List ℕ) → Fits x (suc p) es → inner x (es ++ e ∷ []) ≡ inner x es ++ e ∷ []
outer_inner p e Plain es f = refl
outer_inner p e Fresh es f = refl
outer_inner p e Hidden es f = refl
outer_inner p e (Open span end) es f = refl
outer_inner p e (Close end) es f = by es (f.1)
  where
    by : (us : List ℕ) → Tops end us → drop 1 (us ++ e ∷ []) ≡ drop 1 us ++ e ∷ []
    by [] t = absurd t
    by (u ∷ us) t = refl
outer_inner p e (Single leaf end) es f = refl

-- after the byte that ends a container, either nothing is skipped or all bytes are neutral
abbrev pub Onward : ℕ → ℕ → ℕ → List Role → Type 0
Onward p i e xs = (e ≤ suc (p + i)) ⊎ Calm (suc i) xs

onward_next : (p i e : ℕ) (x : Role) (xs : List Role) → Onward p (suc i) e (x ∷ xs) → Onward (suc p) i e xs
onward_next p i e x xs (inl l) = inl (omega arith)
onward_next p i e x xs (inr c) = inr (calm_rest (suc i) x xs c)

-- one byte ends the outermost container
closing_nested : (p k : ℕ) (es : List ℕ) (xs : List Role) (i e : ℕ) → i < length xs → p + i < e → Read p k xs i → Level p k es xs i → Neutral xs i → Onward p i e xs → Nested p k es xs → Nested p k (es ++ e ∷ []) (slice_set xs i (Close e))
closing_nested p k es [] i e b a r l n c h = absurd (omega arith)
closing_nested p zero es (x ∷ xs) zero e b a r l n c h = subst (λ us. Nested p 0 (us ++ e ∷ []) (Close e ∷ xs)) (sym l) ((omega arith, refl), by c)
  where
    rest : Nested (suc p) 0 [] xs
    rest = subst (λ us. Nested (suc p) 0 us xs) l (past_neutral p es x xs (n x refl) (h.1))

    by : Onward p 0 e (x ∷ xs) → Nested (suc p) (e - suc p) [] xs
    by (inl m) = let z : 0 ≡ e - suc p = omega arith in subst (λ m. Nested (suc p) m [] xs) z rest
    by (inr w) = calm_nested (suc p) (e - suc p) xs (λ j y l q. w (suc j) y (omega arith) q)
closing_nested p (suc k) es (x ∷ xs) zero e b a r l n c h = absurd (omega arith)
closing_nested p zero es (x ∷ xs) (suc i) e b a r l n c (f, h) = (
  outer_fits p i e x es (omega arith) (limits (suc p) (skips x (suc p)) (inner x es) xs i (omega arith) r l h) f,
  subst (λ us. Nested (suc p) (skips x (suc p)) us (slice_set xs i (Close e))) (sym (outer_inner p e x es f)) (closing_nested (suc p) (skips x (suc p)) (inner x es) xs i e (omega arith) (omega arith) r l n (onward_next p i e x xs c) h),
)
closing_nested p (suc k) es (x ∷ xs) (suc i) e b a r l n c h = closing_nested (suc p) k es xs i e (omega arith) (omega arith) r l n (onward_next p i e x xs c) h

closing_level : (p k : ℕ) (es : List ℕ) (xs : List Role) (i e j : ℕ) → i < length xs → i < j → Read p k xs i → Level p k es xs i → Neutral xs i → Onward p i e xs → Nested p k es xs → Level p k es xs j → Level p k (es ++ e ∷ []) (slice_set xs i (Close e)) j
closing_level p k es [] i e j b a r l n c h m = absurd (omega arith)
closing_level p k es (x ∷ xs) i e zero b a r l n c h m = absurd (omega arith)
closing_level p zero es (x ∷ xs) zero e (suc j) b a r l n c h m = subst (λ us. Level (suc p) (e - suc p) (drop 1 (us ++ e ∷ [])) xs j) (sym l) (by c)
  where
    by : Onward p 0 e (x ∷ xs) → Level (suc p) (e - suc p) [] xs j
    by (inl o) = let z : 0 ≡ e - suc p = omega arith in subst (λ o. Level (suc p) o [] xs j) z (subst (λ us. Level (suc p) 0 us xs j) l (level_past p es x xs j (n x refl) m))
    by (inr w) = calm_level (suc p) (e - suc p) xs j (λ j y l q. w (suc j) y (omega arith) q)
closing_level p (suc k) es (x ∷ xs) zero e (suc j) b a r l n c h m = absurd (omega arith)
closing_level p zero es (x ∷ xs) (suc i) e (suc j) b a r l n c (f, h) m = subst (λ us. Level (suc p) (skips x (suc p)) us (slice_set xs i (Close e)) j) (sym (outer_inner p e x es f)) (closing_level (suc p) (skips x (suc p)) (inner x es) xs i e j (omega arith) (omega arith) r l n (onward_next p i e x xs c) h m)
closing_level p (suc k) es (x ∷ xs) (suc i) e (suc j) b a r l n c h m = closing_level (suc p) k es xs i e j (omega arith) (omega arith) r l n (onward_next p i e x xs c) h m

-- one byte begins a container and a later one ends it, where no other one is open
pub pair_nested : (p k : ℕ) (es : List ℕ) (xs : List Role) (i j : ℕ) (s : Span) (e : ℕ) → i < j → j < length xs → p + j < e → Read p k xs i → Level p k es xs i → Neutral xs i → Read p k xs j → Level p k es xs j → Neutral xs j → Onward p j e xs → Nested p k es xs → Nested p k es (slice_set (slice_set xs i (Open s e)) j (Close e))
pair_nested p k es [] i j s e a b d r l n q m o c h = absurd (omega arith)
pair_nested p k es (x ∷ xs) i zero s e a b d r l n q m o c h = absurd (omega arith)
pair_nested p zero es (x ∷ xs) zero (suc j) s e a b d r l n q m o c h = subst (λ us. Nested p 0 us (Open s e ∷ slice_set xs j (Close e))) (sym l) (tt, closing_nested (suc p) 0 [] xs j e (omega arith) (omega arith) (subst (λ k. Read (suc p) k xs j) (neutral_skips x (suc p) (n x refl)) q) (subst (λ us. Level (suc p) 0 us xs j) l (level_past p es x xs j (n x refl) m)) o (onward_next p j e x xs c) (subst (λ us. Nested (suc p) 0 us xs) l (past_neutral p es x xs (n x refl) (h.1))))
pair_nested p (suc k) es (x ∷ xs) zero (suc j) s e a b d r l n q m o c h = absurd (omega arith)
pair_nested p zero es (x ∷ xs) (suc i) (suc j) s e a b d r l n q m o c h = (h.0, pair_nested (suc p) (skips x (suc p)) (inner x es) xs i j s e (omega arith) (omega arith) (omega arith) r l n q m o (onward_next p j e x xs c) (h.1))
pair_nested p (suc k) es (x ∷ xs) (suc i) (suc j) s e a b d r l n q m o c h = pair_nested (suc p) k es xs i j s e (omega arith) (omega arith) (omega arith) r l n q m o (onward_next p j e x xs c) h

-- after it no container is open where none was
pub pair_level : (p k : ℕ) (es : List ℕ) (xs : List Role) (i j : ℕ) (s : Span) (e y : ℕ) → i < j → j < length xs → j < y → Read p k xs i → Level p k es xs i → Neutral xs i → Read p k xs j → Level p k es xs j → Neutral xs j → Onward p j e xs → Nested p k es xs → Level p k es xs y → Level p k es (slice_set (slice_set xs i (Open s e)) j (Close e)) y
pair_level p k es [] i j s e y a b d r l n q m o c h g = absurd (omega arith)
pair_level p k es (x ∷ xs) i zero s e y a b d r l n q m o c h g = absurd (omega arith)
pair_level p k es (x ∷ xs) i (suc j) s e zero a b d r l n q m o c h g = absurd (omega arith)
pair_level p zero es (x ∷ xs) zero (suc j) s e (suc y) a b d r l n q m o c h g = subst (λ us. Level (suc p) 0 (e ∷ us) (slice_set xs j (Close e)) y) (sym l) (closing_level (suc p) 0 [] xs j e y (omega arith) (omega arith) (subst (λ k. Read (suc p) k xs j) (neutral_skips x (suc p) (n x refl)) q) (subst (λ us. Level (suc p) 0 us xs j) l (level_past p es x xs j (n x refl) m)) o (onward_next p j e x xs c) (subst (λ us. Nested (suc p) 0 us xs) l (past_neutral p es x xs (n x refl) (h.1))) (subst (λ us. Level (suc p) 0 us xs y) l (level_past p es x xs y (n x refl) g)))
pair_level p (suc k) es (x ∷ xs) zero (suc j) s e (suc y) a b d r l n q m o c h g = absurd (omega arith)
pair_level p zero es (x ∷ xs) (suc i) (suc j) s e (suc y) a b d r l n q m o c h g = pair_level (suc p) (skips x (suc p)) (inner x es) xs i j s e y (omega arith) (omega arith) (omega arith) r l n q m o (onward_next p j e x xs c) (h.1) g
pair_level p (suc k) es (x ∷ xs) (suc i) (suc j) s e (suc y) a b d r l n q m o c h g = pair_level (suc p) k es xs i j s e y (omega arith) (omega arith) (omega arith) r l n q m o (onward_next p j e x xs c) h g

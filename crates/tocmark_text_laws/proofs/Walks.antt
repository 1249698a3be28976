-- A walk over the roles of a leaf's bytes, which ends no container that it didn't begin.
use Rattle.std.proofs.Common.{◌≡◌, ℕ, zero, suc, ◌+◌, ◌-◌, ◌<◌, ◌≤◌, ◌⊎◌, inl, inr, Bool, true, false, List, [], ◌∷◌, refl, ap, sym, ◌∙◌, subst, arith}
use Rattle.std.specs.Prelude.{slice_get, slice_set, Some}
use Rattle.tocmark_read_spans.specs.declared.role.Role.{Role}
use Rattle.tocmark_read_spans.specs.declared.role.Role.TheVariants.{Plain, Fresh, Hidden, Open, Close, Single}
use Rattle.tocmark_read_spans.specs.declared.role.Leaf.{Leaf}
use Rattle.tocmark_read_spans.specs.declared.role.Span.{Span}

-- a byte that is no mark of something, or isn't shown
abbrev pub is_neutral : Role → Bool
is_neutral Plain = true
is_neutral Fresh = true
is_neutral Hidden = true
is_neutral (Open span end) = false
is_neutral (Close end) = false
is_neutral (Single leaf end) = false

-- how many bytes a mark skips, which is before a place
abbrev pub skips : Role → ℕ → ℕ
skips Plain q = 0
skips Fresh q = 0
skips Hidden q = 0
skips (Open span end) q = 0
skips (Close end) q = end - q
skips (Single leaf end) q = end - q

-- how many containers are open after a byte, where so many were before it
abbrev pub opens : Role → ℕ → ℕ
opens Plain d = d
opens Fresh d = d
opens Hidden d = d
opens (Open span end) d = suc d
opens (Close end) d = d - 1
opens (Single leaf end) d = d

-- a container ends only if one is open
abbrev pub Ends : Role → ℕ → Type 0
Ends Plain d = Unit
Ends Fresh d = Unit
Ends Hidden d = Unit
Ends (Open span end) d = Unit
Ends (Close end) d = 1 ≤ d
Ends (Single leaf end) d = Unit

-- so it is with each byte, from a place on, where so many are skipped first and so many containers are open
abbrev pub Safe : ℕ → ℕ → ℕ → List Role → Type 0
Safe p k d [] = Unit
Safe p zero d (x ∷ xs) = Ends x d × Safe (suc p) (skips x (suc p)) (opens x d) xs
Safe p (suc k) d (x ∷ xs) = Safe (suc p) k d xs

-- the byte with a number from a place on isn't skipped
abbrev pub Read : ℕ → ℕ → List Role → ℕ → Type 0
Read p k [] i = k ≤ i
Read p k (x ∷ xs) zero = k ≡ 0
Read p zero (x ∷ xs) (suc i) = Read (suc p) (skips x (suc p)) xs i
Read p (suc k) (x ∷ xs) (suc i) = Read (suc p) k xs i

-- from a byte on all are neutral
abbrev pub Calm : ℕ → List Role → Type 0
Calm n xs = (j : ℕ) (x : Role) → n ≤ j → slice_get xs j ≡ Some x → is_neutral x ≡ true

-- a byte is neutral
abbrev pub Neutral : List Role → ℕ → Type 0
Neutral xs i = (x : Role) → slice_get xs i ≡ Some x → is_neutral x ≡ true

pub neutral_skips : (x : Role) (q : ℕ) → is_neutral x ≡ true → skips x q ≡ 0
neutral_skips Plain q e = refl
neutral_skips Fresh q e = refl
neutral_skips Hidden q e = refl
neutral_skips (Open span end) q e = refl
neutral_skips (Close end) q e = absurd cc
neutral_skips (Single leaf end) q e = absurd cc

neutral_opens : (x : Role) (d : ℕ) → is_neutral x ≡ true → opens x d ≡ d
neutral_opens Plain d e = refl
neutral_opens Fresh d e = refl
neutral_opens Hidden d e = refl
neutral_opens (Open span end) d e = absurd cc
neutral_opens (Close end) d e = absurd cc
neutral_opens (Single leaf end) d e = absurd cc

neutral_ends : (x : Role) (d : ℕ) → is_neutral x ≡ true → Ends x d
neutral_ends Plain d e = tt
neutral_ends Fresh d e = tt
neutral_ends Hidden d e = tt
neutral_ends (Open span end) d e = tt
neutral_ends (Close end) d e = absurd cc
neutral_ends (Single leaf end) d e = tt

-- after a neutral byte
past_neutral : (p d : ℕ) (x : Role) (xs : List Role) → is_neutral x ≡ true → Safe (suc p) (skips x (suc p)) (opens x d) xs → Safe (suc p) 0 d xs
past_neutral p d x xs e h = subst (λ n. Safe (suc p) 0 n xs) (neutral_opens x d e) (subst (λ k. Safe (suc p) k (opens x d) xs) (neutral_skips x (suc p) e) h)

with_neutral : (p d : ℕ) (x : Role) (xs : List Role) → is_neutral x ≡ true → Safe (suc p) 0 d xs → Safe p 0 d (x ∷ xs)
with_neutral p d x xs e h = (neutral_ends x d e, subst (λ n. Safe (suc p) (skips x (suc p)) n xs) (sym (neutral_opens x d e)) (subst (λ k. Safe (suc p) k d xs) (sym (neutral_skips x (suc p) e)) h))

calm_rest : (n : ℕ) (x : Role) (xs : List Role) → Calm (suc n) (x ∷ xs) → Calm n xs
calm_rest n x xs c j y l e = c (suc j) y (omega arith) e

calm_next : (n : ℕ) (x : Role) (xs : List Role) → Calm n (x ∷ xs) → Calm n xs
calm_next n x xs c j y l e = c (suc j) y (omega arith) e

-- neutral bytes after some that are skipped
pub calm_safe : (p k d : ℕ) (xs : List Role) → Calm k xs → Safe p k d xs
calm_safe p k d [] c = tt
calm_safe p zero d (x ∷ xs) c = with_neutral p d x xs (c 0 x (omega arith) refl) (calm_safe (suc p) 0 d xs (calm_next 0 x xs c))
calm_safe p (suc k) d (x ∷ xs) c = calm_safe (suc p) k d xs (calm_rest k x xs c)

pub calm_read : (p k : ℕ) (xs : List Role) (j : ℕ) → Calm k xs → k ≤ j → Read p k xs j
calm_read p k [] j c l = l
calm_read p k (x ∷ xs) zero c l = omega arith
calm_read p zero (x ∷ xs) (suc j) c l = subst (λ k. Read (suc p) k xs j) (sym (neutral_skips x (suc p) (c 0 x (omega arith) refl))) (calm_read (suc p) 0 xs j (calm_next 0 x xs c) (omega arith))
calm_read p (suc k) (x ∷ xs) (suc j) c l = calm_read (suc p) k xs j (calm_rest k x xs c) (omega arith)

-- one more container is open
ends_more : (x : Role) (d : ℕ) → Ends x d → Ends x (suc d)
ends_more Plain d h = tt
ends_more Fresh d h = tt
ends_more Hidden d h = tt
ends_more (Open span end) d h = tt
ends_more (Close end) d h = omega arith
ends_more (Single leaf end) d h = tt

opens_more : (x : Role) (d : ℕ) → Ends x d → opens x (suc d) ≡ suc (opens x d)
opens_more Plain d h = refl
opens_more Fresh d h = refl
opens_more Hidden d h = refl
opens_more (Open span end) d h = refl
opens_more (Close end) d h = omega arith
opens_more (Single leaf end) d h = refl

-- a neutral byte in place of another one
pub neutral_safe : (p k d : ℕ) (xs : List Role) (i : ℕ) (y : Role) → Neutral xs i → is_neutral y ≡ true → Safe p k d xs → Safe p k d (slice_set xs i y)
neutral_safe p k d [] i y n e h = tt
neutral_safe p zero d (x ∷ xs) zero y n e h = with_neutral p d y xs e (past_neutral p d x xs (n x refl) (h.1))
neutral_safe p (suc k) d (x ∷ xs) zero y n e h = h
neutral_safe p zero d (x ∷ xs) (suc i) y n e h = (h.0, neutral_safe (suc p) (skips x (suc p)) (opens x d) xs i y n e (h.1))
neutral_safe p (suc k) d (x ∷ xs) (suc i) y n e h = neutral_safe (suc p) k d xs i y n e h

-- one byte ends a container, where one more is open
pub closing_safe : (p k d : ℕ) (xs : List Role) (i e : ℕ) → Read p k xs i → Neutral xs i → (e ≤ suc (p + i)) ⊎ Calm (suc i) xs → Safe p k d xs → Safe p k (suc d) (slice_set xs i (Close e))
closing_safe p k d [] i e r n c h = tt
closing_safe p zero d (x ∷ xs) zero e r n c h = (omega arith, let z : d ≡ suc d - 1 = omega arith in subst (λ m. Safe (suc p) (e - suc p) m xs) z (by c))
  where
    rest : Safe (suc p) 0 d xs
    rest = past_neutral p d x xs (n x refl) (h.1)

    by : (e ≤ suc (p + 0)) ⊎ Calm 1 (x ∷ xs) → Safe (suc p) (e - suc p) d xs
    by (inl l) = let z : 0 ≡ e - suc p = omega arith in subst (λ m. Safe (suc p) m d xs) z rest
    by (inr w) = calm_safe (suc p) (e - suc p) d xs (λ j y l q. w (suc j) y (omega arith) q)
closing_safe p (suc k) d (x ∷ xs) zero e r n c h = absurd (omega arith)
closing_safe p zero d (x ∷ xs) (suc i) e r n c h = (
  ends_more x d (h.0),
  subst (λ m. Safe (suc p) (skips x (suc p)) m (slice_set xs i (Close e))) (sym (opens_more x d (h.0))) (closing_safe (suc p) (skips x (suc p)) (opens x d) xs i e r n (later c) (h.1)),
)
  where
    later : (e ≤ suc (p + suc i)) ⊎ Calm (suc (suc i)) (x ∷ xs) → (e ≤ suc (suc p + i)) ⊎ Calm (suc i) xs
    later (inl l) = inl (omega arith)
    later (inr w) = inr (calm_rest (suc i) x xs w)
closing_safe p (suc k) d (x ∷ xs) (suc i) e r n c h = closing_safe (suc p) k d xs i e r n (later c) h
  where
    later : (e ≤ suc (p + suc i)) ⊎ Calm (suc (suc i)) (x ∷ xs) → (e ≤ suc (suc p + i)) ⊎ Calm (suc i) xs
    later (inl l) = inl (omega arith)
    later (inr w) = inr (calm_rest (suc i) x xs w)

-- one byte begins a container and a later one ends it
pub pair_safe : (p k d : ℕ) (xs : List Role) (i j : ℕ) (s : Span) (o e : ℕ) → i < j → Read p k xs i → Neutral xs i → Read p k xs j → Neutral xs j → (e ≤ suc (p + j)) ⊎ Calm (suc j) xs → Safe p k d xs → Safe p k d (slice_set (slice_set xs i (Open s o)) j (Close e))
pair_safe p k d [] i j s o e l r n q m c h = tt
pair_safe p k d (x ∷ xs) i zero s o e l r n q m c h = absurd (omega arith)
pair_safe p zero d (x ∷ xs) zero (suc j) s o e l r n q m c h = (tt, closing_safe (suc p) 0 d xs j e (subst (λ k. Read (suc p) k xs j) (neutral_skips x (suc p) (n x refl)) q) m (later c) (past_neutral p d x xs (n x refl) (h.1)))
  where
    later : (e ≤ suc (p + suc j)) ⊎ Calm (suc (suc j)) (x ∷ xs) → (e ≤ suc (suc p + j)) ⊎ Calm (suc j) xs
    later (inl l) = inl (omega arith)
    later (inr w) = inr (calm_rest (suc j) x xs w)
pair_safe p (suc k) d (x ∷ xs) zero (suc j) s o e l r n q m c h = absurd (omega arith)
pair_safe p zero d (x ∷ xs) (suc i) (suc j) s o e l r n q m c h = (h.0, pair_safe (suc p) (skips x (suc p)) (opens x d) xs i j s o e (omega arith) r n q m (later c) (h.1))
  where
    later : (e ≤ suc (p + suc j)) ⊎ Calm (suc (suc j)) (x ∷ xs) → (e ≤ suc (suc p + j)) ⊎ Calm (suc j) xs
    later (inl l) = inl (omega arith)
    later (inr w) = inr (calm_rest (suc j) x xs w)
pair_safe p (suc k) d (x ∷ xs) (suc i) (suc j) s o e l r n q m c h = pair_safe (suc p) k d xs i j s o e (omega arith) r n q m (later c) h
  where
    later : (e ≤ suc (p + suc j)) ⊎ Calm (suc (suc j)) (x ∷ xs) → (e ≤ suc (suc p + j)) ⊎ Calm (suc j) xs
    later (inl l) = inl (omega arith)
    later (inr w) = inr (calm_rest (suc j) x xs w)

-- a mark without children, after which all bytes that it doesn't skip are neutral
pub single_safe : (p k d : ℕ) (xs : List Role) (i : ℕ) (leaf : Leaf) (e : ℕ) → Calm (suc i + (e - suc (p + i))) xs → Safe p k d xs → Safe p k d (slice_set xs i (Single leaf e))
single_safe p k d [] i leaf e c h = tt
single_safe p zero d (x ∷ xs) zero leaf e c h = (tt, calm_safe (suc p) (e - suc p) d xs (λ j y l q. c (suc j) y (omega arith) q))
single_safe p (suc k) d (x ∷ xs) zero leaf e c h = h
single_safe p zero d (x ∷ xs) (suc i) leaf e c h = (h.0, single_safe (suc p) (skips x (suc p)) (opens x d) xs i leaf e (λ j y l q. c (suc j) y (omega arith) q) (h.1))
single_safe p (suc k) d (x ∷ xs) (suc i) leaf e c h = single_safe (suc p) k d xs i leaf e (λ j y l q. c (suc j) y (omega arith) q) h

-- which bytes are read where a byte has another role
pub before_read : (p k : ℕ) (xs : List Role) (i : ℕ) (y : Role) (j : ℕ) → j ≤ i → Read p k xs j → Read p k (slice_set xs i y) j
before_read p k [] i y j l r = r
before_read p k (x ∷ xs) zero y zero l r = r
before_read p k (x ∷ xs) zero y (suc j) l r = absurd (omega arith)
before_read p k (x ∷ xs) (suc i) y zero l r = r
before_read p zero (x ∷ xs) (suc i) y (suc j) l r = before_read (suc p) (skips x (suc p)) xs i y j (omega arith) r
before_read p (suc k) (x ∷ xs) (suc i) y (suc j) l r = before_read (suc p) k xs i y j (omega arith) r

pub quiet_read : (p k : ℕ) (xs : List Role) (i : ℕ) (y : Role) (j : ℕ) → Neutral xs i → skips y (suc (p + i)) ≡ 0 → Read p k xs j → Read p k (slice_set xs i y) j
quiet_read p k [] i y j n e r = r
quiet_read p k (x ∷ xs) zero y zero n e r = r
quiet_read p zero (x ∷ xs) zero y (suc j) n e r = subst (λ m. Read (suc p) m xs j) (neutral_skips x (suc p) (n x refl) ∙ sym (let q : suc (p + 0) ≡ suc p = omega arith in ap (skips y) (sym q) ∙ e)) r
quiet_read p (suc k) (x ∷ xs) zero y (suc j) n e r = r
quiet_read p k (x ∷ xs) (suc i) y zero n e r = r
quiet_read p zero (x ∷ xs) (suc i) y (suc j) n e r = quiet_read (suc p) (skips x (suc p)) xs i y j n (let q : suc (suc p + i) ≡ suc (p + suc i) = omega arith in ap (skips y) q ∙ e) r
quiet_read p (suc k) (x ∷ xs) (suc i) y (suc j) n e r = quiet_read (suc p) k xs i y j n (let q : suc (suc p + i) ≡ suc (p + suc i) = omega arith in ap (skips y) q ∙ e) r

-- bytes after a mark that skips some, where all others after it are neutral
pub mark_read : (p k : ℕ) (xs : List Role) (i : ℕ) (y : Role) (j : ℕ) → Calm (suc i + skips y (suc (p + i))) xs → suc i + skips y (suc (p + i)) ≤ j → Read p k xs j → Read p k (slice_set xs i y) j
mark_read p k [] i y j c l r = r
mark_read p k (x ∷ xs) zero y zero c l r = r
mark_read p zero (x ∷ xs) zero y (suc j) c l r =
    let q : suc (p + 0) ≡ suc p = omega arith in
    let w : skips y (suc (p + 0)) ≡ skips y (suc p) = ap (skips y) q in
    calm_read (suc p) (skips y (suc p)) xs j (λ a z m g. c (suc a) z (omega arith) g) (omega arith)
mark_read p (suc k) (x ∷ xs) zero y (suc j) c l r = r
mark_read p k (x ∷ xs) (suc i) y zero c l r = r
mark_read p zero (x ∷ xs) (suc i) y (suc j) c l r =
    let q : suc (suc p + i) ≡ suc (p + suc i) = omega arith in
    let w : skips y (suc (suc p + i)) ≡ skips y (suc (p + suc i)) = ap (skips y) q in
    mark_read (suc p) (skips x (suc p)) xs i y j (λ a z m g. c (suc a) z (omega arith) g) (omega arith) r
mark_read p (suc k) (x ∷ xs) (suc i) y (suc j) c l r =
    let q : suc (suc p + i) ≡ suc (p + suc i) = omega arith in
    let w : skips y (suc (suc p + i)) ≡ skips y (suc (p + suc i)) = ap (skips y) q in
    mark_read (suc p) k xs i y j (λ a z m g. c (suc a) z (omega arith) g) (omega arith) r

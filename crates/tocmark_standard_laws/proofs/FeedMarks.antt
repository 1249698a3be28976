-- Each line feed of a content has a mark, or is in the range of one. No mark that has a range is in that of another.
use Rattle.std.proofs.Common.{◌≡◌, ℕ, zero, suc, ◌-◌, ◌<◌, ◌≤◌, ◌⊎◌, inl, inr, Bool, true, false, ◌==◌, ◌||◌, nat_lt, List, [], ◌∷◌, replicate, refl, ap, sym, ◌∙◌, subst, arith, true≢false}
use Rattle.std.specs.Prelude.{slice_get, slice_set, max, Some}
use Rattle.std.proofs.lemmas.Bool.Decides.{nat_tests}
use Rattle.tocmark_read_scan.specs.Basic.{byte_at}
use Rattle.tocmark_read_scan.proofs.PlainTests.{eq_of}
use Rattle.tocmark_read_spans.specs.declared.role.Role.{Role}
use Rattle.tocmark_read_spans.specs.declared.role.Role.TheVariants.{Plain, Fresh, Hidden, Open, Close, Single}
use Rattle.tocmark_text_laws.specs.Said.{is_marked}

-- the place from which on roles are read again after a mark
abbrev pub end_of : Role → ℕ
end_of Plain = 0
end_of Fresh = 0
end_of Hidden = 0
end_of (Open span end) = 0
end_of (Close end) = end
end_of (Single leaf end) = end

-- a byte of emphasis, or of an opening bracket
abbrev pub is_opener : ℕ → Bool
is_opener b = ((b == 42) || (b == 95)) || ((b == 91) || (b == 33))

-- a place in the range of a mark before it
pub record IsIn (R : List Role) (x : ℕ) : Type 0 where
  pub at : ℕ
  pub role : Role
  pub got : slice_get R at ≡ Some role
  pub before : at < x
  pub within : x < end_of role

-- a mark that has a range, where the pass goes on at a place
pub record IsWide (t : List ℕ) (f : ℕ) (R : List Role) (k : ℕ) (r : Role) : Type 0 where
  pub before : k < f
  pub stops : end_of r ≤ f
  pub free : IsIn R k → ⊥
  pub solid : (byte_at t (end_of r - 1) == 32) ≡ false
  pub closed : is_opener (byte_at t k) ≡ false
  pub broken : byte_at t k ≡ 32 → byte_at t (end_of r - 1) ≡ 10

pub record Feeds (t : List ℕ) (f : ℕ) (R : List Role) : Type 0 where
  pub feeds : (x : ℕ) (r : Role) → x < f → byte_at t x ≡ 10 → slice_get R x ≡ Some r → (is_marked r ≡ true) ⊎ IsIn R x
  pub wide : (k : ℕ) (r : Role) → slice_get R k ≡ Some r → suc k < end_of r → IsWide t f R k r

-- a place whose role has no range
abbrev pub IsNarrow : List Role → ℕ → Type 0
IsNarrow R i = (r : Role) → slice_get R i ≡ Some r → end_of r ≤ suc i

-- one element changes

abbrev Other : ℕ → ℕ → Type 0
Other i j = (i < j) ⊎ (j < i)

pub other_of : (i j : ℕ) → (i == j) ≡ false → (i < j) ⊎ (j < i)
other_of i j e = by (nat_lt i j) refl
  where
    by : (z : Bool) → nat_lt i j ≡ z → (i < j) ⊎ (j < i)
    by true q = let l : i < j = grind (arith, nat_tests, q) in inl l
    by false q = let l : j < i = grind (arith, nat_tests, q, e) in inr l

set_got : (R : List Role) (i : ℕ) (y : Role) (j : ℕ) (z : Role) → slice_get (slice_set R i y) j ≡ Some z → ((i ≡ j) × (y ≡ z)) ⊎ (Other i j × (slice_get R j ≡ Some z))
set_got [] i y j z e = absurd cc
set_got (x ∷ xs) zero y zero z e = let q : y ≡ z = cc in inl (refl, q)
set_got (x ∷ xs) zero y (suc j) z e = inr (inl (omega arith), e)
set_got (x ∷ xs) (suc i) y zero z e = inr (inr (omega arith), e)
set_got (x ∷ xs) (suc i) y (suc j) z e = by (set_got xs i y j z e)
  where
    apart : Other i j → Other (suc i) (suc j)
    apart (inl l) = inl (omega arith)
    apart (inr l) = inr (omega arith)

    by : ((i ≡ j) × (y ≡ z)) ⊎ (Other i j × (slice_get xs j ≡ Some z)) → ((suc i ≡ suc j) × (y ≡ z)) ⊎ (Other (suc i) (suc j) × (slice_get xs j ≡ Some z))
    by (inl (p, q)) = inl (ap suc p, q)
    by (inr (l, q)) = inr (apart l, q)

set_other : (R : List Role) (i : ℕ) (y : Role) (j : ℕ) → Other i j → slice_get (slice_set R i y) j ≡ slice_get R j
set_other [] i y j l = refl
set_other (x ∷ xs) zero y zero (inl l) = absurd (omega arith)
set_other (x ∷ xs) zero y zero (inr l) = absurd (omega arith)
set_other (x ∷ xs) zero y (suc j) l = refl
set_other (x ∷ xs) (suc i) y zero l = refl
set_other (x ∷ xs) (suc i) y (suc j) (inl l) = set_other xs i y j (inl (omega arith))
set_other (x ∷ xs) (suc i) y (suc j) (inr l) = set_other xs i y j (inr (omega arith))

-- a place before one that has a role has the role that it is given
set_same : (R : List Role) (i : ℕ) (y : Role) (j : ℕ) (z : Role) → i ≤ j → slice_get (slice_set R i y) j ≡ Some z → slice_get (slice_set R i y) i ≡ Some y
set_same [] i y j z l e = absurd cc
set_same (x ∷ xs) zero y j z l e = refl
set_same (x ∷ xs) (suc i) y zero z l e = absurd (omega arith)
set_same (x ∷ xs) (suc i) y (suc j) z l e = set_same xs i y j z (omega arith) e

-- a change at a place without a range leaves places in ranges where they are
in_kept : (R : List Role) (i : ℕ) (y : Role) (x : ℕ) → IsNarrow R i → IsIn R x → IsIn (slice_set R i y) x
in_kept R i y x n c = by (i == c.at) refl
  where
    before : c.at < x
    before = c.before

    within : x < end_of c.role
    within = c.within

    by : (z : Bool) → (i == c.at) ≡ z → IsIn (slice_set R i y) x
    by true e = let q : i ≡ c.at = eq_of i c.at e in let l : end_of c.role ≤ suc i = n c.role (ap (slice_get R) q ∙ c.got) in absurd (omega (arith, q, l, before, within))
    by false e = record { at = c.at; role = c.role; got = set_other R i y c.at (other_of i c.at e) ∙ c.got; before = c.before; within = c.within }

-- a role without a range puts none in one
in_before : (R : List Role) (i : ℕ) (y : Role) (x : ℕ) → end_of y ≤ suc i → IsIn (slice_set R i y) x → IsIn R x
in_before R i y x n c = by (set_got R i y c.at c.role c.got)
  where
    before : c.at < x
    before = c.before

    within : x < end_of c.role
    within = c.within

    by : ((i ≡ c.at) × (y ≡ c.role)) ⊎ (Other i c.at × (slice_get R c.at ≡ Some c.role)) → IsIn R x
    by (inl (p, q)) = let l : end_of c.role ≤ suc i = subst (λ r. end_of r ≤ suc i) q n in absurd (omega (arith, p, l, before, within))
    by (inr (l, q)) = record { at = c.at; role = c.role; got = q; before = c.before; within = c.within }

-- a role without a range in place of another one
pub quiet_put : (t : List ℕ) (f : ℕ) (R : List Role) (i : ℕ) (y : Role) → IsNarrow R i → end_of y ≤ suc i → (byte_at t i ≡ 10 → is_marked y ≡ true) → Feeds t f R → Feeds t f (slice_set R i y)
quiet_put t f R i y n m marks h = record { feeds = feeds; wide = wide }
  where
    feeds : (x : ℕ) (r : Role) → x < f → byte_at t x ≡ 10 → slice_get (slice_set R i y) x ≡ Some r → (is_marked r ≡ true) ⊎ IsIn (slice_set R i y) x
    feeds x r l b g = by (set_got R i y x r g)
      where
        old : (is_marked r ≡ true) ⊎ IsIn R x → (is_marked r ≡ true) ⊎ IsIn (slice_set R i y) x
        old (inl k) = inl k
        old (inr k) = inr (in_kept R i y x n k)

        by : ((i ≡ x) × (y ≡ r)) ⊎ (Other i x × (slice_get R x ≡ Some r)) → (is_marked r ≡ true) ⊎ IsIn (slice_set R i y) x
        by (inl (p, q)) = inl (sym (ap is_marked q) ∙ marks (ap (byte_at t) p ∙ b))
        by (inr (o, q)) = old (h.feeds x r l b q)

    wide : (k : ℕ) (r : Role) → slice_get (slice_set R i y) k ≡ Some r → suc k < end_of r → IsWide t f (slice_set R i y) k r
    wide k r g w = by (set_got R i y k r g)
      where
        by : ((i ≡ k) × (y ≡ r)) ⊎ (Other i k × (slice_get R k ≡ Some r)) → IsWide t f (slice_set R i y) k r
        by (inl (p, q)) = let l : end_of r ≤ suc i = subst (λ z. end_of z ≤ suc i) q m in absurd (omega (arith, p, l, w))
        by (inr (o, q)) = let a : IsWide t f R k r = h.wide k r q w in record { before = a.before; stops = a.stops; free = λ c. a.free (in_before R i y k m c); solid = a.solid; closed = a.closed; broken = a.broken }

-- the pass goes on further, after bytes that are no line feeds
pub feeds_on : (t : List ℕ) (f g : ℕ) (R : List Role) → f ≤ g → ((x : ℕ) → f ≤ x → x < g → (byte_at t x == 10) ≡ false) → Feeds t f R → Feeds t g R
feeds_on t f g R l none h = record { feeds = λ x r m b k. feeds x r m b k (nat_lt x f) refl; wide = λ k r e w. wide k r (h.wide k r e w) }
  where
    feeds : (x : ℕ) (r : Role) → x < g → byte_at t x ≡ 10 → slice_get R x ≡ Some r → (z : Bool) → nat_lt x f ≡ z → (is_marked r ≡ true) ⊎ IsIn R x
    feeds x r m b k true e = h.feeds x r (grind (arith, nat_tests, e)) b k
    feeds x r m b k false e = absurd (true≢false (ap (λ c. c == 10) (sym b) ∙ none x (grind (arith, nat_tests, e)) m))

    wide : (k : ℕ) (r : Role) → IsWide t f R k r → IsWide t g R k r
    wide k r a = let b : k < f = a.before in let s : end_of r ≤ f = a.stops in record { before = omega (arith, b, l); stops = omega (arith, s, l); free = a.free; solid = a.solid; closed = a.closed; broken = a.broken }

-- from where the pass goes on, no role has a range
pub narrow_on : (t : List ℕ) (f : ℕ) (R : List Role) (i : ℕ) → f ≤ i → Feeds t f R → IsNarrow R i
narrow_on t f R i l h r g = by (nat_lt (suc i) (end_of r)) refl
  where
    by : (z : Bool) → nat_lt (suc i) (end_of r) ≡ z → end_of r ≤ suc i
    by true e = let b : i < f = (h.wide i r g (grind (arith, nat_tests, e))).before in absurd (omega (arith, l, b))
    by false e = grind (arith, nat_tests, e)

-- nor does one at a byte of emphasis, or of an opening bracket
pub narrow_open : (t : List ℕ) (f : ℕ) (R : List Role) (i : ℕ) → is_opener (byte_at t i) ≡ true → Feeds t f R → IsNarrow R i
narrow_open t f R i o h r g = by (nat_lt (suc i) (end_of r)) refl
  where
    by : (z : Bool) → nat_lt (suc i) (end_of r) ≡ z → end_of r ≤ suc i
    by true e = absurd (true≢false (sym o ∙ (h.wide i r g (grind (arith, nat_tests, e))).closed))
    by false e = grind (arith, nat_tests, e)

-- a place where the pass goes on is in no range
out_on : (t : List ℕ) (f : ℕ) (R : List Role) (i : ℕ) → f ≤ i → Feeds t f R → IsIn R i → ⊥
out_on t f R i l h c =
    let before : c.at < i = c.before in
    let within : i < end_of c.role = c.within in
    let s : end_of c.role ≤ f = (h.wide c.at c.role c.got (omega (arith, before, within))).stops in
    omega (arith, l, s, within)

-- a mark at the place where the pass goes on
pub mark_put : (t : List ℕ) (R : List Role) (i : ℕ) (y : Role) → is_marked y ≡ true → (byte_at t (end_of y - 1) == 32) ≡ false → is_opener (byte_at t i) ≡ false → (byte_at t i == 32) ≡ false → Feeds t i R → Feeds t (max (suc i) (end_of y)) (slice_set R i y)
mark_put t R i y marks solid closed ink h = record { feeds = feeds; wide = wide }
  where
    n : IsNarrow R i
    n = narrow_on t i R i (omega arith) h

    feeds : (x : ℕ) (r : Role) → x < max (suc i) (end_of y) → byte_at t x ≡ 10 → slice_get (slice_set R i y) x ≡ Some r → (is_marked r ≡ true) ⊎ IsIn (slice_set R i y) x
    feeds x r l b g = by (set_got R i y x r g)
      where
        old : (is_marked r ≡ true) ⊎ IsIn R x → (is_marked r ≡ true) ⊎ IsIn (slice_set R i y) x
        old (inl k) = inl k
        old (inr k) = inr (in_kept R i y x n k)

        at : Other i x → slice_get R x ≡ Some r → (is_marked r ≡ true) ⊎ IsIn (slice_set R i y) x
        at (inl o) q = inr (record { at = i; role = y; got = set_same R i y x r (omega (arith, o)) g; before = o; within = omega (arith, o, l) })
        at (inr o) q = old (h.feeds x r o b q)

        by : ((i ≡ x) × (y ≡ r)) ⊎ (Other i x × (slice_get R x ≡ Some r)) → (is_marked r ≡ true) ⊎ IsIn (slice_set R i y) x
        by (inl (p, q)) = inl (sym (ap is_marked q) ∙ marks)
        by (inr (o, q)) = at o q

    -- places before it are in no new range
    back : (k : ℕ) → k ≤ i → IsIn (slice_set R i y) k → IsIn R k
    back k l c = by (set_got R i y c.at c.role c.got)
      where
        before : c.at < k
        before = c.before

        by : ((i ≡ c.at) × (y ≡ c.role)) ⊎ (Other i c.at × (slice_get R c.at ≡ Some c.role)) → IsIn R k
        by (inl (p, q)) = absurd (omega (arith, p, before, l))
        by (inr (o, q)) = record { at = c.at; role = c.role; got = q; before = c.before; within = c.within }

    wide : (k : ℕ) (r : Role) → slice_get (slice_set R i y) k ≡ Some r → suc k < end_of r → IsWide t (max (suc i) (end_of y)) (slice_set R i y) k r
    wide k r g w = by (set_got R i y k r g)
      where
        new : IsWide t (max (suc i) (end_of y)) (slice_set R i y) i y
        new = record { before = omega arith; stops = omega arith; free = λ c. out_on t i R i (omega arith) h (back i (omega arith) c); solid = solid; closed = closed; broken = λ e. absurd (true≢false (ap (λ b. b == 32) (sym e) ∙ ink)) }

        by : ((i ≡ k) × (y ≡ r)) ⊎ (Other i k × (slice_get R k ≡ Some r)) → IsWide t (max (suc i) (end_of y)) (slice_set R i y) k r
        by (inl (p, q)) = subst (λ j. IsWide t (max (suc i) (end_of y)) (slice_set R i y) j r) p (subst (IsWide t (max (suc i) (end_of y)) (slice_set R i y) i) q new)
        by (inr (o, q)) =
            let a : IsWide t i R k r = h.wide k r q w in
            let b : k < i = a.before in
            let s : end_of r ≤ i = a.stops in
            record { before = omega (arith, b); stops = omega (arith, s); free = λ c. a.free (back k (omega (arith, b)) c); solid = a.solid; closed = a.closed; broken = a.broken }

-- spaces before a line feed

-- no role of one has a range
pub narrow_space : (t : List ℕ) (i : ℕ) (R : List Role) (first k : ℕ) → ((x : ℕ) → first ≤ x → x < i → byte_at t x ≡ 32) → first ≤ k → k < i → Feeds t i R → IsNarrow R k
narrow_space t i R first k spaces l m h r g = by (nat_lt (suc k) (end_of r)) refl
  where
    by : (z : Bool) → nat_lt (suc k) (end_of r) ≡ z → end_of r ≤ suc k
    by true e =
        let w : suc k < end_of r = grind (arith, nat_tests, e) in
        let a : IsWide t i R k r = h.wide k r g w in
        let s : end_of r ≤ i = a.stops in
        let feed : byte_at t (end_of r - 1) ≡ 10 = a.broken (spaces k l m) in
        let space : byte_at t (end_of r - 1) ≡ 32 = spaces (end_of r - 1) (omega (arith, w, l)) (omega (arith, w, s)) in
        absurd (omega (arith, feed, space))
    by false e = grind (arith, nat_tests, e)

-- the first one is in no range
out_space : (t : List ℕ) (i : ℕ) (R : List Role) (first k : ℕ) → ((x : ℕ) → first ≤ x → x < i → byte_at t x ≡ 32) → first ≤ k → k < i → Feeds t i R → (c : IsIn R k) → c.at < first → ⊥
out_space t i R first k spaces l m h c early =
    let before : c.at < k = c.before in
    let within : k < end_of c.role = c.within in
    let a : IsWide t i R c.at c.role = h.wide c.at c.role c.got (omega (arith, before, within)) in
    let s : end_of c.role ≤ i = a.stops in
    true≢false (ap (λ b. b == 32) (sym (spaces (end_of c.role - 1) (omega (arith, within, l)) (omega (arith, within, s)))) ∙ a.solid)

-- a hard break from the first of them on
pub break_put : (t : List ℕ) (R : List Role) (first i : ℕ) (y : Role) → is_marked y ≡ true → end_of y ≡ suc i → first < i → ((x : ℕ) → first ≤ x → x < i → byte_at t x ≡ 32) → byte_at t i ≡ 10 → Feeds t i R → Feeds t (suc i) (slice_set R first y)
break_put t R first i y marks ends more spaces feed h = record { feeds = feeds; wide = wide }
  where
    n : IsNarrow R first
    n = narrow_space t i R first first spaces (omega arith) more h

    last : byte_at t (end_of y - 1) ≡ 10
    last = ap (byte_at t) (let q : end_of y - 1 ≡ i = omega (arith, ends) in q) ∙ feed

    feeds : (x : ℕ) (r : Role) → x < suc i → byte_at t x ≡ 10 → slice_get (slice_set R first y) x ≡ Some r → (is_marked r ≡ true) ⊎ IsIn (slice_set R first y) x
    feeds x r l b g = by (set_got R first y x r g)
      where
        old : (is_marked r ≡ true) ⊎ IsIn R x → (is_marked r ≡ true) ⊎ IsIn (slice_set R first y) x
        old (inl k) = inl k
        old (inr k) = inr (in_kept R first y x n k)

        at : Other first x → slice_get R x ≡ Some r → (is_marked r ≡ true) ⊎ IsIn (slice_set R first y) x
        at (inl o) q = inr (record { at = first; role = y; got = set_same R first y x r (omega (arith, o)) g; before = o; within = omega (arith, l, ends) })
        at (inr o) q = old (h.feeds x r (omega (arith, o, more)) b q)

        by : ((first ≡ x) × (y ≡ r)) ⊎ (Other first x × (slice_get R x ≡ Some r)) → (is_marked r ≡ true) ⊎ IsIn (slice_set R first y) x
        by (inl (p, q)) = inl (sym (ap is_marked q) ∙ marks)
        by (inr (o, q)) = at o q

    wide : (k : ℕ) (r : Role) → slice_get (slice_set R first y) k ≡ Some r → suc k < end_of r → IsWide t (suc i) (slice_set R first y) k r
    wide k r g w = by (set_got R first y k r g)
      where
        free : IsIn (slice_set R first y) first → ⊥
        free c = of (set_got R first y c.at c.role c.got)
          where
            before : c.at < first
            before = c.before

            of : ((first ≡ c.at) × (y ≡ c.role)) ⊎ (Other first c.at × (slice_get R c.at ≡ Some c.role)) → ⊥
            of (inl (p, q)) = omega (arith, p, before)
            of (inr (o, q)) = out_space t i R first first spaces (omega arith) more h (record { at = c.at; role = c.role; got = q; before = c.before; within = c.within }) before

        new : IsWide t (suc i) (slice_set R first y) first y
        new = record { before = omega (arith, more); stops = omega (arith, ends); free = free; solid = ap (λ b. b == 32) last; closed = ap is_opener (spaces first (omega arith) more); broken = λ e. last }

        by : ((first ≡ k) × (y ≡ r)) ⊎ (Other first k × (slice_get R k ≡ Some r)) → IsWide t (suc i) (slice_set R first y) k r
        by (inl (p, q)) = subst (λ j. IsWide t (suc i) (slice_set R first y) j r) p (subst (IsWide t (suc i) (slice_set R first y) first) q new)
        by (inr (o, q)) = record { before = omega (arith, b); stops = omega (arith, s); free = λ c. outside c (set_got R first y c.at c.role c.got); solid = a.solid; closed = a.closed; broken = a.broken }
          where
            a : IsWide t i R k r
            a = h.wide k r q w

            b : k < i
            b = a.before

            s : end_of r ≤ i
            s = a.stops

            outside : (c : IsIn (slice_set R first y) k) → ((first ≡ c.at) × (y ≡ c.role)) ⊎ (Other first c.at × (slice_get R c.at ≡ Some c.role)) → ⊥
            outside c (inl (p, z)) =
                let before : c.at < k = c.before in
                let narrow : end_of r ≤ suc k = narrow_space t i R first k spaces (omega (arith, p, before)) b h r q in
                omega (arith, narrow, w)
            outside c (inr (z, v)) = a.free (record { at = c.at; role = c.role; got = v; before = c.before; within = c.within })

-- at the front all roles are plain
got_plain : (n k : ℕ) (r : Role) → slice_get (replicate n Plain) k ≡ Some r → Plain ≡ r
got_plain zero k r e = absurd cc
got_plain (suc n) zero r e = let q : Plain ≡ r = cc in q
got_plain (suc n) (suc k) r e = got_plain n k r e

pub plain_feeds : (t : List ℕ) (n : ℕ) → Feeds t 0 (replicate n Plain)
plain_feeds t n = record { feeds = λ x r l b g. absurd (omega (arith, l)); wide = λ k r g w. absurd (none k r (got_plain n k r g) w) }
  where
    none : (k : ℕ) (r : Role) → Plain ≡ r → suc k < end_of r → ⊥
    none k r e w = let z : 0 ≡ end_of r = ap end_of e in omega (arith, z, w)

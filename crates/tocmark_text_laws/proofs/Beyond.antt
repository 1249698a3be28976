-- Blocks that have others in front, and then those of another list. The first one of these may be one of those in front.
use Rattle.std.proofs.Common.{◌≡◌, ℕ, zero, suc, ◌-◌, ◌<◌, Bool, true, false, List, [], ◌∷◌, ◌++◌, length, take, refl, ap, sym, ◌∙◌, subst, arith}
use Rattle.std.specs.Prelude.{slice_get, slice_set, if◌then◌else◌, Option, Some, None}
use Rattle.std.specs.List.{AllByRecursion}
use Rattle.std.specs.Option.{option_map_or}
use Rattle.tocmark_read_lines.specs.declared.container.Opened.{Opened}
use Rattle.tocmark_read_page.specs.Pages.{made_loose, loosened}
use Rattle.tocmark_read_page.specs.declared.page.Block.{Block}
use Rattle.tocmark_text_laws.proofs.Alls.{all_set, all_got, all_both, all_take}
use Rattle.tocmark_text_laws.proofs.Houses.{lists}
use Rattle.tocmark_text_laws.proofs.Pairs.{Pairs, PairOf, changed, changed_length, pairs_length, pairs_got, pairs_set, pairs_end}
use Rattle.tocmark_text_laws.proofs.Fronts.{Past, past, past_is, past_got, past_set, past_end, past_changed, past_place}

-- What is in front. With `Into`, the first of the other blocks isn't there: what it has is in the one at a place in front.
pub data Ahead : Type 0 where
  Before : List Block → Ahead
  Into : List Block → ℕ → Ahead

abbrev pub blocks_ahead : Ahead → List Block
blocks_ahead (Before fs) = fs
blocks_ahead (Into fs k) = fs

-- the place of another block
abbrev pub beyond : Ahead → ℕ → ℕ
beyond (Before fs) i = past fs i
beyond (Into fs k) zero = k
beyond (Into fs k) (suc i) = past fs i

-- the same block, which may have another end
abbrev pub SameBut : Block → Block → Type 0
SameBut x f = x ≡ record f { end = x.end }

abbrev pub Behind : List Block → (Block → Block → Type 0) → List Block → List Block → Type 0
Behind [] R xs ys = Pairs R xs ys
Behind (f ∷ fs) R [] ys = ⊥
Behind (f ∷ fs) R (x ∷ xs) ys = SameBut x f × Behind fs R xs ys

abbrev pub loose_at : ℕ → List Block → Bool
loose_at k bs = option_map_or (λ (b : Block). b.loose) (slice_get bs k) false

abbrev pub Beyond : Ahead → (Block → Block → Type 0) → List Block → List Block → Type 0
Beyond (Before fs) R xs ys = Past fs R xs ys
Beyond (Into fs k) R xs [] = ⊥
Beyond (Into fs k) R xs (y ∷ []) = ⊥
Beyond (Into fs k) R xs (y ∷ z ∷ zs) = (loose_at k fs ≡ true) × Behind fs R xs (z ∷ zs)

-- some in front, which may have other ends

behind_length : (fs : List Block) (R : Block → Block → Type 0) (xs ys : List Block) → Behind fs R xs ys → length xs ≡ past fs (length ys)
behind_length [] R xs ys h = pairs_length R xs ys h
behind_length (f ∷ fs) R [] ys h = absurd h
behind_length (f ∷ fs) R (x ∷ xs) ys h = ap suc (behind_length fs R xs ys (h.1))

behind_got : (fs : List Block) (R : Block → Block → Type 0) (i : ℕ) (xs ys : List Block) → Behind fs R xs ys → PairOf R (slice_get xs (past fs i)) (slice_get ys i)
behind_got [] R i xs ys h = pairs_got R i xs ys h
behind_got (f ∷ fs) R i [] ys h = absurd h
behind_got (f ∷ fs) R i (x ∷ xs) ys h = behind_got fs R i xs ys (h.1)

behind_set : (fs : List Block) (R : Block → Block → Type 0) (i : ℕ) (a b : Block) → R a b → (xs ys : List Block) → Behind fs R xs ys → Behind fs R (slice_set xs (past fs i) a) (slice_set ys i b)
behind_set [] R i a b k xs ys h = pairs_set R i a b k xs ys h
behind_set (f ∷ fs) R i a b k [] ys h = absurd h
behind_set (f ∷ fs) R i a b k (x ∷ xs) ys h = (h.0, behind_set fs R i a b k xs ys (h.1))

behind_end : (fs : List Block) (R : Block → Block → Type 0) (a b : Block) → R a b → (xs ys : List Block) → Behind fs R xs ys → Behind fs R (xs ++ a ∷ []) (ys ++ b ∷ [])
behind_end [] R a b k xs ys h = pairs_end R a b k xs ys h
behind_end (f ∷ fs) R a b k [] ys h = absurd h
behind_end (f ∷ fs) R a b k (x ∷ xs) ys h = (h.0, behind_end fs R a b k xs ys (h.1))

behind_changed : (fs : List Block) (R : Block → Block → Type 0) (i : ℕ) (f g : Block → Block) → ((x y : Block) → R x y → R (f x) (g y)) → (xs ys : List Block) → Behind fs R xs ys → Behind fs R (changed (past fs i) f xs) (changed i g ys)
behind_changed fs R i f g k xs ys h = by (slice_get xs (past fs i)) (slice_get ys i) (behind_got fs R i xs ys h)
  where
    by : (o p : Option Block) → PairOf R o p → Behind fs R (option_map_or (λ z. slice_set xs (past fs i) (f z)) o xs) (option_map_or (λ y. slice_set ys i (g y)) p ys)
    by None None u = h
    by None (Some y) u = absurd u
    by (Some z) None u = absurd u
    by (Some z) (Some y) u = behind_set fs R i (f z) (g y) (k z y u) xs ys h

changed_later : (i : ℕ) (f : Block → Block) (x : Block) (xs : List Block) → changed (suc i) f (x ∷ xs) ≡ x ∷ changed i f xs
changed_later i f x xs = by (slice_get xs i)
  where
    by : (o : Option Block) → option_map_or (λ (y : Block). slice_set (x ∷ xs) (suc i) (f y)) o (x ∷ xs) ≡ x ∷ option_map_or (λ (y : Block). slice_set xs i (f y)) o xs
    by None = refl
    by (Some y) = refl

-- a loose one of those in front changes
behind_front : (fs : List Block) (R : Block → Block → Type 0) (k : ℕ) (f : Block → Block) → ((x : Block) → x.loose ≡ true → SameBut (f x) x) → loose_at k fs ≡ true → (xs ys : List Block) → Behind fs R xs ys → Behind fs R (changed k f xs) ys
behind_front [] R k f s e xs ys h = absurd cc
behind_front (g ∷ gs) R k f s e [] ys h = absurd h
behind_front (g ∷ gs) R zero f s e (x ∷ xs) ys h = (s x (ap (λ (b : Block). b.loose) (h.0) ∙ e) ∙ ap (λ (b : Block). record b { end = (f x).end }) (h.0), h.1)
behind_front (g ∷ gs) R (suc k) f s e (x ∷ xs) ys h = subst (λ zs. Behind (g ∷ gs) R zs ys) (sym (changed_later k f x xs)) (h.0, behind_front gs R k f s e xs ys (h.1))

-- a relation that says less
pairs_weaker : (R S : Block → Block → Type 0) → ((x y : Block) → R x y → S x y) → (xs ys : List Block) → Pairs R xs ys → Pairs S xs ys
pairs_weaker R S s [] [] h = tt
pairs_weaker R S s [] (y ∷ ys) h = absurd h
pairs_weaker R S s (x ∷ xs) [] h = absurd h
pairs_weaker R S s (x ∷ xs) (y ∷ ys) h = (s x y (h.0), pairs_weaker R S s xs ys (h.1))

past_weaker : (fs : List Block) (R S : Block → Block → Type 0) → ((x y : Block) → R x y → S x y) → (xs ys : List Block) → Past fs R xs ys → Past fs S xs ys
past_weaker [] R S s xs ys h = pairs_weaker R S s xs ys h
past_weaker (f ∷ fs) R S s [] ys h = absurd h
past_weaker (f ∷ fs) R S s (x ∷ xs) ys h = (h.0, past_weaker fs R S s xs ys (h.1))

behind_weaker : (fs : List Block) (R S : Block → Block → Type 0) → ((x y : Block) → R x y → S x y) → (xs ys : List Block) → Behind fs R xs ys → Behind fs S xs ys
behind_weaker [] R S s xs ys h = pairs_weaker R S s xs ys h
behind_weaker (f ∷ fs) R S s [] ys h = absurd h
behind_weaker (f ∷ fs) R S s (x ∷ xs) ys h = (h.0, behind_weaker fs R S s xs ys (h.1))

-- both

last_place : (y z : Block) (zs : List Block) → length (y ∷ z ∷ zs) - 1 ≡ suc (length zs)
last_place y z zs = omega arith

pub beyond_place : (g : Ahead) (R : Block → Block → Type 0) (xs ys : List Block) → Beyond g R xs ys → 0 < length ys → length xs - 1 ≡ beyond g (length ys - 1)
beyond_place (Before fs) R xs ys h some = past_place fs R xs ys h some
beyond_place (Into fs k) R xs [] h some = absurd h
beyond_place (Into fs k) R xs (y ∷ []) h some = absurd h
beyond_place (Into fs k) R xs (y ∷ z ∷ zs) h some =
    (let e : length xs - 1 ≡ past fs (length zs) = omega (arith, behind_length fs R xs (z ∷ zs) (h.1), past_is fs (length (z ∷ zs)), past_is fs (length zs)) in e)
    ∙ sym (ap (beyond (Into fs k)) (last_place y z zs))

-- the last one
pub beyond_got : (g : Ahead) (R : Block → Block → Type 0) (xs ys : List Block) → Beyond g R xs ys → PairOf R (slice_get xs (beyond g (length ys - 1))) (slice_get ys (length ys - 1))
beyond_got (Before fs) R xs ys h = past_got fs R (length ys - 1) xs ys h
beyond_got (Into fs k) R xs [] h = absurd h
beyond_got (Into fs k) R xs (y ∷ []) h = absurd h
beyond_got (Into fs k) R xs (y ∷ z ∷ zs) h = subst (λ n. PairOf R (slice_get xs (beyond (Into fs k) n)) (slice_get (y ∷ z ∷ zs) n)) (sym (last_place y z zs)) (behind_got fs R (length zs) xs (z ∷ zs) (h.1))

pub beyond_set : (g : Ahead) (R : Block → Block → Type 0) (a b : Block) → R a b → (xs ys : List Block) → Beyond g R xs ys → Beyond g R (slice_set xs (beyond g (length ys - 1)) a) (slice_set ys (length ys - 1) b)
beyond_set (Before fs) R a b r xs ys h = past_set fs R (length ys - 1) a b r xs ys h
beyond_set (Into fs k) R a b r xs [] h = absurd h
beyond_set (Into fs k) R a b r xs (y ∷ []) h = absurd h
beyond_set (Into fs k) R a b r xs (y ∷ z ∷ zs) h = subst (λ n. Beyond (Into fs k) R (slice_set xs (beyond (Into fs k) n) a) (slice_set (y ∷ z ∷ zs) n b)) (sym (last_place y z zs)) (by zs (h.1))
  where
    by : (ws : List Block) → Behind fs R xs (z ∷ ws) → Beyond (Into fs k) R (slice_set xs (past fs (length ws)) a) (y ∷ slice_set (z ∷ ws) (length ws) b)
    by [] g = (h.0, behind_set fs R 0 a b r xs (z ∷ []) g)
    by (w ∷ ws) g = (h.0, behind_set fs R (suc (length ws)) a b r xs (z ∷ w ∷ ws) g)

pub beyond_end : (g : Ahead) (R : Block → Block → Type 0) (a b : Block) → R a b → (xs ys : List Block) → Beyond g R xs ys → Beyond g R (xs ++ a ∷ []) (ys ++ b ∷ [])
beyond_end (Before fs) R a b r xs ys h = past_end fs R a b r xs ys h
beyond_end (Into fs k) R a b r xs [] h = absurd h
beyond_end (Into fs k) R a b r xs (y ∷ []) h = absurd h
beyond_end (Into fs k) R a b r xs (y ∷ z ∷ zs) h = (h.0, behind_end fs R a b r xs (z ∷ zs) (h.1))

pub beyond_last : (g : Ahead) (R : Block → Block → Type 0) (f h : Block → Block) → ((x y : Block) → R x y → R (f x) (h y)) → (xs ys : List Block) → Beyond g R xs ys → 0 < length ys → Beyond g R (changed (length xs - 1) f xs) (changed (length ys - 1) h ys)
beyond_last g R f h s xs ys r some = subst (λ n. Beyond g R (changed n f xs) (changed (length ys - 1) h ys)) (sym (beyond_place g R xs ys r some)) (by (slice_get xs (beyond g (length ys - 1))) (slice_get ys (length ys - 1)) (beyond_got g R xs ys r))
  where
    by : (o p : Option Block) → PairOf R o p → Beyond g R (option_map_or (λ z. slice_set xs (beyond g (length ys - 1)) (f z)) o xs) (option_map_or (λ y. slice_set ys (length ys - 1) (h y)) p ys)
    by None None u = r
    by None (Some y) u = absurd u
    by (Some z) None u = absurd u
    by (Some z) (Some y) u = beyond_set g R (f z) (h y) (s z y u) xs ys r

-- any one
pub beyond_changed : (g : Ahead) (R : Block → Block → Type 0) (i : ℕ) (f h : Block → Block) → ((x y : Block) → R x y → R (f x) (h y)) → ((x : Block) → x.loose ≡ true → SameBut (f x) x) → (xs ys : List Block) → Beyond g R xs ys → Beyond g R (changed (beyond g i) f xs) (changed i h ys)
beyond_changed (Before fs) R i f h s t xs ys r = past_changed fs R i f h s xs ys r
beyond_changed (Into fs k) R i f h s t xs [] r = absurd r
beyond_changed (Into fs k) R i f h s t xs (y ∷ []) r = absurd r
beyond_changed (Into fs k) R zero f h s t xs (y ∷ z ∷ zs) r = (r.0, behind_front fs R k f t (r.0) xs (z ∷ zs) (r.1))
beyond_changed (Into fs k) R (suc i) f h s t xs (y ∷ z ∷ zs) r =
    subst (λ ws. Beyond (Into fs k) R (changed (past fs i) f xs) ws) (sym (changed_later i h y (z ∷ zs))) (by (changed i h (z ∷ zs)) (behind_changed fs R i f h s xs (z ∷ zs) (r.1)) (omega (arith, changed_length i h (z ∷ zs))))
  where
    by : (ws : List Block) → Behind fs R (changed (past fs i) f xs) ws → 0 < length ws → Beyond (Into fs k) R (changed (past fs i) f xs) (y ∷ ws)
    by [] b some = absurd (omega (arith, some))
    by (w ∷ ws) b some = (r.0, b)

pub beyond_weaker : (g : Ahead) (R S : Block → Block → Type 0) → ((x y : Block) → R x y → S x y) → (xs ys : List Block) → Beyond g R xs ys → Beyond g S xs ys
beyond_weaker (Before fs) R S s xs ys h = past_weaker fs R S s xs ys h
beyond_weaker (Into fs k) R S s xs [] h = absurd h
beyond_weaker (Into fs k) R S s xs (y ∷ []) h = absurd h
beyond_weaker (Into fs k) R S s xs (y ∷ z ∷ zs) h = (h.0, behind_weaker fs R S s xs (z ∷ zs) (h.1))

-- the list in front becomes loose, or stays
pub beyond_loose : (fs : List Block) (k : ℕ) (R : Block → Block → Type 0) (a b : Bool) (xs ys : List Block) → Beyond (Into fs k) R xs ys → Beyond (Into fs k) R (loosened (Some k) a xs) (loosened (Some 0) b ys)
unfolding loosened
beyond_loose fs k R a b xs [] h = absurd h
beyond_loose fs k R a b xs (y ∷ []) h = absurd h
beyond_loose fs k R a b xs (y ∷ z ∷ zs) h = by a b
  where
    marked : Block → Block
    marked x = record x { loose = true }

    same : (x : Block) → x.loose ≡ true → SameBut (marked x) x
    same x e = ap (λ l. record x { loose = l }) (sym e)

    in_front : Behind fs R (made_loose xs k) (z ∷ zs)
    in_front = behind_front fs R k marked same (h.0) xs (z ∷ zs) (h.1)

    by : (c d : Bool) → Beyond (Into fs k) R (if c then made_loose xs k else xs) (if d then made_loose (y ∷ z ∷ zs) 0 else (y ∷ z ∷ zs))
    by true true = (h.0, in_front)
    by true false = (h.0, in_front)
    by false true = h
    by false false = h

-- which containers are open

-- a container is the list that is in front
abbrev pub IsOuter : Ahead → Opened → Type 0
IsOuter (Before fs) o = ⊥
IsOuter (Into fs k) o = (o.block ≡ 0) × (lists o.container ≡ true)

-- a block isn't that list
abbrev pub Later : Ahead → ℕ → Type 0
Later (Before fs) i = Unit
Later (Into fs k) i = 0 < i

-- only the outermost container is that list
abbrev pub Inner : Ahead → List Opened → Type 0
Inner g [] = Unit
Inner g (o ∷ os) = AllByRecursion (λ (x : Opened). Later g x.block) os

pub beyond_later : (g : Ahead) (R : Block → Block → Type 0) (xs ys : List Block) → Beyond g R xs ys → Later g (length ys - 1)
beyond_later (Before fs) R xs ys h = tt
beyond_later (Into fs k) R xs [] h = absurd h
beyond_later (Into fs k) R xs (y ∷ []) h = absurd h
beyond_later (Into fs k) R xs (y ∷ z ∷ zs) h = omega arith

pub inner_changed : (g : Ahead) (i : ℕ) (f : Opened → Opened) → ((o : Opened) → (f o).block ≡ o.block) → (os : List Opened) → Inner g os → Inner g (changed i f os)
inner_changed g i f s [] h = tt
inner_changed g zero f s (o ∷ os) h = h
inner_changed g (suc i) f s (o ∷ os) h = by (slice_get os i) refl
  where
    by : (p : Option Opened) → slice_get os i ≡ p → Inner g (option_map_or (λ (x : Opened). slice_set (o ∷ os) (suc i) (f x)) p (o ∷ os))
    by None e = h
    by (Some x) e = all_set (λ (x : Opened). Later g x.block) os i (f x) h (subst (Later g) (sym (s x)) (all_got (λ (x : Opened). Later g x.block) os i x h e))

pub inner_take : (g : Ahead) (n : ℕ) (os : List Opened) → Inner g os → Inner g (take n os)
inner_take g zero os h = tt
inner_take g (suc n) [] h = tt
inner_take g (suc n) (o ∷ os) h = all_take (λ (x : Opened). Later g x.block) n os h

pub inner_end : (g : Ahead) (o : Opened) → Later g o.block → (os : List Opened) → Inner g os → Inner g (os ++ o ∷ [])
inner_end g o l [] h = tt
inner_end g o l (x ∷ xs) h = all_both (λ (x : Opened). Later g x.block) xs (o ∷ []) h (l, tt)

-- if the innermost container is that list, no other one is open
pub outer_alone : (g : Ahead) (os : List Opened) (o : Opened) → Inner g os → slice_get os (length os - 1) ≡ Some o → IsOuter g o → length os - 1 ≡ 0
outer_alone (Before fs) os o h e u = absurd u
outer_alone (Into fs k) [] o h e u = omega arith
outer_alone (Into fs k) (x ∷ []) o h e u = omega arith
outer_alone (Into fs k) (x ∷ y ∷ ys) o h e u =
    let w : 0 < o.block = all_got (λ (x : Opened). 0 < x.block) (y ∷ ys) (length ys) o h (ap (slice_get (x ∷ y ∷ ys)) (let z : suc (length ys) ≡ length (x ∷ y ∷ ys) - 1 = omega arith in z) ∙ e) in
    let z : o.block ≡ 0 = u.0 in
    absurd (omega (arith, w, z))

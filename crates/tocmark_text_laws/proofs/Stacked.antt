-- Blocks that nest, with some containers open.
use Rattle.std.proofs.Common.{◌≡◌, ℕ, zero, suc, ◌<◌, ◌≤◌, Bool, true, false, cond, if◌then◌else◌, nat_lt, nat_le, List, [], ◌∷◌, ◌++◌, length, map, take, refl, ap, sym, ◌∙◌, subst, arith, append_assoc, true≢false}
use Rattle.std.specs.Prelude.{slice_get, slice_set, take_while, Option, Some, None}
use Rattle.std.specs.Option.{option_map_or}
use Rattle.std.specs.List.{AllByRecursion}
use Rattle.std.proofs.Math.Nat.{le-max_left, le-max_right}
use Rattle.std.proofs.lemmas.Bool.Decides.{nat_tests}
use Rattle.std.proofs.lemmas.List.Sums.{take_while-cons}
use Rattle.tocmark_read_lines.specs.Containers.{raised, raised_at, touched_from}
use Rattle.tocmark_read_lines.specs.declared.container.Opened.{Opened}
use Rattle.tocmark_read_page.specs.declared.page.Block.{Block}
use Rattle.tocmark_text_laws.specs.Nested.{IsWithin, inner, Nest}
use Rattle.tocmark_text_laws.proofs.Alls.{all_both, all_weaker}
use Rattle.tocmark_text_laws.proofs.Lists.{while_map}

-- what nesting asks of a block
pub record Extent : Type 0 where
  pub depth : ℕ
  pub start : ℕ
  pub end : ℕ

abbrev pub extent : Block → Extent
extent b = record { depth = b.depth; start = b.start; end = b.end }

abbrev pub extents : List Block → List Extent
extents bs = map extent bs

abbrev pub In : Extent → Extent → Type 0
In b c = (b.start ≤ c.start) × (c.end ≤ b.end)

abbrev pub deeper : Extent → Extent → Bool
deeper b c = nat_lt b.depth c.depth

abbrev pub Nests : List Extent → Type 0
Nests [] = Unit
Nests (b ∷ bs) = AllByRecursion (In b) (take_while (deeper b) bs) × Nests bs

all_true : (Q : Extent → Type 0) (xs : List Extent) → ((x : Extent) → Q x) → AllByRecursion Q xs
all_true Q [] f = tt
all_true Q (x ∷ xs) f = (f x, all_true Q xs f)

all_while : (Q : Extent → Type 0) (p : Extent → Bool) (xs : List Extent) → AllByRecursion Q xs → AllByRecursion Q (take_while p xs)
all_while Q p [] h = tt
all_while Q p (x ∷ xs) h = subst (AllByRecursion Q) (sym (take_while-cons p x xs)) (by (p x) (all_while Q p xs (h.1)))
  where
    by : (b : Bool) → AllByRecursion Q (take_while p xs) → AllByRecursion Q (cond b (x ∷ take_while p xs) [])
    by true k = (h.0, k)
    by false k = tt

-- a list that goes on with one that doesn't pass
while_stops : (Q : Extent → Type 0) (p : Extent → Bool) (xs : List Extent) (y : Extent) (ys : List Extent) → p y ≡ false → AllByRecursion Q (take_while p xs) → AllByRecursion Q (take_while p (xs ++ y ∷ ys))
while_stops Q p [] y ys e h = subst (AllByRecursion Q) (sym (take_while-cons p y ys)) (by (p y) e)
  where
    by : (b : Bool) → b ≡ false → AllByRecursion Q (cond b (y ∷ take_while p ys) [])
    by true k = absurd (true≢false k)
    by false k = tt
while_stops Q p (x ∷ xs) y ys e h = subst (AllByRecursion Q) (sym (take_while-cons p x (xs ++ y ∷ ys))) (by (p x) (subst (AllByRecursion Q) (take_while-cons p x xs) h) (λ k. while_stops Q p xs y ys e k))
  where
    by : (b : Bool) → AllByRecursion Q (cond b (x ∷ take_while p xs) []) → (AllByRecursion Q (take_while p xs) → AllByRecursion Q (take_while p (xs ++ y ∷ ys))) → AllByRecursion Q (cond b (x ∷ take_while p (xs ++ y ∷ ys)) [])
    by true k f = (k.0, f (k.1))
    by false k f = tt

-- a block comes after others that aren't less deep, with all that it contains
nest_after : (xs : List Extent) (b : Extent) (ys : List Extent) → Nests xs → AllByRecursion (λ (x : Extent). b.depth ≤ x.depth) xs → AllByRecursion (In b) ys → Nests ys → Nests (xs ++ b ∷ ys)
nest_after [] b ys h d i k = (all_while (In b) (deeper b) ys i, k)
nest_after (x ∷ xs) b ys h d i k = let l : b.depth ≤ x.depth = d.0 in let e : nat_lt x.depth b.depth ≡ false = grind (arith, nat_tests) in (while_stops (In x) (deeper x) xs b ys e (h.0), nest_after xs b ys (h.1) (d.1) i k)

-- a block in an open container
pub record Inner (k : ℕ) (b : Extent) (o : Opened) (c : Extent) : Type 0 where
  pub deep : suc k ≤ c.depth
  pub starts : b.start ≤ c.start
  pub ends : c.end ≤ o.end

-- the innermost of open containers, which begins not after a place, and the blocks before it and in it
pub record Layer (k f : ℕ) (os : List Opened) (bs pre : List Extent) (b : Extent) (seg : List Extent) (o : Opened) : Type 0 where
  pub split : bs ≡ pre ++ b ∷ seg
  pub got : slice_get os k ≡ Some o
  pub block : o.block ≡ length pre
  pub depth : b.depth ≡ k
  pub floor : b.start ≤ f
  pub nest : Nests seg
  pub inside : AllByRecursion (Inner k b o) seg

-- blocks among which so many containers are open
abbrev pub Stack : ℕ → ℕ → List Opened → List Extent → Type 0
Stack zero f os bs = Nests bs
Stack (suc k) f os bs = (pre : List Extent) × (b : Extent) × (seg : List Extent) × (o : Opened) × Layer k f os bs pre b seg o × Stack k b.start os pre

-- the first containers are the same or reach further
abbrev pub Grows : ℕ → List Opened → List Opened → Type 0
Grows k os us = (i : ℕ) (o : Opened) → i < k → slice_get os i ≡ Some o → (u : Opened) × (slice_get us i ≡ Some u) × (u.block ≡ o.block) × (o.end ≤ u.end)

inner_weaker : (k : ℕ) (b : Extent) (o u : Opened) (seg : List Extent) → o.end ≤ u.end → AllByRecursion (Inner k b o) seg → AllByRecursion (Inner k b u) seg
inner_weaker k b o u seg l h = all_weaker (Inner k b o) (Inner k b u) seg (λ c w. record { deep = w.deep; starts = w.starts; ends = let q : c.end ≤ o.end = w.ends in omega arith }) h

pub stack_grows : (k f g : ℕ) (os us : List Opened) (bs : List Extent) → f ≤ g → Grows k os us → Stack k f os bs → Stack k g us bs
stack_grows zero f g os us bs l gr h = h
stack_grows (suc k) f g os us bs l gr (pre, b, seg, o, w, r) = by (gr k o (omega arith) w.got) (stack_grows k b.start b.start os us pre (omega arith) (λ i x m e. gr i x (omega arith) e) r)
  where
    by : (u : Opened) × (slice_get us k ≡ Some u) × (u.block ≡ o.block) × (o.end ≤ u.end) → Stack k b.start us pre → Stack (suc k) g us bs
    by (u, e, q, m) s = (
      pre,
      b,
      seg,
      u,
      record {
        split = w.split;
        got = e;
        block = q ∙ w.block;
        depth = w.depth;
        floor = let a : b.start ≤ f = w.floor in omega arith;
        nest = w.nest;
        inside = inner_weaker k b o u seg m w.inside;
      },
      s,
    )

-- a closed block comes into the innermost container
pub stack_push : (k f : ℕ) (os : List Opened) (bs : List Extent) (c : Extent) → c.depth ≡ k → f ≤ c.start → ((j : ℕ) (o : Opened) → suc j ≡ k → slice_get os j ≡ Some o → c.end ≤ o.end) → Stack k f os bs → Stack k f os (bs ++ c ∷ [])
stack_push zero f os bs c d l e h = nest_after bs c [] h (all_true (λ (x : Extent). c.depth ≤ x.depth) bs (λ x. omega arith)) tt tt
stack_push (suc k) f os bs c d l e (pre, b, seg, o, w, r) = (
  pre,
  b,
  seg ++ c ∷ [],
  o,
  record {
    split = ap (λ xs. xs ++ c ∷ []) w.split ∙ append_assoc pre (b ∷ seg) (c ∷ []);
    got = w.got;
    block = w.block;
    depth = w.depth;
    floor = w.floor;
    nest = nest_after seg c [] w.nest (all_weaker (Inner k b o) (λ (x : Extent). c.depth ≤ x.depth) seg (λ x i. let q : suc k ≤ x.depth = i.deep in omega arith) w.inside) tt tt;
    inside = all_both (Inner k b o) seg (c ∷ []) w.inside (record { deep = omega arith; starts = let q : b.start ≤ f = w.floor in omega arith; ends = e k o refl w.got }, tt);
  },
  r,
)

-- a container begins in the innermost one
pub stack_open : (k f : ℕ) (os us : List Opened) (bs : List Extent) (b : Extent) (o : Opened) → b.depth ≡ k → f ≤ b.start → slice_get us k ≡ Some o → o.block ≡ length bs → Grows k os us → Stack k f os bs → Stack (suc k) b.start us (bs ++ b ∷ [])
stack_open k f os us bs b o d l e q gr h = (bs, b, [], o, record { split = refl; got = e; block = q; depth = d; floor = omega arith; nest = tt; inside = tt }, stack_grows k f b.start os us bs l gr h)

-- the innermost container ends
abbrev pub ended_at : Extent → ℕ → Extent
ended_at b e = record { depth = b.depth; start = b.start; end = e }

all_in : (k : ℕ) (b : Extent) (o : Opened) (seg : List Extent) → AllByRecursion (Inner k b o) seg → AllByRecursion (In (ended_at b o.end)) seg
all_in k b o seg h = all_weaker (Inner k b o) (In (ended_at b o.end)) seg (λ c i. (i.starts, i.ends)) h

pub stack_close : (k f : ℕ) (os us : List Opened) (pre : List Extent) (b : Extent) (seg : List Extent) (o : Opened) (bs : List Extent) → Layer k f os bs pre b seg o → Stack k b.start os pre → Grows k os us
    → ((j : ℕ) (u : Opened) → suc j ≡ k → slice_get us j ≡ Some u → o.end ≤ u.end) → Stack k f us (pre ++ record { depth = b.depth; start = b.start; end = o.end } ∷ seg)
stack_close zero f os us pre b seg o bs w r gr m = nest_after pre (ended_at b o.end) seg r (all_true (λ (x : Extent). b.depth ≤ x.depth) pre (λ x. let q : b.depth ≡ 0 = w.depth in omega arith)) (all_in 0 b o seg w.inside) w.nest
stack_close (suc j) f os us pre b seg o bs w (pre2, b2, seg2, o2, v, r) gr m = by (gr j o2 (omega arith) v.got)
  where
    closed : Extent
    closed = record { depth = b.depth; start = b.start; end = o.end }

    d : b.depth ≡ suc j
    d = w.depth

    l : b2.start ≤ b.start
    l = v.floor

    by : (u : Opened) × (slice_get us j ≡ Some u) × (u.block ≡ o2.block) × (o2.end ≤ u.end) → Stack (suc j) f us (pre ++ closed ∷ seg)
    by (u, e, q, n) = (
      pre2,
      b2,
      seg2 ++ closed ∷ seg,
      u,
      record {
        split = ap (λ xs. xs ++ closed ∷ seg) v.split ∙ append_assoc pre2 (b2 ∷ seg2) (closed ∷ seg);
        got = e;
        block = q ∙ v.block;
        depth = v.depth;
        floor = let a : b.start ≤ f = w.floor in omega arith;
        nest = nest_after seg2 closed seg v.nest (all_weaker (Inner j b2 o2) (λ (x : Extent). b.depth ≤ x.depth) seg2 (λ x i. let a : suc j ≤ x.depth = i.deep in omega arith) v.inside) (all_in (suc j) b o seg w.inside) w.nest;
        inside = all_both (Inner j b2 u) seg2 (closed ∷ seg) (inner_weaker j b2 o2 u seg2 n v.inside) (
          record { deep = omega arith; starts = l; ends = m j u refl e },
          all_weaker (Inner (suc j) b o) (Inner j b2 u) seg (λ c i. record {
            deep = let a : suc (suc j) ≤ c.depth = i.deep in omega arith;
            starts = let a : b.start ≤ c.start = i.starts in omega arith;
            ends = let a : c.end ≤ o.end = i.ends in let x : o.end ≤ u.end = m j u refl e in omega arith;
          }) w.inside,
        );
      },
      stack_grows j b2.start b2.start os us pre2 (omega arith) (λ i x a y. gr i x (omega arith) y) r,
    )

-- how a list of containers grows
pub same_grows : (k : ℕ) (os : List Opened) → Grows k os os
same_grows k os i o l e = (o, e, refl, omega arith)

pub both_grow : (k : ℕ) (os us vs : List Opened) → Grows k os us → Grows k us vs → Grows k os vs
both_grow k os us vs f g i o l e = by (f i o l e)
  where
    next : (u : Opened) → u.block ≡ o.block → o.end ≤ u.end → (v : Opened) × (slice_get vs i ≡ Some v) × (v.block ≡ u.block) × (u.end ≤ v.end) → (v : Opened) × (slice_get vs i ≡ Some v) × (v.block ≡ o.block) × (o.end ≤ v.end)
    next u q m (v, e, b, n) = (v, e, b ∙ q, omega arith)

    by : (u : Opened) × (slice_get us i ≡ Some u) × (u.block ≡ o.block) × (o.end ≤ u.end) → (v : Opened) × (slice_get vs i ≡ Some v) × (v.block ≡ o.block) × (o.end ≤ v.end)
    by (u, e, q, m) = next u q m (g i u l e)

set_grows : (k : ℕ) (os : List Opened) (i : ℕ) (o u : Opened) → slice_get os i ≡ Some o → u.block ≡ o.block → o.end ≤ u.end → Grows k os (slice_set os i u)
set_grows k [] i o u e q m j x l h = absurd cc
set_grows k (y ∷ ys) zero o u e q m zero x l h = let a : y ≡ o = cc in let b : y ≡ x = cc in let c : o ≡ x = sym a ∙ b in (u, refl, q ∙ ap (λ (z : Opened). z.block) c, subst (λ (z : Opened). z.end ≤ u.end) c m)
set_grows k (y ∷ ys) zero o u e q m (suc j) x l h = (x, h, refl, omega arith)
set_grows k (y ∷ ys) (suc i) o u e q m zero x l h = (x, h, refl, omega arith)
set_grows k (y ∷ ys) (suc i) o u e q m (suc j) x l h = set_grows k ys i o u e q m j x (omega arith) h

-- a change of a container that keeps its block, and doesn't take from its end
pub changed_grows : (k : ℕ) (os : List Opened) (i : ℕ) (f : Opened → Opened) → ((o : Opened) → ((f o).block ≡ o.block) × (o.end ≤ (f o).end)) → Grows k os (option_map_or (λ (o : Opened). slice_set os i (f o)) (slice_get os i) os)
changed_grows k os i f c = by (slice_get os i) refl
  where
    by : (x : Option Opened) → slice_get os i ≡ x → Grows k os (option_map_or (λ (o : Opened). slice_set os i (f o)) x os)
    by None e = same_grows k os
    by (Some o) e = set_grows k os i o (f o) e ((c o).0) ((c o).1)

pub raised_grows : (k : ℕ) (os : List Opened) (i e l : ℕ) → Grows k os (raised_at os i e l)
unfolding raised_at raised
raised_grows k os i e l = changed_grows k os i (λ (o : Opened). raised o e l) (λ o. (refl, le-max_left o.end e))

pub touched_grows : (k count e l : ℕ) (qs : List ℕ) (os : List Opened) → Grows k os (touched_from count e l qs os)
touched_grows k count e l [] os = same_grows k os
touched_grows k count e l (q ∷ qs) os = by (nat_le count q) (both_grow k os (raised_at os q e l) (touched_from count e l qs (raised_at os q e l)) (raised_grows k os q e l) (touched_grows k count e l qs (raised_at os q e l)))
  where
    by : (x : Bool) → Grows k os (touched_from count e l qs (raised_at os q e l)) → Grows k os (if x then os else touched_from count e l qs (raised_at os q e l))
    by true g = same_grows k os
    by false g = g

set_length : (os : List Opened) (i : ℕ) (u : Opened) → length (slice_set os i u) ≡ length os
set_length [] i u = refl
set_length (y ∷ ys) zero u = refl
set_length (y ∷ ys) (suc i) u = ap suc (set_length ys i u)

pub changed_length : (os : List Opened) (i : ℕ) (f : Opened → Opened) → length (option_map_or (λ (o : Opened). slice_set os i (f o)) (slice_get os i) os) ≡ length os
changed_length os i f = by (slice_get os i)
  where
    by : (x : Option Opened) → length (option_map_or (λ (o : Opened). slice_set os i (f o)) x os) ≡ length os
    by None = refl
    by (Some o) = set_length os i (f o)

pub raised_length : (os : List Opened) (i e l : ℕ) → length (raised_at os i e l) ≡ length os
unfolding raised_at
raised_length os i e l = changed_length os i (λ (o : Opened). raised o e l)

pub touched_length : (count e l : ℕ) (qs : List ℕ) (os : List Opened) → length (touched_from count e l qs os) ≡ length os
touched_length count e l [] os = refl
touched_length count e l (q ∷ qs) os = by (nat_le count q) (touched_length count e l qs (raised_at os q e l) ∙ raised_length os q e l)
  where
    by : (x : Bool) → length (touched_from count e l qs (raised_at os q e l)) ≡ length os → length (if x then os else touched_from count e l qs (raised_at os q e l)) ≡ length os
    by true e = refl
    by false e = e

set_got : (os : List Opened) (i : ℕ) (o u v : Opened) → slice_get os i ≡ Some o → slice_get (slice_set os i u) i ≡ Some v → u ≡ v
set_got [] i o u v e h = absurd cc
set_got (y ∷ ys) zero o u v e h = cc
set_got (y ∷ ys) (suc i) o u v e h = set_got ys i o u v e h

-- a container that was raised reaches to the place
pub raised_reaches : (os : List Opened) (i e l : ℕ) (u : Opened) → slice_get (raised_at os i e l) i ≡ Some u → e ≤ u.end
unfolding raised_at raised
raised_reaches os i e l u h = by (slice_get os i) refl h
  where
    by : (x : Option Opened) → slice_get os i ≡ x → slice_get (option_map_or (λ (o : Opened). slice_set os i (raised o e l)) x os) i ≡ Some u → e ≤ u.end
    by None q k = absurd cc
    by (Some o) q k = subst (λ (v : Opened). e ≤ v.end) (set_got os i o (raised o e l) u q k) (le-max_right o.end e)

pub taken_grows : (k : ℕ) (os : List Opened) → Grows k os (take k os)
taken_grows zero os i o l e = absurd (omega arith)
taken_grows (suc k) [] i o l e = absurd cc
taken_grows (suc k) (y ∷ ys) zero o l e = (o, e, refl, omega arith)
taken_grows (suc k) (y ∷ ys) (suc i) o l e = taken_grows k ys i o (omega arith) e

pub more_grows : (k : ℕ) (os us : List Opened) → Grows k os (os ++ us)
more_grows k [] us i o l e = absurd cc
more_grows k (y ∷ ys) us zero o l e = (o, e, refl, omega arith)
more_grows k (y ∷ ys) us (suc i) o l e = more_grows k ys us i o (omega arith) e

-- the end of a block among others
pub ended_split : (bs : List Block) (pre : List Extent) (b : Extent) (seg : List Extent) (e : ℕ) → extents bs ≡ pre ++ b ∷ seg
    → extents (option_map_or (λ (x : Block). slice_set bs (length pre) (record x { end = e })) (slice_get bs (length pre)) bs) ≡ pre ++ record { depth = b.depth; start = b.start; end = e } ∷ seg
ended_split [] [] b seg e h = absurd cc
ended_split [] (p ∷ pre) b seg e h = absurd cc
ended_split (x ∷ xs) [] b seg e h = heads h
  where
    heads : extent x ∷ extents xs ≡ b ∷ seg → record { depth = x.depth; start = x.start; end = e } ∷ extents xs ≡ record { depth = b.depth; start = b.start; end = e } ∷ seg
    heads q = let a : extent x ≡ b = cc in let c : extents xs ≡ seg = cc in ap (λ (y : Extent). record { depth = y.depth; start = y.start; end = e } ∷ extents xs) a ∙ ap (λ ys. record { depth = b.depth; start = b.start; end = e } ∷ ys) c
ended_split (x ∷ xs) (p ∷ pre) b seg e h = by (slice_get xs (length pre)) (ended_split xs pre b seg e tails)
  where
    tails : extents xs ≡ pre ++ b ∷ seg
    tails = cc

    first : extent x ≡ p
    first = cc

    by : (o : Option Block) → extents (option_map_or (λ (y : Block). slice_set xs (length pre) (record y { end = e })) o xs) ≡ pre ++ record { depth = b.depth; start = b.start; end = e } ∷ seg
        → extents (option_map_or (λ (y : Block). slice_set (x ∷ xs) (suc (length pre)) (record y { end = e })) o (x ∷ xs)) ≡ p ∷ (pre ++ record { depth = b.depth; start = b.start; end = e } ∷ seg)
    by None q = ap (λ ys. extent x ∷ ys) q ∙ ap (λ y. y ∷ (pre ++ record { depth = b.depth; start = b.start; end = e } ∷ seg)) first
    by (Some y) q = ap (λ ys. extent x ∷ ys) q ∙ ap (λ y. y ∷ (pre ++ record { depth = b.depth; start = b.start; end = e } ∷ seg)) first

all_plain : (b : Block) (xs : List Block) → AllByRecursion (In (extent b)) (extents xs) → AllByRecursion (IsWithin b) xs
all_plain b [] h = tt
all_plain b (x ∷ xs) h = (h.0, all_plain b xs (h.1))

pub nests_plain : (bs : List Block) → Nests (extents bs) → Nest bs
nests_plain [] h = tt
nests_plain (b ∷ bs) h = (all_plain b (inner b bs) (subst (AllByRecursion (In (extent b))) (while_map extent (deeper (extent b)) bs) (h.0)), nests_plain bs (h.1))

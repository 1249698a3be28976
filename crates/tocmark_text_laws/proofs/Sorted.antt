-- Blocks in order, and how far the open containers reach that may end before the next block begins.
use Rattle.std.proofs.Common.{◌≡◌, ℕ, zero, suc, ◌+◌, ◌-◌, ◌<◌, ◌≤◌, ◌⊎◌, inl, inr, Bool, true, false, if◌then◌else◌, nat_le, List, [], ◌∷◌, ◌++◌, length, map, take, refl, ap, sym, ◌∙◌, subst, arith, true≢false, length-append}
use Rattle.std.specs.Prelude.{slice_get, slice_set, max, Option, Some, None}
use Rattle.std.specs.Option.{option_map, option_map_or}
use Rattle.std.specs.List.{AllByRecursion}
use Rattle.std.proofs.lemmas.Bool.Decides.{nat_tests}
use Rattle.std.proofs.lemmas.List.{length-map, map-append}
use Rattle.std.proofs.lemmas.Option.{slice_get-map, slice_get_within}
use Rattle.tocmark_read_lines.specs.Containers.{raised, raised_at, touched_from}
use Rattle.tocmark_read_lines.specs.declared.container.Container.{Container}
use Rattle.tocmark_read_lines.specs.declared.container.Container.TheVariants as container
use Rattle.tocmark_read_lines.specs.declared.container.Opened.{Opened}
use Rattle.tocmark_read_page.specs.Pages.{is_quote, is_list, had_marked}
use Rattle.tocmark_read_page.specs.declared.page.Block.{Block}
use Rattle.tocmark_text_laws.specs.Ordered.{IsAfter, AreInOrder}
use Rattle.tocmark_text_laws.proofs.Alls.{all_got, all_changed, all_both, all_weaker, same_numbers}
use Rattle.tocmark_text_laws.proofs.Stacked.{Extent, extent, extents, ended_at}

-- a block that comes after another one and isn't deeper begins where that ends, or later
abbrev pub Later : Extent → Extent → Type 0
Later b c = c.depth ≤ b.depth → b.end ≤ c.start

abbrev pub Sorts : List Extent → Type 0
Sorts [] = Unit
Sorts (b ∷ bs) = AllByRecursion (Later b) bs × Sorts bs

-- all blocks end before a place, or there
abbrev pub Past : ℕ → List Extent → Type 0
Past f bs = AllByRecursion (λ (x : Extent). x.end ≤ f) bs

pub past_more : (f g : ℕ) (bs : List Extent) → f ≤ g → Past f bs → Past g bs
past_more f g bs l h = all_weaker (λ (x : Extent). x.end ≤ f) (λ (x : Extent). x.end ≤ g) bs (λ x k. let q : x.end ≤ f = k in omega arith) h

pub sorts_push : (f : ℕ) (bs : List Extent) (c : Extent) → f ≤ c.start → Past f bs → Sorts bs → Sorts (bs ++ c ∷ [])
sorts_push f [] c l p h = (tt, tt)
sorts_push f (b ∷ bs) c l p h = (all_both (Later b) bs (c ∷ []) (h.0) (last, tt), sorts_push f bs c l (p.1) (h.1))
  where
    last : Later b c
    last d = let q : b.end ≤ f = p.0 in omega arith

pub past_push : (f : ℕ) (bs : List Extent) (c : Extent) → c.end ≤ f → Past f bs → Past f (bs ++ c ∷ [])
past_push f bs c l h = all_both (λ (x : Extent). x.end ≤ f) bs (c ∷ []) h (l, tt)

-- one block in place of another one
all_swapped : (Q : Extent → Type 0) (pre : List Extent) (b c : Extent) (seg : List Extent) → (Q b → Q c) → AllByRecursion Q (pre ++ b ∷ seg) → AllByRecursion Q (pre ++ c ∷ seg)
all_swapped Q [] b c seg f h = (f (h.0), h.1)
all_swapped Q (x ∷ pre) b c seg f h = (h.0, all_swapped Q pre b c seg f (h.1))

pub past_ended : (f : ℕ) (pre : List Extent) (b : Extent) (e : ℕ) (seg : List Extent) → e ≤ f → Past f (pre ++ b ∷ seg) → Past f (pre ++ ended_at b e ∷ seg)
past_ended f pre b e seg l h = all_swapped (λ (x : Extent). x.end ≤ f) pre b (ended_at b e) seg (λ k. l) h

-- a block ends that has all later ones in it
pub sorts_ended : (pre : List Extent) (b : Extent) (e : ℕ) (seg : List Extent) → AllByRecursion (λ (c : Extent). suc b.depth ≤ c.depth) seg → Sorts (pre ++ b ∷ seg) → Sorts (pre ++ ended_at b e ∷ seg)
sorts_ended [] b e seg d h = (all_weaker (λ (c : Extent). suc b.depth ≤ c.depth) (Later (ended_at b e)) seg deep d, h.1)
  where
    deep : (c : Extent) → suc b.depth ≤ c.depth → Later (ended_at b e) c
    deep c l k = absurd (omega arith)
sorts_ended (x ∷ pre) b e seg d h = (all_swapped (Later x) pre b (ended_at b e) seg (λ k. k) (h.0), sorts_ended pre b e seg d (h.1))

all_plain : (b : Block) (xs : List Block) → AllByRecursion (Later (extent b)) (extents xs) → AllByRecursion (IsAfter b) xs
all_plain b [] h = tt
all_plain b (x ∷ xs) h = (h.0, all_plain b xs (h.1))

pub sorts_plain : (bs : List Block) → Sorts (extents bs) → AreInOrder bs
sorts_plain [] h = tt
sorts_plain (b ∷ bs) h = (all_plain b bs (h.0), sorts_plain bs (h.1))

-- containers from a depth on may end, and a list just before it; they reach no further than a place
abbrev pub MayEnd : ℕ → ℕ → Opened → Type 0
MayEnd m i o = (m ≤ i) ⊎ ((m ≤ suc i) × (is_list o.container ≡ true))

abbrev pub Reach : ℕ → ℕ → List Opened → Type 0
Reach m f os = (i : ℕ) (o : Opened) → slice_get os i ≡ Some o → MayEnd m i o → o.end ≤ f

abbrev pub Under : ℕ → List Opened → Type 0
Under e os = AllByRecursion (λ (o : Opened). o.end ≤ e) os

abbrev pub containers : List Opened → List Container
containers os = map (λ (o : Opened). o.container) os

-- which of the open containers are quotes
abbrev pub quotes_of : ℕ → List Container → List ℕ
quotes_of n [] = []
quotes_of n (c ∷ cs) = if is_quote c then n ∷ quotes_of (suc n) cs else quotes_of (suc n) cs

-- a page whose blocks are in order and end before a place; no open container reaches past the line
pub record Sorted (m e f : ℕ) (os : List Opened) (qs : List ℕ) (bs : List Extent) : Type 0 where
  pub past : Past f bs
  pub order : Sorts bs
  pub reach : Reach m f os
  pub under : Under e os
  pub room : f ≤ e
  pub quotes : qs ≡ quotes_of 0 (containers os)

pub sorted_more : (m e f g : ℕ) (os : List Opened) (qs : List ℕ) (bs : List Extent) → f ≤ g → g ≤ e → Sorted m e f os qs bs → Sorted m e g os qs bs
sorted_more m e f g os qs bs l k h = record {
  past = past_more f g bs l h.past;
  order = h.order;
  reach = λ i o q c. let w : o.end ≤ f = h.reach i o q c in omega arith;
  under = h.under;
  room = k;
  quotes = h.quotes;
}

-- all containers may end where the line does
pub sorted_anew : (m e : ℕ) (os : List Opened) (qs : List ℕ) (bs : List Extent) → Sorted m e e os qs bs → Sorted 0 e e os qs bs
sorted_anew m e os qs bs h = record {
  past = h.past;
  order = h.order;
  reach = λ i o g c. all_got (λ (x : Opened). x.end ≤ e) os i o h.under g;
  under = h.under;
  room = h.room;
  quotes = h.quotes;
}

-- what a container is after one of them changed
changed_from : (os : List Opened) (i : ℕ) (f : Opened → Opened) (j : ℕ) (v : Opened) → slice_get (option_map_or (λ (o : Opened). slice_set os i (f o)) (slice_get os i) os) j ≡ Some v
    → (slice_get os j ≡ Some v) ⊎ ((o : Opened) × (slice_get os j ≡ Some o) × (f o ≡ v) × (i ≡ j))
changed_from os i f j v = by (slice_get os i) refl
  where
    set : (us : List Opened) (a b : ℕ) (o : Opened) → slice_get us a ≡ Some o → slice_get (slice_set us a (f o)) b ≡ Some v → (slice_get us b ≡ Some v) ⊎ ((x : Opened) × (slice_get us b ≡ Some x) × (f x ≡ v) × (a ≡ b))
    set [] a b o e h = absurd cc
    set (u ∷ us) zero zero o e h = let p : f o ≡ v = cc in inr (o, e, p, refl)
    set (u ∷ us) zero (suc b) o e h = inl h
    set (u ∷ us) (suc a) zero o e h = inl h
    set (u ∷ us) (suc a) (suc b) o e h = further (set us a b o e h)
      where
        further : (slice_get us b ≡ Some v) ⊎ ((x : Opened) × (slice_get us b ≡ Some x) × (f x ≡ v) × (a ≡ b)) → (slice_get us b ≡ Some v) ⊎ ((x : Opened) × (slice_get us b ≡ Some x) × (f x ≡ v) × (suc a ≡ suc b))
        further (inl q) = inl q
        further (inr (x, q, p, w)) = inr (x, q, p, ap suc w)

    by : (x : Option Opened) → slice_get os i ≡ x → slice_get (option_map_or (λ (o : Opened). slice_set os i (f o)) x os) j ≡ Some v → (slice_get os j ≡ Some v) ⊎ ((o : Opened) × (slice_get os j ≡ Some o) × (f o ≡ v) × (i ≡ j))
    by None e h = inl h
    by (Some o) e h = set os i j o e h

-- a container changes, but not its kind
reach_changed : (m f : ℕ) (os : List Opened) (i : ℕ) (g : Opened → Opened) → ((o : Opened) → (g o).container ≡ o.container) → ((o : Opened) → o.end ≤ f → (g o).end ≤ f) → Reach m f os
    → Reach m f (option_map_or (λ (o : Opened). slice_set os i (g o)) (slice_get os i) os)
reach_changed m f os i g same small h j v q c = by (changed_from os i g j v q)
  where
    may : (o : Opened) → g o ≡ v → MayEnd m j v → MayEnd m j o
    may o p (inl l) = inl l
    may o p (inr (l, k)) = inr (l, ap is_list (sym (same o) ∙ ap (λ (x : Opened). x.container) p) ∙ k)

    by : (slice_get os j ≡ Some v) ⊎ ((o : Opened) × (slice_get os j ≡ Some o) × (g o ≡ v) × (i ≡ j)) → v.end ≤ f
    by (inl e) = h j v e c
    by (inr (o, e, p, w)) = subst (λ (x : Opened). x.end ≤ f) p (small o (h j o e (may o p c)))

max_within : (a b f : ℕ) → a ≤ f → b ≤ f → max a b ≤ f
max_within a b f k l = omega arith

pub reach_raised : (m f : ℕ) (os : List Opened) (i e l : ℕ) → e ≤ f → Reach m f os → Reach m f (raised_at os i e l)
unfolding raised_at raised
reach_raised m f os i e l k h = reach_changed m f os i (λ (o : Opened). raised o e l) (λ o. refl) (λ o q. max_within o.end e f q k) h

pub under_raised : (f : ℕ) (os : List Opened) (i e l : ℕ) → e ≤ f → Under f os → Under f (raised_at os i e l)
unfolding raised_at raised
under_raised f os i e l k h = all_changed (λ (o : Opened). o.end ≤ f) os i (λ (o : Opened). raised o e l) (λ o q w. max_within o.end e f w k) h

pub raised_containers : (os : List Opened) (i e l : ℕ) → containers (raised_at os i e l) ≡ containers os
unfolding raised_at raised
raised_containers os i e l = same_numbers (λ (o : Opened). o.container) os i (λ (o : Opened). raised o e l) (λ o. refl)

pub reach_had : (m f : ℕ) (os : List Opened) → Reach m f os → Reach m f (had_marked os)
unfolding had_marked
reach_had m f os h = reach_changed m f os (length os - 1) (λ (o : Opened). record o { had = true }) (λ o. refl) (λ o q. q) h

pub under_had : (f : ℕ) (os : List Opened) → Under f os → Under f (had_marked os)
unfolding had_marked
under_had f os h = all_changed (λ (o : Opened). o.end ≤ f) os (length os - 1) (λ (o : Opened). record o { had = true }) (λ o q w. w) h

pub had_containers : (os : List Opened) → containers (had_marked os) ≡ containers os
unfolding had_marked
had_containers os = same_numbers (λ (o : Opened). o.container) os (length os - 1) (λ (o : Opened). record o { had = true }) (λ o. refl)

got_taken : (k : ℕ) (os : List Opened) (i : ℕ) (o : Opened) → slice_get (take k os) i ≡ Some o → slice_get os i ≡ Some o
got_taken zero os i o e = absurd cc
got_taken (suc k) [] i o e = absurd cc
got_taken (suc k) (y ∷ ys) zero o e = e
got_taken (suc k) (y ∷ ys) (suc i) o e = got_taken k ys i o e

pub reach_taken : (m f k : ℕ) (os : List Opened) → Reach m f os → Reach m f (take k os)
reach_taken m f k os h i o e c = h i o (got_taken k os i o e) c

-- what is known where one more container is open
got_appended : (os : List Opened) (new : Opened) (i : ℕ) (o : Opened) → slice_get (os ++ new ∷ []) i ≡ Some o → (i < length os) ⊎ ((i ≡ length os) × (new ≡ o))
got_appended [] new zero o e = let p : new ≡ o = cc in inr (refl, p)
got_appended [] new (suc i) o e = absurd cc
got_appended (y ∷ ys) new zero o e = inl (omega arith)
got_appended (y ∷ ys) new (suc i) o e = by (got_appended ys new i o e)
  where
    by : (i < length ys) ⊎ ((i ≡ length ys) × (new ≡ o)) → (suc i < length (y ∷ ys)) ⊎ ((suc i ≡ length (y ∷ ys)) × (new ≡ o))
    by (inl l) = inl (omega arith)
    by (inr (q, p)) = inr (ap suc q, p)

-- none of them may end
abbrev pub Fresh : ℕ → ℕ → Container → Type 0
Fresh m n c = (suc n < m) ⊎ ((suc n ≤ m) × (is_list c ≡ false))

pub reach_fresh : (m f : ℕ) (os : List Opened) (new : Opened) → Fresh m (length os) new.container → Reach m f (os ++ new ∷ [])
reach_fresh m f os new w i o e c = absurd (by w c (got_appended os new i o e))
  where
    by : Fresh m (length os) new.container → MayEnd m i o → (i < length os) ⊎ ((i ≡ length os) × (new ≡ o)) → ⊥
    by (inl w) (inl l) (inl k) = omega arith
    by (inl w) (inl l) (inr (k, p)) = omega arith
    by (inl w) (inr (l, q)) (inl k) = omega arith
    by (inl w) (inr (l, q)) (inr (k, p)) = omega arith
    by (inr (w, n)) (inl l) (inl k) = omega arith
    by (inr (w, n)) (inl l) (inr (k, p)) = omega arith
    by (inr (w, n)) (inr (l, q)) (inl k) = omega arith
    by (inr (w, n)) (inr (l, q)) (inr (k, p)) = true≢false (sym q ∙ ap (λ (x : Opened). is_list x.container) (sym p) ∙ n)

-- quotes
quotes_more : (n : ℕ) (cs : List Container) (c : Container) → quotes_of n (cs ++ c ∷ []) ≡ quotes_of n cs ++ (if is_quote c then (n + length cs) ∷ [] else [])
quotes_more n [] c = by (is_quote c)
  where
    by : (b : Bool) → (if b then n ∷ [] else []) ≡ (if b then (n + 0) ∷ [] else [])
    by true = let e : n ≡ n + 0 = omega arith in ap (λ x. x ∷ []) e
    by false = refl
quotes_more n (x ∷ xs) c = by (is_quote x) (quotes_more (suc n) xs c ∙ further (is_quote c))
  where
    further : (b : Bool) → quotes_of (suc n) xs ++ (if b then (suc n + length xs) ∷ [] else []) ≡ quotes_of (suc n) xs ++ (if b then (n + suc (length xs)) ∷ [] else [])
    further true = let e : suc n + length xs ≡ n + suc (length xs) = omega arith in ap (λ y. quotes_of (suc n) xs ++ y ∷ []) e
    further false = refl

    by : (b : Bool) → quotes_of (suc n) (xs ++ c ∷ []) ≡ quotes_of (suc n) xs ++ (if is_quote c then (n + suc (length xs)) ∷ [] else [])
        → (if b then n ∷ quotes_of (suc n) (xs ++ c ∷ []) else quotes_of (suc n) (xs ++ c ∷ [])) ≡ (if b then n ∷ quotes_of (suc n) xs else quotes_of (suc n) xs) ++ (if is_quote c then (n + suc (length xs)) ∷ [] else [])
    by true e = ap (λ ys. n ∷ ys) e
    by false e = e

pub quotes_opened : (os : List Opened) (new : Opened) (qs : List ℕ) → qs ≡ quotes_of 0 (containers os) → (if is_quote new.container then qs ++ length os ∷ [] else qs) ≡ quotes_of 0 (containers (os ++ new ∷ []))
quotes_opened os new qs h = by (is_quote new.container) (quotes_more 0 (containers os) new.container) ∙ sym (ap (quotes_of 0) (map-append (λ (o : Opened). o.container) os (new ∷ [])))
  where
    size : length (containers os) ≡ length os
    size = length-map os (λ (o : Opened). o.container)

    by : (b : Bool) → quotes_of 0 (containers os ++ new.container ∷ []) ≡ quotes_of 0 (containers os) ++ (if b then (0 + length (containers os)) ∷ [] else [])
        → (if b then qs ++ length os ∷ [] else qs) ≡ quotes_of 0 (containers os ++ new.container ∷ [])
    by true e = ap (λ xs. xs ++ length os ∷ []) h ∙ (let n : length os ≡ 0 + length (containers os) = omega (arith, size) in ap (λ x. quotes_of 0 (containers os) ++ x ∷ []) n) ∙ sym e
    by false e = h ∙ sym (e ∙ append_none (quotes_of 0 (containers os)))
      where
        append_none : (xs : List ℕ) → xs ++ [] ≡ xs
        append_none [] = refl
        append_none (x ∷ xs) = ap (λ ys. x ∷ ys) (append_none xs)

split_last : (k : ℕ) (os : List Opened) (o : Opened) → length os ≡ suc k → slice_get os k ≡ Some o → os ≡ take k os ++ o ∷ []
split_last k [] o n e = absurd (omega arith)
split_last zero (y ∷ []) o n e = let p : y ≡ o = cc in ap (λ x. x ∷ []) p
split_last zero (y ∷ z ∷ ys) o n e = absurd (omega arith)
split_last (suc k) (y ∷ ys) o n e = ap (λ xs. y ∷ xs) (split_last k ys o (let w : suc (length ys) ≡ suc (suc k) = n in omega arith) e)

take_front : (xs : List ℕ) (x : ℕ) → take (length (xs ++ x ∷ []) - 1) (xs ++ x ∷ []) ≡ xs
take_front xs x = let w : length (xs ++ x ∷ []) ≡ length xs + 1 = length-append xs (x ∷ []) in let q : length (xs ++ x ∷ []) - 1 ≡ length xs = omega arith in ap (λ n. take n (xs ++ x ∷ [])) q ∙ front xs
  where
    front : (ys : List ℕ) → take (length ys) (ys ++ x ∷ []) ≡ ys
    front [] = refl
    front (y ∷ ys) = ap (λ zs. y ∷ zs) (front ys)

pub quotes_closed : (k : ℕ) (os : List Opened) (o : Opened) (qs : List ℕ) → length os ≡ suc k → slice_get os k ≡ Some o → qs ≡ quotes_of 0 (containers os) → (if is_quote o.container then take (length qs - 1) qs else qs) ≡ quotes_of 0 (containers (take k os))
quotes_closed k os o qs n e h = by (is_quote o.container) whole
  where
    rest : List Container
    rest = containers (take k os)

    whole : qs ≡ quotes_of 0 rest ++ (if is_quote o.container then (0 + length rest) ∷ [] else [])
    whole = h ∙ ap (λ xs. quotes_of 0 (containers xs)) (split_last k os o n e) ∙ ap (quotes_of 0) (map-append (λ (x : Opened). x.container) (take k os) (o ∷ [])) ∙ quotes_more 0 rest o.container

    none : (xs : List ℕ) → xs ++ [] ≡ xs
    none [] = refl
    none (x ∷ xs) = ap (λ ys. x ∷ ys) (none xs)

    by : (b : Bool) → qs ≡ quotes_of 0 rest ++ (if b then (0 + length rest) ∷ [] else []) → (if b then take (length qs - 1) qs else qs) ≡ quotes_of 0 rest
    by true w = ap (λ (xs : List ℕ). take (length xs - 1) xs) w ∙ take_front (quotes_of 0 rest) (0 + length rest)
    by false w = w ∙ none (quotes_of 0 rest)

-- a quote is no list
quote_plain : (c : Container) → is_quote c ≡ true → is_list c ≡ false
unfolding is_quote is_list
quote_plain container.Quote e = refl
quote_plain (container.List sort) e = absurd cc
quote_plain (container.Item width) e = absurd cc
quote_plain container.Footnote e = absurd cc
quote_plain container.Definitions e = absurd cc
quote_plain (container.Definition width) e = absurd cc

abbrev IsPlain : ℕ → List Container → ℕ → Type 0
IsPlain n cs q = (n ≤ q) × ((c : Container) → slice_get cs (q - n) ≡ Some c → is_list c ≡ false)

quotes_plain : (n : ℕ) (cs : List Container) → AllByRecursion (IsPlain n cs) (quotes_of n cs)
quotes_plain n [] = tt
quotes_plain n (x ∷ xs) = by (is_quote x) refl (all_weaker (IsPlain (suc n) xs) (IsPlain n (x ∷ xs)) (quotes_of (suc n) xs) nearer (quotes_plain (suc n) xs))
  where
    nearer : (q : ℕ) → IsPlain (suc n) xs q → IsPlain n (x ∷ xs) q
    nearer q (l, k) = (omega arith, λ c e. k c (let w : q - n ≡ suc (q - suc n) = omega arith in ap (slice_get (x ∷ xs)) (sym w) ∙ e))

    first : is_quote x ≡ true → IsPlain n (x ∷ xs) n
    first e = (omega arith, λ c g. let w : n - n ≡ 0 = omega arith in head c (ap (slice_get (x ∷ xs)) (sym w) ∙ g))
      where
        head : (c : Container) → Some x ≡ Some c → is_list c ≡ false
        head c g = let p : x ≡ c = cc in subst (λ y. is_list y ≡ false) p (quote_plain x e)

    by : (b : Bool) → is_quote x ≡ b → AllByRecursion (IsPlain n (x ∷ xs)) (quotes_of (suc n) xs) → AllByRecursion (IsPlain n (x ∷ xs)) (if b then n ∷ quotes_of (suc n) xs else quotes_of (suc n) xs)
    by true e h = (first e, h)
    by false e h = h

-- the quotes that go on in a line reach to its end, no container that may end does
abbrev Beyond : ℕ → ℕ → List Opened → Type 0
Beyond depth f os = (i : ℕ) (o : Opened) → slice_get os i ≡ Some o → (depth ≤ i) ⊎ (is_list o.container ≡ true) → o.end ≤ f

beyond_raised : (depth f : ℕ) (os : List Opened) (q e l : ℕ) → q < depth → ((o : Opened) → slice_get os q ≡ Some o → is_list o.container ≡ false) → Beyond depth f os → Beyond depth f (raised_at os q e l)
unfolding raised_at raised
beyond_raised depth f os q e l w k h j v g c = by (changed_from os q (λ (o : Opened). raised o e l) j v g)
  where
    none : (o : Opened) → slice_get os j ≡ Some o → raised o e l ≡ v → q ≡ j → (depth ≤ j) ⊎ (is_list v.container ≡ true) → ⊥
    none o x p s (inl y) = omega arith
    none o x p s (inr y) = true≢false (sym y ∙ ap (λ (z : Opened). is_list z.container) (sym p) ∙ k o (ap (slice_get os) s ∙ x))

    by : (slice_get os j ≡ Some v) ⊎ ((o : Opened) × (slice_get os j ≡ Some o) × (raised o e l ≡ v) × (q ≡ j)) → v.end ≤ f
    by (inl x) = h j v x c
    by (inr (o, x, p, s)) = absurd (none o x p s c)

abbrev NoList : List Container → ℕ → Type 0
NoList cs q = (c : Container) → slice_get cs q ≡ Some c → is_list c ≡ false

beyond_touched : (depth f e l : ℕ) (qs : List ℕ) (os : List Opened) → AllByRecursion (NoList (containers os)) qs → Beyond depth f os → Beyond depth f (touched_from depth e l qs os)
beyond_touched depth f e l [] os n h = h
beyond_touched depth f e l (q ∷ qs) os n h = by (nat_le depth q) refl (λ w. beyond_touched depth f e l qs (raised_at os q e l) (subst (λ cs. AllByRecursion (NoList cs) qs) (sym (raised_containers os q e l)) (n.1)) (beyond_raised depth f os q e l w plain h))
  where
    plain : (o : Opened) → slice_get os q ≡ Some o → is_list o.container ≡ false
    plain o g = (n.0) o.container (slice_get-map (λ (x : Opened). x.container) os q ∙ ap (λ (z : Option Opened). option_map (λ (x : Opened). x.container) z) g)

    by : (b : Bool) → nat_le depth q ≡ b → (q < depth → Beyond depth f (touched_from depth e l qs (raised_at os q e l))) → Beyond depth f (if b then os else touched_from depth e l qs (raised_at os q e l))
    by true w k = h
    by false w k = let s : q < depth = grind (arith, nat_tests) in k s

under_touched : (f depth e l : ℕ) (qs : List ℕ) (os : List Opened) → e ≤ f → Under f os → Under f (touched_from depth e l qs os)
under_touched f depth e l [] os k h = h
under_touched f depth e l (q ∷ qs) os k h = by (nat_le depth q) (under_touched f depth e l qs (raised_at os q e l) k (under_raised f os q e l k h))
  where
    by : (b : Bool) → Under f (touched_from depth e l qs (raised_at os q e l)) → Under f (if b then os else touched_from depth e l qs (raised_at os q e l))
    by true w = h
    by false w = w

pub touched_containers : (depth e l : ℕ) (qs : List ℕ) (os : List Opened) → containers (touched_from depth e l qs os) ≡ containers os
touched_containers depth e l [] os = refl
touched_containers depth e l (q ∷ qs) os = by (nat_le depth q) (touched_containers depth e l qs (raised_at os q e l) ∙ raised_containers os q e l)
  where
    by : (b : Bool) → containers (touched_from depth e l qs (raised_at os q e l)) ≡ containers os → containers (if b then os else touched_from depth e l qs (raised_at os q e l)) ≡ containers os
    by true w = refl
    by false w = w

-- a line begins: what may end in it is what doesn't go on
pub sorted_touched : (m depth e f l : ℕ) (os : List Opened) (qs : List ℕ) (bs : List Extent) → m ≤ depth → (length os ≤ m) ⊎ (depth ≤ m) → f ≤ e → Sorted 0 f f os qs bs → Sorted m e f (touched_from depth e l qs os) qs bs
sorted_touched m depth e f l os qs bs w x k h = record {
  past = h.past;
  order = h.order;
  reach = λ i o g c. beyond i o g (may i o g c x);
  under = under_touched e depth e l qs os (omega arith) (all_weaker (λ (o : Opened). o.end ≤ f) (λ (o : Opened). o.end ≤ e) os (λ o q. let y : o.end ≤ f = q in omega arith) h.under);
  room = k;
  quotes = h.quotes ∙ ap (quotes_of 0) (sym (touched_containers depth e l qs os));
}
  where
    near : (q : ℕ) → IsPlain 0 (containers os) q → NoList (containers os) q
    near q (a, g) c y = g c (let z : q - 0 ≡ q = omega arith in ap (slice_get (containers os)) z ∙ y)

    beyond : Beyond depth f (touched_from depth e l qs os)
    beyond = beyond_touched depth f e l qs os (subst (AllByRecursion (NoList (containers os))) (sym h.quotes) (all_weaker (IsPlain 0 (containers os)) (NoList (containers os)) (quotes_of 0 (containers os)) near (quotes_plain 0 (containers os)))) (λ i o g c. all_got (λ (y : Opened). y.end ≤ f) os i o h.under g)

    size : length (touched_from depth e l qs os) ≡ length os
    size = sym (length-map (touched_from depth e l qs os) (λ (o : Opened). o.container)) ∙ ap length (touched_containers depth e l qs os) ∙ length-map os (λ (o : Opened). o.container)

    may : (i : ℕ) (o : Opened) → slice_get (touched_from depth e l qs os) i ≡ Some o → MayEnd m i o → (length os ≤ m) ⊎ (depth ≤ m) → (depth ≤ i) ⊎ (is_list o.container ≡ true)
    may i o g (inr (a, b)) y = inr b
    may i o g (inl a) (inr y) = inl (omega arith)
    may i o g (inl a) (inl y) = absurd (let z : i < length (touched_from depth e l qs os) = slice_get_within (touched_from depth e l qs os) i o g in omega (arith, size))

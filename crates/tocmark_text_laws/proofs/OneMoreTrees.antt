-- Blocks as trees: a list that gets what is in another one.
use Rattle.std.proofs.Common.{◌≡◌, ℕ, zero, suc, ◌≤◌, Bool, true, cond, nat_lt, List, [], ◌∷◌, ◌++◌, length, map, drop, refl, ap, sym, subst, ◌∙◌, arith}
use Rattle.std.specs.Prelude.{take_while, Option}
use Rattle.std.specs.List.{AllByRecursion}
use Rattle.std.proofs.lemmas.Bool.Decides.{nat_tests}
use Rattle.std.proofs.lemmas.List.Sums.{take_while-cons}
use Rattle.tocmark_text_laws.specs.Quoted.{Sort, LineTold, Told, Node, Trees, none, more, Placed, trees_of, put_with, put, placed_in, tree_told}
use Rattle.tocmark_text_laws.specs.Sequence.{trees_joined}
use Rattle.tocmark_text_laws.specs.OneMoreItem.{lists_joined}
use Rattle.tocmark_text_laws.proofs.Alls.{all_weaker}
use Rattle.tocmark_text_laws.proofs.SequenceTrees.{trees_both, Upto, left_falls, placed_falls, all_outer, put_both, placed_both}
use Rattle.tocmark_text_laws.proofs.SequenceRun.{relisted}

-- the list that a block is in says nothing of the trees
placed_relisted : (list : Told → Option ℕ) (bs : List Told) → placed_in (map (λ b. relisted (list b) b) bs) ≡ placed_in bs
placed_relisted list [] = refl
placed_relisted list (b ∷ bs) = ap (put b) (placed_relisted list bs)

-- blocks that are so deep, or deeper
abbrev pub From : ℕ → List Told → Type 0
From d bs = AllByRecursion (λ (b : Told). d ≤ b.depth) bs

abbrev PlacedFrom : ℕ → List Placed → Type 0
PlacedFrom d ps = AllByRecursion (λ (p : Placed). d ≤ p.depth) ps

from_drop : (d n : ℕ) (ps : List Placed) → PlacedFrom d ps → PlacedFrom d (drop n ps)
from_drop d zero ps h = h
from_drop d (suc n) [] h = tt
from_drop d (suc n) (p ∷ ps) h = from_drop d n ps (h.1)

placed_from : (d : ℕ) (bs : List Told) → From d bs → PlacedFrom d (placed_in bs)
placed_from d [] h = tt
placed_from d (b ∷ bs) h = (h.0, from_drop d (length (take_while (λ (p : Placed). nat_lt b.depth p.depth) (placed_in bs))) (placed_in bs) (placed_from d bs (h.1)))

-- the first block is so deep at most
abbrev pub FirstUpto : ℕ → List Told → Type 0
FirstUpto d [] = Unit
FirstUpto d (b ∷ bs) = b.depth ≤ d

first_upto : (d : ℕ) (bs : List Told) → FirstUpto d bs → Upto d (placed_in bs)
first_upto d [] h = tt
first_upto d (b ∷ bs) h = (h, all_weaker (λ (p : Placed). p.depth ≤ b.depth) (λ (p : Placed). p.depth ≤ d) _ (λ p w. omega (arith, w, h)) ((left_falls b.depth (placed_in bs) (placed_falls bs)).0))

-- blocks after deeper ones
placed_deep : (d : ℕ) (bs cs : List Told) → Upto d (placed_in cs) → From d bs → placed_in (bs ++ cs) ≡ placed_in bs ++ placed_in cs
placed_deep d [] cs u h = refl
placed_deep d (b ∷ bs) cs u h =
    ap (put b) (placed_deep d bs cs u (h.1))
    ∙ put_both b (placed_in bs) (placed_in cs) (all_weaker (λ (p : Placed). p.depth ≤ d) (λ (p : Placed). p.depth ≤ b.depth) (placed_in cs) (λ p w. omega (arith, w, h.0)) u)

while_all : (d : ℕ) (ps zs : List Placed) → PlacedFrom (suc d) ps → take_while (λ (p : Placed). nat_lt d p.depth) (ps ++ zs) ≡ ps ++ take_while (λ (p : Placed). nat_lt d p.depth) zs
while_all d [] zs h = refl
while_all d (p ∷ ps) zs h =
    take_while-cons (λ (p : Placed). nat_lt d p.depth) p (ps ++ zs)
    ∙ ap (λ k. cond k (p ∷ take_while (λ (p : Placed). nat_lt d p.depth) (ps ++ zs)) []) (let low : suc d ≤ p.depth = h.0 in let e : nat_lt d p.depth ≡ true = grind (arith, low, nat_tests) in e)
    ∙ ap (λ ws. p ∷ ws) (while_all d ps zs (h.1))

drop_both : (ps ws zs : List Placed) → drop (length (ps ++ ws)) (ps ++ zs) ≡ drop (length ws) zs
drop_both [] ws zs = refl
drop_both (p ∷ ps) ws zs = drop_both ps ws zs

-- what is in a block
abbrev inside : ℕ → List Placed → List Placed
inside d ps = take_while (λ (p : Placed). nat_lt d p.depth) ps

abbrev holding : Told → Trees → Placed
holding b within = record { depth = b.depth; tree = Node b.sort b.loose b.lines within }

-- a block with blocks that are in it, and others
put_deep : (b : Told) (bs cs : List Told) → From (suc b.depth) bs → Upto (suc b.depth) (placed_in cs)
    → placed_in (b ∷ (bs ++ cs)) ≡ holding b (trees_joined (trees_of (placed_in bs)) (trees_of (inside b.depth (placed_in cs)))) ∷ drop (length (inside b.depth (placed_in cs))) (placed_in cs)
put_deep b bs cs h u =
    ap (put b) (placed_deep (suc b.depth) bs cs u h)
    ∙ ap (λ ws. put_with b ws (placed_in bs ++ placed_in cs)) (while_all b.depth (placed_in bs) (placed_in cs) (placed_from (suc b.depth) bs h))
    ∙ ap (λ ws. holding b (trees_of (placed_in bs ++ inside b.depth (placed_in cs))) ∷ ws) (drop_both (placed_in bs) (inside b.depth (placed_in cs)) (placed_in cs))
    ∙ ap (λ ts. holding b ts ∷ drop (length (inside b.depth (placed_in cs))) (placed_in cs)) (trees_both (placed_in bs) (inside b.depth (placed_in cs)))

joined_none : (ts : Trees) → trees_joined ts none ≡ ts
joined_none none = refl
joined_none (more t ts) = ap (more t) (joined_none ts)

all_end : (bs : List Told) → bs ++ [] ≡ bs
all_end [] = refl
all_end (b ∷ bs) = ap (λ xs. b ∷ xs) (all_end bs)

put_alone : (b : Told) (bs : List Told) → From (suc b.depth) bs → placed_in (b ∷ bs) ≡ holding b (trees_of (placed_in bs)) ∷ []
put_alone b bs h =
    sym (ap (λ xs. placed_in (b ∷ xs)) (all_end bs))
    ∙ put_deep b bs [] h tt
    ∙ ap (λ ts. holding b ts ∷ []) (joined_none (trees_of (placed_in bs)))

joins : (ts : Trees) (sort k : Sort) (loose l : Bool) (lines ls : List LineTold) (items others us : Trees)
    → lists_joined (trees_joined ts (more (Node sort loose lines items) none)) (more (Node k l ls others) us) ≡ trees_joined ts (more (Node sort true lines (trees_joined items others)) us)
joins none sort k loose l lines ls items others us = refl
joins (more t none) sort k loose l lines ls items others us = refl
joins (more t (more v vs)) sort k loose l lines ls items others us = ap (more t) (joins (more v vs) sort k loose l lines ls items others us)

abbrev pub loosed : Told → Told
loosed b = record { depth = b.depth; sort = b.sort; loose = true; list = b.list; lines = b.lines }

-- the last block that is in no container gets what is in another one
pub trees_one_more : (fs : List Told) (x y : Told) (bs cs : List Told) (list : Told → Option ℕ) → x.depth ≡ 0 → y.depth ≡ 0 → From 1 bs → FirstUpto 1 cs
    → tree_told (fs ++ loosed x ∷ (bs ++ map (λ b. relisted (list b) b) cs)) ≡ lists_joined (tree_told (fs ++ x ∷ bs)) (tree_told (y ∷ cs))
trees_one_more fs x y bs cs list ex ey h u =
    ap trees_of whole ∙ trees_both (placed_in fs) (holding (loosed x) (trees_joined (trees_of (placed_in bs)) (trees_of (inside x.depth (placed_in cs)))) ∷ drop (length (inside x.depth (placed_in cs))) (placed_in cs))
    ∙ sym (joins (trees_of (placed_in fs)) x.sort y.sort x.loose y.loose x.lines y.lines (trees_of (placed_in bs)) (trees_of (inside x.depth (placed_in cs))) (trees_of (drop (length (inside x.depth (placed_in cs))) (placed_in cs))))
    ∙ sym (ap (λ ts. lists_joined ts (tree_told (y ∷ cs))) first ∙ ap (lists_joined (trees_joined (trees_of (placed_in fs)) (more (Node x.sort x.loose x.lines (trees_of (placed_in bs))) none))) second)
  where
    zs : List Told
    zs = map (λ b. relisted (list b) b) cs

    same : placed_in zs ≡ placed_in cs
    same = placed_relisted list cs

    deep : From (suc x.depth) bs
    deep = all_weaker (λ (b : Told). 1 ≤ b.depth) (λ (b : Told). suc x.depth ≤ b.depth) bs (λ b w. omega (arith, w, ex)) h

    flat : Upto (suc x.depth) (placed_in cs)
    flat = all_weaker (λ (p : Placed). p.depth ≤ 1) (λ (p : Placed). p.depth ≤ suc x.depth) (placed_in cs) (λ p w. omega (arith, w, ex)) (first_upto 1 cs u)

    whole : placed_in (fs ++ loosed x ∷ (bs ++ zs)) ≡ placed_in fs ++ holding (loosed x) (trees_joined (trees_of (placed_in bs)) (trees_of (inside x.depth (placed_in cs)))) ∷ drop (length (inside x.depth (placed_in cs))) (placed_in cs)
    whole =
        placed_both fs (loosed x ∷ (bs ++ zs)) (all_outer (loosed x ∷ (bs ++ zs)) ex)
        ∙ ap (λ ps. placed_in fs ++ ps)
        (put_deep (loosed x) bs zs deep (subst (Upto (suc x.depth)) (sym same) flat)
        ∙ ap (λ ps. holding (loosed x) (trees_joined (trees_of (placed_in bs)) (trees_of (inside x.depth ps))) ∷ drop (length (inside x.depth ps)) ps) same)

    first : tree_told (fs ++ x ∷ bs) ≡ trees_joined (trees_of (placed_in fs)) (more (Node x.sort x.loose x.lines (trees_of (placed_in bs))) none)
    first =
        ap trees_of (placed_both fs (x ∷ bs) (all_outer (x ∷ bs) ex) ∙ ap (λ ps. placed_in fs ++ ps) (put_alone x bs deep))
        ∙ trees_both (placed_in fs) (holding x (trees_of (placed_in bs)) ∷ [])

    second : tree_told (y ∷ cs) ≡ more (Node y.sort y.loose y.lines (trees_of (inside x.depth (placed_in cs)))) (trees_of (drop (length (inside x.depth (placed_in cs))) (placed_in cs)))
    second = ap (λ d. trees_of (holding y (trees_of (inside d (placed_in cs))) ∷ drop (length (inside d (placed_in cs))) (placed_in cs))) (ey ∙ sym ex)

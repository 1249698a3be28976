-- Blocks as trees: all blocks one deeper are the same trees, in a quote.
use Rattle.std.proofs.Common.{◌≡◌, suc, true, false, cond, nat_lt, List, [], ◌∷◌, length, map, drop, refl, ap, ◌∙◌, arith}
use Rattle.std.specs.Prelude.{take_while}
use Rattle.std.proofs.lemmas.Bool.Decides.{nat_tests}
use Rattle.std.proofs.lemmas.List.{drop-map, length-map}
use Rattle.std.proofs.lemmas.List.Sums.{take_while-cons}
use Prim.Native.Nat.compare
use Rattle.tocmark_text_laws.specs.Quoted.{Quote, Told, Node, none, more, Placed, trees_of, put_with, put, placed_in, tree_told, outer_quote, deeper}
use Rattle.tocmark_text_laws.proofs.Lists.{while_map}

abbrev down : Placed → Placed
down p = record { depth = suc p.depth; tree = p.tree }

trees_down : (ps : List Placed) → trees_of (map down ps) ≡ trees_of ps
trees_down [] = refl
trees_down (p ∷ ps) = ap (more p.tree) (trees_down ps)

put_down : (b : Told) (ps : List Placed) → put (deeper b) (map down ps) ≡ map down (put b ps)
put_down b ps = ap (λ ws. put_with (deeper b) ws (map down ps)) within ∙ rw (trees_down inner, length-map inner down, drop-map down (length inner) ps) refl
  where
    inner : List Placed
    inner = take_while (λ (p : Placed). nat_lt b.depth p.depth) ps

    within : take_while (λ (p : Placed). nat_lt (suc b.depth) p.depth) (map down ps) ≡ map down inner
    within = while_map down (λ (p : Placed). nat_lt (suc b.depth) p.depth) ps ∙ simp compare.suc-suc

placed_down : (bs : List Told) → placed_in (map deeper bs) ≡ map down (placed_in bs)
placed_down [] = refl
placed_down (b ∷ bs) = ap (put (deeper b)) (placed_down bs) ∙ put_down b (placed_in bs)

all_deep : (ps : List Placed) → take_while (λ (p : Placed). nat_lt 0 p.depth) (map down ps) ≡ map down ps
all_deep [] = refl
all_deep (p ∷ ps) = take_while-cons (λ (p : Placed). nat_lt 0 p.depth) (down p) (map down ps) ∙ ap (λ k. cond k (down p ∷ take_while (λ (p : Placed). nat_lt 0 p.depth) (map down ps)) []) deep ∙ ap (λ xs. down p ∷ xs) (all_deep ps)
  where
    deep : nat_lt 0 (suc p.depth) ≡ true
    deep = grind (arith, nat_tests)

none_left : {A : Type 0} (xs : List A) → drop (length xs) xs ≡ []
none_left [] = refl
none_left (x ∷ xs) = none_left xs

pub one_tree : (bs : List Told) → tree_told (outer_quote ∷ map deeper bs) ≡ more (Node Quote false [] (tree_told bs)) none
one_tree bs =
    ap (λ ps. trees_of (put outer_quote ps)) (placed_down bs)
    ∙ ap (λ ws. trees_of (put_with outer_quote ws (map down (placed_in bs)))) (all_deep (placed_in bs))
    ∙ ap (λ xs. more (Node Quote false [] (trees_of (map down (placed_in bs)))) (trees_of xs)) (none_left (map down (placed_in bs)))
    ∙ ap (λ ts. more (Node Quote false [] ts) none) (trees_down (placed_in bs))

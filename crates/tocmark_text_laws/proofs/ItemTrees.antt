-- Blocks as trees: all blocks two deeper are the same trees, in an item of a list.
use Rattle.std.proofs.Common.{◌≡◌, ℕ, suc, Bool, true, false, cond, nat_lt, List, [], ◌∷◌, length, map, drop, refl, ap, ◌∙◌, arith}
use Rattle.std.specs.Prelude.{take_while, Option}
use Rattle.std.proofs.lemmas.Bool.Decides.{nat_tests}
use Rattle.std.proofs.lemmas.List.{drop-map, length-map}
use Rattle.std.proofs.lemmas.List.Sums.{take_while-cons}
use Prim.Native.Nat.compare
use Rattle.tocmark_text_laws.specs.Items.{outer_list, first_item, in_item}
use Rattle.tocmark_text_laws.specs.Quoted.{ListFrom, Item, Told, Node, none, more, Placed, trees_of, put_with, put, placed_in, tree_told}
use Rattle.tocmark_text_laws.proofs.Lists.{while_map}

abbrev down : Placed → Placed
down p = record { depth = suc (suc p.depth); tree = p.tree }

trees_down : (ps : List Placed) → trees_of (map down ps) ≡ trees_of ps
trees_down [] = refl
trees_down (p ∷ ps) = ap (more p.tree) (trees_down ps)

put_down : (b : Told) (ps : List Placed) → put (in_item b) (map down ps) ≡ map down (put b ps)
put_down b ps = ap (λ ws. put_with (in_item b) ws (map down ps)) within ∙ rw (trees_down inner, length-map inner down, drop-map down (length inner) ps) refl
  where
    inner : List Placed
    inner = take_while (λ (p : Placed). nat_lt b.depth p.depth) ps

    within : take_while (λ (p : Placed). nat_lt (suc (suc b.depth)) p.depth) (map down ps) ≡ map down inner
    within = while_map down (λ (p : Placed). nat_lt (suc (suc b.depth)) p.depth) ps ∙ simp compare.suc-suc

placed_down : (bs : List Told) → placed_in (map in_item bs) ≡ map down (placed_in bs)
placed_down [] = refl
placed_down (b ∷ bs) = ap (put (in_item b)) (placed_down bs) ∙ put_down b (placed_in bs)

all_deep : (ps : List Placed) → take_while (λ (p : Placed). nat_lt 1 p.depth) (map down ps) ≡ map down ps
all_deep [] = refl
all_deep (p ∷ ps) = take_while-cons (λ (p : Placed). nat_lt 1 p.depth) (down p) (map down ps) ∙ ap (λ k. cond k (down p ∷ take_while (λ (p : Placed). nat_lt 1 p.depth) (map down ps)) []) deep ∙ ap (λ xs. down p ∷ xs) (all_deep ps)
  where
    deep : nat_lt 1 (suc (suc p.depth)) ≡ true
    deep = grind (arith, nat_tests)

none_left : {A : Type 0} (xs : List A) → drop (length xs) xs ≡ []
none_left [] = refl
none_left (x ∷ xs) = none_left xs

-- the item has all blocks in it
item_placed : (bs : List Told) → put first_item (map down (placed_in bs)) ≡ record { depth = 1; tree = Node Item false [] (tree_told bs) } ∷ []
item_placed bs =
    ap (λ ws. put_with first_item ws (map down (placed_in bs))) (all_deep (placed_in bs))
    ∙ ap (λ (xs : List Placed). record { depth = 1; tree = Node Item false [] (trees_of (map down (placed_in bs))) } ∷ xs) (none_left (map down (placed_in bs)))
    ∙ ap (λ ts. record { depth = 1; tree = Node Item false [] ts } ∷ []) (trees_down (placed_in bs))

pub one_list : (first : Option ℕ) (loose : Bool) (bs : List Told) → tree_told (outer_list first loose ∷ first_item ∷ map in_item bs) ≡ more (Node (ListFrom first) loose [] (more (Node Item false [] (tree_told bs)) none)) none
one_list first loose bs =
    ap (λ ps. trees_of (put (outer_list first loose) (put first_item ps))) (placed_down bs)
    ∙ ap (λ ps. trees_of (put (outer_list first loose) ps)) (item_placed bs)

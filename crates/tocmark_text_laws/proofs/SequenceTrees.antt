-- Blocks as trees: the trees of blocks in a row.
use Rattle.std.proofs.Common.{◌≡◌, ℕ, ◌≤◌, Bool, true, false, cond, nat_lt, List, [], ◌∷◌, ◌++◌, length, map, drop, refl, ap, ◌∙◌, subst, sym, arith}
use Rattle.std.specs.Prelude.{take_while}
use Rattle.std.specs.List.{AllByRecursion}
use Rattle.std.proofs.lemmas.Bool.Decides.{nat_tests}
use Rattle.std.proofs.lemmas.List.Sums.{take_while-cons}
use Rattle.tocmark_text_laws.specs.Quoted.{Told, Node, more, Placed, trees_of, put_with, put, placed_in, tree_told}
use Rattle.tocmark_text_laws.specs.Sequence.{later, trees_joined}
use Rattle.tocmark_text_laws.proofs.Alls.{all_weaker}

pub trees_both : (ps zs : List Placed) → trees_of (ps ++ zs) ≡ trees_joined (trees_of ps) (trees_of zs)
trees_both [] zs = refl
trees_both (p ∷ ps) zs = ap (more p.tree) (trees_both ps zs)

-- the list that a block is in says nothing of the trees
placed_later : (n : ℕ) (bs : List Told) → placed_in (map (later n) bs) ≡ placed_in bs
placed_later n [] = refl
placed_later n (b ∷ bs) = ap (put b) (placed_later n bs)

abbrev pub Upto : ℕ → List Placed → Type 0
Upto d ps = AllByRecursion (λ (p : Placed). p.depth ≤ d) ps

-- none is deeper than one before it
abbrev pub Falls : List Placed → Type 0
Falls [] = Unit
Falls (p ∷ ps) = Upto p.depth ps × Falls ps

-- those after the ones that are deeper
abbrev pub left_of : ℕ → List Placed → List Placed
left_of d ps = drop (length (take_while (λ (p : Placed). nat_lt d p.depth) ps)) ps

pub left_falls : (d : ℕ) (ps : List Placed) → Falls ps → Upto d (left_of d ps) × Falls (left_of d ps)
left_falls d [] h = (tt, tt)
left_falls d (p ∷ ps) h = subst (λ (ws : List Placed). Upto d (drop (length ws) (p ∷ ps)) × Falls (drop (length ws) (p ∷ ps))) (sym (take_while-cons (λ (p : Placed). nat_lt d p.depth) p ps)) (by (nat_lt d p.depth) refl (left_falls d ps (h.1)))
  where
    inner : List Placed
    inner = take_while (λ (p : Placed). nat_lt d p.depth) ps

    by : (k : Bool) → nat_lt d p.depth ≡ k → Upto d (left_of d ps) × Falls (left_of d ps) → Upto d (drop (length (cond k (p ∷ inner) [])) (p ∷ ps)) × Falls (drop (length (cond k (p ∷ inner) [])) (p ∷ ps))
    by true e again = again
    by false e again =
        let low : p.depth ≤ d = grind (arith, e, nat_tests) in
        ((low, all_weaker (λ (q : Placed). q.depth ≤ p.depth) (λ (q : Placed). q.depth ≤ d) ps (λ q w. omega (arith, w, low)) (h.0)), h)

pub placed_falls : (bs : List Told) → Falls (placed_in bs)
placed_falls [] = tt
placed_falls (b ∷ bs) = left_falls b.depth (placed_in bs) (placed_falls bs)

-- the first block is in no container
abbrev pub Outermost : List Told → Type 0
Outermost [] = Unit
Outermost (b ∷ bs) = b.depth ≡ 0

pub all_outer : (bs : List Told) → Outermost bs → Upto 0 (placed_in bs)
all_outer [] h = tt
all_outer (b ∷ bs) h = subst (λ d. Upto d (placed_in (b ∷ bs))) h (omega arith, (left_falls b.depth (placed_in bs) (placed_falls bs)).0)

-- blocks that aren't deeper stay out of those before them
while_both : (d : ℕ) (ps zs : List Placed) → Upto d zs → take_while (λ (p : Placed). nat_lt d p.depth) (ps ++ zs) ≡ take_while (λ (p : Placed). nat_lt d p.depth) ps
while_both d [] [] h = refl
while_both d [] (z ∷ zs) h =
    take_while-cons (λ (p : Placed). nat_lt d p.depth) z zs
    ∙ ap (λ k. cond k (z ∷ take_while (λ (p : Placed). nat_lt d p.depth) zs) []) (let low : z.depth ≤ d = h.0 in let e : nat_lt d z.depth ≡ false = grind (arith, low, nat_tests) in e)
while_both d (p ∷ ps) zs h =
    take_while-cons (λ (p : Placed). nat_lt d p.depth) p (ps ++ zs)
    ∙ ap (λ ws. cond (nat_lt d p.depth) (p ∷ ws) []) (while_both d ps zs h)
    ∙ sym (take_while-cons (λ (p : Placed). nat_lt d p.depth) p ps)

left_both : (d : ℕ) (ps zs : List Placed) → drop (length (take_while (λ (p : Placed). nat_lt d p.depth) ps)) (ps ++ zs) ≡ left_of d ps ++ zs
left_both d [] zs = refl
left_both d (p ∷ ps) zs = subst (λ (ws : List Placed). drop (length ws) (p ∷ (ps ++ zs)) ≡ drop (length ws) (p ∷ ps) ++ zs) (sym (take_while-cons (λ (p : Placed). nat_lt d p.depth) p ps)) (by (nat_lt d p.depth) (left_both d ps zs))
  where
    inner : List Placed
    inner = take_while (λ (p : Placed). nat_lt d p.depth) ps

    by : (k : Bool) → drop (length inner) (ps ++ zs) ≡ left_of d ps ++ zs → drop (length (cond k (p ∷ inner) [])) (p ∷ (ps ++ zs)) ≡ drop (length (cond k (p ∷ inner) [])) (p ∷ ps) ++ zs
    by true again = again
    by false again = refl

pub put_both : (b : Told) (ps zs : List Placed) → Upto b.depth zs → put b (ps ++ zs) ≡ put b ps ++ zs
put_both b ps zs h =
    ap (λ ws. put_with b ws (ps ++ zs)) (while_both b.depth ps zs h)
    ∙ ap (λ (xs : List Placed). record { depth = b.depth; tree = Node b.sort b.loose b.lines (trees_of (take_while (λ (p : Placed). nat_lt b.depth p.depth) ps)) } ∷ xs) (left_both b.depth ps zs)

pub placed_both : (bs cs : List Told) → Upto 0 (placed_in cs) → placed_in (bs ++ cs) ≡ placed_in bs ++ placed_in cs
placed_both [] cs h = refl
placed_both (b ∷ bs) cs h = ap (put b) (placed_both bs cs h) ∙ put_both b (placed_in bs) (placed_in cs) (all_weaker (λ (p : Placed). p.depth ≤ 0) (λ (p : Placed). p.depth ≤ b.depth) (placed_in cs) (λ p w. omega (arith, w)) h)

pub trees_in_a_row : (n : ℕ) (bs cs : List Told) → Outermost cs → tree_told (bs ++ map (later n) cs) ≡ trees_joined (tree_told bs) (tree_told cs)
trees_in_a_row n bs cs h =
    ap trees_of (placed_both bs (map (later n) cs) (subst (λ ps. Upto 0 ps) (sym (placed_later n cs)) (all_outer cs h)) ∙ ap (λ ps. placed_in bs ++ ps) (placed_later n cs))
    ∙ trees_both (placed_in bs) (placed_in cs)

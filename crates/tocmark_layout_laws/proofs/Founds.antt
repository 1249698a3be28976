-- What is found in lines: the blocks, whether an empty line is before one of them, and the last line that they take.
use Rattle.std.proofs.Common.{◌≡◌, ℕ, zero, suc, ◌+◌, ◌-◌, ◌≤◌, ◌<◌, Bool, true, false, ◌||◌, max, nat_lt, ◌==◌, ◌&&◌, List, [], ◌∷◌, ◌++◌, length, map, replicate, refl, ap, sym, subst, ◌∙◌, arith}
use Rattle.std.specs.List.{fold}
use Rattle.std.proofs.lemmas.Bool.Decides.{nat_tests}
use Rattle.tocmark_read_scan.proofs.PlainPieces.{drop_behind}
use Rattle.tocmark_commonmark.specs.Beginnings.{beginning}
use Rattle.tocmark_commonmark.specs.Blocks.{first_block, and_rest, blocks_from}
use Rattle.tocmark_commonmark.specs.Lines.{Line}
use Rattle.tocmark_commonmark.specs.Lists.{gap_after}
use Rattle.tocmark_commonmark.specs.Tree.{Block, Blocks, Found, none, more, tree, ends_open, last_of, taken}
use Rattle.tocmark_layout_laws.proofs.Starts.{line_at, lines_at, lines_both, empty_blank, need, need_append}

-- lines, the first of which begins at another column than the others
abbrev pub lines_from : ℕ → ℕ → List (List ℕ) → List Line
lines_from j k [] = []
lines_from j k (l ∷ ls) = line_at j l ∷ lines_at k ls

-- the column of the line after some
abbrev pub next_column : ℕ → ℕ → List (List ℕ) → ℕ
next_column j k [] = j
next_column j k (l ∷ ls) = k

pub from_same : (k : ℕ) (ls : List (List ℕ)) → lines_from k k ls ≡ lines_at k ls
from_same k [] = refl
from_same k (l ∷ ls) = refl

pub from_both : (j k : ℕ) (xs ys : List (List ℕ)) → lines_from j k (xs ++ ys) ≡ lines_from j k xs ++ lines_from (next_column j k xs) k ys
from_both j k [] ys = refl
from_both j k (x ∷ xs) ys =
    ap (λ (ls : List Line). line_at j x ∷ ls) (lines_both k xs ys)
    ∙ ap (λ (ls : List Line). line_at j x ∷ (lines_at k xs ++ ls)) (sym (from_same k ys))

-- empty lines at these columns
abbrev pub empties : List ℕ → List Line
empties ks = map (λ k. line_at k []) ks

pub empties_from : (j k n : ℕ) → (es : List ℕ) × (lines_from j k (replicate n []) ≡ empties es) × (length es ≡ n)
empties_from j k zero = ([], refl, refl)
empties_from j k (suc n) =
    let more = empties_from k k n in
    (j ∷ more.0, ap (λ (ls : List Line). line_at j [] ∷ ls) (sym (from_same k (replicate n [])) ∙ more.1), ap suc (more.2))

pub need_empties : (es : List ℕ) → need (empties es) ≡ length es
need_empties [] = refl
need_empties (e ∷ es) = let a : need (empties es) ≡ length es = need_empties es in omega (arith, a)

-- no block is in empty lines
pub empties_nothing : (es : List ℕ) (fuel at : ℕ) → blocks_from fuel at (empties es) ≡ []
unfolding blocks_from
empties_nothing es zero at = refl
empties_nothing [] (suc fuel) at = refl
empties_nothing (e ∷ es) (suc fuel) at =
    ap (λ b. and_rest (λ n x. blocks_from fuel n x) at (empties (e ∷ es)) (first_block (λ x. blocks_from fuel 0 x) at (line_at e []) (empties es) b)) (empty_blank e)
    ∙ empties_nothing es fuel (at + 1)

-- nor in those before other lines
pub empties_passed : (es : List ℕ) (ls : List Line) (fuel at : ℕ) → blocks_from (length es + fuel) at (empties es ++ ls) ≡ blocks_from fuel (at + length es) ls
unfolding blocks_from
empties_passed [] ls fuel at = ap (λ n. blocks_from n at ls) (let q : 0 + fuel ≡ fuel = omega arith in q) ∙ ap (λ n. blocks_from fuel n ls) (let q : at ≡ at + 0 = omega arith in q)
empties_passed (e ∷ es) ls fuel at =
    ap (λ n. blocks_from n at (empties (e ∷ es) ++ ls)) (let n : ℕ = length es in let q : suc n + fuel ≡ suc (n + fuel) = omega arith in q)
    ∙ ap (λ b. and_rest (λ n x. blocks_from (length es + fuel) n x) at (empties (e ∷ es) ++ ls) (first_block (λ x. blocks_from (length es + fuel) 0 x) at (line_at e []) (empties es ++ ls) b)) (empty_blank e)
    ∙ empties_passed es ls fuel (at + 1)
    ∙ ap (λ n. blocks_from fuel n ls) (let n : ℕ = length es in let q : at + 1 + n ≡ at + suc n = omega arith in q)

-- an empty line is before one of these blocks, where the first one could begin on this line
abbrev pub gap_from : ℕ → List Found → Bool
gap_from at [] = false
gap_from at (f ∷ fs) = nat_lt at f.first || gap_after f.last fs

pub gap_from_is : (last at : ℕ) (fs : List Found) → last + 1 ≡ at → gap_after last fs ≡ gap_from at fs
gap_from_is last at [] h = refl
gap_from_is last at (f ∷ fs) h = ap (λ n. nat_lt n f.first || gap_after f.last fs) h

-- the last line of these, or this one
abbrev pub last_from : ℕ → List Found → ℕ
last_from n fs = fold (λ (n : ℕ) (f : Found). max n f.last) n fs

-- the first of these blocks begins on this line
abbrev pub Heads : ℕ → List Found → Type 0
Heads at [] = Unit {0}
Heads at (f ∷ fs) = f.first ≡ at

-- blocks in so many lines from a number on, so many of which are empty lines in front: their tree, whether an empty line is before
-- one, and their last line
pub record Shape (at lead n : ℕ) (t : Blocks) (g : Bool) (fs : List Found) : Type 0 where
  pub tree_is : tree fs ≡ t
  pub head_is : Heads (at + lead) fs
  pub gap_is : gap_from at fs ≡ g
  pub last_is : (m : ℕ) → m ≤ at → at ≤ suc m → last_from m fs ≡ max m (at + n - 1)

-- with enough fuel, whichever number the first line has, such blocks are found in lines
abbrev pub Finds : List Line → ℕ → ℕ → Blocks → Bool → Type 0
Finds ls lead n t g = (fuel at : ℕ) → need ls ≤ fuel → Shape at lead n t g (blocks_from fuel at ls)

pub empties_find : (es : List ℕ) → Finds (empties es) 0 0 none false
empties_find es fuel at fits =
    subst (Shape at 0 0 none false) (sym (empties_nothing es fuel at))
    (record { tree_is = refl; head_is = tt; gap_is = refl; last_is = λ m low high. omega (arith, low, high) })

-- lines begin with a block that takes so many of them, and the blocks of the rest come after it
pub record Begun (fuel at m : ℕ) (b : Block) (ls rest : List Line) : Type 0 where
  pub found : Found
  pub is : found.block ≡ b
  pub first : found.first ≡ at
  pub last : found.last + 1 ≡ at + m
  pub left : ℕ
  pub enough : need rest ≤ left
  pub comes : blocks_from fuel at ls ≡ found ∷ blocks_from left (at + m) rest

abbrev pub Begins : List Line → ℕ → Block → List Line → Type 0
Begins ls m b rest = (fuel at : ℕ) → need ls ≤ fuel → Begun fuel at m b ls rest

-- a block that takes these lines, whichever blocks they have in them
pub leaf_begins : (l : Line) (ms rest : List Line) (f : ℕ → Found) (b : Block)
    → ((bs : List Line → List Found) (at : ℕ) → first_block bs at l (ms ++ rest) (beginning l) ≡ taken (f at) (suc (length ms)))
    → ((at : ℕ) → (f at).block ≡ b) → ((at : ℕ) → (f at).first ≡ at) → ((at : ℕ) → (f at).last + 1 ≡ at + suc (length ms)) → Begins (l ∷ (ms ++ rest)) (suc (length ms)) b rest
unfolding blocks_from
leaf_begins l ms rest f b h is first last zero at fits = absurd (omega (arith, fits))
leaf_begins l ms rest f b h is first last (suc fuel) at fits =
    let both : need (ms ++ rest) ≡ need ms + need rest = need_append ms rest in
    record {
      found = f at;
      is = is at;
      first = first at;
      last = last at;
      left = fuel;
      enough = omega (arith, both, fits);
      comes =
          ap (λ t. and_rest (λ n x. blocks_from fuel n x) at (l ∷ (ms ++ rest)) t) (h (λ x. blocks_from fuel 0 x) at)
          ∙ ap (λ (xs : List Line). f at ∷ blocks_from fuel (at + suc (length ms)) xs) (drop_behind ms rest);
    }

gap_first : (at n : ℕ) → nat_lt at (at + n) ≡ nat_lt 0 n
gap_first at zero = grind (arith, nat_tests)
gap_first at (suc n) = grind (arith, nat_tests)

-- a block after empty lines, and those after it
pub block_before : (es : List ℕ) (ls rest : List Line) (m lead n : ℕ) (b : Block) (t : Blocks) (g : Bool) → 0 < m → Begins ls m b rest → Finds rest lead n t g
    → Finds (empties es ++ ls) (length es) (length es + (m + n)) (more b t) (nat_lt 0 (length es) || g)
block_before es ls rest m lead n b t g some begins finds fuel at fits =
    subst (λ k. Shape at e (e + (m + n)) (more b t) (nat_lt 0 e || g) (blocks_from k at (empties es ++ ls))) enough
    (subst (Shape at e (e + (m + n)) (more b t) (nat_lt 0 e || g)) (sym (empties_passed es ls (fuel - e) at ∙ s.comes)) shape)
  where
    e : ℕ
    e = length es

    both : need (empties es ++ ls) ≡ need (empties es) + need ls
    both = need_append (empties es) ls

    enough : e + (fuel - e) ≡ fuel
    enough = omega (arith, both, need_empties es, fits)

    s : Begun (fuel - e) (at + e) m b ls rest
    s = begins (fuel - e) (at + e) (omega (arith, both, need_empties es, fits))

    fs : List Found
    fs = blocks_from s.left (at + e + m) rest

    r : Shape (at + e + m) lead n t g fs
    r = finds s.left (at + e + m) s.enough

    shape : Shape at e (e + (m + n)) (more b t) (nat_lt 0 e || g) (s.found ∷ fs)
    shape = record {
      head_is = s.first;
      tree_is = ap (λ x. more x (tree fs)) s.is ∙ ap (more b) r.tree_is;
      gap_is = ap (λ k. nat_lt at k || gap_after s.found.last fs) s.first ∙ ap (λ k. k || gap_after s.found.last fs) (gap_first at e)
          ∙ ap (λ k. nat_lt 0 e || k) (gap_from_is s.found.last (at + e + m) fs s.last ∙ r.gap_is);
      last_is = λ k low high.
          let last = s.last in
          let rest_last : last_from (max k s.found.last) fs ≡ max (max k s.found.last) (at + e + m + n - 1) = r.last_is (max k s.found.last) (omega (arith, low, last, some)) (omega (arith, last)) in
          omega (arith, rest_last, last, low, some);
    }

-- the last line is that of none that is after it
last_low : (n : ℕ) (fs : List Found) → n ≤ last_from n fs
last_low n [] = omega arith
last_low n (f ∷ fs) = let a : max n f.last ≤ last_from (max n f.last) fs = last_low (max n f.last) fs in omega (arith, a)

never : (k : Bool) → k && false ≡ false
never true = refl
never false = refl

-- blocks that end before the last of so many lines leave no paragraph open
all_closed : (count n : ℕ) (fs : List Found) → last_from n fs + 1 < count → fold (λ (was : Bool) (f : Found). f.is_open && (f.last + 1 == count)) false fs ≡ false
all_closed count n [] h = refl
all_closed count n (f ∷ fs) h =
    let low : max n f.last ≤ last_from (max n f.last) fs = last_low (max n f.last) fs in
    let test : (f.last + 1 == count) ≡ false = grind (arith, low, h, nat_tests) in
    ap (λ k. fold (λ (was : Bool) (f : Found). f.is_open && (f.last + 1 == count)) (f.is_open && k) fs) test
    ∙ ap (λ k. fold (λ (was : Bool) (f : Found). f.is_open && (f.last + 1 == count)) k fs) (never f.is_open)
    ∙ all_closed count (max n f.last) fs h

pub closed_before : (count : ℕ) (fs : List Found) → last_of fs + 1 < count → ends_open count fs ≡ false
closed_before count fs h = all_closed count 0 fs h

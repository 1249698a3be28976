-- Blocks below empty lines, and empty lines before which others end.
use Rattle.std.proofs.Common.{◌≡◌, ℕ, zero, suc, ◌+◌, ◌-◌, ◌≤◌, Bool, ◌||◌, nat_lt, List, [], ◌∷◌, ◌++◌, length, replicate, refl, ap, sym, subst, ◌∙◌, arith, append_assoc}
use Rattle.tocmark_commonmark.specs.Lines.{Line}
use Rattle.tocmark_commonmark.specs.Tree.{Block, Blocks, more}
use Rattle.tocmark_document_laws.specs.DocumentLines.{gap_lines}
use Rattle.tocmark_layout_laws.proofs.Starts.{line_at, lines_at, lines_both, empty_blank, Stops}
use Rattle.tocmark_layout_laws.proofs.Founds.{lines_from, from_same, empties, Finds, Begins, block_before}
use Rattle.tocmark_layout_laws.proofs.Lists.{gap_at, gap_long, gap_wide}

-- so many empty lines
abbrev pub gap : ℕ → List (List ℕ)
gap n = replicate n []

-- lines that are all empty
abbrev pub AreEmpty : List (List ℕ) → Type 0
AreEmpty ls = ls ≡ gap (length ls)

pub gap_empty : (n : ℕ) → AreEmpty (gap n)
gap_empty n = ap gap (sym (gap_wide n))

-- empty lines, then a line and others, and what is after these
pub record Parted (k n : ℕ) (x : List ℕ) (xs rest : List (List ℕ)) (ends ls : List Line) : Type 0 where
  pub es : List ℕ
  pub column : ℕ
  pub long : length es ≡ n
  pub is : ls ≡ empties es ++ (line_at column x ∷ (lines_at k xs ++ (lines_at k rest ++ ends)))

lines_parted : (k : ℕ) (xs ys : List (List ℕ)) (ends : List Line) → lines_at k (xs ++ ys) ++ ends ≡ lines_at k xs ++ (lines_at k ys ++ ends)
lines_parted k xs ys ends = ap (λ (ls : List Line). ls ++ ends) (lines_both k xs ys) ∙ append_assoc (lines_at k xs) (lines_at k ys) ends

pub parted : (j k n : ℕ) (x : List ℕ) (xs rest : List (List ℕ)) (ends : List Line) → Parted k n x xs rest ends (lines_from j k ((gap n ++ (x ∷ xs)) ++ rest) ++ ends)
parted j k zero x xs rest ends = record { es = []; column = j; long = refl; is = ap (λ (ls : List Line). line_at j x ∷ ls) (lines_parted k xs rest ends) }
parted j k (suc n) x xs rest ends =
    record {
      es = j ∷ replicate n k;
      column = k;
      long = let a : length (replicate n k) ≡ n = gap_long k n in omega (arith, a);
      is =
          ap (λ (ls : List (List ℕ)). line_at j [] ∷ (lines_at k ls ++ ends)) (append_assoc (gap n) (x ∷ xs) rest)
          ∙ ap (λ (ls : List Line). line_at j [] ∷ ls) (lines_parted k (gap n) (x ∷ (xs ++ rest)) ends)
          ∙ ap (λ (ls : List Line). line_at j [] ∷ (ls ++ (line_at k x ∷ (lines_at k (xs ++ rest) ++ ends)))) (gap_at k n)
          ∙ ap (λ (ls : List Line). line_at j [] ∷ (empties (replicate n k) ++ (line_at k x ∷ ls))) (lines_parted k xs rest ends);
    }

-- a block below empty lines, and those after it
pub placed : (j k n : ℕ) (x : List ℕ) (xs rest : List (List ℕ)) (ends : List Line) (b : Block) (lead m : ℕ) (t : Blocks) (g : Bool)
    → ((i : ℕ) → Begins (line_at i x ∷ (lines_at k xs ++ (lines_at k rest ++ ends))) (suc (length xs)) b (lines_at k rest ++ ends)) → Finds (lines_from k k rest ++ ends) lead m t g
    → Finds (lines_from j k ((gap n ++ (x ∷ xs)) ++ rest) ++ ends) n (n + (suc (length xs) + m)) (more b t) (nat_lt 0 n || g)
placed j k n x xs rest ends b lead m t g begins finds =
    let p : Parted k n x xs rest ends (lines_from j k ((gap n ++ (x ∷ xs)) ++ rest) ++ ends) = parted j k n x xs rest ends in
    subst (λ (ls : List Line). Finds ls n (n + (suc (length xs) + m)) (more b t) (nat_lt 0 n || g)) (sym p.is)
    (subst (λ e. Finds (empties p.es ++ (line_at p.column x ∷ (lines_at k xs ++ (lines_at k rest ++ ends)))) e (e + (suc (length xs) + m)) (more b t) (nat_lt 0 e || g)) p.long
    (block_before p.es (line_at p.column x ∷ (lines_at k xs ++ (lines_at k rest ++ ends))) (lines_at k rest ++ ends) (suc (length xs)) lead m b t g (omega arith) (begins p.column)
    (subst (λ (ls : List Line). Finds (ls ++ ends) lead m t g) (from_same k rest) finds)))

-- a paragraph and a quote end before an empty line
pub stops_two : (n k : ℕ) (ls : List (List ℕ)) (ends : List Line) → 2 ≤ n → Stops (lines_at k (gap_lines n ++ ls) ++ ends)
stops_two n k ls ends two =
    let q : n - 1 ≡ suc (n - 2) = omega (arith, two) in
    subst (λ m. Stops (lines_at k (gap m ++ ls) ++ ends)) (sym q) (empty_blank k)

pub stops_empty : (es : List ℕ) → Stops (empties es)
stops_empty [] = tt
stops_empty (e ∷ es) = empty_blank e

-- What lines at a column begin, and the blocks of lines one after the other.
use Rattle.std.proofs.Common.{◌≡◌, ℕ, zero, suc, ◌+◌, ◌-◌, ◌≤◌, false, ◌==◌, nat_le, List, [], ◌∷◌, ◌++◌, length, map, drop, refl, ap, sym, ◌∙◌, arith, append_assoc, append-nil}
use Rattle.std.specs.Prelude.{take_while}
use Rattle.std.specs.List.{fold}
use Rattle.std.proofs.lemmas.Bool.Decides.{nat_tests}
use Rattle.std.proofs.lemmas.List.{length-map}
use Rattle.std.proofs.lemmas.List.Sums.{take_while-cons}
use Rattle.tocmark_read_scan.proofs.PlainPieces.{drop_behind}
use Rattle.tocmark_commonmark.specs.Beginnings.{Beginning, BlankLine, QuoteLine, beginning_of, near_beginning, beginning, may_be_lazy}
use Rattle.tocmark_commonmark.specs.Blocks.{first_block, and_rest, blocks_from}
use Rattle.tocmark_commonmark.specs.Containers.{goes_on, front, in_quote_as, in_quote, unquoted}
use Rattle.tocmark_commonmark.specs.Lines.{Line, Part, Written, is_blank_byte, is_blank, column_after, indent, line_bytes, without_columns, cells}
use Rattle.tocmark_commonmark.specs.Tree.{Block, Blocks, Quote, Found, ends_open, tree, taken}
use Rattle.tocmark_commonmark.specs.Tree as read
use Rattle.tocmark_document_laws.specs.DocumentLines.{quoted}

-- a line whose bytes begin at a column
abbrev pub part_at : ℕ → List ℕ → Part
part_at k l = record { column = k; spaces = 0; bytes = l }

abbrev pub line_at : ℕ → List ℕ → Line
line_at k l = Written (part_at k l)

abbrev pub lines_at : ℕ → List (List ℕ) → List Line
lines_at k ls = map (line_at k) ls

pub lines_both : (k : ℕ) (xs ys : List (List ℕ)) → lines_at k (xs ++ ys) ≡ lines_at k xs ++ lines_at k ys
lines_both k [] ys = refl
lines_both k (x ∷ xs) ys = ap (λ (ls : List Line). line_at k x ∷ ls) (lines_both k xs ys)

-- an empty line is blank
pub empty_blank : (k : ℕ) → beginning (line_at k []) ≡ BlankLine
unfolding beginning
empty_blank k = refl

-- a quoted line

-- the column of its content
abbrev pub deeper : ℕ → ℕ
deeper k = k + 1 + 1 + 1

pub quote_front : (l : List ℕ) → take_while is_blank_byte (32 ∷ 62 ∷ l) ≡ 32 ∷ []
quote_front l = take_while-cons is_blank_byte 32 (62 ∷ l) ∙ ap (λ (xs : List ℕ). 32 ∷ xs) (take_while-cons is_blank_byte 62 l)

quote_ink : (l : List ℕ) → drop (length (take_while is_blank_byte (32 ∷ 62 ∷ l))) (32 ∷ 62 ∷ l) ≡ 62 ∷ l
quote_ink l = ap (λ (xs : List ℕ). drop (length xs) (32 ∷ 62 ∷ l)) (quote_front l)

pub quote_some : (l : List ℕ) → is_blank (32 ∷ 62 ∷ l) ≡ false
quote_some l = ap (λ (xs : List ℕ). length xs == length (32 ∷ 62 ∷ l)) (quote_front l) ∙ (let n : ℕ = length l in let q : (1 == suc (suc n)) ≡ false = grind (arith, nat_tests) in q)

quote_near : (k : ℕ) (l : List ℕ) → nat_le 4 (indent (part_at k (32 ∷ 62 ∷ l))) ≡ false
quote_near k l = ap (λ (xs : List ℕ). nat_le 4 (0 + (fold column_after k xs - k))) (quote_front l) ∙ (let q : nat_le 4 (0 + (k + 1 - k)) ≡ false = grind (arith, nat_tests) in q)

pub quote_begins : (k : ℕ) (l : List ℕ) → beginning (line_at k (quoted l)) ≡ QuoteLine
unfolding beginning
quote_begins k l =
    let p : Part = part_at k (quoted l) in
    ap (λ b. beginning_of p b (nat_le 4 (indent p))) (quote_some (32 ∷ l))
    ∙ ap (λ b. beginning_of p false b) (quote_near k (32 ∷ l))
    ∙ ap (λ (xs : List ℕ). near_as p xs) (quote_ink (32 ∷ l))
  where
    near_as : Part → List ℕ → Beginning
    near_as p xs = near_beginning p xs (cells xs)

pub quote_inside : (k : ℕ) (l : List ℕ) → unquoted (line_at k (quoted l)) ≡ line_at (deeper k) l
quote_inside k l =
    ap (λ (xs : List ℕ). Written (without_columns 1 (record { column = fold column_after k xs + 1; spaces = 0; bytes = drop 1 (drop (length xs) (quoted l)) }))) (quote_front (32 ∷ l))

-- lines before which a quote and a paragraph end
abbrev pub Stops : List Line → Type 0
Stops [] = Unit {0}
Stops (l ∷ ls) = beginning l ≡ BlankLine

module _ (bs : List Line → List Found) where
  -- a quote has just its lines
  pub quote_lines : (k : ℕ) (inside : List Line) (ls : List (List ℕ)) (rest : List Line) → Stops rest → front (in_quote bs) inside (lines_at k (map quoted ls) ++ rest) ≡ inside ++ lines_at (deeper k) ls
  unfolding may_be_lazy
  quote_lines k inside [] [] h = sym (append-nil inside)
  quote_lines k inside [] (r ∷ rs) h =
      ap (λ b. goes_on (λ x. front (in_quote bs) (inside ++ x ∷ []) rs) inside (in_quote_as bs inside r b)) h ∙ sym (append-nil inside)
  quote_lines k inside (l ∷ ls) rest h =
      let x : Line = line_at k (quoted l) in
      let next : Line → List Line = λ y. front (in_quote bs) (inside ++ y ∷ []) (lines_at k (map quoted ls) ++ rest) in
      ap (λ b. goes_on next inside (in_quote_as bs inside x b)) (quote_begins k l)
      ∙ ap next (quote_inside k l)
      ∙ quote_lines k (inside ++ line_at (deeper k) l ∷ []) ls rest h
      ∙ append_assoc inside (line_at (deeper k) l ∷ []) (lines_at (deeper k) ls)

-- how much fuel lines need
abbrev pub need : List Line → ℕ
need [] = 0
need (l ∷ ls) = suc (length (line_bytes l) + need ls)

pub need_append : (xs ys : List Line) → need (xs ++ ys) ≡ need xs + need ys
need_append [] ys = omega arith
need_append (x ∷ xs) ys = let a : need (xs ++ ys) ≡ need xs + need ys = need_append xs ys in omega (arith, a)

-- with that fuel, whichever number the first line has, these blocks are declared of lines
abbrev pub Becomes : List Line → Blocks → Type 0
Becomes ls t = (fuel at : ℕ) → need ls ≤ fuel → tree (blocks_from fuel at ls) ≡ t

pub nothing_becomes : Becomes [] read.none
unfolding blocks_from
nothing_becomes zero at fits = refl
nothing_becomes (suc fuel) at fits = refl

-- a blank line makes no block
pub blank_before : (l : Line) (ls : List Line) (t : Blocks) → beginning l ≡ BlankLine → Becomes ls t → Becomes (l ∷ ls) t
unfolding blocks_from
blank_before l ls t h more zero at fits = absurd (omega (arith, fits))
blank_before l ls t h more (suc fuel) at fits =
    ap (λ k. tree (and_rest (λ n x. blocks_from fuel n x) at (l ∷ ls) (first_block (λ x. blocks_from fuel 0 x) at l ls k))) h
    ∙ more fuel (at + 1) (omega (arith, fits))

-- a block, and those after it
taken_before : (fuel at n : ℕ) (l : Line) (ls rest : List Line) (f : Found) (b : Block) (t : Blocks) → first_block (λ x. blocks_from fuel 0 x) at l ls (beginning l) ≡ taken f n → f.block ≡ b → drop n (l ∷ ls) ≡ rest → need rest ≤ fuel → Becomes rest t
    → tree (blocks_from (suc fuel) at (l ∷ ls)) ≡ read.more b t
unfolding blocks_from
taken_before fuel at n l ls rest f b t h is past fits more =
    ap (λ k. tree (and_rest (λ n x. blocks_from fuel n x) at (l ∷ ls) k)) h
    ∙ ap (λ x. read.more x (tree (blocks_from fuel (at + n) (drop n (l ∷ ls))))) is
    ∙ ap (λ (xs : List Line). read.more b (tree (blocks_from fuel (at + n) xs))) past
    ∙ ap (read.more b) (more fuel (at + n) fits)

-- a block that takes these lines, whichever blocks they have in them
pub leaf_before : (l : Line) (ms rest : List Line) (f : ℕ → Found) (b : Block) (t : Blocks)
    → ((bs : List Line → List Found) (at : ℕ) → first_block bs at l (ms ++ rest) (beginning l) ≡ taken (f at) (suc (length ms))) → ((at : ℕ) → (f at).block ≡ b)
    → Becomes rest t → Becomes (l ∷ (ms ++ rest)) (read.more b t)
leaf_before l ms rest f b t h is more zero at fits = absurd (omega (arith, fits))
leaf_before l ms rest f b t h is more (suc fuel) at fits =
    let both : need (ms ++ rest) ≡ need ms + need rest = need_append ms rest in
    taken_before fuel at (suc (length ms)) l (ms ++ rest) rest (f at) b t (h (λ x. blocks_from fuel 0 x) at) (is at) (drop_behind ms rest) (omega (arith, both, fits)) more

-- lines in a quote need less
pub need_quoted : (k : ℕ) (ls : List (List ℕ)) → need (lines_at (deeper k) ls) ≤ need (lines_at k (map quoted ls))
need_quoted k [] = omega arith
need_quoted k (l ∷ ls) = let a : need (lines_at (deeper k) ls) ≤ need (lines_at k (map quoted ls)) = need_quoted k ls in omega (arith, a)

-- a quote of lines that have these blocks in them
pub quote_before : (k : ℕ) (q : List ℕ) (qs : List (List ℕ)) (rest : List Line) (inner t : Blocks) → Stops rest → Becomes (lines_at (deeper k) (q ∷ qs)) inner → Becomes rest t
    → Becomes (lines_at k (map quoted (q ∷ qs)) ++ rest) (read.more (Quote inner) t)
quote_before k q qs rest inner t stops inside more zero at fits = absurd (omega (arith, fits))
quote_before k q qs rest inner t stops inside more (suc fuel) at fits =
    taken_before fuel at (length within) l ls rest (found within) (Quote inner) t
    (ap (first_block bs at l ls) (quote_begins k q) ∙ ap (λ x. taken (found x) (length x)) (quote_lines bs k [] (q ∷ qs) rest stops))
    (ap Quote (inside fuel 0 (omega (arith, less, both, fits))))
    (ap (λ n. drop n (lines_at k (map quoted (q ∷ qs)) ++ rest)) long ∙ drop_behind (lines_at k (map quoted (q ∷ qs))) rest)
    (omega (arith, both, fits))
    more
  where
    bs : List Line → List Found
    bs = λ x. blocks_from fuel 0 x

    l : Line
    l = line_at k (quoted q)

    ls : List Line
    ls = lines_at k (map quoted qs) ++ rest

    within : List Line
    within = lines_at (deeper k) (q ∷ qs)

    found : List Line → Found
    found x = record { block = Quote (tree (bs x)); first = at; last = at + length x - 1; is_open = ends_open (length x) (bs x) }

    less : need (lines_at (deeper k) qs) ≤ need (lines_at k (map quoted qs))
    less = need_quoted k qs

    both : need (lines_at k (map quoted qs) ++ rest) ≡ need (lines_at k (map quoted qs)) + need rest
    both = need_append (lines_at k (map quoted qs)) rest

    long : length within ≡ length (lines_at k (map quoted (q ∷ qs)))
    long = length-map (q ∷ qs) (line_at (deeper k)) ∙ sym (length-map (q ∷ qs) quoted) ∙ sym (length-map (map quoted (q ∷ qs)) (line_at k))

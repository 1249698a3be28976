-- A block quote is declared of its lines, also one right after a marker.
use Rattle.std.proofs.Common.{◌≡◌, ℕ, zero, suc, ◌+◌, ◌-◌, ◌≤◌, ◌<◌, List, [], ◌∷◌, ◌++◌, length, map, drop, refl, ap, sym, ◌∙◌, arith}
use Rattle.std.specs.List.{fold}
use Rattle.std.proofs.lemmas.List.{length-map}
use Rattle.tocmark_read_scan.proofs.PlainPieces.{drop_behind}
use Rattle.tocmark_commonmark.specs.Beginnings.{QuoteLine, beginning}
use Rattle.tocmark_commonmark.specs.Blocks.{first_block, and_rest, blocks_from}
use Rattle.tocmark_commonmark.specs.Containers.{goes_on, front, in_quote_as, in_quote, unquoted}
use Rattle.tocmark_commonmark.specs.Lines.{Line, Written, line_bytes, column_after, without_columns, cells}
use Rattle.tocmark_commonmark.specs.Tree.{Blocks, Quote, Found, ends_open, tree, taken}
use Rattle.tocmark_document_laws.specs.DocumentLines.{quoted}
use Rattle.tocmark_layout_laws.proofs.Starts.{line_at, lines_at, deeper, quote_begins, quote_inside, quote_lines, Stops, Becomes, need, need_append, need_quoted}
use Rattle.tocmark_layout_laws.proofs.Fronts.{inky, near}
use Rattle.tocmark_layout_laws.proofs.Founds.{Begins}

-- a line of a quote right after a marker
abbrev pub marked : List ℕ → List ℕ
marked l = 62 ∷ 32 ∷ l

marked_begins : (k : ℕ) (l : List ℕ) → beginning (line_at k (marked l)) ≡ QuoteLine
marked_begins k l = near k (marked l) (cells (marked l)) (inky 62 (32 ∷ l) refl) refl

marked_inside : (k : ℕ) (l : List ℕ) → unquoted (line_at k (marked l)) ≡ line_at (k + 1 + 1) l
marked_inside k l = ap (λ (xs : List ℕ). Written (without_columns 1 (record { column = fold column_after k xs + 1; spaces = 0; bytes = drop 1 (drop (length xs) (marked l)) }))) (inky 62 (32 ∷ l) refl).front

-- a quote whose first line is this one
quote_from : (l inner : Line) (k : ℕ) (qs : List (List ℕ)) (rest : List Line) (t : Blocks) → beginning l ≡ QuoteLine → unquoted l ≡ inner → length (line_bytes inner) < length (line_bytes l) → Stops rest
    → Becomes (inner ∷ lines_at (deeper k) qs) t → Begins (l ∷ (lines_at k (map quoted qs) ++ rest)) (suc (length qs)) (Quote t) rest
unfolding blocks_from
quote_from l inner k qs rest t begins is less stops finds zero at fits = absurd (omega (arith, fits))
quote_from l inner k qs rest t begins is less stops finds (suc fuel) at fits =
    record {
      found = found inside;
      is = ap Quote (finds fuel 0 (omega (arith, few, both, less, fits)));
      first = refl;
      last = omega (arith, wide);
      left = fuel;
      enough = omega (arith, both, fits);
      comes =
          ap (λ b. and_rest (λ n x. blocks_from fuel n x) at (l ∷ ls) (first_block bs at l ls b)) begins
          ∙ ap (λ x. and_rest (λ n x. blocks_from fuel n x) at (l ∷ ls) (taken (found x) (length x))) within
          ∙ ap (λ n. found inside ∷ blocks_from fuel (at + n) (drop n (l ∷ ls))) wide
          ∙ ap (λ (xs : List Line). found inside ∷ blocks_from fuel (at + suc (length qs)) xs) (ap (λ n. drop n (l ∷ ls)) (sym long) ∙ drop_behind (l ∷ lines_at k (map quoted qs)) rest);
    }
  where
    bs : List Line → List Found
    bs x = blocks_from fuel 0 x

    ls : List Line
    ls = lines_at k (map quoted qs) ++ rest

    inside : List Line
    inside = inner ∷ lines_at (deeper k) qs

    found : List Line → Found
    found x = record { block = Quote (tree (bs x)); first = at; last = at + length x - 1; is_open = ends_open (length x) (bs x) }

    within : front (in_quote bs) [] (l ∷ ls) ≡ inside
    within =
        ap (λ b. goes_on (λ x. front (in_quote bs) ([] ++ x ∷ []) ls) [] (in_quote_as bs [] l b)) begins
        ∙ ap (λ x. front (in_quote bs) (x ∷ []) ls) is
        ∙ quote_lines bs k (inner ∷ []) qs rest stops

    few : need (lines_at (deeper k) qs) ≤ need (lines_at k (map quoted qs))
    few = need_quoted k qs

    both : need ls ≡ need (lines_at k (map quoted qs)) + need rest
    both = need_append (lines_at k (map quoted qs)) rest

    wide : length inside ≡ suc (length qs)
    wide = ap suc (length-map qs (line_at (deeper k)))

    long : length (l ∷ lines_at k (map quoted qs)) ≡ suc (length qs)
    long = ap suc (length-map (map quoted qs) (line_at k) ∙ length-map qs quoted)

-- a quote on lines of its own
pub quote_finds : (j k : ℕ) (q : List ℕ) (qs : List (List ℕ)) (rest : List Line) (t : Blocks) → Stops rest → Becomes (line_at (deeper j) q ∷ lines_at (deeper k) qs) t
    → Begins (line_at j (quoted q) ∷ (lines_at k (map quoted qs) ++ rest)) (suc (length qs)) (Quote t) rest
quote_finds j k q qs rest t stops finds =
    quote_from (line_at j (quoted q)) (line_at (deeper j) q) k qs rest t (quote_begins j q) (quote_inside j q) (omega arith) stops finds

-- a quote right after a marker
pub marked_quote : (j k : ℕ) (q : List ℕ) (qs : List (List ℕ)) (rest : List Line) (t : Blocks) → Stops rest → Becomes (line_at (j + 1 + 1) q ∷ lines_at (deeper k) qs) t
    → Begins (line_at j (marked q) ∷ (lines_at k (map quoted qs) ++ rest)) (suc (length qs)) (Quote t) rest
marked_quote j k q qs rest t stops finds =
    quote_from (line_at j (marked q)) (line_at (j + 1 + 1) q) k qs rest t (marked_begins j q) (marked_inside j q) (omega arith) stops finds

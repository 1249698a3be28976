-- The text of a table as it is written: bars without spaces, and under each header as many dashes as it is wide.
use Rattle.std.proofs.Common.{◌≡◌, ℕ, zero, suc, ◌+◌, ◌-◌, ◌<◌, ◌≤◌, max, List, [], ◌∷◌, ◌++◌, length, map, replicate, refl, ap, sym, ◌∙◌, arith, append_assoc, append-nil, length-append}
use Rattle.std.specs.List.{AllByRecursion}
use Rattle.tocmark_event.specs.declared.event.Alignment.{Alignment}
use Rattle.tocmark_event.specs.declared.event.Alignment.TheVariants as align
use Rattle.tocmark_reader.proofs.PlainReading.{IsPrintable}
use Rattle.tocmark_spelling.specs.Closing as closing
use Rattle.tocmark_spelling.specs.Closing.{least_dashes, alignment_cells}
use Rattle.tocmark_laws.specs.Extensions.{lined}
use Rattle.tocmark_laws.specs.PlainTables.{PlainCell, PlainColumn, column_alignment, column_bytes, dashes, row_bytes, row_line, table_text}
use Rattle.tocmark_laws.proofs.TableSpelling.{bars_before, widths_with, rows_behind, table_bytes}

-- a cell without spaces, and a column under a header that is so wide
abbrev pub tight : PlainCell → PlainCell
tight c = record { before = 0; phrase = c.phrase; behind = 0 }

abbrev pub column_under : Alignment → ℕ → PlainColumn
column_under a width = record { before = 0; alignment = a; more = max width (least_dashes a) - least_dashes a; behind = 0 }

abbrev pub columns_under : List Alignment → List ℕ → List PlainColumn
columns_under [] widths = []
columns_under (a ∷ as') [] = []
columns_under (a ∷ as') (n ∷ ns) = column_under a n ∷ columns_under as' ns

-- the phrases of cells
abbrev pub phrases : List PlainCell → List (List ℕ)
phrases cells = map (λ c. c.phrase) cells

-- ---- rows

row_is : (cells : List PlainCell) → bars_before (phrases cells) ++ 124 ∷ [] ≡ row_line (row_bytes (map tight cells))
row_is [] = refl
row_is (c ∷ cs) =
    ap (λ (xs : List ℕ). 124 ∷ xs) (append_assoc c.phrase (bars_before (phrases cs)) (124 ∷ []))
    ∙ ap (λ (xs : List ℕ). 124 ∷ (c.phrase ++ xs)) (row_is cs)
    ∙ ap (λ (xs : List ℕ). 124 ∷ (xs ++ row_line (row_bytes (map tight cs)))) (sym (append-nil c.phrase))

rows_are : (line : List ℕ) (rows : List (List PlainCell)) → line ++ rows_behind (map phrases rows) ≡ lined line (map row_line (map row_bytes (map (map tight) rows)))
rows_are line [] = append-nil line
rows_are line (r ∷ rs) =
    ap (λ (xs : List ℕ). line ++ 10 ∷ xs)
    (sym (append_assoc (bars_before (phrases r)) (124 ∷ []) (rows_behind (map phrases rs)))
    ∙ ap (λ (xs : List ℕ). xs ++ rows_behind (map phrases rs)) (row_is r)
    ∙ rows_are (row_line (row_bytes (map tight r))) rs)

-- ---- the delimiter row

dashes_are : (a : Alignment) (n : ℕ) → closing.dashes a (max n (least_dashes a)) ≡ dashes a (max n (least_dashes a) - least_dashes a)
dashes_are align.None n = let e : max n 1 ≡ suc (max n 1 - 1) = omega arith in ap (λ k. replicate k 45) e
dashes_are align.Left n = let e : max n 2 - 1 ≡ suc (max n 2 - 2) = omega arith in ap (λ k. 58 ∷ replicate k 45) e
dashes_are align.Right n = let e : max n 2 - 1 ≡ suc (max n 2 - 2) = omega arith in ap (λ k. replicate k 45 ++ 58 ∷ []) e
dashes_are align.Center n = let e : max n 3 - 2 ≡ suc (max n 3 - 3) = omega arith in ap (λ k. 58 ∷ (replicate k 45 ++ 58 ∷ [])) e

pub dash_row_is : (aligned : List Alignment) (widths : List ℕ) → alignment_cells aligned widths ++ 124 ∷ [] ≡ row_line (map column_bytes (columns_under aligned widths))
dash_row_is [] widths = refl
dash_row_is (a ∷ as') [] = refl
dash_row_is (a ∷ as') (n ∷ ns) =
    let k : ℕ = max n (least_dashes a) in
    let rest : List ℕ = alignment_cells as' ns in
    ap (λ (xs : List ℕ). 124 ∷ xs) (append_assoc (closing.dashes a k) rest (124 ∷ []))
    ∙ ap (λ (xs : List ℕ). 124 ∷ (closing.dashes a k ++ xs)) (dash_row_is as' ns)
    ∙ ap (λ (xs : List ℕ). 124 ∷ (xs ++ row_line (map column_bytes (columns_under as' ns)))) (dashes_are a n ∙ sym (append-nil (dashes a (k - least_dashes a))))

abbrev ArePrintable : List ℕ → Type 0
ArePrintable xs = AllByRecursion IsPrintable xs

shown : (b : ℕ) → 32 ≤ b → b < 127 → IsPrintable b
shown b low high = record { low = low; high = high }

both : (xs ys : List ℕ) → ArePrintable xs → ArePrintable ys → ArePrintable (xs ++ ys)
both [] ys h k = k
both (x ∷ xs) ys h k = (h.0, both xs ys (h.1) k)

hyphens_shown : (n : ℕ) → ArePrintable (replicate n 45)
hyphens_shown zero = tt
hyphens_shown (suc n) = (shown 45 (omega arith) (omega arith), hyphens_shown n)

colon_shown : IsPrintable 58
colon_shown = shown 58 (omega arith) (omega arith)

dashes_shown : (a : Alignment) (n : ℕ) → ArePrintable (dashes a n)
dashes_shown align.None n = hyphens_shown (suc n)
dashes_shown align.Left n = (colon_shown, hyphens_shown (suc n))
dashes_shown align.Right n = both (replicate (suc n) 45) (58 ∷ []) (hyphens_shown (suc n)) (colon_shown, tt)
dashes_shown align.Center n = (colon_shown, both (replicate (suc n) 45) (58 ∷ []) (hyphens_shown (suc n)) (colon_shown, tt))

pub columns_shown : (aligned : List Alignment) (widths : List ℕ) → ArePrintable (row_line (map column_bytes (columns_under aligned widths)))
columns_shown [] widths = (shown 124 (omega arith) (omega arith), tt)
columns_shown (a ∷ as') [] = (shown 124 (omega arith) (omega arith), tt)
columns_shown (a ∷ as') (n ∷ ns) =
    let d : List ℕ = dashes a (max n (least_dashes a) - least_dashes a) in (
      shown 124 (omega arith) (omega arith),
      both (d ++ []) (row_line (map column_bytes (columns_under as' ns))) (both d [] (dashes_shown a (max n (least_dashes a) - least_dashes a)) tt) (columns_shown as' ns),
    )

-- ---- as many columns as headers

widths_are : (widths : List ℕ) (ls : List (List ℕ)) → length (widths_with widths ls) ≡ length widths + length ls
widths_are widths [] = omega arith
widths_are widths (l ∷ ls) =
    let more : length (widths_with (widths ++ length l ∷ []) ls) ≡ length (widths ++ length l ∷ []) + length ls = widths_are (widths ++ length l ∷ []) ls in
    let one : length (widths ++ length l ∷ []) ≡ length widths + 1 = length-append widths (length l ∷ []) in
    omega (arith, more, one)

same_length : (cells : List PlainCell) → length (phrases cells) ≡ length cells
same_length [] = refl
same_length (c ∷ cs) = ap suc (same_length cs)

pub header_widths : (cells : List PlainCell) → length (widths_with [] (phrases cells)) ≡ length cells
header_widths cells = widths_are [] (phrases cells) ∙ (let same : length (phrases cells) ≡ length cells = same_length cells in let q : 0 + length (phrases cells) ≡ length cells = omega (arith, same) in q)

pub aligned_columns : (aligned : List Alignment) (widths : List ℕ) → length aligned ≡ length widths → map column_alignment (columns_under aligned widths) ≡ aligned
aligned_columns [] widths h = refl
aligned_columns (a ∷ as') [] h = absurd (omega (arith, h))
aligned_columns (a ∷ as') (n ∷ ns) h = ap (λ xs. a ∷ xs) (aligned_columns as' ns (omega (arith, h)))

pub columns_length : (aligned : List Alignment) (widths : List ℕ) → length aligned ≡ length widths → length (columns_under aligned widths) ≡ length aligned
columns_length [] widths h = refl
columns_length (a ∷ as') [] h = absurd (omega (arith, h))
columns_length (a ∷ as') (n ∷ ns) h = ap suc (columns_length as' ns (omega (arith, h)))

-- ---- the table

pub table_is : (aligned : List Alignment) (header : List PlainCell) (rows : List (List PlainCell)) → table_bytes aligned (phrases header) (map phrases rows) ≡ table_text (map tight header) (columns_under aligned (widths_with [] (phrases header))) (map (map tight) rows)
table_is aligned header rows =
    let widths : List ℕ = widths_with [] (phrases header) in
    let bars : List ℕ = bars_before (phrases header) in
    let dash : List ℕ = alignment_cells aligned widths ++ 124 ∷ [] in
    let line : List ℕ = row_line (map column_bytes (columns_under aligned widths)) in
    append_assoc (bars ++ 124 ∷ 10 ∷ []) dash (rows_behind (map phrases rows))
    ∙ append_assoc bars (124 ∷ 10 ∷ []) (dash ++ rows_behind (map phrases rows))
    ∙ sym (append_assoc bars (124 ∷ []) (10 ∷ (dash ++ rows_behind (map phrases rows))))
    ∙ ap (λ (xs : List ℕ). xs ++ 10 ∷ (dash ++ rows_behind (map phrases rows))) (row_is header)
    ∙ ap (λ (xs : List ℕ). row_line (row_bytes (map tight header)) ++ 10 ∷ (xs ++ rows_behind (map phrases rows))) (dash_row_is aligned widths)
    ∙ ap (λ (xs : List ℕ). row_line (row_bytes (map tight header)) ++ 10 ∷ xs) (rows_are line rows)

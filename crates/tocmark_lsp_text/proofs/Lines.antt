-- Steps of walks over the bytes of lines.
use Rattle.std.proofs.Common.{◌≡◌, refl, sym, ap, subst, ◌∙◌, ℕ, zero, suc, ◌+◌, ◌-◌, ◌<◌, ◌≤◌, Bool, true, false, ◌||◌, List, [], ◌∷◌, ◌++◌, length, get_or, take, drop, arith, append_assoc, nat_lt, if◌then◌else◌, string_bytes}
use Rattle.std.proofs.lemmas.List.{drop_more, at_drop_more, at_drop_all}
use Rattle.std.proofs.Common.{◌^◌, length-drop, min}
use Rattle.std.proofs.lemmas.Bool.Decides.{nat_tests}
use Rattle.tocmark_lsp_text.specs.declared.positions.Encoding.{Encoding}
use Rattle.tocmark_lsp_text.specs.Positions.{units, units_of, ends_line, later_starts, starts, is_end, column, IsFront}
use Rattle.std.proofs.lemmas.List.Sums.{sum_by-cons}

-- a byte after which a line ends
pub starts-end : (bytes all new : List ℕ) (at d : ℕ) → at < length bytes → all ++ later_starts at (drop at bytes) ≡ starts bytes → ends_line (get_or bytes at d) (drop (at + 1) bytes) ≡ true → new ≡ all ++ ((at + 1) ∷ []) → new ++ later_starts (at + 1) (drop (at + 1) bytes) ≡ starts bytes
starts-end bytes all new at d within h e n =
    ap (λ xs. xs ++ later_starts (at + 1) (drop (at + 1) bytes)) n
    ∙ append_assoc all ((at + 1) ∷ []) (later_starts (at + 1) (drop (at + 1) bytes))
    ∙ ap (λ xs. all ++ xs)
    (
    sym
    (
    at_drop_more (later_starts at) bytes at d within
    ∙ ap (λ b. if b then (at + 1) ∷ later_starts (at + 1) (drop (at + 1) bytes) else later_starts (at + 1) (drop (at + 1) bytes)) e
    )
    )
    ∙ h

-- a byte after which no line ends
pub starts-more : (bytes all : List ℕ) (at d : ℕ) → at < length bytes → all ++ later_starts at (drop at bytes) ≡ starts bytes → ends_line (get_or bytes at d) (drop (at + 1) bytes) ≡ false → all ++ later_starts (at + 1) (drop (at + 1) bytes) ≡ starts bytes
starts-more bytes all at d within h e =
    ap (λ xs. all ++ xs)
    (
    sym
    (
    at_drop_more (later_starts at) bytes at d within
    ∙ ap (λ b. if b then (at + 1) ∷ later_starts (at + 1) (drop (at + 1) bytes) else later_starts (at + 1) (drop (at + 1) bytes)) e
    )
    )
    ∙ h

-- a byte beyond which a column isn't
pub column-here : (encoding : Encoding) (line : List ℕ) (at left whole d : ℕ) → at < length line → at + column encoding left (drop at line) ≡ whole → (is_end (get_or line at d) || nat_lt left (units encoding (get_or line at d))) ≡ true → at ≡ whole
column-here encoding line at left whole d within h e =
    let more : column encoding left (drop at line) ≡ 0 =
    at_drop_more (column encoding left) line at d within
    ∙ ap (λ b. if b then 0 else suc (column encoding (left - units encoding (get_or line at d)) (drop (at + 1) line))) e in
    omega (arith, h, more)

-- a byte that is before a column
pub column-more : (encoding : Encoding) (line : List ℕ) (at left whole d : ℕ) → at < length line → at + column encoding left (drop at line) ≡ whole → (is_end (get_or line at d) || nat_lt left (units encoding (get_or line at d))) ≡ false → at + 1 + column encoding (left - units encoding (get_or line at d)) (drop (at + 1) line) ≡ whole
column-more encoding line at left whole d within h e =
    let more : column encoding left (drop at line) ≡ suc (column encoding (left - units encoding (get_or line at d)) (drop (at + 1) line)) =
    at_drop_more (column encoding left) line at d within
    ∙ ap (λ b. if b then 0 else suc (column encoding (left - units encoding (get_or line at d)) (drop (at + 1) line))) e in
    omega (arith, h, more)

-- a column is in its line
pub column-le : (encoding : Encoding) (count : ℕ) (line : List ℕ) → column encoding count line ≤ length line
column-le encoding count [] = omega arith
column-le encoding count (b ∷ line) =
    elim (is_end b || nat_lt count (units encoding b)) as (λ v. (if v then 0 else suc (column encoding (count - units encoding b) line)) ≤ suc (length line)) [ true ↦ omega arith | false ↦ omega (arith, column-le encoding (count - units encoding b) line) ]

-- a column's place is not past the end of a text, or it is where the line begins
pub place_fits : (encoding : Encoding) (count : ℕ) (bytes : List ℕ) (start : ℕ) → start + column encoding count (drop start bytes) ≤ start + (length bytes - start)
place_fits encoding count bytes start =
    let e : length (drop start bytes) ≡ length bytes - start = length-drop start bytes in
    omega (arith, column-le encoding count (drop start bytes), e)

-- a front with no more units than a column is before it
column-front : (encoding : Encoding) (b count rest : ℕ) (line : List ℕ) → is_end b ≡ false → count ≡ units encoding b + rest → column encoding count (b ∷ line) ≡ suc (column encoding rest line)
column-front encoding b count rest line e c =
    let low : nat_lt count (units encoding b) ≡ false = grind (arith, nat_tests) in
    let left : count - units encoding b ≡ rest = omega arith in
    ap (λ v. if v || nat_lt count (units encoding b) then 0 else suc (column encoding (count - units encoding b) line)) e
    ∙ ap (λ v. if v then 0 else suc (column encoding (count - units encoding b) line)) low
    ∙ ap (λ n. suc (column encoding n line)) left

-- the column of a front leads back to its end
pub column_back : (encoding : Encoding) (at : ℕ) (line : List ℕ) → IsFront encoding at line → column encoding (units_of encoding (take at line)) line ≡ at
column_back encoding zero [] h = refl
column_back encoding zero (b ∷ line) h = ap (λ v. if v then 0 else suc (column encoding (0 - units encoding b) line)) h
column_back encoding (suc n) [] h = absurd h
column_back encoding (suc n) (b ∷ line) h =
    column-front encoding b (units_of encoding (b ∷ take n line)) (units_of encoding (take n line)) line h.0 (sum_by-cons (units encoding) b (take n line))
    ∙ ap suc (column_back encoding n line h.1)

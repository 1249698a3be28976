-- The lines of a text that is made of lines, each of which begins nothing.
use Rattle.std.proofs.Common.{◌≡◌, ℕ, zero, suc, ◌+◌, ◌-◌, ◌^◌, ◌<◌, Bool, true, false, ◌==◌, ◌&&◌, if◌then◌else◌, nat_lt, List, [], ◌∷◌, ◌++◌, length, refl, ap, sym, subst, ◌∙◌, arith, append_assoc, append-nil, length-append}
use Rattle.std.proofs.lemmas.Bool.Decides.{nat_tests}
use Rattle.std.specs.List.{AllByRecursion}
use Rattle.tocmark_read_scan.specs.Basic.{plus, byte_at, bytes_between}
use Rattle.tocmark_read_scan.proofs.PlainPieces.{feed_joined, piece_between}
use Rattle.tocmark_read_lines.specs.Lines.{ends_here, line_stop, line, lines_from}
use Rattle.tocmark_read_lines.specs.Cells.{cells_of, cell_place}
use Rattle.tocmark_read_lines.specs.declared.line.Line.{Line}
use Rattle.tocmark_read_blocks.proofs.PlainLines.{IsWithin, lines_within, cells_within, numbered}
use Rattle.tocmark_read_blocks.proofs.PlainSteps.{IsPlainLine, BeginsNothing}
use Rattle.tocmark_read_blocks.proofs.PlainPages.{ArePlain}

-- a line of a text: no byte of it ends a line or is a tab, and it begins no block, wherever it is
pub record IsTextLine (l : List ℕ) : Type 0 where
  pub some : 0 < length l
  pub within : AllByRecursion IsWithin l
  pub begins : (at : ℕ) → BeginsNothing l (numbered at l)

-- the lines of such a text, from a place on
abbrev pub line_list : ℕ → ℕ → List ℕ → List (List ℕ) → List Line
line_list before start l [] = line before start (start + length l) (start + length l) ∷ []
line_list before start l (m ∷ ms) = line before start (start + length l) (start + length l + 1) ∷ line_list (before + 1) (start + length l + 1) m ms

-- no byte of a text is a carriage return
abbrev pub AreNoReturns : List ℕ → Type 0
AreNoReturns text = AllByRecursion (λ b. (b == 13) ≡ false) text

no_return_at : (text : List ℕ) (k : ℕ) → AreNoReturns text → (byte_at text k == 13) ≡ false
no_return_at [] k h = refl
no_return_at (b ∷ bs) zero h = h.0
no_return_at (b ∷ bs) (suc k) h = no_return_at bs k (h.1)

feed_ends : (text : List ℕ) (at : ℕ) → ends_here text 10 at ≡ true
unfolding ends_here
feed_ends text at = refl

feed_stop : (text : List ℕ) (start at : ℕ) → AreNoReturns text → line_stop text start 10 at ≡ at
unfolding line_stop
feed_stop text start at h = by_start (nat_lt start at)
  where
    by_start : (c : Bool) → (if c && (byte_at text (at - 1) == 13) then at - 1 else at) ≡ at
    by_start true = rw (no_return_at text (at - 1) h) refl
    by_start false = refl

-- lines joined by line feeds are read as these lines
pub lines_joined : (text : List ℕ) → AreNoReturns text → (before start : ℕ) (l : List ℕ) (ms : List (List ℕ)) → AllByRecursion IsTextLine (l ∷ ms) → lines_from text before start start (feed_joined l ms) ≡ line_list before start l ms
lines_joined text none before start l [] h =
    let some : nat_lt start (start + length l) ≡ true = let long : 0 < length l = (h.0).some in grind (arith, nat_tests) in
    ap (λ (xs : List ℕ). lines_from text before start start xs) (sym (append-nil l))
    ∙ lines_within text before start start l [] (h.0).within
    ∙ rw some refl
lines_joined text none before start l (m ∷ ms) h =
    let at : ℕ = start + length l in
    lines_within text before start start l (10 ∷ feed_joined m ms) (h.0).within
    ∙ rw (feed_ends text at, feed_stop text start at none) refl
    ∙ ap (λ ls. line before start at (at + 1) ∷ ls) (lines_joined text none (before + 1) (at + 1) m ms (h.1))

first_place_of : (l : List ℕ) (start end : ℕ) → 0 < length l → cell_place (numbered start l) 0 end ≡ start
first_place_of [] start end h = absurd (omega arith)
first_place_of (b ∷ bs) start end h = refl

-- such a line that is in a text is plain
line_plain : (text l : List ℕ) (start next number : ℕ) → bytes_between text start (start + length l) ≡ l → IsTextLine l → start + length l < 2 ^ 64 → start < next → IsPlainLine text (numbered start l) (record { number = number; start = start; end = start + length l; next = next })
line_plain text l start next number e h fits order =
    record {
      columns = ap (cells_of [] start) e ∙ cells_within start l h.within fits;
      place = first_place_of l start (start + length l) h.some;
      order = grind (arith, nat_tests);
      begins = subst (λ (xs : List ℕ). BeginsNothing xs (numbered start l)) (sym e) (h.begins start);
    }

-- all lines of a text that is made of such lines are plain
pub lines_plain : (text pre : List ℕ) (before start : ℕ) (l : List ℕ) (ms : List (List ℕ)) → text ≡ pre ++ feed_joined l ms → start ≡ length pre → AllByRecursion IsTextLine (l ∷ ms) → length text < 2 ^ 64 → ArePlain text (line_list before start l ms)
lines_plain text pre before start l [] e at h fits =
    let here : text ≡ pre ++ (l ++ []) = e ∙ ap (λ (xs : List ℕ). pre ++ xs) (sym (append-nil l)) in
    let all : length text ≡ start + length l = ap length e ∙ length-append pre l ∙ ap (λ n. n + length l) (sym at) in
    let long : 0 < length l = (h.0).some in
    ((numbered start l, line_plain text l start (start + length l) (plus before 1) (piece_between text pre l [] start (start + length l) here at (ap (λ n. n + length l) at)) (h.0) (let q : start + length l < 2 ^ 64 = omega (arith, all, fits) in q) (omega arith)), tt)
lines_plain text pre before start l (m ∷ ms) e at h fits =
    let more : List ℕ = feed_joined m ms in
    let next : ℕ = start + length l + 1 in
    let all : length text ≡ start + (length l + suc (length more)) = ap length e ∙ length-append pre (l ++ 10 ∷ more) ∙ ap (λ n. length pre + n) (length-append l (10 ∷ more)) ∙ ap (λ n. n + (length l + suc (length more))) (sym at) in
    let there : text ≡ (pre ++ (l ++ 10 ∷ [])) ++ more = e ∙ ap (λ (xs : List ℕ). pre ++ xs) (sym (append_assoc l (10 ∷ []) more)) ∙ sym (append_assoc pre (l ++ 10 ∷ []) more) in
    let longer : next ≡ length (pre ++ (l ++ 10 ∷ [])) = ap (λ n. n + length l + 1) at ∙ (let q : length pre + length l + 1 ≡ length (pre ++ (l ++ 10 ∷ [])) = grind (arith, length-append) in q) in (
      (numbered start l, line_plain text l start next (plus before 1) (piece_between text pre l (10 ∷ more) start (start + length l) e at (ap (λ n. n + length l) at)) (h.0) (let q : start + length l < 2 ^ 64 = omega (arith, all, fits) in q) (omega arith)),
      lines_plain text (pre ++ (l ++ 10 ∷ [])) (before + 1) next m ms there longer (h.1) fits,
    )

-- The columns of a line as a list of bytes, and one of places where the line has tabs.
use Rattle.std.proofs.Common.{◌≡◌, ℕ, zero, suc, ◌+◌, ◌-◌, ◌^◌, ◌<◌, ◌≤◌, Bool, true, false, ◌==◌, ◌||◌, ◌&&◌, cond, if◌then◌else◌, nat_lt, nat_le, List, [], ◌∷◌, ◌++◌, length, take, drop, reverse, filter, take_while, slice_get, unwrap_or, refl, ap, sym, ◌∙◌, append_assoc, append-nil, arith}
use Rattle.std.proofs.lemmas.Bool.Decides.{nat_tests}
use Rattle.std.proofs.lemmas.Grind.{reverse_onto}
use Rattle.std.proofs.lemmas.List.{drop-map, take-map, length-map, map-append}
use Rattle.std.proofs.lemmas.List.Folds.{length-prefix_len}
use Rattle.std.specs.Char.{is_ascii_digit}
use Rattle.std.specs.List.{prefix_len, list_any}
use Rattle.std.specs.Option.{option_map_or}
use Rattle.tocmark_read_scan.specs.Basic.{plus, bytes_between, byte_at}
use Rattle.tocmark_read_scan.proofs.PlainTests.{both_false}
use Rattle.tocmark_read_lines.specs.Cells.{cell, cells_at, bytes_of, places_of, filled, cells_of, cell_byte, cell_place, run_of, count_of, part, trailing}
use Rattle.tocmark_read_lines.specs.Marks.{tail_length, digit_count}
use Rattle.tocmark_read_lines.specs.declared.cell.Cell.{Cell}

-- what is kept of columns

pub bytes_kept : (at : ℕ) (places bytes : List ℕ) → bytes_of (cells_at at places bytes) ≡ bytes
bytes_kept at places [] = refl
bytes_kept at [] (b ∷ bs) = ap (λ (xs : List ℕ). b ∷ xs) (bytes_kept (plus at 1) [] bs)
bytes_kept at (p ∷ ps) (b ∷ bs) = ap (λ (xs : List ℕ). b ∷ xs) (bytes_kept (plus at 1) ps bs)

pub length_kept : (at : ℕ) (places bytes : List ℕ) → length (cells_at at places bytes) ≡ length bytes
length_kept at places [] = refl
length_kept at [] (b ∷ bs) = ap suc (length_kept (plus at 1) [] bs)
length_kept at (p ∷ ps) (b ∷ bs) = ap suc (length_kept (plus at 1) ps bs)

pub cells_parted : (at : ℕ) (cells : List Cell) → cells_at at (places_of cells) (bytes_of cells) ≡ cells
cells_parted at [] = refl
cells_parted at (c ∷ cs) = ap (λ (xs : List Cell). c ∷ xs) (cells_parted (plus at 1) cs)

cells_more : (cells : List Cell) (at : ℕ) (bytes : List ℕ) → list_any (λ b. b == 9) bytes ≡ false → cells_of cells at bytes ≡ cells ++ cells_at at [] bytes
unfolding filled
cells_more cells at [] h = sym (append-nil cells)
cells_more cells at (b ∷ bs) h =
    let both = both_false (b == 9) (list_any (λ x. x == 9) bs) h in
    rw (both.0) (cells_more (cells ++ cell b at ∷ []) (plus at 1) bs (both.1) ∙ append_assoc cells (cell b at ∷ []) (cells_at (plus at 1) [] bs))

-- bytes without a tab are the columns
pub plain_cells : (at : ℕ) (bytes : List ℕ) → list_any (λ b. b == 9) bytes ≡ false → cells_of [] at bytes ≡ cells_at at [] bytes
plain_cells at bytes h = cells_more [] at bytes h

-- a part of bytes without a tab has none
none_behind : (n : ℕ) (bytes : List ℕ) → list_any (λ b. b == 9) bytes ≡ false → list_any (λ b. b == 9) (drop n bytes) ≡ false
none_behind zero bytes h = h
none_behind (suc n) [] h = refl
none_behind (suc n) (b ∷ bs) h = none_behind n bs ((both_false (b == 9) (list_any (λ x. x == 9) bs) h).1)

none_before : (n : ℕ) (bytes : List ℕ) → list_any (λ b. b == 9) bytes ≡ false → list_any (λ b. b == 9) (take n bytes) ≡ false
none_before zero bytes h = refl
none_before (suc n) [] h = refl
none_before (suc n) (b ∷ bs) h =
    let both = both_false (b == 9) (list_any (λ x. x == 9) bs) h in
    rw (both.0) (none_before n bs (both.1))

none_between : (text : List ℕ) (start end : ℕ) → list_any (λ b. b == 9) text ≡ false → list_any (λ b. b == 9) (bytes_between text start end) ≡ false
none_between text start end h = by_test (nat_le start end && nat_le end (length text))
  where
    by_test : (k : Bool) → list_any (λ b. b == 9) (if k then take (end - start) (drop start text) else []) ≡ false
    by_test true = none_before (end - start) (drop start text) (none_behind start text h)
    by_test false = refl

-- a part of bytes without a tab is its columns
pub plain_part : (text : List ℕ) (start end : ℕ) → false ≡ list_any (λ b. b == 9) text → cells_of [] start (bytes_between text start end) ≡ cells_at start [] (bytes_between text start end)
plain_part text start end h = plain_cells start (bytes_between text start end) (none_between text start end (sym h))

-- an empty range has no columns
pub no_cells : (text : List ℕ) (start end : ℕ) → end ≤ start → cells_of [] start (bytes_between text start end) ≡ []
no_cells text start end h = by_test (nat_le start end && nat_le end (length text))
  where
    none : end - start ≡ 0
    none = omega arith

    by_test : (k : Bool) → cells_of [] start (if k then take (end - start) (drop start text) else []) ≡ []
    by_test true = rw none refl
    by_test false = refl

-- the place of a column in the columns of a line with tabs
pub tabbed_place : (cells : List Cell) (column counted : ℕ) → option_map_or (λ (c : Cell). c.at) (slice_get cells column) counted ≡ unwrap_or (slice_get (places_of cells) column) counted
tabbed_place [] column counted = refl
tabbed_place (c ∷ cs) zero counted = refl
tabbed_place (c ∷ cs) (suc i) counted = tabbed_place cs i counted

pub place_kept : (at : ℕ) (places bytes : List ℕ) (column end : ℕ) → at < 2 ^ 64 → cell_place (cells_at at places bytes) column end ≡ (if nat_lt column (length bytes) then unwrap_or (slice_get places column) (plus at column) else end)
place_kept at places [] column end h = let none : nat_lt column 0 ≡ false = grind (arith, nat_tests) in rw none refl
place_kept at [] (b ∷ bs) zero end h =
    let some : nat_lt 0 (suc (length bs)) ≡ true = grind (arith, nat_tests) in
    rw some (let same : at ≡ plus at 0 = omega arith in same)
place_kept at (p ∷ ps) (b ∷ bs) zero end h =
    let some : nat_lt 0 (suc (length bs)) ≡ true = grind (arith, nat_tests) in
    rw some refl
place_kept at [] (b ∷ bs) (suc i) end h =
    let less : nat_lt (suc i) (suc (length bs)) ≡ nat_lt i (length bs) = grind (arith, nat_tests) in
    let same : plus (plus at 1) i ≡ plus at (suc i) = omega arith in
    let next : plus at 1 < 2 ^ 64 = omega arith in
    place_kept (plus at 1) [] bs i end next ∙ ap (λ (n : ℕ). if nat_lt i (length bs) then n else end) same ∙ ap (λ (t : Bool). if t then plus at (suc i) else end) (sym less)
place_kept at (p ∷ ps) (b ∷ bs) (suc i) end h =
    let less : nat_lt (suc i) (suc (length bs)) ≡ nat_lt i (length bs) = grind (arith, nat_tests) in
    let same : plus (plus at 1) i ≡ plus at (suc i) = omega arith in
    let next : plus at 1 < 2 ^ 64 = omega arith in
    place_kept (plus at 1) ps bs i end next ∙ ap (λ (n : ℕ). if nat_lt i (length bs) then unwrap_or (slice_get ps i) n else end) same ∙ ap (λ (t : Bool). if t then unwrap_or (slice_get ps i) (plus at (suc i)) else end) (sym less)

-- what is asked of columns is asked of their bytes

pub byte_asked : (cells : List Cell) (column : ℕ) → cell_byte cells column ≡ byte_at (bytes_of cells) column
byte_asked [] column = refl
byte_asked (c ∷ cs) zero = refl
byte_asked (c ∷ cs) (suc i) = byte_asked cs i

front_asked : (p : ℕ → Bool) (cells : List Cell) → prefix_len (λ (c : Cell). p c.byte) cells ≡ prefix_len p (bytes_of cells)
front_asked p [] = refl
front_asked p (c ∷ cs) = ap (λ n. cond (p c.byte) (1 + n) 0) (front_asked p cs)

while_asked : (p : ℕ → Bool) (cells : List Cell) → length (take_while (λ (c : Cell). p c.byte) cells) ≡ length (take_while p (bytes_of cells))
while_asked p cells = length-prefix_len (λ (c : Cell). p c.byte) cells ∙ front_asked p cells ∙ sym (length-prefix_len p (bytes_of cells))

while_from : (p : ℕ → Bool) (cells : List Cell) (column : ℕ) → length (take_while (λ (c : Cell). p c.byte) (drop column cells)) ≡ length (take_while p (drop column (bytes_of cells)))
while_from p cells column = while_asked p (drop column cells) ∙ ap (λ (xs : List ℕ). length (take_while p xs)) (sym (drop-map (λ (c : Cell). c.byte) column cells))

pub run_asked : (cells : List Cell) (column b : ℕ) → run_of cells column b ≡ length (take_while (λ x. x == b) (drop column (bytes_of cells)))
run_asked cells column b = while_from (λ x. x == b) cells column

pub digits_asked : (cells : List Cell) (column : ℕ) → digit_count cells column ≡ length (take_while is_ascii_digit (drop column (bytes_of cells)))
digits_asked cells column = while_from is_ascii_digit cells column

filter_asked : (p : ℕ → Bool) (cells : List Cell) → length (filter (λ (c : Cell). p c.byte) cells) ≡ length (filter p (bytes_of cells))
filter_asked p [] = refl
filter_asked p (c ∷ cs) = by_test (p c.byte) (filter (λ (x : Cell). p x.byte) cs) (filter p (bytes_of cs)) (filter_asked p cs)
  where
    by_test : (k : Bool) (xs : List Cell) (ys : List ℕ) → length xs ≡ length ys → length (cond k (c ∷ xs) xs) ≡ length (cond k (c.byte ∷ ys) ys)
    by_test true xs ys e = ap suc e
    by_test false xs ys e = e

pub count_asked : (cells : List Cell) (column b : ℕ) → count_of cells column b ≡ length (filter (λ x. x == b) (drop column (bytes_of cells)))
count_asked cells column b = filter_asked (λ x. x == b) (drop column cells) ∙ ap (λ (xs : List ℕ). length (filter (λ x. x == b) xs)) (sym (drop-map (λ (c : Cell). c.byte) column cells))

reverse_asked : (cells : List Cell) → bytes_of (reverse cells) ≡ reverse (bytes_of cells)
reverse_asked [] = refl
reverse_asked (c ∷ cs) =
    ap bytes_of (reverse_onto cs c [])
    ∙ map-append (λ (x : Cell). x.byte) (reverse cs) (c ∷ [])
    ∙ ap (λ (xs : List ℕ). xs ++ c.byte ∷ []) (reverse_asked cs)
    ∙ sym (reverse_onto (bytes_of cs) c.byte [])

while_back : (p : ℕ → Bool) (cells : List Cell) → length (take_while (λ (c : Cell). p c.byte) (reverse cells)) ≡ length (take_while p (reverse (bytes_of cells)))
while_back p cells = while_asked p (reverse cells) ∙ ap (λ (xs : List ℕ). length (take_while p xs)) (reverse_asked cells)

pub trailing_asked : (cells : List Cell) (b : ℕ) → trailing cells b ≡ length (take_while (λ x. x == b) (reverse (bytes_of cells)))
trailing_asked cells b = while_back (λ x. x == b) cells

pub tail_asked : (cells : List Cell) (b : ℕ) → tail_length cells b ≡ length (take_while (λ x. (x == 32) || (x == b)) (reverse (bytes_of cells)))
tail_asked cells b = while_back (λ x. (x == 32) || (x == b)) cells

part_asked : (cells : List Cell) (from to : ℕ) → bytes_of (part cells from to) ≡ bytes_between (bytes_of cells) from to
part_asked cells from to =
    by_test (nat_le from to && nat_le to (length cells))
    ∙ ap (λ (n : ℕ). if nat_le from to && nat_le to n then take (to - from) (drop from (bytes_of cells)) else []) (sym (length-map cells (λ (c : Cell). c.byte)))
  where
    by_test : (k : Bool) → bytes_of (if k then take (to - from) (drop from cells) else []) ≡ (if k then take (to - from) (drop from (bytes_of cells)) else [])
    by_test true = sym (take-map (λ (c : Cell). c.byte) (to - from) (drop from cells)) ∙ ap (take (to - from)) (sym (drop-map (λ (c : Cell). c.byte) from cells))
    by_test false = refl

pub part_trailing : (cells : List Cell) (from to b : ℕ) → trailing (part cells from to) b ≡ length (take_while (λ x. x == b) (reverse (bytes_between (bytes_of cells) from to)))
part_trailing cells from to b = trailing_asked (part cells from to) b ∙ ap (λ (xs : List ℕ). length (take_while (λ x. x == b) (reverse xs))) (part_asked cells from to)

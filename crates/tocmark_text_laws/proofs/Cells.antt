-- Columns whose places are one further have the same bytes, and what is read of them is the same.
use Rattle.std.proofs.Common.{◌≡◌, ℕ, suc, ◌+◌, ◌-◌, ◌^◌, ◌<◌, Bool, true, false, ◌==◌, ◌&&◌, if◌then◌else◌, nat_le, List, [], ◌∷◌, ◌++◌, length, map, drop, reverse, refl, ap, sym, ◌∙◌, arith}
use Rattle.std.specs.Prelude.{filter, take_while, slice_get, slice_range, option_map, replicate, ◌%◌, Option, Some, None}
use Rattle.std.specs.Option.{option_map_or}
use Rattle.std.proofs.lemmas.List.{length-map, map-append, drop-map}
use Rattle.std.proofs.lemmas.Option.{slice_get-map}
use Rattle.tocmark_read_scan.specs.Basic.{plus}
use Rattle.tocmark_read_lines.specs.Cells.{cell, cells_of, filled, bytes_of, cell_byte, cell_place, run_of, count_of, ink_from, part, trailing, trimmed, first_cursor, moved, is_blank_at}
use Rattle.tocmark_read_lines.specs.declared.cell.Cell.{Cell}
use Rattle.tocmark_read_lines.specs.declared.cell.Cursor.{Cursor}
use Rattle.tocmark_text_laws.specs.Further.{cell_on}
use Rattle.tocmark_text_laws.proofs.Lists.{while_map, filter_map_on, reverse_map, range_map, copies_map, map_or_map}
use Rattle.tocmark_text_laws.proofs.LinesFurther.{plus_on}

pub filled_on : (cs : List Cell) (b at : ℕ) → filled (map cell_on cs) b (suc at) ≡ map cell_on (filled cs b at)
unfolding filled
filled_on cs b at = rw (length-map cs cell_on) (by (b == 9))
  where
    by : (k : Bool) → (if k then map cell_on cs ++ replicate (4 - length cs % 4) (cell 32 (suc at)) else map cell_on cs ++ cell b (suc at) ∷ [])
        ≡ map cell_on (if k then cs ++ replicate (4 - length cs % 4) (cell 32 at) else cs ++ cell b at ∷ [])
    by true = ap (λ xs. map cell_on cs ++ xs) (sym (copies_map cell_on (4 - length cs % 4) (cell 32 at))) ∙ sym (map-append cell_on cs (replicate (4 - length cs % 4) (cell 32 at)))
    by false = sym (map-append cell_on cs (cell b at ∷ []))

pub cells_on : (cs : List Cell) (at : ℕ) (bs : List ℕ) → at + length bs + 1 < 2 ^ 64 - 1 → cells_of (map cell_on cs) (suc at) bs ≡ map cell_on (cells_of cs at bs)
cells_on cs at [] h = refl
cells_on cs at (b ∷ bs) h =
    ap (λ (n : ℕ). cells_of (filled (map cell_on cs) b (suc at)) n bs) (plus_on at (omega arith))
    ∙ ap (λ (xs : List Cell). cells_of xs (suc (plus at 1)) bs) (filled_on cs b at)
    ∙ cells_on (filled cs b at) (plus at 1) bs (omega arith)

pub same_length : (cs : List Cell) → length (map cell_on cs) ≡ length cs
same_length cs = length-map cs cell_on

pub same_byte : (cs : List Cell) (c : ℕ) → cell_byte (map cell_on cs) c ≡ cell_byte cs c
same_byte cs c = ap (λ o. option_map_or (λ (c : Cell). c.byte) o 10) (slice_get-map cell_on cs c) ∙ map_or_map cell_on (λ (c : Cell). c.byte) 10 (slice_get cs c)

pub place_on : (cs : List Cell) (c end : ℕ) → cell_place (map cell_on cs) c (suc end) ≡ suc (cell_place cs c end)
place_on cs c end = ap (λ o. option_map_or (λ (c : Cell). c.at) o (suc end)) (slice_get-map cell_on cs c) ∙ by (slice_get cs c)
  where
    by : (o : Option Cell) → option_map_or (λ (c : Cell). c.at) (option_map cell_on o) (suc end) ≡ suc (option_map_or (λ (c : Cell). c.at) o end)
    by None = refl
    by (Some x) = refl

pub same_bytes : (cs : List Cell) → bytes_of (map cell_on cs) ≡ bytes_of cs
same_bytes [] = refl
same_bytes (c ∷ cs) = ap (λ bs. c.byte ∷ bs) (same_bytes cs)

pub same_run : (cs : List Cell) (c b : ℕ) → run_of (map cell_on cs) c b ≡ run_of cs c b
same_run cs c b =
    ap (λ xs. length (take_while (λ (c : Cell). c.byte == b) xs)) (drop-map cell_on c cs)
    ∙ ap length (while_map cell_on (λ (c : Cell). c.byte == b) (drop c cs))
    ∙ length-map (take_while (λ (c : Cell). c.byte == b) (drop c cs)) cell_on

pub same_count : (cs : List Cell) (c b : ℕ) → count_of (map cell_on cs) c b ≡ count_of cs c b
same_count cs c b =
    ap (λ xs. length (filter (λ (c : Cell). c.byte == b) xs)) (drop-map cell_on c cs)
    ∙ ap length (filter_map_on cell_on (λ (c : Cell). c.byte == b) (drop c cs))
    ∙ length-map (filter (λ (c : Cell). c.byte == b) (drop c cs)) cell_on

pub same_ink : (cs : List Cell) (c : ℕ) → ink_from (map cell_on cs) c ≡ ink_from cs c
same_ink cs c = ap (plus c) (same_run cs c 32)

pub part_on : (cs : List Cell) (from to : ℕ) → part (map cell_on cs) from to ≡ map cell_on (part cs from to)
part_on cs from to = rw (same_length cs, range_map cell_on cs from to) (by (nat_le from to && nat_le to (length cs)))
  where
    by : (k : Bool) → (if k then map cell_on (slice_range cs from to) else []) ≡ map cell_on (if k then slice_range cs from to else [])
    by true = refl
    by false = refl

pub same_trailing : (cs : List Cell) (b : ℕ) → trailing (map cell_on cs) b ≡ trailing cs b
same_trailing cs b =
    ap (λ xs. length (take_while (λ (c : Cell). c.byte == b) xs)) (reverse_map cell_on cs)
    ∙ ap length (while_map cell_on (λ (c : Cell). c.byte == b) (reverse cs))
    ∙ length-map (take_while (λ (c : Cell). c.byte == b) (reverse cs)) cell_on

pub same_trimmed : (cs : List Cell) (from to b : ℕ) → trimmed (map cell_on cs) from to b ≡ trimmed cs from to b
unfolding trimmed
same_trimmed cs from to b = ap (λ xs. to - trailing xs b) (part_on cs from to) ∙ ap (λ n. to - n) (same_trailing (part cs from to) b)

pub same_first : (cs : List Cell) → first_cursor (map cell_on cs) ≡ first_cursor cs
unfolding first_cursor
same_first cs = rw (same_ink cs 0) refl

pub same_moved : (cs : List Cell) (cursor : Cursor) (c : ℕ) → moved (map cell_on cs) cursor c ≡ moved cs cursor c
unfolding moved
same_moved cs cursor c = rw (same_ink cs c) refl

pub same_blank : (cs : List Cell) (cursor : Cursor) → is_blank_at (map cell_on cs) cursor ≡ is_blank_at cs cursor
same_blank cs cursor = rw (same_length cs) refl

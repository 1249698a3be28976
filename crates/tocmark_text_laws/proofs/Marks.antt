-- What a line begins with is the same where the places of its columns are one further.
use Rattle.std.proofs.Common.{◌≡◌, ℕ, ◌-◌, Bool, true, false, not, ◌==◌, ◌||◌, if◌then◌else◌, List, length, map, drop, reverse, refl, ap, ◌∙◌}
use Rattle.std.specs.Prelude.{take_while, Option, Some, None}
use Rattle.std.specs.Option.{option_map}
use Rattle.std.specs.Char.{is_ascii_digit}
use Rattle.std.proofs.lemmas.List.{length-map, drop-map}
use Rattle.tocmark_event.specs.declared.event.HeadingLevel.{HeadingLevel}
use Rattle.tocmark_read_scan.specs.Basic.{plus}
use Rattle.tocmark_read_lines.specs.Cells.{cell_byte, run_of, ink_from, trailing, trimmed}
use Rattle.tocmark_read_lines.specs.Marks.{level_of, is_behind, heading_end_before, heading_from, heading_at, fence_at, closes_fence, tail_length, tail_of, is_rule, underline_at, digit_count, bullet_at, ordered_at, marker_at}
use Rattle.tocmark_read_lines.specs.declared.cell.Cell.{Cell}
use Rattle.tocmark_read_lines.specs.declared.cell.Cursor.{Cursor}
use Rattle.tocmark_read_lines.specs.declared.beginnings.Fence.{Fence}
use Rattle.tocmark_read_lines.specs.declared.beginnings.Tail.{Tail}
use Rattle.tocmark_text_laws.specs.Further.{cell_on}
use Rattle.tocmark_text_laws.proofs.Lists.{while_map, reverse_map}
use Rattle.tocmark_text_laws.proofs.Cells.{same_length, same_byte, same_bytes, same_run, same_count, same_ink, same_trailing, same_trimmed}

pub same_behind : (cs : List Cell) (c : ℕ) → is_behind (map cell_on cs) c ≡ is_behind cs c
unfolding is_behind
same_behind cs c = rw (same_length cs, same_byte cs c) refl

pub same_heading_end : (cs : List Cell) (from limit : ℕ) → heading_end_before (map cell_on cs) from limit ≡ heading_end_before cs from limit
unfolding heading_end_before
same_heading_end cs from limit =
    rw (same_trimmed cs from limit 32, same_trimmed cs from (trimmed cs from limit 32) 35, same_byte cs (trimmed cs from (trimmed cs from limit 32) 35 - 1), same_trimmed cs from (trimmed cs from (trimmed cs from limit 32) 35) 32) refl

pub same_heading_from : (cs : List Cell) (from : ℕ) (l : HeadingLevel) → heading_from (map cell_on cs) from l ≡ heading_from cs from l
same_heading_from cs from l = ap (λ n. record { level = l; from = from; to = n }) (ap (heading_end_before (map cell_on cs) from) (same_length cs) ∙ same_heading_end cs from (length cs))

pub same_heading : (cs : List Cell) (c : ℕ) → heading_at (map cell_on cs) c ≡ heading_at cs c
unfolding heading_at
same_heading cs c = rw (same_run cs c 35, same_behind cs (plus c (run_of cs c 35)), same_ink cs (plus c (run_of cs c 35))) (by (is_behind cs (plus c (run_of cs c 35))) (level_of (plus c (run_of cs c 35) - c)))
  where
    each : (from : ℕ) (o : Option HeadingLevel) → option_map (heading_from (map cell_on cs) from) o ≡ option_map (heading_from cs from) o
    each from None = refl
    each from (Some l) = ap Some (same_heading_from cs from l)

    by : (k : Bool) (o : Option HeadingLevel) → (if not k then None else option_map (heading_from (map cell_on cs) (ink_from cs (plus c (run_of cs c 35)))) o) ≡ (if not k then None else option_map (heading_from cs (ink_from cs (plus c (run_of cs c 35)))) o)
    by true o = each (ink_from cs (plus c (run_of cs c 35))) o
    by false o = refl

pub same_fence : (cs : List Cell) (cursor : Cursor) → fence_at (map cell_on cs) cursor ≡ fence_at cs cursor
unfolding fence_at
same_fence cs cursor = rw (same_byte cs cursor.ink, same_run cs cursor.ink (cell_byte cs cursor.ink), same_count cs (plus cursor.ink (run_of cs cursor.ink (cell_byte cs cursor.ink))) 96) refl

pub same_closes : (cs : List Cell) (cursor : Cursor) (f : Fence) → closes_fence (map cell_on cs) cursor f ≡ closes_fence cs cursor f
unfolding closes_fence
same_closes cs cursor f = rw (same_run cs cursor.ink f.byte, same_length cs, same_ink cs (plus cursor.ink (run_of cs cursor.ink f.byte))) refl

pub same_tail_length : (cs : List Cell) (b : ℕ) → tail_length (map cell_on cs) b ≡ tail_length cs b
same_tail_length cs b =
    ap (λ xs. length (take_while (λ (c : Cell). (c.byte == 32) || (c.byte == b)) xs)) (reverse_map cell_on cs)
    ∙ ap length (while_map cell_on (λ (c : Cell). (c.byte == 32) || (c.byte == b)) (reverse cs))
    ∙ length-map (take_while (λ (c : Cell). (c.byte == 32) || (c.byte == b)) (reverse cs)) cell_on

pub same_tail : (cs : List Cell) → tail_of (map cell_on cs) ≡ tail_of cs
unfolding tail_of
same_tail cs = rw (same_length cs, same_trailing cs 32, same_byte cs (length cs - trailing cs 32 - 1), same_tail_length cs (cell_byte cs (length cs - trailing cs 32 - 1))) refl

pub same_rule : (cs : List Cell) (tail : Tail) (c : ℕ) → is_rule (map cell_on cs) tail c ≡ is_rule cs tail c
unfolding is_rule
same_rule cs tail c = rw (same_byte cs c, same_count cs c (cell_byte cs c)) refl

pub same_underline : (cs : List Cell) (c : ℕ) → underline_at (map cell_on cs) c ≡ underline_at cs c
unfolding underline_at
same_underline cs c = rw (same_byte cs c, same_run cs c (cell_byte cs c), same_length cs, same_ink cs (plus c (run_of cs c (cell_byte cs c)))) refl

pub same_digits : (cs : List Cell) (c : ℕ) → digit_count (map cell_on cs) c ≡ digit_count cs c
same_digits cs c =
    ap (λ xs. length (take_while (λ (c : Cell). is_ascii_digit c.byte) xs)) (drop-map cell_on c cs)
    ∙ ap length (while_map cell_on (λ (c : Cell). is_ascii_digit c.byte) (drop c cs))
    ∙ length-map (take_while (λ (c : Cell). is_ascii_digit c.byte) (drop c cs)) cell_on

pub same_bullet : (cs : List Cell) (c : ℕ) → bullet_at (map cell_on cs) c ≡ bullet_at cs c
unfolding bullet_at
same_bullet cs c = rw (same_byte cs c, same_behind cs (plus c 1)) refl

pub same_ordered : (cs : List Cell) (c : ℕ) → ordered_at (map cell_on cs) c ≡ ordered_at cs c
unfolding ordered_at
same_ordered cs c = rw (same_digits cs c, same_byte cs (plus c (digit_count cs c)), same_behind cs (plus (plus c (digit_count cs c)) 1), same_bytes cs) refl

pub same_marker : (cs : List Cell) (c : ℕ) → marker_at (map cell_on cs) c ≡ marker_at cs c
unfolding marker_at
same_marker cs c = rw (same_bullet cs c, same_ordered cs c) refl

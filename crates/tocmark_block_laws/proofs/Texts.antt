-- Texts within a line: the reader cuts them by columns, the declaration by bytes.
use Rattle.std.proofs.Common.{◌≡◌, ℕ, suc, ◌+◌, ◌-◌, ◌^◌, ◌<◌, ◌≤◌, Bool, true, false, not, ◌==◌, ◌&&◌, ◌||◌, cond, if◌then◌else◌, nat_lt, nat_le, List, [], ◌∷◌, ◌++◌, length, take, drop, reverse, refl, ap, sym, subst, ◌∙◌, arith, length-drop, length-take}
use Rattle.std.specs.Prelude.{take_while, Option, Some, None}
use Rattle.std.specs.List.{list_any, prefix_len}
use Rattle.std.specs.Option.{option_map}
use Rattle.std.proofs.lemmas.Bool.Decides.{nat_tests}
use Rattle.std.proofs.lemmas.List.{take-take, take-append-drop, length-reverse, reverse-append, reverse-reverse}
use Rattle.std.proofs.lemmas.List.Folds.{length-prefix_len}
use Rattle.tocmark_event.specs.declared.event.HeadingLevel.{HeadingLevel}
use Rattle.tocmark_read_scan.specs.Basic.{plus, bytes_between}
use Rattle.tocmark_read_scan.proofs.PlainPieces.{drop_behind}
use Rattle.tocmark_read_scan.proofs.PlainTests.{both_false}
use Rattle.tocmark_read_lines.specs.Cells.{bytes_of, cells_at, cell_byte, cell_place, run_of, ink_from, part, trailing, trimmed}
use Rattle.tocmark_read_lines.specs.Marks.{level_of, is_behind, heading_end_before, heading_from, heading_at}
use Rattle.tocmark_read_lines.specs.declared.beginnings.Heading.{Heading}
use Rattle.tocmark_read_lines.specs.declared.cell.Cell.{Cell}
use Rattle.tocmark_read_lines.proofs.Columns.{plain_cells, place_kept, part_trailing}
use Rattle.tocmark_commonmark.specs.Lines.{is_blank_byte, without_first_blanks, without_last_blanks, cells}
use Rattle.tocmark_block_laws.specs.Quotes.{is_special, IsPlain}
use Rattle.tocmark_block_laws.proofs.Columns.{front_low, run_low, plus_low, ink_low}
use Rattle.tocmark_block_laws.proofs.TextLines.{Plain, plain_head, no_tab, between_plain}

-- spaces are all the blanks of such a text

pub front_same : (xs : List ℕ) → IsPlain xs → prefix_len (λ x. x == 32) xs ≡ prefix_len is_blank_byte xs
front_same [] h = refl
front_same (b ∷ bs) h = rw p.tab (by (b == 32) (front_same bs p.more))
  where
    p : Plain b bs
    p = plain_head b bs h

    by : (k : Bool) → prefix_len (λ x. x == 32) bs ≡ prefix_len is_blank_byte bs → cond k (1 + prefix_len (λ x. x == 32) bs) 0 ≡ cond (k || false) (1 + prefix_len is_blank_byte bs) 0
    by true e = ap (λ n. 1 + n) e
    by false e = refl

pub blanks_same : (xs : List ℕ) → IsPlain xs → length (take_while (λ x. x == 32) xs) ≡ length (take_while is_blank_byte xs)
blanks_same xs h = length-prefix_len (λ x. x == 32) xs ∙ front_same xs h ∙ sym (length-prefix_len is_blank_byte xs)

plain_append : (xs ys : List ℕ) → IsPlain xs → IsPlain ys → IsPlain (xs ++ ys)
plain_append [] ys h k = k
plain_append (x ∷ xs) ys h k = let both = both_false (is_special x) (list_any is_special xs) h in rw (both.0) (plain_append xs ys (both.1) k)

pub reverse_plain : (xs : List ℕ) → IsPlain xs → IsPlain (reverse xs)
reverse_plain [] h = refl
reverse_plain (x ∷ xs) h =
    let both = both_false (is_special x) (list_any is_special xs) h in
    let one : IsPlain (x ∷ []) = rw (both.0) refl in
    subst IsPlain (sym (reverse-append (x ∷ []) xs)) (plain_append (reverse xs) (x ∷ []) (reverse_plain xs (both.1)) one)

-- no blank is left

stops : (p : ℕ → Bool) (xs : List ℕ) → prefix_len p (drop (prefix_len p xs) xs) ≡ 0
stops p [] = refl
stops p (x ∷ xs) = by (p x) refl (stops p xs)
  where
    by : (k : Bool) → p x ≡ k → prefix_len p (drop (prefix_len p xs) xs) ≡ 0 → prefix_len p (drop (cond (p x) (1 + prefix_len p xs) 0) (x ∷ xs)) ≡ 0
    by true e again =
        ap (λ t. prefix_len p (drop (cond t (1 + prefix_len p xs) 0) (x ∷ xs))) e
        ∙ ap (λ k. prefix_len p (drop k (x ∷ xs))) (let q : 1 + prefix_len p xs ≡ suc (prefix_len p xs) = omega arith in q) ∙ again
    by false e again = ap (λ t. prefix_len p (drop (cond t (1 + prefix_len p xs) 0) (x ∷ xs))) e ∙ ap (λ t. cond t (1 + prefix_len p xs) 0) e

first_idle : (xs : List ℕ) → without_first_blanks (without_first_blanks xs) ≡ without_first_blanks xs
first_idle xs =
    let ys : List ℕ = without_first_blanks xs in
    let none : length (take_while is_blank_byte ys) ≡ 0 =
    length-prefix_len is_blank_byte ys ∙ ap (λ k. prefix_len is_blank_byte (drop k xs)) (length-prefix_len is_blank_byte xs) ∙ stops is_blank_byte xs in
    ap (λ k. drop k ys) none

pub last_idle : (xs : List ℕ) → without_last_blanks (without_last_blanks xs) ≡ without_last_blanks xs
last_idle xs = ap (λ ys. reverse (without_first_blanks ys)) (reverse-reverse (without_first_blanks (reverse xs))) ∙ ap reverse (first_idle (reverse xs))

-- the end is cut off

from_back : (k : ℕ) (xs : List ℕ) → k ≤ length xs → reverse (drop k (reverse xs)) ≡ take (length xs - k) xs
from_back k xs low =
    ap (λ ys. reverse (drop k (reverse ys))) (sym (take-append-drop m xs))
    ∙ ap (λ ys. reverse (drop k ys)) (reverse-append (take m xs) (drop m xs))
    ∙ ap (λ j. reverse (drop j (reverse (drop m xs) ++ reverse (take m xs)))) count
    ∙ ap reverse (drop_behind (reverse (drop m xs)) (reverse (take m xs)))
    ∙ reverse-reverse (take m xs)
  where
    m : ℕ
    m = length xs - k

    count : k ≡ length (reverse (drop m xs))
    count = omega (arith, low, length-reverse (drop m xs), length-drop m xs)

-- a part of bytes
pub between_is : (xs : List ℕ) (from to : ℕ) → from ≤ to → to ≤ length xs → bytes_between xs from to ≡ take (to - from) (drop from xs)
between_is xs from to order within =
    let first : nat_le from to ≡ true = grind (arith, nat_tests) in
    let second : nat_le to (length xs) ≡ true = grind (arith, nat_tests) in
    rw (first, second) refl

pub between_length : (xs : List ℕ) (from to : ℕ) → from ≤ to → to ≤ length xs → length (bytes_between xs from to) ≡ to - from
between_length xs from to order within = ap length (between_is xs from to order within) ∙ (let k : length (take (to - from) (drop from xs)) ≡ to - from = omega (arith, length-take (to - from) (drop from xs), length-drop from xs) in k)

pub between_none : (xs : List ℕ) (from to : ℕ) → nat_lt from to ≡ false → bytes_between xs from to ≡ []
between_none xs from to h = by (nat_le from to && nat_le to (length xs))
  where
    no_width : to - from ≡ 0
    no_width = let k : to ≤ from = grind (arith, nat_tests) in omega (arith, k)

    by : (k : Bool) → (if k then take (to - from) (drop from xs) else []) ≡ []
    by true = ap (λ n. take n (drop from xs)) no_width
    by false = refl

trailing_counted : (r : List Cell) (from to : ℕ) → IsPlain (bytes_of r) → trailing (part r from to) 32 ≡ length (take_while is_blank_byte (reverse (bytes_between (bytes_of r) from to)))
trailing_counted r from to h = part_trailing r from to 32 ∙ blanks_same (reverse (bytes_between (bytes_of r) from to)) (reverse_plain (bytes_between (bytes_of r) from to) (between_plain (bytes_of r) from to h))

pub trimmed_text : (r : List Cell) (from to : ℕ) → IsPlain (bytes_of r) → from ≤ to → to ≤ length (bytes_of r)
    → bytes_between (bytes_of r) from (trimmed r from to 32) ≡ without_last_blanks (bytes_between (bytes_of r) from to)
unfolding trimmed
trimmed_text r from to h order within =
    ap (λ k. bytes_between bs from (to - k)) (trailing_counted r from to h)
    ∙ between_is bs from (to - k) (omega (arith, low, wide, order)) (omega (arith, within))
    ∙ ap (λ n. take n (drop from bs)) less
    ∙ sym (take-take (length u - k) (to - from) (drop from bs) (omega (arith, wide)))
    ∙ ap (take (length u - k)) (sym (between_is bs from to order within))
    ∙ sym (from_back k u low')
  where
    bs : List ℕ
    bs = bytes_of r

    u : List ℕ
    u = bytes_between bs from to

    k : ℕ
    k = length (take_while is_blank_byte (reverse u))

    wide : length u ≡ to - from
    wide = between_length bs from to order within

    low' : k ≤ length u
    low' = let m : k ≤ length (reverse u) = front_low is_blank_byte (reverse u) in omega (arith, m, length-reverse u)

    low : k ≤ to - from
    low = omega (arith, low', wide)

    less : to - k - from ≡ length u - k
    less = omega (arith, wide, low)

pub trimmed_low : (r : List Cell) (from to b : ℕ) → from ≤ to → to ≤ length (bytes_of r) → from ≤ trimmed r from to b
unfolding trimmed
trimmed_low r from to b order within =
    let u : List ℕ = bytes_between (bytes_of r) from to in
    let m : length (take_while (λ x. x == b) (reverse u)) ≤ length (reverse u) = front_low (λ x. x == b) (reverse u) in
    omega (arith, m, length-reverse u, between_length (bytes_of r) from to order within, part_trailing r from to b, order)

pub trimmed_high : (r : List Cell) (from to b : ℕ) → trimmed r from to b ≤ to
unfolding trimmed
trimmed_high r from to b = omega arith

-- a part of columns that ends with no blank
pub record Trimmed (r : List Cell) (from to : ℕ) : Type 0 where
  pub begins : from ≤ length (bytes_of r)
  pub ends : to ≤ length (bytes_of r)
  pub idle : without_last_blanks (bytes_between (bytes_of r) from to) ≡ bytes_between (bytes_of r) from to

trimmed_is : (r : List Cell) (from to : ℕ) → IsPlain (bytes_of r) → from ≤ to → to ≤ length (bytes_of r) → Trimmed r from (trimmed r from to 32)
trimmed_is r from to h order within =
    let same : bytes_between (bytes_of r) from (trimmed r from to 32) ≡ without_last_blanks (bytes_between (bytes_of r) from to) = trimmed_text r from to h order within in
    record {
      begins = omega (arith, order, within);
      ends = omega (arith, trimmed_high r from to 32, within);
      idle = ap without_last_blanks same ∙ last_idle (bytes_between (bytes_of r) from to) ∙ sym same;
    }

heading_trimmed : (r : List Cell) (from : ℕ) → IsPlain (bytes_of r) → from ≤ length (bytes_of r) → Trimmed r from (heading_end_before r from (length (bytes_of r)))
unfolding heading_end_before
heading_trimmed r from h low = by (nat_le open_end from || (cell_byte r (open_end - 1) == 32))
  where
    limit : ℕ
    limit = length (bytes_of r)

    whole : ℕ
    whole = trimmed r from limit 32

    open_end : ℕ
    open_end = trimmed r from whole 35

    there : whole ≤ limit
    there = trimmed_high r from limit 32

    here : from ≤ whole
    here = trimmed_low r from limit 32 low (omega arith)

    by : (k : Bool) → Trimmed r from (if k then trimmed r from open_end 32 else whole)
    by true = trimmed_is r from open_end h (trimmed_low r from whole 35 here there) (omega (arith, trimmed_high r from whole 35, there))
    by false = trimmed_is r from limit h low (omega arith)

heading_some : (f : HeadingLevel → Heading) → ((l : HeadingLevel) → (f l).level ≡ l) → (k : Bool) (o : Option HeadingLevel) (h : Heading) → (if not k then None else option_map f o) ≡ Some h → h ≡ f h.level
heading_some f same true None h e = absurd cc
heading_some f same false o h e = absurd cc
heading_some f same true (Some l) h e = let q : f l ≡ h = cc in subst (λ (x : Heading). x ≡ f x.level) q (ap f (sym (same l)))

-- the text of a heading ends with no blank
pub heading_text_trimmed : (r : List Cell) (h : Heading) → IsPlain (bytes_of r) → length r ≡ length (bytes_of r) → heading_at r 0 ≡ Some h → Trimmed r h.from h.to
unfolding heading_at
heading_text_trimmed r h plain count e =
    subst (λ (x : Heading). Trimmed r x.from x.to) (sym same)
    (subst (λ n. Trimmed r from (heading_end_before r from n)) (sym count) (heading_trimmed r from plain low))
  where
    marks : ℕ
    marks = plus 0 (run_of r 0 35)

    from : ℕ
    from = ink_from r marks

    low : from ≤ length (bytes_of r)
    low =
        let one : run_of r 0 35 ≤ length r = omega (arith, run_low r 0 35 (omega arith)) in
        let two : marks ≤ length r = omega (arith, one) in
        omega (arith, ink_low r marks two, count)

    same : h ≡ heading_from r from h.level
    same = heading_some (heading_from r from) (λ l. refl) (is_behind r marks) (level_of (marks - 0)) h e

-- the columns of a line are where its bytes are

pub place_there : (start : ℕ) (xs : List ℕ) (a end : ℕ) → a ≤ length xs → end ≡ start + length xs → end + 3 < 2 ^ 64 → cell_place (cells_at start [] xs) a end ≡ start + a
place_there start xs a end low e fits = place_kept start [] xs a end (omega (arith, e, fits)) ∙ by (nat_lt a (length xs)) refl
  where
    by : (k : Bool) → nat_lt a (length xs) ≡ k → (if k then plus start a else end) ≡ start + a
    by true t = plus_low start a (omega (arith, low, e, fits))
    by false t = let k : length xs ≤ a = grind (arith, nat_tests) in omega (arith, k, low, e)

pub place_here : (xs : List ℕ) (a : ℕ) → IsPlain xs → a ≤ length xs → length xs + 3 < 2 ^ 64 → cell_place (cells xs) a (length xs) ≡ a
place_here xs a h low fits =
    ap (λ cs. cell_place cs a (length xs)) (plain_cells 0 xs (no_tab xs h)) ∙ place_there 0 xs a (length xs) low (omega arith) fits ∙ (let q : 0 + a ≡ a = omega arith in q)

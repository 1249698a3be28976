-- Columns with others in front of them, such as those of a block quote marker.
use Rattle.std.proofs.Common.{◌≡◌, ℕ, suc, ◌+◌, ◌-◌, ◌^◌, ◌<◌, ◌≤◌, Bool, true, false, ◌==◌, ◌&&◌, if◌then◌else◌, nat_lt, nat_le, List, [], ◌∷◌, ◌++◌, length, drop, reverse, refl, ap, sym, ◌∙◌, arith, length-drop, length-take, length-append}
use Rattle.std.specs.Prelude.{take_while, filter, slice_range}
use Rattle.std.specs.Char.{is_ascii_digit}
use Rattle.std.proofs.Math.Seq.{drop-append-add}
use Rattle.std.proofs.lemmas.Bool.Decides.{nat_tests}
use Rattle.std.proofs.lemmas.List.{length-map, length-reverse}
use Rattle.std.proofs.lemmas.List.Folds.{length-prefix_len}
use Rattle.std.proofs.lemmas.List.Sums.{prefix_len-le-length}
use Rattle.tocmark_read_scan.specs.Basic.{plus, byte_at, bytes_between}
use Rattle.tocmark_read_lines.specs.Cells.{bytes_of, cell_byte, run_of, count_of, ink_from, part, trailing, trimmed, moved}
use Rattle.tocmark_read_lines.specs.Marks.{digit_count, is_behind}
use Rattle.tocmark_read_lines.specs.declared.cell.Cell.{Cell}
use Rattle.tocmark_read_lines.specs.declared.cell.Cursor.{Cursor}
use Rattle.tocmark_read_lines.proofs.Columns.{byte_asked, run_asked, count_asked, digits_asked, part_trailing}

-- the same columns after others, which are so many
pub record Fronted (shift : ℕ) (w r : List Cell) : Type 0 where
  pub front : List ℕ
  pub long : length front ≡ shift
  pub bytes : bytes_of w ≡ front ++ bytes_of r
  pub fits : length r + shift + 9 < 2 ^ 64

-- a cursor so many columns further
abbrev pub cursor_on : ℕ → Cursor → Cursor
cursor_on shift c = record { column = shift + c.column; ink = shift + c.ink }

-- a column that is in a line, or after it
abbrev pub In : List Cell → ℕ → Type 0
In r c = c ≤ length r

pub length_on : (shift : ℕ) (w r : List Cell) → Fronted shift w r → length w ≡ shift + length r
length_on shift w r h =
    sym (length-map w (λ (c : Cell). c.byte)) ∙ ap length h.bytes ∙ length-append h.front (bytes_of r)
    ∙ (let z : length h.front + length (bytes_of r) ≡ shift + length r = omega (arith, h.long, length-map r (λ (c : Cell). c.byte)) in z)

pub byte_later : (pre xs : List ℕ) (k : ℕ) → byte_at (pre ++ xs) (length pre + k) ≡ byte_at xs k
byte_later [] xs k = ap (byte_at xs) (let z : 0 + k ≡ k = omega arith in z)
byte_later (p ∷ ps) xs k = ap (byte_at (p ∷ ps ++ xs)) (let z : suc (length ps) + k ≡ suc (length ps + k) = omega arith in z) ∙ byte_later ps xs k

drop_two : (shift : ℕ) (w r : List Cell) (k : ℕ) → Fronted shift w r → drop (shift + k) (bytes_of w) ≡ drop k (bytes_of r)
drop_two shift w r k h = ap (drop (shift + k)) h.bytes ∙ ap (λ m. drop (m + k) (h.front ++ bytes_of r)) (sym h.long) ∙ drop-append-add h.front (bytes_of r) k

pub byte_two : (shift : ℕ) (w r : List Cell) (k : ℕ) → Fronted shift w r → cell_byte w (shift + k) ≡ cell_byte r k
byte_two shift w r k h =
    byte_asked w (shift + k) ∙ ap (λ (bs : List ℕ). byte_at bs (shift + k)) h.bytes ∙ ap (λ m. byte_at (h.front ++ bytes_of r) (m + k)) (sym h.long)
    ∙ byte_later h.front (bytes_of r) k ∙ sym (byte_asked r k)

pub run_two : (shift : ℕ) (w r : List Cell) (k b : ℕ) → Fronted shift w r → run_of w (shift + k) b ≡ run_of r k b
run_two shift w r k b h = run_asked w (shift + k) b ∙ ap (λ (bs : List ℕ). length (take_while (λ x. x == b) bs)) (drop_two shift w r k h) ∙ sym (run_asked r k b)

pub count_two : (shift : ℕ) (w r : List Cell) (k b : ℕ) → Fronted shift w r → count_of w (shift + k) b ≡ count_of r k b
count_two shift w r k b h = count_asked w (shift + k) b ∙ ap (λ (bs : List ℕ). length (filter (λ x. x == b) bs)) (drop_two shift w r k h) ∙ sym (count_asked r k b)

pub digits_two : (shift : ℕ) (w r : List Cell) (k : ℕ) → Fronted shift w r → digit_count w (shift + k) ≡ digit_count r k
digits_two shift w r k h = digits_asked w (shift + k) ∙ ap (λ (bs : List ℕ). length (take_while is_ascii_digit bs)) (drop_two shift w r k h) ∙ sym (digits_asked r k)

front_low : {A : Type 0} (p : A → Bool) (xs : List A) → length (take_while p xs) ≤ length xs
front_low p xs = omega (arith, length-prefix_len p xs, prefix_len-le-length p xs)

pub run_low : (r : List Cell) (k b : ℕ) → In r k → k + run_of r k b ≤ length r
run_low r k b h = omega (arith, front_low (λ (c : Cell). c.byte == b) (drop k r), length-drop k r)

pub digits_low : (r : List Cell) (k : ℕ) → In r k → k + digit_count r k ≤ length r
digits_low r k h = omega (arith, front_low (λ (c : Cell). is_ascii_digit c.byte) (drop k r), length-drop k r)

pub ink_low : (r : List Cell) (k : ℕ) → In r k → ink_from r k ≤ length r
ink_low r k h = omega (arith, run_low r k 32 h)

pub ink_after : (r : List Cell) (k : ℕ) → In r k → length r + 9 < 2 ^ 64 → k ≤ ink_from r k
ink_after r k h fits = omega (arith, run_low r k 32 h)

pub plus_shift : (shift a b : ℕ) → shift + a + b + 3 < 2 ^ 64 → plus (shift + a) b ≡ shift + plus a b
plus_shift shift a b h = omega arith

pub ink_two : (shift : ℕ) (w r : List Cell) (k : ℕ) → Fronted shift w r → In r k → ink_from w (shift + k) ≡ shift + ink_from r k
ink_two shift w r k h low = ap (plus (shift + k)) (run_two shift w r k 32 h) ∙ plus_shift shift k (run_of r k 32) (omega (arith, run_low r k 32 low, h.fits))

pub le_shift : (shift a b : ℕ) → nat_le (shift + a) (shift + b) ≡ nat_le a b
le_shift shift a b = grind (arith, nat_tests)

pub lt_shift : (shift a b : ℕ) → nat_lt (shift + a) (shift + b) ≡ nat_lt a b
lt_shift shift a b = grind (arith, nat_tests)

pub less_shift : (shift a b : ℕ) → shift + a - (shift + b) ≡ a - b
less_shift shift a b = omega arith

pub lt_true : (a b : ℕ) → nat_lt a b ≡ true → a < b
lt_true a b e = grind (arith, nat_tests)

pub le_yes : (a b : ℕ) → a ≤ b → nat_le a b ≡ true
le_yes a b h = grind (arith, nat_tests)

pub le_suc : (a b : ℕ) → nat_le (suc a) (suc b) ≡ nat_le a b
le_suc a b = grind (arith, nat_tests)

pub behind_two : (shift : ℕ) (w r : List Cell) (k : ℕ) → Fronted shift w r → is_behind w (shift + k) ≡ is_behind r k
unfolding is_behind
behind_two shift w r k h = rw (length_on shift w r h, byte_two shift w r k h, le_shift shift (length r) k) refl

pub moved_two : (shift : ℕ) (w r : List Cell) (cursor : Cursor) (c : ℕ) → Fronted shift w r → In r c → moved w (cursor_on shift cursor) (shift + c) ≡ cursor_on shift (moved r cursor c)
unfolding moved
moved_two shift w r cursor c h low = rw (le_shift shift c cursor.ink, ink_two shift w r c h low) (by (nat_le c cursor.ink))
  where
    at : ℕ → Cursor
    at n = record { column = shift + c; ink = n }

    by : (k : Bool) → at (if k then shift + cursor.ink else shift + ink_from r c) ≡ cursor_on shift (record { column = c; ink = (if k then cursor.ink else ink_from r c) })
    by true = refl
    by false = refl

pub between_later : (pre xs : List ℕ) (from to : ℕ) → bytes_between (pre ++ xs) (length pre + from) (length pre + to) ≡ bytes_between xs from to
between_later pre xs from to =
    let width : length pre + to - (length pre + from) ≡ to - from = omega arith in
    rw (length-append pre xs, le_shift (length pre) from to, le_shift (length pre) to (length xs), width, drop-append-add pre xs from) refl

pub between_two : (shift : ℕ) (w r : List Cell) (from to : ℕ) → Fronted shift w r → bytes_between (bytes_of w) (shift + from) (shift + to) ≡ bytes_between (bytes_of r) from to
between_two shift w r from to h =
    ap (λ (bs : List ℕ). bytes_between bs (shift + from) (shift + to)) h.bytes ∙ ap (λ m. bytes_between (h.front ++ bytes_of r) (m + from) (m + to)) (sym h.long)
    ∙ between_later h.front (bytes_of r) from to

between_short : (xs : List ℕ) (from to : ℕ) → length (bytes_between xs from to) ≤ to
between_short xs from to = by (nat_le from to && nat_le to (length xs))
  where
    by : (k : Bool) → length (if k then slice_range xs from to else []) ≤ to
    by true = omega (arith, length-take (to - from) (drop from xs))
    by false = omega arith

trailing_short : (cs : List Cell) (from to b : ℕ) → trailing (part cs from to) b ≤ to
trailing_short cs from to b =
    let bs : List ℕ = bytes_between (bytes_of cs) from to in
    omega (arith, part_trailing cs from to b, front_low (λ x. x == b) (reverse bs), length-reverse bs, between_short (bytes_of cs) from to)

pub trimmed_two : (shift : ℕ) (w r : List Cell) (from to b : ℕ) → Fronted shift w r → trimmed w (shift + from) (shift + to) b ≡ shift + trimmed r from to b
unfolding trimmed
trimmed_two shift w r from to b h =
    let same : trailing (part w (shift + from) (shift + to)) b ≡ trailing (part r from to) b =
    part_trailing w (shift + from) (shift + to) b ∙ ap (λ (xs : List ℕ). length (take_while (λ x. x == b) (reverse xs))) (between_two shift w r from to h) ∙ sym (part_trailing r from to b) in
    ap (λ k. shift + to - k) same
    ∙ (let short : trailing (part r from to) b ≤ to = trailing_short r from to b in
    let q : shift + to - trailing (part r from to) b ≡ shift + (to - trailing (part r from to) b) = omega arith in q)

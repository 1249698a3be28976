-- Columns after others: what is read of them from there on is what is read of them alone.
use Rattle.std.proofs.Common.{◌≡◌, ℕ, suc, ◌+◌, ◌-◌, ◌^◌, ◌<◌, ◌≤◌, Bool, ◌==◌, nat_le, List, [], ◌∷◌, ◌++◌, length, drop, refl, ap, sym, ◌∙◌, arith, length-append, length-drop}
use Rattle.std.specs.Prelude.{take_while, filter}
use Rattle.std.specs.Char.{is_ascii_digit}
use Rattle.std.proofs.Math.Seq.{drop-append-add}
use Rattle.std.proofs.lemmas.Bool.Decides.{nat_tests}
use Rattle.std.proofs.lemmas.List.{length-map}
use Rattle.std.proofs.lemmas.List.Folds.{length-prefix_len}
use Rattle.std.proofs.lemmas.List.Sums.{prefix_len-le-length}
use Rattle.tocmark_read_scan.specs.Basic.{plus, byte_at, bytes_between}
use Rattle.tocmark_read_lines.specs.Cells.{bytes_of, cell_byte, run_of, count_of, ink_from}
use Rattle.tocmark_read_lines.specs.Marks.{digit_count, is_behind}
use Rattle.tocmark_read_lines.specs.declared.cell.Cell.{Cell}
use Rattle.tocmark_read_lines.proofs.Columns.{byte_asked, run_asked, count_asked, digits_asked}

-- these columns are so many ones, and then the bytes of the others
pub record Behind (n : ℕ) (whole rest : List Cell) : Type 0 where
  pub pre : List ℕ
  pub count : length pre ≡ n
  pub bytes : bytes_of whole ≡ pre ++ bytes_of rest
  pub fits : n + length rest + 3 < 2 ^ 64

pub length_on : (n : ℕ) (w r : List Cell) → Behind n w r → length w ≡ n + length r
length_on n w r h =
    sym (length-map w (λ (c : Cell). c.byte)) ∙ ap length h.bytes ∙ length-append h.pre (bytes_of r)
    ∙ ap (λ k. k + length (bytes_of r)) h.count ∙ ap (λ k. n + k) (length-map r (λ (c : Cell). c.byte))

pub drop_on : (n : ℕ) (w r : List Cell) (k : ℕ) → Behind n w r → drop (n + k) (bytes_of w) ≡ drop k (bytes_of r)
drop_on n w r k h = ap (drop (n + k)) h.bytes ∙ ap (λ m. drop (m + k) (h.pre ++ bytes_of r)) (sym h.count) ∙ drop-append-add h.pre (bytes_of r) k

byte_later : (pre xs : List ℕ) (k : ℕ) → byte_at (pre ++ xs) (length pre + k) ≡ byte_at xs k
byte_later [] xs k = ap (byte_at xs) (let q : 0 + k ≡ k = omega arith in q)
byte_later (p ∷ ps) xs k = ap (byte_at (p ∷ ps ++ xs)) (let q : suc (length ps) + k ≡ suc (length ps + k) = omega arith in q) ∙ byte_later ps xs k

pub byte_on : (n : ℕ) (w r : List Cell) (k : ℕ) → Behind n w r → cell_byte w (n + k) ≡ cell_byte r k
byte_on n w r k h =
    byte_asked w (n + k) ∙ ap (λ bs. byte_at bs (n + k)) h.bytes ∙ ap (λ m. byte_at (h.pre ++ bytes_of r) (m + k)) (sym h.count)
    ∙ byte_later h.pre (bytes_of r) k ∙ sym (byte_asked r k)

pub run_on : (n : ℕ) (w r : List Cell) (k b : ℕ) → Behind n w r → run_of w (n + k) b ≡ run_of r k b
run_on n w r k b h = run_asked w (n + k) b ∙ ap (λ (xs : List ℕ). length (take_while (λ x. x == b) xs)) (drop_on n w r k h) ∙ sym (run_asked r k b)

pub count_on : (n : ℕ) (w r : List Cell) (k b : ℕ) → Behind n w r → count_of w (n + k) b ≡ count_of r k b
count_on n w r k b h = count_asked w (n + k) b ∙ ap (λ (xs : List ℕ). length (filter (λ x. x == b) xs)) (drop_on n w r k h) ∙ sym (count_asked r k b)

pub digits_on : (n : ℕ) (w r : List Cell) (k : ℕ) → Behind n w r → digit_count w (n + k) ≡ digit_count r k
digits_on n w r k h = digits_asked w (n + k) ∙ ap (λ (xs : List ℕ). length (take_while is_ascii_digit xs)) (drop_on n w r k h) ∙ sym (digits_asked r k)

-- a front of a list is no longer than it
pub front_low : {A : Type 0} (p : A → Bool) (xs : List A) → length (take_while p xs) ≤ length xs
front_low p xs = omega (arith, length-prefix_len p xs, prefix_len-le-length p xs)

pub run_low : (r : List Cell) (k b : ℕ) → k ≤ length r → k + run_of r k b ≤ length r
run_low r k b h = omega (arith, front_low (λ (c : Cell). c.byte == b) (drop k r), length-drop k r)

pub digits_low : (r : List Cell) (k : ℕ) → k ≤ length r → k + digit_count r k ≤ length r
digits_low r k h = omega (arith, front_low (λ (c : Cell). is_ascii_digit c.byte) (drop k r), length-drop k r)

pub plus_low : (a b : ℕ) → a + b + 1 < 2 ^ 64 → plus a b ≡ a + b
plus_low a b h = omega arith

pub plus_zero : (a : ℕ) → a + 1 < 2 ^ 64 → plus 0 a ≡ a
plus_zero a h = omega arith

pub ink_low : (r : List Cell) (k : ℕ) → k ≤ length r → ink_from r k ≤ length r
ink_low r k h = omega (arith, run_low r k 32 h)

pub ink_on : (n : ℕ) (w r : List Cell) (k : ℕ) → Behind n w r → k ≤ length r → ink_from w (n + k) ≡ n + ink_from r k
ink_on n w r k h low =
    ap (plus (n + k)) (run_on n w r k 32 h)
    ∙ (let few : k + run_of r k 32 ≤ length r = run_low r k 32 low in
    let fits : n + length r + 3 < 2 ^ 64 = h.fits in
    let q : plus (n + k) (run_of r k 32) ≡ n + plus k (run_of r k 32) = omega arith in q)

pub le_on : (n a b : ℕ) → nat_le (n + a) (n + b) ≡ nat_le a b
le_on n a b = grind (arith, nat_tests)

pub behind_on : (n : ℕ) (w r : List Cell) (k : ℕ) → Behind n w r → is_behind w (n + k) ≡ is_behind r k
unfolding is_behind
behind_on n w r k h = rw (length_on n w r h, byte_on n w r k h, le_on n (length r) k) refl

pub between_later : (pre xs : List ℕ) (from to : ℕ) → bytes_between (pre ++ xs) (length pre + from) (length pre + to) ≡ bytes_between xs from to
between_later pre xs from to =
    let width : length pre + to - (length pre + from) ≡ to - from = omega arith in
    rw (length-append pre xs, le_on (length pre) from to, le_on (length pre) to (length xs), width, drop-append-add pre xs from) refl

pub between_on : (n : ℕ) (w r : List Cell) (from to : ℕ) → Behind n w r → bytes_between (bytes_of w) (n + from) (n + to) ≡ bytes_between (bytes_of r) from to
between_on n w r from to h =
    ap (λ bs. bytes_between bs (n + from) (n + to)) h.bytes ∙ ap (λ m. bytes_between (h.pre ++ bytes_of r) (m + from) (m + to)) (sym h.count)
    ∙ between_later h.pre (bytes_of r) from to

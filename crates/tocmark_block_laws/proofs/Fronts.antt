-- The front of a line without tabs, and parts of it.
use Rattle.std.proofs.Common.{◌≡◌, ℕ, zero, suc, ◌+◌, ◌-◌, ◌^◌, ◌<◌, ◌≤◌, Bool, true, false, ◌==◌, ◌&&◌, ◌||◌, cond, if◌then◌else◌, nat_le, List, [], ◌∷◌, ◌++◌, length, take, drop, refl, ap, sym, ◌∙◌, arith, length-drop, true≢false}
use Rattle.std.specs.Prelude.{take_while}
use Rattle.std.specs.List.{fold, prefix_len}
use Rattle.std.proofs.lemmas.Bool.Decides.{nat_tests}
use Rattle.std.proofs.lemmas.List.{drop-drop, drop-take, take-take, length-take-le, take-append-drop}
use Rattle.std.proofs.lemmas.List.Folds.{length-prefix_len}
use Rattle.tocmark_read_scan.specs.Basic.{plus, byte_at, bytes_between}
use Rattle.tocmark_read_lines.specs.Cells.{bytes_of, cells_at, run_of, first_cursor}
use Rattle.tocmark_read_lines.specs.declared.cell.Cursor.{Cursor}
use Rattle.tocmark_read_lines.proofs.Columns.{bytes_kept, length_kept, plain_cells, run_asked}
use Rattle.tocmark_commonmark.specs.Lines.{Part, is_blank_byte, is_blank, column_after, indent, cells}
use Rattle.tocmark_block_laws.specs.Quotes.{IsPlain}
use Rattle.tocmark_block_laws.proofs.Columns.{Behind, le_on, front_low}
use Rattle.tocmark_block_laws.proofs.Texts.{front_same, between_is, between_length}
use Rattle.tocmark_block_laws.proofs.TextLines.{Plain, plain_head, no_tab, drop_plain, front_plain}

-- the spaces in front of bytes
abbrev pub spaces_of : List ℕ → ℕ
spaces_of xs = length (take_while is_blank_byte xs)

-- what is left of a line from a column on
abbrev pub part_at : ℕ → List ℕ → Part
part_at c ys = record { column = c; spaces = 0; bytes = ys }

-- a cursor at a column, if this is left of the line
abbrev pub place_at : ℕ → List ℕ → Cursor
place_at c ys = record { column = c; ink = c + spaces_of ys }

columns_counted : (xs : List ℕ) (c : ℕ) → IsPlain xs → fold column_after c xs ≡ c + length xs
columns_counted [] c h = omega arith
columns_counted (b ∷ bs) c h =
    let p : Plain b bs = plain_head b bs h in
    rw p.tab (columns_counted bs (c + 1) p.more ∙ (let q : c + 1 + length bs ≡ c + suc (length bs) = omega arith in q))

-- the column of the ink
pub ink_at : (c : ℕ) (xs : List ℕ) → IsPlain xs → fold column_after c (take_while is_blank_byte xs) ≡ c + spaces_of xs
ink_at c xs h = columns_counted (take_while is_blank_byte xs) c (front_plain (prefix_len is_blank_byte xs) xs h)

pub indent_same : (c : ℕ) (xs : List ℕ) → IsPlain xs → indent (part_at c xs) ≡ spaces_of xs
indent_same c xs h = omega (arith, ink_at c xs h)

pub spaces_low : (xs : List ℕ) → spaces_of xs ≤ length xs
spaces_low xs = front_low is_blank_byte xs

pub blank_same : (xs : List ℕ) → nat_le (length xs) (spaces_of xs) ≡ is_blank xs
blank_same xs = let low : spaces_of xs ≤ length xs = spaces_low xs in grind (arith, nat_tests)

run_same : (start : ℕ) (xs : List ℕ) → IsPlain xs → run_of (cells_at start [] xs) 0 32 ≡ spaces_of xs
run_same start xs h =
    run_asked (cells_at start [] xs) 0 32 ∙ ap (λ (ys : List ℕ). length (take_while (λ x. x == 32) ys)) (bytes_kept start [] xs)
    ∙ length-prefix_len (λ x. x == 32) xs ∙ front_same xs h ∙ sym (length-prefix_len is_blank_byte xs)

pub cursor_same : (start : ℕ) (xs : List ℕ) → IsPlain xs → length xs + 3 < 2 ^ 64 → first_cursor (cells_at start [] xs) ≡ place_at 0 xs
unfolding first_cursor
cursor_same start xs h fits =
    let low : spaces_of xs ≤ length xs = spaces_low xs in
    let sum : plus 0 (spaces_of xs) ≡ 0 + spaces_of xs = omega (arith, low, fits) in
    ap at_ink (ap (plus 0) (run_same start xs h) ∙ sum)
  where
    at_ink : ℕ → Cursor
    at_ink n = record { column = 0; ink = n }

-- the columns of a line from one on
pub behind_at : (start : ℕ) (xs : List ℕ) (n : ℕ) → n ≤ length xs → IsPlain xs → length xs + 3 < 2 ^ 64 → Behind n (cells_at start [] xs) (cells (drop n xs))
behind_at start xs n low h fits =
    let same : cells (drop n xs) ≡ cells_at 0 [] (drop n xs) = plain_cells 0 (drop n xs) (no_tab (drop n xs) (drop_plain n xs h)) in
    let count : length (cells (drop n xs)) ≡ length xs - n = ap length same ∙ length_kept 0 [] (drop n xs) ∙ length-drop n xs in
    record {
      pre = take n xs;
      count = length-take-le n xs low;
      bytes = bytes_kept start [] xs ∙ sym (take-append-drop n xs) ∙ ap (λ (ys : List ℕ). take n xs ++ ys) (sym (ap bytes_of same ∙ bytes_kept 0 [] (drop n xs)));
      fits = omega (arith, low, count, fits);
    }

pub between_further : (text : List ℕ) (s n e : ℕ) → s + n ≤ e → e ≤ length text → bytes_between text (s + n) e ≡ drop n (bytes_between text s e)
between_further text s n e order within =
    let far : nat_le (s + n) e ≡ true = grind (arith, nat_tests) in
    let near : nat_le s e ≡ true = grind (arith, nat_tests) in
    let in_text : nat_le e (length text) ≡ true = grind (arith, nat_tests) in
    let width : e - s ≡ n + (e - (s + n)) = omega arith in
    rw (far, near, in_text)
    (ap (take (e - (s + n))) (sym (drop-drop n s text)) ∙ sym (drop-take n (e - (s + n)) (drop s text)) ∙ ap (λ w. drop n (take w (drop s text))) (sym width))

-- the first byte after the spaces is none
pub ink_first : (xs : List ℕ) → is_blank xs ≡ false → (b : ℕ) × (bs : List ℕ) × (drop (spaces_of xs) xs ≡ b ∷ bs) × (is_blank_byte b ≡ false)
ink_first [] h = absurd (true≢false h)
ink_first (x ∷ xs) h = by (is_blank_byte x) refl (λ e. ink_first xs e)
  where
    HasInk : List ℕ → Type 0
    HasInk ys = (b : ℕ) × (bs : List ℕ) × (drop (spaces_of ys) ys ≡ b ∷ bs) × (is_blank_byte b ≡ false)

    later : spaces_of (x ∷ xs) ≡ suc (spaces_of xs) → HasInk xs → HasInk (x ∷ xs)
    later count (b, bs, p, q) = (b, bs, ap (λ n. drop n (x ∷ xs)) count ∙ p, q)

    by : (k : Bool) → is_blank_byte x ≡ k → (is_blank xs ≡ false → HasInk xs) → HasInk (x ∷ xs)
    by false e again = (x, xs, ap (λ n. drop n (x ∷ xs)) (length-prefix_len is_blank_byte (x ∷ xs) ∙ ap (λ k. cond k (1 + prefix_len is_blank_byte xs) 0) e), e)
    by true e again =
        let count : spaces_of (x ∷ xs) ≡ suc (spaces_of xs) = length-prefix_len is_blank_byte (x ∷ xs) ∙ ap (λ k. cond k (1 + prefix_len is_blank_byte xs) 0) e ∙ (let q : 1 + prefix_len is_blank_byte xs ≡ suc (spaces_of xs) = omega (arith, length-prefix_len is_blank_byte xs) in q) in
        let r : (suc (spaces_of xs) == suc (length xs)) ≡ (spaces_of xs == length xs) = grind (arith, nat_tests) in
        later count (again (sym (ap (λ n. n == suc (length xs)) count ∙ r) ∙ h))

pub drop_byte : (s : ℕ) (text : List ℕ) → byte_at text s ≡ byte_at (drop s text) 0
drop_byte zero text = refl
drop_byte (suc s) [] = refl
drop_byte (suc s) (x ∷ xs) = drop_byte s xs

take_byte : (m : ℕ) (ys : List ℕ) (b : ℕ) (bs : List ℕ) → take m ys ≡ b ∷ bs → byte_at ys 0 ≡ b
take_byte zero ys b bs e = absurd cc
take_byte (suc m) [] b bs e = absurd cc
take_byte (suc m) (y ∷ ys) b bs e = let q : y ≡ b = cc in q

pub byte_first : (text : List ℕ) (s e b : ℕ) (bs : List ℕ) → bytes_between text s e ≡ b ∷ bs → byte_at text s ≡ b
byte_first text s e b bs h = drop_byte s text ∙ by (nat_le s e && nat_le e (length text)) h
  where
    by : (k : Bool) → (if k then take (e - s) (drop s text) else []) ≡ b ∷ bs → byte_at (drop s text) 0 ≡ b
    by true h = take_byte (e - s) (drop s text) b bs h
    by false h = absurd cc

-- a part of a part of bytes
pub between_in : (text : List ℕ) (s e a c : ℕ) → s ≤ e → e ≤ length text → c ≤ e - s → bytes_between text (s + a) (s + c) ≡ bytes_between (bytes_between text s e) a c
between_in text s e a c order within low =
    rw (wide, near, le_on s a c) (by (nat_le a c) refl)
    ∙ sym (ap (λ n. if nat_le a c && nat_le c n then take (c - a) (drop a (bytes_between text s e)) else []) count ∙ ap (λ k. if nat_le a c && k then take (c - a) (drop a (bytes_between text s e)) else []) low_too)
  where
    count : length (bytes_between text s e) ≡ e - s
    count = between_length text s e order within

    low_too : nat_le c (e - s) ≡ true
    low_too = grind (arith, low, nat_tests)

    near : nat_le (s + c) (length text) ≡ true
    near = let k : s + c ≤ length text = omega (arith, low, order, within) in grind (arith, k, nat_tests)

    wide : s + c - (s + a) ≡ c - a
    wide = omega arith

    taken : a ≤ c → take (c - a) (drop (s + a) text) ≡ take (c - a) (drop a (bytes_between text s e))
    taken o =
        sym (ap (λ ys. take (c - a) (drop a ys)) (between_is text s e order within)
        ∙ ap (λ w. take (c - a) (drop a (take w (drop s text)))) (let q : e - s ≡ a + (e - s - a) = omega (arith, low, o) in q)
        ∙ ap (take (c - a)) (drop-take a (e - s - a) (drop s text))
        ∙ take-take (c - a) (e - s - a) (drop a (drop s text)) (omega (arith, low))
        ∙ ap (take (c - a)) (drop-drop a s text))

    by : (k : Bool) → nat_le a c ≡ k → (if k && true then take (c - a) (drop (s + a) text) else []) ≡ (if k && true then take (c - a) (drop a (bytes_between text s e)) else [])
    by true q = taken (grind (arith, q, nat_tests))
    by false q = refl

-- the spaces in front of a byte more

pub spaces_next : (b : ℕ) (bs : List ℕ) → (b == 32) ≡ true → spaces_of (b ∷ bs) ≡ suc (spaces_of bs)
spaces_next b bs e =
    length-prefix_len is_blank_byte (b ∷ bs) ∙ ap (λ k. cond (k || (b == 9)) (1 + prefix_len is_blank_byte bs) 0) e
    ∙ (let q : 1 + prefix_len is_blank_byte bs ≡ suc (spaces_of bs) = omega (arith, length-prefix_len is_blank_byte bs) in q)

pub spaces_none : (b : ℕ) (bs : List ℕ) → (b == 32) ≡ false → (b == 9) ≡ false → spaces_of (b ∷ bs) ≡ 0
spaces_none b bs e g =
    length-prefix_len is_blank_byte (b ∷ bs) ∙ ap (λ k. cond (k || (b == 9)) (1 + prefix_len is_blank_byte bs) 0) e
    ∙ ap (λ k. cond (false || k) (1 + prefix_len is_blank_byte bs) 0) g

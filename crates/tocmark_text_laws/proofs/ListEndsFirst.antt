-- The first line of a text that is after another one: its bytes and its columns.
use Rattle.std.proofs.Common.{◌≡◌, inl, inr, ℕ, zero, suc, ◌+◌, ◌-◌, ◌^◌, ◌<◌, ◌≤◌, Bool, true, false, not, ◌==◌, ◌&&◌, ◌||◌, cond, if◌then◌else◌, nat_lt, nat_le, List, [], ◌∷◌, ◌++◌, length, map, take, drop, refl, ap, sym, subst, ◌∙◌, arith, length-drop}
use Rattle.std.specs.Prelude.{take_while, replicate, ◌%◌}
use Rattle.std.specs.List.{AllByRecursion}
use Rattle.std.proofs.lemmas.Bool.Decides.{nat_tests}
use Rattle.std.proofs.lemmas.List.Sums.{take_while-cons}
use Rattle.tocmark_read_scan.specs.Basic.{plus, bytes_between}
use Rattle.tocmark_read_lines.specs.Cells.{cell, cell_place, cells_of, filled, ink_from, first_cursor}
use Rattle.tocmark_read_lines.specs.Containers.{container_at}
use Rattle.tocmark_read_lines.specs.Lines.{ends_here, line_stop, line, lines_from}
use Rattle.tocmark_read_lines.specs.Marks.{tail_of}
use Rattle.tocmark_read_lines.specs.declared.cell.Cell.{Cell}
use Rattle.tocmark_read_lines.specs.declared.container.ContainerStart.{ContainerStart}
use Rattle.std.specs.Prelude.{Option}
use Rattle.tocmark_read_lines.specs.declared.line.Line.{Line}
use Rattle.tocmark_read_blocks.specs.Leaves.{leaf_at}
use Rattle.tocmark_read_blocks.specs.declared.leaf.LeafStart.{LeafStart}
use Rattle.tocmark_text_laws.specs.Further.{cell_on}
use Rattle.tocmark_text_laws.specs.Items.{is_end, first_line}
use Rattle.tocmark_text_laws.specs.Lines.{IsInner, IsEnded, IsLine, ending_of}
use Rattle.tocmark_text_laws.specs.ListEnds.{begins_at_margin}
use Rattle.tocmark_text_laws.specs.NearMargin.{begins_near_margin}
use Rattle.tocmark_text_laws.proofs.Cells.{cells_on, same_first}
use Rattle.tocmark_text_laws.proofs.Marks.{same_tail}
use Rattle.tocmark_text_laws.proofs.Containers.{same_container}
use Rattle.tocmark_text_laws.proofs.Leaves.{same_leaf_at}
use Rattle.tocmark_text_laws.proofs.Ranged.{Ascend}
use Rattle.tocmark_text_laws.proofs.ListEndsLine.{Margin}

-- a line begins where the text does

pub record First (start : ℕ) (ls : List Line) : Type 0 where
  pub first : Line
  pub others : List Line
  pub split : ls ≡ first ∷ others
  pub begins : first.start ≡ start

pub first_from : (q : List ℕ) (before start at : ℕ) (rest : List ℕ) → start < at + length rest → First start (lines_from q before start at rest)
first_from q before start at [] h = record {
  first = line before start at at;
  others = [];
  split = ap (λ k. if k then line before start at at ∷ [] else []) (let z : start < at = omega (arith, h) in let e : nat_lt start at ≡ true = grind (arith, z, nat_tests) in e);
  begins = refl;
}
first_from q before start at (b ∷ bs) h = by (ends_here q b at) (first_from q before start (at + 1) bs (omega (arith, h)))
  where
    by : (k : Bool) → First start (lines_from q before start (at + 1) bs) → First start (if k then line before start (line_stop q start b at) (at + 1) ∷ lines_from q (before + 1) (at + 1) (at + 1) bs else lines_from q before start (at + 1) bs)
    by true g = record { first = line before start (line_stop q start b at) (at + 1); others = lines_from q (before + 1) (at + 1) (at + 1) bs; split = refl; begins = refl }
    by false g = g

pub ascend_back : (P : ℕ → Type 0) (t : List ℕ) (n : ℕ) (xs ys : List Line) → Ascend P t n (xs ++ ys) → (m : ℕ) × Ascend P t m ys
ascend_back P t n [] ys h = (n, h)
ascend_back P t n (x ∷ xs) ys h = ascend_back P t x.end xs ys (h.1)

-- bytes that are none, or begin with a line ending
abbrev Stops : List ℕ → Type 0
Stops [] = Unit
Stops (b ∷ bs) = is_end b ≡ true

take_stops : (k : ℕ) (ys : List ℕ) (c : ℕ) (cs : List ℕ) → take k ys ≡ c ∷ cs → is_end c ≡ true → Stops ys
take_stops zero ys c cs e h = absurd cc
take_stops (suc k) [] c cs e h = absurd cc
take_stops (suc k) (y ∷ ys) c cs e h = let z : y ≡ c = cc in ap is_end z ∙ h

between_stops : (xs : List ℕ) (from to c : ℕ) (cs : List ℕ) → bytes_between xs from to ≡ c ∷ cs → is_end c ≡ true → Stops (drop from xs)
between_stops xs from to c cs e h = by (nat_le from to && nat_le to (length xs)) e
  where
    by : (k : Bool) → (if k then take (to - from) (drop from xs) else []) ≡ c ∷ cs → Stops (drop from xs)
    by true g = take_stops (to - from) (drop from xs) c cs g h
    by false g = absurd cc

all_taken : (ys : List ℕ) (n : ℕ) → n ≡ length ys → take n ys ≡ [] → Stops ys
all_taken [] n l e = tt
all_taken (y ∷ ys) zero l e = absurd (omega (arith, l))
all_taken (y ∷ ys) (suc n) l e = absurd cc

line_stops : (t : List ℕ) (l : Line) → l.end ≤ length t → IsLine t l → Stops (drop l.end t)
line_stops t l fits one = by one.ending
  where
    last : ending_of t l ≡ [] → l.next ≡ length t → Stops (drop l.end t)
    last e f = all_taken (drop l.end t) (l.next - l.end) (omega (arith, f, length-drop l.end t)) (sym whole ∙ e)
      where
        order : nat_le l.end l.next ≡ true
        order = let z : l.end ≤ l.next = omega (arith, fits, f) in grind (arith, z, nat_tests)

        inside : nat_le l.next (length t) ≡ true
        inside = let z : l.next ≤ length t = omega (arith, f) in grind (arith, z, nat_tests)

        whole : ending_of t l ≡ take (l.next - l.end) (drop l.end t)
        whole = rw (order, inside) refl

    by : IsEnded t l → Stops (drop l.end t)
    by (inl e) = between_stops t l.end l.next 10 [] e refl
    by (inr (inl e)) = between_stops t l.end l.next 13 (10 ∷ []) e refl
    by (inr (inr (inl (e, f)))) = between_stops t l.end l.next 13 [] e refl
    by (inr (inr (inr (e, f)))) = last e f

words_first : (n : ℕ) (t : List ℕ) → AllByRecursion IsInner (take n t) → Stops (drop n t) → take n t ≡ first_line t
words_first zero [] a s = refl
words_first zero (b ∷ bs) a s = sym (take_while-cons (λ b. not (is_end b)) b bs ∙ ap (λ k. cond (not k) (b ∷ take_while (λ b. not (is_end b)) bs) []) s)
words_first (suc n) [] a s = refl
words_first (suc n) (b ∷ bs) a s =
    ap (λ xs. b ∷ xs) (words_first n bs (a.1) s)
    ∙ sym (take_while-cons (λ b. not (is_end b)) b bs ∙ ap (λ k. cond (not k) (b ∷ take_while (λ b. not (is_end b)) bs) []) inner)
  where
    inner : is_end b ≡ false
    inner = rw (a.0.0, a.0.1) refl

while_short : (p : ℕ → Bool) (xs : List ℕ) → length (take_while p xs) ≤ length xs
while_short p [] = omega arith
while_short p (x ∷ xs) = subst (λ ws. length ws ≤ suc (length xs)) (sym (take_while-cons p x xs)) (by (p x) (while_short p xs))
  where
    by : (k : Bool) → length (take_while p xs) ≤ length xs → length (cond k (x ∷ take_while p xs) []) ≤ suc (length xs)
    by true h = omega (arith, h)
    by false h = omega arith

pub first_short : (u : List ℕ) → length (first_line u) ≤ length u
first_short u = while_short (λ b. not (is_end b)) u

drop_past : (t u : List ℕ) (n : ℕ) → drop (length t + n) (t ++ u) ≡ drop n u
drop_past [] u n = ap (λ m. drop m u) (let z : 0 + n ≡ n = omega arith in z)
drop_past (x ∷ xs) u n = ap (λ m. drop m (x ∷ (xs ++ u))) (let z : suc (length xs) + n ≡ suc (length xs + n) = omega arith in z) ∙ drop_past xs u n

-- the bytes of the line that begins after the first text
pub first_bytes : (t u : List ℕ) (l : Line) → l.start ≡ length t → l.start ≤ l.end → l.end ≤ length (t ++ u) → IsLine (t ++ u) l → bytes_between (t ++ u) l.start l.end ≡ first_line u
first_bytes t u l start order fits one =
    whole ∙ words_first n u (subst (AllByRecursion IsInner) whole one.content)
    (subst Stops (ap (λ m. drop m (t ++ u)) (let z : l.end ≡ length t + n = omega (arith, start, order) in z) ∙ drop_past t u n) (line_stops (t ++ u) l fits one))
  where
    n : ℕ
    n = l.end - length t

    low : nat_le l.start l.end ≡ true
    low = grind (arith, order, nat_tests)

    high : nat_le l.end (length (t ++ u)) ≡ true
    high = grind (arith, fits, nat_tests)

    whole : bytes_between (t ++ u) l.start l.end ≡ take n u
    whole =
        ap (λ k. if k && nat_le l.end (length (t ++ u)) then take (l.end - l.start) (drop l.start (t ++ u)) else []) low
        ∙ ap (λ k. if k then take (l.end - l.start) (drop l.start (t ++ u)) else []) high
        ∙ ap (λ m. take (l.end - m) (drop m (t ++ u))) start
        ∙ ap (take n) (ap (λ m. drop m (t ++ u)) (let z : length t ≡ length t + 0 = omega arith in z) ∙ drop_past t u 0)

-- columns

cells_more : (c : Cell) (cs : List Cell) (at : ℕ) (bs : List ℕ) → (xs : List Cell) × (cells_of (c ∷ cs) at bs ≡ c ∷ xs)
unfolding filled
cells_more c cs at [] = (cs, refl)
cells_more c cs at (b ∷ bs) = by (b == 9) (λ ys. cells_more c ys (plus at 1) bs)
  where
    by : (k : Bool) → ((ys : List Cell) → (xs : List Cell) × (cells_of (c ∷ ys) (plus at 1) bs ≡ c ∷ xs))
        → (xs : List Cell) × (cells_of (if k then (c ∷ cs) ++ replicate (4 - length (c ∷ cs) % 4) (cell 32 at) else (c ∷ cs) ++ cell b at ∷ []) (plus at 1) bs ≡ c ∷ xs)
    by true again = again (cs ++ replicate (4 - length (c ∷ cs) % 4) (cell 32 at))
    by false again = again (cs ++ cell b at ∷ [])

zero_ink : (c : Cell) (xs : List Cell) → (c.byte == 32) ≡ false → ink_from (c ∷ xs) 0 ≡ 0
zero_ink c xs e =
    ap (λ (ys : List Cell). plus 0 (length ys)) (take_while-cons (λ (x : Cell). x.byte == 32) c xs ∙ ap (λ k. cond k (c ∷ take_while (λ (x : Cell). x.byte == 32) xs) []) e)
    ∙ (let z : plus 0 0 ≡ 0 = omega arith in z)

ink_margin : (c : Cell) (xs : List Cell) → (c.byte == 32) ≡ false → Margin (c ∷ xs)
unfolding first_cursor
ink_margin c xs e = record {
  count = length xs;
  long = refl;
  some = grind (arith, nat_tests);
  ink = ap (nat_le (length (c ∷ xs))) (zero_ink c xs e) ∙ (let z : nat_le (length (c ∷ xs)) 0 ≡ false = grind (arith, nat_tests) in z);
  edge = omega (arith, zero_ink c xs e);
}

ink_place : (c : Cell) (xs : List Cell) (end : ℕ) → (c.byte == 32) ≡ false → cell_place (c ∷ xs) (first_cursor (c ∷ xs)).ink end ≡ c.at
unfolding first_cursor
ink_place c xs end e = ap (λ n. cell_place (c ∷ xs) n end) (zero_ink c xs e)

-- columns of which the first one is at a place, and no space
record Columns (at : ℕ) (cs : List Cell) : Type 0 where
  byte : ℕ
  others : List Cell
  split : cs ≡ cell byte at ∷ others
  ink : (byte == 32) ≡ false

first_columns : (u : List ℕ) (at : ℕ) → begins_at_margin u ≡ true → Columns at (cells_of [] at (first_line u))
unfolding filled
first_columns [] at h = absurd cc
first_columns (b ∷ bs) at h = by (b == 9) refl (b == 32) refl (is_end b) refl h
  where
    one : Cell
    one = cell b at

    made : (k : Bool) → k ≡ false → (b == 32) ≡ false → Columns at (cells_of (if k then [] ++ replicate (4 - length {A = Cell} [] % 4) (cell 32 at) else [] ++ one ∷ []) (plus at 1) (first_line bs))
    made true e f = absurd cc
    made false e f = record { byte = b; others = (cells_more one [] (plus at 1) (first_line bs)).0; split = (cells_more one [] (plus at 1) (first_line bs)).1; ink = f }

    by : (x : Bool) → (b == 9) ≡ x → (y : Bool) → (b == 32) ≡ y → (z : Bool) → is_end b ≡ z → not (x || y || z) ≡ true → Columns at (cells_of [] at (first_line (b ∷ bs)))
    by true e y f z g k = absurd cc
    by false e true f z g k = absurd cc
    by false e false f true g k = absurd cc
    by false e false f false g k =
        subst (λ ws. Columns at (cells_of [] at ws)) (sym (take_while-cons (λ b. not (is_end b)) b bs ∙ ap (λ k. cond (not k) (b ∷ first_line bs) []) g))
        (made (b == 9) e f)

margin_at : (u : List ℕ) (at : ℕ) → begins_at_margin u ≡ true → Margin (cells_of [] at (first_line u))
margin_at u at h = by (first_columns u at h)
  where
    by : Columns at (cells_of [] at (first_line u)) → Margin (cells_of [] at (first_line u))
    by c = subst Margin (sym c.split) (ink_margin (cell c.byte at) c.others c.ink)

pub place_first : (u : List ℕ) (at end : ℕ) → begins_at_margin u ≡ true → cell_place (cells_of [] at (first_line u)) (first_cursor (cells_of [] at (first_line u))).ink end ≡ at
place_first u at end h = by (first_columns u at h)
  where
    by : Columns at (cells_of [] at (first_line u)) → cell_place (cells_of [] at (first_line u)) (first_cursor (cells_of [] at (first_line u))).ink end ≡ at
    by c = ap (λ (xs : List Cell). cell_place xs (first_cursor xs).ink end) c.split ∙ ink_place (cell c.byte at) c.others end c.ink

-- after one space

cells_two : (c d : Cell) (cs : List Cell) (at : ℕ) (bs : List ℕ) → (xs : List Cell) × (cells_of (c ∷ d ∷ cs) at bs ≡ c ∷ d ∷ xs)
unfolding filled
cells_two c d cs at [] = (cs, refl)
cells_two c d cs at (b ∷ bs) = by (b == 9) (λ ys. cells_two c d ys (plus at 1) bs)
  where
    by : (k : Bool) → ((ys : List Cell) → (xs : List Cell) × (cells_of (c ∷ d ∷ ys) (plus at 1) bs ≡ c ∷ d ∷ xs))
        → (xs : List Cell) × (cells_of (if k then (c ∷ d ∷ cs) ++ replicate (4 - length (c ∷ d ∷ cs) % 4) (cell 32 at) else (c ∷ d ∷ cs) ++ cell b at ∷ []) (plus at 1) bs ≡ c ∷ d ∷ xs)
    by true again = again (cs ++ replicate (4 - length (c ∷ d ∷ cs) % 4) (cell 32 at))
    by false again = again (cs ++ cell b at ∷ [])

one_ink : (c x : Cell) (xs : List Cell) → (c.byte == 32) ≡ true → (x.byte == 32) ≡ false → ink_from (c ∷ x ∷ xs) 0 ≡ 1
one_ink c x xs e f =
    ap (λ (ys : List Cell). plus 0 (length ys))
    (take_while-cons (λ (y : Cell). y.byte == 32) c (x ∷ xs) ∙ ap (λ k. cond k (c ∷ take_while (λ (y : Cell). y.byte == 32) (x ∷ xs)) []) e
    ∙ ap (λ (ys : List Cell). c ∷ ys) (take_while-cons (λ (y : Cell). y.byte == 32) x xs ∙ ap (λ k. cond k (x ∷ take_while (λ (y : Cell). y.byte == 32) xs) []) f))
    ∙ (let z : plus 0 1 ≡ 1 = omega arith in z)

space_margin : (c x : Cell) (xs : List Cell) → (c.byte == 32) ≡ true → (x.byte == 32) ≡ false → Margin (c ∷ x ∷ xs)
unfolding first_cursor
space_margin c x xs e f = record {
  count = length (x ∷ xs);
  long = refl;
  some = grind (arith, nat_tests);
  ink = ap (nat_le (length (c ∷ x ∷ xs))) (one_ink c x xs e f) ∙ (let z : nat_le (length (c ∷ x ∷ xs)) 1 ≡ false = grind (arith, nat_tests) in z);
  edge = omega (arith, one_ink c x xs e f);
}

space_columns : (u : List ℕ) (c : Cell) (at : ℕ) → (c.byte == 32) ≡ true → begins_at_margin u ≡ true → Margin (cells_of (c ∷ []) at (first_line u))
unfolding filled
space_columns [] c at s h = absurd cc
space_columns (b ∷ bs) c at s h = by (b == 9) refl (b == 32) refl (is_end b) refl h
  where
    one : Cell
    one = cell b at

    made : (k : Bool) → k ≡ false → (b == 32) ≡ false → Margin (cells_of (if k then (c ∷ []) ++ replicate (4 - length (c ∷ []) % 4) (cell 32 at) else (c ∷ []) ++ one ∷ []) (plus at 1) (first_line bs))
    made true e f = absurd cc
    made false e f = subst Margin (sym ((cells_two c one [] (plus at 1) (first_line bs)).1)) (space_margin c one ((cells_two c one [] (plus at 1) (first_line bs)).0) s f)

    by : (x : Bool) → (b == 9) ≡ x → (y : Bool) → (b == 32) ≡ y → (z : Bool) → is_end b ≡ z → not (x || y || z) ≡ true → Margin (cells_of (c ∷ []) at (first_line (b ∷ bs)))
    by true e y f z g k = absurd cc
    by false e true f z g k = absurd cc
    by false e false f true g k = absurd cc
    by false e false f false g k =
        subst (λ ws. Margin (cells_of (c ∷ []) at ws)) (sym (take_while-cons (λ b. not (is_end b)) b bs ∙ ap (λ k. cond (not k) (b ∷ first_line bs) []) g))
        (made (b == 9) e f)

pub margin_first : (u : List ℕ) (at : ℕ) → begins_near_margin u ≡ true → Margin (cells_of [] at (first_line u))
unfolding filled
margin_first [] at h = absurd cc
margin_first (b ∷ bs) at h = by (b == 32) refl h
  where
    spaced : b ≡ 32 → begins_at_margin bs ≡ true → Margin (cells_of [] at (first_line (b ∷ bs)))
    spaced e k =
        subst (λ x. Margin (cells_of [] at (first_line (x ∷ bs)))) (sym e)
        (subst (λ ws. Margin (cells_of [] at ws)) (sym (take_while-cons (λ b. not (is_end b)) 32 bs)) (space_columns bs (cell 32 at) (plus at 1) refl k))

    by : (x : Bool) → (b == 32) ≡ x → (if x then begins_at_margin bs else begins_at_margin (b ∷ bs)) ≡ true → Margin (cells_of [] at (first_line (b ∷ bs)))
    by true e k = spaced (grind (arith, e, nat_tests)) k
    by false e k = margin_at (b ∷ bs) at k

-- a text at the margin is near it
pub margin_near : (u : List ℕ) → begins_at_margin u ≡ true → begins_near_margin u ≡ true
margin_near [] h = h
margin_near (b ∷ bs) h = by (b == 9) (b == 32) refl (is_end b) h
  where
    by : (x y : Bool) → (b == 32) ≡ y → (z : Bool) → not (x || y || z) ≡ true → (if y then begins_at_margin bs else begins_at_margin (b ∷ bs)) ≡ true
    by true y e z k = absurd cc
    by false true e z k = absurd cc
    by false false e z k = h

-- where a line is makes no difference to what it begins

abbrev pub begun_in : List Cell → Option ContainerStart
begun_in cs = container_at cs (tail_of cs) (first_cursor cs) false

begun_moved : (cs : List Cell) → begun_in (map cell_on cs) ≡ begun_in cs
begun_moved cs =
    ap (λ x. container_at (map cell_on cs) x (first_cursor (map cell_on cs)) false) (same_tail cs)
    ∙ ap (λ c. container_at (map cell_on cs) (tail_of cs) c false) (same_first cs)
    ∙ same_container cs (tail_of cs) (first_cursor cs) false

pub begun_anywhere : (at : ℕ) (bs : List ℕ) → at + length bs + 1 < 2 ^ 64 - 1 → begun_in (cells_of [] at bs) ≡ begun_in (cells_of [] 0 bs)
begun_anywhere zero bs small = refl
begun_anywhere (suc n) bs small = ap begun_in (cells_on [] n bs (omega (arith, small))) ∙ begun_moved (cells_of [] n bs) ∙ begun_anywhere n bs (omega (arith, small))

abbrev pub started_in_line : List ℕ → List Cell → LeafStart
started_in_line rest cs = leaf_at cs rest (tail_of cs) (first_cursor cs) false false

started_moved : (rest : List ℕ) (cs : List Cell) → started_in_line rest (map cell_on cs) ≡ started_in_line rest cs
started_moved rest cs =
    ap (λ x. leaf_at (map cell_on cs) rest x (first_cursor (map cell_on cs)) false false) (same_tail cs)
    ∙ ap (λ c. leaf_at (map cell_on cs) rest (tail_of cs) c false false) (same_first cs)
    ∙ same_leaf_at cs rest (tail_of cs) (first_cursor cs) false false

pub started_anywhere : (rest : List ℕ) (at : ℕ) (bs : List ℕ) → at + length bs + 1 < 2 ^ 64 - 1 → started_in_line rest (cells_of [] at bs) ≡ started_in_line rest (cells_of [] 0 bs)
started_anywhere rest zero bs small = refl
started_anywhere rest (suc n) bs small = ap (started_in_line rest) (cells_on [] n bs (omega (arith, small))) ∙ started_moved rest (cells_of [] n bs) ∙ started_anywhere rest n bs (omega (arith, small))

-- What begins at a column is what begins with the columns from there on.
use Rattle.std.proofs.Common.{◌≡◌, ℕ, zero, suc, ◌+◌, ◌-◌, ◌^◌, ◌<◌, ◌≤◌, Bool, true, false, not, ◌==◌, ◌&&◌, ◌||◌, cond, if◌then◌else◌, nat_lt, nat_le, List, [], ◌∷◌, ◌++◌, length, drop, reverse, refl, ap, sym, ◌∙◌, arith, length-take}
use Rattle.std.specs.Prelude.{take_while, slice_range, Option, Some, None}
use Rattle.std.specs.List.{prefix_len}
use Rattle.std.specs.Option.{option_map}
use Rattle.std.proofs.Math.Dec.{eqb}
use Rattle.std.proofs.lemmas.Bool.Decides.{nat_tests}
use Rattle.std.proofs.lemmas.List.{length-map, length-reverse, reverse-append}
use Rattle.std.proofs.lemmas.List.Folds.{length-prefix_len, prefix_len-append}
use Rattle.std.proofs.lemmas.List.Sums.{prefix_len-le-length}
use Rattle.tocmark_event.specs.declared.event.HeadingLevel.{HeadingLevel}
use Rattle.tocmark_read_scan.specs.Basic.{plus, bytes_between}
use Rattle.tocmark_read_lines.specs.Cells.{bytes_of, cell_byte, run_of, count_of, ink_from, part, trailing, trimmed, indent_of}
use Rattle.tocmark_read_lines.specs.Marks.{level_of, is_behind, heading_end_before, heading_from, heading_at, is_fence_byte, fence_at, closes_fence, tail_length, tail_of, is_rule_byte, is_rule, underline_at, digit_count, bullet_at, ordered_at, marker_at}
use Rattle.tocmark_read_lines.specs.declared.beginnings.Heading.{Heading}
use Rattle.tocmark_read_lines.specs.declared.beginnings.Fence.{Fence}
use Rattle.tocmark_read_lines.specs.declared.cell.Cell.{Cell}
use Rattle.tocmark_read_lines.specs.declared.cell.Cursor.{Cursor}
use Rattle.tocmark_read_lines.proofs.Columns.{trailing_asked, tail_asked, part_trailing}
use Rattle.tocmark_block_laws.proofs.Columns.{Behind, length_on, byte_on, run_on, count_on, digits_on, front_low, run_low, digits_low, plus_low, plus_zero, ink_on, le_on, behind_on, between_on}

-- columns at the end of a range

between_short : (xs : List ℕ) (from to : ℕ) → length (bytes_between xs from to) ≤ to
between_short xs from to = by (nat_le from to && nat_le to (length xs))
  where
    by : (k : Bool) → length (if k then slice_range xs from to else []) ≤ to
    by true = omega (arith, length-take (to - from) (drop from xs))
    by false = omega arith

trailing_short : (cs : List Cell) (from to b : ℕ) → trailing (part cs from to) b ≤ to
trailing_short cs from to b =
    let bs : List ℕ = bytes_between (bytes_of cs) from to in
    omega (arith, part_trailing cs from to b, front_low (λ x. x == b) (reverse bs), length-reverse bs, between_short (bytes_of cs) from to)

pub trimmed_on : (n : ℕ) (w r : List Cell) (from to b : ℕ) → Behind n w r → trimmed w (n + from) (n + to) b ≡ n + trimmed r from to b
unfolding trimmed
trimmed_on n w r from to b h =
    let same : trailing (part w (n + from) (n + to)) b ≡ trailing (part r from to) b =
    part_trailing w (n + from) (n + to) b ∙ ap (λ (xs : List ℕ). length (take_while (λ x. x == b) (reverse xs))) (between_on n w r from to h) ∙ sym (part_trailing r from to b) in
    ap (λ k. n + to - k) same
    ∙ (let short : trailing (part r from to) b ≤ to = trailing_short r from to b in
    let q : n + to - trailing (part r from to) b ≡ n + (to - trailing (part r from to) b) = omega arith in q)

-- headings

end_as : (n : ℕ) (w r : List Cell) (from whole open_end : ℕ) → Behind n w r
    → (if nat_le (n + open_end) (n + from) || (cell_byte w (n + open_end - 1) == 32) then trimmed w (n + from) (n + open_end) 32 else n + whole)
    ≡ n + (if nat_le open_end from || (cell_byte r (open_end - 1) == 32) then trimmed r from open_end 32 else whole)
end_as n w r from whole zero h = rw (le_on n 0 from, none) (trimmed_on n w r from 0 32 h)
  where
    none : nat_le 0 from ≡ true
    none = grind (arith, nat_tests)
end_as n w r from whole (suc k) h =
    rw (le_on n (suc k) from, before, byte_on n w r k h, trimmed_on n w r from (suc k) 32 h, less) (by (nat_le (suc k) from || (cell_byte r k == 32)))
  where
    before : n + suc k - 1 ≡ n + k
    before = omega arith

    less : suc k - 1 ≡ k
    less = omega arith

    by : (b : Bool) → (if b then n + trimmed r from (suc k) 32 else n + whole) ≡ n + (if b then trimmed r from (suc k) 32 else whole)
    by true = refl
    by false = refl

pub heading_end_on : (n : ℕ) (w r : List Cell) (from limit : ℕ) → Behind n w r → heading_end_before w (n + from) (n + limit) ≡ n + heading_end_before r from limit
unfolding heading_end_before
heading_end_on n w r from limit h =
    rw (trimmed_on n w r from limit 32 h, trimmed_on n w r from (trimmed r from limit 32) 35 h)
    (end_as n w r from (trimmed r from limit 32) (trimmed r from (trimmed r from limit 32) 35) h)

-- a heading so many columns further
abbrev pub heading_later : ℕ → Heading → Heading
heading_later n x = record { level = x.level; from = n + x.from; to = n + x.to }

pub heading_on : (n : ℕ) (w r : List Cell) → Behind n w r → heading_at w n ≡ option_map (heading_later n) (heading_at r 0)
unfolding heading_at
heading_on n w r h =
    rw (run, here, first, behind_on n w r marks h, ink_on n w r marks h low, wide, thin) (by (is_behind r marks) (level_of marks))
  where
    marks : ℕ
    marks = run_of r 0 35

    low : marks ≤ length r
    low = omega (arith, run_low r 0 35 (omega arith))

    fits : n + length r + 3 < 2 ^ 64
    fits = h.fits

    run : run_of w n 35 ≡ marks
    run = ap (λ k. run_of w k 35) (let q : n ≡ n + 0 = omega arith in q) ∙ run_on n w r 0 35 h

    here : plus n marks ≡ n + marks
    here = plus_low n marks (omega (arith, low, fits))

    first : plus 0 marks ≡ marks
    first = plus_zero marks (omega (arith, low, fits))

    wide : n + marks - n ≡ marks
    wide = omega arith

    thin : marks - 0 ≡ marks
    thin = omega arith

    from : ℕ
    from = ink_from r marks

    each : (o : Option HeadingLevel) → option_map (heading_from w (n + from)) o ≡ option_map (heading_later n) (option_map (heading_from r from) o)
    each None = refl
    each (Some l) = ap (λ to. Some (record { level = l; from = n + from; to = to })) (ap (heading_end_before w (n + from)) (length_on n w r h) ∙ heading_end_on n w r from (length r) h)

    by : (k : Bool) (o : Option HeadingLevel) → (if not k then None else option_map (heading_from w (n + from)) o) ≡ option_map (heading_later n) (if not k then None else option_map (heading_from r from) o)
    by true o = each o
    by false o = refl

-- fences

-- a fence indented so far
abbrev pub fence_indented : ℕ → Fence → Fence
fence_indented k f = record { byte = f.byte; count = f.count; indent = k }

pub fence_on : (n : ℕ) (w r : List Cell) (there here : Cursor) → Behind n w r → there.ink ≡ n → here.ink ≡ 0 → fence_at w there ≡ option_map (fence_indented (indent_of there)) (fence_at r here)
unfolding fence_at
fence_on n w r there here h t e =
    rw (t, e, byte, run, far, near, count_on n w r marks 96 h) (by (is_fence_byte b && nat_le 3 marks && not ((b == 96) && nat_lt 0 (count_of r marks 96))))
  where
    none : n ≡ n + 0
    none = omega arith

    b : ℕ
    b = cell_byte r 0

    marks : ℕ
    marks = run_of r 0 b

    low : marks ≤ length r
    low = omega (arith, run_low r 0 b (omega arith))

    fits : n + length r + 3 < 2 ^ 64
    fits = h.fits

    byte : cell_byte w n ≡ b
    byte = ap (cell_byte w) none ∙ byte_on n w r 0 h

    run : run_of w n b ≡ marks
    run = ap (λ k. run_of w k b) none ∙ run_on n w r 0 b h

    far : plus n marks ≡ n + marks
    far = plus_low n marks (omega (arith, low, fits))

    near : plus 0 marks ≡ marks
    near = plus_zero marks (omega (arith, low, fits))

    by : (k : Bool) → (if k then Some (record { byte = b; count = marks; indent = n - there.column }) else None) ≡ option_map (fence_indented (n - there.column)) (if k then Some (record { byte = b; count = marks; indent = 0 - here.column }) else None)
    by true = refl
    by false = refl

pub closes_on : (n : ℕ) (w r : List Cell) (there here : Cursor) (f : Fence) → Behind n w r → there.ink ≡ n → here.ink ≡ 0 → closes_fence w there f ≡ nat_le (indent_of there) 3 && closes_fence r here f
unfolding closes_fence
closes_on n w r there here f h t e =
    rw (t, e, run, far, near, ink_on n w r marks h low, length_on n w r h, le_on n (length r) (ink_from r marks), none) (by (nat_le (n - there.column) 3) (nat_le f.count marks) (nat_le (length r) (ink_from r marks)))
  where
    marks : ℕ
    marks = run_of r 0 f.byte

    low : marks ≤ length r
    low = omega (arith, run_low r 0 f.byte (omega arith))

    fits : n + length r + 3 < 2 ^ 64
    fits = h.fits

    none : nat_le (0 - here.column) 3 ≡ true
    none = let q : 0 - here.column ≤ 3 = omega arith in grind (arith, q, nat_tests)

    run : run_of w n f.byte ≡ marks
    run = ap (λ k. run_of w k f.byte) (let q : n ≡ n + 0 = omega arith in q) ∙ run_on n w r 0 f.byte h

    far : plus n marks ≡ n + marks
    far = plus_low n marks (omega (arith, low, fits))

    near : plus 0 marks ≡ marks
    near = plus_zero marks (omega (arith, low, fits))

    by : (x y z : Bool) → (x && y && z) ≡ (x && (true && y && z))
    by true true true = refl
    by true true false = refl
    by true false z = refl
    by false y z = refl

-- underlines

pub underline_on : (n : ℕ) (w r : List Cell) → Behind n w r → underline_at w n ≡ underline_at r 0
unfolding underline_at
underline_on n w r h =
    rw (byte, run, far, near, ink_on n w r marks h low, length_on n w r h, le_on n (length r) (ink_from r marks)) refl
  where
    none : n ≡ n + 0
    none = omega arith

    b : ℕ
    b = cell_byte r 0

    marks : ℕ
    marks = run_of r 0 b

    low : marks ≤ length r
    low = omega (arith, run_low r 0 b (omega arith))

    fits : n + length r + 3 < 2 ^ 64
    fits = h.fits

    byte : cell_byte w n ≡ b
    byte = ap (cell_byte w) none ∙ byte_on n w r 0 h

    run : run_of w n b ≡ marks
    run = ap (λ k. run_of w k b) none ∙ run_on n w r 0 b h

    far : plus n marks ≡ n + marks
    far = plus_low n marks (omega (arith, low, fits))

    near : plus 0 marks ≡ marks
    near = plus_zero marks (omega (arith, low, fits))

-- markers of items, where a byte is

bullet_on : (n : ℕ) (w r : List Cell) → Behind n w r → bullet_at w n ≡ bullet_at r 0
unfolding bullet_at
bullet_on n w r h = rw (byte, far, near, behind_on n w r 1 h) refl
  where
    fits : n + length r + 3 < 2 ^ 64
    fits = h.fits

    byte : cell_byte w n ≡ cell_byte r 0
    byte = ap (cell_byte w) (let q : n ≡ n + 0 = omega arith in q) ∙ byte_on n w r 0 h

    far : plus n 1 ≡ n + 1
    far = plus_low n 1 (omega (arith, fits))

    near : plus 0 1 ≡ 1
    near = plus_low 0 1 (omega arith)

ordered_on : (n : ℕ) (w r : List Cell) → Behind n w r → ordered_at w n ≡ ordered_at r 0
unfolding ordered_at
ordered_on n w r h = rw (digits, far, near, byte_on n w r count h, next, after, behind_on n w r (count + 1) h, number) refl
  where
    none : n ≡ n + 0
    none = omega arith

    count : ℕ
    count = digit_count r 0

    low : count ≤ length r
    low = omega (arith, digits_low r 0 (omega arith))

    fits : n + length r + 3 < 2 ^ 64
    fits = h.fits

    digits : digit_count w n ≡ count
    digits = ap (digit_count w) none ∙ digits_on n w r 0 h

    far : plus n count ≡ n + count
    far = plus_low n count (omega (arith, low, fits))

    near : plus 0 count ≡ count
    near = plus_zero count (omega (arith, low, fits))

    next : plus (n + count) 1 ≡ n + (count + 1)
    next = omega (arith, low, fits)

    after : plus count 1 ≡ count + 1
    after = plus_low count 1 (omega (arith, low, fits))

    number : bytes_between (bytes_of w) n (n + count) ≡ bytes_between (bytes_of r) 0 count
    number = ap (λ k. bytes_between (bytes_of w) k (n + count)) none ∙ between_on n w r 0 count h

pub marker_on : (n : ℕ) (w r : List Cell) → Behind n w r → marker_at w n ≡ marker_at r 0
unfolding marker_at
marker_on n w r h = rw (bullet_on n w r h, ordered_on n w r h) refl

-- thematic breaks

-- the columns at the end that pass a test, if one of the later columns doesn't
back_as : (p : ℕ → Bool) (pre xs : List ℕ) → length (take_while p (reverse xs)) < length xs → length (take_while p (reverse (pre ++ xs))) ≡ length (take_while p (reverse xs))
back_as p pre xs h =
    ap (λ ys. length (take_while p ys)) (reverse-append pre xs)
    ∙ length-prefix_len p (reverse xs ++ reverse pre)
    ∙ prefix_len-append p (reverse xs) (reverse pre)
    ∙ rw few (sym (length-prefix_len p (reverse xs)))
  where
    few : eqb (prefix_len p (reverse xs)) (length (reverse xs)) ≡ false
    few = let k : prefix_len p (reverse xs) < length (reverse xs) = omega (arith, h, length-prefix_len p (reverse xs), length-reverse xs) in grind (arith, nat_tests)

-- the same if all of them do
back_all : (p : ℕ → Bool) (pre xs : List ℕ) → length xs ≤ length (take_while p (reverse xs)) → length xs ≤ length (take_while p (reverse (pre ++ xs)))
back_all p pre xs h =
    let all : prefix_len p (reverse xs) ≡ length (reverse xs) = omega (arith, h, length-prefix_len p (reverse xs), length-reverse xs, prefix_len-le-length p (reverse xs)) in
    let whole : eqb (prefix_len p (reverse xs)) (length (reverse xs)) ≡ true = grind (arith, nat_tests) in
    let more : length (take_while p (reverse (pre ++ xs))) ≡ length (reverse xs) + prefix_len p (reverse pre) =
    ap (λ ys. length (take_while p ys)) (reverse-append pre xs) ∙ length-prefix_len p (reverse xs ++ reverse pre) ∙ prefix_len-append p (reverse xs) (reverse pre) ∙ rw whole refl in
    omega (arith, more, length-reverse xs)

-- a first byte that doesn't pass stops what comes from the end
pub back_stops : (p : ℕ → Bool) (b : ℕ) (bs : List ℕ) → p b ≡ false → length (take_while p (reverse (b ∷ bs))) < length (b ∷ bs)
back_stops p b bs h =
    let parted : reverse (b ∷ bs) ≡ reverse bs ++ b ∷ [] = reverse-append (b ∷ []) bs in
    let count : length (take_while p (reverse (b ∷ bs))) ≡ cond (eqb (prefix_len p (reverse bs)) (length (reverse bs))) (length (reverse bs) + cond (p b) (1 + 0) 0) (prefix_len p (reverse bs)) =
    ap (λ ys. length (take_while p ys)) parted ∙ length-prefix_len p (reverse bs ++ b ∷ []) ∙ prefix_len-append p (reverse bs) (b ∷ []) in
    let bound : cond (eqb (prefix_len p (reverse bs)) (length (reverse bs))) (length (reverse bs) + cond (p b) (1 + 0) 0) (prefix_len p (reverse bs)) ≤ length bs =
    rw h (by (eqb (prefix_len p (reverse bs)) (length (reverse bs)))) in
    omega (arith, count, bound)
  where
    by : (k : Bool) → cond k (length (reverse bs) + 0) (prefix_len p (reverse bs)) ≤ length bs
    by true = omega (arith, length-reverse bs)
    by false = omega (arith, length-reverse bs, prefix_len-le-length p (reverse bs))

trailing_on : (n : ℕ) (w r : List Cell) (b : ℕ) → Behind n w r → trailing r b < length r → trailing w b ≡ trailing r b
trailing_on n w r b h few =
    trailing_asked w b ∙ ap (λ (xs : List ℕ). length (take_while (λ x. x == b) (reverse xs))) h.bytes
    ∙ back_as (λ x. x == b) h.pre (bytes_of r) (omega (arith, few, trailing_asked r b, length-map r (λ (c : Cell). c.byte)))
    ∙ sym (trailing_asked r b)

-- whether the tail of a line begins before a column is whether all columns from there on are of it
tail_before : (n : ℕ) (w r : List Cell) (b : ℕ) → Behind n w r → nat_le (length w - tail_length w b) n ≡ nat_le (length r - tail_length r b) 0
tail_before n w r b h = by (nat_lt (tail_length r b) (length r)) refl
  where
    p : ℕ → Bool
    p = λ x. (x == 32) || (x == b)

    bytes : length (bytes_of r) ≡ length r
    bytes = length-map r (λ (c : Cell). c.byte)

    whole : length w ≡ n + length r
    whole = length_on n w r h

    there : tail_length w b ≡ length (take_while p (reverse (h.pre ++ bytes_of r)))
    there = tail_asked w b ∙ ap (λ (xs : List ℕ). length (take_while p (reverse xs))) h.bytes

    here : tail_length r b ≡ length (take_while p (reverse (bytes_of r)))
    here = tail_asked r b

    by : (k : Bool) → nat_lt (tail_length r b) (length r) ≡ k → nat_le (length w - tail_length w b) n ≡ nat_le (length r - tail_length r b) 0
    by true e =
        let few : tail_length r b < length r = grind (arith, nat_tests) in
        let same : tail_length w b ≡ tail_length r b = there ∙ back_as p h.pre (bytes_of r) (omega (arith, few, here, bytes)) ∙ sym here in
        let far : n < length w - tail_length w b = omega (arith, few, same, whole) in
        let near : 0 < length r - tail_length r b = omega (arith, few) in
        let first : nat_le (length w - tail_length w b) n ≡ false = grind (arith, nat_tests) in
        let second : nat_le (length r - tail_length r b) 0 ≡ false = grind (arith, nat_tests) in
        first ∙ sym second
    by false e =
        let all : length r ≤ tail_length r b = grind (arith, nat_tests) in
        let more : length (bytes_of r) ≤ length (take_while p (reverse (h.pre ++ bytes_of r))) = back_all p h.pre (bytes_of r) (omega (arith, all, here, bytes)) in
        let far : length w - tail_length w b ≤ n = omega (arith, more, there, whole, bytes) in
        let near : length r - tail_length r b ≤ 0 = omega (arith, all) in
        let first : nat_le (length w - tail_length w b) n ≡ true = grind (arith, nat_tests) in
        let second : nat_le (length r - tail_length r b) 0 ≡ true = grind (arith, nat_tests) in
        first ∙ sym second

pub rule_on : (n : ℕ) (w r : List Cell) → Behind n w r → trailing r 32 < length r → is_rule w (tail_of w) n ≡ is_rule r (tail_of r) 0
unfolding is_rule tail_of
rule_on n w r h some = rw (trailing_on n w r 32 h some, length_on n w r h, last, byte_on n w r (length r - trailing r 32 - 1) h, byte, count) (by end refl)
  where
    none : n ≡ n + 0
    none = omega arith

    end : ℕ
    end = cell_byte r (length r - trailing r 32 - 1)

    last : n + length r - trailing r 32 - 1 ≡ n + (length r - trailing r 32 - 1)
    last = omega (arith, some)

    byte : cell_byte w n ≡ cell_byte r 0
    byte = ap (cell_byte w) none ∙ byte_on n w r 0 h

    count : count_of w n (cell_byte r 0) ≡ count_of r 0 (cell_byte r 0)
    count = ap (λ k. count_of w k (cell_byte r 0)) none ∙ count_on n w r 0 (cell_byte r 0) h

    by : (e : ℕ) → e ≡ end
        → is_rule_byte (cell_byte r 0) && (cell_byte r 0 == e) && nat_le (n + length r - tail_length w e) n && nat_le 3 (count_of r 0 (cell_byte r 0))
        ≡ is_rule_byte (cell_byte r 0) && (cell_byte r 0 == e) && nat_le (length r - tail_length r e) 0 && nat_le 3 (count_of r 0 (cell_byte r 0))
    by e q = ap (λ k. is_rule_byte (cell_byte r 0) && (cell_byte r 0 == e) && k && nat_le 3 (count_of r 0 (cell_byte r 0)))
        (ap (λ m. nat_le (m - tail_length w e) n) (sym (length_on n w r h)) ∙ tail_before n w r e h)

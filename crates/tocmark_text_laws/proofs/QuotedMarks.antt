-- What begins at a column after others is what begins there without them.
use Rattle.std.proofs.Common.{◌≡◌, ℕ, zero, suc, ◌+◌, ◌-◌, ◌<◌, ◌≤◌, Bool, true, false, not, ◌==◌, ◌||◌, cond, if◌then◌else◌, nat_lt, nat_le, List, [], ◌∷◌, ◌++◌, length, reverse, refl, ap, sym, subst, ◌∙◌, arith}
use Rattle.std.specs.Prelude.{take_while, Option, Some, None}
use Rattle.std.specs.List.{prefix_len, AllByRecursion}
use Rattle.std.specs.Option.{option_map}
use Rattle.std.proofs.Math.Dec.{eqb}
use Rattle.std.proofs.lemmas.Bool.Decides.{nat_tests}
use Rattle.std.proofs.lemmas.List.{length-map, length-reverse, reverse-append}
use Rattle.std.proofs.lemmas.List.Folds.{length-prefix_len, prefix_len-append}
use Rattle.std.proofs.lemmas.List.Sums.{prefix_len-le-length}
use Rattle.tocmark_event.specs.declared.event.HeadingLevel.{HeadingLevel}
use Rattle.tocmark_read_scan.specs.Basic.{plus, byte_at, bytes_between}
use Rattle.tocmark_read_lines.specs.Cells.{bytes_of, cell_byte, run_of, ink_from, trailing, trimmed}
use Rattle.tocmark_read_lines.specs.Marks.{level_of, is_behind, heading_end_before, heading_from, heading_at, fence_at, closes_fence, tail_length, tail_of, is_rule_byte, is_rule, underline_at, digit_count, bullet_at, ordered_at, marker_at}
use Rattle.tocmark_read_lines.specs.declared.beginnings.Heading.{Heading}
use Rattle.tocmark_read_lines.specs.declared.beginnings.Fence.{Fence}
use Rattle.tocmark_read_lines.specs.declared.cell.Cell.{Cell}
use Rattle.tocmark_read_lines.specs.declared.cell.Cursor.{Cursor}
use Rattle.tocmark_read_lines.proofs.Columns.{byte_asked, trailing_asked, tail_asked}
use Rattle.tocmark_text_laws.proofs.QuotedCells.{Fronted, cursor_on, In, length_on, byte_two, run_two, count_two, digits_two, run_low, digits_low, plus_shift, ink_two, le_shift, less_shift, behind_two, between_two, trimmed_two}

-- headings

end_as : (shift : ℕ) (w r : List Cell) (from whole open_end : ℕ) → Fronted shift w r
    → (if nat_le (shift + open_end) (shift + from) || (cell_byte w (shift + open_end - 1) == 32) then trimmed w (shift + from) (shift + open_end) 32 else shift + whole)
    ≡ shift + (if nat_le open_end from || (cell_byte r (open_end - 1) == 32) then trimmed r from open_end 32 else whole)
end_as shift w r from whole zero h = rw (le_shift shift 0 from, none) (trimmed_two shift w r from 0 32 h)
  where
    none : nat_le 0 from ≡ true
    none = grind (arith, nat_tests)
end_as shift w r from whole (suc k) h =
    rw (le_shift shift (suc k) from, before, byte_two shift w r k h, trimmed_two shift w r from (suc k) 32 h, less) (by (nat_le (suc k) from || (cell_byte r k == 32)))
  where
    before : shift + suc k - 1 ≡ shift + k
    before = omega arith

    less : suc k - 1 ≡ k
    less = omega arith

    by : (b : Bool) → (if b then shift + trimmed r from (suc k) 32 else shift + whole) ≡ shift + (if b then trimmed r from (suc k) 32 else whole)
    by true = refl
    by false = refl

heading_end_two : (shift : ℕ) (w r : List Cell) (from limit : ℕ) → Fronted shift w r → heading_end_before w (shift + from) (shift + limit) ≡ shift + heading_end_before r from limit
unfolding heading_end_before
heading_end_two shift w r from limit h =
    rw (trimmed_two shift w r from limit 32 h, trimmed_two shift w r from (trimmed r from limit 32) 35 h)
    (end_as shift w r from (trimmed r from limit 32) (trimmed r from (trimmed r from limit 32) 35) h)

-- a heading so many columns further
abbrev pub heading_on : ℕ → Heading → Heading
heading_on shift x = record { level = x.level; from = shift + x.from; to = shift + x.to }

pub heading_two : (shift : ℕ) (w r : List Cell) (k : ℕ) → Fronted shift w r → In r k → heading_at w (shift + k) ≡ option_map (heading_on shift) (heading_at r k)
unfolding heading_at
heading_two shift w r k h low =
    rw (run_two shift w r k 35 h, here, behind_two shift w r behind h, ink_two shift w r behind h within, less_shift shift behind k) (by (is_behind r behind) (level_of (behind - k)))
  where
    behind : ℕ
    behind = plus k (run_of r k 35)

    within : behind ≤ length r
    within = omega (arith, run_low r k 35 low)

    here : plus (shift + k) (run_of r k 35) ≡ shift + behind
    here = plus_shift shift k (run_of r k 35) (omega (arith, run_low r k 35 low, h.fits))

    from : ℕ
    from = ink_from r behind

    each : (o : Option HeadingLevel) → option_map (heading_from w (shift + from)) o ≡ option_map (heading_on shift) (option_map (heading_from r from) o)
    each None = refl
    each (Some l) = ap (λ to. Some (record { level = l; from = shift + from; to = to })) (ap (heading_end_before w (shift + from)) (length_on shift w r h) ∙ heading_end_two shift w r from (length r) h)

    by : (b : Bool) (o : Option HeadingLevel) → (if not b then None else option_map (heading_from w (shift + from)) o) ≡ option_map (heading_on shift) (if not b then None else option_map (heading_from r from) o)
    by true o = each o
    by false o = refl

-- fences

pub fence_two : (shift : ℕ) (w r : List Cell) (c : Cursor) → Fronted shift w r → In r c.ink → fence_at w (cursor_on shift c) ≡ fence_at r c
unfolding fence_at
fence_two shift w r c h low =
    rw (byte_two shift w r c.ink h, run_two shift w r c.ink (cell_byte r c.ink) h, far, count_two shift w r (plus c.ink (run_of r c.ink (cell_byte r c.ink))) 96 h, less_shift shift c.ink c.column) refl
  where
    far : plus (shift + c.ink) (run_of r c.ink (cell_byte r c.ink)) ≡ shift + plus c.ink (run_of r c.ink (cell_byte r c.ink))
    far = plus_shift shift c.ink (run_of r c.ink (cell_byte r c.ink)) (omega (arith, run_low r c.ink (cell_byte r c.ink) low, h.fits))

pub closes_two : (shift : ℕ) (w r : List Cell) (c : Cursor) (f : Fence) → Fronted shift w r → In r c.ink → closes_fence w (cursor_on shift c) f ≡ closes_fence r c f
unfolding closes_fence
closes_two shift w r c f h low =
    rw (run_two shift w r c.ink f.byte h, far, ink_two shift w r behind h within, length_on shift w r h, le_shift shift (length r) (ink_from r behind), less_shift shift c.ink c.column) refl
  where
    behind : ℕ
    behind = plus c.ink (run_of r c.ink f.byte)

    within : behind ≤ length r
    within = omega (arith, run_low r c.ink f.byte low)

    far : plus (shift + c.ink) (run_of r c.ink f.byte) ≡ shift + behind
    far = plus_shift shift c.ink (run_of r c.ink f.byte) (omega (arith, run_low r c.ink f.byte low, h.fits))

-- underlines

pub underline_two : (shift : ℕ) (w r : List Cell) (k : ℕ) → Fronted shift w r → In r k → underline_at w (shift + k) ≡ underline_at r k
unfolding underline_at
underline_two shift w r k h low =
    rw (byte_two shift w r k h, run_two shift w r k (cell_byte r k) h, far, ink_two shift w r behind h within, length_on shift w r h, le_shift shift (length r) (ink_from r behind)) refl
  where
    behind : ℕ
    behind = plus k (run_of r k (cell_byte r k))

    within : behind ≤ length r
    within = omega (arith, run_low r k (cell_byte r k) low)

    far : plus (shift + k) (run_of r k (cell_byte r k)) ≡ shift + behind
    far = plus_shift shift k (run_of r k (cell_byte r k)) (omega (arith, run_low r k (cell_byte r k) low, h.fits))

-- markers of items

bullet_two : (shift : ℕ) (w r : List Cell) (k : ℕ) → Fronted shift w r → In r k → bullet_at w (shift + k) ≡ bullet_at r k
unfolding bullet_at
bullet_two shift w r k h low = rw (byte_two shift w r k h, plus_shift shift k 1 (omega (arith, low, h.fits)), behind_two shift w r (plus k 1) h) refl

ordered_two : (shift : ℕ) (w r : List Cell) (k : ℕ) → Fronted shift w r → In r k → ordered_at w (shift + k) ≡ ordered_at r k
unfolding ordered_at
ordered_two shift w r k h low = rw (digits_two shift w r k h, far, byte_two shift w r last h, next, behind_two shift w r (plus last 1) h, number) refl
  where
    last : ℕ
    last = plus k (digit_count r k)

    few : k + digit_count r k ≤ length r
    few = digits_low r k low

    far : plus (shift + k) (digit_count r k) ≡ shift + last
    far = plus_shift shift k (digit_count r k) (omega (arith, few, h.fits))

    next : plus (shift + last) 1 ≡ shift + plus last 1
    next = plus_shift shift last 1 (omega (arith, few, h.fits))

    number : bytes_between (bytes_of w) (shift + k) (shift + last) ≡ bytes_between (bytes_of r) k last
    number = between_two shift w r k last h

pub marker_two : (shift : ℕ) (w r : List Cell) (k : ℕ) → Fronted shift w r → In r k → marker_at w (shift + k) ≡ marker_at r k
unfolding marker_at
marker_two shift w r k h low = rw (bullet_two shift w r k h low, ordered_two shift w r k h low) refl

-- thematic breaks

-- the bytes at the end that pass a test, if one of the later bytes doesn't
back_as : (p : ℕ → Bool) (pre xs : List ℕ) → length (take_while p (reverse xs)) < length xs → length (take_while p (reverse (pre ++ xs))) ≡ length (take_while p (reverse xs))
back_as p pre xs h =
    ap (λ ys. length (take_while p ys)) (reverse-append pre xs)
    ∙ length-prefix_len p (reverse xs ++ reverse pre)
    ∙ prefix_len-append p (reverse xs) (reverse pre)
    ∙ rw few (sym (length-prefix_len p (reverse xs)))
  where
    few : eqb (prefix_len p (reverse xs)) (length (reverse xs)) ≡ false
    few = let k : prefix_len p (reverse xs) < length (reverse xs) = omega (arith, h, length-prefix_len p (reverse xs), length-reverse xs) in grind (arith, nat_tests)

-- the same if all of them do
back_all : (p : ℕ → Bool) (pre xs : List ℕ) → length xs ≤ length (take_while p (reverse xs)) → length xs ≤ length (take_while p (reverse (pre ++ xs)))
back_all p pre xs h =
    let all : prefix_len p (reverse xs) ≡ length (reverse xs) = omega (arith, h, length-prefix_len p (reverse xs), length-reverse xs, prefix_len-le-length p (reverse xs)) in
    let whole : eqb (prefix_len p (reverse xs)) (length (reverse xs)) ≡ true = grind (arith, nat_tests) in
    let more : length (take_while p (reverse (pre ++ xs))) ≡ length (reverse xs) + prefix_len p (reverse pre) =
    ap (λ ys. length (take_while p ys)) (reverse-append pre xs) ∙ length-prefix_len p (reverse xs ++ reverse pre) ∙ prefix_len-append p (reverse xs) (reverse pre) ∙ rw whole refl in
    omega (arith, more, length-reverse xs)

-- the bytes at the end that pass a test are no more than there are, also with a byte in front that passes or not
back_one : (p : ℕ → Bool) (b : ℕ) (bs : List ℕ) → length (take_while p (reverse (b ∷ bs))) ≡ cond (eqb (prefix_len p (reverse bs)) (length (reverse bs))) (length (reverse bs) + cond (p b) (1 + 0) 0) (prefix_len p (reverse bs))
back_one p b bs = ap (λ ys. length (take_while p ys)) (reverse-append (b ∷ []) bs) ∙ length-prefix_len p (reverse bs ++ b ∷ []) ∙ prefix_len-append p (reverse bs) (b ∷ [])

-- if all bytes pass from the end on, each passes
pub back_each : (p : ℕ → Bool) (xs : List ℕ) → length xs ≤ length (take_while p (reverse xs)) → AllByRecursion (λ b. p b ≡ true) xs
back_each p [] h = tt
back_each p (b ∷ bs) h = by (eqb (prefix_len p (reverse bs)) (length (reverse bs))) refl (p b) refl (λ k. back_each p bs k)
  where
    known : (e k : Bool) → eqb (prefix_len p (reverse bs)) (length (reverse bs)) ≡ e → p b ≡ k → suc (length bs) ≤ cond e (length (reverse bs) + cond k (1 + 0) 0) (prefix_len p (reverse bs))
    known e k q s = subst (λ x. suc (length bs) ≤ cond e (length (reverse bs) + cond x (1 + 0) 0) (prefix_len p (reverse bs))) s (subst (λ x. suc (length bs) ≤ cond x (length (reverse bs) + cond (p b) (1 + 0) 0) (prefix_len p (reverse bs))) q (subst (λ n. suc (length bs) ≤ n) (back_one p b bs) h))

    by : (e : Bool) → eqb (prefix_len p (reverse bs)) (length (reverse bs)) ≡ e → (k : Bool) → p b ≡ k → (length bs ≤ length (take_while p (reverse bs)) → AllByRecursion (λ c. p c ≡ true) bs) → (p b ≡ true) × AllByRecursion (λ c. p c ≡ true) bs
    by true q true s again =
        let same : prefix_len p (reverse bs) ≡ length (reverse bs) = grind (arith, nat_tests) in
        (s, again (omega (arith, same, length-prefix_len p (reverse bs), length-reverse bs)))
    by true q false s again = absurd (let f : suc (length bs) ≤ length (reverse bs) + 0 = known true false q s in omega (arith, f, length-reverse bs))
    by false q k s again = absurd (let f : suc (length bs) ≤ prefix_len p (reverse bs) = known false k q s in omega (arith, f, prefix_len-le-length p (reverse bs), length-reverse bs))

-- a space or the end of a line begins no rule
no_rule : (xs : List ℕ) (k : ℕ) → AllByRecursion (λ b. (b == 32) ≡ true) xs → is_rule_byte (byte_at xs k) ≡ false
unfolding is_rule_byte
no_rule [] k h = refl
no_rule (b ∷ bs) zero h = let q : b ≡ 32 = grind (arith, h.0, nat_tests) in rw q refl
no_rule (b ∷ bs) (suc k) h = no_rule bs k (h.1)

trailing_two : (shift : ℕ) (w r : List Cell) (b : ℕ) → Fronted shift w r → trailing r b < length r → trailing w b ≡ trailing r b
trailing_two shift w r b h few =
    trailing_asked w b ∙ ap (λ (xs : List ℕ). length (take_while (λ x. x == b) (reverse xs))) h.bytes
    ∙ back_as (λ x. x == b) h.front (bytes_of r) (omega (arith, few, trailing_asked r b, length-map r (λ (c : Cell). c.byte)))
    ∙ sym (trailing_asked r b)

-- whether the tail of a line begins before a column
tail_two : (shift : ℕ) (w r : List Cell) (b k : ℕ) → Fronted shift w r → nat_le (shift + length r - tail_length w b) (shift + k) ≡ nat_le (length r - tail_length r b) k
tail_two shift w r b k h = by (nat_lt (tail_length r b) (length r)) refl
  where
    p : ℕ → Bool
    p = λ x. (x == 32) || (x == b)

    bytes : length (bytes_of r) ≡ length r
    bytes = length-map r (λ (c : Cell). c.byte)

    there : tail_length w b ≡ length (take_while p (reverse (h.front ++ bytes_of r)))
    there = tail_asked w b ∙ ap (λ (xs : List ℕ). length (take_while p (reverse xs))) h.bytes

    here : tail_length r b ≡ length (take_while p (reverse (bytes_of r)))
    here = tail_asked r b

    by : (e : Bool) → nat_lt (tail_length r b) (length r) ≡ e → nat_le (shift + length r - tail_length w b) (shift + k) ≡ nat_le (length r - tail_length r b) k
    by true e =
        let few : tail_length r b < length r = grind (arith, nat_tests) in
        let same : tail_length w b ≡ tail_length r b = there ∙ back_as p h.front (bytes_of r) (omega (arith, few, here, bytes)) ∙ sym here in
        let far : shift + length r - tail_length w b ≡ shift + (length r - tail_length r b) = omega (arith, same, few) in
        ap (λ n. nat_le n (shift + k)) far ∙ le_shift shift (length r - tail_length r b) k
    by false e =
        let all : length r ≤ tail_length r b = grind (arith, nat_tests) in
        let more : length (bytes_of r) ≤ length (take_while p (reverse (h.front ++ bytes_of r))) = back_all p h.front (bytes_of r) (omega (arith, all, here, bytes)) in
        let far : shift + length r - tail_length w b ≤ shift + k = omega (arith, more, there, bytes) in
        let near : length r - tail_length r b ≤ k = omega (arith, all) in
        let first : nat_le (shift + length r - tail_length w b) (shift + k) ≡ true = grind (arith, nat_tests) in
        let second : nat_le (length r - tail_length r b) k ≡ true = grind (arith, nat_tests) in
        first ∙ sym second

rule_some : (shift : ℕ) (w r : List Cell) (k : ℕ) → Fronted shift w r → trailing r 32 < length r → is_rule w (tail_of w) (shift + k) ≡ is_rule r (tail_of r) k
unfolding is_rule tail_of
rule_some shift w r k h some = rw (trailing_two shift w r 32 h some, length_on shift w r h, last, byte_two shift w r (length r - trailing r 32 - 1) h, byte_two shift w r k h, count_two shift w r k (cell_byte r k) h, tail_two shift w r end k h) refl
  where
    end : ℕ
    end = cell_byte r (length r - trailing r 32 - 1)

    last : shift + length r - trailing r 32 - 1 ≡ shift + (length r - trailing r 32 - 1)
    last = omega (arith, some)

rule_none : (r : List Cell) (tail : _) (k : ℕ) → is_rule_byte (cell_byte r k) ≡ false → is_rule r tail k ≡ false
unfolding is_rule
rule_none r tail k h = rw h refl

pub rule_two : (shift : ℕ) (w r : List Cell) (k : ℕ) → Fronted shift w r → is_rule w (tail_of w) (shift + k) ≡ is_rule r (tail_of r) k
rule_two shift w r k h = by (nat_lt (trailing r 32) (length r)) refl
  where
    blank : length r ≤ trailing r 32 → is_rule_byte (cell_byte r k) ≡ false
    blank all = ap is_rule_byte (byte_asked r k) ∙ no_rule (bytes_of r) k (back_each (λ x. x == 32) (bytes_of r) (omega (arith, all, trailing_asked r 32, length-map r (λ (c : Cell). c.byte))))

    by : (e : Bool) → nat_lt (trailing r 32) (length r) ≡ e → is_rule w (tail_of w) (shift + k) ≡ is_rule r (tail_of r) k
    by true e = rule_some shift w r k h (grind (arith, nat_tests))
    by false e =
        let none : is_rule_byte (cell_byte r k) ≡ false = blank (grind (arith, nat_tests)) in
        rule_none w (tail_of w) (shift + k) (ap is_rule_byte (byte_two shift w r k h) ∙ none) ∙ sym (rule_none r (tail_of r) k none)

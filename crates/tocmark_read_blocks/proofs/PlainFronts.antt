-- Lines with a marker's byte or digits in front that begin no block all the same.
use Rattle.std.proofs.Common.{◌≡◌, ℕ, suc, ◌+◌, ◌-◌, ◌^◌, ◌<◌, ◌≤◌, Bool, true, false, ◌==◌, ◌&&◌, ◌||◌, if◌then◌else◌, nat_le, List, [], ◌∷◌, ◌++◌, length, reverse, take_while, cond, refl, ap, sym, subst, ◌∙◌, append_assoc, length-append, arith, Some, None, ◌⊎◌, inl, inr}
use Rattle.std.proofs.lemmas.Bool.Decides.{nat_tests}
use Rattle.std.proofs.lemmas.Grind.{reverse_onto}
use Rattle.std.proofs.lemmas.List.{length-reverse}
use Rattle.std.proofs.lemmas.List.Folds.{length-prefix_len}
use Rattle.std.specs.Char.{is_ascii_digit}
use Rattle.std.specs.List.{prefix_len}
use Rattle.std.specs.Option.{option_or}
use Rattle.tocmark_read_scan.specs.Basic.{plus}
use Rattle.tocmark_read_lines.specs.Cells.{cell, cell_byte, trailing, first_cursor}
use Rattle.tocmark_read_lines.specs.Marks.{is_rule, is_rule_byte, marker_at, bullet_at, ordered_at, is_behind, underline_at, is_underline_byte, tail_length, tail_of, digit_count}
use Rattle.tocmark_read_lines.specs.declared.cell.Cell.{Cell}
use Rattle.tocmark_read_lines.specs.declared.beginnings.Marker.{Marker}
use Rattle.tocmark_read_lines.specs.declared.beginnings.Tail.{Tail}
use Rattle.tocmark_read_blocks.proofs.PlainLines.{numbered}
use Rattle.tocmark_read_blocks.proofs.PlainSteps.{BeginsNothing}
use Rattle.tocmark_read_blocks.proofs.PlainStarts.{IsQuiet, quiet_begins_nothing, some_cells, no_heading, no_fence, no_underline}
use Rattle.tocmark_read_scan.specs.PlainParts.{ends_number}
use Rattle.tocmark_read_scan.proofs.PlainTests.{eq_of}

-- a byte that keeps a mark before it from being a marker, a rule or an underline
pub record IsBehindMark (c : ℕ) : Type 0 where
  pub space : (c == 32) ≡ false
  pub minus : (c == 45) ≡ false
  pub equals : (c == 61) ≡ false

two_cells : (n : ℕ) → nat_le (suc (suc n)) 1 ≡ false
two_cells n = grind (arith, nat_tests)

-- what passes a test in front of one that doesn't
before_failure : (p : Cell → Bool) (xs : List Cell) (d : Cell) (ys : List Cell) → p d ≡ false → prefix_len p (xs ++ d ∷ ys) ≤ length xs
before_failure p [] d ys h = rw h (omega arith)
before_failure p (x ∷ xs) d ys h = by_test (p x) (before_failure p xs d ys h)
  where
    by_test : (k : Bool) → prefix_len p (xs ++ d ∷ ys) ≤ length xs → cond k (1 + prefix_len p (xs ++ d ∷ ys)) 0 ≤ length (x ∷ xs)
    by_test true e = omega arith
    by_test false e = omega arith

-- a test that the first column or the second one fails doesn't reach the first from the end
behind_failure : (p : Cell → Bool) (a d : Cell) (cs : List Cell) → (p a ≡ false) ⊎ (p d ≡ false) → length (take_while p (reverse (a ∷ d ∷ cs))) < length (a ∷ d ∷ cs)
behind_failure p a d cs h =
    let turned : reverse (a ∷ d ∷ cs) ≡ reverse cs ++ d ∷ a ∷ [] = reverse_onto cs d (a ∷ []) in
    let counted : length (take_while p (reverse (a ∷ d ∷ cs))) ≡ prefix_len p (reverse cs ++ d ∷ a ∷ []) = length-prefix_len p (reverse (a ∷ d ∷ cs)) ∙ ap (prefix_len p) turned in
    let same : length (reverse cs) ≡ length cs = length-reverse cs in
    let short : prefix_len p (reverse cs ++ d ∷ a ∷ []) ≤ length cs + 1 = by_failure h in
    omega arith
  where
    by_failure : (p a ≡ false) ⊎ (p d ≡ false) → prefix_len p (reverse cs ++ d ∷ a ∷ []) ≤ length cs + 1
    by_failure (inl e) =
        let parted : reverse cs ++ d ∷ a ∷ [] ≡ (reverse cs ++ d ∷ []) ++ a ∷ [] = sym (append_assoc (reverse cs) (d ∷ []) (a ∷ [])) in
        let counted : prefix_len p ((reverse cs ++ d ∷ []) ++ a ∷ []) ≤ length (reverse cs ++ d ∷ []) = before_failure p (reverse cs ++ d ∷ []) a [] e in
        let long : length (reverse cs ++ d ∷ []) ≡ length (reverse cs) + 1 = length-append (reverse cs) (d ∷ []) in
        let same : length (reverse cs) ≡ length cs = length-reverse cs in
        let moved : prefix_len p (reverse cs ++ d ∷ a ∷ []) ≡ prefix_len p ((reverse cs ++ d ∷ []) ++ a ∷ []) = ap (prefix_len p) parted in
        omega arith
    by_failure (inr e) =
        let counted : prefix_len p (reverse cs ++ d ∷ a ∷ []) ≤ length (reverse cs) = before_failure p (reverse cs) d (a ∷ []) e in
        let same : length (reverse cs) ≡ length cs = length-reverse cs in
        omega arith

-- one of two bytes isn't a third one, if they differ
one_differs : (b c x : ℕ) → (c == b) ≡ false → ((b == x) ≡ false) ⊎ ((c == x) ≡ false)
one_differs b c x h = by_test (b == x) refl
  where
    by_test : (k : Bool) → (b == x) ≡ k → ((b == x) ≡ false) ⊎ ((c == x) ≡ false)
    by_test true e = inr (let same : b ≡ x = eq_of b x e in subst (λ y. (c == y) ≡ false) same h)
    by_test false e = inl e

-- the tail of a line begins after a minus with a byte after it that is neither a minus nor a space
tail_behind : (at c : ℕ) (cs : List ℕ) → IsBehindMark c → 0 < (tail_of (numbered at (45 ∷ c ∷ cs))).from
unfolding tail_of
tail_behind at c cs h =
    let cells : List Cell = numbered at (45 ∷ c ∷ cs) in
    let b : ℕ = cell_byte cells (length cells - trailing cells 32 - 1) in
    let short : tail_length cells b < length cells = behind_failure (λ x. (x.byte == 32) || (x.byte == b)) (cell 45 at) (cell c (at + 1)) (numbered (at + 1 + 1) cs) (by_byte b (one_differs 45 c b (h.minus))) in
    omega arith
  where
    by_byte : (b : ℕ) → ((45 == b) ≡ false) ⊎ ((c == b) ≡ false) → (((45 == 32) || (45 == b)) ≡ false) ⊎ (((c == 32) || (c == b)) ≡ false)
    by_byte b (inl e) = inl e
    by_byte b (inr e) = inr (rw (h.space) e)

no_rule_behind : (cells : List Cell) (t : Tail) → 0 < t.from → is_rule cells t 0 ≡ false
unfolding is_rule
no_rule_behind cells t h =
    let behind : nat_le t.from 0 ≡ false = grind (arith, nat_tests) in
    rw behind (by_bytes _ (is_rule_byte (cell_byte cells 0)) (cell_byte cells 0 == t.byte))
  where
    by_bytes : (c a b : Bool) → (a && b && false && c) ≡ false
    by_bytes c true true = refl
    by_bytes c true false = refl
    by_bytes c false b = refl

no_bullet : (at b c : ℕ) (cs : List ℕ) → IsBehindMark c → is_ascii_digit b ≡ false → marker_at (numbered at (b ∷ c ∷ cs)) 0 ≡ None
unfolding marker_at bullet_at ordered_at is_behind
no_bullet at b c cs h d = rw (h.space, two_cells (length (numbered (at + 1 + 1) cs)), d) (by_mark _ ((b == 45) || (b == 43) || (b == 42)))
  where
    by_mark : (x : Marker) (k : Bool) → option_or (if k && false then Some x else None) None ≡ None
    by_mark x true = refl
    by_mark x false = refl

-- a minus with such a byte after it begins nothing
pub minus_begins_nothing : (at c : ℕ) (cs : List ℕ) → IsBehindMark c → BeginsNothing (45 ∷ c ∷ cs) (numbered at (45 ∷ c ∷ cs))
unfolding first_cursor underline_at is_underline_byte
minus_begins_nothing at c cs h = record {
  some = some_cells (length (numbered (at + 1) (c ∷ cs)));
  ink = refl;
  quote = refl;
  rule = no_rule_behind (numbered at (45 ∷ c ∷ cs)) (tail_of (numbered at (45 ∷ c ∷ cs))) (tail_behind at c cs h);
  marker = no_bullet at 45 c cs h refl;
  heading = no_heading at 45 (c ∷ cs) refl refl;
  fence = no_fence at 45 (c ∷ cs) refl refl;
  html = refl;
  underline = rw (h.minus, h.space, two_cells (length (numbered (at + 1 + 1) cs))) refl;
}

-- so does a plus
pub plus_begins_nothing : (at c : ℕ) (cs : List ℕ) → IsBehindMark c → BeginsNothing (43 ∷ c ∷ cs) (numbered at (43 ∷ c ∷ cs))
unfolding first_cursor is_rule is_rule_byte
plus_begins_nothing at c cs h = record {
  some = some_cells (length (numbered (at + 1) (c ∷ cs)));
  ink = refl;
  quote = refl;
  rule = refl;
  marker = no_bullet at 43 c cs h refl;
  heading = no_heading at 43 (c ∷ cs) refl refl;
  fence = no_fence at 43 (c ∷ cs) refl refl;
  html = refl;
  underline = no_underline at 43 (c ∷ cs) refl refl;
}

-- and an equals sign
pub equals_begins_nothing : (at c : ℕ) (cs : List ℕ) → IsBehindMark c → BeginsNothing (61 ∷ c ∷ cs) (numbered at (61 ∷ c ∷ cs))
unfolding first_cursor is_rule is_rule_byte underline_at is_underline_byte
equals_begins_nothing at c cs h = record {
  some = some_cells (length (numbered (at + 1) (c ∷ cs)));
  ink = refl;
  quote = refl;
  rule = refl;
  marker = no_bullet at 61 c cs h refl;
  heading = no_heading at 61 (c ∷ cs) refl refl;
  fence = no_fence at 61 (c ∷ cs) refl refl;
  html = refl;
  underline = rw (h.equals, h.space, two_cells (length (numbered (at + 1 + 1) cs))) refl;
}

-- how many digits are in front
abbrev digits : ℕ → List ℕ → ℕ
digits at bs = digit_count (numbered at bs) 0

abbrev ends_with : List Cell → ℕ → Bool
ends_with cells k = (cell_byte cells k == 46) || (cell_byte cells k == 41)

one_more_digit : (at c : ℕ) (cs : List ℕ) → is_ascii_digit c ≡ true → digits at (c ∷ cs) ≡ suc (digits (at + 1) cs)
one_more_digit at c cs e =
    let more : ℕ = prefix_len (λ (x : Cell). is_ascii_digit x.byte) (numbered (at + 1) cs) in
    let same : 1 + more ≡ suc more = omega arith in
    rw (e, same) refl

no_digit : (at c : ℕ) (cs : List ℕ) → is_ascii_digit c ≡ false → digits at (c ∷ cs) ≡ 0
no_digit at c cs e = rw e refl

behind_digits : (at : ℕ) (bs : List ℕ) → ends_number bs ≡ false → ends_with (numbered at bs) (digits at bs) ≡ false
behind_digits at [] h = refl
behind_digits at (c ∷ cs) h = by_digit (behind_digits (at + 1) cs) (is_ascii_digit c) refl
  where
    by_digit : (ends_number cs ≡ false → ends_with (numbered (at + 1) cs) (digits (at + 1) cs) ≡ false) → (k : Bool) → is_ascii_digit c ≡ k → ends_with (numbered at (c ∷ cs)) (digits at (c ∷ cs)) ≡ false
    by_digit more true e = ap (ends_with (numbered at (c ∷ cs))) (one_more_digit at c cs e) ∙ more (subst (λ (x : Bool). (if x then ends_number cs else (c == 46) || (c == 41)) ≡ false) e h)
    by_digit more false e = ap (ends_with (numbered at (c ∷ cs))) (no_digit at c cs e) ∙ subst (λ (x : Bool). (if x then ends_number cs else (c == 46) || (c == 41)) ≡ false) e h

digits_fit : (at : ℕ) (bs : List ℕ) → digits at bs ≤ length bs
digits_fit at [] = omega arith
digits_fit at (c ∷ cs) = by_digit (digits_fit (at + 1) cs) (is_ascii_digit c) refl
  where
    by_digit : digits (at + 1) cs ≤ length cs → (k : Bool) → is_ascii_digit c ≡ k → digits at (c ∷ cs) ≤ length (c ∷ cs)
    by_digit more true e = let one : digits at (c ∷ cs) ≡ suc (digits (at + 1) cs) = one_more_digit at c cs e in omega arith
    by_digit more false e = let none : digits at (c ∷ cs) ≡ 0 = no_digit at c cs e in omega arith

no_number : (at : ℕ) (bs : List ℕ) → length bs < 2 ^ 64 → ends_number bs ≡ false → ordered_at (numbered at bs) 0 ≡ None
unfolding ordered_at
no_number at bs fits h =
    let count : ℕ = digits at bs in
    let short : count ≤ length bs = digits_fit at bs in
    let last : plus 0 count ≡ count = omega arith in
    rw (last, behind_digits at bs h) (by_count _ _ (nat_le 1 count) (nat_le count 9))
  where
    by_count : (d : Bool) (x : Marker) (a b : Bool) → (if a && b && false && d then Some x else None) ≡ None
    by_count d x true true = refl
    by_count d x true false = refl
    by_count d x false b = refl

-- digits with neither `.` nor `)` after them begin nothing
pub digits_begin_nothing : (at b : ℕ) (bs : List ℕ) → length (b ∷ bs) < 2 ^ 64 → is_ascii_digit b ≡ true → ends_number (b ∷ bs) ≡ false → BeginsNothing (b ∷ bs) (numbered at (b ∷ bs))
unfolding first_cursor marker_at bullet_at is_rule is_rule_byte
digits_begin_nothing at b bs fits d h =
    let low : 48 ≤ b = grind (arith, d, nat_tests) in
    let high : b ≤ 57 = grind (arith, d, nat_tests) in
    let space : (b == 32) ≡ false = grind (arith, nat_tests) in
    let minus : (b == 45) ≡ false = grind (arith, nat_tests) in
    let plus_sign : (b == 43) ≡ false = grind (arith, nat_tests) in
    let star : (b == 42) ≡ false = grind (arith, nat_tests) in
    let underscore : (b == 95) ≡ false = grind (arith, nat_tests) in
    record {
      some = some_cells (length (numbered (at + 1) bs));
      ink = rw space refl;
      quote = grind (arith, nat_tests);
      rule = rw (star, minus, underscore) refl;
      marker = rw (minus, plus_sign, star) (no_number at (b ∷ bs) fits h);
      heading = no_heading at b bs (grind (arith, nat_tests)) space;
      fence = no_fence at b bs (grind (arith, nat_tests)) (grind (arith, nat_tests));
      html = grind (arith, nat_tests);
      underline = no_underline at b bs (grind (arith, nat_tests)) minus;
    }

-- what is after a mark keeps it from being a marker
abbrev pub GoesOn : List ℕ → Type 0
GoesOn [] = ⊥
GoesOn (c ∷ cs) = IsBehindMark c

-- a line that begins no block by what is in front: another byte than a marker's, digits without `.` and `)`, or a mark that goes on
abbrev pub BeginsPlainly : List ℕ → Type 0
BeginsPlainly [] = ⊥
BeginsPlainly (b ∷ bs) = IsQuiet b ⊎ ((is_ascii_digit b ≡ true) × (ends_number (b ∷ bs) ≡ false)) ⊎ (((b ≡ 45) ⊎ (b ≡ 43) ⊎ (b ≡ 61)) × GoesOn bs)

mark_begins_nothing : (at b : ℕ) (bs : List ℕ) → (b ≡ 45) ⊎ (b ≡ 43) ⊎ (b ≡ 61) → GoesOn bs → BeginsNothing (b ∷ bs) (numbered at (b ∷ bs))
mark_begins_nothing at b [] h k = absurd k
mark_begins_nothing at b (c ∷ cs) (inl e) k = subst (λ x. BeginsNothing (x ∷ c ∷ cs) (numbered at (x ∷ c ∷ cs))) (sym e) (minus_begins_nothing at c cs k)
mark_begins_nothing at b (c ∷ cs) (inr (inl e)) k = subst (λ x. BeginsNothing (x ∷ c ∷ cs) (numbered at (x ∷ c ∷ cs))) (sym e) (plus_begins_nothing at c cs k)
mark_begins_nothing at b (c ∷ cs) (inr (inr e)) k = subst (λ x. BeginsNothing (x ∷ c ∷ cs) (numbered at (x ∷ c ∷ cs))) (sym e) (equals_begins_nothing at c cs k)

-- such a line begins nothing
pub plainly_begins_nothing : (at : ℕ) (l : List ℕ) → length l < 2 ^ 64 → BeginsPlainly l → BeginsNothing l (numbered at l)
plainly_begins_nothing at [] fits h = absurd h
plainly_begins_nothing at (b ∷ bs) fits (inl h) = quiet_begins_nothing at b bs h
plainly_begins_nothing at (b ∷ bs) fits (inr (inl h)) = digits_begin_nothing at b bs fits (h.0) (h.1)
plainly_begins_nothing at (b ∷ bs) fits (inr (inr h)) = mark_begins_nothing at b bs (h.0) (h.1)

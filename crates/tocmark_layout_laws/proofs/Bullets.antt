-- What a line begins that begins with a bullet and a space.
use Rattle.std.proofs.Common.{◌≡◌, ◌⊎◌, inl, inr, ℕ, suc, ◌+◌, ◌-◌, ◌^◌, ◌<◌, ◌≤◌, Bool, true, false, ◌==◌, ◌&&◌, ◌||◌, cond, nat_le, if◌then◌else◌, List, [], ◌∷◌, ◌++◌, length, drop, reverse, refl, ap, sym, subst, ◌∙◌, arith, append_assoc, length-append}
use Rattle.std.specs.Prelude.{Some, None, take_while}
use Rattle.std.specs.List.{AllByRecursion, fold}
use Rattle.std.proofs.lemmas.Bool.Decides.{nat_tests}
use Rattle.std.proofs.lemmas.List.{length-reverse, reverse-append}
use Rattle.std.proofs.lemmas.List.Sums.{take_while-cons}
use Rattle.tocmark_read_scan.proofs.PlainTests.{eq_of}
use Rattle.tocmark_read_lines.specs.Cells.{cell, cell_byte, count_of, first_cursor, trailing}
use Rattle.tocmark_read_lines.specs.Marks.{heading_at, is_behind, fence_at, is_fence_byte, tail_length, tail_of, is_rule, is_rule_byte, bullet_at, marker_at}
use Rattle.tocmark_read_lines.specs.declared.beginnings.Marker.{Marker}
use Rattle.tocmark_read_lines.specs.declared.cell.Cell.{Cell}
use Rattle.tocmark_read_blocks.proofs.PlainLines.{IsWithin, cells_within, numbered}
use Rattle.tocmark_commonmark.specs.Beginnings.{ItemLine, first_of_these, html_if, beginning, ItemMark, item_mark, item_mark_with, marker_spaces}
use Rattle.tocmark_commonmark.specs.Lines.{Part, is_blank_byte, is_blank, column_after, indent, after_ink, without_columns}
use Rattle.tocmark_layout_laws.proofs.Starts.{part_at, line_at}
use Rattle.tocmark_layout_laws.proofs.Fronts.{Inky, inky, flush, near}
use Rattle.tocmark_layout_laws.proofs.Items.{mark}

-- a bullet
abbrev pub IsBullet : ℕ → Type 0
IsBullet b = (b ≡ 42) ⊎ (b ≡ 43) ⊎ (b ≡ 45)

-- bytes with one that is neither this one nor a space
pub record Breaks (b : ℕ) (x : List ℕ) : Type 0 where
  pub before : List ℕ
  pub byte : ℕ
  pub after : List ℕ
  pub is : x ≡ before ++ byte ∷ after
  pub other : (byte == b) ≡ false
  pub space : (byte == 32) ≡ false

-- bytes after a bullet with which the line is no thematic break
abbrev pub IsNoRule : ℕ → List ℕ → Type 0
IsNoRule b x = (b ≡ 43) ⊎ (x ≡ []) ⊎ Breaks b x

numbered_both : (at : ℕ) (xs ys : List ℕ) → numbered at (xs ++ ys) ≡ numbered at xs ++ numbered (at + length xs) ys
numbered_both at [] ys = ap (λ n. numbered n ys) (let q : at ≡ at + 0 = omega arith in q)
numbered_both at (x ∷ xs) ys =
    ap (λ (cs : List Cell). cell x at ∷ cs) (numbered_both (at + 1) xs ys)
    ∙ ap (λ n. cell x at ∷ (numbered (at + 1) xs ++ numbered n ys)) (let n : ℕ = length xs in let q : at + 1 + n ≡ at + suc n = omega arith in q)

-- what passes a test ends before what fails it
short_before : (p : Cell → Bool) (xs : List Cell) (d : Cell) (ys : List Cell) → p d ≡ false → length (take_while p (xs ++ d ∷ ys)) ≤ length xs
short_before p [] d ys h =
    let q : length (take_while p (d ∷ ys)) ≡ 0 = ap (λ (xs : List Cell). length xs) (take_while-cons p d ys) ∙ ap (λ k. length (cond k (d ∷ take_while p ys) [])) h in
    omega (arith, q)
short_before p (x ∷ xs) d ys h =
    let same : length (take_while p (x ∷ (xs ++ d ∷ ys))) ≡ length (cond (p x) (x ∷ take_while p (xs ++ d ∷ ys)) []) = ap (λ (zs : List Cell). length zs) (take_while-cons p x (xs ++ d ∷ ys)) in
    let low : length (take_while p (xs ++ d ∷ ys)) ≤ length xs = short_before p xs d ys h in
    let by_test : length (cond (p x) (x ∷ take_while p (xs ++ d ∷ ys)) []) ≤ suc (length xs) = by (p x) low in
    omega (arith, same, by_test)
  where
    by : (k : Bool) → length (take_while p (xs ++ d ∷ ys)) ≤ length xs → length (cond k (x ∷ take_while p (xs ++ d ∷ ys)) []) ≤ suc (length xs)
    by true e = omega (arith, e)
    by false e = omega arith

turned : (xs : List Cell) (d : Cell) (ys : List Cell) → reverse (xs ++ d ∷ ys) ≡ reverse ys ++ d ∷ reverse xs
turned xs d ys =
    ap reverse (sym (append_assoc xs (d ∷ []) ys))
    ∙ reverse-append (xs ++ d ∷ []) ys
    ∙ ap (λ (zs : List Cell). reverse ys ++ zs) (reverse-append xs (d ∷ []))

-- the tail of a line doesn't reach its front
tail_short : (xs : List Cell) (d : Cell) (ys : List Cell) (b : ℕ) → (d.byte == 32) ≡ false → (d.byte == b) ≡ false → tail_length (xs ++ d ∷ ys) b < length (xs ++ d ∷ ys)
tail_short xs d ys b space other =
    let p : Cell → Bool = λ (c : Cell). (c.byte == 32) || (c.byte == b) in
    let fails : p d ≡ false = ap (λ k. k || (d.byte == b)) space ∙ other in
    let same : tail_length (xs ++ d ∷ ys) b ≡ length (take_while p (reverse ys ++ d ∷ reverse xs)) = ap (λ (zs : List Cell). length (take_while p zs)) (turned xs d ys) in
    let low : length (take_while p (reverse ys ++ d ∷ reverse xs)) ≤ length (reverse ys) = short_before p (reverse ys) d (reverse xs) fails in
    let back : length (reverse ys) ≡ length ys = length-reverse ys in
    let long : length (xs ++ d ∷ ys) ≡ length xs + length (d ∷ ys) = length-append xs (d ∷ ys) in
    omega (arith, same, low, back, long)

all_fail : (a m f z : Bool) → (m ≡ true → f ≡ false) → (((a && m) && f) && z) ≡ false
all_fail false m f z h = refl
all_fail true false f z h = refl
all_fail true true f z h = ap (λ k. k && z) (h refl)

tail_after : (b c : ℕ) (x : List ℕ) → Breaks b x → b ≡ c → tail_length (numbered 0 (b ∷ 32 ∷ x)) c < length (numbered 0 (b ∷ 32 ∷ x))
tail_after b c x h same =
    let before : List ℕ = b ∷ 32 ∷ h.before in
    let n : ℕ = 0 + length before in
    let cs : List Cell = numbered 0 before ++ cell h.byte n ∷ numbered (n + 1) h.after in
    let is : numbered 0 (b ∷ 32 ∷ x) ≡ cs = ap (λ (xs : List ℕ). numbered 0 (b ∷ 32 ∷ xs)) h.is ∙ numbered_both 0 before (h.byte ∷ h.after) in
    subst (λ (xs : List Cell). tail_length xs c < length xs) (sym is)
    (tail_short (numbered 0 before) (cell h.byte n) (numbered (n + 1) h.after) c h.space (ap (λ d. h.byte == d) (sym same) ∙ h.other))

-- a line with a byte that is neither a space nor the first one is no thematic break
broken : (b : ℕ) (x : List ℕ) → Breaks b x → is_rule (numbered 0 (b ∷ 32 ∷ x)) (tail_of (numbered 0 (b ∷ 32 ∷ x))) 0 ≡ false
unfolding is_rule tail_of
broken b x h =
    let cs : List Cell = numbered 0 (b ∷ 32 ∷ x) in
    let c : ℕ = cell_byte cs (length cs - trailing cs 32 - 1) in
    all_fail (is_rule_byte b) (b == c) (nat_le (length cs - tail_length cs c) 0) (nat_le 3 (count_of cs 0 b))
    (λ same. let low : tail_length cs c < length cs = tail_after b c x h (eq_of b c same) in grind (arith, low, nat_tests))

pub no_rule : (b : ℕ) (x : List ℕ) → IsBullet b → IsNoRule b x → is_rule (numbered 0 (b ∷ 32 ∷ x)) (tail_of (numbered 0 (b ∷ 32 ∷ x))) 0 ≡ false
unfolding is_rule is_rule_byte tail_of
no_rule b x bullet (inl e) = rw e refl
no_rule b x (inl e) (inr (inl f)) = rw (e, f) refl
no_rule b x (inr (inl e)) (inr (inl f)) = rw e refl
no_rule b x (inr (inr e)) (inr (inl f)) = rw (e, f) refl
no_rule b x bullet (inr (inr h)) = broken b x h

-- a bullet is a marker, and nothing else
abbrev bullet_of : ℕ → Marker
bullet_of b = record { sort = b; number = None; length = 1 }

record IsMarked (b : ℕ) (x : List ℕ) : Type 0 where
  quote : (b == 62) ≡ false
  heading : heading_at (numbered 0 (b ∷ 32 ∷ x)) 0 ≡ None
  fence : fence_at (numbered 0 (b ∷ 32 ∷ x)) (first_cursor (numbered 0 (b ∷ 32 ∷ x))) ≡ None
  html : (b == 60) ≡ false
  marker : marker_at (numbered 0 (b ∷ 32 ∷ x)) 0 ≡ Some (bullet_of b)
  inked : is_blank_byte b ≡ false

few_cells : (n : ℕ) → nat_le (suc (suc n)) 0 ≡ false
few_cells n = grind (arith, nat_tests)

one_cell : (n : ℕ) → nat_le (suc (suc n)) 1 ≡ false
one_cell n = grind (arith, nat_tests)

star_marked : (x : List ℕ) → IsMarked 42 x
unfolding heading_at is_behind fence_at is_fence_byte first_cursor marker_at bullet_at
star_marked x = record { quote = refl; heading = rw (few_cells (length (numbered 2 x))) refl; fence = refl; html = refl; marker = rw (one_cell (length (numbered 2 x))) refl; inked = refl }

plus_marked : (x : List ℕ) → IsMarked 43 x
unfolding heading_at is_behind fence_at is_fence_byte first_cursor marker_at bullet_at
plus_marked x = record { quote = refl; heading = rw (few_cells (length (numbered 2 x))) refl; fence = refl; html = refl; marker = rw (one_cell (length (numbered 2 x))) refl; inked = refl }

minus_marked : (x : List ℕ) → IsMarked 45 x
unfolding heading_at is_behind fence_at is_fence_byte first_cursor marker_at bullet_at
minus_marked x = record { quote = refl; heading = rw (few_cells (length (numbered 2 x))) refl; fence = refl; html = refl; marker = rw (one_cell (length (numbered 2 x))) refl; inked = refl }

marked : (b : ℕ) (x : List ℕ) → IsBullet b → IsMarked b x
marked b x (inl e) = subst (λ c. IsMarked c x) (sym e) (star_marked x)
marked b x (inr (inl e)) = subst (λ c. IsMarked c x) (sym e) (plus_marked x)
marked b x (inr (inr e)) = subst (λ c. IsMarked c x) (sym e) (minus_marked x)

pub bullet_inked : (b : ℕ) → IsBullet b → is_blank_byte b ≡ false
bullet_inked b h = (marked b [] h).inked

same_if : (k : Bool) (n : ℕ) → (if k then n else n) ≡ n
same_if true n = refl
same_if false n = refl

-- one space is after the bullet
one_space : (k : ℕ) (x : List ℕ) → take_while is_blank_byte x ≡ [] → marker_spaces (part_at (k + 1) (32 ∷ x)) ≡ 1
one_space k x h =
    let p : Part = part_at (k + 1) (32 ∷ x) in
    let front : take_while is_blank_byte (32 ∷ x) ≡ 32 ∷ [] = take_while-cons is_blank_byte 32 x ∙ ap (λ (xs : List ℕ). 32 ∷ xs) h in
    let one : indent p ≡ 1 = ap (λ (xs : List ℕ). 0 + (fold column_after (k + 1) xs - (k + 1))) front ∙ (let q : 0 + (k + 1 + 1 - (k + 1)) ≡ 1 = omega arith in q) in
    ap (λ n. if is_blank (32 ∷ x) || nat_le 5 n then 1 else n) one ∙ same_if (is_blank (32 ∷ x) || nat_le 5 1) 1

bullet_mark : (b k : ℕ) (x : List ℕ) → Inky (b ∷ 32 ∷ x) → take_while is_blank_byte x ≡ [] → item_mark (part_at k (b ∷ 32 ∷ x)) (bullet_of b) ≡ mark b k x (is_blank (32 ∷ x))
bullet_mark b k x i h =
    let p : Part = part_at k (b ∷ 32 ∷ x) in
    let rest : Part = part_at (k + 1) (32 ∷ x) in
    let after : after_ink 1 p ≡ rest = ap (λ (xs : List ℕ). part_at (fold column_after k xs + 1) (drop 1 (drop (length xs) (b ∷ 32 ∷ x)))) i.front in
    ap (item_mark_with p (bullet_of b)) after
    ∙ ap (λ n. item_mark_of n rest (marker_spaces rest)) (flush k (b ∷ 32 ∷ x) i)
    ∙ ap (item_mark_of 0 rest) (one_space k x h)
  where
    item_mark_of : ℕ → Part → ℕ → ItemMark
    item_mark_of n rest spaces = record { sort = b; number = None; width = n + 1 + spaces; first = without_columns spaces rest; is_empty = is_blank rest.bytes }

-- a line that begins with a bullet and a space begins an item
pub bullet_begins : (b : ℕ) (x : List ℕ) → IsBullet b → IsNoRule b x → take_while is_blank_byte x ≡ [] → AllByRecursion IsWithin (b ∷ 32 ∷ x) → length (b ∷ 32 ∷ x) < 2 ^ 64
    → (k : ℕ) → beginning (line_at k (b ∷ 32 ∷ x)) ≡ ItemLine (mark b k x (is_blank (32 ∷ x)))
bullet_begins b x bullet rule h within fits k =
    let l : List ℕ = b ∷ 32 ∷ x in
    let c : List Cell = numbered 0 l in
    let p : Part = part_at k l in
    let m : IsMarked b x = marked b x bullet in
    let i : Inky l = inky b (32 ∷ x) m.inked in
    near k l c i (cells_within 0 l within (omega (arith, fits)))
    ∙ ap (λ z. first_of_these p z (heading_at c 0) (fence_at c (first_cursor c)) (html_if (b == 60) l) (is_rule c (tail_of c) 0) (marker_at c 0)) m.quote
    ∙ ap (λ z. first_of_these p false z (fence_at c (first_cursor c)) (html_if (b == 60) l) (is_rule c (tail_of c) 0) (marker_at c 0)) m.heading
    ∙ ap (λ z. first_of_these p false None z (html_if (b == 60) l) (is_rule c (tail_of c) 0) (marker_at c 0)) m.fence
    ∙ ap (λ z. first_of_these p false None None (html_if z l) (is_rule c (tail_of c) 0) (marker_at c 0)) m.html
    ∙ ap (λ z. first_of_these p false None None None z (marker_at c 0)) (no_rule b x bullet rule)
    ∙ ap (λ z. first_of_these p false None None None false z) m.marker
    ∙ ap ItemLine (bullet_mark b k x i h)

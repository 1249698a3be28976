-- At which columns of a line something may begin: at its front, and after a byte of ASCII.
use Rattle.std.proofs.Common.{◌≡◌, ℕ, zero, suc, ◌+◌, ◌-◌, ◌^◌, ◌<◌, ◌≤◌, ◌⊎◌, inl, inr, Bool, true, false, not, ◌==◌, ◌&&◌, ◌||◌, cond, if◌then◌else◌, nat_lt, nat_le, List, [], ◌∷◌, length, drop, take, reverse, length-take, refl, ap, sym, ◌∙◌, subst, arith, true≢false}
use Rattle.std.specs.Prelude.{slice_get, slice_range, take_while, min, unwrap_or, Option, Some, None}
use Rattle.std.specs.Option.{option_map, option_map_or, option_or, option_and_then}
use Rattle.std.proofs.lemmas.Bool.Decides.{nat_tests}
use Rattle.std.proofs.lemmas.List.Sums.{take_while-cons}
use Rattle.std.proofs.lemmas.List.{get_or-reverse, length-drop, length-reverse}
use Rattle.std.proofs.lemmas.Option.{get_or_from_slice_get, slice_get-get_or, slice_get_past, slice_get_within}
use Rattle.tocmark_event.specs.declared.event.HeadingLevel.{HeadingLevel}
use Rattle.tocmark_read_scan.specs.Basic.{plus, bytes_between}
use Rattle.tocmark_read_scan.specs.declared.syntax.TheConstants.{CORE}
use Rattle.tocmark_read_lines.specs.Cells.{bytes_of, cell_byte, cell_place, first_cursor, indent_of, ink_from, is_blank_at, moved, run_of, trailing, trimmed}
use Rattle.tocmark_read_lines.specs.Containers.{after_quote, container_at, container_in, going_on, going_on_as, item_at, item_from, item_gap, item_goes_on, matched_from, may_interrupt, passed, stopped}
use Rattle.tocmark_read_lines.specs.DefinitionLists.{definition_start}
use Rattle.tocmark_read_lines.specs.Marks.{bullet_at, closes_fence, digit_count, fence_at, heading_at, heading_end_before, heading_from, is_behind, is_rule, level_of, marker_at, number_of, ordered_at, underline_at}
use Rattle.tocmark_read_lines.specs.Footnotes.{note_start}
use Rattle.tocmark_read_lines.specs.declared.beginnings.Fence.{Fence}
use Rattle.tocmark_read_lines.specs.declared.beginnings.Heading.{Heading}
use Rattle.tocmark_read_lines.specs.declared.beginnings.Marker.{Marker}
use Rattle.tocmark_read_lines.specs.declared.beginnings.Tail.{Tail}
use Rattle.tocmark_read_lines.specs.declared.cell.Cell.{Cell}
use Rattle.tocmark_read_lines.specs.declared.cell.Cursor.{Cursor}
use Rattle.tocmark_read_lines.specs.declared.container.Container.{Container}
use Rattle.tocmark_read_lines.specs.declared.container.Container.TheVariants as container
use Rattle.tocmark_read_lines.specs.declared.container.ContainerStart.TheVariants as begins
use Rattle.tocmark_read_lines.specs.declared.container.ItemStart.{ItemStart}
use Rattle.tocmark_read_lines.specs.declared.container.Opened.{Opened}
use Rattle.tocmark_read_lines.specs.declared.html.HtmlKind.{HtmlKind}
use Rattle.tocmark_read_lines.specs.declared.line.Line.{Line}
use Rattle.tocmark_read_page.specs.Pieces.{code_piece, heading_piece, is_split, piece_of, same_place}
use Rattle.tocmark_read_page.specs.declared.leaf.Leaf.{Leaf}
use Rattle.tocmark_read_page.specs.declared.leaf.Leaf.TheVariants as leaf
use Rattle.tocmark_read_blocks.specs.Leaves.{goes_past_blank, html_at, leaf_at, leaf_turn, mark_at, rule_at, underline_in}
use Rattle.tocmark_read_blocks.specs.declared.leaf.LeafStart.TheVariants as start
use Rattle.tocmark_read_blocks.specs.declared.leaf.Turn.TheVariants as turn
use Rattle.tocmark_text_laws.proofs.Leaves.{is_core}
use Rattle.tocmark_text_laws.proofs.Placed.{Held}
use Rattle.tocmark_text_laws.proofs.Walked.{Good, Begins, TurnsTo, Leads, Columns}

-- what is known of the columns of a line
pub record Grounded (P : ℕ → Type 0) (cs : List Cell) (line : Line) : Type 0 where
  pub few : length cs ≤ 2 ^ 64 - 1
  pub low : line.end < 2 ^ 64 - 1
  pub stops : P line.end
  pub next : P line.next
  pub onto : line.end ≤ line.next
  pub before : (c : ℕ) (x : Cell) → slice_get cs c ≡ Some x → x.byte < 128 → Good P cs line c
  pub rising : (c d : ℕ) → c ≤ d → cell_place cs c line.end ≤ cell_place cs d line.end
  pub within : (c : ℕ) → cell_place cs c line.end ≤ line.end
  pub front : Good P cs line 0
  pub ascii : (c : ℕ) (x : Cell) → slice_get cs c ≡ Some x → x.byte < 128 → Good P cs line (suc c)
  pub tabs : (c : ℕ) → suc c < length cs → cell_place cs c 0 ≡ cell_place cs (suc c) 0 → P (cell_place cs (suc c) line.end + 1) × (cell_place cs (suc c) line.end + 1 ≤ line.end)

-- a cursor at such a column, with such columns up to its ink
pub record Valid (P : ℕ → Type 0) (cs : List Cell) (line : Line) (cursor : Cursor) : Type 0 where
  pub column : Good P cs line cursor.column
  pub ink : Good P cs line cursor.ink
  pub between : (c : ℕ) → cursor.column ≤ c → c ≤ cursor.ink → Good P cs line c

pub get_drop : {A : Type 0} (c : ℕ) (xs : List A) (j : ℕ) → slice_get (drop c xs) j ≡ slice_get xs (c + j)
get_drop zero xs j = let e : j ≡ 0 + j = omega arith in ap (slice_get xs) e
get_drop (suc c) [] j = refl
get_drop (suc c) (x ∷ xs) j = let e : suc (c + j) ≡ suc c + j = omega arith in get_drop c xs j ∙ ap (slice_get (x ∷ xs)) e

in_while : (p : Cell → Bool) (xs : List Cell) (j : ℕ) → j < length (take_while p xs) → (x : Cell) × (slice_get xs j ≡ Some x) × (p x ≡ true)
in_while p [] j h = absurd (omega arith)
in_while p (y ∷ ys) j h = by (p y) refl j (subst (λ (zs : List Cell). j < length zs) (take_while-cons p y ys) h) (λ k q. in_while p ys k q)
  where
    by : (b : Bool) → p y ≡ b → (k : ℕ) → k < length (cond b (y ∷ take_while p ys) []) → ((i : ℕ) → i < length (take_while p ys) → (x : Cell) × (slice_get ys i ≡ Some x) × (p x ≡ true)) → (x : Cell) × (slice_get (y ∷ ys) k ≡ Some x) × (p x ≡ true)
    by true e zero q f = (y, refl, e)
    by true e (suc k) q f = f k (omega arith)
    by false e k q f = absurd (omega arith)

got_run : (cs : List Cell) (c b k : ℕ) → k < run_of cs c b → (x : Cell) × (slice_get cs (c + k) ≡ Some x) × (x.byte ≡ b)
got_run cs c b k h = by (in_while (λ (x : Cell). x.byte == b) (drop c cs) k h)
  where
    by : (x : Cell) × (slice_get (drop c cs) k ≡ Some x) × ((x.byte == b) ≡ true) → (x : Cell) × (slice_get cs (c + k) ≡ Some x) × (x.byte ≡ b)
    by (x, e, q) = (x, sym (get_drop c cs k) ∙ e, grind (arith, nat_tests))

past_good : (P : ℕ → Type 0) (cs : List Cell) (line : Line) → Grounded P cs line → (c : ℕ) → length cs ≤ c → Good P cs line c
past_good P cs line g c h = subst (λ o. P (option_map_or (λ (x : Cell). x.at) o line.end)) (sym (slice_get_past cs c h)) g.stops

plus_good : (P : ℕ → Type 0) (cs : List Cell) (line : Line) → Grounded P cs line → (a b : ℕ) → Good P cs line (a + b) → Good P cs line (plus a b)
plus_good P cs line g a b h = by (nat_le (a + b) (2 ^ 64 - 1)) refl
  where
    by : (x : Bool) → nat_le (a + b) (2 ^ 64 - 1) ≡ x → Good P cs line (plus a b)
    by true e = let w : a + b ≤ 2 ^ 64 - 1 = grind (arith, nat_tests) in let q : a + b ≡ plus a b = omega arith in subst (Good P cs line) q h
    by false e = let w : 2 ^ 64 - 1 < a + b = grind (arith, nat_tests) in let f : length cs ≤ 2 ^ 64 - 1 = g.few in past_good P cs line g (plus a b) (omega arith)

run_good : (P : ℕ → Type 0) (cs : List Cell) (line : Line) → Grounded P cs line → (c b k : ℕ) → b < 128 → Good P cs line c → k ≤ run_of cs c b → Good P cs line (c + k)
run_good P cs line g c b zero h p q = let e : c ≡ c + 0 = omega arith in subst (Good P cs line) e p
run_good P cs line g c b (suc k) h p q = by (got_run cs c b k (omega arith))
  where
    by : (x : Cell) × (slice_get cs (c + k) ≡ Some x) × (x.byte ≡ b) → Good P cs line (c + suc k)
    by (x, e, w) = let n : suc (c + k) ≡ c + suc k = omega arith in subst (Good P cs line) n (g.ascii (c + k) x e (omega arith))

ink_good : (P : ℕ → Type 0) (cs : List Cell) (line : Line) → Grounded P cs line → (c : ℕ) → Good P cs line c → Good P cs line (ink_from cs c)
ink_good P cs line g c p = plus_good P cs line g c (run_of cs c 32) (run_good P cs line g c 32 (run_of cs c 32) (omega arith) p (omega arith))

from_good : (P : ℕ → Type 0) (cs : List Cell) (line : Line) → Grounded P cs line → (c d : ℕ) → Good P cs line c → c ≤ d → d ≤ ink_from cs c → Good P cs line d
from_good P cs line g c d p h k = let e : c + (d - c) ≡ d = omega arith in subst (Good P cs line) e (run_good P cs line g c 32 (d - c) (omega arith) p (omega arith))

valid_from : (P : ℕ → Type 0) (cs : List Cell) (line : Line) → Grounded P cs line → (c : ℕ) → Good P cs line c → Valid P cs line (record { column = c; ink = ink_from cs c })
valid_from P cs line g c p = record { column = p; ink = ink_good P cs line g c p; between = λ d h k. from_good P cs line g c d p h k }

-- a column that is not before the cursor's, or after the line
abbrev Onward : List Cell → Cursor → ℕ → Type 0
Onward cs cursor c = (cursor.column ≤ c) ⊎ ((length cs ≤ c) ⊎ (cursor.ink < c))

moved_valid : (P : ℕ → Type 0) (cs : List Cell) (line : Line) → Grounded P cs line → (cursor : Cursor) (c : ℕ) → Valid P cs line cursor → Good P cs line c → Onward cs cursor c → Valid P cs line (moved cs cursor c)
unfolding moved
moved_valid P cs line g cursor c v p o = by (nat_le c cursor.ink) refl
  where
    later : (d : ℕ) → c ≤ cursor.ink → c ≤ d → d ≤ cursor.ink → Onward cs cursor c → Good P cs line d
    later d h k m (inl q) = v.between d (omega arith) m
    later d h k m (inr (inl q)) = past_good P cs line g d (omega arith)
    later d h k m (inr (inr q)) = absurd (omega arith)

    by : (x : Bool) → nat_le c cursor.ink ≡ x → Valid P cs line (record { column = c; ink = (if x then cursor.ink else ink_from cs c) })
    by true e = let w : c ≤ cursor.ink = grind (arith, nat_tests) in record { column = p; ink = v.ink; between = λ d h k. later d w h k o }
    by false e = valid_from P cs line g c p

next_good : (P : ℕ → Type 0) (cs : List Cell) (line : Line) → Grounded P cs line → (c b : ℕ) → cell_byte cs c ≡ b → 10 < b → b < 128 → Good P cs line (suc c)
next_good P cs line g c b h k m = by (slice_get cs c) refl h
  where
    by : (o : Option Cell) → slice_get cs c ≡ o → option_map_or (λ (x : Cell). x.byte) o 10 ≡ b → Good P cs line (suc c)
    by None e q = absurd (omega arith)
    by (Some x) e q = g.ascii c x e (omega arith)

after_good : (P : ℕ → Type 0) (cs : List Cell) (line : Line) → Grounded P cs line → (c b : ℕ) → cell_byte cs c ≡ b → 10 < b → b < 128 → Good P cs line (plus c 1)
after_good P cs line g c b h k m = let e : suc c ≡ c + 1 = omega arith in plus_good P cs line g c 1 (subst (Good P cs line) e (next_good P cs line g c b h k m))

-- a later column lies after the cursor's ink, or after the line
onward : (P : ℕ → Type 0) (cs : List Cell) (line : Line) → Grounded P cs line → (cursor : Cursor) (c : ℕ) → (cursor.ink < 2 ^ 64 - 1 → cursor.ink < c) → (2 ^ 64 - 1 ≤ cursor.ink → 2 ^ 64 - 1 ≤ c) → Onward cs cursor c
onward P cs line g cursor c h k = by (nat_lt cursor.ink (2 ^ 64 - 1)) refl
  where
    by : (x : Bool) → nat_lt cursor.ink (2 ^ 64 - 1) ≡ x → Onward cs cursor c
    by true e = let w : cursor.ink < 2 ^ 64 - 1 = grind (arith, nat_tests) in inr (inr (h w))
    by false e = let w : 2 ^ 64 - 1 ≤ cursor.ink = grind (arith, nat_tests) in let q : 2 ^ 64 - 1 ≤ c = k w in let f : length cs ≤ 2 ^ 64 - 1 = g.few in inr (inl (omega arith))

quote_valid : (P : ℕ → Type 0) (cs : List Cell) (line : Line) → Grounded P cs line → (cursor : Cursor) → Valid P cs line cursor → cell_byte cs cursor.ink ≡ 62 → Valid P cs line (after_quote cs cursor)
unfolding after_quote
quote_valid P cs line g cursor v h = by (cell_byte cs behind == 32) refl
  where
    behind : ℕ
    behind = plus cursor.ink 1

    by : (x : Bool) → (cell_byte cs behind == 32) ≡ x → Valid P cs line (if x then moved cs cursor (plus behind 1) else moved cs cursor behind)
    by true e =
        let w : cell_byte cs behind ≡ 32 = grind (arith, nat_tests) in
        moved_valid P cs line g cursor (plus (plus cursor.ink 1) 1) v (after_good P cs line g (plus cursor.ink 1) 32 w (omega arith) (omega arith)) (onward P cs line g cursor (plus (plus cursor.ink 1) 1) (λ q. omega arith) (λ q. omega arith))
    by false e = moved_valid P cs line g cursor (plus cursor.ink 1) v (after_good P cs line g cursor.ink 62 h (omega arith) (omega arith)) (onward P cs line g cursor (plus cursor.ink 1) (λ q. omega arith) (λ q. omega arith))

-- a column within the spaces at a cursor
indent_good : (P : ℕ → Type 0) (cs : List Cell) (line : Line) → Grounded P cs line → (cursor : Cursor) (k : ℕ) → Valid P cs line cursor → k ≤ indent_of cursor → Good P cs line (plus cursor.column k)
indent_good P cs line g cursor zero v h = let e : cursor.column ≡ cursor.column + 0 = omega arith in plus_good P cs line g cursor.column 0 (subst (Good P cs line) e v.column)
indent_good P cs line g cursor (suc k) v h = plus_good P cs line g cursor.column (suc k) (v.between (cursor.column + suc k) (omega arith) (omega arith))

-- the column that far is not before the cursor's, or it is after the line
indent_onward : (P : ℕ → Type 0) (cs : List Cell) (line : Line) → Grounded P cs line → (cursor : Cursor) (k : ℕ) → Onward cs cursor (plus cursor.column k)
indent_onward P cs line g cursor k = by (nat_le (cursor.column + k) (2 ^ 64 - 1)) refl
  where
    by : (x : Bool) → nat_le (cursor.column + k) (2 ^ 64 - 1) ≡ x → Onward cs cursor (plus cursor.column k)
    by true e = let w : cursor.column + k ≤ 2 ^ 64 - 1 = grind (arith, nat_tests) in inl (omega arith)
    by false e = let w : 2 ^ 64 - 1 < cursor.column + k = grind (arith, nat_tests) in let f : length cs ≤ 2 ^ 64 - 1 = g.few in inr (inl (omega arith))

-- a column, or the end of the line where it is after that
min_good : (P : ℕ → Type 0) (cs : List Cell) (line : Line) → Grounded P cs line → (c : ℕ) → Good P cs line c → Good P cs line (min c (length cs))
min_good P cs line g c p = by (nat_le c (length cs)) refl
  where
    by : (x : Bool) → nat_le c (length cs) ≡ x → Good P cs line (min c (length cs))
    by true e = let w : c ≤ length cs = grind (arith, nat_tests) in let q : c ≡ min c (length cs) = omega arith in subst (Good P cs line) q p
    by false e = let w : length cs < c = grind (arith, nat_tests) in past_good P cs line g (min c (length cs)) (omega arith)

-- the line ends here, or a space is here
behind_good : (P : ℕ → Type 0) (cs : List Cell) (line : Line) → Grounded P cs line → (c : ℕ) → is_behind cs c ≡ true → Good P cs line (plus c 1)
unfolding is_behind
behind_good P cs line g c h = by (nat_le (length cs) c) (cell_byte cs c == 32) refl refl h
  where
    by : (x y : Bool) → nat_le (length cs) c ≡ x → (cell_byte cs c == 32) ≡ y → x || y ≡ true → Good P cs line (plus c 1)
    by true y e k q = let w : length cs ≤ c = grind (arith, nat_tests) in let f : length cs ≤ 2 ^ 64 - 1 = g.few in past_good P cs line g (plus c 1) (omega arith)
    by false true e k q = let w : cell_byte cs c ≡ 32 = grind (arith, nat_tests) in after_good P cs line g c 32 w (omega arith) (omega arith)
    by false false e k q = absurd (true≢false (sym q))

-- after the marker of an item and the gap after it
gap_good : (P : ℕ → Type 0) (cs : List Cell) (line : Line) → Grounded P cs line → (c : ℕ) (empty : Bool) → is_behind cs c ≡ true → Good P cs line c → Good P cs line (min (plus c (item_gap empty (ink_from cs c - c))) (length cs))
unfolding item_gap
gap_good P cs line g c empty h p = min_good P cs line g (plus c (item_gap empty spaces)) (by (empty || nat_le 5 spaces))
  where
    spaces : ℕ
    spaces = ink_from cs c - c

    by : (x : Bool) → Good P cs line (plus c (if x then 1 else spaces))
    by true = behind_good P cs line g c h
    by false = plus_good P cs line g c (ink_from cs c - c) (run_good P cs line g c 32 (ink_from cs c - c) (omega arith) p (omega arith))

-- what is known of the marker of an item
record Marked (P : ℕ → Type 0) (cs : List Cell) (line : Line) (c : ℕ) (m : Marker) : Type 0 where
  some : 1 ≤ m.length
  behind : is_behind cs (plus c m.length) ≡ true
  good : Good P cs line (plus c m.length)

-- nothing, or a marker that is one
abbrev MayMark : (ℕ → Type 0) → List Cell → Line → ℕ → Option Marker → Type 0
MayMark P cs line c None = Unit
MayMark P cs line c (Some m) = Marked P cs line c m

first_true : (a b : Bool) → a && b ≡ true → a ≡ true
first_true true b h = refl
first_true false b h = h

second_true : (a b : Bool) → a && b ≡ true → b ≡ true
second_true true b h = h
second_true false b h = absurd (true≢false (sym h))

either : (a b : Bool) → a || b ≡ true → (a ≡ true) ⊎ (b ≡ true)
either true b h = inl refl
either false b h = inr h

bullet_marked : (P : ℕ → Type 0) (cs : List Cell) (line : Line) → Grounded P cs line → (c : ℕ) → MayMark P cs line c (bullet_at cs c)
unfolding bullet_at
bullet_marked P cs line g c = by (((b == 45) || (b == 43) || (b == 42)) && is_behind cs (plus c 1)) refl
  where
    b : ℕ
    b = cell_byte cs c

    sign : (n : ℕ) → (n == 45) || (n == 43) || (n == 42) ≡ true → (10 < n) × (n < 128)
    sign n h = one (either ((n == 45) || (n == 43)) (n == 42) h)
      where
        is : (k : ℕ) → (n == k) ≡ true → 10 < k → k < 128 → (10 < n) × (n < 128)
        is k e l m = let w : n ≡ k = grind (arith, nat_tests) in (omega arith, omega arith)

        two : ((n == 45) ≡ true) ⊎ ((n == 43) ≡ true) → (10 < n) × (n < 128)
        two (inl e) = is 45 e (omega arith) (omega arith)
        two (inr e) = is 43 e (omega arith) (omega arith)

        one : ((n == 45) || (n == 43) ≡ true) ⊎ ((n == 42) ≡ true) → (10 < n) × (n < 128)
        one (inl e) = two (either (n == 45) (n == 43) e)
        one (inr e) = is 42 e (omega arith) (omega arith)

    by : (x : Bool) → (((b == 45) || (b == 43) || (b == 42)) && is_behind cs (plus c 1)) ≡ x → MayMark P cs line c (if x then Some (record { sort = b; number = None; length = 1 }) else None)
    by true e =
        let w : (10 < b) × (b < 128) = sign b (first_true ((b == 45) || (b == 43) || (b == 42)) (is_behind cs (plus c 1)) e) in
        record { some = omega arith; behind = second_true ((b == 45) || (b == 43) || (b == 42)) (is_behind cs (plus c 1)) e; good = after_good P cs line g c b refl (w.0) (w.1) }
    by false e = tt

ordered_marked : (P : ℕ → Type 0) (cs : List Cell) (line : Line) → Grounded P cs line → (c : ℕ) → MayMark P cs line c (ordered_at cs c)
unfolding ordered_at
ordered_marked P cs line g c = by (digits && nat_le count 9 && is_sort sort && is_behind cs (plus (plus c count) 1)) refl
  where
    count : ℕ
    count = digit_count cs c

    digits : Bool
    digits = nat_le 1 count

    sort : ℕ
    sort = cell_byte cs (plus c count)

    is_sort : ℕ → Bool
    is_sort n = (n == 46) || (n == 41)

    sign : (n : ℕ) → (n == 46) || (n == 41) ≡ true → (10 < n) × (n < 128)
    sign n h = one (either (n == 46) (n == 41) h)
      where
        one : ((n == 46) ≡ true) ⊎ ((n == 41) ≡ true) → (10 < n) × (n < 128)
        one (inl e) = let w : n ≡ 46 = grind (arith, nat_tests) in (omega arith, omega arith)
        one (inr e) = let w : n ≡ 41 = grind (arith, nat_tests) in (omega arith, omega arith)

    same : plus (plus c count) 1 ≡ plus c (plus count 1)
    same = omega arith

    marks : (n : ℕ) → (nat_le 1 count && nat_le count 9 && ((sort == 46) || (sort == 41)) && is_behind cs (plus (plus c count) 1)) ≡ true → Marked P cs line c (record { sort = sort; number = Some n; length = plus count 1 })
    marks n e =
        let b : is_behind cs (plus (plus c count) 1) ≡ true = second_true (nat_le 1 count && nat_le count 9 && ((sort == 46) || (sort == 41))) (is_behind cs (plus (plus c count) 1)) e in
        let a : nat_le 1 count && nat_le count 9 && ((sort == 46) || (sort == 41)) ≡ true = first_true (nat_le 1 count && nat_le count 9 && ((sort == 46) || (sort == 41))) (is_behind cs (plus (plus c count) 1)) e in
        let w : (10 < sort) × (sort < 128) = sign sort (second_true (nat_le 1 count && nat_le count 9) ((sort == 46) || (sort == 41)) a) in
        record {
          some = omega arith;
          behind = subst (λ k. is_behind cs k ≡ true) same b;
          good = subst (Good P cs line) same (after_good P cs line g (plus c count) sort refl (w.0) (w.1));
        }

    by : (x : Bool) → (nat_le 1 count && nat_le count 9 && ((sort == 46) || (sort == 41)) && is_behind cs (plus (plus c count) 1)) ≡ x
        → MayMark P cs line c (if x then Some (record { sort = sort; number = Some (number_of (bytes_between (bytes_of cs) c (plus c count))); length = plus count 1 }) else None)
    by true e = marks (number_of (bytes_between (bytes_of cs) c (plus c count))) e
    by false e = tt

marker_marked : (P : ℕ → Type 0) (cs : List Cell) (line : Line) → Grounded P cs line → (c : ℕ) → MayMark P cs line c (marker_at cs c)
unfolding marker_at
marker_marked P cs line g c = by (bullet_at cs c) (bullet_marked P cs line g c)
  where
    by : (o : Option Marker) → MayMark P cs line c o → MayMark P cs line c (option_or o (ordered_at cs c))
    by None h = ordered_marked P cs line g c
    by (Some m) h = h

-- nothing, or an item after whose marker a cursor may be
abbrev MayBe : (ℕ → Type 0) → List Cell → Line → Cursor → Option ItemStart → Type 0
MayBe P cs line cursor None = Unit
MayBe P cs line cursor (Some i) = Valid P cs line (moved cs cursor i.next)

item_onward : (P : ℕ → Type 0) (cs : List Cell) (line : Line) → Grounded P cs line → (cursor : Cursor) (size gap : ℕ) → 1 ≤ size → Onward cs cursor (min (plus (plus cursor.ink size) gap) (length cs))
item_onward P cs line g cursor size gap h = by (nat_le (length cs) (plus (plus cursor.ink size) gap)) refl
  where
    by : (x : Bool) → nat_le (length cs) (plus (plus cursor.ink size) gap) ≡ x → Onward cs cursor (min (plus (plus cursor.ink size) gap) (length cs))
    by true e = let w : length cs ≤ plus (plus cursor.ink size) gap = grind (arith, nat_tests) in inr (inl (omega arith))
    by false e =
        let w : plus (plus cursor.ink size) gap < length cs = grind (arith, nat_tests) in
        let f : length cs ≤ 2 ^ 64 - 1 = g.few in
        onward P cs line g cursor (min (plus (plus cursor.ink size) gap) (length cs)) (λ q. omega arith) (λ q. omega arith)

item_may : (P : ℕ → Type 0) (cs : List Cell) (line : Line) → Grounded P cs line → (cursor : Cursor) (p : Bool) → Valid P cs line cursor → MayBe P cs line cursor (item_at cs cursor p)
unfolding item_at
item_may P cs line g cursor p v = by (marker_at cs cursor.ink) (marker_marked P cs line g cursor.ink)
  where
    made : (m : Marker) → Marked P cs line cursor.ink m → (x : Bool) → MayBe P cs line cursor (if x then None else Some (record {
      sort = m.sort;
      number = m.number;
      width = plus (indent_of cursor) (plus m.length (item_gap (nat_le (length cs) (ink_from cs (plus cursor.ink m.length))) (ink_from cs (plus cursor.ink m.length) - plus cursor.ink m.length)));
      next = min (plus (plus cursor.ink m.length) (item_gap (nat_le (length cs) (ink_from cs (plus cursor.ink m.length))) (ink_from cs (plus cursor.ink m.length) - plus cursor.ink m.length))) (length cs);
    }))
    made m k true = tt
    made m k false = moved_valid P cs line g cursor (min (plus (plus cursor.ink m.length) (item_gap (nat_le (length cs) (ink_from cs (plus cursor.ink m.length))) (ink_from cs (plus cursor.ink m.length) - plus cursor.ink m.length))) (length cs)) v
        (gap_good P cs line g (plus cursor.ink m.length) (nat_le (length cs) (ink_from cs (plus cursor.ink m.length))) k.behind k.good)
        (item_onward P cs line g cursor m.length (item_gap (nat_le (length cs) (ink_from cs (plus cursor.ink m.length))) (ink_from cs (plus cursor.ink m.length) - plus cursor.ink m.length)) k.some)

    by : (o : Option Marker) → MayMark P cs line cursor.ink o → MayBe P cs line cursor (option_and_then (item_from cs cursor p) o)
    by None h = tt
    by (Some m) h = made m h (p && not (may_interrupt (nat_le (length cs) (ink_from cs (plus cursor.ink m.length))) m))

containers_lead : (P : ℕ → Type 0) (cs : List Cell) (line : Line) → Grounded P cs line → (tail : Tail) (cursor : Cursor) (p : Bool) → Valid P cs line cursor → Leads (Valid P cs line) cs cursor (container_in CORE cs tail cursor p)
unfolding container_in container_at definition_start note_start
containers_lead P cs line g tail cursor p v = by (is_blank_at cs cursor || nat_le 4 (indent_of cursor)) (cell_byte cs cursor.ink == 62) refl (is_rule cs tail cursor.ink) (item_at cs cursor p) (item_may P cs line g cursor p v)
  where
    by : (a b : Bool) → (cell_byte cs cursor.ink == 62) ≡ b → (d : Bool) (o : Option ItemStart) → MayBe P cs line cursor o → Leads (Valid P cs line) cs cursor (if a then None else (if b then Some begins.Quote else (if d then None else option_map (λ i. begins.Item i) o)))
    by true b e d o h = tt
    by false true e d o h = let w : cell_byte cs cursor.ink ≡ 62 = grind (arith, nat_tests) in quote_valid P cs line g cursor v w
    by false false e true o h = tt
    by false false e false None h = tt
    by false false e false (Some i) h = h

-- the rest of a line as code
held_code : (P : ℕ → Type 0) (cs : List Cell) (line : Line) → Grounded P cs line → (c : ℕ) → Good P cs line c → Held P line.end (code_piece cs c line)
unfolding code_piece is_split
held_code P cs line g c p = by (nat_lt 0 c) (nat_lt c (length cs)) (cell_place cs (c - 1) 0 == cell_place cs c 0) refl refl refl
  where
    at : ℕ
    at = cell_place cs c line.end

    inner : (d : ℕ) → suc d ≡ c → c < length cs → cell_place cs (c - 1) 0 ≡ cell_place cs c 0 → P (at + 1) × (at + 1 ≤ line.end)
    inner d e h k = subst (λ n. P (cell_place cs n line.end + 1) × (cell_place cs n line.end + 1 ≤ line.end)) e (g.tabs d (omega arith) (first ∙ k ∙ ap (λ n. cell_place cs n 0) (sym e)))
      where
        first : cell_place cs d 0 ≡ cell_place cs (c - 1) 0
        first = let w : d ≡ c - 1 = omega arith in ap (λ n. cell_place cs n 0) w

    whole : Held P line.end (piece_of 0 at line.end line.next)
    whole = record { begins = p; before = g.within c; stops = g.next; ordered = let a : at ≤ line.end = g.within c in let b : line.end ≤ line.next = g.onto in omega arith; ends = g.stops; forward = g.within c; onto = g.onto; spaces = λ h. absurd (omega arith) }

    after : (n : ℕ) → P (at + 1) × (at + 1 ≤ line.end) → Held P line.end (piece_of n (plus at 1) line.end line.next)
    after n h = let l : line.end < 2 ^ 64 - 1 = g.low in let k : at + 1 ≤ line.end = h.1 in let e : at + 1 ≡ plus at 1 = omega arith in let b : line.end ≤ line.next = g.onto in let q : at ≡ plus at 1 - 1 = omega arith in record { begins = subst P e (h.0); before = omega arith; stops = g.next; ordered = omega arith; ends = g.stops; forward = omega arith; onto = b; spaces = λ s. subst P q p }

    by : (x y z : Bool) → nat_lt 0 c ≡ x → nat_lt c (length cs) ≡ y → (cell_place cs (c - 1) 0 == cell_place cs c 0) ≡ z
        → Held P line.end (if x && y && z then piece_of (same_place cs c at) (plus at 1) line.end line.next else piece_of 0 at line.end line.next)
    by false y z h k m = whole
    by true false z h k m = whole
    by true true false h k m = whole
    by true true true h k m =
        let a : 0 < c = grind (arith, nat_tests) in
        let b : c < length cs = grind (arith, nat_tests) in
        let q : cell_place cs (c - 1) 0 ≡ cell_place cs c 0 = grind (arith, nat_tests) in
        after (same_place cs c at) (inner (c - 1) (omega arith) b q)

got_front_of : (k : ℕ) (xs : List Cell) (i : ℕ) (x : Cell) → slice_get (take k xs) i ≡ Some x → slice_get xs i ≡ Some x
got_front_of zero xs i x e = absurd cc
got_front_of (suc k) [] i x e = e
got_front_of (suc k) (y ∷ ys) zero x e = e
got_front_of (suc k) (y ∷ ys) (suc i) x e = got_front_of k ys i x e

while_short : (p : Cell → Bool) (xs : List Cell) → length (take_while p xs) ≤ length xs
while_short p [] = omega arith
while_short p (y ∷ ys) = subst (λ (zs : List Cell). length zs ≤ suc (length ys)) (sym (take_while-cons p y ys)) (by (p y) (while_short p ys))
  where
    by : (b : Bool) → length (take_while p ys) ≤ length ys → length (cond b (y ∷ take_while p ys) []) ≤ suc (length ys)
    by true h = omega arith
    by false h = omega arith

-- the columns at the end of a list that have a byte
trailing_short : (cs : List Cell) (b : ℕ) → trailing cs b ≤ length cs
trailing_short cs b = let w : length (reverse cs) ≡ length cs = length-reverse cs in let q : trailing cs b ≤ length (reverse cs) = while_short (λ (x : Cell). x.byte == b) (reverse cs) in omega arith

got_back : (xs : List Cell) (k : ℕ) (x : Cell) → slice_get (reverse xs) k ≡ Some x → slice_get xs (length xs - 1 - k) ≡ Some x
got_back xs k x e =
    let w : length (reverse xs) ≡ length xs = length-reverse xs in
    let h : k < length (reverse xs) = slice_get_within (reverse xs) k x e in
    slice_get-get_or xs (length xs - 1 - k) x (omega arith) ∙ ap (λ y. Some y) (sym (get_or-reverse xs k x (omega arith)) ∙ get_or_from_slice_get (reverse xs) k x x e)

got_trailing : (xs : List Cell) (b : ℕ) → 1 ≤ trailing xs b → (x : Cell) × (slice_get xs (length xs - trailing xs b) ≡ Some x) × (x.byte ≡ b)
got_trailing xs b h = by (in_while (λ (x : Cell). x.byte == b) (reverse xs) (trailing xs b - 1) (omega arith))
  where
    by : (x : Cell) × (slice_get (reverse xs) (trailing xs b - 1) ≡ Some x) × ((x.byte == b) ≡ true) → (x : Cell) × (slice_get xs (length xs - trailing xs b) ≡ Some x) × (x.byte ≡ b)
    by (x, e, q) =
        let s : trailing xs b ≤ length xs = trailing_short xs b in
        let n : length xs - 1 - (trailing xs b - 1) ≡ length xs - trailing xs b = omega arith in
        (x, ap (slice_get xs) (sym n) ∙ got_back xs (trailing xs b - 1) x e, grind (arith, nat_tests))

-- a column at which a text may end that begins at another
record Ends (P : ℕ → Type 0) (cs : List Cell) (line : Line) (from to : ℕ) : Type 0 where
  good : Good P cs line to
  before : to ≤ length cs
  after : min from (length cs) ≤ to

trimmed_ends : (P : ℕ → Type 0) (cs : List Cell) (line : Line) → Grounded P cs line → (from to b : ℕ) → b < 128 → Ends P cs line from to → Ends P cs line from (trimmed cs from to b)
unfolding trimmed
trimmed_ends P cs line g from to b k h = by (nat_le from to) (nat_le to (length cs)) refl refl
  where
    whole : (n : ℕ) → n ≡ 0 → Ends P cs line from (to - n)
    whole n e = let q : to ≡ to - n = omega arith in subst (Ends P cs line from) q h

    xs : List Cell
    xs = take (to - from) (drop from cs)

    size : from ≤ to → length xs ≡ to - from
    size l = let w : length xs ≡ min (to - from) (length (drop from cs)) = length-take (to - from) (drop from cs) in let q : length (drop from cs) ≡ length cs - from = length-drop from cs in let c : to ≤ length cs = h.before in omega arith

    some : from ≤ to → 1 ≤ trailing xs b → Ends P cs line from (to - trailing xs b)
    some l r = found (got_trailing xs b r)
      where
        found : (x : Cell) × (slice_get xs (length xs - trailing xs b) ≡ Some x) × (x.byte ≡ b) → Ends P cs line from (to - trailing xs b)
        found (x, e, q) =
            let n : length xs ≡ to - from = size l in
            let m : trailing xs b ≤ length xs = trailing_short xs b in
            let c : to ≤ length cs = h.before in
            let w : from + (length xs - trailing xs b) ≡ to - trailing xs b = omega arith in
            let got : slice_get cs (to - trailing xs b) ≡ Some x = ap (slice_get cs) (sym w) ∙ sym (get_drop from cs (length xs - trailing xs b)) ∙ got_front_of (to - from) (drop from cs) (length xs - trailing xs b) x e in
            record { good = g.before (to - trailing xs b) x got (omega arith); before = omega arith; after = omega arith }

    both : from ≤ to → (z : Bool) → nat_le 1 (trailing xs b) ≡ z → Ends P cs line from (to - trailing xs b)
    both l true e = let r : 1 ≤ trailing xs b = grind (arith, nat_tests) in some l r
    both l false e = let r : trailing xs b < 1 = grind (arith, nat_tests) in whole (trailing xs b) (omega arith)

    by : (x y : Bool) → nat_le from to ≡ x → nat_le to (length cs) ≡ y → Ends P cs line from (to - trailing (if x && y then slice_range cs from to else []) b)
    by false y e f = whole 0 refl
    by true false e f = whole 0 refl
    by true true e f = let l : from ≤ to = grind (arith, nat_tests) in both l (nat_le 1 (trailing xs b)) refl

pub past_place : (cs : List Cell) (c e : ℕ) → length cs ≤ c → e ≡ cell_place cs c e
past_place cs c e h = ap (λ o. option_map_or (λ (x : Cell). x.at) o e) (sym (slice_get_past cs c h))

ends_after : (P : ℕ → Type 0) (cs : List Cell) (line : Line) → Grounded P cs line → (from to : ℕ) → Ends P cs line from to → cell_place cs from line.end ≤ cell_place cs to line.end
ends_after P cs line g from to h = by (nat_le from to) refl
  where
    by : (x : Bool) → nat_le from to ≡ x → cell_place cs from line.end ≤ cell_place cs to line.end
    by true e = let l : from ≤ to = grind (arith, nat_tests) in g.rising from to l
    by false e =
        let l : to < from = grind (arith, nat_tests) in
        let a : min from (length cs) ≤ to = h.after in
        let q : line.end ≡ cell_place cs to line.end = past_place cs to line.end (omega arith) in
        let w : cell_place cs from line.end ≤ line.end = g.within from in
        omega arith

-- where the text of a heading ends
heading_ends : (P : ℕ → Type 0) (cs : List Cell) (line : Line) → Grounded P cs line → (from : ℕ)
    → Good P cs line (heading_end_before cs from (length cs)) × (cell_place cs from line.end ≤ cell_place cs (heading_end_before cs from (length cs)) line.end)
unfolding heading_end_before
heading_ends P cs line g from = by (nat_le open_end from || (cell_byte cs (open_end - 1) == 32))
  where
    whole : ℕ
    whole = trimmed cs from (length cs) 32

    open_end : ℕ
    open_end = trimmed cs from whole 35

    first : Ends P cs line from whole
    first = trimmed_ends P cs line g from (length cs) 32 (omega arith) (record { good = past_good P cs line g (length cs) (omega arith); before = omega arith; after = omega arith })

    second : Ends P cs line from open_end
    second = trimmed_ends P cs line g from whole 35 (omega arith) first

    third : Ends P cs line from (trimmed cs from open_end 32)
    third = trimmed_ends P cs line g from open_end 32 (omega arith) second

    by : (x : Bool) → Good P cs line (if x then trimmed cs from open_end 32 else whole) × (cell_place cs from line.end ≤ cell_place cs (if x then trimmed cs from open_end 32 else whole) line.end)
    by true = (third.good, ends_after P cs line g from (trimmed cs from open_end 32) third)
    by false = (first.good, ends_after P cs line g from whole first)

-- nothing, or a heading whose text may be a line
abbrev MayHead : (ℕ → Type 0) → List Cell → Line → Option Heading → Type 0
MayHead P cs line None = Unit
MayHead P cs line (Some h) = Held P line.end (heading_piece cs h line)

heading_may : (P : ℕ → Type 0) (cs : List Cell) (line : Line) → Grounded P cs line → (c : ℕ) → Good P cs line c → MayHead P cs line (heading_at cs c)
unfolding heading_at heading_piece
heading_may P cs line g c p = by (not (is_behind cs behind)) (level_of (behind - c))
  where
    behind : ℕ
    behind = plus c (run_of cs c 35)

    from : ℕ
    from = ink_from cs behind

    good : Good P cs line from
    good = ink_good P cs line g (plus c (run_of cs c 35)) (plus_good P cs line g c (run_of cs c 35) (run_good P cs line g c 35 (run_of cs c 35) (omega arith) p (omega arith)))

    by : (x : Bool) (o : Option HeadingLevel) → MayHead P cs line (if x then None else option_map (heading_from cs (ink_from cs behind)) o)
    by true o = tt
    by false None = tt
    by false (Some l) = record { begins = good; before = g.within from; stops = (heading_ends P cs line g from).0; ordered = (heading_ends P cs line g from).1; ends = (heading_ends P cs line g from).0; forward = (heading_ends P cs line g from).1; onto = omega arith; spaces = λ h. absurd (omega arith) }

-- nothing, or an underline of an open paragraph
abbrev MayUnder : Bool → Option HeadingLevel → Type 0
MayUnder d None = Unit
MayUnder d (Some l) = d ≡ true

under_may : (cs : List Cell) (c : ℕ) (d : Bool) → MayUnder d (underline_in cs c d)
unfolding underline_in
under_may cs c false = tt
under_may cs c true = by (underline_at cs c)
  where
    by : (o : Option HeadingLevel) → MayUnder true o
    by None = tt
    by (Some l) = refl

leaves_begin : (P : ℕ → Type 0) (cs : List Cell) (line : Line) → Grounded P cs line → (rest : List ℕ) (tail : Tail) (cursor : Cursor) (p d : Bool) → Valid P cs line cursor → Begins P cs line d (leaf_at cs rest tail cursor p d)
unfolding leaf_at mark_at rule_at
leaves_begin P cs line g rest tail cursor p d v = by (is_blank_at cs cursor) (nat_lt (indent_of cursor) 4) refl p
  where
    rule : (x : Bool) → Begins P cs line d (if x then start.Rule else start.Text)
    rule true = tt
    rule false = tt

    mark : (h : Option Heading) (f : Option Fence) (k : Option HtmlKind) (u : Option HeadingLevel) → MayHead P cs line h → MayUnder d u
        → Begins P cs line d (unwrap_or (option_map (λ h. start.Heading h) h) (unwrap_or (option_map (λ f. start.Fence f) f) (unwrap_or (option_map (λ k. start.Html k) k) (unwrap_or (option_map (λ l. start.Underline l) u) (if is_rule cs tail cursor.ink then start.Rule else start.Text)))))
    mark (Some h) f k u a b = a
    mark None (Some f) k u a b = tt
    mark None None (Some k) u a b = tt
    mark None None None (Some l) a b = b
    mark None None None None a b = rule (is_rule cs tail cursor.ink)

    code : 4 ≤ indent_of cursor → Begins P cs line d (start.Indented (plus cursor.column 4))
    code h = let w : Good P cs line (plus cursor.column 4) = indent_good P cs line g cursor 4 v h in (w, held_code P cs line g (plus cursor.column 4) w)

    by : (a b : Bool) → nat_lt (indent_of cursor) 4 ≡ b → (q : Bool) → Begins P cs line d (if a then start.Blank else (if b then mark_at cs rest tail cursor p d else (if q then start.Text else start.Indented (plus cursor.column 4))))
    by true b e q = tt
    by false true e q = mark (heading_at cs cursor.ink) (fence_at cs cursor) (html_at rest p) (underline_in cs cursor.ink d) (heading_may P cs line g cursor.ink v.ink) (under_may cs cursor.ink d)
    by false false e true = tt
    by false false e false = let w : 4 ≤ indent_of cursor = grind (arith, nat_tests) in code w

leaves_turn : (P : ℕ → Type 0) (cs : List Cell) (line : Line) → Grounded P cs line → (t : List ℕ) (cursor : Cursor) (k : Leaf) → Valid P cs line cursor → is_core k ≡ true → TurnsTo P cs line k (leaf_turn t cs line cursor k)
unfolding leaf_turn is_core
leaves_turn P cs line g t cursor leaf.Nothing v h = tt
leaves_turn P cs line g t cursor leaf.Paragraph v h = tt
leaves_turn P cs line g t cursor leaf.Indented v h = by (nat_le 4 (indent_of cursor)) refl (is_blank_at cs cursor)
  where
    by : (a : Bool) → nat_le 4 (indent_of cursor) ≡ a → (b : Bool) → TurnsTo P cs line leaf.Indented (if a then turn.Takes (plus cursor.column 4) else (if b then turn.Takes cursor.ink else turn.Passes))
    by true e b = let w : 4 ≤ indent_of cursor = grind (arith, nat_tests) in (refl, held_code P cs line g (plus cursor.column 4) (indent_good P cs line g cursor 4 v w))
    by false e true = (refl, held_code P cs line g cursor.ink v.ink)
    by false e false = tt
leaves_turn P cs line g t cursor (leaf.Fenced f) v h = by (closes_fence cs cursor f)
  where
    by : (a : Bool) → TurnsTo P cs line (leaf.Fenced f) (if a then turn.Closes else turn.Takes (plus cursor.column (min f.indent (indent_of cursor))))
    by true = refl
    by false = (refl, held_code P cs line g (plus cursor.column (min f.indent (indent_of cursor))) (indent_good P cs line g cursor (min f.indent (indent_of cursor)) v (omega arith)))
leaves_turn P cs line g t cursor (leaf.Html k) v h = by (is_blank_at cs cursor && not (goes_past_blank k))
  where
    by : (a : Bool) → TurnsTo P cs line (leaf.Html k) (if a then turn.Passes else turn.Takes cursor.column)
    by true = tt
    by false = (refl, held_code P cs line g cursor.column v.column)
leaves_turn P cs line g t cursor (leaf.Metadata k) v h = absurd cc
leaves_turn P cs line g t cursor (leaf.Table x) v h = absurd cc

-- nothing, or a cursor
abbrev MayGo : (ℕ → Type 0) → List Cell → Line → Option Cursor → Type 0
MayGo P cs line None = Unit
MayGo P cs line (Some c) = Valid P cs line c

item_goes : (P : ℕ → Type 0) (cs : List Cell) (line : Line) → Grounded P cs line → (cursor : Cursor) (width : ℕ) (had : Bool) → Valid P cs line cursor → MayGo P cs line (item_goes_on cs cursor width had)
unfolding item_goes_on
item_goes P cs line g cursor width had v = by (is_blank_at cs cursor && not had) (nat_le width (indent_of cursor)) refl (is_blank_at cs cursor)
  where
    by : (a b : Bool) → nat_le width (indent_of cursor) ≡ b → (c : Bool) → MayGo P cs line (if a then None else (if b then Some (moved cs cursor (plus cursor.column width)) else (if c then Some (moved cs cursor (length cs)) else None)))
    by true b e c = tt
    by false true e c = let w : width ≤ indent_of cursor = grind (arith, nat_tests) in moved_valid P cs line g cursor (plus cursor.column width) v (indent_good P cs line g cursor width v w) (indent_onward P cs line g cursor width)
    by false false e true = moved_valid P cs line g cursor (length cs) v (past_good P cs line g (length cs) (omega arith)) (inr (inl (omega arith)))
    by false false e false = tt

goes : (P : ℕ → Type 0) (cs : List Cell) (line : Line) → Grounded P cs line → (k : Container) (cursor : Cursor) (had : Bool) → Valid P cs line cursor → MayGo P cs line (going_on_as k cs cursor had)
goes P cs line g container.Quote cursor had v = by (nat_le (indent_of cursor) 3) (cell_byte cs cursor.ink == 62) refl
  where
    by : (a b : Bool) → (cell_byte cs cursor.ink == 62) ≡ b → MayGo P cs line (if a && b then Some (after_quote cs cursor) else None)
    by false b e = tt
    by true true e = let w : cell_byte cs cursor.ink ≡ 62 = grind (arith, nat_tests) in quote_valid P cs line g cursor v w
    by true false e = tt
goes P cs line g (container.List sort) cursor had v = v
goes P cs line g (container.Item width) cursor had v = item_goes P cs line g cursor width had v
goes P cs line g container.Footnote cursor had v = item_goes P cs line g cursor 4 true v
goes P cs line g container.Definitions cursor had v = v
goes P cs line g (container.Definition width) cursor had v = item_goes P cs line g cursor width had v

passes : (P : ℕ → Type 0) (cs : List Cell) (line : Line) → Grounded P cs line → (cursor : Cursor) (o : Opened) → Valid P cs line cursor → MayGo P cs line (passed cs cursor o)
unfolding passed going_on
passes P cs line g cursor o v = by (nat_le (length cs) cursor.column)
  where
    by : (a : Bool) → MayGo P cs line (if a then None else going_on_as o.container cs cursor o.had)
    by true = tt
    by false = goes P cs line g o.container cursor o.had v

matched_valid : (P : ℕ → Type 0) (cs : List Cell) (line : Line) → Grounded P cs line → (all : List Opened) (qs : List ℕ) (n : ℕ) (cursor : Cursor) (os : List Opened) → Valid P cs line cursor → Valid P cs line ((matched_from cs all qs n cursor os).1)
matched_valid P cs line g all qs n cursor [] v = v
matched_valid P cs line g all qs n cursor (o ∷ os) v = by (passed cs cursor o) (passes P cs line g cursor o v) (λ c w. matched_valid P cs line g all qs (plus n 1) c os w)
  where
    by : (f : Option Cursor) → MayGo P cs line f → ((c : Cursor) → Valid P cs line c → Valid P cs line ((matched_from cs all qs (plus n 1) c os).1)) → Valid P cs line ((option_map_or (λ next. matched_from cs all qs (plus n 1) next os) f (stopped cs all qs n cursor, cursor)).1)
    by None w h = v
    by (Some c) w h = h c w

-- at these columns of a line blocks may begin
pub columns : (P : ℕ → Type 0) (cs : List Cell) (line : Line) → Grounded P cs line → Columns P (Valid P cs line) cs line
unfolding first_cursor
columns P cs line g = record {
  stops = g.stops;
  next = g.next;
  onto = g.onto;
  within = g.within;
  ink = λ c v. v.ink;
  column = λ c v. (v.column, held_code P cs line g c.column v.column);
  containers = λ tail c p v. containers_lead P cs line g tail c p v;
  leaves = λ rest tail c p d v. leaves_begin P cs line g rest tail c p d v;
  turns = λ t c k v h. leaves_turn P cs line g t c k v h;
  front = λ opened quotes. matched_valid P cs line g opened quotes 0 (record { column = 0; ink = ink_from cs 0 }) opened (valid_from P cs line g 0 g.front);
}

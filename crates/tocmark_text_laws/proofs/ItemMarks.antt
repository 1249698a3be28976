-- A list marker with spaces after it begins an item.
use Rattle.std.proofs.Common.{◌≡◌, ◌⊎◌, inl, inr, ℕ, zero, suc, ◌+◌, ◌-◌, ◌^◌, ◌<◌, ◌≤◌, Bool, true, false, not, ◌==◌, ◌&&◌, ◌||◌, nat_le, List, [], ◌∷◌, ◌++◌, length, drop, reverse, append_assoc, refl, ap, sym, subst, ◌∙◌, arith, length-append}
use Rattle.std.specs.Prelude.{take_while, filter, replicate, min, Some, None}
use Rattle.std.specs.List.{AllByRecursion, list_any, prefix_len}
use Rattle.std.specs.Char.{is_ascii_digit}
use Rattle.std.proofs.Math.Seq.{drop-append-add}
use Rattle.std.proofs.lemmas.Bool.{leb-true, and_parts}
use Rattle.std.proofs.lemmas.Bool.Decides.{nat_tests}
use Rattle.std.proofs.lemmas.List.{length-map, length-replicate}
use Rattle.std.proofs.lemmas.List.Folds.{length-prefix_len}
use Rattle.tocmark_read_scan.specs.Basic.{plus, byte_at, bytes_between}
use Rattle.tocmark_read_scan.specs.declared.syntax.TheConstants.{CORE}
use Rattle.tocmark_read_scan.proofs.PlainTests.{both_false}
use Rattle.tocmark_read_lines.specs.Cells.{bytes_of, cells_at, cell_byte, run_of, count_of, ink_from, first_cursor}
use Rattle.tocmark_read_lines.specs.Containers.{item_gap, item_at, container_at, container_in}
use Rattle.tocmark_read_lines.specs.DefinitionLists.{definition_start}
use Rattle.tocmark_read_lines.specs.Footnotes.{note_start}
use Rattle.tocmark_read_lines.specs.Marks.{is_behind, tail_length, tail_of, is_rule_byte, is_rule, digit_count, number_of, bullet_at, ordered_at, marker_at}
use Rattle.tocmark_read_lines.specs.declared.cell.Cell.{Cell}
use Rattle.tocmark_read_lines.specs.declared.container.ContainerStart.TheVariants as begins
use Rattle.tocmark_read_lines.specs.declared.container.ItemStart.{ItemStart}
use Rattle.tocmark_read_lines.proofs.Columns.{byte_asked, bytes_kept, length_kept, run_asked, count_asked, digits_asked, tail_asked}
use Rattle.tocmark_text_laws.specs.Items.{ListMark, Bullet, Numbered, IsListMark, list_mark_bytes, first_number, ItemMark, IsItemMark, marker_bytes, item_front, is_break}
use Rattle.tocmark_text_laws.proofs.QuotedCells.{Fronted, byte_later, byte_two, ink_two, length_on}
use Rattle.tocmark_text_laws.proofs.QuotedMarks.{back_each, marker_two, rule_two}
use Rattle.tocmark_text_laws.proofs.QuotedLines.{between_front, between_whole, IsFront}
use Rattle.tocmark_text_laws.proofs.Alls.{all_both}
use Rattle.tocmark_text_laws.proofs.ItemContainers.{run_front, front_at}
use Rattle.tocmark_text_laws.proofs.ItemFirst.{Begins}

-- the last byte of a marker
abbrev pub mark_sort : ListMark → ℕ
mark_sort (Bullet b) = b
mark_sort (Numbered digits b) = b

-- the item that such a marker begins
abbrev pub item_of : ItemMark → ItemStart
item_of m = record { sort = mark_sort m.mark; number = first_number m.mark; width = length (item_front m); next = length (item_front m) }

-- the bytes of a marker

abbrev IsMarkByte : ℕ → Type 0
IsMarkByte b = (41 ≤ b) × (b ≤ 57)

digit_low : (d : ℕ) → is_ascii_digit d ≡ true → (48 ≤ d) × (d ≤ 57)
digit_low d e = (leb-true 48 d (and_parts _ _ e).0, leb-true d 57 (and_parts _ _ e).1)

mark_low : (mark : ListMark) → IsListMark mark → AllByRecursion IsMarkByte (list_mark_bytes mark)
mark_low (Bullet b) h = (by (b == 45) (b == 43) (b == 42) refl refl refl h, tt)
  where
    by : (x y z : Bool) → (b == 45) ≡ x → (b == 43) ≡ y → (b == 42) ≡ z → (x || y || z) ≡ true → (41 ≤ b) × (b ≤ 57)
    by true y z e f g k = let q : b ≡ 45 = grind (arith, e, nat_tests) in (omega (arith, q), omega (arith, q))
    by false true z e f g k = let q : b ≡ 43 = grind (arith, f, nat_tests) in (omega (arith, q), omega (arith, q))
    by false false true e f g k = let q : b ≡ 42 = grind (arith, g, nat_tests) in (omega (arith, q), omega (arith, q))
    by false false false e f g k = absurd cc
mark_low (Numbered digits b) (some, few, all, h) = all_both IsMarkByte digits (b ∷ []) (each digits all) (by (b == 46) (b == 41) refl refl h, tt)
  where
    each : (ds : List ℕ) → AllByRecursion (λ d. is_ascii_digit d ≡ true) ds → AllByRecursion IsMarkByte ds
    each [] a = tt
    each (d ∷ ds) a = let k : (48 ≤ d) × (d ≤ 57) = digit_low d (a.0) in ((omega (arith, k.0), k.1), each ds (a.1))

    by : (x y : Bool) → (b == 46) ≡ x → (b == 41) ≡ y → (x || y) ≡ true → (41 ≤ b) × (b ≤ 57)
    by true y e f k = let q : b ≡ 46 = grind (arith, e, nat_tests) in (omega (arith, q), omega (arith, q))
    by false true e f k = let q : b ≡ 41 = grind (arith, f, nat_tests) in (omega (arith, q), omega (arith, q))
    by false false e f k = absurd cc

-- a byte that no marker has is in none
none_in : (x : ℕ) → (x < 41) ⊎ (57 < x) → (bs : List ℕ) → AllByRecursion IsMarkByte bs → list_any (λ b. b == x) bs ≡ false
none_in x h [] a = refl
none_in x h (b ∷ bs) a = rw (apart h, none_in x h bs (a.1)) refl
  where
    apart : (x < 41) ⊎ (57 < x) → (b == x) ≡ false
    apart (inl k) = grind (arith, k, a.0.0, nat_tests)
    apart (inr k) = grind (arith, k, a.0.1, nat_tests)

both_in : (bs : List ℕ) → list_any (λ b. b == 10) bs ≡ false → list_any (λ b. b == 13) bs ≡ false → list_any (λ b. (b == 10) || (b == 13)) bs ≡ false
both_in [] h k = refl
both_in (b ∷ bs) h k =
    let x = both_false (b == 10) (list_any (λ b. b == 10) bs) h in
    let y = both_false (b == 13) (list_any (λ b. b == 13) bs) k in
    rw (x.0, y.0) (both_in bs (x.1) (y.1))

any_both : (p : ℕ → Bool) (xs ys : List ℕ) → list_any p xs ≡ false → list_any p ys ≡ false → list_any p (xs ++ ys) ≡ false
any_both p [] ys h k = k
any_both p (x ∷ xs) ys h k = let both = both_false (p x) (list_any p xs) h in rw (both.0) (any_both p xs ys (both.1) k)

spaces_none : (x n : ℕ) → (32 == x) ≡ false → list_any (λ b. b == x) (replicate n 32) ≡ false
spaces_none x zero h = refl
spaces_none x (suc n) h = rw h (spaces_none x n h)

pub spaces_ok : (n : ℕ) → IsFront (replicate n 32)
spaces_ok n = record { free = both_in (replicate n 32) (spaces_none 10 n refl) (spaces_none 13 n refl); flat = spaces_none 9 n refl }

pub item_ok : (m : ItemMark) → IsItemMark m → IsFront (item_front m)
item_ok m h = record {
  free = any_both (λ b. (b == 10) || (b == 13)) (replicate m.before 32) (marker_bytes m) (spaces_ok m.before).free
      (any_both (λ b. (b == 10) || (b == 13)) (list_mark_bytes m.mark) (replicate m.after 32) (both_in (list_mark_bytes m.mark) (none_in 10 (inl (omega arith)) (list_mark_bytes m.mark) (mark_low m.mark (h.1))) (none_in 13 (inl (omega arith)) (list_mark_bytes m.mark) (mark_low m.mark (h.1)))) (spaces_ok m.after).free);
  flat = any_both (λ b. b == 9) (replicate m.before 32) (marker_bytes m) (spaces_ok m.before).flat
      (any_both (λ b. b == 9) (list_mark_bytes m.mark) (replicate m.after 32) (none_in 9 (inl (omega arith)) (list_mark_bytes m.mark) (mark_low m.mark (h.1))) (spaces_ok m.after).flat);
}

mark_long : (mark : ListMark) → IsListMark mark → (1 ≤ length (list_mark_bytes mark)) × (length (list_mark_bytes mark) ≤ 10)
mark_long (Bullet b) h = (omega arith, omega arith)
mark_long (Numbered digits b) (some, few, all, h) = (omega (arith, length-append digits (b ∷ []), few), omega (arith, length-append digits (b ∷ []), few))

marker_long : (m : ItemMark) → length (marker_bytes m) ≡ length (list_mark_bytes m.mark) + m.after
marker_long m = length-append (list_mark_bytes m.mark) (replicate m.after 32) ∙ ap (λ n. length (list_mark_bytes m.mark) + n) (length-replicate m.after 32)

front_long : (m : ItemMark) → length (item_front m) ≡ m.before + (length (list_mark_bytes m.mark) + m.after)
front_long m = length-append (replicate m.before 32) (marker_bytes m) ∙ (let z : length (replicate {A = ℕ} m.before 32) + length (marker_bytes m) ≡ m.before + (length (list_mark_bytes m.mark) + m.after) = omega (arith, length-replicate {A = ℕ} m.before 32, marker_long m) in z)

pub front_few : (m : ItemMark) → IsItemMark m → (m.before < length (item_front m)) × (length (item_front m) ≤ 17)
front_few m h = (omega (arith, front_long m, (mark_long m.mark (h.1)).0), omega (arith, front_long m, (mark_long m.mark (h.1)).1, h.0, h.3))

-- the marker at the front of a line

-- the spaces at the front of bytes
abbrev pub spaces_of : List ℕ → ℕ
spaces_of xs = prefix_len (λ x. x == 32) xs

-- after the spaces of a marker are no more, or after one are four or more
abbrev pub Gaps : ℕ → ℕ → Type 0
Gaps spaces more = (more ≡ 0) ⊎ ((spaces ≡ 1) × (4 ≤ more))

-- the bytes of a line are those of a marker, some spaces, and others
record Marked (mark : ListMark) (spaces : ℕ) (w : List Cell) (rest : List ℕ) : Type 0 where
  kind : IsListMark mark
  one : 1 ≤ spaces
  four : spaces ≤ 4
  bytes : bytes_of w ≡ list_mark_bytes mark ++ (replicate spaces 32 ++ rest)
  gap : Gaps spaces (spaces_of rest)
  some : spaces_of rest < length rest
  fits : length w + 9 < 2 ^ 64

byte_in_front : (w : List Cell) (ms xs : List ℕ) (k : ℕ) → bytes_of w ≡ ms ++ xs → cell_byte w (length ms + k) ≡ byte_at xs k
byte_in_front w ms xs k e = byte_asked w (length ms + k) ∙ ap (λ (bs : List ℕ). byte_at bs (length ms + k)) e ∙ byte_later ms xs k

space_behind : (mark : ListMark) (spaces : ℕ) (w : List Cell) (rest : List ℕ) → Marked mark spaces w rest → cell_byte w (length (list_mark_bytes mark)) ≡ 32
space_behind mark zero w rest h = absurd (omega (arith, h.one))
space_behind mark (suc k) w rest h = ap (cell_byte w) (let z : length (list_mark_bytes mark) ≡ length (list_mark_bytes mark) + 0 = omega arith in z) ∙ byte_in_front w (list_mark_bytes mark) (replicate (suc k) 32 ++ rest) 0 h.bytes

behind_space : (w : List Cell) (k : ℕ) → cell_byte w k ≡ 32 → is_behind w k ≡ true
unfolding is_behind
behind_space w k e = rw e (by (nat_le (length w) k))
  where
    by : (b : Bool) → (b || true) ≡ true
    by true = refl
    by false = refl

bullet_is : (b spaces : ℕ) (w : List Cell) (rest : List ℕ) → Marked (Bullet b) spaces w rest → bullet_at w 0 ≡ Some (record { sort = b; number = None; length = 1 })
unfolding bullet_at
bullet_is b spaces w rest h = rw (first, h.kind, behind_space w 1 (space_behind (Bullet b) spaces w rest h)) refl
  where
    first : cell_byte w 0 ≡ b
    first = byte_asked w 0 ∙ ap (λ (bs : List ℕ). byte_at bs 0) h.bytes

digits_run : (digits xs : List ℕ) (b : ℕ) → AllByRecursion (λ d. is_ascii_digit d ≡ true) digits → is_ascii_digit b ≡ false → prefix_len is_ascii_digit ((digits ++ b ∷ []) ++ xs) ≡ length digits
digits_run [] xs b a e = rw e refl
digits_run (d ∷ ds) xs b a e = rw (a.0) (let z : 1 + prefix_len is_ascii_digit ((ds ++ b ∷ []) ++ xs) ≡ suc (length ds) = omega (arith, digits_run ds xs b (a.1) e) in z)

sort_byte : (digits xs : List ℕ) (b : ℕ) → byte_at ((digits ++ b ∷ []) ++ xs) (length digits) ≡ b
sort_byte [] xs b = refl
sort_byte (d ∷ ds) xs b = sort_byte ds xs b

no_digit : (b : ℕ) → ((b == 46) || (b == 41)) ≡ true → is_ascii_digit b ≡ false
no_digit b h = by (b == 46) (b == 41) refl refl h
  where
    by : (x y : Bool) → (b == 46) ≡ x → (b == 41) ≡ y → (x || y) ≡ true → is_ascii_digit b ≡ false
    by true y e f k = let q : b ≡ 46 = grind (arith, e, nat_tests) in ap is_ascii_digit q
    by false true e f k = let q : b ≡ 41 = grind (arith, f, nat_tests) in ap is_ascii_digit q
    by false false e f k = absurd cc

no_bullet : (w : List Cell) (d : ℕ) → cell_byte w 0 ≡ d → is_ascii_digit d ≡ true → bullet_at w 0 ≡ None
unfolding bullet_at
no_bullet w d first e = rw (first, one, two, three) refl
  where
    low : 48 ≤ d
    low = (digit_low d e).0

    one : (d == 45) ≡ false
    one = grind (arith, low, nat_tests)

    two : (d == 43) ≡ false
    two = grind (arith, low, nat_tests)

    three : (d == 42) ≡ false
    three = grind (arith, low, nat_tests)

ordered_is : (digits : List ℕ) (b spaces : ℕ) (w : List Cell) (rest : List ℕ) → Marked (Numbered digits b) spaces w rest → ordered_at w 0 ≡ Some (record { sort = b; number = Some (number_of digits); length = length (digits ++ b ∷ []) })
unfolding ordered_at
ordered_is digits b spaces w rest h = rw (count, last, sort, low, high, h.kind.3, next, behind_space w (length digits + 1) behind, words) (ap (λ n. Some (record { sort = b; number = Some (number_of digits); length = n })) long)
  where
    xs : List ℕ
    xs = replicate spaces 32 ++ rest

    count : digit_count w 0 ≡ length digits
    count = digits_asked w 0 ∙ ap (λ (bs : List ℕ). length (take_while is_ascii_digit bs)) h.bytes ∙ length-prefix_len is_ascii_digit ((digits ++ b ∷ []) ++ xs) ∙ digits_run digits xs b (h.kind.2) (no_digit b (h.kind.3))

    few : length digits ≤ 9
    few = h.kind.1

    last : plus 0 (length digits) ≡ length digits
    last = omega (arith, few)

    sort : cell_byte w (length digits) ≡ b
    sort = byte_asked w (length digits) ∙ ap (λ (bs : List ℕ). byte_at bs (length digits)) h.bytes ∙ sort_byte digits xs b

    low : nat_le 1 (length digits) ≡ true
    low = let z : 1 ≤ length digits = h.kind.0 in grind (arith, z, nat_tests)

    high : nat_le (length digits) 9 ≡ true
    high = grind (arith, few, nat_tests)

    next : plus (length digits) 1 ≡ length digits + 1
    next = omega (arith, few)

    behind : cell_byte w (length digits + 1) ≡ 32
    behind = ap (cell_byte w) (sym (length-append digits (b ∷ []))) ∙ space_behind (Numbered digits b) spaces w rest h

    words : bytes_between (bytes_of w) 0 (length digits) ≡ digits
    words =
        ap (λ (bs : List ℕ). bytes_between bs 0 (length digits)) (h.bytes ∙ append_assoc digits (b ∷ []) xs)
        ∙ between_front digits (b ∷ xs) 0 (length digits) (omega arith) ∙ between_whole digits

    long : length digits + 1 ≡ length (digits ++ b ∷ [])
    long = sym (length-append digits (b ∷ []))

marker_is : (mark : ListMark) (spaces : ℕ) (w : List Cell) (rest : List ℕ) → Marked mark spaces w rest → marker_at w 0 ≡ Some (record { sort = mark_sort mark; number = first_number mark; length = length (list_mark_bytes mark) })
unfolding marker_at
marker_is (Bullet b) spaces w rest h = rw (bullet_is b spaces w rest h) refl
marker_is (Numbered [] b) spaces w rest h = absurd (omega (arith, h.kind.0))
marker_is (Numbered (d ∷ ds) b) spaces w rest h = rw (no_bullet w d (byte_asked w 0 ∙ ap (λ (bs : List ℕ). byte_at bs 0) h.bytes) (h.kind.2.0), ordered_is (d ∷ ds) b spaces w rest h) refl

-- the item that begins

spaces_run : (n : ℕ) (rest : List ℕ) → prefix_len (λ x. x == 32) (replicate n 32 ++ rest) ≡ n + spaces_of rest
spaces_run zero rest = omega arith
spaces_run (suc n) rest = let z : 1 + prefix_len (λ x. x == 32) (replicate n 32 ++ rest) ≡ suc n + spaces_of rest = omega (arith, spaces_run n rest) in z

-- the text begins as far after the marker as these spaces
gap_is : (spaces more : ℕ) → spaces ≤ 4 → Gaps spaces more → item_gap false (spaces + more) ≡ spaces
unfolding item_gap
gap_is spaces more low (inl e) = rw few (omega (arith, e))
  where
    few : nat_le 5 (spaces + more) ≡ false
    few = let z : spaces + more ≤ 4 = omega (arith, e, low) in grind (arith, z, nat_tests)
gap_is spaces more low (inr (e, h)) = rw many (sym e)
  where
    many : nat_le 5 (spaces + more) ≡ true
    many = let z : 5 ≤ spaces + more = omega (arith, e, h) in grind (arith, z, nat_tests)

run_behind : (mark : ListMark) (spaces : ℕ) (w : List Cell) (rest : List ℕ) → Marked mark spaces w rest → run_of w (length (list_mark_bytes mark)) 32 ≡ spaces + spaces_of rest
run_behind mark spaces w rest h =
    run_asked w (length ms) 32
    ∙ ap (λ (bs : List ℕ). length (take_while (λ x. x == 32) (drop (length ms) bs))) h.bytes
    ∙ ap (λ n. length (take_while (λ x. x == 32) (drop n (ms ++ xs)))) (let z : length ms ≡ length ms + 0 = omega arith in z)
    ∙ ap (λ (bs : List ℕ). length (take_while (λ x. x == 32) bs)) (drop-append-add ms xs 0)
    ∙ length-prefix_len (λ x. x == 32) xs ∙ spaces_run spaces rest
  where
    ms : List ℕ
    ms = list_mark_bytes mark

    xs : List ℕ
    xs = replicate spaces 32 ++ rest

item_starts : (m : ItemMark) (w r : List Cell) (rest : List ℕ) → Fronted m.before w r → m.before ≤ 3 → Marked m.mark m.after r rest → item_at w (front_at m.before) false ≡ Some (item_of m)
unfolding item_at
item_starts m w r rest f low h =
    rw (marker, behind, ink, empty, gap, wide, inner, none, sum, far, next)
    (ap (λ n. Some (record { sort = mark_sort m.mark; number = first_number m.mark; width = n; next = n })) (sym (front_long m)))
  where
    long : ℕ
    long = length (list_mark_bytes m.mark)

    few : long ≤ 10
    few = (mark_long m.mark h.kind).1

    whole : length r ≡ long + m.after + length rest
    whole =
        sym (length-map r (λ (c : Cell). c.byte)) ∙ ap length h.bytes ∙ length-append (list_mark_bytes m.mark) (replicate m.after 32 ++ rest)
        ∙ (let z : long + length (replicate m.after 32 ++ rest) ≡ long + m.after + length rest = omega (arith, length-append {A = ℕ} (replicate m.after 32) rest, length-replicate {A = ℕ} m.after 32) in z)

    marker : marker_at w m.before ≡ Some (record { sort = mark_sort m.mark; number = first_number m.mark; length = long })
    marker = ap (marker_at w) (let z : m.before ≡ m.before + 0 = omega arith in z) ∙ marker_two m.before w r 0 f (omega arith) ∙ marker_is m.mark m.after r rest h

    behind : plus m.before long ≡ m.before + long
    behind = omega (arith, few, low)

    inner : plus long m.after ≡ long + m.after
    inner = omega (arith, few, h.four)

    more : ℕ
    more = spaces_of rest

    ink_low : plus long (m.after + more) ≡ long + (m.after + more)
    ink_low = omega (arith, whole, h.some, h.fits)

    ink : ink_from w (m.before + long) ≡ m.before + (long + (m.after + more))
    ink = ink_two m.before w r long f (omega (arith, whole)) ∙ ap (λ n. m.before + n) (ap (plus long) (run_behind m.mark m.after r rest h) ∙ ink_low)

    empty : nat_le (length w) (m.before + (long + (m.after + more))) ≡ false
    empty = let z : m.before + (long + (m.after + more)) < length w = omega (arith, whole, h.some, length_on m.before w r f) in grind (arith, z, nat_tests)

    gap : m.before + (long + (m.after + more)) - (m.before + long) ≡ m.after + more
    gap = omega arith

    wide : item_gap false (m.after + more) ≡ m.after
    wide = gap_is m.after more h.four h.gap

    none : m.before - 0 ≡ m.before
    none = omega arith

    sum : plus m.before (long + m.after) ≡ m.before + (long + m.after)
    sum = omega (arith, few, h.four, low)

    far : plus (m.before + long) m.after ≡ m.before + (long + m.after)
    far = omega (arith, few, h.four, low)

    next : min (m.before + (long + m.after)) (length w) ≡ m.before + (long + m.after)
    next = omega (arith, whole, length_on m.before w r f)

-- a line of a thematic break

rule_breaks : (w : List Cell) (b : ℕ) (bs : List ℕ) → bytes_of w ≡ b ∷ bs → is_rule w (tail_of w) 0 ≡ true → is_break (b ∷ bs) ≡ true
unfolding is_rule is_rule_byte tail_of
rule_breaks w b bs e h = rw (marks, none, three) refl
  where
    first : cell_byte w 0 ≡ b
    first = byte_asked w 0 ∙ ap (λ (xs : List ℕ). byte_at xs 0) e

    last : ℕ
    last = (tail_of w).byte

    parts : ((is_rule_byte (cell_byte w 0) && (cell_byte w 0 == last) && nat_le (length w - tail_length w last) 0) ≡ true) × (nat_le 3 (count_of w 0 (cell_byte w 0)) ≡ true)
    parts = and_parts _ _ h

    front : ((is_rule_byte (cell_byte w 0) && (cell_byte w 0 == last)) ≡ true) × (nat_le (length w - tail_length w last) 0 ≡ true)
    front = and_parts _ _ (parts.0)

    kinds : (is_rule_byte (cell_byte w 0) ≡ true) × ((cell_byte w 0 == last) ≡ true)
    kinds = and_parts _ _ (front.0)

    marks : ((b == 42) || (b == 45) || (b == 95)) ≡ true
    marks = ap is_rule_byte (sym first) ∙ kinds.0

    same : last ≡ b
    same = let k : (cell_byte w 0 == last) ≡ true = kinds.1 in let z : cell_byte w 0 ≡ last = grind (arith, k, nat_tests) in sym z ∙ first

    all : AllByRecursion (λ x. ((x == 32) || (x == b)) ≡ true) (b ∷ bs)
    all = back_each (λ x. (x == 32) || (x == b)) (b ∷ bs)
        (let k : nat_le (length w - tail_length w last) 0 ≡ true = front.1 in
        let z : length w - tail_length w last ≤ 0 = grind (arith, k, nat_tests) in
        let t : tail_length w last ≡ length (take_while (λ x. (x == 32) || (x == b)) (reverse (b ∷ bs))) = ap (tail_length w) same ∙ tail_asked w b ∙ ap (λ (xs : List ℕ). length (take_while (λ x. (x == 32) || (x == b)) (reverse xs))) e in
        let l : length w ≡ length (b ∷ bs) = sym (length-map w (λ (c : Cell). c.byte)) ∙ ap length e in
        omega (arith, z, t, l))

    nothing : (xs : List ℕ) → AllByRecursion (λ x. ((x == 32) || (x == b)) ≡ true) xs → list_any (λ x. not ((x == 32) || (x == b))) xs ≡ false
    nothing [] a = refl
    nothing (x ∷ xs) a = rw (a.0) (nothing xs (a.1))

    none : list_any (λ x. not ((x == 32) || (x == b))) (b ∷ bs) ≡ false
    none = nothing (b ∷ bs) all

    three : nat_le 3 (length (filter (λ x. x == b) (b ∷ bs))) ≡ true
    three = ap (nat_le 3) (sym (ap (count_of w 0) first ∙ count_asked w 0 b ∙ ap (λ (xs : List ℕ). length (filter (λ x. x == b) xs)) e)) ∙ parts.1

not_rule : (w : List Cell) (bs : List ℕ) → 0 < length bs → bytes_of w ≡ bs → is_break bs ≡ false → is_rule w (tail_of w) 0 ≡ false
not_rule w [] some e h = absurd (omega (arith, some))
not_rule w (b ∷ bs) some e h = by (is_rule w (tail_of w) 0) refl
  where
    by : (k : Bool) → is_rule w (tail_of w) 0 ≡ k → is_rule w (tail_of w) 0 ≡ false
    by true k = let z : true ≡ false = sym (rule_breaks w b bs e k) ∙ h in absurd cc
    by false k = k

-- all of it

front_byte : (mark : ListMark) (xs : List ℕ) → IsListMark mark → IsMarkByte (byte_at (list_mark_bytes mark ++ xs) 0)
front_byte (Bullet b) xs h = (mark_low (Bullet b) h).0
front_byte (Numbered [] b) xs h = absurd (omega (arith, h.0))
front_byte (Numbered (d ∷ ds) b) xs h = (mark_low (Numbered (d ∷ ds) b) h).0

-- the cursor at the front of a line
cursor_before : (w : List Cell) (before : ℕ) → run_of w 0 32 ≡ before + 0 → before ≤ 3 → first_cursor w ≡ front_at before
unfolding first_cursor
cursor_before w before e low = ap front_at (let z : plus 0 (run_of w 0 32) ≡ before = omega (arith, e, low) in z)

pub some_ink : (r : List Cell) (k : ℕ) → run_of r 0 32 ≡ k → k < length r → length r < 2 ^ 64 - 1 → nat_le (length r) (first_cursor r).ink ≡ false
unfolding first_cursor
some_ink r k e h low = let z : plus 0 (run_of r 0 32) < length r = omega (arith, e, h, low) in by (plus 0 (run_of r 0 32)) z
  where
    by : (n : ℕ) → n < length r → nat_le (length r) n ≡ false
    by n g = grind (arith, g, nat_tests)

starts_before : (w : List Cell) (before : ℕ) (item : ItemStart) → nat_le (length w) before ≡ false → nat_le 4 (before - 0) ≡ false → (cell_byte w before == 62) ≡ false → is_rule w (tail_of w) before ≡ false → item_at w (front_at before) false ≡ Some item → container_in CORE w (tail_of w) (front_at before) false ≡ Some (begins.Item item)
unfolding container_in container_at definition_start note_start
starts_before w before item some near quote rule e = rw (some, near, quote, rule, e) refl

-- the columns from the marker on
from_marker : (m : ItemMark) (shift : ℕ) (w r : List Cell) (h : Fronted shift w r) → h.front ≡ item_front m → (f : Fronted m.before w (cells_at 0 [] (marker_bytes m ++ bytes_of r))) × (f.front ≡ replicate m.before 32)
from_marker m shift w r h e = (
  record {
    front = replicate m.before 32;
    long = length-replicate m.before 32;
    bytes = h.bytes ∙ ap (λ xs. xs ++ bytes_of r) e ∙ append_assoc (replicate m.before 32) (marker_bytes m) (bytes_of r) ∙ ap (λ xs. replicate m.before 32 ++ xs) (sym (bytes_kept 0 [] (marker_bytes m ++ bytes_of r)));
    fits = omega (arith, h.fits, length_kept 0 [] (marker_bytes m ++ bytes_of r), length-append (marker_bytes m) (bytes_of r), length-map r (λ (c : Cell). c.byte), ap length e, h.long, length-append (replicate {A = ℕ} m.before 32) (marker_bytes m), length-replicate {A = ℕ} m.before 32);
  },
  refl,
)

pub item_begins : (m : ItemMark) (shift : ℕ) (w r : List Cell) (h : Fronted shift w r) → h.front ≡ item_front m → IsItemMark m → Gaps m.after (spaces_of (bytes_of r)) → spaces_of (bytes_of r) < length r → is_break (marker_bytes m ++ bytes_of r) ≡ false → Begins (item_of m) m.before shift w r
item_begins m shift w r h e ok gap some break = by (from_marker m shift w r h e)
  where
    v : List Cell
    v = cells_at 0 [] (marker_bytes m ++ bytes_of r)

    bytes : bytes_of v ≡ marker_bytes m ++ bytes_of r
    bytes = bytes_kept 0 [] (marker_bytes m ++ bytes_of r)

    long : length (item_front m) ≡ shift
    long = ap length (sym e) ∙ h.long

    rest : spaces_of (bytes_of r) < length (bytes_of r)
    rest = omega (arith, some, length-map r (λ (c : Cell). c.byte))

    marked : Fronted m.before w v → Marked m.mark m.after v (bytes_of r)
    marked f = record { kind = ok.1; one = ok.2; four = ok.3; bytes = bytes ∙ append_assoc (list_mark_bytes m.mark) (replicate m.after 32) (bytes_of r); gap = gap; some = rest; fits = omega (arith, f.fits) }

    first : IsMarkByte (cell_byte v 0)
    first = subst IsMarkByte (sym (byte_asked v 0 ∙ ap (λ (bs : List ℕ). byte_at bs 0) (bytes ∙ append_assoc (list_mark_bytes m.mark) (replicate m.after 32) (bytes_of r)))) (front_byte m.mark (replicate m.after 32 ++ bytes_of r) (ok.1))

    no_run : (bs : List ℕ) → (byte_at bs 0 == 32) ≡ false → length (take_while (λ x. x == 32) bs) ≡ 0
    no_run bs k = length-prefix_len (λ x. x == 32) bs ∙ none bs k
      where
        none : (xs : List ℕ) → (byte_at xs 0 == 32) ≡ false → spaces_of xs ≡ 0
        none [] g = refl
        none (x ∷ xs) g = rw g refl

    no_space : (b : ℕ) → 41 ≤ b → (b == 32) ≡ false
    no_space b k = grind (arith, k, nat_tests)

    not_quote : (b : ℕ) → b ≤ 57 → (b == 62) ≡ false
    not_quote b k = grind (arith, k, nat_tests)

    run : run_of v 0 32 ≡ 0
    run = run_asked v 0 32 ∙ no_run (bytes_of v) (ap (λ b. b == 32) (sym (byte_asked v 0)) ∙ no_space (cell_byte v 0) (first.0))

    here_run : run_of r 0 32 ≡ spaces_of (bytes_of r)
    here_run = run_asked r 0 32 ∙ length-prefix_len (λ x. x == 32) (bytes_of r)

    zero_on : m.before ≡ m.before + 0
    zero_on = omega arith

    by : (f : Fronted m.before w v) × (f.front ≡ replicate m.before 32) → Begins (item_of m) m.before shift w r
    by (f, g) = record {
      front = cursor_before w m.before (run_front m.before w v f g ∙ ap (λ n. m.before + n) run) (ok.0);
      starts = starts_before w m.before (item_of m) some_there near
          (ap (λ k. cell_byte w k == 62) zero_on ∙ ap (λ b. b == 62) (byte_two m.before w v 0 f) ∙ not_quote (cell_byte v 0) (first.1))
          (ap (is_rule w (tail_of w)) zero_on ∙ rule_two m.before w v 0 f ∙ not_rule v (marker_bytes m ++ bytes_of r) (omega (arith, length-append (marker_bytes m) (bytes_of r), rest)) bytes break)
          (item_starts m w v (bytes_of r) f (ok.0) (marked f));
      width = long;
      next = long;
      wide = omega (arith, (front_few m ok).0, long);
      some = some_ink r (spaces_of (bytes_of r)) here_run some (omega (arith, h.fits));
    }
      where
        some_there : nat_le (length w) m.before ≡ false
        some_there = let z : m.before < length w = omega (arith, length_on shift w r h, some, (front_few m ok).0, long) in grind (arith, z, nat_tests)

        near : nat_le 4 (m.before - 0) ≡ false
        near = let z : m.before - 0 ≤ 3 = omega (arith, ok.0) in grind (arith, z, nat_tests)

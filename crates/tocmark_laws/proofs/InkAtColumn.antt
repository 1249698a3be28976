-- A letter after a mark: at its column no container begins, and no leaf but a paragraph.
use Rattle.std.proofs.Common.{◌≡◌, ℕ, suc, ◌+◌, ◌-◌, ◌^◌, ◌<◌, ◌≤◌, Bool, true, false, ◌==◌, ◌&&◌, ◌||◌, if◌then◌else◌, nat_lt, nat_le, List, [], ◌∷◌, ◌++◌, length, drop, reverse, slice_get, refl, ap, sym, ◌∙◌, arith, append_assoc, length-append, Option, None, Some}
use Rattle.std.proofs.lemmas.Bool.Decides.{nat_tests}
use Rattle.std.proofs.lemmas.List.{reverse-append}
use Rattle.std.proofs.lemmas.List.Sums.{take_while-cons}
use Rattle.std.specs.Char.{is_ascii_alphabetic, is_ascii_digit}
use Rattle.std.specs.List.{take_while}
use Rattle.std.specs.Option.{option_map_or}
use Rattle.tocmark_read_scan.specs.Basic.{plus, starts_at}
use Rattle.tocmark_read_scan.specs.declared.syntax.Syntax.{Syntax}
use Rattle.tocmark_read_scan.proofs.PlainTests.{eq_of}
use Rattle.tocmark_read_tokens.specs.Footnotes.{note_label}
use Rattle.tocmark_read_lines.specs.Cells.{cell, bytes_of, cell_byte, cell_place, run_of, count_of, moved}
use Rattle.tocmark_read_lines.specs.Containers.{container_at, container_in, item_at}
use Rattle.tocmark_read_lines.specs.DefinitionLists.{begins_definition, definition_start}
use Rattle.tocmark_read_lines.specs.Marks.{is_rule, is_rule_byte, marker_at, bullet_at, ordered_at, digit_count, is_behind, heading_at, fence_at, is_fence_byte, underline_at, is_underline_byte, tail_of, tail_length}
use Rattle.tocmark_read_lines.specs.Footnotes.{note_at, note_start}
use Rattle.tocmark_read_lines.specs.declared.beginnings.Tail.{Tail}
use Rattle.tocmark_read_lines.specs.declared.cell.Cell.{Cell}
use Rattle.tocmark_read_lines.specs.declared.cell.Cursor.{Cursor}
use Rattle.tocmark_read_lines.specs.declared.line.Line.{Line}
use Rattle.tocmark_read_lines.specs.declared.footnote.FootnoteStart.{FootnoteStart}
use Rattle.tocmark_read_page.specs.Pieces.{piece_of, text_piece, whole_place, is_split}
use Rattle.tocmark_read_blocks.specs.Leaves.{leaf_at, mark_at, html_at, underline_in, rule_at}
use Rattle.tocmark_read_blocks.specs.declared.leaf.LeafStart.TheVariants as start
use Rattle.tocmark_read_blocks.proofs.PlainLines.{numbered}
use Rattle.tocmark_read_blocks.proofs.PlainStarts.{IsQuiet}
use Rattle.tocmark_laws.proofs.ExtensionBlocks.{never}
use Rattle.tocmark_laws.proofs.ExtensionParagraphs.{IsFreeByte, free_html}
use Rattle.tocmark_laws.proofs.WordsReading.{quiet_letter, free_letter}

-- a cursor at a column with ink
abbrev pub at_column : ℕ → Cursor
at_column c = record { column = c; ink = c }

-- a byte is at a column, with others after it
pub record StandsAt (cells : List Cell) (c b : ℕ) : Type 0 where
  pub some : nat_le (length cells) c ≡ false
  pub byte : cell_byte cells c ≡ b
  pub place : ℕ
  pub more : List Cell
  pub drops : drop c cells ≡ cell b place ∷ more
  pub others : List ℕ
  pub bytes : drop c (bytes_of cells) ≡ b ∷ others
  pub fits : c < 2 ^ 64

length_numbered : (k : ℕ) (xs : List ℕ) → length (numbered k xs) ≡ length xs
length_numbered k [] = refl
length_numbered k (x ∷ xs) = ap suc (length_numbered (k + 1) xs)

pub cell_numbered : (k : ℕ) (pre : List ℕ) (b : ℕ) (bs : List ℕ) → slice_get (numbered k (pre ++ b ∷ bs)) (length pre) ≡ Some (cell b (k + length pre))
cell_numbered k [] b bs = ap (λ n. Some (cell b n)) (let q : k ≡ k + 0 = omega arith in q)
cell_numbered k (x ∷ xs) b bs = cell_numbered (k + 1) xs b bs ∙ ap (λ n. Some (cell b n)) (let q : k + 1 + length xs ≡ k + suc (length xs) = omega arith in q)

pub drop_numbered : (k : ℕ) (pre : List ℕ) (b : ℕ) (bs : List ℕ) → drop (length pre) (numbered k (pre ++ b ∷ bs)) ≡ cell b (k + length pre) ∷ numbered (k + length pre + 1) bs
drop_numbered k [] b bs = ap (λ n. cell b n ∷ numbered (n + 1) bs) (let q : k ≡ k + 0 = omega arith in q)
drop_numbered k (x ∷ xs) b bs = drop_numbered (k + 1) xs b bs ∙ ap (λ n. cell b n ∷ numbered (n + 1) bs) (let q : k + 1 + length xs ≡ k + suc (length xs) = omega arith in q)

drop_bytes : (k : ℕ) (pre : List ℕ) (b : ℕ) (bs : List ℕ) → drop (length pre) (bytes_of (numbered k (pre ++ b ∷ bs))) ≡ b ∷ bytes_of (numbered (k + length pre + 1) bs)
drop_bytes k [] b bs = ap (λ n. b ∷ bytes_of (numbered (n + 1) bs)) (let q : k ≡ k + 0 = omega arith in q)
drop_bytes k (x ∷ xs) b bs = drop_bytes (k + 1) xs b bs ∙ ap (λ n. b ∷ bytes_of (numbered (n + 1) bs)) (let q : k + 1 + length xs ≡ k + suc (length xs) = omega arith in q)

pub stands_at : (k : ℕ) (pre : List ℕ) (b : ℕ) (bs : List ℕ) → length pre < 2 ^ 64 → StandsAt (numbered k (pre ++ b ∷ bs)) (length pre) b
stands_at k pre b bs fits =
    let width : length (numbered k (pre ++ b ∷ bs)) ≡ length pre + suc (length bs) = length_numbered k (pre ++ b ∷ bs) ∙ length-append pre (b ∷ bs) in
    record {
      some = grind (arith, width, nat_tests);
      byte = ap (λ o. option_map_or (λ (c : Cell). c.byte) o 10) (cell_numbered k pre b bs);
      place = k + length pre;
      more = numbered (k + length pre + 1) bs;
      drops = drop_numbered k pre b bs;
      others = bytes_of (numbered (k + length pre + 1) bs);
      bytes = drop_bytes k pre b bs;
      fits = fits;
    }

-- ---- no container begins

run_none : (cells : List Cell) (c b x : ℕ) → StandsAt cells c b → (b == x) ≡ false → run_of cells c x ≡ 0
run_none cells c b x h k = ap (λ (cs : List Cell). length (take_while (λ (d : Cell). d.byte == x) cs)) h.drops ∙ rw k refl

digits_none : (cells : List Cell) (c b : ℕ) → StandsAt cells c b → is_ascii_digit b ≡ false → digit_count cells c ≡ 0
digits_none cells c b h k = ap (λ (cs : List Cell). length (take_while (λ (d : Cell). is_ascii_digit d.byte) cs)) h.drops ∙ rw k refl

no_marker : (cells : List Cell) (c b : ℕ) → StandsAt cells c b → IsQuiet b → marker_at cells c ≡ None
unfolding marker_at bullet_at ordered_at
no_marker cells c b h q = rw (h.byte, q.minus, q.plus, q.star, digits_none cells c b h q.digit) refl

no_rule_here : (cells : List Cell) (tail : Tail) (c b : ℕ) → StandsAt cells c b → IsQuiet b → is_rule cells tail c ≡ false
unfolding is_rule is_rule_byte
no_rule_here cells tail c b h q = rw (h.byte, q.star, q.minus, q.underscore) refl

no_container_here : (cells : List Cell) (tail : Tail) (c b : ℕ) (within : Bool) → StandsAt cells c b → IsQuiet b → container_at cells tail (at_column c) within ≡ None
unfolding container_at item_at
no_container_here cells tail c b within h q =
    let flat : nat_le 4 (c - c) ≡ false = grind (arith, nat_tests) in
    rw (h.some, flat, h.byte, q.greater, no_rule_here cells tail c b h q, no_marker cells c b h q) refl

no_note_here : (cells : List Cell) (c b : ℕ) → StandsAt cells c b → (91 == b) ≡ false → note_at cells c ≡ None
unfolding note_at note_label starts_at
no_note_here cells c b h k = rw (h.bytes, k) refl

either_none : (k : Bool) → if◌then◌else◌ {A = Option FootnoteStart} k None None ≡ None
either_none true = refl
either_none false = refl

no_note_start : (syntax : Syntax) (cells : List Cell) (c b : ℕ) → StandsAt cells c b → (91 == b) ≡ false → note_start syntax cells (at_column c) ≡ None
unfolding note_start
no_note_start syntax cells c b h k = rw (no_note_here cells c b h k) (either_none _)

no_definition_here : (syntax : Syntax) (cells : List Cell) (c b : ℕ) → StandsAt cells c b → (b == 58) ≡ false → definition_start syntax cells (at_column c) ≡ None
unfolding definition_start begins_definition
no_definition_here syntax cells c b h k = rw (h.byte, k, never, never) refl

pub letter_opens_none : (syntax : Syntax) (cells : List Cell) (tail : Tail) (c b : ℕ) (within : Bool) → StandsAt cells c b → is_ascii_alphabetic b ≡ true → container_in syntax cells tail (at_column c) within ≡ None
unfolding container_in
letter_opens_none syntax cells tail c b within h letter =
    let free : IsFreeByte b = free_letter b letter in
    rw (no_definition_here syntax cells c b h free.colon, no_note_start syntax cells c b h free.bracket, no_container_here cells tail c b within h (quiet_letter b letter)) refl

-- ---- and a paragraph begins

no_heading_here : (cells : List Cell) (c b : ℕ) → StandsAt cells c b → IsQuiet b → heading_at cells c ≡ None
unfolding heading_at is_behind
no_heading_here cells c b h q =
    let none : run_of cells c 35 ≡ 0 = run_none cells c b 35 h q.hash in
    let same : plus c 0 ≡ c = let small : c < 2 ^ 64 = h.fits in omega (arith, small) in
    rw (none, same, h.some, h.byte, q.space) refl

no_fence_here : (cells : List Cell) (c b : ℕ) → StandsAt cells c b → IsQuiet b → fence_at cells (at_column c) ≡ None
unfolding fence_at is_fence_byte
no_fence_here cells c b h q = rw (h.byte, q.backtick, q.tilde) refl

no_html_here : (b : ℕ) (bs : List ℕ) (within : Bool) → (b == 60) ≡ false → html_at (b ∷ bs) within ≡ None
unfolding html_at
no_html_here b bs within k = rw (free_html b bs k) refl

no_underline_here : (cells : List Cell) (c b : ℕ) (directly : Bool) → StandsAt cells c b → IsQuiet b → underline_in cells c directly ≡ None
unfolding underline_in underline_at is_underline_byte
no_underline_here cells c b true h q = rw (h.byte, q.equals, q.minus) refl
no_underline_here cells c b false h q = refl

pub letter_begins_text : (cells : List Cell) (tail : Tail) (c b : ℕ) (bs : List ℕ) (within directly : Bool) → StandsAt cells c b → is_ascii_alphabetic b ≡ true → leaf_at cells (b ∷ bs) tail (at_column c) within directly ≡ start.Text
unfolding leaf_at mark_at rule_at
letter_begins_text cells tail c b bs within directly h letter =
    let q : IsQuiet b = quiet_letter b letter in
    let flat : nat_lt (c - c) 4 ≡ true = grind (arith, nat_tests) in
    rw (h.some, flat, no_heading_here cells c b h q, no_fence_here cells c b h q, no_html_here b bs within q.less, no_underline_here cells c b directly h q, no_rule_here cells tail c b h q) refl

-- ---- the cursor and the piece there

pub moved_to : (cells : List Cell) (c b : ℕ) → StandsAt cells c b → (b == 32) ≡ false → 0 < c → moved cells (at_column 0) c ≡ at_column c
unfolding moved
moved_to cells c b h k some =
    let before : nat_le c 0 ≡ false = grind (arith, nat_tests) in
    let none : run_of cells c 32 ≡ 0 = run_none cells c b 32 h k in
    let same : plus c 0 ≡ c = let small : c < 2 ^ 64 = h.fits in omega (arith, small) in
    rw (before, none, same) refl

other_places : (k n : ℕ) → (k + n == k + suc n) ≡ false
other_places k n = grind (arith, nat_tests)

pub place_numbered : (k : ℕ) (pre : List ℕ) (b : ℕ) (bs : List ℕ) (end : ℕ) → cell_place (numbered k (pre ++ b ∷ bs)) (length pre) end ≡ k + length pre
place_numbered k pre b bs end = ap (λ o. option_map_or (λ (c : Cell). c.at) o end) (cell_numbered k pre b bs)

not_split : (k : ℕ) (front : List ℕ) (a b : ℕ) (bs : List ℕ) → is_split (numbered k ((front ++ a ∷ []) ++ b ∷ bs)) (length (front ++ a ∷ [])) ≡ false
unfolding is_split
not_split k front a b bs =
    let pre : List ℕ = front ++ a ∷ [] in
    let wide : length pre ≡ suc (length front) = (let q : length pre ≡ length front + 1 = length-append front (a ∷ []) in omega (arith, q)) in
    let back : length pre - 1 ≡ length front = omega (arith, wide) in
    let first : cell_place (numbered k (pre ++ b ∷ bs)) (length pre - 1) 0 ≡ k + length front =
    ap (λ n. cell_place (numbered k (pre ++ b ∷ bs)) n 0) back
    ∙ ap (λ (xs : List ℕ). cell_place (numbered k xs) (length front) 0) (append_assoc front (a ∷ []) (b ∷ bs))
    ∙ place_numbered k front a (b ∷ bs) 0
    in
    let second : cell_place (numbered k (pre ++ b ∷ bs)) (length pre) 0 ≡ k + suc (length front) = place_numbered k pre b bs 0 ∙ ap (λ n. k + n) wide in
    rw (first, second, other_places k (length front)) (three (nat_lt 0 (length pre)) (nat_lt (length pre) (length (numbered k (pre ++ b ∷ bs)))))
  where
    three : (x y : Bool) → (x && y && false) ≡ false
    three true true = refl
    three true false = refl
    three false y = refl

pub piece_there : (k : ℕ) (front : List ℕ) (a b : ℕ) (bs : List ℕ) (line : Line) → text_piece (numbered k ((front ++ a ∷ []) ++ b ∷ bs)) (at_column (length (front ++ a ∷ []))) line ≡ piece_of 0 (k + length (front ++ a ∷ [])) line.end line.next
unfolding text_piece whole_place
piece_there k front a b bs line =
    rw (not_split k front a b bs, place_numbered k (front ++ a ∷ []) b bs line.end) refl

-- ---- no line of dashes

last_run : (p : Cell → Bool) (zs : List Cell) (x : Cell) (ws : List Cell) → p x ≡ false → length (take_while p (zs ++ x ∷ ws)) ≤ length zs
last_run p [] x ws h = let e : length (take_while p (x ∷ ws)) ≡ 0 = ap length (take_while-cons p x ws) ∙ rw h refl in omega (arith, e)
last_run p (z ∷ zs) x ws h = one_more (p z) refl (last_run p zs x ws h)
  where
    one_more : (t : Bool) → p z ≡ t → length (take_while p (zs ++ x ∷ ws)) ≤ length zs → length (take_while p (z ∷ (zs ++ x ∷ ws))) ≤ suc (length zs)
    one_more true e m = let q : length (take_while p (z ∷ (zs ++ x ∷ ws))) ≡ suc (length (take_while p (zs ++ x ∷ ws))) = ap length (take_while-cons p z (zs ++ x ∷ ws)) ∙ rw e refl in omega (arith, q, m)
    one_more false e m = let q : length (take_while p (z ∷ (zs ++ x ∷ ws))) ≡ 0 = ap length (take_while-cons p z (zs ++ x ∷ ws)) ∙ rw e refl in omega (arith, q)

length_reverse : {A : Type 0} (xs : List A) → length (reverse xs) ≡ length xs
length_reverse [] = refl
length_reverse (x ∷ xs) = ap length (reverse-append (x ∷ []) xs) ∙ length-append (reverse xs) (x ∷ []) ∙ (let e : length (reverse xs) ≡ length xs = length_reverse xs in let q : length (reverse xs) + 1 ≡ suc (length xs) = omega (arith, e) in q)

-- the marks at the end of a line begin after a letter of it
tail_begins : (xs : List Cell) (x : Cell) (ys : List Cell) (b : ℕ) → (x.byte == 32) ≡ false → (x.byte == b) ≡ false → tail_length (xs ++ x ∷ ys) b ≤ length ys
tail_begins xs x ys b h k =
    let p : Cell → Bool = λ c. (c.byte == 32) || (c.byte == b) in
    let other : p x ≡ false = rw (h, k) refl in
    let turned_round : reverse (xs ++ x ∷ ys) ≡ reverse ys ++ x ∷ reverse xs =
    reverse-append xs (x ∷ ys) ∙ ap (λ (l : List Cell). l ++ reverse xs) (reverse-append (x ∷ []) ys) ∙ append_assoc (reverse ys) (x ∷ []) (reverse xs)
    in
    let run : length (take_while p (reverse (xs ++ x ∷ ys))) ≡ length (take_while p (reverse ys ++ x ∷ reverse xs)) = ap (λ (l : List Cell). length (take_while p l)) turned_round in
    let least : length (take_while p (reverse ys ++ x ∷ reverse xs)) ≤ length (reverse ys) = last_run p (reverse ys) x (reverse xs) other in
    let wide : length (reverse ys) ≡ length ys = length_reverse ys in
    omega (arith, run, least, wide)

both_none : (a b c d : Bool) → c ≡ false → (a && b && c && d) ≡ false
both_none true true c d h = rw h refl
both_none true false c d h = refl
both_none false b c d h = refl

second_none : (a c d : Bool) → (a && false && c && d) ≡ false
second_none true c d = refl
second_none false c d = refl

rule_none : (cells : List Cell) (tail : Tail) → ((cell_byte cells 0 == tail.byte) ≡ true → nat_le tail.from 0 ≡ false) → is_rule cells tail 0 ≡ false
unfolding is_rule
rule_none cells tail h = go (cell_byte cells 0 == tail.byte) refl
  where
    go : (t : Bool) → (cell_byte cells 0 == tail.byte) ≡ t → (is_rule_byte (cell_byte cells 0) && t && nat_le tail.from 0 && nat_le 3 (count_of cells 0 (cell_byte cells 0))) ≡ false
    go true e = both_none (is_rule_byte (cell_byte cells 0)) true (nat_le tail.from 0) (nat_le 3 (count_of cells 0 (cell_byte cells 0))) (h e)
    go false e = second_none (is_rule_byte (cell_byte cells 0)) (nat_le tail.from 0) (nat_le 3 (count_of cells 0 (cell_byte cells 0)))

tail_after : (cells : List Cell) → (tail_of cells).from ≡ length cells - tail_length cells (tail_of cells).byte
unfolding tail_of
tail_after cells = refl

-- another byte after the front keeps a line from being a thematic break
pub no_rule_front : (xs : List Cell) (x : Cell) (ys : List Cell) (b : ℕ) → 0 < length xs → cell_byte (xs ++ x ∷ ys) 0 ≡ b → (x.byte == 32) ≡ false → (x.byte == b) ≡ false → is_rule (xs ++ x ∷ ys) (tail_of (xs ++ x ∷ ys)) 0 ≡ false
no_rule_front xs x ys b some first space other =
    let cells : List Cell = xs ++ x ∷ ys in
    rule_none cells (tail_of cells) (λ e. (
    let same : (tail_of cells).byte ≡ b = sym (eq_of (cell_byte cells 0) (tail_of cells).byte e) ∙ first in
    let least : tail_length cells b ≤ length ys = tail_begins xs x ys b space other in
    let from : (tail_of cells).from ≡ length cells - tail_length cells b = tail_after cells ∙ ap (λ n. length cells - tail_length cells n) same in
    let wide : length cells ≡ length xs + suc (length ys) = length-append xs (x ∷ ys) in
    let late : 0 < (tail_of cells).from = omega (arith, least, from, wide, some) in
    let q : nat_le (tail_of cells).from 0 ≡ false = grind (arith, late, nat_tests) in q
    ))

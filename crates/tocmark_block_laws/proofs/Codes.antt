-- Lines in code and HTML: what the reader keeps of them, and the fences that end code.
use Rattle.std.proofs.Common.{◌≡◌, ℕ, zero, suc, ◌+◌, ◌-◌, ◌^◌, ◌<◌, ◌≤◌, Bool, true, false, not, ◌==◌, ◌&&◌, if◌then◌else◌, nat_lt, nat_le, min, List, [], ◌∷◌, ◌++◌, length, take, drop, reverse, refl, ap, sym, subst, ◌∙◌, arith, append_assoc, append-nil, length-append, length-drop, true≢false}
use Rattle.std.specs.List.{AllByRecursion}
use Rattle.std.proofs.lemmas.Bool.Decides.{nat_tests}
use Rattle.std.proofs.lemmas.List.{drop-drop, length-reverse, reverse-append}
use Rattle.tocmark_read_scan.specs.Basic.{plus, bytes_between}
use Rattle.tocmark_read_scan.proofs.PlainPieces.{piece_between}
use Rattle.tocmark_read_scan.proofs.PlainTests.{eq_of}
use Rattle.tocmark_read_lines.specs.Cells.{cells_at, cell_place, ink_from, first_cursor, is_blank_at}
use Rattle.tocmark_read_lines.specs.Lines.{line, lines_from, lines_of}
use Rattle.tocmark_read_lines.specs.Html.{html_ends}
use Rattle.tocmark_read_lines.specs.declared.html.HtmlKind.{HtmlKind}
use Rattle.tocmark_read_lines.specs.Marks.{closes_fence}
use Rattle.tocmark_read_lines.specs.declared.beginnings.Fence.{Fence}
use Rattle.tocmark_read_lines.specs.declared.cell.Cell.{Cell}
use Rattle.tocmark_read_lines.specs.declared.cell.Cursor.{Cursor}
use Rattle.tocmark_read_lines.specs.declared.line.Line.{Line}
use Rattle.tocmark_read_lines.proofs.Columns.{length_kept, plain_cells, place_kept}
use Rattle.tocmark_read_page.specs.Pieces.{piece_of, is_split, code_piece, keeps_line}
use Rattle.tocmark_read_page.specs.declared.leaf.Leaf.TheVariants as leaf
use Rattle.tocmark_commonmark.specs.Lines.{Part, Written, is_blank, tab_width, indent, ink, spelled, without_columns, cells}
use Rattle.tocmark_commonmark.specs.Leaves.{code_line, closes}
use Rattle.tocmark_commonmark.specs.Beginnings.{begins_with}
use Rattle.tocmark_block_laws.specs.Quotes.{IsPlain, ends_with_feed}
use Rattle.tocmark_block_laws.proofs.Columns.{Behind, ink_on, plus_low}
use Rattle.tocmark_block_laws.proofs.Marks.{closes_on}
use Rattle.tocmark_block_laws.proofs.TextLines.{Plain, plain_head, no_tab, Sound, stop_same, ends_same, drop_plain}
use Rattle.tocmark_block_laws.proofs.Texts.{between_length, place_there}
use Rattle.tocmark_block_laws.proofs.HtmlEnds.{ends_ink}
use Rattle.tocmark_block_laws.proofs.Fronts.{spaces_next, spaces_none, spaces_of, part_at, place_at, indent_same, spaces_low, blank_same, cursor_same, behind_at, between_further}

-- a line that ends with a line feed
pub record Fed (text : List ℕ) (l : Line) : Type 0 where
  pub further : l.end < l.next
  pub bytes : bytes_between text l.start l.next ≡ bytes_between text l.start l.end ++ 10 ∷ []

begins_longer : (xs ys : List ℕ) → 0 < length xs → begins_with 10 (xs ++ ys) ≡ begins_with 10 xs
begins_longer [] ys h = absurd (omega (arith, h))
begins_longer (x ∷ xs) ys h = refl

fed_from : (text done part bs : List ℕ) (before start at : ℕ) → IsPlain text → IsPlain bs → text ≡ done ++ (part ++ bs) → start ≡ length done → at ≡ length done + length part → begins_with 10 (reverse part) ≡ false → ends_with_feed text ≡ true
    → AllByRecursion (Fed text) (lines_from text before start at bs)
fed_from text done [] [] before start at clean more e s t none fed =
    let no : nat_lt start at ≡ false = grind (arith, nat_tests) in
    rw no tt
fed_from text done (x ∷ xs) [] before start at clean more e s t none fed =
    absurd (true≢false (sym fed ∙ ap (λ ys. begins_with 10 (reverse ys)) (e ∙ ap (λ ys. done ++ ys) (append-nil (x ∷ xs))) ∙ ap (begins_with 10) (reverse-append done (x ∷ xs)) ∙ begins_longer (reverse (x ∷ xs)) (reverse done) (omega (arith, length-reverse (x ∷ xs))) ∙ none))
fed_from text done part (b ∷ bs) before start at clean more e s t none fed =
    rw (ends_same text b at m.return, stop_same text start b at clean)
    (by (b == 10) refl
    (fed_from text (done ++ (part ++ b ∷ [])) [] bs (before + 1) (at + 1) (at + 1) clean m.more there longer ended refl fed)
    (λ q. fed_from text done (part ++ b ∷ []) bs before start (at + 1) clean m.more same s further (ap (begins_with 10) (reverse-append part (b ∷ [])) ∙ q) fed))
  where
    m : Plain b bs
    m = plain_head b bs more

    same : text ≡ done ++ ((part ++ b ∷ []) ++ bs)
    same = e ∙ ap (λ (ys : List ℕ). done ++ ys) (sym (append_assoc part (b ∷ []) bs))

    there : text ≡ (done ++ (part ++ b ∷ [])) ++ ([] ++ bs)
    there = same ∙ sym (append_assoc done (part ++ b ∷ []) bs)

    wide : length (part ++ b ∷ []) ≡ length part + 1
    wide = length-append part (b ∷ [])

    whole : length (done ++ (part ++ b ∷ [])) ≡ length done + length (part ++ b ∷ [])
    whole = length-append done (part ++ b ∷ [])

    longer : at + 1 ≡ length (done ++ (part ++ b ∷ []))
    longer = omega (arith, wide, whole, t)

    ended : at + 1 ≡ length (done ++ (part ++ b ∷ [])) + 0
    ended = omega (arith, longer)

    further : at + 1 ≡ length done + length (part ++ b ∷ [])
    further = omega (arith, wide, t)

    this : (b == 10) ≡ true → Fed text (line before start at (at + 1))
    this q = record {
      further = omega arith;
      bytes = piece_between text done (part ++ b ∷ []) bs start (at + 1) same s further
          ∙ ap (λ c. part ++ c ∷ []) (eq_of b 10 q)
          ∙ ap (λ ys. ys ++ 10 ∷ []) (sym (piece_between text done part (b ∷ bs) start at e s t));
    }

    by : (k : Bool) → (b == 10) ≡ k → AllByRecursion (Fed text) (lines_from text (before + 1) (at + 1) (at + 1) bs) → ((b == 10) ≡ false → AllByRecursion (Fed text) (lines_from text before start (at + 1) bs))
        → AllByRecursion (Fed text) (if k then line before start at (at + 1) ∷ lines_from text (before + 1) (at + 1) (at + 1) bs else lines_from text before start (at + 1) bs)
    by true q next cont = (this q, next)
    by false q next cont = cont q

-- each line of a text that ends with a line feed does
pub lines_fed : (text : List ℕ) → IsPlain text → ends_with_feed text ≡ true → AllByRecursion (Fed text) (lines_of text)
lines_fed text h fed = fed_from text [] [] text 0 0 0 h h refl refl refl refl fed

-- the spaces in front of fewer bytes

pub spaces_dropped : (c : ℕ) (xs : List ℕ) → IsPlain xs → c ≤ spaces_of xs → c + spaces_of (drop c xs) ≡ spaces_of xs
spaces_dropped zero xs h low = omega arith
spaces_dropped (suc c) [] h low = absurd (omega (arith, low))
spaces_dropped (suc c) (b ∷ bs) h low = by (b == 32) refl (λ k. spaces_dropped c bs p.more k)
  where
    p : Plain b bs
    p = plain_head b bs h

    by : (k : Bool) → (b == 32) ≡ k → (c ≤ spaces_of bs → c + spaces_of (drop c bs) ≡ spaces_of bs) → suc c + spaces_of (drop c bs) ≡ spaces_of (b ∷ bs)
    by true e again =
        let next : spaces_of (b ∷ bs) ≡ suc (spaces_of bs) = spaces_next b bs e in
        let rest : c + spaces_of (drop c bs) ≡ spaces_of bs = again (omega (arith, low, next)) in
        omega (arith, next, rest)
    by false e again =
        let none : spaces_of (b ∷ bs) ≡ 0 = spaces_none b bs e p.tab in
        absurd (omega (arith, none, low))

-- a line of code as it is declared

columns_spelled : (k c : ℕ) (xs : List ℕ) → IsPlain xs → spelled (without_columns k (record { column = c; spaces = 0; bytes = xs })) ≡ drop (min k (spaces_of xs)) xs
columns_spelled zero c xs h = ap (λ n. drop n xs) (let q : 0 ≡ min 0 (spaces_of xs) = omega arith in q)
columns_spelled (suc k) c [] h = columns_spelled k c [] h ∙ ap (λ n. drop n []) (let q : min k 0 ≡ min (suc k) 0 = omega arith in q)
columns_spelled (suc k) c (b ∷ bs) h = by (b == 32) (b == 9) refl p.tab (columns_spelled k (c + 1) bs p.more) (columns_spelled k c (b ∷ bs) h)
  where
    p : Plain b bs
    p = plain_head b bs h

    next : Part
    next = record { column = c + 1; spaces = 0; bytes = bs }

    after_tab : Part
    after_tab = record { column = c + tab_width c; spaces = tab_width c - 1; bytes = bs }

    same : Part
    same = record { column = c; spaces = 0; bytes = b ∷ bs }

    by : (t g : Bool) → (b == 32) ≡ t → g ≡ false → spelled (without_columns k next) ≡ drop (min k (spaces_of bs)) bs
        → spelled (without_columns k same) ≡ drop (min k (spaces_of (b ∷ bs))) (b ∷ bs)
        → spelled (without_columns k (if t then next else (if g then after_tab else same))) ≡ drop (min (suc k) (spaces_of (b ∷ bs))) (b ∷ bs)
    by true g e n one two = one ∙ sym (ap (λ n. drop n (b ∷ bs)) (let next : spaces_of (b ∷ bs) ≡ suc (spaces_of bs) = spaces_next b bs e in let q : min (suc k) (spaces_of (b ∷ bs)) ≡ suc (min k (spaces_of bs)) = omega (arith, next) in q))
    by false true e n one two = absurd (true≢false n)
    by false false e n one two = two ∙ ap (λ n. drop n (b ∷ bs)) (let none : spaces_of (b ∷ bs) ≡ 0 = spaces_none b bs e p.tab in let q : min k (spaces_of (b ∷ bs)) ≡ min (suc k) (spaces_of (b ∷ bs)) = omega (arith, none) in q)

-- what the reader keeps of a line from a column on, if this is left of it
pub record Taken (text : List ℕ) (l : Line) (columns : List Cell) (c : ℕ) (zs : List ℕ) : Type 0 where
  pub at : ℕ
  pub piece : code_piece columns c l ≡ piece_of 0 at l.end l.next
  pub some : nat_lt at l.next ≡ true
  pub says : bytes_between text at l.next ≡ zs ++ 10 ∷ []
  pub ends : bytes_between text at l.end ≡ zs

-- a line in code or HTML as both see it, from a place on where this is left of it
pub record CodeFacts (text : List ℕ) (l : Line) (columns : List Cell) (place : Cursor) (ys : List ℕ) : Type 0 where
  pub small : place.ink + 3 < 2 ^ 64
  pub order : place.column ≤ place.ink
  pub blank : is_blank_at columns place ≡ is_blank ys
  pub width : indent (part_at place.column ys) ≡ place.ink - place.column
  pub closing : (f : Fence) → closes_fence columns place f ≡ closes f (Written (part_at place.column ys))
  pub taken : Fed text l → (k : ℕ) → k ≤ place.ink - place.column → Taken text l columns (place.column + k) (drop k ys)
  pub keeps : (k : ℕ) → k ≤ place.ink - place.column → keeps_line columns (place.column + k) leaf.Indented ≡ not (is_blank ys)
  pub html : (k : HtmlKind) → html_ends k ys ≡ html_ends k (ink (part_at place.column ys))
  pub spelled : (k : ℕ) → code_line k (Written (part_at place.column ys)) ≡ drop (min k (place.ink - place.column)) ys

drop_more_front : (c : ℕ) (xs ys : List ℕ) → c ≤ length xs → drop c (xs ++ ys) ≡ drop c xs ++ ys
drop_more_front zero xs ys low = refl
drop_more_front (suc c) [] ys low = absurd (omega (arith, low))
drop_more_front (suc c) (x ∷ xs) ys low = drop_more_front c xs ys (omega (arith, low))

-- a part that has a byte lies in its text
between_within : (text : List ℕ) (from to : ℕ) → 0 < length (bytes_between text from to) → to ≤ length text
between_within text from to h = by (nat_le from to) (nat_le to (length text)) refl h
  where
    by : (j k : Bool) → nat_le to (length text) ≡ k → 0 < length (if j && k then take (to - from) (drop from text) else []) → to ≤ length text
    by j true q s = grind (arith, q, nat_tests)
    by true false q s = absurd (omega (arith, s))
    by false false q s = absurd (omega (arith, s))

unsplit : (start : ℕ) (xs : List ℕ) (c : ℕ) → start + length xs + 3 < 2 ^ 64 → is_split (cells_at start [] xs) c ≡ false
unfolding is_split
unsplit start xs zero fits = refl
unsplit start xs (suc d) fits = by (nat_lt (suc d) (length xs)) refl
  where
    cs : List Cell
    cs = cells_at start [] xs

    count : length cs ≡ length xs
    count = length_kept start [] xs

    place : (e : ℕ) → e < length xs → cell_place cs e 0 ≡ start + e
    place e low =
        let there : nat_lt e (length xs) ≡ true = grind (arith, low, nat_tests) in
        let sum : plus start e ≡ start + e = plus_low start e (omega (arith, low, fits)) in
        place_kept start [] xs e 0 (omega (arith, fits)) ∙ rw there sum

    first : nat_lt 0 (suc d) ≡ true
    first = grind (arith, nat_tests)

    by : (k : Bool) → nat_lt (suc d) (length xs) ≡ k → (nat_lt 0 (suc d) && nat_lt (suc d) (length cs) && (cell_place cs (suc d - 1) 0 == cell_place cs (suc d) 0)) ≡ false
    by true q =
        let low : suc d < length xs = grind (arith, q, nat_tests) in
        let less : suc d - 1 ≡ d = omega arith in
        let differ : (start + d == start + suc d) ≡ false = grind (arith, nat_tests) in
        rw (first, count, q, less, place d (omega (arith, low)), place (suc d) low) differ
    by false q = rw (first, count, q) refl

pub code_facts : (text : List ℕ) (l : Line) (c : ℕ) → IsPlain (bytes_between text l.start l.end) → length text + 3 < 2 ^ 64 → Sound text l → c ≤ length (bytes_between text l.start l.end)
    → CodeFacts text l (cells_at l.start [] (bytes_between text l.start l.end)) (place_at c (drop c (bytes_between text l.start l.end))) (drop c (bytes_between text l.start l.end))
unfolding code_piece keeps_line first_cursor
code_facts text l c h fits sound inside =
    record {
      small = omega (arith, most, short, left, inside);
      order = omega arith;
      blank = ap (λ k. nat_le k (c + n)) count ∙ blank_left;
      width = indent_same c ys plain ∙ back;
      closing = λ f. closes_on (c + n) whole rest (place_at c ys) (first_cursor rest) f behind refl no_spaces ∙ ap (λ k. k && closes_fence rest (first_cursor rest) f) narrow;
      taken = λ fed k low. record {
        at = l.start + (c + k);
        piece = rw (unsplit l.start xs (c + k) (omega (arith, wide, in_text, fits)), placed k (omega (arith, low))) refl;
        some = let q : l.start + (c + k) < l.next = let e : l.end < l.next = fed.further in omega (arith, low, most, left, inside, wide, e) in grind (arith, q, nat_tests);
        says = later fed k (omega (arith, low));
        ends = between_further text l.start (c + k) l.end (omega (arith, low, most, left, inside, wide)) in_text ∙ sym (drop-drop k c xs);
      };
      keeps = λ k low. rw (inked k (omega (arith, low)), count) kept;
      html = λ k. ends_ink k n ys plain (omega arith) (omega (arith, left, short));
      spelled = λ k. columns_spelled k c ys plain ∙ ap (λ m. drop (min k m) ys) back;
    }
  where
    xs : List ℕ
    xs = bytes_between text l.start l.end

    ys : List ℕ
    ys = drop c xs

    n : ℕ
    n = spaces_of ys

    whole : List Cell
    whole = cells_at l.start [] xs

    rest : List Cell
    rest = cells (drop n ys)

    plain : IsPlain ys
    plain = drop_plain c xs h

    left : length ys ≡ length xs - c
    left = length-drop c xs

    ordered : l.start ≤ l.end
    ordered = sound.order

    in_text : l.end ≤ length text
    in_text = sound.within

    wide : l.start + length xs ≡ l.end
    wide = omega (arith, between_length text l.start l.end ordered in_text, ordered)

    most : n ≤ length ys
    most = spaces_low ys

    short : length xs + 3 < 2 ^ 64
    short = omega (arith, wide, in_text, fits)

    count : length whole ≡ length xs
    count = length_kept l.start [] xs

    back : n ≡ c + n - c
    back = omega arith

    behind_in : (k : ℕ) → k ≤ n → Behind (c + k) whole (cells (drop k ys))
    behind_in k low = subst (λ zs. Behind (c + k) whole (cells zs)) (sym (drop-drop k c xs)) (behind_at l.start xs (c + k) (omega (arith, low, most, left, inside)) h short)

    behind : Behind (c + n) whole rest
    behind = behind_in n (omega arith)

    cursor_in : (k : ℕ) → k ≤ n → (first_cursor (cells (drop k ys))).ink ≡ spaces_of (drop k ys)
    cursor_in k low =
        let inner : IsPlain (drop k ys) = drop_plain k ys plain in
        let fewer : length (drop k ys) + 3 < 2 ^ 64 = omega (arith, length-drop k ys, left, short) in
        ap (λ cs. (first_cursor cs).ink) (plain_cells 0 (drop k ys) (no_tab (drop k ys) inner)) ∙ ap (λ (x : Cursor). x.ink) (cursor_same 0 (drop k ys) inner fewer)
        ∙ (let q : 0 + spaces_of (drop k ys) ≡ spaces_of (drop k ys) = omega arith in q)

    no_spaces : (first_cursor rest).ink ≡ 0
    no_spaces = cursor_in n (omega arith) ∙ (let q : n + spaces_of (drop n ys) ≡ n = spaces_dropped n ys plain (omega arith) in let r : spaces_of (drop n ys) ≡ 0 = omega (arith, q) in r)

    narrow : nat_le (c + n - c) 3 ≡ nat_lt (indent (part_at c ys)) 4
    narrow = let q : indent (part_at c ys) ≡ n = indent_same c ys plain in grind (arith, q, nat_tests)

    placed : (k : ℕ) → k ≤ n → cell_place whole (c + k) l.end ≡ l.start + (c + k)
    placed k low = place_there l.start xs (c + k) l.end (omega (arith, low, most, left, inside)) (omega (arith, wide)) (omega (arith, in_text, fits))

    later : Fed text l → (k : ℕ) → k ≤ n → bytes_between text (l.start + (c + k)) l.next ≡ drop k ys ++ 10 ∷ []
    later fed k low =
        let long : length (bytes_between text l.start l.next) ≡ length (xs ++ 10 ∷ []) = ap length fed.bytes in
        let more : length (xs ++ 10 ∷ []) ≡ length xs + 1 = length-append xs (10 ∷ []) in
        let further : l.end < l.next = fed.further in
        between_further text l.start (c + k) l.next (omega (arith, low, most, left, inside, wide, further)) (between_within text l.start l.next (omega (arith, long, more)))
        ∙ ap (drop (c + k)) fed.bytes ∙ drop_more_front (c + k) xs (10 ∷ []) (omega (arith, low, most, left, inside))
        ∙ ap (λ zs. zs ++ 10 ∷ []) (sym (drop-drop k c xs))

    inked : (k : ℕ) → k ≤ n → ink_from whole (c + k) ≡ c + n
    inked k low =
        ap (ink_from whole) (let q : c + k ≡ c + k + 0 = omega arith in q)
        ∙ ink_on (c + k) whole (cells (drop k ys)) 0 (behind_in k low) (omega arith)
        ∙ ap (λ m. c + k + m) (ink_first k low)
        ∙ (let q : k + spaces_of (drop k ys) ≡ n = spaces_dropped k ys plain low in let r : c + k + spaces_of (drop k ys) ≡ c + n = omega (arith, q) in r)
      where
        ink_first : (k : ℕ) → k ≤ n → ink_from (cells (drop k ys)) 0 ≡ spaces_of (drop k ys)
        ink_first k low = cursor_in k low

    blank_left : nat_le (length xs) (c + n) ≡ is_blank ys
    blank_left = let q : nat_le (length ys) n ≡ is_blank ys = blank_same ys in grind (arith, q, most, left, inside, nat_tests)

    kept : nat_lt (c + n) (length xs) ≡ not (is_blank ys)
    kept = let q : nat_le (length ys) n ≡ is_blank ys = blank_same ys in grind (arith, q, most, left, inside, nat_tests)

-- A line that begins an item: both see the same marker, the same width, and the same content after it.
use Rattle.std.proofs.Common.{◌≡◌, ◌⊎◌, inl, inr, ℕ, zero, suc, ◌+◌, ◌-◌, ◌^◌, ◌<◌, ◌≤◌, Bool, true, false, not, ◌==◌, ◌&&◌, ◌||◌, if◌then◌else◌, min, nat_lt, nat_le, List, [], ◌∷◌, length, drop, refl, ap, sym, subst, ◌∙◌, arith, length-drop, true≢false}
use Rattle.std.specs.Prelude.{take_while, Option, Some, None}
use Rattle.std.specs.Option.{option_map, option_map_or, option_or}
use Rattle.std.proofs.lemmas.Bool.Decides.{nat_tests}
use Rattle.std.proofs.lemmas.List.{drop-drop, length-map}
use Rattle.std.proofs.lemmas.Option.{slice_get_past}
use Rattle.tocmark_read_scan.specs.Basic.{plus, byte_at, bytes_between}
use Rattle.tocmark_read_scan.specs.declared.syntax.TheConstants.{CORE}
use Rattle.tocmark_read_scan.proofs.PlainTests.{differs}
use Rattle.tocmark_read_lines.specs.Cells.{bytes_of, cells_at, cell_byte, run_of, ink_from, moved, first_cursor}
use Rattle.tocmark_read_lines.specs.Containers.{container_at, container_in, item_at, item_gap, is_first, may_interrupt}
use Rattle.tocmark_read_lines.specs.DefinitionLists.{definition_start}
use Rattle.tocmark_read_lines.specs.Footnotes.{note_start}
use Rattle.tocmark_read_lines.specs.Marks.{heading_at, fence_at, tail_of, is_rule, is_behind, digit_count, number_of, bullet_at, ordered_at, marker_at}
use Rattle.tocmark_read_lines.specs.declared.beginnings.Fence.{Fence}
use Rattle.tocmark_read_lines.specs.declared.beginnings.Heading.{Heading}
use Rattle.tocmark_read_lines.specs.declared.beginnings.Marker.{Marker}
use Rattle.tocmark_read_lines.specs.declared.cell.Cell.{Cell}
use Rattle.tocmark_read_lines.specs.declared.container.ContainerStart.{ContainerStart}
use Rattle.tocmark_read_lines.specs.declared.container.ContainerStart.TheVariants as begins
use Rattle.tocmark_read_lines.specs.declared.container.ItemStart.{ItemStart}
use Rattle.tocmark_read_lines.specs.declared.html.HtmlKind.{HtmlKind}
use Rattle.tocmark_read_lines.specs.declared.line.Line.{Line}
use Rattle.tocmark_read_lines.proofs.Columns.{bytes_kept, length_kept, byte_asked, run_asked}
use Rattle.tocmark_commonmark.specs.Lines.{Part, is_blank_byte, is_blank, tab_width, indent, after_ink, without_columns, cells}
use Rattle.tocmark_commonmark.specs.Beginnings.{ItemMark, marker_spaces, item_mark, BlankLine, CodeLine, ItemLine, first_of_these, html_if, beginning_of, beginning, number_interrupts, interrupts}
use Rattle.tocmark_block_laws.specs.Quotes.{IsPlain}
use Rattle.tocmark_block_laws.proofs.Columns.{le_on}
use Rattle.tocmark_block_laws.proofs.Marks.{marker_on}
use Rattle.tocmark_block_laws.proofs.Texts.{blanks_same}
use Rattle.tocmark_block_laws.proofs.TextLines.{Plain, plain_head, drop_plain}
use Rattle.tocmark_block_laws.proofs.Fronts.{spaces_of, part_at, place_at, ink_at, indent_same, spaces_low, blank_same, drop_byte, ink_first, spaces_next, spaces_none}
use Rattle.tocmark_block_laws.proofs.Starts.{left_at, At, Inked, inked_line, Near, near_line, rule_near}
use Rattle.tocmark_block_laws.proofs.Seen.{moved_place}

-- spaces in front of a line

pub columns_dropped : (k c : ℕ) (ys : List ℕ) → IsPlain ys → k ≤ spaces_of ys → without_columns k (part_at c ys) ≡ part_at (c + k) (drop k ys)
columns_dropped zero c ys h low = ap (λ n. part_at n ys) (let q : c ≡ c + 0 = omega arith in q)
columns_dropped (suc k) c [] h low = absurd (omega (arith, low))
columns_dropped (suc k) c (b ∷ bs) h low = by (b == 32) refl (λ less. columns_dropped k (c + 1) bs p.more less)
  where
    p : Plain b bs
    p = plain_head b bs h

    tabbed : Part
    tabbed = record { column = c + tab_width c; spaces = tab_width c - 1; bytes = bs }

    by : (t : Bool) → (b == 32) ≡ t → (k ≤ spaces_of bs → without_columns k (part_at (c + 1) bs) ≡ part_at (c + 1 + k) (drop k bs)) → without_columns (suc k) (part_at c (b ∷ bs)) ≡ part_at (c + suc k) (drop k bs)
    by true e again =
        ap (λ t. without_columns k (if t then part_at (c + 1) bs else (if b == 9 then tabbed else part_at c (b ∷ bs)))) e
        ∙ again (omega (arith, low, spaces_next b bs e))
        ∙ ap (λ n. part_at n (drop k bs)) (let q : c + 1 + k ≡ c + suc k = omega arith in q)
    by false e again = absurd (omega (arith, low, spaces_none b bs e p.tab))

-- markers

-- a marker lies in its line, and a space or the end of the line is after it
pub record MarkerFacts (r : List Cell) (m : Marker) : Type 0 where
  pub some : 1 ≤ m.length
  pub low : m.length ≤ length r
  pub after : is_behind r m.length ≡ true

marker_if : (k : Bool) (x y : Marker) → (if k then Some x else None) ≡ Some y → (k ≡ true) × (y ≡ x)
marker_if true x y e = let q : x ≡ y = cc in (refl, sym q)
marker_if false x y e = absurd cc

-- a column that isn't read as the end of the line is in it
byte_in : (r : List Cell) (k : ℕ) → (10 == cell_byte r k) ≡ false → k < length r
byte_in r k h = by (nat_lt k (length r)) refl
  where
    by : (t : Bool) → nat_lt k (length r) ≡ t → k < length r
    by true e = grind (arith, e, nat_tests)
    by false e =
        let past : length r ≤ k = grind (arith, e, nat_tests) in
        absurd (true≢false (sym (ap (λ o. 10 == option_map_or (λ (c : Cell). c.byte) o 10) (slice_get_past r k past)) ∙ h))

all_four : (a b c d : Bool) → (a && b && c && d) ≡ true → (a ≡ true) × (b ≡ true) × (c ≡ true) × (d ≡ true)
all_four false b c d e = absurd (true≢false (sym e))
all_four true false c d e = absurd (true≢false (sym e))
all_four true true false d e = absurd (true≢false (sym e))
all_four true true true false e = absurd (true≢false (sym e))
all_four true true true true e = (refl, refl, refl, refl)

all_two : (a b : Bool) → (a && b) ≡ true → (a ≡ true) × (b ≡ true)
all_two false b e = absurd (true≢false (sym e))
all_two true false e = absurd (true≢false (sym e))
all_two true true e = (refl, refl)

bullet_facts : (r : List Cell) (m : Marker) → bullet_at r 0 ≡ Some m → MarkerFacts r m
unfolding bullet_at
bullet_facts r m e =
    let found = marker_if ((((b == 45) || (b == 43)) || (b == 42)) && is_behind r (plus 0 1)) (record { sort = b; number = None; length = 1 }) m e in
    let tests = all_two (((b == 45) || (b == 43)) || (b == 42)) (is_behind r (plus 0 1)) (found.0) in
    let one : m.length ≡ 1 = ap (λ (x : Marker). x.length) (found.1) in
    let inside : 0 < length r = byte_in r 0 (differs (λ x. ((x == 45) || (x == 43)) || (x == 42)) 10 b (tests.0) refl) in
    record {
      some = omega (arith, one);
      low = omega (arith, one, inside);
      after = ap (is_behind r) (one ∙ (let q : 1 ≡ plus 0 1 = omega arith in q)) ∙ tests.1;
    }
  where
    b : ℕ
    b = cell_byte r 0

ordered_facts : (r : List Cell) (m : Marker) → ordered_at r 0 ≡ Some m → MarkerFacts r m
unfolding ordered_at
ordered_facts r m e =
    let found = marker_if (nat_le 1 count && nat_le count 9 && ((sort == 46) || (sort == 41)) && is_behind r (plus last 1)) (record { sort = sort; number = Some (number_of (bytes_between (bytes_of r) 0 last)); length = plus count 1 }) m e in
    let tests = all_four (nat_le 1 count) (nat_le count 9) ((sort == 46) || (sort == 41)) (is_behind r (plus last 1)) (found.0) in
    let first : nat_le 1 count ≡ true = tests.0 in
    let second : nat_le count 9 ≡ true = tests.1 in
    let many : 1 ≤ count = grind (arith, first, nat_tests) in
    let few : count ≤ 9 = grind (arith, second, nat_tests) in
    let last_is : last ≡ count = omega (arith, few) in
    let inside : last < length r = byte_in r last (differs (λ x. (x == 46) || (x == 41)) 10 sort (tests.2) refl) in
    let long : m.length ≡ count + 1 = ap (λ (x : Marker). x.length) (found.1) ∙ (let q : plus count 1 ≡ count + 1 = omega (arith, few) in q) in
    record {
      some = omega (arith, long);
      low = omega (arith, long, last_is, inside);
      after = ap (is_behind r) (long ∙ (let q : count + 1 ≡ plus last 1 = omega (arith, last_is, few) in q)) ∙ tests.3;
    }
  where
    count : ℕ
    count = digit_count r 0

    last : ℕ
    last = plus 0 count

    sort : ℕ
    sort = cell_byte r last

pub marker_facts : (r : List Cell) (m : Marker) → marker_at r 0 ≡ Some m → MarkerFacts r m
unfolding marker_at
marker_facts r m e = by (bullet_at r 0) (ordered_at r 0) refl refl e
  where
    by : (x y : Option Marker) → bullet_at r 0 ≡ x → ordered_at r 0 ≡ y → option_or x y ≡ Some m → MarkerFacts r m
    by (Some x) y p q h = bullet_facts r m (p ∙ h)
    by None y p q h = ordered_facts r m (q ∙ h)

-- what is after a marker

-- nothing is after it, or a space
spaced : (r : List Cell) (b : ℕ) (bs zs : List ℕ) (len : ℕ) → bytes_of r ≡ b ∷ bs → len ≤ length r → is_behind r len ≡ true → drop len (b ∷ bs) ≡ zs → (zs ≡ []) ⊎ (1 ≤ spaces_of zs)
unfolding is_behind
spaced r b bs [] len bytes low after e = inl refl
spaced r b bs (z ∷ zs) len bytes low after e = inr (omega (arith, spaces_next z zs is_space))
  where
    count : length r ≡ length (b ∷ bs)
    count = sym (length-map r (λ (c : Cell). c.byte)) ∙ ap length bytes

    left : length (drop len (b ∷ bs)) ≡ suc (length zs)
    left = ap length e

    more : nat_le (length r) len ≡ false
    more = let q : len < length r = omega (arith, length-drop len (b ∷ bs), left, count) in grind (arith, q, nat_tests)

    first : cell_byte r len ≡ z
    first = byte_asked r len ∙ ap (λ xs. byte_at xs len) bytes ∙ drop_byte len (b ∷ bs) ∙ ap (λ xs. byte_at xs 0) e

    is_space : (z == 32) ≡ true
    is_space = ap (λ k. k == 32) (sym first) ∙ ap (λ k. k || (cell_byte r len == 32)) (sym more) ∙ after

-- the spaces after a marker that belong to it
abbrev gap_of : List ℕ → ℕ
gap_of zs = if is_blank zs || nat_le 5 (spaces_of zs) then 1 else spaces_of zs

gap_low : (zs : List ℕ) → (zs ≡ []) ⊎ (1 ≤ spaces_of zs) → (1 ≤ gap_of zs) × ((zs ≡ []) ⊎ (gap_of zs ≤ spaces_of zs))
gap_low zs (inl e) = subst (λ ys. (1 ≤ gap_of ys) × ((ys ≡ []) ⊎ (gap_of ys ≤ spaces_of ys))) (sym e) (omega arith, inl refl)
gap_low zs (inr low) = by (is_blank zs || nat_le 5 (spaces_of zs))
  where
    by : (k : Bool) → (1 ≤ (if k then 1 else spaces_of zs)) × ((zs ≡ []) ⊎ ((if k then 1 else spaces_of zs) ≤ spaces_of zs))
    by true = (omega arith, inr (omega (arith, low)))
    by false = (omega (arith, low), inr (omega arith))

gap_high : (zs : List ℕ) → gap_of zs ≤ spaces_of zs + 1
gap_high zs = by (is_blank zs || nat_le 5 (spaces_of zs))
  where
    by : (k : Bool) → (if k then 1 else spaces_of zs) ≤ spaces_of zs + 1
    by true = omega arith
    by false = omega arith

-- the column of what is after them
record Content (e : ℕ) (xs zs : List ℕ) : Type 0 where
  to : ℕ
  is : min (e + gap_of zs) (length xs) ≡ to
  first : without_columns (gap_of zs) (part_at e zs) ≡ part_at to (drop to xs)
  inside : to ≤ length xs
  further : e ≤ to

content : (e : ℕ) (xs zs : List ℕ) → drop e xs ≡ zs → e ≤ length xs → IsPlain zs → (zs ≡ []) ⊎ (gap_of zs ≤ spaces_of zs) → Content e xs zs
content e xs zs at low plain (inl none) =
    let long : length xs - e ≡ 0 = sym (length-drop e xs) ∙ ap length (at ∙ none) in
    record {
      to = e;
      is = omega (arith, long, low);
      first = ap (λ ys. without_columns (gap_of ys) (part_at e ys)) none ∙ ap (part_at e) (sym (at ∙ none));
      inside = low;
      further = omega arith;
    }
content e xs zs at low plain (inr few) =
    let long : length zs ≡ length xs - e = sym (ap length at) ∙ length-drop e xs in
    let most : spaces_of zs ≤ length zs = spaces_low zs in
    record {
      to = e + gap_of zs;
      is = omega (arith, long, low, most, few);
      first = columns_dropped (gap_of zs) e zs plain few ∙ ap (part_at (e + gap_of zs)) (ap (drop (gap_of zs)) (sym at) ∙ drop-drop (gap_of zs) e xs);
      inside = omega (arith, long, low, most, few);
      further = omega arith;
    }

-- the item that a line begins

near_item : (part : Part) (q : Bool) (h : Option Heading) (f : Option Fence) (k : Option HtmlKind) (r : Bool) (m : Option Marker) (x : ItemMark) → first_of_these part q h f k r m ≡ ItemLine x → (y : Marker) × (m ≡ Some y) × (q ≡ false) × (r ≡ false) × (x ≡ item_mark part y)
near_item part true h f k r m x e = absurd cc
near_item part false (Some y) f k r m x e = absurd cc
near_item part false None (Some f) k r m x e = absurd cc
near_item part false None None (Some k) r m x e = absurd cc
near_item part false None None None true m x e = absurd cc
near_item part false None None None false (Some y) x e = let q : item_mark part y ≡ x = cc in (y, refl, refl, refl, sym q)
near_item part false None None None false None x e = absurd cc

-- the reader's item
abbrev pub item_start : ItemMark → ℕ → ItemStart
item_start m to = record { sort = m.sort; number = m.number; width = m.width; next = to }

-- in a paragraph, only some items begin
abbrev pub item_if : Bool → ItemMark → ℕ → Option ContainerStart
item_if p m to = if p && not (interrupts (ItemLine m)) then None else Some (begins.Item (item_start m to))

-- what both see of a line that begins an item: its content is from this column on
pub record ItemFacts (l : Line) (c : ℕ) (xs ys : List ℕ) (m : ItemMark) : Type 0 where
  pub to : ℕ
  pub opens : (p : Bool) → container_in CORE (cells_at l.start [] xs) (tail_of (cells_at l.start [] xs)) (place_at c ys) p ≡ item_if p m to
  pub moves : moved (cells_at l.start [] xs) (place_at c ys) to ≡ place_at to (drop to xs)
  pub first : m.first ≡ part_at to (drop to xs)
  pub inside : to ≤ length xs
  pub further : c + spaces_of ys < to
  pub wide : spaces_of ys + 2 ≤ m.width
  pub inked : c + spaces_of ys < length xs

same_interrupt : (n : Option ℕ) (empty : Bool) → (is_first n && not empty) ≡ (not empty && number_interrupts n)
same_interrupt None true = refl
same_interrupt None false = refl
same_interrupt (Some n) true = by (n == 1)
  where
    by : (k : Bool) → (k && false) ≡ false
    by true = refl
    by false = refl
same_interrupt (Some n) false = by (n == 1)
  where
    by : (k : Bool) → (k && true) ≡ k
    by true = refl
    by false = refl

item_if_some : (k : Bool) (x : ItemStart) → option_map (λ i. begins.Item i) (if k then None else Some x) ≡ (if k then None else Some (begins.Item x))
item_if_some true x = refl
item_if_some false x = refl

item_facts : (text : List ℕ) (l : Line) (c : ℕ) (xs ys : List ℕ) (b : ℕ) (bs : List ℕ) (m : ItemMark) → At text l c xs ys → Inked text l c xs ys b bs → Near c xs ys l.start b bs
    → (y : Marker) → marker_at (cells (b ∷ bs)) 0 ≡ Some y → (b == 62) ≡ false → is_rule (cells (b ∷ bs)) (tail_of (cells (b ∷ bs))) 0 ≡ false → m ≡ item_mark (part_at c ys) y → ItemFacts l c xs ys m
unfolding container_in container_at item_at item_gap may_interrupt interrupts definition_start note_start
item_facts text l c xs ys b bs m a i k y found no_quote no_rule is =
    subst (λ x. ItemFacts l c xs ys x) (sym (is ∙ mark_is))
    (record {
      to = t.to;
      opens = λ p. rw (i.long, k.not_far, k.quote, no_quote, rule_near text l c xs ys b bs i, no_rule, marker_on n whole rest i.behind, found, after_marker, ink_is, long, blank_is, back, shown p, width_is, next_is, t.is) (item_if_some (p && not (not (is_blank zs) && number_interrupts y.number)) (item_start (mark_with (part_at e zs) (gap_of zs)) t.to));
      moves = moved_place l.start xs (place_at c ys) t.to (omega (arith, t.further, some)) t.inside a.whole a.short;
      first = t.first;
      inside = t.inside;
      further = omega (arith, t.further, some);
      wide = omega (arith, some, gap_some, indented);
      inked = omega (arith, count, fewer);
    })
  where
    n : ℕ
    n = c + spaces_of ys

    whole : List Cell
    whole = cells_at l.start [] xs

    rest : List Cell
    rest = cells (b ∷ bs)

    e : ℕ
    e = n + y.length

    zs : List ℕ
    zs = drop y.length (b ∷ bs)

    f : MarkerFacts rest y
    f = marker_facts rest y found

    some : 1 ≤ y.length
    some = f.some

    low : y.length ≤ length rest
    low = f.low

    count : length xs ≡ c + length ys
    count = a.count

    fewer : length ys ≡ spaces_of ys + suc (length bs)
    fewer = i.fewer

    short : length xs + 3 < 2 ^ 64
    short = a.short

    rest_long : length rest ≡ length (b ∷ bs)
    rest_long = sym (length-map rest (λ (d : Cell). d.byte)) ∙ ap length i.rest_bytes

    inked_from : drop n xs ≡ b ∷ bs
    inked_from = sym (drop-drop (spaces_of ys) c xs) ∙ ap (drop (spaces_of ys)) a.left ∙ i.inked

    at : drop e xs ≡ zs
    at = sym (drop-drop y.length n xs) ∙ ap (drop y.length) inked_from

    plain : IsPlain zs
    plain = drop_plain y.length (b ∷ bs) i.rest_plain

    gaps : (1 ≤ gap_of zs) × ((zs ≡ []) ⊎ (gap_of zs ≤ spaces_of zs))
    gaps = gap_low zs (spaced rest b bs zs y.length i.rest_bytes low f.after refl)

    gap_some : 1 ≤ gap_of zs
    gap_some = gaps.0

    t : Content e xs zs
    t = content e xs zs at (omega (arith, low, rest_long, count, fewer)) plain (gaps.1)

    indented : indent (part_at c ys) ≡ spaces_of ys
    indented = indent_same c ys a.plain

    after_is : after_ink y.length (part_at c ys) ≡ part_at e zs
    after_is = ap (λ j. part_at (j + y.length) (drop y.length (drop (spaces_of ys) ys))) (ink_at c ys a.plain) ∙ ap (λ ws. part_at e (drop y.length ws)) i.inked

    mark_with : Part → ℕ → ItemMark
    mark_with p gap = record { sort = y.sort; number = y.number; width = indent (part_at c ys) + y.length + gap; first = without_columns gap p; is_empty = is_blank p.bytes }

    mark_is : item_mark (part_at c ys) y ≡ mark_with (part_at e zs) (gap_of zs)
    mark_is = ap (λ p. mark_with p (marker_spaces p)) after_is ∙ ap (λ j. mark_with (part_at e zs) (if is_blank zs || nat_le 5 j then 1 else j)) (indent_same e zs plain)

    after_marker : plus n y.length ≡ e
    after_marker = omega (arith, low, rest_long, count, fewer, short)

    left : length xs ≡ e + length zs
    left = omega (arith, ap length at, length-drop e xs, low, rest_long, count, fewer)

    run : run_of whole e 32 ≡ spaces_of zs
    run = run_asked whole e 32 ∙ ap (λ (ws : List ℕ). length (take_while (λ x. x == 32) (drop e ws))) (bytes_kept l.start [] xs) ∙ blanks_same (drop e xs) (drop_plain e xs a.whole) ∙ ap spaces_of at

    ink_is : ink_from whole e ≡ e + spaces_of zs
    ink_is = ap (plus e) run ∙ (let most : spaces_of zs ≤ length zs = spaces_low zs in let q : plus e (spaces_of zs) ≡ e + spaces_of zs = omega (arith, most, left, short) in q)

    long : length whole ≡ length xs
    long = length_kept l.start [] xs

    blank_is : nat_le (length xs) (e + spaces_of zs) ≡ is_blank zs
    blank_is = ap (λ j. nat_le j (e + spaces_of zs)) left ∙ le_on e (length zs) (spaces_of zs) ∙ blank_same zs

    back : e + spaces_of zs - e ≡ spaces_of zs
    back = omega arith

    shown : (p : Bool) → (p && not (is_first y.number && not (is_blank zs))) ≡ (p && not (not (is_blank zs) && number_interrupts y.number))
    shown p = ap (λ j. p && not j) (same_interrupt y.number (is_blank zs))

    width_is : plus (n - c) (plus y.length (gap_of zs)) ≡ indent (part_at c ys) + y.length + gap_of zs
    width_is = let most : spaces_of zs ≤ length zs = spaces_low zs in omega (arith, gap_high zs, most, left, short, indented, low, rest_long, fewer, count)

    next_is : plus e (gap_of zs) ≡ e + gap_of zs
    next_is = let most : spaces_of zs ≤ length zs = spaces_low zs in omega (arith, gap_high zs, most, left, short)

-- the same of a line that begins an item
pub item_of : (text : List ℕ) (l : Line) (c : ℕ) (xs ys : List ℕ) (m : ItemMark) → At text l c xs ys → beginning (left_at (place_at c ys) ys) ≡ ItemLine m → ItemFacts l c xs ys m
unfolding beginning
item_of text l c xs ys m a e = by (is_blank ys) (nat_le 4 (indent (part_at c ys))) refl refl
  where
    with_item : (b : ℕ) (bs : List ℕ) (i : Inked text l c xs ys b bs) (k : Near c xs ys l.start b bs)
        → (y : Marker) × (marker_at (cells (b ∷ bs)) 0 ≡ Some y) × ((b == 62) ≡ false) × (is_rule (cells (b ∷ bs)) (tail_of (cells (b ∷ bs))) 0 ≡ false) × (m ≡ item_mark (part_at c ys) y) → ItemFacts l c xs ys m
    with_item b bs i k (y, found, no_quote, no_rule, is) = item_facts text l c xs ys b bs m a i k y found no_quote no_rule is

    inked : is_blank ys ≡ false → nat_le 4 (indent (part_at c ys)) ≡ false → (b : ℕ) × (bs : List ℕ) × (drop (spaces_of ys) ys ≡ b ∷ bs) × (is_blank_byte b ≡ false) → ItemFacts l c xs ys m
    inked blank near (b, bs, first, no_blank) =
        let i : Inked text l c xs ys b bs = inked_line text l c xs ys a b bs first no_blank in
        let k : Near c xs ys l.start b bs = near_line text l c xs ys b bs a i blank near in
        let r : List Cell = cells (b ∷ bs) in
        with_item b bs i k (near_item (part_at c ys) (b == 62) (heading_at r 0) (fence_at r (first_cursor r)) (html_if (b == 60) (b ∷ bs)) (is_rule r (tail_of r) 0) (marker_at r 0) m (sym k.begins ∙ e))

    by : (k far : Bool) → is_blank ys ≡ k → nat_le 4 (indent (part_at c ys)) ≡ far → ItemFacts l c xs ys m
    by true far p q = let w : BlankLine ≡ ItemLine m = sym (ap (λ k. beginning_of (part_at c ys) k (nat_le 4 (indent (part_at c ys)))) p) ∙ e in absurd cc
    by false true p q = let w : CodeLine ≡ ItemLine m = sym (ap (λ k. beginning_of (part_at c ys) k (nat_le 4 (indent (part_at c ys)))) p ∙ ap (beginning_of (part_at c ys) false) q) ∙ e in absurd cc
    by false false p q = inked p q (ink_first ys p)

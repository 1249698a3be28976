-- In every text without U+0000 the declared text of a paragraph or a heading doesn't end with a line feed, and is no longer than the text.
-- That of HTML ends with a line feed, if it isn't empty.
use Rattle.std.proofs.Common.{◌≡◌, ℕ, zero, suc, ◌+◌, ◌-◌, ◌≤◌, Bool, true, false, not, ◌==◌, ◌&&◌, if◌then◌else◌, nat_le, List, [], ◌∷◌, ◌++◌, length, map, take, drop, reverse, refl, ap, sym, subst, ◌∙◌, arith, append_assoc, length-append, length-take, length-drop, true≢false}
use Rattle.std.specs.Prelude.{min, Option, Some, None}
use Rattle.std.specs.List.{fold, AllByRecursion, list_any}
use Rattle.std.proofs.lemmas.List.{length-reverse, reverse-append, reverse-reverse}
use Rattle.tocmark_event.specs.declared.event.HeadingLevel.{HeadingLevel}
use Rattle.tocmark_read_scan.specs.Basic.{bytes_between}
use Rattle.tocmark_read_scan.proofs.PlainTests.{both_false}
use Rattle.tocmark_read_lines.specs.declared.beginnings.Fence.{Fence}
use Rattle.tocmark_read_lines.specs.declared.beginnings.Heading.{Heading as HeadingMark}
use Rattle.tocmark_read_lines.specs.declared.beginnings.Marker.{Marker}
use Rattle.tocmark_read_lines.specs.declared.cell.Cell.{Cell}
use Rattle.tocmark_read_lines.specs.declared.html.HtmlKind.{HtmlKind}
use Rattle.tocmark_read_lines.specs.Cells.{cell_place, first_cursor}
use Rattle.tocmark_read_lines.specs.Marks.{heading_at, fence_at, tail_of, is_rule, marker_at}
use Rattle.tocmark_read_page.specs.Definitions.{DefinitionView}
use Rattle.tocmark_commonmark.specs.Beginnings.{ItemMark, item_mark, marker_spaces, html_if, Beginning, BlankLine, CodeLine, QuoteLine, HeadingLine, FenceLine, HtmlLine, RuleLine, ItemLine, TextLine, LazyLine, first_of_these, begins_with, beginning_of, beginning, may_be_lazy, heading_text}
use Rattle.tocmark_commonmark.specs.Blocks.{first_block, blocks_from, size, blocks, blocks_of}
use Rattle.tocmark_commonmark.specs.Containers.{goes_on, front, lazily, unquoted, in_quote_as, in_quote, in_item_as, in_item, item_lines}
use Rattle.tocmark_commonmark.specs.Leaves as leaves
use Rattle.tocmark_commonmark.specs.Leaves.{definitions, definitions_found, Turn, GoesOn, Stops, Underlines, turn_of, turn, underline, turned, paragraph_lines, paragraph_left, paragraph_with, text_of}
use Rattle.tocmark_commonmark.specs.Lines.{Part, Line, Written, Lazy, is_blank_byte, is_blank, tab_width, indent, ink, after_ink, without_byte, without_column, without_columns, without_last_blanks, line_bytes, line_ink, line_spelled, with_feeds, cells, plain_byte, plain_bytes, line_ended, lines_after, lines_of}
use Rattle.tocmark_commonmark.specs.Lists.{item_block, blank_count, same_sort, sibling, and_siblings, items, list_block}
use Rattle.tocmark_commonmark.specs.Tree as block
use Rattle.tocmark_commonmark.specs.Tree.{Found, tree}
use Rattle.tocmark_block_laws.specs.Quotes.{ends_with_feed}
use Rattle.tocmark_block_laws.proofs.Fronts.{ink_first}
use Rattle.tocmark_text_laws.proofs.Alls.{all_both, all_take}
use Rattle.tocmark_standard_laws.specs.Contents.{HasNoZero}
use Rattle.tocmark_standard_laws.proofs.Fed.{is_fed}
use Rattle.tocmark_standard_laws.proofs.Contents.{dropped, dropped_blank, dropped_ink, joined_feed}
use Rattle.tocmark_standard_laws.proofs.Cuts.{all_drop}

-- bytes without a line feed
abbrev IsCalm : List ℕ → Type 0
IsCalm bs = AllByRecursion (λ b. (b == 10) ≡ false) bs

calm_reverse : (bs : List ℕ) → IsCalm bs → IsCalm (reverse bs)
calm_reverse [] h = tt
calm_reverse (b ∷ bs) h = subst IsCalm (sym (reverse-append (b ∷ []) bs)) (all_both (λ b. (b == 10) ≡ false) (reverse bs) (b ∷ []) (calm_reverse bs (h.1)) (h.0, tt))

calm_begins : (bs : List ℕ) → IsCalm bs → begins_with 10 bs ≡ false
calm_begins [] h = refl
calm_begins (b ∷ bs) h = h.0

calm_ends : (bs : List ℕ) → IsCalm bs → ends_with_feed bs ≡ false
calm_ends bs h = calm_begins (reverse bs) (calm_reverse bs h)

calm_between : (bs : List ℕ) (i j : ℕ) → IsCalm bs → IsCalm (bytes_between bs i j)
calm_between bs i j h = by (nat_le i j && nat_le j (length bs))
  where
    by : (k : Bool) → IsCalm (if k then take (j - i) (drop i bs) else [])
    by true = all_take (λ b. (b == 10) ≡ false) (j - i) (drop i bs) (all_drop (λ b. (b == 10) ≡ false) i bs h)
    by false = tt

-- bytes that have ink, with no line feed after it
record EndsInky (bs : List ℕ) : Type 0 where
  front : List ℕ
  byte : ℕ
  rest : List ℕ
  is : bs ≡ front ++ byte ∷ rest
  ink : is_blank_byte byte ≡ false
  feedless : (byte == 10) ≡ false
  calm : IsCalm rest

-- bytes that have ink and no line feed
record IsInky (bs : List ℕ) : Type 0 where
  ends : EndsInky bs
  calm : IsCalm bs

stops_inky : (xs : List ℕ) (b : ℕ) (ys : List ℕ) → IsCalm xs → is_blank_byte b ≡ false → (b == 10) ≡ false → begins_with 10 (dropped (xs ++ b ∷ ys)) ≡ false
stops_inky [] b ys h k n = ap (begins_with 10) (dropped_ink b ys k) ∙ n
stops_inky (x ∷ xs) b ys h k n = by (is_blank_byte x) refl (stops_inky xs b ys (h.1) k n)
  where
    by : (z : Bool) → is_blank_byte x ≡ z → begins_with 10 (dropped (xs ++ b ∷ ys)) ≡ false → begins_with 10 (dropped (x ∷ (xs ++ b ∷ ys))) ≡ false
    by true e later = ap (begins_with 10) (dropped_blank x (xs ++ b ∷ ys) e) ∙ later
    by false e later = ap (begins_with 10) (dropped_ink x (xs ++ b ∷ ys) e) ∙ h.0

ends_so : (bs : List ℕ) → EndsInky bs → ends_with_feed (without_last_blanks bs) ≡ false
ends_so bs e =
    ap (begins_with 10) (reverse-reverse (dropped (reverse bs)))
    ∙ ap (λ xs. begins_with 10 (dropped xs)) (ap reverse e.is ∙ reverse-append e.front (e.byte ∷ e.rest) ∙ ap (λ xs. xs ++ reverse e.front) (reverse-append (e.byte ∷ []) e.rest) ∙ append_assoc (reverse e.rest) (e.byte ∷ []) (reverse e.front))
    ∙ stops_inky (reverse e.rest) e.byte (reverse e.front) (calm_reverse e.rest e.calm) e.ink e.feedless

joined_ends : (t : List ℕ) (ts : List (List ℕ)) → AllByRecursion IsInky (t ∷ ts) → EndsInky (leaves.joined (t ∷ ts))
joined_ends t [] h = h.0.ends
joined_ends t (u ∷ ts) h =
    let e : EndsInky (leaves.joined (u ∷ ts)) = joined_ends u ts (h.1) in
    record { front = t ++ 10 ∷ e.front; byte = e.byte; rest = e.rest; is = ap (λ xs. t ++ 10 ∷ xs) e.is ∙ sym (append_assoc t (10 ∷ e.front) (e.byte ∷ e.rest)); ink = e.ink; feedless = e.feedless; calm = e.calm }

-- how many bytes texts have, with one for each
abbrev size_of : List (List ℕ) → ℕ
size_of [] = 0
size_of (t ∷ ts) = suc (length t) + size_of ts

blanks_short : (bs : List ℕ) → length (without_last_blanks bs) ≤ length bs
blanks_short bs =
    let a : length (reverse (dropped (reverse bs))) ≡ length (dropped (reverse bs)) = length-reverse (dropped (reverse bs)) in
    let b : length (dropped (reverse bs)) ≡ length (reverse bs) - _ = length-drop _ (reverse bs) in
    let c : length (reverse bs) ≡ length bs = length-reverse bs in
    omega (arith, a, b, c)

joined_short : (ts : List (List ℕ)) → length (leaves.joined ts) ≤ size_of ts
joined_short [] = omega arith
joined_short (t ∷ []) = omega arith
joined_short (t ∷ u ∷ ts) = let a : length (t ++ 10 ∷ leaves.joined (u ∷ ts)) ≡ length t + suc (length (leaves.joined (u ∷ ts))) = length-append t (10 ∷ leaves.joined (u ∷ ts)) in let b : length (leaves.joined (u ∷ ts)) ≤ size_of (u ∷ ts) = joined_short (u ∷ ts) in omega (arith, a, b)

size_drop : (n : ℕ) (ts : List (List ℕ)) → size_of (drop n ts) ≤ size_of ts
size_drop zero [] = omega arith
size_drop zero (t ∷ ts) = omega arith
size_drop (suc n) [] = omega arith
size_drop (suc n) (t ∷ ts) = let a : size_of (drop n ts) ≤ size_of ts = size_drop n ts in omega (arith, a)

size_more : (ts : List (List ℕ)) (t : List ℕ) → size_of (ts ++ t ∷ []) ≡ size_of ts + suc (length t)
size_more [] t = omega arith
size_more (u ∷ ts) t = let a : size_of (ts ++ t ∷ []) ≡ size_of ts + suc (length t) = size_more ts t in omega (arith, a)

-- a text that doesn't end with a line feed, and has at most so many bytes
abbrev pub IsWellText : ℕ → List ℕ → Type 0
IsWellText n t = (ends_with_feed t ≡ false) × (length t ≤ n)

text_ends : (ts : List (List ℕ)) → AllByRecursion IsInky ts → ends_with_feed (text_of ts) ≡ false
text_ends [] h = refl
text_ends (t ∷ ts) h = ends_so (leaves.joined (t ∷ ts)) (joined_ends t ts h)

text_well : (n : ℕ) (ts : List (List ℕ)) → AllByRecursion IsInky ts → size_of ts ≤ n → IsWellText n (text_of ts)
text_well n ts h l = (text_ends ts h, let a : length (without_last_blanks (leaves.joined ts)) ≤ length (leaves.joined ts) = blanks_short (leaves.joined ts) in let b : length (leaves.joined ts) ≤ size_of ts = joined_short ts in omega (arith, a, b, l))

-- lines

-- a line has no line feed, and a lazy one has ink
abbrev LineIs : Line → Type 0
LineIs (Written p) = IsCalm p.bytes
LineIs (Lazy bytes) = IsInky bytes

abbrev LinesAre : List Line → Type 0
LinesAre ls = AllByRecursion LineIs ls

-- how many bytes lines have, with one for each
abbrev bytes_in : List Line → ℕ
bytes_in [] = 0
bytes_in (l ∷ ls) = suc (length (line_bytes l)) + bytes_in ls

bytes_drop : (n : ℕ) (ls : List Line) → bytes_in (drop n ls) ≤ bytes_in ls
bytes_drop zero [] = omega arith
bytes_drop zero (l ∷ ls) = omega arith
bytes_drop (suc n) [] = omega arith
bytes_drop (suc n) (l ∷ ls) = let a : bytes_in (drop n ls) ≤ bytes_in ls = bytes_drop n ls in omega (arith, a)

bytes_more : (ls : List Line) (l : Line) → bytes_in (ls ++ l ∷ []) ≡ bytes_in ls + suc (length (line_bytes l))
bytes_more [] l = omega arith
bytes_more (x ∷ ls) l = let a : bytes_in (ls ++ l ∷ []) ≡ bytes_in ls + suc (length (line_bytes l)) = bytes_more ls l in omega (arith, a)

drop_short : (n : ℕ) (bs : List ℕ) → length (drop n bs) ≤ length bs
drop_short n bs = let a : length (drop n bs) ≡ length bs - n = length-drop n bs in omega (arith, a)

ink_short : (l : Line) → length (line_ink l) ≤ length (line_bytes l)
ink_short (Written p) = drop_short _ p.bytes
ink_short (Lazy bytes) = omega arith

byte_short : (p : Part) (bs : List ℕ) → length bs ≤ length p.bytes → length (without_byte p bs).bytes ≤ length p.bytes
byte_short p [] l = omega arith
byte_short p (b ∷ bs) l = by (b == 32) (b == 9)
  where
    by : (x y : Bool) → length (if x then record { column = p.column + 1; spaces = 0; bytes = bs } else (if y then record { column = p.column + tab_width p.column; spaces = tab_width p.column - 1; bytes = bs } else p)).bytes ≤ length p.bytes
    by true y = omega (arith, l)
    by false true = omega (arith, l)
    by false false = omega arith

columns_short : (count : ℕ) (p : Part) → length (without_columns count p).bytes ≤ length p.bytes
columns_short zero p = omega arith
columns_short (suc count) p = let a : length (without_columns count (without_column p p.spaces)).bytes ≤ length (without_column p p.spaces).bytes = columns_short count (without_column p p.spaces) in let b : length (without_column p p.spaces).bytes ≤ length p.bytes = one p.spaces in omega (arith, a, b)
  where
    one : (n : ℕ) → length (without_column p n).bytes ≤ length p.bytes
    one zero = byte_short p p.bytes (omega arith)
    one (suc n) = omega arith

after_short : (count n : ℕ) (p : Part) → length (without_columns count (after_ink n p)).bytes ≤ length p.bytes
after_short count n p = let a : length (without_columns count (after_ink n p)).bytes ≤ length (drop n (ink p)) = columns_short count (after_ink n p) in let b : length (drop n (ink p)) ≤ length (ink p) = drop_short n (ink p) in let c : length (ink p) ≤ length p.bytes = ink_short (Written p) in omega (arith, a, b, c)

unquoted_short : (l : Line) → length (line_bytes (unquoted l)) ≤ length (line_bytes l)
unquoted_short (Written p) = after_short 1 1 p
unquoted_short (Lazy bytes) = omega arith

ink_calm : (p : Part) → IsCalm p.bytes → IsCalm (ink p)
ink_calm p h = all_drop (λ b. (b == 10) ≡ false) _ p.bytes h

byte_calm : (p : Part) (bs : List ℕ) → IsCalm p.bytes → IsCalm bs → IsCalm (without_byte p bs).bytes
byte_calm p [] h k = h
byte_calm p (b ∷ bs) h k = by (b == 32) (b == 9)
  where
    by : (x y : Bool) → IsCalm (if x then record { column = p.column + 1; spaces = 0; bytes = bs } else (if y then record { column = p.column + tab_width p.column; spaces = tab_width p.column - 1; bytes = bs } else p)).bytes
    by true y = k.1
    by false true = k.1
    by false false = h

columns_calm : (count : ℕ) (p : Part) → IsCalm p.bytes → IsCalm (without_columns count p).bytes
columns_calm zero p h = h
columns_calm (suc count) p h = columns_calm count (without_column p p.spaces) (one p.spaces)
  where
    one : (n : ℕ) → IsCalm (without_column p n).bytes
    one zero = byte_calm p p.bytes h h
    one (suc n) = h

after_calm : (count n : ℕ) (p : Part) → IsCalm p.bytes → IsCalm (without_columns count (after_ink n p)).bytes
after_calm count n p h = columns_calm count (after_ink n p) (all_drop (λ b. (b == 10) ≡ false) n (ink p) (ink_calm p h))

unquoted_is : (l : Line) → LineIs l → LineIs (unquoted l)
unquoted_is (Written p) h = after_calm 1 1 p h
unquoted_is (Lazy bytes) h = h

ink_inky : (p : Part) → is_blank p.bytes ≡ false → IsCalm p.bytes → IsInky (ink p)
ink_inky p n h = of (ink_first p.bytes n) (ink_calm p h)
  where
    of : (b : ℕ) × (bs : List ℕ) × (ink p ≡ b ∷ bs) × (is_blank_byte b ≡ false) → IsCalm (ink p) → IsInky (ink p)
    of (b, bs, e, k) calm = let both : IsCalm (b ∷ bs) = subst IsCalm e calm in record { ends = record { front = []; byte = b; rest = bs; is = e; ink = k; feedless = both.0; calm = both.1 }; calm = calm }

line_inky : (l : Line) → LineIs l → (beginning l ≡ BlankLine → ⊥) → IsInky (line_ink l)
unfolding beginning
line_inky (Lazy bytes) h n = h
line_inky (Written p) h n = by (is_blank p.bytes) refl
  where
    by : (k : Bool) → is_blank p.bytes ≡ k → IsInky (ink p)
    by true e = absurd (n (ap (λ k. beginning_of p k (nat_le 4 (indent p))) e))
    by false e = ink_inky p e h

line_calm : (l : Line) → LineIs l → IsCalm (line_ink l)
line_calm (Written p) h = ink_calm p h
line_calm (Lazy bytes) h = h.calm

not_blank : (b : Beginning) → may_be_lazy b ≡ true → b ≡ BlankLine → ⊥
unfolding may_be_lazy
not_blank b h e = true≢false (sym h ∙ ap may_be_lazy e)

-- a line with at most so many bytes
abbrev OnLine : ℕ → Option Line → Type 0
OnLine n None = Unit {0}
OnLine n (Some l) = LineIs l × (length (line_bytes l) ≤ n)

lazily_is : (n : ℕ) (bs : List Line → List Found) (inside : List Line) (bytes : List ℕ) (k : Bool) → length bytes ≤ n → (k ≡ true → IsInky bytes) → OnLine n (lazily bs inside bytes k)
lazily_is n bs inside bytes false l h = tt
lazily_is n bs inside bytes true l h = by (block.ends_open (length inside) (bs inside))
  where
    by : (z : Bool) → OnLine n (if z then Some (Lazy bytes) else None)
    by true = (h refl, l)
    by false = tt

in_quote_is : (bs : List Line → List Found) (inside : List Line) (l : Line) → LineIs l → OnLine (length (line_bytes l)) (in_quote bs inside l)
in_quote_is bs inside l h = by (beginning l) refl
  where
    n : ℕ
    n = length (line_bytes l)

    other : (b : Beginning) → beginning l ≡ b → OnLine n (lazily bs inside (line_ink l) (may_be_lazy b))
    other b q = lazily_is n bs inside (line_ink l) (may_be_lazy b) (ink_short l) (λ k. line_inky l h (λ e. not_blank b k (sym q ∙ e)))

    by : (b : Beginning) → beginning l ≡ b → OnLine n (in_quote_as bs inside l b)
    by QuoteLine q = (unquoted_is l h, unquoted_short l)
    by BlankLine q = other BlankLine q
    by CodeLine q = other CodeLine q
    by (HeadingLine x) q = other (HeadingLine x) q
    by (FenceLine f) q = other (FenceLine f) q
    by (HtmlLine x) q = other (HtmlLine x) q
    by RuleLine q = other RuleLine q
    by (ItemLine m) q = other (ItemLine m) q
    by TextLine q = other TextLine q
    by LazyLine q = other LazyLine q

in_item_is : (bs : List Line → List Found) (width : ℕ) (inside : List Line) (l : Line) → LineIs l → OnLine (length (line_bytes l)) (in_item bs width inside l)
in_item_is bs width inside (Lazy bytes) h = (h, omega arith)
in_item_is bs width inside (Written p) h = by (is_blank p.bytes) (nat_le width (indent p))
  where
    n : ℕ
    n = length p.bytes

    some : (z : Bool) → OnLine n (if z then Some (Written (without_columns width p)) else None)
    some true = (columns_calm width p h, columns_short width p)
    some false = tt

    by : (x y : Bool) → OnLine n (in_item_as bs width inside p x y)
    by true y = some (list_any (λ l. not (is_blank (line_bytes l))) inside)
    by false true = (columns_calm width p h, columns_short width p)
    by false false = lazily_is n bs inside (ink p) (may_be_lazy (beginning (Written p))) (ink_short (Written p)) (λ k. line_inky (Written p) h (λ e. not_blank (beginning (Written p)) k e))

-- lines with at most so many bytes
abbrev Lines : ℕ → List Line → Type 0
Lines n ls = LinesAre ls × (bytes_in ls ≤ n)

front_is : (n : ℕ) (within : List Line → Line → Option Line) → ((inside : List Line) (l : Line) → LineIs l → OnLine (length (line_bytes l)) (within inside l)) → (inside ls : List Line) → LinesAre inside → LinesAre ls → bytes_in inside + bytes_in ls ≤ n → Lines n (front within inside ls)
front_is n within each inside [] hi hs l = (hi, omega (arith, l))
front_is n within each inside (x ∷ ls) hi hs l = by (within inside x) (each inside x (hs.0)) (λ xs k m. front_is n within each xs ls k (hs.1) m)
  where
    by : (o : Option Line) → OnLine (length (line_bytes x)) o → ((xs : List Line) → LinesAre xs → bytes_in xs + bytes_in ls ≤ n → Lines n (front within xs ls)) → Lines n (goes_on (λ y. front within (inside ++ y ∷ []) ls) inside o)
    by None k next = (hi, omega (arith, l))
    by (Some y) k next = next (inside ++ y ∷ []) (all_both LineIs inside (y ∷ []) hi (k.0, tt)) (let a : bytes_in (inside ++ y ∷ []) ≡ bytes_in inside + suc (length (line_bytes y)) = bytes_more inside y in let b : length (line_bytes y) ≤ length (line_bytes x) = k.1 in omega (arith, a, b, l))

-- what a marker leaves of its line
abbrev IsMark : ℕ → ItemMark → Type 0
IsMark n m = IsCalm m.first.bytes × (length m.first.bytes ≤ n)

mark_is : (l : Line) (m : ItemMark) → LineIs l → beginning l ≡ ItemLine m → IsMark (length (line_bytes l)) m
unfolding beginning
mark_is (Lazy bytes) m h e = absurd cc
mark_is (Written p) m h e = by (is_blank p.bytes) (nat_le 4 (indent p)) e
  where
    of : (q : Bool) (x : Option HeadingMark) (f : Option Fence) (k : Option HtmlKind) (r : Bool) (o : Option Marker) → first_of_these p q x f k r o ≡ ItemLine m → IsMark (length p.bytes) m
    of true x f k r o g = absurd cc
    of false (Some x) f k r o g = absurd cc
    of false None (Some f) k r o g = absurd cc
    of false None None (Some k) r o g = absurd cc
    of false None None None true o g = absurd cc
    of false None None None false (Some k) g = let same : item_mark p k ≡ m = cc in subst (IsMark (length p.bytes)) same (after_calm (marker_spaces (after_ink k.length p)) k.length p h, after_short (marker_spaces (after_ink k.length p)) k.length p)
    of false None None None false None g = absurd cc

    by : (x y : Bool) → beginning_of p x y ≡ ItemLine m → IsMark (length p.bytes) m
    by true y g = absurd cc
    by false true g = absurd cc
    by false false g = let c : List Cell = cells (ink p) in of (begins_with 62 (ink p)) (heading_at c 0) (fence_at c (first_cursor c)) (html_if (begins_with 60 (ink p)) (ink p)) (is_rule c (tail_of c) 0) (marker_at c 0) g

-- blocks

-- HTML ends with a line feed, or is none
abbrev pub is_html_text : List ℕ → Bool
is_html_text [] = true
is_html_text (b ∷ bs) = is_fed (b ∷ bs)

abbrev mutual
  pub AreWell : ℕ → block.Blocks → Type 0
  AreWell n block.none = Unit {0}
  AreWell n (block.more b bs) = IsWell n b × AreWell n bs

  pub IsWell : ℕ → block.Block → Type 0
  IsWell n block.Rule = Unit {0}
  IsWell n (block.Heading l t) = IsWellText n t
  IsWell n (block.IndentedCode t) = Unit {0}
  IsWell n (block.FencedCode i t) = Unit {0}
  IsWell n (block.Html t) = is_html_text t ≡ true
  IsWell n (block.Definitions d) = Unit {0}
  IsWell n (block.Paragraph t) = IsWellText n t
  IsWell n (block.Quote q) = AreWell n q
  IsWell n (block.BulletList s t is) = AreWell n is
  IsWell n (block.OrderedList s k t is) = AreWell n is
  IsWell n (block.Item i) = AreWell n i

abbrev AreFound : ℕ → List Found → Type 0
AreFound n fs = AllByRecursion (λ (f : Found). IsWell n f.block) fs

tree_well : (n : ℕ) (fs : List Found) → AreFound n fs → AreWell n (tree fs)
tree_well n [] h = tt
tree_well n (f ∷ fs) h = (h.0, tree_well n fs (h.1))

fed_end : (bs : List ℕ) → is_fed (bs ++ 10 ∷ []) ≡ true
fed_end [] = refl
fed_end (a ∷ []) = refl
fed_end (a ∷ b ∷ bs) = fed_end (b ∷ bs)

fed_html : (bs : List ℕ) → is_html_text (bs ++ 10 ∷ []) ≡ true
fed_html [] = refl
fed_html (a ∷ []) = refl
fed_html (a ∷ b ∷ bs) = fed_end (b ∷ bs)

html_well : (ts : List (List ℕ)) → is_html_text (with_feeds ts) ≡ true
html_well [] = refl
html_well (t ∷ ts) = ap is_html_text (joined_feed t ts) ∙ fed_html (leaves.joined (t ∷ ts))

found_well : (n at : ℕ) (ds : List DefinitionView) (k : ℕ) → AreFound n (definitions_found at ds k)
found_well n at [] k = tt
found_well n at (d ∷ ds) k = (tt, tt)

left_well : (n at : ℕ) (ts : List (List ℕ)) → AllByRecursion IsInky ts → size_of ts ≤ n → AreFound n (paragraph_left at ts)
left_well n at [] h l = tt
left_well n at (t ∷ ts) h l = (text_well n (t ∷ ts) h l, tt)

paragraph_well : (n at : ℕ) (ts : List (List ℕ)) (u : Option HeadingLevel) (d : List DefinitionView × ℕ) → AllByRecursion IsInky ts → size_of ts ≤ n → AreFound n (paragraph_with at ts u d).found
paragraph_well n at ts None d h l = all_both (λ (f : Found). IsWell n f.block) (definitions_found at (d.0) (d.1)) _ (found_well n at (d.0) (d.1)) (left_well n (at + d.1) (drop (d.1) ts) (all_drop IsInky (d.1) ts h) (let a : size_of (drop (d.1) ts) ≤ size_of ts = size_drop (d.1) ts in omega (arith, a, l)))
paragraph_well n at ts (Some level) d h l = all_both (λ (f : Found). IsWell n f.block) (definitions_found at (d.0) (d.1)) _ (found_well n at (d.0) (d.1)) (text_well n (drop (d.1) ts) (all_drop IsInky (d.1) ts h) (let a : size_of (drop (d.1) ts) ≤ size_of ts = size_drop (d.1) ts in omega (arith, a, l)), tt)

-- a line that goes on isn't blank
goes_inky : (l : Line) (u : Option HeadingLevel) → turn_of (beginning l) u ≡ GoesOn → beginning l ≡ BlankLine → ⊥
goes_inky l u e q = stops (ap (λ b. turn_of b u) (sym q) ∙ e)
  where
    stops : Stops ≡ GoesOn → ⊥
    stops k = let j : Stops ≡ GoesOn = k in cc

-- lines of a paragraph, in at most so many bytes
abbrev Texts : ℕ → List (List ℕ) → Type 0
Texts n ts = AllByRecursion IsInky ts × (size_of ts ≤ n)

lines_inky : (n : ℕ) (ts : List (List ℕ)) (ls : List Line) → AllByRecursion IsInky ts → LinesAre ls → size_of ts + bytes_in ls ≤ n → Texts n ((paragraph_lines ts ls).0)
lines_inky n ts [] h hs l = (h, omega (arith, l))
lines_inky n ts (x ∷ ls) h hs l = by (turn ts x) refl (λ us k m. lines_inky n us ls k (hs.1) m)
  where
    by : (t : Turn) → turn ts x ≡ t → ((us : List (List ℕ)) → AllByRecursion IsInky us → size_of us + bytes_in ls ≤ n → Texts n ((paragraph_lines us ls).0)) → Texts n ((turned (λ us. paragraph_lines us ls) ts (line_ink x) t).0)
    by Stops e next = (h, omega (arith, l))
    by (Underlines level) e next = (h, omega (arith, l))
    by GoesOn e next = next (ts ++ line_ink x ∷ []) (all_both IsInky ts (line_ink x ∷ []) h (line_inky x (hs.0) (λ q. goes_inky x (underline ts x) e q), tt)) (let a : size_of (ts ++ line_ink x ∷ []) ≡ size_of ts + suc (length (line_ink x)) = size_more ts (line_ink x) in let b : length (line_ink x) ≤ length (line_bytes x) = ink_short x in omega (arith, a, b, l))

-- a marker and the lines after it, in at most so many bytes
abbrev OnMark : ℕ → Option (ItemMark × List Line) → Type 0
OnMark n None = Unit {0}
OnMark n (Some s) = IsCalm (s.0).first.bytes × LinesAre (s.1) × (suc (length (s.0).first.bytes) + bytes_in (s.1) ≤ n)

sibling_is : (n sort : ℕ) (ls : List Line) → LinesAre ls → bytes_in ls ≤ n → OnMark n (sibling sort ls)
sibling_is n sort [] h l = tt
sibling_is n sort (x ∷ ls) h l = by (beginning x) refl
  where
    by : (b : Beginning) → beginning x ≡ b → OnMark n (same_sort sort ls b)
    by (ItemLine m) q = of (m.sort == sort)
      where
        mark : IsMark (length (line_bytes x)) m
        mark = mark_is x m (h.0) q

        of : (z : Bool) → OnMark n (if z then Some (m, ls) else None)
        of true = (mark.0, h.1, let a : length m.first.bytes ≤ length (line_bytes x) = mark.1 in omega (arith, a, l))
        of false = tt
    by BlankLine q = tt
    by CodeLine q = tt
    by QuoteLine q = tt
    by (HeadingLine y) q = tt
    by (FenceLine f) q = tt
    by (HtmlLine y) q = tt
    by RuleLine q = tt
    by TextLine q = tt
    by LazyLine q = tt

-- where lines have well blocks in them
abbrev Makes : ℕ → (List Line → List Found) → Type 0
Makes n bs = (ls : List Line) → Lines n ls → AreFound n (bs ls)

items_well : (n : ℕ) (bs : List Line → List Found) → Makes n bs → (fuel first : ℕ) (m : ItemMark × List Line) → IsCalm (m.0).first.bytes → LinesAre (m.1) → suc (length (m.0).first.bytes) + bytes_in (m.1) ≤ n → AreFound n (map item_block (items bs fuel first m))
items_well n bs h zero first m c hs l = tt
items_well n bs h (suc fuel) first m c hs l = (
  tree_well n (bs inside) (h inside (front_is n (in_item bs (m.0).width) (λ i x k. in_item_is bs (m.0).width i x k) (Written (m.0).first ∷ []) (m.1) (c, tt) hs (omega (arith, l)))),
  next (sibling (m.0).sort left) (sibling_is n (m.0).sort left (all_drop LineIs blanks rest (all_drop LineIs (length inside - 1) (m.1) hs)) (let a : bytes_in left ≤ bytes_in rest = bytes_drop blanks rest in let b : bytes_in rest ≤ bytes_in (m.1) = bytes_drop (length inside - 1) (m.1) in omega (arith, a, b, l))) (λ k s d ds e. items_well n bs h fuel k s d ds e) _,
)
  where
    inside : List Line
    inside = item_lines bs (m.0) (m.1)

    rest : List Line
    rest = drop (length inside - 1) (m.1)

    blanks : ℕ
    blanks = blank_count rest

    left : List Line
    left = drop blanks rest

    next : (o : Option (ItemMark × List Line)) → OnMark n o → ((k : ℕ) (s : ItemMark × List Line) → IsCalm (s.0).first.bytes → LinesAre (s.1) → suc (length (s.0).first.bytes) + bytes_in (s.1) ≤ n → AreFound n (map item_block (items bs fuel k s))) → (k : ℕ) → AreFound n (map item_block (and_siblings (λ s. items bs fuel k s) o))
    next None d again k = tt
    next (Some s) d again k = again k s (d.0) (d.1) (d.2)

list_well : (n : ℕ) (m : ItemMark) (number : Option ℕ) (tight : Bool) (bs : block.Blocks) → AreWell n bs → IsWell n (list_block m number tight bs)
list_well n m None tight bs h = h
list_well n m (Some k) tight bs h = h

between_short : (bs : List ℕ) (i j : ℕ) → length (bytes_between bs i j) ≤ length bs
between_short bs i j = by (nat_le i j && nat_le j (length bs))
  where
    by : (k : Bool) → length (if k then take (j - i) (drop i bs) else []) ≤ length bs
    by true = let a : length (take (j - i) (drop i bs)) ≡ min (j - i) (length (drop i bs)) = length-take (j - i) (drop i bs) in let b : length (drop i bs) ≡ length bs - i = length-drop i bs in omega (arith, a, b)
    by false = omega arith

text_blank : TextLine ≡ BlankLine → ⊥
text_blank k = let j : TextLine ≡ BlankLine = k in cc

lazy_blank : LazyLine ≡ BlankLine → ⊥
lazy_blank k = let j : LazyLine ≡ BlankLine = k in cc

first_well : (n : ℕ) (bs : List Line → List Found) → Makes n bs → (at : ℕ) (l : Line) (ls : List Line) → LineIs l → LinesAre ls → bytes_in (l ∷ ls) ≤ n → (k : Beginning) → beginning l ≡ k → AreFound n (first_block bs at l ls k).found
first_well n bs h at l ls hl hs m BlankLine e = tt
first_well n bs h at l ls hl hs m CodeLine e = (tt, tt)
first_well n bs h at l ls hl hs m QuoteLine e = (tree_well n _ (h _ (front_is n (in_quote bs) (λ i x k. in_quote_is bs i x k) [] (l ∷ ls) tt (hl, hs) (omega (arith, m)))), tt)
first_well n bs h at l ls hl hs m (HeadingLine x) e = ((calm_ends (heading_text x (line_ink l) (cells (line_ink l))) (calm_between (line_ink l) (cell_place (cells (line_ink l)) x.from (length (line_ink l))) (cell_place (cells (line_ink l)) x.to (length (line_ink l))) (line_calm l hl)), (let a : length (heading_text x (line_ink l) (cells (line_ink l))) ≤ length (line_ink l) = between_short (line_ink l) (cell_place (cells (line_ink l)) x.from (length (line_ink l))) (cell_place (cells (line_ink l)) x.to (length (line_ink l))) in let b : length (line_ink l) ≤ length (line_bytes l) = ink_short l in omega (arith, a, b, m))), tt)
first_well n bs h at l ls hl hs m (FenceLine f) e = (tt, tt)
first_well n bs h at l ls hl hs m (HtmlLine x) e = (html_well (map line_spelled (take (leaves.html_count x (l ∷ ls)) (l ∷ ls))), tt)
first_well n bs h at l ls hl hs m RuleLine e = (tt, tt)
first_well n bs h at l ls hl hs m (ItemLine k) e =
    let mark : IsMark (length (line_bytes l)) k = mark_is l k hl e in
    (list_well n k k.number _ _ (tree_well n _ (items_well n bs h (length ls + 1) at (k, ls) (mark.0) hs (let a : length k.first.bytes ≤ length (line_bytes l) = mark.1 in omega (arith, a, m)))), tt)
first_well n bs h at l ls hl hs m TextLine e =
    let w : Texts n ((paragraph_lines (line_ink l ∷ []) ls).0) = lines_inky n (line_ink l ∷ []) ls (line_inky l hl (λ q. text_blank (sym e ∙ q)), tt) hs (let b : length (line_ink l) ≤ length (line_bytes l) = ink_short l in omega (arith, b, m)) in
    paragraph_well n at ((paragraph_lines (line_ink l ∷ []) ls).0) ((paragraph_lines (line_ink l ∷ []) ls).1) (definitions (paragraph_lines (line_ink l ∷ []) ls).0) (w.0) (w.1)
first_well n bs h at l ls hl hs m LazyLine e =
    let w : Texts n ((paragraph_lines (line_ink l ∷ []) ls).0) = lines_inky n (line_ink l ∷ []) ls (line_inky l hl (λ q. lazy_blank (sym e ∙ q)), tt) hs (let b : length (line_ink l) ≤ length (line_bytes l) = ink_short l in omega (arith, b, m)) in
    paragraph_well n at ((paragraph_lines (line_ink l ∷ []) ls).0) ((paragraph_lines (line_ink l ∷ []) ls).1) (definitions (paragraph_lines (line_ink l ∷ []) ls).0) (w.0) (w.1)

blocks_well : (n fuel at : ℕ) (ls : List Line) → Lines n ls → AreFound n (blocks_from fuel at ls)
unfolding blocks_from
blocks_well n zero at ls h = tt
blocks_well n (suc fuel) at [] h = tt
blocks_well n (suc fuel) at (l ∷ ls) h =
    all_both (λ (f : Found). IsWell n f.block) (first_block (λ x. blocks_from fuel 0 x) at l ls (beginning l)).found _
    (first_well n (λ x. blocks_from fuel 0 x) (λ x k. blocks_well n fuel 0 x k) at l ls (h.0.0) (h.0.1) (h.1) (beginning l) refl)
    (blocks_well n fuel _ _ (all_drop LineIs _ (l ∷ ls) (h.0), let a : bytes_in (drop count (l ∷ ls)) ≤ bytes_in (l ∷ ls) = bytes_drop count (l ∷ ls) in let b : bytes_in (l ∷ ls) ≤ n = h.1 in omega (arith, a, b)))
  where
    count : ℕ
    count = (first_block (λ x. blocks_from fuel 0 x) at l ls (beginning l)).count

-- the lines of a text

lines_are : (n : ℕ) (line bs : List ℕ) → IsCalm line → length line + length bs + 1 ≤ n → Lines n (lines_after line bs)
lines_are n [] [] h l = (tt, omega arith)
lines_are n (b ∷ bs) [] h l = ((h, tt), omega (arith, l))
lines_are n line (b ∷ bs) h l = by (b == 10) refl (λ m xs k d. lines_are m xs bs k d)
  where
    by : (z : Bool) → (b == 10) ≡ z → ((m : ℕ) (xs : List ℕ) → IsCalm xs → length xs + length bs + 1 ≤ m → Lines m (lines_after xs bs)) → Lines n (line_ended (λ xs. lines_after xs bs) line b z)
    by true e next = let r : Lines (length bs + 1) (lines_after [] bs) = next (length bs + 1) [] tt (omega arith) in ((h, r.0), let a : bytes_in (lines_after [] bs) ≤ length bs + 1 = r.1 in omega (arith, a, l))
    by false e next = next n (line ++ b ∷ []) (all_both (λ x. (x == 10) ≡ false) line (b ∷ []) h (e, tt)) (let a : length (line ++ b ∷ []) ≡ length line + 1 = length-append line (b ∷ []) in omega (arith, a, l))

-- bytes without U+0000 get no more
plain_short : (after_return : Bool) (bs : List ℕ) → HasNoZero bs → length (plain_bytes after_return bs) ≤ length bs
plain_short r [] h = omega arith
plain_short r (b ∷ bs) h =
    let both = both_false (b == 0) (list_any (λ x. x == 0) bs) h in
    let a : length (plain_byte r b ++ plain_bytes (b == 13) bs) ≡ length (plain_byte r b) + length (plain_bytes (b == 13) bs) = length-append (plain_byte r b) (plain_bytes (b == 13) bs) in
    let c : length (plain_bytes (b == 13) bs) ≤ length bs = plain_short (b == 13) bs (both.1) in
    let d : length (plain_byte r b) ≤ 1 = one (b == 13) ((b == 10) && r) (b == 0) (both.0) in
    omega (arith, a, c, d)
  where
    one : (x y z : Bool) → z ≡ false → length (if x then 10 ∷ [] else (if y then [] else (if z then 0xef ∷ 0xbf ∷ 0xbd ∷ [] else b ∷ []))) ≤ 1
    one true y z e = omega arith
    one false true z e = omega arith
    one false false true e = absurd (true≢false e)
    one false false false e = omega arith

lines_in : (text : List ℕ) → HasNoZero text → Lines (length text + 1) (lines_of text)
lines_in text zeros = lines_are (length text + 1) [] (plain_bytes false text) tt (let a : length (plain_bytes false text) ≤ length text = plain_short false text zeros in omega (arith, a))

size_is : (n : ℕ) (ls : List Line) → fold (λ (k : ℕ) (l : Line). k + length (line_bytes l) + 1) n ls ≡ n + bytes_in ls
size_is n [] = omega arith
size_is n (l ∷ ls) = let a : fold (λ (k : ℕ) (x : Line). k + length (line_bytes x) + 1) (n + length (line_bytes l) + 1) ls ≡ n + length (line_bytes l) + 1 + bytes_in ls = size_is (n + length (line_bytes l) + 1) ls in omega (arith, a)

pub lines_short : (text : List ℕ) → HasNoZero text → size (lines_of text) ≤ length text + 1
lines_short text zeros = let a : size (lines_of text) ≡ 0 + bytes_in (lines_of text) = size_is 0 (lines_of text) in let b : bytes_in (lines_of text) ≤ length text + 1 = (lines_in text zeros).1 in omega (arith, a, b)

pub blocks-well : (text : List ℕ) → HasNoZero text → AreWell (length text + 1) (blocks_of text)
unfolding blocks blocks_of
blocks-well text zeros = tree_well (length text + 1) _ (blocks_well (length text + 1) _ 0 (lines_of text) (lines_in text zeros))

-- Which containers go on in a line: an item by indentation, and any open containers one after the other.
use Rattle.std.proofs.Common.{◌≡◌, ℕ, zero, suc, ◌+◌, ◌-◌, ◌^◌, ◌<◌, ◌≤◌, Bool, true, false, not, ◌&&◌, ◌==◌, if◌then◌else◌, min, nat_le, List, [], ◌∷◌, ◌++◌, length, drop, refl, ap, sym, ◌∙◌, arith, Option, Some, None}
use Rattle.std.specs.Prelude.{unwrap_or}
use Rattle.std.specs.List.{list_any}
use Rattle.std.specs.Option.{option_map_or}
use Rattle.std.proofs.lemmas.Bool.Decides.{nat_tests}
use Rattle.std.proofs.lemmas.List.{drop-drop}
use Rattle.tocmark_read_scan.specs.Basic.{plus}
use Rattle.tocmark_read_lines.specs.Cells.{cells_at, moved, ink_from}
use Rattle.tocmark_read_lines.specs.Containers.{item_goes_on, going_on, passed, stopped, matched_from, quote_from, blank_depth}
use Rattle.tocmark_read_lines.specs.declared.cell.Cell.{Cell}
use Rattle.tocmark_read_lines.specs.declared.cell.Cursor.{Cursor}
use Rattle.tocmark_read_lines.specs.declared.container.Opened.{Opened}
use Rattle.tocmark_read_lines.specs.declared.line.Line.{Line}
use Rattle.tocmark_read_lines.proofs.Columns.{length_kept}
use Rattle.tocmark_commonmark.specs.Lines.{Line as DeclaredLine, Part, Written, is_blank, is_blank_line, tab_width, indent, ink, without_columns}
use Rattle.tocmark_commonmark.specs.Tree.{Found}
use Rattle.tocmark_commonmark.specs.Beginnings.{beginning, may_be_lazy}
use Rattle.tocmark_commonmark.specs.Containers.{lazily, in_item_as, in_item}
use Rattle.tocmark_block_laws.specs.Quotes.{IsPlain}
use Rattle.tocmark_block_laws.proofs.TextLines.{Plain, plain_head}
use Rattle.tocmark_block_laws.proofs.Fronts.{spaces_of, part_at, place_at, indent_same, spaces_low, blank_same, spaces_next, spaces_none}
use Rattle.tocmark_block_laws.proofs.Codes.{CodeFacts}
use Rattle.tocmark_block_laws.proofs.Starts.{left_at, At}

-- columns of spaces in front

-- without so many columns, or as many as are there
pub columns_gone : (k c : ℕ) (ys : List ℕ) → IsPlain ys → without_columns k (part_at c ys) ≡ part_at (c + min k (spaces_of ys)) (drop (min k (spaces_of ys)) ys)
columns_gone zero c ys h = ap (λ n. part_at n ys) (let q : c ≡ c + 0 = omega arith in q) ∙ ap (λ n. part_at (c + n) (drop n ys)) (let q : 0 ≡ min 0 (spaces_of ys) = omega arith in q)
columns_gone (suc k) c [] h = columns_gone k c [] h ∙ ap (λ n. part_at (c + n) (drop n [])) (let q : min k (spaces_of []) ≡ min (suc k) (spaces_of []) = omega arith in q)
columns_gone (suc k) c (b ∷ bs) h = by (b == 32) refl (columns_gone k (c + 1) bs p.more) (columns_gone k c (b ∷ bs) h)
  where
    p : Plain b bs
    p = plain_head b bs h

    tabbed : Part
    tabbed = record { column = c + tab_width c; spaces = tab_width c - 1; bytes = bs }

    by : (t : Bool) → (b == 32) ≡ t → without_columns k (part_at (c + 1) bs) ≡ part_at (c + 1 + min k (spaces_of bs)) (drop (min k (spaces_of bs)) bs)
        → without_columns k (part_at c (b ∷ bs)) ≡ part_at (c + min k (spaces_of (b ∷ bs))) (drop (min k (spaces_of (b ∷ bs))) (b ∷ bs))
        → without_columns (suc k) (part_at c (b ∷ bs)) ≡ part_at (c + min (suc k) (spaces_of (b ∷ bs))) (drop (min (suc k) (spaces_of (b ∷ bs))) (b ∷ bs))
    by true e next same =
        ap (λ t. without_columns k (if t then part_at (c + 1) bs else (if b == 9 then tabbed else part_at c (b ∷ bs)))) e
        ∙ next
        ∙ ap (λ n. part_at n (drop (min k (spaces_of bs)) bs)) (let q : c + 1 + min k (spaces_of bs) ≡ c + suc (min k (spaces_of bs)) = omega arith in q)
        ∙ ap (λ n. part_at (c + n) (drop n (b ∷ bs))) (let q : suc (min k (spaces_of bs)) ≡ min (suc k) (spaces_of (b ∷ bs)) = omega (arith, spaces_next b bs e) in q)
    by false e next same =
        ap (λ t. without_columns k (if t then part_at (c + 1) bs else (if b == 9 then tabbed else part_at c (b ∷ bs)))) e
        ∙ ap (λ t. without_columns k (if t then tabbed else part_at c (b ∷ bs))) p.tab
        ∙ same
        ∙ ap (λ n. part_at (c + n) (drop n (b ∷ bs))) (let q : min k (spaces_of (b ∷ bs)) ≡ min (suc k) (spaces_of (b ∷ bs)) = omega (arith, spaces_none b bs e p.tab) in q)

pub spaces_dropped : (k : ℕ) (ys : List ℕ) → IsPlain ys → k ≤ spaces_of ys → spaces_of (drop k ys) ≡ spaces_of ys - k
spaces_dropped zero ys h low = omega arith
spaces_dropped (suc k) [] h low = absurd (omega (arith, low))
spaces_dropped (suc k) (b ∷ bs) h low = by (b == 32) refl (λ less. spaces_dropped k bs p.more less)
  where
    p : Plain b bs
    p = plain_head b bs h

    by : (t : Bool) → (b == 32) ≡ t → (k ≤ spaces_of bs → spaces_of (drop k bs) ≡ spaces_of bs - k) → spaces_of (drop k bs) ≡ spaces_of (b ∷ bs) - suc k
    by true e again =
        let count : spaces_of (b ∷ bs) ≡ suc (spaces_of bs) = spaces_next b bs e in
        let less : spaces_of (drop k bs) ≡ spaces_of bs - k = again (omega (arith, low, count)) in
        omega (arith, count, less)
    by false e again = absurd (omega (arith, low, spaces_none b bs e p.tab))

-- an item goes on

-- what an item does with a line: whether it is blank, whether it is indented far enough, whether the item has a block
abbrev pub item_next : Bool → Bool → Bool → Cursor → Option Cursor
item_next true far had next = if had then Some next else None
item_next false true had next = Some next
item_next false false had next = None

-- both see of a line whether it belongs to an item of this width, and what is left of it in there
pub record Indented (l : Line) (c : ℕ) (xs ys : List ℕ) (width : ℕ) : Type 0 where
  pub to : ℕ
  pub inside : to ≤ length xs
  pub further : c ≤ to
  pub left : without_columns width (part_at c ys) ≡ part_at to (drop to xs)
  pub goes : (had : Bool) → item_goes_on (cells_at l.start [] xs) (place_at c ys) width had ≡ item_next (is_blank ys) (nat_le width (indent (part_at c ys))) had (place_at to (drop to xs))

-- a place in the spaces in front
moved_within : (text : List ℕ) (l : Line) (c : ℕ) (xs ys : List ℕ) → At text l c xs ys → (k : ℕ) → k ≤ spaces_of ys → moved (cells_at l.start [] xs) (place_at c ys) (c + k) ≡ place_at (c + k) (drop (c + k) xs)
unfolding moved
moved_within text l c xs ys a k low =
    ap (λ b. at_ink (if b then c + spaces_of ys else ink_from (cells_at l.start [] xs) (c + k))) (let q : nat_le (c + k) (c + spaces_of ys) ≡ true = grind (arith, low, nat_tests) in q)
    ∙ ap at_ink (let q : c + spaces_of ys ≡ c + k + (spaces_of ys - k) = omega (arith, low) in q)
    ∙ ap (λ n. at_ink (c + k + n)) (sym (spaces_dropped k ys a.plain low))
    ∙ ap (λ zs. place_at (c + k) zs) (ap (drop k) (sym a.left) ∙ drop-drop k c xs)
  where
    at_ink : ℕ → Cursor
    at_ink n = record { column = c + k; ink = n }

pub indented : (text : List ℕ) (l : Line) (c : ℕ) (xs ys : List ℕ) → At text l c xs ys → (width : ℕ) → Indented l c xs ys width
unfolding item_goes_on
indented text l c xs ys a width =
    record {
      to = c + k;
      inside = omega (arith, count, most);
      further = omega arith;
      left = columns_gone width c ys a.plain ∙ ap (part_at (c + k)) (ap (drop k) (sym a.left) ∙ drop-drop k c xs);
      goes = λ had. rw (code.blank, far) (by (is_blank ys) (nat_le width (indent (part_at c ys))) had refl refl);
    }
  where
    whole : List Cell
    whole = cells_at l.start [] xs

    place : Cursor
    place = place_at c ys

    k : ℕ
    k = min width (spaces_of ys)

    code : CodeFacts text l whole place ys
    code = a.code

    count : length xs ≡ c + length ys
    count = a.count

    short : length xs + 3 < 2 ^ 64
    short = a.short

    most : spaces_of ys ≤ length ys
    most = spaces_low ys

    wide : indent (part_at c ys) ≡ spaces_of ys
    wide = indent_same c ys a.plain

    far : nat_le width (c + spaces_of ys - c) ≡ nat_le width (indent (part_at c ys))
    far = ap (nat_le width) (let q : c + spaces_of ys - c ≡ indent (part_at c ys) = omega (arith, wide) in q)

    next : Cursor
    next = place_at (c + k) (drop (c + k) xs)

    moves : moved whole place (c + k) ≡ next
    moves = moved_within text l c xs ys a k (omega arith)

    far_moves : nat_le width (indent (part_at c ys)) ≡ true → moved whole place (plus c width) ≡ next
    far_moves e = let low : width ≤ indent (part_at c ys) = grind (arith, e, nat_tests) in ap (moved whole place) (let q : plus c width ≡ c + k = omega (arith, low, wide, most, count, short) in q) ∙ moves

    end_moves : is_blank ys ≡ true → nat_le width (indent (part_at c ys)) ≡ false → moved whole place (length whole) ≡ next
    end_moves b e =
        let q : nat_le (length ys) (spaces_of ys) ≡ true = blank_same ys ∙ b in
        let low : length ys ≤ spaces_of ys = grind (arith, q, nat_tests) in
        let less : indent (part_at c ys) < width = grind (arith, e, nat_tests) in
        ap (moved whole place) (let r : length whole ≡ c + k = omega (arith, length_kept l.start [] xs, low, less, wide, most, count) in r) ∙ moves

    by : (b f had : Bool) → is_blank ys ≡ b → nat_le width (indent (part_at c ys)) ≡ f
        → (if b && not had then None else (if f then Some (moved whole place (plus c width)) else (if b then Some (moved whole place (length whole)) else None))) ≡ item_next b f had next
    by true true true p q = ap (λ z. Some z) (far_moves q)
    by true true false p q = refl
    by true false true p q = ap (λ z. Some z) (end_moves p q)
    by true false false p q = refl
    by false true had p q = ap (λ z. Some z) (far_moves q)
    by false false had p q = refl

-- some line isn't blank
abbrev pub has_line : List DeclaredLine → Bool
has_line inside = list_any (λ l. not (is_blank_line l)) inside

-- a line that goes on in an item is the line that is declared in it; another one goes on in it only lazily
pub belongs : (text : List ℕ) (l : Line) (c : ℕ) (xs ys : List ℕ) → At text l c xs ys → (width : ℕ) (blocks : List DeclaredLine → List Found) (inside : List DeclaredLine)
    → in_item blocks width inside (left_at (place_at c ys) ys)
    ≡ option_map_or (λ (next : Cursor). Some (left_at next (drop next.column xs))) (item_goes_on (cells_at l.start [] xs) (place_at c ys) width (has_line inside))
    (if is_blank ys then None else lazily blocks inside (ink (part_at c ys)) (may_be_lazy (beginning (left_at (place_at c ys) ys))))
belongs text l c xs ys a width blocks inside =
    by (is_blank ys) (nat_le width (indent p)) (has_line inside) refl
    ∙ ap (λ o. option_map_or shows o (if is_blank ys then None else lazy)) (sym (i.goes (has_line inside)))
  where
    i : Indented l c xs ys width
    i = indented text l c xs ys a width

    p : Part
    p = part_at c ys

    next : Cursor
    next = place_at i.to (drop i.to xs)

    lazy : Option DeclaredLine
    lazy = lazily blocks inside (ink p) (may_be_lazy (beginning (Written p)))

    shows : Cursor → Option DeclaredLine
    shows z = Some (left_at z (drop z.column xs))

    by : (b f had : Bool) → has_line inside ≡ had → in_item_as blocks width inside p b f ≡ option_map_or shows (item_next b f had next) (if b then None else lazy)
    by true f true e = ap (λ k. if k then Some (Written (without_columns width p)) else None) e ∙ ap (λ q. Some (Written q)) i.left
    by true f false e = ap (λ k. if k then Some (Written (without_columns width p)) else None) e
    by false true had e = ap (λ q. Some (Written q)) i.left
    by false false had e = refl

-- open containers, one after the other

-- a line goes on in these, from one place to another
abbrev pub Passes : List Cell → Cursor → List Opened → Cursor → Type 0
Passes columns from [] to = from ≡ to
Passes columns from (o ∷ os) to = (next : Cursor) × (passed columns from o ≡ Some next) × Passes columns next os to

-- what comes after one that is passed or not
abbrev after_one : List Cell → List Opened → List ℕ → ℕ → Cursor → List Opened → Option Cursor → ℕ × Cursor
after_one columns opened quotes count from os p = option_map_or (λ next. matched_from columns opened quotes (plus count 1) next os) p (stopped columns opened quotes count from, from)

-- it goes on in all of them
pub passes_all : (columns : List Cell) (opened : List Opened) (quotes : List ℕ) (count : ℕ) (from to : Cursor) (os : List Opened) → Passes columns from os to → count + length os + 1 < 2 ^ 64 → matched_from columns opened quotes count from os ≡ (count + length os, to)
passes_all columns opened quotes count from to [] h fits = ap (λ z. (count, z)) h ∙ ap (λ n. (n, to)) (let q : count ≡ count + 0 = omega arith in q)
passes_all columns opened quotes count from to (o ∷ os) (next, p, h) fits =
    ap (after_one columns opened quotes count from os) p
    ∙ ap (λ n. matched_from columns opened quotes n next os) (let q : plus count 1 ≡ count + 1 = omega (arith, fits) in q)
    ∙ passes_all columns opened quotes (count + 1) next to os h (omega (arith, fits))
    ∙ ap (λ n. (n, to)) (let q : count + 1 + length os ≡ count + suc (length os) = omega arith in q)

-- it goes on in the first of them, and something is left of it
pub passes_first : (columns : List Cell) (opened : List Opened) (quotes : List ℕ) (count : ℕ) (from to : Cursor) (os : List Opened) (o : Opened) (rest : List Opened) → Passes columns from os to → passed columns to o ≡ None → nat_le (length columns) to.column ≡ false → count + length os + 1 < 2 ^ 64
    → matched_from columns opened quotes count from (os ++ o ∷ rest) ≡ (count + length os, to)
unfolding stopped
passes_first columns opened quotes count from to [] o rest h none left fits =
    ap (λ z. matched_from columns opened quotes count z (o ∷ rest)) h
    ∙ ap (after_one columns opened quotes count to rest) none
    ∙ ap (λ k. ((if k then unwrap_or (quote_from quotes count) (blank_depth opened) else count), to)) left
    ∙ ap (λ n. (n, to)) (let q : count ≡ count + 0 = omega arith in q)
passes_first columns opened quotes count from to (p ∷ os) o rest (next, q, h) none left fits =
    ap (after_one columns opened quotes count from (os ++ o ∷ rest)) q
    ∙ ap (λ n. matched_from columns opened quotes n next (os ++ o ∷ rest)) (let r : plus count 1 ≡ count + 1 = omega (arith, fits) in r)
    ∙ passes_first columns opened quotes (count + 1) next to os o rest h none left (omega (arith, fits))
    ∙ ap (λ n. (n, to)) (let r : count + 1 + length os ≡ count + suc (length os) = omega arith in r)

-- nothing is left of it: the containers up to the next quote go on, or all but an empty item
pub passes_end : (columns : List Cell) (opened : List Opened) (quotes : List ℕ) (count : ℕ) (from to : Cursor) (os : List Opened) (o : Opened) (rest : List Opened) → Passes columns from os to → nat_le (length columns) to.column ≡ true → count + length os + 1 < 2 ^ 64
    → matched_from columns opened quotes count from (os ++ o ∷ rest) ≡ (unwrap_or (quote_from quotes (count + length os)) (blank_depth opened), to)
unfolding stopped passed
passes_end columns opened quotes count from to [] o rest h ended fits =
    ap (λ z. matched_from columns opened quotes count z (o ∷ rest)) h
    ∙ ap (λ k. after_one columns opened quotes count to rest (if k then None else going_on columns to o)) ended
    ∙ ap (λ k. ((if k then unwrap_or (quote_from quotes count) (blank_depth opened) else count), to)) ended
    ∙ ap (λ n. (unwrap_or (quote_from quotes n) (blank_depth opened), to)) (let q : count ≡ count + 0 = omega arith in q)
passes_end columns opened quotes count from to (p ∷ os) o rest (next, q, h) ended fits =
    ap (after_one columns opened quotes count from (os ++ o ∷ rest)) q
    ∙ ap (λ n. matched_from columns opened quotes n next (os ++ o ∷ rest)) (let r : plus count 1 ≡ count + 1 = omega (arith, fits) in r)
    ∙ passes_end columns opened quotes (count + 1) next to os o rest h ended (omega (arith, fits))
    ∙ ap (λ n. (unwrap_or (quote_from quotes n) (blank_depth opened), to)) (let r : count + 1 + length os ≡ count + suc (length os) = omega arith in r)

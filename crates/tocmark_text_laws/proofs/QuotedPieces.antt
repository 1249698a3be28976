-- What a leaf keeps of a line after other bytes, and what of a line is where in both texts.
use Rattle.std.proofs.Common.{◌≡◌, ◌⊎◌, inl, inr, ℕ, zero, suc, ◌+◌, ◌-◌, ◌*◌, ◌^◌, ◌<◌, ◌≤◌, Bool, true, false, ◌==◌, ◌&&◌, if◌then◌else◌, nat_lt, nat_le, List, [], ◌∷◌, ◌++◌, length, take, drop, flat_map, refl, ap, sym, ◌∙◌, arith, length-append}
use Rattle.std.specs.List.{list_any}
use Rattle.std.proofs.lemmas.Bool.Decides.{nat_tests}
use Rattle.tocmark_read_scan.specs.Basic.{plus, byte_at, bytes_between}
use Rattle.tocmark_read_scan.proofs.PlainTests.{both_false}
use Rattle.tocmark_read_lines.specs.Cells.{cells_at, cells_of, cell_byte, cell_place, ink_from}
use Rattle.tocmark_read_lines.specs.declared.beginnings.Heading.{Heading}
use Rattle.tocmark_read_lines.specs.declared.cell.Cell.{Cell}
use Rattle.tocmark_read_lines.specs.declared.cell.Cursor.{Cursor}
use Rattle.tocmark_read_lines.specs.declared.line.Line.{Line}
use Rattle.tocmark_read_lines.proofs.Columns.{byte_asked, bytes_kept, length_kept, plain_cells, place_kept}
use Rattle.tocmark_read_page.specs.Definitions.{DefinitionView, begins_definition, replaced, joined_line, joined, definitions_from}
use Rattle.tocmark_read_page.specs.Pieces.{is_split, code_piece, whole_place, text_piece, heading_piece, keeps_line}
use Rattle.tocmark_read_page.specs.declared.leaf.Leaf.{Leaf}
use Rattle.tocmark_read_page.specs.declared.leaf.Leaf.TheVariants as leaf
use Rattle.tocmark_read_page.specs.declared.piece.Piece.{Piece}
use Rattle.tocmark_text_laws.proofs.Pairs.{Pairs}
use Rattle.tocmark_text_laws.proofs.QuotedCells.{lt_true, Fronted, cursor_on, In, length_on, ink_two, lt_shift}
use Rattle.tocmark_text_laws.proofs.QuotedMarks.{heading_on}

-- a line of both texts, which is so many bytes further in the one with markers
pub record LineOn (t q : List ℕ) (there here : Line) : Type 0 where
  pub gap : ℕ
  pub front : List ℕ
  pub flat : list_any (λ b. b == 9) front ≡ false
  pub number : there.number ≡ here.number
  pub counted : there.number < 2 ^ 64
  pub starts : there.start + length front ≡ here.start + gap
  pub ends : there.end ≡ here.end + gap
  pub nexts : there.next ≡ here.next + gap
  pub order : here.start ≤ here.end
  pub onto : here.end ≤ here.next
  pub short : here.next + gap + 12 < 2 ^ 64
  pub near : 2 * here.next + 9 < 2 ^ 64
  pub long : length (bytes_between t here.start here.end) ≡ here.end - here.start
  pub words : bytes_between q there.start there.end ≡ front ++ bytes_between t here.start here.end
  pub plain : list_any (λ b. b == 9) (bytes_between t here.start here.end) ≡ false
  pub window : (i j : ℕ) → here.start ≤ i → j ≤ here.next → bytes_between q (i + gap) (j + gap) ≡ bytes_between t i j
  pub byte : (i : ℕ) → here.start ≤ i → i ≤ here.end → byte_at q (i + gap) ≡ byte_at t i

-- the same with its columns
pub record Beside (t q : List ℕ) (there here : Line) (shift : ℕ) (w r : List Cell) : Type 0 where
  pub line : LineOn t q there here
  pub fronted : Fronted shift w r
  pub wide : here.start + length r ≡ here.end
  pub placed : (c : ℕ) → cell_place w (shift + c) there.end ≡ cell_place r c here.end + line.gap
  pub begins : (c : ℕ) → here.start ≤ cell_place r c here.end
  pub stops : (c : ℕ) → cell_place r c here.end ≤ here.end
  pub whole_there : (c : ℕ) → is_split w (shift + c) ≡ false
  pub whole_here : (c : ℕ) → is_split r c ≡ false
  pub first : ((length r ≡ 0) × (cell_byte r 0 ≡ 10)) ⊎ (cell_byte r 0 ≡ byte_at t here.start)

-- no byte of a line without tabs takes two columns
unsplit : (at : ℕ) (bs : List ℕ) (c : ℕ) → at + length bs + 3 < 2 ^ 64 → is_split (cells_at at [] bs) c ≡ false
unfolding is_split
unsplit at bs c fits = rw (length_kept at [] bs) (by (nat_lt 0 c) (nat_lt c (length bs)) refl refl)
  where
    by : (j k : Bool) → nat_lt 0 c ≡ j → nat_lt c (length bs) ≡ k → (j && k && (cell_place (cells_at at [] bs) (c - 1) 0 == cell_place (cells_at at [] bs) c 0)) ≡ false
    by false k e f = refl
    by true false e f = refl
    by true true e f =
        let some : 0 < c = grind (arith, e, nat_tests) in
        let less : c < length bs = grind (arith, f, nat_tests) in
        let before : nat_lt (c - 1) (length bs) ≡ true = let z : c - 1 < length bs = omega (arith, less) in grind (arith, z, nat_tests) in
        let low : at < 2 ^ 64 = omega (arith, fits) in
        let one : cell_place (cells_at at [] bs) (c - 1) 0 ≡ plus at (c - 1) = place_kept at [] bs (c - 1) 0 low ∙ ap (λ k. if k then plus at (c - 1) else 0) before in
        let two : cell_place (cells_at at [] bs) c 0 ≡ plus at c = place_kept at [] bs c 0 low ∙ ap (λ k. if k then plus at c else 0) f in
        let apart : (plus at (c - 1) == plus at c) ≡ false = let z : plus at (c - 1) < plus at c = omega (arith, some, less, fits) in grind (arith, z, nat_tests) in
        rw (one, two) apart

place_as : (at : ℕ) (bs : List ℕ) (c end : ℕ) → at < 2 ^ 64 → cell_place (cells_at at [] bs) c end ≡ (if nat_lt c (length bs) then plus at c else end)
place_as at bs c end h = place_kept at [] bs c end h

both_plain : (ms bs : List ℕ) → list_any (λ b. b == 9) ms ≡ false → list_any (λ b. b == 9) bs ≡ false → list_any (λ b. b == 9) (ms ++ bs) ≡ false
both_plain [] bs h k = k
both_plain (m ∷ ms) bs h k = let both = both_false (m == 9) (list_any (λ b. b == 9) ms) h in rw (both.0) (both_plain ms bs (both.1) k)

-- the first byte of a part
take_first : (k from : ℕ) (xs : List ℕ) → (take k (drop from xs) ≡ []) ⊎ (byte_at (take k (drop from xs)) 0 ≡ byte_at xs from)
take_first zero from xs = inl refl
take_first (suc k) zero [] = inl refl
take_first (suc k) zero (x ∷ xs) = inr refl
take_first (suc k) (suc from) [] = inl refl
take_first (suc k) (suc from) (x ∷ xs) = take_first (suc k) from xs

pub between_first : (xs : List ℕ) (from to : ℕ) → (bytes_between xs from to ≡ []) ⊎ (byte_at (bytes_between xs from to) 0 ≡ byte_at xs from)
between_first xs from to = by (nat_le from to && nat_le to (length xs))
  where
    by : (k : Bool) → ((if k then take (to - from) (drop from xs) else []) ≡ []) ⊎ (byte_at (if k then take (to - from) (drop from xs) else []) 0 ≡ byte_at xs from)
    by true = take_first (to - from) from xs
    by false = inl refl

-- a line of both texts with its columns
pub beside : (t q : List ℕ) (there here : Line) (h : LineOn t q there here)
    → (both : Beside t q there here (length h.front) (cells_of [] there.start (bytes_between q there.start there.end)) (cells_of [] here.start (bytes_between t here.start here.end))) × (both.fronted.front ≡ h.front)
beside t q there here h =
    rw (h.words, plain_cells here.start bs h.plain, plain_cells there.start (marks ++ bs) (both_plain marks bs h.flat h.plain)) (
      record {
        line = h;
        first = begins_with;
        fronted = record {
          front = marks;
          long = refl;
          bytes = bytes_kept there.start [] (marks ++ bs) ∙ sym (ap (λ xs. marks ++ xs) (bytes_kept here.start [] bs));
          fits = omega (arith, length_kept here.start [] bs, h.long, h.order, h.onto, h.short, h.starts);
        };
        wide = omega (arith, length_kept here.start [] bs, h.long, h.order);
        placed = λ c. placed c;
        begins = λ c. begins c;
        stops = λ c. stops c;
        whole_there = λ c. unsplit there.start (marks ++ bs) (shift + c) (omega (arith, long, h.long, h.order, h.onto, h.short, h.starts));
        whole_here = λ c. unsplit here.start bs c (omega (arith, h.long, h.order, h.onto, h.short));
      },
      refl,
    )
  where
    bs : List ℕ
    bs = bytes_between t here.start here.end

    marks : List ℕ
    marks = h.front

    begins_with : ((length (cells_at here.start [] bs) ≡ 0) × (cell_byte (cells_at here.start [] bs) 0 ≡ 10)) ⊎ (cell_byte (cells_at here.start [] bs) 0 ≡ byte_at t here.start)
    begins_with = by (between_first t here.start here.end)
      where
        word : cell_byte (cells_at here.start [] bs) 0 ≡ byte_at bs 0
        word = byte_asked (cells_at here.start [] bs) 0 ∙ ap (λ (xs : List ℕ). byte_at xs 0) (bytes_kept here.start [] bs)

        by : (bs ≡ []) ⊎ (byte_at bs 0 ≡ byte_at t here.start) → ((length (cells_at here.start [] bs) ≡ 0) × (cell_byte (cells_at here.start [] bs) 0 ≡ 10)) ⊎ (cell_byte (cells_at here.start [] bs) 0 ≡ byte_at t here.start)
        by (inl e) = inl (length_kept here.start [] bs ∙ ap length e, word ∙ ap (λ (xs : List ℕ). byte_at xs 0) e)
        by (inr e) = inr (word ∙ e)

    shift : ℕ
    shift = length marks

    long : length (marks ++ bs) ≡ shift + length bs
    long = length-append marks bs

    low_here : here.start < 2 ^ 64
    low_here = omega (arith, h.order, h.onto, h.short)

    low_there : there.start < 2 ^ 64
    low_there = omega (arith, h.order, h.onto, h.short, h.starts)

    placed : (c : ℕ) → cell_place (cells_at there.start [] (marks ++ bs)) (shift + c) there.end ≡ cell_place (cells_at here.start [] bs) c here.end + h.gap
    placed c = place_as there.start (marks ++ bs) (shift + c) there.end low_there ∙ rw (long, lt_shift shift c (length bs)) (by (nat_lt c (length bs)) refl) ∙ sym (ap (λ n. n + h.gap) (place_as here.start bs c here.end low_here))
      where
        by : (k : Bool) → nat_lt c (length bs) ≡ k → (if k then plus there.start (shift + c) else there.end) ≡ (if k then plus here.start c else here.end) + h.gap
        by true e = let less : c < length bs = lt_true c (length bs) e in omega (arith, less, h.long, h.order, h.onto, h.short, h.starts)
        by false e = h.ends

    begins : (c : ℕ) → here.start ≤ cell_place (cells_at here.start [] bs) c here.end
    begins c = rw (place_as here.start bs c here.end low_here) (by (nat_lt c (length bs)))
      where
        by : (k : Bool) → here.start ≤ (if k then plus here.start c else here.end)
        by true = omega (arith, h.order, h.onto, h.short)
        by false = h.order

    stops : (c : ℕ) → cell_place (cells_at here.start [] bs) c here.end ≤ here.end
    stops c = rw (place_as here.start bs c here.end low_here) (by (nat_lt c (length bs)) refl)
      where
        by : (k : Bool) → nat_lt c (length bs) ≡ k → (if k then plus here.start c else here.end) ≤ here.end
        by true e = let less : c < length bs = lt_true c (length bs) e in omega (arith, less, h.long, h.order)
        by false e = omega arith

-- a line of a leaf in both texts
pub record PieceOn (t q : List ℕ) (there here : Piece) : Type 0 where
  pub spaces : there.spaces ≡ here.spaces
  pub words : bytes_between q there.start there.end ≡ bytes_between t here.start here.end
  pub whole : bytes_between q there.start there.next ≡ bytes_between t here.start here.next
  pub first : byte_at q there.start ≡ byte_at t here.start
  pub some : nat_lt there.start there.next ≡ nat_lt here.start here.next

lt_more : (a b n : ℕ) → nat_lt (a + n) (b + n) ≡ nat_lt a b
lt_more a b n = grind (arith, nat_tests)

-- a part of a line, from a place of its bytes on
placed_piece : (t q : List ℕ) (there here : Line) (h : LineOn t q there here) (from from' start end next : ℕ) → here.start ≤ start → start ≤ here.end → end ≤ here.next → next ≤ here.next
    → PieceOn t q (record { spaces = 0; from = from'; start = start + h.gap; end = end + h.gap; next = next + h.gap }) (record { spaces = 0; from = from; start = start; end = end; next = next })
placed_piece t q there here h from from' start end next low in_line before last = record {
  spaces = refl;
  words = h.window start end low before;
  whole = h.window start next low last;
  first = h.byte start low in_line;
  some = lt_more start next h.gap;
}

pub code_two : (t q : List ℕ) (there here : Line) (shift : ℕ) (w r : List Cell) (c : ℕ) → Beside t q there here shift w r → PieceOn t q (code_piece w (shift + c) there) (code_piece r c here)
unfolding code_piece
code_two t q there here shift w r c h =
    rw (h.whole_there c, h.whole_here c, h.placed c, h.line.ends, h.line.nexts)
    (placed_piece t q there here h.line (cell_place r c here.end) (cell_place r c here.end + h.line.gap) (cell_place r c here.end) here.end here.next (h.begins c) (h.stops c) h.line.onto (omega arith))

pub text_two : (t q : List ℕ) (there here : Line) (shift : ℕ) (w r : List Cell) (c : Cursor) → Beside t q there here shift w r → PieceOn t q (text_piece w (cursor_on shift c) there) (text_piece r c here)
unfolding text_piece
text_two t q there here shift w r c h =
    rw (h.placed c.ink, h.line.ends, h.line.nexts)
    (placed_piece t q there here h.line (whole_place r c.column here) _ (cell_place r c.ink here.end) here.end here.next (h.begins c.ink) (h.stops c.ink) h.line.onto (omega arith))

pub heading_piece_two : (t q : List ℕ) (there here : Line) (shift : ℕ) (w r : List Cell) (x : Heading) → Beside t q there here shift w r → PieceOn t q (heading_piece w (heading_on shift x) there) (heading_piece r x here)
unfolding heading_piece
heading_piece_two t q there here shift w r x h =
    rw (h.placed x.to, h.placed x.from)
    (placed_piece t q there here h.line (cell_place r x.from here.end) (cell_place r x.from here.end + h.line.gap) (cell_place r x.from here.end) (cell_place r x.to here.end) (cell_place r x.to here.end) (h.begins x.from) (h.stops x.from) (omega (arith, h.stops x.to, h.line.onto)) (omega (arith, h.stops x.to, h.line.onto)))

pub keeps_two : (shift : ℕ) (w r : List Cell) (c : ℕ) (k : Leaf) → Fronted shift w r → In r c → keeps_line w (shift + c) k ≡ keeps_line r c k
unfolding keeps_line
keeps_two shift w r c leaf.Indented h low = rw (ink_two shift w r c h low, length_on shift w r h) (lt_shift shift (ink_from r c) (length r))
keeps_two shift w r c leaf.Nothing h low = refl
keeps_two shift w r c leaf.Paragraph h low = refl
keeps_two shift w r c (leaf.Fenced f) h low = refl
keeps_two shift w r c (leaf.Html k) h low = refl
keeps_two shift w r c (leaf.Metadata k) h low = refl
keeps_two shift w r c (leaf.Table x) h low = refl

-- definitions of links

begins_two : (t q : List ℕ) (xs ys : List Piece) → Pairs (PieceOn t q) xs ys → begins_definition q xs ≡ begins_definition t ys
unfolding begins_definition
begins_two t q [] [] h = refl
begins_two t q [] (y ∷ ys) h = absurd h
begins_two t q (x ∷ xs) [] h = absurd h
begins_two t q (x ∷ xs) (y ∷ ys) h = ap (λ b. b == 91) (h.0).first

joined_two : (t q : List ℕ) (xs ys : List Piece) → Pairs (PieceOn t q) xs ys → joined q xs ≡ joined t ys
joined_two t q [] [] h = refl
joined_two t q [] (y ∷ ys) h = absurd h
joined_two t q (x ∷ xs) [] h = absurd h
joined_two t q (x ∷ xs) (y ∷ ys) h =
    ap (λ bs. (flat_map replaced bs ++ 10 ∷ []) ++ joined q xs) (h.0).words
    ∙ ap (λ bs. joined_line t y ++ bs) (joined_two t q xs ys (h.1))

pub definitions_two : (t q : List ℕ) (xs ys : List Piece) (ds : List DefinitionView) → Pairs (PieceOn t q) xs ys → definitions_from q xs ds ≡ definitions_from t ys ds
unfolding definitions_from
definitions_two t q xs ys ds h = rw (begins_two t q xs ys h, joined_two t q xs ys h) refl

-- The lines of a text are kept whole: what leaves take of a line is a range of the text.
use Rattle.std.proofs.Common.{◌≡◌, ℕ, zero, suc, ◌+◌, ◌-◌, ◌^◌, ◌<◌, ◌≤◌, ◌*◌, Bool, true, false, ◌==◌, ◌&&◌, if◌then◌else◌, nat_lt, nat_le, List, [], ◌∷◌, ◌++◌, length, take, drop, flat_map, refl, ap, sym, ◌∙◌, subst, arith, append-nil, slice_range, true≢false, inl, inr}
use Rattle.std.specs.List.{list_any, AllByRecursion}
use Rattle.std.specs.Str.{IsUtf8}
use Rattle.std.proofs.lemmas.Bool.Decides.{nat_tests}
use Rattle.std.proofs.lemmas.Str.{IsUtf8-between}
use Rattle.tocmark_read_scan.specs.Basic.{plus, bytes_between}
use Rattle.tocmark_read_lines.specs.Cells.{cells_at, cell_place}
use Rattle.tocmark_read_lines.proofs.Columns.{length_kept, place_kept, plain_cells}
use Rattle.tocmark_read_lines.specs.Lines.{lines_of}
use Rattle.tocmark_read_lines.specs.declared.beginnings.Heading.{Heading}
use Rattle.tocmark_read_lines.specs.declared.cell.Cell.{Cell}
use Rattle.tocmark_read_lines.specs.declared.cell.Cursor.{Cursor}
use Rattle.tocmark_read_lines.specs.declared.line.Line.{Line}
use Rattle.tocmark_read_page.specs.Definitions.{replaced}
use Rattle.tocmark_read_page.specs.Pieces.{same_place, is_split, piece_of, code_piece, text_piece, heading_piece}
use Rattle.tocmark_read_page.specs.declared.piece.Piece.{Piece}
use Rattle.tocmark_reader.specs.Words.{feed_if}
use Rattle.tocmark_reader.proofs.Zeros.{without_zeros, none_between}
use Rattle.tocmark_text_laws.specs.Lines.{IsEnded, IsLine}
use Rattle.tocmark_text_laws.proofs.Endings.{lines-end}
use Rattle.tocmark_text_laws.proofs.Grounds.{past_place}
use Rattle.tocmark_text_laws.proofs.InPlace.{At, page_shut}
use Rattle.tocmark_text_laws.proofs.Placed.{Held, Shut}
use Rattle.tocmark_read_blocks.specs.Blocks.{page_in, blocks_in}
use Rattle.tocmark_read_scan.specs.declared.syntax.TheConstants.{CORE}
use Rattle.tocmark_block_laws.specs.Quotes.{is_special, IsPlain}
use Rattle.tocmark_block_laws.proofs.Fronts.{between_further, byte_first}
use Rattle.tocmark_block_laws.proofs.Columns.{plus_low}
use Rattle.tocmark_block_laws.proofs.TextLines.{Sound, lines_sound, between_plain, no_tab}
use Rattle.tocmark_block_laws.proofs.Texts.{between_is, between_length, place_there}
use Rattle.tocmark_inline_laws.proofs.Stretches.{between_more}
use Rattle.tocmark_standard_laws.specs.Contents.{HasNoZero}
use Rattle.tocmark_standard_laws.proofs.Cuts.{has_bytes, drop_front}
use Rattle.tocmark_standard_laws.proofs.FitWalk.{Gives, cells_in}
use Rattle.tocmark_standard_laws.proofs.LineBlocks.{IsWhole, IsText}

-- no byte of these is U+0000
pub zero_free : (text : List ℕ) (from to : ℕ) → HasNoZero text → flat_map replaced (bytes_between text from to) ≡ bytes_between text from to
zero_free text from to h = by (nat_le from to && nat_le to (length text))
  where
    by : (k : Bool) → flat_map replaced (if k then slice_range text from to else []) ≡ (if k then slice_range text from to else [])
    by true = without_zeros (slice_range text from to) (none_between text from to h)
    by false = refl

-- a column is at a byte of the line, or at its end

-- no column is in a tab
never_split : (start : ℕ) (xs : List ℕ) (c : ℕ) → start + length xs + 3 < 2 ^ 64 → is_split (cells_at start [] xs) c ≡ false
unfolding is_split
never_split start xs zero fits = refl
never_split start xs (suc d) fits = by (nat_lt (suc d) (length xs)) refl
  where
    cs : List Cell
    cs = cells_at start [] xs

    count : length cs ≡ length xs
    count = length_kept start [] xs

    place : (e : ℕ) → e < length xs → cell_place cs e 0 ≡ start + e
    place e low =
        let there : nat_lt e (length xs) ≡ true = grind (arith, low, nat_tests) in
        let sum : plus start e ≡ start + e = plus_low start e (omega (arith, low, fits)) in
        place_kept start [] xs e 0 (omega (arith, fits)) ∙ rw there sum

    first : nat_lt 0 (suc d) ≡ true
    first = grind (arith, nat_tests)

    by : (k : Bool) → nat_lt (suc d) (length xs) ≡ k → (nat_lt 0 (suc d) && nat_lt (suc d) (length cs) && (cell_place cs (suc d - 1) 0 == cell_place cs (suc d) 0)) ≡ false
    by true q =
        let low : suc d < length xs = grind (arith, q, nat_tests) in
        let less : suc d - 1 ≡ d = omega arith in
        let differ : (start + d == start + suc d) ≡ false = grind (arith, nat_tests) in
        rw (first, count, q, less, place d (omega (arith, low)), place (suc d) low) differ
    by false q = rw (first, count, q) refl

-- how many bytes of a line are before a column
record IsPast (text : List ℕ) (l : Line) (place : ℕ) : Type 0 where
  count : ℕ
  low : count ≤ length (bytes_between text l.start l.end)
  is : place ≡ l.start + count

-- a line ends with a line feed, or with the text
record Ends (text : List ℕ) (l : Line) : Type 0 where
  further : l.end ≤ l.next
  within : l.next ≤ length text
  bytes : bytes_between text l.start l.next ≡ bytes_between text l.start l.end ++ feed_if (nat_lt l.end l.next)

-- a line that is kept whole
record Clean (text : List ℕ) (l : Line) : Type 0 where
  sound : Sound text l
  ends : Ends text l

-- in a text without a carriage return
line_ends : (text : List ℕ) (l : Line) → IsPlain text → Sound text l → IsEnded text l → Ends text l
line_ends text l plain s (inl e) = record {
  further = omega (arith, one);
  within = within;
  bytes =
      ap (λ n. bytes_between text l.start n) one
      ∙ between_more text l.start l.end s.order (omega (arith, one, within))
      ∙ ap (λ b. bytes_between text l.start l.end ++ b ∷ []) (byte_first text l.end l.next 10 [] e)
      ∙ ap (λ k. bytes_between text l.start l.end ++ feed_if k) (let q : true ≡ nat_lt l.end l.next = grind (arith, nat_tests, one) in q);
}
  where
    both : (l.end ≤ l.next) × (l.next ≤ length text)
    both = has_bytes text l.end l.next (let q : length (bytes_between text l.end l.next) ≡ 1 = ap length e in omega (arith, q))

    within : l.next ≤ length text
    within = both.1

    one : l.next ≡ suc l.end
    one = let q : length (bytes_between text l.end l.next) ≡ 1 = ap length e in let r : length (bytes_between text l.end l.next) ≡ l.next - l.end = between_length text l.end l.next (both.0) within in let o : l.end ≤ l.next = both.0 in omega (arith, q, r, o)
line_ends text l plain s (inr (inl e)) = absurd (true≢false (ap (list_any is_special) (sym e) ∙ between_plain text l.end l.next plain))
line_ends text l plain s (inr (inr (inl e))) = absurd (true≢false (ap (list_any is_special) (sym (e.0)) ∙ between_plain text l.end l.next plain))
line_ends text l plain s (inr (inr (inr e))) = record {
  further = omega (arith, same);
  within = omega (arith, at);
  bytes =
      ap (λ n. bytes_between text l.start n) same
      ∙ sym (append-nil (bytes_between text l.start l.end))
      ∙ ap (λ k. bytes_between text l.start l.end ++ feed_if k) (let q : false ≡ nat_lt l.end l.next = grind (arith, nat_tests, same) in q);
}
  where
    at : l.next ≡ length text
    at = e.1

    same : l.next ≡ l.end
    same = let w : l.end ≤ length text = s.within in let q : length (bytes_between text l.end l.next) ≡ 0 = ap length (e.0) in let r : length (bytes_between text l.end l.next) ≡ l.next - l.end = between_length text l.end l.next (omega (arith, at, w)) (omega (arith, at)) in omega (arith, q, r, at, w)

line_long : (text : List ℕ) (l : Line) → Sound text l → l.start + length (bytes_between text l.start l.end) ≡ l.end
line_long text l s = let o : l.start ≤ l.end = s.order in let w : l.end ≤ length text = s.within in let q : length (bytes_between text l.start l.end) ≡ l.end - l.start = between_length text l.start l.end o w in omega (arith, q, o)

column_past : (text : List ℕ) (l : Line) (c : ℕ) → length text + 3 < 2 ^ 64 → Sound text l → IsPast text l (cell_place (cells_at l.start [] (bytes_between text l.start l.end)) c l.end)
column_past text l c fits s = by (nat_le c (length xs)) refl
  where
    xs : List ℕ
    xs = bytes_between text l.start l.end

    long : l.start + length xs ≡ l.end
    long = line_long text l s

    within : l.end ≤ length text
    within = s.within

    by : (k : Bool) → nat_le c (length xs) ≡ k → IsPast text l (cell_place (cells_at l.start [] xs) c l.end)
    by true e = let low : c ≤ length xs = grind (arith, nat_tests, e) in record { count = c; low = low; is = place_there l.start xs c l.end low (sym long) (omega (arith, within, fits)) }
    by false e =
        let high : length xs < c = grind (arith, nat_tests, e) in
        let size : length (cells_at l.start [] xs) ≡ length xs = length_kept l.start [] xs in
        record { count = length xs; low = omega arith; is = sym (past_place (cells_at l.start [] xs) c l.end (omega (arith, size, high))) ∙ sym long }

-- what is left of a line from a byte on, with its line feed if it has one
rest_fed : (text : List ℕ) (l : Line) (place : ℕ) → HasNoZero text → Clean text l → IsPast text l place → flat_map replaced (bytes_between text place l.end) ++ feed_if (nat_lt l.end l.next) ≡ bytes_between text place l.next
rest_fed text l place zeros c p =
    ap (λ n. flat_map replaced (bytes_between text n l.end) ++ feed_if (nat_lt l.end l.next)) p.is
    ∙ ap (λ bytes. bytes ++ feed_if (nat_lt l.end l.next)) (zero_free text (l.start + p.count) l.end zeros ∙ between_further text l.start p.count l.end (omega (arith, low, long)) within)
    ∙ sym (drop_front p.count xs (feed_if (nat_lt l.end l.next)) low)
    ∙ ap (drop p.count) (sym c.ends.bytes)
    ∙ sym (between_further text l.start p.count l.next (let e : l.end ≤ l.next = c.ends.further in omega (arith, low, long, e)) c.ends.within)
    ∙ ap (λ n. bytes_between text n l.next) (sym p.is)
  where
    xs : List ℕ
    xs = bytes_between text l.start l.end

    low : p.count ≤ length xs
    low = p.low

    long : l.start + length xs ≡ l.end
    long = line_long text l c.sound

    within : l.end ≤ length text
    within = c.sound.within

-- the pieces of a line are whole

code_whole : (text : List ℕ) (l : Line) (column : ℕ) → length text + 3 < 2 ^ 64 → HasNoZero text → Clean text l → IsWhole text (code_piece (cells_at l.start [] (bytes_between text l.start l.end)) column l)
unfolding code_piece
code_whole text l column fits zeros c = subst (λ k. IsWhole text (if k then piece_of (same_place cs column at) (plus at 1) l.end l.next else piece_of 0 at l.end l.next)) (sym (never_split l.start (bytes_between text l.start l.end) column (let w : l.end ≤ length text = c.sound.within in let q : l.start + length (bytes_between text l.start l.end) ≡ l.end = line_long text l c.sound in omega (arith, w, q, fits)))) (record {
  spaces = refl;
  bytes = rest_fed text l at zeros c (column_past text l column fits c.sound);
})
  where
    cs : List Cell
    cs = cells_at l.start [] (bytes_between text l.start l.end)

    at : ℕ
    at = cell_place cs column l.end

text_whole : (text : List ℕ) (l : Line) (cursor : Cursor) → length text + 3 < 2 ^ 64 → HasNoZero text → Clean text l → IsWhole text (text_piece (cells_at l.start [] (bytes_between text l.start l.end)) cursor l)
unfolding text_piece
text_whole text l cursor fits zeros c = record { spaces = refl; bytes = rest_fed text l (cell_place (cells_at l.start [] (bytes_between text l.start l.end)) cursor.ink l.end) zeros c (column_past text l cursor.ink fits c.sound) }

heading_whole : (text : List ℕ) (cs : List Cell) (l : Line) (h : Heading) → HasNoZero text → IsWhole text (heading_piece cs h l)
unfolding heading_piece
heading_whole text cs l h zeros = record {
  spaces = refl;
  bytes = ap (λ k. flat_map replaced bytes ++ feed_if k) (let q : nat_lt end end ≡ false = grind (arith, nat_tests) in q) ∙ append-nil (flat_map replaced bytes) ∙ zero_free text (cell_place cs h.from l.end) end zeros;
}
  where
    end : ℕ
    end = cell_place cs h.to l.end

    bytes : List ℕ
    bytes = bytes_between text (cell_place cs h.from l.end) end

line_gives : (text : List ℕ) (l : Line) → length text + 3 < 2 ^ 64 → HasNoZero text → IsPlain text → Clean text l → Gives (IsWhole text) (cells_in text l) l
line_gives text l fits zeros plain c = subst (λ (cs : List Cell). Gives (IsWhole text) cs l) (sym (plain_cells l.start (bytes_between text l.start l.end) (no_tab (bytes_between text l.start l.end) (between_plain text l.start l.end plain)))) (record {
  code = λ column. code_whole text l column fits zeros c;
  text = λ cursor. text_whole text l cursor fits zeros c;
  heading = λ h. heading_whole text (cells_at l.start [] (bytes_between text l.start l.end)) l h zeros;
})

all_give : (text : List ℕ) (ls : List Line) → length text + 3 < 2 ^ 64 → HasNoZero text → IsPlain text → AllByRecursion (Sound text) ls → AllByRecursion (IsLine text) ls → AllByRecursion (λ (l : Line). Gives (IsWhole text) (cells_in text l) l) ls
all_give text [] fits zeros plain s e = tt
all_give text (l ∷ ls) fits zeros plain s e = (line_gives text l fits zeros plain (record { sound = s.0; ends = line_ends text l plain (s.0) (e.0.ending) }), all_give text ls fits zeros plain (s.1) (e.1))

-- the lines of a text give whole pieces
pub lines_give : (text : List ℕ) → length text + 3 < 2 ^ 64 → HasNoZero text → IsPlain text → AllByRecursion (λ (l : Line). Gives (IsWhole text) (cells_in text l) l) (lines_of text)
lines_give text fits zeros plain = all_give text (lines_of text) fits zeros plain (lines_sound text plain) (lines-end text (omega arith))

-- the pieces are ranges of characters

held_text : (text : List ℕ) (m : ℕ) (p : Piece) → IsUtf8 text → Held (At text) m p → IsText text p
held_text text m p utf8 h e =
    let further : p.start < p.next = grind (arith, nat_tests, e) in
    let within : p.next ≤ length text = (h.stops).0 in
    let is : bytes_between text p.start p.next ≡ take (p.next - p.start) (drop p.start text) = between_is text p.start p.next (omega (arith, further)) within in
    let long : length (bytes_between text p.start p.next) ≡ p.next - p.start = between_length text p.start p.next (omega (arith, further)) within in
    (subst IsUtf8 (sym is) (IsUtf8-between text p.start p.next utf8 (omega (arith, further)) h.begins h.stops), omega (arith, long, further))

all_text : (text : List ℕ) (m : ℕ) (ps : List Piece) → IsUtf8 text → AllByRecursion (Held (At text) m) ps → AllByRecursion (IsText text) ps
all_text text m [] utf8 h = tt
all_text text m (p ∷ ps) utf8 h = (held_text text m p utf8 (h.0), all_text text m ps utf8 (h.1))

pub pieces_text : (text : List ℕ) → IsUtf8 text → 4 * length text + 1 < 2 ^ 64 → AllByRecursion (IsText text) (blocks_in CORE text).pieces
unfolding blocks_in
pieces_text text utf8 small = by (page_shut text utf8 small)
  where
    by : (m : ℕ) × Shut (At text) m (page_in CORE text) → AllByRecursion (IsText text) (page_in CORE text).pieces
    by (m, h) = all_text text m (page_in CORE text).pieces utf8 (h.2)

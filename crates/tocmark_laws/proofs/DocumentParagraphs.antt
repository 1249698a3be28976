-- Paragraphs of many lines after other blocks: the page, its pieces, and their content.
use Rattle.std.proofs.Common.{◌≡◌, ℕ, suc, ◌+◌, ◌-◌, ◌^◌, ◌<◌, true, false, ◌==◌, nat_lt, nat_le, List, [], ◌∷◌, ◌++◌, length, map, refl, ap, sym, ◌∙◌, arith, append_assoc, length-append, None}
use Rattle.std.proofs.Math.Seq.{take-length}
use Rattle.std.proofs.lemmas.Bool.Decides.{nat_tests}
use Rattle.std.specs.List.{AllByRecursion, fold}
use Rattle.tocmark_read_scan.specs.Basic.{plus, byte_at, bytes_between}
use Rattle.tocmark_read_scan.specs.Class.{is_in}
use Rattle.tocmark_read_scan.specs.Content as content
use Rattle.tocmark_read_scan.specs.declared.class.Class.TheVariants.{White}
use Rattle.tocmark_read_scan.proofs.PlainContent.{get_behind, places_of, put_bytes_plain, trimmed_feed, length_places}
use Rattle.tocmark_read_scan.proofs.PlainPieces.{feed_joined, piece_between, drop_behind, places_append, AreNoZeros}
use Rattle.tocmark_read_lines.specs.Cells.{cells_of, cell_place, first_cursor}
use Rattle.tocmark_read_lines.specs.Lines.{line}
use Rattle.tocmark_read_lines.specs.Containers.{raised_at}
use Rattle.tocmark_read_lines.specs.declared.cell.Cell.{Cell}
use Rattle.tocmark_read_lines.specs.declared.line.Line.{Line}
use Rattle.tocmark_read_page.specs.Pieces.{piece_of, is_split, whole_place, text_piece}
use Rattle.tocmark_read_page.specs.Definitions.{begins_definition, definitions_from}
use Rattle.tocmark_read_page.specs.Leaves.{is_paragraph}
use Rattle.tocmark_read_blocks.specs.Leaves.{leaf_turn}
use Rattle.tocmark_read_page.specs.declared.piece.Piece.{Piece}
use Rattle.tocmark_read_page.specs.declared.leaf.Leaf.TheVariants as leaf
use Rattle.tocmark_read_page.specs.declared.page.HeaderLine.TheVariants.{Never}
use Rattle.tocmark_read_page.specs.Pages.{State, leaf_closed, closed_to, times, leaf_finished, finished, settled, shortened, piece_taken, one_closed}
use Rattle.tocmark_read_page.specs.declared.page.Block.{Block}
use Rattle.tocmark_read_page.specs.declared.page.BlockKind.TheVariants as kind
use Rattle.tocmark_read_blocks.specs.Blocks.{cells_taken, cells_taken_in, line_taken, line_taken_in, leaf_started, passed_in, touched, turn_in, turn_of}
use Rattle.tocmark_read_blocks.specs.Paragraphs.{text_taken, text_started}
use Rattle.tocmark_read_blocks.proofs.PlainLines.{numbered}
use Rattle.tocmark_read_blocks.proofs.PlainSteps.{IsPlainLine, line_piece}
use Rattle.tocmark_read_blocks.proofs.PlainTexts.{line_list}
use Rattle.tocmark_reader.specs.Pages.{content_line}
use Rattle.tocmark_laws.proofs.DocumentBlocks.{block, closed, here, get_last, set_last, starts_text, piece_taken_whole, blank_started}

-- a page with an open paragraph that has these pieces
abbrev pub open_lines : List Block → List Piece → List Piece → ℕ → ℕ → ℕ → State
open_lines bs ps new start end number = record {
  blocks = bs ++ block kind.Paragraph start start (length ps) (length ps) ∷ [];
  pieces = ps ++ new;
  definitions = [];
  opened = [];
  quotes = [];
  leaf = leaf.Paragraph;
  end = end;
  line = number;
  kept = length (ps ++ new);
  header = Never;
  tried = 0;
  left = None;
  filled = 0;
}

started_before : (at : ℕ) (bs : List Block) (ps new : List Piece) (p : Piece) (start end number : ℕ) → text_started at (open_lines bs ps (p ∷ new) start end number) ≡ open_lines bs ps (p ∷ new) start end number
unfolding text_started
started_before at bs ps new p start end number =
    let more : nat_le (length (ps ++ p ∷ new)) (length ps) ≡ false = grind (arith, length-append ps (p ∷ new), nat_tests) in
    rw (get_last bs (block kind.Paragraph start start (length ps) (length ps)), more) refl

text_goes_on : (text : List ℕ) (cells : List Cell) (l : Line) (bs : List Block) (ps new : List Piece) (p : Piece) (start end number : ℕ) → cell_place cells 0 l.end ≡ l.start → nat_lt l.start l.next ≡ true → text_taken text cells l here (open_lines bs ps (p ∷ new) start end number) ≡ open_lines bs ps ((p ∷ new) ++ line_piece l ∷ []) start l.end l.number
unfolding text_taken text_piece whole_place is_split is_paragraph
text_goes_on text cells l bs ps new p start end number at h =
    ap (λ at. piece_taken (piece_of 0 at l.end l.next) l true (text_started at (open_lines bs ps (p ∷ new) start end number))) at
    ∙ ap (λ s. piece_taken (line_piece l) l true s) (started_before l.start bs ps new p start end number)
    ∙ piece_taken_whole (line_piece l) l (open_lines bs ps (p ∷ new) start end number) h refl
    ∙ ap (λ (xs : List Piece). (let s : State = record (open_lines bs ps (p ∷ new) start l.end l.number) { pieces = xs; kept = length xs } in s)) (append_assoc ps (p ∷ new) (line_piece l ∷ []))

-- a further line goes into the paragraph
pub line_goes_on : (text : List ℕ) (cells : List Cell) (l : Line) (bs : List Block) (ps new : List Piece) (p : Piece) (start end number : ℕ) → IsPlainLine text cells l → line_taken text (open_lines bs ps (p ∷ new) start end number) l ≡ open_lines bs ps ((p ∷ new) ++ line_piece l ∷ []) start l.end l.number
unfolding line_taken_in cells_taken_in passed_in touched turn_in turn_of leaf_turn
line_goes_on text cells l bs ps new p start end number h =
    let s : State = open_lines bs ps (p ∷ new) start end number in
    ap (λ c. cells_taken text c l s) h.columns
    ∙ ap (λ c. leaf_started text cells l (record { cursor = c; depth = 0 }) s) (h.begins).ink
    ∙ starts_text text cells l s h.place h.begins
    ∙ text_goes_on text cells l bs ps new p start end number h.place h.order

settled_none : (text : List ℕ) (bs : List Block) (ps new : List Piece) (p : Piece) (end number : ℕ) → (byte_at text p.start == 91) ≡ false → length ps < 2 ^ 64 → settled text (open_lines bs ps (p ∷ new) p.start end number) ≡ open_lines bs ps (p ∷ new) p.start end number
unfolding settled definitions_from begins_definition shortened
settled_none text bs ps new p end number h fits =
    let b : Block = block kind.Paragraph p.start p.start (length ps) (length ps) in
    let first : plus (length ps) 0 ≡ length ps = omega (arith, fits) in
    rw (get_last bs b, drop_behind ps (p ∷ new), h, first, get_behind ps new p, set_last bs b b) refl

finished_whole : (bs : List Block) (ps new : List Piece) (p : Piece) (end number : ℕ) → leaf_finished (open_lines bs ps (p ∷ new) p.start end number) ≡ closed (bs ++ block kind.Paragraph p.start end (length ps) (length (ps ++ p ∷ new)) ∷ []) (ps ++ p ∷ new) end number
unfolding leaf_finished finished raised_at
finished_whole bs ps new p end number =
    let b : Block = block kind.Paragraph p.start p.start (length ps) (length ps) in
    rw (take-length (ps ++ p ∷ new), get_last bs b, set_last bs b (block kind.Paragraph p.start end (length ps) (length (ps ++ p ∷ new)))) refl

pub lines_end : (text : List ℕ) (bs : List Block) (ps new : List Piece) (p : Piece) (end number : ℕ) → (byte_at text p.start == 91) ≡ false → length ps < 2 ^ 64 → closed_to text 0 (open_lines bs ps (p ∷ new) p.start end number) ≡ closed (bs ++ block kind.Paragraph p.start end (length ps) (length (ps ++ p ∷ new)) ∷ []) (ps ++ p ∷ new) end number
unfolding closed_to leaf_closed times
lines_end text bs ps new p end number h fits =
    ap (λ s. times one_closed (length s.opened - 0) s) (ap leaf_finished (settled_none text bs ps new p end number h fits) ∙ finished_whole bs ps new p end number)

pub blank_ends : (text : List ℕ) (l : Line) (bs : List Block) (ps new : List Piece) (p : Piece) (end number : ℕ) → bytes_between text l.start l.end ≡ [] → (byte_at text p.start == 91) ≡ false → length ps < 2 ^ 64 → line_taken text (open_lines bs ps (p ∷ new) p.start end number) l ≡ closed (bs ++ block kind.Paragraph p.start end (length ps) (length (ps ++ p ∷ new)) ∷ []) (ps ++ p ∷ new) end number
unfolding line_taken_in cells_taken_in passed_in touched turn_in turn_of leaf_turn first_cursor
blank_ends text l bs ps new p end number e h fits =
    let s : State = open_lines bs ps (p ∷ new) p.start end number in
    ap (λ xs. cells_taken text (cells_of [] l.start xs) l s) e
    ∙ blank_started text l s
    ∙ lines_end text bs ps new p end number h fits

-- the pieces of lines, after which these lines are
abbrev pub line_pieces : ℕ → List ℕ → List (List ℕ) → List (List ℕ) → List Piece
line_pieces start l [] [] = piece_of 0 start (start + length l) (start + length l) ∷ []
line_pieces start l [] (t ∷ ts) = piece_of 0 start (start + length l) (start + length l + 1) ∷ []
line_pieces start l (m ∷ ms) tail = piece_of 0 start (start + length l) (start + length l + 1) ∷ line_pieces (start + length l + 1) m ms tail

-- the lines after lines
abbrev pub lines_behind : ℕ → ℕ → List (List ℕ) → List Line
lines_behind before start [] = []
lines_behind before start (t ∷ ts) = line_list before start t ts

-- how many lines are before the next one, and the number of the last one
abbrev pub count_behind : ℕ → List (List ℕ) → ℕ
count_behind before [] = before + 1
count_behind before (m ∷ ms) = count_behind (before + 1) ms

abbrev pub last_number : ℕ → List (List ℕ) → ℕ
last_number before [] = plus before 1
last_number before (m ∷ ms) = last_number (before + 1) ms

-- a line is plain where it is
abbrev pub IsPlainAt : List ℕ → ℕ → List ℕ → Type 0
IsPlainAt text start l = (next number : ℕ) → start < next → IsPlainLine text (numbered start l) (record { number = number; start = start; end = start + length l; next = next })

abbrev pub ArePlainAt : List ℕ → ℕ → List ℕ → List (List ℕ) → Type 0
ArePlainAt text start l [] = IsPlainAt text start l × (0 < length l)
ArePlainAt text start l (m ∷ ms) = IsPlainAt text start l × ArePlainAt text (start + length l + 1) m ms

pub joined_length : (start : ℕ) (l m : List ℕ) (ms : List (List ℕ)) → start + length l + 1 + length (feed_joined m ms) ≡ start + length (feed_joined l (m ∷ ms))
joined_length start l m ms =
    let width : length (l ++ 10 ∷ feed_joined m ms) ≡ length l + suc (length (feed_joined m ms)) = length-append l (10 ∷ feed_joined m ms) in
    omega (arith, width)

-- further lines of a paragraph, whatever is after them
pub lines_go_on : (text : List ℕ) (before start : ℕ) (l : List ℕ) (ms tail : List (List ℕ)) (bs : List Block) (ps new : List Piece) (p : Piece) (from end number : ℕ) → ArePlainAt text start l ms → fold (line_taken text) (open_lines bs ps (p ∷ new) from end number) (line_list before start l (ms ++ tail)) ≡ fold (line_taken text) (open_lines bs ps ((p ∷ new) ++ line_pieces start l ms tail) from (start + length (feed_joined l ms)) (last_number before ms)) (lines_behind (count_behind before ms) (start + length (feed_joined l ms) + 1) tail)
lines_go_on text before start l [] [] bs ps new p from end number h =
    line_goes_on text (numbered start l) (line before start (start + length l) (start + length l)) bs ps new p from end number (h.0 (start + length l) (plus before 1) (let some : 0 < length l = h.1 in omega (arith, some)))
lines_go_on text before start l [] (t ∷ ts) bs ps new p from end number h =
    ap (λ s. fold (line_taken text) s (line_list (before + 1) (start + length l + 1) t ts))
    (line_goes_on text (numbered start l) (line before start (start + length l) (start + length l + 1)) bs ps new p from end number (h.0 (start + length l + 1) (plus before 1) (omega arith)))
lines_go_on text before start l (m ∷ ms) tail bs ps new p from end number h =
    let next : ℕ = start + length l + 1 in
    let x : Piece = piece_of 0 start (start + length l) next in
    let more : List Piece = line_pieces next m ms tail in
    let last : ℕ = last_number (before + 1) ms in
    let count : ℕ = count_behind (before + 1) ms in
    ap (λ s. fold (line_taken text) s (line_list (before + 1) next m (ms ++ tail)))
    (line_goes_on text (numbered start l) (line before start (start + length l) next) bs ps new p from end number (h.0 next (plus before 1) (omega arith)))
    ∙ lines_go_on text (before + 1) next m ms tail bs ps (new ++ x ∷ []) p from (start + length l) (plus before 1) (h.1)
    ∙ ap (λ (xs : List Piece). fold (line_taken text) (open_lines bs ps (p ∷ xs) from (next + length (feed_joined m ms)) last) (lines_behind count (next + length (feed_joined m ms) + 1) tail)) (append_assoc new (x ∷ []) more)
    ∙ ap (λ n. fold (line_taken text) (open_lines bs ps (p ∷ (new ++ x ∷ more)) from n last) (lines_behind count (n + 1) tail)) (joined_length start l m ms)

-- the content of lines that are in a text

abbrev last_next : ℕ → List (List ℕ) → ℕ
last_next end [] = end
last_next end (t ∷ ts) = end + 1

line_put : (text l : List ℕ) (start next : ℕ) (s : content.State) → bytes_between text start (start + length l) ≡ l → AreNoZeros l → start + length l < 2 ^ 64 → content.put_line text s (record { start = start; end = start + length l; next = next }) ≡ record { bytes = s.bytes ++ (l ++ 10 ∷ []); places = s.places ++ (places_of start l ++ (start + length l, next) ∷ []) }
unfolding content.put_line content.put
line_put text l start next s e h fits =
    ap (λ (xs : List ℕ). content.put 10 (start + length l) next (content.put_bytes start s xs)) e
    ∙ ap (λ (t : content.State). content.put 10 (start + length l) next t) (put_bytes_plain start s l h fits)
    ∙ rw (append_assoc s.bytes l (10 ∷ []), append_assoc s.places (places_of start l) ((start + length l, next) ∷ [])) refl

inside : (text pre l rest : List ℕ) (start : ℕ) → text ≡ pre ++ (l ++ rest) → start ≡ length pre → length text < 2 ^ 64 → start + length l < 2 ^ 64
inside text pre l rest start e at fits =
    let all : length text ≡ length pre + (length l + length rest) = ap length e ∙ length-append pre (l ++ rest) ∙ ap (λ n. length pre + n) (length-append l rest) in
    omega (arith, all, at, fits)

pub behind_line : (text pre l more : List ℕ) → text ≡ pre ++ (l ++ 10 ∷ more) → text ≡ (pre ++ (l ++ 10 ∷ [])) ++ more
behind_line text pre l more e = e ∙ ap (λ (xs : List ℕ). pre ++ xs) (sym (append_assoc l (10 ∷ []) more)) ∙ sym (append_assoc pre (l ++ 10 ∷ []) more)

pub line_length : (pre l : List ℕ) (start : ℕ) → start ≡ length pre → start + length l + 1 ≡ length (pre ++ (l ++ 10 ∷ []))
line_length pre l start at = ap (λ n. n + length l + 1) at ∙ (let q : length pre + length l + 1 ≡ length (pre ++ (l ++ 10 ∷ [])) = grind (arith, length-append) in q)

-- the first of lines, and what is after it
pub first_of : (text pre l m : List ℕ) (ms : List (List ℕ)) (rest : List ℕ) → text ≡ pre ++ (feed_joined l (m ∷ ms) ++ rest) → text ≡ pre ++ (l ++ 10 ∷ (feed_joined m ms ++ rest))
first_of text pre l m ms rest e = e ∙ ap (λ (xs : List ℕ). pre ++ xs) (append_assoc l (10 ∷ feed_joined m ms) rest)

lines_put : (text pre rest : List ℕ) (start : ℕ) (l : List ℕ) (ms tail : List (List ℕ)) (s : content.State) → text ≡ pre ++ (feed_joined l ms ++ rest) → start ≡ length pre → AllByRecursion AreNoZeros (l ∷ ms) → length text < 2 ^ 64 → let end = start + length (feed_joined l ms) in fold (content.put_line text) s (map content_line (line_pieces start l ms tail)) ≡ record { bytes = s.bytes ++ (feed_joined l ms ++ 10 ∷ []); places = s.places ++ (places_of start (feed_joined l ms) ++ (end, last_next end tail) ∷ []) }
unfolding content_line
lines_put text pre rest start l [] [] s e at h fits =
    line_put text l start (start + length l) s (piece_between text pre l rest start (start + length l) e at (ap (λ n. n + length l) at)) (h.0) (inside text pre l rest start e at fits)
lines_put text pre rest start l [] (t ∷ ts) s e at h fits =
    line_put text l start (start + length l + 1) s (piece_between text pre l rest start (start + length l) e at (ap (λ n. n + length l) at)) (h.0) (inside text pre l rest start e at fits)
lines_put text pre rest start l (m ∷ ms) tail s e at h fits =
    let more : List ℕ = feed_joined m ms in
    let next : ℕ = start + length l + 1 in
    let here : text ≡ pre ++ (l ++ 10 ∷ (more ++ rest)) = first_of text pre l m ms rest e in
    let one : content.State = record { bytes = s.bytes ++ (l ++ 10 ∷ []); places = s.places ++ (places_of start l ++ (start + length l, next) ∷ []) } in
    let end : ℕ = next + length more in
    ap (λ (t : content.State). fold (content.put_line text) t (map content_line (line_pieces next m ms tail))) (line_put text l start next s (piece_between text pre l (10 ∷ (more ++ rest)) start (start + length l) here at (ap (λ n. n + length l) at)) (h.0) (inside text pre l (10 ∷ (more ++ rest)) start here at fits))
    ∙ lines_put text (pre ++ (l ++ 10 ∷ [])) rest next m ms tail one (behind_line text pre l (more ++ rest) here) (line_length pre l start at) (h.1) fits
    ∙ rw (
      append_assoc s.bytes (l ++ 10 ∷ []) (more ++ 10 ∷ []),
      append_assoc l (10 ∷ []) (more ++ 10 ∷ []),
      append_assoc l (10 ∷ more) (10 ∷ []),
      append_assoc s.places (places_of start l ++ (start + length l, next) ∷ []) (places_of next more ++ (end, last_next end tail) ∷ []),
      append_assoc (places_of start l) ((start + length l, next) ∷ []) (places_of next more ++ (end, last_next end tail) ∷ []),
      places_append start l (10 ∷ more),
      append_assoc (places_of start l) ((start + length l, next) ∷ places_of next more) ((end, last_next end tail) ∷ []),
    ) refl
    ∙ ap (λ n. (let c : content.State = record { bytes = s.bytes ++ ((l ++ 10 ∷ more) ++ 10 ∷ []); places = s.places ++ (places_of start (l ++ 10 ∷ more) ++ (n, last_next n tail) ∷ []) } in c)) (joined_length start l m ms)

pub content_of_lines : (text pre rest : List ℕ) (start : ℕ) (l : List ℕ) (ms tail : List (List ℕ)) (body : List ℕ) (y : ℕ) → text ≡ pre ++ (feed_joined l ms ++ rest) → start ≡ length pre → feed_joined l ms ≡ body ++ y ∷ [] → is_in White y ≡ false → AllByRecursion AreNoZeros (l ∷ ms) → length text < 2 ^ 64 → content.content_of text (map content_line (line_pieces start l ms tail)) ≡ record { bytes = feed_joined l ms; places = places_of start (feed_joined l ms) }
unfolding content.content_of
content_of_lines text pre rest start l ms tail body y e at split w h fits =
    let all : List ℕ = feed_joined l ms in
    let end : ℕ = start + length all in
    let q : ℕ × ℕ = (end, last_next end tail) in
    ap content.trimmed (lines_put text pre rest start l ms tail (record { bytes = []; places = [] }) e at h fits)
    ∙ ap (λ (xs : List ℕ). content.trimmed (record { bytes = xs ++ 10 ∷ []; places = places_of start all ++ q ∷ [] })) split
    ∙ trimmed_feed body y (places_of start all) q (length_places start all ∙ ap length split) w
    ∙ ap (λ (xs : List ℕ). (let f : content.State = record { bytes = xs; places = places_of start all } in f)) (sym split)

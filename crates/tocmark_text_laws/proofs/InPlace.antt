-- The range of each block of a text is in order, within the text and on boundaries of characters.
use Rattle.std.proofs.Common.{◌≡◌, ℕ, ◌+◌, ◌-◌, ◌*◌, ◌^◌, ◌<◌, ◌≤◌, Bool, true, false, ◌==◌, ◌&&◌, ◌||◌, if◌then◌else◌, nat_lt, nat_le, List, [], ◌∷◌, length, refl, sym, arith, true≢false}
use Rattle.std.specs.Prelude.{slice_index}
use Rattle.std.specs.List.{AllByRecursion, fold}
use Rattle.std.specs.Str.{IsUtf8, IsCharBoundary}
use Rattle.std.proofs.lemmas.Bool.Decides.{nat_tests}
use Rattle.std.proofs.lemmas.Option.{get_or_from_slice_get, slice_get_within}
use Rattle.std.proofs.lemmas.Str.{IsCharBoundary-start, IsCharBoundary-end, IsCharBoundary-before_ascii, IsCharBoundary-after_ascii}
use Rattle.tocmark_read_scan.specs.Basic.{bytes_between}
use Rattle.tocmark_read_scan.specs.declared.syntax.TheConstants.{CORE}
use Rattle.tocmark_read_lines.specs.Cells.{cells_of}
use Rattle.tocmark_read_lines.specs.Lines.{lines_of}
use Rattle.tocmark_read_lines.specs.declared.cell.Cell.{Cell}
use Rattle.tocmark_read_lines.specs.declared.line.Line.{Line}
use Rattle.tocmark_read_page.specs.Pages.{State, first_page}
use Rattle.tocmark_read_page.specs.declared.page.Block.{Block}
use Rattle.tocmark_read_constructs.specs.Metadata.{known_of}
use Rattle.tocmark_read_blocks.specs.Blocks.{core_known, line_taken_in, page_in, blocks_in}
use Rattle.tocmark_read_page.specs.declared.piece.Piece.{Piece}
use Rattle.tocmark_reader.specs.Emitted.{NodeView, Given}
use Rattle.tocmark_reader.specs.Pages.{line_item, line_nodes, lines_nodes, space_nodes}
use Rattle.tocmark_reader.specs.Words.{spaces_text}
use Rattle.tocmark_event.specs.View.{Text}
use Rattle.tocmark_reader.specs.Range.{is_cut}
use Rattle.tocmark_text_laws.specs.Ranges.{IsInPlace, BlocksAreInPlace, LinesAreInPlace}
use Rattle.tocmark_text_laws.proofs.Alls.{all_both, all_weaker}
use Rattle.tocmark_text_laws.proofs.Placed.{Fit, Held, Shut, Stands, shut, closed_to_shut, later_stands}
use Rattle.tocmark_text_laws.proofs.Walked.{cells_stand}
use Rattle.tocmark_text_laws.proofs.Grounds.{Valid, columns}
use Rattle.tocmark_text_laws.proofs.Ranged.{Bounds, LineIn, Ascend, grounded, lines_ascend}

-- boundaries of characters
abbrev pub At : List ℕ → ℕ → Type 0
At t n = IsCharBoundary t n

bounds : (t : List ℕ) → IsUtf8 t → Bounds (At t) t
bounds t u = record {
  front = IsCharBoundary-start t u;
  end = IsCharBoundary-end t;
  around = λ i b e k.
      let w : i < length t = slice_get_within t i b e in
      let q : slice_index t i ≡ b = get_or_from_slice_get t i b 0 e in
      let s : slice_index t i < 128 = omega arith in
      (IsCharBoundary-before_ascii t i w s, IsCharBoundary-after_ascii t i u w s);
}

line_stands : (t : List ℕ) (n : ℕ) (l : Line) (s : State) → 4 * length t < 2 ^ 64 - 1 → Bounds (At t) t → LineIn (At t) t n l → Stands (At t) n s → Stands (At t) l.end (line_taken_in core_known t s l)
unfolding line_taken_in
line_stands t n l s small g h w = cells_stand (At t) (Valid (At t) cells l) t cells l s (columns (At t) cells l (grounded (At t) t n l small g h)) (later_stands (At t) n l.end s (let a : n ≤ l.start = h.after in let b : l.start ≤ l.end = h.ordered in omega arith) w)
  where
    cells : List Cell
    cells = cells_of [] l.start (bytes_between t l.start l.end)

run_stands : (t : List ℕ) (n : ℕ) (ls : List Line) (s : State) → 4 * length t < 2 ^ 64 - 1 → Bounds (At t) t → Ascend (At t) t n ls → Stands (At t) n s → (m : ℕ) × Stands (At t) m (fold (line_taken_in core_known t) s ls)
run_stands t n [] s small g h w = (n, w)
run_stands t n (l ∷ ls) s small g h w = run_stands t l.end ls (line_taken_in core_known t s l) small g (h.1) (line_stands t n l s small g (h.0) w)

boundary_cut : (t : List ℕ) (n : ℕ) → IsCharBoundary t n → is_cut t n ≡ true
boundary_cut t n h = by (nat_lt n (length t)) refl (nat_lt (slice_index t n) 128) refl
  where
    by : (x : Bool) → nat_lt n (length t) ≡ x → (y : Bool) → nat_lt (slice_index t n) 128 ≡ y → (if x then y || nat_le 192 (slice_index t n) else (n == length t)) ≡ true
    by true e true k = refl
    by true e false k =
        let a : n < length t = grind (arith, nat_tests) in
        let b : 128 ≤ slice_index t n = grind (arith, nat_tests) in
        let c : 192 ≤ slice_index t n = (h.1) a b in
        grind (arith, nat_tests)
    by false e y k = let a : length t ≤ n = grind (arith, nat_tests) in let b : n ≤ length t = h.0 in grind (arith, nat_tests)

pub in_place : (t : List ℕ) (a b : ℕ) → IsCharBoundary t a → IsCharBoundary t b → a ≤ b → IsInPlace t (a, b)
in_place t a b h k l = record {
  good = record { ordered = l; start = h; end = k };
  kept = let w : nat_le a b ≡ true = grind (arith, nat_tests) in by (nat_le a b) (is_cut t a) (is_cut t b) w (boundary_cut t a h) (boundary_cut t b k);
}
  where
    range : ℕ × ℕ
    range = (a, b)

    front : ℕ × ℕ
    front = (0, 0)

    by : (x y z : Bool) → x ≡ true → y ≡ true → z ≡ true → (if x && y && z then range else front) ≡ range
    by true true true e f g = refl
    by true true false e f g = absurd (true≢false (sym g))
    by true false z e f g = absurd (true≢false (sym f))
    by false y z e f g = absurd (true≢false (sym e))

-- all blocks of a text have ended
pub page_shut : (t : List ℕ) → IsUtf8 t → 4 * length t + 1 < 2 ^ 64 → (m : ℕ) × Shut (At t) m (page_in CORE t)
unfolding page_in known_of
page_shut t u small = by (run_stands t 0 (lines_of t) first_page (omega arith) (bounds t u) (lines_ascend (At t) t (bounds t u)) (shut refl (tt, tt, tt)))
  where
    by : (m : ℕ) × Stands (At t) m (fold (line_taken_in core_known t) first_page (lines_of t)) → (m : ℕ) × Shut (At t) m (page_in CORE t)
    by (m, w) = (m, closed_to_shut (At t) m t 0 (fold (line_taken_in core_known t) first_page (lines_of t)) w)

pub blocks_in_place : BlocksAreInPlace
unfolding blocks_in
blocks_in_place t u small = by (page_shut t u small)
  where
    by : (m : ℕ) × Shut (At t) m (page_in CORE t) → AllByRecursion (λ (b : Block). IsInPlace t (b.start, b.end)) (page_in CORE t).blocks
    by (m, h) = all_weaker (Fit (At t)) (λ (b : Block). IsInPlace t (b.start, b.end)) (page_in CORE t).blocks (λ b f. in_place t b.start b.end f.begins f.stops f.ordered) (h.0)

abbrev pub In : List ℕ → NodeView → Type 0
In t n = IsInPlace t (n.start, n.end)

line_in : (t : List ℕ) (html : Bool) (depth m : ℕ) (p : Piece) → Held (At t) m p → AllByRecursion (In t) (line_nodes t html depth p)
unfolding line_nodes space_nodes
line_in t html depth m p h = all_both (In t) (space_nodes depth p) _ (spaces (nat_lt 0 p.spaces) refl) (rest (nat_lt p.start p.next))
  where
    spaces : (x : Bool) → nat_lt 0 p.spaces ≡ x → AllByRecursion (In t) (if x then record { depth = depth; item = Given (Text (spaces_text p.spaces)); start = p.start - 1; end = p.start } ∷ [] else [])
    spaces true e = let w : 0 < p.spaces = grind (arith, nat_tests) in (in_place t (p.start - 1) p.start (h.spaces w) h.begins (omega arith), tt)
    spaces false e = tt

    rest : (x : Bool) → AllByRecursion (In t) (if x then record { depth = depth; item = line_item t html p; start = p.start; end = p.next } ∷ [] else [])
    rest true = (in_place t p.start p.next h.begins h.stops h.ordered, tt)
    rest false = tt

pub lines_in : (t : List ℕ) (html : Bool) (depth m : ℕ) (ps : List Piece) → AllByRecursion (Held (At t) m) ps → AllByRecursion (In t) (lines_nodes t html depth ps)
lines_in t html depth m [] h = tt
lines_in t html depth m (p ∷ ps) h = all_both (In t) (line_nodes t html depth p) (lines_nodes t html depth ps) (line_in t html depth m p (h.0)) (lines_in t html depth m ps (h.1))

pub lines_in_place : LinesAreInPlace
unfolding blocks_in
lines_in_place t html depth u small = by (page_shut t u small)
  where
    by : (m : ℕ) × Shut (At t) m (page_in CORE t) → AllByRecursion (In t) (lines_nodes t html depth (page_in CORE t).pieces)
    by (m, h) = lines_in t html depth m (page_in CORE t).pieces (h.2)

-- What a leaf keeps of a line whose places are one further.
use Rattle.std.proofs.Common.{◌≡◌, ℕ, zero, suc, ◌+◌, ◌-◌, ◌^◌, ◌<◌, Bool, true, false, ◌==◌, ◌&&◌, if◌then◌else◌, nat_lt, List, [], ◌∷◌, length, map, drop, refl, ap, ◌∙◌, arith}
use Rattle.std.specs.Prelude.{take_while}
use Rattle.std.proofs.lemmas.Bool.Decides.{nat_tests}
use Rattle.std.proofs.lemmas.List.{length-map, drop-map}
use Prim.Native.Nat.compare
use Rattle.tocmark_read_scan.specs.Basic.{plus}
use Rattle.tocmark_read_lines.specs.Cells.{cell_place}
use Rattle.tocmark_read_lines.specs.declared.beginnings.Heading.{Heading}
use Rattle.tocmark_read_lines.specs.declared.cell.Cell.{Cell}
use Rattle.tocmark_read_lines.specs.declared.cell.Cursor.{Cursor}
use Rattle.tocmark_read_lines.specs.declared.line.Line.{Line}
use Rattle.tocmark_read_page.specs.Pieces.{same_place, is_split, piece_of, code_piece, whole_place, text_piece, heading_piece, keeps_line}
use Rattle.tocmark_read_page.specs.declared.leaf.Leaf.{Leaf}
use Rattle.tocmark_read_page.specs.declared.leaf.Leaf.TheVariants as leaf
use Rattle.tocmark_text_laws.specs.Further.{cell_on, line_on, piece_on}
use Rattle.tocmark_text_laws.proofs.Lists.{while_map}
use Rattle.tocmark_text_laws.proofs.LinesFurther.{plus_on}
use Rattle.tocmark_text_laws.proofs.Cells.{same_length, same_ink, place_on}

-- all places of a line are far below the greatest number
abbrev pub Low : List Cell → ℕ → Type 0
Low cs end = (c : ℕ) → cell_place cs c end + 1 < 2 ^ 64 - 1

pub place_same : (cs : List Cell) (c at : ℕ) → same_place (map cell_on cs) c (suc at) ≡ same_place cs c at
place_same cs c at =
    ap (λ xs. length (take_while (λ (c : Cell). c.at == suc at) xs)) (drop-map cell_on c cs)
    ∙ ap length (while_map cell_on (λ (c : Cell). c.at == suc at) (drop c cs))
    ∙ length-map (take_while (λ (c : Cell). suc c.at == suc at) (drop c cs)) cell_on
    ∙ simp compare.suc-suc

here_on : (cs : List Cell) (c : ℕ) → c < length cs → cell_place (map cell_on cs) c 0 ≡ suc (cell_place cs c 0)
here_on [] c h = absurd (omega arith)
here_on (x ∷ xs) zero h = refl
here_on (x ∷ xs) (suc c) h = here_on xs c (omega arith)

pub same_split : (cs : List Cell) (c : ℕ) → is_split (map cell_on cs) c ≡ is_split cs c
unfolding is_split
same_split cs c = rw (same_length cs) (by (nat_lt 0 c) (nat_lt c (length cs)) refl refl)
  where
    by : (j k : Bool) → nat_lt 0 c ≡ j → nat_lt c (length cs) ≡ k
        → (j && k && (cell_place (map cell_on cs) (c - 1) 0 == cell_place (map cell_on cs) c 0)) ≡ (j && k && (cell_place cs (c - 1) 0 == cell_place cs c 0))
    by false k p q = refl
    by true false p q = refl
    by true true p q =
        let a : c < length cs = grind (arith, nat_tests) in
        let b : c - 1 < length cs = omega arith in
        rw (here_on cs (c - 1) b, here_on cs c a, compare.suc-suc) refl

pub code_on : (cs : List Cell) (c : ℕ) (line : Line) → Low cs line.end → code_piece (map cell_on cs) c (line_on line) ≡ piece_on (code_piece cs c line)
unfolding code_piece
code_on cs c line low = rw (place_on cs c line.end, same_split cs c, place_same cs c (cell_place cs c line.end), plus_on (cell_place cs c line.end) (low c)) (by (is_split cs c))
  where
    at : ℕ
    at = cell_place cs c line.end

    by : (k : Bool) → (if k then piece_of (same_place cs c at) (suc (plus at 1)) (suc line.end) (suc line.next) else piece_of 0 (suc at) (suc line.end) (suc line.next))
        ≡ piece_on (if k then piece_of (same_place cs c at) (plus at 1) line.end line.next else piece_of 0 at line.end line.next)
    by true = refl
    by false = refl

pub whole_on : (cs : List Cell) (c : ℕ) (line : Line) → Low cs line.end → whole_place (map cell_on cs) c (line_on line) ≡ suc (whole_place cs c line)
unfolding whole_place
whole_on cs c line low = rw (place_on cs c line.end, same_split cs c, plus_on (cell_place cs c line.end) (low c)) (by (is_split cs c))
  where
    at : ℕ
    at = cell_place cs c line.end

    by : (k : Bool) → (if k then suc (plus at 1) else suc at) ≡ suc (if k then plus at 1 else at)
    by true = refl
    by false = refl

pub text_on : (cs : List Cell) (cursor : Cursor) (line : Line) → Low cs line.end → text_piece (map cell_on cs) cursor (line_on line) ≡ piece_on (text_piece cs cursor line)
unfolding text_piece
text_on cs cursor line low = rw (whole_on cs cursor.column line low, place_on cs cursor.ink line.end) refl

pub heading_piece_on : (cs : List Cell) (h : Heading) (line : Line) → heading_piece (map cell_on cs) h (line_on line) ≡ piece_on (heading_piece cs h line)
unfolding heading_piece
heading_piece_on cs h line = rw (place_on cs h.to line.end, place_on cs h.from line.end) refl

pub same_keeps : (cs : List Cell) (c : ℕ) (l : Leaf) → keeps_line (map cell_on cs) c l ≡ keeps_line cs c l
unfolding keeps_line
same_keeps cs c leaf.Indented = rw (same_ink cs c, same_length cs) refl
same_keeps cs c leaf.Nothing = refl
same_keeps cs c leaf.Paragraph = refl
same_keeps cs c (leaf.Fenced f) = refl
same_keeps cs c (leaf.Html k) = refl
same_keeps cs c (leaf.Metadata k) = refl
same_keeps cs c (leaf.Table t) = refl

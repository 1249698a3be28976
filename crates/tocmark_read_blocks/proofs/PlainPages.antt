-- The blocks of lines that begin nothing: one paragraph.
use Rattle.std.proofs.Common.{◌≡◌, ℕ, false, ◌==◌, List, [], ◌∷◌, ◌++◌, length, map, ap, sym, ◌∙◌, append_assoc, append-nil, None}
use Rattle.std.specs.List.{AllByRecursion, fold}
use Rattle.tocmark_read_scan.specs.Basic.{byte_at}
use Rattle.tocmark_read_blocks.specs.Blocks.{BlocksView, line_taken, page_in, blocks_in, blocks_of}
use Rattle.tocmark_read_page.specs.Pages.{State, first_page, closed_to}
use Rattle.tocmark_read_lines.specs.Lines.{lines_of}
use Rattle.tocmark_read_constructs.specs.Metadata.{known_of}
use Rattle.tocmark_read_lines.specs.declared.cell.Cell.{Cell}
use Rattle.tocmark_read_lines.specs.declared.line.Line.{Line}
use Rattle.tocmark_read_page.specs.declared.piece.Piece.{Piece}
use Rattle.tocmark_read_page.specs.declared.page.BlockKind.TheVariants as kind
use Rattle.tocmark_read_blocks.proofs.PlainSteps.{IsPlainLine, line_piece, paragraph, line_begins, line_goes_on, paragraph_ends}

-- each line begins nothing
abbrev pub ArePlain : List ℕ → List Line → Type 0
ArePlain text ls = AllByRecursion (λ l. (cells : List Cell) × IsPlainLine text cells l) ls

-- where the last line ends
abbrev pub last_end : ℕ → List Line → ℕ
last_end end [] = end
last_end end (l ∷ ls) = last_end l.end ls

-- the number of the last line
abbrev pub last_number : ℕ → List Line → ℕ
last_number number [] = number
last_number number (l ∷ ls) = last_number l.number ls

more_lines : (text : List ℕ) (p0 : Piece) (pieces : List Piece) (start end number : ℕ) (ls : List Line) → ArePlain text ls → fold (line_taken text) (paragraph (p0 ∷ pieces) start end number) ls ≡ paragraph ((p0 ∷ pieces) ++ map line_piece ls) start (last_end end ls) (last_number number ls)
more_lines text p0 pieces start end number [] h = ap (λ ps. paragraph (p0 ∷ ps) start end number) (sym (append-nil pieces))
more_lines text p0 pieces start end number (l ∷ ls) h =
    ap (λ s. fold (line_taken text) s ls) (line_goes_on text (h.0.0) l p0 pieces start end number (h.0.1))
    ∙ more_lines text p0 (pieces ++ line_piece l ∷ []) start l.end l.number ls (h.1)
    ∙ ap (λ ps. paragraph (p0 ∷ ps) start (last_end l.end ls) (last_number l.number ls)) (append_assoc pieces (line_piece l ∷ []) (map line_piece ls))

-- the blocks of such lines: one paragraph with a piece for each line
pub plain_blocks : (text : List ℕ) (l : Line) (ls : List Line) → lines_of text ≡ l ∷ ls → ArePlain text (l ∷ ls) → (byte_at text l.start == 91) ≡ false → blocks_of text ≡ record {
  blocks = record { depth = 0; kind = kind.Paragraph; start = l.start; end = last_end l.end ls; first = 0; last = length (map line_piece (l ∷ ls)); loose = false; list = None; task = None } ∷ [];
  pieces = map line_piece (l ∷ ls);
  definitions = [];
}
unfolding blocks_in page_in known_of
plain_blocks text l ls e h k =
    let view : State → BlocksView = λ s. record { blocks = s.blocks; pieces = s.pieces; definitions = s.definitions } in
    ap (λ lines. view (closed_to text 0 (fold (line_taken text) first_page lines))) e
    ∙ ap (λ s. view (closed_to text 0 (fold (line_taken text) s ls))) (line_begins text (h.0.0) l (h.0.1))
    ∙ ap (λ s. view (closed_to text 0 s)) (more_lines text (line_piece l) [] l.start l.end l.number ls (h.1))
    ∙ ap view (paragraph_ends text (line_piece l) (map line_piece ls) (last_end l.end ls) (last_number l.number ls) k)

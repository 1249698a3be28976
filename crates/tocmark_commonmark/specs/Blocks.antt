-- The blocks of a text (CommonMark 0.31.2, chapters 3 to 5): recursion over containers, on lines without places.
use Rattle.std.specs.Prelude.{ℕ, zero, suc, ◌+◌, List, [], ◌∷◌, ◌++◌, length, drop}
use Rattle.std.specs.List.{fold}
use Rattle.tocmark_commonmark.specs.Lines.{Line, line_bytes, line_ink, cells, lines_of}
use Rattle.tocmark_commonmark.specs.Tree.{Rule, Heading, Blocks, Found, ended, tree, Taken, taken}
use Rattle.tocmark_commonmark.specs.Beginnings.{Beginning, BlankLine, CodeLine, QuoteLine, HeadingLine, FenceLine, HtmlLine, RuleLine, ItemLine, TextLine, LazyLine, beginning, heading_text}
use Rattle.tocmark_commonmark.specs.Leaves.{indented_code, fenced_code, html_block, paragraph}
use Rattle.tocmark_commonmark.specs.Containers.{quote}
use Rattle.tocmark_commonmark.specs.Lists.{list}

-- The first block of lines, by its first line, the lines after that, and what it begins; blank lines make no block (4.9).
abbrev pub first_block : (List Line → List Found) → ℕ → Line → List Line → Beginning → Taken
first_block blocks at l ls BlankLine = record { found = []; count = 1 }
first_block blocks at l ls CodeLine = indented_code at (l ∷ ls)
first_block blocks at l ls QuoteLine = quote blocks at (l ∷ ls)
first_block blocks at l ls (HeadingLine h) = taken (ended (Heading h.level (heading_text h (line_ink l) (cells (line_ink l)))) at at) 1
first_block blocks at l ls (FenceLine f) = fenced_code at f (line_ink l) ls
first_block blocks at l ls (HtmlLine k) = html_block at k (l ∷ ls)
first_block blocks at l ls RuleLine = taken (ended Rule at at) 1
first_block blocks at l ls (ItemLine m) = list blocks at m ls
first_block blocks at l ls TextLine = paragraph at l ls
first_block blocks at l ls LazyLine = paragraph at l ls

-- the first block of lines, and those of the lines after it
abbrev pub and_rest : (ℕ → List Line → List Found) → ℕ → List Line → Taken → List Found
and_rest blocks at ls t = t.found ++ blocks (at + t.count) (drop t.count ls)

-- The blocks of lines, the first of which has this number. Fuel counts down: the lines in a container have fewer bytes, and the
-- lines after a block are fewer.
unfoldable pub blocks_from : ℕ → ℕ → List Line → List Found
blocks_from zero at ls = []
blocks_from (suc fuel) at [] = []
blocks_from (suc fuel) at (l ∷ ls) =
    and_rest (λ n x. blocks_from fuel n x) at (l ∷ ls) (first_block (λ x. blocks_from fuel 0 x) at l ls (beginning l))

-- the bytes of lines, and one for each line
abbrev pub size : List Line → ℕ
size ls = fold (λ (n : ℕ) (l : Line). n + length (line_bytes l) + 1) 0 ls

-- the blocks of lines
unfoldable pub blocks : List Line → Blocks
blocks ls = tree (blocks_from (size ls) 0 ls)

-- The blocks of a text.
unfoldable pub blocks_of : List ℕ → Blocks
blocks_of text = blocks (lines_of text)

-- A paragraph of lines of text, and a heading, are declared of their lines.
use Rattle.std.proofs.Common.{◌≡◌, ℕ, suc, ◌+◌, ◌^◌, ◌<◌, false, ◌==◌, List, [], ◌∷◌, ◌++◌, length, codes, replicate, refl, ap, sym, subst, ◌∙◌, arith, append_assoc, append-nil, length-append}
use Rattle.std.specs.Prelude.{Option, None}
use Rattle.std.specs.List.{AllByRecursion}
use Rattle.std.proofs.lemmas.List.{length-map}
use Rattle.tocmark_event.specs.declared.event.HeadingLevel.{HeadingLevel}
use Rattle.tocmark_event.specs.declared.event.HeadingLevel.TheVariants as level
use Rattle.tocmark_read_scan.specs.Basic.{byte_at, bytes_between}
use Rattle.tocmark_read_scan.proofs.PlainPieces.{piece_between}
use Rattle.tocmark_read_scan.proofs.Repeats.{repeated_stop}
use Rattle.tocmark_read_tokens.specs.Word.{label, defined_label, definition_at}
use Rattle.tocmark_read_lines.specs.Cells.{cell_place, first_cursor}
use Rattle.tocmark_read_lines.specs.Marks.{heading_at, fence_at, tail_of, is_rule, marker_at}
use Rattle.tocmark_read_lines.specs.declared.beginnings.Heading.{Heading as HeadingMark}
use Rattle.tocmark_read_lines.specs.declared.cell.Cell.{Cell}
use Rattle.tocmark_read_page.specs.Definitions.{define_once}
use Rattle.tocmark_read_blocks.proofs.PlainLines.{IsWithin, cells_within, numbered}
use Rattle.tocmark_spelling.specs.Opening.{level_number}
use Rattle.tocmark_commonmark.specs.Beginnings.{HeadingLine, first_of_these, html_if, begins_with, beginning, heading_text}
use Rattle.tocmark_commonmark.specs.Blocks.{first_block}
use Rattle.tocmark_commonmark.specs.Leaves.{underline, turn_of, turned, paragraph_lines, paragraph_with, paragraph_of, joined, counted, definitions_in, definitions}
use Rattle.tocmark_commonmark.specs.Lines.{Line, Part, line_ink, with_feeds, cells}
use Rattle.tocmark_commonmark.specs.Tree.{Heading, Paragraph, Found, ended, unended, Taken, taken}
use Rattle.tocmark_laws.proofs.DocumentBlocks.{IsHeadingLine}
use Rattle.tocmark_laws.proofs.DocumentHeadings.{EndsHeading, heading_line}
use Rattle.tocmark_layout_laws.proofs.Starts.{part_at, line_at, lines_at, Stops}
use Rattle.tocmark_layout_laws.proofs.Fronts.{Inky, inky, whole_ink, near, IsText, EndsInk, end_kept}

-- lines of text go on in a paragraph, up to a blank line or the end
lines_go : (k : ℕ) (texts ms : List (List ℕ)) (rest : List Line) → AllByRecursion IsText ms → Stops rest → paragraph_lines texts (lines_at k ms ++ rest) ≡ (texts ++ ms, None)
lines_go k texts [] [] h s = ap (λ (ts : List (List ℕ)). (ts, None)) (sym (append-nil texts))
lines_go k texts [] (r ∷ rs) h s =
    ap (λ z. turned (λ ts. paragraph_lines ts rs) texts (line_ink r) (turn_of z (underline texts r))) s
    ∙ ap (λ (ts : List (List ℕ)). (ts, None)) (sym (append-nil texts))
lines_go k texts (m ∷ ms) rest h s =
    let next : List (List ℕ) → List (List ℕ) × Option HeadingLevel = λ ts. paragraph_lines ts (lines_at k ms ++ rest) in
    ap (turned next texts (line_ink (line_at k m))) ((h.0).goes texts k)
    ∙ ap (λ (x : List ℕ). next (texts ++ x ∷ [])) ((h.0).ink k)
    ∙ lines_go k (texts ++ m ∷ []) ms rest (h.1) s
    ∙ ap (λ (ts : List (List ℕ)). (ts, None)) (append_assoc texts (m ∷ []) ms)

-- no definition is in front of them
define_none : (content : List ℕ) → definition_at content 0 ≡ None → define_once content 0 [] ≡ ([], None)
unfolding define_once
define_none content h = rw h refl

no_bracket : (content : List ℕ) → (byte_at content 0 == 91) ≡ false → definition_at content 0 ≡ None
unfolding definition_at defined_label label
no_bracket content h = rw h refl

none_in : (b : ℕ) (bs : List ℕ) → (b == 91) ≡ false → definitions_in (b ∷ bs) ≡ ([], 0)
none_in b bs h = ap (counted (b ∷ bs)) (repeated_stop (define_once (b ∷ bs)) (suc (length bs)) 0 [] [] (omega arith) (sym (define_none (b ∷ bs) (no_bracket (b ∷ bs) h))))

undefined : (x : List ℕ) (ms : List (List ℕ)) → 0 < length x → begins_with 91 x ≡ false → definitions (x ∷ ms) ≡ ([], 0)
undefined [] ms s h = absurd (omega (arith, s))
undefined (b ∷ bs) ms s h = none_in b ((bs ++ 10 ∷ []) ++ with_feeds ms) h

-- joined lines end as the last one does
joined_ends : (x : List ℕ) (ms : List (List ℕ)) → AllByRecursion EndsInk (x ∷ ms) → EndsInk (joined (x ∷ ms))
joined_ends x [] h = h.0
joined_ends x (m ∷ ms) h =
    let r : EndsInk (joined (m ∷ ms)) = joined_ends m ms (h.1) in
    record {
      body = x ++ 10 ∷ r.body;
      last = r.last;
      split = ap (λ (t : List ℕ). x ++ 10 ∷ t) r.split ∙ sym (append_assoc x (10 ∷ r.body) (r.last ∷ []));
      ink = r.ink;
    }

-- a paragraph of such lines
abbrev pub paragraph_found : List ℕ → List (List ℕ) → ℕ → Found
paragraph_found x ms at = unended (Paragraph (joined (x ∷ ms))) (at + 0) (at + 0 + length ms)

pub paragraph_takes : (x : List ℕ) (ms : List (List ℕ)) → AllByRecursion IsText (x ∷ ms) → 0 < length x → begins_with 91 x ≡ false → AllByRecursion EndsInk (x ∷ ms)
    → (bs : List Line → List Found) (at j k : ℕ) (rest : List Line) → Stops rest
    → first_block bs at (line_at j x) (lines_at k ms ++ rest) (beginning (line_at j x)) ≡ taken (paragraph_found x ms at) (suc (length (lines_at k ms)))
paragraph_takes x ms h some bracket ends bs at j k rest s =
    let ls : List Line = lines_at k ms ++ rest in
    ap (first_block bs at (line_at j x) ls) ((h.0).begins j)
    ∙ ap (λ (t : List ℕ). paragraph_of at (paragraph_lines (t ∷ []) ls)) ((h.0).ink j)
    ∙ ap (paragraph_of at) (lines_go k (x ∷ []) ms rest (h.1) s)
    ∙ ap (paragraph_with at (x ∷ ms) None) (undefined x ms some bracket)
    ∙ ap (λ (t : List ℕ). taken (unended (Paragraph t) (at + 0) (at + 0 + length ms)) (suc (length ms))) (end_kept (joined (x ∷ ms)) (joined_ends x ms ends))
    ∙ ap (λ n. taken (paragraph_found x ms at) (suc n)) (sym (length-map ms (line_at k)))

-- headings

abbrev pub hashes : HeadingLevel → List ℕ
hashes l = replicate (level_number l) 35 ++ codes " "

pub hash_first : (l : HeadingLevel) (ys : List ℕ) → (more : List ℕ) × (hashes l ++ ys ≡ 35 ∷ more)
hash_first level.H1 ys = (_, refl)
hash_first level.H2 ys = (_, refl)
hash_first level.H3 ys = (_, refl)
hash_first level.H4 ys = (_, refl)
hash_first level.H5 ys = (_, refl)
hash_first level.H6 ys = (_, refl)

pub heading_inky : (l : HeadingLevel) (ys : List ℕ) → Inky (hashes l ++ ys)
heading_inky l ys = let f = hash_first l ys in subst Inky (sym (f.1)) (inky 35 (f.0) refl)

abbrev pub heading_found : HeadingLevel → List ℕ → ℕ → Found
heading_found l ys at = ended (Heading l ys) at at

abbrev pub heading_mark : HeadingLevel → List ℕ → HeadingMark
heading_mark l x = record { level = l; from = length (hashes l); to = length (numbered 0 x) }

line_of : (l : HeadingLevel) (b : ℕ) (ys : List ℕ) → AllByRecursion IsWithin (hashes l ++ b ∷ ys) → (b == 32) ≡ false → EndsHeading (b ∷ ys) → length (hashes l ++ b ∷ ys) < 2 ^ 64
    → IsHeadingLine (hashes l ++ b ∷ ys) (numbered 0 (hashes l ++ b ∷ ys)) (record { number = 0; start = 0; end = 0 + length (hashes l ++ b ∷ ys); next = 0 }) (heading_mark l (hashes l ++ b ∷ ys)) (0 + length (hashes l)) (0 + length (hashes l ++ b ∷ ys))
line_of l b ys within space ends fits =
    let x : List ℕ = hashes l ++ b ∷ ys in
    heading_line x l b ys 0 0 0 (piece_between x [] x [] 0 (0 + length x) (sym (append-nil x)) refl refl) within space ends (omega (arith, fits))

pub heading_begins : (l : HeadingLevel) (b : ℕ) (ys : List ℕ) → AllByRecursion IsWithin (hashes l ++ b ∷ ys) → (b == 32) ≡ false → EndsHeading (b ∷ ys) → length (hashes l ++ b ∷ ys) < 2 ^ 64
    → (k : ℕ) → beginning (line_at k (hashes l ++ b ∷ ys)) ≡ HeadingLine (heading_mark l (hashes l ++ b ∷ ys))
heading_begins l b ys within space ends fits k =
    let x : List ℕ = hashes l ++ b ∷ ys in
    let c : List Cell = numbered 0 x in
    let p : Part = part_at k x in
    let line = line_of l b ys within space ends fits in
    near k x c (heading_inky l (b ∷ ys)) (cells_within 0 x within (omega (arith, fits)))
    ∙ ap (λ z. first_of_these p z (heading_at c 0) (fence_at c (first_cursor c)) (html_if (begins_with 60 x) x) (is_rule c (tail_of c) 0) (marker_at c 0)) (ap (begins_with 62) ((hash_first l (b ∷ ys)).1))
    ∙ ap (λ z. first_of_these p false z (fence_at c (first_cursor c)) (html_if (begins_with 60 x) x) (is_rule c (tail_of c) 0) (marker_at c 0)) line.heading

pub heading_takes : (l : HeadingLevel) (b : ℕ) (ys : List ℕ) → AllByRecursion IsWithin (hashes l ++ b ∷ ys) → (b == 32) ≡ false → EndsHeading (b ∷ ys) → length (hashes l ++ b ∷ ys) < 2 ^ 64
    → (bs : List Line → List Found) (at k : ℕ) (rest : List Line) → first_block bs at (line_at k (hashes l ++ b ∷ ys)) rest (beginning (line_at k (hashes l ++ b ∷ ys))) ≡ taken (heading_found l (b ∷ ys) at) 1
heading_takes l b ys within space ends fits bs at k rest =
    ap (first_block bs at (line_at k x) rest) (heading_begins l b ys within space ends fits k)
    ∙ ap (λ (t : List ℕ). made (heading_text h t (cells t))) (whole_ink k x i)
    ∙ ap (λ (cs : List Cell). made (heading_text h x cs)) e
    ∙ ap (λ n. made (bytes_between x (cell_place c h.from n) (cell_place c h.to n))) (let q : length x ≡ 0 + length x = omega arith in q)
    ∙ ap (λ n. made (bytes_between x n (cell_place c h.to (0 + length x)))) line.from_place
    ∙ ap (λ n. made (bytes_between x (0 + length (hashes l)) n)) line.to_place
    ∙ ap made (piece_between x (hashes l) (b ∷ ys) [] (0 + length (hashes l)) (0 + length x) (ap (λ (t : List ℕ). hashes l ++ t) (sym (append-nil (b ∷ ys)))) (omega arith) (omega (arith, length-append (hashes l) (b ∷ ys))))
  where
    x : List ℕ
    x = hashes l ++ b ∷ ys

    c : List Cell
    c = numbered 0 x

    h : HeadingMark
    h = record { level = l; from = length (hashes l); to = length (numbered 0 x) }

    i : Inky x
    i = heading_inky l (b ∷ ys)

    e : cells x ≡ c
    e = cells_within 0 x within (omega (arith, fits))

    made : List ℕ → Taken
    made t = taken (ended (Heading l t) at at) 1

    line : IsHeadingLine x c (record { number = 0; start = 0; end = 0 + length x; next = 0 }) h (0 + length (hashes l)) (0 + length x)
    line = line_of l b ys within space ends fits

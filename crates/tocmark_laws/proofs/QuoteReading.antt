-- Lines of words after `> ` are read as a quote of a paragraph.
use Rattle.std.proofs.Common.{◌≡◌, ℕ, zero, suc, ◌+◌, ◌-◌, ◌^◌, ◌<◌, ◌≤◌, Bool, true, false, ◌==◌, if◌then◌else◌, nat_lt, nat_le, List, [], ◌∷◌, ◌++◌, length, map, slice_get, refl, ap, sym, subst, ◌∙◌, arith, append_assoc, append-nil, length-append, Option, None, Some}
use Rattle.std.proofs.lemmas.Bool.Decides.{nat_tests}
use Rattle.std.specs.List.{AllByRecursion, fold, list_all, list_any}
use Rattle.tocmark_event.specs.Merged.{merged}
use Rattle.tocmark_event.specs.View.{EventView, Start, End, Leaf, TagView, BlockQuote, Paragraph, Text}
use Rattle.tocmark_event.specs.declared.event.TagEnd.TheVariants as end
use Rattle.tocmark_read_scan.specs.Basic.{bytes_between}
use Rattle.tocmark_read_scan.specs.Content as content
use Rattle.tocmark_read_scan.specs.declared.content.ContentLine.{ContentLine}
use Rattle.tocmark_read_scan.specs.declared.syntax.Syntax.{Syntax}
use Rattle.tocmark_read_scan.proofs.PlainContent.{places_of, put_bytes_plain, get_behind, trimmed_feed, length_places}
use Rattle.tocmark_read_scan.proofs.PlainPieces.{AreNoZeros, piece_between}
use Rattle.tocmark_read_scan.proofs.PlainTests.{all_from}
use Rattle.tocmark_read_page.specs.declared.piece.Piece.{Piece}
use Rattle.tocmark_read_blocks.specs.Blocks.{BlocksView, blocks_in}
use Rattle.tocmark_read_blocks.proofs.PlainLines.{IsWithin}
use Rattle.tocmark_read_spans.specs.Definitions as defs
use Rattle.tocmark_read_spans.specs.declared.definitions.Entry.{Entry}
use Rattle.tocmark_read_inlines.specs.Inlines as inlines
use Rattle.tocmark_read_inlines.specs.Scan as s
use Rattle.tocmark_read_inlines.specs.Write as w
use Rattle.tocmark_read_inlines.specs.declared.write.InlineKind.{InlineKind}
use Rattle.tocmark_read_inlines.specs.declared.write.InlineKind.TheVariants as item
use Rattle.tocmark_read_inlines.specs.declared.write.Node.{Node}
use Rattle.tocmark_read_inlines.proofs.PlainNodes.{node}
use Rattle.tocmark_reader.specs.Emitted.{NodeView, Container, Writing, emitted, step, closed}
use Rattle.tocmark_reader.specs.Formulas.{is_indented, keeps_blanks}
use Rattle.tocmark_reader.specs.Inlines.{inline_node, inline_item, leaf_of}
use Rattle.tocmark_reader.specs.Pages as pages
use Rattle.tocmark_reader.specs.Pages.{start_state, pieces_of, is_unwrapped, block_taken_in, block_step_in, paragraph_taken_in, wrapped_in, task_nodes, with_block, leaf_inlines_in, with_lines_of, with_inlines, content_line, block_tag}
use Rattle.tocmark_reader.specs.PlainTexts.{IsReadAs}
use Rattle.tocmark_reader.specs.Range.{snapped}
use Rattle.tocmark_reader.specs.Reading.{FoundView, collected_in, collected_from, first_entry, found_under, noted, noted_as, reading_of}
use Rattle.tocmark_reader.specs.declared.emit.Open.{Open}
use Rattle.tocmark_reader.proofs.FormulaLines.{one_line, bare_lines}
use Rattle.tocmark_reader.proofs.PlainEvents.{Marked, unplaced, source_of, leaf_event, viewed}
use Rattle.tocmark_reader.proofs.PlainReading.{IsPrintable}
use Rattle.tocmark_reader.proofs.PlainSources.{IsClean, AreClean, all_implied, source_between}
use Rattle.tocmark_laws.specs.Extensions.{is_word_line}
use Rattle.tocmark_laws.specs.HardBreaks.{LineEnd, Softly, ByBackslash, BySpaces, NextLine, end_bytes, break_of, broken_text, broken_lines, lines_behind}
use Rattle.tocmark_laws.specs.PlainQuotes.{quoted_text, quoted_paragraph}
use Rattle.tocmark_laws.proofs.BreakReading.{lines_scanned, ends_in_ink, end_shown, words_shown, merged_break, inlines_with}
use Rattle.tocmark_laws.proofs.BreakRoles.{leaf_of_end, width_of, line_roles, line_nodes, write_lines}
use Rattle.tocmark_laws.proofs.ExtensionParagraphs.{found_from, whole_pieces, no_inlines, within_byte, clean_byte, clean_feed, no_returns}
use Rattle.tocmark_laws.proofs.QuoteBlocks.{line_mark, width, first_place, mark_place, first_feed, QuoteLine, quoted_bytes, IsQuoteLine, AreQuoteLines, inner_block, quote_blocks, end_of, piece_at, quote_pieces, quote_rows, quote_is_read}
use Rattle.tocmark_laws.proofs.WordsReading.{AreWords, words_from}

abbrev AreLines : List ℕ → List NextLine → Type 0
AreLines l ms = AllByRecursion AreWords (l ∷ lines_behind ms)

-- ---- a text of lines after marks

-- the first line without its mark, and the others with theirs
abbrev marked_text : Bool → List ℕ → List NextLine → List ℕ
marked_text low l [] = l
marked_text low l (m ∷ ms) = l ++ (end_bytes m.behind ++ 10 ∷ (line_mark low ++ marked_text low m.line ms))

-- the text of such a quote
abbrev pub quote_text : Bool → List ℕ → List NextLine → List ℕ
quote_text low l ms = first_feed low ++ (line_mark low ++ marked_text low l ms)

-- what is in front of its first words, and where these do
abbrev quote_front : Bool → List ℕ
quote_front low = first_feed low ++ line_mark low

abbrev text_place : Bool → ℕ
text_place low = first_place low + width low

place_of_text : (low : Bool) → text_place low ≡ length (quote_front low)
place_of_text false = refl
place_of_text true = refl

front_apart : (low : Bool) (l : List ℕ) (ms : List NextLine) → quote_text low l ms ≡ quote_front low ++ marked_text low l ms
front_apart low l ms = sym (append_assoc (first_feed low) (line_mark low) (marked_text low l ms))

-- the places of the content, from a place of the text on
abbrev marked_places : Bool → ℕ → List ℕ → List NextLine → List (ℕ × ℕ)
marked_places low p l [] = places_of p l
marked_places low p l (m ∷ ms) =
    places_of p (l ++ end_bytes m.behind) ++ (p + length l + width_of m.behind, p + length l + width_of m.behind + 1)
    ∷ marked_places low (p + length l + width_of m.behind + suc (width low)) m.line ms

-- the lines of the content
abbrev marked_lines : Bool → ℕ → List ℕ → List NextLine → List ContentLine
marked_lines low p l [] = record { start = p; end = p + length l; next = p + length l } ∷ []
marked_lines low p l (m ∷ ms) =
    record { start = p; end = p + length l + width_of m.behind; next = p + length l + width_of m.behind + 1 }
    ∷ marked_lines low (p + length l + width_of m.behind + suc (width low)) m.line ms

-- the nodes, from a place of the text on
abbrev marked_nodes : Bool → ℕ → List ℕ → List NextLine → List Node
marked_nodes low p l [] = node 2 item.Text p (p + length l) ∷ []
marked_nodes low p l (m ∷ ms) =
    node 2 item.Text p (p + length l)
    ∷ node 2 (item.Leaf (leaf_of_end m.behind)) (p + length l) (p + length l + width_of m.behind + 1)
    ∷ marked_nodes low (p + length l + width_of m.behind + suc (width low)) m.line ms

-- ---- the content

pub line_put : (text l : List ℕ) (from to next : ℕ) (t : content.State) → bytes_between text from to ≡ l → AreNoZeros l → to ≡ from + length l → to < 2 ^ 64 → content.put_line text t (record { start = from; end = to; next = next }) ≡ record { bytes = t.bytes ++ (l ++ 10 ∷ []); places = t.places ++ (places_of from l ++ (to, next) ∷ []) }
unfolding content.put_line content.put
line_put text l from to next t e h width fits =
    ap (λ (xs : List ℕ). content.put 10 to next (content.put_bytes from t xs)) e
    ∙ ap (λ (u : content.State). content.put 10 to next u) (put_bytes_plain from t l h (omega (arith, width, fits)))
    ∙ rw (append_assoc t.bytes l (10 ∷ []), append_assoc t.places (places_of from l) ((to, next) ∷ [])) refl

zeros_of : (xs : List ℕ) → AllByRecursion IsPrintable xs → AreNoZeros xs
zeros_of xs h = all_implied IsPrintable (λ b. (b == 0) ≡ false) xs (λ b k. (clean_byte b k).some) h

both_shown : (xs ys : List ℕ) → AllByRecursion IsPrintable xs → AllByRecursion IsPrintable ys → AllByRecursion IsPrintable (xs ++ ys)
both_shown [] ys h k = k
both_shown (x ∷ xs) ys h k = (h.0, both_shown xs ys (h.1) k)

lines_put : (low : Bool) (text pre : List ℕ) (p : ℕ) (l : List ℕ) (ms : List NextLine) (t : content.State) → AreLines l ms → text ≡ pre ++ marked_text low l ms → p ≡ length pre → length text < 2 ^ 64 → (q : ℕ × ℕ) × (fold (content.put_line text) t (marked_lines low p l ms) ≡ record { bytes = t.bytes ++ (broken_text l ms ++ 10 ∷ []); places = t.places ++ (marked_places low p l ms ++ q ∷ []) })
lines_put low text pre p l [] t h e at fits =
    let here : text ≡ pre ++ (l ++ []) = e ∙ ap (λ (xs : List ℕ). pre ++ xs) (sym (append-nil l)) in
    let all : length text ≡ length pre + length l = ap length e ∙ length-append pre l in
    ((p + length l, p + length l), line_put text l p (p + length l) (p + length l) t (piece_between text pre l [] p (p + length l) here at (ap (λ n. n + length l) at)) (zeros_of l (words_shown l (h.0))) refl (omega (arith, all, at, fits)))
lines_put low text pre p l (m ∷ ms) t h e at fits =
    let gap : List ℕ = end_bytes m.behind in
    let wide : ℕ = length gap in
    let row : List ℕ = l ++ gap in
    let rest : List ℕ = marked_text low m.line ms in
    let end : ℕ = p + length l + wide in
    let before : List ℕ = pre ++ (row ++ 10 ∷ line_mark low) in
    let row_wide : length row ≡ length l + wide = length-append l gap in
    let here : text ≡ pre ++ (row ++ 10 ∷ (line_mark low ++ rest)) = e ∙ ap (λ (xs : List ℕ). pre ++ xs) (sym (append_assoc l gap (10 ∷ (line_mark low ++ rest)))) in
    let there : text ≡ before ++ rest = here ∙ ap (λ (xs : List ℕ). pre ++ xs) (sym (append_assoc row (10 ∷ line_mark low) rest)) ∙ sym (append_assoc pre (row ++ 10 ∷ line_mark low) rest) in
    let mark_wide : length (line_mark low ++ rest) ≡ width low + length rest = length-append (line_mark low) rest in
    let all : length text ≡ length pre + (length row + suc (length (line_mark low ++ rest))) = ap length here ∙ length-append pre (row ++ 10 ∷ (line_mark low ++ rest)) ∙ ap (λ n. length pre + n) (length-append row (10 ∷ (line_mark low ++ rest))) in
    let gone : end + suc (width low) ≡ length before = (let x : length before ≡ length pre + (length row + suc (width low)) = length-append pre (row ++ 10 ∷ line_mark low) ∙ ap (λ n. length pre + n) (length-append row (10 ∷ line_mark low)) in omega (arith, x, at, row_wide)) in
    let one : content.State = record { bytes = t.bytes ++ (row ++ 10 ∷ []); places = t.places ++ (places_of p row ++ (end, end + 1) ∷ []) } in
    let more = lines_put low text before (end + suc (width low)) m.line ms one (h.1) there gone fits in (
      more.0,
      ap (λ (u : content.State). fold (content.put_line text) u (marked_lines low (end + suc (width low)) m.line ms)) (line_put text row p end (end + 1) t (piece_between text pre row (10 ∷ (line_mark low ++ rest)) p end here at (omega (arith, at, row_wide))) (zeros_of row (both_shown l gap (words_shown l (h.0)) (end_shown m.behind))) (omega (arith, row_wide)) (omega (arith, all, at, row_wide, fits)))
          ∙ more.1
          ∙ ap (λ (xs : List ℕ). (let u : content.State = record { bytes = xs; places = one.places ++ (marked_places low (end + suc (width low)) m.line ms ++ more.0 ∷ []) } in u)) (append_assoc t.bytes (row ++ 10 ∷ []) (broken_text m.line ms ++ 10 ∷ []) ∙ ap (λ (xs : List ℕ). t.bytes ++ xs) (append_assoc row (10 ∷ []) (broken_text m.line ms ++ 10 ∷ []) ∙ append_assoc l gap (10 ∷ (broken_text m.line ms ++ 10 ∷ [])) ∙ sym (append_assoc l (gap ++ 10 ∷ broken_text m.line ms) (10 ∷ []) ∙ ap (λ (xs : List ℕ). l ++ xs) (append_assoc gap (10 ∷ broken_text m.line ms) (10 ∷ [])))))
          ∙ ap (λ (ps : List (ℕ × ℕ)). (let u : content.State = record { bytes = t.bytes ++ (broken_text l (m ∷ ms) ++ 10 ∷ []); places = ps } in u)) (append_assoc t.places (places_of p row ++ (end, end + 1) ∷ []) (marked_places low (end + suc (width low)) m.line ms ++ more.0 ∷ []) ∙ ap (λ (ps : List (ℕ × ℕ)). t.places ++ ps) (append_assoc (places_of p row) ((end, end + 1) ∷ []) (marked_places low (end + suc (width low)) m.line ms ++ more.0 ∷ []) ∙ sym (append_assoc (places_of p row) ((end, end + 1) ∷ marked_places low (end + suc (width low)) m.line ms) (more.0 ∷ [])))),
    )

length_marked : (low : Bool) (p : ℕ) (l : List ℕ) (ms : List NextLine) → length (marked_places low p l ms) ≡ length (broken_text l ms)
length_marked low p l [] = length_places p l
length_marked low p l (m ∷ ms) =
    let gap : List ℕ = end_bytes m.behind in
    let end : ℕ = p + length l + length gap in
    let others : List (ℕ × ℕ) = marked_places low (end + suc (width low)) m.line ms in
    let a : length (places_of p (l ++ gap) ++ (end, end + 1) ∷ others) ≡ length (places_of p (l ++ gap)) + suc (length others) = length-append (places_of p (l ++ gap)) ((end, end + 1) ∷ others) in
    let b : length (places_of p (l ++ gap)) ≡ length l + length gap = length_places p (l ++ gap) ∙ length-append l gap in
    let c : length others ≡ length (broken_text m.line ms) = length_marked low (end + suc (width low)) m.line ms in
    let d : length (l ++ (gap ++ 10 ∷ broken_text m.line ms)) ≡ length l + (length gap + suc (length (broken_text m.line ms))) = length-append l (gap ++ 10 ∷ broken_text m.line ms) ∙ ap (λ n. length l + n) (length-append gap (10 ∷ broken_text m.line ms)) in
    omega (arith, a, b, c, d)

marked_content : (low : Bool) (text pre : List ℕ) (p : ℕ) (l : List ℕ) (ms : List NextLine) → AreLines l ms → text ≡ pre ++ marked_text low l ms → p ≡ length pre → length text < 2 ^ 64 → content.content_of text (marked_lines low p l ms) ≡ record { bytes = broken_text l ms; places = marked_places low p l ms }
unfolding content.content_of
marked_content low text pre p l ms h e at fits =
    let put = lines_put low text pre p l ms (record { bytes = []; places = [] }) h e at fits in
    let ink = ends_in_ink l ms h in
    ap content.trimmed (put.1)
    ∙ ap (λ (xs : List ℕ). content.trimmed (record { bytes = xs ++ 10 ∷ []; places = marked_places low p l ms ++ put.0 ∷ [] })) (ink.2)
    ∙ trimmed_feed (ink.0) (ink.1) (marked_places low p l ms) (put.0) (length_marked low p l ms ∙ ap length (ink.2)) (ink.3)
    ∙ ap (λ (xs : List ℕ). (let f : content.State = record { bytes = xs; places = marked_places low p l ms } in f)) (sym (ink.2))

-- ---- the nodes in the text

get_at : {A : Type 0} (xs ys : List A) (n k : ℕ) → n ≡ length xs + k → slice_get (xs ++ ys) n ≡ slice_get ys k
get_at [] ys n k e = ap (slice_get ys) (let q : n ≡ k = omega (arith, e) in q)
get_at (x ∷ xs) ys n k e = ap (slice_get (x ∷ (xs ++ ys))) (let q : n ≡ suc (length xs + k) = omega (arith, e) in q) ∙ get_at xs ys (length xs + k) k refl

place_in : (p : ℕ) (xs : List ℕ) (more : List (ℕ × ℕ)) (k : ℕ) → k < length xs → slice_get (places_of p xs ++ more) k ≡ Some (p + k, p + k + 1)
place_in p [] more k h = absurd (omega arith)
place_in p (x ∷ xs) more zero h = let same : p + 0 ≡ p = omega arith in rw same refl
place_in p (x ∷ xs) more (suc k) h =
    let same : p + 1 + k ≡ p + suc k = omega arith in
    place_in (p + 1) xs more k (omega arith) ∙ rw same refl

moved_at : (places : List (ℕ × ℕ)) (i : InlineKind) (from to : ℕ) (first last : ℕ × ℕ) → slice_get places from ≡ Some first → slice_get places (to - 1) ≡ Some last → w.moved places (node 2 i from to) ≡ node 2 i (first.0) (last.1)
unfolding w.moved
moved_at places i from to first last h k = rw (h, k) refl

-- a text of so many bytes
text_moved : (before more : List (ℕ × ℕ)) (xs : List ℕ) (c p n : ℕ) → c ≡ length before → 0 < n → n ≤ length xs → w.moved (before ++ (places_of p xs ++ more)) (node 2 item.Text c (c + n)) ≡ node 2 item.Text p (p + n)
text_moved before more xs c p n at some within =
    let first : slice_get (before ++ (places_of p xs ++ more)) c ≡ Some (p + 0, p + 0 + 1) = get_at before (places_of p xs ++ more) c 0 (omega (arith, at)) ∙ place_in p xs more 0 (omega (arith, some, within)) in
    let last : slice_get (before ++ (places_of p xs ++ more)) (c + n - 1) ≡ Some (p + (n - 1), p + (n - 1) + 1) = get_at before (places_of p xs ++ more) (c + n - 1) (n - 1) (omega (arith, at, some)) ∙ place_in p xs more (n - 1) (omega (arith, some, within)) in
    let none : p + 0 ≡ p = omega arith in
    let all : p + (n - 1) + 1 ≡ p + n = omega (arith, some) in
    moved_at (before ++ (places_of p xs ++ more)) item.Text c (c + n) (p + 0, p + 0 + 1) (p + (n - 1), p + (n - 1) + 1) first last
    ∙ ap (λ k. node 2 item.Text k (p + (n - 1) + 1)) none ∙ ap (λ k. node 2 item.Text p k) all

-- a break after a text
break_moved : (before more : List (ℕ × ℕ)) (l gap : List ℕ) (i : InlineKind) (c p end : ℕ) → c ≡ length before → end ≡ p + length l + length gap → w.moved (before ++ (places_of p (l ++ gap) ++ (end, end + 1) ∷ more)) (node 2 i (c + length l) (c + length l + 1 + length gap)) ≡ node 2 i (p + length l) (end + 1)
break_moved before more l gap i c p end at to = by_gap gap refl
  where
    places : List (ℕ × ℕ)
    places = before ++ (places_of p (l ++ gap) ++ (end, end + 1) ∷ more)

    row : length (l ++ gap) ≡ length l + length gap
    row = length-append l gap

    last : slice_get places (c + length l + 1 + length gap - 1) ≡ Some (end, end + 1)
    last =
        let wide : length (places_of p (l ++ gap)) ≡ length l + length gap = length_places p (l ++ gap) ∙ row in
        get_at before (places_of p (l ++ gap) ++ (end, end + 1) ∷ more) (c + length l + 1 + length gap - 1) (length (places_of p (l ++ gap))) (omega (arith, at, wide))
        ∙ get_behind (places_of p (l ++ gap)) more (end, end + 1)

    by_gap : (g : List ℕ) → g ≡ gap → w.moved places (node 2 i (c + length l) (c + length l + 1 + length gap)) ≡ node 2 i (p + length l) (end + 1)
    by_gap [] e =
        let none : length gap ≡ 0 = ap length (sym e) in
        let here : c + length l ≡ c + length l + 1 + length gap - 1 = omega (arith, none) in
        let same : end ≡ p + length l = omega (arith, to, none) in
        moved_at places i (c + length l) (c + length l + 1 + length gap) (end, end + 1) (end, end + 1) (ap (slice_get places) here ∙ last) last
        ∙ ap (λ k. node 2 i k (end + 1)) same
    by_gap (g ∷ gs) e =
        let some : length gap ≡ suc (length gs) = ap length (sym e) in
        let first : slice_get places (c + length l) ≡ Some (p + length l, p + length l + 1) = get_at before (places_of p (l ++ gap) ++ (end, end + 1) ∷ more) (c + length l) (length l) (omega (arith, at)) ∙ place_in p (l ++ gap) ((end, end + 1) ∷ more) (length l) (omega (arith, row, some)) in
        moved_at places i (c + length l) (c + length l + 1 + length gap) (p + length l, p + length l + 1) (end, end + 1) first last

lines_moved : (low : Bool) (places before : List (ℕ × ℕ)) (c p : ℕ) (l : List ℕ) (ms : List NextLine) → AreLines l ms → places ≡ before ++ marked_places low p l ms → c ≡ length before → map (w.moved places) (line_nodes 2 c l ms) ≡ marked_nodes low p l ms
lines_moved low places before c p [] ms h e at = absurd (h.0)
lines_moved low places before c p (b ∷ bs) [] h e at =
    let l : List ℕ = b ∷ bs in
    ap (λ (ps : List (ℕ × ℕ)). w.moved ps (node 2 item.Text c (c + length l)) ∷ []) (e ∙ ap (λ (ps : List (ℕ × ℕ)). before ++ ps) (sym (append-nil (places_of p l))))
    ∙ ap (λ (n : Node). n ∷ []) (text_moved before [] l c p (length l) at (omega arith) (omega arith))
lines_moved low places before c p (b ∷ bs) (m ∷ ms) h e at =
    let l : List ℕ = b ∷ bs in
    let gap : List ℕ = end_bytes m.behind in
    let wide : ℕ = length gap in
    let end : ℕ = p + length l + wide in
    let row : length (l ++ gap) ≡ length l + wide = length-append l gap in
    let others : List (ℕ × ℕ) = marked_places low (end + suc (width low)) m.line ms in
    let here : List (ℕ × ℕ) = places_of p (l ++ gap) ++ (end, end + 1) ∷ [] in
    let there : places ≡ (before ++ here) ++ others = e ∙ ap (λ (ps : List (ℕ × ℕ)). before ++ ps) (sym (append_assoc (places_of p (l ++ gap)) ((end, end + 1) ∷ []) others)) ∙ sym (append_assoc before here others) in
    let longer : c + length l + suc wide ≡ length (before ++ here) =
    (let x : length (before ++ here) ≡ length before + (length (places_of p (l ++ gap)) + 1) = length-append before here ∙ ap (λ n. length before + n) (length-append (places_of p (l ++ gap)) ((end, end + 1) ∷ [])) in let y : length (places_of p (l ++ gap)) ≡ length (l ++ gap) = length_places p (l ++ gap) in omega (arith, x, y, at, row))
    in
    let first : Node = node 2 item.Text p (p + length l) in
    let second : Node = node 2 (item.Leaf (leaf_of_end m.behind)) (p + length l) (end + 1) in
    let rest : List Node = line_nodes 2 (c + length l + suc wide) m.line ms in
    ap (λ (n : Node). n ∷ map (w.moved places) (node 2 (item.Leaf (leaf_of_end m.behind)) (c + length l) (c + length l + 1 + wide) ∷ rest)) (ap (λ (ps : List (ℕ × ℕ)). w.moved ps (node 2 item.Text c (c + length l))) e ∙ text_moved before ((end, end + 1) ∷ others) (l ++ gap) c p (length l) at (omega arith) (omega (arith, row)))
    ∙ ap (λ (n : Node). first ∷ n ∷ map (w.moved places) rest) (ap (λ (ps : List (ℕ × ℕ)). w.moved ps (node 2 (item.Leaf (leaf_of_end m.behind)) (c + length l) (c + length l + 1 + wide))) e ∙ break_moved before others l gap (item.Leaf (leaf_of_end m.behind)) c p end at refl)
    ∙ ap (λ (ns : List Node). first ∷ second ∷ ns) (lines_moved low places (before ++ here) (c + length l + suc wide) (end + suc (width low)) m.line ms (h.1) there longer)

written_at : (l : List ℕ) (ms : List NextLine) → AreLines l ms → length (broken_text l ms) < 2 ^ 64 → w.written (line_roles 0 l ms) 2 ≡ line_nodes 2 0 l ms
unfolding w.written
written_at l ms h fits = write_lines l ms [] 2 0 0 h (omega arith) (omega arith)

-- the inlines of such a content
marked_inlines : (low : Bool) (syntax : Syntax) (find : List ℕ → Option Entry) (p : ℕ) (l : List ℕ) (ms : List NextLine) → AreLines l ms → length (broken_text l ms) < 2 ^ 64 → inlines.read_inlines_in syntax (record { bytes = broken_text l ms; places = marked_places low p l ms }) 2 find no_inlines ≡ inlines_with (marked_nodes low p l ms)
unfolding inlines.read_inlines_in
marked_inlines low syntax find p l ms h fits =
    let leaf : content.State = record { bytes = broken_text l ms; places = marked_places low p l ms } in
    let scanned = lines_scanned syntax l ms find h fits in
    ap (λ (after : s.State). inlines.inlines_from leaf 2 after no_inlines) (scanned.1)
    ∙ ap (λ (ns : List Node). inlines_with (map (w.moved (marked_places low p l ms)) ns)) (written_at l ms h fits)
    ∙ ap inlines_with (lines_moved low (marked_places low p l ms) [] 0 p l ms h refl refl)

-- ---- lines as lines of a quote

abbrev quote_line : List ℕ → List ℕ → QuoteLine
quote_line [] gap = record { letter = 97; others = gap }
quote_line (b ∷ bs) gap = record { letter = b; others = bs ++ gap }

abbrev first_line : List ℕ → List NextLine → QuoteLine
first_line l [] = quote_line l []
first_line l (m ∷ ms) = quote_line l (end_bytes m.behind)

abbrev further_lines : List NextLine → List QuoteLine
further_lines [] = []
further_lines (m ∷ ms) = first_line m.line ms ∷ further_lines ms

quote_bytes : (low : Bool) (l gap : List ℕ) → AreWords l → quoted_bytes low (quote_line l gap) ≡ line_mark low ++ (l ++ gap)
quote_bytes low [] gap h = absurd h
quote_bytes low (b ∷ bs) gap h = refl

joined : (low : Bool) (l : List ℕ) (ms : List NextLine) → AreLines l ms → quote_rows low (first_line l ms) (further_lines ms) ≡ line_mark low ++ marked_text low l ms
joined low l [] h = quote_bytes low l [] (h.0) ∙ ap (λ (xs : List ℕ). line_mark low ++ xs) (append-nil l)
joined low l (m ∷ ms) h =
    let gap : List ℕ = end_bytes m.behind in
    let rest : List ℕ = line_mark low ++ marked_text low m.line ms in
    ap (λ (xs : List ℕ). xs ++ 10 ∷ quote_rows low (first_line m.line ms) (further_lines ms)) (quote_bytes low l gap (h.0))
    ∙ ap (λ (xs : List ℕ). (line_mark low ++ (l ++ gap)) ++ 10 ∷ xs) (joined low m.line ms (h.1))
    ∙ append_assoc (line_mark low) (l ++ gap) (10 ∷ rest)
    ∙ ap (λ (xs : List ℕ). line_mark low ++ xs) (append_assoc l gap (10 ∷ rest))

marks_shown : (low : Bool) → AllByRecursion IsPrintable (line_mark low)
marks_shown false = (record { low = omega arith; high = omega arith }, (record { low = omega arith; high = omega arith }, tt))
marks_shown true = (record { low = omega arith; high = omega arith }, (record { low = omega arith; high = omega arith }, (record { low = omega arith; high = omega arith }, tt)))

is_line : (low : Bool) (l gap : List ℕ) → AreWords l → AllByRecursion IsPrintable gap → IsQuoteLine low (quote_line l gap)
is_line low [] gap h k = absurd h
is_line low (b ∷ bs) gap h k = record {
  letter = h.letter;
  within = all_implied IsPrintable IsWithin (line_mark low ++ ((b ∷ bs) ++ gap)) within_byte (both_shown (line_mark low) ((b ∷ bs) ++ gap) (marks_shown low) (both_shown (b ∷ bs) gap (words_shown (b ∷ bs) h) k));
}

first_is : (low : Bool) (l : List ℕ) (ms : List NextLine) → AreWords l → IsQuoteLine low (first_line l ms)
first_is low l [] h = is_line low l [] h tt
first_is low l (m ∷ ms) h = is_line low l (end_bytes m.behind) h (end_shown m.behind)

all_are : (low : Bool) (ms : List NextLine) → AllByRecursion AreWords (lines_behind ms) → AreQuoteLines low (further_lines ms)
all_are low [] h = tt
all_are low (m ∷ ms) h = (first_is low m.line ms (h.0), all_are low ms (h.1))

-- the pieces are the lines of the content
row_ends : (low : Bool) (from : ℕ) (l gap : List ℕ) → AreWords l → end_of low from (quote_line l gap) ≡ from + width low + length l + length gap
row_ends low from l gap h =
    let x : length (quoted_bytes low (quote_line l gap)) ≡ width low + length (l ++ gap) = ap length (quote_bytes low l gap h) ∙ length-append (line_mark low) (l ++ gap) in
    let y : length (l ++ gap) ≡ length l + length gap = length-append l gap in
    omega (arith, x, y)

pieces_are : (low : Bool) (from : ℕ) (l : List ℕ) (ms : List NextLine) → AreLines l ms → map content_line (quote_pieces low from (first_line l ms) (further_lines ms)) ≡ marked_lines low (from + width low) l ms
unfolding content_line
pieces_are low from l [] h =
    let at : ℕ = from + width low in
    ap (λ n. (let c : ContentLine = record { start = at; end = n; next = n } in c) ∷ []) (row_ends low from l [] (h.0) ∙ (let q : at + length l + 0 ≡ at + length l = omega arith in q))
pieces_are low from l (m ∷ ms) h =
    let at : ℕ = from + width low in
    let gap : List ℕ = end_bytes m.behind in
    let end : ℕ = at + length l + length gap in
    let past : end + 1 + width low ≡ end + suc (width low) = omega arith in
    ap (λ n. (let c : ContentLine = record { start = at; end = n; next = n + 1 } in c) ∷ map content_line (quote_pieces low (n + 1) (first_line m.line ms) (further_lines ms))) (row_ends low from l gap (h.0))
    ∙ ap (λ (cs : List ContentLine). (let c : ContentLine = record { start = at; end = end; next = end + 1 } in c) ∷ cs) (pieces_are low (end + 1) m.line ms (h.1) ∙ ap (λ n. marked_lines low n m.line ms) past)

-- ---- what is found

none_collected : (low : Bool) (syntax : Syntax) (text : List ℕ) (n : ℕ) (ps qs : List Piece) → collected_from syntax text (record { blocks = quote_blocks low n ps; pieces = qs; definitions = [] }) ≡ defs.collected_none
unfolding collected_from noted_as
none_collected low syntax text n ps qs = by_test syntax.footnotes
  where
    by_test : (t : Bool) → (if t then noted text (quote_blocks low n ps) (collected_in syntax.names []) else collected_in syntax.names []) ≡ defs.collected_none
    by_test true = refl
    by_test false = refl

not_before : (k : ℕ) → nat_lt k k ≡ false
not_before k = grind (arith, nat_tests)

no_indents : (low : Bool) (from : ℕ) (q : QuoteLine) (qs : List QuoteLine) → list_any is_indented (quote_pieces low from q qs) ≡ false
unfolding is_indented
no_indents low from q [] = rw (not_before (from + width low)) refl
no_indents low from q (m ∷ ms) = rw (not_before (from + width low)) (no_indents low (end_of low from q + 1) m ms)

keeps_none : (low : Bool) (syntax : Syntax) (from : ℕ) (q : QuoteLine) (qs : List QuoteLine) → keeps_blanks syntax (quote_pieces low from q qs) ≡ false
keeps_none low syntax from q [] = one_line syntax _
keeps_none low syntax from q (m ∷ ms) = bare_lines syntax _ (quote_pieces low (end_of low from q + 1) m ms) (no_indents low (end_of low from q + 1) m ms)

some_pieces : (n : ℕ) → nat_le (suc n) 0 ≡ false
some_pieces n = grind (arith, nat_tests)

abbrev container : ℕ → TagView → ℕ → ℕ → NodeView
container depth tag from to = pages.node depth (Container tag) from to

-- the nodes of a quote of so many bytes
abbrev quote_nodes : Bool → ℕ → List Node → List NodeView
quote_nodes low n ns = container 0 (BlockQuote None) (mark_place low) n ∷ container 1 Paragraph (text_place low) n ∷ viewed ns

abbrev found_of : List NodeView → FoundView
found_of ns = record { nodes = ns; defined = []; unresolved = [] }

abbrev found_state : pages.State → FoundView
found_state page = record { nodes = page.nodes; defined = []; unresolved = defs.distinct_labels page.inlines.texts page.inlines.missed }

abbrev so_far : List NodeView → pages.State
so_far ns = record { nodes = ns; inlines = no_inlines }

wrapped_quote : (low : Bool) (syntax : Syntax) (text : List ℕ) (find : List ℕ → Option Entry) (n : ℕ) (p : Piece) (ps : List Piece) → found_state (fold (block_step_in syntax text find (quote_blocks low n (p ∷ ps)) (p ∷ ps)) (start_state []) (quote_blocks low n (p ∷ ps))) ≡ found_state (wrapped_in syntax text find (pieces_of (p ∷ ps) 0 (length (p ∷ ps))) (inner_block low n (length (p ∷ ps))) (so_far (container 0 (BlockQuote None) (mark_place low) n ∷ [])))
unfolding block_taken_in paragraph_taken_in is_unwrapped with_block task_nodes block_tag
wrapped_quote low syntax text find n p ps = rw (some_pieces (length ps)) refl

leaf_taken : (low : Bool) (syntax : Syntax) (text : List ℕ) (find : List ℕ → Option Entry) (n k : ℕ) (ps : List Piece) → keeps_blanks syntax ps ≡ false → found_state (wrapped_in syntax text find ps (inner_block low n k) (so_far (container 0 (BlockQuote None) (mark_place low) n ∷ []))) ≡ found_state (with_inlines (inlines.read_inlines_in syntax (content.content_of text (map content_line ps)) 2 find no_inlines) (so_far (container 0 (BlockQuote None) (mark_place low) n ∷ container 1 Paragraph (text_place low) n ∷ [])))
unfolding wrapped_in with_block task_nodes block_tag leaf_inlines_in with_lines_of
leaf_taken low syntax text find n k ps bare = rw bare refl

some_piece : (low : Bool) (from : ℕ) (q : QuoteLine) (qs : List QuoteLine) → (p : Piece) × (ps : List Piece) × (quote_pieces low from q qs ≡ p ∷ ps)
some_piece low from q [] = (piece_at low from q [], [], refl)
some_piece low from q (m ∷ ms) = (piece_at low from q (m ∷ ms), quote_pieces low (end_of low from q + 1) m ms, refl)

shorter : (low : Bool) (l : List ℕ) (ms : List NextLine) → length (broken_text l ms) ≤ length (marked_text low l ms)
shorter low l [] = omega arith
shorter low l (m ∷ ms) =
    let gap : List ℕ = end_bytes m.behind in
    let x : length (l ++ (gap ++ 10 ∷ broken_text m.line ms)) ≡ length l + (length gap + suc (length (broken_text m.line ms))) = length-append l (gap ++ 10 ∷ broken_text m.line ms) ∙ ap (λ n. length l + n) (length-append gap (10 ∷ broken_text m.line ms)) in
    let rest : List ℕ = line_mark low ++ marked_text low m.line ms in
    let wide : length rest ≡ width low + length (marked_text low m.line ms) = length-append (line_mark low) (marked_text low m.line ms) in
    let y : length (l ++ (gap ++ 10 ∷ rest)) ≡ length l + (length gap + suc (length rest)) = length-append l (gap ++ 10 ∷ rest) ∙ ap (λ n. length l + n) (length-append gap (10 ∷ rest)) in
    let more : length (broken_text m.line ms) ≤ length (marked_text low m.line ms) = shorter low m.line ms in
    omega (arith, x, y, wide, more)

quote_found : (low : Bool) (syntax : Syntax) (l : List ℕ) (ms : List NextLine) → AreLines l ms → AreClean (quote_text low l ms) → length (quote_text low l ms) < 2 ^ 64 → found_under syntax (quote_text low l ms) ≡ found_of (quote_nodes low (length (quote_text low l ms)) (marked_nodes low (text_place low) l ms))
quote_found low syntax l ms h clean fits =
    let q : QuoteLine = first_line l ms in
    let qs : List QuoteLine = further_lines ms in
    let text : List ℕ = quote_text low l ms in
    let n : ℕ = length text in
    let same : first_feed low ++ quote_rows low q qs ≡ text = ap (λ (xs : List ℕ). first_feed low ++ xs) (joined low l ms h) in
    let find = first_entry syntax.undefined_notes [] [] in
    let ps : List Piece = quote_pieces low (first_place low) q qs in
    let blocks : BlocksView = record { blocks = quote_blocks low n ps; pieces = ps; definitions = [] } in
    let front = some_piece low (first_place low) q qs in
    let split : ps ≡ front.0 ∷ front.1 = front.2 in
    let marked : text ≡ quote_front low ++ marked_text low l ms = front_apart low l ms in
    let short : length (broken_text l ms) < 2 ^ 64 =
    (let less : length (broken_text l ms) ≤ length (marked_text low l ms) = shorter low l ms in let all : length text ≡ length (quote_front low) + length (marked_text low l ms) = ap length marked ∙ length-append (quote_front low) (marked_text low l ms) in omega (arith, less, all, fits))
    in
    let content_is : content.content_of text (map content_line ps) ≡ record { bytes = broken_text l ms; places = marked_places low (text_place low) l ms } =
    ap (content.content_of text) (pieces_are low (first_place low) l ms h) ∙ marked_content low text (quote_front low) (text_place low) l ms h marked (place_of_text low) fits
    in
    found_from syntax text blocks defs.collected_none (subst (λ (xs : List ℕ). blocks_in syntax xs ≡ (let v : BlocksView = record { blocks = quote_blocks low (length xs) ps; pieces = ps; definitions = [] } in v)) same (quote_is_read low syntax q qs (first_is low l ms (h.0), all_are low ms (h.1)) (subst (λ (xs : List ℕ). AllByRecursion (λ b. (b == 13) ≡ false) xs) (sym same) (no_returns text clean)) (subst (λ (xs : List ℕ). length xs < 2 ^ 64) (sym same) fits))) (none_collected low syntax text n ps ps)
    ∙ ap (λ (xs : List Piece). found_state (fold (block_step_in syntax text find (quote_blocks low n xs) xs) (start_state []) (quote_blocks low n xs))) split
    ∙ wrapped_quote low syntax text find n (front.0) (front.1)
    ∙ ap (λ (xs : List Piece). found_state (wrapped_in syntax text find xs (inner_block low n (length (front.0 ∷ front.1))) (so_far (container 0 (BlockQuote None) (mark_place low) n ∷ [])))) (whole_pieces (front.0 ∷ front.1) ∙ sym split)
    ∙ leaf_taken low syntax text find n (length (front.0 ∷ front.1)) ps (keeps_none low syntax (first_place low) q qs)
    ∙ ap (λ (c : content.State). found_state (with_inlines (inlines.read_inlines_in syntax c 2 find no_inlines) (so_far (container 0 (BlockQuote None) (mark_place low) n ∷ container 1 Paragraph (text_place low) n ∷ [])))) content_is
    ∙ ap (λ (i : inlines.State). found_state (with_inlines i (so_far (container 0 (BlockQuote None) (mark_place low) n ∷ container 1 Paragraph (text_place low) n ∷ [])))) (marked_inlines low syntax find (text_place low) l ms h short)

-- ---- the events

module _ (low : Bool) (text : List ℕ) (o k : Open) where
  abbrev open_at : List Marked → Writing
  open_at es = record { events = es; stack = o ∷ k ∷ [] }

  -- the events of lines from a place on
  abbrev line_said : ℕ → List ℕ → List NextLine → List Marked
  line_said p l [] = leaf_event text (Text (source_of text p (p + length l))) p (p + length l) ∷ []
  line_said p l (m ∷ ms) =
      leaf_event text (Text (source_of text p (p + length l))) p (p + length l)
      ∷ leaf_event text (break_of m.behind) (p + length l) (p + length l + width_of m.behind + 1)
      ∷ line_said (p + length l + width_of m.behind + suc (width low)) m.line ms

  emit_text : (es : List Marked) (from to : ℕ) → step text (open_at es) (inline_node [] [] (node 2 item.Text from to)) ≡ open_at (es ++ leaf_event text (Text (source_of text from to)) from to ∷ [])
  unfolding inline_node inline_item
  emit_text es from to = ap (λ (x : List Marked). open_at (x ++ leaf_event text (Text (source_of text from to)) from to ∷ [])) (append-nil es)

  emit_break : (es : List Marked) (e : LineEnd) (from to : ℕ) → step text (open_at es) (inline_node [] [] (node 2 (item.Leaf (leaf_of_end e)) from to)) ≡ open_at (es ++ leaf_event text (break_of e) from to ∷ [])
  unfolding inline_node inline_item leaf_of
  emit_break es Softly from to = ap (λ (x : List Marked). open_at (x ++ leaf_event text (break_of Softly) from to ∷ [])) (append-nil es)
  emit_break es ByBackslash from to = ap (λ (x : List Marked). open_at (x ++ leaf_event text (break_of ByBackslash) from to ∷ [])) (append-nil es)
  emit_break es (BySpaces more) from to = ap (λ (x : List Marked). open_at (x ++ leaf_event text (break_of (BySpaces more)) from to ∷ [])) (append-nil es)

  emit_lines : (es : List Marked) (p : ℕ) (l : List ℕ) (ms : List NextLine) → fold (step text) (open_at es) (viewed (marked_nodes low p l ms)) ≡ open_at (es ++ line_said p l ms)
  emit_lines es p l [] = emit_text es p (p + length l)
  emit_lines es p l (m ∷ ms) =
      let q : ℕ = p + length l in
      let end : ℕ = q + width_of m.behind in
      let first : Marked = leaf_event text (Text (source_of text p q)) p q in
      let second : Marked = leaf_event text (break_of m.behind) q (end + 1) in
      let rest : List NodeView = viewed (marked_nodes low (end + suc (width low)) m.line ms) in
      ap (λ (u : Writing). fold (step text) (step text u (inline_node [] [] (node 2 (item.Leaf (leaf_of_end m.behind)) q (end + 1)))) rest) (emit_text es p q)
      ∙ ap (λ (u : Writing). fold (step text) u rest) (emit_break (es ++ first ∷ []) m.behind q (end + 1))
      ∙ emit_lines ((es ++ first ∷ []) ++ second ∷ []) (end + suc (width low)) m.line ms
      ∙ ap open_at (append_assoc (es ++ first ∷ []) (second ∷ []) (line_said (end + suc (width low)) m.line ms) ∙ append_assoc es (first ∷ []) (second ∷ line_said (end + suc (width low)) m.line ms))

  -- merged, they are the lines and their breaks
  merged_lines : (pre : List ℕ) (p : ℕ) (l : List ℕ) (ms : List NextLine) (r t : ℕ × ℕ) → AreClean text → text ≡ pre ++ marked_text low l ms → p ≡ length pre → merged (unplaced (line_said p l ms ++ (End end.Paragraph, r) ∷ (End (end.BlockQuote None), t) ∷ [])) ≡ broken_lines l ms ++ End end.Paragraph ∷ End (end.BlockQuote None) ∷ []
  merged_lines pre p l [] r t clean e at =
      ap (λ (xs : List ℕ). Leaf (Text xs) ∷ End end.Paragraph ∷ End (end.BlockQuote None) ∷ []) (source_between text pre l [] p (p + length l) (e ∙ ap (λ (xs : List ℕ). pre ++ xs) (sym (append-nil l))) at (ap (λ n. n + length l) at) clean)
  merged_lines pre p l (m ∷ ms) r t clean e at =
      let q : ℕ = p + length l in
      let gap : List ℕ = end_bytes m.behind in
      let end_place : ℕ = q + length gap in
      let rest : List ℕ = marked_text low m.line ms in
      let mark : List ℕ = 10 ∷ line_mark low in
      let before : List ℕ = pre ++ (l ++ (gap ++ mark)) in
      let behind : text ≡ before ++ rest =
      e ∙ ap (λ (xs : List ℕ). pre ++ (l ++ xs)) (sym (append_assoc gap mark rest)) ∙ ap (λ (xs : List ℕ). pre ++ xs) (sym (append_assoc l (gap ++ mark) rest)) ∙ sym (append_assoc pre (l ++ (gap ++ mark)) rest)
      in
      let gone : end_place + suc (width low) ≡ length before =
      (let x : length before ≡ length pre + (length l + (length gap + suc (width low))) = length-append pre (l ++ (gap ++ mark)) ∙ ap (λ n. length pre + n) (length-append l (gap ++ mark)) ∙ ap (λ n. length pre + (length l + n)) (length-append gap mark) in omega (arith, x, at))
      in
      let said : List EventView = unplaced (line_said (end_place + suc (width low)) m.line ms ++ (End end.Paragraph, r) ∷ (End (end.BlockQuote None), t) ∷ []) in
      ap (λ (xs : List ℕ). merged (Leaf (Text xs) ∷ Leaf (break_of m.behind) ∷ said)) (source_between text pre l (gap ++ 10 ∷ (line_mark low ++ rest)) p q e at (ap (λ n. n + length l) at) clean)
      ∙ merged_break m.behind l said
      ∙ ap (λ (es : List EventView). Leaf (Text l) ∷ Leaf (break_of m.behind) ∷ es) (merged_lines before (end_place + suc (width low)) m.line ms r t clean behind gone)

-- ---- the law

both_clean : (xs ys : List ℕ) → AreClean xs → AreClean ys → AreClean (xs ++ ys)
both_clean [] ys h k = k
both_clean (x ∷ xs) ys h k = (h.0, both_clean xs ys (h.1) k)

rest_clean : (low : Bool) (l : List ℕ) (ms : List NextLine) → AreLines l ms → AreClean (marked_text low l ms)
rest_clean low l [] h = all_implied IsPrintable IsClean l clean_byte (words_shown l (h.0))
rest_clean low l (m ∷ ms) h =
    both_clean l (end_bytes m.behind ++ 10 ∷ (line_mark low ++ marked_text low m.line ms)) (all_implied IsPrintable IsClean l clean_byte (words_shown l (h.0)))
    (both_clean (end_bytes m.behind) (10 ∷ (line_mark low ++ marked_text low m.line ms)) (all_implied IsPrintable IsClean (end_bytes m.behind) clean_byte (end_shown m.behind))
    (clean_feed, both_clean (line_mark low) (marked_text low m.line ms) (all_implied IsPrintable IsClean (line_mark low) clean_byte (marks_shown low)) (rest_clean low m.line ms (h.1))))

feed_cleans : (low : Bool) → AreClean (first_feed low)
feed_cleans false = tt
feed_cleans true = (clean_feed, both_clean (line_mark true) (10 ∷ []) (all_implied IsPrintable IsClean (line_mark true) clean_byte (marks_shown true)) (clean_feed, tt))

quote_clean : (low : Bool) (l : List ℕ) (ms : List NextLine) → AreLines l ms → AreClean (quote_text low l ms)
quote_clean low l ms h = both_clean (first_feed low) (line_mark low ++ marked_text low l ms) (feed_cleans low) (both_clean (line_mark low) (marked_text low l ms) (all_implied IsPrintable IsClean (line_mark low) clean_byte (marks_shown low)) (rest_clean low l ms h))

regrouped : (l : List ℕ) (ms : List NextLine) → broken_lines l ms ++ End end.Paragraph ∷ End (end.BlockQuote None) ∷ [] ≡ (broken_lines l ms ++ End end.Paragraph ∷ []) ++ End (end.BlockQuote None) ∷ []
regrouped l ms = sym (both (broken_lines l ms))
  where
    both : (es : List EventView) → (es ++ End end.Paragraph ∷ []) ++ End (end.BlockQuote None) ∷ [] ≡ es ++ End end.Paragraph ∷ End (end.BlockQuote None) ∷ []
    both es = append_assoc es (End end.Paragraph ∷ []) (End (end.BlockQuote None) ∷ [])

quote_emitted : (low : Bool) (l : List ℕ) (ms : List NextLine) → AreLines l ms → AreClean (quote_text low l ms) → merged (unplaced (emitted (quote_text low l ms) (quote_nodes low (length (quote_text low l ms)) (marked_nodes low (text_place low) l ms)))) ≡ quoted_paragraph l ms
quote_emitted low l ms h clean =
    let text : List ℕ = quote_text low l ms in
    let r : ℕ × ℕ = snapped text (mark_place low) (length text) in
    let t : ℕ × ℕ = snapped text (text_place low) (length text) in
    let o : Open = record { end = end.BlockQuote None; range = r } in
    let k : Open = record { end = end.Paragraph; range = t } in
    let fronts : List Marked = (Start (BlockQuote None), r) ∷ (Start Paragraph, t) ∷ [] in
    ap (λ (u : Writing). merged (unplaced (closed 0 u).events)) (emit_lines low text o k fronts (text_place low) l ms)
    ∙ ap (λ (es : List EventView). Start (BlockQuote None) ∷ Start Paragraph ∷ es) (merged_lines low text o k (quote_front low) (text_place low) l ms t r clean (front_apart low l ms) (place_of_text low) ∙ regrouped l ms)

quote_read : (low : Bool) (syntax : Syntax) (l : List ℕ) (ms : List NextLine) → list_all is_word_line (l ∷ lines_behind ms) ≡ true → length (quote_text low l ms) < 2 ^ 64 → IsReadAs (reading_of syntax (quote_text low l ms)) (quoted_paragraph l ms)
unfolding reading_of
quote_read low syntax l ms all fits =
    let text : List ℕ = quote_text low l ms in
    let h : AreLines l ms = all_from is_word_line AreWords (l ∷ lines_behind ms) words_from all in
    let clean : AreClean text = quote_clean low l ms h in
    let found : found_under syntax text ≡ found_of (quote_nodes low (length text) (marked_nodes low (text_place low) l ms)) = quote_found low syntax l ms h clean fits in
    record {
      events = ap (λ (f : FoundView). merged (unplaced (emitted text f.nodes))) found ∙ quote_emitted low l ms h clean;
      defined = ap (λ (f : FoundView). f.defined) found;
      unresolved = ap (λ (f : FoundView). f.unresolved) found;
    }

-- ---- the laws

flush_is : (l : List ℕ) (ms : List NextLine) → quoted_text l ms ≡ quote_text false l ms
flush_is l [] = refl
flush_is l (m ∷ ms) = ap (λ (xs : List ℕ). 62 ∷ 32 ∷ (l ++ (end_bytes m.behind ++ 10 ∷ xs))) (flush_is m.line ms)

pub quotes_read : (syntax : Syntax) (l : List ℕ) (ms : List NextLine) → list_all is_word_line (l ∷ lines_behind ms) ≡ true → length (quoted_text l ms) < 2 ^ 64 → IsReadAs (reading_of syntax (quoted_text l ms)) (quoted_paragraph l ms)
quotes_read syntax l ms all fits =
    let same : quoted_text l ms ≡ quote_text false l ms = flush_is l ms in
    subst (λ (xs : List ℕ). IsReadAs (reading_of syntax xs) (quoted_paragraph l ms)) (sym same) (quote_read false syntax l ms all (subst (λ (xs : List ℕ). length xs < 2 ^ 64) same fits))

-- lines, each after a space and `> `
abbrev pub spaced_quote : List ℕ → List NextLine → List ℕ
spaced_quote l [] = 32 ∷ 62 ∷ 32 ∷ l
spaced_quote l (m ∷ ms) = 32 ∷ 62 ∷ 32 ∷ (l ++ (end_bytes m.behind ++ 10 ∷ spaced_quote m.line ms))

-- the same after a blank line and a line with nothing but a mark
abbrev pub low_quote : List ℕ → List NextLine → List ℕ
low_quote l ms = 10 ∷ 32 ∷ 62 ∷ 32 ∷ 10 ∷ spaced_quote l ms

low_is : (l : List ℕ) (ms : List NextLine) → spaced_quote l ms ≡ 32 ∷ 62 ∷ 32 ∷ marked_text true l ms
low_is l [] = refl
low_is l (m ∷ ms) = ap (λ (xs : List ℕ). 32 ∷ 62 ∷ 32 ∷ (l ++ (end_bytes m.behind ++ 10 ∷ xs))) (low_is m.line ms)

pub low_quotes_read : (syntax : Syntax) (l : List ℕ) (ms : List NextLine) → list_all is_word_line (l ∷ lines_behind ms) ≡ true → length (low_quote l ms) < 2 ^ 64 → IsReadAs (reading_of syntax (low_quote l ms)) (quoted_paragraph l ms)
low_quotes_read syntax l ms all fits =
    let same : low_quote l ms ≡ quote_text true l ms = ap (λ (xs : List ℕ). 10 ∷ 32 ∷ 62 ∷ 32 ∷ 10 ∷ xs) (low_is l ms) in
    subst (λ (xs : List ℕ). IsReadAs (reading_of syntax xs) (quoted_paragraph l ms)) (sym same) (quote_read true syntax l ms all (subst (λ (xs : List ℕ). length xs < 2 ^ 64) same fits))

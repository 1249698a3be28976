-- Lines of words with hard and soft breaks between them are read as a paragraph with these breaks.
use Rattle.std.proofs.Common.{◌≡◌, ℕ, zero, suc, ◌+◌, ◌-◌, ◌^◌, ◌<◌, ◌≤◌, true, false, ◌==◌, List, [], ◌∷◌, ◌++◌, length, map, replicate, slice_get, refl, ap, sym, subst, ◌∙◌, arith, append_assoc, append-nil, length-append, Option, Some}
use Rattle.std.specs.Char.{is_ascii_alphabetic}
use Rattle.std.specs.List.{AllByRecursion, fold, list_all}
use Rattle.tocmark_event.specs.Merged.{merged}
use Rattle.tocmark_event.specs.View.{EventView, Start, End, Leaf, Paragraph, Text}
use Rattle.tocmark_event.specs.declared.event.TagEnd.TheVariants as end
use Rattle.tocmark_read_scan.specs.Basic.{byte_at}
use Rattle.tocmark_read_scan.specs.Class.{is_in}
use Rattle.tocmark_read_scan.specs.Content as content
use Rattle.tocmark_read_scan.specs.PlainParts.{last_byte}
use Rattle.tocmark_read_scan.specs.declared.class.Class.TheVariants.{White}
use Rattle.tocmark_read_scan.specs.declared.syntax.Syntax.{Syntax}
use Rattle.tocmark_read_scan.proofs.PlainContent.{places_of}
use Rattle.tocmark_read_scan.proofs.PlainPieces.{feed_joined, content_of_lines, AreNoZeros}
use Rattle.tocmark_read_scan.proofs.PlainTests.{turned, all_from}
use Rattle.tocmark_read_blocks.proofs.PlainLines.{IsWithin}
use Rattle.tocmark_read_spans.specs.Emphasis.{emphasized}
use Rattle.tocmark_read_spans.specs.declared.definitions.Entry.{Entry}
use Rattle.tocmark_read_inlines.specs.Inlines as inlines
use Rattle.tocmark_read_inlines.specs.Inlines.{scan_start}
use Rattle.tocmark_read_inlines.specs.Scan as s
use Rattle.tocmark_read_inlines.specs.Write as w
use Rattle.tocmark_read_inlines.specs.declared.write.InlineKind.{InlineKind}
use Rattle.tocmark_read_inlines.specs.declared.write.InlineKind.TheVariants as item
use Rattle.tocmark_read_inlines.specs.declared.write.Node.{Node}
use Rattle.tocmark_read_inlines.proofs.PlainNodes.{node}
use Rattle.tocmark_reader.specs.Emitted.{NodeView, Writing, emitted, step, closed}
use Rattle.tocmark_reader.specs.Inlines.{inline_node, inline_item, leaf_of}
use Rattle.tocmark_reader.specs.Pages.{with_block, block_tag, task_nodes}
use Rattle.tocmark_reader.specs.PlainTexts.{IsReadAs}
use Rattle.tocmark_reader.specs.Range.{snapped}
use Rattle.tocmark_reader.specs.Reading.{FoundView, first_entry, found_under, reading_of}
use Rattle.tocmark_reader.specs.declared.emit.Open.{Open}
use Rattle.tocmark_reader.proofs.PlainEvents.{Marked, unplaced, source_of, leaf_event, at, viewed}
use Rattle.tocmark_reader.proofs.PlainReading.{IsPrintable}
use Rattle.tocmark_reader.proofs.PlainSources.{IsClean, AreClean, all_implied, source_between}
use Rattle.tocmark_reader.proofs.QuietContent.{split_last}
use Rattle.tocmark_laws.specs.Extensions.{is_word_line}
use Rattle.tocmark_laws.specs.HardBreaks.{LineEnd, Softly, ByBackslash, BySpaces, NextLine, end_bytes, break_of, broken_text, broken_lines, broken_paragraph, lines_behind}
use Rattle.tocmark_laws.proofs.BreakRoles.{leaf_of_end, width_of, line_roles, line_nodes, with_roles, scan_lines, write_lines}
use Rattle.tocmark_laws.proofs.ExtensionBlocks.{IsFreeText}
use Rattle.tocmark_laws.proofs.ExtensionParagraphs.{begins_freely, no_inlines, found_of, paragraph_found, last_of, within_byte, clean_byte, clean_feed, no_returns}
use Rattle.tocmark_laws.proofs.WordsReading.{IsWordByte, AreWords, words_from, ink_byte, quiet_letter, free_letter}

-- ---- bytes

pub all_both : (P : ℕ → Type 0) (xs ys : List ℕ) → AllByRecursion P xs → AllByRecursion P ys → AllByRecursion P (xs ++ ys)
all_both P [] ys h k = k
all_both P (x ∷ xs) ys h k = (h.0, all_both P xs ys (h.1) k)

all_spaces : (P : ℕ → Type 0) (n : ℕ) → P 32 → AllByRecursion P (replicate n 32)
all_spaces P zero h = tt
all_spaces P (suc n) h = (h, all_spaces P n h)

shown : (b : ℕ) → 32 ≤ b → b < 127 → IsPrintable b
shown b low high = record { low = low; high = high }

pub end_shown : (e : LineEnd) → AllByRecursion IsPrintable (end_bytes e)
end_shown Softly = tt
end_shown ByBackslash = (shown 92 (omega arith) (omega arith), tt)
end_shown (BySpaces more) =
    let space : IsPrintable 32 = shown 32 (omega arith) (omega arith) in
    (space, (space, all_spaces IsPrintable more space))

pub words_shown : (l : List ℕ) → AreWords l → AllByRecursion IsPrintable l
words_shown [] h = tt
words_shown (b ∷ bs) h = all_implied IsWordByte IsPrintable (b ∷ bs) (λ x k. k.printable) h.bytes

-- a line with what ends it
abbrev front_line : List ℕ → List NextLine → List ℕ
front_line l [] = l
front_line l (m ∷ ms) = l ++ end_bytes m.behind

-- the lines after it, each with what ends it
abbrev further_lines : List NextLine → List (List ℕ)
further_lines [] = []
further_lines (m ∷ ms) = front_line m.line ms ∷ further_lines ms

joined : (l : List ℕ) (ms : List NextLine) → broken_text l ms ≡ feed_joined (front_line l ms) (further_lines ms)
joined l [] = refl
joined l (m ∷ ms) = sym (append_assoc l (end_bytes m.behind) (10 ∷ broken_text m.line ms)) ∙ ap (λ (xs : List ℕ). (l ++ end_bytes m.behind) ++ 10 ∷ xs) (joined m.line ms)

line_shown : (l : List ℕ) (ms : List NextLine) → AreWords l → AllByRecursion IsPrintable (front_line l ms)
line_shown l [] h = words_shown l h
line_shown l (m ∷ ms) h = all_both IsPrintable l (end_bytes m.behind) (words_shown l h) (end_shown m.behind)

pub clean_text : (l : List ℕ) (ms : List NextLine) → AllByRecursion AreWords (l ∷ lines_behind ms) → AreClean (broken_text l ms)
clean_text l [] h = all_implied IsPrintable IsClean l clean_byte (words_shown l (h.0))
clean_text l (m ∷ ms) h =
    all_both IsClean l (end_bytes m.behind ++ 10 ∷ broken_text m.line ms) (all_implied IsPrintable IsClean l clean_byte (words_shown l (h.0)))
    (all_both IsClean (end_bytes m.behind) (10 ∷ broken_text m.line ms) (all_implied IsPrintable IsClean (end_bytes m.behind) clean_byte (end_shown m.behind)) (clean_feed, clean_text m.line ms (h.1)))

free_from : (b : ℕ) (bs rest : List ℕ) → is_ascii_alphabetic b ≡ true → AllByRecursion IsPrintable ((b ∷ bs) ++ rest) → IsFreeText ((b ∷ bs) ++ rest)
free_from b bs rest letter h = record {
  within = all_implied IsPrintable IsWithin ((b ∷ bs) ++ rest) within_byte h;
  begins = λ k. begins_freely k b (bs ++ rest) (quiet_letter b letter) (free_letter b letter);
  first = b;
  rest = bs ++ rest;
  shape = refl;
  dash = turned is_ascii_alphabetic 45 b letter refl;
  cross = turned is_ascii_alphabetic 43 b letter refl;
}

free_line : (l : List ℕ) (ms : List NextLine) → AreWords l → IsFreeText (front_line l ms)
free_line [] ms h = absurd h
free_line (b ∷ bs) [] h =
    subst IsFreeText (append-nil (b ∷ bs)) (free_from b bs [] h.letter (subst (AllByRecursion IsPrintable) (sym (append-nil (b ∷ bs))) (words_shown (b ∷ bs) h)))
free_line (b ∷ bs) (m ∷ ms) h = free_from b bs (end_bytes m.behind) h.letter (line_shown (b ∷ bs) (m ∷ ms) h)

free_lines : (ms : List NextLine) → AllByRecursion AreWords (lines_behind ms) → AllByRecursion IsFreeText (further_lines ms)
free_lines [] h = tt
free_lines (m ∷ ms) h = (free_line m.line ms (h.0), free_lines ms (h.1))

no_zeros : (l : List ℕ) (ms : List NextLine) → AllByRecursion AreWords (l ∷ lines_behind ms) → AllByRecursion AreNoZeros (front_line l ms ∷ further_lines ms)
no_zeros l [] h = (all_implied IsPrintable (λ b. (b == 0) ≡ false) l (λ b k. (clean_byte b k).some) (line_shown l [] (h.0)), tt)
no_zeros l (m ∷ ms) h = (all_implied IsPrintable (λ b. (b == 0) ≡ false) (front_line l (m ∷ ms)) (λ b k. (clean_byte b k).some) (line_shown l (m ∷ ms) (h.0)), no_zeros m.line ms (h.1))

-- the last byte isn't white
pub ends_in_ink : (l : List ℕ) (ms : List NextLine) → AllByRecursion AreWords (l ∷ lines_behind ms) → (body : List ℕ) × (y : ℕ) × (broken_text l ms ≡ body ++ y ∷ []) × (is_in White y ≡ false)
ends_in_ink [] ms h = absurd (h.0)
ends_in_ink (b ∷ bs) [] h =
    let split = split_last b bs in
    (split.0, last_byte b bs, split.1, ink_byte (last_byte b bs) (last_of IsWordByte b bs (h.0).bytes) (h.0).last)
ends_in_ink (b ∷ bs) (m ∷ ms) h =
    let more = ends_in_ink m.line ms (h.1) in
    let front : List ℕ = end_bytes m.behind ++ 10 ∷ more.0 in (
      (b ∷ bs) ++ front,
      more.1,
      ap (λ (xs : List ℕ). (b ∷ bs) ++ (end_bytes m.behind ++ 10 ∷ xs)) (more.2)
          ∙ ap (λ (xs : List ℕ). (b ∷ bs) ++ xs) (sym (append_assoc (end_bytes m.behind) (10 ∷ more.0) (more.1 ∷ [])))
          ∙ sym (append_assoc (b ∷ bs) front (more.1 ∷ [])),
      more.3,
    )

no_bracket : (l : List ℕ) (ms : List NextLine) → AreWords l → (byte_at (broken_text l ms) 0 == 91) ≡ false
no_bracket [] ms h = absurd h
no_bracket (b ∷ bs) [] h = turned is_ascii_alphabetic 91 b h.letter refl
no_bracket (b ∷ bs) (m ∷ ms) h = turned is_ascii_alphabetic 91 b h.letter refl

-- ---- the nodes

pub lines_scanned : (syntax : Syntax) (l : List ℕ) (ms : List NextLine) (find : List ℕ → Option Entry) → AllByRecursion AreWords (l ∷ lines_behind ms) → length (broken_text l ms) < 2 ^ 64 → (k : ℕ) × (s.scanned_in syntax (broken_text l ms) find (scan_start (length (broken_text l ms)) [] [] []) ≡ with_roles (length (broken_text l ms)) (line_roles 0 l ms) (0 + length (broken_text l ms)) k)
unfolding s.scanned_in s.settled scan_start emphasized
lines_scanned syntax l ms find h fits =
    let text : List ℕ = broken_text l ms in
    let passed = scan_lines syntax text (s.ahead_in syntax text) find (length text) l ms [] [] 0 0 h refl refl refl (omega arith) fits in
    (passed.0, ap (s.settled 0) (passed.1))

lines_written : (l : List ℕ) (ms : List NextLine) → AllByRecursion AreWords (l ∷ lines_behind ms) → length (broken_text l ms) < 2 ^ 64 → w.written (line_roles 0 l ms) 1 ≡ line_nodes 1 0 l ms
unfolding w.written
lines_written l ms h fits = write_lines l ms [] 1 0 0 h (omega arith) (omega arith)

place_at : (start : ℕ) (xs : List ℕ) (k : ℕ) → k < length xs → slice_get (places_of start xs) k ≡ Some (start + k, start + k + 1)
place_at start [] k h = absurd (omega arith)
place_at start (x ∷ xs) zero h = let same : start + 0 ≡ start = omega arith in rw same refl
place_at start (x ∷ xs) (suc k) h =
    let same : start + 1 + k ≡ start + suc k = omega arith in
    place_at (start + 1) xs k (omega arith) ∙ rw same refl

moved_one : (bytes : List ℕ) (d : ℕ) (i : InlineKind) (start end : ℕ) → start < end → end ≤ length bytes → w.moved (places_of 0 bytes) (node d i start end) ≡ node d i start end
unfolding w.moved
moved_one bytes d i start end h k =
    let first : 0 + start ≡ start = omega arith in
    let last : 0 + (end - 1) + 1 ≡ end = omega arith in
    rw (place_at 0 bytes start (omega arith), place_at 0 bytes (end - 1) (omega arith), first, last) refl

lines_moved : (bytes : List ℕ) (d p : ℕ) (l : List ℕ) (ms : List NextLine) → AllByRecursion AreWords (l ∷ lines_behind ms) → p + length (broken_text l ms) ≤ length bytes → map (w.moved (places_of 0 bytes)) (line_nodes d p l ms) ≡ line_nodes d p l ms
lines_moved bytes d p [] ms h k = absurd (h.0)
lines_moved bytes d p (b ∷ bs) [] h k = ap (λ (n : Node). n ∷ []) (moved_one bytes d item.Text p (p + length (b ∷ bs)) (omega arith) k)
lines_moved bytes d p (b ∷ bs) (m ∷ ms) h k =
    let l : List ℕ = b ∷ bs in
    let rest : List ℕ = broken_text m.line ms in
    let wide : ℕ = width_of m.behind in
    let all : length (l ++ (end_bytes m.behind ++ 10 ∷ rest)) ≡ length l + (wide + suc (length rest)) = length-append l (end_bytes m.behind ++ 10 ∷ rest) ∙ ap (λ n. length l + n) (length-append (end_bytes m.behind) (10 ∷ rest)) in
    let q : ℕ = p + length l in
    let first : Node = node d item.Text p q in
    let second : Node = node d (item.Leaf (leaf_of_end m.behind)) q (q + 1 + wide) in
    ap (λ (x : Node). x ∷ map (w.moved (places_of 0 bytes)) (second ∷ line_nodes d (q + suc wide) m.line ms)) (moved_one bytes d item.Text p q (omega arith) (omega (arith, all, k)))
    ∙ ap (λ (x : Node). first ∷ x ∷ map (w.moved (places_of 0 bytes)) (line_nodes d (q + suc wide) m.line ms)) (moved_one bytes d (item.Leaf (leaf_of_end m.behind)) q (q + 1 + wide) (omega arith) (omega (arith, all, k)))
    ∙ ap (λ (xs : List Node). first ∷ second ∷ xs) (lines_moved bytes d (q + suc wide) m.line ms (h.1) (omega (arith, all, k)))

-- the nodes of inlines
abbrev pub inlines_with : List Node → inlines.State
inlines_with ns = record { nodes = ns; targets = []; texts = []; missed = [] }

lines_found : (syntax : Syntax) (l : List ℕ) (ms : List NextLine) → AllByRecursion AreWords (l ∷ lines_behind ms) → length (broken_text l ms) < 2 ^ 64 → found_under syntax (broken_text l ms) ≡ found_of (broken_text l ms) (length (broken_text l ms)) (inlines_with (line_nodes 1 0 l ms))
unfolding inlines.read_inlines_in
lines_found syntax l ms h fits =
    let text : List ℕ = broken_text l ms in
    let n : ℕ = length text in
    let find = first_entry syntax.undefined_notes [] [] in
    let leaf : content.State = record { bytes = text; places = places_of 0 text } in
    let same : text ≡ feed_joined (front_line l ms) (further_lines ms) = joined l ms in
    let ink = ends_in_ink l ms h in
    let scanned = lines_scanned syntax l ms find h fits in
    let stands : content.content_of (feed_joined (front_line l ms) (further_lines ms)) _ ≡ leaf =
    content_of_lines (front_line l ms) (further_lines ms) (ink.0) (ink.1) (sym same ∙ ink.2) (ink.3) (no_zeros l ms h) (subst (λ (xs : List ℕ). length xs < 2 ^ 64) same fits)
    ∙ ap (let g : List ℕ → content.State = λ bytes. record { bytes = bytes; places = places_of 0 bytes } in g) (sym same)
    in
    let whole : List ℕ = feed_joined (front_line l ms) (further_lines ms) in
    let begins : found_under syntax whole ≡ found_of whole (length whole) (inlines.read_inlines_in syntax leaf 1 find no_inlines) =
    paragraph_found syntax (front_line l ms) (further_lines ms) leaf (free_line l ms (h.0), free_lines ms (h.1)) (subst (AllByRecursion (λ b. (b == 13) ≡ false)) same (no_returns text (clean_text l ms h))) (subst (λ (xs : List ℕ). length xs < 2 ^ 64) same fits) (subst (λ (xs : List ℕ). (byte_at xs 0 == 91) ≡ false) same (no_bracket l ms (h.0))) stands
    in
    subst (λ (xs : List ℕ). found_under syntax xs ≡ found_of xs (length xs) (inlines.read_inlines_in syntax leaf 1 find no_inlines)) (sym same) begins
    ∙ ap (λ (after : s.State). found_of text n (inlines.inlines_from leaf 1 after no_inlines)) (scanned.1)
    ∙ ap (λ (ns : List Node). found_of text n (inlines_with (map (w.moved (places_of 0 text)) ns))) (lines_written l ms h fits)
    ∙ ap (λ (ns : List Node). found_of text n (inlines_with ns)) (lines_moved text 1 0 l ms h (omega arith))

-- ---- the events

-- the events of lines from a place on
abbrev line_said : List ℕ → ℕ → List ℕ → List NextLine → List Marked
line_said text p l [] = leaf_event text (Text (source_of text p (p + length l))) p (p + length l) ∷ []
line_said text p l (m ∷ ms) =
    leaf_event text (Text (source_of text p (p + length l))) p (p + length l)
    ∷ leaf_event text (break_of m.behind) (p + length l) (p + length l + 1 + width_of m.behind)
    ∷ line_said text (p + length l + suc (width_of m.behind)) m.line ms

emit_text : (text : List ℕ) (es : List Marked) (k : Open) (start end : ℕ) → step text (at es k) (inline_node [] [] (node 1 item.Text start end)) ≡ at (es ++ leaf_event text (Text (source_of text start end)) start end ∷ []) k
unfolding inline_node inline_item
emit_text text es k start end = ap (λ (x : List Marked). at (x ++ leaf_event text (Text (source_of text start end)) start end ∷ []) k) (append-nil es)

emit_break : (text : List ℕ) (es : List Marked) (k : Open) (e : LineEnd) (start end : ℕ) → step text (at es k) (inline_node [] [] (node 1 (item.Leaf (leaf_of_end e)) start end)) ≡ at (es ++ leaf_event text (break_of e) start end ∷ []) k
unfolding inline_node inline_item leaf_of
emit_break text es k Softly start end = ap (λ (x : List Marked). at (x ++ leaf_event text (break_of Softly) start end ∷ []) k) (append-nil es)
emit_break text es k ByBackslash start end = ap (λ (x : List Marked). at (x ++ leaf_event text (break_of ByBackslash) start end ∷ []) k) (append-nil es)
emit_break text es k (BySpaces more) start end = ap (λ (x : List Marked). at (x ++ leaf_event text (break_of (BySpaces more)) start end ∷ []) k) (append-nil es)

emit_lines : (text : List ℕ) (es : List Marked) (k : Open) (p : ℕ) (l : List ℕ) (ms : List NextLine) → fold (step text) (at es k) (viewed (line_nodes 1 p l ms)) ≡ at (es ++ line_said text p l ms) k
emit_lines text es k p l [] = emit_text text es k p (p + length l)
emit_lines text es k p l (m ∷ ms) =
    let q : ℕ = p + length l in
    let wide : ℕ = width_of m.behind in
    let next : ℕ = q + suc wide in
    let first : Marked = leaf_event text (Text (source_of text p q)) p q in
    let second : Marked = leaf_event text (break_of m.behind) q (q + 1 + wide) in
    let rest : List NodeView = viewed (line_nodes 1 next m.line ms) in
    ap (λ (u : Writing). fold (step text) (step text u (inline_node [] [] (node 1 (item.Leaf (leaf_of_end m.behind)) q (q + 1 + wide)))) rest) (emit_text text es k p q)
    ∙ ap (λ (u : Writing). fold (step text) u rest) (emit_break text (es ++ first ∷ []) k m.behind q (q + 1 + wide))
    ∙ emit_lines text ((es ++ first ∷ []) ++ second ∷ []) k next m.line ms
    ∙ ap (λ (x : List Marked). at x k) (append_assoc (es ++ first ∷ []) (second ∷ []) (line_said text next m.line ms) ∙ append_assoc es (first ∷ []) (second ∷ line_said text next m.line ms))

pub merged_break : (e : LineEnd) (t : List ℕ) (es : List EventView) → merged (Leaf (Text t) ∷ Leaf (break_of e) ∷ es) ≡ Leaf (Text t) ∷ Leaf (break_of e) ∷ merged es
merged_break Softly t es = refl
merged_break ByBackslash t es = refl
merged_break (BySpaces more) t es = refl

-- merged, a paragraph's events are its lines and breaks
merged_lines : (text pre : List ℕ) (p : ℕ) (l : List ℕ) (ms : List NextLine) (r : ℕ × ℕ) → AreClean text → text ≡ pre ++ broken_text l ms → p ≡ length pre → merged (unplaced (line_said text p l ms ++ (End end.Paragraph, r) ∷ [])) ≡ broken_lines l ms ++ End end.Paragraph ∷ []
merged_lines text pre p l [] r clean e place =
    ap (λ (t : List ℕ). Leaf (Text t) ∷ End end.Paragraph ∷ []) (source_between text pre l [] p (p + length l) (e ∙ ap (λ (xs : List ℕ). pre ++ xs) (sym (append-nil l))) place (ap (λ n. n + length l) place) clean)
merged_lines text pre p l (m ∷ ms) r clean e place =
    let q : ℕ = p + length l in
    let gap : List ℕ = end_bytes m.behind in
    let rest : List ℕ = broken_text m.line ms in
    let next : ℕ = q + suc (length gap) in
    let before : List ℕ = pre ++ (l ++ (gap ++ 10 ∷ [])) in
    let behind : text ≡ before ++ rest =
    e ∙ ap (λ (xs : List ℕ). pre ++ (l ++ xs)) (sym (append_assoc gap (10 ∷ []) rest)) ∙ ap (λ (xs : List ℕ). pre ++ xs) (sym (append_assoc l (gap ++ 10 ∷ []) rest)) ∙ sym (append_assoc pre (l ++ (gap ++ 10 ∷ [])) rest)
    in
    let gone : next ≡ length before =
    (let x : length before ≡ length pre + (length l + (length gap + 1)) = length-append pre (l ++ (gap ++ 10 ∷ [])) ∙ ap (λ n. length pre + n) (length-append l (gap ++ 10 ∷ [])) ∙ ap (λ n. length pre + (length l + n)) (length-append gap (10 ∷ [])) in omega (arith, x, place))
    in
    let said : List EventView = unplaced (line_said text next m.line ms ++ (End end.Paragraph, r) ∷ []) in
    ap (λ (t : List ℕ). merged (Leaf (Text t) ∷ Leaf (break_of m.behind) ∷ said)) (source_between text pre l (gap ++ 10 ∷ rest) p q e place (ap (λ n. n + length l) place) clean)
    ∙ merged_break m.behind l said
    ∙ ap (λ (es : List EventView). Leaf (Text l) ∷ Leaf (break_of m.behind) ∷ es) (merged_lines text before next m.line ms r clean behind gone)

-- ---- the law

lines_emitted : (l : List ℕ) (ms : List NextLine) → AreClean (broken_text l ms) → merged (unplaced (emitted (broken_text l ms) (found_of (broken_text l ms) (length (broken_text l ms)) (inlines_with (line_nodes 1 0 l ms))).nodes)) ≡ broken_paragraph l ms
unfolding with_block block_tag task_nodes
lines_emitted l ms clean =
    let text : List ℕ = broken_text l ms in
    let r : ℕ × ℕ = snapped text 0 (length text) in
    ap (λ (u : Writing). merged (unplaced (closed 0 u).events)) (emit_lines text ((Start Paragraph, r) ∷ []) (record { end = end.Paragraph; range = r }) 0 l ms)
    ∙ ap (λ (es : List EventView). Start Paragraph ∷ es) (merged_lines text [] 0 l ms r clean refl refl)

pub breaks_read : (syntax : Syntax) (l : List ℕ) (ms : List NextLine) → list_all is_word_line (l ∷ lines_behind ms) ≡ true → length (broken_text l ms) < 2 ^ 64 → IsReadAs (reading_of syntax (broken_text l ms)) (broken_paragraph l ms)
unfolding reading_of
breaks_read syntax l ms all fits =
    let text : List ℕ = broken_text l ms in
    let h : AllByRecursion AreWords (l ∷ lines_behind ms) = all_from is_word_line AreWords (l ∷ lines_behind ms) words_from all in
    let found : found_under syntax text ≡ found_of text (length text) (inlines_with (line_nodes 1 0 l ms)) = lines_found syntax l ms h fits in
    record {
      events = ap (λ (f : FoundView). merged (unplaced (emitted text f.nodes))) found ∙ lines_emitted l ms (clean_text l ms h);
      defined = ap (λ (f : FoundView). f.defined) found;
      unresolved = ap (λ (f : FoundView). f.unresolved) found;
    }

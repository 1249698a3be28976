-- The events of a text of rows, and what these are when they are merged.
use Rattle.std.proofs.Common.{◌≡◌, ℕ, suc, ◌+◌, ◌^◌, ◌<◌, ◌≤◌, List, [], ◌∷◌, ◌++◌, length, map, take, refl, ap, sym, ◌∙◌, arith, append_assoc, append-nil, length-append, None, Some, Option}
use Rattle.std.specs.List.{AllByRecursion, fold}
use Rattle.std.proofs.lemmas.List.Sums.{fold-append}
use Rattle.tocmark_event.specs.Merged.{merged, after_text}
use Rattle.tocmark_event.specs.View.{EventView, Start, End, Leaf, Text, Rule, TagView, CodeBlock, Fenced, end_of}
use Rattle.tocmark_event.specs.declared.event.TagEnd.TheVariants as end
use Rattle.tocmark_event.specs.declared.event.TagEnd.{TagEnd}
use Rattle.tocmark_read_scan.specs.PlainParts.{Part, Bare, Escaped, Referred, Feed, spelled, spelled_part, meant}
use Rattle.tocmark_read_inlines.proofs.PlainNodes.{nodes_of}
use Rattle.tocmark_reader.specs.Emitted.{NodeView, Container, Writing, step, closings, emitted}
use Rattle.tocmark_reader.specs.declared.emit.Open.{Open}
use Rattle.tocmark_reader.specs.PlainTexts.{IsReadAs, line_events, text_parts}
use Rattle.tocmark_reader.specs.Range.{snapped}
use Rattle.tocmark_read_scan.specs.declared.syntax.Syntax.{Syntax}
use Rattle.tocmark_read_scan.specs.declared.syntax.TheConstants.{CORE}
use Rattle.tocmark_reader.specs.Reading.{core_reading, found_under, reading_of, FoundView}
use Rattle.tocmark_reader.proofs.PlainEvents.{Marked, viewed, unplaced, at, events_of, emit_parts, source_of, AreSourced, merged_parts}
use Rattle.tocmark_reader.proofs.PlainReading.{IsPlainLine, merged_lines}
use Rattle.tocmark_reader.proofs.PlainSources.{AreClean, snapped_clean, sourced_parts}
use Rattle.tocmark_laws.specs.TextBlocks.{Kind, mark_of, tag_of}
use Rattle.tocmark_laws.proofs.DocumentCode.{opener}
use Rattle.tocmark_laws.proofs.DocumentRows.{Code, code_body, code_end, code_joined, code_rest, row_bytes, Row, Blank, Break, Filled, rows_text, IsRow, AreRows, all_rows, content_start, row_end, rows_clean}
use Rattle.tocmark_laws.proofs.DocumentBlocks.{hyphens}
use Rattle.tocmark_laws.proofs.DocumentNodes.{row_node, text_node, text_nodes, break_node, row_nodes, found_rows, rows_found, content_front}
use Rattle.tocmark_laws.proofs.DocumentParagraphs.{behind_line, line_length}

-- the events of lines of code
abbrev pub line_mark : ℕ → List ℕ → Marked
line_mark start l = (Leaf (Text (l ++ 10 ∷ [])), (start, start + length l + 1))

abbrev pub line_marks : ℕ → List (List ℕ) → List Marked
line_marks start [] = []
line_marks start (l ∷ ls) = line_mark start l ∷ line_marks (start + length l + 1) ls

-- lines of code, a text for each
abbrev pub code_leaves : List (List ℕ) → List EventView
code_leaves ls = map (λ l. Leaf (Text (l ++ 10 ∷ []))) ls

-- the events of rows
abbrev pub row_events : List ℕ → ℕ → List Row → List Marked
row_events text start [] = []
row_events text start (Blank ∷ rs) = row_events text (start + 0 + 1) rs
row_events text start (Code token m info ls ∷ rs) = (Start (CodeBlock (Fenced info)), (start, code_end start token m info ls)) ∷ (line_marks (code_body start token m info) ls ++ (End end.CodeBlock, (start, code_end start token m info ls)) ∷ row_events text (code_end start token m info ls + 1) rs)
row_events text start (Break ∷ rs) = (Leaf Rule, (start, start + 3)) ∷ row_events text (start + 3 + 1) rs
row_events text start (Filled k l ms ∷ rs) = (Start (tag_of k), (start, row_end start k l ms)) ∷ (events_of text (content_start k start) None (text_parts l ms) ++ (End (end_of (tag_of k)), (start, row_end start k l ms)) ∷ row_events text (row_end start k l ms + 1) rs)

-- rows end within so many bytes
abbrev AreWithin : ℕ → ℕ → List Row → Type 0
AreWithin n start [] = Unit {0}
AreWithin n start (Blank ∷ rs) = AreWithin n (start + 0 + 1) rs
AreWithin n start (Code token m info ls ∷ rs) = (code_end start token m info ls ≤ n) × AreWithin n (code_end start token m info ls + 1) rs
AreWithin n start (Break ∷ rs) = (start + 3 ≤ n) × AreWithin n (start + 3 + 1) rs
AreWithin n start (Filled k l ms ∷ rs) = (row_end start k l ms ≤ n) × AreWithin n (row_end start k l ms + 1) rs

take_none : {A : Type 0} (xs : List A) → take 0 xs ≡ []
take_none [] = refl
take_none (x ∷ xs) = refl

abbrev left : Writing → List Marked
left w = w.events ++ closings 0 w.stack

opened : (text : List ℕ) (w : Writing) (k : Kind) (l : List Part) (ms : List (List Part)) (start : ℕ) → AreClean text → row_end start k l ms ≤ length text → step text w (row_node start k l ms) ≡ at (left w ++ (Start (tag_of k), (start, row_end start k l ms)) ∷ []) (record { end = end_of (tag_of k); range = (start, row_end start k l ms) })
opened text w k l ms start clean fits =
    let end : ℕ = row_end start k l ms in
    let put : ℕ × ℕ → List Open → Writing = λ r os. record { events = left w ++ (Start (tag_of k), r) ∷ []; stack = os ++ record { end = end_of (tag_of k); range = r } ∷ [] } in
    ap (λ r. put r (take 0 w.stack)) (snapped_clean text start end clean (omega arith) fits)
    ∙ ap (put (start, end)) (take_none w.stack)

broken : (text : List ℕ) (w : Writing) (start : ℕ) → AreClean text → start + 3 ≤ length text → step text w (break_node start) ≡ record { events = left w ++ (Leaf Rule, (start, start + 3)) ∷ []; stack = [] }
broken text w start clean fits =
    let put : ℕ × ℕ → List Open → Writing = λ r os. record { events = left w ++ (Leaf Rule, r) ∷ []; stack = os } in
    ap (λ r. put r (take 0 w.stack)) (snapped_clean text start (start + 3) clean (omega arith) fits)
    ∙ ap (put (start, start + 3)) (take_none w.stack)

tag_opened : (text : List ℕ) (w : Writing) (t : TagView) (start end : ℕ) → AreClean text → start ≤ end → end ≤ length text → step text w (record { depth = 0; item = Container t; start = start; end = end }) ≡ at (left w ++ (Start t, (start, end)) ∷ []) (record { end = end_of t; range = (start, end) })
tag_opened text w t start end clean order fits =
    let put : ℕ × ℕ → List Open → Writing = λ r os. record { events = left w ++ (Start t, r) ∷ []; stack = os ++ record { end = end_of t; range = r } ∷ [] } in
    ap (λ r. put r (take 0 w.stack)) (snapped_clean text start end clean order fits)
    ∙ ap (put (start, end)) (take_none w.stack)

line_emitted : (text : List ℕ) (es : List Marked) (o : Open) (start : ℕ) (l : List ℕ) → AreClean text → start + length l + 1 ≤ length text → step text (at es o) (text_node start l) ≡ at (es ++ line_mark start l ∷ []) o
line_emitted text es o start l clean fits =
    let mark : ℕ × ℕ → Marked = λ r. (Leaf (Text (l ++ 10 ∷ [])), r) in
    ap (λ (x : List Marked). at (x ++ mark (snapped text start (start + length l + 1)) ∷ []) o) (append-nil es)
    ∙ ap (λ r. at (es ++ mark r ∷ []) o) (snapped_clean text start (start + length l + 1) clean (omega arith) fits)

lines_emitted : (text : List ℕ) (es : List Marked) (o : Open) (start token m : ℕ) (ls : List (List ℕ)) → AreClean text → start + length (code_rest token m ls) ≤ length text → fold (step text) (at es o) (text_nodes start ls) ≡ at (es ++ line_marks start ls) o
lines_emitted text es o start token m [] clean fits = ap (λ (x : List Marked). at x o) (sym (append-nil es))
lines_emitted text es o start token m (l ∷ ls) clean fits =
    let next : ℕ = start + length l + 1 in
    let more : List ℕ = code_rest token m ls in
    let width : length (l ++ 10 ∷ more) ≡ length l + suc (length more) = length-append l (10 ∷ more) in
    ap (λ (u : Writing). fold (step text) u (text_nodes next ls)) (line_emitted text es o start l clean (omega (arith, width, fits)))
    ∙ lines_emitted text (es ++ line_mark start l ∷ []) o next token m ls clean (omega (arith, width, fits))
    ∙ ap (λ (x : List Marked). at x o) (append_assoc es (line_mark start l ∷ []) (line_marks next ls))

rows_emitted : (text : List ℕ) (start : ℕ) (rs : List Row) (w : Writing) → AreClean text → AreWithin (length text) start rs → left (fold (step text) w (row_nodes start rs)) ≡ left w ++ row_events text start rs
rows_emitted text start [] w clean h = sym (append-nil (left w))
rows_emitted text start (Blank ∷ rs) w clean h = rows_emitted text (start + 0 + 1) rs w clean h
rows_emitted text start (Code token m info ls ∷ rs) w clean h =
    let stop : ℕ = code_end start token m info ls in
    let body : ℕ = code_body start token m info in
    let first : Marked = (Start (CodeBlock (Fenced info)), (start, stop)) in
    let last : Marked = (End end.CodeBlock, (start, stop)) in
    let o : Open = record { end = end.CodeBlock; range = (start, stop) } in
    let es : List Marked = left w ++ first ∷ [] in
    let events : List Marked = line_marks body ls in
    let more : List NodeView = row_nodes (stop + 1) rs in
    let rest : List Marked = row_events text (stop + 1) rs in
    let fits : stop ≤ length text = h.0 in
    let width : length (row_bytes (Code token m info ls)) ≡ length (opener token m info) + suc (length (code_rest token m ls)) = ap length (code_joined token m (opener token m info) ls) ∙ length-append (opener token m info) (10 ∷ code_rest token m ls) in
    ap (λ (u : Writing). left (fold (step text) u (text_nodes body ls ++ more))) (tag_opened text w (CodeBlock (Fenced info)) start stop clean (omega arith) fits)
    ∙ ap left (fold-append (step text) (at es o) (text_nodes body ls) more)
    ∙ ap (λ (u : Writing). left (fold (step text) u more)) (lines_emitted text es o body token m ls clean (omega (arith, width, fits)))
    ∙ rows_emitted text (stop + 1) rs (at (es ++ events) o) clean (h.1)
    ∙ append_assoc (es ++ events) (last ∷ []) rest
    ∙ append_assoc es events (last ∷ rest)
    ∙ append_assoc (left w) (first ∷ []) (events ++ last ∷ rest)
rows_emitted text start (Break ∷ rs) w clean h =
    let event : Marked = (Leaf Rule, (start, start + 3)) in
    let es : List Marked = left w ++ event ∷ [] in
    let rest : List Marked = row_events text (start + 3 + 1) rs in
    ap (λ (u : Writing). left (fold (step text) u (row_nodes (start + 3 + 1) rs))) (broken text w start clean (h.0))
    ∙ rows_emitted text (start + 3 + 1) rs (record { events = es; stack = [] }) clean (h.1)
    ∙ ap (λ (xs : List Marked). xs ++ rest) (append-nil es)
    ∙ append_assoc (left w) (event ∷ []) rest
rows_emitted text start (Filled k l ms ∷ rs) w clean h =
    let end : ℕ = row_end start k l ms in
    let first : Marked = (Start (tag_of k), (start, end)) in
    let last : Marked = (End (end_of (tag_of k)), (start, end)) in
    let o : Open = record { end = end_of (tag_of k); range = (start, end) } in
    let es : List Marked = left w ++ first ∷ [] in
    let events : List Marked = events_of text (content_start k start) None (text_parts l ms) in
    let more : List NodeView = row_nodes (end + 1) rs in
    let rest : List Marked = row_events text (end + 1) rs in
    ap (λ (u : Writing). left (fold (step text) u (viewed (nodes_of 1 (content_start k start) None (text_parts l ms)) ++ more))) (opened text w k l ms start clean (h.0))
    ∙ ap left (fold-append (step text) (at es o) (viewed (nodes_of 1 (content_start k start) None (text_parts l ms))) more)
    ∙ ap (λ (u : Writing). left (fold (step text) u more)) (emit_parts text es o (content_start k start) None (text_parts l ms))
    ∙ rows_emitted text (end + 1) rs (at (es ++ events) o) clean (h.1)
    ∙ append_assoc (es ++ events) (last ∷ []) rest
    ∙ append_assoc es events (last ∷ rest)
    ∙ append_assoc (left w) (first ∷ []) (events ++ last ∷ rest)

-- merging

after_text_before : (t : List ℕ) (k : TagEnd) (es more : List EventView) → after_text t (es ++ End k ∷ more) ≡ after_text t es ++ End k ∷ more
after_text_before t k [] more = refl
after_text_before t k (Leaf (Text u) ∷ es) more = refl
after_text_before t k (e ∷ es) more = refl

pub merged_before : (k : TagEnd) (es more : List EventView) → merged (es ++ End k ∷ more) ≡ merged es ++ End k ∷ merged more
merged_before k [] more = refl
merged_before k (Leaf (Text t) ∷ es) more = ap (after_text t) (merged_before k es more) ∙ after_text_before t k (merged es) (merged more)
merged_before k (e ∷ es) more = ap (λ x. e ∷ x) (merged_before k es more)

unplaced_append : (xs ys : List Marked) → unplaced (xs ++ ys) ≡ unplaced xs ++ unplaced ys
unplaced_append [] ys = refl
unplaced_append (x ∷ xs) ys = ap (λ l. x.0 ∷ l) (unplaced_append xs ys)

-- the document that rows mean
abbrev pub row_said : List Row → List EventView
row_said [] = []
row_said (Blank ∷ rs) = row_said rs
row_said (Code token m info ls ∷ rs) = Start (CodeBlock (Fenced info)) ∷ (merged (code_leaves ls) ++ End end.CodeBlock ∷ row_said rs)
row_said (Break ∷ rs) = Leaf Rule ∷ row_said rs
row_said (Filled k l ms ∷ rs) = Start (tag_of k) ∷ (line_events (meant l) (map meant ms) ++ End (end_of (tag_of k)) ∷ row_said rs)

-- the source says at the places of rows what their parts are
abbrev AreTold : List ℕ → ℕ → List Row → Type 0
AreTold text start [] = Unit {0}
AreTold text start (Blank ∷ rs) = AreTold text (start + 0 + 1) rs
AreTold text start (Code token m info ls ∷ rs) = AreTold text (code_end start token m info ls + 1) rs
AreTold text start (Break ∷ rs) = AreTold text (start + 3 + 1) rs
AreTold text start (Filled k l ms ∷ rs) = AreSourced (source_of text) (content_start k start) None (text_parts l ms) × AllByRecursion IsPlainLine (l ∷ ms) × AreTold text (row_end start k l ms + 1) rs

marks_are : (start : ℕ) (ls : List (List ℕ)) → unplaced (line_marks start ls) ≡ code_leaves ls
marks_are start [] = refl
marks_are start (l ∷ ls) = ap (λ es. Leaf (Text (l ++ 10 ∷ [])) ∷ es) (marks_are (start + length l + 1) ls)

rows_merged : (text : List ℕ) (start : ℕ) (rs : List Row) → AreTold text start rs → merged (unplaced (row_events text start rs)) ≡ row_said rs
rows_merged text start [] h = refl
rows_merged text start (Blank ∷ rs) h = rows_merged text (start + 0 + 1) rs h
rows_merged text start (Code token m info ls ∷ rs) h =
    let stop : ℕ = code_end start token m info ls in
    let marks : List Marked = line_marks (code_body start token m info) ls in
    let rest : List Marked = row_events text (stop + 1) rs in
    let first : EventView = Start (CodeBlock (Fenced info)) in
    let last : EventView = End end.CodeBlock in
    ap (λ es. first ∷ merged es) (unplaced_append marks ((last, (start, stop)) ∷ rest))
    ∙ ap (λ es. first ∷ es) (merged_before end.CodeBlock (unplaced marks) (unplaced rest))
    ∙ ap (λ es. first ∷ (merged es ++ last ∷ merged (unplaced rest))) (marks_are (code_body start token m info) ls)
    ∙ ap (λ es. first ∷ (merged (code_leaves ls) ++ last ∷ es)) (rows_merged text (stop + 1) rs h)
rows_merged text start (Break ∷ rs) h = ap (λ es. Leaf Rule ∷ es) (rows_merged text (start + 3 + 1) rs h)
rows_merged text start (Filled k l ms ∷ rs) h =
    let end : ℕ = row_end start k l ms in
    let events : List Marked = events_of text (content_start k start) None (text_parts l ms) in
    let rest : List Marked = row_events text (end + 1) rs in
    let inner : merged (unplaced events) ≡ line_events (meant l) (map meant ms) = merged_parts text (content_start k start) None (text_parts l ms) (h.0) ∙ merged_lines l ms (h.1) in
    ap (λ es. Start (tag_of k) ∷ merged es) (unplaced_append events ((End (end_of (tag_of k)), (start, end)) ∷ rest))
    ∙ ap (λ es. Start (tag_of k) ∷ es) (merged_before (end_of (tag_of k)) (unplaced events) (unplaced rest))
    ∙ ap (λ es. Start (tag_of k) ∷ (es ++ End (end_of (tag_of k)) ∷ merged (unplaced rest))) inner
    ∙ ap (λ es. Start (tag_of k) ∷ (line_events (meant l) (map meant ms) ++ End (end_of (tag_of k)) ∷ es)) (rows_merged text (end + 1) rs (h.2))

-- what is after parts, byte by byte
abbrev bare : List ℕ → List Part
bare bs = map (λ b. Bare b) bs

spelled_bare : (bs : List ℕ) → spelled (bare bs) ≡ bs
spelled_bare [] = refl
spelled_bare (b ∷ bs) = ap (λ l. b ∷ l) (spelled_bare bs)

spelled_then : (parts : List Part) (bs : List ℕ) → spelled (parts ++ bare bs) ≡ spelled parts ++ bs
spelled_then [] bs = spelled_bare bs
spelled_then (a ∷ parts) bs = ap (λ l. spelled_part a ++ l) (spelled_then parts bs) ∙ sym (append_assoc (spelled_part a) (spelled parts) bs)

sourced_front : (src : ℕ → ℕ → List ℕ) (p : ℕ) (o : Option ℕ) (xs ys : List Part) → AreSourced src p o (xs ++ ys) → AreSourced src p o xs
sourced_front src p o [] ys h = tt
sourced_front src p None (Bare b ∷ xs) ys h = (h.0, sourced_front src (p + 1) (Some p) xs ys (h.1))
sourced_front src p (Some start) (Bare b ∷ xs) ys h = (h.0, sourced_front src (p + 1) (Some start) xs ys (h.1))
sourced_front src p o (Escaped b ∷ xs) ys h = (h.0, sourced_front src (p + 2) (Some (p + 1)) xs ys (h.1))
sourced_front src p o (Referred c bs ∷ xs) ys h = sourced_front src (p + suc (length bs)) None xs ys h
sourced_front src p o (Feed ∷ xs) ys h = sourced_front src (p + 1) None xs ys h

row_told : (text pre rest : List ℕ) (start : ℕ) (k : Kind) (l : List Part) (ms : List (List Part)) → AreClean text → text ≡ pre ++ ((mark_of k ++ spelled (text_parts l ms)) ++ rest) → start ≡ length pre → AreSourced (source_of text) (content_start k start) None (text_parts l ms)
row_told text pre rest start k l ms clean e at =
    let parts : List Part = text_parts l ms in
    let there : text ≡ (pre ++ mark_of k) ++ spelled (parts ++ bare rest) =
    e ∙ ap (λ (ys : List ℕ). pre ++ ys) (append_assoc (mark_of k) (spelled (text_parts l ms)) rest) ∙ sym (append_assoc pre (mark_of k) (spelled (text_parts l ms) ++ rest))
    ∙ ap (λ (ys : List ℕ). (pre ++ mark_of k) ++ ys) (sym (spelled_then parts rest))
    in
    let front : content_start k start ≡ length (pre ++ mark_of k) + 0 = content_front pre start k at ∙ (let q : length (pre ++ mark_of k) ≡ length (pre ++ mark_of k) + 0 = omega arith in q) in
    sourced_front (source_of text) (content_start k start) None (text_parts l ms) (bare rest)
    (sourced_parts text (pre ++ mark_of k) [] None (content_start k start) (parts ++ bare rest) clean there front refl)

rows_told : (text pre : List ℕ) (start : ℕ) (r : Row) (rs : List Row) → AreClean text → text ≡ pre ++ rows_text r rs → start ≡ length pre → AllByRecursion IsRow (r ∷ rs) → AreTold text start (r ∷ rs)
rows_told text pre start Blank [] clean e at h = tt
rows_told text pre start Blank (r ∷ rs) clean e at h = rows_told text (pre ++ ([] ++ 10 ∷ [])) (start + 0 + 1) r rs clean (behind_line text pre [] (rows_text r rs) e) (line_length pre [] start at) (h.1)
rows_told text pre start (Code token m info ls) [] clean e at h = tt
rows_told text pre start (Code token m info ls) (r ∷ rs) clean e at h =
    let bytes : List ℕ = row_bytes (Code token m info ls) in
    rows_told text (pre ++ (bytes ++ 10 ∷ [])) (code_end start token m info ls + 1) r rs clean (behind_line text pre bytes (rows_text r rs) e) (line_length pre bytes start at) (h.1)
rows_told text pre start Break [] clean e at h = tt
rows_told text pre start Break (r ∷ rs) clean e at h = rows_told text (pre ++ (hyphens ++ 10 ∷ [])) (start + 3 + 1) r rs clean (behind_line text pre hyphens (rows_text r rs) e) (line_length pre hyphens start at) (h.1)
rows_told text pre start (Filled k l ms) [] clean e at h =
    (row_told text pre [] start k l ms clean (e ∙ ap (λ (ys : List ℕ). pre ++ ys) (sym (append-nil (mark_of k ++ spelled (text_parts l ms))))) at, (h.0).lines, tt)
rows_told text pre start (Filled k l ms) (r ∷ rs) clean e at h =
    (row_told text pre (10 ∷ rows_text r rs) start k l ms clean e at, (h.0).lines, rows_told text (pre ++ ((mark_of k ++ spelled (text_parts l ms)) ++ 10 ∷ [])) (row_end start k l ms + 1) r rs clean (behind_line text pre (mark_of k ++ spelled (text_parts l ms)) (rows_text r rs) e) (line_length pre (mark_of k ++ spelled (text_parts l ms)) start at) (h.1))

rows_inside : (text pre : List ℕ) (start : ℕ) (r : Row) (rs : List Row) → text ≡ pre ++ rows_text r rs → start ≡ length pre → AreWithin (length text) start (r ∷ rs)
rows_inside text pre start Blank [] e at = tt
rows_inside text pre start Blank (r ∷ rs) e at = rows_inside text (pre ++ ([] ++ 10 ∷ [])) (start + 0 + 1) r rs (behind_line text pre [] (rows_text r rs) e) (line_length pre [] start at)
rows_inside text pre start (Code token m info ls) [] e at =
    let bytes : List ℕ = row_bytes (Code token m info ls) in
    let all : length text ≡ length pre + length bytes = ap length e ∙ length-append pre bytes in
    ((let q : start + length bytes ≤ length text = omega (arith, all, at) in q), tt)
rows_inside text pre start (Code token m info ls) (r ∷ rs) e at =
    let bytes : List ℕ = row_bytes (Code token m info ls) in
    let all : length text ≡ length pre + (length bytes + suc (length (rows_text r rs))) = ap length e ∙ length-append pre (bytes ++ 10 ∷ rows_text r rs) ∙ ap (λ n. length pre + n) (length-append bytes (10 ∷ rows_text r rs)) in
    ((let q : start + length bytes ≤ length text = omega (arith, all, at) in q), rows_inside text (pre ++ (bytes ++ 10 ∷ [])) (code_end start token m info ls + 1) r rs (behind_line text pre bytes (rows_text r rs) e) (line_length pre bytes start at))
rows_inside text pre start Break [] e at =
    let all : length text ≡ length pre + 3 = ap length e ∙ length-append pre hyphens in
    ((let q : start + 3 ≤ length text = omega (arith, all, at) in q), tt)
rows_inside text pre start Break (r ∷ rs) e at =
    let all : length text ≡ length pre + suc (suc (suc (suc (length (rows_text r rs))))) = ap length e ∙ length-append pre (hyphens ++ 10 ∷ rows_text r rs) in
    ((let q : start + 3 ≤ length text = omega (arith, all, at) in q), rows_inside text (pre ++ (hyphens ++ 10 ∷ [])) (start + 3 + 1) r rs (behind_line text pre hyphens (rows_text r rs) e) (line_length pre hyphens start at))
rows_inside text pre start (Filled k l ms) [] e at =
    let all : length text ≡ length pre + length (mark_of k ++ spelled (text_parts l ms)) = ap length e ∙ length-append pre (mark_of k ++ spelled (text_parts l ms)) in
    ((let q : start + length (mark_of k ++ spelled (text_parts l ms)) ≤ length text = omega (arith, all, at) in q), tt)
rows_inside text pre start (Filled k l ms) (r ∷ rs) e at =
    let bytes : List ℕ = mark_of k ++ spelled (text_parts l ms) in
    let all : length text ≡ length pre + (length bytes + suc (length (rows_text r rs))) = ap length e ∙ length-append pre (bytes ++ 10 ∷ rows_text r rs) ∙ ap (λ n. length pre + n) (length-append bytes (10 ∷ rows_text r rs)) in
    ((let q : start + length bytes ≤ length text = omega (arith, all, at) in q), rows_inside text (pre ++ (bytes ++ 10 ∷ [])) (row_end start k l ms + 1) r rs (behind_line text pre bytes (rows_text r rs) e) (line_length pre bytes start at))

-- where rows are found in a text, it is read as the document that they mean, with no labels
pub found_are_read : (syntax : Syntax) (r : Row) (rs : List Row) → AreRows (r ∷ rs) → found_under syntax (rows_text r rs) ≡ found_rows (r ∷ rs) → IsReadAs (reading_of syntax (rows_text r rs)) (row_said (r ∷ rs))
unfolding reading_of
found_are_read syntax r rs h found =
    let text : List ℕ = rows_text r rs in
    let all = all_rows (r ∷ rs) h in
    let clean : AreClean text = rows_clean r rs all in
    let events : emitted text (row_nodes 0 (r ∷ rs)) ≡ row_events text 0 (r ∷ rs) = rows_emitted text 0 (r ∷ rs) (record { events = []; stack = [] }) clean (rows_inside text [] 0 r rs refl refl) in
    record {
      events = ap (λ (f : FoundView). merged (unplaced (emitted text f.nodes))) found
          ∙ ap (λ (es : List Marked). merged (unplaced es)) events
          ∙ rows_merged text 0 (r ∷ rs) (rows_told text [] 0 r rs clean refl refl all);
      defined = ap (λ (f : FoundView). f.defined) found;
      unresolved = ap (λ (f : FoundView). f.unresolved) found;
    }

-- a text of rows is read so without extensions
pub rows_are_read : (r : Row) (rs : List Row) → AreRows (r ∷ rs) → length (rows_text r rs) < 2 ^ 64 → IsReadAs (core_reading (rows_text r rs)) (row_said (r ∷ rs))
rows_are_read r rs h fits = found_are_read CORE r rs h (rows_found r rs h fits)

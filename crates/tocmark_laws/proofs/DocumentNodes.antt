-- The nodes of a text of rows.
use Rattle.std.proofs.Common.{◌≡◌, ℕ, suc, ◌+◌, ◌-◌, ◌^◌, ◌<◌, ◌≤◌, Bool, true, false, ◌==◌, if◌then◌else◌, nat_le, nat_lt, List, [], ◌∷◌, ◌++◌, length, map, drop, refl, ap, sym, subst, ◌∙◌, arith, append_assoc, append-nil, length-append, None, Option}
use Rattle.std.proofs.lemmas.Bool.Decides.{nat_tests}
use Rattle.std.specs.List.{AllByRecursion, fold}
use Rattle.tocmark_read_scan.specs.Basic.{bytes_between}
use Rattle.tocmark_read_scan.specs.Class.{is_in}
use Rattle.tocmark_read_scan.specs.Content as content
use Rattle.tocmark_read_scan.specs.declared.class.Class.TheVariants.{White}
use Rattle.tocmark_read_scan.specs.PlainParts.{Part, spelled, last_byte}
use Rattle.tocmark_read_scan.proofs.PlainContent.{length_places, places_of, put_bytes_plain, take_front, trimmed_feed}
use Rattle.tocmark_read_scan.proofs.PlainPieces.{feed_joined, piece_between, drop_behind, AreNoZeros}
use Rattle.tocmark_read_page.specs.declared.piece.Piece.{Piece}
use Rattle.tocmark_read_page.specs.declared.page.Block.{Block}
use Rattle.tocmark_read_blocks.specs.Blocks.{BlocksView}
use Rattle.tocmark_read_spans.specs.Definitions as defs
use Rattle.tocmark_read_spans.specs.declared.definitions.Entry.{Entry}
use Rattle.tocmark_read_inlines.specs.Inlines as inlines
use Rattle.tocmark_read_inlines.proofs.PlainLeaf.{known}
use Rattle.tocmark_read_inlines.proofs.PlainNeighbours.{plain_parts_are_read}
use Rattle.tocmark_read_inlines.proofs.PlainNodes.{nodes_of}
use Rattle.std.proofs.lemmas.List.{length-replicate}
use Rattle.std.proofs.lemmas.Str.{IsUtf8-from_ascii, utf8_lossy-IsUtf8}
use Rattle.std.specs.Str.{IsUtf8}
use Rattle.std.specs.Str.Lossy.{utf8_lossy}
use Rattle.std.specs.List.{list_any}
use Rattle.tocmark_event.specs.View.{Rule, Text, CodeBlock, Fenced}
use Rattle.tocmark_read_scan.specs.declared.syntax.Names.{Names}
use Rattle.tocmark_read_scan.specs.declared.syntax.Names.TheVariants.{Four}
use Rattle.tocmark_read_page.specs.Pieces.{piece_of}
use Rattle.tocmark_read_tokens.specs.Reference.{unescaped_in}
use Rattle.tocmark_read_tokens.proofs.Unmarked.{left_alone}
use Rattle.tocmark_reader.specs.Words.{cleaned, info_text_in}
use Rattle.tocmark_reader.proofs.Zeros.{without_zeros, line_kept}
use Rattle.tocmark_read_page.specs.declared.page.BlockKind.TheVariants as kind
use Rattle.tocmark_reader.specs.Emitted.{NodeView, Container, Given}
use Rattle.tocmark_reader.specs.Formulas.{keeps_blanks}
use Rattle.tocmark_reader.specs.Pages.{State, start_state, pieces_of, is_unwrapped, block_taken_in, block_step_in, paragraph_taken_in, wrapped, wrapped_in, task_nodes, with_block, leaf_inlines_in, with_lines_of, with_inlines, with_rule, with_fence_in, fence_node_in, lines_nodes, line_nodes, space_nodes, line_item, content_line, block_tag}
use Rattle.tocmark_reader.specs.Reading.{found_in, found_under, FoundView, collected, collected_from, first_entry}
use Rattle.tocmark_reader.proofs.PlacedParts.{parts_inlines_at}
use Rattle.tocmark_reader.proofs.PlainEvents.{viewed}
use Rattle.tocmark_reader.proofs.PlainReading.{IsPrintable, IsPlainLine, spelled_text}
use Rattle.tocmark_reader.specs.PlainTexts.{text_parts}
use Rattle.tocmark_reader.proofs.PlainSources.{IsClean, AreClean, all_behind, all_implied, clean_ascii}
use Rattle.tocmark_read_scan.specs.declared.syntax.TheConstants.{CORE}
use Rattle.tocmark_read_blocks.proofs.PlainFronts.{BeginsPlainly}
use Rattle.tocmark_laws.specs.TextBlocks.{Kind, ParagraphKind, HeadingKind, mark_of, tag_of}
use Rattle.tocmark_laws.proofs.DocumentBlocks.{block, hyphens}
use Rattle.tocmark_laws.proofs.DocumentCode.{IsInfo, split_last, opener, closer, code_kind}
use Rattle.tocmark_laws.proofs.DocumentRows.{Code, IsCode, IsCodeByte, AreCode, ArePrintable, clean_printable, code_body, code_count, code_end, code_joined, code_pieces, code_rest, Row, Blank, Break, Filled, row_bytes, rows_text, IsFilled, IsRow, AreRows, all_rows, block_kind, content_start, row_end, behind, filled_pieces, row_blocks, row_pieces, rows_blocks, counted}
use Rattle.tocmark_laws.proofs.DocumentParagraphs.{content_of_lines, behind_line, line_length}

-- the content of one line that is in a text
content_of_line : (text xs : List ℕ) (start next : ℕ) (body : List ℕ) (y : ℕ) → bytes_between text start (start + length xs) ≡ xs → xs ≡ body ++ y ∷ [] → is_in White y ≡ false → AreNoZeros xs → start + length xs < 2 ^ 64 → content.content_of text (record { start = start; end = start + length xs; next = next } ∷ []) ≡ record { bytes = xs; places = places_of start xs }
unfolding content.content_of content.put_line content.put
content_of_line text xs start next body y e split white zeros fits =
    let end : ℕ = start + length xs in
    let none : content.State = record { bytes = []; places = [] } in
    ap (λ (l : List ℕ). content.trimmed (content.put 10 end next (content.put_bytes start none l))) e
    ∙ ap (λ (t : content.State). content.trimmed (content.put 10 end next t)) (put_bytes_plain start none xs zeros fits)
    ∙ ap (λ (l : List ℕ). content.trimmed (record { bytes = l ++ 10 ∷ []; places = places_of start xs ++ (end, next) ∷ [] })) split
    ∙ trimmed_feed body y (places_of start xs) (end, next) (length_places start xs ∙ ap length split) white
    ∙ ap (λ (l : List ℕ). (let f : content.State = record { bytes = l; places = places_of start xs } in f)) (sym split)

-- how a line ends

abbrev EndsInInk : List ℕ → Type 0
EndsInInk text = (body : List ℕ) × (y : ℕ) × (text ≡ body ++ y ∷ []) × (is_in White y ≡ false)

no_white : (y : ℕ) → IsPrintable y → (y == 32) ≡ false → is_in White y ≡ false
unfolding is_in
no_white y h k = let low : 32 ≤ y = h.low in let tab : (y == 9) ≡ false = grind (arith, nat_tests) in let feed : (y == 10) ≡ false = grind (arith, nat_tests) in rw (k, tab, feed) refl

line_ends : (l : List ℕ) → AllByRecursion IsPrintable l → BeginsPlainly l → (last_byte 10 l == 32) ≡ false → EndsInInk l
line_ends [] p h k = absurd h
line_ends (b ∷ bs) p h k =
    let split = split_last b bs in
    let last : AllByRecursion IsPrintable (last_byte b bs ∷ []) = all_behind IsPrintable (split.0) (last_byte b bs ∷ []) (subst (λ xs. AllByRecursion IsPrintable xs) (split.1) p) in
    (split.0, last_byte b bs, split.1, no_white (last_byte b bs) (last.0) k)

no_zero : (b : ℕ) → IsPrintable b → (b == 0) ≡ false
no_zero b h = let low : 32 ≤ b = h.low in grind (arith, nat_tests)

text_ends : (l : List Part) (ms : List (List Part)) → AllByRecursion IsPlainLine (l ∷ ms) → EndsInInk (feed_joined (spelled l) (map spelled ms))
text_ends l [] h = line_ends (spelled l) (h.0).printable (h.0).begins (h.0).last
text_ends l (m ∷ ms) h =
    let more = text_ends m ms (h.1) in
    (spelled l ++ 10 ∷ more.0, more.1, ap (λ xs. spelled l ++ 10 ∷ xs) (more.2) ∙ sym (append_assoc (spelled l) (10 ∷ more.0) (more.1 ∷ [])), more.3)

no_zeros : (ms : List (List Part)) → AllByRecursion IsPlainLine ms → AllByRecursion AreNoZeros (map spelled ms)
no_zeros [] h = tt
no_zeros (m ∷ ms) h = (all_implied IsPrintable (λ b. (b == 0) ≡ false) (spelled m) no_zero ((h.0).printable), no_zeros ms (h.1))

-- nodes

abbrev pub row_node : ℕ → Kind → List Part → List (List Part) → NodeView
row_node start k l ms = record { depth = 0; item = Container (tag_of k); start = start; end = row_end start k l ms }

abbrev pub code_node : ℕ → ℕ → ℕ → List ℕ → List (List ℕ) → NodeView
code_node start token m info ls = record { depth = 0; item = Container (CodeBlock (Fenced info)); start = start; end = code_end start token m info ls }

abbrev pub text_node : ℕ → List ℕ → NodeView
text_node start l = record { depth = 1; item = Given (Text (l ++ 10 ∷ [])); start = start; end = start + length l + 1 }

abbrev pub text_nodes : ℕ → List (List ℕ) → List NodeView
text_nodes start [] = []
text_nodes start (l ∷ ls) = text_node start l ∷ text_nodes (start + length l + 1) ls

abbrev pub break_node : ℕ → NodeView
break_node start = record { depth = 0; item = Given Rule; start = start; end = start + 3 }

abbrev pub row_nodes : ℕ → List Row → List NodeView
row_nodes start [] = []
row_nodes start (Blank ∷ rs) = row_nodes (start + 0 + 1) rs
row_nodes start (Code token m info ls ∷ rs) = code_node start token m info ls ∷ (text_nodes (code_body start token m info) ls ++ row_nodes (code_end start token m info ls + 1) rs)
row_nodes start (Break ∷ rs) = break_node start ∷ row_nodes (start + 3 + 1) rs
row_nodes start (Filled k l ms ∷ rs) = row_node start k l ms ∷ (viewed (nodes_of 1 (content_start k start) None (text_parts l ms)) ++ row_nodes (row_end start k l ms + 1) rs)

abbrev none : inlines.State
none = record { nodes = []; targets = []; texts = []; missed = [] }

abbrev at : List NodeView → State
at ns = record { nodes = ns; inlines = none }

abbrev find : List ℕ → Option Entry
find = first_entry false [] []

pub some_pieces : (all ps new qs : List Piece) (n c : ℕ) → all ≡ ps ++ (new ++ qs) → n ≡ length ps → length new ≡ c → pieces_of all n (n + c) ≡ new
some_pieces all ps new qs n c e k count =
    let long : length all ≡ length ps + (length new + length qs) = ap length e ∙ length-append ps (new ++ qs) ∙ ap (λ m. length ps + m) (length-append new qs) in
    let order : nat_le n (n + c) ≡ true = grind (arith, nat_tests) in
    let fits : nat_le (n + c) (length all) ≡ true = grind (arith, long, k, count, nat_tests) in
    let width : n + c - n ≡ length new = omega (arith, count) in
    let behind : drop n all ≡ new ++ qs = ap (λ m. drop m all) k ∙ ap (drop (length ps)) e ∙ drop_behind ps (new ++ qs) in
    rw (order, fits, width, behind) (take_front new qs)

taken_wrapped : (text : List ℕ) (blocks : List Block) (all new : List Piece) (k : Kind) (start end n c : ℕ) (s : State) → pieces_of all n (n + suc c) ≡ new → block_step_in CORE text find blocks all s (block (block_kind k) start end n (n + suc c)) ≡ wrapped text find new (block (block_kind k) start end n (n + suc c)) s
unfolding is_unwrapped block_taken_in paragraph_taken_in
taken_wrapped text blocks all new ParagraphKind start end n c s e =
    let some : nat_le (n + suc c) n ≡ false = grind (arith, nat_tests) in
    rw (e, some) refl
taken_wrapped text blocks all new (HeadingKind l) start end n c s e = rw e refl

kind_tag : (text : List ℕ) (k : Kind) → block_tag text (block_kind k) ≡ tag_of k
unfolding block_tag
kind_tag text ParagraphKind = refl
kind_tag text (HeadingKind l) = refl

-- a leaf with these inlines
abbrev with_found : List NodeView → Kind → ℕ → ℕ → inlines.State → State
with_found ns k start end found = with_inlines found (at ((ns ++ record { depth = 0; item = Container (tag_of k); start = start; end = end } ∷ []) ++ []))

wrapped_found : (text : List ℕ) (k : Kind) (start end n m : ℕ) (new : List Piece) (ns : List NodeView) → wrapped text find new (block (block_kind k) start end n m) (at ns) ≡ with_found ns k start end (inlines.read_inlines (content.content_of text (map content_line new)) 1 find none)
unfolding wrapped_in with_block task_nodes leaf_inlines_in with_lines_of keeps_blanks
wrapped_found text k start end n m new ns =
    ap (λ t. with_inlines (inlines.read_inlines (content.content_of text (map content_line new)) 1 find none) (at ((ns ++ record { depth = 0; item = Container t; start = start; end = end } ∷ []) ++ []))) (kind_tag text k)

-- where the text of a row is
pub content_front : (pre : List ℕ) (start : ℕ) (k : Kind) → start ≡ length pre → content_start k start ≡ length (pre ++ mark_of k)
content_front pre start ParagraphKind e = e ∙ ap length (sym (append-nil pre))
content_front pre start (HeadingKind l) e = ap (λ n. n + length (mark_of (HeadingKind l))) e ∙ sym (length-append pre (mark_of (HeadingKind l)))

-- the content of a row
row_content : (text pre rest : List ℕ) (start : ℕ) (k : Kind) (l : List Part) (ms : List (List Part)) (rs : List Row) → text ≡ pre ++ (row_bytes (Filled k l ms) ++ rest) → start ≡ length pre → length text < 2 ^ 64 → IsFilled k l ms → content.content_of text (map content_line (filled_pieces start k l ms rs)) ≡ record { bytes = spelled (text_parts l ms); places = places_of (content_start k start) (spelled (text_parts l ms)) }
unfolding content_line
row_content text pre rest start ParagraphKind l ms rs e at fits h =
    let there : text ≡ pre ++ (feed_joined (spelled l) (map spelled ms) ++ rest) = e ∙ ap (λ (zs : List ℕ). pre ++ (zs ++ rest)) (spelled_text l ms) in
    let ends = text_ends l ms h.lines in
    content_of_lines text pre rest start (spelled l) (map spelled ms) (behind rs) (ends.0) (ends.1) there at (ends.2) (ends.3) (no_zeros (l ∷ ms) h.lines) fits
    ∙ ap (λ (xs : List ℕ). (let f : content.State = record { bytes = xs; places = places_of start xs } in f)) (sym (spelled_text l ms))
row_content text pre rest start (HeadingKind level) l (m ∷ ms) rs e at fits h = absurd h.ends
row_content text pre rest start (HeadingKind level) l [] rs e at fits h =
    let k : Kind = HeadingKind level in
    let xs : List ℕ = spelled l in
    let there : text ≡ (pre ++ mark_of k) ++ (xs ++ rest) = e ∙ ap (λ (ys : List ℕ). pre ++ ys) (append_assoc (mark_of k) xs rest) ∙ sym (append_assoc pre (mark_of k) (xs ++ rest)) in
    let front : content_start k start ≡ length (pre ++ mark_of k) = content_front pre start k at in
    let ends = text_ends l [] h.lines in
    let all : length text ≡ length (pre ++ mark_of k) + (length xs + length rest) = ap length there ∙ length-append (pre ++ mark_of k) (xs ++ rest) ∙ ap (λ n. length (pre ++ mark_of k) + n) (length-append xs rest) in
    let width : length (mark_of k ++ xs) ≡ length (mark_of k) + length xs = length-append (mark_of k) xs in
    let place : row_end start k l [] ≡ content_start k start + length xs = omega (arith, width) in
    ap (λ e. content.content_of text (record { start = content_start k start; end = e; next = row_end start k l [] } ∷ [])) place
    ∙ content_of_line text xs (content_start k start) (row_end start k l []) (ends.0) (ends.1) (piece_between text (pre ++ mark_of k) xs rest (content_start k start) (content_start k start + length xs) there front (ap (λ n. n + length xs) front)) (ends.2) (ends.3) (((no_zeros (l ∷ []) h.lines).0)) (omega (arith, all, front, fits))

filled_count : (start : ℕ) (k : Kind) (l : List Part) (ms : List (List Part)) (rs : List Row) → IsFilled k l ms → length (filled_pieces start k l ms rs) ≡ suc (length ms)
filled_count start ParagraphKind l ms rs h = counted start l ms (behind rs)
filled_count start (HeadingKind level) l [] rs h = refl
filled_count start (HeadingKind level) l (m ∷ ms) rs h = absurd h.ends

row_taken : (text pre rest : List ℕ) (start : ℕ) (k : Kind) (l : List Part) (ms : List (List Part)) (rs : List Row) (blocks : List Block) (all ps : List Piece) (n : ℕ) (ns : List NodeView) → text ≡ pre ++ (row_bytes (Filled k l ms) ++ rest) → start ≡ length pre → length text < 2 ^ 64 → IsFilled k l ms → all ≡ ps ++ row_pieces start (Filled k l ms ∷ rs) → n ≡ length ps →
    block_step_in CORE text find blocks all (at ns) (block (block_kind k) start (row_end start k l ms) n (n + suc (length ms))) ≡ at (ns ++ (row_node start k l ms ∷ viewed (nodes_of 1 (content_start k start) None (text_parts l ms))))
row_taken text pre rest start k l ms rs blocks all ps n ns e front fits h pieces count =
    let new : List Piece = filled_pieces start k l ms rs in
    let parts : List Part = text_parts l ms in
    let xs : List ℕ = spelled parts in
    let end : ℕ = row_end start k l ms in
    let width : length text ≡ length pre + (length (mark_of k ++ xs) + length rest) = ap length e ∙ length-append pre ((mark_of k ++ xs) ++ rest) ∙ ap (λ n. length pre + n) (length-append (mark_of k ++ xs) rest) in
    let inner : length xs < 2 ^ 64 = omega (arith, width, length-append (mark_of k) xs, fits) in
    taken_wrapped text blocks all new k start end n (length ms) (at ns) (some_pieces all ps new (row_pieces (end + 1) rs) n (suc (length ms)) pieces count (filled_count start k l ms rs h))
    ∙ wrapped_found text k start end n (n + suc (length ms)) new ns
    ∙ ap (λ (c : content.State). with_found ns k start end (inlines.read_inlines c 1 find none)) (row_content text pre rest start k l ms rs e front fits h)
    ∙ ap (with_found ns k start end) (parts_inlines_at parts (content_start k start) 1 find none (plain_parts_are_read xs [] (known xs) find 0 10 parts refl refl inner refl h.plain) inner)
    ∙ ap (λ (ms : List NodeView). at (ms ++ viewed (nodes_of 1 (content_start k start) None parts))) (append-nil (ns ++ row_node start k l ms ∷ []))
    ∙ ap at (append_assoc ns (row_node start k l ms ∷ []) (viewed (nodes_of 1 (content_start k start) None parts)))

break_taken : (text : List ℕ) (start : ℕ) (blocks : List Block) (all : List Piece) (n : ℕ) (ns : List NodeView) → block_step_in CORE text find blocks all (at ns) (block kind.Rule start (start + 3) n n) ≡ at (ns ++ break_node start ∷ [])
unfolding block_taken_in with_rule
break_taken text start blocks all n ns = refl

-- code

none_any : (token : ℕ) (info : List ℕ) → AllByRecursion (IsInfo token) info → (list_any (λ b. b == 92) info ≡ false) × (list_any (λ b. b == 38) info ≡ false)
none_any token [] h = (refl, refl)
none_any token (b ∷ bs) h = let more = none_any token bs (h.1) in (rw (h.0).back (more.0), rw (h.0).amp (more.1))

clean_zeros : (xs : List ℕ) → AreClean xs → list_any (λ b. b == 0) xs ≡ false
clean_zeros [] h = refl
clean_zeros (x ∷ xs) h = rw (h.0).some (clean_zeros xs (h.1))

clean_code : (xs : List ℕ) → AreCode xs → AreClean xs
clean_code xs h = all_implied IsCodeByte IsClean xs (λ b h. h.clean) h

zeros_none : (xs : List ℕ) → ArePrintable xs → list_any (λ b. b == 0) xs ≡ false
zeros_none [] h = refl
zeros_none (x ∷ xs) h = rw (no_zero x (h.0)) (zeros_none xs (h.1))

printable_utf8 : (xs : List ℕ) → ArePrintable xs → IsUtf8 xs
printable_utf8 xs h = IsUtf8-from_ascii xs (clean_ascii xs (all_implied IsPrintable IsClean xs clean_printable h))

pub info_kept : (names : Names) (token : ℕ) (info : List ℕ) → ArePrintable info → AllByRecursion (IsInfo token) info → length info < 2 ^ 64 → info_text_in names info ≡ info
unfolding info_text_in
info_kept names token info h i fits =
    let none = none_any token info i in
    ap (λ (xs : List ℕ). utf8_lossy (unescaped_in names xs)) (without_zeros info (zeros_none info h))
    ∙ ap utf8_lossy (left_alone names info (none.0) (none.1) fits)
    ∙ utf8_lossy-IsUtf8 info (printable_utf8 info h)

line_noded : (text l : List ℕ) (start : ℕ) → bytes_between text start (start + length l) ≡ l → AreCode l → line_nodes text false 1 (piece_of 0 start (start + length l) (start + length l + 1)) ≡ text_node start l ∷ []
unfolding line_nodes space_nodes line_item
line_noded text l start e h =
    let end : ℕ = start + length l in
    let order : nat_lt start (end + 1) ≡ true = grind (arith, nat_tests) in
    let feeds : nat_lt end (end + 1) ≡ true = grind (arith, nat_tests) in
    let made : Bool → Bool → List ℕ → List NodeView = λ o f bytes. if o then record { depth = 1; item = Given (Text (cleaned bytes f)); start = start; end = end + 1 } ∷ [] else [] in
    let node : List ℕ → List NodeView = λ words. record { depth = 1; item = Given (Text words); start = start; end = end + 1 } ∷ [] in
    ap (λ o. made o (nat_lt end (end + 1)) (bytes_between text start end)) order
    ∙ ap (λ f. made true f (bytes_between text start end)) feeds
    ∙ ap (made true true) e
    ∙ ap node (line_kept l (IsUtf8-from_ascii l (clean_ascii l (clean_code l h))) (clean_zeros l (clean_code l h)))

pub lines_noded : (text pre rest : List ℕ) (start token m : ℕ) (ls : List (List ℕ)) → text ≡ pre ++ (code_rest token m ls ++ rest) → start ≡ length pre → AllByRecursion AreCode ls → lines_nodes text false 1 (code_pieces start ls) ≡ text_nodes start ls
lines_noded text pre rest start token m [] e front h = refl
lines_noded text pre rest start token m (l ∷ ls) e front h =
    let next : ℕ = start + length l + 1 in
    let more : List ℕ = code_rest token m ls in
    let here : text ≡ pre ++ (l ++ 10 ∷ (more ++ rest)) = e ∙ ap (λ (xs : List ℕ). pre ++ xs) (append_assoc l (10 ∷ more) rest) in
    ap (λ (ns : List NodeView). ns ++ lines_nodes text false 1 (code_pieces next ls)) (line_noded text l start (piece_between text pre l (10 ∷ (more ++ rest)) start (start + length l) here front (ap (λ i. i + length l) front)) (h.0))
    ∙ ap (λ (ns : List NodeView). text_node start l ∷ ns) (lines_noded text (pre ++ (l ++ 10 ∷ [])) rest next token m ls (behind_line text pre l (more ++ rest) here) (line_length pre l start front) (h.1))

code_noded : (text pre rest : List ℕ) (start token m : ℕ) (info : List ℕ) (ls : List (List ℕ)) (rs : List Row) (blocks : List Block) (all ps : List Piece) (n : ℕ) (ns : List NodeView) → text ≡ pre ++ (row_bytes (Code token m info ls) ++ rest) → start ≡ length pre → length text < 2 ^ 64 → IsCode token m info ls → all ≡ ps ++ row_pieces start (Code token m info ls ∷ rs) → n ≡ length ps →
    block_step_in CORE text find blocks all (at ns) (block (code_kind start token m info) start (code_end start token m info ls) n (n + length ls)) ≡ at (ns ++ (code_node start token m info ls ∷ text_nodes (code_body start token m info) ls))
unfolding block_taken_in with_fence_in fence_node_in
code_noded text pre rest start token m info ls rs blocks all ps n ns e front fits h pieces count =
    let first : List ℕ = opener token m info in
    let last : List ℕ = closer token m in
    let more : List ℕ = code_rest token m ls in
    let stop : ℕ = code_end start token m info ls in
    let body : ℕ = code_body start token m info in
    let new : List Piece = code_pieces body ls in
    let node : NodeView = code_node start token m info ls in
    let bytes : row_bytes (Code token m info ls) ≡ first ++ 10 ∷ more = code_joined token m first ls in
    let here : text ≡ pre ++ (first ++ 10 ∷ (more ++ rest)) = e ∙ ap (λ (xs : List ℕ). pre ++ (xs ++ rest)) bytes ∙ ap (λ (xs : List ℕ). pre ++ xs) (append_assoc first (10 ∷ more) rest) in
    let there : text ≡ (pre ++ last) ++ (info ++ 10 ∷ (more ++ rest)) = here ∙ ap (λ (xs : List ℕ). pre ++ xs) (append_assoc last info (10 ∷ (more ++ rest))) ∙ sym (append_assoc pre last (info ++ 10 ∷ (more ++ rest))) in
    let tokens : length last ≡ suc m = length-replicate (suc m) token in
    let from : start + suc m ≡ length (pre ++ last) = omega (arith, front, tokens, length-append pre last) in
    let to : start + length first ≡ length (pre ++ last) + length info = omega (arith, front, tokens, length-append pre last, length-append last info) in
    let all_width : length text ≡ length (pre ++ last) + length (info ++ 10 ∷ (more ++ rest)) = ap length there ∙ length-append (pre ++ last) (info ++ 10 ∷ (more ++ rest)) in
    let small : length info < 2 ^ 64 = omega (arith, all_width, length-append info (10 ∷ (more ++ rest)), fits) in
    let made : List ℕ → List Piece → State = λ i lines. at ((ns ++ record { depth = 0; item = Container (CodeBlock (Fenced i)); start = start; end = stop } ∷ []) ++ lines_nodes text false 1 lines) in
    ap (made (info_text_in Four (bytes_between text (start + suc m) (start + length first)))) (some_pieces all ps new (row_pieces (stop + 1) rs) n (length ls) pieces count (code_count body ls))
    ∙ ap (λ (i : List ℕ). made (info_text_in Four i) new) (piece_between text (pre ++ last) info (10 ∷ (more ++ rest)) (start + suc m) (start + length first) there from to)
    ∙ ap (λ (i : List ℕ). made i new) (info_kept Four token info h.info_printable h.info_is small)
    ∙ ap (λ (xs : List NodeView). at ((ns ++ node ∷ []) ++ xs)) (lines_noded text (pre ++ (first ++ 10 ∷ [])) rest body token m ls (behind_line text pre first (more ++ rest) here) (line_length pre first start front) h.lines)
    ∙ ap at (append_assoc ns (node ∷ []) (text_nodes body ls))

pub rows_nodes : (text pre : List ℕ) (start : ℕ) (r : Row) (rs : List Row) (blocks : List Block) (all ps : List Piece) (n : ℕ) (ns : List NodeView) → text ≡ pre ++ rows_text r rs → start ≡ length pre → length text < 2 ^ 64 → AllByRecursion IsRow (r ∷ rs) → all ≡ ps ++ row_pieces start (r ∷ rs) → n ≡ length ps → fold (block_step_in CORE text find blocks all) (at ns) (row_blocks n start (r ∷ rs)) ≡ at (ns ++ row_nodes start (r ∷ rs))
rows_nodes text pre start Blank [] blocks all ps n ns e front fits h pieces count = ap at (sym (append-nil ns))
rows_nodes text pre start Blank (r ∷ rs) blocks all ps n ns e front fits h pieces count =
    rows_nodes text (pre ++ ([] ++ 10 ∷ [])) (start + 0 + 1) r rs blocks all ps n ns (behind_line text pre [] (rows_text r rs) e) (line_length pre [] start front) fits (h.1) pieces count
rows_nodes text pre start (Code token m info ls) [] blocks all ps n ns e front fits h pieces count =
    let nodes : List NodeView = text_nodes (code_body start token m info) ls in
    code_noded text pre [] start token m info ls [] blocks all ps n ns (e ∙ ap (λ (ys : List ℕ). pre ++ ys) (sym (append-nil (row_bytes (Code token m info ls))))) front fits (h.0) pieces count
    ∙ ap (λ (zs : List NodeView). at (ns ++ code_node start token m info ls ∷ zs)) (sym (append-nil nodes))
rows_nodes text pre start (Code token m info ls) (r ∷ rs) blocks all ps n ns e front fits h pieces count =
    let bytes : List ℕ = row_bytes (Code token m info ls) in
    let body : ℕ = code_body start token m info in
    let new : List Piece = code_pieces body ls in
    let next : ℕ = code_end start token m info ls + 1 in
    let more : List NodeView = code_node start token m info ls ∷ text_nodes body ls in
    let longer : n + length ls ≡ length (ps ++ new) = ap (λ i. i + length ls) count ∙ ap (λ i. length ps + i) (sym (code_count body ls)) ∙ sym (length-append ps new) in
    ap (λ s. fold (block_step_in CORE text find blocks all) s (row_blocks (n + length ls) next (r ∷ rs))) (code_noded text pre (10 ∷ rows_text r rs) start token m info ls (r ∷ rs) blocks all ps n ns e front fits (h.0) pieces count)
    ∙ rows_nodes text (pre ++ (bytes ++ 10 ∷ [])) next r rs blocks all (ps ++ new) (n + length ls) (ns ++ more) (behind_line text pre bytes (rows_text r rs) e) (line_length pre bytes start front) fits (h.1) (pieces ∙ sym (append_assoc ps new (row_pieces next (r ∷ rs)))) longer
    ∙ ap at (append_assoc ns more (row_nodes next (r ∷ rs)))
rows_nodes text pre start Break [] blocks all ps n ns e front fits h pieces count = break_taken text start blocks all n ns
rows_nodes text pre start Break (r ∷ rs) blocks all ps n ns e front fits h pieces count =
    let next : ℕ = start + 3 + 1 in
    ap (λ s. fold (block_step_in CORE text find blocks all) s (row_blocks n next (r ∷ rs))) (break_taken text start blocks all n ns)
    ∙ rows_nodes text (pre ++ (hyphens ++ 10 ∷ [])) next r rs blocks all ps n (ns ++ break_node start ∷ []) (behind_line text pre hyphens (rows_text r rs) e) (line_length pre hyphens start front) fits (h.1) pieces count
    ∙ ap at (append_assoc ns (break_node start ∷ []) (row_nodes next (r ∷ rs)))
rows_nodes text pre start (Filled k l ms) [] blocks all ps n ns e front fits h pieces count =
    row_taken text pre [] start k l ms [] blocks all ps n ns (e ∙ ap (λ (ys : List ℕ). pre ++ ys) (sym (append-nil (mark_of k ++ spelled (text_parts l ms))))) front fits (h.0) pieces count
    ∙ ap (λ (zs : List NodeView). at (ns ++ row_node start k l ms ∷ zs)) (sym (append-nil (viewed (nodes_of 1 (content_start k start) None (text_parts l ms)))))
rows_nodes text pre start (Filled k l ms) (r ∷ rs) blocks all ps n ns e front fits h pieces count =
    let bytes : List ℕ = mark_of k ++ spelled (text_parts l ms) in
    let new : List Piece = filled_pieces start k l ms (r ∷ rs) in
    let next : ℕ = row_end start k l ms + 1 in
    let more : List NodeView = row_node start k l ms ∷ viewed (nodes_of 1 (content_start k start) None (text_parts l ms)) in
    let longer : n + suc (length ms) ≡ length (ps ++ new) = ap (λ m. m + suc (length ms)) count ∙ ap (λ m. length ps + m) (sym (filled_count start k l ms (r ∷ rs) (h.0))) ∙ sym (length-append ps new) in
    ap (λ s. fold (block_step_in CORE text find blocks all) s (row_blocks (n + suc (length ms)) next (r ∷ rs))) (row_taken text pre (10 ∷ rows_text r rs) start k l ms (r ∷ rs) blocks all ps n ns e front fits (h.0) pieces count)
    ∙ rows_nodes text (pre ++ (bytes ++ 10 ∷ [])) next r rs blocks all (ps ++ new) (n + suc (length ms)) (ns ++ more) (behind_line text pre bytes (rows_text r rs) e) (line_length pre bytes start front) fits (h.1) (pieces ∙ sym (append_assoc ps new (row_pieces next (r ∷ rs)))) longer
    ∙ ap at (append_assoc ns more (row_nodes next (r ∷ rs)))

-- what is found in a text of rows
abbrev pub found_rows : List Row → FoundView
found_rows rs = record { nodes = row_nodes 0 rs; defined = []; unresolved = [] }

abbrev found_from : List ℕ → BlocksView → FoundView
found_from text blocks =
    let c = collected blocks.definitions in
    let page = fold (block_step_in CORE text (first_entry false c.keys c.entries) blocks.blocks blocks.pieces) (start_state c.texts) blocks.blocks in
    record {
      nodes = page.nodes;
      defined = defs.distinct_labels c.texts c.labels;
      unresolved = defs.distinct_labels page.inlines.texts page.inlines.missed;
    }

pub rows_found : (r : Row) (rs : List Row) → AreRows (r ∷ rs) → length (rows_text r rs) < 2 ^ 64 → found_in (rows_text r rs) ≡ found_rows (r ∷ rs)
unfolding found_under collected_from
rows_found r rs h fits =
    let text : List ℕ = rows_text r rs in
    let all : List Piece = row_pieces 0 (r ∷ rs) in
    let blocks : List Block = row_blocks 0 0 (r ∷ rs) in
    ap (found_from text) (rows_blocks r rs h fits)
    ∙ ap (let g : State → FoundView = λ page. record { nodes = page.nodes; defined = []; unresolved = defs.distinct_labels page.inlines.texts page.inlines.missed } in g)
    (rows_nodes text [] 0 r rs blocks all [] 0 [] refl refl fits (all_rows (r ∷ rs) h) refl refl)

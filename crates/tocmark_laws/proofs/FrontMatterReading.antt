-- Front matter of fields is read as metadata with their text.
use Rattle.std.proofs.Common.{◌≡◌, ℕ, ◌+◌, ◌^◌, ◌<◌, ◌≤◌, Bool, true, false, ◌==◌, if◌then◌else◌, nat_lt, List, [], ◌∷◌, ◌++◌, length, flat_map, codes, refl, ap, sym, subst, ◌∙◌, arith, append_assoc, append-nil, length-append, true≢false}
use Rattle.std.proofs.lemmas.Bool.Decides.{nat_tests}
use Rattle.std.proofs.lemmas.Str.{IsUtf8-from_ascii, utf8_lossy-IsUtf8}
use Rattle.std.specs.Char.{char_set_contains}
use Rattle.std.specs.List.{AllByRecursion, fold, list_all}
use Rattle.std.specs.Prelude.{not}
use Rattle.std.specs.Str.Lossy.{utf8_lossy}
use Rattle.tocmark_event.specs.Merged.{merged, after_text}
use Rattle.tocmark_event.specs.View.{EventView, Start, End, Leaf, Text, MetadataBlock}
use Rattle.tocmark_event.specs.declared.event.MetadataBlockKind.{MetadataBlockKind}
use Rattle.tocmark_event.specs.declared.event.MetadataBlockKind.TheVariants.{YamlStyle, PlusesStyle}
use Rattle.tocmark_event.specs.declared.event.TagEnd.{TagEnd}
use Rattle.tocmark_event.specs.declared.event.TagEnd.TheVariants as end
use Rattle.tocmark_read_scan.specs.Basic.{bytes_between}
use Rattle.tocmark_read_scan.specs.declared.syntax.Syntax.{Syntax}
use Rattle.tocmark_read_scan.proofs.PlainPieces.{piece_between}
use Rattle.tocmark_read_scan.proofs.PlainTests.{both_true, is_not, differs, all_from}
use Rattle.tocmark_read_page.specs.Definitions.{replaced}
use Rattle.tocmark_read_page.specs.Pieces.{piece_of}
use Rattle.tocmark_read_page.specs.declared.piece.Piece.{Piece}
use Rattle.tocmark_read_blocks.specs.Blocks.{blocks_in}
use Rattle.tocmark_read_blocks.proofs.PlainLines.{IsWithin}
use Rattle.tocmark_read_spans.specs.Definitions as defs
use Rattle.tocmark_reader.specs.Emitted.{NodeView, Container, Given, Writing, step, closed, emitted}
use Rattle.tocmark_reader.specs.Pages.{pieces_of, is_unwrapped, block_taken_in, with_lines, block_tag, space_nodes, line_item, line_nodes, lines_nodes, node}
use Rattle.tocmark_reader.specs.PlainTexts.{IsReadAs}
use Rattle.tocmark_reader.specs.Range.{snapped}
use Rattle.tocmark_reader.specs.Reading.{FoundView, collected_in, collected_from, found_under, noted, noted_as, reading_of}
use Rattle.tocmark_reader.specs.Words.{cleaned}
use Rattle.tocmark_reader.specs.declared.emit.Open.{Open}
use Rattle.tocmark_reader.proofs.PlainEvents.{Marked, at, unplaced}
use Rattle.tocmark_reader.proofs.PlainSources.{IsClean, AreClean, clean_ascii, all_implied}
use Rattle.tocmark_reader.specs.PlainTexts.{is_printable}
use Rattle.tocmark_reader.proofs.PlainReading.{IsPrintable}
use Rattle.tocmark_reader.proofs.PlainTests.{printable_from}
use Rattle.tocmark_laws.specs.Extensions.{lined, fence_of, has_metadata, is_field, front_matter, metadata_events}
use Rattle.tocmark_laws.proofs.ExtensionParagraphs.{found_with, found_from, whole_pieces, within_byte, clean_byte, clean_feed, no_returns}
use Rattle.tocmark_laws.proofs.FrontMatterBlocks.{IsInside, IsFieldText, field_pieces, metadata_block, fenced_is, three_bytes, front_matter_blocks}

-- ---- what is found

none_collected : (syntax : Syntax) (text : List ℕ) (k : MetadataBlockKind) (n : ℕ) (pieces : List Piece) → collected_from syntax text (metadata_block k n pieces) ≡ defs.collected_none
unfolding collected_from noted_as
none_collected syntax text k n pieces = by_test syntax.footnotes
  where
    by_test : (t : Bool) → (if t then noted text (metadata_block k n pieces).blocks (collected_in syntax.names []) else collected_in syntax.names []) ≡ defs.collected_none
    by_test true = refl
    by_test false = refl

-- metadata with lines
abbrev metadata_found : List ℕ → MetadataBlockKind → ℕ → List Piece → FoundView
metadata_found text k n pieces = record { nodes = node 0 (Container (MetadataBlock k)) 0 n ∷ lines_nodes text false 1 pieces; defined = []; unresolved = [] }

found_metadata : (syntax : Syntax) (text : List ℕ) (k : MetadataBlockKind) (n : ℕ) (pieces : List Piece) → found_with syntax text (metadata_block k n pieces) defs.collected_none ≡ metadata_found text k n (pieces_of pieces 0 (length pieces))
unfolding is_unwrapped block_taken_in with_lines block_tag
found_metadata syntax text k n pieces = refl

-- ---- events

clean_fed : (xs : List ℕ) → AreClean xs → AreClean (xs ++ 10 ∷ [])
clean_fed [] h = (clean_feed, tt)
clean_fed (x ∷ xs) h = (h.0, clean_fed xs (h.1))

replaced_clean : (xs : List ℕ) → AreClean xs → flat_map replaced xs ≡ xs
unfolding replaced
replaced_clean [] h = refl
replaced_clean (x ∷ xs) h = rw (h.0).some (ap (λ (l : List ℕ). x ∷ l) (replaced_clean xs (h.1)))

cleaned_fed : (xs : List ℕ) → AreClean xs → cleaned xs true ≡ xs ++ 10 ∷ []
unfolding cleaned
cleaned_fed xs h =
    ap (λ (l : List ℕ). utf8_lossy (l ++ 10 ∷ [])) (replaced_clean xs h)
    ∙ utf8_lossy-IsUtf8 (xs ++ 10 ∷ []) (IsUtf8-from_ascii (xs ++ 10 ∷ []) (clean_ascii (xs ++ 10 ∷ []) (clean_fed xs h)))

-- a line as a node
abbrev field_node : ℕ → List ℕ → NodeView
field_node start l = node 1 (Given (Text (l ++ 10 ∷ []))) start (start + length l + 1)

field_nodes_one : (text l : List ℕ) (start : ℕ) → bytes_between text start (start + length l) ≡ l → AreClean l → line_nodes text false 1 (piece_of 0 start (start + length l) (start + length l + 1)) ≡ field_node start l ∷ []
unfolding line_nodes space_nodes line_item
field_nodes_one text l start e clean =
    let some : nat_lt start (start + length l + 1) ≡ true = grind (arith, nat_tests) in
    let fed : nat_lt (start + length l) (start + length l + 1) ≡ true = grind (arith, nat_tests) in
    rw (some, fed) (ap (λ (xs : List ℕ). node 1 (Given (Text (cleaned xs true))) start (start + length l + 1) ∷ []) e ∙ ap (λ (xs : List ℕ). node 1 (Given (Text xs)) start (start + length l + 1) ∷ []) (cleaned_fed l clean))

-- the nodes of lines
abbrev field_nodes : ℕ → List ℕ → List (List ℕ) → List NodeView
field_nodes start l [] = field_node start l ∷ []
field_nodes start l (m ∷ ms) = field_node start l ∷ field_nodes (start + length l + 1) m ms

nodes_of_fields : (text pre rest : List ℕ) (start : ℕ) (l : List ℕ) (ms : List (List ℕ)) → text ≡ pre ++ (lined l ms ++ rest) → start ≡ length pre → AllByRecursion AreClean (l ∷ ms) → lines_nodes text false 1 (field_pieces start l ms) ≡ field_nodes start l ms
nodes_of_fields text pre rest start l [] e at h =
    ap (λ (ns : List NodeView). ns ++ []) (field_nodes_one text l start (piece_between text pre l rest start (start + length l) e at (ap (λ n. n + length l) at)) (h.0))
nodes_of_fields text pre rest start l (m ∷ ms) e at h =
    let next : ℕ = start + length l + 1 in
    let more : List ℕ = lined m ms ++ rest in
    let apart : text ≡ pre ++ (l ++ 10 ∷ more) = e ∙ ap (λ (xs : List ℕ). pre ++ xs) (append_assoc l (10 ∷ lined m ms) rest) in
    let there : text ≡ (pre ++ (l ++ 10 ∷ [])) ++ more = apart ∙ ap (λ (xs : List ℕ). pre ++ xs) (sym (append_assoc l (10 ∷ []) more)) ∙ sym (append_assoc pre (l ++ 10 ∷ []) more) in
    let longer : next ≡ length (pre ++ (l ++ 10 ∷ [])) = ap (λ n. n + length l + 1) at ∙ (let q : length pre + length l + 1 ≡ length (pre ++ (l ++ 10 ∷ [])) = grind (arith, length-append) in q) in
    ap (λ (ns : List NodeView). ns ++ lines_nodes text false 1 (field_pieces next m ms)) (field_nodes_one text l start (piece_between text pre l (10 ∷ more) start (start + length l) apart at (ap (λ n. n + length l) at)) (h.0))
    ∙ ap (λ (ns : List NodeView). field_node start l ∷ ns) (nodes_of_fields text (pre ++ (l ++ 10 ∷ [])) rest next m ms there longer (h.1))

-- a line as an event
abbrev field_event : List ℕ → ℕ → List ℕ → Marked
field_event text start l = (Leaf (Text (l ++ 10 ∷ [])), snapped text start (start + length l + 1))

abbrev field_events : List ℕ → ℕ → List ℕ → List (List ℕ) → List Marked
field_events text start l [] = field_event text start l ∷ []
field_events text start l (m ∷ ms) = field_event text start l ∷ field_events text (start + length l + 1) m ms

emit_field : (text : List ℕ) (es : List Marked) (o : Open) (start : ℕ) (l : List ℕ) → step text (at es o) (field_node start l) ≡ at (es ++ field_event text start l ∷ []) o
emit_field text es o start l = ap (λ (xs : List Marked). at (xs ++ field_event text start l ∷ []) o) (append-nil es)

emit_fields : (text : List ℕ) (es : List Marked) (o : Open) (start : ℕ) (l : List ℕ) (ms : List (List ℕ)) → fold (step text) (at es o) (field_nodes start l ms) ≡ at (es ++ field_events text start l ms) o
emit_fields text es o start l [] = emit_field text es o start l
emit_fields text es o start l (m ∷ ms) =
    let next : ℕ = start + length l + 1 in
    ap (λ (w : Writing). fold (step text) w (field_nodes next m ms)) (emit_field text es o start l)
    ∙ emit_fields text (es ++ field_event text start l ∷ []) o next m ms
    ∙ ap (λ (xs : List Marked). at xs o) (append_assoc es (field_event text start l ∷ []) (field_events text next m ms))

-- merged, the texts of lines are one text, and what ends them follows
merged_fields : (text : List ℕ) (start : ℕ) (l : List ℕ) (ms : List (List ℕ)) (last : TagEnd) (range : ℕ × ℕ) → merged (unplaced (field_events text start l ms ++ (End last, range) ∷ [])) ≡ Leaf (Text (lined l ms ++ 10 ∷ [])) ∷ End last ∷ []
merged_fields text start l [] last range = refl
merged_fields text start l (m ∷ ms) last range =
    let more : List ℕ = lined m ms ++ 10 ∷ [] in
    ap (after_text (l ++ 10 ∷ [])) (merged_fields text (start + length l + 1) m ms last range)
    ∙ ap (λ (xs : List ℕ). Leaf (Text xs) ∷ End last ∷ []) (append_assoc l (10 ∷ []) more ∙ sym (append_assoc l (10 ∷ lined m ms) (10 ∷ [])))

-- the events of metadata with lines, merged
metadata_emitted : (text : List ℕ) (k : MetadataBlockKind) (n start : ℕ) (l : List ℕ) (ms : List (List ℕ)) → merged (unplaced (emitted text (node 0 (Container (MetadataBlock k)) 0 n ∷ field_nodes start l ms))) ≡ metadata_events k (lined l ms ++ 10 ∷ [])
metadata_emitted text k n start l ms =
    let range : ℕ × ℕ = snapped text 0 n in
    let o : Open = record { end = end.MetadataBlock k; range = range } in
    ap (λ (w : Writing). merged (unplaced ((closed 0 w).events))) (emit_fields text ((Start (MetadataBlock k), range) ∷ []) o start l ms)
    ∙ ap (λ (es : List EventView). Start (MetadataBlock k) ∷ es) (merged_fields text start l ms (end.MetadataBlock k) range)

-- ---- the law

inside_from : (b : ℕ) → IsPrintable b → char_set_contains (codes " -+.") b ≡ false → IsInside b
inside_from b h out =
    let low : 32 ≤ b = h.low in
    record {
      space = differs (char_set_contains (codes " -+.")) b 32 refl out;
      tab = grind (arith, nat_tests);
      feed = grind (arith, nat_tests);
      return = grind (arith, nat_tests);
      dash = differs (char_set_contains (codes " -+.")) b 45 refl out;
      cross = differs (char_set_contains (codes " -+.")) b 43 refl out;
      dot = differs (char_set_contains (codes " -+.")) b 46 refl out;
    }

-- a field as the proofs know it
record IsFieldLine (l : List ℕ) : Type 0 where
  text : IsFieldText l
  clean : AreClean l

field_from : (l : List ℕ) → is_field l ≡ true → IsFieldLine l
field_from [] h = absurd (true≢false (sym h))
field_from (b ∷ bs) h =
    let both = both_true (not (char_set_contains (codes " -+.") b)) (list_all is_printable (b ∷ bs)) h in
    let shown : AllByRecursion IsPrintable (b ∷ bs) = all_from is_printable IsPrintable (b ∷ bs) printable_from (both.1) in
    record {
      text = (inside_from b (shown.0) (is_not (char_set_contains (codes " -+.") b) (both.0)), all_implied IsPrintable IsWithin (b ∷ bs) within_byte shown);
      clean = all_implied IsPrintable IsClean (b ∷ bs) clean_byte shown;
    }

texts_of : (ls : List (List ℕ)) → AllByRecursion IsFieldLine ls → AllByRecursion IsFieldText ls
texts_of [] h = tt
texts_of (l ∷ ls) h = ((h.0).text, texts_of ls (h.1))

cleans_of : (ls : List (List ℕ)) → AllByRecursion IsFieldLine ls → AllByRecursion AreClean ls
cleans_of [] h = tt
cleans_of (l ∷ ls) h = ((h.0).clean, cleans_of ls (h.1))

clean_then : (xs ys : List ℕ) → AreClean xs → AreClean ys → AreClean (xs ++ ys)
clean_then [] ys h k = k
clean_then (x ∷ xs) ys h k = (h.0, clean_then xs ys (h.1) k)

clean_lined : (l : List ℕ) (ms : List (List ℕ)) → AllByRecursion AreClean (l ∷ ms) → AreClean (lined l ms)
clean_lined l [] h = h.0
clean_lined l (m ∷ ms) h = clean_then l (10 ∷ lined m ms) (h.0) (clean_feed, clean_lined m ms (h.1))

clean_fence : (k : MetadataBlockKind) → AreClean (fence_of k)
clean_fence YamlStyle = let one : IsClean 45 = record { ascii = omega arith; some = refl; return = refl } in (one, (one, (one, tt)))
clean_fence PlusesStyle = let one : IsClean 43 = record { ascii = omega arith; some = refl; return = refl } in (one, (one, (one, tt)))

pub front_matter_read : (syntax : Syntax) (k : MetadataBlockKind) (l : List ℕ) (ms : List (List ℕ)) → has_metadata k syntax ≡ true → list_all is_field (l ∷ ms) ≡ true → length (front_matter k l ms) < 2 ^ 64 → IsReadAs (reading_of syntax (front_matter k l ms)) (metadata_events k (lined l ms ++ 10 ∷ []))
unfolding reading_of
front_matter_read syntax k l ms has all fits =
    let text : List ℕ = front_matter k l ms in
    let n : ℕ = length text in
    let long : List ℕ = lined (fence_of k) (l ∷ (ms ++ fence_of k ∷ [])) in
    let same : long ≡ text = ap (λ (xs : List ℕ). fence_of k ++ 10 ∷ xs) (fenced_is k l ms) in
    let fields : AllByRecursion IsFieldLine (l ∷ ms) = all_from is_field IsFieldLine (l ∷ ms) field_from all in
    let cleans : AllByRecursion AreClean (l ∷ ms) = cleans_of (l ∷ ms) fields in
    let clean : AreClean text = clean_then (fence_of k) (10 ∷ (lined l ms ++ 10 ∷ fence_of k)) (clean_fence k) (clean_feed, clean_then (lined l ms) (10 ∷ fence_of k) (clean_lined l ms cleans) (clean_feed, clean_fence k)) in
    let pieces : List Piece = field_pieces 4 l ms in
    let blocks : blocks_in syntax text ≡ metadata_block k n pieces =
    subst (λ (xs : List ℕ). blocks_in syntax xs ≡ metadata_block k (length xs) pieces) same
    (front_matter_blocks syntax k l ms has (texts_of (l ∷ ms) fields) (subst (λ (xs : List ℕ). AllByRecursion (λ b. (b == 13) ≡ false) xs) (sym same) (no_returns text clean)) (subst (λ (xs : List ℕ). length xs < 2 ^ 64) (sym same) fits))
    in
    let front_bytes : List ℕ = fence_of k ++ 10 ∷ [] in
    let stands : text ≡ front_bytes ++ (lined l ms ++ 10 ∷ fence_of k) = sym (append_assoc (fence_of k) (10 ∷ []) (lined l ms ++ 10 ∷ fence_of k)) in
    let place : 4 ≡ length front_bytes = sym (length-append (fence_of k) (10 ∷ []) ∙ ap (λ m. m + 1) (three_bytes k)) in
    let nodes : List NodeView = node 0 (Container (MetadataBlock k)) 0 n ∷ field_nodes 4 l ms in
    let result : FoundView = record { nodes = nodes; defined = []; unresolved = [] } in
    let found : found_under syntax text ≡ result =
    found_from syntax text (metadata_block k n pieces) defs.collected_none blocks (none_collected syntax text k n pieces)
    ∙ found_metadata syntax text k n pieces
    ∙ ap (λ (ps : List Piece). metadata_found text k n ps) (whole_pieces pieces)
    ∙ ap (λ (ns : List NodeView). (let f : FoundView = record { nodes = node 0 (Container (MetadataBlock k)) 0 n ∷ ns; defined = []; unresolved = [] } in f)) (nodes_of_fields text front_bytes (10 ∷ fence_of k) 4 l ms stands place cleans)
    in
    record {
      events = ap (λ (f : FoundView). merged (unplaced (emitted text f.nodes))) found ∙ metadata_emitted text k n 4 l ms;
      defined = ap (λ (f : FoundView). f.defined) found;
      unresolved = ap (λ (f : FoundView). f.unresolved) found;
    }

-- A heading with its id between braces is read as a heading with that id.
use Rattle.std.proofs.Common.{◌≡◌, ℕ, zero, suc, ◌+◌, ◌-◌, ◌^◌, ◌<◌, ◌≤◌, Bool, true, false, not, ◌==◌, if◌then◌else◌, nat_lt, nat_le, List, [], ◌∷◌, ◌++◌, length, map, drop, reverse, flat_map, refl, ap, sym, subst, ◌∙◌, arith, append_assoc, append-nil, length-append, None, Some, inl, true≢false}
use Rattle.std.proofs.lemmas.Bool.Decides.{nat_tests}
use Rattle.std.proofs.lemmas.List.{length-reverse, reverse-append}
use Rattle.std.proofs.lemmas.List.Folds.{length-prefix_len}
use Rattle.std.proofs.lemmas.Str.{IsUtf8-from_ascii, utf8_lossy-IsUtf8}
use Rattle.std.specs.Char.{is_ascii_alphanumeric}
use Rattle.std.specs.List.{AllByRecursion, fold, prefix_len}
use Rattle.std.specs.Option.{option_map_or}
use Rattle.std.specs.Str.Lossy.{utf8_lossy}
use Rattle.tocmark_event.specs.Merged.{merged}
use Rattle.tocmark_event.specs.View.{TagView, Heading}
use Rattle.tocmark_event.specs.declared.event.HeadingLevel.TheVariants.{H1}
use Rattle.tocmark_read_scan.specs.Basic.{plus, byte_at, bytes_between}
use Rattle.tocmark_read_scan.specs.Class.{is_in}
use Rattle.tocmark_read_scan.specs.Content as content
use Rattle.tocmark_read_scan.specs.PlainParts.{Part, spelled, last_byte}
use Rattle.tocmark_read_scan.specs.declared.class.Class.TheVariants.{White}
use Rattle.tocmark_read_scan.specs.declared.syntax.Syntax.{Syntax}
use Rattle.tocmark_read_scan.proofs.PlainContent.{places_of, byte_behind, get_behind, take_front}
use Rattle.tocmark_read_scan.proofs.PlainPieces.{piece_between, drop_behind}
use Rattle.tocmark_read_scan.proofs.PlainTests.{turned, all_from}
use Rattle.tocmark_read_scan.proofs.Repeats.{repeated_stop}
use Rattle.tocmark_read_lines.specs.Cells.{bytes_of, cells_of, cell, cell_byte, cell_place, first_cursor, part, trailing, trimmed}
use Rattle.tocmark_read_lines.specs.Containers.{container_at, container_in, item_at, raised_at}
use Rattle.tocmark_read_lines.specs.Lines.{lines_of, line}
use Rattle.tocmark_read_lines.specs.Marks.{is_rule, is_rule_byte, marker_at, bullet_at, ordered_at, heading_at, heading_from, heading_end_before, is_behind, level_of, tail_of}
use Rattle.tocmark_read_lines.specs.declared.beginnings.Heading.{Heading as HeadingLine}
use Rattle.tocmark_read_lines.specs.declared.cell.Cell.{Cell}
use Rattle.tocmark_read_lines.specs.declared.line.Line.{Line}
use Rattle.tocmark_read_page.specs.Definitions.{replaced}
use Rattle.tocmark_read_page.specs.Leaves.{is_paragraph, is_table}
use Rattle.tocmark_read_page.specs.Pages.{State, first_page, leaf_opened, leaf_closed, closed_to, times, list_left, begun, loosened, had_marked, list_of, is_apart, leaf_finished, finished, piece_taken}
use Rattle.tocmark_read_page.specs.Pieces.{piece_of, heading_piece}
use Rattle.tocmark_read_page.specs.declared.leaf.Leaf.TheVariants as leaf
use Rattle.tocmark_read_page.specs.declared.line_start.Known.{Known}
use Rattle.tocmark_read_page.specs.declared.page.Block.{Block}
use Rattle.tocmark_read_page.specs.declared.page.BlockKind.TheVariants as kind
use Rattle.tocmark_read_page.specs.declared.page.Braces.{Braces}
use Rattle.tocmark_read_page.specs.declared.page.HeaderLine.{HeaderLine}
use Rattle.tocmark_read_page.specs.declared.page.HeaderLine.TheVariants.{Never}
use Rattle.tocmark_read_page.specs.declared.piece.Piece.{Piece}
use Rattle.tocmark_read_constructs.specs.Blanks.{trailing_blanks}
use Rattle.tocmark_read_constructs.specs.Headings.{is_no_word, trailing_words, braces_in, heading_braces, before_braces, placed_braces, heading_put, heading_started_in}
use Rattle.tocmark_read_constructs.specs.Metadata.{known_of, metadata_in, begins_metadata, opens_metadata, is_triple, mark_of}
use Rattle.tocmark_read_constructs.specs.Quotes.{is_first_line, tag_in}
use Rattle.tocmark_read_constructs.specs.Tables.{may_delimit, delimiters_taken}
use Rattle.tocmark_read_blocks.specs.Blocks.{BlocksView, blocks_in, page_in, start_or, leaf_started_in, started_in, started_at_in, tabled_in, tabled_as, noted, passed_in, touched, taken_at_in, turn_taken_in, cells_taken_in, line_taken_in}
use Rattle.tocmark_read_blocks.specs.Containers.{container_once_in, containers_opened_in, goes_directly, begun_at}
use Rattle.tocmark_read_blocks.specs.Leaves.{leaf_at, mark_at, leaf_turn, metadata_or, task_or, quote_kind_or, tag_or}
use Rattle.tocmark_read_blocks.specs.declared.leaf.LeafStart.{LeafStart}
use Rattle.tocmark_read_blocks.specs.declared.leaf.LeafStart.TheVariants as start
use Rattle.tocmark_read_blocks.proofs.PlainLines.{IsWithin, cells_within, numbered}
use Rattle.tocmark_read_blocks.proofs.PlainStarts.{some_cells}
use Rattle.tocmark_read_blocks.proofs.PlainSteps.{front}
use Rattle.tocmark_read_spans.specs.Definitions as defs
use Rattle.tocmark_read_inlines.specs.Inlines as inlines
use Rattle.tocmark_read_inlines.specs.declared.write.InlineKind.TheVariants as item
use Rattle.tocmark_read_inlines.specs.declared.write.Node.{Node}
use Rattle.tocmark_read_inlines.proofs.PlainLeaf.{known}
use Rattle.tocmark_read_inlines.proofs.PlainNeighbours.{ArePlainParts, plain_parts_are_read}
use Rattle.tocmark_read_inlines.proofs.PlainNodes.{node, nodes_of}
use Rattle.tocmark_reader.specs.Attributes as attributes
use Rattle.tocmark_reader.specs.Attributes.{no_attributes, attributes_of, byte_taken, word_ended, with_word, parts_words}
use Rattle.tocmark_reader.specs.Emitted.{Container, Source, emitted}
use Rattle.tocmark_reader.specs.Inlines.{inline_node, inline_item}
use Rattle.tocmark_reader.specs.Pages as pages
use Rattle.tocmark_reader.specs.Pages.{start_state, pieces_of, is_unwrapped, block_taken_in, wrapped_in, task_nodes, with_block, leaf_inlines_in, with_lines_of, with_inlines, content_line, block_tag}
use Rattle.tocmark_reader.specs.PlainTexts.{IsReadAs}
use Rattle.tocmark_reader.specs.QuietLines.{is_text_byte}
use Rattle.tocmark_reader.specs.Reading.{FoundView, collected_in, collected_from, first_entry, found_under, noted_as, reading_of}
use Rattle.tocmark_reader.specs.Reading as reading
use Rattle.tocmark_reader.proofs.FormulaLines.{one_line}
use Rattle.tocmark_reader.proofs.PlainEvents.{unplaced, source_of}
use Rattle.tocmark_reader.proofs.PlainReading.{IsPrintable}
use Rattle.tocmark_reader.proofs.PlainSources.{IsClean, AreClean, clean_ascii, all_implied, source_between}
use Rattle.tocmark_reader.proofs.PlacedParts.{parts_inlines_at}
use Rattle.tocmark_reader.proofs.QuietContent.{IsQuietLine, content_of_quiet, split_last}
use Rattle.tocmark_reader.proofs.QuietInlines.{IsTextOrFeed, read_alike}
use Rattle.tocmark_laws.specs.Extensions.{is_phrase, is_name, attributed_line, attributed_heading}
use Rattle.tocmark_laws.proofs.DocumentHeadings.{numbered_append, numbered_length}
use Rattle.tocmark_laws.proofs.ExtensionBlocks.{never, here, no_definition, no_note, no_kind, no_task, passes, header_behind}
use Rattle.tocmark_laws.proofs.ExtensionParagraphs.{found_with, found_from, whole_pieces, free_note, no_inlines, within_byte, clean_byte, no_returns}
use Rattle.tocmark_laws.proofs.FrontMatterBlocks.{lines_split}
use Rattle.tocmark_laws.proofs.StrikethroughReading.{IsPhrase, phrase_from, small_letter}
use Rattle.tocmark_laws.proofs.WordsReading.{IsWordByte, text_byte, bare, spelled_bare, bare_plain}

-- a letter or a digit
abbrev IsName : ℕ → Type 0
IsName b = is_ascii_alphanumeric b ≡ true

-- ---- bytes

pub bytes_numbered : (at : ℕ) (xs : List ℕ) → bytes_of (numbered at xs) ≡ xs
bytes_numbered at [] = refl
bytes_numbered at (x ∷ xs) = ap (λ (l : List ℕ). x ∷ l) (bytes_numbered (at + 1) xs)

place_numbered : (at : ℕ) (xs : List ℕ) (c end : ℕ) → c < length xs → cell_place (numbered at xs) c end ≡ at + c
place_numbered at [] c end h = absurd (omega arith)
place_numbered at (x ∷ xs) zero end h = let q : at ≡ at + 0 = omega arith in q
place_numbered at (x ∷ xs) (suc c) end h = place_numbered (at + 1) xs c end (omega arith) ∙ (let q : at + 1 + c ≡ at + suc c = omega arith in q)

pub byte_numbered : (at : ℕ) (xs ys : List ℕ) (y c : ℕ) → c ≡ length xs → cell_byte (numbered at (xs ++ y ∷ ys)) c ≡ y
byte_numbered at xs ys y c e = ap (cell_byte (numbered at (xs ++ y ∷ ys))) e ∙ here_byte at xs
  where
    here_byte : (start : ℕ) (zs : List ℕ) → cell_byte (numbered start (zs ++ y ∷ ys)) (length zs) ≡ y
    here_byte start [] = refl
    here_byte start (z ∷ zs) = here_byte (start + 1) zs

-- what passes a test in front of a byte that doesn't
passing : (p : ℕ → Bool) (ys zs : List ℕ) (d : ℕ) → AllByRecursion (λ y. p y ≡ true) ys → p d ≡ false → prefix_len p (ys ++ d ∷ zs) ≡ length ys
passing p [] zs d h k = rw k refl
passing p (y ∷ ys) zs d h k = rw (h.0) (ap (λ m. 1 + m) (passing p ys zs d (h.1) k) ∙ (let q : 1 + length ys ≡ suc (length ys) = omega arith in q))

all_then : (P : ℕ → Type 0) (xs ys : List ℕ) → AllByRecursion P xs → AllByRecursion P ys → AllByRecursion P (xs ++ ys)
all_then P [] ys h k = k
all_then P (x ∷ xs) ys h k = (h.0, all_then P xs ys (h.1) k)

all_reversed : (P : ℕ → Type 0) (xs : List ℕ) → AllByRecursion P xs → AllByRecursion P (reverse xs)
all_reversed P [] h = tt
all_reversed P (x ∷ xs) h = subst (AllByRecursion P) (sym (reverse-append (x ∷ []) xs)) (all_then P (reverse xs) (x ∷ []) (all_reversed P xs (h.1)) (h.0, tt))

-- ---- braces after words

no_blanks : (xs : List ℕ) → trailing_blanks (xs ++ 125 ∷ []) ≡ 0
no_blanks xs = rw (reverse-append xs (125 ∷ [])) refl

words_behind : (xs ys : List ℕ) → AllByRecursion (λ y. not (is_no_word y) ≡ true) ys → trailing_words (xs ++ 123 ∷ ys) ≡ length ys
unfolding is_no_word
words_behind xs ys h =
    let turned : reverse (xs ++ 123 ∷ ys) ≡ reverse ys ++ 123 ∷ reverse xs =
    reverse-append xs (123 ∷ ys)
    ∙ ap (λ (l : List ℕ). l ++ reverse xs) (reverse-append (123 ∷ []) ys)
    ∙ append_assoc (reverse ys) (123 ∷ []) (reverse xs)
    in
    length-prefix_len (λ y. not (is_no_word y)) (reverse (xs ++ 123 ∷ ys))
    ∙ ap (prefix_len (λ y. not (is_no_word y))) turned
    ∙ passing (λ y. not (is_no_word y)) (reverse ys) (reverse xs) 123 (all_reversed (λ y. not (is_no_word y) ≡ true) ys h) refl
    ∙ length-reverse ys

-- a letter or a digit may be between braces
word_name : (c : ℕ) → IsName c → not (is_no_word c) ≡ true
unfolding is_no_word
word_name c h =
    let opening : (c == 123) ≡ false = turned is_ascii_alphanumeric 123 c h refl in
    let closing : (c == 125) ≡ false = turned is_ascii_alphanumeric 125 c h refl in
    let less : (c == 60) ≡ false = turned is_ascii_alphanumeric 60 c h refl in
    let greater : (c == 62) ≡ false = turned is_ascii_alphanumeric 62 c h refl in
    let backslash : (c == 92) ≡ false = turned is_ascii_alphanumeric 92 c h refl in
    rw (opening, closing, less, greater, backslash) refl

mark_word : not (is_no_word 35) ≡ true
unfolding is_no_word
mark_word = refl

braces_found : (xs ys : List ℕ) → AllByRecursion (λ y. not (is_no_word y) ≡ true) ys → braces_in ((xs ++ 123 ∷ ys) ++ 125 ∷ []) ≡ Some (record { from = length xs; to = length xs + 1 + length ys })
unfolding braces_in
braces_found xs ys h =
    let inner : List ℕ = xs ++ 123 ∷ ys in
    let bytes : List ℕ = inner ++ 125 ∷ [] in
    let to : ℕ = length xs + 1 + length ys in
    let width : length inner ≡ to = length-append xs (123 ∷ ys) ∙ (let q : length xs + suc (length ys) ≡ to = omega arith in q) in
    let all : length bytes ≡ to + 1 = length-append inner (125 ∷ []) ∙ ap (λ m. m + 1) width in
    let last : length bytes - 0 - 1 ≡ to = omega (arith, all) in
    let stands : bytes_between bytes 0 to ≡ inner = piece_between bytes [] inner (125 ∷ []) 0 to refl refl (let q : to ≡ 0 + length inner = omega (arith, width) in q) in
    let before : to - length ys - 1 ≡ length xs = omega arith in
    let closing : byte_at bytes to ≡ 125 = byte_behind inner [] 125 to (sym width) in
    let opening : byte_at bytes (length xs) ≡ 123 = ap (λ (l : List ℕ). byte_at l (length xs)) (append_assoc xs (123 ∷ ys) (125 ∷ [])) ∙ byte_behind xs (ys ++ 125 ∷ []) 123 (length xs) refl in
    rw (no_blanks inner, last, stands, words_behind xs ys h, before, closing, opening) refl

-- ---- the text before braces

part_between : (fs ds es : List Cell) (from to : ℕ) → from ≡ length fs → to ≡ length fs + length ds → part (fs ++ (ds ++ es)) from to ≡ ds
part_between fs ds es from to at end =
    let all : length (fs ++ (ds ++ es)) ≡ length fs + (length ds + length es) = length-append fs (ds ++ es) ∙ ap (λ m. length fs + m) (length-append ds es) in
    let order : nat_le from to ≡ true = grind (arith, nat_tests) in
    let fits : nat_le to (length (fs ++ (ds ++ es))) ≡ true = grind (arith, all, nat_tests) in
    let width : to - from ≡ length ds = omega arith in
    let behind : drop from (fs ++ (ds ++ es)) ≡ ds ++ es = ap (λ m. drop m (fs ++ (ds ++ es))) at ∙ drop_behind fs (ds ++ es) in
    rw (order, fits, width, behind) (take_front ds es)

pub trailing_none : (ds : List Cell) (c : Cell) (x : ℕ) → (c.byte == x) ≡ false → trailing (ds ++ c ∷ []) x ≡ 0
trailing_none ds c x h = rw (reverse-append ds (c ∷ []), h) refl

trailing_one : (ds : List Cell) (d c : Cell) (x : ℕ) → (c.byte == x) ≡ true → (d.byte == x) ≡ false → trailing ((ds ++ d ∷ []) ++ c ∷ []) x ≡ 1
trailing_one ds d c x h l = rw (reverse-append (ds ++ d ∷ []) (c ∷ []), h, reverse-append ds (d ∷ []), l) refl

-- the text of a heading ends before the space in front of its braces
end_before_braces : (fs ds es : List Cell) (d c : Cell) (from limit : ℕ) → from ≡ length fs → limit ≡ length fs + length ((ds ++ d ∷ []) ++ c ∷ []) → (c.byte == 32) ≡ true → (d.byte == 32) ≡ false → (d.byte == 35) ≡ false → heading_end_before (fs ++ (((ds ++ d ∷ []) ++ c ∷ []) ++ es)) from limit ≡ limit - 1
unfolding heading_end_before trimmed
end_before_braces fs ds es d c from limit at end space ink mark =
    let shown : List Cell = ds ++ d ∷ [] in
    let columns : List Cell = fs ++ ((shown ++ c ∷ []) ++ es) in
    let long : length (shown ++ c ∷ []) ≡ length shown + 1 = length-append shown (c ∷ []) in
    let short : length shown ≡ length ds + 1 = length-append ds (d ∷ []) in
    let first : part columns from limit ≡ shown ++ c ∷ [] = part_between fs (shown ++ c ∷ []) es from limit at end in
    let apart : columns ≡ fs ++ (shown ++ c ∷ es) = ap (λ (l : List Cell). fs ++ l) (append_assoc shown (c ∷ []) es) in
    let second : part columns from (limit - 1) ≡ shown = ap (λ (l : List Cell). part l from (limit - 1)) apart ∙ part_between fs shown (c ∷ es) from (limit - 1) at (omega (arith, at, end, long)) in
    let none : limit - 1 - 0 ≡ limit - 1 = omega arith in
    let more : nat_le (limit - 1) from ≡ false = grind (arith, at, end, long, short, nat_tests) in
    let split : columns ≡ (fs ++ ds) ++ d ∷ c ∷ es = apart ∙ ap (λ (l : List Cell). fs ++ l) (append_assoc ds (d ∷ []) (c ∷ es)) ∙ sym (append_assoc fs ds (d ∷ c ∷ es)) in
    let before : limit - 1 - 1 ≡ length (fs ++ ds) = omega (arith, end, long, short, length-append fs ds) in
    let last : (cell_byte columns (limit - 1 - 1) == 32) ≡ false =
    ap (λ (l : List Cell). cell_byte l (limit - 1 - 1) == 32) split
    ∙ ap (λ m. cell_byte ((fs ++ ds) ++ d ∷ c ∷ es) m == 32) before
    ∙ ap (λ o. option_map_or (λ (x : Cell). x.byte) o 10 == 32) (get_behind (fs ++ ds) (c ∷ es) d)
    ∙ ink
    in
    rw (first, trailing_one ds d c 32 space ink, second, trailing_none ds d 35 mark, none, more, last) refl

-- ---- names, and words as nodes

printable_name : (c : ℕ) → IsName c → IsPrintable c
printable_name c h = record { low = grind (arith, h, nat_tests); high = let small : c < 123 = small_letter c h in omega arith }

clean_name : (c : ℕ) → IsName c → IsClean c
clean_name c h = clean_byte c (printable_name c h)

pub text_and_some : (x : ℕ) → IsWordByte x → is_text_byte x ≡ true
unfolding is_text_byte
text_and_some x h =
    let some : (x == 0) ≡ false = (clean_byte x h.printable).some in
    rw (text_byte x h, some) refl

pub ink_letter : (x : ℕ) → IsName x → is_in White x ≡ false
unfolding is_in
ink_letter x h =
    let space : (x == 32) ≡ false = turned is_ascii_alphanumeric 32 x h refl in
    let tab : (x == 9) ≡ false = turned is_ascii_alphanumeric 9 x h refl in
    let feed : (x == 10) ≡ false = turned is_ascii_alphanumeric 10 x h refl in
    rw (space, tab, feed) refl

pub nodes_on : (d p start : ℕ) (xs : List ℕ) → nodes_of d p (Some start) (bare xs) ≡ node d item.Text start (p + length xs) ∷ []
nodes_on d p start [] = ap (λ m. node d item.Text start m ∷ []) (let q : p ≡ p + 0 = omega arith in q)
nodes_on d p start (x ∷ xs) = nodes_on d (p + 1) start xs ∙ ap (λ m. node d item.Text start m ∷ []) (let q : p + 1 + length xs ≡ p + suc (length xs) = omega arith in q)

pub replaced_clean : (xs : List ℕ) → AreClean xs → flat_map replaced xs ≡ xs
unfolding replaced
replaced_clean [] h = refl
replaced_clean (x ∷ xs) h = rw (h.0).some (ap (λ (l : List ℕ). x ∷ l) (replaced_clean xs (h.1)))

-- a word goes on with letters and digits
word_kept : (word xs : List ℕ) → AllByRecursion IsName xs → fold byte_taken (record no_attributes { word = word }) xs ≡ record no_attributes { word = word ++ xs }
unfolding byte_taken parts_words
word_kept word [] h = ap (λ (l : List ℕ). (let s : attributes.State = record no_attributes { word = l } in s)) (sym (append-nil word))
word_kept word (x ∷ xs) h =
    let space : (x == 32) ≡ false = turned is_ascii_alphanumeric 32 x (h.0) refl in
    let tab : (x == 9) ≡ false = turned is_ascii_alphanumeric 9 x (h.0) refl in
    let form : (x == 12) ≡ false = turned is_ascii_alphanumeric 12 x (h.0) refl in
    rw (space, tab, form) (word_kept (word ++ x ∷ []) xs (h.1) ∙ ap (λ (l : List ℕ). (let s : attributes.State = record no_attributes { word = l } in s)) (append_assoc word (x ∷ []) xs))

-- a name after `#` is an id
name_read : (i : ℕ) (js : List ℕ) → AllByRecursion IsName (i ∷ js) → attributes_of (35 ∷ i ∷ js) ≡ record no_attributes { id = Some (i ∷ js) }
unfolding attributes_of word_ended with_word byte_taken parts_words
name_read i js h =
    let name : List ℕ = i ∷ js in
    let word : List ℕ = 35 ∷ name in
    let long : nat_lt (length word) 2 ≡ false = grind (arith, nat_tests) in
    let clean : AreClean name = all_implied IsName IsClean name clean_name h in
    let kept : utf8_lossy (bytes_between word 1 (length word)) ≡ name =
    ap utf8_lossy (piece_between word (35 ∷ []) name [] 1 (length word) (ap (λ (l : List ℕ). 35 ∷ l) (sym (append-nil name))) refl (let q : length word ≡ 1 + length name = omega arith in q))
    ∙ utf8_lossy-IsUtf8 name (IsUtf8-from_ascii name (clean_ascii name clean))
    in
    ap word_ended (word_kept (35 ∷ []) name h) ∙ rw (long, kept) refl

pub mark_shown : (x : ℕ) → 32 ≤ x → x < 127 → IsPrintable x
mark_shown x low high = record { low = low; high = high }

printable_line : (b : ℕ) (bs : List ℕ) (i : ℕ) (js : List ℕ) → IsPhrase b bs → AllByRecursion IsName (i ∷ js) → AllByRecursion IsPrintable (attributed_line (b ∷ bs) (i ∷ js))
printable_line b bs i js h names =
    let word_bytes : AllByRecursion IsPrintable (b ∷ bs) = all_implied IsWordByte IsPrintable (b ∷ bs) (λ x w. w.printable) h.bytes in
    let name_bytes : AllByRecursion IsPrintable (i ∷ js) = all_implied IsName IsPrintable (i ∷ js) printable_name names in
    let end : AllByRecursion IsPrintable ((i ∷ js) ++ 125 ∷ []) = all_then IsPrintable (i ∷ js) (125 ∷ []) name_bytes (mark_shown 125 (omega arith) (omega arith), tt) in
    let behind : AllByRecursion IsPrintable (32 ∷ 123 ∷ 35 ∷ ((i ∷ js) ++ 125 ∷ [])) = (mark_shown 32 (omega arith) (omega arith), (mark_shown 123 (omega arith) (omega arith), (mark_shown 35 (omega arith) (omega arith), end))) in
    (mark_shown 35 (omega arith) (omega arith), (mark_shown 32 (omega arith) (omega arith), all_then IsPrintable (b ∷ bs) (32 ∷ 123 ∷ 35 ∷ ((i ∷ js) ++ 125 ∷ [])) word_bytes behind))

-- ---- the line

-- a heading of a phrase with a name between braces
module _ (b : ℕ) (bs : List ℕ) (i : ℕ) (js : List ℕ) where
  abbrev words : List ℕ
  words = b ∷ bs

  abbrev name : List ℕ
  name = i ∷ js

  abbrev n : ℕ
  n = length words

  abbrev k : ℕ
  k = length name

  -- what is after the words
  abbrev tail : List ℕ
  tail = 32 ∷ 123 ∷ 35 ∷ (name ++ 125 ∷ [])

  abbrev text : List ℕ
  text = attributed_line words name

  abbrev cells : List Cell
  cells = numbered 0 text

  abbrev whole_line : Line
  whole_line = line 0 0 (length text) (length text)

  abbrev heading : HeadingLine
  heading = heading_from cells 2 H1

  -- where the braces are in the text
  abbrev braces : Braces
  braces = record { from = n + 3; to = n + k + 5 }

  abbrev heading_block : BlocksView
  heading_block = record {
    blocks = record { depth = 0; kind = kind.Heading H1 (Some braces); start = 0; end = length text; first = 0; last = 1; loose = false; list = None; task = None } ∷ [];
    pieces = piece_of 0 2 (n + 2) (n + 2) ∷ [];
    definitions = [];
  }

  abbrev heading_page : HeaderLine → State
  heading_page header = record first_page {
    blocks = heading_block.blocks;
    pieces = heading_block.pieces;
    leaf = leaf.Nothing;
    end = length text;
    line = whole_line.number;
    kept = 1;
    header = header;
  }

  tail_size : length tail ≡ k + 4
  tail_size = ap (λ m. suc (suc (suc m))) (length-append name (125 ∷ [])) ∙ (let q : suc (suc (suc (k + 1))) ≡ k + 4 = omega arith in q)

  rest_size : length (words ++ tail) ≡ n + k + 4
  rest_size = length-append words tail ∙ ap (λ m. n + m) tail_size ∙ (let q : n + (k + 4) ≡ n + k + 4 = omega arith in q)

  size : length text ≡ n + k + 6
  size = ap (λ m. suc (suc m)) rest_size ∙ (let q : suc (suc (n + k + 4)) ≡ n + k + 6 = omega arith in q)

  split_words : words ≡ (split_last b bs).0 ++ last_byte b bs ∷ []
  split_words = (split_last b bs).1

  heading_here : IsPhrase b bs → heading_at cells 0 ≡ Some heading
  unfolding heading_at level_of is_behind
  heading_here h =
      let space : (b == 32) ≡ false = turned is_ascii_alphanumeric 32 b h.first refl in
      let long : nat_le (length cells) 1 ≡ false = grind (arith, nat_tests) in
      rw (long, space) refl

  braces_here : AllByRecursion IsName name → heading_braces cells heading ≡ Some (record { from = n + 1; to = n + k + 3 })
  unfolding heading_braces
  braces_here h =
      let bytes : List ℕ = words ++ tail in
      let xs : List ℕ = words ++ 32 ∷ [] in
      let ys : List ℕ = 35 ∷ name in
      let columns : length cells ≡ length text = numbered_length 0 text in
      let all : length text ≡ 2 + length bytes = omega arith in
      let stands : bytes_between text 2 (length text) ≡ bytes = piece_between text (35 ∷ 32 ∷ []) bytes [] 2 (length text) (ap (λ (l : List ℕ). 35 ∷ 32 ∷ l) (sym (append-nil bytes))) refl all in
      let parted : bytes ≡ (xs ++ 123 ∷ ys) ++ 125 ∷ [] = sym (append_assoc xs (123 ∷ ys) (125 ∷ []) ∙ append_assoc words (32 ∷ []) (123 ∷ 35 ∷ (name ++ 125 ∷ []))) in
      let from : length xs ≡ n + 1 = length-append words (32 ∷ []) in
      let to : length xs + 1 + length ys ≡ n + k + 3 = omega (arith, from) in
      let may_stand : AllByRecursion (λ y. not (is_no_word y) ≡ true) ys = (mark_word, all_implied IsName (λ y. not (is_no_word y) ≡ true) name word_name h) in
      ap (λ (l : List ℕ). braces_in (bytes_between l 2 (length cells))) (bytes_numbered 0 text)
      ∙ ap (λ m. braces_in (bytes_between text 2 m)) columns
      ∙ ap braces_in (stands ∙ parted)
      ∙ braces_found xs ys may_stand
      ∙ ap (λ m. Some (let r : Braces = record { from = length xs; to = m } in r)) to
      ∙ ap (λ m. Some (let r : Braces = record { from = m; to = n + k + 3 } in r)) from

  -- the last byte of the words
  abbrev last_word : ℕ
  last_word = last_byte b bs

  split_cells : cells ≡ (cell 35 0 ∷ cell 32 1 ∷ []) ++ (((numbered 2 ((split_last b bs).0) ++ cell last_word (2 + length ((split_last b bs).0)) ∷ []) ++ cell 32 (2 + n) ∷ []) ++ numbered (2 + n + 1) (123 ∷ 35 ∷ (name ++ 125 ∷ [])))
  split_cells =
      let fs : List Cell = cell 35 0 ∷ cell 32 1 ∷ [] in
      let body : List ℕ = (split_last b bs).0 in
      let shown : List Cell = numbered 2 body ++ cell last_word (2 + length body) ∷ [] in
      let rest : List Cell = numbered (2 + n + 1) (123 ∷ 35 ∷ (name ++ 125 ∷ [])) in
      let columns : numbered 2 words ≡ shown = ap (numbered 2) split_words ∙ numbered_append 2 body (last_word ∷ []) in
      ap (λ (l : List Cell). fs ++ l) (numbered_append 2 words tail ∙ ap (λ (l : List Cell). l ++ cell 32 (2 + n) ∷ rest) columns ∙ sym (append_assoc shown (cell 32 (2 + n) ∷ []) rest))

  ends_here : length text < 2 ^ 64 → IsPhrase b bs → heading_end_before cells 2 (plus 2 (n + 1)) ≡ n + 2
  ends_here fits h =
      let body : List ℕ = (split_last b bs).0 in
      let shown : List Cell = numbered 2 body ++ cell last_word (2 + length body) ∷ [] in
      let width : length (shown ++ cell 32 (2 + n) ∷ []) ≡ length body + 2 =
      length-append shown (cell 32 (2 + n) ∷ []) ∙ ap (λ m. m + 1) (length-append (numbered 2 body) (cell last_word (2 + length body) ∷ []) ∙ ap (λ m. m + 1) (numbered_length 2 body)) ∙ (let q : length body + 1 + 1 ≡ length body + 2 = omega arith in q)
      in
      let long : n ≡ length body + 1 = ap length split_words ∙ length-append body (last_word ∷ []) in
      let ink : (last_word == 32) ≡ false = turned is_ascii_alphanumeric 32 last_word h.last refl in
      let mark : (last_word == 35) ≡ false = turned is_ascii_alphanumeric 35 last_word h.last refl in
      let all : length text ≡ n + k + 6 = size in
      let limit : plus 2 (n + 1) ≡ n + 3 = omega (arith, all, fits) in
      let short : n + 3 - 1 ≡ n + 2 = omega arith in
      ap (λ m. heading_end_before cells 2 m) limit
      ∙ ap (λ (l : List Cell). heading_end_before l 2 (n + 3)) split_cells
      ∙ end_before_braces (cell 35 0 ∷ cell 32 1 ∷ []) (numbered 2 body) (numbered (2 + n + 1) (123 ∷ 35 ∷ (name ++ 125 ∷ []))) (cell last_word (2 + length body)) (cell 32 (2 + n)) 2 (n + 3) refl (omega (arith, width, long)) refl ink mark
      ∙ short

  place_here : (c : ℕ) → c < n + k + 6 → cell_place cells c (length text) ≡ c
  place_here c h =
      let all : length text ≡ n + k + 6 = size in
      place_numbered 0 text c (length text) (omega (arith, all, h)) ∙ (let q : 0 + c ≡ c = omega arith in q)

  placed_here : length text < 2 ^ 64 → placed_braces cells heading (length text) (record { from = n + 1; to = n + k + 3 }) ≡ braces
  unfolding placed_braces
  placed_here fits =
      let all : length text ≡ n + k + 6 = size in
      let from : plus 2 (n + 1) ≡ n + 3 = omega (arith, all, fits) in
      let to : plus 2 (n + k + 3) ≡ n + k + 5 = omega (arith, all, fits) in
      rw (from, to, place_here (n + 3) (omega arith), place_here (n + k + 5) (omega arith)) refl

  -- the heading comes into the page
  heading_taken : heading_put text cells whole_line here (Some braces) (record heading { to = n + 2 }) first_page ≡ heading_page Never
  unfolding heading_put heading_piece piece_taken leaf_opened closed_to leaf_closed times list_left begun loosened had_marked list_of is_apart leaf_finished finished raised_at
  heading_taken =
      let order : nat_lt 2 (n + 2) ≡ true = grind (arith, nat_tests) in
      rw (place_here (n + 2) (omega arith), order) refl

  heading_started : (known : Known) → known.syntax.heading_attributes ≡ true → length text < 2 ^ 64 → IsPhrase b bs → AllByRecursion IsName name → heading_started_in known text cells whole_line here heading first_page ≡ heading_page Never
  unfolding heading_started_in before_braces
  heading_started known has fits h names =
      rw (has, braces_here names, placed_here fits, ends_here fits h) heading_taken

  no_container_at : (within : Bool) → container_at cells (tail_of cells) front within ≡ None
  unfolding container_at is_rule is_rule_byte item_at marker_at bullet_at ordered_at
  no_container_at within = rw (some_cells (length (numbered 1 (32 ∷ (words ++ tail))))) refl

  no_container : (syntax : Syntax) (within : Bool) → container_in syntax cells (tail_of cells) front within ≡ None
  unfolding container_in
  no_container syntax within = rw (no_definition syntax cells refl, no_note syntax cells (free_note 0 35 (32 ∷ (words ++ tail)) refl), no_container_at within) refl

  opens_none : (syntax : Syntax) → containers_opened_in syntax text cells whole_line (tail_of cells) here first_page ≡ (first_page, here)
  unfolding container_once_in
  opens_none syntax =
      repeated_stop (container_once_in syntax text cells whole_line (tail_of cells)) (length cells) here first_page first_page (omega arith)
      (sym (ap (begun_at text cells whole_line here first_page) (no_container syntax (goes_directly 0 first_page))))

  no_tag : (known : Known) → tag_in known text cells whole_line here false first_page ≡ false
  unfolding tag_in is_first_line
  no_tag known = rw (never, never) refl

  no_metadata : (known : Known) → metadata_in known text cells whole_line here false first_page ≡ None
  unfolding metadata_in begins_metadata opens_metadata is_triple mark_of
  no_metadata known = simp never refl

  no_extension : (known : Known) (core : LeafStart) → start_or known text cells whole_line here false first_page core ≡ core
  unfolding quote_kind_or tag_or task_or metadata_or
  no_extension known core =
      rw (no_kind known text cells whole_line first_page refl, no_tag known, no_task known text cells whole_line first_page refl, no_metadata known) refl

  a_heading : (rest : List ℕ) → IsPhrase b bs → leaf_at cells rest (tail_of cells) front false false ≡ start.Heading heading
  unfolding leaf_at mark_at
  a_heading rest h = rw (some_cells (length (numbered 1 (32 ∷ (words ++ tail)))), heading_here h) refl

  starts_heading : (known : Known) → known.syntax.heading_attributes ≡ true → length text < 2 ^ 64 → IsPhrase b bs → AllByRecursion IsName name → leaf_started_in known text cells whole_line here first_page ≡ heading_page Never
  unfolding leaf_started_in started_in goes_directly is_paragraph
  starts_heading known has fits h names =
      let core : LeafStart = leaf_at cells (bytes_between text (cell_place cells 0 (length text)) (length text)) (tail_of cells) front false false in
      ap (started_at_in known text cells whole_line (tail_of cells)) (opens_none known.syntax)
      ∙ ap (λ x. started_in known x text cells whole_line (tail_of cells) here first_page) (no_extension known core)
      ∙ ap (λ x. started_in known x text cells whole_line (tail_of cells) here first_page) (a_heading (bytes_between text (cell_place cells 0 (length text)) (length text)) h)
      ∙ heading_started known has fits h names

  no_row : delimiters_taken text cells whole_line front (goes_directly 0 first_page) first_page ≡ (first_page, false)
  unfolding delimiters_taken may_delimit goes_directly is_paragraph
  no_row = refl

  heading_passed : (known : Known) → known.syntax.heading_attributes ≡ true → length text < 2 ^ 64 → IsPhrase b bs → AllByRecursion IsName name → passed_in known text cells whole_line here first_page ≡ heading_page (header_behind known.syntax.tables cells Never)
  unfolding passed_in tabled_in
  heading_passed known has fits h names = by_tables known.syntax.tables
    where
      starts : leaf_started_in known text cells whole_line here first_page ≡ heading_page Never
      starts = starts_heading known has fits h names

      by_tables : (t : Bool) → (if t then tabled_as known text cells whole_line here (delimiters_taken text cells whole_line front (goes_directly 0 first_page) first_page) else leaf_started_in known text cells whole_line here first_page) ≡ heading_page (header_behind t cells Never)
      by_tables true = ap (tabled_as known text cells whole_line here) no_row ∙ ap (noted cells here first_page) starts
      by_tables false = starts

  heading_columns : AllByRecursion IsWithin text → length text < 2 ^ 64 → cells_of [] 0 (bytes_between text 0 (length text)) ≡ cells
  heading_columns within fits =
      ap (cells_of [] 0) (piece_between text [] text [] 0 (length text) (sym (append-nil text)) refl (let q : length text ≡ 0 + length text = omega arith in q))
      ∙ cells_within 0 text within (omega (arith, fits))

  no_space : first_cursor cells ≡ front
  unfolding first_cursor
  no_space = refl

  heading_line : (known : Known) → known.syntax.heading_attributes ≡ true → AllByRecursion IsWithin text → length text < 2 ^ 64 → IsPhrase b bs → AllByRecursion IsName name → line_taken_in known text first_page whole_line ≡ heading_page (header_behind known.syntax.tables cells Never)
  unfolding line_taken_in cells_taken_in touched leaf_turn is_table
  heading_line known has within fits h names =
      ap (λ c. cells_taken_in known text c whole_line first_page) (heading_columns within fits)
      ∙ ap (λ c. taken_at_in known text cells whole_line (record { cursor = c; depth = 0 }) first_page) no_space
      ∙ ap (λ t. turn_taken_in known t text cells whole_line here first_page) (passes known text cells whole_line first_page refl refl refl)
      ∙ heading_passed known has fits h names

  page_ends : (header : HeaderLine) → closed_to text 0 (heading_page header) ≡ heading_page header
  unfolding closed_to leaf_closed times
  page_ends header = refl

  known_has : (syntax : Syntax) (lines : List Line) → syntax.heading_attributes ≡ true → (known_of syntax text lines).syntax.heading_attributes ≡ true
  unfolding known_of
  known_has syntax lines has = has

  -- the blocks of the text: one heading
  heading_blocks : (syntax : Syntax) → syntax.heading_attributes ≡ true → AllByRecursion IsWithin text → AllByRecursion (λ x. (x == 13) ≡ false) text → length text < 2 ^ 64 → IsPhrase b bs → AllByRecursion IsName name → blocks_in syntax text ≡ heading_block
  unfolding blocks_in page_in
  heading_blocks syntax has within returns fits h names =
      let lines : List Line = whole_line ∷ [] in
      let known : Known = known_of syntax text lines in
      let view : State → BlocksView = λ s. record { blocks = s.blocks; pieces = s.pieces; definitions = s.definitions } in
      let split : lines_of text ≡ lines = lines_split text returns 0 0 text [] (record { some = omega arith; within = within }, tt) ∙ ap (λ m. line 0 0 m m ∷ []) (let q : 0 + length text ≡ length text = omega arith in q) in
      ap (λ ls. view (closed_to text 0 (fold (line_taken_in (known_of syntax text ls) text) first_page ls))) split
      ∙ ap (λ s. view (closed_to text 0 s)) (heading_line known (known_has syntax lines has) within fits h names)
      ∙ ap view (page_ends (header_behind known.syntax.tables cells Never))

  -- ---- what is found

  abbrev piece : Piece
  piece = piece_of 0 2 (n + 2) (n + 2)

  abbrev block : Block
  block = record { depth = 0; kind = kind.Heading H1 (Some braces); start = 0; end = length text; first = 0; last = 1; loose = false; list = None; task = None }

  abbrev found_state : pages.State → FoundView
  found_state page = record { nodes = page.nodes; defined = []; unresolved = defs.distinct_labels page.inlines.texts page.inlines.missed }

  -- the heading with these inlines
  abbrev found_of : inlines.State → FoundView
  found_of found = found_state (with_inlines found (with_block text block (start_state [])))

  none_collected : (syntax : Syntax) → collected_from syntax text heading_block ≡ defs.collected_none
  unfolding collected_from noted_as
  none_collected syntax = by_test syntax.footnotes
    where
      by_test : (t : Bool) → (if t then reading.noted text heading_block.blocks (collected_in syntax.names []) else collected_in syntax.names []) ≡ defs.collected_none
      by_test true = refl
      by_test false = refl

  found_heading : (syntax : Syntax) → found_with syntax text heading_block defs.collected_none ≡ found_state (wrapped_in syntax text (first_entry syntax.undefined_notes [] []) (pieces_of (piece ∷ []) 0 1) block (start_state []))
  unfolding is_unwrapped block_taken_in
  found_heading syntax = refl

  heading_wrapped : (syntax : Syntax) → found_state (wrapped_in syntax text (first_entry syntax.undefined_notes [] []) (piece ∷ []) block (start_state [])) ≡ found_of (inlines.read_inlines_in syntax (content.content_of text (map content_line (piece ∷ []))) 1 (first_entry syntax.undefined_notes [] []) no_inlines)
  unfolding wrapped_in with_block task_nodes leaf_inlines_in with_lines_of
  heading_wrapped syntax = rw (one_line syntax piece) refl

  words_stand : bytes_between text 2 (n + 2) ≡ words
  words_stand = piece_between text (35 ∷ 32 ∷ []) words tail 2 (n + 2) refl refl (let q : n + 2 ≡ 2 + n = omega arith in q)

  abbrev leaf_at_two : List ℕ → content.State
  leaf_at_two bytes = record { bytes = bytes; places = places_of 2 bytes }

  heading_content : length text < 2 ^ 64 → IsPhrase b bs → content.content_of text (map content_line (piece ∷ [])) ≡ leaf_at_two words
  heading_content fits h =
      let all : length text ≡ n + k + 6 = size in
      let texts : AllByRecursion (λ x. is_text_byte x ≡ true) words = all_implied IsWordByte (λ x. is_text_byte x ≡ true) words text_and_some h.bytes in
      let quiet : IsQuietLine text piece = record {
        bytes = subst (AllByRecursion (λ x. is_text_byte x ≡ true)) (sym words_stand) texts;
        ink = ap (λ (l : List ℕ). is_in White (last_byte 10 l)) words_stand ∙ ink_letter last_word h.last;
        width = ap (λ (l : List ℕ). 2 + length l) words_stand ∙ (let q : 2 + n ≡ n + 2 = omega arith in q);
        within = omega (arith, all);
      } in
      content_of_quiet text piece [] quiet fits ∙ ap leaf_at_two words_stand

  heading_inlines : (syntax : Syntax) → length text < 2 ^ 64 → IsPhrase b bs → inlines.read_inlines_in syntax (leaf_at_two words) 1 (first_entry syntax.undefined_notes [] []) no_inlines ≡ record no_inlines { nodes = node 1 item.Text 2 (n + 2) ∷ [] }
  heading_inlines syntax fits h =
      let find = first_entry syntax.undefined_notes [] [] in
      let parts : List Part = bare words in
      let same : words ≡ spelled parts = sym (spelled_bare words) in
      let all : length text ≡ n + k + 6 = size in
      let short : n < 2 ^ 64 = omega (arith, all, fits) in
      let room : length (spelled parts) < 2 ^ 64 = subst (λ (l : List ℕ). length l < 2 ^ 64) same short in
      let plain : ArePlainParts 10 parts = subst (ArePlainParts 10) (append-nil parts) (bare_plain 10 words [] h.bytes tt) in
      let end : 3 + length bs ≡ n + 2 = omega arith in
      read_alike syntax (leaf_at_two words) 1 find no_inlines (all_implied IsWordByte IsTextOrFeed words (λ x w. inl (text_byte x w)) h.bytes)
      ∙ ap (λ (l : List ℕ). inlines.read_inlines (leaf_at_two l) 1 find no_inlines) same
      ∙ parts_inlines_at parts 2 1 find no_inlines (plain_parts_are_read (spelled parts) [] (known (spelled parts)) find 0 10 parts refl refl room refl plain) room
      ∙ ap (λ (ns : List Node). (let t : inlines.State = record no_inlines { nodes = ns } in t)) (nodes_on 1 3 2 bs ∙ ap (λ m. node 1 item.Text 2 m ∷ []) end)

  -- ---- the law

  tag_is : length text < 2 ^ 64 → AllByRecursion IsName name → block_tag text (kind.Heading H1 (Some braces)) ≡ Heading H1 (Some name) [] []
  unfolding block_tag
  tag_is fits h =
      let all : length text ≡ n + k + 6 = size in
      let ys : List ℕ = 35 ∷ name in
      let pre : List ℕ = 35 ∷ 32 ∷ (words ++ 32 ∷ 123 ∷ []) in
      let from : plus (n + 3) 1 ≡ n + 4 = omega (arith, all, fits) in
      let front_size : length pre ≡ n + 4 = ap (λ m. suc (suc m)) (length-append words (32 ∷ 123 ∷ [])) ∙ (let q : suc (suc (n + 2)) ≡ n + 4 = omega arith in q) in
      let stands : text ≡ pre ++ (ys ++ 125 ∷ []) = ap (λ (l : List ℕ). 35 ∷ 32 ∷ l) (sym (append_assoc words (32 ∷ 123 ∷ []) (ys ++ 125 ∷ []))) in
      let between : bytes_between text (plus (n + 3) 1) (n + k + 5) ≡ ys = piece_between text pre ys (125 ∷ []) (plus (n + 3) 1) (n + k + 5) stands (from ∙ sym front_size) (let q : n + k + 5 ≡ length pre + suc k = omega (arith, front_size) in q) in
      let clean : AreClean ys = (record { ascii = omega arith; some = refl; return = refl }, all_implied IsName IsClean name clean_name h) in
      ap (λ (l : List ℕ). attributes.attributed H1 (attributes_of (flat_map replaced l))) between
      ∙ ap (λ (l : List ℕ). attributes.attributed H1 (attributes_of l)) (replaced_clean ys clean)
      ∙ ap (attributes.attributed H1) (name_read i js h)

  heading_emitted : (tag : TagView) → tag ≡ Heading H1 (Some name) [] [] → source_of text 2 (n + 2) ≡ words → merged (unplaced (emitted text (record { depth = 0; item = Container tag; start = 0; end = length text } ∷ record { depth = 1; item = Source; start = 2; end = n + 2 } ∷ []))) ≡ attributed_heading words name
  heading_emitted tag e source =
      ap (λ (t : TagView). merged (unplaced (emitted text (record { depth = 0; item = Container t; start = 0; end = length text } ∷ record { depth = 1; item = Source; start = 2; end = n + 2 } ∷ [])))) e
      ∙ ap (λ (l : List ℕ). attributed_heading l name) source

  heading_is_read : (syntax : Syntax) → syntax.heading_attributes ≡ true → IsPhrase b bs → AllByRecursion IsName name → length text < 2 ^ 64 → IsReadAs (reading_of syntax text) (attributed_heading words name)
  unfolding reading_of inline_node inline_item with_block task_nodes
  heading_is_read syntax has h names fits =
      let shown : AllByRecursion IsPrintable text = printable_line b bs i js h names in
      let clean : AreClean text = all_implied IsPrintable IsClean text clean_byte shown in
      let within : AllByRecursion IsWithin text = all_implied IsPrintable IsWithin text within_byte shown in
      let find = first_entry syntax.undefined_notes [] [] in
      let result : FoundView = found_of (record no_inlines { nodes = node 1 item.Text 2 (n + 2) ∷ [] }) in
      let found : found_under syntax text ≡ result =
      found_from syntax text heading_block defs.collected_none (heading_blocks syntax has within (no_returns text clean) fits h names) (none_collected syntax)
      ∙ found_heading syntax
      ∙ ap (λ (ps : List Piece). found_state (wrapped_in syntax text find ps block (start_state []))) (whole_pieces (piece ∷ []))
      ∙ heading_wrapped syntax
      ∙ ap (λ (c : content.State). found_of (inlines.read_inlines_in syntax c 1 find no_inlines)) (heading_content fits h)
      ∙ ap found_of (heading_inlines syntax fits h)
      in
      let source : source_of text 2 (n + 2) ≡ words = source_between text (35 ∷ 32 ∷ []) words tail 2 (n + 2) refl refl (let q : n + 2 ≡ 2 + n = omega arith in q) clean in
      record {
        events = ap (λ (f : FoundView). merged (unplaced (emitted text f.nodes))) found ∙ heading_emitted (block_tag text (kind.Heading H1 (Some braces))) (tag_is fits names) source;
        defined = ap (λ (f : FoundView). f.defined) found;
        unresolved = ap (λ (f : FoundView). f.unresolved) found;
      }

pub attributes_read : (syntax : Syntax) (phrase given : List ℕ) → syntax.heading_attributes ≡ true → is_phrase phrase ≡ true → is_name given ≡ true → length (attributed_line phrase given) < 2 ^ 64 → IsReadAs (reading_of syntax (attributed_line phrase given)) (attributed_heading phrase given)
attributes_read syntax [] js has is_words is_id fits = absurd (true≢false (sym is_words))
attributes_read syntax (b ∷ bs) [] has is_words is_id fits = absurd (true≢false (sym is_id))
attributes_read syntax (b ∷ bs) (i ∷ js) has is_words is_id fits =
    heading_is_read b bs i js syntax has (phrase_from b bs is_words) (all_from is_ascii_alphanumeric IsName (i ∷ js) (λ c e. e) is_id) fits

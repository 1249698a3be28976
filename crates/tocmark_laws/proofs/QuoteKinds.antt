-- A line with a kind and a line of words are read as a quote of that kind.
use Rattle.std.proofs.Common.{◌≡◌, ℕ, suc, ◌+◌, ◌-◌, ◌^◌, ◌<◌, ◌≤◌, max, Bool, true, false, ◌==◌, if◌then◌else◌, nat_lt, nat_le, List, [], ◌∷◌, ◌++◌, length, refl, ap, sym, ◌∙◌, arith, append_assoc, append-nil, length-append, Option, None, Some, true≢false}
use Rattle.std.proofs.lemmas.Bool.Decides.{nat_tests}
use Rattle.std.specs.Char.{is_ascii_alphabetic}
use Rattle.std.specs.List.{AllByRecursion, fold, list_all}
use Rattle.tocmark_event.specs.Merged.{merged}
use Rattle.tocmark_event.specs.declared.event.BlockQuoteKind.{BlockQuoteKind}
use Rattle.tocmark_event.specs.declared.event.BlockQuoteKind.TheVariants.{Note, Tip, Important, Warning, Caution}
use Rattle.tocmark_read_scan.specs.Basic.{byte_at, bytes_between, starts_at}
use Rattle.tocmark_read_scan.specs.declared.syntax.Syntax.{Syntax}
use Rattle.tocmark_read_scan.proofs.PlainContent.{places_of, byte_behind}
use Rattle.tocmark_read_scan.proofs.PlainPieces.{piece_between}
use Rattle.tocmark_read_scan.proofs.PlainTests.{turned, all_from}
use Rattle.tocmark_read_scan.proofs.Repeats.{repeated_more, repeated_stop}
use Rattle.tocmark_read_tokens.specs.Footnotes.{note_label}
use Rattle.tocmark_read_lines.specs.Cells.{cells_of, cell_place, first_cursor, moved}
use Rattle.tocmark_read_lines.specs.Containers.{after_quote, container_at, container_in, item_at, raised, raised_at}
use Rattle.tocmark_read_lines.specs.DefinitionLists.{begins_definition as begins_term, definition_start}
use Rattle.tocmark_read_lines.specs.Html.{same_word}
use Rattle.tocmark_read_lines.specs.Lines.{line, lines_of}
use Rattle.tocmark_read_lines.specs.Marks.{is_rule, is_rule_byte, marker_at, bullet_at, ordered_at, tail_of}
use Rattle.tocmark_read_lines.specs.Footnotes.{note_at, note_start}
use Rattle.tocmark_read_lines.specs.declared.cell.Cell.{Cell}
use Rattle.tocmark_read_lines.specs.declared.container.ContainerStart.TheVariants as begins
use Rattle.tocmark_read_lines.specs.declared.line.Line.{Line}
use Rattle.tocmark_read_lines.specs.declared.footnote.FootnoteStart.{FootnoteStart}
use Rattle.tocmark_read_page.specs.Definitions.{begins_definition, definitions_from}
use Rattle.tocmark_read_page.specs.Leaves.{is_paragraph, is_table}
use Rattle.tocmark_read_page.specs.Pages.{State, first_page, leaf_opened, leaf_closed, closed_to, times, list_left, begun, loosened, had_marked, list_of, is_apart, leaf_finished, finished, piece_taken, opened_with, is_list, is_quote, some_place, settled, shortened, one_closed, ended}
use Rattle.tocmark_read_page.specs.Pieces.{piece_of, code_piece, is_split}
use Rattle.tocmark_read_page.specs.declared.leaf.Leaf.TheVariants as leaf
use Rattle.tocmark_read_page.specs.declared.line_start.Known.{Known}
use Rattle.tocmark_read_page.specs.declared.line_start.LineStart.{LineStart}
use Rattle.tocmark_read_page.specs.declared.page.Block.{Block}
use Rattle.tocmark_read_page.specs.declared.page.BlockKind.TheVariants as kind
use Rattle.tocmark_read_page.specs.declared.page.HeaderLine.{HeaderLine}
use Rattle.tocmark_read_page.specs.declared.page.HeaderLine.TheVariants.{Never}
use Rattle.tocmark_read_page.specs.declared.piece.Piece.{Piece}
use Rattle.tocmark_read_constructs.specs.Metadata.{known_of}
use Rattle.tocmark_read_constructs.specs.Quotes.{quote_opened, is_new_quote, kind_named, quote_kind_of, quote_kind_in, quote_kind_started}
use Rattle.tocmark_read_constructs.specs.Tables.{is_delimiter_row, may_delimit, delimiters_taken, header_of}
use Rattle.tocmark_read_blocks.specs.Blocks.{BlocksView, blocks_in, page_in, leaf_started_in, started_in, started_at_in, tabled_in, tabled_as, is_lazy, passed_in, turn_in, turn_of, touched, taken_at_in, turn_taken_in, cells_taken_in, line_taken_in}
use Rattle.tocmark_read_blocks.specs.Containers.{container_once_in, containers_opened_in, goes_directly, begun_at}
use Rattle.tocmark_read_blocks.specs.Leaves.{leaf_turn, quote_kind_or}
use Rattle.tocmark_read_blocks.specs.Paragraphs.{text_taken, text_started}
use Rattle.tocmark_read_blocks.specs.declared.leaf.Turn.TheVariants as turn
use Rattle.tocmark_read_blocks.proofs.PlainLines.{IsWithin, cells_within, numbered}
use Rattle.tocmark_read_blocks.proofs.PlainSteps.{front}
use Rattle.tocmark_read_spans.specs.Definitions as defs
use Rattle.tocmark_read_spans.specs.declared.definitions.Entry.{Entry}
use Rattle.tocmark_read_inlines.specs.Inlines as inlines
use Rattle.tocmark_read_inlines.specs.declared.write.InlineKind.TheVariants as item
use Rattle.tocmark_read_inlines.proofs.PlainNodes.{node}
use Rattle.tocmark_reader.specs.Emitted.{emitted}
use Rattle.tocmark_reader.specs.Inlines.{inline_node, inline_item}
use Rattle.tocmark_reader.specs.Pages as pages
use Rattle.tocmark_reader.specs.Pages.{start_state, is_unwrapped, block_taken_in, block_step_in, paragraph_taken_in, task_nodes, with_block, with_inlines, block_tag}
use Rattle.tocmark_reader.specs.PlainTexts.{is_printable, IsReadAs}
use Rattle.tocmark_reader.specs.Reading.{FoundView, collected_in, collected_from, first_entry, found_under, noted_as, reading_of}
use Rattle.tocmark_reader.specs.Reading as reading
use Rattle.tocmark_reader.proofs.PlainEvents.{unplaced}
use Rattle.tocmark_reader.proofs.PlainReading.{IsPrintable}
use Rattle.tocmark_reader.proofs.PlainSources.{IsClean, AreClean, all_implied, source_between}
use Rattle.tocmark_reader.proofs.PlainTests.{printable_from}
use Rattle.tocmark_laws.specs.Extensions.{is_word_line}
use Rattle.tocmark_laws.specs.QuoteKinds.{kind_word, kind_line, kind_quote, kind_events}
use Rattle.tocmark_laws.proofs.BreakReading.{all_both}
use Rattle.tocmark_laws.proofs.DocumentBlocks.{piece_taken_whole}
use Rattle.tocmark_laws.proofs.ExtensionBlocks.{never, here, no_definition, no_note, passes}
use Rattle.tocmark_laws.proofs.ExtensionParagraphs.{found_from, free_note, free_row, no_inlines, no_returns, within_byte, clean_byte, clean_feed}
use Rattle.tocmark_laws.proofs.FrontMatterBlocks.{lines_split}
use Rattle.tocmark_laws.proofs.InkAtColumn.{at_column, place_numbered}
use Rattle.tocmark_laws.proofs.ListReading.{words_content, words_inlines}
use Rattle.tocmark_laws.proofs.NoteReading.{paragraph_put, mark_clean}
use Rattle.tocmark_laws.proofs.QuoteBlocks.{QuoteLine, IsQuoteLine, quoted_bytes, open_quote, view, Stands, piece_here, none_begins, columns, order_of, text_starts, quote_continues}
use Rattle.tocmark_laws.proofs.WordsReading.{IsWordByte, IsWordLine, words_from, free_letter}

-- ---- the kind

printable_word : (k : BlockQuoteKind) → list_all is_printable (kind_word k) ≡ true
printable_word Note = refl
printable_word Tip = refl
printable_word Important = refl
printable_word Warning = refl
printable_word Caution = refl

word_shown : (k : BlockQuoteKind) → AllByRecursion IsPrintable (kind_word k)
word_shown k = all_from is_printable IsPrintable (kind_word k) printable_from (printable_word k)

line_shown : (k : BlockQuoteKind) → AllByRecursion IsPrintable (kind_line k)
line_shown k =
    let mark : (b : ℕ) → 32 ≤ b → b < 127 → IsPrintable b = λ b low high. record { low = low; high = high } in
    (mark 62 (omega arith) (omega arith), (mark 32 (omega arith) (omega arith), (mark 91 (omega arith) (omega arith), (mark 33 (omega arith) (omega arith), all_both IsPrintable (kind_word k) (93 ∷ []) (word_shown k) (mark 93 (omega arith) (omega arith), tt)))))

-- what is after the mark names the kind
kind_is : (k : BlockQuoteKind) → quote_kind_of (91 ∷ 33 ∷ (kind_word k ++ 93 ∷ [])) ≡ Some k
unfolding quote_kind_of kind_named same_word
kind_is Note = refl
kind_is Tip = refl
kind_is Important = refl
kind_is Warning = refl
kind_is Caution = refl

-- ---- pages

abbrev kind_block : BlockQuoteKind → ℕ → Block
kind_block k to = record { depth = 0; kind = kind.Quote (Some k); start = 0; end = to; first = 0; last = 0; loose = false; list = None; task = None }

abbrev inner_block : ℕ → ℕ → ℕ → Block
inner_block from to last = record { depth = 1; kind = kind.Paragraph; start = from; end = to; first = 0; last = last; loose = false; list = None; task = None }

-- a quote of this kind whose paragraph has no line yet
abbrev named : BlockQuoteKind → ℕ → ℕ → ℕ → ℕ → HeaderLine → State
named k to_end to_line end number header = record first_page {
  blocks = kind_block k 0 ∷ inner_block 2 2 0 ∷ [];
  opened = open_quote to_end to_line true ∷ [];
  quotes = 0 ∷ [];
  leaf = leaf.Paragraph;
  end = end;
  line = number;
  header = header;
}

-- ---- the line with the kind

module _ (known : Known) (has : known.syntax.quote_kinds ≡ true) (text : List ℕ) (k : BlockQuoteKind) (end next : ℕ) where
  abbrev word : List ℕ
  word = kind_word k ++ 93 ∷ []

  abbrev cells : List Cell
  cells = numbered 0 (62 ∷ 32 ∷ 91 ∷ 33 ∷ word)

  abbrev l : Line
  l = record { number = 1; start = 0; end = end; next = next }

  abbrev behind : LineStart
  behind = record { cursor = at_column 2; depth = 1 }

  abbrev empty : State
  empty = record first_page {
    blocks = record { depth = 0; kind = kind.Quote None; start = 0; end = 0; first = 0; last = 0; loose = false; list = None; task = None } ∷ [];
    opened = open_quote end 1 false ∷ [];
    quotes = 0 ∷ [];
  }

  quote_found : container_in known.syntax cells (tail_of cells) front false ≡ Some begins.Quote
  unfolding container_in container_at
  quote_found =
      let some : nat_le (length cells) 0 ≡ false = grind (arith, nat_tests) in
      rw (no_definition known.syntax cells refl, no_note known.syntax cells (free_note 0 62 (32 ∷ 91 ∷ 33 ∷ word) refl), some) refl

  quote_opens : quote_opened text cells l here first_page ≡ (empty, behind)
  unfolding quote_opened after_quote opened_with begun loosened had_marked list_of is_apart list_left is_quote closed_to leaf_closed times moved
  quote_opens = refl

  no_note_there : note_at cells 2 ≡ None
  unfolding note_at note_label starts_at
  no_note_there = refl

  no_note_start : note_start known.syntax cells (at_column 2) ≡ None
  unfolding note_start
  no_note_start = rw no_note_there (either _)
    where
      either : (t : Bool) → if◌then◌else◌ {A = Option FootnoteStart} t None None ≡ None
      either true = refl
      either false = refl

  no_definition_there : definition_start known.syntax cells (at_column 2) ≡ None
  unfolding definition_start begins_term
  no_definition_there = rw (never, never) refl

  no_container_there : (inside : Bool) → container_at cells (tail_of cells) (at_column 2) inside ≡ None
  unfolding container_at is_rule is_rule_byte item_at marker_at bullet_at ordered_at
  no_container_there inside =
      let ink : nat_le (length cells) 2 ≡ false = grind (arith, nat_tests) in
      rw ink refl

  none_there : (inside : Bool) → container_in known.syntax cells (tail_of cells) (at_column 2) inside ≡ None
  unfolding container_in
  none_there inside = rw (no_definition_there, no_note_start, no_container_there inside) refl

  quote_comes : containers_opened_in known.syntax text cells l (tail_of cells) here first_page ≡ (empty, behind)
  unfolding container_once_in goes_directly is_paragraph
  quote_comes =
      let once : container_once_in known.syntax text cells l (tail_of cells) here first_page ≡ (empty, Some behind) = ap (begun_at text cells l here first_page) quote_found ∙ ap some_place quote_opens in
      let none : container_once_in known.syntax text cells l (tail_of cells) behind empty ≡ (empty, None) = ap (begun_at text cells l behind empty) (none_there (goes_directly 1 empty)) in
      repeated_more (container_once_in known.syntax text cells l (tail_of cells)) (length cells) here behind first_page empty (omega arith) (sym once)
      ∙ repeated_stop (container_once_in known.syntax text cells l (tail_of cells)) (length cells - 1) behind empty empty (omega arith) (sym none)

  kind_here : bytes_between text 2 end ≡ 91 ∷ 33 ∷ word → quote_kind_in known text cells l behind empty ≡ Some k
  unfolding quote_kind_in is_new_quote is_quote code_piece is_split
  kind_here stands =
      let ink : nat_le (length cells) 2 ≡ false = grind (arith, nat_tests) in
      let inner : nat_lt 2 (length cells) ≡ true = grind (arith, nat_tests) in
      let says : quote_kind_of (bytes_between text 2 end) ≡ Some k = ap quote_kind_of stands ∙ kind_is k in
      rw (has, ink, inner, says) refl

  kind_comes : bytes_between text 2 end ≡ 91 ∷ 33 ∷ word → leaf_started_in known text cells l here first_page ≡ named k end 1 end 1 Never
  unfolding leaf_started_in started_in quote_kind_or quote_kind_started leaf_opened list_left is_list begun loosened had_marked list_of is_apart
  kind_comes stands =
      ap (started_at_in known text cells l (tail_of cells)) quote_comes
      ∙ rw (kind_here stands) refl

  no_row : delimiters_taken text cells l front (goes_directly 0 first_page) first_page ≡ (first_page, false)
  unfolding delimiters_taken may_delimit goes_directly is_paragraph
  no_row = refl

  kind_passed : bytes_between text 2 end ≡ 91 ∷ 33 ∷ word → (now : HeaderLine) × (passed_in known text cells l here first_page ≡ named k end 1 end 1 now)
  unfolding passed_in tabled_in
  kind_passed stands = by_tables known.syntax.tables
    where
      by_tables : (t : Bool) → (now : HeaderLine) × ((if t then tabled_as known text cells l here (delimiters_taken text cells l front (goes_directly 0 first_page) first_page) else leaf_started_in known text cells l here first_page) ≡ named k end 1 end 1 now)
      by_tables true = (header_of cells front (is_lazy here first_page (leaf_started_in known text cells l here first_page)), ap (tabled_as known text cells l here) no_row ∙ ap (λ (u : State). record u { header = header_of cells front (is_lazy here first_page (leaf_started_in known text cells l here first_page)) }) (kind_comes stands))
      by_tables false = (Never, kind_comes stands)

  ink_front : first_cursor cells ≡ front
  unfolding first_cursor
  ink_front = refl

  row_within : AllByRecursion IsWithin (62 ∷ 32 ∷ 91 ∷ 33 ∷ word)
  row_within = all_implied IsPrintable IsWithin (62 ∷ 32 ∷ 91 ∷ 33 ∷ word) within_byte (line_shown k)

  pub kind_taken : bytes_between text 0 end ≡ kind_line k → bytes_between text 2 end ≡ 91 ∷ 33 ∷ word → length (kind_line k) < 2 ^ 64 → (now : HeaderLine) × (line_taken_in known text first_page l ≡ named k end 1 end 1 now)
  unfolding line_taken_in cells_taken_in touched leaf_turn is_table
  kind_taken all stands fits =
      let come = kind_passed stands in (
        come.0,
        ap (λ c. cells_taken_in known text c l first_page) (ap (cells_of [] 0) all ∙ cells_within 0 (kind_line k) row_within (omega (arith, fits)))
            ∙ ap (λ c. taken_at_in known text cells l (record { cursor = c; depth = 0 }) first_page) ink_front
            ∙ ap (λ t. turn_taken_in known t text cells l here first_page) (passes known text cells l first_page refl refl refl)
            ∙ come.1,
      )

-- ---- the line of words

module _ (known : Known) (text : List ℕ) (k : BlockQuoteKind) (q : QuoteLine) (h : IsQuoteLine false q) (from end next end0 : ℕ) (header : HeaderLine) where
  abbrev row_cells : List Cell
  row_cells = numbered from (quoted_bytes false q)

  abbrev row_line : Line
  row_line = record { number = 2; start = from; end = end; next = next }

  abbrev place : LineStart
  place = record { cursor = at_column 2; depth = 1 }

  abbrev p : Piece
  p = piece_of 0 (from + 2) end next

  abbrev before : State
  before = named k end0 1 end0 1 header

  abbrev reached : State
  reached = named k end 2 end0 1 header

  abbrev begun_here : State
  begun_here = record reached { blocks = kind_block k 0 ∷ inner_block p.start 2 0 ∷ [] }

  abbrev full : HeaderLine → State
  full now = record begun_here { pieces = p ∷ []; kept = 1; end = end; line = 2; header = now }

  reaches : end0 ≤ end → touched row_line 1 before ≡ reached
  unfolding touched raised_at raised
  reaches e =
      let far : max end0 end ≡ end = omega (arith, e) in
      rw far refl

  starts : text_started p.start reached ≡ begun_here
  unfolding text_started
  starts = refl

  words_come : Stands false known text q h from end next 2 → text_taken text row_cells row_line place reached ≡ full header
  unfolding text_taken is_paragraph
  words_come w =
      ap (λ (x : Piece). piece_taken x row_line true (text_started x.start reached)) (piece_here false known text q h from end next 2)
      ∙ ap (λ (s : State). piece_taken p row_line true s) starts
      ∙ piece_taken_whole p row_line begun_here (order_of false known text q h from end next 2 w) refl

  comes : Stands false known text q h from end next 2 → leaf_started_in known text row_cells row_line place reached ≡ full header
  unfolding leaf_started_in started_in
  comes w =
      ap (started_at_in known text row_cells row_line (tail_of row_cells)) (repeated_stop (container_once_in known.syntax text row_cells row_line (tail_of row_cells)) (length row_cells) place reached reached (omega arith) (sym (none_begins false known text q h from end next 2 reached)))
      ∙ ap (λ x. started_in known x text row_cells row_line (tail_of row_cells) place reached) (text_starts false known text q h from end next 2 (is_paragraph leaf.Paragraph) (goes_directly 1 reached) reached w)
      ∙ words_come w

  row_is_text : Stands false known text q h from end next 2 → delimiters_taken text row_cells row_line (at_column 2) (goes_directly 1 reached) reached ≡ (reached, false)
  unfolding delimiters_taken may_delimit
  row_is_text w =
      let none : is_delimiter_row (bytes_between text (cell_place row_cells 2 end) end) ≡ false =
      ap (λ n. is_delimiter_row (bytes_between text n end)) (place_numbered from (62 ∷ 32 ∷ []) q.letter q.others end) ∙ ap is_delimiter_row (w.1) ∙ free_row q.letter q.others (free_letter q.letter h.letter)
      in
      rw (none, never) refl

  passed_here : Stands false known text q h from end next 2 → (now : HeaderLine) × (passed_in known text row_cells row_line place reached ≡ full now)
  unfolding passed_in tabled_in
  passed_here w = by_tables known.syntax.tables
    where
      by_tables : (t : Bool) → (now : HeaderLine) × ((if t then tabled_as known text row_cells row_line place (delimiters_taken text row_cells row_line (at_column 2) (goes_directly 1 reached) reached) else leaf_started_in known text row_cells row_line place reached) ≡ full now)
      by_tables true = (header_of row_cells (at_column 2) (is_lazy place reached (leaf_started_in known text row_cells row_line place reached)), ap (tabled_as known text row_cells row_line place) (row_is_text w) ∙ ap (λ (u : State). record u { header = header_of row_cells (at_column 2) (is_lazy place reached (leaf_started_in known text row_cells row_line place reached)) }) (comes w))
      by_tables false = (header, comes w)

  away : turn_in known text row_cells row_line place reached ≡ turn.Passes
  unfolding turn_in turn_of is_table leaf_turn
  away = rw never refl

  pub words_taken : Stands false known text q h from end next 2 → end0 ≤ end → (now : HeaderLine) × (line_taken_in known text before row_line ≡ full now)
  unfolding line_taken_in cells_taken_in
  words_taken w e =
      let come = passed_here w in (
        come.0,
        ap (λ c. cells_taken_in known text c row_line before) (columns false known text q h from end next 2 w)
            ∙ ap (λ m. taken_at_in known text row_cells row_line (record { cursor = m.1; depth = m.0 }) (touched row_line (m.0) before)) (quote_continues false known text q h from end next 2 end0 1 true)
            ∙ ap (λ (u : State). taken_at_in known text row_cells row_line place u) (reaches e)
            ∙ ap (λ t. turn_taken_in known t text row_cells row_line place reached) away
            ∙ come.1,
      )

  pub page_ends : (now : HeaderLine) → (byte_at text (from + 2) == 91) ≡ false → view (closed_to text 0 (full now)) ≡ record { blocks = kind_block k end ∷ inner_block (from + 2) end 1 ∷ []; pieces = p ∷ []; definitions = [] }
  unfolding closed_to leaf_closed settled definitions_from begins_definition shortened leaf_finished finished raised_at raised one_closed is_quote ended times
  page_ends now bracket = let same : max end end ≡ end = omega arith in simp (bracket, same) refl

-- ---- the law

module _ (syntax : Syntax) (has : syntax.quote_kinds ≡ true) (k : BlockQuoteKind) (c : ℕ) (cs : List ℕ) (w : IsWordLine c cs) where
  abbrev words : List ℕ
  words = c ∷ cs

  abbrev first : List ℕ
  first = kind_line k

  abbrev q : QuoteLine
  q = record { letter = c; others = cs }

  abbrev text_here : List ℕ
  text_here = kind_quote k words

  abbrev n : ℕ
  n = length first

  abbrev size : ℕ
  size = length text_here

  abbrev from_here : ℕ
  from_here = n + 1

  abbrev at_words : ℕ
  at_words = from_here + 2

  line_known : IsQuoteLine false q
  line_known = record {
    letter = w.letter;
    within = (within_byte 62 (record { low = omega arith; high = omega arith }), (within_byte 32 (record { low = omega arith; high = omega arith }), all_implied IsWordByte IsWithin words (λ x i. within_byte x i.printable) w.bytes));
  }

  size_is : size ≡ n + 3 + length words
  size_is = length-append first (10 ∷ 62 ∷ 32 ∷ words) ∙ (let r : n + suc (suc (suc (length words))) ≡ n + 3 + length words = omega arith in r)

  clean : AreClean text_here
  clean =
      all_both IsClean first (10 ∷ 62 ∷ 32 ∷ words) (all_implied IsPrintable IsClean first clean_byte (line_shown k))
      (clean_feed, (mark_clean 62 (omega arith) (omega arith), (mark_clean 32 (omega arith) (omega arith), all_implied IsWordByte IsClean words (λ x i. clean_byte x i.printable) w.bytes)))

  abbrev kind_view : BlocksView
  kind_view = record { blocks = kind_block k size ∷ inner_block at_words size 1 ∷ []; pieces = piece_of 0 at_words size size ∷ []; definitions = [] }

  last_parts : text_here ≡ (first ++ 10 ∷ 62 ∷ 32 ∷ []) ++ (words ++ [])
  last_parts = sym (append_assoc first (10 ∷ 62 ∷ 32 ∷ []) words) ∙ ap (λ (ys : List ℕ). (first ++ 10 ∷ 62 ∷ 32 ∷ []) ++ ys) (sym (append-nil words))

  last_place : at_words ≡ length (first ++ 10 ∷ 62 ∷ 32 ∷ [])
  last_place = (let r : n + 1 + 2 ≡ n + 3 = omega arith in r) ∙ sym (length-append first (10 ∷ 62 ∷ 32 ∷ []))

  last_end : at_words + length words ≡ size
  last_end = omega (arith, size_is)

  last_stands : bytes_between text_here at_words size ≡ words
  last_stands = piece_between text_here (first ++ 10 ∷ 62 ∷ 32 ∷ []) words [] at_words size last_parts last_place (sym last_end ∙ ap (λ i. i + length words) last_place)

  known_has : (lines : List Line) → (known_of syntax text_here lines).syntax.quote_kinds ≡ true
  unfolding known_of
  known_has lines = has

  blocks_are : size < 2 ^ 64 → blocks_in syntax text_here ≡ kind_view
  unfolding blocks_in page_in
  blocks_are fits =
      let row : List ℕ = quoted_bytes false q in
      let one : Line = line 0 0 n from_here in
      let two : Line = line 1 from_here size size in
      let lines : List Line = one ∷ two ∷ [] in
      let known : Known = known_of syntax text_here lines in
      let zero_end : 0 + length first ≡ n = omega arith in
      let row_end : from_here + length row ≡ size = omega (arith, size_is) in
      let split : lines_of text_here ≡ lines =
      lines_split text_here (no_returns text_here clean) 0 0 first (row ∷ []) (record { some = omega arith; within = all_implied IsPrintable IsWithin first within_byte (line_shown k) }, (record { some = omega arith; within = line_known.within }, tt))
      ∙ ap (λ m. line 0 0 m (m + 1) ∷ line 1 (m + 1) (m + 1 + length row) (m + 1 + length row) ∷ []) zero_end
      ∙ ap (λ m. line 0 0 n from_here ∷ line 1 from_here m m ∷ []) row_end
      in
      let all : bytes_between text_here 0 n ≡ first = piece_between text_here [] first (10 ∷ 62 ∷ 32 ∷ words) 0 n refl refl (let r : n ≡ 0 + n = omega arith in r) in
      let tag : List ℕ = 91 ∷ 33 ∷ (kind_word k ++ 93 ∷ []) in
      let tag_stands : bytes_between text_here 2 n ≡ tag = piece_between text_here (62 ∷ 32 ∷ []) tag (10 ∷ 62 ∷ 32 ∷ words) 2 n refl refl (let r : n ≡ 2 + length tag = omega arith in r) in
      let pre : List ℕ = first ++ 10 ∷ [] in
      let whole_text : text_here ≡ pre ++ (row ++ []) = sym (append_assoc first (10 ∷ []) row) ∙ ap (λ (ys : List ℕ). pre ++ ys) (sym (append-nil row)) in
      let at : from_here ≡ length pre = sym (length-append first (10 ∷ [])) in
      let byte : byte_at text_here at_words ≡ c = ap (λ (ys : List ℕ). byte_at ys at_words) last_parts ∙ byte_behind (first ++ 10 ∷ 62 ∷ 32 ∷ []) (cs ++ []) c at_words last_place in
      let stands : (bytes_between text_here from_here size ≡ row) × (bytes_between text_here at_words size ≡ words) × ((byte_at text_here at_words == 91) ≡ false) × (at_words < size) × (from_here + length row < 2 ^ 64) = (
        piece_between text_here pre row [] from_here size whole_text at (sym row_end ∙ ap (λ m. m + length row) at),
        last_stands,
        ap (λ x. x == 91) byte ∙ turned is_ascii_alphabetic 91 c w.letter refl,
        omega (arith, size_is),
        omega (arith, row_end, fits),
      ) in
      let named_first = kind_taken known (known_has lines) text_here k n from_here all tag_stands (omega (arith, size_is, fits)) in
      let worded = words_taken known text_here k q line_known from_here size size n (named_first.0) stands (omega (arith, size_is)) in
      ap (λ ls. view (closed_to text_here 0 (fold (line_taken_in (known_of syntax text_here ls) text_here) first_page ls))) split
      ∙ ap (λ (s : State). view (closed_to text_here 0 (line_taken_in known text_here s two))) (named_first.1)
      ∙ ap (λ (s : State). view (closed_to text_here 0 s)) (worded.1)
      ∙ page_ends known text_here k q line_known from_here size size n (named_first.0) (worded.0) (stands.2)

  collected : collected_from syntax text_here kind_view ≡ defs.collected_none
  unfolding collected_from noted_as
  collected = by_test syntax.footnotes
    where
      by_test : (t : Bool) → (if t then reading.noted text_here kind_view.blocks (collected_in syntax.names []) else collected_in syntax.names []) ≡ defs.collected_none
      by_test true = refl
      by_test false = refl

  abbrev find : List ℕ → Option Entry
  find = first_entry syntax.undefined_notes [] []

  abbrev words_here : inlines.State
  words_here = record no_inlines { nodes = node 2 item.Text at_words (at_words + length words) ∷ [] }

  abbrev page_one : pages.State
  page_one = with_block text_here (kind_block k size) (start_state [])

  abbrev page_two : pages.State
  page_two = with_inlines words_here (with_block text_here (inner_block at_words size 1) page_one)

  abbrev found_state : pages.State → FoundView
  found_state page = record { nodes = page.nodes; defined = []; unresolved = defs.distinct_labels page.inlines.texts page.inlines.missed }

  first_put : block_step_in syntax text_here find kind_view.blocks kind_view.pieces (start_state []) (kind_block k size) ≡ page_one
  unfolding is_unwrapped block_taken_in
  first_put = refl

  second_put : size < 2 ^ 64 → block_step_in syntax text_here find kind_view.blocks kind_view.pieces page_one (inner_block at_words size 1) ≡ page_two
  unfolding is_unwrapped block_taken_in paragraph_taken_in with_block
  second_put fits =
      let piece : Piece = piece_of 0 at_words size size in
      paragraph_put syntax text_here find (inner_block at_words size 1) piece page_one (record { bytes = words; places = places_of at_words words }) words_here (words_content text_here piece c cs last_stands last_end (omega arith) fits w)
      (words_inlines syntax find no_inlines at_words 2 c cs w.bytes (omega (arith, size_is, fits)))

  found : size < 2 ^ 64 → found_under syntax text_here ≡ found_state page_two
  found fits =
      found_from syntax text_here kind_view defs.collected_none (blocks_are fits) collected
      ∙ ap (λ (st : pages.State). found_state (block_step_in syntax text_here find kind_view.blocks kind_view.pieces st (inner_block at_words size 1))) first_put
      ∙ ap found_state (second_put fits)

  emits : merged (unplaced (emitted text_here page_two.nodes)) ≡ kind_events k words
  unfolding with_block block_tag task_nodes inline_node inline_item
  emits = ap (kind_events k) (source_between text_here (first ++ 10 ∷ 62 ∷ 32 ∷ []) words [] at_words (at_words + length words) last_parts last_place (ap (λ i. i + length words) last_place) clean)

  pub is_read : size < 2 ^ 64 → IsReadAs (reading_of syntax text_here) (kind_events k words)
  unfolding reading_of with_block
  is_read fits = record {
    events = ap (λ (f : FoundView). merged (unplaced (emitted text_here f.nodes))) (found fits) ∙ emits;
    defined = ap (λ (f : FoundView). f.defined) (found fits);
    unresolved = ap (λ (f : FoundView). f.unresolved) (found fits);
  }

pub kinds_read : (syntax : Syntax) (k : BlockQuoteKind) (words : List ℕ) → syntax.quote_kinds ≡ true → is_word_line words ≡ true → length (kind_quote k words) < 2 ^ 64 → IsReadAs (reading_of syntax (kind_quote k words)) (kind_events k words)
kinds_read syntax k [] has plain fits = absurd (true≢false (sym plain))
kinds_read syntax k (c ∷ cs) has plain fits = is_read syntax has k c cs (words_from (c ∷ cs) plain) fits

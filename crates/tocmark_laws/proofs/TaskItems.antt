-- An item with a box in front of a phrase is read as a task.
use Rattle.std.proofs.Common.{◌≡◌, ℕ, suc, ◌+◌, ◌-◌, ◌^◌, ◌<◌, min, max, Bool, true, false, ◌==◌, if◌then◌else◌, nat_lt, nat_le, List, [], ◌∷◌, ◌++◌, length, map, refl, ap, sym, subst, ◌∙◌, arith, append-nil, length-append, Option, None, Some, inl, true≢false}
use Rattle.std.proofs.lemmas.Bool.Decides.{nat_tests}
use Rattle.std.specs.Char.{is_ascii_alphanumeric}
use Rattle.std.specs.List.{AllByRecursion, fold}
use Rattle.std.specs.Option.{option_map_or}
use Rattle.tocmark_event.specs.Merged.{merged}
use Rattle.tocmark_read_scan.specs.Basic.{bytes_between, starts_at}
use Rattle.tocmark_read_scan.specs.Class.{is_in}
use Rattle.tocmark_read_scan.specs.Content as content
use Rattle.tocmark_read_scan.specs.PlainParts.{Part, spelled, last_byte}
use Rattle.tocmark_read_scan.specs.declared.class.Class.TheVariants.{White}
use Rattle.tocmark_read_scan.specs.declared.syntax.Syntax.{Syntax}
use Rattle.tocmark_read_scan.proofs.PlainContent.{places_of, get_behind}
use Rattle.tocmark_read_scan.proofs.PlainPieces.{piece_between}
use Rattle.tocmark_read_scan.proofs.PlainTests.{turned}
use Rattle.tocmark_read_scan.proofs.Repeats.{repeated_more, repeated_stop}
use Rattle.tocmark_read_tokens.specs.Footnotes.{note_label}
use Rattle.tocmark_read_lines.specs.Cells.{cells_of, cell, cell_place, first_cursor, moved}
use Rattle.tocmark_read_lines.specs.Containers.{container_at, container_in, item_at, item_gap, raised, raised_at, is_empty_item}
use Rattle.tocmark_read_lines.specs.DefinitionLists.{begins_definition, definition_start}
use Rattle.tocmark_read_lines.specs.Lines.{lines_of, line}
use Rattle.tocmark_read_lines.specs.Marks.{is_rule, is_rule_byte, marker_at, bullet_at, ordered_at, is_behind, tail_of}
use Rattle.tocmark_read_lines.specs.Footnotes.{note_at, note_start}
use Rattle.tocmark_read_lines.specs.declared.cell.Cell.{Cell}
use Rattle.tocmark_read_lines.specs.declared.container.Container.TheVariants as container
use Rattle.tocmark_read_lines.specs.declared.container.ContainerStart.TheVariants as begins
use Rattle.tocmark_read_lines.specs.declared.container.ItemStart.{ItemStart}
use Rattle.tocmark_read_lines.specs.declared.container.Opened.{Opened}
use Rattle.tocmark_read_lines.specs.declared.line.Line.{Line}
use Rattle.tocmark_read_lines.specs.declared.footnote.FootnoteStart.{FootnoteStart}
use Rattle.tocmark_read_page.specs.Leaves.{is_paragraph, is_table}
use Rattle.tocmark_read_page.specs.Pages.{State, first_page, leaf_opened, leaf_closed, closed_to, times, list_left, begun, loosened, had_marked, list_of, is_apart, leaf_finished, finished, piece_taken, opened_with, is_list, is_quote, left_noted, some_place, settled, one_closed, ended}
use Rattle.tocmark_read_page.specs.Pieces.{piece_of}
use Rattle.tocmark_read_page.specs.declared.leaf.Leaf.TheVariants as leaf
use Rattle.tocmark_read_page.specs.declared.line_start.Known.{Known}
use Rattle.tocmark_read_page.specs.declared.line_start.LineStart.{LineStart}
use Rattle.tocmark_read_page.specs.declared.page.Block.{Block}
use Rattle.tocmark_read_page.specs.declared.page.BlockKind.TheVariants as kind
use Rattle.tocmark_read_page.specs.declared.page.HeaderLine.{HeaderLine}
use Rattle.tocmark_read_page.specs.declared.page.HeaderLine.TheVariants.{Never}
use Rattle.tocmark_read_page.specs.declared.piece.Piece.{Piece}
use Rattle.tocmark_read_constructs.specs.Metadata.{known_of}
use Rattle.tocmark_read_constructs.specs.Quotes.{quote_kind_in, is_new_quote, is_first_line, tag_in}
use Rattle.tocmark_read_constructs.specs.Tables.{may_delimit, delimiters_taken}
use Rattle.tocmark_read_constructs.specs.Tasks.{is_box_space, box_of, ends_box, box_at, is_new_item, task_in, task_started, boxed_taken}
use Rattle.tocmark_read_constructs.specs.Tasks as tasks
use Rattle.tocmark_read_blocks.specs.Blocks.{BlocksView, blocks_in, page_in, start_or, leaf_started_in, started_in, started_at_in, tabled_in, tabled_as, noted, passed_in, touched, taken_at_in, turn_taken_in, cells_taken_in, line_taken_in}
use Rattle.tocmark_read_blocks.specs.Containers.{container_once_in, containers_opened_in, goes_directly, begun_at, item_opened, list_started, is_in_list}
use Rattle.tocmark_read_blocks.specs.Leaves.{leaf_at, leaf_turn, task_or, quote_kind_or, tag_or}
use Rattle.tocmark_read_blocks.specs.declared.leaf.LeafStart.{LeafStart}
use Rattle.tocmark_read_blocks.specs.declared.leaf.LeafStart.TheVariants as start
use Rattle.tocmark_read_blocks.proofs.PlainLines.{IsWithin, cells_within, numbered}
use Rattle.tocmark_read_blocks.proofs.PlainSteps.{front}
use Rattle.tocmark_read_spans.specs.Definitions as defs
use Rattle.tocmark_read_inlines.specs.Inlines as inlines
use Rattle.tocmark_read_inlines.specs.declared.write.InlineKind.TheVariants as item
use Rattle.tocmark_read_inlines.specs.declared.write.Node.{Node}
use Rattle.tocmark_read_inlines.proofs.PlainLeaf.{known}
use Rattle.tocmark_read_inlines.proofs.PlainNeighbours.{ArePlainParts, plain_parts_are_read}
use Rattle.tocmark_read_inlines.proofs.PlainNodes.{node}
use Rattle.tocmark_reader.specs.Emitted.{emitted}
use Rattle.tocmark_reader.specs.Inlines.{inline_node, inline_item}
use Rattle.tocmark_reader.specs.Pages as pages
use Rattle.tocmark_reader.specs.Pages.{start_state, pieces_of, is_unwrapped, block_taken_in, paragraph_taken_in, bare_in, task_nodes, with_block, with_task, leaf_inlines_in, with_lines_of, with_inlines, content_line, block_tag}
use Rattle.tocmark_reader.specs.PlainTexts.{IsReadAs}
use Rattle.tocmark_reader.specs.QuietLines.{is_text_byte}
use Rattle.tocmark_reader.specs.Reading.{FoundView, collected_in, collected_from, first_entry, found_under, noted_as, reading_of}
use Rattle.tocmark_reader.specs.Reading as reading
use Rattle.tocmark_reader.proofs.FormulaLines.{one_line}
use Rattle.tocmark_reader.proofs.PlainEvents.{unplaced, source_of}
use Rattle.tocmark_reader.proofs.PlainReading.{IsPrintable}
use Rattle.tocmark_reader.proofs.PlainSources.{IsClean, AreClean, all_implied, source_between}
use Rattle.tocmark_reader.proofs.PlacedParts.{parts_inlines_at}
use Rattle.tocmark_reader.proofs.QuietContent.{IsQuietLine, content_of_quiet, split_last}
use Rattle.tocmark_reader.proofs.QuietInlines.{IsTextOrFeed, read_alike}
use Rattle.tocmark_laws.specs.Extensions.{is_phrase, box_byte, task_line, task_events}
use Rattle.tocmark_laws.proofs.AttributedHeadings.{text_and_some, ink_letter, nodes_on, trailing_none, mark_shown}
use Rattle.tocmark_laws.proofs.DocumentHeadings.{numbered_append}
use Rattle.tocmark_laws.proofs.ExtensionBlocks.{never, here, no_definition, no_note, passes, header_behind}
use Rattle.tocmark_laws.proofs.ExtensionParagraphs.{found_with, found_from, whole_pieces, no_inlines, within_byte, clean_byte, no_returns}
use Rattle.tocmark_laws.proofs.FrontMatterBlocks.{lines_split}
use Rattle.tocmark_laws.proofs.StrikethroughReading.{IsPhrase, phrase_from}
use Rattle.tocmark_laws.proofs.WordsReading.{IsWordByte, text_byte, bare, spelled_bare, bare_plain}

either_none : (k : Bool) → if◌then◌else◌ {A = Option FootnoteStart} k None None ≡ None
either_none true = refl
either_none false = refl

no_caret : (done : Bool) → (94 == box_byte done) ≡ false
no_caret true = refl
no_caret false = refl

box_says : (done : Bool) → box_of (box_byte done) ≡ Some done
unfolding box_of is_box_space
box_says true = refl
box_says false = refl

box_shown : (done : Bool) → IsPrintable (box_byte done)
box_shown true = mark_shown 120 (omega arith) (omega arith)
box_shown false = mark_shown 32 (omega arith) (omega arith)

-- a line whose last byte is no dash is no thematic break
other_tail : (ds : List Cell) (d : Cell) → (d.byte == 32) ≡ false → (45 == d.byte) ≡ false → (45 == (tail_of (ds ++ d ∷ [])).byte) ≡ false
unfolding tail_of
other_tail ds d h k =
    let all : length (ds ++ d ∷ []) ≡ length ds + 1 = length-append ds (d ∷ []) in
    let last : length (ds ++ d ∷ []) - 0 - 1 ≡ length ds = omega (arith, all) in
    rw (trailing_none ds d 32 h, last) (ap (λ o. 45 == option_map_or (λ (c : Cell). c.byte) o 10) (get_behind ds [] d) ∙ k)

-- a task with a phrase
module _ (done : Bool) (b : ℕ) (bs : List ℕ) where
  abbrev words : List ℕ
  words = b ∷ bs

  abbrev n : ℕ
  n = length words

  abbrev text : List ℕ
  text = task_line done words

  abbrev size : ℕ
  size = length text

  abbrev cells : List Cell
  cells = numbered 0 text

  abbrev whole_line : Line
  whole_line = line 0 0 size size

  abbrev there : LineStart
  there = record { cursor = record { column = 2; ink = 2 }; depth = 2 }

  abbrev list_block : ℕ → Block
  list_block end = record { depth = 0; kind = kind.List None; start = 0; end = end; first = 0; last = 0; loose = false; list = None; task = None }

  abbrev item_block : ℕ → Block
  item_block end = record { depth = 1; kind = kind.Item; start = 0; end = end; first = 0; last = 0; loose = false; list = Some 0; task = None }

  abbrev task_block : ℕ → ℕ → Block
  task_block end last = record { depth = 2; kind = kind.Paragraph; start = 2; end = end; first = 0; last = last; loose = false; list = Some 0; task = Some (record { done = done; start = 2 }) }

  abbrev piece : Piece
  piece = piece_of 0 6 size size

  abbrev open_containers : Bool → List Opened
  open_containers had =
      record { container = container.List 45; block = 0; end = size; line = 1; had = true }
      ∷ record { container = container.Item 2; block = 1; end = size; line = 1; had = had }
      ∷ []

  -- the page with an item, and with its task
  abbrev item_page : State
  item_page = record first_page { blocks = list_block 0 ∷ item_block 0 ∷ []; opened = open_containers false }

  abbrev task_page : HeaderLine → State
  task_page header = record first_page {
    blocks = list_block 0 ∷ item_block 0 ∷ task_block 2 0 ∷ [];
    pieces = piece ∷ [];
    opened = open_containers true;
    leaf = leaf.Paragraph;
    end = size;
    line = 1;
    kept = 1;
    header = header;
  }

  abbrev task_blocks : BlocksView
  task_blocks = record { blocks = list_block size ∷ item_block size ∷ task_block size 1 ∷ []; pieces = piece ∷ []; definitions = [] }

  abbrev start_of_item : ItemStart
  start_of_item = record { sort = 45; number = None; width = 2; next = 2 }

  task_size : size ≡ n + 6
  task_size = let q : suc (suc (suc (suc (suc (suc n))))) ≡ n + 6 = omega arith in q

  split_cells : cells ≡ numbered 0 (45 ∷ 32 ∷ 91 ∷ box_byte done ∷ 93 ∷ 32 ∷ (split_last b bs).0) ++ cell (last_byte b bs) (0 + length (45 ∷ 32 ∷ 91 ∷ box_byte done ∷ 93 ∷ 32 ∷ (split_last b bs).0)) ∷ []
  split_cells =
      let pre : List ℕ = 45 ∷ 32 ∷ 91 ∷ box_byte done ∷ 93 ∷ 32 ∷ (split_last b bs).0 in
      ap (λ (l : List ℕ). numbered 0 (45 ∷ 32 ∷ 91 ∷ box_byte done ∷ 93 ∷ 32 ∷ l)) ((split_last b bs).1) ∙ numbered_append 0 pre (last_byte b bs ∷ [])

  no_rule : IsPhrase b bs → is_rule cells (tail_of cells) 0 ≡ false
  unfolding is_rule is_rule_byte
  no_rule h =
      let y : ℕ = last_byte b bs in
      let space : (y == 32) ≡ false = turned is_ascii_alphanumeric 32 y h.last refl in
      let dash : (y == 45) ≡ false = turned is_ascii_alphanumeric 45 y h.last refl in
      let other : (45 == y) ≡ false = grind (arith, dash, nat_tests) in
      let pre : List ℕ = 45 ∷ 32 ∷ 91 ∷ box_byte done ∷ 93 ∷ 32 ∷ (split_last b bs).0 in
      let none : (45 == (tail_of cells).byte) ≡ false = ap (λ (cs : List Cell). 45 == (tail_of cs).byte) split_cells ∙ other_tail (numbered 0 pre) (cell y (0 + length pre)) space other in
      rw none refl

  item_here : IsPhrase b bs → container_at cells (tail_of cells) front false ≡ Some (begins.Item start_of_item)
  unfolding container_at item_at marker_at bullet_at is_behind item_gap
  item_here h =
      let some : nat_le (length cells) 0 ≡ false = grind (arith, nat_tests) in
      let more : nat_le (length cells) 1 ≡ false = grind (arith, nat_tests) in
      let ink : nat_le (length cells) 2 ≡ false = grind (arith, nat_tests) in
      let next : min 2 (length cells) ≡ 2 = omega arith in
      rw (some, no_rule h, more, ink, next) refl

  item_opens : item_opened text cells whole_line here start_of_item first_page ≡ (item_page, there)
  unfolding item_opened list_started is_in_list opened_with begun loosened had_marked list_of is_apart list_left is_list is_quote left_noted closed_to leaf_closed times moved
  item_opens = refl

  no_note_front : note_at cells 0 ≡ None
  unfolding note_at note_label starts_at
  no_note_front = refl

  container_here : (syntax : Syntax) → IsPhrase b bs → container_in syntax cells (tail_of cells) front false ≡ Some (begins.Item start_of_item)
  unfolding container_in
  container_here syntax h = rw (no_definition syntax cells refl, no_note syntax cells no_note_front, item_here h) refl

  first_container : (syntax : Syntax) → IsPhrase b bs → container_once_in syntax text cells whole_line (tail_of cells) here first_page ≡ (item_page, Some there)
  unfolding container_once_in goes_directly is_paragraph
  first_container syntax h = ap (begun_at text cells whole_line here first_page) (container_here syntax h) ∙ ap some_place item_opens

  no_note_there : note_at cells 2 ≡ None
  unfolding note_at note_label starts_at
  no_note_there = rw (no_caret done) refl

  no_note_start : (syntax : Syntax) → note_start syntax cells there.cursor ≡ None
  unfolding note_start
  no_note_start syntax = rw no_note_there (either_none _)

  no_definition_there : (syntax : Syntax) → definition_start syntax cells there.cursor ≡ None
  unfolding definition_start begins_definition
  no_definition_there syntax = rw (never, never) refl

  no_container_there : (within : Bool) → container_at cells (tail_of cells) there.cursor within ≡ None
  unfolding container_at is_rule is_rule_byte item_at marker_at bullet_at ordered_at
  no_container_there within =
      let ink : nat_le (length cells) 2 ≡ false = grind (arith, nat_tests) in
      rw ink refl

  no_more : (syntax : Syntax) (within : Bool) → container_in syntax cells (tail_of cells) there.cursor within ≡ None
  unfolding container_in
  no_more syntax within = rw (no_definition_there syntax, no_note_start syntax, no_container_there within) refl

  second_container : (syntax : Syntax) → container_once_in syntax text cells whole_line (tail_of cells) there item_page ≡ (item_page, None)
  unfolding container_once_in
  second_container syntax = ap (begun_at text cells whole_line there item_page) (no_more syntax (goes_directly 2 item_page))

  containers_open : (syntax : Syntax) → IsPhrase b bs → containers_opened_in syntax text cells whole_line (tail_of cells) here first_page ≡ (item_page, there)
  containers_open syntax h =
      repeated_more (container_once_in syntax text cells whole_line (tail_of cells)) (length cells) here there first_page item_page (omega arith) (sym (first_container syntax h))
      ∙ repeated_stop (container_once_in syntax text cells whole_line (tail_of cells)) (length cells - 1) there item_page item_page (omega arith) (sym (second_container syntax))

  no_kind : (known : Known) → quote_kind_in known text cells whole_line there item_page ≡ None
  unfolding quote_kind_in is_new_quote is_quote
  no_kind known = rw (never, never) refl

  no_tag : (known : Known) → tag_in known text cells whole_line there false item_page ≡ false
  unfolding tag_in is_first_line
  no_tag known = rw (never, never) refl

  task_here : (known : Known) → known.syntax.task_lists ≡ true → task_in known text cells whole_line there item_page ≡ Some done
  unfolding task_in is_new_item is_empty_item box_at ends_box is_box_space
  task_here known has =
      let ink : nat_le (length cells) 2 ≡ false = grind (arith, nat_tests) in
      let room : nat_lt 5 size ≡ true = grind (arith, nat_tests) in
      rw (has, ink, room, box_says done) refl

  task_begins : (known : Known) (core : LeafStart) → known.syntax.task_lists ≡ true → start_or known text cells whole_line there false item_page core ≡ start.Task done
  unfolding quote_kind_or tag_or task_or
  task_begins known core has = rw (no_kind known, no_tag known, task_here known has) refl

  task_taken : IsPhrase b bs → task_started text cells whole_line there done item_page ≡ task_page Never
  unfolding task_started boxed_taken tasks.with_task leaf_opened begun loosened had_marked list_of is_apart list_left is_list left_noted closed_to leaf_closed times piece_taken
  task_taken h =
      let space : (b == 32) ≡ false = turned is_ascii_alphanumeric 32 b h.first refl in
      let tab : (b == 9) ≡ false = turned is_ascii_alphanumeric 9 b h.first refl in
      let room : nat_lt 6 size ≡ true = grind (arith, nat_tests) in
      rw (space, tab, room) refl

  starts_task : (known : Known) → known.syntax.task_lists ≡ true → IsPhrase b bs → leaf_started_in known text cells whole_line here first_page ≡ task_page Never
  unfolding leaf_started_in started_in goes_directly is_paragraph
  starts_task known has h =
      let core : LeafStart = leaf_at cells (bytes_between text (cell_place cells 2 size) size) (tail_of cells) there.cursor false false in
      ap (started_at_in known text cells whole_line (tail_of cells)) (containers_open known.syntax h)
      ∙ ap (λ x. started_in known x text cells whole_line (tail_of cells) there item_page) (task_begins known core has)
      ∙ task_taken h

  no_row : delimiters_taken text cells whole_line front (goes_directly 0 first_page) first_page ≡ (first_page, false)
  unfolding delimiters_taken may_delimit goes_directly is_paragraph
  no_row = refl

  task_passed : (known : Known) → known.syntax.task_lists ≡ true → IsPhrase b bs → passed_in known text cells whole_line here first_page ≡ task_page (header_behind known.syntax.tables cells Never)
  unfolding passed_in tabled_in
  task_passed known has h = by_tables known.syntax.tables
    where
      by_tables : (t : Bool) → (if t then tabled_as known text cells whole_line here (delimiters_taken text cells whole_line front (goes_directly 0 first_page) first_page) else leaf_started_in known text cells whole_line here first_page) ≡ task_page (header_behind t cells Never)
      by_tables true = ap (tabled_as known text cells whole_line here) no_row ∙ ap (noted cells here first_page) (starts_task known has h)
      by_tables false = starts_task known has h

  task_columns : AllByRecursion IsWithin text → size < 2 ^ 64 → cells_of [] 0 (bytes_between text 0 size) ≡ cells
  task_columns within fits =
      ap (cells_of [] 0) (piece_between text [] text [] 0 size (sym (append-nil text)) refl (let q : size ≡ 0 + size = omega arith in q))
      ∙ cells_within 0 text within (omega (arith, fits))

  no_space : first_cursor cells ≡ front
  unfolding first_cursor
  no_space = refl

  task_line_taken : (known : Known) → known.syntax.task_lists ≡ true → AllByRecursion IsWithin text → size < 2 ^ 64 → IsPhrase b bs → line_taken_in known text first_page whole_line ≡ task_page (header_behind known.syntax.tables cells Never)
  unfolding line_taken_in cells_taken_in touched leaf_turn is_table
  task_line_taken known has within fits h =
      ap (λ c. cells_taken_in known text c whole_line first_page) (task_columns within fits)
      ∙ ap (λ c. taken_at_in known text cells whole_line (record { cursor = c; depth = 0 }) first_page) no_space
      ∙ ap (λ t. turn_taken_in known t text cells whole_line here first_page) (passes known text cells whole_line first_page refl refl refl)
      ∙ task_passed known has h

  abbrev view : State → BlocksView
  view s = record { blocks = s.blocks; pieces = s.pieces; definitions = s.definitions }

  page_ends : (header : HeaderLine) → view (closed_to text 0 (task_page header)) ≡ task_blocks
  unfolding closed_to leaf_closed settled leaf_finished finished raised_at raised one_closed is_quote ended times
  page_ends header = let same : max size size ≡ size = omega arith in simp same refl

  known_has : (syntax : Syntax) (lines : List Line) → syntax.task_lists ≡ true → (known_of syntax text lines).syntax.task_lists ≡ true
  unfolding known_of
  known_has syntax lines has = has

  blocks_are : (syntax : Syntax) → syntax.task_lists ≡ true → AllByRecursion IsWithin text → AllByRecursion (λ x. (x == 13) ≡ false) text → size < 2 ^ 64 → IsPhrase b bs → blocks_in syntax text ≡ task_blocks
  unfolding blocks_in page_in
  blocks_are syntax has within returns fits h =
      let lines : List Line = whole_line ∷ [] in
      let known : Known = known_of syntax text lines in
      let split : lines_of text ≡ lines = lines_split text returns 0 0 text [] (record { some = omega arith; within = within }, tt) ∙ ap (λ m. line 0 0 m m ∷ []) (let q : 0 + size ≡ size = omega arith in q) in
      ap (λ ls. view (closed_to text 0 (fold (line_taken_in (known_of syntax text ls) text) first_page ls))) split
      ∙ ap (λ s. view (closed_to text 0 s)) (task_line_taken known (known_has syntax lines has) within fits h)
      ∙ page_ends (header_behind known.syntax.tables cells Never)

  -- ---- what is found

  abbrev found_state : pages.State → FoundView
  found_state page = record { nodes = page.nodes; defined = []; unresolved = defs.distinct_labels page.inlines.texts page.inlines.missed }

  -- the list and its item
  abbrev containers : pages.State
  containers = with_block text (item_block size) (with_block text (list_block size) (start_state []))

  abbrev found_of : inlines.State → FoundView
  found_of found = found_state (with_inlines found (with_task (task_block size 1) containers))

  none_collected : (syntax : Syntax) → collected_from syntax text task_blocks ≡ defs.collected_none
  unfolding collected_from noted_as
  none_collected syntax = by_test syntax.footnotes
    where
      by_test : (t : Bool) → (if t then reading.noted text task_blocks.blocks (collected_in syntax.names []) else collected_in syntax.names []) ≡ defs.collected_none
      by_test true = refl
      by_test false = refl

  found_task : (syntax : Syntax) → found_with syntax text task_blocks defs.collected_none ≡ found_state (bare_in syntax text (first_entry syntax.undefined_notes [] []) (pieces_of (piece ∷ []) 0 1) (task_block size 1) containers)
  unfolding is_unwrapped block_taken_in paragraph_taken_in
  found_task syntax = refl

  task_bare : (syntax : Syntax) → found_state (bare_in syntax text (first_entry syntax.undefined_notes [] []) (piece ∷ []) (task_block size 1) containers) ≡ found_of (inlines.read_inlines_in syntax (content.content_of text (map content_line (piece ∷ []))) 2 (first_entry syntax.undefined_notes [] []) no_inlines)
  unfolding bare_in with_task with_block task_nodes leaf_inlines_in with_lines_of
  task_bare syntax = rw (one_line syntax piece) refl

  words_stand : bytes_between text 6 size ≡ words
  words_stand = piece_between text (45 ∷ 32 ∷ 91 ∷ box_byte done ∷ 93 ∷ 32 ∷ []) words [] 6 size (ap (λ (l : List ℕ). 45 ∷ 32 ∷ 91 ∷ box_byte done ∷ 93 ∷ 32 ∷ l) (sym (append-nil words))) refl (let q : size ≡ 6 + n = omega arith in q)

  abbrev leaf_at_six : List ℕ → content.State
  leaf_at_six bytes = record { bytes = bytes; places = places_of 6 bytes }

  task_content : size < 2 ^ 64 → IsPhrase b bs → content.content_of text (map content_line (piece ∷ [])) ≡ leaf_at_six words
  task_content fits h =
      let texts : AllByRecursion (λ x. is_text_byte x ≡ true) words = all_implied IsWordByte (λ x. is_text_byte x ≡ true) words text_and_some h.bytes in
      let quiet : IsQuietLine text piece = record {
        bytes = subst (AllByRecursion (λ x. is_text_byte x ≡ true)) (sym words_stand) texts;
        ink = ap (λ (l : List ℕ). is_in White (last_byte 10 l)) words_stand ∙ ink_letter (last_byte b bs) h.last;
        width = ap (λ (l : List ℕ). 6 + length l) words_stand ∙ (let q : 6 + n ≡ size = omega arith in q);
        within = omega arith;
      } in
      content_of_quiet text piece [] quiet fits ∙ ap leaf_at_six words_stand

  task_inlines : (syntax : Syntax) → size < 2 ^ 64 → IsPhrase b bs → inlines.read_inlines_in syntax (leaf_at_six words) 2 (first_entry syntax.undefined_notes [] []) no_inlines ≡ record no_inlines { nodes = node 2 item.Text 6 size ∷ [] }
  task_inlines syntax fits h =
      let find = first_entry syntax.undefined_notes [] [] in
      let parts : List Part = bare words in
      let same : words ≡ spelled parts = sym (spelled_bare words) in
      let short : n < 2 ^ 64 = omega (arith, fits) in
      let room : length (spelled parts) < 2 ^ 64 = subst (λ (l : List ℕ). length l < 2 ^ 64) same short in
      let plain : ArePlainParts 10 parts = subst (ArePlainParts 10) (append-nil parts) (bare_plain 10 words [] h.bytes tt) in
      let end : 7 + length bs ≡ size = omega arith in
      read_alike syntax (leaf_at_six words) 2 find no_inlines (all_implied IsWordByte IsTextOrFeed words (λ x w. inl (text_byte x w)) h.bytes)
      ∙ ap (λ (l : List ℕ). inlines.read_inlines (leaf_at_six l) 2 find no_inlines) same
      ∙ parts_inlines_at parts 6 2 find no_inlines (plain_parts_are_read (spelled parts) [] (known (spelled parts)) find 0 10 parts refl refl room refl plain) room
      ∙ ap (λ (ns : List Node). (let t : inlines.State = record no_inlines { nodes = ns } in t)) (nodes_on 2 7 6 bs ∙ ap (λ m. node 2 item.Text 6 m ∷ []) end)

  -- ---- the law

  task_shown : IsPhrase b bs → AllByRecursion IsPrintable text
  task_shown h =
      (mark_shown 45 (omega arith) (omega arith), (mark_shown 32 (omega arith) (omega arith), (mark_shown 91 (omega arith) (omega arith), (box_shown done, (mark_shown 93 (omega arith) (omega arith), (mark_shown 32 (omega arith) (omega arith), all_implied IsWordByte IsPrintable words (λ x w. w.printable) h.bytes))))))

  task_emitted : source_of text 6 size ≡ words → merged (unplaced (emitted text (found_of (record no_inlines { nodes = node 2 item.Text 6 size ∷ [] })).nodes)) ≡ task_events done words
  unfolding with_task with_block task_nodes block_tag inline_node inline_item
  task_emitted source = ap (task_events done) source

  task_is_read : (syntax : Syntax) → syntax.task_lists ≡ true → IsPhrase b bs → size < 2 ^ 64 → IsReadAs (reading_of syntax text) (task_events done words)
  unfolding reading_of with_task with_block task_nodes
  task_is_read syntax has h fits =
      let shown : AllByRecursion IsPrintable text = task_shown h in
      let clean : AreClean text = all_implied IsPrintable IsClean text clean_byte shown in
      let within : AllByRecursion IsWithin text = all_implied IsPrintable IsWithin text within_byte shown in
      let find = first_entry syntax.undefined_notes [] [] in
      let result : FoundView = found_of (record no_inlines { nodes = node 2 item.Text 6 size ∷ [] }) in
      let found : found_under syntax text ≡ result =
      found_from syntax text task_blocks defs.collected_none (blocks_are syntax has within (no_returns text clean) fits h) (none_collected syntax)
      ∙ found_task syntax
      ∙ ap (λ (ps : List Piece). found_state (bare_in syntax text find ps (task_block size 1) containers)) (whole_pieces (piece ∷ []))
      ∙ task_bare syntax
      ∙ ap (λ (c : content.State). found_of (inlines.read_inlines_in syntax c 2 find no_inlines)) (task_content fits h)
      ∙ ap found_of (task_inlines syntax fits h)
      in
      let source : source_of text 6 size ≡ words = source_between text (45 ∷ 32 ∷ 91 ∷ box_byte done ∷ 93 ∷ 32 ∷ []) words [] 6 size (ap (λ (l : List ℕ). 45 ∷ 32 ∷ 91 ∷ box_byte done ∷ 93 ∷ 32 ∷ l) (sym (append-nil words))) refl (let q : size ≡ 6 + n = omega arith in q) clean in
      record {
        events = ap (λ (f : FoundView). merged (unplaced (emitted text f.nodes))) found ∙ task_emitted source;
        defined = ap (λ (f : FoundView). f.defined) found;
        unresolved = ap (λ (f : FoundView). f.unresolved) found;
      }

pub task_read : (syntax : Syntax) (done : Bool) (phrase : List ℕ) → syntax.task_lists ≡ true → is_phrase phrase ≡ true → length (task_line done phrase) < 2 ^ 64 → IsReadAs (reading_of syntax (task_line done phrase)) (task_events done phrase)
task_read syntax done [] has is_words fits = absurd (true≢false (sym is_words))
task_read syntax done (b ∷ bs) has is_words fits = task_is_read done b bs syntax has (phrase_from b bs is_words) fits

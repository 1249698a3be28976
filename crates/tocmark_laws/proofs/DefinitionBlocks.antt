-- The blocks of a title with a definition below it.
use Rattle.std.proofs.Common.{◌≡◌, ℕ, ◌+◌, ◌-◌, ◌^◌, ◌<◌, ◌≤◌, min, max, Bool, true, false, ◌==◌, if◌then◌else◌, nat_lt, nat_le, List, [], ◌∷◌, ◌++◌, length, refl, ap, sym, ◌∙◌, arith, append_assoc, append-nil, length-append, Option, None, Some}
use Rattle.std.proofs.lemmas.Bool.Decides.{nat_tests}
use Rattle.std.specs.Char.{is_ascii_alphabetic}
use Rattle.std.specs.List.{AllByRecursion, fold}
use Rattle.tocmark_read_scan.specs.Basic.{byte_at, bytes_between}
use Rattle.tocmark_read_scan.specs.declared.syntax.Syntax.{Syntax}
use Rattle.tocmark_read_scan.proofs.PlainContent.{byte_behind}
use Rattle.tocmark_read_scan.proofs.PlainPieces.{piece_between}
use Rattle.tocmark_read_scan.proofs.PlainTests.{turned}
use Rattle.tocmark_read_scan.proofs.Repeats.{repeated_more, repeated_stop}
use Rattle.tocmark_read_lines.specs.Cells.{cells_of, cell_place, first_cursor, moved}
use Rattle.tocmark_read_lines.specs.Containers.{container_in, raised, raised_at}
use Rattle.tocmark_read_lines.specs.DefinitionLists.{definition_at, begins_definition, definition_start}
use Rattle.tocmark_read_lines.specs.Lines.{line, lines_of}
use Rattle.tocmark_read_lines.specs.Marks.{tail_of}
use Rattle.tocmark_read_lines.specs.declared.cell.Cell.{Cell}
use Rattle.tocmark_read_lines.specs.declared.cell.Cursor.{Cursor}
use Rattle.tocmark_read_lines.specs.declared.container.Container.TheVariants as container
use Rattle.tocmark_read_lines.specs.declared.container.ContainerStart.TheVariants as begins
use Rattle.tocmark_read_lines.specs.declared.container.Opened.{Opened}
use Rattle.tocmark_read_lines.specs.declared.definition_list.DefinitionStart.{DefinitionStart}
use Rattle.tocmark_read_lines.specs.declared.line.Line.{Line}
use Rattle.tocmark_read_page.specs.Definitions.{begins_definition as begins_link, definitions_from}
use Rattle.tocmark_read_page.specs.Leaves.{is_paragraph, is_table}
use Rattle.tocmark_read_page.specs.Pages.{State, first_page, leaf_opened, leaf_closed, closed_to, times, list_left, begun, loosened, had_marked, list_of, is_apart, leaf_finished, finished, has_text, piece_taken, opened_with, is_list, is_quote, settled, shortened, one_closed, ended}
use Rattle.tocmark_read_page.specs.Pieces.{piece_of, text_piece}
use Rattle.tocmark_read_page.specs.declared.leaf.Leaf.TheVariants as leaf
use Rattle.tocmark_read_page.specs.declared.line_start.Known.{Known}
use Rattle.tocmark_read_page.specs.declared.line_start.LineStart.{LineStart}
use Rattle.tocmark_read_page.specs.declared.page.Block.{Block}
use Rattle.tocmark_read_page.specs.declared.page.BlockKind.TheVariants as kind
use Rattle.tocmark_read_page.specs.declared.page.HeaderLine.{HeaderLine}
use Rattle.tocmark_read_page.specs.declared.page.HeaderLine.TheVariants.{Never}
use Rattle.tocmark_read_page.specs.declared.piece.Piece.{Piece}
use Rattle.tocmark_read_constructs.specs.DefinitionLists.{is_words, is_spent, may_be_title, title_of, list_from, last_title, is_last, list_before, list_begun, title_put, is_among_definitions, text_ended, title_taken, definitions_entered, definition_begun, definition_opened}
use Rattle.tocmark_read_constructs.specs.Metadata.{known_of, metadata_in, is_front}
use Rattle.tocmark_read_constructs.specs.Quotes.{quote_kind_in, is_new_quote, is_first_line, tag_in}
use Rattle.tocmark_read_constructs.specs.Tables.{is_delimiter_row, is_delimiter_byte, may_delimit, delimiters_taken, header_of}
use Rattle.tocmark_read_constructs.specs.Tasks.{task_in, box_at}
use Rattle.tocmark_read_blocks.specs.Blocks.{BlocksView, blocks_in, page_in, start_or, leaf_started_in, started_in, started_at_in, tabled_in, tabled_as, is_lazy, passed_in, touched, taken_at_in, turn_taken_in, cells_taken_in, line_taken_in}
use Rattle.tocmark_read_blocks.specs.Containers.{container_once_in, containers_opened_in, goes_directly, begun_at}
use Rattle.tocmark_read_blocks.specs.Leaves.{leaf_at, leaf_turn, metadata_or, task_or, quote_kind_or, tag_or}
use Rattle.tocmark_read_blocks.specs.Paragraphs.{text_taken, text_started}
use Rattle.tocmark_read_blocks.specs.declared.leaf.LeafStart.TheVariants as start
use Rattle.tocmark_read_blocks.proofs.PlainLines.{IsWithin, cells_within, numbered}
use Rattle.tocmark_read_blocks.proofs.PlainSteps.{front}
use Rattle.tocmark_reader.proofs.PlainSources.{all_implied}
use Rattle.tocmark_laws.proofs.DocumentBlocks.{piece_taken_whole}
use Rattle.tocmark_laws.proofs.ExtensionBlocks.{never, here, IsFreeText, passes, paragraph, whole, header_behind, line_begins, line_free, settled_none, finished_whole}
use Rattle.tocmark_laws.proofs.ExtensionParagraphs.{within_byte}
use Rattle.tocmark_laws.proofs.FrontMatterBlocks.{lines_split}
use Rattle.tocmark_laws.proofs.InkAtColumn.{StandsAt, at_column, stands_at, letter_opens_none, letter_begins_text, moved_to, place_numbered, piece_there}
use Rattle.tocmark_laws.proofs.WordsReading.{IsWordByte, IsWordLine, free_letter, free_line}

-- ---- blocks and pages

-- a list, a title, a definition and its text, from and to these places
abbrev pub list_block : ℕ → Block
list_block to = record { depth = 0; kind = kind.DefinitionList; start = 0; end = to; first = 0; last = 1; loose = false; list = None; task = None }

abbrev pub title_block : ℕ → Block
title_block to = record { depth = 1; kind = kind.DefinitionListTitle; start = 0; end = to; first = 0; last = 1; loose = false; list = None; task = None }

abbrev pub definition_block : ℕ → ℕ → Block
definition_block from to = record { depth = 1; kind = kind.DefinitionListDefinition; start = from; end = to; first = 1; last = 1; loose = false; list = Some 0; task = None }

abbrev pub words_block : ℕ → ℕ → ℕ → Block
words_block from to last = record { depth = 2; kind = kind.Paragraph; start = from; end = to; first = 1; last = last; loose = false; list = Some 0; task = None }

abbrev open_list : ℕ → Opened
open_list end = record { container = container.Definitions; block = 0; end = end; line = 1; had = true }

abbrev open_definition : ℕ → Bool → Opened
open_definition end had = record { container = container.Definition 2; block = 2; end = end; line = 2; had = had }

module _ (known : Known) (text : List ℕ) (n : ℕ) (p0 : Piece) (p0_front : p0.start ≡ 0) (free_front : (byte_at text p0.start == 91) ≡ false) (header : HeaderLine) (c : ℕ) (cs : List ℕ) (w : IsWordLine c cs) (from end next : ℕ) where
  abbrev row : List ℕ
  row = 58 ∷ 32 ∷ c ∷ cs

  abbrev cells : List Cell
  cells = numbered from row

  abbrev l : Line
  l = record { number = 2; start = from; end = end; next = next }

  abbrev place_behind : LineStart
  place_behind = record { cursor = at_column 2; depth = 2 }

  abbrev p : Piece
  p = piece_of 0 (from + 2) end next

  abbrev found : DefinitionStart
  found = record { width = 2; next = 2 }

  -- the page with a title that may be one, with the list that it begins, with the definition, and with its text
  abbrev titled : State
  titled = paragraph header (p0 ∷ []) p0.start n 1

  abbrev closed_title : State
  closed_title = whole header (p0 ∷ []) p0.start n 1

  abbrev listed : State
  listed = record first_page {
    blocks = record (list_block n) { start = p0.start } ∷ record (title_block n) { start = p0.start } ∷ [];
    pieces = p0 ∷ [];
    opened = open_list n ∷ [];
    end = n;
    line = 1;
    kept = 1;
    header = header;
  }

  abbrev empty : State
  empty = record listed {
    blocks = record (list_block n) { start = p0.start } ∷ record (title_block n) { start = p0.start } ∷ definition_block from from ∷ [];
    opened = open_list n ∷ open_definition end false ∷ [];
  }

  abbrev fresh : State
  fresh = record first_page {
    blocks = record (list_block n) { start = p0.start } ∷ record (title_block n) { start = p0.start } ∷ definition_block from from ∷ words_block p.start p.start 1 ∷ [];
    pieces = p0 ∷ [];
    opened = open_list n ∷ open_definition end true ∷ [];
    leaf = leaf.Paragraph;
    end = end;
    line = 2;
    kept = 1;
    header = header;
  }

  abbrev full : HeaderLine → State
  full now = record fresh { pieces = p0 ∷ p ∷ []; kept = 2; header = now }

  letter : is_ascii_alphabetic c ≡ true
  letter = w.letter

  no_space : (c == 32) ≡ false
  no_space = turned is_ascii_alphabetic 32 c letter refl

  there : StandsAt cells 2 c
  there = stands_at from (58 ∷ 32 ∷ []) c cs (omega arith)

  some_columns : nat_le (length cells) 0 ≡ false
  some_columns = grind (arith, nat_tests)

  -- ---- the definition begins

  definition_is : definition_at cells front ≡ found
  unfolding definition_at
  definition_is =
      let next_place : min 2 (length cells) ≡ 2 = omega arith in
      rw (no_space, next_place) refl

  definition_begins : known.syntax.definition_lists ≡ true → definition_start known.syntax cells front ≡ Some found
  unfolding definition_start begins_definition
  definition_begins has = rw (has, some_columns, definition_is) refl

  container_found : known.syntax.definition_lists ≡ true → (within : Bool) → container_in known.syntax cells (tail_of cells) front within ≡ Some (begins.Definition found)
  unfolding container_in
  container_found has within = rw (definition_begins has) refl

  none_found : (within : Bool) → container_in known.syntax cells (tail_of cells) (at_column 2) within ≡ None
  none_found within = letter_opens_none known.syntax cells (tail_of cells) 2 c within there letter

  title_ends : text_ended text titled ≡ (closed_title, true)
  unfolding text_ended has_text is_paragraph
  title_ends =
      rw (settled_none header text p0 [] n 1 free_front)
      (ap (λ (s : State). (let t : State × Bool = (s, true) in t)) (finished_whole header p0 [] n 1))

  title_is_put : title_taken text titled ≡ (listed, true)
  unfolding title_taken last_title is_spent is_words may_be_title title_put list_before is_last list_begun list_from title_of
  title_is_put = rw title_ends refl

  list_entered : definitions_entered text 0 titled ≡ (listed, true)
  unfolding definitions_entered is_among_definitions
  list_entered = title_is_put

  cursor_moves : moved cells front 2 ≡ at_column 2
  cursor_moves = moved_to cells 2 c there no_space (omega arith)

  opens : definition_opened text cells l here found titled ≡ (empty, Some place_behind)
  unfolding definition_opened opened_with begun loosened had_marked list_of is_apart is_quote
  opens =
      ap (definition_begun cells l here found) list_entered
      ∙ ap (λ (k : Cursor). (let u : State × Option LineStart = (empty, Some (record { cursor = k; depth = 2 })) in u)) cursor_moves

  containers_open : known.syntax.definition_lists ≡ true → containers_opened_in known.syntax text cells l (tail_of cells) here titled ≡ (empty, place_behind)
  unfolding container_once_in
  containers_open has =
      let two : 2 ≤ length cells = omega arith in
      let once : container_once_in known.syntax text cells l (tail_of cells) here titled ≡ (empty, Some place_behind) = ap (begun_at text cells l here titled) (container_found has (goes_directly 0 titled)) ∙ opens in
      let none : container_once_in known.syntax text cells l (tail_of cells) place_behind empty ≡ (empty, None) = ap (begun_at text cells l place_behind empty) (none_found (goes_directly 2 empty)) in
      repeated_more (container_once_in known.syntax text cells l (tail_of cells)) (length cells) here place_behind titled empty (omega (arith, two)) (sym once)
      ∙ repeated_stop (container_once_in known.syntax text cells l (tail_of cells)) (length cells - 1) place_behind empty empty (omega (arith, two)) (sym none)

  -- ---- its text begins

  piece_here : text_piece cells (at_column 2) l ≡ p
  piece_here = piece_there from (58 ∷ []) 32 c cs l

  text_opens : leaf_opened leaf.Paragraph kind.Paragraph p.start l (closed_to text 2 empty) ≡ fresh
  unfolding leaf_opened closed_to leaf_closed times list_left is_list begun loosened had_marked list_of is_apart
  text_opens = refl

  fresh_stays : text_started p.start fresh ≡ fresh
  unfolding text_started
  fresh_stays = refl

  text_comes : nat_lt p.start next ≡ true → text_taken text cells l place_behind empty ≡ full header
  unfolding text_taken is_paragraph
  text_comes order =
      ap (λ (q : Piece). piece_taken q l true (text_started q.start (leaf_opened leaf.Paragraph kind.Paragraph q.start l (closed_to text 2 empty)))) piece_here
      ∙ ap (λ (s : State). piece_taken p l true (text_started p.start s)) text_opens
      ∙ ap (λ (s : State). piece_taken p l true s) fresh_stays
      ∙ piece_taken_whole p l fresh order refl

  no_kind : quote_kind_in known text cells l place_behind empty ≡ None
  unfolding quote_kind_in is_new_quote is_quote
  no_kind = rw (never, never) refl

  no_tag : tag_in known text cells l place_behind false empty ≡ false
  unfolding tag_in is_first_line
  no_tag = rw (never, never) refl

  no_box : (byte_at text (from + 2) == 91) ≡ false → task_in known text cells l place_behind empty ≡ None
  unfolding task_in box_at
  no_box k = rw (place_numbered from (58 ∷ 32 ∷ []) c cs end, k) (either _)
    where
      either : (t : Bool) → if◌then◌else◌ {A = Option Bool} t None None ≡ None
      either true = refl
      either false = refl

  no_metadata : metadata_in known text cells l place_behind false empty ≡ None
  unfolding metadata_in is_front
  no_metadata = simp never refl

  text_starts : (byte_at text (from + 2) == 91) ≡ false → bytes_between text (from + 2) end ≡ c ∷ cs → start_or known text cells l place_behind false empty (leaf_at cells (bytes_between text (cell_place cells 2 end) end) (tail_of cells) (at_column 2) false false) ≡ start.Text
  unfolding quote_kind_or tag_or task_or metadata_or
  text_starts k stands =
      rw (no_kind, no_tag, no_box k, no_metadata)
      (ap (λ m. leaf_at cells (bytes_between text m end) (tail_of cells) (at_column 2) false false) (place_numbered from (58 ∷ 32 ∷ []) c cs end)
      ∙ ap (λ (ys : List ℕ). leaf_at cells ys (tail_of cells) (at_column 2) false false) stands
      ∙ letter_begins_text cells (tail_of cells) 2 c cs false false there letter)

  -- where the line is in the text
  abbrev Stands : Type 0
  Stands = (bytes_between text from end ≡ row) × (bytes_between text (from + 2) end ≡ c ∷ cs) × ((byte_at text (from + 2) == 91) ≡ false) × (from + 2 < next) × (from + length row < 2 ^ 64)

  comes : known.syntax.definition_lists ≡ true → Stands → leaf_started_in known text cells l here titled ≡ full header
  unfolding leaf_started_in started_in goes_directly is_paragraph
  comes has stands =
      let late : from + 2 < next = stands.3 in
      ap (started_at_in known text cells l (tail_of cells)) (containers_open has)
      ∙ ap (λ k. started_in known k text cells l (tail_of cells) place_behind empty) (text_starts (stands.2) (stands.1))
      ∙ text_comes (grind (arith, late, nat_tests))

  other_row : is_delimiter_row row ≡ false
  unfolding is_delimiter_row is_delimiter_byte
  other_row = rw ((free_letter c letter).bar, (free_letter c letter).colon, (free_letter c letter).dash, no_space) refl

  no_row : Stands → delimiters_taken text cells l front (goes_directly 0 titled) titled ≡ (titled, false)
  unfolding delimiters_taken may_delimit
  no_row stands =
      let none : is_delimiter_row (bytes_between text from end) ≡ false = ap is_delimiter_row (stands.0) ∙ other_row in
      rw (none, never) refl

  passed : known.syntax.definition_lists ≡ true → Stands → (now : HeaderLine) × (passed_in known text cells l here titled ≡ full now)
  unfolding passed_in tabled_in
  passed has stands = by_tables known.syntax.tables
    where
      by_tables : (t : Bool) → (now : HeaderLine) × ((if t then tabled_as known text cells l here (delimiters_taken text cells l front (goes_directly 0 titled) titled) else leaf_started_in known text cells l here titled) ≡ full now)
      by_tables true = (header_of cells front (is_lazy here titled (leaf_started_in known text cells l here titled)), ap (tabled_as known text cells l here) (no_row stands) ∙ ap (λ (u : State). record u { header = header_of cells front (is_lazy here titled (leaf_started_in known text cells l here titled)) }) (comes has stands))
      by_tables false = (header, comes has stands)

  ink_front : first_cursor cells ≡ front
  unfolding first_cursor
  ink_front = refl

  taken : known.syntax.definition_lists ≡ true → AllByRecursion IsWithin row → Stands → (now : HeaderLine) × (line_taken_in known text titled l ≡ full now)
  unfolding line_taken_in cells_taken_in touched leaf_turn is_table
  taken has within stands =
      let come = passed has stands in (
        come.0,
        ap (λ k. cells_taken_in known text k l titled) (ap (cells_of [] from) (stands.0) ∙ cells_within from row within (stands.4))
            ∙ ap (λ k. taken_at_in known text cells l (record { cursor = k; depth = 0 }) titled) ink_front
            ∙ ap (λ t. turn_taken_in known t text cells l here titled) (passes known text cells l titled refl refl refl)
            ∙ come.1,
      )

  abbrev view : State → BlocksView
  view s = record { blocks = s.blocks; pieces = s.pieces; definitions = s.definitions }

  ends : (now : HeaderLine) → n ≤ end → (byte_at text (from + 2) == 91) ≡ false → view (closed_to text 0 (full now)) ≡ record { blocks = list_block end ∷ title_block n ∷ definition_block from end ∷ words_block (from + 2) end 2 ∷ []; pieces = p0 ∷ p ∷ []; definitions = [] }
  unfolding closed_to leaf_closed settled definitions_from begins_link shortened leaf_finished finished raised_at raised one_closed is_quote ended times
  ends now order k =
      let same : max end end ≡ end = omega arith in
      let later : max n end ≡ end = omega (arith, order) in
      simp (k, same, later, p0_front) refl

-- ---- the whole text

abbrev seen : State → BlocksView
seen s = record { blocks = s.blocks; pieces = s.pieces; definitions = s.definitions }

abbrev pub text_of : List ℕ → List ℕ → List ℕ
text_of title words = title ++ 10 ∷ 58 ∷ 32 ∷ words

abbrev pub definition_pieces : ℕ → ℕ → List Piece
definition_pieces n size = piece_of 0 0 n (n + 1) ∷ piece_of 0 (n + 1 + 2) size size ∷ []

abbrev pub definition_blocks : ℕ → ℕ → List Block
definition_blocks n size = list_block size ∷ title_block n ∷ definition_block (n + 1) size ∷ words_block (n + 1 + 2) size 2 ∷ []

row_within : (c : ℕ) (cs : List ℕ) → IsWordLine c cs → AllByRecursion IsWithin (58 ∷ 32 ∷ c ∷ cs)
row_within c cs w =
    (within_byte 58 (record { low = omega arith; high = omega arith }), (within_byte 32 (record { low = omega arith; high = omega arith }), all_implied IsWordByte IsWithin (c ∷ cs) (λ b k. within_byte b k.printable) w.bytes))

known_has : (syntax : Syntax) (text : List ℕ) (lines : List Line) → syntax.definition_lists ≡ true → (known_of syntax text lines).syntax.definition_lists ≡ true
unfolding known_of
known_has syntax text lines has = has

pub blocks_are : (syntax : Syntax) (b : ℕ) (bs : List ℕ) (c : ℕ) (cs : List ℕ) (n size : ℕ) → IsWordLine b bs → IsWordLine c cs → syntax.definition_lists ≡ true → n ≡ length (b ∷ bs) → size ≡ n + 3 + length (c ∷ cs) → AllByRecursion (λ x. (x == 13) ≡ false) (text_of (b ∷ bs) (c ∷ cs)) → size < 2 ^ 64 → blocks_in syntax (text_of (b ∷ bs) (c ∷ cs)) ≡ record { blocks = definition_blocks n size; pieces = definition_pieces n size; definitions = [] }
unfolding blocks_in page_in
blocks_are syntax b bs c cs n size h w has e k returns fits =
    let title : List ℕ = b ∷ bs in
    let words : List ℕ = c ∷ cs in
    let row : List ℕ = 58 ∷ 32 ∷ words in
    let text : List ℕ = text_of title words in
    let from : ℕ = n + 1 in
    let one : Line = line 0 0 n from in
    let two : Line = line 1 from size size in
    let lines : List Line = one ∷ two ∷ [] in
    let known : Known = known_of syntax text lines in
    let free : IsFreeText title = free_line title h in
    let p0 : Piece = piece_of 0 0 n from in
    let zero_end : 0 + length title ≡ n = omega (arith, e) in
    let row_end : from + length row ≡ size = omega (arith, k) in
    let split : lines_of text ≡ lines =
    lines_split text returns 0 0 title (row ∷ []) (record { some = omega arith; within = free.within }, (record { some = omega arith; within = row_within c cs w }, tt))
    ∙ ap (λ m. line 0 0 m (m + 1) ∷ line 1 (m + 1) (m + 1 + length row) (m + 1 + length row) ∷ []) zero_end
    ∙ ap (λ m. line 0 0 n from ∷ line 1 from m m ∷ []) row_end
    in
    let pre : List ℕ = title ++ 10 ∷ [] in
    let whole_text : text ≡ pre ++ (row ++ []) = sym (append_assoc title (10 ∷ []) row) ∙ ap (λ (ys : List ℕ). pre ++ ys) (sym (append-nil row)) in
    let at : from ≡ length pre = ap (λ m. m + 1) e ∙ sym (length-append title (10 ∷ [])) in
    let parted : text ≡ (pre ++ 58 ∷ 32 ∷ []) ++ (words ++ []) = whole_text ∙ sym (append_assoc pre (58 ∷ 32 ∷ []) (words ++ [])) in
    let behind : from + 2 ≡ length (pre ++ 58 ∷ 32 ∷ []) = ap (λ m. m + 2) at ∙ sym (length-append pre (58 ∷ 32 ∷ [])) in
    let byte : byte_at text (from + 2) ≡ c = ap (λ (ys : List ℕ). byte_at ys (from + 2)) parted ∙ byte_behind (pre ++ 58 ∷ 32 ∷ []) (cs ++ []) c (from + 2) behind in
    let stands : (bytes_between text from size ≡ row) × (bytes_between text (from + 2) size ≡ words) × ((byte_at text (from + 2) == 91) ≡ false) × (from + 2 < size) × (from + length row < 2 ^ 64) = (
      piece_between text pre row [] from size whole_text at (sym row_end ∙ ap (λ m. m + length row) at),
      piece_between text (pre ++ 58 ∷ 32 ∷ []) words [] (from + 2) size parted behind (omega (arith, k, behind)),
      ap (λ x. x == 91) byte ∙ turned is_ascii_alphabetic 91 c w.letter refl,
      omega (arith, k),
      omega (arith, k, fits),
    ) in
    let line_one = line_free text [] title (10 ∷ row) 0 n from 1 refl refl (sym zero_end) free (omega (arith, k, fits)) (omega arith) in
    let header : HeaderLine = header_behind known.syntax.tables (numbered 0 title) Never in
    let bracket : (byte_at text 0 == 91) ≡ false = turned is_ascii_alphabetic 91 b h.letter refl in
    let come = taken known text n p0 refl bracket header c cs w from size size (known_has syntax text lines has) (row_within c cs w) stands in
    ap (λ ls. seen (closed_to text 0 (fold (line_taken_in (known_of syntax text ls) text) first_page ls))) split
    ∙ ap (λ (s : State). seen (closed_to text 0 (line_taken_in known text s two))) (line_begins known text (numbered 0 title) one line_one)
    ∙ ap (λ (s : State). seen (closed_to text 0 s)) (come.1)
    ∙ ends known text n p0 refl bracket header c cs w from size size (come.0) (omega (arith, k)) (stands.2)

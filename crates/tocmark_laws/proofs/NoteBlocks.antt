-- The blocks of a paragraph and of a footnote after a blank line.
use Rattle.std.proofs.Common.{◌≡◌, ℕ, ◌+◌, ◌-◌, ◌^◌, ◌<◌, ◌≤◌, max, Bool, true, false, ◌==◌, if◌then◌else◌, nat_lt, nat_le, List, [], ◌∷◌, ◌++◌, length, refl, ap, sym, subst, ◌∙◌, arith, append_assoc, append-nil, length-append, Option, None, Some}
use Rattle.std.proofs.lemmas.Bool.Decides.{nat_tests}
use Rattle.std.specs.Char.{is_ascii_alphabetic}
use Rattle.std.specs.List.{AllByRecursion, fold, take_while}
use Rattle.tocmark_read_scan.specs.Basic.{plus, byte_at, bytes_between}
use Rattle.tocmark_read_scan.specs.declared.syntax.Syntax.{Syntax}
use Rattle.tocmark_read_scan.proofs.PlainContent.{byte_behind}
use Rattle.tocmark_read_scan.proofs.PlainPieces.{piece_between}
use Rattle.tocmark_read_scan.proofs.PlainTests.{turned}
use Rattle.tocmark_read_scan.proofs.Repeats.{repeated_zero, repeated_more, repeated_stop}
use Rattle.tocmark_read_tokens.specs.Footnotes.{note_label}
use Rattle.tocmark_read_tokens.specs.Word.{word}
use Rattle.tocmark_read_lines.specs.Cells.{bytes_of, cells_of, cell_byte, cell_place, first_cursor, moved, run_of}
use Rattle.tocmark_read_lines.specs.Containers.{container_in, raised, raised_at}
use Rattle.tocmark_read_lines.specs.Lines.{line, lines_from}
use Rattle.tocmark_read_lines.specs.Marks.{tail_of}
use Rattle.tocmark_read_lines.specs.Footnotes.{note_at, note_start}
use Rattle.tocmark_read_lines.specs.declared.cell.Cell.{Cell}
use Rattle.tocmark_read_lines.specs.declared.cell.Cursor.{Cursor}
use Rattle.tocmark_read_lines.specs.declared.container.Container.TheVariants as container
use Rattle.tocmark_read_lines.specs.declared.container.ContainerStart.TheVariants as begins
use Rattle.tocmark_read_lines.specs.declared.container.Opened.{Opened}
use Rattle.tocmark_read_lines.specs.declared.line.Line.{Line}
use Rattle.tocmark_read_lines.specs.declared.footnote.FootnoteStart.{FootnoteStart}
use Rattle.tocmark_read_page.specs.Definitions.{begins_definition, definitions_from}
use Rattle.tocmark_read_page.specs.Leaves.{is_paragraph, is_table}
use Rattle.tocmark_read_page.specs.Pages.{State, first_page, leaf_opened, leaf_closed, closed_to, times, list_left, note_left, begun, loosened, had_marked, list_of, is_apart, leaf_finished, finished, piece_taken, opened_with, is_list, is_quote, some_place, settled, shortened, one_closed, ended}
use Rattle.tocmark_read_page.specs.Pieces.{piece_of, text_piece}
use Rattle.tocmark_read_page.specs.declared.leaf.Leaf.TheVariants as leaf
use Rattle.tocmark_read_page.specs.declared.line_start.Known.{Known}
use Rattle.tocmark_read_page.specs.declared.line_start.LineStart.{LineStart}
use Rattle.tocmark_read_page.specs.declared.page.Block.{Block}
use Rattle.tocmark_read_page.specs.declared.page.BlockKind.TheVariants as kind
use Rattle.tocmark_read_page.specs.declared.page.HeaderLine.{HeaderLine}
use Rattle.tocmark_read_page.specs.declared.page.HeaderLine.TheVariants.{Never}
use Rattle.tocmark_read_page.specs.declared.piece.Piece.{Piece}
use Rattle.tocmark_read_constructs.specs.Footnotes.{note_opened}
use Rattle.tocmark_read_constructs.specs.Metadata.{known_of, metadata_in, is_front}
use Rattle.tocmark_read_constructs.specs.Quotes.{quote_kind_in, is_new_quote, is_first_line, tag_in}
use Rattle.tocmark_read_constructs.specs.Tables.{may_delimit, delimiters_taken, header_of}
use Rattle.tocmark_read_constructs.specs.Tasks.{task_in, box_at}
use Rattle.tocmark_read_blocks.specs.Blocks.{BlocksView, blocks_in, page_in, start_or, leaf_started_in, started_in, started_at_in, tabled_in, tabled_as, is_lazy, passed_in, touched, taken_at_in, turn_taken_in, cells_taken_in, line_taken_in}
use Rattle.tocmark_read_blocks.specs.Containers.{container_once_in, containers_opened_in, goes_directly, begun_at}
use Rattle.tocmark_read_blocks.specs.Leaves.{leaf_at, leaf_turn, metadata_or, task_or, quote_kind_or, tag_or}
use Rattle.tocmark_read_blocks.specs.Paragraphs.{text_taken, text_started}
use Rattle.tocmark_read_blocks.specs.declared.leaf.LeafStart.TheVariants as start
use Rattle.tocmark_read_blocks.proofs.PlainLines.{IsWithin, lines_within, cells_within, numbered}
use Rattle.tocmark_read_blocks.proofs.PlainSteps.{front}
use Rattle.tocmark_reader.proofs.PlainSources.{all_implied}
use Rattle.tocmark_laws.specs.Footnotes.{in_brackets}
use Rattle.tocmark_laws.proofs.AttributedHeadings.{byte_numbered, bytes_numbered}
use Rattle.tocmark_laws.proofs.BreakReading.{all_both}
use Rattle.tocmark_laws.proofs.DocumentBlocks.{piece_taken_whole}
use Rattle.tocmark_laws.proofs.ExtensionBlocks.{never, here, IsFreeText, no_definition, passes, paragraph, whole, header_behind, line_begins, line_free, paragraph_ends}
use Rattle.tocmark_laws.proofs.ExtensionParagraphs.{within_byte}
use Rattle.tocmark_laws.proofs.FrontMatterBlocks.{IsLineText, feed_ends, feed_stop, lines_split}
use Rattle.tocmark_laws.proofs.InkAtColumn.{StandsAt, at_column, stands_at, letter_opens_none, letter_begins_text, moved_to, place_numbered, drop_numbered, piece_there}
use Rattle.tocmark_laws.proofs.NoteLabels.{IsInside, note_here}
use Rattle.tocmark_laws.proofs.WordsReading.{IsWordByte, IsWordLine}

-- ---- lines with a blank line between them

pub lines_apart : (text l m : List ℕ) (n size : ℕ) → AllByRecursion (λ b. (b == 13) ≡ false) text → n ≡ length l → size ≡ n + 2 + length m → AllByRecursion IsWithin l → IsLineText m → lines_from text 0 0 0 (l ++ 10 ∷ 10 ∷ m) ≡ line 0 0 n (n + 1) ∷ line 1 (n + 1) (n + 1) (n + 2) ∷ line 2 (n + 2) size size ∷ []
lines_apart text l m n size none e k h w =
    let first : 0 + length l ≡ n = omega (arith, e) in
    let two : n + 1 + 1 ≡ n + 2 = omega arith in
    let last : n + 2 + length m ≡ size = sym k in
    let rest : lines_from text 0 0 n (10 ∷ 10 ∷ m) ≡ line 0 0 n (n + 1) ∷ lines_from text 1 (n + 1) (n + 1) (10 ∷ m) = rw (feed_ends text n, feed_stop text 0 n none) refl in
    let blank : lines_from text 1 (n + 1) (n + 1) (10 ∷ m) ≡ line 1 (n + 1) (n + 1) (n + 1 + 1) ∷ lines_from text 2 (n + 1 + 1) (n + 1 + 1) m = rw (feed_ends text (n + 1), feed_stop text (n + 1) (n + 1) none) refl in
    lines_within text 0 0 0 l (10 ∷ 10 ∷ m) h
    ∙ ap (λ p. lines_from text 0 0 p (10 ∷ 10 ∷ m)) first
    ∙ rest
    ∙ ap (λ ls. line 0 0 n (n + 1) ∷ ls) (blank ∙ ap (λ p. line 1 (n + 1) (n + 1) p ∷ lines_from text 2 p p m) two ∙ ap (λ ls. line 1 (n + 1) (n + 1) (n + 2) ∷ ls) (lines_split text none 2 (n + 2) m [] (w, tt) ∙ ap (λ p. line 2 (n + 2) p p ∷ []) last))

-- ---- a blank line ends a paragraph

-- where nothing is left of a line, no leaf begins
module _ (known : Known) (text : List ℕ) (cells : List Cell) (l : Line) (place : LineStart) (s : State) (blank : nat_le (length cells) place.cursor.ink ≡ true) where
  blank_kind : quote_kind_in known text cells l place s ≡ None
  unfolding quote_kind_in
  blank_kind = rw (blank, never known.syntax.quote_kinds) refl

  blank_tag : (directly : Bool) → tag_in known text cells l place directly s ≡ false
  unfolding tag_in is_first_line
  blank_tag directly = rw (blank, never known.syntax.quote_kinds) refl

  blank_task : task_in known text cells l place s ≡ None
  unfolding task_in
  blank_task = rw (blank, never known.syntax.task_lists) refl

  blank_metadata : (directly : Bool) → metadata_in known text cells l place directly s ≡ None
  unfolding metadata_in is_front
  blank_metadata directly = rw (blank, never known.syntax.yaml_metadata, never known.syntax.pluses_metadata) refl

  pub blank_starts : started_at_in known text cells l (tail_of cells) (s, place) ≡ closed_to text place.depth s
  unfolding started_in leaf_at quote_kind_or tag_or task_or metadata_or
  blank_starts = rw (blank_kind, blank_tag (goes_directly place.depth s), blank_task, blank_metadata (goes_directly place.depth s), blank) refl

pub blank_leaf : (known : Known) (text : List ℕ) (l : Line) (s : State) → leaf_started_in known text [] l here s ≡ closed_to text 0 s
unfolding leaf_started_in
blank_leaf known text l s =
    ap (started_at_in known text [] l (tail_of [])) (repeated_zero (container_once_in known.syntax text [] l (tail_of [])) 0 here s refl)
    ∙ blank_starts known text [] l here s refl

pub no_blank_row : (text : List ℕ) (l : Line) (directly : Bool) (s : State) → delimiters_taken text [] l front directly s ≡ (s, false)
unfolding delimiters_taken may_delimit
no_blank_row text l true s = refl
no_blank_row text l false s = refl

-- the open paragraph ends
blank_ends : (known : Known) (text : List ℕ) (l : Line) (header : HeaderLine) (p : Piece) (end number : ℕ) → bytes_between text l.start l.end ≡ [] → (byte_at text p.start == 91) ≡ false → (now : HeaderLine) × (line_taken_in known text (paragraph header (p ∷ []) p.start end number) l ≡ whole now (p ∷ []) p.start end number)
unfolding line_taken_in cells_taken_in touched leaf_turn is_table first_cursor passed_in tabled_in
blank_ends known text l header p end number e k =
    let s : State = paragraph header (p ∷ []) p.start end number in
    let passed = by_tables known.syntax.tables in (
      passed.0,
      ap (λ (xs : List ℕ). cells_taken_in known text (cells_of [] l.start xs) l s) e
          ∙ ap (λ t. turn_taken_in known t text [] l here s) (passes known text [] l s refl refl refl)
          ∙ passed.1,
    )
  where
    before : State
    before = paragraph header (p ∷ []) p.start end number

    comes : leaf_started_in known text [] l here before ≡ whole header (p ∷ []) p.start end number
    comes = blank_leaf known text l before ∙ paragraph_ends header text p [] end number k

    by_tables : (t : Bool) → (now : HeaderLine) × ((if t then tabled_as known text [] l here (delimiters_taken text [] l front (goes_directly 0 before) before) else leaf_started_in known text [] l here before) ≡ whole now (p ∷ []) p.start end number)
    by_tables true = (header_of [] front (is_lazy here before (leaf_started_in known text [] l here before)), ap (tabled_as known text [] l here) (no_blank_row text l (goes_directly 0 before) before) ∙ ap (λ (u : State). record u { header = header_of [] front (is_lazy here before (leaf_started_in known text [] l here before)) }) comes)
    by_tables false = (header, comes)

-- ---- blocks and pages

abbrev pub first_block : ℕ → Block
first_block end = record { depth = 0; kind = kind.Paragraph; start = 0; end = end; first = 0; last = 1; loose = false; list = None; task = None }

-- a footnote whose name is between two places
abbrev pub note_block : ℕ → ℕ → ℕ → ℕ → Block
note_block from to a z = record { depth = 0; kind = kind.Footnote a z; start = from; end = to; first = 1; last = 1; loose = false; list = None; task = None }

abbrev pub note_text : ℕ → ℕ → ℕ → Block
note_text from to last = record { depth = 1; kind = kind.Paragraph; start = from; end = to; first = 1; last = last; loose = false; list = None; task = None }

abbrev open_note : ℕ → ℕ → Bool → Opened
open_note end number had = record { container = container.Footnote; block = 1; end = end; line = number; had = had }

-- what is in front of a footnote's text
abbrev pub note_mark : List ℕ → List ℕ
note_mark name = in_brackets name ++ 58 ∷ 32 ∷ []

-- ---- the line of a footnote

module _ (known : Known) (text : List ℕ) (x : ℕ) (xs : List ℕ) (inside : AllByRecursion IsInside (x ∷ xs)) (short : length (x ∷ xs) < 1000) (c : ℕ) (cs : List ℕ) (w : IsWordLine c cs) (from end next number : ℕ) (b0 : Block) (p0 : Piece) (end0 number0 : ℕ) (header : HeaderLine) where
  abbrev name : List ℕ
  name = x ∷ xs

  abbrev m : ℕ
  m = length name

  abbrev mark : List ℕ
  mark = note_mark name

  abbrev width : ℕ
  width = length mark

  abbrev row : List ℕ
  row = mark ++ c ∷ cs

  abbrev cells : List Cell
  cells = numbered from row

  abbrev l : Line
  l = record { number = number; start = from; end = end; next = next }

  abbrev place_behind : LineStart
  place_behind = record { cursor = at_column width; depth = 1 }

  abbrev p : Piece
  p = piece_of 0 (from + width) end next

  abbrev note : FootnoteStart
  note = record { from = 2; to = 2 + m; next = width }

  -- the page in front of it, with it, and with its text
  abbrev before : State
  before = record first_page { blocks = b0 ∷ []; pieces = p0 ∷ []; end = end0; line = number0; kept = 1; header = header }

  abbrev empty : State
  empty = record before { blocks = b0 ∷ note_block from from (from + 2) (from + (2 + m)) ∷ []; opened = open_note end number false ∷ [] }

  abbrev fresh : State
  fresh = record first_page {
    blocks = b0 ∷ note_block from from (from + 2) (from + (2 + m)) ∷ note_text p.start p.start 1 ∷ [];
    pieces = p0 ∷ [];
    opened = open_note end number true ∷ [];
    leaf = leaf.Paragraph;
    end = end;
    line = number;
    kept = 1;
    header = header;
  }

  abbrev full : HeaderLine → State
  full now = record fresh { pieces = p0 ∷ p ∷ []; kept = 2; header = now }

  -- the bytes of the line

  abbrev behind : List ℕ
  behind = 58 ∷ 32 ∷ c ∷ cs

  row_is : row ≡ 91 ∷ 94 ∷ (name ++ 93 ∷ behind)
  row_is = append_assoc (in_brackets name) (58 ∷ 32 ∷ []) (c ∷ cs) ∙ ap (λ (ys : List ℕ). 91 ∷ 94 ∷ ys) (append_assoc name (93 ∷ []) behind)

  wide : width ≡ m + 5
  wide =
      let all : width ≡ length (in_brackets name) + 2 = length-append (in_brackets name) (58 ∷ 32 ∷ []) in
      let inner : length (name ++ 93 ∷ []) ≡ m + 1 = length-append name (93 ∷ []) in
      omega (arith, all, inner)

  letter : is_ascii_alphabetic c ≡ true
  letter = w.letter

  no_space : (c == 32) ≡ false
  no_space = turned is_ascii_alphabetic 32 c letter refl

  there : StandsAt cells width c
  there = stands_at from mark c cs (omega (arith, wide, short))

  label_stands : length row < 2 ^ 64 → note_label (bytes_of cells) 0 ≡ Some (word 2 (2 + m) (2 + m + 1))
  label_stands fits = ap (λ (ys : List ℕ). note_label ys 0) (bytes_numbered from row) ∙ note_here row [] x xs behind 0 row_is refl inside short fits

  colon_stands : cell_byte cells (2 + m + 1) ≡ 58
  colon_stands =
      let pre : List ℕ = in_brackets name in
      let place : 2 + m + 1 ≡ length pre = (let inner : length (name ++ 93 ∷ []) ≡ m + 1 = length-append name (93 ∷ []) in omega (arith, inner)) in
      ap (λ (ys : List ℕ). cell_byte (numbered from ys) (2 + m + 1)) (append_assoc pre (58 ∷ 32 ∷ []) (c ∷ cs)) ∙ byte_numbered from pre (32 ∷ c ∷ cs) 58 (2 + m + 1) place

  one_space : run_of cells (2 + m + 2) 32 ≡ 1
  one_space =
      let pre : List ℕ = in_brackets name ++ 58 ∷ [] in
      let place : 2 + m + 2 ≡ length pre = (let all : length pre ≡ length (in_brackets name) + 1 = length-append (in_brackets name) (58 ∷ []) in let inner : length (name ++ 93 ∷ []) ≡ m + 1 = length-append name (93 ∷ []) in omega (arith, all, inner)) in
      let split : row ≡ pre ++ 32 ∷ c ∷ cs = append_assoc (in_brackets name) (58 ∷ 32 ∷ []) (c ∷ cs) ∙ sym (append_assoc (in_brackets name) (58 ∷ []) (32 ∷ c ∷ cs)) in
      ap (λ (ys : List ℕ). run_of (numbered from ys) (2 + m + 2) 32) split
      ∙ ap (λ n. run_of (numbered from (pre ++ 32 ∷ c ∷ cs)) n 32) place
      ∙ ap (λ (ds : List Cell). length (take_while (λ (d : Cell). d.byte == 32) ds)) (drop_numbered from pre 32 (c ∷ cs))
      ∙ rw no_space refl

  note_found : length row < 2 ^ 64 → note_at cells 0 ≡ Some note
  unfolding note_at
  note_found fits =
      let one : plus (2 + m + 1) 1 ≡ 2 + m + 2 = omega (arith, short) in
      let two : plus (2 + m + 2) 1 ≡ width = omega (arith, short, wide) in
      rw (label_stands fits, colon_stands, one, one_space, two) refl

  some_columns : nat_le (length cells) 0 ≡ false
  some_columns = grind (arith, nat_tests)

  note_starts : known.syntax.footnotes ≡ true → length row < 2 ^ 64 → note_start known.syntax cells front ≡ Some note
  unfolding note_start
  note_starts has fits = rw (has, some_columns, note_found fits) refl

  container_found : known.syntax.footnotes ≡ true → length row < 2 ^ 64 → (within : Bool) → container_in known.syntax cells (tail_of cells) front within ≡ Some (begins.Footnote note)
  unfolding container_in
  container_found has fits within = rw (no_definition known.syntax cells refl, note_starts has fits) refl

  none_found : (within : Bool) → container_in known.syntax cells (tail_of cells) (at_column width) within ≡ None
  none_found within = letter_opens_none known.syntax cells (tail_of cells) width c within there letter

  cursor_moves : moved cells front width ≡ at_column width
  cursor_moves = moved_to cells width c there no_space (omega (arith, wide))

  name_begins : cell_place cells 2 end ≡ from + 2
  name_begins = place_numbered from (91 ∷ 94 ∷ []) x (((xs ++ 93 ∷ []) ++ 58 ∷ 32 ∷ []) ++ c ∷ cs) end

  name_ends : cell_place cells (2 + m) end ≡ from + (2 + m)
  name_ends =
      let behind_name : 2 + m ≡ length (91 ∷ 94 ∷ name) = omega arith in
      ap (λ k. cell_place cells k end) behind_name
      ∙ ap (λ (ys : List ℕ). cell_place (numbered from ys) (length (91 ∷ 94 ∷ name)) end) row_is
      ∙ place_numbered from (91 ∷ 94 ∷ name) 93 behind end
      ∙ ap (λ k. from + k) (sym behind_name)

  opens : note_opened text cells l here note before ≡ (empty, place_behind)
  unfolding note_opened note_left opened_with begun loosened had_marked list_of is_apart list_left is_list is_quote closed_to leaf_closed times
  opens =
      let opened_at : Cursor → ℕ → ℕ → State × LineStart = λ k a z. (
      let s : State = opened_with container.Footnote (kind.Footnote a z) from l before in
      (s, record { cursor = k; depth = length s.opened })
      ) in
      ap (λ a. opened_at (moved cells front width) a (cell_place cells (2 + m) end)) name_begins
      ∙ ap (opened_at (moved cells front width) (from + 2)) name_ends
      ∙ ap (λ k. opened_at k (from + 2) (from + (2 + m))) cursor_moves

  containers_open : known.syntax.footnotes ≡ true → length row < 2 ^ 64 → containers_opened_in known.syntax text cells l (tail_of cells) here before ≡ (empty, place_behind)
  unfolding container_once_in
  containers_open has fits =
      let two : 2 ≤ length cells = omega arith in
      let once : container_once_in known.syntax text cells l (tail_of cells) here before ≡ (empty, Some place_behind) = ap (begun_at text cells l here before) (container_found has fits (goes_directly 0 before)) ∙ ap some_place opens in
      let none : container_once_in known.syntax text cells l (tail_of cells) place_behind empty ≡ (empty, None) = ap (begun_at text cells l place_behind empty) (none_found (goes_directly 1 empty)) in
      repeated_more (container_once_in known.syntax text cells l (tail_of cells)) (length cells) here place_behind before empty (omega (arith, two)) (sym once)
      ∙ repeated_stop (container_once_in known.syntax text cells l (tail_of cells)) (length cells - 1) place_behind empty empty (omega (arith, two)) (sym none)

  -- ---- its text begins

  piece_here : text_piece cells (at_column width) l ≡ p
  piece_here =
      let body : List ℕ = in_brackets name ++ 58 ∷ [] in
      subst (λ (k : List ℕ). text_piece (numbered from (k ++ c ∷ cs)) (at_column (length k)) l ≡ piece_of 0 (from + length k) end next) (append_assoc (in_brackets name) (58 ∷ []) (32 ∷ [])) (piece_there from body 32 c cs l)

  text_opens : leaf_opened leaf.Paragraph kind.Paragraph p.start l (closed_to text 1 empty) ≡ fresh
  unfolding leaf_opened closed_to leaf_closed times list_left is_list begun loosened had_marked list_of is_apart
  text_opens = refl

  fresh_stays : text_started p.start fresh ≡ fresh
  unfolding text_started
  fresh_stays = refl

  text_comes : nat_lt p.start next ≡ true → text_taken text cells l place_behind empty ≡ full header
  unfolding text_taken is_paragraph
  text_comes order =
      ap (λ (q : Piece). piece_taken q l true (text_started q.start (leaf_opened leaf.Paragraph kind.Paragraph q.start l (closed_to text 1 empty)))) piece_here
      ∙ ap (λ (s : State). piece_taken p l true (text_started p.start s)) text_opens
      ∙ ap (λ (s : State). piece_taken p l true s) fresh_stays
      ∙ piece_taken_whole p l fresh order refl

  no_kind : quote_kind_in known text cells l place_behind empty ≡ None
  unfolding quote_kind_in is_new_quote is_quote
  no_kind = rw (never, never) refl

  no_tag : tag_in known text cells l place_behind false empty ≡ false
  unfolding tag_in is_first_line
  no_tag = rw (never, never) refl

  no_box : (byte_at text (from + width) == 91) ≡ false → task_in known text cells l place_behind empty ≡ None
  unfolding task_in box_at
  no_box k = rw (place_numbered from mark c cs end, k) (either _)
    where
      either : (t : Bool) → if◌then◌else◌ {A = Option Bool} t None None ≡ None
      either true = refl
      either false = refl

  no_metadata : metadata_in known text cells l place_behind false empty ≡ None
  unfolding metadata_in is_front
  no_metadata = let late : (width == 0) ≡ false = grind (arith, wide, nat_tests) in simp (late, never) refl

  text_starts : (byte_at text (from + width) == 91) ≡ false → bytes_between text (from + width) end ≡ c ∷ cs → start_or known text cells l place_behind false empty (leaf_at cells (bytes_between text (cell_place cells width end) end) (tail_of cells) (at_column width) false false) ≡ start.Text
  unfolding quote_kind_or tag_or task_or metadata_or
  text_starts k stands =
      rw (no_kind, no_tag, no_box k, no_metadata)
      (ap (λ n. leaf_at cells (bytes_between text n end) (tail_of cells) (at_column width) false false) (place_numbered from mark c cs end)
      ∙ ap (λ (ys : List ℕ). leaf_at cells ys (tail_of cells) (at_column width) false false) stands
      ∙ letter_begins_text cells (tail_of cells) width c cs false false there letter)

  -- where the line is in the text
  abbrev Stands : Type 0
  Stands = (bytes_between text from end ≡ row) × (bytes_between text (from + width) end ≡ c ∷ cs) × ((byte_at text (from + width) == 91) ≡ false) × (from + width < next) × (from + length row < 2 ^ 64)

  note_comes : known.syntax.footnotes ≡ true → Stands → leaf_started_in known text cells l here before ≡ full header
  unfolding leaf_started_in started_in goes_directly is_paragraph
  note_comes has stands =
      let fits : from + length row < 2 ^ 64 = stands.4 in
      let late : from + width < next = stands.3 in
      ap (started_at_in known text cells l (tail_of cells)) (containers_open has (omega (arith, fits)))
      ∙ ap (λ k. started_in known k text cells l (tail_of cells) place_behind empty) (text_starts (stands.2) (stands.1))
      ∙ text_comes (grind (arith, late, nat_tests))

  no_row : delimiters_taken text cells l front (goes_directly 0 before) before ≡ (before, false)
  unfolding delimiters_taken may_delimit goes_directly is_paragraph
  no_row = refl

  note_passed : known.syntax.footnotes ≡ true → Stands → (now : HeaderLine) × (passed_in known text cells l here before ≡ full now)
  unfolding passed_in tabled_in
  note_passed has stands = by_tables known.syntax.tables
    where
      comes : leaf_started_in known text cells l here before ≡ full header
      comes = note_comes has stands

      by_tables : (t : Bool) → (now : HeaderLine) × ((if t then tabled_as known text cells l here (delimiters_taken text cells l front (goes_directly 0 before) before) else leaf_started_in known text cells l here before) ≡ full now)
      by_tables true = (header_of cells front (is_lazy here before (leaf_started_in known text cells l here before)), ap (tabled_as known text cells l here) no_row ∙ ap (λ (u : State). record u { header = header_of cells front (is_lazy here before (leaf_started_in known text cells l here before)) }) comes)
      by_tables false = (header, comes)

  ink_front : first_cursor cells ≡ front
  unfolding first_cursor
  ink_front = refl

  note_taken : known.syntax.footnotes ≡ true → AllByRecursion IsWithin row → Stands → (now : HeaderLine) × (line_taken_in known text before l ≡ full now)
  unfolding line_taken_in cells_taken_in touched leaf_turn is_table
  note_taken has within stands =
      let passed = note_passed has stands in (
        passed.0,
        ap (λ k. cells_taken_in known text k l before) (ap (cells_of [] from) (stands.0) ∙ cells_within from row within (stands.4))
            ∙ ap (λ k. taken_at_in known text cells l (record { cursor = k; depth = 0 }) before) ink_front
            ∙ ap (λ t. turn_taken_in known t text cells l here before) (passes known text cells l before refl refl refl)
            ∙ passed.1,
      )

  abbrev view : State → BlocksView
  view s = record { blocks = s.blocks; pieces = s.pieces; definitions = s.definitions }

  note_ends : (now : HeaderLine) → (byte_at text (from + width) == 91) ≡ false → view (closed_to text 0 (full now)) ≡ record { blocks = b0 ∷ note_block from end (from + 2) (from + (2 + m)) ∷ note_text (from + width) end 2 ∷ []; pieces = p0 ∷ p ∷ []; definitions = [] }
  unfolding closed_to leaf_closed settled definitions_from begins_definition shortened leaf_finished finished raised_at raised one_closed is_quote ended times
  note_ends now k = let same : max end end ≡ end = omega arith in simp (k, same) refl

-- ---- the whole text

-- the first line, the footnote's name and its words
pub record NotedText : Type 0 where
  pub first : List ℕ
  pub name : ℕ
  pub others : List ℕ
  pub letter : ℕ
  pub rest : List ℕ

-- what is known of them
pub record IsNotedText (t : NotedText) : Type 0 where
  pub free : IsFreeText t.first
  pub bracket : (more : List ℕ) → (byte_at (t.first ++ more) 0 == 91) ≡ false
  pub inside : AllByRecursion IsInside (t.name ∷ t.others)
  pub short : length (t.name ∷ t.others) < 1000
  pub words : IsWordLine t.letter t.rest

abbrev pub mark_of : NotedText → List ℕ
mark_of t = note_mark (t.name ∷ t.others)

abbrev pub last_line_of : NotedText → List ℕ
last_line_of t = mark_of t ++ t.letter ∷ t.rest

abbrev pub text_of : NotedText → List ℕ
text_of t = t.first ++ 10 ∷ 10 ∷ last_line_of t

-- the pieces and blocks of a text of so many bytes, whose first line has so many
abbrev pub noted_pieces : NotedText → ℕ → ℕ → List Piece
noted_pieces t n size = piece_of 0 0 n (n + 1) ∷ piece_of 0 (n + 2 + length (mark_of t)) size size ∷ []

abbrev pub noted_blocks : NotedText → ℕ → ℕ → List Block
noted_blocks t n size =
    first_block n
    ∷ note_block (n + 2) size (n + 2 + 2) (n + 2 + (2 + length (t.name ∷ t.others)))
    ∷ note_text (n + 2 + length (mark_of t)) size 2
    ∷ []

mark_within : (name : List ℕ) → AllByRecursion IsInside name → AllByRecursion IsWithin (note_mark name)
mark_within name h =
    let shown : (b : ℕ) → 32 ≤ b → b < 127 → IsWithin b = λ b low high. within_byte b (record { low = low; high = high }) in
    let inner : AllByRecursion IsWithin (name ++ 93 ∷ []) = all_both IsWithin name (93 ∷ []) (all_implied IsInside IsWithin name (λ b k. within_byte b k.printable) h) (shown 93 (omega arith) (omega arith), tt) in
    all_both IsWithin (in_brackets name) (58 ∷ 32 ∷ []) (shown 91 (omega arith) (omega arith), (shown 94 (omega arith) (omega arith), inner)) (shown 58 (omega arith) (omega arith), (shown 32 (omega arith) (omega arith), tt))

pub line_within : (t : NotedText) → IsNotedText t → AllByRecursion IsWithin (last_line_of t)
line_within t h =
    all_both IsWithin (mark_of t) (t.letter ∷ t.rest) (mark_within (t.name ∷ t.others) h.inside) (all_implied IsWordByte IsWithin (t.letter ∷ t.rest) (λ b k. within_byte b k.printable) h.words.bytes)

known_has : (syntax : Syntax) (text : List ℕ) (lines : List Line) → syntax.footnotes ≡ true → (known_of syntax text lines).syntax.footnotes ≡ true
unfolding known_of
known_has syntax text lines has = has

abbrev seen : State → BlocksView
seen s = record { blocks = s.blocks; pieces = s.pieces; definitions = s.definitions }

pub blocks_are : (syntax : Syntax) (t : NotedText) (n size : ℕ) → IsNotedText t → syntax.footnotes ≡ true → n ≡ length t.first → size ≡ n + 2 + length (last_line_of t) → AllByRecursion (λ b. (b == 13) ≡ false) (text_of t) → size < 2 ^ 64 → blocks_in syntax (text_of t) ≡ record { blocks = noted_blocks t n size; pieces = noted_pieces t n size; definitions = [] }
unfolding blocks_in page_in
blocks_are syntax t n size h has e k returns fits =
    let text : List ℕ = text_of t in
    let row : List ℕ = last_line_of t in
    let words : List ℕ = t.letter ∷ t.rest in
    let mark : List ℕ = mark_of t in
    let from : ℕ = n + 2 in
    let one : Line = line 0 0 n (n + 1) in
    let two : Line = line 1 (n + 1) (n + 1) from in
    let three : Line = line 2 from size size in
    let lines : List Line = one ∷ two ∷ three ∷ [] in
    let known : Known = known_of syntax text lines in
    let footnotes : known.syntax.footnotes ≡ true = known_has syntax text lines has in
    let wide : length row ≡ length mark + length words = length-append mark words in
    let within : AllByRecursion IsWithin row = line_within t h in
    let split : lines_from text 0 0 0 text ≡ lines = lines_apart text t.first row n size returns e k h.free.within (record { some = omega (arith, wide); within = within }) in
    let blank : bytes_between text (n + 1) (n + 1) ≡ [] = piece_between text (t.first ++ 10 ∷ []) [] (10 ∷ row) (n + 1) (n + 1) (sym (append_assoc t.first (10 ∷ []) (10 ∷ row))) (ap (λ m. m + 1) e ∙ sym (length-append t.first (10 ∷ []))) (ap (λ m. m + 1) e ∙ sym (length-append t.first (10 ∷ [])) ∙ (let q : length (t.first ++ 10 ∷ []) ≡ length (t.first ++ 10 ∷ []) + 0 = omega arith in q)) in
    let pre : List ℕ = t.first ++ 10 ∷ 10 ∷ [] in
    let whole_text : text ≡ pre ++ (row ++ []) = sym (append_assoc t.first (10 ∷ 10 ∷ []) row) ∙ ap (λ (ys : List ℕ). pre ++ ys) (sym (append-nil row)) in
    let at : from ≡ length pre = ap (λ m. m + 2) e ∙ sym (length-append t.first (10 ∷ 10 ∷ [])) in
    let parted : text ≡ (pre ++ mark) ++ (words ++ []) = whole_text ∙ ap (λ (ys : List ℕ). pre ++ ys) (append-nil row) ∙ sym (append_assoc pre mark words) ∙ ap (λ (ys : List ℕ). (pre ++ mark) ++ ys) (sym (append-nil words)) in
    let behind : from + length mark ≡ length (pre ++ mark) = ap (λ m. m + length mark) at ∙ sym (length-append pre mark) in
    let byte : byte_at text (from + length mark) ≡ t.letter = ap (λ (ys : List ℕ). byte_at ys (from + length mark)) parted ∙ byte_behind (pre ++ mark) (t.rest ++ []) t.letter (from + length mark) behind in
    let p0 : Piece = piece_of 0 0 n (n + 1) in
    let stands : (bytes_between text from size ≡ row) × (bytes_between text (from + length mark) size ≡ words) × ((byte_at text (from + length mark) == 91) ≡ false) × (from + length mark < size) × (from + length row < 2 ^ 64) = (
      piece_between text pre row [] from size whole_text at (k ∙ ap (λ m. m + length row) at),
      piece_between text (pre ++ mark) words [] (from + length mark) size parted behind (omega (arith, k, wide, behind)),
      ap (λ b. b == 91) byte ∙ turned is_ascii_alphabetic 91 t.letter h.words.letter refl,
      omega (arith, k, wide),
      omega (arith, k, fits),
    ) in
    let free = line_free text [] t.first (10 ∷ 10 ∷ row) 0 n (n + 1) 1 refl refl (e ∙ (let q : length t.first ≡ 0 + length t.first = omega arith in q)) h.free (omega (arith, k, fits)) (omega arith) in
    let header : HeaderLine = header_behind known.syntax.tables (numbered 0 t.first) Never in
    let blank_line = blank_ends known text two header p0 n 1 blank (h.bracket (10 ∷ 10 ∷ row)) in
    let noted = note_taken known text t.name t.others h.inside h.short t.letter t.rest h.words from size size 3 (first_block n) p0 n 1 (blank_line.0) footnotes within stands in
    ap (λ ls. seen (closed_to text 0 (fold (line_taken_in (known_of syntax text ls) text) first_page ls))) split
    ∙ ap (λ (s : State). seen (closed_to text 0 (line_taken_in known text (line_taken_in known text s two) three))) (line_begins known text (numbered 0 t.first) one free)
    ∙ ap (λ (s : State). seen (closed_to text 0 (line_taken_in known text s three))) (blank_line.1)
    ∙ ap (λ (s : State). seen (closed_to text 0 s)) (noted.1)
    ∙ note_ends known text t.name t.others h.inside h.short t.letter t.rest h.words from size size 3 (first_block n) p0 n 1 (blank_line.0) (noted.0) (stands.2)

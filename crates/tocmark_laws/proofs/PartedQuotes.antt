-- The blocks of a quote of paragraphs of a line each, with a blank line between two.
use Rattle.std.proofs.Common.{◌≡◌, ℕ, suc, ◌+◌, ◌-◌, ◌^◌, ◌<◌, ◌≤◌, max, Bool, true, false, ◌==◌, if◌then◌else◌, nat_lt, nat_le, List, [], ◌∷◌, ◌++◌, length, refl, ap, sym, ◌∙◌, arith, append_assoc, append-nil, length-append, None}
use Rattle.std.proofs.Math.Seq.{take-length}
use Rattle.std.proofs.lemmas.Bool.Decides.{nat_tests}
use Rattle.std.specs.Char.{is_ascii_alphabetic}
use Rattle.std.specs.List.{AllByRecursion, fold}
use Rattle.tocmark_read_scan.specs.Basic.{plus, byte_at, bytes_between}
use Rattle.tocmark_read_scan.specs.declared.syntax.Syntax.{Syntax}
use Rattle.tocmark_read_scan.proofs.PlainContent.{byte_behind, get_behind}
use Rattle.tocmark_read_scan.proofs.PlainPieces.{drop_behind, piece_between}
use Rattle.tocmark_read_scan.proofs.PlainTests.{turned}
use Rattle.tocmark_read_scan.proofs.Repeats.{repeated_stop}
use Rattle.tocmark_read_lines.specs.Cells.{cells_of, filled, first_cursor, moved}
use Rattle.tocmark_read_lines.specs.Containers.{container_at, container_in, going_on, after_quote, matched, passed, raised, raised_at}
use Rattle.tocmark_read_lines.specs.DefinitionLists.{begins_definition as begins_term, definition_start}
use Rattle.tocmark_read_lines.specs.Lines.{line}
use Rattle.tocmark_read_lines.specs.Marks.{tail_of}
use Rattle.tocmark_read_lines.specs.Footnotes.{note_start}
use Rattle.tocmark_read_lines.specs.declared.cell.Cell.{Cell}
use Rattle.tocmark_read_lines.specs.declared.line.Line.{Line}
use Rattle.tocmark_read_page.specs.Definitions.{begins_definition, definitions_from}
use Rattle.tocmark_read_page.specs.Leaves.{is_paragraph, is_table}
use Rattle.tocmark_read_page.specs.Pages.{State, first_page, leaf_opened, leaf_closed, closed_to, times, list_left, begun, loosened, had_marked, list_of, is_apart, leaf_finished, finished, piece_taken, is_list, is_quote, settled, shortened, one_closed, ended}
use Rattle.tocmark_read_page.specs.Pieces.{piece_of}
use Rattle.tocmark_read_page.specs.declared.leaf.Leaf.TheVariants as leaf
use Rattle.tocmark_read_page.specs.declared.line_start.Known.{Known}
use Rattle.tocmark_read_page.specs.declared.line_start.LineStart.{LineStart}
use Rattle.tocmark_read_page.specs.declared.page.Block.{Block}
use Rattle.tocmark_read_page.specs.declared.page.BlockKind.TheVariants as kind
use Rattle.tocmark_read_page.specs.declared.page.HeaderLine.{HeaderLine}
use Rattle.tocmark_read_page.specs.declared.page.HeaderLine.TheVariants.{Never}
use Rattle.tocmark_read_page.specs.declared.piece.Piece.{Piece}
use Rattle.tocmark_read_constructs.specs.Metadata.{known_of}
use Rattle.tocmark_read_constructs.specs.Tables.{may_delimit, delimiters_taken, header_of}
use Rattle.tocmark_read_blocks.specs.Blocks.{BlocksView, blocks_in, page_in, leaf_started_in, started_in, started_at_in, tabled_in, tabled_as, is_lazy, passed_in, turn_in, turn_of, touched, taken_at_in, turn_taken_in, cells_taken_in, line_taken_in}
use Rattle.tocmark_read_blocks.specs.Containers.{container_once_in, goes_directly, begun_at}
use Rattle.tocmark_read_blocks.specs.Leaves.{leaf_turn}
use Rattle.tocmark_read_blocks.specs.Paragraphs.{text_taken, text_started}
use Rattle.tocmark_read_blocks.specs.declared.leaf.Turn.TheVariants as turn
use Rattle.tocmark_read_blocks.proofs.PlainLines.{numbered}
use Rattle.tocmark_read_blocks.proofs.PlainTexts.{line_list}
use Rattle.tocmark_laws.specs.Extensions.{lined}
use Rattle.tocmark_laws.proofs.DocumentBlocks.{get_last, set_last, piece_taken_whole}
use Rattle.tocmark_laws.proofs.ExtensionBlocks.{never}
use Rattle.tocmark_laws.proofs.FrontMatterBlocks.{IsLineText, lines_split}
use Rattle.tocmark_laws.proofs.InkAtColumn.{at_column}
use Rattle.tocmark_laws.proofs.NoteBlocks.{blank_starts}
use Rattle.tocmark_laws.proofs.QuoteBlocks.{QuoteLine, IsQuoteLine, AreQuoteLines, quoted_bytes, quote_block, open_quote, view, Stands, piece_here, none_begins, columns, order_of, text_starts, quote_continues, first_taken, end_of, next_place}

-- ---- pages

abbrev pub para_block : ℕ → ℕ → ℕ → ℕ → Block
para_block from to first last = record { depth = 1; kind = kind.Paragraph; start = from; end = to; first = first; last = last; loose = false; list = None; task = None }

-- a quote between two paragraphs; it reaches to one line, the page to another
abbrev between : List Block → List Piece → ℕ → ℕ → ℕ → ℕ → HeaderLine → State
between bs ps to_end to_line end number header = record first_page {
  blocks = quote_block false 0 ∷ bs;
  pieces = ps;
  opened = open_quote to_end to_line true ∷ [];
  quotes = 0 ∷ [];
  end = end;
  line = number;
  kept = length ps;
  header = header;
}

-- a quote whose last paragraph has its line
abbrev within : List Block → List Piece → Piece → ℕ → ℕ → ℕ → ℕ → HeaderLine → State
within bs ps p to_end to_line end number header = record first_page {
  blocks = (quote_block false 0 ∷ bs) ++ para_block p.start p.start (length ps) (length ps) ∷ [];
  pieces = ps ++ p ∷ [];
  opened = open_quote to_end to_line true ∷ [];
  quotes = 0 ∷ [];
  leaf = leaf.Paragraph;
  end = end;
  line = number;
  kept = length (ps ++ p ∷ []);
  header = header;
}

-- the block of a paragraph that ended
abbrev pub ended_para : List Piece → Piece → ℕ → Block
ended_para ps p end = para_block p.start end (length ps) (length (ps ++ p ∷ []))

module _ (text : List ℕ) (bs : List Block) (ps : List Piece) (p : Piece) (to_end to_line end number : ℕ) (header : HeaderLine) where
  abbrev whole : State
  whole = within bs ps p to_end to_line end number header

  abbrev open_block : Block
  open_block = para_block p.start p.start (length ps) (length ps)

  settled_whole : (byte_at text p.start == 91) ≡ false → length ps < 2 ^ 64 → settled text whole ≡ whole
  unfolding settled definitions_from begins_definition shortened
  settled_whole h fits =
      let first : plus (length ps) 0 ≡ length ps = omega (arith, fits) in
      rw (get_last (quote_block false 0 ∷ bs) open_block, drop_behind ps (p ∷ []), h, first, get_behind ps [] p, set_last (quote_block false 0 ∷ bs) open_block open_block) refl

  leaf_ends : end ≤ to_end → number ≤ to_line → leaf_finished whole ≡ between (bs ++ ended_para ps p end ∷ []) (ps ++ p ∷ []) to_end to_line end number header
  unfolding leaf_finished finished raised_at raised
  leaf_ends e l =
      let same : max to_end end ≡ to_end = omega (arith, e) in
      let line_same : max to_line number ≡ to_line = omega (arith, l) in
      rw (take-length (ps ++ p ∷ []), get_last (quote_block false 0 ∷ bs) open_block, set_last (quote_block false 0 ∷ bs) open_block (ended_para ps p end), same, line_same) refl

  pub paragraph_ends : (byte_at text p.start == 91) ≡ false → length ps < 2 ^ 64 → end ≤ to_end → number ≤ to_line → closed_to text 1 whole ≡ between (bs ++ ended_para ps p end ∷ []) (ps ++ p ∷ []) to_end to_line end number header
  unfolding closed_to leaf_closed times
  paragraph_ends h fits e l = ap (λ s. times one_closed (length s.opened - 1) s) (ap leaf_finished (settled_whole h fits) ∙ leaf_ends e l)

  quote_closed : view (one_closed (between (bs ++ ended_para ps p end ∷ []) (ps ++ p ∷ []) to_end to_line end number header)) ≡ record { blocks = quote_block false to_end ∷ (bs ++ ended_para ps p end ∷ []); pieces = ps ++ p ∷ []; definitions = [] }
  unfolding one_closed ended raised_at is_quote
  quote_closed = refl

  pub quote_ends : (byte_at text p.start == 91) ≡ false → length ps < 2 ^ 64 → end ≤ to_end → number ≤ to_line → view (closed_to text 0 whole) ≡ record { blocks = quote_block false to_end ∷ (bs ++ ended_para ps p end ∷ []); pieces = ps ++ p ∷ []; definitions = [] }
  unfolding closed_to leaf_closed times
  quote_ends h fits e l = ap (λ s. view (times one_closed (length s.opened - 0) s)) (ap leaf_finished (settled_whole h fits) ∙ leaf_ends e l) ∙ quote_closed

-- ---- a blank line of the quote

module _ (known : Known) (text : List ℕ) (from end next number : ℕ) where
  abbrev blank_cells : List Cell
  blank_cells = numbered from (62 ∷ [])

  abbrev blank_line : Line
  blank_line = record { number = number; start = from; end = end; next = next }

  abbrev past_mark : LineStart
  past_mark = record { cursor = at_column 1; depth = 1 }

  mark_goes_on : (to_end to_line : ℕ) → matched blank_cells (open_quote to_end to_line true ∷ []) (0 ∷ []) ≡ (1, at_column 1)
  unfolding passed going_on after_quote first_cursor moved
  mark_goes_on to_end to_line = refl

  none_here : (inside : Bool) → container_in known.syntax blank_cells (tail_of blank_cells) (at_column 1) inside ≡ None
  unfolding container_in container_at definition_start begins_term note_start
  none_here inside = rw (never known.syntax.definition_lists, never known.syntax.footnotes) refl

  blank_closes : (s : State) → leaf_started_in known text blank_cells blank_line past_mark s ≡ closed_to text 1 s
  unfolding leaf_started_in container_once_in
  blank_closes s =
      ap (started_at_in known text blank_cells blank_line (tail_of blank_cells)) (repeated_stop (container_once_in known.syntax text blank_cells blank_line (tail_of blank_cells)) (length blank_cells) past_mark s s (omega arith) (sym (ap (begun_at text blank_cells blank_line past_mark s) (none_here (goes_directly 1 s)))))
      ∙ blank_starts known text blank_cells blank_line past_mark s refl

  module _ (bs : List Block) (ps : List Piece) (p : Piece) (end0 number0 : ℕ) (header : HeaderLine) where
    abbrev unreached : State
    unreached = within bs ps p end0 number0 end0 number0 header

    abbrev reached : State
    reached = within bs ps p end number end0 number0 header

    abbrev after : HeaderLine → State
    after now = between (bs ++ ended_para ps p end0 ∷ []) (ps ++ p ∷ []) end number end0 number0 now

    mark_reaches : end0 ≤ end → number0 ≤ number → touched blank_line 1 unreached ≡ reached
    unfolding touched raised_at raised
    mark_reaches e n =
        let far : max end0 end ≡ end = omega (arith, e) in
        let late : max number0 number ≡ number = omega (arith, n) in
        rw (far, late) refl

    blank_comes : (byte_at text p.start == 91) ≡ false → length ps < 2 ^ 64 → end0 ≤ end → number0 ≤ number → leaf_started_in known text blank_cells blank_line past_mark reached ≡ after header
    blank_comes h fits e n = blank_closes reached ∙ paragraph_ends text bs ps p end number end0 number0 header h fits e n

    blank_row : delimiters_taken text blank_cells blank_line (at_column 1) (goes_directly 1 reached) reached ≡ (reached, false)
    unfolding delimiters_taken may_delimit goes_directly is_paragraph
    blank_row = refl

    blank_passed : (byte_at text p.start == 91) ≡ false → length ps < 2 ^ 64 → end0 ≤ end → number0 ≤ number → (now : HeaderLine) × (passed_in known text blank_cells blank_line past_mark reached ≡ after now)
    unfolding passed_in tabled_in
    blank_passed h fits e n = by_tables known.syntax.tables
      where
        comes : leaf_started_in known text blank_cells blank_line past_mark reached ≡ after header
        comes = blank_comes h fits e n

        by_tables : (t : Bool) → (now : HeaderLine) × ((if t then tabled_as known text blank_cells blank_line past_mark (delimiters_taken text blank_cells blank_line (at_column 1) (goes_directly 1 reached) reached) else leaf_started_in known text blank_cells blank_line past_mark reached) ≡ after now)
        by_tables true = (header_of blank_cells (at_column 1) (is_lazy past_mark reached (leaf_started_in known text blank_cells blank_line past_mark reached)), ap (tabled_as known text blank_cells blank_line past_mark) blank_row ∙ ap (λ (u : State). record u { header = header_of blank_cells (at_column 1) (is_lazy past_mark reached (leaf_started_in known text blank_cells blank_line past_mark reached)) }) comes)
        by_tables false = (header, comes)

    blank_away : turn_in known text blank_cells blank_line past_mark reached ≡ turn.Passes
    unfolding turn_in turn_of is_table leaf_turn
    blank_away = rw never refl

    columns_are : bytes_between text from end ≡ 62 ∷ [] → cells_of [] from (bytes_between text from end) ≡ blank_cells
    unfolding filled
    columns_are e = ap (cells_of [] from) e

    pub blank_taken : bytes_between text from end ≡ 62 ∷ [] → (byte_at text p.start == 91) ≡ false → length ps < 2 ^ 64 → end0 ≤ end → number0 ≤ number → (now : HeaderLine) × (line_taken_in known text unreached blank_line ≡ after now)
    unfolding line_taken_in cells_taken_in
    blank_taken stands h fits e n =
        let come = blank_passed h fits e n in (
          come.0,
          ap (λ c. cells_taken_in known text c blank_line unreached) (columns_are stands)
              ∙ ap (λ m. taken_at_in known text blank_cells blank_line (record { cursor = m.1; depth = m.0 }) (touched blank_line (m.0) unreached)) (mark_goes_on end0 number0)
              ∙ ap (λ (u : State). taken_at_in known text blank_cells blank_line past_mark u) (mark_reaches e n)
              ∙ ap (λ t. turn_taken_in known t text blank_cells blank_line past_mark reached) blank_away
              ∙ come.1,
        )

-- ---- the line of a further paragraph

module _ (known : Known) (text : List ℕ) (q : QuoteLine) (h : IsQuoteLine false q) (from end next number : ℕ) (bs : List Block) (ps : List Piece) (to_end to_line end0 number0 : ℕ) (header : HeaderLine) where
  abbrev cells : List Cell
  cells = numbered from (quoted_bytes false q)

  abbrev l : Line
  l = record { number = number; start = from; end = end; next = next }

  abbrev place : LineStart
  place = record { cursor = at_column 2; depth = 1 }

  abbrev p_here : Piece
  p_here = piece_of 0 (from + 2) end next

  abbrev left : State
  left = between bs ps to_end to_line end0 number0 header

  abbrev there : State
  there = between bs ps end number end0 number0 header

  abbrev fresh : State
  fresh = record first_page {
    blocks = (quote_block false 0 ∷ bs) ++ para_block p_here.start p_here.start (length ps) (length ps) ∷ [];
    pieces = ps;
    opened = open_quote end number true ∷ [];
    quotes = 0 ∷ [];
    leaf = leaf.Paragraph;
    end = end;
    line = number;
    kept = length ps;
    header = header;
  }

  reaches : to_end ≤ end → to_line ≤ number → touched l 1 left ≡ there
  unfolding touched raised_at raised
  reaches e n =
      let far : max to_end end ≡ end = omega (arith, e) in
      let late : max to_line number ≡ number = omega (arith, n) in
      rw (far, late) refl

  opens : number < 2 ^ 64 → leaf_opened leaf.Paragraph kind.Paragraph p_here.start l (closed_to text 1 there) ≡ fresh
  unfolding leaf_opened closed_to leaf_closed times list_left is_list begun loosened had_marked list_of is_apart
  opens small =
      let near : nat_lt (plus number 1) number ≡ false = (let least : number ≤ plus number 1 = omega (arith, small) in grind (arith, least, nat_tests)) in
      rw near refl

  stays : text_started p_here.start fresh ≡ fresh
  unfolding text_started
  stays =
      let b : Block = para_block p_here.start p_here.start (length ps) (length ps) in
      let same : nat_le (length ps) (length ps) ≡ true = grind (arith, nat_tests) in
      rw (get_last (quote_block false 0 ∷ bs) b, same, set_last (quote_block false 0 ∷ bs) b b) refl

  text_comes : number < 2 ^ 64 → Stands false known text q h from end next number → text_taken text cells l place there ≡ within bs ps p_here end number end number header
  unfolding text_taken is_paragraph
  text_comes small w =
      ap (λ (x : Piece). piece_taken x l true (text_started x.start (leaf_opened leaf.Paragraph kind.Paragraph x.start l (closed_to text 1 there)))) (piece_here false known text q h from end next number)
      ∙ ap (λ (s : State). piece_taken p_here l true (text_started p_here.start s)) (opens small)
      ∙ ap (λ (s : State). piece_taken p_here l true s) stays
      ∙ piece_taken_whole p_here l fresh (order_of false known text q h from end next number w) refl

  comes : number < 2 ^ 64 → Stands false known text q h from end next number → leaf_started_in known text cells l place there ≡ within bs ps p_here end number end number header
  unfolding leaf_started_in started_in goes_directly is_paragraph
  comes small w =
      ap (started_at_in known text cells l (tail_of cells)) (repeated_stop (container_once_in known.syntax text cells l (tail_of cells)) (length cells) place there there (omega arith) (sym (none_begins false known text q h from end next number there)))
      ∙ ap (λ x. started_in known x text cells l (tail_of cells) place there) (text_starts false known text q h from end next number false false there w)
      ∙ text_comes small w

  no_row : delimiters_taken text cells l (at_column 2) (goes_directly 1 there) there ≡ (there, false)
  unfolding delimiters_taken may_delimit goes_directly is_paragraph
  no_row = refl

  passes_in : number < 2 ^ 64 → Stands false known text q h from end next number → (now : HeaderLine) × (passed_in known text cells l place there ≡ within bs ps p_here end number end number now)
  unfolding passed_in tabled_in
  passes_in small w = by_tables known.syntax.tables
    where
      by_tables : (t : Bool) → (now : HeaderLine) × ((if t then tabled_as known text cells l place (delimiters_taken text cells l (at_column 2) (goes_directly 1 there) there) else leaf_started_in known text cells l place there) ≡ within bs ps p_here end number end number now)
      by_tables true = (header_of cells (at_column 2) (is_lazy place there (leaf_started_in known text cells l place there)), ap (tabled_as known text cells l place) no_row ∙ ap (λ (u : State). record u { header = header_of cells (at_column 2) (is_lazy place there (leaf_started_in known text cells l place there)) }) (comes small w))
      by_tables false = (header, comes small w)

  away : turn_in known text cells l place there ≡ turn.Passes
  unfolding turn_in turn_of is_table leaf_turn
  away = rw never refl

  pub next_taken : number < 2 ^ 64 → Stands false known text q h from end next number → to_end ≤ end → to_line ≤ number → (now : HeaderLine) × (line_taken_in known text left l ≡ within bs ps p_here end number end number now)
  unfolding line_taken_in cells_taken_in
  next_taken small w e n =
      let come = passes_in small w in (
        come.0,
        ap (λ c. cells_taken_in known text c l left) (columns false known text q h from end next number w)
            ∙ ap (λ m. taken_at_in known text cells l (record { cursor = m.1; depth = m.0 }) (touched l (m.0) left)) (quote_continues false known text q h from end next number to_end to_line true)
            ∙ ap (λ (u : State). taken_at_in known text cells l place u) (reaches e n)
            ∙ ap (λ t. turn_taken_in known t text cells l place there) away
            ∙ come.1,
      )

-- ---- all lines

-- a blank line and a line for each further paragraph
abbrev pub further : List QuoteLine → List (List ℕ)
further [] = []
further (m ∷ ms) = (62 ∷ []) ∷ quoted_bytes false m ∷ further ms

abbrev pub parted_bytes : QuoteLine → List QuoteLine → List ℕ
parted_bytes q ms = lined (quoted_bytes false q) (further ms)

abbrev pub para_piece : ℕ → QuoteLine → List QuoteLine → Piece
para_piece from q ms = piece_of 0 (from + 2) (end_of false from q) (next_place (end_of false from q) ms)

abbrev pub next_from : ℕ → QuoteLine → ℕ
next_from from q = end_of false from q + 1 + 1 + 1

abbrev pub paras_blocks : ℕ → List Piece → QuoteLine → List QuoteLine → List Block
paras_blocks from ps q [] = ended_para ps (para_piece from q []) (end_of false from q) ∷ []
paras_blocks from ps q (m ∷ ms) = ended_para ps (para_piece from q (m ∷ ms)) (end_of false from q) ∷ paras_blocks (next_from from q) (ps ++ para_piece from q (m ∷ ms) ∷ []) m ms

abbrev pub paras_pieces : ℕ → QuoteLine → List QuoteLine → List Piece
paras_pieces from q [] = para_piece from q [] ∷ []
paras_pieces from q (m ∷ ms) = para_piece from q (m ∷ ms) ∷ paras_pieces (next_from from q) m ms

-- the lines after one
abbrev lines_past : ℕ → ℕ → List QuoteLine → List Line
lines_past before from [] = []
lines_past before from (m ∷ ms) = line before from (from + 1) (from + 1 + 1) ∷ line_list (before + 1) (from + 1 + 1) (quoted_bytes false m) (further ms)

line_more : (before from : ℕ) (q : QuoteLine) (ms : List QuoteLine) → line_list before from (quoted_bytes false q) (further ms) ≡ line before from (end_of false from q) (next_place (end_of false from q) ms) ∷ lines_past (before + 1) (end_of false from q + 1) ms
line_more before from q [] = refl
line_more before from q (m ∷ ms) = refl

-- what is after a line
abbrev text_past : List QuoteLine → List ℕ
text_past [] = []
text_past (m ∷ ms) = 10 ∷ 62 ∷ 10 ∷ parted_bytes m ms

joined_past : (q : QuoteLine) (ms : List QuoteLine) → parted_bytes q ms ≡ quoted_bytes false q ++ text_past ms
joined_past q [] = sym (append-nil (quoted_bytes false q))
joined_past q (m ∷ ms) = refl

line_stands : (known : Known) (text pre : List ℕ) (from number : ℕ) (q : QuoteLine) (ms : List QuoteLine) (h : IsQuoteLine false q) → text ≡ pre ++ parted_bytes q ms → from ≡ length pre → length text < 2 ^ 64 → Stands false known text q h from (end_of false from q) (next_place (end_of false from q) ms) number
line_stands known text pre from number q ms h t at fits =
    let rest : List ℕ = text_past ms in
    let words : List ℕ = q.letter ∷ q.others in
    let mark : List ℕ = 62 ∷ 32 ∷ [] in
    let all_text : text ≡ pre ++ (quoted_bytes false q ++ rest) = t ∙ ap (λ (xs : List ℕ). pre ++ xs) (joined_past q ms) in
    let parted : text ≡ (pre ++ mark) ++ (words ++ rest) = all_text ∙ sym (append_assoc pre mark (words ++ rest)) in
    let all : length text ≡ length pre + (length (quoted_bytes false q) + length rest) = ap length all_text ∙ length-append pre (quoted_bytes false q ++ rest) ∙ ap (λ n. length pre + n) (length-append (quoted_bytes false q) rest) in
    let behind : from + 2 ≡ length (pre ++ mark) = ap (λ n. n + 2) at ∙ sym (length-append pre mark) in
    let byte : byte_at text (from + 2) ≡ q.letter = ap (λ (xs : List ℕ). byte_at xs (from + 2)) parted ∙ byte_behind (pre ++ mark) (q.others ++ rest) q.letter (from + 2) behind in (
      piece_between text pre (quoted_bytes false q) rest from (end_of false from q) all_text at (ap (λ n. n + length (quoted_bytes false q)) at),
      piece_between text (pre ++ mark) words rest (from + 2) (end_of false from q) parted behind (omega (arith, behind)),
      ap (λ x. x == 91) byte ∙ turned is_ascii_alphabetic 91 q.letter h.letter refl,
      past ms,
      omega (arith, all, at, fits),
    )
  where
    past : (ks : List QuoteLine) → from + 2 < next_place (end_of false from q) ks
    past [] = omega arith
    past (k ∷ ks) = omega arith

paras_read : (known : Known) (text pre : List ℕ) (before from : ℕ) (bs : List Block) (ps : List Piece) (q : QuoteLine) (ms : List QuoteLine) (header : HeaderLine) → AreQuoteLines false (q ∷ ms) → text ≡ pre ++ parted_bytes q ms → from ≡ length pre → length text < 2 ^ 64 → length ps ≤ from
    → view (closed_to text 0 (fold (line_taken_in known text) (within bs ps (para_piece from q ms) (end_of false from q) (plus before 1) (end_of false from q) (plus before 1) header) (lines_past (before + 1) (end_of false from q + 1) ms)))
    ≡ record { blocks = quote_block false (length text) ∷ (bs ++ paras_blocks from ps q ms); pieces = ps ++ paras_pieces from q ms; definitions = [] }
paras_read known text pre before from bs ps q [] header h t at fits few =
    let p : Piece = para_piece from q [] in
    let stands = line_stands known text pre from (plus before 1) q [] (h.0) t at fits in
    let all : length text ≡ end_of false from q = ap length t ∙ length-append pre (quoted_bytes false q) ∙ ap (λ n. n + length (quoted_bytes false q)) (sym at) in
    quote_ends text bs ps p (end_of false from q) (plus before 1) (end_of false from q) (plus before 1) header (stands.2) (omega (arith, all, fits, few)) (omega arith) (omega arith)
    ∙ ap (λ n. (let v : BlocksView = record { blocks = quote_block false n ∷ (bs ++ ended_para ps p (end_of false from q) ∷ []); pieces = ps ++ p ∷ []; definitions = [] } in v)) (sym all)
paras_read known text pre before from bs ps q (m ∷ ms) header h t at fits few =
    let p : Piece = para_piece from q (m ∷ ms) in
    let row : List ℕ = quoted_bytes false q in
    let end : ℕ = end_of false from q in
    let next : ℕ = next_from from q in
    let more : List ℕ = parted_bytes m ms in
    let stands = line_stands known text pre from (plus before 1) q (m ∷ ms) (h.0) t at fits in
    let all : length text ≡ from + (length row + suc (suc (suc (length more)))) = ap length t ∙ length-append pre (row ++ 10 ∷ 62 ∷ 10 ∷ more) ∙ ap (λ k. length pre + k) (length-append row (10 ∷ 62 ∷ 10 ∷ more)) ∙ ap (λ k. k + (length row + suc (suc (suc (length more))))) (sym at) in
    let blank_at : text ≡ (pre ++ (row ++ 10 ∷ [])) ++ ((62 ∷ []) ++ 10 ∷ more) = t ∙ ap (λ (xs : List ℕ). pre ++ xs) (sym (append_assoc row (10 ∷ []) (62 ∷ 10 ∷ more))) ∙ sym (append_assoc pre (row ++ 10 ∷ []) (62 ∷ 10 ∷ more)) in
    let blank_place : end + 1 ≡ length (pre ++ (row ++ 10 ∷ [])) = ap (λ k. k + length row + 1) at ∙ (let w : length pre + length row + 1 ≡ length (pre ++ (row ++ 10 ∷ [])) = grind (arith, length-append) in w) in
    let blank_stands : bytes_between text (end + 1) (end + 1 + 1) ≡ 62 ∷ [] = piece_between text (pre ++ (row ++ 10 ∷ [])) (62 ∷ []) (10 ∷ more) (end + 1) (end + 1 + 1) blank_at blank_place (ap (λ k. k + 1) blank_place) in
    let there_at : text ≡ (pre ++ (row ++ 10 ∷ 62 ∷ 10 ∷ [])) ++ more = t ∙ ap (λ (xs : List ℕ). pre ++ xs) (sym (append_assoc row (10 ∷ 62 ∷ 10 ∷ []) more)) ∙ sym (append_assoc pre (row ++ 10 ∷ 62 ∷ 10 ∷ []) more) in
    let there_place : next ≡ length (pre ++ (row ++ 10 ∷ 62 ∷ 10 ∷ [])) = ap (λ k. k + length row + 1 + 1 + 1) at ∙ (let w : length pre + length row + 1 + 1 + 1 ≡ length (pre ++ (row ++ 10 ∷ 62 ∷ 10 ∷ [])) = grind (arith, length-append) in w) in
    let one : length (ps ++ p ∷ []) ≡ length ps + 1 = length-append ps (p ∷ []) in
    let blank = blank_taken known text (end + 1) (end + 1 + 1) (end + 1 + 1 + 1) (plus (before + 1) 1) bs ps p end (plus before 1) header blank_stands (stands.2) (omega (arith, all, fits, few)) (omega arith) (omega arith) in
    let done : List Block = bs ++ ended_para ps p end ∷ [] in
    let line_there = line_stands known text (pre ++ (row ++ 10 ∷ 62 ∷ 10 ∷ [])) next (plus (before + 1 + 1) 1) m ms (h.1.0) there_at there_place fits in
    let come = next_taken known text m (h.1.0) next (end_of false next m) (next_place (end_of false next m) ms) (plus (before + 1 + 1) 1) done (ps ++ p ∷ []) (end + 1 + 1) (plus (before + 1) 1) end (plus before 1) (blank.0) (omega arith) line_there (omega arith) (omega arith) in
    let rest = paras_read known text (pre ++ (row ++ 10 ∷ 62 ∷ 10 ∷ [])) (before + 1 + 1) next done (ps ++ p ∷ []) m ms (come.0) (h.1) there_at there_place fits (omega (arith, one, few)) in
    ap (λ (s : State). view (closed_to text 0 (fold (line_taken_in known text) s (line_list (before + 1 + 1) next (quoted_bytes false m) (further ms))))) (blank.1)
    ∙ ap (λ (ls : List Line). view (closed_to text 0 (fold (line_taken_in known text) (between done (ps ++ p ∷ []) (end + 1 + 1) (plus (before + 1) 1) end (plus before 1) (blank.0)) ls))) (line_more (before + 1 + 1) next m ms)
    ∙ ap (λ (s : State). view (closed_to text 0 (fold (line_taken_in known text) s (lines_past (before + 1 + 1 + 1) (end_of false next m + 1) ms)))) (come.1)
    ∙ rest
    ∙ ap (λ (xs : List Block). (let v : BlocksView = record { blocks = quote_block false (length text) ∷ xs; pieces = (ps ++ p ∷ []) ++ paras_pieces next m ms; definitions = [] } in v)) (append_assoc bs (ended_para ps p end ∷ []) (paras_blocks next (ps ++ p ∷ []) m ms))
    ∙ ap (λ (xs : List Piece). (let v : BlocksView = record { blocks = quote_block false (length text) ∷ (bs ++ ended_para ps p end ∷ paras_blocks next (ps ++ p ∷ []) m ms); pieces = xs; definitions = [] } in v)) (append_assoc ps (p ∷ []) (paras_pieces next m ms))

mark_text : IsLineText (62 ∷ [])
mark_text = record { some = omega arith; within = (record { feed = refl; return = refl; tab = refl }, tt) }

further_text : (ms : List QuoteLine) → AreQuoteLines false ms → AllByRecursion IsLineText (further ms)
further_text [] h = tt
further_text (m ∷ ms) h = (mark_text, (record { some = omega arith; within = (h.0).within }, further_text ms (h.1)))

-- the blocks of such a quote
pub parted_blocks : (syntax : Syntax) (q : QuoteLine) (ms : List QuoteLine) → AreQuoteLines false (q ∷ ms) → AllByRecursion (λ b. (b == 13) ≡ false) (parted_bytes q ms) → length (parted_bytes q ms) < 2 ^ 64
    → blocks_in syntax (parted_bytes q ms) ≡ record { blocks = quote_block false (length (parted_bytes q ms)) ∷ paras_blocks 0 [] q ms; pieces = paras_pieces 0 q ms; definitions = [] }
unfolding blocks_in page_in
parted_blocks syntax q ms h returns fits =
    let text : List ℕ = parted_bytes q ms in
    let lines : List Line = line_list 0 0 (quoted_bytes false q) (further ms) in
    let known : Known = known_of syntax text lines in
    let stands = line_stands known text [] 0 1 q ms (h.0) refl refl fits in
    let first = first_taken false known text q (h.0) 0 (end_of false 0 q) (next_place (end_of false 0 q) ms) 1 Never refl refl stands in
    ap (λ ls. view (closed_to text 0 (fold (line_taken_in (known_of syntax text ls) text) first_page ls))) (lines_split text returns 0 0 (quoted_bytes false q) (further ms) (record { some = omega arith; within = (h.0).within }, further_text ms (h.1)))
    ∙ ap (λ ls. view (closed_to text 0 (fold (line_taken_in known text) first_page ls))) (line_more 0 0 q ms)
    ∙ ap (λ (s : State). view (closed_to text 0 (fold (line_taken_in known text) s (lines_past 1 (end_of false 0 q + 1) ms)))) (first.1)
    ∙ paras_read known text [] 0 0 [] [] q ms (first.0) h refl refl fits (omega arith)

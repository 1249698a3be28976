-- Lines between fences are read as a code block under every syntax.
use Rattle.std.proofs.Common.{◌≡◌, ℕ, zero, suc, ◌+◌, ◌^◌, ◌<◌, ◌≤◌, min, Bool, true, false, not, ◌==◌, ◌&&◌, ◌||◌, if◌then◌else◌, nat_eq, nat_le, nat_lt, List, [], ◌∷◌, ◌++◌, length, replicate, refl, ap, sym, subst, ◌∙◌, arith, append_assoc, append-nil, length-append, Option, None, ◌⊎◌, inl, inr, true≢false}
use Rattle.std.proofs.Math.Seq.{take-length}
use Rattle.std.proofs.lemmas.Bool.Decides.{nat_tests}
use Rattle.std.proofs.lemmas.List.{length-replicate}
use Rattle.std.specs.Char.{is_ascii_alphanumeric}
use Rattle.std.specs.List.{AllByRecursion, fold, list_all, starts_with}
use Rattle.tocmark_event.specs.Merged.{merged, after_text}
use Rattle.tocmark_event.specs.View.{EventView, Start, End, Leaf, CodeBlock, Fenced, Text}
use Rattle.tocmark_event.specs.declared.event.TagEnd.TheVariants as end
use Rattle.tocmark_read_scan.specs.Basic.{plus, byte_at, bytes_between}
use Rattle.tocmark_read_scan.specs.PlainParts.{last_byte}
use Rattle.tocmark_read_scan.specs.declared.syntax.Syntax.{Syntax}
use Rattle.tocmark_read_scan.proofs.PlainPieces.{piece_between}
use Rattle.tocmark_read_scan.proofs.PlainTests.{both_true, is_not, both_false, one_of_two, or_first, or_second, eq_of, turned, all_from}
use Rattle.tocmark_read_scan.proofs.Repeats.{repeated_stop}
use Rattle.tocmark_read_lines.specs.Cells.{cells_of, cell_place, first_cursor, indent_of}
use Rattle.tocmark_read_lines.specs.Containers.{container_in, raised_at}
use Rattle.tocmark_read_lines.specs.Lines.{line, lines_of}
use Rattle.tocmark_read_lines.specs.Marks.{tail_of}
use Rattle.tocmark_read_lines.specs.declared.beginnings.Fence.{Fence}
use Rattle.tocmark_read_lines.specs.declared.cell.Cell.{Cell}
use Rattle.tocmark_read_lines.specs.declared.cell.Cursor.{Cursor}
use Rattle.tocmark_read_lines.specs.declared.line.Line.{Line}
use Rattle.tocmark_read_page.specs.Leaves.{is_paragraph, is_table}
use Rattle.tocmark_read_page.specs.Pages.{State, first_page, leaf_closed, closed_to, times, leaf_finished, finished, piece_taken}
use Rattle.tocmark_read_page.specs.Pieces.{piece_of, keeps_line}
use Rattle.tocmark_read_page.specs.declared.line_start.Known.{Known}
use Rattle.tocmark_read_page.specs.declared.page.BlockKind.{BlockKind}
use Rattle.tocmark_read_page.specs.declared.page.HeaderLine.{HeaderLine}
use Rattle.tocmark_read_page.specs.declared.page.HeaderLine.TheVariants.{Never}
use Rattle.tocmark_read_page.specs.declared.piece.Piece.{Piece}
use Rattle.tocmark_read_constructs.specs.Metadata.{known_of, metadata_in, begins_metadata, opens_metadata, is_triple, mark_of}
use Rattle.tocmark_read_constructs.specs.Quotes.{is_first_line, tag_in}
use Rattle.tocmark_read_constructs.specs.Tables.{may_delimit, delimiters_taken, header_of}
use Rattle.tocmark_read_blocks.specs.Blocks.{BlocksView, blocks_in, page_in, start_or, leaf_started_in, started_in, started_at_in, tabled_in, tabled_as, is_lazy, passed_in, turn_in, turn_of, touched, taken_at_in, turn_taken_in, cells_taken_in, line_taken_in, leaf_ended}
use Rattle.tocmark_read_blocks.specs.Codes.{code_taken, html_ended}
use Rattle.tocmark_read_blocks.specs.Containers.{container_once_in, containers_opened_in, goes_directly, begun_at}
use Rattle.tocmark_read_blocks.specs.Leaves.{leaf_at, leaf_turn, metadata_or, task_or, quote_kind_or, tag_or}
use Rattle.tocmark_read_blocks.specs.declared.leaf.LeafStart.{LeafStart}
use Rattle.tocmark_read_blocks.specs.declared.leaf.Turn.TheVariants as turn
use Rattle.tocmark_read_blocks.proofs.PlainLines.{cells_within, numbered}
use Rattle.tocmark_read_blocks.proofs.PlainSteps.{front}
use Rattle.tocmark_read_blocks.proofs.PlainTexts.{line_list, AreNoReturns}
use Rattle.tocmark_read_spans.specs.Definitions as defs
use Rattle.tocmark_read_spans.specs.declared.definitions.Entry.{Entry}
use Rattle.tocmark_reader.specs.Emitted.{NodeView, Container}
use Rattle.tocmark_reader.specs.Pages as pages
use Rattle.tocmark_reader.specs.Pages.{start_state, block_taken_in, block_step_in, is_unwrapped, fence_node_in, with_fence_in, lines_nodes}
use Rattle.tocmark_reader.specs.PlainTexts.{IsReadAs}
use Rattle.tocmark_reader.specs.Reading.{FoundView, collected_in, collected_from, first_entry, found_under, noted_as, reading_of}
use Rattle.tocmark_reader.specs.Reading as reading
use Rattle.tocmark_reader.specs.Words.{info_text_in}
use Rattle.tocmark_reader.proofs.PlainReading.{IsPrintable}
use Rattle.tocmark_reader.proofs.PlainSources.{IsClean, AreClean, all_implied}
use Rattle.tocmark_laws.specs.PlainCode.{FencedCode, has_run, is_line_byte, is_code_line, is_fenced_code, fenced_text, code_leaf, code_events}
use Rattle.tocmark_laws.proofs.DocumentBlocks.{block, piece_taken_whole}
use Rattle.tocmark_laws.proofs.DocumentCode.{IsToken, IsInfo, IsFlush, IsShort, IsOpened, opener, closer, fence_of, code_kind, coding, cursor_of, goes_on, closes, open_line, no_container, a_fence, fence_comes, whole_piece}
use Rattle.tocmark_laws.proofs.DocumentEvents.{code_leaves, found_are_read}
use Rattle.tocmark_laws.proofs.DocumentNodes.{code_node, found_rows, info_kept, lines_noded, some_pieces, text_nodes}
use Rattle.tocmark_laws.proofs.DocumentParagraphs.{behind_line, line_length, lines_behind}
use Rattle.tocmark_laws.proofs.DocumentRows.{Code, EndsFull, IsCode, IsCodeByte, AreCode, AreRows, code_body, code_count, code_end, code_joined, code_pieces, code_rest, row_bytes, row_blocks, row_pieces, row_within, rows_clean, rows_full, line_front, lines_are, closer_printable, opener_printable, printable_within, inside}
use Rattle.tocmark_laws.proofs.ExtensionBlocks.{never, here, no_definition, no_note, no_kind, no_task, passes}
use Rattle.tocmark_laws.proofs.ExtensionParagraphs.{found_from, free_note, lined_is, within_byte, last_of}

-- ---- the line that opens code

-- the blocks at the end of a page
abbrev seen : List ℕ → State → BlocksView
seen text s = (let t : State = closed_to text 0 s in record { blocks = t.blocks; pieces = t.pieces; definitions = t.definitions })

-- code at the front of a page, with what is noted of tables
abbrev under : HeaderLine → List Piece → Fence → BlockKind → ℕ → ℕ → State
under header qs f k end number = record (coding [] 0 qs f k 0 end number) { header = header }

module _ (known : Known) (text : List ℕ) (token : ℕ) (is : IsToken token) (rest : List ℕ) (end next : ℕ) (f : Fence) (k : BlockKind) (h : IsOpened text (numbered 0 (token ∷ rest)) (record { number = 1; start = 0; end = end; next = next }) f k) (first : byte_at text 0 ≡ token) where
  abbrev cells : List Cell
  cells = numbered 0 (token ∷ rest)

  abbrev l : Line
  l = record { number = 1; start = 0; end = end; next = next }

  token_is_not : (b : ℕ) → (96 == b) ≡ false → (126 == b) ≡ false → (token == b) ≡ false
  token_is_not b tick tilde = by_token is
    where
      by_token : IsToken token → (token == b) ≡ false
      by_token (inl e) = ap (λ t. t == b) e ∙ tick
      by_token (inr e) = ap (λ t. t == b) e ∙ tilde

  no_bracket : (91 == token) ≡ false
  no_bracket = let q : (token == 91) ≡ false = token_is_not 91 refl refl in grind (arith, q, nat_tests)

  none_found : (within : Bool) → container_in known.syntax cells (tail_of cells) front within ≡ None
  unfolding container_in
  none_found within = rw (no_definition known.syntax cells (token_is_not 58 refl refl), no_note known.syntax cells (free_note 0 token rest no_bracket), no_container cells within h.begins) refl

  opens_none : containers_opened_in known.syntax text cells l (tail_of cells) here first_page ≡ (first_page, here)
  unfolding container_once_in
  opens_none =
      repeated_stop (container_once_in known.syntax text cells l (tail_of cells)) (length cells) here first_page first_page (omega arith)
      (sym (ap (begun_at text cells l here first_page) (none_found (goes_directly 0 first_page))))

  no_tag : tag_in known text cells l here false first_page ≡ false
  unfolding tag_in is_first_line
  no_tag = rw (never, never) refl

  no_metadata : metadata_in known text cells l here false first_page ≡ None
  unfolding metadata_in begins_metadata opens_metadata is_triple mark_of
  no_metadata =
      let dash : (byte_at text 0 == 45) ≡ false = ap (λ b. b == 45) first ∙ token_is_not 45 refl refl in
      let cross : (byte_at text 0 == 43) ≡ false = ap (λ b. b == 43) first ∙ token_is_not 43 refl refl in
      simp (dash, cross, never) refl

  starts_fence : leaf_started_in known text cells l here first_page ≡ under Never [] f k end 1
  unfolding leaf_started_in started_in goes_directly is_paragraph quote_kind_or tag_or task_or metadata_or
  starts_fence =
      let core : LeafStart = leaf_at cells (bytes_between text (cell_place cells 0 end) end) (tail_of cells) front false false in
      let none : start_or known text cells l here false first_page core ≡ core = rw (no_kind known text cells l first_page refl, no_tag, no_task known text cells l first_page refl, no_metadata) refl in
      ap (started_at_in known text cells l (tail_of cells)) opens_none
      ∙ ap (λ x. started_in known x text cells l (tail_of cells) here first_page) (none ∙ a_fence cells (bytes_between text (cell_place cells 0 end) end) f false false h.begins h.fence)
      ∙ fence_comes text cells l f k [] [] 0 0 h.info h.place

  no_row : delimiters_taken text cells l front (goes_directly 0 first_page) first_page ≡ (first_page, false)
  unfolding delimiters_taken may_delimit goes_directly is_paragraph
  no_row = refl

  fence_passed : (now : HeaderLine) × (passed_in known text cells l here first_page ≡ under now [] f k end 1)
  unfolding passed_in tabled_in
  fence_passed = by_tables known.syntax.tables
    where
      by_tables : (t : Bool) → (now : HeaderLine) × ((if t then tabled_as known text cells l here (delimiters_taken text cells l front (goes_directly 0 first_page) first_page) else leaf_started_in known text cells l here first_page) ≡ under now [] f k end 1)
      by_tables true = (header_of cells front (is_lazy here first_page (leaf_started_in known text cells l here first_page)), ap (tabled_as known text cells l here) no_row ∙ ap (λ (u : State). record u { header = header_of cells front (is_lazy here first_page (leaf_started_in known text cells l here first_page)) }) starts_fence)
      by_tables false = (Never, starts_fence)

  pub line_opens : (now : HeaderLine) × (line_taken_in known text first_page l ≡ under now [] f k end 1)
  unfolding line_taken_in cells_taken_in touched leaf_turn is_table
  line_opens = (
    fence_passed.0,
    ap (λ c. cells_taken_in known text c l first_page) h.columns
        ∙ ap (λ c. taken_at_in known text cells l (record { cursor = c; depth = 0 }) first_page) h.begins.ink
        ∙ ap (λ t. turn_taken_in known t text cells l here first_page) (passes known text cells l first_page refl refl refl)
        ∙ fence_passed.1,
  )

-- ---- a line of code

module _ (known : Known) (text : List ℕ) (header : HeaderLine) (token m : ℕ) (is : IsToken token) (k : BlockKind) where
  abbrev f : Fence
  f = fence_of token m

  code_turn : (l : List ℕ) (at next number : ℕ) (qs : List Piece) (end0 number0 : ℕ) → IsShort token m l → turn_in known text (cells_of [] at l) (record { number = number; start = at; end = at + length l; next = next }) (record { cursor = cursor_of (cells_of [] at l); depth = 0 }) (under header qs f k end0 number0) ≡ turn.Takes 0
  unfolding turn_in turn_of leaf_turn is_table
  code_turn l at next number qs end0 number0 short =
      let c : Cursor = cursor_of (cells_of [] at l) in
      let column : plus 0 (min 0 (indent_of c)) ≡ 0 = omega arith in
      rw (never known.syntax.footnotes, goes_on token m at l is short) (ap (λ i. turn.Takes i) column)

  code_comes : (l : List ℕ) (at next number : ℕ) (qs : List Piece) (end0 number0 : ℕ) → nat_lt at next ≡ true → code_taken text (cells_of [] at l) 0 (record { number = number; start = at; end = at + length l; next = next }) (under header qs f k end0 number0) ≡ under header (qs ++ piece_of 0 at (at + length l) next ∷ []) f k (at + length l) number
  unfolding code_taken html_ended keeps_line
  code_comes l at next number qs end0 number0 order =
      let s : State = under header qs f k end0 number0 in
      let here_line : Line = record { number = number; start = at; end = at + length l; next = next } in
      let p : Piece = piece_of 0 at (at + length l) next in
      ap (λ (x : Piece). html_ended (bytes_between text x.start x.end) (piece_taken x here_line true s)) (whole_piece l at next number)
      ∙ ap (html_ended (bytes_between text at (at + length l))) (piece_taken_whole p here_line s order refl)

  line_coded : (l : List ℕ) (at next number : ℕ) (qs : List Piece) (end0 number0 : ℕ) → bytes_between text at (at + length l) ≡ l → nat_lt at next ≡ true → IsShort token m l → line_taken_in known text (under header qs f k end0 number0) (record { number = number; start = at; end = at + length l; next = next }) ≡ under header (qs ++ piece_of 0 at (at + length l) next ∷ []) f k (at + length l) number
  unfolding line_taken_in cells_taken_in touched first_cursor
  line_coded l at next number qs end0 number0 e order short =
      let s : State = under header qs f k end0 number0 in
      let here_line : Line = record { number = number; start = at; end = at + length l; next = next } in
      let cells : List Cell = cells_of [] at l in
      ap (λ cs. cells_taken_in known text cs here_line s) (ap (cells_of [] at) e)
      ∙ ap (λ t. turn_taken_in known t text cells here_line (record { cursor = cursor_of cells; depth = 0 }) s) (code_turn l at next number qs end0 number0 short)
      ∙ code_comes l at next number qs end0 number0 order

  -- ---- the line that closes it

  abbrev result : List Piece → ℕ → BlocksView
  result qs end = record { blocks = block k 0 end 0 (length qs) ∷ []; pieces = qs; definitions = [] }

  code_finished : (qs : List Piece) (end number : ℕ) → seen text (leaf_finished (under header qs f k end number)) ≡ result qs end
  unfolding leaf_finished finished raised_at closed_to leaf_closed times
  code_finished qs end number = rw (take-length qs) refl

  end_turn : (at next number : ℕ) (qs : List Piece) (end0 number0 : ℕ) → suc m < 2 ^ 64 → turn_in known text (numbered at (closer token m)) (record { number = number; start = at; end = at + length (closer token m); next = next }) (record { cursor = cursor_of (numbered at (closer token m)); depth = 0 }) (under header qs f k end0 number0) ≡ turn.Closes
  unfolding turn_in turn_of leaf_turn is_table
  end_turn at next number qs end0 number0 fits = rw (never known.syntax.footnotes, closes token m at is fits) refl

  line_closes : (at next number : ℕ) (qs : List Piece) (end0 number0 : ℕ) → bytes_between text at (at + length (closer token m)) ≡ closer token m → at + length (closer token m) < 2 ^ 64 → seen text (line_taken_in known text (under header qs f k end0 number0) (record { number = number; start = at; end = at + length (closer token m); next = next })) ≡ result qs (at + length (closer token m))
  unfolding line_taken_in cells_taken_in touched first_cursor leaf_ended
  line_closes at next number qs end0 number0 e fits =
      let l : List ℕ = closer token m in
      let s : State = under header qs f k end0 number0 in
      let here_line : Line = record { number = number; start = at; end = at + length l; next = next } in
      let cells : List Cell = numbered at l in
      let small : suc m < 2 ^ 64 = omega (arith, fits, length-replicate (suc m) token) in
      ap (λ cs. seen text (cells_taken_in known text cs here_line s)) (ap (cells_of [] at) e ∙ cells_within at l (printable_within l (closer_printable token m is)) fits)
      ∙ ap (λ t. seen text (turn_taken_in known t text cells here_line (record { cursor = cursor_of cells; depth = 0 }) s)) (end_turn at next number qs end0 number0 small)
      ∙ code_finished qs (at + length l) number

  code_lines : (pre : List ℕ) (before at : ℕ) (ls : List (List ℕ)) (qs : List Piece) (end number : ℕ) → text ≡ pre ++ code_rest token m ls → at ≡ length pre → length text < 2 ^ 64 → AllByRecursion (IsShort token m) ls → seen text (fold (line_taken_in known text) (under header qs f k end number) (lines_behind before at (ls ++ closer token m ∷ []))) ≡ result (qs ++ code_pieces at ls) (at + length (code_rest token m ls))
  code_lines pre before at [] qs end number e front fits short =
      let l : List ℕ = closer token m in
      let parted : text ≡ pre ++ (l ++ []) = e ∙ ap (λ (ys : List ℕ). pre ++ ys) (sym (append-nil l)) in
      line_closes at (at + length l) (plus before 1) qs end number (piece_between text pre l [] at (at + length l) parted front (ap (λ i. i + length l) front)) (inside text pre l [] at parted front fits)
      ∙ ap (λ (ps : List Piece). result ps (at + length l)) (sym (append-nil qs))
  code_lines pre before at (l ∷ ls) qs end number e front fits short =
      let next : ℕ = at + length l + 1 in
      let more : List ℕ = code_rest token m ls in
      let p : Piece = piece_of 0 at (at + length l) next in
      let order : nat_lt at next ≡ true = grind (arith, nat_tests) in
      let width : length (l ++ 10 ∷ more) ≡ length l + suc (length more) = length-append l (10 ∷ more) in
      let stop : next + length more ≡ at + length (l ++ 10 ∷ more) = omega (arith, width) in
      ap (λ ls. seen text (fold (line_taken_in known text) (under header qs f k end number) ls)) (line_front before at l (closer token m) ls [])
      ∙ ap (λ (s : State). seen text (fold (line_taken_in known text) s (lines_behind (before + 1) next (ls ++ closer token m ∷ []))))
      (line_coded l at next (plus before 1) qs end number (piece_between text pre l (10 ∷ more) at (at + length l) e front (ap (λ i. i + length l) front)) order (short.0))
      ∙ code_lines (pre ++ (l ++ 10 ∷ [])) (before + 1) next ls (qs ++ p ∷ []) (at + length l) (plus before 1) (behind_line text pre l more e) (line_length pre l at front) fits (short.1)
      ∙ ap (λ (ps : List Piece). result ps (next + length more)) (append_assoc qs (p ∷ []) (code_pieces next ls))
      ∙ ap (result (qs ++ p ∷ code_pieces next ls)) stop

-- ---- the whole text

module _ (syntax : Syntax) (token m : ℕ) (info : List ℕ) (ls : List (List ℕ)) (h : IsCode token m info ls) where
  abbrev first : List ℕ
  first = opener token m info

  abbrev text : List ℕ
  text = row_bytes (Code token m info ls)

  abbrev body : ℕ
  body = code_body 0 token m info

  abbrev stop : ℕ
  stop = code_end 0 token m info ls

  abbrev kind_here : BlockKind
  kind_here = code_kind 0 token m info

  rows : AreRows (Code token m info ls ∷ [])
  rows = (h, tt)

  text_is : text ≡ first ++ 10 ∷ code_rest token m ls
  text_is = code_joined token m first ls

  clean : AreClean text
  clean = rows_clean (Code token m info ls) [] (h, tt)

  abbrev code_view : BlocksView
  code_view = record { blocks = row_blocks 0 0 (Code token m info ls ∷ []); pieces = row_pieces 0 (Code token m info ls ∷ []); definitions = [] }

  blocks_are : length text < 2 ^ 64 → blocks_in syntax text ≡ code_view
  unfolding blocks_in page_in
  blocks_are fits =
      let all : List (List ℕ) = ls ++ closer token m ∷ [] in
      let none : AreNoReturns text = all_implied IsClean (λ b. (b == 13) ≡ false) text (λ b c. c.return) clean in
      let unbroken : lines_of text ≡ line_list 0 0 first all =
      lines_are text none 0 0 first all (row_within (Code token m info ls) h) (subst (EndsFull first) (append-nil all) (rows_full (Code token m info ls) [] rows))
      in
      let fronted : line_list 0 0 first all ≡ line 0 0 (0 + length first) (0 + length first + 1) ∷ lines_behind 1 (0 + length first + 1) all = line_front 0 0 first (closer token m) ls [] in
      let lines : List Line = line_list 0 0 first all in
      let known : Known = known_of syntax text lines in
      let parted : text ≡ [] ++ (first ++ 10 ∷ code_rest token m ls) = text_is in
      let opened = open_line text token m info 0 (0 + length first + 1) 1 (piece_between text [] first (10 ∷ code_rest token m ls) 0 (0 + length first) parted refl refl) (printable_within first (opener_printable token m info ls h)) h.token_is h.least h.info_is h.flush (inside text [] first (10 ∷ code_rest token m ls) 0 parted refl fits) in
      let opens = line_opens known text token h.token_is (replicate m token ++ info) (0 + length first) (0 + length first + 1) (fence_of token m) kind_here opened (ap (λ (ys : List ℕ). byte_at ys 0) text_is) in
      let behind : body ≡ length (first ++ 10 ∷ []) = (let q : 0 + length first + 1 ≡ length first + 1 = omega arith in q) ∙ sym (length-append first (10 ∷ [])) in
      let width : length text ≡ length first + suc (length (code_rest token m ls)) = ap length text_is ∙ length-append first (10 ∷ code_rest token m ls) in
      let end_is : body + length (code_rest token m ls) ≡ stop = omega (arith, width) in
      ap (λ rs. seen text (fold (line_taken_in (known_of syntax text rs) text) first_page rs)) unbroken
      ∙ ap (λ rs. seen text (fold (line_taken_in known text) first_page rs)) fronted
      ∙ ap (λ (s : State). seen text (fold (line_taken_in known text) s (lines_behind 1 body all))) (opens.1)
      ∙ code_lines known text (opens.0) token m h.token_is kind_here (first ++ 10 ∷ []) 1 body ls [] (0 + length first) 1 (text_is ∙ sym (append_assoc first (10 ∷ []) (code_rest token m ls))) behind fits h.short
      ∙ ap (λ i. (let v : BlocksView = record { blocks = block kind_here 0 i 0 (length (code_pieces body ls)) ∷ []; pieces = code_pieces body ls; definitions = [] } in v)) end_is
      ∙ ap (λ i. (let v : BlocksView = record { blocks = block kind_here 0 stop 0 i ∷ []; pieces = code_pieces body ls; definitions = [] } in v)) (code_count body ls ∙ (let q : length ls ≡ 0 + length ls = omega arith in q))
      ∙ ap (λ (ps : List Piece). (let v : BlocksView = record { blocks = row_blocks 0 0 (Code token m info ls ∷ []); pieces = ps; definitions = [] } in v)) (sym (append-nil (code_pieces body ls)))

  -- ---- what is found

  collected : collected_from syntax text code_view ≡ defs.collected_none
  unfolding collected_from noted_as
  collected = by_test syntax.footnotes
    where
      by_test : (t : Bool) → (if t then reading.noted text code_view.blocks (collected_in syntax.names []) else collected_in syntax.names []) ≡ defs.collected_none
      by_test true = refl
      by_test false = refl

  abbrev find : List ℕ → Option Entry
  find = first_entry syntax.undefined_notes [] []

  abbrev made : List ℕ → List Piece → pages.State
  made i lines = record (start_state []) { nodes = record { depth = 0; item = Container (CodeBlock (Fenced i)); start = 0; end = stop } ∷ lines_nodes text false 1 lines }

  info_stands : bytes_between text (0 + suc m) (0 + length first) ≡ info
  info_stands =
      let fence : List ℕ = closer token m in
      let tokens : length fence ≡ suc m = length-replicate (suc m) token in
      let parted : text ≡ fence ++ (info ++ 10 ∷ code_rest token m ls) = text_is ∙ append_assoc fence info (10 ∷ code_rest token m ls) in
      piece_between text fence info (10 ∷ code_rest token m ls) (0 + suc m) (0 + length first) parted (omega (arith, tokens)) (omega (arith, length-append fence info))

  lines_stand : lines_nodes text false 1 (code_pieces body ls) ≡ text_nodes body ls
  lines_stand =
      let behind : body ≡ length (first ++ 10 ∷ []) = (let q : 0 + length first + 1 ≡ length first + 1 = omega arith in q) ∙ sym (length-append first (10 ∷ [])) in
      lines_noded text (first ++ 10 ∷ []) [] body token m ls (text_is ∙ sym (append_assoc first (10 ∷ []) (code_rest token m ls)) ∙ ap (λ (ys : List ℕ). (first ++ 10 ∷ []) ++ ys) (sym (append-nil (code_rest token m ls)))) behind h.lines

  code_put : length text < 2 ^ 64 → block_step_in syntax text find code_view.blocks code_view.pieces (start_state []) (block kind_here 0 stop 0 (0 + length ls)) ≡ record (start_state []) { nodes = code_node 0 token m info ls ∷ text_nodes body ls }
  unfolding block_taken_in with_fence_in fence_node_in is_unwrapped
  code_put fits =
      let width : length text ≡ length first + suc (length (code_rest token m ls)) = ap length text_is ∙ length-append first (10 ∷ code_rest token m ls) in
      let short : length info < 2 ^ 64 = omega (arith, width, length-append (closer token m) info, fits) in
      ap (made (info_text_in syntax.names (bytes_between text (0 + suc m) (0 + length first)))) (some_pieces code_view.pieces [] (code_pieces body ls) [] 0 (length ls) refl refl (code_count body ls))
      ∙ ap (λ (i : List ℕ). made (info_text_in syntax.names i) (code_pieces body ls)) info_stands
      ∙ ap (λ (i : List ℕ). made i (code_pieces body ls)) (info_kept syntax.names token info h.info_printable h.info_is short)
      ∙ ap (λ (ns : List NodeView). (let st : pages.State = record (start_state []) { nodes = code_node 0 token m info ls ∷ ns } in st)) lines_stand

  abbrev found_state : pages.State → FoundView
  found_state page = record { nodes = page.nodes; defined = []; unresolved = defs.distinct_labels page.inlines.texts page.inlines.missed }

  found : length text < 2 ^ 64 → found_under syntax text ≡ found_rows (Code token m info ls ∷ [])
  found fits =
      found_from syntax text code_view defs.collected_none (blocks_are fits) collected
      ∙ ap found_state (code_put fits)
      ∙ ap (λ (ns : List NodeView). (let v : FoundView = record { nodes = code_node 0 token m info ls ∷ ns; defined = []; unresolved = [] } in v)) (sym (append-nil (text_nodes body ls)))

  code_is_read : length text < 2 ^ 64 → IsReadAs (reading_of syntax text) (Start (CodeBlock (Fenced info)) ∷ (merged (code_leaves ls) ++ End end.CodeBlock ∷ []))
  code_is_read fits = found_are_read syntax (Code token m info ls) [] rows (found fits)

-- ---- the law

one_leaf : (ls : List (List ℕ)) → merged (code_leaves ls) ≡ code_leaf ls
one_leaf [] = refl
one_leaf (l ∷ []) = ap (λ (xs : List ℕ). Leaf (Text xs) ∷ []) (sym (append-nil (l ++ 10 ∷ [])))
one_leaf (l ∷ n ∷ ns) = ap (after_text (l ++ 10 ∷ [])) (one_leaf (n ∷ ns))

-- a run of tokens at the front
run_starts : (n count token : ℕ) (after : List ℕ) → count ≤ n → starts_with nat_eq (replicate n token ++ after) (replicate count token) ≡ true
run_starts n zero token after h = starts_none (replicate n token ++ after)
  where
    starts_none : (xs : List ℕ) → starts_with nat_eq xs [] ≡ true
    starts_none [] = refl
    starts_none (x ∷ xs) = refl
run_starts zero (suc count) token after h = absurd (omega arith)
run_starts (suc n) (suc count) token after h =
    let same : (token == token) ≡ true = grind (arith, nat_tests) in
    rw same (run_starts n count token after (omega arith))

run_seen : (count token n : ℕ) (before after : List ℕ) → 0 < count → count ≤ n → has_run count token (before ++ (replicate n token ++ after)) ≡ true
run_seen count token zero [] after some h = absurd (omega arith)
run_seen count token (suc n) [] after some h = or_first _ _ (run_starts (suc n) count token after h)
run_seen count token n (b ∷ bs) after some h = or_second _ _ (run_seen count token n bs after some h)

-- a line in which no fence is has no run that is as long
short_from : (token m : ℕ) (l : List ℕ) → has_run (suc m) token l ≡ false → IsShort token m l
short_from token m l none n run = by_size (nat_lt n (suc m)) refl
  where
    by_size : (t : Bool) → nat_lt n (suc m) ≡ t → n < suc m
    by_size true e = grind (arith, e, nat_tests)
    by_size false e =
        let long : suc m ≤ n = grind (arith, e, nat_tests) in
        let stands : l ≡ run.before ++ (replicate n token ++ run.after) = run.is ∙ append_assoc run.before (replicate n token) run.after in
        absurd (true≢false (sym (ap (has_run (suc m) token) stands ∙ run_seen (suc m) token n run.before run.after (omega arith) long) ∙ none))

code_byte : (b : ℕ) → is_line_byte b ≡ true → IsCodeByte b
code_byte b h =
    let both = both_true (nat_lt b 128) (not ((b == 0) || (b == 10) || (b == 13))) h in
    let low : nat_lt b 128 ≡ true = both.0 in
    let none = both_false ((b == 0) || (b == 10)) (b == 13) (is_not _ (both.1)) in
    let two = both_false (b == 0) (b == 10) (none.0) in
    record { clean = record { ascii = grind (arith, low, nat_tests); some = two.0; return = none.1 }; feed = two.1 }

-- what is known of a line
record IsLine (token m : ℕ) (l : List ℕ) : Type 0 where
  bytes : AreCode l
  short : IsShort token m l

line_from : (token m : ℕ) (l : List ℕ) → is_code_line (suc m) token l ≡ true → IsLine token m l
line_from token m l h =
    let both = both_true (list_all is_line_byte l) (not (has_run (suc m) token l)) h in
    record { bytes = all_from is_line_byte IsCodeByte l code_byte (both.0); short = short_from token m l (is_not _ (both.1)) }

all_bytes : (token m : ℕ) (ls : List (List ℕ)) → AllByRecursion (IsLine token m) ls → AllByRecursion AreCode ls
all_bytes token m [] h = tt
all_bytes token m (l ∷ ls) h = ((h.0).bytes, all_bytes token m ls (h.1))

all_short : (token m : ℕ) (ls : List (List ℕ)) → AllByRecursion (IsLine token m) ls → AllByRecursion (IsShort token m) ls
all_short token m [] h = tt
all_short token m (l ∷ ls) h = ((h.0).short, all_short token m ls (h.1))

token_from : (token : ℕ) → ((token == 96) || (token == 126)) ≡ true → IsToken token
token_from token h = by_mark (one_of_two (token == 96) (token == 126) h)
  where
    by_mark : ((token == 96) ≡ true) ⊎ ((token == 126) ≡ true) → IsToken token
    by_mark (inl e) = inl (eq_of token 96 e)
    by_mark (inr e) = inr (eq_of token 126 e)

info_shown : (b : ℕ) → is_ascii_alphanumeric b ≡ true → IsPrintable b
info_shown b h = record { low = grind (arith, h, nat_tests); high = grind (arith, h, nat_tests) }

info_byte : (token b : ℕ) → IsToken token → is_ascii_alphanumeric b ≡ true → IsInfo token b
info_byte token b is h = record {
  within = within_byte b (info_shown b h);
  tick = turned is_ascii_alphanumeric 96 b h refl;
  other = by_token is;
  back = turned is_ascii_alphanumeric 92 b h refl;
  amp = turned is_ascii_alphanumeric 38 b h refl;
}
  where
    by_token : IsToken token → (b == token) ≡ false
    by_token (inl e) = ap (λ t. b == t) e ∙ turned is_ascii_alphanumeric 96 b h refl
    by_token (inr e) = ap (λ t. b == t) e ∙ turned is_ascii_alphanumeric 126 b h refl

info_flush : (info : List ℕ) → AllByRecursion (λ b. is_ascii_alphanumeric b ≡ true) info → IsFlush info
info_flush [] h = tt
info_flush (b ∷ bs) h = (turned is_ascii_alphanumeric 32 b (h.0) refl, turned is_ascii_alphanumeric 32 (last_byte b bs) (last_of (λ x. is_ascii_alphanumeric x ≡ true) b bs h) refl)

code_from : (token m : ℕ) (info : List ℕ) (ls : List (List ℕ)) → is_fenced_code (record { token = token; count = suc m; info = info; lines = ls }) ≡ true → IsCode token m info ls
code_from token m info ls h =
    let three = both_true (((token == 96) || (token == 126)) && nat_le 3 (suc m) && list_all is_ascii_alphanumeric info) (list_all (is_code_line (suc m) token) ls) h in
    let two = both_true (((token == 96) || (token == 126)) && nat_le 3 (suc m)) (list_all is_ascii_alphanumeric info) (three.0) in
    let one = both_true ((token == 96) || (token == 126)) (nat_le 3 (suc m)) (two.0) in
    let least : nat_le 3 (suc m) ≡ true = one.1 in
    let is : IsToken token = token_from token (one.0) in
    let letters : AllByRecursion (λ b. is_ascii_alphanumeric b ≡ true) info = all_from is_ascii_alphanumeric (λ b. is_ascii_alphanumeric b ≡ true) info (λ b k. k) (two.1) in
    let known : AllByRecursion (IsLine token m) ls = all_from (is_code_line (suc m) token) (IsLine token m) ls (line_from token m) (three.1) in
    record {
      token_is = is;
      least = grind (arith, least, nat_tests);
      info_is = all_implied (λ b. is_ascii_alphanumeric b ≡ true) (IsInfo token) info (λ b k. info_byte token b is k) letters;
      flush = info_flush info letters;
      info_printable = all_implied (λ b. is_ascii_alphanumeric b ≡ true) IsPrintable info info_shown letters;
      lines = all_bytes token m ls known;
      short = all_short token m ls known;
    }

none_counted : (token : ℕ) (info : List ℕ) (ls : List (List ℕ)) → is_fenced_code (record { token = token; count = 0; info = info; lines = ls }) ≡ true → ⊥
none_counted token info ls h =
    let three = both_true (((token == 96) || (token == 126)) && nat_le 3 0 && list_all is_ascii_alphanumeric info) (list_all (is_code_line 0 token) ls) h in
    let two = both_true (((token == 96) || (token == 126)) && nat_le 3 0) (list_all is_ascii_alphanumeric info) (three.0) in
    let one = both_true ((token == 96) || (token == 126)) (nat_le 3 0) (two.0) in
    true≢false (sym (one.1))

counted_read : (syntax : Syntax) (token count : ℕ) (info : List ℕ) (ls : List (List ℕ)) → is_fenced_code (record { token = token; count = count; info = info; lines = ls }) ≡ true → length (fenced_text (record { token = token; count = count; info = info; lines = ls })) < 2 ^ 64 → IsReadAs (reading_of syntax (fenced_text (record { token = token; count = count; info = info; lines = ls }))) (code_events (record { token = token; count = count; info = info; lines = ls }))
counted_read syntax token zero info ls h fits = absurd (none_counted token info ls h)
counted_read syntax token (suc m) info ls h fits =
    let c : FencedCode = record { token = token; count = suc m; info = info; lines = ls } in
    let same : fenced_text c ≡ row_bytes (Code token m info ls) = lined_is (opener token m info) (ls ++ closer token m ∷ []) in
    let says : List EventView → List EventView = λ es. Start (CodeBlock (Fenced info)) ∷ es ++ End end.CodeBlock ∷ [] in
    subst (λ (xs : List ℕ). IsReadAs (reading_of syntax xs) (code_events c)) (sym same)
    (subst (λ (es : List EventView). IsReadAs (reading_of syntax (row_bytes (Code token m info ls))) (says es)) (one_leaf ls) (code_is_read syntax token m info ls (code_from token m info ls h) (subst (λ (xs : List ℕ). length xs < 2 ^ 64) same fits)))

pub code_read : (syntax : Syntax) (c : FencedCode) → is_fenced_code c ≡ true → length (fenced_text c) < 2 ^ 64 → IsReadAs (reading_of syntax (fenced_text c)) (code_events c)
code_read syntax c h fits = counted_read syntax c.token c.count c.info c.lines h fits

-- Lines of words after `> `, with a blank line of the quote between two, are read as a quote with a paragraph for each.
use Rattle.std.proofs.Common.{◌≡◌, ℕ, suc, ◌+◌, ◌^◌, ◌<◌, ◌≤◌, Bool, true, false, if◌then◌else◌, nat_le, List, [], ◌∷◌, ◌++◌, length, map, refl, ap, sym, subst, ◌∙◌, arith, append_assoc, append-nil, length-append, Option, None}
use Rattle.std.proofs.lemmas.Bool.Decides.{nat_tests}
use Rattle.std.specs.List.{AllByRecursion, fold, list_all}
use Rattle.tocmark_event.specs.Merged.{merged}
use Rattle.tocmark_event.specs.View.{EventView, Start, End, Leaf, BlockQuote, Paragraph, Text}
use Rattle.tocmark_event.specs.declared.event.TagEnd.TheVariants as end
use Rattle.tocmark_read_scan.specs.Basic.{bytes_between}
use Rattle.tocmark_read_scan.specs.declared.syntax.Syntax.{Syntax}
use Rattle.tocmark_read_scan.proofs.PlainContent.{places_of}
use Rattle.tocmark_read_scan.proofs.PlainPieces.{piece_between}
use Rattle.tocmark_read_scan.proofs.PlainTests.{all_from}
use Rattle.tocmark_read_page.specs.declared.page.Block.{Block}
use Rattle.tocmark_read_page.specs.declared.piece.Piece.{Piece}
use Rattle.tocmark_read_blocks.specs.Blocks.{BlocksView}
use Rattle.tocmark_read_blocks.proofs.PlainLines.{IsWithin}
use Rattle.tocmark_read_spans.specs.Definitions as defs
use Rattle.tocmark_read_spans.specs.declared.definitions.Entry.{Entry}
use Rattle.tocmark_read_inlines.specs.Inlines as inlines
use Rattle.tocmark_read_inlines.specs.declared.write.InlineKind.TheVariants as item
use Rattle.tocmark_read_inlines.proofs.PlainNodes.{node}
use Rattle.tocmark_reader.specs.Emitted.{NodeView, Container, Source, Writing, step, put, closed, emitted}
use Rattle.tocmark_reader.specs.Inlines.{inline_node, inline_item}
use Rattle.tocmark_reader.specs.Pages as pages
use Rattle.tocmark_reader.specs.Pages.{start_state, is_unwrapped, block_taken_in, block_step_in, paragraph_taken_in, wrapped_in, task_nodes, with_block, with_inlines, block_tag}
use Rattle.tocmark_reader.specs.PlainTexts.{IsReadAs}
use Rattle.tocmark_reader.specs.Range.{snapped}
use Rattle.tocmark_reader.specs.Reading.{FoundView, collected_in, collected_from, first_entry, found_under, noted, noted_as, reading_of}
use Rattle.tocmark_reader.specs.declared.emit.Open.{Open}
use Rattle.tocmark_reader.proofs.PlainEvents.{Marked, unplaced, source_of}
use Rattle.tocmark_reader.proofs.PlainSources.{IsClean, AreClean, all_implied, source_between}
use Rattle.tocmark_laws.specs.Extensions.{is_word_line}
use Rattle.tocmark_laws.specs.PlainQuotes.{parted_quote, paragraphs_events, parted_events}
use Rattle.tocmark_laws.proofs.BreakReading.{all_both}
use Rattle.tocmark_laws.proofs.ExtensionParagraphs.{found_from, no_inlines, within_byte, clean_byte, clean_feed, no_returns}
use Rattle.tocmark_laws.proofs.ListReading.{piece_alone, words_content, words_inlines}
use Rattle.tocmark_laws.proofs.NoteReading.{paragraph_put, mark_clean}
use Rattle.tocmark_laws.proofs.PartedQuotes.{ended_para, parted_bytes, para_piece, next_from, paras_blocks, paras_pieces, parted_blocks}
use Rattle.tocmark_laws.proofs.QuoteBlocks.{QuoteLine, IsQuoteLine, AreQuoteLines, quoted_bytes, quote_block, end_of}
use Rattle.tocmark_laws.proofs.TableNodes.{so_far, container}
use Rattle.tocmark_laws.proofs.TableReading.{closed_again, unplaced_both}
use Rattle.tocmark_laws.proofs.WordsReading.{IsWordByte, IsWordLine, AreWords, words_from}

abbrev words : QuoteLine → List ℕ
words q = q.letter ∷ q.others

abbrev AreWordLines : List QuoteLine → Type 0
AreWordLines qs = AllByRecursion (λ q. IsWordLine q.letter q.others) qs

-- ---- the nodes

abbrev paras_nodes : ℕ → QuoteLine → List QuoteLine → List NodeView
paras_nodes from q [] = container 1 Paragraph (from + 2) (end_of false from q) ∷ pages.node 2 Source (from + 2) (end_of false from q) ∷ []
paras_nodes from q (m ∷ ms) = container 1 Paragraph (from + 2) (end_of false from q) ∷ pages.node 2 Source (from + 2) (end_of false from q) ∷ paras_nodes (next_from from q) m ms

module _ (syntax : Syntax) (text : List ℕ) (find : List ℕ → Option Entry) (blocks : List Block) (pieces : List Piece) (fits : length text < 2 ^ 64) where
  abbrev taken : pages.State → List Block → pages.State
  taken s bs = fold (block_step_in syntax text find blocks pieces) s bs

  para_put : (ns : List NodeView) (ps more : List Piece) (p : Piece) (stop b : ℕ) (bs : List ℕ) → pieces ≡ ps ++ p ∷ more → stop ≡ p.end → bytes_between text p.start p.end ≡ b ∷ bs → p.start + length (b ∷ bs) ≡ p.end → p.end ≤ length text → IsWordLine b bs → block_step_in syntax text find blocks pieces (so_far ns) (ended_para ps p stop) ≡ so_far (ns ++ container 1 Paragraph p.start stop ∷ pages.node 2 Source p.start p.end ∷ [])
  unfolding is_unwrapped block_taken_in paragraph_taken_in with_block block_tag task_nodes inline_node inline_item
  para_put ns ps more p stop b bs split same stands width inside h =
      let block : Block = ended_para ps p stop in
      let one : NodeView = container 1 Paragraph p.start stop in
      let two : ℕ → NodeView = λ m. pages.node 2 Source p.start m in
      let longer : length (ps ++ p ∷ []) ≡ length ps + 1 = length-append ps (p ∷ []) in
      let some : nat_le (length (ps ++ p ∷ [])) (length ps) ≡ false = grind (arith, longer, nat_tests) in
      let short : length (b ∷ bs) < 2 ^ 64 = omega (arith, width, inside, fits) in
      let here : inlines.State = record no_inlines { nodes = node 2 item.Text p.start (p.start + length (b ∷ bs)) ∷ [] } in
      rw some
      (ap (λ (qs : List Piece). wrapped_in syntax text find qs block (so_far ns)) (ap (λ (l : List Piece). pages.pieces_of l (length ps) (length (ps ++ p ∷ []))) split ∙ piece_alone ps p more)
      ∙ paragraph_put syntax text find block p (so_far ns) (record { bytes = b ∷ bs; places = places_of p.start (b ∷ bs) }) here (words_content text p b bs stands width inside fits h) (words_inlines syntax find no_inlines p.start 2 b bs h.bytes short)
      ∙ ap (λ m. so_far (((ns ++ one ∷ []) ++ []) ++ two m ∷ [])) width
      ∙ ap (λ (l : List NodeView). so_far (l ++ two p.end ∷ [])) (append-nil (ns ++ one ∷ []))
      ∙ ap so_far (append_assoc ns (one ∷ []) (two p.end ∷ [])))

  paras_put : (pre : List ℕ) (from : ℕ) (q : QuoteLine) (ms : List QuoteLine) (ns : List NodeView) (ps : List Piece) → AreWordLines (q ∷ ms) → text ≡ pre ++ parted_bytes q ms → from ≡ length pre → pieces ≡ ps ++ paras_pieces from q ms → taken (so_far ns) (paras_blocks from ps q ms) ≡ so_far (ns ++ paras_nodes from q ms)
  paras_put pre from q [] ns ps h t at split =
      let p : Piece = para_piece from q [] in
      let parted : text ≡ (pre ++ 62 ∷ 32 ∷ []) ++ (words q ++ []) = t ∙ sym (append_assoc pre (62 ∷ 32 ∷ []) (words q)) ∙ ap (λ (xs : List ℕ). (pre ++ 62 ∷ 32 ∷ []) ++ xs) (sym (append-nil (words q))) in
      let behind : from + 2 ≡ length (pre ++ 62 ∷ 32 ∷ []) = ap (λ n. n + 2) at ∙ sym (length-append pre (62 ∷ 32 ∷ [])) in
      let total : length text ≡ length pre + length (quoted_bytes false q) = ap length t ∙ length-append pre (quoted_bytes false q) in
      para_put ns ps [] p (end_of false from q) q.letter q.others split refl (piece_between text (pre ++ 62 ∷ 32 ∷ []) (words q) [] (from + 2) (end_of false from q) parted behind (omega (arith, behind))) (omega arith) (omega (arith, total, at)) (h.0)
  paras_put pre from q (m ∷ ms) ns ps h t at split =
      let row : List ℕ = quoted_bytes false q in
      let more : List ℕ = parted_bytes m ms in
      let p : Piece = para_piece from q (m ∷ ms) in
      let next : ℕ = next_from from q in
      let later : List Piece = paras_pieces next m ms in
      let gap : List ℕ = 10 ∷ 62 ∷ 10 ∷ [] in
      let parted : text ≡ (pre ++ 62 ∷ 32 ∷ []) ++ (words q ++ 10 ∷ 62 ∷ 10 ∷ more) = t ∙ sym (append_assoc pre (62 ∷ 32 ∷ []) (words q ++ 10 ∷ 62 ∷ 10 ∷ more)) in
      let behind : from + 2 ≡ length (pre ++ 62 ∷ 32 ∷ []) = ap (λ n. n + 2) at ∙ sym (length-append pre (62 ∷ 32 ∷ [])) in
      let total : length text ≡ length pre + (length row + suc (suc (suc (length more)))) = ap length t ∙ length-append pre (row ++ 10 ∷ 62 ∷ 10 ∷ more) ∙ ap (λ k. length pre + k) (length-append row (10 ∷ 62 ∷ 10 ∷ more)) in
      let there : text ≡ (pre ++ (row ++ gap)) ++ more = t ∙ ap (λ (xs : List ℕ). pre ++ xs) (sym (append_assoc row gap more)) ∙ sym (append_assoc pre (row ++ gap) more) in
      let place : next ≡ length (pre ++ (row ++ gap)) = ap (λ k. k + length row + 1 + 1 + 1) at ∙ (let w : length pre + length row + 1 + 1 + 1 ≡ length (pre ++ (row ++ gap)) = grind (arith, length-append) in w) in
      let nodes : List NodeView = container 1 Paragraph (from + 2) (end_of false from q) ∷ pages.node 2 Source (from + 2) (end_of false from q) ∷ [] in
      ap (λ (s : pages.State). taken s (paras_blocks next (ps ++ p ∷ []) m ms))
      (para_put ns ps later p (end_of false from q) q.letter q.others split refl (piece_between text (pre ++ 62 ∷ 32 ∷ []) (words q) (10 ∷ 62 ∷ 10 ∷ more) (from + 2) (end_of false from q) parted behind (omega (arith, behind))) (omega arith) (omega (arith, total, at)) (h.0))
      ∙ paras_put (pre ++ (row ++ gap)) next m ms (ns ++ nodes) (ps ++ p ∷ []) (h.1) there place (split ∙ sym (append_assoc ps (p ∷ []) later))
      ∙ ap so_far (append_assoc ns nodes (paras_nodes next m ms))

  quote_put : (stop : ℕ) → block_step_in syntax text find blocks pieces (start_state []) (quote_block false stop) ≡ so_far (container 0 (BlockQuote None) 0 stop ∷ [])
  unfolding is_unwrapped block_taken_in with_block block_tag task_nodes
  quote_put stop = refl

-- ---- what is found

none_in_paras : (text : List ℕ) (s : defs.State) (from : ℕ) (ps : List Piece) (q : QuoteLine) (ms : List QuoteLine) → noted text (paras_blocks from ps q ms) s ≡ s
unfolding noted_as
none_in_paras text s from ps q [] = refl
none_in_paras text s from ps q (m ∷ ms) = none_in_paras text s (next_from from q) (ps ++ para_piece from q (m ∷ ms) ∷ []) m ms

none_noted : (text : List ℕ) (s : defs.State) (to : ℕ) (bs : List Block) → noted text (quote_block false to ∷ bs) s ≡ noted text bs s
unfolding noted_as
none_noted text s to bs = refl

none_collected : (syntax : Syntax) (text : List ℕ) (to : ℕ) (q : QuoteLine) (ms : List QuoteLine) (ps : List Piece) → collected_from syntax text (record { blocks = quote_block false to ∷ paras_blocks 0 [] q ms; pieces = ps; definitions = [] }) ≡ defs.collected_none
unfolding collected_from
none_collected syntax text to q ms ps = by_test syntax.footnotes
  where
    none : defs.State
    none = collected_in syntax.names []

    by_test : (t : Bool) → (if t then noted text (quote_block false to ∷ paras_blocks 0 [] q ms) none else none) ≡ defs.collected_none
    by_test true = none_noted text none to (paras_blocks 0 [] q ms) ∙ none_in_paras text none 0 [] q ms
    by_test false = refl

abbrev found_of : List NodeView → FoundView
found_of ns = record { nodes = ns; defined = []; unresolved = [] }

quote_found : (syntax : Syntax) (q : QuoteLine) (ms : List QuoteLine) → AreQuoteLines false (q ∷ ms) → AreWordLines (q ∷ ms) → AreClean (parted_bytes q ms) → length (parted_bytes q ms) < 2 ^ 64
    → found_under syntax (parted_bytes q ms) ≡ found_of (container 0 (BlockQuote None) 0 (length (parted_bytes q ms)) ∷ paras_nodes 0 q ms)
quote_found syntax q ms lines plain clean fits =
    let text : List ℕ = parted_bytes q ms in
    let find = first_entry syntax.undefined_notes [] [] in
    let n : ℕ = length text in
    let bs : List Block = paras_blocks 0 [] q ms in
    let ps : List Piece = paras_pieces 0 q ms in
    let blocks : BlocksView = record { blocks = quote_block false n ∷ bs; pieces = ps; definitions = [] } in
    let found_state : pages.State → FoundView = λ page. record { nodes = page.nodes; defined = []; unresolved = defs.distinct_labels page.inlines.texts page.inlines.missed } in
    found_from syntax text blocks defs.collected_none (parted_blocks syntax q ms lines (no_returns text clean) fits) (none_collected syntax text n q ms ps)
    ∙ ap (λ (s : pages.State). found_state (fold (block_step_in syntax text find blocks.blocks ps) s bs)) (quote_put syntax text find blocks.blocks ps fits n)
    ∙ ap found_state (paras_put syntax text find blocks.blocks ps fits [] 0 q ms (container 0 (BlockQuote None) 0 n ∷ []) [] plain refl refl refl)

-- ---- the events

module _ (text : List ℕ) where
  abbrev para_marks : ℕ → QuoteLine → List Marked
  para_marks from q =
      (Start Paragraph, snapped text (from + 2) (end_of false from q))
      ∷ (Leaf (Text (source_of text (from + 2) (end_of false from q))), snapped text (from + 2) (end_of false from q))
      ∷ (End end.Paragraph, snapped text (from + 2) (end_of false from q))
      ∷ []

  abbrev paras_marks : ℕ → QuoteLine → List QuoteLine → List Marked
  paras_marks from q [] = para_marks from q
  paras_marks from q (m ∷ ms) = para_marks from q ++ paras_marks (next_from from q) m ms

  abbrev one_open : Open → List Marked → Writing
  one_open t es = record { events = es; stack = t ∷ [] }

  -- the events so far, and those of a paragraph
  abbrev para_added : ℕ → QuoteLine → List Marked → List Marked
  para_added from q es =
      ((es ++ (Start Paragraph, snapped text (from + 2) (end_of false from q)) ∷ [])
      ++ (Leaf (Text (source_of text (from + 2) (end_of false from q))), snapped text (from + 2) (end_of false from q)) ∷ [])
      ++ (End end.Paragraph, snapped text (from + 2) (end_of false from q)) ∷ []

  added_assoc : (from : ℕ) (q : QuoteLine) (es xs : List Marked) → para_added from q es ++ xs ≡ es ++ (para_marks from q ++ xs)
  added_assoc from q es xs =
      let range : ℕ × ℕ = snapped text (from + 2) (end_of false from q) in
      let first : Marked = (Start Paragraph, range) in
      let middle : Marked = (Leaf (Text (source_of text (from + 2) (end_of false from q))), range) in
      let last : Marked = (End end.Paragraph, range) in
      append_assoc ((es ++ first ∷ []) ++ middle ∷ []) (last ∷ []) xs ∙ append_assoc (es ++ first ∷ []) (middle ∷ []) (last ∷ xs) ∙ append_assoc es (first ∷ []) (middle ∷ last ∷ xs)

  -- a paragraph that is still open
  abbrev in_para : Open → ℕ → QuoteLine → List Marked → Writing
  in_para t from q es = record {
    events = (es ++ (Start Paragraph, snapped text (from + 2) (end_of false from q)) ∷ [])
        ++ (Leaf (Text (source_of text (from + 2) (end_of false from q))), snapped text (from + 2) (end_of false from q)) ∷ [];
    stack = t ∷ record { end = end.Paragraph; range = snapped text (from + 2) (end_of false from q) } ∷ [];
  }

  para_emitted : (t : Open) (from : ℕ) (q : QuoteLine) (ns : List NodeView) (w : Writing) (es : List Marked) → closed 1 w ≡ one_open t es → closed 1 (fold (step text) w (container 1 Paragraph (from + 2) (end_of false from q) ∷ pages.node 2 Source (from + 2) (end_of false from q) ∷ ns)) ≡ closed 1 (fold (step text) (in_para t from q es) ns)
  para_emitted t from q ns w es h =
      let stop : ℕ = end_of false from q in
      let range : ℕ × ℕ = snapped text (from + 2) stop in
      let first : Marked = (Start Paragraph, range) in
      let middle : Marked = (Leaf (Text (source_of text (from + 2) stop)), range) in
      let two : List Marked → Writing = λ x. record { events = x; stack = t ∷ record { end = end.Paragraph; range = range } ∷ [] } in
      ap (λ (u : Writing). closed 1 (fold (step text) (put text (Container Paragraph) range u) (pages.node 2 Source (from + 2) stop ∷ ns))) h
      ∙ ap (λ (x : List Marked). closed 1 (fold (step text) (two (x ++ middle ∷ [])) ns)) (append-nil (es ++ first ∷ []))

  paras_emitted : (t : Open) (from : ℕ) (q : QuoteLine) (ms : List QuoteLine) (w : Writing) (es : List Marked) → closed 1 w ≡ one_open t es → closed 1 (fold (step text) w (paras_nodes from q ms)) ≡ one_open t (es ++ paras_marks from q ms)
  paras_emitted t from q [] w es h = para_emitted t from q [] w es h ∙ ap (one_open t) (sym (append-nil (para_added from q es)) ∙ added_assoc from q es [])
  paras_emitted t from q (m ∷ ms) w es h =
      para_emitted t from q (paras_nodes (next_from from q) m ms) w es h
      ∙ paras_emitted t (next_from from q) m ms (in_para t from q es) (para_added from q es) refl
      ∙ ap (one_open t) (added_assoc from q es (paras_marks (next_from from q) m ms))

  quote_emitted : (stop : ℕ) (q : QuoteLine) (ms : List QuoteLine) → emitted text (container 0 (BlockQuote None) 0 stop ∷ paras_nodes 0 q ms) ≡ (Start (BlockQuote None), snapped text 0 stop) ∷ (paras_marks 0 q ms ++ (End (end.BlockQuote None), snapped text 0 stop) ∷ [])
  quote_emitted stop q ms =
      let range : ℕ × ℕ = snapped text 0 stop in
      let t : Open = record { end = end.BlockQuote None; range = range } in
      let first : Marked = (Start (BlockQuote None), range) in
      let begun : Writing = one_open t (first ∷ []) in
      let after : Writing = fold (step text) begun (paras_nodes 0 q ms) in
      ap (λ (u : Writing). u.events) (sym (closed_again after.events after.stack)
      ∙ ap (closed 0) (paras_emitted t 0 q ms begun (first ∷ []) refl))

  -- and what these say
  para_said : (clean : AreClean text) (pre rest : List ℕ) (from : ℕ) (q : QuoteLine) (more : List EventView) → text ≡ pre ++ (quoted_bytes false q ++ rest) → from ≡ length pre → merged (unplaced (para_marks from q) ++ more) ≡ Start Paragraph ∷ Leaf (Text (words q)) ∷ End end.Paragraph ∷ merged more
  para_said clean pre rest from q more t at =
      let parted : text ≡ (pre ++ 62 ∷ 32 ∷ []) ++ (words q ++ rest) = t ∙ sym (append_assoc pre (62 ∷ 32 ∷ []) (words q ++ rest)) in
      let behind : from + 2 ≡ length (pre ++ 62 ∷ 32 ∷ []) = ap (λ n. n + 2) at ∙ sym (length-append pre (62 ∷ 32 ∷ [])) in
      ap (λ (x : List ℕ). Start Paragraph ∷ Leaf (Text x) ∷ End end.Paragraph ∷ merged more) (source_between text (pre ++ 62 ∷ 32 ∷ []) (words q) rest (from + 2) (end_of false from q) parted behind (omega (arith, behind)) clean)

  paras_said : (clean : AreClean text) (pre : List ℕ) (from : ℕ) (q : QuoteLine) (ms : List QuoteLine) (more : List EventView) → text ≡ pre ++ parted_bytes q ms → from ≡ length pre → merged (unplaced (paras_marks from q ms) ++ more) ≡ paragraphs_events (map words (q ∷ ms)) ++ merged more
  paras_said clean pre from q [] more t at = para_said clean pre [] from q more (t ∙ ap (λ (xs : List ℕ). pre ++ xs) (sym (append-nil (quoted_bytes false q)))) at
  paras_said clean pre from q (m ∷ ms) more t at =
      let row : List ℕ = quoted_bytes false q in
      let gap : List ℕ = 10 ∷ 62 ∷ 10 ∷ [] in
      let others : List ℕ = parted_bytes m ms in
      let next : ℕ = next_from from q in
      let later : List Marked = paras_marks next m ms in
      let there : text ≡ (pre ++ (row ++ gap)) ++ others = t ∙ ap (λ (xs : List ℕ). pre ++ xs) (sym (append_assoc row gap others)) ∙ sym (append_assoc pre (row ++ gap) others) in
      let place : next ≡ length (pre ++ (row ++ gap)) = ap (λ k. k + length row + 1 + 1 + 1) at ∙ (let w : length pre + length row + 1 + 1 + 1 ≡ length (pre ++ (row ++ gap)) = grind (arith, length-append) in w) in
      ap merged (ap (λ (es : List EventView). es ++ more) (unplaced_both (para_marks from q) later) ∙ append_assoc (unplaced (para_marks from q)) (unplaced later) more)
      ∙ para_said clean pre (10 ∷ 62 ∷ 10 ∷ others) from q (unplaced later ++ more) t at
      ∙ ap (λ (es : List EventView). Start Paragraph ∷ Leaf (Text (words q)) ∷ End end.Paragraph ∷ es) (paras_said clean (pre ++ (row ++ gap)) next m ms more there place)

quote_is_read : (syntax : Syntax) (q : QuoteLine) (ms : List QuoteLine) → AreQuoteLines false (q ∷ ms) → AreWordLines (q ∷ ms) → AreClean (parted_bytes q ms) → length (parted_bytes q ms) < 2 ^ 64 → IsReadAs (reading_of syntax (parted_bytes q ms)) (parted_events (map words (q ∷ ms)))
unfolding reading_of
quote_is_read syntax q ms lines plain clean fits =
    let text : List ℕ = parted_bytes q ms in
    let n : ℕ = length text in
    let found = quote_found syntax q ms lines plain clean fits in
    let marks : List Marked = paras_marks text 0 q ms in
    let last : Marked = (End (end.BlockQuote None), snapped text 0 n) in
    record {
      events = ap (λ (f : FoundView). merged (unplaced (emitted text f.nodes))) found
          ∙ ap (λ (es : List Marked). merged (unplaced es)) (quote_emitted text n q ms)
          ∙ ap (λ (es : List EventView). Start (BlockQuote None) ∷ merged es) (unplaced_both marks (last ∷ []))
          ∙ ap (λ (es : List EventView). Start (BlockQuote None) ∷ es) (paras_said text clean [] 0 q ms (End (end.BlockQuote None) ∷ []) refl refl);
      defined = ap (λ (f : FoundView). f.defined) found;
      unresolved = ap (λ (f : FoundView). f.unresolved) found;
    }

-- ---- the law

-- a line as one of a quote; no line is empty
abbrev as_line : List ℕ → QuoteLine
as_line [] = record { letter = 97; others = [] }
as_line (b ∷ bs) = record { letter = b; others = bs }

abbrev as_lines : List (List ℕ) → List QuoteLine
as_lines ls = map as_line ls

bytes_are : (l : List ℕ) (ms : List (List ℕ)) → AllByRecursion AreWords (l ∷ ms) → parted_bytes (as_line l) (as_lines ms) ≡ parted_quote l ms
bytes_are [] ms h = absurd (h.0)
bytes_are (b ∷ bs) [] h = refl
bytes_are (b ∷ bs) (m ∷ ms) h = ap (λ (xs : List ℕ). 62 ∷ 32 ∷ ((b ∷ bs) ++ 10 ∷ 62 ∷ 10 ∷ xs)) (bytes_are m ms (h.1))

words_are : (ls : List (List ℕ)) → AllByRecursion AreWords ls → map words (as_lines ls) ≡ ls
words_are [] h = refl
words_are ([] ∷ ls) h = absurd (h.0)
words_are ((b ∷ bs) ∷ ls) h = ap (λ (xs : List (List ℕ)). (b ∷ bs) ∷ xs) (words_are ls (h.1))

all_words : (ls : List (List ℕ)) → AllByRecursion AreWords ls → AreWordLines (as_lines ls)
all_words [] h = tt
all_words ([] ∷ ls) h = absurd (h.0)
all_words ((b ∷ bs) ∷ ls) h = (h.0, all_words ls (h.1))

line_is : (q : QuoteLine) → IsWordLine q.letter q.others → IsQuoteLine false q
line_is q h = record {
  letter = h.letter;
  within = (within_byte 62 (record { low = omega arith; high = omega arith }), (within_byte 32 (record { low = omega arith; high = omega arith }), all_implied IsWordByte IsWithin (words q) (λ x k. within_byte x k.printable) h.bytes));
}

all_lines : (qs : List QuoteLine) → AreWordLines qs → AreQuoteLines false qs
all_lines [] h = tt
all_lines (q ∷ qs) h = (line_is q (h.0), all_lines qs (h.1))

clean_line : (q : QuoteLine) → IsWordLine q.letter q.others → AreClean (quoted_bytes false q)
clean_line q h = (mark_clean 62 (omega arith) (omega arith), (mark_clean 32 (omega arith) (omega arith), all_implied IsWordByte IsClean (words q) (λ x k. clean_byte x k.printable) h.bytes))

clean_quote : (q : QuoteLine) (ms : List QuoteLine) → AreWordLines (q ∷ ms) → AreClean (parted_bytes q ms)
clean_quote q [] h = clean_line q (h.0)
clean_quote q (m ∷ ms) h = all_both IsClean (quoted_bytes false q) (10 ∷ 62 ∷ 10 ∷ parted_bytes m ms) (clean_line q (h.0)) (clean_feed, (mark_clean 62 (omega arith) (omega arith), (clean_feed, clean_quote m ms (h.1))))

pub parted_read : (syntax : Syntax) (l : List ℕ) (ms : List (List ℕ)) → list_all is_word_line (l ∷ ms) ≡ true → length (parted_quote l ms) < 2 ^ 64 → IsReadAs (reading_of syntax (parted_quote l ms)) (parted_events (l ∷ ms))
parted_read syntax l ms all fits =
    let w : AllByRecursion AreWords (l ∷ ms) = all_from is_word_line AreWords (l ∷ ms) words_from all in
    let q : QuoteLine = as_line l in
    let qs : List QuoteLine = as_lines ms in
    let plain : AreWordLines (q ∷ qs) = all_words (l ∷ ms) w in
    let same : parted_bytes q qs ≡ parted_quote l ms = bytes_are l ms w in
    let read = quote_is_read syntax q qs (all_lines (q ∷ qs) plain) plain (clean_quote q qs plain) (subst (λ (xs : List ℕ). length xs < 2 ^ 64) (sym same) fits) in
    subst (λ (xs : List ℕ). IsReadAs (reading_of syntax xs) (parted_events (l ∷ ms))) same
    (subst (λ (ls : List (List ℕ)). IsReadAs (reading_of syntax (parted_bytes q qs)) (parted_events ls)) (words_are (l ∷ ms) w) read)

-- A title with a definition below it is read as a definition list.
use Rattle.std.proofs.Common.{◌≡◌, ℕ, suc, ◌+◌, ◌^◌, ◌<◌, Bool, true, false, if◌then◌else◌, List, [], ◌∷◌, ◌++◌, length, map, refl, ap, sym, ◌∙◌, arith, append_assoc, append-nil, length-append, Option, None, true≢false}
use Rattle.tocmark_event.specs.Merged.{merged}
use Rattle.tocmark_read_scan.specs.Basic.{bytes_between}
use Rattle.tocmark_read_scan.specs.Content as content
use Rattle.tocmark_read_scan.specs.declared.syntax.Syntax.{Syntax}
use Rattle.tocmark_read_scan.proofs.PlainContent.{places_of}
use Rattle.tocmark_read_scan.proofs.PlainPieces.{piece_between}
use Rattle.tocmark_read_page.specs.Pieces.{piece_of}
use Rattle.tocmark_read_page.specs.declared.page.Block.{Block}
use Rattle.tocmark_read_page.specs.declared.piece.Piece.{Piece}
use Rattle.tocmark_read_blocks.specs.Blocks.{BlocksView}
use Rattle.tocmark_read_spans.specs.Definitions as defs
use Rattle.tocmark_read_spans.specs.declared.definitions.Entry.{Entry}
use Rattle.tocmark_read_inlines.specs.Inlines as inlines
use Rattle.tocmark_read_inlines.specs.declared.write.InlineKind.TheVariants as item
use Rattle.tocmark_read_inlines.proofs.PlainNodes.{node}
use Rattle.tocmark_reader.specs.Emitted.{emitted}
use Rattle.tocmark_reader.specs.Inlines.{inline_node, inline_item}
use Rattle.tocmark_reader.specs.Pages as pages
use Rattle.tocmark_reader.specs.Pages.{start_state, is_unwrapped, block_taken_in, block_step_in, paragraph_taken_in, bare_in, with_task, task_nodes, with_block, leaf_inlines_in, with_lines_of, with_inlines, content_line, block_tag}
use Rattle.tocmark_reader.specs.PlainTexts.{IsReadAs}
use Rattle.tocmark_reader.specs.Reading.{FoundView, collected_in, collected_from, first_entry, found_under, noted_as, reading_of}
use Rattle.tocmark_reader.specs.Reading as reading
use Rattle.tocmark_reader.proofs.FormulaLines.{one_line}
use Rattle.tocmark_reader.proofs.PlainEvents.{unplaced, source_of}
use Rattle.tocmark_reader.proofs.PlainSources.{IsClean, AreClean, all_implied, source_between}
use Rattle.tocmark_laws.specs.Extensions.{is_word_line}
use Rattle.tocmark_laws.specs.PlainDefinitions.{defined_words, definition_events}
use Rattle.tocmark_laws.proofs.BreakReading.{all_both}
use Rattle.tocmark_laws.proofs.DefinitionBlocks.{list_block, title_block, definition_block, words_block, text_of, definition_pieces, definition_blocks, blocks_are}
use Rattle.tocmark_laws.proofs.ExtensionParagraphs.{found_from, no_inlines, no_returns, clean_byte, clean_feed}
use Rattle.tocmark_laws.proofs.ListReading.{words_content, words_inlines}
use Rattle.tocmark_laws.proofs.NoteReading.{paragraph_put, mark_clean}
use Rattle.tocmark_laws.proofs.WordsReading.{IsWordByte, IsWordLine, words_from}

-- the text of a paragraph without its container
bare_put : (syntax : Syntax) (text : List ℕ) (find : List ℕ → Option Entry) (b : Block) (p : Piece) (st : pages.State) (c : content.State) (found : inlines.State) → b.task ≡ None → content.content_of text (map content_line (p ∷ [])) ≡ c → inlines.read_inlines_in syntax c b.depth find st.inlines ≡ found → bare_in syntax text find (p ∷ []) b st ≡ with_inlines found (with_task b st)
unfolding bare_in leaf_inlines_in with_lines_of with_task
bare_put syntax text find b p st c found none e k =
    rw (one_line syntax p)
    (ap (λ (d : content.State). with_inlines (inlines.read_inlines_in syntax d b.depth find st.inlines) (with_task b st)) e
    ∙ ap (λ (i : inlines.State). with_inlines i (with_task b st)) k)

module _ (syntax : Syntax) (has : syntax.definition_lists ≡ true) (b : ℕ) (bs : List ℕ) (h : IsWordLine b bs) (c : ℕ) (cs : List ℕ) (w : IsWordLine c cs) where
  abbrev title : List ℕ
  title = b ∷ bs

  abbrev words : List ℕ
  words = c ∷ cs

  abbrev text : List ℕ
  text = text_of title words

  abbrev n : ℕ
  n = length title

  abbrev size : ℕ
  size = length text

  abbrev from : ℕ
  from = n + 1 + 2

  abbrev find : List ℕ → Option Entry
  find = first_entry syntax.undefined_notes [] []

  size_is : size ≡ n + 3 + length words
  size_is = length-append title (10 ∷ 58 ∷ 32 ∷ words) ∙ (let q : n + suc (suc (suc (length words))) ≡ n + 3 + length words = omega arith in q)

  clean : AreClean text
  clean =
      all_both IsClean title (10 ∷ 58 ∷ 32 ∷ words) (all_implied IsWordByte IsClean title (λ y i. clean_byte y i.printable) h.bytes)
      (clean_feed, (mark_clean 58 (omega arith) (omega arith), (mark_clean 32 (omega arith) (omega arith), all_implied IsWordByte IsClean words (λ y i. clean_byte y i.printable) w.bytes)))

  abbrev blocks : List Block
  blocks = definition_blocks n size

  abbrev pieces : List Piece
  pieces = definition_pieces n size

  abbrev view : BlocksView
  view = record { blocks = blocks; pieces = pieces; definitions = [] }

  collected : collected_from syntax text view ≡ defs.collected_none
  unfolding collected_from noted_as
  collected = by_test syntax.footnotes
    where
      by_test : (t : Bool) → (if t then reading.noted text blocks (collected_in syntax.names []) else collected_in syntax.names []) ≡ defs.collected_none
      by_test true = refl
      by_test false = refl

  -- ---- what is found

  abbrev title_inlines : inlines.State
  title_inlines = record no_inlines { nodes = node 2 item.Text 0 n ∷ [] }

  abbrev words_here : inlines.State
  words_here = record no_inlines { nodes = node 2 item.Text from (from + length words) ∷ [] }

  abbrev one : Block
  one = list_block size

  abbrev two : Block
  two = title_block n

  abbrev three : Block
  three = definition_block (n + 1) size

  abbrev four : Block
  four = words_block from size 2

  abbrev page_one : pages.State
  page_one = with_block text one (start_state [])

  abbrev page_two : pages.State
  page_two = with_inlines title_inlines (with_block text two page_one)

  abbrev page_three : pages.State
  page_three = with_block text three page_two

  abbrev page_four : pages.State
  page_four = with_inlines words_here (with_task four page_three)

  abbrev found_state : pages.State → FoundView
  found_state page = record { nodes = page.nodes; defined = []; unresolved = defs.distinct_labels page.inlines.texts page.inlines.missed }

  first_put : block_step_in syntax text find blocks pieces (start_state []) one ≡ page_one
  unfolding is_unwrapped block_taken_in
  first_put = refl

  title_stands : bytes_between text 0 n ≡ title
  title_stands = piece_between text [] title (10 ∷ 58 ∷ 32 ∷ words) 0 n refl refl (let q : n ≡ 0 + n = omega arith in q)

  title_put : size < 2 ^ 64 → block_step_in syntax text find blocks pieces page_one two ≡ page_two
  unfolding is_unwrapped block_taken_in with_block
  title_put fits =
      let p : Piece = piece_of 0 0 n (n + 1) in
      paragraph_put syntax text find two p page_one (record { bytes = title; places = places_of 0 title }) title_inlines (words_content text p b bs title_stands (let q : 0 + n ≡ n = omega arith in q) (omega (arith, size_is)) fits h)
      (words_inlines syntax find no_inlines 0 2 b bs h.bytes (omega (arith, size_is, fits)) ∙ ap (λ k. (let t : inlines.State = record no_inlines { nodes = node 2 item.Text 0 k ∷ [] } in t)) (let q : 0 + n ≡ n = omega arith in q))

  third_put : block_step_in syntax text find blocks pieces page_two three ≡ page_three
  unfolding is_unwrapped block_taken_in
  third_put = refl

  words_parts : text ≡ (title ++ 10 ∷ 58 ∷ 32 ∷ []) ++ (words ++ [])
  words_parts = sym (append_assoc title (10 ∷ 58 ∷ 32 ∷ []) words) ∙ ap (λ (ys : List ℕ). (title ++ 10 ∷ 58 ∷ 32 ∷ []) ++ ys) (sym (append-nil words))

  words_place : from ≡ length (title ++ 10 ∷ 58 ∷ 32 ∷ [])
  words_place = (let q : n + 1 + 2 ≡ n + 3 = omega arith in q) ∙ sym (length-append title (10 ∷ 58 ∷ 32 ∷ []))

  words_end : from + length words ≡ size
  words_end = omega (arith, size_is)

  words_stand : bytes_between text from size ≡ words
  words_stand = piece_between text (title ++ 10 ∷ 58 ∷ 32 ∷ []) words [] from size words_parts words_place (sym words_end ∙ ap (λ i. i + length words) words_place)

  words_put : size < 2 ^ 64 → block_step_in syntax text find blocks pieces page_three four ≡ page_four
  unfolding is_unwrapped block_taken_in paragraph_taken_in with_block
  words_put fits =
      let p : Piece = piece_of 0 from size size in
      bare_put syntax text find four p page_three (record { bytes = words; places = places_of from words }) words_here refl (words_content text p c cs words_stand words_end (omega arith) fits w)
      (words_inlines syntax find no_inlines from 2 c cs w.bytes (omega (arith, size_is, fits)))

  found : size < 2 ^ 64 → found_under syntax text ≡ found_state page_four
  found fits =
      found_from syntax text view defs.collected_none (blocks_are syntax b bs c cs n size h w has refl size_is (no_returns text clean) fits) collected
      ∙ ap (λ (st : pages.State). found_state (block_step_in syntax text find blocks pieces (block_step_in syntax text find blocks pieces (block_step_in syntax text find blocks pieces st two) three) four)) first_put
      ∙ ap (λ (st : pages.State). found_state (block_step_in syntax text find blocks pieces (block_step_in syntax text find blocks pieces st three) four)) (title_put fits)
      ∙ ap (λ (st : pages.State). found_state (block_step_in syntax text find blocks pieces st four)) third_put
      ∙ ap found_state (words_put fits)

  -- ---- the events

  emits : merged (unplaced (emitted text page_four.nodes)) ≡ definition_events title words
  unfolding with_block with_task block_tag task_nodes inline_node inline_item
  emits =
      let first : source_of text 0 n ≡ title = source_between text [] title (10 ∷ 58 ∷ 32 ∷ words) 0 n refl refl (let q : n ≡ 0 + n = omega arith in q) clean in
      let below : source_of text from (from + length words) ≡ words = source_between text (title ++ 10 ∷ 58 ∷ 32 ∷ []) words [] from (from + length words) words_parts words_place (ap (λ i. i + length words) words_place) clean in
      ap (λ (ys : List ℕ). definition_events ys (source_of text from (from + length words))) first ∙ ap (definition_events title) below

  pub is_read : size < 2 ^ 64 → IsReadAs (reading_of syntax text) (definition_events title words)
  unfolding reading_of with_block with_task
  is_read fits = record {
    events = ap (λ (f : FoundView). merged (unplaced (emitted text f.nodes))) (found fits) ∙ emits;
    defined = ap (λ (f : FoundView). f.defined) (found fits);
    unresolved = ap (λ (f : FoundView). f.unresolved) (found fits);
  }

pub definition_lists_read : (syntax : Syntax) (title words : List ℕ) → syntax.definition_lists ≡ true → is_word_line title ≡ true → is_word_line words ≡ true → length (defined_words title words) < 2 ^ 64 → IsReadAs (reading_of syntax (defined_words title words)) (definition_events title words)
definition_lists_read syntax [] ls has plain below fits = absurd (true≢false (sym plain))
definition_lists_read syntax (b ∷ bs) [] has plain below fits = absurd (true≢false (sym below))
definition_lists_read syntax (b ∷ bs) (c ∷ cs) has plain below fits = is_read syntax has b bs (words_from (b ∷ bs) plain) c cs (words_from (c ∷ cs) below) fits

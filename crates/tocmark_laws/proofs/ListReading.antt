-- Lines of words after marks of one sort are read as a tight list.
use Rattle.std.proofs.Common.{◌≡◌, ℕ, suc, ◌+◌, ◌-◌, ◌^◌, ◌<◌, ◌≤◌, Bool, true, false, if◌then◌else◌, nat_le, List, [], ◌∷◌, ◌++◌, length, map, refl, ap, sym, subst, ◌∙◌, arith, append_assoc, append-nil, length-append, Option, inl}
use Rattle.std.proofs.lemmas.Bool.Decides.{nat_tests}
use Rattle.std.proofs.lemmas.List.Sums.{fold-append}
use Rattle.std.specs.List.{AllByRecursion, fold}
use Rattle.tocmark_event.specs.Merged.{merged}
use Rattle.tocmark_event.specs.View.{EventView, Start, End, Leaf, TagView, Item, ListOf, Text, end_of as tag_end}
use Rattle.tocmark_event.specs.declared.event.TagEnd.TheVariants as end
use Rattle.tocmark_read_scan.specs.Basic.{bytes_between}
use Rattle.tocmark_read_scan.specs.Class.{is_in}
use Rattle.tocmark_read_scan.specs.Content as content
use Rattle.tocmark_read_scan.specs.PlainParts.{Part, spelled, last_byte}
use Rattle.tocmark_read_scan.specs.declared.class.Class.TheVariants.{White}
use Rattle.tocmark_read_scan.specs.declared.syntax.Syntax.{Syntax}
use Rattle.tocmark_read_scan.proofs.PlainContent.{places_of}
use Rattle.tocmark_read_scan.proofs.PlainPieces.{drop_behind, piece_between}
use Rattle.tocmark_read_page.specs.declared.page.Block.{Block}
use Rattle.tocmark_read_page.specs.declared.piece.Piece.{Piece}
use Rattle.tocmark_read_blocks.specs.Blocks.{BlocksView}
use Rattle.tocmark_read_spans.specs.Definitions as defs
use Rattle.tocmark_read_spans.specs.declared.definitions.Entry.{Entry}
use Rattle.tocmark_read_inlines.specs.Inlines as inlines
use Rattle.tocmark_read_inlines.specs.declared.write.InlineKind.TheVariants as item
use Rattle.tocmark_read_inlines.specs.declared.write.Node.{Node}
use Rattle.tocmark_read_inlines.proofs.PlainLeaf.{known}
use Rattle.tocmark_read_inlines.proofs.PlainNeighbours.{ArePlainParts, plain_parts_are_read}
use Rattle.tocmark_read_inlines.proofs.PlainNodes.{node}
use Rattle.tocmark_reader.specs.Emitted.{NodeView, Container, Source, Writing, step, put, closed, emitted}
use Rattle.tocmark_reader.specs.Inlines.{inline_node, inline_item}
use Rattle.tocmark_reader.specs.Pages as pages
use Rattle.tocmark_reader.specs.Pages.{start_state, pieces_of, is_unwrapped, block_taken_in, block_step_in, paragraph_taken_in, bare_in, task_nodes, with_block, with_task, leaf_inlines_in, with_lines_of, with_inlines, content_line, block_tag}
use Rattle.tocmark_reader.specs.PlainTexts.{IsReadAs}
use Rattle.tocmark_reader.specs.QuietLines.{is_text_byte}
use Rattle.tocmark_reader.specs.Range.{snapped}
use Rattle.tocmark_reader.specs.Reading.{FoundView, collected_in, collected_from, first_entry, found_under, noted, noted_as, reading_of}
use Rattle.tocmark_reader.specs.declared.emit.Open.{Open}
use Rattle.tocmark_reader.proofs.FormulaLines.{one_line}
use Rattle.tocmark_reader.proofs.PlainEvents.{Marked, unplaced, source_of}
use Rattle.tocmark_reader.proofs.PlainSources.{AreClean, all_implied, source_between}
use Rattle.tocmark_reader.proofs.PlacedParts.{parts_inlines_at}
use Rattle.tocmark_reader.proofs.QuietContent.{IsQuietLine, content_of_quiet}
use Rattle.tocmark_reader.proofs.QuietInlines.{IsTextOrFeed, read_alike}
use Rattle.tocmark_laws.specs.Extensions.{lined}
use Rattle.tocmark_laws.specs.PlainLists.{items_events}
use Rattle.tocmark_laws.proofs.AttributedHeadings.{text_and_some, nodes_on}
use Rattle.tocmark_laws.proofs.ExtensionParagraphs.{found_from, no_inlines, last_of, no_returns}
use Rattle.tocmark_laws.proofs.ListBlocks.{list_block, item_block, text_block, ended_item, ItemLine, item_bytes, AreItems, end_of, piece_at, items_blocks, items_pieces, list_blocks}
use Rattle.tocmark_laws.proofs.TableNodes.{so_far, container}
use Rattle.tocmark_laws.proofs.TableReading.{closed_again, unplaced_both}
use Rattle.tocmark_laws.proofs.WordsReading.{IsWordByte, IsWordLine, text_byte, ink_byte, bare, spelled_bare, bare_plain}

abbrev words : ItemLine → List ℕ
words i = i.letter ∷ i.others

abbrev pub AreWordItems : List ItemLine → Type 0
AreWordItems is = AllByRecursion (λ i. IsWordLine i.letter i.others) is

-- ---- the text of an item

abbrev pub leaf_from : ℕ → List ℕ → content.State
leaf_from at xs = record { bytes = xs; places = places_of at xs }

pub words_inlines : (syntax : Syntax) (find : List ℕ → Option Entry) (t : inlines.State) (at depth b : ℕ) (bs : List ℕ) → AllByRecursion IsWordByte (b ∷ bs) → length (b ∷ bs) < 2 ^ 64 → inlines.read_inlines_in syntax (leaf_from at (b ∷ bs)) depth find t ≡ record t { nodes = t.nodes ++ node depth item.Text at (at + length (b ∷ bs)) ∷ [] }
words_inlines syntax find t at depth b bs h fits =
    let xs : List ℕ = b ∷ bs in
    let parts : List Part = bare xs in
    let same : xs ≡ spelled parts = sym (spelled_bare xs) in
    let room : length (spelled parts) < 2 ^ 64 = subst (λ (l : List ℕ). length l < 2 ^ 64) same fits in
    let plain : ArePlainParts 10 parts = subst (ArePlainParts 10) (append-nil parts) (bare_plain 10 xs [] h tt) in
    let stop : at + 1 + length bs ≡ at + length xs = omega arith in
    read_alike syntax (leaf_from at xs) depth find t (all_implied IsWordByte IsTextOrFeed xs (λ x w. inl (text_byte x w)) h)
    ∙ ap (λ (l : List ℕ). inlines.read_inlines (leaf_from at l) depth find t) same
    ∙ parts_inlines_at parts at depth find t (plain_parts_are_read (spelled parts) [] (known (spelled parts)) find 0 10 parts refl refl room refl plain) room
    ∙ ap (λ (ns : List Node). (let u : inlines.State = record t { nodes = t.nodes ++ ns } in u)) (nodes_on depth (at + 1) at bs ∙ ap (λ m. node depth item.Text at m ∷ []) stop)

pub words_content : (text : List ℕ) (p : Piece) (b : ℕ) (bs : List ℕ) → bytes_between text p.start p.end ≡ b ∷ bs → p.start + length (b ∷ bs) ≡ p.end → p.end ≤ length text → length text < 2 ^ 64 → IsWordLine b bs → content.content_of text (map content_line (p ∷ [])) ≡ leaf_from p.start (b ∷ bs)
words_content text p b bs stands width within fits h =
    let texts : AllByRecursion (λ x. is_text_byte x ≡ true) (b ∷ bs) = all_implied IsWordByte (λ x. is_text_byte x ≡ true) (b ∷ bs) text_and_some h.bytes in
    let quiet : IsQuietLine text p = record {
      bytes = subst (AllByRecursion (λ x. is_text_byte x ≡ true)) (sym stands) texts;
      ink = ap (λ (l : List ℕ). is_in White (last_byte 10 l)) stands ∙ ink_byte (last_byte b bs) (last_of IsWordByte b bs h.bytes) h.last;
      width = ap (λ (l : List ℕ). p.start + length l) stands ∙ width;
      within = within;
    } in
    content_of_quiet text p [] quiet fits ∙ ap (leaf_from p.start) stands

-- ---- the nodes

pub piece_alone : (ps : List Piece) (p : Piece) (more : List Piece) → pieces_of (ps ++ p ∷ more) (length ps) (length (ps ++ p ∷ [])) ≡ p ∷ []
piece_alone ps p more =
    let one : length (ps ++ p ∷ []) ≡ length ps + 1 = length-append ps (p ∷ []) in
    let all : length (ps ++ p ∷ more) ≡ length ps + suc (length more) = length-append ps (p ∷ more) in
    let from : nat_le (length ps) (length (ps ++ p ∷ [])) ≡ true = grind (arith, one, nat_tests) in
    let to : nat_le (length (ps ++ p ∷ [])) (length (ps ++ p ∷ more)) ≡ true = grind (arith, one, all, nat_tests) in
    let width : length (ps ++ p ∷ []) - length ps ≡ 1 = omega (arith, one) in
    rw (from, to, width, drop_behind ps (p ∷ more)) refl

-- the nodes of items from a place on
abbrev items_nodes : ℕ → ItemLine → List ItemLine → List NodeView
items_nodes from i [] = container 1 Item from (end_of from i) ∷ pages.node 2 Source (from + length i.mark) (end_of from i) ∷ []
items_nodes from i (m ∷ ms) = container 1 Item from (end_of from i) ∷ pages.node 2 Source (from + length i.mark) (end_of from i) ∷ items_nodes (end_of from i + 1) m ms

module _ (syntax : Syntax) (text : List ℕ) (find : List ℕ → Option Entry) (first : Option ℕ) (n : ℕ) (rest : List Block) (pieces : List Piece) (fits : length text < 2 ^ 64) where
  abbrev all : List Block
  all = list_block first 0 n ∷ rest

  abbrev taken : pages.State → List Block → pages.State
  taken s bs = fold (block_step_in syntax text find all pieces) s bs

  item_begins : (ns : List NodeView) (from to count : ℕ) (unwrapped : Bool) → block_taken_in syntax text find pieces unwrapped (item_block from to count) (so_far ns) ≡ so_far ((ns ++ container 1 Item from to ∷ []) ++ [])
  unfolding block_taken_in with_block task_nodes block_tag
  item_begins ns from to count unwrapped = refl

  unwrapped_text : (from to a b : ℕ) → is_unwrapped all (text_block from to a b) ≡ true
  unfolding is_unwrapped
  unwrapped_text from to a b = refl

  bare_text : (ns : List NodeView) (p : Piece) (to a b : ℕ) → nat_le b a ≡ false → pieces_of pieces a b ≡ p ∷ [] → block_taken_in syntax text find pieces true (text_block p.start to a b) (so_far ns) ≡ with_inlines (inlines.read_inlines_in syntax (content.content_of text (map content_line (p ∷ []))) 2 find no_inlines) (so_far (ns ++ []))
  unfolding block_taken_in paragraph_taken_in bare_in with_task task_nodes leaf_inlines_in with_lines_of
  bare_text ns p to a b some alone = rw (some, alone, one_line syntax p) refl

  text_put : (ns : List NodeView) (from to : ℕ) → with_inlines (record no_inlines { nodes = node 2 item.Text from to ∷ [] }) (so_far (ns ++ [])) ≡ so_far (ns ++ pages.node 2 Source from to ∷ [])
  unfolding inline_node inline_item
  text_put ns from to = ap (λ (l : List NodeView). so_far (l ++ pages.node 2 Source from to ∷ [])) (append-nil ns)

  item_put : (ns : List NodeView) (ps more : List Piece) (p : Piece) (from b : ℕ) (bs : List ℕ) → pieces ≡ ps ++ p ∷ more → bytes_between text p.start p.end ≡ b ∷ bs → p.start + length (b ∷ bs) ≡ p.end → p.end ≤ length text → IsWordLine b bs → taken (so_far ns) (ended_item ps p from p.end) ≡ so_far (ns ++ container 1 Item from p.end ∷ pages.node 2 Source p.start p.end ∷ [])
  item_put ns ps more p from b bs split stands width within h =
      let one : NodeView = container 1 Item from p.end in
      let two : ℕ → NodeView = λ m. pages.node 2 Source p.start m in
      let text_here : Block = text_block p.start p.end (length ps) (length (ps ++ p ∷ [])) in
      let longer : length (ps ++ p ∷ []) ≡ length ps + 1 = length-append ps (p ∷ []) in
      let some : nat_le (length (ps ++ p ∷ [])) (length ps) ≡ false = grind (arith, longer, nat_tests) in
      let short : length (b ∷ bs) < 2 ^ 64 = omega (arith, width, within, fits) in
      ap (λ (s : pages.State). block_taken_in syntax text find pieces (is_unwrapped all text_here) text_here s) (item_begins ns from p.end (length ps) _ ∙ ap so_far (append-nil (ns ++ one ∷ [])))
      ∙ ap (λ t. block_taken_in syntax text find pieces t text_here (so_far (ns ++ one ∷ []))) (unwrapped_text p.start p.end (length ps) (length (ps ++ p ∷ [])))
      ∙ bare_text (ns ++ one ∷ []) p p.end (length ps) (length (ps ++ p ∷ [])) some (ap (λ (l : List Piece). pieces_of l (length ps) (length (ps ++ p ∷ []))) split ∙ piece_alone ps p more)
      ∙ ap (λ (c : content.State). with_inlines (inlines.read_inlines_in syntax c 2 find no_inlines) (so_far ((ns ++ one ∷ []) ++ []))) (words_content text p b bs stands width within fits h)
      ∙ ap (λ (i : inlines.State). with_inlines i (so_far ((ns ++ one ∷ []) ++ []))) (words_inlines syntax find no_inlines p.start 2 b bs h.bytes short)
      ∙ text_put (ns ++ one ∷ []) p.start (p.start + length (b ∷ bs))
      ∙ ap (λ m. so_far ((ns ++ one ∷ []) ++ two m ∷ [])) width
      ∙ ap so_far (append_assoc ns (one ∷ []) (two p.end ∷ []))

  items_put : (pre : List ℕ) (from : ℕ) (i : ItemLine) (ms : List ItemLine) (ns : List NodeView) (ps : List Piece) → AreWordItems (i ∷ ms) → text ≡ pre ++ lined (item_bytes i) (map item_bytes ms) → from ≡ length pre → pieces ≡ ps ++ items_pieces from i ms → taken (so_far ns) (items_blocks from ps i ms) ≡ so_far (ns ++ items_nodes from i ms)
  items_put pre from i [] ns ps h t at split =
      let row : List ℕ = item_bytes i in
      let here : List ℕ = words i in
      let p : Piece = piece_at from i [] in
      let parted : text ≡ (pre ++ i.mark) ++ (here ++ []) = t ∙ sym (append_assoc pre i.mark here) ∙ ap (λ (xs : List ℕ). (pre ++ i.mark) ++ xs) (sym (append-nil here)) in
      let width : length row ≡ length i.mark + length here = length-append i.mark here in
      let behind : from + length i.mark ≡ length (pre ++ i.mark) = ap (λ n. n + length i.mark) at ∙ sym (length-append pre i.mark) in
      let total : length text ≡ length pre + length row = ap length t ∙ length-append pre row in
      item_put ns ps [] p from i.letter i.others split (piece_between text (pre ++ i.mark) here [] (from + length i.mark) (end_of from i) parted behind (omega (arith, width, behind))) (omega (arith, width)) (omega (arith, total, at)) (h.0)
  items_put pre from i (m ∷ ms) ns ps h t at split =
      let row : List ℕ = item_bytes i in
      let here : List ℕ = words i in
      let more : List ℕ = lined (item_bytes m) (map item_bytes ms) in
      let end : ℕ = end_of from i in
      let p : Piece = piece_at from i (m ∷ ms) in
      let later : List Piece = items_pieces (end + 1) m ms in
      let parted : text ≡ (pre ++ i.mark) ++ (here ++ 10 ∷ more) = t ∙ ap (λ (xs : List ℕ). pre ++ xs) (append_assoc i.mark here (10 ∷ more)) ∙ sym (append_assoc pre i.mark (here ++ 10 ∷ more)) in
      let width : length row ≡ length i.mark + length here = length-append i.mark here in
      let behind : from + length i.mark ≡ length (pre ++ i.mark) = ap (λ k. k + length i.mark) at ∙ sym (length-append pre i.mark) in
      let total : length text ≡ length pre + (length row + suc (length more)) = ap length t ∙ length-append pre (row ++ 10 ∷ more) ∙ ap (λ k. length pre + k) (length-append row (10 ∷ more)) in
      let there : text ≡ (pre ++ (row ++ 10 ∷ [])) ++ more = t ∙ ap (λ (xs : List ℕ). pre ++ xs) (sym (append_assoc row (10 ∷ []) more)) ∙ sym (append_assoc pre (row ++ 10 ∷ []) more) in
      let longer : end + 1 ≡ length (pre ++ (row ++ 10 ∷ [])) = ap (λ k. k + length row + 1) at ∙ (let q : length pre + length row + 1 ≡ length (pre ++ (row ++ 10 ∷ [])) = grind (arith, length-append) in q) in
      let nodes : List NodeView = container 1 Item from end ∷ pages.node 2 Source (from + length i.mark) end ∷ [] in
      fold-append (block_step_in syntax text find all pieces) (so_far ns) (ended_item ps p from end) (items_blocks (end + 1) (ps ++ p ∷ []) m ms)
      ∙ ap (λ (s : pages.State). taken s (items_blocks (end + 1) (ps ++ p ∷ []) m ms)) (item_put ns ps later p from i.letter i.others split (piece_between text (pre ++ i.mark) here (10 ∷ more) (from + length i.mark) end parted behind (omega (arith, width, behind))) (omega (arith, width)) (omega (arith, total, at)) (h.0))
      ∙ items_put (pre ++ (row ++ 10 ∷ [])) (end + 1) m ms (ns ++ nodes) (ps ++ p ∷ []) (h.1) there longer (split ∙ sym (append_assoc ps (p ∷ []) later))
      ∙ ap so_far (append_assoc ns nodes (items_nodes (end + 1) m ms))

  list_begins : block_taken_in syntax text find pieces (is_unwrapped all (list_block first 0 n)) (list_block first 0 n) (start_state []) ≡ so_far (container 0 (ListOf first) 0 n ∷ [])
  unfolding block_taken_in with_block task_nodes block_tag
  list_begins = refl

-- ---- what is found

none_in_items : (text : List ℕ) (s : defs.State) (from : ℕ) (ps : List Piece) (i : ItemLine) (ms : List ItemLine) → noted text (items_blocks from ps i ms) s ≡ s
unfolding noted_as
none_in_items text s from ps i [] = refl
none_in_items text s from ps i (m ∷ ms) = none_in_items text s (end_of from i + 1) (ps ++ piece_at from i (m ∷ ms) ∷ []) m ms

none_noted : (text : List ℕ) (s : defs.State) (first : Option ℕ) (to : ℕ) (bs : List Block) → noted text (list_block first 0 to ∷ bs) s ≡ noted text bs s
unfolding noted_as
none_noted text s first to bs = refl

none_collected : (syntax : Syntax) (text : List ℕ) (first : Option ℕ) (to : ℕ) (i : ItemLine) (ms : List ItemLine) (ps : List Piece) → collected_from syntax text (record { blocks = list_block first 0 to ∷ items_blocks 0 [] i ms; pieces = ps; definitions = [] }) ≡ defs.collected_none
unfolding collected_from
none_collected syntax text first to i ms ps = by_test syntax.footnotes
  where
    none : defs.State
    none = collected_in syntax.names []

    by_test : (t : Bool) → (if t then noted text (list_block first 0 to ∷ items_blocks 0 [] i ms) none else none) ≡ defs.collected_none
    by_test true = none_noted text none first to (items_blocks 0 [] i ms) ∙ none_in_items text none 0 [] i ms
    by_test false = refl

-- the nodes of a list
abbrev found_of : List NodeView → FoundView
found_of ns = record { nodes = ns; defined = []; unresolved = [] }

list_found : (syntax : Syntax) (sort : ℕ) (i : ItemLine) (ms : List ItemLine) → AreItems sort (i ∷ ms) → AreWordItems (i ∷ ms) → AreClean (lined (item_bytes i) (map item_bytes ms)) → length (lined (item_bytes i) (map item_bytes ms)) < 2 ^ 64
    → found_under syntax (lined (item_bytes i) (map item_bytes ms)) ≡ found_of (container 0 (ListOf i.number) 0 (length (lined (item_bytes i) (map item_bytes ms))) ∷ items_nodes 0 i ms)
list_found syntax sort i ms items plain clean fits =
    let text : List ℕ = lined (item_bytes i) (map item_bytes ms) in
    let find = first_entry syntax.undefined_notes [] [] in
    let n : ℕ = length text in
    let bs : List Block = items_blocks 0 [] i ms in
    let ps : List Piece = items_pieces 0 i ms in
    let blocks : BlocksView = record { blocks = list_block i.number 0 n ∷ bs; pieces = ps; definitions = [] } in
    let found_state : pages.State → FoundView = λ page. record { nodes = page.nodes; defined = []; unresolved = defs.distinct_labels page.inlines.texts page.inlines.missed } in
    found_from syntax text blocks defs.collected_none (list_blocks syntax sort i ms items (no_returns text clean) fits) (none_collected syntax text i.number n i ms ps)
    ∙ ap (λ (s : pages.State). found_state (fold (block_step_in syntax text find blocks.blocks ps) s bs)) (list_begins syntax text find i.number n bs ps fits)
    ∙ ap found_state (items_put syntax text find i.number n bs ps fits [] 0 i ms (container 0 (ListOf i.number) 0 n ∷ []) [] plain refl refl refl)

-- ---- the events

module _ (text : List ℕ) where
  -- the events of items
  abbrev item_marks : ℕ → ItemLine → List Marked
  item_marks from i =
      (Start Item, snapped text from (end_of from i))
      ∷ (Leaf (Text (source_of text (from + length i.mark) (end_of from i))), snapped text (from + length i.mark) (end_of from i))
      ∷ (End end.Item, snapped text from (end_of from i))
      ∷ []

  abbrev items_marks : ℕ → ItemLine → List ItemLine → List Marked
  items_marks from i [] = item_marks from i
  items_marks from i (m ∷ ms) = item_marks from i ++ items_marks (end_of from i + 1) m ms

  abbrev one_open : Open → List Marked → Writing
  one_open t es = record { events = es; stack = t ∷ [] }

  -- the events so far, and those of an item
  abbrev item_added : ℕ → ItemLine → List Marked → List Marked
  item_added from i es =
      ((es ++ (Start Item, snapped text from (end_of from i)) ∷ [])
      ++ (Leaf (Text (source_of text (from + length i.mark) (end_of from i))), snapped text (from + length i.mark) (end_of from i)) ∷ [])
      ++ (End end.Item, snapped text from (end_of from i)) ∷ []

  added_assoc : (from : ℕ) (i : ItemLine) (es xs : List Marked) → item_added from i es ++ xs ≡ es ++ (item_marks from i ++ xs)
  added_assoc from i es xs =
      let stop : ℕ = end_of from i in
      let first : Marked = (Start Item, snapped text from stop) in
      let middle : Marked = (Leaf (Text (source_of text (from + length i.mark) stop)), snapped text (from + length i.mark) stop) in
      let last : Marked = (End end.Item, snapped text from stop) in
      append_assoc ((es ++ first ∷ []) ++ middle ∷ []) (last ∷ []) xs ∙ append_assoc (es ++ first ∷ []) (middle ∷ []) (last ∷ xs) ∙ append_assoc es (first ∷ []) (middle ∷ last ∷ xs)

  -- an item that is still open
  abbrev in_item : Open → ℕ → ItemLine → List Marked → Writing
  in_item t from i es = record {
    events = (es ++ (Start Item, snapped text from (end_of from i)) ∷ [])
        ++ (Leaf (Text (source_of text (from + length i.mark) (end_of from i))), snapped text (from + length i.mark) (end_of from i)) ∷ [];
    stack = t ∷ record { end = end.Item; range = snapped text from (end_of from i) } ∷ [];
  }

  item_emitted : (t : Open) (from : ℕ) (i : ItemLine) (ns : List NodeView) (w : Writing) (es : List Marked) → closed 1 w ≡ one_open t es → closed 1 (fold (step text) w (container 1 Item from (end_of from i) ∷ pages.node 2 Source (from + length i.mark) (end_of from i) ∷ ns)) ≡ closed 1 (fold (step text) (in_item t from i es) ns)
  item_emitted t from i ns w es h =
      let stop : ℕ = end_of from i in
      let range : ℕ × ℕ = snapped text from stop in
      let first : Marked = (Start Item, range) in
      let middle : Marked = (Leaf (Text (source_of text (from + length i.mark) stop)), snapped text (from + length i.mark) stop) in
      let two : List Marked → Writing = λ x. record { events = x; stack = t ∷ record { end = end.Item; range = range } ∷ [] } in
      ap (λ (u : Writing). closed 1 (fold (step text) (put text (Container Item) range u) (pages.node 2 Source (from + length i.mark) stop ∷ ns))) h
      ∙ ap (λ (x : List Marked). closed 1 (fold (step text) (two (x ++ middle ∷ [])) ns)) (append-nil (es ++ first ∷ []))

  items_emitted : (t : Open) (from : ℕ) (i : ItemLine) (ms : List ItemLine) (w : Writing) (es : List Marked) → closed 1 w ≡ one_open t es → closed 1 (fold (step text) w (items_nodes from i ms)) ≡ one_open t (es ++ items_marks from i ms)
  items_emitted t from i [] w es h = item_emitted t from i [] w es h ∙ ap (one_open t) (sym (append-nil (item_added from i es)) ∙ added_assoc from i es [])
  items_emitted t from i (m ∷ ms) w es h =
      item_emitted t from i (items_nodes (end_of from i + 1) m ms) w es h
      ∙ items_emitted t (end_of from i + 1) m ms (in_item t from i es) (item_added from i es) refl
      ∙ ap (one_open t) (added_assoc from i es (items_marks (end_of from i + 1) m ms))

  list_emitted : (tag : TagView) (stop : ℕ) (i : ItemLine) (ms : List ItemLine) → emitted text (container 0 tag 0 stop ∷ items_nodes 0 i ms) ≡ (Start tag, snapped text 0 stop) ∷ (items_marks 0 i ms ++ (End (tag_end tag), snapped text 0 stop) ∷ [])
  list_emitted tag stop i ms =
      let range : ℕ × ℕ = snapped text 0 stop in
      let t : Open = record { end = tag_end tag; range = range } in
      let first : Marked = (Start tag, range) in
      let begun : Writing = one_open t (first ∷ []) in
      let after : Writing = fold (step text) begun (items_nodes 0 i ms) in
      ap (λ (u : Writing). u.events) (sym (closed_again after.events after.stack)
      ∙ ap (closed 0) (items_emitted t 0 i ms begun (first ∷ []) refl))

  -- and what these say
  item_said : (clean : AreClean text) (pre rest : List ℕ) (from : ℕ) (i : ItemLine) (more : List EventView) → text ≡ pre ++ (item_bytes i ++ rest) → from ≡ length pre → merged (unplaced (item_marks from i) ++ more) ≡ Start Item ∷ Leaf (Text (words i)) ∷ End end.Item ∷ merged more
  item_said clean pre rest from i more t at =
      let here : List ℕ = words i in
      let parted : text ≡ (pre ++ i.mark) ++ (here ++ rest) = t ∙ ap (λ (xs : List ℕ). pre ++ xs) (append_assoc i.mark here rest) ∙ sym (append_assoc pre i.mark (here ++ rest)) in
      let width : length (item_bytes i) ≡ length i.mark + length here = length-append i.mark here in
      let behind : from + length i.mark ≡ length (pre ++ i.mark) = ap (λ n. n + length i.mark) at ∙ sym (length-append pre i.mark) in
      ap (λ (x : List ℕ). Start Item ∷ Leaf (Text x) ∷ End end.Item ∷ merged more) (source_between text (pre ++ i.mark) here rest (from + length i.mark) (end_of from i) parted behind (omega (arith, width, behind)) clean)

  items_said : (clean : AreClean text) (pre : List ℕ) (from : ℕ) (i : ItemLine) (ms : List ItemLine) (more : List EventView) → text ≡ pre ++ lined (item_bytes i) (map item_bytes ms) → from ≡ length pre → merged (unplaced (items_marks from i ms) ++ more) ≡ items_events (map words (i ∷ ms)) ++ merged more
  items_said clean pre from i [] more t at = item_said clean pre [] from i more (t ∙ ap (λ (xs : List ℕ). pre ++ xs) (sym (append-nil (item_bytes i)))) at
  items_said clean pre from i (m ∷ ms) more t at =
      let row : List ℕ = item_bytes i in
      let others : List ℕ = lined (item_bytes m) (map item_bytes ms) in
      let next : ℕ = end_of from i + 1 in
      let later : List Marked = items_marks next m ms in
      let there : text ≡ (pre ++ (row ++ 10 ∷ [])) ++ others = t ∙ ap (λ (xs : List ℕ). pre ++ xs) (sym (append_assoc row (10 ∷ []) others)) ∙ sym (append_assoc pre (row ++ 10 ∷ []) others) in
      let longer : next ≡ length (pre ++ (row ++ 10 ∷ [])) = ap (λ k. k + length row + 1) at ∙ (let q : length pre + length row + 1 ≡ length (pre ++ (row ++ 10 ∷ [])) = grind (arith, length-append) in q) in
      ap merged (ap (λ (es : List EventView). es ++ more) (unplaced_both (item_marks from i) later) ∙ append_assoc (unplaced (item_marks from i)) (unplaced later) more)
      ∙ item_said clean pre (10 ∷ others) from i (unplaced later ++ more) t at
      ∙ ap (λ (es : List EventView). Start Item ∷ Leaf (Text (words i)) ∷ End end.Item ∷ es) (items_said clean (pre ++ (row ++ 10 ∷ [])) next m ms more there longer)

-- ---- the law

pub list_read : (syntax : Syntax) (sort : ℕ) (i : ItemLine) (ms : List ItemLine) → AreItems sort (i ∷ ms) → AreWordItems (i ∷ ms) → AreClean (lined (item_bytes i) (map item_bytes ms)) → length (lined (item_bytes i) (map item_bytes ms)) < 2 ^ 64
    → IsReadAs (reading_of syntax (lined (item_bytes i) (map item_bytes ms))) (Start (ListOf i.number) ∷ items_events (map words (i ∷ ms)) ++ End (tag_end (ListOf i.number)) ∷ [])
unfolding reading_of
list_read syntax sort i ms items plain clean fits =
    let text : List ℕ = lined (item_bytes i) (map item_bytes ms) in
    let n : ℕ = length text in
    let tag : TagView = ListOf i.number in
    let found = list_found syntax sort i ms items plain clean fits in
    let marks : List Marked = items_marks text 0 i ms in
    let last : Marked = (End (tag_end tag), snapped text 0 n) in
    record {
      events = ap (λ (f : FoundView). merged (unplaced (emitted text f.nodes))) found
          ∙ ap (λ (es : List Marked). merged (unplaced es)) (list_emitted text tag n i ms)
          ∙ ap (λ (es : List EventView). Start tag ∷ merged es) (unplaced_both marks (last ∷ []))
          ∙ ap (λ (es : List EventView). Start tag ∷ es) (items_said text clean [] 0 i ms (End (tag_end tag) ∷ []) refl refl);
      defined = ap (λ (f : FoundView). f.defined) found;
      unresolved = ap (λ (f : FoundView). f.unresolved) found;
    }

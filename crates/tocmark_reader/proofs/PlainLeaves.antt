-- The reading of a text of parts in lines, each of which begins nothing.
use Rattle.std.proofs.Common.{◌≡◌, ℕ, suc, ◌+◌, ◌-◌, ◌^◌, ◌<◌, true, false, ◌==◌, nat_le, List, [], ◌∷◌, ◌++◌, length, map, refl, ap, subst, ◌∙◌, arith, length-append, None}
use Rattle.std.proofs.Math.Seq.{take-length}
use Rattle.std.proofs.lemmas.Bool.Decides.{nat_tests}
use Rattle.std.specs.List.{AllByRecursion, fold}
use Rattle.tocmark_event.specs.Reading.{ReadingView}
use Rattle.tocmark_event.specs.View.{Start, End, Paragraph}
use Rattle.tocmark_event.specs.declared.event.TagEnd.TheVariants as end
use Rattle.tocmark_read_scan.specs.Basic.{byte_at}
use Rattle.tocmark_read_scan.specs.Class.{is_in}
use Rattle.tocmark_read_scan.specs.Content as content
use Rattle.tocmark_read_scan.specs.declared.class.Class.TheVariants.{White}
use Rattle.tocmark_read_scan.specs.declared.content.ContentLine.{ContentLine}
use Rattle.tocmark_read_scan.proofs.PlainContent.{places_of}
use Rattle.tocmark_read_scan.proofs.PlainPieces.{feed_joined, line_places, AreNoZeros, content_of_lines}
use Rattle.tocmark_read_blocks.specs.Blocks.{BlocksView, blocks_of}
use Rattle.tocmark_read_page.specs.declared.piece.Piece.{Piece}
use Rattle.tocmark_read_page.specs.declared.page.Block.{Block}
use Rattle.tocmark_read_page.specs.declared.page.BlockKind.TheVariants as kind
use Rattle.tocmark_read_blocks.proofs.PlainSteps.{line_piece}
use Rattle.tocmark_read_blocks.proofs.PlainPages.{last_end, plain_blocks}
use Rattle.tocmark_read_blocks.proofs.PlainTexts.{IsTextLine, line_list, lines_joined, lines_plain}
use Rattle.tocmark_read_spans.specs.Definitions as defs
use Rattle.tocmark_read_inlines.specs.Inlines as inlines
use Rattle.tocmark_read_inlines.proofs.PlainPasses.{AreRead}
use Rattle.tocmark_read_inlines.proofs.PlainLeaf.{known, parts_inlines}
use Rattle.tocmark_read_inlines.proofs.PlainNodes.{nodes_of}
use Rattle.tocmark_reader.specs.Emitted.{NodeView, Container, Writing, step, closed, emitted}
use Rattle.tocmark_reader.specs.Formulas.{keeps_blanks}
use Rattle.tocmark_reader.specs.Pages.{State, start_state, pieces_of, assembled, is_unwrapped, block_taken_in, paragraph_taken, paragraph_taken_in, wrapped_in, task_nodes, with_block, leaf_inlines_in, with_lines_of, with_inlines, content_line, block_tag}
use Rattle.tocmark_reader.specs.Reading.{core_reading, found_in, found_under, reading_of, FoundView, collected, collected_from, first_entry}
use Rattle.tocmark_reader.proofs.PlainEvents.{Marked, viewed, at, events_of, emit_parts}
use Rattle.tocmark_reader.proofs.PlainSources.{IsClean, AreClean, snapped_clean, all_implied}
use Rattle.tocmark_read_scan.specs.PlainParts.{Part, spelled}

-- the nodes and labels of a text with these blocks
abbrev found_from : List ℕ → BlocksView → FoundView
found_from text blocks =
    let c = collected blocks.definitions in
    let page = assembled text (first_entry false c.keys c.entries) blocks.blocks blocks.pieces c.texts in
    record {
      nodes = page.nodes;
      defined = defs.distinct_labels c.texts c.labels;
      unresolved = defs.distinct_labels page.inlines.texts page.inlines.missed;
    }

-- one paragraph with these pieces
abbrev one_block : ℕ → List Piece → BlocksView
one_block n pieces = record {
  blocks = record { depth = 0; kind = kind.Paragraph; start = 0; end = n; first = 0; last = length pieces; loose = false; list = None; task = None } ∷ [];
  pieces = pieces;
  definitions = [];
}

abbrev no_inlines : inlines.State
no_inlines = record { nodes = []; targets = []; texts = []; missed = [] }

abbrev paragraph_node : ℕ → NodeView
paragraph_node n = record { depth = 0; item = Container Paragraph; start = 0; end = n }

-- a paragraph with these inlines
abbrev found_of : ℕ → inlines.State → FoundView
found_of n found =
    let page = with_inlines found (record { nodes = paragraph_node n ∷ []; inlines = no_inlines }) in
    record { nodes = page.nodes; defined = []; unresolved = defs.distinct_labels page.inlines.texts page.inlines.missed }

some_pieces : (k : ℕ) → nat_le (suc k) 0 ≡ false
some_pieces k = grind (arith, nat_tests)

whole_pieces : (p : Piece) (ps : List Piece) → pieces_of (p ∷ ps) 0 (length (p ∷ ps)) ≡ p ∷ ps
whole_pieces p ps =
    let k : ℕ = length (p ∷ ps) in
    let from : nat_le 0 k ≡ true = grind (arith, nat_tests) in
    let fits : nat_le k k ≡ true = grind (arith, nat_tests) in
    let same : k - 0 ≡ k = omega arith in
    rw (from, fits, same, take-length (p ∷ ps)) refl

paragraph_block : ℕ → ℕ → Block
paragraph_block n k = record { depth = 0; kind = kind.Paragraph; start = 0; end = n; first = 0; last = k; loose = false; list = None; task = None }

-- the nodes and labels of these nodes and inlines
abbrev found_state : State → FoundView
found_state page = record { nodes = page.nodes; defined = []; unresolved = defs.distinct_labels page.inlines.texts page.inlines.missed }

-- a paragraph with these pieces at the top
abbrev taken : List ℕ → ℕ → ℕ → List Piece → State
taken text n k pieces = paragraph_taken text (first_entry false [] []) pieces false (paragraph_block n k) (start_state [])

found_taken : (text : List ℕ) (n : ℕ) (pieces : List Piece) → found_from text (one_block n pieces) ≡ found_state (taken text n (length pieces) (pieces_of pieces 0 (length pieces)))
unfolding is_unwrapped block_taken_in paragraph_block
found_taken text n pieces = refl

taken_whole : (text : List ℕ) (n k : ℕ) (pieces : List Piece) → found_state (taken text n (suc k) pieces) ≡ found_of n (inlines.read_inlines (content.content_of text (map content_line pieces)) 1 (first_entry false [] []) no_inlines)
unfolding paragraph_taken_in wrapped_in with_block task_nodes leaf_inlines_in with_lines_of keeps_blanks block_tag paragraph_block
taken_whole text n k pieces = rw (some_pieces k) refl

found_one : (text : List ℕ) (n : ℕ) (p : Piece) (ps : List Piece) (c : content.State) → content.content_of text (map content_line (p ∷ ps)) ≡ c → found_from text (one_block n (p ∷ ps)) ≡ found_of n (inlines.read_inlines c 1 (first_entry false [] []) no_inlines)
found_one text n p ps c e =
    found_taken text n (p ∷ ps)
    ∙ ap (λ pieces. found_state (taken text n (suc (length ps)) pieces)) (whole_pieces p ps)
    ∙ taken_whole text n (length ps) (p ∷ ps)
    ∙ ap (λ (x : content.State). found_of n (inlines.read_inlines x 1 (first_entry false [] []) no_inlines)) e

-- the pieces of lines are these lines
pieces_are_lines : (before start : ℕ) (l : List ℕ) (ms : List (List ℕ)) → map content_line (map line_piece (line_list before start l ms)) ≡ line_places start l ms
unfolding content_line
pieces_are_lines before start l [] = refl
pieces_are_lines before start l (m ∷ ms) = ap (λ (ls : List ContentLine). record { start = start; end = start + length l; next = start + length l + 1 } ∷ ls) (pieces_are_lines (before + 1) (start + length l + 1) m ms)

-- where the last of these lines ends
lines_end : (before start end : ℕ) (l : List ℕ) (ms : List (List ℕ)) → last_end end (line_list before start l ms) ≡ start + length (feed_joined l ms)
lines_end before start end l [] = refl
lines_end before start end l (m ∷ ms) =
    let width : length (l ++ 10 ∷ feed_joined m ms) ≡ length l + suc (length (feed_joined m ms)) = length-append l (10 ∷ feed_joined m ms) in
    lines_end (before + 1) (start + length l + 1) (start + length l) m ms ∙ omega (arith, width)

-- a text of lines that begin nothing, whose bytes are spelled by parts that are read as they are meant
pub record IsReadText (l : List ℕ) (ms : List (List ℕ)) (parts : List Part) : Type 0 where
  pub lines : AllByRecursion IsTextLine (l ∷ ms)
  pub clean : AreClean (feed_joined l ms)
  pub zeros : AllByRecursion AreNoZeros (l ∷ ms)
  pub fits : length (feed_joined l ms) < 2 ^ 64
  pub bracket : (byte_at (feed_joined l ms) 0 == 91) ≡ false
  pub last : (body : List ℕ) × (y : ℕ) × (feed_joined l ms ≡ body ++ y ∷ []) × (is_in White y ≡ false)
  pub spells : feed_joined l ms ≡ spelled parts
  pub read : AreRead (spelled parts) (known (spelled parts)) (first_entry false [] []) 0 parts

-- the blocks of such a text
text_blocks : (l : List ℕ) (ms : List (List ℕ)) → AllByRecursion IsTextLine (l ∷ ms) → AreClean (feed_joined l ms) → length (feed_joined l ms) < 2 ^ 64 → (byte_at (feed_joined l ms) 0 == 91) ≡ false → blocks_of (feed_joined l ms) ≡ one_block (length (feed_joined l ms)) (map line_piece (line_list 0 0 l ms))
text_blocks l [] h clean fits k =
    plain_blocks l _ [] (lines_joined l (all_implied IsClean (λ b. (b == 13) ≡ false) l (λ b c. c.return) clean) 0 0 l [] h) (lines_plain l [] 0 0 l [] refl refl h fits) k
    ∙ ap (λ n. one_block n (map line_piece (line_list 0 0 l []))) (let q : 0 + length l ≡ length l = omega arith in q)
text_blocks l (m ∷ ms) h clean fits k =
    let text : List ℕ = feed_joined l (m ∷ ms) in
    let next : ℕ = 0 + length l + 1 in
    plain_blocks text _ (line_list 1 next m ms) (lines_joined text (all_implied IsClean (λ b. (b == 13) ≡ false) text (λ b c. c.return) clean) 0 0 l (m ∷ ms) h) (lines_plain text [] 0 0 l (m ∷ ms) refl refl h fits) k
    ∙ ap (λ n. one_block n (map line_piece (line_list 0 0 l (m ∷ ms)))) (lines_end 0 0 0 l (m ∷ ms) ∙ (let q : 0 + length text ≡ length text = omega arith in q))

-- a list of lines isn't empty
found_lines : (text : List ℕ) (n : ℕ) (l : List ℕ) (ms : List (List ℕ)) (c : content.State) → content.content_of text (line_places 0 l ms) ≡ c → found_from text (one_block n (map line_piece (line_list 0 0 l ms))) ≡ found_of n (inlines.read_inlines c 1 (first_entry false [] []) no_inlines)
found_lines text n l [] c e = found_one text n _ _ c (ap (content.content_of text) (pieces_are_lines 0 0 l []) ∙ e)
found_lines text n l (m ∷ ms) c e = found_one text n _ _ c (ap (content.content_of text) (pieces_are_lines 0 0 l (m ∷ ms)) ∙ e)

-- what is found in such a text
abbrev pub found_parts : ℕ → List Part → FoundView
found_parts n parts = record { nodes = paragraph_node n ∷ viewed (nodes_of 1 0 None parts); defined = []; unresolved = [] }

pub found_text : (l : List ℕ) (ms : List (List ℕ)) (parts : List Part) → IsReadText l ms parts → found_in (feed_joined l ms) ≡ found_parts (length (feed_joined l ms)) parts
unfolding found_under collected_from
found_text l ms parts h =
    let text : List ℕ = feed_joined l ms in
    let n : ℕ = length text in
    let leaf : List ℕ → content.State = λ bytes. record { bytes = bytes; places = places_of 0 bytes } in
    let found : inlines.State → FoundView = found_of n in
    let fits : length (spelled parts) < 2 ^ 64 = subst (λ (xs : List ℕ). length xs < 2 ^ 64) h.spells h.fits in
    ap (found_from text) (text_blocks l ms h.lines h.clean h.fits h.bracket)
    ∙ found_lines text n l ms (leaf text) (content_of_lines l ms (h.last.0) (h.last.1) (h.last.2) (h.last.3) h.zeros h.fits)
    ∙ ap (λ bytes. found (inlines.read_inlines (leaf bytes) 1 (first_entry false [] []) no_inlines)) h.spells
    ∙ ap found (parts_inlines parts 1 (first_entry false [] []) no_inlines h.read fits)

-- the reading of such a text: a paragraph with the events of its parts
abbrev pub parts_reading : List ℕ → List Part → ReadingView
parts_reading text parts = record {
  events = ((Start Paragraph, (0, length text)) ∷ events_of text 0 None parts) ++ (End end.Paragraph, (0, length text)) ∷ [];
  defined = [];
  unresolved = [];
}

emitted_parts : (text : List ℕ) (parts : List Part) → AreClean text → emitted text (paragraph_node (length text) ∷ viewed (nodes_of 1 0 None parts)) ≡ (parts_reading text parts).events
emitted_parts text parts h =
    let n : ℕ = length text in
    let opened : (ℕ × ℕ) → Writing = λ r. at ((Start Paragraph, r) ∷ []) (record { end = end.Paragraph; range = r }) in
    let nodes : List NodeView = viewed (nodes_of 1 0 None parts) in
    ap (λ r. (closed 0 (fold (step text) (opened r) nodes)).events) (snapped_clean text 0 n h (omega arith) (omega arith))
    ∙ ap (λ (w : Writing). (closed 0 w).events) (emit_parts text ((Start Paragraph, (0, n)) ∷ []) (record { end = end.Paragraph; range = (0, n) }) 0 None parts)

-- such a text is read as one paragraph
pub text_is_read : (l : List ℕ) (ms : List (List ℕ)) (parts : List Part) → IsReadText l ms parts → core_reading (feed_joined l ms) ≡ parts_reading (feed_joined l ms) parts
unfolding reading_of
text_is_read l ms parts h =
    let text : List ℕ = feed_joined l ms in
    ap (let g : FoundView → ReadingView = λ f. record { events = emitted text f.nodes; defined = f.defined; unresolved = f.unresolved } in g) (found_text l ms parts h)
    ∙ ap (let g : List Marked → ReadingView = λ es. record { events = es; defined = []; unresolved = [] } in g) (emitted_parts text parts h.clean)

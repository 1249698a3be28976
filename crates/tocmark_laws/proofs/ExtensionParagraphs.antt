-- What is found in a paragraph of lines that begin nothing, under every syntax.
use Rattle.std.proofs.Common.{◌≡◌, ℕ, suc, ◌+◌, ◌-◌, ◌^◌, ◌<◌, ◌≤◌, Bool, true, false, ◌==◌, if◌then◌else◌, nat_le, nat_lt, List, [], ◌∷◌, ◌++◌, length, map, replicate, refl, ap, ◌∙◌, arith, Option, None}
use Rattle.std.proofs.Math.Seq.{take-length}
use Rattle.std.proofs.lemmas.Bool.Decides.{nat_tests}
use Rattle.std.specs.List.{AllByRecursion, fold, list_any}
use Rattle.tocmark_read_scan.specs.Basic.{plus, byte_at, starts_at}
use Rattle.tocmark_read_scan.specs.Content as content
use Rattle.tocmark_read_scan.specs.PlainParts.{last_byte}
use Rattle.tocmark_read_scan.specs.declared.content.ContentLine.{ContentLine}
use Rattle.tocmark_read_scan.specs.declared.syntax.Syntax.{Syntax}
use Rattle.tocmark_read_scan.proofs.PlainPieces.{feed_joined, line_places}
use Rattle.tocmark_read_tokens.specs.Footnotes.{note_label}
use Rattle.tocmark_read_lines.specs.Html.{html_kind}
use Rattle.tocmark_read_lines.specs.Footnotes.{note_at}
use Rattle.tocmark_read_page.specs.declared.page.Block.{Block}
use Rattle.tocmark_read_page.specs.declared.page.BlockKind.TheVariants as kind
use Rattle.tocmark_read_page.specs.declared.piece.Piece.{Piece}
use Rattle.tocmark_read_constructs.specs.Tables.{is_delimiter_row, is_delimiter_byte}
use Rattle.tocmark_read_blocks.specs.Blocks.{BlocksView, blocks_in}
use Rattle.tocmark_read_blocks.proofs.PlainLines.{IsWithin, numbered}
use Rattle.tocmark_read_blocks.proofs.PlainStarts.{IsQuiet, quiet_begins_nothing}
use Rattle.tocmark_read_blocks.proofs.PlainSteps.{line_piece}
use Rattle.tocmark_read_blocks.proofs.PlainTexts.{line_list}
use Rattle.tocmark_read_spans.specs.Definitions as defs
use Rattle.tocmark_read_spans.specs.declared.definitions.Entry.{Entry}
use Rattle.tocmark_read_spans.specs.declared.role.Role.TheVariants.{Plain}
use Rattle.tocmark_read_inlines.specs.Inlines as inlines
use Rattle.tocmark_read_inlines.specs.Scan as s
use Rattle.tocmark_reader.specs.Formulas.{is_indented, keeps_blanks}
use Rattle.tocmark_reader.specs.Pages.{State, start_state, pieces_of, assembled_in, is_unwrapped, block_taken_in, paragraph_taken_in, wrapped_in, task_nodes, with_block, leaf_inlines_in, with_lines_of, with_inlines, content_line, block_tag}
use Rattle.tocmark_reader.specs.Reading.{FoundView, collected_in, collected_from, first_entry, found_under, noted, noted_as}
use Rattle.tocmark_reader.proofs.FormulaLines.{one_line, bare_lines}
use Rattle.tocmark_reader.proofs.PlainReading.{IsPrintable}
use Rattle.tocmark_reader.proofs.PlainSources.{IsClean, AreClean}
use Rattle.tocmark_laws.specs.Extensions.{lined}
use Rattle.tocmark_laws.proofs.ExtensionBlocks.{never, BeginsFreely, IsFreeText, one_block, text_blocks}

-- ---- blocks

-- the nodes and labels of a text with these blocks and definitions
abbrev pub found_with : Syntax → List ℕ → BlocksView → defs.State → FoundView
found_with syntax text blocks c =
    let page = assembled_in syntax text (first_entry syntax.undefined_notes c.keys c.entries) blocks.blocks blocks.pieces c.texts in
    record {
      nodes = page.nodes;
      defined = defs.distinct_labels c.texts c.labels;
      unresolved = defs.distinct_labels page.inlines.texts page.inlines.missed;
    }

pub found_from : (syntax : Syntax) (text : List ℕ) (blocks : BlocksView) (c : defs.State) → blocks_in syntax text ≡ blocks → collected_from syntax text blocks ≡ c → found_under syntax text ≡ found_with syntax text blocks c
unfolding found_under
found_from syntax text blocks c e k =
    ap (λ (b : BlocksView). found_with syntax text b (collected_from syntax text b)) e
    ∙ ap (λ (d : defs.State). found_with syntax text blocks d) k

pub whole_pieces : (ps : List Piece) → pieces_of ps 0 (length ps) ≡ ps
whole_pieces [] = refl
whole_pieces (p ∷ ps) =
    let k : ℕ = length (p ∷ ps) in
    let from : nat_le 0 k ≡ true = grind (arith, nat_tests) in
    let fits : nat_le k k ≡ true = grind (arith, nat_tests) in
    let same : k - 0 ≡ k = omega arith in
    rw (from, fits, same, take-length (p ∷ ps)) refl

abbrev pub no_inlines : inlines.State
no_inlines = record { nodes = []; targets = []; texts = []; missed = [] }

-- a paragraph of so many bytes with these inlines
abbrev pub found_of : List ℕ → ℕ → inlines.State → FoundView
found_of text n found =
    let page = with_inlines found (with_block text (record { depth = 0; kind = kind.Paragraph; start = 0; end = n; first = 0; last = 1; loose = false; list = None; task = None }) (start_state [])) in
    record { nodes = page.nodes; defined = []; unresolved = defs.distinct_labels page.inlines.texts page.inlines.missed }

none_collected : (syntax : Syntax) (text : List ℕ) (n : ℕ) (pieces : List Piece) → collected_from syntax text (one_block 0 n pieces) ≡ defs.collected_none
unfolding collected_from noted_as
none_collected syntax text n pieces = by_test syntax.footnotes
  where
    by_test : (t : Bool) → (if t then noted text (one_block 0 n pieces).blocks (collected_in syntax.names []) else collected_in syntax.names []) ≡ defs.collected_none
    by_test true = refl
    by_test false = refl

not_before : (k : ℕ) → nat_lt k k ≡ false
not_before k = grind (arith, nat_tests)

some_pieces : (k : ℕ) → nat_le (suc k) 0 ≡ false
some_pieces k = grind (arith, nat_tests)

paragraph_block : ℕ → ℕ → Block
paragraph_block n k = record { depth = 0; kind = kind.Paragraph; start = 0; end = n; first = 0; last = k; loose = false; list = None; task = None }

-- the nodes and labels of these nodes and inlines
abbrev found_state : State → FoundView
found_state page = record { nodes = page.nodes; defined = []; unresolved = defs.distinct_labels page.inlines.texts page.inlines.missed }

abbrev taken : Syntax → List ℕ → ℕ → ℕ → List Piece → State
taken syntax text n k pieces = paragraph_taken_in syntax text (first_entry syntax.undefined_notes [] []) pieces false (paragraph_block n k) (start_state [])

found_taken : (syntax : Syntax) (text : List ℕ) (n : ℕ) (pieces : List Piece) → found_with syntax text (one_block 0 n pieces) defs.collected_none ≡ found_state (taken syntax text n (length pieces) (pieces_of pieces 0 (length pieces)))
unfolding is_unwrapped block_taken_in paragraph_block
found_taken syntax text n pieces = refl

taken_whole : (syntax : Syntax) (text : List ℕ) (n k : ℕ) (pieces : List Piece) → keeps_blanks syntax pieces ≡ false → found_state (taken syntax text n (suc k) pieces) ≡ found_of text n (inlines.read_inlines_in syntax (content.content_of text (map content_line pieces)) 1 (first_entry syntax.undefined_notes [] []) no_inlines)
unfolding paragraph_taken_in wrapped_in with_block task_nodes leaf_inlines_in with_lines_of block_tag paragraph_block
taken_whole syntax text n k pieces bare = rw (some_pieces k, bare) refl

found_one : (syntax : Syntax) (text : List ℕ) (n : ℕ) (p : Piece) (ps : List Piece) (c : content.State) → keeps_blanks syntax (p ∷ ps) ≡ false → content.content_of text (map content_line (p ∷ ps)) ≡ c → found_with syntax text (one_block 0 n (p ∷ ps)) defs.collected_none ≡ found_of text n (inlines.read_inlines_in syntax c 1 (first_entry syntax.undefined_notes [] []) no_inlines)
found_one syntax text n p ps c bare e =
    found_taken syntax text n (p ∷ ps)
    ∙ ap (λ pieces. found_state (taken syntax text n (suc (length ps)) pieces)) (whole_pieces (p ∷ ps))
    ∙ taken_whole syntax text n (length ps) (p ∷ ps) bare
    ∙ ap (λ (x : content.State). found_of text n (inlines.read_inlines_in syntax x 1 (first_entry syntax.undefined_notes [] []) no_inlines)) e

-- the pieces of lines are these lines
pieces_are_lines : (before start : ℕ) (l : List ℕ) (ms : List (List ℕ)) → map content_line (map line_piece (line_list before start l ms)) ≡ line_places start l ms
unfolding content_line
pieces_are_lines before start l [] = refl
pieces_are_lines before start l (m ∷ ms) = ap (λ (ls : List ContentLine). record { start = start; end = start + length l; next = start + length l + 1 } ∷ ls) (pieces_are_lines (before + 1) (start + length l + 1) m ms)

-- no line of these is indented
no_indents : (before start : ℕ) (l : List ℕ) (ms : List (List ℕ)) → list_any is_indented (map line_piece (line_list before start l ms)) ≡ false
unfolding is_indented
no_indents before start l [] = rw (not_before start) refl
no_indents before start l (m ∷ ms) = rw (not_before start) (no_indents (before + 1) (start + length l + 1) m ms)

bare : (syntax : Syntax) (l : List ℕ) (ms : List (List ℕ)) → keeps_blanks syntax (map line_piece (line_list 0 0 l ms)) ≡ false
bare syntax l [] = one_line syntax _
bare syntax l (m ∷ ms) = bare_lines syntax _ (map line_piece (line_list (0 + 1) (0 + length l + 1) m ms)) (no_indents (0 + 1) (0 + length l + 1) m ms)

found_lines : (syntax : Syntax) (text : List ℕ) (n : ℕ) (l : List ℕ) (ms : List (List ℕ)) (c : content.State) → content.content_of text (line_places 0 l ms) ≡ c → found_with syntax text (one_block 0 n (map line_piece (line_list 0 0 l ms))) defs.collected_none ≡ found_of text n (inlines.read_inlines_in syntax c 1 (first_entry syntax.undefined_notes [] []) no_inlines)
found_lines syntax text n l [] c e = found_one syntax text n _ _ c (bare syntax l []) (ap (content.content_of text) (pieces_are_lines 0 0 l []) ∙ e)
found_lines syntax text n l (m ∷ ms) c e = found_one syntax text n _ _ c (bare syntax l (m ∷ ms)) (ap (content.content_of text) (pieces_are_lines 0 0 l (m ∷ ms)) ∙ e)

-- what is found in such a paragraph: the inlines of its content
pub paragraph_found : (syntax : Syntax) (l : List ℕ) (ms : List (List ℕ)) (c : content.State) → AllByRecursion IsFreeText (l ∷ ms) → AllByRecursion (λ b. (b == 13) ≡ false) (feed_joined l ms) → length (feed_joined l ms) < 2 ^ 64 → (byte_at (feed_joined l ms) 0 == 91) ≡ false → content.content_of (feed_joined l ms) (line_places 0 l ms) ≡ c → found_under syntax (feed_joined l ms) ≡ found_of (feed_joined l ms) (length (feed_joined l ms)) (inlines.read_inlines_in syntax c 1 (first_entry syntax.undefined_notes [] []) no_inlines)
paragraph_found syntax l ms c h returns fits bracket e =
    let text : List ℕ = feed_joined l ms in
    let n : ℕ = length text in
    let pieces : List Piece = map line_piece (line_list 0 0 l ms) in
    found_from syntax text (one_block 0 n pieces) defs.collected_none (text_blocks syntax l ms h returns fits bracket) (none_collected syntax text n pieces)
    ∙ found_lines syntax text n l ms c e

-- ---- lines

-- a byte in front that begins nothing in any syntax
pub record IsFreeByte (b : ℕ) : Type 0 where
  pub bracket : (91 == b) ≡ false
  pub colon : (b == 58) ≡ false
  pub bar : (b == 124) ≡ false
  pub dash : (b == 45) ≡ false
  pub space : (b == 32) ≡ false
  pub less : (b == 60) ≡ false

pub free_note : (at b : ℕ) (bs : List ℕ) → (91 == b) ≡ false → note_at (numbered at (b ∷ bs)) 0 ≡ None
unfolding note_at note_label starts_at
free_note at b bs h = rw h refl

pub free_row : (b : ℕ) (bs : List ℕ) → IsFreeByte b → is_delimiter_row (b ∷ bs) ≡ false
unfolding is_delimiter_row is_delimiter_byte
free_row b bs h = rw (h.bar, h.colon, h.dash, h.space) refl

pub free_html : (b : ℕ) (bs : List ℕ) → (b == 60) ≡ false → html_kind (b ∷ bs) ≡ None
unfolding html_kind
free_html b bs h = rw h refl

pub begins_freely : (at b : ℕ) (bs : List ℕ) → IsQuiet b → IsFreeByte b → BeginsFreely (b ∷ bs) (numbered at (b ∷ bs))
begins_freely at b bs q h = record {
  nothing = quiet_begins_nothing at b bs q;
  note = free_note at b bs h.bracket;
  colon = h.colon;
  row = free_row b bs h;
  html = free_html b bs h.less;
}

-- the last of some bytes
pub last_of : (P : ℕ → Type 0) (b : ℕ) (bs : List ℕ) → AllByRecursion P (b ∷ bs) → P (last_byte b bs)
last_of P b [] h = h.0
last_of P b (c ∷ cs) h = last_of P c cs (h.1)

pub within_byte : (b : ℕ) → IsPrintable b → IsWithin b
within_byte b h = let low : 32 ≤ b = h.low in record { feed = grind (arith, nat_tests); return = grind (arith, nat_tests); tab = grind (arith, nat_tests) }

pub clean_byte : (b : ℕ) → IsPrintable b → IsClean b
clean_byte b h = let low : 32 ≤ b = h.low in let high : b < 127 = h.high in record { ascii = omega arith; some = grind (arith, nat_tests); return = grind (arith, nat_tests) }

-- a line feed
pub clean_feed : IsClean 10
clean_feed = record { ascii = omega arith; some = refl; return = refl }

pub no_returns : (xs : List ℕ) → AreClean xs → AllByRecursion (λ b. (b == 13) ≡ false) xs
no_returns [] h = tt
no_returns (x ∷ xs) h = ((h.0).return, no_returns xs (h.1))

pub lined_is : (l : List ℕ) (ms : List (List ℕ)) → lined l ms ≡ feed_joined l ms
lined_is l [] = refl
lined_is l (m ∷ ms) = ap (λ (xs : List ℕ). l ++ 10 ∷ xs) (lined_is m ms)

-- ---- bytes that the first pass over inlines skips

-- the pass in front of so many bytes
abbrev pub at_start : ℕ → s.State
at_start n = record { roles = replicate n Plain; runs = []; brackets = []; inactive = 0; place = 0; resume = 0; targets = []; texts = []; missed = [] }

past : (place resume : ℕ) → place < resume → nat_le resume place ≡ false
past place resume h = grind (arith, nat_tests)

pub skip_bytes : (syntax : Syntax) (all : List ℕ) (ahead : s.Known) (find : List ℕ → Option Entry) (xs : List ℕ) (t : s.State) → t.place + length xs ≤ t.resume → t.resume < 2 ^ 64 → fold (s.scan_step_in syntax all ahead find) t xs ≡ record t { place = t.place + length xs }
unfolding s.scan_step_in
skip_bytes syntax all ahead find [] t h fits = ap (λ p. record t { place = p }) (let q : t.place ≡ t.place + 0 = omega arith in q)
skip_bytes syntax all ahead find (x ∷ xs) t h fits =
    let no : nat_le t.resume t.place ≡ false = past t.place t.resume (omega arith) in
    let next : plus t.place 1 ≡ t.place + 1 = omega arith in
    let far : t.place + 1 + length xs ≡ t.place + suc (length xs) = omega arith in
    let one : s.scan_step_in syntax all ahead find t x ≡ record t { place = t.place + 1 } = rw (no, never, next) refl in
    ap (λ (u : s.State). fold (s.scan_step_in syntax all ahead find) u xs) one
    ∙ skip_bytes syntax all ahead find xs (record t { place = t.place + 1 }) (omega arith) fits
    ∙ ap (λ p. record t { place = p }) far

-- A page with an open paragraph, and what a line makes of it.
use Rattle.std.proofs.Common.{◌≡◌, ℕ, suc, ◌+◌, ◌^◌, ◌<◌, Bool, true, false, nat_lt, nat_le, List, [], ◌∷◌, ◌++◌, length, slice_get, refl, ap, sym, ◌∙◌, arith, append_assoc, append-nil, length-append, true≢false, if◌then◌else◌, Option, Some, None}
use Rattle.std.proofs.Math.Seq.{take-length}
use Rattle.std.specs.Prelude.{unwrap_or}
use Rattle.std.specs.Option.{option_map, option_map_or}
use Rattle.std.proofs.lemmas.Bool.Decides.{nat_tests}
use Rattle.std.proofs.lemmas.Option.{slice_get_past}
use Rattle.tocmark_event.specs.declared.event.HeadingLevel.{HeadingLevel}
use Rattle.tocmark_read_scan.specs.Basic.{plus}
use Rattle.tocmark_read_scan.proofs.PlainPieces.{drop_behind}
use Rattle.tocmark_read_lines.specs.Cells.{cell_place, indent_of, is_blank_at}
use Rattle.tocmark_read_lines.specs.Marks.{heading_at, fence_at, tail_of}
use Rattle.tocmark_read_lines.specs.declared.beginnings.Fence.{Fence}
use Rattle.tocmark_read_lines.specs.declared.beginnings.Heading.{Heading}
use Rattle.tocmark_read_lines.specs.declared.beginnings.Tail.{Tail}
use Rattle.tocmark_read_lines.specs.declared.cell.Cell.{Cell}
use Rattle.tocmark_read_lines.specs.declared.cell.Cursor.{Cursor}
use Rattle.tocmark_read_lines.specs.declared.html.HtmlKind.{HtmlKind}
use Rattle.tocmark_read_lines.specs.declared.line.Line.{Line}
use Rattle.tocmark_read_page.specs.Definitions.{DefinitionView, definitions_from}
use Rattle.tocmark_read_page.specs.Leaves.{is_paragraph}
use Rattle.tocmark_read_page.specs.Pages.{State, leaf_closed, closed_to, leaf_finished, finished, settled, shortened, has_text, piece_taken}
use Rattle.tocmark_read_page.specs.Pieces.{text_piece}
use Rattle.tocmark_read_page.specs.declared.page.Block.{Block}
use Rattle.tocmark_read_page.specs.declared.page.BlockKind.TheVariants as kind
use Rattle.tocmark_read_page.specs.declared.line_start.LineStart.{LineStart}
use Rattle.tocmark_read_page.specs.declared.page.HeaderLine.TheVariants.{Never}
use Rattle.tocmark_read_page.specs.declared.piece.Piece.{Piece}
use Rattle.tocmark_read_page.specs.declared.leaf.Leaf.TheVariants as leaf
use Rattle.tocmark_read_constructs.specs.Headings.{underlined, underlined_in}
use Rattle.tocmark_read_constructs.specs.Metadata.{metadata_in}
use Rattle.tocmark_read_blocks.specs.Blocks.{core_known, rule_or_text, underlined_if, underline_taken_in, started_in, started}
use Rattle.tocmark_read_blocks.specs.Leaves.{leaf_at, mark_at, html_at, underline_in, rule_at, metadata_or}
use Rattle.tocmark_read_blocks.specs.Paragraphs.{text_started, text_taken}
use Rattle.tocmark_read_blocks.specs.declared.leaf.LeafStart.{LeafStart}
use Rattle.tocmark_read_blocks.specs.declared.leaf.LeafStart.TheVariants as start
use Rattle.tocmark_block_laws.proofs.Apart.{after_these, rule_or_text_after, closed_after}
use Rattle.tocmark_block_laws.proofs.Open.{get_last, Open, raise, with_block}
use Rattle.tocmark_block_laws.proofs.Pages.{here, block, closed, leaf_page, set_last, opens_here, closes_leaf, nothing_ends, piece_in, piece_taken_whole}

-- numbers of an open paragraph: two of its block that change when it ends, its first place, and the end and number of its last line
pub record Draft : Type 0 where
  pub last : ℕ
  pub stop : ℕ
  pub start : ℕ
  pub end : ℕ
  pub number : ℕ

-- a page with an open paragraph of these lines, after others
abbrev pub open_page : {outer : List ℕ} → Open outer → List Block → List Piece → List Piece → Draft → State
open_page {outer = outer} x bs ps qs m = record {
  blocks = bs ++ block (length outer) kind.Paragraph m.start m.stop (length ps) m.last ∷ [];
  pieces = ps ++ qs;
  definitions = [];
  opened = x.opened;
  quotes = x.quotes;
  leaf = leaf.Paragraph;
  end = m.end;
  line = m.number;
  kept = length (ps ++ qs);
  header = Never;
  tried = 0;
  left = None;
  filled = 0;
}

-- text

-- a page on which a paragraph began that has no line yet
abbrev fresh : {outer : List ℕ} → Open outer → List Block → List Piece → ℕ → ℕ → ℕ → State
fresh x bs ps at end number = leaf_page x leaf.Paragraph kind.Paragraph bs (length ps) ps (length ps) at end number

started_fresh : (outer : List ℕ) (x : Open outer) (bs : List Block) (ps : List Piece) (at end number : ℕ) → text_started at (fresh x bs ps at end number) ≡ fresh x bs ps at end number
unfolding text_started
started_fresh outer x bs ps at end number =
    let b : Block = block (length outer) kind.Paragraph at at (length ps) (length ps) in
    let same : nat_le (length ps) (length ps) ≡ true = grind (arith, nat_tests) in
    rw (get_last bs b, same, set_last bs b b) refl

-- the numbers of a paragraph that begins with a line
abbrev pub first_draft : List Piece → ℕ → Line → Draft
first_draft ps at l = record { last = length ps; stop = at; start = at; end = l.end; number = l.number }

pub text_begins : (text : List ℕ) (outer : List ℕ) (x : Open outer) (cells : List Cell) (l : Line) (place : Cursor) (bs : List Block) (ps : List Piece) (end number kept : ℕ) → nat_lt (cell_place cells place.ink l.end) l.next ≡ true
    → started start.Text text cells l (tail_of cells) (here (length outer) place) (closed x bs ps end number kept) ≡ open_page (with_block x) bs ps (piece_in cells place l ∷ []) (first_draft ps (cell_place cells place.ink l.end) l)
unfolding started_in text_taken text_piece is_paragraph
text_begins text outer x cells l place bs ps end number kept h =
    ap (λ s. piece_taken (piece_in cells place l) l true (text_started (cell_place cells place.ink l.end) s)) (opens_here text outer x leaf.Paragraph kind.Paragraph (cell_place cells place.ink l.end) l bs ps end number kept)
    ∙ ap (λ s. piece_taken (piece_in cells place l) l true s) (started_fresh outer (with_block x) bs ps (cell_place cells place.ink l.end) l.end l.number)
    ∙ piece_taken_whole (piece_in cells place l) l (fresh (with_block x) bs ps (cell_place cells place.ink l.end) l.end l.number) h refl

started_before : (outer : List ℕ) (x : Open outer) (at : ℕ) (bs : List Block) (ps : List Piece) (q : Piece) (qs : List Piece) (m : Draft) → text_started at (open_page x bs ps (q ∷ qs) m) ≡ open_page x bs ps (q ∷ qs) m
unfolding text_started
started_before outer x at bs ps q qs m =
    let more : length (ps ++ q ∷ qs) ≡ length ps + suc (length qs) = length-append ps (q ∷ qs) in
    let none : nat_le (length (ps ++ q ∷ qs)) (length ps) ≡ false = grind (arith, nat_tests) in
    rw (get_last bs (block (length outer) kind.Paragraph m.start m.stop (length ps) m.last), none) refl

pub text_goes_on : (text : List ℕ) (outer : List ℕ) (x : Open outer) (cells : List Cell) (l : Line) (d : ℕ) (place : Cursor) (bs : List Block) (ps : List Piece) (q : Piece) (qs : List Piece) (m : Draft) → nat_lt (cell_place cells place.ink l.end) l.next ≡ true
    → started start.Text text cells l (tail_of cells) (here d place) (open_page x bs ps (q ∷ qs) m) ≡ open_page x bs ps (q ∷ (qs ++ piece_in cells place l ∷ [])) (record m { end = l.end; number = l.number })
unfolding started_in text_taken text_piece is_paragraph
text_goes_on text outer x cells l d place bs ps q qs m h =
    ap (λ s. piece_taken (piece_in cells place l) l true s) (started_before outer x (cell_place cells place.ink l.end) bs ps q qs m)
    ∙ piece_taken_whole (piece_in cells place l) l (open_page x bs ps (q ∷ qs) m) h refl
    ∙ ap (λ (xs : List Piece). record (open_page x bs ps (q ∷ qs) (record m { end = l.end; number = l.number })) { pieces = xs; kept = length xs }) (append_assoc ps (q ∷ qs) (piece_in cells place l ∷ []))

started_spent : (outer : List ℕ) (x : Open outer) (at : ℕ) (bs : List Block) (ps : List Piece) (m : Draft) → text_started at (open_page x bs ps [] m) ≡ open_page x bs ps [] (record m { start = at })
unfolding text_started
started_spent outer x at bs ps m =
    let none : length (ps ++ []) ≡ length ps = ap (λ (xs : List Piece). length xs) (append-nil ps) in
    let first : nat_le (length (ps ++ [])) (length ps) ≡ true = grind (arith, none, nat_tests) in
    let b : Block = block (length outer) kind.Paragraph m.start m.stop (length ps) m.last in
    rw (get_last bs b, first, set_last bs b (block (length outer) kind.Paragraph at m.stop (length ps) m.last)) refl

-- text after definitions alone begins the paragraph
pub text_first : (text : List ℕ) (outer : List ℕ) (x : Open outer) (cells : List Cell) (l : Line) (d : ℕ) (place : Cursor) (bs : List Block) (ps : List Piece) (m : Draft) → nat_lt (cell_place cells place.ink l.end) l.next ≡ true
    → started start.Text text cells l (tail_of cells) (here d place) (open_page x bs ps [] m) ≡ open_page x bs ps (piece_in cells place l ∷ []) (record m { start = cell_place cells place.ink l.end; end = l.end; number = l.number })
unfolding started_in text_taken text_piece is_paragraph
text_first text outer x cells l d place bs ps m h =
    ap (λ s. piece_taken (piece_in cells place l) l true s) (started_spent outer x (cell_place cells place.ink l.end) bs ps m)
    ∙ piece_taken_whole (piece_in cells place l) l (open_page x bs ps [] (record m { start = cell_place cells place.ink l.end })) h refl
    ∙ ap (λ (xs : List Piece). record (open_page x bs ps [] (record m { start = cell_place cells place.ink l.end; end = l.end; number = l.number })) { pieces = xs; kept = length xs }) (append_assoc ps [] (piece_in cells place l ∷ []))

-- the paragraph ends

-- where lines from one on begin
abbrev pub start_from : List Piece → ℕ → ℕ → ℕ
start_from pieces first at = option_map_or (λ (p : Piece). p.start) (slice_get pieces first) at

-- the block without so many lines at the front of the paragraph
abbrev cut_block : ℕ → List Piece → List Piece → ℕ → Draft → Block
cut_block d ps qs n m = block d kind.Paragraph (start_from (ps ++ qs) (length ps + n) m.start) m.stop (length ps + n) m.last

abbrev pub cut_page : {outer : List ℕ} → Open outer → List Block → List Piece → List Piece → ℕ → Draft → State
cut_page {outer = outer} x bs ps qs n m = record (open_page x bs ps qs m) { blocks = bs ++ cut_block (length outer) ps qs n m ∷ [] }

settled_cut : (text : List ℕ) (outer : List ℕ) (x : Open outer) (bs : List Block) (ps qs : List Piece) (m : Draft) (ds : List DefinitionView) (n : ℕ) → definitions_from text qs [] ≡ (ds, n) → length ps + n < 2 ^ 64
    → settled text (open_page x bs ps qs m) ≡ after_these ds (cut_page x bs ps qs n m)
unfolding settled shortened
settled_cut text outer x bs ps qs m ds n h fits =
    let b : Block = block (length outer) kind.Paragraph m.start m.stop (length ps) m.last in
    let first : plus (length ps) n ≡ length ps + n = omega (arith, fits) in
    rw (get_last bs b, drop_behind ps qs, h, first, set_last bs b (cut_block (length outer) ps qs n m), append-nil ds) refl

-- the block of the rest, and of a heading
abbrev pub left_block : ℕ → List Piece → List Piece → ℕ → Draft → Block
left_block d ps qs n m = block d kind.Paragraph (start_from (ps ++ qs) (length ps + n) m.start) m.end (length ps + n) (length (ps ++ qs))

abbrev pub heading_block : ℕ → HeadingLevel → List Piece → List Piece → ℕ → Draft → Line → Block
heading_block d level ps qs n m l = block d (kind.Heading level None) (start_from (ps ++ qs) (length ps + n) m.start) l.end (length ps + n) (length (ps ++ qs))

-- the page on which the paragraph has ended
abbrev pub shut : {outer : List ℕ} → Open outer → List Block → List Piece → List Piece → ℕ → Draft → State
shut {outer = outer} x bs ps qs n m = closed (raise m.end m.number x) (bs ++ left_block (length outer) ps qs n m ∷ []) (ps ++ qs) m.end m.number (length (ps ++ qs))

cut_finished : (outer : List ℕ) (x : Open outer) (ds : List DefinitionView) (bs : List Block) (ps qs : List Piece) (n : ℕ) (m : Draft) → leaf_finished (after_these ds (cut_page x bs ps qs n m)) ≡ after_these ds (shut x bs ps qs n m)
unfolding leaf_finished finished
cut_finished outer x ds bs ps qs n m =
    let b : Block = cut_block (length outer) ps qs n m in
    rw (take-length (ps ++ qs), get_last bs b, set_last bs b (left_block (length outer) ps qs n m)) refl

pub paragraph_closed : (text : List ℕ) (outer : List ℕ) (x : Open outer) (bs : List Block) (ps qs : List Piece) (m : Draft) (ds : List DefinitionView) (n : ℕ) → definitions_from text qs [] ≡ (ds, n) → length ps + n < 2 ^ 64
    → leaf_closed text (open_page x bs ps qs m) ≡ after_these ds (shut x bs ps qs n m)
unfolding leaf_closed
paragraph_closed text outer x bs ps qs m ds n h fits = ap leaf_finished (settled_cut text outer x bs ps qs m ds n h fits) ∙ cut_finished outer x ds bs ps qs n m

-- it ends as the page on which it has ended
pub paragraph_shuts : (text : List ℕ) (outer : List ℕ) (x : Open outer) (bs : List Block) (ps qs : List Piece) (m : Draft) (ds : List DefinitionView) (n : ℕ) → definitions_from text qs [] ≡ (ds, n) → length ps + n < 2 ^ 64
    → closed_to text (length outer) (open_page x bs ps qs m) ≡ closed_to text (length outer) (after_these ds (shut x bs ps qs n m))
paragraph_shuts text outer x bs ps qs m ds n h fits =
    closes_leaf text outer (raise m.end m.number x) (bs ++ left_block (length outer) ps qs n m ∷ []) (ps ++ qs) m.end m.number (length (ps ++ qs)) ds (open_page x bs ps qs m) (paragraph_closed text outer x bs ps qs m ds n h fits)
    ∙ sym (closed_after text (length outer) ds (shut x bs ps qs n m)
    ∙ ap (after_these ds) (nothing_ends text outer (raise m.end m.number x) (bs ++ left_block (length outer) ps qs n m ∷ []) (ps ++ qs) m.end m.number (length (ps ++ qs))))

-- an underline makes a heading of what is left

has_cut : (outer : List ℕ) (x : Open outer) (ds : List DefinitionView) (bs : List Block) (ps qs : List Piece) (n : ℕ) (m : Draft) → has_text (after_these ds (cut_page x bs ps qs n m)) ≡ nat_lt n (length qs)
unfolding has_text
has_cut outer x ds bs ps qs n m =
    let long : length (ps ++ qs) ≡ length ps + length qs = length-append ps qs in
    let same : nat_lt (length ps + n) (length (ps ++ qs)) ≡ nat_lt n (length qs) = grind (arith, long, nat_tests) in
    rw (get_last bs (cut_block (length outer) ps qs n m), same) refl

-- the page after it
abbrev pub headed : {outer : List ℕ} → Open outer → HeadingLevel → List Block → List Piece → List Piece → ℕ → Draft → Line → State
headed {outer = outer} x level bs ps qs n m l = closed (raise l.end l.number x) (bs ++ heading_block (length outer) level ps qs n m l ∷ []) (ps ++ qs) l.end l.number (length (ps ++ qs))

underlined_cut : (outer : List ℕ) (x : Open outer) (ds : List DefinitionView) (l : Line) (level : HeadingLevel) (bs : List Block) (ps qs : List Piece) (n : ℕ) (m : Draft)
    → underlined level None l (after_these ds (cut_page x bs ps qs n m)) ≡ after_these ds (headed x level bs ps qs n m l)
unfolding underlined leaf_finished finished
underlined_cut outer x ds l level bs ps qs n m =
    let b : Block = cut_block (length outer) ps qs n m in
    let c : Block = block (length outer) (kind.Heading level None) (start_from (ps ++ qs) (length ps + n) m.start) m.stop (length ps + n) m.last in
    rw (get_last bs b, set_last bs b c, take-length (ps ++ qs), get_last bs c, set_last bs c (heading_block (length outer) level ps qs n m l)) refl

pub underline_heads : (text : List ℕ) (outer : List ℕ) (x : Open outer) (cells : List Cell) (l : Line) (place : Cursor) (level : HeadingLevel) (bs : List Block) (ps qs : List Piece) (m : Draft) (ds : List DefinitionView) (n : ℕ) → definitions_from text qs [] ≡ (ds, n) → length ps + n < 2 ^ 64 → nat_lt n (length qs) ≡ true
    → started (start.Underline level) text cells l (tail_of cells) (here (length outer) place) (open_page x bs ps qs m) ≡ after_these ds (headed x level bs ps qs n m l)
unfolding started_in underline_taken_in underlined_in metadata_in metadata_or
underline_heads text outer x cells l place level bs ps qs m ds n h fits some =
    ap (λ t. underlined_if core_known (has_text t) (rule_at cells (tail_of cells) place.ink) text cells l (here (length outer) place) level t) (settled_cut text outer x bs ps qs m ds n h fits)
    ∙ ap (λ b. underlined_if core_known b (rule_at cells (tail_of cells) place.ink) text cells l (here (length outer) place) level (after_these ds (cut_page x bs ps qs n m))) (has_cut outer x ds bs ps qs n m ∙ some)
    ∙ underlined_cut outer x ds l level bs ps qs n m

-- after definitions alone it is a thematic break or text

cut_spent : (outer : List ℕ) (x : Open outer) (bs : List Block) (ps qs : List Piece) (m : Draft) → cut_page x bs ps qs (length qs) m ≡ open_page x bs (ps ++ qs) [] m
cut_spent outer x bs ps qs m =
    ap (λ i. with_pieces (start_from (ps ++ qs) i m.start) i (ps ++ qs)) (sym (length-append ps qs))
    ∙ ap (λ o. with_pieces (option_map_or (λ (p : Piece). p.start) o m.start) (length (ps ++ qs)) (ps ++ qs)) (slice_get_past (ps ++ qs) (length (ps ++ qs)) (omega arith))
    ∙ ap (with_pieces m.start (length (ps ++ qs))) (sym (append-nil (ps ++ qs)))
  where
    with_pieces : ℕ → ℕ → List Piece → State
    with_pieces at first xs = record (open_page x bs ps qs m) { blocks = bs ++ block (length outer) kind.Paragraph at m.stop first m.last ∷ []; pieces = xs; kept = length xs }

has_none : (outer : List ℕ) (x : Open outer) (ds : List DefinitionView) (bs : List Block) (ps : List Piece) (m : Draft) → has_text (after_these ds (open_page x bs ps [] m)) ≡ false
unfolding has_text
has_none outer x ds bs ps m =
    let long : length (ps ++ []) ≡ length ps = ap (λ (xs : List Piece). length xs) (append-nil ps) in
    let none : nat_lt (length ps) (length (ps ++ [])) ≡ false = grind (arith, long, nat_tests) in
    rw (get_last bs (block (length outer) kind.Paragraph m.start m.stop (length ps) m.last), none) refl

-- a thematic break or text
abbrev pub is_plain_start : LeafStart → Bool
is_plain_start start.Rule = true
is_plain_start start.Text = true
is_plain_start b = false

passes_as : (b : LeafStart) (text : List ℕ) (cells : List Cell) (l : Line) (d : ℕ) (place : Cursor) (s : State) → is_plain_start b ≡ true → rule_or_text b text cells l (here d place) s ≡ started b text cells l (tail_of cells) (here d place) s
unfolding started_in
passes_as start.Rule text cells l d place s e = refl
passes_as start.Text text cells l d place s e = refl
passes_as start.Blank text cells l d place s e = absurd (true≢false (sym e))
passes_as (start.Indented c) text cells l d place s e = absurd (true≢false (sym e))
passes_as (start.Heading h) text cells l d place s e = absurd (true≢false (sym e))
passes_as (start.Fence f) text cells l d place s e = absurd (true≢false (sym e))
passes_as (start.Html x) text cells l d place s e = absurd (true≢false (sym e))
passes_as (start.Underline level) text cells l d place s e = absurd (true≢false (sym e))
passes_as (start.Metadata x) text cells l d place s e = absurd (true≢false (sym e))
passes_as (start.Task done) text cells l d place s e = absurd (true≢false (sym e))
passes_as (start.QuoteKind x) text cells l d place s e = absurd (true≢false (sym e))

pub underline_passes : (text : List ℕ) (outer : List ℕ) (x : Open outer) (cells : List Cell) (l : Line) (place : Cursor) (level : HeadingLevel) (bs : List Block) (ps qs : List Piece) (m : Draft) (ds : List DefinitionView) (b : LeafStart) → definitions_from text qs [] ≡ (ds, length qs) → length ps + length qs < 2 ^ 64
    → rule_at cells (tail_of cells) place.ink ≡ b → is_plain_start b ≡ true
    → started (start.Underline level) text cells l (tail_of cells) (here (length outer) place) (open_page x bs ps qs m) ≡ after_these ds (started b text cells l (tail_of cells) (here (length outer) place) (open_page x bs (ps ++ qs) [] m))
unfolding started_in underline_taken_in metadata_in metadata_or
underline_passes text outer x cells l place level bs ps qs m ds b h fits rule plain =
    ap (λ t. underlined_if core_known (has_text t) (rule_at cells (tail_of cells) place.ink) text cells l at level t) (settled_cut text outer x bs ps qs m ds (length qs) h fits ∙ ap (after_these ds) (cut_spent outer x bs ps qs m))
    ∙ ap (λ k. underlined_if core_known k (rule_at cells (tail_of cells) place.ink) text cells l at level (after_these ds page)) (has_none outer x ds bs (ps ++ qs) m)
    ∙ rule_or_text_after text cells l (tail_of cells) at ds page
    ∙ ap (λ k. after_these ds (rule_or_text k text cells l at page)) rule
    ∙ ap (after_these ds) (passes_as b text cells l (length outer) place page plain)
  where
    at : LineStart
    at = here (length outer) place

    page : State
    page = open_page x bs (ps ++ qs) [] m

-- what a line begins where no paragraph is open says whether it is a rule
pub rule_seen : (cells : List Cell) (rest : List ℕ) (tail : Tail) (cursor : Cursor) (b : LeafStart) → leaf_at cells rest tail cursor false false ≡ b → is_plain_start b ≡ true → rule_at cells tail cursor.ink ≡ b
unfolding leaf_at mark_at underline_in
rule_seen cells rest tail cursor b e plain = by (is_blank_at cells cursor) (nat_lt (indent_of cursor) 4) (heading_at cells cursor.ink) (fence_at cells cursor) (html_at rest false) e
  where
    rule : LeafStart
    rule = rule_at cells tail cursor.ink

    never : (x : LeafStart) → is_plain_start x ≡ false → x ≡ b → rule ≡ b
    never x n h = absurd (true≢false (sym plain ∙ ap is_plain_start (sym h) ∙ n))

    by : (a c : Bool) (h : Option Heading) (f : Option Fence) (k : Option HtmlKind)
        → (if a then start.Blank else (if c then unwrap_or (option_map (λ x. start.Heading x) h) (unwrap_or (option_map (λ x. start.Fence x) f) (unwrap_or (option_map (λ x. start.Html x) k) rule)) else start.Indented (plus cursor.column 4))) ≡ b → rule ≡ b
    by true c h f k g = never start.Blank refl g
    by false false h f k g = never (start.Indented (plus cursor.column 4)) refl g
    by false true (Some x) f k g = never (start.Heading x) refl g
    by false true None (Some x) k g = never (start.Fence x) refl g
    by false true None None (Some x) g = never (start.Html x) refl g
    by false true None None None g = g

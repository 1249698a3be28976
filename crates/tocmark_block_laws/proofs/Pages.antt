-- A page on which quotes may be open, and what a line makes of it.
use Rattle.std.proofs.Common.{◌≡◌, inl, inr, ℕ, zero, suc, ◌+◌, ◌-◌, ◌^◌, ◌<◌, ◌≤◌, Bool, true, false, ◌&&◌, nat_lt, nat_le, List, [], ◌∷◌, ◌++◌, length, take, refl, ap, sym, subst, ◌∙◌, arith, append-nil, length-drop, true≢false, if◌then◌else◌, Option, Some, None}
use Rattle.std.proofs.Math.Seq.{take-length}
use Rattle.std.specs.Prelude.{slice_set}
use Rattle.std.specs.Option.{option_map_or}
use Rattle.std.proofs.lemmas.Bool.Decides.{nat_tests}
use Rattle.tocmark_event.specs.declared.event.HeadingLevel.{HeadingLevel}
use Rattle.tocmark_read_scan.specs.Basic.{plus, bytes_between}
use Rattle.tocmark_read_scan.specs.Repeat.{going, repeated}
use Rattle.tocmark_read_scan.specs.declared.syntax.TheConstants.{CORE}
use Rattle.tocmark_read_scan.proofs.PlainContent.{take_front}
use Rattle.tocmark_read_scan.proofs.Repeats.{repeated_stop, repeated_zero}
use Rattle.tocmark_read_lines.specs.Cells.{cells_of, cell_place, first_cursor}
use Rattle.tocmark_read_lines.specs.Containers.{after_quote, container_in, matched_from, raised_at}
use Rattle.tocmark_read_lines.specs.Marks.{tail_of}
use Rattle.tocmark_read_lines.specs.declared.beginnings.Heading.{Heading}
use Rattle.tocmark_read_lines.specs.declared.cell.Cell.{Cell}
use Rattle.tocmark_read_lines.specs.declared.cell.Cursor.{Cursor}
use Rattle.tocmark_read_lines.specs.declared.container.Container.{Container}
use Rattle.tocmark_read_lines.specs.declared.container.Container.TheVariants as container
use Rattle.tocmark_read_lines.specs.declared.container.ContainerStart.TheVariants as begins
use Rattle.tocmark_read_lines.specs.declared.container.Opened.{Opened}
use Rattle.tocmark_read_lines.proofs.Columns.{length_kept}
use Rattle.tocmark_read_lines.specs.declared.line.Line.{Line}
use Rattle.tocmark_read_page.specs.Definitions.{DefinitionView}
use Rattle.tocmark_read_page.specs.Leaves.{is_paragraph}
use Rattle.tocmark_read_page.specs.Pages.{State, ended, is_quote, is_list, quote_left, raised_last, opened_with, quote_entered, some_place, with_place, leaf_opened, leaf_closed, closed_to, times, list_left, begun, loosened, had_marked, is_apart, leaf_finished, finished, piece_taken, one_closed}
use Rattle.tocmark_read_page.specs.Pieces.{piece_of, code_piece, keeps_line, text_piece, heading_piece, whole_place}
use Rattle.tocmark_read_page.specs.declared.line_start.LineStart.{LineStart}
use Rattle.tocmark_read_page.specs.declared.page.Block.{Block}
use Rattle.tocmark_read_page.specs.declared.page.BlockKind.{BlockKind}
use Rattle.tocmark_read_page.specs.declared.page.BlockKind.TheVariants as kind
use Rattle.tocmark_read_page.specs.declared.page.HeaderLine.TheVariants.{Never}
use Rattle.tocmark_read_page.specs.declared.piece.Piece.{Piece}
use Rattle.tocmark_read_page.specs.declared.leaf.Leaf.{Leaf}
use Rattle.tocmark_read_page.specs.declared.leaf.Leaf.TheVariants as leaf
use Rattle.tocmark_read_constructs.specs.Headings.{heading_put, heading_started_in}
use Rattle.tocmark_read_constructs.specs.Metadata.{metadata_in}
use Rattle.tocmark_read_constructs.specs.Quotes.{quote_kind_in, quote_opened, tag_in}
use Rattle.tocmark_read_constructs.specs.Tasks.{task_in}
use Rattle.tocmark_read_blocks.specs.Blocks.{leaf_ended, turn_taken_in, core_known, started_in, leaf_started_in, cells_taken_in, line_taken_in, leaf_started, started_at, passed_in, turn_in, turn_of, touched, cells_taken, line_taken, started}
use Rattle.tocmark_read_blocks.specs.Containers.{goes_directly, begun_at, container_once_in, container_once}
use Rattle.tocmark_read_blocks.specs.Leaves.{interrupting, leaf_turn, metadata_or, task_or, quote_kind_or, tag_or}
use Rattle.tocmark_read_blocks.specs.Paragraphs.{in_paragraph, text_started, text_taken, rule_started}
use Rattle.tocmark_read_blocks.specs.Codes.{info_of, html_ended, code_taken, indented_started, fence_started, html_started}
use Rattle.tocmark_read_blocks.specs.declared.leaf.LeafStart.{LeafStart}
use Rattle.tocmark_read_blocks.specs.declared.leaf.LeafStart.TheVariants as start
use Rattle.tocmark_read_blocks.specs.declared.leaf.Turn.{Turn}
use Rattle.tocmark_read_blocks.specs.declared.leaf.Turn.TheVariants as turn
use Rattle.tocmark_read_lines.specs.declared.beginnings.Fence.{Fence}
use Rattle.tocmark_read_lines.specs.declared.html.HtmlKind.{HtmlKind}
use Rattle.tocmark_read_lines.specs.declared.html.HtmlKind.TheVariants as html
use Rattle.tocmark_commonmark.specs.Beginnings.{Beginning, BlankLine, CodeLine, QuoteLine, HeadingLine, FenceLine, HtmlLine, RuleLine, ItemLine, TextLine, LazyLine}
use Rattle.tocmark_block_laws.proofs.Apart.{after_these, one_closed_after, closed_after}
use Rattle.tocmark_block_laws.proofs.Marks.{heading_later}
use Rattle.tocmark_block_laws.proofs.Codes.{CodeFacts}
use Rattle.tocmark_block_laws.proofs.Open.{last_place, get_last, set_middle, Ended, ended_as, upto, shape, quotes_at, Open, open_count, raised_shape, touch, raise, with_block, new_quote, entered, Innermost, innermost_open, no_list, open_matched, open_stopped}
use Rattle.tocmark_block_laws.proofs.Starts.{html_start, start_as, is_quote_kind}
use Rattle.tocmark_block_laws.proofs.Seen.{Seen, FactsOf, facts, Next, next_of}

-- the front of a line in so many quotes
abbrev pub here : ℕ → Cursor → LineStart
here d place = record { cursor = place; depth = d }

-- a block in so many quotes
abbrev pub block : ℕ → BlockKind → ℕ → ℕ → ℕ → ℕ → Block
block d k start end first last = record { depth = d; kind = k; start = start; end = end; first = first; last = last; loose = false; list = None; task = None }

-- a page on which nothing but quotes is open
abbrev pub closed : {outer : List ℕ} → Open outer → List Block → List Piece → ℕ → ℕ → ℕ → State
closed x bs ps end number kept = record {
  blocks = bs;
  pieces = ps;
  definitions = [];
  opened = x.opened;
  quotes = x.quotes;
  leaf = leaf.Nothing;
  end = end;
  line = number;
  kept = kept;
  header = Never;
  tried = 0;
  left = None;
  filled = 0;
}

-- a page with an open leaf, which has a block of this kind
abbrev pub leaf_page : {outer : List ℕ} → Open outer → Leaf → BlockKind → List Block → ℕ → List Piece → ℕ → ℕ → ℕ → ℕ → State
leaf_page {outer = outer} x lf k bs first ps kept start end number = record {
  blocks = bs ++ block (length outer) k start start first first ∷ [];
  pieces = ps;
  definitions = [];
  opened = x.opened;
  quotes = x.quotes;
  leaf = lf;
  end = end;
  line = number;
  kept = kept;
  header = Never;
  tried = 0;
  left = None;
  filled = 0;
}

-- a page in which these quotes are open
abbrev pub with_open : {outer : List ℕ} → State → Open outer → State
with_open s x = record s { opened = x.opened; quotes = x.quotes }

-- lists

pub set_last : {A : Type 0} (xs : List A) (x y : A) → slice_set (xs ++ x ∷ []) (length (xs ++ x ∷ []) - 1) y ≡ xs ++ y ∷ []
set_last xs x y = ap (λ n. slice_set (xs ++ x ∷ []) n y) (last_place xs x) ∙ set_middle xs x y []

-- the open leaf ends
pub page_finished : (outer : List ℕ) (x : Open outer) (lf : Leaf) (k : BlockKind) (bs : List Block) (first : ℕ) (ps qs : List Piece) (kept start end number : ℕ) → take kept ps ≡ qs
    → leaf_finished (leaf_page x lf k bs first ps kept start end number) ≡ closed (raise end number x) (bs ++ block (length outer) k start end first (length qs) ∷ []) qs end number kept
unfolding leaf_finished finished
page_finished outer x lf k bs first ps qs kept start end number h =
    let d : ℕ = length outer in
    rw (h, get_last bs (block d k start start first first), set_last bs (block d k start start first first) (block d k start end first (length qs))) refl

-- a block begins

stays_open : (outer : List ℕ) (x : Open outer) (bs : List Block) (ps : List Piece) (end number kept : ℕ) → list_left (closed x bs ps end number kept) ≡ closed x bs ps end number kept
unfolding list_left is_list
stays_open outer x bs ps end number kept = by (innermost_open outer x)
  where
    by : Innermost x.opened → list_left (closed x bs ps end number kept) ≡ closed x bs ps end number kept
    by (inl e) = rw e refl
    by (inr (o, e, q)) = rw (e, q) refl

loose_none : (apart : Bool) (bs : List Block) → loosened None apart bs ≡ bs
unfolding loosened
loose_none true bs = refl
loose_none false bs = refl

block_begins : (outer : List ℕ) (x : Open outer) (k : BlockKind) (start at : ℕ) (bs : List Block) (ps : List Piece) (end number kept : ℕ)
    → begun k start at (closed x bs ps end number kept) ≡ closed (with_block x) (bs ++ block (length outer) k start start (length ps) (length ps) ∷ []) ps end number kept
unfolding begun
block_begins outer x k start at bs ps end number kept = rw (no_list outer x, loose_none (is_apart x.opened at) bs, open_count outer (with_block x)) refl

pub leaf_opens : (outer : List ℕ) (x : Open outer) (lf : Leaf) (k : BlockKind) (start : ℕ) (l : Line) (bs : List Block) (ps : List Piece) (end number kept : ℕ)
    → leaf_opened lf k start l (closed x bs ps end number kept) ≡ leaf_page (with_block x) lf k bs (length ps) ps (length ps) start l.end l.number
unfolding leaf_opened
leaf_opens outer x lf k start l bs ps end number kept =
    ap (λ s. with_leaf (begun k start l.number s)) (stays_open outer x bs ps end number kept)
    ∙ ap with_leaf (block_begins outer x k start l.number bs ps end number kept)
  where
    with_leaf : State → State
    with_leaf t = record t { leaf = lf; end = l.end; line = l.number; kept = length t.pieces }

-- nothing but quotes is open

pub nothing_ends : (text : List ℕ) (outer : List ℕ) (x : Open outer) (bs : List Block) (ps : List Piece) (end number kept : ℕ) → closed_to text (length outer) (closed x bs ps end number kept) ≡ closed x bs ps end number kept
unfolding closed_to leaf_closed times
nothing_ends text outer x bs ps end number kept =
    ap (λ n. times one_closed n (closed x bs ps end number kept)) (let q : length x.opened - length outer ≡ 0 = omega (arith, open_count outer x) in q)

-- the leaf ends, and no quote
pub closes_leaf : (text : List ℕ) (outer : List ℕ) (x : Open outer) (bs : List Block) (ps : List Piece) (end number kept : ℕ) (ds : List DefinitionView) (s : State) → leaf_closed text s ≡ after_these ds (closed x bs ps end number kept)
    → closed_to text (length outer) s ≡ after_these ds (closed x bs ps end number kept)
unfolding closed_to leaf_closed
closes_leaf text outer x bs ps end number kept ds s h =
    ap (λ t. times one_closed (length t.opened - length outer) t) h
    ∙ closed_after text (length outer) ds (closed x bs ps end number kept)
    ∙ ap (after_these ds) (nothing_ends text outer x bs ps end number kept)

-- the innermost quote ends
pub record Left (outer : List ℕ) (b : ℕ) (x : Open (b ∷ outer)) : Type 0 where
  pub now : Open outer
  pub end : ℕ
  pub is : (bs : List Block) (ps : List Piece) (e n kept : ℕ) → one_closed (closed x bs ps e n kept) ≡ closed now (ended bs b end) ps e n kept

pub quote_leaves : (outer : List ℕ) (b : ℕ) (x : Open (b ∷ outer)) → Left outer b x
unfolding one_closed is_quote
quote_leaves outer b x =
    record {
      now = record {
        opened = raised_at g.init (length g.init - 1) g.last.end g.last.line;
        quotes = take (length x.quotes - 1) x.quotes;
        are = raised_shape g.init (length g.init - 1) g.last.end g.last.line ∙ g.before;
        places = fewer;
      };
      end = g.last.end;
      is = λ bs ps e n kept.
          ap (λ os. one_closed (record (closed x bs ps e n kept) { opened = os })) g.is
          ∙ ap (λ (o : Option Opened). option_map_or (leaves (record (closed x bs ps e n kept) { opened = g.init ++ g.last ∷ [] })) o (record (closed x bs ps e n kept) { opened = g.init ++ g.last ∷ [] })) (get_last g.init g.last)
          ∙ ap (λ os. quote_left g.last.container (raised_last g.last.end g.last.line (record (closed x bs ps e n kept) { opened = os; blocks = ended bs g.last.block g.last.end }))) (ap (λ k. take k (g.init ++ g.last ∷ [])) (last_place g.init g.last) ∙ take_front g.init (g.last ∷ []))
          ∙ ap (λ (z : Container × ℕ). quote_left (z.0) (raised_last g.last.end g.last.line (record (closed x bs ps e n kept) { opened = g.init; blocks = ended bs (z.1) g.last.end }))) g.same;
    }
  where
    g : Ended shape x.opened (quotes_at outer) (container.Quote, b)
    g = ended_as shape x.opened (quotes_at outer) (container.Quote, b) x.are

    leaves : State → Opened → State
    leaves s o = quote_left o.container (raised_last o.end o.line (record s { opened = take (length s.opened - 1) s.opened; blocks = ended s.blocks o.block o.end }))

    fewer : take (length x.quotes - 1) x.quotes ≡ upto (length outer)
    fewer = ap (λ qs. take (length qs - 1) qs) x.places ∙ ap (λ k. take k (upto (length outer) ++ length outer ∷ [])) (last_place (upto (length outer)) (length outer)) ∙ take_front (upto (length outer)) (length outer ∷ [])

pub times_last : {S : Type 0} (step : S → S) (n : ℕ) (s : S) → times step (suc n) s ≡ step (times step n s)
unfolding times
times_last step zero s = refl
times_last step (suc n) s = times_last step n (step s)

-- what ends from a depth on ends from the one before it on, and then the innermost quote
pub closes_quote : (text : List ℕ) (outer : List ℕ) (b : ℕ) (x : Open (b ∷ outer)) (bs : List Block) (ps : List Piece) (end number kept : ℕ) (ds : List DefinitionView) (s : State)
    → closed_to text (suc (length outer)) s ≡ after_these ds (closed x bs ps end number kept) → suc (length outer) ≤ length (leaf_closed text s).opened
    → closed_to text (length outer) s ≡ after_these ds (closed (quote_leaves outer b x).now (ended bs b (quote_leaves outer b x).end) ps end number kept)
unfolding closed_to
closes_quote text outer b x bs ps end number kept ds s h deep =
    ap (λ n. times one_closed n t) (let q : length t.opened - length outer ≡ suc (length t.opened - suc (length outer)) = omega (arith, deep) in q)
    ∙ times_last one_closed (length t.opened - suc (length outer)) t
    ∙ ap one_closed h
    ∙ one_closed_after ds (closed x bs ps end number kept)
    ∙ ap (after_these ds) ((quote_leaves outer b x).is bs ps end number kept)
  where
    t : State
    t = leaf_closed text s

-- what a line begins comes into the page

-- a line from a place on
abbrev pub begin : List ℕ → List Cell → Line → ℕ → Cursor → State → State
begin text cells l d place s = leaf_started text cells l (here d place) s

-- the page with a line, if the line goes on in so many of its containers
pub line_comes : (text : List ℕ) (cells : List Cell) (l : Line) (d : ℕ) (place : Cursor) (s : State) → cells_of [] l.start (bytes_between text l.start l.end) ≡ cells → matched_from cells s.opened s.quotes 0 (first_cursor cells) s.opened ≡ (d, place)
    → line_taken text s l ≡ turn_taken_in core_known (turn_of text cells l (here d place) (touched l d s)) text cells l (here d place) (touched l d s)
unfolding line_taken_in cells_taken_in turn_in
line_comes text cells l d place s read found =
    ap (λ c. cells_taken text c l s) read
    ∙ ap (λ (p : ℕ × Cursor). turn_taken_in core_known (turn_of text cells l (here (p.0) (p.1)) (touched l (p.0) s)) text cells l (here (p.0) (p.1)) (touched l (p.0) s)) found

depth_fits : (text : List ℕ) (d : ℕ) (v : Seen text d) → FactsOf text d v → d + 1 < 2 ^ 64
depth_fits text d v f =
    let c : CodeFacts text v.line v.columns v.place v.bytes = f.code in
    let one : v.place.ink + 3 < 2 ^ 64 = c.small in
    let two : v.place.column ≤ v.place.ink = c.order in
    let three : d ≤ v.place.column = v.deep in
    omega (arith, one, two, three)

-- a line that goes on in all quotes: the open leaf has its turn
pub line_turns : (text : List ℕ) (outer : List ℕ) (v : Seen text (length outer)) → FactsOf text (length outer) v → (x : Open outer) (s : State) (t : Turn) → leaf_turn text v.columns v.line v.place s.leaf ≡ t
    → line_taken text (with_open s x) v.line ≡ turn_taken_in core_known t text v.columns v.line (here (length outer) v.place) (with_open s (touch v.line (length outer) x))
unfolding turn_of touched
line_turns text outer v f x s t h =
    line_comes text v.columns v.line (length outer) v.place (with_open s x) f.read (open_matched outer x v.columns (first_cursor v.columns) v.place v.reaches (depth_fits text (length outer) v f))
    ∙ ap (λ k. with_turn (if k then leaf_turn text v.columns v.line v.place s.leaf else turn.Passes)) (let same : length (touch v.line (length outer) x).opened ≡ length outer = open_count outer (touch v.line (length outer) x) in let q : nat_le (length (touch v.line (length outer) x).opened) (length outer) ≡ true = grind (arith, same, nat_tests) in q)
    ∙ ap with_turn h
  where
    with_turn : Turn → State
    with_turn u = turn_taken_in core_known u text v.columns v.line (here (length outer) v.place) (with_open s (touch v.line (length outer) x))

pub line_passes : (text : List ℕ) (outer : List ℕ) (v : Seen text (length outer)) → FactsOf text (length outer) v → (x : Open outer) (s : State) → leaf_turn text v.columns v.line v.place s.leaf ≡ turn.Passes
    → line_taken text (with_open s x) v.line ≡ begin text v.columns v.line (length outer) v.place (with_open s (touch v.line (length outer) x))
unfolding passed_in
line_passes text outer v f x s h = line_turns text outer v f x s turn.Passes h

-- a line that goes on in the first quotes alone: it passes the open leaf
pub line_stops : (text : List ℕ) (d : ℕ) (v : Seen text d) (f : FactsOf text d v) → is_quote_kind f.kind ≡ false → (outer : List ℕ) (x : Open outer) (s : State) → d < length outer
    → line_taken text (with_open s x) v.line ≡ begin text v.columns v.line d v.place (with_open s (touch v.line d x))
unfolding turn_of touched passed_in
line_stops text d v f no_quote outer x s low =
    line_comes text v.columns v.line d v.place (with_open s x) f.read (open_stopped outer x v.columns d (first_cursor v.columns) v.place v.reaches (f.marks ∙ no_quote) low (depth_fits text d v f))
    ∙ ap (λ k. turn_taken_in core_known (if k then leaf_turn text v.columns v.line v.place s.leaf else turn.Passes) text v.columns v.line (here d v.place) (with_open s (touch v.line d x))) (let same : length (touch v.line d x).opened ≡ length outer = open_count outer (touch v.line d x) in let q : nat_le (length (touch v.line d x).opened) d ≡ false = grind (arith, same, low, nat_tests) in q)

-- where no quote begins, a leaf does

pub opens_none : (text : List ℕ) (cells : List Cell) (l : Line) (e : ℕ) (place : Cursor) (n : ℕ) (s : State) → ((p : Bool) → container_in CORE cells (tail_of cells) place p ≡ None) → repeated (container_once text cells l (tail_of cells)) n (here e place) s ≡ (s, here e place)
unfolding container_once_in
opens_none text cells l e place zero s none = repeated_zero (container_once text cells l (tail_of cells)) zero (here e place) s refl
opens_none text cells l e place (suc m) s none = repeated_stop (container_once text cells l (tail_of cells)) (suc m) (here e place) s s (omega arith) (sym (ap (begun_at text cells l (here e place) s) (none (goes_directly e s))))

-- a line that begins no quote begins this
pub begin_starts : (text : List ℕ) (d : ℕ) (v : Seen text d) (f : FactsOf text d v) → is_quote_kind f.kind ≡ false → (s : State) (p w : Bool) → is_paragraph s.leaf ≡ p → goes_directly d s ≡ w
    → begin text v.columns v.line d v.place s ≡ started (start_as v.place p w f.level f.kind) text v.columns v.line (tail_of v.columns) (here d v.place) s
unfolding leaf_started_in metadata_in metadata_or task_in task_or quote_kind_in quote_kind_or tag_in tag_or
begin_starts text d v f no_quote s p w e g =
    ap (started_at text v.columns v.line (tail_of v.columns)) (opens_none text v.columns v.line d v.place (length v.columns) s (f.opens no_quote))
    ∙ ap (λ k. started k text v.columns v.line (tail_of v.columns) (here d v.place) s) (f.starts no_quote (is_paragraph s.leaf) (goes_directly d s))
    ∙ ap (λ k. started (start_as v.place k (goes_directly d s) f.level f.kind) text v.columns v.line (tail_of v.columns) (here d v.place) s) e
    ∙ ap (λ k. started (start_as v.place p k f.level f.kind) text v.columns v.line (tail_of v.columns) (here d v.place) s) g

-- where no paragraph is open
pub plain_begins : (text : List ℕ) (d : ℕ) (v : Seen text d) (f : FactsOf text d v) → is_quote_kind f.kind ≡ false → (s : State) → is_paragraph s.leaf ≡ false
    → begin text v.columns v.line d v.place s ≡ started (start_as v.place false false f.level f.kind) text v.columns v.line (tail_of v.columns) (here d v.place) s
unfolding goes_directly
plain_begins text d v f no_quote s e = begin_starts text d v f no_quote s false false e (ap (λ k. k && nat_le (length s.opened) d) e)

-- directly in the open paragraph
pub open_begins : (text : List ℕ) (outer : List ℕ) (v : Seen text (length outer)) (f : FactsOf text (length outer) v) → is_quote_kind f.kind ≡ false → (x : Open outer) (s : State) → is_paragraph s.leaf ≡ true
    → begin text v.columns v.line (length outer) v.place (with_open s x) ≡ started (start_as v.place true true f.level f.kind) text v.columns v.line (tail_of v.columns) (here (length outer) v.place) (with_open s x)
unfolding goes_directly
open_begins text outer v f no_quote x s e =
    begin_starts text (length outer) v f no_quote (with_open s x) true true e
    (ap (λ k. k && nat_le (length x.opened) (length outer)) e ∙ (let same : length x.opened ≡ length outer = open_count outer x in let q : nat_le (length x.opened) (length outer) ≡ true = grind (arith, same, nat_tests) in q))

-- below quotes in which a paragraph is open
pub below_begins : (text : List ℕ) (d : ℕ) (v : Seen text d) (f : FactsOf text d v) → is_quote_kind f.kind ≡ false → (outer : List ℕ) (x : Open outer) (s : State) → d < length outer → is_paragraph s.leaf ≡ true
    → begin text v.columns v.line d v.place (with_open s x) ≡ started (start_as v.place true false f.level f.kind) text v.columns v.line (tail_of v.columns) (here d v.place) (with_open s x)
unfolding goes_directly
below_begins text d v f no_quote outer x s low e =
    begin_starts text d v f no_quote (with_open s x) true false e
    (ap (λ k. k && nat_le (length x.opened) d) e ∙ (let same : length x.opened ≡ length outer = open_count outer x in let q : nat_le (length x.opened) d ≡ false = grind (arith, same, low, nat_tests) in q))

pub blank_passes : (text : List ℕ) (outer : List ℕ) (x : Open outer) (cells : List Cell) (l : Line) (place : Cursor) (bs : List Block) (ps : List Piece) (end number kept : ℕ)
    → started start.Blank text cells l (tail_of cells) (here (length outer) place) (closed x bs ps end number kept) ≡ closed x bs ps end number kept
unfolding started_in
blank_passes text outer x cells l place bs ps end number kept = nothing_ends text outer x bs ps end number kept

-- a leaf begins where nothing but quotes is open
pub opens_here : (text : List ℕ) (outer : List ℕ) (x : Open outer) (lf : Leaf) (k : BlockKind) (start : ℕ) (l : Line) (bs : List Block) (ps : List Piece) (end number kept : ℕ)
    → leaf_opened lf k start l (closed_to text (length outer) (closed x bs ps end number kept)) ≡ leaf_page (with_block x) lf k bs (length ps) ps (length ps) start l.end l.number
opens_here text outer x lf k start l bs ps end number kept = ap (leaf_opened lf k start l) (nothing_ends text outer x bs ps end number kept) ∙ leaf_opens outer x lf k start l bs ps end number kept

-- a thematic break
abbrev pub rule_block : ℕ → List Piece → ℕ → ℕ → Block
rule_block d ps at end = block d kind.Rule at end (length ps) (length ps)

-- the quotes after a line in which a block began and ended
abbrev pub past : {outer : List ℕ} → Line → Open outer → Open outer
past l x = raise l.end l.number (with_block x)

pub rule_comes : (text : List ℕ) (outer : List ℕ) (x : Open outer) (cells : List Cell) (l : Line) (place : Cursor) (bs : List Block) (ps : List Piece) (end number kept : ℕ)
    → started start.Rule text cells l (tail_of cells) (here (length outer) place) (closed x bs ps end number kept) ≡ closed (past l x) (bs ++ rule_block (length outer) ps (cell_place cells place.ink l.end) l.end ∷ []) ps l.end l.number (length ps)
unfolding started_in rule_started
rule_comes text outer x cells l place bs ps end number kept =
    ap leaf_finished (opens_here text outer x leaf.Nothing kind.Rule (cell_place cells place.ink l.end) l bs ps end number kept)
    ∙ page_finished outer (with_block x) leaf.Nothing kind.Rule bs (length ps) ps ps (length ps) (cell_place cells place.ink l.end) l.end l.number (take-length ps)

-- the line of a paragraph
abbrev pub piece_in : List Cell → Cursor → Line → Piece
piece_in cells place l = record { spaces = 0; from = whole_place cells place.column l; start = cell_place cells place.ink l.end; end = l.end; next = l.next }

pub piece_taken_whole : (p : Piece) (l : Line) (s : State) → nat_lt p.start p.next ≡ true → p.spaces ≡ 0 → piece_taken p l true s ≡ record s { pieces = s.pieces ++ p ∷ []; kept = length (s.pieces ++ p ∷ []); end = l.end; line = l.number }
unfolding piece_taken
piece_taken_whole p l s h k = rw (k, h) refl

-- the block of a heading that has ended
abbrev pub ended_block : ℕ → BlockKind → List Piece → List Piece → ℕ → ℕ → Block
ended_block d k ps qs start end = block d k start end (length ps) (length (ps ++ qs))

-- a state whose leaf is closed as this page ends as it does
pub shuts_as : (text : List ℕ) (outer : List ℕ) (x : Open outer) (bs : List Block) (ps : List Piece) (end number kept : ℕ) (s : State) → leaf_closed text s ≡ closed x bs ps end number kept
    → closed_to text (length outer) s ≡ closed_to text (length outer) (closed x bs ps end number kept)
shuts_as text outer x bs ps end number kept s h = closes_leaf text outer x bs ps end number kept [] s h ∙ sym (nothing_ends text outer x bs ps end number kept)

-- a leaf before which all else ends
abbrev pub closes_first : LeafStart → Bool
closes_first start.Blank = true
closes_first (start.Indented c) = true
closes_first (start.Heading x) = true
closes_first (start.Fence x) = true
closes_first (start.Html k) = true
closes_first start.Rule = true
closes_first b = false

-- it begins on pages that end as the same one
pub same_start : (text : List ℕ) (cells : List Cell) (l : Line) (d : ℕ) (place : Cursor) (b : LeafStart) (s t : State) → closes_first b ≡ true → closed_to text d s ≡ closed_to text d t
    → started b text cells l (tail_of cells) (here d place) s ≡ started b text cells l (tail_of cells) (here d place) t
unfolding started_in indented_started heading_started_in heading_put fence_started html_started rule_started
same_start text cells l d place start.Blank s t e h = h
same_start text cells l d place (start.Indented c) s t e h = ap (λ u. code_taken text cells c l (leaf_opened leaf.Indented kind.Indented (cell_place cells c l.end) l u)) h
same_start text cells l d place (start.Heading x) s t e h = ap (λ u. leaf_finished (piece_taken (heading_piece cells x l) l true (leaf_opened leaf.Nothing (kind.Heading x.level None) (cell_place cells place.ink l.end) l u))) h
same_start text cells l d place (start.Fence x) s t e h = ap (λ u. leaf_opened (leaf.Fenced x) (info_of cells place x l) (cell_place cells place.ink l.end) l u) h
same_start text cells l d place (start.Html k) s t e h = ap (λ u. code_taken text cells place.column l (leaf_opened (leaf.Html k) kind.Html (cell_place cells place.column l.end) l u)) h
same_start text cells l d place start.Rule s t e h = ap (λ u. leaf_finished (leaf_opened leaf.Nothing kind.Rule (cell_place cells place.ink l.end) l u)) h
same_start text cells l d place start.Text s t e h = absurd (true≢false (sym e))
same_start text cells l d place (start.Underline x) s t e h = absurd (true≢false (sym e))
same_start text cells l d place (start.Metadata x) s t e h = absurd (true≢false (sym e))
same_start text cells l d place (start.Task x) s t e h = absurd (true≢false (sym e))
same_start text cells l d place (start.QuoteKind x) s t e h = absurd (true≢false (sym e))

pub text_start : (text : List ℕ) (cells : List Cell) (l : Line) (d : ℕ) (place : Cursor) (s t : State) → is_paragraph s.leaf ≡ false → is_paragraph t.leaf ≡ false → closed_to text d s ≡ closed_to text d t
    → started start.Text text cells l (tail_of cells) (here d place) s ≡ started start.Text text cells l (tail_of cells) (here d place) t
unfolding started_in text_taken
text_start text cells l d place s t hs ht h = ap (λ u. piece_taken words' l true (text_started words'.start u)) same
  where
    words' : Piece
    words' = text_piece cells place l

    begin : State → State
    begin u = leaf_opened leaf.Paragraph kind.Paragraph words'.start l (closed_to text d u)

    same : in_paragraph text cells l (here d place) s ≡ in_paragraph text cells l (here d place) t
    same = ap (λ k. if k then s else begin s) hs ∙ ap (leaf_opened leaf.Paragraph kind.Paragraph words'.start l) h ∙ sym (ap (λ k. if k then t else begin t) ht)

pub interrupts_first : (k : HtmlKind) → interrupting false k ≡ Some k
interrupts_first html.Raw = refl
interrupts_first html.Comment = refl
interrupts_first html.Instruction = refl
interrupts_first html.Declaration = refl
interrupts_first html.CharacterData = refl
interrupts_first html.Named = refl
interrupts_first html.Alone = refl

-- where no paragraph is open, each line begins the same on pages that end as the same one
pub passes_start : (text : List ℕ) (cells : List Cell) (l : Line) (d : ℕ) (place : Cursor) (u : Option HeadingLevel) (k : Beginning) (s t : State) → is_paragraph s.leaf ≡ false → is_paragraph t.leaf ≡ false → closed_to text d s ≡ closed_to text d t
    → started (start_as place false false u k) text cells l (tail_of cells) (here d place) s ≡ started (start_as place false false u k) text cells l (tail_of cells) (here d place) t
passes_start text cells l d place u BlankLine s t hs ht h = same_start text cells l d place start.Blank s t refl h
passes_start text cells l d place u CodeLine s t hs ht h = same_start text cells l d place (start.Indented (plus place.column 4)) s t refl h
passes_start text cells l d place u QuoteLine s t hs ht h = text_start text cells l d place s t hs ht h
passes_start text cells l d place u (HeadingLine x) s t hs ht h = same_start text cells l d place (start.Heading (heading_later place.ink x)) s t refl h
passes_start text cells l d place u (FenceLine x) s t hs ht h = same_start text cells l d place (start.Fence x) s t refl h
passes_start text cells l d place u (HtmlLine k) s t hs ht h =
    ap (λ o. started (html_start o) text cells l (tail_of cells) (here d place) s) (interrupts_first k)
    ∙ same_start text cells l d place (start.Html k) s t refl h
    ∙ sym (ap (λ o. started (html_start o) text cells l (tail_of cells) (here d place) t) (interrupts_first k))
passes_start text cells l d place u RuleLine s t hs ht h = same_start text cells l d place start.Rule s t refl h
passes_start text cells l d place u (ItemLine m) s t hs ht h = text_start text cells l d place s t hs ht h
passes_start text cells l d place u TextLine s t hs ht h = text_start text cells l d place s t hs ht h
passes_start text cells l d place u LazyLine s t hs ht h = text_start text cells l d place s t hs ht h

-- a quote begins

pub once_same : {C S : Type 0} (once : C → S → S × Option C) (n : ℕ) (c : C) (s t : S) → 0 < n → once c s ≡ once c t → repeated once n c s ≡ repeated once n c t
unfolding repeated
once_same once zero c s t low e = absurd (omega (arith, low))
once_same once (suc n) c s t low e = ap (going (λ d u. repeated once n d u) c) e

-- the quote that a line begins
once_quote : (text : List ℕ) (cells : List Cell) (l : Line) (e : ℕ) (place : Cursor) (s : State) → ((p : Bool) → container_in CORE cells (tail_of cells) place p ≡ Some begins.Quote) → container_once text cells l (tail_of cells) (here e place) s ≡ some_place (quote_opened text cells l (here e place) s)
unfolding container_once_in
once_quote text cells l e place s quote = ap (begun_at text cells l (here e place) s) (quote (goes_directly e s))

has_columns : (text : List ℕ) (d : ℕ) (v : Seen text d) (f : FactsOf text d v) → is_quote_kind f.kind ≡ true → 0 < length v.columns
has_columns text d v f e = let q : nat_le (length v.columns) v.place.column ≡ false = f.left e in grind (arith, q, nat_tests)

-- it begins on pages that end as the same one
pub quote_start : (text : List ℕ) (d : ℕ) (v : Seen text d) (f : FactsOf text d v) → is_quote_kind f.kind ≡ true → (s t : State) → closed_to text d s ≡ closed_to text d t → begin text v.columns v.line d v.place s ≡ begin text v.columns v.line d v.place t
unfolding leaf_started_in quote_opened
quote_start text d v f e s t h =
    ap (started_at text v.columns v.line (tail_of v.columns)) (once_same (container_once text v.columns v.line (tail_of v.columns)) (length v.columns) (here d v.place) s t (has_columns text d v f e)
    (once_quote text v.columns v.line d v.place s (f.quoted e)
    ∙ ap (λ u. some_place (with_place (after_quote v.columns v.place) (opened_with container.Quote (kind.Quote None) (cell_place v.columns v.place.ink v.line.end) v.line (list_left u)))) h
    ∙ sym (once_quote text v.columns v.line d v.place t (f.quoted e))))

-- a line begins on a page where no paragraph is open as on one that ends as it does
pub passes_begin : (text : List ℕ) (d : ℕ) (v : Seen text d) (f : FactsOf text d v) (s t : State) → is_paragraph s.leaf ≡ false → is_paragraph t.leaf ≡ false → closed_to text d s ≡ closed_to text d t
    → begin text v.columns v.line d v.place s ≡ begin text v.columns v.line d v.place t
passes_begin text d v f s t hs ht h = by (is_quote_kind f.kind) refl
  where
    by : (k : Bool) → is_quote_kind f.kind ≡ k → begin text v.columns v.line d v.place s ≡ begin text v.columns v.line d v.place t
    by true e = quote_start text d v f e s t h
    by false e =
        plain_begins text d v f e s hs
        ∙ passes_start text v.columns v.line d v.place f.level f.kind s t hs ht h
        ∙ sym (plain_begins text d v f e t ht)

-- a fact on the columns of a line after a marker
pub same_line : (text : List ℕ) (d : ℕ) (v : Seen text d) (n : Next text d v) (P : List Cell → Line → Cursor → Type 0) → P n.seen.columns n.seen.line n.seen.place → P v.columns v.line (after_quote v.columns v.place)
same_line text d v n P h = subst (λ p. P v.columns v.line p) n.place (subst (λ l. P v.columns l n.seen.place) n.line (subst (λ cs. P cs n.seen.line n.seen.place) n.columns h))

-- the page with a quote that a line begins
abbrev quote_page : List ℕ → List Cell → Line → ℕ → Cursor → State → State
quote_page text cells l e place s = opened_with container.Quote (kind.Quote None) (cell_place cells place.ink l.end) l (list_left (closed_to text e s))

step_more : (text : List ℕ) (cells : List Cell) (l : Line) (e : ℕ) (place : Cursor) (m : ℕ) (s : State) → ((p : Bool) → container_in CORE cells (tail_of cells) place p ≡ Some begins.Quote)
    → repeated (container_once text cells l (tail_of cells)) (suc m) (here e place) s
    ≡ repeated (container_once text cells l (tail_of cells)) m (here (length (quote_page text cells l e place s).opened) (after_quote cells place)) (quote_page text cells l e place s)
unfolding repeated quote_opened
step_more text cells l e place m s quote = ap (going (λ d u. repeated (container_once text cells l (tail_of cells)) m d u) (here e place)) (once_quote text cells l e place s quote)

-- so many steps and so many are the same
abbrev SameSteps : List ℕ → ℕ → ℕ → ℕ → State → List Cell → Line → Cursor → Type 0
SameSteps text m n e s cells l place = repeated (container_once text cells l (tail_of cells)) m (here e place) s ≡ repeated (container_once text cells l (tail_of cells)) n (here e place) s

no_steps : (text : List ℕ) (m n d : ℕ) (v : Seen text d) (f : FactsOf text d v) (e : ℕ) (s : State) → is_quote_kind f.kind ≡ false → SameSteps text m n e s v.columns v.line v.place
no_steps text m n d v f e s q = opens_none text v.columns v.line e v.place m s (f.opens q) ∙ sym (opens_none text v.columns v.line e v.place n s (f.opens q))

-- a line that begins a quote has bytes
pub quote_kind_is : (k : Beginning) → is_quote_kind k ≡ true → k ≡ QuoteLine
quote_kind_is BlankLine e = absurd (true≢false (sym e))
quote_kind_is CodeLine e = absurd (true≢false (sym e))
quote_kind_is QuoteLine e = refl
quote_kind_is (HeadingLine h) e = absurd (true≢false (sym e))
quote_kind_is (FenceLine f) e = absurd (true≢false (sym e))
quote_kind_is (HtmlLine k) e = absurd (true≢false (sym e))
quote_kind_is RuleLine e = absurd (true≢false (sym e))
quote_kind_is (ItemLine m) e = absurd (true≢false (sym e))
quote_kind_is TextLine e = absurd (true≢false (sym e))
quote_kind_is LazyLine e = absurd (true≢false (sym e))

pub next_seen : (text : List ℕ) (d : ℕ) (v : Seen text d) (f : FactsOf text d v) → is_quote_kind f.kind ≡ true → Next text d v
next_seen text d v f e = next_of text d v (f.begins ∙ quote_kind_is f.kind e)

-- as many steps as bytes are enough for the quotes that a line begins
enough_steps : (text : List ℕ) (m n d : ℕ) (v : Seen text d) (e : ℕ) (s : State) → length v.bytes ≤ m → length v.bytes ≤ n → SameSteps text m n e s v.columns v.line v.place
enough_steps text zero n d v e s low high = by (is_quote_kind f.kind) refl
  where
    f : FactsOf text d v
    f = facts text d v

    by : (k : Bool) → is_quote_kind f.kind ≡ k → SameSteps text zero n e s v.columns v.line v.place
    by true q = absurd (let w : Next text d v = next_seen text d v f q in let r : length w.seen.bytes < length v.bytes = w.fewer in omega (arith, r, low))
    by false q = no_steps text zero n d v f e s q
enough_steps text (suc m) zero d v e s low high = by (is_quote_kind f.kind) refl
  where
    f : FactsOf text d v
    f = facts text d v

    by : (k : Bool) → is_quote_kind f.kind ≡ k → SameSteps text (suc m) zero e s v.columns v.line v.place
    by true q = absurd (let w : Next text d v = next_seen text d v f q in let r : length w.seen.bytes < length v.bytes = w.fewer in omega (arith, r, high))
    by false q = no_steps text (suc m) zero d v f e s q
enough_steps text (suc m) (suc n) d v e s low high = by (is_quote_kind f.kind) refl (λ w i t. enough_steps text m n (suc d) w i t)
  where
    f : FactsOf text d v
    f = facts text d v

    by : (k : Bool) → is_quote_kind f.kind ≡ k → ((w : Seen text (suc d)) (i : ℕ) (t : State) → length w.bytes ≤ m → length w.bytes ≤ n → SameSteps text m n i t w.columns w.line w.place)
        → SameSteps text (suc m) (suc n) e s v.columns v.line v.place
    by true q again =
        let w : Next text d v = next_seen text d v f q in
        let r : length w.seen.bytes < length v.bytes = w.fewer in
        let t : State = quote_page text v.columns v.line e v.place s in
        step_more text v.columns v.line e v.place m s (f.quoted q)
        ∙ same_line text d v w (λ cells l place. SameSteps text m n (length t.opened) t cells l place) (again w.seen (length t.opened) t (omega (arith, r, low)) (omega (arith, r, high)))
        ∙ sym (step_more text v.columns v.line e v.place n s (f.quoted q))
    by false q again = no_steps text (suc m) (suc n) d v f e s q

few_bytes : (text : List ℕ) (d : ℕ) (v : Seen text d) → length v.bytes ≤ length v.columns
few_bytes text d v =
    let xs : List ℕ = bytes_between text v.line.start v.line.end in
    let one : length v.bytes ≡ length xs - v.place.column = ap length v.bytes_are ∙ length-drop v.place.column xs in
    let two : length v.columns ≡ length xs = ap length v.columns_are ∙ length_kept v.line.start [] xs in
    omega (arith, one, two)

-- the block of a quote, before its lines
abbrev pub quote_block : ℕ → ℕ → ℕ → Block
quote_block d start first = block d (kind.Quote None) start start first first

quote_opens : (text : List ℕ) (outer : List ℕ) (x : Open outer) (cells : List Cell) (l : Line) (place : Cursor) (bs : List Block) (ps : List Piece) (end number kept : ℕ)
    → quote_page text cells l (length outer) place (closed x bs ps end number kept)
    ≡ closed (entered (length bs) l x) (bs ++ quote_block (length outer) (cell_place cells place.ink l.end) (length ps) ∷ []) ps end number kept
unfolding opened_with is_quote
quote_opens text outer x cells l place bs ps end number kept =
    ap (λ s. with_quote (begun (kind.Quote None) start l.number (list_left s))) (nothing_ends text outer x bs ps end number kept)
    ∙ ap (λ s. with_quote (begun (kind.Quote None) start l.number s)) (stays_open outer x bs ps end number kept)
    ∙ ap with_quote (block_begins outer x (kind.Quote None) start l.number bs ps end number kept)
    ∙ ap with_new (last_place bs (quote_block (length outer) start (length ps)))
  where
    start : ℕ
    start = cell_place cells place.ink l.end

    with_quote : State → State
    with_quote t = quote_entered container.Quote (record t { opened = t.opened ++ new_quote (length t.blocks - 1) l ∷ [] })

    with_new : ℕ → State
    with_new b = record (closed x (bs ++ quote_block (length outer) start (length ps) ∷ []) ps end number kept) { opened = had_marked x.opened ++ new_quote b l ∷ []; quotes = x.quotes ++ (length (had_marked x.opened ++ new_quote b l ∷ []) - 1) ∷ [] }

-- a line that begins a quote is a line in the quote
pub quote_enters : (text : List ℕ) (outer : List ℕ) (v : Seen text (length outer)) (f : FactsOf text (length outer) v) → is_quote_kind f.kind ≡ true → (n : Next text (length outer) v) (x : Open outer) (bs : List Block) (ps : List Piece) (end number kept : ℕ)
    → begin text v.columns v.line (length outer) v.place (closed x bs ps end number kept)
    ≡ begin text n.seen.columns n.seen.line (suc (length outer)) n.seen.place (closed (entered (length bs) v.line x) (bs ++ quote_block (length outer) (cell_place v.columns v.place.ink v.line.end) (length ps) ∷ []) ps end number kept)
unfolding leaf_started_in
quote_enters text outer v f q n x bs ps end number kept =
    ap (started_at text v.columns v.line (tail_of v.columns))
    (enough_steps text (length v.columns) (suc (length v.columns)) (length outer) v (length outer) s (few_bytes text (length outer) v) (omega (arith, few_bytes text (length outer) v))
    ∙ step_more text v.columns v.line (length outer) v.place (length v.columns) s (f.quoted q)
    ∙ ap (λ t. repeated (container_once text v.columns v.line (tail_of v.columns)) (length v.columns) (here (length t.opened) (after_quote v.columns v.place)) t) (quote_opens text outer x v.columns v.line v.place bs ps end number kept)
    ∙ ap (λ e. repeated (container_once text v.columns v.line (tail_of v.columns)) (length v.columns) (here e (after_quote v.columns v.place)) inner) (open_count (length bs ∷ outer) (entered (length bs) v.line x)))
    ∙ same_line text (length outer) v n (λ cells l place. begin text cells l (suc (length outer)) place inner ≡ begin text n.seen.columns n.seen.line (suc (length outer)) n.seen.place inner) refl
  where
    s : State
    s = closed x bs ps end number kept

    inner : State
    inner = closed (entered (length bs) v.line x) (bs ++ quote_block (length outer) (cell_place v.columns v.place.ink v.line.end) (length ps) ∷ []) ps end number kept

-- a heading with marks in front

-- a line that is kept if it has a byte
abbrev pub piece_if : Bool → Piece → List Piece
piece_if true p = p ∷ []
piece_if false p = []

-- the heading's text has a byte
abbrev pub has_words : List Cell → Heading → Line → Bool
has_words cells h l = nat_lt (cell_place cells h.from l.end) (cell_place cells h.to l.end)

abbrev pub words : List Cell → Heading → Line → List Piece
words cells h l = piece_if (has_words cells h l) (heading_piece cells h l)

heading_put_as : (text : List ℕ) (outer : List ℕ) (x : Open outer) (cells : List Cell) (l : Line) (place : Cursor) (h : Heading) (bs : List Block) (ps : List Piece) (end number kept : ℕ) (k : Bool) → has_words cells h l ≡ k
    → started (start.Heading h) text cells l (tail_of cells) (here (length outer) place) (closed x bs ps end number kept)
    ≡ closed (past l x) (bs ++ ended_block (length outer) (kind.Heading h.level None) ps (piece_if k (heading_piece cells h l)) (cell_place cells place.ink l.end) l.end ∷ []) (ps ++ piece_if k (heading_piece cells h l)) l.end l.number (length (ps ++ piece_if k (heading_piece cells h l)))
unfolding started_in heading_started_in heading_put piece_taken heading_piece
heading_put_as text outer x cells l place h bs ps end number kept true e =
    let p : Piece = heading_piece cells h l in
    ap (λ s. leaf_finished (piece_taken p l true s)) (opens_here text outer x leaf.Nothing (kind.Heading h.level None) (cell_place cells place.ink l.end) l bs ps end number kept)
    ∙ rw e (page_finished outer (with_block x) leaf.Nothing (kind.Heading h.level None) bs (length ps) (ps ++ p ∷ []) (ps ++ p ∷ []) (length (ps ++ p ∷ [])) (cell_place cells place.ink l.end) l.end l.number (take-length (ps ++ p ∷ [])))
heading_put_as text outer x cells l place h bs ps end number kept false e =
    ap (λ s. leaf_finished (piece_taken (heading_piece cells h l) l true s)) (opens_here text outer x leaf.Nothing (kind.Heading h.level None) (cell_place cells place.ink l.end) l bs ps end number kept)
    ∙ rw e (page_finished outer (with_block x) leaf.Nothing (kind.Heading h.level None) bs (length ps) ps ps (length ps) (cell_place cells place.ink l.end) l.end l.number (take-length ps))
    ∙ ap (λ (xs : List Piece). closed (past l x) (bs ++ block (length outer) (kind.Heading h.level None) (cell_place cells place.ink l.end) l.end (length ps) (length xs) ∷ []) xs l.end l.number (length xs)) (sym (append-nil ps))

pub heading_comes : (text : List ℕ) (outer : List ℕ) (x : Open outer) (cells : List Cell) (l : Line) (place : Cursor) (h : Heading) (bs : List Block) (ps : List Piece) (end number kept : ℕ)
    → started (start.Heading h) text cells l (tail_of cells) (here (length outer) place) (closed x bs ps end number kept)
    ≡ closed (past l x) (bs ++ ended_block (length outer) (kind.Heading h.level None) ps (words cells h l) (cell_place cells place.ink l.end) l.end ∷ []) (ps ++ words cells h l) l.end l.number (length (ps ++ words cells h l))
heading_comes text outer x cells l place h bs ps end number kept = heading_put_as text outer x cells l place h bs ps end number kept (has_words cells h l) refl

-- code

-- a leaf whose lines are kept as they are
abbrev pub is_code_leaf : Leaf → Bool
is_code_leaf leaf.Indented = true
is_code_leaf (leaf.Fenced f) = true
is_code_leaf (leaf.Html k) = true
is_code_leaf lf = false

pub page_shuts : (text : List ℕ) (outer : List ℕ) (x : Open outer) (lf : Leaf) (k : BlockKind) (bs : List Block) (first : ℕ) (ps qs : List Piece) (kept start end number : ℕ) → is_code_leaf lf ≡ true → take kept ps ≡ qs
    → leaf_closed text (leaf_page x lf k bs first ps kept start end number) ≡ closed (raise end number x) (bs ++ block (length outer) k start end first (length qs) ∷ []) qs end number kept
unfolding leaf_closed
page_shuts text outer x leaf.Indented k bs first ps qs kept start end number e h = page_finished outer x leaf.Indented k bs first ps qs kept start end number h
page_shuts text outer x (leaf.Fenced f) k bs first ps qs kept start end number e h = page_finished outer x (leaf.Fenced f) k bs first ps qs kept start end number h
page_shuts text outer x (leaf.Html y) k bs first ps qs kept start end number e h = page_finished outer x (leaf.Html y) k bs first ps qs kept start end number h
page_shuts text outer x leaf.Nothing k bs first ps qs kept start end number e h = absurd (true≢false (sym e))
page_shuts text outer x leaf.Paragraph k bs first ps qs kept start end number e h = absurd (true≢false (sym e))
page_shuts text outer x (leaf.Metadata y) k bs first ps qs kept start end number e h = absurd (true≢false (sym e))
page_shuts text outer x (leaf.Table y) k bs first ps qs kept start end number e h = absurd (true≢false (sym e))

-- a line goes into code, and is kept
pub takes_kept : (text : List ℕ) (outer : List ℕ) (x : Open outer) (cells : List Cell) (l : Line) (c at : ℕ) (lf : Leaf) (k : BlockKind) (bs : List Block) (first : ℕ) (ps : List Piece) (kept start end number : ℕ) → code_piece cells c l ≡ piece_of 0 at l.end l.next → nat_lt at l.next ≡ true → keeps_line cells c lf ≡ true
    → code_taken text cells c l (leaf_page x lf k bs first ps kept start end number)
    ≡ html_ended (bytes_between text at l.end) (leaf_page x lf k bs first (ps ++ piece_of 0 at l.end l.next ∷ []) (length (ps ++ piece_of 0 at l.end l.next ∷ [])) start l.end l.number)
unfolding code_taken piece_taken
takes_kept text outer x cells l c at lf k bs first ps kept start end number h some keeps =
    ap (λ (q : Piece). html_ended (bytes_between text q.start q.end) (piece_taken q l (keeps_line cells c lf) page)) h
    ∙ ap (λ y. html_ended (bytes_between text at l.end) (piece_taken (piece_of 0 at l.end l.next) l y page)) keeps
    ∙ ap (λ (y : Bool). html_ended (bytes_between text at l.end) (with_piece y)) some
  where
    page : State
    page = leaf_page x lf k bs first ps kept start end number

    with_piece : Bool → State
    with_piece y =
        let t : State = if y then record page { pieces = ps ++ piece_of 0 at l.end l.next ∷ [] } else page in
        record t { kept = length t.pieces; end = l.end; line = l.number }

-- a line goes into code, and isn't kept yet
pub takes_blank : (text : List ℕ) (outer : List ℕ) (x : Open outer) (cells : List Cell) (l : Line) (c at : ℕ) (k : BlockKind) (bs : List Block) (first : ℕ) (ps : List Piece) (kept start end number : ℕ) → code_piece cells c l ≡ piece_of 0 at l.end l.next → nat_lt at l.next ≡ true → keeps_line cells c leaf.Indented ≡ false
    → code_taken text cells c l (leaf_page x leaf.Indented k bs first ps kept start end number)
    ≡ leaf_page x leaf.Indented k bs first (ps ++ piece_of 0 at l.end l.next ∷ []) kept start end number
unfolding code_taken piece_taken html_ended
takes_blank text outer x cells l c at k bs first ps kept start end number h some keeps =
    let s : State = leaf_page x leaf.Indented k bs first ps kept start end number in
    ap (λ (q : Piece). html_ended (bytes_between text q.start q.end) (piece_taken q l (keeps_line cells c leaf.Indented) s)) h
    ∙ ap (λ y. html_ended (bytes_between text at l.end) (piece_taken (piece_of 0 at l.end l.next) l y s)) keeps
    ∙ ap (λ (y : Bool). html_ended (bytes_between text at l.end) (with_piece y)) some
  where
    with_piece : Bool → State
    with_piece y =
        let s : State = leaf_page x leaf.Indented k bs first ps kept start end number in
        if y then record s { pieces = ps ++ piece_of 0 at l.end l.next ∷ [] } else s

pub fence_comes : (text : List ℕ) (outer : List ℕ) (x : Open outer) (cells : List Cell) (l : Line) (place : Cursor) (f : Fence) (bs : List Block) (ps : List Piece) (end number kept : ℕ)
    → started (start.Fence f) text cells l (tail_of cells) (here (length outer) place) (closed x bs ps end number kept)
    ≡ leaf_page (with_block x) (leaf.Fenced f) (info_of cells place f l) bs (length ps) ps (length ps) (cell_place cells place.ink l.end) l.end l.number
unfolding started_in fence_started
fence_comes text outer x cells l place f bs ps end number kept = opens_here text outer x (leaf.Fenced f) (info_of cells place f l) (cell_place cells place.ink l.end) l bs ps end number kept

pub indented_comes : (text : List ℕ) (outer : List ℕ) (x : Open outer) (cells : List Cell) (l : Line) (place : Cursor) (c : ℕ) (bs : List Block) (ps : List Piece) (end number kept : ℕ)
    → started (start.Indented c) text cells l (tail_of cells) (here (length outer) place) (closed x bs ps end number kept)
    ≡ code_taken text cells c l (leaf_page (with_block x) leaf.Indented kind.Indented bs (length ps) ps (length ps) (cell_place cells c l.end) l.end l.number)
unfolding started_in indented_started
indented_comes text outer x cells l place c bs ps end number kept = ap (code_taken text cells c l) (opens_here text outer x leaf.Indented kind.Indented (cell_place cells c l.end) l bs ps end number kept)

pub fence_ends : (outer : List ℕ) (x : Open outer) (l : Line) (f : Fence) (k : BlockKind) (bs : List Block) (first : ℕ) (ps : List Piece) (start end number : ℕ)
    → leaf_ended l (leaf_page x (leaf.Fenced f) k bs first ps (length ps) start end number) ≡ closed (raise l.end l.number x) (bs ++ block (length outer) k start l.end first (length ps) ∷ []) ps l.end l.number (length ps)
unfolding leaf_ended
fence_ends outer x l f k bs first ps start end number = page_finished outer x (leaf.Fenced f) k bs first ps ps (length ps) start l.end l.number (take-length ps)

pub html_comes : (text : List ℕ) (outer : List ℕ) (x : Open outer) (cells : List Cell) (l : Line) (place : Cursor) (k : HtmlKind) (bs : List Block) (ps : List Piece) (end number kept : ℕ)
    → started (start.Html k) text cells l (tail_of cells) (here (length outer) place) (closed x bs ps end number kept)
    ≡ code_taken text cells place.column l (leaf_page (with_block x) (leaf.Html k) kind.Html bs (length ps) ps (length ps) (cell_place cells place.column l.end) l.end l.number)
unfolding started_in html_started
html_comes text outer x cells l place k bs ps end number kept = ap (code_taken text cells place.column l) (opens_here text outer x (leaf.Html k) kind.Html (cell_place cells place.column l.end) l bs ps end number kept)

-- A page on which a list is open, and maybe an item in it.
use Rattle.std.proofs.Common.{◌≡◌, ℕ, suc, ◌+◌, ◌-◌, ◌^◌, ◌<◌, ◌≤◌, Bool, true, false, ◌==◌, ◌&&◌, max, nat_lt, nat_le, List, [], ◌∷◌, ◌++◌, length, take, refl, ap, sym, ◌∙◌, arith, append-nil, Option, Some, None}
use Rattle.std.proofs.Math.Seq.{take-length}
use Rattle.std.proofs.lemmas.Bool.Decides.{nat_tests}
use Rattle.tocmark_read_scan.specs.Basic.{plus}
use Rattle.tocmark_read_scan.proofs.PlainContent.{get_behind}
use Rattle.tocmark_read_scan.proofs.PlainPieces.{drop_behind}
use Rattle.tocmark_read_lines.specs.Cells.{cell_place}
use Rattle.tocmark_read_lines.specs.Containers.{raised, raised_at}
use Rattle.tocmark_read_lines.specs.Marks.{tail_of}
use Rattle.tocmark_read_lines.specs.declared.beginnings.Heading.{Heading}
use Rattle.tocmark_read_lines.specs.declared.cell.Cell.{Cell}
use Rattle.tocmark_read_lines.specs.declared.cell.Cursor.{Cursor}
use Rattle.tocmark_read_lines.specs.declared.container.Container.TheVariants as container
use Rattle.tocmark_read_lines.specs.declared.container.ItemStart.{ItemStart}
use Rattle.tocmark_read_lines.specs.declared.container.Opened.{Opened}
use Rattle.tocmark_read_lines.specs.declared.line.Line.{Line}
use Rattle.tocmark_read_page.specs.Definitions.{DefinitionView, definitions_from}
use Rattle.tocmark_read_page.specs.Leaves.{is_paragraph}
use Rattle.tocmark_read_page.specs.Pages.{State, ended, is_quote, is_list, is_definitions, opened_with, leaf_opened, leaf_closed, closed_to, times, list_left, left_noted, list_of, begun, loosened, had_marked, is_apart, leaf_finished, finished, settled, shortened, piece_taken, one_closed}
use Rattle.tocmark_read_page.specs.Pieces.{text_piece, heading_piece}
use Rattle.tocmark_read_page.specs.declared.leaf.Leaf.{Leaf}
use Rattle.tocmark_read_page.specs.declared.leaf.Leaf.TheVariants as leaf
use Rattle.tocmark_read_page.specs.declared.page.Block.{Block}
use Rattle.tocmark_read_page.specs.declared.page.BlockKind.{BlockKind}
use Rattle.tocmark_read_page.specs.declared.page.BlockKind.TheVariants as kind
use Rattle.tocmark_read_page.specs.declared.page.HeaderLine.TheVariants.{Never}
use Rattle.tocmark_read_page.specs.declared.piece.Piece.{Piece}
use Rattle.tocmark_read_constructs.specs.Headings.{heading_put, heading_started_in}
use Rattle.tocmark_read_blocks.specs.Blocks.{started_in, started}
use Rattle.tocmark_read_blocks.specs.Containers.{is_in_list, list_started}
use Rattle.tocmark_read_blocks.specs.Paragraphs.{text_started, text_taken, rule_started}
use Rattle.tocmark_read_blocks.specs.declared.leaf.LeafStart.{LeafStart}
use Rattle.tocmark_read_blocks.specs.declared.leaf.LeafStart.TheVariants as start
use Rattle.tocmark_block_laws.proofs.Apart.{after_these, one_closed_after}
use Rattle.tocmark_block_laws.proofs.Open.{last_place, get_last, set_middle, Open}
use Rattle.tocmark_block_laws.proofs.Pages.{here, block, rule_block, rule_comes, ended_block, heading_comes, set_last, times_last, piece_in, piece_taken_whole, piece_if, has_words, words}
use Rattle.tocmark_block_laws.proofs.Paragraphs.{start_from, first_draft, text_begins, left_block, paragraph_closed}

-- a list and an item that are open
abbrev pub list_box : ℕ → ℕ → ℕ → ℕ → Bool → Opened
list_box sort b end number had = record { container = container.List sort; block = b; end = end; line = number; had = had }

abbrev pub item_box : ℕ → ℕ → ℕ → ℕ → Bool → Opened
item_box width b end number had = record { container = container.Item width; block = b; end = end; line = number; had = had }

-- a page with these containers open
abbrev pub stack_page : List Opened → Leaf → List Block → List Piece → ℕ → ℕ → ℕ → State
stack_page os lf bs ps end number kept = record {
  blocks = bs;
  pieces = ps;
  definitions = [];
  opened = os;
  quotes = [];
  leaf = lf;
  end = end;
  line = number;
  kept = kept;
  header = Never;
  tried = 0;
  left = None;
  filled = 0;
}

-- the block of a list, and of an item of the list with this block, before their lines
abbrev pub list_block : Option ℕ → ℕ → List Piece → Block
list_block n start ps = record { depth = 0; kind = kind.List n; start = start; end = start; first = length ps; last = length ps; loose = false; list = None; task = None }

abbrev pub item_block : ℕ → ℕ → List Piece → Block
item_block b start ps = record { depth = 1; kind = kind.Item; start = start; end = start; first = length ps; last = length ps; loose = false; list = Some b; task = None }

-- a leaf in an item of that list
abbrev pub leaf_block : ℕ → BlockKind → ℕ → ℕ → ℕ → ℕ → Block
leaf_block b k start end first last = record { depth = 2; kind = k; start = start; end = end; first = first; last = last; loose = false; list = Some b; task = None }

-- what is open stays open

pub top_stays : (text : List ℕ) (bs : List Block) (ps : List Piece) (end number kept : ℕ) → closed_to text 0 (stack_page [] leaf.Nothing bs ps end number kept) ≡ stack_page [] leaf.Nothing bs ps end number kept
unfolding closed_to leaf_closed times
top_stays text bs ps end number kept = refl

pub list_stays : (text : List ℕ) (l : Opened) (bs : List Block) (ps : List Piece) (end number kept : ℕ) → closed_to text 1 (stack_page (l ∷ []) leaf.Nothing bs ps end number kept) ≡ stack_page (l ∷ []) leaf.Nothing bs ps end number kept
unfolding closed_to leaf_closed times
list_stays text l bs ps end number kept = refl

pub item_stays : (text : List ℕ) (l i : Opened) (bs : List Block) (ps : List Piece) (end number kept : ℕ) → closed_to text 2 (stack_page (l ∷ i ∷ []) leaf.Nothing bs ps end number kept) ≡ stack_page (l ∷ i ∷ []) leaf.Nothing bs ps end number kept
unfolding closed_to leaf_closed times
item_stays text l i bs ps end number kept = refl

-- a list begins, goes on, or ends before another one

pub list_begins : (item : ItemStart) (at : ℕ) (l : Line) (bs : List Block) (ps : List Piece) (end number kept : ℕ)
    → list_started item at l (stack_page [] leaf.Nothing bs ps end number kept) ≡ stack_page (list_box item.sort (length bs) l.end l.number false ∷ []) leaf.Nothing (bs ++ list_block item.number at ps ∷ []) ps end number kept
unfolding list_started is_in_list list_left opened_with begun loosened list_of is_apart had_marked is_quote
list_begins item at l bs ps end number kept =
    ap (λ b. stack_page (list_box item.sort b l.end l.number false ∷ []) leaf.Nothing (bs ++ list_block item.number at ps ∷ []) ps end number kept) (last_place bs (list_block item.number at ps))

list_leaves : (sort b e n : ℕ) (had : Bool) (bs : List Block) (ps : List Piece) (end number kept : ℕ)
    → list_left (stack_page (list_box sort b e n had ∷ []) leaf.Nothing bs ps end number kept) ≡ stack_page [] leaf.Nothing (ended bs b e) ps end number kept
unfolding list_left is_list is_definitions left_noted one_closed is_quote raised_at
list_leaves sort b e n had bs ps end number kept = refl

pub list_goes : (item : ItemStart) (at : ℕ) (l : Line) (sort b e n : ℕ) (had : Bool) (bs : List Block) (ps : List Piece) (end number kept : ℕ) → (sort == item.sort) ≡ true
    → list_started item at l (stack_page (list_box sort b e n had ∷ []) leaf.Nothing bs ps end number kept) ≡ stack_page (list_box sort b e n had ∷ []) leaf.Nothing bs ps end number kept
unfolding list_started is_in_list
list_goes item at l sort b e n had bs ps end number kept same = rw same refl

pub list_changes : (item : ItemStart) (at : ℕ) (l : Line) (sort b e n : ℕ) (had : Bool) (bs : List Block) (ps : List Piece) (end number kept : ℕ) → (sort == item.sort) ≡ false
    → list_started item at l (stack_page (list_box sort b e n had ∷ []) leaf.Nothing bs ps end number kept) ≡ list_started item at l (stack_page [] leaf.Nothing (ended bs b e) ps end number kept)
unfolding list_started is_in_list list_left
list_changes item at l sort b e n had bs ps end number kept other =
    rw other (ap (opened_with (container.List item.sort) (kind.List item.number) at l) (list_leaves sort b e n had bs ps end number kept ∙ sym (none_leaves (ended bs b e))))
  where
    none_leaves : (cs : List Block) → list_left (stack_page [] leaf.Nothing cs ps end number kept) ≡ stack_page [] leaf.Nothing cs ps end number kept
    none_leaves cs = refl

-- an item begins; the list is loose if it is apart from the one above it
pub item_begins : (width at : ℕ) (l : Line) (sort b e n : ℕ) (had : Bool) (bs : List Block) (ps : List Piece) (end number kept : ℕ) (apart : Bool) → (had && nat_lt (plus n 1) l.number) ≡ apart
    → opened_with (container.Item width) kind.Item at l (stack_page (list_box sort b e n had ∷ []) leaf.Nothing bs ps end number kept)
    ≡ stack_page (list_box sort b e n true ∷ item_box width (length (loosened (Some b) apart bs)) l.end l.number false ∷ []) leaf.Nothing (loosened (Some b) apart bs ++ item_block b at ps ∷ []) ps end number kept
unfolding opened_with begun list_of is_apart had_marked is_quote
item_begins width at l sort b e n had bs ps end number kept apart near = rw (near, last_place (loosened (Some b) apart bs) (item_block b at ps)) refl

-- a list is loose
pub list_loosens : (before mine : List Block) (b : Block) → loosened (Some (length before)) true (before ++ b ∷ mine) ≡ before ++ record b { loose = true } ∷ mine
unfolding loosened
list_loosens before mine b = rw (get_behind before mine b) (set_middle before b (record b { loose = true }) mine)

pub list_tight : (b : ℕ) (bs : List Block) → loosened (Some b) false bs ≡ bs
unfolding loosened
list_tight b bs = refl

-- a leaf begins after a list as where none is open

abbrev top_page : ℕ → ℕ → List Block → List Piece → ℕ → ℕ → ℕ → State
top_page b e bs ps end number kept = stack_page [] leaf.Nothing (ended bs b e) ps end number kept

opens_same : (text : List ℕ) (lf : Leaf) (k : BlockKind) (at : ℕ) (l : Line) (sort b e n : ℕ) (had : Bool) (bs : List Block) (ps : List Piece) (end number kept : ℕ)
    → leaf_opened lf k at l (closed_to text 1 (stack_page (list_box sort b e n had ∷ []) leaf.Nothing bs ps end number kept)) ≡ leaf_opened lf k at l (closed_to text 0 (top_page b e bs ps end number kept))
unfolding leaf_opened list_left
opens_same text lf k at l sort b e n had bs ps end number kept =
    ap (leaf_opened lf k at l) (list_stays text (list_box sort b e n had) bs ps end number kept)
    ∙ ap after (list_leaves sort b e n had bs ps end number kept)
    ∙ ap (leaf_opened lf k at l) (sym (top_stays text (ended bs b e) ps end number kept))
  where
    after : State → State
    after s = let t : State = begun k at l.number s in record t { leaf = lf; end = l.end; line = l.number; kept = length t.pieces }

abbrev pub is_top_start : LeafStart → Bool
is_top_start (start.Heading h) = true
is_top_start start.Rule = true
is_top_start start.Text = true
is_top_start b = false

pub leaf_to_top : (text : List ℕ) (cells : List Cell) (l : Line) (place : Cursor) (x : LeafStart) (sort b e n : ℕ) (had : Bool) (bs : List Block) (ps : List Piece) (end number kept : ℕ) → is_top_start x ≡ true
    → started x text cells l (tail_of cells) (here 1 place) (stack_page (list_box sort b e n had ∷ []) leaf.Nothing bs ps end number kept)
    ≡ started x text cells l (tail_of cells) (here 0 place) (top_page b e bs ps end number kept)
unfolding started_in rule_started heading_started_in heading_put text_taken text_piece is_paragraph
leaf_to_top text cells l place (start.Heading h) sort b e n had bs ps end number kept x =
    ap (λ s. leaf_finished (piece_taken (heading_piece cells h l) l true s)) (opens_same text leaf.Nothing (kind.Heading h.level None) (cell_place cells place.ink l.end) l sort b e n had bs ps end number kept)
leaf_to_top text cells l place start.Rule sort b e n had bs ps end number kept x =
    ap leaf_finished (opens_same text leaf.Nothing kind.Rule (cell_place cells place.ink l.end) l sort b e n had bs ps end number kept)
leaf_to_top text cells l place start.Text sort b e n had bs ps end number kept x =
    ap (λ s. piece_taken (piece_in cells place l) l true (text_started (cell_place cells place.ink l.end) s)) (opens_same text leaf.Paragraph kind.Paragraph (cell_place cells place.ink l.end) l sort b e n had bs ps end number kept)
leaf_to_top text cells l place start.Blank sort b e n had bs ps end number kept x = absurd cc
leaf_to_top text cells l place (start.Indented c) sort b e n had bs ps end number kept x = absurd cc
leaf_to_top text cells l place (start.Fence f) sort b e n had bs ps end number kept x = absurd cc
leaf_to_top text cells l place (start.Html k) sort b e n had bs ps end number kept x = absurd cc
leaf_to_top text cells l place (start.Underline v) sort b e n had bs ps end number kept x = absurd cc
leaf_to_top text cells l place (start.Metadata k) sort b e n had bs ps end number kept x = absurd cc
leaf_to_top text cells l place (start.Task d) sort b e n had bs ps end number kept x = absurd cc
leaf_to_top text cells l place (start.QuoteKind k) sort b e n had bs ps end number kept x = absurd cc

-- leaves where no list is open

abbrev nothing_open : Open []
nothing_open = record { opened = []; quotes = []; are = refl; places = refl }

pub rule_at_top : (text : List ℕ) (cells : List Cell) (l : Line) (place : Cursor) (bs : List Block) (ps : List Piece) (end number kept : ℕ)
    → started start.Rule text cells l (tail_of cells) (here 0 place) (stack_page [] leaf.Nothing bs ps end number kept)
    ≡ stack_page [] leaf.Nothing (bs ++ rule_block 0 ps (cell_place cells place.ink l.end) l.end ∷ []) ps l.end l.number (length ps)
unfolding had_marked raised_at
rule_at_top text cells l place bs ps end number kept = rule_comes text [] nothing_open cells l place bs ps end number kept

pub heading_at_top : (text : List ℕ) (cells : List Cell) (l : Line) (place : Cursor) (h : Heading) (bs : List Block) (ps : List Piece) (end number kept : ℕ)
    → started (start.Heading h) text cells l (tail_of cells) (here 0 place) (stack_page [] leaf.Nothing bs ps end number kept)
    ≡ stack_page [] leaf.Nothing (bs ++ ended_block 0 (kind.Heading h.level None) ps (words cells h l) (cell_place cells place.ink l.end) l.end ∷ []) (ps ++ words cells h l) l.end l.number (length (ps ++ words cells h l))
unfolding had_marked raised_at
heading_at_top text cells l place h bs ps end number kept = heading_comes text [] nothing_open cells l place h bs ps end number kept

-- a paragraph of one line there
abbrev pub top_text : Line → List Block → List Piece → Piece → ℕ → State
top_text l bs ps p at = stack_page [] leaf.Paragraph (bs ++ block 0 kind.Paragraph at at (length ps) (length ps) ∷ []) (ps ++ p ∷ []) l.end l.number (length (ps ++ p ∷ []))

pub text_at_top : (text : List ℕ) (cells : List Cell) (l : Line) (place : Cursor) (bs : List Block) (ps : List Piece) (end number kept : ℕ) → nat_lt (cell_place cells place.ink l.end) l.next ≡ true
    → started start.Text text cells l (tail_of cells) (here 0 place) (stack_page [] leaf.Nothing bs ps end number kept) ≡ top_text l bs ps (piece_in cells place l) (cell_place cells place.ink l.end)
unfolding had_marked
text_at_top text cells l place bs ps end number kept h = text_begins text [] nothing_open cells l place bs ps end number kept h

pub top_text_ends : (text : List ℕ) (l : Line) (bs : List Block) (ps : List Piece) (p : Piece) (at : ℕ) (ds : List DefinitionView) (k : ℕ) → definitions_from text (p ∷ []) [] ≡ (ds, k) → length ps + k < 2 ^ 64
    → leaf_closed text (top_text l bs ps p at)
    ≡ after_these ds (stack_page [] leaf.Nothing (bs ++ left_block 0 ps (p ∷ []) k (first_draft ps at l) ∷ []) (ps ++ p ∷ []) l.end l.number (length (ps ++ p ∷ [])))
unfolding had_marked raised_at
top_text_ends text l bs ps p at ds k h fits = paragraph_closed text [] nothing_open bs ps (p ∷ []) (first_draft ps at l) ds k h fits

-- it ends
pub item_leaves : (text : List ℕ) (sort b e n width ib ie in_line : ℕ) (had some : Bool) (bs : List Block) (ps : List Piece) (end number kept : ℕ)
    → closed_to text 1 (stack_page (list_box sort b e n had ∷ item_box width ib ie in_line some ∷ []) leaf.Nothing bs ps end number kept)
    ≡ stack_page (list_box sort b (max e ie) (max n in_line) had ∷ []) leaf.Nothing (ended bs ib ie) ps end number kept
unfolding closed_to leaf_closed times one_closed is_quote raised_at raised
item_leaves text sort b e n width ib ie in_line had some bs ps end number kept = refl

list_closes : (sort b e n : ℕ) (had : Bool) (bs : List Block) (ps : List Piece) (end number kept : ℕ)
    → one_closed (stack_page (list_box sort b e n had ∷ []) leaf.Nothing bs ps end number kept) ≡ stack_page [] leaf.Nothing (ended bs b e) ps end number kept
unfolding one_closed is_quote raised_at
list_closes sort b e n had bs ps end number kept = refl

-- what ends up to a list ends up to the top, and then the list
pub closes_list : (text : List ℕ) (sort b e n : ℕ) (had : Bool) (bs : List Block) (ps : List Piece) (end number kept : ℕ) (ds : List DefinitionView) (s : State)
    → closed_to text 1 s ≡ after_these ds (stack_page (list_box sort b e n had ∷ []) leaf.Nothing bs ps end number kept) → 1 ≤ length (leaf_closed text s).opened
    → closed_to text 0 s ≡ after_these ds (stack_page [] leaf.Nothing (ended bs b e) ps end number kept)
unfolding closed_to
closes_list text sort b e n had bs ps end number kept ds s h deep =
    ap (λ m. times one_closed m t) (let q : length t.opened - 0 ≡ suc (length t.opened - 1) = omega (arith, deep) in q)
    ∙ times_last one_closed (length t.opened - 1) t
    ∙ ap one_closed h
    ∙ one_closed_after ds (stack_page (list_box sort b e n had ∷ []) leaf.Nothing bs ps end number kept)
    ∙ ap (after_these ds) (list_closes sort b e n had bs ps end number kept)
  where
    t : State
    t = leaf_closed text s

-- the first leaf of an item begins

-- an item without a block yet, and with one
abbrev pub empty_item : ℕ → ℕ → ℕ → ℕ → ℕ → ℕ → Line → List Opened
empty_item sort b e n width ib l = list_box sort b e n true ∷ item_box width ib l.end l.number false ∷ []

abbrev pub full_item : ℕ → ℕ → ℕ → ℕ → ℕ → ℕ → Line → List Opened
full_item sort b e n width ib l = list_box sort b e n true ∷ item_box width ib l.end l.number true ∷ []

abbrev pub ended_item : ℕ → ℕ → ℕ → ℕ → ℕ → ℕ → Line → List Opened
ended_item sort b e n width ib l = list_box sort b e n true ∷ item_box width ib (max l.end l.end) (max l.number l.number) true ∷ []

leaf_begins : (text : List ℕ) (lf : Leaf) (k : BlockKind) (at : ℕ) (l : Line) (sort b e n width ib : ℕ) (bs : List Block) (ps : List Piece) (end number kept : ℕ)
    → leaf_opened lf k at l (closed_to text 2 (stack_page (empty_item sort b e n width ib l) leaf.Nothing bs ps end number kept))
    ≡ stack_page (full_item sort b e n width ib l) lf (bs ++ leaf_block b k at at (length ps) (length ps) ∷ []) ps l.end l.number (length ps)
unfolding closed_to leaf_closed times leaf_opened list_left is_list begun loosened list_of is_apart had_marked
leaf_begins text lf k at l sort b e n width ib bs ps end number kept = refl

leaf_ends : (lf : Leaf) (k : BlockKind) (at : ℕ) (l : Line) (sort b e n width ib first last kept : ℕ) (bs : List Block) (ps qs : List Piece) → take kept ps ≡ qs
    → leaf_finished (stack_page (full_item sort b e n width ib l) lf (bs ++ leaf_block b k at at first last ∷ []) ps l.end l.number kept)
    ≡ stack_page (ended_item sort b e n width ib l) leaf.Nothing (bs ++ leaf_block b k at l.end first (length qs) ∷ []) qs l.end l.number kept
unfolding leaf_finished finished raised_at raised
leaf_ends lf k at l sort b e n width ib first last kept bs ps qs h =
    rw (h, get_last bs (leaf_block b k at at first last), set_last bs (leaf_block b k at at first last) (leaf_block b k at l.end first (length qs))) refl

pub blank_in_item : (text : List ℕ) (cells : List Cell) (l : Line) (place : Cursor) (sort b e n width ib : ℕ) (bs : List Block) (ps : List Piece) (end number kept : ℕ)
    → started start.Blank text cells l (tail_of cells) (here 2 place) (stack_page (empty_item sort b e n width ib l) leaf.Nothing bs ps end number kept) ≡ stack_page (empty_item sort b e n width ib l) leaf.Nothing bs ps end number kept
unfolding started_in
blank_in_item text cells l place sort b e n width ib bs ps end number kept = item_stays text (list_box sort b e n true) (item_box width ib l.end l.number false) bs ps end number kept

pub rule_in_item : (text : List ℕ) (cells : List Cell) (l : Line) (place : Cursor) (sort b e n width ib : ℕ) (bs : List Block) (ps : List Piece) (end number kept : ℕ)
    → started start.Rule text cells l (tail_of cells) (here 2 place) (stack_page (empty_item sort b e n width ib l) leaf.Nothing bs ps end number kept)
    ≡ stack_page (ended_item sort b e n width ib l) leaf.Nothing (bs ++ leaf_block b kind.Rule (cell_place cells place.ink l.end) l.end (length ps) (length ps) ∷ []) ps l.end l.number (length ps)
unfolding started_in rule_started
rule_in_item text cells l place sort b e n width ib bs ps end number kept =
    ap leaf_finished (leaf_begins text leaf.Nothing kind.Rule (cell_place cells place.ink l.end) l sort b e n width ib bs ps end number kept)
    ∙ leaf_ends leaf.Nothing kind.Rule (cell_place cells place.ink l.end) l sort b e n width ib (length ps) (length ps) (length ps) bs ps ps (take-length ps)

heading_as : (text : List ℕ) (cells : List Cell) (l : Line) (place : Cursor) (h : Heading) (sort b e n width ib : ℕ) (bs : List Block) (ps : List Piece) (end number kept : ℕ) (k : Bool) → has_words cells h l ≡ k
    → started (start.Heading h) text cells l (tail_of cells) (here 2 place) (stack_page (empty_item sort b e n width ib l) leaf.Nothing bs ps end number kept)
    ≡ stack_page (ended_item sort b e n width ib l) leaf.Nothing (bs ++ leaf_block b (kind.Heading h.level None) (cell_place cells place.ink l.end) l.end (length ps) (length (ps ++ piece_if k (heading_piece cells h l))) ∷ []) (ps ++ piece_if k (heading_piece cells h l)) l.end l.number (length (ps ++ piece_if k (heading_piece cells h l)))
unfolding started_in heading_started_in heading_put piece_taken heading_piece
heading_as text cells l place h sort b e n width ib bs ps end number kept true w =
    let p : Piece = heading_piece cells h l in
    ap (λ s. leaf_finished (piece_taken p l true s)) (leaf_begins text leaf.Nothing (kind.Heading h.level None) (cell_place cells place.ink l.end) l sort b e n width ib bs ps end number kept)
    ∙ rw w (leaf_ends leaf.Nothing (kind.Heading h.level None) (cell_place cells place.ink l.end) l sort b e n width ib (length ps) (length ps) (length (ps ++ p ∷ [])) bs (ps ++ p ∷ []) (ps ++ p ∷ []) (take-length (ps ++ p ∷ [])))
heading_as text cells l place h sort b e n width ib bs ps end number kept false w =
    ap (λ s. leaf_finished (piece_taken (heading_piece cells h l) l true s)) (leaf_begins text leaf.Nothing (kind.Heading h.level None) (cell_place cells place.ink l.end) l sort b e n width ib bs ps end number kept)
    ∙ rw w (leaf_ends leaf.Nothing (kind.Heading h.level None) (cell_place cells place.ink l.end) l sort b e n width ib (length ps) (length ps) (length ps) bs ps ps (take-length ps))
    ∙ ap (λ (xs : List Piece). stack_page (ended_item sort b e n width ib l) leaf.Nothing (bs ++ leaf_block b (kind.Heading h.level None) (cell_place cells place.ink l.end) l.end (length ps) (length xs) ∷ []) xs l.end l.number (length xs)) (sym (append-nil ps))

pub heading_in_item : (text : List ℕ) (cells : List Cell) (l : Line) (place : Cursor) (h : Heading) (sort b e n width ib : ℕ) (bs : List Block) (ps : List Piece) (end number kept : ℕ)
    → started (start.Heading h) text cells l (tail_of cells) (here 2 place) (stack_page (empty_item sort b e n width ib l) leaf.Nothing bs ps end number kept)
    ≡ stack_page (ended_item sort b e n width ib l) leaf.Nothing (bs ++ leaf_block b (kind.Heading h.level None) (cell_place cells place.ink l.end) l.end (length ps) (length (ps ++ words cells h l)) ∷ []) (ps ++ words cells h l) l.end l.number (length (ps ++ words cells h l))
heading_in_item text cells l place h sort b e n width ib bs ps end number kept = heading_as text cells l place h sort b e n width ib bs ps end number kept (has_words cells h l) refl

-- a paragraph of one line

-- the page with it
abbrev pub text_page : ℕ → ℕ → ℕ → ℕ → ℕ → ℕ → Line → List Block → List Piece → Piece → ℕ → State
text_page sort b e n width ib l bs ps p at =
    stack_page (full_item sort b e n width ib l) leaf.Paragraph (bs ++ leaf_block b kind.Paragraph at at (length ps) (length ps) ∷ []) (ps ++ p ∷ []) l.end l.number (length (ps ++ p ∷ []))

started_first : (at : ℕ) (os : List Opened) (b : ℕ) (bs : List Block) (ps : List Piece) (end number : ℕ)
    → text_started at (stack_page os leaf.Paragraph (bs ++ leaf_block b kind.Paragraph at at (length ps) (length ps) ∷ []) ps end number (length ps)) ≡ stack_page os leaf.Paragraph (bs ++ leaf_block b kind.Paragraph at at (length ps) (length ps) ∷ []) ps end number (length ps)
unfolding text_started
started_first at os b bs ps end number =
    let same : nat_le (length ps) (length ps) ≡ true = grind (arith, nat_tests) in
    rw (get_last bs (leaf_block b kind.Paragraph at at (length ps) (length ps)), same, set_last bs (leaf_block b kind.Paragraph at at (length ps) (length ps)) (leaf_block b kind.Paragraph at at (length ps) (length ps))) refl

pub text_in_item : (text : List ℕ) (cells : List Cell) (l : Line) (place : Cursor) (sort b e n width ib : ℕ) (bs : List Block) (ps : List Piece) (end number kept : ℕ) → nat_lt (cell_place cells place.ink l.end) l.next ≡ true
    → started start.Text text cells l (tail_of cells) (here 2 place) (stack_page (empty_item sort b e n width ib l) leaf.Nothing bs ps end number kept)
    ≡ text_page sort b e n width ib l bs ps (piece_in cells place l) (cell_place cells place.ink l.end)
unfolding started_in text_taken text_piece is_paragraph
text_in_item text cells l place sort b e n width ib bs ps end number kept h =
    let at : ℕ = cell_place cells place.ink l.end in
    ap (λ s. piece_taken (piece_in cells place l) l true (text_started at s)) (leaf_begins text leaf.Paragraph kind.Paragraph at l sort b e n width ib bs ps end number kept)
    ∙ ap (λ s. piece_taken (piece_in cells place l) l true s) (started_first at (full_item sort b e n width ib l) b bs ps l.end l.number)
    ∙ piece_taken_whole (piece_in cells place l) l (stack_page (full_item sort b e n width ib l) leaf.Paragraph (bs ++ leaf_block b kind.Paragraph at at (length ps) (length ps) ∷ []) ps l.end l.number (length ps)) h refl

-- the block without so many lines
abbrev cut_block : ℕ → List Piece → Piece → ℕ → ℕ → Block
cut_block b ps p at k = leaf_block b kind.Paragraph (start_from (ps ++ p ∷ []) (length ps + k) at) at (length ps + k) (length ps)

settled_in_item : (text : List ℕ) (l : Line) (sort b e n width ib : ℕ) (bs : List Block) (ps : List Piece) (p : Piece) (at : ℕ) (ds : List DefinitionView) (k : ℕ) → definitions_from text (p ∷ []) [] ≡ (ds, k) → length ps + k < 2 ^ 64
    → settled text (text_page sort b e n width ib l bs ps p at)
    ≡ after_these ds (stack_page (full_item sort b e n width ib l) leaf.Paragraph (bs ++ cut_block b ps p at k ∷ []) (ps ++ p ∷ []) l.end l.number (length (ps ++ p ∷ [])))
unfolding settled shortened
settled_in_item text l sort b e n width ib bs ps p at ds k h fits =
    let first : plus (length ps) k ≡ length ps + k = omega (arith, fits) in
    rw (get_last bs (leaf_block b kind.Paragraph at at (length ps) (length ps)), drop_behind ps (p ∷ []), h, first, set_last bs (leaf_block b kind.Paragraph at at (length ps) (length ps)) (cut_block b ps p at k), append-nil ds) refl

cut_in_item : (l : Line) (sort b e n width ib : ℕ) (bs : List Block) (ps : List Piece) (p : Piece) (at : ℕ) (ds : List DefinitionView) (k : ℕ)
    → leaf_finished (after_these ds (stack_page (full_item sort b e n width ib l) leaf.Paragraph (bs ++ cut_block b ps p at k ∷ []) (ps ++ p ∷ []) l.end l.number (length (ps ++ p ∷ []))))
    ≡ after_these ds (stack_page (ended_item sort b e n width ib l) leaf.Nothing (bs ++ leaf_block b kind.Paragraph (start_from (ps ++ p ∷ []) (length ps + k) at) l.end (length ps + k) (length (ps ++ p ∷ [])) ∷ []) (ps ++ p ∷ []) l.end l.number (length (ps ++ p ∷ [])))
unfolding leaf_finished finished raised_at raised
cut_in_item l sort b e n width ib bs ps p at ds k =
    rw (take-length (ps ++ p ∷ []), get_last bs (cut_block b ps p at k), set_last bs (cut_block b ps p at k) (leaf_block b kind.Paragraph (start_from (ps ++ p ∷ []) (length ps + k) at) l.end (length ps + k) (length (ps ++ p ∷ [])))) refl

pub text_ends : (text : List ℕ) (l : Line) (sort b e n width ib : ℕ) (bs : List Block) (ps : List Piece) (p : Piece) (at : ℕ) (ds : List DefinitionView) (k : ℕ) → definitions_from text (p ∷ []) [] ≡ (ds, k) → length ps + k < 2 ^ 64
    → leaf_closed text (text_page sort b e n width ib l bs ps p at)
    ≡ after_these ds (stack_page (ended_item sort b e n width ib l) leaf.Nothing (bs ++ leaf_block b kind.Paragraph (start_from (ps ++ p ∷ []) (length ps + k) at) l.end (length ps + k) (length (ps ++ p ∷ [])) ∷ []) (ps ++ p ∷ []) l.end l.number (length (ps ++ p ∷ [])))
unfolding leaf_closed
text_ends text l sort b e n width ib bs ps p at ds k h fits =
    ap leaf_finished (settled_in_item text l sort b e n width ib bs ps p at ds k h fits) ∙ cut_in_item l sort b e n width ib bs ps p at ds k

-- A page on which lists are open in each other, with an item of each.
use Rattle.std.proofs.Common.{◌≡◌, ℕ, suc, ◌+◌, ◌-◌, ◌^◌, ◌<◌, ◌≤◌, Bool, true, false, ◌==◌, ◌&&◌, max, nat_lt, nat_le, List, [], ◌∷◌, ◌++◌, length, take, slice_get, refl, ap, sym, ◌∙◌, arith, append_assoc, append-nil, length-append, Option, Some, None}
use Rattle.std.proofs.Math.Seq.{take-length}
use Rattle.std.proofs.lemmas.Bool.Decides.{nat_tests}
use Rattle.tocmark_event.specs.declared.event.HeadingLevel.{HeadingLevel}
use Rattle.tocmark_read_scan.specs.Basic.{plus}
use Rattle.tocmark_read_scan.proofs.PlainContent.{get_behind, take_front}
use Rattle.tocmark_read_scan.proofs.PlainPieces.{drop_behind}
use Rattle.tocmark_read_lines.specs.Cells.{cell_place}
use Rattle.tocmark_read_lines.specs.Containers.{raised, raised_at}
use Rattle.tocmark_read_lines.specs.Marks.{tail_of}
use Rattle.tocmark_read_lines.specs.declared.beginnings.Heading.{Heading}
use Rattle.tocmark_read_lines.specs.declared.cell.Cell.{Cell}
use Rattle.tocmark_read_lines.specs.declared.cell.Cursor.{Cursor}
use Rattle.tocmark_read_lines.specs.declared.container.Container.TheVariants as container
use Rattle.tocmark_read_lines.specs.declared.container.ItemStart.{ItemStart}
use Rattle.tocmark_read_lines.specs.declared.container.Opened.{Opened}
use Rattle.tocmark_read_lines.specs.declared.line.Line.{Line}
use Rattle.tocmark_read_page.specs.Definitions.{DefinitionView, definitions_from}
use Rattle.tocmark_read_page.specs.Leaves.{is_paragraph}
use Rattle.tocmark_read_page.specs.Pages.{State, ended, is_quote, is_list, is_definitions, opened_with, leaf_opened, leaf_closed, closed_to, times, list_left, left_noted, list_of, begun, loosened, had_marked, is_apart, leaf_finished, finished, settled, shortened, has_text, piece_taken, one_closed, raised_last}
use Rattle.tocmark_read_page.specs.Pieces.{text_piece, heading_piece}
use Rattle.tocmark_read_page.specs.declared.leaf.Leaf.{Leaf}
use Rattle.tocmark_read_page.specs.declared.leaf.Leaf.TheVariants as leaf
use Rattle.tocmark_read_page.specs.declared.page.Block.{Block}
use Rattle.tocmark_read_page.specs.declared.page.BlockKind.{BlockKind}
use Rattle.tocmark_read_page.specs.declared.page.BlockKind.TheVariants as kind
use Rattle.tocmark_read_page.specs.declared.piece.Piece.{Piece}
use Rattle.tocmark_read_constructs.specs.Headings.{heading_put, heading_started_in, underlined, underlined_in}
use Rattle.tocmark_read_constructs.specs.Metadata.{metadata_in}
use Rattle.tocmark_read_blocks.specs.Blocks.{core_known, underlined_if, underline_taken_in, started_in, started}
use Rattle.tocmark_read_blocks.specs.Containers.{is_in_list, list_started}
use Rattle.tocmark_read_blocks.specs.Leaves.{rule_at, metadata_or}
use Rattle.tocmark_read_blocks.specs.Paragraphs.{text_started, text_taken, rule_started}
use Rattle.tocmark_read_blocks.specs.declared.leaf.LeafStart.{LeafStart}
use Rattle.tocmark_read_blocks.specs.declared.leaf.LeafStart.TheVariants as start
use Rattle.tocmark_block_laws.proofs.Apart.{after_these, one_closed_after, closed_after}
use Rattle.tocmark_block_laws.proofs.Open.{last_place, get_last}
use Rattle.tocmark_block_laws.proofs.Pages.{here, set_last, times_last, piece_in, piece_taken_whole, piece_if, has_words, words}
use Rattle.tocmark_block_laws.proofs.Paragraphs.{start_from}
use Rattle.tocmark_block_laws.proofs.ListPages.{list_box, item_box, stack_page, is_top_start}

-- where lines come in: outside lists, or in an item of a list, which is in these containers
pub data Home : Type 0 where
  AtTop : Home
  InItem : List Opened → ℕ → ℕ → ℕ → ℕ → ℕ → ℕ → Home

-- the open containers there, with the end and the line of the item, and whether a block is in it
abbrev pub boxes : Home → ℕ → ℕ → Bool → List Opened
boxes AtTop e n had = []
boxes (InItem outer sort b le ln width ib) e n had = (outer ++ list_box sort b le ln true ∷ []) ++ item_box width ib e n had ∷ []

-- how many these are
abbrev pub depth : Home → ℕ
depth AtTop = 0
depth (InItem outer sort b le ln width ib) = suc (suc (length outer))

-- the list that a block there is in
abbrev pub list_in : Home → Option ℕ
list_in AtTop = None
list_in (InItem outer sort b le ln width ib) = Some b

abbrev pub in_item : Home → Bool
in_item AtTop = false
in_item (InItem outer sort b le ln width ib) = true

-- a block there
abbrev pub block_in : Home → BlockKind → ℕ → ℕ → ℕ → ℕ → Block
block_in p k start end first last = record { depth = depth p; kind = k; start = start; end = end; first = first; last = last; loose = false; list = list_in p; task = None }

-- a page with nothing deeper open
abbrev pub home_page : Home → ℕ → ℕ → Bool → Leaf → List Block → List Piece → ℕ → ℕ → ℕ → State
home_page p e n had lf bs ps end number kept = stack_page (boxes p e n had) lf bs ps end number kept

-- the open containers

pub box_count : (p : Home) (e n : ℕ) (had : Bool) → length (boxes p e n had) ≡ depth p
box_count AtTop e n had = refl
box_count (InItem outer sort b le ln width ib) e n had =
    let one : length ((outer ++ list_box sort b le ln true ∷ []) ++ item_box width ib e n had ∷ []) ≡ length (outer ++ list_box sort b le ln true ∷ []) + 1 = length-append (outer ++ list_box sort b le ln true ∷ []) (item_box width ib e n had ∷ []) in
    let two : length (outer ++ list_box sort b le ln true ∷ []) ≡ length outer + 1 = length-append outer (list_box sort b le ln true ∷ []) in
    omega (arith, one, two)

had_boxes : (p : Home) (e n : ℕ) (had : Bool) → had_marked (boxes p e n had) ≡ boxes p e n true
unfolding had_marked
had_boxes AtTop e n had = refl
had_boxes (InItem outer sort b le ln width ib) e n had =
    let os : List Opened = outer ++ list_box sort b le ln true ∷ [] in
    rw (get_last os (item_box width ib e n had), set_last os (item_box width ib e n had) (item_box width ib e n true)) refl

raised_boxes : (p : Home) (e n : ℕ) (had : Bool) (end line : ℕ) → raised_at (boxes p e n had) (length (boxes p e n had) - 1) end line ≡ boxes p (max e end) (max n line) had
unfolding raised_at raised
raised_boxes AtTop e n had end line = refl
raised_boxes (InItem outer sort b le ln width ib) e n had end line =
    let os : List Opened = outer ++ list_box sort b le ln true ∷ [] in
    rw (get_last os (item_box width ib e n had), set_last os (item_box width ib e n had) (item_box width ib (max e end) (max n line) had)) refl

list_boxes : (p : Home) (e n : ℕ) (had : Bool) → list_of (boxes p e n had) ≡ list_in p
unfolding list_of
list_boxes AtTop e n had = refl
list_boxes (InItem outer sort b le ln width ib) e n had =
    let os : List Opened = outer ++ list_box sort b le ln true ∷ [] in
    let i : Opened = item_box width ib e n had in
    let whole : (os ++ i ∷ []) ≡ outer ++ list_box sort b le ln true ∷ i ∷ [] = append_assoc outer (list_box sort b le ln true ∷ []) (i ∷ []) in
    let at : length (os ++ i ∷ []) - 2 ≡ length outer = omega (arith, box_count (InItem outer sort b le ln width ib) e n had) in
    let found : slice_get (os ++ i ∷ []) (length (os ++ i ∷ []) - 2) ≡ Some (list_box sort b le ln true) = ap (slice_get (os ++ i ∷ [])) at ∙ ap (λ xs. slice_get xs (length outer)) whole ∙ get_behind outer (i ∷ []) (list_box sort b le ln true) in
    rw (get_last os i, found) refl

apart_boxes : (p : Home) (e n : ℕ) (had : Bool) (number : ℕ) → is_apart (boxes p e n had) number ≡ (in_item p && (had && nat_lt (plus n 1) number))
unfolding is_apart
apart_boxes AtTop e n had number = refl
apart_boxes (InItem outer sort b le ln width ib) e n had number = rw (get_last (outer ++ list_box sort b le ln true ∷ []) (item_box width ib e n had)) refl

left_boxes : (p : Home) (e n : ℕ) (had : Bool) (lf : Leaf) (bs : List Block) (ps : List Piece) (end number kept : ℕ) → list_left (home_page p e n had lf bs ps end number kept) ≡ home_page p e n had lf bs ps end number kept
unfolding list_left is_list
left_boxes AtTop e n had lf bs ps end number kept = refl
left_boxes (InItem outer sort b le ln width ib) e n had lf bs ps end number kept = rw (get_last (outer ++ list_box sort b le ln true ∷ []) (item_box width ib e n had)) refl

no_list_there : (sort : ℕ) (p : Home) (e n : ℕ) (had : Bool) (lf : Leaf) (bs : List Block) (ps : List Piece) (end number kept : ℕ) → is_in_list sort (home_page p e n had lf bs ps end number kept) ≡ false
unfolding is_in_list
no_list_there sort AtTop e n had lf bs ps end number kept = refl
no_list_there sort (InItem outer s b le ln width ib) e n had lf bs ps end number kept = rw (get_last (outer ++ list_box s b le ln true ∷ []) (item_box width ib e n had)) refl

-- what is open stays open

pub stack_stays : (text : List ℕ) (os : List Opened) (d : ℕ) (bs : List Block) (ps : List Piece) (end number kept : ℕ) → length os ≡ d → closed_to text d (stack_page os leaf.Nothing bs ps end number kept) ≡ stack_page os leaf.Nothing bs ps end number kept
unfolding closed_to leaf_closed times
stack_stays text os d bs ps end number kept e = ap (λ n. times one_closed n (stack_page os leaf.Nothing bs ps end number kept)) (let q : length os - d ≡ 0 = omega (arith, e) in q)

pub home_stays : (text : List ℕ) (p : Home) (e n : ℕ) (had : Bool) (bs : List Block) (ps : List Piece) (end number kept : ℕ) → closed_to text (depth p) (home_page p e n had leaf.Nothing bs ps end number kept) ≡ home_page p e n had leaf.Nothing bs ps end number kept
home_stays text p e n had bs ps end number kept = stack_stays text (boxes p e n had) (depth p) bs ps end number kept (box_count p e n had)

-- what ends from a depth on ends from the one before it on, and then the innermost container
pub closes_last : (text : List ℕ) (d : ℕ) (ds : List DefinitionView) (s t : State) → closed_to text (suc d) s ≡ after_these ds t → suc d ≤ length (leaf_closed text s).opened → closed_to text d s ≡ after_these ds (one_closed t)
unfolding closed_to
closes_last text d ds s t h deep =
    ap (λ m. times one_closed m u) (let q : length u.opened - d ≡ suc (length u.opened - suc d) = omega (arith, deep) in q)
    ∙ times_last one_closed (length u.opened - suc d) u
    ∙ ap one_closed h
    ∙ one_closed_after ds t
  where
    u : State
    u = leaf_closed text s

-- a page whose leaf ends so
pub closes_so : (text : List ℕ) (d : ℕ) (os : List Opened) (bs : List Block) (ps : List Piece) (end number kept : ℕ) (ds : List DefinitionView) (s : State) → leaf_closed text s ≡ after_these ds (stack_page os leaf.Nothing bs ps end number kept)
    → closed_to text d s ≡ after_these ds (closed_to text d (stack_page os leaf.Nothing bs ps end number kept))
unfolding closed_to leaf_closed
closes_so text d os bs ps end number kept ds s h = ap (λ (t : State). times one_closed (length t.opened - d) t) h ∙ closed_after text d ds (stack_page os leaf.Nothing bs ps end number kept)

-- the innermost container ends

last_closed : (os : List Opened) (o : Opened) (bs : List Block) (ps : List Piece) (end number kept : ℕ) → is_quote o.container ≡ false
    → one_closed (stack_page (os ++ o ∷ []) leaf.Nothing bs ps end number kept) ≡ stack_page (raised_at os (length os - 1) o.end o.line) leaf.Nothing (ended bs o.block o.end) ps end number kept
unfolding one_closed
last_closed os o bs ps end number kept e =
    rw (get_last os o, e) (ap (λ xs. raised_last o.end o.line (stack_page xs leaf.Nothing (ended bs o.block o.end) ps end number kept)) (ap (λ n. take n (os ++ o ∷ [])) (last_place os o) ∙ take_front os (o ∷ [])))

-- a list
pub list_closed : (p : Home) (e n sort b le ln : ℕ) (had : Bool) (bs : List Block) (ps : List Piece) (end number kept : ℕ)
    → one_closed (stack_page (boxes p e n true ++ list_box sort b le ln had ∷ []) leaf.Nothing bs ps end number kept) ≡ home_page p (max e le) (max n ln) true leaf.Nothing (ended bs b le) ps end number kept
unfolding is_quote
list_closed p e n sort b le ln had bs ps end number kept =
    last_closed (boxes p e n true) (list_box sort b le ln had) bs ps end number kept refl
    ∙ ap (λ os. stack_page os leaf.Nothing (ended bs b le) ps end number kept) (raised_boxes p e n true le ln)

raised_list : (outer : List Opened) (sort b le ln : ℕ) (had : Bool) (end line : ℕ) → raised_at (outer ++ list_box sort b le ln had ∷ []) (length (outer ++ list_box sort b le ln had ∷ []) - 1) end line ≡ outer ++ list_box sort b (max le end) (max ln line) had ∷ []
unfolding raised_at raised
raised_list outer sort b le ln had end line = rw (get_last outer (list_box sort b le ln had), set_last outer (list_box sort b le ln had) (list_box sort b (max le end) (max ln line) had)) refl

-- an item
pub item_closed : (outer : List Opened) (sort b le ln width ib e n : ℕ) (had : Bool) (bs : List Block) (ps : List Piece) (end number kept : ℕ)
    → one_closed (home_page (InItem outer sort b le ln width ib) e n had leaf.Nothing bs ps end number kept) ≡ stack_page (outer ++ list_box sort b (max le e) (max ln n) true ∷ []) leaf.Nothing (ended bs ib e) ps end number kept
unfolding is_quote
item_closed outer sort b le ln width ib e n had bs ps end number kept =
    last_closed (outer ++ list_box sort b le ln true ∷ []) (item_box width ib e n had) bs ps end number kept refl
    ∙ ap (λ os. stack_page os leaf.Nothing (ended bs ib e) ps end number kept) (raised_list outer sort b le ln true e n)

-- a block begins

-- a list is loose if a block in one of its items is apart from the one before it
abbrev pub loose_blocks : Home → ℕ → Bool → ℕ → List Block → List Block
loose_blocks p n had number bs = loosened (list_in p) (in_item p && (had && nat_lt (plus n 1) number)) bs

begun_there : (p : Home) (k : BlockKind) (at number : ℕ) (e n : ℕ) (had : Bool) (lf : Leaf) (bs : List Block) (ps : List Piece) (end line kept : ℕ)
    → begun k at number (home_page p e n had lf bs ps end line kept) ≡ home_page p e n true lf (loose_blocks p n had number bs ++ block_in p k at at (length ps) (length ps) ∷ []) ps end line kept
unfolding begun
begun_there p k at number e n had lf bs ps end line kept =
    rw (had_boxes p e n had, list_boxes p e n had, apart_boxes p e n had number, box_count p e n true) refl

pub leaf_opens : (text : List ℕ) (p : Home) (lf : Leaf) (k : BlockKind) (at : ℕ) (l : Line) (e n : ℕ) (had : Bool) (bs : List Block) (ps : List Piece) (end number kept : ℕ)
    → leaf_opened lf k at l (closed_to text (depth p) (home_page p e n had leaf.Nothing bs ps end number kept))
    ≡ home_page p e n true lf (loose_blocks p n had l.number bs ++ block_in p k at at (length ps) (length ps) ∷ []) ps l.end l.number (length ps)
unfolding leaf_opened
leaf_opens text p lf k at l e n had bs ps end number kept =
    ap (leaf_opened lf k at l) (home_stays text p e n had bs ps end number kept)
    ∙ ap (λ s. with_leaf (begun k at l.number s)) (left_boxes p e n had leaf.Nothing bs ps end number kept)
    ∙ ap with_leaf (begun_there p k at l.number e n had leaf.Nothing bs ps end number kept)
  where
    with_leaf : State → State
    with_leaf t = record t { leaf = lf; end = l.end; line = l.number; kept = length t.pieces }

leaf_ends : (p : Home) (lf : Leaf) (k : BlockKind) (at : ℕ) (e n first last end number kept : ℕ) (bs : List Block) (ps qs : List Piece) → take kept ps ≡ qs
    → leaf_finished (home_page p e n true lf (bs ++ block_in p k at at first last ∷ []) ps end number kept)
    ≡ home_page p (max e end) (max n number) true leaf.Nothing (bs ++ block_in p k at end first (length qs) ∷ []) qs end number kept
unfolding leaf_finished finished
leaf_ends p lf k at e n first last end number kept bs ps qs h =
    rw (h, get_last bs (block_in p k at at first last), set_last bs (block_in p k at at first last) (block_in p k at end first (length qs)), raised_boxes p e n true end number) refl

-- headings, thematic breaks and paragraphs

pub rule_there : (text : List ℕ) (p : Home) (cells : List Cell) (l : Line) (place : Cursor) (e n : ℕ) (had : Bool) (bs : List Block) (ps : List Piece) (end number kept : ℕ)
    → started start.Rule text cells l (tail_of cells) (here (depth p) place) (home_page p e n had leaf.Nothing bs ps end number kept)
    ≡ home_page p (max e l.end) (max n l.number) true leaf.Nothing (loose_blocks p n had l.number bs ++ block_in p kind.Rule (cell_place cells place.ink l.end) l.end (length ps) (length ps) ∷ []) ps l.end l.number (length ps)
unfolding started_in rule_started
rule_there text p cells l place e n had bs ps end number kept =
    ap leaf_finished (leaf_opens text p leaf.Nothing kind.Rule (cell_place cells place.ink l.end) l e n had bs ps end number kept)
    ∙ leaf_ends p leaf.Nothing kind.Rule (cell_place cells place.ink l.end) e n (length ps) (length ps) l.end l.number (length ps) (loose_blocks p n had l.number bs) ps ps (take-length ps)

heading_as : (text : List ℕ) (p : Home) (cells : List Cell) (l : Line) (place : Cursor) (h : Heading) (e n : ℕ) (had : Bool) (bs : List Block) (ps : List Piece) (end number kept : ℕ) (k : Bool) → has_words cells h l ≡ k
    → started (start.Heading h) text cells l (tail_of cells) (here (depth p) place) (home_page p e n had leaf.Nothing bs ps end number kept)
    ≡ home_page p (max e l.end) (max n l.number) true leaf.Nothing (loose_blocks p n had l.number bs ++ block_in p (kind.Heading h.level None) (cell_place cells place.ink l.end) l.end (length ps) (length (ps ++ piece_if k (heading_piece cells h l))) ∷ []) (ps ++ piece_if k (heading_piece cells h l)) l.end l.number (length (ps ++ piece_if k (heading_piece cells h l)))
unfolding started_in heading_started_in heading_put piece_taken heading_piece
heading_as text p cells l place h e n had bs ps end number kept true w =
    let q : Piece = heading_piece cells h l in
    ap (λ s. leaf_finished (piece_taken q l true s)) (leaf_opens text p leaf.Nothing (kind.Heading h.level None) (cell_place cells place.ink l.end) l e n had bs ps end number kept)
    ∙ rw w (leaf_ends p leaf.Nothing (kind.Heading h.level None) (cell_place cells place.ink l.end) e n (length ps) (length ps) l.end l.number (length (ps ++ q ∷ [])) (loose_blocks p n had l.number bs) (ps ++ q ∷ []) (ps ++ q ∷ []) (take-length (ps ++ q ∷ [])))
heading_as text p cells l place h e n had bs ps end number kept false w =
    ap (λ s. leaf_finished (piece_taken (heading_piece cells h l) l true s)) (leaf_opens text p leaf.Nothing (kind.Heading h.level None) (cell_place cells place.ink l.end) l e n had bs ps end number kept)
    ∙ rw w (leaf_ends p leaf.Nothing (kind.Heading h.level None) (cell_place cells place.ink l.end) e n (length ps) (length ps) l.end l.number (length ps) (loose_blocks p n had l.number bs) ps ps (take-length ps))
    ∙ ap (λ (xs : List Piece). home_page p (max e l.end) (max n l.number) true leaf.Nothing (loose_blocks p n had l.number bs ++ block_in p (kind.Heading h.level None) (cell_place cells place.ink l.end) l.end (length ps) (length xs) ∷ []) xs l.end l.number (length xs)) (sym (append-nil ps))

pub heading_there : (text : List ℕ) (p : Home) (cells : List Cell) (l : Line) (place : Cursor) (h : Heading) (e n : ℕ) (had : Bool) (bs : List Block) (ps : List Piece) (end number kept : ℕ)
    → started (start.Heading h) text cells l (tail_of cells) (here (depth p) place) (home_page p e n had leaf.Nothing bs ps end number kept)
    ≡ home_page p (max e l.end) (max n l.number) true leaf.Nothing (loose_blocks p n had l.number bs ++ block_in p (kind.Heading h.level None) (cell_place cells place.ink l.end) l.end (length ps) (length (ps ++ words cells h l)) ∷ []) (ps ++ words cells h l) l.end l.number (length (ps ++ words cells h l))
heading_there text p cells l place h e n had bs ps end number kept = heading_as text p cells l place h e n had bs ps end number kept (has_words cells h l) refl

-- the page with a paragraph of these lines
abbrev pub words_page : Home → ℕ → ℕ → List Block → List Piece → List Piece → ℕ → ℕ → ℕ → State
words_page p e n bs ps qs at end number = home_page p e n true leaf.Paragraph (bs ++ block_in p kind.Paragraph at at (length ps) (length ps) ∷ []) (ps ++ qs) end number (length (ps ++ qs))

started_first : (at : ℕ) (p : Home) (e n : ℕ) (bs : List Block) (ps : List Piece) (end number : ℕ)
    → text_started at (home_page p e n true leaf.Paragraph (bs ++ block_in p kind.Paragraph at at (length ps) (length ps) ∷ []) ps end number (length ps)) ≡ home_page p e n true leaf.Paragraph (bs ++ block_in p kind.Paragraph at at (length ps) (length ps) ∷ []) ps end number (length ps)
unfolding text_started
started_first at p e n bs ps end number =
    let same : nat_le (length ps) (length ps) ≡ true = grind (arith, nat_tests) in
    rw (get_last bs (block_in p kind.Paragraph at at (length ps) (length ps)), same, set_last bs (block_in p kind.Paragraph at at (length ps) (length ps)) (block_in p kind.Paragraph at at (length ps) (length ps))) refl

pub text_there : (text : List ℕ) (p : Home) (cells : List Cell) (l : Line) (place : Cursor) (e n : ℕ) (had : Bool) (bs : List Block) (ps : List Piece) (end number kept : ℕ) → nat_lt (cell_place cells place.ink l.end) l.next ≡ true
    → started start.Text text cells l (tail_of cells) (here (depth p) place) (home_page p e n had leaf.Nothing bs ps end number kept)
    ≡ words_page p e n (loose_blocks p n had l.number bs) ps (piece_in cells place l ∷ []) (cell_place cells place.ink l.end) l.end l.number
unfolding started_in text_taken text_piece is_paragraph
text_there text p cells l place e n had bs ps end number kept h =
    let at : ℕ = cell_place cells place.ink l.end in
    let cs : List Block = loose_blocks p n had l.number bs in
    ap (λ s. piece_taken (piece_in cells place l) l true (text_started at s)) (leaf_opens text p leaf.Paragraph kind.Paragraph at l e n had bs ps end number kept)
    ∙ ap (λ s. piece_taken (piece_in cells place l) l true s) (started_first at p e n cs ps l.end l.number)
    ∙ piece_taken_whole (piece_in cells place l) l (home_page p e n true leaf.Paragraph (cs ++ block_in p kind.Paragraph at at (length ps) (length ps) ∷ []) ps l.end l.number (length ps)) h refl

-- a line more in it

started_before : (from : ℕ) (p : Home) (e n : ℕ) (bs : List Block) (ps : List Piece) (q : Piece) (qs : List Piece) (at end number : ℕ) → text_started from (words_page p e n bs ps (q ∷ qs) at end number) ≡ words_page p e n bs ps (q ∷ qs) at end number
unfolding text_started
started_before from p e n bs ps q qs at end number =
    let more : length (ps ++ q ∷ qs) ≡ length ps + suc (length qs) = length-append ps (q ∷ qs) in
    let none : nat_le (length (ps ++ q ∷ qs)) (length ps) ≡ false = grind (arith, nat_tests) in
    rw (get_last bs (block_in p kind.Paragraph at at (length ps) (length ps)), none) refl

pub text_goes_on_there : (text : List ℕ) (p : Home) (cells : List Cell) (l : Line) (d : ℕ) (place : Cursor) (e n : ℕ) (bs : List Block) (ps : List Piece) (q : Piece) (qs : List Piece) (at end number : ℕ) → nat_lt (cell_place cells place.ink l.end) l.next ≡ true
    → started start.Text text cells l (tail_of cells) (here d place) (words_page p e n bs ps (q ∷ qs) at end number) ≡ words_page p e n bs ps (q ∷ (qs ++ piece_in cells place l ∷ [])) at l.end l.number
unfolding started_in text_taken text_piece is_paragraph
text_goes_on_there text p cells l d place e n bs ps q qs at end number h =
    ap (λ s. piece_taken (piece_in cells place l) l true s) (started_before (cell_place cells place.ink l.end) p e n bs ps q qs at end number)
    ∙ piece_taken_whole (piece_in cells place l) l (words_page p e n bs ps (q ∷ qs) at end number) h refl
    ∙ ap (λ (xs : List Piece). record (words_page p e n bs ps (q ∷ qs) at l.end l.number) { pieces = xs; kept = length xs }) (append_assoc ps (q ∷ qs) (piece_in cells place l ∷ []))

-- the block without so many lines
abbrev cut_block : Home → List Piece → List Piece → ℕ → ℕ → Block
cut_block p ps qs at k = block_in p kind.Paragraph (start_from (ps ++ qs) (length ps + k) at) at (length ps + k) (length ps)

settled_there : (text : List ℕ) (p : Home) (e n : ℕ) (bs : List Block) (ps qs : List Piece) (at end number : ℕ) (ds : List DefinitionView) (k : ℕ) → definitions_from text qs [] ≡ (ds, k) → length ps + k < 2 ^ 64
    → settled text (words_page p e n bs ps qs at end number)
    ≡ after_these ds (home_page p e n true leaf.Paragraph (bs ++ cut_block p ps qs at k ∷ []) (ps ++ qs) end number (length (ps ++ qs)))
unfolding settled shortened
settled_there text p e n bs ps qs at end number ds k h fits =
    let first : plus (length ps) k ≡ length ps + k = omega (arith, fits) in
    rw (get_last bs (block_in p kind.Paragraph at at (length ps) (length ps)), drop_behind ps qs, h, first, set_last bs (block_in p kind.Paragraph at at (length ps) (length ps)) (cut_block p ps qs at k), append-nil ds) refl

cut_there : (p : Home) (e n : ℕ) (bs : List Block) (ps qs : List Piece) (at end number : ℕ) (ds : List DefinitionView) (k : ℕ)
    → leaf_finished (after_these ds (home_page p e n true leaf.Paragraph (bs ++ cut_block p ps qs at k ∷ []) (ps ++ qs) end number (length (ps ++ qs))))
    ≡ after_these ds (home_page p (max e end) (max n number) true leaf.Nothing (bs ++ block_in p kind.Paragraph (start_from (ps ++ qs) (length ps + k) at) end (length ps + k) (length (ps ++ qs)) ∷ []) (ps ++ qs) end number (length (ps ++ qs)))
unfolding leaf_finished finished
cut_there p e n bs ps qs at end number ds k =
    rw (take-length (ps ++ qs), get_last bs (cut_block p ps qs at k), set_last bs (cut_block p ps qs at k) (block_in p kind.Paragraph (start_from (ps ++ qs) (length ps + k) at) end (length ps + k) (length (ps ++ qs))), raised_boxes p e n true end number) refl

pub words_end : (text : List ℕ) (p : Home) (e n : ℕ) (bs : List Block) (ps qs : List Piece) (at end number : ℕ) (ds : List DefinitionView) (k : ℕ) → definitions_from text qs [] ≡ (ds, k) → length ps + k < 2 ^ 64
    → leaf_closed text (words_page p e n bs ps qs at end number)
    ≡ after_these ds (home_page p (max e end) (max n number) true leaf.Nothing (bs ++ block_in p kind.Paragraph (start_from (ps ++ qs) (length ps + k) at) end (length ps + k) (length (ps ++ qs)) ∷ []) (ps ++ qs) end number (length (ps ++ qs)))
unfolding leaf_closed
words_end text p e n bs ps qs at end number ds k h fits =
    ap leaf_finished (settled_there text p e n bs ps qs at end number ds k h fits) ∙ cut_there p e n bs ps qs at end number ds k

-- an underline makes a heading of the lines

has_cut : (p : Home) (e n : ℕ) (bs : List Block) (ps : List Piece) (q : Piece) (qs : List Piece) (at end number : ℕ) (ds : List DefinitionView) → has_text (after_these ds (home_page p e n true leaf.Paragraph (bs ++ cut_block p ps (q ∷ qs) at 0 ∷ []) (ps ++ q ∷ qs) end number (length (ps ++ q ∷ qs)))) ≡ true
unfolding has_text
has_cut p e n bs ps q qs at end number ds =
    let long : length (ps ++ q ∷ qs) ≡ length ps + suc (length qs) = length-append ps (q ∷ qs) in
    let some : nat_lt (length ps + 0) (length (ps ++ q ∷ qs)) ≡ true = grind (arith, long, nat_tests) in
    rw (get_last bs (cut_block p ps (q ∷ qs) at 0), some) refl

-- the heading
abbrev pub under_block : Home → HeadingLevel → List Piece → List Piece → ℕ → ℕ → Block
under_block p level ps qs at end = block_in p (kind.Heading level None) (start_from (ps ++ qs) (length ps + 0) at) end (length ps + 0) (length (ps ++ qs))

underlined_cut : (p : Home) (e n : ℕ) (l : Line) (level : HeadingLevel) (bs : List Block) (ps qs : List Piece) (at end number : ℕ) (ds : List DefinitionView)
    → underlined level None l (after_these ds (home_page p e n true leaf.Paragraph (bs ++ cut_block p ps qs at 0 ∷ []) (ps ++ qs) end number (length (ps ++ qs))))
    ≡ after_these ds (home_page p (max e l.end) (max n l.number) true leaf.Nothing (bs ++ under_block p level ps qs at l.end ∷ []) (ps ++ qs) l.end l.number (length (ps ++ qs)))
unfolding underlined leaf_finished finished
underlined_cut p e n l level bs ps qs at end number ds =
    let b : Block = cut_block p ps qs at 0 in
    let c : Block = block_in p (kind.Heading level None) (start_from (ps ++ qs) (length ps + 0) at) at (length ps + 0) (length ps) in
    rw (get_last bs b, set_last bs b c, take-length (ps ++ qs), get_last bs c, set_last bs c (under_block p level ps qs at l.end), raised_boxes p e n true l.end l.number) refl

pub underline_there : (text : List ℕ) (p : Home) (cells : List Cell) (l : Line) (d : ℕ) (place : Cursor) (level : HeadingLevel) (e n : ℕ) (bs : List Block) (ps : List Piece) (q : Piece) (qs : List Piece) (at end number : ℕ) → definitions_from text (q ∷ qs) [] ≡ ([], 0) → length ps + 0 < 2 ^ 64
    → started (start.Underline level) text cells l (tail_of cells) (here d place) (words_page p e n bs ps (q ∷ qs) at end number)
    ≡ home_page p (max e l.end) (max n l.number) true leaf.Nothing (bs ++ under_block p level ps (q ∷ qs) at l.end ∷ []) (ps ++ q ∷ qs) l.end l.number (length (ps ++ q ∷ qs))
unfolding started_in underline_taken_in underlined_in metadata_in metadata_or
underline_there text p cells l d place level e n bs ps q qs at end number h fits =
    ap (λ t. underlined_if core_known (has_text t) (rule_at cells (tail_of cells) place.ink) text cells l (here d place) level t) (settled_there text p e n bs ps (q ∷ qs) at end number [] 0 h fits)
    ∙ ap (λ b. underlined_if core_known b (rule_at cells (tail_of cells) place.ink) text cells l (here d place) level (after_these [] (home_page p e n true leaf.Paragraph (bs ++ cut_block p ps (q ∷ qs) at 0 ∷ []) (ps ++ q ∷ qs) end number (length (ps ++ q ∷ qs))))) (has_cut p e n bs ps q qs at end number [])
    ∙ underlined_cut p e n l level bs ps (q ∷ qs) at end number []

-- lists and items begin

pub list_opens : (item : ItemStart) (at : ℕ) (l : Line) (p : Home) (e n : ℕ) (had : Bool) (bs : List Block) (ps : List Piece) (end number kept : ℕ)
    → list_started item at l (home_page p e n had leaf.Nothing bs ps end number kept)
    ≡ stack_page (boxes p e n true ++ list_box item.sort (length (loose_blocks p n had l.number bs)) l.end l.number false ∷ []) leaf.Nothing (loose_blocks p n had l.number bs ++ block_in p (kind.List item.number) at at (length ps) (length ps) ∷ []) ps end number kept
unfolding list_started opened_with is_quote
list_opens item at l p e n had bs ps end number kept =
    let cs : List Block = loose_blocks p n had l.number bs in
    let x : Block = block_in p (kind.List item.number) at at (length ps) (length ps) in
    rw (no_list_there item.sort p e n had leaf.Nothing bs ps end number kept, left_boxes p e n had leaf.Nothing bs ps end number kept, begun_there p (kind.List item.number) at l.number e n had leaf.Nothing bs ps end number kept, last_place cs x) refl

pub item_opens : (width at : ℕ) (l : Line) (outer : List Opened) (sort b le ln : ℕ) (had : Bool) (bs : List Block) (ps : List Piece) (end number kept : ℕ) (apart : Bool) → (had && nat_lt (plus ln 1) l.number) ≡ apart
    → opened_with (container.Item width) kind.Item at l (stack_page (outer ++ list_box sort b le ln had ∷ []) leaf.Nothing bs ps end number kept)
    ≡ home_page (InItem outer sort b le ln width (length (loosened (Some b) apart bs))) l.end l.number false leaf.Nothing (loosened (Some b) apart bs ++ record { depth = suc (length outer); kind = kind.Item; start = at; end = at; first = length ps; last = length ps; loose = false; list = Some b; task = None } ∷ []) ps end number kept
unfolding opened_with begun list_of is_apart had_marked is_quote
item_opens width at l outer sort b le ln had bs ps end number kept apart near =
    let os : List Opened = outer ++ list_box sort b le ln true ∷ [] in
    let cs : List Block = loosened (Some b) apart bs in
    let count : length os ≡ suc (length outer) = (let q : length os ≡ length outer + 1 = length-append outer (list_box sort b le ln true ∷ []) in let r : length os ≡ suc (length outer) = omega (arith, q) in r) in
    let x : Block = record { depth = suc (length outer); kind = kind.Item; start = at; end = at; first = length ps; last = length ps; loose = false; list = Some b; task = None } in
    rw (get_last outer (list_box sort b le ln had), set_last outer (list_box sort b le ln had) (list_box sort b le ln true), near, count, last_place cs x) refl

pub list_goes_on : (item : ItemStart) (at : ℕ) (l : Line) (outer : List Opened) (sort b le ln : ℕ) (had : Bool) (bs : List Block) (ps : List Piece) (end number kept : ℕ) → (sort == item.sort) ≡ true
    → list_started item at l (stack_page (outer ++ list_box sort b le ln had ∷ []) leaf.Nothing bs ps end number kept) ≡ stack_page (outer ++ list_box sort b le ln had ∷ []) leaf.Nothing bs ps end number kept
unfolding list_started is_in_list
list_goes_on item at l outer sort b le ln had bs ps end number kept same = rw (get_last outer (list_box sort b le ln had), same) refl

list_leaves : (p : Home) (e n sort b le ln : ℕ) (had : Bool) (bs : List Block) (ps : List Piece) (end number kept : ℕ)
    → list_left (stack_page (boxes p e n true ++ list_box sort b le ln had ∷ []) leaf.Nothing bs ps end number kept) ≡ home_page p (max e le) (max n ln) true leaf.Nothing (ended bs b le) ps end number kept
unfolding list_left is_list left_noted is_definitions
list_leaves p e n sort b le ln had bs ps end number kept =
    rw (get_last (boxes p e n true) (list_box sort b le ln had)) (list_closed p e n sort b le ln had bs ps end number kept)

in_other : (same : ℕ) (q : Home) (f m sort b le ln : ℕ) (had : Bool) (bs : List Block) (ps : List Piece) (end number kept : ℕ) → (sort == same) ≡ false → is_in_list same (stack_page (boxes q f m true ++ list_box sort b le ln had ∷ []) leaf.Nothing bs ps end number kept) ≡ false
unfolding is_in_list
in_other same q f m sort b le ln had bs ps end number kept h = rw (get_last (boxes q f m true) (list_box sort b le ln had), h) refl

pub list_ends : (item : ItemStart) (at : ℕ) (l : Line) (p : Home) (e n sort b le ln : ℕ) (had : Bool) (bs : List Block) (ps : List Piece) (end number kept : ℕ) → (sort == item.sort) ≡ false
    → list_started item at l (stack_page (boxes p e n true ++ list_box sort b le ln had ∷ []) leaf.Nothing bs ps end number kept) ≡ list_started item at l (home_page p (max e le) (max n ln) true leaf.Nothing (ended bs b le) ps end number kept)
unfolding list_started
list_ends item at l p e n sort b le ln had bs ps end number kept other =
    let k : Opened = list_box sort b le ln had in
    let page : State = home_page p (max e le) (max n ln) true leaf.Nothing (ended bs b le) ps end number kept in
    let inside : is_in_list item.sort (stack_page (boxes p e n true ++ k ∷ []) leaf.Nothing bs ps end number kept) ≡ false = in_other item.sort p e n sort b le ln had bs ps end number kept other in
    rw (inside, no_list_there item.sort p (max e le) (max n ln) true leaf.Nothing (ended bs b le) ps end number kept) (ap (opened_with (container.List item.sort) (kind.List item.number) at l) (list_leaves p e n sort b le ln had bs ps end number kept ∙ sym (left_boxes p (max e le) (max n ln) true leaf.Nothing (ended bs b le) ps end number kept)))

-- a leaf begins after a list as where the list has ended

opens_same : (text : List ℕ) (lf : Leaf) (k : BlockKind) (at : ℕ) (l : Line) (p : Home) (e n sort b le ln : ℕ) (had : Bool) (bs : List Block) (ps : List Piece) (end number kept : ℕ)
    → leaf_opened lf k at l (closed_to text (suc (depth p)) (stack_page (boxes p e n true ++ list_box sort b le ln had ∷ []) leaf.Nothing bs ps end number kept)) ≡ leaf_opened lf k at l (closed_to text (depth p) (home_page p (max e le) (max n ln) true leaf.Nothing (ended bs b le) ps end number kept))
unfolding leaf_opened
opens_same text lf k at l p e n sort b le ln had bs ps end number kept =
    let page : State = home_page p (max e le) (max n ln) true leaf.Nothing (ended bs b le) ps end number kept in
    let count : length (boxes p e n true ++ list_box sort b le ln had ∷ []) ≡ suc (depth p) = (let q : length (boxes p e n true ++ list_box sort b le ln had ∷ []) ≡ length (boxes p e n true) + 1 = length-append (boxes p e n true) (list_box sort b le ln had ∷ []) in let r : length (boxes p e n true ++ list_box sort b le ln had ∷ []) ≡ suc (depth p) = omega (arith, q, box_count p e n true) in r) in
    ap (leaf_opened lf k at l) (stack_stays text (boxes p e n true ++ list_box sort b le ln had ∷ []) (suc (depth p)) bs ps end number kept count)
    ∙ ap after (list_leaves p e n sort b le ln had bs ps end number kept ∙ sym (left_boxes p (max e le) (max n ln) true leaf.Nothing (ended bs b le) ps end number kept))
    ∙ ap (leaf_opened lf k at l) (sym (home_stays text p (max e le) (max n ln) true (ended bs b le) ps end number kept))
  where
    after : State → State
    after s = let t : State = begun k at l.number s in record t { leaf = lf; end = l.end; line = l.number; kept = length t.pieces }

pub leaf_after_list : (text : List ℕ) (cells : List Cell) (l : Line) (place : Cursor) (x : LeafStart) (p : Home) (e n sort b le ln : ℕ) (had : Bool) (bs : List Block) (ps : List Piece) (end number kept : ℕ) → is_top_start x ≡ true
    → started x text cells l (tail_of cells) (here (suc (depth p)) place) (stack_page (boxes p e n true ++ list_box sort b le ln had ∷ []) leaf.Nothing bs ps end number kept)
    ≡ started x text cells l (tail_of cells) (here (depth p) place) (home_page p (max e le) (max n ln) true leaf.Nothing (ended bs b le) ps end number kept)
unfolding started_in rule_started heading_started_in heading_put text_taken text_piece is_paragraph
leaf_after_list text cells l place (start.Heading h) p e n sort b le ln had bs ps end number kept x =
    ap (λ s. leaf_finished (piece_taken (heading_piece cells h l) l true s)) (opens_same text leaf.Nothing (kind.Heading h.level None) (cell_place cells place.ink l.end) l p e n sort b le ln had bs ps end number kept)
leaf_after_list text cells l place start.Rule p e n sort b le ln had bs ps end number kept x =
    ap leaf_finished (opens_same text leaf.Nothing kind.Rule (cell_place cells place.ink l.end) l p e n sort b le ln had bs ps end number kept)
leaf_after_list text cells l place start.Text p e n sort b le ln had bs ps end number kept x =
    ap (λ s. piece_taken (piece_in cells place l) l true (text_started (cell_place cells place.ink l.end) s)) (opens_same text leaf.Paragraph kind.Paragraph (cell_place cells place.ink l.end) l p e n sort b le ln had bs ps end number kept)
leaf_after_list text cells l place start.Blank p e n sort b le ln had bs ps end number kept x = absurd cc
leaf_after_list text cells l place (start.Indented c) p e n sort b le ln had bs ps end number kept x = absurd cc
leaf_after_list text cells l place (start.Fence f) p e n sort b le ln had bs ps end number kept x = absurd cc
leaf_after_list text cells l place (start.Html k) p e n sort b le ln had bs ps end number kept x = absurd cc
leaf_after_list text cells l place (start.Underline v) p e n sort b le ln had bs ps end number kept x = absurd cc
leaf_after_list text cells l place (start.Metadata k) p e n sort b le ln had bs ps end number kept x = absurd cc
leaf_after_list text cells l place (start.Task d) p e n sort b le ln had bs ps end number kept x = absurd cc
leaf_after_list text cells l place (start.QuoteKind k) p e n sort b le ln had bs ps end number kept x = absurd cc

-- How a list item begins with its first line.
use Rattle.std.proofs.Common.{◌≡◌, ℕ, zero, suc, ◌+◌, ◌-◌, ◌*◌, ◌^◌, ◌<◌, ◌≤◌, Bool, true, false, if◌then◌else◌, nat_lt, nat_le, List, [], ◌∷◌, length, refl, ap, ap₂, sym, subst₂, ◌∙◌, arith}
use Rattle.std.specs.Prelude.{Option, Some, None, unwrap_or}
use Rattle.std.specs.Option.{option_map}
use Rattle.std.proofs.lemmas.Bool.Decides.{nat_tests}
use Rattle.tocmark_event.specs.declared.event.HeadingLevel.{HeadingLevel}
use Rattle.tocmark_read_scan.specs.Basic.{plus, bytes_between}
use Rattle.tocmark_read_scan.specs.Repeat.{going, repeated}
use Rattle.tocmark_read_scan.specs.declared.syntax.TheConstants.{CORE}
use Rattle.tocmark_read_lines.specs.Cells.{cell_place, first_cursor, ink_from, moved}
use Rattle.tocmark_read_lines.specs.Containers.{container_in}
use Rattle.tocmark_read_lines.specs.Marks.{heading_at, fence_at, is_rule, tail_of, underline_at}
use Rattle.tocmark_read_lines.specs.declared.beginnings.Fence.{Fence}
use Rattle.tocmark_read_lines.specs.declared.beginnings.Heading.{Heading}
use Rattle.tocmark_read_lines.specs.declared.beginnings.Tail.{Tail}
use Rattle.tocmark_read_lines.specs.declared.cell.Cell.{Cell}
use Rattle.tocmark_read_lines.specs.declared.cell.Cursor.{Cursor}
use Rattle.tocmark_read_lines.specs.declared.container.Container.TheVariants as container
use Rattle.tocmark_read_lines.specs.declared.container.ContainerStart.{ContainerStart}
use Rattle.tocmark_read_lines.specs.declared.container.ContainerStart.TheVariants as begins
use Rattle.tocmark_read_lines.specs.declared.container.ItemStart.{ItemStart}
use Rattle.tocmark_read_lines.specs.declared.html.HtmlKind.{HtmlKind}
use Rattle.tocmark_read_lines.specs.declared.line.Line.{Line}
use Rattle.tocmark_read_page.specs.Leaves.{is_paragraph}
use Rattle.tocmark_read_page.specs.Pages.{State, first_page, leaf_finished, leaf_closed, closed_to, times, is_quote, is_list, list_left, list_of, is_apart, loosened, had_marked, begun, opened_with, leaf_opened, piece_taken, start_of}
use Rattle.tocmark_read_page.specs.Pieces.{text_piece, heading_piece}
use Rattle.tocmark_read_page.specs.declared.leaf.Leaf.{Leaf}
use Rattle.tocmark_read_page.specs.declared.leaf.Leaf.TheVariants as leaf
use Rattle.tocmark_read_page.specs.declared.line_start.LineStart.{LineStart}
use Rattle.tocmark_read_page.specs.declared.page.BlockKind.{BlockKind}
use Rattle.tocmark_read_page.specs.declared.page.BlockKind.TheVariants as kind
use Rattle.tocmark_read_page.specs.declared.page.HeaderLine.TheVariants.{Never}
use Rattle.tocmark_read_constructs.specs.Headings.{heading_put, heading_started_in}
use Rattle.tocmark_read_constructs.specs.Quotes.{quote_opened}
use Rattle.tocmark_read_blocks.specs.Blocks.{core_known, started_in, started_at_in, cells_taken_in}
use Rattle.tocmark_read_blocks.specs.Codes.{info_of, code_taken, indented_started, fence_started, html_started}
use Rattle.tocmark_read_blocks.specs.Containers.{goes_directly, is_in_list, list_started, item_opened, begun_at, container_once_in}
use Rattle.tocmark_read_blocks.specs.Leaves.{html_at, underline_in, rule_at, mark_at, leaf_at}
use Rattle.tocmark_read_blocks.specs.Paragraphs.{text_started, text_taken, rule_started}
use Rattle.tocmark_read_blocks.specs.declared.leaf.LeafStart.{LeafStart}
use Rattle.tocmark_read_blocks.specs.declared.leaf.LeafStart.TheVariants as start
use Rattle.tocmark_text_laws.proofs.QuotedCells.{Fronted, cursor_on, length_on, ink_two}
use Rattle.tocmark_text_laws.proofs.QuotedMarks.{heading_on}
use Rattle.tocmark_text_laws.proofs.QuotedContainers.{front_in, start_on, item_on, Fine, StartOn, container_in_two}
use Rattle.tocmark_text_laws.proofs.QuotedPieces.{Beside}
use Rattle.tocmark_text_laws.proofs.QuotedLeaves.{leaf_on, FineLeaf, LeafOn}
use Rattle.tocmark_text_laws.proofs.QuotedTurns.{first_taken}
use Rattle.tocmark_text_laws.proofs.ItemContainers.{front_at}
use Rattle.tocmark_text_laws.proofs.ItemPages.{Inside, inside_more}
use Rattle.tocmark_text_laws.proofs.ItemLeaves.{place_in}
use Rattle.tocmark_text_laws.proofs.ItemBegun.{repeated_two}
use Rattle.tocmark_text_laws.proofs.ItemTurns.{core_at_two, went_started}
use Rattle.tocmark_text_laws.proofs.Pages.{is_shut}
use Rattle.tocmark_text_laws.proofs.Leaves.{is_core}
use Rattle.tocmark_text_laws.proofs.Machine.{core_at, core_begun}

-- the page on which a list and its item are open, in which a block is or not
abbrev pub item_page : ItemStart → ℕ → ℕ → ℕ → Bool → State
item_page item start end number had = record {
  blocks = record { depth = 0; kind = kind.List item.number; start = start; end = start; first = 0; last = 0; loose = false; list = None; task = None } ∷ record { depth = 1; kind = kind.Item; start = start; end = start; first = 0; last = 0; loose = false; list = Some 0; task = None } ∷ [];
  pieces = [];
  definitions = [];
  opened = record { container = container.List item.sort; block = 0; end = end; line = number; had = true } ∷ record { container = container.Item item.width; block = 1; end = end; line = number; had = had } ∷ [];
  quotes = [];
  leaf = leaf.Nothing;
  end = 0;
  line = 0;
  kept = 0;
  header = Never;
  tried = 0;
  left = None;
  filled = 0;
}

page_inside : (item : ItemStart) (t q : List ℕ) (start end number : ℕ) → Inside item t q 0 (item_page item start end number true) first_page
unfolding is_core is_shut
page_inside item t q start end number = record {
  opened = record { after = (record { list = refl; first = refl }, (record { held = refl; second = refl; had = refl }, tt)); rooted = tt; few = omega arith };
  blocks = (refl, (refl, tt));
  pieces = tt;
  definitions = refl;
  quotes = refl;
  counted = refl;
  leaf = refl;
  core = refl;
  kept = refl;
  tied = λ o. absurd cc;
}

-- the list and the item begin
item_begins : (item : ItemStart) (before : ℕ) (q : List ℕ) (w : List Cell) (l' : Line) → item_opened q w l' (record { cursor = front_at before; depth = 0 }) item first_page ≡ (item_page item (cell_place w before l'.end) l'.end l'.number false, record { cursor = moved w (front_at before) item.next; depth = 2 })
unfolding item_opened list_started is_in_list closed_to leaf_closed times list_left is_list list_of is_apart loosened had_marked begun opened_with is_quote
item_begins item before q w l' = refl

-- The first block in the item begins in the line in which the item began: whether a block was in it before makes no difference.

leaf_same : (item : ItemStart) (q : List ℕ) (start : ℕ) (l' : Line) (f : Leaf) (k : BlockKind) (from : ℕ) → nat_lt (plus l'.number 1) l'.number ≡ false
    → leaf_opened f k from l' (closed_to q 2 (item_page item start l'.end l'.number false)) ≡ leaf_opened f k from l' (closed_to q 2 (item_page item start l'.end l'.number true))
unfolding leaf_opened closed_to leaf_closed times list_left is_list begun list_of is_apart loosened had_marked
leaf_same item q start l' f k from late = rw late refl

quote_same : (item : ItemStart) (q : List ℕ) (w : List Cell) (start : ℕ) (l' : Line) (c : Cursor) → nat_lt (plus l'.number 1) l'.number ≡ false
    → quote_opened q w l' (record { cursor = c; depth = 2 }) (item_page item start l'.end l'.number false) ≡ quote_opened q w l' (record { cursor = c; depth = 2 }) (item_page item start l'.end l'.number true)
unfolding quote_opened opened_with closed_to leaf_closed times list_left is_list begun list_of is_apart loosened had_marked is_quote
quote_same item q w start l' c late = rw late refl

item_same : (item : ItemStart) (q : List ℕ) (w : List Cell) (start : ℕ) (l' : Line) (c : Cursor) (x : ItemStart) → nat_lt (plus l'.number 1) l'.number ≡ false
    → item_opened q w l' (record { cursor = c; depth = 2 }) x (item_page item start l'.end l'.number false) ≡ item_opened q w l' (record { cursor = c; depth = 2 }) x (item_page item start l'.end l'.number true)
unfolding item_opened list_started is_in_list opened_with closed_to leaf_closed times list_left is_list begun list_of is_apart loosened had_marked is_quote
item_same item q w start l' c x late = rw late refl

-- a line that isn't blank begins a leaf
abbrev is_blank_start : LeafStart → Bool
is_blank_start start.Blank = true
is_blank_start start.Text = false
is_blank_start (start.Indented column) = false
is_blank_start (start.Heading h) = false
is_blank_start (start.Fence f) = false
is_blank_start (start.Html k) = false
is_blank_start (start.Underline l) = false
is_blank_start start.Rule = false
is_blank_start (start.Metadata k) = false
is_blank_start (start.Task d) = false
is_blank_start (start.QuoteKind k) = false

leaf_some : (r : List Cell) (rest : List ℕ) (tail : Tail) (c : Cursor) (p d : Bool) → nat_le (length r) c.ink ≡ false → is_blank_start (leaf_at r rest tail c p d) ≡ false
unfolding leaf_at mark_at underline_in rule_at
leaf_some r rest tail c p d e = rw e (by (nat_lt (c.ink - c.column) 4) p (heading_at r c.ink) (fence_at r c) (html_at rest p) d (underline_at r c.ink) (is_rule r tail c.ink))
  where
    by : (near : Bool) (k : Bool) (x : Option Heading) (f : Option Fence) (h : Option HtmlKind) (e : Bool) (u : Option HeadingLevel) (b : Bool)
        → is_blank_start (if near then (unwrap_or (option_map (λ h. start.Heading h) x) (unwrap_or (option_map (λ f. start.Fence f) f) (unwrap_or (option_map (λ k. start.Html k) h) (unwrap_or (option_map (λ l. start.Underline l) (if e then u else None)) (if b then start.Rule else start.Text))))) else (if k then start.Text else start.Indented (plus c.column 4))) ≡ false
    by false true x f h e u b = refl
    by false false x f h e u b = refl
    by true k (Some x) f h e u b = refl
    by true k None (Some f) h e u b = refl
    by true k None None (Some h) e u b = refl
    by true k None None None true (Some u) b = refl
    by true k None None None true None true = refl
    by true k None None None true None false = refl
    by true k None None None false u true = refl
    by true k None None None false u false = refl

started_same : (item : ItemStart) (q : List ℕ) (w r : List Cell) (from shift : ℕ) (l' : Line) (c : Cursor) (b : LeafStart) → nat_lt (plus l'.number 1) l'.number ≡ false → is_blank_start b ≡ false → FineLeaf r c false b
    → started_in core_known (leaf_on shift b) q w l' (tail_of w) (record { cursor = cursor_on shift c; depth = 2 }) (item_page item from l'.end l'.number false)
    ≡ started_in core_known (leaf_on shift b) q w l' (tail_of w) (record { cursor = cursor_on shift c; depth = 2 }) (item_page item from l'.end l'.number true)
unfolding started_in text_taken is_paragraph indented_started heading_started_in heading_put fence_started html_started rule_started
started_same item q w r from shift l' c start.Blank late some fine = absurd cc
started_same item q w r from shift l' c start.Text late some fine =
    ap (λ u. piece_taken (text_piece w (cursor_on shift c) l') l' true (text_started (text_piece w (cursor_on shift c) l').start u)) (leaf_same item q from l' leaf.Paragraph kind.Paragraph (text_piece w (cursor_on shift c) l').start late)
started_same item q w r from shift l' c (start.Indented column) late some fine =
    ap (code_taken q w (shift + column) l') (leaf_same item q from l' leaf.Indented kind.Indented (cell_place w (shift + column) l'.end) late)
started_same item q w r from shift l' c (start.Heading x) late some fine =
    ap (λ u. leaf_finished (piece_taken (heading_piece w (heading_on shift x) l') l' true u)) (leaf_same item q from l' leaf.Nothing (kind.Heading x.level None) (cell_place w (shift + c.ink) l'.end) late)
started_same item q w r from shift l' c (start.Fence f) late some fine =
    leaf_same item q from l' (leaf.Fenced f) (info_of w (cursor_on shift c) f l') (cell_place w (shift + c.ink) l'.end) late
started_same item q w r from shift l' c (start.Html k) late some fine =
    ap (code_taken q w (shift + c.column) l') (leaf_same item q from l' (leaf.Html k) kind.Html (cell_place w (shift + c.column) l'.end) late)
started_same item q w r from shift l' c (start.Underline level) late some fine = absurd cc
started_same item q w r from shift l' c start.Rule late some fine =
    ap leaf_finished (leaf_same item q from l' leaf.Nothing kind.Rule (cell_place w (shift + c.ink) l'.end) late)
started_same item q w r from shift l' c (start.Metadata k) late some fine = absurd fine
started_same item q w r from shift l' c (start.Task b) late some fine = absurd fine
started_same item q w r from shift l' c (start.QuoteKind k) late some fine = absurd fine

-- the leaf that begins in the item is the same
core_same : (item : ItemStart) (q : List ℕ) (w : List Cell) (start : ℕ) (l' : Line) (place : LineStart) → core_at q w l' (tail_of w) (item_page item start l'.end l'.number false) place ≡ core_at q w l' (tail_of w) (item_page item start l'.end l'.number true) place
unfolding goes_directly is_paragraph
core_same item q w start l' place = refl

-- the containers that begin are the same
directly_same : (item : ItemStart) (start end number : ℕ) (had : Bool) → goes_directly 2 (item_page item start end number had) ≡ false
unfolding goes_directly is_paragraph
directly_same item start end number had = refl

leaf_first : (item : ItemStart) (t q : List ℕ) (l' l : Line) (shift : ℕ) (w r : List Cell) (start : ℕ) → Beside t q l' l shift w r → nat_lt (plus l'.number 1) l'.number ≡ false → nat_le (length r) (first_cursor r).ink ≡ false
    → started_at_in core_known q w l' (tail_of w) (item_page item start l'.end l'.number false, record { cursor = cursor_on shift (first_cursor r); depth = 2 })
    ≡ started_at_in core_known q w l' (tail_of w) (item_page item start l'.end l'.number true, record { cursor = cursor_on shift (first_cursor r); depth = 2 })
unfolding goes_directly is_paragraph
leaf_first item t q l' l shift w r start h late some =
    core_begun q w l' (tail_of w) (item_page item start l'.end l'.number false) (record { cursor = cursor_on shift (first_cursor r); depth = 2 })
    ∙ ap (λ b. started_in core_known b q w l' (tail_of w) (record { cursor = cursor_on shift (first_cursor r); depth = 2 }) (item_page item start l'.end l'.number false)) (core_same item q w start l' (record { cursor = cursor_on shift (first_cursor r); depth = 2 }) ∙ found.0)
    ∙ started_same item q w r start shift l' (first_cursor r) (core_at t r l (tail_of r) first_page place) late (leaf_some r (bytes_between t (start_of r place l) l.end) (tail_of r) (first_cursor r) false false some) (found.1)
    ∙ sym (core_begun q w l' (tail_of w) (item_page item start l'.end l'.number true) (record { cursor = cursor_on shift (first_cursor r); depth = 2 }) ∙ ap (λ b. started_in core_known b q w l' (tail_of w) (record { cursor = cursor_on shift (first_cursor r); depth = 2 }) (item_page item start l'.end l'.number true)) (found.0))
  where
    place : LineStart
    place = record { cursor = first_cursor r; depth = 0 }

    found : LeafOn shift r (first_cursor r) (goes_directly 0 first_page) (core_at q w l' (tail_of w) (item_page item start l'.end l'.number true) (place_in shift place)) (core_at t r l (tail_of r) first_page place)
    found = core_at_two item t q 0 l' l shift w r place (item_page item start l'.end l'.number true) first_page h (front_in r (omega (arith, h.fronted.fits))) (page_inside item t q start l'.end l'.number)

rest_first : (item : ItemStart) (t q : List ℕ) (l' l : Line) (shift : ℕ) (w r : List Cell) (start k : ℕ) → Beside t q l' l shift w r → nat_lt (plus l'.number 1) l'.number ≡ false → nat_le (length r) (first_cursor r).ink ≡ false
    → started_at_in core_known q w l' (tail_of w) (repeated (container_once_in CORE q w l' (tail_of w)) k (record { cursor = cursor_on shift (first_cursor r); depth = 2 }) (item_page item start l'.end l'.number false))
    ≡ started_at_in core_known q w l' (tail_of w) (repeated (container_once_in CORE q w l' (tail_of w)) k (record { cursor = cursor_on shift (first_cursor r); depth = 2 }) (item_page item start l'.end l'.number true))
unfolding repeated container_once_in
rest_first item t q l' l shift w r start zero h late some = leaf_first item t q l' l shift w r start h late some
rest_first item t q l' l shift w r start (suc k) h late some =
    rw (directly_same item start l'.end l'.number false, directly_same item start l'.end l'.number true, found.0) (by (container_in CORE r (tail_of r) (first_cursor r) false) (found.1))
  where
    place : LineStart
    place = record { cursor = cursor_on shift (first_cursor r); depth = 2 }

    found : StartOn shift r (first_cursor r) (container_in CORE w (tail_of w) (cursor_on shift (first_cursor r)) false) (container_in CORE r (tail_of r) (first_cursor r) false)
    found = container_in_two shift w r (first_cursor r) false h.fronted (front_in r (omega (arith, h.fronted.fits)))

    more : LineStart → State → State × LineStart
    more = λ d u. repeated (container_once_in CORE q w l' (tail_of w)) k d u

    by : (o : Option ContainerStart) → Fine r (first_cursor r) o
        → started_at_in core_known q w l' (tail_of w) (going more place (begun_at q w l' place (item_page item start l'.end l'.number false) (option_map (start_on shift) o)))
        ≡ started_at_in core_known q w l' (tail_of w) (going more place (begun_at q w l' place (item_page item start l'.end l'.number true) (option_map (start_on shift) o)))
    by None f = leaf_first item t q l' l shift w r start h late some
    by (Some begins.Quote) f = ap (λ (u : State × LineStart). started_at_in core_known q w l' (tail_of w) (more (u.1) (u.0))) (quote_same item q w start l' (cursor_on shift (first_cursor r)) late)
    by (Some (begins.Item x)) f = ap (λ (u : State × LineStart). started_at_in core_known q w l' (tail_of w) (more (u.1) (u.0))) (item_same item q w start l' (cursor_on shift (first_cursor r)) (item_on shift x) late)
    by (Some (begins.Footnote x)) f = absurd f
    by (Some (begins.Definition x)) f = absurd f

-- what is known of the columns of the first line, which has so many spaces before the marker, and so many columns before the text
pub record Begins (item : ItemStart) (before shift : ℕ) (w r : List Cell) : Type 0 where
  pub front : first_cursor w ≡ front_at before
  pub starts : container_in CORE w (tail_of w) (front_at before) false ≡ Some (begins.Item item)
  pub width : item.width ≡ shift
  pub next : item.next ≡ shift
  pub wide : before < shift
  pub some : nat_le (length r) (first_cursor r).ink ≡ false

front_moved : (before shift : ℕ) (w r : List Cell) → before < shift → Fronted shift w r → moved w (front_at before) shift ≡ cursor_on shift (first_cursor r)
unfolding moved first_cursor
front_moved before shift w r wide h = rw late (ap₂ at none (ap (ink_from w) none ∙ ink_two shift w r 0 h (omega arith)))
  where
    at : ℕ → ℕ → Cursor
    at c n = record { column = c; ink = n }

    none : shift ≡ shift + 0
    none = omega arith

    late : nat_le shift before ≡ false
    late = grind (arith, wide, nat_tests)

-- a step that begins an item
once_first : (item : ItemStart) (before : ℕ) (q : List ℕ) (w : List Cell) (l' : Line) (n : ℕ) → container_in CORE w (tail_of w) (front_at before) false ≡ Some (begins.Item item)
    → repeated (container_once_in CORE q w l' (tail_of w)) (suc n) (record { cursor = front_at before; depth = 0 }) first_page
    ≡ repeated (container_once_in CORE q w l' (tail_of w)) n (record { cursor = moved w (front_at before) item.next; depth = 2 }) (item_page item (cell_place w before l'.end) l'.end l'.number false)
unfolding repeated container_once_in goes_directly is_paragraph
once_first item before q w l' n e = rw e (ap (λ (u : State × LineStart). repeated (container_once_in CORE q w l' (tail_of w)) n (u.1) (u.0)) (item_begins item before q w l'))

-- no line is after the one after it
not_late : (n : ℕ) → n < 2 ^ 64 → nat_lt (plus n 1) n ≡ false
not_late n h = let z : n ≤ plus n 1 = omega (arith, h) in by (plus n 1) z
  where
    by : (m : ℕ) → n ≤ m → nat_lt m n ≡ false
    by m k = grind (arith, k, nat_tests)

pub first_cells : (item : ItemStart) (before : ℕ) (t q : List ℕ) (l' l : Line) (shift : ℕ) (w r : List Cell) → Beside t q l' l shift w r → Begins item before shift w r → Inside item t q (0 + 2 * length r) (cells_taken_in core_known q w l' first_page) (cells_taken_in core_known t r l first_page)
first_cells item before t q l' l shift w r h b =
    subst₂ (λ x y. Inside item t q (0 + 2 * length r) x y) (sym there) (sym (first_taken t r l (first_cursor r) refl))
    (went_started item t q (0 + 2 * length r) l' l shift w r _ _ h
    (repeated_two item t q 0 l' l shift w r (shift - 1 + length r) (length r) place page first_page h (omega arith) (omega arith) (front_in r (omega (arith, h.fronted.fits))) (inside_more item t q 0 (0 + 2 * place.cursor.column) page first_page (omega arith) (page_inside item t q (cell_place w before l'.end) l'.end l'.number))))
  where
    place : LineStart
    place = record { cursor = first_cursor r; depth = 0 }

    page : State
    page = item_page item (cell_place w before l'.end) l'.end l'.number true

    once : LineStart → State → State × Option LineStart
    once = container_once_in CORE q w l' (tail_of w)

    late : nat_lt (plus l'.number 1) l'.number ≡ false
    late = not_late l'.number h.line.counted

    long : length w ≡ suc (shift - 1 + length r)
    long = omega (arith, length_on shift w r h.fronted, b.wide)

    cursor : moved w (front_at before) item.next ≡ cursor_on shift (first_cursor r)
    cursor = ap (moved w (front_at before)) b.next ∙ front_moved before shift w r b.wide h.fronted

    there : cells_taken_in core_known q w l' first_page ≡ started_at_in core_known q w l' (tail_of w) (repeated once (shift - 1 + length r) (place_in shift place) page)
    there =
        first_taken q w l' (front_at before) b.front
        ∙ ap (λ n. started_at_in core_known q w l' (tail_of w) (repeated once n (record { cursor = front_at before; depth = 0 }) first_page)) long
        ∙ ap (started_at_in core_known q w l' (tail_of w)) (once_first item before q w l' (shift - 1 + length r) b.starts)
        ∙ ap (λ (c : Cursor). started_at_in core_known q w l' (tail_of w) (repeated once (shift - 1 + length r) (record { cursor = c; depth = 2 }) (item_page item (cell_place w before l'.end) l'.end l'.number false))) cursor
        ∙ rest_first item t q l' l shift w r (cell_place w before l'.end) (shift - 1 + length r) h late b.some

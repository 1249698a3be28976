-- A block that begins in an item, more than one line after what is in it so far, makes the list loose.
use Rattle.std.proofs.Common.{◌≡◌, ℕ, zero, suc, ◌-◌, ◌<◌, Bool, true, false, if◌then◌else◌, nat_lt, List, [], ◌∷◌, ◌++◌, length, refl, ap, sym, subst, arith}
use Rattle.std.specs.Prelude.{unwrap_or, Option, Some, None}
use Rattle.std.specs.Option.{option_map}
use Rattle.std.proofs.lemmas.Bool.Decides.{nat_tests}
use Rattle.tocmark_read_scan.specs.Basic.{plus, bytes_between}
use Rattle.tocmark_read_scan.specs.Repeat.{going, repeated}
use Rattle.tocmark_read_scan.specs.declared.syntax.TheConstants.{CORE}
use Rattle.tocmark_read_lines.specs.Cells.{cell_place, indent_of, is_blank_at}
use Rattle.tocmark_read_lines.specs.Containers.{container_in}
use Rattle.tocmark_read_lines.specs.Marks.{tail_of, is_rule, heading_at, fence_at}
use Rattle.tocmark_read_lines.specs.declared.beginnings.Fence.{Fence}
use Rattle.tocmark_read_lines.specs.declared.beginnings.Heading.{Heading}
use Rattle.tocmark_read_lines.specs.declared.beginnings.Tail.{Tail}
use Rattle.tocmark_read_lines.specs.declared.cell.Cell.{Cell}
use Rattle.tocmark_read_lines.specs.declared.cell.Cursor.{Cursor}
use Rattle.tocmark_read_lines.specs.declared.container.Container.{Container}
use Rattle.tocmark_read_lines.specs.declared.container.Container.TheVariants as container
use Rattle.tocmark_read_lines.specs.declared.container.ContainerStart.{ContainerStart}
use Rattle.tocmark_read_lines.specs.declared.container.ContainerStart.TheVariants as begins
use Rattle.tocmark_read_lines.specs.declared.container.ItemStart.{ItemStart}
use Rattle.tocmark_read_lines.specs.declared.container.Opened.{Opened}
use Rattle.tocmark_read_lines.specs.declared.html.HtmlKind.{HtmlKind}
use Rattle.tocmark_read_lines.specs.declared.line.Line.{Line}
use Rattle.tocmark_read_page.specs.Leaves.{is_paragraph}
use Rattle.tocmark_read_page.specs.Pages.{State, innermost, is_quote, closed_to, list_of, list_left, is_apart, made_loose, loosened, begun, opened_with, leaf_opened, start_of}
use Rattle.tocmark_read_page.specs.Pieces.{text_piece, heading_piece}
use Rattle.tocmark_read_page.specs.declared.leaf.Leaf.{Leaf}
use Rattle.tocmark_read_page.specs.declared.leaf.Leaf.TheVariants as leaf
use Rattle.tocmark_read_page.specs.declared.line_start.LineStart.{LineStart}
use Rattle.tocmark_read_page.specs.declared.page.Block.{Block}
use Rattle.tocmark_read_page.specs.declared.page.BlockKind.{BlockKind}
use Rattle.tocmark_read_page.specs.declared.page.BlockKind.TheVariants as kind
use Rattle.tocmark_read_page.specs.declared.piece.Piece.{Piece}
use Rattle.tocmark_read_constructs.specs.Headings.{heading_put, heading_started_in}
use Rattle.tocmark_read_constructs.specs.Quotes.{quote_opened}
use Rattle.tocmark_read_blocks.specs.Blocks.{core_known, started_in, started_at_in, leaf_started_in}
use Rattle.tocmark_read_blocks.specs.Codes.{info_of, indented_started, fence_started, html_started}
use Rattle.tocmark_read_blocks.specs.Containers.{goes_directly, is_in_list, list_started, item_opened, begun_at, container_once_in}
use Rattle.tocmark_read_blocks.specs.Leaves.{leaf_at, mark_at, html_at, underline_in, rule_at}
use Rattle.tocmark_read_blocks.specs.Paragraphs.{rule_started, text_started, text_taken}
use Rattle.tocmark_read_blocks.specs.declared.leaf.LeafStart.{LeafStart}
use Rattle.tocmark_read_blocks.specs.declared.leaf.LeafStart.TheVariants as start
use Rattle.tocmark_text_laws.proofs.Begun.{is_core_start, container_core}
use Rattle.tocmark_text_laws.proofs.Machine.{core_at, core_begun}
use Rattle.tocmark_text_laws.proofs.Lasting.{starts_loose, Grows, loose_end, finished_grows, piece_grows, code_grows, begins_grows, opened_grows, repeat_grows, leaf_at_grows}

-- a page on which an item is innermost, and nothing in it reaches the line before this one
pub record Ripe (number : ℕ) (s : State) : Type 0 where
  pub list : list_of s.opened ≡ Some 0
  pub item : Opened
  pub last : innermost s.opened ≡ Some item
  pub width : ℕ
  pub held : item.container ≡ container.Item width
  pub had : item.had ≡ true
  pub far : plus item.line 1 < number
  pub some : 0 < length s.blocks

-- the list is loose when a block begins
first_set : (bs : List Block) → 0 < length bs → starts_loose (made_loose bs 0) ≡ true
first_set [] h = absurd (omega (arith, h))
first_set (b ∷ bs) h = refl

pub loose_begun : (b : BlockKind) (x n : ℕ) (s : State) → Ripe n s → starts_loose (begun b x n s).blocks ≡ true
unfolding begun loosened is_apart
loose_begun b x n s h = loose_end (loosened (list_of s.opened) (is_apart s.opened n) s.blocks) (_ ∷ []) (rw (h.last, h.had, late, h.list) (first_set s.blocks h.some))
  where
    late : nat_lt (plus h.item.line 1) n ≡ true
    late = grind (arith, h.far, nat_tests)

-- what holds of blocks holds after more steps
abbrev pub Keeps : (List Block → Type 0) → Type 0
Keeps P = (n : ℕ) (s u : State) → Grows n s u → P s.blocks → P u.blocks

-- it holds after a block began on this page
abbrev pub Begins : (List Block → Type 0) → ℕ → State → Type 0
Begins P n v = (b : BlockKind) (x : ℕ) → P (begun b x n v).blocks

-- a page that a line finds with so many containers that go on: it holds after a block began outside of others
pub record Ready (P : List Block → Type 0) (t : List ℕ) (cs : List Cell) (c : Cursor) (n depth : ℕ) (s : State) : Type 0 where
  pub shut : s.leaf ≡ leaf.Nothing
  pub ripe : Begins P n (list_left (closed_to t depth s))
  pub other : (i : ItemStart) → container_in CORE cs (tail_of cs) c false ≡ Some (begins.Item i) → is_in_list i.sort (closed_to t depth s) ≡ false

-- what begins

holds_opened : (P : List Block → Type 0) → Keeps P → (c : Container) (b : BlockKind) (x : ℕ) (line : Line) (s : State) → Begins P line.number s → P (opened_with c b x line s).blocks
unfolding opened_with
holds_opened P keep c b x line s h = by (is_quote c)
  where
    t : State
    t = begun b x line.number s

    u : State
    u = record t { opened = t.opened ++ record { container = c; block = length t.blocks - 1; end = line.end; line = line.number; had = false } ∷ [] }

    by : (q : Bool) → P (if q then record u { quotes = u.quotes ++ (length u.opened - 1) ∷ [] } else u).blocks
    by true = h b x
    by false = h b x

holds_leaf : (P : List Block → Type 0) → Keeps P → (t : List ℕ) (f : Leaf) (b : BlockKind) (x depth : ℕ) (line : Line) (s : State) → Begins P line.number (list_left (closed_to t depth s)) → P (leaf_opened f b x line (closed_to t depth s)).blocks
unfolding leaf_opened
holds_leaf P keep t f b x depth line s h = h b x

holds_text : (P : List Block → Type 0) → Keeps P → (t : List ℕ) (cs : List Cell) (line : Line) (place : LineStart) (s : State) → s.leaf ≡ leaf.Nothing → Begins P line.number (list_left (closed_to t place.depth s)) → P (text_taken t cs line place s).blocks
unfolding text_taken is_paragraph
holds_text P keep t cs line place s e h = keep _ _ _ (piece_grows words line true (text_started words.start _)) (keep _ _ _ (begins_grows words.start _) (subst (λ b. P (if b then s else opens).blocks) (sym none) (holds_leaf P keep t leaf.Paragraph kind.Paragraph words.start place.depth line s h)))
  where
    words : Piece
    words = text_piece cs place.cursor line

    opens : State
    opens = leaf_opened leaf.Paragraph kind.Paragraph words.start line (closed_to t place.depth s)

    none : is_paragraph s.leaf ≡ false
    none = ap is_paragraph e

-- no leaf that begins is blank or goes on with a paragraph
abbrev Fresh : LeafStart → Type 0
Fresh start.Blank = ⊥
Fresh (start.Underline level) = ⊥
Fresh (start.Metadata k) = ⊥
Fresh (start.Task d) = ⊥
Fresh (start.QuoteKind k) = ⊥
Fresh b = Unit

holds_started : (P : List Block → Type 0) → Keeps P → (t : List ℕ) (cs : List Cell) (line : Line) (tail : Tail) (place : LineStart) (s : State) (b : LeafStart) → Fresh b → s.leaf ≡ leaf.Nothing → Begins P line.number (list_left (closed_to t place.depth s)) → P (started_in core_known b t cs line tail place s).blocks
unfolding started_in indented_started fence_started html_started heading_started_in heading_put info_of rule_started
holds_started P keep t cs line tail place s start.Blank f e h = absurd f
holds_started P keep t cs line tail place s start.Text f e h = holds_text P keep t cs line place s e h
holds_started P keep t cs line tail place s (start.Indented column) f e h = keep _ _ _ (code_grows t cs column line (leaf_opened leaf.Indented kind.Indented (cell_place cs column line.end) line (closed_to t place.depth s))) (holds_leaf P keep t leaf.Indented kind.Indented (cell_place cs column line.end) place.depth line s h)
holds_started P keep t cs line tail place s (start.Heading x) f e h = keep _ _ _ (finished_grows _) (keep _ _ _ (piece_grows (heading_piece cs x line) line true _) (holds_leaf P keep t leaf.Nothing (kind.Heading x.level None) (start_of cs place line) place.depth line s h))
holds_started P keep t cs line tail place s (start.Fence x) f e h = holds_leaf P keep t (leaf.Fenced x) (info_of cs place.cursor x line) (start_of cs place line) place.depth line s h
holds_started P keep t cs line tail place s (start.Html x) f e h = keep _ _ _ (code_grows t cs place.cursor.column line (leaf_opened (leaf.Html x) kind.Html (cell_place cs place.cursor.column line.end) line (closed_to t place.depth s))) (holds_leaf P keep t (leaf.Html x) kind.Html (cell_place cs place.cursor.column line.end) place.depth line s h)
holds_started P keep t cs line tail place s (start.Underline level) f e h = absurd f
holds_started P keep t cs line tail place s start.Rule f e h = keep _ _ _ (finished_grows _) (holds_leaf P keep t leaf.Nothing kind.Rule (start_of cs place line) place.depth line s h)
holds_started P keep t cs line tail place s (start.Metadata x) f e h = absurd f
holds_started P keep t cs line tail place s (start.Task d) f e h = absurd f
holds_started P keep t cs line tail place s (start.QuoteKind x) f e h = absurd f

holds_quote : (P : List Block → Type 0) → Keeps P → (t : List ℕ) (cs : List Cell) (line : Line) (place : LineStart) (s : State) → Begins P line.number (list_left (closed_to t place.depth s)) → P ((quote_opened t cs line place s).0).blocks
unfolding quote_opened
holds_quote P keep t cs line place s h = holds_opened P keep container.Quote (kind.Quote None) (start_of cs place line) line (list_left (closed_to t place.depth s)) h

holds_list : (P : List Block → Type 0) → Keeps P → (i : ItemStart) (x : ℕ) (line : Line) (s : State) → is_in_list i.sort s ≡ false → Begins P line.number (list_left s) → P (list_started i x line s).blocks
unfolding list_started
holds_list P keep i x line s e h = rw e (holds_opened P keep (container.List i.sort) (kind.List i.number) x line (list_left s) h)

holds_item : (P : List Block → Type 0) → Keeps P → (t : List ℕ) (cs : List Cell) (line : Line) (place : LineStart) (i : ItemStart) (s : State) → is_in_list i.sort (closed_to t place.depth s) ≡ false → Begins P line.number (list_left (closed_to t place.depth s)) → P ((item_opened t cs line place i s).0).blocks
unfolding item_opened
holds_item P keep t cs line place i s e h = keep _ _ _ (opened_grows (container.Item i.width) kind.Item (start_of cs place line) line _) (holds_list P keep i (start_of cs place line) line (closed_to t place.depth s) e h)

-- nothing began, or it holds
abbrev Began : (List Block → Type 0) → State → State × Option LineStart → Type 0
Began P s (u, None) = u ≡ s
Began P s (u, Some d) = P u.blocks

holds_begun_at : (P : List Block → Type 0) → Keeps P → (t : List ℕ) (cs : List Cell) (line : Line) (place : LineStart) (s : State) (o : Option ContainerStart) → is_core_start o ≡ true → ((i : ItemStart) → o ≡ Some (begins.Item i) → is_in_list i.sort (closed_to t place.depth s) ≡ false) → Begins P line.number (list_left (closed_to t place.depth s)) → Began P s (begun_at t cs line place s o)
unfolding is_core_start
holds_begun_at P keep t cs line place s None k e h = refl
holds_begun_at P keep t cs line place s (Some begins.Quote) k e h = holds_quote P keep t cs line place s h
holds_begun_at P keep t cs line place s (Some (begins.Item i)) k e h = holds_item P keep t cs line place i s (e i refl) h
holds_begun_at P keep t cs line place s (Some (begins.Footnote n)) k e h = absurd cc
holds_begun_at P keep t cs line place s (Some (begins.Definition d)) k e h = absurd cc

-- a line that isn't blank begins a leaf that is fresh, where no paragraph is open
fresh_at : (cs : List Cell) (rest : List ℕ) (tail : Tail) (c : Cursor) (p : Bool) → is_blank_at cs c ≡ false → Fresh (leaf_at cs rest tail c p false)
unfolding leaf_at mark_at underline_in rule_at
fresh_at cs rest tail c p e = rw e (by (nat_lt (indent_of c) 4) p (heading_at cs c.ink) (fence_at cs c) (html_at rest p) (is_rule cs tail c.ink))
  where
    by : (near k : Bool) (x : Option Heading) (f : Option Fence) (h : Option HtmlKind) (b : Bool)
        → Fresh (if near then (unwrap_or (option_map (λ h. start.Heading h) x) (unwrap_or (option_map (λ f. start.Fence f) f) (unwrap_or (option_map (λ k. start.Html k) h) (unwrap_or (option_map (λ l. start.Underline l) None) (if b then start.Rule else start.Text))))) else (if k then start.Text else start.Indented (plus c.column 4)))
    by false true x f h b = tt
    by false false x f h b = tt
    by true k (Some x) f h b = tt
    by true k None (Some f) h b = tt
    by true k None None (Some h) b = tt
    by true k None None None true = tt
    by true k None None None false = tt

not_directly : (n : ℕ) (s : State) → s.leaf ≡ leaf.Nothing → goes_directly n s ≡ false
unfolding goes_directly is_paragraph
not_directly n s h = rw h refl

holds_at : (P : List Block → Type 0) → Keeps P → (t : List ℕ) (cs : List Cell) (line : Line) (place : LineStart) (s : State) → is_blank_at cs place.cursor ≡ false → Ready P t cs place.cursor line.number place.depth s → P (started_at_in core_known t cs line (tail_of cs) (s, place)).blocks
holds_at P keep t cs line place s some h =
    subst (λ (u : State). P u.blocks) (sym (core_begun t cs line (tail_of cs) s place))
    (holds_started P keep t cs line (tail_of cs) place s (core_at t cs line (tail_of cs) s place) fresh h.shut h.ripe)
  where
    rest : List ℕ
    rest = bytes_between t (start_of cs place line) line.end

    fresh : Fresh (core_at t cs line (tail_of cs) s place)
    fresh = subst (λ d. Fresh (leaf_at cs rest (tail_of cs) place.cursor (is_paragraph s.leaf) d)) (sym (not_directly place.depth s h.shut)) (fresh_at cs rest (tail_of cs) place.cursor (is_paragraph s.leaf) some)

holds_once : (P : List Block → Type 0) → Keeps P → (t : List ℕ) (cs : List Cell) (line : Line) (place : LineStart) (s : State) → Ready P t cs place.cursor line.number place.depth s → Began P s (container_once_in CORE t cs line (tail_of cs) place s)
unfolding container_once_in
holds_once P keep t cs line place s h =
    subst (λ d. Began P s (begun_at t cs line place s (container_in CORE cs (tail_of cs) place.cursor d))) (sym (not_directly place.depth s h.shut))
    (holds_begun_at P keep t cs line place s (container_in CORE cs (tail_of cs) place.cursor false) (container_core cs (tail_of cs) place.cursor false) h.other h.ripe)

holds_repeated : (P : List Block → Type 0) → Keeps P → (t : List ℕ) (cs : List Cell) (line : Line) (n : ℕ) (place : LineStart) (s : State) → is_blank_at cs place.cursor ≡ false → Ready P t cs place.cursor line.number place.depth s
    → P (started_at_in core_known t cs line (tail_of cs) (repeated (container_once_in CORE t cs line (tail_of cs)) n place s)).blocks
unfolding repeated
holds_repeated P keep t cs line zero place s some h = holds_at P keep t cs line place s some h
holds_repeated P keep t cs line (suc n) place s some h = by (container_once_in CORE t cs line (tail_of cs) place s) (holds_once P keep t cs line place s h)
  where
    more : LineStart → State → State × LineStart
    more = λ d u. repeated (container_once_in CORE t cs line (tail_of cs)) n d u

    after : (r : State × LineStart) → P (r.0).blocks → P (started_at_in core_known t cs line (tail_of cs) r).blocks
    after (u, d) g = keep _ _ _ (leaf_at_grows t cs line d u) g

    by : (r : State × Option LineStart) → Began P s r → P (started_at_in core_known t cs line (tail_of cs) (going more place r)).blocks
    by (u, None) e = subst (λ (v : State). P (started_at_in core_known t cs line (tail_of cs) (v, place)).blocks) (sym e) (holds_at P keep t cs line place s some h)
    by (u, Some d) g = after (more d u) (keep _ _ _ (repeat_grows t cs line (tail_of cs) n d u) g)

-- a line that isn't blank begins a block
pub holds_line : (P : List Block → Type 0) → Keeps P → (t : List ℕ) (cs : List Cell) (line : Line) (place : LineStart) (s : State) → is_blank_at cs place.cursor ≡ false → Ready P t cs place.cursor line.number place.depth s → P (leaf_started_in core_known t cs line place s).blocks
unfolding leaf_started_in
holds_line P keep t cs line place s some h = holds_repeated P keep t cs line (length cs) place s some h

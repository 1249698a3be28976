-- How a line after a block quote marker comes into a page.
use Rattle.std.proofs.Common.{◌≡◌, ◌⊎◌, inl, inr, ℕ, suc, ◌+◌, ◌-◌, ◌*◌, ◌^◌, ◌<◌, ◌≤◌, Bool, true, false, not, ◌==◌, ◌&&◌, ◌||◌, if◌then◌else◌, nat_le, List, [], ◌∷◌, length, map, refl, ap, sym, subst, subst₂, ◌∙◌, arith}
use Rattle.std.specs.Prelude.{Some}
use Rattle.tocmark_event.specs.declared.event.HeadingLevel.{HeadingLevel}
use Rattle.tocmark_read_scan.specs.Basic.{byte_at, bytes_between}
use Rattle.tocmark_read_scan.specs.Repeat.{repeated}
use Rattle.tocmark_read_scan.specs.declared.syntax.TheConstants.{CORE}
use Rattle.tocmark_read_lines.specs.Cells.{cell_byte, cells_of, first_cursor}
use Rattle.tocmark_read_lines.specs.Containers.{container_in, matched, touched_from, raised_at}
use Rattle.tocmark_read_lines.specs.Marks.{is_rule, tail_of}
use Rattle.tocmark_read_lines.specs.declared.cell.Cell.{Cell}
use Rattle.tocmark_read_lines.specs.declared.cell.Cursor.{Cursor}
use Rattle.tocmark_read_lines.specs.declared.container.ContainerStart.TheVariants as begins
use Rattle.tocmark_read_lines.specs.declared.container.Opened.{Opened}
use Rattle.tocmark_read_lines.specs.declared.line.Line.{Line}
use Rattle.tocmark_read_page.specs.Leaves.{is_paragraph}
use Rattle.tocmark_read_page.specs.Pages.{State, first_page, leaf_closed, closed_to, times, settled, has_text, is_quote, is_list, list_left, list_of, is_apart, loosened, had_marked, begun, opened_with, start_of}
use Rattle.tocmark_read_page.specs.declared.line_start.LineStart.{LineStart}
use Rattle.tocmark_read_constructs.specs.Metadata.{metadata_in}
use Rattle.tocmark_read_constructs.specs.Quotes.{quote_opened}
use Rattle.tocmark_read_blocks.specs.Blocks.{core_known, rule_or_text, underlined_if, underline_taken_in, started_in, started_at_in, leaf_started_in, passed_in, turn_of, turn_in, leaf_ended, touched, turn_taken_in, taken_at_in, cells_taken_in, line_taken_in}
use Rattle.tocmark_read_blocks.specs.Containers.{goes_directly, container_once_in, containers_opened_in}
use Rattle.tocmark_read_blocks.specs.Leaves.{metadata_or, leaf_turn, rule_at}
use Rattle.tocmark_read_blocks.specs.declared.leaf.LeafStart.{LeafStart}
use Rattle.tocmark_read_blocks.specs.declared.leaf.LeafStart.TheVariants as start
use Rattle.tocmark_read_blocks.specs.declared.leaf.Turn.{Turn}
use Rattle.tocmark_read_blocks.specs.declared.leaf.Turn.TheVariants as turn
use Rattle.tocmark_text_laws.proofs.Pairs.{after_length}
use Rattle.tocmark_text_laws.proofs.QuotedCells.{le_suc, cursor_on, length_on}
use Rattle.tocmark_text_laws.proofs.QuotedContainers.{Quoted, OpenedOn, IsOuter, Opens, InLine, column_in, front_in, front_place, front_long, front_cursor, front_after, front_begins, touched_two, MatchedOn, matched_two}
use Rattle.tocmark_text_laws.proofs.QuotedPieces.{Beside, beside}
use Rattle.tocmark_text_laws.proofs.QuotedLines.{Row, IsMarked}
use Rattle.tocmark_text_laws.proofs.QuotedPages.{Inside, Firm, firm, inside_more, quote_count, raised_count, settled_firm, finished_firm, closed_two, has_text_two}
use Rattle.tocmark_text_laws.proofs.QuotedLeaves.{place_on, leaf_on, FineLeaf, LeafOn, leaf_at_two, rule_at_two, paragraph_open, turn_on, FineTurn, TurnOn, leaf_turn_two, code_taken_firm, indented_firm, fence_firm, html_firm, text_taken_firm, rule_firm, heading_firm, underlined_firm}
use Rattle.tocmark_text_laws.proofs.QuotedBegun.{Went, directly_two, repeated_two}
use Rattle.tocmark_text_laws.proofs.Pages.{is_shut}
use Rattle.tocmark_text_laws.proofs.Leaves.{is_core}
use Rattle.tocmark_text_laws.proofs.Machine.{core_at, core_begun}

rule_or_text_two : (t q : List ℕ) (n : ℕ) (l' l : Line) (shift : ℕ) (w r : List Cell) (p : LineStart) (there here : State) → Beside t q l' l shift w r → Inside t q n there here
    → Inside t q n (rule_or_text (rule_at r (tail_of r) p.cursor.ink) q w l' (place_on shift p) there) (rule_or_text (rule_at r (tail_of r) p.cursor.ink) t r l p here)
unfolding rule_at
rule_or_text_two t q n l' l shift w r p there here h i = by (is_rule r (tail_of r) p.cursor.ink)
  where
    by : (b : Bool) → Inside t q n (rule_or_text (if b then start.Rule else start.Text) q w l' (place_on shift p) there) (rule_or_text (if b then start.Rule else start.Text) t r l p here)
    by true = (rule_firm t q n l' l shift w r p there here h i).inside
    by false = (text_taken_firm t q n l' l shift w r p there here h i).inside

underline_two : (t q : List ℕ) (n : ℕ) (l' l : Line) (shift : ℕ) (w r : List Cell) (p : LineStart) (level : HeadingLevel) (there here : State) → Beside t q l' l shift w r → Firm t q n there here
    → Inside t q n (underline_taken_in core_known q w l' (tail_of w) (place_on shift p) level there) (underline_taken_in core_known t r l (tail_of r) p level here)
unfolding underline_taken_in metadata_in metadata_or
underline_two t q n l' l shift w r p level there here h f = rw (has_text_two t q n (settled q there) (settled t here) g, rule_at_two shift w r p.cursor.ink h.fronted) (by (has_text (settled t here)))
  where
    g : Firm t q n (settled q there) (settled t here)
    g = settled_firm t q n there here f

    by : (b : Bool) → Inside t q n (underlined_if core_known b (rule_at r (tail_of r) p.cursor.ink) q w l' (place_on shift p) level (settled q there)) (underlined_if core_known b (rule_at r (tail_of r) p.cursor.ink) t r l p level (settled t here))
    by true = (underlined_firm t q n level l' l (settled q there) (settled t here) h.line.number g).inside
    by false = rule_or_text_two t q n l' l shift w r p (settled q there) (settled t here) h g.inside

started_two : (t q : List ℕ) (n : ℕ) (l' l : Line) (shift : ℕ) (w r : List Cell) (p : LineStart) (d : Bool) (b : LeafStart) (there here : State) → Beside t q l' l shift w r → InLine r p.cursor → FineLeaf r p.cursor d b → (d ≡ true → is_shut here.leaf ≡ false) → Inside t q n there here
    → Inside t q n (started_in core_known (leaf_on shift b) q w l' (tail_of w) (place_on shift p) there) (started_in core_known b t r l (tail_of r) p here)
unfolding started_in
started_two t q n l' l shift w r p d start.Blank there here h i e o g = closed_two t q n p.depth there here g
started_two t q n l' l shift w r p d start.Text there here h i e o g = (text_taken_firm t q n l' l shift w r p there here h g).inside
started_two t q n l' l shift w r p d (start.Indented column) there here h i e o g = (indented_firm t q n l' l shift w r p column there here h e g).inside
started_two t q n l' l shift w r p d (start.Heading x) there here h i e o g = (heading_firm t q n l' l shift w r p x there here h g).inside
started_two t q n l' l shift w r p d (start.Fence f) there here h i e o g = (fence_firm t q n l' l shift w r p f there here h e g).inside
started_two t q n l' l shift w r p d (start.Html k) there here h i e o g = (html_firm t q n l' l shift w r p k there here h (column_in r p.cursor i) g).inside
started_two t q n l' l shift w r p d (start.Underline level) there here h i e o g = underline_two t q n l' l shift w r p level there here h (firm t q n there here (o e) g)
started_two t q n l' l shift w r p d start.Rule there here h i e o g = (rule_firm t q n l' l shift w r p there here h g).inside
started_two t q n l' l shift w r p d (start.Metadata k) there here h i e o g = absurd e
started_two t q n l' l shift w r p d (start.Task b) there here h i e o g = absurd e
started_two t q n l' l shift w r p d (start.QuoteKind k) there here h i e o g = absurd e

pub directly_open : (depth : ℕ) (s : State) → goes_directly depth s ≡ true → is_shut s.leaf ≡ false
unfolding goes_directly
directly_open depth s e = by (is_paragraph s.leaf) refl e
  where
    by : (b : Bool) → is_paragraph s.leaf ≡ b → (b && nat_le (length s.opened) depth) ≡ true → is_shut s.leaf ≡ false
    by true g k = paragraph_open s.leaf g
    by false g k = absurd cc

core_at_two : (t q : List ℕ) (n : ℕ) (l' l : Line) (shift : ℕ) (w r : List Cell) (p : LineStart) (there here : State) → Beside t q l' l shift w r → InLine r p.cursor → Inside t q n there here
    → LeafOn shift r p.cursor (goes_directly p.depth here) (core_at q w l' (tail_of w) there (place_on shift p)) (core_at t r l (tail_of r) here p)
core_at_two t q n l' l shift w r p there here h i g =
    rw (directly_two t q n p.depth there here g, g.leaf, rest)
    (leaf_at_two shift w r (bytes_between t (start_of r p l) l.end) p.cursor (is_paragraph here.leaf) (goes_directly p.depth here) h.fronted i)
  where
    rest : bytes_between q (start_of w (place_on shift p) l') l'.end ≡ bytes_between t (start_of r p l) l.end
    rest = ap (λ a. bytes_between q a l'.end) (h.placed p.cursor.ink) ∙ ap (bytes_between q (start_of r p l + h.line.gap)) h.line.ends ∙ h.line.window (start_of r p l) l.end (h.begins p.cursor.ink) h.line.onto

started_at_two : (t q : List ℕ) (n : ℕ) (l' l : Line) (shift : ℕ) (w r : List Cell) (p : LineStart) (there here : State) → Beside t q l' l shift w r → InLine r p.cursor → Inside t q n there here
    → Inside t q n (started_at_in core_known q w l' (tail_of w) (there, place_on shift p)) (started_at_in core_known t r l (tail_of r) (here, p))
started_at_two t q n l' l shift w r p there here h i g =
    subst (λ x. Inside t q n x (started_at_in core_known t r l (tail_of r) (here, p))) (sym (core_begun q w l' (tail_of w) there (place_on shift p) ∙ ap (λ b. started_in core_known b q w l' (tail_of w) (place_on shift p) there) (found.0)))
    (subst (λ x. Inside t q n (started_in core_known (leaf_on shift (core_at t r l (tail_of r) here p)) q w l' (tail_of w) (place_on shift p) there) x) (sym (core_begun t r l (tail_of r) here p))
    (started_two t q n l' l shift w r p (goes_directly p.depth here) (core_at t r l (tail_of r) here p) there here h i (found.1) (directly_open p.depth here) g))
  where
    found : LeafOn shift r p.cursor (goes_directly p.depth here) (core_at q w l' (tail_of w) there (place_on shift p)) (core_at t r l (tail_of r) here p)
    found = core_at_two t q n l' l shift w r p there here h i g

went_started : (t q : List ℕ) (n : ℕ) (l' l : Line) (shift : ℕ) (w r : List Cell) (a b : State × LineStart) → Beside t q l' l shift w r → Went t q n shift r a b → Inside t q n (started_at_in core_known q w l' (tail_of w) a) (started_at_in core_known t r l (tail_of r) b)
went_started t q n l' l shift w r (u', p') (u, p) h (g, k) = subst (λ x. Inside t q n (started_at_in core_known q w l' (tail_of w) (u', x)) (started_at_in core_known t r l (tail_of r) (u, p))) (sym (k.0)) (started_at_two t q n l' l shift w r p u' u h (k.1) g)

leaf_started_two : (t q : List ℕ) (n : ℕ) (l' l : Line) (shift : ℕ) (w r : List Cell) (p : LineStart) (there here : State) → Beside t q l' l shift w r → InLine r p.cursor → Inside t q (n + 2 * p.cursor.column) there here
    → Inside t q (n + 2 * length r) (leaf_started_in core_known q w l' (place_on shift p) there) (leaf_started_in core_known t r l p here)
unfolding leaf_started_in
leaf_started_two t q n l' l shift w r p there here h i g =
    went_started t q (n + 2 * length r) l' l shift w r _ _ h
    (repeated_two t q n l' l shift w r (length w) (length r) p there here h (omega (arith, length_on shift w r h.fronted)) (omega arith) i g)

ended_two : (t q : List ℕ) (n : ℕ) (l' l : Line) (there here : State) → l'.number ≡ l.number → Firm t q n there here → Inside t q n (leaf_ended l' there) (leaf_ended l here)
unfolding leaf_ended
ended_two t q n l' l there here number f = (finished_firm t q n _ _ (record {
  inside = record { opened = h.opened; blocks = h.blocks; pieces = h.pieces; definitions = h.definitions; quotes = h.quotes; counted = h.counted; leaf = h.leaf; core = h.core; kept = h.kept; tied = λ o. (number, f.some) };
  line = number;
  some = f.some;
})).inside
  where
    h : Inside t q n there here
    h = f.inside

turned_two : (t q : List ℕ) (n : ℕ) (l' l : Line) (shift : ℕ) (w r : List Cell) (p : LineStart) (u : Turn) (there here : State) → Beside t q l' l shift w r → InLine r p.cursor → FineTurn r here.leaf u → Inside t q (n + 2 * p.cursor.column) there here
    → Inside t q (n + 2 * length r) (turn_taken_in core_known (turn_on shift u) q w l' (place_on shift p) there) (turn_taken_in core_known u t r l p here)
unfolding passed_in
turned_two t q n l' l shift w r p turn.Closes there here h i e g = ended_two t q (n + 2 * length r) l' l there here h.line.number (firm t q (n + 2 * length r) there here e (inside_more t q (n + 2 * p.cursor.column) (n + 2 * length r) there here (omega (arith, i.column, i.ink)) g))
turned_two t q n l' l shift w r p (turn.Takes column) there here h i e g = (code_taken_firm t q (n + 2 * length r) l' l shift w r column there here h (e.0) (firm t q (n + 2 * length r) there here (e.1) (inside_more t q (n + 2 * p.cursor.column) (n + 2 * length r) there here (omega (arith, i.column, i.ink)) g))).inside
turned_two t q n l' l shift w r p turn.Passes there here h i e g = leaf_started_two t q n l' l shift w r p there here h i g
turned_two t q n l' l shift w r p (turn.Row x) there here h i e g = absurd e

turn_of_two : (t q : List ℕ) (n : ℕ) (l' l : Line) (shift : ℕ) (w r : List Cell) (p : LineStart) (there here : State) → Beside t q l' l shift w r → InLine r p.cursor → Inside t q n there here
    → TurnOn shift r here.leaf (turn_of q w l' (place_on shift p) there) (turn_of t r l p here)
unfolding turn_of
turn_of_two t q n l' l shift w r p there here h i g = rw (after_length IsOuter OpenedOn there.opened here.opened g.opened.after, less, g.leaf) (by (nat_le (length here.opened) p.depth))
  where
    less : nat_le (suc (length here.opened)) (suc p.depth) ≡ nat_le (length here.opened) p.depth
    less = le_suc (length here.opened) p.depth

    by : (b : Bool) → TurnOn shift r here.leaf (if b then leaf_turn q w l' (cursor_on shift p.cursor) here.leaf else turn.Passes) (if b then leaf_turn t r l p.cursor here.leaf else turn.Passes)
    by true = leaf_turn_two t q l' l shift w r p.cursor here.leaf g.core h.fronted i
    by false = (refl, tt)

taken_at_two : (t q : List ℕ) (n : ℕ) (l' l : Line) (shift : ℕ) (w r : List Cell) (p : LineStart) (there here : State) → Beside t q l' l shift w r → InLine r p.cursor → Inside t q (n + 2 * p.cursor.column) there here
    → Inside t q (n + 2 * length r) (taken_at_in core_known q w l' (place_on shift p) there) (taken_at_in core_known t r l p here)
unfolding turn_in
taken_at_two t q n l' l shift w r p there here h i g =
    subst (λ x. Inside t q (n + 2 * length r) (turn_taken_in core_known x q w l' (place_on shift p) there) (turn_taken_in core_known (turn_of t r l p here) t r l p here)) (sym (found.0))
    (turned_two t q n l' l shift w r p (turn_of t r l p here) there here h i (found.1) g)
  where
    found : TurnOn shift r here.leaf (turn_of q w l' (place_on shift p) there) (turn_of t r l p here)
    found = turn_of_two t q (n + 2 * p.cursor.column) l' l shift w r p there here h i g

pub touched_count : (count end line : ℕ) (qs : List ℕ) (os : List Opened) → quote_count (touched_from count end line qs os) ≡ quote_count os
touched_count count end line [] os = refl
touched_count count end line (x ∷ qs) os = by (nat_le count x) (touched_count count end line qs (raised_at os x end line))
  where
    by : (k : Bool) → quote_count (touched_from count end line qs (raised_at os x end line)) ≡ quote_count (raised_at os x end line) → quote_count (if k then os else touched_from count end line qs (raised_at os x end line)) ≡ quote_count os
    by true e = refl
    by false e = e ∙ raised_count os x end line

touched_inside : (t q : List ℕ) (n : ℕ) (l' l : Line) (depth : ℕ) (there here : State) → l'.number ≡ l.number → Inside t q n there here → Inside t q n (touched l' (suc depth) there) (touched l depth here)
unfolding touched
touched_inside t q n l' l depth there here number h = record {
  opened = opens;
  blocks = h.blocks;
  pieces = h.pieces;
  definitions = h.definitions;
  quotes = h.quotes;
  counted = subst (λ k. k ≤ length here.quotes) (sym (touched_count depth l.end l.number here.quotes here.opened)) h.counted;
  leaf = h.leaf;
  core = h.core;
  kept = h.kept;
  tied = h.tied;
}
  where
    opens : Opens n (touched_from (suc depth) l'.end l'.number there.quotes there.opened) (touched_from depth l.end l.number here.quotes here.opened)
    opens =
        subst (λ (qs : List ℕ). Opens n (touched_from (suc depth) l'.end l'.number qs there.opened) (touched_from depth l.end l.number here.quotes here.opened)) (sym h.quotes)
        (subst (λ m. Opens n (touched_from (suc depth) l'.end m (0 ∷ map suc here.quotes) there.opened) (touched_from depth l.end l.number here.quotes here.opened)) (sym number)
        (touched_two n depth l'.end l.end l.number here.quotes there.opened here.opened h.opened))

-- the columns in front are the marker
marked_front : (t q : List ℕ) (l' l : Line) (shift : ℕ) (w r : List Cell) (n : ℕ) (h : Beside t q l' l shift w r) → IsMarked n h.fronted.front (byte_at t l.start) → Quoted shift w r
marked_front t q l' l shift w r n h (mark, e, (near, apart)) = record { fronted = h.fronted; mark = mark; near = near; apart = by h.first; whole = e }
  where
    spaced : (k : Bool) → (k || true) ≡ true
    spaced true = refl
    spaced false = refl

    by : ((length r ≡ 0) × (cell_byte r 0 ≡ 10)) ⊎ (cell_byte r 0 ≡ byte_at t l.start) → (mark.spaced || not (cell_byte r 0 == 32)) ≡ true
    by (inl g) = ap (λ b. mark.spaced || not (b == 32)) (g.1) ∙ spaced mark.spaced
    by (inr g) = ap (λ b. mark.spaced || not (b == 32)) g ∙ apart

cells_two : (t q : List ℕ) (n : ℕ) (l' l : Line) (shift : ℕ) (w r : List Cell) (there here : State) → Beside t q l' l shift w r → Quoted shift w r → n + 9 < 2 ^ 64 → Inside t q n there here
    → Inside t q (n + 2 * length r) (cells_taken_in core_known q w l' there) (cells_taken_in core_known t r l here)
unfolding cells_taken_in
cells_two t q n l' l shift w r there here h m few g = by (matched w there.opened there.quotes) (matched r here.opened here.quotes) found
  where
    found : MatchedOn shift r (matched w there.opened there.quotes) (matched r here.opened here.quotes)
    found = subst (λ (qs : List ℕ). MatchedOn shift r (matched w there.opened qs) (matched r here.opened here.quotes)) (sym g.quotes) (matched_two n shift w r there.opened here.opened here.quotes m few g.opened)

    by : (a b : ℕ × Cursor) → MatchedOn shift r a b
        → Inside t q (n + 2 * length r) (taken_at_in core_known q w l' (record { cursor = a.1; depth = a.0 }) (touched l' (a.0) there)) (taken_at_in core_known t r l (record { cursor = b.1; depth = b.0 }) (touched l (b.0) here))
    by a (depth, cursor) (e, i) = rw e (taken_at_two t q n l' l shift w r (record { cursor = cursor; depth = depth }) (touched l' (suc depth) there) (touched l depth here) h i
        (inside_more t q n (n + 2 * cursor.column) (touched l' (suc depth) there) (touched l depth here) (omega arith) (touched_inside t q n l' l depth there here h.line.number g)))

-- a line after the first one
pub line_two : (t q : List ℕ) (n before m : ℕ) (l' l : Line) (there here : State) → Row IsMarked t q before m l' l → n + 9 < 2 ^ 64 → Inside t q n there here
    → Inside t q (n + 2 * (l.end - l.start)) (line_taken_in core_known q there l') (line_taken_in core_known t here l)
unfolding line_taken_in
line_two t q n before m l' l there here h few g = by (beside t q l' l h.line)
  where
    w : List Cell
    w = cells_of [] l'.start (bytes_between q l'.start l'.end)

    r : List Cell
    r = cells_of [] l.start (bytes_between t l.start l.end)

    shift : ℕ
    shift = length h.line.front

    by : (both : Beside t q l' l shift w r) × (both.fronted.front ≡ h.line.front) → Inside t q (n + 2 * (l.end - l.start)) (cells_taken_in core_known q w l' there) (cells_taken_in core_known t r l here)
    by (both, same) =
        inside_more t q (n + 2 * length r) (n + 2 * (l.end - l.start)) _ _ (omega (arith, both.wide))
        (cells_two t q n l' l shift w r there here both (marked_front t q l' l shift w r before both (subst (λ xs. IsMarked before xs (byte_at t l.start)) (sym same) h.kind)) few g)

-- the first line

-- a step that begins a quote
opened_first : (q : List ℕ) (w : List Cell) (l' : Line) (n : ℕ) (p : LineStart) → container_in CORE w (tail_of w) p.cursor (goes_directly p.depth first_page) ≡ Some begins.Quote
    → repeated (container_once_in CORE q w l' (tail_of w)) (suc n) p first_page ≡ repeated (container_once_in CORE q w l' (tail_of w)) n ((quote_opened q w l' p first_page).1) ((quote_opened q w l' p first_page).0)
unfolding repeated container_once_in
opened_first q w l' n p e = rw e refl

-- on a page without blocks, a line begins containers, and then a leaf
pub first_taken : (t : List ℕ) (cs : List Cell) (line : Line) (c : Cursor) → first_cursor cs ≡ c → cells_taken_in core_known t cs line first_page ≡ started_at_in core_known t cs line (tail_of cs) (containers_opened_in CORE t cs line (tail_of cs) (record { cursor = c; depth = 0 }) first_page)
unfolding cells_taken_in touched turn_in turn_of leaf_turn passed_in leaf_started_in
first_taken t cs line c e = ap (λ x. started_at_in core_known t cs line (tail_of cs) (containers_opened_in CORE t cs line (tail_of cs) (record { cursor = x; depth = 0 }) first_page)) e

-- the page on which only the quote is that is round all others
quoted_page : (t q : List ℕ) (w : List Cell) (l' : Line) (s : ℕ) → Inside t q 0 ((quote_opened q w l' (record { cursor = front_place s; depth = 0 }) first_page).0) first_page
unfolding quote_opened closed_to leaf_closed times list_left is_list list_of is_apart loosened had_marked begun opened_with is_quote is_core is_shut
quoted_page t q w l' s = record {
  opened = record { after = (record { quote = refl; first = refl }, tt); rooted = tt; few = omega arith };
  blocks = (refl, tt);
  pieces = tt;
  definitions = refl;
  quotes = refl;
  counted = omega arith;
  leaf = refl;
  core = refl;
  kept = refl;
  tied = λ o. absurd cc;
}

quoted_place : (q : List ℕ) (shift : ℕ) (w r : List Cell) (l' : Line) (h : Quoted shift w r) → (quote_opened q w l' (record { cursor = front_place h.mark.spaces; depth = 0 }) first_page).1 ≡ place_on shift (record { cursor = first_cursor r; depth = 0 })
unfolding quote_opened closed_to leaf_closed times list_left is_list list_of is_apart loosened had_marked begun opened_with is_quote
quoted_place q shift w r l' h = ap (λ c. record { cursor = c; depth = 1 }) (front_after shift w r h)

first_went : (t q : List ℕ) (l' l : Line) (shift : ℕ) (w r : List Cell) (h : Beside t q l' l shift w r) (m : Quoted shift w r)
    → Went t q (0 + 2 * length r) shift r (containers_opened_in CORE q w l' (tail_of w) (record { cursor = front_place m.mark.spaces; depth = 0 }) first_page) (containers_opened_in CORE t r l (tail_of r) (record { cursor = first_cursor r; depth = 0 }) first_page)
first_went t q l' l shift w r h m =
    subst (λ n. Went t q (0 + 2 * length r) shift r (repeated (container_once_in CORE q w l' (tail_of w)) n front first_page) (repeated (container_once_in CORE t r l (tail_of r)) (length r) place first_page)) (sym long)
    (subst (λ x. Went t q (0 + 2 * length r) shift r x (repeated (container_once_in CORE t r l (tail_of r)) (length r) place first_page)) (sym more)
    (repeated_two t q 0 l' l shift w r (shift - 1 + length r) (length r) place ((quote_opened q w l' front first_page).0) first_page h (omega arith) (omega arith) (front_in r (omega (arith, h.fronted.fits))) (inside_more t q 0 (0 + 2 * place.cursor.column) ((quote_opened q w l' front first_page).0) first_page (omega arith) (quoted_page t q w l' m.mark.spaces))))
  where
    front : LineStart
    front = record { cursor = front_place m.mark.spaces; depth = 0 }

    place : LineStart
    place = record { cursor = first_cursor r; depth = 0 }

    long : length w ≡ suc (shift - 1 + length r)
    long = omega (arith, length_on shift w r h.fronted, front_long shift w r m)

    more : repeated (container_once_in CORE q w l' (tail_of w)) (suc (shift - 1 + length r)) front first_page ≡ repeated (container_once_in CORE q w l' (tail_of w)) (shift - 1 + length r) (place_on shift place) ((quote_opened q w l' front first_page).0)
    more = opened_first q w l' (shift - 1 + length r) front (front_begins shift w r (goes_directly 0 first_page) m) ∙ ap (λ d. repeated (container_once_in CORE q w l' (tail_of w)) (shift - 1 + length r) d ((quote_opened q w l' front first_page).0)) (quoted_place q shift w r l' m)

pub first_two : (t q : List ℕ) (before m : ℕ) (l' l : Line) → Row IsMarked t q before m l' l → Inside t q (2 * (l.end - l.start)) (line_taken_in core_known q first_page l') (line_taken_in core_known t first_page l)
unfolding line_taken_in
first_two t q before m l' l h = by (beside t q l' l h.line)
  where
    w : List Cell
    w = cells_of [] l'.start (bytes_between q l'.start l'.end)

    r : List Cell
    r = cells_of [] l.start (bytes_between t l.start l.end)

    shift : ℕ
    shift = length h.line.front

    by : (both : Beside t q l' l shift w r) × (both.fronted.front ≡ h.line.front) → Inside t q (2 * (l.end - l.start)) (cells_taken_in core_known q w l' first_page) (cells_taken_in core_known t r l first_page)
    by (both, same) =
        let front : Quoted shift w r = marked_front t q l' l shift w r before both (subst (λ xs. IsMarked before xs (byte_at t l.start)) (sym same) h.kind) in
        inside_more t q (0 + 2 * length r) (2 * (l.end - l.start)) _ _ (omega (arith, both.wide))
        (subst₂ (λ x y. Inside t q (0 + 2 * length r) x y) (sym (first_taken q w l' (front_place front.mark.spaces) (front_cursor shift w r front))) (sym (first_taken t r l (first_cursor r) refl))
        (went_started t q (0 + 2 * length r) l' l shift w r _ _ both (first_went t q l' l shift w r both front)))

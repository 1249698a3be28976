-- How a line of a list item comes into a page.
use Rattle.std.proofs.Common.{◌≡◌, ◌⊎◌, inl, inr, ℕ, suc, ◌+◌, ◌-◌, ◌*◌, ◌^◌, ◌<◌, Bool, true, false, if◌then◌else◌, nat_le, List, [], ◌∷◌, length, map, refl, ap, sym, subst, ◌∙◌, arith}
use Rattle.std.specs.Prelude.{replicate}
use Rattle.std.specs.List.{AllByRecursion}
use Rattle.tocmark_event.specs.declared.event.HeadingLevel.{HeadingLevel}
use Rattle.tocmark_read_scan.specs.Basic.{byte_at, bytes_between}
use Rattle.tocmark_read_lines.specs.Cells.{cells_of}
use Rattle.tocmark_read_lines.specs.Containers.{matched, touched_from}
use Rattle.tocmark_read_lines.specs.Marks.{is_rule, tail_of}
use Rattle.tocmark_read_lines.specs.declared.cell.Cell.{Cell}
use Rattle.tocmark_read_lines.specs.declared.cell.Cursor.{Cursor}
use Rattle.tocmark_read_lines.specs.declared.container.ItemStart.{ItemStart}
use Rattle.tocmark_read_lines.specs.declared.container.Opened.{Opened}
use Rattle.tocmark_read_lines.specs.declared.line.Line.{Line}
use Rattle.tocmark_read_page.specs.Leaves.{is_paragraph}
use Rattle.tocmark_read_page.specs.Pages.{State, settled, has_text, start_of}
use Rattle.tocmark_read_page.specs.declared.line_start.LineStart.{LineStart}
use Rattle.tocmark_read_constructs.specs.Metadata.{metadata_in}
use Rattle.tocmark_read_blocks.specs.Blocks.{core_known, rule_or_text, underlined_if, underline_taken_in, started_in, started_at_in, leaf_started_in, passed_in, turn_of, turn_in, leaf_ended, touched, turn_taken_in, taken_at_in, cells_taken_in, line_taken_in}
use Rattle.tocmark_read_blocks.specs.Containers.{goes_directly}
use Rattle.tocmark_read_blocks.specs.Leaves.{metadata_or, leaf_turn, rule_at}
use Rattle.tocmark_read_blocks.specs.declared.leaf.LeafStart.{LeafStart}
use Rattle.tocmark_read_blocks.specs.declared.leaf.LeafStart.TheVariants as start
use Rattle.tocmark_read_blocks.specs.declared.leaf.Turn.{Turn}
use Rattle.tocmark_read_blocks.specs.declared.leaf.Turn.TheVariants as turn
use Rattle.tocmark_text_laws.specs.Items.{is_end}
use Rattle.tocmark_text_laws.specs.Lines.{IsInner, IsLine}
use Rattle.tocmark_text_laws.proofs.Pairs.{afters_length}
use Rattle.tocmark_text_laws.proofs.QuotedCells.{le_suc, cursor_on, length_on}
use Rattle.tocmark_text_laws.proofs.QuotedContainers.{InLine, column_in}
use Rattle.tocmark_text_laws.proofs.QuotedPieces.{LineOn, Beside, between_first, beside}
use Rattle.tocmark_text_laws.proofs.QuotedLeaves.{leaf_on, FineLeaf, LeafOn, leaf_at_two, rule_at_two, turn_on, FineTurn, TurnOn, leaf_turn_two}
use Rattle.tocmark_text_laws.proofs.QuotedLines.{FrontTest, Row}
use Rattle.tocmark_text_laws.proofs.QuotedPages.{quote_count}
use Rattle.tocmark_text_laws.proofs.QuotedTurns.{directly_open, touched_count}
use Rattle.tocmark_text_laws.proofs.ItemContainers.{OpenedIn, IsOuterList, IsOuterItem, Opens, touched_in, two_on, MatchedIn, Indents, matched_in}
use Rattle.tocmark_text_laws.proofs.ItemPages.{Inside, Firm, firm, inside_more, settled_firm, finished_firm, closed_two, has_text_two}
use Rattle.tocmark_text_laws.proofs.ItemLeaves.{place_in, code_taken_firm, indented_firm, fence_firm, html_firm, text_taken_firm, rule_firm, heading_firm, underlined_firm}
use Rattle.tocmark_text_laws.proofs.ItemBegun.{Went, directly_two, repeated_two}
use Rattle.tocmark_text_laws.proofs.Pages.{is_shut}
use Rattle.tocmark_text_laws.proofs.Machine.{core_at, core_begun}

rule_or_text_two : (item : ItemStart) (t q : List ℕ) (n : ℕ) (l' l : Line) (shift : ℕ) (w r : List Cell) (p : LineStart) (there here : State) → Beside t q l' l shift w r → Inside item t q n there here
    → Inside item t q n (rule_or_text (rule_at r (tail_of r) p.cursor.ink) q w l' (place_in shift p) there) (rule_or_text (rule_at r (tail_of r) p.cursor.ink) t r l p here)
unfolding rule_at
rule_or_text_two item t q n l' l shift w r p there here h i = by (is_rule r (tail_of r) p.cursor.ink)
  where
    by : (b : Bool) → Inside item t q n (rule_or_text (if b then start.Rule else start.Text) q w l' (place_in shift p) there) (rule_or_text (if b then start.Rule else start.Text) t r l p here)
    by true = (rule_firm item t q n l' l shift w r p there here h i).inside
    by false = (text_taken_firm item t q n l' l shift w r p there here h i).inside

underline_two : (item : ItemStart) (t q : List ℕ) (n : ℕ) (l' l : Line) (shift : ℕ) (w r : List Cell) (p : LineStart) (level : HeadingLevel) (there here : State) → Beside t q l' l shift w r → Firm item t q n there here
    → Inside item t q n (underline_taken_in core_known q w l' (tail_of w) (place_in shift p) level there) (underline_taken_in core_known t r l (tail_of r) p level here)
unfolding underline_taken_in metadata_in metadata_or
underline_two item t q n l' l shift w r p level there here h f = rw (has_text_two item t q n (settled q there) (settled t here) g, rule_at_two shift w r p.cursor.ink h.fronted) (by (has_text (settled t here)))
  where
    g : Firm item t q n (settled q there) (settled t here)
    g = settled_firm item t q n there here f

    by : (b : Bool) → Inside item t q n (underlined_if core_known b (rule_at r (tail_of r) p.cursor.ink) q w l' (place_in shift p) level (settled q there)) (underlined_if core_known b (rule_at r (tail_of r) p.cursor.ink) t r l p level (settled t here))
    by true = (underlined_firm item t q n level l' l (settled q there) (settled t here) h.line.number g).inside
    by false = rule_or_text_two item t q n l' l shift w r p (settled q there) (settled t here) h g.inside

started_two : (item : ItemStart) (t q : List ℕ) (n : ℕ) (l' l : Line) (shift : ℕ) (w r : List Cell) (p : LineStart) (d : Bool) (b : LeafStart) (there here : State) → Beside t q l' l shift w r → InLine r p.cursor → FineLeaf r p.cursor d b → (d ≡ true → is_shut here.leaf ≡ false) → Inside item t q n there here
    → Inside item t q n (started_in core_known (leaf_on shift b) q w l' (tail_of w) (place_in shift p) there) (started_in core_known b t r l (tail_of r) p here)
unfolding started_in
started_two item t q n l' l shift w r p d start.Blank there here h i e o g = closed_two item t q n p.depth there here g
started_two item t q n l' l shift w r p d start.Text there here h i e o g = (text_taken_firm item t q n l' l shift w r p there here h g).inside
started_two item t q n l' l shift w r p d (start.Indented column) there here h i e o g = (indented_firm item t q n l' l shift w r p column there here h e g).inside
started_two item t q n l' l shift w r p d (start.Heading x) there here h i e o g = (heading_firm item t q n l' l shift w r p x there here h g).inside
started_two item t q n l' l shift w r p d (start.Fence f) there here h i e o g = (fence_firm item t q n l' l shift w r p f there here h e g).inside
started_two item t q n l' l shift w r p d (start.Html k) there here h i e o g = (html_firm item t q n l' l shift w r p k there here h (column_in r p.cursor i) g).inside
started_two item t q n l' l shift w r p d (start.Underline level) there here h i e o g = underline_two item t q n l' l shift w r p level there here h (firm item t q n there here (o e) g)
started_two item t q n l' l shift w r p d start.Rule there here h i e o g = (rule_firm item t q n l' l shift w r p there here h g).inside
started_two item t q n l' l shift w r p d (start.Metadata k) there here h i e o g = absurd e
started_two item t q n l' l shift w r p d (start.Task b) there here h i e o g = absurd e
started_two item t q n l' l shift w r p d (start.QuoteKind k) there here h i e o g = absurd e

pub core_at_two : (item : ItemStart) (t q : List ℕ) (n : ℕ) (l' l : Line) (shift : ℕ) (w r : List Cell) (p : LineStart) (there here : State) → Beside t q l' l shift w r → InLine r p.cursor → Inside item t q n there here
    → LeafOn shift r p.cursor (goes_directly p.depth here) (core_at q w l' (tail_of w) there (place_in shift p)) (core_at t r l (tail_of r) here p)
core_at_two item t q n l' l shift w r p there here h i g =
    rw (directly_two item t q n p.depth there here g, g.leaf, rest)
    (leaf_at_two shift w r (bytes_between t (start_of r p l) l.end) p.cursor (is_paragraph here.leaf) (goes_directly p.depth here) h.fronted i)
  where
    rest : bytes_between q (start_of w (place_in shift p) l') l'.end ≡ bytes_between t (start_of r p l) l.end
    rest = ap (λ a. bytes_between q a l'.end) (h.placed p.cursor.ink) ∙ ap (bytes_between q (start_of r p l + h.line.gap)) h.line.ends ∙ h.line.window (start_of r p l) l.end (h.begins p.cursor.ink) h.line.onto

started_at_two : (item : ItemStart) (t q : List ℕ) (n : ℕ) (l' l : Line) (shift : ℕ) (w r : List Cell) (p : LineStart) (there here : State) → Beside t q l' l shift w r → InLine r p.cursor → Inside item t q n there here
    → Inside item t q n (started_at_in core_known q w l' (tail_of w) (there, place_in shift p)) (started_at_in core_known t r l (tail_of r) (here, p))
started_at_two item t q n l' l shift w r p there here h i g =
    subst (λ x. Inside item t q n x (started_at_in core_known t r l (tail_of r) (here, p))) (sym (core_begun q w l' (tail_of w) there (place_in shift p) ∙ ap (λ b. started_in core_known b q w l' (tail_of w) (place_in shift p) there) (found.0)))
    (subst (λ x. Inside item t q n (started_in core_known (leaf_on shift (core_at t r l (tail_of r) here p)) q w l' (tail_of w) (place_in shift p) there) x) (sym (core_begun t r l (tail_of r) here p))
    (started_two item t q n l' l shift w r p (goes_directly p.depth here) (core_at t r l (tail_of r) here p) there here h i (found.1) (directly_open p.depth here) g))
  where
    found : LeafOn shift r p.cursor (goes_directly p.depth here) (core_at q w l' (tail_of w) there (place_in shift p)) (core_at t r l (tail_of r) here p)
    found = core_at_two item t q n l' l shift w r p there here h i g

pub went_started : (item : ItemStart) (t q : List ℕ) (n : ℕ) (l' l : Line) (shift : ℕ) (w r : List Cell) (a b : State × LineStart) → Beside t q l' l shift w r → Went item t q n shift r a b → Inside item t q n (started_at_in core_known q w l' (tail_of w) a) (started_at_in core_known t r l (tail_of r) b)
went_started item t q n l' l shift w r (u', p') (u, p) h (g, k) = subst (λ x. Inside item t q n (started_at_in core_known q w l' (tail_of w) (u', x)) (started_at_in core_known t r l (tail_of r) (u, p))) (sym (k.0)) (started_at_two item t q n l' l shift w r p u' u h (k.1) g)

leaf_started_two : (item : ItemStart) (t q : List ℕ) (n : ℕ) (l' l : Line) (shift : ℕ) (w r : List Cell) (p : LineStart) (there here : State) → Beside t q l' l shift w r → InLine r p.cursor → Inside item t q (n + 2 * p.cursor.column) there here
    → Inside item t q (n + 2 * length r) (leaf_started_in core_known q w l' (place_in shift p) there) (leaf_started_in core_known t r l p here)
unfolding leaf_started_in
leaf_started_two item t q n l' l shift w r p there here h i g =
    went_started item t q (n + 2 * length r) l' l shift w r _ _ h
    (repeated_two item t q n l' l shift w r (length w) (length r) p there here h (omega (arith, length_on shift w r h.fronted)) (omega arith) i g)

ended_two : (item : ItemStart) (t q : List ℕ) (n : ℕ) (l' l : Line) (there here : State) → l'.number ≡ l.number → Firm item t q n there here → Inside item t q n (leaf_ended l' there) (leaf_ended l here)
unfolding leaf_ended
ended_two item t q n l' l there here number f = (finished_firm item t q n _ _ (record {
  inside = record { opened = h.opened; blocks = h.blocks; pieces = h.pieces; definitions = h.definitions; quotes = h.quotes; counted = h.counted; leaf = h.leaf; core = h.core; kept = h.kept; tied = λ o. (number, f.some) };
  line = number;
  some = f.some;
})).inside
  where
    h : Inside item t q n there here
    h = f.inside

turned_two : (item : ItemStart) (t q : List ℕ) (n : ℕ) (l' l : Line) (shift : ℕ) (w r : List Cell) (p : LineStart) (u : Turn) (there here : State) → Beside t q l' l shift w r → InLine r p.cursor → FineTurn r here.leaf u → Inside item t q (n + 2 * p.cursor.column) there here
    → Inside item t q (n + 2 * length r) (turn_taken_in core_known (turn_on shift u) q w l' (place_in shift p) there) (turn_taken_in core_known u t r l p here)
unfolding passed_in
turned_two item t q n l' l shift w r p turn.Closes there here h i e g = ended_two item t q (n + 2 * length r) l' l there here h.line.number (firm item t q (n + 2 * length r) there here e (inside_more item t q (n + 2 * p.cursor.column) (n + 2 * length r) there here (omega (arith, i.column, i.ink)) g))
turned_two item t q n l' l shift w r p (turn.Takes column) there here h i e g = (code_taken_firm item t q (n + 2 * length r) l' l shift w r column there here h (e.0) (firm item t q (n + 2 * length r) there here (e.1) (inside_more item t q (n + 2 * p.cursor.column) (n + 2 * length r) there here (omega (arith, i.column, i.ink)) g))).inside
turned_two item t q n l' l shift w r p turn.Passes there here h i e g = leaf_started_two item t q n l' l shift w r p there here h i g
turned_two item t q n l' l shift w r p (turn.Row x) there here h i e g = absurd e

pub turn_of_two : (item : ItemStart) (t q : List ℕ) (n : ℕ) (l' l : Line) (shift : ℕ) (w r : List Cell) (p : LineStart) (there here : State) → Beside t q l' l shift w r → InLine r p.cursor → Inside item t q n there here
    → TurnOn shift r here.leaf (turn_of q w l' (place_in shift p) there) (turn_of t r l p here)
unfolding turn_of
turn_of_two item t q n l' l shift w r p there here h i g = rw (afters_length (IsOuterList item) (IsOuterItem item) OpenedIn there.opened here.opened g.opened.after, less, g.leaf) (by (nat_le (length here.opened) p.depth))
  where
    less : nat_le (suc (suc (length here.opened))) (suc (suc p.depth)) ≡ nat_le (length here.opened) p.depth
    less = le_suc (suc (length here.opened)) (suc p.depth) ∙ le_suc (length here.opened) p.depth

    by : (b : Bool) → TurnOn shift r here.leaf (if b then leaf_turn q w l' (cursor_on shift p.cursor) here.leaf else turn.Passes) (if b then leaf_turn t r l p.cursor here.leaf else turn.Passes)
    by true = leaf_turn_two t q l' l shift w r p.cursor here.leaf g.core h.fronted i
    by false = (refl, tt)

taken_at_two : (item : ItemStart) (t q : List ℕ) (n : ℕ) (l' l : Line) (shift : ℕ) (w r : List Cell) (p : LineStart) (there here : State) → Beside t q l' l shift w r → InLine r p.cursor → Inside item t q (n + 2 * p.cursor.column) there here
    → Inside item t q (n + 2 * length r) (taken_at_in core_known q w l' (place_in shift p) there) (taken_at_in core_known t r l p here)
unfolding turn_in
taken_at_two item t q n l' l shift w r p there here h i g =
    subst (λ x. Inside item t q (n + 2 * length r) (turn_taken_in core_known x q w l' (place_in shift p) there) (turn_taken_in core_known (turn_of t r l p here) t r l p here)) (sym (found.0))
    (turned_two item t q n l' l shift w r p (turn_of t r l p here) there here h i (found.1) g)
  where
    found : TurnOn shift r here.leaf (turn_of q w l' (place_in shift p) there) (turn_of t r l p here)
    found = turn_of_two item t q (n + 2 * p.cursor.column) l' l shift w r p there here h i g

touched_inside : (item : ItemStart) (t q : List ℕ) (n : ℕ) (l' l : Line) (depth : ℕ) (there here : State) → l'.number ≡ l.number → Inside item t q n there here → Inside item t q n (touched l' (suc (suc depth)) there) (touched l depth here)
unfolding touched
touched_inside item t q n l' l depth there here number h = record {
  opened = opens;
  blocks = h.blocks;
  pieces = h.pieces;
  definitions = h.definitions;
  quotes = h.quotes;
  counted = subst (λ k. k ≡ length here.quotes) (sym (touched_count depth l.end l.number here.quotes here.opened)) h.counted;
  leaf = h.leaf;
  core = h.core;
  kept = h.kept;
  tied = h.tied;
}
  where
    opens : Opens item n (touched_from (suc (suc depth)) l'.end l'.number there.quotes there.opened) (touched_from depth l.end l.number here.quotes here.opened)
    opens =
        subst (λ (qs : List ℕ). Opens item n (touched_from (suc (suc depth)) l'.end l'.number qs there.opened) (touched_from depth l.end l.number here.quotes here.opened)) (sym h.quotes)
        (subst (λ m. Opens item n (touched_from (suc (suc depth)) l'.end m (map two_on here.quotes) there.opened) (touched_from depth l.end l.number here.quotes here.opened)) (sym number)
        (touched_in item n depth l'.end l.end l.number here.quotes there.opened here.opened h.opened))

-- no container is open without a quote among the open ones
pub no_quotes : (item : ItemStart) (t q : List ℕ) (n : ℕ) (there here : State) → Inside item t q n there here → length here.opened ≡ 0 → length here.quotes ≡ 0
no_quotes item t q n there here g e = sym g.counted ∙ by here.opened e
  where
    by : (os : List Opened) → length os ≡ 0 → quote_count os ≡ 0
    by [] f = refl
    by (o ∷ os) f = absurd (omega (arith, f))

cells_two : (item : ItemStart) (t q : List ℕ) (n : ℕ) (l' l : Line) (shift : ℕ) (w r : List Cell) (there here : State) (h : Beside t q l' l shift w r) → Indents item.width r h.fronted.front → 0 < item.width → n + 9 < 2 ^ 64 → Inside item t q n there here
    → Inside item t q (n + 2 * length r) (cells_taken_in core_known q w l' there) (cells_taken_in core_known t r l here)
unfolding cells_taken_in
cells_two item t q n l' l shift w r there here h m some few g = by (matched w there.opened there.quotes) (matched r here.opened here.quotes) found
  where
    found : MatchedIn shift r (matched w there.opened there.quotes) (matched r here.opened here.quotes)
    found = subst (λ (qs : List ℕ). MatchedIn shift r (matched w there.opened qs) (matched r here.opened here.quotes)) (sym g.quotes) (matched_in item n shift w r there.opened here.opened here.quotes h.fronted m some few (no_quotes item t q n there here g) g.opened)

    by : (a b : ℕ × Cursor) → MatchedIn shift r a b
        → Inside item t q (n + 2 * length r) (taken_at_in core_known q w l' (record { cursor = a.1; depth = a.0 }) (touched l' (a.0) there)) (taken_at_in core_known t r l (record { cursor = b.1; depth = b.0 }) (touched l (b.0) here))
    by a (depth, cursor) (e, i) = rw e (taken_at_two item t q n l' l shift w r (record { cursor = cursor; depth = depth }) (touched l' (suc (suc depth)) there) (touched l depth here) h i
        (inside_more item t q n (n + 2 * cursor.column) (touched l' (suc (suc depth)) there) (touched l depth here) (omega arith) (touched_inside item t q n l' l depth there here h.line.number g)))

-- a line after the first one

-- What is in front of a line: of the first one the marker and spaces, of each other one spaces, or nothing if it is empty.
abbrev pub IsInItem : List ℕ → ℕ → FrontTest
IsInItem first width n front b = ((n ≡ 0) × (front ≡ first)) ⊎ ((0 < n) × ((front ≡ replicate width 32) ⊎ ((front ≡ []) × (is_end b ≡ true))))

-- an empty line has no columns
empty_line : (t : List ℕ) (l : Line) → length (bytes_between t l.start l.end) ≡ l.end - l.start → IsLine t l → is_end (byte_at t l.start) ≡ true → l.end - l.start ≡ 0
empty_line t l long one e = sym long ∙ by (bytes_between t l.start l.end) one.content (between_first t l.start l.end)
  where
    no : (b : ℕ) → IsInner b → is_end b ≡ true → ⊥
    no b (g, h) k = let z : is_end b ≡ false = rw (g, h) refl in absurd cc

    by : (bs : List ℕ) → AllByRecursion IsInner bs → (bs ≡ []) ⊎ (byte_at bs 0 ≡ byte_at t l.start) → length bs ≡ 0
    by bs a (inl g) = ap length g
    by [] a (inr g) = refl
    by (b ∷ bs) a (inr g) = absurd (no b (a.0) (ap is_end g ∙ e))

-- so many columns of spaces are in front of a line after the first one
pub indents_in : (first t q : List ℕ) (width before : ℕ) (l' l : Line) (shift : ℕ) (w r : List Cell) (h : LineOn t q l' l) → Beside t q l' l shift w r → 0 < before → IsLine t l → IsInItem first width before h.front (byte_at t l.start) → Indents width r h.front
indents_in first t q width before l' l shift w r h both late one (inl (e, f)) = absurd (omega (arith, e, late))
indents_in first t q width before l' l shift w r h both late one (inr (e, inl f)) = inl f
indents_in first t q width before l' l shift w r h both late one (inr (e, inr (f, g))) = inr (f, omega (arith, both.wide, h.order, empty_line t l h.long one g))

pub line_in : (item : ItemStart) (first : List ℕ) (t q : List ℕ) (n before m : ℕ) (l' l : Line) (there here : State) → Row (IsInItem first item.width) t q before m l' l → 0 < before → IsLine t l → 0 < item.width → n + 9 < 2 ^ 64 → Inside item t q n there here
    → Inside item t q (n + 2 * (l.end - l.start)) (line_taken_in core_known q there l') (line_taken_in core_known t here l)
unfolding line_taken_in
line_in item first t q n before m l' l there here h late one some few g = by (beside t q l' l h.line)
  where
    w : List Cell
    w = cells_of [] l'.start (bytes_between q l'.start l'.end)

    r : List Cell
    r = cells_of [] l.start (bytes_between t l.start l.end)

    shift : ℕ
    shift = length h.line.front

    by : (both : Beside t q l' l shift w r) × (both.fronted.front ≡ h.line.front) → Inside item t q (n + 2 * (l.end - l.start)) (cells_taken_in core_known q w l' there) (cells_taken_in core_known t r l here)
    by (both, same) =
        inside_more item t q (n + 2 * length r) (n + 2 * (l.end - l.start)) _ _ (omega (arith, both.wide))
        (cells_two item t q n l' l shift w r there here both (subst (λ xs. Indents item.width r xs) (sym same) (indents_in first t q item.width before l' l shift w r h.line both late one h.kind)) some few g)

-- How a line comes into the pages of two texts, where one has some blocks in front.
use Rattle.std.proofs.Common.{◌≡◌, ℕ, zero, suc, ◌+◌, ◌-◌, Bool, true, false, if◌then◌else◌, nat_le, List, [], ◌∷◌, length, refl, ap, sym, subst, ◌∙◌, arith}
use Rattle.std.specs.Prelude.{slice_get, Option, Some, None}
use Rattle.std.specs.Option.{option_map_or}
use Rattle.tocmark_event.specs.declared.event.HeadingLevel.{HeadingLevel}
use Rattle.tocmark_read_scan.specs.Basic.{plus, bytes_between}
use Rattle.tocmark_read_scan.specs.Repeat.{going, repeated}
use Rattle.tocmark_read_scan.specs.declared.syntax.TheConstants.{CORE}
use Rattle.tocmark_read_lines.specs.Cells.{cells_of, first_cursor, moved}
use Rattle.tocmark_read_lines.specs.Containers.{after_quote, container_in, going_on, is_empty, blank_depth, stopped, passed, matched_from, matched, touched_from}
use Rattle.tocmark_read_lines.specs.Marks.{is_rule, tail_of}
use Rattle.tocmark_read_lines.specs.declared.beginnings.Tail.{Tail}
use Rattle.tocmark_read_lines.specs.declared.cell.Cell.{Cell}
use Rattle.tocmark_read_lines.specs.declared.cell.Cursor.{Cursor}
use Rattle.tocmark_read_lines.specs.declared.container.Container.TheVariants as container
use Rattle.tocmark_read_lines.specs.declared.container.ContainerStart.{ContainerStart}
use Rattle.tocmark_read_lines.specs.declared.container.ContainerStart.TheVariants as begins
use Rattle.tocmark_read_lines.specs.declared.container.ItemStart.{ItemStart}
use Rattle.tocmark_read_lines.specs.declared.container.Opened.{Opened}
use Rattle.tocmark_read_lines.specs.declared.line.Line.{Line}
use Rattle.tocmark_read_page.specs.Leaves.{is_paragraph}
use Rattle.tocmark_read_page.specs.Pages.{State, innermost, settled, closed_to, has_text, list_left, opened_with, some_place, start_of, with_place}
use Rattle.tocmark_read_page.specs.declared.line_start.LineStart.{LineStart}
use Rattle.tocmark_read_page.specs.declared.page.BlockKind.TheVariants as kind
use Rattle.tocmark_read_constructs.specs.Metadata.{metadata_in}
use Rattle.tocmark_read_constructs.specs.Quotes.{quote_opened}
use Rattle.tocmark_read_blocks.specs.Blocks.{core_known, rule_or_text, underlined_if, underline_taken_in, started_in, started_at_in, leaf_started_in, passed_in, turn_of, turn_in, leaf_ended, touched, turn_taken_in, taken_at_in, cells_taken_in, line_taken_in}
use Rattle.tocmark_read_blocks.specs.Containers.{goes_directly, is_list_of, is_in_list, list_started, item_opened, begun_at, container_once_in}
use Rattle.tocmark_read_blocks.specs.Leaves.{metadata_or, leaf_turn, rule_at, leaf_at}
use Rattle.tocmark_read_blocks.specs.declared.leaf.LeafStart.{LeafStart}
use Rattle.tocmark_read_blocks.specs.declared.leaf.LeafStart.TheVariants as start
use Rattle.tocmark_read_blocks.specs.declared.leaf.Turn.{Turn}
use Rattle.tocmark_read_blocks.specs.declared.leaf.Turn.TheVariants as turn
use Rattle.tocmark_text_laws.proofs.Pairs.{Pairs, PairOf, pairs_length}
use Rattle.tocmark_text_laws.proofs.Fronts.{last_got}
use Rattle.tocmark_text_laws.proofs.SequencePages.{Earlier, numbered, OpenedOn, Onward, Firm, firm, settled_firm, closed_on, touched_inner, touched_on, list_left_on, opened_with_on, has_text_on}
use Rattle.tocmark_text_laws.proofs.SequenceLeaves.{Shared, wider, code_taken_firm, indented_firm, fence_firm, html_firm, text_taken_firm, rule_firm, heading_firm, underlined_firm, ended_firm, FineLeaf, leaf_fine, FineTurn, turn_fine}
use Rattle.tocmark_text_laws.proofs.QuotedTurns.{directly_open}
use Rattle.tocmark_text_laws.proofs.Pages.{is_shut}
use Rattle.tocmark_text_laws.proofs.Begun.{is_core_start, container_core}
use Rattle.tocmark_text_laws.proofs.Machine.{core_at, core_begun}

-- containers begin

directly_on : (t q : List ℕ) (f : Earlier) (n depth : ℕ) (there here : State) → Onward t q f n there here → goes_directly depth there ≡ goes_directly depth here
unfolding goes_directly
directly_on t q f n depth there here h = rw (h.leaf, pairs_length (OpenedOn f) there.opened here.opened h.opened) refl

in_list_on : (t q : List ℕ) (f : Earlier) (n sort : ℕ) (there here : State) → Onward t q f n there here → is_in_list sort there ≡ is_in_list sort here
unfolding is_in_list
in_list_on t q f n sort there here h = by (innermost there.opened) (innermost here.opened) (last_got (OpenedOn f) there.opened here.opened h.opened)
  where
    by : (o p : Option Opened) → PairOf (OpenedOn f) o p → option_map_or (λ (o : Opened). is_list_of sort o.container) o false ≡ option_map_or (λ (o : Opened). is_list_of sort o.container) p false
    by None None u = refl
    by None (Some y) u = absurd u
    by (Some x) None u = absurd u
    by (Some x) (Some y) u = ap (is_list_of sort) u.container

list_started_on : (t q : List ℕ) (f : Earlier) (n m : ℕ) (i : ItemStart) (start : ℕ) (l : Line) (cs : List Cell) (there here : State) → Shared t q f n m l cs → Onward t q f n there here → Onward t q f n (list_started i start (numbered m l) there) (list_started i start l here)
unfolding list_started
list_started_on t q f n m i start l cs there here s h = rw (in_list_on t q f n i.sort there here h) (by (is_in_list i.sort here))
  where
    by : (b : Bool) → Onward t q f n (if b then there else opened_with (container.List i.sort) (kind.List i.number) start (numbered m l) (list_left there)) (if b then here else opened_with (container.List i.sort) (kind.List i.number) start l (list_left here))
    by true = h
    by false = opened_with_on t q f n (container.List i.sort) (kind.List i.number) (kind.List i.number) start start m l (list_left there) (list_left here) refl s.later s.line.few (list_left_on t q f n there here h)

-- both states after a step, which goes on at the same place
abbrev Steps : List ℕ → List ℕ → Earlier → ℕ → State × Option LineStart → State × Option LineStart → Type 0
Steps t q f n a b = Onward t q f n (a.0) (b.0) × (a.1 ≡ b.1)

stepped : (t q : List ℕ) (f : Earlier) (n : ℕ) (c : Cursor) (u' u : State) → Onward t q f n u' u → Steps t q f n (some_place (with_place c u')) (some_place (with_place c u))
stepped t q f n c u' u h = (h, ap (λ d. Some (record { cursor = c; depth = d })) (pairs_length (OpenedOn f) u'.opened u.opened h.opened))

quote_on : (t q : List ℕ) (f : Earlier) (n m : ℕ) (l : Line) (cs : List Cell) (p : LineStart) (there here : State) → Shared t q f n m l cs → Onward t q f n there here → Steps t q f n (some_place (quote_opened q cs (numbered m l) p there)) (some_place (quote_opened t cs l p here))
unfolding quote_opened
quote_on t q f n m l cs p there here s h =
    stepped t q f n (after_quote cs p.cursor) _ _
    (opened_with_on t q f n container.Quote (kind.Quote None) (kind.Quote None) (start_of cs p l) (start_of cs p l) m l (list_left (closed_to q p.depth there)) (list_left (closed_to t p.depth here)) refl s.later s.line.few
    (list_left_on t q f n (closed_to q p.depth there) (closed_to t p.depth here) (closed_on t q f n p.depth there here h)))

item_on : (t q : List ℕ) (f : Earlier) (n m : ℕ) (l : Line) (cs : List Cell) (p : LineStart) (x : ItemStart) (there here : State) → Shared t q f n m l cs → Onward t q f n there here → Steps t q f n (some_place (item_opened q cs (numbered m l) p x there)) (some_place (item_opened t cs l p x here))
unfolding item_opened
item_on t q f n m l cs p x there here s h =
    stepped t q f n (moved cs p.cursor x.next) _ _
    (opened_with_on t q f n (container.Item x.width) kind.Item kind.Item (start_of cs p l) (start_of cs p l) m l
    (list_started x (start_of cs p l) (numbered m l) (closed_to q p.depth there)) (list_started x (start_of cs p l) l (closed_to t p.depth here)) refl s.later s.line.few
    (list_started_on t q f n m x (start_of cs p l) l cs (closed_to q p.depth there) (closed_to t p.depth here) s (closed_on t q f n p.depth there here h)))

begun_on : (t q : List ℕ) (f : Earlier) (n m : ℕ) (l : Line) (cs : List Cell) (p : LineStart) (o : Option ContainerStart) (there here : State) → Shared t q f n m l cs → is_core_start o ≡ true → Onward t q f n there here → Steps t q f n (begun_at q cs (numbered m l) p there o) (begun_at t cs l p here o)
unfolding is_core_start
begun_on t q f n m l cs p None there here s e h = (h, refl)
begun_on t q f n m l cs p (Some begins.Quote) there here s e h = quote_on t q f n m l cs p there here s h
begun_on t q f n m l cs p (Some (begins.Item x)) there here s e h = item_on t q f n m l cs p x there here s h
begun_on t q f n m l cs p (Some (begins.Footnote x)) there here s e h = absurd cc
begun_on t q f n m l cs p (Some (begins.Definition x)) there here s e h = absurd cc

once_on : (t q : List ℕ) (f : Earlier) (n m : ℕ) (l : Line) (cs : List Cell) (tail : Tail) (p : LineStart) (there here : State) → Shared t q f n m l cs → Onward t q f n there here → Steps t q f n (container_once_in CORE q cs (numbered m l) tail p there) (container_once_in CORE t cs l tail p here)
unfolding container_once_in
once_on t q f n m l cs tail p there here s h =
    rw (directly_on t q f n p.depth there here h) (begun_on t q f n m l cs p (container_in CORE cs tail p.cursor (goes_directly p.depth here)) there here s (container_core cs tail p.cursor (goes_directly p.depth here)) h)

-- both states after all steps
abbrev pub Went : List ℕ → List ℕ → Earlier → ℕ → State × LineStart → State × LineStart → Type 0
Went t q f n a b = Onward t q f n (a.0) (b.0) × (a.1 ≡ b.1)

pub repeated_on : (t q : List ℕ) (f : Earlier) (n m : ℕ) (l : Line) (cs : List Cell) (tail : Tail) (k : ℕ) (p : LineStart) (there here : State) → Shared t q f n m l cs → Onward t q f n there here
    → Went t q f n (repeated (container_once_in CORE q cs (numbered m l) tail) k p there) (repeated (container_once_in CORE t cs l tail) k p here)
unfolding repeated
repeated_on t q f n m l cs tail zero p there here s h = (h, refl)
repeated_on t q f n m l cs tail (suc k) p there here s h =
    by (container_once_in CORE q cs (numbered m l) tail p there) (container_once_in CORE t cs l tail p here) (once_on t q f n m l cs tail p there here s h) (λ d u' u g. repeated_on t q f n m l cs tail k d u' u s g)
  where
    rest' : LineStart → State → State × LineStart
    rest' = λ d u. repeated (container_once_in CORE q cs (numbered m l) tail) k d u

    rest : LineStart → State → State × LineStart
    rest = λ d u. repeated (container_once_in CORE t cs l tail) k d u

    by : (a b : State × Option LineStart) → Steps t q f n a b → ((d : LineStart) (u' u : State) → Onward t q f n u' u → Went t q f n (rest' d u') (rest d u)) → Went t q f n (going rest' p a) (going rest p b)
    by (u', o) (u, None) (g, e) again = subst (λ (x : Option LineStart). Went t q f n (going rest' p (u', x)) (u, p)) (sym e) (g, refl)
    by (u', o) (u, Some d) (g, e) again = subst (λ (x : Option LineStart). Went t q f n (going rest' p (u', x)) (rest d u)) (sym e) (again d u' u g)

-- a leaf begins

rule_or_text_on : (t q : List ℕ) (f : Earlier) (n m : ℕ) (l : Line) (cs : List Cell) (tail : Tail) (p : LineStart) (there here : State) → Shared t q f n m l cs → Onward t q f n there here
    → Onward t q f (suc n) (rule_or_text (rule_at cs tail p.cursor.ink) q cs (numbered m l) p there) (rule_or_text (rule_at cs tail p.cursor.ink) t cs l p here)
unfolding rule_at
rule_or_text_on t q f n m l cs tail p there here s h = by (is_rule cs tail p.cursor.ink)
  where
    by : (b : Bool) → Onward t q f (suc n) (rule_or_text (if b then start.Rule else start.Text) q cs (numbered m l) p there) (rule_or_text (if b then start.Rule else start.Text) t cs l p here)
    by true = wider t q f n m l cs _ _ s (rule_firm t q f n m l cs p there here s h).onward
    by false = (text_taken_firm t q f n m l cs p there here s h).onward

underline_on : (t q : List ℕ) (f : Earlier) (n m : ℕ) (l : Line) (cs : List Cell) (tail : Tail) (p : LineStart) (level : HeadingLevel) (there here : State) → Shared t q f n m l cs → Firm t q f n there here
    → Onward t q f (suc n) (underline_taken_in core_known q cs (numbered m l) tail p level there) (underline_taken_in core_known t cs l tail p level here)
unfolding underline_taken_in metadata_in metadata_or
underline_on t q f n m l cs tail p level there here s g = rw (has_text_on t q f n (settled q there) (settled t here) k) (by (has_text (settled t here)))
  where
    k : Firm t q f n (settled q there) (settled t here)
    k = settled_firm t q f n there here g

    by : (b : Bool) → Onward t q f (suc n) (underlined_if core_known b (rule_at cs tail p.cursor.ink) q cs (numbered m l) p level (settled q there)) (underlined_if core_known b (rule_at cs tail p.cursor.ink) t cs l p level (settled t here))
    by true = wider t q f n m l cs _ _ s (underlined_firm t q f n m level l (settled q there) (settled t here) s.later k).onward
    by false = rule_or_text_on t q f n m l cs tail p (settled q there) (settled t here) s k.onward

started_on : (t q : List ℕ) (f : Earlier) (n m : ℕ) (l : Line) (cs : List Cell) (tail : Tail) (p : LineStart) (d : Bool) (b : LeafStart) (there here : State) → Shared t q f n m l cs → FineLeaf d b → (d ≡ true → is_shut here.leaf ≡ false) → Onward t q f n there here
    → Onward t q f (suc n) (started_in core_known b q cs (numbered m l) tail p there) (started_in core_known b t cs l tail p here)
unfolding started_in
started_on t q f n m l cs tail p d start.Blank there here s e o g = wider t q f n m l cs _ _ s (closed_on t q f n p.depth there here g)
started_on t q f n m l cs tail p d start.Text there here s e o g = (text_taken_firm t q f n m l cs p there here s g).onward
started_on t q f n m l cs tail p d (start.Indented column) there here s e o g = (indented_firm t q f n m l cs p column there here s g).onward
started_on t q f n m l cs tail p d (start.Heading x) there here s e o g = (heading_firm t q f n m l cs p x there here s g).onward
started_on t q f n m l cs tail p d (start.Fence x) there here s e o g = wider t q f n m l cs _ _ s (fence_firm t q f n m l cs p x there here s g).onward
started_on t q f n m l cs tail p d (start.Html k) there here s e o g = (html_firm t q f n m l cs p k there here s g).onward
started_on t q f n m l cs tail p d (start.Underline level) there here s e o g = underline_on t q f n m l cs tail p level there here s (firm t q f n there here (o e) g)
started_on t q f n m l cs tail p d start.Rule there here s e o g = wider t q f n m l cs _ _ s (rule_firm t q f n m l cs p there here s g).onward
started_on t q f n m l cs tail p d (start.Metadata k) there here s e o g = absurd e
started_on t q f n m l cs tail p d (start.Task b) there here s e o g = absurd e
started_on t q f n m l cs tail p d (start.QuoteKind k) there here s e o g = absurd e

core_at_on : (t q : List ℕ) (f : Earlier) (n m : ℕ) (l : Line) (cs : List Cell) (tail : Tail) (p : LineStart) (there here : State) → Shared t q f n m l cs → Onward t q f n there here → core_at q cs (numbered m l) tail there p ≡ core_at t cs l tail here p
core_at_on t q f n m l cs tail p there here s h =
    ap (λ bs. leaf_at cs bs tail p.cursor (is_paragraph there.leaf) (goes_directly p.depth there)) (s.line.window (start_of cs p l) l.end (s.line.begins p.cursor.ink) s.line.onto)
    ∙ ap (λ k. leaf_at cs (bytes_between t (start_of cs p l) l.end) tail p.cursor (is_paragraph k) (goes_directly p.depth there)) h.leaf
    ∙ ap (leaf_at cs (bytes_between t (start_of cs p l) l.end) tail p.cursor (is_paragraph here.leaf)) (directly_on t q f n p.depth there here h)

pub started_at_on : (t q : List ℕ) (f : Earlier) (n m : ℕ) (l : Line) (cs : List Cell) (tail : Tail) (p : LineStart) (there here : State) → Shared t q f n m l cs → Onward t q f n there here
    → Onward t q f (suc n) (started_at_in core_known q cs (numbered m l) tail (there, p)) (started_at_in core_known t cs l tail (here, p))
started_at_on t q f n m l cs tail p there here s h =
    subst (λ x. Onward t q f (suc n) x (started_at_in core_known t cs l tail (here, p))) (sym (core_begun q cs (numbered m l) tail there p ∙ ap (λ b. started_in core_known b q cs (numbered m l) tail p there) (core_at_on t q f n m l cs tail p there here s h)))
    (subst (λ x. Onward t q f (suc n) (started_in core_known (core_at t cs l tail here p) q cs (numbered m l) tail p there) x) (sym (core_begun t cs l tail here p))
    (started_on t q f n m l cs tail p (goes_directly p.depth here) (core_at t cs l tail here p) there here s (leaf_fine cs (bytes_between t (start_of cs p l) l.end) tail p.cursor (is_paragraph here.leaf) (goes_directly p.depth here)) (directly_open p.depth here) h))

pub went_started : (t q : List ℕ) (f : Earlier) (n m : ℕ) (l : Line) (cs : List Cell) (tail : Tail) (a b : State × LineStart) → Shared t q f n m l cs → Went t q f n a b → Onward t q f (suc n) (started_at_in core_known q cs (numbered m l) tail a) (started_at_in core_known t cs l tail b)
went_started t q f n m l cs tail (u', p') (u, p) s (g, e) = subst (λ x. Onward t q f (suc n) (started_at_in core_known q cs (numbered m l) tail (u', x)) (started_at_in core_known t cs l tail (u, p))) (sym e) (started_at_on t q f n m l cs tail p u' u s g)

leaf_started_on : (t q : List ℕ) (f : Earlier) (n m : ℕ) (l : Line) (cs : List Cell) (p : LineStart) (there here : State) → Shared t q f n m l cs → Onward t q f n there here
    → Onward t q f (suc n) (leaf_started_in core_known q cs (numbered m l) p there) (leaf_started_in core_known t cs l p here)
unfolding leaf_started_in
leaf_started_on t q f n m l cs p there here s h = went_started t q f n m l cs (tail_of cs) _ _ s (repeated_on t q f n m l cs (tail_of cs) (length cs) p there here s h)

-- a line comes in

turned_on : (t q : List ℕ) (f : Earlier) (n m : ℕ) (l : Line) (cs : List Cell) (p : LineStart) (u : Turn) (there here : State) → Shared t q f n m l cs → FineTurn here.leaf u → Onward t q f n there here
    → Onward t q f (suc n) (turn_taken_in core_known u q cs (numbered m l) p there) (turn_taken_in core_known u t cs l p here)
unfolding passed_in leaf_ended
turned_on t q f n m l cs p turn.Closes there here s e g = wider t q f n m l cs _ _ s (ended_firm t q f n m l there here s.later (firm t q f n there here e g)).onward
turned_on t q f n m l cs p (turn.Takes column) there here s e g = (code_taken_firm t q f n m l cs column there here s (firm t q f n there here e g)).onward
turned_on t q f n m l cs p turn.Passes there here s e g = leaf_started_on t q f n m l cs p there here s g
turned_on t q f n m l cs p (turn.Row x) there here s e g = absurd e

turn_of_on : (t q : List ℕ) (f : Earlier) (n m : ℕ) (l : Line) (cs : List Cell) (p : LineStart) (there here : State) → Onward t q f n there here → (turn_of q cs (numbered m l) p there ≡ turn_of t cs l p here) × FineTurn here.leaf (turn_of t cs l p here)
unfolding turn_of
turn_of_on t q f n m l cs p there here h = rw (pairs_length (OpenedOn f) there.opened here.opened h.opened, h.leaf) (by (nat_le (length here.opened) p.depth))
  where
    by : (b : Bool) → ((if b then leaf_turn q cs (numbered m l) p.cursor here.leaf else turn.Passes) ≡ (if b then leaf_turn t cs l p.cursor here.leaf else turn.Passes)) × FineTurn here.leaf (if b then leaf_turn t cs l p.cursor here.leaf else turn.Passes)
    by true = turn_fine t q m l cs p.cursor here.leaf h.core
    by false = (refl, tt)

taken_at_on : (t q : List ℕ) (f : Earlier) (n m : ℕ) (l : Line) (cs : List Cell) (p : LineStart) (there here : State) → Shared t q f n m l cs → Onward t q f n there here
    → Onward t q f (suc n) (taken_at_in core_known q cs (numbered m l) p there) (taken_at_in core_known t cs l p here)
unfolding turn_in
taken_at_on t q f n m l cs p there here s h =
    subst (λ x. Onward t q f (suc n) (turn_taken_in core_known x q cs (numbered m l) p there) (turn_taken_in core_known (turn_of t cs l p here) t cs l p here)) (sym (found.0))
    (turned_on t q f n m l cs p (turn_of t cs l p here) there here s (found.1) h)
  where
    found : (turn_of q cs (numbered m l) p there ≡ turn_of t cs l p here) × FineTurn here.leaf (turn_of t cs l p here)
    found = turn_of_on t q f n m l cs p there here h

touched_onward : (t q : List ℕ) (f : Earlier) (n m : ℕ) (l : Line) (depth : ℕ) (there here : State) → m + f.lines ≡ l.number → Onward t q f n there here → Onward t q f n (touched (numbered m l) depth there) (touched l depth here)
unfolding touched
touched_onward t q f n m l depth there here later h = record {
  opened = subst (λ (qs : List ℕ). Pairs (OpenedOn f) (touched_from depth l.end m qs there.opened) (touched_from depth l.end l.number here.quotes here.opened)) (sym h.quotes) (touched_on f depth l.end l.end m l.number here.quotes later there.opened here.opened h.opened);
  inner = touched_inner f.blocks depth l.end l.number here.quotes here.opened h.inner;
  blocks = h.blocks;
  pieces = h.pieces;
  definitions = h.definitions;
  quotes = h.quotes;
  leaf = h.leaf;
  core = h.core;
  few = h.few;
  room = h.room;
  lasts = h.lasts;
  tied = h.tied;
}

-- which containers go on

passed_on : (f : Earlier) (cs : List Cell) (c : Cursor) (x y : Opened) → OpenedOn f x y → passed cs c x ≡ passed cs c y
unfolding passed going_on
passed_on f cs c x y h = rw (h.container, h.had) refl

empty_on : (f : Earlier) (x y : Opened) → OpenedOn f x y → is_empty x ≡ is_empty y
unfolding is_empty
empty_on f x y h = rw (h.container, h.had) refl

blank_on : (f : Earlier) (there here : List Opened) → Pairs (OpenedOn f) there here → blank_depth there ≡ blank_depth here
unfolding blank_depth
blank_on f there here h = rw (pairs_length (OpenedOn f) there here h, test) refl
  where
    by : (o p : Option Opened) → PairOf (OpenedOn f) o p → option_map_or is_empty o false ≡ option_map_or is_empty p false
    by None None u = refl
    by None (Some y) u = absurd u
    by (Some x) None u = absurd u
    by (Some x) (Some y) u = empty_on f x y u

    test : option_map_or is_empty (slice_get there (length here - 1)) false ≡ option_map_or is_empty (slice_get here (length here - 1)) false
    test = subst (λ k. option_map_or is_empty (slice_get there (k - 1)) false ≡ option_map_or is_empty (slice_get here (length here - 1)) false) (pairs_length (OpenedOn f) there here h) (by (innermost there) (innermost here) (last_got (OpenedOn f) there here h))

stopped_on : (f : Earlier) (cs : List Cell) (there here : List Opened) (qs : List ℕ) (count : ℕ) (c : Cursor) → Pairs (OpenedOn f) there here → stopped cs there qs count c ≡ stopped cs here qs count c
unfolding stopped
stopped_on f cs there here qs count c h = rw (blank_on f there here h) refl

matched_from_on : (f : Earlier) (cs : List Cell) (there here : List Opened) (qs : List ℕ) (count : ℕ) (c : Cursor) → Pairs (OpenedOn f) there here → (xs ys : List Opened) → Pairs (OpenedOn f) xs ys
    → matched_from cs there qs count c xs ≡ matched_from cs here qs count c ys
matched_from_on f cs there here qs count c h [] [] k = refl
matched_from_on f cs there here qs count c h [] (y ∷ ys) k = absurd k
matched_from_on f cs there here qs count c h (x ∷ xs) [] k = absurd k
matched_from_on f cs there here qs count c h (x ∷ xs) (y ∷ ys) k =
    rw (passed_on f cs c x y (k.0), stopped_on f cs there here qs count c h) (by (passed cs c y) (λ next. matched_from_on f cs there here qs (plus count 1) next h xs ys (k.1)))
  where
    stop : ℕ × Cursor
    stop = (stopped cs here qs count c, c)

    by : (o : Option Cursor) → ((next : Cursor) → matched_from cs there qs (plus count 1) next xs ≡ matched_from cs here qs (plus count 1) next ys)
        → option_map_or (λ next. matched_from cs there qs (plus count 1) next xs) o stop ≡ option_map_or (λ next. matched_from cs here qs (plus count 1) next ys) o stop
    by None again = refl
    by (Some next) again = again next

matched_on : (f : Earlier) (cs : List Cell) (there here : List Opened) (qs' qs : List ℕ) → qs' ≡ qs → Pairs (OpenedOn f) there here → matched cs there qs' ≡ matched cs here qs
matched_on f cs there here qs' qs e h = ap (λ (zs : List ℕ). matched cs there zs) e ∙ matched_from_on f cs there here qs 0 (first_cursor cs) h there here h

cells_on : (t q : List ℕ) (f : Earlier) (n m : ℕ) (l : Line) (cs : List Cell) (there here : State) → Shared t q f n m l cs → Onward t q f n there here
    → Onward t q f (suc n) (cells_taken_in core_known q cs (numbered m l) there) (cells_taken_in core_known t cs l here)
unfolding cells_taken_in
cells_on t q f n m l cs there here s h = rw (matched_on f cs there.opened here.opened there.quotes here.quotes h.quotes h.opened) (by (matched cs here.opened here.quotes))
  where
    by : (found : ℕ × Cursor) → Onward t q f (suc n) (taken_at_in core_known q cs (numbered m l) (record { cursor = found.1; depth = found.0 }) (touched (numbered m l) (found.0) there)) (taken_at_in core_known t cs l (record { cursor = found.1; depth = found.0 }) (touched l (found.0) here))
    by (depth, cursor) = taken_at_on t q f n m l cs (record { cursor = cursor; depth = depth }) (touched (numbered m l) depth there) (touched l depth here) s (touched_onward t q f n m l depth there here s.later h)

pub line_on : (t q : List ℕ) (f : Earlier) (n m : ℕ) (l : Line) (there here : State) → Shared t q f n m l (cells_of [] l.start (bytes_between t l.start l.end)) → Onward t q f n there here
    → Onward t q f (suc n) (line_taken_in core_known q there (numbered m l)) (line_taken_in core_known t here l)
unfolding line_taken_in
line_on t q f n m l there here s h = rw (s.line.window l.start l.end (omega arith) s.line.onto) (cells_on t q f n m l (cells_of [] l.start (bytes_between t l.start l.end)) there here s h)

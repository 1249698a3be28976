-- A line at the margin that isn't an item of the open list ends all that is open.
use Rattle.std.proofs.Common.{◌≡◌, ℕ, suc, ◌<◌, ◌≤◌, Bool, true, false, not, ◌==◌, ◌&&◌, if◌then◌else◌, nat_lt, nat_le, List, [], ◌∷◌, length, refl, ap, sym, subst, ◌∙◌, arith}
use Rattle.std.specs.Prelude.{Option, Some, None, unwrap_or}
use Rattle.std.specs.Option.{option_map, option_map_or, option_and_then}
use Rattle.std.proofs.lemmas.Bool.Decides.{nat_tests}
use Rattle.tocmark_read_scan.specs.Basic.{plus, bytes_between}
use Rattle.tocmark_read_scan.specs.Repeat.{going, repeated}
use Rattle.tocmark_read_scan.specs.declared.syntax.TheConstants.{CORE}
use Rattle.tocmark_read_lines.specs.Cells.{cell_place, first_cursor, indent_of, moved, is_blank_at}
use Rattle.tocmark_read_lines.specs.Containers.{raised_at, blank_depth, quote_from, after_quote, item_goes_on, going_on_as, going_on, stopped, passed, matched_from, matched, touched_from, container_at, container_in}
use Rattle.tocmark_read_lines.specs.DefinitionLists.{definition_start}
use Rattle.tocmark_read_lines.specs.Footnotes.{note_start}
use Rattle.tocmark_read_lines.specs.Html.{html_kind}
use Rattle.tocmark_read_lines.specs.Marks.{fence_at, heading_at, is_rule, tail_of}
use Rattle.tocmark_read_lines.specs.declared.beginnings.Fence.{Fence}
use Rattle.tocmark_read_lines.specs.declared.beginnings.Heading.{Heading}
use Rattle.tocmark_read_lines.specs.declared.beginnings.Tail.{Tail}
use Rattle.tocmark_read_lines.specs.declared.cell.Cell.{Cell}
use Rattle.tocmark_read_lines.specs.declared.cell.Cursor.{Cursor}
use Rattle.tocmark_read_lines.specs.declared.container.Container.{Container}
use Rattle.tocmark_read_lines.specs.declared.container.Container.TheVariants as container
use Rattle.tocmark_read_lines.specs.declared.container.ContainerStart.{ContainerStart}
use Rattle.tocmark_read_lines.specs.declared.container.ContainerStart.TheVariants as begins
use Rattle.tocmark_read_lines.specs.declared.container.ItemStart.{ItemStart}
use Rattle.tocmark_read_lines.specs.declared.container.Opened.{Opened}
use Rattle.tocmark_read_lines.specs.declared.html.HtmlKind.{HtmlKind}
use Rattle.tocmark_read_lines.specs.declared.html.HtmlKind.TheVariants as html
use Rattle.tocmark_read_lines.specs.declared.line.Line.{Line}
use Rattle.tocmark_read_page.specs.Leaves.{is_paragraph}
use Rattle.tocmark_read_page.specs.Pages.{State, leaf_finished, is_quote, closed_to, list_left, begun, opened_with, leaf_opened, piece_taken, with_place}
use Rattle.tocmark_read_page.specs.Pieces.{heading_piece, text_piece}
use Rattle.tocmark_read_page.specs.declared.leaf.Leaf.{Leaf}
use Rattle.tocmark_read_page.specs.declared.leaf.Leaf.TheVariants as leaf
use Rattle.tocmark_read_page.specs.declared.line_start.LineStart.{LineStart}
use Rattle.tocmark_read_page.specs.declared.page.BlockKind.{BlockKind}
use Rattle.tocmark_read_page.specs.declared.page.BlockKind.TheVariants as kind
use Rattle.tocmark_read_constructs.specs.Headings.{heading_put, heading_started_in}
use Rattle.tocmark_read_constructs.specs.Quotes.{quote_opened}
use Rattle.tocmark_read_blocks.specs.Blocks.{core_known, started_in, started_at_in, leaf_started_in, passed_in, turn_of, turn_in, touched, turn_taken_in, taken_at_in, cells_taken_in}
use Rattle.tocmark_read_blocks.specs.Codes.{info_of, code_taken, indented_started, fence_started, html_started}
use Rattle.tocmark_read_blocks.specs.Containers.{goes_directly, list_started, item_opened, begun_at, container_once_in}
use Rattle.tocmark_read_blocks.specs.Leaves.{leaf_turn, interrupting, html_at, underline_in, rule_at, mark_at, leaf_at}
use Rattle.tocmark_read_blocks.specs.Paragraphs.{text_started, in_paragraph, text_taken, rule_started}
use Rattle.tocmark_read_blocks.specs.declared.leaf.LeafStart.{LeafStart}
use Rattle.tocmark_read_blocks.specs.declared.leaf.LeafStart.TheVariants as start
use Rattle.tocmark_read_blocks.specs.declared.leaf.Turn.TheVariants as turn
use Rattle.tocmark_text_laws.specs.ListEnds.{item_mark, goes_into, ends_paragraph, continues}
use Rattle.tocmark_text_laws.proofs.Shut.{closed_shut}
use Rattle.tocmark_text_laws.proofs.Begun.{is_core_start, container_core}
use Rattle.tocmark_text_laws.proofs.Machine.{core_at, core_begun}
use Rattle.tocmark_text_laws.proofs.Sorted.{containers, quotes_of}
use Rattle.tocmark_text_laws.proofs.QuotedRun.{none_open}
use Rattle.tocmark_text_laws.proofs.SequenceRun.{none_of}
use Rattle.tocmark_text_laws.proofs.ListEndsClosed.{closed_further, Lists, left_closed, other_list, no_list, none_left}

-- a line is taken after the containers that go on in it
pub cells_passed : (q : List ℕ) (cs : List Cell) (l : Line) (s : State) (d : ℕ) (c : Cursor) → matched cs s.opened s.quotes ≡ (d, c) → touched_from d l.end l.number s.quotes s.opened ≡ s.opened → turn_of q cs l (record { cursor = c; depth = d }) s ≡ turn.Passes
    → cells_taken_in core_known q cs l s ≡ leaf_started_in core_known q cs l (record { cursor = c; depth = d }) s
unfolding cells_taken_in touched turn_in passed_in
cells_passed q cs l s d c found same passes =
    ap (λ (f : ℕ × Cursor). taken_at_in core_known q cs l (record { cursor = f.1; depth = f.0 }) (touched l (f.0) s)) found
    ∙ ap (λ (os : List Opened). taken_at_in core_known q cs l (record { cursor = c; depth = d }) (record s { opened = os })) same
    ∙ ap (λ u. turn_taken_in core_known u q cs l (record { cursor = c; depth = d }) s) passes

pub shut_passes : (q : List ℕ) (cs : List Cell) (l : Line) (p : LineStart) (s : State) → s.leaf ≡ leaf.Nothing → turn_of q cs l p s ≡ turn.Passes
unfolding turn_of leaf_turn
shut_passes q cs l p s h = by (nat_le (length s.opened) p.depth)
  where
    by : (b : Bool) → (if b then leaf_turn q cs l p.cursor s.leaf else turn.Passes) ≡ turn.Passes
    by true = ap (leaf_turn q cs l p.cursor) h
    by false = refl

-- the front of a line at the margin, or after one space there
pub record Margin (cs : List Cell) : Type 0 where
  pub count : ℕ
  pub long : length cs ≡ suc count
  pub some : nat_le (length cs) (first_cursor cs).column ≡ false
  pub ink : is_blank_at cs (first_cursor cs) ≡ false
  pub edge : indent_of (first_cursor cs) ≤ 1

-- an item that goes on in indented lines alone
abbrev pub IsWide : Container → Type 0
IsWide (container.Item width) = 1 < width
IsWide c = ⊥

-- what is directly in the outermost list
abbrev pub Behind : List Container → Type 0
Behind [] = Unit
Behind (c ∷ cs) = IsWide c

wide_stops : (cs : List Cell) (c : Container) (had : Bool) → Margin cs → IsWide c → going_on_as c cs (first_cursor cs) had ≡ None
unfolding item_goes_on
wide_stops cs (container.Item width) had m w = rw (m.ink, narrow) refl
  where
    narrow : nat_le width (indent_of (first_cursor cs)) ≡ false
    narrow = let e : indent_of (first_cursor cs) ≤ 1 = m.edge in let z : indent_of (first_cursor cs) < width = omega (arith, e, w) in grind (arith, z, nat_tests)
wide_stops cs container.Quote had m w = absurd w
wide_stops cs (container.List sort) had m w = absurd w
wide_stops cs container.Footnote had m w = absurd w
wide_stops cs container.Definitions had m w = absurd w
wide_stops cs (container.Definition width) had m w = absurd w

inner_matched : (cs : List Cell) (whole : List Opened) (qs : List ℕ) (os : List Opened) → Margin cs → Behind (containers os) → matched_from cs whole qs 1 (first_cursor cs) os ≡ (1, first_cursor cs)
unfolding stopped passed going_on
inner_matched cs whole qs [] m h = refl
inner_matched cs whole qs (o ∷ os) m h =
    ap (λ (p : Option Cursor). option_map_or (λ next. matched_from cs whole qs (plus 1 1) next os) p (stopped cs whole qs 1 (first_cursor cs), first_cursor cs)) (ap (λ b. if b then None else going_on_as o.container cs (first_cursor cs) o.had) m.some ∙ wide_stops cs o.container o.had m h)
    ∙ ap (λ b. (if b then unwrap_or (quote_from qs 1) (blank_depth whole) else 1, first_cursor cs)) m.some

list_goes : (cs : List Cell) (c : Cursor) (o : Opened) (mark : ℕ) → nat_le (length cs) c.column ≡ false → o.container ≡ container.List mark → passed cs c o ≡ Some c
unfolding passed going_on
list_goes cs c o mark e k = ap (λ b. if b then None else going_on_as o.container cs c o.had) e ∙ ap (λ x. going_on_as x cs c o.had) k

pub listed_matched : (cs : List Cell) (mark : ℕ) (inner : List Container) (os : List Opened) (qs : List ℕ) → Margin cs → containers os ≡ container.List mark ∷ inner → Behind inner → matched cs os qs ≡ (1, first_cursor cs)
listed_matched cs mark inner [] qs m e h = absurd cc
listed_matched cs mark inner (o ∷ os) qs m e h =
    ap (λ (p : Option Cursor). option_map_or (λ next. matched_from cs (o ∷ os) qs (plus 0 1) next os) p (stopped cs (o ∷ os) qs 0 (first_cursor cs), first_cursor cs)) (list_goes cs (first_cursor cs) o mark m.some (let z : o.container ≡ container.List mark = cc in z))
    ∙ ap (λ n. matched_from cs (o ∷ os) qs n (first_cursor cs) os) (let z : plus 0 1 ≡ 1 = omega arith in z)
    ∙ inner_matched cs (o ∷ os) qs os m (subst Behind (let z : inner ≡ containers os = cc in z) h)

-- no quote is so far out
touched_low : (end line k : ℕ) (cs : List Container) (os : List Opened) → touched_from 1 end line (quotes_of (suc k) cs) os ≡ os
touched_low end line k [] os = refl
touched_low end line k (c ∷ cs) os = by (is_quote c) (touched_low end line (suc k) cs os)
  where
    by : (b : Bool) → touched_from 1 end line (quotes_of (suc (suc k)) cs) os ≡ os → touched_from 1 end line (if b then suc k ∷ quotes_of (suc (suc k)) cs else quotes_of (suc (suc k)) cs) os ≡ os
    by true h = ap (λ x. if x then os else touched_from 1 end line (quotes_of (suc (suc k)) cs) (raised_at os (suc k) end line)) (let z : nat_le 1 (suc k) ≡ true = grind (arith, nat_tests) in z)
    by false h = h

pub touched_zero : (end line : ℕ) (qs : List ℕ) (os : List Opened) → touched_from 0 end line qs os ≡ os
touched_zero end line [] os = refl
touched_zero end line (q ∷ qs) os = ap (λ x. if x then os else touched_from 0 end line qs (raised_at os q end line)) (let z : nat_le 0 q ≡ true = grind (arith, nat_tests) in z)

pub no_first_quote : (mark : ℕ) (inner : List Container) → quotes_of 0 (container.List mark ∷ inner) ≡ quotes_of 1 inner
unfolding is_quote
no_first_quote mark inner = refl

-- a page with a list open
pub record Waits (mark : ℕ) (s : State) : Type 0 where
  pub lists : Lists mark s
  pub behind : Behind lists.inner
  pub quotes : s.quotes ≡ quotes_of 0 (containers s.opened)

pub waiting_cells : (q : List ℕ) (cs : List Cell) (l : Line) (mark : ℕ) (s : State) → Margin cs → Waits mark s → turn_of q cs l (record { cursor = first_cursor cs; depth = 1 }) s ≡ turn.Passes
    → cells_taken_in core_known q cs l s ≡ leaf_started_in core_known q cs l (record { cursor = first_cursor cs; depth = 1 }) s
waiting_cells q cs l mark s m w passes = cells_passed q cs l s 1 (first_cursor cs) (listed_matched cs mark w.lists.inner s.opened s.quotes m w.lists.first w.behind) same passes
  where
    same : touched_from 1 l.end l.number s.quotes s.opened ≡ s.opened
    same =
        ap (λ qs. touched_from 1 l.end l.number qs s.opened) (w.quotes ∙ ap (quotes_of 0) w.lists.first ∙ no_first_quote mark w.lists.inner)
        ∙ touched_low l.end l.number 0 w.lists.inner s.opened

pub empty_cells : (q : List ℕ) (cs : List Cell) (l : Line) (s : State) → s.opened ≡ [] → s.leaf ≡ leaf.Nothing → cells_taken_in core_known q cs l s ≡ leaf_started_in core_known q cs l (record { cursor = first_cursor cs; depth = 0 }) s
empty_cells q cs l s e h =
    cells_passed q cs l s 0 (first_cursor cs) (ap (λ (os : List Opened). matched cs os s.quotes) e) (touched_zero l.end l.number s.quotes s.opened) (shut_passes q cs l (record { cursor = first_cursor cs; depth = 0 }) s h)

-- what begins is the same

no_paragraph : (k : Leaf) → k ≡ leaf.Nothing → is_paragraph k ≡ false
unfolding is_paragraph
no_paragraph k e = ap is_paragraph e

pub not_directly : (d : ℕ) (s : State) → s.leaf ≡ leaf.Nothing → goes_directly d s ≡ false
unfolding goes_directly
not_directly d s h = ap (λ b. b && nat_le (length s.opened) d) (no_paragraph s.leaf h)

leaf_opened_same : (k : Leaf) (b : BlockKind) (start : ℕ) (l : Line) (u v : State) → list_left u ≡ list_left v → leaf_opened k b start l u ≡ leaf_opened k b start l v
unfolding leaf_opened
leaf_opened_same k b start l u v e = ap (λ (w : State). record (begun b start l.number w) { leaf = k; end = l.end; line = l.number; kept = length (begun b start l.number w).pieces }) e

-- a leaf that begins with ink and doesn't underline
abbrev Inks : LeafStart → Type 0
Inks start.Blank = ⊥
Inks start.Text = Unit
Inks (start.Indented c) = Unit
Inks (start.Heading h) = Unit
Inks (start.Fence f) = Unit
Inks (start.Html k) = Unit
Inks (start.Underline l) = ⊥
Inks start.Rule = Unit
Inks (start.Metadata k) = ⊥
Inks (start.Task d) = ⊥
Inks (start.QuoteKind k) = ⊥

leaf_inks : (cs : List Cell) (rest : List ℕ) (tail : Tail) (cursor : Cursor) → is_blank_at cs cursor ≡ false → Inks (leaf_at cs rest tail cursor false false)
unfolding leaf_at mark_at rule_at underline_in
leaf_inks cs rest tail cursor e = by (is_blank_at cs cursor) (nat_lt (indent_of cursor) 4) e
  where
    rule : (x : Bool) → Inks (if x then start.Rule else start.Text)
    rule true = tt
    rule false = tt

    mark : (h : Option Heading) (x : Option Fence) (k : Option HtmlKind)
        → Inks (unwrap_or (option_map (λ h. start.Heading h) h) (unwrap_or (option_map (λ f. start.Fence f) x) (unwrap_or (option_map (λ k. start.Html k) k) (if is_rule cs tail cursor.ink then start.Rule else start.Text))))
    mark (Some h) x k = tt
    mark None (Some x) k = tt
    mark None None (Some k) = tt
    mark None None None = rule (is_rule cs tail cursor.ink)

    by : (a b : Bool) → a ≡ false → Inks (if a then start.Blank else (if b then mark_at cs rest tail cursor false false else (if false then start.Text else start.Indented (plus cursor.column 4))))
    by true b e = absurd cc
    by false true e = mark (heading_at cs cursor.ink) (fence_at cs cursor) (html_at rest false)
    by false false e = tt

abbrev at : Cursor → ℕ → LineStart
at c d = record { cursor = c; depth = d }

-- leaving the list leaves all
both_left : (q : List ℕ) (mark : ℕ) (s : State) → Lists mark s → list_left (closed_to q 1 s) ≡ list_left (closed_to q 0 (closed_to q 0 s))
both_left q mark s h =
    left_closed q mark s h
    ∙ sym (ap list_left (closed_further q 0 0 s (omega arith)) ∙ none_left (closed_to q 0 s) (none_of (closed_to q 0 s).opened (none_open q s)))

leaf_same : (q : List ℕ) (mark : ℕ) (s : State) (k : Leaf) (b : BlockKind) (start : ℕ) (l : Line) → Lists mark s → leaf_opened k b start l (closed_to q 1 s) ≡ leaf_opened k b start l (closed_to q 0 (closed_to q 0 s))
leaf_same q mark s k b start l h = leaf_opened_same k b start l (closed_to q 1 s) (closed_to q 0 (closed_to q 0 s)) (both_left q mark s h)

paragraph_same : (q : List ℕ) (cs : List Cell) (l : Line) (c : Cursor) (mark : ℕ) (s : State) → Lists mark s → is_paragraph s.leaf ≡ false → in_paragraph q cs l (at c 1) s ≡ in_paragraph q cs l (at c 0) (closed_to q 0 s)
paragraph_same q cs l c mark s h e =
    ap (λ b. if b then s else leaf_opened leaf.Paragraph kind.Paragraph (text_piece cs c l).start l (closed_to q 1 s)) e
    ∙ leaf_same q mark s leaf.Paragraph kind.Paragraph (text_piece cs c l).start l h
    ∙ sym (ap (λ b. if b then closed_to q 0 s else leaf_opened leaf.Paragraph kind.Paragraph (text_piece cs c l).start l (closed_to q 0 (closed_to q 0 s))) (no_paragraph (closed_to q 0 s).leaf (closed_shut q 0 s)))

none_open_here : (b : Bool) → (b && true) ≡ false → b ≡ false
none_open_here true h = absurd cc
none_open_here false h = refl

started_same : (q : List ℕ) (cs : List Cell) (l : Line) (tail : Tail) (c : Cursor) (mark : ℕ) (s : State) (b : LeafStart) → Lists mark s → (is_paragraph s.leaf && not (ends_paragraph b)) ≡ false → Inks b
    → started_in core_known b q cs l tail (at c 1) s ≡ started_in core_known b q cs l tail (at c 0) (closed_to q 0 s)
unfolding started_in text_taken indented_started fence_started html_started rule_started heading_started_in heading_put
started_same q cs l tail c mark s start.Blank h e k = absurd k
started_same q cs l tail c mark s start.Text h e k = ap (λ (w : State). piece_taken (text_piece cs c l) l true (text_started (text_piece cs c l).start w)) (paragraph_same q cs l c mark s h (none_open_here (is_paragraph s.leaf) e))
started_same q cs l tail c mark s (start.Indented column) h e k = ap (code_taken q cs column l) (leaf_same q mark s leaf.Indented kind.Indented (cell_place cs column l.end) l h)
started_same q cs l tail c mark s (start.Heading x) h e k = ap (λ (w : State). leaf_finished (piece_taken (heading_piece cs x l) l true w)) (leaf_same q mark s leaf.Nothing (kind.Heading x.level None) (cell_place cs c.ink l.end) l h)
started_same q cs l tail c mark s (start.Fence f) h e k = leaf_same q mark s (leaf.Fenced f) (info_of cs c f l) (cell_place cs c.ink l.end) l h
started_same q cs l tail c mark s (start.Html x) h e k = ap (code_taken q cs c.column l) (leaf_same q mark s (leaf.Html x) kind.Html (cell_place cs c.column l.end) l h)
started_same q cs l tail c mark s (start.Underline level) h e k = absurd k
started_same q cs l tail c mark s start.Rule h e k = ap leaf_finished (leaf_same q mark s leaf.Nothing kind.Rule (cell_place cs c.ink l.end) l h)
started_same q cs l tail c mark s (start.Metadata x) h e k = absurd k
started_same q cs l tail c mark s (start.Task d) h e k = absurd k
started_same q cs l tail c mark s (start.QuoteKind x) h e k = absurd k

-- what begins is the same in a paragraph, if it ends one
same_start : (cs : List Cell) (rest : List ℕ) (tail : Tail) (c : Cursor) (p : Bool) → nat_lt (indent_of c) 4 ≡ true → (p && not (ends_paragraph (leaf_at cs rest tail c false false))) ≡ false → leaf_at cs rest tail c p false ≡ leaf_at cs rest tail c false false
unfolding leaf_at mark_at html_at underline_in rule_at
same_start cs rest tail c false m h = refl
same_start cs rest tail c true m h = by (is_blank_at cs c) (nat_lt (indent_of c) 4) m h
  where
    marks : Bool → Option Heading → Option Fence → Option HtmlKind → Bool → LeafStart
    marks p x y k r =
        unwrap_or (option_map (λ h. start.Heading h) x)
        (unwrap_or (option_map (λ f. start.Fence f) y)
        (unwrap_or (option_map (λ k. start.Html k) (option_and_then (interrupting p) k))
        (if r then start.Rule else start.Text)))

    each : (x : Option Heading) (y : Option Fence) (k : Option HtmlKind) (r : Bool) → not (ends_paragraph (marks false x y k r)) ≡ false → marks true x y k r ≡ marks false x y k r
    each (Some x) y k r e = refl
    each None (Some y) k r e = refl
    each None None (Some html.Raw) r e = refl
    each None None (Some html.Comment) r e = refl
    each None None (Some html.Instruction) r e = refl
    each None None (Some html.Declaration) r e = refl
    each None None (Some html.CharacterData) r e = refl
    each None None (Some html.Named) r e = refl
    each None None (Some html.Alone) r e = absurd cc
    each None None None r e = refl

    by : (a b : Bool) → b ≡ true
        → not (ends_paragraph (if a then start.Blank else (if b then marks false (heading_at cs c.ink) (fence_at cs c) (html_kind rest) (is_rule cs tail c.ink) else (if false then start.Text else start.Indented (plus c.column 4))))) ≡ false
        → (if a then start.Blank else (if b then marks true (heading_at cs c.ink) (fence_at cs c) (html_kind rest) (is_rule cs tail c.ink) else (if true then start.Text else start.Indented (plus c.column 4))))
        ≡ (if a then start.Blank else (if b then marks false (heading_at cs c.ink) (fence_at cs c) (html_kind rest) (is_rule cs tail c.ink) else (if false then start.Text else start.Indented (plus c.column 4))))
    by true b m h = refl
    by false true m h = each (heading_at cs c.ink) (fence_at cs c) (html_kind rest) (is_rule cs tail c.ink) h
    by false false m h = absurd cc

core_is : (q : List ℕ) (cs : List Cell) (l : Line) (tail : Tail) (c : Cursor) (d : ℕ) (s : State) → goes_directly d s ≡ false → nat_lt (indent_of c) 4 ≡ true
    → (is_paragraph s.leaf && not (ends_paragraph (leaf_at cs (bytes_between q (cell_place cs c.ink l.end) l.end) tail c false false))) ≡ false
    → core_at q cs l tail s (at c d) ≡ leaf_at cs (bytes_between q (cell_place cs c.ink l.end) l.end) tail c false false
core_is q cs l tail c d s e m f =
    ap (leaf_at cs (bytes_between q (cell_place cs c.ink l.end) l.end) tail c (is_paragraph s.leaf)) e
    ∙ same_start cs (bytes_between q (cell_place cs c.ink l.end) l.end) tail c (is_paragraph s.leaf) m f

leaf_begins_same : (q : List ℕ) (cs : List Cell) (l : Line) (tail : Tail) (c : Cursor) (mark : ℕ) (s : State) → is_blank_at cs c ≡ false → nat_lt (indent_of c) 4 ≡ true → Lists mark s → goes_directly 1 s ≡ false
    → (is_paragraph s.leaf && not (ends_paragraph (leaf_at cs (bytes_between q (cell_place cs c.ink l.end) l.end) tail c false false))) ≡ false
    → started_at_in core_known q cs l tail (s, at c 1) ≡ started_at_in core_known q cs l tail (closed_to q 0 s, at c 0)
leaf_begins_same q cs l tail c mark s ink m h e f =
    core_begun q cs l tail s (at c 1)
    ∙ ap (λ b. started_in core_known b q cs l tail (at c 1) s) (core_is q cs l tail c 1 s e m f)
    ∙ started_same q cs l tail c mark s found h f (leaf_inks cs (bytes_between q (cell_place cs c.ink l.end) l.end) tail c ink)
    ∙ sym (core_begun q cs l tail z (at c 0) ∙ ap (λ b. started_in core_known b q cs l tail (at c 0) z) (core_is q cs l tail c 0 z (not_directly 0 z (closed_shut q 0 s)) m (ap (λ b. b && not (ends_paragraph found)) (no_paragraph z.leaf (closed_shut q 0 s)))))
  where
    z : State
    z = closed_to q 0 s

    found : LeafStart
    found = leaf_at cs (bytes_between q (cell_place cs c.ink l.end) l.end) tail c false false

list_same : (q : List ℕ) (mark : ℕ) (s : State) (x : ItemStart) (start : ℕ) (l : Line) → Lists mark s → (mark == x.sort) ≡ false → list_started x start l (closed_to q 1 s) ≡ list_started x start l (closed_to q 0 (closed_to q 0 s))
unfolding list_started
list_same q mark s x start l h d =
    ap (λ b. if b then closed_to q 1 s else opened_with (container.List x.sort) (kind.List x.number) start l (list_left (closed_to q 1 s))) (other_list q mark x.sort s h d)
    ∙ ap (opened_with (container.List x.sort) (kind.List x.number) start l) (both_left q mark s h)
    ∙ sym (ap (λ b. if b then z else opened_with (container.List x.sort) (kind.List x.number) start l (list_left z)) (no_list x.sort z (none_of z.opened (none_open q (closed_to q 0 s)))))
  where
    z : State
    z = closed_to q 0 (closed_to q 0 s)

item_same : (q : List ℕ) (cs : List Cell) (l : Line) (c : Cursor) (mark : ℕ) (s : State) (x : ItemStart) → Lists mark s → (mark == x.sort) ≡ false → item_opened q cs l (at c 1) x s ≡ item_opened q cs l (at c 0) x (closed_to q 0 s)
unfolding item_opened
item_same q cs l c mark s x h d = ap (λ (w : State). with_place (moved cs c x.next) (opened_with (container.Item x.width) kind.Item (cell_place cs c.ink l.end) l w)) (list_same q mark s x (cell_place cs c.ink l.end) l h d)

quote_same : (q : List ℕ) (cs : List Cell) (l : Line) (c : Cursor) (mark : ℕ) (s : State) → Lists mark s → quote_opened q cs l (at c 1) s ≡ quote_opened q cs l (at c 0) (closed_to q 0 s)
unfolding quote_opened
quote_same q cs l c mark s h = ap (λ (w : State). with_place (after_quote cs c) (opened_with container.Quote (kind.Quote None) (cell_place cs c.ink l.end) l w)) (both_left q mark s h)

-- the first container that begins, or a leaf
step_same : (q : List ℕ) (cs : List Cell) (l : Line) (tail : Tail) (c : Cursor) (mark : ℕ) (s : State) (rest : LineStart → State → State × LineStart) (o : Option ContainerStart)
    → is_blank_at cs c ≡ false → nat_lt (indent_of c) 4 ≡ true → Lists mark s → goes_directly 1 s ≡ false → is_core_start o ≡ true → goes_into mark (item_mark o) ≡ false
    → (is_paragraph s.leaf && continues o (leaf_at cs (bytes_between q (cell_place cs c.ink l.end) l.end) tail c false false)) ≡ false
    → started_at_in core_known q cs l tail (going rest (at c 1) (begun_at q cs l (at c 1) s o)) ≡ started_at_in core_known q cs l tail (going rest (at c 0) (begun_at q cs l (at c 0) (closed_to q 0 s) o))
unfolding is_core_start
step_same q cs l tail c mark s rest None ink m h e k d f = leaf_begins_same q cs l tail c mark s ink m h e f
step_same q cs l tail c mark s rest (Some begins.Quote) ink m h e k d f = ap (λ (r : State × LineStart). started_at_in core_known q cs l tail (rest (r.1) (r.0))) (quote_same q cs l c mark s h)
step_same q cs l tail c mark s rest (Some (begins.Item x)) ink m h e k d f = ap (λ (r : State × LineStart). started_at_in core_known q cs l tail (rest (r.1) (r.0))) (item_same q cs l c mark s x h d)
step_same q cs l tail c mark s rest (Some (begins.Footnote x)) ink m h e k d f = absurd cc
step_same q cs l tail c mark s rest (Some (begins.Definition x)) ink m h e k d f = absurd cc

begins_same : (q : List ℕ) (cs : List Cell) (l : Line) (c : Cursor) (mark n : ℕ) (s : State) → length cs ≡ suc n → is_blank_at cs c ≡ false → nat_lt (indent_of c) 4 ≡ true → Lists mark s → goes_directly 1 s ≡ false
    → goes_into mark (item_mark (container_in CORE cs (tail_of cs) c false)) ≡ false
    → (is_paragraph s.leaf && continues (container_in CORE cs (tail_of cs) c false) (leaf_at cs (bytes_between q (cell_place cs c.ink l.end) l.end) (tail_of cs) c false false)) ≡ false
    → leaf_started_in core_known q cs l (at c 1) s ≡ leaf_started_in core_known q cs l (at c 0) (closed_to q 0 s)
unfolding leaf_started_in repeated container_once_in
begins_same q cs l c mark n s long ink m h e d f =
    ap (λ m. started_at_in core_known q cs l (tail_of cs) (repeated once m (at c 1) s)) long
    ∙ ap (λ b. started_at_in core_known q cs l (tail_of cs) (going rest (at c 1) (begun_at q cs l (at c 1) s (container_in CORE cs (tail_of cs) c b)))) e
    ∙ step_same q cs l (tail_of cs) c mark s rest (container_in CORE cs (tail_of cs) c false) ink m h e (container_core cs (tail_of cs) c false) d f
    ∙ sym (ap (λ m. started_at_in core_known q cs l (tail_of cs) (repeated once m (at c 0) z)) long
    ∙ ap (λ b. started_at_in core_known q cs l (tail_of cs) (going rest (at c 0) (begun_at q cs l (at c 0) z (container_in CORE cs (tail_of cs) c b)))) (not_directly 0 z (closed_shut q 0 s)))
  where
    z : State
    z = closed_to q 0 s

    once : LineStart → State → State × Option LineStart
    once = container_once_in CORE q cs l (tail_of cs)

    rest : LineStart → State → State × LineStart
    rest = λ p u. repeated once n p u

pub core_container : (cs : List Cell) (tail : Tail) (c : Cursor) (p : Bool) → container_in CORE cs tail c p ≡ container_at cs tail c p
unfolding container_in definition_start note_start
core_container cs tail c p = refl

-- the open leaf lets a line at the margin begin something else
pub record Yields (q : List ℕ) (cs : List Cell) (l : Line) (s : State) : Type 0 where
  pub passes : turn_of q cs l (record { cursor = first_cursor cs; depth = 1 }) s ≡ turn.Passes
  pub indirect : goes_directly 1 s ≡ false
  pub ends : (is_paragraph s.leaf && continues (container_at cs (tail_of cs) (first_cursor cs) false) (leaf_at cs (bytes_between q (cell_place cs (first_cursor cs).ink l.end) l.end) (tail_of cs) (first_cursor cs) false false)) ≡ false

pub shut_yields : (q : List ℕ) (cs : List Cell) (l : Line) (s : State) → s.leaf ≡ leaf.Nothing → Yields q cs l s
shut_yields q cs l s h = record {
  passes = shut_passes q cs l (record { cursor = first_cursor cs; depth = 1 }) s h;
  indirect = not_directly 1 s h;
  ends = ap (λ b. b && continues (container_at cs (tail_of cs) (first_cursor cs) false) (leaf_at cs (bytes_between q (cell_place cs (first_cursor cs).ink l.end) l.end) (tail_of cs) (first_cursor cs) false false)) (no_paragraph s.leaf h);
}

-- such a line has nothing of the list
pub list_ends : (q : List ℕ) (cs : List Cell) (l : Line) (mark : ℕ) (s : State) → Margin cs → Waits mark s → Yields q cs l s → goes_into mark (item_mark (container_at cs (tail_of cs) (first_cursor cs) false)) ≡ false
    → cells_taken_in core_known q cs l s ≡ cells_taken_in core_known q cs l (closed_to q 0 s)
list_ends q cs l mark s m w y d =
    waiting_cells q cs l mark s m w y.passes
    ∙ begins_same q cs l (first_cursor cs) mark m.count s m.long m.ink low w.lists y.indirect (ap (λ o. goes_into mark (item_mark o)) same ∙ d)
    (ap (λ o. is_paragraph s.leaf && continues o (leaf_at cs (bytes_between q (cell_place cs (first_cursor cs).ink l.end) l.end) (tail_of cs) (first_cursor cs) false false)) same ∙ y.ends)
    ∙ sym (empty_cells q cs l (closed_to q 0 s) (none_of (closed_to q 0 s).opened (none_open q s)) (closed_shut q 0 s))
  where
    same : container_in CORE cs (tail_of cs) (first_cursor cs) false ≡ container_at cs (tail_of cs) (first_cursor cs) false
    same = core_container cs (tail_of cs) (first_cursor cs) false

    low : nat_lt (indent_of (first_cursor cs)) 4 ≡ true
    low = let e : indent_of (first_cursor cs) ≤ 1 = m.edge in let z : indent_of (first_cursor cs) < 4 = omega (arith, e) in grind (arith, z, nat_tests)

-- Each line leaves a page whose blocks are in containers alone.
use Rattle.std.proofs.Common.{◌≡◌, ℕ, zero, suc, ◌-◌, Bool, true, false, ◌||◌, if◌then◌else◌, nat_lt, nat_le, List, [], ◌∷◌, ◌++◌, length, refl, ap, sym, ◌∙◌, subst}
use Rattle.std.specs.Prelude.{slice_get, slice_set, unwrap_or, Option, Some, None}
use Rattle.std.specs.Option.{option_map, option_map_or}
use Rattle.std.specs.List.{fold}
use Rattle.tocmark_event.specs.declared.event.HeadingLevel.{HeadingLevel}
use Rattle.tocmark_read_scan.specs.Basic.{plus, bytes_between}
use Rattle.tocmark_read_scan.specs.declared.syntax.TheConstants.{CORE}
use Rattle.tocmark_read_lines.specs.Cells.{cell_place, cells_of, indent_of, is_blank_at}
use Rattle.tocmark_read_lines.specs.Containers.{matched, container_in}
use Rattle.tocmark_read_lines.specs.Html.{html_ends}
use Rattle.tocmark_read_lines.specs.Lines.{lines_of}
use Rattle.tocmark_read_lines.specs.Marks.{tail_of, is_rule, heading_at, fence_at, underline_at}
use Rattle.tocmark_read_lines.specs.declared.beginnings.Fence.{Fence}
use Rattle.tocmark_read_lines.specs.declared.beginnings.Heading.{Heading}
use Rattle.tocmark_read_lines.specs.declared.beginnings.Tail.{Tail}
use Rattle.tocmark_read_lines.specs.declared.cell.Cell.{Cell}
use Rattle.tocmark_read_lines.specs.declared.cell.Cursor.{Cursor}
use Rattle.tocmark_read_lines.specs.declared.container.Container.{Container}
use Rattle.tocmark_read_lines.specs.declared.container.Container.TheVariants as container
use Rattle.tocmark_read_lines.specs.declared.container.ContainerStart.{ContainerStart}
use Rattle.tocmark_read_lines.specs.declared.container.ContainerStart.TheVariants as begins
use Rattle.tocmark_read_lines.specs.declared.container.ItemStart.{ItemStart}
use Rattle.tocmark_read_lines.specs.declared.container.Opened.{Opened}
use Rattle.tocmark_read_lines.specs.declared.html.HtmlKind.{HtmlKind}
use Rattle.tocmark_read_lines.specs.declared.line.Line.{Line}
use Rattle.tocmark_read_page.specs.Leaves.{is_paragraph}
use Rattle.tocmark_read_page.specs.Pages.{State, first_page, leaf_finished, settled, closed_to, list_left, leaf_opened, piece_taken, opened_with, has_text, start_of, of_kind}
use Rattle.tocmark_read_page.specs.Pieces.{code_piece, text_piece, heading_piece, keeps_line}
use Rattle.tocmark_read_page.specs.declared.leaf.Leaf.{Leaf}
use Rattle.tocmark_read_page.specs.declared.leaf.Leaf.TheVariants as leaf
use Rattle.tocmark_read_page.specs.declared.line_start.LineStart.{LineStart}
use Rattle.tocmark_read_page.specs.declared.page.Block.{Block}
use Rattle.tocmark_read_page.specs.declared.page.BlockKind.TheVariants as kind
use Rattle.tocmark_read_page.specs.declared.piece.Piece.{Piece}
use Rattle.tocmark_read_constructs.specs.Headings.{heading_put, heading_started_in, underlined, underlined_in}
use Rattle.tocmark_read_constructs.specs.Metadata.{known_of, metadata_in}
use Rattle.tocmark_read_constructs.specs.Quotes.{quote_opened}
use Rattle.tocmark_read_blocks.specs.Blocks.{core_known, rule_or_text, underlined_if, underline_taken_in, started_in, started_at_in, leaf_started_in, passed_in, turn_in, leaf_ended, touched, turn_taken_in, taken_at_in, cells_taken_in, line_taken_in, page_in, blocks_in}
use Rattle.tocmark_read_blocks.specs.Codes.{info_of, html_ended_as, html_ended, code_taken, indented_started, fence_started, html_started}
use Rattle.tocmark_read_blocks.specs.Containers.{goes_directly, is_list_of, is_in_list, list_started, item_opened, begun_at, container_once_in, containers_opened_in}
use Rattle.tocmark_read_blocks.specs.Leaves.{html_at, leaf_at, mark_at, metadata_or, rule_at, underline_in}
use Rattle.tocmark_read_blocks.specs.Paragraphs.{in_paragraph, rule_started, text_started, text_taken}
use Rattle.tocmark_read_blocks.specs.declared.leaf.LeafStart.{LeafStart}
use Rattle.tocmark_read_blocks.specs.declared.leaf.LeafStart.TheVariants as start
use Rattle.tocmark_read_blocks.specs.declared.leaf.Turn.{Turn}
use Rattle.tocmark_read_blocks.specs.declared.leaf.Turn.TheVariants as turn
use Rattle.tocmark_text_laws.specs.Housed.{BlocksAreHoused}
use Rattle.tocmark_text_laws.proofs.Shut.{closed_shut, finished_shut}
use Rattle.tocmark_text_laws.proofs.Leaves.{is_core}
use Rattle.tocmark_text_laws.proofs.Core.{repeated_keeps, settled_leaf, turns_core}
use Rattle.tocmark_text_laws.proofs.Begun.{is_core_start, container_core, item_shut, quote_shut}
use Rattle.tocmark_text_laws.proofs.Machine.{core_at, core_begun}
use Rattle.tocmark_text_laws.proofs.Turns.{turn_of_core}
use Rattle.tocmark_text_laws.proofs.Kept.{line_core}
use Rattle.tocmark_text_laws.proofs.Walked.{direct_words}
use Rattle.tocmark_text_laws.proofs.Sorted.{containers, touched_containers}
use Rattle.tocmark_text_laws.proofs.Houses.{shape, shapes, Housed, Home, in_list, lists, home_shut, same_house, same_home, houses_plain, finish_house, settled_same, closed_to_house, innermost_in, list_left_house, opened_house, leaf_opened_home, kind_house}

finish_home : (s : State) → Housed s → Home (leaf_finished s)
finish_home s h = home_shut (leaf_finished s) (finished_shut s) (finish_house s h)

piece_home : (p : Piece) (line : Line) (keeps : Bool) (s : State) → Home s → Home (piece_taken p line keeps s)
unfolding piece_taken
piece_home p line keeps s h = by (nat_lt 0 p.spaces || nat_lt p.start p.next) keeps
  where
    by : (x y : Bool) → Home (let t = if x then record s { pieces = s.pieces ++ p ∷ [] } else s in if y then record t { kept = length t.pieces; end = line.end; line = line.number } else t)
    by true true = same_home s _ refl refl refl h
    by true false = same_home s _ refl refl refl h
    by false true = same_home s _ refl refl refl h
    by false false = h

code_home : (t : List ℕ) (cs : List Cell) (column : ℕ) (line : Line) (s : State) → Home s → Home (code_taken t cs column line s)
unfolding code_taken html_ended
code_home t cs column line s h = by u.leaf
  where
    rest : List ℕ
    rest = bytes_between t (code_piece cs column line).start (code_piece cs column line).end

    u : State
    u = piece_taken (code_piece cs column line) line (keeps_line cs column s.leaf) s

    same : Home u
    same = piece_home (code_piece cs column line) line (keeps_line cs column s.leaf) s h

    ends : (b : Bool) → Home (if b then leaf_finished u else u)
    ends true = finish_home u same.house
    ends false = same

    by : (k : Leaf) → Home (html_ended_as k rest u)
    by leaf.Nothing = same
    by leaf.Paragraph = same
    by leaf.Indented = same
    by (leaf.Fenced x) = same
    by (leaf.Html k) = ends (html_ends k rest)
    by (leaf.Metadata k) = same
    by (leaf.Table x) = same

begins_home : (x : ℕ) (s : State) → Home s → Home (text_started x s)
unfolding text_started
begins_home x s h = by (slice_get s.blocks (length s.blocks - 1)) refl
  where
    change : Block → State
    change b = if nat_le (length s.pieces) b.first then record s { blocks = slice_set s.blocks (length s.blocks - 1) (record b { start = x }) } else s

    set : (bs : List Block) (i : ℕ) (b : Block) → slice_get bs i ≡ Some b → shapes (slice_set bs i (record b { start = x })) ≡ shapes bs
    set [] i b e = refl
    set (y ∷ ys) zero b e = let q : y ≡ b = cc in ap (λ z. z ∷ shapes ys) (sym (ap shape q))
    set (y ∷ ys) (suc i) b e = ap (λ zs. shape y ∷ zs) (set ys i b e)

    inside : (b : Block) → slice_get s.blocks (length s.blocks - 1) ≡ Some b → (k : Bool) → Home (if k then record s { blocks = slice_set s.blocks (length s.blocks - 1) (record b { start = x }) } else s)
    inside b e true = same_home s _ (set s.blocks (length s.blocks - 1) b e) refl refl h
    inside b e false = h

    by : (o : Option Block) → slice_get s.blocks (length s.blocks - 1) ≡ o → Home (option_map_or change o s)
    by None e = h
    by (Some b) e = inside b e (nat_le (length s.pieces) b.first)

text_home : (t : List ℕ) (cs : List Cell) (line : Line) (place : LineStart) (s : State) → Home s → Home (text_taken t cs line place s)
unfolding text_taken text_piece
text_home t cs line place s h = piece_home (text_piece cs place.cursor line) line true _ (begins_home (cell_place cs place.cursor.ink line.end) (in_paragraph t cs line place s) (by (is_paragraph s.leaf)))
  where
    by : (b : Bool) → Home (if b then s else leaf_opened leaf.Paragraph kind.Paragraph (text_piece cs place.cursor line).start line (closed_to t place.depth s))
    by true = h
    by false = leaf_opened_home leaf.Paragraph kind.Paragraph (cell_place cs place.cursor.ink line.end) line (closed_to t place.depth s) refl refl (closed_to_house t place.depth s h.house)

rule_home : (t : List ℕ) (cs : List Cell) (line : Line) (place : LineStart) (s : State) → Home s → Home (rule_started t cs line place s)
unfolding rule_started
rule_home t cs line place s h = finish_home (leaf_opened leaf.Nothing kind.Rule (start_of cs place line) line (closed_to t place.depth s)) (leaf_opened_home leaf.Nothing kind.Rule (start_of cs place line) line (closed_to t place.depth s) refl refl (closed_to_house t place.depth s h.house)).house

rule_or_text_home : (t : List ℕ) (cs : List Cell) (line : Line) (tail : Tail) (place : LineStart) (s : State) → Home s → Home (rule_or_text (rule_at cs tail place.cursor.ink) t cs line place s)
unfolding rule_at
rule_or_text_home t cs line tail place s h = by (is_rule cs tail place.cursor.ink)
  where
    by : (b : Bool) → Home (rule_or_text (if b then start.Rule else start.Text) t cs line place s)
    by true = rule_home t cs line place s h
    by false = text_home t cs line place s h

underline_home : (t : List ℕ) (cs : List Cell) (line : Line) (tail : Tail) (place : LineStart) (level : HeadingLevel) (s : State) → is_paragraph s.leaf ≡ true → Home s → Home (underline_taken_in core_known t cs line tail place level s)
unfolding underline_taken_in metadata_in metadata_or underlined_in underlined
underline_home t cs line tail place level s p h = by (has_text u)
  where
    u : State
    u = settled t s

    same : Home u
    same = same_home s u ((settled_same t s).0) (ap containers ((settled_same t s).1)) (ap is_paragraph (settled_leaf t s)) h

    headed : Housed (record u { blocks = of_kind (kind.Heading level None) u.blocks; end = line.end; line = line.number })
    headed = kind_house (kind.Heading level None) u refl refl (same.words (ap is_paragraph (settled_leaf t s) ∙ p))

    by : (b : Bool) → Home (underlined_if core_known b (rule_at cs tail place.cursor.ink) t cs line place level u)
    by true = finish_home (record u { blocks = of_kind (kind.Heading level None) u.blocks; end = line.end; line = line.number }) headed
    by false = rule_or_text_home t cs line tail place u same

-- what a line may begin: an underline only in an open paragraph
abbrev Begins : Bool → LeafStart → Type 0
Begins d (start.Underline l) = d ≡ true
Begins d (start.Metadata k) = ⊥
Begins d (start.Task t) = ⊥
Begins d (start.QuoteKind k) = ⊥
Begins d b = Unit

abbrev MayUnder : Bool → Option HeadingLevel → Type 0
MayUnder d None = Unit
MayUnder d (Some l) = d ≡ true

under_may : (cs : List Cell) (c : ℕ) (d : Bool) → MayUnder d (underline_in cs c d)
unfolding underline_in
under_may cs c false = tt
under_may cs c true = by (underline_at cs c)
  where
    by : (o : Option HeadingLevel) → MayUnder true o
    by None = tt
    by (Some l) = refl

leaf_begins : (cs : List Cell) (rest : List ℕ) (tail : Tail) (cursor : Cursor) (p d : Bool) → Begins d (leaf_at cs rest tail cursor p d)
unfolding leaf_at mark_at rule_at
leaf_begins cs rest tail cursor p d = by (is_blank_at cs cursor) (nat_lt (indent_of cursor) 4) p
  where
    rule : (x : Bool) → Begins d (if x then start.Rule else start.Text)
    rule true = tt
    rule false = tt

    mark : (h : Option Heading) (x : Option Fence) (k : Option HtmlKind) (u : Option HeadingLevel) → MayUnder d u
        → Begins d (unwrap_or (option_map (λ h. start.Heading h) h) (unwrap_or (option_map (λ f. start.Fence f) x) (unwrap_or (option_map (λ k. start.Html k) k) (unwrap_or (option_map (λ l. start.Underline l) u) (if is_rule cs tail cursor.ink then start.Rule else start.Text)))))
    mark (Some h) x k u b = tt
    mark None (Some x) k u b = tt
    mark None None (Some k) u b = tt
    mark None None None (Some l) b = b
    mark None None None None b = rule (is_rule cs tail cursor.ink)

    by : (a b q : Bool) → Begins d (if a then start.Blank else (if b then mark_at cs rest tail cursor p d else (if q then start.Text else start.Indented (plus cursor.column 4))))
    by true b q = tt
    by false true q = mark (heading_at cs cursor.ink) (fence_at cs cursor) (html_at rest p) (underline_in cs cursor.ink d) (under_may cs cursor.ink d)
    by false false true = tt
    by false false false = tt

started_home : (t : List ℕ) (cs : List Cell) (line : Line) (tail : Tail) (place : LineStart) (s : State) (b : LeafStart) → Begins (goes_directly place.depth s) b → Home s → Home (started_in core_known b t cs line tail place s)
unfolding started_in indented_started fence_started html_started heading_started_in heading_put info_of
started_home t cs line tail place s b w h = by b w
  where
    u : State
    u = closed_to t place.depth s

    shut : Housed u
    shut = closed_to_house t place.depth s h.house

    by : (b : LeafStart) → Begins (goes_directly place.depth s) b → Home (started_in core_known b t cs line tail place s)
    by start.Blank w = home_shut u (closed_shut t place.depth s) shut
    by start.Text w = text_home t cs line place s h
    by (start.Indented column) w = code_home t cs column line _ (leaf_opened_home leaf.Indented kind.Indented (cell_place cs column line.end) line u refl refl shut)
    by (start.Heading x) w = finish_home _ (piece_home (heading_piece cs x line) line true _ (leaf_opened_home leaf.Nothing (kind.Heading x.level None) (start_of cs place line) line u refl refl shut)).house
    by (start.Fence f) w = leaf_opened_home (leaf.Fenced f) (info_of cs place.cursor f line) (start_of cs place line) line u refl refl shut
    by (start.Html x) w = code_home t cs place.cursor.column line _ (leaf_opened_home (leaf.Html x) kind.Html (cell_place cs place.cursor.column line.end) line u refl refl shut)
    by (start.Underline level) w = underline_home t cs line tail place level s (direct_words place.depth s w) h
    by start.Rule w = rule_home t cs line place s h
    by (start.Metadata x) w = absurd w
    by (start.Task d) w = absurd w
    by (start.QuoteKind x) w = absurd w

-- an item begins in its list
abbrev InList : State → Type 0
InList s = Housed s × (in_list false (containers s.opened) ≡ true)

list_home : (i : ItemStart) (x : ℕ) (line : Line) (s : State) → Housed s → InList (list_started i x line s)
unfolding list_started is_in_list
list_home i x line s h = by (slice_get s.opened (length s.opened - 1)) refl
  where
    new : Housed (opened_with (container.List i.sort) (kind.List i.number) x line (list_left s)) × (in_list false (containers (opened_with (container.List i.sort) (kind.List i.number) x line (list_left s)).opened) ≡ true)
    new = opened_house (container.List i.sort) (kind.List i.number) x line (list_left s) refl (sym ((list_left_house s h).1)) refl refl ((list_left_house s h).0)

    is_one : (c : Container) → is_list_of i.sort c ≡ true → lists c ≡ true
    is_one container.Quote e = absurd cc
    is_one (container.List sort) e = refl
    is_one (container.Item width) e = absurd cc
    is_one container.Footnote e = absurd cc
    is_one container.Definitions e = absurd cc
    is_one (container.Definition width) e = absurd cc

    inside : (o : Opened) → slice_get s.opened (length s.opened - 1) ≡ Some o → (k : Bool) → is_list_of i.sort o.container ≡ k → InList (if k then s else opened_with (container.List i.sort) (kind.List i.number) x line (list_left s))
    inside o e true k = (h, innermost_in s.opened (Some o) e ∙ is_one o.container k)
    inside o e false k = new

    by : (y : Option Opened) → slice_get s.opened (length s.opened - 1) ≡ y → InList (if option_map_or (λ (o : Opened). is_list_of i.sort o.container) y false then s else opened_with (container.List i.sort) (kind.List i.number) x line (list_left s))
    by None e = new
    by (Some o) e = inside o e (is_list_of i.sort o.container) refl

begun_home : (t : List ℕ) (cs : List Cell) (line : Line) (place : LineStart) (s : State) (o : Option ContainerStart) → is_core_start o ≡ true → Home s → Home ((begun_at t cs line place s o).0)
unfolding is_core_start item_opened quote_opened
begun_home t cs line place s None k h = h
begun_home t cs line place s (Some begins.Quote) k h = home_shut _ (quote_shut t cs line place s) ((opened_house container.Quote (kind.Quote None) (start_of cs place line) line (list_left (closed_to t place.depth s)) refl (sym ((list_left_house (closed_to t place.depth s) (closed_to_house t place.depth s h.house)).1)) refl refl ((list_left_house (closed_to t place.depth s) (closed_to_house t place.depth s h.house)).0)).0)
begun_home t cs line place s (Some (begins.Item i)) k h = home_shut _ (item_shut t cs line place i s) ((opened_house (container.Item i.width) kind.Item (start_of cs place line) line u refl (sym (inside.1)) refl refl (inside.0)).0)
  where
    u : State
    u = list_started i (start_of cs place line) line (closed_to t place.depth s)

    inside : InList u
    inside = list_home i (start_of cs place line) line (closed_to t place.depth s) (closed_to_house t place.depth s h.house)
begun_home t cs line place s (Some (begins.Footnote n)) k h = absurd cc
begun_home t cs line place s (Some (begins.Definition d)) k h = absurd cc

pub containers_home : (t : List ℕ) (cs : List Cell) (line : Line) (tail : Tail) (place : LineStart) (s : State) → Home s → Home ((containers_opened_in CORE t cs line tail place s).0)
unfolding container_once_in
containers_home t cs line tail place s h =
    repeated_keeps (λ (u : State). Home u) (container_once_in CORE t cs line tail)
    (λ next u k. begun_home t cs line next u (container_in CORE cs tail next.cursor (goes_directly next.depth u)) (container_core cs tail next.cursor (goes_directly next.depth u)) k)
    (length cs) place s h

leaf_started_home : (t : List ℕ) (cs : List Cell) (line : Line) (place : LineStart) (s : State) → Home s → Home (leaf_started_in core_known t cs line place s)
unfolding leaf_started_in
leaf_started_home t cs line place s h = by (containers_opened_in CORE t cs line (tail_of cs) place s) (containers_home t cs line (tail_of cs) place s h)
  where
    by : (r : State × LineStart) → Home (r.0) → Home (started_at_in core_known t cs line (tail_of cs) r)
    by (u, next) k = subst Home (sym (core_begun t cs line (tail_of cs) u next)) (started_home t cs line (tail_of cs) next u (core_at t cs line (tail_of cs) u next) (leaf_begins cs (bytes_between t (start_of cs next line) line.end) (tail_of cs) next.cursor (is_paragraph u.leaf) (goes_directly next.depth u)) k)

turned_home : (t : List ℕ) (cs : List Cell) (line : Line) (place : LineStart) (s : State) (u : Turn) → turns_core u s.leaf ≡ true → Home s → Home (turn_taken_in core_known u t cs line place s)
unfolding passed_in turns_core leaf_ended
turned_home t cs line place s turn.Closes k h = finish_home (record s { end = line.end; line = line.number }) (same_house s (record s { end = line.end; line = line.number }) refl refl h.house)
turned_home t cs line place s (turn.Takes column) k h = code_home t cs column line s h
turned_home t cs line place s turn.Passes k h = leaf_started_home t cs line place s h
turned_home t cs line place s (turn.Row x) k h = absurd cc

pub line_home : (t : List ℕ) (line : Line) (s : State) → is_core s.leaf ≡ true → Home s → Home (line_taken_in core_known t s line)
unfolding line_taken_in cells_taken_in touched turn_in
line_home t line s c h = by (matched cells s.opened s.quotes)
  where
    cells : List Cell
    cells = cells_of [] line.start (bytes_between t line.start line.end)

    by : (found : ℕ × Cursor) → Home (taken_at_in core_known t cells line (record { cursor = found.1; depth = found.0 }) (touched line (found.0) s))
    by (depth, cursor) = turned_home t cells line (record { cursor = cursor; depth = depth }) (touched line depth s) _ (turn_of_core t cells line (record { cursor = cursor; depth = depth }) (touched line depth s) c) (same_home s _ refl (touched_containers depth line.end line.number s.quotes s.opened) refl h)

pub lines_home : (t : List ℕ) (ls : List Line) (s : State) → is_core s.leaf ≡ true → Home s → Home (fold (line_taken_in core_known t) s ls)
lines_home t [] s c h = h
lines_home t (l ∷ ls) s c h = lines_home t ls (line_taken_in core_known t s l) (line_core t l s c) (line_home t l s c h)

pub blocks_housed : BlocksAreHoused
unfolding blocks_in page_in known_of is_core is_paragraph
blocks_housed t = houses_plain [] (closed_to t 0 last).blocks (closed_to_house t 0 last (lines_home t (lines_of t) first_page refl (record { house = record { chain = tt; fit = tt; housed = tt }; words = λ w. absurd cc })).house).housed
  where
    last : State
    last = fold (line_taken_in core_known t) first_page (lines_of t)

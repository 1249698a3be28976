-- Each list that is open has an item.
use Rattle.std.proofs.Common.{◌≡◌, ℕ, zero, suc, ◌-◌, ◌≤◌, Bool, true, false, ◌||◌, if◌then◌else◌, nat_lt, nat_le, List, [], ◌∷◌, ◌++◌, length, take, refl, ap, sym, subst, ◌∙◌, arith}
use Rattle.std.specs.Prelude.{slice_get, slice_set, Option, Some, None}
use Rattle.std.specs.List.{AllByRecursion, fold}
use Rattle.std.specs.Option.{option_map_or}
use Rattle.tocmark_event.specs.declared.event.HeadingLevel.{HeadingLevel}
use Rattle.tocmark_read_scan.specs.Basic.{bytes_between}
use Rattle.tocmark_read_scan.specs.declared.syntax.TheConstants.{CORE}
use Rattle.tocmark_read_lines.specs.Cells.{cells_of, cell_place}
use Rattle.tocmark_read_lines.specs.Containers.{raised, raised_at, matched, container_in, touched_from}
use Rattle.tocmark_read_lines.specs.Html.{html_ends}
use Rattle.tocmark_read_lines.specs.Marks.{is_rule, tail_of}
use Rattle.tocmark_read_lines.specs.declared.beginnings.Tail.{Tail}
use Rattle.tocmark_read_lines.specs.declared.cell.Cell.{Cell}
use Rattle.tocmark_read_lines.specs.declared.cell.Cursor.{Cursor}
use Rattle.tocmark_read_lines.specs.declared.container.Container.{Container}
use Rattle.tocmark_read_lines.specs.declared.container.Container.TheVariants as container
use Rattle.tocmark_read_lines.specs.declared.container.ContainerStart.{ContainerStart}
use Rattle.tocmark_read_lines.specs.declared.container.ContainerStart.TheVariants as begins
use Rattle.tocmark_read_lines.specs.declared.container.ItemStart.{ItemStart}
use Rattle.tocmark_read_lines.specs.declared.container.Opened.{Opened}
use Rattle.tocmark_read_lines.specs.declared.line.Line.{Line}
use Rattle.tocmark_read_page.specs.Leaves.{is_paragraph}
use Rattle.tocmark_read_page.specs.Pages.{State, innermost, ended, raised_last, leaf_finished, table_finished, settled, leaf_closed_as, leaf_closed, is_quote, is_list, is_definitions, quote_left, one_closed, times, closed_to, list_of, is_loose, left_noted, list_left, had_marked, begun, opened_with, leaf_opened, has_text, piece_taken, start_of, of_kind}
use Rattle.tocmark_read_page.specs.Pieces.{code_piece, keeps_line, text_piece, heading_piece}
use Rattle.tocmark_read_page.specs.declared.leaf.Leaf.{Leaf}
use Rattle.tocmark_read_page.specs.declared.leaf.Leaf.TheVariants as leaf
use Rattle.tocmark_read_page.specs.declared.line_start.LineStart.{LineStart}
use Rattle.tocmark_read_page.specs.declared.page.Block.{Block}
use Rattle.tocmark_read_page.specs.declared.page.BlockKind.{BlockKind}
use Rattle.tocmark_read_page.specs.declared.page.BlockKind.TheVariants as kind
use Rattle.tocmark_read_page.specs.declared.piece.Piece.{Piece}
use Rattle.tocmark_read_constructs.specs.Headings.{heading_put, heading_started_in, underlined, underlined_in}
use Rattle.tocmark_read_constructs.specs.Metadata.{metadata_in}
use Rattle.tocmark_read_constructs.specs.Quotes.{quote_opened}
use Rattle.tocmark_read_blocks.specs.Blocks.{core_known, rule_or_text, underlined_if, underline_taken_in, started_in, started_at_in, leaf_started_in, passed_in, turn_in, leaf_ended, touched, turn_taken_in, taken_at_in, cells_taken_in, line_taken_in}
use Rattle.tocmark_read_blocks.specs.Codes.{info_of, html_ended_as, html_ended, code_taken, indented_started, fence_started, html_started}
use Rattle.tocmark_read_blocks.specs.Containers.{goes_directly, is_in_list, list_started, item_opened, begun_at, container_once_in, containers_opened_in}
use Rattle.tocmark_read_blocks.specs.Leaves.{metadata_or, rule_at}
use Rattle.tocmark_read_blocks.specs.Paragraphs.{text_started, in_paragraph, text_taken, rule_started}
use Rattle.tocmark_read_blocks.specs.declared.leaf.LeafStart.{LeafStart}
use Rattle.tocmark_read_blocks.specs.declared.leaf.LeafStart.TheVariants as start
use Rattle.tocmark_read_blocks.specs.declared.leaf.Turn.{Turn}
use Rattle.tocmark_read_blocks.specs.declared.leaf.Turn.TheVariants as turn
use Rattle.tocmark_text_laws.proofs.Alls.{all_changed, all_both, all_take, last_place}
use Rattle.tocmark_text_laws.proofs.Leaves.{is_core}
use Rattle.tocmark_text_laws.proofs.Core.{begins_core, leaf_core, repeated_keeps, turns_core}
use Rattle.tocmark_text_laws.proofs.Begun.{is_core_start, container_core}
use Rattle.tocmark_text_laws.proofs.Machine.{core_at, core_begun}
use Rattle.tocmark_text_laws.proofs.Turns.{turn_of_core}
use Rattle.tocmark_text_laws.proofs.Kept.{line_core}
use Rattle.tocmark_text_laws.proofs.Houses.{lists, settled_same}

-- a list has an item
abbrev pub IsFilled : Opened → Type 0
IsFilled o = lists o.container ≡ true → o.had ≡ true

abbrev pub Filled : List Opened → Type 0
Filled os = AllByRecursion IsFilled os

abbrev pub Full : State → Type 0
Full s = Filled s.opened

-- so it is but for the innermost container
abbrev Most : State → Type 0
Most s = Filled (take (length s.opened - 1) s.opened)

full_most : (s : State) → Full s → Most s
full_most s h = all_take IsFilled (length s.opened - 1) s.opened h

raised_filled : (i end line : ℕ) (os : List Opened) → Filled os → Filled (raised_at os i end line)
unfolding raised_at raised
raised_filled i end line os h = all_changed IsFilled os i (λ (o : Opened). raised o end line) (λ o e k. k) h

touched_filled : (count end line : ℕ) (qs : List ℕ) (os : List Opened) → Filled os → Filled (touched_from count end line qs os)
touched_filled count end line [] os h = h
touched_filled count end line (q ∷ qs) os h = by (nat_le count q) (touched_filled count end line qs (raised_at os q end line) (raised_filled q end line os h))
  where
    by : (b : Bool) → Filled (touched_from count end line qs (raised_at os q end line)) → Filled (if b then os else touched_from count end line qs (raised_at os q end line))
    by true g = h
    by false g = g

-- a block begins in the innermost container
had_filled : (os : List Opened) → Filled (take (length os - 1) os) → Filled (had_marked os)
unfolding had_marked
had_filled os h = marks os (length os - 1) h (past_all os)
  where
    filled : Opened → Opened
    filled o = record o { had = true }

    past_all : (xs : List Opened) → length xs ≤ suc (length xs - 1)
    past_all xs = omega arith

    marks : (xs : List Opened) (i : ℕ) → Filled (take i xs) → length xs ≤ suc i → Filled (option_map_or (λ (o : Opened). slice_set xs i (filled o)) (slice_get xs i) xs)
    marks [] i k e = tt
    marks (x ∷ []) zero k e = (λ f. refl, tt)
    marks (x ∷ y ∷ ys) zero k e = absurd (omega (arith, e))
    marks (x ∷ xs) (suc i) k e = by (slice_get xs i) refl (marks xs i (k.1) (omega (arith, e)))
      where
        by : (p : Option Opened) → slice_get xs i ≡ p → Filled (option_map_or (λ (o : Opened). slice_set xs i (filled o)) p xs) → Filled (option_map_or (λ (o : Opened). slice_set (x ∷ xs) (suc i) (filled o)) p (x ∷ xs))
        by None f g = (k.0, g)
        by (Some o) f g = (k.0, g)

finished_full : (s : State) → Full s → Full (leaf_finished s)
unfolding leaf_finished
finished_full s h = raised_filled (length s.opened - 1) s.end s.line s.opened h

settled_full : (t : List ℕ) (s : State) → Full s → Full (settled t s)
settled_full t s h = subst Filled (sym ((settled_same t s).1)) h

leaf_closed_full : (t : List ℕ) (s : State) → Full s → Full (leaf_closed t s)
unfolding leaf_closed table_finished
leaf_closed_full t s h = by s.leaf
  where
    by : (k : Leaf) → Full (leaf_closed_as k t s)
    by leaf.Nothing = h
    by leaf.Paragraph = finished_full (settled t s) (settled_full t s h)
    by leaf.Indented = finished_full s h
    by (leaf.Fenced f) = finished_full s h
    by (leaf.Html x) = finished_full s h
    by (leaf.Metadata x) = finished_full s h
    by (leaf.Table x) = raised_filled (length s.opened - 1) s.end s.line s.opened h

one_full : (s : State) → Full s → Full (one_closed s)
unfolding one_closed
one_full s h = by (slice_get s.opened (length s.opened - 1))
  where
    rest : List Opened
    rest = take (length s.opened - 1) s.opened

    closes : Opened → State
    closes o = raised_last o.end o.line (record s { opened = rest; blocks = ended s.blocks o.block o.end })

    quoted : (u : State) (b : Bool) → Full u → Full (if b then record u { quotes = take (length u.quotes - 1) u.quotes } else u)
    quoted u true g = g
    quoted u false g = g

    by : (x : Option Opened) → Full (option_map_or (λ (o : Opened). quote_left o.container (closes o)) x s)
    by None = h
    by (Some o) = quoted (closes o) (is_quote o.container) (raised_filled (length rest - 1) o.end o.line rest (full_most s h))

times_full : (n : ℕ) (s : State) → Full s → Full (times one_closed n s)
unfolding times
times_full zero s h = h
times_full (suc n) s h = times_full n (one_closed s) (one_full s h)

pub closed_full : (t : List ℕ) (depth : ℕ) (s : State) → Full s → Full (closed_to t depth s)
unfolding closed_to
closed_full t depth s h = times_full (length (leaf_closed t s).opened - depth) (leaf_closed t s) (leaf_closed_full t s h)

list_left_full : (s : State) → Full s → Full (list_left s)
unfolding list_left left_noted
list_left_full s h = by (innermost s.opened)
  where
    u : State
    u = one_closed s

    noted : (o : Opened) (b : Bool) → Full (if b then record u { left = Some (record { list = o.block; behind = length u.blocks; loose = is_loose u.blocks (list_of u.opened) }) } else u)
    noted o true = one_full s h
    noted o false = one_full s h

    inner : (o : Opened) (b : Bool) → Full (if b then left_noted o u else s)
    inner o true = noted o (is_definitions o.container)
    inner o false = h

    by : (o : Option Opened) → Full (option_map_or (λ (o : Opened). if is_list o.container then left_noted o (one_closed s) else s) o s)
    by None = h
    by (Some o) = inner o (is_list o.container)

-- containers begin

most_end : (xs : List Opened) (o : Opened) → Filled xs → Filled (take (length (xs ++ o ∷ []) - 1) (xs ++ o ∷ []))
most_end xs o h = subst (λ n. Filled (take n (xs ++ o ∷ []))) (sym (last_place xs o)) (front xs h)
  where
    front : (zs : List Opened) → Filled zs → Filled (take (length zs) (zs ++ o ∷ []))
    front [] k = tt
    front (z ∷ zs) k = (k.0, front zs (k.1))

-- what is open then
opened_as : (c : Container) (k : BlockKind) (x : ℕ) (line : Line) (s : State) → (o : Opened) × (o.container ≡ c) × ((opened_with c k x line s).opened ≡ had_marked s.opened ++ o ∷ [])
unfolding opened_with begun
opened_as c k x line s = (new, refl, by (is_quote c))
  where
    t : State
    t = begun k x line.number s

    new : Opened
    new = record { container = c; block = length t.blocks - 1; end = line.end; line = line.number; had = false }

    u : State
    u = record t { opened = t.opened ++ new ∷ [] }

    by : (b : Bool) → (if b then record u { quotes = u.quotes ++ (length u.opened - 1) ∷ [] } else u).opened ≡ had_marked s.opened ++ new ∷ []
    by true = refl
    by false = refl

opened_full : (c : Container) (k : BlockKind) (x : ℕ) (line : Line) (s : State) → lists c ≡ false → Most s → Full (opened_with c k x line s)
opened_full c k x line s e h = by (opened_as c k x line s)
  where
    by : (o : Opened) × (o.container ≡ c) × ((opened_with c k x line s).opened ≡ had_marked s.opened ++ o ∷ []) → Full (opened_with c k x line s)
    by (o, f, g) = subst Filled (sym g) (all_both IsFilled (had_marked s.opened) (o ∷ []) (had_filled s.opened h) (λ l. absurd (let z : true ≡ false = sym l ∙ ap lists f ∙ e in cc), tt))

opened_most : (c : Container) (k : BlockKind) (x : ℕ) (line : Line) (s : State) → Most s → Most (opened_with c k x line s)
opened_most c k x line s h = by (opened_as c k x line s)
  where
    by : (o : Opened) × (o.container ≡ c) × ((opened_with c k x line s).opened ≡ had_marked s.opened ++ o ∷ []) → Most (opened_with c k x line s)
    by (o, f, g) = subst (λ (os : List Opened). Filled (take (length os - 1) os)) (sym g) (most_end (had_marked s.opened) o (had_filled s.opened h))

list_most : (i : ItemStart) (x : ℕ) (line : Line) (s : State) → Full s → Most (list_started i x line s)
unfolding list_started
list_most i x line s h = by (is_in_list i.sort s)
  where
    by : (b : Bool) → Most (if b then s else opened_with (container.List i.sort) (kind.List i.number) x line (list_left s))
    by true = full_most s h
    by false = opened_most (container.List i.sort) (kind.List i.number) x line (list_left s) (full_most (list_left s) (list_left_full s h))

item_full : (t : List ℕ) (cs : List Cell) (line : Line) (place : LineStart) (i : ItemStart) (s : State) → Full s → Full ((item_opened t cs line place i s).0)
unfolding item_opened
item_full t cs line place i s h = opened_full (container.Item i.width) kind.Item (start_of cs place line) line (list_started i (start_of cs place line) line (closed_to t place.depth s)) refl (list_most i (start_of cs place line) line (closed_to t place.depth s) (closed_full t place.depth s h))

quote_full : (t : List ℕ) (cs : List Cell) (line : Line) (place : LineStart) (s : State) → Full s → Full ((quote_opened t cs line place s).0)
unfolding quote_opened
quote_full t cs line place s h = opened_full container.Quote (kind.Quote None) (start_of cs place line) line (list_left (closed_to t place.depth s)) refl (full_most (list_left (closed_to t place.depth s)) (list_left_full (closed_to t place.depth s) (closed_full t place.depth s h)))

-- leaves begin

piece_full : (p : Piece) (line : Line) (keeps : Bool) (s : State) → Full s → Full (piece_taken p line keeps s)
unfolding piece_taken
piece_full p line keeps s h = by (nat_lt 0 p.spaces || nat_lt p.start p.next) keeps
  where
    by : (x y : Bool) → Full (let t = if x then record s { pieces = s.pieces ++ p ∷ [] } else s in if y then record t { kept = length t.pieces; end = line.end; line = line.number } else t)
    by true true = h
    by true false = h
    by false true = h
    by false false = h

code_full : (t : List ℕ) (cs : List Cell) (column : ℕ) (line : Line) (s : State) → Full s → Full (code_taken t cs column line s)
unfolding code_taken html_ended
code_full t cs column line s h = by u.leaf
  where
    rest : List ℕ
    rest = bytes_between t (code_piece cs column line).start (code_piece cs column line).end

    u : State
    u = piece_taken (code_piece cs column line) line (keeps_line cs column s.leaf) s

    same : Full u
    same = piece_full (code_piece cs column line) line (keeps_line cs column s.leaf) s h

    ends : (b : Bool) → Full (if b then leaf_finished u else u)
    ends true = finished_full u same
    ends false = same

    by : (k : Leaf) → Full (html_ended_as k rest u)
    by leaf.Nothing = same
    by leaf.Paragraph = same
    by leaf.Indented = same
    by (leaf.Fenced x) = same
    by (leaf.Html k) = ends (html_ends k rest)
    by (leaf.Metadata k) = same
    by (leaf.Table x) = same

leaf_full : (f : Leaf) (k : BlockKind) (x : ℕ) (line : Line) (s : State) → Full s → Full (leaf_opened f k x line s)
unfolding leaf_opened begun
leaf_full f k x line s h = had_filled (list_left s).opened (full_most (list_left s) (list_left_full s h))

begins_full : (t : List ℕ) (d : ℕ) (f : Leaf) (k : BlockKind) (x : ℕ) (line : Line) (s : State) → Full s → Full (leaf_opened f k x line (closed_to t d s))
begins_full t d f k x line s h = leaf_full f k x line (closed_to t d s) (closed_full t d s h)

text_started_full : (x : ℕ) (s : State) → Full s → Full (text_started x s)
unfolding text_started
text_started_full x s h = by (slice_get s.blocks (length s.blocks - 1))
  where
    inner : (b : Block) (k : Bool) → Full (if k then record s { blocks = slice_set s.blocks (length s.blocks - 1) (record b { start = x }) } else s)
    inner b true = h
    inner b false = h

    by : (o : Option Block) → Full (option_map_or (λ (b : Block). if nat_le (length s.pieces) b.first then record s { blocks = slice_set s.blocks (length s.blocks - 1) (record b { start = x }) } else s) o s)
    by None = h
    by (Some b) = inner b (nat_le (length s.pieces) b.first)

text_full : (t : List ℕ) (cs : List Cell) (line : Line) (place : LineStart) (s : State) → Full s → Full (text_taken t cs line place s)
unfolding text_taken
text_full t cs line place s h =
    piece_full (text_piece cs place.cursor line) line true (text_started (text_piece cs place.cursor line).start (in_paragraph t cs line place s))
    (text_started_full (text_piece cs place.cursor line).start (in_paragraph t cs line place s) (by (is_paragraph s.leaf)))
  where
    by : (b : Bool) → Full (if b then s else leaf_opened leaf.Paragraph kind.Paragraph (text_piece cs place.cursor line).start line (closed_to t place.depth s))
    by true = h
    by false = begins_full t place.depth leaf.Paragraph kind.Paragraph (text_piece cs place.cursor line).start line s h

rule_full : (t : List ℕ) (cs : List Cell) (line : Line) (place : LineStart) (s : State) → Full s → Full (rule_started t cs line place s)
unfolding rule_started
rule_full t cs line place s h = finished_full (leaf_opened leaf.Nothing kind.Rule (start_of cs place line) line (closed_to t place.depth s)) (begins_full t place.depth leaf.Nothing kind.Rule (start_of cs place line) line s h)

rule_or_text_full : (t : List ℕ) (cs : List Cell) (line : Line) (tail : Tail) (place : LineStart) (s : State) → Full s → Full (rule_or_text (rule_at cs tail place.cursor.ink) t cs line place s)
unfolding rule_at
rule_or_text_full t cs line tail place s h = by (is_rule cs tail place.cursor.ink)
  where
    by : (b : Bool) → Full (rule_or_text (if b then start.Rule else start.Text) t cs line place s)
    by true = rule_full t cs line place s h
    by false = text_full t cs line place s h

underline_full : (t : List ℕ) (cs : List Cell) (line : Line) (tail : Tail) (place : LineStart) (level : HeadingLevel) (s : State) → Full s → Full (underline_taken_in core_known t cs line tail place level s)
unfolding underline_taken_in metadata_in metadata_or underlined_in underlined
underline_full t cs line tail place level s h = by (has_text u)
  where
    u : State
    u = settled t s

    same : Full u
    same = settled_full t s h

    by : (b : Bool) → Full (underlined_if core_known b (rule_at cs tail place.cursor.ink) t cs line place level u)
    by true = finished_full (record u { blocks = of_kind (kind.Heading level None) u.blocks; end = line.end; line = line.number }) same
    by false = rule_or_text_full t cs line tail place u same

started_full : (t : List ℕ) (cs : List Cell) (line : Line) (tail : Tail) (place : LineStart) (s : State) (b : LeafStart) → Full s → begins_core b ≡ true → Full (started_in core_known b t cs line tail place s)
unfolding started_in begins_core indented_started fence_started html_started heading_started_in heading_put info_of
started_full t cs line tail place s start.Blank h k = closed_full t place.depth s h
started_full t cs line tail place s start.Text h k = text_full t cs line place s h
started_full t cs line tail place s (start.Indented column) h k = code_full t cs column line (leaf_opened leaf.Indented kind.Indented (cell_place cs column line.end) line (closed_to t place.depth s)) (begins_full t place.depth leaf.Indented kind.Indented (cell_place cs column line.end) line s h)
started_full t cs line tail place s (start.Heading x) h k = finished_full (piece_taken (heading_piece cs x line) line true (leaf_opened leaf.Nothing (kind.Heading x.level None) (start_of cs place line) line (closed_to t place.depth s))) (piece_full (heading_piece cs x line) line true (leaf_opened leaf.Nothing (kind.Heading x.level None) (start_of cs place line) line (closed_to t place.depth s)) (begins_full t place.depth leaf.Nothing (kind.Heading x.level None) (start_of cs place line) line s h))
started_full t cs line tail place s (start.Fence f) h k = begins_full t place.depth (leaf.Fenced f) (info_of cs place.cursor f line) (start_of cs place line) line s h
started_full t cs line tail place s (start.Html x) h k = code_full t cs place.cursor.column line (leaf_opened (leaf.Html x) kind.Html (cell_place cs place.cursor.column line.end) line (closed_to t place.depth s)) (begins_full t place.depth (leaf.Html x) kind.Html (cell_place cs place.cursor.column line.end) line s h)
started_full t cs line tail place s (start.Underline level) h k = underline_full t cs line tail place level s h
started_full t cs line tail place s start.Rule h k = rule_full t cs line place s h
started_full t cs line tail place s (start.Metadata x) h k = absurd cc
started_full t cs line tail place s (start.Task x) h k = absurd cc
started_full t cs line tail place s (start.QuoteKind x) h k = absurd cc

begun_full : (t : List ℕ) (cs : List Cell) (line : Line) (place : LineStart) (s : State) (o : Option ContainerStart) → is_core_start o ≡ true → Full s → Full ((begun_at t cs line place s o).0)
unfolding is_core_start
begun_full t cs line place s None k d = d
begun_full t cs line place s (Some begins.Quote) k d = quote_full t cs line place s d
begun_full t cs line place s (Some (begins.Item i)) k d = item_full t cs line place i s d
begun_full t cs line place s (Some (begins.Footnote n)) k d = absurd cc
begun_full t cs line place s (Some (begins.Definition x)) k d = absurd cc

containers_full : (t : List ℕ) (cs : List Cell) (line : Line) (tail : Tail) (place : LineStart) (s : State) → Full s → Full ((containers_opened_in CORE t cs line tail place s).0)
unfolding container_once_in
containers_full t cs line tail place s d =
    repeated_keeps (λ (u : State). Full u) (container_once_in CORE t cs line tail)
    (λ next u k. begun_full t cs line next u (container_in CORE cs tail next.cursor (goes_directly next.depth u)) (container_core cs tail next.cursor (goes_directly next.depth u)) k)
    (length cs) place s d

leaf_started_full : (t : List ℕ) (cs : List Cell) (line : Line) (place : LineStart) (s : State) → Full s → Full (leaf_started_in core_known t cs line place s)
unfolding leaf_started_in
leaf_started_full t cs line place s h = by (containers_opened_in CORE t cs line (tail_of cs) place s) (containers_full t cs line (tail_of cs) place s h)
  where
    by : (r : State × LineStart) → Full (r.0) → Full (started_at_in core_known t cs line (tail_of cs) r)
    by (u, next) k = subst (λ (x : State). Full x) (sym (core_begun t cs line (tail_of cs) u next))
        (started_full t cs line (tail_of cs) next u (core_at t cs line (tail_of cs) u next) k (leaf_core cs (bytes_between t (start_of cs next line) line.end) (tail_of cs) next.cursor (is_paragraph u.leaf) (goes_directly next.depth u)))

turned_full : (t : List ℕ) (cs : List Cell) (line : Line) (place : LineStart) (s : State) (u : Turn) → Full s → turns_core u s.leaf ≡ true → Full (turn_taken_in core_known u t cs line place s)
unfolding passed_in turns_core leaf_ended
turned_full t cs line place s turn.Closes h k = finished_full (record s { end = line.end; line = line.number }) h
turned_full t cs line place s (turn.Takes column) h k = code_full t cs column line s h
turned_full t cs line place s turn.Passes h k = leaf_started_full t cs line place s h
turned_full t cs line place s (turn.Row x) h k = absurd cc

line_full : (t : List ℕ) (line : Line) (s : State) → is_core s.leaf ≡ true → Full s → Full (line_taken_in core_known t s line)
unfolding line_taken_in cells_taken_in touched turn_in
line_full t line s c h = by (matched cells s.opened s.quotes)
  where
    cells : List Cell
    cells = cells_of [] line.start (bytes_between t line.start line.end)

    by : (found : ℕ × Cursor) → Full (taken_at_in core_known t cells line (record { cursor = found.1; depth = found.0 }) (touched line (found.0) s))
    by (depth, cursor) =
        turned_full t cells line (record { cursor = cursor; depth = depth }) (touched line depth s) _
        (touched_filled depth line.end line.number s.quotes s.opened h)
        (turn_of_core t cells line (record { cursor = cursor; depth = depth }) (touched line depth s) c)

pub lines_full : (t : List ℕ) (ls : List Line) (s : State) → is_core s.leaf ≡ true → Full s → Full (fold (line_taken_in core_known t) s ls)
lines_full t [] s c h = h
lines_full t (l ∷ ls) s c h = lines_full t ls (line_taken_in core_known t s l) (line_core t l s c) (line_full t l s c h)

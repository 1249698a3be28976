-- The lines of leaves come one after the other.
use Rattle.std.proofs.Common.{◌≡◌, ℕ, zero, suc, ◌+◌, ◌-◌, ◌*◌, ◌^◌, ◌<◌, ◌≤◌, Bool, true, false, ◌==◌, ◌&&◌, ◌||◌, if◌then◌else◌, nat_lt, nat_le, List, [], ◌∷◌, ◌++◌, length, take, refl, sym, subst, arith}
use Rattle.std.specs.Prelude.{slice_get, slice_set, Option, Some, None, is_some}
use Rattle.std.specs.List.{fold}
use Rattle.std.specs.Option.{option_map_or}
use Rattle.std.proofs.lemmas.Bool.Decides.{nat_tests}
use Rattle.tocmark_event.specs.declared.event.HeadingLevel.{HeadingLevel}
use Rattle.tocmark_read_scan.specs.Basic.{plus, byte_at, bytes_between}
use Rattle.tocmark_read_scan.specs.Repeat.{going, repeated}
use Rattle.tocmark_read_scan.specs.declared.syntax.TheConstants.{CORE}
use Rattle.tocmark_read_lines.specs.Cells.{cells_of, cell_place}
use Rattle.tocmark_read_lines.specs.Containers.{matched, container_in}
use Rattle.tocmark_read_lines.specs.Html.{html_ends}
use Rattle.tocmark_read_lines.specs.Lines.{ends_here, line, line_stop, lines_from, lines_of}
use Rattle.tocmark_read_lines.specs.Marks.{tail_of, is_rule}
use Rattle.tocmark_read_lines.specs.declared.beginnings.Tail.{Tail}
use Rattle.tocmark_read_lines.specs.declared.cell.Cell.{Cell}
use Rattle.tocmark_read_lines.specs.declared.cell.Cursor.{Cursor}
use Rattle.tocmark_read_lines.specs.declared.container.Container.{Container}
use Rattle.tocmark_read_lines.specs.declared.container.Container.TheVariants as container
use Rattle.tocmark_read_lines.specs.declared.container.ContainerStart.{ContainerStart}
use Rattle.tocmark_read_lines.specs.declared.container.ContainerStart.TheVariants as begins
use Rattle.tocmark_read_lines.specs.declared.container.ItemStart.{ItemStart}
use Rattle.tocmark_read_lines.specs.declared.container.Opened.{Opened}
use Rattle.tocmark_read_lines.specs.declared.line.Line.{Line}
use Rattle.tocmark_read_page.specs.Leaves.{is_paragraph}
use Rattle.tocmark_read_page.specs.Pages.{State, first_page, innermost, ended, raised_last, leaf_finished, table_finished, defined_as, settled_as, settled, leaf_closed_as, leaf_closed, is_quote, is_list, is_definitions, quote_left, one_closed, times, closed_to, list_of, is_loose, left_noted, list_left, begun, opened_with, leaf_opened, piece_taken, has_text, start_of, of_kind}
use Rattle.tocmark_read_page.specs.Pieces.{code_piece, text_piece, heading_piece, is_split, keeps_line, piece_of, same_place}
use Rattle.tocmark_read_page.specs.declared.leaf.Leaf.{Leaf}
use Rattle.tocmark_read_page.specs.declared.leaf.Leaf.TheVariants as leaf
use Rattle.tocmark_read_page.specs.declared.line_start.LineStart.{LineStart}
use Rattle.tocmark_read_page.specs.declared.page.Block.{Block}
use Rattle.tocmark_read_page.specs.declared.page.BlockKind.{BlockKind}
use Rattle.tocmark_read_page.specs.declared.page.BlockKind.TheVariants as kind
use Rattle.tocmark_read_page.specs.declared.piece.Piece.{Piece}
use Rattle.tocmark_read_constructs.specs.Headings.{heading_put, heading_started_in, underlined, underlined_in}
use Rattle.tocmark_read_constructs.specs.Metadata.{known_of, metadata_in}
use Rattle.tocmark_read_constructs.specs.Quotes.{quote_opened}
use Rattle.tocmark_read_blocks.specs.Blocks.{blocks_in, core_known, underlined_if, underline_taken_in, started_in, started_at_in, leaf_started_in, passed_in, turn_in, turn_of, leaf_ended, touched, turn_taken_in, taken_at_in, cells_taken_in, line_taken_in, page_in}
use Rattle.tocmark_read_blocks.specs.Codes.{info_of, html_ended_as, html_ended, code_taken, indented_started, fence_started, html_started}
use Rattle.tocmark_read_blocks.specs.Containers.{goes_directly, is_in_list, list_started, item_opened, begun_at, container_once_in, containers_opened_in}
use Rattle.tocmark_read_blocks.specs.Leaves.{leaf_turn, metadata_or, rule_at}
use Rattle.tocmark_read_blocks.specs.Paragraphs.{in_paragraph, rule_started, text_started, text_taken}
use Rattle.tocmark_read_blocks.specs.declared.leaf.LeafStart.{LeafStart}
use Rattle.tocmark_read_blocks.specs.declared.leaf.LeafStart.TheVariants as start
use Rattle.tocmark_read_blocks.specs.declared.leaf.Turn.{Turn}
use Rattle.tocmark_read_blocks.specs.declared.leaf.Turn.TheVariants as turn
use Rattle.tocmark_text_laws.proofs.Leaves.{is_core}
use Rattle.tocmark_text_laws.proofs.Machine.{core_at, core_begun}
use Rattle.tocmark_text_laws.proofs.Kept.{line_core}
use Rattle.tocmark_text_laws.proofs.Placed.{Held}
use Rattle.tocmark_text_laws.proofs.Walked.{Begins, TurnsTo, Leads, Columns}
use Rattle.tocmark_text_laws.proofs.Grounds.{Grounded, Valid, columns}
use Rattle.tocmark_text_laws.proofs.Ranged.{cells_head, grounded}
use Rattle.tocmark_text_laws.specs.LineOrder.{Rise, LinesOfLeavesAreInOrder}

rise_ordered : (m n : ℕ) (ps : List Piece) → Rise m n ps → m ≤ n
rise_ordered m n [] h = h
rise_ordered m n (p ∷ ps) (a, b, c) = let w : p.next ≤ n = rise_ordered p.next n ps c in omega arith

rise_more : (m n k : ℕ) (ps : List Piece) → n ≤ k → Rise m n ps → Rise m k ps
rise_more m n k [] l h = omega arith
rise_more m n k (p ∷ ps) l (a, b, c) = (a, b, rise_more p.next n k ps l c)

pub rise_take : (m n j : ℕ) (ps : List Piece) → Rise m n ps → Rise m n (take j ps)
rise_take m n zero ps h = rise_ordered m n ps h
rise_take m n (suc j) [] h = h
rise_take m n (suc j) (p ∷ ps) (a, b, c) = (a, b, rise_take p.next n j ps c)

rise_put : (m n k : ℕ) (ps : List Piece) (p : Piece) → n ≤ p.start → p.start ≤ p.next → p.next ≤ k → Rise m n ps → Rise m k (ps ++ p ∷ [])
rise_put m n k [] p a b c h = (omega arith, b, c)
rise_put m n k (x ∷ xs) p a b c (d, e, f) = (d, e, rise_put x.next n k xs p a b c f)

-- a step that adds no line of a leaf, and one that may add one of this line
abbrev Keeps : State → State → Type 0
Keeps s u = (n : ℕ) → Rise 0 n s.pieces → Rise 0 n u.pieces

abbrev Takes : Line → State → State → Type 0
Takes line s u = Rise 0 line.start s.pieces → Rise 0 line.next u.pieces

-- a line of a leaf lies in a line
record InLine (line : Line) (p : Piece) : Type 0 where
  begins : line.start ≤ p.start
  ordered : p.start ≤ p.next
  within : p.next ≤ line.next

keeps_takes : (line : Line) (s u : State) → line.start ≤ line.next → Keeps s u → Takes line s u
keeps_takes line s u l f h = rise_more 0 line.start line.next u.pieces l (f line.start h)

-- leaves and containers end

finished_keeps : (s : State) → Keeps s (leaf_finished s)
unfolding leaf_finished
finished_keeps s n h = rise_take 0 n s.kept s.pieces h

settled_keeps : (t : List ℕ) (s : State) → Keeps s (settled t s)
unfolding settled
settled_keeps t s n h = by (slice_get s.blocks (length s.blocks - 1))
  where
    boxed : (b : Block) (k : Bool) → Rise 0 n (if k then s else defined_as t s b).pieces
    boxed b true = h
    boxed b false = h

    by : (o : Option Block) → Rise 0 n (option_map_or (settled_as t s) o s).pieces
    by None = h
    by (Some b) = boxed b (is_some b.task)

leaf_closed_keeps : (t : List ℕ) (s : State) → Keeps s (leaf_closed t s)
unfolding leaf_closed table_finished
leaf_closed_keeps t s n h = by s.leaf
  where
    by : (k : Leaf) → Rise 0 n (leaf_closed_as k t s).pieces
    by leaf.Nothing = h
    by leaf.Paragraph = finished_keeps (settled t s) n (settled_keeps t s n h)
    by leaf.Indented = finished_keeps s n h
    by (leaf.Fenced f) = finished_keeps s n h
    by (leaf.Html x) = finished_keeps s n h
    by (leaf.Metadata x) = finished_keeps s n h
    by (leaf.Table x) = h

one_keeps : (s : State) → Keeps s (one_closed s)
unfolding one_closed
one_keeps s n h = by (slice_get s.opened (length s.opened - 1))
  where
    closes : Opened → State
    closes o = raised_last o.end o.line (record s { opened = take (length s.opened - 1) s.opened; blocks = ended s.blocks o.block o.end })

    quoted : (o : Opened) (b : Bool) → Rise 0 n (if b then record (closes o) { quotes = take (length (closes o).quotes - 1) (closes o).quotes } else closes o).pieces
    quoted o true = h
    quoted o false = h

    by : (x : Option Opened) → Rise 0 n (option_map_or (λ (o : Opened). quote_left o.container (closes o)) x s).pieces
    by None = h
    by (Some o) = quoted o (is_quote o.container)

times_keep : (k : ℕ) (s : State) → Keeps s (times one_closed k s)
unfolding times
times_keep zero s n h = h
times_keep (suc k) s n h = times_keep k (one_closed s) n (one_keeps s n h)

closed_keeps : (t : List ℕ) (depth : ℕ) (s : State) → Keeps s (closed_to t depth s)
unfolding closed_to
closed_keeps t depth s n h = times_keep (length (leaf_closed t s).opened - depth) (leaf_closed t s) n (leaf_closed_keeps t s n h)

list_left_keeps : (s : State) → Keeps s (list_left s)
unfolding list_left left_noted
list_left_keeps s n h = by (innermost s.opened)
  where
    u : State
    u = one_closed s

    noted : (o : Opened) (b : Bool) → Rise 0 n (if b then record u { left = Some (record { list = o.block; behind = length u.blocks; loose = is_loose u.blocks (list_of u.opened) }) } else u).pieces
    noted o true = one_keeps s n h
    noted o false = one_keeps s n h

    inner : (o : Opened) (b : Bool) → Rise 0 n (if b then left_noted o u else s).pieces
    inner o true = noted o (is_definitions o.container)
    inner o false = h

    by : (o : Option Opened) → Rise 0 n (option_map_or (λ (o : Opened). if is_list o.container then left_noted o (one_closed s) else s) o s).pieces
    by None = h
    by (Some o) = inner o (is_list o.container)

-- blocks begin

opened_keeps : (c : Container) (b : BlockKind) (x : ℕ) (line : Line) (s : State) → Keeps s (opened_with c b x line s)
unfolding opened_with begun
opened_keeps c b x line s n h = by (is_quote c)
  where
    t : State
    t = begun b x line.number s

    u : State
    u = record t { opened = t.opened ++ record { container = c; block = length t.blocks - 1; end = line.end; line = line.number; had = false } ∷ [] }

    by : (q : Bool) → Rise 0 n (if q then record u { quotes = u.quotes ++ (length u.opened - 1) ∷ [] } else u).pieces
    by true = h
    by false = h

leaf_opened_keeps : (f : Leaf) (b : BlockKind) (x : ℕ) (line : Line) (s : State) → Keeps s (leaf_opened f b x line s)
unfolding leaf_opened begun
leaf_opened_keeps f b x line s n h = list_left_keeps s n h

leaf_keeps : (t : List ℕ) (f : Leaf) (b : BlockKind) (x depth : ℕ) (line : Line) (s : State) → Keeps s (leaf_opened f b x line (closed_to t depth s))
leaf_keeps t f b x depth line s n h = leaf_opened_keeps f b x line (closed_to t depth s) n (closed_keeps t depth s n h)

piece_takes : (p : Piece) (line : Line) (keeps : Bool) (s : State) → InLine line p → Takes line s (piece_taken p line keeps s)
unfolding piece_taken
piece_takes p line keeps s i h = by keeps (nat_lt 0 p.spaces || nat_lt p.start p.next)
  where
    made : Bool → State → State
    made y t = if y then record t { kept = length t.pieces; end = line.end; line = line.number } else t

    more : Rise 0 line.next (s.pieces ++ p ∷ [])
    more = rise_put 0 line.start line.next s.pieces p i.begins i.ordered i.within h

    same : Rise 0 line.next s.pieces
    same = let a : line.start ≤ p.start = i.begins in let b : p.start ≤ p.next = i.ordered in let c : p.next ≤ line.next = i.within in rise_more 0 line.start line.next s.pieces (omega arith) h

    by : (y x : Bool) → Rise 0 line.next (made y (if x then record s { pieces = s.pieces ++ p ∷ [] } else s)).pieces
    by true true = more
    by true false = same
    by false true = more
    by false false = same

-- leaves take a line

html_keeps : (rest : List ℕ) (s : State) → Keeps s (html_ended rest s)
unfolding html_ended
html_keeps rest s n h = by s.leaf
  where
    ends : (b : Bool) → Rise 0 n (if b then leaf_finished s else s).pieces
    ends true = finished_keeps s n h
    ends false = h

    by : (k : Leaf) → Rise 0 n (html_ended_as k rest s).pieces
    by leaf.Nothing = h
    by leaf.Paragraph = h
    by leaf.Indented = h
    by (leaf.Fenced x) = h
    by (leaf.Html k) = ends (html_ends k rest)
    by (leaf.Metadata k) = h
    by (leaf.Table x) = h

code_takes : (t : List ℕ) (cs : List Cell) (column : ℕ) (line : Line) (s : State) → InLine line (code_piece cs column line) → Takes line s (code_taken t cs column line s)
unfolding code_taken
code_takes t cs column line s i h = html_keeps (bytes_between t (code_piece cs column line).start (code_piece cs column line).end) (piece_taken (code_piece cs column line) line (keeps_line cs column s.leaf) s) line.next
    (piece_takes (code_piece cs column line) line (keeps_line cs column s.leaf) s i h)

begins_keeps : (x : ℕ) (s : State) → Keeps s (text_started x s)
unfolding text_started
begins_keeps x s n h = by (slice_get s.blocks (length s.blocks - 1))
  where
    inside : (b : Block) (k : Bool) → Rise 0 n (if k then record s { blocks = slice_set s.blocks (length s.blocks - 1) (record b { start = x }) } else s).pieces
    inside b true = h
    inside b false = h

    by : (o : Option Block) → Rise 0 n (option_map_or (λ (b : Block). if nat_le (length s.pieces) b.first then record s { blocks = slice_set s.blocks (length s.blocks - 1) (record b { start = x }) } else s) o s).pieces
    by None = h
    by (Some b) = inside b (nat_le (length s.pieces) b.first)

text_takes : (t : List ℕ) (cs : List Cell) (line : Line) (place : LineStart) (s : State) → InLine line (text_piece cs place.cursor line) → Takes line s (text_taken t cs line place s)
unfolding text_taken
text_takes t cs line place s i h = piece_takes words line true (text_started words.start u) i (begins_keeps words.start u line.start (inside (is_paragraph s.leaf)))
  where
    words : Piece
    words = text_piece cs place.cursor line

    u : State
    u = in_paragraph t cs line place s

    inside : (b : Bool) → Rise 0 line.start (if b then s else leaf_opened leaf.Paragraph kind.Paragraph words.start line (closed_to t place.depth s)).pieces
    inside true = h
    inside false = leaf_keeps t leaf.Paragraph kind.Paragraph words.start place.depth line s line.start h

rule_keeps : (t : List ℕ) (cs : List Cell) (line : Line) (place : LineStart) (s : State) → Keeps s (rule_started t cs line place s)
unfolding rule_started
rule_keeps t cs line place s n h = finished_keeps (leaf_opened leaf.Nothing kind.Rule (start_of cs place line) line (closed_to t place.depth s)) n (leaf_keeps t leaf.Nothing kind.Rule (start_of cs place line) place.depth line s n h)

-- what is known of a line's columns

abbrev From : Line → ℕ → Type 0
From line x = line.start ≤ x

held_in : (line : Line) (p : Piece) → p.next ≤ line.next → Held (From line) line.end p → InLine line p
held_in line p l h = record { begins = h.begins; ordered = h.ordered; within = l }

code_next : (cs : List Cell) (c : ℕ) (line : Line) → (code_piece cs c line).next ≡ line.next
unfolding code_piece
code_next cs c line = by (is_split cs c)
  where
    by : (b : Bool) → (if b then piece_of (same_place cs c (cell_place cs c line.end)) (plus (cell_place cs c line.end) 1) line.end line.next else piece_of 0 (cell_place cs c line.end) line.end line.next).next ≡ line.next
    by true = refl
    by false = refl

code_in : (cs : List Cell) (c : ℕ) (line : Line) → Held (From line) line.end (code_piece cs c line) → InLine line (code_piece cs c line)
code_in cs c line h = held_in line (code_piece cs c line) (omega (arith, code_next cs c line)) h

text_in : (V : Cursor → Type 0) (cs : List Cell) (line : Line) (cursor : Cursor) → Columns (From line) V cs line → V cursor → InLine line (text_piece cs cursor line)
unfolding text_piece
text_in V cs line cursor k v = record {
  begins = k.ink cursor v;
  ordered = let a : cell_place cs cursor.ink line.end ≤ line.end = k.within cursor.ink in let b : line.end ≤ line.next = k.onto in omega arith;
  within = omega arith;
}

whole_line : (V : Cursor → Type 0) (cs : List Cell) (line : Line) → Columns (From line) V cs line → line.start ≤ line.next
whole_line V cs line k = k.next

underline_takes : (V : Cursor → Type 0) (t : List ℕ) (cs : List Cell) (line : Line) (tail : Tail) (place : LineStart) (level : HeadingLevel) (s : State) → Columns (From line) V cs line → V place.cursor → Takes line s (underline_taken_in core_known t cs line tail place level s)
unfolding underline_taken_in metadata_in metadata_or underlined_in underlined rule_at
underline_takes V t cs line tail place level s k v h = by (has_text u) (is_rule cs tail place.cursor.ink)
  where
    u : State
    u = settled t s

    same : Rise 0 line.start u.pieces
    same = settled_keeps t s line.start h

    headed : State
    headed = record u { blocks = of_kind (kind.Heading level None) u.blocks; end = line.end; line = line.number }

    by : (b r : Bool) → Rise 0 line.next (underlined_if core_known b (if r then start.Rule else start.Text) t cs line place level u).pieces
    by true r = keeps_takes line u (leaf_finished headed) (whole_line V cs line k) (λ n g. finished_keeps headed n g) same
    by false true = keeps_takes line u (rule_started t cs line place u) (whole_line V cs line k) (rule_keeps t cs line place u) same
    by false false = text_takes t cs line place u (text_in V cs line place.cursor k v) same

started_takes : (V : Cursor → Type 0) (t : List ℕ) (cs : List Cell) (line : Line) (tail : Tail) (place : LineStart) (d : Bool) (s : State) (b : LeafStart) → Columns (From line) V cs line → V place.cursor → Begins (From line) cs line d b → Takes line s (started_in core_known b t cs line tail place s)
unfolding started_in indented_started fence_started html_started heading_started_in heading_put info_of heading_piece
started_takes V t cs line tail place d s b k v w h = by b w
  where
    u : State
    u = closed_to t place.depth s

    opens : (f : Leaf) (x : BlockKind) (n : ℕ) → Rise 0 line.start (leaf_opened f x n line u).pieces
    opens f x n = leaf_keeps t f x n place.depth line s line.start h

    later : line.start ≤ line.next
    later = whole_line V cs line k

    by : (b : LeafStart) → Begins (From line) cs line d b → Rise 0 line.next (started_in core_known b t cs line tail place s).pieces
    by start.Blank w = keeps_takes line s u later (closed_keeps t place.depth s) h
    by start.Text w = text_takes t cs line place s (text_in V cs line place.cursor k v) h
    by (start.Indented column) w = code_takes t cs column line (leaf_opened leaf.Indented kind.Indented (cell_place cs column line.end) line u) (code_in cs column line (w.1)) (opens leaf.Indented kind.Indented (cell_place cs column line.end))
    by (start.Heading x) w = finished_keeps (piece_taken (heading_piece cs x line) line true o) line.next (piece_takes (heading_piece cs x line) line true o (held_in line (heading_piece cs x line) (let a : cell_place cs x.to line.end ≤ line.end = k.within x.to in let b : line.end ≤ line.next = k.onto in omega arith) w) (opens leaf.Nothing (kind.Heading x.level None) (start_of cs place line)))
      where
        o : State
        o = leaf_opened leaf.Nothing (kind.Heading x.level None) (start_of cs place line) line u
    by (start.Fence f) w = rise_more 0 line.start line.next _ later (opens (leaf.Fenced f) (info_of cs place.cursor f line) (start_of cs place line))
    by (start.Html x) w = code_takes t cs place.cursor.column line (leaf_opened (leaf.Html x) kind.Html (cell_place cs place.cursor.column line.end) line u) (code_in cs place.cursor.column line ((k.column place.cursor v).1)) (opens (leaf.Html x) kind.Html (cell_place cs place.cursor.column line.end))
    by (start.Underline level) w = underline_takes V t cs line tail place level s k v h
    by start.Rule w = keeps_takes line s (rule_started t cs line place s) later (rule_keeps t cs line place s) h
    by (start.Metadata x) w = absurd w
    by (start.Task e) w = absurd w
    by (start.QuoteKind x) w = absurd w

-- containers begin

list_keeps : (i : ItemStart) (x : ℕ) (line : Line) (s : State) → Keeps s (list_started i x line s)
unfolding list_started
list_keeps i x line s n h = by (is_in_list i.sort s)
  where
    by : (b : Bool) → Rise 0 n (if b then s else opened_with (container.List i.sort) (kind.List i.number) x line (list_left s)).pieces
    by true = h
    by false = opened_keeps (container.List i.sort) (kind.List i.number) x line (list_left s) n (list_left_keeps s n h)

-- where a container may go on, if one begins
abbrev Next : (Cursor → Type 0) → Option LineStart → Type 0
Next V None = Unit
Next V (Some place) = V place.cursor

begun_keeps : (V : Cursor → Type 0) (t : List ℕ) (cs : List Cell) (line : Line) (place : LineStart) (s : State) (o : Option ContainerStart) → Leads V cs place.cursor o → Keeps s ((begun_at t cs line place s o).0) × Next V ((begun_at t cs line place s o).1)
unfolding item_opened quote_opened
begun_keeps V t cs line place s None w = (λ n h. h, tt)
begun_keeps V t cs line place s (Some begins.Quote) w = (
  λ n h. opened_keeps container.Quote (kind.Quote None) (start_of cs place line) line (list_left (closed_to t place.depth s)) n (list_left_keeps (closed_to t place.depth s) n (closed_keeps t place.depth s n h)),
  w,
)
begun_keeps V t cs line place s (Some (begins.Item i)) w = (
  λ n h. opened_keeps (container.Item i.width) kind.Item (start_of cs place line) line (list_started i (start_of cs place line) line (closed_to t place.depth s)) n (list_keeps i (start_of cs place line) line (closed_to t place.depth s) n (closed_keeps t place.depth s n h)),
  w,
)
begun_keeps V t cs line place s (Some (begins.Footnote n)) w = absurd w
begun_keeps V t cs line place s (Some (begins.Definition d)) w = absurd w

containers_keep : (V : Cursor → Type 0) (t : List ℕ) (cs : List Cell) (line : Line) (tail : Tail) → Columns (From line) V cs line → (n : ℕ) (place : LineStart) (s : State) → V place.cursor
    → Keeps s ((repeated (container_once_in CORE t cs line tail) n place s).0) × V ((repeated (container_once_in CORE t cs line tail) n place s).1).cursor
unfolding repeated container_once_in
containers_keep V t cs line tail k zero place s v = (λ n h. h, v)
containers_keep V t cs line tail k (suc n) place s v =
    by (begun_at t cs line place s o) (begun_keeps V t cs line place s o (k.containers tail place.cursor (goes_directly place.depth s) v)) (λ d u x. containers_keep V t cs line tail k n d u x)
  where
    o : Option ContainerStart
    o = container_in CORE cs tail place.cursor (goes_directly place.depth s)

    more : LineStart → State → State × LineStart
    more = λ d u. repeated (container_once_in CORE t cs line tail) n d u

    by : (r : State × Option LineStart) → Keeps s (r.0) × Next V (r.1) → ((d : LineStart) (u : State) → V d.cursor → Keeps u ((more d u).0) × V ((more d u).1).cursor) → Keeps s ((going more place r).0) × V ((going more place r).1).cursor
    by (u, None) w f = (w.0, v)
    by (u, Some d) w f = let g : Keeps u ((more d u).0) × V ((more d u).1).cursor = f d u (w.1) in (λ m h. (g.0) m ((w.0) m h), g.1)

leaf_started_takes : (V : Cursor → Type 0) (t : List ℕ) (cs : List Cell) (line : Line) (place : LineStart) (s : State) → Columns (From line) V cs line → V place.cursor → Takes line s (leaf_started_in core_known t cs line place s)
unfolding leaf_started_in
leaf_started_takes V t cs line place s k v h = by (containers_opened_in CORE t cs line (tail_of cs) place s) (containers_keep V t cs line (tail_of cs) k (length cs) place s v)
  where
    by : (r : State × LineStart) → Keeps s (r.0) × V (r.1).cursor → Rise 0 line.next (started_at_in core_known t cs line (tail_of cs) r).pieces
    by (u, next) w = subst (λ (x : State). Rise 0 line.next x.pieces) (sym (core_begun t cs line (tail_of cs) u next))
        (started_takes V t cs line (tail_of cs) next (goes_directly next.depth u) u (core_at t cs line (tail_of cs) u next) k (w.1)
        (k.leaves (bytes_between t (start_of cs next line) line.end) (tail_of cs) next.cursor (is_paragraph u.leaf) (goes_directly next.depth u) (w.1)) ((w.0) line.start h))

turned_takes : (V : Cursor → Type 0) (t : List ℕ) (cs : List Cell) (line : Line) (place : LineStart) (s : State) (u : Turn) → Columns (From line) V cs line → V place.cursor → TurnsTo (From line) cs line s.leaf u → Takes line s (turn_taken_in core_known u t cs line place s)
unfolding passed_in leaf_ended
turned_takes V t cs line place s turn.Closes k v w h = keeps_takes line s (leaf_finished ended_here) (whole_line V cs line k) (λ n g. finished_keeps ended_here n g) h
  where
    ended_here : State
    ended_here = record s { end = line.end; line = line.number }
turned_takes V t cs line place s (turn.Takes column) k v w h = code_takes t cs column line s (code_in cs column line (w.1)) h
turned_takes V t cs line place s turn.Passes k v w h = leaf_started_takes V t cs line place s k v h
turned_takes V t cs line place s (turn.Row x) k v w h = absurd w

turns_to : (V : Cursor → Type 0) (t : List ℕ) (cs : List Cell) (line : Line) (place : LineStart) (s : State) → Columns (From line) V cs line → V place.cursor → is_core s.leaf ≡ true → TurnsTo (From line) cs line s.leaf (turn_of t cs line place s)
unfolding turn_of
turns_to V t cs line place s k v c = by (nat_le (length s.opened) place.depth)
  where
    by : (x : Bool) → TurnsTo (From line) cs line s.leaf (if x then leaf_turn t cs line place.cursor s.leaf else turn.Passes)
    by true = k.turns t place.cursor s.leaf v c
    by false = tt

cells_take : (V : Cursor → Type 0) (t : List ℕ) (cs : List Cell) (line : Line) (s : State) → is_core s.leaf ≡ true → Columns (From line) V cs line → Takes line s (cells_taken_in core_known t cs line s)
unfolding cells_taken_in turn_in touched
cells_take V t cs line s c k h = by (matched cs s.opened s.quotes) (k.front s.opened s.quotes)
  where
    by : (found : ℕ × Cursor) → V (found.1) → Rise 0 line.next (taken_at_in core_known t cs line (record { cursor = found.1; depth = found.0 }) (touched line (found.0) s)).pieces
    by (depth, cursor) v = turned_takes V t cs line (record { cursor = cursor; depth = depth }) (touched line depth s) (turn_of t cs line (record { cursor = cursor; depth = depth }) (touched line depth s)) k v (turns_to V t cs line (record { cursor = cursor; depth = depth }) (touched line depth s) k v c) h

-- lines one after the other, up to a place
abbrev Follow : ℕ → ℕ → List Line → Type 0
Follow from to [] = from ≤ to
Follow from to (l ∷ ls) = (from ≤ l.start) × (l.start ≤ l.end) × (l.end ≤ l.next) × (l.next ≤ to) × Follow l.next to ls

stop_in : (t : List ℕ) (start b at : ℕ) → start ≤ at → (start ≤ line_stop t start b at) × (line_stop t start b at ≤ at)
unfolding line_stop
stop_in t start b at l = by (b == 10) (nat_lt start at) (byte_at t (at - 1) == 13) refl
  where
    by : (x y z : Bool) → nat_lt start at ≡ y → (start ≤ (if x && y && z then at - 1 else at)) × ((if x && y && z then at - 1 else at) ≤ at)
    by false y z e = (l, omega arith)
    by true false z e = (l, omega arith)
    by true true false e = (l, omega arith)
    by true true true e = let w : start < at = grind (arith, nat_tests) in (omega arith, omega arith)

lines_follow : (t : List ℕ) (n before start at : ℕ) (rest : List ℕ) → at + length rest ≡ n → start ≤ at → Follow start n (lines_from t before start at rest)
lines_follow t n before start at [] e l = by (nat_lt start at)
  where
    by : (x : Bool) → Follow start n (if x then line before start at at ∷ [] else [])
    by true = (omega arith, l, omega arith, omega arith, omega arith)
    by false = omega arith
lines_follow t n before start at (b ∷ bs) e l = by (ends_here t b at) (lines_follow t n (before + 1) (at + 1) (at + 1) bs (omega arith) (omega arith)) (lines_follow t n before start (at + 1) bs (omega arith) (omega arith))
  where
    stop : (start ≤ line_stop t start b at) × (line_stop t start b at ≤ at)
    stop = stop_in t start b at l

    by : (x : Bool) → Follow (at + 1) n (lines_from t (before + 1) (at + 1) (at + 1) bs) → Follow start n (lines_from t before start (at + 1) bs)
        → Follow start n (if x then line before start (line_stop t start b at) (at + 1) ∷ lines_from t (before + 1) (at + 1) (at + 1) bs else lines_from t before start (at + 1) bs)
    by true next more = (omega arith, stop.0, omega (arith, stop.1), omega arith, next)
    by false next more = more

-- the columns of a line are none before it

abbrev All : ℕ → Type 0
All x = Unit

columns_in : (t : List ℕ) (l : Line) → 4 * length t < 2 ^ 64 - 1 → l.start ≤ l.end → l.end ≤ l.next → l.next ≤ length t → Columns (From l) (Valid (From l) (cells_of [] l.start (bytes_between t l.start l.end)) l) (cells_of [] l.start (bytes_between t l.start l.end)) l
columns_in t l small a b c = columns (From l) cs l (record {
  few = g.few;
  low = g.low;
  stops = a;
  next = omega arith;
  onto = b;
  before = λ i x e k. low i;
  rising = g.rising;
  within = g.within;
  front = low 0;
  ascii = λ i x e k. low (suc i);
  tabs = λ i k e. (let w : l.start ≤ cell_place cs (suc i) l.end = low (suc i) in omega arith, (g.tabs i k e).1);
})
  where
    cs : List Cell
    cs = cells_of [] l.start (bytes_between t l.start l.end)

    g : Grounded All cs l
    g = grounded All t 0 l small (record { front = tt; end = tt; around = λ i x e k. (tt, tt) }) (record { after = omega arith; ordered = a; within = omega arith; begins = tt; stops = tt; next = tt; onto = b })

    low : (i : ℕ) → l.start ≤ cell_place cs i l.end
    low i = let w : l.start ≤ cell_place cs 0 l.end = cells_head (From l) l.start l.end (bytes_between t l.start l.end) (omega arith) a in let q : cell_place cs 0 l.end ≤ cell_place cs i l.end = g.rising 0 i (omega arith) in omega arith

line_takes : (t : List ℕ) (l : Line) (s : State) → 4 * length t < 2 ^ 64 - 1 → l.start ≤ l.end → l.end ≤ l.next → l.next ≤ length t → is_core s.leaf ≡ true → Takes l s (line_taken_in core_known t s l)
unfolding line_taken_in
line_takes t l s small a b c k h = cells_take (Valid (From l) (cells_of [] l.start (bytes_between t l.start l.end)) l) t (cells_of [] l.start (bytes_between t l.start l.end)) l s k (columns_in t l small a b c) h

lines_take : (t : List ℕ) (from : ℕ) (ls : List Line) (s : State) → 4 * length t < 2 ^ 64 - 1 → is_core s.leaf ≡ true → Follow from (length t) ls → Rise 0 from s.pieces → Rise 0 (length t) (fold (line_taken_in core_known t) s ls).pieces
lines_take t from [] s small c f h = rise_more 0 from (length t) s.pieces f h
lines_take t from (l ∷ ls) s small c (x, a, b, y, f) h =
    lines_take t l.next ls (line_taken_in core_known t s l) small (line_core t l s c) f (line_takes t l s small a b y c (rise_more 0 from l.start s.pieces x h))

pub lines_in_order : LinesOfLeavesAreInOrder
unfolding blocks_in page_in known_of is_core
lines_in_order t small = closed_keeps t 0 (fold (line_taken_in core_known t) first_page (lines_of t)) (length t)
    (lines_take t 0 (lines_of t) first_page (omega arith) refl (lines_follow t (length t) 0 0 0 t (omega arith) (omega arith)) (omega arith))

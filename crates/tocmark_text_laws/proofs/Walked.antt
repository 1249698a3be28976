-- A line leaves a page whose blocks are placed.
use Rattle.std.proofs.Common.{◌≡◌, ℕ, zero, suc, ◌-◌, ◌≤◌, Bool, true, false, ◌&&◌, if◌then◌else◌, nat_le, List, length, refl, ap, sym, ◌∙◌, subst, arith, true≢false}
use Rattle.std.specs.Prelude.{slice_get, slice_set, Option, Some, None}
use Rattle.std.specs.Option.{option_map_or}
use Rattle.tocmark_event.specs.declared.event.HeadingLevel.{HeadingLevel}
use Rattle.tocmark_read_scan.specs.Basic.{bytes_between}
use Rattle.tocmark_read_scan.specs.Repeat.{going, repeated}
use Rattle.tocmark_read_scan.specs.declared.syntax.TheConstants.{CORE}
use Rattle.tocmark_read_lines.specs.Cells.{cell_place, moved}
use Rattle.tocmark_read_lines.specs.Containers.{after_quote, matched, container_in}
use Rattle.tocmark_read_lines.specs.declared.container.Opened.{Opened}
use Rattle.tocmark_read_lines.specs.Html.{html_ends}
use Rattle.tocmark_read_lines.specs.Marks.{tail_of, is_rule}
use Rattle.tocmark_read_lines.specs.declared.beginnings.Tail.{Tail}
use Rattle.tocmark_read_lines.specs.declared.cell.Cell.{Cell}
use Rattle.tocmark_read_lines.specs.declared.cell.Cursor.{Cursor}
use Rattle.tocmark_read_lines.specs.declared.container.Container.TheVariants as container
use Rattle.tocmark_read_lines.specs.declared.container.ContainerStart.{ContainerStart}
use Rattle.tocmark_read_lines.specs.declared.container.ContainerStart.TheVariants as begins
use Rattle.tocmark_read_lines.specs.declared.container.ItemStart.{ItemStart}
use Rattle.tocmark_read_lines.specs.declared.line.Line.{Line}
use Rattle.tocmark_read_page.specs.Leaves.{is_paragraph}
use Rattle.tocmark_read_page.specs.Pages.{State, leaf_finished, settled, closed_to, list_left, opened_with, leaf_opened, piece_taken, has_text, start_of, of_kind}
use Rattle.tocmark_read_page.specs.Pieces.{code_piece, text_piece, heading_piece, keeps_line}
use Rattle.tocmark_read_page.specs.declared.leaf.Leaf.{Leaf}
use Rattle.tocmark_read_page.specs.declared.leaf.Leaf.TheVariants as leaf
use Rattle.tocmark_read_page.specs.declared.line_start.LineStart.{LineStart}
use Rattle.tocmark_read_page.specs.declared.page.Block.{Block}
use Rattle.tocmark_read_page.specs.declared.page.BlockKind.{BlockKind}
use Rattle.tocmark_read_page.specs.declared.page.BlockKind.TheVariants as kind
use Rattle.tocmark_read_page.specs.declared.piece.Piece.{Piece}
use Rattle.tocmark_read_constructs.specs.Headings.{heading_put, heading_started_in, underlined, underlined_in}
use Rattle.tocmark_read_constructs.specs.Metadata.{metadata_in}
use Rattle.tocmark_read_constructs.specs.Quotes.{quote_opened}
use Rattle.tocmark_read_blocks.specs.Blocks.{core_known, rule_or_text, underlined_if, underline_taken_in, started_in, started_at_in, leaf_started_in, passed_in, turn_of, turn_in, leaf_ended, touched, turn_taken_in, taken_at_in, cells_taken_in}
use Rattle.tocmark_read_blocks.specs.Codes.{info_of, html_ended_as, html_ended, code_taken, indented_started, fence_started, html_started}
use Rattle.tocmark_read_blocks.specs.Containers.{goes_directly, is_in_list, list_started, item_opened, begun_at, container_once_in, containers_opened_in}
use Rattle.tocmark_read_blocks.specs.Leaves.{leaf_at, leaf_turn, metadata_or, rule_at}
use Rattle.tocmark_read_blocks.specs.Paragraphs.{text_started, in_paragraph, text_taken, rule_started}
use Rattle.tocmark_read_blocks.specs.declared.leaf.LeafStart.{LeafStart}
use Rattle.tocmark_read_blocks.specs.declared.leaf.LeafStart.TheVariants as start
use Rattle.tocmark_read_blocks.specs.declared.leaf.Turn.{Turn}
use Rattle.tocmark_read_blocks.specs.declared.leaf.Turn.TheVariants as turn
use Rattle.tocmark_text_laws.proofs.Alls.{got_last, set_last, last_changed}
use Rattle.tocmark_text_laws.proofs.Shut.{closed_shut, piece_taken_leaf, leaf_opened_leaf}
use Rattle.tocmark_text_laws.proofs.Begun.{item_shut, quote_shut}
use Rattle.tocmark_text_laws.proofs.Leaves.{is_core}
use Rattle.tocmark_text_laws.proofs.Core.{settled_leaf}
use Rattle.tocmark_text_laws.proofs.Machine.{core_at, core_begun}
use Rattle.tocmark_text_laws.proofs.Placed.{Shut, Ready, Going, Stands, shut, holding, Held, is_worded, starts, all_touched, finish, settled_going, closed_to_shut, list_left_shut, opened_with_shut, leaf_going, taken_going, passed_going}

-- the place of a column is of the set
abbrev pub Good : (ℕ → Type 0) → List Cell → Line → ℕ → Type 0
Good P cs line c = P (cell_place cs c line.end)

-- what a line may begin, and where
abbrev pub Begins : (ℕ → Type 0) → List Cell → Line → Bool → LeafStart → Type 0
Begins P cs line d start.Blank = Unit
Begins P cs line d start.Text = Unit
Begins P cs line d (start.Indented column) = Good P cs line column × Held P line.end (code_piece cs column line)
Begins P cs line d (start.Heading h) = Held P line.end (heading_piece cs h line)
Begins P cs line d (start.Fence f) = Unit
Begins P cs line d (start.Html k) = Unit
Begins P cs line d (start.Underline l) = d ≡ true
Begins P cs line d start.Rule = Unit
Begins P cs line d (start.Metadata k) = ⊥
Begins P cs line d (start.Task t) = ⊥
Begins P cs line d (start.QuoteKind k) = ⊥

-- what an open leaf may do with a line
abbrev pub TurnsTo : (ℕ → Type 0) → List Cell → Line → Leaf → Turn → Type 0
TurnsTo P cs line k turn.Closes = is_worded k ≡ true
TurnsTo P cs line k (turn.Takes column) = (is_worded k ≡ true) × Held P line.end (code_piece cs column line)
TurnsTo P cs line k turn.Passes = Unit
TurnsTo P cs line k (turn.Row t) = ⊥

-- where a container may go on that begins
abbrev pub Leads : (Cursor → Type 0) → List Cell → Cursor → Option ContainerStart → Type 0
Leads V cs cursor None = Unit
Leads V cs cursor (Some begins.Quote) = V (after_quote cs cursor)
Leads V cs cursor (Some (begins.Item i)) = V (moved cs cursor i.next)
Leads V cs cursor (Some (begins.Footnote n)) = ⊥
Leads V cs cursor (Some (begins.Definition d)) = ⊥

-- the columns of a line: at some of them something may begin
pub record Columns (P : ℕ → Type 0) (V : Cursor → Type 0) (cs : List Cell) (line : Line) : Type 0 where
  pub stops : P line.end
  pub next : P line.next
  pub onto : line.end ≤ line.next
  pub within : (c : ℕ) → cell_place cs c line.end ≤ line.end
  pub ink : (cursor : Cursor) → V cursor → Good P cs line cursor.ink
  pub column : (cursor : Cursor) → V cursor → Good P cs line cursor.column × Held P line.end (code_piece cs cursor.column line)
  pub containers : (tail : Tail) (cursor : Cursor) (p : Bool) → V cursor → Leads V cs cursor (container_in CORE cs tail cursor p)
  pub leaves : (rest : List ℕ) (tail : Tail) (cursor : Cursor) (p d : Bool) → V cursor → Begins P cs line d (leaf_at cs rest tail cursor p d)
  pub turns : (t : List ℕ) (cursor : Cursor) (k : Leaf) → V cursor → is_core k ≡ true → TurnsTo P cs line k (leaf_turn t cs line cursor k)
  pub front : (opened : List Opened) (quotes : List ℕ) → V ((matched cs opened quotes).1)

-- a leaf that is open in CommonMark
pub stands_core : (P : ℕ → Type 0) (n : ℕ) (s : State) → Stands P n s → is_core s.leaf ≡ true
unfolding is_core
stands_core P n s (shut e h) = ap is_core e
stands_core P n s (holding w front b g) = by s.leaf w
  where
    by : (k : Leaf) → is_worded k ≡ true → is_core k ≡ true
    by leaf.Nothing e = refl
    by leaf.Paragraph e = refl
    by leaf.Indented e = refl
    by (leaf.Fenced f) e = refl
    by (leaf.Html k) e = refl
    by (leaf.Metadata k) e = absurd cc
    by (leaf.Table x) e = absurd cc

pub words_worded : (k : Leaf) → is_paragraph k ≡ true → is_worded k ≡ true
unfolding is_paragraph
words_worded leaf.Nothing e = absurd cc
words_worded leaf.Paragraph e = refl
words_worded leaf.Indented e = absurd cc
words_worded (leaf.Fenced f) e = absurd cc
words_worded (leaf.Html k) e = absurd cc
words_worded (leaf.Metadata k) e = absurd cc
words_worded (leaf.Table x) e = absurd cc

-- an open paragraph
words_going : (P : ℕ → Type 0) (n : ℕ) (s : State) → is_paragraph s.leaf ≡ true → Stands P n s → (front : List Block) × (b : Block) × Going P n s front b
unfolding is_paragraph
words_going P n s p (shut e h) = absurd (true≢false (sym p ∙ ap is_paragraph e))
words_going P n s p (holding w front b g) = (front, b, g)

finished_stands : (P : ℕ → Type 0) (n : ℕ) (s : State) (front : List Block) (b : Block) → Going P n s front b → Stands P n (leaf_finished s)
unfolding leaf_finished
finished_stands P n s front b g = shut refl (finish P n s front b g)

html_stands : (P : ℕ → Type 0) (n : ℕ) (rest : List ℕ) (s : State) (front : List Block) (b : Block) → is_worded s.leaf ≡ true → Going P n s front b → Stands P n (html_ended rest s)
unfolding html_ended
html_stands P n rest s front b w g = by s.leaf
  where
    same : Stands P n s
    same = holding w front b g

    ends : (x : Bool) → Stands P n (if x then leaf_finished s else s)
    ends true = finished_stands P n s front b g
    ends false = same

    by : (k : Leaf) → Stands P n (html_ended_as k rest s)
    by leaf.Nothing = same
    by leaf.Paragraph = same
    by leaf.Indented = same
    by (leaf.Fenced f) = same
    by (leaf.Html k) = ends (html_ends k rest)
    by (leaf.Metadata k) = same
    by (leaf.Table t) = same

pub no_words : (cs : List Cell) (column : ℕ) (k : Leaf) → keeps_line cs column k ≡ false → is_paragraph k ≡ false
unfolding keeps_line is_paragraph
no_words cs column leaf.Nothing e = refl
no_words cs column leaf.Paragraph e = absurd (true≢false e)
no_words cs column leaf.Indented e = refl
no_words cs column (leaf.Fenced f) e = refl
no_words cs column (leaf.Html k) e = refl
no_words cs column (leaf.Metadata k) e = refl
no_words cs column (leaf.Table t) e = refl

code_stands : (P : ℕ → Type 0) (t : List ℕ) (cs : List Cell) (column : ℕ) (line : Line) (s : State) (front : List Block) (b : Block) → P line.end → Held P line.end (code_piece cs column line) → is_worded s.leaf ≡ true → Going P line.end s front b → Stands P line.end (code_taken t cs column line s)
unfolding code_taken
code_stands P t cs column line s front b q k w g = by (keeps_line cs column s.leaf) refl
  where
    code : Piece
    code = code_piece cs column line

    rest : List ℕ
    rest = bytes_between t code.start code.end

    by : (x : Bool) → keeps_line cs column s.leaf ≡ x → Stands P line.end (html_ended rest (piece_taken code line x s))
    by true e = html_stands P line.end rest (piece_taken code line true s) front b (ap is_worded (piece_taken_leaf code line true s) ∙ w) (taken_going P code line s front b k q g.ready)
    by false e = html_stands P line.end rest (piece_taken code line false s) front b (ap is_worded (piece_taken_leaf code line false s) ∙ w) (passed_going P line.end code line s front b k (no_words cs column s.leaf e) g)

text_started_ready : (P : ℕ → Type 0) (n x : ℕ) (s : State) (front : List Block) (b : Block) → P x → x ≤ n → Ready P n s front b → (c : Block) × Ready P n (text_started x s) front c
unfolding text_started
text_started_ready P n x s front b p l r = by (slice_get s.blocks (length s.blocks - 1)) (ap (λ (bs : List Block). slice_get bs (length bs - 1)) r.split ∙ got_last front b)
  where
    new : Block
    new = record b { start = x }

    inner : (k : Bool) → (c : Block) × Ready P n (if k then record s { blocks = slice_set s.blocks (length s.blocks - 1) (record b { start = x }) } else s) front c
    inner true = (new, record { split = ap (λ (bs : List Block). slice_set bs (length bs - 1) new) r.split ∙ set_last front b new; fits = r.fits; holds = r.holds; pieces = r.pieces; begins = p; within = l; plain = r.plain })
    inner false = (b, r)

    change : Block → State
    change c = if nat_le (length s.pieces) c.first then record s { blocks = slice_set s.blocks (length s.blocks - 1) (record c { start = x }) } else s

    by : (o : Option Block) → o ≡ Some b → (c : Block) × Ready P n (option_map_or change o s) front c
    by None e = absurd cc
    by (Some y) e = let q : y ≡ b = cc in subst (λ z. (c : Block) × Ready P n (change z) front c) (sym q) (inner (nat_le (length s.pieces) b.first))

pub text_started_leaf : (x : ℕ) (s : State) → (text_started x s).leaf ≡ s.leaf
unfolding text_started
text_started_leaf x s = by (slice_get s.blocks (length s.blocks - 1))
  where
    inner : (b : Block) (k : Bool) → (if k then record s { blocks = slice_set s.blocks (length s.blocks - 1) (record b { start = x }) } else s).leaf ≡ s.leaf
    inner b true = refl
    inner b false = refl

    by : (o : Option Block) → (option_map_or (λ (b : Block). if nat_le (length s.pieces) b.first then record s { blocks = slice_set s.blocks (length s.blocks - 1) (record b { start = x }) } else s) o s).leaf ≡ s.leaf
    by None = refl
    by (Some b) = inner b (nat_le (length s.pieces) b.first)

-- what a step over a leaf needs of the place at which it may begin
pub record At (P : ℕ → Type 0) (line : Line) (x : ℕ) : Type 0 where
  pub begins : P x
  pub within : x ≤ line.end
  pub stops : P line.end
  pub next : P line.next
  pub onto : line.end ≤ line.next

abbrev InWords : (ℕ → Type 0) → ℕ → State → Type 0
InWords P n s = (is_paragraph s.leaf ≡ true) × ((front : List Block) × (b : Block) × Going P n s front b)

in_paragraph_going : (P : ℕ → Type 0) (t : List ℕ) (cs : List Cell) (line : Line) (place : LineStart) (s : State) → At P line (cell_place cs place.cursor.ink line.end) → Stands P line.end s → InWords P line.end (in_paragraph t cs line place s)
unfolding text_piece is_paragraph
in_paragraph_going P t cs line place s a h = by (is_paragraph s.leaf) refl
  where
    by : (x : Bool) → is_paragraph s.leaf ≡ x → InWords P line.end (if x then s else leaf_opened leaf.Paragraph kind.Paragraph (text_piece cs place.cursor line).start line (closed_to t place.depth s))
    by true e = (e, words_going P line.end s e h)
    by false e = (
      ap is_paragraph (leaf_opened_leaf leaf.Paragraph kind.Paragraph (cell_place cs place.cursor.ink line.end) line (closed_to t place.depth s)),
      leaf_going P leaf.Paragraph kind.Paragraph (cell_place cs place.cursor.ink line.end) line (closed_to t place.depth s) (closed_to_shut P line.end t place.depth s h) a.begins a.within a.stops,
    )

text_stands : (P : ℕ → Type 0) (t : List ℕ) (cs : List Cell) (line : Line) (place : LineStart) (s : State) → At P line (cell_place cs place.cursor.ink line.end) → Stands P line.end s → Stands P line.end (text_taken t cs line place s)
unfolding text_taken text_piece
text_stands P t cs line place s a h = by (in_paragraph t cs line place s) (in_paragraph_going P t cs line place s a h)
  where
    at : ℕ
    at = cell_place cs place.cursor.ink line.end

    words : Piece
    words = text_piece cs place.cursor line

    last : (u : State) (front : List Block) (r : (c : Block) × Ready P line.end (text_started at u) front c) → is_paragraph u.leaf ≡ true → Stands P line.end (piece_taken words line true (text_started at u))
    last u front (c, r) e = holding
        (ap is_worded (piece_taken_leaf words line true (text_started at u) ∙ text_started_leaf at u) ∙ words_worded u.leaf e) front c
        (taken_going P words line (text_started at u) front c (record { begins = a.begins; before = a.within; stops = a.next; ordered = let h : at ≤ line.end = a.within in let k : line.end ≤ line.next = a.onto in omega arith; ends = a.stops; forward = a.within; onto = a.onto; spaces = λ h. absurd (omega arith) }) a.stops r)

    by : (u : State) → InWords P line.end u → Stands P line.end (piece_taken words line true (text_started at u))
    by u (e, (front, b, g)) = last u front (text_started_ready P line.end at u front b a.begins a.within g.ready) e

rule_stands : (P : ℕ → Type 0) (t : List ℕ) (cs : List Cell) (line : Line) (place : LineStart) (s : State) → At P line (start_of cs place line) → Stands P line.end s → Stands P line.end (rule_started t cs line place s)
unfolding rule_started
rule_stands P t cs line place s a h = by (leaf_going P leaf.Nothing kind.Rule (start_of cs place line) line (closed_to t place.depth s) (closed_to_shut P line.end t place.depth s h) a.begins a.within a.stops)
  where
    by : (front : List Block) × (b : Block) × Going P line.end (leaf_opened leaf.Nothing kind.Rule (start_of cs place line) line (closed_to t place.depth s)) front b → Stands P line.end (leaf_finished (leaf_opened leaf.Nothing kind.Rule (start_of cs place line) line (closed_to t place.depth s)))
    by (front, b, g) = finished_stands P line.end _ front b g

rule_or_text_stands : (P : ℕ → Type 0) (t : List ℕ) (cs : List Cell) (line : Line) (tail : Tail) (place : LineStart) (s : State) → At P line (start_of cs place line) → Stands P line.end s → Stands P line.end (rule_or_text (rule_at cs tail place.cursor.ink) t cs line place s)
unfolding rule_at
rule_or_text_stands P t cs line tail place s a h = by (is_rule cs tail place.cursor.ink)
  where
    by : (x : Bool) → Stands P line.end (rule_or_text (if x then start.Rule else start.Text) t cs line place s)
    by true = rule_stands P t cs line place s a h
    by false = text_stands P t cs line place s a h

underlined_stands : (P : ℕ → Type 0) (t : List ℕ) (level : HeadingLevel) (line : Line) (s : State) (front : List Block) (b : Block) → P line.end → Going P line.end s front b → Stands P line.end (underlined_in core_known t level line s)
unfolding underlined_in underlined
underlined_stands P t level line s front b q g = finished_stands P line.end (record s { blocks = of_kind (kind.Heading level None) s.blocks; end = line.end; line = line.number }) front (record b { kind = kind.Heading level None }) (record {
  ready = record {
    split = last_changed s.blocks front b (λ (x : Block). record x { kind = kind.Heading level None }) g.ready.split;
    fits = g.ready.fits;
    holds = g.ready.holds;
    pieces = g.ready.pieces;
    begins = g.ready.begins;
    within = g.ready.within;
    plain = g.ready.plain;
  };
  stops = q;
  ordered = g.ready.within;
  words = λ e. g.ready.pieces;
})

underline_stands : (P : ℕ → Type 0) (t : List ℕ) (cs : List Cell) (line : Line) (tail : Tail) (place : LineStart) (level : HeadingLevel) (s : State) → At P line (start_of cs place line) → is_paragraph s.leaf ≡ true → Stands P line.end s → Stands P line.end (underline_taken_in core_known t cs line tail place level s)
unfolding underline_taken_in metadata_in metadata_or
underline_stands P t cs line tail place level s a e h = took (words_going P line.end s e h)
  where
    with : (front : List Block) → (c : Block) × Going P line.end (settled t s) front c → Stands P line.end (underline_taken_in core_known t cs line tail place level s)
    with front (c, g) = by (has_text (settled t s))
      where
        by : (x : Bool) → Stands P line.end (underlined_if core_known x (rule_at cs tail place.cursor.ink) t cs line place level (settled t s))
        by true = underlined_stands P t level line (settled t s) front c a.stops g
        by false = rule_or_text_stands P t cs line tail place (settled t s) a (holding (words_worded (settled t s).leaf (ap is_paragraph (settled_leaf t s) ∙ e)) front c g)

    took : (front : List Block) × (b : Block) × Going P line.end s front b → Stands P line.end (underline_taken_in core_known t cs line tail place level s)
    took (front, b, g) = with front (settled_going P line.end t s front b g e)

-- a leaf of code that a line begins, with its rest
coded_stands : (P : ℕ → Type 0) (t : List ℕ) (cs : List Cell) (column : ℕ) (line : Line) (f : Leaf) (k : BlockKind) (s : State) → At P line (cell_place cs column line.end) → Held P line.end (code_piece cs column line) → is_worded f ≡ true → Shut P line.end s → Stands P line.end (code_taken t cs column line (leaf_opened f k (cell_place cs column line.end) line s))
coded_stands P t cs column line f k s a c w h = by (leaf_going P f k (cell_place cs column line.end) line s h a.begins a.within a.stops)
  where
    u : State
    u = leaf_opened f k (cell_place cs column line.end) line s

    by : (front : List Block) × (b : Block) × Going P line.end u front b → Stands P line.end (code_taken t cs column line u)
    by (front, b, g) = code_stands P t cs column line u front b a.stops c (ap is_worded (leaf_opened_leaf f k (cell_place cs column line.end) line s) ∙ w) g

fence_stands : (P : ℕ → Type 0) (line : Line) (f : Leaf) (k : BlockKind) (x : ℕ) (s : State) → At P line x → is_worded f ≡ true → Shut P line.end s → Stands P line.end (leaf_opened f k x line s)
fence_stands P line f k x s a w h = by (leaf_going P f k x line s h a.begins a.within a.stops)
  where
    by : (front : List Block) × (b : Block) × Going P line.end (leaf_opened f k x line s) front b → Stands P line.end (leaf_opened f k x line s)
    by (front, b, g) = holding (ap is_worded (leaf_opened_leaf f k x line s) ∙ w) front b g

heading_stands : (P : ℕ → Type 0) (line : Line) (p : Piece) (k : BlockKind) (x : ℕ) (s : State) → At P line x → Held P line.end p → Shut P line.end s → Stands P line.end (leaf_finished (piece_taken p line true (leaf_opened leaf.Nothing k x line s)))
heading_stands P line p k x s a c h = by (leaf_going P leaf.Nothing k x line s h a.begins a.within a.stops)
  where
    by : (front : List Block) × (b : Block) × Going P line.end (leaf_opened leaf.Nothing k x line s) front b → Stands P line.end (leaf_finished (piece_taken p line true (leaf_opened leaf.Nothing k x line s)))
    by (front, b, g) = finished_stands P line.end _ front b (taken_going P p line (leaf_opened leaf.Nothing k x line s) front b c a.stops g.ready)

closed_stands : (P : ℕ → Type 0) (n : ℕ) (t : List ℕ) (depth : ℕ) (s : State) → Stands P n s → Stands P n (closed_to t depth s)
closed_stands P n t depth s h = shut (closed_shut t depth s) (closed_to_shut P n t depth s h)

-- a place is directly in an open paragraph
pub direct_words : (depth : ℕ) (s : State) → goes_directly depth s ≡ true → is_paragraph s.leaf ≡ true
unfolding goes_directly
direct_words depth s h = by (is_paragraph s.leaf) (nat_le (length s.opened) depth) h
  where
    by : (x y : Bool) → x && y ≡ true → x ≡ true
    by true y e = refl
    by false y e = e

started_stands : (P : ℕ → Type 0) (V : Cursor → Type 0) (t : List ℕ) (cs : List Cell) (line : Line) (tail : Tail) (place : LineStart) (s : State) (b : LeafStart) → Columns P V cs line → V place.cursor → Begins P cs line (goes_directly place.depth s) b → Stands P line.end s → Stands P line.end (started_in core_known b t cs line tail place s)
unfolding started_in indented_started fence_started html_started heading_started_in heading_put
started_stands P V t cs line tail place s b k v w h = by b w
  where
    a : At P line (start_of cs place line)
    a = record { begins = k.ink place.cursor v; within = k.within place.cursor.ink; stops = k.stops; next = k.next; onto = k.onto }

    u : Shut P line.end (closed_to t place.depth s)
    u = closed_to_shut P line.end t place.depth s h

    by : (b : LeafStart) → Begins P cs line (goes_directly place.depth s) b → Stands P line.end (started_in core_known b t cs line tail place s)
    by start.Blank w = closed_stands P line.end t place.depth s h
    by start.Text w = text_stands P t cs line place s a h
    by (start.Indented column) w = coded_stands P t cs column line leaf.Indented kind.Indented (closed_to t place.depth s) (record { begins = w.0; within = k.within column; stops = k.stops; next = k.next; onto = k.onto }) (w.1) refl u
    by (start.Heading x) w = heading_stands P line (heading_piece cs x line) (kind.Heading x.level None) (start_of cs place line) (closed_to t place.depth s) a w u
    by (start.Fence f) w = fence_stands P line (leaf.Fenced f) (info_of cs place.cursor f line) (start_of cs place line) (closed_to t place.depth s) a refl u
    by (start.Html x) w = coded_stands P t cs place.cursor.column line (leaf.Html x) kind.Html (closed_to t place.depth s) (record { begins = (k.column place.cursor v).0; within = k.within place.cursor.column; stops = k.stops; next = k.next; onto = k.onto }) ((k.column place.cursor v).1) refl u
    by (start.Underline level) w = underline_stands P t cs line tail place level s a (direct_words place.depth s w) h
    by start.Rule w = rule_stands P t cs line place s a h
    by (start.Metadata x) w = absurd w
    by (start.Task d) w = absurd w
    by (start.QuoteKind x) w = absurd w

list_started_shut : (P : ℕ → Type 0) (i : ItemStart) (x : ℕ) (line : Line) (s : State) → At P line x → Shut P line.end s → Shut P line.end (list_started i x line s)
unfolding list_started
list_started_shut P i x line s a h = by (is_in_list i.sort s)
  where
    by : (b : Bool) → Shut P line.end (if b then s else opened_with (container.List i.sort) (kind.List i.number) x line (list_left s))
    by true = h
    by false = opened_with_shut P line.end (container.List i.sort) (kind.List i.number) x line (list_left s) (list_left_shut P line.end s h) a.begins a.within a.stops

-- where a container may go on, if one begins
abbrev pub Next : (Cursor → Type 0) → Option LineStart → Type 0
Next V None = Unit
Next V (Some place) = V place.cursor

begun_stands : (P : ℕ → Type 0) (V : Cursor → Type 0) (t : List ℕ) (cs : List Cell) (line : Line) (place : LineStart) (s : State) (o : Option ContainerStart) → At P line (start_of cs place line) → Leads V cs place.cursor o → Stands P line.end s → Stands P line.end ((begun_at t cs line place s o).0) × Next V ((begun_at t cs line place s o).1)
unfolding item_opened quote_opened
begun_stands P V t cs line place s None a w h = (h, tt)
begun_stands P V t cs line place s (Some begins.Quote) a w h = (
  shut (quote_shut t cs line place s)
      (opened_with_shut P line.end container.Quote (kind.Quote None) (start_of cs place line) line (list_left (closed_to t place.depth s)) (list_left_shut P line.end (closed_to t place.depth s) (closed_to_shut P line.end t place.depth s h)) a.begins a.within a.stops),
  w,
)
begun_stands P V t cs line place s (Some (begins.Item i)) a w h = (
  shut (item_shut t cs line place i s)
      (opened_with_shut P line.end (container.Item i.width) kind.Item (start_of cs place line) line (list_started i (start_of cs place line) line (closed_to t place.depth s)) (list_started_shut P i (start_of cs place line) line (closed_to t place.depth s) a (closed_to_shut P line.end t place.depth s h)) a.begins a.within a.stops),
  w,
)
begun_stands P V t cs line place s (Some (begins.Footnote n)) a w h = absurd w
begun_stands P V t cs line place s (Some (begins.Definition d)) a w h = absurd w

containers_stand : (P : ℕ → Type 0) (V : Cursor → Type 0) (t : List ℕ) (cs : List Cell) (line : Line) (tail : Tail) → Columns P V cs line → (n : ℕ) (place : LineStart) (s : State) → V place.cursor → Stands P line.end s
    → Stands P line.end ((repeated (container_once_in CORE t cs line tail) n place s).0) × V ((repeated (container_once_in CORE t cs line tail) n place s).1).cursor
unfolding repeated container_once_in
containers_stand P V t cs line tail k zero place s v h = (h, v)
containers_stand P V t cs line tail k (suc n) place s v h =
    by (begun_at t cs line place s o) (begun_stands P V t cs line place s o (record { begins = k.ink place.cursor v; within = k.within place.cursor.ink; stops = k.stops; next = k.next; onto = k.onto }) (k.containers tail place.cursor (goes_directly place.depth s) v) h)
    (λ d u x y. containers_stand P V t cs line tail k n d u x y)
  where
    o : Option ContainerStart
    o = container_in CORE cs tail place.cursor (goes_directly place.depth s)

    more : LineStart → State → State × LineStart
    more = λ d u. repeated (container_once_in CORE t cs line tail) n d u

    by : (r : State × Option LineStart) → Stands P line.end (r.0) × Next V (r.1) → ((d : LineStart) (u : State) → V d.cursor → Stands P line.end u → Stands P line.end ((more d u).0) × V ((more d u).1).cursor)
        → Stands P line.end ((going more place r).0) × V ((going more place r).1).cursor
    by (u, None) w f = (w.0, v)
    by (u, Some d) w f = f d u (w.1) (w.0)

leaf_started_stands : (P : ℕ → Type 0) (V : Cursor → Type 0) (t : List ℕ) (cs : List Cell) (line : Line) (place : LineStart) (s : State) → Columns P V cs line → V place.cursor → Stands P line.end s → Stands P line.end (leaf_started_in core_known t cs line place s)
unfolding leaf_started_in
leaf_started_stands P V t cs line place s k v h = by (containers_opened_in CORE t cs line (tail_of cs) place s) (containers_stand P V t cs line (tail_of cs) k (length cs) place s v h)
  where
    by : (r : State × LineStart) → Stands P line.end (r.0) × V (r.1).cursor → Stands P line.end (started_at_in core_known t cs line (tail_of cs) r)
    by (u, next) w = subst (Stands P line.end) (sym (core_begun t cs line (tail_of cs) u next))
        (started_stands P V t cs line (tail_of cs) next u (core_at t cs line (tail_of cs) u next) k (w.1)
        (k.leaves (bytes_between t (start_of cs next line) line.end) (tail_of cs) next.cursor (is_paragraph u.leaf) (goes_directly next.depth u) (w.1)) (w.0))

-- an open leaf that is no paragraph, or is one
leaf_going_on : (P : ℕ → Type 0) (n : ℕ) (s : State) → is_worded s.leaf ≡ true → Stands P n s → (front : List Block) × (b : Block) × Going P n s front b
leaf_going_on P n s w (shut e h) = absurd (true≢false (sym w ∙ ap is_worded e))
leaf_going_on P n s w (holding x front b g) = (front, b, g)

turned_stands : (P : ℕ → Type 0) (V : Cursor → Type 0) (t : List ℕ) (cs : List Cell) (line : Line) (place : LineStart) (s : State) (u : Turn) → Columns P V cs line → V place.cursor → TurnsTo P cs line s.leaf u → Stands P line.end s → Stands P line.end (turn_taken_in core_known u t cs line place s)
unfolding passed_in leaf_ended
turned_stands P V t cs line place s turn.Closes k v w h = by (leaf_going_on P line.end s w h)
  where
    by : (front : List Block) × (b : Block) × Going P line.end s front b → Stands P line.end (leaf_finished (record s { end = line.end; line = line.number }))
    by (front, b, g) = finished_stands P line.end (record s { end = line.end; line = line.number }) front b (record {
      ready = record { split = g.ready.split; fits = g.ready.fits; holds = g.ready.holds; pieces = g.ready.pieces; begins = g.ready.begins; within = g.ready.within; plain = g.ready.plain };
      stops = k.stops;
      ordered = g.ready.within;
      words = λ e. g.ready.pieces;
    })
turned_stands P V t cs line place s (turn.Takes column) k v w h = by (leaf_going_on P line.end s (w.0) h)
  where
    by : (front : List Block) × (b : Block) × Going P line.end s front b → Stands P line.end (code_taken t cs column line s)
    by (front, b, g) = code_stands P t cs column line s front b k.stops (w.1) (w.0) g
turned_stands P V t cs line place s turn.Passes k v w h = leaf_started_stands P V t cs line place s k v h
turned_stands P V t cs line place s (turn.Row x) k v w h = absurd w

turn_of_to : (P : ℕ → Type 0) (V : Cursor → Type 0) (t : List ℕ) (cs : List Cell) (line : Line) (place : LineStart) (s : State) → Columns P V cs line → V place.cursor → is_core s.leaf ≡ true → TurnsTo P cs line s.leaf (turn_of t cs line place s)
unfolding turn_of
turn_of_to P V t cs line place s k v c = by (nat_le (length s.opened) place.depth)
  where
    by : (x : Bool) → TurnsTo P cs line s.leaf (if x then leaf_turn t cs line place.cursor s.leaf else turn.Passes)
    by true = k.turns t place.cursor s.leaf v c
    by false = tt

touched_stands : (P : ℕ → Type 0) (line : Line) (depth : ℕ) (s : State) → P line.end → Stands P line.end s → Stands P line.end (touched line depth s)
unfolding touched
touched_stands P line depth s q (shut e h) = shut e (h.0, all_touched P (starts s.blocks) depth line.end line.number s.quotes s.opened q (h.1), h.2)
touched_stands P line depth s q (holding w front b g) = holding w front b (record {
  ready = record { split = g.ready.split; fits = g.ready.fits; holds = all_touched P (starts front) depth line.end line.number s.quotes s.opened q g.ready.holds; pieces = g.ready.pieces; begins = g.ready.begins; within = g.ready.within; plain = g.ready.plain };
  stops = g.stops;
  ordered = g.ordered;
  words = g.words;
})

-- a line leaves a page that stands
pub cells_stand : (P : ℕ → Type 0) (V : Cursor → Type 0) (t : List ℕ) (cs : List Cell) (line : Line) (s : State) → Columns P V cs line → Stands P line.end s → Stands P line.end (cells_taken_in core_known t cs line s)
unfolding cells_taken_in turn_in
cells_stand P V t cs line s k h = by (matched cs s.opened s.quotes) (k.front s.opened s.quotes)
  where
    by : (found : ℕ × Cursor) → V (found.1) → Stands P line.end (taken_at_in core_known t cs line (record { cursor = found.1; depth = found.0 }) (touched line (found.0) s))
    by (depth, cursor) v = turned_stands P V t cs line place u (turn_of t cs line place u) k v (turn_of_to P V t cs line place u k v (stands_core P line.end u w)) w
      where
        place : LineStart
        place = record { cursor = cursor; depth = depth }

        u : State
        u = touched line depth s

        w : Stands P line.end u
        w = touched_stands P line depth s k.stops h

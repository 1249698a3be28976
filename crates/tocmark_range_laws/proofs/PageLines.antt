-- A line leaves a page whose lines lie in their blocks.
use Rattle.std.proofs.Common.{◌&&◌, ◌⊎◌, inl, inr, ◌<◌, ◌∷◌, ◌≡◌, ℕ, zero, suc, ◌-◌, ◌^◌, ◌≤◌, Bool, true, false, if◌then◌else◌, nat_le, List, length, refl, ap, sym, ◌∙◌, subst, arith, true≢false}
use Rattle.std.specs.Prelude.{not, min, nat_lt, slice_get, slice_set, unwrap_or, Option, Some, None}
use Rattle.std.specs.Option.{option_map, option_map_or}
use Rattle.std.proofs.lemmas.Bool.Decides.{nat_tests}
use Rattle.std.proofs.lemmas.Option.{slice_get_past, slice_get_within}
use Rattle.tocmark_event.specs.declared.event.HeadingLevel.{HeadingLevel}
use Rattle.tocmark_read_scan.specs.Basic.{plus, bytes_between}
use Rattle.tocmark_read_scan.specs.Repeat.{going, repeated}
use Rattle.tocmark_read_scan.specs.declared.syntax.TheConstants.{CORE}
use Rattle.tocmark_read_lines.specs.Cells.{cell_place, first_cursor, indent_of, ink_from, is_blank_at, run_of}
use Rattle.tocmark_read_lines.specs.Containers.{matched, container_in, touched_from}
use Rattle.tocmark_read_lines.specs.Html.{html_ends}
use Rattle.tocmark_read_lines.specs.Marks.{closes_fence, fence_at, heading_at, heading_from, is_behind, is_rule, level_of, tail_of}
use Rattle.tocmark_read_lines.specs.declared.beginnings.Fence.{Fence}
use Rattle.tocmark_read_lines.specs.declared.beginnings.Heading.{Heading}
use Rattle.tocmark_read_lines.specs.declared.beginnings.Tail.{Tail}
use Rattle.tocmark_read_lines.specs.declared.cell.Cell.{Cell}
use Rattle.tocmark_read_lines.specs.declared.cell.Cursor.{Cursor}
use Rattle.tocmark_read_lines.specs.declared.container.Container.TheVariants as container
use Rattle.tocmark_read_lines.specs.declared.container.ContainerStart.{ContainerStart}
use Rattle.tocmark_read_lines.specs.declared.container.ContainerStart.TheVariants as begins
use Rattle.tocmark_read_lines.specs.declared.container.ItemStart.{ItemStart}
use Rattle.tocmark_read_lines.specs.declared.container.Opened.{Opened}
use Rattle.tocmark_read_lines.specs.declared.html.HtmlKind.{HtmlKind}
use Rattle.tocmark_read_lines.specs.declared.line.Line.{Line}
use Rattle.tocmark_read_page.specs.Leaves.{is_paragraph}
use Rattle.tocmark_read_page.specs.Pages.{State, leaf_finished, settled, closed_to, list_left, opened_with, leaf_opened, piece_taken, has_text, start_of, of_kind}
use Rattle.tocmark_read_page.specs.Pieces.{code_piece, text_piece, heading_piece, keeps_line, is_split, piece_of, same_place}
use Rattle.tocmark_read_page.specs.declared.leaf.Leaf.{Leaf}
use Rattle.tocmark_read_page.specs.declared.leaf.Leaf.TheVariants as leaf
use Rattle.tocmark_read_page.specs.declared.leaf.Table.{Table}
use Rattle.tocmark_read_page.specs.declared.line_start.LineStart.{LineStart}
use Rattle.tocmark_read_page.specs.declared.page.Block.{Block}
use Rattle.tocmark_read_page.specs.declared.page.BlockKind.{BlockKind}
use Rattle.tocmark_read_page.specs.declared.page.BlockKind.TheVariants as kind
use Rattle.tocmark_read_page.specs.declared.piece.Piece.{Piece}
use Rattle.tocmark_read_constructs.specs.Headings.{heading_put, heading_started_in, underlined, underlined_in}
use Rattle.tocmark_read_constructs.specs.Metadata.{closes_metadata, metadata_in}
use Rattle.tocmark_read_constructs.specs.Tables.{row_turn}
use Rattle.tocmark_read_constructs.specs.Quotes.{quote_opened}
use Rattle.tocmark_read_blocks.specs.Blocks.{core_known, rule_or_text, underlined_if, underline_taken_in, started_in, started_at_in, leaf_started_in, passed_in, turn_of, turn_in, leaf_ended, touched, turn_taken_in, taken_at_in, cells_taken_in}
use Rattle.tocmark_read_blocks.specs.Codes.{info_of, html_ended_as, html_ended, code_taken, indented_started, fence_started, html_started}
use Rattle.tocmark_read_blocks.specs.Containers.{goes_directly, is_in_list, list_started, item_opened, begun_at, container_once_in, containers_opened_in}
use Rattle.tocmark_read_blocks.specs.Leaves.{goes_past_blank, html_at, leaf_at, leaf_turn, mark_at, metadata_or, rule_at, underline_in}
use Rattle.tocmark_read_blocks.specs.Paragraphs.{text_started, in_paragraph, text_taken, rule_started}
use Rattle.tocmark_read_blocks.specs.declared.leaf.LeafStart.{LeafStart}
use Rattle.tocmark_read_blocks.specs.declared.leaf.LeafStart.TheVariants as start
use Rattle.tocmark_read_blocks.specs.declared.leaf.Turn.{Turn}
use Rattle.tocmark_read_blocks.specs.declared.leaf.Turn.TheVariants as turn
use Rattle.tocmark_text_laws.proofs.Alls.{all_weaker, got_last, set_last, last_changed}
use Rattle.tocmark_text_laws.proofs.Shut.{closed_shut, finished_shut, piece_taken_leaf, leaf_opened_leaf}
use Rattle.tocmark_text_laws.proofs.Begun.{item_shut, quote_shut}
use Rattle.tocmark_text_laws.proofs.Leaves.{is_core}
use Rattle.tocmark_text_laws.proofs.Core.{settled_leaf}
use Rattle.tocmark_text_laws.proofs.Machine.{core_at, core_begun}
use Rattle.tocmark_text_laws.proofs.Placed.{Held, is_worded}
use Rattle.tocmark_text_laws.proofs.Grounds.{Grounded}
use Rattle.tocmark_text_laws.proofs.Walked.{Begins, TurnsTo, Leads, Columns, Next, words_worded, text_started_leaf, direct_words}
use Rattle.tocmark_range_laws.proofs.Inked.{inked, Rich, Goes, rich_some, first_rich, matched_rich, turn_goes}
use Rattle.tocmark_range_laws.proofs.Pages.{Found, Begun, Met, Kept, OpenFound, Before, Here, apart_touched, add_going, finish_more, moved_all, more, more_stands, opened_end, opened_more, piece_found, taken_end, words_all, Shut, Leafed, Going, Stands, shut, holding, Fresh, InLine, bare_touched, bares, finish, settled_going, closed_to_shut, list_left_shut, opened_with_shut, leaf_fresh, fresh_going, later_going, later_leafed, later_stands, leafed_ends, taken_going, passed_going}

-- the places of a line's columns are in the line
abbrev pub From : Line → ℕ → Type 0
From line x = line.start ≤ x

-- a place of a line at which something begins
pub record At (line : Line) (x : ℕ) : Type 0 where
  pub begins : line.start ≤ x
  pub within : x ≤ line.end
  pub ordered : line.start ≤ line.end
  pub onto : line.end ≤ line.next

pub at_ink : (V : Cursor → Type 0) (cs : List Cell) (line : Line) (cursor : Cursor) → Columns (From line) V cs line → V cursor → At line (cell_place cs cursor.ink line.end)
at_ink V cs line cursor k v = record { begins = k.ink cursor v; within = k.within cursor.ink; ordered = k.stops; onto = k.onto }

-- lines of leaves lie in their line

code_next : (cs : List Cell) (c : ℕ) (line : Line) → ((code_piece cs c line).next ≡ line.next) × ((code_piece cs c line).end ≡ line.end) × (cell_place cs c line.end ≤ plus (cell_place cs c line.end) 1 → cell_place cs c line.end ≤ (code_piece cs c line).start)
unfolding code_piece
code_next cs c line = by (is_split cs c)
  where
    at : ℕ
    at = cell_place cs c line.end

    made : Bool → Piece
    made b = if b then piece_of (same_place cs c at) (plus at 1) line.end line.next else piece_of 0 at line.end line.next

    by : (b : Bool) → ((made b).next ≡ line.next) × ((made b).end ≡ line.end) × (at ≤ plus at 1 → at ≤ (made b).start)
    by true = (refl, refl, λ h. h)
    by false = (refl, refl, λ h. omega arith)

code_in : (cs : List Cell) (c : ℕ) (line : Line) → Held (From line) line.end (code_piece cs c line) → InLine line (code_piece cs c line)
code_in cs c line h = record {
  begins = h.begins;
  ordered = h.ordered;
  onto = h.onto;
  within = let a : (code_piece cs c line).next ≡ line.next = (code_next cs c line).0 in omega arith;
  short = let a : (code_piece cs c line).end ≡ line.end = (code_next cs c line).1 in omega arith;
}

text_in : (V : Cursor → Type 0) (cs : List Cell) (line : Line) (cursor : Cursor) → Columns (From line) V cs line → V cursor → InLine line (text_piece cs cursor line)
unfolding text_piece
text_in V cs line cursor k v = record {
  begins = k.ink cursor v;
  ordered = let a : cell_place cs cursor.ink line.end ≤ line.end = k.within cursor.ink in let b : line.end ≤ line.next = k.onto in omega arith;
  onto = k.onto;
  within = omega arith;
  short = omega arith;
}

heading_in : (V : Cursor → Type 0) (cs : List Cell) (line : Line) (x : Heading) → Columns (From line) V cs line → Held (From line) line.end (heading_piece cs x line) → InLine line (heading_piece cs x line)
unfolding heading_piece
heading_in V cs line x k h = record {
  begins = h.begins;
  ordered = h.ordered;
  onto = h.onto;
  within = let a : cell_place cs x.to line.end ≤ line.end = k.within x.to in let b : line.end ≤ line.next = k.onto in omega arith;
  short = k.within x.to;
}

-- an open paragraph
words_going : (ls : List Line) (c n : ℕ) (s : State) → is_paragraph s.leaf ≡ true → Stands ls c n s → (front : List Block) × (b : Block) × (b.start ≤ n) × Going ls c n s front b
unfolding is_paragraph
words_going ls c n s p (shut e h) = absurd (true≢false (sym p ∙ ap is_paragraph e))
words_going ls c n s p (holding w front b m g) = (front, b, m, g)

finished_stands : (ls : List Line) (c n : ℕ) (s : State) (front : List Block) (b : Block) → Going ls c n s front b → Stands ls c n (leaf_finished s)
unfolding leaf_finished
finished_stands ls c n s front b g = shut refl (finish ls c n s front b g)

-- leaves take a line

html_stands : (ls : List Line) (c n : ℕ) (rest : List ℕ) (s : State) (front : List Block) (b : Block) → is_worded s.leaf ≡ true → b.start ≤ n → Going ls c n s front b → Stands ls c n (html_ended rest s)
unfolding html_ended
html_stands ls c n rest s front b w m g = by s.leaf
  where
    same : Stands ls c n s
    same = holding w front b m g

    ends : (x : Bool) → Stands ls c n (if x then leaf_finished s else s)
    ends true = finished_stands ls c n s front b g
    ends false = same

    by : (k : Leaf) → Stands ls c n (html_ended_as k rest s)
    by leaf.Nothing = same
    by leaf.Paragraph = same
    by leaf.Indented = same
    by (leaf.Fenced f) = same
    by (leaf.Html k) = ends (html_ends k rest)
    by (leaf.Metadata k) = same
    by (leaf.Table t) = same

code_stands : (ls : List Line) (c : ℕ) (t : List ℕ) (cs : List Cell) (column : ℕ) (line : Line) (s : State) (front : List Block) (b : Block) → line.start ≤ line.end → InLine line (code_piece cs column line) → is_worded s.leaf ≡ true → b.start ≤ (code_piece cs column line).start → Going ls c line.start s front b → Stands ls (suc c) line.next (code_taken t cs column line s)
unfolding code_taken
code_stands ls c t cs column line s front b o i w l g = by (keeps_line cs column s.leaf)
  where
    code : Piece
    code = code_piece cs column line

    rest : List ℕ
    rest = bytes_between t code.start code.end

    low : b.start ≤ line.next
    low = let a : b.start ≤ code.start = l in let d : code.start ≤ code.next = i.ordered in let e : code.next ≤ line.next = i.within in omega arith

    by : (x : Bool) → Stands ls (suc c) line.next (html_ended rest (piece_taken code line x s))
    by true = html_stands ls (suc c) line.next rest (piece_taken code line true s) front b (ap is_worded (piece_taken_leaf code line true s) ∙ w) low (taken_going ls c code line s front b i o l g.leafed)
    by false = html_stands ls (suc c) line.next rest (piece_taken code line false s) front b (ap is_worded (piece_taken_leaf code line false s) ∙ w) low (passed_going ls c code line s front b i l g)

-- code takes a line, which is found
code_more : (ls : List Line) (c : ℕ) (t : List ℕ) (cs : List Cell) (column : ℕ) (line : Line) (s : State) (front : List Block) (b : Block) → line.start ≤ line.end → InLine line (code_piece cs column line) → is_worded s.leaf ≡ true → is_paragraph s.leaf ≡ false → keeps_line cs column s.leaf ≡ true → b.start ≤ (code_piece cs column line).start → b.start ≤ line.end → Going ls c line.start s front b → Stands (line ∷ ls) (suc c) line.next (code_taken t cs column line s)
unfolding code_taken
code_more ls c t cs column line s front b o i w n e l m g = by (keeps_line cs column s.leaf) e
  where
    code : Piece
    code = code_piece cs column line

    rest : List ℕ
    rest = bytes_between t code.start code.end

    u : State
    u = piece_taken code line true s

    low : b.start ≤ line.next
    low = let a : b.start ≤ code.start = l in let d : code.start ≤ code.next = i.ordered in let e : code.next ≤ line.next = i.within in omega arith

    later : line.start ≤ line.next
    later = let a : line.start ≤ code.start = i.begins in let d : code.start ≤ code.next = i.ordered in let e : code.next ≤ line.next = i.within in omega arith

    by : (x : Bool) → x ≡ true → Stands (line ∷ ls) (suc c) line.next (html_ended rest (piece_taken code line x s))
    by true e = html_stands (line ∷ ls) (suc c) line.next rest u front b (ap is_worded (piece_taken_leaf code line true s) ∙ w) low
        (add_going line ls (suc c) line.next u front b later (Here (ap is_paragraph (piece_taken_leaf code line true s) ∙ n) m (let q : u.end ≡ line.end = taken_end code line s in omega arith)) (taken_going ls c code line s front b i o l g.leafed))
    by false e = absurd (true≢false (sym e))

text_started_leafed : (ls : List Line) (c n x : ℕ) (s : State) (front : List Block) (b : Block) → is_paragraph s.leaf ≡ true → b.start ≤ x → Leafed ls c n s front b → (d : Block) × (d.start ≤ x) × Leafed ls c n (text_started x s) front d
unfolding text_started
text_started_leafed ls c n x s front b z l r = by (slice_get s.blocks (length s.blocks - 1)) (ap (λ (bs : List Block). slice_get bs (length bs - 1)) r.split ∙ got_last front b)
  where
    new : Block
    new = record b { start = x }

    inner : (k : Bool) → nat_le (length s.pieces) b.first ≡ k → (d : Block) × (d.start ≤ x) × Leafed ls c n (if k then record s { blocks = slice_set s.blocks (length s.blocks - 1) (record b { start = x }) } else s) front d
    inner true e = (
      new,
      omega arith,
      record {
        split = ap (λ (bs : List Block). slice_set bs (length bs - 1) new) r.split ∙ set_last front b new;
        floor = r.floor;
        fits = r.fits;
        bare = r.bare;
        climb = r.climb;
        count = r.count;
        low = r.low;
        room = r.room;
        first = r.first;
        mine = r.mine;
        covs = words_all s.leaf n front s.opened s.pieces s.kept b.start x s.end ls z r.covs;
        lines = λ i p m q. let a : length s.pieces ≤ b.first = grind (arith, nat_tests, e) in let d : i < length s.pieces = slice_get_within s.pieces i p q in absurd (omega arith);
      },
    )
    inner false e = (b, l, r)

    change : Block → State
    change d = if nat_le (length s.pieces) d.first then record s { blocks = slice_set s.blocks (length s.blocks - 1) (record d { start = x }) } else s

    by : (o : Option Block) → o ≡ Some b → (d : Block) × (d.start ≤ x) × Leafed ls c n (option_map_or change o s) front d
    by None e = absurd cc
    by (Some y) e = let q : y ≡ b = cc in subst (λ z. (d : Block) × (d.start ≤ x) × Leafed ls c n (change z) front d) (sym q) (inner (nat_le (length s.pieces) b.first) refl)

-- a paragraph that is open or begins
abbrev InWords : List Line → ℕ → ℕ → ℕ → State → Type 0
InWords ls c n x s = (is_paragraph s.leaf ≡ true) × ((front : List Block) × (b : Block) × (b.start ≤ x) × Leafed ls c n s front b)

in_paragraph_leafed : (ls : List Line) (c : ℕ) (t : List ℕ) (cs : List Cell) (line : Line) (place : LineStart) (s : State) → c ≤ 2 ^ 64 - 1 → At line (cell_place cs place.cursor.ink line.end) → Stands ls c line.start s → InWords ls c line.start (cell_place cs place.cursor.ink line.end) (in_paragraph t cs line place s)
unfolding text_piece is_paragraph
in_paragraph_leafed ls c t cs line place s r a h = by (is_paragraph s.leaf) refl
  where
    x : ℕ
    x = cell_place cs place.cursor.ink line.end

    begun : Fresh ls c line.start (leaf_opened leaf.Paragraph kind.Paragraph x line (closed_to t place.depth s)) x → (front : List Block) × (b : Block) × (b.start ≤ x) × Leafed ls c line.start (leaf_opened leaf.Paragraph kind.Paragraph x line (closed_to t place.depth s)) front b
    begun f = (f.front, f.block, (let e : f.block.start ≡ x = f.begins in omega arith), f.leafed)

    on : (front : List Block) × (b : Block) × (b.start ≤ line.start) × Going ls c line.start s front b → (front : List Block) × (b : Block) × (b.start ≤ x) × Leafed ls c line.start s front b
    on (front, b, m, g) = (front, b, (let e : line.start ≤ x = a.begins in omega arith), g.leafed)

    by : (y : Bool) → is_paragraph s.leaf ≡ y → InWords ls c line.start x (if y then s else leaf_opened leaf.Paragraph kind.Paragraph (text_piece cs place.cursor line).start line (closed_to t place.depth s))
    by true e = (e, on (words_going ls c line.start s e h))
    by false e = (
      ap is_paragraph (leaf_opened_leaf leaf.Paragraph kind.Paragraph x line (closed_to t place.depth s)),
      begun (leaf_fresh ls c line.start leaf.Paragraph kind.Paragraph x line (closed_to t place.depth s) r (closed_to_shut ls c line.start t place.depth s h)),
    )

text_stands : (ls : List Line) (c : ℕ) (t : List ℕ) (cs : List Cell) (line : Line) (place : LineStart) (s : State) → c ≤ 2 ^ 64 - 1 → At line (cell_place cs place.cursor.ink line.end) → InLine line (text_piece cs place.cursor line) → cell_place cs place.cursor.ink line.end < line.end → Stands ls c line.start s → Stands (line ∷ ls) (suc c) line.next (text_taken t cs line place s)
unfolding text_taken text_piece
text_stands ls c t cs line place s r a i z h = by (in_paragraph t cs line place s) (in_paragraph_leafed ls c t cs line place s r a h)
  where
    x : ℕ
    x = cell_place cs place.cursor.ink line.end

    words : Piece
    words = text_piece cs place.cursor line

    later : line.start ≤ line.next
    later = let p : line.start ≤ line.end = a.ordered in let q : line.end ≤ line.next = a.onto in omega arith

    last : (u : State) (front : List Block) (q : (d : Block) × (d.start ≤ x) × Leafed ls c line.start (text_started x u) front d) → is_paragraph u.leaf ≡ true → Stands (line ∷ ls) (suc c) line.next (piece_taken words line true (text_started x u))
    last u front (d, m, k) e = holding
        (ap is_worded (piece_taken_leaf words line true (text_started x u) ∙ text_started_leaf x u) ∙ words_worded u.leaf e) front d
        (let p : x ≤ line.end = a.within in let q : line.end ≤ line.next = a.onto in omega arith)
        (add_going line ls (suc c) line.next (piece_taken words line true (text_started x u)) front d later
        (Before (piece_found words line (text_started x u) front (piece_taken words line true (text_started x u)).opened i z)) (taken_going ls c words line (text_started x u) front d i a.ordered m k))

    by : (u : State) → InWords ls c line.start x u → Stands (line ∷ ls) (suc c) line.next (piece_taken words line true (text_started x u))
    by u (e, (front, b, m, g)) = last u front (text_started_leafed ls c line.start x u front b e m g) e

-- a leaf that is no paragraph begins in a line, which is found
begun_going : (ls : List Line) (c x : ℕ) (f : Leaf) (k : BlockKind) (line : Line) (s : State) → is_paragraph f ≡ false → x ≤ line.end → line.start ≤ line.end → (y : Fresh ls c line.start (leaf_opened f k x line s) x) → Going (line ∷ ls) c line.start (leaf_opened f k x line s) y.front y.block
begun_going ls c x f k line s e m o y = add_going line ls c line.start (leaf_opened f k x line s) y.front y.block (omega arith)
    (Here (ap is_paragraph (leaf_opened_leaf f k x line s) ∙ e) (let q : y.block.start ≡ x = y.begins in omega arith) (let q : (leaf_opened f k x line s).end ≡ line.end = opened_end f k x line s in omega arith))
    (fresh_going ls c line.start x (leaf_opened f k x line s) y)

rule_stands : (ls : List Line) (c : ℕ) (t : List ℕ) (cs : List Cell) (line : Line) (place : LineStart) (s : State) → c ≤ 2 ^ 64 - 1 → At line (start_of cs place line) → Stands ls c line.start s → Stands (line ∷ ls) (suc c) line.next (rule_started t cs line place s)
unfolding rule_started is_paragraph
rule_stands ls c t cs line place s r a h = by (leaf_fresh ls c line.start leaf.Nothing kind.Rule (start_of cs place line) line (closed_to t place.depth s) r (closed_to_shut ls c line.start t place.depth s h))
  where
    u : State
    u = leaf_opened leaf.Nothing kind.Rule (start_of cs place line) line (closed_to t place.depth s)

    by : Fresh ls c line.start u (start_of cs place line) → Stands (line ∷ ls) (suc c) line.next (leaf_finished u)
    by f = later_stands (line ∷ ls) c (suc c) line.start line.next (leaf_finished u) (omega arith) (let p : line.start ≤ line.end = a.ordered in let q : line.end ≤ line.next = a.onto in omega arith) (finished_stands (line ∷ ls) c line.start u f.front f.block (begun_going ls c (start_of cs place line) leaf.Nothing kind.Rule line (closed_to t place.depth s) refl a.within a.ordered f))

rule_or_text_stands : (ls : List Line) (c : ℕ) (t : List ℕ) (cs : List Cell) (line : Line) (tail : Tail) (place : LineStart) (s : State) → c ≤ 2 ^ 64 - 1 → At line (start_of cs place line) → InLine line (text_piece cs place.cursor line) → start_of cs place line < line.end → Stands ls c line.start s → Stands (line ∷ ls) (suc c) line.next (rule_or_text (rule_at cs tail place.cursor.ink) t cs line place s)
unfolding rule_at
rule_or_text_stands ls c t cs line tail place s r a i z h = by (is_rule cs tail place.cursor.ink)
  where
    by : (x : Bool) → Stands (line ∷ ls) (suc c) line.next (rule_or_text (if x then start.Rule else start.Text) t cs line place s)
    by true = rule_stands ls c t cs line place s r a h
    by false = text_stands ls c t cs line place s r a i z h

-- a leaf ends where a line does
ended_going : (ls : List Line) (c : ℕ) (line : Line) (s : State) (front : List Block) (b : Block) → line.start ≤ line.end → Going ls c line.start s front b → Going ls c line.start (record s { end = line.end; line = line.number }) front b
unfolding later_leafed
ended_going ls c line s front b o g = record {
  leafed = later_leafed ls c c line.start line.start s (record s { end = line.end; line = line.number }) front b (omega arith) (omega arith) refl refl refl refl (moved_all s.leaf line.start front s.opened s.pieces s.kept b.start s.end line.end ls o g.leafed.covs) g.leafed;
  kept = g.kept;
  there = g.there;
  ends = λ i p l k e. let a : p.end ≤ line.start = leafed_ends ls c line.start s front b g.leafed i p e in omega arith;
}

underlined_stands : (ls : List Line) (c : ℕ) (t : List ℕ) (level : HeadingLevel) (line : Line) (s : State) (front : List Block) (b : Block) → line.start ≤ line.end → b.start ≤ line.start → Going ls c line.start s front b → Stands (line ∷ ls) c line.start (underlined_in core_known t level line s)
unfolding underlined_in underlined
underlined_stands ls c t level line s front b o m g = shut (finished_shut (record s { blocks = of_kind (kind.Heading level None) s.blocks; end = line.end; line = line.number })) (finish_more line ls c line.start (record s { blocks = of_kind (kind.Heading level None) s.blocks; end = line.end; line = line.number }) front (record b { kind = kind.Heading level None }) (omega arith) (omega arith) o (record {
  leafed = record {
    split = last_changed s.blocks front b (λ (x : Block). record x { kind = kind.Heading level None }) g.leafed.split;
    floor = g.leafed.floor;
    fits = g.leafed.fits;
    bare = g.leafed.bare;
    climb = g.leafed.climb;
    count = g.leafed.count;
    low = g.leafed.low;
    room = g.leafed.room;
    first = g.leafed.first;
    lines = g.leafed.lines;
    mine = g.leafed.mine;
    covs = moved_all s.leaf line.start front s.opened s.pieces s.kept b.start s.end line.end ls o g.leafed.covs;
  };
  kept = g.kept;
  there = g.there;
  ends = λ i p l k e. let a : p.end ≤ line.start = leafed_ends ls c line.start s front b g.leafed i p e in omega arith;
}))

underline_stands : (ls : List Line) (c : ℕ) (t : List ℕ) (cs : List Cell) (line : Line) (tail : Tail) (place : LineStart) (level : HeadingLevel) (s : State) → c ≤ 2 ^ 64 - 1 → At line (start_of cs place line) → InLine line (text_piece cs place.cursor line) → start_of cs place line < line.end → is_paragraph s.leaf ≡ true → Stands ls c line.start s → Stands (line ∷ ls) (suc c) line.next (underline_taken_in core_known t cs line tail place level s)
unfolding underline_taken_in metadata_in metadata_or
underline_stands ls c t cs line tail place level s r a i z e h = took (words_going ls c line.start s e h)
  where
    with : (front : List Block) → (b : Block) × (b.start ≤ line.start) × Going ls c line.start (settled t s) front b → Stands (line ∷ ls) (suc c) line.next (underline_taken_in core_known t cs line tail place level s)
    with front (b, m, g) = by (has_text (settled t s))
      where
        by : (x : Bool) → Stands (line ∷ ls) (suc c) line.next (underlined_if core_known x (rule_at cs tail place.cursor.ink) t cs line place level (settled t s))
        by true = later_stands (line ∷ ls) c (suc c) line.start line.next (underlined_in core_known t level line (settled t s)) (omega arith) (let p : line.start ≤ line.end = a.ordered in let q : line.end ≤ line.next = a.onto in omega arith) (underlined_stands ls c t level line (settled t s) front b a.ordered m g)
        by false = rule_or_text_stands ls c t cs line tail place (settled t s) r a i z (holding (words_worded (settled t s).leaf (ap is_paragraph (settled_leaf t s) ∙ e)) front b m g)

    took : (front : List Block) × (b : Block) × (b.start ≤ line.start) × Going ls c line.start s front b → Stands (line ∷ ls) (suc c) line.next (underline_taken_in core_known t cs line tail place level s)
    took (front, b, m, g) = with front (settled_going ls c line.start t s front b e m g)

no_words : is_paragraph leaf.Nothing ≡ false
unfolding is_paragraph
no_words = refl

-- a leaf of code that a line begins, with its rest
coded_stands : (ls : List Line) (c : ℕ) (t : List ℕ) (cs : List Cell) (column : ℕ) (line : Line) (f : Leaf) (k : BlockKind) (s : State) → c ≤ 2 ^ 64 - 1 → line.start ≤ line.end → InLine line (code_piece cs column line) → cell_place cs column line.end ≤ (code_piece cs column line).start → is_worded f ≡ true → is_paragraph f ≡ false → cell_place cs column line.end ≤ line.end → Shut ls c line.start s → Stands (line ∷ ls) (suc c) line.next (code_taken t cs column line (leaf_opened f k (cell_place cs column line.end) line s))
coded_stands ls c t cs column line f k s r o i l w z m h = by (leaf_fresh ls c line.start f k (cell_place cs column line.end) line s r h)
  where
    u : State
    u = leaf_opened f k (cell_place cs column line.end) line s

    by : Fresh ls c line.start u (cell_place cs column line.end) → Stands (line ∷ ls) (suc c) line.next (code_taken t cs column line u)
    by x = code_stands (line ∷ ls) c t cs column line u x.front x.block o i (ap is_worded (leaf_opened_leaf f k (cell_place cs column line.end) line s) ∙ w) (let e : x.block.start ≡ cell_place cs column line.end = x.begins in omega arith) (begun_going ls c (cell_place cs column line.end) f k line s z m o x)

fence_stands : (ls : List Line) (c : ℕ) (line : Line) (f : Leaf) (k : BlockKind) (x : ℕ) (s : State) → c ≤ 2 ^ 64 - 1 → At line x → is_worded f ≡ true → is_paragraph f ≡ false → Shut ls c line.start s → Stands (line ∷ ls) (suc c) line.next (leaf_opened f k x line s)
fence_stands ls c line f k x s r a w z h = by (leaf_fresh ls c line.start f k x line s r h)
  where
    by : Fresh ls c line.start (leaf_opened f k x line s) x → Stands (line ∷ ls) (suc c) line.next (leaf_opened f k x line s)
    by y = holding (ap is_worded (leaf_opened_leaf f k x line s) ∙ w) y.front y.block (let e : y.block.start ≡ x = y.begins in let p : x ≤ line.end = a.within in let q : line.end ≤ line.next = a.onto in omega arith)
        (later_going (line ∷ ls) c (suc c) line.start line.next (leaf_opened f k x line s) y.front y.block (omega arith) (let p : line.start ≤ line.end = a.ordered in let q : line.end ≤ line.next = a.onto in omega arith) (begun_going ls c x f k line s z a.within a.ordered y))

heading_stands : (ls : List Line) (c : ℕ) (line : Line) (p : Piece) (k : BlockKind) (x : ℕ) (s : State) → c ≤ 2 ^ 64 - 1 → At line x → InLine line p → x ≤ p.start → Shut ls c line.start s → Stands (line ∷ ls) (suc c) line.next (leaf_finished (piece_taken p line true (leaf_opened leaf.Nothing k x line s)))
heading_stands ls c line p k x s r a i l h = by (leaf_fresh ls c line.start leaf.Nothing k x line s r h)
  where
    by : Fresh ls c line.start (leaf_opened leaf.Nothing k x line s) x → Stands (line ∷ ls) (suc c) line.next (leaf_finished (piece_taken p line true (leaf_opened leaf.Nothing k x line s)))
    by y = finished_stands (line ∷ ls) (suc c) line.next _ y.front y.block (taken_going (line ∷ ls) c p line (leaf_opened leaf.Nothing k x line s) y.front y.block i a.ordered (let e : y.block.start ≡ x = y.begins in omega arith) (begun_going ls c x leaf.Nothing k line s no_words a.within a.ordered y).leafed)

closed_stands : (ls : List Line) (c n : ℕ) (t : List ℕ) (depth : ℕ) (s : State) → Stands ls c n s → Stands ls c n (closed_to t depth s)
closed_stands ls c n t depth s h = shut (closed_shut t depth s) (closed_to_shut ls c n t depth s h)

-- what a line begins is not before the place of the ink

MayHead : List Cell → Line → ℕ → Option Heading → Type 0
MayHead cs line c None = Unit
MayHead cs line c (Some h) = cell_place cs c line.end ≤ cell_place cs h.from line.end

abbrev BeginsLow : Bool → List Cell → Line → ℕ → LeafStart → Type 0
BeginsLow w cs line c start.Blank = w ≡ false
BeginsLow w cs line c start.Text = cell_place cs c line.end < line.end
BeginsLow w cs line c (start.Indented column) = Unit
BeginsLow w cs line c (start.Heading h) = cell_place cs c line.end ≤ cell_place cs h.from line.end
BeginsLow w cs line c (start.Fence f) = Unit
BeginsLow w cs line c (start.Html k) = Unit
BeginsLow w cs line c (start.Underline l) = cell_place cs c line.end < line.end
BeginsLow w cs line c start.Rule = Unit
BeginsLow w cs line c (start.Metadata k) = Unit
BeginsLow w cs line c (start.Task t) = Unit
BeginsLow w cs line c (start.QuoteKind k) = Unit

further : (P : ℕ → Type 0) (cs : List Cell) (line : Line) → Grounded P cs line → (c k n : ℕ) → cell_place cs c line.end ≤ cell_place cs (plus (plus c k) n) line.end
further P cs line g c k n = by (nat_le c (2 ^ 64 - 1)) refl
  where
    by : (x : Bool) → nat_le c (2 ^ 64 - 1) ≡ x → cell_place cs c line.end ≤ cell_place cs (plus (plus c k) n) line.end
    by true e = let w : c ≤ 2 ^ 64 - 1 = grind (arith, nat_tests) in g.rising c (plus (plus c k) n) (omega arith)
    by false e =
        let w : 2 ^ 64 - 1 < c = grind (arith, nat_tests) in
        let f : length cs ≤ 2 ^ 64 - 1 = g.few in
        let q : slice_get cs (plus (plus c k) n) ≡ None = slice_get_past cs (plus (plus c k) n) (omega arith) in
        subst (λ (o : Option Cell). cell_place cs c line.end ≤ option_map_or (λ (x : Cell). x.at) o line.end) (sym q) (g.within c)

heading_low : (P : ℕ → Type 0) (cs : List Cell) (line : Line) → Grounded P cs line → (c : ℕ) → MayHead cs line c (heading_at cs c)
unfolding heading_at MayHead
heading_low P cs line g c = by (not (is_behind cs behind)) (level_of (behind - c))
  where
    behind : ℕ
    behind = plus c (run_of cs c 35)

    by : (x : Bool) (o : Option HeadingLevel) → MayHead cs line c (if x then None else option_map (heading_from cs (ink_from cs behind)) o)
    by true o = tt
    by false None = tt
    by false (Some l) = further P cs line g c (run_of cs c 35) (run_of cs behind 32)

-- each column is before the end of its line
abbrev pub Short : List Cell → Line → Type 0
Short cs line = (c : ℕ) → c < length cs → cell_place cs c line.end < line.end

leaves_low : (w : Bool) (P : ℕ → Type 0) (cs : List Cell) (line : Line) → Grounded P cs line → Short cs line → (rest : List ℕ) (tail : Tail) (cursor : Cursor) (p d : Bool) → (is_blank_at cs cursor ≡ true → w ≡ false) → BeginsLow w cs line cursor.ink (leaf_at cs rest tail cursor p d)
unfolding leaf_at mark_at rule_at MayHead
leaves_low w P cs line g f rest tail cursor p d z = by (is_blank_at cs cursor) refl (nat_lt (indent_of cursor) 4) p
  where
    short : is_blank_at cs cursor ≡ false → cell_place cs cursor.ink line.end < line.end
    short e = let a : cursor.ink < length cs = grind (arith, nat_tests) in f cursor.ink a

    rule : (x : Bool) → cell_place cs cursor.ink line.end < line.end → BeginsLow w cs line cursor.ink (if x then start.Rule else start.Text)
    rule true e = tt
    rule false e = e

    mark : (h : Option Heading) (f : Option Fence) (k : Option HtmlKind) (u : Option HeadingLevel) → cell_place cs cursor.ink line.end < line.end → MayHead cs line cursor.ink h
        → BeginsLow w cs line cursor.ink (unwrap_or (option_map (λ h. start.Heading h) h) (unwrap_or (option_map (λ f. start.Fence f) f) (unwrap_or (option_map (λ k. start.Html k) k) (unwrap_or (option_map (λ l. start.Underline l) u) (if is_rule cs tail cursor.ink then start.Rule else start.Text)))))
    mark (Some h) f k u e a = a
    mark None (Some f) k u e a = tt
    mark None None (Some k) u e a = tt
    mark None None None (Some l) e a = e
    mark None None None None e a = rule (is_rule cs tail cursor.ink) e

    by : (a : Bool) → is_blank_at cs cursor ≡ a → (b : Bool) (q : Bool) → BeginsLow w cs line cursor.ink (if a then start.Blank else (if b then mark_at cs rest tail cursor p d else (if q then start.Text else start.Indented (plus cursor.column 4))))
    by true e b q = z e
    by false e true q = mark (heading_at cs cursor.ink) (fence_at cs cursor) (html_at rest p) (underline_in cs cursor.ink d) (short e) (heading_low P cs line g cursor.ink)
    by false e false true = short e
    by false e false false = tt

code_low : (P : ℕ → Type 0) (cs : List Cell) (line : Line) → Grounded P cs line → (c : ℕ) → cell_place cs c line.end ≤ (code_piece cs c line).start
code_low P cs line g c = (code_next cs c line).2 (let a : cell_place cs c line.end ≤ line.end = g.within c in let b : line.end < 2 ^ 64 - 1 = g.low in omega arith)

-- what a line begins comes into the page

started_stands : (y : Bool) (ls : List Line) (c : ℕ) (V : Cursor → Type 0) (t : List ℕ) (cs : List Cell) (line : Line) (tail : Tail) (place : LineStart) (s : State) (b : LeafStart) → c ≤ 2 ^ 64 - 1 → Grounded (From line) cs line → Columns (From line) V cs line → V place.cursor → Begins (From line) cs line (goes_directly place.depth s) b → BeginsLow y cs line place.cursor.ink b → Stands ls c line.start s → Stands (more y line ls) (suc c) line.next (started_in core_known b t cs line tail place s)
unfolding is_paragraph started_in indented_started fence_started html_started heading_started_in heading_put heading_piece
started_stands y ls c V t cs line tail place s b r g k v w z h = by b w z
  where
    a : At line (start_of cs place line)
    a = at_ink V cs line place.cursor k v

    i : InLine line (text_piece cs place.cursor line)
    i = text_in V cs line place.cursor k v

    u : Shut ls c line.start (closed_to t place.depth s)
    u = closed_to_shut ls c line.start t place.depth s h

    later : line.start ≤ line.next
    later = k.next

    any : (v : State) → Stands (line ∷ ls) (suc c) line.next v → Stands (more y line ls) (suc c) line.next v
    any v q = more_stands y line ls (suc c) line.next v q

    coded : (column : ℕ) (f : Leaf) (x : BlockKind) → is_worded f ≡ true → is_paragraph f ≡ false → Held (From line) line.end (code_piece cs column line) → Stands (more y line ls) (suc c) line.next (code_taken t cs column line (leaf_opened f x (cell_place cs column line.end) line (closed_to t place.depth s)))
    coded column f x e n q = any _ (coded_stands ls c t cs column line f x (closed_to t place.depth s) r a.ordered (code_in cs column line q) (code_low (From line) cs line g column) e n (k.within column) u)

    by : (b : LeafStart) → Begins (From line) cs line (goes_directly place.depth s) b → BeginsLow y cs line place.cursor.ink b → Stands (more y line ls) (suc c) line.next (started_in core_known b t cs line tail place s)
    by start.Blank w z = subst (λ (ms : List Line). Stands ms (suc c) line.next (closed_to t place.depth s)) (ap (λ (x : Bool). more x line ls) (sym z)) (later_stands ls c (suc c) line.start line.next (closed_to t place.depth s) (omega arith) later (closed_stands ls c line.start t place.depth s h))
    by start.Text w z = any _ (text_stands ls c t cs line place s r a i z h)
    by (start.Indented column) w z = coded column leaf.Indented kind.Indented refl refl (w.1)
    by (start.Heading x) w z = any _ (heading_stands ls c line (heading_piece cs x line) (kind.Heading x.level None) (start_of cs place line) (closed_to t place.depth s) r a (heading_in V cs line x k w) z u)
    by (start.Fence f) w z = any _ (fence_stands ls c line (leaf.Fenced f) (info_of cs place.cursor f line) (start_of cs place line) (closed_to t place.depth s) r a refl refl u)
    by (start.Html x) w z = coded place.cursor.column (leaf.Html x) kind.Html refl refl ((k.column place.cursor v).1)
    by (start.Underline level) w z = any _ (underline_stands ls c t cs line tail place level s r a i z (direct_words place.depth s w) h)
    by start.Rule w z = any _ (rule_stands ls c t cs line place s r a h)
    by (start.Metadata x) w z = absurd w
    by (start.Task d) w z = absurd w
    by (start.QuoteKind x) w z = absurd w

-- containers begin

list_started_shut : (ls : List Line) (c n : ℕ) (i : ItemStart) (x : ℕ) (line : Line) (s : State) → Shut ls c n s → Shut ls c n (list_started i x line s)
unfolding list_started
list_started_shut ls c n i x line s h = by (is_in_list i.sort s)
  where
    by : (b : Bool) → Shut ls c n (if b then s else opened_with (container.List i.sort) (kind.List i.number) x line (list_left s))
    by true = h
    by false = opened_with_shut ls c n (container.List i.sort) (kind.List i.number) x line (list_left s) (list_left_shut ls c n s h)

begun_stands : (ls : List Line) (c n : ℕ) (V : Cursor → Type 0) (t : List ℕ) (cs : List Cell) (line : Line) (place : LineStart) (s : State) (o : Option ContainerStart) → Leads V cs place.cursor o → Stands ls c n s → Stands ls c n ((begun_at t cs line place s o).0) × Next V ((begun_at t cs line place s o).1)
unfolding item_opened quote_opened
begun_stands ls c n V t cs line place s None w h = (h, tt)
begun_stands ls c n V t cs line place s (Some begins.Quote) w h = (
  shut (quote_shut t cs line place s)
      (opened_with_shut ls c n container.Quote (kind.Quote None) (start_of cs place line) line (list_left (closed_to t place.depth s)) (list_left_shut ls c n (closed_to t place.depth s) (closed_to_shut ls c n t place.depth s h))),
  w,
)
begun_stands ls c n V t cs line place s (Some (begins.Item i)) w h = (
  shut (item_shut t cs line place i s)
      (opened_with_shut ls c n (container.Item i.width) kind.Item (start_of cs place line) line (list_started i (start_of cs place line) line (closed_to t place.depth s)) (list_started_shut ls c n i (start_of cs place line) line (closed_to t place.depth s) (closed_to_shut ls c n t place.depth s h))),
  w,
)
begun_stands ls c n V t cs line place s (Some (begins.Footnote d)) w h = absurd w
begun_stands ls c n V t cs line place s (Some (begins.Definition d)) w h = absurd w

containers_stand : (ls : List Line) (c m : ℕ) (V : Cursor → Type 0) (t : List ℕ) (cs : List Cell) (line : Line) (tail : Tail) → Columns (From line) V cs line → (n : ℕ) (place : LineStart) (s : State) → V place.cursor → Stands ls c m s
    → Stands ls c m ((repeated (container_once_in CORE t cs line tail) n place s).0) × V ((repeated (container_once_in CORE t cs line tail) n place s).1).cursor
unfolding repeated container_once_in
containers_stand ls c m V t cs line tail k zero place s v h = (h, v)
containers_stand ls c m V t cs line tail k (suc n) place s v h =
    by (begun_at t cs line place s o) (begun_stands ls c m V t cs line place s o (k.containers tail place.cursor (goes_directly place.depth s) v) h)
    (λ d u x y. containers_stand ls c m V t cs line tail k n d u x y)
  where
    o : Option ContainerStart
    o = container_in CORE cs tail place.cursor (goes_directly place.depth s)

    more : LineStart → State → State × LineStart
    more = λ d u. repeated (container_once_in CORE t cs line tail) n d u

    by : (r : State × Option LineStart) → Stands ls c m (r.0) × Next V (r.1) → ((d : LineStart) (u : State) → V d.cursor → Stands ls c m u → Stands ls c m ((more d u).0) × V ((more d u).1).cursor)
        → Stands ls c m ((going more place r).0) × V ((going more place r).1).cursor
    by (u, None) w f = (w.0, v)
    by (u, Some d) w f = f d u (w.1) (w.0)

-- a container that begins is found in its line
begun_more : (ls : List Line) (c : ℕ) (V : Cursor → Type 0) (t : List ℕ) (cs : List Cell) (line : Line) (place : LineStart) (s : State) (o : ContainerStart) → At line (start_of cs place line) → Leads V cs place.cursor (Some o) → Stands ls c line.start s
    → Stands (line ∷ ls) c line.start ((begun_at t cs line place s (Some o)).0) × Next V ((begun_at t cs line place s (Some o)).1)
unfolding item_opened quote_opened
begun_more ls c V t cs line place s begins.Quote a w h = (
  shut (quote_shut t cs line place s)
      (opened_more ls c line.start container.Quote (kind.Quote None) (start_of cs place line) line (list_left (closed_to t place.depth s)) (omega arith) a.begins a.within (list_left_shut ls c line.start (closed_to t place.depth s) (closed_to_shut ls c line.start t place.depth s h))),
  w,
)
begun_more ls c V t cs line place s (begins.Item i) a w h = (
  shut (item_shut t cs line place i s)
      (opened_more ls c line.start (container.Item i.width) kind.Item (start_of cs place line) line (list_started i (start_of cs place line) line (closed_to t place.depth s)) (omega arith) a.begins a.within (list_started_shut ls c line.start i (start_of cs place line) line (closed_to t place.depth s) (closed_to_shut ls c line.start t place.depth s h))),
  w,
)
begun_more ls c V t cs line place s (begins.Footnote d) a w h = absurd w
begun_more ls c V t cs line place s (begins.Definition d) a w h = absurd w

-- the line is found if a container begins in it, and the page is as it was if none does
abbrev Onward : List Line → ℕ → (Cursor → Type 0) → Line → LineStart → State → State × LineStart → Type 0
Onward ls c V line place s r = (r ≡ (s, place)) ⊎ (Stands (line ∷ ls) c line.start (r.0) × V (r.1).cursor)

containers_more : (ls : List Line) (c : ℕ) (V : Cursor → Type 0) (t : List ℕ) (cs : List Cell) (line : Line) (tail : Tail) → Columns (From line) V cs line → (n : ℕ) (place : LineStart) (s : State) → V place.cursor → Stands ls c line.start s
    → Onward ls c V line place s (repeated (container_once_in CORE t cs line tail) n place s)
unfolding repeated container_once_in
containers_more ls c V t cs line tail k zero place s v h = inl refl
containers_more ls c V t cs line tail k (suc n) place s v h = by (container_in CORE cs tail place.cursor (goes_directly place.depth s)) (k.containers tail place.cursor (goes_directly place.depth s) v)
  where
    rest : LineStart → State → State × LineStart
    rest = λ d u. repeated (container_once_in CORE t cs line tail) n d u

    on : (r : State × Option LineStart) → (d : LineStart) → r.1 ≡ Some d → Stands (line ∷ ls) c line.start (r.0) × Next V (r.1) → Onward ls c V line place s (going rest place r)
    on (u, None) d e w = absurd cc
    on (u, Some d) f e w = inr (containers_stand (line ∷ ls) c line.start V t cs line tail k n d u (w.1) (w.0))

    by : (o : Option ContainerStart) → Leads V cs place.cursor o → Onward ls c V line place s (going rest place (begun_at t cs line place s o))
    by None w = inl refl
    by (Some begins.Quote) w = on (begun_at t cs line place s (Some begins.Quote)) _ refl (begun_more ls c V t cs line place s begins.Quote (at_ink V cs line place.cursor k v) w h)
    by (Some (begins.Item i)) w = on (begun_at t cs line place s (Some (begins.Item i))) _ refl (begun_more ls c V t cs line place s (begins.Item i) (at_ink V cs line place.cursor k v) w h)
    by (Some (begins.Footnote d)) w = absurd w
    by (Some (begins.Definition d)) w = absurd w

-- what the rest of a line begins
at_stands : (y : Bool) (ls : List Line) (c : ℕ) (V : Cursor → Type 0) (t : List ℕ) (cs : List Cell) (line : Line) (place : LineStart) (s : State) → c ≤ 2 ^ 64 - 1 → Grounded (From line) cs line → Short cs line → Columns (From line) V cs line → V place.cursor → (is_blank_at cs place.cursor ≡ true → y ≡ false) → Stands ls c line.start s → Stands (more y line ls) (suc c) line.next (started_at_in core_known t cs line (tail_of cs) (s, place))
at_stands y ls c V t cs line place s r g f k v z h = subst (Stands (more y line ls) (suc c) line.next) (sym (core_begun t cs line (tail_of cs) s place))
    (started_stands y ls c V t cs line (tail_of cs) place s (core_at t cs line (tail_of cs) s place) r g k v
    (k.leaves (bytes_between t (start_of cs place line) line.end) (tail_of cs) place.cursor (is_paragraph s.leaf) (goes_directly place.depth s) v)
    (leaves_low y (From line) cs line g f (bytes_between t (start_of cs place line) line.end) (tail_of cs) place.cursor (is_paragraph s.leaf) (goes_directly place.depth s) z) h)

leaf_started_stands : (y : Bool) (ls : List Line) (c : ℕ) (V : Cursor → Type 0) (t : List ℕ) (cs : List Cell) (line : Line) (place : LineStart) (s : State) → c ≤ 2 ^ 64 - 1 → Grounded (From line) cs line → Short cs line → Columns (From line) V cs line → V place.cursor → (y ≡ true → Rich cs place.cursor) → Stands ls c line.start s → Stands (more y line ls) (suc c) line.next (leaf_started_in core_known t cs line place s)
unfolding leaf_started_in
leaf_started_stands y ls c V t cs line place s r g f k v z h = by (containers_opened_in CORE t cs line (tail_of cs) place s) (containers_more ls c V t cs line (tail_of cs) k (length cs) place s v h)
  where
    blank : (x : Bool) → y ≡ x → is_blank_at cs place.cursor ≡ true → y ≡ false
    blank true e q = absurd (true≢false (sym q ∙ rich_some cs place.cursor (z e)))
    blank false e q = e

    by : (x : State × LineStart) → Onward ls c V line place s x → Stands (more y line ls) (suc c) line.next (started_at_in core_known t cs line (tail_of cs) x)
    by x (inl e) = subst (λ (x : State × LineStart). Stands (more y line ls) (suc c) line.next (started_at_in core_known t cs line (tail_of cs) x)) (sym e) (at_stands y ls c V t cs line place s r g f k v (blank y refl) h)
    by (u, next) (inr w) = more_stands y line ls (suc c) line.next _ (at_stands false (line ∷ ls) c V t cs line next u r g f k (w.1) (λ e. refl) (w.0))

-- an open leaf
leaf_going_on : (ls : List Line) (c n : ℕ) (s : State) → is_worded s.leaf ≡ true → Stands ls c n s → (front : List Block) × (b : Block) × (b.start ≤ n) × Going ls c n s front b
leaf_going_on ls c n s w (shut e h) = absurd (true≢false (sym w ∙ ap is_worded e))
leaf_going_on ls c n s w (holding x front b m g) = (front, b, m, g)

-- no paragraph takes a line as code does
abbrev TakesCode : Leaf → Turn → Type 0
TakesCode k turn.Closes = Unit
TakesCode k (turn.Takes column) = is_paragraph k ≡ false
TakesCode k turn.Passes = Unit
TakesCode k (turn.Row t) = Unit

takes_code : (t : List ℕ) (cs : List Cell) (line : Line) (place : LineStart) (s : State) → TakesCode s.leaf (turn_of t cs line place s)
unfolding turn_of leaf_turn is_paragraph
takes_code t cs line place s = by (nat_le (length s.opened) place.depth) s.leaf
  where
    closes : (k : Leaf) (x : Bool) (n : ℕ) → is_paragraph k ≡ false → TakesCode k (if x then turn.Closes else turn.Takes n)
    closes k true n e = tt
    closes k false n e = e

    passes : (k : Leaf) (x : Bool) (n : ℕ) → is_paragraph k ≡ false → TakesCode k (if x then turn.Passes else turn.Takes n)
    passes k true n e = tt
    passes k false n e = e

    codes : (x y : Bool) (n m : ℕ) → TakesCode leaf.Indented (if x then turn.Takes n else (if y then turn.Takes m else turn.Passes))
    codes true y n m = refl
    codes false true n m = refl
    codes false false n m = tt

    row : (k : Leaf) (o : Option Table) → TakesCode k (option_map_or (λ longer. turn.Row longer) o turn.Passes)
    row k None = tt
    row k (Some x) = tt

    by : (x : Bool) (k : Leaf) → TakesCode k (if x then leaf_turn t cs line place.cursor k else turn.Passes)
    by false k = tt
    by true leaf.Nothing = tt
    by true leaf.Paragraph = tt
    by true leaf.Indented = codes (nat_le 4 (indent_of place.cursor)) (is_blank_at cs place.cursor) (plus place.cursor.column 4) place.cursor.ink
    by true (leaf.Fenced f) = closes (leaf.Fenced f) (closes_fence cs place.cursor f) (plus place.cursor.column (min f.indent (indent_of place.cursor))) refl
    by true (leaf.Html k) = passes (leaf.Html k) (is_blank_at cs place.cursor && not (goes_past_blank k)) place.cursor.column refl
    by true (leaf.Metadata k) = closes (leaf.Metadata k) (closes_metadata k t line.start) place.cursor.column refl
    by true (leaf.Table x) = row (leaf.Table x) (row_turn t cs line place.cursor x)

turned_stands : (y : Bool) (ls : List Line) (c : ℕ) (V : Cursor → Type 0) (t : List ℕ) (cs : List Cell) (line : Line) (place : LineStart) (s : State) (u : Turn) → c ≤ 2 ^ 64 - 1 → Grounded (From line) cs line → Short cs line → Columns (From line) V cs line → V place.cursor → (y ≡ true → Rich cs place.cursor) → (y ≡ true → Goes cs s.leaf u) → TakesCode s.leaf u → TurnsTo (From line) cs line s.leaf u → Stands ls c line.start s → Stands (more y line ls) (suc c) line.next (turn_taken_in core_known u t cs line place s)
unfolding passed_in leaf_ended
turned_stands y ls c V t cs line place s turn.Closes r g f k v z q n w h = by (leaf_going_on ls c line.start s w h)
  where
    ended_here : State
    ended_here = record s { end = line.end; line = line.number }

    by : (front : List Block) × (b : Block) × (b.start ≤ line.start) × Going ls c line.start s front b → Stands (more y line ls) (suc c) line.next (leaf_finished ended_here)
    by (front, b, m, q) = more_stands y line ls (suc c) line.next (leaf_finished ended_here) (later_stands (line ∷ ls) c (suc c) line.start line.next (leaf_finished ended_here) (omega arith) k.next
        (shut (finished_shut ended_here) (finish_more line ls c line.start ended_here front b (omega arith) (let e : line.start ≤ line.end = k.stops in omega arith) k.stops (ended_going ls c line s front b k.stops q))))
turned_stands y ls c V t cs line place s (turn.Takes column) r g f k v z q n w h = by (leaf_going_on ls c line.start s (w.0) h)
  where
    low : (b : Block) → b.start ≤ line.start → b.start ≤ (code_piece cs column line).start
    low b m = let e : line.start ≤ (code_piece cs column line).start = (w.1).begins in omega arith

    taken : (x : Bool) → (x ≡ true → Goes cs s.leaf (turn.Takes column)) → (front : List Block) × (b : Block) × (b.start ≤ line.start) × Going ls c line.start s front b → Stands (more x line ls) (suc c) line.next (code_taken t cs column line s)
    taken true a (front, b, m, q) = code_more ls c t cs column line s front b k.stops (code_in cs column line (w.1)) (w.0) n ((a refl).0) (low b m) (let e : line.start ≤ line.end = k.stops in omega arith) q
    taken false a (front, b, m, q) = code_stands ls c t cs column line s front b k.stops (code_in cs column line (w.1)) (w.0) (low b m) q

    by : (front : List Block) × (b : Block) × (b.start ≤ line.start) × Going ls c line.start s front b → Stands (more y line ls) (suc c) line.next (code_taken t cs column line s)
    by e = taken y q e
turned_stands y ls c V t cs line place s turn.Passes r g f k v z q n w h = leaf_started_stands y ls c V t cs line place s r g f k v z h
turned_stands y ls c V t cs line place s (turn.Row x) r g f k v z q n w h = absurd w

turns_to : (V : Cursor → Type 0) (t : List ℕ) (cs : List Cell) (line : Line) (place : LineStart) (s : State) → Columns (From line) V cs line → V place.cursor → is_core s.leaf ≡ true → TurnsTo (From line) cs line s.leaf (turn_of t cs line place s)
unfolding turn_of
turns_to V t cs line place s k v c = by (nat_le (length s.opened) place.depth)
  where
    by : (x : Bool) → TurnsTo (From line) cs line s.leaf (if x then leaf_turn t cs line place.cursor s.leaf else turn.Passes)
    by true = k.turns t place.cursor s.leaf v c
    by false = tt

found_touched : (l : Line) (bs : List Block) (depth e n : ℕ) (qs : List ℕ) (os : List Opened) (ps : List Piece) (kept : ℕ) → Found l bs os ps kept → Found l bs (touched_from depth e n qs os) ps kept
found_touched l bs depth e n qs os ps kept (Begun i b q m k) = Begun i b q m k
found_touched l bs depth e n qs os ps kept (Met i b q m k a) = Met i b q m k (apart_touched i depth e n qs os a)
found_touched l bs depth e n qs os ps kept (Kept i p q k a c d) = Kept i p q k a c d

touched_stands : (ls : List Line) (c n : ℕ) (line : Line) (depth : ℕ) (s : State) → Stands ls c n s → Stands ls c n (touched line depth s)
unfolding touched
touched_stands ls c n line depth s (shut e h) = shut e (h.0, bare_touched (bares s.blocks) depth line.end line.number s.quotes s.opened (h.1), h.2, h.3, all_weaker (λ (l : Line). (l.start ≤ n) × Found l s.blocks s.opened s.pieces (length s.pieces)) (λ (l : Line). (l.start ≤ n) × Found l s.blocks (touched_from depth line.end line.number s.quotes s.opened) s.pieces (length s.pieces)) ls (λ l w. (w.0, found_touched l s.blocks depth line.end line.number s.quotes s.opened s.pieces (length s.pieces) (w.1))) (h.4), h.5)
touched_stands ls c n line depth s (holding w front b m g) = holding w front b m (record {
  leafed = record {
    split = g.leafed.split;
    floor = g.leafed.floor;
    fits = g.leafed.fits;
    bare = bare_touched (bares front) depth line.end line.number s.quotes s.opened g.leafed.bare;
    climb = g.leafed.climb;
    count = g.leafed.count;
    low = g.leafed.low;
    room = g.leafed.room;
    first = g.leafed.first;
    lines = g.leafed.lines;
    mine = g.leafed.mine;
    covs = all_weaker (λ (l : Line). (l.start ≤ n) × OpenFound s.leaf l front s.opened s.pieces s.kept b.start s.end) (λ (l : Line). (l.start ≤ n) × OpenFound s.leaf l front (touched_from depth line.end line.number s.quotes s.opened) s.pieces s.kept b.start s.end) ls (λ l w. (w.0, found_on (w.1))) g.leafed.covs;
  };
  kept = g.kept;
  there = g.there;
  ends = g.ends;
})
  where
    found_on : {l : Line} → OpenFound s.leaf l front s.opened s.pieces s.kept b.start s.end → OpenFound s.leaf l front (touched_from depth line.end line.number s.quotes s.opened) s.pieces s.kept b.start s.end
    found_on {l = l} (Before f) = Before (found_touched l front depth line.end line.number s.quotes s.opened s.pieces s.kept f)
    found_on {l = l} (Here w m k) = Here w m k

-- a line leaves a page that stands
pub cells_stand : (y : Bool) (ls : List Line) (c : ℕ) (V : Cursor → Type 0) (t : List ℕ) (cs : List Cell) (line : Line) (s : State) → c ≤ 2 ^ 64 - 1 → is_core s.leaf ≡ true → Grounded (From line) cs line → Short cs line → Columns (From line) V cs line → (y ≡ true → inked cs ≡ true) → Stands ls c line.start s → Stands (more y line ls) (suc c) line.next (cells_taken_in core_known t cs line s)
unfolding cells_taken_in turn_in touched
cells_stand y ls c V t cs line s r e g f k z h = by (matched cs s.opened s.quotes) (k.front s.opened s.quotes) (λ q. matched_rich cs s.opened s.quotes 0 (first_cursor cs) s.opened (first_rich cs (z q)))
  where
    by : (found : ℕ × Cursor) → V (found.1) → (y ≡ true → Rich cs (found.1)) → Stands (more y line ls) (suc c) line.next (taken_at_in core_known t cs line (record { cursor = found.1; depth = found.0 }) (touched line (found.0) s))
    by (depth, cursor) v q = turned_stands y ls c V t cs line place u (turn_of t cs line place u) r g f k v q (λ w. turn_goes t cs line place u e (q w)) (takes_code t cs line place u) (turns_to V t cs line place u k v e) (touched_stands ls c line.start line depth s h)
      where
        place : LineStart
        place = record { cursor = cursor; depth = depth }

        u : State
        u = touched line depth s

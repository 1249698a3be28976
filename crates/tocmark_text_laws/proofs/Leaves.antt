-- How leaves begin and take lines where places are one further.
use Rattle.std.proofs.Common.{◌≡◌, ℕ, suc, ◌+◌, ◌-◌, ◌^◌, ◌<◌, Bool, true, false, if◌then◌else◌, nat_le, List, ◌∷◌, length, map, refl, ap, sym, ◌∙◌}
use Rattle.std.specs.Prelude.{slice_get, slice_set, Option, Some, None}
use Rattle.std.specs.Option.{option_map, option_map_or}
use Rattle.std.proofs.lemmas.List.{length-map}
use Rattle.std.proofs.lemmas.Option.{slice_get-map}
use Rattle.tocmark_event.specs.declared.event.HeadingLevel.{HeadingLevel}
use Rattle.tocmark_read_scan.specs.Basic.{plus, bytes_between}
use Rattle.tocmark_read_lines.specs.Cells.{cell_place, ink_from, trimmed}
use Rattle.tocmark_read_lines.specs.Html.{html_ends}
use Rattle.tocmark_read_lines.specs.declared.beginnings.Fence.{Fence}
use Rattle.tocmark_read_lines.specs.declared.beginnings.Heading.{Heading}
use Rattle.tocmark_read_lines.specs.declared.beginnings.Tail.{Tail}
use Rattle.tocmark_read_lines.specs.declared.cell.Cell.{Cell}
use Rattle.tocmark_read_lines.specs.declared.cell.Cursor.{Cursor}
use Rattle.tocmark_read_lines.specs.declared.html.HtmlKind.{HtmlKind}
use Rattle.tocmark_read_lines.specs.declared.line.Line.{Line}
use Rattle.tocmark_read_page.specs.Leaves.{is_paragraph}
use Rattle.tocmark_read_page.specs.Pages.{State, leaf_finished, closed_to, leaf_opened, piece_taken, of_kind}
use Rattle.tocmark_read_page.specs.Pieces.{code_piece, text_piece, heading_piece, keeps_line}
use Rattle.tocmark_read_page.specs.declared.leaf.Leaf.{Leaf}
use Rattle.tocmark_read_page.specs.declared.leaf.Leaf.TheVariants as leaf
use Rattle.tocmark_read_page.specs.declared.line_start.LineStart.{LineStart}
use Rattle.tocmark_read_page.specs.declared.page.Block.{Block}
use Rattle.tocmark_read_page.specs.declared.piece.Piece.{Piece}
use Rattle.tocmark_read_page.specs.declared.page.BlockKind.{BlockKind}
use Rattle.tocmark_read_page.specs.declared.page.BlockKind.TheVariants as kind
use Rattle.tocmark_read_constructs.specs.Headings.{heading_put, heading_started_in, underlined, underlined_in}
use Rattle.tocmark_read_blocks.specs.Blocks.{core_known}
use Rattle.tocmark_read_blocks.specs.Codes.{info_of, html_ended_as, html_ended, code_taken, indented_started, fence_started, html_started}
use Rattle.tocmark_read_blocks.specs.Leaves.{leaf_turn, underline_in, rule_at, mark_at, leaf_at}
use Rattle.tocmark_read_blocks.specs.Paragraphs.{text_started, in_paragraph, text_taken, rule_started}
use Rattle.tocmark_text_laws.specs.Further.{cell_on, line_on, piece_on, kind_on, block_on, page_on, tied_on}
use Rattle.tocmark_text_laws.proofs.Lists.{set_map}
use Rattle.tocmark_text_laws.proofs.LinesFurther.{between_on}
use Rattle.tocmark_text_laws.proofs.Cells.{same_length, same_ink, same_trimmed, place_on}
use Rattle.tocmark_text_laws.proofs.Marks.{same_heading, same_fence, same_closes, same_rule, same_underline}
use Rattle.tocmark_text_laws.proofs.Pieces.{Low, code_on, text_on, heading_piece_on, same_keeps}
use Rattle.tocmark_text_laws.proofs.Pages.{is_shut, Tied, leaf_finished_on, closed_to_on, leaf_opened_on, piece_taken_on}

info_on : (cs : List Cell) (cursor : Cursor) (f : Fence) (line : Line) → info_of (map cell_on cs) cursor f (line_on line) ≡ kind_on (info_of cs cursor f line)
unfolding info_of
info_on cs cursor f line =
    rw (same_ink cs (plus cursor.ink f.count), same_length cs, same_trimmed cs (ink_from cs (plus cursor.ink f.count)) (length cs) 32, place_on cs (ink_from cs (plus cursor.ink f.count)) line.end, place_on cs (trimmed cs (ink_from cs (plus cursor.ink f.count)) (length cs) 32) line.end) refl

html_ended_on : (rest : List ℕ) (s : State) → html_ended rest (tied_on s) ≡ tied_on (html_ended rest s)
unfolding html_ended
html_ended_on rest s = by s.leaf
  where
    ends : (b : Bool) → (if b then leaf_finished (tied_on s) else tied_on s) ≡ tied_on (if b then leaf_finished s else s)
    ends true = leaf_finished_on s
    ends false = refl

    by : (k : Leaf) → html_ended_as k rest (tied_on s) ≡ tied_on (html_ended_as k rest s)
    by leaf.Nothing = refl
    by leaf.Paragraph = refl
    by leaf.Indented = refl
    by (leaf.Fenced f) = refl
    by (leaf.Html k) = ends (html_ends k rest)
    by (leaf.Metadata k) = refl
    by (leaf.Table t) = refl

pub code_taken_on : (t : List ℕ) (c : ℕ) (cs : List Cell) (column : ℕ) (line : Line) (s : State) → Low cs line.end
    → code_taken (c ∷ t) (map cell_on cs) column (line_on line) (tied_on s) ≡ tied_on (code_taken t cs column line s)
unfolding code_taken
code_taken_on t c cs column line s low =
    rw (code_on cs column line low, between_on t c (code_piece cs column line).start (code_piece cs column line).end, same_keeps cs column s.leaf, piece_taken_on (code_piece cs column line) line (keeps_line cs column s.leaf) s)
    (html_ended_on (bytes_between t (code_piece cs column line).start (code_piece cs column line).end) (piece_taken (code_piece cs column line) line (keeps_line cs column s.leaf) s))

-- a leaf begins after what ends in the line
opened_on_closed : (t : List ℕ) (c depth : ℕ) (f : Leaf) (k : BlockKind) (start : ℕ) (line : Line) (e l : ℕ) (s : State) → Tied e l s → line.number + 1 < 2 ^ 64 - 1
    → leaf_opened f (kind_on k) (suc start) (line_on line) (closed_to (c ∷ t) depth (page_on e l s)) ≡ tied_on (leaf_opened f k start line (closed_to t depth s))
opened_on_closed t c depth f k start line e l s tied few =
    ap (leaf_opened f (kind_on k) (suc start) (line_on line)) (closed_to_on t c depth e l s tied) ∙ leaf_opened_on f k start line e l (closed_to t depth s) few

pub indented_on : (t : List ℕ) (c : ℕ) (cs : List Cell) (line : Line) (place : LineStart) (column e l : ℕ) (s : State) → Low cs line.end → line.number + 1 < 2 ^ 64 - 1 → Tied e l s
    → indented_started (c ∷ t) (map cell_on cs) (line_on line) place column (page_on e l s) ≡ tied_on (indented_started t cs line place column s)
unfolding indented_started
indented_on t c cs line place column e l s low few tied =
    ap (code_taken (c ∷ t) (map cell_on cs) column (line_on line)) (rw (place_on cs column line.end) (opened_on_closed t c place.depth leaf.Indented kind.Indented (cell_place cs column line.end) line e l s tied few))
    ∙ code_taken_on t c cs column line (leaf_opened leaf.Indented kind.Indented (cell_place cs column line.end) line (closed_to t place.depth s)) low

pub fence_on : (t : List ℕ) (c : ℕ) (cs : List Cell) (line : Line) (place : LineStart) (f : Fence) (e l : ℕ) (s : State) → line.number + 1 < 2 ^ 64 - 1 → Tied e l s
    → fence_started (c ∷ t) (map cell_on cs) (line_on line) place f (page_on e l s) ≡ tied_on (fence_started t cs line place f s)
unfolding fence_started
fence_on t c cs line place f e l s few tied = rw (info_on cs place.cursor f line, place_on cs place.cursor.ink line.end) (opened_on_closed t c place.depth (leaf.Fenced f) (info_of cs place.cursor f line) (cell_place cs place.cursor.ink line.end) line e l s tied few)

pub html_on : (t : List ℕ) (c : ℕ) (cs : List Cell) (line : Line) (place : LineStart) (k : HtmlKind) (e l : ℕ) (s : State) → Low cs line.end → line.number + 1 < 2 ^ 64 - 1 → Tied e l s
    → html_started (c ∷ t) (map cell_on cs) (line_on line) place k (page_on e l s) ≡ tied_on (html_started t cs line place k s)
unfolding html_started
html_on t c cs line place k e l s low few tied =
    ap (code_taken (c ∷ t) (map cell_on cs) place.cursor.column (line_on line)) (rw (place_on cs place.cursor.column line.end) (opened_on_closed t c place.depth (leaf.Html k) kind.Html (cell_place cs place.cursor.column line.end) line e l s tied few))
    ∙ code_taken_on t c cs place.cursor.column line (leaf_opened (leaf.Html k) kind.Html (cell_place cs place.cursor.column line.end) line (closed_to t place.depth s)) low

text_started_on : (start e l : ℕ) (s : State) → text_started (suc start) (page_on e l s) ≡ page_on e l (text_started start s)
unfolding text_started
text_started_on start e l s = rw (length-map s.blocks block_on, slice_get-map block_on s.blocks (length s.blocks - 1), length-map s.pieces piece_on) (by (slice_get s.blocks (length s.blocks - 1)))
  where
    inner : (b : Block) (k : Bool) → (if k then record (page_on e l s) { blocks = slice_set (map block_on s.blocks) (length s.blocks - 1) (record (block_on b) { start = suc start }) } else page_on e l s)
        ≡ page_on e l (if k then record s { blocks = slice_set s.blocks (length s.blocks - 1) (record b { start = start }) } else s)
    inner b true = rw (set_map block_on s.blocks (length s.blocks - 1) (record b { start = start })) refl
    inner b false = refl

    by : (o : Option Block) → option_map_or (λ (b : Block). if nat_le (length s.pieces) b.first then record (page_on e l s) { blocks = slice_set (map block_on s.blocks) (length s.blocks - 1) (record b { start = suc start }) } else page_on e l s) (option_map block_on o) (page_on e l s)
        ≡ page_on e l (option_map_or (λ (b : Block). if nat_le (length s.pieces) b.first then record s { blocks = slice_set s.blocks (length s.blocks - 1) (record b { start = start }) } else s) o s)
    by None = refl
    by (Some b) = inner b (nat_le (length s.pieces) b.first)

text_started_end : (start : ℕ) (s : State) → ((text_started start s).end ≡ s.end) × ((text_started start s).line ≡ s.line)
unfolding text_started
text_started_end start s = by (slice_get s.blocks (length s.blocks - 1))
  where
    same : State → Type 0
    same u = (u.end ≡ s.end) × (u.line ≡ s.line)

    inner : (b : Block) (k : Bool) → same (if k then record s { blocks = slice_set s.blocks (length s.blocks - 1) (record b { start = start }) } else s)
    inner b true = (refl, refl)
    inner b false = (refl, refl)

    by : (o : Option Block) → same (option_map_or (λ (b : Block). if nat_le (length s.pieces) b.first then record s { blocks = slice_set s.blocks (length s.blocks - 1) (record b { start = start }) } else s) o s)
    by None = (refl, refl)
    by (Some b) = inner b (nat_le (length s.pieces) b.first)

text_started_tied : (start : ℕ) (s : State) → text_started (suc start) (tied_on s) ≡ tied_on (text_started start s)
text_started_tied start s =
    text_started_on start (suc s.end) (suc s.line) s
    ∙ ap (λ n. page_on (suc n) (suc s.line) (text_started start s)) (sym ((text_started_end start s).0))
    ∙ ap (λ n. page_on (suc (text_started start s).end) (suc n) (text_started start s)) (sym ((text_started_end start s).1))

open_leaf : (k : Leaf) → is_paragraph k ≡ true → is_shut k ≡ false
unfolding is_paragraph is_shut
open_leaf leaf.Nothing h = cc
open_leaf leaf.Paragraph h = refl
open_leaf leaf.Indented h = refl
open_leaf (leaf.Fenced f) h = refl
open_leaf (leaf.Html k) h = refl
open_leaf (leaf.Metadata k) h = refl
open_leaf (leaf.Table t) h = refl

in_paragraph_on : (t : List ℕ) (c : ℕ) (cs : List Cell) (line : Line) (place : LineStart) (e l : ℕ) (s : State) → Low cs line.end → line.number + 1 < 2 ^ 64 - 1 → Tied e l s
    → in_paragraph (c ∷ t) (map cell_on cs) (line_on line) place (page_on e l s) ≡ tied_on (in_paragraph t cs line place s)
in_paragraph_on t c cs line place e l s low few tied = rw (text_on cs place.cursor line low) (by (is_paragraph s.leaf) refl)
  where
    at : ℕ
    at = (text_piece cs place.cursor line).start

    bound : (e ≡ suc s.end) × (l ≡ suc s.line) → page_on e l s ≡ tied_on s
    bound h = ap (λ n. page_on n l s) (h.0) ∙ ap (λ n. page_on (suc s.end) n s) (h.1)

    by : (b : Bool) → is_paragraph s.leaf ≡ b → (if b then page_on e l s else leaf_opened leaf.Paragraph kind.Paragraph (suc at) (line_on line) (closed_to (c ∷ t) place.depth (page_on e l s)))
        ≡ tied_on (if b then s else leaf_opened leaf.Paragraph kind.Paragraph at line (closed_to t place.depth s))
    by true h = bound (tied (open_leaf s.leaf h))
    by false h = opened_on_closed t c place.depth leaf.Paragraph kind.Paragraph at line e l s tied few

pub text_taken_on : (t : List ℕ) (c : ℕ) (cs : List Cell) (line : Line) (place : LineStart) (e l : ℕ) (s : State) → Low cs line.end → line.number + 1 < 2 ^ 64 - 1 → Tied e l s
    → text_taken (c ∷ t) (map cell_on cs) (line_on line) place (page_on e l s) ≡ tied_on (text_taken t cs line place s)
unfolding text_taken
text_taken_on t c cs line place e l s low few tied =
    ap (λ (p : Piece). piece_taken p (line_on line) true (text_started p.start (in_paragraph (c ∷ t) (map cell_on cs) (line_on line) place (page_on e l s)))) (text_on cs place.cursor line low)
    ∙ ap (λ u. piece_taken (piece_on words) (line_on line) true (text_started (suc words.start) u)) (in_paragraph_on t c cs line place e l s low few tied)
    ∙ ap (piece_taken (piece_on words) (line_on line) true) (text_started_tied words.start (in_paragraph t cs line place s))
    ∙ piece_taken_on words line true (text_started words.start (in_paragraph t cs line place s))
  where
    words : Piece
    words = text_piece cs place.cursor line

pub rule_on : (t : List ℕ) (c : ℕ) (cs : List Cell) (line : Line) (place : LineStart) (e l : ℕ) (s : State) → line.number + 1 < 2 ^ 64 - 1 → Tied e l s
    → rule_started (c ∷ t) (map cell_on cs) (line_on line) place (page_on e l s) ≡ tied_on (rule_started t cs line place s)
unfolding rule_started
rule_on t c cs line place e l s few tied =
    ap leaf_finished (rw (place_on cs place.cursor.ink line.end) (opened_on_closed t c place.depth leaf.Nothing kind.Rule (cell_place cs place.cursor.ink line.end) line e l s tied few))
    ∙ leaf_finished_on (leaf_opened leaf.Nothing kind.Rule (cell_place cs place.cursor.ink line.end) line (closed_to t place.depth s))

pub heading_on : (t : List ℕ) (c : ℕ) (cs : List Cell) (line : Line) (place : LineStart) (h : Heading) (e l : ℕ) (s : State) → line.number + 1 < 2 ^ 64 - 1 → Tied e l s
    → heading_started_in core_known (c ∷ t) (map cell_on cs) (line_on line) place h (page_on e l s) ≡ tied_on (heading_started_in core_known t cs line place h s)
unfolding heading_started_in heading_put
heading_on t c cs line place h e l s few tied =
    ap (λ u. leaf_finished (piece_taken (heading_piece (map cell_on cs) h (line_on line)) (line_on line) true u)) (rw (place_on cs place.cursor.ink line.end) (opened_on_closed t c place.depth leaf.Nothing (kind.Heading h.level None) (cell_place cs place.cursor.ink line.end) line e l s tied few))
    ∙ ap (λ p. leaf_finished (piece_taken p (line_on line) true (tied_on began))) (heading_piece_on cs h line)
    ∙ ap leaf_finished (piece_taken_on (heading_piece cs h line) line true began)
    ∙ leaf_finished_on (piece_taken (heading_piece cs h line) line true began)
  where
    began : State
    began = leaf_opened leaf.Nothing (kind.Heading h.level None) (cell_place cs place.cursor.ink line.end) line (closed_to t place.depth s)

of_kind_on : (k : BlockKind) (bs : List Block) → of_kind (kind_on k) (map block_on bs) ≡ map block_on (of_kind k bs)
of_kind_on k bs = rw (length-map bs block_on, slice_get-map block_on bs (length bs - 1)) (by (slice_get bs (length bs - 1)))
  where
    by : (o : Option Block) → option_map_or (λ (b : Block). slice_set (map block_on bs) (length bs - 1) (record b { kind = kind_on k })) (option_map block_on o) (map block_on bs) ≡ map block_on (option_map_or (λ (b : Block). slice_set bs (length bs - 1) (record b { kind = k })) o bs)
    by None = refl
    by (Some b) = set_map block_on bs (length bs - 1) (record b { kind = k })

pub underlined_on : (t : List ℕ) (c : ℕ) (level : HeadingLevel) (line : Line) (e l : ℕ) (s : State) → underlined_in core_known (c ∷ t) level (line_on line) (page_on e l s) ≡ tied_on (underlined_in core_known t level line s)
unfolding underlined_in underlined
underlined_on t c level line e l s =
    ap (λ bs. leaf_finished (record (page_on e l s) { blocks = bs; end = suc line.end; line = suc line.number })) (of_kind_on (kind.Heading level None) s.blocks)
    ∙ leaf_finished_on (record s { blocks = of_kind (kind.Heading level None) s.blocks; end = line.end; line = line.number })

same_underline_in : (cs : List Cell) (c : ℕ) (d : Bool) → underline_in (map cell_on cs) c d ≡ underline_in cs c d
unfolding underline_in
same_underline_in cs c d = rw (same_underline cs c) refl

pub same_rule_at : (cs : List Cell) (tail : Tail) (c : ℕ) → rule_at (map cell_on cs) tail c ≡ rule_at cs tail c
unfolding rule_at
same_rule_at cs tail c = rw (same_rule cs tail c) refl

same_mark : (cs : List Cell) (rest : List ℕ) (tail : Tail) (cursor : Cursor) (p d : Bool) → mark_at (map cell_on cs) rest tail cursor p d ≡ mark_at cs rest tail cursor p d
unfolding mark_at
same_mark cs rest tail cursor p d = rw (same_heading cs cursor.ink, same_fence cs cursor, same_underline_in cs cursor.ink d, same_rule_at cs tail cursor.ink) refl

pub same_leaf_at : (cs : List Cell) (rest : List ℕ) (tail : Tail) (cursor : Cursor) (p d : Bool) → leaf_at (map cell_on cs) rest tail cursor p d ≡ leaf_at cs rest tail cursor p d
unfolding leaf_at
same_leaf_at cs rest tail cursor p d = rw (same_length cs, same_mark cs rest tail cursor p d) refl

-- leaves that CommonMark has
unfoldable pub is_core : Leaf → Bool
is_core leaf.Nothing = true
is_core leaf.Paragraph = true
is_core leaf.Indented = true
is_core (leaf.Fenced f) = true
is_core (leaf.Html k) = true
is_core (leaf.Metadata k) = false
is_core (leaf.Table t) = false

pub same_turn : (t : List ℕ) (c : ℕ) (cs : List Cell) (line : Line) (cursor : Cursor) (k : Leaf) → is_core k ≡ true → leaf_turn (c ∷ t) (map cell_on cs) (line_on line) cursor k ≡ leaf_turn t cs line cursor k
unfolding leaf_turn is_core
same_turn t c cs line cursor leaf.Nothing h = refl
same_turn t c cs line cursor leaf.Paragraph h = refl
same_turn t c cs line cursor leaf.Indented h = rw (same_length cs) refl
same_turn t c cs line cursor (leaf.Fenced f) h = rw (same_closes cs cursor f) refl
same_turn t c cs line cursor (leaf.Html k) h = rw (same_length cs) refl
same_turn t c cs line cursor (leaf.Metadata k) h = absurd cc
same_turn t c cs line cursor (leaf.Table x) h = absurd cc

-- How leaves begin and take lines after a block quote marker.
use Rattle.std.proofs.Common.{◌≡◌, ℕ, suc, ◌+◌, ◌-◌, ◌<◌, ◌≤◌, Bool, true, false, not, ◌==◌, ◌&&◌, if◌then◌else◌, nat_lt, nat_le, List, length, refl, ap, sym, subst, ◌∙◌, arith}
use Rattle.std.specs.Prelude.{slice_get, slice_set, min, unwrap_or, Option, Some, None}
use Rattle.std.specs.Option.{option_map, option_map_or}
use Rattle.std.proofs.lemmas.Bool.Decides.{nat_tests}
use Rattle.tocmark_event.specs.declared.event.HeadingLevel.{HeadingLevel}
use Rattle.tocmark_read_scan.specs.Basic.{plus, bytes_between}
use Rattle.tocmark_read_lines.specs.Cells.{cell_byte, cell_place, ink_from, run_of, count_of, trimmed, indent_of}
use Rattle.tocmark_read_lines.specs.Html.{html_ends}
use Rattle.tocmark_read_lines.specs.Marks.{closes_fence, fence_at, heading_at, is_fence_byte, is_rule, tail_of, underline_at}
use Rattle.tocmark_read_lines.specs.declared.beginnings.Fence.{Fence}
use Rattle.tocmark_read_lines.specs.declared.beginnings.Heading.{Heading}
use Rattle.tocmark_read_lines.specs.declared.cell.Cell.{Cell}
use Rattle.tocmark_read_lines.specs.declared.cell.Cursor.{Cursor}
use Rattle.tocmark_read_lines.specs.declared.html.HtmlKind.{HtmlKind}
use Rattle.tocmark_read_lines.specs.declared.line.Line.{Line}
use Rattle.tocmark_read_page.specs.Leaves.{is_paragraph}
use Rattle.tocmark_read_page.specs.Pages.{State, leaf_finished, closed_to, leaf_opened, piece_taken, start_of, of_kind}
use Rattle.tocmark_read_page.specs.Pieces.{code_piece, text_piece, heading_piece, keeps_line}
use Rattle.tocmark_read_page.specs.declared.leaf.Leaf.{Leaf}
use Rattle.tocmark_read_page.specs.declared.leaf.Leaf.TheVariants as leaf
use Rattle.tocmark_read_page.specs.declared.line_start.LineStart.{LineStart}
use Rattle.tocmark_read_page.specs.declared.page.Block.{Block}
use Rattle.tocmark_read_page.specs.declared.page.BlockKind.{BlockKind}
use Rattle.tocmark_read_page.specs.declared.page.BlockKind.TheVariants as kind
use Rattle.tocmark_read_constructs.specs.Headings.{heading_put, heading_started_in, underlined, underlined_in}
use Rattle.tocmark_read_blocks.specs.Blocks.{core_known}
use Rattle.tocmark_read_blocks.specs.Codes.{info_of, html_ended_as, html_ended, code_taken, indented_started, fence_started, html_started}
use Rattle.tocmark_read_blocks.specs.Leaves.{goes_past_blank, leaf_turn, html_at, underline_in, rule_at, mark_at, leaf_at}
use Rattle.tocmark_read_blocks.specs.Paragraphs.{text_started, in_paragraph, text_taken, rule_started}
use Rattle.tocmark_read_blocks.specs.declared.leaf.LeafStart.{LeafStart}
use Rattle.tocmark_read_blocks.specs.declared.leaf.LeafStart.TheVariants as start
use Rattle.tocmark_read_blocks.specs.declared.leaf.Turn.{Turn}
use Rattle.tocmark_read_blocks.specs.declared.leaf.Turn.TheVariants as turn
use Rattle.tocmark_text_laws.specs.Quoted.{Fenced, Heading as HeadingSort, sort_of}
use Rattle.tocmark_text_laws.proofs.Pairs.{PairOf, After, set_length, changed_length, pairs_length, after_got, after_place, after_last, after_set}
use Rattle.tocmark_text_laws.proofs.QuotedCells.{Fronted, cursor_on, length_on, run_low, plus_shift, ink_two, le_shift, less_shift, trimmed_two}
use Rattle.tocmark_text_laws.proofs.QuotedMarks.{heading_on, heading_two, fence_two, closes_two, underline_two, rule_two}
use Rattle.tocmark_text_laws.proofs.QuotedContainers.{InLine, column_in}
use Rattle.tocmark_text_laws.proofs.QuotedPieces.{Beside, PieceOn, code_two, text_two, heading_piece_two, keeps_two}
use Rattle.tocmark_text_laws.proofs.QuotedPages.{Shape, BlockOn, IsFirst, Inside, Firm, firm, finished_firm, closed_two, leaf_opened_firm, piece_taken_firm}
use Rattle.tocmark_text_laws.proofs.Pages.{is_shut}
use Rattle.tocmark_text_laws.proofs.Leaves.{is_core}

-- a place in a line after the marker, and in one container more
abbrev pub place_on : ℕ → LineStart → LineStart
place_on shift p = record { cursor = cursor_on shift p.cursor; depth = suc p.depth }

pub info_two : (t q : List ℕ) (there here : Line) (shift : ℕ) (w r : List Cell) (c : Cursor) (f : Fence) → Beside t q there here shift w r → c.ink + f.count ≤ length r → sort_of q (info_of w (cursor_on shift c) f there) ≡ sort_of t (info_of r c f here)
unfolding info_of
info_two t q there here shift w r c f h low =
    rw (far, ink_two shift w r (plus c.ink f.count) h.fronted (omega (arith, low)), length_on shift w r h.fronted, trimmed_two shift w r from (length r) 32 h.fronted, h.placed from, h.placed to)
    (ap Fenced (h.line.window (cell_place r from here.end) (cell_place r to here.end) (h.begins from) (omega (arith, h.stops to, h.line.onto))))
  where
    from : ℕ
    from = ink_from r (plus c.ink f.count)

    to : ℕ
    to = trimmed r from (length r) 32

    far : plus (shift + c.ink) f.count ≡ shift + plus c.ink f.count
    far = plus_shift shift c.ink f.count (omega (arith, low, h.fronted.fits))

html_ended_firm : (t q : List ℕ) (n : ℕ) (rest : List ℕ) (there here : State) → Firm t q n there here → Firm t q n (html_ended rest there) (html_ended rest here)
unfolding html_ended
html_ended_firm t q n rest there here f = subst (λ k. Firm t q n (html_ended_as k rest there) (html_ended_as here.leaf rest here)) (sym f.inside.leaf) (by here.leaf)
  where
    ends : (b : Bool) → Firm t q n (if b then leaf_finished there else there) (if b then leaf_finished here else here)
    ends true = finished_firm t q n there here f
    ends false = f

    by : (k : Leaf) → Firm t q n (html_ended_as k rest there) (html_ended_as k rest here)
    by leaf.Nothing = f
    by leaf.Paragraph = f
    by leaf.Indented = f
    by (leaf.Fenced x) = f
    by (leaf.Html k) = ends (html_ends k rest)
    by (leaf.Metadata k) = f
    by (leaf.Table x) = f

pub code_taken_firm : (t q : List ℕ) (n : ℕ) (l' l : Line) (shift : ℕ) (w r : List Cell) (column : ℕ) (there here : State) → Beside t q l' l shift w r → column ≤ length r → Firm t q n there here
    → Firm t q n (code_taken q w (shift + column) l' there) (code_taken t r column l here)
unfolding code_taken
code_taken_firm t q n l' l shift w r column there here h low f =
    rw (words, keeps)
    (html_ended_firm t q n (bytes_between t (code_piece r column l).start (code_piece r column l).end) (piece_taken (code_piece w (shift + column) l') l' (keeps_line r column here.leaf) there) (piece_taken (code_piece r column l) l (keeps_line r column here.leaf) here)
    (piece_taken_firm t q n (code_piece w (shift + column) l') (code_piece r column l) l' l (keeps_line r column here.leaf) there here (code_two t q l' l shift w r column h) h.line.number f))
  where
    words : bytes_between q (code_piece w (shift + column) l').start (code_piece w (shift + column) l').end ≡ bytes_between t (code_piece r column l).start (code_piece r column l).end
    words = (code_two t q l' l shift w r column h).words

    keeps : keeps_line w (shift + column) there.leaf ≡ keeps_line r column here.leaf
    keeps = ap (keeps_line w (shift + column)) f.inside.leaf ∙ keeps_two shift w r column here.leaf h.fronted low

-- a leaf begins after what ends in the line
after_closed : (t q : List ℕ) (n depth : ℕ) (f : Leaf) (x y : BlockKind) (start far : ℕ) (l' l : Line) (there here : State) → is_core f ≡ true → sort_of q x ≡ sort_of t y → l'.number ≡ l.number → Inside t q n there here
    → Firm t q n (leaf_opened f x start l' (closed_to q (suc depth) there)) (leaf_opened f y far l (closed_to t depth here))
after_closed t q n depth f x y start far l' l there here core e number h = leaf_opened_firm t q n f x y start far l' l (closed_to q (suc depth) there) (closed_to t depth here) core e number (closed_two t q n depth there here h)

pub indented_firm : (t q : List ℕ) (n : ℕ) (l' l : Line) (shift : ℕ) (w r : List Cell) (p : LineStart) (column : ℕ) (there here : State) → Beside t q l' l shift w r → column ≤ length r → Inside t q n there here
    → Firm t q n (indented_started q w l' (place_on shift p) (shift + column) there) (indented_started t r l p column here)
unfolding indented_started is_core
indented_firm t q n l' l shift w r p column there here h low i =
    code_taken_firm t q n l' l shift w r column _ _ h low (after_closed t q n p.depth leaf.Indented kind.Indented kind.Indented (cell_place w (shift + column) l'.end) (cell_place r column l.end) l' l there here refl refl h.line.number i)

pub fence_firm : (t q : List ℕ) (n : ℕ) (l' l : Line) (shift : ℕ) (w r : List Cell) (p : LineStart) (f : Fence) (there here : State) → Beside t q l' l shift w r → p.cursor.ink + f.count ≤ length r → Inside t q n there here
    → Firm t q n (fence_started q w l' (place_on shift p) f there) (fence_started t r l p f here)
unfolding fence_started is_core
fence_firm t q n l' l shift w r p f there here h low i =
    after_closed t q n p.depth (leaf.Fenced f) (info_of w (cursor_on shift p.cursor) f l') (info_of r p.cursor f l) (start_of w (place_on shift p) l') (start_of r p l) l' l there here refl (info_two t q l' l shift w r p.cursor f h low) h.line.number i

pub html_firm : (t q : List ℕ) (n : ℕ) (l' l : Line) (shift : ℕ) (w r : List Cell) (p : LineStart) (k : HtmlKind) (there here : State) → Beside t q l' l shift w r → p.cursor.column ≤ length r → Inside t q n there here
    → Firm t q n (html_started q w l' (place_on shift p) k there) (html_started t r l p k here)
unfolding html_started is_core
html_firm t q n l' l shift w r p k there here h low i =
    code_taken_firm t q n l' l shift w r p.cursor.column _ _ h low (after_closed t q n p.depth (leaf.Html k) kind.Html kind.Html (cell_place w (shift + p.cursor.column) l'.end) (cell_place r p.cursor.column l.end) l' l there here refl refl h.line.number i)

text_started_firm : (t q : List ℕ) (n start far : ℕ) (there here : State) → Firm t q n there here → Firm t q n (text_started start there) (text_started far here)
unfolding text_started
text_started_firm t q n start far there here f = rw (place, pairs_length (PieceOn t q) there.pieces here.pieces h.pieces) (by (slice_get there.blocks (suc (length here.blocks - 1))) (slice_get here.blocks (length here.blocks - 1)) (after_got (IsFirst q) (BlockOn t q) (length here.blocks - 1) there.blocks here.blocks h.blocks))
  where
    h : Inside t q n there here
    h = f.inside

    place : length there.blocks - 1 ≡ suc (length here.blocks - 1)
    place = after_place (IsFirst q) (BlockOn t q) there.blocks here.blocks h.blocks f.some

    begins : (x y : Block) → BlockOn t q x y → (k : Bool) → Firm t q n (if k then record there { blocks = slice_set there.blocks (suc (length here.blocks - 1)) (record x { start = start }) } else there) (if k then record here { blocks = slice_set here.blocks (length here.blocks - 1) (record y { start = far }) } else here)
    begins x y u true = record {
      inside = record { opened = h.opened; blocks = after_set (IsFirst q) (BlockOn t q) (length here.blocks - 1) (record x { start = start }) (record y { start = far }) u there.blocks here.blocks h.blocks; pieces = h.pieces; definitions = h.definitions; quotes = h.quotes; counted = h.counted; leaf = h.leaf; core = h.core; kept = h.kept; tied = λ o. (f.line, some) };
      line = f.line;
      some = some;
    }
      where
        some : 0 < length (slice_set here.blocks (length here.blocks - 1) (record y { start = far }))
        some = omega (arith, f.some, set_length here.blocks (length here.blocks - 1) (record y { start = far }))
    begins x y u false = f

    by : (o p : Option Block) → PairOf (BlockOn t q) o p
        → Firm t q n (option_map_or (λ (b : Block). if nat_le (length here.pieces) b.first then record there { blocks = slice_set there.blocks (suc (length here.blocks - 1)) (record b { start = start }) } else there) o there)
        (option_map_or (λ (b : Block). if nat_le (length here.pieces) b.first then record here { blocks = slice_set here.blocks (length here.blocks - 1) (record b { start = far }) } else here) p here)
    by None None u = f
    by None (Some y) u = absurd u
    by (Some x) None u = absurd u
    by (Some x) (Some y) u = subst (λ k. Firm t q n (if k then record there { blocks = slice_set there.blocks (suc (length here.blocks - 1)) (record x { start = start }) } else there) (if nat_le (length here.pieces) y.first then record here { blocks = slice_set here.blocks (length here.blocks - 1) (record y { start = far }) } else here)) (sym (ap (λ (s : Shape). nat_le (length here.pieces) s.first) u)) (begins x y u (nat_le (length here.pieces) y.first))

pub paragraph_open : (k : Leaf) → is_paragraph k ≡ true → is_shut k ≡ false
unfolding is_paragraph is_shut
paragraph_open leaf.Nothing h = absurd cc
paragraph_open leaf.Paragraph h = refl
paragraph_open leaf.Indented h = refl
paragraph_open (leaf.Fenced f) h = refl
paragraph_open (leaf.Html k) h = refl
paragraph_open (leaf.Metadata k) h = refl
paragraph_open (leaf.Table t) h = refl

in_paragraph_firm : (t q : List ℕ) (n : ℕ) (l' l : Line) (shift : ℕ) (w r : List Cell) (p : LineStart) (there here : State) → Beside t q l' l shift w r → Inside t q n there here → Firm t q n (in_paragraph q w l' (place_on shift p) there) (in_paragraph t r l p here)
unfolding is_core
in_paragraph_firm t q n l' l shift w r p there here h i =
    subst (λ k. Firm t q n (if is_paragraph k then there else leaf_opened leaf.Paragraph kind.Paragraph (text_piece w (cursor_on shift p.cursor) l').start l' (closed_to q (suc p.depth) there)) (in_paragraph t r l p here)) (sym i.leaf) (by (is_paragraph here.leaf) refl)
  where
    by : (b : Bool) → is_paragraph here.leaf ≡ b
        → Firm t q n (if b then there else leaf_opened leaf.Paragraph kind.Paragraph (text_piece w (cursor_on shift p.cursor) l').start l' (closed_to q (suc p.depth) there)) (if b then here else leaf_opened leaf.Paragraph kind.Paragraph (text_piece r p.cursor l).start l (closed_to t p.depth here))
    by true e = firm t q n there here (paragraph_open here.leaf e) i
    by false e = after_closed t q n p.depth leaf.Paragraph kind.Paragraph kind.Paragraph (text_piece w (cursor_on shift p.cursor) l').start (text_piece r p.cursor l).start l' l there here refl refl h.line.number i

pub text_taken_firm : (t q : List ℕ) (n : ℕ) (l' l : Line) (shift : ℕ) (w r : List Cell) (p : LineStart) (there here : State) → Beside t q l' l shift w r → Inside t q n there here → Firm t q n (text_taken q w l' (place_on shift p) there) (text_taken t r l p here)
unfolding text_taken
text_taken_firm t q n l' l shift w r p there here h i =
    piece_taken_firm t q n (text_piece w (cursor_on shift p.cursor) l') (text_piece r p.cursor l) l' l true _ _ (text_two t q l' l shift w r p.cursor h) h.line.number
    (text_started_firm t q n (text_piece w (cursor_on shift p.cursor) l').start (text_piece r p.cursor l).start _ _ (in_paragraph_firm t q n l' l shift w r p there here h i))

pub rule_firm : (t q : List ℕ) (n : ℕ) (l' l : Line) (shift : ℕ) (w r : List Cell) (p : LineStart) (there here : State) → Beside t q l' l shift w r → Inside t q n there here → Firm t q n (rule_started q w l' (place_on shift p) there) (rule_started t r l p here)
unfolding rule_started is_core
rule_firm t q n l' l shift w r p there here h i =
    finished_firm t q n _ _ (after_closed t q n p.depth leaf.Nothing kind.Rule kind.Rule (start_of w (place_on shift p) l') (start_of r p l) l' l there here refl refl h.line.number i)

pub heading_firm : (t q : List ℕ) (n : ℕ) (l' l : Line) (shift : ℕ) (w r : List Cell) (p : LineStart) (x : Heading) (there here : State) → Beside t q l' l shift w r → Inside t q n there here
    → Firm t q n (heading_started_in core_known q w l' (place_on shift p) (heading_on shift x) there) (heading_started_in core_known t r l p x here)
unfolding heading_started_in heading_put is_core
heading_firm t q n l' l shift w r p x there here h i =
    finished_firm t q n _ _
    (piece_taken_firm t q n (heading_piece w (heading_on shift x) l') (heading_piece r x l) l' l true _ _ (heading_piece_two t q l' l shift w r x h) h.line.number
    (after_closed t q n p.depth leaf.Nothing (kind.Heading x.level None) (kind.Heading x.level None) (start_of w (place_on shift p) l') (start_of r p l) l' l there here refl refl h.line.number i))

pub underlined_firm : (t q : List ℕ) (n : ℕ) (level : HeadingLevel) (l' l : Line) (there here : State) → l'.number ≡ l.number → Firm t q n there here → Firm t q n (underlined_in core_known q level l' there) (underlined_in core_known t level l here)
unfolding underlined_in underlined
underlined_firm t q n level l' l there here number f = finished_firm t q n _ _ (record {
  inside = record { opened = h.opened; blocks = blocks; pieces = h.pieces; definitions = h.definitions; quotes = h.quotes; counted = h.counted; leaf = h.leaf; core = h.core; kept = h.kept; tied = λ o. (number, some) };
  line = number;
  some = some;
})
  where
    h : Inside t q n there here
    h = f.inside

    headed : Block → Block
    headed b = record b { kind = kind.Heading level None }

    blocks : After (IsFirst q) (BlockOn t q) (of_kind (kind.Heading level None) there.blocks) (of_kind (kind.Heading level None) here.blocks)
    blocks = after_last (IsFirst q) (BlockOn t q) headed headed (λ x y k. ap (λ (s : Shape). record s { sort = HeadingSort level }) k) there.blocks here.blocks h.blocks f.some

    some : 0 < length (of_kind (kind.Heading level None) here.blocks)
    some = omega (arith, f.some, changed_length (length here.blocks - 1) headed here.blocks)

-- what the rest of a line begins

abbrev pub leaf_on : ℕ → LeafStart → LeafStart
leaf_on shift start.Blank = start.Blank
leaf_on shift start.Text = start.Text
leaf_on shift (start.Indented column) = start.Indented (shift + column)
leaf_on shift (start.Heading h) = start.Heading (heading_on shift h)
leaf_on shift (start.Fence f) = start.Fence f
leaf_on shift (start.Html k) = start.Html k
leaf_on shift (start.Underline l) = start.Underline l
leaf_on shift start.Rule = start.Rule
leaf_on shift (start.Metadata k) = start.Metadata k
leaf_on shift (start.Task d) = start.Task d
leaf_on shift (start.QuoteKind k) = start.QuoteKind k

-- what is known of a leaf of CommonMark that begins at a cursor, directly in an open paragraph or not
abbrev pub FineLeaf : List Cell → Cursor → Bool → LeafStart → Type 0
FineLeaf r c d start.Blank = Unit
FineLeaf r c d start.Text = Unit
FineLeaf r c d (start.Indented column) = column ≤ length r
FineLeaf r c d (start.Heading h) = Unit
FineLeaf r c d (start.Fence f) = c.ink + f.count ≤ length r
FineLeaf r c d (start.Html k) = Unit
FineLeaf r c d (start.Underline l) = d ≡ true
FineLeaf r c d start.Rule = Unit
FineLeaf r c d (start.Metadata k) = ⊥
FineLeaf r c d (start.Task b) = ⊥
FineLeaf r c d (start.QuoteKind k) = ⊥

abbrev pub LeafOn : ℕ → List Cell → Cursor → Bool → LeafStart → LeafStart → Type 0
LeafOn shift r c d there here = (there ≡ leaf_on shift here) × FineLeaf r c d here

abbrev FenceShort : List Cell → Cursor → Option Fence → Type 0
FenceShort r c None = Unit
FenceShort r c (Some f) = c.ink + f.count ≤ length r

fence_short : (r : List Cell) (c : Cursor) → c.ink ≤ length r → FenceShort r c (fence_at r c)
unfolding fence_at
fence_short r c low = by (is_fence_byte (cell_byte r c.ink) && nat_le 3 (run_of r c.ink (cell_byte r c.ink)) && not ((cell_byte r c.ink == 96) && nat_lt 0 (count_of r (plus c.ink (run_of r c.ink (cell_byte r c.ink))) 96)))
  where
    by : (k : Bool) → FenceShort r c (if k then Some (record { byte = cell_byte r c.ink; count = run_of r c.ink (cell_byte r c.ink); indent = indent_of c }) else None)
    by true = run_low r c.ink (cell_byte r c.ink) low
    by false = tt

pub rule_at_two : (shift : ℕ) (w r : List Cell) (k : ℕ) → Fronted shift w r → rule_at w (tail_of w) (shift + k) ≡ rule_at r (tail_of r) k
unfolding rule_at
rule_at_two shift w r k h = rw (rule_two shift w r k h) refl

rule_fine : (shift : ℕ) (r : List Cell) (c : Cursor) (d : Bool) (k : ℕ) → LeafOn shift r c d (rule_at r (tail_of r) k) (rule_at r (tail_of r) k)
unfolding rule_at
rule_fine shift r c d k = by (is_rule r (tail_of r) k)
  where
    by : (b : Bool) → LeafOn shift r c d (if b then start.Rule else start.Text) (if b then start.Rule else start.Text)
    by true = (refl, tt)
    by false = (refl, tt)

mark_two : (shift : ℕ) (w r : List Cell) (rest : List ℕ) (c : Cursor) (p d : Bool) → Fronted shift w r → InLine r c → LeafOn shift r c d (mark_at w rest (tail_of w) (cursor_on shift c) p d) (mark_at r rest (tail_of r) c p d)
unfolding mark_at underline_in
mark_two shift w r rest c p d h i =
    rw (heading_two shift w r c.ink h i.ink, fence_two shift w r c h i.ink, underline_two shift w r c.ink h i.ink, rule_at_two shift w r c.ink h)
    (by (heading_at r c.ink) (fence_at r c) (fence_short r c i.ink) (html_at rest p) d refl (underline_at r c.ink))
  where
    by : (x : Option Heading) (f : Option Fence) → FenceShort r c f → (k : Option HtmlKind) (e : Bool) → d ≡ e → (u : Option HeadingLevel)
        → LeafOn shift r c d (unwrap_or (option_map (λ h. start.Heading h) (option_map (heading_on shift) x)) (unwrap_or (option_map (λ f. start.Fence f) f) (unwrap_or (option_map (λ k. start.Html k) k) (unwrap_or (option_map (λ l. start.Underline l) (if e then u else None)) (rule_at r (tail_of r) c.ink)))))
        (unwrap_or (option_map (λ h. start.Heading h) x) (unwrap_or (option_map (λ f. start.Fence f) f) (unwrap_or (option_map (λ k. start.Html k) k) (unwrap_or (option_map (λ l. start.Underline l) (if e then u else None)) (rule_at r (tail_of r) c.ink)))))
    by (Some x) f s k e g u = (refl, tt)
    by None (Some f) s k e g u = (refl, s)
    by None None s (Some k) e g u = (refl, tt)
    by None None s None true g (Some l) = (refl, g)
    by None None s None true g None = rule_fine shift r c d c.ink
    by None None s None false g u = rule_fine shift r c d c.ink

pub leaf_at_two : (shift : ℕ) (w r : List Cell) (rest : List ℕ) (c : Cursor) (p d : Bool) → Fronted shift w r → InLine r c → LeafOn shift r c d (leaf_at w rest (tail_of w) (cursor_on shift c) p d) (leaf_at r rest (tail_of r) c p d)
unfolding leaf_at
leaf_at_two shift w r rest c p d h i =
    rw (length_on shift w r h, le_shift shift (length r) c.ink, less_shift shift c.ink c.column) (by (nat_le (length r) c.ink) (nat_lt (c.ink - c.column) 4) refl p)
  where
    far : nat_lt (c.ink - c.column) 4 ≡ false → c.column + 4 ≤ length r
    far e = let z : 4 ≤ c.ink - c.column = grind (arith, e, nat_tests) in omega (arith, z, i.column, i.ink)

    by : (blank near : Bool) → nat_lt (c.ink - c.column) 4 ≡ near → (k : Bool)
        → LeafOn shift r c d (if blank then start.Blank else (if near then mark_at w rest (tail_of w) (cursor_on shift c) p d else (if k then start.Text else start.Indented (plus (shift + c.column) 4))))
        (if blank then start.Blank else (if near then mark_at r rest (tail_of r) c p d else (if k then start.Text else start.Indented (plus c.column 4))))
    by true near e k = (refl, tt)
    by false true e k = mark_two shift w r rest c p d h i
    by false false e true = (refl, tt)
    by false false e false = (ap (λ n. start.Indented n) (plus_shift shift c.column 4 (omega (arith, far e, h.fits))), omega (arith, far e))

-- what the open leaf does with a line

abbrev pub turn_on : ℕ → Turn → Turn
turn_on shift turn.Closes = turn.Closes
turn_on shift (turn.Takes column) = turn.Takes (shift + column)
turn_on shift turn.Passes = turn.Passes
turn_on shift (turn.Row x) = turn.Row x

-- an open leaf ends with a line, or takes it from one of its columns on
abbrev pub FineTurn : List Cell → Leaf → Turn → Type 0
FineTurn r k turn.Closes = is_shut k ≡ false
FineTurn r k (turn.Takes column) = (column ≤ length r) × (is_shut k ≡ false)
FineTurn r k turn.Passes = Unit
FineTurn r k (turn.Row x) = ⊥

abbrev pub TurnOn : ℕ → List Cell → Leaf → Turn → Turn → Type 0
TurnOn shift r k there here = (there ≡ turn_on shift here) × FineTurn r k here

pub leaf_turn_two : (t q : List ℕ) (l' l : Line) (shift : ℕ) (w r : List Cell) (c : Cursor) (k : Leaf) → is_core k ≡ true → Fronted shift w r → InLine r c → TurnOn shift r k (leaf_turn q w l' (cursor_on shift c) k) (leaf_turn t r l c k)
unfolding leaf_turn is_core is_shut
leaf_turn_two t q l' l shift w r c leaf.Nothing e h i = (refl, tt)
leaf_turn_two t q l' l shift w r c leaf.Paragraph e h i = (refl, tt)
leaf_turn_two t q l' l shift w r c leaf.Indented e h i = rw (length_on shift w r h, le_shift shift (length r) c.ink, less_shift shift c.ink c.column) (by (nat_le 4 (c.ink - c.column)) refl (nat_le (length r) c.ink))
  where
    far : nat_le 4 (c.ink - c.column) ≡ true → c.column + 4 ≤ length r
    far e = let z : 4 ≤ c.ink - c.column = grind (arith, e, nat_tests) in omega (arith, z, i.column, i.ink)

    by : (k : Bool) → nat_le 4 (c.ink - c.column) ≡ k → (blank : Bool)
        → TurnOn shift r leaf.Indented (if k then turn.Takes (plus (shift + c.column) 4) else (if blank then turn.Takes (shift + c.ink) else turn.Passes)) (if k then turn.Takes (plus c.column 4) else (if blank then turn.Takes c.ink else turn.Passes))
    by true g blank = (ap (λ n. turn.Takes n) (plus_shift shift c.column 4 (omega (arith, far g, h.fits))), (omega (arith, far g), refl))
    by false g true = (refl, (i.ink, refl))
    by false g false = (refl, tt)
leaf_turn_two t q l' l shift w r c (leaf.Fenced f) e h i = rw (closes_two shift w r c f h i.ink, less_shift shift c.ink c.column) (by (closes_fence r c f))
  where
    low : c.column + min f.indent (c.ink - c.column) ≤ length r
    low = omega (arith, i.column, i.ink)

    by : (k : Bool) → TurnOn shift r (leaf.Fenced f) (if k then turn.Closes else turn.Takes (plus (shift + c.column) (min f.indent (c.ink - c.column)))) (if k then turn.Closes else turn.Takes (plus c.column (min f.indent (c.ink - c.column))))
    by true = (refl, refl)
    by false = (ap (λ n. turn.Takes n) (plus_shift shift c.column (min f.indent (c.ink - c.column)) (omega (arith, low, h.fits))), (omega (arith, low), refl))
leaf_turn_two t q l' l shift w r c (leaf.Html k) e h i = rw (length_on shift w r h, le_shift shift (length r) c.ink) (by (nat_le (length r) c.ink && not (goes_past_blank k)))
  where
    by : (b : Bool) → TurnOn shift r (leaf.Html k) (if b then turn.Passes else turn.Takes (shift + c.column)) (if b then turn.Passes else turn.Takes c.column)
    by true = (refl, tt)
    by false = (refl, (column_in r c i, refl))
leaf_turn_two t q l' l shift w r c (leaf.Metadata k) e h i = absurd cc
leaf_turn_two t q l' l shift w r c (leaf.Table x) e h i = absurd cc

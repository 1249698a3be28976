-- How leaves begin and take lines in two texts, where one has some blocks in front.
use Rattle.std.proofs.Common.{◌≡◌, ℕ, suc, ◌+◌, ◌-◌, ◌^◌, ◌<◌, Bool, true, false, not, ◌&&◌, if◌then◌else◌, nat_lt, nat_le, List, length, refl, ap, sym, subst, ◌∙◌, arith}
use Rattle.std.specs.Prelude.{slice_get, slice_set, min, unwrap_or, Option, Some, None}
use Rattle.std.specs.Option.{option_map, option_map_or}
use Rattle.tocmark_event.specs.declared.event.HeadingLevel.{HeadingLevel}
use Rattle.tocmark_read_scan.specs.Basic.{plus, bytes_between}
use Rattle.tocmark_read_lines.specs.Cells.{cell_place, ink_from, trimmed, indent_of, is_blank_at}
use Rattle.tocmark_read_lines.specs.Html.{html_ends}
use Rattle.tocmark_read_lines.specs.Marks.{closes_fence, fence_at, heading_at, is_rule, underline_at}
use Rattle.tocmark_read_lines.specs.declared.beginnings.Fence.{Fence}
use Rattle.tocmark_read_lines.specs.declared.beginnings.Heading.{Heading}
use Rattle.tocmark_read_lines.specs.declared.beginnings.Tail.{Tail}
use Rattle.tocmark_read_lines.specs.declared.cell.Cell.{Cell}
use Rattle.tocmark_read_lines.specs.declared.cell.Cursor.{Cursor}
use Rattle.tocmark_read_lines.specs.declared.html.HtmlKind.{HtmlKind}
use Rattle.tocmark_read_lines.specs.declared.line.Line.{Line}
use Rattle.tocmark_read_page.specs.Leaves.{is_paragraph}
use Rattle.tocmark_read_page.specs.Pages.{State, leaf_finished, closed_to, leaf_opened, piece_taken, start_of, of_kind}
use Rattle.tocmark_read_page.specs.Pieces.{code_piece, whole_place, text_piece, heading_piece, keeps_line}
use Rattle.tocmark_read_page.specs.declared.leaf.Leaf.{Leaf}
use Rattle.tocmark_read_page.specs.declared.leaf.Leaf.TheVariants as leaf
use Rattle.tocmark_read_page.specs.declared.line_start.LineStart.{LineStart}
use Rattle.tocmark_read_page.specs.declared.page.Block.{Block}
use Rattle.tocmark_read_page.specs.declared.page.BlockKind.{BlockKind}
use Rattle.tocmark_read_page.specs.declared.page.BlockKind.TheVariants as kind
use Rattle.tocmark_read_page.specs.declared.piece.Piece.{Piece}
use Rattle.tocmark_read_constructs.specs.Headings.{heading_put, heading_started_in, underlined, underlined_in}
use Rattle.tocmark_read_blocks.specs.Blocks.{core_known}
use Rattle.tocmark_read_blocks.specs.Codes.{info_of, html_ended_as, html_ended, code_taken, indented_started, fence_started, html_started}
use Rattle.tocmark_read_blocks.specs.Leaves.{goes_past_blank, leaf_turn, html_at, underline_in, rule_at, mark_at, leaf_at}
use Rattle.tocmark_read_blocks.specs.Paragraphs.{text_started, in_paragraph, text_taken, rule_started}
use Rattle.tocmark_read_blocks.specs.declared.leaf.LeafStart.{LeafStart}
use Rattle.tocmark_read_blocks.specs.declared.leaf.LeafStart.TheVariants as start
use Rattle.tocmark_read_blocks.specs.declared.leaf.Turn.{Turn}
use Rattle.tocmark_read_blocks.specs.declared.leaf.Turn.TheVariants as turn
use Rattle.tocmark_text_laws.specs.Quoted.{Fenced, Heading as HeadingSort, sort_of}
use Rattle.tocmark_text_laws.proofs.Alls.{all_set, all_got, all_changed}
use Rattle.tocmark_text_laws.proofs.Pairs.{PairOf, set_length, changed_length}
use Rattle.tocmark_text_laws.proofs.Fronts.{past, past_length}
use Rattle.tocmark_text_laws.proofs.Beyond.{beyond, Beyond, beyond_place, beyond_got, beyond_set, beyond_last}
use Rattle.tocmark_text_laws.proofs.QuotedPages.{Shape}
use Rattle.tocmark_text_laws.proofs.QuotedLeaves.{paragraph_open}
use Rattle.tocmark_text_laws.proofs.SequencePieces.{PieceOn, LineOn, code_on, text_on, heading_on}
use Rattle.tocmark_text_laws.proofs.SequencePages.{Earlier, numbered, BlockOn, Within, Onward, Firm, firm, onward_more, finished_firm, closed_on, leaf_opened_on, piece_taken_on, le_past}
use Rattle.tocmark_text_laws.proofs.Pages.{is_shut}
use Rattle.tocmark_text_laws.proofs.Leaves.{is_core}

-- a line of both texts, its number in the other one, and room for one piece more
pub record Shared (t q : List ℕ) (f : Earlier) (n m : ℕ) (l : Line) (cs : List Cell) : Type 0 where
  pub line : LineOn t q l cs
  pub later : m + f.lines ≡ l.number
  pub room : length f.pieces + suc n + 1 < 2 ^ 64 - 1

-- pages on which a leaf may be open, or is, with one piece more
pub wider : (t q : List ℕ) (f : Earlier) (n m : ℕ) (l : Line) (cs : List Cell) (there here : State) → Shared t q f n m l cs → Onward t q f n there here → Onward t q f (suc n) there here
wider t q f n m l cs there here h i = onward_more t q f n (suc n) there here (omega arith) h.room i

same_code : (m : ℕ) (l : Line) (cs : List Cell) (c : ℕ) → code_piece cs c (numbered m l) ≡ code_piece cs c l
unfolding code_piece
same_code m l cs c = refl

same_text : (m : ℕ) (l : Line) (cs : List Cell) (c : Cursor) → text_piece cs c (numbered m l) ≡ text_piece cs c l
unfolding text_piece whole_place
same_text m l cs c = refl

same_heading : (m : ℕ) (l : Line) (cs : List Cell) (x : Heading) → heading_piece cs x (numbered m l) ≡ heading_piece cs x l
unfolding heading_piece
same_heading m l cs x = refl

info_on : (t q : List ℕ) (m : ℕ) (l : Line) (cs : List Cell) (c : Cursor) (x : Fence) → LineOn t q l cs → sort_of q (info_of cs c x (numbered m l)) ≡ sort_of t (info_of cs c x l)
unfolding info_of
info_on t q m l cs c x h = ap Fenced (h.window (cell_place cs from l.end) (cell_place cs to l.end) (h.begins from) (omega (arith, h.stops to, h.onto)))
  where
    from : ℕ
    from = ink_from cs (plus c.ink x.count)

    to : ℕ
    to = trimmed cs from (length cs) 32

html_ended_firm : (t q : List ℕ) (f : Earlier) (n : ℕ) (rest : List ℕ) (there here : State) → Firm t q f n there here → Firm t q f n (html_ended rest there) (html_ended rest here)
unfolding html_ended
html_ended_firm t q f n rest there here g = subst (λ k. Firm t q f n (html_ended_as k rest there) (html_ended_as here.leaf rest here)) (sym g.onward.leaf) (by here.leaf)
  where
    ends : (b : Bool) → Firm t q f n (if b then leaf_finished there else there) (if b then leaf_finished here else here)
    ends true = finished_firm t q f n there here g
    ends false = g

    by : (k : Leaf) → Firm t q f n (html_ended_as k rest there) (html_ended_as k rest here)
    by leaf.Nothing = g
    by leaf.Paragraph = g
    by leaf.Indented = g
    by (leaf.Fenced x) = g
    by (leaf.Html k) = ends (html_ends k rest)
    by (leaf.Metadata k) = g
    by (leaf.Table x) = g

pub code_taken_firm : (t q : List ℕ) (f : Earlier) (n m : ℕ) (l : Line) (cs : List Cell) (column : ℕ) (there here : State) → Shared t q f n m l cs → Firm t q f n there here
    → Firm t q f (suc n) (code_taken q cs column (numbered m l) there) (code_taken t cs column l here)
unfolding code_taken
code_taken_firm t q f n m l cs column there here h g =
    rw (same_code m l cs column, p.words, ap (keeps_line cs column) g.onward.leaf)
    (html_ended_firm t q f (suc n) (bytes_between t (code_piece cs column l).start (code_piece cs column l).end) _ _
    (piece_taken_on t q f n m (code_piece cs column l) l (keeps_line cs column here.leaf) there here p h.later h.room g))
  where
    p : PieceOn t q (code_piece cs column l) (code_piece cs column l)
    p = code_on t q l cs column h.line

-- a leaf begins after what ends in the line
after_closed : (t q : List ℕ) (f : Earlier) (n m depth : ℕ) (k : Leaf) (x y : BlockKind) (start far : ℕ) (l : Line) (cs : List Cell) (there here : State) → Shared t q f n m l cs → is_core k ≡ true → sort_of q x ≡ sort_of t y → Onward t q f n there here
    → Firm t q f n (leaf_opened k x start (numbered m l) (closed_to q depth there)) (leaf_opened k y far l (closed_to t depth here))
after_closed t q f n m depth k x y start far l cs there here h core e i = leaf_opened_on t q f n k x y start far m l (closed_to q depth there) (closed_to t depth here) core e h.later h.line.few (closed_on t q f n depth there here i)

pub indented_firm : (t q : List ℕ) (f : Earlier) (n m : ℕ) (l : Line) (cs : List Cell) (p : LineStart) (column : ℕ) (there here : State) → Shared t q f n m l cs → Onward t q f n there here
    → Firm t q f (suc n) (indented_started q cs (numbered m l) p column there) (indented_started t cs l p column here)
unfolding indented_started is_core
indented_firm t q f n m l cs p column there here h i =
    code_taken_firm t q f n m l cs column _ _ h (after_closed t q f n m p.depth leaf.Indented kind.Indented kind.Indented (cell_place cs column l.end) (cell_place cs column l.end) l cs there here h refl refl i)

pub fence_firm : (t q : List ℕ) (f : Earlier) (n m : ℕ) (l : Line) (cs : List Cell) (p : LineStart) (x : Fence) (there here : State) → Shared t q f n m l cs → Onward t q f n there here
    → Firm t q f n (fence_started q cs (numbered m l) p x there) (fence_started t cs l p x here)
unfolding fence_started is_core
fence_firm t q f n m l cs p x there here h i =
    after_closed t q f n m p.depth (leaf.Fenced x) (info_of cs p.cursor x (numbered m l)) (info_of cs p.cursor x l) (start_of cs p l) (start_of cs p l) l cs there here h refl (info_on t q m l cs p.cursor x h.line) i

pub html_firm : (t q : List ℕ) (f : Earlier) (n m : ℕ) (l : Line) (cs : List Cell) (p : LineStart) (k : HtmlKind) (there here : State) → Shared t q f n m l cs → Onward t q f n there here
    → Firm t q f (suc n) (html_started q cs (numbered m l) p k there) (html_started t cs l p k here)
unfolding html_started is_core
html_firm t q f n m l cs p k there here h i =
    code_taken_firm t q f n m l cs p.cursor.column _ _ h (after_closed t q f n m p.depth (leaf.Html k) kind.Html kind.Html (cell_place cs p.cursor.column l.end) (cell_place cs p.cursor.column l.end) l cs there here h refl refl i)

text_started_firm : (t q : List ℕ) (f : Earlier) (n start far : ℕ) (there here : State) → Firm t q f n there here → Firm t q f n (text_started start there) (text_started far here)
unfolding text_started
text_started_firm t q f n start far there here g = rw (place, past_length f.pieces (PieceOn t q) there.pieces here.pieces h.pieces) (by (slice_get there.blocks (beyond f.blocks (length here.blocks - 1))) (slice_get here.blocks (length here.blocks - 1)) refl (beyond_got f.blocks (BlockOn t q f n) there.blocks here.blocks h.blocks))
  where
    h : Onward t q f n there here
    h = g.onward

    place : length there.blocks - 1 ≡ beyond f.blocks (length here.blocks - 1)
    place = beyond_place f.blocks (BlockOn t q f n) there.blocks here.blocks h.blocks g.some

    begins : (x y : Block) → slice_get here.blocks (length here.blocks - 1) ≡ Some y → BlockOn t q f n x y → (k : Bool) → Firm t q f n (if k then record there { blocks = slice_set there.blocks (beyond f.blocks (length here.blocks - 1)) (record x { start = start }) } else there) (if k then record here { blocks = slice_set here.blocks (length here.blocks - 1) (record y { start = far }) } else here)
    begins x y e u true = record {
      onward = record { opened = h.opened; inner = h.inner; blocks = beyond_set f.blocks (BlockOn t q f n) (record x { start = start }) (record y { start = far }) (record { shape = u.shape; low = u.low }) there.blocks here.blocks h.blocks; pieces = h.pieces; definitions = h.definitions; quotes = h.quotes; leaf = h.leaf; core = h.core; few = h.few; room = h.room; lasts = all_set (Within here.kept (length here.pieces)) here.blocks (length here.blocks - 1) (record y { start = far }) h.lasts (all_got (Within here.kept (length here.pieces)) here.blocks (length here.blocks - 1) y h.lasts e); tied = λ o. (g.line, some, g.kept) };
      line = g.line;
      some = some;
      kept = g.kept;
    }
      where
        some : 0 < length (slice_set here.blocks (length here.blocks - 1) (record y { start = far }))
        some = omega (arith, g.some, set_length here.blocks (length here.blocks - 1) (record y { start = far }))
    begins x y e u false = g

    test : (x y : Block) → BlockOn t q f n x y → nat_le (past f.pieces (length here.pieces)) x.first ≡ nat_le (length here.pieces) y.first
    test x y u = ap (λ (s : Shape). nat_le (past f.pieces (length here.pieces)) s.first) u.shape ∙ le_past f.pieces (length here.pieces) y.first

    by : (o p : Option Block) → slice_get here.blocks (length here.blocks - 1) ≡ p → PairOf (BlockOn t q f n) o p
        → Firm t q f n (option_map_or (λ (b : Block). if nat_le (past f.pieces (length here.pieces)) b.first then record there { blocks = slice_set there.blocks (beyond f.blocks (length here.blocks - 1)) (record b { start = start }) } else there) o there)
        (option_map_or (λ (b : Block). if nat_le (length here.pieces) b.first then record here { blocks = slice_set here.blocks (length here.blocks - 1) (record b { start = far }) } else here) p here)
    by None None e u = g
    by None (Some y) e u = absurd u
    by (Some x) None e u = absurd u
    by (Some x) (Some y) e u = subst (λ k. Firm t q f n (if k then record there { blocks = slice_set there.blocks (beyond f.blocks (length here.blocks - 1)) (record x { start = start }) } else there) (if nat_le (length here.pieces) y.first then record here { blocks = slice_set here.blocks (length here.blocks - 1) (record y { start = far }) } else here)) (sym (test x y u)) (begins x y e u (nat_le (length here.pieces) y.first))

in_paragraph_firm : (t q : List ℕ) (f : Earlier) (n m : ℕ) (l : Line) (cs : List Cell) (p : LineStart) (there here : State) → Shared t q f n m l cs → Onward t q f n there here → Firm t q f n (in_paragraph q cs (numbered m l) p there) (in_paragraph t cs l p here)
unfolding is_core
in_paragraph_firm t q f n m l cs p there here h i =
    subst (λ k. Firm t q f n (if is_paragraph k then there else leaf_opened leaf.Paragraph kind.Paragraph (text_piece cs p.cursor (numbered m l)).start (numbered m l) (closed_to q p.depth there)) (in_paragraph t cs l p here)) (sym i.leaf) (by (is_paragraph here.leaf) refl)
  where
    by : (b : Bool) → is_paragraph here.leaf ≡ b
        → Firm t q f n (if b then there else leaf_opened leaf.Paragraph kind.Paragraph (text_piece cs p.cursor (numbered m l)).start (numbered m l) (closed_to q p.depth there)) (if b then here else leaf_opened leaf.Paragraph kind.Paragraph (text_piece cs p.cursor l).start l (closed_to t p.depth here))
    by true e = firm t q f n there here (paragraph_open here.leaf e) i
    by false e = after_closed t q f n m p.depth leaf.Paragraph kind.Paragraph kind.Paragraph (text_piece cs p.cursor (numbered m l)).start (text_piece cs p.cursor l).start l cs there here h refl refl i

pub text_taken_firm : (t q : List ℕ) (f : Earlier) (n m : ℕ) (l : Line) (cs : List Cell) (p : LineStart) (there here : State) → Shared t q f n m l cs → Onward t q f n there here → Firm t q f (suc n) (text_taken q cs (numbered m l) p there) (text_taken t cs l p here)
unfolding text_taken
text_taken_firm t q f n m l cs p there here h i =
    subst (λ x. Firm t q f (suc n) (piece_taken x (numbered m l) true (text_started x.start (in_paragraph q cs (numbered m l) p there))) (piece_taken words l true (text_started words.start (in_paragraph t cs l p here)))) (sym (same_text m l cs p.cursor))
    (piece_taken_on t q f n m words l true _ _ (text_on t q l cs p.cursor h.line) h.later h.room
    (text_started_firm t q f n words.start words.start _ _ (in_paragraph_firm t q f n m l cs p there here h i)))
  where
    words : Piece
    words = text_piece cs p.cursor l

pub rule_firm : (t q : List ℕ) (f : Earlier) (n m : ℕ) (l : Line) (cs : List Cell) (p : LineStart) (there here : State) → Shared t q f n m l cs → Onward t q f n there here → Firm t q f n (rule_started q cs (numbered m l) p there) (rule_started t cs l p here)
unfolding rule_started is_core
rule_firm t q f n m l cs p there here h i =
    finished_firm t q f n _ _ (after_closed t q f n m p.depth leaf.Nothing kind.Rule kind.Rule (start_of cs p l) (start_of cs p l) l cs there here h refl refl i)

pub heading_firm : (t q : List ℕ) (f : Earlier) (n m : ℕ) (l : Line) (cs : List Cell) (p : LineStart) (x : Heading) (there here : State) → Shared t q f n m l cs → Onward t q f n there here
    → Firm t q f (suc n) (heading_started_in core_known q cs (numbered m l) p x there) (heading_started_in core_known t cs l p x here)
unfolding heading_started_in heading_put is_core
heading_firm t q f n m l cs p x there here h i =
    subst (λ z. Firm t q f (suc n) (leaf_finished (piece_taken z (numbered m l) true (leaf_opened leaf.Nothing (kind.Heading x.level None) (start_of cs p l) (numbered m l) (closed_to q p.depth there)))) (leaf_finished (piece_taken (heading_piece cs x l) l true (leaf_opened leaf.Nothing (kind.Heading x.level None) (start_of cs p l) l (closed_to t p.depth here))))) (sym (same_heading m l cs x))
    (finished_firm t q f (suc n) _ _
    (piece_taken_on t q f n m (heading_piece cs x l) l true _ _ (heading_on t q l cs x h.line) h.later h.room
    (after_closed t q f n m p.depth leaf.Nothing (kind.Heading x.level None) (kind.Heading x.level None) (start_of cs p l) (start_of cs p l) l cs there here h refl refl i)))

pub underlined_firm : (t q : List ℕ) (f : Earlier) (n m : ℕ) (level : HeadingLevel) (l : Line) (there here : State) → m + f.lines ≡ l.number → Firm t q f n there here → Firm t q f n (underlined_in core_known q level (numbered m l) there) (underlined_in core_known t level l here)
unfolding underlined_in underlined
underlined_firm t q f n m level l there here later g = finished_firm t q f n _ _ (record {
  onward = record { opened = h.opened; inner = h.inner; blocks = blocks; pieces = h.pieces; definitions = h.definitions; quotes = h.quotes; leaf = h.leaf; core = h.core; few = h.few; room = h.room; lasts = all_changed (Within here.kept (length here.pieces)) here.blocks (length here.blocks - 1) headed (λ y e w. w) h.lasts; tied = λ o. (later, some, g.kept) };
  line = later;
  some = some;
  kept = g.kept;
})
  where
    h : Onward t q f n there here
    h = g.onward

    headed : Block → Block
    headed b = record b { kind = kind.Heading level None }

    blocks : Beyond f.blocks (BlockOn t q f n) (of_kind (kind.Heading level None) there.blocks) (of_kind (kind.Heading level None) here.blocks)
    blocks = beyond_last f.blocks (BlockOn t q f n) headed headed (λ x y k. record { shape = ap (λ (s : Shape). record s { sort = HeadingSort level }) k.shape; low = k.low }) there.blocks here.blocks h.blocks g.some

    some : 0 < length (of_kind (kind.Heading level None) here.blocks)
    some = omega (arith, g.some, changed_length (length here.blocks - 1) headed here.blocks)

pub ended_firm : (t q : List ℕ) (f : Earlier) (n m : ℕ) (l : Line) (there here : State) → m + f.lines ≡ l.number → Firm t q f n there here → Firm t q f n (leaf_finished (record there { end = l.end; line = m })) (leaf_finished (record here { end = l.end; line = l.number }))
ended_firm t q f n m l there here later g = finished_firm t q f n _ _ (record {
  onward = record { opened = h.opened; inner = h.inner; blocks = h.blocks; pieces = h.pieces; definitions = h.definitions; quotes = h.quotes; leaf = h.leaf; core = h.core; few = h.few; room = h.room; lasts = h.lasts; tied = λ o. (later, g.some, g.kept) };
  line = later;
  some = g.some;
  kept = g.kept;
})
  where
    h : Onward t q f n there here
    h = g.onward

-- what is known of a leaf of CommonMark that begins directly in an open paragraph or not
abbrev pub FineLeaf : Bool → LeafStart → Type 0
FineLeaf d start.Blank = Unit
FineLeaf d start.Text = Unit
FineLeaf d (start.Indented column) = Unit
FineLeaf d (start.Heading h) = Unit
FineLeaf d (start.Fence x) = Unit
FineLeaf d (start.Html k) = Unit
FineLeaf d (start.Underline l) = d ≡ true
FineLeaf d start.Rule = Unit
FineLeaf d (start.Metadata k) = ⊥
FineLeaf d (start.Task b) = ⊥
FineLeaf d (start.QuoteKind k) = ⊥

rule_fine : (cs : List Cell) (tail : Tail) (c : ℕ) (d : Bool) → FineLeaf d (rule_at cs tail c)
unfolding rule_at
rule_fine cs tail c d = by (is_rule cs tail c)
  where
    by : (b : Bool) → FineLeaf d (if b then start.Rule else start.Text)
    by true = tt
    by false = tt

mark_fine : (cs : List Cell) (rest : List ℕ) (tail : Tail) (c : Cursor) (p d : Bool) → FineLeaf d (mark_at cs rest tail c p d)
unfolding mark_at underline_in
mark_fine cs rest tail c p d = by (heading_at cs c.ink) (fence_at cs c) (html_at rest p) d refl (underline_at cs c.ink)
  where
    by : (x : Option Heading) (f : Option Fence) (k : Option HtmlKind) (e : Bool) → d ≡ e → (u : Option HeadingLevel)
        → FineLeaf d (unwrap_or (option_map (λ h. start.Heading h) x) (unwrap_or (option_map (λ f. start.Fence f) f) (unwrap_or (option_map (λ k. start.Html k) k) (unwrap_or (option_map (λ l. start.Underline l) (if e then u else None)) (rule_at cs tail c.ink)))))
    by (Some x) f k e g u = tt
    by None (Some f) k e g u = tt
    by None None (Some k) e g u = tt
    by None None None true g (Some l) = g
    by None None None true g None = rule_fine cs tail c.ink d
    by None None None false g u = rule_fine cs tail c.ink d

pub leaf_fine : (cs : List Cell) (rest : List ℕ) (tail : Tail) (c : Cursor) (p d : Bool) → FineLeaf d (leaf_at cs rest tail c p d)
unfolding leaf_at
leaf_fine cs rest tail c p d = by (is_blank_at cs c) (nat_lt (indent_of c) 4) p
  where
    by : (blank near k : Bool) → FineLeaf d (if blank then start.Blank else (if near then mark_at cs rest tail c p d else (if k then start.Text else start.Indented (plus c.column 4))))
    by true near k = tt
    by false true k = mark_fine cs rest tail c p d
    by false false true = tt
    by false false false = tt

-- an open leaf ends with a line, or takes it
abbrev pub FineTurn : Leaf → Turn → Type 0
FineTurn k turn.Closes = is_shut k ≡ false
FineTurn k (turn.Takes column) = is_shut k ≡ false
FineTurn k turn.Passes = Unit
FineTurn k (turn.Row x) = ⊥

pub turn_fine : (t q : List ℕ) (m : ℕ) (l : Line) (cs : List Cell) (c : Cursor) (k : Leaf) → is_core k ≡ true → (leaf_turn q cs (numbered m l) c k ≡ leaf_turn t cs l c k) × FineTurn k (leaf_turn t cs l c k)
unfolding leaf_turn is_core is_shut
turn_fine t q m l cs c leaf.Nothing e = (refl, tt)
turn_fine t q m l cs c leaf.Paragraph e = (refl, tt)
turn_fine t q m l cs c leaf.Indented e = (refl, by (nat_le 4 (indent_of c)) (is_blank_at cs c))
  where
    by : (a b : Bool) → FineTurn leaf.Indented (if a then turn.Takes (plus c.column 4) else (if b then turn.Takes c.ink else turn.Passes))
    by true b = refl
    by false true = refl
    by false false = tt
turn_fine t q m l cs c (leaf.Fenced x) e = (refl, by (closes_fence cs c x))
  where
    by : (a : Bool) → FineTurn (leaf.Fenced x) (if a then turn.Closes else turn.Takes (plus c.column (min x.indent (indent_of c))))
    by true = refl
    by false = refl
turn_fine t q m l cs c (leaf.Html k) e = (refl, by (is_blank_at cs c && not (goes_past_blank k)))
  where
    by : (a : Bool) → FineTurn (leaf.Html k) (if a then turn.Passes else turn.Takes c.column)
    by true = tt
    by false = refl
turn_fine t q m l cs c (leaf.Metadata k) e = absurd cc
turn_fine t q m l cs c (leaf.Table x) e = absurd cc

-- How leaves begin and take lines in a list item.
use Rattle.std.proofs.Common.{◌≡◌, ℕ, suc, ◌+◌, ◌-◌, ◌<◌, ◌≤◌, Bool, true, false, if◌then◌else◌, nat_le, List, length, refl, ap, sym, subst, ◌∙◌, arith}
use Rattle.std.specs.Prelude.{slice_get, slice_set, Option, Some, None}
use Rattle.std.specs.Option.{option_map_or}
use Rattle.tocmark_event.specs.declared.event.HeadingLevel.{HeadingLevel}
use Rattle.tocmark_read_scan.specs.Basic.{bytes_between}
use Rattle.tocmark_read_lines.specs.Cells.{cell_place}
use Rattle.tocmark_read_lines.specs.Html.{html_ends}
use Rattle.tocmark_read_lines.specs.declared.beginnings.Fence.{Fence}
use Rattle.tocmark_read_lines.specs.declared.beginnings.Heading.{Heading}
use Rattle.tocmark_read_lines.specs.declared.cell.Cell.{Cell}
use Rattle.tocmark_read_lines.specs.declared.container.ItemStart.{ItemStart}
use Rattle.tocmark_read_lines.specs.declared.html.HtmlKind.{HtmlKind}
use Rattle.tocmark_read_lines.specs.declared.line.Line.{Line}
use Rattle.tocmark_read_page.specs.Leaves.{is_paragraph}
use Rattle.tocmark_read_page.specs.Pages.{State, leaf_finished, closed_to, leaf_opened, piece_taken, start_of, of_kind}
use Rattle.tocmark_read_page.specs.Pieces.{code_piece, text_piece, heading_piece, keeps_line}
use Rattle.tocmark_read_page.specs.declared.leaf.Leaf.{Leaf}
use Rattle.tocmark_read_page.specs.declared.leaf.Leaf.TheVariants as leaf
use Rattle.tocmark_read_page.specs.declared.line_start.LineStart.{LineStart}
use Rattle.tocmark_read_page.specs.declared.page.Block.{Block}
use Rattle.tocmark_read_page.specs.declared.page.BlockKind.{BlockKind}
use Rattle.tocmark_read_page.specs.declared.page.BlockKind.TheVariants as kind
use Rattle.tocmark_read_constructs.specs.Headings.{heading_put, heading_started_in, underlined, underlined_in}
use Rattle.tocmark_read_blocks.specs.Blocks.{core_known}
use Rattle.tocmark_read_blocks.specs.Codes.{info_of, html_ended_as, html_ended, code_taken, indented_started, fence_started, html_started}
use Rattle.tocmark_read_blocks.specs.Paragraphs.{text_started, in_paragraph, text_taken, rule_started}
use Rattle.tocmark_text_laws.specs.Quoted.{Heading as HeadingSort, sort_of}
use Rattle.tocmark_text_laws.proofs.Pairs.{PairOf, Afters, set_length, changed_length, pairs_length, afters_got, afters_place, afters_last, afters_set}
use Rattle.tocmark_text_laws.proofs.QuotedCells.{cursor_on}
use Rattle.tocmark_text_laws.proofs.QuotedMarks.{heading_on}
use Rattle.tocmark_text_laws.proofs.QuotedPages.{Shape}
use Rattle.tocmark_text_laws.proofs.QuotedPieces.{Beside, PieceOn, code_two, text_two, heading_piece_two, keeps_two}
use Rattle.tocmark_text_laws.proofs.QuotedLeaves.{info_two, paragraph_open}
use Rattle.tocmark_text_laws.proofs.ItemPages.{BlockOn, IsListBlock, IsItemBlock, Inside, Firm, firm, finished_firm, closed_two, leaf_opened_firm, piece_taken_firm}
use Rattle.tocmark_text_laws.proofs.Leaves.{is_core}

-- a place in a line after others, and in two containers more
abbrev pub place_in : ℕ → LineStart → LineStart
place_in shift p = record { cursor = cursor_on shift p.cursor; depth = suc (suc p.depth) }

html_ended_firm : (item : ItemStart) (t q : List ℕ) (n : ℕ) (rest : List ℕ) (there here : State) → Firm item t q n there here → Firm item t q n (html_ended rest there) (html_ended rest here)
unfolding html_ended
html_ended_firm item t q n rest there here f = subst (λ k. Firm item t q n (html_ended_as k rest there) (html_ended_as here.leaf rest here)) (sym f.inside.leaf) (by here.leaf)
  where
    ends : (b : Bool) → Firm item t q n (if b then leaf_finished there else there) (if b then leaf_finished here else here)
    ends true = finished_firm item t q n there here f
    ends false = f

    by : (k : Leaf) → Firm item t q n (html_ended_as k rest there) (html_ended_as k rest here)
    by leaf.Nothing = f
    by leaf.Paragraph = f
    by leaf.Indented = f
    by (leaf.Fenced x) = f
    by (leaf.Html k) = ends (html_ends k rest)
    by (leaf.Metadata k) = f
    by (leaf.Table x) = f

pub code_taken_firm : (item : ItemStart) (t q : List ℕ) (n : ℕ) (l' l : Line) (shift : ℕ) (w r : List Cell) (column : ℕ) (there here : State) → Beside t q l' l shift w r → column ≤ length r → Firm item t q n there here
    → Firm item t q n (code_taken q w (shift + column) l' there) (code_taken t r column l here)
unfolding code_taken
code_taken_firm item t q n l' l shift w r column there here h low f =
    rw (words, keeps)
    (html_ended_firm item t q n (bytes_between t (code_piece r column l).start (code_piece r column l).end) (piece_taken (code_piece w (shift + column) l') l' (keeps_line r column here.leaf) there) (piece_taken (code_piece r column l) l (keeps_line r column here.leaf) here)
    (piece_taken_firm item t q n (code_piece w (shift + column) l') (code_piece r column l) l' l (keeps_line r column here.leaf) there here (code_two t q l' l shift w r column h) h.line.number f))
  where
    words : bytes_between q (code_piece w (shift + column) l').start (code_piece w (shift + column) l').end ≡ bytes_between t (code_piece r column l).start (code_piece r column l).end
    words = (code_two t q l' l shift w r column h).words

    keeps : keeps_line w (shift + column) there.leaf ≡ keeps_line r column here.leaf
    keeps = ap (keeps_line w (shift + column)) f.inside.leaf ∙ keeps_two shift w r column here.leaf h.fronted low

-- a leaf begins after what ends in the line
after_closed : (item : ItemStart) (t q : List ℕ) (n depth : ℕ) (f : Leaf) (x y : BlockKind) (start far : ℕ) (l' l : Line) (there here : State) → is_core f ≡ true → sort_of q x ≡ sort_of t y → l'.number ≡ l.number → Inside item t q n there here
    → Firm item t q n (leaf_opened f x start l' (closed_to q (suc (suc depth)) there)) (leaf_opened f y far l (closed_to t depth here))
after_closed item t q n depth f x y start far l' l there here core e number h = leaf_opened_firm item t q n f x y start far l' l (closed_to q (suc (suc depth)) there) (closed_to t depth here) core e number (closed_two item t q n depth there here h)

pub indented_firm : (item : ItemStart) (t q : List ℕ) (n : ℕ) (l' l : Line) (shift : ℕ) (w r : List Cell) (p : LineStart) (column : ℕ) (there here : State) → Beside t q l' l shift w r → column ≤ length r → Inside item t q n there here
    → Firm item t q n (indented_started q w l' (place_in shift p) (shift + column) there) (indented_started t r l p column here)
unfolding indented_started is_core
indented_firm item t q n l' l shift w r p column there here h low i =
    code_taken_firm item t q n l' l shift w r column _ _ h low (after_closed item t q n p.depth leaf.Indented kind.Indented kind.Indented (cell_place w (shift + column) l'.end) (cell_place r column l.end) l' l there here refl refl h.line.number i)

pub fence_firm : (item : ItemStart) (t q : List ℕ) (n : ℕ) (l' l : Line) (shift : ℕ) (w r : List Cell) (p : LineStart) (f : Fence) (there here : State) → Beside t q l' l shift w r → p.cursor.ink + f.count ≤ length r → Inside item t q n there here
    → Firm item t q n (fence_started q w l' (place_in shift p) f there) (fence_started t r l p f here)
unfolding fence_started is_core
fence_firm item t q n l' l shift w r p f there here h low i =
    after_closed item t q n p.depth (leaf.Fenced f) (info_of w (cursor_on shift p.cursor) f l') (info_of r p.cursor f l) (start_of w (place_in shift p) l') (start_of r p l) l' l there here refl (info_two t q l' l shift w r p.cursor f h low) h.line.number i

pub html_firm : (item : ItemStart) (t q : List ℕ) (n : ℕ) (l' l : Line) (shift : ℕ) (w r : List Cell) (p : LineStart) (k : HtmlKind) (there here : State) → Beside t q l' l shift w r → p.cursor.column ≤ length r → Inside item t q n there here
    → Firm item t q n (html_started q w l' (place_in shift p) k there) (html_started t r l p k here)
unfolding html_started is_core
html_firm item t q n l' l shift w r p k there here h low i =
    code_taken_firm item t q n l' l shift w r p.cursor.column _ _ h low (after_closed item t q n p.depth (leaf.Html k) kind.Html kind.Html (cell_place w (shift + p.cursor.column) l'.end) (cell_place r p.cursor.column l.end) l' l there here refl refl h.line.number i)

text_started_firm : (item : ItemStart) (t q : List ℕ) (n start far : ℕ) (there here : State) → Firm item t q n there here → Firm item t q n (text_started start there) (text_started far here)
unfolding text_started
text_started_firm item t q n start far there here f = rw (place, pairs_length (PieceOn t q) there.pieces here.pieces h.pieces) (by (slice_get there.blocks (suc (suc (length here.blocks - 1)))) (slice_get here.blocks (length here.blocks - 1)) (afters_got (IsListBlock item q) (IsItemBlock q) (BlockOn t q) (length here.blocks - 1) there.blocks here.blocks h.blocks))
  where
    h : Inside item t q n there here
    h = f.inside

    place : length there.blocks - 1 ≡ suc (suc (length here.blocks - 1))
    place = afters_place (IsListBlock item q) (IsItemBlock q) (BlockOn t q) there.blocks here.blocks h.blocks f.some

    begins : (x y : Block) → BlockOn t q x y → (k : Bool) → Firm item t q n (if k then record there { blocks = slice_set there.blocks (suc (suc (length here.blocks - 1))) (record x { start = start }) } else there) (if k then record here { blocks = slice_set here.blocks (length here.blocks - 1) (record y { start = far }) } else here)
    begins x y u true = record {
      inside = record { opened = h.opened; blocks = afters_set (IsListBlock item q) (IsItemBlock q) (BlockOn t q) (length here.blocks - 1) (record x { start = start }) (record y { start = far }) u there.blocks here.blocks h.blocks; pieces = h.pieces; definitions = h.definitions; quotes = h.quotes; counted = h.counted; leaf = h.leaf; core = h.core; kept = h.kept; tied = λ o. (f.line, some) };
      line = f.line;
      some = some;
    }
      where
        some : 0 < length (slice_set here.blocks (length here.blocks - 1) (record y { start = far }))
        some = omega (arith, f.some, set_length here.blocks (length here.blocks - 1) (record y { start = far }))
    begins x y u false = f

    by : (o p : Option Block) → PairOf (BlockOn t q) o p
        → Firm item t q n (option_map_or (λ (b : Block). if nat_le (length here.pieces) b.first then record there { blocks = slice_set there.blocks (suc (suc (length here.blocks - 1))) (record b { start = start }) } else there) o there)
        (option_map_or (λ (b : Block). if nat_le (length here.pieces) b.first then record here { blocks = slice_set here.blocks (length here.blocks - 1) (record b { start = far }) } else here) p here)
    by None None u = f
    by None (Some y) u = absurd u
    by (Some x) None u = absurd u
    by (Some x) (Some y) u = subst (λ k. Firm item t q n (if k then record there { blocks = slice_set there.blocks (suc (suc (length here.blocks - 1))) (record x { start = start }) } else there) (if nat_le (length here.pieces) y.first then record here { blocks = slice_set here.blocks (length here.blocks - 1) (record y { start = far }) } else here)) (sym (ap (λ (s : Shape). nat_le (length here.pieces) s.first) u)) (begins x y u (nat_le (length here.pieces) y.first))

in_paragraph_firm : (item : ItemStart) (t q : List ℕ) (n : ℕ) (l' l : Line) (shift : ℕ) (w r : List Cell) (p : LineStart) (there here : State) → Beside t q l' l shift w r → Inside item t q n there here → Firm item t q n (in_paragraph q w l' (place_in shift p) there) (in_paragraph t r l p here)
unfolding is_core
in_paragraph_firm item t q n l' l shift w r p there here h i =
    subst (λ k. Firm item t q n (if is_paragraph k then there else leaf_opened leaf.Paragraph kind.Paragraph (text_piece w (cursor_on shift p.cursor) l').start l' (closed_to q (suc (suc p.depth)) there)) (in_paragraph t r l p here)) (sym i.leaf) (by (is_paragraph here.leaf) refl)
  where
    by : (b : Bool) → is_paragraph here.leaf ≡ b
        → Firm item t q n (if b then there else leaf_opened leaf.Paragraph kind.Paragraph (text_piece w (cursor_on shift p.cursor) l').start l' (closed_to q (suc (suc p.depth)) there)) (if b then here else leaf_opened leaf.Paragraph kind.Paragraph (text_piece r p.cursor l).start l (closed_to t p.depth here))
    by true e = firm item t q n there here (paragraph_open here.leaf e) i
    by false e = after_closed item t q n p.depth leaf.Paragraph kind.Paragraph kind.Paragraph (text_piece w (cursor_on shift p.cursor) l').start (text_piece r p.cursor l).start l' l there here refl refl h.line.number i

pub text_taken_firm : (item : ItemStart) (t q : List ℕ) (n : ℕ) (l' l : Line) (shift : ℕ) (w r : List Cell) (p : LineStart) (there here : State) → Beside t q l' l shift w r → Inside item t q n there here → Firm item t q n (text_taken q w l' (place_in shift p) there) (text_taken t r l p here)
unfolding text_taken
text_taken_firm item t q n l' l shift w r p there here h i =
    piece_taken_firm item t q n (text_piece w (cursor_on shift p.cursor) l') (text_piece r p.cursor l) l' l true _ _ (text_two t q l' l shift w r p.cursor h) h.line.number
    (text_started_firm item t q n (text_piece w (cursor_on shift p.cursor) l').start (text_piece r p.cursor l).start _ _ (in_paragraph_firm item t q n l' l shift w r p there here h i))

pub rule_firm : (item : ItemStart) (t q : List ℕ) (n : ℕ) (l' l : Line) (shift : ℕ) (w r : List Cell) (p : LineStart) (there here : State) → Beside t q l' l shift w r → Inside item t q n there here → Firm item t q n (rule_started q w l' (place_in shift p) there) (rule_started t r l p here)
unfolding rule_started is_core
rule_firm item t q n l' l shift w r p there here h i =
    finished_firm item t q n _ _ (after_closed item t q n p.depth leaf.Nothing kind.Rule kind.Rule (start_of w (place_in shift p) l') (start_of r p l) l' l there here refl refl h.line.number i)

pub heading_firm : (item : ItemStart) (t q : List ℕ) (n : ℕ) (l' l : Line) (shift : ℕ) (w r : List Cell) (p : LineStart) (x : Heading) (there here : State) → Beside t q l' l shift w r → Inside item t q n there here
    → Firm item t q n (heading_started_in core_known q w l' (place_in shift p) (heading_on shift x) there) (heading_started_in core_known t r l p x here)
unfolding heading_started_in heading_put is_core
heading_firm item t q n l' l shift w r p x there here h i =
    finished_firm item t q n _ _
    (piece_taken_firm item t q n (heading_piece w (heading_on shift x) l') (heading_piece r x l) l' l true _ _ (heading_piece_two t q l' l shift w r x h) h.line.number
    (after_closed item t q n p.depth leaf.Nothing (kind.Heading x.level None) (kind.Heading x.level None) (start_of w (place_in shift p) l') (start_of r p l) l' l there here refl refl h.line.number i))

pub underlined_firm : (item : ItemStart) (t q : List ℕ) (n : ℕ) (level : HeadingLevel) (l' l : Line) (there here : State) → l'.number ≡ l.number → Firm item t q n there here → Firm item t q n (underlined_in core_known q level l' there) (underlined_in core_known t level l here)
unfolding underlined_in underlined
underlined_firm item t q n level l' l there here number f = finished_firm item t q n _ _ (record {
  inside = record { opened = h.opened; blocks = blocks; pieces = h.pieces; definitions = h.definitions; quotes = h.quotes; counted = h.counted; leaf = h.leaf; core = h.core; kept = h.kept; tied = λ o. (number, some) };
  line = number;
  some = some;
})
  where
    h : Inside item t q n there here
    h = f.inside

    headed : Block → Block
    headed b = record b { kind = kind.Heading level None }

    blocks : Afters (IsListBlock item q) (IsItemBlock q) (BlockOn t q) (of_kind (kind.Heading level None) there.blocks) (of_kind (kind.Heading level None) here.blocks)
    blocks = afters_last (IsListBlock item q) (IsItemBlock q) (BlockOn t q) headed headed (λ x y k. ap (λ (s : Shape). record s { sort = HeadingSort level }) k) there.blocks here.blocks h.blocks f.some

    some : 0 < length (of_kind (kind.Heading level None) here.blocks)
    some = omega (arith, f.some, changed_length (length here.blocks - 1) headed here.blocks)

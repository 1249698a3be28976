-- With a list marker in front of a text, and as many columns in front of its other lines, its blocks are in an item of a list.
use Rattle.std.proofs.Common.{◌≡◌, inl, inr, ℕ, suc, ◌+◌, ◌-◌, ◌*◌, ◌^◌, ◌<◌, Bool, false, List, [], ◌∷◌, ◌++◌, length, map, take, drop, refl, ap, sym, subst, ◌∙◌, arith}
use Rattle.std.specs.Prelude.{slice_get}
use Rattle.std.specs.List.{AllByRecursion, fold}
use Rattle.std.specs.Option.{option_map_or}
use Rattle.std.proofs.lemmas.List.{length-map}
use Rattle.tocmark_read_scan.specs.Basic.{byte_at, bytes_between}
use Rattle.tocmark_read_scan.specs.declared.syntax.TheConstants.{CORE}
use Rattle.tocmark_read_lines.specs.Cells.{bytes_of, cells_of}
use Rattle.tocmark_read_lines.specs.Containers.{raised, raised_at}
use Rattle.tocmark_read_lines.specs.Lines.{lines_of}
use Rattle.tocmark_read_lines.specs.declared.cell.Cell.{Cell}
use Rattle.tocmark_read_lines.specs.declared.container.ItemStart.{ItemStart}
use Rattle.tocmark_read_lines.specs.declared.container.Opened.{Opened}
use Rattle.tocmark_read_lines.specs.declared.line.Line.{Line}
use Rattle.tocmark_read_lines.proofs.Columns.{bytes_kept, plain_cells}
use Rattle.tocmark_read_page.specs.Pages.{State, first_page, ended, raised_last, is_quote, quote_left, one_closed, times, leaf_closed, closed_to}
use Rattle.tocmark_read_page.specs.declared.page.Block.{Block}
use Rattle.tocmark_read_page.specs.declared.piece.Piece.{Piece}
use Rattle.tocmark_read_constructs.specs.Metadata.{known_of}
use Rattle.tocmark_read_blocks.specs.Blocks.{core_known, cells_taken_in, line_taken_in, page_in, blocks_in}
use Rattle.tocmark_text_laws.specs.Items.{ItemMark, IsItemMark, first_number, marker_bytes, item_front, item_text, BeginsItem, first_line, is_break, outer_list, first_item, in_item, MarksMakeAnItem}
use Rattle.tocmark_text_laws.specs.Lines.{IsLine}
use Rattle.tocmark_text_laws.specs.Quoted.{LineTold, line_told, Told, told, blocks_told, tree_told}
use Rattle.tocmark_text_laws.proofs.Endings.{lines-end}
use Rattle.tocmark_text_laws.proofs.Pairs.{Pairs, pairs_take, pairs_drop, Afters, afters_length}
use Rattle.tocmark_text_laws.proofs.QuotedPieces.{PieceOn, Beside, beside}
use Rattle.tocmark_text_laws.proofs.QuotedPages.{Shape, shape_of}
use Rattle.tocmark_text_laws.proofs.QuotedLines.{Row, LinesOn, some_line}
use Rattle.tocmark_text_laws.proofs.QuotedRun.{times_last, none_open, lines_same, shown}
use Rattle.tocmark_text_laws.proofs.ItemContainers.{OpenedIn, IsOuterList, IsOuterItem}
use Rattle.tocmark_text_laws.proofs.ItemPages.{shape_on, BlockOn, IsListBlock, IsItemBlock, Inside, inside_more, leaf_closed_two, closed_two}
use Rattle.tocmark_text_laws.proofs.ItemTurns.{IsInItem, line_in}
use Rattle.tocmark_text_laws.proofs.ItemFirst.{Begins, first_cells}
use Rattle.tocmark_text_laws.proofs.ItemMarks.{item_of, spaces_of, Gaps, front_few, item_begins}
use Rattle.tocmark_text_laws.proofs.ItemLines.{item_lines, Leads, BeginsLine, first_leads, first_words, ink_line, ink_front, code_line, code_front}
use Rattle.tocmark_text_laws.proofs.ItemTrees.{one_list}

-- the lines come in

-- pages with so many open containers at most
abbrev pub Reaches : ItemStart → List ℕ → List ℕ → State → State → Type 0
Reaches item t q there here = (n : ℕ) × Inside item t q n there here

run_in : (item : ItemStart) (first t q : List ℕ) (n before : ℕ) (ls' ls : List Line) (there here : State) → LinesOn (IsInItem first item.width) t q before n ls' ls → 0 < before → AllByRecursion (IsLine t) ls → 0 < item.width → 2 * n + 9 < 2 ^ 64 → Inside item t q (2 * n) there here
    → Reaches item t q (fold (line_taken_in core_known q) there ls') (fold (line_taken_in core_known t) here ls)
run_in item first t q n before [] [] there here h late one wide few g = (2 * n, g)
run_in item first t q n before [] (l ∷ ls) there here h late one wide few g = absurd h
run_in item first t q n before (l' ∷ ls') [] there here h late one wide few g = absurd h
run_in item first t q n before (l' ∷ ls') (l ∷ ls) there here (row, rest) late one wide few g =
    run_in item first t q l.next (before + 1) ls' ls (line_taken_in core_known q there l') (line_taken_in core_known t here l) rest (omega (arith, late)) (one.1) wide row.line.near
    (inside_more item t q (2 * n + 2 * (l.end - l.start)) (2 * l.next) (line_taken_in core_known q there l') (line_taken_in core_known t here l) (omega (arith, row.low, row.line.order, row.line.onto)) (line_in item first t q (2 * n) before n l' l there here row late (one.0) wide few g))

-- what is known of the text
pub record Fits (m : ItemMark) (t : List ℕ) : Type 0 where
  pub kind : IsItemMark m
  pub begins : BeginsItem m t
  pub break : is_break (marker_bytes m ++ first_line t) ≡ false

-- the spaces at the front of the first line
pub gaps : (m : ItemMark) (t : List ℕ) → BeginsItem m t → Gaps m.after (spaces_of (first_line t)) × (spaces_of (first_line t) < length (first_line t))
gaps m t (inl h) = (inl (ink_front t h).0, omega (arith, (ink_front t h).0, (ink_front t h).1))
gaps m t (inr (e, h)) = (inr (e, (code_front 4 t h).0), (code_front 4 t h).1)

pub line_begins : (m : ItemMark) (t : List ℕ) → BeginsItem m t → BeginsLine t
line_begins m t (inl h) = ink_line t h
line_begins m t (inr (e, h)) = code_line t h

pub first_in : (m : ItemMark) (t q : List ℕ) (l' l : Line) → Fits m t → Row (IsInItem (item_front m) (item_of m).width) t q 0 0 l' l → l.start ≡ 0 → 0 < l.end → IsLine t l
    → Inside (item_of m) t q (2 * (l.end - l.start)) (line_taken_in core_known q first_page l') (line_taken_in core_known t first_page l)
unfolding line_taken_in
first_in m t q l' l f h start some one = by (beside t q l' l h.line)
  where
    w : List Cell
    w = cells_of [] l'.start (bytes_between q l'.start l'.end)

    r : List Cell
    r = cells_of [] l.start (bytes_between t l.start l.end)

    shift : ℕ
    shift = length h.line.front

    front : IsInItem (item_front m) (item_of m).width 0 h.line.front (byte_at t l.start) → h.line.front ≡ item_front m
    front (inl (e, k)) = k
    front (inr (e, k)) = absurd (omega (arith, e))

    words : bytes_of r ≡ first_line t
    words = ap bytes_of (plain_cells l.start (bytes_between t l.start l.end) h.line.plain) ∙ bytes_kept l.start [] (bytes_between t l.start l.end) ∙ first_words t l start some h.line.long one

    begins : (both : Beside t q l' l shift w r) → both.fronted.front ≡ h.line.front → Begins (item_of m) m.before shift w r
    begins both same =
        item_begins m shift w r both.fronted (same ∙ front h.kind) f.kind (subst (λ xs. Gaps m.after (spaces_of xs)) (sym words) (known.0))
        (subst (λ n. spaces_of (bytes_of r) < n) (length-map r (λ (c : Cell). c.byte)) (subst (λ xs. spaces_of xs < length xs) (sym words) (known.1)))
        (ap (λ xs. is_break (marker_bytes m ++ xs)) words ∙ f.break)
      where
        known : Gaps m.after (spaces_of (first_line t)) × (spaces_of (first_line t) < length (first_line t))
        known = gaps m t f.begins

    by : (both : Beside t q l' l shift w r) × (both.fronted.front ≡ h.line.front) → Inside (item_of m) t q (2 * (l.end - l.start)) (cells_taken_in core_known q w l' first_page) (cells_taken_in core_known t r l first_page)
    by (both, same) =
        inside_more (item_of m) t q (0 + 2 * length r) (2 * (l.end - l.start)) _ _ (omega (arith, both.wide))
        (first_cells (item_of m) m.before t q l' l shift w r both (begins both same))

pub run_first : (m : ItemMark) (t q : List ℕ) (ls' ls : List Line) → Fits m t → LinesOn (IsInItem (item_front m) (item_of m).width) t q 0 0 ls' ls → Leads ls → AllByRecursion (IsLine t) ls → 0 < length ls
    → Reaches (item_of m) t q (fold (line_taken_in core_known q) first_page ls') (fold (line_taken_in core_known t) first_page ls)
run_first m t q [] [] f h lead one some = absurd (omega (arith, some))
run_first m t q [] (l ∷ ls) f h lead one some = absurd h
run_first m t q (l' ∷ ls') [] f h lead one some = absurd h
run_first m t q (l' ∷ ls') (l ∷ ls) f (row, rest) lead one some =
    run_in (item_of m) (item_front m) t q l.next 1 ls' ls (line_taken_in core_known q first_page l') (line_taken_in core_known t first_page l) rest (omega arith) (one.1) (let z : 0 < length (item_front m) = omega (arith, (front_few m f.kind).0) in z) row.line.near
    (inside_more (item_of m) t q (2 * (l.end - l.start)) (2 * l.next) (line_taken_in core_known q first_page l') (line_taken_in core_known t first_page l) (omega (arith, row.line.order, row.line.onto)) (first_in m t q l' l f row (lead.0) (lead.1) (one.0)))

-- all containers end

two_more : (item : ItemStart) (t q : List ℕ) (n : ℕ) (there here : State) → Inside item t q n there here → closed_to q 0 there ≡ one_closed (one_closed (closed_to q 2 there))
unfolding closed_to
two_more item t q n there here h =
    ap (λ k. times one_closed k u) (let z : length u.opened - 0 ≡ suc (suc (length u.opened - 2)) = omega (arith, long) in z)
    ∙ times_last (suc (length u.opened - 2)) u
    ∙ ap one_closed (times_last (length u.opened - 2) u)
  where
    u : State
    u = leaf_closed q there

    long : length u.opened ≡ suc (suc (length (leaf_closed t here).opened))
    long = afters_length (IsOuterList item) (IsOuterItem item) OpenedIn u.opened (leaf_closed t here).opened (leaf_closed_two item t q n there here h).opened.after

-- what is left is that of the text itself
record Left (item : ItemStart) (t q : List ℕ) (there here : State) : Type 0 where
  blocks : Afters (IsListBlock item q) (IsItemBlock q) (BlockOn t q) there.blocks here.blocks
  pieces : Pairs (PieceOn t q) there.pieces here.pieces
  definitions : there.definitions ≡ here.definitions

-- the item ended, and the list is open
record InList (item : ItemStart) (t q : List ℕ) (there here : State) : Type 0 where
  left : Left item t q there here
  outer : Opened
  open_list : there.opened ≡ outer ∷ []
  listed : IsOuterList item outer

ended_first : (item : ItemStart) (t q : List ℕ) (end : ℕ) (there here : List Block) → Afters (IsListBlock item q) (IsItemBlock q) (BlockOn t q) there here → Afters (IsListBlock item q) (IsItemBlock q) (BlockOn t q) (ended there 0 end) here
unfolding ended
ended_first item t q end [] here h = absurd h
ended_first item t q end (b ∷ bs) here h = h

ended_second : (item : ItemStart) (t q : List ℕ) (end : ℕ) (there here : List Block) → Afters (IsListBlock item q) (IsItemBlock q) (BlockOn t q) there here → Afters (IsListBlock item q) (IsItemBlock q) (BlockOn t q) (ended there 1 end) here
unfolding ended
ended_second item t q end [] here h = absurd h
ended_second item t q end (b ∷ []) here h = absurd (h.1)
ended_second item t q end (b ∷ c ∷ cs) here h = h

-- the innermost container ends
one_at : (s : State) (os : List Opened) → s.opened ≡ os → one_closed s ≡ option_map_or (λ (o : Opened). quote_left o.container (raised_last o.end o.line (record s { opened = take (length os - 1) os; blocks = ended s.blocks o.block o.end }))) (slice_get os (length os - 1)) s
unfolding one_closed
one_at s os e = rw e refl

raised_list : (item : ItemStart) (o : Opened) (end line : ℕ) → IsOuterList item o → IsOuterList item (raised o end line)
unfolding raised
raised_list item o end line h = record { list = h.list; first = h.first }

item_closed : (item : ItemStart) (t q : List ℕ) (n : ℕ) (there here : State) → length here.opened ≡ 0 → Inside item t q n there here → InList item t q (one_closed there) here
unfolding is_quote raised_at
item_closed item t q n there here none h = by there.opened here.opened refl none h.opened.after
  where
    by : (os' os : List Opened) → there.opened ≡ os' → length os ≡ 0 → Afters (IsOuterList item) (IsOuterItem item) OpenedIn os' os → InList item t q (one_closed there) here
    by os' (o ∷ os) e k a = absurd (omega (arith, k))
    by [] [] e k a = absurd a
    by (x ∷ []) [] e k a = absurd (a.1)
    by (x ∷ z ∷ y ∷ ys) [] e k a = absurd (a.1.1)
    by (x ∷ z ∷ []) [] e k a = subst (λ u. InList item t q u here) (sym (one_at there (x ∷ z ∷ []) e))
        (rw (a.1.0).held (record {
          left = record { blocks = subst (λ i. Afters (IsListBlock item q) (IsItemBlock q) (BlockOn t q) (ended there.blocks i z.end) here.blocks) (sym (a.1.0).second) (ended_second item t q z.end there.blocks here.blocks h.blocks); pieces = h.pieces; definitions = h.definitions };
          outer = raised x z.end z.line;
          open_list = refl;
          listed = raised_list item x z.end z.line (a.0);
        }))

list_closed : (item : ItemStart) (t q : List ℕ) (there here : State) → InList item t q there here → Left item t q (one_closed there) here
unfolding is_quote
list_closed item t q there here h = subst (λ u. Left item t q u here) (sym (one_at there (h.outer ∷ []) h.open_list))
    (rw h.listed.list (record {
      blocks = subst (λ i. Afters (IsListBlock item q) (IsItemBlock q) (BlockOn t q) (ended there.blocks i h.outer.end) here.blocks) (sym h.listed.first) (ended_first item t q h.outer.end there.blocks here.blocks h.left.blocks);
      pieces = h.left.pieces;
      definitions = h.left.definitions;
    }))

all_closed : (item : ItemStart) (t q : List ℕ) (there here : State) → Reaches item t q there here → Left item t q (closed_to q 0 there) (closed_to t 0 here)
all_closed item t q there here (n, h) =
    subst (λ u. Left item t q u (closed_to t 0 here)) (sym (two_more item t q n there here h))
    (list_closed item t q (one_closed (closed_to q 2 there)) (closed_to t 0 here) (item_closed item t q n (closed_to q 2 there) (closed_to t 0 here) (none_open t here) (closed_two item t q n 0 there here h)))

-- blocks without their places

block_same : (t q : List ℕ) (ps' ps : List Piece) (x y : Block) → Pairs (PieceOn t q) ps' ps → BlockOn t q x y → told q ps' x ≡ in_item (told t ps y)
block_same t q ps' ps x y h u = ap (shown q ps') u ∙ ap made (lines_same t q (drop y.first (take y.last ps')) (drop y.first (take y.last ps)) (pairs_drop (PieceOn t q) y.first (take y.last ps') (take y.last ps) (pairs_take (PieceOn t q) y.last ps' ps h)))
  where
    made : List LineTold → Told
    made ls = record { depth = suc (suc y.depth); sort = (shape_of t y).sort; loose = y.loose; list = (shape_on (shape_of t y)).list; lines = ls }

blocks_same : (t q : List ℕ) (ps' ps : List Piece) (xs ys : List Block) → Pairs (PieceOn t q) ps' ps → Pairs (BlockOn t q) xs ys → map (told q ps') xs ≡ map in_item (map (told t ps) ys)
blocks_same t q ps' ps [] [] h u = refl
blocks_same t q ps' ps [] (y ∷ ys) h u = absurd u
blocks_same t q ps' ps (x ∷ xs) [] h u = absurd u
blocks_same t q ps' ps (x ∷ xs) (y ∷ ys) h u = ap (λ b. b ∷ map (told q ps') xs) (block_same t q ps' ps x y h (u.0)) ∙ ap (λ bs. in_item (told t ps y) ∷ bs) (blocks_same t q ps' ps xs ys h (u.1))

-- what a shape says of a list
abbrev shown_list : List ℕ → List Piece → Bool → Shape → Told
shown_list text pieces loose s = record { depth = s.depth; sort = s.sort; loose = loose; list = s.list; lines = map (line_told text) (drop s.first (take s.last pieces)) }

-- whether the first block is loose
abbrev is_loose_first : List Block → Bool
is_loose_first [] = false
is_loose_first (b ∷ bs) = b.loose

all_same : (item : ItemStart) (t q : List ℕ) (ps' ps : List Piece) (xs ys : List Block) → Pairs (PieceOn t q) ps' ps → Afters (IsListBlock item q) (IsItemBlock q) (BlockOn t q) xs ys → map (told q ps') xs ≡ outer_list item.number (is_loose_first xs) ∷ first_item ∷ map in_item (map (told t ps) ys)
all_same item t q ps' ps [] ys h u = absurd u
all_same item t q ps' ps (x ∷ []) ys h u = absurd (u.1)
all_same item t q ps' ps (x ∷ z ∷ xs) ys h u =
    ap (λ b. b ∷ told q ps' z ∷ map (told q ps') xs) (ap (shown_list q ps' x.loose) (u.0))
    ∙ ap (λ b. outer_list item.number x.loose ∷ b ∷ map (told q ps') xs) (ap (shown q ps') (u.1.0))
    ∙ ap (λ bs. outer_list item.number x.loose ∷ first_item ∷ bs) (blocks_same t q ps' ps xs ys h (u.1.1))

-- such a text has a byte
pub begins_some : (m : ItemMark) (t : List ℕ) → BeginsItem m t → 0 < length t
begins_some m t h = by t (line_begins m t h)
  where
    by : (xs : List ℕ) → BeginsLine xs → 0 < length xs
    by [] g = absurd g
    by (x ∷ xs) g = omega arith

pub item_blocks : MarksMakeAnItem
unfolding blocks_in page_in known_of
item_blocks m bare t ok starts plain break fits = record {
  loose = is_loose_first (blocks_in CORE q).blocks;
  trees = ap tree_told blocks ∙ one_list (first_number m.mark) (is_loose_first (blocks_in CORE q).blocks) (blocks_told t (blocks_in CORE t));
  blocks = blocks;
  definitions = left.definitions;
}
  where
    q : List ℕ
    q = item_text m bare t

    line : BeginsLine t
    line = line_begins m t starts

    some : 0 < length t
    some = begins_some m t starts

    left : Left (item_of m) t q (closed_to q 0 (fold (line_taken_in core_known q) first_page (lines_of q))) (closed_to t 0 (fold (line_taken_in core_known t) first_page (lines_of t)))
    left = all_closed (item_of m) t q _ _
        (run_first m t q (lines_of q) (lines_of t) (record { kind = ok; begins = starts; break = break }) (item_lines m bare t ok some plain fits) (first_leads t line) (lines-end t (omega (arith, fits))) (some_line t some))

    blocks : blocks_told q (blocks_in CORE q) ≡ outer_list (first_number m.mark) (is_loose_first (blocks_in CORE q).blocks) ∷ first_item ∷ map in_item (blocks_told t (blocks_in CORE t))
    blocks = all_same (item_of m) t q _ _ _ _ left.pieces left.blocks

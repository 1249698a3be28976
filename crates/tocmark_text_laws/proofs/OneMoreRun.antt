-- A list gets the items at the front of a text that comes after it.
use Rattle.std.proofs.Common.{◌≡◌, ℕ, zero, suc, ◌+◌, ◌-◌, ◌*◌, ◌^◌, ◌<◌, ◌≤◌, Bool, true, false, List, [], ◌∷◌, ◌++◌, length, map, take, replicate, append_assoc, refl, ap, sym, subst, ◌∙◌, arith, length-append}
use Rattle.std.specs.Prelude.{slice_get, slice_set, if◌then◌else◌, Option, Some, None}
use Rattle.std.specs.List.{AllByRecursion, fold}
use Rattle.std.specs.Option.{option_map, option_map_or}
use Rattle.std.proofs.lemmas.List.{length-map, map-append}
use Rattle.tocmark_read_scan.specs.Basic.{plus, bytes_between}
use Rattle.tocmark_read_scan.specs.declared.syntax.TheConstants.{CORE}
use Rattle.tocmark_read_lines.specs.Cells.{cells_of, first_cursor}
use Rattle.tocmark_read_lines.specs.Containers.{container_at}
use Rattle.tocmark_read_lines.specs.Lines.{line, lines_from, lines_of}
use Rattle.tocmark_read_lines.specs.Marks.{tail_of}
use Rattle.tocmark_read_lines.specs.declared.cell.Cell.{Cell}
use Rattle.tocmark_read_lines.specs.declared.container.Container.{Container}
use Rattle.tocmark_read_lines.specs.declared.container.Container.TheVariants as container
use Rattle.tocmark_read_lines.specs.declared.container.Opened.{Opened}
use Rattle.tocmark_read_lines.specs.declared.line.Line.{Line}
use Rattle.tocmark_read_page.specs.Definitions.{DefinitionView}
use Rattle.tocmark_read_page.specs.Pages.{State, first_page, ended, is_quote, quote_left, raised_last, one_closed, times, closed_to}
use Rattle.tocmark_read_page.specs.declared.leaf.Leaf.TheVariants as leaf
use Rattle.tocmark_read_page.specs.declared.page.Block.{Block}
use Rattle.tocmark_read_page.specs.declared.page.BlockKind.{BlockKind}
use Rattle.tocmark_read_page.specs.declared.piece.Piece.{Piece}
use Rattle.tocmark_read_constructs.specs.Metadata.{known_of}
use Rattle.tocmark_read_blocks.specs.Blocks.{core_known, line_taken_in, page_in, blocks_in}
use Rattle.tocmark_text_laws.specs.Housed.{AreHoused}
use Rattle.tocmark_text_laws.specs.Items.{first_line}
use Rattle.tocmark_text_laws.specs.Lines.{IsLine}
use Rattle.tocmark_text_laws.specs.ListEnds.{LeavesList, ends_leaf, begins_at_margin, item_mark, first_mark, goes_into}
use Rattle.tocmark_text_laws.specs.OneMoreItem.{lists_joined, IsOneMore, OneMoreItem}
use Rattle.tocmark_text_laws.specs.Quoted.{Told, told, tree_told, read_trees}
use Rattle.tocmark_text_laws.specs.Sequence.{after_lines}
use Rattle.tocmark_text_laws.proofs.Alls.{same_numbers}
use Rattle.tocmark_text_laws.proofs.Leaves.{is_core}
use Rattle.tocmark_text_laws.proofs.Shut.{closed_shut}
use Rattle.tocmark_text_laws.proofs.Kept.{line_core}
use Rattle.tocmark_text_laws.proofs.Moved.{copies_length}
use Rattle.tocmark_text_laws.proofs.Sorted.{containers, quotes_of}
use Rattle.tocmark_text_laws.proofs.Stacked.{Extent, extents, Inner, Stack}
use Rattle.tocmark_text_laws.proofs.Nesting.{closed_to_calm}
use Rattle.tocmark_text_laws.proofs.NestRun.{After, all_lines, lines_few}
use Rattle.tocmark_text_laws.proofs.HouseWalk.{blocks_housed}
use Rattle.tocmark_text_laws.proofs.Houses.{lists}
use Rattle.tocmark_text_laws.proofs.Ranged.{Ascend}
use Rattle.tocmark_text_laws.proofs.Pairs.{Pairs, PairOf, pairs_length, pairs_got}
use Rattle.tocmark_text_laws.proofs.Fronts.{Past}
use Rattle.tocmark_text_laws.proofs.Beyond.{Into, beyond, Behind, Beyond}
use Rattle.tocmark_text_laws.proofs.SequencePieces.{PieceOn}
use Rattle.tocmark_text_laws.proofs.SequencePages.{Earlier, OpenedOn, BlockOn, Onward, closed_on}
use Rattle.tocmark_text_laws.proofs.SequenceLeaves.{Shared}
use Rattle.tocmark_text_laws.proofs.SequenceLines.{Inside, Feed, Splits, split_lines, Shares, Follows, blanks_taken}
use Rattle.tocmark_text_laws.proofs.SequenceRun.{alone, run_on, relisted, block_relisted, take_front, blocks_alone, fold_both, feed_end, blanked, tell, first_run, blanked_lines, Seconds, second_lines, Same, same_after}
use Rattle.tocmark_text_laws.proofs.ListEndsClosed.{closed_further, shut_closed, only_list}
use Rattle.tocmark_text_laws.proofs.ListEndsLine.{Margin, Waits, no_first_quote}
use Rattle.tocmark_text_laws.proofs.ListEndsFirst.{First, first_from, first_short, first_bytes, margin_first, margin_near, begun_anywhere}
use Rattle.tocmark_text_laws.proofs.ListEndsRun.{waits_after, closed_known, pairs_containers, first_core, Left, left_after, feeds, lines_more, some_margin}
use Rattle.tocmark_text_laws.proofs.Lasting.{Reached, closed_grows, line_grows}
use Rattle.tocmark_text_laws.proofs.LooseRun.{UpTo, Counted, lines_counted, counted_later, counted_low}
use Rattle.tocmark_text_laws.proofs.OneMoreHeads.{Filled, Full, closed_full, lines_full}
use Rattle.tocmark_text_laws.proofs.OneMoreFirst.{Listed, loose_blocks, ahead, line_first}
use Rattle.tocmark_text_laws.proofs.OneMoreTrees.{From, FirstUpto, loosed, trees_one_more}
use Rattle.tocmark_text_laws.proofs.OneMoreLeft.{SameOpen, open_after, marks_same, ends_same}

-- lists that are cut at an element

record Cut {A B : Type 0} (f : A → B) (xs : List A) (ps : List B) (p : B) (qs : List B) : Type 0 where
  front : List A
  middle : A
  back : List A
  split : xs ≡ front ++ middle ∷ back
  before : map f front ≡ ps
  there : f middle ≡ p
  after : map f back ≡ qs

cut_at : {A B : Type 0} (f : A → B) (xs : List A) (ps : List B) (p : B) (qs : List B) → map f xs ≡ ps ++ p ∷ qs → Cut f xs ps p qs
cut_at f [] [] p qs e = absurd cc
cut_at f [] (r ∷ rs) p qs e = absurd cc
cut_at f (x ∷ xs) [] p qs e = record { front = []; middle = x; back = xs; split = refl; before = refl; there = (let z : f x ≡ p = cc in z); after = (let z : map f xs ≡ qs = cc in z) }
cut_at f (x ∷ xs) (r ∷ rs) p qs e = by (cut_at f xs rs p qs (let z : map f xs ≡ rs ++ p ∷ qs = cc in z))
  where
    by : Cut f xs rs p qs → Cut f (x ∷ xs) (r ∷ rs) p qs
    by c = record { front = x ∷ c.front; middle = c.middle; back = c.back; split = ap (λ ys. x ∷ ys) c.split; before = (let z : f x ≡ r = cc in ap (λ y. y ∷ map f c.front) z ∙ ap (λ ys. r ∷ ys) c.before); there = c.there; after = c.after }

-- the open list

alone_of : (os : List Opened) (c : Container) → containers os ≡ c ∷ [] → (o : Opened) × (os ≡ o ∷ []) × (o.container ≡ c)
alone_of [] c e = absurd cc
alone_of (o ∷ []) c e = (o, refl, let z : o.container ≡ c = cc in z)
alone_of (o ∷ p ∷ os) c e = absurd cc

lines_reach : (q : List ℕ) (top : ℕ) (ls : List Line) (s : State) → is_core s.leaf ≡ true → UpTo top ls → Reached top s.opened → s.line ≤ top
    → Reached top (fold (line_taken_in core_known q) s ls).opened × ((fold (line_taken_in core_known q) s ls).line ≤ top)
lines_reach q top [] s c up r low = (r, low)
lines_reach q top (l ∷ ls) s c up r low = lines_reach q top ls (line_taken_in core_known q s l) (line_core q l s c) (up.1) (grown.0) (grown.1)
  where
    grown : Reached top (line_taken_in core_known q s l).opened × ((line_taken_in core_known q s l).line ≤ top)
    grown = (line_grows q l s c).reach top (up.0) r low

abbrev depths : List Block → List ℕ
depths bs = map (λ (b : Block). b.depth) bs

abbrev extent_depths : List Extent → List ℕ
extent_depths es = map (λ (e : Extent). e.depth) es

depths_on : (t q : List ℕ) (n : ℕ) (xs ys : List Block) → Pairs (BlockOn t q alone n) xs ys → depths xs ≡ depths ys
depths_on t q n [] [] h = refl
depths_on t q n [] (y ∷ ys) h = absurd h
depths_on t q n (x ∷ xs) [] h = absurd h
depths_on t q n (x ∷ xs) (y ∷ ys) h = ap (λ s. s.depth ∷ depths xs) (h.0).shape ∙ ap (λ ds. y.depth ∷ ds) (depths_on t q n xs ys (h.1))

extents_depths : (bs : List Block) → depths bs ≡ extent_depths (extents bs)
extents_depths [] = refl
extents_depths (b ∷ bs) = ap (λ ds. b.depth ∷ ds) (extents_depths bs)

all_deep : (bs : List Block) (b : Extent) (o : Opened) (es : List Extent) → depths bs ≡ extent_depths es → AllByRecursion (Inner 0 b o) es → AllByRecursion (λ (x : Block). 1 ≤ x.depth) bs
all_deep [] b o es e h = tt
all_deep (x ∷ xs) b o [] e h = absurd cc
all_deep (x ∷ xs) b o (y ∷ ys) e h =
    let z : x.depth ≡ y.depth = cc in
    let w : depths xs ≡ extent_depths ys = cc in
    let low : 1 ≤ y.depth = (h.0).deep in
    (omega (arith, z, low), all_deep xs b o ys w (h.1))

-- the blocks before the list and in it
record Parted (o : Opened) (bs : List Block) : Type 0 where
  front : List Block
  block : Block
  within : List Block
  split : bs ≡ front ++ block ∷ within
  place : o.block ≡ length front
  outer : block.depth ≡ 0
  deep : AllByRecursion (λ (b : Block). 1 ≤ b.depth) within

parted : (o : Opened) (os : List Opened) (bs ys : List Block) (floor : ℕ) → PairOf (OpenedOn alone) (Some o) (slice_get os 0) → depths bs ≡ depths ys → Stack 1 floor os (extents ys) → Parted o bs
parted o os bs ys floor same e (pre, b, seg, x, layer, rest) = by (cut_at (λ (z : Block). z.depth) bs (extent_depths pre) b.depth (extent_depths seg) (e ∙ extents_depths ys ∙ ap extent_depths layer.split ∙ map-append (λ (z : Extent). z.depth) pre (b ∷ seg)))
  where
    block : (p : Option Opened) → PairOf (OpenedOn alone) (Some o) p → p ≡ Some x → o.block ≡ x.block
    block None h g = absurd h
    block (Some y) h g = let z : y ≡ x = cc in h.block ∙ ap (λ (w : Opened). w.block) z

    by : Cut (λ (z : Block). z.depth) bs (extent_depths pre) b.depth (extent_depths seg) → Parted o bs
    by c = record {
      front = c.front;
      block = c.middle;
      within = c.back;
      split = c.split;
      place = block (slice_get os 0) same layer.got ∙ layer.block ∙ sym (sym (length-map c.front (λ (z : Block). z.depth)) ∙ ap length c.before ∙ length-map pre (λ (z : Extent). z.depth));
      outer = c.there ∙ layer.depth;
      deep = all_deep c.back b x seg c.after layer.inside;
    }

-- the text, and its page in the whole

-- what is in front of the line feed after the first text, and the whole text
abbrev fed : List ℕ → List ℕ
fed t = t ++ 10 ∷ []

abbrev whole : List ℕ → List ℕ → List ℕ
whole t u = fed t ++ u

abbrev page_of : List ℕ → List ℕ → State
page_of t u = fold (line_taken_in core_known (whole t u)) first_page (lines_of t)

abbrev page_fed : List ℕ → List ℕ → State
page_fed t u = fold (line_taken_in core_known (whole t u)) first_page (lines_of (fed t))

record Known (t u : List ℕ) (mark : ℕ) : Type 0 where
  left : Left t u mark
  first : Onward t (whole t u) alone (0 + length (lines_of t)) (closed_to (whole t u) 1 (page_fed t u)) (closed_to t 1 (after_lines t))
  same : closed_to (whole t u) 1 (page_fed t u) ≡ closed_to (whole t u) 1 (page_of t u)

known : (t u : List ℕ) (mark : ℕ) → LeavesList t mark → ends_leaf (after_lines t) ≡ true → 4 * (length t + length u) + 28 < 2 ^ 64 → Known t u mark
known t u mark c ends small = record {
  left = left;
  first = subst (λ s. Onward t w alone n s (closed_to t 1 (after_lines t))) (sym same) (closed_on t w alone n 1 (page_of t u) (after_lines t) first);
  same = same;
}
  where
    w : List ℕ
    w = whole t u

    n : ℕ
    n = 0 + length (lines_of t)

    left : Left t u mark
    left = left_after t u mark c ends small

    feed : Feed t
    feed = feeds t mark c

    some : 0 < length t
    some = omega (arith, ap length ((c.line).1), length-append ((c.line).0) (10 ∷ []))

    first : Onward t w alone n (page_of t u) (after_lines t)
    first = subst (λ x. Onward t x alone n (fold (line_taken_in core_known x) first_page (lines_of t)) (after_lines t)) (sym (append_assoc t (10 ∷ []) u))
        (first_run t (10 ∷ u) (omega (arith, small)) feed (split_lines t (10 ∷ u) (omega (arith, small)) feed) some)

    same : closed_to w 1 (page_fed t u) ≡ closed_to w 1 (page_of t u)
    same = ap (closed_to w 1) left.page ∙ closed_further w 1 left.depth (page_of t u) left.low

listed : (t u : List ℕ) (mark number : ℕ) → LeavesList t mark → (k : Known t u mark) → 4 * (length t + length u) + 28 < 2 ^ 64 → plus (length (lines_of t)) 1 < number → UpTo (length (lines_of t)) (lines_of t) → Listed mark number (closed_to (whole t u) 1 (page_fed t u))
listed t u mark number c k small far up = by (alone_of z.opened (container.List mark) (ap (λ (s : State). containers s.opened) k.same ∙ only_list w mark s k.left.holds.lists)) (all_lines t (omega (arith, small)))
  where
    w : List ℕ
    w = whole t u

    top : ℕ
    top = length (lines_of t)

    s : State
    s = page_of t u

    z : State
    z = closed_to w 1 (page_fed t u)

    y : State
    y = closed_to t 1 (after_lines t)

    full : Full z
    full = subst (λ (x : State). Full x) (sym k.same) (closed_full w 1 s (lines_full w (lines_of t) first_page first_core tt))

    before : Reached top s.opened × (s.line ≤ top)
    before = lines_reach w top (lines_of t) first_page first_core up tt (omega arith)

    reached : Reached top z.opened
    reached = subst (λ (x : State). Reached top x.opened) (sym k.same) (((closed_grows w 1 s).reach top (omega arith) (before.0) (before.1)).0)

    quotes : z.quotes ≡ []
    quotes =
        ap (λ (x : State). x.quotes) k.same ∙ closed_known w 1 s k.left.holds.known
        ∙ ap (quotes_of 0) (only_list w mark s k.left.holds.lists) ∙ no_first_quote mark []

    by : (o : Opened) × (z.opened ≡ o ∷ []) × (o.container ≡ container.List mark) → After (after_lines t) → Listed mark number z
    by (o, one, held) (a, m, r) = record {
      list = o;
      alone = one;
      sort = held;
      had = (subst Filled one full).0 (ap lists held);
      far = (let low : o.line ≤ top = (subst (Reached top) one reached).0 in omega (arith, low, far, small, lines_few t 0 0 0 t));
      front = p.front;
      block = p.block;
      within = p.within;
      split = p.split;
      place = p.place;
      outer = p.outer;
      deep = p.deep;
      quotes = quotes;
      shut = closed_shut w 1 (page_fed t u);
    }
      where
        count : length y.opened ≡ 1
        count = sym (pairs_length (OpenedOn alone) z.opened y.opened k.first.opened) ∙ ap length one

        stack : Stack 1 m y.opened (extents y.blocks)
        stack = subst (λ i. Stack i m y.opened (extents y.blocks)) count ((closed_to_calm 0 m a m t 1 (after_lines t) (omega arith) r).0)

        p : Parted o z.blocks
        p = parted o y.opened z.blocks y.blocks m (subst (λ x. PairOf (OpenedOn alone) x (slice_get y.opened 0)) (ap (λ (os : List Opened). slice_get os 0) one) (pairs_got (OpenedOn alone) 0 z.opened y.opened k.first.opened)) (depths_on t w (0 + top) z.blocks y.blocks k.first.blocks) stack

-- both texts after all lines
record Ran (t u : List ℕ) (mark : ℕ) : Type 0 where
  number : ℕ
  further : ℕ
  count : ℕ
  list : Listed mark number (closed_to (whole t u) 1 (page_fed t u))
  onward : Onward (blanked (fed t) u) (whole t u) (ahead list further) count (after_lines (whole t u)) (after_lines (blanked (fed t) u))

ran : (t u : List ℕ) (mark : ℕ) → LeavesList t mark → (k : Known t u mark) → begins_at_margin u ≡ true → goes_into mark (first_mark u) ≡ true → 4 * (length t + length u) + 28 < 2 ^ 64 → Ran t u mark
ran t u mark c k ink goes small = by (lines_from w split.count n n u) (lines_from v n n n u) refl refl both.pairs both.shares both.ascend both.ones (first_from v n n n u (omega (arith, some_margin u (margin_near u ink)))) later
  where
    p : List ℕ
    p = fed t

    n : ℕ
    n = length p

    w : List ℕ
    w = whole t u

    v : List ℕ
    v = blanked p u

    long : n ≡ length t + 1
    long = length-append t (10 ∷ [])

    few : 4 * (length p + length u) + 20 < 2 ^ 64
    few = omega (arith, small, long)

    split : Splits p u n (lines_of w) (lines_of p)
    split = split_lines p u (omega (arith, few)) (feed_end t)

    both : Seconds p u split.count
    both = second_lines p u split.count few split.few

    top : ℕ
    top = length (lines_of t)

    counted : Counted 0 (lines_of p ++ lines_from w split.count n n u)
    counted = subst (Counted 0) split.lines (lines_counted w 0 0 0 w)

    later : Counted (length (lines_of p)) (lines_from w split.count n n u)
    later = subst (λ i. Counted i (lines_from w split.count n n u)) (let z : 0 + length (lines_of p) ≡ length (lines_of p) = omega arith in z) (counted_later 0 (lines_of p) (lines_from w split.count n n u) counted)

    more : length (lines_of p) ≡ top + 1
    more = by (lines_more t (omega (arith, small)) (feeds t mark c))
      where
        by : (i : ℕ) × (lines_of (t ++ 10 ∷ []) ≡ lines_of t ++ line i (length t) (length t) (length t + 1) ∷ []) → length (lines_of p) ≡ top + 1
        by (i, e) = ap length e ∙ length-append (lines_of t) (line i (length t) (length t) (length t + 1) ∷ [])

    up : UpTo top (lines_of t)
    up = counted_low 0 top (lines_of t) [] (omega arith) (lines_counted_all (lines_of t) (lines_counted t 0 0 0 t))
      where
        lines_counted_all : (ls : List Line) → Counted 0 ls → Counted 0 (ls ++ [])
        lines_counted_all ls h = subst (Counted 0) (all_end ls) h
          where
            all_end : (xs : List Line) → xs ≡ xs ++ []
            all_end [] = refl
            all_end (x ∷ xs) = ap (λ ys. x ∷ ys) (all_end xs)

    page : State
    page = page_fed t u

    waits : Waits mark page
    waits = subst (Waits mark) (sym k.left.page) (waits_after w mark k.left.depth (page_of t u) k.left.low k.left.holds)

    shut : page.leaf ≡ leaf.Nothing
    shut = ap (λ (x : State). x.leaf) k.left.page ∙ closed_shut w k.left.depth (page_of t u)

    wide : length {A = ℕ} (replicate n 10) ≡ n
    wide = copies_length n 10

    pieces : length (closed_to w 1 page).pieces ≤ length t + 1
    pieces = omega (arith, pairs_length (PieceOn t w) (closed_to w 1 page).pieces (closed_to t 1 (after_lines t)).pieces k.first.pieces, k.first.few, lines_few t 0 0 0 t)

    after_there : after_lines w ≡ fold (line_taken_in core_known w) page (lines_from w split.count n n u)
    after_there = ap (fold (line_taken_in core_known w) first_page) split.lines ∙ fold_both (line_taken_in core_known w) first_page (lines_of p) (lines_from w split.count n n u)

    after_here : after_lines v ≡ fold (line_taken_in core_known v) first_page (lines_from v n n n u)
    after_here = ap (fold (line_taken_in core_known v) first_page) (blanked_lines p u) ∙ blanks_taken v 0 n (lines_from v n n n u)

    by : (ls' ls : List Line) → lines_from w split.count n n u ≡ ls' → lines_from v n n n u ≡ ls → Pairs (Follows (n - split.count)) ls' ls → AllByRecursion (Shares v w) ls → Ascend (Inside v) v n ls → AllByRecursion (IsLine v) ls → First n ls → Counted (length (lines_of p)) ls' → Ran t u mark
    by ls' [] e f pairs shares ascend ones first count = absurd (let z : [] ≡ first.first ∷ first.others = first.split in cc)
    by [] (l ∷ ls) e f pairs shares ascend ones first count = absurd pairs
    by (l' ∷ ls') (l ∷ ls) e f (follows, rest) shares ascend ones first count = record {
      number = l'.number;
      further = d;
      count = 1 + length ls;
      list = list;
      onward = subst (λ s. Onward v w (ahead list d) (1 + length ls) s (after_lines v)) (sym (after_there ∙ ap (fold (line_taken_in core_known w) page) e))
          (subst (λ s. Onward v w (ahead list d) (1 + length ls) (fold (line_taken_in core_known w) page (l' ∷ ls')) s) (sym (after_here ∙ ap (fold (line_taken_in core_known v) first_page) f))
          (run_on v w (ahead list d) 1 ls' ls (line_taken_in core_known w page l') (line_taken_in core_known v first_page l) rest (shares.1) room one));
    }
      where
        d : ℕ
        d = n - split.count

        list : Listed mark l'.number (closed_to w 1 page)
        list = listed t u mark l'.number c k small (let z : l'.number ≡ plus (length (lines_of p)) 1 = count.0 in omega (arith, z, more, small, lines_few t 0 0 0 t)) up

        begins : l.start ≡ n
        begins = (let z : l ≡ first.first = let y : l ∷ ls ≡ first.first ∷ first.others = first.split in cc in ap (λ (x : Line). x.start) z ∙ first.begins)

        bytes : bytes_between v l.start l.end ≡ first_line u
        bytes = first_bytes (replicate n 10) u l (begins ∙ sym wide) (ascend.0).ordered (ascend.0).within (ones.0)

        short : l.start + length (first_line u) + 1 < 2 ^ 64 - 1
        short = omega (arith, begins, long, small, first_short u)

        cs : List ℕ → List Cell
        cs bs = cells_of [] l.start bs

        counts : length ls ≤ length u
        counts = (let z : suc (length ls) ≤ length u + 1 = subst (λ xs. length xs ≤ length u + 1) f (lines_few v n n n u) in omega (arith, z))

        room : length (closed_to w 1 page).pieces + (1 + length ls) + 1 < 2 ^ 64 - 1
        room = omega (arith, pieces, counts, small)

        shared : Shared v w (ahead list d) 0 l'.number l (cells_of [] l.start (bytes_between v l.start l.end))
        shared = record { line = shares.0; later = follows.1; room = omega (arith, pieces, small) }

        one : Onward v w (ahead list d) 1 (line_taken_in core_known w page l') (line_taken_in core_known v first_page l)
        one = subst (λ x. Onward v w (ahead list d) 1 (line_taken_in core_known w page x) (line_taken_in core_known v first_page l)) (sym (follows.0))
            (line_first v w mark l'.number d l page
            (subst (λ bs. Margin (cs bs)) (sym bytes) (margin_first u l.start (margin_near u ink))) waits shut list
            (subst (λ bs. goes_into mark (item_mark (container_at (cs bs) (tail_of (cs bs)) (first_cursor (cs bs)) false)) ≡ true) (sym bytes)
            (ap (λ o. goes_into mark (item_mark o)) (begun_anywhere l.start (first_line u) short) ∙ goes))
            shared (omega (arith, pieces, small)))

-- the blocks of the first text

one_told : (t : List ℕ) (s : State) → (tell t (one_closed s) ≡ tell t s) × ((one_closed s).definitions ≡ s.definitions)
unfolding one_closed ended
one_told t s = by (slice_get s.opened (length s.opened - 1))
  where
    closes : Opened → State
    closes o = raised_last o.end o.line (record s { opened = take (length s.opened - 1) s.opened; blocks = option_map_or (λ (b : Block). slice_set s.blocks o.block (record b { end = o.end })) (slice_get s.blocks o.block) s.blocks })

    quoted : (u : State) (b : Bool) → (tell t (if b then record u { quotes = take (length u.quotes - 1) u.quotes } else u) ≡ tell t u) × ((if b then record u { quotes = take (length u.quotes - 1) u.quotes } else u).definitions ≡ u.definitions)
    quoted u true = (refl, refl)
    quoted u false = (refl, refl)

    by : (x : Option Opened) → (tell t (option_map_or (λ (o : Opened). quote_left o.container (closes o)) x s) ≡ tell t s) × ((option_map_or (λ (o : Opened). quote_left o.container (closes o)) x s).definitions ≡ s.definitions)
    by None = (refl, refl)
    by (Some o) = (
      (quoted (closes o) (is_quote o.container)).0 ∙ same_numbers (told t s.pieces) s.blocks o.block (λ (b : Block). record b { end = o.end }) (λ b. refl),
      (quoted (closes o) (is_quote o.container)).1,
    )

times_told : (t : List ℕ) (n : ℕ) (s : State) → (tell t (times one_closed n s) ≡ tell t s) × ((times one_closed n s).definitions ≡ s.definitions)
unfolding times
times_told t zero s = (refl, refl)
times_told t (suc n) s = ((times_told t n (one_closed s)).0 ∙ (one_told t s).0, (times_told t n (one_closed s)).1 ∙ (one_told t s).1)

closed_told : (t : List ℕ) (s : State) → (tell t (closed_to t 0 s) ≡ tell t (closed_to t 1 s)) × ((closed_to t 0 s).definitions ≡ (closed_to t 1 s).definitions)
closed_told t s =
    subst (λ u. (tell t u ≡ tell t z) × (u.definitions ≡ z.definitions)) (sym (shut_closed t 0 z (closed_shut t 1 s)) ∙ closed_further t 0 1 s (omega arith))
    (times_told t (length z.opened - 0) z)
  where
    z : State
    z = closed_to t 1 s

-- the blocks of both

behind_told : (v q : List ℕ) (f : Earlier) (n : ℕ) (ps' ps : List Piece) (fs xs ys : List Block) → Past f.pieces (PieceOn v q) ps' ps → Behind fs (BlockOn v q f n) xs ys
    → map (told q ps') xs ≡ map (told q ps') fs ++ map (λ (b : Told). relisted (option_map (beyond f.blocks) b.list) b) (map (told v ps) ys)
behind_told v q f n ps' ps [] [] [] h u = refl
behind_told v q f n ps' ps [] [] (y ∷ ys) h u = absurd u
behind_told v q f n ps' ps [] (x ∷ xs) [] h u = absurd u
behind_told v q f n ps' ps [] (x ∷ xs) (y ∷ ys) h u =
    ap (λ b. b ∷ map (told q ps') xs) (block_relisted v q f n ps' ps x y h (u.0))
    ∙ ap (λ bs. relisted (option_map (beyond f.blocks) y.list) (told v ps y) ∷ bs) (behind_told v q f n ps' ps [] xs ys h (u.1))
behind_told v q f n ps' ps (g ∷ gs) [] ys h u = absurd u
behind_told v q f n ps' ps (g ∷ gs) (x ∷ xs) ys h u = ap (λ z. told q ps' z ∷ map (told q ps') xs) (u.0) ∙ ap (λ bs. told q ps' g ∷ bs) (behind_told v q f n ps' ps gs xs ys h (u.1))

told_from : (q : List ℕ) (ps : List Piece) (d : ℕ) (bs : List Block) → AllByRecursion (λ (b : Block). d ≤ b.depth) bs → From d (map (told q ps) bs)
told_from q ps d [] h = tt
told_from q ps d (b ∷ bs) h = (h.0, told_from q ps d bs (h.1))

-- the first blocks of a text are hardly deep
second_low : (t : List ℕ) (ps : List Piece) (b : Block) (bs : List Block) → AreHoused [] (b ∷ bs) → FirstUpto 1 (map (told t ps) bs)
second_low t ps b [] h = tt
second_low t ps b (c ∷ cs) h = let low : c.depth ≤ length (take b.depth [] ++ b.kind ∷ []) = (h.1.0).deep in omega (arith, low, few b.depth)
  where
    few : (n : ℕ) → length (take {A = BlockKind} n [] ++ b.kind ∷ []) ≡ 1
    few zero = refl
    few (suc n) = refl

joined_trees : (v q : List ℕ) (f : Earlier) (n k : ℕ) (fs front within : List Block) (block : Block) (ps' ps : List Piece) (xs ys : List Block) → f.blocks ≡ Into fs k → fs ≡ front ++ record block { loose = true } ∷ within → block.depth ≡ 0 → AllByRecursion (λ (b : Block). 1 ≤ b.depth) within
    → Past f.pieces (PieceOn v q) ps' ps → Beyond (Into fs k) (BlockOn v q f n) xs ys → AreHoused [] ys
    → tree_told (map (told q ps') xs) ≡ lists_joined (tree_told (map (told q ps') (front ++ block ∷ within))) (tree_told (map (told v ps) ys))
joined_trees v q f n k fs front within block ps' ps xs [] e g outer deep pieces h housed = absurd h
joined_trees v q f n k fs front within block ps' ps xs (y ∷ []) e g outer deep pieces h housed = absurd h
joined_trees v q f n k fs front within block ps' ps xs (y ∷ z ∷ zs) e g outer deep pieces h housed =
    ap tree_told (behind_told v q f n ps' ps fs xs (z ∷ zs) pieces (h.1) ∙ ap (λ bs. map (told q ps') bs ++ rest) g ∙ ap (λ bs. bs ++ rest) (map-append (told q ps') front (record block { loose = true } ∷ within)) ∙ append_assoc (map (told q ps') front) (loosed (told q ps' block) ∷ map (told q ps') within) rest)
    ∙ trees_one_more (map (told q ps') front) (told q ps' block) (told v ps y) (map (told q ps') within) (map (told v ps) (z ∷ zs)) (λ (b : Told). option_map (beyond f.blocks) b.list) outer (let low : y.depth ≤ 0 = (housed.0).deep in omega (arith, low)) (told_from q ps' 1 within deep) (second_low v ps y (z ∷ zs) housed)
    ∙ ap (λ bs. lists_joined (tree_told bs) (tree_told (map (told v ps) (y ∷ z ∷ zs)))) (sym (map-append (told q ps') front (block ∷ within)))
  where
    rest : List Told
    rest = map (λ (b : Told). relisted (option_map (beyond f.blocks) b.list) b) (map (told v ps) (z ∷ zs))

more_of : (t u : List ℕ) (mark : ℕ) → Known t u mark → Ran t u mark → 4 * (length t + length u) + 28 < 2 ^ 64 → IsOneMore (whole t u) t u
unfolding blocks_in page_in known_of
more_of t u mark k r small = record {
  trees =
      joined_trees v w f r.count (length r.list.front) (loose_blocks r.list) r.list.front r.list.within r.list.block there.pieces here.pieces there.blocks here.blocks refl refl r.list.outer r.list.deep done.pieces done.blocks (blocks_housed v)
      ∙ ap (λ bs. lists_joined (tree_told bs) (tree_told (tell v here))) text
      ∙ ap (λ bs. lists_joined (read_trees t) (tree_told bs)) same.blocks;
  definitions = done.definitions ∙ ap (λ (ds : List DefinitionView). ds ++ here.definitions) (k.first.definitions ∙ sym ((closed_told t (after_lines t)).1)) ∙ ap (λ (ds : List DefinitionView). (blocks_in CORE t).definitions ++ ds) same.definitions;
  list = marks_same (after_lines w).opened (after_lines v).opened held ∙ marks_same (after_lines v).opened (after_lines u).opened opens.held;
  ends = ends_same (after_lines w) (after_lines v) (record { held = held; leaf = r.onward.leaf }) ∙ ends_same (after_lines v) (after_lines u) opens;
}
  where
    p : List ℕ
    p = fed t

    w : List ℕ
    w = whole t u

    v : List ℕ
    v = blanked p u

    f : Earlier
    f = ahead r.list r.further

    there : State
    there = closed_to w 0 (after_lines w)

    here : State
    here = closed_to v 0 (after_lines v)

    z : State
    z = closed_to w 1 (page_fed t u)

    y : State
    y = closed_to t 1 (after_lines t)

    done : Onward v w f r.count there here
    done = closed_on v w f r.count 0 (after_lines w) (after_lines v) r.onward

    long : length p ≡ length t + 1
    long = length-append t (10 ∷ [])

    same : Same v u
    same = same_after (length p) u (omega (arith, small, long))

    opens : SameOpen (after_lines v) (after_lines u)
    opens = open_after (length p) u (omega (arith, small, long))

    held : containers (after_lines w).opened ≡ containers (after_lines v).opened
    held = pairs_containers f (after_lines w).opened (after_lines v).opened r.onward.opened

    text : map (told w there.pieces) (r.list.front ++ r.list.block ∷ r.list.within) ≡ tell t (closed_to t 0 (after_lines t))
    text =
        ap (map (told w there.pieces)) (sym r.list.split)
        ∙ blocks_alone t w (0 + length (lines_of t)) y.kept there.pieces z.pieces y.pieces z.blocks y.blocks k.first.pieces (λ i e. take_front (PieceOn v w) i z.pieces there.pieces here.pieces e done.pieces) k.first.lasts k.first.blocks
        ∙ sym ((closed_told t (after_lines t)).0)

pub one_more : OneMoreItem
one_more t u mark c ends ink goes small = subst (λ x. IsOneMore x t u) (append_assoc t (10 ∷ []) u) (more_of t u mark k (ran t u mark c k ink goes small) small)
  where
    k : Known t u mark
    k = known t u mark c ends small

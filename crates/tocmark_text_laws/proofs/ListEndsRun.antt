-- A list ends before an empty line and a text that begins at the margin.
use Rattle.std.proofs.Common.{◌≡◌, inl, inr, ℕ, zero, suc, ◌+◌, ◌-◌, ◌*◌, ◌^◌, ◌<◌, ◌≤◌, Bool, true, false, ◌&&◌, ◌||◌, if◌then◌else◌, nat_le, List, [], ◌∷◌, ◌++◌, length, map, take, append_assoc, refl, ap, sym, subst, ◌∙◌, arith, length-append}
use Rattle.std.specs.Prelude.{slice_get, Option, Some, None}
use Rattle.std.specs.List.{AllByRecursion, fold}
use Rattle.std.specs.Option.{option_map_or}
use Rattle.std.proofs.lemmas.Bool.Decides.{nat_tests}
use Rattle.std.proofs.lemmas.List.{length-map}
use Rattle.tocmark_read_scan.specs.Basic.{bytes_between}
use Rattle.tocmark_read_scan.specs.declared.syntax.TheConstants.{CORE}
use Rattle.tocmark_read_lines.specs.Cells.{cells_of, cell_place, first_cursor}
use Rattle.tocmark_read_lines.specs.Containers.{container_at, raised_at}
use Rattle.tocmark_read_lines.specs.Lines.{line, lines_from, lines_of}
use Rattle.tocmark_read_lines.specs.Marks.{tail_of}
use Rattle.tocmark_read_lines.specs.declared.cell.Cell.{Cell}
use Rattle.tocmark_read_lines.specs.declared.cell.Cursor.{Cursor}
use Rattle.tocmark_read_lines.specs.declared.container.Container.{Container}
use Rattle.tocmark_read_lines.specs.declared.container.Container.TheVariants as container
use Rattle.tocmark_read_lines.specs.declared.container.Opened.{Opened}
use Rattle.tocmark_read_lines.specs.declared.line.Line.{Line}
use Rattle.tocmark_read_page.specs.Definitions.{DefinitionView}
use Rattle.tocmark_read_page.specs.Leaves.{is_paragraph}
use Rattle.tocmark_read_page.specs.Pages.{State, first_page, ended, raised_last, leaf_finished, table_finished, defined_as, settled_as, settled, leaf_closed_as, leaf_closed, is_quote, quote_left, one_closed, times, closed_to}
use Rattle.tocmark_read_page.specs.declared.leaf.Leaf.{Leaf}
use Rattle.tocmark_read_page.specs.declared.leaf.Leaf.TheVariants as leaf
use Rattle.tocmark_read_page.specs.declared.page.Block.{Block}
use Rattle.tocmark_read_constructs.specs.Metadata.{known_of}
use Rattle.tocmark_read_blocks.specs.Blocks.{core_known, turn_of, cells_taken_in, line_taken_in, page_in, blocks_in}
use Rattle.tocmark_read_blocks.specs.Containers.{goes_directly}
use Rattle.tocmark_read_blocks.specs.Leaves.{leaf_turn, leaf_at}
use Rattle.tocmark_read_blocks.specs.declared.leaf.Turn.TheVariants as turn
use Rattle.tocmark_text_laws.specs.Items.{first_line}
use Rattle.tocmark_text_laws.specs.Lines.{IsLine}
use Rattle.tocmark_text_laws.specs.Quoted.{Told, told, blocks_told, tree_told, read_trees}
use Rattle.tocmark_text_laws.specs.Sequence.{after_lines, ends_before_blank, later, trees_joined, IsSequence}
use Rattle.tocmark_text_laws.specs.ListEnds.{list_mark, outer_mark, has_quote, LeavesList, ends_leaf, begins_at_margin, item_mark, first_mark, goes_into, AListEnds, continues, goes_on, AListEndsAtOnce}
use Rattle.tocmark_text_laws.specs.NearMargin.{begins_near_margin, AListEndsNearMargin}
use Rattle.tocmark_text_laws.proofs.Leaves.{is_core}
use Rattle.tocmark_text_laws.proofs.Shut.{closed_shut}
use Rattle.tocmark_text_laws.proofs.Endings.{lines-end}
use Rattle.tocmark_text_laws.proofs.Ranged.{LineIn, Ascend, lines_ascend}
use Rattle.tocmark_text_laws.proofs.Sorted.{containers, quotes_of, raised_containers, quotes_closed}
use Rattle.tocmark_text_laws.proofs.Houses.{Home, Chain, is_entry, in_list, settled_same}
use Rattle.tocmark_text_laws.proofs.HouseWalk.{lines_home}
use Rattle.tocmark_text_laws.proofs.NestRun.{After, all_lines}
use Rattle.tocmark_text_laws.proofs.Pairs.{Pairs}
use Rattle.tocmark_text_laws.proofs.QuotedRun.{none_open}
use Rattle.tocmark_text_laws.proofs.SequencePages.{Earlier, OpenedOn, Onward, closed_on}
use Rattle.tocmark_text_laws.proofs.SequenceLines.{Inside, inside, Feed, Splits, split_lines, none_between}
use Rattle.tocmark_text_laws.proofs.SequenceRun.{alone, none_of, fold_both, feed_end, all_back, whole_page, tell, first_run, blocks_alone, after_row, row_sequence}
use Rattle.tocmark_text_laws.proofs.SequenceBlank.{quotes_known, one_line}
use Rattle.tocmark_text_laws.proofs.ListEndsClosed.{closed_further, closed_containers, Lists}
use Rattle.tocmark_text_laws.proofs.ListEndsLine.{IsWide, Behind, Waits, Yields, shut_yields, list_ends}
use Rattle.tocmark_text_laws.proofs.ListEndsBlank.{Blanked, blank_listed}
use Rattle.tocmark_text_laws.proofs.ListEndsLeaves.{Deep, lines_deep}
use Rattle.tocmark_text_laws.proofs.ListEndsWidths.{HasWidth, lines_wide}
use Rattle.tocmark_text_laws.proofs.ListEndsFirst.{First, first_from, ascend_back, first_short, first_bytes, margin_first, margin_near, place_first, begun_in, begun_anywhere, started_in_line, started_anywhere}

-- the open quotes stay known

abbrev pub Known : State → Type 0
Known s = s.quotes ≡ quotes_of 0 (containers s.opened)

got_some : (os : List Opened) (k : ℕ) (o : Opened) → slice_get os k ≡ Some o → k < length os
got_some [] k o e = absurd cc
got_some (x ∷ xs) zero o e = omega arith
got_some (x ∷ xs) (suc k) o e = omega (arith, got_some xs k o e)

one_known : (s : State) → Known s → Known (one_closed s)
unfolding one_closed
one_known s h = by (slice_get s.opened (length s.opened - 1)) refl
  where
    rest : List Opened
    rest = take (length s.opened - 1) s.opened

    closes : Opened → State
    closes o = raised_last o.end o.line (record s { opened = rest; blocks = ended s.blocks o.block o.end })

    same : (o : Opened) → containers (raised_at rest (length rest - 1) o.end o.line) ≡ containers rest
    same o = raised_containers rest (length rest - 1) o.end o.line

    inner : (o : Opened) (b : Bool) → (if b then take (length s.quotes - 1) s.quotes else s.quotes) ≡ quotes_of 0 (containers rest) → Known (if b then record (closes o) { quotes = take (length s.quotes - 1) s.quotes } else closes o)
    inner o true e = e ∙ sym (ap (quotes_of 0) (same o))
    inner o false e = e ∙ sym (ap (quotes_of 0) (same o))

    by : (x : Option Opened) → slice_get s.opened (length s.opened - 1) ≡ x → Known (option_map_or (λ (o : Opened). quote_left o.container (closes o)) x s)
    by None e = h
    by (Some o) e = inner o (is_quote o.container) (quotes_closed (length s.opened - 1) s.opened o s.quotes (let z : length s.opened - 1 < length s.opened = got_some s.opened (length s.opened - 1) o e in omega (arith, z)) e h)

times_known : (k : ℕ) (s : State) → Known s → Known (times one_closed k s)
unfolding times
times_known zero s h = h
times_known (suc k) s h = times_known k (one_closed s) (one_known s h)

settled_quotes : (t : List ℕ) (s : State) → (settled t s).quotes ≡ s.quotes
unfolding settled
settled_quotes t s = by (slice_get s.blocks (length s.blocks - 1))
  where
    boxed : (b : Block) (k : Bool) → (if k then s else defined_as t s b).quotes ≡ s.quotes
    boxed b true = refl
    boxed b false = refl

    by : (o : Option Block) → (option_map_or (settled_as t s) o s).quotes ≡ s.quotes
    by None = refl
    by (Some b) = boxed b _

leaf_known : (t : List ℕ) (s : State) → Known s → Known (leaf_closed t s)
unfolding leaf_closed leaf_finished table_finished
leaf_known t s h = by s.leaf
  where
    finish : (u : State) → Known u → u.quotes ≡ quotes_of 0 (containers (raised_at u.opened (length u.opened - 1) u.end u.line))
    finish u k = k ∙ sym (ap (quotes_of 0) (raised_containers u.opened (length u.opened - 1) u.end u.line))

    by : (k : Leaf) → Known (leaf_closed_as k t s)
    by leaf.Nothing = h
    by leaf.Paragraph = finish (settled t s) (settled_quotes t s ∙ h ∙ sym (ap (λ os. quotes_of 0 (containers os)) ((settled_same t s).1)))
    by leaf.Indented = finish s h
    by (leaf.Fenced f) = finish s h
    by (leaf.Html k) = finish s h
    by (leaf.Metadata k) = finish s h
    by (leaf.Table x) = finish s h

pub closed_known : (t : List ℕ) (d : ℕ) (s : State) → Known s → Known (closed_to t d s)
unfolding closed_to
closed_known t d s h = times_known (length (leaf_closed t s).opened - d) (leaf_closed t s) (leaf_known t s h)

-- a page after the lines of a text that leaves a list open
pub record Holds (mark : ℕ) (s : State) : Type 0 where
  pub lists : Lists mark s
  pub behind : Behind lists.inner
  pub known : Known s

behind_take : (n : ℕ) (cs : List Container) → Behind cs → Behind (take n cs)
behind_take zero cs h = tt
behind_take (suc n) [] h = tt
behind_take (suc n) (c ∷ cs) h = h

pub waits_after : (q : List ℕ) (mark d : ℕ) (s : State) → 1 ≤ d → Holds mark s → Waits mark (closed_to q d s)
waits_after q mark zero s low h = absurd (omega (arith, low))
waits_after q mark (suc d) s low h = record {
  lists = record { inner = take d h.lists.inner; first = closed_containers q (suc d) s ∙ ap (take (suc d)) h.lists.first };
  behind = behind_take d h.lists.inner h.behind;
  quotes = closed_known q (suc d) s h.known;
}

-- what the page of the text alone says of it

pub pairs_containers : (f : Earlier) (there here : List Opened) → Pairs (OpenedOn f) there here → containers there ≡ containers here
pairs_containers f [] [] h = refl
pairs_containers f [] (y ∷ ys) h = absurd h
pairs_containers f (x ∷ xs) [] h = absurd h
pairs_containers f (x ∷ xs) (y ∷ ys) h = ap (λ c. c ∷ containers xs) (h.0).container ∙ ap (λ cs. y.container ∷ cs) (pairs_containers f xs ys (h.1))

pairs_quote : (f : Earlier) (there here : List Opened) → Pairs (OpenedOn f) there here → has_quote there ≡ has_quote here
pairs_quote f [] [] h = refl
pairs_quote f [] (y ∷ ys) h = absurd h
pairs_quote f (x ∷ xs) [] h = absurd h
pairs_quote f (x ∷ xs) (y ∷ ys) h = ap (λ c. is_quote c || has_quote xs) (h.0).container ∙ ap (λ b. is_quote y.container || b) (pairs_quote f xs ys (h.1))

marked_list : (c : Container) (mark : ℕ) → list_mark c ≡ Some mark → c ≡ container.List mark
marked_list container.Quote mark e = absurd cc
marked_list (container.List sort) mark e = let z : sort ≡ mark = cc in ap container.List z
marked_list (container.Item width) mark e = absurd cc
marked_list container.Footnote mark e = absurd cc
marked_list container.Definitions mark e = absurd cc
marked_list (container.Definition width) mark e = absurd cc

outer_list : (mark : ℕ) (os : List Opened) → outer_mark os ≡ Some mark → (inner : List Container) × (containers os ≡ container.List mark ∷ inner)
outer_list mark [] e = absurd cc
outer_list mark (o ∷ os) e = (containers os, ap (λ c. c ∷ containers os) (marked_list o.container mark e))

wide_entry : (c : Container) → is_entry c ≡ true → HasWidth c → IsWide c
wide_entry container.Quote e h = absurd cc
wide_entry (container.List sort) e h = absurd cc
wide_entry (container.Item width) e h = h
wide_entry container.Footnote e h = absurd cc
wide_entry container.Definitions e h = absurd cc
wide_entry (container.Definition width) e h = absurd cc

behind_list : (mark : ℕ) (inner : List Container) → Chain false (container.List mark ∷ inner) → AllByRecursion HasWidth (container.List mark ∷ inner) → Behind inner
behind_list mark [] h w = tt
behind_list mark (c ∷ cs) h w = wide_entry c (h.1.0) (w.1.0)

first_home : Home first_page
unfolding is_paragraph
first_home = record { house = record { chain = tt; fit = tt; housed = tt }; words = λ w. absurd cc }

pub first_core : is_core first_page.leaf ≡ true
unfolding is_core
first_core = refl

left_open : (k : Bool) (e : Bool) → (k || e) ≡ true → k ≡ false → e ≡ true
left_open true e h f = absurd cc
left_open false e h f = h

pub holds_after : (t v : List ℕ) (mark n : ℕ) → 4 * (length t + length v) < 2 ^ 64 - 1 → LeavesList t mark → Onward t (t ++ v) alone n (fold (line_taken_in core_known (t ++ v)) first_page (lines_of t)) (after_lines t) → After (after_lines t) → Holds mark (fold (line_taken_in core_known (t ++ v)) first_page (lines_of t))
holds_after t v mark n small c first (a, m, r) = record {
  lists = lists;
  behind = behind_list mark lists.inner (subst (Chain false) lists.first (home.house).chain) (subst (AllByRecursion HasWidth) lists.first (lines_wide q (lines_of t) first_page (omega (arith, small, length-append t v)) first_core tt));
  known = first.quotes ∙ quotes_known a m here r ∙ sym (ap (quotes_of 0) same);
}
  where
    q : List ℕ
    q = t ++ v

    here : State
    here = after_lines t

    there : State
    there = fold (line_taken_in core_known q) first_page (lines_of t)

    same : containers there.opened ≡ containers here.opened
    same = pairs_containers alone there.opened here.opened first.opened

    home : Home there
    home = lines_home q (lines_of t) first_page first_core first_home

    lists : Lists mark there
    lists = let found : (inner : List Container) × (containers here.opened ≡ container.List mark ∷ inner) = outer_list mark here.opened c.list in record { inner = found.0; first = same ∙ found.1 }

pub blank_ends : (f : Earlier) (there here : State) → Pairs (OpenedOn f) there.opened here.opened → there.leaf ≡ here.leaf → ends_leaf here ≡ true → has_quote there.opened ≡ false → ends_before_blank there.leaf ≡ true
blank_ends f there here p same ends e = ap ends_before_blank same ∙ left_open (has_quote here.opened) (ends_before_blank here.leaf) ends (sym (pairs_quote f there.opened here.opened p) ∙ e)

-- the page after the text and an empty line, if anything comes after them
pub record Left (t v : List ℕ) (mark : ℕ) : Type 0 where
  pub depth : ℕ
  pub low : 1 ≤ depth
  pub holds : Holds mark (fold (line_taken_in core_known ((t ++ 10 ∷ []) ++ v)) first_page (lines_of t))
  pub page : fold (line_taken_in core_known ((t ++ 10 ∷ []) ++ v)) first_page (lines_of (t ++ 10 ∷ [])) ≡ closed_to ((t ++ 10 ∷ []) ++ v) depth (fold (line_taken_in core_known ((t ++ 10 ∷ []) ++ v)) first_page (lines_of t))

pub blank_cells : (q : List ℕ) (a b : ℕ) (s : State) → line_taken_in core_known q s (line a b b (b + 1)) ≡ cells_taken_in core_known q [] (line a b b (b + 1)) s
unfolding line_taken_in
blank_cells q a b s = ap (λ bs. cells_taken_in core_known q (cells_of [] b bs) (line a b b (b + 1)) s) (none_between q b)

pub feeds : (t : List ℕ) (mark : ℕ) → LeavesList t mark → Feed t
feeds t mark c = subst (λ xs. Feed xs) (sym ((c.line).1)) (feed_end ((c.line).0))

pub lines_more : (t : List ℕ) → length t < 2 ^ 64 - 1 → Feed t → (count : ℕ) × (lines_of (t ++ 10 ∷ []) ≡ lines_of t ++ line count (length t) (length t) (length t + 1) ∷ [])
lines_more t small f = by (split_lines t (10 ∷ []) small f)
  where
    by : Splits t (10 ∷ []) (length t) (lines_of (t ++ 10 ∷ [])) (lines_of t) → (count : ℕ) × (lines_of (t ++ 10 ∷ []) ≡ lines_of t ++ line count (length t) (length t) (length t + 1) ∷ [])
    by split = (split.count, split.lines ∙ ap (λ ls. lines_of t ++ ls) (one_line (t ++ 10 ∷ []) split.count (length t)))

pub left_after : (t v : List ℕ) (mark : ℕ) → LeavesList t mark → ends_leaf (after_lines t) ≡ true → 4 * (length t + length v) + 28 < 2 ^ 64 → Left t v mark
left_after t v mark c ends small = by (lines_more t (omega (arith, small)) feed)
  where
    q : List ℕ
    q = (t ++ 10 ∷ []) ++ v

    w : List ℕ
    w = 10 ∷ v

    feed : Feed t
    feed = feeds t mark c

    some : 0 < length t
    some = omega (arith, ap length ((c.line).1), length-append ((c.line).0) (10 ∷ []))

    s : State
    s = fold (line_taken_in core_known q) first_page (lines_of t)

    first : Onward t (t ++ w) alone (0 + length (lines_of t)) (fold (line_taken_in core_known (t ++ w)) first_page (lines_of t)) (after_lines t)
    first = first_run t w (omega (arith, small)) feed (split_lines t w (omega (arith, small)) feed) some

    holds : Holds mark s
    holds = subst (λ x. Holds mark (fold (line_taken_in core_known x) first_page (lines_of t))) (sym (append_assoc t (10 ∷ []) v)) (holds_after t w mark (0 + length (lines_of t)) (omega (arith, small)) c first (all_lines t (omega (arith, small))))

    empty : has_quote s.opened ≡ false → ends_before_blank s.leaf ≡ true
    empty =
        subst (λ x. has_quote (fold (line_taken_in core_known x) first_page (lines_of t)).opened ≡ false → ends_before_blank (fold (line_taken_in core_known x) first_page (lines_of t)).leaf ≡ true) (sym (append_assoc t (10 ∷ []) v))
        (blank_ends alone (fold (line_taken_in core_known (t ++ w)) first_page (lines_of t)) (after_lines t) first.opened first.leaf ends)

    by : (count : ℕ) × (lines_of (t ++ 10 ∷ []) ≡ lines_of t ++ line count (length t) (length t) (length t + 1) ∷ []) → Left t v mark
    by (count, e) = made (blank_listed q (line count (length t) (length t) (length t + 1)) mark s holds.lists holds.known empty)
      where
        made : Blanked q (line count (length t) (length t) (length t + 1)) s → Left t v mark
        made b = record {
          depth = b.depth;
          low = b.deep;
          holds = holds;
          page = ap (fold (line_taken_in core_known q) first_page) e ∙ fold_both (line_taken_in core_known q) first_page (lines_of t) (line count (length t) (length t) (length t + 1) ∷ []) ∙ blank_cells q count (length t) s ∙ b.same;
        }

-- the empty line adds no block

pub record Ended (t : List ℕ) : Type 0 where
  pub blocks : tell (t ++ 10 ∷ []) (whole_page (t ++ 10 ∷ [])) ≡ tell t (whole_page t)
  pub definitions : (whole_page (t ++ 10 ∷ [])).definitions ≡ (whole_page t).definitions

pub ended_list : (t : List ℕ) (mark : ℕ) → LeavesList t mark → ends_leaf (after_lines t) ≡ true → 4 * length t + 28 < 2 ^ 64 → Ended t
ended_list t mark c ends small = record {
  blocks = ap (tell q) whole ∙ blocks_alone t q n (closed_to t 0 here).kept (closed_to q 0 there).pieces (closed_to q 0 there).pieces (closed_to t 0 here).pieces (closed_to q 0 there).blocks (closed_to t 0 here).blocks done.pieces (λ i e. refl) done.lasts done.blocks;
  definitions = ap (λ (s : State). s.definitions) whole ∙ done.definitions;
}
  where
    q : List ℕ
    q = t ++ 10 ∷ []

    feed : Feed t
    feed = feeds t mark c

    some : 0 < length t
    some = omega (arith, ap length ((c.line).1), length-append ((c.line).0) (10 ∷ []))

    here : State
    here = after_lines t

    there : State
    there = fold (line_taken_in core_known q) first_page (lines_of t)

    n : ℕ
    n = 0 + length (lines_of t)

    first : Onward t q alone n there here
    first = first_run t (10 ∷ []) (omega (arith, small)) feed (split_lines t (10 ∷ []) (omega (arith, small)) feed) some

    done : Onward t q alone n (closed_to q 0 there) (closed_to t 0 here)
    done = closed_on t q alone n 0 there here first

    whole : whole_page q ≡ closed_to q 0 there
    whole = by (lines_more t (omega (arith, small)) feed)
      where
        holds : Holds mark there
        holds = holds_after t (10 ∷ []) mark n (omega (arith, small)) c first (all_lines t (omega (arith, small)))

        by : (count : ℕ) × (lines_of (t ++ 10 ∷ []) ≡ lines_of t ++ line count (length t) (length t) (length t + 1) ∷ []) → whole_page q ≡ closed_to q 0 there
        by (count, e) =
            let b : Blanked q (line count (length t) (length t) (length t + 1)) there = blank_listed q (line count (length t) (length t) (length t + 1)) mark there holds.lists holds.known (blank_ends alone there here first.opened first.leaf ends) in
            ap (closed_to q 0) (ap (fold (line_taken_in core_known q) first_page) e ∙ fold_both (line_taken_in core_known q) first_page (lines_of t) (line count (length t) (length t) (length t + 1) ∷ []) ∙ blank_cells q count (length t) there ∙ b.same)
            ∙ closed_further q 0 b.depth there (omega arith)

pub quotes_after : (t : List ℕ) → After (after_lines t) → (closed_to t 0 (after_lines t)).quotes ≡ []
quotes_after t (a, m, r) = closed_known t 0 (after_lines t) (quotes_known a m (after_lines t) r) ∙ ap (λ os. quotes_of 0 (containers os)) (none_of (closed_to t 0 (after_lines t)).opened (none_open t (after_lines t)))

-- the first line of the second text ends the list

line_closes : (p u : List ℕ) (mark : ℕ) (l : Line) (s : State) → Waits mark s → Yields (p ++ u) (cells_of [] l.start (first_line u)) l s → bytes_between (p ++ u) l.start l.end ≡ first_line u → l.start + length (first_line u) + 1 < 2 ^ 64 - 1
    → begins_near_margin u ≡ true → goes_into mark (first_mark u) ≡ false → line_taken_in core_known (p ++ u) s l ≡ line_taken_in core_known (p ++ u) (closed_to (p ++ u) 0 s) l
unfolding line_taken_in
line_closes p u mark l s w y bytes few ink other =
    ap (λ bs. cells_taken_in core_known q (cells_of [] l.start bs) l s) bytes
    ∙ list_ends q cs l mark s (margin_first u l.start ink) w y (ap (λ o. goes_into mark (item_mark o)) (begun_anywhere l.start (first_line u) few) ∙ other)
    ∙ sym (ap (λ bs. cells_taken_in core_known q (cells_of [] l.start bs) l (closed_to q 0 s)) bytes)
  where
    q : List ℕ
    q = p ++ u

    cs : List Cell
    cs = cells_of [] l.start (first_line u)

pub some_margin : (u : List ℕ) → begins_near_margin u ≡ true → 0 < length u
some_margin [] h = absurd cc
some_margin (b ∷ bs) h = omega arith

-- the open leaf lets the first line of the second text begin something else
abbrev pub AllYield : List ℕ → List ℕ → State → Type 0
AllYield p u s = (l : Line) → bytes_between (p ++ u) l.start l.end ≡ first_line u → l.start + length (first_line u) + 1 < 2 ^ 64 - 1 → Yields (p ++ u) (cells_of [] l.start (first_line u)) l s

-- the lines of the second text
pub rest_closes : (p u : List ℕ) (mark : ℕ) (s : State) → Waits mark s → AllYield p u s → begins_near_margin u ≡ true → goes_into mark (first_mark u) ≡ false → 4 * (length p + length u) + 20 < 2 ^ 64 → (split : Splits p u (length p) (lines_of (p ++ u)) (lines_of p))
    → fold (line_taken_in core_known (p ++ u)) s (lines_from (p ++ u) split.count (length p) (length p) u) ≡ fold (line_taken_in core_known (p ++ u)) (closed_to (p ++ u) 0 s) (lines_from (p ++ u) split.count (length p) (length p) u)
rest_closes p u mark s waits yields ink other small split = by (lines_from q split.count k k u) refl (first_from q split.count k k u (omega (arith, some_margin u ink)))
  where
    q : List ℕ
    q = p ++ u

    k : ℕ
    k = length p

    all : length q ≡ k + length u
    all = length-append p u

    ends : AllByRecursion (IsLine q) (lines_from q split.count k k u)
    ends = all_back (IsLine q) (lines_of p) (lines_from q split.count k k u) (subst (AllByRecursion (IsLine q)) split.lines (lines-end q (omega (arith, small, all))))

    ascend : (m : ℕ) × Ascend (Inside q) q m (lines_from q split.count k k u)
    ascend = ascend_back (Inside q) q 0 (lines_of p) (lines_from q split.count k k u) (subst (Ascend (Inside q) q 0) split.lines (lines_ascend (Inside q) q (inside q)))

    short : length (first_line u) ≤ length u
    short = first_short u

    one : (l : Line) → l.start ≡ k → IsLine q l → (m : ℕ) → LineIn (Inside q) q m l → line_taken_in core_known q s l ≡ line_taken_in core_known q (closed_to q 0 s) l
    one l e g m h =
        let bytes : bytes_between q l.start l.end ≡ first_line u = first_bytes p u l e h.ordered h.within g in
        let few : l.start + length (first_line u) + 1 < 2 ^ 64 - 1 = omega (arith, e, small, short) in
        line_closes p u mark l s waits (yields l bytes few) bytes few ink other

    by : (ls : List Line) → lines_from q split.count k k u ≡ ls → First k ls → fold (line_taken_in core_known q) s ls ≡ fold (line_taken_in core_known q) (closed_to q 0 s) ls
    by [] e f = absurd (let z : [] ≡ f.first ∷ f.others = f.split in cc)
    by (l ∷ ls) e f =
        ap (λ (x : State). fold (line_taken_in core_known q) x ls)
        (one l (let z : l ≡ f.first = let y : l ∷ ls ≡ f.first ∷ f.others = f.split in cc in ap (λ (x : Line). x.start) z ∙ f.begins) ((subst (AllByRecursion (IsLine q)) e ends).0) (ascend.0) ((subst (Ascend (Inside q) q (ascend.0)) e (ascend.1)).0))

pub list_near : AListEndsNearMargin
unfolding blocks_in page_in known_of
list_near t u mark c ends ink other small = subst (λ xs. IsSequence xs t u) (append_assoc t (10 ∷ []) u) (record {
  trees = s.trees ∙ ap (λ (bs : List Told). trees_joined (tree_told bs) (read_trees u)) blocks;
  blocks = s.blocks
      ∙ ap (λ (bs : List Told). bs ++ map (later (length (blocks_in CORE q).blocks)) (blocks_told u (blocks_in CORE u))) blocks
      ∙ ap (λ n. blocks_told t (blocks_in CORE t) ++ map (later n) (blocks_told u (blocks_in CORE u))) count;
  definitions = s.definitions ∙ ap (λ (ds : List DefinitionView). ds ++ (blocks_in CORE u).definitions) e.definitions;
})
  where
    e : Ended t
    e = ended_list t mark c ends (omega (arith, small))

    q : List ℕ
    q = t ++ 10 ∷ []

    long : length q ≡ length t + 1
    long = length-append t (10 ∷ [])

    few : 4 * (length q + length u) + 20 < 2 ^ 64
    few = omega (arith, small, long)

    feed : Feed q
    feed = feed_end t

    split : Splits q u (length q) (lines_of (q ++ u)) (lines_of q)
    split = split_lines q u (omega (arith, few)) feed

    page : State
    page = fold (line_taken_in core_known (q ++ u)) first_page (lines_of q)

    left : Left t u mark
    left = left_after t u mark c ends small

    before : State
    before = fold (line_taken_in core_known (q ++ u)) first_page (lines_of t)

    waits : Waits mark page
    waits = subst (Waits mark) (sym left.page) (waits_after (q ++ u) mark left.depth before left.low left.holds)

    shut : page.leaf ≡ leaf.Nothing
    shut = ap (λ (x : State). x.leaf) left.page ∙ closed_shut (q ++ u) left.depth before

    s : IsSequence (q ++ u) q u
    s = row_sequence q u (after_row q u feed (omega (arith, long)) few split (rest_closes q u mark page waits (λ l b n. shut_yields (q ++ u) (cells_of [] l.start (first_line u)) l page shut) ink other few split) (quotes_after q (all_lines q (omega (arith, few))))) few

    blocks : blocks_told q (blocks_in CORE q) ≡ blocks_told t (blocks_in CORE t)
    blocks = e.blocks

    count : length (blocks_in CORE q).blocks ≡ length (blocks_in CORE t).blocks
    count = sym (length-map (blocks_in CORE q).blocks (told q (blocks_in CORE q).pieces)) ∙ ap length blocks ∙ length-map (blocks_in CORE t).blocks (told t (blocks_in CORE t).pieces)

pub list_between : AListEnds
list_between t u mark c ends ink other small = list_near t u mark c ends (margin_near u ink) other small

-- without an empty line

many_open : (q : List ℕ) (cs : List Cell) (l : Line) (c : Cursor) (s : State) → 1 < length s.opened → (turn_of q cs l (record { cursor = c; depth = 1 }) s ≡ turn.Passes) × (goes_directly 1 s ≡ false)
unfolding turn_of goes_directly
many_open q cs l c s h = (ap (λ b. if b then leaf_turn q cs l c s.leaf else turn.Passes) more, ap (λ b. is_paragraph s.leaf && b) more ∙ none (is_paragraph s.leaf))
  where
    more : nat_le (length s.opened) 1 ≡ false
    more = grind (arith, h, nat_tests)

    none : (b : Bool) → (b && false) ≡ false
    none true = refl
    none false = refl

list_yields : (q u : List ℕ) (mark : ℕ) (l : Line) (s : State) → Lists mark s → Deep s → (is_paragraph s.leaf && goes_on u) ≡ false → begins_at_margin u ≡ true → bytes_between q l.start l.end ≡ first_line u → l.start + length (first_line u) + 1 < 2 ^ 64 - 1
    → Yields q (cells_of [] l.start (first_line u)) l s
list_yields q u mark l s lists deep free ink bytes few = by lists.inner lists.first deep
  where
    cs : List Cell
    cs = cells_of [] l.start (first_line u)

    c : Cursor
    c = first_cursor cs

    words : bytes_between q (cell_place cs c.ink l.end) l.end ≡ first_line u
    words = ap (λ n. bytes_between q n l.end) (place_first u l.start l.end ink) ∙ bytes

    ends : (is_paragraph s.leaf && continues (container_at cs (tail_of cs) c false) (leaf_at cs (bytes_between q (cell_place cs c.ink l.end) l.end) (tail_of cs) c false false)) ≡ false
    ends =
        ap (λ bs. is_paragraph s.leaf && continues (container_at cs (tail_of cs) c false) (leaf_at cs bs (tail_of cs) c false false)) words
        ∙ ap (λ o. is_paragraph s.leaf && continues o (started_in_line (first_line u) cs)) (begun_anywhere l.start (first_line u) few)
        ∙ ap (λ x. is_paragraph s.leaf && continues (begun_in (cells_of [] 0 (first_line u))) x) (started_anywhere (first_line u) l.start (first_line u) few)
        ∙ free

    by : (inner : List Container) → containers s.opened ≡ container.List mark ∷ inner → Deep s → Yields q cs l s
    by [] e (inl h) = shut_yields q cs l s h
    by [] e (inr h) = absurd (let z : true ≡ false = sym (ap (in_list false) e) ∙ h in cc)
    by (x ∷ xs) e d =
        let long : length s.opened ≡ suc (suc (length xs)) = sym (length-map s.opened (λ (o : Opened). o.container)) ∙ ap length e in
        let many : (turn_of q cs l (record { cursor = c; depth = 1 }) s ≡ turn.Passes) × (goes_directly 1 s ≡ false) = many_open q cs l c s (omega (arith, long)) in
        record { passes = many.0; indirect = many.1; ends = ends }

pub list_at_once : AListEndsAtOnce
list_at_once t u mark c ink other free small =
    row_sequence t u
    (after_row t u feed some small split
    (rest_closes t u mark s waits (λ l b n. list_yields q u mark l s holds.lists deep (ap (λ k. is_paragraph k && goes_on u) first.leaf ∙ free) ink b n) (margin_near u ink) other small split)
    (quotes_after t (all_lines t (omega (arith, small)))))
    small
  where
    q : List ℕ
    q = t ++ u

    feed : Feed t
    feed = feeds t mark c

    some : 0 < length t
    some = omega (arith, ap length ((c.line).1), length-append ((c.line).0) (10 ∷ []))

    split : Splits t u (length t) (lines_of q) (lines_of t)
    split = split_lines t u (omega (arith, small)) feed

    s : State
    s = fold (line_taken_in core_known q) first_page (lines_of t)

    first : Onward t q alone (0 + length (lines_of t)) s (after_lines t)
    first = first_run t u small feed split some

    holds : Holds mark s
    holds = holds_after t u mark (0 + length (lines_of t)) (omega (arith, small)) c first (all_lines t (omega (arith, small)))

    waits : Waits mark s
    waits = record { lists = holds.lists; behind = holds.behind; quotes = holds.known }

    deep : Deep s
    deep = lines_deep q (lines_of t) first_page first_core first_home (inl refl)

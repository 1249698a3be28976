-- An empty line after a text ends what is open, if no container is open and no leaf that goes on after an empty line.
use Rattle.std.proofs.Common.{◌≡◌, ℕ, suc, ◌+◌, ◌*◌, ◌^◌, ◌<◌, Bool, true, false, if◌then◌else◌, nat_le, List, [], ◌∷◌, ◌++◌, length, map, append_assoc, refl, ap, sym, subst, ◌∙◌, arith, length-append}
use Rattle.std.specs.List.{fold}
use Rattle.std.proofs.lemmas.Bool.Decides.{nat_tests}
use Rattle.std.proofs.lemmas.List.{length-map}
use Rattle.tocmark_read_scan.specs.declared.syntax.TheConstants.{CORE}
use Rattle.tocmark_read_lines.specs.Cells.{cells_of, first_cursor, ink_from}
use Rattle.tocmark_read_lines.specs.Containers.{raised_at, stopped, passed, touched_from}
use Rattle.tocmark_read_lines.specs.Lines.{line_stop, line, lines_from, lines_of}
use Rattle.tocmark_read_lines.specs.declared.cell.Cursor.{Cursor}
use Rattle.tocmark_read_lines.specs.declared.container.Opened.{Opened}
use Rattle.tocmark_read_lines.specs.declared.line.Line.{Line}
use Rattle.tocmark_read_page.specs.Definitions.{DefinitionView}
use Rattle.tocmark_read_page.specs.Pages.{State, first_page, closed_to}
use Rattle.tocmark_read_page.specs.declared.leaf.Leaf.{Leaf}
use Rattle.tocmark_read_page.specs.declared.leaf.Leaf.TheVariants as leaf
use Rattle.tocmark_read_constructs.specs.Metadata.{known_of}
use Rattle.tocmark_read_blocks.specs.Blocks.{core_known, turn_of, turn_in, touched, passed_in, turn_taken_in, taken_at_in, cells_taken_in, line_taken_in, page_in, blocks_in}
use Rattle.tocmark_read_blocks.specs.Leaves.{leaf_turn}
use Rattle.tocmark_read_blocks.specs.declared.leaf.Turn.TheVariants as turn
use Rattle.tocmark_read_blocks.proofs.Steps.{blank_started}
use Rattle.tocmark_text_laws.specs.Quoted.{Told, told, blocks_told, tree_told, read_trees}
use Rattle.tocmark_text_laws.specs.Sequence.{after_lines, IsClosed, ends_before_blank, ends_all, IsQuiet, later, trees_joined, IsSequence, AnEmptyLineBetween}
use Rattle.tocmark_text_laws.proofs.Shut.{closed_shut}
use Rattle.tocmark_text_laws.proofs.Nesting.{Rests, calm, leafed}
use Rattle.tocmark_text_laws.proofs.NestRun.{After, all_lines}
use Rattle.tocmark_text_laws.proofs.Pairs.{Pairs}
use Rattle.tocmark_text_laws.proofs.Sorted.{quotes_of, containers}
use Rattle.tocmark_text_laws.proofs.QuotedRun.{none_open}
use Rattle.tocmark_text_laws.proofs.SequencePages.{Earlier, OpenedOn, Onward, closed_on}
use Rattle.tocmark_text_laws.proofs.SequenceLines.{Feed, Splits, split_lines, none_between, feed_ends, feed_stop, nothing_left}
use Rattle.tocmark_text_laws.proofs.SequenceRun.{alone, closed_already, none_of, fold_both, feed_end, whole_page, tell, first_run, blocks_alone, texts_row}

touched_none : (count end line : ℕ) (qs : List ℕ) → touched_from count end line qs [] ≡ []
unfolding raised_at
touched_none count end line [] = refl
touched_none count end line (q ∷ qs) = by (nat_le count q) (touched_none count end line qs)
  where
    by : (k : Bool) → touched_from count end line qs [] ≡ [] → (if k then [] else touched_from count end line qs []) ≡ []
    by true h = refl
    by false h = h

pub passes_blank : (t : List ℕ) (l : Line) (c : Cursor) (k : Leaf) → ends_before_blank k ≡ true → leaf_turn t [] l c k ≡ turn.Passes
unfolding leaf_turn
passes_blank t l c leaf.Nothing h = refl
passes_blank t l c leaf.Paragraph h = refl
passes_blank t l c leaf.Indented h = absurd cc
passes_blank t l c (leaf.Fenced f) h = absurd cc
passes_blank t l c (leaf.Html k) h = rw (blank, h) refl
  where
    blank : nat_le 0 c.ink ≡ true
    blank = grind (arith, nat_tests)
passes_blank t l c (leaf.Metadata k) h = absurd cc
passes_blank t l c (leaf.Table x) h = absurd cc

-- no container is open
abbrev shut : State → State
shut s = record s { opened = [] }

blank_at : (t : List ℕ) (l : Line) (c : Cursor) (s : State) → ends_before_blank s.leaf ≡ true → taken_at_in core_known t [] l (record { cursor = c; depth = 0 }) (shut s) ≡ closed_to t 0 (shut s)
unfolding turn_in turn_of passed_in
blank_at t l c s h =
    ap (λ u. turn_taken_in core_known u t [] l (record { cursor = c; depth = 0 }) (shut s)) (passes_blank t l c s.leaf h)
    ∙ blank_started core_known t [] l (record { cursor = c; depth = 0 }) (shut s) (let e : nat_le 0 c.ink ≡ true = grind (arith, nat_tests) in e)

blank_cells : (t : List ℕ) (l : Line) (s : State) → ends_before_blank s.leaf ≡ true → cells_taken_in core_known t [] l (shut s) ≡ closed_to t 0 (shut s)
unfolding cells_taken_in touched
blank_cells t l s h =
    ap (λ (os : List Opened). taken_at_in core_known t [] l (record { cursor = first_cursor []; depth = 0 }) (record s { opened = os })) (touched_none 0 l.end l.number s.quotes)
    ∙ blank_at t l (first_cursor []) s h

-- a quote is the outermost container
abbrev quoted : Opened → List Opened → List ℕ → State → State
quoted o os qs s = record s { opened = o ∷ os; quotes = 0 ∷ qs }

quote_at : (t : List ℕ) (l : Line) (c : Cursor) (o : Opened) (os : List Opened) (qs : List ℕ) (s : State) → taken_at_in core_known t [] l (record { cursor = c; depth = 0 }) (quoted o os qs s) ≡ closed_to t 0 (quoted o os qs s)
unfolding turn_in turn_of passed_in
quote_at t l c o os qs s =
    ap (λ k. turn_taken_in core_known (if k then leaf_turn t [] l c s.leaf else turn.Passes) t [] l (record { cursor = c; depth = 0 }) (quoted o os qs s)) (let e : nat_le (suc (length os)) 0 ≡ false = grind (arith, nat_tests) in e)
    ∙ blank_started core_known t [] l (record { cursor = c; depth = 0 }) (quoted o os qs s) (let e : nat_le 0 c.ink ≡ true = grind (arith, nat_tests) in e)

quote_cells : (t : List ℕ) (l : Line) (o : Opened) (os : List Opened) (qs : List ℕ) (s : State) → cells_taken_in core_known t [] l (quoted o os qs s) ≡ closed_to t 0 (quoted o os qs s)
unfolding cells_taken_in touched passed stopped first_cursor
quote_cells t l o os qs s = quote_at t l (record { column = 0; ink = ink_from [] 0 }) o os qs s

-- the pages of which an empty line ends what is open
pub data Blank (s : State) : Type 0 where
  leaf_alone : s.opened ≡ [] → ends_before_blank s.leaf ≡ true → Blank s
  quote_first : (o : Opened) → (os : List Opened) → (qs : List ℕ) → s.opened ≡ o ∷ os → s.quotes ≡ 0 ∷ qs → Blank s

pub empty_cells : (t : List ℕ) (l : Line) (s : State) → Blank s → cells_taken_in core_known t [] l s ≡ closed_to t 0 s
empty_cells t l s (leaf_alone o h) = ap (cells_taken_in core_known t [] l) same ∙ blank_cells t l s h ∙ ap (closed_to t 0) (sym same)
  where
    same : s ≡ shut s
    same = ap (λ (os : List Opened). record s { opened = os }) o
empty_cells t l s (quote_first o os qs e k) = ap (cells_taken_in core_known t [] l) same ∙ quote_cells t l o os qs s ∙ ap (closed_to t 0) (sym same)
  where
    same : s ≡ quoted o os qs s
    same = ap (λ (xs : List Opened). record s { opened = xs }) e ∙ ap (λ (xs : List ℕ). record s { opened = o ∷ os; quotes = xs }) k

blank_line : (t : List ℕ) (a b : ℕ) (s : State) → Blank s → line_taken_in core_known t s (line a b b (b + 1)) ≡ closed_to t 0 s
unfolding line_taken_in
blank_line t a b s h =
    ap (λ bs. cells_taken_in core_known t (cells_of [] b bs) (line a b b (b + 1)) s) (none_between t b)
    ∙ empty_cells t (line a b b (b + 1)) s h

-- the open quotes are known
pub quotes_known : (c n : ℕ) (s : State) → Rests 0 n c n s → s.quotes ≡ quotes_of 0 (containers s.opened)
quotes_known c n s (calm e k) = (k.2).quotes
quotes_known c n s (leafed w low fs b k) = (k.sorted).quotes

pub blank_page : (f : Earlier) (there here : State) → Pairs (OpenedOn f) there.opened here.opened → there.leaf ≡ here.leaf → there.quotes ≡ here.quotes → here.quotes ≡ quotes_of 0 (containers here.opened) → ends_all here.opened here.leaf ≡ true → Blank there
blank_page f there here p same qs known h = by there.opened here.opened refl p known h
  where
    by : (xs ys : List Opened) → there.opened ≡ xs → Pairs (OpenedOn f) xs ys → here.quotes ≡ quotes_of 0 (containers ys) → ends_all ys here.leaf ≡ true → Blank there
    by [] [] e p k h = leaf_alone e (ap ends_before_blank same ∙ h)
    by [] (y ∷ ys) e p k h = absurd p
    by (x ∷ xs) [] e p k h = absurd p
    by (x ∷ xs) (y ∷ ys) e p k h = quote_first x xs (quotes_of 1 (containers ys)) e (qs ∙ k ∙ ap (λ b. if b then 0 ∷ quotes_of 1 (containers ys) else quotes_of 1 (containers ys)) h)

-- the lines of a text and of an empty line
pub one_line : (q : List ℕ) (a b : ℕ) → lines_from q a b b (10 ∷ []) ≡ line a b b (b + 1) ∷ []
one_line q a b =
    ap (λ k. if k then line a b (line_stop q b 10 b) (b + 1) ∷ lines_from q (a + 1) (b + 1) (b + 1) [] else lines_from q a b (b + 1) []) (feed_ends q 10 b refl)
    ∙ ap (λ n. line a b n (b + 1) ∷ lines_from q (a + 1) (b + 1) (b + 1) []) (feed_stop q b)
    ∙ ap (λ ls. line a b b (b + 1) ∷ ls) (nothing_left (a + 1) (b + 1))

pub record Ended (t : List ℕ) : Type 0 where
  pub closed : IsClosed (t ++ 10 ∷ [])
  pub blocks : tell (t ++ 10 ∷ []) (whole_page (t ++ 10 ∷ [])) ≡ tell t (whole_page t)
  pub definitions : (whole_page (t ++ 10 ∷ [])).definitions ≡ (whole_page t).definitions

pub ended : (t : List ℕ) → IsQuiet t → 4 * length t + 28 < 2 ^ 64 → Ended t
ended t c small = record {
  closed = record { line = (t, refl); leaf = ap (λ (s : State). s.leaf) last ∙ closed_shut q 0 there; opened = ap (λ (s : State). s.opened) last ∙ none };
  blocks = ap (tell q) whole ∙ blocks_alone t q n (closed_to t 0 here).kept (closed_to q 0 there).pieces (closed_to q 0 there).pieces (closed_to t 0 here).pieces (closed_to q 0 there).blocks (closed_to t 0 here).blocks done.pieces (λ i e. refl) done.lasts done.blocks;
  definitions = ap (λ (s : State). s.definitions) whole ∙ done.definitions;
}
  where
    q : List ℕ
    q = t ++ 10 ∷ []

    feed : Feed t
    feed = subst (λ xs. Feed xs) (sym ((c.line).1)) (feed_end ((c.line).0))

    some : 0 < length t
    some = omega (arith, ap length ((c.line).1), length-append ((c.line).0) (10 ∷ []))

    split : Splits t (10 ∷ []) (length t) (lines_of q) (lines_of t)
    split = split_lines t (10 ∷ []) (omega (arith, small)) feed

    here : State
    here = after_lines t

    there : State
    there = fold (line_taken_in core_known q) first_page (lines_of t)

    n : ℕ
    n = 0 + length (lines_of t)

    first : Onward t q alone n there here
    first = first_run t (10 ∷ []) (omega (arith, small)) feed split some

    done : Onward t q alone n (closed_to q 0 there) (closed_to t 0 here)
    done = closed_on t q alone n 0 there here first

    known : After here → here.quotes ≡ quotes_of 0 (containers here.opened)
    known (a, m, r) = quotes_known a m here r

    blank : Blank there
    blank = blank_page alone there here first.opened first.leaf first.quotes (known (all_lines t (omega (arith, small)))) c.ends

    last : after_lines q ≡ closed_to q 0 there
    last =
        ap (fold (line_taken_in core_known q) first_page) (split.lines ∙ ap (λ ls. lines_of t ++ ls) (one_line q split.count (length t)))
        ∙ fold_both (line_taken_in core_known q) first_page (lines_of t) (line split.count (length t) (length t) (length t + 1) ∷ [])
        ∙ blank_line q split.count (length t) there blank

    none : (closed_to q 0 there).opened ≡ []
    none = none_of (closed_to q 0 there).opened (none_open q there)

    whole : whole_page q ≡ closed_to q 0 there
    whole = ap (closed_to q 0) last ∙ closed_already q (closed_to q 0 there) (closed_shut q 0 there) none

pub blank_between : AnEmptyLineBetween
unfolding blocks_in page_in known_of
blank_between t u c small = subst (λ xs. IsSequence xs t u) (append_assoc t (10 ∷ []) u) (record {
  trees = s.trees ∙ ap (λ (bs : List Told). trees_joined (tree_told bs) (read_trees u)) blocks;
  blocks = s.blocks
      ∙ ap (λ (bs : List Told). bs ++ map (later (length (blocks_in CORE q).blocks)) (blocks_told u (blocks_in CORE u))) blocks
      ∙ ap (λ n. blocks_told t (blocks_in CORE t) ++ map (later n) (blocks_told u (blocks_in CORE u))) count;
  definitions = s.definitions ∙ ap (λ (ds : List DefinitionView). ds ++ (blocks_in CORE u).definitions) e.definitions;
})
  where
    e : Ended t
    e = ended t c (omega (arith, small))

    q : List ℕ
    q = t ++ 10 ∷ []

    s : IsSequence (q ++ u) q u
    s = texts_row q u e.closed (omega (arith, small, length-append t (10 ∷ [])))

    blocks : blocks_told q (blocks_in CORE q) ≡ blocks_told t (blocks_in CORE t)
    blocks = e.blocks

    count : length (blocks_in CORE q).blocks ≡ length (blocks_in CORE t).blocks
    count = sym (length-map (blocks_in CORE q).blocks (told q (blocks_in CORE q).pieces)) ∙ ap length blocks ∙ length-map (blocks_in CORE t).blocks (told t (blocks_in CORE t).pieces)

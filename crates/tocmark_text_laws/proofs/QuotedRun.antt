-- With a block quote marker in front of each line, the blocks of a text are in one quote.
use Rattle.std.proofs.Common.{◌≡◌, ℕ, zero, suc, ◌+◌, ◌-◌, ◌*◌, ◌^◌, ◌<◌, ◌≤◌, Bool, true, false, if◌then◌else◌, List, [], ◌∷◌, length, map, take, drop, refl, ap, sym, subst, ◌∙◌, arith}
use Rattle.std.specs.Prelude.{slice_get, Option, Some, None}
use Rattle.std.specs.List.{fold}
use Rattle.std.specs.Option.{option_map_or}
use Rattle.tocmark_read_scan.specs.Basic.{bytes_between}
use Rattle.tocmark_read_scan.specs.declared.syntax.TheConstants.{CORE}
use Rattle.tocmark_read_lines.specs.Lines.{lines_of}
use Rattle.tocmark_read_lines.specs.declared.container.Container.{Container}
use Rattle.tocmark_read_lines.specs.declared.container.Opened.{Opened}
use Rattle.tocmark_read_lines.specs.declared.line.Line.{Line}
use Rattle.tocmark_read_page.specs.Pages.{State, first_page, ended, raised_last, is_quote, quote_left, one_closed, times, leaf_closed, closed_to}
use Rattle.tocmark_read_page.specs.declared.page.Block.{Block}
use Rattle.tocmark_read_page.specs.declared.piece.Piece.{Piece}
use Rattle.tocmark_read_constructs.specs.Metadata.{known_of}
use Rattle.tocmark_read_blocks.specs.Blocks.{core_known, line_taken_in, page_in, blocks_in}
use Rattle.tocmark_text_laws.specs.Quoted.{quoted, LineTold, line_told, Told, told, blocks_told, outer_quote, deeper, tree_told, MarksMakeAQuote}
use Rattle.tocmark_text_laws.proofs.Pairs.{Pairs, pairs_take, pairs_drop, After, LastOf, after_length, after_last_got}
use Rattle.tocmark_text_laws.proofs.QuotedContainers.{OpenedOn, IsOuter}
use Rattle.tocmark_text_laws.proofs.QuotedPieces.{PieceOn}
use Rattle.tocmark_text_laws.proofs.QuotedPages.{Shape, shape_of, shape_on, BlockOn, IsFirst, Inside, inside_more, one_fewer, leaf_closed_two, closed_two}
use Rattle.tocmark_text_laws.proofs.QuotedLines.{LinesOn, IsMarked, quoted_lines, some_line}
use Rattle.tocmark_text_laws.proofs.QuotedTrees.{one_tree}
use Rattle.tocmark_text_laws.proofs.QuotedTurns.{line_two, first_two}

-- the lines come in

-- pages with so many open containers at most
abbrev Reaches : List ℕ → List ℕ → State → State → Type 0
Reaches t q there here = (n : ℕ) × Inside t q n there here

run_two : (t q : List ℕ) (n before : ℕ) (ls' ls : List Line) (there here : State) → LinesOn IsMarked t q before n ls' ls → 2 * n + 9 < 2 ^ 64 → Inside t q (2 * n) there here
    → Reaches t q (fold (line_taken_in core_known q) there ls') (fold (line_taken_in core_known t) here ls)
run_two t q n before [] [] there here h few g = (2 * n, g)
run_two t q n before [] (l ∷ ls) there here h few g = absurd h
run_two t q n before (l' ∷ ls') [] there here h few g = absurd h
run_two t q n before (l' ∷ ls') (l ∷ ls) there here (row, rest) few g =
    run_two t q l.next (before + 1) ls' ls (line_taken_in core_known q there l') (line_taken_in core_known t here l) rest row.line.near
    (inside_more t q (2 * n + 2 * (l.end - l.start)) (2 * l.next) (line_taken_in core_known q there l') (line_taken_in core_known t here l) (omega (arith, row.low, row.line.order, row.line.onto)) (line_two t q (2 * n) before n l' l there here row few g))

run_first : (t q : List ℕ) (ls' ls : List Line) → LinesOn IsMarked t q 0 0 ls' ls → 0 < length ls → Reaches t q (fold (line_taken_in core_known q) first_page ls') (fold (line_taken_in core_known t) first_page ls)
run_first t q [] [] h some = absurd (omega (arith, some))
run_first t q [] (l ∷ ls) h some = absurd h
run_first t q (l' ∷ ls') [] h some = absurd h
run_first t q (l' ∷ ls') (l ∷ ls) (row, rest) some =
    run_two t q l.next 1 ls' ls (line_taken_in core_known q first_page l') (line_taken_in core_known t first_page l) rest row.line.near
    (inside_more t q (2 * (l.end - l.start)) (2 * l.next) (line_taken_in core_known q first_page l') (line_taken_in core_known t first_page l) (omega (arith, row.line.order, row.line.onto)) (first_two t q 0 0 l' l row))

-- all containers end

pub times_last : (k : ℕ) (s : State) → times one_closed (suc k) s ≡ one_closed (times one_closed k s)
unfolding times
times_last zero s = refl
times_last (suc k) s = times_last k (one_closed s)

pub times_fewer : (k : ℕ) (s : State) → k ≤ length s.opened → length (times one_closed k s).opened ≡ length s.opened - k
unfolding times
times_fewer zero s low = omega arith
times_fewer (suc k) s low =
    let one : length (one_closed s).opened ≡ length s.opened - 1 = one_fewer s (omega (arith, low)) in
    omega (arith, one, times_fewer k (one_closed s) (omega (arith, one, low)))

pub none_open : (t : List ℕ) (s : State) → length (closed_to t 0 s).opened ≡ 0
unfolding closed_to
none_open t s = omega (arith, times_fewer (length (leaf_closed t s).opened - 0) (leaf_closed t s) (omega arith))

one_more : (t q : List ℕ) (n : ℕ) (there here : State) → Inside t q n there here → closed_to q 0 there ≡ one_closed (closed_to q 1 there)
unfolding closed_to
one_more t q n there here h =
    ap (λ k. times one_closed k u) (let z : length u.opened - 0 ≡ suc (length u.opened - 1) = omega (arith, long) in z) ∙ times_last (length u.opened - 1) u
  where
    u : State
    u = leaf_closed q there

    long : length u.opened ≡ suc (length (leaf_closed t here).opened)
    long = after_length IsOuter OpenedOn u.opened (leaf_closed t here).opened (leaf_closed_two t q n there here h).opened.after

-- what is left is that of the text without markers
record Left (t q : List ℕ) (there here : State) : Type 0 where
  blocks : After (IsFirst q) (BlockOn t q) there.blocks here.blocks
  pieces : Pairs (PieceOn t q) there.pieces here.pieces
  definitions : there.definitions ≡ here.definitions

ended_first : (t q : List ℕ) (end : ℕ) (there here : List Block) → After (IsFirst q) (BlockOn t q) there here → After (IsFirst q) (BlockOn t q) (ended there 0 end) here
unfolding ended
ended_first t q end [] here h = absurd h
ended_first t q end (b ∷ bs) here h = h

outer_closed : (t q : List ℕ) (n : ℕ) (there here : State) → length here.opened ≡ 0 → Inside t q n there here → Left t q (one_closed there) here
unfolding one_closed
outer_closed t q n there here none h = by (slice_get there.opened (length there.opened - 1)) (slice_get here.opened (length here.opened - 1)) (nothing here.opened (length here.opened - 1) none) (after_last_got IsOuter OpenedOn there.opened here.opened h.opened.after)
  where
    nothing : (os : List Opened) (i : ℕ) → length os ≡ 0 → slice_get os i ≡ None
    nothing [] i e = refl
    nothing (o ∷ os) i e = absurd (omega (arith, e))

    leaves : (c : Container) (u : State) → Left t q u here → Left t q (quote_left c u) here
    leaves c u k = each (is_quote c)
      where
        each : (b : Bool) → Left t q (if b then record u { quotes = take (length u.quotes - 1) u.quotes } else u) here
        each true = record { blocks = k.blocks; pieces = k.pieces; definitions = k.definitions }
        each false = k

    by : (o p : Option Opened) → p ≡ None → LastOf IsOuter OpenedOn o p
        → Left t q (option_map_or (λ (o : Opened). quote_left o.container (raised_last o.end o.line (record there { opened = take (length there.opened - 1) there.opened; blocks = ended there.blocks o.block o.end }))) o there) here
    by None None e u = record { blocks = h.blocks; pieces = h.pieces; definitions = h.definitions }
    by None (Some y) e u = absurd cc
    by (Some x) (Some y) e u = absurd cc
    by (Some x) None e u =
        leaves x.container (raised_last x.end x.line (record there { opened = take (length there.opened - 1) there.opened; blocks = ended there.blocks x.block x.end }))
        (record { blocks = subst (λ i. After (IsFirst q) (BlockOn t q) (ended there.blocks i x.end) here.blocks) (sym u.first) (ended_first t q x.end there.blocks here.blocks h.blocks); pieces = h.pieces; definitions = h.definitions })

all_closed : (t q : List ℕ) (there here : State) → Reaches t q there here → Left t q (closed_to q 0 there) (closed_to t 0 here)
all_closed t q there here (n, h) = subst (λ u. Left t q u (closed_to t 0 here)) (sym (one_more t q n there here h)) (outer_closed t q n (closed_to q 1 there) (closed_to t 0 here) (none_open t here) (closed_two t q n 0 there here h))

-- blocks without their places

pub lines_same : (t q : List ℕ) (xs ys : List Piece) → Pairs (PieceOn t q) xs ys → map (line_told q) xs ≡ map (line_told t) ys
lines_same t q [] [] h = refl
lines_same t q [] (y ∷ ys) h = absurd h
lines_same t q (x ∷ xs) [] h = absurd h
lines_same t q (x ∷ xs) (y ∷ ys) h = ap (λ l. l ∷ map (line_told q) xs) line ∙ ap (λ ls. line_told t y ∷ ls) (lines_same t q xs ys (h.1))
  where
    made : ℕ → List ℕ → List ℕ → LineTold
    made s w e = record { spaces = s; words = w; whole = e }

    line : line_told q x ≡ line_told t y
    line =
        ap (λ s. made s (bytes_between q x.start x.end) (bytes_between q x.start x.next)) (h.0).spaces
        ∙ ap (λ w. made y.spaces w (bytes_between q x.start x.next)) (h.0).words
        ∙ ap (made y.spaces (bytes_between t y.start y.end)) (h.0).whole

-- what a shape says of a block
abbrev pub shown : List ℕ → List Piece → Shape → Told
shown text pieces s = record { depth = s.depth; sort = s.sort; loose = s.loose; list = s.list; lines = map (line_told text) (drop s.first (take s.last pieces)) }

block_same : (t q : List ℕ) (ps' ps : List Piece) (x y : Block) → Pairs (PieceOn t q) ps' ps → BlockOn t q x y → told q ps' x ≡ deeper (told t ps y)
block_same t q ps' ps x y h u = ap (shown q ps') u ∙ ap made (lines_same t q (drop y.first (take y.last ps')) (drop y.first (take y.last ps)) (pairs_drop (PieceOn t q) y.first (take y.last ps') (take y.last ps) (pairs_take (PieceOn t q) y.last ps' ps h)))
  where
    made : List LineTold → Told
    made ls = record { depth = suc y.depth; sort = (shape_of t y).sort; loose = y.loose; list = (shape_on (shape_of t y)).list; lines = ls }

blocks_same : (t q : List ℕ) (ps' ps : List Piece) (xs ys : List Block) → Pairs (PieceOn t q) ps' ps → Pairs (BlockOn t q) xs ys → map (told q ps') xs ≡ map deeper (map (told t ps) ys)
blocks_same t q ps' ps [] [] h u = refl
blocks_same t q ps' ps [] (y ∷ ys) h u = absurd u
blocks_same t q ps' ps (x ∷ xs) [] h u = absurd u
blocks_same t q ps' ps (x ∷ xs) (y ∷ ys) h u = ap (λ b. b ∷ map (told q ps') xs) (block_same t q ps' ps x y h (u.0)) ∙ ap (λ bs. deeper (told t ps y) ∷ bs) (blocks_same t q ps' ps xs ys h (u.1))

all_same : (t q : List ℕ) (ps' ps : List Piece) (xs ys : List Block) → Pairs (PieceOn t q) ps' ps → After (IsFirst q) (BlockOn t q) xs ys → map (told q ps') xs ≡ outer_quote ∷ map deeper (map (told t ps) ys)
all_same t q ps' ps [] ys h u = absurd u
all_same t q ps' ps (x ∷ xs) ys h u = ap (λ b. b ∷ map (told q ps') xs) (ap (shown q ps') (u.0)) ∙ ap (λ bs. outer_quote ∷ bs) (blocks_same t q ps' ps xs ys h (u.1))

pub quoted_blocks : MarksMakeAQuote
unfolding blocks_in page_in known_of
quoted_blocks marks t some fits plain are = record { trees = ap tree_told blocks ∙ one_tree (blocks_told t (blocks_in CORE t)); blocks = blocks; definitions = left.definitions }
  where
    left : Left t (quoted marks t) (closed_to (quoted marks t) 0 (fold (line_taken_in core_known (quoted marks t)) first_page (lines_of (quoted marks t)))) (closed_to t 0 (fold (line_taken_in core_known t) first_page (lines_of t)))
    left = all_closed t (quoted marks t) _ _ (run_first t (quoted marks t) (lines_of (quoted marks t)) (lines_of t) (quoted_lines marks t fits plain are) (some_line t some))

    blocks : blocks_told (quoted marks t) (blocks_in CORE (quoted marks t)) ≡ outer_quote ∷ map deeper (blocks_told t (blocks_in CORE t))
    blocks = all_same t (quoted marks t) _ _ _ _ left.pieces left.blocks

-- The blocks of two texts in a row are those of the first one, and then those of the other one.
use Rattle.std.proofs.Common.{◌≡◌, inl, inr, ℕ, zero, suc, ◌+◌, ◌-◌, ◌*◌, ◌^◌, ◌<◌, ◌≤◌, List, [], ◌∷◌, ◌++◌, length, map, take, drop, append-nil, refl, ap, sym, subst, ◌∙◌, arith, length-append, true≢false}
use Rattle.std.specs.Prelude.{replicate, slice_get, Option, Some, None}
use Rattle.std.specs.List.{AllByRecursion, fold}
use Rattle.std.specs.Option.{option_map}
use Rattle.std.proofs.lemmas.List.{take-map, drop-map}
use Rattle.tocmark_read_scan.specs.Basic.{bytes_between}
use Rattle.tocmark_read_scan.specs.declared.syntax.TheConstants.{CORE}
use Rattle.tocmark_read_lines.specs.Lines.{lines_from, lines_of}
use Rattle.tocmark_read_lines.specs.declared.container.Opened.{Opened}
use Rattle.tocmark_read_lines.specs.declared.line.Line.{Line}
use Rattle.tocmark_read_page.specs.Definitions.{DefinitionView}
use Rattle.tocmark_read_page.specs.Pages.{State, first_page, leaf_closed_as, leaf_closed, one_closed, times, closed_to}
use Rattle.tocmark_read_page.specs.declared.leaf.Leaf.TheVariants as leaf
use Rattle.tocmark_read_page.specs.declared.page.Block.{Block}
use Rattle.tocmark_read_page.specs.declared.page.BlockKind.{BlockKind}
use Rattle.tocmark_read_page.specs.declared.page.BlockKind.TheVariants as kind
use Rattle.tocmark_read_page.specs.declared.piece.Piece.{Piece}
use Rattle.tocmark_read_constructs.specs.Metadata.{known_of}
use Rattle.tocmark_read_blocks.specs.Blocks.{BlocksView, core_known, line_taken_in, page_in, blocks_in}
use Rattle.tocmark_text_laws.specs.Further.{piece_on, kind_on, block_on, view_on}
use Rattle.tocmark_text_laws.specs.Lines.{IsLine}
use Rattle.tocmark_text_laws.specs.Quoted.{sort_of, LineTold, line_told, Told, told, blocks_told, tree_told}
use Rattle.tocmark_text_laws.specs.Housed.{AreHoused}
use Rattle.tocmark_text_laws.specs.Sequence.{after_lines, IsClosed, later, IsSequence, TextsInARow}
use Rattle.tocmark_text_laws.proofs.LinesFurther.{between_on}
use Rattle.tocmark_text_laws.proofs.Moved.{copies_length}
use Rattle.tocmark_text_laws.proofs.Front.{front}
use Rattle.tocmark_text_laws.proofs.Shut.{closed_shut}
use Rattle.tocmark_text_laws.proofs.QuotedRun.{none_open}
use Rattle.tocmark_text_laws.proofs.Endings.{lines-end}
use Rattle.tocmark_text_laws.proofs.Low.{LowLine, lines_low}
use Rattle.tocmark_text_laws.proofs.Placed.{is_worded}
use Rattle.tocmark_text_laws.proofs.Ranged.{Ascend, Rest, lines_ascend, from_ascends}
use Rattle.tocmark_text_laws.proofs.Nesting.{Rests, calm, leafed}
use Rattle.tocmark_text_laws.proofs.NestRun.{After, all_lines, lines_few}
use Rattle.tocmark_text_laws.proofs.Sorted.{quotes_of, containers}
use Rattle.tocmark_text_laws.proofs.HouseWalk.{blocks_housed}
use Rattle.tocmark_text_laws.proofs.Pages.{is_shut}
use Rattle.tocmark_text_laws.proofs.Leaves.{is_core}
use Rattle.tocmark_text_laws.proofs.Pairs.{Pairs, pairs_length, pairs_take, pairs_drop}
use Rattle.tocmark_text_laws.proofs.Fronts.{Past, past, past_is, past_drop, past_take}
use Rattle.tocmark_text_laws.proofs.Beyond.{Ahead, Before, beyond}
use Rattle.tocmark_text_laws.proofs.QuotedPages.{Shape, shape_of}
use Rattle.tocmark_text_laws.proofs.SequencePieces.{PieceOn}
use Rattle.tocmark_text_laws.proofs.SequencePages.{Earlier, OpenedOn, shape_on, BlockOn, Within, Onward, closed_on}
use Rattle.tocmark_text_laws.proofs.SequenceTurns.{line_on}
use Rattle.tocmark_text_laws.proofs.SequenceLines.{Inside, inside, Shares, shared_lines, agrees_front, agrees_later, Feed, Splits, split_lines, Follows, follow_from, blanks, blank_lines, blanks_taken}
use Rattle.tocmark_text_laws.proofs.SequenceTrees.{Outermost, trees_in_a_row}

-- the lines come in

pub run_on : (t q : List ℕ) (f : Earlier) (n : ℕ) (ls' ls : List Line) (there here : State) → Pairs (Follows f.lines) ls' ls → AllByRecursion (Shares t q) ls → length f.pieces + (n + length ls) + 1 < 2 ^ 64 - 1 → Onward t q f n there here
    → Onward t q f (n + length ls) (fold (line_taken_in core_known q) there ls') (fold (line_taken_in core_known t) here ls)
run_on t q f n [] [] there here p s room h = subst (λ m. Onward t q f m there here) (let z : n ≡ n + 0 = omega arith in z) h
run_on t q f n [] (l ∷ ls) there here p s room h = absurd p
run_on t q f n (l' ∷ ls') [] there here p s room h = absurd p
run_on t q f n (l' ∷ ls') (l ∷ ls) there here p s room h =
    subst (λ m. Onward t q f m (fold (line_taken_in core_known q) (line_taken_in core_known q there l') ls') (fold (line_taken_in core_known t) (line_taken_in core_known t here l) ls)) (let z : suc n + length ls ≡ n + suc (length ls) = omega arith in z)
    (run_on t q f (suc n) ls' ls (line_taken_in core_known q there l') (line_taken_in core_known t here l) (p.1) (s.1) (omega (arith, room))
    (subst (λ x. Onward t q f (suc n) (line_taken_in core_known q there x) (line_taken_in core_known t here l)) (sym ((p.0).0))
    (line_on t q f n l'.number l there here (record { line = s.0; later = (p.0).1; room = omega (arith, room) }) h)))

-- nothing is in front
abbrev pub alone : Earlier
alone = record { blocks = Before []; pieces = []; definitions = []; lines = 0 }

first_onward : (t q : List ℕ) → Onward t q alone 0 first_page first_page
unfolding is_core is_shut
first_onward t q = record { opened = tt; inner = tt; blocks = tt; pieces = tt; definitions = refl; quotes = refl; leaf = refl; core = refl; few = omega arith; room = omega arith; lasts = tt; tied = λ o. absurd cc }

same_lines : (ls : List Line) → Pairs (Follows 0) ls ls
same_lines [] = tt
same_lines (l ∷ ls) = ((refl, omega arith), same_lines ls)

pub past_self : {A B : Type 0} (fs : List A) (R : A → B → Type 0) → Past fs R fs []
past_self [] R = tt
past_self (f ∷ fs) R = (refl, past_self fs R)

-- the page after the first text, with all of it in front
pub begin_onward : (t q : List ℕ) (s : State) (d : ℕ) → s.leaf ≡ leaf.Nothing → s.opened ≡ [] → s.quotes ≡ [] → length s.pieces + 1 < 2 ^ 64 - 1
    → Onward t q (record { blocks = Before s.blocks; pieces = s.pieces; definitions = s.definitions; lines = d }) 0 s first_page
unfolding is_core is_shut
begin_onward t q s d l o qs room = record {
  opened = subst (λ os. Pairs (OpenedOn f) os []) (sym o) tt;
  inner = tt;
  blocks = past_self s.blocks (BlockOn t q f 0);
  pieces = past_self s.pieces (PieceOn t q);
  definitions = sym (append-nil s.definitions);
  quotes = qs;
  leaf = l;
  core = refl;
  few = omega arith;
  room = omega (arith, room);
  lasts = tt;
  tied = λ x. absurd cc;
}
  where
    f : Earlier
    f = record { blocks = Before s.blocks; pieces = s.pieces; definitions = s.definitions; lines = d }

-- nothing is left to end
pub closed_already : (t : List ℕ) (s : State) → s.leaf ≡ leaf.Nothing → s.opened ≡ [] → closed_to t 0 s ≡ s
unfolding closed_to leaf_closed times
closed_already t s l o =
    ap (λ (u : State). times one_closed (length u.opened - 0) u) (ap (λ k. leaf_closed_as k t s) l)
    ∙ ap (λ (os : List Opened). times one_closed (length os - 0) s) o

pub quotes_none : (c n : ℕ) (s : State) → Rests 0 n c n s → s.leaf ≡ leaf.Nothing → s.opened ≡ [] → s.quotes ≡ []
quotes_none c n s (calm e k) l o = (k.2).quotes ∙ ap (λ os. quotes_of 0 (containers os)) o
quotes_none c n s (leafed w low fs b k) l o = absurd (true≢false (sym w ∙ ap is_worded l))

-- blocks without their places

line_same : (t q : List ℕ) (x y : Piece) → PieceOn t q x y → line_told q x ≡ line_told t y
line_same t q x y h = ap (line_told q) h.same ∙ ap (λ w. made w (bytes_between q y.start y.next)) h.words ∙ ap (made (bytes_between t y.start y.end)) h.whole
  where
    made : List ℕ → List ℕ → LineTold
    made w e = record { spaces = y.spaces; words = w; whole = e }

lines_same : (t q : List ℕ) (xs ys : List Piece) → Pairs (PieceOn t q) xs ys → map (line_told q) xs ≡ map (line_told t) ys
lines_same t q [] [] h = refl
lines_same t q [] (y ∷ ys) h = absurd h
lines_same t q (x ∷ xs) [] h = absurd h
lines_same t q (x ∷ xs) (y ∷ ys) h = ap (λ l. l ∷ map (line_told q) xs) (line_same t q x y (h.0)) ∙ ap (λ ls. line_told t y ∷ ls) (lines_same t q xs ys (h.1))

-- what a shape says of a block
abbrev shown : Shape → List LineTold → Told
shown s ls = record { depth = s.depth; sort = s.sort; loose = s.loose; list = s.list; lines = ls }

lists_later : {A : Type 0} (fs : List A) (list : Option ℕ) → option_map (past fs) list ≡ option_map (λ i. length fs + i) list
lists_later fs None = refl
lists_later fs (Some i) = ap Some (past_is fs i)

-- the same block in another list
abbrev pub relisted : Option ℕ → Told → Told
relisted list b = record { depth = b.depth; sort = b.sort; loose = b.loose; list = list; lines = b.lines }

pub block_relisted : (t q : List ℕ) (f : Earlier) (n : ℕ) (ps' ps : List Piece) (x y : Block) → Past f.pieces (PieceOn t q) ps' ps → BlockOn t q f n x y → told q ps' x ≡ relisted (option_map (beyond f.blocks) y.list) (told t ps y)
block_relisted t q f n ps' ps x y h u =
    ap (λ (s : Shape). shown s (map (line_told q) (drop s.first (take s.last ps')))) u.shape
    ∙ ap (shown (shape_on f (shape_of t y))) (lines_same t q (drop (past f.pieces y.first) (take (past f.pieces y.last) ps')) (drop y.first (take y.last ps)) (past_drop f.pieces (PieceOn t q) y.first (take (past f.pieces y.last) ps') (take y.last ps) (past_take f.pieces (PieceOn t q) y.last ps' ps h)))

block_later : (t q : List ℕ) (f : Earlier) (gs : List Block) (n : ℕ) (ps' ps : List Piece) (x y : Block) → f.blocks ≡ Before gs → Past f.pieces (PieceOn t q) ps' ps → BlockOn t q f n x y → told q ps' x ≡ later (length gs) (told t ps y)
block_later t q f gs n ps' ps x y e h u =
    block_relisted t q f n ps' ps x y h u
    ∙ ap (λ list. relisted list (told t ps y)) (ap (λ (g : Ahead). option_map (beyond g) y.list) e ∙ lists_later gs y.list)

blocks_later : (t q : List ℕ) (f : Earlier) (hs : List Block) (n : ℕ) (ps' ps : List Piece) (fs xs ys : List Block) → f.blocks ≡ Before hs → Past f.pieces (PieceOn t q) ps' ps → Past fs (BlockOn t q f n) xs ys → map (told q ps') xs ≡ map (told q ps') fs ++ map (later (length hs)) (map (told t ps) ys)
blocks_later t q f hs n ps' ps [] [] [] e h u = refl
blocks_later t q f hs n ps' ps [] [] (y ∷ ys) e h u = absurd u
blocks_later t q f hs n ps' ps [] (x ∷ xs) [] e h u = absurd u
blocks_later t q f hs n ps' ps [] (x ∷ xs) (y ∷ ys) e h u = ap (λ b. b ∷ map (told q ps') xs) (block_later t q f hs n ps' ps x y e h (u.0)) ∙ ap (λ bs. later (length hs) (told t ps y) ∷ bs) (blocks_later t q f hs n ps' ps [] xs ys e h (u.1))
blocks_later t q f hs n ps' ps (g ∷ gs) [] ys e h u = absurd u
blocks_later t q f hs n ps' ps (g ∷ gs) (x ∷ xs) ys e h u = ap (λ z. told q ps' z ∷ map (told q ps') xs) (u.0) ∙ ap (λ bs. told q ps' g ∷ bs) (blocks_later t q f hs n ps' ps gs xs ys e h (u.1))

-- the blocks in front keep their lines

none_dropped : (n : ℕ) → drop {A = Piece} n [] ≡ []
none_dropped zero = refl
none_dropped (suc n) = refl

no_lines : (first last : ℕ) (ps : List Piece) → last ≤ first → drop first (take last ps) ≡ []
no_lines first zero ps h = none_dropped first
no_lines zero (suc last) ps h = absurd (omega (arith, h))
no_lines (suc first) (suc last) [] h = refl
no_lines (suc first) (suc last) (p ∷ ps) h = no_lines first last ps (omega (arith, h))

pub take_front : {B : Type 0} (R : Piece → B → Type 0) (n : ℕ) (fs xs : List Piece) (ys : List B) → n ≤ length fs → Past fs R xs ys → take n xs ≡ take n fs
take_front R zero fs xs ys h k = refl
take_front R (suc n) [] xs ys h k = absurd (omega (arith, h))
take_front R (suc n) (f ∷ fs) [] ys h k = absurd k
take_front R (suc n) (f ∷ fs) (x ∷ xs) ys h k = ap (λ z. z ∷ take n xs) (k.0) ∙ ap (λ zs. f ∷ zs) (take_front R n fs xs ys (omega (arith, h)) (k.1))

lists_alone : (list : Option ℕ) → option_map (past {A = Block} []) list ≡ list
lists_alone None = refl
lists_alone (Some i) = refl

block_alone : (t q : List ℕ) (n k : ℕ) (ps' fs ps : List Piece) (x y : Block) → Pairs (PieceOn t q) fs ps → ((i : ℕ) → i ≤ length fs → take i ps' ≡ take i fs) → Within k (length ps) y → BlockOn t q alone n x y → told q ps' x ≡ told t ps y
block_alone t q n k ps' fs ps x y h same w u =
    ap (λ (s : Shape). shown s (map (line_told q) (drop s.first (take s.last ps')))) u.shape
    ∙ ap (shown (shape_on alone (shape_of t y))) (by w)
    ∙ ap made (lists_alone y.list)
  where
    made : Option ℕ → Told
    made list = record { depth = y.depth; sort = sort_of t y.kind; loose = y.loose; list = list; lines = map (line_told t) (drop y.first (take y.last ps)) }

    by : Within k (length ps) y → map (line_told q) (drop y.first (take y.last ps')) ≡ map (line_told t) (drop y.first (take y.last ps))
    by (inl e) = ap (map (line_told q)) (no_lines y.first y.last ps' e) ∙ sym (ap (map (line_told t)) (no_lines y.first y.last ps e))
    by (inr (a, e)) =
        ap (λ zs. map (line_told q) (drop y.first zs)) (same y.last (omega (arith, e, pairs_length (PieceOn t q) fs ps h)))
        ∙ lines_same t q (drop y.first (take y.last fs)) (drop y.first (take y.last ps)) (pairs_drop (PieceOn t q) y.first (take y.last fs) (take y.last ps) (pairs_take (PieceOn t q) y.last fs ps h))

pub blocks_alone : (t q : List ℕ) (n k : ℕ) (ps' fs ps : List Piece) (xs ys : List Block) → Pairs (PieceOn t q) fs ps → ((i : ℕ) → i ≤ length fs → take i ps' ≡ take i fs) → AllByRecursion (Within k (length ps)) ys → Pairs (BlockOn t q alone n) xs ys → map (told q ps') xs ≡ map (told t ps) ys
blocks_alone t q n k ps' fs ps [] [] h same w u = refl
blocks_alone t q n k ps' fs ps [] (y ∷ ys) h same w u = absurd u
blocks_alone t q n k ps' fs ps (x ∷ xs) [] h same w u = absurd u
blocks_alone t q n k ps' fs ps (x ∷ xs) (y ∷ ys) h same w u = ap (λ b. b ∷ map (told q ps') xs) (block_alone t q n k ps' fs ps x y h same (w.0) (u.0)) ∙ ap (λ bs. told t ps y ∷ bs) (blocks_alone t q n k ps' fs ps xs ys h same (w.1) (u.1))

-- empty lines in front change nothing but places

sort_front : (t : List ℕ) (c : ℕ) (k : BlockKind) → sort_of (c ∷ t) (kind_on k) ≡ sort_of t k
sort_front t c (kind.Quote k) = refl
sort_front t c (kind.List first) = refl
sort_front t c kind.Item = refl
sort_front t c kind.Paragraph = refl
sort_front t c (kind.Heading level braces) = refl
sort_front t c kind.Indented = refl
sort_front t c (kind.Fenced from to) = rw (between_on t c from to) refl
sort_front t c kind.Html = refl
sort_front t c kind.Rule = refl
sort_front t c (kind.Metadata k) = refl
sort_front t c (kind.Footnote from to) = refl
sort_front t c (kind.Table from to) = refl
sort_front t c kind.TableHead = refl
sort_front t c kind.TableRow = refl
sort_front t c kind.TableCell = refl
sort_front t c kind.DefinitionList = refl
sort_front t c kind.DefinitionListTitle = refl
sort_front t c kind.DefinitionListDefinition = refl

lines_front : (t : List ℕ) (c : ℕ) (ps : List Piece) → map (line_told (c ∷ t)) (map piece_on ps) ≡ map (line_told t) ps
lines_front t c [] = refl
lines_front t c (p ∷ ps) = rw (between_on t c p.start p.end, between_on t c p.start p.next) (ap (λ ls. line_told t p ∷ ls) (lines_front t c ps))

block_front : (t : List ℕ) (c : ℕ) (ps : List Piece) (b : Block) → told (c ∷ t) (map piece_on ps) (block_on b) ≡ told t ps b
block_front t c ps b = rw (sort_front t c b.kind, take-map piece_on b.last ps, drop-map piece_on b.first (take b.last ps), lines_front t c (drop b.first (take b.last ps))) refl

blocks_front : (t : List ℕ) (c : ℕ) (ps : List Piece) (bs : List Block) → map (told (c ∷ t) (map piece_on ps)) (map block_on bs) ≡ map (told t ps) bs
blocks_front t c ps [] = refl
blocks_front t c ps (b ∷ bs) = ap (λ z. z ∷ map (told (c ∷ t) (map piece_on ps)) (map block_on bs)) (block_front t c ps b) ∙ ap (λ zs. told t ps b ∷ zs) (blocks_front t c ps bs)

pub record Same (t u : List ℕ) : Type 0 where
  pub blocks : blocks_told t (blocks_in CORE t) ≡ blocks_told u (blocks_in CORE u)
  pub definitions : (blocks_in CORE t).definitions ≡ (blocks_in CORE u).definitions

pub same_after : (n : ℕ) (u : List ℕ) → n + length u + 3 < 2 ^ 64 → Same (replicate n 10 ++ u) u
same_after zero u small = record { blocks = refl; definitions = refl }
same_after (suc n) u small = by (same_after n u (omega (arith, small)))
  where
    rest : List ℕ
    rest = replicate n 10 ++ u

    moves : blocks_in CORE (10 ∷ rest) ≡ view_on (blocks_in CORE rest)
    moves = front rest (omega (arith, small, length-append (replicate n 10) u, copies_length n 10))

    by : Same rest u → Same (10 ∷ rest) u
    by h = record {
      blocks = ap (blocks_told (10 ∷ rest)) moves ∙ blocks_front rest 10 (blocks_in CORE rest).pieces (blocks_in CORE rest).blocks ∙ h.blocks;
      definitions = ap (λ (v : BlocksView). v.definitions) moves ∙ h.definitions;
    }

-- the first block of a text is in no container

pub outermost : (t : List ℕ) → Outermost (blocks_told t (blocks_in CORE t))
outermost t = by (blocks_in CORE t).blocks (blocks_housed t)
  where
    by : (bs : List Block) → AreHoused [] bs → Outermost (map (told t (blocks_in CORE t).pieces) bs)
    by [] h = tt
    by (b ∷ bs) h = let low : b.depth ≤ 0 = (h.0).deep in omega (arith, low)

-- both texts

pub feed_end : (fs : List ℕ) → Feed (fs ++ 10 ∷ [])
feed_end [] = refl
feed_end (x ∷ []) = refl
feed_end (x ∷ y ∷ ys) = feed_end (y ∷ ys)

pub all_back : {A : Type 0} (P : A → Type 0) (xs ys : List A) → AllByRecursion P (xs ++ ys) → AllByRecursion P ys
all_back P [] ys h = h
all_back P (x ∷ xs) ys h = all_back P xs ys (h.1)

within_text : (t : List ℕ) (n : ℕ) (ls : List Line) → Ascend (Inside t) t n ls → AllByRecursion (λ (l : Line). l.end ≤ length t) ls
within_text t n [] h = tt
within_text t n (l ∷ ls) h = ((h.0).within, within_text t l.end ls (h.1))

pub fold_both : {A S : Type 0} (step : S → A → S) (s : S) (xs ys : List A) → fold step s (xs ++ ys) ≡ fold step (fold step s xs) ys
fold_both step s [] ys = refl
fold_both step s (x ∷ xs) ys = fold_both step (step s x) xs ys

got_later : (xs ys : List ℕ) (j : ℕ) → slice_get (xs ++ ys) (length xs + j) ≡ slice_get ys j
got_later [] ys j = ap (slice_get ys) (let z : 0 + j ≡ j = omega arith in z)
got_later (x ∷ xs) ys j = ap (slice_get (x ∷ (xs ++ ys))) (let z : suc (length xs) + j ≡ suc (length xs + j) = omega arith in z) ∙ got_later xs ys j

pub none_of : (os : List Opened) → length os ≡ 0 → os ≡ []
none_of [] e = refl
none_of (o ∷ os) e = absurd (omega (arith, e))

-- line feeds for all bytes of a text, and then another one
abbrev pub blanked : List ℕ → List ℕ → List ℕ
blanked t u = replicate (length t) 10 ++ u

-- the page of a text after all blocks end
abbrev pub whole_page : List ℕ → State
whole_page t = closed_to t 0 (after_lines t)

abbrev pub tell : List ℕ → State → List Told
tell t s = map (told t s.pieces) s.blocks

pub record Row (t u : List ℕ) : Type 0 where
  pub blocks : tell (t ++ u) (whole_page (t ++ u)) ≡ tell t (whole_page t) ++ map (later (length (whole_page t).blocks)) (tell (blanked t u) (whole_page (blanked t u)))
  pub definitions : (whole_page (t ++ u)).definitions ≡ (whole_page t).definitions ++ (whole_page (blanked t u)).definitions

-- the page after the first text in both
pub first_run : (t u : List ℕ) → 4 * (length t + length u) + 20 < 2 ^ 64 → Feed t → Splits t u (length t) (lines_of (t ++ u)) (lines_of t) → 0 < length t
    → Onward t (t ++ u) alone (0 + length (lines_of t)) (fold (line_taken_in core_known (t ++ u)) first_page (lines_of t)) (after_lines t)
first_run t u small feed split some =
    run_on t (t ++ u) alone 0 (lines_of t) (lines_of t) first_page first_page (same_lines (lines_of t))
    (shared_lines t (t ++ u) 0 (length t - 1) 0 (lines_of t) (omega (arith, small)) (omega arith) split.low (agrees_front t u some) (lines_ascend (Inside t) t (inside t)) (lines-end t (omega (arith, small))) (lines_low t (omega (arith, small))))
    (omega (arith, small, lines_few t 0 0 0 t)) (first_onward t (t ++ u))

pub blanked_lines : (t u : List ℕ) → lines_of (blanked t u) ≡ blanks 0 (length t) ++ lines_from (blanked t u) (length t) (length t) (length t) u
blanked_lines t u = blank_lines (blanked t u) u 0 (length t) ∙ ap (λ n. blanks 0 (length t) ++ lines_from (blanked t u) n n n u) (let z : 0 + length t ≡ length t = omega arith in z)

-- the lines after it, in both
pub record Seconds (t u : List ℕ) (count : ℕ) : Type 0 where
  pub pairs : Pairs (Follows (length t - count)) (lines_from (t ++ u) count (length t) (length t) u) (lines_from (blanked t u) (length t) (length t) (length t) u)
  pub shares : AllByRecursion (Shares (blanked t u) (t ++ u)) (lines_from (blanked t u) (length t) (length t) (length t) u)
  pub ascend : Ascend (Inside (blanked t u)) (blanked t u) (length t) (lines_from (blanked t u) (length t) (length t) (length t) u)
  pub ones : AllByRecursion (IsLine (blanked t u)) (lines_from (blanked t u) (length t) (length t) (length t) u)

pub second_lines : (t u : List ℕ) (count : ℕ) → 4 * (length t + length u) + 20 < 2 ^ 64 → count ≤ length t → Seconds t u count
second_lines t u count small few = record {
  pairs = follow_from t (replicate k 10) u (k - count) count k k k u wide (omega (arith, few)) (omega (arith, small)) (omega (arith, small, long)) (omega arith) (omega arith) (sym long);
  shares = shared_lines v q k (length v) k ls (omega (arith, small, long)) (omega arith) (within_text v k ls ascend) (agrees_later t (replicate k 10) u wide) ascend ones (all_back LowLine (blanks 0 k) ls (subst (λ xs. AllByRecursion LowLine xs) (blanked_lines t u) (lines_low v (omega (arith, small, long)))));
  ascend = ascend;
  ones = ones;
}
  where
    k : ℕ
    k = length t

    q : List ℕ
    q = t ++ u

    v : List ℕ
    v = blanked t u

    ls : List Line
    ls = lines_from v k k k u

    wide : length {A = ℕ} (replicate k 10) ≡ k
    wide = copies_length k 10

    long : length v ≡ k + length u
    long = omega (arith, length-append (replicate k 10) u, wide)

    rest : Rest v k u
    rest = (sym long, λ j. sym (ap (λ n. slice_get v (n + j)) (sym wide) ∙ got_later (replicate k 10) u j))

    ascend : Ascend (Inside v) v k ls
    ascend = from_ascends (Inside v) v k k k k u (inside v) rest (omega arith) (omega arith) (omega (arith, long))

    ones : AllByRecursion (IsLine v) ls
    ones = all_back (IsLine v) (blanks 0 k) ls (subst (λ xs. AllByRecursion (IsLine v) xs) (blanked_lines t u) (lines-end v (omega (arith, small, long))))

pub second_run : (t u : List ℕ) (count : ℕ) (f : Earlier) (s : State) → 4 * (length t + length u) + 20 < 2 ^ 64 → count ≤ length t → f.lines ≡ length t - count → length f.pieces ≤ length t + 1 → Onward (blanked t u) (t ++ u) f 0 s first_page
    → Onward (blanked t u) (t ++ u) f (0 + length (lines_from (blanked t u) (length t) (length t) (length t) u)) (fold (line_taken_in core_known (t ++ u)) s (lines_from (t ++ u) count (length t) (length t) u)) (fold (line_taken_in core_known (blanked t u)) first_page (lines_from (blanked t u) (length t) (length t) (length t) u))
second_run t u count f s small few shift pieces h =
    run_on (blanked t u) (t ++ u) f 0 (lines_from (t ++ u) count (length t) (length t) u) ls s first_page
    (subst (λ d. Pairs (Follows d) (lines_from (t ++ u) count (length t) (length t) u) ls) (sym shift) both.pairs) both.shares
    (omega (arith, small, pieces, lines_few (blanked t u) (length t) (length t) (length t) u)) h
  where
    ls : List Line
    ls = lines_from (blanked t u) (length t) (length t) (length t) u

    both : Seconds t u count
    both = second_lines t u count small few

-- both texts, if the lines of the second one close what is open after the first one

pub after_row : (t u : List ℕ) → Feed t → 0 < length t → 4 * (length t + length u) + 20 < 2 ^ 64 → (split : Splits t u (length t) (lines_of (t ++ u)) (lines_of t))
    → fold (line_taken_in core_known (t ++ u)) (fold (line_taken_in core_known (t ++ u)) first_page (lines_of t)) (lines_from (t ++ u) split.count (length t) (length t) u)
    ≡ fold (line_taken_in core_known (t ++ u)) (closed_to (t ++ u) 0 (fold (line_taken_in core_known (t ++ u)) first_page (lines_of t))) (lines_from (t ++ u) split.count (length t) (length t) u)
    → (closed_to t 0 (after_lines t)).quotes ≡ [] → Row t u
after_row t u feed some small split closes quotes = record { blocks = blocks; definitions = definitions }
  where
    k : ℕ
    k = length t

    q : List ℕ
    q = t ++ u

    v : List ℕ
    v = blanked t u

    here : State
    here = closed_to t 0 (after_lines t)

    last : State
    last = fold (line_taken_in core_known q) first_page (lines_of t)

    there : State
    there = closed_to q 0 last

    before : Onward t q alone (0 + length (lines_of t)) last (after_lines t)
    before = first_run t u small feed split some

    first : Onward t q alone (0 + length (lines_of t)) there here
    first = closed_on t q alone (0 + length (lines_of t)) 0 last (after_lines t) before

    none : there.opened ≡ []
    none = none_of there.opened (none_open q last)

    no_quotes : there.quotes ≡ []
    no_quotes = first.quotes ∙ quotes

    f : Earlier
    f = record { blocks = Before there.blocks; pieces = there.pieces; definitions = there.definitions; lines = k - split.count }

    few : length there.pieces ≤ k + 1
    few = omega (arith, pairs_length (PieceOn t q) there.pieces here.pieces first.pieces, first.few, lines_few t 0 0 0 t)

    base : Onward v q f 0 there first_page
    base = begin_onward v q there (k - split.count) (closed_shut q 0 last) none no_quotes (omega (arith, few, small))

    end_there : State
    end_there = closed_to q 0 (fold (line_taken_in core_known q) there (lines_from q split.count k k u))

    end_here : State
    end_here = closed_to v 0 (fold (line_taken_in core_known v) first_page (lines_from v k k k u))

    n : ℕ
    n = 0 + length (lines_from v k k k u)

    done : Onward v q f n end_there end_here
    done = closed_on v q f n 0 _ _ (second_run t u split.count f there small split.few refl few base)

    there_is : whole_page q ≡ end_there
    there_is = ap (closed_to q 0) (ap (fold (line_taken_in core_known q) first_page) split.lines ∙ fold_both (line_taken_in core_known q) first_page (lines_of t) (lines_from q split.count k k u) ∙ closes)

    here_is : whole_page v ≡ end_here
    here_is = ap (closed_to v 0) (ap (fold (line_taken_in core_known v) first_page) (blanked_lines t u) ∙ blanks_taken v 0 k (lines_from v k k k u))

    count : length there.blocks ≡ length here.blocks
    count = pairs_length (BlockOn t q alone (0 + length (lines_of t))) there.blocks here.blocks first.blocks

    in_front : map (told q end_there.pieces) there.blocks ≡ tell t here
    in_front = blocks_alone t q (0 + length (lines_of t)) here.kept end_there.pieces there.pieces here.pieces there.blocks here.blocks first.pieces (λ i e. take_front (PieceOn v q) i there.pieces end_there.pieces end_here.pieces e done.pieces) first.lasts first.blocks

    told_row : tell q end_there ≡ tell t here ++ map (later (length here.blocks)) (tell v end_here)
    told_row =
        blocks_later v q f there.blocks n end_there.pieces end_here.pieces there.blocks end_there.blocks end_here.blocks refl done.pieces done.blocks
        ∙ ap (λ bs. bs ++ map (later (length there.blocks)) (tell v end_here)) in_front
        ∙ ap (λ m. tell t here ++ map (later m) (tell v end_here)) count

    blocks : tell q (whole_page q) ≡ tell t (whole_page t) ++ map (later (length (whole_page t).blocks)) (tell v (whole_page v))
    blocks = ap (tell q) there_is ∙ told_row ∙ ap (λ (s : State). tell t (whole_page t) ++ map (later (length (whole_page t).blocks)) (tell v s)) (sym here_is)

    definitions : (whole_page q).definitions ≡ (whole_page t).definitions ++ (whole_page v).definitions
    definitions =
        ap (λ (s : State). s.definitions) there_is ∙ done.definitions ∙ ap (λ (ds : List DefinitionView). ds ++ end_here.definitions) first.definitions
        ∙ ap (λ (s : State). (whole_page t).definitions ++ s.definitions) (sym here_is)

-- so it is if nothing is open after the first text
row : (t u : List ℕ) → IsClosed t → 4 * (length t + length u) + 20 < 2 ^ 64 → Row t u
row t u c small = after_row t u feed some small split (ap (λ (s : State). fold (line_taken_in core_known q) s (lines_from q split.count (length t) (length t) u)) (sym (closed_already q there (first.leaf ∙ c.leaf) none))) quotes
  where
    q : List ℕ
    q = t ++ u

    feed : Feed t
    feed = subst (λ xs. Feed xs) (sym ((c.line).1)) (feed_end ((c.line).0))

    some : 0 < length t
    some = omega (arith, ap length ((c.line).1), length-append ((c.line).0) (10 ∷ []))

    split : Splits t u (length t) (lines_of q) (lines_of t)
    split = split_lines t u (omega (arith, small)) feed

    here : State
    here = after_lines t

    there : State
    there = fold (line_taken_in core_known q) first_page (lines_of t)

    first : Onward t q alone (0 + length (lines_of t)) there here
    first = first_run t u small feed split some

    none : there.opened ≡ []
    none = none_of there.opened (pairs_length (OpenedOn alone) there.opened here.opened first.opened ∙ ap length c.opened)

    no_quotes : After here → here.quotes ≡ []
    no_quotes (a, n, r) = quotes_none a n here r c.leaf c.opened

    quotes : (closed_to t 0 here).quotes ≡ []
    quotes = ap (λ (s : State). s.quotes) (closed_already t here c.leaf c.opened) ∙ no_quotes (all_lines t (omega (arith, small)))

pub row_sequence : (t u : List ℕ) → Row t u → 4 * (length t + length u) + 20 < 2 ^ 64 → IsSequence (t ++ u) t u
unfolding blocks_in page_in known_of
row_sequence t u r small = record {
  trees = ap tree_told blocks ∙ trees_in_a_row (length (blocks_in CORE t).blocks) (blocks_told t (blocks_in CORE t)) (blocks_told u (blocks_in CORE u)) (outermost u);
  blocks = blocks;
  definitions = r.definitions ∙ ap (λ (ds : List DefinitionView). (blocks_in CORE t).definitions ++ ds) same.definitions;
}
  where
    same : Same (blanked t u) u
    same = same_after (length t) u (omega (arith, small))

    blocks : blocks_told (t ++ u) (blocks_in CORE (t ++ u)) ≡ blocks_told t (blocks_in CORE t) ++ map (later (length (blocks_in CORE t).blocks)) (blocks_told u (blocks_in CORE u))
    blocks = r.blocks ∙ ap (λ (bs : List Told). blocks_told t (blocks_in CORE t) ++ map (later (length (blocks_in CORE t).blocks)) bs) same.blocks

pub texts_row : TextsInARow
texts_row t u c small = row_sequence t u (row t u c small) small

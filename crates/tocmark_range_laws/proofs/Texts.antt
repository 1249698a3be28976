-- The lines and the inlines of each block lie in it.
use Rattle.std.proofs.Common.{◌≡◌, inr, ℕ, zero, suc, ◌+◌, ◌-◌, ◌*◌, ◌^◌, ◌<◌, ◌≤◌, Bool, true, false, ◌==◌, ◌&&◌, if◌then◌else◌, nat_lt, nat_le, List, [], ◌∷◌, ◌++◌, length, length-take, drop, refl, sym, ◌∙◌, subst, arith, true≢false}
use Rattle.std.specs.Prelude.{◌%◌, min, replicate, slice_get, slice_range, Some}
use Rattle.std.specs.List.{AllByRecursion, fold}
use Rattle.std.proofs.lemmas.Bool.Decides.{nat_tests}
use Rattle.std.proofs.lemmas.Option.{slice_get_within}
use Rattle.tocmark_read_scan.specs.Basic.{byte_at, bytes_between, plus}
use Rattle.tocmark_read_scan.specs.declared.syntax.TheConstants.{CORE}
use Rattle.tocmark_read_lines.specs.Cells.{cell, cells_of, cell_place, filled}
use Rattle.tocmark_read_lines.specs.Lines.{ends_here, line, line_stop, lines_from, lines_of}
use Rattle.tocmark_read_lines.specs.declared.cell.Cell.{Cell}
use Rattle.tocmark_read_lines.specs.declared.container.Opened.{Opened}
use Rattle.tocmark_read_lines.specs.declared.line.Line.{Line}
use Rattle.tocmark_read_page.specs.Pages.{State, first_page, closed_to}
use Rattle.tocmark_read_page.specs.declared.page.Block.{Block}
use Rattle.tocmark_read_page.specs.declared.piece.Piece.{Piece}
use Rattle.tocmark_read_constructs.specs.Metadata.{known_of}
use Rattle.tocmark_read_blocks.specs.Blocks.{blocks_in, core_known, line_taken_in, page_in}
use Rattle.tocmark_read_inlines.specs.Inlines as inlines
use Rattle.tocmark_read_inlines.specs.declared.write.Node.{Node}
use Rattle.tocmark_reader.specs.Pages.{pieces_of}
use Rattle.tocmark_text_laws.proofs.Alls.{all_both, all_got, all_weaker}
use Rattle.tocmark_text_laws.proofs.Placed as placed
use Rattle.tocmark_text_laws.proofs.Walked as walked
use Rattle.tocmark_text_laws.specs.Loose.{has_ink}
use Rattle.tocmark_text_laws.proofs.Leaves.{is_core}
use Rattle.tocmark_text_laws.proofs.Kept.{line_core}
use Rattle.tocmark_text_laws.proofs.Grounds.{Grounded, Valid, columns}
use Rattle.tocmark_text_laws.proofs.Ranged.{LineIn, Ascend, cells_head, grounded, lines_ascend}
use Rattle.tocmark_text_laws.proofs.NestRun.{any, lines_few}
use Rattle.tocmark_text_laws.proofs.NestWalk.{Any}
use Rattle.tocmark_text_laws.proofs.ShortTexts.{short_counted}
use Rattle.tocmark_text_laws.specs.Proper.{IsCounted}
use Rattle.tocmark_text_laws.proofs.InlinePlaces.{inlines_lie}
use Rattle.tocmark_text_laws.specs.InlinePlaces.{LiesIn, last_of}
use Rattle.tocmark_text_laws.specs.SourceOrder.{leaf_of}
use Rattle.tocmark_range_laws.proofs.Indexed.{got_take, got_drop, all_of}
use Rattle.tocmark_range_laws.proofs.Inked.{cells_inked}
use Rattle.tocmark_range_laws.proofs.Pages.{Housed, Fit, Found, Begun, Met, Kept, Shut, Stands, shut, closed_to_shut, later_stands, more}
use Rattle.tocmark_range_laws.proofs.PageLines.{From, Short, cells_stand}
use Rattle.tocmark_range_laws.specs.Found.{HasOne, Meets, IsFound, InBlock, InLeaf, LinesAreFound, LinesMeetBlocks}
use Rattle.tocmark_range_laws.specs.Within.{ShortInlinesLieInTheirBlocks, Lies, IsIn, LinesLieInTheirBlocks, InlinesLieInTheirBlocks}

-- lines one after the other, up to a place
abbrev pub Follow : ℕ → ℕ → List Line → Type 0
Follow from to [] = from ≤ to
Follow from to (l ∷ ls) = (from ≤ l.start) × (l.start ≤ l.end) × (l.end ≤ l.next) × (l.next ≤ to) × Follow l.next to ls

stop_in : (t : List ℕ) (start b at : ℕ) → start ≤ at → (start ≤ line_stop t start b at) × (line_stop t start b at ≤ at)
unfolding line_stop
stop_in t start b at l = by (b == 10) (nat_lt start at) (byte_at t (at - 1) == 13) refl
  where
    by : (x y z : Bool) → nat_lt start at ≡ y → (start ≤ (if x && y && z then at - 1 else at)) × ((if x && y && z then at - 1 else at) ≤ at)
    by false y z e = (l, omega arith)
    by true false z e = (l, omega arith)
    by true true false e = (l, omega arith)
    by true true true e = let w : start < at = grind (arith, nat_tests) in (omega arith, omega arith)

pub lines_follow : (t : List ℕ) (n before start at : ℕ) (rest : List ℕ) → at + length rest ≡ n → start ≤ at → Follow start n (lines_from t before start at rest)
lines_follow t n before start at [] e l = by (nat_lt start at)
  where
    by : (x : Bool) → Follow start n (if x then line before start at at ∷ [] else [])
    by true = (omega arith, l, omega arith, omega arith, omega arith)
    by false = omega arith
lines_follow t n before start at (b ∷ bs) e l = by (ends_here t b at) (lines_follow t n (before + 1) (at + 1) (at + 1) bs (omega arith) (omega arith)) (lines_follow t n before start (at + 1) bs (omega arith) (omega arith))
  where
    stop : (start ≤ line_stop t start b at) × (line_stop t start b at ≤ at)
    stop = stop_in t start b at l

    by : (x : Bool) → Follow (at + 1) n (lines_from t (before + 1) (at + 1) (at + 1) bs) → Follow start n (lines_from t before start (at + 1) bs)
        → Follow start n (if x then line before start (line_stop t start b at) (at + 1) ∷ lines_from t (before + 1) (at + 1) (at + 1) bs else lines_from t before start (at + 1) bs)
    by true next more = (omega arith, stop.0, omega (arith, stop.1), omega arith, next)
    by false next more = more

-- the columns of a line are none before it
pub grounded_in : (t : List ℕ) (l : Line) → 4 * length t < 2 ^ 64 - 1 → l.start ≤ l.end → l.end ≤ l.next → l.next ≤ length t → Grounded (From l) (cells_of [] l.start (bytes_between t l.start l.end)) l
grounded_in t l small a b c = record {
  few = g.few;
  low = g.low;
  stops = a;
  next = omega arith;
  onto = b;
  before = λ i x e k. low i;
  rising = g.rising;
  within = g.within;
  front = low 0;
  ascii = λ i x e k. low (suc i);
  tabs = λ i k e. (let w : l.start ≤ cell_place cs (suc i) l.end = low (suc i) in omega arith, (g.tabs i k e).1);
}
  where
    cs : List Cell
    cs = cells_of [] l.start (bytes_between t l.start l.end)

    g : Grounded Any cs l
    g = grounded Any t 0 l small (any t) (record { after = omega arith; ordered = a; within = omega arith; begins = tt; stops = tt; next = tt; onto = b })

    low : (i : ℕ) → l.start ≤ cell_place cs i l.end
    low i = let w : l.start ≤ cell_place cs 0 l.end = cells_head (From l) l.start l.end (bytes_between t l.start l.end) (omega arith) a in let q : cell_place cs 0 l.end ≤ cell_place cs i l.end = g.rising 0 i (omega arith) in omega arith

-- each column of a line is before its end

copies_before : (n k : ℕ) (c : Cell) → c.at < n → AllByRecursion (λ (x : Cell). x.at < n) (replicate k c)
copies_before n zero c h = tt
copies_before n (suc k) c h = (h, copies_before n k c h)

filled_before : (n : ℕ) (cs : List Cell) (b at : ℕ) → at < n → AllByRecursion (λ (x : Cell). x.at < n) cs → AllByRecursion (λ (x : Cell). x.at < n) (filled cs b at)
unfolding filled
filled_before n cs b at l h = by (b == 9)
  where
    by : (x : Bool) → AllByRecursion (λ (x : Cell). x.at < n) (if x then cs ++ replicate (4 - length cs % 4) (cell 32 at) else cs ++ cell b at ∷ [])
    by true = all_both (λ (x : Cell). x.at < n) cs (replicate (4 - length cs % 4) (cell 32 at)) h (copies_before n (4 - length cs % 4) (cell 32 at) l)
    by false = all_both (λ (x : Cell). x.at < n) cs (cell b at ∷ []) h (l, tt)

cells_before : (n : ℕ) (cs : List Cell) (at : ℕ) (bs : List ℕ) → at + length bs ≤ n → AllByRecursion (λ (x : Cell). x.at < n) cs → AllByRecursion (λ (x : Cell). x.at < n) (cells_of cs at bs)
cells_before n cs at [] l h = h
cells_before n cs at (b ∷ bs) l h = cells_before n (filled cs b at) (plus at 1) bs (omega arith) (filled_before n cs b at (omega arith) h)

place_before : (n end : ℕ) (cs : List Cell) (c : ℕ) → AllByRecursion (λ (x : Cell). x.at < n) cs → c < length cs → cell_place cs c end < n
place_before n end [] c h l = absurd (omega arith)
place_before n end (x ∷ xs) zero h l = h.0
place_before n end (x ∷ xs) (suc c) h l = place_before n end xs c (h.1) (omega arith)

between_few : (t : List ℕ) (a b : ℕ) → a ≤ b → a + length (bytes_between t a b) ≤ b
between_few t a b l = by (nat_le a b && nat_le b (length t))
  where
    by : (x : Bool) → a + length (if x then slice_range t a b else []) ≤ b
    by true = let w : length (slice_range t a b) ≡ min (b - a) (length (drop a t)) = length-take (b - a) (drop a t) in omega arith
    by false = omega arith

short_in : (t : List ℕ) (l : Line) → l.start ≤ l.end → Short (cells_of [] l.start (bytes_between t l.start l.end)) l
short_in t l o c w = place_before l.end l.end (cells_of [] l.start (bytes_between t l.start l.end)) c (cells_before l.end [] l.start (bytes_between t l.start l.end) (between_few t l.start l.end o) tt) w

line_stands : (y : Bool) (fs : List Line) (c : ℕ) (t : List ℕ) (l : Line) (s : State) → 4 * length t < 2 ^ 64 - 1 → c ≤ 2 ^ 64 - 1 → l.start ≤ l.end → l.end ≤ l.next → l.next ≤ length t → is_core s.leaf ≡ true → (y ≡ true → has_ink (bytes_between t l.start l.end) ≡ true) → Stands fs c l.start s → Stands (more y l fs) (suc c) l.next (line_taken_in core_known t s l)
unfolding line_taken_in
line_stands y fs c t l s small few x o z k i h = cells_stand y fs c (Valid (From l) cells l) t cells l s few k g (short_in t l x) (columns (From l) cells l g) (λ e. cells_inked [] l.start (bytes_between t l.start l.end) (inr (i e))) h
  where
    cells : List Cell
    cells = cells_of [] l.start (bytes_between t l.start l.end)

    g : Grounded (From l) cells l
    g = grounded_in t l small x o z

-- the lines that have ink, after others
abbrev pub collected : List ℕ → List Line → List Line → List Line
collected t fs [] = fs
collected t fs (l ∷ ls) = collected t (more (has_ink (bytes_between t l.start l.end)) l fs) ls

collected_all : (Q : Line → Type 0) (t : List ℕ) (fs ls : List Line) → AllByRecursion Q (collected t fs ls) → AllByRecursion Q fs × AllByRecursion (λ (l : Line). has_ink (bytes_between t l.start l.end) ≡ true → Q l) ls
collected_all Q t fs [] h = (h, tt)
collected_all Q t fs (l ∷ ls) h = by (has_ink (bytes_between t l.start l.end)) refl (collected_all Q t (more (has_ink (bytes_between t l.start l.end)) l fs) ls h)
  where
    rest : Type 0
    rest = AllByRecursion (λ (x : Line). has_ink (bytes_between t x.start x.end) ≡ true → Q x) ls

    by : (x : Bool) → has_ink (bytes_between t l.start l.end) ≡ x → AllByRecursion Q (more x l fs) × rest → AllByRecursion Q fs × ((has_ink (bytes_between t l.start l.end) ≡ true → Q l) × rest)
    by true e w = ((w.0).1, ((λ q. (w.0).0), w.1))
    by false e w = (w.0, ((λ q. absurd (true≢false (sym q ∙ e))), w.1))

lines_stand : (fs : List Line) (c n : ℕ) (t : List ℕ) (ls : List Line) (s : State) → 4 * length t < 2 ^ 64 - 1 → c + length ls ≤ 2 ^ 64 - 1 → Follow n (length t) ls → is_core s.leaf ≡ true → Stands fs c n s → Stands (collected t fs ls) (c + length ls) (length t) (fold (line_taken_in core_known t) s ls)
lines_stand fs c n t [] s small few f k h = later_stands fs c (c + 0) n (length t) s (omega arith) f h
lines_stand fs c n t (l ∷ ls) s small few (x, a, b, y, f) k h =
    let q : suc c + length ls ≡ c + suc (length ls) = omega arith in
    subst (λ m. Stands (collected t (more (has_ink (bytes_between t l.start l.end)) l fs) ls) m (length t) (fold (line_taken_in core_known t) (line_taken_in core_known t s l) ls)) q
    (lines_stand (more (has_ink (bytes_between t l.start l.end)) l fs) (suc c) l.next t ls (line_taken_in core_known t s l) small (omega arith) f (line_core t l s k)
    (line_stands (has_ink (bytes_between t l.start l.end)) fs c t l s small (omega arith) a b y k (λ e. e) (later_stands fs c c n l.start s (omega arith) x h)))

-- the page after all lines and blocks
pub last_shut : (t : List ℕ) → 4 * length t + 1 < 2 ^ 64 → Shut (collected t [] (lines_of t)) (0 + length (lines_of t)) (length t) (closed_to t 0 (fold (line_taken_in core_known t) first_page (lines_of t)))
unfolding is_core
last_shut t small = closed_to_shut (collected t [] (lines_of t)) (0 + length (lines_of t)) (length t) t 0 (fold (line_taken_in core_known t) first_page (lines_of t))
    (lines_stand [] 0 0 t (lines_of t) first_page (omega arith) (let w : length (lines_of t) ≤ length t + 1 = lines_few t 0 0 0 t in omega arith) (lines_follow t (length t) 0 0 0 t (omega arith) (omega arith)) refl (shut refl (tt, tt, omega arith, omega arith, tt, λ e. (omega arith, λ i l. absurd (omega arith)))))

-- the lines of a block lie in it
fit_lies : (ps : List Piece) (count : ℕ) (b : Block) → Fit ps count b → AllByRecursion (Lies b.start b.end) (pieces_of ps b.first b.last)
fit_lies ps count b h = by (nat_le b.first b.last && nat_le b.last (length ps)) refl
  where
    at : (i : ℕ) (p : Piece) → (i < b.last - b.first) × (slice_get (drop b.first ps) i ≡ Some p) → Lies b.start b.end p
    at i p w = let a : i < b.last - b.first = w.0 in h.lines (b.first + i) p (omega arith) (omega arith) (got_drop b.first ps i (b.first + i) p refl (w.1))

    by : (x : Bool) → (nat_le b.first b.last && nat_le b.last (length ps)) ≡ x → AllByRecursion (Lies b.start b.end) (if x then slice_range ps b.first b.last else [])
    by true e = all_of (Lies b.start b.end) (slice_range ps b.first b.last) (λ i p q. at i p (got_take (b.last - b.first) (drop b.first ps) i p q))
    by false e = tt

pub lines_lie : LinesLieInTheirBlocks
unfolding blocks_in page_in known_of
lines_lie t small = all_weaker (Fit s.pieces (length s.pieces)) (λ (b : Block). AllByRecursion (Lies b.start b.end) (pieces_of s.pieces b.first b.last)) s.blocks (λ b w. fit_lies s.pieces (length s.pieces) b w) ((last_shut t small).0)
  where
    s : State
    s = closed_to t 0 (fold (line_taken_in core_known t) first_page (lines_of t))

-- the last of some lines ends where they do
last_ends : (m n : ℕ) (p : Piece) (ps : List Piece) → Lies m n p → AllByRecursion (Lies m n) ps → (last_of p ps).end ≤ n
last_ends m n p [] h k = h.ends
last_ends m n p (q ∷ qs) h k = last_ends m n q qs (k.0) (k.1)

lies_in : (b : Block) (ps : List Piece) (x : Node) → AllByRecursion (Lies b.start b.end) ps → LiesIn ps x → IsIn b x
lies_in b [] x h k = absurd k
lies_in b (p ∷ ps) x h k = record {
  begins = let a : b.start ≤ p.start = (h.0).begins in let c : p.start ≤ x.start = k.0 in omega arith;
  ends = let a : (last_of p ps).end ≤ b.end = last_ends b.start b.end p ps (h.0) (h.1) in let c : x.end ≤ (last_of p ps).end = k.1 in omega arith;
}

pub inlines_are_in : InlinesLieInTheirBlocks
inlines_are_in t depth definitions s u small = all_weaker Lined Inlined (blocks_in CORE t).blocks each (lines_lie t small)
  where
    Lined : Block → Type 0
    Lined b = AllByRecursion (Lies b.start b.end) (pieces_of (blocks_in CORE t).pieces b.first b.last)

    nodes : Block → List Node
    nodes b = (inlines.read_inlines (leaf_of t b.first b.last) depth definitions (record s { nodes = [] })).nodes

    Inlined : Block → Type 0
    Inlined b = length (leaf_of t b.first b.last).bytes < 2 ^ 64 - 1 → AllByRecursion (IsIn b) (nodes b)

    each : (b : Block) → Lined b → Inlined b
    each b h long = all_weaker (LiesIn (pieces_of (blocks_in CORE t).pieces b.first b.last)) (IsIn b) (nodes b) (λ x k. lies_in b (pieces_of (blocks_in CORE t).pieces b.first b.last) x h k) (inlines_lie t b.first b.last depth definitions s u small long)

-- no block ends before it begins

ordered_line : (n : ℕ) (t : List ℕ) (l : Line) (s : State) → 4 * length t < 2 ^ 64 - 1 → LineIn Any t n l → placed.Stands Any n s → placed.Stands Any l.end (line_taken_in core_known t s l)
unfolding line_taken_in
ordered_line n t l s small h r = walked.cells_stand Any (Valid Any cells l) t cells l s (columns Any cells l (grounded Any t n l small (any t) h)) (placed.later_stands Any n l.end s (let a : n ≤ l.start = h.after in let b : l.start ≤ l.end = h.ordered in omega arith) r)
  where
    cells : List Cell
    cells = cells_of [] l.start (bytes_between t l.start l.end)

ordered_run : (n : ℕ) (t : List ℕ) (ls : List Line) (s : State) → 4 * length t < 2 ^ 64 - 1 → Ascend Any t n ls → placed.Stands Any n s → (m : ℕ) × placed.Stands Any m (fold (line_taken_in core_known t) s ls)
ordered_run n t [] s small h r = (n, r)
ordered_run n t (l ∷ ls) s small h r = ordered_run l.end t ls (line_taken_in core_known t s l) small (h.1) (ordered_line n t l s small (h.0) r)

ordered_blocks : (t : List ℕ) → 4 * length t + 1 < 2 ^ 64 → AllByRecursion (λ (b : Block). b.start ≤ b.end) (closed_to t 0 (fold (line_taken_in core_known t) first_page (lines_of t))).blocks
ordered_blocks t small = by (ordered_run 0 t (lines_of t) first_page (omega arith) (lines_ascend Any t (any t)) (placed.shut refl (tt, tt, tt)))
  where
    last : State
    last = fold (line_taken_in core_known t) first_page (lines_of t)

    by : (m : ℕ) × placed.Stands Any m last → AllByRecursion (λ (b : Block). b.start ≤ b.end) (closed_to t 0 last).blocks
    by (m, h) = all_weaker (placed.Fit Any) (λ (b : Block). b.start ≤ b.end) (closed_to t 0 last).blocks (λ b w. w.ordered) ((placed.closed_to_shut Any m t 0 last h).0)

-- a line is found in the blocks and lines that are left

is_found : (l : Line) (bs : List Block) (os : List Opened) (ps : List Piece) (kept : ℕ) → AllByRecursion (λ (b : Block). b.start ≤ b.end) bs → Found l bs os ps kept → IsFound bs ps l
is_found l bs os ps kept h (Begun i b e m k) = let a : b.start ≤ b.end = all_got (λ (b : Block). b.start ≤ b.end) bs i b h e in InBlock (record { index = i; one = b; got = e; holds = record { begins = k; ends = omega arith } })
is_found l bs os ps kept h (Met i b e m k a) = InBlock (record { index = i; one = b; got = e; holds = record { begins = m; ends = k } })
is_found l bs os ps kept h (Kept i p e k a c d) = InLeaf (record { index = i; one = p; got = e; holds = record { after = a; some = c; before = d } })

pub lines_found : LinesAreFound
unfolding blocks_in page_in known_of
lines_found t small = (collected_all (λ (l : Line). IsFound s.blocks s.pieces l) t [] (lines_of t)
    (all_weaker (λ (l : Line). (l.start ≤ length t) × Found l s.blocks s.opened s.pieces (length s.pieces)) (λ (l : Line). IsFound s.blocks s.pieces l) (collected t [] (lines_of t)) (λ l w. is_found l s.blocks s.opened s.pieces (length s.pieces) (ordered_blocks t small) (w.1)) ((last_shut t small).4))).1
  where
    s : State
    s = closed_to t 0 (fold (line_taken_in core_known t) first_page (lines_of t))

-- without definitions, each line of a leaf is in a block

meets_block : (l : Line) (bs : List Block) (ps : List Piece) → ((i : ℕ) → i < length ps → Housed bs i) → AllByRecursion (Fit ps (length ps)) bs → IsFound bs ps l → HasOne (Meets l) bs
meets_block l bs ps f h (InBlock w) = w
meets_block l bs ps f h (InLeaf w) = by (f w.index (slice_get_within ps w.index w.one w.got))
  where
    by : Housed bs w.index → HasOne (Meets l) bs
    by v =
        let k : Fit ps (length ps) v.one = all_got (Fit ps (length ps)) bs v.index v.one h v.got in
        let q : Lies v.one.start v.one.end w.one = k.lines w.index w.one ((v.holds).0) ((v.holds).1) w.got in
        let a : v.one.start ≤ w.one.start = q.begins in
        let b : w.one.end ≤ v.one.end = q.ends in
        let c : l.start ≤ w.one.start = (w.holds).after in
        let d : w.one.start < w.one.end = (w.holds).some in
        let e : w.one.end ≤ l.end = (w.holds).before in
        record { index = v.index; one = v.one; got = v.got; holds = record { begins = omega arith; ends = omega arith } }

pub lines_meet : LinesMeetBlocks
unfolding blocks_in page_in known_of
lines_meet t small none = all_weaker (λ (l : Line). has_ink (bytes_between t l.start l.end) ≡ true → IsFound s.blocks s.pieces l) (λ (l : Line). has_ink (bytes_between t l.start l.end) ≡ true → HasOne (Meets l) s.blocks) (lines_of t)
    (λ l w e. meets_block l s.blocks s.pieces ((((last_shut t small).5) none).1) ((last_shut t small).0) (w e)) (lines_found t small)
  where
    s : State
    s = closed_to t 0 (fold (line_taken_in core_known t) first_page (lines_of t))

-- so it is with texts that aren't too long
pub short_inlines : ShortInlinesLieInTheirBlocks
short_inlines t depth definitions s u short = both (blocks_in CORE t).blocks (inlines_are_in t depth definitions s u (omega arith)) (short_counted t short)
  where
    nodes : Block → List Node
    nodes b = (inlines.read_inlines (leaf_of t b.first b.last) depth definitions (record s { nodes = [] })).nodes

    both : (bs : List Block) → AllByRecursion (λ (b : Block). length (leaf_of t b.first b.last).bytes < 2 ^ 64 - 1 → AllByRecursion (IsIn b) (nodes b)) bs → AllByRecursion (IsCounted t (blocks_in CORE t).pieces) bs → AllByRecursion (λ (b : Block). AllByRecursion (IsIn b) (nodes b)) bs
    both [] h k = tt
    both (b ∷ bs) h k = let w : b.depth + length (leaf_of t b.first b.last).bytes + 1 < 2 ^ 64 - 1 = k.0 in ((h.0) (omega arith), both bs (h.1) (k.1))

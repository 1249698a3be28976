-- Where the blocks of a page are as it goes on: their places are of a set, and no block ends before it begins.
use Rattle.std.proofs.Common.{◌≡◌, ℕ, zero, suc, ◌-◌, ◌<◌, ◌≤◌, Bool, true, false, ◌||◌, if◌then◌else◌, nat_lt, nat_le, List, [], ◌∷◌, ◌++◌, length, map, take, drop, refl, ap, sym, ◌∙◌, subst, arith, true≢false}
use Rattle.std.specs.Prelude.{slice_get, slice_set, max, Option, Some, None, is_some}
use Rattle.std.specs.Option.{option_map, option_map_or}
use Rattle.std.specs.List.{AllByRecursion}
use Rattle.std.proofs.Math.Nat.{max-eq_left, max-eq_right, le-max_left}
use Rattle.std.proofs.lemmas.Bool.Decides.{nat_tests}
use Rattle.std.proofs.lemmas.List.{map-append}
use Rattle.std.proofs.lemmas.Option.{slice_get-map}
use Rattle.tocmark_read_scan.specs.Basic.{plus}
use Rattle.tocmark_read_lines.specs.Containers.{raised, raised_at, touched_from}
use Rattle.tocmark_read_lines.specs.declared.container.Container.{Container}
use Rattle.tocmark_read_lines.specs.declared.container.Opened.{Opened}
use Rattle.tocmark_read_lines.specs.declared.line.Line.{Line}
use Rattle.tocmark_read_page.specs.Definitions.{definitions_from}
use Rattle.tocmark_read_page.specs.Leaves.{is_paragraph}
use Rattle.tocmark_read_page.specs.Pages.{State, innermost, ended, finished, raised_last, leaf_finished, shortened, defined_as, settled_as, settled, leaf_closed_as, leaf_closed, is_quote, is_list, is_definitions, quote_left, one_closed, times, closed_to, list_of, is_loose, left_noted, list_left, is_apart, loosened, had_marked, begun, quote_entered, opened_with, leaf_opened, piece_pushed, piece_taken}
use Rattle.tocmark_read_page.specs.declared.leaf.Leaf.{Leaf}
use Rattle.tocmark_read_page.specs.declared.leaf.Leaf.TheVariants as leaf
use Rattle.tocmark_read_page.specs.declared.page.Block.{Block}
use Rattle.tocmark_read_page.specs.declared.page.BlockKind.{BlockKind}
use Rattle.tocmark_read_page.specs.declared.piece.Piece.{Piece}
use Rattle.tocmark_text_laws.proofs.Alls.{all_got, all_changed, all_both, all_take, all_weaker, got_front, got_last, set_last, last_changed, same_numbers}

abbrev pub starts : List Block → List ℕ
starts bs = map (λ (b : Block). b.start) bs

-- a block that has ended
pub record Fit (P : ℕ → Type 0) (b : Block) : Type 0 where
  pub begins : P b.start
  pub stops : P b.end
  pub ordered : b.start ≤ b.end
  pub plain : b.task ≡ None

-- an open container, among blocks that begin at these places
pub record Holds (P : ℕ → Type 0) (u : List ℕ) (o : Opened) : Type 0 where
  pub stops : P o.end
  pub begins : ℕ
  pub got : slice_get u o.block ≡ Some begins
  pub ordered : begins ≤ o.end

-- a line of a leaf that doesn't begin after a place
pub record Held (P : ℕ → Type 0) (n : ℕ) (p : Piece) : Type 0 where
  pub begins : P p.start
  pub before : p.start ≤ n
  pub stops : P p.next
  pub ordered : p.start ≤ p.next
  pub ends : P p.end
  pub forward : p.start ≤ p.end
  pub onto : p.end ≤ p.next
  pub spaces : 0 < p.spaces → P (p.start - 1)

-- a page in which no leaf is open
abbrev pub Shut : (ℕ → Type 0) → ℕ → State → Type 0
Shut P n s = AllByRecursion (Fit P) s.blocks × AllByRecursion (Holds P (starts s.blocks)) s.opened × AllByRecursion (Held P n) s.pieces

-- a page whose last block is an open leaf
pub record Ready (P : ℕ → Type 0) (n : ℕ) (s : State) (front : List Block) (b : Block) : Type 0 where
  pub split : s.blocks ≡ front ++ b ∷ []
  pub fits : AllByRecursion (Fit P) front
  pub holds : AllByRecursion (Holds P (starts front)) s.opened
  pub pieces : AllByRecursion (Held P n) s.pieces
  pub begins : P b.start
  pub within : b.start ≤ n
  pub plain : b.task ≡ None

-- the same, where the leaf's end is known
pub record Going (P : ℕ → Type 0) (n : ℕ) (s : State) (front : List Block) (b : Block) : Type 0 where
  pub ready : Ready P n s front b
  pub stops : P s.end
  pub ordered : b.start ≤ s.end
  pub words : is_paragraph s.leaf ≡ true → AllByRecursion (Held P s.end) s.pieces

-- a leaf that CommonMark has
abbrev pub is_worded : Leaf → Bool
is_worded leaf.Nothing = false
is_worded leaf.Paragraph = true
is_worded leaf.Indented = true
is_worded (leaf.Fenced f) = true
is_worded (leaf.Html k) = true
is_worded (leaf.Metadata k) = false
is_worded (leaf.Table t) = false

-- a page between lines
pub data Stands (P : ℕ → Type 0) (n : ℕ) (s : State) : Type 0 where
  shut : s.leaf ≡ leaf.Nothing → Shut P n s → Stands P n s
  holding : is_worded s.leaf ≡ true → (front : List Block) → (b : Block) → Going P n s front b → Stands P n s

max_kept : (P : ℕ → Type 0) (a b : ℕ) → P a → P b → P (max a b)
max_kept P a b h k = by (nat_le b a) refl
  where
    by : (x : Bool) → nat_le b a ≡ x → P (max a b)
    by true e = let w : b ≤ a = grind (arith, nat_tests) in subst P (sym (max-eq_left w)) h
    by false e = let w : a ≤ b = grind (arith, nat_tests) in subst P (sym (max-eq_right w)) k

raised_holds : (P : ℕ → Type 0) (u : List ℕ) (e l : ℕ) (o : Opened) → P e → Holds P u o → Holds P u (raised o e l)
unfolding raised
raised_holds P u e l o k h = record {
  stops = max_kept P o.end e h.stops k;
  begins = h.begins;
  got = h.got;
  ordered = let v : h.begins ≤ o.end = h.ordered in let w : o.end ≤ max o.end e = le-max_left o.end e in omega arith;
}

pub all_raised : (P : ℕ → Type 0) (u : List ℕ) (os : List Opened) (i e l : ℕ) → P e → AllByRecursion (Holds P u) os → AllByRecursion (Holds P u) (raised_at os i e l)
unfolding raised_at
all_raised P u os i e l k h = all_changed (Holds P u) os i (λ (o : Opened). raised o e l) (λ o q w. raised_holds P u e l o k w) h

pub all_touched : (P : ℕ → Type 0) (u : List ℕ) (count e l : ℕ) (qs : List ℕ) (os : List Opened) → P e → AllByRecursion (Holds P u) os → AllByRecursion (Holds P u) (touched_from count e l qs os)
all_touched P u count e l [] os k h = h
all_touched P u count e l (q ∷ qs) os k h = by (nat_le count q) (all_touched P u count e l qs (raised_at os q e l) k (all_raised P u os q e l k h))
  where
    by : (x : Bool) → AllByRecursion (Holds P u) (touched_from count e l qs (raised_at os q e l)) → AllByRecursion (Holds P u) (if x then os else touched_from count e l qs (raised_at os q e l))
    by true w = h
    by false w = w

-- a block that comes after the others
more_holds : (P : ℕ → Type 0) (front : List Block) (b : Block) (os : List Opened) → AllByRecursion (Holds P (starts front)) os → AllByRecursion (Holds P (starts (front ++ b ∷ []))) os
more_holds P front b os h =
    all_weaker (Holds P (starts front)) (Holds P (starts (front ++ b ∷ []))) os
    (λ o w. record {
      stops = w.stops;
      begins = w.begins;
      got = ap (λ (u : List ℕ). slice_get u o.block) (map-append (λ (x : Block). x.start) front (b ∷ [])) ∙ got_front (starts front) (b.start ∷ []) o.block w.begins w.got;
      ordered = w.ordered;
    }) h

pub finish : (P : ℕ → Type 0) (n : ℕ) (s : State) (front : List Block) (b : Block) → Going P n s front b → Shut P n (leaf_finished s)
unfolding leaf_finished finished
finish P n s front b g = (
  subst (AllByRecursion (Fit P)) (sym same) (all_both (Fit P) front (new ∷ []) g.ready.fits (record { begins = g.ready.begins; stops = g.stops; ordered = g.ordered; plain = g.ready.plain }, tt)),
  all_raised P (starts blocks) s.opened (length s.opened - 1) s.end s.line g.stops (subst (λ bs. AllByRecursion (Holds P (starts bs)) s.opened) (sym same) (more_holds P front new s.opened g.ready.holds)),
  all_take (Held P n) s.kept s.pieces g.ready.pieces,
)
  where
    change : Block → Block
    change x = record x { end = s.end; last = length (take s.kept s.pieces) }

    new : Block
    new = change b

    blocks : List Block
    blocks = option_map_or (λ (x : Block). slice_set s.blocks (length s.blocks - 1) (record x { end = s.end; last = length (take s.kept s.pieces) })) (slice_get s.blocks (length s.blocks - 1)) s.blocks

    same : blocks ≡ front ++ new ∷ []
    same = last_changed s.blocks front b change g.ready.split

begins_at : (bs : List Block) (i x : ℕ) (b : Block) → slice_get (starts bs) i ≡ Some x → slice_get bs i ≡ Some b → b.start ≡ x
begins_at bs i x b k e = inside (ap (option_map (λ (y : Block). y.start)) (sym e) ∙ sym (slice_get-map (λ (y : Block). y.start) bs i) ∙ k)
  where
    inside : Some b.start ≡ Some x → b.start ≡ x
    inside q = cc

ended_fits : (P : ℕ → Type 0) (bs : List Block) (o : Opened) → Holds P (starts bs) o → AllByRecursion (Fit P) bs → AllByRecursion (Fit P) (ended bs o.block o.end)
unfolding ended
ended_fits P bs o k h = all_changed (Fit P) bs o.block (λ (b : Block). record b { end = o.end })
    (λ b e f. record {
      begins = f.begins;
      stops = k.stops;
      ordered = let v : k.begins ≤ o.end = k.ordered in let w : b.start ≡ k.begins = begins_at bs o.block k.begins b k.got e in omega arith;
      plain = f.plain;
    }) h

ended_starts : (bs : List Block) (i e : ℕ) → starts (ended bs i e) ≡ starts bs
unfolding ended
ended_starts bs i e = same_numbers (λ (b : Block). b.start) bs i (λ (b : Block). record b { end = e }) (λ b. refl)

quote_left_shut : (P : ℕ → Type 0) (n : ℕ) (k : Container) (s : State) → Shut P n s → Shut P n (quote_left k s)
quote_left_shut P n k s h = by (is_quote k)
  where
    by : (x : Bool) → Shut P n (if x then record s { quotes = take (length s.quotes - 1) s.quotes } else s)
    by true = h
    by false = h

one_shut : (P : ℕ → Type 0) (n : ℕ) (s : State) → Shut P n s → Shut P n (one_closed s)
unfolding one_closed
one_shut P n s h = by (slice_get s.opened (length s.opened - 1)) refl
  where
    others : List Opened
    others = take (length s.opened - 1) s.opened

    closes : Opened → State
    closes o = raised_last o.end o.line (record s { opened = others; blocks = ended s.blocks o.block o.end })

    shuts : (o : Opened) → Holds P (starts s.blocks) o → Shut P n (closes o)
    shuts o k = (
      ended_fits P s.blocks o k (h.0),
      all_raised P (starts (ended s.blocks o.block o.end)) others (length others - 1) o.end o.line k.stops
          (subst (λ u. AllByRecursion (Holds P u) others) (sym (ended_starts s.blocks o.block o.end)) (all_take (Holds P (starts s.blocks)) (length s.opened - 1) s.opened (h.1))),
      h.2,
    )

    by : (f : Option Opened) → slice_get s.opened (length s.opened - 1) ≡ f → Shut P n (option_map_or (λ (o : Opened). quote_left o.container (closes o)) f s)
    by None e = h
    by (Some o) e = quote_left_shut P n o.container (closes o) (shuts o (all_got (Holds P (starts s.blocks)) s.opened (length s.opened - 1) o (h.1) e))

times_shut : (P : ℕ → Type 0) (n : ℕ) (k : ℕ) (s : State) → Shut P n s → Shut P n (times one_closed k s)
unfolding times
times_shut P n zero s h = h
times_shut P n (suc k) s h = times_shut P n k (one_closed s) (one_shut P n s h)

shortened_start : (P : ℕ → Type 0) (e : ℕ) (b : Block) (ps : List Piece) (count : ℕ) → AllByRecursion (Held P e) ps → P b.start → b.start ≤ e → P (shortened b ps count).start × ((shortened b ps count).start ≤ e)
unfolding shortened
shortened_start P e b ps count h k l = by (slice_get ps (plus b.first count)) refl
  where
    by : (o : Option Piece) → slice_get ps (plus b.first count) ≡ o → P (option_map_or (λ (p : Piece). p.start) o b.start) × (option_map_or (λ (p : Piece). p.start) o b.start ≤ e)
    by None q = (k, l)
    by (Some p) q = let w : Held P e p = all_got (Held P e) ps (plus b.first count) p h q in (w.begins, w.before)

shortened_plain : (b : Block) (ps : List Piece) (count : ℕ) → b.task ≡ None → (shortened b ps count).task ≡ None
unfolding shortened
shortened_plain b ps count h = h

-- the definitions of an open paragraph are taken from it
pub settled_going : (P : ℕ → Type 0) (n : ℕ) (t : List ℕ) (s : State) (front : List Block) (b : Block) → Going P n s front b → is_paragraph s.leaf ≡ true → (c : Block) × Going P n (settled t s) front c
unfolding settled
settled_going P n t s front b g p = by (slice_get s.blocks (length s.blocks - 1)) (ap (λ (bs : List Block). slice_get bs (length bs - 1)) g.ready.split ∙ got_last front b)
  where
    count : ℕ
    count = (definitions_from t (drop b.first s.pieces) s.definitions).1

    new : Block
    new = shortened b s.pieces count

    defines : Going P n (defined_as t s b) front new
    defines = record {
      ready = record {
        split = ap (λ (bs : List Block). slice_set bs (length bs - 1) new) g.ready.split ∙ set_last front b new;
        fits = g.ready.fits;
        holds = g.ready.holds;
        pieces = g.ready.pieces;
        begins = (shortened_start P n b s.pieces count g.ready.pieces g.ready.begins g.ready.within).0;
        within = (shortened_start P n b s.pieces count g.ready.pieces g.ready.begins g.ready.within).1;
        plain = shortened_plain b s.pieces count g.ready.plain;
      };
      stops = g.stops;
      ordered = (shortened_start P s.end b s.pieces count (g.words p) g.ready.begins g.ordered).1;
      words = g.words;
    }

    boxed : (k : Bool) → (c : Block) × Going P n (if k then s else defined_as t s b) front c
    boxed true = (b, g)
    boxed false = (new, defines)

    by : (o : Option Block) → o ≡ Some b → (c : Block) × Going P n (option_map_or (settled_as t s) o s) front c
    by None e = absurd cc
    by (Some x) e = let q : x ≡ b = cc in subst (λ y. (c : Block) × Going P n (settled_as t s y) front c) (sym q) (boxed (is_some b.task))

leaf_closed_shut : (P : ℕ → Type 0) (n : ℕ) (t : List ℕ) (s : State) → Stands P n s → Shut P n (leaf_closed t s)
unfolding leaf_closed is_paragraph
leaf_closed_shut P n t s (shut e h) = subst (λ k. Shut P n (leaf_closed_as k t s)) (sym e) h
leaf_closed_shut P n t s (holding w front b g) = by s.leaf w refl
  where
    words : (r : (c : Block) × Going P n (settled t s) front c) → Shut P n (leaf_finished (settled t s))
    words (c, k) = finish P n (settled t s) front c k

    by : (k : Leaf) → is_worded k ≡ true → s.leaf ≡ k → Shut P n (leaf_closed_as k t s)
    by leaf.Nothing w e = absurd cc
    by leaf.Paragraph w e = words (settled_going P n t s front b g (ap is_paragraph e))
    by leaf.Indented w e = finish P n s front b g
    by (leaf.Fenced f) w e = finish P n s front b g
    by (leaf.Html k) w e = finish P n s front b g
    by (leaf.Metadata k) w e = absurd cc
    by (leaf.Table x) w e = absurd cc

pub closed_to_shut : (P : ℕ → Type 0) (n : ℕ) (t : List ℕ) (depth : ℕ) (s : State) → Stands P n s → Shut P n (closed_to t depth s)
unfolding closed_to
closed_to_shut P n t depth s h = times_shut P n (length (leaf_closed t s).opened - depth) (leaf_closed t s) (leaf_closed_shut P n t s h)

left_noted_shut : (P : ℕ → Type 0) (n : ℕ) (o : Opened) (s : State) → Shut P n s → Shut P n (left_noted o s)
unfolding left_noted
left_noted_shut P n o s h = by (is_definitions o.container)
  where
    by : (x : Bool) → Shut P n (if x then record s { left = Some (record { list = o.block; behind = length s.blocks; loose = is_loose s.blocks (list_of s.opened) }) } else s)
    by true = h
    by false = h

pub list_left_shut : (P : ℕ → Type 0) (n : ℕ) (s : State) → Shut P n s → Shut P n (list_left s)
unfolding list_left
list_left_shut P n s h = by (innermost s.opened)
  where
    inner : (o : Opened) (k : Bool) → Shut P n (if k then left_noted o (one_closed s) else s)
    inner o true = left_noted_shut P n o (one_closed s) (one_shut P n s h)
    inner o false = h

    by : (f : Option Opened) → Shut P n (option_map_or (λ (o : Opened). if is_list o.container then left_noted o (one_closed s) else s) f s)
    by None = h
    by (Some o) = inner o (is_list o.container)

loosened_fits : (P : ℕ → Type 0) (list : Option ℕ) (apart : Bool) (bs : List Block) → AllByRecursion (Fit P) bs → AllByRecursion (Fit P) (loosened list apart bs)
unfolding loosened
loosened_fits P list false bs h = h
loosened_fits P None true bs h = h
loosened_fits P (Some i) true bs h = all_changed (Fit P) bs i (λ (b : Block). record b { loose = true }) (λ b e f. record { begins = f.begins; stops = f.stops; ordered = f.ordered; plain = f.plain }) h

loosened_starts : (list : Option ℕ) (apart : Bool) (bs : List Block) → starts (loosened list apart bs) ≡ starts bs
unfolding loosened
loosened_starts list false bs = refl
loosened_starts None true bs = refl
loosened_starts (Some i) true bs = same_numbers (λ (b : Block). b.start) bs i (λ (b : Block). record b { loose = true }) (λ b. refl)

had_holds : (P : ℕ → Type 0) (u : List ℕ) (os : List Opened) → AllByRecursion (Holds P u) os → AllByRecursion (Holds P u) (had_marked os)
unfolding had_marked
had_holds P u os h = all_changed (Holds P u) os (length os - 1) (λ (o : Opened). record o { had = true }) (λ o e w. record { stops = w.stops; begins = w.begins; got = w.got; ordered = w.ordered }) h

-- the blocks before a new one
abbrev before : ℕ → State → List Block
before number s = loosened (list_of s.opened) (is_apart s.opened number) s.blocks

-- a new block
abbrev fresh : BlockKind → ℕ → State → Block
fresh k start s = record { depth = length (had_marked s.opened); kind = k; start = start; end = start; first = length s.pieces; last = length s.pieces; loose = false; list = list_of s.opened; task = None }

before_holds : (P : ℕ → Type 0) (n number : ℕ) (s : State) → Shut P n s → AllByRecursion (Holds P (starts (before number s))) (had_marked s.opened)
before_holds P n number s h = subst (λ u. AllByRecursion (Holds P u) (had_marked s.opened)) (sym (loosened_starts (list_of s.opened) (is_apart s.opened number) s.blocks)) (had_holds P (starts s.blocks) s.opened (h.1))

quote_entered_shut : (P : ℕ → Type 0) (n : ℕ) (k : Container) (s : State) → Shut P n s → Shut P n (quote_entered k s)
quote_entered_shut P n k s h = by (is_quote k)
  where
    by : (x : Bool) → Shut P n (if x then record s { quotes = s.quotes ++ (length s.opened - 1) ∷ [] } else s)
    by true = h
    by false = h

pub opened_with_shut : (P : ℕ → Type 0) (n : ℕ) (c : Container) (k : BlockKind) (start : ℕ) (line : Line) (s : State) → Shut P n s → P start → start ≤ line.end → P line.end → Shut P n (opened_with c k start line s)
unfolding opened_with begun
opened_with_shut P n c k start line s h p l q =
    quote_entered_shut P n c (record s { blocks = all; opened = had_marked s.opened ++ new ∷ [] }) (
      all_both (Fit P) front (b ∷ []) (loosened_fits P (list_of s.opened) (is_apart s.opened line.number) s.blocks (h.0)) (record { begins = p; stops = p; ordered = omega arith; plain = refl }, tt),
      all_both (Holds P (starts all)) (had_marked s.opened) (new ∷ []) (more_holds P front b (had_marked s.opened) (before_holds P n line.number s h)) (
        record {
          stops = q;
          begins = start;
          got = slice_get-map (λ (x : Block). x.start) all (length all - 1) ∙ ap (option_map (λ (x : Block). x.start)) (got_last front b);
          ordered = l;
        },
        tt,
      ),
      h.2,
    )
  where
    front : List Block
    front = before line.number s

    b : Block
    b = fresh k start s

    all : List Block
    all = front ++ b ∷ []

    new : Opened
    new = record { container = c; block = length all - 1; end = line.end; line = line.number; had = false }

-- a leaf begins
pub leaf_going : (P : ℕ → Type 0) (f : Leaf) (k : BlockKind) (start : ℕ) (line : Line) (s : State) → Shut P line.end s → P start → start ≤ line.end → P line.end
    → (front : List Block) × (b : Block) × Going P line.end (leaf_opened f k start line s) front b
unfolding leaf_opened begun
leaf_going P f k start line s h p l q = (
  before line.number u,
  fresh k start u,
  record {
    ready = record {
      split = refl;
      fits = loosened_fits P (list_of u.opened) (is_apart u.opened line.number) u.blocks (g.0);
      holds = before_holds P line.end line.number u g;
      pieces = g.2;
      begins = p;
      within = l;
      plain = refl;
    };
    stops = q;
    ordered = l;
    words = λ w. g.2;
  },
)
  where
    u : State
    u = list_left s

    g : Shut P line.end u
    g = list_left_shut P line.end s h

pushed_ready : (P : ℕ → Type 0) (n : ℕ) (p : Piece) (s : State) (front : List Block) (b : Block) → Held P n p → Ready P n s front b → Ready P n (piece_pushed p s) front b
pushed_ready P n p s front b k r = by (nat_lt 0 p.spaces || nat_lt p.start p.next)
  where
    by : (x : Bool) → Ready P n (if x then record s { pieces = s.pieces ++ p ∷ [] } else s) front b
    by true = record { split = r.split; fits = r.fits; holds = r.holds; pieces = all_both (Held P n) s.pieces (p ∷ []) r.pieces (k, tt); begins = r.begins; within = r.within; plain = r.plain }
    by false = r

-- a line comes into the open leaf, and the leaf reaches to its end
pub taken_going : (P : ℕ → Type 0) (p : Piece) (line : Line) (s : State) (front : List Block) (b : Block) → Held P line.end p → P line.end → Ready P line.end s front b → Going P line.end (piece_taken p line true s) front b
unfolding piece_taken
taken_going P p line s front b k q r = record {
  ready = record { split = w.split; fits = w.fits; holds = w.holds; pieces = w.pieces; begins = w.begins; within = w.within; plain = w.plain };
  stops = q;
  ordered = w.within;
  words = λ e. w.pieces;
}
  where
    w : Ready P line.end (piece_pushed p s) front b
    w = pushed_ready P line.end p s front b k r

-- a blank line comes into code, whose end it may be
pub passed_going : (P : ℕ → Type 0) (n : ℕ) (p : Piece) (line : Line) (s : State) (front : List Block) (b : Block) → Held P n p → is_paragraph s.leaf ≡ false → Going P n s front b → Going P n (piece_taken p line false s) front b
unfolding piece_taken
passed_going P n p line s front b k e g = by (nat_lt 0 p.spaces || nat_lt p.start p.next)
  where
    by : (x : Bool) → Going P n (if x then record s { pieces = s.pieces ++ p ∷ [] } else s) front b
    by true = record {
      ready = record { split = g.ready.split; fits = g.ready.fits; holds = g.ready.holds; pieces = all_both (Held P n) s.pieces (p ∷ []) g.ready.pieces (k, tt); begins = g.ready.begins; within = g.ready.within; plain = g.ready.plain };
      stops = g.stops;
      ordered = g.ordered;
      words = λ w. absurd (true≢false (sym w ∙ e));
    }
    by false = g

later_held : (P : ℕ → Type 0) (n m : ℕ) → n ≤ m → (p : Piece) → Held P n p → Held P m p
later_held P n m l p w = record { begins = w.begins; before = let q : p.start ≤ n = w.before in omega arith; stops = w.stops; ordered = w.ordered; ends = w.ends; forward = w.forward; onto = w.onto; spaces = w.spaces }

-- the same, as seen from a later place
pub later_stands : (P : ℕ → Type 0) (n m : ℕ) (s : State) → n ≤ m → Stands P n s → Stands P m s
later_stands P n m s l (shut e h) = shut e (h.0, h.1, all_weaker (Held P n) (Held P m) s.pieces (later_held P n m l) (h.2))
later_stands P n m s l (holding w front b g) = holding w front b (record {
  ready = record {
    split = g.ready.split;
    fits = g.ready.fits;
    holds = g.ready.holds;
    pieces = all_weaker (Held P n) (Held P m) s.pieces (later_held P n m l) g.ready.pieces;
    begins = g.ready.begins;
    within = let q : b.start ≤ n = g.ready.within in omega arith;
    plain = g.ready.plain;
  };
  stops = g.stops;
  ordered = g.ordered;
  words = g.words;
})

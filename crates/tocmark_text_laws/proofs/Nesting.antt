-- Pages whose blocks nest.
use Rattle.std.proofs.Common.{◌≡◌, ℕ, zero, suc, ◌+◌, ◌-◌, ◌^◌, ◌<◌, ◌≤◌, ◌⊎◌, inl, inr, Bool, true, false, ◌||◌, if◌then◌else◌, nat_lt, nat_le, List, [], ◌∷◌, ◌++◌, length, take, drop, refl, ap, sym, ◌∙◌, subst, arith, length-append, length-take}
use Rattle.std.specs.Prelude.{slice_get, slice_set, min, Option, Some, None, is_some}
use Rattle.std.specs.Option.{option_map_or}
use Rattle.std.proofs.lemmas.Bool.Decides.{nat_tests}
use Rattle.std.proofs.lemmas.List.{length-map, map-append}
use Rattle.std.proofs.lemmas.Option.{slice_get_within}
use Rattle.tocmark_read_scan.specs.Basic.{plus}
use Rattle.tocmark_read_lines.specs.Containers.{raised_at}
use Rattle.tocmark_read_lines.specs.declared.container.Container.{Container}
use Rattle.tocmark_read_lines.specs.declared.container.Opened.{Opened}
use Rattle.tocmark_read_lines.specs.declared.line.Line.{Line}
use Rattle.tocmark_read_page.specs.Definitions.{definitions_from}
use Rattle.tocmark_read_page.specs.Leaves.{is_paragraph}
use Rattle.tocmark_read_page.specs.Pages.{State, ended, finished, raised_last, leaf_finished, shortened, defined_as, settled_as, settled, leaf_closed_as, leaf_closed, is_quote, is_list, is_definitions, quote_left, one_closed, times, closed_to, list_of, is_loose, left_noted, list_left, is_apart, loosened, had_marked, begun, opened_with, leaf_opened, piece_taken}
use Rattle.tocmark_read_page.specs.declared.leaf.Leaf.{Leaf}
use Rattle.tocmark_read_page.specs.declared.leaf.Leaf.TheVariants as leaf
use Rattle.tocmark_read_page.specs.declared.page.Block.{Block}
use Rattle.tocmark_read_page.specs.declared.page.BlockKind.{BlockKind}
use Rattle.tocmark_read_page.specs.declared.piece.Piece.{Piece}
use Rattle.tocmark_text_laws.proofs.Alls.{all_both, all_take, all_weaker, got_end, got_last, set_last, last_place, last_changed, same_numbers}
use Rattle.tocmark_text_laws.proofs.Placed.{is_worded}
use Rattle.tocmark_text_laws.proofs.Sorted.{Past, Sorts, Sorted, Fresh, containers, quotes_of, past_more, past_push, past_ended, sorts_push, sorts_ended, sorted_more, reach_raised, under_raised, raised_containers, reach_had, under_had, had_containers, reach_taken, reach_fresh, quotes_opened, quotes_closed}
use Rattle.tocmark_text_laws.proofs.Stacked.{Extent, extent, extents, Stack, Layer, Inner, Grows, stack_grows, stack_push, stack_open, stack_close, same_grows, both_grow, changed_grows, changed_length, raised_grows, raised_length, raised_reaches, taken_grows, more_grows, ended_split}

-- no leaf is open: the containers begin not after a place, the lines of leaves aren't more than a number, and the blocks are in order
abbrev pub Calm : ℕ → ℕ → ℕ → ℕ → State → Type 0
Calm m e c f s = Stack (length s.opened) f s.opened (extents s.blocks) × (length s.pieces ≤ c) × Sorted m e f s.opened s.quotes (extents s.blocks)

-- the last block is an open leaf, which begins after its containers, as its lines do
pub record Leafed (m e c f : ℕ) (s : State) (front : List Block) (b : Block) : Type 0 where
  pub floor : ℕ
  pub split : s.blocks ≡ front ++ b ∷ []
  pub stack : Stack (length s.opened) floor s.opened (extents front)
  pub depth : b.depth ≡ length s.opened
  pub after : floor ≤ b.start
  pub low : floor ≤ f
  pub count : length s.pieces ≤ c
  pub first : b.first ≤ 2 ^ 64 - 1
  pub words : is_paragraph s.leaf ≡ true → (i : ℕ) (p : Piece) → b.first ≤ i → slice_get s.pieces i ≡ Some p → floor ≤ p.start
  pub past : Past floor (extents front)
  pub sorted : Sorted m e f s.opened s.quotes (extents front)

pub data Rests (m e c f : ℕ) (s : State) : Type 0 where
  calm : s.leaf ≡ leaf.Nothing → Calm m e c f s → Rests m e c f s
  leafed : is_worded s.leaf ≡ true → s.end ≤ f → (front : List Block) → (b : Block) → Leafed m e c f s front b → Rests m e c f s

-- a place or a number further
pub calm_more : (m e c d f g : ℕ) (s : State) → c ≤ d → f ≤ g → g ≤ e → Calm m e c f s → Calm m e d g s
calm_more m e c d f g s l n r h = (stack_grows (length s.opened) f g s.opened s.opened (extents s.blocks) n (same_grows (length s.opened) s.opened) (h.0), (let k : length s.pieces ≤ c = h.1 in omega arith), sorted_more m e f g s.opened s.quotes (extents s.blocks) n r (h.2))

pub leafed_more : (m e c d f g : ℕ) (s : State) (front : List Block) (b : Block) → c ≤ d → f ≤ g → g ≤ e → Leafed m e c f s front b → Leafed m e d g s front b
leafed_more m e c d f g s front b l n r h = record {
  floor = h.floor;
  split = h.split;
  stack = h.stack;
  depth = h.depth;
  after = h.after;
  low = let k : h.floor ≤ f = h.low in omega arith;
  count = let k : length s.pieces ≤ c = h.count in omega arith;
  first = h.first;
  words = h.words;
  past = h.past;
  sorted = sorted_more m e f g s.opened s.quotes (extents front) n r h.sorted;
}

one_more : (front : List Block) (b : Block) → extents (front ++ b ∷ []) ≡ extents front ++ extent b ∷ []
one_more front b = map-append extent front (b ∷ [])

fewer : (n : ℕ) (ps : List Piece) (c : ℕ) → length ps ≤ c → length (take n ps) ≤ c
fewer n ps c h = let w : length (take n ps) ≡ min n (length ps) = length-take n ps in omega arith

pub finish_calm : (m e c f : ℕ) (s : State) (front : List Block) (b : Block) → s.end ≤ f → Leafed m e c f s front b → Calm m e c f (leaf_finished s)
unfolding leaf_finished finished
finish_calm m e c f s front b r h = (
  subst (λ m. Stack m f us (extents blocks)) (sym size) (subst (λ xs. Stack k f us xs) (sym (ap extents same ∙ one_more front new)) pushed),
  fewer s.kept s.pieces c h.count,
  subst (Sorted m e f us s.quotes) (sym (ap extents same ∙ one_more front new)) ordered,
)
  where
    k : ℕ
    k = length s.opened

    us : List Opened
    us = raised_at s.opened (length s.opened - 1) s.end s.line

    size : length us ≡ k
    size = raised_length s.opened (length s.opened - 1) s.end s.line

    change : Block → Block
    change x = record x { end = s.end; last = length (take s.kept s.pieces) }

    new : Block
    new = change b

    blocks : List Block
    blocks = option_map_or (λ (x : Block). slice_set s.blocks (length s.blocks - 1) (record x { end = s.end; last = length (take s.kept s.pieces) })) (slice_get s.blocks (length s.blocks - 1)) s.blocks

    same : blocks ≡ front ++ new ∷ []
    same = last_changed s.blocks front b change h.split

    reaches : (j : ℕ) (o : Opened) → suc j ≡ k → slice_get us j ≡ Some o → s.end ≤ o.end
    reaches j o e q = let w : j ≡ length s.opened - 1 = omega arith in raised_reaches s.opened (length s.opened - 1) s.end s.line o (ap (slice_get us) (sym w) ∙ q)

    pushed : Stack k f us (extents front ++ extent new ∷ [])
    pushed = stack_grows k h.floor f us us (extents front ++ extent new ∷ []) h.low (same_grows k us)
        (stack_push k h.floor us (extents front) (extent new) h.depth h.after reaches (stack_grows k h.floor h.floor s.opened us (extents front) (omega arith) (raised_grows k s.opened (length s.opened - 1) s.end s.line) h.stack))

    ordered : Sorted m e f us s.quotes (extents front ++ extent new ∷ [])
    ordered = record {
      past = past_push f (extents front) (extent new) r h.sorted.past;
      order = sorts_push h.floor (extents front) (extent new) h.after h.past h.sorted.order;
      reach = reach_raised m f s.opened (length s.opened - 1) s.end s.line r h.sorted.reach;
      under = under_raised e s.opened (length s.opened - 1) s.end s.line (let a : f ≤ e = h.sorted.room in omega arith) h.sorted.under;
      room = h.sorted.room;
      quotes = h.sorted.quotes ∙ ap (quotes_of 0) (sym (raised_containers s.opened (length s.opened - 1) s.end s.line));
    }

take_size : (k : ℕ) (os : List Opened) → length os ≡ suc k → length (take k os) ≡ k
take_size k os h = let w : length (take k os) ≡ min k (length os) = length-take k os in omega arith

-- the innermost container ends
closes_blocks : (m e c f k : ℕ) (s : State) (o : Opened) → length s.opened ≡ suc k → slice_get s.opened k ≡ Some o → o.end ≤ f → Calm m e c f s
    → Stack k f (raised_at (take k s.opened) (length (take k s.opened) - 1) o.end o.line) (extents (ended s.blocks o.block o.end)) × Past f (extents (ended s.blocks o.block o.end)) × Sorts (extents (ended s.blocks o.block o.end))
unfolding ended
closes_blocks m e c f k s o n q z h = by (subst (λ m. Stack m f s.opened (extents s.blocks)) n (h.0))
  where
    rest : List Opened
    rest = take k s.opened

    us : List Opened
    us = raised_at rest (length rest - 1) o.end o.line

    reaches : (j : ℕ) (u : Opened) → suc j ≡ k → slice_get us j ≡ Some u → o.end ≤ u.end
    reaches j u d r = let z : length rest ≡ k = take_size k s.opened n in let w : j ≡ length rest - 1 = omega arith in raised_reaches rest (length rest - 1) o.end o.line u (ap (slice_get us) (sym w) ∙ r)

    Closed : List Extent → Type 0
    Closed xs = Stack k f us xs × Past f xs × Sorts xs

    by : Stack (suc k) f s.opened (extents s.blocks) → Closed (extents (option_map_or (λ (x : Block). slice_set s.blocks o.block (record x { end = o.end })) (slice_get s.blocks o.block) s.blocks))
    by (pre, b, seg, x, w, r) =
        let same : x ≡ o = some_same x o (sym (w.got) ∙ q) in
        let v : Layer k f s.opened (extents s.blocks) pre b seg o = subst (λ y. Layer k f s.opened (extents s.blocks) pre b seg y) same w in
        subst Closed
        (sym (ap (λ n. extents (option_map_or (λ (x : Block). slice_set s.blocks n (record x { end = o.end })) (slice_get s.blocks n) s.blocks)) v.block ∙ ended_split s.blocks pre b seg o.end v.split)) (
          stack_close k f s.opened us pre b seg o (extents s.blocks) v r (both_grow k s.opened rest us (taken_grows k s.opened) (raised_grows k rest (length rest - 1) o.end o.line)) reaches,
          past_ended f pre b o.end seg z (subst (Past f) v.split (h.2).past),
          sorts_ended pre b o.end seg (all_weaker (Inner k b o) (λ (y : Extent). suc b.depth ≤ y.depth) seg (λ y i. let a : suc k ≤ y.depth = i.deep in let d : b.depth ≡ k = v.depth in omega arith) v.inside) (subst Sorts v.split (h.2).order),
        )
      where
        some_same : (x y : Opened) → Some x ≡ Some y → x ≡ y
        some_same x y p = cc

closes_calm : (m e c f k : ℕ) (s : State) (o : Opened) → length s.opened ≡ suc k → slice_get s.opened k ≡ Some o → o.end ≤ f → Calm m e c f s → Calm m e c f (quote_left o.container (raised_last o.end o.line (record s { opened = take k s.opened; blocks = ended s.blocks o.block o.end })))
closes_calm m e c f k s o n q z h = by (is_quote o.container) (quotes_closed k s.opened o s.quotes n q (h.2).quotes)
  where
    rest : List Opened
    rest = take k s.opened

    us : List Opened
    us = raised_at rest (length rest - 1) o.end o.line

    bs : List Block
    bs = ended s.blocks o.block o.end

    u : State
    u = record s { opened = us; blocks = bs }

    size : length us ≡ k
    size = raised_length rest (length rest - 1) o.end o.line ∙ take_size k s.opened n

    parts : Stack k f us (extents bs) × Past f (extents bs) × Sorts (extents bs)
    parts = closes_blocks m e c f k s o n q z h

    ordered : (qs : List ℕ) → qs ≡ quotes_of 0 (containers rest) → Sorted m e f us qs (extents bs)
    ordered qs w = record {
      past = parts.1;
      order = parts.2;
      reach = reach_raised m f rest (length rest - 1) o.end o.line z (reach_taken m f k s.opened (h.2).reach);
      under = under_raised e rest (length rest - 1) o.end o.line (let a : f ≤ e = (h.2).room in omega arith) (all_take (λ (y : Opened). y.end ≤ e) k s.opened (h.2).under);
      room = (h.2).room;
      quotes = w ∙ ap (quotes_of 0) (sym (raised_containers rest (length rest - 1) o.end o.line));
    }

    by : (x : Bool) → (if x then take (length s.quotes - 1) s.quotes else s.quotes) ≡ quotes_of 0 (containers rest) → Calm m e c f (if x then record u { quotes = take (length s.quotes - 1) s.quotes } else u)
    by true w = (subst (λ m. Stack m f us (extents bs)) (sym size) (parts.0), h.1, ordered (take (length s.quotes - 1) s.quotes) w)
    by false w = (subst (λ m. Stack m f us (extents bs)) (sym size) (parts.0), h.1, ordered s.quotes w)

-- the innermost container ends, if it reaches no further than the place
one_calm : (m e c f : ℕ) (s : State) → ((o : Opened) → slice_get s.opened (length s.opened - 1) ≡ Some o → o.end ≤ f) → Calm m e c f s → Calm m e c f (one_closed s)
unfolding one_closed
one_calm m e c f s z h = by (slice_get s.opened (length s.opened - 1)) refl
  where
    rest : List Opened
    rest = take (length s.opened - 1) s.opened

    closes : Opened → State
    closes o = raised_last o.end o.line (record s { opened = rest; blocks = ended s.blocks o.block o.end })

    calms : (o : Opened) → slice_get s.opened (length s.opened - 1) ≡ Some o → Calm m e c f (quote_left o.container (closes o))
    calms o q = let l : length s.opened - 1 < length s.opened = slice_get_within s.opened (length s.opened - 1) o q in closes_calm m e c f (length s.opened - 1) s o (omega arith) q (z o q) h

    by : (x : Option Opened) → slice_get s.opened (length s.opened - 1) ≡ x → Calm m e c f (option_map_or (λ (o : Opened). quote_left o.container (closes o)) x s)
    by None q = h
    by (Some o) q = calms o q

quote_left_opened : (k : Container) (s : State) → (quote_left k s).opened ≡ s.opened
quote_left_opened k s = by (is_quote k)
  where
    by : (x : Bool) → (if x then record s { quotes = take (length s.quotes - 1) s.quotes } else s).opened ≡ s.opened
    by true = refl
    by false = refl

-- one container fewer
one_fewer : (k : ℕ) (s : State) → length s.opened ≡ suc k → length (one_closed s).opened ≡ k
unfolding one_closed
one_fewer k s n = by (slice_get s.opened (length s.opened - 1)) refl
  where
    rest : List Opened
    rest = take (length s.opened - 1) s.opened

    closes : Opened → State
    closes o = raised_last o.end o.line (record s { opened = rest; blocks = ended s.blocks o.block o.end })

    size : length rest ≡ k
    size = let w : length rest ≡ min (length s.opened - 1) (length s.opened) = length-take (length s.opened - 1) s.opened in omega arith

    none : slice_get s.opened (length s.opened - 1) ≡ None → length s.opened ≡ k
    none e = absurd (got_some s.opened (length s.opened - 1) (omega arith) e)
      where
        got_some : (os : List Opened) (i : ℕ) → i < length os → slice_get os i ≡ None → ⊥
        got_some [] i l q = absurd (omega arith)
        got_some (x ∷ xs) zero l q = absurd cc
        got_some (x ∷ xs) (suc i) l q = got_some xs i (omega arith) q

    by : (x : Option Opened) → slice_get s.opened (length s.opened - 1) ≡ x → length (option_map_or (λ (o : Opened). quote_left o.container (closes o)) x s).opened ≡ k
    by None e = none e
    by (Some o) e = ap (λ (os : List Opened). length os) (quote_left_opened o.container (closes o)) ∙ raised_length rest (length rest - 1) o.end o.line ∙ size

times_calm : (m e c f k : ℕ) (s : State) → k + m ≤ length s.opened → Calm m e c f s → Calm m e c f (times one_closed k s)
unfolding times
times_calm m e c f zero s w h = h
times_calm m e c f (suc k) s w h = times_calm m e c f k (one_closed s) further (one_calm m e c f s may h)
  where
    further : k + m ≤ length (one_closed s).opened
    further = let n : length (one_closed s).opened ≡ length s.opened - 1 = one_fewer (length s.opened - 1) s (omega arith) in omega arith

    may : (o : Opened) → slice_get s.opened (length s.opened - 1) ≡ Some o → o.end ≤ f
    may o q = (h.2).reach (length s.opened - 1) o q (inl (omega arith))

-- so many containers end
pub some_left : (k n : ℕ) (s : State) → length s.opened ≡ k + n → length (times one_closed k s).opened ≡ n
unfolding times
some_left zero n s w = omega arith
some_left (suc k) n s w = some_left k n (one_closed s) (one_fewer (k + n) s (omega arith))

shortened_after : (floor : ℕ) (b : Block) (ps : List Piece) (count : ℕ) → floor ≤ b.start → b.first ≤ 2 ^ 64 - 1 → ((i : ℕ) (p : Piece) → b.first ≤ i → slice_get ps i ≡ Some p → floor ≤ p.start) → floor ≤ (shortened b ps count).start
unfolding shortened
shortened_after floor b ps count l m f = by (slice_get ps (plus b.first count)) refl
  where
    by : (o : Option Piece) → slice_get ps (plus b.first count) ≡ o → floor ≤ option_map_or (λ (p : Piece). p.start) o b.start
    by None e = l
    by (Some p) e = f (plus b.first count) p (omega arith) e

shortened_same : (b : Block) (ps : List Piece) (count : ℕ) → ((shortened b ps count).depth ≡ b.depth) × ((shortened b ps count).first ≡ plus b.first count)
unfolding shortened
shortened_same b ps count = (refl, refl)

pub settled_leafed : (m e c f : ℕ) (t : List ℕ) (s : State) (front : List Block) (b : Block) → Leafed m e c f s front b → is_paragraph s.leaf ≡ true → (x : Block) × Leafed m e c f (settled t s) front x
unfolding settled
settled_leafed m e c f t s front b h p = by (slice_get s.blocks (length s.blocks - 1)) (ap (λ (bs : List Block). slice_get bs (length bs - 1)) h.split ∙ got_last front b)
  where
    count : ℕ
    count = (definitions_from t (drop b.first s.pieces) s.definitions).1

    new : Block
    new = shortened b s.pieces count

    firsts : new.first ≡ plus b.first count
    firsts = (shortened_same b s.pieces count).1

    defines : Leafed m e c f (defined_as t s b) front new
    defines = record {
      floor = h.floor;
      split = ap (λ (bs : List Block). slice_set bs (length bs - 1) new) h.split ∙ set_last front b new;
      stack = h.stack;
      depth = (shortened_same b s.pieces count).0 ∙ h.depth;
      after = shortened_after h.floor b s.pieces count h.after h.first (h.words p);
      low = h.low;
      count = h.count;
      first = let q : new.first ≡ plus b.first count = firsts in omega arith;
      words = λ w i x l e. let q : new.first ≡ plus b.first count = firsts in let m : b.first ≤ 2 ^ 64 - 1 = h.first in h.words w i x (omega arith) e;
      past = h.past;
      sorted = h.sorted;
    }

    boxed : (k : Bool) → (x : Block) × Leafed m e c f (if k then s else defined_as t s b) front x
    boxed true = (b, h)
    boxed false = (new, defines)

    by : (o : Option Block) → o ≡ Some b → (x : Block) × Leafed m e c f (option_map_or (settled_as t s) o s) front x
    by None e = absurd cc
    by (Some y) w = let q : y ≡ b = cc in subst (λ z. (x : Block) × Leafed m e c f (settled_as t s z) front x) (sym q) (boxed (is_some b.task))

pub settled_end : (t : List ℕ) (s : State) → (settled t s).end ≡ s.end
unfolding settled
settled_end t s = by (slice_get s.blocks (length s.blocks - 1))
  where
    boxed : (b : Block) (k : Bool) → (if k then s else defined_as t s b).end ≡ s.end
    boxed b true = refl
    boxed b false = refl

    by : (o : Option Block) → (option_map_or (settled_as t s) o s).end ≡ s.end
    by None = refl
    by (Some b) = boxed b (is_some b.task)

leaf_closed_calm : (m e c f : ℕ) (t : List ℕ) (s : State) → Rests m e c f s → Calm m e c f (leaf_closed t s)
unfolding leaf_closed is_paragraph
leaf_closed_calm m e c f t s (calm q h) = subst (λ k. Calm m e c f (leaf_closed_as k t s)) (sym q) h
leaf_closed_calm m e c f t s (leafed w r front b h) = by s.leaf w refl
  where
    words : (x : Block) × Leafed m e c f (settled t s) front x → Calm m e c f (leaf_finished (settled t s))
    words (x, k) = finish_calm m e c f (settled t s) front x (let q : (settled t s).end ≡ s.end = settled_end t s in omega arith) k

    by : (k : Leaf) → is_worded k ≡ true → s.leaf ≡ k → Calm m e c f (leaf_closed_as k t s)
    by leaf.Nothing w q = absurd cc
    by leaf.Paragraph w q = words (settled_leafed m e c f t s front b h (ap is_paragraph q))
    by leaf.Indented w q = finish_calm m e c f s front b r h
    by (leaf.Fenced x) w q = finish_calm m e c f s front b r h
    by (leaf.Html k) w q = finish_calm m e c f s front b r h
    by (leaf.Metadata k) w q = absurd cc
    by (leaf.Table x) w q = absurd cc

pub closed_to_calm : (m e c f : ℕ) (t : List ℕ) (depth : ℕ) (s : State) → m ≤ depth → Rests m e c f s → Calm m e c f (closed_to t depth s)
unfolding closed_to times
closed_to_calm m e c f t depth s w h = by (nat_le (length (leaf_closed t s).opened) depth) refl
  where
    u : State
    u = leaf_closed t s

    k : Calm m e c f u
    k = leaf_closed_calm m e c f t s h

    times_calm_none : (v : State) → Calm m e c f v → Calm m e c f (times one_closed 0 v)
    times_calm_none v q = q

    by : (b : Bool) → nat_le (length u.opened) depth ≡ b → Calm m e c f (times one_closed (length u.opened - depth) u)
    by true q = let l : length u.opened ≤ depth = grind (arith, nat_tests) in let z : length u.opened - depth ≡ 0 = omega arith in subst (λ n. Calm m e c f (times one_closed n u)) (sym z) (times_calm_none u k)
    by false q = let l : depth < length u.opened = grind (arith, nat_tests) in times_calm m e c f (length u.opened - depth) u (omega arith) k

-- at the end no container is open
pub all_closed : (m e c f : ℕ) (t : List ℕ) (s : State) → m ≤ 0 → Rests m e c f s → Stack 0 f (closed_to t 0 s).opened (extents (closed_to t 0 s).blocks) × Sorts (extents (closed_to t 0 s).blocks)
unfolding closed_to
all_closed m e c f t s z h = (
  subst (λ m. Stack m f (closed_to t 0 s).opened (extents (closed_to t 0 s).blocks)) (some_left (length (leaf_closed t s).opened - 0) 0 (leaf_closed t s) (omega arith)) (all.0),
  (all.2).order,
)
  where
    all : Calm m e c f (closed_to t 0 s)
    all = closed_to_calm m e c f t 0 s z h

left_noted_calm : (m e c f : ℕ) (o : Opened) (s : State) → Calm m e c f s → Calm m e c f (left_noted o s)
unfolding left_noted
left_noted_calm m e c f o s h = by (is_definitions o.container)
  where
    by : (x : Bool) → Calm m e c f (if x then record s { left = Some (record { list = o.block; behind = length s.blocks; loose = is_loose s.blocks (list_of s.opened) }) } else s)
    by true = h
    by false = h

pub list_left_calm : (m e c f : ℕ) (s : State) → m ≤ length s.opened → Calm m e c f s → Calm m e c f (list_left s)
unfolding list_left
list_left_calm m e c f s w h = by (slice_get s.opened (length s.opened - 1)) refl
  where
    may : (o : Opened) → slice_get s.opened (length s.opened - 1) ≡ Some o → is_list o.container ≡ true → (x : Opened) → slice_get s.opened (length s.opened - 1) ≡ Some x → x.end ≤ f
    may o q k x p = let l : length s.opened - 1 < length s.opened = slice_get_within s.opened (length s.opened - 1) x p in (h.2).reach (length s.opened - 1) x p (inr (omega arith, let z : o ≡ x = some_same o x (sym q ∙ p) in ap (λ (y : Opened). is_list y.container) (sym z) ∙ k))
      where
        some_same : (x y : Opened) → Some x ≡ Some y → x ≡ y
        some_same x y p = cc

    inside : (o : Opened) → slice_get s.opened (length s.opened - 1) ≡ Some o → (k : Bool) → is_list o.container ≡ k → Calm m e c f (if k then left_noted o (one_closed s) else s)
    inside o q true k = left_noted_calm m e c f o (one_closed s) (one_calm m e c f s (may o q k) h)
    inside o q false k = h

    by : (x : Option Opened) → slice_get s.opened (length s.opened - 1) ≡ x → Calm m e c f (option_map_or (λ (o : Opened). if is_list o.container then left_noted o (one_closed s) else s) x s)
    by None q = h
    by (Some o) q = inside o q (is_list o.container) refl

loosened_same : (list : Option ℕ) (apart : Bool) (bs : List Block) → extents (loosened list apart bs) ≡ extents bs
unfolding loosened
loosened_same list false bs = refl
loosened_same None true bs = refl
loosened_same (Some i) true bs = same_numbers extent bs i (λ (b : Block). record b { loose = true }) (λ b. refl)

had_grows : (k : ℕ) (os : List Opened) → Grows k os (had_marked os)
unfolding had_marked
had_grows k os = changed_grows k os (length os - 1) (λ (o : Opened). record o { had = true }) (λ o. (refl, omega arith))

pub had_length : (os : List Opened) → length (had_marked os) ≡ length os
unfolding had_marked
had_length os = changed_length os (length os - 1) (λ (o : Opened). record o { had = true })

abbrev before : ℕ → State → List Block
before number s = loosened (list_of s.opened) (is_apart s.opened number) s.blocks

abbrev fresh : BlockKind → ℕ → State → Block
fresh k start s = record { depth = length (had_marked s.opened); kind = k; start = start; end = start; first = length s.pieces; last = length s.pieces; loose = false; list = list_of s.opened; task = None }

pub opened_with_calm : (m n e c f : ℕ) (x : Container) (k : BlockKind) (start : ℕ) (line : Line) (s : State) → f ≤ start → start ≤ line.end → line.end ≤ e → Fresh n (length s.opened) x → Calm m e c f s → Calm n e c start (opened_with x k start line s)
unfolding opened_with begun
opened_with_calm m n e c f x k start line s l z r w h = by (is_quote x) entered
  where
    depth : ℕ
    depth = length s.opened

    front : List Block
    front = before line.number s

    b : Block
    b = fresh k start s

    all : List Block
    all = front ++ b ∷ []

    new : Opened
    new = record { container = x; block = length all - 1; end = line.end; line = line.number; had = false }

    us : List Opened
    us = had_marked s.opened ++ new ∷ []

    size : length us ≡ suc depth
    size = let w : length us ≡ length (had_marked s.opened) + 1 = length-append (had_marked s.opened) (new ∷ []) in let q : length (had_marked s.opened) ≡ length s.opened = had_length s.opened in omega arith

    place : length all - 1 ≡ length (extents front)
    place = let w : length all ≡ length front + 1 = length-append front (b ∷ []) in let q : length (extents front) ≡ length front = length-map front extent in omega arith

    opens : Stack (suc depth) start us (extents front ++ extent b ∷ [])
    opens = stack_open depth f s.opened us (extents front) (extent b) new (had_length s.opened) l
        (ap (slice_get us) (sym (had_length s.opened)) ∙ got_end (had_marked s.opened) [] new) place
        (both_grow depth s.opened (had_marked s.opened) us (had_grows depth s.opened) (more_grows depth (had_marked s.opened) (new ∷ [])))
        (subst (λ xs. Stack depth f s.opened xs) (sym (loosened_same (list_of s.opened) (is_apart s.opened line.number) s.blocks)) (h.0))

    same : extents front ≡ extents s.blocks
    same = loosened_same (list_of s.opened) (is_apart s.opened line.number) s.blocks

    ordered : (qs : List ℕ) → qs ≡ quotes_of 0 (containers us) → Sorted n e start us qs (extents all)
    ordered qs q = record {
      past = subst (Past start) (sym (one_more front b)) (past_push start (extents front) (extent b) (omega arith) (past_more f start (extents front) l (subst (Past f) (sym same) (h.2).past)));
      order = subst Sorts (sym (one_more front b)) (sorts_push f (extents front) (extent b) l (subst (Past f) (sym same) (h.2).past) (subst Sorts (sym same) (h.2).order));
      reach = reach_fresh n start (had_marked s.opened) new (subst (λ i. Fresh n i x) (sym (had_length s.opened)) w);
      under = all_both (λ (o : Opened). o.end ≤ e) (had_marked s.opened) (new ∷ []) (under_had e s.opened (h.2).under) (r, tt);
      room = omega arith;
      quotes = q;
    }

    last : length us - 1 ≡ length (had_marked s.opened)
    last = last_place (had_marked s.opened) new

    entered : (if is_quote x then s.quotes ++ length (had_marked s.opened) ∷ [] else s.quotes) ≡ quotes_of 0 (containers us)
    entered = quotes_opened (had_marked s.opened) new s.quotes ((h.2).quotes ∙ ap (quotes_of 0) (sym (had_containers s.opened)))

    stacked : Stack (length us) start us (extents all)
    stacked = subst (λ n. Stack n start us (extents all)) (sym size) (subst (λ xs. Stack (suc depth) start us xs) (sym (one_more front b)) opens)

    u : State
    u = record s { blocks = all; opened = us }

    by : (y : Bool) → (if y then s.quotes ++ length (had_marked s.opened) ∷ [] else s.quotes) ≡ quotes_of 0 (containers us) → Calm n e c start (if y then record u { quotes = s.quotes ++ (length us - 1) ∷ [] } else u)
    by true q = (stacked, h.1, ordered (s.quotes ++ (length us - 1) ∷ []) (ap (λ i. s.quotes ++ i ∷ []) last ∙ q))
    by false q = (stacked, h.1, ordered s.quotes q)

pub leaf_opened_leafed : (m e c f : ℕ) (l : Leaf) (k : BlockKind) (start : ℕ) (line : Line) (s : State) → f ≤ start → c ≤ 2 ^ 64 - 1 → m ≤ length s.opened → Calm m e c f s → (front : List Block) × (b : Block) × Leafed m e c f (leaf_opened l k start line s) front b
unfolding leaf_opened begun
leaf_opened_leafed m e c f l k start line s n few w h = (
  before line.number u,
  fresh k start u,
  record {
    floor = f;
    split = refl;
    stack = subst (λ n. Stack n f (had_marked u.opened) (extents (before line.number u))) (sym (had_length u.opened))
        (subst (λ xs. Stack (length u.opened) f (had_marked u.opened) xs) (sym same)
        (stack_grows (length u.opened) f f u.opened (had_marked u.opened) (extents u.blocks) (omega arith) (had_grows (length u.opened) u.opened) (g.0)));
    depth = refl;
    after = n;
    low = omega arith;
    count = g.1;
    first = let q : length u.pieces ≤ c = g.1 in omega arith;
    words = λ w i p n e. absurd (none u.pieces i p n e);
    past = subst (Past f) (sym same) (g.2).past;
    sorted = record {
      past = subst (Past f) (sym same) (g.2).past;
      order = subst Sorts (sym same) (g.2).order;
      reach = reach_had m f u.opened (g.2).reach;
      under = under_had e u.opened (g.2).under;
      room = (g.2).room;
      quotes = (g.2).quotes ∙ ap (quotes_of 0) (sym (had_containers u.opened));
    };
  },
)
  where
    u : State
    u = list_left s

    g : Calm m e c f u
    g = list_left_calm m e c f s w h

    same : extents (before line.number u) ≡ extents u.blocks
    same = loosened_same (list_of u.opened) (is_apart u.opened line.number) u.blocks

    none : (ps : List Piece) (i : ℕ) (p : Piece) → length ps ≤ i → slice_get ps i ≡ Some p → ⊥
    none ps i p n e = let q : i < length ps = slice_get_within ps i p e in absurd (omega arith)

got_more : (ps : List Piece) (x : Piece) (i : ℕ) (p : Piece) → slice_get (ps ++ x ∷ []) i ≡ Some p → (slice_get ps i ≡ Some p) ⊎ (x ≡ p)
got_more [] x zero p e = inr cc
got_more [] x (suc i) p e = absurd cc
got_more (y ∷ ys) x zero p e = inl e
got_more (y ∷ ys) x (suc i) p e = got_more ys x i p e

-- a line comes into the open leaf
pub taken_leafed : (m e c f : ℕ) (p : Piece) (line : Line) (keeps : Bool) (s : State) (front : List Block) (b : Block) → (is_paragraph s.leaf ≡ true → f ≤ p.start) → Leafed m e c f s front b → Leafed m e (suc c) f (piece_taken p line keeps s) front b
unfolding piece_taken
taken_leafed m e c f p line keeps s front b l h = by (nat_lt 0 p.spaces || nat_lt p.start p.next) keeps
  where
    below : h.floor ≤ f
    below = h.low

    words : is_paragraph s.leaf ≡ true → (i : ℕ) (x : Piece) → b.first ≤ i → slice_get (s.pieces ++ p ∷ []) i ≡ Some x → h.floor ≤ x.start
    words w i x n e = either (got_more s.pieces p i x e)
      where
        either : (slice_get s.pieces i ≡ Some x) ⊎ (p ≡ x) → h.floor ≤ x.start
        either (inl q) = h.words w i x n q
        either (inr q) = let a : f ≤ p.start = l w in let d : h.floor ≤ f = below in let g : h.floor ≤ p.start = omega arith in subst (λ (y : Piece). h.floor ≤ y.start) q g

    more : length (s.pieces ++ p ∷ []) ≤ suc c
    more = let w : length (s.pieces ++ p ∷ []) ≡ length s.pieces + 1 = length-append s.pieces (p ∷ []) in let q : length s.pieces ≤ c = h.count in omega arith

    same : length s.pieces ≤ suc c
    same = let q : length s.pieces ≤ c = h.count in omega arith

    by : (x y : Bool) → Leafed m e (suc c) f (let t = if x then record s { pieces = s.pieces ++ p ∷ [] } else s in if y then record t { kept = length t.pieces; end = line.end; line = line.number } else t) front b
    by true true = record { floor = h.floor; split = h.split; stack = h.stack; depth = h.depth; after = h.after; low = h.low; count = more; first = h.first; words = words; past = h.past; sorted = h.sorted }
    by true false = record { floor = h.floor; split = h.split; stack = h.stack; depth = h.depth; after = h.after; low = h.low; count = more; first = h.first; words = words; past = h.past; sorted = h.sorted }
    by false true = record { floor = h.floor; split = h.split; stack = h.stack; depth = h.depth; after = h.after; low = h.low; count = same; first = h.first; words = h.words; past = h.past; sorted = h.sorted }
    by false false = record { floor = h.floor; split = h.split; stack = h.stack; depth = h.depth; after = h.after; low = h.low; count = same; first = h.first; words = h.words; past = h.past; sorted = h.sorted }

-- Where the lines of each block are as a page goes on.
use Rattle.std.proofs.Common.{◌≡◌, ℕ, zero, suc, ◌+◌, ◌-◌, ◌^◌, ◌<◌, ◌≤◌, ◌⊎◌, inl, inr, Bool, true, false, ◌||◌, if◌then◌else◌, nat_lt, nat_le, List, [], ◌∷◌, ◌++◌, length, map, take, drop, refl, ap, sym, ◌∙◌, subst, arith, length-append, length-take, true≢false}
use Rattle.std.specs.Prelude.{slice_get, slice_set, min, Option, Some, None, is_some}
use Rattle.std.specs.Option.{option_map, option_map_or}
use Rattle.std.specs.List.{AllByRecursion}
use Rattle.std.proofs.lemmas.Bool.Decides.{nat_tests}
use Rattle.std.proofs.lemmas.List.{length-map, map-append}
use Rattle.std.proofs.lemmas.Option.{slice_get-map, slice_get_within}
use Rattle.tocmark_read_scan.specs.Basic.{plus}
use Rattle.tocmark_read_scan.specs.Repeat.{going, repeated}
use Rattle.tocmark_read_tokens.specs.Word.{definition_at}
use Rattle.tocmark_read_tokens.specs.declared.word.Definition.{Definition}
use Rattle.tocmark_read_lines.specs.Containers.{raised, raised_at, touched_from}
use Rattle.tocmark_read_lines.specs.declared.container.Container.{Container}
use Rattle.tocmark_read_lines.specs.declared.container.Opened.{Opened}
use Rattle.tocmark_read_lines.specs.declared.line.Line.{Line}
use Rattle.tocmark_read_page.specs.Definitions.{DefinitionView, begins_definition, define_once, definitions_from, found_view, joined, line_count, lines_defined}
use Rattle.tocmark_read_page.specs.Leaves.{is_paragraph}
use Rattle.tocmark_read_page.specs.Pages.{State, innermost, ended, finished, raised_last, leaf_finished, shortened, defined_as, settled_as, settled, leaf_closed_as, leaf_closed, is_quote, is_list, is_definitions, quote_left, one_closed, times, closed_to, list_of, is_loose, left_noted, list_left, is_apart, loosened, had_marked, begun, quote_entered, opened_with, leaf_opened, piece_taken}
use Rattle.tocmark_read_page.specs.declared.leaf.Leaf.{Leaf}
use Rattle.tocmark_read_page.specs.declared.leaf.Leaf.TheVariants as leaf
use Rattle.tocmark_read_page.specs.declared.page.Block.{Block}
use Rattle.tocmark_read_page.specs.declared.page.BlockKind.{BlockKind}
use Rattle.tocmark_read_page.specs.declared.piece.Piece.{Piece}
use Rattle.tocmark_text_laws.proofs.Alls.{all_got, all_changed, all_both, all_take, all_weaker, got_end, got_front, got_last, set_last, last_changed, same_numbers}
use Rattle.tocmark_text_laws.proofs.Placed.{is_worded}
use Rattle.tocmark_range_laws.proofs.Indexed.{changed_got, got_take, got_more, take_got}
use Rattle.tocmark_range_laws.specs.Found.{HasOne}
use Rattle.tocmark_range_laws.specs.Within.{Lies}

-- lines of leaves that come one after the other, from one place to another
abbrev pub Climb : ℕ → ℕ → List Piece → Type 0
Climb from to [] = from ≤ to
Climb from to (p ∷ ps) = (from ≤ p.start) × (p.start ≤ p.next) × (p.end ≤ p.next) × Climb p.next to ps

climb_ordered : (m n : ℕ) (ps : List Piece) → Climb m n ps → m ≤ n
climb_ordered m n [] h = h
climb_ordered m n (p ∷ ps) (a, b, c, d) = let w : p.next ≤ n = climb_ordered p.next n ps d in omega arith

pub climb_more : (m n k : ℕ) (ps : List Piece) → n ≤ k → Climb m n ps → Climb m k ps
climb_more m n k [] l h = omega arith
climb_more m n k (p ∷ ps) l (a, b, c, d) = (a, b, c, climb_more p.next n k ps l d)

climb_take : (m n j : ℕ) (ps : List Piece) → Climb m n ps → Climb m n (take j ps)
climb_take m n zero ps h = climb_ordered m n ps h
climb_take m n (suc j) [] h = h
climb_take m n (suc j) (p ∷ ps) (a, b, c, d) = (a, b, c, climb_take p.next n j ps d)

climb_put : (m n k : ℕ) (ps : List Piece) (p : Piece) → n ≤ p.start → p.start ≤ p.next → p.end ≤ p.next → p.next ≤ k → Climb m n ps → Climb m k (ps ++ p ∷ [])
climb_put m n k [] p a b c d h = (omega arith, b, c, d)
climb_put m n k (x ∷ xs) p a b c d (e, f, g, h) = (e, f, g, climb_put x.next n k xs p a b c d h)

climb_got : (m n : ℕ) (ps : List Piece) (i : ℕ) (p : Piece) → Climb m n ps → slice_get ps i ≡ Some p → (m ≤ p.start) × (p.start ≤ n) × (p.end ≤ n)
climb_got m n [] i p h e = absurd cc
climb_got m n (x ∷ xs) zero p (a, b, c, d) e =
    let q : x ≡ p = cc in
    let w : x.next ≤ n = climb_ordered x.next n xs d in
    subst (λ (y : Piece). (m ≤ y.start) × (y.start ≤ n) × (y.end ≤ n)) q (a, omega arith, omega arith)
climb_got m n (x ∷ xs) (suc i) p (a, b, c, d) e = let w : (x.next ≤ p.start) × (p.start ≤ n) × (p.end ≤ n) = climb_got x.next n xs i p d e in (let v : x.next ≤ p.start = w.0 in omega arith, w.1, w.2)

climb_sorted : (m n : ℕ) (ps : List Piece) (i j : ℕ) (p q : Piece) → Climb m n ps → i ≤ j → slice_get ps i ≡ Some p → slice_get ps j ≡ Some q → p.start ≤ q.start
climb_sorted m n [] i j p q h l e f = absurd cc
climb_sorted m n (x ∷ xs) zero zero p q h l e f = let w : p ≡ q = cc in subst (λ (y : Piece). p.start ≤ y.start) w (omega arith)
climb_sorted m n (x ∷ xs) zero (suc j) p q (a, b, c, d) l e f =
    let w : x ≡ p = cc in
    let v : x.next ≤ q.start = (climb_got x.next n xs j q d f).0 in
    subst (λ (y : Piece). y.start ≤ q.start) w (omega arith)
climb_sorted m n (x ∷ xs) (suc i) zero p q h l e f = absurd (omega arith)
climb_sorted m n (x ∷ xs) (suc i) (suc j) p q (a, b, c, d) l e f = climb_sorted x.next n xs i j p q d (omega arith) e f

-- a block whose lines lie in it, and are among so many
pub record Fit (ps : List Piece) (count : ℕ) (b : Block) : Type 0 where
  pub lasts : b.last ≤ count
  pub lines : (i : ℕ) (p : Piece) → b.first ≤ i → i < b.last → slice_get ps i ≡ Some p → Lies b.start b.end p

-- which blocks have no lines
abbrev pub bares : List Block → List Bool
bares bs = map (λ (b : Block). nat_le b.last b.first) bs

-- the block of an open container has none
abbrev pub Bare : List Bool → Opened → Type 0
Bare hs o = slice_get hs o.block ≡ Some true

-- a container's block is another one
abbrev pub Apart : ℕ → Opened → Type 0
Apart i o = o.block ≡ i → ⊥

-- where a line is found: a block begins in it, one that has ended meets it, or it is a line of a leaf
pub data Found (l : Line) (bs : List Block) (os : List Opened) (ps : List Piece) (kept : ℕ) : Type 0 where
  Begun : (i : ℕ) → (b : Block) → slice_get bs i ≡ Some b → l.start ≤ b.start → b.start ≤ l.end → Found l bs os ps kept
  Met : (i : ℕ) → (b : Block) → slice_get bs i ≡ Some b → b.start ≤ l.end → l.start ≤ b.end → AllByRecursion (Apart i) os → Found l bs os ps kept
  Kept : (i : ℕ) → (p : Piece) → slice_get ps i ≡ Some p → i < kept → l.start ≤ p.start → p.start < p.end → p.end ≤ l.end → Found l bs os ps kept

-- the same, where a leaf is open that is from one place to another
pub data OpenFound (k : Leaf) (l : Line) (bs : List Block) (os : List Opened) (ps : List Piece) (kept from to : ℕ) : Type 0 where
  Before : Found l bs os ps kept → OpenFound k l bs os ps kept from to
  Here : is_paragraph k ≡ false → from ≤ l.end → l.start ≤ to → OpenFound k l bs os ps kept from to

-- some block has a line
abbrev pub Housed : List Block → ℕ → Type 0
Housed bs i = HasOne (λ (b : Block). (b.first ≤ i) × (i < b.last)) bs

-- without definitions, there are so many lines of leaves, and each of these is in one of some blocks
abbrev pub AllHoused : State → List Block → ℕ → Type 0
AllHoused s bs n = s.definitions ≡ [] → (n ≤ length s.pieces) × ((i : ℕ) → i < n → Housed bs i)

-- a page in which no leaf is open
abbrev pub Shut : List Line → ℕ → ℕ → State → Type 0
Shut ls c n s = AllByRecursion (Fit s.pieces (length s.pieces)) s.blocks × AllByRecursion (Bare (bares s.blocks)) s.opened × Climb 0 n s.pieces × (length s.pieces ≤ c)
    × AllByRecursion (λ (l : Line). (l.start ≤ n) × Found l s.blocks s.opened s.pieces (length s.pieces)) ls
    × AllHoused s s.blocks (length s.pieces)

-- a page whose last block is an open leaf
pub record Leafed (ls : List Line) (c n : ℕ) (s : State) (front : List Block) (b : Block) : Type 0 where
  pub split : s.blocks ≡ front ++ b ∷ []
  pub floor : ℕ
  pub fits : AllByRecursion (Fit s.pieces floor) front
  pub bare : AllByRecursion (Bare (bares front)) s.opened
  pub climb : Climb 0 n s.pieces
  pub count : length s.pieces ≤ c
  pub low : floor ≤ b.first
  pub room : floor ≤ length s.pieces
  pub first : b.first ≤ 2 ^ 64 - 1
  pub lines : (i : ℕ) (p : Piece) → b.first ≤ i → slice_get s.pieces i ≡ Some p → b.start ≤ p.start
  pub covs : AllByRecursion (λ (l : Line). (l.start ≤ n) × OpenFound s.leaf l front s.opened s.pieces s.kept b.start s.end) ls
  pub mine : AllHoused s front b.first

-- the same, where the leaf's end is known
pub record Going (ls : List Line) (c n : ℕ) (s : State) (front : List Block) (b : Block) : Type 0 where
  pub leafed : Leafed ls c n s front b
  pub kept : leafed.floor ≤ s.kept
  pub there : s.kept ≤ length s.pieces
  pub ends : (i : ℕ) (p : Piece) → b.first ≤ i → i < s.kept → slice_get s.pieces i ≡ Some p → p.end ≤ s.end

-- a page between lines
pub data Stands (ls : List Line) (c n : ℕ) (s : State) : Type 0 where
  shut : s.leaf ≡ leaf.Nothing → Shut ls c n s → Stands ls c n s
  holding : is_worded s.leaf ≡ true → (front : List Block) → (b : Block) → b.start ≤ n → Going ls c n s front b → Stands ls c n s

-- containers reach further

pub bare_raised : (hs : List Bool) (os : List Opened) (i e l : ℕ) → AllByRecursion (Bare hs) os → AllByRecursion (Bare hs) (raised_at os i e l)
unfolding raised_at raised
bare_raised hs os i e l h = all_changed (Bare hs) os i (λ (o : Opened). raised o e l) (λ o q w. w) h

pub bare_touched : (hs : List Bool) (count e l : ℕ) (qs : List ℕ) (os : List Opened) → AllByRecursion (Bare hs) os → AllByRecursion (Bare hs) (touched_from count e l qs os)
bare_touched hs count e l [] os h = h
bare_touched hs count e l (q ∷ qs) os h = by (nat_le count q) (bare_touched hs count e l qs (raised_at os q e l) (bare_raised hs os q e l h))
  where
    by : (x : Bool) → AllByRecursion (Bare hs) (touched_from count e l qs (raised_at os q e l)) → AllByRecursion (Bare hs) (if x then os else touched_from count e l qs (raised_at os q e l))
    by true w = h
    by false w = w

-- one more block
bare_more : (front : List Block) (b : Block) (os : List Opened) → AllByRecursion (Bare (bares front)) os → AllByRecursion (Bare (bares (front ++ b ∷ []))) os
bare_more front b os h =
    all_weaker (Bare (bares front)) (Bare (bares (front ++ b ∷ []))) os
    (λ o w. ap (λ (u : List Bool). slice_get u o.block) (map-append (λ (x : Block). nat_le x.last x.first) front (b ∷ [])) ∙ got_front (bares front) (nat_le b.last b.first ∷ []) o.block true w) h

-- what is found stays found

apart_raised : (i : ℕ) (os : List Opened) (k e l : ℕ) → AllByRecursion (Apart i) os → AllByRecursion (Apart i) (raised_at os k e l)
unfolding raised_at raised
apart_raised i os k e l h = all_changed (Apart i) os k (λ (o : Opened). raised o e l) (λ o q w. w) h

pub apart_touched : (i count e l : ℕ) (qs : List ℕ) (os : List Opened) → AllByRecursion (Apart i) os → AllByRecursion (Apart i) (touched_from count e l qs os)
apart_touched i count e l [] os h = h
apart_touched i count e l (q ∷ qs) os h = by (nat_le count q) (apart_touched i count e l qs (raised_at os q e l) (apart_raised i os q e l h))
  where
    by : (x : Bool) → AllByRecursion (Apart i) (touched_from count e l qs (raised_at os q e l)) → AllByRecursion (Apart i) (if x then os else touched_from count e l qs (raised_at os q e l))
    by true w = h
    by false w = w

-- the blocks of the open containers are before a place
bare_apart : (front : List Block) (os : List Opened) → AllByRecursion (Bare (bares front)) os → AllByRecursion (Apart (length front)) os
bare_apart front os h = all_weaker (Bare (bares front)) (Apart (length front)) os
    (λ o w e. let z : o.block < length (bares front) = slice_get_within (bares front) o.block true w in let y : length (bares front) ≡ length front = length-map front (λ (x : Block). nat_le x.last x.first) in absurd (omega arith)) h

found_finish : (l : Line) (n : ℕ) (s : State) (front : List Block) (b : Block) → AllByRecursion (Bare (bares front)) s.opened
    → OpenFound s.leaf l front s.opened s.pieces s.kept b.start s.end
    → Found l (front ++ record b { end = s.end; last = n } ∷ []) (raised_at s.opened (length s.opened - 1) s.end s.line) (take s.kept s.pieces) (length (take s.kept s.pieces))
found_finish l n s front b w (Before (Begun i x e m k)) = Begun i x (got_front front (record b { end = s.end; last = n } ∷ []) i x e) m k
found_finish l n s front b w (Before (Met i x e m k a)) = Met i x (got_front front (record b { end = s.end; last = n } ∷ []) i x e) m k (apart_raised i s.opened (length s.opened - 1) s.end s.line a)
found_finish l n s front b w (Before (Kept i p e k a c d)) = let q : slice_get (take s.kept s.pieces) i ≡ Some p = take_got s.kept s.pieces i p k e in Kept i p q (slice_get_within (take s.kept s.pieces) i p q) a c d
found_finish l n s front b w (Here f m k) = Met (length front) (record b { end = s.end; last = n }) (got_end front [] (record b { end = s.end; last = n })) m k (apart_raised (length front) s.opened (length s.opened - 1) s.end s.line (bare_apart front s.opened w))

housed_more : (front : List Block) (b : Block) (i : ℕ) → Housed front i → Housed (front ++ b ∷ []) i
housed_more front b i h = record { index = h.index; one = h.one; got = got_front front (b ∷ []) h.index h.one h.got; holds = h.holds }

-- a block changes, and keeps its lines
housed_changed : (bs : List Block) (j : ℕ) (f : Block → Block) (i : ℕ) → ((b : Block) → (f b).first ≡ b.first) → ((b : Block) → (f b).last ≡ b.last) → Housed bs i → Housed (option_map_or (λ (y : Block). slice_set bs j (f y)) (slice_get bs j) bs) i
housed_changed bs j f i p q h = by (changed_got bs j f h.index h.one h.got)
  where
    after : List Block
    after = option_map_or (λ (y : Block). slice_set bs j (f y)) (slice_get bs j) bs

    by : ((j ≡ h.index) × (slice_get after h.index ≡ Some (f h.one))) ⊎ (slice_get after h.index ≡ Some h.one) → Housed after i
    by (inl w) = let a : (f h.one).first ≡ h.one.first = p h.one in let c : (f h.one).last ≡ h.one.last = q h.one in let d : h.one.first ≤ i = (h.holds).0 in let e : i < h.one.last = (h.holds).1 in record { index = h.index; one = f h.one; got = w.1; holds = (omega arith, omega arith) }
    by (inr w) = record { index = h.index; one = h.one; got = w; holds = h.holds }

-- the leaf ends
pub finish : (ls : List Line) (c n : ℕ) (s : State) (front : List Block) (b : Block) → Going ls c n s front b → Shut ls c n (leaf_finished s)
unfolding leaf_finished finished
finish ls c n s front b g = (
  subst (AllByRecursion (Fit kept (length kept))) (sym same) (all_both (Fit kept (length kept)) front (new ∷ []) others (record { lasts = omega arith; lines = λ i p l k e. inside i p l (got_take s.kept s.pieces i p e) }, tt)),
  bare_raised (bares blocks) s.opened (length s.opened - 1) s.end s.line (subst (λ bs. AllByRecursion (Bare (bares bs)) s.opened) (sym same) (bare_more front new s.opened g.leafed.bare)),
  climb_take 0 n s.kept s.pieces g.leafed.climb,
  let a : length s.pieces ≤ c = g.leafed.count in let w : length kept ≡ min s.kept (length s.pieces) = long in omega arith,
  subst (λ bs. AllByRecursion (λ (l : Line). (l.start ≤ n) × Found l bs (raised_at s.opened (length s.opened - 1) s.end s.line) kept (length kept)) ls) (sym same)
      (all_weaker (λ (l : Line). (l.start ≤ n) × OpenFound s.leaf l front s.opened s.pieces s.kept b.start s.end) (λ (l : Line). (l.start ≤ n) × Found l (front ++ new ∷ []) (raised_at s.opened (length s.opened - 1) s.end s.line) kept (length kept)) ls
      (λ l w. (w.0, found_finish l (length kept) s front b g.leafed.bare (w.1))) g.leafed.covs),
  λ e. (omega arith, λ i l. subst (λ bs. Housed bs i) (sym same) (housed e i l (nat_lt i b.first) refl)),
)
  where
    kept : List Piece
    kept = take s.kept s.pieces

    long : length kept ≡ min s.kept (length s.pieces)
    long = length-take s.kept s.pieces

    change : Block → Block
    change x = record x { end = s.end; last = length (take s.kept s.pieces) }

    new : Block
    new = change b

    inside : (i : ℕ) (p : Piece) → b.first ≤ i → (i < s.kept) × (slice_get s.pieces i ≡ Some p) → Lies b.start s.end p
    inside i p l w = record { begins = g.leafed.lines i p l (w.1); ends = g.ends i p l (w.0) (w.1) }

    blocks : List Block
    blocks = option_map_or (λ (x : Block). slice_set s.blocks (length s.blocks - 1) (record x { end = s.end; last = length (take s.kept s.pieces) })) (slice_get s.blocks (length s.blocks - 1)) s.blocks

    same : blocks ≡ front ++ new ∷ []
    same = last_changed s.blocks front b change g.leafed.split

    housed : s.definitions ≡ [] → (i : ℕ) → i < length kept → (x : Bool) → nat_lt i b.first ≡ x → Housed (front ++ new ∷ []) i
    housed e i l true q = let a : i < b.first = grind (arith, nat_tests) in housed_more front new i ((g.leafed.mine e).1 i a)
    housed e i l false q = let a : b.first ≤ i = grind (arith, nat_tests) in record { index = length front; one = new; got = got_end front [] new; holds = (a, l) }

    others : AllByRecursion (Fit kept (length kept)) front
    others = all_weaker (Fit s.pieces g.leafed.floor) (Fit kept (length kept)) front
        (λ x w. record {
          lasts = let a : x.last ≤ g.leafed.floor = w.lasts in let b : g.leafed.floor ≤ s.kept = g.kept in let d : g.leafed.floor ≤ length s.pieces = g.leafed.room in let e : length kept ≡ min s.kept (length s.pieces) = long in omega arith;
          lines = λ i p l k e. w.lines i p l k ((got_take s.kept s.pieces i p e).1);
        }) g.leafed.fits

-- containers end

bare_at : (bs : List Block) (i : ℕ) (b : Block) → slice_get (bares bs) i ≡ Some true → slice_get bs i ≡ Some b → b.last ≤ b.first
bare_at bs i b k e = inside (ap (option_map (λ (y : Block). nat_le y.last y.first)) (sym e) ∙ sym (slice_get-map (λ (y : Block). nat_le y.last y.first) bs i) ∙ k)
  where
    inside : Some (nat_le b.last b.first) ≡ Some true → b.last ≤ b.first
    inside q = let w : nat_le b.last b.first ≡ true = cc in grind (arith, nat_tests)

ended_fits : (ps : List Piece) (count : ℕ) (bs : List Block) (o : Opened) → Bare (bares bs) o → AllByRecursion (Fit ps count) bs → AllByRecursion (Fit ps count) (ended bs o.block o.end)
unfolding ended
ended_fits ps count bs o k h = all_changed (Fit ps count) bs o.block (λ (b : Block). record b { end = o.end })
    (λ b e f. record { lasts = f.lasts; lines = λ i p l m q. let w : b.last ≤ b.first = bare_at bs o.block b k e in absurd (omega arith) }) h

ended_bares : (bs : List Block) (i e : ℕ) → bares (ended bs i e) ≡ bares bs
unfolding ended
ended_bares bs i e = same_numbers (λ (b : Block). nat_le b.last b.first) bs i (λ (b : Block). record b { end = e }) (λ b. refl)

ended_got : (bs : List Block) (i e j : ℕ) (b : Block) → slice_get bs j ≡ Some b → (x : Block) × (slice_get (ended bs i e) j ≡ Some x) × (x.start ≡ b.start) × ((i ≡ j → ⊥) → x.end ≡ b.end)
unfolding ended
ended_got bs i e j b q = by (changed_got bs i (λ (y : Block). record y { end = e }) j b q)
  where
    change : Block → Block
    change y = record y { end = e }

    after : List Block
    after = option_map_or (λ (y : Block). slice_set bs i (record y { end = e })) (slice_get bs i) bs

    by : ((i ≡ j) × (slice_get after j ≡ Some (change b))) ⊎ (slice_get after j ≡ Some b) → (x : Block) × (slice_get after j ≡ Some x) × (x.start ≡ b.start) × ((i ≡ j → ⊥) → x.end ≡ b.end)
    by (inl w) = (change b, w.1, refl, λ f. absurd (f (w.0)))
    by (inr w) = (b, w, refl, λ f. refl)

found_closed : (l : Line) (bs : List Block) (os : List Opened) (ps : List Piece) (kept : ℕ) (o : Opened) → slice_get os (length os - 1) ≡ Some o → Found l bs os ps kept
    → Found l (ended bs o.block o.end) (raised_at (take (length os - 1) os) (length (take (length os - 1) os) - 1) o.end o.line) ps kept
found_closed l bs os ps kept o q (Begun i b e m k) = by (ended_got bs o.block o.end i b e)
  where
    by : (x : Block) × (slice_get (ended bs o.block o.end) i ≡ Some x) × (x.start ≡ b.start) × ((o.block ≡ i → ⊥) → x.end ≡ b.end) → Found l (ended bs o.block o.end) (raised_at (take (length os - 1) os) (length (take (length os - 1) os) - 1) o.end o.line) ps kept
    by (x, w, v, z) = Begun i x w (omega arith) (omega arith)
found_closed l bs os ps kept o q (Met i b e m k a) = by (ended_got bs o.block o.end i b e)
  where
    by : (x : Block) × (slice_get (ended bs o.block o.end) i ≡ Some x) × (x.start ≡ b.start) × ((o.block ≡ i → ⊥) → x.end ≡ b.end) → Found l (ended bs o.block o.end) (raised_at (take (length os - 1) os) (length (take (length os - 1) os) - 1) o.end o.line) ps kept
    by (x, w, v, z) = let y : x.end ≡ b.end = z (all_got (Apart i) os (length os - 1) o a q) in Met i x w (omega arith) (omega arith) (apart_raised i (take (length os - 1) os) (length (take (length os - 1) os) - 1) o.end o.line (all_take (Apart i) (length os - 1) os a))
found_closed l bs os ps kept o q (Kept i p e k a c d) = Kept i p e k a c d

housed_ended : (bs : List Block) (j e i : ℕ) → Housed bs i → Housed (ended bs j e) i
unfolding ended
housed_ended bs j e i h = housed_changed bs j (λ (b : Block). record b { end = e }) i (λ b. refl) (λ b. refl) h

quote_left_shut : (ls : List Line) (c n : ℕ) (k : Container) (s : State) → Shut ls c n s → Shut ls c n (quote_left k s)
quote_left_shut ls c n k s h = by (is_quote k)
  where
    by : (x : Bool) → Shut ls c n (if x then record s { quotes = take (length s.quotes - 1) s.quotes } else s)
    by true = h
    by false = h

one_shut : (ls : List Line) (c n : ℕ) (s : State) → Shut ls c n s → Shut ls c n (one_closed s)
unfolding one_closed
one_shut ls c n s h = by (slice_get s.opened (length s.opened - 1)) refl
  where
    others : List Opened
    others = take (length s.opened - 1) s.opened

    closes : Opened → State
    closes o = raised_last o.end o.line (record s { opened = others; blocks = ended s.blocks o.block o.end })

    shuts : (o : Opened) → slice_get s.opened (length s.opened - 1) ≡ Some o → Bare (bares s.blocks) o → Shut ls c n (closes o)
    shuts o q k = (
      ended_fits s.pieces (length s.pieces) s.blocks o k (h.0),
      bare_raised (bares (ended s.blocks o.block o.end)) others (length others - 1) o.end o.line
          (subst (λ u. AllByRecursion (Bare u) others) (sym (ended_bares s.blocks o.block o.end)) (all_take (Bare (bares s.blocks)) (length s.opened - 1) s.opened (h.1))),
      h.2,
      h.3,
      all_weaker (λ (l : Line). (l.start ≤ n) × Found l s.blocks s.opened s.pieces (length s.pieces)) (λ (l : Line). (l.start ≤ n) × Found l (closes o).blocks (closes o).opened s.pieces (length s.pieces)) ls
          (λ l w. (w.0, found_closed l s.blocks s.opened s.pieces (length s.pieces) o q (w.1))) (h.4),
      λ e. (omega arith, λ i l. housed_ended s.blocks o.block o.end i (((h.5) e).1 i l)),
    )

    by : (f : Option Opened) → slice_get s.opened (length s.opened - 1) ≡ f → Shut ls c n (option_map_or (λ (o : Opened). quote_left o.container (closes o)) f s)
    by None e = h
    by (Some o) e = quote_left_shut ls c n o.container (closes o) (shuts o e (all_got (Bare (bares s.blocks)) s.opened (length s.opened - 1) o (h.1) e))

times_shut : (ls : List Line) (c n : ℕ) (k : ℕ) (s : State) → Shut ls c n s → Shut ls c n (times one_closed k s)
unfolding times
times_shut ls c n zero s h = h
times_shut ls c n (suc k) s h = times_shut ls c n k (one_closed s) (one_shut ls c n s h)

-- the open paragraph without its first lines
shortened_lines : (n : ℕ) (b : Block) (ps : List Piece) (count : ℕ) → Climb 0 n ps → b.first ≤ 2 ^ 64 - 1 → ((i : ℕ) (p : Piece) → b.first ≤ i → slice_get ps i ≡ Some p → b.start ≤ p.start)
    → (i : ℕ) (p : Piece) → (shortened b ps count).first ≤ i → slice_get ps i ≡ Some p → (shortened b ps count).start ≤ p.start
unfolding shortened
shortened_lines n b ps count h m f i p l e = by (slice_get ps (plus b.first count)) refl
  where
    by : (o : Option Piece) → slice_get ps (plus b.first count) ≡ o → option_map_or (λ (p : Piece). p.start) o b.start ≤ p.start
    by None q = f i p (omega arith) e
    by (Some x) q = climb_sorted 0 n ps (plus b.first count) i x p h l q e

shortened_within : (n m : ℕ) (b : Block) (ps : List Piece) (count : ℕ) → Climb 0 n ps → n ≤ m → b.start ≤ m → (shortened b ps count).start ≤ m
unfolding shortened
shortened_within n m b ps count h l w = by (slice_get ps (plus b.first count)) refl
  where
    by : (o : Option Piece) → slice_get ps (plus b.first count) ≡ o → option_map_or (λ (p : Piece). p.start) o b.start ≤ m
    by None q = w
    by (Some x) q = let v : x.start ≤ n = (climb_got 0 n ps (plus b.first count) x h q).1 in omega arith

shortened_first : (b : Block) (ps : List Piece) (count : ℕ) → (shortened b ps count).first ≡ plus b.first count
unfolding shortened
shortened_first b ps count = refl

-- if no definition is found, none was, and no line is taken

no_more : (ds : List DefinitionView) (d : DefinitionView) → ds ++ d ∷ [] ≡ [] → ⊥
no_more [] d e = absurd cc
no_more (x ∷ xs) d e = absurd cc

none_repeated : (content : List ℕ) (n place : ℕ) (ds : List DefinitionView) → (repeated (define_once content) n place ds).0 ≡ [] → (ds ≡ []) × ((repeated (define_once content) n place ds).1 ≡ place)
unfolding repeated define_once
none_repeated content zero place ds h = (h, refl)
none_repeated content (suc n) place ds h = by (definition_at content place) h (λ d k. none_repeated content n d.next (ds ++ found_view content d ∷ []) k)
  where
    rest : ℕ → List DefinitionView → List DefinitionView × ℕ
    rest = λ d u. repeated (define_once content) n d u

    found : Option Definition → List DefinitionView × ℕ
    found o = going rest place (option_map_or (λ (d : Definition). (ds ++ found_view content d ∷ [], Some d.next)) o (ds, None))

    by : (o : Option Definition) → (found o).0 ≡ [] → ((d : Definition) → (rest d.next (ds ++ found_view content d ∷ [])).0 ≡ [] → (ds ++ found_view content d ∷ [] ≡ []) × ((rest d.next (ds ++ found_view content d ∷ [])).1 ≡ d.next)) → (ds ≡ []) × ((found o).1 ≡ place)
    by None k f = (k, refl)
    by (Some d) k f = absurd (no_more ds (found_view content d) ((f d k).0))

none_defined : (t : List ℕ) (ps : List Piece) (ds : List DefinitionView) → (definitions_from t ps ds).0 ≡ [] → (ds ≡ []) × ((definitions_from t ps ds).1 ≡ 0)
unfolding definitions_from
none_defined t ps ds = by (begins_definition t ps)
  where
    content : List ℕ
    content = joined t ps

    found : List DefinitionView × ℕ
    found = repeated (define_once content) (length content) 0 ds

    by : (x : Bool) → (if x then lines_defined t ps ds else (ds, 0)).0 ≡ [] → (ds ≡ []) × ((if x then lines_defined t ps ds else (ds, 0)).1 ≡ 0)
    by true h = let w : (ds ≡ []) × (found.1 ≡ 0) = none_repeated content (length content) 0 ds h in (w.0, ap (line_count content) (w.1))
    by false h = (h, refl)

-- an open paragraph begins elsewhere
pub found_words : (k : Leaf) (l : Line) (bs : List Block) (os : List Opened) (ps : List Piece) (kept from new to : ℕ) → is_paragraph k ≡ true → OpenFound k l bs os ps kept from to → OpenFound k l bs os ps kept new to
found_words k l bs os ps kept from new to e (Before f) = Before f
found_words k l bs os ps kept from new to e (Here w m i) = absurd (true≢false (sym e ∙ w))

pub settled_going : (ls : List Line) (c n : ℕ) (t : List ℕ) (s : State) (front : List Block) (b : Block) → is_paragraph s.leaf ≡ true → b.start ≤ n → Going ls c n s front b → (x : Block) × (x.start ≤ n) × Going ls c n (settled t s) front x
unfolding settled
settled_going ls c n t s front b z m g = by (slice_get s.blocks (length s.blocks - 1)) (ap (λ (bs : List Block). slice_get bs (length bs - 1)) g.leafed.split ∙ got_last front b)
  where
    count : ℕ
    count = (definitions_from t (drop b.first s.pieces) s.definitions).1

    new : Block
    new = shortened b s.pieces count

    firsts : b.first ≤ new.first
    firsts = let q : new.first ≡ plus b.first count = shortened_first b s.pieces count in let m : b.first ≤ 2 ^ 64 - 1 = g.leafed.first in omega arith

    defines : Going ls c n (defined_as t s b) front new
    defines = record {
      leafed = record {
        split = ap (λ (bs : List Block). slice_set bs (length bs - 1) new) g.leafed.split ∙ set_last front b new;
        floor = g.leafed.floor;
        fits = g.leafed.fits;
        bare = g.leafed.bare;
        climb = g.leafed.climb;
        count = g.leafed.count;
        low = let a : b.first ≤ new.first = firsts in let d : g.leafed.floor ≤ b.first = g.leafed.low in omega arith;
        room = g.leafed.room;
        first = let q : new.first ≡ plus b.first count = shortened_first b s.pieces count in omega arith;
        lines = shortened_lines n b s.pieces count g.leafed.climb g.leafed.first g.leafed.lines;
        covs = all_weaker (λ (l : Line). (l.start ≤ n) × OpenFound s.leaf l front s.opened s.pieces s.kept b.start s.end) (λ (l : Line). (l.start ≤ n) × OpenFound s.leaf l front s.opened s.pieces s.kept new.start s.end) ls (λ l w. (w.0, found_words s.leaf l front s.opened s.pieces s.kept b.start new.start s.end z (w.1))) g.leafed.covs;
        mine = λ e.
            let w : (s.definitions ≡ []) × (count ≡ 0) = none_defined t (drop b.first s.pieces) s.definitions e in
            let q : new.first ≡ plus b.first count = shortened_first b s.pieces count in
            let a : count ≡ 0 = w.1 in
            let m : b.first ≤ 2 ^ 64 - 1 = g.leafed.first in
            let d : b.first ≤ length s.pieces = (g.leafed.mine (w.0)).0 in
            let f : new.first ≡ b.first = omega arith in
            (omega arith, λ i l. (g.leafed.mine (w.0)).1 i (omega arith));
      };
      kept = g.kept;
      there = g.there;
      ends = λ i p l k e. let a : b.first ≤ new.first = firsts in g.ends i p (omega arith) k e;
    }

    boxed : (k : Bool) → (x : Block) × (x.start ≤ n) × Going ls c n (if k then s else defined_as t s b) front x
    boxed true = (b, m, g)
    boxed false = (new, shortened_within n n b s.pieces count g.leafed.climb (omega arith) m, defines)

    by : (o : Option Block) → o ≡ Some b → (x : Block) × (x.start ≤ n) × Going ls c n (option_map_or (settled_as t s) o s) front x
    by None e = absurd cc
    by (Some x) e = let q : x ≡ b = cc in subst (λ y. (x : Block) × (x.start ≤ n) × Going ls c n (settled_as t s y) front x) (sym q) (boxed (is_some b.task))

leaf_closed_shut : (ls : List Line) (c n : ℕ) (t : List ℕ) (s : State) → Stands ls c n s → Shut ls c n (leaf_closed t s)
unfolding leaf_closed is_paragraph
leaf_closed_shut ls c n t s (shut e h) = subst (λ k. Shut ls c n (leaf_closed_as k t s)) (sym e) h
leaf_closed_shut ls c n t s (holding w front b m g) = by s.leaf w refl
  where
    words : (x : Block) × (x.start ≤ n) × Going ls c n (settled t s) front x → Shut ls c n (leaf_finished (settled t s))
    words (x, l, k) = finish ls c n (settled t s) front x k

    by : (k : Leaf) → is_worded k ≡ true → s.leaf ≡ k → Shut ls c n (leaf_closed_as k t s)
    by leaf.Nothing w e = absurd cc
    by leaf.Paragraph w e = words (settled_going ls c n t s front b (ap is_paragraph e) m g)
    by leaf.Indented w e = finish ls c n s front b g
    by (leaf.Fenced f) w e = finish ls c n s front b g
    by (leaf.Html k) w e = finish ls c n s front b g
    by (leaf.Metadata k) w e = absurd cc
    by (leaf.Table x) w e = absurd cc

pub closed_to_shut : (ls : List Line) (c n : ℕ) (t : List ℕ) (depth : ℕ) (s : State) → Stands ls c n s → Shut ls c n (closed_to t depth s)
unfolding closed_to
closed_to_shut ls c n t depth s h = times_shut ls c n (length (leaf_closed t s).opened - depth) (leaf_closed t s) (leaf_closed_shut ls c n t s h)

left_noted_shut : (ls : List Line) (c n : ℕ) (o : Opened) (s : State) → Shut ls c n s → Shut ls c n (left_noted o s)
unfolding left_noted
left_noted_shut ls c n o s h = by (is_definitions o.container)
  where
    by : (x : Bool) → Shut ls c n (if x then record s { left = Some (record { list = o.block; behind = length s.blocks; loose = is_loose s.blocks (list_of s.opened) }) } else s)
    by true = h
    by false = h

pub list_left_shut : (ls : List Line) (c n : ℕ) (s : State) → Shut ls c n s → Shut ls c n (list_left s)
unfolding list_left
list_left_shut ls c n s h = by (innermost s.opened)
  where
    inner : (o : Opened) (k : Bool) → Shut ls c n (if k then left_noted o (one_closed s) else s)
    inner o true = left_noted_shut ls c n o (one_closed s) (one_shut ls c n s h)
    inner o false = h

    by : (f : Option Opened) → Shut ls c n (option_map_or (λ (o : Opened). if is_list o.container then left_noted o (one_closed s) else s) f s)
    by None = h
    by (Some o) = inner o (is_list o.container)

-- blocks begin

loosened_fits : (ps : List Piece) (count : ℕ) (list : Option ℕ) (apart : Bool) (bs : List Block) → AllByRecursion (Fit ps count) bs → AllByRecursion (Fit ps count) (loosened list apart bs)
unfolding loosened
loosened_fits ps count list false bs h = h
loosened_fits ps count None true bs h = h
loosened_fits ps count (Some i) true bs h = all_changed (Fit ps count) bs i (λ (b : Block). record b { loose = true }) (λ b e f. record { lasts = f.lasts; lines = f.lines }) h

loosened_bares : (list : Option ℕ) (apart : Bool) (bs : List Block) → bares (loosened list apart bs) ≡ bares bs
unfolding loosened
loosened_bares list false bs = refl
loosened_bares None true bs = refl
loosened_bares (Some i) true bs = same_numbers (λ (b : Block). nat_le b.last b.first) bs i (λ (b : Block). record b { loose = true }) (λ b. refl)

bare_had : (hs : List Bool) (os : List Opened) → AllByRecursion (Bare hs) os → AllByRecursion (Bare hs) (had_marked os)
unfolding had_marked
bare_had hs os h = all_changed (Bare hs) os (length os - 1) (λ (o : Opened). record o { had = true }) (λ o e w. w) h

-- the blocks before a new one
abbrev before : ℕ → State → List Block
before number s = loosened (list_of s.opened) (is_apart s.opened number) s.blocks

-- a new block
abbrev fresh : BlockKind → ℕ → State → Block
fresh k start s = record { depth = length (had_marked s.opened); kind = k; start = start; end = start; first = length s.pieces; last = length s.pieces; loose = false; list = list_of s.opened; task = None }

before_bare : (ls : List Line) (c n number : ℕ) (s : State) → Shut ls c n s → AllByRecursion (Bare (bares (before number s))) (had_marked s.opened)
before_bare ls c n number s h = subst (λ u. AllByRecursion (Bare u) (had_marked s.opened)) (sym (loosened_bares (list_of s.opened) (is_apart s.opened number) s.blocks)) (bare_had (bares s.blocks) s.opened (h.1))

quote_entered_shut : (ls : List Line) (c n : ℕ) (k : Container) (s : State) → Shut ls c n s → Shut ls c n (quote_entered k s)
quote_entered_shut ls c n k s h = by (is_quote k)
  where
    by : (x : Bool) → Shut ls c n (if x then record s { quotes = s.quotes ++ (length s.opened - 1) ∷ [] } else s)
    by true = h
    by false = h

same_le : (n : ℕ) → nat_le n n ≡ true
same_le n = grind (arith, nat_tests)

loosened_got : (list : Option ℕ) (apart : Bool) (bs : List Block) (j : ℕ) (b : Block) → slice_get bs j ≡ Some b → (x : Block) × (slice_get (loosened list apart bs) j ≡ Some x) × (x.start ≡ b.start) × (x.end ≡ b.end)
unfolding loosened
loosened_got list false bs j b q = (b, q, refl, refl)
loosened_got None true bs j b q = (b, q, refl, refl)
loosened_got (Some i) true bs j b q = by (changed_got bs i (λ (y : Block). record y { loose = true }) j b q)
  where
    change : Block → Block
    change y = record y { loose = true }

    after : List Block
    after = option_map_or (λ (y : Block). slice_set bs i (record y { loose = true })) (slice_get bs i) bs

    by : ((i ≡ j) × (slice_get after j ≡ Some (change b))) ⊎ (slice_get after j ≡ Some b) → (x : Block) × (slice_get after j ≡ Some x) × (x.start ≡ b.start) × (x.end ≡ b.end)
    by (inl w) = (change b, w.1, refl, refl)
    by (inr w) = (b, w, refl, refl)

housed_loosened : (list : Option ℕ) (apart : Bool) (bs : List Block) (i : ℕ) → Housed bs i → Housed (loosened list apart bs) i
unfolding loosened
housed_loosened list false bs i h = h
housed_loosened None true bs i h = h
housed_loosened (Some j) true bs i h = housed_changed bs j (λ (b : Block). record b { loose = true }) i (λ b. refl) (λ b. refl) h

apart_had : (i : ℕ) (os : List Opened) → AllByRecursion (Apart i) os → AllByRecursion (Apart i) (had_marked os)
unfolding had_marked
apart_had i os h = all_changed (Apart i) os (length os - 1) (λ (o : Opened). record o { had = true }) (λ o e w. w) h

-- a block begins after what is found
found_begun : (l : Line) (number : ℕ) (s : State) (kept : ℕ) → Found l s.blocks s.opened s.pieces kept → Found l (before number s) (had_marked s.opened) s.pieces kept
found_begun l number s kept (Begun i b e m k) = by (loosened_got (list_of s.opened) (is_apart s.opened number) s.blocks i b e)
  where
    by : (x : Block) × (slice_get (before number s) i ≡ Some x) × (x.start ≡ b.start) × (x.end ≡ b.end) → Found l (before number s) (had_marked s.opened) s.pieces kept
    by (x, w, v, z) = Begun i x w (omega arith) (omega arith)
found_begun l number s kept (Met i b e m k a) = by (loosened_got (list_of s.opened) (is_apart s.opened number) s.blocks i b e)
  where
    by : (x : Block) × (slice_get (before number s) i ≡ Some x) × (x.start ≡ b.start) × (x.end ≡ b.end) → Found l (before number s) (had_marked s.opened) s.pieces kept
    by (x, w, v, z) = Met i x w (omega arith) (omega arith) (apart_had i s.opened a)
found_begun l number s kept (Kept i p e k a c d) = Kept i p e k a c d

-- and a container is open whose block is the new one
found_opened : (l : Line) (front : List Block) (b : Block) (os : List Opened) (o : Opened) (ps : List Piece) (kept : ℕ) → o.block ≡ length (front ++ b ∷ []) - 1 → Found l front os ps kept → Found l (front ++ b ∷ []) (os ++ o ∷ []) ps kept
found_opened l front b os o ps kept q (Begun i x e m k) = Begun i x (got_front front (b ∷ []) i x e) m k
found_opened l front b os o ps kept q (Met i x e m k a) =
    let z : i < length front = slice_get_within front i x e in
    let y : length (front ++ b ∷ []) ≡ length front + 1 = length-append front (b ∷ []) in
    Met i x (got_front front (b ∷ []) i x e) m k (all_both (Apart i) os (o ∷ []) a ((λ w. absurd (omega arith)), tt))
found_opened l front b os o ps kept q (Kept i p e k a c d) = Kept i p e k a c d

pub opened_with_shut : (ls : List Line) (c n : ℕ) (k : Container) (b : BlockKind) (start : ℕ) (line : Line) (s : State) → Shut ls c n s → Shut ls c n (opened_with k b start line s)
unfolding opened_with begun
opened_with_shut ls c n k d start line s h =
    quote_entered_shut ls c n k (record s { blocks = all; opened = had_marked s.opened ++ new ∷ [] }) (
      all_both (Fit s.pieces (length s.pieces)) front (b ∷ []) (loosened_fits s.pieces (length s.pieces) (list_of s.opened) (is_apart s.opened line.number) s.blocks (h.0)) (record { lasts = omega arith; lines = λ i p l m e. absurd (omega arith) }, tt),
      all_both (Bare (bares all)) (had_marked s.opened) (new ∷ []) (bare_more front b (had_marked s.opened) (before_bare ls c n line.number s h)) (
        slice_get-map (λ (x : Block). nat_le x.last x.first) all (length all - 1) ∙ ap (option_map (λ (x : Block). nat_le x.last x.first)) (got_last front b) ∙ ap (λ (x : Bool). Some x) (same_le (length s.pieces)),
        tt,
      ),
      h.2,
      h.3,
      founds,
      λ e. (omega arith, λ i l. housed_more front b i (housed_loosened (list_of s.opened) (is_apart s.opened line.number) s.blocks i (((h.5) e).1 i l))),
    )
  where
    front : List Block
    front = before line.number s

    b : Block
    b = fresh d start s

    all : List Block
    all = front ++ b ∷ []

    new : Opened
    new = record { container = k; block = length all - 1; end = line.end; line = line.number; had = false }

    founds : AllByRecursion (λ (l : Line). (l.start ≤ n) × Found l all (had_marked s.opened ++ new ∷ []) s.pieces (length s.pieces)) ls
    founds = all_weaker (λ (l : Line). (l.start ≤ n) × Found l s.blocks s.opened s.pieces (length s.pieces)) (λ (l : Line). (l.start ≤ n) × Found l all (had_marked s.opened ++ new ∷ []) s.pieces (length s.pieces)) ls
        (λ l w. (w.0, found_opened l front b (had_marked s.opened) new s.pieces (length s.pieces) refl (found_begun l line.number s (length s.pieces) (w.1)))) (h.4)

-- a leaf that has no line yet
pub record Fresh (ls : List Line) (c n : ℕ) (s : State) (x : ℕ) : Type 0 where
  pub front : List Block
  pub block : Block
  pub begins : block.start ≡ x
  pub firsts : block.first ≡ length s.pieces
  pub kept : s.kept ≡ length s.pieces
  pub leafed : Leafed ls c n s front block
  pub floor : leafed.floor ≡ length s.pieces

pub leaf_fresh : (ls : List Line) (c n : ℕ) (f : Leaf) (k : BlockKind) (start : ℕ) (line : Line) (s : State) → c ≤ 2 ^ 64 - 1 → Shut ls c n s → Fresh ls c n (leaf_opened f k start line s) start
unfolding leaf_opened begun
leaf_fresh ls c n f k start line s r h = record {
  front = before line.number u;
  block = fresh k start u;
  begins = refl;
  firsts = refl;
  kept = refl;
  leafed = record {
    split = refl;
    floor = length u.pieces;
    fits = loosened_fits u.pieces (length u.pieces) (list_of u.opened) (is_apart u.opened line.number) u.blocks (g.0);
    bare = before_bare ls c n line.number u g;
    climb = g.2;
    count = g.3;
    low = omega arith;
    room = omega arith;
    first = let a : length u.pieces ≤ c = g.3 in omega arith;
    lines = λ i p l e. let w : i < length u.pieces = slice_get_within u.pieces i p e in absurd (omega arith);
    covs = all_weaker (λ (l : Line). (l.start ≤ n) × Found l u.blocks u.opened u.pieces (length u.pieces)) (λ (l : Line). (l.start ≤ n) × OpenFound f l (before line.number u) (had_marked u.opened) u.pieces (length u.pieces) start line.end) ls
        (λ l w. (w.0, Before (found_begun l line.number u (length u.pieces) (w.1)))) (g.4);
    mine = λ e. (omega arith, λ i l. housed_loosened (list_of u.opened) (is_apart u.opened line.number) u.blocks i (((g.5) e).1 i l));
  };
  floor = refl;
}
  where
    u : State
    u = list_left s

    g : Shut ls c n u
    g = list_left_shut ls c n s h

pub fresh_going : (ls : List Line) (c n x : ℕ) (s : State) (f : Fresh ls c n s x) → Going ls c n s f.front f.block
fresh_going ls c n x s f = record {
  leafed = f.leafed;
  kept = let a : f.leafed.floor ≡ length s.pieces = f.floor in let b : s.kept ≡ length s.pieces = f.kept in omega arith;
  there = let b : s.kept ≡ length s.pieces = f.kept in omega arith;
  ends = λ i p l k e. let a : f.block.first ≡ length s.pieces = f.firsts in let b : s.kept ≡ length s.pieces = f.kept in absurd (omega arith);
}

-- a line of a leaf lies in a line of the text
pub record InLine (line : Line) (p : Piece) : Type 0 where
  pub begins : line.start ≤ p.start
  pub ordered : p.start ≤ p.next
  pub onto : p.end ≤ p.next
  pub within : p.next ≤ line.next
  pub short : p.end ≤ line.end

-- lines of leaves stay where they are when one more comes
more_fits : (ps : List Piece) (p : Piece) (m : ℕ) (bs : List Block) → m ≤ length ps → AllByRecursion (Fit ps m) bs → AllByRecursion (Fit (ps ++ p ∷ []) m) bs
more_fits ps p m bs r h = all_weaker (Fit ps m) (Fit (ps ++ p ∷ []) m) bs (λ b w. record { lasts = w.lasts; lines = λ i x l k e. either b w i x l k (got_more ps p i x e) }) h
  where
    either : (b : Block) → Fit ps m b → (i : ℕ) (x : Piece) → b.first ≤ i → i < b.last → ((i < length ps) × (slice_get ps i ≡ Some x)) ⊎ ((i ≡ length ps) × (p ≡ x)) → Lies b.start b.end x
    either b w i x l k (inl q) = w.lines i x l k (q.1)
    either b w i x l k (inr q) = let a : b.last ≤ m = w.lasts in let d : i ≡ length ps = q.0 in absurd (omega arith)

-- a line comes into the open leaf
pushed_leafed : (ls : List Line) (c : ℕ) (p : Piece) (line : Line) (s u : State) (front : List Block) (b : Block) → InLine line p → b.start ≤ p.start → u.blocks ≡ s.blocks → u.opened ≡ s.opened → u.pieces ≡ s.pieces ++ p ∷ [] → u.definitions ≡ s.definitions → AllByRecursion (λ (l : Line). (l.start ≤ line.next) × OpenFound u.leaf l front u.opened u.pieces u.kept b.start u.end) ls → Leafed ls c line.start s front b → Leafed ls (suc c) line.next u front b
pushed_leafed ls c p line s u front b i l bs os ps ds f h = record {
  split = bs ∙ h.split;
  floor = h.floor;
  fits = subst (λ (xs : List Piece). AllByRecursion (Fit xs h.floor) front) (sym ps) (more_fits s.pieces p h.floor front h.room h.fits);
  bare = subst (AllByRecursion (Bare (bares front))) (sym os) h.bare;
  climb = subst (Climb 0 line.next) (sym ps) (climb_put 0 line.start line.next s.pieces p i.begins i.ordered i.onto i.within h.climb);
  count = let a : length u.pieces ≡ length s.pieces + 1 = long in let b : length s.pieces ≤ c = h.count in omega arith;
  low = h.low;
  room = let a : length u.pieces ≡ length s.pieces + 1 = long in let b : h.floor ≤ length s.pieces = h.room in omega arith;
  first = h.first;
  covs = f;
  mine = λ e. let a : length u.pieces ≡ length s.pieces + 1 = long in let d : b.first ≤ length s.pieces = (h.mine (sym ds ∙ e)).0 in (omega arith, (h.mine (sym ds ∙ e)).1);
  lines = λ j x k e. either j x k (got_more s.pieces p j x (ap (λ (xs : List Piece). slice_get xs j) (sym ps) ∙ e));
}
  where
    long : length u.pieces ≡ length s.pieces + 1
    long = ap (λ (xs : List Piece). length xs) ps ∙ length-append s.pieces (p ∷ [])

    either : (j : ℕ) (x : Piece) → b.first ≤ j → ((j < length s.pieces) × (slice_get s.pieces j ≡ Some x)) ⊎ ((j ≡ length s.pieces) × (p ≡ x)) → b.start ≤ x.start
    either j x k (inl q) = h.lines j x k (q.1)
    either j x k (inr q) = subst (λ (y : Piece). b.start ≤ y.start) (q.1) l

-- the same page as seen from a later place
unfoldable pub later_leafed : (ls : List Line) (c d n m : ℕ) (s u : State) (front : List Block) (b : Block) → c ≤ d → n ≤ m → u.blocks ≡ s.blocks → u.opened ≡ s.opened → u.pieces ≡ s.pieces → u.definitions ≡ s.definitions → AllByRecursion (λ (l : Line). (l.start ≤ m) × OpenFound u.leaf l front u.opened u.pieces u.kept b.start u.end) ls → Leafed ls c n s front b → Leafed ls d m u front b
later_leafed ls c d n m s u front b l k bs os ps ds f h = record {
  split = bs ∙ h.split;
  floor = h.floor;
  fits = subst (λ (xs : List Piece). AllByRecursion (Fit xs h.floor) front) (sym ps) h.fits;
  bare = subst (AllByRecursion (Bare (bares front))) (sym os) h.bare;
  climb = subst (Climb 0 m) (sym ps) (climb_more 0 n m s.pieces k h.climb);
  count = let a : length s.pieces ≤ c = h.count in let b : length u.pieces ≡ length s.pieces = long in omega arith;
  low = h.low;
  room = let a : h.floor ≤ length s.pieces = h.room in let b : length u.pieces ≡ length s.pieces = long in omega arith;
  first = h.first;
  covs = f;
  mine = λ e. let w : length u.pieces ≡ length s.pieces = long in let d : b.first ≤ length s.pieces = (h.mine (sym ds ∙ e)).0 in (omega arith, (h.mine (sym ds ∙ e)).1);
  lines = λ j x k e. h.lines j x k (ap (λ (xs : List Piece). slice_get xs j) (sym ps) ∙ e);
}
  where
    long : length u.pieces ≡ length s.pieces
    long = ap (λ (xs : List Piece). length xs) ps

later_all : (Q : Line → Type 0) (n m : ℕ) (ls : List Line) → n ≤ m → AllByRecursion (λ (l : Line). (l.start ≤ n) × Q l) ls → AllByRecursion (λ (l : Line). (l.start ≤ m) × Q l) ls
later_all Q n m ls k h = all_weaker (λ (l : Line). (l.start ≤ n) × Q l) (λ (l : Line). (l.start ≤ m) × Q l) ls (λ l w. (let a : l.start ≤ n = w.0 in omega arith, w.1)) h

pub later_going : (ls : List Line) (c d n m : ℕ) (s : State) (front : List Block) (b : Block) → c ≤ d → n ≤ m → Going ls c n s front b → Going ls d m s front b
unfolding later_leafed
later_going ls c d n m s front b l k g = record { leafed = later_leafed ls c d n m s s front b l k refl refl refl refl (later_all (λ (x : Line). OpenFound s.leaf x front s.opened s.pieces s.kept b.start s.end) n m ls k g.leafed.covs) g.leafed; kept = g.kept; there = g.there; ends = g.ends }

pub later_shut : (ls : List Line) (c d n m : ℕ) (s : State) → c ≤ d → n ≤ m → Shut ls c n s → Shut ls d m s
later_shut ls c d n m s l k h = (h.0, h.1, climb_more 0 n m s.pieces k (h.2), let a : length s.pieces ≤ c = h.3 in omega arith, later_all (λ (x : Line). Found x s.blocks s.opened s.pieces (length s.pieces)) n m ls k (h.4), h.5)

pub later_stands : (ls : List Line) (c d n m : ℕ) (s : State) → c ≤ d → n ≤ m → Stands ls c n s → Stands ls d m s
later_stands ls c d n m s l k (shut e h) = shut e (later_shut ls c d n m s l k h)
later_stands ls c d n m s l k (holding w front b i g) = holding w front b (omega arith) (later_going ls c d n m s front b l k g)

-- all lines of the leaf end before a place
pub leafed_ends : (ls : List Line) (c n : ℕ) (s : State) (front : List Block) (b : Block) → Leafed ls c n s front b → (i : ℕ) (p : Piece) → slice_get s.pieces i ≡ Some p → p.end ≤ n
leafed_ends ls c n s front b h i p e = (climb_got 0 n s.pieces i p h.climb e).2

-- what is found when a line comes into the open leaf
found_pushed : (k : Leaf) (l : Line) (bs : List Block) (os : List Opened) (ps : List Piece) (p : Piece) (kept from to end : ℕ) → l.start ≤ end → OpenFound k l bs os ps kept from to → OpenFound k l bs os (ps ++ p ∷ []) (length (ps ++ p ∷ [])) from end
found_pushed k l bs os ps p kept from to end q (Before (Begun i b e m n)) = Before (Begun i b e m n)
found_pushed k l bs os ps p kept from to end q (Before (Met i b e m n a)) = Before (Met i b e m n a)
found_pushed k l bs os ps p kept from to end q (Before (Kept i x e n a c d)) = let w : slice_get (ps ++ p ∷ []) i ≡ Some x = got_front ps (p ∷ []) i x e in Before (Kept i x w (slice_get_within (ps ++ p ∷ []) i x w) a c d)
found_pushed k l bs os ps p kept from to end q (Here w m n) = Here w m q

pub found_ended : (k : Leaf) (l : Line) (bs : List Block) (os : List Opened) (ps : List Piece) (kept from to end : ℕ) → l.start ≤ end → OpenFound k l bs os ps kept from to → OpenFound k l bs os ps (length ps) from end
found_ended k l bs os ps kept from to end q (Before (Begun i b e m n)) = Before (Begun i b e m n)
found_ended k l bs os ps kept from to end q (Before (Met i b e m n a)) = Before (Met i b e m n a)
found_ended k l bs os ps kept from to end q (Before (Kept i x e n a c d)) = Before (Kept i x e (slice_get_within ps i x e) a c d)
found_ended k l bs os ps kept from to end q (Here w m n) = Here w m q

found_passed : (k : Leaf) (l : Line) (bs : List Block) (os : List Opened) (ps : List Piece) (p : Piece) (kept from to : ℕ) → OpenFound k l bs os ps kept from to → OpenFound k l bs os (ps ++ p ∷ []) kept from to
found_passed k l bs os ps p kept from to (Before (Begun i b e m n)) = Before (Begun i b e m n)
found_passed k l bs os ps p kept from to (Before (Met i b e m n a)) = Before (Met i b e m n a)
found_passed k l bs os ps p kept from to (Before (Kept i x e n a c d)) = Before (Kept i x (got_front ps (p ∷ []) i x e) n a c d)
found_passed k l bs os ps p kept from to (Here w m n) = Here w m n

-- a line comes into the open leaf, and the leaf reaches to its end
pub taken_going : (ls : List Line) (c : ℕ) (p : Piece) (line : Line) (s : State) (front : List Block) (b : Block) → InLine line p → line.start ≤ line.end → b.start ≤ p.start → Leafed ls c line.start s front b → Going ls (suc c) line.next (piece_taken p line true s) front b
unfolding piece_taken later_leafed pushed_leafed
taken_going ls c p line s front b i o l h = by (nat_lt 0 p.spaces || nat_lt p.start p.next)
  where
    later : line.start ≤ line.next
    later = let a : line.start ≤ p.start = i.begins in let b : p.start ≤ p.next = i.ordered in let d : p.next ≤ line.next = i.within in omega arith

    long : length (s.pieces ++ p ∷ []) ≡ length s.pieces + 1
    long = length-append s.pieces (p ∷ [])

    either : (j : ℕ) (x : Piece) → ((j < length s.pieces) × (slice_get s.pieces j ≡ Some x)) ⊎ ((j ≡ length s.pieces) × (p ≡ x)) → x.end ≤ line.end
    either j x (inl q) = let a : x.end ≤ line.start = leafed_ends ls c line.start s front b h j x (q.1) in omega arith
    either j x (inr q) = subst (λ (y : Piece). y.end ≤ line.end) (q.1) i.short

    by : (x : Bool) → Going ls (suc c) line.next (let t = if x then record s { pieces = s.pieces ++ p ∷ [] } else s in record t { kept = length t.pieces; end = line.end; line = line.number }) front b
    by true = record {
      leafed = pushed_leafed ls c p line s (record s { pieces = s.pieces ++ p ∷ []; kept = length (s.pieces ++ p ∷ []); end = line.end; line = line.number }) front b i l refl refl refl refl (all_weaker (λ (l : Line). (l.start ≤ line.start) × OpenFound s.leaf l front s.opened s.pieces s.kept b.start s.end) (λ (l : Line). (l.start ≤ line.next) × OpenFound s.leaf l front s.opened (s.pieces ++ p ∷ []) (length (s.pieces ++ p ∷ [])) b.start line.end) ls (λ l w. (let a : l.start ≤ line.start = w.0 in omega arith, found_pushed s.leaf l front s.opened s.pieces p s.kept b.start s.end line.end (let a : l.start ≤ line.start = w.0 in omega arith) (w.1))) h.covs) h;
      kept = let a : h.floor ≤ length s.pieces = h.room in omega (arith, long, a);
      there = omega arith;
      ends = λ j x k m e. either j x (got_more s.pieces p j x e);
    }
    by false = record {
      leafed = later_leafed ls c (suc c) line.start line.next s (record s { kept = length s.pieces; end = line.end; line = line.number }) front b (omega arith) later refl refl refl refl (all_weaker (λ (l : Line). (l.start ≤ line.start) × OpenFound s.leaf l front s.opened s.pieces s.kept b.start s.end) (λ (l : Line). (l.start ≤ line.next) × OpenFound s.leaf l front s.opened s.pieces (length s.pieces) b.start line.end) ls (λ l w. (let a : l.start ≤ line.start = w.0 in omega arith, found_ended s.leaf l front s.opened s.pieces s.kept b.start s.end line.end (let a : l.start ≤ line.start = w.0 in omega arith) (w.1))) h.covs) h;
      kept = h.room;
      there = omega arith;
      ends = λ j x k m e. let a : x.end ≤ line.start = leafed_ends ls c line.start s front b h j x e in omega arith;
    }

-- a blank line comes into code, whose end it may be
pub passed_going : (ls : List Line) (c : ℕ) (p : Piece) (line : Line) (s : State) (front : List Block) (b : Block) → InLine line p → b.start ≤ p.start → Going ls c line.start s front b → Going ls (suc c) line.next (piece_taken p line false s) front b
unfolding piece_taken later_leafed pushed_leafed
passed_going ls c p line s front b i l g = by (nat_lt 0 p.spaces || nat_lt p.start p.next)
  where
    later : line.start ≤ line.next
    later = let a : line.start ≤ p.start = i.begins in let b : p.start ≤ p.next = i.ordered in let d : p.next ≤ line.next = i.within in omega arith

    either : (j : ℕ) (x : Piece) → b.first ≤ j → j < s.kept → ((j < length s.pieces) × (slice_get s.pieces j ≡ Some x)) ⊎ ((j ≡ length s.pieces) × (p ≡ x)) → x.end ≤ s.end
    either j x k m (inl q) = g.ends j x k m (q.1)
    either j x k m (inr q) = let a : j ≡ length s.pieces = q.0 in let d : s.kept ≤ length s.pieces = g.there in absurd (omega arith)

    by : (x : Bool) → Going ls (suc c) line.next (if x then record s { pieces = s.pieces ++ p ∷ [] } else s) front b
    by true = record {
      leafed = pushed_leafed ls c p line s (record s { pieces = s.pieces ++ p ∷ [] }) front b i l refl refl refl refl (all_weaker (λ (l : Line). (l.start ≤ line.start) × OpenFound s.leaf l front s.opened s.pieces s.kept b.start s.end) (λ (l : Line). (l.start ≤ line.next) × OpenFound s.leaf l front s.opened (s.pieces ++ p ∷ []) s.kept b.start s.end) ls (λ l w. (let a : l.start ≤ line.start = w.0 in omega arith, found_passed s.leaf l front s.opened s.pieces p s.kept b.start s.end (w.1))) g.leafed.covs) g.leafed;
      kept = g.kept;
      there = let a : s.kept ≤ length s.pieces = g.there in omega (arith, length-append s.pieces (p ∷ []), a);
      ends = λ j x k m e. either j x k m (got_more s.pieces p j x e);
    }
    by false = later_going ls c (suc c) line.start line.next s front b (omega arith) later g

-- one more line is found

pub add_shut : (l : Line) (ls : List Line) (c n : ℕ) (s : State) → l.start ≤ n → Found l s.blocks s.opened s.pieces (length s.pieces) → Shut ls c n s → Shut (l ∷ ls) c n s
add_shut l ls c n s m f h = (h.0, h.1, h.2, h.3, ((m, f), h.4), h.5)

pub add_going : (l : Line) (ls : List Line) (c n : ℕ) (s : State) (front : List Block) (b : Block) → l.start ≤ n → OpenFound s.leaf l front s.opened s.pieces s.kept b.start s.end → Going ls c n s front b → Going (l ∷ ls) c n s front b
add_going l ls c n s front b m f g = record {
  leafed = record {
    split = g.leafed.split;
    floor = g.leafed.floor;
    fits = g.leafed.fits;
    bare = g.leafed.bare;
    climb = g.leafed.climb;
    count = g.leafed.count;
    low = g.leafed.low;
    room = g.leafed.room;
    first = g.leafed.first;
    lines = g.leafed.lines;
    covs = ((m, f), g.leafed.covs);
    mine = g.leafed.mine;
  };
  kept = g.kept;
  there = g.there;
  ends = g.ends;
}

-- one line fewer is found
pub less_stands : (l : Line) (ls : List Line) (c n : ℕ) (s : State) → Stands (l ∷ ls) c n s → Stands ls c n s
less_stands l ls c n s (shut e h) = shut e (h.0, h.1, h.2, h.3, (h.4).1, h.5)
less_stands l ls c n s (holding w front b m g) = holding w front b m (record {
  leafed = record {
    split = g.leafed.split;
    floor = g.leafed.floor;
    fits = g.leafed.fits;
    bare = g.leafed.bare;
    climb = g.leafed.climb;
    count = g.leafed.count;
    low = g.leafed.low;
    room = g.leafed.room;
    first = g.leafed.first;
    lines = g.leafed.lines;
    covs = (g.leafed.covs).1;
    mine = g.leafed.mine;
  };
  kept = g.kept;
  there = g.there;
  ends = g.ends;
})

-- the open leaf ends in a line, which is found
pub finish_more : (l : Line) (ls : List Line) (c n : ℕ) (s : State) (front : List Block) (b : Block) → l.start ≤ n → b.start ≤ l.end → l.start ≤ s.end → Going ls c n s front b → Shut (l ∷ ls) c n (leaf_finished s)
unfolding leaf_finished finished
finish_more l ls c n s front b m x y g = add_shut l ls c n (leaf_finished s) m (subst (λ bs. Found l bs (raised_at s.opened (length s.opened - 1) s.end s.line) (take s.kept s.pieces) (length (take s.kept s.pieces))) (sym same)
    (Met (length front) new (got_end front [] new) x y (apart_raised (length front) s.opened (length s.opened - 1) s.end s.line (bare_apart front s.opened g.leafed.bare)))) (finish ls c n s front b g)
  where
    change : Block → Block
    change x = record x { end = s.end; last = length (take s.kept s.pieces) }

    new : Block
    new = change b

    blocks : List Block
    blocks = option_map_or (λ (x : Block). slice_set s.blocks (length s.blocks - 1) (record x { end = s.end; last = length (take s.kept s.pieces) })) (slice_get s.blocks (length s.blocks - 1)) s.blocks

    same : blocks ≡ front ++ new ∷ []
    same = last_changed s.blocks front b change g.leafed.split

-- a container that begins in a line
opened_found : (k : Container) (d : BlockKind) (start : ℕ) (line : Line) (s : State) → line.start ≤ start → start ≤ line.end
    → Found line (opened_with k d start line s).blocks (opened_with k d start line s).opened (opened_with k d start line s).pieces (length (opened_with k d start line s).pieces)
unfolding opened_with begun
opened_found k d start line s p q = by (is_quote k)
  where
    front : List Block
    front = before line.number s

    b : Block
    b = fresh d start s

    u : State
    u = record s { blocks = front ++ b ∷ []; opened = had_marked s.opened ++ record { container = k; block = length (front ++ b ∷ []) - 1; end = line.end; line = line.number; had = false } ∷ [] }

    entered : Bool → State
    entered x = if x then record u { quotes = u.quotes ++ (length u.opened - 1) ∷ [] } else u

    by : (x : Bool) → Found line (entered x).blocks (entered x).opened (entered x).pieces (length (entered x).pieces)
    by true = Begun (length front) b (got_end front [] b) p q
    by false = Begun (length front) b (got_end front [] b) p q

pub opened_more : (ls : List Line) (c n : ℕ) (k : Container) (d : BlockKind) (start : ℕ) (line : Line) (s : State) → line.start ≤ n → line.start ≤ start → start ≤ line.end → Shut ls c n s → Shut (line ∷ ls) c n (opened_with k d start line s)
opened_more ls c n k d start line s m p q h = add_shut line ls c n (opened_with k d start line s) m (opened_found k d start line s p q) (opened_with_shut ls c n k d start line s h)

-- a line of a leaf that has something on it
pub piece_found : (p : Piece) (line : Line) (s : State) (bs : List Block) (os : List Opened) → InLine line p → p.start < p.end → Found line bs os (piece_taken p line true s).pieces (piece_taken p line true s).kept
unfolding piece_taken
piece_found p line s bs os i l = by (nat_lt 0 p.spaces) (nat_lt p.start p.next) (let a : p.end ≤ p.next = i.onto in grind (arith, nat_tests))
  where
    taken : Bool → State
    taken x = let t = if x then record s { pieces = s.pieces ++ p ∷ [] } else s in record t { kept = length t.pieces; end = line.end; line = line.number }

    found : Found line bs os (s.pieces ++ p ∷ []) (length (s.pieces ++ p ∷ []))
    found = Kept (length s.pieces) p (got_end s.pieces [] p) (slice_get_within (s.pieces ++ p ∷ []) (length s.pieces) p (got_end s.pieces [] p)) i.begins l i.short

    by : (x y : Bool) → y ≡ true → Found line bs os (taken (x || y)).pieces (taken (x || y)).kept
    by true y e = found
    by false true e = found
    by false false e = absurd (true≢false (sym e))

pub taken_end : (p : Piece) (line : Line) (s : State) → (piece_taken p line true s).end ≡ line.end
unfolding piece_taken
taken_end p line s = by (nat_lt 0 p.spaces || nat_lt p.start p.next)
  where
    by : (x : Bool) → (let t = if x then record s { pieces = s.pieces ++ p ∷ [] } else s in record t { kept = length t.pieces; end = line.end; line = line.number }).end ≡ line.end
    by true = refl
    by false = refl

pub opened_end : (f : Leaf) (k : BlockKind) (start : ℕ) (line : Line) (s : State) → (leaf_opened f k start line s).end ≡ line.end
unfolding leaf_opened
opened_end f k start line s = refl

-- the open leaf ends elsewhere
pub found_moved : (k : Leaf) (l : Line) (bs : List Block) (os : List Opened) (ps : List Piece) (kept from to end : ℕ) → l.start ≤ end → OpenFound k l bs os ps kept from to → OpenFound k l bs os ps kept from end
found_moved k l bs os ps kept from to end q (Before f) = Before f
found_moved k l bs os ps kept from to end q (Here w m n) = Here w m q

pub moved_all : (k : Leaf) (n : ℕ) (bs : List Block) (os : List Opened) (ps : List Piece) (kept from to end : ℕ) (ls : List Line) → n ≤ end → AllByRecursion (λ (l : Line). (l.start ≤ n) × OpenFound k l bs os ps kept from to) ls → AllByRecursion (λ (l : Line). (l.start ≤ n) × OpenFound k l bs os ps kept from end) ls
moved_all k n bs os ps kept from to end ls m h = all_weaker (λ (l : Line). (l.start ≤ n) × OpenFound k l bs os ps kept from to) (λ (l : Line). (l.start ≤ n) × OpenFound k l bs os ps kept from end) ls (λ l w. (w.0, found_moved k l bs os ps kept from to end (let a : l.start ≤ n = w.0 in omega arith) (w.1))) h

pub words_all : (k : Leaf) (n : ℕ) (bs : List Block) (os : List Opened) (ps : List Piece) (kept from new to : ℕ) (ls : List Line) → is_paragraph k ≡ true → AllByRecursion (λ (l : Line). (l.start ≤ n) × OpenFound k l bs os ps kept from to) ls → AllByRecursion (λ (l : Line). (l.start ≤ n) × OpenFound k l bs os ps kept new to) ls
words_all k n bs os ps kept from new to ls e h = all_weaker (λ (l : Line). (l.start ≤ n) × OpenFound k l bs os ps kept from to) (λ (l : Line). (l.start ≤ n) × OpenFound k l bs os ps kept new to) ls (λ l w. (w.0, found_words k l bs os ps kept from new to e (w.1))) h

-- some lines with one more, or without
abbrev pub more : Bool → Line → List Line → List Line
more w l ls = if w then l ∷ ls else ls

pub more_stands : (w : Bool) (l : Line) (ls : List Line) (c n : ℕ) (s : State) → Stands (l ∷ ls) c n s → Stands (more w l ls) c n s
more_stands true l ls c n s h = h
more_stands false l ls c n s h = less_stands l ls c n s h

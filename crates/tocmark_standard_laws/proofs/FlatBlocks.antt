-- Nested blocks say, one after the other, what their tree says.
use Rattle.std.proofs.Common.{◌≡◌, ℕ, zero, suc, ◌+◌, ◌<◌, ◌≤◌, Bool, true, false, not, cond, nat_lt, List, [], ◌∷◌, ◌++◌, length, take, drop, flat_map, refl, ap, sym, ◌∙◌, subst, arith, append_assoc, length-append, length-take}
use Rattle.std.specs.Prelude.{min, slice_get, take_while, Option, Some, None}
use Rattle.std.specs.Option.{option_map_or}
use Rattle.std.specs.List.{fold, AllByRecursion}
use Rattle.std.proofs.lemmas.Bool.Decides.{nat_tests}
use Rattle.std.proofs.lemmas.Grind.{flat_map-append}
use Rattle.std.proofs.lemmas.List.Sums.{take_while-cons}
use Rattle.tocmark_read_page.specs.declared.page.Block.{Block as ReadBlock}
use Rattle.tocmark_read_page.specs.declared.page.BlockKind.{BlockKind}
use Rattle.tocmark_read_page.specs.declared.page.BlockKind.TheVariants as kind
use Rattle.tocmark_read_page.specs.declared.piece.Piece.{Piece as Line}
use Rattle.tocmark_reader.specs.Pages.{is_unwrapped}
use Rattle.tocmark_commonmark.specs.Links.{Destination}
use Rattle.tocmark_commonmark.specs.Tree as block
use Rattle.tocmark_block_laws.specs.Trees.{block_as, Placed, more_if, tree_of, pieces_of, put, placed_in}
use Rattle.tocmark_block_laws.proofs.Told.{leaf_as}
use Rattle.tocmark_read_blocks.specs.Blocks.{blocks_in}
use Rattle.tocmark_read_scan.specs.declared.syntax.Names.TheVariants.{All}
use Rattle.tocmark_inline_laws.specs.Said.{commonmark, Piece}
use Rattle.tocmark_standard_laws.specs.Nesting.{Sort, OfQuote, OfList, OfItem, sort_of, Outer, list_at, list_in, Shape, shape, IsIn, after_as, after, Nested}
use Rattle.tocmark_standard_laws.proofs.Fitting.{shapes}
use Rattle.tocmark_standard_laws.specs.SaidBlocks.{blocks_said, said_if, one_said, BlocksSayTheirTree}
use Rattle.tocmark_standard_laws.proofs.FitWalk.{blocks-nested}

-- the blocks that lie directly in one are not deeper than those before them

abbrev pub Falls : ℕ → List Placed → Type 0
Falls d [] = Unit {0}
Falls d (p ∷ ps) = (p.depth ≤ d) × Falls p.depth ps

abbrev pub deeper : ℕ → Placed → Bool
deeper d p = nat_lt d p.depth

abbrev pub inside : ℕ → List Placed → List Placed
inside d ps = take_while (deeper d) ps

abbrev pub behind : ℕ → List Placed → List Placed
behind d ps = drop (length (inside d ps)) ps

inside_deep : (d : ℕ) (p : Placed) (ps : List Placed) → deeper d p ≡ true → inside d (p ∷ ps) ≡ p ∷ inside d ps
inside_deep d p ps e = take_while-cons (deeper d) p ps ∙ ap (λ k. cond k (p ∷ inside d ps) []) e

inside_low : (d : ℕ) (p : Placed) (ps : List Placed) → deeper d p ≡ false → inside d (p ∷ ps) ≡ []
inside_low d p ps e = take_while-cons (deeper d) p ps ∙ ap (λ k. cond k (p ∷ inside d ps) []) e

behind_deep : (d : ℕ) (p : Placed) (ps : List Placed) → deeper d p ≡ true → behind d (p ∷ ps) ≡ behind d ps
behind_deep d p ps e = ap (λ (xs : List Placed). drop (length xs) (p ∷ ps)) (inside_deep d p ps e)

behind_low : (d : ℕ) (p : Placed) (ps : List Placed) → deeper d p ≡ false → behind d (p ∷ ps) ≡ p ∷ ps
behind_low d p ps e = ap (λ (xs : List Placed). drop (length xs) (p ∷ ps)) (inside_low d p ps e)

pub both_parts : (d : ℕ) (ps : List Placed) → inside d ps ++ behind d ps ≡ ps
both_parts d [] = refl
both_parts d (p ∷ ps) = by (deeper d p) refl (both_parts d ps)
  where
    by : (k : Bool) → deeper d p ≡ k → inside d ps ++ behind d ps ≡ ps → inside d (p ∷ ps) ++ behind d (p ∷ ps) ≡ p ∷ ps
    by true e h = ap (λ (xs : List Placed). xs ++ behind d (p ∷ ps)) (inside_deep d p ps e) ∙ ap (λ (xs : List Placed). p ∷ inside d ps ++ xs) (behind_deep d p ps e) ∙ ap (λ (xs : List Placed). p ∷ xs) h
    by false e h = ap (λ (xs : List Placed). xs ++ behind d (p ∷ ps)) (inside_low d p ps e) ∙ behind_low d p ps e

falls_behind : (d n : ℕ) (ps : List Placed) → Falls n ps → Falls d (behind d ps)
falls_behind d n [] h = tt
falls_behind d n (p ∷ ps) h = by (deeper d p) refl (falls_behind d p.depth ps (h.1))
  where
    by : (k : Bool) → deeper d p ≡ k → Falls d (behind d ps) → Falls d (behind d (p ∷ ps))
    by true e w = subst (Falls d) (sym (behind_deep d p ps e)) w
    by false e w = subst (Falls d) (sym (behind_low d p ps e)) (let l : p.depth ≤ d = grind (arith, nat_tests, e) in l, h.1)

pub falls_less : (n m : ℕ) (ps : List Placed) → n ≤ m → Falls n ps → Falls m ps
falls_less n m [] l h = tt
falls_less n m (p ∷ ps) l h = (let q : p.depth ≤ n = h.0 in omega arith, h.1)

-- all at a depth
abbrev AreAt : ℕ → List Placed → Type 0
AreAt d ps = AllByRecursion (λ (p : Placed). p.depth ≡ d) ps

inside_at : (d n : ℕ) (ps : List Placed) → n ≤ suc d → Falls n ps → AreAt (suc d) (inside d ps)
inside_at d n [] l h = tt
inside_at d n (p ∷ ps) l h = by (deeper d p) refl (inside_at d p.depth ps (let q : p.depth ≤ n = h.0 in omega arith) (h.1))
  where
    by : (k : Bool) → deeper d p ≡ k → AreAt (suc d) (inside d ps) → AreAt (suc d) (inside d (p ∷ ps))
    by true e w = subst (AreAt (suc d)) (sym (inside_deep d p ps e)) (let a : d < p.depth = grind (arith, nat_tests, e) in let q : p.depth ≤ n = h.0 in let r : p.depth ≡ suc d = omega arith in r, w)
    by false e w = subst (AreAt (suc d)) (sym (inside_low d p ps e)) tt

pub inside_none : (d : ℕ) (ps : List Placed) → Falls d ps → inside d ps ≡ []
inside_none d [] h = refl
inside_none d (p ∷ ps) h = let q : p.depth ≤ d = h.0 in let e : deeper d p ≡ false = grind (arith, nat_tests) in inside_low d p ps e

-- the paths

pub take_short : (d : ℕ) (path : List Outer) → d ≤ length path → length (take d path) ≡ d
take_short d path l = let q : length (take d path) ≡ min d (length path) = length-take d path in omega (arith, q)

pub after_long : (path : List Outer) (at : ℕ) (b : Shape) → IsIn path b → length (after path at b) ≤ suc b.depth
after_long path at b h = by b.sort
  where
    front : length (take b.depth path) ≡ b.depth
    front = take_short b.depth path h.depth

    by : (o : Option Sort) → length (after_as (take b.depth path) at o) ≤ suc b.depth
    by None = omega (arith, front)
    by (Some s) = let q : length (take b.depth path ++ record { number = at; sort = s } ∷ []) ≡ length (take b.depth path) + 1 = length-append (take b.depth path) (record { number = at; sort = s } ∷ []) in omega (arith, q, front)

pub placed_falls : (text : List ℕ) (pieces : List Line) (path : List Outer) (at : ℕ) (bs : List ReadBlock) → Nested path at (shapes bs) → Falls (length path) (placed_in text pieces bs)
placed_falls text pieces path at [] h = tt
placed_falls text pieces path at (b ∷ bs) h =
    let i : IsIn path (shape b) = h.0 in
    let l : b.depth ≤ length path = i.depth in
    (l, falls_behind b.depth (length (after path at (shape b))) (placed_in text pieces bs) (placed_falls text pieces (after path at (shape b)) (suc at) bs (h.1)))

take_take : (d n : ℕ) (path : List Outer) → d ≤ n → take d (take n path) ≡ take d path
take_take zero zero [] l = refl
take_take zero (suc n) [] l = refl
take_take zero zero (o ∷ os) l = refl
take_take zero (suc n) (o ∷ os) l = refl
take_take (suc d) zero path l = absurd (omega arith)
take_take (suc d) (suc n) [] l = refl
take_take (suc d) (suc n) (o ∷ os) l = ap (λ (xs : List Outer). o ∷ xs) (take_take d n os (omega arith))

take_all : (d : ℕ) (path : List Outer) → length path ≤ d → take d path ≡ path
take_all zero [] l = refl
take_all zero (o ∷ os) l = absurd (omega arith)
take_all (suc d) [] l = refl
take_all (suc d) (o ∷ os) l = ap (λ (xs : List Outer). o ∷ xs) (take_all d os (omega arith))

take_first : (d : ℕ) (path : List Outer) (o : Outer) → d ≤ length path → take d (path ++ o ∷ []) ≡ take d path
take_first zero [] o l = refl
take_first zero (x ∷ xs) o l = refl
take_first (suc d) [] o l = absurd (omega arith)
take_first (suc d) (x ∷ xs) o l = ap (λ (ys : List Outer). x ∷ ys) (take_first d xs o (omega arith))

-- not deeper than a block, its path is the same as before
after_same : (path : List Outer) (at d : ℕ) (b : Shape) → IsIn path b → d ≤ b.depth → take d (after path at b) ≡ take d path
after_same path at d b h l = by b.sort
  where
    front : length (take b.depth path) ≡ b.depth
    front = take_short b.depth path h.depth

    by : (o : Option Sort) → take d (after_as (take b.depth path) at o) ≡ take d path
    by None = take_take d b.depth path l
    by (Some s) = take_first d (take b.depth path) (record { number = at; sort = s }) (omega (arith, front)) ∙ take_take d b.depth path l

-- whether a block at a depth is directly in a tight list

abbrev pub tight_in : List ReadBlock → Option ℕ → Bool
tight_in all list = option_map_or (λ place. option_map_or (λ (l : ReadBlock). not l.loose) (slice_get all place) false) list false

abbrev tight_at : List ReadBlock → List Outer → ℕ → Bool
tight_at all path d = tight_in all (list_in (take d path))

pub same_unwrapped : (all : List ReadBlock) (b : ReadBlock) → is_unwrapped all b ≡ tight_in all b.list
unfolding is_unwrapped
same_unwrapped all b = refl

list_more : (was : Option ℕ) (path : List Outer) (o : Outer) → fold (λ (list : Option ℕ) (x : Outer). list_at list x x.sort) was (path ++ o ∷ []) ≡ list_at (fold (λ (list : Option ℕ) (x : Outer). list_at list x x.sort) was path) o o.sort
list_more was [] o = refl
list_more was (x ∷ xs) o = list_more (list_at was x x.sort) xs o

-- what is said of blocks in their places

abbrev placed_said : List Destination → List ReadBlock → List Outer → Placed → List Piece
placed_said labels all path p = said_if labels p.depth (tight_at all path p.depth) p.block

abbrev all_said : List Destination → List ReadBlock → List Outer → List Placed → List Piece
all_said labels all path ps = flat_map (placed_said labels all path) ps

if_more : (labels : List Destination) (d : ℕ) (tight : Bool) (o : Option block.Block) (bs : block.Blocks) → blocks_said labels d tight (more_if o bs) ≡ said_if labels d tight o ++ blocks_said labels d tight bs
if_more labels d tight None bs = refl
if_more labels d tight (Some b) bs = refl

-- those at one depth say what their tree says
tree_said : (labels : List Destination) (all : List ReadBlock) (path : List Outer) (d : ℕ) (tight : Bool) (ps : List Placed) → tight_at all path d ≡ tight → AreAt d ps → all_said labels all path ps ≡ blocks_said labels d tight (tree_of ps)
tree_said labels all path d tight [] e h = refl
tree_said labels all path d tight (p ∷ ps) e h =
    ap (λ n. said_if labels n (tight_at all path n) p.block ++ all_said labels all path ps) (h.0)
    ∙ ap (λ k. said_if labels d k p.block ++ all_said labels all path ps) e
    ∙ ap (λ qs. said_if labels d tight p.block ++ qs) (tree_said labels all path d tight ps e (h.1))
    ∙ sym (if_more labels d tight p.block (tree_of ps))

-- not deeper than a block, they say the same on both paths
low_said : (labels : List Destination) (all : List ReadBlock) (path : List Outer) (at : ℕ) (b : Shape) (n : ℕ) (ps : List Placed) → IsIn path b → n ≤ b.depth → Falls n ps → all_said labels all (after path at b) ps ≡ all_said labels all path ps
low_said labels all path at b n [] i l h = refl
low_said labels all path at b n (p ∷ ps) i l h =
    ap (λ xs. said_if labels p.depth (tight_in all (list_in xs)) p.block ++ all_said labels all (after path at b) ps) (after_same path at p.depth b i (let q : p.depth ≤ n = h.0 in omega arith))
    ∙ ap (λ qs. placed_said labels all path p ++ qs) (low_said labels all path at b p.depth ps i (let q : p.depth ≤ n = h.0 in omega arith) (h.1))

-- a container says itself, and then what is in it

-- whether the blocks in a container are directly in a tight list
abbrev tight_inside : ReadBlock → Bool → BlockKind → Bool
tight_inside b tight (kind.Quote k) = false
tight_inside b tight (kind.List first) = not b.loose
tight_inside b tight kind.Item = tight
tight_inside b tight k = false

container_said : (labels : List Destination) (text : List ℕ) (b : ReadBlock) (s : Sort) (d : ℕ) (tight : Bool) (ps : List Line) (bs : block.Blocks) (k : BlockKind) → sort_of k ≡ Some s
    → said_if labels d tight (block_as text k b.loose ps bs) ≡ said_if labels d tight (block_as text k b.loose ps block.none) ++ blocks_said labels (suc d) (tight_inside b tight k) bs
container_said labels text b s d tight ps bs (kind.Quote q) e = refl
container_said labels text b s d tight ps bs (kind.List None) e = refl
container_said labels text b s d tight ps bs (kind.List (Some n)) e = refl
container_said labels text b s d tight ps bs kind.Item e = refl
container_said labels text b s d tight ps bs kind.Paragraph e = absurd cc
container_said labels text b s d tight ps bs (kind.Heading l x) e = absurd cc
container_said labels text b s d tight ps bs kind.Indented e = absurd cc
container_said labels text b s d tight ps bs (kind.Fenced x y) e = absurd cc
container_said labels text b s d tight ps bs kind.Html e = absurd cc
container_said labels text b s d tight ps bs kind.Rule e = absurd cc
container_said labels text b s d tight ps bs (kind.Metadata x) e = absurd cc
container_said labels text b s d tight ps bs (kind.Footnote x y) e = absurd cc
container_said labels text b s d tight ps bs (kind.Table x y) e = absurd cc
container_said labels text b s d tight ps bs kind.TableHead e = absurd cc
container_said labels text b s d tight ps bs kind.TableRow e = absurd cc
container_said labels text b s d tight ps bs kind.TableCell e = absurd cc
container_said labels text b s d tight ps bs kind.DefinitionList e = absurd cc
container_said labels text b s d tight ps bs kind.DefinitionListTitle e = absurd cc
container_said labels text b s d tight ps bs kind.DefinitionListDefinition e = absurd cc

-- so the blocks in it are
inside_tight : (all : List ReadBlock) (path : List Outer) (at : ℕ) (b : ReadBlock) (s : Sort) → sort_of b.kind ≡ Some s → slice_get all at ≡ Some b → IsIn path (shape b) → tight_at all (after path at (shape b)) (suc b.depth) ≡ tight_inside b (tight_at all path b.depth) b.kind
inside_tight all path at b s e found i =
    ap (λ (o : Option Sort). tight_at all (after_as front at o) (suc b.depth)) e
    ∙ ap (λ xs. tight_in all (list_in xs)) (take_all (suc b.depth) (front ++ own ∷ []) (let q : length (front ++ own ∷ []) ≡ length front + 1 = length-append front (own ∷ []) in omega (arith, q, size)))
    ∙ ap (tight_in all) (list_more None front own)
    ∙ by s b.kind e
  where
    front : List Outer
    front = take b.depth path

    own : Outer
    own = record { number = at; sort = s }

    size : length front ≡ b.depth
    size = take_short b.depth path i.depth

    of_list : tight_in all (Some at) ≡ not b.loose
    of_list = ap (λ (o : Option ReadBlock). option_map_or (λ (l : ReadBlock). not l.loose) o false) found

    by : (s : Sort) (k : BlockKind) → sort_of k ≡ Some s → tight_in all (list_at (list_in front) (record { number = at; sort = s }) s) ≡ tight_inside b (tight_at all path b.depth) k
    by OfQuote (kind.Quote q) e = refl
    by OfList (kind.List first) e = of_list
    by OfItem kind.Item e = refl
    by OfList (kind.Quote q) e = absurd cc
    by OfItem (kind.Quote q) e = absurd cc
    by OfQuote (kind.List first) e = absurd cc
    by OfItem (kind.List first) e = absurd cc
    by OfQuote kind.Item e = absurd cc
    by OfList kind.Item e = absurd cc
    by s kind.Paragraph e = absurd cc
    by s (kind.Heading l x) e = absurd cc
    by s kind.Indented e = absurd cc
    by s (kind.Fenced x y) e = absurd cc
    by s kind.Html e = absurd cc
    by s kind.Rule e = absurd cc
    by s (kind.Metadata x) e = absurd cc
    by s (kind.Footnote x y) e = absurd cc
    by s (kind.Table x y) e = absurd cc
    by s kind.TableHead e = absurd cc
    by s kind.TableRow e = absurd cc
    by s kind.TableCell e = absurd cc
    by s kind.DefinitionList e = absurd cc
    by s kind.DefinitionListTitle e = absurd cc
    by s kind.DefinitionListDefinition e = absurd cc

-- one block, with those after it

step_said : (labels : List Destination) (text : List ℕ) (pieces : List Line) (all : List ReadBlock) (path : List Outer) (at : ℕ) (b : ReadBlock) (rest : List Placed) → slice_get all at ≡ Some b → IsIn path (shape b) → Falls (length (after path at (shape b))) rest
    → one_said labels all text pieces b ++ all_said labels all (after path at (shape b)) rest ≡ all_said labels all path (put text pieces b rest)
step_said labels text pieces all path at b rest found i falls = by (sort_of b.kind) refl
  where
    d : ℕ
    d = b.depth

    tight : Bool
    tight = tight_at all path d

    ps : List Line
    ps = pieces_of pieces b

    within : List Placed
    within = inside d rest

    others : List Placed
    others = behind d rest

    next : List Outer
    next = after path at (shape b)

    own : is_unwrapped all b ≡ tight
    own = same_unwrapped all b ∙ ap (tight_in all) i.list

    after_them : all_said labels all next others ≡ all_said labels all path others
    after_them = low_said labels all path at (shape b) d others i (omega arith) (falls_behind d (length next) rest falls)

    split : all_said labels all next rest ≡ all_said labels all next within ++ all_said labels all path others
    split = ap (all_said labels all next) (sym (both_parts d rest)) ∙ flat_map-append (placed_said labels all next) within others ∙ ap (λ qs. all_said labels all next within ++ qs) after_them

    by : (o : Option Sort) → sort_of b.kind ≡ o → one_said labels all text pieces b ++ all_said labels all next rest ≡ all_said labels all path (put text pieces b rest)
    by (Some s) e =
        ap (λ k. said_if labels d k (leaf_as text pieces b) ++ all_said labels all next rest) own
        ∙ ap (λ qs. said_if labels d tight (leaf_as text pieces b) ++ qs) split
        ∙ ap (λ qs. said_if labels d tight (leaf_as text pieces b) ++ (qs ++ all_said labels all path others)) (tree_said labels all next (suc d) (tight_inside b tight b.kind) within (inside_tight all path at b s e found i) (inside_at d (length next) rest (after_long path at (shape b) i) falls))
        ∙ sym (append_assoc (said_if labels d tight (leaf_as text pieces b)) (blocks_said labels (suc d) (tight_inside b tight b.kind) (tree_of within)) (all_said labels all path others))
        ∙ ap (λ qs. qs ++ all_said labels all path others) (sym (container_said labels text b s d tight ps (tree_of within) b.kind e))
    by None e =
        ap (λ k. said_if labels d k (leaf_as text pieces b) ++ all_said labels all next rest) own
        ∙ ap (λ qs. said_if labels d tight (leaf_as text pieces b) ++ qs) split
        ∙ ap (λ (xs : List Placed). said_if labels d tight (leaf_as text pieces b) ++ (all_said labels all next xs ++ all_said labels all path others)) empty
        ∙ ap (λ (xs : List Placed). said_if labels d tight (block_as text b.kind b.loose ps (tree_of xs)) ++ all_said labels all path others) (sym empty)
      where
        short : length next ≤ d
        short = subst (λ (o : Option Sort). length (after_as (take d path) at o) ≤ d) (sym e) (let q : length (take d path) ≡ d = take_short d path i.depth in omega (arith, q))

        empty : within ≡ []
        empty = inside_none d rest (falls_less (length next) d rest short falls)

nested_said : (labels : List Destination) (text : List ℕ) (pieces : List Line) (all : List ReadBlock) (path : List Outer) (before bs : List ReadBlock) → all ≡ before ++ bs → Nested path (length before) (shapes bs) → flat_map (one_said labels all text pieces) bs ≡ all_said labels all path (placed_in text pieces bs)
nested_said labels text pieces all path before [] e h = refl
nested_said labels text pieces all path before (b ∷ bs) e h =
    ap (λ qs. one_said labels all text pieces b ++ qs) (nested_said labels text pieces all next (before ++ b ∷ []) bs (e ∙ sym (append_assoc before (b ∷ []) bs)) (subst (λ n. Nested next n (shapes bs)) size (h.1)))
    ∙ step_said labels text pieces all path (length before) b (placed_in text pieces bs) (ap (λ (xs : List ReadBlock). slice_get xs (length before)) e ∙ got before bs b) (h.0) (placed_falls text pieces next (suc (length before)) bs (h.1))
  where
    next : List Outer
    next = after path (length before) (shape b)

    size : suc (length before) ≡ length (before ++ b ∷ [])
    size = let q : length (before ++ b ∷ []) ≡ length before + 1 = length-append before (b ∷ []) in omega (arith, q)

    got : (xs ys : List ReadBlock) (x : ReadBlock) → slice_get (xs ++ x ∷ ys) (length xs) ≡ Some x
    got [] ys x = refl
    got (z ∷ zs) ys x = got zs ys x

falls_at : (ps : List Placed) → Falls 0 ps → AreAt 0 ps
falls_at [] h = tt
falls_at (p ∷ ps) h = let q : p.depth ≤ 0 = h.0 in let z : p.depth ≡ 0 = omega arith in (z, falls_at ps (falls_less p.depth 0 ps q (h.1)))

-- all blocks of a text
pub blocks_flat : (labels : List Destination) (text : List ℕ) (pieces : List Line) (all : List ReadBlock) → Nested [] 0 (shapes all) → flat_map (one_said labels all text pieces) all ≡ blocks_said labels 0 false (tree_of (placed_in text pieces all))
blocks_flat labels text pieces all h =
    nested_said labels text pieces all [] [] all refl h
    ∙ tree_said labels all [] 0 false (placed_in text pieces all) refl (falls_at (placed_in text pieces all) (placed_falls text pieces [] 0 all h))

pub tree-said : BlocksSayTheirTree
tree-said labels text = blocks_flat labels text (blocks_in commonmark text).pieces (blocks_in commonmark text).blocks (blocks-nested All text)

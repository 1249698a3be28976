-- The blocks of a page on which no list is, as the declaration has them.
use Rattle.std.proofs.Common.{◌≡◌, ℕ, zero, suc, ◌+◌, ◌^◌, ◌≤◌, true, false, cond, nat_lt, List, [], ◌∷◌, ◌++◌, length, map, take, drop, refl, ap, sym, ◌∙◌, arith, append_assoc, append-nil}
use Rattle.std.proofs.Math.Seq.{drop-length}
use Rattle.std.specs.Prelude.{take_while, Option, Some, None}
use Rattle.std.specs.List.{AllByRecursion}
use Rattle.std.proofs.lemmas.Bool.Decides.{nat_tests}
use Rattle.std.proofs.lemmas.List.{drop-append-le, drop-drop, drop-map}
use Rattle.std.proofs.lemmas.List.Sums.{take_while-cons}
use Rattle.tocmark_event.specs.declared.event.HeadingLevel.{HeadingLevel}
use Rattle.tocmark_read_scan.proofs.PlainContent.{get_behind, take_front}
use Rattle.tocmark_read_scan.proofs.PlainPieces.{drop_behind}
use Rattle.tocmark_read_page.specs.Pages.{ended}
use Rattle.tocmark_read_page.specs.declared.page.Block.{Block as ReadBlock}
use Rattle.tocmark_read_page.specs.declared.page.BlockKind.{BlockKind}
use Rattle.tocmark_read_page.specs.declared.page.BlockKind.TheVariants as kind
use Rattle.tocmark_read_page.specs.declared.piece.Piece.{Piece}
use Rattle.tocmark_commonmark.specs.Tree.{Block, Blocks, none, more, Heading, Paragraph, Quote}
use Rattle.tocmark_commonmark.specs.Leaves.{text_of}
use Rattle.tocmark_block_laws.proofs.Open.{all_append, set_middle}
use Rattle.tocmark_block_laws.proofs.Columns.{front_low}
use Rattle.tocmark_block_laws.specs.Trees.{line_text, leaf_text, paragraph_in, block_as, Placed, more_if, tree_of, pieces_of, put_with, put, placed_in}

-- blocks before others
abbrev pub also : Blocks → Blocks → Blocks
also none y = y
also (more b x) y = more b (also x y)

pub also_none : (x : Blocks) → also x none ≡ x
also_none none = refl
also_none (more b x) = ap (λ y. more b y) (also_none x)

pub also_more : (x : Blocks) (b : Block) (y : Blocks) → also (also x (more b none)) y ≡ also x (more b y)
also_more none b y = refl
also_more (more c x) b y = ap (λ z. more c z) (also_more x b y)

pub also_also : (x y z : Blocks) → also (also x y) z ≡ also x (also y z)
also_also none y z = refl
also_also (more b x) y z = ap (λ w. more b w) (also_also x y z)

more_also : (o : Option Block) (x y : Blocks) → more_if o (also x y) ≡ also (more_if o x) y
more_also None x y = refl
more_also (Some b) x y = refl

tree_append : (xs ys : List Placed) → tree_of (xs ++ ys) ≡ also (tree_of xs) (tree_of ys)
tree_append [] ys = refl
tree_append (x ∷ xs) ys = ap (more_if x.block) (tree_append xs ys) ∙ more_also x.block (tree_of xs) (tree_of ys)

-- a block without others in it
abbrev pub leaf_as : List ℕ → List Piece → ReadBlock → Option Block
leaf_as text pieces b = block_as text b.kind b.loose (pieces_of pieces b) none

-- blocks that lie at a depth or deeper
abbrev pub AreDeep : ℕ → List ReadBlock → Type 0
AreDeep d bs = AllByRecursion (λ (b : ReadBlock). d ≤ b.depth) bs

abbrev ArePlaced : ℕ → List Placed → Type 0
ArePlaced d ps = AllByRecursion (λ (p : Placed). d ≤ p.depth) ps

-- blocks at the same depth or above it come after a block and lie in none before it
abbrev IsApart : ℕ → List Placed → Type 0
IsApart d [] = Unit {0}
IsApart d (p ∷ ps) = p.depth ≤ d

deep_dropped : (d n : ℕ) (ps : List Placed) → ArePlaced d ps → ArePlaced d (drop n ps)
deep_dropped d zero ps h = h
deep_dropped d (suc n) [] h = tt
deep_dropped d (suc n) (p ∷ ps) h = deep_dropped d n ps (h.1)

deep_placed : (text : List ℕ) (pieces : List Piece) (d : ℕ) (bs : List ReadBlock) → AreDeep d bs → ArePlaced d (placed_in text pieces bs)
deep_placed text pieces d [] h = tt
deep_placed text pieces d (b ∷ bs) h =
    let rest : List Placed = placed_in text pieces bs in
    (h.0, deep_dropped d (length (take_while (λ (p : Placed). nat_lt b.depth p.depth) rest)) rest (deep_placed text pieces d bs (h.1)))

-- the blocks in a block don't go past one that is apart
while_apart : (e d : ℕ) (xs ys : List Placed) → d ≤ e → IsApart d ys → take_while (λ (p : Placed). nat_lt e p.depth) (xs ++ ys) ≡ take_while (λ (p : Placed). nat_lt e p.depth) xs
while_apart e d [] [] low h = refl
while_apart e d [] (y ∷ ys) low h =
    let no : nat_lt e y.depth ≡ false = grind (arith, low, h, nat_tests) in
    take_while-cons (λ (p : Placed). nat_lt e p.depth) y ys ∙ ap (λ k. cond k (y ∷ take_while (λ (p : Placed). nat_lt e p.depth) ys) []) no
while_apart e d (x ∷ xs) ys low h =
    take_while-cons (λ (p : Placed). nat_lt e p.depth) x (xs ++ ys)
    ∙ ap (λ zs. cond (nat_lt e x.depth) (x ∷ zs) []) (while_apart e d xs ys low h)
    ∙ sym (take_while-cons (λ (p : Placed). nat_lt e p.depth) x xs)

-- blocks after others that are at least as deep lie in none of those
placed_append : (text : List ℕ) (pieces : List Piece) (d : ℕ) (bs cs : List ReadBlock) → AreDeep d bs → IsApart d (placed_in text pieces cs) → placed_in text pieces (bs ++ cs) ≡ placed_in text pieces bs ++ placed_in text pieces cs
placed_append text pieces d [] cs h apart = refl
placed_append text pieces d (b ∷ bs) cs h apart =
    ap (put text pieces b) (placed_append text pieces d bs cs (h.1) apart)
    ∙ ap (λ within. put_with text pieces b (placed_in text pieces bs ++ placed_in text pieces cs) within) (while_apart b.depth d (placed_in text pieces bs) (placed_in text pieces cs) (h.0) apart)
    ∙ ap (λ rest. outer_block ∷ rest) (drop-append-le (length within) (placed_in text pieces bs) (placed_in text pieces cs) (front_low (λ (p : Placed). nat_lt b.depth p.depth) (placed_in text pieces bs)))
  where
    within : List Placed
    within = take_while (λ (p : Placed). nat_lt b.depth p.depth) (placed_in text pieces bs)

    outer_block : Placed
    outer_block = record { depth = b.depth; block = block_as text b.kind b.loose (pieces_of pieces b) (tree_of within) }

-- what was there when the lines of a quote, or of the text, began to come in
pub record Run : Type 0 where
  pub outer : List ℕ
  pub base : List ReadBlock
  pub old : List Piece
  pub count : ℕ
  pub limit : ℕ
  pub fits : limit ≤ 2 ^ 64

-- the blocks since then are these, whatever lines come after them
pub record Holds (text : List ℕ) (r : Run) (bs : List ReadBlock) (ps : List Piece) (found : Blocks) : Type 0 where
  pub mine : List ReadBlock
  pub is : bs ≡ r.base ++ mine
  pub deep : AreDeep (length r.outer) mine
  pub new : List Piece
  pub pieces : ps ≡ r.old ++ new
  pub says : (later : List Piece) → tree_of (placed_in text (ps ++ later) mine) ≡ found

pub holds_none : (text : List ℕ) (r : Run) → Holds text r r.base r.old none
holds_none text r = record { mine = []; is = sym (append-nil r.base); deep = tt; new = []; pieces = sym (append-nil r.old); says = λ later. refl }

-- a leaf at the depth of the run, if it is a block
pub holds_if : (text : List ℕ) (r : Run) (bs : List ReadBlock) (ps : List Piece) (found : Blocks) (b : ReadBlock) (o : Option Block) (new : List Piece) → Holds text r bs ps found → b.depth ≡ length r.outer
    → ((later : List Piece) → leaf_as text ((ps ++ new) ++ later) b ≡ o) → Holds text r (bs ++ b ∷ []) (ps ++ new) (also found (more_if o none))
holds_if text r bs ps found b o new h k says = record {
  mine = h.mine ++ b ∷ [];
  is = ap (λ cs. cs ++ b ∷ []) h.is ∙ append_assoc r.base h.mine (b ∷ []);
  deep = all_append (λ (c : ReadBlock). length r.outer ≤ c.depth) h.mine (b ∷ []) h.deep (omega (arith, k), tt);
  new = h.new ++ new;
  pieces = ap (λ qs. qs ++ new) h.pieces ∙ append_assoc r.old h.new new;
  says = λ later.
      ap tree_of (placed_append text ((ps ++ new) ++ later) (length r.outer) h.mine (b ∷ []) h.deep (omega (arith, k)))
      ∙ tree_append (placed_in text ((ps ++ new) ++ later) h.mine) (placed_in text ((ps ++ new) ++ later) (b ∷ []))
      ∙ ap (λ y. also y (more_if (leaf_as text ((ps ++ new) ++ later) b) none)) (ap (λ qs. tree_of (placed_in text qs h.mine)) (append_assoc ps new later) ∙ h.says (new ++ later))
      ∙ ap (λ x. also found (more_if x none)) (says later);
}

pub holds_more : (text : List ℕ) (r : Run) (bs : List ReadBlock) (ps : List Piece) (found : Blocks) (b : ReadBlock) (x : Block) (new : List Piece) → Holds text r bs ps found → b.depth ≡ length r.outer
    → ((later : List Piece) → leaf_as text ((ps ++ new) ++ later) b ≡ Some x) → Holds text r (bs ++ b ∷ []) (ps ++ new) (also found (more x none))
holds_more text r bs ps found b x new h k says = holds_if text r bs ps found b (Some x) new h k says

-- lines that no block has change nothing
pub holds_later : (text : List ℕ) (r : Run) (bs : List ReadBlock) (ps : List Piece) (found : Blocks) (new : List Piece) → Holds text r bs ps found → Holds text r bs (ps ++ new) found
holds_later text r bs ps found new h = record {
  mine = h.mine;
  is = h.is;
  deep = h.deep;
  new = h.new ++ new;
  pieces = ap (λ qs. qs ++ new) h.pieces ∙ append_assoc r.old h.new new;
  says = λ later. ap (λ qs. tree_of (placed_in text qs h.mine)) (append_assoc ps new later) ∙ h.says (new ++ later);
}

while_all : (d : ℕ) (ps : List Placed) → ArePlaced (suc d) ps → take_while (λ (p : Placed). nat_lt d p.depth) ps ≡ ps
while_all d [] h = refl
while_all d (p ∷ ps) h =
    let low : suc d ≤ p.depth = h.0 in
    let yes : nat_lt d p.depth ≡ true = grind (arith, low, nat_tests) in
    take_while-cons (λ (q : Placed). nat_lt d q.depth) p ps ∙ ap (λ k. cond k (p ∷ take_while (λ (q : Placed). nat_lt d q.depth) ps) []) yes ∙ ap (λ qs. p ∷ qs) (while_all d ps (h.1))

ended_middle : (xs : List ReadBlock) (x : ReadBlock) (ys : List ReadBlock) (end : ℕ) → ended (xs ++ x ∷ ys) (length xs) end ≡ xs ++ record x { end = end } ∷ ys
unfolding ended
ended_middle xs x ys end = rw (get_behind xs ys x) (set_middle xs x (record x { end = end }) ys)

-- the run of the lines in a container with this block
abbrev pub inner_run : Run → List ReadBlock → List Piece → ReadBlock → ℕ → (limit : ℕ) → limit ≤ 2 ^ 64 → Run
inner_run r bs ps b count limit fits = record { outer = length bs ∷ r.outer; base = bs ++ b ∷ []; old = ps; count = count; limit = limit; fits = fits }

-- a container that is this block if these blocks are in it
abbrev pub IsBox : List ℕ → ReadBlock → Blocks → Block → Type 0
IsBox text b inside x = (pieces : List Piece) → block_as text b.kind b.loose pieces inside ≡ Some x

-- a container, when it ends
pub holds_box : (text : List ℕ) (r : Run) (bs : List ReadBlock) (ps : List Piece) (found : Blocks) (b : ReadBlock) (count limit : ℕ) (fits : limit ≤ 2 ^ 64) (cs : List ReadBlock) (qs : List Piece) (inside : Blocks) (x : Block) (end : ℕ)
    → Holds text r bs ps found → b.depth ≡ length r.outer → IsBox text b inside x → Holds text (inner_run r bs ps b count limit fits) cs qs inside
    → Holds text r (ended cs (length bs) end) qs (also found (more x none))
holds_box text r bs ps found b count limit fits cs qs inside x end h k box i = record {
  mine = h.mine ++ b' ∷ i.mine;
  is = ap (λ zs. ended zs (length bs) end) (i.is ∙ append_assoc bs (b ∷ []) i.mine) ∙ ended_middle bs b i.mine end ∙ ap (λ zs. zs ++ b' ∷ i.mine) h.is ∙ append_assoc r.base h.mine (b' ∷ i.mine);
  deep = all_append (λ (c : ReadBlock). length r.outer ≤ c.depth) h.mine (b' ∷ i.mine) h.deep (omega (arith, k), less_deep i.mine i.deep);
  new = h.new ++ i.new;
  pieces = i.pieces ∙ ap (λ zs. zs ++ i.new) h.pieces ∙ append_assoc r.old h.new i.new;
  says = λ later.
      ap tree_of (placed_append text (qs ++ later) (length r.outer) h.mine (b' ∷ i.mine) h.deep (omega (arith, k)))
      ∙ tree_append (placed_in text (qs ++ later) h.mine) (placed_in text (qs ++ later) (b' ∷ i.mine))
      ∙ ap (λ y. also y (tree_of (placed_in text (qs ++ later) (b' ∷ i.mine)))) (ap (λ zs. tree_of (placed_in text zs h.mine)) (ap (λ zs. zs ++ later) i.pieces ∙ append_assoc ps i.new later) ∙ h.says (i.new ++ later))
      ∙ ap (also found) (in_box later);
}
  where
    b' : ReadBlock
    b' = record b { end = end }

    less_deep : (zs : List ReadBlock) → AreDeep (suc (length r.outer)) zs → AreDeep (length r.outer) zs
    less_deep [] g = tt
    less_deep (z ∷ zs) g = (let q : suc (length r.outer) ≤ z.depth = g.0 in omega (arith, q), less_deep zs (g.1))

    in_box : (later : List Piece) → tree_of (placed_in text (qs ++ later) (b' ∷ i.mine)) ≡ more x none
    in_box later =
        let placed : List Placed = placed_in text (qs ++ later) i.mine in
        let all : take_while (λ (p : Placed). nat_lt b.depth p.depth) placed ≡ placed = ap (λ d. take_while (λ (p : Placed). nat_lt d p.depth) placed) k ∙ while_all (length r.outer) placed (deep_placed text (qs ++ later) (suc (length r.outer)) i.mine i.deep) in
        ap (λ within. tree_of (put_with text (qs ++ later) b' placed within)) all
        ∙ ap (λ rest. more_if (block_as text b.kind b.loose (pieces_of (qs ++ later) b') (tree_of placed)) (tree_of rest)) (drop-length placed)
        ∙ ap (λ y. more_if (block_as text b.kind b.loose (pieces_of (qs ++ later) b') y) none) (i.says later)
        ∙ ap (λ o. more_if o none) (box (pieces_of (qs ++ later) b'))

-- the block of a quote
abbrev pub is_quote_block : ReadBlock → Type 0
is_quote_block b = b.kind ≡ kind.Quote None

-- a quote, when it ends
pub holds_quote : (text : List ℕ) (r : Run) (bs : List ReadBlock) (ps : List Piece) (found : Blocks) (b : ReadBlock) (count limit : ℕ) (fits : limit ≤ 2 ^ 64) (cs : List ReadBlock) (qs : List Piece) (inside : Blocks) (end : ℕ)
    → Holds text r bs ps found → b.depth ≡ length r.outer → is_quote_block b → Holds text (inner_run r bs ps b count limit fits) cs qs inside
    → Holds text r (ended cs (length bs) end) qs (also found (more (Quote inside) none))
holds_quote text r bs ps found b count limit fits cs qs inside end h k quote i =
    holds_box text r bs ps found b count limit fits cs qs inside (Quote inside) end h k (λ pieces. ap (λ x. block_as text x b.loose pieces inside) quote) i

-- what a page with these blocks is read as
pub holds_read : (text : List ℕ) (r : Run) (bs : List ReadBlock) (ps : List Piece) (found : Blocks) → r.base ≡ [] → Holds text r bs ps found → tree_of (placed_in text ps bs) ≡ found
holds_read text r bs ps found e h =
    ap (λ cs. tree_of (placed_in text ps cs)) (h.is ∙ ap (λ cs. cs ++ h.mine) e)
    ∙ ap (λ qs. tree_of (placed_in text qs h.mine)) (sym (append-nil ps)) ∙ h.says []

-- the lines of a block are those that came in it
pieces_new : (ps new later : List Piece) → drop (length ps) (take (length (ps ++ new)) ((ps ++ new) ++ later)) ≡ new
pieces_new ps new later = ap (drop (length ps)) (take_front (ps ++ new) later) ∙ drop_behind ps new

-- a block with its lines
pub block_told : (text : List ℕ) (d : ℕ) (k : BlockKind) (ps qs : List Piece) (start end : ℕ) (later : List Piece)
    → leaf_as text ((ps ++ qs) ++ later) (record { depth = d; kind = k; start = start; end = end; first = length ps; last = length (ps ++ qs); loose = false; list = None; task = None }) ≡ block_as text k false qs none
block_told text d k ps qs start end later = ap (λ xs. block_as text k false xs none) (pieces_new ps qs later)

pub heading_told : (text : List ℕ) (d : ℕ) (level : HeadingLevel) (ps qs : List Piece) (words : List ℕ) (start end : ℕ) → leaf_text text qs ≡ words → (later : List Piece)
    → leaf_as text ((ps ++ qs) ++ later) (record { depth = d; kind = kind.Heading level None; start = start; end = end; first = length ps; last = length (ps ++ qs); loose = false; list = None; task = None }) ≡ Some (Heading level words)
heading_told text d level ps qs words start end h later = block_told text d (kind.Heading level None) ps qs start end later ∙ ap (λ t. Some (Heading level t)) h

-- what is left of a paragraph: without lines it is no block
abbrev pub left_as : List (List ℕ) → Option Block
left_as [] = None
left_as (t ∷ ts) = Some (Paragraph (text_of (t ∷ ts)))

paragraph_as : (text : List ℕ) (ps : List Piece) → paragraph_in text ps ≡ left_as (map (line_text text) ps)
paragraph_as text [] = refl
paragraph_as text (p ∷ ps) = refl

-- the lines of a block after the first ones
pieces_cut : (ps qs later : List Piece) (n : ℕ) → drop (length ps + n) (take (length (ps ++ qs)) ((ps ++ qs) ++ later)) ≡ drop n qs
pieces_cut ps qs later n =
    ap (drop (length ps + n)) (take_front (ps ++ qs) later) ∙ sym (drop-drop n (length ps) (ps ++ qs)) ∙ ap (drop n) (drop_behind ps qs)

pub left_told : (text : List ℕ) (d : ℕ) (ps qs : List Piece) (n start end : ℕ) (later : List Piece)
    → leaf_as text ((ps ++ qs) ++ later) (record { depth = d; kind = kind.Paragraph; start = start; end = end; first = length ps + n; last = length (ps ++ qs); loose = false; list = None; task = None }) ≡ left_as (drop n (map (line_text text) qs))
left_told text d ps qs n start end later =
    ap (paragraph_in text) (pieces_cut ps qs later n) ∙ paragraph_as text (drop n qs) ∙ ap left_as (sym (drop-map (line_text text) n qs))

pub heading_left_told : (text : List ℕ) (d : ℕ) (level : HeadingLevel) (ps qs : List Piece) (n start end : ℕ) (later : List Piece)
    → leaf_as text ((ps ++ qs) ++ later) (record { depth = d; kind = kind.Heading level None; start = start; end = end; first = length ps + n; last = length (ps ++ qs); loose = false; list = None; task = None }) ≡ Some (Heading level (text_of (drop n (map (line_text text) qs))))
heading_left_told text d level ps qs n start end later =
    ap (λ xs. block_as text (kind.Heading level None) false xs none) (pieces_cut ps qs later n) ∙ ap (λ ts. Some (Heading level (text_of ts))) (sym (drop-map (line_text text) n qs))

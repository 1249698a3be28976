-- In a text of n bytes without U+0000, of which the reader finds the declared blocks, a block is in at most 2 n + 2 containers.
use Rattle.std.proofs.Common.{◌≡◌, ℕ, zero, suc, ◌+◌, ◌-◌, ◌*◌, ◌≤◌, Bool, List, [], ◌∷◌, ◌++◌, length, map, drop, take, refl, sym, subst, arith}
use Rattle.std.specs.Prelude.{Option, Some, None}
use Rattle.std.specs.List.{AllByRecursion}
use Rattle.tocmark_event.specs.declared.event.HeadingLevel.{HeadingLevel}
use Rattle.tocmark_read_page.specs.Definitions.{DefinitionView}
use Rattle.tocmark_read_page.specs.declared.page.Block.{Block as ReadBlock}
use Rattle.tocmark_read_page.specs.declared.page.BlockKind.{BlockKind}
use Rattle.tocmark_read_page.specs.declared.page.BlockKind.TheVariants as kind
use Rattle.tocmark_read_page.specs.declared.piece.Piece.{Piece}
use Rattle.tocmark_commonmark.specs.Beginnings.{ItemMark, Beginning, BlankLine, CodeLine, QuoteLine, HeadingLine, FenceLine, HtmlLine, RuleLine, ItemLine, TextLine, LazyLine, beginning}
use Rattle.tocmark_commonmark.specs.Blocks.{first_block, blocks_from, size, blocks, blocks_of}
use Rattle.tocmark_commonmark.specs.Containers.{front, in_quote, item_lines}
use Rattle.tocmark_commonmark.specs.Leaves.{definitions, definitions_found, paragraph_lines, paragraph_left, paragraph_with}
use Rattle.tocmark_commonmark.specs.Lines.{Line, line_ink, lines_of}
use Rattle.tocmark_commonmark.specs.Lists.{item_block, blank_count, sibling, and_siblings, items, list_block}
use Rattle.tocmark_commonmark.specs.Tree as block
use Rattle.tocmark_commonmark.specs.Tree.{Found, tree}
use Rattle.tocmark_block_laws.specs.Trees.{told, told_before, block_as, Placed, more_if, tree_of, pieces_of, put, placed_in}
use Rattle.tocmark_text_laws.proofs.Alls.{all_both}
use Rattle.tocmark_standard_laws.specs.Contents.{HasNoZero}
use Rattle.tocmark_standard_laws.specs.Nesting.{Sort, sort_of, Outer, shape, IsIn, after_as, after, Nested}
use Rattle.tocmark_standard_laws.proofs.Fitting.{shapes}
use Rattle.tocmark_standard_laws.proofs.FlatBlocks.{inside, behind, both_parts, Falls, falls_less, inside_none, take_short, after_long, placed_falls}
use Rattle.tocmark_standard_laws.proofs.WellBlocks.{lines_short}

-- declared blocks

-- at most so many containers are in one another
abbrev mutual
  AreLow : ℕ → block.Blocks → Type 0
  AreLow n block.none = Unit {0}
  AreLow n (block.more b bs) = IsLow n b × AreLow n bs

  IsLow : ℕ → block.Block → Type 0
  IsLow n block.Rule = Unit {0}
  IsLow n (block.Heading l t) = Unit {0}
  IsLow n (block.IndentedCode t) = Unit {0}
  IsLow n (block.FencedCode i t) = Unit {0}
  IsLow n (block.Html t) = Unit {0}
  IsLow n (block.Definitions d) = Unit {0}
  IsLow n (block.Paragraph t) = Unit {0}
  IsLow n (block.Quote q) = (1 ≤ n) × AreLow (n - 1) q
  IsLow n (block.BulletList s t is) = (1 ≤ n) × AreLow (n - 1) is
  IsLow n (block.OrderedList s k t is) = (1 ≤ n) × AreLow (n - 1) is
  IsLow n (block.Item i) = (1 ≤ n) × AreLow (n - 1) i

mutual
  low_more : (n m : ℕ) (bs : block.Blocks) → n ≤ m → AreLow n bs → AreLow m bs
  low_more n m block.none l h = tt
  low_more n m (block.more b bs) l h = (one_more n m b l (h.0), low_more n m bs l (h.1))

  one_more : (n m : ℕ) (b : block.Block) → n ≤ m → IsLow n b → IsLow m b
  one_more n m block.Rule l h = tt
  one_more n m (block.Heading x t) l h = tt
  one_more n m (block.IndentedCode t) l h = tt
  one_more n m (block.FencedCode i t) l h = tt
  one_more n m (block.Html t) l h = tt
  one_more n m (block.Definitions d) l h = tt
  one_more n m (block.Paragraph t) l h = tt
  one_more n m (block.Quote q) l h = (let a : 1 ≤ n = h.0 in omega (arith, a, l), low_more (n - 1) (m - 1) q (omega (arith, l)) (h.1))
  one_more n m (block.BulletList s t is) l h = (let a : 1 ≤ n = h.0 in omega (arith, a, l), low_more (n - 1) (m - 1) is (omega (arith, l)) (h.1))
  one_more n m (block.OrderedList s k t is) l h = (let a : 1 ≤ n = h.0 in omega (arith, a, l), low_more (n - 1) (m - 1) is (omega (arith, l)) (h.1))
  one_more n m (block.Item i) l h = (let a : 1 ≤ n = h.0 in omega (arith, a, l), low_more (n - 1) (m - 1) i (omega (arith, l)) (h.1))

-- what is in a container
in_one : (n : ℕ) (bs : block.Blocks) → AreLow n bs → (1 ≤ suc n) × AreLow (suc n - 1) bs
in_one n bs h = (omega arith, low_more n (suc n - 1) bs (omega arith) h)

abbrev AreFound : ℕ → List Found → Type 0
AreFound n fs = AllByRecursion (λ (f : Found). IsLow n f.block) fs

found_more : (n m : ℕ) (fs : List Found) → n ≤ m → AreFound n fs → AreFound m fs
found_more n m [] l h = tt
found_more n m (f ∷ fs) l h = (one_more n m f.block l (h.0), found_more n m fs l (h.1))

tree_low : (n : ℕ) (fs : List Found) → AreFound n fs → AreLow n (tree fs)
tree_low n [] h = tt
tree_low n (f ∷ fs) h = (h.0, tree_low n fs (h.1))

found_low : (n at : ℕ) (ds : List DefinitionView) (k : ℕ) → AreFound n (definitions_found at ds k)
found_low n at [] k = tt
found_low n at (d ∷ ds) k = (tt, tt)

left_low : (n at : ℕ) (ts : List (List ℕ)) → AreFound n (paragraph_left at ts)
left_low n at [] = tt
left_low n at (t ∷ ts) = (tt, tt)

paragraph_low : (n at : ℕ) (ts : List (List ℕ)) (u : Option HeadingLevel) (d : List DefinitionView × ℕ) → AreFound n (paragraph_with at ts u d).found
paragraph_low n at ts None d = all_both (λ (f : Found). IsLow n f.block) (definitions_found at (d.0) (d.1)) (paragraph_left (at + d.1) (drop (d.1) ts)) (found_low n at (d.0) (d.1)) (left_low n (at + d.1) (drop (d.1) ts))
paragraph_low n at ts (Some level) d = all_both (λ (f : Found). IsLow n f.block) (definitions_found at (d.0) (d.1)) _ (found_low n at (d.0) (d.1)) (tt, tt)

-- where lines have such blocks in them
abbrev Makes : ℕ → (List Line → List Found) → Type 0
Makes n bs = (ls : List Line) → AreFound n (bs ls)

items_low : (n : ℕ) (bs : List Line → List Found) → Makes n bs → (fuel first : ℕ) (m : ItemMark × List Line) → AreFound (suc n) (map item_block (items bs fuel first m))
items_low n bs h zero first m = tt
items_low n bs h (suc fuel) first m = (in_one n (tree (bs within)) (tree_low n (bs within) (h within)), next (sibling (m.0).sort left) (λ k s. items_low n bs h fuel k s) _)
  where
    within : List Line
    within = item_lines bs (m.0) (m.1)

    rest : List Line
    rest = drop (length within - 1) (m.1)

    left : List Line
    left = drop (blank_count rest) rest

    next : (o : Option (ItemMark × List Line)) → ((k : ℕ) (s : ItemMark × List Line) → AreFound (suc n) (map item_block (items bs fuel k s))) → (k : ℕ) → AreFound (suc n) (map item_block (and_siblings (λ s. items bs fuel k s) o))
    next None again k = tt
    next (Some s) again k = again k s

list_low : (n : ℕ) (m : ItemMark) (number : Option ℕ) (tight : Bool) (bs : block.Blocks) → AreLow n bs → IsLow (suc n) (list_block m number tight bs)
list_low n m None tight bs h = in_one n bs h
list_low n m (Some k) tight bs h = in_one n bs h

first_low : (n : ℕ) (bs : List Line → List Found) → Makes n bs → (at : ℕ) (l : Line) (ls : List Line) (k : Beginning) → AreFound (suc (suc n)) (first_block bs at l ls k).found
first_low n bs h at l ls BlankLine = tt
first_low n bs h at l ls CodeLine = (tt, tt)
first_low n bs h at l ls QuoteLine = (one_more (suc n) (suc (suc n)) (block.Quote (tree (bs within))) (omega arith) (in_one n (tree (bs within)) (tree_low n (bs within) (h within))), tt)
  where
    within : List Line
    within = front (in_quote bs) [] (l ∷ ls)
first_low n bs h at l ls (HeadingLine x) = (tt, tt)
first_low n bs h at l ls (FenceLine f) = (tt, tt)
first_low n bs h at l ls (HtmlLine x) = (tt, tt)
first_low n bs h at l ls RuleLine = (tt, tt)
first_low n bs h at l ls (ItemLine k) = (list_low (suc n) k k.number _ _ (tree_low (suc n) _ (items_low n bs h (length ls + 1) at (k, ls))), tt)
first_low n bs h at l ls TextLine = paragraph_low (suc (suc n)) at ((paragraph_lines (line_ink l ∷ []) ls).0) ((paragraph_lines (line_ink l ∷ []) ls).1) (definitions (paragraph_lines (line_ink l ∷ []) ls).0)
first_low n bs h at l ls LazyLine = paragraph_low (suc (suc n)) at ((paragraph_lines (line_ink l ∷ []) ls).0) ((paragraph_lines (line_ink l ∷ []) ls).1) (definitions (paragraph_lines (line_ink l ∷ []) ls).0)

abbrev double : ℕ → ℕ
double zero = zero
double (suc n) = suc (suc (double n))

double_is : (n : ℕ) → double n ≡ 2 * n
double_is zero = refl
double_is (suc n) = let a : double n ≡ 2 * n = double_is n in omega (arith, a)

blocks_low : (fuel at : ℕ) (ls : List Line) → AreFound (double fuel) (blocks_from fuel at ls)
unfolding blocks_from
blocks_low zero at ls = tt
blocks_low (suc fuel) at [] = tt
blocks_low (suc fuel) at (l ∷ ls) =
    all_both (λ (f : Found). IsLow (double (suc fuel)) f.block) (first_block (λ x. blocks_from fuel 0 x) at l ls (beginning l)).found (blocks_from fuel (at + count) (drop count (l ∷ ls)))
    (first_low (double fuel) (λ x. blocks_from fuel 0 x) (λ x. blocks_low fuel 0 x) at l ls (beginning l))
    (found_more (double fuel) (double (suc fuel)) (blocks_from fuel (at + count) (drop count (l ∷ ls))) (omega arith) (blocks_low fuel (at + count) (drop count (l ∷ ls))))
  where
    count : ℕ
    count = (first_block (λ x. blocks_from fuel 0 x) at l ls (beginning l)).count

declared_low : (text : List ℕ) → HasNoZero text → AreLow (2 * length text + 2) (blocks_of text)
unfolding blocks blocks_of
declared_low text zeros =
    low_more (double (size (lines_of text))) (2 * length text + 2) (tree (blocks_from (size (lines_of text)) 0 (lines_of text)))
    (let a : double (size (lines_of text)) ≡ 2 * size (lines_of text) = double_is (size (lines_of text)) in let b : size (lines_of text) ≤ length text + 1 = lines_short text zeros in omega (arith, a, b))
    (tree_low (double (size (lines_of text))) (blocks_from (size (lines_of text)) 0 (lines_of text)) (blocks_low (size (lines_of text)) 0 (lines_of text)))

mutual
  told_low : (n : ℕ) (bs : block.Blocks) → AreLow n bs → AreLow n (told bs)
  told_low n block.none h = tt
  told_low n (block.more b bs) h = told_one n b (told bs) (h.0) (told_low n bs (h.1))

  told_one : (n : ℕ) (b : block.Block) (bs : block.Blocks) → IsLow n b → AreLow n bs → AreLow n (told_before b bs)
  told_one n block.Rule bs h k = (tt, k)
  told_one n (block.Heading l t) bs h k = (tt, k)
  told_one n (block.IndentedCode t) bs h k = (tt, k)
  told_one n (block.FencedCode i t) bs h k = (tt, k)
  told_one n (block.Html t) bs h k = (tt, k)
  told_one n (block.Definitions d) bs h k = k
  told_one n (block.Paragraph t) bs h k = (tt, k)
  told_one n (block.Quote q) bs h k = ((h.0, told_low (n - 1) q (h.1)), k)
  told_one n (block.BulletList s t is) bs h k = ((h.0, told_low (n - 1) is (h.1)), k)
  told_one n (block.OrderedList s x t is) bs h k = ((h.0, told_low (n - 1) is (h.1)), k)
  told_one n (block.Item i) bs h k = ((h.0, told_low (n - 1) i (h.1)), k)

-- a block of the tree is one of the reader's

abbrev low_if : ℕ → Option block.Block → Type 0
low_if n None = Unit {0}
low_if n (Some b) = IsLow n b

-- all of these are at depths up to this one, with what is in them
abbrev AreLowAt : ℕ → List Placed → Type 0
AreLowAt n ps = AllByRecursion (λ (p : Placed). (p.depth ≤ n) × low_if (n - p.depth) p.block) ps

abbrev AreUnder : ℕ → List Placed → Type 0
AreUnder d ps = AllByRecursion (λ (p : Placed). p.depth ≤ d) ps

falls_under : (d n : ℕ) (ps : List Placed) → n ≤ d → Falls n ps → AreUnder d ps
falls_under d n [] l h = tt
falls_under d n (p ∷ ps) l h = let a : p.depth ≤ n = h.0 in (omega (arith, a, l), falls_under d p.depth ps (omega (arith, a, l)) (h.1))

under_front : (d : ℕ) (xs ys : List Placed) → AreUnder d (xs ++ ys) → AreUnder d xs
under_front d [] ys h = tt
under_front d (x ∷ xs) ys h = (h.0, under_front d xs ys (h.1))

tree_under : (n d : ℕ) (ps : List Placed) → d ≤ n → AreUnder d ps → AreLow (n - d) (tree_of ps) → AreLowAt n ps
tree_under n d [] l u h = tt
tree_under n d (p ∷ ps) l u h = by p.block refl h (λ k. tree_under n d ps l (u.1) k)
  where
    under : p.depth ≤ d
    under = u.0

    deep : p.depth ≤ n
    deep = omega (arith, under, l)

    by : (o : Option block.Block) → p.block ≡ o → AreLow (n - d) (more_if o (tree_of ps)) → (AreLow (n - d) (tree_of ps) → AreLowAt n ps) → AreLowAt n (p ∷ ps)
    by None e k f = ((deep, subst (low_if (n - p.depth)) (sym e) tt), f k)
    by (Some b) e k f = ((deep, subst (low_if (n - p.depth)) (sym e) (one_more (n - d) (n - p.depth) b (omega (arith, under, l)) (k.0))), f (k.1))

-- a container: what is in it
container_low : (m : ℕ) (text : List ℕ) (loose : Bool) (s : Sort) (ps : List Piece) (bs : block.Blocks) (k : BlockKind) → sort_of k ≡ Some s → low_if m (block_as text k loose ps bs) → (1 ≤ m) × AreLow (m - 1) bs
container_low m text loose s ps bs (kind.Quote q) e h = h
container_low m text loose s ps bs (kind.List None) e h = h
container_low m text loose s ps bs (kind.List (Some n)) e h = h
container_low m text loose s ps bs kind.Item e h = h
container_low m text loose s ps bs kind.Paragraph e h = absurd cc
container_low m text loose s ps bs (kind.Heading l x) e h = absurd cc
container_low m text loose s ps bs kind.Indented e h = absurd cc
container_low m text loose s ps bs (kind.Fenced x y) e h = absurd cc
container_low m text loose s ps bs kind.Html e h = absurd cc
container_low m text loose s ps bs kind.Rule e h = absurd cc
container_low m text loose s ps bs (kind.Metadata x) e h = absurd cc
container_low m text loose s ps bs (kind.Footnote x y) e h = absurd cc
container_low m text loose s ps bs (kind.Table x y) e h = absurd cc
container_low m text loose s ps bs kind.TableHead e h = absurd cc
container_low m text loose s ps bs kind.TableRow e h = absurd cc
container_low m text loose s ps bs kind.TableCell e h = absurd cc
container_low m text loose s ps bs kind.DefinitionList e h = absurd cc
container_low m text loose s ps bs kind.DefinitionListTitle e h = absurd cc
container_low m text loose s ps bs kind.DefinitionListDefinition e h = absurd cc

-- the blocks after one, and those in it
put_low : (n : ℕ) (text : List ℕ) (pieces : List Piece) (path : List Outer) (at : ℕ) (b : ReadBlock) (rest : List Placed) → IsIn path (shape b) → Falls (length (after path at (shape b))) rest → AreLowAt n (put text pieces b rest) → (b.depth ≤ n) × AreLowAt n rest
put_low n text pieces path at b rest i falls h = by (sort_of b.kind) refl
  where
    within : List Placed
    within = inside b.depth rest

    deep : b.depth ≤ n
    deep = h.0.0

    low : low_if (n - b.depth) (block_as text b.kind b.loose (pieces_of pieces b) (tree_of within))
    low = h.0.1

    others : AreLowAt n (behind b.depth rest)
    others = h.1

    all_rest : AreLowAt n within → AreLowAt n rest
    all_rest w = subst (AreLowAt n) (both_parts b.depth rest) (all_both (λ (p : Placed). (p.depth ≤ n) × low_if (n - p.depth) p.block) within (behind b.depth rest) w others)

    front : length (take b.depth path) ≡ b.depth
    front = take_short b.depth path i.depth

    by : (o : Option Sort) → sort_of b.kind ≡ o → (b.depth ≤ n) × AreLowAt n rest
    by (Some s) e = (deep, all_rest (tree_under n (suc b.depth) within (omega (arith, deep, room)) under (low_more (n - b.depth - 1) (n - suc b.depth) (tree_of within) (omega arith) (both.1))))
      where
        both : (1 ≤ n - b.depth) × AreLow (n - b.depth - 1) (tree_of within)
        both = container_low (n - b.depth) text b.loose s (pieces_of pieces b) (tree_of within) b.kind e low

        room : 1 ≤ n - b.depth
        room = both.0

        under : AreUnder (suc b.depth) within
        under = under_front (suc b.depth) within (behind b.depth rest) (subst (AreUnder (suc b.depth)) (sym (both_parts b.depth rest)) (falls_under (suc b.depth) (length (after path at (shape b))) rest (long b.depth) falls))
          where
            long : (d : ℕ) → length (after path at (shape b)) ≤ suc b.depth
            long d = after_long path at (shape b) i
    by None e = (deep, all_rest (subst (AreLowAt n) (sym empty) tt))
      where
        short : length (after path at (shape b)) ≤ b.depth
        short = subst (λ (o : Option Sort). length (after_as (take b.depth path) at o) ≤ b.depth) (sym e) (omega (arith, front))

        empty : within ≡ []
        empty = inside_none b.depth rest (falls_less (length (after path at (shape b))) b.depth rest short falls)

flat_low : (n : ℕ) (text : List ℕ) (pieces : List Piece) (path : List Outer) (at : ℕ) (bs : List ReadBlock) → Nested path at (shapes bs) → AreLowAt n (placed_in text pieces bs) → AllByRecursion (λ (b : ReadBlock). b.depth ≤ n) bs
flat_low n text pieces path at [] k h = tt
flat_low n text pieces path at (b ∷ bs) k h =
    let both = put_low n text pieces path at b (placed_in text pieces bs) (k.0) (placed_falls text pieces (after path at (shape b)) (suc at) bs (k.1)) h in
    (both.0, flat_low n text pieces (after path at (shape b)) (suc at) bs (k.1) (both.1))

-- blocks whose tree is the declared one aren't deep
pub blocks-low : (text : List ℕ) (pieces : List Piece) (bs : List ReadBlock) → HasNoZero text → Nested [] 0 (shapes bs) → tree_of (placed_in text pieces bs) ≡ told (blocks_of text) → AllByRecursion (λ (b : ReadBlock). b.depth ≤ 2 * length text + 2) bs
blocks-low text pieces bs zeros nest e =
    flat_low (2 * length text + 2) text pieces [] 0 bs nest
    (tree_under (2 * length text + 2) 0 (placed_in text pieces bs) (omega arith) (falls_under 0 0 (placed_in text pieces bs) (omega arith) (placed_falls text pieces [] 0 bs nest))
    (subst (AreLow (2 * length text + 2 - 0)) (sym e) (low_more (2 * length text + 2) (2 * length text + 2 - 0) (told (blocks_of text)) (omega arith) (told_low (2 * length text + 2) (blocks_of text) (declared_low text zeros)))))

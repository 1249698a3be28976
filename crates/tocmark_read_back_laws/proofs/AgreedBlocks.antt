-- What is true of the tree of a text's blocks is true of each block: its words are those of plain parts, and both readers know its info
-- string.
use Rattle.std.proofs.Common.{◌≡◌, ℕ, suc, ◌+◌, ◌-◌, ◌^◌, ◌<◌, ◌≤◌, Bool, true, false, nat_le, ◌&&◌, if◌then◌else◌, List, [], ◌∷◌, ◌++◌, length, take, drop, slice_range, refl, sym, subst, ◌∙◌, arith, length-take, length-drop, true≢false}
use Rattle.std.specs.Prelude.{min, Option, Some, None}
use Rattle.std.specs.List.{AllByRecursion}
use Rattle.tocmark_read_scan.specs.Basic.{bytes_between}
use Rattle.tocmark_read_scan.specs.PlainParts.{Part, spelled}
use Rattle.tocmark_read_scan.specs.declared.syntax.Names.TheVariants.{Four, All}
use Rattle.tocmark_read_page.specs.declared.page.Block.{Block as ReadBlock}
use Rattle.tocmark_read_page.specs.declared.page.BlockKind.{BlockKind}
use Rattle.tocmark_read_page.specs.declared.page.BlockKind.TheVariants as kind
use Rattle.tocmark_read_page.specs.declared.piece.Piece.{Piece}
use Rattle.tocmark_read_inlines.proofs.PlainNeighbours.{ArePlainParts}
use Rattle.tocmark_reader.specs.Pages as pages
use Rattle.tocmark_reader.specs.Words.{info_text_in}
use Rattle.tocmark_commonmark.specs.Tree as block
use Rattle.tocmark_block_laws.specs.Quotes.{ends_with_feed}
use Rattle.tocmark_block_laws.specs.Trees.{leaf_text, block_as, paragraph_in, Placed, more_if, tree_of, pieces_of, put, placed_in}
use Rattle.tocmark_block_laws.proofs.Told.{leaf_as}
use Rattle.tocmark_standard_laws.specs.Contents.{HasNoZero}
use Rattle.tocmark_standard_laws.specs.Nesting.{Sort, sort_of, is_common, Outer, shape, IsIn, after_as, after, Nested}
use Rattle.tocmark_standard_laws.proofs.Contents.{contents-declared}
use Rattle.tocmark_standard_laws.proofs.Fitting.{shapes}
use Rattle.tocmark_standard_laws.proofs.FlatBlocks.{inside, behind, both_parts, Falls, falls_less, inside_none, take_short, placed_falls}
use Rattle.tocmark_standard_laws.proofs.LineBlocks.{same_pieces}
use Rattle.tocmark_read_back_laws.proofs.AlikeBlocks.{IsPlainLeaf, IsPlainKind, IsPlainBlock}

-- a text of plain parts
pub record IsPlainText (t : List ℕ) : Type 0 where
  pub parts : List Part
  pub is : t ≡ spelled parts
  pub plain : ArePlainParts 10 parts
  pub small : length (spelled parts) + 2 < 2 ^ 64
  pub ends : ends_with_feed t ≡ false

-- both readers know an info string
abbrev pub IsKnown : List ℕ → Type 0
IsKnown info = length info < 2 ^ 64 → info_text_in All info ≡ info_text_in Four info

-- the texts of paragraphs and headings have plain parts, and the info strings are known
abbrev mutual
  pub AreKnown : block.Blocks → Type 0
  AreKnown block.none = Unit {0}
  AreKnown (block.more b bs) = IsKnownBlock b × AreKnown bs

  pub IsKnownBlock : block.Block → Type 0
  IsKnownBlock block.Rule = Unit {0}
  IsKnownBlock (block.Heading l t) = IsPlainText t
  IsKnownBlock (block.IndentedCode t) = Unit {0}
  IsKnownBlock (block.FencedCode i t) = IsKnown i
  IsKnownBlock (block.Html t) = Unit {0}
  IsKnownBlock (block.Definitions d) = Unit {0}
  IsKnownBlock (block.Paragraph t) = IsPlainText t
  IsKnownBlock (block.Quote q) = AreKnown q
  IsKnownBlock (block.BulletList s t is) = AreKnown is
  IsKnownBlock (block.OrderedList s n t is) = AreKnown is
  IsKnownBlock (block.Item i) = AreKnown i

abbrev IsKnownIf : Option block.Block → Type 0
IsKnownIf None = Unit {0}
IsKnownIf (Some b) = IsKnownBlock b

-- the same of placed blocks
abbrev ArePlaced : List Placed → Type 0
ArePlaced ps = AllByRecursion (λ (p : Placed). IsKnownIf p.block) ps

tree_placed : (ps : List Placed) → AreKnown (tree_of ps) → ArePlaced ps
tree_placed [] h = tt
tree_placed (p ∷ ps) h = by p.block refl h (tree_placed ps)
  where
    by : (o : Option block.Block) → p.block ≡ o → AreKnown (more_if o (tree_of ps)) → (AreKnown (tree_of ps) → ArePlaced ps) → ArePlaced (p ∷ ps)
    by None e k f = (subst IsKnownIf (sym e) tt, f k)
    by (Some b) e k f = (subst IsKnownIf (sym e) (k.0), f (k.1))

placed_both : (xs ys : List Placed) → ArePlaced xs → ArePlaced ys → ArePlaced (xs ++ ys)
placed_both [] ys h k = k
placed_both (x ∷ xs) ys h k = (h.0, placed_both xs ys (h.1) k)

-- a container: its own, and what is in it
container_known : (text : List ℕ) (loose : Bool) (s : Sort) (ps : List Piece) (bs : block.Blocks) (k : BlockKind) → sort_of k ≡ Some s → IsKnownIf (block_as text k loose ps bs) → IsKnownIf (block_as text k loose ps block.none) × AreKnown bs
container_known text loose s ps bs (kind.Quote q) e h = (tt, h)
container_known text loose s ps bs (kind.List None) e h = (tt, h)
container_known text loose s ps bs (kind.List (Some n)) e h = (tt, h)
container_known text loose s ps bs kind.Item e h = (tt, h)
container_known text loose s ps bs kind.Paragraph e h = absurd cc
container_known text loose s ps bs (kind.Heading l x) e h = absurd cc
container_known text loose s ps bs kind.Indented e h = absurd cc
container_known text loose s ps bs (kind.Fenced x y) e h = absurd cc
container_known text loose s ps bs kind.Html e h = absurd cc
container_known text loose s ps bs kind.Rule e h = absurd cc
container_known text loose s ps bs (kind.Metadata x) e h = absurd cc
container_known text loose s ps bs (kind.Footnote x y) e h = absurd cc
container_known text loose s ps bs (kind.Table x y) e h = absurd cc
container_known text loose s ps bs kind.TableHead e h = absurd cc
container_known text loose s ps bs kind.TableRow e h = absurd cc
container_known text loose s ps bs kind.TableCell e h = absurd cc
container_known text loose s ps bs kind.DefinitionList e h = absurd cc
container_known text loose s ps bs kind.DefinitionListTitle e h = absurd cc
container_known text loose s ps bs kind.DefinitionListDefinition e h = absurd cc

-- the blocks after one, and those in it
put_known : (text : List ℕ) (pieces : List Piece) (path : List Outer) (at : ℕ) (b : ReadBlock) (rest : List Placed) → IsIn path (shape b) → Falls (length (after path at (shape b))) rest → ArePlaced (put text pieces b rest) → IsKnownIf (leaf_as text pieces b) × ArePlaced rest
put_known text pieces path at b rest i falls h = by (sort_of b.kind) refl
  where
    within : List Placed
    within = inside b.depth rest

    others : ArePlaced (behind b.depth rest)
    others = h.1

    all_rest : ArePlaced within → ArePlaced rest
    all_rest w = subst ArePlaced (both_parts b.depth rest) (placed_both within (behind b.depth rest) w others)

    by : (o : Option Sort) → sort_of b.kind ≡ o → IsKnownIf (leaf_as text pieces b) × ArePlaced rest
    by (Some s) e =
        let both = container_known text b.loose s (pieces_of pieces b) (tree_of within) b.kind e (h.0) in
        (both.0, all_rest (tree_placed within (both.1)))
    by None e = (subst (λ (xs : List Placed). IsKnownIf (block_as text b.kind b.loose (pieces_of pieces b) (tree_of xs))) empty (h.0), all_rest (subst ArePlaced (sym empty) tt))
      where
        short : length (after path at (shape b)) ≤ b.depth
        short = subst (λ (o : Option Sort). length (after_as (take b.depth path) at o) ≤ b.depth) (sym e) (let q : length (take b.depth path) ≡ b.depth = take_short b.depth path i.depth in omega (arith, q))

        empty : within ≡ []
        empty = inside_none b.depth rest (falls_less (length (after path at (shape b))) b.depth rest short falls)

-- words

between_short : (text : List ℕ) (i j : ℕ) → length (bytes_between text i j) ≤ length text
between_short text i j = by (nat_le i j && nat_le j (length text))
  where
    by : (k : Bool) → length (if k then slice_range text i j else []) ≤ length text
    by true = let a : length (take (j - i) (drop i text)) ≡ min (j - i) (length (drop i text)) = length-take (j - i) (drop i text) in let b : length (drop i text) ≡ length text - i = length-drop i text in omega (arith, a, b)
    by false = omega arith

words_known : (text : List ℕ) (ps : List Piece) → IsKnownIf (paragraph_in text ps) → IsPlainText (leaf_text text ps)
words_known text [] h = record { parts = []; is = refl; plain = tt; small = omega arith; ends = refl }
words_known text (p ∷ ps) h = h

leaf_plain : (text : List ℕ) (pieces : List Piece) (b : ReadBlock) → HasNoZero text → b.last ≤ length pieces → IsPlainText (leaf_text text (pieces_of pieces b)) → IsPlainLeaf text (pages.pieces_of pieces b.first b.last)
leaf_plain text pieces b zeros last h =
    let ps : List Piece = pieces_of pieces b in
    subst (IsPlainLeaf text) (sym (same_pieces pieces b last)) (record {
      parts = h.parts;
      bytes = contents-declared text ps zeros h.ends ∙ h.is;
      plain = h.plain;
      small = h.small;
    })

-- a block of CommonMark
block_plain : (text : List ℕ) (pieces : List Piece) (b : ReadBlock) → HasNoZero text → length text + 3 < 2 ^ 64 → (k : BlockKind) → is_common k ≡ true → (sort_of k ≡ None → b.last ≤ length pieces) → IsKnownIf (block_as text k b.loose (pieces_of pieces b) block.none) → IsPlainKind text (pages.pieces_of pieces b.first b.last) k
block_plain text pieces b zeros small (kind.Quote q) common last h = tt
block_plain text pieces b zeros small (kind.List first) common last h = tt
block_plain text pieces b zeros small kind.Item common last h = tt
block_plain text pieces b zeros small kind.Paragraph common last h = leaf_plain text pieces b zeros (last refl) (words_known text (pieces_of pieces b) h)
block_plain text pieces b zeros small (kind.Heading level braces) common last h = leaf_plain text pieces b zeros (last refl) h
block_plain text pieces b zeros small kind.Indented common last h = tt
block_plain text pieces b zeros small (kind.Fenced from to) common last h = h (let short : length (bytes_between text from to) ≤ length text = between_short text from to in omega (arith, short, small))
block_plain text pieces b zeros small kind.Html common last h = tt
block_plain text pieces b zeros small kind.Rule common last h = tt
block_plain text pieces b zeros small (kind.Metadata x) common last h = absurd (true≢false (sym common))
block_plain text pieces b zeros small (kind.Footnote x y) common last h = absurd (true≢false (sym common))
block_plain text pieces b zeros small (kind.Table x y) common last h = absurd (true≢false (sym common))
block_plain text pieces b zeros small kind.TableHead common last h = absurd (true≢false (sym common))
block_plain text pieces b zeros small kind.TableRow common last h = absurd (true≢false (sym common))
block_plain text pieces b zeros small kind.TableCell common last h = absurd (true≢false (sym common))
block_plain text pieces b zeros small kind.DefinitionList common last h = absurd (true≢false (sym common))
block_plain text pieces b zeros small kind.DefinitionListTitle common last h = absurd (true≢false (sym common))
block_plain text pieces b zeros small kind.DefinitionListDefinition common last h = absurd (true≢false (sym common))

flat_plain : (text : List ℕ) (pieces : List Piece) (path : List Outer) (at : ℕ) (bs : List ReadBlock) → HasNoZero text → length text + 3 < 2 ^ 64 → Nested path at (shapes bs) → AllByRecursion (λ (b : ReadBlock). sort_of b.kind ≡ None → b.last ≤ length pieces) bs → ArePlaced (placed_in text pieces bs) → AllByRecursion (IsPlainBlock text pieces) bs
flat_plain text pieces path at [] zeros small n lasts h = tt
flat_plain text pieces path at (b ∷ bs) zeros small n lasts h =
    let both = put_known text pieces path at b (placed_in text pieces bs) (n.0) (placed_falls text pieces (after path at (shape b)) (suc at) bs (n.1)) h in
    (block_plain text pieces b zeros small b.kind ((n.0).common) (lasts.0) (both.0), flat_plain text pieces (after path at (shape b)) (suc at) bs zeros small (n.1) (lasts.1) (both.1))

-- the blocks of a tree that is known
pub blocks_plain : (text : List ℕ) (pieces : List Piece) (bs : List ReadBlock) → HasNoZero text → length text + 3 < 2 ^ 64 → Nested [] 0 (shapes bs) → AllByRecursion (λ (b : ReadBlock). sort_of b.kind ≡ None → b.last ≤ length pieces) bs → AreKnown (tree_of (placed_in text pieces bs)) → AllByRecursion (IsPlainBlock text pieces) bs
blocks_plain text pieces bs zeros small n lasts h = flat_plain text pieces [] 0 bs zeros small n lasts (tree_placed (placed_in text pieces bs) h)

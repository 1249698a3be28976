-- The blocks that are declared of the lines of trees without lists, by recursion on the trees.
use Rattle.std.proofs.Common.{◌≡◌, ℕ, zero, suc, ◌+◌, ◌-◌, ◌^◌, ◌<◌, ◌≤◌, List, [], ◌∷◌, ◌++◌, length, map, replicate, refl, ap, sym, subst, ◌∙◌, arith, append_assoc, append-nil}
use Rattle.std.specs.Prelude.{None}
use Rattle.std.specs.List.{AllByRecursion}
use Rattle.tocmark_event.specs.Options.{OptionsView}
use Rattle.tocmark_event.specs.declared.event.flags.ParserOptions.{ParserOptions}
use Rattle.tocmark_read_blocks.proofs.PlainLines.{IsWithin}
use Rattle.tocmark_read_lines.specs.declared.beginnings.Fence.{Fence}
use Rattle.tocmark_read_lines.specs.declared.beginnings.Heading.{Heading as HeadingMark}
use Rattle.tocmark_commonmark.specs.Beginnings.{Beginning, HeadingLine, FenceLine, RuleLine, TextLine, beginning}
use Rattle.tocmark_commonmark.specs.Blocks.{first_block, blocks_from, blocks, blocks_of}
use Rattle.tocmark_commonmark.specs.Lines.{Line}
use Rattle.tocmark_commonmark.specs.Tree as read
use Rattle.tocmark_commonmark.specs.Tree.{Found, taken}
use Rattle.tocmark_laws.specs.Documents.{PlainBlock, PlainParagraph, PlainHeading, PlainRule, PlainCode}
use Rattle.tocmark_document_laws.specs.Blocks.{Blocks, Nothing, PlainThen, QuoteThen, BulletsThen, ItemThen}
use Rattle.tocmark_document_laws.specs.DocumentLines.{How, Outside, Beside, Below, block_lines, document_lines, feeds_below, feeds_below_quote, gap_lines, joined, layout, no_lists, quoted}
use Rattle.tocmark_document_laws.specs.ReadBack.{HasNoList}
use Rattle.tocmark_document_laws.proofs.ReadBackLines.{lines_below, front_lines, same_front}
use Rattle.tocmark_layout_laws.specs.Declared.{declared_block, declared, declared_tree}
use Rattle.tocmark_layout_laws.proofs.Starts.{line_at, lines_at, lines_both, empty_blank, deeper, Stops, Becomes, nothing_becomes, blank_before, leaf_before, quote_before}
use Rattle.tocmark_layout_laws.proofs.Fronts.{Inky}
use Rattle.tocmark_layout_laws.proofs.Bullets.{IsBullet, IsNoRule}
use Rattle.tocmark_layout_laws.proofs.Texts.{IsBare, AreBare, LinesBare, Ends, ends_behind, joined_is, text_declared, AreShort, text_short, all_both, all_front, all_behind}

-- lines before which a plain block ends: any but for a paragraph
abbrev pub Before : PlainBlock → List Line → Type 0
Before (PlainParagraph l ms) rest = Stops rest
Before (PlainHeading level ts) rest = Unit {0}
Before PlainRule rest = Unit {0}
Before (PlainCode info lines) rest = Unit {0}

-- a thematic break is none of these
abbrev pub IsNotRule : PlainBlock → Type 0
IsNotRule (PlainParagraph l ms) = Unit {0}
IsNotRule (PlainHeading level ts) = Unit {0}
IsNotRule PlainRule = ⊥
IsNotRule (PlainCode info lines) = Unit {0}

-- what the first line of a plain block begins
abbrev pub BeginsAs : PlainBlock → Beginning → Type 0
BeginsAs (PlainParagraph l ms) b = b ≡ TextLine
BeginsAs (PlainHeading level ts) b = (h : HeadingMark) × (b ≡ HeadingLine h)
BeginsAs PlainRule b = b ≡ RuleLine
BeginsAs (PlainCode info lines) b = (f : Fence) × (b ≡ FenceLine f)

-- a plain block is declared of its lines, the first of which may begin at another column
pub record Declares (o : OptionsView) (flags : ParserOptions) (b : PlainBlock) : Type 0 where
  pub first : List ℕ
  pub more : List (List ℕ)
  pub is : block_lines o flags b ≡ first ∷ more
  pub bare : LinesBare (first ∷ more)
  pub ends : Ends (first ∷ more)
  pub found : ℕ → Found
  pub inked : Inky first
  pub within : AllByRecursion IsWithin first
  pub breaks : IsNotRule b → (bullet : ℕ) → IsBullet bullet → IsNoRule bullet first
  pub begins : AreShort (2 ^ 64) (first ∷ more) → (k : ℕ) → BeginsAs b (beginning (line_at k first))
  pub places : (at : ℕ) → ((found at).first ≡ at) × ((found at).last + 1 ≡ at + suc (length more))
  pub takes : AreShort (2 ^ 64) (first ∷ more) → (bs : List Line → List Found) (at j k : ℕ) (rest : List Line) → Before b rest
      → first_block bs at (line_at j first) (lines_at k more ++ rest) (beginning (line_at j first)) ≡ taken (found at) (suc (length (lines_at k more)))
  pub shown : (at : ℕ) → (found at).block ≡ declared_block o flags b

lines_split : (k : ℕ) (gap body rest : List (List ℕ)) → lines_at k (gap ++ body ++ rest) ≡ lines_at k gap ++ (lines_at k body ++ lines_at k rest)
lines_split k gap body rest =
    lines_both k (gap ++ body) rest
    ∙ ap (λ (ls : List Line). ls ++ lines_at k rest) (lines_both k gap body)
    ∙ append_assoc (lines_at k gap) (lines_at k body) (lines_at k rest)

gap_before : (j k : ℕ) (ls : List Line) (t : read.Blocks) → Becomes ls t → Becomes (lines_at k (replicate j []) ++ ls) t
gap_before zero k ls t h = h
gap_before (suc j) k ls t h = blank_before (line_at k []) (lines_at k (replicate j []) ++ ls) t (empty_blank k) (gap_before j k ls t h)

gap_two : (n : ℕ) → gap_lines (suc (suc n)) ≡ [] ∷ replicate n []
gap_two n = ap (λ j. replicate j []) (let q : suc (suc n) - 1 ≡ suc n = omega arith in q)

pub gap_bare : (n : ℕ) → LinesBare (replicate n [])
gap_bare zero = tt
gap_bare (suc n) = (tt, gap_bare n)

space_bare : IsBare 32
space_bare = record { feed = refl; return = refl; zero_byte = refl }

pub quoted_bare : (ls : List (List ℕ)) → LinesBare ls → LinesBare (map quoted ls)
quoted_bare [] h = tt
quoted_bare (l ∷ ls) h = ((space_bare, (record { feed = refl; return = refl; zero_byte = refl }, (space_bare, h.0))), quoted_bare ls (h.1))

pub quoted_ends : (l : List ℕ) (ls : List (List ℕ)) → Ends (map quoted (l ∷ ls))
quoted_ends l [] = omega arith
quoted_ends l (m ∷ ms) = quoted_ends m ms

pub quoted_short : (n : ℕ) (ls : List (List ℕ)) → AreShort n (map quoted ls) → AreShort n ls
quoted_short n [] h = tt
quoted_short n (l ∷ ls) h = (let a : length (quoted l) < n = h.0 in omega (arith, a), quoted_short n ls (h.1))

module _ (o : OptionsView) (flags : ParserOptions) where
  abbrev below : ℕ → Blocks → List (List ℕ)
  below n f = lines_below o flags n f

  -- the blocks without lists whose plain blocks are declared of their lines
  abbrev pub AllDeclared : Blocks → Type 0
  AllDeclared Nothing = Unit {0}
  AllDeclared (PlainThen b f) = Declares o flags b × AllDeclared f
  AllDeclared (QuoteThen kids f) = AllDeclared kids × AllDeclared f
  AllDeclared (BulletsThen items f) = ⊥
  AllDeclared (ItemThen kids f) = ⊥

  -- their tree
  abbrev plain_tree : Blocks → read.Blocks
  plain_tree Nothing = read.none
  plain_tree (PlainThen b f) = read.more (declared_block o flags b) (plain_tree f)
  plain_tree (QuoteThen kids f) = read.more (read.Quote (plain_tree kids)) (plain_tree f)
  plain_tree (BulletsThen items f) = read.none
  plain_tree (ItemThen kids f) = read.none

  tree_is : (c : Outside) (how : How) (f : Blocks) → AllDeclared f → declared o flags c how f ≡ plain_tree f
  tree_is c how Nothing h = refl
  tree_is c how (PlainThen b f) h = ap (read.more (declared_block o flags b)) (tree_is c (Below (feeds_below o b) None) f (h.1))
  tree_is c how (QuoteThen kids f) h =
      ap (λ ts. read.more (read.Quote ts) (declared o flags c (Below (feeds_below_quote o) None) f)) (tree_is c Beside kids (h.0))
      ∙ ap (read.more (read.Quote (plain_tree kids))) (tree_is c (Below (feeds_below_quote o) None) f (h.1))
  tree_is c how (BulletsThen items f) h = absurd h
  tree_is c how (ItemThen kids f) h = absurd h

  -- blocks two line feeds or more below others are below an empty line
  stops_two : (n k : ℕ) (f : Blocks) → AllDeclared f → Stops (lines_at k (below (suc (suc n)) f))
  stops_two n k Nothing h = tt
  stops_two n k (PlainThen b f) h = subst (λ (g : List (List ℕ)). Stops (lines_at k (g ++ block_lines o flags b ++ below (feeds_below o b) f))) (sym (gap_two n)) (empty_blank k)
  stops_two n k (QuoteThen kids f) h = subst (λ (g : List (List ℕ)). Stops (lines_at k (g ++ map quoted ([] ∷ below 1 kids) ++ below (feeds_below_quote o) f))) (sym (gap_two n)) (empty_blank k)
  stops_two n k (BulletsThen items f) h = absurd h
  stops_two n k (ItemThen kids f) h = absurd h

  stops_below : (n k : ℕ) (f : Blocks) → 2 ≤ n → AllDeclared f → Stops (lines_at k (below n f))
  stops_below n k f two h = subst (λ m. Stops (lines_at k (below m f))) (let q : suc (suc (n - 2)) ≡ n = omega (arith, two) in q) (stops_two (n - 2) k f h)

  before_rest : (b : PlainBlock) (k : ℕ) (f : Blocks) → AllDeclared f → Before b (lines_at k (below (feeds_below o b) f))
  before_rest (PlainParagraph l ms) k f h = stops_below (feeds_below o (PlainParagraph l ms)) k f (omega arith) h
  before_rest (PlainHeading level ts) k f h = tt
  before_rest PlainRule k f h = tt
  before_rest (PlainCode info lines) k f h = tt

  -- what lines of trees become
  all_become : (n k : ℕ) (f : Blocks) → AllDeclared f → AreShort (2 ^ 64) (below n f) → Becomes (lines_at k (below n f)) (plain_tree f)
  all_become n k Nothing h small = nothing_becomes
  all_become n k (PlainThen b f) h small =
      let s = h.0 in
      let rest : List (List ℕ) = below (feeds_below o b) f in
      let short : AreShort (2 ^ 64) (block_lines o flags b) = all_behind _ (gap_lines n) (block_lines o flags b) (all_front _ (gap_lines n ++ block_lines o flags b) rest small) in
      let more = all_become (feeds_below o b) k f (h.1) (all_behind _ (gap_lines n ++ block_lines o flags b) rest small) in
      subst (λ (ls : List Line). Becomes ls (plain_tree (PlainThen b f)))
      (sym (lines_split k (gap_lines n) (block_lines o flags b) rest ∙ ap (λ (ls : List (List ℕ)). lines_at k (gap_lines n) ++ (lines_at k ls ++ lines_at k rest)) s.is))
      (gap_before (n - 1) k (lines_at k (s.first ∷ s.more) ++ lines_at k rest) (plain_tree (PlainThen b f))
      (leaf_before (line_at k s.first) (lines_at k s.more) (lines_at k rest) s.found (declared_block o flags b) (plain_tree f)
      (λ bs at. s.takes (subst (AreShort (2 ^ 64)) s.is short) bs at k k (lines_at k rest) (before_rest b k f (h.1))) s.shown more))
  all_become n k (QuoteThen kids f) h small =
      let body : List (List ℕ) = map quoted ([] ∷ below 1 kids) in
      let rest : List (List ℕ) = below (feeds_below_quote o) f in
      let short : AreShort (2 ^ 64) body = all_behind _ (gap_lines n) body (all_front _ (gap_lines n ++ body) rest small) in
      let inside = all_become 1 (deeper k) kids (h.0) ((quoted_short (2 ^ 64) ([] ∷ below 1 kids) short).1) in
      let more = all_become (feeds_below_quote o) k f (h.1) (all_behind _ (gap_lines n ++ body) rest small) in
      subst (λ (ls : List Line). Becomes ls (plain_tree (QuoteThen kids f))) (sym (lines_split k (gap_lines n) body rest))
      (gap_before (n - 1) k (lines_at k body ++ lines_at k rest) (plain_tree (QuoteThen kids f))
      (quote_before k [] (below 1 kids) (lines_at k rest) (plain_tree kids) (plain_tree f) (stops_below (feeds_below_quote o) k f (omega arith) (h.1))
      (blank_before (line_at (deeper k) []) (lines_at (deeper k) (below 1 kids)) (plain_tree kids) (empty_blank (deeper k)) inside) more))
  all_become n k (BulletsThen items f) h small = absurd h
  all_become n k (ItemThen kids f) h small = absurd h

  -- bytes of these lines
  all_bare : (n : ℕ) (f : Blocks) → AllDeclared f → LinesBare (below n f)
  all_bare n Nothing h = tt
  all_bare n (PlainThen b f) h =
      all_both AreBare (gap_lines n ++ block_lines o flags b) (below (feeds_below o b) f)
      (all_both AreBare (gap_lines n) (block_lines o flags b) (gap_bare (n - 1)) (subst LinesBare (sym (h.0).is) (h.0).bare))
      (all_bare (feeds_below o b) f (h.1))
  all_bare n (QuoteThen kids f) h =
      all_both AreBare (gap_lines n ++ map quoted ([] ∷ below 1 kids)) (below (feeds_below_quote o) f)
      (all_both AreBare (gap_lines n) (map quoted ([] ∷ below 1 kids)) (gap_bare (n - 1)) (quoted_bare ([] ∷ below 1 kids) (tt, all_bare 1 kids (h.0))))
      (all_bare (feeds_below_quote o) f (h.1))
  all_bare n (BulletsThen items f) h = absurd h
  all_bare n (ItemThen kids f) h = absurd h

  -- the last line has a byte
  rest_ends : (xs : List (List ℕ)) (n : ℕ) (f : Blocks) → Ends xs → AllDeclared f → Ends (xs ++ below n f)
  rest_ends xs n Nothing e h = subst Ends (sym (append-nil xs)) e
  rest_ends xs n (PlainThen b f) e h =
      let s = h.0 in
      let body : List (List ℕ) = gap_lines n ++ block_lines o flags b in
      subst Ends (append_assoc xs body (below (feeds_below o b) f))
      (rest_ends (xs ++ body) (feeds_below o b) f (ends_behind xs body (ends_behind (gap_lines n) (block_lines o flags b) (subst Ends (sym s.is) s.ends))) (h.1))
  rest_ends xs n (QuoteThen kids f) e h =
      let lines : List (List ℕ) = map quoted ([] ∷ below 1 kids) in
      let body : List (List ℕ) = gap_lines n ++ lines in
      subst Ends (append_assoc xs body (below (feeds_below_quote o) f))
      (rest_ends (xs ++ body) (feeds_below_quote o) f (ends_behind xs body (ends_behind (gap_lines n) lines (quoted_ends [] (below 1 kids)))) (h.1))
  rest_ends xs n (BulletsThen items f) e h = absurd h
  rest_ends xs n (ItemThen kids f) e h = absurd h

  plain_ends : (n : ℕ) (b : PlainBlock) (f : Blocks) → AllDeclared (PlainThen b f) → Ends (below n (PlainThen b f))
  plain_ends n b f h = rest_ends (gap_lines n ++ block_lines o flags b) (feeds_below o b) f (ends_behind (gap_lines n) (block_lines o flags b) (subst Ends (sym (h.0).is) (h.0).ends)) (h.1)

  quote_ends : (n : ℕ) (kids f : Blocks) → AllDeclared (QuoteThen kids f) → Ends (below n (QuoteThen kids f))
  quote_ends n kids f h = rest_ends (gap_lines n ++ map quoted ([] ∷ below 1 kids)) (feeds_below_quote o) f (ends_behind (gap_lines n) (map quoted ([] ∷ below 1 kids)) (quoted_ends [] (below 1 kids))) (h.1)

  -- the lines of a document
  record Fits (ls : List (List ℕ)) (t : read.Blocks) : Type 0 where
    bare : LinesBare ls
    ends : Ends ls
    become : AreShort (2 ^ 64) ls → Becomes (lines_at 0 ls) t

  fits_below : (f : Blocks) → AllDeclared f → Ends (below 1 f) → Fits (below 1 f) (plain_tree f)
  fits_below f h e = record { bare = all_bare 1 f h; ends = e; become = λ small. all_become 1 0 f h small }

  fits_empty : (f : Blocks) → AllDeclared f → Ends (below 1 f) → Fits ([] ∷ below 1 f) (plain_tree f)
  fits_empty f h e = record {
    bare = (tt, all_bare 1 f h);
    ends = ends_behind ([] ∷ []) (below 1 f) e;
    become = λ small. blank_before (line_at 0 []) (lines_at 0 (below 1 f)) (plain_tree f) (empty_blank 0) (all_become 1 0 f h (small.1));
  }

  text_becomes : (ls : List (List ℕ)) (t : read.Blocks) → Fits ls t → length (joined ls) < 2 ^ 64 → blocks_of (joined ls) ≡ t
  text_becomes ls t h small = text_declared ls t h.bare h.ends (h.become (text_short (2 ^ 64) ls (subst (λ (x : List ℕ). length x < 2 ^ 64) (joined_is ls) small)))

  front_becomes : (f : Blocks) → AllDeclared f → length (joined (front_lines o flags f)) < 2 ^ 64 → blocks_of (joined (front_lines o flags f)) ≡ plain_tree f
  unfolding blocks_of blocks blocks_from
  front_becomes Nothing h small = refl
  front_becomes (QuoteThen kids f) h small = text_becomes _ _ (fits_empty (QuoteThen kids f) h (quote_ends 1 kids f h)) small
  front_becomes (PlainThen (PlainCode info lines) f) h small = text_becomes _ _ (fits_empty (PlainThen (PlainCode info lines) f) h (plain_ends 1 (PlainCode info lines) f h)) small
  front_becomes (PlainThen (PlainParagraph l ms) f) h small = text_becomes _ _ (fits_below (PlainThen (PlainParagraph l ms) f) h (plain_ends 1 (PlainParagraph l ms) f h)) small
  front_becomes (PlainThen (PlainHeading level ts) f) h small = text_becomes _ _ (fits_below (PlainThen (PlainHeading level ts) f) h (plain_ends 1 (PlainHeading level ts) f h)) small
  front_becomes (PlainThen PlainRule f) h small = text_becomes _ _ (fits_below (PlainThen PlainRule f) h (plain_ends 1 PlainRule f h)) small
  front_becomes (BulletsThen items f) h small = absurd h
  front_becomes (ItemThen kids f) h small = absurd h

  -- the layout of blocks whose plain blocks are declared of their lines
  pub layout_declared : (f : Blocks) → HasNoList f → AllDeclared f → length (layout o flags f) < 2 ^ 64 → blocks_of (layout o flags f) ≡ declared_tree o flags f
  layout_declared f q h small =
      let same : document_lines o flags f ≡ front_lines o flags f = same_front o flags f q in
      ap (λ (ls : List (List ℕ)). blocks_of (joined ls)) same
      ∙ front_becomes f h (subst (λ (ls : List (List ℕ)). length (joined ls) < 2 ^ 64) same small)
      ∙ sym (tree_is no_lists Beside f h)

-- Texts whose blocks are those that are declared are read as the events that are declared.
use Rattle.std.proofs.Common.{◌≡◌, ℕ, suc, ◌+◌, ◌*◌, ◌^◌, ◌<◌, ◌≤◌, ◌⊎◌, inl, inr, Bool, true, false, not, ◌&&◌, ◌||◌, nat_lt, List, [], ◌∷◌, ◌++◌, length, map, take, append-nil, refl, ap, sym, ◌∙◌, subst, arith, true≢false}
use Rattle.std.specs.Prelude.{Option, Some, None}
use Rattle.std.specs.List.{flat_map, list_any, list_all, AllByRecursion}
use Rattle.std.specs.Str.{IsUtf8}
use Rattle.std.proofs.lemmas.Bool.Decides.{nat_tests}
use Rattle.tocmark_event.specs.View.{EventView}
use Rattle.tocmark_read_scan.proofs.PlainTests.{both_true, is_not, one_of_two}
use Rattle.tocmark_read_scan.specs.declared.syntax.Names.TheVariants.{All}
use Rattle.tocmark_read_scan.specs.declared.syntax.TheConstants.{CORE}
use Rattle.tocmark_read_page.specs.declared.page.Block.{Block as ReadBlock}
use Rattle.tocmark_read_page.specs.declared.page.BlockKind.{BlockKind}
use Rattle.tocmark_read_page.specs.declared.page.BlockKind.TheVariants as kind
use Rattle.tocmark_read_page.specs.declared.piece.Piece.{Piece as Line}
use Rattle.tocmark_read_blocks.specs.Blocks.{BlocksView, blocks_in}
use Rattle.tocmark_reader.specs.Emitted.{NodeView, emitted}
use Rattle.tocmark_reader.specs.Pages.{content_line, start_state, assembled_in}
use Rattle.tocmark_reader.specs.Reading.{found_under, reading_of}
use Rattle.tocmark_commonmark.specs.Beginnings.{beginning}
use Rattle.tocmark_commonmark.specs.Blocks.{blocks_of, size}
use Rattle.tocmark_commonmark.specs.Events.{events_of}
use Rattle.tocmark_commonmark.specs.Lines.{lines_of}
use Rattle.tocmark_commonmark.specs.Links.{Destination}
use Rattle.tocmark_commonmark.specs.Tree as block
use Rattle.tocmark_commonmark.specs.Tree.{defined}
use Rattle.tocmark_block_laws.specs.Lists.{are_nested, are_short_lines, has_one_line_blocks, has_plain_lists}
use Rattle.tocmark_block_laws.specs.Quotes.{Agrees, is_special, IsPlain, ends_with_feed, is_leaf, content_of, is_covered}
use Rattle.tocmark_block_laws.specs.Trees.{leaf_text, told, told_before, block_as, Placed, more_if, tree_of, pieces_of, put, placed_in, read_tree}
use Rattle.tocmark_block_laws.proofs.ListTexts.{lists-declared}
use Rattle.tocmark_block_laws.proofs.NamedBlocks.{names-change-none}
use Rattle.tocmark_block_laws.proofs.NestedTexts.{nested-lists-declared}
use Rattle.tocmark_block_laws.proofs.Read.{quotes-declared}
use Rattle.tocmark_block_laws.proofs.Told.{leaf_as}
use Rattle.tocmark_inline_laws.specs.Said.{commonmark, Piece}
use Rattle.tocmark_inline_laws.specs.Statement.{LeadAlike}
use Rattle.tocmark_standard_laws.specs.Contents.{HasNoZero}
use Rattle.tocmark_standard_laws.specs.Labels.{collected_of, entry_in, destinations_of}
use Rattle.tocmark_standard_laws.specs.Lettered.{lettered, as_text}
use Rattle.tocmark_standard_laws.specs.Nesting.{Sort, sort_of, Outer, shape, IsIn, after_as, after, Nested}
use Rattle.tocmark_standard_laws.specs.CoveredTexts.{IsAgreedText, CoveredTextsAreReadAsDeclared, AgreedTextsAreReadAsDeclared, events_read}
use Rattle.tocmark_standard_laws.proofs.Ended.{events-said, ended_as_text}
use Rattle.tocmark_standard_laws.proofs.Fitting.{shapes}
use Rattle.tocmark_standard_laws.proofs.FitWalk.{Found, found_fits}
use Rattle.tocmark_standard_laws.proofs.FlatBlocks.{inside, behind, both_parts, Falls, falls_less, inside_none, take_short, placed_falls, tree-said}
use Rattle.tocmark_standard_laws.proofs.Labels.{agreed_leads}
use Rattle.tocmark_standard_laws.proofs.LeafPlaces.{IsCutLine, IsSource}
use Rattle.tocmark_standard_laws.proofs.LeafShown.{leaf_shown, pieces_cut, lines_cut}
use Rattle.tocmark_standard_laws.proofs.Leaves.{no_zero}
use Rattle.tocmark_standard_laws.proofs.LineBlocks.{IsWhole, IsText, IsKept, has_words, is_html_fed, Looks, LeafShows, IsPlainBlock, Adds, all_part, blocks_add}
use Rattle.tocmark_standard_laws.specs.SaidBlocks.{blocks_said, one_said}
use Rattle.tocmark_standard_laws.specs.Ended.{ended, node_shows, IsSome}
use Rattle.tocmark_standard_laws.proofs.SaidBlocks.{told_said}
use Rattle.tocmark_standard_laws.proofs.Shown.{nodes_emitted}
use Rattle.tocmark_standard_laws.proofs.WellBlocks.{is_html_text, IsWellText, AreWell, IsWell, blocks-well}
use Rattle.tocmark_standard_laws.proofs.LowBlocks.{blocks-low}
use Rattle.tocmark_standard_laws.proofs.WholeLines.{lines_give, pieces_text}

-- so many containers and bytes are few, with those of this text
abbrev is_short_text : ℕ → List ℕ → Bool
is_short_text count t = nat_lt (count + length t + 4) (2 ^ 64)

-- blocks whose leaves are clear: a text of a paragraph or a heading is short and doesn't end with a line feed, and HTML does
abbrev is_clear_text : ℕ → List ℕ → Bool
is_clear_text count t = is_short_text count t && not (ends_with_feed t)

abbrev mutual
  are_clear : ℕ → block.Blocks → Bool
  are_clear count block.none = true
  are_clear count (block.more b bs) = is_clear count b && are_clear count bs

  is_clear : ℕ → block.Block → Bool
  is_clear count block.Rule = true
  is_clear count (block.Heading l t) = is_clear_text count t
  is_clear count (block.IndentedCode t) = true
  is_clear count (block.FencedCode i t) = true
  is_clear count (block.Html t) = is_html_text t
  is_clear count (block.Definitions d) = true
  is_clear count (block.Paragraph t) = is_clear_text count t
  is_clear count (block.Quote q) = are_clear count q
  is_clear count (block.BulletList s t is) = are_clear count is
  is_clear count (block.OrderedList s n t is) = are_clear count is
  is_clear count (block.Item i) = are_clear count i

both_so : (a b : Bool) → a ≡ true → b ≡ true → (a && b) ≡ true
both_so true true h k = refl
both_so true false h k = k
both_so false b h k = h

-- all declared blocks are well, so those of a short text are clear
text_clear : (n count : ℕ) (t : List ℕ) → n + count + 4 < 2 ^ 64 → IsWellText n t → is_clear_text count t ≡ true
text_clear n count t k w = both_so (is_short_text count t) (not (ends_with_feed t)) (let l : length t ≤ n = w.1 in let short : count + length t + 4 < 2 ^ 64 = omega (arith, k, l) in grind (arith, nat_tests, short)) (ap not (w.0))

mutual
  are_so : (n count : ℕ) (bs : block.Blocks) → n + count + 4 < 2 ^ 64 → AreWell n bs → are_clear count bs ≡ true
  are_so n count block.none k w = refl
  are_so n count (block.more b bs) k w = both_so (is_clear count b) (are_clear count bs) (is_so n count b k (w.0)) (are_so n count bs k (w.1))

  is_so : (n count : ℕ) (b : block.Block) → n + count + 4 < 2 ^ 64 → IsWell n b → is_clear count b ≡ true
  is_so n count block.Rule k w = refl
  is_so n count (block.Heading l t) k w = text_clear n count t k w
  is_so n count (block.IndentedCode t) k w = refl
  is_so n count (block.FencedCode i t) k w = refl
  is_so n count (block.Html t) k w = w
  is_so n count (block.Definitions d) k w = refl
  is_so n count (block.Paragraph t) k w = text_clear n count t k w
  is_so n count (block.Quote q) k w = are_so n count q k w
  is_so n count (block.BulletList s t is) k w = are_so n count is k w
  is_so n count (block.OrderedList s x t is) k w = are_so n count is k w
  is_so n count (block.Item i) k w = are_so n count i k w

-- a block of the tree is one of the reader's

mutual
  told_clear : (count : ℕ) (bs : block.Blocks) → are_clear count bs ≡ true → are_clear count (told bs) ≡ true
  told_clear count block.none h = refl
  told_clear count (block.more b bs) h = told_one count b (told bs) ((both_true (is_clear count b) (are_clear count bs) h).0) (told_clear count bs ((both_true (is_clear count b) (are_clear count bs) h).1))

  told_one : (count : ℕ) (b : block.Block) (bs : block.Blocks) → is_clear count b ≡ true → are_clear count bs ≡ true → are_clear count (told_before b bs) ≡ true
  told_one count block.Rule bs h k = k
  told_one count (block.Heading l t) bs h k = both_so (is_clear count (block.Heading l t)) (are_clear count bs) h k
  told_one count (block.IndentedCode t) bs h k = k
  told_one count (block.FencedCode i t) bs h k = k
  told_one count (block.Html t) bs h k = both_so (is_clear count (block.Html t)) (are_clear count bs) h k
  told_one count (block.Definitions d) bs h k = k
  told_one count (block.Paragraph t) bs h k = both_so (is_clear count (block.Paragraph t)) (are_clear count bs) h k
  told_one count (block.Quote q) bs h k = both_so (are_clear count (told q)) (are_clear count bs) (told_clear count q h) k
  told_one count (block.BulletList s t is) bs h k = both_so (are_clear count (told is)) (are_clear count bs) (told_clear count is h) k
  told_one count (block.OrderedList s n t is) bs h k = both_so (are_clear count (told is)) (are_clear count bs) (told_clear count is h) k
  told_one count (block.Item i) bs h k = both_so (are_clear count (told i)) (are_clear count bs) (told_clear count i h) k

abbrev clear_if : ℕ → Option block.Block → Bool
clear_if count None = true
clear_if count (Some b) = is_clear count b

-- HTML ends with a line feed
html_fed : (count : ℕ) (o : Option block.Block) → clear_if count o ≡ true → is_html_fed o ≡ true
html_fed count None h = refl
html_fed count (Some block.Rule) h = refl
html_fed count (Some (block.Heading l t)) h = refl
html_fed count (Some (block.IndentedCode t)) h = refl
html_fed count (Some (block.FencedCode i t)) h = refl
html_fed count (Some (block.Html t)) h = h
html_fed count (Some (block.Definitions d)) h = refl
html_fed count (Some (block.Paragraph t)) h = refl
html_fed count (Some (block.Quote q)) h = refl
html_fed count (Some (block.BulletList s t is)) h = refl
html_fed count (Some (block.OrderedList s n t is)) h = refl
html_fed count (Some (block.Item i)) h = refl

-- the text of a paragraph or a heading is clear
clear_words : (count : ℕ) (text : List ℕ) (loose : Bool) (ps : List Line) (k : BlockKind) → has_words (block_as text k loose ps block.none) ≡ true → clear_if count (block_as text k loose ps block.none) ≡ true
    → is_clear_text count (leaf_text text ps) ≡ true
clear_words count text loose ps (kind.Quote q) e h = absurd (true≢false (sym e))
clear_words count text loose ps (kind.List None) e h = absurd (true≢false (sym e))
clear_words count text loose ps (kind.List (Some n)) e h = absurd (true≢false (sym e))
clear_words count text loose ps kind.Item e h = absurd (true≢false (sym e))
clear_words count text loose [] kind.Paragraph e h = absurd (true≢false (sym e))
clear_words count text loose (p ∷ ps) kind.Paragraph e h = h
clear_words count text loose ps (kind.Heading l x) e h = h
clear_words count text loose ps kind.Indented e h = absurd (true≢false (sym e))
clear_words count text loose ps (kind.Fenced x y) e h = absurd (true≢false (sym e))
clear_words count text loose ps kind.Html e h = absurd (true≢false (sym e))
clear_words count text loose ps kind.Rule e h = absurd (true≢false (sym e))
clear_words count text loose ps (kind.Metadata x) e h = absurd (true≢false (sym e))
clear_words count text loose ps (kind.Footnote x y) e h = absurd (true≢false (sym e))
clear_words count text loose ps (kind.Table x y) e h = absurd (true≢false (sym e))
clear_words count text loose ps kind.TableHead e h = absurd (true≢false (sym e))
clear_words count text loose ps kind.TableRow e h = absurd (true≢false (sym e))
clear_words count text loose ps kind.TableCell e h = absurd (true≢false (sym e))
clear_words count text loose ps kind.DefinitionList e h = absurd (true≢false (sym e))
clear_words count text loose ps kind.DefinitionListTitle e h = absurd (true≢false (sym e))
clear_words count text loose ps kind.DefinitionListDefinition e h = absurd (true≢false (sym e))

-- all of these are clear
abbrev AreClear : ℕ → List Placed → Type 0
AreClear count ps = AllByRecursion (λ (p : Placed). clear_if count p.block ≡ true) ps

tree_clear : (count : ℕ) (ps : List Placed) → are_clear count (tree_of ps) ≡ true → AreClear count ps
tree_clear count [] h = tt
tree_clear count (p ∷ ps) h = by p.block refl h (tree_clear count ps)
  where
    by : (o : Option block.Block) → p.block ≡ o → are_clear count (more_if o (tree_of ps)) ≡ true → (are_clear count (tree_of ps) ≡ true → AreClear count ps) → AreClear count (p ∷ ps)
    by None e k f = (ap (clear_if count) e, f k)
    by (Some b) e k f = let both = both_true (is_clear count b) (are_clear count (tree_of ps)) k in (ap (clear_if count) e ∙ both.0, f (both.1))

join_clear : (count : ℕ) (xs ys : List Placed) → AreClear count xs → AreClear count ys → AreClear count (xs ++ ys)
join_clear count [] ys h k = k
join_clear count (x ∷ xs) ys h k = (h.0, join_clear count xs ys (h.1) k)

-- a container: its own, and what is in it
container_clear : (count : ℕ) (text : List ℕ) (b : ReadBlock) (s : Sort) (ps : List Line) (bs : block.Blocks) (k : BlockKind) → sort_of k ≡ Some s → clear_if count (block_as text k b.loose ps bs) ≡ true → (clear_if count (block_as text k b.loose ps block.none) ≡ true) × (are_clear count bs ≡ true)
container_clear count text b s ps bs (kind.Quote q) e h = (refl, h)
container_clear count text b s ps bs (kind.List None) e h = (refl, h)
container_clear count text b s ps bs (kind.List (Some n)) e h = (refl, h)
container_clear count text b s ps bs kind.Item e h = (refl, h)
container_clear count text b s ps bs kind.Paragraph e h = absurd cc
container_clear count text b s ps bs (kind.Heading l x) e h = absurd cc
container_clear count text b s ps bs kind.Indented e h = absurd cc
container_clear count text b s ps bs (kind.Fenced x y) e h = absurd cc
container_clear count text b s ps bs kind.Html e h = absurd cc
container_clear count text b s ps bs kind.Rule e h = absurd cc
container_clear count text b s ps bs (kind.Metadata x) e h = absurd cc
container_clear count text b s ps bs (kind.Footnote x y) e h = absurd cc
container_clear count text b s ps bs (kind.Table x y) e h = absurd cc
container_clear count text b s ps bs kind.TableHead e h = absurd cc
container_clear count text b s ps bs kind.TableRow e h = absurd cc
container_clear count text b s ps bs kind.TableCell e h = absurd cc
container_clear count text b s ps bs kind.DefinitionList e h = absurd cc
container_clear count text b s ps bs kind.DefinitionListTitle e h = absurd cc
container_clear count text b s ps bs kind.DefinitionListDefinition e h = absurd cc

-- the blocks after one, and those in it
put_clear : (count : ℕ) (text : List ℕ) (pieces : List Line) (path : List Outer) (at : ℕ) (b : ReadBlock) (rest : List Placed) → IsIn path (shape b) → Falls (length (after path at (shape b))) rest → AreClear count (put text pieces b rest) → (clear_if count (leaf_as text pieces b) ≡ true) × AreClear count rest
put_clear count text pieces path at b rest i falls h = by (sort_of b.kind) refl
  where
    within : List Placed
    within = inside b.depth rest

    others : AreClear count (behind b.depth rest)
    others = h.1

    all_rest : AreClear count within → AreClear count rest
    all_rest w = subst (AreClear count) (both_parts b.depth rest) (join_clear count within (behind b.depth rest) w others)

    by : (o : Option Sort) → sort_of b.kind ≡ o → (clear_if count (leaf_as text pieces b) ≡ true) × AreClear count rest
    by (Some s) e =
        let both = container_clear count text b s (pieces_of pieces b) (tree_of within) b.kind e (h.0) in
        (both.0, all_rest (tree_clear count within (both.1)))
    by None e = (ap (λ (xs : List Placed). clear_if count (block_as text b.kind b.loose (pieces_of pieces b) (tree_of xs))) (sym empty) ∙ h.0, all_rest (subst (AreClear count) (sym empty) tt))
      where
        short : length (after path at (shape b)) ≤ b.depth
        short = subst (λ (o : Option Sort). length (after_as (take b.depth path) at o) ≤ b.depth) (sym e) (let q : length (take b.depth path) ≡ b.depth = take_short b.depth path i.depth in omega (arith, q))

        empty : within ≡ []
        empty = inside_none b.depth rest (falls_less (length (after path at (shape b))) b.depth rest short falls)

abbrev AllClear : ℕ → List ℕ → List Line → List ReadBlock → Type 0
AllClear count text pieces bs = AllByRecursion (λ (b : ReadBlock). clear_if count (leaf_as text pieces b) ≡ true) bs

flat_clear : (count : ℕ) (text : List ℕ) (pieces : List Line) (path : List Outer) (at : ℕ) (bs : List ReadBlock) → Nested path at (shapes bs) → AreClear count (placed_in text pieces bs) → AllClear count text pieces bs
flat_clear count text pieces path at [] n h = tt
flat_clear count text pieces path at (b ∷ bs) n h =
    let both = put_clear count text pieces path at b (placed_in text pieces bs) (n.0) (placed_falls text pieces (after path at (shape b)) (suc at) bs (n.1)) h in
    (both.0, flat_clear count text pieces (after path at (shape b)) (suc at) bs (n.1) (both.1))

-- what is known of each block
all_plain : (k : Looks) (text : List ℕ) (pieces : List Line) (count : ℕ) (path : List Outer) (at : ℕ) (bs : List ReadBlock) → LeadAlike k.base k.find k.labels → IsSource text → AllByRecursion (λ (p : Line). IsCutLine text (content_line p)) pieces → Nested path at (shapes bs) → count + 4 < 2 ^ 64 → AllByRecursion (λ (b : ReadBlock). b.depth ≤ count) bs
    → AllByRecursion (λ (b : ReadBlock). sort_of b.kind ≡ None → b.last ≤ length pieces) bs → AllClear count text pieces bs → AllByRecursion (IsPlainBlock k text pieces) bs
all_plain k text pieces count path at [] alike src cuts n most low lasts w = tt
all_plain k text pieces count path at (b ∷ bs) alike src cuts n most low lasts w = (
  record {
    common = i.common;
    unboxed = i.plain;
    depth = omega (arith, deep, most);
    last = lasts.0;
    fed = html_fed count (leaf_as text pieces b) (w.0);
    words = λ e d below. leaf (clear_words count text b.loose (pieces_of pieces b) b.kind e (w.0)) d below;
  },
  all_plain k text pieces count (after path at (shape b)) (suc at) bs alike src cuts (n.1) most (low.1) (lasts.1) (w.1),
)
  where
    i : IsIn path (shape b)
    i = n.0

    deep : b.depth ≤ count
    deep = low.0

    leaf : is_clear_text count (leaf_text text (pieces_of pieces b)) ≡ true → (d : ℕ) → d ≤ suc b.depth → LeafShows k text (pieces_of pieces b) d
    leaf h d below =
        let both = both_true (is_short_text count (leaf_text text (pieces_of pieces b))) (not (ends_with_feed (leaf_text text (pieces_of pieces b)))) h in
        let short : count + length (leaf_text text (pieces_of pieces b)) + 4 < 2 ^ 64 = grind (arith, nat_tests, both.0) in
        leaf_shown k text (pieces_of pieces b) d alike src (lines_cut text (pieces_of pieces b) (all_part (λ (p : Line). IsCutLine text (content_line p)) pieces b.first b.last cuts))
        (is_not (ends_with_feed (leaf_text text (pieces_of pieces b))) (both.1)) (omega (arith, short)) (omega (arith, short, below, deep))

all_kept : (text : List ℕ) (ps : List Line) → AllByRecursion (IsWhole text) ps → AllByRecursion (IsText text) ps → AllByRecursion (IsKept text) ps
all_kept text [] h k = tt
all_kept text (p ∷ ps) h k = ((h.0, k.0), all_kept text ps (h.1) (k.1))

-- a text whose blocks are the declared ones
pub record IsAgreed (text : List ℕ) : Type 0 where
  pub plain : IsPlain text
  pub agrees : Agrees text

pub covered_agrees : (text : List ℕ) → length text + 3 < 2 ^ 64 → is_covered text ≡ true → IsAgreed text
unfolding is_covered
covered_agrees text fits h = record { plain = is_not (list_any is_special text) ((both_true (not (list_any is_special text)) (list_all (λ l. is_leaf (ends_with_feed text) (beginning (content_of l))) (lines_of text)) h).0); agrees = quotes-declared text fits h }

one_line_agrees : (text : List ℕ) → length text + 3 < 2 ^ 64 → has_one_line_blocks text ≡ true → IsAgreed text
unfolding has_one_line_blocks
one_line_agrees text fits h = record { plain = is_not (list_any is_special text) ((both_true (not (list_any is_special text)) (are_short_lines 4 true (lines_of text)) h).0); agrees = lists-declared text fits h }

nested_agrees : (text : List ℕ) → length text + 3 < 2 ^ 64 → has_plain_lists text ≡ true → IsAgreed text
unfolding has_plain_lists
nested_agrees text fits h = record { plain = is_not (list_any is_special text) ((both_true (not (list_any is_special text)) (are_nested (suc (size (lines_of text))) (lines_of text)) h).0); agrees = nested-lists-declared text fits h }

-- the nodes of a text
found_nodes : (text : List ℕ) → (found_under commonmark text).nodes ≡ (assembled_in commonmark text (entry_in text) (blocks_in commonmark text).blocks (blocks_in commonmark text).pieces (collected_of text).texts).nodes
unfolding found_under
found_nodes text = refl

-- the reader's blocks add what they say to the texts of the definitions
made : (text : List ℕ) → IsUtf8 text → 4 * length text + 1 < 2 ^ 64 → IsAgreed text
    → Adds text (start_state (collected_of text).texts) (assembled_in commonmark text (entry_in text) (blocks_in commonmark text).blocks (blocks_in commonmark text).pieces (collected_of text).texts)
    (flat_map (one_said (destinations_of text) (blocks_in commonmark text).blocks text (blocks_in commonmark text).pieces) (blocks_in commonmark text).blocks)
made text utf8 small a =
    blocks_add looks all text pieces (start_state (collected_of text).texts) all zeros fits kept
    (all_plain looks text pieces count [] 0 all (agreed_leads text a.agrees) source cuts nest (omega (arith, small)) (blocks-low text pieces all zeros nest tree) found.lasts clear)
    ([], sym (append-nil (collected_of text).texts), refl)
  where
    view : BlocksView
    view = blocks_in commonmark text

    all : List ReadBlock
    all = view.blocks

    pieces : List Line
    pieces = view.pieces

    -- no block is deeper
    count : ℕ
    count = 2 * length text + 2

    same : view ≡ blocks_in CORE text
    same = names-change-none All text

    fits : length text + 3 < 2 ^ 64
    fits = omega (arith, small)

    zeros : HasNoZero text
    zeros = no_zero text a.plain

    found : Found (IsWhole text) all pieces
    found = subst (λ (v : BlocksView). Found (IsWhole text) v.blocks v.pieces) (sym same) (found_fits (IsWhole text) text (lines_give text fits zeros a.plain))

    nest : Nested [] 0 (shapes all)
    nest = found.nest

    tree : read_tree text view ≡ told (blocks_of text)
    tree = ap (read_tree text) same ∙ a.agrees.blocks

    kept : AllByRecursion (IsKept text) pieces
    kept = all_kept text pieces found.each (subst (λ (v : BlocksView). AllByRecursion (IsText text) v.pieces) (sym same) (pieces_text text utf8 small))

    clear : AllClear count text pieces all
    clear = flat_clear count text pieces [] 0 all nest (tree_clear count (placed_in text pieces all) (ap (are_clear count) tree ∙ told_clear count (blocks_of text) (are_so (length text + 1) count (blocks_of text) (omega (arith, small)) (blocks-well text zeros))))

    source : IsSource text
    source = record { utf8 = utf8; zeros = zeros; small = fits }

    cuts : AllByRecursion (λ (p : Line). IsCutLine text (content_line p)) pieces
    cuts = subst (λ (v : BlocksView). AllByRecursion (λ (p : Line). IsCutLine text (content_line p)) v.pieces) (sym same) (pieces_cut text source small (subst (λ (v : BlocksView). AllByRecursion (IsWhole text) v.pieces) same found.each))

    looks : Looks
    looks = record { labels = destinations_of text; find = entry_in text; base = (collected_of text).texts }

-- each node of such a text shows something
pub agreed_shown : (text : List ℕ) → IsAgreedText text → AllByRecursion (λ (n : NodeView). IsSome (node_shows text n)) (found_under commonmark text).nodes
agreed_shown text h =
    let adds = made text h.utf8 h.small (record { plain = h.plain; agrees = h.agrees }) in
    subst (AllByRecursion (λ (n : NodeView). IsSome (node_shows text n))) (sym (found_nodes text ∙ adds.is)) (adds.shown.1)

pub declared_with : (text : List ℕ) → IsUtf8 text → 4 * length text + 1 < 2 ^ 64 → IsAgreed text → lettered (events_read text) ≡ map as_text (lettered (events_of text))
unfolding reading_of
declared_with text utf8 small a =
    let all : List ReadBlock = (blocks_in commonmark text).blocks in
    let pieces : List Line = (blocks_in commonmark text).pieces in
    let labels : List Destination = destinations_of text in
    let said : List Piece = flat_map (one_said labels all text pieces) all in
    let tree : read_tree text (blocks_in commonmark text) ≡ told (blocks_of text) = ap (read_tree text) (names-change-none All text) ∙ a.agrees.blocks in
    let adds = made text utf8 small a in
    ap (λ (ns : List NodeView). lettered (map (λ (e : EventView × (ℕ × ℕ)). e.0) (emitted text ns))) (found_nodes text ∙ adds.is)
    ∙ nodes_emitted text adds.nodes (adds.shown.1)
    ∙ ap (ended []) (adds.shown.0)
    ∙ ended_as_text [] said
    ∙ ap (λ ps. map as_text (ended [] ps)) (tree-said labels text ∙ ap (blocks_said labels 0 false) tree ∙ told_said labels 0 false (blocks_of text))
    ∙ ap (map as_text) (sym (events-said text))

pub covered-declared : CoveredTextsAreReadAsDeclared
covered-declared text h = by (one_of_two (is_covered text) (has_one_line_blocks text || has_plain_lists text) h.covered)
  where
    fits : length text + 3 < 2 ^ 64
    fits = let small : 4 * length text + 1 < 2 ^ 64 = h.small in omega (arith, small)

    listed : (has_one_line_blocks text ≡ true) ⊎ (has_plain_lists text ≡ true) → IsAgreed text
    listed (inl c) = one_line_agrees text fits c
    listed (inr c) = nested_agrees text fits c

    by : (is_covered text ≡ true) ⊎ ((has_one_line_blocks text || has_plain_lists text) ≡ true) → lettered (events_read text) ≡ map as_text (lettered (events_of text))
    by (inl c) = declared_with text h.utf8 h.small (covered_agrees text fits c)
    by (inr c) = declared_with text h.utf8 h.small (listed (one_of_two (has_one_line_blocks text) (has_plain_lists text) c))

pub agreed-declared : AgreedTextsAreReadAsDeclared
agreed-declared text h = declared_with text h.utf8 h.small (record { plain = h.plain; agrees = h.agrees })

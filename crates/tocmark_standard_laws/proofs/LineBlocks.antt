-- What the nodes of blocks show is what the blocks say: of paragraphs and headings, if the nodes of their inlines show what is declared.
use Rattle.std.proofs.Common.{◌≡◌, ℕ, zero, suc, ◌+◌, ◌-◌, ◌^◌, ◌<◌, ◌≤◌, Bool, true, false, ◌==◌, ◌&&◌, if◌then◌else◌, nat_lt, nat_le, List, [], ◌∷◌, ◌++◌, length, map, take, drop, replicate, flat_map, refl, ap, sym, ◌∙◌, subst, arith, append_assoc, append-nil, length-take, length-drop, slice_range, true≢false}
use Rattle.std.specs.Prelude.{min, Option, Some, None, is_some}
use Rattle.std.specs.List.{fold, AllByRecursion}
use Rattle.std.specs.Str.{IsUtf8}
use Rattle.std.specs.Str.Lossy.{utf8_lossy}
use Rattle.std.proofs.lemmas.Bool.Decides.{nat_tests}
use Rattle.std.proofs.lemmas.Grind.{flat_map-append}
use Rattle.std.proofs.lemmas.List.{map-append}
use Rattle.std.proofs.lemmas.Str.{utf8_lossy-IsUtf8}
use Rattle.tocmark_event.specs.View.{TagView, Paragraph, Heading, BlockQuote, CodeBlock, Indented, Fenced, HtmlBlock, ListOf, Item, Start, Leaf, Text, Html, Rule}
use Rattle.tocmark_read_scan.specs.Basic.{plus, bytes_between}
use Rattle.tocmark_read_scan.specs.declared.syntax.Names.TheVariants.{All}
use Rattle.tocmark_read_tokens.specs.Reference.{unescaped_in}
use Rattle.tocmark_read_page.specs.Definitions.{replaced}
use Rattle.tocmark_read_page.specs.declared.page.Block.{Block as ReadBlock}
use Rattle.tocmark_read_page.specs.declared.page.BlockKind.{BlockKind}
use Rattle.tocmark_read_page.specs.declared.page.BlockKind.TheVariants as kind
use Rattle.tocmark_read_page.specs.declared.page.Task.{Task}
use Rattle.tocmark_read_page.specs.declared.piece.Piece.{Piece as Line}
use Rattle.tocmark_read_spans.specs.declared.definitions.Entry.{Entry}
use Rattle.tocmark_reader.specs.Emitted.{NodeView, Container, Given}
use Rattle.tocmark_reader.specs.Pages.{State, node, leaf_inlines_in, with_task, space_nodes, line_item, line_nodes, lines_nodes, block_tag, block_node, task_nodes, with_block, with_lines, fence_node_in, with_fence_in, with_rule, bare_in, wrapped_in, paragraph_taken_in, taken_as_in, block_taken_in, block_step_in, is_unwrapped}
use Rattle.tocmark_reader.specs.Pages as pages
use Rattle.tocmark_reader.specs.Words.{cleaned, feed_if, info_text_in, spaces_text}
use Rattle.tocmark_reader.proofs.Zeros.{without_zeros, none_between}
use Rattle.tocmark_commonmark.specs.Inlines.{inlines}
use Rattle.tocmark_commonmark.specs.Links.{Destination}
use Rattle.tocmark_commonmark.specs.Tokens.{resolved}
use Rattle.tocmark_commonmark.specs.Tree as block
use Rattle.tocmark_block_laws.specs.Trees.{whole_text, leaf_text, code_text, paragraph_in, block_as, pieces_of}
use Rattle.tocmark_block_laws.proofs.Texts.{between_none}
use Rattle.tocmark_block_laws.proofs.Told.{leaf_as}
use Rattle.tocmark_inline_laws.specs.Said.{commonmark, Piece, letters, declared}
use Rattle.tocmark_inline_laws.proofs.Resolved.{resolved_so}
use Rattle.tocmark_inline_laws.proofs.Stretches.{letters_append}
use Rattle.tocmark_standard_laws.specs.Contents.{HasNoZero}
use Rattle.tocmark_standard_laws.specs.Lettered.{tag_as_text}
use Rattle.tocmark_standard_laws.specs.Nesting.{sort_of, is_common}
use Rattle.tocmark_standard_laws.proofs.Fed.{is_fed}
use Rattle.tocmark_standard_laws.proofs.Ended.{piece_as_text}
use Rattle.tocmark_standard_laws.proofs.WellBlocks.{is_html_text}
use Rattle.tocmark_standard_laws.specs.SaidBlocks.{html_at, line_said, html_said, words_said, said_if, one_said}
use Rattle.tocmark_standard_laws.specs.Ended.{node_shows, nodes_show, IsSome}

-- lines of code and HTML

-- nothing is left of a tab, and the line with its line feed is a range of the text
pub record IsWhole (text : List ℕ) (p : Line) : Type 0 where
  pub spaces : p.spaces ≡ 0
  pub bytes : flat_map replaced (bytes_between text p.start p.end) ++ feed_if (nat_lt p.end p.next) ≡ bytes_between text p.start p.next

-- the range is UTF-8 and has bytes, unless it ends where it begins
abbrev pub IsText : List ℕ → Line → Type 0
IsText text p = nat_lt p.start p.next ≡ true → IsUtf8 (bytes_between text p.start p.next) × (0 < length (bytes_between text p.start p.next))

abbrev pub IsKept : List ℕ → Line → Type 0
IsKept text p = IsWhole text p × IsText text p

-- a text or HTML
abbrev shows_as : Bool → ℕ → List ℕ → List Piece
shows_as true d t = html_at d t
shows_as false d t = letters d t

no_spaces : (d : ℕ) (p : Line) → p.spaces ≡ 0 → space_nodes d p ≡ []
unfolding space_nodes
no_spaces d p e = by (nat_lt 0 p.spaces) (ap (λ n. nat_lt 0 n) e)
  where
    by : (x : Bool) → x ≡ false → (if x then node d (Given (Text (spaces_text p.spaces))) (p.start - 1) p.start ∷ [] else []) ≡ []
    by true q = absurd (true≢false q)
    by false q = refl

words_of : (text : List ℕ) (p : Line) → IsWhole text p → IsUtf8 (bytes_between text p.start p.next) → cleaned (bytes_between text p.start p.end) (nat_lt p.end p.next) ≡ bytes_between text p.start p.next
unfolding cleaned
words_of text p w u = ap utf8_lossy w.bytes ∙ utf8_lossy-IsUtf8 (bytes_between text p.start p.next) u

whole_so : (text : List ℕ) (p : Line) → p.spaces ≡ 0 → whole_text text p ≡ bytes_between text p.start p.next
whole_so text p e = ap (λ n. replicate n 32 ++ bytes_between text p.start p.next) e

item_so : (text : List ℕ) (html : Bool) (d : ℕ) (p : Line) → cleaned (bytes_between text p.start p.end) (nat_lt p.end p.next) ≡ bytes_between text p.start p.next → node_shows text (node d (line_item text html p) p.start p.next) ≡ shows_as html d (bytes_between text p.start p.next)
unfolding line_item
item_so text true d p e = ap (html_at d) e
item_so text false d p e = ap (letters d) e

some_shown : (html : Bool) (d : ℕ) (t : List ℕ) → 0 < length t → IsSome (shows_as html d t)
some_shown html d [] l = absurd (omega arith)
some_shown true d (b ∷ bs) l = tt
some_shown false d (b ∷ bs) l = tt

-- what nodes show, and that each shows something
abbrev pub Shows : List ℕ → List NodeView → List Piece → Type 0
Shows text ns ps = (nodes_show text ns ≡ ps) × AllByRecursion (λ (n : NodeView). IsSome (node_shows text n)) ns

all_more : (Q : NodeView → Type 0) (xs ys : List NodeView) → AllByRecursion Q xs → AllByRecursion Q ys → AllByRecursion Q (xs ++ ys)
all_more Q [] ys h k = k
all_more Q (x ∷ xs) ys h k = (h.0, all_more Q xs ys (h.1) k)

shows_more : (text : List ℕ) (xs ys : List NodeView) (ps qs : List Piece) → Shows text xs ps → Shows text ys qs → Shows text (xs ++ ys) (ps ++ qs)
shows_more text xs ys ps qs h k =
    (flat_map-append (node_shows text) xs ys ∙ ap (λ rs. rs ++ nodes_show text ys) (h.0) ∙ ap (λ rs. ps ++ rs) (k.0), all_more (λ (n : NodeView). IsSome (node_shows text n)) xs ys (h.1) (k.1))

none_shown : (html : Bool) (d : ℕ) (t : List ℕ) → t ≡ [] → [] ≡ shows_as html d t
none_shown true d t e = ap (html_at d) (sym e)
none_shown false d t e = ap (letters d) (sym e)

line_shown : (text : List ℕ) (html : Bool) (d : ℕ) (p : Line) → IsKept text p → Shows text (line_nodes text html d p) (shows_as html d (whole_text text p))
unfolding line_nodes
line_shown text html d p k =
    subst (λ (ns : List NodeView). Shows text (ns ++ (if nat_lt p.start p.next then node d (line_item text html p) p.start p.next ∷ [] else [])) (shows_as html d (whole_text text p))) (sym (no_spaces d p (k.0).spaces))
    (subst (λ t. Shows text (if nat_lt p.start p.next then node d (line_item text html p) p.start p.next ∷ [] else []) (shows_as html d t)) (sym (whole_so text p (k.0).spaces)) (by (nat_lt p.start p.next) refl))
  where
    bytes : List ℕ
    bytes = bytes_between text p.start p.next

    by : (x : Bool) → nat_lt p.start p.next ≡ x → Shows text (if x then node d (line_item text html p) p.start p.next ∷ [] else []) (shows_as html d bytes)
    by true e =
        let shown : node_shows text (node d (line_item text html p) p.start p.next) ≡ shows_as html d bytes = item_so text html d p (words_of text p (k.0) ((k.1 e).0)) in
        (append-nil (node_shows text (node d (line_item text html p) p.start p.next)) ∙ shown, (subst IsSome (sym shown) (some_shown html d bytes ((k.1 e).1)), tt))
    by false e = (none_shown html d bytes (between_none text p.start p.next e), tt)

html_append : (d : ℕ) (xs ys : List ℕ) → html_at d (xs ++ ys) ≡ html_at d xs ++ html_at d ys
html_append d [] ys = refl
html_append d (x ∷ xs) ys = ap (λ ps. (d, Leaf (Html (x ∷ []))) ∷ ps) (html_append d xs ys)

shows_append : (html : Bool) (d : ℕ) (xs ys : List ℕ) → shows_as html d (xs ++ ys) ≡ shows_as html d xs ++ shows_as html d ys
shows_append true d xs ys = html_append d xs ys
shows_append false d xs ys = letters_append d xs ys

lines_shown : (text : List ℕ) (html : Bool) (d : ℕ) (ps : List Line) → AllByRecursion (IsKept text) ps → Shows text (lines_nodes text html d ps) (shows_as html d (code_text text ps))
lines_shown text true d [] h = (refl, tt)
lines_shown text false d [] h = (refl, tt)
lines_shown text html d (p ∷ ps) h =
    subst (Shows text (line_nodes text html d p ++ lines_nodes text html d ps)) (sym (shows_append html d (whole_text text p) (code_text text ps)))
    (shows_more text (line_nodes text html d p) (lines_nodes text html d ps) (shows_as html d (whole_text text p)) (shows_as html d (code_text text ps)) (line_shown text html d p (h.0)) (lines_shown text html d ps (h.1)))

-- HTML that ends with a line feed is its lines
html_whole : (d : ℕ) (line t : List ℕ) → is_fed t ≡ true → html_said d line t ≡ html_at d (line ++ t)
html_whole d line [] h = absurd (true≢false (sym h))
html_whole d line (b ∷ []) h = ap (line_said (λ l. html_said d l []) d line b) h ∙ append-nil (html_at d (line ++ b ∷ []))
html_whole d line (b ∷ c ∷ bs) h = by (b == 10) (html_whole d [] (c ∷ bs) h) (html_whole d (line ++ b ∷ []) (c ∷ bs) h)
  where
    by : (k : Bool) → html_said d [] (c ∷ bs) ≡ html_at d (c ∷ bs) → html_said d (line ++ b ∷ []) (c ∷ bs) ≡ html_at d ((line ++ b ∷ []) ++ c ∷ bs) → line_said (λ l. html_said d l (c ∷ bs)) d line b k ≡ html_at d (line ++ b ∷ c ∷ bs)
    by true e f = ap (λ ps. html_at d (line ++ b ∷ []) ++ ps) e ∙ sym (html_append d (line ++ b ∷ []) (c ∷ bs)) ∙ ap (html_at d) (append_assoc line (b ∷ []) (c ∷ bs))
    by false e f = f ∙ ap (html_at d) (append_assoc line (b ∷ []) (c ∷ bs))

html_all : (d : ℕ) (t : List ℕ) → is_html_text t ≡ true → html_said d [] t ≡ html_at d t
html_all d [] h = refl
html_all d (b ∷ bs) h = html_whole d [] (b ∷ bs) h

-- the pieces of a block

take_nothing : {A : Type 0} (k : ℕ) (xs : List A) → xs ≡ [] → take k xs ≡ []
take_nothing zero [] e = refl
take_nothing zero (x ∷ xs) e = absurd cc
take_nothing (suc k) [] e = refl
take_nothing (suc k) (x ∷ xs) e = absurd cc

range_is : {A : Type 0} (xs : List A) (first last : ℕ) → first ≤ last → take (last - first) (drop first xs) ≡ drop first (take last xs)
range_is [] zero zero l = refl
range_is [] zero (suc m) l = take_nothing (suc m - 0) [] refl
range_is [] (suc n) zero l = absurd (omega arith)
range_is [] (suc n) (suc m) l = take_nothing (suc m - suc n) [] refl
range_is (x ∷ xs) zero zero l = refl
range_is (x ∷ xs) zero (suc m) l = ap (λ k. take k (x ∷ xs)) (let q : suc m - 0 ≡ suc m = omega arith in q)
range_is (x ∷ xs) (suc n) zero l = absurd (omega arith)
range_is (x ∷ xs) (suc n) (suc m) l = ap (λ k. take k (drop n xs)) (let q : suc m - suc n ≡ m - n = omega arith in q) ∙ range_is xs n m (omega arith)

past : {A : Type 0} (xs : List A) (n : ℕ) → length xs ≤ n → drop n xs ≡ []
past [] zero l = refl
past [] (suc n) l = refl
past (x ∷ xs) zero l = absurd (omega arith)
past (x ∷ xs) (suc n) l = past xs n (omega arith)

pub same_pieces : (pieces : List Line) (b : ReadBlock) → b.last ≤ length pieces → pages.pieces_of pieces b.first b.last ≡ pieces_of pieces b
same_pieces pieces b l = by (nat_le b.first b.last) (nat_le b.last (length pieces)) refl refl
  where
    by : (x y : Bool) → nat_le b.first b.last ≡ x → nat_le b.last (length pieces) ≡ y → (if x && y then slice_range pieces b.first b.last else []) ≡ drop b.first (take b.last pieces)
    by true true e f = range_is pieces b.first b.last (grind (arith, nat_tests, e))
    by true false e f = absurd (true≢false (let q : nat_le b.last (length pieces) ≡ true = grind (arith, nat_tests) in sym q ∙ f))
    by false y e f =
        let q : b.last < b.first = grind (arith, nat_tests, e) in
        let w : length (take b.last pieces) ≡ min b.last (length pieces) = length-take b.last pieces in
        sym (past (take b.last pieces) b.first (omega (arith, q, w)))

-- a block of the reader

-- the nodes that a change adds to a state, with further texts
pub record Adds (text : List ℕ) (s u : State) (said : List Piece) : Type 0 where
  pub nodes : List NodeView
  pub more : List ℕ
  pub is : u.nodes ≡ s.nodes ++ nodes
  pub texts : u.inlines.texts ≡ s.inlines.texts ++ more
  pub bare : s.inlines.nodes ≡ [] → u.inlines.nodes ≡ []
  pub shown : Shows text nodes (map piece_as_text said)

-- what the inlines of a document look up: what labels are declared to lead to, the entries, and the texts of the definitions
pub record Looks : Type 0 where
  pub labels : List Destination
  pub find : List ℕ → Option Entry
  pub base : List ℕ

-- the texts are those of the definitions, and more; all inlines so far have nodes
abbrev pub IsBeside : Looks → State → Type 0
IsBeside k s = (further : List ℕ) × (s.inlines.texts ≡ k.base ++ further) × (s.inlines.nodes ≡ [])

-- the inlines of these lines at a depth are those that are declared
abbrev pub LeafShows : Looks → List ℕ → List Line → ℕ → Type 0
LeafShows k text ps depth = (s : State) → IsBeside k s → Adds text s (leaf_inlines_in commonmark text k.find ps depth s) (declared depth (inlines k.labels (leaf_text text ps)))

-- a block has inlines
abbrev pub has_words : Option block.Block → Bool
has_words (Some (block.Paragraph t)) = true
has_words (Some (block.Heading l t)) = true
has_words o = false

-- HTML ends with a line feed, or is none
abbrev pub is_html_fed : Option block.Block → Bool
is_html_fed (Some (block.Html t)) = is_html_text t
is_html_fed o = true

-- what is known of a block
pub record IsPlainBlock (k : Looks) (text : List ℕ) (pieces : List Line) (b : ReadBlock) : Type 0 where
  pub common : is_common b.kind ≡ true
  pub unboxed : is_some b.task ≡ false
  pub depth : b.depth + 1 < 2 ^ 64
  pub last : sort_of b.kind ≡ None → b.last ≤ length pieces
  pub fed : is_html_fed (leaf_as text pieces b) ≡ true
  pub words : has_words (leaf_as text pieces b) ≡ true → (d : ℕ) → d ≤ suc b.depth → LeafShows k text (pieces_of pieces b) d

no_task : (o : Option Task) (d : ℕ) → is_some o ≡ false → task_nodes o d ≡ []
unfolding task_nodes
no_task None d e = refl
no_task (Some t) d e = absurd (true≢false e)

one_more : (text : List ℕ) (d : ℕ) (t : TagView) (start end : ℕ) → Shows text (node d (Container t) start end ∷ []) ((d, Start t) ∷ [])
one_more text d t start end = (refl, (tt, tt))

-- the state with one more container
block_put : (text : List ℕ) (s : State) (b : ReadBlock) → is_some b.task ≡ false → with_block text b s ≡ record s { nodes = s.nodes ++ block_node text b ∷ [] }
unfolding with_block
block_put text s b unboxed = ap (λ (ns : List NodeView). record s { nodes = (s.nodes ++ block_node text b ∷ []) ++ ns }) (no_task b.task (plus b.depth 1) unboxed) ∙ ap (λ (ns : List NodeView). record s { nodes = ns }) (append-nil (s.nodes ++ block_node text b ∷ []))

task_put : (s : State) (b : ReadBlock) → is_some b.task ≡ false → with_task b s ≡ s
unfolding with_task
task_put s b unboxed = ap (λ (ns : List NodeView). record s { nodes = s.nodes ++ ns }) (no_task b.task b.depth unboxed) ∙ ap (λ (ns : List NodeView). record s { nodes = ns }) (append-nil s.nodes)

-- a container
container_adds : (text : List ℕ) (s : State) (b : ReadBlock) (t : TagView) (said : List Piece) → is_some b.task ≡ false → block_tag text b.kind ≡ t → map piece_as_text said ≡ (b.depth, Start t) ∷ [] → Adds text s (with_block text b s) said
container_adds text s b t said unboxed tag same = record {
  nodes = block_node text b ∷ [];
  more = [];
  is = ap (λ (x : State). x.nodes) (block_put text s b unboxed);
  texts = ap (λ (x : State). x.inlines.texts) (block_put text s b unboxed) ∙ sym (append-nil s.inlines.texts);
  bare = λ e. ap (λ (x : State). x.inlines.nodes) (block_put text s b unboxed) ∙ e;
  shown = subst (λ ps. Shows text (block_node text b ∷ []) ps) (sym same) (ap (λ x. (b.depth, Start x) ∷ []) tag, (tt, tt));
}

-- a container of lines
lines_add : (text : List ℕ) (ps : List Line) (html : Bool) (s : State) (b : ReadBlock) (n : NodeView) (t : TagView) (said : List Piece) → b.depth + 1 < 2 ^ 64 → AllByRecursion (IsKept text) ps → node_shows text n ≡ (b.depth, Start t) ∷ []
    → map piece_as_text said ≡ (b.depth, Start t) ∷ shows_as html (suc b.depth) (code_text text ps)
    → Adds text s (record s { nodes = (s.nodes ++ n ∷ []) ++ lines_nodes text html (plus b.depth 1) ps }) said
lines_add text ps html s b n t said deep kept first same = record {
  nodes = n ∷ lines_nodes text html (plus b.depth 1) ps;
  more = [];
  is = append_assoc s.nodes (n ∷ []) (lines_nodes text html (plus b.depth 1) ps);
  texts = sym (append-nil s.inlines.texts);
  bare = λ e. e;
  shown = subst (λ qs. Shows text (n ∷ lines_nodes text html (plus b.depth 1) ps) qs) (sym same)
      (shows_more text (n ∷ []) (lines_nodes text html (plus b.depth 1) ps) ((b.depth, Start t) ∷ []) (shows_as html (suc b.depth) (code_text text ps)) (append-nil (node_shows text n) ∙ first, (subst IsSome (sym first) tt, tt))
      (subst (λ k. Shows text (lines_nodes text html k ps) (shows_as html (suc b.depth) (code_text text ps))) (sym next) (lines_shown text html (suc b.depth) ps kept)));
}
  where
    next : plus b.depth 1 ≡ suc b.depth
    next = omega arith

-- a container of inlines
words_add : (k : Looks) (text : List ℕ) (ps : List Line) (s : State) (b : ReadBlock) (t : TagView) → is_some b.task ≡ false → b.depth + 1 < 2 ^ 64 → IsBeside k s → LeafShows k text ps (suc b.depth) → block_tag text b.kind ≡ t → tag_as_text t ≡ t
    → Adds text s (leaf_inlines_in commonmark text k.find ps (plus b.depth 1) (with_block text b s)) ((b.depth, Start t) ∷ declared (suc b.depth) (inlines k.labels (leaf_text text ps)))
words_add k text ps s b t unboxed deep beside shows tag same =
    subst (λ n. Adds text s (leaf_inlines_in commonmark text k.find ps n (with_block text b s)) whole) (sym next)
    (subst (λ (x : State). Adds text s (leaf_inlines_in commonmark text k.find ps (suc b.depth) x) whole) (sym (block_put text s b unboxed)) (record {
      nodes = block_node text b ∷ leaf.nodes;
      more = leaf.more;
      is = leaf.is ∙ append_assoc s.nodes (block_node text b ∷ []) leaf.nodes;
      texts = leaf.texts;
      bare = leaf.bare;
      shown = shows_more text (block_node text b ∷ []) leaf.nodes ((b.depth, Start (tag_as_text t)) ∷ []) (map piece_as_text inner) (ap (λ x. (b.depth, Start x) ∷ []) (tag ∙ sym same), (tt, tt)) leaf.shown;
    }))
  where
    inner : List Piece
    inner = declared (suc b.depth) (inlines k.labels (leaf_text text ps))

    whole : List Piece
    whole = (b.depth, Start t) ∷ inner

    next : plus b.depth 1 ≡ suc b.depth
    next = omega arith

    v : State
    v = record s { nodes = s.nodes ++ block_node text b ∷ [] }

    leaf : Adds text v (leaf_inlines_in commonmark text k.find ps (suc b.depth) v) inner
    leaf = shows v beside

pub letters_as_text : (d : ℕ) (t : List ℕ) → map piece_as_text (letters d t) ≡ letters d t
letters_as_text d [] = refl
letters_as_text d (b ∷ bs) = ap (λ ps. (d, Leaf (Text (b ∷ []))) ∷ ps) (letters_as_text d bs)

html_as_text : (d : ℕ) (t : List ℕ) → map piece_as_text (html_at d t) ≡ html_at d t
html_as_text d [] = refl
html_as_text d (b ∷ bs) = ap (λ ps. (d, Leaf (Html (b ∷ []))) ∷ ps) (html_as_text d bs)

between_short : (text : List ℕ) (i j : ℕ) → length (bytes_between text i j) ≤ length text
between_short text i j = by (nat_le i j && nat_le j (length text))
  where
    by : (k : Bool) → length (if k then take (j - i) (drop i text) else []) ≤ length text
    by true = let a : length (take (j - i) (drop i text)) ≡ min (j - i) (length (drop i text)) = length-take (j - i) (drop i text) in let b : length (drop i text) ≡ length text - i = length-drop i text in omega (arith, a, b)
    by false = omega arith

info_so : (text : List ℕ) (from to : ℕ) → HasNoZero text → length text + 3 < 2 ^ 64 → info_text_in All (bytes_between text from to) ≡ utf8_lossy (resolved (bytes_between text from to))
unfolding info_text_in
info_so text from to zeros small =
    ap (λ bytes. utf8_lossy (unescaped_in All bytes)) (by (nat_le from to && nat_le to (length text)))
    ∙ ap utf8_lossy (resolved_so (bytes_between text from to) (let l : length (bytes_between text from to) ≤ length text = between_short text from to in omega (arith, l)))
  where
    by : (k : Bool) → flat_map replaced (if k then slice_range text from to else []) ≡ (if k then slice_range text from to else [])
    by true = without_zeros (slice_range text from to) (none_between text from to zeros)
    by false = refl

-- a block adds what it says
kind_adds : (k : Looks) (all : List ReadBlock) (text : List ℕ) (pieces : List Line) (s : State) (b : ReadBlock) → HasNoZero text → length text + 3 < 2 ^ 64 → AllByRecursion (IsKept text) (pieces_of pieces b) → IsPlainBlock k text pieces b → IsBeside k s
    → (x : BlockKind) → b.kind ≡ x → Adds text s (taken_as_in commonmark x text k.find (pages.pieces_of pieces b.first b.last) (is_unwrapped all b) b s) (one_said k.labels all text pieces b)
unfolding with_lines with_fence_in fence_node_in with_rule paragraph_taken_in bare_in wrapped_in block_tag
kind_adds k all text pieces s b zeros small kept plain beside x e = by x e
  where
    ps : List Line
    ps = pieces_of pieces b

    tight : Bool
    tight = is_unwrapped all b

    own : List Piece
    own = one_said k.labels all text pieces b

    own_is : (x : BlockKind) → b.kind ≡ x → own ≡ said_if k.labels b.depth tight (block_as text x b.loose ps block.none)
    own_is x e = ap (λ y. said_if k.labels b.depth tight (block_as text y b.loose ps block.none)) e

    says : (x : BlockKind) → b.kind ≡ x → map piece_as_text own ≡ map piece_as_text (said_if k.labels b.depth tight (block_as text x b.loose ps block.none))
    says x e = ap (map piece_as_text) (own_is x e)

    tagged : (x : BlockKind) → b.kind ≡ x → block_tag text b.kind ≡ block_tag text x
    tagged x e = ap (block_tag text) e

    same : (x : BlockKind) → b.kind ≡ x → sort_of x ≡ None → pages.pieces_of pieces b.first b.last ≡ ps
    same x e leaf = same_pieces pieces b (plain.last (ap sort_of e ∙ leaf))

    listed : (first : Option ℕ) → b.kind ≡ kind.List first → map piece_as_text own ≡ (b.depth, Start (ListOf first)) ∷ []
    listed None e = says (kind.List None) e
    listed (Some n) e = says (kind.List (Some n)) e

    paragraph : b.kind ≡ kind.Paragraph → (xs : List Line) → ps ≡ xs → (q : Bool) → nat_le b.last b.first ≡ q → (t : Bool) → tight ≡ t
        → Adds text s (if q then s else (if t then leaf_inlines_in commonmark text k.find ps b.depth (with_task b s) else leaf_inlines_in commonmark text k.find ps (plus b.depth 1) (with_block text b s))) own
    paragraph e xs h true z t y = record { nodes = []; more = []; is = sym (append-nil s.nodes); texts = sym (append-nil s.inlines.texts); bare = λ e. e; shown = (none, tt) }
      where
        empty : ps ≡ []
        empty = past (take b.last pieces) b.first (let w : length (take b.last pieces) ≡ min b.last (length pieces) = length-take b.last pieces in let l : b.last ≤ b.first = grind (arith, nat_tests, z) in omega (arith, l, w))

        none : [] ≡ map piece_as_text own
        none = ap (λ (xs : List Line). map piece_as_text (said_if k.labels b.depth tight (paragraph_in text xs))) (sym empty) ∙ sym (says kind.Paragraph e)
    paragraph e [] h false z t y =
        let l : b.first < b.last = grind (arith, nat_tests, z) in
        let last : b.last ≤ length pieces = plain.last (ap sort_of e) in
        let a : length (drop b.first (take b.last pieces)) ≡ length (take b.last pieces) - b.first = length-drop b.first (take b.last pieces) in
        let c : length (take b.last pieces) ≡ min b.last (length pieces) = length-take b.last pieces in
        let d : length (drop b.first (take b.last pieces)) ≡ 0 = ap length h in
        absurd (omega (arith, l, last, a, c, d))
    paragraph e (x ∷ xs) h false z t y = subst (Adds text s (if t then leaf_inlines_in commonmark text k.find ps b.depth (with_task b s) else leaf_inlines_in commonmark text k.find ps (plus b.depth 1) (with_block text b s))) (sym (own_is kind.Paragraph e ∙ ap (λ (zs : List Line). said_if k.labels b.depth tight (paragraph_in text zs)) h ∙ ap (λ (zs : List Line). words_said tight k.labels b.depth (leaf_text text zs)) (sym h) ∙ ap (λ j. words_said j k.labels b.depth (leaf_text text ps)) y)) (words t)
      where
        shows : (d : ℕ) → d ≤ suc b.depth → LeafShows k text ps d
        shows = plain.words (ap (λ y. has_words (block_as text y b.loose ps block.none)) e ∙ ap (λ (zs : List Line). has_words (paragraph_in text zs)) h)

        words : (t : Bool) → Adds text s (if t then leaf_inlines_in commonmark text k.find ps b.depth (with_task b s) else leaf_inlines_in commonmark text k.find ps (plus b.depth 1) (with_block text b s)) (words_said t k.labels b.depth (leaf_text text ps))
        words true = subst (λ (v : State). Adds text s (leaf_inlines_in commonmark text k.find ps b.depth v) (declared b.depth (inlines k.labels (leaf_text text ps)))) (sym (task_put s b plain.unboxed)) (shows b.depth (omega arith) s beside)
        words false = words_add k text ps s b Paragraph plain.unboxed plain.depth beside (shows (suc b.depth) (omega arith)) (tagged kind.Paragraph e) refl

    by : (x : BlockKind) → b.kind ≡ x → Adds text s (taken_as_in commonmark x text k.find (pages.pieces_of pieces b.first b.last) tight b s) own
    by (kind.Quote None) e = container_adds text s b (BlockQuote None) own plain.unboxed (tagged (kind.Quote None) e) (says (kind.Quote None) e)
    by (kind.Quote (Some q)) e = absurd (true≢false (sym plain.common ∙ ap is_common e))
    by (kind.List first) e = container_adds text s b (ListOf first) own plain.unboxed (tagged (kind.List first) e) (listed first e)
    by kind.Item e = container_adds text s b Item own plain.unboxed (tagged kind.Item e) (says kind.Item e)
    by kind.Paragraph e =
        subst (λ (xs : List Line). Adds text s (if nat_le b.last b.first then s else (if tight then leaf_inlines_in commonmark text k.find xs b.depth (with_task b s) else leaf_inlines_in commonmark text k.find xs (plus b.depth 1) (with_block text b s))) own) (sym (same kind.Paragraph e refl))
        (paragraph e ps refl (nat_le b.last b.first) refl tight refl)
    by (kind.Heading level None) e =
        subst (λ (xs : List Line). Adds text s (leaf_inlines_in commonmark text k.find xs (plus b.depth 1) (with_block text b s)) own) (sym (same (kind.Heading level None) e refl))
        (subst (Adds text s (leaf_inlines_in commonmark text k.find ps (plus b.depth 1) (with_block text b s))) (sym (own_is (kind.Heading level None) e))
        (words_add k text ps s b (Heading level None [] []) plain.unboxed plain.depth beside (plain.words (ap (λ y. has_words (block_as text y b.loose ps block.none)) e) (suc b.depth) (omega arith)) (tagged (kind.Heading level None) e) refl))
    by (kind.Heading level (Some x)) e = absurd (true≢false (sym plain.common ∙ ap is_common e))
    by kind.Indented e =
        subst (λ (xs : List Line). Adds text s (record s { nodes = (s.nodes ++ block_node text b ∷ []) ++ lines_nodes text false (plus b.depth 1) xs }) own) (sym (same kind.Indented e refl))
        (lines_add text ps false s b (block_node text b) (CodeBlock Indented) own plain.depth kept (ap (λ x. (b.depth, Start x) ∷ []) (tagged kind.Indented e)) (says kind.Indented e ∙ ap (λ qs. (b.depth, Start (CodeBlock Indented)) ∷ qs) (letters_as_text (suc b.depth) (code_text text ps))))
    by (kind.Fenced from to) e =
        subst (λ (xs : List Line). Adds text s (record s { nodes = (s.nodes ++ node b.depth (Container (CodeBlock (Fenced (info_text_in All (bytes_between text from to))))) b.start b.end ∷ []) ++ lines_nodes text false (plus b.depth 1) xs }) own) (sym (same (kind.Fenced from to) e refl))
        (lines_add text ps false s b (node b.depth (Container (CodeBlock (Fenced (info_text_in All (bytes_between text from to))))) b.start b.end) (CodeBlock (Fenced (utf8_lossy (resolved (bytes_between text from to))))) own plain.depth kept (ap (λ i. (b.depth, Start (CodeBlock (Fenced i))) ∷ []) (info_so text from to zeros small))
        (says (kind.Fenced from to) e ∙ ap (λ qs. (b.depth, Start (CodeBlock (Fenced (utf8_lossy (resolved (bytes_between text from to)))))) ∷ qs) (letters_as_text (suc b.depth) (code_text text ps))))
    by kind.Html e =
        subst (λ (xs : List Line). Adds text s (record s { nodes = (s.nodes ++ block_node text b ∷ []) ++ lines_nodes text true (plus b.depth 1) xs }) own) (sym (same kind.Html e refl))
        (lines_add text ps true s b (block_node text b) HtmlBlock own plain.depth kept (ap (λ x. (b.depth, Start x) ∷ []) (tagged kind.Html e))
        (says kind.Html e ∙ ap (λ qs. (b.depth, Start HtmlBlock) ∷ map piece_as_text qs) (html_all (suc b.depth) (code_text text ps) (ap (λ y. is_html_fed (block_as text y b.loose ps block.none)) (sym e) ∙ plain.fed)) ∙ ap (λ qs. (b.depth, Start HtmlBlock) ∷ qs) (html_as_text (suc b.depth) (code_text text ps))))
    by kind.Rule e = record { nodes = node b.depth (Given Rule) b.start b.end ∷ []; more = []; is = refl; texts = sym (append-nil s.inlines.texts); bare = λ e. e; shown = (sym (says kind.Rule e), (tt, tt)) }
    by (kind.Metadata x) e = absurd (true≢false (sym plain.common ∙ ap is_common e))
    by (kind.Footnote x y) e = absurd (true≢false (sym plain.common ∙ ap is_common e))
    by (kind.Table x y) e = absurd (true≢false (sym plain.common ∙ ap is_common e))
    by kind.TableHead e = absurd (true≢false (sym plain.common ∙ ap is_common e))
    by kind.TableRow e = absurd (true≢false (sym plain.common ∙ ap is_common e))
    by kind.TableCell e = absurd (true≢false (sym plain.common ∙ ap is_common e))
    by kind.DefinitionList e = absurd (true≢false (sym plain.common ∙ ap is_common e))
    by kind.DefinitionListTitle e = absurd (true≢false (sym plain.common ∙ ap is_common e))
    by kind.DefinitionListDefinition e = absurd (true≢false (sym plain.common ∙ ap is_common e))

block_adds : (k : Looks) (all : List ReadBlock) (text : List ℕ) (pieces : List Line) (s : State) (b : ReadBlock) → HasNoZero text → length text + 3 < 2 ^ 64 → AllByRecursion (IsKept text) (pieces_of pieces b) → IsPlainBlock k text pieces b → IsBeside k s
    → Adds text s (block_step_in commonmark text k.find all pieces s b) (one_said k.labels all text pieces b)
unfolding block_taken_in
block_adds k all text pieces s b zeros small kept plain beside = kind_adds k all text pieces s b zeros small kept plain beside b.kind refl

-- blocks one after the other

pub all_part : (Q : Line → Type 0) (pieces : List Line) (first last : ℕ) → AllByRecursion Q pieces → AllByRecursion Q (drop first (take last pieces))
all_part Q pieces first last h = dropped first (take last pieces) (taken last pieces h)
  where
    taken : (n : ℕ) (xs : List Line) → AllByRecursion Q xs → AllByRecursion Q (take n xs)
    taken zero [] k = tt
    taken zero (x ∷ xs) k = tt
    taken (suc n) [] k = tt
    taken (suc n) (x ∷ xs) k = (k.0, taken n xs (k.1))

    dropped : (n : ℕ) (xs : List Line) → AllByRecursion Q xs → AllByRecursion Q (drop n xs)
    dropped zero [] k = tt
    dropped zero (x ∷ xs) k = k
    dropped (suc n) [] k = tt
    dropped (suc n) (x ∷ xs) k = dropped n xs (k.1)

add_more : (text : List ℕ) (s u v : State) (ps qs : List Piece) → Adds text s u ps → Adds text u v qs → Adds text s v (ps ++ qs)
add_more text s u v ps qs a r = record {
  nodes = a.nodes ++ r.nodes;
  more = a.more ++ r.more;
  is = r.is ∙ ap (λ (ns : List NodeView). ns ++ r.nodes) a.is ∙ append_assoc s.nodes a.nodes r.nodes;
  texts = r.texts ∙ ap (λ ts. ts ++ r.more) a.texts ∙ append_assoc s.inlines.texts a.more r.more;
  bare = λ e. r.bare (a.bare e);
  shown = subst (Shows text (a.nodes ++ r.nodes)) (sym (map-append piece_as_text ps qs)) (shows_more text a.nodes r.nodes (map piece_as_text ps) (map piece_as_text qs) a.shown r.shown);
}

beside_more : (k : Looks) (text : List ℕ) (s u : State) (ps : List Piece) → Adds text s u ps → IsBeside k s → IsBeside k u
beside_more k text s u ps a h = (h.0 ++ a.more, a.texts ∙ ap (λ ts. ts ++ a.more) (h.1) ∙ append_assoc k.base (h.0) a.more, a.bare (h.2))

pub blocks_add : (k : Looks) (all : List ReadBlock) (text : List ℕ) (pieces : List Line) (s : State) (bs : List ReadBlock) → HasNoZero text → length text + 3 < 2 ^ 64 → AllByRecursion (IsKept text) pieces → AllByRecursion (IsPlainBlock k text pieces) bs → IsBeside k s
    → Adds text s (fold (block_step_in commonmark text k.find all pieces) s bs) (flat_map (one_said k.labels all text pieces) bs)
blocks_add k all text pieces s [] zeros small kept plain beside = record { nodes = []; more = []; is = sym (append-nil s.nodes); texts = sym (append-nil s.inlines.texts); bare = λ e. e; shown = (refl, tt) }
blocks_add k all text pieces s (b ∷ bs) zeros small kept plain beside =
    let first : Adds text s (block_step_in commonmark text k.find all pieces s b) (one_said k.labels all text pieces b) = block_adds k all text pieces s b zeros small (all_part (IsKept text) pieces b.first b.last kept) (plain.0) beside in
    add_more text s (block_step_in commonmark text k.find all pieces s b) (fold (block_step_in commonmark text k.find all pieces) (block_step_in commonmark text k.find all pieces s b) bs) (one_said k.labels all text pieces b) (flat_map (one_said k.labels all text pieces) bs)
    first
    (blocks_add k all text pieces (block_step_in commonmark text k.find all pieces s b) bs zeros small kept (plain.1) (beside_more k text s (block_step_in commonmark text k.find all pieces s b) (one_said k.labels all text pieces b) first beside))

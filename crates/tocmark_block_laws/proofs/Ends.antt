-- What is read of lines, after the blocks so far.
use Rattle.std.proofs.Common.{◌≡◌, ℕ, zero, suc, ◌+◌, ◌-◌, ◌<◌, ◌≤◌, Bool, true, false, ◌==◌, ◌&&◌, List, [], ◌∷◌, ◌++◌, length, map, take, refl, ap, sym, subst, ◌∙◌, arith, true≢false}
use Rattle.std.specs.List.{fold}
use Rattle.tocmark_read_lines.specs.declared.line.Line.{Line}
use Rattle.tocmark_read_page.specs.Definitions.{DefinitionView}
use Rattle.tocmark_read_page.specs.Leaves.{is_paragraph}
use Rattle.tocmark_read_page.specs.Pages.{State, leaf_closed, closed_to}
use Rattle.tocmark_read_page.specs.declared.page.Block.{Block as ReadBlock}
use Rattle.tocmark_read_page.specs.declared.page.BlockKind.{BlockKind}
use Rattle.tocmark_read_page.specs.declared.leaf.Leaf.{Leaf}
use Rattle.tocmark_read_page.specs.declared.leaf.Leaf.TheVariants as leaf
use Rattle.tocmark_read_page.specs.declared.piece.Piece.{Piece}
use Rattle.tocmark_read_blocks.specs.Blocks.{line_taken}
use Rattle.tocmark_read_blocks.specs.Leaves.{leaf_turn}
use Rattle.tocmark_commonmark.specs.Lines.{Line as DeclaredLine, Lazy, line_ink}
use Rattle.tocmark_commonmark.specs.Tree.{Block, Blocks, none, more, Paragraph, Found, unended, ends_open, tree, defined, defined_in, Taken}
use Rattle.tocmark_commonmark.specs.Beginnings.{may_be_lazy}
use Rattle.tocmark_commonmark.specs.Leaves.{text_of, paragraph_left, definitions_found}
use Rattle.tocmark_commonmark.specs.Blocks.{and_rest, blocks_from}
use Rattle.tocmark_block_laws.specs.Trees.{told, told_before, more_if}
use Rattle.tocmark_block_laws.proofs.Apart.{after_these, closed_leaf_after, closed_after, line_after, join_after}
use Rattle.tocmark_block_laws.proofs.Open.{Open, open_count, raise, touch}
use Rattle.tocmark_block_laws.proofs.Starts.{is_quote_kind, left_at}
use Rattle.tocmark_block_laws.proofs.Seen.{Seen, facts}
use Rattle.tocmark_block_laws.proofs.Pages.{begin, block, closed, leaf_page, with_open, closes_leaf, line_passes, is_code_leaf, page_shuts}
use Rattle.tocmark_block_laws.proofs.Told.{also, also_none, also_more, left_as, Run, Holds}

-- lines as they come in

-- a line with fewer markers than quotes are open, which would begin nothing in a paragraph
pub record Fewer (text : List ℕ) (d : ℕ) : Type 0 where
  pub depth : ℕ
  pub seen : Seen text depth
  pub low : depth < d
  pub no_quote : is_quote_kind (facts text depth seen).kind ≡ false
  pub lazy : may_be_lazy (facts text depth seen).kind ≡ true

-- a line in so many quotes: it has their markers, or is lazy
pub data Coming (text : List ℕ) (d : ℕ) : Type 0 where
  Plainly : Seen text d → Coming text d
  Lazily : Fewer text d → Coming text d

abbrev pub line_of : (text : List ℕ) (d : ℕ) → Coming text d → Line
line_of text d (Plainly v) = v.line
line_of text d (Lazily z) = z.seen.line

-- as the declaration has it
abbrev pub shown : (text : List ℕ) (d : ℕ) → Coming text d → DeclaredLine
shown text d (Plainly v) = left_at v.place v.bytes
shown text d (Lazily z) = Lazy (line_ink (left_at z.seen.place z.seen.bytes))

abbrev pub bytes_in : (text : List ℕ) (d : ℕ) → Coming text d → List ℕ
bytes_in text d (Plainly v) = v.bytes
bytes_in text d (Lazily z) = z.seen.bytes

abbrev pub is_lazy : (text : List ℕ) (d : ℕ) → Coming text d → Bool
is_lazy text d (Plainly v) = false
is_lazy text d (Lazily z) = true

-- their bytes, and one for each
abbrev pub weigh : (text : List ℕ) (d : ℕ) → List (Coming text d) → ℕ
weigh text d [] = 0
weigh text d (c ∷ cs) = suc (length (bytes_in text d c)) + weigh text d cs

abbrev pub taken : (text : List ℕ) (d : ℕ) → State → Coming text d → State
taken text d s c = line_taken text s (line_of text d c)

-- lazy lines come only where a paragraph is open
abbrev pub Legit : (text : List ℕ) (d : ℕ) → State → List (Coming text d) → Type 0
Legit text d s [] = Unit {0}
Legit text d s (c ∷ cs) = (is_lazy text d c ≡ true → is_paragraph s.leaf ≡ true) × Legit text d (taken text d s c) cs

-- the lines of a run, and what the declaration has of them
abbrev pub In : List ℕ → Run → Type 0
In text r = Seen text (length r.outer)

abbrev pub Lines : List ℕ → Run → Type 0
Lines text r = List (Coming text (length r.outer))

abbrev pub said : (text : List ℕ) (r : Run) → Lines text r → List DeclaredLine
said text r cs = map (shown text (length r.outer)) cs

-- what the page is when they have come in

-- when all ends that is open deeper, the page has these blocks and these definitions
pub record Shuts (text : List ℕ) (r : Run) (s : State) (found : Blocks) (ds : List DefinitionView) : Type 0 where
  pub now : Open r.outer
  pub blocks : List ReadBlock
  pub pieces : List Piece
  pub end : ℕ
  pub number : ℕ
  pub kept : ℕ
  pub is : closed_to text (length r.outer) s ≡ after_these ds (closed now blocks pieces end number kept)
  pub deep : length r.outer ≤ length (leaf_closed text s).opened
  pub holds : Holds text r blocks pieces found
  pub room : length pieces + 1 < r.limit

-- the page has these blocks and the declared ones, and the declared definitions; both end with an open paragraph or neither does
pub record Ends (text : List ℕ) (r : Run) (s : State) (found : Blocks) (declared : List Found) : Type 0 where
  pub all : List ℕ
  pub long : length r.outer ≤ length all
  pub now : Open all
  pub opened : with_open s now ≡ s
  pub shuts : (y : Open all) → Shuts text r (with_open s y) (also found (told (tree declared))) (defined (tree declared))
  pub opens : is_paragraph s.leaf ≡ ends_open r.count declared

-- a page whose leaf ends so
pub shuts_leaf : (text : List ℕ) (r : Run) (s : State) (x : Open r.outer) (bs : List ReadBlock) (ps : List Piece) (end number kept : ℕ) (found : Blocks) (ds : List DefinitionView) → leaf_closed text s ≡ after_these ds (closed x bs ps end number kept) → Holds text r bs ps found → length ps + 1 < r.limit → Shuts text r s found ds
shuts_leaf text r s x bs ps end number kept found ds h holds room = record {
  now = x;
  blocks = bs;
  pieces = ps;
  end = end;
  number = number;
  kept = kept;
  is = closes_leaf text r.outer x bs ps end number kept ds s h;
  deep = let one : length (leaf_closed text s).opened ≡ length x.opened = ap (λ (t : State). length t.opened) h in let two : length x.opened ≡ length r.outer = open_count r.outer x in omega (arith, one, two);
  holds = holds;
  room = room;
}

-- with definitions that were found before
pub shuts_after : (text : List ℕ) (r : Run) (s : State) (found : Blocks) (ds es : List DefinitionView) → Shuts text r s found es → Shuts text r (after_these ds s) found (ds ++ es)
shuts_after text r s found ds es k = record {
  now = k.now;
  blocks = k.blocks;
  pieces = k.pieces;
  end = k.end;
  number = k.number;
  kept = k.kept;
  is = closed_after text (length r.outer) ds s ∙ ap (after_these ds) k.is ∙ join_after ds es (closed k.now k.blocks k.pieces k.end k.number k.kept);
  deep = subst (λ n. length r.outer ≤ n) (sym (ap (λ (t : State). length t.opened) (closed_leaf_after text ds s))) k.deep;
  holds = k.holds;
  room = k.room;
}

-- a page with open code is none with an open paragraph
pub code_no_paragraph : (lf : Leaf) → is_code_leaf lf ≡ true → is_paragraph lf ≡ false
unfolding is_paragraph
code_no_paragraph leaf.Indented e = refl
code_no_paragraph (leaf.Fenced f) e = refl
code_no_paragraph (leaf.Html k) e = refl
code_no_paragraph leaf.Nothing e = refl
code_no_paragraph leaf.Paragraph e = absurd (true≢false (sym e))
code_no_paragraph (leaf.Metadata k) e = refl
code_no_paragraph (leaf.Table t) e = refl

-- so it is after these lines
abbrev pub Reads : (text : List ℕ) (r : Run) → State → Lines text r → Blocks → List Found → Type 0
Reads text r s cs found declared = Legit text (length r.outer) s cs → Ends text r (fold (taken text (length r.outer)) s cs) found declared

-- a page on which definitions were found before goes on as it does
pub taken_after : (text : List ℕ) (d : ℕ) (ds : List DefinitionView) (s : State) (cs : List (Coming text d)) → fold (taken text d) (after_these ds s) cs ≡ after_these ds (fold (taken text d) s cs)
taken_after text d ds s [] = refl
taken_after text d ds s (c ∷ cs) = ap (λ (t : State). fold (taken text d) t cs) (line_after text ds s (line_of text d c)) ∙ taken_after text d ds (taken text d s c) cs

pub legit_after : (text : List ℕ) (d : ℕ) (ds : List DefinitionView) (s : State) (cs : List (Coming text d)) → Legit text d (after_these ds s) cs → Legit text d s cs
legit_after text d ds s [] h = tt
legit_after text d ds s (c ∷ cs) h = (h.0, legit_after text d ds (taken text d s c) cs (subst (λ (t : State). Legit text d t cs) (line_after text ds s (line_of text d c)) (h.1)))

-- a block with these definitions, and what comes after it
pub ends_block : (text : List ℕ) (r : Run) (s : State) (found : Blocks) (f : Found) (b : Block) (fs : List Found) (ds : List DefinitionView) → ((y : Blocks) → told_before f.block y ≡ more b y) → defined_in f.block ≡ ds → (f.is_open && (f.last + 1 == r.count)) ≡ false
    → Ends text r s (also found (more b none)) fs → Ends text r (after_these ds s) found (f ∷ fs)
ends_block text r s found f b fs ds plain defines shut e = record {
  all = e.all;
  long = e.long;
  now = e.now;
  opened = ap (after_these ds) e.opened;
  shuts = λ y.
      subst (λ xs. Shuts text r (after_these ds (with_open s y)) (also found (told (tree (f ∷ fs)))) (xs ++ defined (tree fs))) (sym defines)
      (subst (λ z. Shuts text r (after_these ds (with_open s y)) z (ds ++ defined (tree fs))) (also_more found b (told (tree fs)) ∙ ap (also found) (sym (plain (told (tree fs)))))
      (shuts_after text r (with_open s y) (also (also found (more b none)) (told (tree fs))) ds (defined (tree fs)) (e.shuts y)));
  opens = e.opens ∙ ap (λ was. fold (λ (k : Bool) (g : Found). g.is_open && (g.last + 1 == r.count)) was fs) (sym shut);
}

pub ends_cons : (text : List ℕ) (r : Run) (s : State) (found : Blocks) (f : Found) (b : Block) (fs : List Found) → ((y : Blocks) → told_before f.block y ≡ more b y) → defined_in f.block ≡ [] → (f.is_open && (f.last + 1 == r.count)) ≡ false
    → Ends text r s (also found (more b none)) fs → Ends text r s found (f ∷ fs)
ends_cons text r s found f b fs plain nothing shut e = ends_block text r s found f b fs [] plain nothing shut e

-- definitions before them
pub ends_defined : (text : List ℕ) (r : Run) (s : State) (found : Blocks) (ds : List DefinitionView) (at count : ℕ) (fs : List Found) → (at + count - 1 + 1 == r.count) ≡ false → Ends text r s found fs → Ends text r (after_these ds s) found (definitions_found at ds count ++ fs)
ends_defined text r s found [] at count fs shut e = e
ends_defined text r s found (d ∷ ds) at count fs shut e = record {
  all = e.all;
  long = e.long;
  now = e.now;
  opened = ap (after_these (d ∷ ds)) e.opened;
  shuts = λ y. shuts_after text r (with_open s y) (also found (told (tree fs))) (d ∷ ds) (defined (tree fs)) (e.shuts y);
  opens = e.opens ∙ ap (λ was. fold (λ (k : Bool) (g : Found). g.is_open && (g.last + 1 == r.count)) was fs) (sym shut);
}

-- what is left of a paragraph before them
pub ends_left : (text : List ℕ) (r : Run) (s : State) (found : Blocks) (at : ℕ) (ts : List (List ℕ)) (fs : List Found) → (at + length ts == r.count) ≡ false → Ends text r s (also found (more_if (left_as ts) none)) fs → Ends text r s found (paragraph_left at ts ++ fs)
ends_left text r s found at [] fs shut e = subst (λ (b : Blocks). Ends text r s b fs) (also_none found) e
ends_left text r s found at (t ∷ ts) fs shut e =
    let same : (at + length ts + 1 == r.count) ≡ false = ap (λ n. n == r.count) (let q : at + length ts + 1 ≡ at + suc (length ts) = omega arith in q) ∙ shut in
    ends_cons text r s found (unended (Paragraph (text_of (t ∷ ts))) at (at + length ts)) (Paragraph (text_of (t ∷ ts))) fs (λ y. refl) refl same e

pub ends_closed : (text : List ℕ) (r : Run) (x : Open r.outer) (bs : List ReadBlock) (ps : List Piece) (end number kept : ℕ) (found : Blocks) → Holds text r bs ps found → length ps + 1 < r.limit → Ends text r (closed x bs ps end number kept) found []
unfolding leaf_closed is_paragraph
ends_closed text r x bs ps end number kept found h room = record {
  all = r.outer;
  long = omega arith;
  now = x;
  opened = refl;
  shuts = λ y. shuts_leaf text r (closed y bs ps end number kept) y bs ps end number kept (also found none) [] refl (subst (λ b. Holds text r bs ps b) (sym (also_none found)) h) room;
  opens = refl;
}

-- the page with open code or HTML, when no line comes any more
pub ends_leaf : (text : List ℕ) (r : Run) (x : Open r.outer) (lf : Leaf) (k : BlockKind) (bs : List ReadBlock) (first : ℕ) (ps qs : List Piece) (kept start end number : ℕ) (found : Blocks) → is_code_leaf lf ≡ true → take kept ps ≡ qs
    → Holds text r (bs ++ block (length r.outer) k start end first (length qs) ∷ []) qs found → length qs + 1 < r.limit → Ends text r (leaf_page x lf k bs first ps kept start end number) found []
ends_leaf text r x lf k bs first ps qs kept start end number found code h holds room = record {
  all = r.outer;
  long = omega arith;
  now = x;
  opened = refl;
  shuts = λ y. shuts_leaf text r (leaf_page y lf k bs first ps kept start end number) (raise end number y) (bs ++ block (length r.outer) k start end first (length qs) ∷ []) qs end number kept (also found none) []
      (page_shuts text r.outer y lf k bs first ps qs kept start end number code h) (subst (λ b. Holds text r (bs ++ block (length r.outer) k start end first (length qs) ∷ []) qs b) (sym (also_none found)) holds) room;
  opens = code_no_paragraph lf code;
}

-- the blocks of no lines
pub no_blocks : (fuel at : ℕ) → blocks_from fuel at [] ≡ []
unfolding blocks_from
no_blocks zero at = refl
no_blocks (suc fuel) at = refl

-- what is read of lines with so much fuel, after the blocks so far
abbrev pub Goal : List ℕ → Run → ℕ → Type 0
Goal text r fuel = (at : ℕ) (cs : Lines text r) (x : Open r.outer) (bs : List ReadBlock) (ps : List Piece) (end number kept : ℕ) (found : Blocks) → Holds text r bs ps found
    → length ps + length cs + 1 < r.limit → weigh text (length r.outer) cs ≤ fuel → at + length cs ≡ r.count
    → Reads text r (closed x bs ps end number kept) cs found (blocks_from fuel at (said text r cs))

-- the same of lines of which the first is begun on a page on which nothing but quotes is open
abbrev pub Begun : List ℕ → Run → ℕ → Type 0
Begun text r fuel = (at : ℕ) (v : In text r) (cs : Lines text r) (x : Open r.outer) (bs : List ReadBlock) (ps : List Piece) (end number kept : ℕ) (found : Blocks) → Holds text r bs ps found
    → length ps + suc (length cs) + 1 < r.limit → weigh text (length r.outer) (Plainly v ∷ cs) ≤ fuel → at + suc (length cs) ≡ r.count
    → Reads text r (begin text v.columns v.line (length r.outer) v.place (closed x bs ps end number kept)) cs found (blocks_from fuel at (said text r (Plainly v ∷ cs)))

-- the same with less fuel
abbrev pub Again : List ℕ → Run → ℕ → Type 0
Again text r fuel = (m : ℕ) → m ≤ fuel → Begun text r m

pub goal_of : (text : List ℕ) (r : Run) (fuel : ℕ) → Begun text r fuel → Goal text r fuel
unfolding leaf_turn is_paragraph
goal_of text r fuel b at [] x bs ps end number kept found h room few count legit =
    subst (λ (fs : List Found). Ends text r (closed x bs ps end number kept) found fs) (sym (no_blocks fuel at)) (ends_closed text r x bs ps end number kept found h (omega (arith, room)))
goal_of text r fuel b at (Lazily z ∷ cs) x bs ps end number kept found h room few count legit = absurd (true≢false (sym (legit.0 refl)))
goal_of text r fuel b at (Plainly v ∷ cs) x bs ps end number kept found h room few count legit =
    subst (λ (s : State). Reads text r s cs found (blocks_from fuel at (said text r (Plainly v ∷ cs))))
    (sym (line_passes text r.outer v (facts text (length r.outer) v) x (closed x bs ps end number kept) refl))
    (b at v cs (touch v.line (length r.outer) x) bs ps end number kept found h room few count) (legit.1)

-- the declared blocks from a block on
abbrev pub from_there : ℕ → ℕ → List DeclaredLine → Taken → List Found
from_there fuel at whole t = and_rest (λ n x. blocks_from fuel n x) at whole t

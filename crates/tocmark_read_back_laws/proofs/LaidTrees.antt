-- The blocks that the reader finds in a layout are those that CommonMark declares of it.
use Rattle.std.proofs.Common.{◌≡◌, ℕ, ◌+◌, ◌*◌, ◌^◌, ◌<◌, Bool, true, false, ◌==◌, List, [], ◌∷◌, ◌++◌, codes, length, map, refl, ap, sym, ◌∙◌, arith, append_assoc, None, Some}
use Rattle.std.specs.List.{AllByRecursion, concat, list_all}
use Rattle.tocmark_event.specs.Options.{OptionsView}
use Rattle.tocmark_event.specs.View.{End, Leaf, SoftBreak}
use Rattle.tocmark_event.specs.declared.event.HeadingLevel.{HeadingLevel}
use Rattle.tocmark_event.specs.declared.event.TagEnd.TheVariants as end
use Rattle.tocmark_event.specs.declared.event.flags.ParserOptions.{ParserOptions}
use Rattle.tocmark_read_scan.specs.PlainParts.{Part, meant, spelled, last_byte}
use Rattle.tocmark_read_scan.proofs.PlainPieces.{feed_joined}
use Rattle.tocmark_read_scan.proofs.PlainTests.{both_true}
use Rattle.tocmark_read_scan.specs.declared.syntax.TheConstants.{CORE}
use Rattle.tocmark_read_blocks.specs.Blocks.{blocks_in}
use Rattle.tocmark_read_blocks.proofs.PlainLines.{IsWithin}
use Rattle.tocmark_read_inlines.proofs.PlainNeighbours.{ArePlainParts}
use Rattle.tocmark_reader.specs.PlainTexts.{text_parts}
use Rattle.tocmark_reader.proofs.PlainReading.{IsPlainLine, spelled_text}
use Rattle.tocmark_commonmark.specs.Blocks.{blocks_of}
use Rattle.tocmark_commonmark.specs.Leaves as leaves
use Rattle.tocmark_commonmark.specs.Leaves.{text_of}
use Rattle.tocmark_commonmark.specs.Tree as block
use Rattle.tocmark_text_laws.specs.Quoted.{LineTold}
use Rattle.tocmark_block_laws.specs.Trees.{told, told_before, more_if}
use Rattle.tocmark_block_laws.specs.Quotes.{Agrees}
use Rattle.tocmark_write_texts.specs.Escape.{Surroundings, ends_line, escaped}
use Rattle.tocmark_laws.specs.PlainLines.{is_line, IsInParagraph, PlacedLine}
use Rattle.tocmark_laws.specs.TextBlocks.{HeadingKind, place_in}
use Rattle.tocmark_laws.specs.Documents.{ArePlainTokens, PlainBlock, PlainParagraph, PlainHeading, PlainRule, PlainCode, IsPlainBlock}
use Rattle.tocmark_laws.proofs.PlainCharacters.{parts_of}
use Rattle.tocmark_laws.proofs.PlainEscapes.{escape_is}
use Rattle.tocmark_laws.proofs.PlainEscapedBytes.{escaped_is}
use Rattle.tocmark_laws.proofs.PlainEscapedLines.{line_means}
use Rattle.tocmark_laws.proofs.PlainEscapedTexts.{IsLine, line_parts, plain_line, plain_lines, plain_parts}
use Rattle.tocmark_laws.proofs.PlainParagraph.{line_from}
use Rattle.tocmark_laws.proofs.DocumentRows.{printable_within, some_front}
use Rattle.tocmark_document_laws.specs.Blocks.{Blocks, Nothing, PlainThen, QuoteThen, BulletsThen, ItemThen, ArePlain}
use Rattle.tocmark_document_laws.specs.DocumentLines.{Line, How, Beside, Marked, Below, Outside, no_lists, bullet_for, code_text, feeds_below, feeds_below_item, feeds_below_list, feeds_below_quote, in_bullets, layout, line_in, paragraph_lines}
use Rattle.tocmark_document_laws.specs.ReadBack.{HasNoList, BlocksTabless, HasTrees, line_read, lines_read, block_read, sort_read, fed_before, trees_of}
use Rattle.tocmark_document_laws.proofs.ReadBackPlain.{layouts_read}
use Rattle.tocmark_layout_laws.specs.Declared.{declared, declared_block, declared_tree}
use Rattle.tocmark_layout_laws.proofs.Codes.{ends_ink}
use Rattle.tocmark_layout_laws.proofs.Fronts.{EndsInk, end_kept}
use Rattle.tocmark_layout_laws.proofs.PlainBlocks.{layouts_declared}
use Rattle.tocmark_read_back_laws.specs.Trees.{words_of, code_of, paragraph_from, block_from, blocks_as}
use Rattle.tocmark_read_back_laws.proofs.ReadTrees.{trees_blocks}

-- lines as they are read

pub words_read : (fed : Bool) (ls : List Line) → map (λ (l : LineTold). l.words) (lines_read fed ls) ≡ ls
words_read fed [] = refl
words_read fed (l ∷ []) = refl
words_read fed (l ∷ m ∷ ms) = ap (λ xs. l ∷ xs) (words_read fed (m ∷ ms))

code_read : (ls : List Line) → code_of (map (λ l. line_read l (codes "\n")) ls) ≡ code_text ls
code_read [] = refl
code_read (l ∷ ls) = ap (λ t. (l ++ codes "\n") ++ t) (code_read ls)

-- joined lines end as the last one does
joined_ends : (x : List ℕ) (ms : List (List ℕ)) → AllByRecursion EndsInk (x ∷ ms) → EndsInk (leaves.joined (x ∷ ms))
joined_ends x [] h = h.0
joined_ends x (m ∷ ms) h =
    let r : EndsInk (leaves.joined (m ∷ ms)) = joined_ends m ms (h.1) in
    record {
      body = x ++ 10 ∷ r.body;
      last = r.last;
      split = ap (λ (t : List ℕ). x ++ 10 ∷ t) r.split ∙ sym (append_assoc x (10 ∷ r.body) (r.last ∷ []));
      ink = r.ink;
    }

line_ends : (l : List Part) → IsPlainLine l → EndsInk (spelled l)
line_ends l h = by (spelled l) (some_front (spelled l) h.begins) (printable_within (spelled l) h.printable) h.last
  where
    by : (x : List ℕ) → 0 < length x → AllByRecursion IsWithin x → (last_byte 10 x == 32) ≡ false → EndsInk x
    by [] some h k = absurd (omega (arith, some))
    by (b ∷ bs) some h k = ends_ink b bs h k

all_end : (ms : List (List Part)) → AllByRecursion IsPlainLine ms → AllByRecursion EndsInk (map spelled ms)
all_end [] h = tt
all_end (m ∷ ms) h = (line_ends m (h.0), all_end ms (h.1))

joined_parts : (x : List ℕ) (ms : List (List ℕ)) → leaves.joined (x ∷ ms) ≡ feed_joined x ms
joined_parts x [] = refl
joined_parts x (m ∷ ms) = ap (λ t. x ++ 10 ∷ t) (joined_parts m ms)

-- the lines of a paragraph or a heading as parts
pub record Content (lines : List Line) (texts : List (List ℕ)) : Type 0 where
  pub first : List Part
  pub more : List (List Part)
  pub is : lines ≡ map spelled (first ∷ more)
  pub lines_plain : AllByRecursion IsPlainLine (first ∷ more)
  pub plain : ArePlainParts 10 (text_parts first more)
  pub says : map meant (first ∷ more) ≡ texts

-- the bytes of these lines are those of the parts
pub content_parts : (lines : List Line) (texts : List (List ℕ)) (c : Content lines texts) → leaves.joined lines ≡ spelled (text_parts c.first c.more)
content_parts lines texts c = ap leaves.joined c.is ∙ joined_parts (spelled c.first) (map spelled c.more) ∙ sym (spelled_text c.first c.more)

module _ (o : OptionsView) (flags : ParserOptions) (tokens : ArePlainTokens o) where
  -- where a line is escaped that these lines follow
  abbrev first_in : List (List ℕ) → Surroundings
  first_in [] = line_in o flags (End end.Paragraph)
  first_in (m ∷ ms) = line_in o flags (Leaf SoftBreak)

  abbrev more_in : List (List ℕ) → List PlacedLine
  more_in [] = []
  more_in (m ∷ ms) = (first_in ms, m) ∷ more_in ms

  in_paragraph : (ms : List (List ℕ)) → IsInParagraph (first_in ms)
  unfolding ends_line
  in_paragraph [] = record { literal = refl; first = refl; last = refl; front = refl; table = refl; token = tokens.emphasis; line = refl }
  in_paragraph (m ∷ ms) = record { literal = refl; first = refl; last = refl; front = refl; table = refl; token = tokens.emphasis; line = refl }

  in_heading : (level : HeadingLevel) → IsInParagraph (place_in o flags (HeadingKind level))
  unfolding ends_line
  in_heading level = record { literal = refl; first = refl; last = refl; front = refl; table = refl; token = tokens.emphasis; line = refl }

  line_good : (p : Surroundings) (l : List ℕ) → IsInParagraph p → is_line l ≡ true → IsLine (p, l)
  line_good p l place h = let line = line_from l h in record { place = place; some = line.some; printable = line.printable; last = line.last }

  line_is : (p : Surroundings) (l : List ℕ) → IsInParagraph p → is_line l ≡ true → escaped p l ≡ spelled (parts_of p l)
  line_is p l place h = escaped_is (p, l) (line_good p l place h) ∙ escape_is p l place (line_from l h).printable

  lines_good : (l : List ℕ) (ms : List (List ℕ)) → list_all is_line (l ∷ ms) ≡ true → AllByRecursion IsLine ((first_in ms, l) ∷ more_in ms)
  lines_good l [] h = (line_good (first_in []) l (in_paragraph []) ((both_true (is_line l) true h).0), tt)
  lines_good l (m ∷ ms) h = let both = both_true (is_line l) (list_all is_line (m ∷ ms)) h in (line_good (first_in (m ∷ ms)) l (in_paragraph (m ∷ ms)) (both.0), lines_good m ms (both.1))

  lines_are : (l : List ℕ) (ms : List (List ℕ)) → list_all is_line (l ∷ ms) ≡ true → paragraph_lines o flags l ms ≡ spelled (parts_of (first_in ms) l) ∷ map spelled (map line_parts (more_in ms))
  lines_are l [] h = ap (λ (x : Line). x ∷ []) (line_is (first_in []) l (in_paragraph []) ((both_true (is_line l) true h).0))
  lines_are l (m ∷ ms) h =
      let both = both_true (is_line l) (list_all is_line (m ∷ ms)) h in
      ap (λ (x : Line). x ∷ paragraph_lines o flags m ms) (line_is (first_in (m ∷ ms)) l (in_paragraph (m ∷ ms)) (both.0))
      ∙ ap (λ (xs : List Line). spelled (parts_of (first_in (m ∷ ms)) l) ∷ xs) (lines_are m ms (both.1))

  lines_mean : (l : List ℕ) (ms : List (List ℕ)) → map meant (parts_of (first_in ms) l ∷ map line_parts (more_in ms)) ≡ l ∷ ms
  lines_mean l [] = ap (λ (x : List ℕ). x ∷ []) (line_means (first_in []) l)
  lines_mean l (m ∷ ms) =
      ap (λ (x : List ℕ). x ∷ map meant (parts_of (first_in ms) m ∷ map line_parts (more_in ms))) (line_means (first_in (m ∷ ms)) l)
      ∙ ap (λ (xs : List (List ℕ)). l ∷ xs) (lines_mean m ms)

  pub paragraph_content : (l : List ℕ) (ms : List (List ℕ)) → list_all is_line (l ∷ ms) ≡ true → Content (paragraph_lines o flags l ms) (l ∷ ms)
  paragraph_content l ms h =
      let good : AllByRecursion IsLine ((first_in ms, l) ∷ more_in ms) = lines_good l ms h in
      record {
        first = parts_of (first_in ms) l;
        more = map line_parts (more_in ms);
        is = lines_are l ms h;
        lines_plain = plain_lines ((first_in ms, l) ∷ more_in ms) good;
        plain = plain_parts (first_in ms, l) (more_in ms) good;
        says = lines_mean l ms;
      }

  pub heading_content : (level : HeadingLevel) (t : List ℕ) → is_line t ≡ true → Content (escaped (place_in o flags (HeadingKind level)) t ∷ []) (t ∷ [])
  heading_content level t h =
      let place : Surroundings = place_in o flags (HeadingKind level) in
      let good : IsLine (place, t) = line_good place t (in_heading level) h in
      record {
        first = parts_of place t;
        more = [];
        is = ap (λ (x : Line). x ∷ []) (line_is place t (in_heading level) h);
        lines_plain = (plain_line place t good, tt);
        plain = plain_parts (place, t) [] (good, tt);
        says = ap (λ (x : List ℕ). x ∷ []) (line_means place t);
      }

  -- the text of such lines is theirs
  pub content_text : (lines : List Line) (texts : List (List ℕ)) → Content lines texts → text_of lines ≡ leaves.joined lines
  content_text lines texts c =
      ap text_of c.is
      ∙ end_kept (leaves.joined (map spelled (c.first ∷ c.more))) (joined_ends (spelled c.first) (map spelled c.more) (all_end (c.first ∷ c.more) c.lines_plain))
      ∙ ap leaves.joined (sym c.is)

  some_lines : (fed : Bool) (l : List ℕ) (ms : List (List ℕ)) → paragraph_from (lines_read fed (paragraph_lines o flags l ms)) ≡ Some (block.Paragraph (words_of (lines_read fed (paragraph_lines o flags l ms))))
  some_lines fed l [] = refl
  some_lines fed l (m ∷ []) = refl
  some_lines fed l (m ∷ n ∷ ns) = refl

  -- a plain block is the declared one
  pub block_told : (fed : Bool) (b : PlainBlock) (bs : block.Blocks) → IsPlainBlock b → more_if (block_from (sort_read b) false (block_read o flags fed b) block.none) bs ≡ told_before (declared_block o flags b) bs
  block_told fed (PlainParagraph l ms) bs h =
      let ls : List Line = paragraph_lines o flags l ms in
      ap (λ x. more_if x bs) (some_lines fed l ms)
      ∙ ap (λ (xs : List Line). block.more (block.Paragraph (text_of xs)) bs) (words_read fed ls)
      ∙ ap (λ t. block.more (block.Paragraph t) bs) (content_text ls (l ∷ ms) (paragraph_content l ms h))
  block_told fed (PlainHeading level ts) bs h =
      ap (λ t. block.more (block.Heading level t) bs) (content_text (escaped (place_in o flags (HeadingKind level)) (concat ts) ∷ []) (concat ts ∷ []) (heading_content level (concat ts) h))
  block_told fed PlainRule bs h = refl
  block_told fed (PlainCode info ls) bs h = ap (λ t. block.more (block.FencedCode info t) bs) (code_read ls)

  -- trees without lists
  tree_told : (fed : Bool) (c : Outside) (how : How) (f : Blocks) → ArePlain f → HasNoList f → blocks_as (trees_of o flags fed f) ≡ told (declared o flags c how f)
  tree_told fed c how Nothing h q = refl
  tree_told fed c how (PlainThen b f) h q =
      block_told (fed_before fed f) b (blocks_as (trees_of o flags fed f)) (h.0)
      ∙ ap (told_before (declared_block o flags b)) (tree_told fed c (Below (feeds_below o b) None) f (h.1) q)
  tree_told fed c how (QuoteThen kids f) h q =
      ap (λ x. block.more (block.Quote x) (blocks_as (trees_of o flags fed f))) (tree_told (fed_before fed f) c Beside kids (h.0) (q.0))
      ∙ ap (λ x. block.more (block.Quote (told (declared o flags c Beside kids))) x) (tree_told fed c (Below (feeds_below_quote o) None) f (h.1) (q.1))
  tree_told fed c how (BulletsThen items f) h q = absurd q
  tree_told fed c how (ItemThen kids f) h q = absurd q

  -- none of them defines a link
  block_undefined : (b : PlainBlock) → block.defined_in (declared_block o flags b) ≡ []
  block_undefined (PlainParagraph l ms) = refl
  block_undefined (PlainHeading level ts) = refl
  block_undefined PlainRule = refl
  block_undefined (PlainCode info ls) = refl

  pub undefined : (c : Outside) (how : How) (f : Blocks) → block.defined (declared o flags c how f) ≡ []
  undefined c how Nothing = refl
  undefined c how (PlainThen b f) = ap (λ ds. ds ++ block.defined (declared o flags c (Below (feeds_below o b) None) f)) (block_undefined b) ∙ undefined c (Below (feeds_below o b) None) f
  undefined c how (QuoteThen kids f) = ap (λ ds. ds ++ block.defined (declared o flags c (Below (feeds_below_quote o) None) f)) (undefined c Beside kids) ∙ undefined c (Below (feeds_below_quote o) None) f
  undefined c how (BulletsThen items f) =
      let below : How = Below (feeds_below_list o c.listed items) (Some (bullet_for o c how)) in
      ap (λ ds. ds ++ block.defined (declared o flags c below f)) (undefined (in_bullets (bullet_for o c how) c) Beside items) ∙ undefined c below f
  undefined c how (ItemThen kids f) = ap (λ ds. ds ++ block.defined (declared o flags c (Below (feeds_below_item o kids) None) f)) (undefined c Marked kids) ∙ undefined c (Below (feeds_below_item o kids) None) f

  pub layout_declared : (f : Blocks) → ArePlain f → HasNoList f → length (layout o flags f) < 2 ^ 64 → blocks_of (layout o flags f) ≡ declared_tree o flags f
  layout_declared f h q small = layouts_declared o flags f tokens h q small

  pub layout_agrees : (f : Blocks) → ArePlain f → HasNoList f → BlocksTabless f → 8 * length (layout o flags f) + 28 < 2 ^ 64 → Agrees (layout o flags f)
  layout_agrees f h q t small =
      let text : List ℕ = layout o flags f in
      let has : HasTrees text (trees_of o flags false f) = layouts_read o flags f tokens h q t small in
      let same : blocks_of text ≡ declared_tree o flags f = layout_declared f h q (omega (arith, small)) in
      record {
        blocks = trees_blocks text (blocks_in CORE text) ∙ ap blocks_as has.trees_are ∙ tree_told false no_lists Beside f h q ∙ ap told (sym same);
        definitions = has.undefined ∙ sym (undefined no_lists Beside f) ∙ ap block.defined (sym same);
      }

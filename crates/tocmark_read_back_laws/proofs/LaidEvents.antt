-- The events that CommonMark declares of a layout are those of the document, so these are read, letter by letter.
use Rattle.std.proofs.Common.{◌≡◌, ℕ, ◌+◌, ◌*◌, ◌^◌, ◌<◌, ◌≤◌, Bool, true, false, ◌==◌, ◌||◌, if◌then◌else◌, List, [], ◌∷◌, ◌++◌, codes, length, map, refl, ap, sym, subst, ◌∙◌, arith, append_assoc, append-nil, length-append, None, Some}
use Rattle.std.proofs.lemmas.List.{map-append}
use Rattle.std.proofs.lemmas.Str.{IsUtf8-from_ascii, utf8_lossy-IsUtf8}
use Rattle.std.specs.Prelude.{slice_get}
use Rattle.std.specs.List.{AllByRecursion, concat}
use Rattle.tocmark_event.specs.Options.{OptionsView}
use Rattle.tocmark_event.specs.View.{TagView, Paragraph, Heading, BlockQuote, CodeBlock, Fenced, Item, ListOf, EventView, Start, End, Leaf, Text, SoftBreak, Rule, end_of}
use Rattle.tocmark_event.specs.declared.event.flags.ParserOptions.{ParserOptions}
use Rattle.tocmark_read_scan.specs.PlainParts.{Part, meant, spelled}
use Rattle.tocmark_read_scan.proofs.PlainContent.{get_behind}
use Rattle.tocmark_reader.specs.Reading.{core_reading}
use Rattle.tocmark_reader.specs.PlainTexts.{line_events, text_parts}
use Rattle.tocmark_reader.proofs.PlainEvents.{said}
use Rattle.tocmark_reader.proofs.PlainReading.{IsPrintable, merged_lines}
use Rattle.tocmark_commonmark.specs.Blocks.{blocks_of}
use Rattle.tocmark_commonmark.specs.Events as said_of
use Rattle.tocmark_commonmark.specs.Events.{element, inline_events, code_events, block_events, block_event}
use Rattle.tocmark_commonmark.specs.Inlines.{inlines}
use Rattle.tocmark_commonmark.specs.Leaves as leaves
use Rattle.tocmark_commonmark.specs.Links.{Destination, destinations}
use Rattle.tocmark_commonmark.specs.Tokens.{Backtick, Star, OpenBracket, Exclamation, CloseBracket, Angle, Space, LineFeed, Other, kind_of, literal, literal_at, literals, literals_at, and_literals, resolved}
use Rattle.tocmark_commonmark.specs.Tree as block
use Rattle.tocmark_block_laws.specs.Quotes.{Agrees}
use Rattle.tocmark_standard_laws.specs.Lettered.{letter_events, lettered, tag_as_text, as_text}
use Rattle.tocmark_standard_laws.specs.CoveredTexts.{IsAgreedText, events_read}
use Rattle.tocmark_standard_laws.proofs.CoveredTexts.{agreed-declared}
use Rattle.tocmark_standard_laws.proofs.Ended.{lettered_append, letter_append, merged_lettered}
use Rattle.tocmark_standard_laws.proofs.WellBlocks.{AreWell, IsWell, blocks-well}
use Rattle.tocmark_laws.specs.TextBlocks.{HeadingKind, place_in}
use Rattle.tocmark_laws.specs.Documents.{ArePlainTokens, PlainBlock, PlainParagraph, PlainHeading, PlainRule, PlainCode, IsPlainBlock, plain_events}
use Rattle.tocmark_laws.proofs.DocumentCode.{IsInfo}
use Rattle.tocmark_laws.proofs.DocumentCodeSpelling.{fence_rest}
use Rattle.tocmark_laws.proofs.DocumentRows.{IsCode}
use Rattle.tocmark_laws.proofs.DocumentsReadBack.{may_stand}
use Rattle.tocmark_write_texts.specs.Escape.{escaped}
use Rattle.tocmark_document_laws.specs.Blocks.{Blocks, Nothing, PlainThen, QuoteThen, BulletsThen, ItemThen, ArePlainIn, ArePlain, events_of}
use Rattle.tocmark_document_laws.specs.DocumentLines.{Line, How, Beside, Marked, Below, Outside, no_lists, bullet_for, code_text, feeds_below, feeds_below_item, feeds_below_list, feeds_below_quote, in_bullets, layout, paragraph_lines}
use Rattle.tocmark_layout_laws.specs.Declared.{declared, declared_block, declared_tree, is_tight}
use Rattle.tocmark_read_back_laws.specs.Documents.{IsWrapped, AreWrapped, HasNoTightParagraph}
use Rattle.tocmark_read_back_laws.proofs.DeclaredContents.{parts_declared}
use Rattle.tocmark_read_back_laws.proofs.LaidTrees.{Content, content_parts, heading_content, paragraph_content}
use Rattle.tocmark_read_back_laws.proofs.SafeLines.{AreSafe, no_zeros, safe_ascii, safe_plain, shown_ascii}

-- a container and what is after it
element_on : (t : TagView) (es rest : List EventView) → lettered (element t es ++ rest) ≡ Start t ∷ (lettered es ++ End (end_of t) ∷ lettered rest)
element_on t es rest = ap (λ xs. Start t ∷ lettered xs) (append_assoc es (End (end_of t) ∷ []) rest) ∙ ap (λ xs. Start t ∷ xs) (lettered_append es (End (end_of t) ∷ rest))

-- two containers alike
elements_on : (t : TagView) (es fs xs ys : List EventView) → lettered es ≡ lettered fs → lettered xs ≡ lettered ys → lettered (element t es ++ xs) ≡ lettered (element t fs ++ ys)
elements_on t es fs xs ys h k =
    element_on t es xs
    ∙ ap (λ (zs : List EventView). Start t ∷ (zs ++ End (end_of t) ∷ lettered xs)) h
    ∙ ap (λ (zs : List EventView). Start t ∷ (lettered fs ++ End (end_of t) ∷ zs)) k
    ∙ sym (element_on t fs ys)

-- texts

pub texts_lettered : (ts : List (List ℕ)) → lettered (map (λ t. Leaf (Text t)) ts) ≡ letter_events (concat ts)
texts_lettered [] = refl
texts_lettered (t ∷ ts) = ap (λ (es : List EventView). letter_events t ++ es) (texts_lettered ts) ∙ sym (letter_append t (concat ts))

code_lettered : (ls : List (List ℕ)) → lettered (map (λ l. Leaf (Text (l ++ codes "\n"))) ls) ≡ letter_events (code_text ls)
code_lettered [] = refl
code_lettered (l ∷ ls) = ap (λ (es : List EventView). letter_events (l ++ codes "\n") ++ es) (code_lettered ls) ∙ sym (letter_append (l ++ codes "\n") (code_text ls))

said_lettered : (t : List ℕ) → lettered (code_events t) ≡ letter_events t
said_lettered [] = refl
said_lettered (b ∷ bs) = append-nil (letter_events (b ∷ bs))

-- contents

line_said : (first : List Part) (more : List (List Part)) (l : List ℕ) (ms : List (List ℕ)) → map meant (first ∷ more) ≡ l ∷ ms → line_events (meant first) (map meant more) ≡ line_events l ms
line_said first more l ms e = ap (let f : List (List ℕ) → List EventView = by in f) e
  where
    by : List (List ℕ) → List EventView
    by [] = []
    by (x ∷ xs) = line_events x xs

content_said : (labels : List Destination) (lines : List Line) (l : List ℕ) (ms : List (List ℕ)) → Content lines (l ∷ ms) → length (leaves.joined lines) + 2 < 2 ^ 64 → lettered (inline_events (inlines labels (leaves.joined lines))) ≡ lettered (line_events l ms)
content_said labels lines l ms c small =
    let same : leaves.joined lines ≡ spelled (text_parts c.first c.more) = content_parts lines (l ∷ ms) c in
    ap (λ t. lettered (inline_events (inlines labels t))) same
    ∙ parts_declared labels (text_parts c.first c.more) c.plain (subst (λ (t : List ℕ). length t + 2 < 2 ^ 64) same small)
    ∙ sym (merged_lettered (said (text_parts c.first c.more)))
    ∙ ap lettered (merged_lines c.first c.more c.lines_plain)
    ∙ ap lettered (line_said c.first c.more l ms c.says)

-- info strings

no_literal : (bytes : List ℕ) (p b : ℕ) → (b == 92) ≡ false → (b == 38) ≡ false → literal_at bytes p b (kind_of b) ≡ literal b p None
no_literal bytes p b h k = rw (h, k) (by (b == 96) ((b == 42) || (b == 95)) (b == 91) (b == 33) (b == 93) (b == 60) (b == 32) (b == 10))
  where
    by : (c d e f g i j l : Bool) → literal_at bytes p b (if c then Backtick else (if d then Star else (if e then OpenBracket else (if f then Exclamation else (if g then CloseBracket else (if i then Angle else (if j then Space else (if l then LineFeed else Other)))))))) ≡ literal b p None
    by true d e f g i j l = refl
    by false true e f g i j l = refl
    by false false true f g i j l = refl
    by false false false true g i j l = refl
    by false false false false true i j l = refl
    by false false false false false true j l = refl
    by false false false false false false true l = refl
    by false false false false false false false true = refl
    by false false false false false false false false = refl

get_first : (bytes pre rest : List ℕ) (p b : ℕ) → bytes ≡ pre ++ b ∷ rest → p ≡ length pre → slice_get bytes p ≡ Some b
get_first bytes pre rest p b e at = ap (slice_get bytes) at ∙ ap (λ xs. slice_get xs (length pre)) e ∙ get_behind pre rest b

info_literals : (token : ℕ) (bytes pre rest : List ℕ) (p : ℕ) → bytes ≡ pre ++ rest → p ≡ length pre → AllByRecursion (IsInfo token) rest → literals (length rest) bytes p ≡ rest
info_literals token bytes pre [] p e at h = refl
info_literals token bytes pre (b ∷ bs) p e at h =
    let next : ℕ → List ℕ = λ q. literals (length bs) bytes q in
    ap (literals_at next bytes p) (get_first bytes pre bs p b e at)
    ∙ ap (and_literals next) (no_literal bytes p b (h.0).back (h.0).amp)
    ∙ ap (λ t. b ∷ t) (info_literals token bytes (pre ++ b ∷ []) bs (p + 1) (e ∙ sym (append_assoc pre (b ∷ []) bs)) (ap (λ n. n + 1) at ∙ sym (length-append pre (b ∷ []))) (h.1))

info_resolved : (token : ℕ) (info : List ℕ) → AllByRecursion (IsInfo token) info → resolved info ≡ info
unfolding resolved
info_resolved token info h = info_literals token info [] info 0 refl refl h

module _ (o : OptionsView) (flags : ParserOptions) (tokens : ArePlainTokens o) (labels : List Destination) (n : ℕ) (small : n + 2 < 2 ^ 64) where
  pub code_good : (info : List ℕ) (ls : List (List ℕ)) → IsPlainBlock (PlainCode info ls) → IsCode o.code_block_token (fence_rest o info ls) info ls
  code_good info ls h = may_stand o (λ text flags. core_reading text) flags tokens.emphasis tokens.code (PlainCode info ls) h

  block_said : (b : PlainBlock) (xs ys : List EventView) → IsPlainBlock b → IsWell n (declared_block o flags b) → lettered xs ≡ lettered ys → lettered (block_event labels false (declared_block o flags b) ++ xs) ≡ lettered (plain_events b ++ ys)
  block_said (PlainParagraph l ms) xs ys h w k =
      elements_on Paragraph (inline_events (inlines labels (leaves.joined (paragraph_lines o flags l ms)))) (line_events l ms) xs ys
      (content_said labels (paragraph_lines o flags l ms) l ms (paragraph_content o flags tokens l ms h) (let most : length (leaves.joined (paragraph_lines o flags l ms)) ≤ n = w.1 in omega (arith, most, small))) k
  block_said (PlainHeading level ts) xs ys h w k =
      let t : List ℕ = escaped (place_in o flags (HeadingKind level)) (concat ts) in
      let most : length t ≤ n = w.1 in
      elements_on (Heading level None [] []) (inline_events (inlines labels t)) (map (λ t. Leaf (Text t)) ts) xs ys
      (content_said labels (t ∷ []) (concat ts) [] (heading_content o flags tokens level (concat ts) h) (omega (arith, most, small)) ∙ append-nil (letter_events (concat ts)) ∙ sym (texts_lettered ts)) k
  block_said PlainRule xs ys h w k = ap (λ (zs : List EventView). Leaf Rule ∷ zs) k
  block_said (PlainCode info ls) xs ys h w k =
      ap (λ i. lettered (element (CodeBlock (Fenced i)) (code_events (code_text ls)) ++ xs)) (info_resolved o.code_block_token info (code_good info ls h).info_is)
      ∙ elements_on (CodeBlock (Fenced info)) (code_events (code_text ls)) (map (λ l. Leaf (Text (l ++ codes "\n"))) ls) xs ys (said_lettered (code_text ls) ∙ sym (code_lettered ls)) k

  -- a block whose paragraph has its tags is the same in a tight list
  same_wrapped : (tight : Bool) (b : PlainBlock) → IsWrapped tight b → block_event labels tight (declared_block o flags b) ≡ block_event labels false (declared_block o flags b)
  same_wrapped false b h = refl
  same_wrapped true (PlainParagraph l ms) h = absurd h
  same_wrapped true (PlainHeading level ts) h = refl
  same_wrapped true PlainRule h = refl
  same_wrapped true (PlainCode info ls) h = refl

  -- a container, and what is after it
  boxed_said : (t : TagView) (es fs xs ys : List EventView) → lettered es ≡ lettered fs → lettered xs ≡ lettered ys → lettered (element t es ++ xs) ≡ lettered (Start t ∷ (fs ++ End (end_of t) ∷ ys))
  boxed_said t es fs xs ys h k = elements_on t es fs xs ys h k ∙ ap (λ (zs : List EventView). Start t ∷ lettered zs) (append_assoc fs (End (end_of t) ∷ []) ys)

  tree_said : (items : Bool) (c : Outside) (how : How) (tight : Bool) (f : Blocks) → ArePlainIn items f → AreWrapped o c how tight f → AreWell n (declared o flags c how f) → lettered (block_events labels tight (declared o flags c how f)) ≡ lettered (events_of f)
  tree_said items c how tight Nothing h q w = refl
  tree_said true c how tight (PlainThen b f) h q w = absurd h
  tree_said false c how tight (PlainThen b f) h q w =
      let rest : List EventView = block_events labels tight (declared o flags c (Below (feeds_below o b) None) f) in
      ap (λ (es : List EventView). lettered (es ++ rest)) (same_wrapped tight b (q.0))
      ∙ block_said b rest (events_of f) (h.0) (w.0) (tree_said false c (Below (feeds_below o b) None) tight f (h.1) (q.1) (w.1))
  tree_said true c how tight (QuoteThen kids f) h q w = absurd h
  tree_said false c how tight (QuoteThen kids f) h q w =
      boxed_said (BlockQuote None) (block_events labels false (declared o flags c Beside kids)) (events_of kids) (block_events labels tight (declared o flags c (Below (feeds_below_quote o) None) f)) (events_of f)
      (tree_said false c Beside false kids (h.0) (q.0) (w.0)) (tree_said false c (Below (feeds_below_quote o) None) tight f (h.1) (q.1) (w.1))
  tree_said true c how tight (BulletsThen items f) h q w = absurd h
  tree_said false c how tight (BulletsThen items f) h q w =
      let within : Outside = in_bullets (bullet_for o c how) c in
      let below : How = Below (feeds_below_list o c.listed items) (Some (bullet_for o c how)) in
      boxed_said (ListOf None) (block_events labels (is_tight o within items) (declared o flags within Beside items)) (events_of items) (block_events labels tight (declared o flags c below f)) (events_of f)
      (tree_said true within Beside (is_tight o within items) items (h.2) (q.0) (w.0)) (tree_said false c below tight f (h.3) (q.1) (w.1))
  tree_said false c how tight (ItemThen kids f) h q w = absurd h
  tree_said true c how tight (ItemThen kids f) h q w =
      boxed_said Item (block_events labels tight (declared o flags c Marked kids)) (events_of kids) (block_events labels tight (declared o flags c (Below (feeds_below_item o kids) None) f)) (events_of f)
      (tree_said false c Marked tight kids (h.0) (q.0) (w.0)) (tree_said true c (Below (feeds_below_item o kids) None) tight f (h.1) (q.1) (w.1))

-- words are texts

letters_kept : (t : List ℕ) → map as_text (letter_events t) ≡ letter_events t
letters_kept [] = refl
letters_kept (b ∷ bs) = ap (λ (es : List EventView). Leaf (Text (b ∷ [])) ∷ es) (letters_kept bs)

abbrev AreTexts : List EventView → Type 0
AreTexts es = map as_text (lettered es) ≡ lettered es

element_kept : (t : TagView) (es rest : List EventView) → tag_as_text t ≡ t → AreTexts es → AreTexts rest → AreTexts (element t es ++ rest)
element_kept t es rest e h k =
    ap (map as_text) (element_on t es rest)
    ∙ ap (λ (xs : List EventView). Start (tag_as_text t) ∷ xs) (map-append as_text (lettered es) (End (end_of t) ∷ lettered rest))
    ∙ ap (λ x. Start x ∷ (map as_text (lettered es) ++ End (end_of t) ∷ map as_text (lettered rest))) e
    ∙ ap (λ (xs : List EventView). Start t ∷ (xs ++ End (end_of t) ∷ map as_text (lettered rest))) h
    ∙ ap (λ (xs : List EventView). Start t ∷ (lettered es ++ End (end_of t) ∷ xs)) k
    ∙ sym (element_on t es rest)

lines_kept : (l : List ℕ) (ms : List (List ℕ)) → AreTexts (line_events l ms)
lines_kept l [] = ap (map as_text) (append-nil (letter_events l)) ∙ letters_kept l ∙ sym (append-nil (letter_events l))
lines_kept l (m ∷ ms) =
    map-append as_text (letter_events l) (Leaf SoftBreak ∷ lettered (line_events m ms))
    ∙ ap (λ (xs : List EventView). xs ++ Leaf SoftBreak ∷ map as_text (lettered (line_events m ms))) (letters_kept l)
    ∙ ap (λ (xs : List EventView). letter_events l ++ Leaf SoftBreak ∷ xs) (lines_kept m ms)

info_text : (token : ℕ) (info : List ℕ) → AllByRecursion IsPrintable info → tag_as_text (CodeBlock (Fenced info)) ≡ CodeBlock (Fenced info)
info_text token info h = ap (λ t. CodeBlock (Fenced t)) (utf8_lossy-IsUtf8 info (IsUtf8-from_ascii info (shown_ascii info h)))

boxed_kept : (t : TagView) (es rest : List EventView) → tag_as_text t ≡ t → AreTexts es → AreTexts rest → AreTexts (Start t ∷ (es ++ End (end_of t) ∷ rest))
boxed_kept t es rest e h k =
    ap (λ (zs : List EventView). map as_text (Start t ∷ lettered zs)) (sym (append_assoc es (End (end_of t) ∷ []) rest))
    ∙ element_kept t es rest e h k
    ∙ ap (λ (zs : List EventView). Start t ∷ lettered zs) (append_assoc es (End (end_of t) ∷ []) rest)

module _ (o : OptionsView) (flags : ParserOptions) (tokens : ArePlainTokens o) where
  block_kept : (b : PlainBlock) (rest : List EventView) → IsPlainBlock b → AreTexts rest → AreTexts (plain_events b ++ rest)
  block_kept (PlainParagraph l ms) rest h k = element_kept Paragraph (line_events l ms) rest refl (lines_kept l ms) k
  block_kept (PlainHeading level ts) rest h k =
      element_kept (Heading level None [] []) (map (λ t. Leaf (Text t)) ts) rest refl (ap (map as_text) (texts_lettered ts) ∙ letters_kept (concat ts) ∙ sym (texts_lettered ts)) k
  block_kept PlainRule rest h k = ap (λ (es : List EventView). Leaf Rule ∷ es) k
  block_kept (PlainCode info ls) rest h k =
      element_kept (CodeBlock (Fenced info)) (map (λ l. Leaf (Text (l ++ codes "\n"))) ls) rest
      (info_text o.code_block_token info (code_good o flags tokens [] 0 (omega arith) info ls h).info_printable)
      (ap (map as_text) (code_lettered ls) ∙ letters_kept (code_text ls) ∙ sym (code_lettered ls)) k

  kept : (items : Bool) (f : Blocks) → ArePlainIn items f → AreTexts (events_of f)
  kept items Nothing h = refl
  kept true (PlainThen b f) h = absurd h
  kept false (PlainThen b f) h = block_kept b (events_of f) (h.0) (kept false f (h.1))
  kept true (QuoteThen kids f) h = absurd h
  kept false (QuoteThen kids f) h = boxed_kept (BlockQuote None) (events_of kids) (events_of f) refl (kept false kids (h.0)) (kept false f (h.1))
  kept true (BulletsThen items f) h = absurd h
  kept false (BulletsThen items f) h = boxed_kept (ListOf None) (events_of items) (events_of f) refl (kept true items (h.2)) (kept false f (h.3))
  kept false (ItemThen kids f) h = absurd h
  kept true (ItemThen kids f) h = boxed_kept Item (events_of kids) (events_of f) refl (kept false kids (h.0)) (kept true f (h.1))

-- a layout of safe bytes, of which these blocks are declared and found
pub record IsLaid (o : OptionsView) (flags : ParserOptions) (f : Blocks) : Type 0 where
  pub tokens : ArePlainTokens o
  pub plain : ArePlain f
  pub wrapped : HasNoTightParagraph o f
  pub safe : AreSafe (layout o flags f)
  pub small : 8 * length (layout o flags f) + 28 < 2 ^ 64
  pub declared : blocks_of (layout o flags f) ≡ declared_tree o flags f
  pub agrees : Agrees (layout o flags f)

-- the declared events of a layout
declared_said : (o : OptionsView) (flags : ParserOptions) (f : Blocks) (text : List ℕ) → ArePlainTokens o → ArePlain f → HasNoTightParagraph o f → blocks_of text ≡ declared_tree o flags f → AreWell (length text + 1) (blocks_of text) → length text + 3 < 2 ^ 64 → lettered (said_of.events_of text) ≡ lettered (events_of f)
unfolding said_of.events_of
declared_said o flags f text tokens h q e w small =
    let bs : block.Blocks = blocks_of text in
    let labels : List Destination = destinations (block.defined bs) in
    merged_lettered (block_events labels false bs)
    ∙ ap (λ x. lettered (block_events labels false x)) e
    ∙ tree_said o flags tokens labels (length text + 1) (omega (arith, small)) false no_lists Beside false f h q (subst (AreWell (length text + 1)) e w)

-- the reader finds the declared blocks in a layout
pub layout_agreed : (o : OptionsView) (flags : ParserOptions) (f : Blocks) → IsLaid o flags f → IsAgreedText (layout o flags f)
layout_agreed o flags f h =
    let text : List ℕ = layout o flags f in
    let small : 8 * length text + 28 < 2 ^ 64 = h.small in
    record { plain = safe_plain text h.safe; agrees = h.agrees; utf8 = IsUtf8-from_ascii text (safe_ascii text h.safe); small = omega (arith, small) }

-- the events that are read of it have the letters of the document's
pub layout_lettered : (o : OptionsView) (flags : ParserOptions) (f : Blocks) → IsLaid o flags f → lettered (events_read (layout o flags f)) ≡ lettered (events_of f)
layout_lettered o flags f h =
    let text : List ℕ = layout o flags f in
    let small : 8 * length text + 28 < 2 ^ 64 = h.small in
    agreed-declared text (layout_agreed o flags f h)
    ∙ ap (map as_text) (declared_said o flags f text h.tokens h.plain h.wrapped h.declared (blocks-well text (no_zeros text h.safe)) (omega (arith, small)))
    ∙ kept o flags h.tokens false f h.plain

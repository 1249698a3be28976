-- Both readers find just the events of the document in its layout.
use Rattle.std.proofs.Common.{◌≡◌, inl, inr, ℕ, ◌+◌, ◌*◌, ◌^◌, ◌<◌, ◌≤◌, Bool, true, false, ◌||◌, List, [], ◌∷◌, ◌++◌, codes, length, map, refl, ap, sym, subst, ◌∙◌, arith, true≢false, None, Some}
use Rattle.std.specs.List.{AllByRecursion, concat, list_all}
use Rattle.tocmark_event.specs.Merged.{merged}
use Rattle.tocmark_event.specs.Options.{OptionsView}
use Rattle.tocmark_event.specs.Reading.{ReadingView}
use Rattle.tocmark_event.specs.View.{BlockQuote, CodeBlock, EventView, Fenced, Heading, Item, Leaf, ListOf, Paragraph, Rule, Text, end_of}
use Rattle.tocmark_event.specs.declared.event.TagEnd.TheVariants as end
use Rattle.tocmark_event.specs.declared.event.flags.ParserOptions.{ParserOptions}
use Rattle.tocmark_read_scan.specs.PlainParts.{spelled}
use Rattle.tocmark_read_scan.specs.declared.syntax.Names.TheVariants.{Four, All}
use Rattle.tocmark_read_scan.proofs.PlainTests.{both_true}
use Rattle.tocmark_reader.specs.PlainTexts.{line_events, text_parts}
use Rattle.tocmark_reader.specs.Reading.{core_reading, found_under, reading_of}
use Rattle.tocmark_commonmark.specs.Leaves as leaves
use Rattle.tocmark_commonmark.specs.Tree as block
use Rattle.tocmark_block_laws.specs.Lists.{has_one_line_blocks, has_plain_lists}
use Rattle.tocmark_block_laws.specs.Quotes.{Agrees, is_covered}
use Rattle.tocmark_block_laws.specs.Trees.{told, told_before}
use Rattle.tocmark_block_laws.proofs.ListTexts.{lists-declared}
use Rattle.tocmark_block_laws.proofs.NestedTexts.{nested-lists-declared}
use Rattle.tocmark_block_laws.proofs.Read.{quotes-declared}
use Rattle.tocmark_inline_laws.specs.Said.{commonmark}
use Rattle.tocmark_standard_laws.specs.CoveredTexts.{events_read}
use Rattle.tocmark_standard_laws.specs.Lettered.{lettered}
use Rattle.tocmark_standard_laws.proofs.CoveredTexts.{agreed_shown}
use Rattle.tocmark_standard_laws.proofs.WellBlocks.{AreWell, IsWell, IsWellText, blocks-well}
use Rattle.tocmark_write_texts.specs.Escape.{escaped}
use Rattle.tocmark_state.specs.Walk.{nothing_yet, script}
use Rattle.tocmark_state.specs.WorkView.{rendering}
use Rattle.tocmark_laws.specs.PlainLines.{is_line}
use Rattle.tocmark_laws.specs.TextBlocks.{HeadingKind, place_in}
use Rattle.tocmark_laws.specs.Documents.{ArePlainTokens, PlainBlock, PlainParagraph, PlainHeading, PlainRule, PlainCode, IsPlainBlock, plain_events}
use Rattle.tocmark_laws.proofs.DocumentCodeSpelling.{fence_rest}
use Rattle.tocmark_laws.proofs.DocumentNodes.{info_kept}
use Rattle.tocmark_laws.proofs.DocumentRows.{IsCode}
use Rattle.tocmark_document_laws.specs.Blocks.{Blocks, Nothing, PlainThen, QuoteThen, BulletsThen, ItemThen, ArePlainIn, events_of, document}
use Rattle.tocmark_document_laws.specs.DocumentLines.{Line, How, Beside, Marked, Below, Outside, no_lists, bullet_for, feeds_below, feeds_below_item, feeds_below_list, feeds_below_quote, in_bullets, layout, paragraph_lines}
use Rattle.tocmark_document_laws.specs.LaidOut.{JoinTo}
use Rattle.tocmark_document_laws.specs.ReadBack.{HasNoList}
use Rattle.tocmark_document_laws.proofs.DocumentsLaidOut.{documents_laid_out}
use Rattle.tocmark_layout_laws.specs.Declared.{declared, declared_block, declared_tree}
use Rattle.tocmark_layout_laws.proofs.ListedLayouts.{layouts_with_lists_declared}
use Rattle.tocmark_read_back_laws.specs.Documents.{AreWrapped, AgreedLayoutsAreReadBack, IsOfThreeKinds, IsReadAsEvents, LayoutsAreReadBack, ListedDocumentsAreReadBack, WholeDocumentsAreReadBack}
use Rattle.tocmark_read_back_laws.proofs.AgreedBlocks.{AreKnown, IsKnown, IsPlainText}
use Rattle.tocmark_read_back_laws.proofs.AlikeReadings.{HasKnownBlocks, none_defined, none_unresolved, readings_alike}
use Rattle.tocmark_read_back_laws.proofs.LaidEvents.{IsLaid, code_good, layout_agreed, layout_lettered, texts_lettered}
use Rattle.tocmark_read_back_laws.proofs.LaidTrees.{Content, content_parts, heading_content, layout_agrees, layout_declared, paragraph_content, undefined}
use Rattle.tocmark_read_back_laws.proofs.MergedTexts.{AreNoHtml, IsProper, IsShown, Joins, emitted_shown, joined, joins_both, joins_in, joins_proper, joins_texts, lettered_no_html, no_html_both, proper_from}
use Rattle.tocmark_read_back_laws.proofs.SafeLines.{bullet_from, layout_safe, no_zeros, safe_plain}

-- the document's events, joined

some_text : (l : List ℕ) → is_line l ≡ true → IsProper (Leaf (Text l))
some_text [] h = absurd (true≢false (sym h))
some_text (b ∷ bs) h = tt

lines_proper : (l : List ℕ) (ms : List (List ℕ)) → list_all is_line (l ∷ ms) ≡ true → AllByRecursion IsProper (line_events l ms)
lines_proper l [] h = (some_text l ((both_true (is_line l) true h).0), tt)
lines_proper l (m ∷ ms) h =
    let both = both_true (is_line l) (list_all is_line (m ∷ ms)) h in
    (some_text l (both.0), (tt, lines_proper m ms (both.1)))

fed_text : (l : List ℕ) → IsProper (Leaf (Text (l ++ codes "\n")))
fed_text [] = tt
fed_text (b ∷ bs) = tt

code_proper : (ls : List (List ℕ)) → AllByRecursion IsProper (map (λ l. Leaf (Text (l ++ codes "\n"))) ls)
code_proper [] = tt
code_proper (l ∷ ls) = (fed_text l, code_proper ls)

line_joins : (ts : List (List ℕ)) (t : List ℕ) → concat ts ≡ t → is_line t ≡ true → Joins (map (λ x. Leaf (Text x)) ts)
line_joins ts [] e h = absurd (true≢false (sym h))
line_joins ts (b ∷ bs) e h = joins_texts ts b bs e (texts_lettered ts)

none_joins : Joins []
none_joins xs ys e = e

plain_joins : (b : PlainBlock) → IsPlainBlock b → Joins (plain_events b)
plain_joins (PlainParagraph l ms) h = joins_in Paragraph end.Paragraph (line_events l ms) [] (joins_proper (line_events l ms) (lines_proper l ms h)) none_joins
plain_joins (PlainHeading level ts) h = joins_in (Heading level None [] []) (end_of (Heading level None [] [])) (map (λ x. Leaf (Text x)) ts) [] (line_joins ts (concat ts) refl h) none_joins
plain_joins PlainRule h = joins_proper (Leaf Rule ∷ []) (tt, tt)
plain_joins (PlainCode info ls) h =
    joins_in (CodeBlock (Fenced info)) end.CodeBlock (map (λ l. Leaf (Text (l ++ codes "\n"))) ls) [] (joins_proper (map (λ l. Leaf (Text (l ++ codes "\n"))) ls) (code_proper ls)) none_joins

all_join : (items : Bool) (f : Blocks) → ArePlainIn items f → Joins (events_of f)
all_join items Nothing h = none_joins
all_join true (PlainThen b f) h = absurd h
all_join false (PlainThen b f) h = joins_both (plain_events b) (events_of f) (plain_joins b (h.0)) (all_join false f (h.1))
all_join true (QuoteThen kids f) h = absurd h
all_join false (QuoteThen kids f) h = joins_in (BlockQuote None) (end.BlockQuote None) (events_of kids) (events_of f) (all_join false kids (h.0)) (all_join false f (h.1))
all_join true (BulletsThen items f) h = absurd h
all_join false (BulletsThen items f) h = joins_in (ListOf None) (end.List false) (events_of items) (events_of f) (all_join true items (h.2)) (all_join false f (h.3))
all_join true (ItemThen kids f) h = joins_in Item end.Item (events_of kids) (events_of f) (all_join false kids (h.0)) (all_join true f (h.1))
all_join false (ItemThen kids f) h = absurd h

-- none of them is HTML

lines_no_html : (l : List ℕ) (ms : List (List ℕ)) → AreNoHtml (line_events l ms)
lines_no_html l [] = (tt, tt)
lines_no_html l (m ∷ ms) = (tt, (tt, lines_no_html m ms))

texts_no_html : (g : List ℕ → List ℕ) (ts : List (List ℕ)) → AreNoHtml (map (λ x. Leaf (Text (g x))) ts)
texts_no_html g [] = tt
texts_no_html g (t ∷ ts) = (tt, texts_no_html g ts)

plain_no_html : (b : PlainBlock) → AreNoHtml (plain_events b)
plain_no_html (PlainParagraph l ms) = (tt, no_html_both (line_events l ms) _ (lines_no_html l ms) (tt, tt))
plain_no_html (PlainHeading level ts) = (tt, no_html_both (map (λ x. Leaf (Text x)) ts) _ (texts_no_html (λ x. x) ts) (tt, tt))
plain_no_html PlainRule = (tt, tt)
plain_no_html (PlainCode info ls) = (tt, no_html_both (map (λ l. Leaf (Text (l ++ codes "\n"))) ls) _ (texts_no_html (λ l. l ++ codes "\n") ls) (tt, tt))

all_no_html : (f : Blocks) → AreNoHtml (events_of f)
all_no_html Nothing = tt
all_no_html (PlainThen b f) = no_html_both (plain_events b) (events_of f) (plain_no_html b) (all_no_html f)
all_no_html (QuoteThen kids f) = (tt, no_html_both (events_of kids) _ (all_no_html kids) (tt, all_no_html f))
all_no_html (BulletsThen items f) = (tt, no_html_both (events_of items) _ (all_no_html items) (tt, all_no_html f))
all_no_html (ItemThen kids f) = (tt, no_html_both (events_of kids) _ (all_no_html kids) (tt, all_no_html f))

-- the declared blocks of a layout are known

module _ (o : OptionsView) (flags : ParserOptions) (tokens : ArePlainTokens o) (n : ℕ) (small : n + 2 < 2 ^ 64) where
  words_plain : (lines : List Line) (texts : List (List ℕ)) → Content lines texts → IsWellText n (leaves.joined lines) → IsPlainText (leaves.joined lines)
  words_plain lines texts c w =
      let same : leaves.joined lines ≡ spelled (text_parts c.first c.more) = content_parts lines texts c in
      let most : length (leaves.joined lines) ≤ n = w.1 in
      let width : length (leaves.joined lines) ≡ length (spelled (text_parts c.first c.more)) = ap length same in
      record { parts = text_parts c.first c.more; is = same; plain = c.plain; small = omega (arith, most, width, small); ends = w.0 }

  block_known : (b : PlainBlock) (bs : block.Blocks) → IsPlainBlock b → IsWell n (declared_block o flags b) → AreKnown bs → AreKnown (told_before (declared_block o flags b) bs)
  block_known (PlainParagraph l ms) bs h w k = (words_plain (paragraph_lines o flags l ms) (l ∷ ms) (paragraph_content o flags tokens l ms h) w, k)
  block_known (PlainHeading level ts) bs h w k =
      (words_plain (escaped (place_in o flags (HeadingKind level)) (concat ts) ∷ []) (concat ts ∷ []) (heading_content o flags tokens level (concat ts) h) w, k)
  block_known PlainRule bs h w k = (tt, k)
  block_known (PlainCode info ls) bs h w k = (by, k)
    where
      good : IsCode o.code_block_token (fence_rest o info ls) info ls
      good = code_good o flags tokens [] 0 (omega arith) info ls h

      by : IsKnown info
      by short = info_kept All o.code_block_token info good.info_printable good.info_is short ∙ sym (info_kept Four o.code_block_token info good.info_printable good.info_is short)

  tree_known : (items : Bool) (c : Outside) (how : How) (f : Blocks) → ArePlainIn items f → AreWell n (declared o flags c how f) → AreKnown (told (declared o flags c how f))
  tree_known items c how Nothing h w = tt
  tree_known true c how (PlainThen b f) h w = absurd h
  tree_known false c how (PlainThen b f) h w =
      let below : How = Below (feeds_below o b) None in
      block_known b (told (declared o flags c below f)) (h.0) (w.0) (tree_known false c below f (h.1) (w.1))
  tree_known true c how (QuoteThen kids f) h w = absurd h
  tree_known false c how (QuoteThen kids f) h w = (tree_known false c Beside kids (h.0) (w.0), tree_known false c (Below (feeds_below_quote o) None) f (h.1) (w.1))
  tree_known true c how (BulletsThen items f) h w = absurd h
  tree_known false c how (BulletsThen items f) h w =
      (tree_known true (in_bullets (bullet_for o c how) c) Beside items (h.2) (w.0), tree_known false c (Below (feeds_below_list o c.listed items) (Some (bullet_for o c how))) f (h.3) (w.1))
  tree_known false c how (ItemThen kids f) h w = absurd h
  tree_known true c how (ItemThen kids f) h w = (tree_known false c Marked kids (h.0) (w.0), tree_known true c (Below (feeds_below_item o kids) None) f (h.1) (w.1))

layout_known : (o : OptionsView) (flags : ParserOptions) (f : Blocks) → IsLaid o flags f → HasKnownBlocks (layout o flags f)
layout_known o flags f h =
    let text : List ℕ = layout o flags f in
    let short : 8 * length text + 28 < 2 ^ 64 = h.small in
    let well : AreWell (length text + 1) (declared_tree o flags f) = subst (AreWell (length text + 1)) h.declared (blocks-well text (no_zeros text h.safe)) in
    record {
      plain = safe_plain text h.safe;
      zeros = no_zeros text h.safe;
      known = subst AreKnown (sym (h.agrees.blocks ∙ ap told h.declared)) (tree_known o flags h.tokens (length text + 1) (omega (arith, short)) false no_lists Beside f h.plain well);
      undefined = h.agrees.definitions ∙ ap block.defined h.declared ∙ undefined o flags h.tokens no_lists Beside f;
      small = omega (arith, short);
    }

-- such a layout is read as the document's events
laid_read_back : (o : OptionsView) (flags : ParserOptions) (f : Blocks) → IsLaid o flags f → IsReadAsEvents (layout o flags f) (events_of f)
unfolding reading_of
laid_read_back o flags f h =
    let text : List ℕ = layout o flags f in
    let known : HasKnownBlocks text = layout_known o flags f h in
    let alike : reading_of commonmark text ≡ core_reading text = readings_alike text known in
    let same : lettered (events_read text) ≡ lettered (events_of f) = layout_lettered o flags f h in
    let shown : AllByRecursion IsShown (events_read text) = emitted_shown text (found_under commonmark text).nodes (agreed_shown text (layout_agreed o flags f h)) in
    let proper : AllByRecursion IsProper (events_read text) = proper_from (events_read text) shown (subst AreNoHtml (sym same) (lettered_no_html (events_of f) (all_no_html f))) in
    record {
      read = record {
        events =
            ap (λ (r : ReadingView). merged (map (λ (e : EventView × (ℕ × ℕ)). e.0) r.events)) (sym alike)
            ∙ sym (joined (events_read text) (joins_proper (events_read text) proper))
            ∙ ap merged same
            ∙ joined (events_of f) (all_join false f h.plain);
        defined = none_defined text known;
        unresolved = none_unresolved text known;
      };
      alike = alike;
    }

-- without lists

listless_wrapped : (o : OptionsView) (c : Outside) (how : How) (f : Blocks) → HasNoList f → AreWrapped o c how false f
listless_wrapped o c how Nothing q = tt
listless_wrapped o c how (PlainThen b f) q = (tt, listless_wrapped o c (Below (feeds_below o b) None) f q)
listless_wrapped o c how (QuoteThen kids f) q = (listless_wrapped o c Beside kids (q.0), listless_wrapped o c (Below (feeds_below_quote o) None) f (q.1))
listless_wrapped o c how (BulletsThen items f) q = absurd q
listless_wrapped o c how (ItemThen kids f) q = absurd q

pub layouts_read_back : LayoutsAreReadBack
layouts_read_back options flags f tokens plain listless tabless small =
    laid_read_back options flags f (record {
      tokens = tokens;
      plain = plain;
      wrapped = listless_wrapped options no_lists Beside f listless;
      safe = layout_safe options flags tokens f plain (inr listless) tabless;
      small = small;
      declared = layout_declared options flags tokens f plain listless (omega (arith, small));
      agrees = layout_agrees options flags tokens f plain listless tabless small;
    })

pub documents_read_back : WholeDocumentsAreReadBack
documents_read_back options reading flags source f unchecked tokens bullet plain listless tabless =
    let laid : JoinTo (script (rendering options reading) source (nothing_yet flags) (document f)) (layout options flags f) = documents_laid_out options reading flags source f unchecked tokens bullet plain in
    record {
      ends_well = laid.ends_well;
      read = λ small.
          subst (λ (t : List ℕ). IsReadAsEvents t (events_of f)) (sym laid.is)
          (layouts_read_back options flags f tokens plain listless tabless (subst (λ (t : List ℕ). 8 * length t + 28 < 2 ^ 64) laid.is small));
    }

-- with lists

pub agreed_layouts_read_back : AgreedLayoutsAreReadBack
agreed_layouts_read_back options flags f tokens bullet plain rules wrapped tabless small agrees =
    laid_read_back options flags f (record {
      tokens = tokens;
      plain = plain;
      wrapped = wrapped;
      safe = layout_safe options flags tokens f plain (inl (bullet_from options.list_token bullet)) tabless;
      small = small;
      declared = layouts_with_lists_declared options flags f tokens bullet plain rules (omega (arith, small));
      agrees = agrees;
    })

-- the reader finds the declared blocks in texts of three kinds
kinds_agree : (text : List ℕ) → length text + 3 < 2 ^ 64 → IsOfThreeKinds text → Agrees text
kinds_agree text fits h = by (is_covered text) (has_one_line_blocks text) (has_plain_lists text) refl refl refl h
  where
    by : (a b c : Bool) → is_covered text ≡ a → has_one_line_blocks text ≡ b → has_plain_lists text ≡ c → (a || (b || c)) ≡ true → Agrees text
    by true b c d e f h = quotes-declared text fits d
    by false true c d e f h = lists-declared text fits e
    by false false true d e f h = nested-lists-declared text fits f
    by false false false d e f h = absurd (true≢false (sym h))

pub listed_documents_read_back : ListedDocumentsAreReadBack
listed_documents_read_back options reading flags source f unchecked tokens bullet plain rules wrapped tabless kinds =
    let laid : JoinTo (script (rendering options reading) source (nothing_yet flags) (document f)) (layout options flags f) = documents_laid_out options reading flags source f unchecked tokens bullet plain in
    record {
      ends_well = laid.ends_well;
      read = λ small.
          subst (λ (t : List ℕ). IsReadAsEvents t (events_of f)) (sym laid.is)
          (let short : 8 * length (layout options flags f) + 28 < 2 ^ 64 = subst (λ (t : List ℕ). 8 * length t + 28 < 2 ^ 64) laid.is small in
          agreed_layouts_read_back options flags f tokens bullet plain rules wrapped tabless short (kinds_agree (layout options flags f) (omega (arith, short)) kinds));
    }

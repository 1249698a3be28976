-- What is handed for a document of paragraphs of lines, headings, thematic breaks and fenced code is read as this document.
use Rattle.std.proofs.Common.{◌≡◌, ℕ, suc, max, ◌-◌, ◌^◌, ◌<◌, Bool, true, false, nat_lt, not, ◌==◌, ◌&&◌, ◌||◌, ◌⊎◌, inl, inr, true≢false, List, [], ◌∷◌, ◌++◌, length, map, replicate, codes, flat_map, refl, ap, sym, subst, ◌∙◌, arith, append_assoc, append-nil, None, Ok, Result}
use Rattle.std.specs.Char.{char_set_contains}
use Rattle.std.specs.List.{AllByRecursion, concat, list_all}
use Rattle.tocmark_event.specs.Options.{OptionsView, default_options}
use Rattle.tocmark_event.specs.Merged.{merged, after_text}
use Rattle.tocmark_event.specs.Reading.{ReadingView}
use Rattle.tocmark_event.specs.View.{EventView, Start, End, Leaf, Text, SoftBreak, Rule, Paragraph, CodeBlock, Fenced, end_of}
use Rattle.tocmark_event.specs.declared.event.TagEnd.TheVariants as end
use Rattle.tocmark_event.specs.declared.event.flags.ParserOptions.{ParserOptions}
use Rattle.tocmark_event.specs.declared.options.Error.{Error}
use Rattle.std.proofs.lemmas.Bool.Decides.{nat_tests}
use Rattle.tocmark_read_scan.proofs.PlainTests.{all_from, both_false, both_true, eq_of, is_not, none_of}
use Rattle.tocmark_reader.specs.PlainTexts.{IsReadAs, line_events}
use Rattle.tocmark_reader.specs.Reading.{core_reading}
use Rattle.tocmark_reader.proofs.PlainReading.{IsPrintable, spelled_text}
use Rattle.tocmark_spelling.specs.Plan.{Setting, Manner}
use Rattle.tocmark_spelling.specs.PlanOf.{setting_of}
use Rattle.tocmark_choose.specs.Candidates.{preferred_manner}
use Rattle.tocmark_laws.specs.PlainLines.{is_line, PlacedLine, texts}
use Rattle.tocmark_laws.specs.TextBlocks.{ParagraphKind, HeadingKind, place_in, tag_of}
use Rattle.tocmark_laws.proofs.PlainCharacters.{parts_of}
use Rattle.tocmark_laws.proofs.PlainEscapedBytes.{escaped_text_is}
use Rattle.tocmark_laws.proofs.PlainEscapedLines.{line_means}
use Rattle.tocmark_laws.proofs.PlainEscapedTexts.{IsLine, line_parts, plain_lines, plain_parts, escapes_are_parts, parts_mean_lines}
use Rattle.tocmark_laws.proofs.PlainParagraph.{Escapes, IsLineText, line_from, lines_stand}
use Rattle.tocmark_laws.proofs.PlainSpelling.{placed, all_placed, AreLinesIn}
use Rattle.tocmark_state.specs.Walk.{Walk, Done, done, nothing_yet, script}
use Rattle.tocmark_state.specs.Ranges.{Pair}
use Rattle.tocmark_state.specs.WorkView.{rendering}
use Rattle.tocmark_state.specs.Writes.{Makes}
use Rattle.tocmark_laws.specs.Documents.{AreReadBack, ArePlainTokens, PlainBlock, PlainParagraph, PlainHeading, PlainRule, PlainCode, is_info, is_info_character, is_code_character, heading_block, plain_events, plain_document, IsPlainBlock, MakesDocument}
use Rattle.tocmark_laws.proofs.DocumentCode.{IsToken, IsInfo, IsFlush}
use Rattle.tocmark_laws.proofs.DocumentCodeSpelling.{fence_rest, is_code}
use Rattle.tocmark_laws.proofs.DocumentRows.{Code, IsCode, IsCodeByte, AreCode, within_printable, Row, Blank, Break, Filled, row_bytes, rows_text, AreRows}
use Rattle.tocmark_laws.proofs.DocumentEvents.{code_leaves, row_said, rows_are_read, merged_before}
use Rattle.tocmark_laws.proofs.DocumentRowsWritten as written
use Rattle.tocmark_laws.proofs.DocumentWalks.{feeds_before, owed_behind, text_in, texts_in, StandsIn, blocks_are_handed}

-- merged events

merged_line_events : (l : List ℕ) (ms : List (List ℕ)) → merged (line_events l ms) ≡ line_events l ms
merged_line_events l [] = refl
merged_line_events l (m ∷ ms) = ap (λ es. after_text l (Leaf SoftBreak ∷ es)) (merged_line_events m ms)

-- the events of a block, merged
abbrev plain_said : PlainBlock → List EventView
plain_said (PlainParagraph l ms) = Start Paragraph ∷ (line_events l ms ++ End end.Paragraph ∷ [])
plain_said PlainRule = Leaf Rule ∷ []
plain_said (PlainCode info ls) = Start (CodeBlock (Fenced info)) ∷ (merged (code_leaves ls) ++ End end.CodeBlock ∷ [])
plain_said (PlainHeading level ts) = Start (tag_of (HeadingKind level)) ∷ Leaf (Text (concat ts)) ∷ End (end_of (tag_of (HeadingKind level))) ∷ []

plain_merged : (bs : List PlainBlock) → AllByRecursion IsPlainBlock bs → merged (flat_map plain_events bs) ≡ flat_map plain_said bs
plain_merged [] h = refl
plain_merged (PlainParagraph l ms ∷ bs) h =
    let lines : List EventView = line_events l ms in
    let last : EventView = End end.Paragraph in
    let rest : List EventView = flat_map plain_events bs in
    ap (λ es. Start Paragraph ∷ merged es) (append_assoc lines (last ∷ []) rest)
    ∙ ap (λ es. Start Paragraph ∷ es) (merged_before end.Paragraph lines rest)
    ∙ ap (λ es. Start Paragraph ∷ (es ++ last ∷ merged rest)) (merged_line_events l ms)
    ∙ ap (λ es. Start Paragraph ∷ (lines ++ last ∷ es)) (plain_merged bs (h.1))
    ∙ ap (λ es. Start Paragraph ∷ es) (sym (append_assoc lines (last ∷ []) (flat_map plain_said bs)))
plain_merged (PlainCode info ls ∷ bs) h =
    let first : EventView = Start (CodeBlock (Fenced info)) in
    let last : EventView = End end.CodeBlock in
    let rest : List EventView = flat_map plain_events bs in
    ap (λ es. first ∷ merged es) (append_assoc (code_leaves ls) (last ∷ []) rest)
    ∙ ap (λ es. first ∷ es) (merged_before end.CodeBlock (code_leaves ls) rest)
    ∙ ap (λ es. first ∷ (merged (code_leaves ls) ++ last ∷ es)) (plain_merged bs (h.1))
    ∙ ap (λ es. first ∷ es) (sym (append_assoc (merged (code_leaves ls)) (last ∷ []) (flat_map plain_said bs)))
plain_merged (PlainRule ∷ bs) h = ap (λ es. Leaf Rule ∷ es) (plain_merged bs (h.1))
plain_merged (PlainHeading level ts ∷ bs) h =
    let tag = tag_of (HeadingKind level) in
    let leaves : List EventView = map (λ u. Leaf (Text u)) ts in
    let last : EventView = End (end_of tag) in
    let rest : List EventView = flat_map plain_events bs in
    ap (λ es. Start tag ∷ merged es) (append_assoc leaves (last ∷ []) rest)
    ∙ ap (λ es. Start tag ∷ es) (merged_before (end_of tag) leaves rest)
    ∙ ap (λ es. Start tag ∷ (es ++ last ∷ merged rest)) (written.merged_some ts (h.0))
    ∙ ap (λ es. Start tag ∷ Leaf (Text (concat ts)) ∷ last ∷ es) (plain_merged bs (h.1))

-- the options' fence

token_from : (c : ℕ) → char_set_contains (codes "`~") c ≡ true → IsToken c
token_from c h = by_test (c == 96) (c == 126) refl refl h
  where
    by_test : (a b : Bool) → (c == 96) ≡ a → (c == 126) ≡ b → char_set_contains (codes "`~") c ≡ true → IsToken c
    by_test true b e k h = inl (eq_of c 96 e)
    by_test false true e k h = inr (eq_of c 126 k)
    by_test false false e k h = absurd (true≢false (sym h ∙ none_of (codes "`~") c (e, (k, tt))))

info_from : (token b : ℕ) → IsToken token → IsPrintable b → is_info_character b ≡ true → IsInfo token b
info_from token b is p h =
    let none = is_not ((b == 38) || (b == 92) || (b == 96) || (b == 126)) h in
    let tilde = both_false ((b == 38) || (b == 92) || (b == 96)) (b == 126) none in
    let tick = both_false ((b == 38) || (b == 92)) (b == 96) (tilde.0) in
    let back = both_false (b == 38) (b == 92) (tick.0) in
    record {
      within = within_printable b p;
      tick = tick.1;
      other = by_token token is (tick.1) (tilde.1);
      back = back.1;
      amp = back.0;
    }
  where
    by_token : (token : ℕ) → IsToken token → (b == 96) ≡ false → (b == 126) ≡ false → (b == token) ≡ false
    by_token token (inl e) tick tilde = ap (λ t. b == t) e ∙ tick
    by_token token (inr e) tick tilde = ap (λ t. b == t) e ∙ tilde

all_info : (token : ℕ) (info : List ℕ) → IsToken token → AllByRecursion IsPrintable info → list_all is_info_character info ≡ true → AllByRecursion (IsInfo token) info
all_info token [] is p h = tt
all_info token (b ∷ bs) is p h = let both = both_true (is_info_character b) (list_all is_info_character bs) h in (info_from token b is (p.0) (both.0), all_info token bs is (p.1) (both.1))

-- what the test of info strings says
record IsGoodInfo (token : ℕ) (info : List ℕ) : Type 0 where
  bytes : AllByRecursion (IsInfo token) info
  flush : IsFlush info
  printable : AllByRecursion IsPrintable info

good_info : (token : ℕ) (info : List ℕ) → IsToken token → is_info info ≡ true → IsGoodInfo token info
good_info token [] is h = record { bytes = tt; flush = tt; printable = tt }
good_info token (c ∷ cs) is h =
    let all = both_true (is_line (c ∷ cs) && not (c == 32)) (list_all is_info_character (c ∷ cs)) h in
    let both = both_true (is_line (c ∷ cs)) (not (c == 32)) (all.0) in
    let line = line_from (c ∷ cs) (both.0) in
    record {
      bytes = all_info token (c ∷ cs) is line.printable (all.1);
      flush = (is_not (c == 32) (both.1), line.last);
      printable = line.printable;
    }

code_from : (b : ℕ) → is_code_character b ≡ true → IsCodeByte b
code_from b h =
    let both = both_true (nat_lt b 128) (not ((b == 0) || (b == 10) || (b == 13))) h in
    let return = both_false ((b == 0) || (b == 10)) (b == 13) (is_not ((b == 0) || (b == 10) || (b == 13)) (both.1)) in
    let feed = both_false (b == 0) (b == 10) (return.0) in
    let low : nat_lt b 128 ≡ true = both.0 in
    record { clean = record { ascii = grind (arith, low, nat_tests); some = feed.0; return = return.1 }; feed = feed.1 }

module _ (o : OptionsView) (reading : List ℕ → ParserOptions → ReadingView) (flags : ParserOptions) (token : char_set_contains (codes "*_") o.emphasis_token ≡ true) (code_token : char_set_contains (codes "`~") o.code_block_token ≡ true) where
  abbrev setting : Setting
  setting = setting_of o flags reading None

  abbrev manner : Manner
  manner = preferred_manner o

  escapes : Escapes setting manner
  escapes = record { literal = refl; entities = refl; token = token }

  abbrev first : List ℕ → List (List ℕ) → PlacedLine
  first l ms = placed setting manner l ms

  abbrev more : List (List ℕ) → List PlacedLine
  more ms = all_placed setting manner ms

  abbrev row : PlainBlock → Row
  row (PlainParagraph l ms) = Filled ParagraphKind (line_parts (first l ms)) (map line_parts (more ms))
  row PlainRule = Break
  row (PlainCode info ls) = Code o.code_block_token (fence_rest o info ls) info ls
  row (PlainHeading level ts) = Filled (HeadingKind level) (parts_of (place_in o flags (HeadingKind level)) (concat ts)) []

  lines_in : (l : List ℕ) (ms : List (List ℕ)) → list_all is_line (l ∷ ms) ≡ true → AreLinesIn setting manner (l ∷ ms)
  lines_in l ms h = lines_stand setting manner (l ∷ ms) escapes (all_from is_line IsLineText (l ∷ ms) line_from h)

  lines_are : (ls : List (List ℕ)) → AreLinesIn setting manner ls → AllByRecursion IsLine (all_placed setting manner ls)
  lines_are [] h = tt
  lines_are (l ∷ ls) h = (h.0, lines_are ls (h.1))

  all_lines : (l : List ℕ) (ms : List (List ℕ)) → list_all is_line (l ∷ ms) ≡ true → AllByRecursion IsLine (first l ms ∷ more ms)
  all_lines l ms h = let k = lines_in l ms h in (k.0, lines_are ms (k.1))

  placed_texts : (ms : List (List ℕ)) → texts (more ms) ≡ ms
  placed_texts [] = refl
  placed_texts (n ∷ ms) = ap (λ ls. n ∷ ls) (placed_texts ms)

  code_good : (info : List ℕ) (ls : List (List ℕ)) → IsPlainBlock (PlainCode info ls) → IsCode o.code_block_token (fence_rest o info ls) info ls
  code_good info ls h =
      let is : IsToken o.code_block_token = token_from o.code_block_token code_token in
      let both = both_true (is_info info) (list_all (λ l. list_all is_code_character l) ls) h in
      let good : IsGoodInfo o.code_block_token info = good_info o.code_block_token info is (both.0) in
      is_code o info ls is good.bytes good.flush good.printable
      (all_from (λ l. list_all is_code_character l) AreCode ls (λ l k. all_from is_code_character IsCodeByte l code_from k) (both.1))

  pub may_stand : (b : PlainBlock) → IsPlainBlock b → StandsIn o reading flags b
  may_stand (PlainParagraph l ms) h = lines_in l ms h
  may_stand PlainRule h = tt
  may_stand (PlainCode info ls) h = code_good info ls h
  may_stand (PlainHeading level ts) h = written.has_text (heading_block level ts) h

  row_good : (b : PlainBlock) → IsPlainBlock b → AreRows (row b ∷ [])
  row_good (PlainParagraph l ms) h =
      let lines = all_lines l ms h in
      record { lines = plain_lines (first l ms ∷ more ms) lines; plain = plain_parts (first l ms) (more ms) lines; ends = tt }
  row_good PlainRule h = tt
  row_good (PlainCode info ls) h = (code_good info ls h, tt)
  row_good (PlainHeading level ts) h = (written.filled o flags token (heading_block level ts) h, tt)

  row_is : (b : PlainBlock) → IsPlainBlock b → text_in o reading flags b ≡ row_bytes (row b)
  row_is (PlainParagraph l ms) h =
      let lines = all_lines l ms h in
      escaped_text_is (first l ms) (more ms) lines ∙ escapes_are_parts (first l ms) (more ms) lines ∙ sym (spelled_text (line_parts (first l ms)) (map line_parts (more ms)))
  row_is PlainRule h = refl
  row_is (PlainCode info ls) h = refl
  row_is (PlainHeading level ts) h = written.block_is o flags token (heading_block level ts) h

  some_feeds : (b : PlainBlock) → owed_behind o b ≡ suc (owed_behind o b - 1)
  some_feeds (PlainParagraph l ms) = omega arith
  some_feeds (PlainHeading level ts) = omega arith
  some_feeds PlainRule = omega arith
  some_feeds (PlainCode info ls) = omega arith

  -- after a block enough line feeds stand for code to begin on a line of its own
  before_is : (b c : PlainBlock) → feeds_before (owed_behind o b) c ≡ owed_behind o b
  before_is b (PlainParagraph l ms) = refl
  before_is b (PlainHeading level ts) = refl
  before_is b PlainRule = refl
  before_is b (PlainCode info ls) = let some = some_feeds b in omega (arith, some)

  abbrev rows_behind : PlainBlock → List PlainBlock → List Row
  rows_behind b [] = []
  rows_behind b (c ∷ cs) = replicate (owed_behind o b - 1) Blank ++ row c ∷ rows_behind c cs

  texts_joined : (feeds : ℕ) (b : PlainBlock) (bs : List PlainBlock) → AllByRecursion IsPlainBlock (b ∷ bs) → concat (texts_in o reading flags feeds (b ∷ bs)) ≡ replicate (feeds_before feeds b) 10 ++ rows_text (row b) (rows_behind b bs)
  texts_joined feeds b [] h = append-nil (replicate (feeds_before feeds b) 10 ++ text_in o reading flags b) ∙ ap (λ (t : List ℕ). replicate (feeds_before feeds b) 10 ++ t) (row_is b (h.0))
  texts_joined feeds b (c ∷ cs) h =
      let f : ℕ = owed_behind o b in
      let front : List ℕ = replicate (feeds_before feeds b) 10 in
      let later : List ℕ = concat (texts_in o reading flags f (c ∷ cs)) in
      let rest : List ℕ = rows_text (row c) (rows_behind c cs) in
      append_assoc front (text_in o reading flags b) later
      ∙ ap (λ (t : List ℕ). front ++ (t ++ later)) (row_is b (h.0))
      ∙ ap (λ (t : List ℕ). front ++ (row_bytes (row b) ++ t)) (texts_joined f c cs (h.1))
      ∙ ap (λ n. front ++ (row_bytes (row b) ++ (replicate n 10 ++ rest))) (before_is b c ∙ some_feeds b)
      ∙ ap (λ (t : List ℕ). front ++ t) (sym (written.joined_behind o flags token (row_bytes (row b)) (f - 1) (row c) (rows_behind c cs)))

  rows_good : (b : PlainBlock) (bs : List PlainBlock) → AllByRecursion IsPlainBlock (b ∷ bs) → AreRows (row b ∷ rows_behind b bs)
  rows_good b [] h = row_good b (h.0)
  rows_good (PlainParagraph l ms) (c ∷ cs) h =
      let n : ℕ = max o.newlines_after_paragraph 2 in
      let some : n - 1 ≡ suc (n - 2) = omega arith in
      let later : List Row = row c ∷ rows_behind c cs in
      subst (λ m. AreRows (row (PlainParagraph l ms) ∷ (replicate m Blank ++ later))) (sym some)
      (row_good (PlainParagraph l ms) (h.0), written.behind_blank o flags token (n - 2) (row c) (rows_behind c cs) (rows_good c cs (h.1)))
  rows_good (PlainCode info ls) (c ∷ cs) h = (code_good info ls (h.0), written.behind_blanks o flags token (owed_behind o (PlainCode info ls) - 1) (row c) (rows_behind c cs) (rows_good c cs (h.1)))
  rows_good PlainRule (c ∷ cs) h = written.behind_blanks o flags token (owed_behind o PlainRule - 1) (row c) (rows_behind c cs) (rows_good c cs (h.1))
  rows_good (PlainHeading level ts) (c ∷ cs) h =
      ((row_good (PlainHeading level ts) (h.0)).0, written.behind_blanks o flags token (owed_behind o (PlainHeading level ts) - 1) (row c) (rows_behind c cs) (rows_good c cs (h.1)))

  row_means : (b : PlainBlock) (rs : List Row) → row_said (row b ∷ rs) ≡ plain_said b ++ row_said rs
  row_means (PlainParagraph l ms) rs =
      ap (λ es. Start Paragraph ∷ (es ++ End end.Paragraph ∷ row_said rs)) (parts_mean_lines (first l ms) (more ms) ∙ ap (line_events l) (placed_texts ms))
      ∙ ap (λ es. Start Paragraph ∷ es) (sym (append_assoc (line_events l ms) (End end.Paragraph ∷ []) (row_said rs)))
  row_means PlainRule rs = refl
  row_means (PlainCode info ls) rs = ap (λ es. Start (CodeBlock (Fenced info)) ∷ es) (sym (append_assoc (merged (code_leaves ls)) (End end.CodeBlock ∷ []) (row_said rs)))
  row_means (PlainHeading level ts) rs =
      ap (λ t. Start (tag_of (HeadingKind level)) ∷ Leaf (Text t) ∷ End (end_of (tag_of (HeadingKind level))) ∷ row_said rs) (line_means (place_in o flags (HeadingKind level)) (concat ts))

  rows_mean : (b : PlainBlock) (bs : List PlainBlock) → row_said (rows_behind b bs) ≡ flat_map plain_said bs
  rows_mean b [] = refl
  rows_mean b (c ∷ cs) =
      written.said_behind o flags token (owed_behind o b - 1) (row c ∷ rows_behind c cs)
      ∙ row_means c (rows_behind c cs)
      ∙ ap (λ (es : List EventView). plain_said c ++ es) (rows_mean c cs)

  few_before : (b : PlainBlock) → (feeds_before 0 b ≡ 0) ⊎ (feeds_before 0 b ≡ 1)
  few_before (PlainParagraph l ms) = inl refl
  few_before (PlainHeading level ts) = inl refl
  few_before PlainRule = inl refl
  few_before (PlainCode info ls) = inr refl

  -- a line feed before rows is a blank row
  behind_feeds : (n : ℕ) (r : Row) (rs : List Row) → AreRows (r ∷ rs) → (n ≡ 0) ⊎ (n ≡ 1) → length (replicate n 10 ++ rows_text r rs) < 2 ^ 64 → IsReadAs (core_reading (replicate n 10 ++ rows_text r rs)) (row_said (r ∷ rs))
  behind_feeds n r rs h (inl e) fits =
      subst (λ n. IsReadAs (core_reading (replicate n 10 ++ rows_text r rs)) (row_said (r ∷ rs))) (sym e) (rows_are_read r rs h (subst (λ n. length (replicate n 10 ++ rows_text r rs) < 2 ^ 64) e fits))
  behind_feeds n r rs h (inr e) fits =
      subst (λ n. IsReadAs (core_reading (replicate n 10 ++ rows_text r rs)) (row_said (r ∷ rs))) (sym e) (rows_are_read Blank (r ∷ rs) h (subst (λ n. length (replicate n 10 ++ rows_text r rs) < 2 ^ 64) e fits))

  texts_are_read : (b : PlainBlock) (bs : List PlainBlock) → AllByRecursion IsPlainBlock (b ∷ bs) → length (concat (texts_in o reading flags 0 (b ∷ bs))) < 2 ^ 64 → IsReadAs (core_reading (concat (texts_in o reading flags 0 (b ∷ bs)))) (merged (flat_map plain_events (b ∷ bs)))
  texts_are_read b bs h fits =
      let text : List ℕ = rows_text (row b) (rows_behind b bs) in
      let front : List ℕ = replicate (feeds_before 0 b) 10 in
      let joined : concat (texts_in o reading flags 0 (b ∷ bs)) ≡ front ++ text = texts_joined 0 b bs h in
      let said : row_said (row b ∷ rows_behind b bs) ≡ merged (flat_map plain_events (b ∷ bs)) =
      row_means b (rows_behind b bs) ∙ ap (λ (es : List EventView). plain_said b ++ es) (rows_mean b bs) ∙ sym (plain_merged (b ∷ bs) h)
      in
      subst (λ (xs : List ℕ). IsReadAs (core_reading xs) (merged (flat_map plain_events (b ∷ bs)))) (sym joined)
      (subst (λ (es : List EventView). IsReadAs (core_reading (front ++ text)) es) said
      (behind_feeds (feeds_before 0 b) (row b) (rows_behind b bs) (rows_good b bs h) (few_before b) (subst (λ (xs : List ℕ). length xs < 2 ^ 64) joined fits)))

  all_stand : (bs : List PlainBlock) → AllByRecursion IsPlainBlock bs → AllByRecursion (StandsIn o reading flags) bs
  all_stand [] h = tt
  all_stand (b ∷ bs) h = (may_stand b (h.0), all_stand bs (h.1))

-- the law
pub plain_read_back : (options : OptionsView) (reading : List ℕ → ParserOptions → ReadingView) (flags : ParserOptions) (source : List ℕ) (b : PlainBlock) (bs : List PlainBlock) →
    options.check_plain_blocks ≡ false → ArePlainTokens options → AllByRecursion IsPlainBlock (b ∷ bs) →
    AreReadBack (script (rendering options reading) source (nothing_yet flags) (plain_document (b ∷ bs))) (merged (flat_map plain_events (b ∷ bs)))
plain_read_back options reading flags source b bs off tokens h =
    let token = tokens.emphasis in
    let fence = tokens.code in
    let walk : script (rendering options reading) source (nothing_yet flags) (plain_document (b ∷ bs)) ≡ record { texts = texts_in options reading flags 0 (b ∷ bs); outcome = Ok done } = blocks_are_handed options reading flags source off b bs (all_stand options reading flags token fence (b ∷ bs) h) in
    subst (λ (w : Walk Done). AreReadBack w (merged (flat_map plain_events (b ∷ bs)))) (sym walk)
    (record { ends_well = refl; read = λ fits. texts_are_read options reading flags token fence b bs h fits })

-- a call with the default options that made the script of such a document handed texts that are read as it
pub document_made : {W X : Type 0} (gives refuses : W → List ℕ → W → Type 0) (w v : W) (r : Result X Error) (o : OptionsView) (reading : List ℕ → ParserOptions → ReadingView) (flags : ParserOptions) (p : List Pair) → o ≡ default_options → Makes gives refuses w v r done (script (rendering o reading) [] (nothing_yet flags) p) → MakesDocument gives refuses w v r p
document_made gives refuses w v r o reading flags p default made =
    λ b bs h e.
    let off : o.check_plain_blocks ≡ false = ap (λ (x : OptionsView). x.check_plain_blocks) default in
    let token : char_set_contains (codes "*_") o.emphasis_token ≡ true = ap (λ (x : OptionsView). char_set_contains (codes "*_") x.emphasis_token) default in
    let fence : char_set_contains (codes "`~") o.code_block_token ≡ true = ap (λ (x : OptionsView). char_set_contains (codes "`~") x.code_block_token) default in
    let handed : List (List ℕ) = texts_in o reading flags 0 (b ∷ bs) in
    let is : script (rendering o reading) [] (nothing_yet flags) p ≡ record { texts = handed; outcome = Ok done } =
    ap (λ (q : List Pair). script (rendering o reading) [] (nothing_yet flags) q) e
    ∙ blocks_are_handed o reading flags [] off b bs (all_stand o reading flags token fence (b ∷ bs) h)
    in
    (handed, subst (λ (x : Walk Done). Makes gives refuses w v r done x) is made, λ fits. texts_are_read o reading flags token fence b bs h fits)

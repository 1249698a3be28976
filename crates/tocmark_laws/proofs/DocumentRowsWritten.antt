-- What is handed for a document of headings and paragraphs of one line each is a text of rows that mean it.
use Rattle.std.proofs.Common.{◌≡◌, ◌≢◌, ℕ, zero, suc, max, ◌-◌, ◌^◌, ◌<◌, Bool, true, false, not, ◌==◌, ◌&&◌, ◌||◌, List, [], ◌∷◌, ◌++◌, length, map, replicate, codes, chars, flat_map, refl, ap, sym, subst, ◌∙◌, arith, append_assoc, append-nil, None, Some, Option, inl, inr, ◌⊎◌, IsAscii, true≢false}
use Rattle.std.proofs.lemmas.Str.{chars-IsAscii}
use Rattle.std.specs.Prelude.{is_none}
use Rattle.std.specs.Char.{char_set_contains, is_ascii_digit}
use Rattle.std.specs.List.{AllByRecursion, concat}
use Rattle.tocmark_event.specs.Options.{OptionsView}
use Rattle.tocmark_event.specs.Merged.{merged, after_text}
use Rattle.tocmark_event.specs.Reading.{ReadingView}
use Rattle.tocmark_event.specs.View.{EventView, Start, End, Leaf, Text, end_of}
use Rattle.tocmark_event.specs.declared.event.flags.ParserOptions.{ParserOptions}
use Rattle.tocmark_read_scan.specs.PlainParts.{Part, spelled, spelled_part, last_byte}
use Rattle.tocmark_read_scan.proofs.PlainPieces.{feed_joined}
use Rattle.tocmark_read_scan.proofs.PlainTests.{differs}
use Rattle.tocmark_reader.specs.PlainTexts.{IsReadAs}
use Rattle.tocmark_reader.specs.Reading.{core_reading}
use Rattle.tocmark_write_texts.specs.Escape.{Surroundings, ends_line, is_read_as_marker, spot_from}
use Rattle.tocmark_laws.specs.PlainLines.{is_line, IsInParagraph}
use Rattle.tocmark_laws.specs.TextBlocks.{Kind, ParagraphKind, HeadingKind, Block, block_events, block_text, blocks_walk, document_of, feeds_behind, mark_of, place_in, tag_of, texts_behind, HasText}
use Rattle.tocmark_laws.proofs.PlainCharacters.{part_of, parts_on, parts_of, part_elim, no_marker}
use Rattle.tocmark_laws.proofs.PlainEscapes.{ArePrintable, escape_is}
use Rattle.tocmark_laws.proofs.PlainEscapedBytes.{escaped_is}
use Rattle.tocmark_laws.proofs.PlainEscapedLines.{line_means}
use Rattle.tocmark_laws.proofs.PlainEscapedTexts.{IsLine, plain_line, plain_parts}
use Rattle.tocmark_laws.proofs.PlainParagraph.{IsLineText, line_from}
use Rattle.tocmark_laws.proofs.BlockWalks.{blocks_are_handed}
use Rattle.tocmark_state.specs.Walk.{Walk, Done, nothing_yet, script}
use Rattle.tocmark_state.specs.WorkView.{rendering}
use Rattle.tocmark_laws.specs.Documents.{IsLineBlock, AreReadBack}
use Rattle.tocmark_laws.proofs.DocumentHeadings.{EndsHeading}
use Rattle.tocmark_laws.proofs.DocumentRows.{Row, Blank, Filled, row_bytes, rows_text, IsFilled, EndsIf, AreRows}
use Rattle.tocmark_laws.proofs.DocumentEvents.{row_said, rows_are_read, merged_before}

-- what such a block means: its line as one text
abbrev pub line_block_events : Block → List EventView
line_block_events b = Start (tag_of b.kind) ∷ Leaf (Text (concat b.texts)) ∷ End (end_of (tag_of b.kind)) ∷ []

abbrev pub line_document : List Block → List EventView
line_document bs = flat_map line_block_events bs

-- how the text of a heading ends

or_true : (x : Bool) → (x || true) ≡ true
or_true true = refl
or_true false = refl

hash_marked : (p : Surroundings) (before : Option ℕ) (o : Bool) (cs : List ℕ) → p.in_heading ≡ true → is_read_as_marker p (spot_from before o 35 cs) ≡ true
unfolding is_read_as_marker
hash_marked p before o cs h = rw h (or_true (is_none before && not p.in_table))

ends_behind : (xs ys : List ℕ) → EndsHeading ys → EndsHeading (xs ++ ys)
ends_behind xs ys h = record {
  body = xs ++ h.body;
  last = h.last;
  split = ap (λ (l : List ℕ). xs ++ l) h.split ∙ sym (append_assoc xs h.body (h.last ∷ []));
  space = h.space;
  hash = by_case h.hash;
}
  where
    by_case : ((h.last == 35) ≡ false) ⊎ ((h.last == 35) ≡ true) × ((more : List ℕ) × (h.body ≡ more ++ 92 ∷ [])) → ((h.last == 35) ≡ false) ⊎ ((h.last == 35) ≡ true) × ((more : List ℕ) × (xs ++ h.body ≡ more ++ 92 ∷ []))
    by_case (inl e) = inl e
    by_case (inr k) = inr (k.0, (xs ++ k.1.0, ap (λ (l : List ℕ). xs ++ l) (k.1.1) ∙ sym (append_assoc xs (k.1.0) (92 ∷ []))))

heading_ends : (p : Surroundings) (before : Option ℕ) (o : Bool) (c : ℕ) (cs : List ℕ) → p.in_heading ≡ true → (last_byte c cs == 32) ≡ false → EndsHeading (spelled (parts_on p before o (c ∷ cs)))
heading_ends p before o c [] h e =
    part_elim (λ a. EndsHeading (spelled_part a ++ [])) p before o c []
    (λ _. record { body = 38 ∷ 97 ∷ 109 ∷ 112 ∷ []; last = 59; split = refl; space = refl; hash = inl refl })
    (λ _. record { body = 38 ∷ 35 ∷ 51 ∷ 50 ∷ []; last = 59; split = refl; space = refl; hash = inl refl })
    (λ _. record { body = 92 ∷ []; last = c; split = refl; space = e; hash = by_hash (c == 35) refl })
    (λ n _ _. record { body = []; last = c; split = refl; space = e; hash = inl (differs (λ x. is_read_as_marker p (spot_from before o x [])) c 35 (hash_marked p before o [] h) (no_marker p before o c [] n)) })
  where
    by_hash : (x : Bool) → (c == 35) ≡ x → ((c == 35) ≡ false) ⊎ ((c == 35) ≡ true) × ((more : List ℕ) × (92 ∷ [] ≡ more ++ 92 ∷ []))
    by_hash true k = inr (k, ([], refl))
    by_hash false k = inl k
heading_ends p before o c (d ∷ ds) h e =
    let q : Bool = is_ascii_digit c && o in
    ends_behind (spelled_part (part_of p before o c (d ∷ ds))) (spelled (parts_on p (Some c) q (d ∷ ds))) (heading_ends p (Some c) q d ds h e)

-- blocks as rows

module _ (o : OptionsView) (flags : ParserOptions) (token : char_set_contains (codes "*_") o.emphasis_token ≡ true) where
  abbrev place : Kind → Surroundings
  place k = place_in o flags k

  placed : (k : Kind) → IsInParagraph (place k)
  unfolding ends_line
  placed k = record { literal = refl; first = refl; last = refl; front = refl; table = refl; token = token; line = refl }

  abbrev row : Block → Row
  row b = Filled b.kind (parts_of (place b.kind) (concat b.texts)) []

  line_of : (b : Block) → IsLineBlock b → IsLine (place b.kind, concat b.texts)
  line_of b h =
      let line = line_from (concat b.texts) h in
      record { place = placed b.kind; some = line.some; printable = line.printable; last = line.last }

  ends_if : (k : Kind) (cs : List ℕ) → IsLineText cs → EndsIf k (parts_of (place k) cs) []
  ends_if ParagraphKind cs h = tt
  ends_if (HeadingKind l) [] h = let some : 0 < 0 = h.some in absurd (omega arith)
  ends_if (HeadingKind l) (c ∷ cs) h = heading_ends (place (HeadingKind l)) None true c cs refl h.last

  pub filled : (b : Block) → IsLineBlock b → IsFilled b.kind (parts_of (place b.kind) (concat b.texts)) []
  filled b h = record {
    lines = (plain_line (place b.kind) (concat b.texts) (line_of b h), tt);
    plain = plain_parts (place b.kind, concat b.texts) [] (line_of b h, tt);
    ends = ends_if b.kind (concat b.texts) (line_from (concat b.texts) h);
  }

  pub block_is : (b : Block) → IsLineBlock b → block_text o flags b ≡ row_bytes (row b)
  block_is b h =
      let line = line_of b h in
      ap (λ (xs : List ℕ). mark_of b.kind ++ xs) (escaped_is (place b.kind, concat b.texts) line ∙ escape_is (place b.kind) (concat b.texts) (placed b.kind) line.printable)

  abbrev rows_behind : Kind → List Block → List Row
  rows_behind k [] = []
  rows_behind k (b ∷ bs) = replicate (feeds_behind o k - 1) Blank ++ row b ∷ rows_behind b.kind bs

  pub joined_behind : (l : List ℕ) (n : ℕ) (r : Row) (rs : List Row) → feed_joined l (map row_bytes (replicate n Blank ++ r ∷ rs)) ≡ l ++ (replicate (suc n) 10 ++ rows_text r rs)
  joined_behind l zero r rs = refl
  joined_behind l (suc n) r rs = ap (λ (xs : List ℕ). l ++ 10 ∷ xs) (joined_behind [] n r rs)

  pub some_feeds : (k : Kind) → feeds_behind o k ≡ suc (feeds_behind o k - 1)
  some_feeds ParagraphKind = omega arith
  some_feeds (HeadingKind l) = omega arith

  texts_joined : (feeds : ℕ) (b : Block) (bs : List Block) → AllByRecursion IsLineBlock (b ∷ bs) → concat (texts_behind o flags feeds (b ∷ bs)) ≡ replicate feeds 10 ++ rows_text (row b) (rows_behind b.kind bs)
  texts_joined feeds b [] h = append-nil (replicate feeds 10 ++ block_text o flags b) ∙ ap (λ (t : List ℕ). replicate feeds 10 ++ t) (block_is b (h.0))
  texts_joined feeds b (c ∷ cs) h =
      let f : ℕ = feeds_behind o b.kind in
      let front : List ℕ = replicate feeds 10 in
      let later : List ℕ = concat (texts_behind o flags f (c ∷ cs)) in
      let rest : List ℕ = rows_text (row c) (rows_behind c.kind cs) in
      append_assoc front (block_text o flags b) later
      ∙ ap (λ (t : List ℕ). front ++ (t ++ later)) (block_is b (h.0))
      ∙ ap (λ (t : List ℕ). front ++ (row_bytes (row b) ++ t)) (texts_joined f c cs (h.1))
      ∙ ap (λ n. front ++ (row_bytes (row b) ++ (replicate n 10 ++ rest))) (some_feeds b.kind)
      ∙ ap (λ (t : List ℕ). front ++ t) (sym (joined_behind (row_bytes (row b)) (f - 1) (row c) (rows_behind c.kind cs)))

  pub behind_blank : (n : ℕ) (r : Row) (rs : List Row) → AreRows (r ∷ rs) → AreRows (Blank ∷ (replicate n Blank ++ r ∷ rs))
  behind_blank zero r rs h = h
  behind_blank (suc n) r rs h = behind_blank n r rs h

  pub behind_blanks : (n : ℕ) (r : Row) (rs : List Row) → AreRows (r ∷ rs) → AreRows (replicate n Blank ++ r ∷ rs)
  behind_blanks zero r rs h = h
  behind_blanks (suc n) r rs h = behind_blank n r rs h

  rows_from : (k : Kind) (parts : List Part) (bs : List Block) → IsFilled k parts [] → AllByRecursion IsLineBlock bs → AreRows (Filled k parts [] ∷ rows_behind k bs)
  rows_from ParagraphKind parts [] h hs = h
  rows_from ParagraphKind parts (c ∷ cs) h hs =
      let n : ℕ = max o.newlines_after_paragraph 2 in
      let some : n - 1 ≡ suc (n - 2) = omega arith in
      let more : List Row = row c ∷ rows_behind c.kind cs in
      subst (λ m. AreRows (Filled ParagraphKind parts [] ∷ (replicate m Blank ++ more))) (sym some)
      (h, behind_blank (n - 2) (row c) (rows_behind c.kind cs) (rows_from c.kind (parts_of (place c.kind) (concat c.texts)) cs (filled c (hs.0)) (hs.1)))
  rows_from (HeadingKind l) parts [] h hs = (h, tt)
  rows_from (HeadingKind l) parts (c ∷ cs) h hs =
      (h, behind_blanks (feeds_behind o (HeadingKind l) - 1) (row c) (rows_behind c.kind cs) (rows_from c.kind (parts_of (place c.kind) (concat c.texts)) cs (filled c (hs.0)) (hs.1)))

  pub said_behind : (n : ℕ) (rs : List Row) → row_said (replicate n Blank ++ rs) ≡ row_said rs
  said_behind zero rs = refl
  said_behind (suc n) rs = said_behind n rs

  rows_mean : (k : Kind) (bs : List Block) → row_said (rows_behind k bs) ≡ line_document bs
  rows_mean k [] = refl
  rows_mean k (b ∷ bs) =
      said_behind (feeds_behind o k - 1) (row b ∷ rows_behind b.kind bs)
      ∙ ap (λ t. Start (tag_of b.kind) ∷ Leaf (Text t) ∷ End (end_of (tag_of b.kind)) ∷ row_said (rows_behind b.kind bs)) (line_means (place b.kind) (concat b.texts))
      ∙ ap (λ (es : List EventView). line_block_events b ++ es) (rows_mean b.kind bs)

  -- what is handed for such blocks is read as they are
  pub texts_are_read : (b : Block) (bs : List Block) → AllByRecursion IsLineBlock (b ∷ bs) → length (concat (texts_behind o flags 0 (b ∷ bs))) < 2 ^ 64 → IsReadAs (core_reading (concat (texts_behind o flags 0 (b ∷ bs)))) (line_document (b ∷ bs))
  texts_are_read b bs h fits =
      let joined : concat (texts_behind o flags 0 (b ∷ bs)) ≡ rows_text (row b) (rows_behind b.kind bs) = texts_joined 0 b bs h in
      let rows : AreRows (row b ∷ rows_behind b.kind bs) = rows_from b.kind (parts_of (place b.kind) (concat b.texts)) bs (filled b (h.0)) (h.1) in
      let said : row_said (row b ∷ rows_behind b.kind bs) ≡ line_document (b ∷ bs) =
      ap (λ t. Start (tag_of b.kind) ∷ Leaf (Text t) ∷ End (end_of (tag_of b.kind)) ∷ row_said (rows_behind b.kind bs)) (line_means (place b.kind) (concat b.texts))
      ∙ ap (λ (es : List EventView). line_block_events b ++ es) (rows_mean b.kind bs)
      in
      subst (λ (xs : List ℕ). IsReadAs (core_reading xs) (line_document (b ∷ bs))) (sym joined)
      (subst (λ (es : List EventView). IsReadAs (core_reading (rows_text (row b) (rows_behind b.kind bs))) es) said
      (rows_are_read (row b) (rows_behind b.kind bs) rows (subst (λ (xs : List ℕ). length xs < 2 ^ 64) joined fits)))

-- the events of such blocks, merged

merged_texts : (t : List ℕ) (ts : List (List ℕ)) → merged (map (λ u. Leaf (Text u)) (t ∷ ts)) ≡ Leaf (Text (concat (t ∷ ts))) ∷ []
merged_texts t [] = ap (λ u. Leaf (Text u) ∷ []) (sym (append-nil t))
merged_texts t (u ∷ us) = ap (after_text t) (merged_texts u us)

pub merged_some : (ts : List (List ℕ)) → is_line (concat ts) ≡ true → merged (map (λ u. Leaf (Text u)) ts) ≡ Leaf (Text (concat ts)) ∷ []
merged_some [] h = absurd (true≢false (sym h))
merged_some (t ∷ ts) h = merged_texts t ts

pub document_merged : (bs : List Block) → AllByRecursion IsLineBlock bs → merged (flat_map block_events bs) ≡ line_document bs
document_merged [] h = refl
document_merged (b ∷ bs) h =
    let texts : List EventView = map (λ u. Leaf (Text u)) b.texts in
    let last : EventView = End (end_of (tag_of b.kind)) in
    let rest : List EventView = flat_map block_events bs in
    ap (λ es. Start (tag_of b.kind) ∷ merged es) (append_assoc texts (last ∷ []) rest)
    ∙ ap (λ es. Start (tag_of b.kind) ∷ es) (merged_before (end_of (tag_of b.kind)) texts rest)
    ∙ ap (λ es. Start (tag_of b.kind) ∷ (es ++ last ∷ merged rest)) (merged_some b.texts (h.0))
    ∙ ap (λ es. Start (tag_of b.kind) ∷ Leaf (Text (concat b.texts)) ∷ last ∷ es) (document_merged bs (h.1))

-- the law

pub has_text : (b : Block) → IsLineBlock b → HasText b
has_text b h =
    let line = line_from (concat b.texts) h in
    by_some (concat b.texts) line.some line.printable
  where
    ascii : (xs : List ℕ) → ArePrintable xs → IsAscii xs
    ascii [] h i = omega arith
    ascii (x ∷ xs) h zero = let high : x < 127 = (h.0).high in omega arith
    ascii (x ∷ xs) h (suc i) = ascii xs (h.1) i

    by_some : (xs : List ℕ) → 0 < length xs → ArePrintable xs → chars xs ≢ []
    by_some [] some p e = absurd (omega (arith, some))
    by_some (x ∷ xs) some p e = none_is (sym (chars-IsAscii (x ∷ xs) (ascii (x ∷ xs) p)) ∙ e)
      where
        none_is : x ∷ xs ≡ [] → ⊥
        none_is k = let long : suc (length xs) ≡ 0 = ap length k in omega (arith, long)

have_text : (bs : List Block) → AllByRecursion IsLineBlock bs → AllByRecursion HasText bs
have_text [] h = tt
have_text (b ∷ bs) h = (has_text b (h.0), have_text bs (h.1))

pub read_back : (options : OptionsView) (reading : List ℕ → ParserOptions → ReadingView) (flags : ParserOptions) (source : List ℕ) (b : Block) (bs : List Block) →
    options.check_plain_blocks ≡ false → char_set_contains (codes "*_") options.emphasis_token ≡ true → AllByRecursion IsLineBlock (b ∷ bs) →
    AreReadBack (script (rendering options reading) source (nothing_yet flags) (document_of (b ∷ bs))) (merged (flat_map block_events (b ∷ bs)))
read_back options reading flags source b bs off token h =
    let walk : script (rendering options reading) source (nothing_yet flags) (document_of (b ∷ bs)) ≡ blocks_walk options flags (b ∷ bs) = blocks_are_handed options reading flags source off (b ∷ bs) (have_text (b ∷ bs) h) in
    subst (λ (w : Walk Done). AreReadBack w (merged (flat_map block_events (b ∷ bs)))) (sym walk)
    (record {
      ends_well = refl;
      read = λ fits. subst (λ (es : List EventView). IsReadAs (core_reading (concat (texts_behind options flags 0 (b ∷ bs)))) es) (sym (document_merged (b ∷ bs) h)) (texts_are_read options flags token b bs h fits);
    })

-- A plain block is declared of its lines, so the layout of blocks without lists is declared as they are.
use Rattle.std.proofs.Common.{◌≡◌, inl, inr, ℕ, zero, suc, ◌+◌, ◌<◌, Bool, true, false, ◌==◌, ◌&&◌, if◌then◌else◌, List, [], ◌∷◌, ◌++◌, length, map, flat_map, replicate, refl, ap, sym, subst, ◌∙◌, arith, length-append, codes, true≢false}
use Rattle.std.specs.Char.{encode_utf8, is_ascii_digit}
use Rattle.std.specs.List.{AllByRecursion, concat, list_all, list_any}
use Rattle.tocmark_event.specs.Options.{OptionsView}
use Rattle.tocmark_event.specs.View.{End, Leaf, SoftBreak}
use Rattle.tocmark_event.specs.declared.event.HeadingLevel.{HeadingLevel}
use Rattle.tocmark_event.specs.declared.event.TagEnd.TheVariants as end
use Rattle.tocmark_event.specs.declared.event.flags.ParserOptions.{ParserOptions}
use Rattle.tocmark_read_scan.specs.PlainParts.{Part, spelled}
use Rattle.tocmark_read_scan.proofs.PlainTests.{both_true, not_char}
use Rattle.tocmark_read_blocks.proofs.PlainFronts.{BeginsPlainly, GoesOn}
use Rattle.tocmark_reader.specs.Reading.{core_reading}
use Rattle.tocmark_write_texts.specs.Escape.{Surroundings, ends_line, escaped}
use Rattle.tocmark_spelling.specs.Opening.{fence, fence_length, fence_token}
use Rattle.tocmark_commonmark.specs.Leaves.{joined}
use Rattle.tocmark_commonmark.specs.Tree as read
use Rattle.tocmark_laws.specs.PlainLines.{is_line, IsInParagraph, PlacedLine}
use Rattle.tocmark_laws.specs.TextBlocks.{ParagraphKind, HeadingKind, place_in}
use Rattle.tocmark_laws.specs.Documents.{ArePlainTokens, PlainBlock, PlainParagraph, PlainHeading, PlainRule, PlainCode, IsPlainBlock, heading_block}
use Rattle.tocmark_laws.proofs.PlainCharacters.{parts_of}
use Rattle.tocmark_laws.proofs.PlainEscapes.{escape_is}
use Rattle.tocmark_laws.proofs.PlainEscapedBytes.{escaped_is}
use Rattle.tocmark_laws.proofs.PlainEscapedTexts.{IsLine, line_parts, plain_lines, plain_parts}
use Rattle.tocmark_laws.proofs.PlainParagraph.{line_from}
use Rattle.tocmark_laws.proofs.DocumentCode.{IsToken, IsInfo, opener, closer, fence_of}
use Rattle.tocmark_laws.proofs.DocumentCodeSpelling.{fence_rest}
use Rattle.tocmark_laws.proofs.DocumentRows.{IsFilled, IsCode, opener_printable, printable_within, some_front}
use Rattle.tocmark_laws.proofs.DocumentRowsWritten.{filled, block_is}
use Rattle.tocmark_laws.proofs.DocumentsReadBack.{may_stand}
use Rattle.tocmark_document_laws.specs.Blocks.{Blocks, Nothing, PlainThen, QuoteThen, BulletsThen, ItemThen, ArePlain}
use Rattle.tocmark_document_laws.specs.DocumentLines.{Line, code_text, line_in, paragraph_lines}
use Rattle.tocmark_document_laws.specs.ReadBack.{HasNoList}
use Rattle.tocmark_layout_laws.specs.Declared.{LayoutsAreDeclared}
use Rattle.tocmark_layout_laws.proofs.Texts.{IsBare}
use Rattle.tocmark_layout_laws.proofs.Fronts.{inky, begins_no_space, text_inky}
use Rattle.tocmark_layout_laws.proofs.Bullets.{IsBullet, Breaks, IsNoRule}
use Rattle.tocmark_layout_laws.proofs.Paragraphs.{paragraph_found, hashes, hash_first, heading_inky, heading_found}
use Rattle.tocmark_layout_laws.proofs.Codes.{dashes, dash_within, dashes_begin, rule_found, rule_takes, token_inky, code_found}
use Rattle.tocmark_layout_laws.proofs.RowBlocks.{parts_bare, parts_end, parts_text, heading_within, heading_row_begins, code_row_begins, paragraph_row, heading_bare, heading_row, code_row_bare, code_row_ends, code_row}
use Rattle.tocmark_layout_laws.proofs.LaidBlocks.{Declares, AllDeclared, layout_declared}

-- fences

encoded : (token n : ℕ) → IsToken token → flat_map encode_utf8 (replicate n token) ≡ replicate n token
unfolding encode_utf8
encoded token zero is = refl
encoded token (suc n) (inl e) = subst (λ t. flat_map encode_utf8 (replicate (suc n) t) ≡ replicate (suc n) t) (sym e) (ap (λ (xs : List ℕ). 96 ∷ xs) (encoded 96 n (inl refl)))
encoded token (suc n) (inr e) = subst (λ t. flat_map encode_utf8 (replicate (suc n) t) ≡ replicate (suc n) t) (sym e) (ap (λ (xs : List ℕ). 126 ∷ xs) (encoded 126 n (inr refl)))

no_ticks : (token : ℕ) (info : List ℕ) → AllByRecursion (IsInfo token) info → list_any (λ b. b == 96) info ≡ false
no_ticks token [] h = refl
no_ticks token (b ∷ bs) h = rw (h.0).tick (no_ticks token bs (h.1))

no_clash : (o : OptionsView) (info : List ℕ) → list_any (λ b. b == 96) info ≡ false → fence_token o info ≡ o.code_block_token
no_clash o info h = by_token (o.code_block_token == 96)
  where
    by_token : (b : Bool) → (if b && list_any (λ b. b == 96) info then 126 else o.code_block_token) ≡ o.code_block_token
    by_token true = rw h refl
    by_token false = refl

fence_is : (o : OptionsView) (info : List ℕ) (ls : List (List ℕ)) → IsToken o.code_block_token → list_any (λ b. b == 96) info ≡ false → fence o info (code_text ls) ≡ closer o.code_block_token (fence_rest o info ls)
fence_is o info ls is h =
    let count : fence_length o o.code_block_token (code_text ls) ≡ suc (fence_rest o info ls) = omega arith in
    ap (λ t. flat_map encode_utf8 (replicate (fence_length o t (code_text ls)) t)) (no_clash o info h)
    ∙ encoded o.code_block_token (fence_length o o.code_block_token (code_text ls)) is
    ∙ ap (λ n. replicate n o.code_block_token) count

dash_bare : IsBare 45
dash_bare = record { feed = refl; return = refl; zero_byte = refl }

-- bytes after others
ends_append : (xs ys : List ℕ) → 0 < length ys → 0 < length (xs ++ ys)
ends_append xs ys h = omega (arith, length-append xs ys, h)

-- lines that are no thematic break after a bullet

star_breaks : (x : List ℕ) → BeginsPlainly x → Breaks 42 x
star_breaks [] h = absurd h
star_breaks (b ∷ bs) (inl h) = record { before = []; byte = b; after = bs; is = refl; other = h.star; space = h.space }
star_breaks (b ∷ bs) (inr (inl h)) = record {
  before = [];
  byte = b;
  after = bs;
  is = refl;
  other = not_char b 42 (λ e. true≢false (sym (h.0) ∙ ap is_ascii_digit e));
  space = begins_no_space b bs (inr (inl h));
}
star_breaks (b ∷ bs) (inr (inr (inl e, k))) = record { before = []; byte = b; after = bs; is = refl; other = rw e refl; space = rw e refl }
star_breaks (b ∷ bs) (inr (inr (inr (inl e), k))) = record { before = []; byte = b; after = bs; is = refl; other = rw e refl; space = rw e refl }
star_breaks (b ∷ bs) (inr (inr (inr (inr e), k))) = record { before = []; byte = b; after = bs; is = refl; other = rw e refl; space = rw e refl }

marked_breaks : (b : ℕ) (bs : List ℕ) → GoesOn bs → Breaks 45 (b ∷ bs)
marked_breaks b [] h = absurd h
marked_breaks b (c ∷ cs) h = record { before = b ∷ []; byte = c; after = cs; is = refl; other = h.minus; space = h.space }

minus_breaks : (x : List ℕ) → BeginsPlainly x → Breaks 45 x
minus_breaks [] h = absurd h
minus_breaks (b ∷ bs) (inl h) = record { before = []; byte = b; after = bs; is = refl; other = h.minus; space = h.space }
minus_breaks (b ∷ bs) (inr (inl h)) = record {
  before = [];
  byte = b;
  after = bs;
  is = refl;
  other = not_char b 45 (λ e. true≢false (sym (h.0) ∙ ap is_ascii_digit e));
  space = begins_no_space b bs (inr (inl h));
}
minus_breaks (b ∷ bs) (inr (inr (e, k))) = marked_breaks b bs k

plain_breaks : (x : List ℕ) → BeginsPlainly x → (bullet : ℕ) → IsBullet bullet → IsNoRule bullet x
plain_breaks x h bullet (inl e) = inr (inr (subst (λ c. Breaks c x) (sym e) (star_breaks x h)))
plain_breaks x h bullet (inr (inl e)) = inl e
plain_breaks x h bullet (inr (inr e)) = inr (inr (subst (λ c. Breaks c x) (sym e) (minus_breaks x h)))

-- bytes that begin with another one than a bullet
first_breaks : (b : ℕ) (x after : List ℕ) → x ≡ b ∷ after → (b == 42) ≡ false → (b == 45) ≡ false → (b == 32) ≡ false → (bullet : ℕ) → IsBullet bullet → IsNoRule bullet x
first_breaks b x after is star minus space bullet (inl e) = inr (inr (subst (λ c. Breaks c x) (sym e) (record { before = []; byte = b; after = after; is = is; other = star; space = space })))
first_breaks b x after is star minus space bullet (inr (inl e)) = inl e
first_breaks b x after is star minus space bullet (inr (inr e)) = inr (inr (subst (λ c. Breaks c x) (sym e) (record { before = []; byte = b; after = after; is = is; other = minus; space = space })))

heading_breaks : (level : HeadingLevel) (x : List ℕ) → (bullet : ℕ) → IsBullet bullet → IsNoRule bullet (hashes level ++ x)
heading_breaks level x = let f = hash_first level x in first_breaks 35 (hashes level ++ x) (f.0) (f.1) refl refl refl

code_breaks : (token m : ℕ) (info : List ℕ) → IsToken token → (bullet : ℕ) → IsBullet bullet → IsNoRule bullet (opener token m info)
code_breaks token m info (inl e) = first_breaks token (opener token m info) (replicate m token ++ info) refl (rw e refl) (rw e refl) (rw e refl)
code_breaks token m info (inr e) = first_breaks token (opener token m info) (replicate m token ++ info) refl (rw e refl) (rw e refl) (rw e refl)

module _ (o : OptionsView) (flags : ParserOptions) (tokens : ArePlainTokens o) where
  -- paragraphs

  -- where a line is escaped that these lines follow
  abbrev first_in : List (List ℕ) → Surroundings
  first_in [] = line_in o flags (End end.Paragraph)
  first_in (m ∷ ms) = line_in o flags (Leaf SoftBreak)

  abbrev more_in : List (List ℕ) → List PlacedLine
  more_in [] = []
  more_in (m ∷ ms) = (first_in ms, m) ∷ more_in ms

  in_paragraph : (ms : List (List ℕ)) → IsInParagraph (first_in ms)
  unfolding ends_line
  in_paragraph [] = record { literal = refl; first = refl; last = refl; front = refl; table = refl; token = tokens.emphasis; line = refl }
  in_paragraph (m ∷ ms) = record { literal = refl; first = refl; last = refl; front = refl; table = refl; token = tokens.emphasis; line = refl }

  in_heading : (level : HeadingLevel) → IsInParagraph (place_in o flags (HeadingKind level))
  unfolding ends_line
  in_heading level = record { literal = refl; first = refl; last = refl; front = refl; table = refl; token = tokens.emphasis; line = refl }

  line_good : (p : Surroundings) (l : List ℕ) → IsInParagraph p → is_line l ≡ true → IsLine (p, l)
  line_good p l place h = let line = line_from l h in record { place = place; some = line.some; printable = line.printable; last = line.last }

  line_is : (p : Surroundings) (l : List ℕ) → IsInParagraph p → is_line l ≡ true → escaped p l ≡ spelled (parts_of p l)
  line_is p l place h = escaped_is (p, l) (line_good p l place h) ∙ escape_is p l place (line_from l h).printable

  lines_good : (l : List ℕ) (ms : List (List ℕ)) → list_all is_line (l ∷ ms) ≡ true → AllByRecursion IsLine ((first_in ms, l) ∷ more_in ms)
  lines_good l [] h = (line_good (first_in []) l (in_paragraph []) ((both_true (is_line l) true h).0), tt)
  lines_good l (m ∷ ms) h = let both = both_true (is_line l) (list_all is_line (m ∷ ms)) h in (line_good (first_in (m ∷ ms)) l (in_paragraph (m ∷ ms)) (both.0), lines_good m ms (both.1))

  lines_are : (l : List ℕ) (ms : List (List ℕ)) → list_all is_line (l ∷ ms) ≡ true → paragraph_lines o flags l ms ≡ spelled (parts_of (first_in ms) l) ∷ map spelled (map line_parts (more_in ms))
  lines_are l [] h = ap (λ (x : Line). x ∷ []) (line_is (first_in []) l (in_paragraph []) ((both_true (is_line l) true h).0))
  lines_are l (m ∷ ms) h =
      let both = both_true (is_line l) (list_all is_line (m ∷ ms)) h in
      ap (λ (x : Line). x ∷ paragraph_lines o flags m ms) (line_is (first_in (m ∷ ms)) l (in_paragraph (m ∷ ms)) (both.0))
      ∙ ap (λ (xs : List Line). spelled (parts_of (first_in (m ∷ ms)) l) ∷ xs) (lines_are m ms (both.1))

  -- plain blocks

  paragraph_declares : (l : List ℕ) (ms : List (List ℕ)) → list_all is_line (l ∷ ms) ≡ true → Declares o flags (PlainParagraph l ms)
  paragraph_declares l ms h =
      let good = lines_good l ms h in
      let parts : List Part = parts_of (first_in ms) l in
      let more : List (List Part) = map line_parts (more_in ms) in
      let rows : IsFilled ParagraphKind parts more = record { lines = plain_lines ((first_in ms, l) ∷ more_in ms) good; plain = plain_parts (first_in ms, l) (more_in ms) good; ends = tt } in
      record {
        first = spelled parts;
        more = map spelled more;
        is = lines_are l ms h;
        bare = parts_bare (parts ∷ more) rows.lines;
        ends = parts_end parts more rows.lines;
        found = paragraph_found (spelled parts) (map spelled more);
        inked = text_inky (spelled parts) (rows.lines.0).begins (printable_within (spelled parts) (rows.lines.0).printable);
        within = printable_within (spelled parts) (rows.lines.0).printable;
        breaks = λ other. plain_breaks (spelled parts) (rows.lines.0).begins;
        begins = λ small k. ((parts_text (parts ∷ more) rows.lines small).0).begins k;
        places = λ at. (omega arith, omega arith);
        takes = λ small bs at j k rest before. paragraph_row parts more rows small bs at j k rest before;
        shown = λ at. ap (λ (ls : List Line). read.Paragraph (joined ls)) (sym (lines_are l ms h));
      }

  heading_declares : (level : HeadingLevel) (ts : List (List ℕ)) → is_line (concat ts) ≡ true → Declares o flags (PlainHeading level ts)
  heading_declares level ts h =
      let place : Surroundings = place_in o flags (HeadingKind level) in
      let parts : List Part = parts_of place (concat ts) in
      let row : IsFilled (HeadingKind level) parts [] = filled o flags tokens.emphasis (heading_block level ts) h in
      record {
        first = hashes level ++ spelled parts;
        more = [];
        is = ap (λ (x : Line). x ∷ []) (block_is o flags tokens.emphasis (heading_block level ts) h);
        bare = (heading_bare level parts row, tt);
        ends = ends_append (hashes level) (spelled parts) (some_front (spelled parts) (row.lines.0).begins);
        found = heading_found level (spelled parts);
        inked = heading_inky level (spelled parts);
        within = heading_within level parts row;
        breaks = λ other. heading_breaks level (spelled parts);
        begins = λ small k. heading_row_begins level parts row (small.0) k;
        places = λ at. (refl, refl);
        takes = λ small bs at j k rest before. heading_row level parts row (small.0) bs at j rest;
        shown = λ at. ap (read.Heading level) (sym (line_is place (concat ts) (in_heading level) h));
      }

  code_declares : (info : List ℕ) (ls : List (List ℕ)) → IsPlainBlock (PlainCode info ls) → Declares o flags (PlainCode info ls)
  code_declares info ls h =
      let token : ℕ = o.code_block_token in
      let m : ℕ = fence_rest o info ls in
      let row : IsCode token m info ls = may_stand o (λ text flags. core_reading text) flags tokens.emphasis tokens.code (PlainCode info ls) h in
      record {
        first = opener token m info;
        more = ls ++ closer token m ∷ [];
        is = ap (λ (f : Line). (f ++ info) ∷ (ls ++ f ∷ [])) (fence_is o info ls row.token_is (no_ticks token info row.info_is));
        bare = code_row_bare token m info ls row;
        ends = code_row_ends token m info ls;
        found = code_found info ls;
        inked = token_inky token (replicate m token ++ info) row.token_is;
        within = printable_within (opener token m info) (opener_printable token m info ls row);
        breaks = λ other. code_breaks token m info row.token_is;
        begins = λ small k. (fence_of token m, code_row_begins token m info ls row (small.0) k);
        places = λ at. (refl, (let long : length (ls ++ closer token m ∷ []) ≡ length ls + 1 = length-append ls (closer token m ∷ []) in omega (arith, long)));
        takes = λ small bs at j k rest before. code_row token m info ls row small bs at j k rest;
        shown = λ at. refl;
      }

  pub declares : (b : PlainBlock) → IsPlainBlock b → Declares o flags b
  declares (PlainParagraph l ms) h = paragraph_declares l ms h
  declares (PlainHeading level ts) h = heading_declares level ts h
  declares PlainRule h = record {
    first = dashes;
    more = [];
    is = refl;
    bare = ((dash_bare, (dash_bare, (dash_bare, tt))), tt);
    ends = omega arith;
    found = rule_found;
    inked = inky 45 (codes "--") refl;
    within = (dash_within, (dash_within, (dash_within, tt)));
    breaks = λ other. absurd other;
    begins = λ small k. dashes_begin k;
    places = λ at. (refl, refl);
    takes = λ small bs at j k rest before. rule_takes bs at j rest;
    shown = λ at. refl;
  }
  declares (PlainCode info ls) h = code_declares info ls h

  all_declared : (f : Blocks) → ArePlain f → HasNoList f → AllDeclared o flags f
  all_declared Nothing h q = tt
  all_declared (PlainThen b f) h q = (declares b (h.0), all_declared f (h.1) q)
  all_declared (QuoteThen kids f) h q = (all_declared kids (h.0) (q.0), all_declared f (h.1) (q.1))
  all_declared (BulletsThen items f) h q = absurd q
  all_declared (ItemThen kids f) h q = absurd q

-- the law
pub layouts_declared : LayoutsAreDeclared
layouts_declared options flags f tokens plain listless small = layout_declared options flags f listless (all_declared options flags tokens f plain listless) small

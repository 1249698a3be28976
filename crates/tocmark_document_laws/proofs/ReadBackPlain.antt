-- Plain blocks are read by themselves, so the layout of blocks is read as they are.
use Rattle.std.proofs.Common.{◌≡◌, inl, inr, ℕ, zero, suc, ◌^◌, ◌<◌, Bool, true, false, ◌==◌, ◌&&◌, if◌then◌else◌, List, [], ◌∷◌, ◌++◌, length, map, flat_map, replicate, refl, ap, sym, subst, ◌∙◌, arith}
use Rattle.std.specs.Char.{encode_utf8}
use Rattle.std.specs.List.{AllByRecursion, concat, list_all, list_any}
use Rattle.tocmark_event.specs.Options.{OptionsView}
use Rattle.tocmark_event.specs.View.{End, Leaf, SoftBreak}
use Rattle.tocmark_event.specs.declared.event.HeadingLevel.{HeadingLevel}
use Rattle.tocmark_event.specs.declared.event.TagEnd.TheVariants as end
use Rattle.tocmark_event.specs.declared.event.flags.ParserOptions.{ParserOptions}
use Rattle.tocmark_read_scan.specs.PlainParts.{Part, spelled}
use Rattle.tocmark_read_scan.proofs.PlainTests.{both_true}
use Rattle.tocmark_reader.specs.Reading.{core_reading}
use Rattle.tocmark_write_texts.specs.Escape.{Surroundings, ends_line, escaped}
use Rattle.tocmark_spelling.specs.Opening.{fence, fence_length, fence_token}
use Rattle.tocmark_text_laws.specs.Quoted as read
use Rattle.tocmark_laws.specs.PlainLines.{is_line, IsInParagraph, PlacedLine}
use Rattle.tocmark_laws.specs.TextBlocks.{ParagraphKind, HeadingKind, place_in}
use Rattle.tocmark_laws.specs.Documents.{ArePlainTokens, PlainBlock, PlainParagraph, PlainHeading, PlainRule, PlainCode, IsPlainBlock, heading_block}
use Rattle.tocmark_laws.proofs.PlainCharacters.{parts_of}
use Rattle.tocmark_laws.proofs.PlainEscapes.{escape_is}
use Rattle.tocmark_laws.proofs.PlainEscapedBytes.{escaped_is}
use Rattle.tocmark_laws.proofs.PlainEscapedTexts.{IsLine, line_parts, plain_lines, plain_parts}
use Rattle.tocmark_laws.proofs.PlainParagraph.{line_from}
use Rattle.tocmark_laws.proofs.DocumentCode.{IsToken, IsInfo, closer}
use Rattle.tocmark_laws.proofs.DocumentCodeSpelling.{fence_rest}
use Rattle.tocmark_laws.proofs.DocumentRows.{Row, Blank, Break, Code, Filled, IsFilled, IsCode, IsRow}
use Rattle.tocmark_laws.proofs.DocumentRowsWritten.{filled, block_is}
use Rattle.tocmark_laws.proofs.DocumentsReadBack.{may_stand}
use Rattle.tocmark_document_laws.specs.Blocks.{Blocks, Nothing, PlainThen, QuoteThen, BulletsThen, ItemThen, ArePlain}
use Rattle.tocmark_document_laws.specs.DocumentLines.{Line, block_lines, code_text, feeds_below, line_in, paragraph_lines}
use Rattle.tocmark_document_laws.specs.ReadBack.{line_read, lines_read, IsTabless, BlocksTabless, HasNoList, LayoutsHaveTheirTrees}
use Rattle.tocmark_document_laws.proofs.ReadBackTexts.{ended, LinesWithin, EndsWell, Reads}
use Rattle.tocmark_document_laws.proofs.ReadBackRows.{row_lines, row_told, leaf_told, row_within, row_ends, row_reads, row_shut, paragraph_quiet, IsFull, IsTablessRow}
use Rattle.tocmark_document_laws.proofs.ReadBackBlocks.{Closes, block_told, Stands, AllStand, layout_read}

-- fences

encoded : (token n : ℕ) → IsToken token → flat_map encode_utf8 (replicate n token) ≡ replicate n token
unfolding encode_utf8
encoded token zero is = refl
encoded token (suc n) (inl e) = subst (λ t. flat_map encode_utf8 (replicate (suc n) t) ≡ replicate (suc n) t) (sym e) (ap (λ (xs : List ℕ). 96 ∷ xs) (encoded 96 n (inl refl)))
encoded token (suc n) (inr e) = subst (λ t. flat_map encode_utf8 (replicate (suc n) t) ≡ replicate (suc n) t) (sym e) (ap (λ (xs : List ℕ). 126 ∷ xs) (encoded 126 n (inr refl)))

no_ticks : (token : ℕ) (info : List ℕ) → AllByRecursion (IsInfo token) info → list_any (λ b. b == 96) info ≡ false
no_ticks token [] h = refl
no_ticks token (b ∷ bs) h = rw (h.0).tick (no_ticks token bs (h.1))

no_clash : (o : OptionsView) (info : List ℕ) → list_any (λ b. b == 96) info ≡ false → fence_token o info ≡ o.code_block_token
no_clash o info h = by_token (o.code_block_token == 96)
  where
    by_token : (b : Bool) → (if b && list_any (λ b. b == 96) info then 126 else o.code_block_token) ≡ o.code_block_token
    by_token true = rw h refl
    by_token false = refl

fence_is : (o : OptionsView) (info : List ℕ) (ls : List (List ℕ)) → IsToken o.code_block_token → list_any (λ b. b == 96) info ≡ false → fence o info (code_text ls) ≡ closer o.code_block_token (fence_rest o info ls)
fence_is o info ls is h =
    let count : fence_length o o.code_block_token (code_text ls) ≡ suc (fence_rest o info ls) = omega arith in
    ap (λ t. flat_map encode_utf8 (replicate (fence_length o t (code_text ls)) t)) (no_clash o info h)
    ∙ encoded o.code_block_token (fence_length o o.code_block_token (code_text ls)) is
    ∙ ap (λ n. replicate n o.code_block_token) count

-- a row has a first line
record HasFirstLine (r : Row) : Type 0 where
  first : Line
  more : List Line
  is : row_lines r ≡ first ∷ more

first_line : (r : Row) → HasFirstLine r
first_line Blank = record { first = _; more = _; is = refl }
first_line Break = record { first = _; more = _; is = refl }
first_line (Code token m info ls) = record { first = _; more = _; is = refl }
first_line (Filled k l ms) = record { first = _; more = _; is = refl }

module _ (o : OptionsView) (flags : ParserOptions) (tokens : ArePlainTokens o) where
  -- paragraphs

  -- where a line is escaped that these lines follow
  abbrev first_in : List (List ℕ) → Surroundings
  first_in [] = line_in o flags (End end.Paragraph)
  first_in (m ∷ ms) = line_in o flags (Leaf SoftBreak)

  abbrev more_in : List (List ℕ) → List PlacedLine
  more_in [] = []
  more_in (m ∷ ms) = (first_in ms, m) ∷ more_in ms

  in_paragraph : (ms : List (List ℕ)) → IsInParagraph (first_in ms)
  unfolding ends_line
  in_paragraph [] = record { literal = refl; first = refl; last = refl; front = refl; table = refl; token = tokens.emphasis; line = refl }
  in_paragraph (m ∷ ms) = record { literal = refl; first = refl; last = refl; front = refl; table = refl; token = tokens.emphasis; line = refl }

  in_heading : (level : HeadingLevel) → IsInParagraph (place_in o flags (HeadingKind level))
  unfolding ends_line
  in_heading level = record { literal = refl; first = refl; last = refl; front = refl; table = refl; token = tokens.emphasis; line = refl }

  line_good : (p : Surroundings) (l : List ℕ) → IsInParagraph p → is_line l ≡ true → IsLine (p, l)
  line_good p l place h = let line = line_from l h in record { place = place; some = line.some; printable = line.printable; last = line.last }

  line_is : (p : Surroundings) (l : List ℕ) → IsInParagraph p → is_line l ≡ true → escaped p l ≡ spelled (parts_of p l)
  line_is p l place h = escaped_is (p, l) (line_good p l place h) ∙ escape_is p l place (line_from l h).printable

  lines_good : (l : List ℕ) (ms : List (List ℕ)) → list_all is_line (l ∷ ms) ≡ true → AllByRecursion IsLine ((first_in ms, l) ∷ more_in ms)
  lines_good l [] h = (line_good (first_in []) l (in_paragraph []) ((both_true (is_line l) true h).0), tt)
  lines_good l (m ∷ ms) h = let both = both_true (is_line l) (list_all is_line (m ∷ ms)) h in (line_good (first_in (m ∷ ms)) l (in_paragraph (m ∷ ms)) (both.0), lines_good m ms (both.1))

  lines_are : (l : List ℕ) (ms : List (List ℕ)) → list_all is_line (l ∷ ms) ≡ true → paragraph_lines o flags l ms ≡ spelled (parts_of (first_in ms) l) ∷ map spelled (map line_parts (more_in ms))
  lines_are l [] h = ap (λ (x : Line). x ∷ []) (line_is (first_in []) l (in_paragraph []) ((both_true (is_line l) true h).0))
  lines_are l (m ∷ ms) h =
      let both = both_true (is_line l) (list_all is_line (m ∷ ms)) h in
      ap (λ (x : Line). x ∷ paragraph_lines o flags m ms) (line_is (first_in (m ∷ ms)) l (in_paragraph (m ∷ ms)) (both.0))
      ∙ ap (λ (xs : List Line). spelled (parts_of (first_in (m ∷ ms)) l) ∷ xs) (lines_are m ms (both.1))

  -- a plain block is a row
  record IsRowOf (b : PlainBlock) (r : Row) : Type 0 where
    good : IsRow r
    tabless : IsTablessRow r
    full : IsFull r
    lines : block_lines o flags b ≡ row_lines r
    told : (e : Bool) → row_told e r ≡ block_told o flags e b ∷ []
    closes : length (ended true (row_lines r)) < 2 ^ 64 → Closes (row_lines r) (feeds_below o b)

  by_row : (b : PlainBlock) (r : Row) → IsRowOf b r → Stands o flags b
  by_row b r h =
      let f = first_line r in
      record {
        first = f.first;
        more = f.more;
        lines = h.lines ∙ f.is;
        within = subst LinesWithin (sym h.lines) (row_within r h.good h.tabless);
        ends = λ e. subst (EndsWell e) (sym h.lines) (row_ends e r h.good h.full);
        reads = subst (λ (ls : List Line). (e : Bool) → length (ended e ls) < 2 ^ 64 → Reads (ended e ls) (block_told o flags e b ∷ [])) (sym h.lines)
            (λ e fits. subst (Reads (ended e (row_lines r))) (h.told e) (row_reads e r h.good h.tabless h.full fits));
        closes = subst (λ (ls : List Line). length (ended true ls) < 2 ^ 64 → Closes ls (feeds_below o b)) (sym h.lines) h.closes;
      }

  pub stand : (b : PlainBlock) → IsPlainBlock b → IsTabless b → Stands o flags b
  stand (PlainParagraph l ms) h t =
      let lines = lines_good l ms h in
      let parts : List Part = parts_of (first_in ms) l in
      let more : List (List Part) = map line_parts (more_in ms) in
      let good : IsFilled ParagraphKind parts more = record { lines = plain_lines ((first_in ms, l) ∷ more_in ms) lines; plain = plain_parts (first_in ms, l) (more_in ms) lines; ends = tt } in
      by_row (PlainParagraph l ms) (Filled ParagraphKind parts more) (record {
        good = good;
        tabless = tt;
        full = tt;
        lines = lines_are l ms h;
        told = λ e. ap (λ (ls : List Line). leaf_told read.Paragraph (lines_read e ls) ∷ []) (sym (lines_are l ms h));
        closes = λ fits. inr (paragraph_quiet parts more good fits, omega arith);
      })
  stand (PlainHeading level ts) h t =
      let place : Surroundings = place_in o flags (HeadingKind level) in
      let parts : List Part = parts_of place (concat ts) in
      let r : Row = Filled (HeadingKind level) parts [] in
      let good : IsFilled (HeadingKind level) parts [] = filled o flags tokens.emphasis (heading_block level ts) h in
      by_row (PlainHeading level ts) r (record {
        good = good;
        tabless = tt;
        full = tt;
        lines = ap (λ (x : Line). x ∷ []) (block_is o flags tokens.emphasis (heading_block level ts) h);
        told = λ e. ap (λ (x : Line). leaf_told (read.Heading level) (line_read x [] ∷ []) ∷ []) (sym (line_is place (concat ts) (in_heading level) h));
        closes = λ fits. inl (row_shut r good tt tt fits);
      })
  stand PlainRule h t = by_row PlainRule Break (record { good = tt; tabless = tt; full = tt; lines = refl; told = λ e. refl; closes = λ fits. inl (row_shut Break tt tt tt fits) })
  stand (PlainCode info ls) h t =
      let token : ℕ = o.code_block_token in
      let m : ℕ = fence_rest o info ls in
      let good : IsCode token m info ls = may_stand o (λ text flags. core_reading text) flags tokens.emphasis tokens.code (PlainCode info ls) h in
      by_row (PlainCode info ls) (Code token m info ls) (record {
        good = good;
        tabless = t;
        full = tt;
        lines = ap (λ (f : Line). (f ++ info) ∷ (ls ++ f ∷ [])) (fence_is o info ls good.token_is (no_ticks token info good.info_is));
        told = λ e. refl;
        closes = λ fits. inl (row_shut (Code token m info ls) good t tt fits);
      })

  all_stand : (f : Blocks) → ArePlain f → HasNoList f → BlocksTabless f → AllStand o flags f
  all_stand Nothing h q t = tt
  all_stand (PlainThen b f) h q t = (stand b (h.0) (t.0), all_stand f (h.1) q (t.1))
  all_stand (QuoteThen kids f) h q t = (all_stand kids (h.0) (q.0) (t.0), all_stand f (h.1) (q.1) (t.1))
  all_stand (BulletsThen items f) h q t = absurd q
  all_stand (ItemThen kids f) h q t = absurd q

-- the law
pub layouts_read : LayoutsHaveTheirTrees
layouts_read options flags f tokens plain listless tabless small = layout_read options flags f listless (all_stand options flags tokens f plain listless tabless) small

-- What fenced code is spelled as, wherever it is in a document.
use Rattle.std.proofs.Common.{◌≡◌, ℕ, zero, suc, ◌+◌, ◌-◌, ◌<◌, ◌≤◌, max, Bool, true, false, ◌==◌, ◌&&◌, if◌then◌else◌, nat_lt, List, [], ◌∷◌, ◌++◌, length, map, replicate, chars, codes, flat_map, refl, ap, sym, subst, ◌∙◌, arith, append_assoc, append-nil, Option, Some, None, inl, inr}
use Rattle.std.proofs.lemmas.Bool.Decides.{nat_tests}
use Rattle.std.proofs.lemmas.Str.{chars-IsAscii}
use Rattle.std.specs.Char.{encode_utf8}
use Rattle.std.specs.List.{AllByRecursion, concat, list_any}
use Rattle.tocmark_event.specs.Options.{OptionsView}
use Rattle.tocmark_event.specs.View.{EventView, Start, CodeBlock, Fenced}
use Rattle.tocmark_reader.proofs.PlainSources.{IsClean, all_implied, clean_ascii}
use Rattle.tocmark_write_texts.specs.Leaves.{longest_run}
use Rattle.tocmark_spelling.specs.Body.{Trees, joined_by, text_of_leaf}
use Rattle.tocmark_spelling.specs.Gap.{gap}
use Rattle.tocmark_spelling.specs.Look.{look}
use Rattle.tocmark_spelling.specs.Opening.{opening, fence, fence_length, fence_token, info_byte, on_new_line}
use Rattle.tocmark_spelling.specs.Page.{Sheet, laid, put_byte, Page, Site, Around}
use Rattle.tocmark_spelling.specs.Plan.{Setting, Manner}
use Rattle.tocmark_spelling.specs.Spelling.{spelling, then_site}
use Rattle.tocmark_spelling.specs.declared.trail.Last.{Last}
use Rattle.tocmark_spelling.specs.declared.trail.Last.TheVariants.{Other}
use Rattle.tocmark_write_labels.specs.Document.{DocumentView}
use Rattle.tocmark_write_pending.specs.Placeholder.{whole}
use Rattle.tocmark_choose.specs.Candidates.{preferred_manner}
use Rattle.tocmark_choose.specs.Choice as choice
use Rattle.tocmark_choose.specs.Choice.{spelled, accepted_if, document_after, has_standard_markers}
use Rattle.tocmark_choose.proofs.Chosen.{chosen-unlabelled}
use Rattle.tocmark_choose.proofs.PlainUnits.{choice-unasked}
use Rattle.tocmark_laws.specs.CodeBlocks.{HasRun}
use Rattle.tocmark_laws.specs.TextBlocks.{ParagraphKind, HeadingKind}
use Rattle.tocmark_laws.proofs.BlockSpelling.{LastEnd, NoEnd, TextEnd, CodeEnd, text_trees, last_of, page_of, blank, IsCalm}
use Rattle.tocmark_laws.proofs.CodeBlocks as code
use Rattle.tocmark_laws.proofs.DocumentCode.{IsToken, IsInfo, IsFlush, IsShort, opener, closer}
use Rattle.tocmark_laws.proofs.DocumentRows.{all_append, clean_feed, Code, IsCode, IsCodeByte, AreCode, ArePrintable, closer_printable, code_joined, code_rest, row_bytes}
use Rattle.tocmark_laws.proofs.DocumentSpelling.{laid_some, page_is, IsHanded}
use Rattle.tocmark_laws.proofs.Fences.{any-run}
use Rattle.tocmark_laws.proofs.Paragraphs.{laid-plain}
use Rattle.tocmark_laws.proofs.PlainSpelling.{within}

-- a text for each line
abbrev pub line_texts : List (List ℕ) → List (List ℕ)
line_texts ls = map (λ l. l ++ 10 ∷ []) ls

abbrev site : List ℕ → List ℕ → ℕ → Page → Site
site info f start page = record { path = code.in_code info f start; page = page }

-- line feeds

feeds_laid : (n : ℕ) (s : Sheet) → (laid [] (replicate n 10) s).feeds ≡ s.feeds + n
feeds_laid zero s = omega arith
feeds_laid (suc n) s = feeds_laid n (put_byte [] 10 s) ∙ (let q : s.feeds + 1 + n ≡ s.feeds + suc n = omega arith in q)

-- code begins on a line of its own
new_line : (owed : ℕ) → on_new_line [] (page_of (laid [] (replicate owed 10) blank) 0 Other None) ≡ page_of (laid [] (replicate (max owed 1) 10) blank) 0 Other None
new_line zero = refl
new_line (suc n) =
    let same : max (suc n) 1 ≡ suc n = omega arith in
    let sheet : Sheet = laid [] (replicate (suc n) 10) blank in
    let some : (sheet.feeds == 0) ≡ false = let q : sheet.feeds ≡ suc n = feeds_laid (suc n) blank ∙ (let q : 0 + suc n ≡ suc n = omega arith in q) in grind (arith, q, nat_tests) in
    let page : Page = page_of sheet 0 Other None in
    let behind : Page = page_of (laid [] (codes "\n") sheet) 0 Other None in
    ap (λ b. if b && true then behind else page) some
    ∙ ap (λ k. page_of (laid [] (replicate k 10) blank) 0 Other None) (sym same)

laid_append : (xs ys : List ℕ) (s : Sheet) → laid [] (xs ++ ys) s ≡ laid [] ys (laid [] xs s)
laid_append [] ys s = refl
laid_append (x ∷ xs) ys s = laid_append xs ys (put_byte [] x s)

-- what ends with a line feed ends a line
feed_ends : (xs : List ℕ) (s : Sheet) → nat_lt 0 (laid [] (xs ++ 10 ∷ []) s).feeds ≡ true
feed_ends xs s =
    let some : nat_lt 0 ((laid [] xs s).feeds + 1) ≡ true = grind (arith, nat_tests) in
    ap (λ (x : Sheet). nat_lt 0 x.feeds) (laid_append xs (10 ∷ []) s) ∙ some

lines_end : (ls : List (List ℕ)) (s : Sheet) → nat_lt 0 s.feeds ≡ true → nat_lt 0 (laid [] (concat (line_texts ls)) s).feeds ≡ true
lines_end [] s h = h
lines_end (l ∷ ls) s h =
    ap (λ (x : Sheet). nat_lt 0 x.feeds) (laid_append (l ++ 10 ∷ []) (concat (line_texts ls)) s)
    ∙ lines_end ls (laid [] (l ++ 10 ∷ []) s) (feed_ends l s)

-- the fence

run_wider : (n token : ℕ) (pre l rest : List ℕ) → HasRun n token l → HasRun n token (pre ++ ((l ++ 10 ∷ []) ++ rest))
run_wider n token pre l rest h =
    let run : List ℕ = replicate n token in
    let behind : List ℕ = h.after ++ 10 ∷ rest in
    record {
      before = pre ++ h.before;
      after = behind;
      is =
          ap (λ (xs : List ℕ). pre ++ ((xs ++ 10 ∷ []) ++ rest)) h.is
          ∙ ap (λ (xs : List ℕ). pre ++ xs) (append_assoc ((h.before ++ run) ++ h.after) (10 ∷ []) rest ∙ append_assoc (h.before ++ run) h.after (10 ∷ rest))
          ∙ sym (append_assoc pre (h.before ++ run) behind)
          ∙ ap (λ (xs : List ℕ). xs ++ behind) (sym (append_assoc pre h.before run));
    }

encoded : (token n : ℕ) → IsToken token → flat_map encode_utf8 (replicate n token) ≡ replicate n token
unfolding encode_utf8
encoded token zero is = refl
encoded token (suc n) (inl e) = subst (λ t. flat_map encode_utf8 (replicate (suc n) t) ≡ replicate (suc n) t) (sym e) (ap (λ (xs : List ℕ). 96 ∷ xs) (encoded 96 n (inl refl)))
encoded token (suc n) (inr e) = subst (λ t. flat_map encode_utf8 (replicate (suc n) t) ≡ replicate (suc n) t) (sym e) (ap (λ (xs : List ℕ). 126 ∷ xs) (encoded 126 n (inr refl)))

module _ (o : OptionsView) (info : List ℕ) (ls : List (List ℕ)) where
  abbrev text : List ℕ
  text = concat (line_texts ls)

  -- how often the token is in the fence, but for once
  abbrev pub fence_rest : ℕ
  fence_rest = fence_length o o.code_block_token text - 1

  no_clash : list_any (λ b. b == 96) info ≡ false → fence_token o info ≡ o.code_block_token
  no_clash h = by_token (o.code_block_token == 96)
    where
      by_token : (b : Bool) → (if b && list_any (λ b. b == 96) info then 126 else o.code_block_token) ≡ o.code_block_token
      by_token true = rw h refl
      by_token false = refl

  fence_closer : IsToken o.code_block_token → list_any (λ b. b == 96) info ≡ false → fence o info text ≡ closer o.code_block_token fence_rest
  fence_closer is h =
      let count : fence_length o o.code_block_token text ≡ suc fence_rest = omega arith in
      ap (λ t. flat_map encode_utf8 (replicate (fence_length o t text) t)) (no_clash h)
      ∙ encoded o.code_block_token (fence_length o o.code_block_token text) is
      ∙ ap (λ n. replicate n o.code_block_token) count

  -- what the block has to be
  texts_clean : (ls : List (List ℕ)) → AllByRecursion AreCode ls → AllByRecursion IsClean (concat (line_texts ls))
  texts_clean [] h = tt
  texts_clean (l ∷ ls) h =
      all_append IsClean (l ++ 10 ∷ []) (concat (line_texts ls)) (all_append IsClean l (10 ∷ []) (all_implied IsCodeByte IsClean l (λ b h. h.clean) (h.0)) (clean_feed, tt)) (texts_clean ls (h.1))

  -- a run of a line is one of all lines
  shorts : (token m : ℕ) (pre : List ℕ) (ls : List (List ℕ)) → ((n : ℕ) → HasRun n token (pre ++ concat (line_texts ls)) → n < suc m) → AllByRecursion (IsShort token m) ls
  shorts token m pre [] f = tt
  shorts token m pre (l ∷ ls) f =
      let rest : List ℕ = concat (line_texts ls) in (
        λ n h. f n (run_wider n token pre l rest h),
        shorts token m (pre ++ (l ++ 10 ∷ [])) ls (λ n h. f n (subst (HasRun n token) (append_assoc pre (l ++ 10 ∷ []) rest) h)),
      )

  pub is_code : IsToken o.code_block_token → AllByRecursion (IsInfo o.code_block_token) info → IsFlush info → ArePrintable info → AllByRecursion AreCode ls → IsCode o.code_block_token fence_rest info ls
  is_code is info_is flush info_printable lines =
      let same : chars text ≡ text = chars-IsAscii text (clean_ascii text (texts_clean ls lines)) in
      record {
        token_is = is;
        least = omega arith;
        info_is = info_is;
        flush = flush;
        info_printable = info_printable;
        lines = lines;
        short = shorts o.code_block_token fence_rest [] ls (λ n h. shorter n (any-run n o.code_block_token (chars text) (subst (HasRun n o.code_block_token) (sym same) h)));
      }
    where
      shorter : (n : ℕ) → n ≤ longest_run o.code_block_token (chars text) → n < suc fence_rest
      shorter n h = omega (arith, h)

-- the spelling

no_ticks : (token : ℕ) (info : List ℕ) → AllByRecursion (IsInfo token) info → list_any (λ b. b == 96) info ≡ false
no_ticks token [] h = refl
no_ticks token (b ∷ bs) h = rw (h.0).tick (no_ticks token bs (h.1))

info_bytes : (token : ℕ) (info : List ℕ) → AllByRecursion (IsInfo token) info → flat_map info_byte info ≡ info
info_bytes token [] h = refl
info_bytes token (b ∷ bs) h = rw ((h.0).amp, (h.0).back) (ap (λ (xs : List ℕ). b ∷ xs) (info_bytes token bs (h.1)))

rest_is : (token m : ℕ) (ls : List (List ℕ)) → concat (line_texts ls) ++ closer token m ≡ code_rest token m ls
rest_is token m [] = refl
rest_is token m (l ∷ ls) =
    append_assoc (l ++ 10 ∷ []) (concat (line_texts ls)) (closer token m)
    ∙ append_assoc l (10 ∷ []) (concat (line_texts ls) ++ closer token m)
    ∙ ap (λ (xs : List ℕ). l ++ 10 ∷ xs) (rest_is token m ls)

all_left : (n : ℕ) → max n 0 - 0 ≡ n
all_left n = omega arith

module _ (s : Setting) (info : List ℕ) (ls : List (List ℕ)) where
  abbrev m : Manner
  m = preferred_manner s.options

  abbrev ts : List (List ℕ)
  ts = line_texts ls

  abbrev token : ℕ
  token = s.options.code_block_token

  abbrev f : List ℕ
  f = fence s.options info (concat ts)

  abbrev bytes : List ℕ
  bytes = row_bytes (Code token (fence_rest s.options info ls) info ls)

  -- the block once its gap is written, and on a line of its own
  abbrev made : List ℕ → Page → Site
  made f q =
      let sheet : Sheet = laid [] (f ++ flat_map info_byte info ++ codes "\n") q.sheet in
      site info f (length sheet.text) (record q { sheet = sheet })

  abbrev fed : ℕ → Sheet
  fed owed = laid [] (replicate (max owed 1) 10) blank

  abbrev begun_sheet : ℕ → Sheet
  begun_sheet owed = laid [] (f ++ flat_map info_byte info ++ codes "\n") (fed owed)

  open_at : (a : Around) (sheet : Sheet) (last : Last) → opening s m (CodeBlock (Fenced info)) (look s m (CodeBlock (Fenced info)) (text_trees ts) a) [] (page_of sheet 0 last None) ≡ Some (made (fence s.options info (joined_by text_of_leaf (text_trees ts))) (on_new_line [] (page_of sheet 0 Other None)))
  unfolding opening
  open_at a sheet last = refl

  opened : (owed : ℕ) (a : Around) (last : Last) → opening s m (CodeBlock (Fenced info)) (look s m (CodeBlock (Fenced info)) (text_trees ts) a) [] (page_of (laid [] (replicate owed 10) blank) 0 last None) ≡ Some (site info f (length (begun_sheet owed).text) (page_of (begun_sheet owed) 0 Other None))
  opened owed a last =
      open_at a (laid [] (replicate owed 10) blank) last
      ∙ ap (λ q. Some (made (fence s.options info (joined_by text_of_leaf (text_trees ts))) q)) (new_line owed)
      ∙ ap (λ t. Some (made (fence s.options info t) (page_of (fed owed) 0 Other None))) (code.joined-texts ts)

  code_gap : (before : LastEnd) (owed : ℕ) → gap (Start (CodeBlock (Fenced info))) [] (page_of blank owed (last_of before) None) ≡ page_of (laid [] (replicate (max owed 0 - 0) 10) blank) 0 (last_of before) None
  code_gap NoEnd owed = refl
  code_gap (TextEnd ParagraphKind) owed = refl
  code_gap (TextEnd (HeadingKind level)) owed = refl
  code_gap CodeEnd owed = refl

  abbrev around : Option EventView → Around
  around next = record { before = []; after = []; next = next }

  abbrev from_gap : Option EventView → Page → Option Site
  from_gap next p = then_site (opening s m (CodeBlock (Fenced info)) (look s m (CodeBlock (Fenced info)) (text_trees ts) (around next)) [] p) (λ here. code.from_opening s info ts next here)

  entered_gap : (next : Option EventView) (p : Page) → spelling s m (code.unit info ts) (whole next) [] p ≡ from_gap next (gap (Start (CodeBlock (Fenced info))) [] p)
  unfolding spelling
  entered_gap next p = refl

  -- the page after the block
  abbrev ended_page : ℕ → Page
  ended_page owed = code.closed_page s info f (laid [] (concat ts) (begun_sheet owed))

  unit_spelled : (owed : ℕ) (before : LastEnd) (next : Option EventView) → spelling s m (code.unit info ts) (whole next) [] (page_of blank owed (last_of before) None) ≡ Some (record { path = []; page = ended_page owed })
  unit_spelled owed before next =
      let start : ℕ = length (begun_sheet owed).text in
      entered_gap next (page_of blank owed (last_of before) None)
      ∙ ap (from_gap next) (code_gap before owed ∙ ap (λ n. page_of (laid [] (replicate n 10) blank) 0 (last_of before) None) (all_left owed))
      ∙ ap (λ o. then_site o (λ here. code.from_opening s info ts next here)) (opened owed (around next) (last_of before))
      ∙ ap (λ o. then_site o (λ full. code.from_texts s info ts next full)) (code.body-written s info f start ts (begun_sheet owed) (Start (CodeBlock (Fenced info)) ∷ []) next)
      ∙ code.finished s info f start ts next (begun_sheet owed)

  abbrev text_behind : ℕ → List ℕ
  text_behind owed = replicate (max owed 1) 10 ++ bytes

  abbrev left_page : ℕ → Page
  left_page owed = page_of (within (text_behind owed)) (max s.options.newlines_after_codeblock 2) (last_of CodeEnd) None

  abbrev with_end : Bool → Sheet → Page
  with_end raw sheet = record {
    sheet = sheet;
    trail = record { owed = max s.options.newlines_after_codeblock 2; last = last_of CodeEnd; last_list = None; quote_line = None; raw_end = raw; open_html = false };
    references = [];
    held = None;
  }

  text_is : (owed : ℕ) (h : IsToken token) → AllByRecursion (IsInfo token) info → (laid [] (concat ts) (begun_sheet owed)).text ++ closer token (fence_rest s.options info ls) ≡ text_behind owed
  text_is owed is h =
      let k : ℕ = fence_rest s.options info ls in
      let c : List ℕ = closer token k in
      let a : List ℕ = replicate (max owed 1) 10 in
      let rest : List ℕ = concat ts in
      let first : List ℕ = opener token k info in
      let head : f ++ flat_map info_byte info ++ codes "\n" ≡ first ++ 10 ∷ [] =
      ap (λ (x : List ℕ). x ++ flat_map info_byte info ++ codes "\n") (fence_closer s.options info ls is (no_ticks token info h)) ∙ ap (λ (x : List ℕ). (c ++ x) ++ codes "\n") (info_bytes token info h)
      in
      ap (λ (x : List ℕ). x ++ c) (laid-plain rest (begun_sheet owed))
      ∙ ap (λ (x : List ℕ). (x ++ rest) ++ c) (laid-plain (f ++ flat_map info_byte info ++ codes "\n") (fed owed))
      ∙ ap (λ (x : List ℕ). ((x ++ (f ++ flat_map info_byte info ++ codes "\n")) ++ rest) ++ c) (laid-plain a blank)
      ∙ ap (λ (x : List ℕ). ((a ++ x) ++ rest) ++ c) head
      ∙ append_assoc (a ++ (first ++ 10 ∷ [])) rest c
      ∙ append_assoc a (first ++ 10 ∷ []) (rest ++ c)
      ∙ ap (λ (x : List ℕ). a ++ x) (append_assoc first (10 ∷ []) (rest ++ c))
      ∙ ap (λ (x : List ℕ). a ++ (first ++ 10 ∷ x)) (rest_is token k ls)
      ∙ ap (λ (x : List ℕ). a ++ x) (sym (code_joined token k first ls))

  ended_is : (owed : ℕ) → IsToken token → AllByRecursion (IsInfo token) info → ended_page owed ≡ left_page owed
  ended_is owed is h =
      let k : ℕ = fence_rest s.options info ls in
      let filled : Sheet = laid [] (concat ts) (begun_sheet owed) in
      let some : nat_lt 0 filled.feeds ≡ true = lines_end ls (begun_sheet owed) (feed_ends (f ++ flat_map info_byte info) (fed owed)) in
      let none : (filled.feeds == 0) ≡ false = grind (arith, some, nat_tests) in
      ap (λ b. with_end (filled.feeds == 0) (laid [] (if b then f else []) filled)) some
      ∙ ap (λ b. with_end b (laid [] f filled)) none
      ∙ ap (λ (x : List ℕ). with_end false (laid [] x filled)) (fence_closer s.options info ls is (no_ticks token info h))
      ∙ ap (with_end false) (laid_some (closer token k) filled (let q : 0 < suc (length (replicate k token)) = omega arith in q) (closer_printable token k is))
      ∙ ap (λ (x : List ℕ). with_end false (within x)) (text_is owed is h)

module _ (s : Setting) (d : DocumentView) (info : List ℕ) (ls : List (List ℕ)) (next : Option EventView) where
  abbrev unit : Trees
  unit = code.unit info (line_texts ls)

  page_spelled : (owed : ℕ) (before : LastEnd) → IsCalm d owed before → IsToken s.options.code_block_token → AllByRecursion (IsInfo s.options.code_block_token) info → spelled s d unit next (preferred_manner s.options) ≡ Some (left_page s info ls owed)
  unfolding spelled
  page_spelled owed before h is i =
      ap (λ p. choice.page_of (spelling s (preferred_manner s.options) unit (whole next) [] p)) (page_is d owed before h)
      ∙ ap choice.page_of (unit_spelled s info ls owed before next)
      ∙ ap (λ (p : Page). Some p) (ended_is s info ls owed is i)

  left_calm : (owed : ℕ) (before : LastEnd) → IsCalm d owed before → IsCalm (document_after s d (left_page s info ls owed)) (max s.options.newlines_after_codeblock 2) CodeEnd
  unfolding document_after
  left_calm owed before h = record { trail = refl; feeds = refl; none = append-nil d.references ∙ h.none }

  pub code_chosen : s.options.check_plain_blocks ≡ false → s.label ≡ None → (owed : ℕ) (before : LastEnd) → IsCalm d owed before → IsToken s.options.code_block_token → AllByRecursion (IsInfo s.options.code_block_token) info →
      IsHanded s d unit next (text_behind s info ls owed) (max s.options.newlines_after_codeblock 2) CodeEnd
  code_chosen off none owed before h is i = record {
    document = document_after s d (left_page s info ls owed);
    is =
        chosen-unlabelled s d unit next none (code.no-list info (line_texts ls))
        ∙ choice-unasked s d unit next (code.undelimited info (line_texts ls)) off (ap (λ x. x && has_standard_markers s.options) (code.unsourced info (line_texts ls)))
        ∙ ap (accepted_if s d) (page_spelled owed before h is i);
    after = left_calm owed before h;
  }

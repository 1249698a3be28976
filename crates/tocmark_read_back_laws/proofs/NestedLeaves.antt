-- What is known of plain blocks and of the lines of layouts with lists.
use Rattle.std.proofs.Common.{◌≡◌, ◌⊎◌, inl, inr, ℕ, suc, ◌-◌, ◌^◌, ◌<◌, ◌≤◌, Bool, true, false, ◌==◌, ◌&&◌, ◌||◌, cond, if◌then◌else◌, List, [], ◌∷◌, ◌++◌, length, map, flat_map, replicate, codes, refl, ap, sym, subst, ◌∙◌, arith, None}
use Rattle.std.specs.Prelude.{take_while}
use Rattle.std.specs.Char.{encode_utf8}
use Rattle.std.specs.List.{AllByRecursion, concat, list_any}
use Rattle.std.proofs.lemmas.List.Sums.{take_while-cons}
use Rattle.tocmark_event.specs.Options.{OptionsView}
use Rattle.tocmark_event.specs.declared.event.HeadingLevel.{HeadingLevel}
use Rattle.tocmark_event.specs.declared.event.HeadingLevel.TheVariants as level
use Rattle.tocmark_event.specs.declared.event.flags.ParserOptions.{ParserOptions}
use Rattle.tocmark_read_scan.specs.PlainParts.{spelled}
use Rattle.tocmark_read_blocks.proofs.PlainFronts.{BeginsPlainly}
use Rattle.tocmark_read_blocks.proofs.PlainLines.{IsWithin}
use Rattle.tocmark_commonmark.specs.Lines.{is_blank_byte}
use Rattle.tocmark_text_laws.specs.Quoted.{Item, Node, none, more, tree_told}
use Rattle.tocmark_text_laws.specs.Sequence.{IsClosed, IsQuiet}
use Rattle.tocmark_write_texts.specs.Escape.{escaped}
use Rattle.tocmark_spelling.specs.Opening.{fence, fence_length, fence_token}
use Rattle.tocmark_laws.specs.TextBlocks.{HeadingKind, mark_of, place_in}
use Rattle.tocmark_laws.specs.Documents.{ArePlainTokens, PlainBlock, PlainParagraph, PlainHeading, PlainRule, PlainCode, IsPlainBlock}
use Rattle.tocmark_laws.proofs.DocumentCode.{IsToken}
use Rattle.tocmark_laws.proofs.DocumentCodeSpelling.{fence_rest}
use Rattle.tocmark_laws.proofs.DocumentRows.{IsCode}
use Rattle.tocmark_laws.proofs.DocumentsReadBack.{may_stand}
use Rattle.tocmark_reader.specs.Reading.{core_reading}
use Rattle.tocmark_document_laws.specs.Blocks.{Blocks, Nothing, PlainThen, QuoteThen, BulletsThen, ItemThen, ArePlainIn}
use Rattle.tocmark_document_laws.specs.DocumentLines.{Line, How, Outside, Marked, block_lines, code_text, feeds_below, in_bullets, is_amid_hyphens, lines_of, paragraph_lines, plain_lines, rule_line}
use Rattle.tocmark_document_laws.specs.ReadBack.{IsTabless, BlocksTabless, HasTrees}
use Rattle.tocmark_document_laws.proofs.ReadBackTexts.{ended, LinesWithin, EndsWell}
use Rattle.tocmark_document_laws.proofs.ReadBackBlocks.{lines_joined}
use Rattle.tocmark_document_laws.proofs.ReadBackPlain.{stand}
use Rattle.tocmark_layout_laws.specs.Declared.{HasSafeRules}
use Rattle.tocmark_layout_laws.proofs.Texts.{IsBare, LinesBare, Ends, text_of, joined_is, AreShort, text_short}
use Rattle.tocmark_layout_laws.proofs.Fronts.{Inky}
use Rattle.tocmark_layout_laws.proofs.Items.{hung, first_line}
use Rattle.tocmark_layout_laws.proofs.Bullets.{IsBullet}
use Rattle.tocmark_layout_laws.proofs.LaidBlocks.{Declares}
use Rattle.tocmark_layout_laws.proofs.PlainBlocks.{declares}
use Rattle.tocmark_layout_laws.proofs.LaidLists.{Started}
use Rattle.tocmark_layout_laws.proofs.ListedBlocks.{hung_short, all_proved}
use Rattle.tocmark_layout_laws.proofs.ListedLines.{EndsIf, all_bytes}
use Rattle.tocmark_layout_laws.proofs.ListedLayouts.{laid}
use Rattle.tocmark_read_back_laws.proofs.LaidTrees.{Content, paragraph_content}
use Rattle.tocmark_read_back_laws.proofs.SafeLines.{IsSafe, LinesSafe, blocks_safe}
use Rattle.tocmark_read_back_laws.proofs.NestedBare.{bare_quote, bare_rule, bare}
use Rattle.tocmark_read_back_laws.proofs.NestedMarks.{mark_in, plain_mark, hash_mark, tick_mark, tilde_mark, stars_mark, hyphens_mark, quote_mark, bullet_mark, no_break}
use Rattle.tocmark_read_back_laws.proofs.NestedTexts.{Bound, Laws, Listed}
use Rattle.tocmark_read_back_laws.proofs.NestedLines.{Inked}
use Rattle.tocmark_read_back_laws.proofs.NestedBlocks.{Stand, Starts, Leaves}

-- bytes

star_within : IsWithin 42
star_within = record { feed = refl; return = refl; tab = refl }

space_within : IsWithin 32
space_within = record { feed = refl; return = refl; tab = refl }

bullet_within : (b : ℕ) → IsBullet b → IsWithin b
bullet_within b (inl e) = subst IsWithin (sym e) (record { feed = refl; return = refl; tab = refl })
bullet_within b (inr (inl e)) = subst IsWithin (sym e) (record { feed = refl; return = refl; tab = refl })
bullet_within b (inr (inr e)) = subst IsWithin (sym e) (record { feed = refl; return = refl; tab = refl })

line_within : (l : Line) → AllByRecursion IsBare l → AllByRecursion IsSafe l → AllByRecursion IsWithin l
line_within [] h k = tt
line_within (b ∷ bs) h k = (record { feed = (h.0).feed; return = (h.0).return; tab = (k.0).tab }, line_within bs (h.1) (k.1))

both_within : (ls : List Line) → LinesBare ls → LinesSafe ls → LinesWithin ls
both_within [] h k = tt
both_within (l ∷ ls) h k = (line_within l (h.0) (k.0), both_within ls (h.1) (k.1))

inky_inked : (x : Line) → Inky x → Inked x
inky_inked [] h = let some : 0 < length {A = ℕ} [] = h.some in absurd (omega (arith, some))
inky_inked (b ∷ bs) h = by (b == 32) (sym (take_while-cons is_blank_byte b bs) ∙ h.front)
  where
    by : (k : Bool) → cond (k || (b == 9)) (b ∷ take_while is_blank_byte bs) [] ≡ [] → k ≡ false
    by true e = absurd cc
    by false e = refl

ends_well : (ls : List Line) → Ends ls → EndsWell false ls
ends_well [] h = absurd h
ends_well (l ∷ []) h = h
ends_well (l ∷ m ∷ ms) h = ends_well (m ∷ ms) h

short_lines : (ls : List Line) → Bound (ended false ls) → AreShort (2 ^ 64) ls
short_lines ls small =
    let same : length (ended false ls) ≡ length (text_of ls) = ap (λ (t : List ℕ). length t) (sym (lines_joined ls) ∙ joined_is ls) in
    text_short (2 ^ 64) ls (omega (arith, same, small))

-- what a plain block ends with
closes_quiet : (t : List ℕ) (n : ℕ) → ((t : List ℕ) → IsClosed t → IsQuiet t) → IsClosed t ⊎ (IsQuiet t × (2 ≤ n)) → IsQuiet t
closes_quiet t n quiets (inl c) = quiets t c
closes_quiet t n quiets (inr h) = h.0

closes_how : (t : List ℕ) (n : ℕ) → IsClosed t ⊎ (IsQuiet t × (2 ≤ n)) → IsClosed t ⊎ (2 ≤ n)
closes_how t n (inl c) = inl c
closes_how t n (inr h) = inr (h.1)

-- first bytes

hashes : (l : HeadingLevel) (x : List ℕ) → (after : List ℕ) × (mark_of (HeadingKind l) ++ x ≡ 35 ∷ after)
hashes level.H1 x = (_, refl)
hashes level.H2 x = (_, refl)
hashes level.H3 x = (_, refl)
hashes level.H4 x = (_, refl)
hashes level.H5 x = (_, refl)
hashes level.H6 x = (_, refl)

-- a fence begins with a backtick or a tilde
abbrev Fenced : List ℕ → Type 0
Fenced x = ((after : List ℕ) × (x ≡ 96 ∷ after)) ⊎ ((after : List ℕ) × (x ≡ 126 ∷ after))

fences : (token n : ℕ) (x : List ℕ) → IsToken token → Fenced (flat_map encode_utf8 (replicate (suc n) token) ++ x)
unfolding encode_utf8
fences token n x (inl e) = subst (λ t. Fenced (flat_map encode_utf8 (replicate (suc n) t) ++ x)) (sym e) (inl (_, refl))
fences token n x (inr e) = subst (λ t. Fenced (flat_map encode_utf8 (replicate (suc n) t) ++ x)) (sym e) (inr (_, refl))

token_is : (o : OptionsView) (info : List ℕ) → IsToken o.code_block_token → IsToken (fence_token o info)
token_is o info is = by ((o.code_block_token == 96) && list_any (λ b. b == 96) info)
  where
    by : (c : Bool) → IsToken (if c then 126 else o.code_block_token)
    by true = inr refl
    by false = is

fence_long : (o : OptionsView) (token : ℕ) (text : List ℕ) → fence_length o token text ≡ suc (fence_length o token text - 1)
fence_long o token text = omega arith

fence_begins : (o : OptionsView) (info text x : List ℕ) → IsToken o.code_block_token → Fenced (fence o info text ++ x)
fence_begins o info text x is =
    subst (λ m. Fenced (flat_map encode_utf8 (replicate m (fence_token o info)) ++ x)) (sym (fence_long o (fence_token o info) text))
    (fences (fence_token o info) (fence_length o (fence_token o info) text - 1) x (token_is o info is))

fence_mark : (x : List ℕ) → Fenced x → AllByRecursion IsWithin x → length x < 2 ^ 64 → mark_in x ≡ None
fence_mark x (inl (after, e)) within fits = ap mark_in e ∙ tick_mark after (subst (AllByRecursion IsWithin) e within) (subst (λ xs. length xs < 2 ^ 64) e fits)
fence_mark x (inr (after, e)) within fits = ap mark_in e ∙ tilde_mark after (subst (AllByRecursion IsWithin) e within) (subst (λ xs. length xs < 2 ^ 64) e fits)

first_same : (x y : Line) (xs ys : List Line) → x ∷ xs ≡ y ∷ ys → x ≡ y
first_same x y xs ys e = cc

-- lists with an empty item
bare_items : (b : ℕ) (e : Bool) → IsBullet b → Listed b e (ended e (hung b [])) false (more (Node Item false [] none) none)
bare_items b e (inl k) = subst (λ c. Listed c e (ended e (hung c [])) false (more (Node Item false [] none) none)) (sym k) (by e)
  where
    by : (e : Bool) → Listed 42 e (ended e (hung 42 [])) false (more (Node Item false [] none) none)
    by true = record { has = record { trees_are = bare.star_fed.trees; undefined = bare.star_fed.definitions }; mark = bare.star_fed.list; ends = bare.star_fed.ends }
    by false = record { has = record { trees_are = bare.star.trees; undefined = bare.star.definitions }; mark = bare.star.list; ends = tt }
bare_items b e (inr (inl k)) = subst (λ c. Listed c e (ended e (hung c [])) false (more (Node Item false [] none) none)) (sym k) (by e)
  where
    by : (e : Bool) → Listed 43 e (ended e (hung 43 [])) false (more (Node Item false [] none) none)
    by true = record { has = record { trees_are = bare.plus_fed.trees; undefined = bare.plus_fed.definitions }; mark = bare.plus_fed.list; ends = bare.plus_fed.ends }
    by false = record { has = record { trees_are = bare.plus.trees; undefined = bare.plus.definitions }; mark = bare.plus.list; ends = tt }
bare_items b e (inr (inr k)) = subst (λ c. Listed c e (ended e (hung c [])) false (more (Node Item false [] none) none)) (sym k) (by e)
  where
    by : (e : Bool) → Listed 45 e (ended e (hung 45 [])) false (more (Node Item false [] none) none)
    by true = record { has = record { trees_are = bare.hyphen_fed.trees; undefined = bare.hyphen_fed.definitions }; mark = bare.hyphen_fed.list; ends = bare.hyphen_fed.ends }
    by false = record { has = record { trees_are = bare.hyphen.trees; undefined = bare.hyphen.definitions }; mark = bare.hyphen.list; ends = tt }

bare_quotes : (e : Bool) → HasTrees (ended e (codes " > " ∷ [])) bare_quote
bare_quotes true = record { trees_are = bare.quote_fed.trees; undefined = bare.quote_fed.definitions }
bare_quotes false = record { trees_are = bare.quote.trees; undefined = bare.quote.definitions }

bare_besides : (e : Bool) → HasTrees (ended e (codes "> " ∷ [])) bare_quote
bare_besides true = record { trees_are = bare.beside_fed.trees; undefined = bare.beside_fed.definitions }
bare_besides false = record { trees_are = bare.beside.trees; undefined = bare.beside.definitions }

bare_rules : (e : Bool) → HasTrees (ended e (codes "***" ∷ [])) bare_rule
bare_rules true = record { trees_are = bare.rule_fed.trees; undefined = bare.rule_fed.definitions }
bare_rules false = record { trees_are = bare.rule.trees; undefined = bare.rule.definitions }

module _ (o : OptionsView) (flags : ParserOptions) (laws : Laws) (tokens : ArePlainTokens o) (token : IsBullet o.list_token) where
  -- plain blocks

  block_stand : (b : PlainBlock) → IsPlainBlock b → IsTabless b → ((d : Declares o flags b) → length d.first < 2 ^ 64 → mark_in d.first ≡ None) → Stand o flags laws token b (block_lines o flags b)
  block_stand b h t marks =
      let d : Declares o flags b = declares o flags tokens b h in
      let st = stand o flags tokens b h t in
      let text : List ℕ = ended true (block_lines o flags b) in
      record {
        some = record { first = d.first; more = d.more; is = d.is };
        inked = inky_inked d.first d.inked;
        within = d.within;
        marks = marks d;
        reads = λ e small. let r = st.reads e (omega (arith, small)) in record { trees_are = ap tree_told r.blocks; undefined = r.definitions };
        quiet = λ small. closes_quiet text (feeds_below o b) laws.closed_quiet (st.closes (omega (arith, small)));
        closed = λ small. closes_how text (feeds_below o b) (st.closes (omega (arith, small)));
      }

  stars_stand : Stand o flags laws token PlainRule (codes "***" ∷ [])
  stars_stand = record {
    some = record { first = codes "***"; more = []; is = refl };
    inked = refl;
    within = (star_within, (star_within, (star_within, tt)));
    marks = λ fits. stars_mark;
    reads = λ e small. bare_rules e;
    quiet = λ small. record { line = (codes "***", refl); ends = bare.rule_fed.calm };
    closed = λ small. inl bare.rule_closed;
  }

  paragraph_mark : (l : List ℕ) (ms : List (List ℕ)) → IsPlainBlock (PlainParagraph l ms) → (d : Declares o flags (PlainParagraph l ms)) → length d.first < 2 ^ 64 → mark_in d.first ≡ None
  paragraph_mark l ms h d fits =
      let c : Content (paragraph_lines o flags l ms) (l ∷ ms) = paragraph_content o flags tokens l ms h in
      let same : d.first ≡ spelled c.first = first_same d.first (spelled c.first) d.more (map spelled c.more) (sym d.is ∙ c.is) in
      plain_mark d.first (subst BeginsPlainly (sym same) ((c.lines_plain).0).begins) d.within fits

  heading_mark : (l : HeadingLevel) (ts : List (List ℕ)) (d : Declares o flags (PlainHeading l ts)) → length d.first < 2 ^ 64 → mark_in d.first ≡ None
  heading_mark l ts d fits =
      let found = hashes l (escaped (place_in o flags (HeadingKind l)) (concat ts)) in
      let same : d.first ≡ 35 ∷ found.0 = sym (first_same (mark_of (HeadingKind l) ++ escaped (place_in o flags (HeadingKind l)) (concat ts)) d.first [] d.more d.is) ∙ found.1 in
      ap mark_in same ∙ hash_mark (found.0) (subst (AllByRecursion IsWithin) same d.within) (subst (λ xs. length xs < 2 ^ 64) same fits)

  rule_mark : (d : Declares o flags PlainRule) → length d.first < 2 ^ 64 → mark_in d.first ≡ None
  rule_mark d fits = ap mark_in (sym (first_same (codes "---") d.first [] d.more d.is)) ∙ hyphens_mark

  code_mark : (info : List ℕ) (ls : List (List ℕ)) → IsPlainBlock (PlainCode info ls) → (d : Declares o flags (PlainCode info ls)) → length d.first < 2 ^ 64 → mark_in d.first ≡ None
  code_mark info ls h d fits =
      let good : IsCode o.code_block_token (fence_rest o info ls) info ls = may_stand o (λ text flags. core_reading text) flags tokens.emphasis tokens.code (PlainCode info ls) h in
      let same : d.first ≡ fence o info (code_text ls) ++ info = sym (first_same (fence o info (code_text ls) ++ info) d.first (ls ++ fence o info (code_text ls) ∷ []) d.more d.is) in
      fence_mark d.first (subst Fenced (sym same) (fence_begins o info (code_text ls) info good.token_is)) d.within fits

  rule_stand : (t : Bool) → Stand o flags laws token PlainRule (rule_line t ∷ [])
  rule_stand true = stars_stand
  rule_stand false = block_stand PlainRule tt tt rule_mark

  leaf : (c : Outside) (how : How) (b : PlainBlock) → IsPlainBlock b → IsTabless b → Stand o flags laws token b (plain_lines o flags c how b)
  leaf c how (PlainParagraph l ms) h t = block_stand (PlainParagraph l ms) h t (paragraph_mark l ms h)
  leaf c how (PlainHeading level ts) h t = block_stand (PlainHeading level ts) h t (heading_mark level ts)
  leaf c how PlainRule h t = rule_stand (is_amid_hyphens c how)
  leaf c how (PlainCode info ls) h t = block_stand (PlainCode info ls) h t (code_mark info ls h)

  -- lines

  abbrev lines : Outside → How → Blocks → List Line
  lines c how f = lines_of o flags c how f

  within : (c : Outside) (how : How) (f : Blocks) → ArePlainIn false f → BlocksTabless f → Bound (ended false (lines c how f)) → LinesWithin (lines c how f)
  within c how f h t small =
      both_within (lines c how f) ((all_bytes o flags token (laid o flags tokens) f).blocks_bare c how h (short_lines (lines c how f) small)) (blocks_safe o flags tokens false c how f tt h (inl token) t)

  well_by : (f : Blocks) (ls : List Line) → (f ≡ Nothing → ls ≡ []) → EndsIf f ls → EndsWell false ls
  well_by Nothing ls nil h = subst (EndsWell false) (sym (nil refl)) tt
  well_by (PlainThen b f) ls nil h = ends_well ls h
  well_by (QuoteThen kids f) ls nil h = ends_well ls h
  well_by (BulletsThen items f) ls nil h = ends_well ls h
  well_by (ItemThen kids f) ls nil h = ends_well ls h

  well : (c : Outside) (how : How) (f : Blocks) → ArePlainIn false f → Bound (ended false (lines c how f)) → EndsWell false (lines c how f)
  well c how f h small = well_by f (lines c how f) (λ e. ap (λ g. lines c how g) e) ((all_bytes o flags token (laid o flags tokens) f).blocks_end c how h (short_lines (lines c how f) small))

  hung_first : (b : ℕ) (ls : List Line) → AreShort (2 ^ 64) (hung b ls) → length (b ∷ 32 ∷ first_line ls) < 2 ^ 64
  hung_first b [] h = h.0
  hung_first b (l ∷ ls) h = h.0

  starts : (b : ℕ) (c : Outside) (kids : Blocks) → IsBullet b → ArePlainIn false kids → BlocksTabless kids → HasSafeRules o (in_bullets b c) Marked kids → Bound (ended false (hung b (lines (in_bullets b c) Marked kids)))
      → Starts o flags laws token b (first_line (lines (in_bullets b c) Marked kids))
  starts b c kids is h t safe small =
      let ls : List Line = lines (in_bullets b c) Marked kids in
      let short : AreShort (2 ^ 64) (hung b ls) = short_lines (hung b ls) small in
      let st : Started b ls = (all_proved o flags token (laid o flags tokens) kids).starts b c is h safe (hung_short b (2 ^ 64) ls short) in
      record {
        break = no_break b (first_line ls) is st.rule;
        marks = bullet_mark b (first_line ls) is st.rule (bullet_within b is, (space_within, st.within)) (hung_first b ls short);
      }

  pub leaves : Leaves o flags laws token
  leaves = record {
    leaf = leaf;
    within = within;
    well = well;
    starts = starts;
    empty_item = bare_items;
    empty_quote = bare_quotes;
    quote_marks = quote_mark;
    empty_quote_quiet = record { line = (codes " > ", refl); ends = bare.quote_fed.calm };
    empty_beside = bare_besides;
    empty_beside_quiet = record { line = (codes "> ", refl); ends = bare.beside_fed.calm };
  }

-- Each byte of a layout is one of ASCII, and is no tab, no carriage return and no U+0000.
use Rattle.std.proofs.Common.{◌≡◌, ◌⊎◌, inl, inr, ℕ, zero, suc, ◌-◌, ◌<◌, Bool, true, false, ◌==◌, ◌&&◌, ◌||◌, if◌then◌else◌, List, [], ◌∷◌, ◌++◌, codes, length, map, flat_map, max, replicate, refl, sym, subst, ◌∙◌, arith, true≢false, None, Some}
use Rattle.std.proofs.lemmas.Bool.Decides.{nat_tests}
use Rattle.std.specs.Prelude.{IsAscii, unwrap_or}
use Rattle.std.specs.Char.{char_set_contains, encode_utf8}
use Rattle.std.specs.List.{AllByRecursion, concat, list_all, list_any}
use Rattle.tocmark_event.specs.Options.{OptionsView}
use Rattle.tocmark_event.specs.View.{EventView, End, Leaf, SoftBreak}
use Rattle.tocmark_event.specs.declared.event.HeadingLevel.{HeadingLevel}
use Rattle.tocmark_event.specs.declared.event.HeadingLevel.TheVariants as level
use Rattle.tocmark_event.specs.declared.event.TagEnd.TheVariants as end
use Rattle.tocmark_event.specs.declared.event.flags.ParserOptions.{ParserOptions}
use Rattle.tocmark_read_scan.specs.PlainParts.{spelled}
use Rattle.tocmark_read_scan.proofs.PlainTests.{both_true, eq_of}
use Rattle.tocmark_reader.specs.Reading.{core_reading}
use Rattle.tocmark_reader.proofs.PlainReading.{IsPrintable}
use Rattle.tocmark_reader.proofs.PlainSources.{all_implied}
use Rattle.tocmark_block_laws.specs.Quotes.{IsPlain}
use Rattle.tocmark_standard_laws.specs.Contents.{HasNoZero}
use Rattle.tocmark_write_texts.specs.Escape.{Surroundings, ends_line, escaped}
use Rattle.tocmark_spelling.specs.Opening.{fence, fence_length, fence_token}
use Rattle.tocmark_laws.specs.PlainLines.{is_line, IsInParagraph}
use Rattle.tocmark_laws.specs.TextBlocks.{Kind, ParagraphKind, HeadingKind, mark_of, place_in}
use Rattle.tocmark_laws.specs.Documents.{ArePlainTokens, PlainBlock, PlainParagraph, PlainHeading, PlainRule, PlainCode, IsPlainBlock}
use Rattle.tocmark_laws.proofs.PlainCharacters.{parts_of}
use Rattle.tocmark_laws.proofs.PlainEscapes.{escape_is}
use Rattle.tocmark_laws.proofs.PlainEscapedBytes.{escaped_is}
use Rattle.tocmark_laws.proofs.PlainEscapedTexts.{IsLine, plain_line}
use Rattle.tocmark_laws.proofs.PlainParagraph.{line_from}
use Rattle.tocmark_laws.proofs.DocumentCode.{IsToken}
use Rattle.tocmark_laws.proofs.DocumentCodeSpelling.{fence_rest}
use Rattle.tocmark_laws.proofs.DocumentRows.{IsCode, AreCode}
use Rattle.tocmark_laws.proofs.DocumentsReadBack.{may_stand}
use Rattle.tocmark_document_laws.specs.Blocks.{Blocks, Nothing, PlainThen, QuoteThen, BulletsThen, ItemThen, ArePlainIn, ArePlain}
use Rattle.tocmark_document_laws.specs.DocumentLines.{Line, How, Beside, Marked, Below, Outside, no_lists, block_lines, bullet_for, code_text, document_lines, feeds_below, feeds_below_item, feeds_below_list, feeds_below_quote, gap_lines, gap_of, hanging, in_bullets, item_gap, joined, layout, line_in, lines_of, list_gap, marker, new_line, paragraph_gap, paragraph_lines, plain_gap, plain_lines, quote_lines, quoted, quoted_beside, rule_line, is_amid_hyphens}
use Rattle.tocmark_document_laws.specs.ReadBack.{AreTabless, IsTabless, BlocksTabless, HasNoList}
use Rattle.tocmark_layout_laws.proofs.Bullets.{IsBullet}
use Rattle.tocmark_layout_laws.proofs.LaidLists.{bullet_is}

pub record IsSafe (b : ℕ) : Type 0 where
  pub ascii : b < 128
  pub some : (b == 0) ≡ false
  pub tab : (b == 9) ≡ false
  pub return : (b == 13) ≡ false

abbrev pub AreSafe : List ℕ → Type 0
AreSafe xs = AllByRecursion IsSafe xs

abbrev pub LinesSafe : List Line → Type 0
LinesSafe ls = AllByRecursion AreSafe ls

safe_both : (xs ys : List ℕ) → AreSafe xs → AreSafe ys → AreSafe (xs ++ ys)
safe_both [] ys h k = k
safe_both (x ∷ xs) ys h k = (h.0, safe_both xs ys (h.1) k)

lines_both : (xs ys : List Line) → LinesSafe xs → LinesSafe ys → LinesSafe (xs ++ ys)
lines_both [] ys h k = k
lines_both (x ∷ xs) ys h k = (h.0, lines_both xs ys (h.1) k)

-- bytes

shown_safe : (b : ℕ) → IsPrintable b → IsSafe b
shown_safe b p =
    let low = p.low in
    let high = p.high in
    record { ascii = omega (arith, low, high); some = grind (arith, nat_tests, low); tab = grind (arith, nat_tests, low); return = grind (arith, nat_tests, low) }

pub feed_safe : IsSafe 10
feed_safe = record { ascii = omega arith; some = refl; tab = refl; return = refl }

space_safe : IsSafe 32
space_safe = record { ascii = omega arith; some = refl; tab = refl; return = refl }

angle_safe : IsSafe 62
angle_safe = record { ascii = omega arith; some = refl; tab = refl; return = refl }

hyphen_safe : IsSafe 45
hyphen_safe = record { ascii = omega arith; some = refl; tab = refl; return = refl }

plus_safe : IsSafe 43
plus_safe = record { ascii = omega arith; some = refl; tab = refl; return = refl }

star_safe : IsSafe 42
star_safe = record { ascii = omega arith; some = refl; tab = refl; return = refl }

hash_safe : IsSafe 35
hash_safe = record { ascii = omega arith; some = refl; tab = refl; return = refl }

tick_safe : IsSafe 96
tick_safe = record { ascii = omega arith; some = refl; tab = refl; return = refl }

tilde_safe : IsSafe 126
tilde_safe = record { ascii = omega arith; some = refl; tab = refl; return = refl }

same_safe : (n b : ℕ) → IsSafe b → AreSafe (replicate n b)
same_safe zero b h = tt
same_safe (suc n) b h = (h, same_safe n b h)

code_safe : (l : List ℕ) → AreCode l → AreTabless l → AreSafe l
code_safe [] h t = tt
code_safe (b ∷ bs) h t = (record { ascii = (h.0).clean.ascii; some = (h.0).clean.some; tab = t.0; return = (h.0).clean.return }, code_safe bs (h.1) (t.1))

codes_safe : (ls : List Line) → AllByRecursion AreCode ls → AllByRecursion AreTabless ls → LinesSafe ls
codes_safe [] h t = tt
codes_safe (l ∷ ls) h t = (code_safe l (h.0) (t.0), codes_safe ls (h.1) (t.1))

-- fences
encoded_safe : (token n : ℕ) → IsToken token → AreSafe (flat_map encode_utf8 (replicate n token))
unfolding encode_utf8
encoded_safe token zero is = tt
encoded_safe token (suc n) (inl e) = subst (λ t. AreSafe (flat_map encode_utf8 (replicate (suc n) t))) (sym e) (tick_safe, encoded_safe 96 n (inl refl))
encoded_safe token (suc n) (inr e) = subst (λ t. AreSafe (flat_map encode_utf8 (replicate (suc n) t))) (sym e) (tilde_safe, encoded_safe 126 n (inr refl))

fence_safe : (o : OptionsView) (info text : List ℕ) → IsToken o.code_block_token → AreSafe (fence o info text)
fence_safe o info text is = encoded_safe (fence_token o info) (fence_length o (fence_token o info) text) (by ((o.code_block_token == 96) && list_any (λ b. b == 96) info))
  where
    by : (c : Bool) → IsToken (if c then 126 else o.code_block_token)
    by true = inr refl
    by false = is

mark_safe : (k : Kind) → AreSafe (mark_of k)
mark_safe ParagraphKind = tt
mark_safe (HeadingKind level.H1) = (hash_safe, (space_safe, tt))
mark_safe (HeadingKind level.H2) = (hash_safe, (hash_safe, (space_safe, tt)))
mark_safe (HeadingKind level.H3) = (hash_safe, (hash_safe, (hash_safe, (space_safe, tt))))
mark_safe (HeadingKind level.H4) = (hash_safe, (hash_safe, (hash_safe, (hash_safe, (space_safe, tt)))))
mark_safe (HeadingKind level.H5) = (hash_safe, (hash_safe, (hash_safe, (hash_safe, (hash_safe, (space_safe, tt))))))
mark_safe (HeadingKind level.H6) = (hash_safe, (hash_safe, (hash_safe, (hash_safe, (hash_safe, (hash_safe, (space_safe, tt)))))))

-- gaps
gap_safe : (n : ℕ) → LinesSafe (gap_lines n)
gap_safe n = empty (n - 1)
  where
    empty : (n : ℕ) → LinesSafe (replicate n [])
    empty zero = tt
    empty (suc n) = (tt, empty n)

of_safe : (how : How) → LinesSafe (gap_of how)
of_safe Beside = tt
of_safe Marked = tt
of_safe (Below n b) = gap_safe n

new_safe : (how : How) → LinesSafe (new_line how)
new_safe Beside = (tt, tt)
new_safe Marked = tt
new_safe (Below n b) = gap_safe n

paragraph_safe : (how : How) → LinesSafe (paragraph_gap how)
paragraph_safe Beside = tt
paragraph_safe Marked = tt
paragraph_safe (Below n None) = gap_safe n
paragraph_safe (Below n (Some b)) = gap_safe (max n 2)

before_safe : (how : How) (b : PlainBlock) → LinesSafe (plain_gap how b)
before_safe how (PlainParagraph l ms) = paragraph_safe how
before_safe how (PlainHeading level ts) = of_safe how
before_safe how PlainRule = of_safe how
before_safe how (PlainCode info ls) = new_safe how

rule_safe : (c : Bool) → AreSafe (rule_line c)
rule_safe true = (star_safe, (star_safe, (star_safe, tt)))
rule_safe false = (hyphen_safe, (hyphen_safe, (hyphen_safe, tt)))

quoted_safe : (ls : List Line) → LinesSafe ls → LinesSafe (map quoted ls)
quoted_safe [] h = tt
quoted_safe (l ∷ ls) h = ((space_safe, (angle_safe, (space_safe, h.0))), quoted_safe ls (h.1))

beside_safe : (ls : List Line) → LinesSafe ls → LinesSafe (quoted_beside ls)
beside_safe [] h = ((angle_safe, (space_safe, tt)), tt)
beside_safe (l ∷ ls) h = ((angle_safe, (space_safe, h.0)), quoted_safe ls (h.1))

quote_safe : (how : How) (xs ys : List Line) → LinesSafe xs → LinesSafe ys → LinesSafe (quote_lines how xs ys)
quote_safe Marked xs ys h k = beside_safe xs h
quote_safe Beside xs ys h k = (tt, quoted_safe ([] ∷ ys) (tt, k))
quote_safe (Below n b) xs ys h k = lines_both (gap_lines n) (map quoted ([] ∷ ys)) (gap_safe n) (quoted_safe ([] ∷ ys) (tt, k))

-- lists

-- a bullet that Markdown reads
pub bullet_from : (c : ℕ) → char_set_contains (codes "*-+") c ≡ true → IsBullet c
bullet_from c h = by (42 == c) (45 == c) (43 == c) refl refl refl h
  where
    by : (x y z : Bool) → (42 == c) ≡ x → (45 == c) ≡ y → (43 == c) ≡ z → (x || (y || (z || false))) ≡ true → IsBullet c
    by true y z e k l h = inl (sym (eq_of 42 c e))
    by false true z e k l h = inr (inr (sym (eq_of 45 c k)))
    by false false true e k l h = inr (inl (sym (eq_of 43 c l)))
    by false false false e k l h = absurd (true≢false (sym h))

marker_safe : (b : ℕ) → IsBullet b → AreSafe (marker b)
unfolding encode_utf8
marker_safe b (inl e) = subst (λ x. AreSafe (marker x)) (sym e) (star_safe, (space_safe, tt))
marker_safe b (inr (inl e)) = subst (λ x. AreSafe (marker x)) (sym e) (plus_safe, (space_safe, tt))
marker_safe b (inr (inr e)) = subst (λ x. AreSafe (marker x)) (sym e) (hyphen_safe, (space_safe, tt))

hanging_safe : (m : List ℕ) (ls : List Line) → AreSafe m → LinesSafe ls → LinesSafe (hanging m ls)
hanging_safe m [] h k = (h, tt)
hanging_safe m (l ∷ ls) h k = (safe_both m l h (k.0), by ls (k.1))
  where
    by : (xs : List Line) → LinesSafe xs → LinesSafe (map (λ x. replicate (length m) 32 ++ x) xs)
    by [] h = tt
    by (x ∷ xs) h = (safe_both (replicate (length m) 32) x (same_safe (length m) 32 space_safe) (h.0), by xs (h.1))

item_safe : (how : How) → LinesSafe (item_gap how)
item_safe Beside = tt
item_safe Marked = tt
item_safe (Below n b) = gap_safe (max n 2)

list_safe : (c : Outside) (how : How) → LinesSafe (list_gap c how)
list_safe c how = by c.listed
  where
    by : (k : Bool) → LinesSafe (if k then new_line how else gap_of how)
    by true = new_safe how
    by false = of_safe how

-- the options name a bullet that Markdown reads, or there are no lists
abbrev pub HasBullets : OptionsView → Blocks → Type 0
HasBullets o f = IsBullet o.list_token ⊎ HasNoList f

in_quote : (o : OptionsView) (kids f : Blocks) → HasBullets o (QuoteThen kids f) → HasBullets o kids × HasBullets o f
in_quote o kids f (inl b) = (inl b, inl b)
in_quote o kids f (inr q) = (inr (q.0), inr (q.1))

has_bullet : (o : OptionsView) (items f : Blocks) → HasBullets o (BulletsThen items f) → IsBullet o.list_token
has_bullet o items f (inl b) = b
has_bullet o items f (inr q) = absurd q

in_item : (o : OptionsView) (kids f : Blocks) → HasBullets o (ItemThen kids f) → IsBullet o.list_token
in_item o kids f (inl b) = b
in_item o kids f (inr q) = absurd q

after_plain : (o : OptionsView) (b : PlainBlock) (f : Blocks) → HasBullets o (PlainThen b f) → HasBullets o f
after_plain o b f (inl h) = inl h
after_plain o b f (inr q) = inr q

-- the marker of the items that come, if items do
abbrev HasMarker : Bool → Outside → Type 0
HasMarker true c = AreSafe (marker (unwrap_or c.bullet 0))
HasMarker false c = Unit {0}

-- a text of such lines
more_safe : (ls : List Line) → LinesSafe ls → AreSafe (flat_map (λ m. codes "\n" ++ m) ls)
more_safe [] h = tt
more_safe (l ∷ ls) h = (feed_safe, safe_both l (flat_map (λ m. codes "\n" ++ m) ls) (h.0) (more_safe ls (h.1)))

joined_safe : (ls : List Line) → LinesSafe ls → AreSafe (joined ls)
joined_safe [] h = tt
joined_safe (l ∷ ls) h = safe_both l (flat_map (λ m. codes "\n" ++ m) ls) (h.0) (more_safe ls (h.1))

pub safe_plain : (xs : List ℕ) → AreSafe xs → IsPlain xs
safe_plain [] h = refl
safe_plain (x ∷ xs) h = rw ((h.0).tab, (h.0).return, (h.0).some) (safe_plain xs (h.1))

pub safe_ascii : (xs : List ℕ) → AreSafe xs → IsAscii xs
safe_ascii [] h i = omega arith
safe_ascii (x ∷ xs) h zero = (h.0).ascii
safe_ascii (x ∷ xs) h (suc i) = safe_ascii xs (h.1) i

pub no_zeros : (xs : List ℕ) → AreSafe xs → HasNoZero xs
no_zeros [] h = refl
no_zeros (x ∷ xs) h = rw (h.0).some (no_zeros xs (h.1))

pub shown_ascii : (xs : List ℕ) → AllByRecursion IsPrintable xs → IsAscii xs
shown_ascii xs h = safe_ascii xs (all_implied IsPrintable IsSafe xs shown_safe h)

module _ (o : OptionsView) (flags : ParserOptions) (tokens : ArePlainTokens o) where
  escaped_safe : (p : Surroundings) (l : List ℕ) → IsInParagraph p → is_line l ≡ true → AreSafe (escaped p l)
  escaped_safe p l place h =
      let line = line_from l h in
      let good : IsLine (p, l) = record { place = place; some = line.some; printable = line.printable; last = line.last } in
      subst AreSafe (sym (escaped_is (p, l) good ∙ escape_is p l place line.printable)) (all_implied IsPrintable IsSafe (spelled (parts_of p l)) shown_safe ((plain_line p l good).printable))

  in_line : (next : EventView) → ends_line (Some next) ≡ true → IsInParagraph (line_in o flags next)
  in_line next h = record { literal = refl; first = refl; last = refl; front = refl; table = refl; token = tokens.emphasis; line = h }

  end_line : ends_line (Some (End end.Paragraph)) ≡ true
  unfolding ends_line
  end_line = refl

  break_line : ends_line (Some (Leaf SoftBreak)) ≡ true
  unfolding ends_line
  break_line = refl

  in_heading : (level : HeadingLevel) → IsInParagraph (place_in o flags (HeadingKind level))
  unfolding ends_line
  in_heading level = record { literal = refl; first = refl; last = refl; front = refl; table = refl; token = tokens.emphasis; line = refl }

  words_safe : (l : List ℕ) (ms : List (List ℕ)) → list_all is_line (l ∷ ms) ≡ true → LinesSafe (paragraph_lines o flags l ms)
  words_safe l [] h = (escaped_safe (line_in o flags (End end.Paragraph)) l (in_line (End end.Paragraph) end_line) ((both_true (is_line l) true h).0), tt)
  words_safe l (m ∷ ms) h =
      let both = both_true (is_line l) (list_all is_line (m ∷ ms)) h in
      (escaped_safe (line_in o flags (Leaf SoftBreak)) l (in_line (Leaf SoftBreak) break_line) (both.0), words_safe m ms (both.1))

  block_safe : (b : PlainBlock) → IsPlainBlock b → IsTabless b → LinesSafe (block_lines o flags b)
  block_safe (PlainParagraph l ms) h t = words_safe l ms h
  block_safe (PlainHeading level ts) h t =
      (safe_both (mark_of (HeadingKind level)) (escaped (place_in o flags (HeadingKind level)) (concat ts)) (mark_safe (HeadingKind level)) (escaped_safe (place_in o flags (HeadingKind level)) (concat ts) (in_heading level) h), tt)
  block_safe PlainRule h t = ((hyphen_safe, (hyphen_safe, (hyphen_safe, tt))), tt)
  block_safe (PlainCode info ls) h t =
      let good : IsCode o.code_block_token (fence_rest o info ls) info ls = may_stand o (λ text flags. core_reading text) flags tokens.emphasis tokens.code (PlainCode info ls) h in
      let mark : AreSafe (fence o info (code_text ls)) = fence_safe o info (code_text ls) good.token_is in
      (safe_both (fence o info (code_text ls)) info mark (all_implied IsPrintable IsSafe info shown_safe good.info_printable), lines_both ls (fence o info (code_text ls) ∷ []) (codes_safe ls good.lines t) (mark, tt))

  here_safe : (c : Outside) (how : How) (b : PlainBlock) → IsPlainBlock b → IsTabless b → LinesSafe (plain_lines o flags c how b)
  here_safe c how PlainRule h t = (rule_safe (is_amid_hyphens c how), tt)
  here_safe c how (PlainParagraph l ms) h t = block_safe (PlainParagraph l ms) h t
  here_safe c how (PlainHeading level ts) h t = block_safe (PlainHeading level ts) h t
  here_safe c how (PlainCode info ls) h t = block_safe (PlainCode info ls) h t

  pub blocks_safe : (items : Bool) (c : Outside) (how : How) (f : Blocks) → HasMarker items c → ArePlainIn items f → HasBullets o f → BlocksTabless f → LinesSafe (lines_of o flags c how f)
  blocks_safe items c how Nothing m h q t = tt
  blocks_safe true c how (PlainThen b f) m h q t = absurd h
  blocks_safe false c how (PlainThen b f) m h q t =
      lines_both (plain_gap how b ++ plain_lines o flags c how b) (lines_of o flags c (Below (feeds_below o b) None) f)
      (lines_both (plain_gap how b) (plain_lines o flags c how b) (before_safe how b) (here_safe c how b (h.0) (t.0)))
      (blocks_safe false c (Below (feeds_below o b) None) f tt (h.1) (after_plain o b f q) (t.1))
  blocks_safe true c how (QuoteThen kids f) m h q t = absurd h
  blocks_safe false c how (QuoteThen kids f) m h q t =
      let both = in_quote o kids f q in
      lines_both (quote_lines how (lines_of o flags c Beside kids) (lines_of o flags c (Below 1 None) kids)) (lines_of o flags c (Below (feeds_below_quote o) None) f)
      (quote_safe how (lines_of o flags c Beside kids) (lines_of o flags c (Below 1 None) kids)
      (blocks_safe false c Beside kids tt (h.0) (both.0) (t.0)) (blocks_safe false c (Below 1 None) kids tt (h.0) (both.0) (t.0)))
      (blocks_safe false c (Below (feeds_below_quote o) None) f tt (h.1) (both.1) (t.1))
  blocks_safe true c how (BulletsThen items f) m h q t = absurd h
  blocks_safe false c how (BulletsThen items f) m h q t =
      let token : IsBullet o.list_token = has_bullet o items f q in
      let b : ℕ = bullet_for o c how in
      let within : List Line = lines_of o flags (in_bullets b c) Beside items in
      lines_both (list_gap c how ++ within) (lines_of o flags c (Below (feeds_below_list o c.listed items) (Some b)) f)
      (lines_both (list_gap c how) within (list_safe c how)
      (blocks_safe true (in_bullets b c) Beside items (marker_safe b (bullet_is o c how token)) (h.2) (inl token) (t.0)))
      (blocks_safe false c (Below (feeds_below_list o c.listed items) (Some b)) f tt (h.3) (inl token) (t.1))
  blocks_safe false c how (ItemThen kids f) m h q t = absurd h
  blocks_safe true c how (ItemThen kids f) m h q t =
      let token : IsBullet o.list_token = in_item o kids f q in
      let mark : List ℕ = marker (unwrap_or c.bullet 0) in
      let within : List Line = lines_of o flags c Marked kids in
      lines_both (item_gap how ++ hanging mark within) (lines_of o flags c (Below (feeds_below_item o kids) None) f)
      (lines_both (item_gap how) (hanging mark within) (item_safe how)
      (hanging_safe mark within m (blocks_safe false c Marked kids tt (h.0) (inl token) (t.0))))
      (blocks_safe true c (Below (feeds_below_item o kids) None) f m (h.1) (inl token) (t.1))

  pub layout_safe : (f : Blocks) → ArePlain f → HasBullets o f → BlocksTabless f → AreSafe (layout o flags f)
  layout_safe f h q t = joined_safe (document_lines o flags f) (blocks_safe false no_lists Beside f tt h q t)

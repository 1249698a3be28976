-- The layout of blocks of one line each, in flat lists or not, is a text of such blocks, of which the reader finds the declared blocks.
use Rattle.std.proofs.Common.{◌≡◌, ◌⊎◌, inl, inr, ℕ, zero, suc, ◌-◌, ◌+◌, ◌^◌, ◌<◌, ◌≤◌, Bool, true, false, not, ◌&&◌, ◌||◌, nat_lt, List, [], ◌∷◌, ◌++◌, length, max, replicate, refl, ap, sym, subst, ◌∙◌, arith, append_assoc, Some, None, true≢false}
use Rattle.std.specs.List.{AllByRecursion, list_any}
use Rattle.std.proofs.lemmas.Bool.Decides.{nat_tests}
use Rattle.tocmark_event.specs.Options.{OptionsView}
use Rattle.tocmark_event.specs.declared.event.flags.ParserOptions.{ParserOptions}
use Rattle.tocmark_read_lines.specs.declared.beginnings.Heading.{Heading}
use Rattle.tocmark_read_blocks.proofs.PlainLines.{IsWithin}
use Rattle.tocmark_commonmark.specs.Beginnings.{Beginning, BlankLine, HeadingLine, RuleLine, TextLine, ItemLine, beginning}
use Rattle.tocmark_commonmark.specs.Lines.{Line, is_blank, lines_of as text_lines}
use Rattle.tocmark_block_laws.specs.Lists.{are_short_lines, is_short_line, is_one_line, indent_of_line, pauses, has_one_line_blocks, has_plain_lists}
use Rattle.tocmark_block_laws.specs.Quotes.{IsPlain, is_covered, is_special}
use Rattle.tocmark_laws.specs.Documents.{ArePlainTokens, PlainBlock, PlainParagraph, PlainHeading, PlainRule, PlainCode, IsPlainBlock}
use Rattle.tocmark_document_laws.specs.Blocks.{Blocks, Nothing, PlainThen, QuoteThen, BulletsThen, ItemThen, ArePlainIn, ArePlain, begins_item, is_nothing}
use Rattle.tocmark_document_laws.specs.DocumentLines.{Line as Bytes, How, Beside, Marked, Below, Outside, no_lists, block_lines, bullet_for, feeds_below, feeds_below_item, feeds_below_list, gap_lines, hanging, in_bullets, item_gap, joined, lines_of, list_gap, marker, paragraph_gap, plain_gap, plain_lines}
use Rattle.tocmark_document_laws.specs.ReadBack.{BlocksTabless, IsTabless}
use Rattle.tocmark_layout_laws.proofs.Bullets.{IsBullet, IsNoRule, bullet_begins, bullet_inked}
use Rattle.tocmark_layout_laws.proofs.Fronts.{Inky, flush, inky}
use Rattle.tocmark_layout_laws.proofs.Gaps.{AreEmpty}
use Rattle.tocmark_layout_laws.proofs.Items.{mark}
use Rattle.tocmark_layout_laws.proofs.LaidBlocks.{BeginsAs, Declares, IsNotRule}
use Rattle.tocmark_layout_laws.proofs.LaidLists.{bullet_is, hung_is, item_gap_is, gap_count, list_empty, plain_empty}
use Rattle.tocmark_layout_laws.proofs.PlainBlocks.{declares}
use Rattle.tocmark_layout_laws.proofs.Starts.{line_at, lines_at, empty_blank}
use Rattle.tocmark_layout_laws.proofs.Texts.{IsBare, AreBare, LinesBare, Ends, ends_behind, lines_are, joined_is, AreShort, text_short, all_front, all_behind}
use Rattle.tocmark_read_back_laws.specs.Documents.{IsOneLine, IsShortItem, IsTextLine, AreShortItems, AreShortBlocks, ShortDocumentsAreOfThreeKinds}
use Rattle.tocmark_read_back_laws.proofs.SafeLines.{bullet_from, layout_safe, safe_plain}

-- tests

two : (a b : Bool) → a ≡ true → b ≡ true → (a && b) ≡ true
two a b e f = rw (e, f) refl

three : (a b c : Bool) → a ≡ true → b ≡ true → c ≡ true → (a && b && c) ≡ true
three a b c e f g = rw (e, f, g) refl

four : (a b c d : Bool) → a ≡ true → b ≡ true → c ≡ true → d ≡ true → (a && b && c && d) ≡ true
four a b c d e f g h = rw (e, f, g, h) refl

-- one line before others
step : (w : ℕ) (q : Bool) (l : Line) (ls : List Line) (z : Beginning) → beginning l ≡ z → is_short_line (λ v p. are_short_lines v p ls) w q l ls z ≡ true → are_short_lines w q (l ∷ ls) ≡ true
step w q l ls z e h = ap (λ z. is_short_line (λ v p. are_short_lines v p ls) w q l ls z) e ∙ h

left : (w : ℕ) (x : List ℕ) → Inky x → 1 ≤ w → nat_lt (indent_of_line (line_at 0 x)) w ≡ true
left w x i h = ap (λ n. nat_lt n w) (flush 0 x i) ∙ (let q : nat_lt 0 w ≡ true = grind (arith, nat_tests, h) in q)

-- lines of such a text, where maybe no paragraph is open before them
record Good (q : Bool) (ls : List Bytes) : Type 0 where
  short : (w : ℕ) → 1 ≤ w → are_short_lines w q (lines_at 0 ls) ≡ true
  bare : LinesBare ls
  ends : (ls ≡ []) ⊎ Ends ls

none_good : (q : Bool) → Good q []
none_good q = record { short = λ w h. refl; bare = tt; ends = inl refl }

ends_of : (q : Bool) (x : Bytes) (ls : List Bytes) → Good q (x ∷ ls) → Ends (x ∷ ls)
ends_of q x ls g = by g.ends
  where
    by : (x ∷ ls ≡ []) ⊎ Ends (x ∷ ls) → Ends (x ∷ ls)
    by (inl e) = absurd cc
    by (inr e) = e

ends_on : (q : Bool) (x : Bytes) (ls : List Bytes) → 0 < length x → Good q ls → Ends (x ∷ ls)
ends_on q x ls some g = by g.ends
  where
    by : (ls ≡ []) ⊎ Ends ls → Ends (x ∷ ls)
    by (inl e) = subst (λ (xs : List Bytes). Ends (x ∷ xs)) (sym e) some
    by (inr e) = ends_behind (x ∷ []) ls e

-- lines of which there is one
some_ends : (ls : List Bytes) → 1 ≤ length ls → Good true ls → Ends ls
some_ends [] h g = absurd (omega (arith, h))
some_ends (x ∷ ls) h g = ends_of true x ls g

blank_good : (q : Bool) (ls : List Bytes) → Ends ls → Good true ls → Good q ([] ∷ ls)
blank_good q ls e g = record {
  short = λ w h. step w q (line_at 0 []) (lines_at 0 ls) BlankLine (empty_blank 0) (g.short w h);
  bare = (tt, g.bare);
  ends = inr (ends_behind ([] ∷ []) ls e);
}

gaps_good : (q : Bool) (n : ℕ) (ls : List Bytes) → Ends ls → Good true ls → (n ≡ 0 → Good q ls) → Good q (replicate n [] ++ ls)
gaps_good q zero ls e g h = h refl
gaps_good q (suc n) ls e g h = blank_good q (replicate n [] ++ ls) (ends_behind (replicate n []) ls e) (gaps_good true n ls e g (λ z. g))

empty_good : (q : Bool) (gap ls : List Bytes) → AreEmpty gap → Ends ls → Good true ls → (length gap ≡ 0 → Good q ls) → Good q (gap ++ ls)
empty_good q gap ls empty e g h = subst (λ (xs : List Bytes). Good q (xs ++ ls)) (sym empty) (gaps_good q (length gap) ls e g h)

heading_good : (q : Bool) (x : Bytes) (ls : List Bytes) (h : Heading) → Inky x → AreBare x → beginning (line_at 0 x) ≡ HeadingLine h → Good true ls → Good q (x ∷ ls)
heading_good q x ls h i b e g = record {
  short = λ w k. step w q (line_at 0 x) (lines_at 0 ls) (HeadingLine h) e (two (nat_lt (indent_of_line (line_at 0 x)) w) (are_short_lines 4 true (lines_at 0 ls)) (left w x i k) (g.short 4 (omega arith)));
  bare = (b, g.bare);
  ends = inr (ends_on true x ls i.some g);
}

rule_good : (q : Bool) (x : Bytes) (ls : List Bytes) → Inky x → AreBare x → beginning (line_at 0 x) ≡ RuleLine → Good true ls → Good q (x ∷ ls)
rule_good q x ls i b e g = record {
  short = λ w k. step w q (line_at 0 x) (lines_at 0 ls) RuleLine e (two (nat_lt (indent_of_line (line_at 0 x)) w) (are_short_lines 4 true (lines_at 0 ls)) (left w x i k) (g.short 4 (omega arith)));
  bare = (b, g.bare);
  ends = inr (ends_on true x ls i.some g);
}

text_good : (x : Bytes) (ls : List Bytes) → Inky x → AreBare x → beginning (line_at 0 x) ≡ TextLine → pauses (lines_at 0 ls) ≡ true → Good true ls → Good true (x ∷ ls)
text_good x ls i b e p g = record {
  short = λ w k. step w true (line_at 0 x) (lines_at 0 ls) TextLine e
      (four (nat_lt (indent_of_line (line_at 0 x)) w) true (pauses (lines_at 0 ls)) (are_short_lines 4 true (lines_at 0 ls)) (left w x i k) refl p (g.short 4 (omega arith)));
  bare = (b, g.bare);
  ends = inr (ends_on true x ls i.some g);
}

bullet_bare : (b : ℕ) → IsBullet b → IsBare b
bullet_bare b (inl e) = subst IsBare (sym e) (record { feed = refl; return = refl; zero_byte = refl })
bullet_bare b (inr (inl e)) = subst IsBare (sym e) (record { feed = refl; return = refl; zero_byte = refl })
bullet_bare b (inr (inr e)) = subst IsBare (sym e) (record { feed = refl; return = refl; zero_byte = refl })

bullet_within : (b : ℕ) → IsBullet b → IsWithin b
bullet_within b (inl e) = subst IsWithin (sym e) (record { feed = refl; return = refl; tab = refl })
bullet_within b (inr (inl e)) = subst IsWithin (sym e) (record { feed = refl; return = refl; tab = refl })
bullet_within b (inr (inr e)) = subst IsWithin (sym e) (record { feed = refl; return = refl; tab = refl })

-- an item of one leaf
item_good : (q : Bool) (b : ℕ) (x : Bytes) (ls : List Bytes) → IsBullet b → IsNoRule b x → Inky x → AllByRecursion IsWithin x → AreBare x → length (b ∷ 32 ∷ x) < 2 ^ 64 → is_one_line (beginning (line_at (0 + 1 + 1) x)) ≡ true → Good false ls → Good q ((b ∷ 32 ∷ x) ∷ ls)
item_good q b x ls bullet rule i within bare fits one g =
    let l : Bytes = b ∷ 32 ∷ x in
    let k : Inky l = inky b (32 ∷ x) (bullet_inked b bullet) in
    record {
      short = λ w h. step w q (line_at 0 l) (lines_at 0 ls) (ItemLine (mark b 0 x (is_blank (32 ∷ x))))
          (bullet_begins b x bullet rule i.front (bullet_within b bullet, (record { feed = refl; return = refl; tab = refl }, within)) fits 0)
          (three (nat_lt (indent_of_line (line_at 0 l)) w) (is_one_line (beginning (line_at (0 + 1 + 1) x))) (are_short_lines 2 false (lines_at 0 ls)) (left w l k h) one (g.short 2 (omega arith)));
      bare = ((bullet_bare b bullet, (record { feed = refl; return = refl; zero_byte = refl }, bare)), g.bare);
      ends = inr (ends_on false l ls k.some g);
    }

-- two line feeds make an empty line
gap_first : (n : ℕ) (ls : List Bytes) → 2 ≤ n → pauses (lines_at 0 (gap_lines n ++ ls)) ≡ true
gap_first n ls h = by (n - 1) (omega (arith, h))
  where
    by : (m : ℕ) → 1 ≤ m → pauses (lines_at 0 (replicate m [] ++ ls)) ≡ true
    by zero h = absurd (omega (arith, h))
    by (suc m) h = refl

gap_length : (n : ℕ) → length (replicate {A = Bytes} n []) ≡ n
gap_length zero = refl
gap_length (suc n) = ap suc (gap_length n)

-- no paragraph is open, or an empty line is before one
abbrev IsQuiet : How → Bool → Type 0
IsQuiet how q = (q ≡ true) ⊎ (1 ≤ length (paragraph_gap how))

module _ (o : OptionsView) (flags : ParserOptions) (tokens : ArePlainTokens o) (token : IsBullet o.list_token) where
  abbrev ls_of : How → Blocks → List Bytes
  ls_of how f = lines_of o flags no_lists how f

  same_lines : (how : How) (b : PlainBlock) → plain_lines o flags no_lists how b ≡ block_lines o flags b
  same_lines how (PlainParagraph l ms) = refl
  same_lines how (PlainHeading level ts) = refl
  same_lines Beside PlainRule = refl
  same_lines Marked PlainRule = refl
  same_lines (Below n b) PlainRule = refl
  same_lines how (PlainCode info ls) = refl

  -- the one line of a block
  one_line : (b : PlainBlock) → IsOneLine b → (s : Declares o flags b) → block_lines o flags b ≡ s.first ∷ []
  one_line (PlainParagraph l []) h s = s.is ∙ ap (λ (xs : List Bytes). s.first ∷ xs) (let e : s.more ≡ [] = cc in e)
  one_line (PlainParagraph l (m ∷ ms)) h s = absurd h
  one_line (PlainHeading level ts) h s = s.is ∙ ap (λ (xs : List Bytes). s.first ∷ xs) (let e : s.more ≡ [] = cc in e)
  one_line PlainRule h s = s.is ∙ ap (λ (xs : List Bytes). s.first ∷ xs) (let e : s.more ≡ [] = cc in e)
  one_line (PlainCode info ls) h s = absurd h

  leaf_of : (b : PlainBlock) → IsPlainBlock b → Declares o flags b
  leaf_of b h = declares o flags tokens b h

  pauses_below : (n : ℕ) (f : Blocks) → 2 ≤ n → AreShortBlocks f → pauses (lines_at 0 (ls_of (Below n None) f)) ≡ true
  pauses_below n Nothing h s = refl
  pauses_below n (PlainThen (PlainParagraph l []) f) h s = first n (block_lines o flags (PlainParagraph l [])) (ls_of (Below (feeds_below o (PlainParagraph l [])) None) f) h
    where
      first : (n : ℕ) (xs ys : List Bytes) → 2 ≤ n → pauses (lines_at 0 ((gap_lines n ++ xs) ++ ys)) ≡ true
      first n xs ys h = ap (λ (zs : List Bytes). pauses (lines_at 0 zs)) (append_assoc (gap_lines n) xs ys) ∙ gap_first n (xs ++ ys) h
  pauses_below n (PlainThen (PlainParagraph l (m ∷ ms)) f) h s = absurd (s.0)
  pauses_below n (PlainThen (PlainHeading level ts) f) h s =
      let rest : List Bytes = ls_of (Below (feeds_below o (PlainHeading level ts)) None) f in
      ap (λ (zs : List Bytes). pauses (lines_at 0 zs)) (append_assoc (gap_lines n) (block_lines o flags (PlainHeading level ts)) rest) ∙ gap_first n (block_lines o flags (PlainHeading level ts) ++ rest) h
  pauses_below n (PlainThen PlainRule f) h s =
      let rest : List Bytes = ls_of (Below (feeds_below o PlainRule) None) f in
      ap (λ (zs : List Bytes). pauses (lines_at 0 zs)) (append_assoc (gap_lines n) (block_lines o flags PlainRule) rest) ∙ gap_first n (block_lines o flags PlainRule ++ rest) h
  pauses_below n (PlainThen (PlainCode info ls) f) h s = absurd (s.0)
  pauses_below n (QuoteThen kids f) h s = absurd s
  pauses_below n (BulletsThen items f) h s =
      let b : ℕ = bullet_for o no_lists (Below n None) in
      let within : List Bytes = lines_of o flags (in_bullets b no_lists) Beside items in
      let rest : List Bytes = ls_of (Below (feeds_below_list o false items) (Some b)) f in
      ap (λ (zs : List Bytes). pauses (lines_at 0 zs)) (append_assoc (gap_lines n) within rest) ∙ gap_first n (within ++ rest) h
  pauses_below n (ItemThen kids f) h s = absurd s

  -- a paragraph
  abbrev IsAfter : PlainBlock → Type 0
  IsAfter (PlainParagraph l ms) = Unit {0}
  IsAfter (PlainHeading level ts) = ⊥
  IsAfter PlainRule = ⊥
  IsAfter (PlainCode info ls) = ⊥

  -- a block and those after it
  plain_good : (how : How) (q : Bool) (b : PlainBlock) (rest : List Bytes) → IsPlainBlock b → IsOneLine b → AreShort (2 ^ 64) (block_lines o flags b) → IsQuiet how q → (IsAfter b → pauses (lines_at 0 rest) ≡ true) → Good true rest
      → Good q ((plain_gap how b ++ plain_lines o flags no_lists how b) ++ rest)
  plain_good how q b rest h one short quiet p g =
      let s : Declares o flags b = leaf_of b h in
      let e : plain_lines o flags no_lists how b ≡ s.first ∷ [] = same_lines how b ∙ one_line b one s in
      let few : AreShort (2 ^ 64) (s.first ∷ s.more) = subst (AreShort (2 ^ 64)) s.is short in
      subst (λ (xs : List Bytes). Good q ((plain_gap how b ++ xs) ++ rest)) (sym e)
      (subst (Good q) (sym (append_assoc (plain_gap how b) (s.first ∷ []) rest))
      (by b one p s.first s.inked (s.bare.0) (s.begins few 0)))
    where
      by : (b : PlainBlock) → IsOneLine b → (IsAfter b → pauses (lines_at 0 rest) ≡ true) → (x : Bytes) → Inky x → AreBare x → BeginsAs b (beginning (line_at 0 x)) → Good q (plain_gap how b ++ x ∷ rest)
      by (PlainParagraph l (m ∷ ms)) one p x i bare z = absurd one
      by (PlainParagraph l []) one p x i bare z =
          let k : Good true (x ∷ rest) = text_good x rest i bare z (p tt) g in
          empty_good q (paragraph_gap how) (x ∷ rest) (plain_empty how (PlainParagraph l [])) (ends_of true x rest k) k (calm quiet k)
        where
          calm : IsQuiet how q → Good true (x ∷ rest) → length (paragraph_gap how) ≡ 0 → Good q (x ∷ rest)
          calm (inl e) k z = subst (λ t. Good t (x ∷ rest)) (sym e) k
          calm (inr e) k z = absurd (omega (arith, e, z))
      by (PlainHeading level ts) one p x i bare z =
          let k : (t : Bool) → Good t (x ∷ rest) = λ t. heading_good t x rest (z.0) i bare (z.1) g in
          empty_good q (plain_gap how (PlainHeading level ts)) (x ∷ rest) (plain_empty how (PlainHeading level ts)) (ends_of true x rest (k true)) (k true) (λ e. k q)
      by PlainRule one p x i bare z =
          let k : (t : Bool) → Good t (x ∷ rest) = λ t. rule_good t x rest i bare z g in
          empty_good q (plain_gap how PlainRule) (x ∷ rest) (plain_empty how PlainRule) (ends_of true x rest (k true)) (k true) (λ e. k q)
      by (PlainCode info ls) one p x i bare z = absurd one

  -- a leaf of an item
  leaf_one : (b : PlainBlock) (x : Beginning) → IsNotRule b → IsOneLine b → BeginsAs b x → is_one_line x ≡ true
  leaf_one (PlainParagraph l ms) x n one z = ap is_one_line z
  leaf_one (PlainHeading level ts) x n one z = ap is_one_line (z.1)
  leaf_one PlainRule x n one z = absurd n
  leaf_one (PlainCode info ls) x n one z = absurd one

  -- the line of an item of this leaf, and those after it
  leaf_good : (q : Bool) (how : How) (bullet : ℕ) (b : PlainBlock) (more : List Bytes) → IsBullet bullet → IsPlainBlock b → IsOneLine b → IsNotRule b → AreShort (2 ^ 64) (item_gap how ++ hanging (marker bullet) (block_lines o flags b))
      → Good true more → Good false more → Good q ((item_gap how ++ hanging (marker bullet) (block_lines o flags b)) ++ more)
  leaf_good q how bullet b more is h one n short g k =
      let s : Declares o flags b = leaf_of b h in
      let l : Bytes = bullet ∷ 32 ∷ s.first in
      let e : hanging (marker bullet) (block_lines o flags b) ≡ l ∷ [] = ap (hanging (marker bullet)) (one_line b one s) ∙ hung_is bullet (s.first ∷ []) is in
      let fits : AreShort (2 ^ 64) (l ∷ []) = subst (AreShort (2 ^ 64)) e (all_behind _ (item_gap how) (hanging (marker bullet) (block_lines o flags b)) short) in
      let wide : length l < 2 ^ 64 = fits.0 in
      let few : AreShort (2 ^ 64) (s.first ∷ s.more) = subst (AreShort (2 ^ 64)) (sym (one_line b one s) ∙ s.is) ((omega (arith, wide), tt)) in
      let item : (t : Bool) → Good t (l ∷ more) = λ t. item_good t bullet s.first more is (s.breaks n bullet is) s.inked s.within (s.bare.0) wide (leaf_one b (beginning (line_at (0 + 1 + 1) s.first)) n one (s.begins few (0 + 1 + 1))) k in
      subst (λ (xs : List Bytes). Good q ((item_gap how ++ xs) ++ more)) (sym e)
      (subst (Good q) (sym (append_assoc (item_gap how) (l ∷ []) more))
      (subst (λ (xs : List Bytes). Good q (xs ++ l ∷ more)) (sym (item_gap_is how)) (gaps_good q (gap_count how) (l ∷ more) (ends_of true l more (item true)) (item true) (λ z. item q))))

  one_of : (b : PlainBlock) → IsTextLine b → IsOneLine b × IsNotRule b
  one_of (PlainParagraph l []) h = (tt, tt)
  one_of (PlainParagraph l (m ∷ ms)) h = absurd h
  one_of (PlainHeading level ts) h = (tt, tt)
  one_of PlainRule h = absurd h
  one_of (PlainCode info ls) h = absurd h

  kid_lines : (c : Outside) (b : PlainBlock) → IsTextLine b → lines_of o flags c Marked (PlainThen b Nothing) ≡ block_lines o flags b
  kid_lines c (PlainParagraph l []) h = refl
  kid_lines c (PlainParagraph l (m ∷ ms)) h = absurd h
  kid_lines c (PlainHeading level ts) h = refl
  kid_lines c PlainRule h = absurd h
  kid_lines c (PlainCode info ls) h = absurd h

  -- the items of a list, and what is after it
  items_good : (q : Bool) (how : How) (bullet : ℕ) (f : Blocks) (more : List Bytes) → IsBullet bullet → ArePlainIn true f → AreShortItems f → AreShort (2 ^ 64) (lines_of o flags (in_bullets bullet no_lists) how f) → ((t : Bool) → Good t more)
      → Good q (lines_of o flags (in_bullets bullet no_lists) how f ++ more)
  items_good q how bullet Nothing more is h s short g = g q
  items_good q how bullet (PlainThen b f) more is h s short g = absurd s
  items_good q how bullet (QuoteThen kids f) more is h s short g = absurd s
  items_good q how bullet (BulletsThen items f) more is h s short g = absurd s
  items_good q how bullet (ItemThen Nothing f) more is h s short g = absurd (s.0)
  items_good q how bullet (ItemThen (QuoteThen x y) f) more is h s short g = absurd (s.0)
  items_good q how bullet (ItemThen (BulletsThen x y) f) more is h s short g = absurd (s.0)
  items_good q how bullet (ItemThen (ItemThen x y) f) more is h s short g = absurd (s.0)
  items_good q how bullet (ItemThen (PlainThen b (PlainThen x y)) f) more is h s short g = absurd (true≢false (sym ((s.0).1)))
  items_good q how bullet (ItemThen (PlainThen b (QuoteThen x y)) f) more is h s short g = absurd (true≢false (sym ((s.0).1)))
  items_good q how bullet (ItemThen (PlainThen b (BulletsThen x y)) f) more is h s short g = absurd (true≢false (sym ((s.0).1)))
  items_good q how bullet (ItemThen (PlainThen b (ItemThen x y)) f) more is h s short g = absurd (true≢false (sym ((s.0).1)))
  items_good q how bullet (ItemThen (PlainThen b Nothing) f) more is h s short g =
      let c : Outside = in_bullets bullet no_lists in
      let both = one_of b ((s.0).0) in
      let kids : List Bytes = lines_of o flags c Marked (PlainThen b Nothing) in
      let mine : List Bytes = item_gap how ++ hanging (marker bullet) kids in
      let below : How = Below (feeds_below_item o (PlainThen b Nothing)) None in
      let rest : List Bytes = lines_of o flags c below f in
      let same : kids ≡ block_lines o flags b = kid_lines c b ((s.0).0) in
      let again : (t : Bool) → Good t (rest ++ more) = λ t. items_good t below bullet f more is (h.1) (s.1) (all_behind _ mine rest short) g in
      subst (Good q) (sym (append_assoc mine rest more))
      (subst (λ (xs : List Bytes). Good q ((item_gap how ++ hanging (marker bullet) xs) ++ (rest ++ more))) (sym same)
      (leaf_good q how bullet b (rest ++ more) is ((h.0).0) (both.0) (both.1) (subst (λ (xs : List Bytes). AreShort (2 ^ 64) (item_gap how ++ hanging (marker bullet) xs)) same (all_front _ mine rest short)) (again true) (again false)))

  begun : (b : ℕ) (items : Blocks) → begins_item items ≡ true → (rest : List Bytes) → 1 ≤ length (lines_of o flags (in_bullets b no_lists) Beside items ++ rest)
  begun b Nothing e rest = absurd (true≢false (sym e))
  begun b (PlainThen x f) e rest = absurd (true≢false (sym e))
  begun b (QuoteThen x f) e rest = absurd (true≢false (sym e))
  begun b (BulletsThen x f) e rest = absurd (true≢false (sym e))
  begun b (ItemThen kids f) e rest = by (lines_of o flags (in_bullets b no_lists) Marked kids)
    where
      by : (ks : List Bytes) → 1 ≤ length ((hanging (marker b) ks ++ lines_of o flags (in_bullets b no_lists) (Below (feeds_below_item o kids) None) f) ++ rest)
      by [] = omega arith
      by (k ∷ ks) = omega arith

  -- blocks
  blocks_good : (how : How) (q : Bool) (f : Blocks) → ArePlain f → AreShortBlocks f → AreShort (2 ^ 64) (ls_of how f) → IsQuiet how q → Good q (ls_of how f)
  blocks_good how q Nothing h s short quiet = none_good q
  blocks_good how q (PlainThen b f) h s short quiet =
      let rest : List Bytes = ls_of (Below (feeds_below o b) None) f in
      let mine : List Bytes = plain_gap how b ++ plain_lines o flags no_lists how b in
      let body : AreShort (2 ^ 64) (block_lines o flags b) = subst (AreShort (2 ^ 64)) (same_lines how b) (all_behind _ (plain_gap how b) (plain_lines o flags no_lists how b) (all_front _ mine rest short)) in
      plain_good how q b rest (h.0) (s.0) body quiet (by b) (blocks_good (Below (feeds_below o b) None) true f (h.1) (s.1) (all_behind _ mine rest short) (inl refl))
    where
      by : (b : PlainBlock) → IsAfter b → pauses (lines_at 0 (ls_of (Below (feeds_below o b) None) f)) ≡ true
      by (PlainParagraph l ms) p = pauses_below (feeds_below o (PlainParagraph l ms)) f (omega arith) (s.1)
      by (PlainHeading level ts) p = absurd p
      by PlainRule p = absurd p
      by (PlainCode info ls) p = absurd p
  blocks_good how q (QuoteThen kids f) h s short quiet = absurd s
  blocks_good how q (ItemThen kids f) h s short quiet = absurd s
  blocks_good how q (BulletsThen items f) h s short quiet = lists how q items f h s short (λ t. blocks_good (Below (feeds_below_list o false items) (Some (bullet_for o no_lists how))) t f (h.3) (s.1) (all_behind _ (list_gap no_lists how ++ lines_of o flags (in_bullets (bullet_for o no_lists how) no_lists) Beside items) (ls_of (Below (feeds_below_list o false items) (Some (bullet_for o no_lists how))) f) short) (inr (after_list (feeds_below_list o false items))))
    where
      after_list : (n : ℕ) → 1 ≤ length (gap_lines (max n 2))
      after_list n = let e : length (gap_lines (max n 2)) ≡ max n 2 - 1 = gap_length (max n 2 - 1) in omega (arith, e)

      lists : (how : How) (q : Bool) (items f : Blocks) → ArePlain (BulletsThen items f) → AreShortBlocks (BulletsThen items f) → AreShort (2 ^ 64) (ls_of how (BulletsThen items f)) → ((t : Bool) → Good t (ls_of (Below (feeds_below_list o false items) (Some (bullet_for o no_lists how))) f))
          → Good q (ls_of how (BulletsThen items f))
      lists how q items f h s short again =
          let b : ℕ = bullet_for o no_lists how in
          let is : IsBullet b = bullet_is o no_lists how token in
          let within : List Bytes = lines_of o flags (in_bullets b no_lists) Beside items in
          let rest : List Bytes = ls_of (Below (feeds_below_list o false items) (Some b)) f in
          let gap : List Bytes = list_gap no_lists how in
          let few : AreShort (2 ^ 64) within = all_behind _ gap within (all_front _ (gap ++ within) rest short) in
          let all : (t : Bool) → Good t (within ++ rest) = λ t. items_good t Beside b items rest is (h.2) (s.0) few again in
          subst (Good q) (sym (append_assoc gap within rest))
          (empty_good q gap (within ++ rest) (list_empty no_lists how) (some_ends (within ++ rest) (begun b items (h.0) rest) (all true)) (all true) (λ z. all q))

-- no line of code, so no tab

one_tabless : (b : PlainBlock) → IsOneLine b → IsTabless b
one_tabless (PlainParagraph l ms) h = tt
one_tabless (PlainHeading level ts) h = tt
one_tabless PlainRule h = tt
one_tabless (PlainCode info ls) h = absurd h

text_tabless : (b : PlainBlock) → IsTextLine b → IsTabless b
text_tabless (PlainParagraph l ms) h = tt
text_tabless (PlainHeading level ts) h = tt
text_tabless PlainRule h = tt
text_tabless (PlainCode info ls) h = absurd h

none_tabless : (f : Blocks) → is_nothing f ≡ true → BlocksTabless f
none_tabless Nothing h = tt
none_tabless (PlainThen b f) h = absurd (true≢false (sym h))
none_tabless (QuoteThen kids f) h = absurd (true≢false (sym h))
none_tabless (BulletsThen items f) h = absurd (true≢false (sym h))
none_tabless (ItemThen kids f) h = absurd (true≢false (sym h))

kids_tabless : (f : Blocks) → IsShortItem f → BlocksTabless f
kids_tabless Nothing h = absurd h
kids_tabless (PlainThen b f) h = (text_tabless b (h.0), none_tabless f (h.1))
kids_tabless (QuoteThen kids f) h = absurd h
kids_tabless (BulletsThen items f) h = absurd h
kids_tabless (ItemThen kids f) h = absurd h

items_tabless : (f : Blocks) → AreShortItems f → BlocksTabless f
items_tabless Nothing h = tt
items_tabless (PlainThen b f) h = absurd h
items_tabless (QuoteThen kids f) h = absurd h
items_tabless (BulletsThen items f) h = absurd h
items_tabless (ItemThen kids f) h = (kids_tabless kids (h.0), items_tabless f (h.1))

pub short_tabless : (f : Blocks) → AreShortBlocks f → BlocksTabless f
short_tabless Nothing h = tt
short_tabless (PlainThen b f) h = (one_tabless b (h.0), short_tabless f (h.1))
short_tabless (QuoteThen kids f) h = absurd h
short_tabless (BulletsThen items f) h = (items_tabless items (h.0), short_tabless f (h.1))
short_tabless (ItemThen kids f) h = absurd h

-- the law

second : (a b c : Bool) → b ≡ true → (a || (b || c)) ≡ true
second true b c e = refl
second false b c e = rw e refl

empty_kind : has_one_line_blocks [] ≡ true
unfolding has_one_line_blocks
empty_kind = refl

lines_kind : (ls : List Bytes) → IsPlain (joined ls) → Good true ls → has_one_line_blocks (joined ls) ≡ true
unfolding has_one_line_blocks
lines_kind ls plain g = by g.ends
  where
    by : (ls ≡ []) ⊎ Ends ls → has_one_line_blocks (joined ls) ≡ true
    by (inl e) = ap (λ (xs : List Bytes). has_one_line_blocks (joined xs)) e ∙ empty_kind
    by (inr e) = two (not (list_any is_special (joined ls))) (are_short_lines 4 true (text_lines (joined ls))) (ap not plain) (ap (are_short_lines 4 true) (lines_are ls g.bare e) ∙ g.short 4 (omega arith))

pub short_kinds : ShortDocumentsAreOfThreeKinds
short_kinds options flags f tokens bullet plain short small =
    let token : IsBullet options.list_token = bullet_from options.list_token bullet in
    let ls : List Bytes = lines_of options flags no_lists Beside f in
    let few : AreShort (2 ^ 64) ls = text_short (2 ^ 64) ls (subst (λ (x : List ℕ). length x < 2 ^ 64) (joined_is ls) small) in
    second (is_covered (joined ls)) (has_one_line_blocks (joined ls)) (has_plain_lists (joined ls))
    (lines_kind ls (safe_plain (joined ls) (layout_safe options flags tokens f plain (inl token) (short_tabless f short))) (blocks_good options flags tokens token Beside true f plain short few (inl refl)))

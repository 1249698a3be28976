-- If the options ask for an empty line after headings and thematic breaks, no paragraph is directly in an item of a tight list.
use Rattle.std.proofs.Common.{◌≡◌, ℕ, zero, suc, ◌-◌, ◌≤◌, Bool, true, false, not, ◌&&◌, ◌||◌, if◌then◌else◌, [], max, replicate, refl, ap, sym, ◌∙◌, arith, true≢false, Some, None}
use Rattle.std.specs.Prelude.{Option}
use Rattle.tocmark_event.specs.Options.{OptionsView}
use Rattle.tocmark_laws.specs.Documents.{PlainBlock, PlainParagraph, PlainHeading, PlainRule, PlainCode}
use Rattle.tocmark_document_laws.specs.Blocks.{Blocks, Nothing, PlainThen, QuoteThen, BulletsThen, ItemThen, ArePlainIn, is_lone, is_nothing, is_paragraph_alone}
use Rattle.tocmark_document_laws.specs.DocumentLines.{How, Beside, Marked, Below, Outside, no_lists, bullet_for, feeds_below, feeds_below_item, feeds_below_list, feeds_below_quote, gap_lines, in_bullets, list_gap, new_line, paragraph_gap, plain_gap}
use Rattle.tocmark_layout_laws.specs.Declared.{has_gap, is_gap, is_tight}
use Rattle.tocmark_read_back_laws.specs.Documents.{IsWrapped, AreWrapped, SpacedParagraphsKeepTheirTags}

abbrev is_paragraph : PlainBlock → Bool
is_paragraph (PlainParagraph l ms) = true
is_paragraph (PlainHeading level ts) = false
is_paragraph PlainRule = false
is_paragraph (PlainCode info lines) = false

-- whether a paragraph is directly among these blocks, or directly in these items
abbrev has_paragraph : Blocks → Bool
has_paragraph Nothing = false
has_paragraph (PlainThen b f) = is_paragraph b || has_paragraph f
has_paragraph (QuoteThen kids f) = has_paragraph f
has_paragraph (BulletsThen items f) = has_paragraph f
has_paragraph (ItemThen kids f) = has_paragraph kids || has_paragraph f

or_true : (a b : Bool) → b ≡ true → (a || b) ≡ true
or_true true b e = refl
or_true false b e = e

left_false : (a b : Bool) → (a || b) ≡ false → a ≡ false
left_false true b e = absurd (true≢false e)
left_false false b e = refl

right_false : (a b : Bool) → (a || b) ≡ false → b ≡ false
right_false true b e = absurd (true≢false e)
right_false false b e = e

and_true : (a : Bool) → (a && true) ≡ false → a ≡ false
and_true true e = e
and_true false e = refl

-- two line feeds make an empty line
gap_some : (n : ℕ) → 2 ≤ n → is_gap (gap_lines n) ≡ true
gap_some n h = by (n - 1) (omega (arith, h))
  where
    by : (m : ℕ) → 1 ≤ m → is_gap (replicate m []) ≡ true
    by zero h = absurd (omega (arith, h))
    by (suc m) h = refl

module _ (o : OptionsView) (headline : 2 ≤ o.newlines_after_headline) (rule : 2 ≤ o.newlines_after_rule) where
  feeds_two : (b : PlainBlock) → 2 ≤ feeds_below o b
  feeds_two (PlainParagraph l ms) = omega arith
  feeds_two (PlainHeading level ts) = omega (arith, headline)
  feeds_two PlainRule = omega (arith, rule)
  feeds_two (PlainCode info lines) = omega arith

  gap_before : (n : ℕ) (b : PlainBlock) → 2 ≤ n → is_gap (plain_gap (Below n None) b) ≡ true
  gap_before n (PlainParagraph l ms) h = gap_some n h
  gap_before n (PlainHeading level ts) h = gap_some n h
  gap_before n PlainRule h = gap_some n h
  gap_before n (PlainCode info lines) h = gap_some n h

  list_before : (n : ℕ) (c : Outside) → 2 ≤ n → is_gap (list_gap c (Below n None)) ≡ true
  list_before n c h = by c.listed
    where
      by : (k : Bool) → is_gap (if k then gap_lines n else gap_lines n) ≡ true
      by true = gap_some n h
      by false = gap_some n h

  -- a paragraph that is below another block is below an empty line
  later : (c : Outside) (n : ℕ) (bullet : Option ℕ) (f : Blocks) → ArePlainIn false f → is_gap (paragraph_gap (Below n bullet)) ≡ true → has_paragraph f ≡ true → has_gap o c (Below n bullet) f ≡ true
  later c n bullet Nothing plain g h = absurd (true≢false (sym h))
  later c n bullet (PlainThen (PlainParagraph l ms) f) plain g h = ap (λ k. k || has_gap o c (Below (feeds_below o (PlainParagraph l ms)) None) f) g
  later c n bullet (PlainThen (PlainHeading level ts) f) plain g h =
      let b : PlainBlock = PlainHeading level ts in
      or_true (is_gap (plain_gap (Below n bullet) b)) (has_gap o c (Below (feeds_below o b) None) f) (later c (feeds_below o b) None f (plain.1) (gap_some (feeds_below o b) (feeds_two b)) h)
  later c n bullet (PlainThen PlainRule f) plain g h =
      or_true (is_gap (plain_gap (Below n bullet) PlainRule)) (has_gap o c (Below (feeds_below o PlainRule) None) f) (later c (feeds_below o PlainRule) None f (plain.1) (gap_some (feeds_below o PlainRule) (feeds_two PlainRule)) h)
  later c n bullet (PlainThen (PlainCode info lines) f) plain g h =
      let b : PlainBlock = PlainCode info lines in
      or_true (is_gap (plain_gap (Below n bullet) b)) (has_gap o c (Below (feeds_below o b) None) f) (later c (feeds_below o b) None f (plain.1) (gap_some (feeds_below o b) (feeds_two b)) h)
  later c n bullet (QuoteThen kids f) plain g h =
      or_true (is_gap (new_line (Below n bullet))) (has_gap o c (Below (feeds_below_quote o) None) f) (later c (feeds_below_quote o) None f (plain.1) (gap_some (feeds_below_quote o) (omega arith)) h)
  later c n bullet (BulletsThen items f) plain g h =
      let m : ℕ = feeds_below_list o c.listed items in
      let b : ℕ = bullet_for o c (Below n bullet) in
      or_true (is_gap (list_gap c (Below n bullet))) (has_gap o c (Below m (Some b)) f) (later c m (Some b) f (plain.3) (gap_some (max m 2) (omega arith)) h)
  later c n bullet (ItemThen kids f) plain g h = absurd plain

  -- so is any block below a paragraph, a heading or a thematic break
  first : (c : Outside) (n : ℕ) (f : Blocks) → 2 ≤ n → ArePlainIn false f → is_nothing f ≡ false → has_gap o c (Below n None) f ≡ true
  first c n Nothing two plain e = absurd (true≢false e)
  first c n (PlainThen b f) two plain e = ap (λ k. k || has_gap o c (Below (feeds_below o b) None) f) (gap_before n b two)
  first c n (QuoteThen kids f) two plain e = ap (λ k. k || has_gap o c (Below (feeds_below_quote o) None) f) (gap_some n two)
  first c n (BulletsThen items f) two plain e = ap (λ k. k || has_gap o c (Below (feeds_below_list o c.listed items) (Some (bullet_for o c (Below n None)))) f) (list_before n c two)
  first c n (ItemThen kids f) two plain e = absurd plain

  -- the blocks of an item with a paragraph that isn't alone
  kids_gap : (c : Outside) (kids : Blocks) → ArePlainIn false kids → is_paragraph_alone kids ≡ false → has_paragraph kids ≡ true → has_gap o c Marked kids ≡ true
  kids_gap c Nothing plain alone h = absurd (true≢false (sym h))
  kids_gap c (PlainThen (PlainParagraph l ms) f) plain alone h = first c (feeds_below o (PlainParagraph l ms)) f (feeds_two (PlainParagraph l ms)) (plain.1) alone
  kids_gap c (PlainThen (PlainHeading level ts) f) plain alone h =
      let b : PlainBlock = PlainHeading level ts in later c (feeds_below o b) None f (plain.1) (gap_some (feeds_below o b) (feeds_two b)) h
  kids_gap c (PlainThen PlainRule f) plain alone h = later c (feeds_below o PlainRule) None f (plain.1) (gap_some (feeds_below o PlainRule) (feeds_two PlainRule)) h
  kids_gap c (PlainThen (PlainCode info lines) f) plain alone h =
      let b : PlainBlock = PlainCode info lines in later c (feeds_below o b) None f (plain.1) (gap_some (feeds_below o b) (feeds_two b)) h
  kids_gap c (QuoteThen kids f) plain alone h = later c (feeds_below_quote o) None f (plain.1) (gap_some (feeds_below_quote o) (omega arith)) h
  kids_gap c (BulletsThen items f) plain alone h =
      let m : ℕ = feeds_below_list o c.listed items in
      let b : ℕ = bullet_for o c Marked in
      or_true (is_gap (list_gap c Marked)) (has_gap o c (Below m (Some b)) f) (later c m (Some b) f (plain.3) (gap_some (max m 2) (omega arith)) h)
  kids_gap c (ItemThen kids f) plain alone h = absurd plain

  -- no paragraph is directly in the items of a tight list
  bare : (c : Outside) (items : Blocks) → ArePlainIn true items → is_lone items ≡ false → is_tight o c items ≡ true → has_paragraph items ≡ false
  bare c Nothing plain lone tight = refl
  bare c (PlainThen b f) plain lone tight = absurd plain
  bare c (QuoteThen kids f) plain lone tight = absurd plain
  bare c (BulletsThen items f) plain lone tight = absurd plain
  bare c (ItemThen kids Nothing) plain lone tight = by (has_paragraph kids) refl
    where
      by : (k : Bool) → has_paragraph kids ≡ k → (has_paragraph kids || false) ≡ false
      by false e = ap (λ x. x || false) e
      by true e = absurd (true≢false (sym tight ∙ ap not (kids_gap c kids (plain.0) (and_true (is_paragraph_alone kids) lone) e)))
  bare c (ItemThen kids (PlainThen b f)) plain lone tight = absurd (true≢false (sym tight))
  bare c (ItemThen kids (QuoteThen x f)) plain lone tight = absurd (true≢false (sym tight))
  bare c (ItemThen kids (BulletsThen x f)) plain lone tight = absurd (true≢false (sym tight))
  bare c (ItemThen kids (ItemThen x f)) plain lone tight = absurd (true≢false (sym tight))

  one_wrapped : (tight : Bool) (b : PlainBlock) → (tight ≡ true → is_paragraph b ≡ false) → IsWrapped tight b
  one_wrapped false b h = tt
  one_wrapped true (PlainParagraph l ms) h = absurd (true≢false (h refl))
  one_wrapped true (PlainHeading level ts) h = tt
  one_wrapped true PlainRule h = tt
  one_wrapped true (PlainCode info lines) h = tt

  wrapped : (items : Bool) (c : Outside) (how : How) (tight : Bool) (f : Blocks) → ArePlainIn items f → (tight ≡ true → has_paragraph f ≡ false) → AreWrapped o c how tight f
  wrapped items c how tight Nothing plain h = tt
  wrapped true c how tight (PlainThen b f) plain h = absurd plain
  wrapped false c how tight (PlainThen b f) plain h =
      (one_wrapped tight b (λ e. left_false (is_paragraph b) (has_paragraph f) (h e)), wrapped false c (Below (feeds_below o b) None) tight f (plain.1) (λ e. right_false (is_paragraph b) (has_paragraph f) (h e)))
  wrapped true c how tight (QuoteThen kids f) plain h = absurd plain
  wrapped false c how tight (QuoteThen kids f) plain h =
      (wrapped false c Beside false kids (plain.0) (λ e. absurd (true≢false (sym e))), wrapped false c (Below (feeds_below_quote o) None) tight f (plain.1) h)
  wrapped true c how tight (BulletsThen items f) plain h = absurd plain
  wrapped false c how tight (BulletsThen items f) plain h =
      let within : Outside = in_bullets (bullet_for o c how) c in
      (wrapped true within Beside (is_tight o within items) items (plain.2) (bare within items (plain.2) (plain.1)), wrapped false c (Below (feeds_below_list o c.listed items) (Some (bullet_for o c how))) tight f (plain.3) h)
  wrapped false c how tight (ItemThen kids f) plain h = absurd plain
  wrapped true c how tight (ItemThen kids f) plain h =
      (wrapped false c Marked tight kids (plain.0) (λ e. left_false (has_paragraph kids) (has_paragraph f) (h e)), wrapped true c (Below (feeds_below_item o kids) None) tight f (plain.1) (λ e. right_false (has_paragraph kids) (has_paragraph f) (h e)))

pub paragraphs_wrapped : SpacedParagraphsKeepTheirTags
paragraphs_wrapped options f headline rule plain = wrapped options headline rule false no_lists Beside false f plain (λ e. absurd (true≢false (sym e)))

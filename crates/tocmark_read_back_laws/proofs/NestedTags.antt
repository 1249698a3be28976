-- In spaced blocks, no paragraph is directly in an item of a tight list.
use Rattle.std.proofs.Common.{◌≡◌, ℕ, Bool, true, false, not, ◌&&◌, ◌||◌, refl, ap, sym, subst, ◌∙◌, true≢false, Some, None}
use Rattle.std.specs.Prelude.{Option}
use Rattle.tocmark_event.specs.Options.{OptionsView}
use Rattle.tocmark_laws.specs.Documents.{PlainBlock, PlainParagraph, PlainHeading, PlainRule, PlainCode}
use Rattle.tocmark_document_laws.specs.Blocks.{Blocks, Nothing, PlainThen, QuoteThen, BulletsThen, ItemThen, ArePlainIn, ArePlain, is_lone, is_nothing, is_paragraph_alone}
use Rattle.tocmark_document_laws.specs.DocumentLines.{How, Beside, Marked, Below, Outside, no_lists, bullet_for, feeds_below, feeds_below_item, feeds_below_list, feeds_below_quote, in_bullets, list_gap, new_line, plain_gap}
use Rattle.tocmark_layout_laws.specs.Declared.{has_gap, is_gap, is_tight}
use Rattle.tocmark_read_back_laws.specs.Documents.{IsWrapped, AreWrapped, HasNoTightParagraph}
use Rattle.tocmark_read_back_laws.specs.Nested.{AreBelow, AreSpaced, IsSpaced}

left_false : (a b : Bool) → (a || b) ≡ false → a ≡ false
left_false true b e = absurd (true≢false e)
left_false false b e = refl

right_false : (a b : Bool) → (a || b) ≡ false → b ≡ false
right_false true b e = absurd (true≢false e)
right_false false b e = e

and_true : (a : Bool) → (a && true) ≡ false → a ≡ false
and_true true e = e
and_true false e = refl

none_wrapped : (b : PlainBlock) → IsWrapped false b
none_wrapped (PlainParagraph l ms) = tt
none_wrapped (PlainHeading level ts) = tt
none_wrapped PlainRule = tt
none_wrapped (PlainCode info ls) = tt

module _ (o : OptionsView) where
  -- blocks that are below an empty line, and have none before them, aren't there
  nothing_below : (c : Outside) (n : ℕ) (bullet : Option ℕ) (f : Blocks) → ArePlainIn false f → AreBelow o c (Below n bullet) f → has_gap o c (Below n bullet) f ≡ false → f ≡ Nothing
  nothing_below c n bullet Nothing h below gap = refl
  nothing_below c n bullet (PlainThen b f) h below gap = absurd (true≢false (sym below ∙ left_false (is_gap (plain_gap (Below n bullet) b)) (has_gap o c (Below (feeds_below o b) None) f) gap))
  nothing_below c n bullet (QuoteThen kids f) h below gap = absurd (true≢false (sym below ∙ left_false (is_gap (new_line (Below n bullet))) (has_gap o c (Below (feeds_below_quote o) None) f) gap))
  nothing_below c n bullet (BulletsThen items f) h below gap =
      absurd (true≢false (sym below ∙ left_false (is_gap (list_gap c (Below n bullet))) (has_gap o c (Below (feeds_below_list o c.listed items) (Some (bullet_for o c (Below n bullet)))) f) gap))
  nothing_below c n bullet (ItemThen kids f) h below gap = absurd h

  -- what is known of blocks and of items, in a tight list or not
  record Tags (f : Blocks) : Type 0 where
    loose : (c : Outside) (how : How) → ArePlainIn false f → AreSpaced o c how f → AreWrapped o c how false f
    tight : (c : Outside) → ArePlainIn false f → AreSpaced o c Marked f → has_gap o c Marked f ≡ false → is_paragraph_alone f ≡ false → AreWrapped o c Marked true f
    items : (c : Outside) (how : How) → ArePlainIn true f → AreSpaced o c how f → AreWrapped o c how false f
    listed : (c : Outside) → ArePlainIn true f → is_lone f ≡ false → AreSpaced o c Beside f → AreWrapped o c Beside (is_tight o c f) f

  -- nothing is left of blocks after the first one
  nothing_more : (c : Outside) (n : ℕ) (bullet : Option ℕ) (f : Blocks) → f ≡ Nothing → AreWrapped o c (Below n bullet) true f
  nothing_more c n bullet f e = subst (AreWrapped o c (Below n bullet) true) (sym e) tt

  first_wrapped : (b : PlainBlock) (f : Blocks) → f ≡ Nothing → is_paragraph_alone (PlainThen b f) ≡ false → IsWrapped true b
  first_wrapped (PlainParagraph l ms) f e alone = absurd (true≢false (sym (ap is_nothing e) ∙ alone))
  first_wrapped (PlainHeading level ts) f e alone = tt
  first_wrapped PlainRule f e alone = tt
  first_wrapped (PlainCode info ls) f e alone = tt

  plain_tags : (b : PlainBlock) (f : Blocks) → Tags f → Tags (PlainThen b f)
  plain_tags b f again = record {
    loose = λ c how h spaced. (none_wrapped b, again.loose c (Below (feeds_below o b) None) (h.1) (spaced.1));
    tight = λ c h spaced gap alone.
        let e : f ≡ Nothing = nothing_below c (feeds_below o b) None f (h.1) (spaced.0) (right_false (is_gap (plain_gap Marked b)) (has_gap o c (Below (feeds_below o b) None) f) gap) in
        (first_wrapped b f e alone, nothing_more c (feeds_below o b) None f e);
    items = λ c how h spaced. absurd h;
    listed = λ c h alone spaced. absurd h;
  }

  quote_tags : (kids f : Blocks) → Tags kids → Tags f → Tags (QuoteThen kids f)
  quote_tags kids f inside again = record {
    loose = λ c how h spaced. (inside.loose c Beside (h.0) (spaced.1), again.loose c (Below (feeds_below_quote o) None) (h.1) (spaced.2));
    tight = λ c h spaced gap alone.
        let e : f ≡ Nothing = nothing_below c (feeds_below_quote o) None f (h.1) (spaced.0) gap in
        (inside.loose c Beside (h.0) (spaced.1), nothing_more c (feeds_below_quote o) None f e);
    items = λ c how h spaced. absurd h;
    listed = λ c h alone spaced. absurd h;
  }

  list_tags : (items f : Blocks) → Tags items → Tags f → Tags (BulletsThen items f)
  list_tags items f inside again = record {
    loose = λ c how h spaced.
        (inside.listed (in_bullets (bullet_for o c how) c) (h.2) (h.1) (spaced.1), again.loose c (Below (feeds_below_list o c.listed items) (Some (bullet_for o c how))) (h.3) (spaced.2));
    tight = λ c h spaced gap alone.
        let n : ℕ = feeds_below_list o c.listed items in
        let b : ℕ = bullet_for o c Marked in
        let e : f ≡ Nothing = nothing_below c n (Some b) f (h.3) (spaced.0) (right_false (is_gap (list_gap c Marked)) (has_gap o c (Below n (Some b)) f) gap) in
        (inside.listed (in_bullets b c) (h.2) (h.1) (spaced.1), nothing_more c n (Some b) f e);
    items = λ c how h spaced. absurd h;
    listed = λ c h alone spaced. absurd h;
  }

  one_item : (c : Outside) (kids : Blocks) → Tags kids → ArePlainIn false kids → AreSpaced o c Marked kids → is_paragraph_alone kids ≡ false → AreWrapped o c Marked (not (has_gap o c Marked kids)) kids
  one_item c kids inside h spaced alone = by (has_gap o c Marked kids) refl
    where
      by : (k : Bool) → has_gap o c Marked kids ≡ k → AreWrapped o c Marked (not k) kids
      by true e = inside.loose c Marked h spaced
      by false e = inside.tight c h spaced e alone

  item_tags : (kids f : Blocks) → Tags kids → Tags f → Tags (ItemThen kids f)
  item_tags kids f inside again = record {
    loose = λ c how h spaced. absurd h;
    tight = λ c h spaced gap alone. absurd h;
    items = λ c how h spaced. (inside.loose c Marked (h.0) (spaced.0), again.items c (Below (feeds_below_item o kids) None) (h.1) (spaced.1));
    listed = λ c h alone spaced. by c f again h alone spaced;
  }
    where
      by : (c : Outside) (f : Blocks) → Tags f → ArePlainIn true (ItemThen kids f) → is_lone (ItemThen kids f) ≡ false → AreSpaced o c Beside (ItemThen kids f) → AreWrapped o c Beside (is_tight o c (ItemThen kids f)) (ItemThen kids f)
      by c Nothing again h alone spaced = (one_item c kids inside (h.0) (spaced.0) (and_true (is_paragraph_alone kids) alone), tt)
      by c (PlainThen b g) again h alone spaced = absurd (h.1)
      by c (QuoteThen kin g) again h alone spaced = absurd (h.1)
      by c (BulletsThen items g) again h alone spaced = absurd (h.1)
      by c (ItemThen kin g) again h alone spaced = (inside.loose c Marked (h.0) (spaced.0), again.items c (Below (feeds_below_item o kids) None) (h.1) (spaced.1))

  nothing_tags : Tags Nothing
  nothing_tags = record { loose = λ c how h spaced. tt; tight = λ c h spaced gap alone. tt; items = λ c how h spaced. tt; listed = λ c h alone spaced. tt }

  all_tags : (f : Blocks) → Tags f
  all_tags Nothing = nothing_tags
  all_tags (PlainThen b f) = plain_tags b f (all_tags f)
  all_tags (QuoteThen kids f) = quote_tags kids f (all_tags kids) (all_tags f)
  all_tags (BulletsThen items f) = list_tags items f (all_tags items) (all_tags f)
  all_tags (ItemThen kids f) = item_tags kids f (all_tags kids) (all_tags f)

  pub spaced_tags : (f : Blocks) → ArePlain f → IsSpaced o f → HasNoTightParagraph o f
  spaced_tags f h spaced = (all_tags f).loose no_lists Beside h spaced

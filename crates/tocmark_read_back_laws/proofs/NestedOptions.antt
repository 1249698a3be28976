-- If the options ask for empty lines after headings and thematic breaks, and each item has a block, the blocks are spaced.
use Rattle.std.proofs.Common.{◌≡◌, ◌⊎◌, inl, inr, ℕ, zero, suc, ◌-◌, ◌≤◌, max, Bool, true, false, if◌then◌else◌, [], replicate, refl, arith, true≢false, sym, Some, None}
use Rattle.std.specs.Prelude.{Option}
use Rattle.tocmark_event.specs.Options.{OptionsView}
use Rattle.tocmark_laws.specs.Documents.{PlainBlock, PlainParagraph, PlainHeading, PlainRule, PlainCode}
use Rattle.tocmark_document_laws.specs.Blocks.{Blocks, Nothing, PlainThen, QuoteThen, BulletsThen, ItemThen, ArePlainIn, begins_item, is_nothing}
use Rattle.tocmark_document_laws.specs.DocumentLines.{How, Beside, Marked, Below, Outside, no_lists, bullet_for, feeds_after, feeds_below, feeds_below_item, feeds_below_list, feeds_below_quote, gap_lines, gap_of, in_bullets, list_gap, new_line, paragraph_gap}
use Rattle.tocmark_layout_laws.specs.Declared.{is_gap}
use Rattle.tocmark_read_back_laws.specs.Nested.{AreBelow, AreBelowFirst, AreSpaced, HasFullItems, SpacedOptionsSpaceBlocks}

gap_two : (n : ℕ) → 2 ≤ n → is_gap (gap_lines n) ≡ true
gap_two n h = by (n - 1) (omega (arith, h))
  where
    by : (m : ℕ) → 1 ≤ m → is_gap (replicate m []) ≡ true
    by zero h = absurd (omega (arith, h))
    by (suc m) h = refl

max_left : (a b : ℕ) → 2 ≤ a → 2 ≤ max a b
max_left a b h = omega (arith, h)

some_items : (items : Blocks) → begins_item items ≡ true → is_nothing items ≡ false
some_items Nothing h = absurd (true≢false (sym h))
some_items (PlainThen b f) h = refl
some_items (QuoteThen kids f) h = refl
some_items (BulletsThen items f) h = refl
some_items (ItemThen kids f) h = refl

module _ (o : OptionsView) (headline : 2 ≤ o.newlines_after_headline) (rule : 2 ≤ o.newlines_after_rule) where
  feeds_two : (b : PlainBlock) → 2 ≤ feeds_below o b
  feeds_two (PlainParagraph l ms) = omega arith
  feeds_two (PlainHeading level ts) = omega (arith, headline)
  feeds_two PlainRule = omega (arith, rule)
  feeds_two (PlainCode info lines) = omega arith

  paragraph_two : (n : ℕ) (bullet : Option ℕ) → 2 ≤ n → is_gap (paragraph_gap (Below n bullet)) ≡ true
  paragraph_two n None h = gap_two n h
  paragraph_two n (Some b) h = gap_two (max n 2) (omega arith)

  list_two : (c : Outside) (n : ℕ) (bullet : Option ℕ) → 2 ≤ n → is_gap (list_gap c (Below n bullet)) ≡ true
  list_two c n bullet h = by c.listed
    where
      by : (t : Bool) → is_gap (if t then new_line (Below n bullet) else gap_of (Below n bullet)) ≡ true
      by true = gap_two n h
      by false = gap_two n h

  below_two : (c : Outside) (n : ℕ) (bullet : Option ℕ) (f : Blocks) → 2 ≤ n → AreBelow o c (Below n bullet) f
  below_two c n bullet Nothing h = tt
  below_two c n bullet (PlainThen (PlainParagraph l ms) f) h = paragraph_two n bullet h
  below_two c n bullet (PlainThen (PlainHeading level ts) f) h = gap_two n h
  below_two c n bullet (PlainThen PlainRule f) h = gap_two n h
  below_two c n bullet (PlainThen (PlainCode info ls) f) h = gap_two n h
  below_two c n bullet (QuoteThen kids f) h = gap_two n h
  below_two c n bullet (BulletsThen items f) h = list_two c n bullet h
  below_two c n bullet (ItemThen kids f) h = tt

  first_two : (c : Outside) (how : How) (n : ℕ) (bullet : Option ℕ) (f : Blocks) → 2 ≤ n → AreBelowFirst o c how (Below n bullet) f
  first_two c Beside n bullet f h = tt
  first_two c Marked n bullet f h = below_two c n bullet f h
  first_two c (Below m b) n bullet f h = tt

  -- blocks ask for an empty line, and they are spaced
  record Asks (f : Blocks) : Type 0 where
    after : (n : ℕ) (items : Bool) → ArePlainIn items f → HasFullItems f → (2 ≤ n) ⊎ (is_nothing f ≡ false) → 2 ≤ feeds_after o true n f
    blocks : (c : Outside) (how : How) (items : Bool) → ArePlainIn items f → HasFullItems f → AreSpaced o c how f

  asks_list : (items : Blocks) (listed : Bool) → Asks items → begins_item items ≡ true → ArePlainIn true items → HasFullItems items → 2 ≤ feeds_below_list o listed items
  asks_list items listed a some h full = max_left (feeds_after o true 0 items) _ (a.after 0 true h full (inr (some_items items some)))

  nothing_asks : Asks Nothing
  nothing_asks = record { after = λ n items h full some. by n some; blocks = λ c how items h full. tt }
    where
      by : (n : ℕ) → (2 ≤ n) ⊎ (true ≡ false) → 2 ≤ n
      by n (inl h) = h
      by n (inr e) = absurd (true≢false e)

  plain_asks : (b : PlainBlock) (f : Blocks) → Asks f → Asks (PlainThen b f)
  plain_asks b f again = record { after = λ n items h full some. after n items h full; blocks = λ c how items h full. blocks c how items h full }
    where
      after : (n : ℕ) (items : Bool) → ArePlainIn items (PlainThen b f) → HasFullItems f → 2 ≤ feeds_after o true n (PlainThen b f)
      after n true h full = absurd h
      after n false h full = again.after (feeds_below o b) false (h.1) full (inl (feeds_two b))

      blocks : (c : Outside) (how : How) (items : Bool) → ArePlainIn items (PlainThen b f) → HasFullItems f → AreSpaced o c how (PlainThen b f)
      blocks c how true h full = absurd h
      blocks c how false h full = (first_two c how (feeds_below o b) None f (feeds_two b), again.blocks c (Below (feeds_below o b) None) false (h.1) full)

  quote_asks : (kids f : Blocks) → Asks kids → Asks f → Asks (QuoteThen kids f)
  quote_asks kids f inside again = record { after = λ n items h full some. after n items h full; blocks = λ c how items h full. blocks c how items h full }
    where
      after : (n : ℕ) (items : Bool) → ArePlainIn items (QuoteThen kids f) → HasFullItems (QuoteThen kids f) → 2 ≤ feeds_after o true n (QuoteThen kids f)
      after n true h full = absurd h
      after n false h full = again.after (feeds_below_quote o) false (h.1) (full.1) (inl (omega arith))

      blocks : (c : Outside) (how : How) (items : Bool) → ArePlainIn items (QuoteThen kids f) → HasFullItems (QuoteThen kids f) → AreSpaced o c how (QuoteThen kids f)
      blocks c how true h full = absurd h
      blocks c how false h full =
          (first_two c how (feeds_below_quote o) None f (omega arith), inside.blocks c Beside false (h.0) (full.0), again.blocks c (Below (feeds_below_quote o) None) false (h.1) (full.1))

  list_asks : (items f : Blocks) → Asks items → Asks f → Asks (BulletsThen items f)
  list_asks items f inside again = record { after = λ n items h full some. after n items h full; blocks = λ c how items h full. blocks c how items h full }
    where
      after : (n : ℕ) (k : Bool) → ArePlainIn k (BulletsThen items f) → HasFullItems (BulletsThen items f) → 2 ≤ feeds_after o true n (BulletsThen items f)
      after n true h full = absurd h
      after n false h full =
          again.after (max (feeds_after o true 0 items) 0) false (h.3) (full.1) (inl (max_left (feeds_after o true 0 items) 0 (inside.after 0 true (h.2) (full.0) (inr (some_items items (h.0))))))

      blocks : (c : Outside) (how : How) (k : Bool) → ArePlainIn k (BulletsThen items f) → HasFullItems (BulletsThen items f) → AreSpaced o c how (BulletsThen items f)
      blocks c how true h full = absurd h
      blocks c how false h full =
          let n : ℕ = feeds_below_list o c.listed items in
          let b : ℕ = bullet_for o c how in (
            below_two c n (Some b) f (asks_list items c.listed inside (h.0) (h.2) (full.0)),
            inside.blocks (in_bullets b c) Beside true (h.2) (full.0),
            again.blocks c (Below n (Some b)) false (h.3) (full.1),
          )

  item_asks : (kids f : Blocks) → Asks kids → Asks f → Asks (ItemThen kids f)
  item_asks kids f inside again = record { after = λ n items h full some. after n items h full; blocks = λ c how items h full. blocks c how items h full }
    where
      after : (n : ℕ) (items : Bool) → ArePlainIn items (ItemThen kids f) → HasFullItems (ItemThen kids f) → 2 ≤ feeds_after o true n (ItemThen kids f)
      after n false h full = absurd h
      after n true h full =
          again.after (max (feeds_after o true 0 kids) (max o.newlines_after_rest 1)) true (h.1) (full.2)
          (inl (max_left (feeds_after o true 0 kids) (max o.newlines_after_rest 1) (inside.after 0 false (h.0) (full.1) (inr (full.0)))))

      blocks : (c : Outside) (how : How) (items : Bool) → ArePlainIn items (ItemThen kids f) → HasFullItems (ItemThen kids f) → AreSpaced o c how (ItemThen kids f)
      blocks c how false h full = absurd h
      blocks c how true h full = (inside.blocks c Marked false (h.0) (full.1), again.blocks c (Below (feeds_below_item o kids) None) true (h.1) (full.2))

  all_ask : (f : Blocks) → Asks f
  all_ask Nothing = nothing_asks
  all_ask (PlainThen b f) = plain_asks b f (all_ask f)
  all_ask (QuoteThen kids f) = quote_asks kids f (all_ask kids) (all_ask f)
  all_ask (BulletsThen items f) = list_asks items f (all_ask items) (all_ask f)
  all_ask (ItemThen kids f) = item_asks kids f (all_ask kids) (all_ask f)

pub spaced_options : SpacedOptionsSpaceBlocks
spaced_options options f headline rule full plain = (all_ask options headline rule f).blocks no_lists Beside false plain full

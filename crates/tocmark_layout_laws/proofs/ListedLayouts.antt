-- The layout of trees with lists is declared as they are.
use Rattle.std.proofs.Common.{◌≡◌, inl, inr, ℕ, suc, ◌+◌, ◌^◌, ◌<◌, Bool, true, false, ◌==◌, ◌||◌, List, [], ◌∷◌, ◌++◌, length, codes, refl, ap, sym, subst, ◌∙◌, arith, append-nil, true≢false}
use Rattle.std.specs.Char.{char_set_contains}
use Rattle.std.proofs.lemmas.List.{length-map}
use Rattle.tocmark_event.specs.Options.{OptionsView}
use Rattle.tocmark_event.specs.declared.event.flags.ParserOptions.{ParserOptions}
use Rattle.tocmark_read_scan.proofs.PlainTests.{eq_of}
use Rattle.tocmark_read_lines.specs.Cells.{first_cursor}
use Rattle.tocmark_read_lines.specs.Marks.{heading_at, is_behind, fence_at, is_fence_byte, tail_of, is_rule, is_rule_byte}
use Rattle.tocmark_read_blocks.proofs.PlainLines.{IsWithin, cells_within, numbered}
use Rattle.tocmark_commonmark.specs.Beginnings.{Beginning, RuleLine, beginning, interrupts, may_be_lazy}
use Rattle.tocmark_commonmark.specs.Blocks.{first_block, blocks_of, blocks, blocks_from}
use Rattle.tocmark_commonmark.specs.Lines.{Line}
use Rattle.tocmark_commonmark.specs.Lists.{same_sort}
use Rattle.tocmark_commonmark.specs.Tree as read
use Rattle.tocmark_laws.specs.Documents.{ArePlainTokens, PlainBlock, PlainParagraph, PlainHeading, PlainRule, PlainCode, IsPlainBlock}
use Rattle.tocmark_document_laws.specs.Blocks.{Blocks, Nothing, PlainThen, QuoteThen, BulletsThen, ItemThen, ArePlain}
use Rattle.tocmark_document_laws.specs.DocumentLines.{How, Outside, Beside, is_amid_hyphens, layout, lines_of, no_lists, plain_lines, rule_line}
use Rattle.tocmark_layout_laws.specs.Declared.{declared_block, declared_tree, has_gap, HasSafeRules, LayoutsWithListsAreDeclared}
use Rattle.tocmark_layout_laws.proofs.Starts.{line_at, lines_at, Becomes}
use Rattle.tocmark_layout_laws.proofs.Texts.{IsBare, Ends, joined_is, text_declared, AreShort, text_short}
use Rattle.tocmark_layout_laws.proofs.Fronts.{inky, near}
use Rattle.tocmark_layout_laws.proofs.Founds.{lines_from, from_same, Begins, leaf_begins}
use Rattle.tocmark_layout_laws.proofs.Bullets.{IsBullet}
use Rattle.tocmark_layout_laws.proofs.Codes.{rule_found}
use Rattle.tocmark_layout_laws.proofs.LaidBlocks.{BeginsAs, Declares}
use Rattle.tocmark_layout_laws.proofs.PlainBlocks.{declares}
use Rattle.tocmark_layout_laws.proofs.LaidLists.{IsNotParagraph, LaidLeaf, lead, becomes}
use Rattle.tocmark_layout_laws.proofs.ListedBlocks.{Proved, all_proved}
use Rattle.tocmark_layout_laws.proofs.ListedLines.{Bytes, all_bytes}

-- plain blocks

same_none : (b : PlainBlock) (x : Beginning) (sort : ℕ) (ls : List Line) → BeginsAs b x → same_sort sort ls x ≡ same_sort sort ls RuleLine
same_none (PlainParagraph l ms) x sort ls h = ap (same_sort sort ls) h
same_none (PlainHeading level ts) x sort ls h = ap (same_sort sort ls) (h.1)
same_none PlainRule x sort ls h = ap (same_sort sort ls) h
same_none (PlainCode info lines) x sort ls h = ap (same_sort sort ls) (h.1)

not_lazy : (b : PlainBlock) (x : Beginning) → IsNotParagraph b → BeginsAs b x → may_be_lazy x ≡ false
unfolding may_be_lazy interrupts
not_lazy (PlainParagraph l ms) x n h = absurd n
not_lazy (PlainHeading level ts) x n h = ap may_be_lazy (h.1)
not_lazy PlainRule x n h = ap may_be_lazy h
not_lazy (PlainCode info lines) x n h = ap may_be_lazy (h.1)

-- a thematic break of asterisks

abbrev stars : List ℕ
stars = 42 ∷ 42 ∷ 42 ∷ []

star_within : IsWithin 42
star_within = record { feed = refl; return = refl; tab = refl }

star_bare : IsBare 42
star_bare = record { feed = refl; return = refl; zero_byte = refl }

stars_begin : (k : ℕ) → beginning (line_at k stars) ≡ RuleLine
unfolding heading_at is_behind fence_at is_fence_byte first_cursor is_rule is_rule_byte tail_of
stars_begin k = near k stars (numbered 0 stars) (inky 42 (42 ∷ 42 ∷ []) refl) (cells_within 0 stars (star_within, (star_within, (star_within, tt))) (omega arith))

stars_take : (j k : ℕ) (rest : List Line) → Begins (line_at j stars ∷ ([] ++ rest)) 1 read.Rule rest
stars_take j k rest =
    leaf_begins (line_at j stars) [] rest rule_found read.Rule
    (λ bs at. ap (first_block bs at (line_at j stars) rest) (stars_begin j)) (λ at. refl) (λ at. refl) (λ at. refl)

stars_laid : LaidLeaf PlainRule read.Rule (stars ∷ [])
stars_laid = record {
  first = stars;
  more = [];
  is = refl;
  bare = ((star_bare, (star_bare, (star_bare, tt))), tt);
  ends = omega arith;
  inked = inky 42 (42 ∷ 42 ∷ []) refl;
  within = (star_within, (star_within, (star_within, tt)));
  breaks = λ other. absurd other;
  sorts = λ k sort ls. ap (same_sort sort ls) (stars_begin k);
  lazy = λ other k. not_lazy PlainRule (beginning (line_at k stars)) other (stars_begin k);
  takes = λ j k rest before. stars_take j k rest;
}

-- a bullet that Markdown reads
bullet_from : (c : ℕ) → char_set_contains (codes "*-+") c ≡ true → IsBullet c
bullet_from c h = by (42 == c) (45 == c) (43 == c) refl refl refl h
  where
    by : (x y z : Bool) → (42 == c) ≡ x → (45 == c) ≡ y → (43 == c) ≡ z → (x || (y || (z || false))) ≡ true → IsBullet c
    by true y z e k l h = inl (sym (eq_of 42 c e))
    by false true z e k l h = inr (inr (sym (eq_of 45 c k)))
    by false false true e k l h = inr (inl (sym (eq_of 43 c l)))
    by false false false e k l h = absurd (true≢false (sym h))

module _ (o : OptionsView) (flags : ParserOptions) (tokens : ArePlainTokens o) where
  leaf_of : (b : PlainBlock) (ls : List (List ℕ)) (s : Declares o flags b) → s.first ∷ s.more ≡ ls → AreShort (2 ^ 64) ls → LaidLeaf b (declared_block o flags b) ls
  leaf_of b ls s same short =
      let small : AreShort (2 ^ 64) (s.first ∷ s.more) = subst (AreShort (2 ^ 64)) (sym same) short in
      record {
        first = s.first;
        more = s.more;
        is = sym same;
        bare = s.bare;
        ends = s.ends;
        inked = s.inked;
        within = s.within;
        breaks = s.breaks;
        sorts = λ k sort ls. same_none b (beginning (line_at k s.first)) sort ls (s.begins small k);
        lazy = λ other k. not_lazy b (beginning (line_at k s.first)) other (s.begins small k);
        takes = λ j k rest before.
            let long : length (lines_at k s.more) ≡ length s.more = length-map s.more (line_at k) in
            subst (λ n. Begins (line_at j s.first ∷ (lines_at k s.more ++ rest)) (suc n) (declared_block o flags b) rest) long
            (leaf_begins (line_at j s.first) (lines_at k s.more) rest s.found (declared_block o flags b) (λ bs at. s.takes small bs at j k rest before) s.shown (λ at. (s.places at).0)
            (λ at. (s.places at).1 ∙ ap (λ n. at + suc n) (sym long)));
      }

  pub laid : (c : Outside) (how : How) (b : PlainBlock) → IsPlainBlock b → AreShort (2 ^ 64) (plain_lines o flags c how b) → LaidLeaf b (declared_block o flags b) (plain_lines o flags c how b)
  laid c how (PlainParagraph l ms) plain short = let s = declares o flags tokens (PlainParagraph l ms) plain in leaf_of (PlainParagraph l ms) _ s (sym s.is) short
  laid c how (PlainHeading level ts) plain short = let s = declares o flags tokens (PlainHeading level ts) plain in leaf_of (PlainHeading level ts) _ s (sym s.is) short
  laid c how (PlainCode info lines) plain short = let s = declares o flags tokens (PlainCode info lines) plain in leaf_of (PlainCode info lines) _ s (sym s.is) short
  laid c how PlainRule plain short = by (is_amid_hyphens c how) short
    where
      by : (t : Bool) → AreShort (2 ^ 64) (rule_line t ∷ []) → LaidLeaf PlainRule read.Rule (rule_line t ∷ [])
      by true short = stars_laid
      by false short = let s = declares o flags tokens PlainRule tt in leaf_of PlainRule (codes "---" ∷ []) s (sym s.is) short

  -- documents with a block
  filled_layout : (f : Blocks) → char_set_contains (codes "*-+") o.list_token ≡ true → ArePlain f → HasSafeRules o no_lists Beside f → length (layout o flags f) < 2 ^ 64 → (AreShort (2 ^ 64) (lines_of o flags no_lists Beside f) → Ends (lines_of o flags no_lists Beside f))
      → blocks_of (layout o flags f) ≡ declared_tree o flags f
  filled_layout f bullet plain safe small ends =
      let ls : List (List ℕ) = lines_of o flags no_lists Beside f in
      let token : IsBullet o.list_token = bullet_from o.list_token bullet in
      let short : AreShort (2 ^ 64) ls = text_short (2 ^ 64) ls (subst (λ (x : List ℕ). length x < 2 ^ 64) (joined_is ls) small) in
      let bytes : Bytes o flags token laid f = all_bytes o flags token laid f in
      let proved : Proved o flags token laid f = all_proved o flags token laid f in
      let finds = becomes (lines_from 0 0 ls ++ []) (lead no_lists Beside f) (length ls) (declared_tree o flags f) (has_gap o no_lists Beside f) (proved.blocks no_lists Beside 0 0 [] plain safe short) in
      text_declared ls (declared_tree o flags f) (bytes.blocks_bare no_lists Beside plain short) (ends short)
      (subst (λ (xs : List Line). Becomes xs (declared_tree o flags f)) (append-nil (lines_from 0 0 ls) ∙ from_same 0 ls) finds)

  listed_layout : (f : Blocks) → char_set_contains (codes "*-+") o.list_token ≡ true → ArePlain f → HasSafeRules o no_lists Beside f → length (layout o flags f) < 2 ^ 64 → blocks_of (layout o flags f) ≡ declared_tree o flags f
  unfolding blocks_of blocks blocks_from
  listed_layout Nothing bullet plain safe small = refl
  listed_layout (PlainThen b f) bullet plain safe small =
      filled_layout (PlainThen b f) bullet plain safe small (λ short. (all_bytes o flags (bullet_from o.list_token bullet) laid (PlainThen b f)).blocks_end no_lists Beside plain short)
  listed_layout (QuoteThen kids f) bullet plain safe small =
      filled_layout (QuoteThen kids f) bullet plain safe small (λ short. (all_bytes o flags (bullet_from o.list_token bullet) laid (QuoteThen kids f)).blocks_end no_lists Beside plain short)
  listed_layout (BulletsThen items f) bullet plain safe small =
      filled_layout (BulletsThen items f) bullet plain safe small (λ short. (all_bytes o flags (bullet_from o.list_token bullet) laid (BulletsThen items f)).blocks_end no_lists Beside plain short)
  listed_layout (ItemThen kids f) bullet plain safe small = absurd plain

-- the law
pub layouts_with_lists_declared : LayoutsWithListsAreDeclared
layouts_with_lists_declared options flags f tokens bullet plain safe small = listed_layout options flags tokens f bullet plain safe small

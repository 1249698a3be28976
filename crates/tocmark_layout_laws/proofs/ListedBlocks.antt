-- What is declared of the lines of trees with lists, whose plain blocks are declared of their lines.
use Rattle.std.proofs.Common.{◌≡◌, ◌⊎◌, inl, inr, ℕ, suc, ◌+◌, ◌-◌, ◌^◌, ◌<◌, ◌≤◌, max, Bool, true, false, not, ◌==◌, ◌&&◌, ◌||◌, nat_le, if◌then◌else◌, List, [], ◌∷◌, ◌++◌, length, map, codes, refl, ap, sym, subst, ◌∙◌, arith, append-nil, true≢false}
use Rattle.std.specs.Prelude.{Some, None}
use Rattle.std.specs.List.{AllByRecursion, fold}
use Rattle.std.proofs.lemmas.Bool.Decides.{nat_tests}
use Rattle.std.proofs.lemmas.List.{length-map}
use Rattle.tocmark_event.specs.Options.{OptionsView}
use Rattle.tocmark_event.specs.declared.event.flags.ParserOptions.{ParserOptions}
use Rattle.tocmark_read_blocks.proofs.PlainLines.{IsWithin}
use Rattle.tocmark_commonmark.specs.Beginnings.{beginning, interrupts, may_be_lazy}
use Rattle.tocmark_commonmark.specs.Lines.{Line, is_blank, column_after}
use Rattle.tocmark_commonmark.specs.Lists.{same_sort}
use Rattle.tocmark_commonmark.specs.Tree as read
use Rattle.tocmark_laws.specs.Documents.{PlainBlock, PlainParagraph, PlainHeading, PlainRule, PlainCode, IsPlainBlock}
use Rattle.tocmark_document_laws.specs.Blocks.{Blocks, Nothing, PlainThen, QuoteThen, BulletsThen, ItemThen, ArePlainIn, begins_item}
use Rattle.tocmark_document_laws.specs.DocumentLines.{How, Outside, Beside, Marked, Below, bullet_for, feeds_below, feeds_below_item, feeds_below_list, feeds_below_quote, gap_lines, hanging, in_bullets, item_gap, list_gap, marker, plain_gap, plain_lines, quoted, quoted_beside, rule_line}
use Rattle.tocmark_layout_laws.specs.Declared.{declared_block, is_gap, has_gap, is_tight, HasSafeRules}
use Rattle.tocmark_layout_laws.proofs.Starts.{part_at, line_at, lines_at, empty_blank, deeper, quote_front, quote_some, quote_begins, Becomes, blank_before}
use Rattle.tocmark_layout_laws.proofs.Fronts.{Inky, inky, inky_filled, flush}
use Rattle.tocmark_layout_laws.proofs.Texts.{AreShort, all_front, all_behind}
use Rattle.tocmark_layout_laws.proofs.Founds.{lines_from, from_same, empties, empties_find, Finds, Begins}
use Rattle.tocmark_layout_laws.proofs.Items.{IsApart, indented, first_line, mark, more_lines, hung}
use Rattle.tocmark_layout_laws.proofs.Lists.{Row, IsRow, rows_lines, rows_tree, are_none, marks_apart, gap_wide, list_begins}
use Rattle.tocmark_layout_laws.proofs.Bullets.{IsBullet, IsNoRule, bullet_inked, bullet_begins}
use Rattle.tocmark_layout_laws.proofs.Quotes.{marked, quote_finds, marked_quote}
use Rattle.tocmark_layout_laws.proofs.Gaps.{AreEmpty, gap_empty}
use Rattle.tocmark_layout_laws.proofs.LaidBlocks.{Before, quoted_short}
use Rattle.tocmark_layout_laws.proofs.LaidLists.{LaidLeaf, plain_empty, list_empty, laid_block, Tail, tail_line, other_is, bullet_is, hung_is, lead, lead_marked, plain_marked, becomes, Started, lines, tree_of, rows, rows_more, rows_are_lines, rows_are_tree, none_left, same_tree, same_safe, stops_below}

-- lines that are short

pub hung_short : (b n : ℕ) (ls : List (List ℕ)) → AreShort n (hung b ls) → AreShort n ls
hung_short b n [] h = tt
hung_short b n (l ∷ ls) h = (let a : length (b ∷ 32 ∷ l) < n = h.0 in omega (arith, a), below ls (h.1))
  where
    below : (ls : List (List ℕ)) → AreShort n (map indented ls) → AreShort n ls
    below [] h = tt
    below (l ∷ ls) h = (let a : length (indented l) < n = h.0 in omega (arith, a), below ls (h.1))

pub beside_short : (n : ℕ) (ls : List (List ℕ)) → AreShort n (quoted_beside ls) → AreShort n ls
beside_short n [] h = tt
beside_short n (l ∷ ls) h = (let a : length (62 ∷ 32 ∷ l) < n = h.0 in omega (arith, a), quoted_short n ls (h.1))

beside_is : (ls : List (List ℕ)) → quoted_beside ls ≡ marked (first_line ls) ∷ map quoted (more_lines ls)
beside_is [] = refl
beside_is (l ∷ ls) = refl

-- bytes

bullet_within : (b : ℕ) → IsBullet b → IsWithin b
bullet_within b (inl e) = subst IsWithin (sym e) (record { feed = refl; return = refl; tab = refl })
bullet_within b (inr (inl e)) = subst IsWithin (sym e) (record { feed = refl; return = refl; tab = refl })
bullet_within b (inr (inr e)) = subst IsWithin (sym e) (record { feed = refl; return = refl; tab = refl })

space_within : IsWithin 32
space_within = record { feed = refl; return = refl; tab = refl }

bullet_no_space : (b : ℕ) → IsBullet b → (b == 32) ≡ false
bullet_no_space b (inl e) = rw e refl
bullet_no_space b (inr (inl e)) = rw e refl
bullet_no_space b (inr (inr e)) = rw e refl

quote_no_bullet : (b : ℕ) → IsBullet b → (62 == b) ≡ false
quote_no_bullet b (inl e) = rw e refl
quote_no_bullet b (inr (inl e)) = rw e refl
quote_no_bullet b (inr (inr e)) = rw e refl

-- a thematic break right after a marker that is no longer one with it
rule_safe : (b : ℕ) (h : Bool) → IsBullet b → (((b == 45) || h) && (b == 42)) ≡ false → IsNoRule b (rule_line ((b == 45) || h))
rule_safe b h (inl e) safe = subst (λ x. (((x == 45) || h) && (x == 42)) ≡ false → IsNoRule x (rule_line ((x == 45) || h))) (sym e) (star h) safe
  where
    star : (h : Bool) → (h && true) ≡ false → IsNoRule 42 (rule_line h)
    star true e = absurd (true≢false e)
    star false e = inr (inr (record { before = []; byte = 45; after = codes "--"; is = refl; other = refl; space = refl }))
rule_safe b h (inr (inl e)) safe = inl e
rule_safe b h (inr (inr e)) safe = subst (λ x. IsNoRule x (rule_line ((x == 45) || h))) (sym e) (inr (inr (record { before = []; byte = 42; after = codes "**"; is = refl; other = refl; space = refl })))

-- the first line of a quote below a list
quote_apart : (k : ℕ) (es : List ℕ) → IsApart es (line_at k (quoted []))
unfolding may_be_lazy interrupts
quote_apart k es = record {
  part = part_at k (quoted []);
  is = refl;
  some = quote_some (32 ∷ []);
  near = ap (λ (xs : List ℕ). nat_le 2 (0 + (fold column_after k xs - k))) (quote_front (32 ∷ [])) ∙ (let q : nat_le 2 (0 + (k + 1 - k)) ≡ false = grind (arith, nat_tests) in q);
  lazy = inl (ap may_be_lazy (quote_begins k []));
}

-- lines in a quote right after a marker
inside_marked : (i k : ℕ) (ls : List (List ℕ)) (t : read.Blocks) → ((j k : ℕ) → Becomes (lines_from j k ls) t) → Becomes (line_at i (first_line ls) ∷ lines_at k (more_lines ls)) t
inside_marked i k [] t h = blank_before (line_at i []) [] t (empty_blank i) (h 0 0)
inside_marked i k (l ∷ ls) t h = h i k

module _ (o : OptionsView) (flags : ParserOptions) (token : IsBullet o.list_token)
    (laid : (c : Outside) (how : How) (b : PlainBlock) → IsPlainBlock b → AreShort (2 ^ 64) (plain_lines o flags c how b) → LaidLeaf b (declared_block o flags b) (plain_lines o flags c how b)) where
  abbrev ls_of : Outside → How → Blocks → List (List ℕ)
  ls_of c how f = lines o flags c how f

  abbrev t_of : Outside → How → Blocks → read.Blocks
  t_of c how f = tree_of o flags c how f

  -- what is proved of blocks, by recursion on them
  pub record Proved (f : Blocks) : Type 0 where
    pub blocks : (c : Outside) (how : How) (j k : ℕ) (es : List ℕ) → ArePlainIn false f → HasSafeRules o c how f → AreShort (2 ^ 64) (ls_of c how f)
        → Finds (lines_from j k (ls_of c how f) ++ empties es) (lead c how f) (length (ls_of c how f)) (t_of c how f) (has_gap o c how f)
    pub items : (b : ℕ) (c : Outside) (how : How) → IsBullet b → ArePlainIn true f → HasSafeRules o (in_bullets b c) how f → AreShort (2 ^ 64) (ls_of (in_bullets b c) how f) → AllByRecursion (IsRow b) (rows o flags (in_bullets b c) how f)
    pub tail : (c : Outside) (n b k : ℕ) (es : List ℕ) → ArePlainIn false f → HasSafeRules o c (Below n (Some b)) f → AreShort (2 ^ 64) (ls_of c (Below n (Some b)) f)
        → Tail b (lines_at k (ls_of c (Below n (Some b)) f) ++ empties es)
    pub starts : (b : ℕ) (c : Outside) → IsBullet b → ArePlainIn false f → HasSafeRules o (in_bullets b c) Marked f → AreShort (2 ^ 64) (ls_of (in_bullets b c) Marked f) → Started b (ls_of (in_bullets b c) Marked f)
    pub inner : (c : Outside) → c.listed ≡ true → ArePlainIn false f → AreShort (2 ^ 64) (ls_of c Beside f) → AllByRecursion IsWithin (first_line (ls_of c Beside f))

  nothing_case : Proved Nothing
  nothing_case = record {
    blocks = λ c how j k es plain safe short. empties_find es;
    items = λ b c how bullet plain safe short. tt;
    tail = λ c n b k es plain safe short. record { es = es; rest = []; is = sym (append-nil (empties es)); apart = tt; alone = refl };
    starts = λ b c bullet plain safe short. record { front = refl; filled = tt; within = tt; rule = inr (inl refl) };
    inner = λ c listed plain short. tt;
  }

  -- plain blocks

  module _ (b : PlainBlock) (f : Blocks) (again : Proved f) where
    abbrev rest : Outside → List (List ℕ)
    rest c = ls_of c (Below (feeds_below o b) None) f

    leaf : (c : Outside) (how : How) → IsPlainBlock b → AreShort (2 ^ 64) (ls_of c how (PlainThen b f)) → LaidLeaf b (declared_block o flags b) (plain_lines o flags c how b)
    leaf c how plain short =
        let g : List (List ℕ) = plain_gap how b in
        let body : List (List ℕ) = plain_lines o flags c how b in
        laid c how b plain (all_behind _ g body (all_front _ (g ++ body) (rest c) short))

    before_rest : (p : PlainBlock) (c : Outside) (k : ℕ) (es : List ℕ) → ArePlainIn false f → Before p (lines_at k (ls_of c (Below (feeds_below o p) None) f) ++ empties es)
    before_rest (PlainParagraph l ms) c k es plain = stops_below o flags c (feeds_below o (PlainParagraph l ms)) k f es (omega arith) plain
    before_rest (PlainHeading level ts) c k es plain = tt
    before_rest PlainRule c k es plain = tt
    before_rest (PlainCode info ls) c k es plain = tt

    plain_blocks : (c : Outside) (how : How) (j k : ℕ) (es : List ℕ) → IsPlainBlock b → ArePlainIn false f → HasSafeRules o c (Below (feeds_below o b) None) f → AreShort (2 ^ 64) (ls_of c how (PlainThen b f))
        → Finds (lines_from j k (ls_of c how (PlainThen b f)) ++ empties es) (lead c how (PlainThen b f)) (length (ls_of c how (PlainThen b f))) (t_of c how (PlainThen b f)) (has_gap o c how (PlainThen b f))
    plain_blocks c how j k es plain more safe short =
        let g : List (List ℕ) = plain_gap how b in
        let s = leaf c how plain short in
        let after : How = Below (feeds_below o b) None in
        subst (λ (ls : List (List ℕ)). Finds (lines_from j k ((g ++ ls) ++ rest c) ++ empties es) (length g) (length ((g ++ ls) ++ rest c)) (t_of c how (PlainThen b f)) (has_gap o c how (PlainThen b f))) (sym s.is)
        (laid_block j k g s.first s.more (rest c) (empties es) (declared_block o flags b) (lead c after f) (t_of c after f) (has_gap o c after f) (plain_empty how b)
        (λ i. s.takes i k (lines_at k (rest c) ++ empties es) (before_rest b c k es more))
        (again.blocks c after k k es more safe (all_behind _ (g ++ plain_lines o flags c how b) (rest c) short)))

    plain_tail : (c : Outside) (n bullet k : ℕ) (es : List ℕ) → IsPlainBlock b → AreShort (2 ^ 64) (ls_of c (Below n (Some bullet)) (PlainThen b f)) → Tail bullet (lines_at k (ls_of c (Below n (Some bullet)) (PlainThen b f)) ++ empties es)
    plain_tail c n bullet k es plain short =
        let how : How = Below n (Some bullet) in
        let g : List (List ℕ) = plain_gap how b in
        let s = leaf c how plain short in
        subst (λ (ls : List (List ℕ)). Tail bullet (lines_at k ((g ++ ls) ++ rest c) ++ empties es)) (sym s.is)
        (tail_line bullet k g s.first s.more (rest c) (empties es) (plain_empty how b)
        (λ i es long. record {
          part = part_at i s.first;
          is = refl;
          some = inky_filled s.first s.inked;
          near = ap (nat_le 2) (flush i s.first s.inked);
          lazy = lazy b s i es long;
        }) (λ i ls. s.sorts i bullet ls))
      where
        lazy : (p : PlainBlock) (s : LaidLeaf p (declared_block o flags b) (plain_lines o flags c (Below n (Some bullet)) b)) (i : ℕ) (es : List ℕ) → length es ≡ length (plain_gap (Below n (Some bullet)) p)
            → (may_be_lazy (beginning (line_at i s.first)) ≡ false) ⊎ (1 ≤ length es)
        lazy (PlainParagraph l ms) s i es long =
            let wide : length (gap_lines (max n 2)) ≡ max n 2 - 1 = gap_wide (max n 2 - 1) in
            inr (omega (arith, long, wide))
        lazy (PlainHeading level ts) s i es long = inl (s.lazy tt i)
        lazy PlainRule s i es long = inl (s.lazy tt i)
        lazy (PlainCode info ls) s i es long = inl (s.lazy tt i)

    plain_starts : (bullet : ℕ) (c : Outside) → IsBullet bullet → IsPlainBlock b → HasSafeRules o (in_bullets bullet c) Marked (PlainThen b f) → AreShort (2 ^ 64) (ls_of (in_bullets bullet c) Marked (PlainThen b f))
        → Started bullet (ls_of (in_bullets bullet c) Marked (PlainThen b f))
    plain_starts bullet c is plain safe short =
        let ci : Outside = in_bullets bullet c in
        let s = leaf ci Marked plain short in
        subst (λ (g : List (List ℕ)). Started bullet ((g ++ plain_lines o flags ci Marked b) ++ rest ci)) (sym (plain_marked b))
        (subst (λ (ls : List (List ℕ)). Started bullet (ls ++ rest ci)) (sym s.is)
        (record { front = (s.inked).front; filled = inky_filled s.first s.inked; within = s.within; rule = rule b s safe }))
      where
        rule : (p : PlainBlock) (s : LaidLeaf p (declared_block o flags b) (plain_lines o flags (in_bullets bullet c) Marked p)) → HasSafeRules o (in_bullets bullet c) Marked (PlainThen p f) → IsNoRule bullet s.first
        rule (PlainParagraph l ms) s safe = s.breaks tt bullet is
        rule (PlainHeading level ts) s safe = s.breaks tt bullet is
        rule PlainRule s safe = subst (IsNoRule bullet) (ap first_line s.is) (rule_safe bullet c.hyphens is (safe.0))
        rule (PlainCode info ls) s safe = s.breaks tt bullet is

  plain_inner : (b : PlainBlock) (f : Blocks) (c : Outside) → IsPlainBlock b → AreShort (2 ^ 64) (ls_of c Beside (PlainThen b f)) → AllByRecursion IsWithin (first_line (ls_of c Beside (PlainThen b f)))
  plain_inner (PlainCode info ls) f c plain short = tt
  plain_inner (PlainParagraph l ms) f c plain short =
      let s = laid c Beside (PlainParagraph l ms) plain (all_front _ (plain_lines o flags c Beside (PlainParagraph l ms)) _ short) in
      subst (λ (ls : List (List ℕ)). AllByRecursion IsWithin (first_line (ls ++ ls_of c (Below (feeds_below o (PlainParagraph l ms)) None) f))) (sym s.is) s.within
  plain_inner (PlainHeading level ts) f c plain short =
      let s = laid c Beside (PlainHeading level ts) plain (all_front _ (plain_lines o flags c Beside (PlainHeading level ts)) _ short) in
      subst (λ (ls : List (List ℕ)). AllByRecursion IsWithin (first_line (ls ++ ls_of c (Below (feeds_below o (PlainHeading level ts)) None) f))) (sym s.is) s.within
  plain_inner PlainRule f c plain short =
      let s = laid c Beside PlainRule plain (all_front _ (plain_lines o flags c Beside PlainRule) _ short) in
      subst (λ (ls : List (List ℕ)). AllByRecursion IsWithin (first_line (ls ++ ls_of c (Below (feeds_below o PlainRule) None) f))) (sym s.is) s.within

  plain_case : (b : PlainBlock) (f : Blocks) → Proved f → Proved (PlainThen b f)
  plain_case b f again = record {
    blocks = λ c how j k es plain safe short. plain_blocks b f again c how j k es (plain.0) (plain.1) (safe.1) short;
    items = λ bullet c how is plain safe short. absurd plain;
    tail = λ c n bullet k es plain safe short. plain_tail b f again c n bullet k es (plain.0) short;
    starts = λ bullet c is plain safe short. plain_starts b f again bullet c is (plain.0) safe short;
    inner = λ c listed plain short. plain_inner b f c (plain.0) short;
  }

  -- block quotes

  module _ (kids f : Blocks) (inside : Proved kids) (again : Proved f) where
    abbrev after_quote : Outside → List (List ℕ)
    after_quote c = ls_of c (Below (feeds_below_quote o) None) f

    abbrev in_quote : Outside → List (List ℕ)
    in_quote c = ls_of c (Below 1 None) kids

    rest_finds : (c : Outside) (k : ℕ) (es : List ℕ) → ArePlainIn false f → HasSafeRules o c (Below (feeds_below_quote o) None) f → AreShort (2 ^ 64) (after_quote c)
        → Finds (lines_from k k (after_quote c) ++ empties es) (lead c (Below (feeds_below_quote o) None) f) (length (after_quote c)) (t_of c (Below (feeds_below_quote o) None) f) (has_gap o c (Below (feeds_below_quote o) None) f)
    rest_finds c k es plain safe short = again.blocks c (Below (feeds_below_quote o) None) k k es plain safe short

    inside_becomes : (c : Outside) (k : ℕ) → ArePlainIn false kids → HasSafeRules o c Beside kids → AreShort (2 ^ 64) (in_quote c) → Becomes (lines_at k (in_quote c)) (t_of c Beside kids)
    inside_becomes c k plain safe short =
        subst (Becomes (lines_at k (in_quote c))) (same_tree o flags c kids)
        (subst (λ (ls : List Line). Becomes ls (t_of c (Below 1 None) kids)) (append-nil (lines_from k k (in_quote c)) ∙ from_same k (in_quote c))
        (becomes _ _ _ _ _ (inside.blocks c (Below 1 None) k k [] plain (same_safe o flags c kids safe) short)))

    -- one on lines of its own
    quote_blocks : (c : Outside) (g : List (List ℕ)) (j k : ℕ) (es : List ℕ) → AreEmpty g → ArePlainIn false kids → ArePlainIn false f → HasSafeRules o c Beside kids → HasSafeRules o c (Below (feeds_below_quote o) None) f
        → AreShort (2 ^ 64) ((g ++ map quoted ([] ∷ in_quote c)) ++ after_quote c)
        → Finds (lines_from j k ((g ++ map quoted ([] ∷ in_quote c)) ++ after_quote c) ++ empties es) (length g) (length ((g ++ map quoted ([] ∷ in_quote c)) ++ after_quote c))
        (read.more (read.Quote (t_of c Beside kids)) (t_of c (Below (feeds_below_quote o) None) f)) (is_gap g || has_gap o c (Below (feeds_below_quote o) None) f)
    quote_blocks c g j k es empty plain more safe later short =
        let body : List (List ℕ) = map quoted ([] ∷ in_quote c) in
        let ends : List Line = lines_at k (after_quote c) ++ empties es in
        let inner : AreShort (2 ^ 64) (in_quote c) = quoted_short (2 ^ 64) (in_quote c) ((all_behind _ g body (all_front _ (g ++ body) (after_quote c) short)).1) in
        laid_block j k g (quoted []) (map quoted (in_quote c)) (after_quote c) (empties es) (read.Quote (t_of c Beside kids)) (lead c (Below (feeds_below_quote o) None) f) _ _ empty
        (λ i. subst (λ n. Begins (line_at i (quoted []) ∷ (lines_at k (map quoted (in_quote c)) ++ ends)) n (read.Quote (t_of c Beside kids)) ends) (ap suc (sym (length-map (in_quote c) quoted)))
        (quote_finds i k [] (in_quote c) ends (t_of c Beside kids) (stops_below o flags c (feeds_below_quote o) k f es (omega arith) more)
        (blank_before (line_at (deeper i) []) (lines_at (deeper k) (in_quote c)) (t_of c Beside kids) (empty_blank (deeper i)) (inside_becomes c (deeper k) plain safe inner))))
        (rest_finds c k es more later (all_behind _ (g ++ body) (after_quote c) short))

    -- one right after a marker
    marked_blocks : (c : Outside) (j k : ℕ) (es : List ℕ) → ArePlainIn false kids → ArePlainIn false f → HasSafeRules o c Beside kids → HasSafeRules o c (Below (feeds_below_quote o) None) f
        → AreShort (2 ^ 64) (ls_of c Marked (QuoteThen kids f))
        → Finds (lines_from j k (ls_of c Marked (QuoteThen kids f)) ++ empties es) 0 (length (ls_of c Marked (QuoteThen kids f)))
        (read.more (read.Quote (t_of c Beside kids)) (t_of c (Below (feeds_below_quote o) None) f)) (false || has_gap o c (Below (feeds_below_quote o) None) f)
    marked_blocks c j k es plain more safe later short =
        let within : List (List ℕ) = ls_of c Beside kids in
        let ends : List Line = lines_at k (after_quote c) ++ empties es in
        let t : read.Blocks = t_of c Beside kids in
        let inner : AreShort (2 ^ 64) within = beside_short (2 ^ 64) within (all_front _ (quoted_beside within) (after_quote c) short) in
        subst (λ (ls : List (List ℕ)). Finds (lines_from j k (ls ++ after_quote c) ++ empties es) 0 (length (ls ++ after_quote c)) (read.more (read.Quote t) (t_of c (Below (feeds_below_quote o) None) f)) (false || has_gap o c (Below (feeds_below_quote o) None) f)) (sym (beside_is within))
        (laid_block j k [] (marked (first_line within)) (map quoted (more_lines within)) (after_quote c) (empties es) (read.Quote t) (lead c (Below (feeds_below_quote o) None) f) _ _ refl
        (λ i. subst (λ n. Begins (line_at i (marked (first_line within)) ∷ (lines_at k (map quoted (more_lines within)) ++ ends)) n (read.Quote t) ends) (ap suc (sym (length-map (more_lines within) quoted)))
        (marked_quote i k (first_line within) (more_lines within) ends t (stops_below o flags c (feeds_below_quote o) k f es (omega arith) more)
        (inside_marked (i + 1 + 1) (deeper k) within t
        (λ m n. subst (λ (ls : List Line). Becomes ls t) (append-nil (lines_from m n within)) (becomes _ _ _ _ _ (inside.blocks c Beside m n [] plain safe inner))))))
        (rest_finds c k es more later (all_behind _ (quoted_beside within) (after_quote c) short)))

    quote_by : (c : Outside) (how : How) (j k : ℕ) (es : List ℕ) → ArePlainIn false kids → ArePlainIn false f → HasSafeRules o c Beside kids → HasSafeRules o c (Below (feeds_below_quote o) None) f
        → AreShort (2 ^ 64) (ls_of c how (QuoteThen kids f))
        → Finds (lines_from j k (ls_of c how (QuoteThen kids f)) ++ empties es) (lead c how (QuoteThen kids f)) (length (ls_of c how (QuoteThen kids f))) (t_of c how (QuoteThen kids f)) (has_gap o c how (QuoteThen kids f))
    quote_by c Beside j k es plain more safe later short = quote_blocks c ([] ∷ []) j k es refl plain more safe later short
    quote_by c Marked j k es plain more safe later short = marked_blocks c j k es plain more safe later short
    quote_by c (Below n bullet) j k es plain more safe later short = quote_blocks c (gap_lines n) j k es (gap_empty (n - 1)) plain more safe later short

    quote_starts : (b : ℕ) (c : Outside) → IsBullet b → ArePlainIn false kids → AreShort (2 ^ 64) (ls_of (in_bullets b c) Marked (QuoteThen kids f)) → Started b (ls_of (in_bullets b c) Marked (QuoteThen kids f))
    quote_starts b c is plain short =
        let ci : Outside = in_bullets b c in
        let within : List (List ℕ) = ls_of ci Beside kids in
        let i : Inky (marked (first_line within)) = inky 62 (32 ∷ first_line within) refl in
        let inner : AreShort (2 ^ 64) within = beside_short (2 ^ 64) within (all_front _ (quoted_beside within) (after_quote ci) short) in
        subst (λ (ls : List (List ℕ)). Started b (ls ++ after_quote ci)) (sym (beside_is within))
        (record {
          front = i.front;
          filled = inky_filled (marked (first_line within)) i;
          within = (record { feed = refl; return = refl; tab = refl }, (space_within, inside.inner ci refl plain inner));
          rule = inr (inr (record { before = []; byte = 62; after = 32 ∷ first_line within; is = refl; other = quote_no_bullet b is; space = refl }));
        })

    quote_case : Proved (QuoteThen kids f)
    quote_case = record {
      blocks = λ c how j k es plain safe short. quote_by c how j k es (plain.0) (plain.1) (safe.0) (safe.1) short;
      items = λ b c how is plain safe short. absurd plain;
      tail = λ c n b k es plain safe short. tail_line b k (gap_lines n) (quoted []) (map quoted (in_quote c)) (after_quote c) (empties es) (gap_empty (n - 1)) (λ i es long. quote_apart i es) (λ i ls. ap (same_sort b ls) (quote_begins i []));
      starts = λ b c is plain safe short. quote_starts b c is (plain.0) short;
      inner = λ c listed plain short. tt;
    }

  -- items

  item_row : (b : ℕ) (c : Outside) (kids : Blocks) (gap_before : ℕ) → Proved kids → IsBullet b → ArePlainIn false kids → HasSafeRules o (in_bullets b c) Marked kids → AreShort (2 ^ 64) (hung b (ls_of (in_bullets b c) Marked kids))
      → IsRow b (record { gap = gap_before; lines = ls_of (in_bullets b c) Marked kids; blocks = t_of (in_bullets b c) Marked kids; gapped = has_gap o (in_bullets b c) Marked kids })
  item_row b c kids gap_before inside is plain safe short =
      let ci : Outside = in_bullets b c in
      let ls : List (List ℕ) = ls_of ci Marked kids in
      let inner : AreShort (2 ^ 64) ls = hung_short b (2 ^ 64) ls short in
      let s : Started b ls = inside.starts b c is plain safe inner in
      record {
        filled = s.filled;
        within = s.within;
        blank = is_blank (32 ∷ first_line ls);
        begins = bullet_begins b (first_line ls) is s.rule s.front (bullet_within b is, (space_within, s.within)) (short.0);
        finds = λ j k es. subst (λ n. Finds (lines_from j k ls ++ empties es) n (length ls) (t_of ci Marked kids) (has_gap o ci Marked kids)) (lead_marked ci kids) (inside.blocks ci Marked j k es plain safe inner);
      }

  item_rows : (kids f : Blocks) → Proved kids → Proved f → (b : ℕ) (c : Outside) (how : How) → IsBullet b → ArePlainIn true (ItemThen kids f) → HasSafeRules o (in_bullets b c) how (ItemThen kids f) → AreShort (2 ^ 64) (ls_of (in_bullets b c) how (ItemThen kids f))
      → AllByRecursion (IsRow b) (rows o flags (in_bullets b c) how (ItemThen kids f))
  item_rows kids f inside again b c how is plain safe short =
      let ci : Outside = in_bullets b c in
      let body : List (List ℕ) = hanging (marker b) (ls_of ci Marked kids) in
      let rest : List (List ℕ) = ls_of ci (Below (feeds_below_item o kids) None) f in
      let body_short : AreShort (2 ^ 64) body = all_behind _ (item_gap how) body (all_front _ (item_gap how ++ body) rest short) in (
        item_row b c kids _ inside is (plain.0) (safe.0) (subst (AreShort (2 ^ 64)) (hung_is b (ls_of ci Marked kids) is) body_short),
        again.items b c (Below (feeds_below_item o kids) None) is (plain.1) (safe.1) (all_behind _ (item_gap how ++ body) rest short),
      )

  item_case : (kids f : Blocks) → Proved kids → Proved f → Proved (ItemThen kids f)
  item_case kids f inside again = record {
    blocks = λ c how j k es plain safe short. absurd plain;
    items = λ b c how is plain safe short. item_rows kids f inside again b c how is plain safe short;
    tail = λ c n b k es plain safe short. absurd plain;
    starts = λ b c is plain safe short. absurd plain;
    inner = λ c listed plain short. absurd plain;
  }

  -- lists

  module _ (kids items f : Blocks) (inside : Proved (ItemThen kids items)) (again : Proved f) where
    abbrev all_items : Blocks
    all_items = ItemThen kids items

    -- the first item, and those after it
    abbrev first_row : Outside → Row
    first_row c = record { gap = 0; lines = ls_of c Marked kids; blocks = t_of c Marked kids; gapped = has_gap o c Marked kids }

    abbrev later_rows : Outside → List Row
    later_rows c = rows o flags c (Below (feeds_below_item o kids) None) items

    abbrev item_lines : Outside → List (List ℕ)
    item_lines c = ls_of c Beside all_items

    abbrev after_list : Outside → ℕ → List (List ℕ)
    after_list c b = ls_of c (Below (feeds_below_list o c.listed all_items) (Some b)) f

    -- the lines below the first one
    abbrev below_first : ℕ → Outside → List (List ℕ)
    below_first b c = map indented (more_lines (ls_of (in_bullets b c) Marked kids)) ++ rows_lines b (later_rows (in_bullets b c))

    abbrev first_of : ℕ → Outside → List ℕ
    first_of b c = b ∷ 32 ∷ first_line (ls_of (in_bullets b c) Marked kids)

    items_are : (b : ℕ) (c : Outside) → IsBullet b → ArePlainIn true all_items → item_lines (in_bullets b c) ≡ first_of b c ∷ below_first b c
    items_are b c is plain = rows_are_lines o flags b c Beside all_items is plain

    rows_fit : (b : ℕ) (c : Outside) → IsBullet b → ArePlainIn true all_items → HasSafeRules o (in_bullets b c) Beside all_items → AreShort (2 ^ 64) (item_lines (in_bullets b c))
        → AllByRecursion (IsRow b) (first_row (in_bullets b c) ∷ later_rows (in_bullets b c))
    rows_fit b c is plain safe short = inside.items b c Beside is plain safe short

    list_shown : (b : ℕ) (c : Outside) → ArePlainIn true all_items
        → read.BulletList b (are_none (later_rows (in_bullets b c)) && not (has_gap o (in_bullets b c) Marked kids)) (rows_tree (first_row (in_bullets b c) ∷ later_rows (in_bullets b c)))
        ≡ read.BulletList b (is_tight o (in_bullets b c) all_items) (t_of (in_bullets b c) Beside all_items)
    list_shown b c plain =
        let ci : Outside = in_bullets b c in
        ap (λ t. read.BulletList b (t && not (has_gap o ci Marked kids)) (rows_tree (first_row ci ∷ later_rows ci))) (sym (none_left o flags ci (Below (feeds_below_item o kids) None) items (plain.1)))
        ∙ ap (read.BulletList b (is_tight o ci all_items)) (sym (rows_are_tree o flags ci Beside all_items plain))

    list_takes : (b i k : ℕ) (c : Outside) (ls : List Line) → IsBullet b → ArePlainIn true all_items → AllByRecursion (IsRow b) (first_row (in_bullets b c) ∷ later_rows (in_bullets b c)) → Tail b ls
        → Begins (line_at i (first_of b c) ∷ (lines_at k (below_first b c) ++ ls)) (suc (length (below_first b c))) (read.BulletList b (is_tight o (in_bullets b c) all_items) (t_of (in_bullets b c) Beside all_items)) ls
    list_takes b i k c ls is plain (row, later) tail =
        let ci : Outside = in_bullets b c in
        subst (λ (xs : List Line). Begins (line_at i (first_of b c) ∷ (lines_at k (below_first b c) ++ xs)) (suc (length (below_first b c))) (read.BulletList b (is_tight o ci all_items) (t_of ci Beside all_items)) xs) (sym tail.is)
        (subst (λ x. Begins (line_at i (first_of b c) ∷ (lines_at k (below_first b c) ++ (empties tail.es ++ tail.rest))) (suc (length (below_first b c))) x (empties tail.es ++ tail.rest)) (list_shown b c plain)
        (list_begins b (first_row ci) (later_rows ci) i k tail.es tail.rest (bullet_inked b is) row (rows_more o flags b ci (feeds_below_item o kids) items later) tail.apart tail.alone))

    list_blocks : (c : Outside) (how : How) (j k : ℕ) (es : List ℕ) → ArePlainIn true all_items → ArePlainIn false f → HasSafeRules o c how (BulletsThen all_items f) → AreShort (2 ^ 64) (ls_of c how (BulletsThen all_items f))
        → Finds (lines_from j k (ls_of c how (BulletsThen all_items f)) ++ empties es) (lead c how (BulletsThen all_items f)) (length (ls_of c how (BulletsThen all_items f))) (t_of c how (BulletsThen all_items f)) (has_gap o c how (BulletsThen all_items f))
    list_blocks c how j k es plain more safe short =
        let b : ℕ = bullet_for o c how in
        let is : IsBullet b = bullet_is o c how token in
        let g : List (List ℕ) = list_gap c how in
        let body : List (List ℕ) = item_lines (in_bullets b c) in
        let rest : List (List ℕ) = after_list c b in
        let after : How = Below (feeds_below_list o c.listed all_items) (Some b) in
        let body_short : AreShort (2 ^ 64) body = all_behind _ g body (all_front _ (g ++ body) rest short) in
        let rest_short : AreShort (2 ^ 64) rest = all_behind _ (g ++ body) rest short in
        let tail : Tail b (lines_at k rest ++ empties es) = again.tail c (feeds_below_list o c.listed all_items) b k es more (safe.1) rest_short in
        subst (λ (ls : List (List ℕ)). Finds (lines_from j k ((g ++ ls) ++ rest) ++ empties es) (length g) (length ((g ++ ls) ++ rest)) (t_of c how (BulletsThen all_items f)) (has_gap o c how (BulletsThen all_items f))) (sym (items_are b c is plain))
        (laid_block j k g (first_of b c) (below_first b c) rest (empties es) (read.BulletList b (is_tight o (in_bullets b c) all_items) (t_of (in_bullets b c) Beside all_items)) (lead c after f) (t_of c after f) (has_gap o c after f) (list_empty c how)
        (λ i. list_takes b i k c (lines_at k rest ++ empties es) is plain (rows_fit b c is plain (safe.0) body_short) tail)
        (again.blocks c after k k es more (safe.1) rest_short))

    list_tail : (c : Outside) (n bullet k : ℕ) (es : List ℕ) → ArePlainIn true all_items → HasSafeRules o c (Below n (Some bullet)) (BulletsThen all_items f) → AreShort (2 ^ 64) (ls_of c (Below n (Some bullet)) (BulletsThen all_items f))
        → Tail bullet (lines_at k (ls_of c (Below n (Some bullet)) (BulletsThen all_items f)) ++ empties es)
    list_tail c n bullet k es plain safe short =
        let how : How = Below n (Some bullet) in
        let b : ℕ = bullet_for o c how in
        let is : IsBullet b = bullet_is o c how token in
        let g : List (List ℕ) = list_gap c how in
        let body : List (List ℕ) = item_lines (in_bullets b c) in
        let rest : List (List ℕ) = after_list c b in
        let body_short : AreShort (2 ^ 64) body = all_behind _ g body (all_front _ (g ++ body) rest short) in
        let row : IsRow b (first_row (in_bullets b c)) = (rows_fit b c is plain (safe.0) body_short).0 in
        subst (λ (ls : List (List ℕ)). Tail bullet (lines_at k ((g ++ ls) ++ rest) ++ empties es)) (sym (items_are b c is plain))
        (tail_line bullet k g (first_of b c) (below_first b c) rest (empties es) (list_empty c how)
        (λ i es long. marks_apart b i (first_row (in_bullets b c)) es [] (bullet_inked b is) row)
        (λ i ls. ap (same_sort bullet ls) (row.begins i) ∙ ap (λ t. if t then Some (mark b i (first_line (ls_of (in_bullets b c) Marked kids)) row.blank, ls) else None) (other_is bullet o.list_token token)))

    list_starts : (bullet : ℕ) (c : Outside) → ArePlainIn true all_items → HasSafeRules o (in_bullets bullet c) Marked (BulletsThen all_items f) → AreShort (2 ^ 64) (ls_of (in_bullets bullet c) Marked (BulletsThen all_items f))
        → Started bullet (ls_of (in_bullets bullet c) Marked (BulletsThen all_items f))
    list_starts bullet c plain safe short =
        let ci : Outside = in_bullets bullet c in
        let b : ℕ = bullet_for o ci Marked in
        let is : IsBullet b = bullet_is o ci Marked token in
        let body : List (List ℕ) = item_lines (in_bullets b ci) in
        let rest : List (List ℕ) = after_list ci b in
        let body_short : AreShort (2 ^ 64) body = all_front _ body rest short in
        let row : IsRow b (first_row (in_bullets b ci)) = (rows_fit b ci is plain (safe.0) body_short).0 in
        let i : Inky (first_of b ci) = inky b (32 ∷ first_line (ls_of (in_bullets b ci) Marked kids)) (bullet_inked b is) in
        subst (λ (ls : List (List ℕ)). Started bullet (ls ++ rest)) (sym (items_are b ci is plain))
        (record {
          front = i.front;
          filled = inky_filled (first_of b ci) i;
          within = (bullet_within b is, (space_within, row.within));
          rule = inr (inr (record { before = []; byte = b; after = 32 ∷ first_line (ls_of (in_bullets b ci) Marked kids); is = refl; other = other_is bullet o.list_token token; space = bullet_no_space b is }));
        })

    list_inner : (c : Outside) → c.listed ≡ true → AllByRecursion IsWithin (first_line (ls_of c Beside (BulletsThen all_items f)))
    list_inner c listed =
        let b : ℕ = bullet_for o c Beside in
        subst (λ t. AllByRecursion IsWithin (first_line (((if t then [] ∷ [] else []) ++ item_lines (in_bullets b c)) ++ after_list c b))) (sym listed) tt

    list_case : Proved (BulletsThen all_items f)
    list_case = record {
      blocks = λ c how j k es plain safe short. list_blocks c how j k es (plain.2) (plain.3) safe short;
      items = λ b c how is plain safe short. absurd plain;
      tail = λ c n b k es plain safe short. list_tail c n b k es (plain.2) safe short;
      starts = λ b c is plain safe short. list_starts b c (plain.2) safe short;
      inner = λ c listed plain short. list_inner c listed;
    }

  -- a list has an item
  no_list : (items f : Blocks) → begins_item items ≡ false → Proved (BulletsThen items f)
  no_list items f none = record {
    blocks = λ c how j k es plain safe short. absurd (true≢false (sym (plain.0) ∙ none));
    items = λ b c how is plain safe short. absurd plain;
    tail = λ c n b k es plain safe short. absurd (true≢false (sym (plain.0) ∙ none));
    starts = λ b c is plain safe short. absurd (true≢false (sym (plain.0) ∙ none));
    inner = λ c listed plain short. absurd (true≢false (sym (plain.0) ∙ none));
  }

  pub all_proved : (f : Blocks) → Proved f
  all_proved Nothing = nothing_case
  all_proved (PlainThen b f) = plain_case b f (all_proved f)
  all_proved (QuoteThen kids f) = quote_case kids f (all_proved kids) (all_proved f)
  all_proved (BulletsThen (ItemThen kids items) f) = list_case kids items f (all_proved (ItemThen kids items)) (all_proved f)
  all_proved (BulletsThen Nothing f) = no_list Nothing f refl
  all_proved (BulletsThen (PlainThen b g) f) = no_list (PlainThen b g) f refl
  all_proved (BulletsThen (QuoteThen kids g) f) = no_list (QuoteThen kids g) f refl
  all_proved (BulletsThen (BulletsThen items g) f) = no_list (BulletsThen items g) f refl
  all_proved (ItemThen kids f) = item_case kids f (all_proved kids) (all_proved f)

-- The bytes of the lines of trees with lists: none ends a line, and the last line has one.
use Rattle.std.proofs.Common.{◌≡◌, inl, inr, ℕ, ◌-◌, ◌^◌, ◌<◌, true, false, List, [], ◌∷◌, ◌++◌, length, map, refl, sym, subst, arith, append-nil, true≢false}
use Rattle.std.specs.Prelude.{Some, None}
use Rattle.tocmark_event.specs.Options.{OptionsView}
use Rattle.tocmark_event.specs.declared.event.flags.ParserOptions.{ParserOptions}
use Rattle.tocmark_laws.specs.Documents.{PlainBlock, IsPlainBlock}
use Rattle.tocmark_document_laws.specs.Blocks.{Blocks, Nothing, PlainThen, QuoteThen, BulletsThen, ItemThen, ArePlainIn, begins_item}
use Rattle.tocmark_document_laws.specs.DocumentLines.{How, Outside, Beside, Marked, Below, bullet_for, feeds_below, feeds_below_item, feeds_below_list, feeds_below_quote, gap_lines, hanging, in_bullets, item_gap, lines_of, list_gap, marker, plain_gap, plain_lines, quoted, quoted_beside}
use Rattle.tocmark_layout_laws.specs.Declared.{declared_block}
use Rattle.tocmark_layout_laws.proofs.Texts.{IsBare, AreBare, LinesBare, Ends, ends_behind, AreShort, all_both, all_front, all_behind}
use Rattle.tocmark_layout_laws.proofs.Items.{indented, hung}
use Rattle.tocmark_layout_laws.proofs.Bullets.{IsBullet}
use Rattle.tocmark_layout_laws.proofs.Gaps.{AreEmpty}
use Rattle.tocmark_layout_laws.proofs.LaidBlocks.{gap_bare, quoted_bare, quoted_ends, quoted_short}
use Rattle.tocmark_layout_laws.proofs.LaidLists.{LaidLeaf, plain_empty, list_empty, hung_is, bullet_is, gap_count, item_gap_is}
use Rattle.tocmark_layout_laws.proofs.ListedBlocks.{hung_short, beside_short}

empty_bare : (g : List (List ℕ)) → AreEmpty g → LinesBare g
empty_bare g h = subst LinesBare (sym h) (gap_bare (length g))

item_gap_bare : (how : How) → LinesBare (item_gap how)
item_gap_bare how = subst LinesBare (sym (item_gap_is how)) (gap_bare (gap_count how))

bullet_bare : (b : ℕ) → IsBullet b → IsBare b
bullet_bare b (inl e) = subst IsBare (sym e) (record { feed = refl; return = refl; zero_byte = refl })
bullet_bare b (inr (inl e)) = subst IsBare (sym e) (record { feed = refl; return = refl; zero_byte = refl })
bullet_bare b (inr (inr e)) = subst IsBare (sym e) (record { feed = refl; return = refl; zero_byte = refl })

space_bare : IsBare 32
space_bare = record { feed = refl; return = refl; zero_byte = refl }

indented_bare : (ls : List (List ℕ)) → LinesBare ls → LinesBare (map indented ls)
indented_bare [] h = tt
indented_bare (l ∷ ls) h = ((space_bare, (space_bare, h.0)), indented_bare ls (h.1))

hung_bare : (b : ℕ) (ls : List (List ℕ)) → IsBullet b → LinesBare ls → LinesBare (hung b ls)
hung_bare b [] is h = ((bullet_bare b is, (space_bare, tt)), tt)
hung_bare b (l ∷ ls) is h = ((bullet_bare b is, (space_bare, h.0)), indented_bare ls (h.1))

greater_bare : IsBare 62
greater_bare = record { feed = refl; return = refl; zero_byte = refl }

beside_bare : (ls : List (List ℕ)) → LinesBare ls → LinesBare (quoted_beside ls)
beside_bare [] h = ((greater_bare, (space_bare, tt)), tt)
beside_bare (l ∷ ls) h = ((greater_bare, (space_bare, h.0)), quoted_bare ls (h.1))

beside_ends : (ls : List (List ℕ)) → Ends (quoted_beside ls)
beside_ends [] = omega arith
beside_ends (l ∷ []) = omega arith
beside_ends (l ∷ m ∷ ms) = quoted_ends m ms

hung_ends : (b : ℕ) (ls : List (List ℕ)) → Ends (hung b ls)
hung_ends b [] = omega arith
hung_ends b (l ∷ ls) = below (b ∷ 32 ∷ l) ls (omega arith)
  where
    below : (x : List ℕ) (ls : List (List ℕ)) → 0 < length x → Ends (x ∷ map indented ls)
    below x [] h = h
    below x (l ∷ ls) h = below (indented l) ls (omega arith)

-- the last line of blocks has a byte, if there is one
abbrev pub EndsIf : Blocks → List (List ℕ) → Type 0
EndsIf Nothing ls = Unit {0}
EndsIf (PlainThen b f) ls = Ends ls
EndsIf (QuoteThen kids f) ls = Ends ls
EndsIf (BulletsThen items f) ls = Ends ls
EndsIf (ItemThen kids f) ls = Ends ls

module _ (o : OptionsView) (flags : ParserOptions) (token : IsBullet o.list_token)
    (laid : (c : Outside) (how : How) (b : PlainBlock) → IsPlainBlock b → AreShort (2 ^ 64) (plain_lines o flags c how b) → LaidLeaf b (declared_block o flags b) (plain_lines o flags c how b)) where
  abbrev lines : Outside → How → Blocks → List (List ℕ)
  lines c how f = lines_of o flags c how f

  -- blocks without items, and items of a list with a bullet
  pub record Bytes (f : Blocks) : Type 0 where
    pub blocks_bare : (c : Outside) (how : How) → ArePlainIn false f → AreShort (2 ^ 64) (lines c how f) → LinesBare (lines c how f)
    pub blocks_end : (c : Outside) (how : How) → ArePlainIn false f → AreShort (2 ^ 64) (lines c how f) → EndsIf f (lines c how f)
    pub items_bare : (b : ℕ) (c : Outside) (how : How) → IsBullet b → ArePlainIn true f → AreShort (2 ^ 64) (lines (in_bullets b c) how f) → LinesBare (lines (in_bullets b c) how f)
    pub items_end : (b : ℕ) (c : Outside) (how : How) → IsBullet b → ArePlainIn true f → EndsIf f (lines (in_bullets b c) how f)

  ends_on : (f : Blocks) (c : Outside) (how : How) (xs : List (List ℕ)) → Ends xs → EndsIf f (lines c how f) → Ends (xs ++ lines c how f)
  ends_on Nothing c how xs e h = subst Ends (sym (append-nil xs)) e
  ends_on (PlainThen b f) c how xs e h = ends_behind xs (lines c how (PlainThen b f)) h
  ends_on (QuoteThen kids f) c how xs e h = ends_behind xs (lines c how (QuoteThen kids f)) h
  ends_on (BulletsThen items f) c how xs e h = ends_behind xs (lines c how (BulletsThen items f)) h
  ends_on (ItemThen kids f) c how xs e h = ends_behind xs (lines c how (ItemThen kids f)) h

  nothing_bytes : Bytes Nothing
  nothing_bytes = record { blocks_bare = λ c how plain short. tt; blocks_end = λ c how plain short. tt; items_bare = λ b c how is plain short. tt; items_end = λ b c how is plain. tt }

  plain_bytes : (b : PlainBlock) (f : Blocks) → Bytes f → Bytes (PlainThen b f)
  plain_bytes b f again = record {
    blocks_bare = λ c how plain short.
        let s = leaf c how (plain.0) short in
        all_both AreBare (plain_gap how b ++ plain_lines o flags c how b) (rest c)
        (all_both AreBare (plain_gap how b) (plain_lines o flags c how b) (empty_bare (plain_gap how b) (plain_empty how b)) (subst LinesBare (sym s.is) s.bare))
        (again.blocks_bare c (Below (feeds_below o b) None) (plain.1) (all_behind _ (plain_gap how b ++ plain_lines o flags c how b) (rest c) short));
    blocks_end = λ c how plain short.
        let s = leaf c how (plain.0) short in
        ends_on f c (Below (feeds_below o b) None) (plain_gap how b ++ plain_lines o flags c how b) (ends_behind (plain_gap how b) (plain_lines o flags c how b) (subst Ends (sym s.is) s.ends))
        (again.blocks_end c (Below (feeds_below o b) None) (plain.1) (all_behind _ (plain_gap how b ++ plain_lines o flags c how b) (rest c) short));
    items_bare = λ bullet c how is plain short. absurd plain;
    items_end = λ bullet c how is plain. absurd plain;
  }
    where
      rest : Outside → List (List ℕ)
      rest c = lines c (Below (feeds_below o b) None) f

      leaf : (c : Outside) (how : How) → IsPlainBlock b → AreShort (2 ^ 64) (lines c how (PlainThen b f)) → LaidLeaf b (declared_block o flags b) (plain_lines o flags c how b)
      leaf c how plain short = laid c how b plain (all_behind _ (plain_gap how b) (plain_lines o flags c how b) (all_front _ (plain_gap how b ++ plain_lines o flags c how b) (rest c) short))

  quote_bytes : (kids f : Blocks) → Bytes kids → Bytes f → Bytes (QuoteThen kids f)
  quote_bytes kids f inside again = record {
    blocks_bare = λ c how plain short. bare c how plain short;
    blocks_end = λ c how plain short. end c how plain short;
    items_bare = λ b c how is plain short. absurd plain;
    items_end = λ b c how is plain. absurd plain;
  }
    where
      rest : Outside → List (List ℕ)
      rest c = lines c (Below (feeds_below_quote o) None) f

      body : Outside → List (List ℕ)
      body c = map quoted ([] ∷ lines c (Below 1 None) kids)

      below_bare : (c : Outside) (g : List (List ℕ)) → LinesBare g → ArePlainIn false kids × ArePlainIn false f → AreShort (2 ^ 64) ((g ++ body c) ++ rest c) → LinesBare ((g ++ body c) ++ rest c)
      below_bare c g h plain short =
          let inner : AreShort (2 ^ 64) (lines c (Below 1 None) kids) = quoted_short (2 ^ 64) (lines c (Below 1 None) kids) ((all_behind _ g (body c) (all_front _ (g ++ body c) (rest c) short)).1) in
          all_both AreBare (g ++ body c) (rest c)
          (all_both AreBare g (body c) h (quoted_bare ([] ∷ lines c (Below 1 None) kids) (tt, inside.blocks_bare c (Below 1 None) (plain.0) inner)))
          (again.blocks_bare c (Below (feeds_below_quote o) None) (plain.1) (all_behind _ (g ++ body c) (rest c) short))

      bare : (c : Outside) (how : How) → ArePlainIn false kids × ArePlainIn false f → AreShort (2 ^ 64) (lines c how (QuoteThen kids f)) → LinesBare (lines c how (QuoteThen kids f))
      bare c Beside plain short = below_bare c ([] ∷ []) (tt, tt) plain short
      bare c (Below n bullet) plain short = below_bare c (gap_lines n) (gap_bare (n - 1)) plain short
      bare c Marked plain short =
          let within : List (List ℕ) = lines c Beside kids in
          all_both AreBare (quoted_beside within) (rest c)
          (beside_bare within (inside.blocks_bare c Beside (plain.0) (beside_short (2 ^ 64) within (all_front _ (quoted_beside within) (rest c) short))))
          (again.blocks_bare c (Below (feeds_below_quote o) None) (plain.1) (all_behind _ (quoted_beside within) (rest c) short))

      rest_end : (c : Outside) (xs : List (List ℕ)) → ArePlainIn false f → AreShort (2 ^ 64) (xs ++ rest c) → Ends xs → Ends (xs ++ rest c)
      rest_end c xs plain short e = ends_on f c (Below (feeds_below_quote o) None) xs e (again.blocks_end c (Below (feeds_below_quote o) None) plain (all_behind _ xs (rest c) short))

      end : (c : Outside) (how : How) → ArePlainIn false kids × ArePlainIn false f → AreShort (2 ^ 64) (lines c how (QuoteThen kids f)) → Ends (lines c how (QuoteThen kids f))
      end c Beside plain short = rest_end c (([] ∷ []) ++ body c) (plain.1) short (ends_behind ([] ∷ []) (body c) (quoted_ends [] (lines c (Below 1 None) kids)))
      end c (Below n bullet) plain short = rest_end c (gap_lines n ++ body c) (plain.1) short (ends_behind (gap_lines n) (body c) (quoted_ends [] (lines c (Below 1 None) kids)))
      end c Marked plain short = rest_end c (quoted_beside (lines c Beside kids)) (plain.1) short (beside_ends (lines c Beside kids))

  item_bytes : (kids f : Blocks) → Bytes kids → Bytes f → Bytes (ItemThen kids f)
  item_bytes kids f inside again = record {
    blocks_bare = λ c how plain short. absurd plain;
    blocks_end = λ c how plain short. absurd plain;
    items_bare = λ b c how is plain short.
        let ci : Outside = in_bullets b c in
        let ls : List (List ℕ) = lines ci Marked kids in
        let body : List (List ℕ) = hanging (marker b) ls in
        let rest : List (List ℕ) = lines ci (Below (feeds_below_item o kids) None) f in
        let inner : AreShort (2 ^ 64) ls = hung_short b (2 ^ 64) ls (subst (AreShort (2 ^ 64)) (hung_is b ls is) (all_behind _ (item_gap how) body (all_front _ (item_gap how ++ body) rest short))) in
        all_both AreBare (item_gap how ++ body) rest
        (all_both AreBare (item_gap how) body (item_gap_bare how) (subst LinesBare (sym (hung_is b ls is)) (hung_bare b ls is (inside.blocks_bare ci Marked (plain.0) inner))))
        (again.items_bare b c (Below (feeds_below_item o kids) None) is (plain.1) (all_behind _ (item_gap how ++ body) rest short));
    items_end = λ b c how is plain.
        let ci : Outside = in_bullets b c in
        let ls : List (List ℕ) = lines ci Marked kids in
        let body : List (List ℕ) = hanging (marker b) ls in
        ends_on f ci (Below (feeds_below_item o kids) None) (item_gap how ++ body) (ends_behind (item_gap how) body (subst Ends (sym (hung_is b ls is)) (hung_ends b ls))) (again.items_end b c (Below (feeds_below_item o kids) None) is (plain.1));
  }

  -- a list whose items end with a byte
  list_bytes : (items f : Blocks) → ((ls : List (List ℕ)) → begins_item items ≡ true → EndsIf items ls → Ends ls) → Bytes items → Bytes f → Bytes (BulletsThen items f)
  list_bytes items f ends inside again = record {
    blocks_bare = λ c how plain short.
        let b : ℕ = bullet_for o c how in
        let g : List (List ℕ) = list_gap c how in
        let body : List (List ℕ) = lines (in_bullets b c) Beside items in
        let rest : List (List ℕ) = lines c (Below (feeds_below_list o c.listed items) (Some b)) f in
        all_both AreBare (g ++ body) rest
        (all_both AreBare g body (empty_bare g (list_empty c how)) (inside.items_bare b c Beside (bullet_is o c how token) (plain.2) (all_behind _ g body (all_front _ (g ++ body) rest short))))
        (again.blocks_bare c (Below (feeds_below_list o c.listed items) (Some b)) (plain.3) (all_behind _ (g ++ body) rest short));
    blocks_end = λ c how plain short.
        let b : ℕ = bullet_for o c how in
        let g : List (List ℕ) = list_gap c how in
        let body : List (List ℕ) = lines (in_bullets b c) Beside items in
        let rest : List (List ℕ) = lines c (Below (feeds_below_list o c.listed items) (Some b)) f in
        ends_on f c (Below (feeds_below_list o c.listed items) (Some b)) (g ++ body) (ends_behind g body (ends body (plain.0) (inside.items_end b c Beside (bullet_is o c how token) (plain.2))))
        (again.blocks_end c (Below (feeds_below_list o c.listed items) (Some b)) (plain.3) (all_behind _ (g ++ body) rest short));
    items_bare = λ b c how is plain short. absurd plain;
    items_end = λ b c how is plain. absurd plain;
  }

  items_do_end : (items : Blocks) (ls : List (List ℕ)) → begins_item items ≡ true → EndsIf items ls → Ends ls
  items_do_end Nothing ls h e = absurd (true≢false (sym h))
  items_do_end (PlainThen b f) ls h e = e
  items_do_end (QuoteThen kids f) ls h e = e
  items_do_end (BulletsThen items f) ls h e = e
  items_do_end (ItemThen kids f) ls h e = e

  pub all_bytes : (f : Blocks) → Bytes f
  all_bytes Nothing = nothing_bytes
  all_bytes (PlainThen b f) = plain_bytes b f (all_bytes f)
  all_bytes (QuoteThen kids f) = quote_bytes kids f (all_bytes kids) (all_bytes f)
  all_bytes (BulletsThen items f) = list_bytes items f (items_do_end items) (all_bytes items) (all_bytes f)
  all_bytes (ItemThen kids f) = item_bytes kids f (all_bytes kids) (all_bytes f)

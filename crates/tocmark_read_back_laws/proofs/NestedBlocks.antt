-- What is read of the lines of blocks with lists, by recursion on them.
use Rattle.std.proofs.Common.{◌≡◌, ◌⊎◌, inl, inr, ℕ, zero, suc, ◌-◌, ◌^◌, ◌<◌, ◌≤◌, max, Bool, true, false, not, ◌==◌, ◌||◌, if◌then◌else◌, List, [], ◌∷◌, ◌++◌, length, map, replicate, codes, refl, ap, sym, subst, ◌∙◌, arith, append_assoc, append-nil, length-append, true≢false, None, Some}
use Rattle.std.specs.Prelude.{Option, unwrap_or}
use Rattle.std.proofs.lemmas.Bool.Decides.{nat_tests}
use Rattle.tocmark_read_blocks.proofs.PlainLines.{IsWithin}
use Rattle.tocmark_event.specs.Options.{OptionsView}
use Rattle.tocmark_event.specs.declared.event.flags.ParserOptions.{ParserOptions}
use Rattle.tocmark_text_laws.specs.Quoted.{Quote, ListFrom, Item, Tree, Trees, Node, none, more}
use Rattle.tocmark_text_laws.specs.Sequence.{IsClosed, IsQuiet}
use Rattle.tocmark_text_laws.specs.Items.{Bullet, IsListMark, begins_with_ink, first_line as first_of_text, is_break, item_text}
use Rattle.tocmark_text_laws.specs.Loose.{begins_blank}
use Rattle.tocmark_text_laws.specs.NearMargin.{begins_near_margin}
use Rattle.tocmark_text_laws.specs.ListEnds.{begins_at_margin, first_mark, goes_into}
use Rattle.tocmark_laws.specs.Documents.{PlainBlock, PlainParagraph, PlainHeading, PlainRule, PlainCode, IsPlainBlock}
use Rattle.tocmark_document_laws.specs.Blocks.{Blocks, Nothing, PlainThen, QuoteThen, BulletsThen, ItemThen, ArePlainIn, begins_item}
use Rattle.tocmark_document_laws.specs.DocumentLines.{Line, How, Beside, Marked, Below, Outside, bullet_for, feeds_below, feeds_below_item, feeds_below_list, feeds_below_quote, gap_lines, gap_of, hanging, in_bullets, item_gap, lines_of, list_gap, marker, new_line, paragraph_gap, plain_gap, plain_lines, quote_lines, quoted, quoted_beside}
use Rattle.tocmark_document_laws.specs.ReadBack.{feed_if, sort_read, block_read, fed_before, IsTabless, BlocksTabless, HasTrees}
use Rattle.tocmark_document_laws.proofs.ReadBackTexts.{fed, ended, ended_fed, ended_after, fed_empty, fed_front, AreWithin, LinesWithin, EndsWell, tabless}
use Rattle.tocmark_layout_laws.specs.Declared.{is_gap, has_gap, is_tight, HasSafeRules}
use Rattle.tocmark_layout_laws.proofs.Bullets.{IsBullet}
use Rattle.tocmark_layout_laws.proofs.Gaps.{gap, AreEmpty, gap_empty}
use Rattle.tocmark_layout_laws.proofs.Items.{hung, first_line, indented as hanged}
use Rattle.tocmark_layout_laws.proofs.LaidLists.{plain_empty, list_empty, other_is, bullet_is, hung_is, gap_count, item_gap_is, plain_marked, same_safe}
use Rattle.tocmark_read_back_laws.specs.Nested.{AreBelow, AreSpaced}
use Rattle.tocmark_read_back_laws.proofs.NestedMarks.{mark_in}
use Rattle.tocmark_read_back_laws.proofs.NestedTexts.{Bound, Laws, EndsIf, Good, row_good, feeds, Ending, closes, quiets, lists, front, front_good, between, item_mark, filled, Fits, Apart, alone, two, IsParted, Listed, one_item, more_items}
use Rattle.tocmark_read_back_laws.proofs.NestedLines.{Inked, text_first, text_margin, text_near, text_ink, text_inky, quote_inky, quote_near, quoted_longer, hung_longer, beside_longer, item_is, Q, below_has, below_quiet, beside_has, beside_quiet}

-- the trees that blocks are read as, with a line feed at their end or not
abbrev pub trees_in : OptionsView → ParserOptions → Outside → How → Bool → Blocks → Trees
trees_in o flags c how e Nothing = none
trees_in o flags c how e (PlainThen b f) = more (Node (sort_read b) false (block_read o flags (fed_before e f) b) none) (trees_in o flags c (Below (feeds_below o b) None) e f)
trees_in o flags c how e (QuoteThen kids f) = more (Node Quote false [] (trees_in o flags c Beside (fed_before e f) kids)) (trees_in o flags c (Below (feeds_below_quote o) None) e f)
trees_in o flags c how e (BulletsThen items f) =
    more (Node (ListFrom None) (not (is_tight o (in_bullets (bullet_for o c how) c) items)) [] (trees_in o flags (in_bullets (bullet_for o c how) c) Beside (fed_before e f) items))
    (trees_in o flags c (Below (feeds_below_list o c.listed items) (Some (bullet_for o c how))) e f)
trees_in o flags c how e (ItemThen kids f) = more (Node Item false [] (trees_in o flags c Marked (fed_before e f) kids)) (trees_in o flags c (Below (feeds_below_item o kids) None) e f)

-- there is a line
pub record Cons (ls : List Line) : Type 0 where
  pub first : Line
  pub more : List Line
  pub is : ls ≡ first ∷ more

cons_on : (ls rest : List Line) → Cons ls → Cons (ls ++ rest)
cons_on ls rest c = record { first = c.first; more = c.more ++ rest; is = ap (λ (xs : List Line). xs ++ rest) c.is }

-- lines as texts

fed_both : (xs ys : List Line) → fed (xs ++ ys) ≡ fed xs ++ fed ys
fed_both [] ys = refl
fed_both (x ∷ xs) ys = ap (λ (t : List ℕ). x ++ 10 ∷ t) (fed_both xs ys) ∙ sym (append_assoc x (10 ∷ fed xs) (fed ys))

gap_long : (n : ℕ) → length (gap n) ≡ n
gap_long zero = refl
gap_long (suc n) = ap suc (gap_long n)

-- lines, empty lines, and other lines
gapped_text : (e : Bool) (body g rest : List Line) → AreEmpty g → Cons rest → ended e (body ++ (g ++ rest)) ≡ ended true body ++ (feeds (length g) ++ ended e rest)
gapped_text e body g rest empty c =
    ap (ended e) (sym (append_assoc body g rest))
    ∙ ap (λ (ls : List Line). ended e ((body ++ g) ++ ls)) c.is
    ∙ ended_after e (body ++ g) c.first c.more
    ∙ ap (λ (t : List ℕ). t ++ ended e (c.first ∷ c.more)) (fed_both body g ∙ ap (λ (t : List ℕ). t ++ fed g) (sym (ended_fed body)) ∙ ap (λ (ls : List Line). ended true body ++ fed ls) empty ∙ ap (λ (t : List ℕ). ended true body ++ t) (fed_empty (length g)))
    ∙ append_assoc (ended true body) (feeds (length g)) (ended e (c.first ∷ c.more))
    ∙ ap (λ (ls : List Line). ended true body ++ (feeds (length g) ++ ended e ls)) (sym c.is)

-- the same with nothing in front
front_text : (e : Bool) (g rest : List Line) → AreEmpty g → Cons rest → ended e (g ++ rest) ≡ feeds (length g) ++ ended e rest
front_text e g rest empty c = gapped_text e [] g rest empty c

apart_from : (d b : ℕ) → (d == b) ≡ false → (b == d) ≡ false
apart_from d b e = grind (arith, e, nat_tests)

-- blocks are there
abbrev pub IsSome : Blocks → Type 0
IsSome Nothing = ⊥
IsSome (PlainThen b f) = Unit {0}
IsSome (QuoteThen kids f) = Unit {0}
IsSome (BulletsThen items f) = Unit {0}
IsSome (ItemThen kids f) = Unit {0}

-- the first byte of the first line is no space
abbrev pub InkedFirst : List Line → Type 0
InkedFirst [] = ⊥
InkedFirst (l ∷ ls) = Inked l

module _ (o : OptionsView) (flags : ParserOptions) (laws : Laws) (token : IsBullet o.list_token) where
  abbrev pub lines : Outside → How → Blocks → List Line
  lines c how f = lines_of o flags c how f

  abbrev pub trees : Outside → How → Bool → Blocks → Trees
  trees c how e f = trees_in o flags c how e f

  -- how a plain block is read by itself
  pub record Stand (b : PlainBlock) (ls : List Line) : Type 0 where
    pub some : Cons ls
    pub inked : Inked some.first
    pub within : AreWithin some.first
    pub marks : length some.first < 2 ^ 64 → mark_in some.first ≡ None
    pub reads : (e : Bool) → Bound (ended e ls) → HasTrees (ended e ls) (more (Node (sort_read b) false (block_read o flags e b) none) none)
    pub quiet : Bound (ended true ls) → IsQuiet (ended true ls)
    pub closed : Bound (ended true ls) → IsClosed (ended true ls) ⊎ (2 ≤ feeds_below o b)

  -- the first line of an item
  pub record Starts (b : ℕ) (x : Line) : Type 0 where
    pub break : is_break (b ∷ 32 ∷ x) ≡ false
    pub marks : mark_in (b ∷ 32 ∷ x) ≡ Some b

  -- what is known of lines and of plain blocks
  pub record Leaves : Type 0 where
    pub leaf : (c : Outside) (how : How) (b : PlainBlock) → IsPlainBlock b → IsTabless b → Stand b (plain_lines o flags c how b)
    pub within : (c : Outside) (how : How) (f : Blocks) → ArePlainIn false f → BlocksTabless f → Bound (ended false (lines c how f)) → LinesWithin (lines c how f)
    pub well : (c : Outside) (how : How) (f : Blocks) → ArePlainIn false f → Bound (ended false (lines c how f)) → EndsWell false (lines c how f)
    pub starts : (b : ℕ) (c : Outside) (kids : Blocks) → IsBullet b → ArePlainIn false kids → BlocksTabless kids → HasSafeRules o (in_bullets b c) Marked kids → Bound (ended false (hung b (lines (in_bullets b c) Marked kids)))
        → Starts b (first_line (lines (in_bullets b c) Marked kids))
    pub empty_item : (b : ℕ) (e : Bool) → IsBullet b → Listed b e (ended e (hung b [])) false (more (Node Item false [] none) none)
    pub empty_quote : (e : Bool) → HasTrees (ended e (quoted [] ∷ [])) (Q laws none)
    pub quote_marks : mark_in (quoted []) ≡ None
    pub empty_quote_quiet : IsQuiet (ended true (quoted [] ∷ []))
    pub empty_beside : (e : Bool) → HasTrees (ended e (codes "> " ∷ [])) (Q laws none)
    pub empty_beside_quiet : IsQuiet (ended true (codes "> " ∷ []))

  module _ (known : Leaves) where
    -- gaps and what is below them

    abbrev quote_gap : How → List Line
    quote_gap Beside = [] ∷ []
    quote_gap Marked = []
    quote_gap (Below n bullet) = gap_lines n

    abbrev quote_body : How → List Line → List Line → List Line
    quote_body Beside beside below = map quoted ([] ∷ below)
    quote_body Marked beside below = quoted_beside beside
    quote_body (Below n bullet) beside below = map quoted ([] ∷ below)

    abbrev pub space : Outside → How → Blocks → List Line
    space c how Nothing = []
    space c how (PlainThen b f) = plain_gap how b
    space c how (QuoteThen kids f) = quote_gap how
    space c how (BulletsThen items f) = list_gap c how
    space c how (ItemThen kids f) = item_gap how

    -- where the blocks after the first one begin
    abbrev pub next : Outside → How → Blocks → How
    next c how Nothing = how
    next c how (PlainThen b f) = Below (feeds_below o b) None
    next c how (QuoteThen kids f) = Below (feeds_below_quote o) None
    next c how (BulletsThen items f) = Below (feeds_below_list o c.listed items) (Some (bullet_for o c how))
    next c how (ItemThen kids f) = Below (feeds_below_item o kids) None

    -- the lines of the first block
    abbrev pub body : Outside → How → Blocks → List Line
    body c how Nothing = []
    body c how (PlainThen b f) = plain_lines o flags c how b
    body c how (QuoteThen kids f) = quote_body how (lines c Beside kids) (lines c (Below 1 None) kids)
    body c how (BulletsThen items f) = lines (in_bullets (bullet_for o c how) c) Beside items
    body c how (ItemThen kids f) = hanging (marker (unwrap_or c.bullet 0)) (lines c Marked kids)

    abbrev pub rest : Blocks → Blocks
    rest Nothing = Nothing
    rest (PlainThen b f) = f
    rest (QuoteThen kids f) = f
    rest (BulletsThen items f) = f
    rest (ItemThen kids f) = f

    -- the lines of blocks without those before the first one
    abbrev pub flush : Outside → How → Blocks → List Line
    flush c how f = body c how f ++ lines c (next c how f) (rest f)

    quote_parts : (how : How) (beside below after : List Line) → quote_lines how beside below ++ after ≡ quote_gap how ++ (quote_body how beside below ++ after)
    quote_parts Beside beside below after = refl
    quote_parts Marked beside below after = refl
    quote_parts (Below n bullet) beside below after = append_assoc (gap_lines n) (map quoted ([] ∷ below)) after

    pub split : (c : Outside) (how : How) (f : Blocks) → IsSome f → lines c how f ≡ space c how f ++ flush c how f
    split c how Nothing s = absurd s
    split c how (PlainThen b f) s = append_assoc (plain_gap how b) (plain_lines o flags c how b) (lines c (Below (feeds_below o b) None) f)
    split c how (QuoteThen kids f) s = quote_parts how (lines c Beside kids) (lines c (Below 1 None) kids) (lines c (Below (feeds_below_quote o) None) f)
    split c how (BulletsThen items f) s =
        append_assoc (list_gap c how) (lines (in_bullets (bullet_for o c how) c) Beside items) (lines c (Below (feeds_below_list o c.listed items) (Some (bullet_for o c how))) f)
    split c how (ItemThen kids f) s = append_assoc (item_gap how) (hanging (marker (unwrap_or c.bullet 0)) (lines c Marked kids)) (lines c (Below (feeds_below_item o kids) None) f)

    quote_empty : (how : How) → AreEmpty (quote_gap how)
    quote_empty Beside = refl
    quote_empty Marked = refl
    quote_empty (Below n bullet) = gap_empty (n - 1)

    item_empty : (how : How) → AreEmpty (item_gap how)
    item_empty how = subst AreEmpty (sym (item_gap_is how)) (gap_empty (gap_count how))

    pub empty : (c : Outside) (how : How) (f : Blocks) → AreEmpty (space c how f)
    empty c how Nothing = refl
    empty c how (PlainThen b f) = plain_empty how b
    empty c how (QuoteThen kids f) = quote_empty how
    empty c how (BulletsThen items f) = list_empty c how
    empty c how (ItemThen kids f) = item_empty how

    -- the first lines

    hanging_some : (m : List ℕ) (ls : List Line) → Cons (hanging m ls)
    hanging_some m [] = record { first = m; more = []; is = refl }
    hanging_some m (l ∷ ls) = record { first = m ++ l; more = map (λ x. replicate (length m) 32 ++ x) ls; is = refl }

    beside_some : (ls : List Line) → Cons (quoted_beside ls)
    beside_some [] = record { first = codes "> "; more = []; is = refl }
    beside_some (l ∷ ls) = record { first = codes "> " ++ l; more = map quoted ls; is = refl }

    quote_some : (how : How) (beside below : List Line) → Cons (quote_body how beside below)
    quote_some Beside beside below = record { first = quoted []; more = map quoted below; is = refl }
    quote_some Marked beside below = beside_some beside
    quote_some (Below n bullet) beside below = record { first = quoted []; more = map quoted below; is = refl }

    pub body_some : (c : Outside) (how : How) (f : Blocks) → IsSome f → ArePlainIn false f → BlocksTabless f → Cons (body c how f)
    body_some c how Nothing s h t = absurd s
    body_some c how (PlainThen b f) s h t = (known.leaf c how b (h.0) (t.0)).some
    body_some c how (QuoteThen kids f) s h t = quote_some how (lines c Beside kids) (lines c (Below 1 None) kids)
    body_some c how (BulletsThen (ItemThen kids g) f) s h t =
        let b : ℕ = bullet_for o c how in
        cons_on (hanging (marker b) (lines (in_bullets b c) Marked kids)) (lines (in_bullets b c) (Below (feeds_below_item o kids) None) g) (hanging_some (marker b) (lines (in_bullets b c) Marked kids))
    body_some c how (BulletsThen Nothing f) s h t = absurd (true≢false (sym (h.0)))
    body_some c how (BulletsThen (PlainThen b g) f) s h t = absurd (true≢false (sym (h.0)))
    body_some c how (BulletsThen (QuoteThen kids g) f) s h t = absurd (true≢false (sym (h.0)))
    body_some c how (BulletsThen (BulletsThen items g) f) s h t = absurd (true≢false (sym (h.0)))
    body_some c how (ItemThen kids f) s h t = absurd h

    pub flush_some : (c : Outside) (how : How) (f : Blocks) → IsSome f → ArePlainIn false f → BlocksTabless f → Cons (flush c how f)
    flush_some c how f s h t = cons_on (body c how f) (lines c (next c how f) (rest f)) (body_some c how f s h t)

    bullet_within : (b : ℕ) → IsBullet b → IsWithin b
    bullet_within b (inl e) = subst IsWithin (sym e) (record { feed = refl; return = refl; tab = refl })
    bullet_within b (inr (inl e)) = subst IsWithin (sym e) (record { feed = refl; return = refl; tab = refl })
    bullet_within b (inr (inr e)) = subst IsWithin (sym e) (record { feed = refl; return = refl; tab = refl })

    bullet_ink : (b : ℕ) → IsBullet b → (b == 32) ≡ false
    bullet_ink b (inl e) = rw e refl
    bullet_ink b (inr (inl e)) = rw e refl
    bullet_ink b (inr (inr e)) = rw e refl

    hung_some : (b : ℕ) (ls : List Line) → (others : List Line) × (hung b ls ≡ (b ∷ 32 ∷ first_line ls) ∷ others)
    hung_some b [] = ([], refl)
    hung_some b (l ∷ ls) = (map hanged ls, refl)

    first_within : (ls : List Line) → LinesWithin ls → AreWithin (first_line ls)
    first_within [] h = tt
    first_within (l ∷ ls) h = h.0

    -- lengths

    pub false_less : (e : Bool) (xs : List Line) → length (ended false xs) ≤ length (ended e xs)
    false_less e [] = omega arith
    false_less e (x ∷ []) = omega (arith, length-append x [], length-append x (feed_if e))
    false_less e (x ∷ z ∷ zs) = omega (arith, false_less e (z ∷ zs), length-append x (10 ∷ ended false (z ∷ zs)), length-append x (10 ∷ ended e (z ∷ zs)))

    pub front_less : (e : Bool) (xs ys : List Line) → length (ended false xs) ≤ length (ended e (xs ++ ys))
    front_less e [] ys = omega arith
    front_less e (x ∷ []) [] = omega (arith, length-append x [], length-append x (feed_if e))
    front_less e (x ∷ []) (y ∷ ys) = omega (arith, length-append x [], length-append x (10 ∷ ended e (y ∷ ys)))
    front_less e (x ∷ z ∷ zs) ys = omega (arith, front_less e (z ∷ zs) ys, length-append x (10 ∷ ended false (z ∷ zs)), length-append x (10 ∷ ended e ((z ∷ zs) ++ ys)))

    first_short : (e : Bool) (l : Line) (ls : List Line) → Bound (ended e (l ∷ ls)) → length l < 2 ^ 64
    first_short e l [] small = omega (arith, small, length-append l (feed_if e))
    first_short e l (m ∷ ms) small = omega (arith, small, length-append l (10 ∷ ended e (m ∷ ms)))

    less_in : (e : Bool) (xs ys : List Line) → Bound (ended e (xs ++ ys)) → Bound (ended false xs)
    less_in e xs ys small = omega (arith, small, front_less e xs ys)

    less_false : (e : Bool) (xs : List Line) → Bound (ended e xs) → Bound (ended false xs)
    less_false e xs small = omega (arith, small, false_less e xs)

    -- gaps

    gap_some : (g : List Line) → is_gap g ≡ true → 1 ≤ length g
    gap_some [] e = absurd (true≢false (sym e))
    gap_some (l ∷ ls) e = omega arith

    some_gap : (g : List Line) → 1 ≤ length g → is_gap g ≡ true
    some_gap [] h = absurd (omega (arith, h))
    some_gap (l ∷ ls) h = refl

    lines_wide : (n : ℕ) → 2 ≤ n → 1 ≤ length (gap_lines n)
    lines_wide n twice = let q : length (gap (n - 1)) ≡ n - 1 = gap_long (n - 1) in omega (arith, q, twice)

    paragraph_wide : (n : ℕ) (bullet : Option ℕ) → 2 ≤ n → 1 ≤ length (paragraph_gap (Below n bullet))
    paragraph_wide n None twice = lines_wide n twice
    paragraph_wide n (Some b) twice = lines_wide (max n 2) (omega arith)

    list_wide : (c : Outside) (n : ℕ) (bullet : Option ℕ) → 2 ≤ n → 1 ≤ length (list_gap c (Below n bullet))
    list_wide c n bullet twice = by c.listed
      where
        by : (t : Bool) → 1 ≤ length (if t then new_line (Below n bullet) else gap_of (Below n bullet))
        by true = lines_wide n twice
        by false = lines_wide n twice

    pub wide_below : (c : Outside) (n : ℕ) (bullet : Option ℕ) (f : Blocks) → IsSome f → ArePlainIn false f → 2 ≤ n → 1 ≤ length (space c (Below n bullet) f)
    wide_below c n bullet Nothing s h twice = absurd s
    wide_below c n bullet (PlainThen (PlainParagraph l ms) f) s h twice = paragraph_wide n bullet twice
    wide_below c n bullet (PlainThen (PlainHeading level ts) f) s h twice = lines_wide n twice
    wide_below c n bullet (PlainThen PlainRule f) s h twice = lines_wide n twice
    wide_below c n bullet (PlainThen (PlainCode info ls) f) s h twice = lines_wide n twice
    wide_below c n bullet (QuoteThen kids f) s h twice = lines_wide n twice
    wide_below c n bullet (BulletsThen items f) s h twice = list_wide c n bullet twice
    wide_below c n bullet (ItemThen kids f) s h twice = absurd h

    pub spaced_below : (c : Outside) (n : ℕ) (bullet : Option ℕ) (f : Blocks) → IsSome f → ArePlainIn false f → AreBelow o c (Below n bullet) f → 1 ≤ length (space c (Below n bullet) f)
    spaced_below c n bullet Nothing s h k = absurd s
    spaced_below c n bullet (PlainThen b f) s h k = gap_some (plain_gap (Below n bullet) b) k
    spaced_below c n bullet (QuoteThen kids f) s h k = gap_some (gap_lines n) k
    spaced_below c n bullet (BulletsThen items f) s h k = gap_some (list_gap c (Below n bullet)) k
    spaced_below c n bullet (ItemThen kids f) s h k = absurd h

    -- an empty line before blocks is one of those that `has_gap` asks for
    pub gap_found : (c : Outside) (n : ℕ) (bullet : Option ℕ) (f : Blocks) → IsSome f → ArePlainIn false f → 1 ≤ length (space c (Below n bullet) f) → has_gap o c (Below n bullet) f ≡ true
    gap_found c n bullet Nothing s h k = absurd s
    gap_found c n bullet (PlainThen b f) s h k = ap (λ x. x || has_gap o c (Below (feeds_below o b) None) f) (some_gap (plain_gap (Below n bullet) b) k)
    gap_found c n bullet (QuoteThen kids f) s h k = ap (λ x. x || has_gap o c (Below (feeds_below_quote o) None) f) (some_gap (gap_lines n) k)
    gap_found c n bullet (BulletsThen items f) s h k = ap (λ x. x || has_gap o c (next c (Below n bullet) (BulletsThen items f)) f) (some_gap (list_gap c (Below n bullet)) k)
    gap_found c n bullet (ItemThen kids f) s h k = absurd h

    list_marked : (c : Outside) → list_gap c Marked ≡ []
    list_marked c = by c.listed
      where
        by : (t : Bool) → (if t then new_line Marked else gap_of Marked) ≡ []
        by true = refl
        by false = refl

    pub none_marked : (c : Outside) (f : Blocks) → ArePlainIn false f → space c Marked f ≡ []
    none_marked c Nothing h = refl
    none_marked c (PlainThen b f) h = plain_marked b
    none_marked c (QuoteThen kids f) h = refl
    none_marked c (BulletsThen items f) h = list_marked c
    none_marked c (ItemThen kids f) h = absurd h

    pub marked_gap : (c : Outside) (f : Blocks) → IsSome f → ArePlainIn false f → has_gap o c (next c Marked f) (rest f) ≡ has_gap o c Marked f
    marked_gap c Nothing s h = absurd s
    marked_gap c (PlainThen b f) s h = ap (λ (g : List Line). is_gap g || has_gap o c (Below (feeds_below o b) None) f) (sym (plain_marked b))
    marked_gap c (QuoteThen kids f) s h = refl
    marked_gap c (BulletsThen items f) s h = ap (λ (g : List Line). is_gap g || has_gap o c (next c Marked (BulletsThen items f)) f) (sym (list_marked c))
    marked_gap c (ItemThen kids f) s h = absurd h

    -- blocks after a first one

    -- what is known of a text of blocks: its trees, and whether empty lines are after the first block
    pub record Parts (e : Bool) (text : List ℕ) (ts : Trees) (c : Outside) (how : How) (g : Blocks) : Type 0 where
      pub good : Good e text ts
      pub apart : Apart text ts (has_gap o c how g)
      pub parted : (IsSome g → 1 ≤ length (space c how g)) → IsParted text ts (has_gap o c how g) apart

    -- what is known of the blocks after the first one
    pub record Later (e : Bool) (c : Outside) (how : How) (g : Blocks) (text : List ℕ) : Type 0 where
      pub good : Good e (ended e (flush c how g)) (trees c how e g)
      pub some : Cons (flush c how g)
      pub inky : begins_blank (ended e (flush c how g)) ≡ false
      pub gap : 1 ≤ length (space c how g) → has_gap o c how g ≡ true
      pub ending : Ending text (length (space c how g)) (ended e (flush c how g))

    some_step : (e : Bool) (c : Outside) (how : How) (ls : List Line) (t : Tree) (g : Blocks) → IsSome g → Good true (ended true ls) (more t none)
        → Later e c how g (ended true ls) → Bound (ended e (ls ++ lines c how g))
        → Parts e (ended e (ls ++ lines c how g)) (more t (trees c how e g)) c how g
    some_step e c how ls t g s has later small = subst (λ (x : List ℕ). Parts e x (more t (trees c how e g)) c how g) (sym same) (record {
      good = row_good e w x u (more t none) (trees c how e g) (between laws x k u later.ending (subst Bound same small)) has.has later.good;
      apart = two x k u (more t none) (trees c how e g) refl later.ending later.inky has.has later.good.has refl later.gap;
      parted = λ spaced. spaced s;
    })
      where
        k : ℕ
        k = length (space c how g)

        x : List ℕ
        x = ended true ls

        u : List ℕ
        u = ended e (flush c how g)

        w : List ℕ
        w = x ++ (feeds k ++ u)

        same : ended e (ls ++ lines c how g) ≡ w
        same = ap (λ (xs : List Line). ended e (ls ++ xs)) (split c how g s) ∙ gapped_text e ls (space c how g) (flush c how g) (empty c how g) later.some

    more_step : (e : Bool) (c : Outside) (how : How) (ls : List Line) (node : Bool → Tree) (g : Blocks) → IsSome g → ArePlainIn false g → BlocksTabless g → ((e : Bool) → Bound (ended e ls) → Good e (ended e ls) (more (node e) none))
        → (IsSome g → Bound (ended e (flush c how g)) → Bound (ended true ls) → Later e c how g (ended true ls)) → Bound (ended e (ls ++ lines c how g))
        → Parts e (ended e (ls ++ lines c how g)) (more (node true) (trees c how e g)) c how g
    more_step e c how ls node g s h t has later small =
        let same : ended e (ls ++ lines c how g) ≡ ended true ls ++ (feeds (length (space c how g)) ++ ended e (flush c how g)) =
        ap (λ (xs : List Line). ended e (ls ++ xs)) (split c how g s) ∙ gapped_text e ls (space c how g) (flush c how g) (empty c how g) (flush_some c how g s h t) in
        let fits : Bound (ended true ls ++ (feeds (length (space c how g)) ++ ended e (flush c how g))) = subst Bound same small in
        let first : Bound (ended true ls) = omega (arith, fits, length-append (ended true ls) (feeds (length (space c how g)) ++ ended e (flush c how g))) in
        let last : Bound (ended e (flush c how g)) =
        omega (arith, fits, length-append (ended true ls) (feeds (length (space c how g)) ++ ended e (flush c how g)), length-append (feeds (length (space c how g))) (ended e (flush c how g))) in
        some_step e c how ls (node true) g s (has true first) (later s last first) small

    nothing_step : (e : Bool) (c : Outside) (how : How) (ls : List Line) (node : Bool → Tree) → ((e : Bool) → Bound (ended e ls) → Good e (ended e ls) (more (node e) none)) → Bound (ended e (ls ++ []))
        → Parts e (ended e (ls ++ [])) (more (node e) none) c how Nothing
    nothing_step e c how ls node has small =
        subst (λ (xs : List Line). Parts e (ended e xs) (more (node e) none) c how Nothing) (sym (append-nil ls))
        (record { good = has e (subst (λ (xs : List Line). Bound (ended e xs)) (append-nil ls) small); apart = alone refl refl; parted = λ s. tt })

    step : (e : Bool) (c : Outside) (how : How) (ls : List Line) (node : Bool → Tree) (g : Blocks) → ArePlainIn false g → BlocksTabless g → ((e : Bool) → Bound (ended e ls) → Good e (ended e ls) (more (node e) none))
        → (IsSome g → Bound (ended e (flush c how g)) → Bound (ended true ls) → Later e c how g (ended true ls)) → Bound (ended e (ls ++ lines c how g))
        → Parts e (ended e (ls ++ lines c how g)) (more (node (fed_before e g)) (trees c how e g)) c how g
    step e c how ls node Nothing h t has later small = nothing_step e c how ls node has small
    step e c how ls node (PlainThen b f) h t has later small = more_step e c how ls node (PlainThen b f) tt h t has later small
    step e c how ls node (QuoteThen kids f) h t has later small = more_step e c how ls node (QuoteThen kids f) tt h t has later small
    step e c how ls node (BulletsThen items f) h t has later small = more_step e c how ls node (BulletsThen items f) tt h t has later small
    step e c how ls node (ItemThen kids f) h t has later small = absurd h

    -- what the first line of a text begins

    -- nothing that goes on in a list
    record Margin (mark : ℕ) (u : List ℕ) : Type 0 where
      ink : begins_near_margin u ≡ true
      other : goes_into mark (first_mark u) ≡ false
      inky : begins_blank u ≡ false

    -- an item
    record Marker (b : ℕ) (u : List ℕ) : Type 0 where
      ink : begins_at_margin u ≡ true
      near : begins_near_margin u ≡ true
      marks : first_mark u ≡ Some b
      inky : begins_blank u ≡ false

    hung_less : (b : ℕ) (ls : List Line) → length (ended false ls) ≤ length (ended false (hung b ls))
    hung_less b [] = omega arith
    hung_less b (l ∷ ls) = hung_longer b false l ls

    space_within : IsWithin 32
    space_within = record { feed = refl; return = refl; tab = refl }

    bullet_text : (e : Bool) (b : ℕ) (c : Outside) (kids : Blocks) (ys : List Line) → IsBullet b → ArePlainIn false kids → BlocksTabless kids → HasSafeRules o (in_bullets b c) Marked kids → Bound (ended e (hung b (lines (in_bullets b c) Marked kids) ++ ys))
        → Marker b (ended e (hung b (lines (in_bullets b c) Marked kids) ++ ys))
    bullet_text e b c kids ys is h t safe small =
        let ls : List Line = lines (in_bullets b c) Marked kids in
        let x : Line = b ∷ 32 ∷ first_line ls in
        let whole : Bound (ended false (hung b ls)) = less_in e (hung b ls) ys small in
        let inner : Bound (ended false ls) = omega (arith, whole, hung_less b ls) in
        let within : AreWithin x = (bullet_within b is, (space_within, first_within ls (known.within (in_bullets b c) Marked kids h t inner))) in
        let starts : Starts b (first_line ls) = known.starts b c kids is h t safe whole in
        let m = hung_some b ls in
        subst (λ (xs : List Line). Marker b (ended e (xs ++ ys))) (sym (m.1))
        (record {
          ink = text_margin e x (m.0 ++ ys) within (bullet_ink b is);
          near = text_near e x (m.0 ++ ys) within (bullet_ink b is);
          marks = ap mark_in (text_first e x (m.0 ++ ys) within) ∙ starts.marks;
          inky = text_inky e x (m.0 ++ ys) within (bullet_ink b is);
        })

    plain_margin : (e : Bool) (c : Outside) (how : How) (p : PlainBlock) (ys : List Line) (mark : ℕ) → IsPlainBlock p → IsTabless p → Bound (ended e (plain_lines o flags c how p ++ ys)) → Margin mark (ended e (plain_lines o flags c how p ++ ys))
    plain_margin e c how p ys mark h t small =
        let st : Stand p (plain_lines o flags c how p) = known.leaf c how p h t in
        let x : Line = st.some.first in
        let xs : List Line = st.some.more in
        let fits : Bound (ended e (x ∷ (xs ++ ys))) = subst (λ (zs : List Line). Bound (ended e (zs ++ ys))) st.some.is small in
        subst (λ (zs : List Line). Margin mark (ended e (zs ++ ys))) (sym st.some.is)
        (record {
          ink = text_near e x (xs ++ ys) st.within st.inked;
          other = ap (λ l. goes_into mark (mark_in l)) (text_first e x (xs ++ ys) st.within) ∙ ap (goes_into mark) (st.marks (first_short e x (xs ++ ys) fits));
          inky = text_inky e x (xs ++ ys) st.within st.inked;
        })

    -- the lines of a list begin with those of its first item
    list_is : (b : ℕ) (c : Outside) (kids g : Blocks) (ys : List Line) → IsBullet b
        → lines (in_bullets b c) Beside (ItemThen kids g) ++ ys ≡ hung b (lines (in_bullets b c) Marked kids) ++ (lines (in_bullets b c) (Below (feeds_below_item o kids) None) g ++ ys)
    list_is b c kids g ys is =
        let ls : List Line = lines (in_bullets b c) Marked kids in
        let others : List Line = lines (in_bullets b c) (Below (feeds_below_item o kids) None) g in
        append_assoc (hanging (marker b) ls) others ys ∙ ap (λ (xs : List Line). xs ++ (others ++ ys)) (hung_is b ls is)

    list_text : (e : Bool) (b : ℕ) (c : Outside) (kids g : Blocks) (ys : List Line) → IsBullet b → ArePlainIn false kids → BlocksTabless kids → HasSafeRules o (in_bullets b c) Marked kids
        → Bound (ended e (lines (in_bullets b c) Beside (ItemThen kids g) ++ ys)) → Marker b (ended e (lines (in_bullets b c) Beside (ItemThen kids g) ++ ys))
    list_text e b c kids g ys is h t safe small =
        let others : List Line = lines (in_bullets b c) (Below (feeds_below_item o kids) None) g ++ ys in
        subst (λ (xs : List Line). Marker b (ended e xs)) (sym (list_is b c kids g ys is)) (bullet_text e b c kids others is h t safe (subst (λ (xs : List Line). Bound (ended e xs)) (list_is b c kids g ys is) small))

    after_list : (e : Bool) (c : Outside) (n b : ℕ) (f : Blocks) → IsSome f → ArePlainIn false f → BlocksTabless f → HasSafeRules o c (Below n (Some b)) f → Bound (ended e (flush c (Below n (Some b)) f)) → Margin b (ended e (flush c (Below n (Some b)) f))
    after_list e c n b Nothing s h t safe small = absurd s
    after_list e c n b (PlainThen p f) s h t safe small = plain_margin e c (Below n (Some b)) p (lines c (Below (feeds_below o p) None) f) b (h.0) (t.0) small
    after_list e c n b (QuoteThen kids f) s h t safe small =
        let ys : List Line = map quoted (lines c (Below 1 None) kids) ++ lines c (Below (feeds_below_quote o) None) f in
        record {
          ink = quote_near e [] ys;
          other = ap (λ l. goes_into b (mark_in l)) (text_first e (quoted []) ys (space_within, (record { feed = refl; return = refl; tab = refl }, (space_within, tt)))) ∙ ap (goes_into b) known.quote_marks;
          inky = quote_inky e [] ys;
        }
    after_list e c n b (BulletsThen (ItemThen kids g) f) s h t safe small =
        let d : ℕ = bullet_for o c (Below n (Some b)) in
        let m : Marker d (ended e (flush c (Below n (Some b)) (BulletsThen (ItemThen kids g) f))) =
        list_text e d c kids g (lines c (next c (Below n (Some b)) (BulletsThen (ItemThen kids g) f)) f) (bullet_is o c (Below n (Some b)) token) ((h.2).0) ((t.0).0) ((safe.0).0) small in
        let apart : (d == b) ≡ false = other_is b o.list_token token in
        record { ink = m.near; other = ap (goes_into b) m.marks ∙ apart_from d b apart; inky = m.inky }
    after_list e c n b (BulletsThen Nothing f) s h t safe small = absurd (true≢false (sym (h.0)))
    after_list e c n b (BulletsThen (PlainThen p g) f) s h t safe small = absurd (true≢false (sym (h.0)))
    after_list e c n b (BulletsThen (QuoteThen kids g) f) s h t safe small = absurd (true≢false (sym (h.0)))
    after_list e c n b (BulletsThen (BulletsThen items g) f) s h t safe small = absurd (true≢false (sym (h.0)))
    after_list e c n b (ItemThen kids f) s h t safe small = absurd h

    later_inky : (e : Bool) (c : Outside) (n : ℕ) (bullet : Option ℕ) (f : Blocks) → IsSome f → ArePlainIn false f → BlocksTabless f → HasSafeRules o c (Below n bullet) f → Bound (ended e (flush c (Below n bullet) f)) → begins_blank (ended e (flush c (Below n bullet) f)) ≡ false
    later_inky e c n bullet Nothing s h t safe small = absurd s
    later_inky e c n bullet (PlainThen p f) s h t safe small = (plain_margin e c (Below n bullet) p (lines c (Below (feeds_below o p) None) f) 0 (h.0) (t.0) small).inky
    later_inky e c n bullet (QuoteThen kids f) s h t safe small = quote_inky e [] (map quoted (lines c (Below 1 None) kids) ++ lines c (Below (feeds_below_quote o) None) f)
    later_inky e c n bullet (BulletsThen (ItemThen kids g) f) s h t safe small =
        (list_text e (bullet_for o c (Below n bullet)) c kids g (lines c (next c (Below n bullet) (BulletsThen (ItemThen kids g) f)) f) (bullet_is o c (Below n bullet) token) ((h.2).0) ((t.0).0) ((safe.0).0) small).inky
    later_inky e c n bullet (BulletsThen Nothing f) s h t safe small = absurd (true≢false (sym (h.0)))
    later_inky e c n bullet (BulletsThen (PlainThen p g) f) s h t safe small = absurd (true≢false (sym (h.0)))
    later_inky e c n bullet (BulletsThen (QuoteThen kids g) f) s h t safe small = absurd (true≢false (sym (h.0)))
    later_inky e c n bullet (BulletsThen (BulletsThen items g) f) s h t safe small = absurd (true≢false (sym (h.0)))
    later_inky e c n bullet (ItemThen kids f) s h t safe small = absurd h

    -- how a first block ends

    quiet_if : (e : Bool) (ls : List Line) → (Bound (ended true ls) → IsQuiet (ended true ls)) → Bound (ended e ls) → EndsIf e (ended e ls)
    quiet_if true ls q small = laws.quiet_ends (ended true ls) (q small)
    quiet_if false ls q small = tt

    -- what is proved of blocks, by recursion on them
    pub record Proved (f : Blocks) : Type 0 where
      pub blocks : (e : Bool) (c : Outside) (how : How) → IsSome f → ArePlainIn false f → BlocksTabless f → HasSafeRules o c how f → AreSpaced o c how f → Bound (ended e (flush c how f))
          → Parts e (ended e (flush c how f)) (trees c how e f) c (next c how f) (rest f)
      pub items : (e : Bool) (b : ℕ) (c : Outside) (how : How) → IsBullet b → IsSome f → ArePlainIn true f → BlocksTabless f → HasSafeRules o (in_bullets b c) how f → AreSpaced o (in_bullets b c) how f
          → Bound (ended e (flush (in_bullets b c) how f)) → Listed b e (ended e (flush (in_bullets b c) how f)) (not (is_tight o (in_bullets b c) f)) (trees (in_bullets b c) how e f)

    later_of : (e : Bool) (c : Outside) (n : ℕ) (bullet : Option ℕ) (g : Blocks) (t : List ℕ) → Proved g → IsSome g → ArePlainIn false g → BlocksTabless g → HasSafeRules o c (Below n bullet) g → AreSpaced o c (Below n bullet) g
        → Bound (ended e (flush c (Below n bullet) g)) → Ending t (length (space c (Below n bullet) g)) (ended e (flush c (Below n bullet) g)) → Later e c (Below n bullet) g t
    later_of e c n bullet g t again s h tab safe spaced small ending = record {
      good = (again.blocks e c (Below n bullet) s h tab safe spaced small).good;
      some = flush_some c (Below n bullet) g s h tab;
      inky = later_inky e c n bullet g s h tab safe small;
      gap = gap_found c n bullet g s h;
      ending = ending;
    }

    -- plain blocks

    plain_ending : (c : Outside) (how : How) (b : PlainBlock) (g : Blocks) (u : List ℕ) → IsPlainBlock b → IsTabless b → IsSome g → ArePlainIn false g → Bound (ended true (plain_lines o flags c how b))
        → Ending (ended true (plain_lines o flags c how b)) (length (space c (Below (feeds_below o b) None) g)) u
    plain_ending c how b g u h tab s plain small = by (st.closed small)
      where
        st : Stand b (plain_lines o flags c how b)
        st = known.leaf c how b h tab

        by : IsClosed (ended true (plain_lines o flags c how b)) ⊎ (2 ≤ feeds_below o b) → Ending (ended true (plain_lines o flags c how b)) (length (space c (Below (feeds_below o b) None) g)) u
        by (inl k) = closes k
        by (inr k) = quiets (st.quiet small) (wide_below c (feeds_below o b) None g s plain k)

    plain_blocks : (b : PlainBlock) (g : Blocks) → Proved g → (e : Bool) (c : Outside) (how : How) → ArePlainIn false (PlainThen b g) → BlocksTabless (PlainThen b g) → HasSafeRules o c how (PlainThen b g) → AreSpaced o c how (PlainThen b g)
        → Bound (ended e (flush c how (PlainThen b g))) → Parts e (ended e (flush c how (PlainThen b g))) (trees c how e (PlainThen b g)) c (next c how (PlainThen b g)) g
    plain_blocks b g again e c how h tab safe spaced small =
        let ls : List Line = plain_lines o flags c how b in
        let st : Stand b ls = known.leaf c how b (h.0) (tab.0) in
        step e c (Below (feeds_below o b) None) ls (λ e. Node (sort_read b) false (block_read o flags e b) none) g (h.1) (tab.1)
        (λ e fits. record { has = st.reads e fits; ends = quiet_if e ls st.quiet fits })
        (λ s fits first. later_of e c (feeds_below o b) None g (ended true ls) again s (h.1) (tab.1) (safe.1) (spaced.1) fits (plain_ending c how b g (ended e (flush c (Below (feeds_below o b) None) g)) (h.0) (tab.0) s (h.1) first))
        small

    plain_case : (b : PlainBlock) (g : Blocks) → Proved g → Proved (PlainThen b g)
    plain_case b g again = record {
      blocks = λ e c how s h tab safe spaced small. plain_blocks b g again e c how h tab safe spaced small;
      items = λ e b c how is s h tab safe spaced small. absurd h;
    }

    nothing_case : Proved Nothing
    nothing_case = record {
      blocks = λ e c how s h tab safe spaced small. absurd s;
      items = λ e b c how is s h tab safe spaced small. absurd s;
    }

    -- block quotes

    well_if : (e : Bool) (ls : List Line) → EndsWell false ls → EndsWell e ls
    well_if true ls w = tt
    well_if false ls w = w

    well_after : (l : Line) (ls : List Line) → Cons ls → EndsWell false ls → EndsWell false (l ∷ ls)
    well_after l ls c w = subst (λ (xs : List Line). EndsWell false (l ∷ xs)) (sym c.is) (subst (EndsWell false) c.is w)

    well_some : (e : Bool) (l : Line) (ls : List Line) → EndsWell e (l ∷ ls) → 0 < length (ended e (l ∷ ls))
    well_some true l [] w = omega (arith, length-append l (10 ∷ []))
    well_some false l [] w = omega (arith, w, length-append l [])
    well_some e l (m ∷ ms) w = omega (arith, length-append l (10 ∷ ended e (m ∷ ms)))

    some_after : (g ls : List Line) → Cons ls → Cons (g ++ ls)
    some_after [] ls c = c
    some_after (x ∷ xs) ls c = record { first = x; more = xs ++ ls; is = refl }

    lines_some : (c : Outside) (how : How) (f : Blocks) → IsSome f → ArePlainIn false f → BlocksTabless f → Cons (lines c how f)
    lines_some c how f s h tab = subst Cons (sym (split c how f s)) (some_after (space c how f) (flush c how f) (flush_some c how f s h tab))

    same_trees : (c : Outside) (e : Bool) (f : Blocks) → trees c (Below 1 None) e f ≡ trees c Beside e f
    same_trees c e Nothing = refl
    same_trees c e (PlainThen b f) = refl
    same_trees c e (QuoteThen kids f) = refl
    same_trees c e (BulletsThen items f) = refl
    same_trees c e (ItemThen kids f) = refl

    same_spaced : (c : Outside) (f : Blocks) → AreSpaced o c Beside f → AreSpaced o c (Below 1 None) f
    same_spaced c Nothing h = h
    same_spaced c (PlainThen b f) h = h
    same_spaced c (QuoteThen kids f) h = h
    same_spaced c (BulletsThen items f) h = h
    same_spaced c (ItemThen kids f) h = h

    -- what is read of all lines of blocks
    pub all_lines : (e : Bool) (c : Outside) (how : How) (f : Blocks) (g : List Line) → AreEmpty g → Proved f → IsSome f → ArePlainIn false f → BlocksTabless f → HasSafeRules o c how f → AreSpaced o c how f
        → Bound (ended e (g ++ flush c how f)) → Good e (ended e (g ++ flush c how f)) (trees c how e f)
    all_lines e c how f g bare inside s h tab safe spaced small =
        let u : List ℕ = ended e (flush c how f) in
        let same : ended e (g ++ flush c how f) ≡ feeds (length g) ++ u = front_text e g (flush c how f) bare (flush_some c how f s h tab) in
        let fits : Bound (feeds (length g) ++ u) = subst Bound same small in
        subst (λ (x : List ℕ). Good e x (trees c how e f)) (sym same)
        (front_good laws e (length g) u (trees c how e f) fits (inside.blocks e c how s h tab safe spaced (omega (arith, fits, length-append (feeds (length g)) u))).good)

    -- a quote on lines of its own

    abbrev own : Outside → Blocks → List Line
    own c kids = [] ∷ lines c (Below 1 None) kids

    own_within : (c : Outside) (kids : Blocks) → ArePlainIn false kids → BlocksTabless kids → Bound (ended false (own c kids)) → Cons (lines c (Below 1 None) kids) → LinesWithin (own c kids)
    own_within c kids h tab small some = (tt, known.within c (Below 1 None) kids h tab (subst (λ (xs : List Line). Bound (ended false xs)) (sym some.is) (let fits : Bound (ended false ([] ∷ some.first ∷ some.more)) = subst (λ (xs : List Line). Bound (ended false ([] ∷ xs))) some.is small in omega (arith, fits))))

    own_well : (e : Bool) (c : Outside) (kids : Blocks) → ArePlainIn false kids → Bound (ended false (own c kids)) → Cons (lines c (Below 1 None) kids) → EndsWell e (own c kids)
    own_well e c kids h small some =
        let fits : Bound (ended false ([] ∷ some.first ∷ some.more)) = subst (λ (xs : List Line). Bound (ended false ([] ∷ xs))) some.is small in
        let inner : Bound (ended false (lines c (Below 1 None) kids)) = subst (λ (xs : List Line). Bound (ended false xs)) (sym some.is) (omega (arith, fits)) in
        well_if e (own c kids) (well_after [] (lines c (Below 1 None) kids) some (known.well c (Below 1 None) kids h inner))

    own_text : (e : Bool) (c : Outside) (kids : Blocks) → Proved kids → IsSome kids → ArePlainIn false kids → BlocksTabless kids → HasSafeRules o c Beside kids → AreSpaced o c Beside kids → Bound (ended e (own c kids)) → HasTrees (ended e (own c kids)) (trees c Beside e kids)
    own_text e c kids inside s h tab safe spaced small =
        let g : List Line = [] ∷ space c (Below 1 None) kids in
        let bare : AreEmpty g = ap (λ (xs : List Line). [] ∷ xs) (empty c (Below 1 None) kids) in
        let same : own c kids ≡ g ++ flush c (Below 1 None) kids = ap (λ (xs : List Line). [] ∷ xs) (split c (Below 1 None) kids s) in
        subst (λ (xs : List Line). HasTrees (ended e xs) (trees c Beside e kids)) (sym same)
        (subst (HasTrees (ended e (g ++ flush c (Below 1 None) kids))) (same_trees c e kids)
        (all_lines e c (Below 1 None) kids g bare inside s h tab (same_safe o flags c kids safe) (same_spaced c kids spaced) (subst (λ (xs : List Line). Bound (ended e xs)) same small)).has)

    own_has : (e : Bool) (c : Outside) (kids : Blocks) → Proved kids → IsSome kids → ArePlainIn false kids → BlocksTabless kids → HasSafeRules o c Beside kids → AreSpaced o c Beside kids
        → Bound (ended e (map quoted (own c kids))) → HasTrees (ended e (map quoted (own c kids))) (Q laws (trees c Beside e kids))
    own_has e c kids inside s h tab safe spaced small =
        let fits : Bound (ended e (own c kids)) = omega (arith, small, quoted_longer e (own c kids)) in
        let low : Bound (ended false (own c kids)) = less_false e (own c kids) fits in
        let some : Cons (lines c (Below 1 None) kids) = lines_some c (Below 1 None) kids s h tab in
        let well : EndsWell e (own c kids) = own_well e c kids h low some in
        below_has laws e (own c kids) (trees c Beside e kids) (own_within c kids h tab low some) well (well_some e [] (lines c (Below 1 None) kids) well) fits (own_text e c kids inside s h tab safe spaced fits)

    own_quiet : (c : Outside) (kids : Blocks) → IsSome kids → ArePlainIn false kids → BlocksTabless kids → Bound (ended true (map quoted (own c kids))) → IsQuiet (ended true (map quoted (own c kids)))
    own_quiet c kids s h tab small =
        let fits : Bound (ended true (own c kids)) = omega (arith, small, quoted_longer true (own c kids)) in
        let some : Cons (lines c (Below 1 None) kids) = lines_some c (Below 1 None) kids s h tab in
        below_quiet laws [] (lines c (Below 1 None) kids) (own_within c kids h tab (less_false true (own c kids) fits) some) (well_some true [] (lines c (Below 1 None) kids) tt) fits

    -- one right after a marker

    abbrev inner : Outside → Blocks → List Line
    inner c kids = lines c Beside kids

    inner_text : (e : Bool) (c : Outside) (kids : Blocks) → Proved kids → IsSome kids → ArePlainIn false kids → BlocksTabless kids → HasSafeRules o c Beside kids → AreSpaced o c Beside kids → Bound (ended e (inner c kids)) → HasTrees (ended e (inner c kids)) (trees c Beside e kids)
    inner_text e c kids inside s h tab safe spaced small =
        subst (λ (xs : List Line). HasTrees (ended e xs) (trees c Beside e kids)) (sym (split c Beside kids s))
        (all_lines e c Beside kids (space c Beside kids) (empty c Beside kids) inside s h tab safe spaced (subst (λ (xs : List Line). Bound (ended e xs)) (split c Beside kids s) small)).has

    beside_less : (e : Bool) (ls : List Line) → Cons ls → Bound (ended e (quoted_beside ls)) → Bound (ended e ls)
    beside_less e ls some small = subst (λ (xs : List Line). Bound (ended e xs)) (sym some.is) (let fits : Bound (ended e (quoted_beside (some.first ∷ some.more))) = subst (λ (xs : List Line). Bound (ended e (quoted_beside xs))) some.is small in omega (arith, fits, beside_longer e some.first some.more))

    inner_has : (e : Bool) (c : Outside) (kids : Blocks) → Proved kids → IsSome kids → ArePlainIn false kids → BlocksTabless kids → HasSafeRules o c Beside kids → AreSpaced o c Beside kids
        → Bound (ended e (quoted_beside (inner c kids))) → HasTrees (ended e (quoted_beside (inner c kids))) (Q laws (trees c Beside e kids))
    inner_has e c kids inside s h tab safe spaced small =
        let ls : List Line = inner c kids in
        let some : Cons ls = lines_some c Beside kids s h tab in
        let fits : Bound (ended e ls) = beside_less e ls some small in
        let low : Bound (ended false ls) = less_false e ls fits in
        let within : LinesWithin (some.first ∷ some.more) = subst LinesWithin some.is (known.within c Beside kids h tab low) in
        let well : EndsWell e (some.first ∷ some.more) = subst (EndsWell e) some.is (well_if e ls (known.well c Beside kids h low)) in
        subst (λ (xs : List Line). HasTrees (ended e (quoted_beside xs)) (Q laws (trees c Beside e kids))) (sym some.is)
        (beside_has laws e some.first some.more (trees c Beside e kids) within well (well_some e some.first some.more well) (subst (λ (xs : List Line). Bound (ended e xs)) some.is fits)
        (subst (λ (xs : List Line). HasTrees (ended e xs) (trees c Beside e kids)) some.is (inner_text e c kids inside s h tab safe spaced fits)))

    inner_quiet : (c : Outside) (kids : Blocks) → IsSome kids → ArePlainIn false kids → BlocksTabless kids → Bound (ended true (quoted_beside (inner c kids))) → IsQuiet (ended true (quoted_beside (inner c kids)))
    inner_quiet c kids s h tab small =
        let ls : List Line = inner c kids in
        let some : Cons ls = lines_some c Beside kids s h tab in
        let fits : Bound (ended true ls) = beside_less true ls some small in
        let within : LinesWithin (some.first ∷ some.more) = subst LinesWithin some.is (known.within c Beside kids h tab (less_false true ls fits)) in
        subst (λ (xs : List Line). IsQuiet (ended true (quoted_beside xs))) (sym some.is)
        (beside_quiet laws some.first some.more within (well_some true some.first some.more tt) (subst (λ (xs : List Line). Bound (ended true xs)) some.is fits))

    -- quotes of any blocks

    own_any : (e : Bool) (c : Outside) (kids : Blocks) → Proved kids → ArePlainIn false kids → BlocksTabless kids → HasSafeRules o c Beside kids → AreSpaced o c Beside kids → Bound (ended e (map quoted (own c kids))) → HasTrees (ended e (map quoted (own c kids))) (Q laws (trees c Beside e kids))
    own_any e c Nothing inside h tab safe spaced small = known.empty_quote e
    own_any e c (PlainThen b f) inside h tab safe spaced small = own_has e c (PlainThen b f) inside tt h tab safe spaced small
    own_any e c (QuoteThen kids f) inside h tab safe spaced small = own_has e c (QuoteThen kids f) inside tt h tab safe spaced small
    own_any e c (BulletsThen items f) inside h tab safe spaced small = own_has e c (BulletsThen items f) inside tt h tab safe spaced small
    own_any e c (ItemThen kids f) inside h tab safe spaced small = absurd h

    own_calm : (c : Outside) (kids : Blocks) → ArePlainIn false kids → BlocksTabless kids → Bound (ended true (map quoted (own c kids))) → IsQuiet (ended true (map quoted (own c kids)))
    own_calm c Nothing h tab small = known.empty_quote_quiet
    own_calm c (PlainThen b f) h tab small = own_quiet c (PlainThen b f) tt h tab small
    own_calm c (QuoteThen kids f) h tab small = own_quiet c (QuoteThen kids f) tt h tab small
    own_calm c (BulletsThen items f) h tab small = own_quiet c (BulletsThen items f) tt h tab small
    own_calm c (ItemThen kids f) h tab small = absurd h

    inner_any : (e : Bool) (c : Outside) (kids : Blocks) → Proved kids → ArePlainIn false kids → BlocksTabless kids → HasSafeRules o c Beside kids → AreSpaced o c Beside kids → Bound (ended e (quoted_beside (inner c kids))) → HasTrees (ended e (quoted_beside (inner c kids))) (Q laws (trees c Beside e kids))
    inner_any e c Nothing inside h tab safe spaced small = known.empty_beside e
    inner_any e c (PlainThen b f) inside h tab safe spaced small = inner_has e c (PlainThen b f) inside tt h tab safe spaced small
    inner_any e c (QuoteThen kids f) inside h tab safe spaced small = inner_has e c (QuoteThen kids f) inside tt h tab safe spaced small
    inner_any e c (BulletsThen items f) inside h tab safe spaced small = inner_has e c (BulletsThen items f) inside tt h tab safe spaced small
    inner_any e c (ItemThen kids f) inside h tab safe spaced small = absurd h

    inner_calm : (c : Outside) (kids : Blocks) → ArePlainIn false kids → BlocksTabless kids → Bound (ended true (quoted_beside (inner c kids))) → IsQuiet (ended true (quoted_beside (inner c kids)))
    inner_calm c Nothing h tab small = known.empty_beside_quiet
    inner_calm c (PlainThen b f) h tab small = inner_quiet c (PlainThen b f) tt h tab small
    inner_calm c (QuoteThen kids f) h tab small = inner_quiet c (QuoteThen kids f) tt h tab small
    inner_calm c (BulletsThen items f) h tab small = inner_quiet c (BulletsThen items f) tt h tab small
    inner_calm c (ItemThen kids f) h tab small = absurd h

    abbrev quote_of : Outside → How → Blocks → List Line
    quote_of c how kids = quote_body how (lines c Beside kids) (lines c (Below 1 None) kids)

    quote_has : (e : Bool) (c : Outside) (how : How) (kids : Blocks) → Proved kids → ArePlainIn false kids → BlocksTabless kids → HasSafeRules o c Beside kids → AreSpaced o c Beside kids → Bound (ended e (quote_of c how kids)) → HasTrees (ended e (quote_of c how kids)) (Q laws (trees c Beside e kids))
    quote_has e c Beside kids inside h tab safe spaced small = own_any e c kids inside h tab safe spaced small
    quote_has e c Marked kids inside h tab safe spaced small = inner_any e c kids inside h tab safe spaced small
    quote_has e c (Below n bullet) kids inside h tab safe spaced small = own_any e c kids inside h tab safe spaced small

    quote_calm : (c : Outside) (how : How) (kids : Blocks) → ArePlainIn false kids → BlocksTabless kids → Bound (ended true (quote_of c how kids)) → IsQuiet (ended true (quote_of c how kids))
    quote_calm c Beside kids h tab small = own_calm c kids h tab small
    quote_calm c Marked kids h tab small = inner_calm c kids h tab small
    quote_calm c (Below n bullet) kids h tab small = own_calm c kids h tab small

    quote_blocks : (kids g : Blocks) → Proved kids → Proved g → (e : Bool) (c : Outside) (how : How) → ArePlainIn false (QuoteThen kids g) → BlocksTabless (QuoteThen kids g) → HasSafeRules o c how (QuoteThen kids g) → AreSpaced o c how (QuoteThen kids g)
        → Bound (ended e (flush c how (QuoteThen kids g))) → Parts e (ended e (flush c how (QuoteThen kids g))) (trees c how e (QuoteThen kids g)) c (next c how (QuoteThen kids g)) g
    quote_blocks kids g inside again e c how h tab safe spaced small =
        let ls : List Line = quote_of c how kids in
        step e c (Below (feeds_below_quote o) None) ls (λ e. Node Quote false [] (trees c Beside e kids)) g (h.1) (tab.1)
        (λ e fits. record { has = quote_has e c how kids inside (h.0) (tab.0) (safe.0) (spaced.1) fits; ends = quiet_if e ls (quote_calm c how kids (h.0) (tab.0)) fits })
        (λ s fits first. later_of e c (feeds_below_quote o) None g (ended true ls) again s (h.1) (tab.1) (safe.1) (spaced.2) fits
        (quiets (quote_calm c how kids (h.0) (tab.0) first) (wide_below c (feeds_below_quote o) None g s (h.1) (omega arith))))
        small

    quote_case : (kids g : Blocks) → Proved kids → Proved g → Proved (QuoteThen kids g)
    quote_case kids g inside again = record {
      blocks = λ e c how s h tab safe spaced small. quote_blocks kids g inside again e c how h tab safe spaced small;
      items = λ e b c how is s h tab safe spaced small. absurd h;
    }

    -- items

    beside_inked : (ls ys : List Line) → InkedFirst (quoted_beside ls ++ ys)
    beside_inked [] ys = refl
    beside_inked (l ∷ ls) ys = refl

    hung_inked : (b : ℕ) (ls ys : List Line) → IsBullet b → InkedFirst (hung b ls ++ ys)
    hung_inked b [] ys is = bullet_ink b is
    hung_inked b (l ∷ ls) ys is = bullet_ink b is

    marked_inked : (c : Outside) (f : Blocks) → IsSome f → ArePlainIn false f → BlocksTabless f → InkedFirst (flush c Marked f)
    marked_inked c Nothing s h tab = absurd s
    marked_inked c (PlainThen b f) s h tab =
        let st : Stand b (plain_lines o flags c Marked b) = known.leaf c Marked b (h.0) (tab.0) in
        subst (λ (xs : List Line). InkedFirst (xs ++ lines c (Below (feeds_below o b) None) f)) (sym st.some.is) st.inked
    marked_inked c (QuoteThen kids f) s h tab = beside_inked (lines c Beside kids) (lines c (Below (feeds_below_quote o) None) f)
    marked_inked c (BulletsThen (ItemThen kids g) f) s h tab =
        let b : ℕ = bullet_for o c Marked in
        let ys : List Line = lines c (next c Marked (BulletsThen (ItemThen kids g) f)) f in
        subst InkedFirst (sym (list_is b c kids g ys (bullet_is o c Marked token))) (hung_inked b (lines (in_bullets b c) Marked kids) (lines (in_bullets b c) (Below (feeds_below_item o kids) None) g ++ ys) (bullet_is o c Marked token))
    marked_inked c (BulletsThen Nothing f) s h tab = absurd (true≢false (sym (h.0)))
    marked_inked c (BulletsThen (PlainThen p g) f) s h tab = absurd (true≢false (sym (h.0)))
    marked_inked c (BulletsThen (QuoteThen kids g) f) s h tab = absurd (true≢false (sym (h.0)))
    marked_inked c (BulletsThen (BulletsThen items g) f) s h tab = absurd (true≢false (sym (h.0)))
    marked_inked c (ItemThen kids f) s h tab = absurd h

    first_spaced : (c : Outside) (f : Blocks) → IsSome f → ArePlainIn false f → AreSpaced o c Marked f → IsSome (rest f) → 1 ≤ length (space c (next c Marked f) (rest f))
    first_spaced c Nothing s h spaced k = absurd s
    first_spaced c (PlainThen b f) s h spaced k = spaced_below c (feeds_below o b) None f k (h.1) (spaced.0)
    first_spaced c (QuoteThen kids f) s h spaced k = spaced_below c (feeds_below_quote o) None f k (h.1) (spaced.0)
    first_spaced c (BulletsThen items f) s h spaced k = spaced_below c (feeds_below_list o c.listed items) (Some (bullet_for o c Marked)) f k (h.3) (spaced.0)
    first_spaced c (ItemThen kids f) s h spaced k = absurd h

    bullet_list : (b : ℕ) → IsBullet b → IsListMark (Bullet b)
    bullet_list b (inl e) = rw e refl
    bullet_list b (inr (inl e)) = rw e refl
    bullet_list b (inr (inr e)) = rw e refl

    some_item : (e : Bool) (b : ℕ) (c : Outside) (kids : Blocks) → Proved kids → IsSome kids → IsBullet b → ArePlainIn false kids → BlocksTabless kids → HasSafeRules o (in_bullets b c) Marked kids → AreSpaced o (in_bullets b c) Marked kids
        → Bound (ended e (hung b (lines (in_bullets b c) Marked kids))) → Listed b e (ended e (hung b (lines (in_bullets b c) Marked kids))) (has_gap o (in_bullets b c) Marked kids) (more (Node Item false [] (trees (in_bullets b c) Marked e kids)) none)
    some_item e b c kids inside s is h tab safe spaced small =
        subst (λ (x : List ℕ). Listed b e x (has_gap o ci Marked kids) items) text
        (subst (λ k. Listed b e (item_text (item_mark b) filled w) k items) (marked_gap ci kids s h)
        (one_item laws b e w (trees ci Marked e kids) (has_gap o ci (next ci Marked kids) (rest kids)) parts.apart (parts.parted (first_spaced ci kids s h spaced)) parts.good fits premises))
      where
        ci : Outside
        ci = in_bullets b c

        ls : List Line
        ls = lines ci Marked kids

        fs : List Line
        fs = flush ci Marked kids

        w : List ℕ
        w = ended e fs

        items : Trees
        items = more (Node Item false [] (trees ci Marked e kids)) none

        some : Cons fs
        some = flush_some ci Marked kids s h tab

        same : ls ≡ fs
        same = split ci Marked kids s ∙ ap (λ (g : List Line). g ++ fs) (none_marked ci kids h)

        shape : ls ≡ some.first ∷ some.more
        shape = same ∙ some.is

        whole : Bound (ended e (hung b (some.first ∷ some.more)))
        whole = subst (λ (xs : List Line). Bound (ended e (hung b xs))) shape small

        core : Bound (ended e (some.first ∷ some.more))
        core = omega (arith, whole, hung_longer b e some.first some.more)

        fits : Bound w
        fits = subst (λ (xs : List Line). Bound (ended e xs)) (sym some.is) core

        low : Bound (ended false ls)
        low = subst (λ (xs : List Line). Bound (ended false xs)) (sym shape) (less_false e (some.first ∷ some.more) core)

        within : LinesWithin (some.first ∷ some.more)
        within = subst LinesWithin shape (known.within ci Marked kids h tab low)

        well : EndsWell e (some.first ∷ some.more)
        well = subst (EndsWell e) shape (well_if e ls (known.well ci Marked kids h low))

        inked : Inked some.first
        inked = subst InkedFirst some.is (marked_inked ci kids s h tab)

        starts : Starts b (first_line ls)
        starts = known.starts b c kids is h tab safe (less_false e (hung b ls) small)

        parts : Parts e w (trees ci Marked e kids) ci (next ci Marked kids) (rest kids)
        parts = inside.blocks e ci Marked s h tab safe spaced fits

        text : item_text (item_mark b) filled w ≡ ended e (hung b ls)
        text =
            ap (λ (xs : List Line). item_text (item_mark b) filled (ended e xs)) some.is
            ∙ item_is b e some.first some.more within well
            ∙ ap (λ (xs : List Line). ended e (hung b xs)) (sym shape)

        premises : Fits b w
        premises = record {
          kind = (omega arith, bullet_list b is, omega arith, omega arith);
          begins = inl (subst (λ (xs : List Line). begins_with_ink (ended e xs) ≡ true) (sym some.is) (text_ink e some.first some.more (within.0) inked));
          plain = tabless e fs (subst LinesWithin (sym some.is) within);
          break =
              ap (λ (xs : List Line). is_break (b ∷ 32 ∷ first_of_text (ended e xs))) some.is
              ∙ ap (λ l. is_break (b ∷ 32 ∷ l)) (text_first e some.first some.more (within.0))
              ∙ ap (λ (xs : List Line). is_break (b ∷ 32 ∷ first_line xs)) (sym shape)
              ∙ starts.break;
          small = omega (arith, fits);
        }

    item_listed : (e : Bool) (b : ℕ) (c : Outside) (kids : Blocks) → Proved kids → IsBullet b → ArePlainIn false kids → BlocksTabless kids → HasSafeRules o (in_bullets b c) Marked kids → AreSpaced o (in_bullets b c) Marked kids
        → Bound (ended e (hung b (lines (in_bullets b c) Marked kids))) → Listed b e (ended e (hung b (lines (in_bullets b c) Marked kids))) (has_gap o (in_bullets b c) Marked kids) (more (Node Item false [] (trees (in_bullets b c) Marked e kids)) none)
    item_listed e b c Nothing inside is h tab safe spaced small = known.empty_item b e is
    item_listed e b c (PlainThen p f) inside is h tab safe spaced small = some_item e b c (PlainThen p f) inside tt is h tab safe spaced small
    item_listed e b c (QuoteThen kids f) inside is h tab safe spaced small = some_item e b c (QuoteThen kids f) inside tt is h tab safe spaced small
    item_listed e b c (BulletsThen items f) inside is h tab safe spaced small = some_item e b c (BulletsThen items f) inside tt is h tab safe spaced small
    item_listed e b c (ItemThen kids f) inside is h tab safe spaced small = absurd h

    twice_not : (k : Bool) → not (not k) ≡ k
    twice_not true = refl
    twice_not false = refl

    fed_line : (ls : List Line) → Cons ls → (front : List ℕ) × (ended true ls ≡ front ++ 10 ∷ [])
    fed_line ls some = subst (λ (xs : List Line). (front : List ℕ) × (ended true xs ≡ front ++ 10 ∷ [])) (sym some.is) (fed_front some.first some.more)

    hung_cons : (b : ℕ) (ls : List Line) → Cons (hung b ls)
    hung_cons b [] = record { first = b ∷ 32 ∷ []; more = []; is = refl }
    hung_cons b (l ∷ ls) = record { first = b ∷ 32 ∷ l; more = map hanged ls; is = refl }

    items_listed : (kids g : Blocks) → Proved kids → Proved g → (e : Bool) (b : ℕ) (c : Outside) (how : How) → IsBullet b → ArePlainIn true (ItemThen kids g) → BlocksTabless (ItemThen kids g) → HasSafeRules o (in_bullets b c) how (ItemThen kids g) → AreSpaced o (in_bullets b c) how (ItemThen kids g)
        → Bound (ended e (hung b (lines (in_bullets b c) Marked kids) ++ lines (in_bullets b c) (Below (feeds_below_item o kids) None) g))
        → Listed b e (ended e (hung b (lines (in_bullets b c) Marked kids) ++ lines (in_bullets b c) (Below (feeds_below_item o kids) None) g)) (not (is_tight o (in_bullets b c) (ItemThen kids g))) (trees (in_bullets b c) how e (ItemThen kids g))
    items_listed kids Nothing inside again e b c how is h tab safe spaced small =
        let ls : List Line = hung b (lines (in_bullets b c) Marked kids) in
        let items : Trees = more (Node Item false [] (trees (in_bullets b c) Marked e kids)) none in
        subst (λ (xs : List Line). Listed b e (ended e xs) (not (not (has_gap o (in_bullets b c) Marked kids))) items) (sym (append-nil ls))
        (subst (λ k. Listed b e (ended e ls) k items) (sym (twice_not (has_gap o (in_bullets b c) Marked kids)))
        (item_listed e b c kids inside is (h.0) (tab.0) (safe.0) (spaced.0) (subst (λ (xs : List Line). Bound (ended e xs)) (append-nil ls) small)))
    items_listed kids (ItemThen kin g) inside again e b c how is h tab safe spaced small =
        let ci : Outside = in_bullets b c in
        let n : ℕ = feeds_below_item o kids in
        let ls : List Line = hung b (lines ci Marked kids) in
        let gs : List Line = item_gap (Below n None) in
        let fs : List Line = flush ci (Below n None) (ItemThen kin g) in
        let ys : List Line = lines ci (Below (feeds_below_item o kin) None) g in
        let hs : List Line = hung b (lines ci Marked kin) in
        let first_is : fs ≡ hs ++ ys = ap (λ (xs : List Line). xs ++ ys) (hung_is b (lines ci Marked kin) is) in
        let some : Cons fs = subst Cons (sym first_is) (cons_on hs ys (hung_cons b (lines ci Marked kin))) in
        let same : ended e (ls ++ lines ci (Below n None) (ItemThen kin g)) ≡ ended true ls ++ (feeds (length gs) ++ ended e fs) =
        ap (λ (xs : List Line). ended e (ls ++ xs)) (split ci (Below n None) (ItemThen kin g) tt) ∙ gapped_text e ls gs fs (item_empty (Below n None)) some in
        let fits : Bound (ended true ls ++ (feeds (length gs) ++ ended e fs)) = subst Bound same small in
        let front_fits : Bound (ended true ls) = omega (arith, fits, length-append (ended true ls) (feeds (length gs) ++ ended e fs)) in
        let back_fits : Bound (ended e fs) = omega (arith, fits, length-append (ended true ls) (feeds (length gs) ++ ended e fs), length-append (feeds (length gs)) (ended e fs)) in
        let m : Marker b (ended e fs) = subst (λ (xs : List Line). Marker b (ended e xs)) (sym first_is)
        (bullet_text e b c kin ys is ((h.1).0) ((tab.1).0) ((safe.1).0) (subst (λ (xs : List Line). Bound (ended e xs)) first_is back_fits)) in
        subst (λ (x : List ℕ). Listed b e x true (trees ci how e (ItemThen kids (ItemThen kin g)))) (sym same)
        (more_items laws b e (ended true ls) (length gs) (ended e fs) (has_gap o ci Marked kids) (not (is_tight o ci (ItemThen kin g))) (more (Node Item false [] (trees ci Marked true kids)) none) (trees ci (Below n None) e (ItemThen kin g))
        (lines_wide (max n 2) (omega arith)) (fed_line ls (hung_cons b (lines ci Marked kids))) (item_listed true b c kids inside is (h.0) (tab.0) (safe.0) (spaced.0) front_fits) m.ink m.marks
        (again.items e b c (Below n None) is tt (h.1) (tab.1) (safe.1) (spaced.1) back_fits) fits)
    items_listed kids (PlainThen p f) inside again e b c how is h tab safe spaced small = absurd (h.1)
    items_listed kids (QuoteThen kin f) inside again e b c how is h tab safe spaced small = absurd (h.1)
    items_listed kids (BulletsThen items f) inside again e b c how is h tab safe spaced small = absurd (h.1)

    item_case : (kids g : Blocks) → Proved kids → Proved g → Proved (ItemThen kids g)
    item_case kids g inside again = record {
      blocks = λ e c how s h tab safe spaced small. absurd h;
      items = λ e b c how is s h tab safe spaced small.
          let same : flush (in_bullets b c) how (ItemThen kids g) ≡ hung b (lines (in_bullets b c) Marked kids) ++ lines (in_bullets b c) (Below (feeds_below_item o kids) None) g =
          ap (λ (xs : List Line). xs ++ lines (in_bullets b c) (Below (feeds_below_item o kids) None) g) (hung_is b (lines (in_bullets b c) Marked kids) is) in
          subst (λ (xs : List Line). Listed b e (ended e xs) (not (is_tight o (in_bullets b c) (ItemThen kids g))) (trees (in_bullets b c) how e (ItemThen kids g))) (sym same)
          (items_listed kids g inside again e b c how is h tab safe spaced (subst (λ (xs : List Line). Bound (ended e xs)) same small));
    }

    -- lists

    list_blocks : (kids g f : Blocks) → Proved (ItemThen kids g) → Proved f → (e : Bool) (c : Outside) (how : How) → ArePlainIn false (BulletsThen (ItemThen kids g) f) → BlocksTabless (BulletsThen (ItemThen kids g) f)
        → HasSafeRules o c how (BulletsThen (ItemThen kids g) f) → AreSpaced o c how (BulletsThen (ItemThen kids g) f) → Bound (ended e (flush c how (BulletsThen (ItemThen kids g) f)))
        → Parts e (ended e (flush c how (BulletsThen (ItemThen kids g) f))) (trees c how e (BulletsThen (ItemThen kids g) f)) c (next c how (BulletsThen (ItemThen kids g) f)) f
    list_blocks kids g f inside again e c how h tab safe spaced small =
        let b : ℕ = bullet_for o c how in
        let is : IsBullet b = bullet_is o c how token in
        let ci : Outside = in_bullets b c in
        let items : Blocks = ItemThen kids g in
        let n : ℕ = feeds_below_list o c.listed items in
        let ls : List Line = lines ci Beside items in
        let some : Cons ls = body_some c how (BulletsThen items f) tt h tab in
        step e c (Below n (Some b)) ls (λ e. Node (ListFrom None) (not (is_tight o ci items)) [] (trees ci Beside e items)) f (h.3) (tab.1)
        (λ e fits. let l : Listed b e (ended e ls) (not (is_tight o ci items)) (trees ci Beside e items) = inside.items e b c Beside is tt (h.2) (tab.0) (safe.0) (spaced.1) fits in record { has = l.has; ends = l.ends })
        (λ s fits first.
        let l : Listed b true (ended true ls) (not (is_tight o ci items)) (trees ci Beside true items) = inside.items true b c Beside is tt (h.2) (tab.0) (safe.0) (spaced.1) first in
        let m : Margin b (ended e (flush c (Below n (Some b)) f)) = after_list e c n b f s (h.3) (tab.1) (safe.1) fits in
        later_of e c n (Some b) f (ended true ls) again s (h.3) (tab.1) (safe.1) (spaced.2) fits
        (lists b (record { line = fed_line ls some; list = l.mark }) l.ends m.ink m.other (spaced_below c n (Some b) f s (h.3) (spaced.0))))
        small

    list_case : (kids g f : Blocks) → Proved (ItemThen kids g) → Proved f → Proved (BulletsThen (ItemThen kids g) f)
    list_case kids g f inside again = record {
      blocks = λ e c how s h tab safe spaced small. list_blocks kids g f inside again e c how h tab safe spaced small;
      items = λ e b c how is s h tab safe spaced small. absurd h;
    }

    no_list : (items f : Blocks) → begins_item items ≡ false → Proved (BulletsThen items f)
    no_list items f nil = record {
      blocks = λ e c how s h tab safe spaced small. absurd (true≢false (sym (h.0) ∙ nil));
      items = λ e b c how is s h tab safe spaced small. absurd h;
    }

    pub all_read : (f : Blocks) → Proved f
    all_read Nothing = nothing_case
    all_read (PlainThen b f) = plain_case b f (all_read f)
    all_read (QuoteThen kids f) = quote_case kids f (all_read kids) (all_read f)
    all_read (BulletsThen (ItemThen kids g) f) = list_case kids g f (all_read (ItemThen kids g)) (all_read f)
    all_read (BulletsThen Nothing f) = no_list Nothing f refl
    all_read (BulletsThen (PlainThen b g) f) = no_list (PlainThen b g) f refl
    all_read (BulletsThen (QuoteThen kids g) f) = no_list (QuoteThen kids g) f refl
    all_read (BulletsThen (BulletsThen items g) f) = no_list (BulletsThen items g) f refl
    all_read (ItemThen kids f) = item_case kids f (all_read kids) (all_read f)

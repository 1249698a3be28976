-- What is declared of the lines of trees with lists, by recursion on the trees.
use Rattle.std.proofs.Common.{◌≡◌, inl, inr, ℕ, suc, ◌+◌, ◌-◌, ◌≤◌, max, Bool, true, false, ◌==◌, ◌||◌, nat_lt, if◌then◌else◌, List, [], ◌∷◌, ◌++◌, length, map, refl, ap, sym, subst, ◌∙◌, arith, append_assoc, length-append}
use Rattle.std.specs.Prelude.{Option, Some, None, take_while}
use Rattle.std.specs.Char.{encode_utf8}
use Rattle.std.specs.List.{AllByRecursion}
use Rattle.std.proofs.lemmas.Bool.Decides.{nat_tests}
use Rattle.tocmark_event.specs.Options.{OptionsView}
use Rattle.tocmark_event.specs.declared.event.flags.ParserOptions.{ParserOptions}
use Rattle.tocmark_read_blocks.proofs.PlainLines.{IsWithin}
use Rattle.tocmark_commonmark.specs.Beginnings.{beginning, may_be_lazy}
use Rattle.tocmark_commonmark.specs.Lines.{Line, is_blank_byte}
use Rattle.tocmark_commonmark.specs.Lists.{sibling, same_sort}
use Rattle.tocmark_commonmark.specs.Tree as read
use Rattle.tocmark_laws.specs.Documents.{PlainBlock, PlainParagraph, PlainHeading, PlainRule, PlainCode}
use Rattle.tocmark_document_laws.specs.Blocks.{Blocks, Nothing, PlainThen, QuoteThen, BulletsThen, ItemThen, ArePlainIn, is_nothing}
use Rattle.tocmark_document_laws.specs.DocumentLines.{How, Outside, Beside, Marked, Below, bullet_for, feeds_below, feeds_below_item, feeds_below_list, feeds_below_quote, gap_lines, gap_of, hanging, in_bullets, is_bullet, item_gap, lines_of, list_gap, marker, new_line, other_bullet, paragraph_gap, parted_from, plain_gap, plain_lines, quoted}
use Rattle.tocmark_layout_laws.specs.Declared.{is_gap, has_gap, declared, HasSafeRules}
use Rattle.tocmark_layout_laws.proofs.Starts.{line_at, lines_at, Stops, Becomes}
use Rattle.tocmark_layout_laws.proofs.Fronts.{Inky}
use Rattle.tocmark_layout_laws.proofs.Texts.{LinesBare, Ends}
use Rattle.tocmark_layout_laws.proofs.LaidBlocks.{Before, IsNotRule}
use Rattle.tocmark_layout_laws.proofs.Founds.{lines_from, from_same, empties, Finds, Begins}
use Rattle.tocmark_layout_laws.proofs.Items.{IsApart, Apart, first_line, hung, Filled}
use Rattle.tocmark_layout_laws.proofs.Lists.{Row, IsRow, IsMore, rows_lines, rows_tree, are_none}
use Rattle.tocmark_layout_laws.proofs.Bullets.{IsBullet, IsNoRule}
use Rattle.tocmark_layout_laws.proofs.Gaps.{gap, AreEmpty, gap_empty, Parted, parted, placed, stops_two, stops_empty}

-- plain blocks

abbrev pub IsNotParagraph : PlainBlock → Type 0
IsNotParagraph (PlainParagraph l ms) = ⊥
IsNotParagraph (PlainHeading level ts) = Unit {0}
IsNotParagraph PlainRule = Unit {0}
IsNotParagraph (PlainCode info lines) = Unit {0}

-- a plain block is declared of these lines, also right after a marker and after a list
pub record LaidLeaf (b : PlainBlock) (shown : read.Block) (ls : List (List ℕ)) : Type 0 where
  pub first : List ℕ
  pub more : List (List ℕ)
  pub is : ls ≡ first ∷ more
  pub bare : LinesBare (first ∷ more)
  pub ends : Ends (first ∷ more)
  pub inked : Inky first
  pub within : AllByRecursion IsWithin first
  pub breaks : IsNotRule b → (bullet : ℕ) → IsBullet bullet → IsNoRule bullet first
  pub sorts : (k sort : ℕ) (ls : List Line) → same_sort sort ls (beginning (line_at k first)) ≡ None
  pub lazy : IsNotParagraph b → (k : ℕ) → may_be_lazy (beginning (line_at k first)) ≡ false
  pub takes : (j k : ℕ) (rest : List Line) → Before b rest → Begins (line_at j first ∷ (lines_at k more ++ rest)) (suc (length more)) shown rest

-- gaps

gap_of_empty : (how : How) → AreEmpty (gap_of how)
gap_of_empty Beside = refl
gap_of_empty Marked = refl
gap_of_empty (Below n bullet) = gap_empty (n - 1)

pub new_line_empty : (how : How) → AreEmpty (new_line how)
new_line_empty Beside = refl
new_line_empty Marked = refl
new_line_empty (Below n bullet) = gap_empty (n - 1)

paragraph_empty : (how : How) → AreEmpty (paragraph_gap how)
paragraph_empty Beside = refl
paragraph_empty Marked = refl
paragraph_empty (Below n None) = gap_empty (n - 1)
paragraph_empty (Below n (Some b)) = gap_empty (max n 2 - 1)

pub plain_empty : (how : How) (b : PlainBlock) → AreEmpty (plain_gap how b)
plain_empty how (PlainParagraph l ms) = paragraph_empty how
plain_empty how (PlainHeading level ts) = gap_of_empty how
plain_empty how PlainRule = gap_of_empty how
plain_empty how (PlainCode info lines) = new_line_empty how

pub list_empty : (c : Outside) (how : How) → AreEmpty (list_gap c how)
list_empty c how = by c.listed
  where
    by : (t : Bool) → AreEmpty (if t then new_line how else gap_of how)
    by true = new_line_empty how
    by false = gap_of_empty how

is_gap_is : (ls : List (List ℕ)) → nat_lt 0 (length ls) ≡ is_gap ls
is_gap_is [] = refl
is_gap_is (l ∷ ls) = let n : ℕ = length ls in let q : nat_lt 0 (suc n) ≡ true = grind (arith, nat_tests) in q

-- a block below a gap, and those after it
pub laid_block : (j k : ℕ) (g : List (List ℕ)) (x : List ℕ) (xs rest : List (List ℕ)) (ends : List Line) (b : read.Block) (lead : ℕ) (t : read.Blocks) (more : Bool) → AreEmpty g
    → ((i : ℕ) → Begins (line_at i x ∷ (lines_at k xs ++ (lines_at k rest ++ ends))) (suc (length xs)) b (lines_at k rest ++ ends)) → Finds (lines_from k k rest ++ ends) lead (length rest) t more
    → Finds (lines_from j k ((g ++ (x ∷ xs)) ++ rest) ++ ends) (length g) (length ((g ++ (x ∷ xs)) ++ rest)) (read.more b t) (is_gap g || more)
laid_block j k g x xs rest ends b lead t more empty begins finds =
    let n : ℕ = length g in
    let long : n + (suc (length xs) + length rest) ≡ length ((g ++ (x ∷ xs)) ++ rest) =
    let p : length ((g ++ (x ∷ xs)) ++ rest) ≡ length (g ++ (x ∷ xs)) + length rest = length-append (g ++ (x ∷ xs)) rest in
    let q : length (g ++ (x ∷ xs)) ≡ length g + length (x ∷ xs) = length-append g (x ∷ xs) in
    omega (arith, p, q) in
    subst (λ z. Finds (lines_from j k ((g ++ (x ∷ xs)) ++ rest) ++ ends) n (length ((g ++ (x ∷ xs)) ++ rest)) (read.more b t) (z || more)) (is_gap_is g)
    (subst (λ m. Finds (lines_from j k ((g ++ (x ∷ xs)) ++ rest) ++ ends) n m (read.more b t) (nat_lt 0 n || more)) long
    (subst (λ (ls : List (List ℕ)). Finds (lines_from j k ((ls ++ (x ∷ xs)) ++ rest) ++ ends) n (n + (suc (length xs) + length rest)) (read.more b t) (nat_lt 0 n || more)) (sym empty)
    (placed j k n x xs rest ends b lead (length rest) t more begins finds)))

-- what is after a list

-- lines that go on in no item before them, and are no item of the same list
pub record Tail (b : ℕ) (ls : List Line) : Type 0 where
  pub es : List ℕ
  pub rest : List Line
  pub is : ls ≡ empties es ++ rest
  pub apart : Apart es rest
  pub alone : sibling b rest ≡ None

-- a line below empty lines
pub tail_line : (b k : ℕ) (g : List (List ℕ)) (x : List ℕ) (xs rest : List (List ℕ)) (ends : List Line) → AreEmpty g → ((i : ℕ) (es : List ℕ) → length es ≡ length g → IsApart es (line_at i x)) → ((i : ℕ) (ls : List Line) → sibling b (line_at i x ∷ ls) ≡ None)
    → Tail b (lines_at k ((g ++ (x ∷ xs)) ++ rest) ++ ends)
tail_line b k g x xs rest ends empty apart alone =
    let p : Parted k (length g) x xs rest ends (lines_from k k ((gap (length g) ++ (x ∷ xs)) ++ rest) ++ ends) = parted k k (length g) x xs rest ends in
    record {
      es = p.es;
      rest = line_at p.column x ∷ (lines_at k xs ++ (lines_at k rest ++ ends));
      is =
          ap (λ (ls : List (List ℕ)). lines_at k ((ls ++ (x ∷ xs)) ++ rest) ++ ends) empty
          ∙ ap (λ (ls : List Line). ls ++ ends) (sym (from_same k ((gap (length g) ++ (x ∷ xs)) ++ rest)))
          ∙ p.is;
      apart = apart p.column p.es p.long;
      alone = alone p.column (lines_at k xs ++ (lines_at k rest ++ ends));
    }

-- bullets

pub other_is : (b token : ℕ) → IsBullet token → ((if is_bullet (Some b) token then other_bullet token else token) == b) ≡ false
other_is b token h = by (b == token) refl h
  where
    by : (t : Bool) → (b == token) ≡ t → IsBullet token → ((if t then other_bullet token else token) == b) ≡ false
    by false e h = grind (arith, e, nat_tests)
    by true e h = let same : b ≡ token = grind (arith, e, nat_tests) in other h same
      where
        other : IsBullet token → b ≡ token → (other_bullet token == b) ≡ false
        other (inl p) q = rw (q, p) refl
        other (inr (inl p)) q = rw (q, p) refl
        other (inr (inr p)) q = rw (q, p) refl

other_bullet_is : (token : ℕ) → IsBullet (other_bullet token)
other_bullet_is token = by (token == 42)
  where
    by : (t : Bool) → IsBullet (if t then 45 else 42)
    by true = inr (inr refl)
    by false = inl refl

pub bullet_is : (o : OptionsView) (c : Outside) (how : How) → IsBullet o.list_token → IsBullet (bullet_for o c how)
bullet_is o c how h = by (is_bullet (parted_from c how) o.list_token)
  where
    by : (t : Bool) → IsBullet (if t then other_bullet o.list_token else o.list_token)
    by true = other_bullet_is o.list_token
    by false = h

-- the lines of an item
pub hung_is : (b : ℕ) (ls : List (List ℕ)) → IsBullet b → hanging (marker b) ls ≡ hung b ls
unfolding encode_utf8
hung_is b [] (inl e) = subst (λ c. hanging (marker c) [] ≡ hung c []) (sym e) refl
hung_is b [] (inr (inl e)) = subst (λ c. hanging (marker c) [] ≡ hung c []) (sym e) refl
hung_is b [] (inr (inr e)) = subst (λ c. hanging (marker c) [] ≡ hung c []) (sym e) refl
hung_is b (l ∷ ls) (inl e) = subst (λ c. hanging (marker c) (l ∷ ls) ≡ hung c (l ∷ ls)) (sym e) refl
hung_is b (l ∷ ls) (inr (inl e)) = subst (λ c. hanging (marker c) (l ∷ ls) ≡ hung c (l ∷ ls)) (sym e) refl
hung_is b (l ∷ ls) (inr (inr e)) = subst (λ c. hanging (marker c) (l ∷ ls) ≡ hung c (l ∷ ls)) (sym e) refl

-- how many empty lines are before an item
abbrev pub gap_count : How → ℕ
gap_count (Below n bullet) = max n 2 - 1
gap_count how = 0

pub item_gap_is : (how : How) → item_gap how ≡ gap (gap_count how)
item_gap_is Beside = refl
item_gap_is Marked = refl
item_gap_is (Below n bullet) = refl

-- how many empty lines are in front of blocks
abbrev pub lead : Outside → How → Blocks → ℕ
lead c how Nothing = 0
lead c how (PlainThen b f) = length (plain_gap how b)
lead c how (QuoteThen kids f) = length (new_line how)
lead c how (BulletsThen items f) = length (list_gap c how)
lead c how (ItemThen kids f) = 0

pub plain_marked : (b : PlainBlock) → plain_gap Marked b ≡ []
plain_marked (PlainParagraph l ms) = refl
plain_marked (PlainHeading level ts) = refl
plain_marked PlainRule = refl
plain_marked (PlainCode info lines) = refl

list_marked : (c : Outside) → list_gap c Marked ≡ []
list_marked c = by c.listed
  where
    by : (t : Bool) → (if t then new_line Marked else gap_of Marked) ≡ []
    by true = refl
    by false = refl

list_below : (c : Outside) (n : ℕ) (bullet : Option ℕ) → list_gap c (Below n bullet) ≡ gap_lines n
list_below c n bullet = by c.listed
  where
    by : (t : Bool) → (if t then new_line (Below n bullet) else gap_of (Below n bullet)) ≡ gap_lines n
    by true = refl
    by false = refl

-- there are none right after a marker
pub lead_marked : (c : Outside) (f : Blocks) → lead c Marked f ≡ 0
lead_marked c Nothing = refl
lead_marked c (PlainThen b f) = ap (λ (ls : List (List ℕ)). length ls) (plain_marked b)
lead_marked c (QuoteThen kids f) = refl
lead_marked c (BulletsThen items f) = ap (λ (ls : List (List ℕ)). length ls) (list_marked c)
lead_marked c (ItemThen kids f) = refl

pub becomes : (ls : List Line) (n m : ℕ) (t : read.Blocks) (g : Bool) → Finds ls n m t g → Becomes ls t
becomes ls n m t g h fuel at fits = (h fuel at fits).tree_is

-- lines right after a marker
pub record Started (b : ℕ) (ls : List (List ℕ)) : Type 0 where
  pub front : take_while is_blank_byte (first_line ls) ≡ []
  pub filled : Filled ls
  pub within : AllByRecursion IsWithin (first_line ls)
  pub rule : IsNoRule b (first_line ls)

module _ (o : OptionsView) (flags : ParserOptions) where
  abbrev pub lines : Outside → How → Blocks → List (List ℕ)
  lines c how f = lines_of o flags c how f

  abbrev pub tree_of : Outside → How → Blocks → read.Blocks
  tree_of c how f = declared o flags c how f

  -- the items of a list
  abbrev pub rows : Outside → How → Blocks → List Row
  rows c how Nothing = []
  rows c how (PlainThen b f) = []
  rows c how (QuoteThen kids f) = []
  rows c how (BulletsThen items f) = []
  rows c how (ItemThen kids f) =
      record { gap = gap_count how; lines = lines c Marked kids; blocks = tree_of c Marked kids; gapped = has_gap o c Marked kids }
      ∷ rows c (Below (feeds_below_item o kids) None) f

  pub rows_more : (b : ℕ) (c : Outside) (n : ℕ) (f : Blocks) → AllByRecursion (IsRow b) (rows c (Below n None) f) → AllByRecursion (IsMore b) (rows c (Below n None) f)
  rows_more b c n Nothing h = tt
  rows_more b c n (PlainThen p f) h = tt
  rows_more b c n (QuoteThen kids f) h = tt
  rows_more b c n (BulletsThen items f) h = tt
  rows_more b c n (ItemThen kids f) (r, h) = (record { row = r; some = omega arith }, rows_more b c (feeds_below_item o kids) f h)

  pub rows_are_lines : (b : ℕ) (c : Outside) (how : How) (f : Blocks) → IsBullet b → ArePlainIn true f → lines (in_bullets b c) how f ≡ rows_lines b (rows (in_bullets b c) how f)
  rows_are_lines b c how Nothing bullet h = refl
  rows_are_lines b c how (PlainThen p f) bullet h = absurd h
  rows_are_lines b c how (QuoteThen kids f) bullet h = absurd h
  rows_are_lines b c how (BulletsThen items f) bullet h = absurd h
  rows_are_lines b c how (ItemThen kids f) bullet h =
      let kid_lines : List (List ℕ) = lines (in_bullets b c) Marked kids in
      let rest : List (List ℕ) = lines (in_bullets b c) (Below (feeds_below_item o kids) None) f in
      append_assoc (item_gap how) (hanging (marker b) kid_lines) rest
      ∙ ap (λ (ls : List (List ℕ)). ls ++ (hanging (marker b) kid_lines ++ rest)) (item_gap_is how)
      ∙ ap (λ (ls : List (List ℕ)). gap (gap_count how) ++ (ls ++ rest)) (hung_is b kid_lines bullet)
      ∙ ap (λ (ls : List (List ℕ)). gap (gap_count how) ++ (hung b kid_lines ++ ls)) (rows_are_lines b c (Below (feeds_below_item o kids) None) f bullet (h.1))

  pub rows_are_tree : (c : Outside) (how : How) (f : Blocks) → ArePlainIn true f → tree_of c how f ≡ rows_tree (rows c how f)
  rows_are_tree c how Nothing h = refl
  rows_are_tree c how (PlainThen p f) h = absurd h
  rows_are_tree c how (QuoteThen kids f) h = absurd h
  rows_are_tree c how (BulletsThen items f) h = absurd h
  rows_are_tree c how (ItemThen kids f) h = ap (read.more (read.Item (tree_of c Marked kids))) (rows_are_tree c (Below (feeds_below_item o kids) None) f (h.1))

  pub none_left : (c : Outside) (how : How) (f : Blocks) → ArePlainIn true f → is_nothing f ≡ are_none (rows c how f)
  none_left c how Nothing h = refl
  none_left c how (PlainThen p f) h = absurd h
  none_left c how (QuoteThen kids f) h = absurd h
  none_left c how (BulletsThen items f) h = absurd h
  none_left c how (ItemThen kids f) h = refl

  -- blocks at the front of a quote are declared as those below its empty line
  pub same_tree : (c : Outside) (f : Blocks) → tree_of c (Below 1 None) f ≡ tree_of c Beside f
  same_tree c Nothing = refl
  same_tree c (PlainThen b f) = refl
  same_tree c (QuoteThen kids f) = refl
  same_tree c (BulletsThen items f) = refl
  same_tree c (ItemThen kids f) = refl

  pub same_safe : (c : Outside) (f : Blocks) → HasSafeRules o c Beside f → HasSafeRules o c (Below 1 None) f
  same_safe c Nothing h = h
  same_safe c (PlainThen (PlainParagraph l ms) f) h = h
  same_safe c (PlainThen (PlainHeading level ts) f) h = h
  same_safe c (PlainThen PlainRule f) h = h
  same_safe c (PlainThen (PlainCode info ls) f) h = h
  same_safe c (QuoteThen kids f) h = h
  same_safe c (BulletsThen items f) h = h
  same_safe c (ItemThen kids f) h = h

  -- blocks two line feeds or more below others
  pub stops_below : (c : Outside) (n k : ℕ) (f : Blocks) (es : List ℕ) → 2 ≤ n → ArePlainIn false f → Stops (lines_at k (lines c (Below n None) f) ++ empties es)
  stops_below c n k Nothing es two h = stops_empty es
  stops_below c n k (PlainThen b f) es two h = by b
    where
      rest : PlainBlock → List (List ℕ)
      rest b = lines c (Below (feeds_below o b) None) f

      below : (p : PlainBlock) → Stops (lines_at k ((gap_lines n ++ plain_lines o flags c (Below n None) p) ++ rest p) ++ empties es)
      below p = subst (λ (ls : List (List ℕ)). Stops (lines_at k ls ++ empties es)) (sym (append_assoc (gap_lines n) (plain_lines o flags c (Below n None) p) (rest p))) (stops_two n k _ (empties es) two)

      by : (p : PlainBlock) → Stops (lines_at k (lines c (Below n None) (PlainThen p f)) ++ empties es)
      by (PlainParagraph l ms) = below (PlainParagraph l ms)
      by (PlainHeading level ts) = below (PlainHeading level ts)
      by PlainRule = below PlainRule
      by (PlainCode info ls) = below (PlainCode info ls)
  stops_below c n k (QuoteThen kids f) es two h =
      let body : List (List ℕ) = map quoted ([] ∷ lines c (Below 1 None) kids) in
      subst (λ (ls : List (List ℕ)). Stops (lines_at k ls ++ empties es)) (sym (append_assoc (gap_lines n) body (lines c (Below (feeds_below_quote o) None) f))) (stops_two n k _ (empties es) two)
  stops_below c n k (BulletsThen items f) es two h =
      let b : ℕ = bullet_for o c (Below n None) in
      let body : List (List ℕ) = lines (in_bullets b c) Beside items in
      let rest : List (List ℕ) = lines c (Below (feeds_below_list o c.listed items) (Some b)) f in
      subst (λ (ls : List (List ℕ)). Stops (lines_at k ((ls ++ body) ++ rest) ++ empties es)) (sym (list_below c n None))
      (subst (λ (ls : List (List ℕ)). Stops (lines_at k ls ++ empties es)) (sym (append_assoc (gap_lines n) body rest)) (stops_two n k _ (empties es) two))
  stops_below c n k (ItemThen kids f) es two h = absurd h

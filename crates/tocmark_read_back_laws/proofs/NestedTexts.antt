-- Texts with lists in them: what is read of them one after the other, in an item and in a quote, by the laws of every text.
use Rattle.std.proofs.Common.{◌≡◌, ℕ, zero, suc, ◌+◌, ◌*◌, ◌^◌, ◌<◌, ◌≤◌, Bool, true, false, ◌==◌, List, [], ◌∷◌, ◌++◌, length, replicate, refl, ap, sym, subst, ◌∙◌, arith, append_assoc, append-nil, length-append, None, Some}
use Rattle.std.specs.List.{list_any}
use Rattle.std.proofs.lemmas.Bool.Decides.{nat_tests}
use Rattle.tocmark_read_scan.specs.declared.syntax.TheConstants.{CORE}
use Rattle.tocmark_read_blocks.specs.Blocks.{blocks_in}
use Rattle.tocmark_text_laws.specs.Quoted.{ListFrom, Item, Trees, Node, none, more, read_trees, Mark, quoted, AreMarks, MarksMakeAQuote}
use Rattle.tocmark_text_laws.specs.Sequence.{after_lines, IsClosed, IsQuiet, trees_joined, count_of}
use Rattle.tocmark_text_laws.specs.Items.{Bullet, ItemMark, IsItemMark, marker_bytes, item_text, BeginsItem, first_line, is_break, MarksMakeAnItem}
use Rattle.tocmark_text_laws.specs.Loose.{begins_blank, MarksMakeALooseItem, MarksMakeATightItemOfOneBlock}
use Rattle.tocmark_text_laws.specs.ListEnds.{LeavesList, ends_leaf, outer_mark, begins_at_margin, first_mark, goes_into}
use Rattle.tocmark_text_laws.specs.NearMargin.{begins_near_margin, AListEndsNearMarginInALooseItem}
use Rattle.tocmark_text_laws.specs.OneMoreItem.{lists_joined, OneMoreItem, IsOneMore, ItemsLeaveTheirList, LeavesItem}
use Rattle.tocmark_document_laws.specs.ReadBack.{HasTrees}
use Rattle.tocmark_document_laws.proofs.ReadBackTexts.{mark}

abbrev pub Bound : List ℕ → Type 0
Bound t = 32 * length t + 60 < 2 ^ 64

-- texts one after the other

-- the blocks of a whole text are those of two texts, and what is open after it is what is open after the second one
pub record Row (whole t u : List ℕ) : Type 0 where
  pub trees : read_trees whole ≡ trees_joined (read_trees t) (read_trees u)
  pub definitions : (blocks_in CORE whole).definitions ≡ (blocks_in CORE t).definitions ++ (blocks_in CORE u).definitions
  pub ends : ends_leaf (after_lines whole) ≡ ends_leaf (after_lines u)

-- a text that leaves the same list open as another one, and has the same blocks
pub record Still (whole t : List ℕ) (mark : ℕ) : Type 0 where
  pub leaves : LeavesList whole mark
  pub ends : ends_leaf (after_lines whole) ≡ true
  pub trees : read_trees whole ≡ read_trees t
  pub definitions : (blocks_in CORE whole).definitions ≡ (blocks_in CORE t).definitions

-- the laws of every text that the proof rests on
pub record Laws : Type 0 where
  pub closed_row : (t u : List ℕ) → IsClosed t → Bound (t ++ u) → Row (t ++ u) t u
  pub quiet_row : (t u : List ℕ) → IsQuiet t → Bound (t ++ 10 ∷ u) → Row (t ++ 10 ∷ u) t u
  pub list_row : (t u : List ℕ) (mark : ℕ) → LeavesList t mark → ends_leaf (after_lines t) ≡ true → begins_near_margin u ≡ true → goes_into mark (first_mark u) ≡ false → Bound (t ++ 10 ∷ u) → Row (t ++ 10 ∷ u) t u
  pub list_blank : (t : List ℕ) (mark : ℕ) → LeavesList t mark → ends_leaf (after_lines t) ≡ true → Bound (t ++ 10 ∷ []) → Still (t ++ 10 ∷ []) t mark
  pub quiet_blank : (t : List ℕ) → IsQuiet t → Bound (t ++ 10 ∷ []) → IsClosed (t ++ 10 ∷ [])
  pub closed_quiet : (t : List ℕ) → IsClosed t → IsQuiet t
  pub quiet_ends : (t : List ℕ) → IsQuiet t → ends_leaf (after_lines t) ≡ true
  pub feed : IsClosed (10 ∷ [])
  pub feed_has : HasTrees (10 ∷ []) none
  pub nothing_has : HasTrees [] none
  pub quote : MarksMakeAQuote
  pub quote_quiet : (marks : ℕ → Mark) (t : List ℕ) → (front : List ℕ) × (quoted marks t ≡ front ++ 10 ∷ []) → 0 < length t → 8 * length t + 20 < 2 ^ 64 → list_any (λ b. b == 9) t ≡ false → AreMarks marks 0 true t → IsQuiet (quoted marks t)
  pub item : MarksMakeAnItem
  pub item_leaves : ItemsLeaveTheirList
  pub tight : MarksMakeATightItemOfOneBlock
  pub loose : MarksMakeALooseItem
  pub list_loose : AListEndsNearMarginInALooseItem
  pub one_more : OneMoreItem

-- an empty line ends the leaf that is open after a text with a line feed
abbrev pub EndsIf : Bool → List ℕ → Type 0
EndsIf true t = ends_leaf (after_lines t) ≡ true
EndsIf false t = Unit {0}

-- what is read of a text, with a line feed at its end or not
pub record Good (e : Bool) (t : List ℕ) (ts : Trees) : Type 0 where
  pub has : HasTrees t ts
  pub ends : EndsIf e t

ends_as : (e : Bool) (whole u : List ℕ) → ends_leaf (after_lines whole) ≡ ends_leaf (after_lines u) → EndsIf e u → EndsIf e whole
ends_as true whole u r h = r ∙ h
ends_as false whole u r h = tt

pub row_has : (whole t u : List ℕ) (ts us : Trees) → Row whole t u → HasTrees t ts → HasTrees u us → HasTrees whole (trees_joined ts us)
row_has whole t u ts us r h g = record {
  trees_are = r.trees ∙ ap (λ x. trees_joined x (read_trees u)) h.trees_are ∙ ap (trees_joined ts) g.trees_are;
  undefined = r.definitions ∙ ap (λ ds. ds ++ (blocks_in CORE u).definitions) h.undefined ∙ g.undefined;
}

pub row_good : (e : Bool) (whole t u : List ℕ) (ts us : Trees) → Row whole t u → HasTrees t ts → Good e u us → Good e whole (trees_joined ts us)
row_good e whole t u ts us r h g = record { has = row_has whole t u ts us r h g.has; ends = ends_as e whole u r.ends g.ends }

less_front : (t u : List ℕ) → Bound (t ++ u) → Bound t
less_front t u h = omega (arith, h, length-append t u)

less_back : (t u : List ℕ) → Bound (t ++ u) → Bound u
less_back t u h = omega (arith, h, length-append t u)

-- empty lines
abbrev pub feeds : ℕ → List ℕ
feeds k = replicate k 10

feed_later : (k : ℕ) (u : List ℕ) → feeds k ++ 10 ∷ u ≡ 10 ∷ (feeds k ++ u)
feed_later zero u = refl
feed_later (suc k) u = ap (λ (t : List ℕ). 10 ∷ t) (feed_later k u)

pub feeds_between : (t : List ℕ) (k : ℕ) (u : List ℕ) → (t ++ feeds k) ++ 10 ∷ u ≡ t ++ (feeds (suc k) ++ u)
feeds_between t k u = append_assoc t (feeds k) (10 ∷ u) ∙ ap (λ (x : List ℕ). t ++ x) (feed_later k u)

joined_none : (ts : Trees) → trees_joined ts none ≡ ts
joined_none none = refl
joined_none (more t ts) = ap (more t) (joined_none ts)

same_byte : (b : ℕ) → (b == b) ≡ true
same_byte b = grind (arith, nat_tests)

-- how a text ends before so many empty lines and another one
pub data Ending (t : List ℕ) (k : ℕ) (u : List ℕ) : Type 0 where
  closes : IsClosed t → Ending t k u
  quiets : IsQuiet t → 1 ≤ k → Ending t k u
  lists : (mark : ℕ) → LeavesList t mark → ends_leaf (after_lines t) ≡ true → begins_near_margin u ≡ true → goes_into mark (first_mark u) ≡ false → 1 ≤ k → Ending t k u

abbrev pub L : Trees → Bool → Trees
L ts loose = more (Node (ListFrom None) loose [] ts) none

abbrev pub item_mark : ℕ → ItemMark
item_mark b = record { before = 0; mark = Bullet b; after = 1 }

abbrev pub filled : ℕ → Bool
filled n = false

-- the premises of the laws of items
pub record Fits (b : ℕ) (w : List ℕ) : Type 0 where
  pub kind : IsItemMark (item_mark b)
  pub begins : BeginsItem (item_mark b) w
  pub plain : list_any (λ b. b == 9) w ≡ false
  pub break : is_break (marker_bytes (item_mark b) ++ first_line w) ≡ false
  pub small : 32 * length w + 30 < 2 ^ 64

-- the blocks of a text are one, or those of two texts with empty lines between
pub data Apart (text : List ℕ) (ts : Trees) (gapped : Bool) : Type 0 where
  alone : count_of ts ≡ 1 → gapped ≡ false → Apart text ts gapped
  two : (t : List ℕ) (k : ℕ) (u : List ℕ) (xs us : Trees) → text ≡ t ++ (feeds k ++ u) → Ending t k u → begins_blank u ≡ false → HasTrees t xs → HasTrees u us → ts ≡ trees_joined xs us → (1 ≤ k → gapped ≡ true) → Apart text ts gapped

-- whether it has an empty line where the first of them is followed by another
abbrev pub IsParted : (text : List ℕ) (ts : Trees) (gapped : Bool) → Apart text ts gapped → Type 0
IsParted text ts gapped (alone n g) = Unit {0}
IsParted text ts gapped (two t k u xs us is ending some h g joined gap) = 1 ≤ k

-- a list with one item, or with more
pub record Listed (b : ℕ) (e : Bool) (t : List ℕ) (loose : Bool) (items : Trees) : Type 0 where
  pub has : HasTrees t (L items loose)
  pub mark : outer_mark (after_lines t).opened ≡ Some b
  pub ends : EndsIf e t

module _ (laws : Laws) where
  -- empty lines in front change nothing
  pub record Same (whole u : List ℕ) : Type 0 where
    pub trees : read_trees whole ≡ read_trees u
    pub definitions : (blocks_in CORE whole).definitions ≡ (blocks_in CORE u).definitions
    pub ends : ends_leaf (after_lines whole) ≡ ends_leaf (after_lines u)

  pub front : (k : ℕ) (u : List ℕ) → Bound (feeds k ++ u) → Same (feeds k ++ u) u
  front zero u small = record { trees = refl; definitions = refl; ends = refl }
  front (suc k) u small =
      let less : Bound (feeds k ++ u) = omega (arith, small) in
      let s : Same (feeds k ++ u) u = front k u less in
      let r : Row (10 ∷ (feeds k ++ u)) (10 ∷ []) (feeds k ++ u) = laws.closed_row (10 ∷ []) (feeds k ++ u) laws.feed small in
      record {
        trees = r.trees ∙ ap (λ x. trees_joined x (read_trees (feeds k ++ u))) (laws.feed_has).trees_are ∙ s.trees;
        definitions = r.definitions ∙ ap (λ ds. ds ++ (blocks_in CORE (feeds k ++ u)).definitions) (laws.feed_has).undefined ∙ s.definitions;
        ends = r.ends ∙ s.ends;
      }

  pub front_good : (e : Bool) (k : ℕ) (u : List ℕ) (ts : Trees) → Bound (feeds k ++ u) → Good e u ts → Good e (feeds k ++ u) ts
  front_good e k u ts small g =
      let s : Same (feeds k ++ u) u = front k u small in
      record { has = record { trees_are = s.trees ∙ g.has.trees_are; undefined = s.definitions ∙ g.has.undefined }; ends = ends_as e (feeds k ++ u) u s.ends g.ends }

  row_later : (whole t v u : List ℕ) → Row whole t v → Same v u → Row whole t u
  row_later whole t v u r s = record {
    trees = r.trees ∙ ap (trees_joined (read_trees t)) s.trees;
    definitions = r.definitions ∙ ap (λ ds. (blocks_in CORE t).definitions ++ ds) s.definitions;
    ends = r.ends ∙ s.ends;
  }

  -- so are empty lines after a list
  pub still : (k : ℕ) (t : List ℕ) (mark : ℕ) → LeavesList t mark → ends_leaf (after_lines t) ≡ true → Bound (t ++ feeds k) → Still (t ++ feeds k) t mark
  still zero t mark h e small = subst (λ (x : List ℕ). Still x t mark) (sym (append-nil t)) (record { leaves = h; ends = e; trees = refl; definitions = refl })
  still (suc k) t mark h e small =
      let q : List ℕ = t ++ 10 ∷ [] in
      let same : q ++ feeds k ≡ t ++ feeds (suc k) = append_assoc t (10 ∷ []) (feeds k) in
      let fits : Bound (q ++ feeds k) = subst Bound (sym same) small in
      let one : Still q t mark = laws.list_blank t mark h e (less_front q (feeds k) fits) in
      let s : Still (q ++ feeds k) q mark = still k q mark one.leaves one.ends fits in
      subst (λ (x : List ℕ). Still x t mark) same (record { leaves = s.leaves; ends = s.ends; trees = s.trees ∙ one.trees; definitions = s.definitions ∙ one.definitions })

  -- and after a text that is quiet
  pub record Calm (whole t : List ℕ) : Type 0 where
    pub quiet : IsQuiet whole
    pub trees : read_trees whole ≡ read_trees t

  pub calm : (k : ℕ) (t : List ℕ) → IsQuiet t → Bound (t ++ feeds k) → Calm (t ++ feeds k) t
  calm zero t h small = subst (λ (x : List ℕ). Calm x t) (sym (append-nil t)) (record { quiet = h; trees = refl })
  calm (suc k) t h small =
      let q : List ℕ = t ++ 10 ∷ [] in
      let same : q ++ feeds k ≡ t ++ feeds (suc k) = append_assoc t (10 ∷ []) (feeds k) in
      let fits : Bound (q ++ feeds k) = subst Bound (sym same) small in
      let first : Bound q = less_front q (feeds k) fits in
      let s : Calm (q ++ feeds k) q = calm k q (laws.closed_quiet q (laws.quiet_blank t h first)) fits in
      let r : Row q t [] = laws.quiet_row t [] h first in
      subst (λ (x : List ℕ). Calm x t) same
      (record { quiet = s.quiet; trees = s.trees ∙ r.trees ∙ ap (trees_joined (read_trees t)) (laws.nothing_has).trees_are ∙ joined_none (read_trees t) })

  -- a text, empty lines, and another text
  pub between : (t : List ℕ) (k : ℕ) (u : List ℕ) → Ending t k u → Bound (t ++ (feeds k ++ u)) → Row (t ++ (feeds k ++ u)) t u
  between t k u (closes c) small = row_later (t ++ (feeds k ++ u)) t (feeds k ++ u) u (laws.closed_row t (feeds k ++ u) c small) (front k u (less_back t (feeds k ++ u) small))
  between t zero u (quiets q some) small = absurd (omega (arith, some))
  between t (suc k) u (quiets q some) small =
      row_later (t ++ (feeds (suc k) ++ u)) t (feeds k ++ u) u (laws.quiet_row t (feeds k ++ u) q small)
      (front k u (let less : Bound (10 ∷ (feeds k ++ u)) = less_back t (feeds (suc k) ++ u) small in omega (arith, less)))
  between t zero u (lists mark h e ink other some) small = absurd (omega (arith, some))
  between t (suc k) u (lists mark h e ink other some) small =
      let fits : Bound ((t ++ feeds k) ++ 10 ∷ u) = subst Bound (sym (feeds_between t k u)) small in
      let s : Still (t ++ feeds k) t mark = still k t mark h e (less_front (t ++ feeds k) (10 ∷ u) fits) in
      let r : Row ((t ++ feeds k) ++ 10 ∷ u) (t ++ feeds k) u = laws.list_row (t ++ feeds k) u mark s.leaves s.ends ink other fits in
      subst (λ (x : List ℕ). Row x t u) (feeds_between t k u)
      (record {
        trees = r.trees ∙ ap (λ x. trees_joined x (read_trees u)) s.trees;
        definitions = r.definitions ∙ ap (λ ds. ds ++ (blocks_in CORE u).definitions) s.definitions;
        ends = r.ends;
      })

  -- items

  abbrev pub Loosens : ℕ → List ℕ → Trees → Type 0
  Loosens b w ts = read_trees (item_text (item_mark b) filled w) ≡ L (more (Node Item false [] ts) none) true

  loosens : (b : ℕ) (t : List ℕ) (k : ℕ) (u : List ℕ) → Ending t (suc k) u → begins_blank u ≡ false → Bound (t ++ (feeds (suc k) ++ u)) → Fits b (t ++ (feeds (suc k) ++ u)) → Loosens b (t ++ (feeds (suc k) ++ u)) (trees_joined (read_trees t) (read_trees u))
  loosens b t k u ending some small f = by ending
    where
      w : List ℕ
      w = t ++ (feeds (suc k) ++ u)

      p : List ℕ
      p = t ++ feeds k

      same : w ≡ p ++ 10 ∷ u
      same = sym (feeds_between t k u)

      fits : Fits b (p ++ 10 ∷ u)
      fits = subst (Fits b) same f

      less : Bound p
      less = less_front p (10 ∷ u) (subst Bound same small)

      quietly : IsQuiet t → Loosens b w (trees_joined (read_trees t) (read_trees u))
      quietly q =
          let c : Calm p t = calm k t q less in
          subst (λ (x : List ℕ). Loosens b x (trees_joined (read_trees t) (read_trees u))) (sym same)
          (laws.loose (item_mark b) filled p u fits.kind fits.begins fits.plain fits.break fits.small c.quiet some
          ∙ ap (λ x. L (more (Node Item false [] (trees_joined x (read_trees u))) none) true) c.trees)

      by : Ending t (suc k) u → Loosens b w (trees_joined (read_trees t) (read_trees u))
      by (closes c) = quietly (laws.closed_quiet t c)
      by (quiets q n) = quietly q
      by (lists mark h e ink other n) =
          let s : Still p t mark = still k t mark h e less in
          subst (λ (x : List ℕ). Loosens b x (trees_joined (read_trees t) (read_trees u))) (sym same)
          (laws.list_loose (item_mark b) filled p u mark fits.kind fits.begins fits.plain fits.break fits.small s.leaves s.ends ink other
          ∙ ap (λ x. L (more (Node Item false [] (trees_joined x (read_trees u))) none) true) s.trees)

  item_loose : (b : ℕ) (w : List ℕ) (ts : Trees) (gapped : Bool) (a : Apart w ts gapped) → IsParted w ts gapped a → HasTrees w ts → Bound w → Fits b w → read_trees (item_text (item_mark b) filled w) ≡ L (more (Node Item false [] ts) none) gapped
  item_loose b w ts gapped (alone n g) parted h small f =
      laws.tight (item_mark b) filled w f.kind f.begins f.plain f.break f.small (ap count_of h.trees_are ∙ n)
      ∙ ap (λ x. L (more (Node Item false [] x) none) false) h.trees_are
      ∙ ap (L (more (Node Item false [] ts) none)) (sym g)
  item_loose b w ts gapped (two t zero u xs us is ending some h g joined gap) parted k small f = absurd (omega (arith, parted))
  item_loose b w ts gapped (two t (suc k) u xs us is ending some h g joined gap) parted i small f =
      ap (λ (x : List ℕ). read_trees (item_text (item_mark b) filled x)) is
      ∙ loosens b t k u ending some (subst Bound is small) (subst (Fits b) is f)
      ∙ ap (λ x. L (more (Node Item false [] (trees_joined x (read_trees u))) none) true) h.trees_are
      ∙ ap (λ x. L (more (Node Item false [] (trees_joined xs x)) none) true) g.trees_are
      ∙ ap (λ x. L (more (Node Item false [] x) none) true) (sym joined)
      ∙ ap (L (more (Node Item false [] ts) none)) (sym (gap parted))

  pub one_item : (b : ℕ) (e : Bool) (w : List ℕ) (ts : Trees) (gapped : Bool) (a : Apart w ts gapped) → IsParted w ts gapped a → Good e w ts → Bound w → Fits b w → Listed b e (item_text (item_mark b) filled w) gapped (more (Node Item false [] ts) none)
  one_item b e w ts gapped a parted g small f =
      let leaves : LeavesItem (item_mark b) filled w = laws.item_leaves (item_mark b) filled w f.kind f.begins f.plain f.break f.small in
      let it = laws.item (item_mark b) filled w f.kind f.begins f.plain f.break f.small in
      record {
        has = record { trees_are = item_loose b w ts gapped a parted g.has small f; undefined = it.definitions ∙ g.has.undefined };
        mark = leaves.list;
        ends = ends_as e (item_text (item_mark b) filled w) w leaves.ends g.ends;
      }

  -- an item, empty lines, and the items after it
  pub more_items : (b : ℕ) (e : Bool) (t : List ℕ) (k : ℕ) (u : List ℕ) (loose other : Bool) (x items : Trees) → 1 ≤ k → (front : List ℕ) × (t ≡ front ++ 10 ∷ []) → Listed b true t loose x → begins_at_margin u ≡ true → first_mark u ≡ Some b → Listed b e u other items → Bound (t ++ (feeds k ++ u))
      → Listed b e (t ++ (feeds k ++ u)) true (trees_joined x items)
  more_items b e t zero u loose other x items some line h ink marks g small = absurd (omega (arith, some))
  more_items b e t (suc k) u loose other x items some line h ink marks g small =
      let p : List ℕ = t ++ feeds k in
      let same : p ++ 10 ∷ u ≡ t ++ (feeds (suc k) ++ u) = feeds_between t k u in
      let fits : Bound (p ++ 10 ∷ u) = subst Bound (sym same) small in
      let s : Still p t b = still k t b (record { line = line; list = h.mark }) h.ends (less_front p (10 ∷ u) fits) in
      let goes : goes_into b (first_mark u) ≡ true = ap (goes_into b) marks ∙ same_byte b in
      let m : IsOneMore (p ++ 10 ∷ u) p u = laws.one_more p u b s.leaves s.ends ink goes (omega (arith, fits, length-append p (10 ∷ u))) in
      subst (λ (w : List ℕ). Listed b e w true (trees_joined x items)) same
      (record {
        has = record {
          trees_are = m.trees ∙ ap (λ y. lists_joined y (read_trees u)) (s.trees ∙ h.has.trees_are) ∙ ap (lists_joined (L x loose)) g.has.trees_are;
          undefined = m.definitions ∙ ap (λ ds. ds ++ (blocks_in CORE u).definitions) (s.definitions ∙ h.has.undefined) ∙ g.has.undefined;
        };
        mark = m.list ∙ g.mark;
        ends = ends_as e (p ++ 10 ∷ u) u m.ends g.ends;
      })

-- A list of items is declared of their lines, whatever blocks are in the items.
use Rattle.std.proofs.Common.{◌≡◌, ◌⊎◌, inl, inr, ℕ, zero, suc, ◌+◌, ◌-◌, ◌≤◌, ◌<◌, Bool, true, false, not, ◌==◌, ◌&&◌, ◌||◌, max, nat_le, nat_lt, if◌then◌else◌, List, [], ◌∷◌, ◌++◌, length, map, drop, replicate, refl, ap, sym, subst, ◌∙◌, arith, append_assoc, length-append}
use Rattle.std.specs.Prelude.{Some, None}
use Rattle.std.specs.List.{AllByRecursion, fold, list_any}
use Rattle.std.proofs.lemmas.Bool.Decides.{nat_tests}
use Rattle.std.proofs.lemmas.List.{length-map}
use Rattle.tocmark_read_scan.proofs.PlainPieces.{drop_behind}
use Rattle.tocmark_read_blocks.proofs.PlainLines.{IsWithin}
use Rattle.tocmark_commonmark.specs.Beginnings.{ItemMark, ItemLine, beginning, may_be_lazy}
use Rattle.tocmark_commonmark.specs.Blocks.{first_block, and_rest, blocks_from}
use Rattle.tocmark_commonmark.specs.Lines.{Line, is_blank_byte}
use Rattle.tocmark_commonmark.specs.Lists.{ItemFound, item_last, item_block, sibling, same_sort, and_siblings, items, gap_after, has_gap, is_tight, items_end, last_is_open, list_block}
use Rattle.tocmark_commonmark.specs.Tree.{Blocks, BulletList, Item, Found, none, more, tree, last_of}
use Rattle.tocmark_layout_laws.proofs.Starts.{part_at, line_at, lines_at, lines_both, need, need_append}
use Rattle.tocmark_layout_laws.proofs.Fronts.{Inky, inky, inky_filled, flush}
use Rattle.tocmark_layout_laws.proofs.Founds.{lines_from, empties, need_empties, empties_passed, gap_from, last_from, Heads, Finds, Begun, Begins}
use Rattle.tocmark_layout_laws.proofs.Items.{indented, Apart, first_line, more_lines, hung, Filled, mark, ItemTaken, need_indented, item_empty, item_full}

-- an item: how many empty lines are before it, the lines of its blocks, the blocks, and whether an empty line is before one of them
pub record Row : Type 0 where
  pub gap : ℕ
  pub lines : List (List ℕ)
  pub blocks : Blocks
  pub gapped : Bool

-- its lines begin an item with this bullet, and have these blocks
pub record IsRow (b : ℕ) (r : Row) : Type 0 where
  pub filled : Filled r.lines
  pub within : AllByRecursion IsWithin (first_line r.lines)
  pub blank : Bool
  pub begins : (k : ℕ) → beginning (line_at k (b ∷ 32 ∷ first_line r.lines)) ≡ ItemLine (mark b k (first_line r.lines) blank)
  pub finds : (j k : ℕ) (es : List ℕ) → Finds (lines_from j k r.lines ++ empties es) 0 (length r.lines) r.blocks r.gapped

-- an item after another one
pub record IsMore (b : ℕ) (r : Row) : Type 0 where
  pub row : IsRow b r
  pub some : 1 ≤ r.gap

-- the lines of items after another one
abbrev pub rows_lines : ℕ → List Row → List (List ℕ)
rows_lines b [] = []
rows_lines b (r ∷ rs) = replicate r.gap [] ++ (hung b r.lines ++ rows_lines b rs)

-- their blocks
abbrev pub rows_tree : List Row → Blocks
rows_tree [] = none
rows_tree (r ∷ rs) = more (Item r.blocks) (rows_tree rs)

-- there are none
abbrev pub are_none : List Row → Bool
are_none [] = true
are_none (r ∷ rs) = false

abbrev Headed : ℕ → List ItemFound → Type 0
Headed first [] = ⊥
Headed first (i ∷ is) = i.first ≡ first

-- the items of so many lines, before so many empty ones
record ItemsAre (first n e : ℕ) (t : Blocks) (tight : Bool) (is : List ItemFound) : Type 0 where
  tree_is : tree (map item_block is) ≡ t
  past : ℕ
  past_is : (past ≡ first + n) ⊎ (past ≡ first + n + e)
  end_is : (z : ℕ) → fold (λ (n : ℕ) (i : ItemFound). i.first + i.count) z is ≡ past
  last_is : (m : ℕ) → m ≤ first → last_from m (map item_block is) + 1 ≡ first + n
  head_is : Headed first is
  tight_is : is_tight is ≡ tight

-- the last line of an item
item_ends : (bs : List Line → List Found) (fuel first b n kids : ℕ) (es : List ℕ) (rest : List Line) (t : Blocks) (g : Bool) (is : List ItemFound) (s : ItemTaken bs fuel first b n kids es rest t g is)
    → n ≡ max kids 1 → item_last s.item + 1 ≡ first + n
item_ends bs fuel first b n kids es rest t g is s long =
    let last : last_of s.item.found ≡ max 0 (0 + kids - 1) = s.shape.last_is 0 (omega arith) (omega arith) in
    omega (arith, last, s.first_is, long)

-- the first block of an item begins in its first line
inner_gap : (fs : List Found) → Heads (0 + 0) fs → has_gap fs ≡ gap_from 0 fs
inner_gap [] h = refl
inner_gap (f ∷ fs) h = ap (λ n. nat_lt 0 n || gap_after f.last fs) (sym h)

or_none : (k : Bool) → (k || false) ≡ k
or_none true = refl
or_none false = refl

last_item : (bs : List Line → List Found) (fuel first b n kids : ℕ) (es : List ℕ) (rest : List Line) (t : Blocks) (g : Bool) (is : List ItemFound) → ItemTaken bs fuel first b n kids es rest t g is → n ≡ max kids 1 → sibling b rest ≡ None
    → ItemsAre first n (length es) (more (Item t) none) (true && not g) is
last_item bs fuel first b n kids es rest t g is s long alone =
    subst (ItemsAre first n (length es) (more (Item t) none) (true && not g)) (sym (s.comes ∙ ap (λ x. s.item ∷ and_siblings (λ s. items bs fuel (first + n + length es) s) x) alone)) (record {
      tree_is = ap (λ x. more (Item x) none) s.shape.tree_is;
      past = s.item.first + s.item.count;
      past_is = by s.count_is;
      end_is = λ z. refl;
      last_is = λ m low. let last : item_last s.item + 1 ≡ first + n = item_ends bs fuel first b n kids es rest t g is s long in omega (arith, last, low, long);
      head_is = s.first_is;
      tight_is = ap (λ k. not (false || k)) (or_none (has_gap s.item.found) ∙ inner_gap s.item.found s.shape.head_is ∙ s.shape.gap_is);
    })
  where
    by : (s.item.count ≡ n) ⊎ (s.item.count ≡ n + length es) → (s.item.first + s.item.count ≡ first + n) ⊎ (s.item.first + s.item.count ≡ first + n + length es)
    by (inl e) = inl (omega (arith, e, s.first_is))
    by (inr e) = inr (omega (arith, e, s.first_is))

-- an empty line between two items
loose : (i : ItemFound) (is : List ItemFound) (first : ℕ) → Headed first is → item_last i + 1 < first → is_tight (i ∷ is) ≡ false
loose i [] first h far = absurd h
loose i (k ∷ ks) first h far =
    let test : nat_lt (item_last i + 1) k.first ≡ true = grind (arith, h, far, nat_tests) in
    ap (λ x. not ((x || gap_after (item_last k) (map item_block ks)) || list_any (λ (i : ItemFound). has_gap i.found) (i ∷ k ∷ ks))) test

more_items : (bs : List Line → List Found) (fuel first b n kids e m : ℕ) (gap : List ℕ) (rest : List Line) (t u : Blocks) (g tight : Bool) (is next : List ItemFound) → ItemTaken bs fuel first b n kids gap rest t g is → n ≡ max kids 1
    → and_siblings (λ s. items bs fuel (first + n + length gap) s) (sibling b rest) ≡ next → 1 ≤ length gap → ItemsAre (first + n + length gap) m e u tight next
    → ItemsAre first (n + (length gap + m)) e (more (Item t) u) false is
more_items bs fuel first b n kids e m gap rest t u g tight is next s long goes some r =
    subst (ItemsAre first (n + (length gap + m)) e (more (Item t) u) false) (sym (s.comes ∙ ap (λ (x : List ItemFound). s.item ∷ x) goes)) (record {
      tree_is = ap (λ x. more (Item x) (tree (map item_block next))) s.shape.tree_is ∙ ap (more (Item t)) r.tree_is;
      past = r.past;
      past_is = by r.past_is;
      end_is = λ z. r.end_is (s.item.first + s.item.count);
      last_is = λ k low.
          let after : last_from (max k (item_last s.item)) (map item_block next) + 1 ≡ first + n + length gap + m = r.last_is (max k (item_last s.item)) (omega (arith, low, last)) in
          omega (arith, after);
      head_is = s.first_is;
      tight_is = loose s.item next (first + n + length gap) r.head_is (omega (arith, last, some));
    })
  where
    last : item_last s.item + 1 ≡ first + n
    last = item_ends bs fuel first b n kids gap rest t g is s long

    by : (r.past ≡ first + n + length gap + m) ⊎ (r.past ≡ first + n + length gap + m + e) → (r.past ≡ first + (n + (length gap + m))) ⊎ (r.past ≡ first + (n + (length gap + m)) + e)
    by (inl q) = inl (omega (arith, q))
    by (inr q) = inr (omega (arith, q))

-- the item after some empty lines
pub marks_apart : (b k : ℕ) (r : Row) (es : List ℕ) (ls : List Line) → is_blank_byte b ≡ false → IsRow b r → Apart es (line_at k (b ∷ 32 ∷ first_line r.lines) ∷ ls)
unfolding may_be_lazy
marks_apart b k r es ls inked row =
    let x : List ℕ = b ∷ 32 ∷ first_line r.lines in
    let i : Inky x = inky b (32 ∷ first_line r.lines) inked in
    record {
      part = part_at k x;
      is = refl;
      some = inky_filled x i;
      near = ap (nat_le 2) (flush k x i);
      lazy = inl (ap may_be_lazy (row.begins k));
    }

marks_sibling : (b k : ℕ) (r : Row) (ls : List Line) (row : IsRow b r) → sibling b (line_at k (b ∷ 32 ∷ first_line r.lines) ∷ ls) ≡ Some (mark b k (first_line r.lines) row.blank, ls)
marks_sibling b k r ls row =
    let same : (b == b) ≡ true = grind (arith, nat_tests) in
    ap (same_sort b ls) (row.begins k)
    ∙ ap (λ t. if t then Some (mark b k (first_line r.lines) row.blank, ls) else None) same

pub gap_at : (k n : ℕ) → lines_at k (replicate n []) ≡ empties (replicate n k)
gap_at k zero = refl
gap_at k (suc n) = ap (λ (ls : List Line). line_at k [] ∷ ls) (gap_at k n)

pub gap_long : (k n : ℕ) → length (replicate n k) ≡ n
gap_long k zero = refl
gap_long k (suc n) = let a : length (replicate n k) ≡ n = gap_long k n in omega (arith, a)

pub gap_wide : (n : ℕ) → length (replicate {A = List ℕ} n []) ≡ n
gap_wide zero = refl
gap_wide (suc n) = let a : length (replicate {A = List ℕ} n []) ≡ n = gap_wide n in omega (arith, a)

module _ (b : ℕ) (inked : is_blank_byte b ≡ false) (limit : ℕ) where
  abbrev bs : List Line → List Found
  bs ls = blocks_from limit 0 ls

  -- the lines below an item's marker
  abbrev below : ℕ → Row → List Line → List Line
  below k r ls = lines_at k (map indented (more_lines r.lines)) ++ ls

  -- an item before these lines
  item_is : (r : Row) (fuel first j k : ℕ) (es : List ℕ) (rest : List Line) (row : IsRow b r) → Apart es rest → 1 + length (first_line r.lines) + need (below k r (empties es ++ rest)) ≤ limit
      → ItemTaken bs fuel first b (suc (length (more_lines r.lines))) (length r.lines) es rest r.blocks r.gapped (items bs (suc fuel) first (mark b j (first_line r.lines) row.blank, below k r (empties es ++ rest)))
  item_is r fuel first j k es rest row apart fits = by r.lines row.filled row.finds fits
    where
      by : (ls : List (List ℕ)) → Filled ls → ((j k : ℕ) (es : List ℕ) → Finds (lines_from j k ls ++ empties es) 0 (length ls) r.blocks r.gapped)
          → 1 + length (first_line ls) + need (lines_at k (map indented (more_lines ls)) ++ (empties es ++ rest)) ≤ limit
          → ItemTaken bs fuel first b (suc (length (more_lines ls))) (length ls) es rest r.blocks r.gapped (items bs (suc fuel) first (mark b j (first_line ls) row.blank, lines_at k (map indented (more_lines ls)) ++ (empties es ++ rest)))
      by [] filled finds fits = item_empty limit fuel first b j k row.blank es rest r.blocks r.gapped apart (finds 0 0 ((j + 1 + 1) ∷ [])) (omega (arith, fits))
      by (x ∷ xs) filled finds fits =
          let first_part : need (lines_at k (map indented xs) ++ (empties es ++ rest)) ≡ need (lines_at k (map indented xs)) + need (empties es ++ rest) = need_append (lines_at k (map indented xs)) (empties es ++ rest) in
          let second_part : need (empties es ++ rest) ≡ need (empties es) + need rest = need_append (empties es) rest in
          let inner : need (lines_at (k + 1 + 1) xs ++ empties es) ≡ need (lines_at (k + 1 + 1) xs) + need (empties es) = need_append (lines_at (k + 1 + 1) xs) (empties es) in
          let less : need (lines_at (k + 1 + 1) xs) ≤ need (lines_at k (map indented xs)) = need_indented k xs in
          item_full limit fuel first b j k row.blank x xs es rest r.blocks r.gapped filled apart (finds (j + 1 + 1) (k + 1 + 1) es) (omega (arith, first_part, second_part, inner, less, fits))

  -- the lines of items after another one, and those after them
  abbrev after : ℕ → List Row → List ℕ → List Line → List Line
  after k rs es rest = lines_at k (rows_lines b rs) ++ (empties es ++ rest)

  after_more : (k : ℕ) (r : Row) (rs : List Row) (es : List ℕ) (rest : List Line)
      → after k (r ∷ rs) es rest ≡ empties (replicate r.gap k) ++ (line_at k (b ∷ 32 ∷ first_line r.lines) ∷ below k r (after k rs es rest))
  after_more k r rs es rest =
      let body : List (List ℕ) = map indented (more_lines r.lines) in
      ap (λ (ls : List Line). ls ++ (empties es ++ rest)) (lines_both k (replicate r.gap []) (hung b r.lines ++ rows_lines b rs))
      ∙ ap (λ (ls : List Line). (ls ++ lines_at k (hung b r.lines ++ rows_lines b rs)) ++ (empties es ++ rest)) (gap_at k r.gap)
      ∙ append_assoc (empties (replicate r.gap k)) (lines_at k (hung b r.lines ++ rows_lines b rs)) (empties es ++ rest)
      ∙ ap (λ (ls : List Line). empties (replicate r.gap k) ++ (line_at k (b ∷ 32 ∷ first_line r.lines) ∷ (ls ++ (empties es ++ rest)))) (lines_both k body (rows_lines b rs))
      ∙ ap (λ (ls : List Line). empties (replicate r.gap k) ++ (line_at k (b ∷ 32 ∷ first_line r.lines) ∷ ls)) (append_assoc (lines_at k body) (lines_at k (rows_lines b rs)) (empties es ++ rest))

  -- how many lines these are
  abbrev count : Row → List Row → ℕ
  count r rs = suc (length (more_lines r.lines)) + length (rows_lines b rs)

  one_long : (ls : List (List ℕ)) → suc (length (more_lines ls)) ≡ max (length ls) 1
  one_long [] = omega arith
  one_long (x ∷ xs) = omega arith

  counted : (r s : Row) (ss : List Row) (gap : List ℕ) → length gap ≡ s.gap → suc (length (more_lines r.lines)) + (length gap + count s ss) ≡ count r (s ∷ ss)
  counted r s ss gap wide =
      let p : length (rows_lines b (s ∷ ss)) ≡ length (replicate {A = List ℕ} s.gap []) + length (hung b s.lines ++ rows_lines b ss) = length-append (replicate s.gap []) (hung b s.lines ++ rows_lines b ss) in
      let q : length (hung b s.lines ++ rows_lines b ss) ≡ length (hung b s.lines) + length (rows_lines b ss) = length-append (hung b s.lines) (rows_lines b ss) in
      let u : length (hung b s.lines) ≡ suc (length (more_lines s.lines)) = ap suc (length-map (more_lines s.lines) indented) in
      let v : length (replicate {A = List ℕ} s.gap []) ≡ s.gap = gap_wide s.gap in
      omega (arith, p, q, u, v, wide)

  items_are : (r : Row) (rs : List Row) (fuel first j k : ℕ) (es : List ℕ) (rest : List Line) (row : IsRow b r) → AllByRecursion (IsMore b) rs → Apart es rest → sibling b rest ≡ None
      → 1 + length (first_line r.lines) + need (below k r (after k rs es rest)) ≤ limit → length (below k r (after k rs es rest)) < fuel
      → ItemsAre first (count r rs) (length es) (rows_tree (r ∷ rs)) (are_none rs && not r.gapped) (items bs fuel first (mark b j (first_line r.lines) row.blank, below k r (after k rs es rest)))
  items_are r rs zero first j k es rest row later apart alone fits enough = absurd (omega (arith, enough))
  items_are r [] (suc fuel) first j k es rest row later apart alone fits enough =
      subst (λ n. ItemsAre first n (length es) (rows_tree (r ∷ [])) (true && not r.gapped) (items bs (suc fuel) first (mark b j (first_line r.lines) row.blank, below k r (empties es ++ rest))))
      (let n : ℕ = length (more_lines r.lines) in let q : suc n ≡ suc n + 0 = omega arith in q)
      (last_item bs fuel first b (suc (length (more_lines r.lines))) (length r.lines) es rest r.blocks r.gapped _ (item_is r fuel first j k es rest row apart fits) (one_long r.lines) alone)
  items_are r (s ∷ ss) (suc fuel) first j k es rest row (m, later) apart alone fits enough =
      let gap : List ℕ = replicate s.gap k in
      let ls : List Line = below k s (after k ss es rest) in
      let line : Line = line_at k (b ∷ 32 ∷ first_line s.lines) in
      let parted : after k (s ∷ ss) es rest ≡ empties gap ++ (line ∷ ls) = after_more k s ss es rest in
      let wide : length gap ≡ s.gap = gap_long k s.gap in
      let fit : 1 + length (first_line r.lines) + need (below k r (empties gap ++ (line ∷ ls))) ≤ limit = subst (λ (xs : List Line). 1 + length (first_line r.lines) + need (below k r xs) ≤ limit) parted fits in
      let long : length (below k r (empties gap ++ (line ∷ ls))) < suc fuel = subst (λ (xs : List Line). length (below k r xs) < suc fuel) parted enough in
      let n : ℕ = suc (length (more_lines r.lines)) in
      let rest_fits : 1 + length (first_line s.lines) + need ls ≤ limit =
      let p : need (below k r (empties gap ++ (line ∷ ls))) ≡ need (lines_at k (map indented (more_lines r.lines))) + need (empties gap ++ (line ∷ ls)) = need_append (lines_at k (map indented (more_lines r.lines))) (empties gap ++ (line ∷ ls)) in
      let q : need (empties gap ++ (line ∷ ls)) ≡ need (empties gap) + need (line ∷ ls) = need_append (empties gap) (line ∷ ls) in
      omega (arith, p, q, fit) in
      let rest_long : length ls < fuel =
      let p : length (below k r (empties gap ++ (line ∷ ls))) ≡ length (lines_at k (map indented (more_lines r.lines))) + length (empties gap ++ (line ∷ ls)) = length-append (lines_at k (map indented (more_lines r.lines))) (empties gap ++ (line ∷ ls)) in
      let q : length (empties gap ++ (line ∷ ls)) ≡ length (empties gap) + length (line ∷ ls) = length-append (empties gap) (line ∷ ls) in
      omega (arith, p, q, long) in
      subst (λ (xs : List Line). ItemsAre first (count r (s ∷ ss)) (length es) (rows_tree (r ∷ s ∷ ss)) false (items bs (suc fuel) first (mark b j (first_line r.lines) row.blank, below k r xs))) (sym parted)
      (subst (λ n. ItemsAre first n (length es) (rows_tree (r ∷ s ∷ ss)) false (items bs (suc fuel) first (mark b j (first_line r.lines) row.blank, below k r (empties gap ++ (line ∷ ls))))) (counted r s ss gap wide)
      (more_items bs fuel first b n (length r.lines) (length es) (count s ss) gap (line ∷ ls) r.blocks (rows_tree (s ∷ ss)) r.gapped (are_none ss && not s.gapped) _
      (items bs fuel (first + n + length gap) (mark b k (first_line s.lines) (m.row).blank, ls))
      (item_is r fuel first j k gap (line ∷ ls) row (marks_apart b k s gap ls inked m.row) fit)
      (one_long r.lines)
      (ap (and_siblings (λ x. items bs fuel (first + n + length gap) x)) (marks_sibling b k s ls m.row))
      (let some : 1 ≤ s.gap = m.some in omega (arith, wide, some))
      (items_are s ss fuel (first + n + length gap) k k es rest m.row later apart alone rest_fits rest_long)))

-- the list that items make

abbrev open_of : ItemMark → ℕ → List ItemFound → Found
open_of m at is = record {
  block = list_block m m.number (is_tight is) (tree (map item_block is));
  first = at;
  last = last_of (map item_block is);
  is_open = last_is_open (map item_block is);
}

-- items begin a list
pub list_begins : (b : ℕ) (r : Row) (rs : List Row) (j k : ℕ) (es : List ℕ) (rest : List Line) → is_blank_byte b ≡ false → IsRow b r → AllByRecursion (IsMore b) rs → Apart es rest → sibling b rest ≡ None
    → Begins (lines_from j k (hung b r.lines ++ rows_lines b rs) ++ (empties es ++ rest)) (length (hung b r.lines ++ rows_lines b rs)) (BulletList b (are_none rs && not r.gapped) (rows_tree (r ∷ rs))) (empties es ++ rest)
unfolding blocks_from
list_begins b r rs j k es rest inked row later apart alone zero at fits = absurd (omega (arith, fits))
list_begins b r rs j k es rest inked row later apart alone (suc fuel) at fits = by are.past_is
  where
    tail : List Line
    tail = empties es ++ rest

    body : List Line
    body = lines_at k (map indented (more_lines r.lines) ++ rows_lines b rs)

    line : Line
    line = line_at j (b ∷ 32 ∷ first_line r.lines)

    m : ItemMark
    m = mark b j (first_line r.lines) row.blank

    blocks_in : List Line → List Found
    blocks_in ls = blocks_from fuel 0 ls

    is : List ItemFound
    is = items blocks_in (length (body ++ tail) + 1) at (m, body ++ tail)

    count_lines : ℕ
    count_lines = length (hung b r.lines ++ rows_lines b rs)

    parted : body ++ tail ≡ lines_at k (map indented (more_lines r.lines)) ++ (lines_at k (rows_lines b rs) ++ tail)
    parted = ap (λ (ls : List Line). ls ++ tail) (lines_both k (map indented (more_lines r.lines)) (rows_lines b rs)) ∙ append_assoc (lines_at k (map indented (more_lines r.lines))) (lines_at k (rows_lines b rs)) tail

    long : suc (length (more_lines r.lines)) + length (rows_lines b rs) ≡ count_lines
    long =
        let p : length (hung b r.lines ++ rows_lines b rs) ≡ length (hung b r.lines) + length (rows_lines b rs) = length-append (hung b r.lines) (rows_lines b rs) in
        let q : length (map indented (more_lines r.lines)) ≡ length (more_lines r.lines) = length-map (more_lines r.lines) indented in
        omega (arith, p, q)

    are : ItemsAre at count_lines (length es) (rows_tree (r ∷ rs)) (are_none rs && not r.gapped) is
    are =
        subst (λ (xs : List Line). ItemsAre at count_lines (length es) (rows_tree (r ∷ rs)) (are_none rs && not r.gapped) (items blocks_in (length xs + 1) at (m, xs))) (sym parted)
        (subst (λ n. ItemsAre at n (length es) (rows_tree (r ∷ rs)) (are_none rs && not r.gapped) (items blocks_in (length (lines_at k (map indented (more_lines r.lines)) ++ (lines_at k (rows_lines b rs) ++ tail)) + 1) at (m, lines_at k (map indented (more_lines r.lines)) ++ (lines_at k (rows_lines b rs) ++ tail)))) long
        (items_are b inked fuel r rs (length (lines_at k (map indented (more_lines r.lines)) ++ (lines_at k (rows_lines b rs) ++ tail)) + 1) at j k es rest row later apart alone
        (subst (λ (xs : List Line). 1 + length (first_line r.lines) + need xs ≤ fuel) parted (omega (arith, fits)))
        (omega arith)))

    found : Found
    found = open_of m at is

    whole : List Line
    whole = line ∷ (body ++ tail)

    comes : blocks_from (suc fuel) at whole ≡ found ∷ blocks_from fuel (at + (items_end is - at)) (drop (items_end is - at) whole)
    comes = ap (λ x. and_rest (λ n y. blocks_from fuel n y) at whole (first_block blocks_in at line (body ++ tail) x)) (row.begins j)

    shown : found.block ≡ BulletList b (are_none rs && not r.gapped) (rows_tree (r ∷ rs))
    shown = ap (λ t. BulletList b t (tree (map item_block is))) are.tight_is ∙ ap (BulletList b (are_none rs && not r.gapped)) are.tree_is

    last : found.last + 1 ≡ at + count_lines
    last = are.last_is 0 (omega arith)

    wide : length (line ∷ body) ≡ count_lines
    wide = ap suc (length-map (map indented (more_lines r.lines) ++ rows_lines b rs) (line_at k))

    tail_need : need tail ≡ need (empties es) + need rest
    tail_need = need_append (empties es) rest

    whole_need : need (body ++ tail) ≡ need body + need tail
    whole_need = need_append body tail

    by : (are.past ≡ at + count_lines) ⊎ (are.past ≡ at + count_lines + length es) → Begun (suc fuel) at count_lines (BulletList b (are_none rs && not r.gapped) (rows_tree (r ∷ rs))) whole tail
    by (inl e) =
        let end : items_end is ≡ are.past = are.end_is 0 in
        let n : items_end is - at ≡ count_lines = omega (arith, end, e) in
        record {
          found = found;
          is = shown;
          first = refl;
          last = last;
          left = fuel;
          enough = omega (arith, whole_need, fits);
          comes =
              comes
              ∙ ap (λ d. found ∷ blocks_from fuel (at + d) (drop d whole)) n
              ∙ ap (λ (xs : List Line). found ∷ blocks_from fuel (at + count_lines) xs) (ap (λ d. drop d whole) (sym wide) ∙ drop_behind (line ∷ body) tail);
        }
    by (inr e) =
        let end : items_end is ≡ are.past = are.end_is 0 in
        let n : items_end is - at ≡ count_lines + length es = omega (arith, end, e) in
        let wider : length ((line ∷ body) ++ empties es) ≡ count_lines + length es = length-append (line ∷ body) (empties es) ∙ ap (λ d. d + length (empties es)) wide ∙ ap (λ d. count_lines + d) (length-map es (λ k. line_at k [])) in
        record {
          found = found;
          is = shown;
          first = refl;
          last = last;
          left = length es + fuel;
          enough = omega (arith, whole_need, tail_need, need_empties es, fits);
          comes =
              comes
              ∙ ap (λ d. found ∷ blocks_from fuel (at + d) (drop d whole)) n
              ∙ ap (λ (xs : List Line). found ∷ blocks_from fuel (at + (count_lines + length es)) xs)
              (ap (λ d. drop d whole) (sym wider) ∙ ap (λ (xs : List Line). drop (length ((line ∷ body) ++ empties es)) xs) (sym (append_assoc (line ∷ body) (empties es) rest)) ∙ drop_behind ((line ∷ body) ++ empties es) rest)
              ∙ ap (λ d. found ∷ blocks_from fuel d rest) (omega arith)
              ∙ ap (λ (xs : List Found). found ∷ xs) (sym (empties_passed es rest fuel (at + count_lines)));
        }

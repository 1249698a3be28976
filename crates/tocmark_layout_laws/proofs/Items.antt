-- A list of items is declared of their lines, whatever blocks are in the items.
use Rattle.std.proofs.Common.{◌≡◌, ◌⊎◌, inl, inr, ℕ, suc, ◌+◌, ◌-◌, ◌%◌, ◌≤◌, Bool, true, false, not, ◌==◌, ◌||◌, max, cond, nat_le, if◌then◌else◌, List, [], ◌∷◌, ◌++◌, length, map, drop, refl, ap, sym, ◌∙◌, arith, append_assoc, append-nil, length-append, true≢false}
use Rattle.std.specs.Prelude.{Some, None, take_while}
use Rattle.std.specs.List.{fold, list_any}
use Rattle.std.proofs.lemmas.Bool.Decides.{nat_tests}
use Rattle.std.proofs.lemmas.List.{length-map}
use Rattle.std.proofs.lemmas.List.Sums.{take_while-cons}
use Rattle.tocmark_read_scan.proofs.PlainPieces.{drop_behind}
use Rattle.tocmark_commonmark.specs.Beginnings.{ItemMark, beginning, may_be_lazy}
use Rattle.tocmark_commonmark.specs.Blocks.{blocks_from}
use Rattle.tocmark_commonmark.specs.Containers.{goes_on, front, lazily, in_item_as, in_item, item_lines}
use Rattle.tocmark_commonmark.specs.Lines.{Line, Part, Written, Lazy, is_blank_byte, is_blank, is_blank_line, column_after, indent, ink, without_columns}
use Rattle.tocmark_commonmark.specs.Lists.{ItemFound, sibling, and_siblings, blank_count, items_after, items_with, items}
use Rattle.tocmark_commonmark.specs.Tree.{Blocks, Found, ends_open, last_of}
use Rattle.tocmark_layout_laws.proofs.Starts.{part_at, line_at, lines_at, need}
use Rattle.tocmark_layout_laws.proofs.Founds.{lines_from, empties, Shape, Finds, closed_before}

-- lines in an item

-- a line below an item's marker
abbrev pub indented : List ℕ → List ℕ
indented l = 32 ∷ 32 ∷ l

columns_grow : (k : ℕ) (xs : List ℕ) → k ≤ fold column_after k xs
columns_grow k [] = omega arith
columns_grow k (b ∷ bs) = let a : column_after k b ≤ fold column_after (column_after k b) bs = columns_grow (column_after k b) bs in by (b == 9) refl a
  where
    by : (t : Bool) → (b == 9) ≡ t → column_after k b ≤ fold column_after (column_after k b) bs → k ≤ fold column_after (column_after k b) bs
    by true e a = let w : column_after k b ≡ k + (4 - k % 4) = ap (λ t. if t then k + (4 - k % 4) else k + 1) e in omega (arith, a, w)
    by false e a = let w : column_after k b ≡ k + 1 = ap (λ t. if t then k + (4 - k % 4) else k + 1) e in omega (arith, a, w)

indented_front : (l : List ℕ) → take_while is_blank_byte (indented l) ≡ 32 ∷ 32 ∷ take_while is_blank_byte l
indented_front l = take_while-cons is_blank_byte 32 (32 ∷ l) ∙ ap (λ (xs : List ℕ). 32 ∷ xs) (take_while-cons is_blank_byte 32 l)

indented_far : (k : ℕ) (l : List ℕ) → nat_le 2 (indent (part_at k (indented l))) ≡ true
indented_far k l =
    let low : k + 1 + 1 ≤ fold column_after (k + 1 + 1) (take_while is_blank_byte l) = columns_grow (k + 1 + 1) (take_while is_blank_byte l) in
    let n : ℕ = fold column_after (k + 1 + 1) (take_while is_blank_byte l) in
    ap (λ (xs : List ℕ). nat_le 2 (0 + (fold column_after k xs - k))) (indented_front l)
    ∙ (let q : nat_le 2 (0 + (n - k)) ≡ true = grind (arith, low, nat_tests) in q)

-- some line isn't blank
abbrev has_ink : List Line → Bool
has_ink ls = list_any (λ l. not (is_blank_line l)) ls

ink_on : (xs ys : List Line) → has_ink xs ≡ true → has_ink (xs ++ ys) ≡ true
ink_on [] ys h = absurd (true≢false (sym h))
ink_on (x ∷ xs) ys h = by (not (is_blank_line x)) h (ink_on xs ys)
  where
    by : (k : Bool) → (k || has_ink xs) ≡ true → (has_ink xs ≡ true → has_ink (xs ++ ys) ≡ true) → (k || has_ink (xs ++ ys)) ≡ true
    by true e again = refl
    by false e again = again e

-- a line after so many empty ones before which an item ends
pub record IsApart (es : List ℕ) (l : Line) : Type 0 where
  pub part : Part
  pub is : l ≡ Written part
  pub some : is_blank part.bytes ≡ false
  pub near : nat_le 2 (indent part) ≡ false
  pub lazy : (may_be_lazy (beginning l) ≡ false) ⊎ (1 ≤ length es)

abbrev pub Apart : List ℕ → List Line → Type 0
Apart es [] = Unit {0}
Apart es (l ∷ ls) = IsApart es l

module _ (bs : List Line → List Found) where
  abbrev go : List Line → List Line → List Line
  go inside ls = front (in_item bs 2) inside ls

  item_kept : (inside : List Line) (p : Part) (blank : Bool) → has_ink inside ≡ true → in_item_as bs 2 inside p blank true ≡ Some (Written (without_columns 2 p))
  item_kept inside p true h = ap (λ k. if k then Some (Written (without_columns 2 p)) else None) h
  item_kept inside p false h = refl

  item_goes : (inside : List Line) (k : ℕ) (xs : List (List ℕ)) (rest : List Line) → has_ink inside ≡ true
      → go inside (lines_at k (map indented xs) ++ rest) ≡ go (inside ++ lines_at (k + 1 + 1) xs) rest
  item_goes inside k [] rest h = ap (λ (x : List Line). go x rest) (sym (append-nil inside))
  item_goes inside k (x ∷ xs) rest h =
      let p : Part = part_at k (indented x) in
      let next : Line → List Line = λ y. go (inside ++ y ∷ []) (lines_at k (map indented xs) ++ rest) in
      ap (λ far. goes_on next inside (in_item_as bs 2 inside p (is_blank p.bytes) far)) (indented_far k x)
      ∙ ap (goes_on next inside) (item_kept inside p (is_blank p.bytes) h)
      ∙ item_goes (inside ++ line_at (k + 1 + 1) x ∷ []) k xs rest (ink_on inside (line_at (k + 1 + 1) x ∷ []) h)
      ∙ ap (λ (ys : List Line). go ys rest) (append_assoc inside (line_at (k + 1 + 1) x ∷ []) (lines_at (k + 1 + 1) xs))

  item_blanks : (inside : List Line) (es : List ℕ) (rest : List Line) → has_ink inside ≡ true → go inside (empties es ++ rest) ≡ go (inside ++ empties es) rest
  item_blanks inside [] rest h = ap (λ (x : List Line). go x rest) (sym (append-nil inside))
  item_blanks inside (e ∷ es) rest h =
      let next : Line → List Line = λ y. go (inside ++ y ∷ []) (empties es ++ rest) in
      ap (λ k. goes_on next inside (if k then Some (line_at e []) else None)) h
      ∙ item_blanks (inside ++ line_at e [] ∷ []) es rest (ink_on inside (line_at e [] ∷ []) h)
      ∙ ap (λ (ys : List Line). go ys rest) (append_assoc inside (line_at e [] ∷ []) (empties es))

  item_ends : (es : List ℕ) (inside rest : List Line) → Apart es rest → (1 ≤ length es → ends_open (length inside) (bs inside) ≡ false) → go inside rest ≡ inside
  item_ends es inside [] a closed = refl
  item_ends es inside (l ∷ ls) a closed =
      ap (λ x. goes_on next inside (in_item bs 2 inside x)) a.is
      ∙ ap (λ b. goes_on next inside (in_item_as bs 2 inside a.part b (nat_le 2 (indent a.part)))) a.some
      ∙ ap (λ b. goes_on next inside (in_item_as bs 2 inside a.part false b)) a.near
      ∙ by a.lazy
    where
      next : Line → List Line
      next x = go (inside ++ x ∷ []) ls

      ends : (k : Bool) → ends_open (length inside) (bs inside) ≡ false → goes_on next inside (lazily bs inside (ink a.part) k) ≡ inside
      ends true e = ap (λ b. goes_on next inside (if b then Some (Lazy (ink a.part)) else None)) e
      ends false e = refl

      by : (may_be_lazy (beginning l) ≡ false) ⊎ (1 ≤ length es) → goes_on next inside (lazily bs inside (ink a.part) (may_be_lazy (beginning (Written a.part)))) ≡ inside
      by (inl e) = ap (λ b. goes_on next inside (lazily bs inside (ink a.part) b)) (ap (λ x. may_be_lazy (beginning x)) (sym a.is) ∙ e)
      by (inr some) = ends (may_be_lazy (beginning (Written a.part))) (closed some)

  -- the lines of an item that begins with a block
  item_filled : (j k : ℕ) (x : List ℕ) (xs : List (List ℕ)) (es : List ℕ) (rest : List Line) → is_blank x ≡ false → Apart es rest
      → (1 ≤ length es → ends_open (length (lines_from j (k + 1 + 1) (x ∷ xs) ++ empties es)) (bs (lines_from j (k + 1 + 1) (x ∷ xs) ++ empties es)) ≡ false)
      → go (line_at j x ∷ []) (lines_at k (map indented xs) ++ (empties es ++ rest)) ≡ lines_from j (k + 1 + 1) (x ∷ xs) ++ empties es
  item_filled j k x xs es rest some apart closed =
      let h : has_ink (line_at j x ∷ []) ≡ true = ap (λ b. not b || false) some in
      item_goes (line_at j x ∷ []) k xs (empties es ++ rest) h
      ∙ item_blanks (lines_from j (k + 1 + 1) (x ∷ xs)) es rest (ink_on (line_at j x ∷ []) (lines_at (k + 1 + 1) xs) h)
      ∙ item_ends es (lines_from j (k + 1 + 1) (x ∷ xs) ++ empties es) rest apart closed

  -- an item that begins with no block has one line
  item_bare : (j : ℕ) (es : List ℕ) (rest : List Line) → Apart es rest → go (line_at j [] ∷ []) (empties es ++ rest) ≡ line_at j [] ∷ []
  item_bare j [] rest apart = item_ends [] (line_at j [] ∷ []) rest apart (λ few. absurd (omega (arith, few)))
  item_bare j (e ∷ es) rest apart = refl

-- empty lines are counted up to one that is not blank
blank_none : (es : List ℕ) (rest : List Line) → Apart es rest → take_while is_blank_line rest ≡ []
blank_none es [] a = refl
blank_none es (l ∷ ls) a =
    take_while-cons is_blank_line l ls
    ∙ ap (λ b. cond b (l ∷ take_while is_blank_line ls) []) (ap is_blank_line a.is ∙ a.some)

blanks_counted : (gap es : List ℕ) (rest : List Line) → Apart es rest → blank_count (empties gap ++ rest) ≡ length gap
blanks_counted [] es rest a = ap (λ (ls : List Line). length ls) (blank_none es rest a)
blanks_counted (e ∷ gap) es rest a =
    ap (λ (ls : List Line). length ls) (take_while-cons is_blank_line (line_at e []) (empties gap ++ rest))
    ∙ (let n : ℕ = blank_count (empties gap ++ rest) in let q : n ≡ length gap = blanks_counted gap es rest a in ap suc q)

-- an item

-- the first line of an item's blocks, and those below it
abbrev pub first_line : List (List ℕ) → List ℕ
first_line [] = []
first_line (l ∷ ls) = l

abbrev pub more_lines : List (List ℕ) → List (List ℕ)
more_lines [] = []
more_lines (l ∷ ls) = ls

-- the lines of an item with this bullet
abbrev pub hung : ℕ → List (List ℕ) → List (List ℕ)
hung b ls = (b ∷ 32 ∷ first_line ls) ∷ map indented (more_lines ls)

-- the first of an item's blocks begins in its first line
abbrev pub Filled : List (List ℕ) → Type 0
Filled [] = Unit {0}
Filled (l ∷ ls) = is_blank l ≡ false

-- what the marker's line says of an item
abbrev pub mark : ℕ → ℕ → List ℕ → Bool → ItemMark
mark b j l blank = record { sort = b; number = None; width = 2; first = part_at (j + 1 + 1) l; is_empty = blank }

-- an item of so many lines, and the item after it, after these empty lines
pub record ItemTaken (bs : List Line → List Found) (fuel first b n kids : ℕ) (es : List ℕ) (rest : List Line) (t : Blocks) (g : Bool) (is : List ItemFound) : Type 0 where
  pub item : ItemFound
  pub first_is : item.first ≡ first
  pub shape : Shape 0 0 kids t g item.found
  pub count_is : (item.count ≡ n) ⊎ (item.count ≡ n + length es)
  pub comes : is ≡ item ∷ and_siblings (λ s. items bs fuel (first + n + length es) s) (sibling b rest)

pub need_indented : (k : ℕ) (ls : List (List ℕ)) → need (lines_at (k + 1 + 1) ls) ≤ need (lines_at k (map indented ls))
need_indented k [] = omega arith
need_indented k (l ∷ ls) = let a : need (lines_at (k + 1 + 1) ls) ≤ need (lines_at k (map indented ls)) = need_indented k ls in omega (arith, a)

drop_nothing : (ls : List Line) → drop 0 ls ≡ ls
drop_nothing [] = refl
drop_nothing (l ∷ ls) = refl

module _ (limit : ℕ) where
  abbrev bs : List Line → List Found
  bs ls = blocks_from limit 0 ls

  -- an item with these lines in it, after which so many empty ones are left
  item_with : (fuel first : ℕ) (m : ItemMark) (ls inside : List Line) (gap es : List ℕ) (rest : List Line) → Apart es rest → item_lines bs m ls ≡ inside → drop (length inside - 1) ls ≡ empties gap ++ rest
      → items bs (suc fuel) first (m, ls) ≡ record { found = bs inside; first = first; count = length inside } ∷ and_siblings (λ s. items bs fuel (first + length inside + length gap) s) (sibling m.sort rest)
  item_with fuel first m ls inside gap es rest apart is left =
      let next : ℕ → ItemMark × List Line → List ItemFound = λ n s. items bs fuel n s in
      let item : ItemFound = record { found = bs inside; first = first; count = length inside } in
      let at : ℕ = first + length inside in
      ap (λ x. items_with next bs first m ls x) is
      ∙ ap (λ (xs : List Line). item ∷ items_after next at m xs (blank_count xs)) left
      ∙ ap (λ n. item ∷ items_after next at m (empties gap ++ rest) n) (blanks_counted gap es rest apart)
      ∙ ap (λ (xs : List Line). item ∷ and_siblings (next (at + length gap)) (sibling m.sort xs)) (ap (λ n. drop n (empties gap ++ rest)) (sym (length-map gap (λ k. line_at k []))) ∙ drop_behind (empties gap) rest)

  pub item_empty : (fuel first b j k : ℕ) (blank : Bool) (es : List ℕ) (rest : List Line) (t : Blocks) (g : Bool) → Apart es rest → Finds (empties ((j + 1 + 1) ∷ [])) 0 0 t g → 1 ≤ limit
      → ItemTaken bs fuel first b 1 0 es rest t g (items bs (suc fuel) first (mark b j [] blank, empties es ++ rest))
  item_empty fuel first b j k blank es rest t g apart finds fits =
      record {
        item = record { found = bs (line_at (j + 1 + 1) [] ∷ []); first = first; count = 1 };
        first_is = refl;
        shape = finds limit 0 fits;
        count_is = inl refl;
        comes = item_with fuel first (mark b j [] blank) (empties es ++ rest) (line_at (j + 1 + 1) [] ∷ []) es es rest apart (item_bare bs (j + 1 + 1) es rest apart) (drop_nothing (empties es ++ rest));
      }

  pub item_full : (fuel first b j k : ℕ) (blank : Bool) (x : List ℕ) (xs : List (List ℕ)) (es : List ℕ) (rest : List Line) (t : Blocks) (g : Bool) → is_blank x ≡ false → Apart es rest
      → Finds (lines_from (j + 1 + 1) (k + 1 + 1) (x ∷ xs) ++ empties es) 0 (suc (length xs)) t g → need (lines_from (j + 1 + 1) (k + 1 + 1) (x ∷ xs) ++ empties es) ≤ limit
      → ItemTaken bs fuel first b (suc (length xs)) (suc (length xs)) es rest t g (items bs (suc fuel) first (mark b j x blank, lines_at k (map indented xs) ++ (empties es ++ rest)))
  item_full fuel first b j k blank x xs es rest t g some apart finds fits =
      record {
        item = record { found = bs inside; first = first; count = length inside };
        first_is = refl;
        shape = shape;
        count_is = inr long;
        comes =
            item_with fuel first (mark b j x blank) ls inside [] es rest apart (item_filled bs (j + 1 + 1) k x xs es rest some apart closed) left
            ∙ ap (λ n. record { found = bs inside; first = first; count = length inside } ∷ and_siblings (λ s. items bs fuel n s) (sibling b rest)) (omega (arith, long));
      }
    where
      inside : List Line
      inside = lines_from (j + 1 + 1) (k + 1 + 1) (x ∷ xs) ++ empties es

      ls : List Line
      ls = lines_at k (map indented xs) ++ (empties es ++ rest)

      shape : Shape 0 0 (suc (length xs)) t g (bs inside)
      shape = finds limit 0 fits

      long : length inside ≡ suc (length xs) + length es
      long =
          let a : length (lines_at (k + 1 + 1) xs ++ empties es) ≡ length (lines_at (k + 1 + 1) xs) + length (empties es) = length-append (lines_at (k + 1 + 1) xs) (empties es) in
          let c : length (lines_at (k + 1 + 1) xs) ≡ length xs = length-map xs (line_at (k + 1 + 1)) in
          let d : length (empties es) ≡ length es = length-map es (λ k. line_at k []) in
          omega (arith, a, c, d)

      closed : 1 ≤ length es → ends_open (length inside) (bs inside) ≡ false
      closed few =
          let last : last_of (bs inside) ≡ max 0 (0 + suc (length xs) - 1) = shape.last_is 0 (omega arith) (omega arith) in
          closed_before (length inside) (bs inside) (omega (arith, last, long, few))

      front_long : length (lines_at k (map indented xs) ++ empties es) ≡ length inside - 1
      front_long =
          let a : length (lines_at k (map indented xs) ++ empties es) ≡ length (lines_at k (map indented xs)) + length (empties es) = length-append (lines_at k (map indented xs)) (empties es) in
          let c : length (lines_at k (map indented xs)) ≡ length xs = length-map (map indented xs) (line_at k) ∙ length-map xs indented in
          let d : length (empties es) ≡ length es = length-map es (λ k. line_at k []) in
          omega (arith, a, c, d, long)

      left : drop (length inside - 1) ls ≡ rest
      left =
          ap (λ (ys : List Line). drop (length inside - 1) ys) (sym (append_assoc (lines_at k (map indented xs)) (empties es) rest))
          ∙ ap (λ n. drop n ((lines_at k (map indented xs) ++ empties es) ++ rest)) (sym front_long)
          ∙ drop_behind (lines_at k (map indented xs) ++ empties es) rest

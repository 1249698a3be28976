-- Runs of delimiters are matched in pairs, so no container ends that didn't begin.
use Rattle.std.proofs.Common.{◌≡◌, ℕ, zero, suc, ◌+◌, ◌-◌, ◌^◌, ◌<◌, ◌≤◌, ◌⊎◌, inl, inr, ◌==◌, ◌&&◌, Bool, true, false, if◌then◌else◌, nat_lt, nat_le, List, [], ◌∷◌, ◌++◌, length, take, refl, ap, sym, ◌∙◌, subst, arith}
use Rattle.std.specs.Prelude.{slice_get, slice_set, unwrap_or, Option, Some, None}
use Rattle.std.specs.List.{fold}
use Rattle.std.proofs.lemmas.Bool.Decides.{nat_tests}
use Rattle.tocmark_read_scan.specs.Basic.{plus}
use Rattle.tocmark_read_scan.specs.Repeat.{going, repeated}
use Rattle.tocmark_read_spans.specs.Emphasis.{State, width_of, span_of, class_of, found, with_count, shortened, matching, matched, once_on, once_at, once, stacked, run_step, emphasis_start, emphasized}
use Rattle.tocmark_read_spans.specs.declared.role.Role.{Role}
use Rattle.tocmark_read_spans.specs.declared.role.Role.TheVariants.{Hidden, Open, Close}
use Rattle.tocmark_read_spans.specs.declared.role.Span.{Span}
use Rattle.tocmark_read_spans.specs.declared.run.Run.{Run}
use Rattle.tocmark_text_laws.proofs.Nests.{Nested, Level, is_flat, neutral_nested, neutral_level, before_level, pair_nested, pair_level}
use Rattle.tocmark_text_laws.proofs.RoleCounts.{set_length}
use Rattle.tocmark_text_laws.proofs.Walks.{Safe, Read, Neutral, is_neutral, neutral_safe, pair_safe, quiet_read}

-- what is at a place of a list after one place changed
abbrev Other : ℕ → ℕ → Type 0
Other i j = (i < j) ⊎ (j < i)

pub set_got : {A : Type 0} (xs : List A) (i : ℕ) (y : A) (j : ℕ) (z : A) → slice_get (slice_set xs i y) j ≡ Some z → ((i ≡ j) × (y ≡ z)) ⊎ (Other i j × (slice_get xs j ≡ Some z))
set_got [] i y j z e = absurd cc
set_got (x ∷ xs) zero y zero z e = let q : y ≡ z = cc in inl (refl, q)
set_got (x ∷ xs) zero y (suc j) z e = inr (inl (omega arith), e)
set_got (x ∷ xs) (suc i) y zero z e = inr (inr (omega arith), e)
set_got {A = A} (x ∷ xs) (suc i) y (suc j) z e = by (set_got xs i y j z e)
  where
    apart : Other i j → Other (suc i) (suc j)
    apart (inl l) = inl (omega arith)
    apart (inr l) = inr (omega arith)

    by : ((i ≡ j) × (y ≡ z)) ⊎ (Other i j × (slice_get xs j ≡ Some z)) → ((suc i ≡ suc j) × (y ≡ z)) ⊎ (Other (suc i) (suc j) × (slice_get xs j ≡ Some z))
    by (inl (p, q)) = inl (ap suc p, q)
    by (inr (l, q)) = inr (apart l, q)

pub set_other : {A : Type 0} (xs : List A) (i : ℕ) (y : A) (j : ℕ) → Other i j → slice_get (slice_set xs i y) j ≡ slice_get xs j
set_other [] i y j l = refl
set_other (x ∷ xs) zero y zero (inl l) = absurd (omega arith)
set_other (x ∷ xs) zero y zero (inr l) = absurd (omega arith)
set_other (x ∷ xs) zero y (suc j) l = refl
set_other (x ∷ xs) (suc i) y zero l = refl
set_other (x ∷ xs) (suc i) y (suc j) (inl l) = set_other xs i y j (inl (omega arith))
set_other (x ∷ xs) (suc i) y (suc j) (inr l) = set_other xs i y j (inr (omega arith))

set_swaps : {A : Type 0} (xs : List A) (i : ℕ) (y : A) (j : ℕ) (z : A) → i < j → slice_set (slice_set xs i y) j z ≡ slice_set (slice_set xs j z) i y
set_swaps [] i y j z l = refl
set_swaps (x ∷ xs) i y zero z l = absurd (omega arith)
set_swaps (x ∷ xs) zero y (suc j) z l = refl
set_swaps (x ∷ xs) (suc i) y (suc j) z l = ap (λ ys. x ∷ ys) (set_swaps xs i y j z (omega arith))

-- a place that another change doesn't concern
pub other_neutral : (xs : List Role) (i : ℕ) (y : Role) (j : ℕ) → Other i j → Neutral xs j → Neutral (slice_set xs i y) j
other_neutral xs i y j l n x e = n x (sym (set_other xs i y j l) ∙ e)

pub same_neutral : (xs : List Role) (i : ℕ) (y : Role) (j : ℕ) → is_neutral y ≡ true → Neutral xs j → Neutral (slice_set xs i y) j
same_neutral xs i y j k n x e = by (set_got xs i y j x e)
  where
    by : ((i ≡ j) × (y ≡ x)) ⊎ (Other i j × (slice_get xs j ≡ Some x)) → is_neutral x ≡ true
    by (inl (p, q)) = subst (λ z. is_neutral z ≡ true) q k
    by (inr (l, q)) = n x q

-- a byte at which no container begins or ends
abbrev pub Flat : List Role → ℕ → Type 0
Flat xs i = (x : Role) → slice_get xs i ≡ Some x → is_flat x ≡ true

other_flat : (xs : List Role) (i : ℕ) (y : Role) (j : ℕ) → Other i j → Flat xs j → Flat (slice_set xs i y) j
other_flat xs i y j l n x e = n x (sym (set_other xs i y j l) ∙ e)

same_flat : (xs : List Role) (i : ℕ) (y : Role) (j : ℕ) → is_flat y ≡ true → Flat xs j → Flat (slice_set xs i y) j
same_flat xs i y j k n x e = by (set_got xs i y j x e)
  where
    by : ((i ≡ j) × (y ≡ x)) ⊎ (Other i j × (slice_get xs j ≡ Some x)) → is_flat x ≡ true
    by (inl (p, q)) = subst (λ z. is_flat z ≡ true) q k
    by (inr (l, q)) = n x q

-- the delimiters of a run: read at first, neutral, and none of those places that are to be kept
abbrev pub Cell : (ℕ → Type 0) → List Role → List Role → ℕ → Type 0
Cell P old new x = Read 0 0 old x × Neutral new x × (P x → ⊥) × Level 0 0 [] new x

abbrev pub Cells : (ℕ → Type 0) → List Role → List Role → Run → Type 0
Cells P old new r = (x : ℕ) → r.place ≤ x → x < r.place + r.count → Cell P old new x

-- the runs that may open: each has delimiters left, one after the other, and none is before a place
record Stack (P : ℕ → Type 0) (M : ℕ → Role → Type 0) (lo : ℕ) (old : List Role) (c : ℕ) (s : State) : Type 0 where
  cells : (k : ℕ) (o : Run) → slice_get s.stack k ≡ Some o → Cells P old s.roles o
  some : (k : ℕ) (o : Run) → slice_get s.stack k ≡ Some o → 0 < o.count
  above : (k : ℕ) (o : Run) → slice_get s.stack k ≡ Some o → lo ≤ o.place
  before : (k : ℕ) (o : Run) → slice_get s.stack k ≡ Some o → o.place + o.count ≤ c
  order : (k l : ℕ) (o u : Run) → k < l → slice_get s.stack k ≡ Some o → slice_get s.stack l ≡ Some u → o.place + o.count ≤ u.place

-- what is to hold of each byte and its role
abbrev pub Marked : (ℕ → Role → Type 0) → List Role → Type 0
Marked M xs = (i : ℕ) (x : Role) → slice_get xs i ≡ Some x → M i x

pub marked_set : (M : ℕ → Role → Type 0) (xs : List Role) (i : ℕ) (y : Role) → M i y → Marked M xs → Marked M (slice_set xs i y)
marked_set M xs i y m h j x e = by (set_got xs i y j x e)
  where
    by : ((i ≡ j) × (y ≡ x)) ⊎ (Other i j × (slice_get xs j ≡ Some x)) → M j x
    by (inl (p, q)) = subst (λ k. M k x) p (subst (M i) q m)
    by (inr (l, q)) = h j x q

-- it holds of delimiters that are matched, which are none of the places that are to be kept
pub record Rules (P : ℕ → Type 0) (M : ℕ → Role → Type 0) (count : ℕ) : Type 0 where
  pub hidden : (i : ℕ) → (P i → ⊥) → M i Hidden
  pub opens : (i j : ℕ) (s : Span) → (P i → ⊥) → (P j → ⊥) → i < j → j < count → M i (Open s (suc j))
  pub closes : (j : ℕ) → (P j → ⊥) → j < count → M j (Close (suc j))

-- all runs from one place to before another are matched
record Stands (P : ℕ → Type 0) (M : ℕ → Role → Type 0) (lo : ℕ) (old : List Role) (c : ℕ) (s : State) : Type 0 where
  safe : Safe 0 0 0 s.roles
  nested : Nested 0 0 [] s.roles
  size : length s.roles ≡ length old
  rules : Rules P M (length old)
  marked : Marked M s.roles
  low : (x : ℕ) → x < lo → Level 0 0 [] old x → Level 0 0 [] s.roles x
  high : (x : ℕ) → c ≤ x → Level 0 0 [] old x → Level 0 0 [] s.roles x
  read : (x : ℕ) → Read 0 0 old x → Read 0 0 s.roles x
  kept : (x : ℕ) → P x → Neutral old x → Neutral s.roles x
  flat : (x : ℕ) → P x → Flat old x → Flat s.roles x
  later : (x : ℕ) → c ≤ x → Neutral old x → Neutral s.roles x
  stack : Stack P M lo old c s

stands_more : (P : ℕ → Type 0) (M : ℕ → Role → Type 0) (lo : ℕ) (old : List Role) (c d : ℕ) (s : State) → c ≤ d → Stands P M lo old c s → Stands P M lo old d s
stands_more P M lo old c d s l h = record {
  safe = h.safe;
  nested = h.nested;
  size = h.size;
  rules = h.rules;
  marked = h.marked;
  low = h.low;
  high = λ x m n. h.high x (omega arith) n;
  read = h.read;
  kept = h.kept;
  flat = h.flat;
  later = λ x m n. h.later x (omega arith) n;
  stack = record { cells = h.stack.cells; some = h.stack.some; above = h.stack.above; before = λ k o e. let q : o.place + o.count ≤ c = h.stack.before k o e in omega arith; order = h.stack.order };
}

-- the roles after a match: its opening and closing delimiters
abbrev made : List Role → ℕ → ℕ → ℕ → ℕ → Role → ℕ → List Role
made roles a i c j opens end = slice_set (slice_set (slice_set (slice_set roles a Hidden) i opens) c Hidden) j (Close end)

made_safe : (roles : List Role) (a i c j : ℕ) (width : ℕ) (closer : Run) (end : ℕ) → i < c → c ≤ j → end ≤ suc j → Neutral roles a → Read 0 0 roles i → Neutral roles i → Neutral roles c → Read 0 0 roles j → Neutral roles j → Safe 0 0 0 roles
    → Safe 0 0 0 (made roles a i c j (Open (span_of width closer) end) end)
made_safe roles a i c j width closer end l m z na ri ni nc rj nj h =
    subst (λ xs. Safe 0 0 0 (slice_set xs j (Close end))) (sym (set_swaps hidden i (Open (span_of width closer) end) c Hidden l))
    (pair_safe 0 0 0 both i j (span_of width closer) end end (omega arith) (reads i ri) (neutral i ni) (reads j rj) (neutral j nj) (inl (omega arith)) (neutral_safe 0 0 0 hidden c Hidden (same_neutral roles a Hidden c refl nc) refl (neutral_safe 0 0 0 roles a Hidden na refl h)))
  where
    hidden : List Role
    hidden = slice_set roles a Hidden

    both : List Role
    both = slice_set hidden c Hidden

    reads : (x : ℕ) → Read 0 0 roles x → Read 0 0 both x
    reads x r = quiet_read 0 0 hidden c Hidden x (same_neutral roles a Hidden c refl nc) refl (quiet_read 0 0 roles a Hidden x na refl r)

    neutral : (x : ℕ) → Neutral roles x → Neutral both x
    neutral x n = same_neutral hidden c Hidden x refl (same_neutral roles a Hidden x refl n)

made_nested : (roles : List Role) (a i c j : ℕ) (width : ℕ) (closer : Run) (end : ℕ) → i < c → c ≤ j → end ≡ suc j → j < length roles → Neutral roles a → Read 0 0 roles i → Neutral roles i → Level 0 0 [] roles i → Neutral roles c → Read 0 0 roles j → Neutral roles j → Level 0 0 [] roles j → Nested 0 0 [] roles
    → Nested 0 0 [] (made roles a i c j (Open (span_of width closer) end) end) × ((x : ℕ) → j < x → Level 0 0 [] roles x → Level 0 0 [] (made roles a i c j (Open (span_of width closer) end) end) x)
made_nested roles a i c j width closer end l m z w na ri ni vi nc rj nj vj h =
    subst (λ xs. Nested 0 0 [] (slice_set xs j (Close end)) × ((x : ℕ) → j < x → Level 0 0 [] roles x → Level 0 0 [] (slice_set xs j (Close end)) x)) (sym (set_swaps hidden i (Open (span_of width closer) end) c Hidden l)) (
      pair_nested 0 0 [] both i j (span_of width closer) end (omega arith) within (omega arith) (reads i ri) (levels i vi) (neutral i ni) (reads j rj) (levels j vj) (neutral j nj) (inl (omega arith)) nests,
      λ x o v. pair_level 0 0 [] both i j (span_of width closer) end x (omega arith) within o (reads i ri) (levels i vi) (neutral i ni) (reads j rj) (levels j vj) (neutral j nj) (inl (omega arith)) nests (levels x v),
    )
  where
    hidden : List Role
    hidden = slice_set roles a Hidden

    both : List Role
    both = slice_set hidden c Hidden

    within : j < length both
    within = let q : length both ≡ length hidden = set_length hidden c Hidden in let r : length hidden ≡ length roles = set_length roles a Hidden in omega (arith, w)

    reads : (x : ℕ) → Read 0 0 roles x → Read 0 0 both x
    reads x r = quiet_read 0 0 hidden c Hidden x (same_neutral roles a Hidden c refl nc) refl (quiet_read 0 0 roles a Hidden x na refl r)

    levels : (x : ℕ) → Level 0 0 [] roles x → Level 0 0 [] both x
    levels x v = neutral_level 0 0 [] hidden c Hidden x (same_neutral roles a Hidden c refl nc) refl (neutral_level 0 0 [] roles a Hidden x na refl v)

    neutral : (x : ℕ) → Neutral roles x → Neutral both x
    neutral x n = same_neutral hidden c Hidden x refl (same_neutral roles a Hidden x refl n)

    nests : Nested 0 0 [] both
    nests = neutral_nested 0 0 [] hidden c Hidden (same_neutral roles a Hidden c refl nc) refl (neutral_nested 0 0 [] roles a Hidden na refl h)

-- before a match nothing changes
made_low : (roles : List Role) (a i c j : ℕ) (opens : Role) (end x : ℕ) → x ≤ a → x ≤ i → x ≤ c → x ≤ j → Level 0 0 [] roles x → Level 0 0 [] (made roles a i c j opens end) x
made_low roles a i c j opens end x p q r t v =
    before_level 0 0 [] (slice_set (slice_set (slice_set roles a Hidden) i opens) c Hidden) j (Close end) x t
    (before_level 0 0 [] (slice_set (slice_set roles a Hidden) i opens) c Hidden x r
    (before_level 0 0 [] (slice_set roles a Hidden) i opens x q (before_level 0 0 [] roles a Hidden x p v)))

made_size : (roles : List Role) (a i c j : ℕ) (opens : Role) (end : ℕ) → length (made roles a i c j opens end) ≡ length roles
made_size roles a i c j opens end = set_length _ j (Close end) ∙ (set_length _ c Hidden ∙ (set_length _ i opens ∙ set_length roles a Hidden))

made_read : (roles : List Role) (a i c j : ℕ) (width : ℕ) (closer : Run) (end : ℕ) → i < c → c ≤ j → end ≤ suc j → Neutral roles a → Neutral roles i → Neutral roles c → Neutral roles j → (x : ℕ) → Read 0 0 roles x → Read 0 0 (made roles a i c j (Open (span_of width closer) end) end) x
made_read roles a i c j width closer end l m z na ni nc nj x r =
    quiet_read 0 0 third j (Close end) x (same_neutral second c Hidden j refl (other_neutral first i opens j (inl (omega arith)) (same_neutral roles a Hidden j refl nj))) (omega arith)
    (quiet_read 0 0 second c Hidden x (other_neutral first i opens c (inl l) (same_neutral roles a Hidden c refl nc)) refl
    (quiet_read 0 0 first i opens x (same_neutral roles a Hidden i refl ni) refl (quiet_read 0 0 roles a Hidden x na refl r)))
  where
    opens : Role
    opens = Open (span_of width closer) end

    first : List Role
    first = slice_set roles a Hidden

    second : List Role
    second = slice_set first i opens

    third : List Role
    third = slice_set second c Hidden

made_flat : (roles : List Role) (a i c j : ℕ) (opens : Role) (end x : ℕ) → Other i x → Other j x → Flat roles x → Flat (made roles a i c j opens end) x
made_flat roles a i c j opens end x p q n =
    other_flat (slice_set (slice_set (slice_set roles a Hidden) i opens) c Hidden) j (Close end) x q (same_flat (slice_set (slice_set roles a Hidden) i opens) c Hidden x refl (other_flat (slice_set roles a Hidden) i opens x p (same_flat roles a Hidden x refl n)))

made_other : (roles : List Role) (a i c j : ℕ) (opens : Role) (end x : ℕ) → Other i x → Other j x → Neutral roles x → Neutral (made roles a i c j opens end) x
made_other roles a i c j opens end x p q n =
    other_neutral (slice_set (slice_set (slice_set roles a Hidden) i opens) c Hidden) j (Close end) x q (same_neutral (slice_set (slice_set roles a Hidden) i opens) c Hidden x refl (other_neutral (slice_set roles a Hidden) i opens x p (same_neutral roles a Hidden x refl n)))

-- a run of the stack after a match
got_front : (k j : ℕ) (rs : List Run) (u : Run) → slice_get (take k rs) j ≡ Some u → (j < k) × (slice_get rs j ≡ Some u)
got_front zero j rs u e = absurd cc
got_front (suc k) j [] u e = absurd cc
got_front (suc k) zero (r ∷ rs) u e = (omega arith, e)
got_front (suc k) (suc j) (r ∷ rs) u e = by (got_front k j rs u e)
  where
    by : (j < k) × (slice_get rs j ≡ Some u) → (suc j < suc k) × (slice_get rs j ≡ Some u)
    by (l, q) = (omega arith, q)

-- it is one below the opener, or the opener with what is left of it
got_shortened : (k j : ℕ) (o : Run) (width : ℕ) (rs : List Run) (u : Run) → width ≤ o.count → slice_get (shortened k o width rs) j ≡ Some u
    → ((j < k) × (slice_get rs j ≡ Some u)) ⊎ ((k ≡ j) × (with_count (o.count - width) o ≡ u) × (0 < o.count - width))
got_shortened k j o width rs u l e = by (o.count - width == 0) refl e
  where
    left : ℕ
    left = o.count - width

    Gives : Type 0
    Gives = ((j < k) × (slice_get rs j ≡ Some u)) ⊎ ((k ≡ j) × (with_count left o ≡ u) × (0 < left))

    below : Other k j → (j < plus k 1) × (slice_get rs j ≡ Some u) → Gives
    below (inl a) (m, g) = absurd (omega arith)
    below (inr a) (m, g) = inl (a, g)

    set : 0 < left → ((k ≡ j) × (with_count left o ≡ u)) ⊎ (Other k j × (slice_get (take (plus k 1) rs) j ≡ Some u)) → Gives
    set z (inl (p, q)) = inr (p, q, z)
    set z (inr (a, q)) = below a (got_front (plus k 1) j rs u q)

    by : (b : Bool) → (left == 0) ≡ b → slice_get (if b then take k rs else slice_set (take (plus k 1) rs) k (with_count left o)) j ≡ Some u → Gives
    by true z g = inl (got_front k j rs u g)
    by false z g = set (let w : 0 < left = grind (arith, nat_tests) in w) (set_got (take (plus k 1) rs) k (with_count left o) j u g)

-- the stack after a match
matching_stands : (P : ℕ → Type 0) (M : ℕ → Role → Type 0) (lo : ℕ) (old : List Role) (width k : ℕ) (o r : Run) (s : State) → 1 ≤ width → width ≤ o.count → width ≤ r.count → r.place + r.count ≤ 2 ^ 64 - 1 → r.place + r.count ≤ length old → slice_get s.stack k ≡ Some o → Cells P old s.roles r → Stands P M lo old r.place s
    → Stands P M lo old (r.place + width) ((matching width k o r s).0)
matching_stands P M lo old width k o r s few most lr room whole_text e cs h = subst (λ x. Stands P M lo old (r.place + width) (after x (plus r.place width))) first (subst (λ y. Stands P M lo old (r.place + width) (after from y)) second whole)
  where
    -- the state, where sums don't stop
    after : ℕ → ℕ → State
    after from end = record s { roles = made s.roles (from - 1) (from - width) r.place (end - 1) (Open (span_of width r) end) end; stack = shortened k o width s.stack }

    from : ℕ
    from = o.place + o.count

    end : ℕ
    end = r.place + width

    ends : o.place + o.count ≤ r.place
    ends = h.stack.before k o e

    first : from ≡ plus o.place o.count
    first = omega (arith, ends)

    second : end ≡ plus r.place width
    second = omega (arith, ends)

    opener : Cells P old s.roles o
    opener = h.stack.cells k o e

    a : Cell P old s.roles (from - 1)
    a = opener (from - 1) (omega (arith, ends)) (omega (arith, ends))

    i : Cell P old s.roles (from - width)
    i = opener (from - width) (omega (arith, ends)) (omega (arith, ends))

    c : Cell P old s.roles r.place
    c = cs r.place (omega (arith, ends)) (omega (arith, ends))

    j : Cell P old s.roles (end - 1)
    j = cs (end - 1) (omega (arith, ends)) (omega (arith, ends))

    keeps : (x : ℕ) → Other (from - width) x → Other (end - 1) x → Neutral s.roles x → Neutral (after from end).roles x
    keeps x p q n = made_other s.roles (from - 1) (from - width) r.place (end - 1) (Open (span_of width r) end) end x p q n

    apart : (x y : ℕ) → (x ≡ y → ⊥) → Other x y
    apart x y n = by (nat_lt x y) refl
      where
        by : (b : Bool) → nat_lt x y ≡ b → Other x y
        by true q = let w : x < y = grind (arith, nat_tests) in inl w
        by false q = let w : y ≤ x = grind (arith, nat_tests) in inr (below (nat_lt y x) refl w)
          where
            below : (b : Bool) → nat_lt y x ≡ b → y ≤ x → y < x
            below true q w = grind (arith, nat_tests)
            below false q w = let z : x ≤ y = grind (arith, nat_tests) in absurd (n (omega (arith, ends)))

    early : (x : ℕ) → x < from - width → Level 0 0 [] s.roles x → Level 0 0 [] (after from end).roles x
    early x p v = made_low s.roles (from - 1) (from - width) r.place (end - 1) (Open (span_of width r) end) end x (omega (arith, ends)) (omega arith) (omega (arith, ends)) (omega (arith, ends)) v

    nests : Nested 0 0 [] (after from end).roles × ((x : ℕ) → end - 1 < x → Level 0 0 [] s.roles x → Level 0 0 [] (after from end).roles x)
    nests = made_nested s.roles (from - 1) (from - width) r.place (end - 1) width r end (omega (arith, ends)) (omega (arith, ends)) (omega (arith, ends)) (let q : length s.roles ≡ length old = h.size in omega (arith, ends, whole_text)) (a.1) (h.read (from - width) (i.0)) (i.1) (i.3) (c.1) (h.read (end - 1) (j.0)) (j.1) (j.3) h.nested

    marks : Marked M (after from end).roles
    marks =
        let q : suc (end - 1) ≡ end = omega (arith, ends) in
        let last : end - 1 < length old = omega (arith, ends, whole_text) in
        marked_set M _ (end - 1) (Close end) (subst (λ n. M (end - 1) (Close n)) q (h.rules.closes (end - 1) (j.2) last))
        (marked_set M _ r.place Hidden (h.rules.hidden r.place (c.2))
        (marked_set M _ (from - width) (Open (span_of width r) end) (subst (λ n. M (from - width) (Open (span_of width r) n)) q (h.rules.opens (from - width) (end - 1) (span_of width r) (i.2) (j.2) (omega (arith, ends)) last))
        (marked_set M s.roles (from - 1) Hidden (h.rules.hidden (from - 1) (a.2)) h.marked)))

    bottom : lo ≤ from - width
    bottom = let q : lo ≤ o.place = h.stack.above k o e in omega (arith, ends)

    protected : (x : ℕ) → P x → Neutral s.roles x → Neutral (after from end).roles x
    protected x p n = keeps x (apart (from - width) x (λ q. (i.2) (subst P (sym q) p))) (apart (end - 1) x (λ q. (j.2) (subst P (sym q) p))) n

    flat : (x : ℕ) → P x → Flat s.roles x → Flat (after from end).roles x
    flat x p n = made_flat s.roles (from - 1) (from - width) r.place (end - 1) (Open (span_of width r) end) end x (apart (from - width) x (λ q. (i.2) (subst P (sym q) p))) (apart (end - 1) x (λ q. (j.2) (subst P (sym q) p))) n

    -- a run of the new stack is one before, with fewer delimiters or as many
    Part : ℕ → Run → Type 0
    Part l u = (v : Run) × (slice_get s.stack l ≡ Some v) × (u.place ≡ v.place) × (u.count ≤ v.count) × (0 < u.count) × (u.place + u.count ≤ from - width)

    part : (l : ℕ) (u : Run) → slice_get (shortened k o width s.stack) l ≡ Some u → Part l u
    part l u g = by (got_shortened k l o width s.stack u most g)
      where
        same : (v : Run) → with_count (o.count - width) o ≡ v → 0 < o.count - width → k ≡ l → Part l v
        same v q z w = subst (Part l) q (o, ap (slice_get s.stack) (sym w) ∙ e, refl, (omega (arith, ends)), z, omega (arith, ends))

        by : ((l < k) × (slice_get s.stack l ≡ Some u)) ⊎ ((k ≡ l) × (with_count (o.count - width) o ≡ u) × (0 < o.count - width)) → Part l u
        by (inl (m, q)) = let w : u.place + u.count ≤ o.place = h.stack.order l k u o m q e in (u, q, refl, omega (arith, ends), h.stack.some l u q, omega (arith, ends))
        by (inr (w, q, z)) = same u q z w

    cells : (l : ℕ) (u : Run) → slice_get (shortened k o width s.stack) l ≡ Some u → Cells P old (after from end).roles u
    cells l u g x m n = by (part l u g)
      where
        by : Part l u → Cell P old (after from end).roles x
        by (v, q, p, b, z, t) = let y : Cell P old s.roles x = h.stack.cells l v q x (omega (arith, ends)) (omega (arith, ends)) in (y.0, keeps x (inr (omega (arith, ends))) (inr (omega (arith, ends))) (y.1), y.2, early x (omega (arith, ends)) (y.3))

    order : (l m : ℕ) (u w : Run) → l < m → slice_get (shortened k o width s.stack) l ≡ Some u → slice_get (shortened k o width s.stack) m ≡ Some w → u.place + u.count ≤ w.place
    order l m u w b g q = by (part l u g) (part m w q)
      where
        by : Part l u → Part m w → u.place + u.count ≤ w.place
        by (v, p, x, y, z, t) (v2, p2, x2, y2, z2, t2) = let d : v.place + v.count ≤ v2.place = h.stack.order l m v v2 b p p2 in omega (arith, ends)

    before : (l : ℕ) (u : Run) → slice_get (shortened k o width s.stack) l ≡ Some u → u.place + u.count ≤ end
    before l u g = by (part l u g)
      where
        by : Part l u → u.place + u.count ≤ end
        by (v, q, p, b, z, t) = omega (arith, ends)

    above : (l : ℕ) (u : Run) → slice_get (shortened k o width s.stack) l ≡ Some u → lo ≤ u.place
    above l u g = by (part l u g)
      where
        by : Part l u → lo ≤ u.place
        by (v, q, p, b, z, t) = let w : lo ≤ v.place = h.stack.above l v q in omega arith

    some : (l : ℕ) (u : Run) → slice_get (shortened k o width s.stack) l ≡ Some u → 0 < u.count
    some l u g = by (part l u g)
      where
        by : Part l u → 0 < u.count
        by (v, q, p, b, z, t) = z

    whole : Stands P M lo old end (after from end)
    whole = record {
      safe = made_safe s.roles (from - 1) (from - width) r.place (end - 1) width r end (omega (arith, ends)) (omega (arith, ends)) (omega (arith, ends)) (a.1) (h.read (from - width) (i.0)) (i.1) (c.1) (h.read (end - 1) (j.0)) (j.1) h.safe;
      read = λ x q. made_read s.roles (from - 1) (from - width) r.place (end - 1) width r end (omega (arith, ends)) (omega (arith, ends)) (omega (arith, ends)) (a.1) (i.1) (c.1) (j.1) x (h.read x q);
      kept = λ x p n. protected x p (h.kept x p n);
      flat = λ x p n. flat x p (h.flat x p n);
      later = λ x l n. keeps x (inl (omega (arith, ends))) (inl (omega (arith, ends))) (h.later x (omega (arith, ends)) n);
      nested = nests.0;
      rules = h.rules;
      marked = marks;
      size = made_size s.roles (from - 1) (from - width) r.place (end - 1) (Open (span_of width r) end) end ∙ h.size;
      low = λ x l v. early x (omega (arith, bottom)) (h.low x l v);
      high = λ x l v. (nests.1) x (omega (arith, ends)) (h.high x (omega (arith, ends)) v);
      stack = record { cells = cells; some = some; above = above; before = before; order = order };
    }

-- a run that is matched: its delimiters are as they were, and where it ends
record Left (P : ℕ → Type 0) (M : ℕ → Role → Type 0) (lo : ℕ) (old : List Role) (end : ℕ) (r : Run) : Type 0 where
  cells : (x : ℕ) → r.place ≤ x → x < end → Read 0 0 old x × Neutral old x × (P x → ⊥) × Level 0 0 [] old x
  ends : r.place + r.count ≡ end
  room : end ≤ 2 ^ 64 - 1
  whole_text : end ≤ length old
  above : lo ≤ r.place

left_cells : (P : ℕ → Type 0) (M : ℕ → Role → Type 0) (lo : ℕ) (old : List Role) (end : ℕ) (r : Run) (s : State) → Left P M lo old end r → Stands P M lo old r.place s → Cells P old s.roles r
left_cells P M lo old end r s w h x l m = by (w.cells x l (let q : r.place + r.count ≡ end = w.ends in omega arith))
  where
    by : Read 0 0 old x × Neutral old x × (P x → ⊥) × Level 0 0 [] old x → Cell P old s.roles x
    by (a, b, c, d) = (a, h.later x l b, c, h.high x l d)

-- a closer and what is left of it after a match
abbrev Once : (ℕ → Type 0) → (ℕ → Role → Type 0) → ℕ → List Role → ℕ → Run → State × Option Run → Type 0
Once P M lo old end r (s, None) = Stands P M lo old r.place s
Once P M lo old end r (s, Some u) = Left P M lo old end u × Stands P M lo old u.place s

width_few : (o r : Run) → 0 < o.count → 0 < r.count → (1 ≤ width_of o r) × (width_of o r ≤ o.count) × (width_of o r ≤ r.count)
unfolding width_of
width_few o r a b = by (nat_le 2 o.count) (nat_le 2 r.count) refl refl
  where
    by : (x y : Bool) → nat_le 2 o.count ≡ x → nat_le 2 r.count ≡ y → (1 ≤ (if x && y then 2 else 1)) × ((if x && y then 2 else 1) ≤ o.count) × ((if x && y then 2 else 1) ≤ r.count)
    by true true p q = let l : 2 ≤ o.count = grind (arith, nat_tests) in let m : 2 ≤ r.count = grind (arith, nat_tests) in (omega arith, l, m)
    by true false p q = (omega arith, omega arith, omega arith)
    by false y p q = (omega arith, omega arith, omega arith)

once_stands : (P : ℕ → Type 0) (M : ℕ → Role → Type 0) (lo : ℕ) (old : List Role) (end : ℕ) (r : Run) (s : State) → Left P M lo old end r → Stands P M lo old r.place s → Once P M lo old end r (once r s)
unfolding once matched
once_stands P M lo old end r s w h = by (r.count == 0) refl
  where
    on : (k : ℕ) (o : Option Run) → slice_get s.stack k ≡ o → 0 < r.count → Once P M lo old end r (once_on o k r s)
    on k None e z = h
    on k (Some o) e z = few (width_few o r (h.stack.some k o e) z)
      where
        few : (1 ≤ width_of o r) × (width_of o r ≤ o.count) × (width_of o r ≤ r.count) → Once P M lo old end r (once_on (Some o) k r s)
        few (a, b, c) =
            let q : r.place + r.count ≡ end = w.ends in
            let m : end ≤ 2 ^ 64 - 1 = w.room in
            let x : end ≤ length old = w.whole_text in
            let y : lo ≤ r.place = w.above in
            let n : r.place + width_of o r ≡ plus r.place (width_of o r) = omega arith in (
              record { cells = λ x l y. w.cells x (omega arith) y; ends = omega arith; room = m; whole_text = x; above = omega arith },
              subst (λ p. Stands P M lo old p ((matching (width_of o r) k o r s).0)) n (matching_stands P M lo old (width_of o r) k o r s a b c (omega arith) (omega arith) e (left_cells P M lo old end r s w h) h),
            )

    at : (x : Option ℕ) → 0 < r.count → Once P M lo old end r (once_at x r s)
    at None z = record { safe = h.safe; nested = h.nested; size = h.size; rules = h.rules; marked = h.marked; low = h.low; high = h.high; read = h.read; kept = h.kept; flat = h.flat; later = h.later; stack = record { cells = h.stack.cells; some = h.stack.some; above = h.stack.above; before = h.stack.before; order = h.stack.order } }
    at (Some k) z = on k (slice_get s.stack k) refl z

    stop : State × Option Run
    stop = (s, None)

    by : (b : Bool) → (r.count == 0) ≡ b → Once P M lo old end r (if b then stop else once_at (found s.stack r (unwrap_or (slice_get s.bottoms (class_of r)) 0) (length s.stack)) r s)
    by true e = h
    by false e = at (found s.stack r (unwrap_or (slice_get s.bottoms (class_of r)) 0) (length s.stack)) (let z : 0 < r.count = grind (arith, nat_tests) in z)

-- a run, and what is left of it after all matches
abbrev Tried : (ℕ → Type 0) → (ℕ → Role → Type 0) → ℕ → List Role → ℕ → State × Run → Type 0
Tried P M lo old end (s, u) = Left P M lo old end u × Stands P M lo old u.place s

repeated_stands : (P : ℕ → Type 0) (M : ℕ → Role → Type 0) (lo : ℕ) (old : List Role) (end n : ℕ) (r : Run) (s : State) → Left P M lo old end r → Stands P M lo old r.place s → Tried P M lo old end (repeated once n r s)
unfolding repeated
repeated_stands P M lo old end zero r s w h = (w, h)
repeated_stands P M lo old end (suc n) r s w h = by (once r s) (once_stands P M lo old end r s w h) (λ u t a b. repeated_stands P M lo old end n u t a b)
  where
    by : (x : State × Option Run) → Once P M lo old end r x → ((u : Run) (t : State) → Left P M lo old end u → Stands P M lo old u.place t → Tried P M lo old end (repeated once n u t)) → Tried P M lo old end (going (λ d t. repeated once n d t) r x)
    by (t, None) a f = (w, a)
    by (t, Some u) (a, b) f = f u t a b

-- what is left of a run may open
got_more : (rs : List Run) (r : Run) (k : ℕ) (u : Run) → slice_get (rs ++ r ∷ []) k ≡ Some u → (slice_get rs k ≡ Some u) ⊎ ((r ≡ u) × (length rs ≡ k))
got_more [] r zero u e = let q : r ≡ u = cc in inr (q, refl)
got_more [] r (suc k) u e = absurd cc
got_more (x ∷ xs) r zero u e = inl e
got_more (x ∷ xs) r (suc k) u e = by (got_more xs r k u e)
  where
    by : (slice_get xs k ≡ Some u) ⊎ ((r ≡ u) × (length xs ≡ k)) → (slice_get xs k ≡ Some u) ⊎ ((r ≡ u) × (suc (length xs) ≡ suc k))
    by (inl q) = inl q
    by (inr (q, p)) = inr (q, ap suc p)

stacked_stands : (P : ℕ → Type 0) (M : ℕ → Role → Type 0) (lo : ℕ) (old : List Role) (end : ℕ) (p : State × Run) → Tried P M lo old end p → Stands P M lo old end (stacked p)
stacked_stands P M lo old end (s, r) (w, h) = by (r.opens) (nat_lt 0 r.count) refl
  where
    ends : r.place + r.count ≡ end
    ends = w.ends

    more : State
    more = record s { stack = s.stack ++ r ∷ [] }

    pushed : 0 < r.count → Stands P M lo old end more
    pushed z = record {
      safe = h.safe;
      nested = h.nested;
      size = h.size;
      rules = h.rules;
      marked = h.marked;
      low = h.low;
      high = λ x l v. h.high x (omega (arith, ends)) v;
      read = h.read;
      kept = h.kept;
      flat = h.flat;
      later = λ x l n. h.later x (omega (arith, ends)) n;
      stack = record {
        cells = λ k u g. cells u (got_more s.stack r k u g);
        some = λ k u g. some u (got_more s.stack r k u g);
        above = λ k u g. above u (got_more s.stack r k u g);
        before = λ k u g. before u (got_more s.stack r k u g);
        order = λ k l u v m g q. order u v m (got_more s.stack r k u g) (got_more s.stack r l v q) (l_in l v q);
      };
    }
      where
        l_in : (l : ℕ) (v : Run) → slice_get (s.stack ++ r ∷ []) l ≡ Some v → l ≤ length s.stack
        l_in l v q = within s.stack l q
          where
            within : (rs : List Run) (i : ℕ) → slice_get (rs ++ r ∷ []) i ≡ Some v → i ≤ length rs
            within [] zero e = omega arith
            within [] (suc i) e = absurd cc
            within (x ∷ xs) zero e = omega arith
            within (x ∷ xs) (suc i) e = let a : i ≤ length xs = within xs i e in omega arith

        cells : {k : ℕ} (u : Run) → (slice_get s.stack k ≡ Some u) ⊎ ((r ≡ u) × (length s.stack ≡ k)) → Cells P old s.roles u
        cells {k} u (inl q) = h.stack.cells k u q
        cells u (inr (q, p)) = subst (Cells P old s.roles) q (left_cells P M lo old end r s w h)

        some : {k : ℕ} (u : Run) → (slice_get s.stack k ≡ Some u) ⊎ ((r ≡ u) × (length s.stack ≡ k)) → 0 < u.count
        some {k} u (inl q) = h.stack.some k u q
        some u (inr (q, p)) = subst (λ (x : Run). 0 < x.count) q z

        above : {k : ℕ} (u : Run) → (slice_get s.stack k ≡ Some u) ⊎ ((r ≡ u) × (length s.stack ≡ k)) → lo ≤ u.place
        above {k} u (inl q) = h.stack.above k u q
        above u (inr (q, p)) = subst (λ (x : Run). lo ≤ x.place) q w.above

        before : {k : ℕ} (u : Run) → (slice_get s.stack k ≡ Some u) ⊎ ((r ≡ u) × (length s.stack ≡ k)) → u.place + u.count ≤ end
        before {k} u (inl q) = let a : u.place + u.count ≤ r.place = h.stack.before k u q in omega (arith, ends)
        before u (inr (q, p)) = subst (λ (x : Run). x.place + x.count ≤ end) q (omega (arith, ends))

        order : {k l : ℕ} (u v : Run) → k < l → (slice_get s.stack k ≡ Some u) ⊎ ((r ≡ u) × (length s.stack ≡ k)) → (slice_get s.stack l ≡ Some v) ⊎ ((r ≡ v) × (length s.stack ≡ l)) → l ≤ length s.stack → u.place + u.count ≤ v.place
        order {k} {l} u v m (inl q) (inl p) b = h.stack.order k l u v m q p
        order {k} {l} u v m (inl q) (inr (p, a)) b = subst (λ (x : Run). u.place + u.count ≤ x.place) p (h.stack.before k u q)
        order {k} {l} u v m (inr (q, a)) p b = absurd (omega arith)

    by : (x y : Bool) → nat_lt 0 r.count ≡ y → Stands P M lo old end (if x && y then more else s)
    by true true e = pushed (let z : 0 < r.count = grind (arith, nat_tests) in z)
    by true false e = stands_more P M lo old r.place end s (omega (arith, ends)) h
    by false y e = stands_more P M lo old r.place end s (omega (arith, ends)) h

-- runs one after the other, from one place to another
abbrev pub Row : (ℕ → Type 0) → List Role → ℕ → ℕ → List Run → Type 0
Row P old to c [] = Unit
Row P old to c (r ∷ rs) = (c ≤ r.place) × ((x : ℕ) → r.place ≤ x → x < r.place + r.count → Read 0 0 old x × Neutral old x × (P x → ⊥) × Level 0 0 [] old x) × (r.place + r.count ≤ to) × Row P old to (r.place + r.count) rs

run_stands : (P : ℕ → Type 0) (M : ℕ → Role → Type 0) (lo : ℕ) (old : List Role) (r : Run) (s : State) → Left P M lo old (r.place + r.count) r → Stands P M lo old r.place s → Stands P M lo old (r.place + r.count) (run_step s r)
unfolding run_step
run_stands P M lo old r s w h = by r.closes
  where
    by : (b : Bool) → Stands P M lo old (r.place + r.count) (stacked (if b then repeated once r.count r s else (s, r)))
    by true = stacked_stands P M lo old (r.place + r.count) (repeated once r.count r s) (repeated_stands P M lo old (r.place + r.count) r.count r s w h)
    by false = stacked_stands P M lo old (r.place + r.count) (s, r) (w, h)

-- what all matches of runs between two places leave: containers nest, none ends that didn't begin, all bytes that were read are, and those that are to be kept are neutral
pub record Matches (P : ℕ → Type 0) (M : ℕ → Role → Type 0) (lo to : ℕ) (old new : List Role) : Type 0 where
  pub safe : Safe 0 0 0 new
  pub nested : Nested 0 0 [] new
  pub size : length new ≡ length old
  pub marked : Marked M new
  pub low : (x : ℕ) → x < lo → Level 0 0 [] old x → Level 0 0 [] new x
  pub high : (x : ℕ) → to ≤ x → Level 0 0 [] old x → Level 0 0 [] new x
  pub read : (x : ℕ) → Read 0 0 old x → Read 0 0 new x
  pub kept : (x : ℕ) → P x → Neutral old x → Neutral new x
  pub flat : (x : ℕ) → P x → Flat old x → Flat new x

runs_stand : (P : ℕ → Type 0) (M : ℕ → Role → Type 0) (lo to : ℕ) (old : List Role) (c : ℕ) (rs : List Run) (s : State) → to ≤ 2 ^ 64 - 1 → to ≤ length old → lo ≤ c → c ≤ to → Row P old to c rs → Stands P M lo old c s → Matches P M lo to old (fold run_step s rs).roles
runs_stand P M lo to old c [] s m n a b w h = record { safe = h.safe; nested = h.nested; size = h.size; marked = h.marked; low = h.low; high = λ x l v. h.high x (omega arith) v; read = h.read; kept = h.kept; flat = h.flat }
runs_stand P M lo to old c (r ∷ rs) s m n a b (l, cells, room, w) h = runs_stand P M lo to old (r.place + r.count) rs (run_step s r) m n (omega arith) room w (run_stands P M lo old r s (record { cells = cells; ends = refl; room = omega arith; whole_text = omega arith; above = omega arith }) (stands_more P M lo old c r.place s l h))

pub emphasis_matches : (P : ℕ → Type 0) (M : ℕ → Role → Type 0) (lo to : ℕ) (old : List Role) (rs : List Run) → to ≤ 2 ^ 64 - 1 → to ≤ length old → lo ≤ to → Row P old to lo rs → Rules P M (length old) → Marked M old → Safe 0 0 0 old → Nested 0 0 [] old → Matches P M lo to old (emphasized old rs)
unfolding emphasized
emphasis_matches P M lo to old rs m n b w rules marks h k = runs_stand P M lo to old lo rs (emphasis_start old) m n (omega arith) b w (record {
  safe = h;
  nested = k;
  size = refl;
  rules = rules;
  marked = marks;
  low = λ x l v. v;
  high = λ x l v. v;
  read = λ x r. r;
  kept = λ x p n. n;
  flat = λ x p n. n;
  later = λ x l n. n;
  stack = record { cells = λ k o e. absurd cc; some = λ k o e. absurd cc; above = λ k o e. absurd cc; before = λ k o e. absurd cc; order = λ k l o u m e q. absurd cc };
})

-- What is known of the roles at each place of the pass over a leaf's text.
use Rattle.std.proofs.Common.{◌≡◌, ℕ, zero, suc, ◌+◌, ◌-◌, ◌^◌, ◌<◌, ◌≤◌, ◌⊎◌, inl, inr, ◌==◌, ◌||◌, Bool, true, false, nat_lt, List, [], ◌∷◌, ◌++◌, length, take, drop, refl, ap, sym, ◌∙◌, subst, arith, true≢false, length-append, length-take}
use Rattle.std.specs.Prelude.{slice_get, slice_set, max, min, Some}
use Rattle.std.proofs.lemmas.Bool.Decides.{nat_tests}
use Rattle.tocmark_read_scan.specs.Basic.{byte_at}
use Rattle.tocmark_read_spans.specs.Emphasis.{emphasized}
use Rattle.tocmark_read_spans.specs.declared.link.Bracket.{Bracket}
use Rattle.tocmark_read_spans.specs.declared.role.Leaf.{Leaf}
use Rattle.tocmark_read_spans.specs.declared.role.Role.{Role}
use Rattle.tocmark_read_spans.specs.declared.role.Role.TheVariants.{Plain, Fresh, Hidden, Open, Close, Single}
use Rattle.tocmark_read_spans.specs.declared.role.Span.{Span}
use Rattle.tocmark_read_spans.specs.declared.run.Run.{Run}
use Rattle.tocmark_text_laws.proofs.Walks.{Safe, Read, Calm, Neutral, is_neutral, neutral_skips, neutral_safe, pair_safe, single_safe, before_read, quiet_read, mark_read}
use Rattle.tocmark_text_laws.proofs.LinkEnds.{Ended}
use Rattle.tocmark_text_laws.proofs.Matches.{Row, Matches, Rules, Marked, marked_set, set_got, other_neutral, same_neutral, emphasis_matches}
use Rattle.tocmark_text_laws.proofs.Nests.{Nested, Level, is_flat, neutral_flat, neutral_nested, neutral_level, before_level, level_back, single_nested, single_level, pair_nested, pair_level}
use Rattle.tocmark_text_laws.proofs.RoleCounts.{set_length}
use Rattle.tocmark_text_laws.proofs.Tokens.{byte_within}

-- bytes of runs, of opening brackets, and white space
abbrev pub is_run : ℕ → Bool
is_run b = (b == 42) || (b == 95)

abbrev pub is_bracket : ℕ → Bool
is_bracket b = (b == 91) || (b == 33)

abbrev pub is_white : ℕ → Bool
is_white b = (b == 32) || (b == 10)

one_of : (b c d : ℕ) → (b == c) || (b == d) ≡ true → (b ≡ c) ⊎ (b ≡ d)
one_of b c d e = by (b == c) (b == d) refl refl e
  where
    by : (x y : Bool) → (b == c) ≡ x → (b == d) ≡ y → x || y ≡ true → (b ≡ c) ⊎ (b ≡ d)
    by true y p q e = let w : b ≡ c = grind (arith, nat_tests) in inl w
    by false true p q e = let w : b ≡ d = grind (arith, nat_tests) in inr w
    by false false p q e = absurd cc

run_white : (b : ℕ) → is_run b ≡ true → is_white b ≡ false
run_white b e = by (one_of b 42 95 e)
  where
    by : (b ≡ 42) ⊎ (b ≡ 95) → is_white b ≡ false
    by (inl q) = ap is_white q
    by (inr q) = ap is_white q

bracket_white : (b : ℕ) → is_bracket b ≡ true → is_white b ≡ false
bracket_white b e = by (one_of b 91 33 e)
  where
    by : (b ≡ 91) ⊎ (b ≡ 33) → is_white b ≡ false
    by (inl q) = ap is_white q
    by (inr q) = ap is_white q

bracket_run : (b : ℕ) → is_bracket b ≡ true → is_run b ≡ false
bracket_run b e = by (one_of b 91 33 e)
  where
    by : (b ≡ 91) ⊎ (b ≡ 33) → is_run b ≡ false
    by (inl q) = ap is_run q
    by (inr q) = ap is_run q

pub other_of : (i x : ℕ) → (i ≡ x → ⊥) → (i < x) ⊎ (x < i)
other_of i x n = by (nat_lt i x) (nat_lt x i) refl refl
  where
    by : (a b : Bool) → nat_lt i x ≡ a → nat_lt x i ≡ b → (i < x) ⊎ (x < i)
    by true b p q = let w : i < x = grind (arith, nat_tests) in inl w
    by false true p q = let w : x < i = grind (arith, nat_tests) in inr w
    by false false p q = let v : x ≤ i = grind (arith, nat_tests) in let w : i ≤ x = grind (arith, nat_tests) in absurd (n (omega arith))

-- places whose bytes a test tells apart
pub other_byte : (t : List ℕ) (k : ℕ → Bool) (i x : ℕ) → k (byte_at t i) ≡ true → k (byte_at t x) ≡ false → (i < x) ⊎ (x < i)
other_byte t k i x p q = other_of i x (λ e. true≢false (sym p ∙ ap (λ y. k (byte_at t y)) e ∙ q))

-- a place that is read, neutral, in no container, and has such a byte
abbrev pub Good : List ℕ → List Role → (ℕ → Bool) → ℕ → Type 0
Good t R k x = Read 0 0 R x × Neutral R x × (k (byte_at t x) ≡ true) × Level 0 0 [] R x

-- runs one after the other, from a place on, which end before the pass
abbrev pub Runs : List ℕ → List Role → ℕ → ℕ → List Run → Type 0
Runs t R f c [] = Unit
Runs t R f c (r ∷ rs) = (c ≤ r.place) × ((x : ℕ) → r.place ≤ x → x < r.place + r.count → Good t R is_run x) × (r.place + r.count ≤ f) × (r.place + r.count ≤ length t) × Runs t R f (r.place + r.count) rs

-- an opening bracket before the pass
abbrev pub Opening : List ℕ → List Role → ℕ → Bracket → Type 0
Opening t R f b = (b.start < b.inner) × (b.inner ≤ f) × Good t R is_bracket b.start × Good t R is_bracket (b.inner - 1)

pub record Brackets (t : List ℕ) (R : List Role) (f : ℕ) (bs : List Bracket) : Type 0 where
  pub good : (k : ℕ) (b : Bracket) → slice_get bs k ≡ Some b → Opening t R f b
  pub order : (k l : ℕ) (b d : Bracket) → k < l → slice_get bs k ≡ Some b → slice_get bs l ≡ Some d → b.inner ≤ d.start

-- a mark begins with a byte of ASCII, and ends after one
abbrev pub Mark : List ℕ → ℕ → Role → Type 0
Mark t i Plain = Unit
Mark t i Fresh = byte_at t i < 128
Mark t i Hidden = byte_at t i < 128
Mark t i (Open s e) = (byte_at t i < 128) × Ended t i e
Mark t i (Close e) = (byte_at t i < 128) × Ended t i e
Mark t i (Single l e) = (byte_at t i < 128) × Ended t i e

-- the runs that are after a bracket begin after it, and the others end before it
abbrev pub Parted : List Run → Bracket → Type 0
Parted rs b = (j : ℕ) (r : Run) → slice_get rs j ≡ Some r → (b.runs ≤ j → b.inner ≤ r.place) × (j < b.runs → r.place + r.count ≤ b.start)

-- no bracket is after more runs than there are
abbrev pub Counted : ℕ → List Bracket → Type 0
Counted n bs = (k : ℕ) (b : Bracket) → slice_get bs k ≡ Some b → b.runs ≤ n

-- so it is with each bracket, and a later one is after as many runs or more
pub record AllParted (rs : List Run) (bs : List Bracket) : Type 0 where
  pub parts : (k : ℕ) (b : Bracket) → slice_get bs k ≡ Some b → Parted rs b
  pub few : Counted (length rs) bs
  pub rise : (k l : ℕ) (b d : Bracket) → k < l → slice_get bs k ≡ Some b → slice_get bs l ≡ Some d → b.runs ≤ d.runs

-- the pass where it goes on at a place: all bytes from there on are read, neutral and in no container
pub record Fine (t : List ℕ) (f : ℕ) (R : List Role) (rs : List Run) (bs : List Bracket) : Type 0 where
  pub safe : Safe 0 0 0 R
  pub nested : Nested 0 0 [] R
  pub size : length R ≡ length t
  pub level : (x : ℕ) → f ≤ x → Level 0 0 [] R x
  pub flat : (x : ℕ) (r : Role) → byte_at t x ≡ 32 → slice_get R x ≡ Some r → is_flat r ≡ true
  pub marked : Marked (Mark t) R
  pub parted : AllParted rs bs
  pub calm : (x : ℕ) → f ≤ x → Neutral R x
  pub open_ : (x : ℕ) → f ≤ x → Read 0 0 R x
  pub white : (x : ℕ) → byte_at t x ≡ 32 → byte_at t (suc x) ≡ 10 → Neutral R x
  pub runs : Runs t R f 0 rs
  pub brackets : Brackets t R f bs

-- roles that differ: places before another one with such bytes stay read and neutral
abbrev pub Keeps : List ℕ → ℕ → (ℕ → Bool) → List Role → List Role → Type 0
Keeps t f k R N = (x : ℕ) → x < f → k (byte_at t x) ≡ true → Read 0 0 R x → Neutral R x → Level 0 0 [] R x → Read 0 0 N x × Neutral N x × Level 0 0 [] N x

good_kept : (t : List ℕ) (f : ℕ) (k : ℕ → Bool) (R N : List Role) (x : ℕ) → Keeps t f k R N → x < f → Good t R k x → Good t N k x
good_kept t f k R N x h l g = let a : Read 0 0 N x × Neutral N x × Level 0 0 [] N x = h x l (g.2) (g.0) (g.1) (g.3) in (a.0, a.1, g.2, a.2)

pub runs_kept : (t : List ℕ) (f g c : ℕ) (R N : List Role) (rs : List Run) → f ≤ g → Keeps t f is_run R N → Runs t R f c rs → Runs t N g c rs
runs_kept t f g c R N [] l k h = tt
runs_kept t f g c R N (r ∷ rs) l k (a, b, d, e, h) = (a, (λ x m n. good_kept t f is_run R N x k (omega arith) (b x m n)), omega arith, e, runs_kept t f g (r.place + r.count) R N rs l k h)

pub brackets_kept : (t : List ℕ) (f g : ℕ) (R N : List Role) (bs : List Bracket) → f ≤ g → Keeps t f is_bracket R N → Brackets t R f bs → Brackets t N g bs
brackets_kept t f g R N bs l k h = record { good = λ i b e. by b (h.good i b e); order = h.order }
  where
    by : (b : Bracket) → Opening t R f b → Opening t N g b
    by b (p, q, u, v) = (p, omega arith, good_kept t f is_bracket R N b.start k (omega arith) u, good_kept t f is_bracket R N (b.inner - 1) k (omega arith) v)

pub fine_more : (t : List ℕ) (f g : ℕ) (R : List Role) (rs : List Run) (bs : List Bracket) → f ≤ g → Fine t f R rs bs → Fine t g R rs bs
fine_more t f g R rs bs l h = record {
  safe = h.safe;
  nested = h.nested;
  size = h.size;
  level = λ x m. h.level x (omega arith);
  flat = h.flat;
  marked = h.marked;
  parted = h.parted;
  calm = λ x m. h.calm x (omega arith);
  open_ = λ x m. h.open_ x (omega arith);
  white = h.white;
  runs = runs_kept t f g 0 R R rs l (λ x m k r n v. (r, n, v)) h.runs;
  brackets = brackets_kept t f g R R bs l (λ x m k r n v. (r, n, v)) h.brackets;
}

-- places that keep their roles, where those of white space don't matter
changed : (t : List ℕ) (f g : ℕ) (R N : List Role) (rs : List Run) (bs : List Bracket) → f ≤ g → Safe 0 0 0 N → Nested 0 0 [] N → length N ≡ length t → ((x : ℕ) → g ≤ x → Level 0 0 [] N x) → ((x : ℕ) (r : Role) → byte_at t x ≡ 32 → slice_get N x ≡ Some r → is_flat r ≡ true) → Marked (Mark t) N → ((x : ℕ) → g ≤ x → Neutral N x) → ((x : ℕ) → g ≤ x → Read 0 0 N x) → ((x : ℕ) → byte_at t x ≡ 32 → byte_at t (suc x) ≡ 10 → Neutral N x)
    → ((x : ℕ) → x < f → is_white (byte_at t x) ≡ false → Read 0 0 R x → Neutral R x → Level 0 0 [] R x → Read 0 0 N x × Neutral N x × Level 0 0 [] N x) → Fine t f R rs bs → Fine t g N rs bs
changed t f g R N rs bs l s nest size level flat marks c o w k h = record {
  safe = s;
  nested = nest;
  size = size;
  level = level;
  flat = flat;
  marked = marks;
  parted = h.parted;
  calm = c;
  open_ = o;
  white = w;
  runs = runs_kept t f g 0 R N rs l (λ x m e r n v. k x m (run_white (byte_at t x) e) r n v) h.runs;
  brackets = brackets_kept t f g R N bs l (λ x m e r n v. k x m (bracket_white (byte_at t x) e) r n v) h.brackets;
}

-- a byte that isn't read yet has no part in what is known of those before it
unread : (f : ℕ) (R : List Role) (i : ℕ) (y : Role) → f ≤ i → (x : ℕ) → x < f → Read 0 0 R x → Neutral R x → Level 0 0 [] R x → Read 0 0 (slice_set R i y) x × Neutral (slice_set R i y) x × Level 0 0 [] (slice_set R i y) x
unread f R i y l x m r n v = (before_read 0 0 R i y x (omega arith) r, other_neutral R i y x (inr (omega arith)) n, before_level 0 0 [] R i y x (omega arith) v)

-- spaces at which no container begins or ends, after another byte changed
flat_set : (t : List ℕ) (R : List Role) (i : ℕ) (y : Role) → ((x : ℕ) (r : Role) → byte_at t x ≡ 32 → slice_get R x ≡ Some r → is_flat r ≡ true) → (byte_at t i ≡ 32 → is_flat y ≡ true) → (x : ℕ) (r : Role) → byte_at t x ≡ 32 → slice_get (slice_set R i y) x ≡ Some r → is_flat r ≡ true
flat_set t R i y f k x r b e = by (set_got R i y x r e)
  where
    by : ((i ≡ x) × (y ≡ r)) ⊎ (((i < x) ⊎ (x < i)) × (slice_get R x ≡ Some r)) → is_flat r ≡ true
    by (inl (p, q)) = subst (λ z. is_flat z ≡ true) q (k (ap (byte_at t) p ∙ b))
    by (inr (l, q)) = f x r b q

-- one more byte is neutral
pub neutral_put : (t : List ℕ) (f : ℕ) (R : List Role) (rs : List Run) (bs : List Bracket) (i : ℕ) (y : Role) → Neutral R i → is_neutral y ≡ true → Mark t i y → Fine t f R rs bs → Fine t f (slice_set R i y) rs bs
neutral_put t f R rs bs i y n e a h = changed t f f R (slice_set R i y) rs bs (omega arith) (neutral_safe 0 0 0 R i y n e h.safe) (neutral_nested 0 0 [] R i y n e h.nested) (set_length R i y ∙ h.size) (λ x l. neutral_level 0 0 [] R i y x n e (h.level x l)) (flat_set t R i y h.flat (λ q. neutral_flat y e)) (marked_set (Mark t) R i y a h.marked) (λ x l. same_neutral R i y x e (h.calm x l)) (λ x l. reads x (h.open_ x l)) (λ x a b. same_neutral R i y x e (h.white x a b)) (λ x l w r m v. (reads x r, same_neutral R i y x e m, neutral_level 0 0 [] R i y x n e v)) h
  where
    reads : (x : ℕ) → Read 0 0 R x → Read 0 0 (slice_set R i y) x
    reads x r = quiet_read 0 0 R i y x n (neutral_skips y (suc (0 + i)) e) r

-- a byte that is no white space begins a mark without children
pub single_put : (t : List ℕ) (R : List Role) (rs : List Run) (bs : List Bracket) (i : ℕ) (leaf : Leaf) (e : ℕ) → (byte_at t i ≡ 32 → ⊥) → Mark t i (Single leaf e) → Fine t i R rs bs → Fine t (max (suc i) e) (slice_set R i (Single leaf e)) rs bs
single_put t R rs bs i leaf e b a h = changed t i (max (suc i) e) R (slice_set R i (Single leaf e)) rs bs (omega arith)
    (single_safe 0 0 0 R i leaf e after h.safe)
    (single_nested 0 0 [] R i leaf e after (h.level i (omega arith)) h.nested)
    (set_length R i (Single leaf e) ∙ h.size)
    (λ x l. single_level 0 0 [] R i leaf e x after (h.level i (omega arith)) (h.level x (omega arith)))
    (flat_set t R i (Single leaf e) h.flat (λ q. refl))
    (marked_set (Mark t) R i (Single leaf e) a h.marked)
    (λ x l. other_neutral R i (Single leaf e) x (inl (omega arith)) (h.calm x (omega arith)))
    (λ x l. mark_read 0 0 R i (Single leaf e) x after (omega arith) (h.open_ x (omega arith)))
    (λ x p q. other_neutral R i (Single leaf e) x (other_of i x (λ w. b (ap (byte_at t) w ∙ p))) (h.white x p q))
    (λ x l w r n v. unread i R i (Single leaf e) (omega arith) x l r n v) h
  where
    after : Calm (suc i + (e - suc (0 + i))) R
    after x z l g = h.calm x (omega arith) z g

-- an address between its brackets
pub pair_put : (t : List ℕ) (R : List Role) (rs : List Run) (bs : List Bracket) (i j : ℕ) (s : Span) (e : ℕ) → (byte_at t i ≡ 32 → ⊥) → (byte_at t j ≡ 32 → ⊥) → i < j → j < length t → e ≡ suc j → byte_at t i < 128 → byte_at t j < 128 → Fine t i R rs bs → Fine t (max (suc i) e) (slice_set (slice_set R i (Open s e)) j (Close e)) rs bs
pair_put t R rs bs i j s e a b l within q low high h = changed t i (max (suc i) e) R (slice_set (slice_set R i (Open s e)) j (Close e)) rs bs (omega arith)
    (pair_safe 0 0 0 R i j s e e l (h.open_ i (omega arith)) (h.calm i (omega arith)) (h.open_ j (omega arith)) (h.calm j (omega arith)) (inl (omega arith)) h.safe)
    (pair_nested 0 0 [] R i j s e l inside (omega arith) (h.open_ i (omega arith)) (h.level i (omega arith)) (h.calm i (omega arith)) (h.open_ j (omega arith)) (h.level j (omega arith)) (h.calm j (omega arith)) (inl (omega arith)) h.nested)
    (set_length first j (Close e) ∙ (set_length R i (Open s e) ∙ h.size))
    (λ x m. pair_level 0 0 [] R i j s e x l inside (omega arith) (h.open_ i (omega arith)) (h.level i (omega arith)) (h.calm i (omega arith)) (h.open_ j (omega arith)) (h.level j (omega arith)) (h.calm j (omega arith)) (inl (omega arith)) h.nested (h.level x (omega arith)))
    (flat_set t first j (Close e) (flat_set t R i (Open s e) h.flat (λ z. absurd (a z))) (λ z. absurd (b z)))
    (marked_set (Mark t) first j (Close e) (high, ends j (omega arith)) (marked_set (Mark t) R i (Open s e) (low, ends i (omega arith)) h.marked))
    (λ x m. other_neutral first j (Close e) x (inl (omega arith)) (other_neutral R i (Open s e) x (inl (omega arith)) (h.calm x (omega arith))))
    (λ x m. quiet_read 0 0 first j (Close e) x (other_neutral R i (Open s e) j (inl l) (h.calm j (omega arith))) (omega arith) (quiet_read 0 0 R i (Open s e) x (h.calm i (omega arith)) refl (h.open_ x (omega arith))))
    (λ x p w. other_neutral first j (Close e) x (other_of j x (λ z. b (ap (byte_at t) z ∙ p))) (other_neutral R i (Open s e) x (other_of i x (λ z. a (ap (byte_at t) z ∙ p))) (h.white x p w)))
    (λ x m w r n v. before x m (unread i R i (Open s e) (omega arith) x m r n v)) h
  where
    first : List Role
    first = slice_set R i (Open s e)

    inside : j < length R
    inside = let z : length R ≡ length t = h.size in omega (arith, within)

    ends : (x : ℕ) → x < e → Ended t x e
    ends x k = let z : j ≡ e - 1 = omega arith in record { after = k; within = omega arith; closes = subst (λ y. byte_at t y < 128) z high }

    before : (x : ℕ) → x < i → Read 0 0 first x × Neutral first x × Level 0 0 [] first x → Read 0 0 (slice_set first j (Close e)) x × Neutral (slice_set first j (Close e)) x × Level 0 0 [] (slice_set first j (Close e)) x
    before x m (r, n, v) = unread i first j (Close e) (omega arith) x m r n v

-- a hard break, from the first of spaces before a line feed on
pub break_put : (t : List ℕ) (R : List Role) (rs : List Run) (bs : List Bracket) (first i : ℕ) (leaf : Leaf) → suc first < i → ((x : ℕ) → first ≤ x → x < i → byte_at t x ≡ 32) → Ended t first (suc i) → Fine t i R rs bs → Fine t (suc i) (slice_set R first (Single leaf (suc i))) rs bs
break_put t R rs bs first i leaf l b ended h = changed t i (suc i) R (slice_set R first (Single leaf (suc i))) rs bs (omega arith)
    (single_safe 0 0 0 R first leaf (suc i) after h.safe)
    (single_nested 0 0 [] R first leaf (suc i) after here h.nested)
    (set_length R first (Single leaf (suc i)) ∙ h.size)
    (λ x m. single_level 0 0 [] R first leaf (suc i) x after here (h.level x (omega arith)))
    (flat_set t R first (Single leaf (suc i)) h.flat (λ q. refl))
    (marked_set (Mark t) R first (Single leaf (suc i)) (let q : byte_at t first ≡ 32 = b first (omega arith) (omega arith) in omega arith, ended) h.marked)
    (λ x m. other_neutral R first (Single leaf (suc i)) x (inl (omega arith)) (h.calm x (omega arith)))
    (λ x m. mark_read 0 0 R first (Single leaf (suc i)) x after (omega arith) (h.open_ x (omega arith)))
    (λ x p q. other_neutral R first (Single leaf (suc i)) x (other_of first x (λ w. no_feed (ap (λ y. byte_at t (suc y)) w ∙ q))) (h.white x p q))
    (λ x m w r n v. before x m w r n v) h
  where
    here : Level 0 0 [] R first
    here = level_back 0 0 [] R first i (omega arith) (λ n x m o e. h.flat n x (b n m o) e) (h.level i (omega arith))

    after : Calm (suc first + (suc i - suc (0 + first))) R
    after x z m g = h.calm x (omega arith) z g

    no_feed : byte_at t (suc first) ≡ 10 → ⊥
    no_feed q = true≢false (ap (λ c. c == 10) (sym q ∙ b (suc first) (omega arith) l))

    before : (x : ℕ) → x < i → is_white (byte_at t x) ≡ false → Read 0 0 R x → Neutral R x → Level 0 0 [] R x → Read 0 0 (slice_set R first (Single leaf (suc i))) x × Neutral (slice_set R first (Single leaf (suc i))) x × Level 0 0 [] (slice_set R first (Single leaf (suc i))) x
    before x m w r n v = by (nat_lt x first) refl
      where
        by : (k : Bool) → nat_lt x first ≡ k → Read 0 0 (slice_set R first (Single leaf (suc i))) x × Neutral (slice_set R first (Single leaf (suc i))) x × Level 0 0 [] (slice_set R first (Single leaf (suc i))) x
        by true e = let z : x < first = grind (arith, nat_tests) in unread first R first (Single leaf (suc i)) (omega arith) x z r n v
        by false e = let z : first ≤ x = grind (arith, nat_tests) in absurd (true≢false (sym (ap is_white (b x z m)) ∙ w))

-- one more run
pub runs_more : (t : List ℕ) (R : List Role) (f g c : ℕ) (rs : List Run) (r : Run) → c ≤ f → f ≤ r.place → f ≤ g → ((x : ℕ) → r.place ≤ x → x < r.place + r.count → Good t R is_run x) → r.place + r.count ≤ g → r.place + r.count ≤ length t → Runs t R f c rs → Runs t R g c (rs ++ r ∷ [])
runs_more t R f g c [] r l m n k e i h = (omega arith, k, e, i, tt)
runs_more t R f g c (q ∷ rs) r l m n k e i (a, b, d, y, h) = (a, b, omega arith, y, runs_more t R f g (q.place + q.count) rs r d m n k e i h)

-- one more bracket
got_bracket : (bs : List Bracket) (new : Bracket) (k : ℕ) (b : Bracket) → slice_get (bs ++ new ∷ []) k ≡ Some b → (slice_get bs k ≡ Some b) ⊎ ((new ≡ b) × (k ≡ length bs))
got_bracket [] new zero b e = let q : new ≡ b = cc in inr (q, refl)
got_bracket [] new (suc k) b e = absurd cc
got_bracket (x ∷ xs) new zero b e = inl e
got_bracket (x ∷ xs) new (suc k) b e = by (got_bracket xs new k b e)
  where
    by : (slice_get xs k ≡ Some b) ⊎ ((new ≡ b) × (k ≡ length xs)) → (slice_get xs k ≡ Some b) ⊎ ((new ≡ b) × (suc k ≡ suc (length xs)))
    by (inl q) = inl q
    by (inr (q, p)) = inr (q, ap suc p)

got_less : (bs : List Bracket) (k : ℕ) (b : Bracket) → slice_get bs k ≡ Some b → k < length bs
got_less [] k b e = absurd cc
got_less (x ∷ xs) zero b e = omega arith
got_less (x ∷ xs) (suc k) b e = let l : k < length xs = got_less xs k b e in omega arith

pub brackets_more : (t : List ℕ) (R : List Role) (f g : ℕ) (bs : List Bracket) (new : Bracket) → f ≤ g → f ≤ new.start → Opening t R g new → Brackets t R f bs → Brackets t R g (bs ++ new ∷ [])
brackets_more t R f g bs new l m o h = record { good = λ k b e. good b (got_bracket bs new k b e); order = λ k i b d j e q. order k i b d j (got_bracket bs new k b e) (got_bracket bs new i d q) }
  where
    old : Brackets t R g bs
    old = brackets_kept t f g R R bs l (λ x m k r n v. (r, n, v)) h

    good : {k : ℕ} (b : Bracket) → (slice_get bs k ≡ Some b) ⊎ ((new ≡ b) × (k ≡ length bs)) → Opening t R g b
    good {k} b (inl q) = old.good k b q
    good b (inr (q, p)) = subst (Opening t R g) q o

    order : (k i : ℕ) (b d : Bracket) → k < i → (slice_get bs k ≡ Some b) ⊎ ((new ≡ b) × (k ≡ length bs)) → (slice_get bs i ≡ Some d) ⊎ ((new ≡ d) × (i ≡ length bs)) → b.inner ≤ d.start
    order k i b d j (inl p) (inl q) = h.order k i b d j p q
    order k i b d j (inl p) (inr (q, w)) = subst (λ (z : Bracket). b.inner ≤ z.start) q (let y : b.inner ≤ f = (h.good k b p).1 in omega arith)
    order k i b d j (inr (p, w)) (inl q) = absurd (let y : i < length bs = got_less bs i d q in omega arith)
    order k i b d j (inr (p, w)) (inr (q, v)) = absurd (omega arith)

-- fewer brackets
got_front : (k j : ℕ) (bs : List Bracket) (b : Bracket) → slice_get (take k bs) j ≡ Some b → (j < k) × (slice_get bs j ≡ Some b)
got_front zero j bs b e = absurd cc
got_front (suc k) j [] b e = absurd cc
got_front (suc k) zero (x ∷ xs) b e = (omega arith, e)
got_front (suc k) (suc j) (x ∷ xs) b e = by (got_front k j xs b e)
  where
    by : (j < k) × (slice_get xs j ≡ Some b) → (suc j < suc k) × (slice_get xs j ≡ Some b)
    by (l, q) = (omega arith, q)

pub brackets_fewer : (t : List ℕ) (R : List Role) (f k : ℕ) (bs : List Bracket) → Brackets t R f bs → Brackets t R f (take k bs)
brackets_fewer t R f k bs h = record { good = λ i b e. h.good i b ((got_front k i bs b e).1); order = λ i j b d l e q. h.order i j b d l ((got_front k i bs b e).1) ((got_front k j bs d q).1) }

-- the brackets before the last one are before it
pub brackets_below : (t : List ℕ) (R : List Role) (f k : ℕ) (bs : List Bracket) (b : Bracket) → slice_get bs k ≡ Some b → Brackets t R f bs → Brackets t R b.start (take k bs)
brackets_below t R f k bs b g h = record { good = λ i d e. by i d (got_front k i bs d e); order = λ i j c d l e q. h.order i j c d l ((got_front k i bs c e).1) ((got_front k j bs d q).1) }
  where
    by : (i : ℕ) (d : Bracket) → (i < k) × (slice_get bs i ≡ Some d) → Opening t R b.start d
    by i d (l, q) = let a : Opening t R f d = h.good i d q in (a.0, h.order i k d b l q g, a.2, a.3)

-- one more run, after all brackets
got_run : (rs : List Run) (new : Run) (k : ℕ) (r : Run) → slice_get (rs ++ new ∷ []) k ≡ Some r → (slice_get rs k ≡ Some r) ⊎ ((new ≡ r) × (k ≡ length rs))
got_run [] new zero r e = let q : new ≡ r = cc in inr (q, refl)
got_run [] new (suc k) r e = absurd cc
got_run (x ∷ xs) new zero r e = inl e
got_run (x ∷ xs) new (suc k) r e = by (got_run xs new k r e)
  where
    by : (slice_get xs k ≡ Some r) ⊎ ((new ≡ r) × (k ≡ length xs)) → (slice_get xs k ≡ Some r) ⊎ ((new ≡ r) × (suc k ≡ suc (length xs)))
    by (inl q) = inl q
    by (inr (q, p)) = inr (q, ap suc p)

pub parted_run : (f : ℕ) (rs : List Run) (bs : List Bracket) (new : Run) → f ≤ new.place → ((k : ℕ) (b : Bracket) → slice_get bs k ≡ Some b → b.inner ≤ f) → AllParted rs bs → AllParted (rs ++ new ∷ []) bs
parted_run f rs bs new l m h = record { parts = parts; few = λ k b e. let w : b.runs ≤ length rs = h.few k b e in let q : length (rs ++ new ∷ []) ≡ length rs + 1 = length-append rs (new ∷ []) in omega arith; rise = h.rise }
  where
    parts : (k : ℕ) (b : Bracket) → slice_get bs k ≡ Some b → Parted (rs ++ new ∷ []) b
    parts k b e j r g = by (got_run rs new j r g)
      where
        by : (slice_get rs j ≡ Some r) ⊎ ((new ≡ r) × (j ≡ length rs)) → (b.runs ≤ j → b.inner ≤ r.place) × (j < b.runs → r.place + r.count ≤ b.start)
        by (inl q) = h.parts k b e j r q
        by (inr (q, p)) = let i : b.inner ≤ f = m k b e in let w : b.runs ≤ length rs = h.few k b e in (λ o. subst (λ (x : Run). b.inner ≤ x.place) q (omega arith), λ o. absurd (omega arith))

-- one more bracket, after all runs
runs_before : (t : List ℕ) (R : List Role) (f c : ℕ) (rs : List Run) (j : ℕ) (r : Run) → Runs t R f c rs → slice_get rs j ≡ Some r → r.place + r.count ≤ f
runs_before t R f c [] j r h e = absurd cc
runs_before t R f c (x ∷ xs) zero r (a, b, d, i, h) e = let q : x ≡ r = cc in subst (λ (y : Run). y.place + y.count ≤ f) q d
runs_before t R f c (x ∷ xs) (suc j) r (a, b, d, i, h) e = runs_before t R f (x.place + x.count) xs j r h e

run_less : (rs : List Run) (k : ℕ) (r : Run) → slice_get rs k ≡ Some r → k < length rs
run_less [] k r e = absurd cc
run_less (x ∷ xs) zero r e = omega arith
run_less (x ∷ xs) (suc k) r e = let l : k < length xs = run_less xs k r e in omega arith

pub parted_bracket : (t : List ℕ) (R : List Role) (f : ℕ) (rs : List Run) (bs : List Bracket) (new : Bracket) → f ≤ new.start → new.runs ≡ length rs → Runs t R f 0 rs → AllParted rs bs → AllParted rs (bs ++ new ∷ [])
parted_bracket t R f rs bs new l q h p = record { parts = λ k b e. parts b (got_bracket bs new k b e); few = λ k b e. few b (got_bracket bs new k b e); rise = λ k i b d m e g. rise k i b d m (got_bracket bs new k b e) (got_bracket bs new i d g) }
  where
    parts : {k : ℕ} (b : Bracket) → (slice_get bs k ≡ Some b) ⊎ ((new ≡ b) × (k ≡ length bs)) → Parted rs b
    parts {k} b (inl i) = p.parts k b i
    parts b (inr (i, m)) = subst (Parted rs) i (λ j r g. (
      λ o. absurd (let z : j < length rs = run_less rs j r g in omega arith),
      λ o. let z : r.place + r.count ≤ f = runs_before t R f 0 rs j r h g in omega arith,
    ))

    few : {k : ℕ} (b : Bracket) → (slice_get bs k ≡ Some b) ⊎ ((new ≡ b) × (k ≡ length bs)) → b.runs ≤ length rs
    few {k} b (inl i) = p.few k b i
    few b (inr (i, m)) = subst (λ (x : Bracket). x.runs ≤ length rs) i (omega arith)

    rise : (k i : ℕ) (b d : Bracket) → k < i → (slice_get bs k ≡ Some b) ⊎ ((new ≡ b) × (k ≡ length bs)) → (slice_get bs i ≡ Some d) ⊎ ((new ≡ d) × (i ≡ length bs)) → b.runs ≤ d.runs
    rise k i b d m (inl e) (inl g) = p.rise k i b d m e g
    rise k i b d m (inl e) (inr (g, o)) = subst (λ (x : Bracket). b.runs ≤ x.runs) g (let z : b.runs ≤ length rs = p.few k b e in omega arith)
    rise k i b d m (inr (e, o)) (inl g) = absurd (let y : i < length bs = got_less bs i d g in omega arith)
    rise k i b d m (inr (e, o)) (inr (g, n)) = absurd (omega arith)

-- fewer brackets, and fewer runs
pub parted_fewer : (rs : List Run) (k : ℕ) (bs : List Bracket) → AllParted rs bs → AllParted rs (take k bs)
parted_fewer rs k bs h = record { parts = λ i b e. h.parts i b ((got_front k i bs b e).1); few = λ i b e. h.few i b ((got_front k i bs b e).1); rise = λ i j b d l e g. h.rise i j b d l ((got_front k i bs b e).1) ((got_front k j bs d g).1) }

-- the brackets before one are after as many runs or fewer
pub counted_below : (rs : List Run) (k : ℕ) (bs : List Bracket) (b : Bracket) → slice_get bs k ≡ Some b → AllParted rs bs → Counted b.runs (take k bs)
counted_below rs k bs b g h i d e = by (got_front k i bs d e)
  where
    by : (i < k) × (slice_get bs i ≡ Some d) → d.runs ≤ b.runs
    by (l, q) = h.rise i k d b l q g

got_front_run : (k j : ℕ) (rs : List Run) (r : Run) → slice_get (take k rs) j ≡ Some r → slice_get rs j ≡ Some r
got_front_run zero j rs r e = absurd cc
got_front_run (suc k) j [] r e = e
got_front_run (suc k) zero (x ∷ xs) r e = e
got_front_run (suc k) (suc j) (x ∷ xs) r e = got_front_run k j xs r e

parted_runs : (n : ℕ) (rs : List Run) (bs : List Bracket) → n ≤ length rs → Counted n bs → AllParted rs bs → AllParted (take n rs) bs
parted_runs n rs bs l c h = record { parts = λ k b e j r g. h.parts k b e j r (got_front_run n j rs r g); few = λ k b e. let w : length (take n rs) ≡ min n (length rs) = length-take n rs in let q : b.runs ≤ n = c k b e in omega arith; rise = h.rise }

-- the runs before a bracket and those after it
runs_parted : (t : List ℕ) (R : List Role) (f lo hi c n : ℕ) (rs : List Run) → ((j : ℕ) (r : Run) → slice_get rs j ≡ Some r → (n ≤ j → hi ≤ r.place) × (j < n → r.place + r.count ≤ lo)) → Runs t R f c rs → Runs t R lo c (take n rs) × Runs t R f hi (drop n rs)
runs_parted t R f lo hi c zero [] k h = (tt, tt)
runs_parted t R f lo hi c zero (r ∷ rs) k (a, b, d, e, h) = (tt, ((k 0 r refl).0 (omega arith), b, d, e, h))
runs_parted t R f lo hi c (suc n) [] k h = (tt, tt)
runs_parted t R f lo hi c (suc n) (r ∷ rs) k (a, b, d, e, h) =
    let w : Runs t R lo (r.place + r.count) (take n rs) × Runs t R f hi (drop n rs) = runs_parted t R f lo hi (r.place + r.count) n rs (λ j x g. let m : (suc n ≤ suc j → hi ≤ x.place) × (suc j < suc n → x.place + x.count ≤ lo) = k (suc j) x g in (λ o. (m.0) (omega arith), λ o. (m.1) (omega arith))) h in
    ((a, b, (k 0 r refl).1 (omega arith), e, w.0), w.1)

-- what matches of the later runs keep
abbrev Kept : List ℕ → ℕ → ℕ → ℕ → Type 0
Kept t lo f x = (is_run (byte_at t x) ≡ false) ⊎ ((x < lo) ⊎ (f ≤ x))

run_ascii : (b : ℕ) → is_run b ≡ true → b < 128
run_ascii b e = by (one_of b 42 95 e)
  where
    by : (b ≡ 42) ⊎ (b ≡ 95) → b < 128
    by (inl q) = omega arith
    by (inr q) = omega arith

bracket_ascii : (b : ℕ) → is_bracket b ≡ true → b < 128
bracket_ascii b e = by (one_of b 91 33 e)
  where
    by : (b ≡ 91) ⊎ (b ≡ 33) → b < 128
    by (inl q) = omega arith
    by (inr q) = omega arith

-- delimiters that are matched are bytes of runs
run_rules : (t : List ℕ) (lo f : ℕ) (R : List Role) → length R ≡ length t → Rules (Kept t lo f) (Mark t) (length R)
run_rules t lo f R size = record {
  hidden = λ i n. ascii i n;
  opens = λ i j s n m l k. (ascii i n, record { after = omega arith; within = omega (arith, size); closes = last j m });
  closes = λ j n k. (ascii j n, record { after = omega arith; within = omega (arith, size); closes = last j n });
}
  where
    ascii : (i : ℕ) → (Kept t lo f i → ⊥) → byte_at t i < 128
    ascii i n = by (is_run (byte_at t i)) refl
      where
        by : (k : Bool) → is_run (byte_at t i) ≡ k → byte_at t i < 128
        by true e = run_ascii (byte_at t i) e
        by false e = absurd (n (inl e))

    last : (j : ℕ) → (Kept t lo f j → ⊥) → byte_at t (suc j - 1) < 128
    last j n = let q : j ≡ suc j - 1 = omega arith in subst (λ x. byte_at t x < 128) q (ascii j n)

row_of : (t : List ℕ) (R : List Role) (lo f to c : ℕ) (rs : List Run) → f ≤ to ⊎ length t ≤ to → lo ≤ c → Runs t R f c rs → Row (Kept t lo f) R to c rs
row_of t R lo f to c [] o l h = tt
row_of t R lo f to c (r ∷ rs) o l (a, b, d, e, h) = (a, cells, last o, row_of t R lo f to (r.place + r.count) rs o (omega arith) h)
  where
    last : f ≤ to ⊎ length t ≤ to → r.place + r.count ≤ to
    last (inl m) = omega arith
    last (inr m) = omega arith

    cells : (x : ℕ) → r.place ≤ x → x < r.place + r.count → Read 0 0 R x × Neutral R x × (Kept t lo f x → ⊥) × Level 0 0 [] R x
    cells x m n = ((b x m n).0, (b x m n).1, none, (b x m n).3)
      where
        none : Kept t lo f x → ⊥
        none (inl q) = true≢false (sym ((b x m n).2) ∙ q)
        none (inr (inl q)) = omega arith
        none (inr (inr q)) = omega arith

-- a bracket that closes makes a link or an image of its text, in which emphasis is matched first
abbrev pub spanned_roles : List Role → List Run → ℕ → Bracket → ℕ → Span → ℕ → List Role
spanned_roles R rs n b i s e = slice_set (slice_set (slice_set (emphasized R (drop n rs)) (b.inner - 1) Hidden) b.start (Open s e)) i (Close e)

pub span_put : (t : List ℕ) (R : List Role) (rs : List Run) (bs : List Bracket) (b : Bracket) (i : ℕ) (s : Span) (e : ℕ) → length t < 2 ^ 64 - 1 → byte_at t i ≡ 93 → Ended t i e → Opening t R i b → Parted rs b → b.runs ≤ length rs → Counted b.runs bs → Brackets t R b.start bs → Fine t i R rs bs
    → Fine t (max (suc i) e) (spanned_roles R rs b.runs b i s e) (take b.runs rs) bs
span_put t R rs bs b i s e short z far (l, m, bs_good, bi_good) parts few count below h = by (runs_parted t R i b.start b.inner 0 b.runs rs parts h.runs)
  where
    within : i < length t
    within = byte_within t i 93 z refl

    past : i < e
    past = far.after

    by : Runs t R b.start 0 (take b.runs rs) × Runs t R i b.inner (drop b.runs rs) → Fine t (max (suc i) e) (spanned_roles R rs b.runs b i s e) (take b.runs rs) bs
    by (u, v) = record {
      safe = pair_safe 0 0 0 first b.start i s e e (omega arith) (first_read b.start (bs_good.0)) (first_kept b.start start_kept (bs_good.1)) (first_read i (h.open_ i (omega arith))) (first_kept i (inr (inr (omega arith))) (h.calm i (omega arith))) (inr after) (neutral_safe 0 0 0 E (b.inner - 1) Hidden inner_neutral refl made.safe);
      nested = pair_nested 0 0 [] first b.start i s e (omega arith) inside (omega (arith, past)) (first_read b.start (bs_good.0)) (first_level b.start (made.low b.start l (bs_good.3))) (first_kept b.start start_kept (bs_good.1)) (first_read i (h.open_ i (omega arith))) (first_level i (made.high i (omega arith) (h.level i (omega arith)))) (first_kept i (inr (inr (omega arith))) (h.calm i (omega arith))) (inr after) first_nested;
      size = set_length second i (Close e) ∙ (set_length first b.start (Open s e) ∙ first_size) ∙ h.size;
      level = λ x k. pair_level 0 0 [] first b.start i s e x (omega arith) inside (omega arith) (first_read b.start (bs_good.0)) (first_level b.start (made.low b.start l (bs_good.3))) (first_kept b.start start_kept (bs_good.1)) (first_read i (h.open_ i (omega arith))) (first_level i (made.high i (omega arith) (h.level i (omega arith)))) (first_kept i (inr (inr (omega arith))) (h.calm i (omega arith))) (inr after) first_nested (first_level x (made.high x (omega arith) (h.level x (omega arith))));
      flat = flat_set t second i (Close e) (flat_set t first b.start (Open s e) (flat_set t E (b.inner - 1) Hidden (λ x r q g. flat_kept x r q g) (λ q. refl)) (λ q. absurd (white_start q))) (λ q. absurd (true≢false (ap (λ y. y == 93) (sym z ∙ q))));
      marked = marked_set (Mark t) second i (Close e) (let q : byte_at t i ≡ 93 = z in omega arith, far) (marked_set (Mark t) first b.start (Open s e) (bracket_ascii (byte_at t b.start) (bs_good.2), record { after = omega (arith, past); within = far.within; closes = far.closes }) (marked_set (Mark t) E (b.inner - 1) Hidden (bracket_ascii (byte_at t (b.inner - 1)) (bi_good.2)) made.marked));
      parted = parted_runs b.runs rs bs few count h.parted;
      calm = λ x k. other_neutral second i (Close e) x (inl (omega arith)) (other_neutral first b.start (Open s e) x (inl (omega arith)) (first_kept x (inr (inr (omega arith))) (h.calm x (omega arith))));
      open_ = λ x k. mark_read 0 0 second i (Close e) x later (omega arith) (second_read x (h.open_ x (omega arith)));
      white = λ x a c. other_neutral second i (Close e) x (other_byte t (λ y. y == 93) i x (ap (λ y. y == 93) z) (ap (λ y. y == 93) a)) (other_neutral first b.start (Open s e) x (other_byte t is_bracket b.start x (bs_good.2) (ap is_bracket a)) (first_kept x (inl (ap is_run a)) (h.white x a c)));
      runs = runs_kept t b.start (max (suc i) e) 0 R third (take b.runs rs) (omega arith) (λ x k a r w y. (third_read x (omega arith) r, other_neutral second i (Close e) x (inr (omega arith)) (other_neutral first b.start (Open s e) x (inr k) (first_kept x (inr (inl (omega arith))) w)), third_level x k y)) u;
      brackets = brackets_kept t b.start (max (suc i) e) R third bs (omega arith) (λ x k a r w y. (third_read x (omega arith) r, other_neutral second i (Close e) x (inr (omega arith)) (other_neutral first b.start (Open s e) x (inr k) (first_kept x (inl (bracket_run (byte_at t x) a)) w)), third_level x k y)) below;
    }
      where
        E : List Role
        E = emphasized R (drop b.runs rs)

        made : Matches (Kept t b.inner i) (Mark t) b.inner i R E
        made = emphasis_matches (Kept t b.inner i) (Mark t) b.inner i R (drop b.runs rs) (omega (arith, within)) (let q : length R ≡ length t = h.size in omega (arith, within)) m (row_of t R b.inner i i b.inner (drop b.runs rs) (inl (omega arith)) (omega arith) v) (run_rules t b.inner i R h.size) h.marked h.safe h.nested

        first : List Role
        first = slice_set E (b.inner - 1) Hidden

        second : List Role
        second = slice_set first b.start (Open s e)

        third : List Role
        third = slice_set second i (Close e)

        start_kept : Kept t b.inner i b.start
        start_kept = inr (inl l)

        inner_neutral : Neutral E (b.inner - 1)
        inner_neutral = made.kept (b.inner - 1) (inl (bracket_run (byte_at t (b.inner - 1)) (bi_good.2))) (bi_good.1)

        first_kept : (x : ℕ) → Kept t b.inner i x → Neutral R x → Neutral first x
        first_kept x k w = same_neutral E (b.inner - 1) Hidden x refl (made.kept x k w)

        first_read : (x : ℕ) → Read 0 0 R x → Read 0 0 first x
        first_read x r = quiet_read 0 0 E (b.inner - 1) Hidden x inner_neutral refl (made.read x r)

        first_level : (x : ℕ) → Level 0 0 [] E x → Level 0 0 [] first x
        first_level x y = neutral_level 0 0 [] E (b.inner - 1) Hidden x inner_neutral refl y

        first_nested : Nested 0 0 [] first
        first_nested = neutral_nested 0 0 [] E (b.inner - 1) Hidden inner_neutral refl made.nested

        first_size : length first ≡ length R
        first_size = set_length E (b.inner - 1) Hidden ∙ made.size

        inside : i < length first
        inside = let q : length R ≡ length t = h.size in omega (arith, within, first_size)

        white_start : byte_at t b.start ≡ 32 → ⊥
        white_start q = true≢false (sym (bs_good.2) ∙ ap is_bracket q)

        flat_kept : (x : ℕ) (r : Role) → byte_at t x ≡ 32 → slice_get E x ≡ Some r → is_flat r ≡ true
        flat_kept x r q g = made.flat x (inl (ap is_run q)) (λ y w. h.flat x y q w) r g

        second_read : (x : ℕ) → Read 0 0 R x → Read 0 0 second x
        second_read x r = quiet_read 0 0 first b.start (Open s e) x (first_kept b.start start_kept (bs_good.1)) refl (first_read x r)

        third_read : (x : ℕ) → x ≤ i → Read 0 0 R x → Read 0 0 third x
        third_read x k r = before_read 0 0 second i (Close e) x k (second_read x r)

        third_level : (x : ℕ) → x < b.start → Level 0 0 [] R x → Level 0 0 [] third x
        third_level x k y = before_level 0 0 [] second i (Close e) x (omega arith) (before_level 0 0 [] first b.start (Open s e) x (omega arith) (first_level x (made.low x (omega arith) y)))

        after : Calm (suc i) first
        after x y k g = first_kept x (inr (inr (omega arith))) (h.calm x (omega arith)) y g

        later : Calm (suc i + (e - suc (0 + i))) second
        later x y k g = other_neutral first b.start (Open s e) x (inl (omega arith)) (first_kept x (inr (inr (omega arith))) (h.calm x (omega arith))) y g

-- at the end all runs are matched
settled_matches : (t : List ℕ) (f : ℕ) (R : List Role) (rs : List Run) (bs : List Bracket) → length t < 2 ^ 64 - 1 → Fine t f R rs bs → Matches (Kept t 0 f) (Mark t) 0 (length t) R (emphasized R rs)
settled_matches t f R rs bs short h = emphasis_matches (Kept t 0 f) (Mark t) 0 (length t) R rs (omega arith) (let q : length R ≡ length t = h.size in omega arith) (omega arith) (row_of t R 0 f (length t) 0 rs (inr (omega arith)) (omega arith) h.runs) (run_rules t 0 f R h.size) h.marked h.safe h.nested

pub settled_safe : (t : List ℕ) (f : ℕ) (R : List Role) (rs : List Run) (bs : List Bracket) → length t < 2 ^ 64 - 1 → Fine t f R rs bs → Safe 0 0 0 (emphasized R rs)
settled_safe t f R rs bs short h = (settled_matches t f R rs bs short h).safe

pub settled_nested : (t : List ℕ) (f : ℕ) (R : List Role) (rs : List Run) (bs : List Bracket) → length t < 2 ^ 64 - 1 → Fine t f R rs bs → Nested 0 0 [] (emphasized R rs)
settled_nested t f R rs bs short h = (settled_matches t f R rs bs short h).nested

pub settled_marked : (t : List ℕ) (f : ℕ) (R : List Role) (rs : List Run) (bs : List Bracket) → length t < 2 ^ 64 - 1 → Fine t f R rs bs → Marked (Mark t) (emphasized R rs)
settled_marked t f R rs bs short h = (settled_matches t f R rs bs short h).marked

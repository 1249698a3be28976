-- An empty line after a text that ends with a list leaves the list open, and no leaf.
use Rattle.std.proofs.Common.{◌≡◌, ◌⊎◌, inl, inr, ℕ, suc, ◌+◌, ◌-◌, ◌<◌, ◌≤◌, Bool, true, false, ◌||◌, cond, if◌then◌else◌, nat_le, List, [], ◌∷◌, length, map, refl, ap, sym, subst, ◌∙◌, arith}
use Rattle.std.specs.Prelude.{slice_get, Some, unwrap_or}
use Rattle.std.specs.List.{find}
use Rattle.std.specs.Option.{option_map_or}
use Rattle.std.proofs.lemmas.Bool.Decides.{nat_tests}
use Rattle.std.proofs.lemmas.List.{length-map}
use Rattle.tocmark_read_lines.specs.Cells.{first_cursor, is_blank_at}
use Rattle.tocmark_read_lines.specs.Containers.{raised_at, is_empty_as, is_empty, blank_depth, stopped, passed, matched, touched_from}
use Rattle.tocmark_read_lines.specs.declared.cell.Cursor.{Cursor}
use Rattle.tocmark_read_lines.specs.declared.container.Container.{Container}
use Rattle.tocmark_read_lines.specs.declared.container.Container.TheVariants as container
use Rattle.tocmark_read_lines.specs.declared.container.Opened.{Opened}
use Rattle.tocmark_read_lines.specs.declared.line.Line.{Line}
use Rattle.tocmark_read_page.specs.Pages.{State, is_quote, closed_to}
use Rattle.tocmark_read_blocks.specs.Blocks.{core_known, turn_of, cells_taken_in}
use Rattle.tocmark_read_blocks.specs.Leaves.{leaf_turn}
use Rattle.tocmark_read_blocks.specs.declared.leaf.Turn.TheVariants as turn
use Rattle.tocmark_read_blocks.proofs.Steps.{blank_started}
use Rattle.tocmark_text_laws.specs.Sequence.{ends_before_blank}
use Rattle.tocmark_text_laws.specs.ListEnds.{has_quote}
use Rattle.tocmark_text_laws.proofs.Sorted.{containers, quotes_of}
use Rattle.tocmark_text_laws.proofs.SequenceBlank.{passes_blank}
use Rattle.tocmark_text_laws.proofs.ListEndsClosed.{Lists}
use Rattle.tocmark_text_laws.proofs.ListEndsLine.{cells_passed}

-- where the first quote is
quote_range : (n : ℕ) (cs : List Container) (x : ℕ) (xs : List ℕ) → quotes_of n cs ≡ x ∷ xs → (n ≤ x) × (x < n + length cs)
quote_range n [] x xs e = absurd cc
quote_range n (c ∷ cs) x xs e = by (is_quote c) e (quote_range (suc n) cs x xs)
  where
    by : (b : Bool) → (if b then n ∷ quotes_of (suc n) cs else quotes_of (suc n) cs) ≡ x ∷ xs → (quotes_of (suc n) cs ≡ x ∷ xs → (suc n ≤ x) × (x < suc n + length cs)) → (n ≤ x) × (x < n + length (c ∷ cs))
    by true k h = let z : n ≡ x = cc in (omega (arith, z), omega (arith, z))
    by false k h = let w : (suc n ≤ x) × (x < suc n + length cs) = h k in let a : suc n ≤ x = w.0 in let b : x < suc n + length cs = w.1 in (omega (arith, a), omega (arith, b))

-- no quote is open
no_quotes : (n : ℕ) (os : List Opened) → quotes_of n (containers os) ≡ [] → has_quote os ≡ false
no_quotes n [] e = refl
no_quotes n (o ∷ os) e = by (is_quote o.container) e (no_quotes (suc n) os)
  where
    by : (b : Bool) → (if b then n ∷ quotes_of (suc n) (containers os) else quotes_of (suc n) (containers os)) ≡ [] → (quotes_of (suc n) (containers os) ≡ [] → has_quote os ≡ false) → (b || has_quote os) ≡ false
    by true k h = absurd cc
    by false k h = h k

-- the list stays open
deep : (mark : ℕ) (inner : List Container) (os : List Opened) → containers os ≡ container.List mark ∷ inner → 1 ≤ blank_depth os
unfolding blank_depth is_empty
deep mark inner [] e = absurd cc
deep mark inner (o ∷ []) e = subst (λ b. 1 ≤ (if b then length (o ∷ []) - 1 else length (o ∷ []))) (sym (ap (λ c. is_empty_as c o.had) (let z : o.container ≡ container.List mark = cc in z))) (omega arith)
deep mark inner (o ∷ p ∷ ps) e = by (option_map_or is_empty (slice_get (o ∷ p ∷ ps) (length (o ∷ p ∷ ps) - 1)) false)
  where
    by : (b : Bool) → 1 ≤ (if b then length (o ∷ p ∷ ps) - 1 else length (o ∷ p ∷ ps))
    by true = omega arith
    by false = omega arith

first_matched : (mark : ℕ) (inner : List Container) (os : List Opened) (qs : List ℕ) → containers os ≡ container.List mark ∷ inner → matched [] os qs ≡ (unwrap_or (find (λ x. nat_le 0 x) qs) (blank_depth os), first_cursor [])
unfolding passed stopped first_cursor
first_matched mark inner [] qs e = absurd cc
first_matched mark inner (o ∷ os) qs e = refl

outer_quotes : (mark : ℕ) (inner : List Container) → quotes_of 0 (container.List mark ∷ inner) ≡ quotes_of 1 inner
unfolding is_quote
outer_quotes mark inner = refl

blank_here : (c : Cursor) → is_blank_at [] c ≡ true
blank_here c = let e : nat_le 0 c.ink ≡ true = grind (arith, nat_tests) in e

turn_passes : (q : List ℕ) (l : Line) (c : Cursor) (d : ℕ) (s : State) → ((nat_le (length s.opened) d ≡ false) ⊎ (ends_before_blank s.leaf ≡ true)) → turn_of q [] l (record { cursor = c; depth = d }) s ≡ turn.Passes
unfolding turn_of
turn_passes q l c d s (inl e) = ap (λ b. if b then leaf_turn q [] l c s.leaf else turn.Passes) e
turn_passes q l c d s (inr e) = by (nat_le (length s.opened) d)
  where
    by : (b : Bool) → (if b then leaf_turn q [] l c s.leaf else turn.Passes) ≡ turn.Passes
    by true = passes_blank q l c s.leaf e
    by false = refl

-- an empty line ends what is open from a depth on
pub record Blanked (q : List ℕ) (l : Line) (s : State) : Type 0 where
  pub depth : ℕ
  pub deep : 1 ≤ depth
  pub found : matched [] s.opened s.quotes ≡ (depth, first_cursor [])
  pub free : (end line : ℕ) (os : List Opened) → touched_from (suc (suc depth)) end line (map (λ i. suc (suc i)) s.quotes) os ≡ os
  pub turns : turn_of q [] l (record { cursor = first_cursor []; depth = depth }) s ≡ turn.Passes
  pub same : cells_taken_in core_known q [] l s ≡ closed_to q depth s

pub blank_listed : (q : List ℕ) (l : Line) (mark : ℕ) (s : State) → Lists mark s → s.quotes ≡ quotes_of 0 (containers s.opened) → (has_quote s.opened ≡ false → ends_before_blank s.leaf ≡ true) → Blanked q l s
blank_listed q l mark s h known ends = by s.quotes refl
  where
    c : Cursor
    c = first_cursor []

    long : length s.opened ≡ suc (length h.inner)
    long = sym (length-map s.opened (λ (o : Opened). o.container)) ∙ ap length h.first

    whole : (d : ℕ) → 1 ≤ d → matched [] s.opened s.quotes ≡ (d, c) → touched_from d l.end l.number s.quotes s.opened ≡ s.opened
        → ((end line : ℕ) (os : List Opened) → touched_from (suc (suc d)) end line (map (λ i. suc (suc i)) s.quotes) os ≡ os) → ((nat_le (length s.opened) d ≡ false) ⊎ (ends_before_blank s.leaf ≡ true)) → Blanked q l s
    whole d low found same free turns = record {
      depth = d;
      deep = low;
      found = found;
      free = free;
      turns = turn_passes q l c d s turns;
      same = cells_passed q [] l s d c found same (turn_passes q l c d s turns) ∙ blank_started core_known q [] l (record { cursor = c; depth = d }) s (blank_here c);
    }

    by : (qs : List ℕ) → s.quotes ≡ qs → Blanked q l s
    by [] e =
        whole (blank_depth s.opened) (deep mark h.inner s.opened h.first)
        (first_matched mark h.inner s.opened s.quotes h.first ∙ ap (λ (xs : List ℕ). (unwrap_or (find (λ x. nat_le 0 x) xs) (blank_depth s.opened), c)) e)
        (ap (λ (xs : List ℕ). touched_from (blank_depth s.opened) l.end l.number xs s.opened) e)
        (λ end line os. ap (λ (xs : List ℕ). touched_from (suc (suc (blank_depth s.opened))) end line (map (λ i. suc (suc i)) xs) os) e)
        (inr (ends (no_quotes 0 s.opened (sym known ∙ e))))
    by (x ∷ xs) e =
        whole x low
        (first_matched mark h.inner s.opened s.quotes h.first
        ∙ ap (λ (zs : List ℕ). (unwrap_or (find (λ z. nat_le 0 z) zs) (blank_depth s.opened), c)) e
        ∙ ap (λ b. (unwrap_or (cond b (Some x) (find (λ z. nat_le 0 z) xs)) (blank_depth s.opened), c)) (let z : nat_le 0 x ≡ true = grind (arith, nat_tests) in z))
        (ap (λ (zs : List ℕ). touched_from x l.end l.number zs s.opened) e
        ∙ ap (λ b. if b then s.opened else touched_from x l.end l.number xs (raised_at s.opened x l.end l.number)) (let z : nat_le x x ≡ true = grind (arith, nat_tests) in z))
        (λ end line os. ap (λ (zs : List ℕ). touched_from (suc (suc x)) end line (map (λ i. suc (suc i)) zs) os) e
        ∙ ap (λ b. if b then os else touched_from (suc (suc x)) end line (map (λ i. suc (suc i)) xs) (raised_at os (suc (suc x)) end line)) (let z : nat_le (suc (suc x)) (suc (suc x)) ≡ true = grind (arith, nat_tests) in z))
        (inl (let z : x < length s.opened = omega (arith, high, long) in let k : nat_le (length s.opened) x ≡ false = grind (arith, z, nat_tests) in k))
      where
        range : (1 ≤ x) × (x < 1 + length h.inner)
        range = quote_range 1 h.inner x xs (sym (known ∙ ap (quotes_of 0) h.first ∙ outer_quotes mark h.inner) ∙ e)

        low : 1 ≤ x
        low = range.0

        high : x < 1 + length h.inner
        high = range.1

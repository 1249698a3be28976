-- The inlines of a leaf come one after the other.
use Rattle.std.proofs.Common.{◌≡◌, ℕ, suc, ◌+◌, ◌^◌, ◌<◌, ◌≤◌, Bool, true, false, if◌then◌else◌, nat_le, List, [], ◌∷◌, ◌++◌, length, fold, refl, sym, subst, arith}
use Rattle.std.specs.Prelude.{Option, Some, None}
use Rattle.std.specs.List.{AllByRecursion}
use Rattle.tocmark_read_spans.specs.declared.role.Role.{Role}
use Rattle.tocmark_read_spans.specs.declared.role.Role.TheVariants.{Plain, Fresh, Hidden, Open, Close, Single}
use Rattle.tocmark_read_inlines.specs.Write.{State, pushed, flushed_from, flushed, opened, closed, single, texted, shown, next_place, role_step, write_start, written}
use Rattle.tocmark_read_inlines.specs.declared.write.InlineKind.TheVariants as item
use Rattle.tocmark_read_inlines.specs.declared.write.Node.{Node}
use Rattle.tocmark_text_laws.proofs.Alls.{all_both, all_weaker}
use Rattle.tocmark_text_laws.specs.InlineOrder.{IsAfter, AreInOrder, IsInLeaf, AreLaidOut, InlinesAreInOrder, SomeInlines}

-- a node that begins at a place at most, and if it is a text, has a byte and ends there at most
record Before (m : ℕ) (n : Node) : Type 0 where
  begins : n.start ≤ m
  filled : n.item ≡ item.Text → n.start < n.end
  ends : n.item ≡ item.Text → n.end ≤ m

-- the nodes so far, at a place, where the next one begins at another place or after it
record Good (p m : ℕ) (ns : List Node) : Type 0 where
  low : AllByRecursion (Before m) ns
  early : AllByRecursion (λ (n : Node). n.start < p) ns
  ordered : AreInOrder ns

low_more : (m k : ℕ) (ns : List Node) → m ≤ k → AllByRecursion (Before m) ns → AllByRecursion (Before k) ns
low_more m k ns l h = all_weaker (Before m) (Before k) ns (λ n b. record { begins = omega (arith, b.begins); filled = b.filled; ends = λ e. omega (arith, b.ends e) }) h

good_more : (p q m k : ℕ) (ns : List Node) → p ≤ q → m ≤ k → Good p m ns → Good q k ns
good_more p q m k ns l j h = record {
  low = low_more m k ns j h.low;
  early = all_weaker (λ (n : Node). n.start < p) (λ (n : Node). n.start < q) ns (λ n b. omega arith) h.early;
  ordered = h.ordered;
}

one_after : (m : ℕ) (ns : List Node) (node : Node) → m ≤ node.start → AllByRecursion (Before m) ns → AllByRecursion (λ (n : Node). IsAfter n node) ns
one_after m ns node l h = all_weaker (Before m) (λ (n : Node). IsAfter n node) ns (λ n b. record { begins = omega (arith, b.begins); apart = λ e. omega (arith, b.ends e) }) h

order_more : (ns : List Node) (node : Node) → AllByRecursion (λ (n : Node). IsAfter n node) ns → AreInOrder ns → AreInOrder (ns ++ node ∷ [])
order_more [] node a h = (tt, tt)
order_more (n ∷ ns) node a h = (all_both (IsAfter n) ns (node ∷ []) (h.0) (a.0, tt), order_more ns node (a.1) (h.1))

-- one more node
good_put : (p m q k : ℕ) (ns : List Node) (node : Node) → p ≤ q → m ≤ k → m ≤ node.start → node.start < q → Before k node → Good p m ns → Good q k (ns ++ node ∷ [])
good_put p m q k ns node a b c d e h =
    let g : Good q k ns = good_more p q m k ns a b h in
    record {
      low = all_both (Before k) ns (node ∷ []) g.low (e, tt);
      early = all_both (λ (n : Node). n.start < q) ns (node ∷ []) g.early (d, tt);
      ordered = order_more ns node (one_after m ns node c h.low) h.ordered;
    }

-- where the next node begins at least
abbrev limit : Option ℕ → ℕ → ℕ
limit None p = p
limit (Some start) p = start

-- an open text has a byte
abbrev Opens : Option ℕ → ℕ → Type 0
Opens None p = Unit
Opens (Some start) p = start < p

record Stands (p : ℕ) (s : State) : Type 0 where
  here : s.place ≡ p
  good : Good p (limit s.text p) s.nodes
  opens : Opens s.text p

-- no text is open
record Flushed (p : ℕ) (s : State) : Type 0 where
  here : s.place ≡ p
  good : Good p p s.nodes
  none : s.text ≡ None

flushed_good : (p : ℕ) (s : State) → Stands p s → Flushed p (flushed s)
unfolding flushed pushed
flushed_good p s h = by s.text refl h.good h.opens
  where
    by : (o : Option ℕ) → s.text ≡ o → Good p (limit o p) s.nodes → Opens o p → Flushed p (flushed_from o s)
    by None e g w = record { here = h.here; good = g; none = e }
    by (Some start) e g w = record {
      here = h.here;
      good = let q : s.place ≡ p = h.here in good_put p start p p s.nodes (record { depth = s.depth; item = item.Text; start = start; end = s.place }) (omega arith) (omega arith) (omega arith) w (record { begins = omega arith; filled = λ k. omega arith; ends = λ k. omega arith }) g;
      none = refl;
    }

-- a state at the next place
abbrev Next : ℕ → State → Type 0
Next p s = Good (p + 1) (limit s.text (p + 1)) s.nodes × Opens s.text (p + 1)

-- nodes at a place where no text is open after it
quiet : (p : ℕ) (ns : List Node) (o : Option ℕ) → o ≡ None → Good p p ns → Good (p + 1) (limit o (p + 1)) ns × Opens o (p + 1)
quiet p ns o e g = subst (λ x. Good (p + 1) (limit x (p + 1)) ns × Opens x (p + 1)) (sym e) (good_more p (p + 1) p (p + 1) ns (omega arith) (omega arith) g, tt)

-- a mark's node at a place
marked : (p : ℕ) (ns : List Node) (o : Option ℕ) (node : Node) → o ≡ None → node.start ≡ p → (node.item ≡ item.Text → ⊥) → Good p p ns → Good (p + 1) (limit o (p + 1)) (ns ++ node ∷ []) × Opens o (p + 1)
marked p ns o node e q n g = subst (λ x. Good (p + 1) (limit x (p + 1)) (ns ++ node ∷ []) × Opens x (p + 1)) (sym e)
    (good_put p p (p + 1) (p + 1) ns node (omega arith) (omega arith) (omega arith) (omega arith) (record { begins = omega arith; filled = λ k. absurd (n k); ends = λ k. absurd (n k) }) g, tt)

shown_next : (p : ℕ) (r : Role) (s : State) → Stands p s → Next p (shown r s)
unfolding shown opened closed single pushed
shown_next p Plain s h = by s.text refl h.good h.opens
  where
    by : (o : Option ℕ) → s.text ≡ o → Good p (limit o p) s.nodes → Opens o p → Next p (texted s o)
    by None e g w = let q : s.place ≡ p = h.here in (good_more p (p + 1) p s.place s.nodes (omega arith) (omega arith) g, omega arith)
    by (Some start) e g w = subst (λ x. Good (p + 1) (limit x (p + 1)) s.nodes × Opens x (p + 1)) (sym e) (good_more p (p + 1) start start s.nodes (omega arith) (omega arith) g, omega arith)
shown_next p Fresh s h = let f : Flushed p (flushed s) = flushed_good p s h in let q : (flushed s).place ≡ p = f.here in (good_more p (p + 1) p (flushed s).place (flushed s).nodes (omega arith) (omega arith) f.good, omega arith)
shown_next p Hidden s h = let f : Flushed p (flushed s) = flushed_good p s h in quiet p (flushed s).nodes (flushed s).text f.none f.good
shown_next p (Open span end) s h = let f : Flushed p (flushed s) = flushed_good p s h in marked p (flushed s).nodes (flushed s).text (record { depth = (flushed s).depth; item = item.Span span; start = (flushed s).place; end = end }) f.none f.here (λ k. absurd cc) f.good
shown_next p (Close end) s h = let f : Flushed p (flushed s) = flushed_good p s h in quiet p (flushed s).nodes (flushed s).text f.none f.good
shown_next p (Single leaf end) s h = let f : Flushed p (flushed s) = flushed_good p s h in marked p (flushed s).nodes (flushed s).text (record { depth = (flushed s).depth; item = item.Leaf leaf; start = (flushed s).place; end = end }) f.none f.here (λ k. absurd cc) f.good

skipped_next : (p : ℕ) (s : State) → Stands p s → Next p s
skipped_next p s h = by s.text h.good h.opens
  where
    by : (o : Option ℕ) → Good p (limit o p) s.nodes → Opens o p → Good (p + 1) (limit o (p + 1)) s.nodes × Opens o (p + 1)
    by None g w = (good_more p (p + 1) p (p + 1) s.nodes (omega arith) (omega arith) g, tt)
    by (Some start) g w = (good_more p (p + 1) start start s.nodes (omega arith) (omega arith) g, omega arith)

shown_place : (r : Role) (p : ℕ) (s : State) → Stands p s → (shown r s).place ≡ p
unfolding shown opened closed single pushed
shown_place Plain p s h = by s.text
  where
    by : (o : Option ℕ) → (texted s o).place ≡ p
    by None = h.here
    by (Some start) = h.here
shown_place Fresh p s h = (flushed_good p s h).here
shown_place Hidden p s h = (flushed_good p s h).here
shown_place (Open span end) p s h = (flushed_good p s h).here
shown_place (Close end) p s h = (flushed_good p s h).here
shown_place (Single leaf end) p s h = (flushed_good p s h).here

step_stands : (p : ℕ) (r : Role) (s : State) → p + 1 < 2 ^ 64 → Stands p s → Stands (p + 1) (role_step s r)
unfolding role_step
step_stands p r s short h = by (nat_le s.resume s.place)
  where
    next : (u : State) → u.place ≡ p → Next p u → Stands (p + 1) (next_place u)
    next u e (g, w) = record { here = omega arith; good = g; opens = w }

    by : (b : Bool) → Stands (p + 1) (next_place (if b then shown r s else s))
    by true = next (shown r s) (shown_place r p s h) (shown_next p r s h)
    by false = next s h.here (skipped_next p s h)

steps_stand : (p : ℕ) (rs : List Role) (s : State) → p + length rs + 1 < 2 ^ 64 → Stands p s → Stands (p + length rs) (fold role_step s rs)
steps_stand p [] s short h = let q : p ≡ p + 0 = omega arith in subst (λ x. Stands x s) q h
steps_stand p (r ∷ rs) s short h =
    let q : p + 1 + length rs ≡ p + suc (length rs) = omega arith in
    subst (λ x. Stands x (fold role_step (role_step s r) rs)) q (steps_stand (p + 1) rs (role_step s r) (omega arith) (step_stands p r s (omega arith) h))

in_leaf : (p : ℕ) (ns : List Node) → AllByRecursion (Before p) ns → AllByRecursion (λ (n : Node). n.start < p) ns → AllByRecursion (IsInLeaf p) ns
in_leaf p [] h k = tt
in_leaf p (n ∷ ns) h k = (record { begins = k.0; filled = (h.0).filled; within = (h.0).ends }, in_leaf p ns (h.1) (k.1))

pub inlines_ordered : InlinesAreInOrder
unfolding written
inlines_ordered roles depth short =
    let first : Stands 0 (write_start depth) = record { here = refl; good = record { low = tt; early = tt; ordered = tt }; opens = tt } in
    let last : Stands (0 + length roles) (fold role_step (write_start depth) roles) = steps_stand 0 roles (write_start depth) (omega arith) first in
    let f : Flushed (0 + length roles) (flushed (fold role_step (write_start depth) roles)) = flushed_good (0 + length roles) (fold role_step (write_start depth) roles) last in
    let q : 0 + length roles ≡ length roles = omega arith in
    subst (λ n. AreLaidOut n (flushed (fold role_step (write_start depth) roles)).nodes) q (record { inside = in_leaf (0 + length roles) _ f.good.low f.good.early; ordered = f.good.ordered })

pub some_inlines : SomeInlines
unfolding written role_step shown opened closed single flushed pushed
some_inlines = (refl, refl, refl)

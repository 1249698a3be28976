-- The nodes of a leaf begin within it.
use Rattle.std.proofs.Common.{◌≡◌, ℕ, ◌+◌, ◌<◌, ◌≤◌, Bool, true, false, if◌then◌else◌, nat_le, List, [], ◌∷◌, ◌++◌, length, refl, ap, sym, subst, arith}
use Rattle.std.specs.Prelude.{Option, Some, None, ⊤}
use Rattle.std.specs.List.{AllByRecursion, fold}
use Rattle.tocmark_read_scan.specs.Basic.{plus}
use Rattle.tocmark_read_inlines.specs.Write.{State, pushed, flushed_from, flushed, opened, closed, single, texted, shown, role_step, write_start, written}
use Rattle.tocmark_read_inlines.specs.declared.write.InlineKind.TheVariants as item
use Rattle.tocmark_read_inlines.specs.declared.write.Node.{Node}
use Rattle.tocmark_read_spans.specs.declared.role.Role.{Role}
use Rattle.tocmark_read_spans.specs.declared.role.Role.TheVariants as role

-- all nodes begin before a place
abbrev pub NodesBefore : ℕ → List Node → Type 0
NodesBefore m ns = AllByRecursion (λ (n : Node). n.start < m) ns

-- the open text does, if there is one
abbrev OpenBefore : ℕ → Option ℕ → Type 0
OpenBefore m None = ⊤
OpenBefore m (Some start) = start < m

abbrev Before : ℕ → State → Type 0
Before m s = NodesBefore m s.nodes × OpenBefore m s.text

one_more : (m : ℕ) (ns : List Node) (n : Node) → NodesBefore m ns → n.start < m → NodesBefore m (ns ++ n ∷ [])
one_more m [] n h k = (k, tt)
one_more m (x ∷ xs) n h k = (h.0, one_more m xs n (h.1) k)

flushed_before : (m : ℕ) (s : State) → Before m s → Before m (flushed s)
unfolding flushed pushed
flushed_before m s h = by s.text (h.1)
  where
    by : (o : Option ℕ) → OpenBefore m o → Before m (flushed_from o s)
    by None k = h
    by (Some start) k = (one_more m s.nodes (record { depth = s.depth; item = item.Text; start = start; end = s.place }) (h.0) k, tt)

pub flushed_place : (s : State) → (flushed s).place ≡ s.place
unfolding flushed pushed
flushed_place s = by s.text
  where
    by : (o : Option ℕ) → (flushed_from o s).place ≡ s.place
    by None = refl
    by (Some start) = refl

shown_before : (m : ℕ) (r : Role) (s : State) → s.place < m → Before m s → Before m (shown r s)
unfolding shown opened closed single pushed
shown_before m role.Plain s k h = by s.text (h.1)
  where
    by : (o : Option ℕ) → OpenBefore m o → Before m (texted s o)
    by None q = (h.0, k)
    by (Some start) q = h
shown_before m role.Fresh s k h = ((flushed_before m s h).0, subst (λ p. p < m) (sym (flushed_place s)) k)
shown_before m role.Hidden s k h = flushed_before m s h
shown_before m (role.Open span end) s k h = (one_more m (flushed s).nodes (record { depth = (flushed s).depth; item = item.Span span; start = (flushed s).place; end = end }) ((flushed_before m s h).0) (subst (λ p. p < m) (sym (flushed_place s)) k), (flushed_before m s h).1)
shown_before m (role.Close end) s k h = flushed_before m s h
shown_before m (role.Single leaf end) s k h = (one_more m (flushed s).nodes (record { depth = (flushed s).depth; item = item.Leaf leaf; start = (flushed s).place; end = end }) ((flushed_before m s h).0) (subst (λ p. p < m) (sym (flushed_place s)) k), (flushed_before m s h).1)

pub shown_place : (r : Role) (s : State) → (shown r s).place ≡ s.place
unfolding shown opened closed single pushed
shown_place role.Plain s = by s.text
  where
    by : (o : Option ℕ) → (texted s o).place ≡ s.place
    by None = refl
    by (Some start) = refl
shown_place role.Fresh s = flushed_place s
shown_place role.Hidden s = flushed_place s
shown_place (role.Open span end) s = flushed_place s
shown_place (role.Close end) s = flushed_place s
shown_place (role.Single leaf end) s = flushed_place s

step_before : (m : ℕ) (r : Role) (s : State) → s.place < m → Before m s → Before m (role_step s r)
unfolding role_step
step_before m r s k h = by (nat_le s.resume s.place)
  where
    by : (b : Bool) → Before m (if b then shown r s else s)
    by true = shown_before m r s k h
    by false = h

step_place : (r : Role) (s : State) → (role_step s r).place ≡ plus s.place 1
unfolding role_step
step_place r s = ap (λ p. plus p 1) (by (nat_le s.resume s.place))
  where
    by : (b : Bool) → (if b then shown r s else s).place ≡ s.place
    by true = shown_place r s
    by false = refl

steps_before : (m : ℕ) (rs : List Role) (s : State) → s.place + length rs ≤ m → Before m s → Before m (fold role_step s rs)
steps_before m [] s k h = h
steps_before m (r ∷ rs) s k h = steps_before m rs (role_step s r) further (step_before m r s (omega arith) h)
  where
    further : (role_step s r).place + length rs ≤ m
    further = let p : (role_step s r).place ≡ plus s.place 1 = step_place r s in omega arith

-- the nodes of a leaf begin before its end
pub nodes_before : (rs : List Role) (depth : ℕ) → NodesBefore (length rs) (written rs depth)
unfolding written
nodes_before rs depth = (flushed_before (length rs) (fold role_step (write_start depth) rs) (steps_before (length rs) rs (write_start depth) (omega arith) (tt, tt))).0

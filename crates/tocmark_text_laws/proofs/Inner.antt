-- No inline of a leaf ends a container that none of them began.
use Rattle.std.proofs.Common.{◌≡◌, ℕ, zero, suc, ◌+◌, ◌-◌, ◌^◌, ◌<◌, ◌≤◌, Bool, true, false, if◌then◌else◌, nat_le, List, [], ◌∷◌, ◌++◌, length, map, replicate, refl, sym, subst, arith}
use Rattle.std.specs.Prelude.{slice_get, Option, Some, None}
use Rattle.std.specs.List.{AllByRecursion, fold}
use Rattle.std.proofs.lemmas.Bool.Decides.{nat_tests}
use Rattle.tocmark_read_scan.specs.Basic.{plus}
use Rattle.tocmark_read_scan.specs.declared.syntax.TheConstants.{CORE}
use Rattle.tocmark_read_spans.specs.declared.role.Role.{Role}
use Rattle.tocmark_read_spans.specs.declared.role.Role.TheVariants as role
use Rattle.tocmark_read_inlines.specs.Inlines.{scan_start, read_inlines_in}
use Rattle.tocmark_read_inlines.specs.Scan as scan
use Rattle.tocmark_read_inlines.specs.Scan.{scanned_in}
use Rattle.tocmark_read_inlines.specs.Write.{State, pushed, flushed_from, flushed, opened, closed, single, texted, shown, next_place, role_step, write_start, written, moved}
use Rattle.tocmark_read_inlines.specs.declared.write.InlineKind.{InlineKind}
use Rattle.tocmark_read_inlines.specs.declared.write.InlineKind.TheVariants as item
use Rattle.tocmark_read_inlines.specs.declared.write.Node.{Node}
use Rattle.tocmark_text_laws.specs.Inside.{InlinesStayInside}
use Rattle.tocmark_text_laws.proofs.Alls.{all_both}
use Rattle.tocmark_text_laws.proofs.RoleCounts.{copies, roles_count}
use Rattle.tocmark_text_laws.proofs.TextNodes.{shown_place}
use Rattle.tocmark_text_laws.proofs.Walks.{Safe, skips, opens, Ends}
use Rattle.tocmark_text_laws.proofs.Steps.{scanned_safe}

abbrev pub Deep : ℕ → List Node → Type 0
Deep depth ns = AllByRecursion (λ (n : Node). depth ≤ n.depth) ns

-- the pass at a place, with so many containers open
record Stands (depth p k d : ℕ) (s : State) : Type 0 where
  here : s.place ≡ p
  skip : s.resume - p ≡ k
  open_ : s.depth ≡ depth + d
  nodes : Deep depth s.nodes

one_more : (depth : ℕ) (ns : List Node) (n : Node) → depth ≤ n.depth → Deep depth ns → Deep depth (ns ++ n ∷ [])
one_more depth ns n l h = all_both (λ (x : Node). depth ≤ x.depth) ns (n ∷ []) h (l, tt)

-- the open text ends
flushed_stands : (depth p k d : ℕ) (s : State) → Stands depth p k d s → Stands depth p k d (flushed s)
unfolding flushed pushed
flushed_stands depth p k d s h = by s.text
  where
    by : (o : Option ℕ) → Stands depth p k d (flushed_from o s)
    by None = h
    by (Some start) = record { here = h.here; skip = h.skip; open_ = h.open_; nodes = one_more depth s.nodes (record { depth = s.depth; item = item.Text; start = start; end = s.place }) (let q : s.depth ≡ depth + d = h.open_ in omega arith) h.nodes }

pushed_nodes : (depth p k d : ℕ) (i : InlineKind) (start end : ℕ) (s : State) → Stands depth p k d s → Deep depth (pushed i start end s).nodes
unfolding pushed
pushed_nodes depth p k d i start end s h = one_more depth s.nodes (record { depth = s.depth; item = i; start = start; end = end }) (let q : s.depth ≡ depth + d = h.open_ in omega arith) h.nodes

-- a byte that is read
shown_stands : (depth p d : ℕ) (r : Role) (s : State) → depth + d < 2 ^ 64 - 1 → Ends r d → Stands depth p 0 d s → Stands depth (suc p) (skips r (suc p)) (opens r d) (record (shown r s) { place = suc p })
unfolding shown opened closed single pushed
shown_stands depth p d r s few e h = by r e
  where
    u : State
    u = flushed s

    f : Stands depth p 0 d u
    f = flushed_stands depth p 0 d s h

    skip : s.resume - suc p ≡ 0
    skip = let q : s.resume - p ≡ 0 = h.skip in omega arith

    then_skip : u.resume - suc p ≡ 0
    then_skip = let q : u.resume - p ≡ 0 = f.skip in omega arith

    is : u.depth ≡ depth + d
    is = f.open_

    by : (r : Role) → Ends r d → Stands depth (suc p) (skips r (suc p)) (opens r d) (record (shown r s) { place = suc p })
    by role.Plain e = text s.text
      where
        text : (o : Option ℕ) → Stands depth (suc p) 0 d (record (texted s o) { place = suc p })
        text None = record { here = refl; skip = skip; open_ = h.open_; nodes = h.nodes }
        text (Some start) = record { here = refl; skip = skip; open_ = h.open_; nodes = h.nodes }
    by role.Fresh e = record { here = refl; skip = then_skip; open_ = is; nodes = f.nodes }
    by role.Hidden e = record { here = refl; skip = then_skip; open_ = is; nodes = f.nodes }
    by (role.Open span end) e = record { here = refl; skip = then_skip; open_ = omega (arith, is); nodes = one_more depth u.nodes (record { depth = u.depth; item = item.Span span; start = u.place; end = end }) (omega (arith, is)) f.nodes }
    by (role.Close end) e = record { here = refl; skip = refl; open_ = omega (arith, is, e); nodes = f.nodes }
    by (role.Single leaf end) e = record { here = refl; skip = refl; open_ = is; nodes = one_more depth u.nodes (record { depth = u.depth; item = item.Leaf leaf; start = u.place; end = end }) (omega (arith, is)) f.nodes }

-- at most one container begins with a byte
opens_few : (r : Role) (d : ℕ) → opens r d ≤ suc d
opens_few role.Plain d = omega arith
opens_few role.Fresh d = omega arith
opens_few role.Hidden d = omega arith
opens_few (role.Open span end) d = omega arith
opens_few (role.Close end) d = omega arith
opens_few (role.Single leaf end) d = omega arith

run_stands : (depth p k d : ℕ) (rs : List Role) (s : State) → depth + d + length rs < 2 ^ 64 - 1 → p + length rs < 2 ^ 64 - 1 → Safe p k d rs → Stands depth p k d s → Deep depth (flushed (fold role_step s rs)).nodes
unfolding role_step
run_stands depth p k d [] s few short h w = (flushed_stands depth p k d s w).nodes
run_stands depth p zero d (r ∷ rs) s few short (e, h) w = by (nat_le s.resume s.place) refl (λ u v. run_stands depth (suc p) (skips r (suc p)) (opens r d) rs u (let l : opens r d ≤ suc d = opens_few r d in omega arith) (omega arith) h v)
  where
    here : s.place ≡ p
    here = w.here

    skip : s.resume - p ≡ 0
    skip = w.skip

    next : suc p ≡ plus (shown r s).place 1
    next = let q : (shown r s).place ≡ s.place = shown_place r s in omega (arith, here)

    by : (b : Bool) → nat_le s.resume s.place ≡ b → ((u : State) → Stands depth (suc p) (skips r (suc p)) (opens r d) u → Deep depth (flushed (fold role_step u rs)).nodes) → Deep depth (flushed (fold role_step (next_place (if b then shown r s else s)) rs)).nodes
    by true q f = f (next_place (shown r s)) (subst (λ x. Stands depth (suc p) (skips r (suc p)) (opens r d) (record (shown r s) { place = x })) next (shown_stands depth p d r s (omega arith) e w))
    by false q f = let l : s.place < s.resume = grind (arith, nat_tests) in absurd (omega (arith, here, skip))
run_stands depth p (suc k) d (r ∷ rs) s few short h w = by (nat_le s.resume s.place) refl (λ u v. run_stands depth (suc p) k d rs u (omega arith) (omega arith) h v)
  where
    here : s.place ≡ p
    here = w.here

    skip : s.resume - p ≡ suc k
    skip = w.skip

    next : suc p ≡ plus s.place 1
    next = omega (arith, here)

    by : (b : Bool) → nat_le s.resume s.place ≡ b → ((u : State) → Stands depth (suc p) k d u → Deep depth (flushed (fold role_step u rs)).nodes) → Deep depth (flushed (fold role_step (next_place (if b then shown r s else s)) rs)).nodes
    by true q f = let l : s.resume ≤ s.place = grind (arith, nat_tests) in absurd (omega (arith, here, skip))
    by false q f = f (next_place s) (subst (λ x. Stands depth (suc p) k d (record s { place = x })) next (record { here = refl; skip = omega (arith, skip); open_ = w.open_; nodes = w.nodes }))

pub written_deep : (depth : ℕ) (rs : List Role) → depth + length rs < 2 ^ 64 - 1 → Safe 0 0 0 rs → Deep depth (written rs depth)
unfolding written
written_deep depth rs few h = run_stands depth 0 0 0 rs (write_start depth) (omega arith) (omega arith) h (record { here = refl; skip = refl; open_ = omega arith; nodes = tt })

pub moved_deep : (depth : ℕ) (places : List (ℕ × ℕ)) (ns : List Node) → Deep depth ns → Deep depth (map (moved places) ns)
unfolding moved
moved_deep depth places [] h = tt
moved_deep depth places (n ∷ ns) h = (h.0, moved_deep depth places ns (h.1))

pub copies_plain : (n i : ℕ) (r : Role) → slice_get (replicate n role.Plain) i ≡ Some r → role.Plain ≡ r
copies_plain zero i r e = absurd cc
copies_plain (suc n) zero r e = let q : role.Plain ≡ r = cc in q
copies_plain (suc n) (suc i) r e = copies_plain n i r e

pub inlines_inside : InlinesStayInside
unfolding read_inlines_in scan_start
inlines_inside leaf depth definitions s few = moved_deep depth leaf.places (written after depth) (written_deep depth after (subst (λ n. depth + n < 2 ^ 64 - 1) (sym counted) few) safe)
  where
    start : scan.State
    start = scan_start (length leaf.bytes) s.targets s.texts s.missed

    after : List Role
    after = (scanned_in CORE leaf.bytes definitions start).roles

    counted : length after ≡ length leaf.bytes
    counted = roles_count (length leaf.bytes) leaf.bytes definitions start (copies (length leaf.bytes) role.Plain)

    safe : Safe 0 0 0 after
    safe = scanned_safe leaf.bytes definitions start (omega arith) (copies (length leaf.bytes) role.Plain) (λ x r e. copies_plain (length leaf.bytes) x r e) refl refl refl refl

-- The inlines of a leaf nest where the containers in the roles of its bytes do.
use Rattle.std.proofs.Common.{◌≡◌, ℕ, zero, suc, ◌+◌, ◌-◌, ◌^◌, ◌<◌, ◌≤◌, Bool, true, false, if◌then◌else◌, nat_le, List, [], ◌∷◌, ◌++◌, length, drop, refl, sym, subst, arith}
use Rattle.std.specs.Prelude.{slice_get, Option, Some, None}
use Rattle.std.specs.List.{fold}
use Rattle.std.proofs.lemmas.Bool.Decides.{nat_tests}
use Rattle.tocmark_read_scan.specs.Basic.{plus}
use Rattle.tocmark_read_spans.specs.declared.role.Role.{Role}
use Rattle.tocmark_read_spans.specs.declared.role.Role.TheVariants as role
use Rattle.tocmark_read_inlines.specs.Write.{State, pushed, flushed_from, flushed, opened, closed, single, texted, shown, next_place, role_step, write_start, written}
use Rattle.tocmark_read_inlines.specs.declared.write.InlineKind.TheVariants as item
use Rattle.tocmark_read_inlines.specs.declared.write.Node.{Node}
use Rattle.tocmark_text_laws.proofs.Nests.{Nested, Under, Tops, Fits, inner}
use Rattle.tocmark_text_laws.proofs.TextNodes.{shown_place}
use Rattle.tocmark_text_laws.proofs.Walks.{skips}

-- an inline among these that is deeper, up to one that isn't, ends where another one ends, or before, and that one ends within a leaf's text of so many bytes
abbrev pub Inside : ℕ → Node → List Node → Type 0
Inside count n [] = Unit
Inside count n (m ∷ ms) = n.depth < m.depth → (m.end ≤ n.end) × (n.end ≤ count) × Inside count n ms

-- so it is with each inline and those after it
abbrev pub EndInside : ℕ → List Node → Type 0
EndInside count [] = Unit
EndInside count (n ∷ ns) = Inside count n ns × EndInside count ns

abbrev Deeper : Node → List Node → Type 0
Deeper n [] = Unit
Deeper n (m ∷ ms) = (n.depth < m.depth) × Deeper n ms

-- one more inline ends in those that it is in
abbrev Accepts : ℕ → List Node → ℕ → ℕ → Type 0
Accepts count [] depth end = Unit
Accepts count (n ∷ ns) depth end = (Deeper n ns → n.depth < depth → (end ≤ n.end) × (n.end ≤ count)) × Accepts count ns depth end

-- inlines that end in the open containers may be put at the depth of each
abbrev Room : ℕ → ℕ → List ℕ → List Node → Type 0
Room count depth [] ns = (end : ℕ) → Accepts count ns depth end
Room count depth (e ∷ es) ns = ((end : ℕ) → end ≤ e → Accepts count ns depth end) × Room count (depth - 1) es ns

room_here : (count depth : ℕ) (es : List ℕ) (ns : List Node) (end : ℕ) → Under end es → Room count depth es ns → Accepts count ns depth end
room_here count depth [] ns end u h = h end
room_here count depth (e ∷ es) ns end u h = (h.0) end u

deeper_front : (n m : Node) (ms : List Node) → Deeper n (ms ++ m ∷ []) → Deeper n ms × (n.depth < m.depth)
deeper_front n m [] h = (tt, h.0)
deeper_front n m (x ∷ ms) h = let w : Deeper n ms × (n.depth < m.depth) = deeper_front n m ms (h.1) in ((h.0, w.0), w.1)

inside_put : (count : ℕ) (n m : Node) (ms : List Node) → Inside count n ms → (Deeper n ms → n.depth < m.depth → (m.end ≤ n.end) × (n.end ≤ count)) → Inside count n (ms ++ m ∷ [])
inside_put count n m [] h f = λ l. ((f tt l).0, (f tt l).1, tt)
inside_put count n m (x ∷ ms) h f = λ l. ((h l).0, (h l).1, inside_put count n m ms ((h l).2) (λ d k. f (l, d) k))

ends_put : (count : ℕ) (ns : List Node) (m : Node) → EndInside count ns → Accepts count ns m.depth m.end → EndInside count (ns ++ m ∷ [])
ends_put count [] m h a = (tt, tt)
ends_put count (n ∷ ns) m h a = (inside_put count n m ns (h.0) (a.0), ends_put count ns m (h.1) (a.1))

-- after one more inline, one that isn't deeper is accepted as before
accepts_put : (count : ℕ) (ns : List Node) (m : Node) (depth end : ℕ) → depth ≤ m.depth → Accepts count ns depth end → Accepts count (ns ++ m ∷ []) depth end
accepts_put count [] m depth end l a = (λ d k. absurd (omega arith), tt)
accepts_put count (n ∷ ns) m depth end l a = (λ d k. (a.0) ((deeper_front n m ns d).0) k, accepts_put count ns m depth end l (a.1))

room_put : (count depth : ℕ) (es : List ℕ) (ns : List Node) (m : Node) → depth ≤ m.depth → Room count depth es ns → Room count depth es (ns ++ m ∷ [])
room_put count depth [] ns m l h = λ end. accepts_put count ns m depth end l (h end)
room_put count depth (e ∷ es) ns m l h = (λ end k. accepts_put count ns m depth end l ((h.0) end k), room_put count (depth - 1) es ns m (omega arith) (h.1))

-- after one more container, what is in it is accepted
accepts_in : (count : ℕ) (ns : List Node) (m : Node) (end : ℕ) → end ≤ m.end → m.end ≤ count → Accepts count ns m.depth end → Accepts count (ns ++ m ∷ []) (m.depth + 1) end
accepts_in count [] m end l c a = (λ d k. (l, c), tt)
accepts_in count (n ∷ ns) m end l c a = (λ d k. let w : Deeper n ns × (n.depth < m.depth) = deeper_front n m ns d in (a.0) (w.0) (w.1), accepts_in count ns m end l c (a.1))

under_less : (a b : ℕ) (es : List ℕ) → a ≤ b → Under b es → Under a es
under_less a b [] l u = tt
under_less a b (e ∷ es) l u = omega arith

room_in : (count : ℕ) (es : List ℕ) (ns : List Node) (m : Node) → m.end ≤ count → Under m.end es → Room count m.depth es ns → Room count (m.depth + 1) (m.end ∷ es) (ns ++ m ∷ [])
room_in count es ns m c u h = (
  λ end k. accepts_in count ns m end k c (room_here count m.depth es ns end (under_less end m.end es k u) h),
  let q : m.depth ≡ m.depth + 1 - 1 = omega arith in subst (λ d. Room count d es (ns ++ m ∷ [])) q (room_put count m.depth es ns m (omega arith) h),
)

-- all open containers end after a place
abbrev Above : ℕ → List ℕ → Type 0
Above p [] = Unit
Above p (e ∷ es) = (p ≤ e) × Above p es

above_less : (p q : ℕ) (es : List ℕ) → p ≤ q → Above q es → Above p es
above_less p q [] l h = tt
above_less p q (e ∷ es) l h = (omega (arith, h.0), above_less p q es l (h.1))

above_under : (p : ℕ) (es : List ℕ) → Above p es → Under p es
above_under p [] h = tt
above_under p (e ∷ es) h = h.0

nested_above : (p k : ℕ) (es : List ℕ) (xs : List Role) → Nested p k es xs → Above p es
nested_above p k es [] h = subst (Above p) (sym h) tt
nested_above p (suc k) es (x ∷ xs) h = above_less p (suc p) es (omega arith) (nested_above (suc p) k es xs h)
nested_above p zero es (x ∷ xs) (f, h) = by x f (nested_above (suc p) (skips x (suc p)) (inner x es) xs h)
  where
    less : Above (suc p) es → Above p es
    less w = above_less p (suc p) es (omega arith) w

    by : (x : Role) → Fits x (suc p) es → Above (suc p) (inner x es) → Above p es
    by role.Plain f w = less w
    by role.Fresh f w = less w
    by role.Hidden f w = less w
    by (role.Open span end) f w = less (w.1)
    by (role.Close end) f w = tops es f w
      where
        tops : (us : List ℕ) → (suc p ≤ end) × Tops end us → Above (suc p) (drop 1 us) → Above p us
        tops [] g v = tt
        tops (u ∷ us) (g, o) v = (omega arith, above_less p (suc p) us (omega arith) v)
    by (role.Single leaf end) f w = less w

-- a container ends within a leaf's text
abbrev pub Caps : ℕ → Role → Type 0
Caps count role.Plain = Unit
Caps count role.Fresh = Unit
Caps count role.Hidden = Unit
Caps count (role.Open span end) = end ≤ count
Caps count (role.Close end) = Unit
Caps count (role.Single leaf end) = Unit

abbrev pub AllCaps : ℕ → List Role → Type 0
AllCaps count rs = (i : ℕ) (x : Role) → slice_get rs i ≡ Some x → Caps count x

-- the pass at a place, where these containers are open
record Stands (count depth p k : ℕ) (es : List ℕ) (s : State) : Type 0 where
  here : s.place ≡ p
  skip : s.resume - p ≡ k
  deep : s.depth ≡ depth + length es
  nest : EndInside count s.nodes
  room : Room count (depth + length es) es s.nodes

-- the open text ends
flushed_stands : (count depth p k : ℕ) (es : List ℕ) (s : State) → Under p es → Stands count depth p k es s → Stands count depth p k es (flushed s)
unfolding flushed pushed
flushed_stands count depth p k es s u h = by s.text
  where
    by : (o : Option ℕ) → Stands count depth p k es (flushed_from o s)
    by None = h
    by (Some start) =
        let q : s.depth ≡ depth + length es = h.deep in
        let r : s.place ≡ p = h.here in
        let m : Node = record { depth = s.depth; item = item.Text; start = start; end = s.place } in
        record {
          here = r;
          skip = h.skip;
          deep = q;
          nest = ends_put count s.nodes m h.nest (subst (λ d. Accepts count s.nodes d s.place) (sym q) (room_here count (depth + length es) es s.nodes s.place (subst (λ x. Under x es) (sym r) u) h.room));
          room = room_put count (depth + length es) es s.nodes m (omega arith) h.room;
        }

put_nest : (count depth : ℕ) (es : List ℕ) (ns : List Node) (m : Node) → m.depth ≡ depth + length es → Under m.end es → EndInside count ns → Room count (depth + length es) es ns → EndInside count (ns ++ m ∷ [])
put_nest count depth es ns m q u n r = ends_put count ns m n (subst (λ d. Accepts count ns d m.end) (sym q) (room_here count (depth + length es) es ns m.end u r))

shown_stands : (count depth p : ℕ) (es : List ℕ) (r : Role) (s : State) → depth + length es < 2 ^ 64 - 1 → Caps count r → Under p es → Fits r (suc p) es → Stands count depth p 0 es s → Stands count depth (suc p) (skips r (suc p)) (inner r es) (record (shown r s) { place = suc p })
unfolding shown opened closed single pushed
shown_stands count depth p es r s few caps above e h = by r e caps
  where
    u : State
    u = flushed s

    f : Stands count depth p 0 es u
    f = flushed_stands count depth p 0 es s above h

    skip : s.resume - suc p ≡ 0
    skip = let q : s.resume - p ≡ 0 = h.skip in omega arith

    then_skip : u.resume - suc p ≡ 0
    then_skip = let q : u.resume - p ≡ 0 = f.skip in omega arith

    is : u.depth ≡ depth + length es
    is = f.deep

    ends : (end : ℕ) (us : List ℕ) → Tops end us → u.depth ≡ depth + length us → Room count (depth + length us) us u.nodes → (u.depth - 1 ≡ depth + length (drop 1 us)) × Room count (depth + length (drop 1 us)) (drop 1 us) u.nodes
    ends end [] t q m = absurd t
    ends end (x ∷ us) t q m = let w : depth + suc (length us) - 1 ≡ depth + length us = omega arith in (omega (arith, q), subst (λ d. Room count d us u.nodes) w (m.1))

    by : (r : Role) → Fits r (suc p) es → Caps count r → Stands count depth (suc p) (skips r (suc p)) (inner r es) (record (shown r s) { place = suc p })
    by role.Plain e c = text s.text
      where
        text : (o : Option ℕ) → Stands count depth (suc p) 0 es (record (texted s o) { place = suc p })
        text None = record { here = refl; skip = skip; deep = h.deep; nest = h.nest; room = h.room }
        text (Some start) = record { here = refl; skip = skip; deep = h.deep; nest = h.nest; room = h.room }
    by role.Fresh e c = record { here = refl; skip = then_skip; deep = is; nest = f.nest; room = f.room }
    by role.Hidden e c = record { here = refl; skip = then_skip; deep = is; nest = f.nest; room = f.room }
    by (role.Open span end) e c =
        let m : Node = record { depth = u.depth; item = item.Span span; start = u.place; end = end } in
        let q : u.depth + 1 ≡ depth + suc (length es) = omega (arith, is) in
        record {
          here = refl;
          skip = then_skip;
          deep = omega (arith, is);
          nest = put_nest count depth es u.nodes m is e f.nest f.room;
          room = subst (λ d. Room count d (end ∷ es) (u.nodes ++ m ∷ [])) q (room_in count es u.nodes m c e (subst (λ d. Room count d es u.nodes) (sym is) f.room));
        }
    by (role.Close end) e c = let w : (u.depth - 1 ≡ depth + length (drop 1 es)) × Room count (depth + length (drop 1 es)) (drop 1 es) u.nodes = ends end es (e.1) is f.room in record { here = refl; skip = refl; deep = w.0; nest = f.nest; room = w.1 }
    by (role.Single leaf end) e c =
        let m : Node = record { depth = u.depth; item = item.Leaf leaf; start = u.place; end = end } in
        record { here = refl; skip = refl; deep = is; nest = put_nest count depth es u.nodes m is e f.nest f.room; room = room_put count (depth + length es) es u.nodes m (omega (arith, is)) f.room }

-- at most one container begins with a byte
inner_few : (r : Role) (es : List ℕ) → length (inner r es) ≤ suc (length es)
inner_few role.Plain es = omega arith
inner_few role.Fresh es = omega arith
inner_few role.Hidden es = omega arith
inner_few (role.Open span end) es = omega arith
inner_few (role.Close end) [] = omega arith
inner_few (role.Close end) (e ∷ es) = omega arith
inner_few (role.Single leaf end) es = omega arith

run_stands : (count depth p k : ℕ) (es : List ℕ) (rs : List Role) (s : State) → depth + length es + length rs < 2 ^ 64 - 1 → p + length rs < 2 ^ 64 - 1 → AllCaps count rs → Nested p k es rs → Stands count depth p k es s → EndInside count (flushed (fold role_step s rs)).nodes
unfolding role_step
run_stands count depth p k es [] s few short caps h w = (flushed_stands count depth p k es s (above_under p es (nested_above p k es [] h)) w).nest
run_stands count depth p zero es (r ∷ rs) s few short caps (e, h) w = by (nat_le s.resume s.place) refl (λ u v. run_stands count depth (suc p) (skips r (suc p)) (inner r es) rs u (let l : length (inner r es) ≤ suc (length es) = inner_few r es in omega arith) (omega arith) (λ i x g. caps (suc i) x g) h v)
  where
    here : s.place ≡ p
    here = w.here

    skip : s.resume - p ≡ 0
    skip = w.skip

    above : Under p es
    above = above_under p es (nested_above p 0 es (r ∷ rs) (e, h))

    next : suc p ≡ plus (shown r s).place 1
    next = let q : (shown r s).place ≡ s.place = shown_place r s in omega (arith, here)

    by : (b : Bool) → nat_le s.resume s.place ≡ b → ((u : State) → Stands count depth (suc p) (skips r (suc p)) (inner r es) u → EndInside count (flushed (fold role_step u rs)).nodes) → EndInside count (flushed (fold role_step (next_place (if b then shown r s else s)) rs)).nodes
    by true q f = f (next_place (shown r s)) (subst (λ x. Stands count depth (suc p) (skips r (suc p)) (inner r es) (record (shown r s) { place = x })) next (shown_stands count depth p es r s (omega arith) (caps 0 r refl) above e w))
    by false q f = let l : s.place < s.resume = grind (arith, nat_tests) in absurd (omega (arith, here, skip))
run_stands count depth p (suc k) es (r ∷ rs) s few short caps h w = by (nat_le s.resume s.place) refl (λ u v. run_stands count depth (suc p) k es rs u (omega arith) (omega arith) (λ i x g. caps (suc i) x g) h v)
  where
    here : s.place ≡ p
    here = w.here

    skip : s.resume - p ≡ suc k
    skip = w.skip

    next : suc p ≡ plus s.place 1
    next = omega (arith, here)

    by : (b : Bool) → nat_le s.resume s.place ≡ b → ((u : State) → Stands count depth (suc p) k es u → EndInside count (flushed (fold role_step u rs)).nodes) → EndInside count (flushed (fold role_step (next_place (if b then shown r s else s)) rs)).nodes
    by true q f = let l : s.resume ≤ s.place = grind (arith, nat_tests) in absurd (omega (arith, here, skip))
    by false q f = f (next_place s) (subst (λ x. Stands count depth (suc p) k es (record s { place = x })) next (record { here = refl; skip = omega (arith, skip); deep = w.deep; nest = w.nest; room = w.room }))

-- the inlines of a leaf end in those that they are in
pub written_inside : (count depth : ℕ) (rs : List Role) → depth + length rs < 2 ^ 64 - 1 → AllCaps count rs → Nested 0 0 [] rs → EndInside count (written rs depth)
unfolding written
written_inside count depth rs few caps h = run_stands count depth 0 0 [] rs (write_start depth) (omega arith) (omega arith) caps h (record { here = refl; skip = refl; deep = omega arith; nest = tt; room = λ end. tt })

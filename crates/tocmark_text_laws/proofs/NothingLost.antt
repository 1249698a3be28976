-- Each byte of a leaf's text is marked, in the range of a mark, or in a text.
use Rattle.std.proofs.Common.{◌≡◌, ℕ, suc, ◌+◌, ◌-◌, ◌^◌, ◌<◌, ◌≤◌, Bool, true, false, if◌then◌else◌, nat_lt, nat_le, List, [], ◌∷◌, ◌++◌, length, fold, refl, ap, sym, ◌∙◌, subst, arith}
use Rattle.std.specs.Prelude.{slice_get, Option, Some, None}
use Rattle.std.proofs.lemmas.Bool.Decides.{nat_tests}
use Rattle.tocmark_read_scan.specs.Basic.{plus}
use Rattle.tocmark_read_spans.specs.declared.role.Role.{Role}
use Rattle.tocmark_read_spans.specs.declared.role.Role.TheVariants.{Plain, Fresh, Hidden, Open, Close, Single}
use Rattle.tocmark_read_inlines.specs.Write.{State, pushed, flushed_from, flushed, opened, closed, single, texted, gone_on, shown, next_place, role_step, write_start, written}
use Rattle.tocmark_read_inlines.specs.declared.write.InlineKind.TheVariants as item
use Rattle.tocmark_read_inlines.specs.declared.write.Node.{Node}
use Rattle.tocmark_text_laws.specs.Said.{is_marked, end_of_mark, IsInMark, IsSaid, Marks, InMark, InText, NoByteIsLost}
use Rattle.tocmark_text_laws.proofs.Alls.{got_front, got_end}

-- a byte so far: the open text may have it, too
data Known (roles : List Role) (nodes : List Node) (text : Option ℕ) (place : ℕ) : Type 0 where
  said : IsSaid roles nodes place → Known roles nodes text place
  held : (start : ℕ) → text ≡ Some start → start ≤ place → Known roles nodes text place

-- the pass at a place: all bytes before it are known, and those up to where roles are read again are a mark's
record Stands (roles : List Role) (place : ℕ) (s : State) : Type 0 where
  here : s.place ≡ place
  known : (p : ℕ) → p < place → Known roles s.nodes s.text p
  text : (start : ℕ) → s.text ≡ Some start → start ≤ place
  skips : (p : ℕ) → place ≤ p → p < s.resume → IsInMark roles p

-- more nodes, and no text that is open
said_more : (roles : List Role) (nodes : List Node) (node : Node) (p : ℕ) → IsSaid roles nodes p → IsSaid roles (nodes ++ node ∷ []) p
said_more roles nodes node p (Marks m) = Marks m
said_more roles nodes node p (InMark m) = InMark m
said_more roles nodes node p (InText t) = InText (record { index = t.index; node = t.node; found = got_front nodes (node ∷ []) t.index t.node t.found; text = t.text; after = t.after; before = t.before })

-- all bytes before a place are said
abbrev Said : List Role → ℕ → State → Type 0
Said roles place s = (s.place ≡ place) × (s.text ≡ None) × ((p : ℕ) → p < place → IsSaid roles s.nodes p) × ((p : ℕ) → place ≤ p → p < s.resume → IsInMark roles p)

flushed_said : (roles : List Role) (place : ℕ) (s : State) → Stands roles place s → Said roles place (flushed s)
unfolding flushed pushed
flushed_said roles place s h = by s.text refl
  where
    none : (p : ℕ) → s.text ≡ None → Known roles s.nodes s.text p → IsSaid roles s.nodes p
    none p e (said k) = k
    none p e (held start q l) = absurd cc

    node : ℕ → Node
    node start = record { depth = s.depth; item = item.Text; start = start; end = s.place }

    some : (p start : ℕ) → s.text ≡ Some start → p < place → Known roles s.nodes s.text p → IsSaid roles (s.nodes ++ node start ∷ []) p
    some p start e l (said k) = said_more roles s.nodes (node start) p k
    some p start e l (held x q m) =
        let w : x ≡ start = cc in
        let n : s.place ≡ place = h.here in
        InText (record { index = length s.nodes; node = node start; found = got_end s.nodes [] (node start); text = refl; after = omega arith; before = omega arith })

    by : (o : Option ℕ) → s.text ≡ o → Said roles place (flushed_from o s)
    by None e = (h.here, e, λ p l. none p e (h.known p l), h.skips)
    by (Some start) e = (h.here, refl, λ p l. some p start e l (h.known p l), h.skips)

-- a byte that is one of a text
goes_stands : (roles : List Role) (place : ℕ) (s : State) → Stands roles place s → Stands roles (place + 1) (record (gone_on s) { place = place + 1 })
goes_stands roles place s h = by s.text refl
  where
    earlier : (p start : ℕ) → Known roles s.nodes s.text p → s.text ≡ Some start → Known roles s.nodes (Some start) p
    earlier p start (said k) e = said k
    earlier p start (held x q l) e = let w : x ≡ start = cc in held start refl (omega arith)

    first : (p : ℕ) → Known roles s.nodes s.text p → s.text ≡ None → Known roles s.nodes (Some place) p
    first p (said k) e = said k
    first p (held x q l) e = absurd cc

    known : (text : Option ℕ) → ((p : ℕ) → p < place → Known roles s.nodes text p) → Known roles s.nodes text place → (p : ℕ) → p < place + 1 → Known roles s.nodes text p
    known text f k p l = split (nat_lt p place) refl
      where
        split : (x : Bool) → nat_lt p place ≡ x → Known roles s.nodes text p
        split true e = let w : p < place = grind (arith, nat_tests) in f p w
        split false e = let q : place ≤ p = grind (arith, nat_tests) in let w : place ≡ p = omega arith in subst (λ n. Known roles s.nodes text n) w k

    by : (o : Option ℕ) → s.text ≡ o → Stands roles (place + 1) (record (texted s o) { place = place + 1 })
    by None e = record {
      here = refl;
      known = known (Some s.place) (λ p l. let n : place ≡ s.place = sym h.here in subst (λ m. Known roles s.nodes (Some m) p) n (first p (h.known p l) e)) (held s.place refl (let n : s.place ≡ place = h.here in omega arith));
      text = λ start q. let n : s.place ≡ place = h.here in let w : s.place ≡ start = cc in omega arith;
      skips = λ p l m. h.skips p (omega arith) m;
    }
    by (Some start) e = record {
      here = refl;
      known = known s.text (λ p l. h.known p l) (held start e (h.text start e));
      text = λ x q. let w : x ≤ place = h.text x q in omega arith;
      skips = λ p l m. h.skips p (omega arith) m;
    }

-- a byte after which a text or a mark begins anew
after_stands : (roles : List Role) (place : ℕ) (nodes : List Node) (depth resume : ℕ) (text : Option ℕ)
    → ((p : ℕ) → p < place → IsSaid roles nodes p) → Known roles nodes text place → ((start : ℕ) → text ≡ Some start → start ≤ place + 1) → ((p : ℕ) → place + 1 ≤ p → p < resume → IsInMark roles p)
    → Stands roles (place + 1) (record { nodes = nodes; depth = depth; text = text; place = place + 1; resume = resume })
after_stands roles place nodes depth resume text f k t m = record {
  here = refl;
  known = λ p l. split p l (nat_lt p place) refl;
  text = t;
  skips = m;
}
  where
    split : (p : ℕ) → p < place + 1 → (x : Bool) → nat_lt p place ≡ x → Known roles nodes text p
    split p l true e = let w : p < place = grind (arith, nat_tests) in said (f p w)
    split p l false e = let q : place ≤ p = grind (arith, nat_tests) in let w : place ≡ p = omega arith in subst (λ n. Known roles nodes text n) w k

-- all bytes, one after the other
shown_stands : (roles : List Role) (place : ℕ) (s : State) (r : Role) → slice_get roles place ≡ Some r → Stands roles place s → Stands roles (place + 1) (record (shown r s) { place = place + 1 })
unfolding shown opened closed single pushed
shown_stands roles place s r e h = by r e
  where
    u : State
    u = flushed s

    f : Said roles place u
    f = flushed_said roles place s h

    is : (r : Role) → slice_get roles place ≡ Some r → is_marked r ≡ true → (nodes : List Node) → Known roles nodes None place
    is r e m nodes = said (Marks (record { role = r; found = e; marked = m }))

    none : (start : ℕ) → None ≡ Some start → start ≤ place + 1
    none start q = absurd cc

    more : (node : Node) (p : ℕ) → p < place → IsSaid roles (u.nodes ++ node ∷ []) p
    more node p l = said_more roles u.nodes node p ((f.2) p l)

    skips : (r : Role) → slice_get roles place ≡ Some r → (p : ℕ) → place + 1 ≤ p → p < end_of_mark r → IsInMark roles p
    skips r e p l m = record { first = place; role = r; found = e; before = omega arith; within = m }

    by : (r : Role) → slice_get roles place ≡ Some r → Stands roles (place + 1) (record (shown r s) { place = place + 1 })
    by Plain e = goes_stands roles place s h
    by Fresh e = let n : u.place ≡ place = f.0 in after_stands roles place u.nodes u.depth u.resume (Some u.place) (f.2) (held u.place refl (omega arith)) (λ start q. let w : u.place ≡ start = cc in omega arith) (λ p l m. (f.3) p (omega arith) m)
    by Hidden e = subst (λ t. Stands roles (place + 1) (record { nodes = u.nodes; depth = u.depth; text = t; place = place + 1; resume = u.resume })) (sym (f.1)) (after_stands roles place u.nodes u.depth u.resume None (f.2) (is Hidden e refl u.nodes) none (λ p l m. (f.3) p (omega arith) m))
    by (Open span end) e =
        let node : Node = record { depth = u.depth; item = item.Span span; start = u.place; end = end } in
        subst (λ t. Stands roles (place + 1) (record { nodes = u.nodes ++ node ∷ []; depth = plus u.depth 1; text = t; place = place + 1; resume = u.resume })) (sym (f.1)) (after_stands roles place (u.nodes ++ node ∷ []) (plus u.depth 1) u.resume None (more node) (is (Open span end) e refl (u.nodes ++ node ∷ [])) none (λ p l m. (f.3) p (omega arith) m))
    by (Close end) e = subst (λ t. Stands roles (place + 1) (record { nodes = u.nodes; depth = u.depth - 1; text = t; place = place + 1; resume = end })) (sym (f.1)) (after_stands roles place u.nodes (u.depth - 1) end None (f.2) (is (Close end) e refl u.nodes) none (skips (Close end) e))
    by (Single leaf end) e =
        let node : Node = record { depth = u.depth; item = item.Leaf leaf; start = u.place; end = end } in
        subst (λ t. Stands roles (place + 1) (record { nodes = u.nodes ++ node ∷ []; depth = u.depth; text = t; place = place + 1; resume = end })) (sym (f.1)) (after_stands roles place (u.nodes ++ node ∷ []) u.depth end None (more node) (is (Single leaf end) e refl (u.nodes ++ node ∷ [])) none (skips (Single leaf end) e))

skipped_stands : (roles : List Role) (place : ℕ) (s : State) → place < s.resume → Stands roles place s → Stands roles (place + 1) (record s { place = place + 1 })
skipped_stands roles place s l h = record {
  here = refl;
  known = λ p m. split p m (nat_lt p place) refl;
  text = λ start q. let w : start ≤ place = h.text start q in omega arith;
  skips = λ p m k. h.skips p (omega arith) k;
}
  where
    split : (p : ℕ) → p < place + 1 → (x : Bool) → nat_lt p place ≡ x → Known roles s.nodes s.text p
    split p m true e = let w : p < place = grind (arith, nat_tests) in h.known p w
    split p m false e = let q : place ≤ p = grind (arith, nat_tests) in let w : place ≡ p = omega arith in subst (λ n. Known roles s.nodes s.text n) w (said (InMark (h.skips place (omega arith) l)))

flushed_place : (s : State) → (flushed s).place ≡ s.place
unfolding flushed pushed
flushed_place s = by s.text
  where
    by : (o : Option ℕ) → (flushed_from o s).place ≡ s.place
    by None = refl
    by (Some start) = refl

texted_place : (s : State) → (gone_on s).place ≡ s.place
texted_place s = by s.text
  where
    by : (o : Option ℕ) → (texted s o).place ≡ s.place
    by None = refl
    by (Some start) = refl

shown_place : (r : Role) (s : State) → (shown r s).place ≡ s.place
unfolding shown opened closed single pushed
shown_place Plain s = texted_place s
shown_place Fresh s = flushed_place s
shown_place Hidden s = flushed_place s
shown_place (Open span end) s = flushed_place s
shown_place (Close end) s = flushed_place s
shown_place (Single leaf end) s = flushed_place s

step_stands : (roles : List Role) (place : ℕ) (s : State) (r : Role) → place + 1 < 2 ^ 64 → slice_get roles place ≡ Some r → Stands roles place s → Stands roles (place + 1) (role_step s r)
unfolding role_step
step_stands roles place s r short e h = by (nat_le s.resume s.place) refl
  where
    here : s.place ≡ place
    here = h.here

    at : (t : State) → t.place ≡ place → Stands roles (place + 1) (record t { place = place + 1 }) → Stands roles (place + 1) (next_place t)
    at t q w = let n : place + 1 ≡ plus t.place 1 = omega arith in subst (λ m. Stands roles (place + 1) (record t { place = m })) n w

    by : (x : Bool) → nat_le s.resume s.place ≡ x → Stands roles (place + 1) (next_place (if x then shown r s else s))
    by true k = at (shown r s) (shown_place r s ∙ here) (shown_stands roles place s r e h)
    by false k = let l : place < s.resume = grind (arith, nat_tests) in at s here (skipped_stands roles place s l h)

-- the bytes that are left, which are those of the whole from a place on
run_stands : (roles : List Role) (place : ℕ) (rs : List Role) (s : State) → place + length rs < 2 ^ 64 → ((j : ℕ) → slice_get rs j ≡ slice_get roles (place + j)) → Stands roles place s → Stands roles (place + length rs) (fold role_step s rs)
run_stands roles place [] s short f h = let n : place ≡ place + 0 = omega arith in subst (λ m. Stands roles m s) n h
run_stands roles place (r ∷ rs) s short f h =
    let n : place + 1 + length rs ≡ place + suc (length rs) = omega arith in
    subst (λ m. Stands roles m (fold role_step (role_step s r) rs)) n
    (run_stands roles (place + 1) rs (role_step s r) (omega arith) (λ j. later j) (step_stands roles place s r (omega arith) now h))
  where
    now : slice_get roles place ≡ Some r
    now = let q : place ≡ place + 0 = omega arith in ap (slice_get roles) q ∙ sym (f 0)

    later : (j : ℕ) → slice_get rs j ≡ slice_get roles (place + 1 + j)
    later j = let q : place + suc j ≡ place + 1 + j = omega arith in f (suc j) ∙ ap (slice_get roles) q

pub nothing_lost : NoByteIsLost
unfolding written
nothing_lost roles depth place short l = ((flushed_said roles (0 + length roles) last all).2) place (omega arith)
  where
    last : State
    last = fold role_step (write_start depth) roles

    all : Stands roles (0 + length roles) last
    all = run_stands roles 0 roles (write_start depth) (omega arith) (λ j. let q : j ≡ 0 + j = omega arith in ap (slice_get roles) q) (record {
      here = refl;
      known = λ p k. absurd (omega arith);
      text = λ start q. absurd cc;
      skips = λ p k m. absurd (omega arith);
    })

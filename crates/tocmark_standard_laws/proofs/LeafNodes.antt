-- The nodes of a leaf's inlines: texts lie between bytes of ASCII and have no line feed, so each node shows what it says.
use Rattle.std.proofs.Common.{◌≡◌, ℕ, suc, ◌+◌, ◌-◌, ◌^◌, ◌<◌, ◌≤◌, ◌⊎◌, inl, inr, Bool, true, false, ◌==◌, if◌then◌else◌, nat_lt, nat_le, List, [], ◌∷◌, ◌++◌, length, map, flat_map, fold, refl, ap, sym, ◌∙◌, subst, arith, append-nil, true≢false}
use Rattle.std.specs.Prelude.{max, slice_get, encode_utf8, Option, Some, None}
use Rattle.std.specs.List.{AllByRecursion}
use Rattle.std.specs.Str.{IsUtf8}
use Rattle.std.specs.Str.Lossy.{utf8_lossy}
use Rattle.std.proofs.lemmas.Bool.Decides.{nat_tests}
use Rattle.std.proofs.lemmas.Str.{utf8_lossy-IsUtf8, length-encode, len_utf8_bounds}
use Rattle.tocmark_event.specs.View.{Start}
use Rattle.tocmark_read_scan.specs.Basic.{plus, byte_at, bytes_between}
use Rattle.tocmark_read_scan.specs.Content as content
use Rattle.tocmark_read_scan.proofs.PlainTests.{eq_of}
use Rattle.tocmark_read_inlines.specs.Write.{State, pushed, flushed_from, flushed, opened, closed, single, texted, shown, next_place, role_step, write_start, written, moved}
use Rattle.tocmark_read_inlines.specs.declared.write.InlineKind.{InlineKind}
use Rattle.tocmark_read_inlines.specs.declared.write.InlineKind.TheVariants as item
use Rattle.tocmark_read_inlines.specs.declared.write.Node.{Node}
use Rattle.tocmark_read_spans.specs.declared.role.Leaf.{Leaf as LeafRole}
use Rattle.tocmark_read_spans.specs.declared.role.Leaf.TheVariants as leaf
use Rattle.tocmark_read_spans.specs.declared.role.Role.{Role}
use Rattle.tocmark_read_spans.specs.declared.role.Role.TheVariants.{Plain, Fresh, Hidden, Open, Close, Single}
use Rattle.tocmark_read_spans.specs.declared.role.Span.{Span}
use Rattle.tocmark_read_spans.specs.declared.role.Span.TheVariants as span
use Rattle.tocmark_read_spans.specs.declared.role.Target.{Target}
use Rattle.tocmark_reader.specs.Emitted.{NodeView, source_text}
use Rattle.tocmark_reader.specs.Inlines.{target_at, link_of, image_of, span_tag, leaf_of, inline_item, inline_node}
use Rattle.tocmark_reader.specs.Range.{snapped}
use Rattle.tocmark_text_laws.specs.Said.{is_marked}
use Rattle.tocmark_text_laws.proofs.Alls.{all_both}
use Rattle.tocmark_inline_laws.specs.Said.{Piece, letters, words, tag_said, leaf_said, kind_said, node_said}
use Rattle.tocmark_inline_laws.proofs.Places.{past_end}
use Rattle.tocmark_inline_laws.proofs.Stretches.{cut_length}
use Rattle.tocmark_standard_laws.specs.Lettered.{tag_as_text}
use Rattle.tocmark_standard_laws.specs.Ended.{item_shows, node_shows, nodes_show, IsSome}
use Rattle.tocmark_standard_laws.proofs.Ended.{piece_as_text}
use Rattle.tocmark_standard_laws.proofs.FeedMarks.{end_of, IsIn, Feeds}
use Rattle.tocmark_standard_laws.proofs.LeafPlaces.{Edge, start_in, end_in, Feedless, AreShown}
use Rattle.tocmark_standard_laws.proofs.LineBlocks.{Shows, letters_as_text}
use Rattle.tocmark_standard_laws.proofs.MarkedBytes.{IsLow, IsMade, MarkAt, Marks}

-- the nodes that are written

abbrev IsGoodKind : List ℕ → List ℕ → ℕ → ℕ → InlineKind → Type 0
IsGoodKind t texts start end item.Text = (start < end) × (end ≤ length t) × Edge t start × Edge t end × Feedless t start end
IsGoodKind t texts start end (item.Span s) = Unit {0}
IsGoodKind t texts start end (item.Leaf l) = IsMade texts l

-- a text lies between places beside bytes of ASCII and has no line feed, and what a mark says as a text is made of characters
abbrev pub IsGood : List ℕ → List ℕ → Node → Type 0
IsGood t texts n = IsGoodKind t texts n.start n.end n.item

-- where the open text began, or where the next one begins
abbrev Front : List ℕ → ℕ → ℕ → Option ℕ → Type 0
Front t place resume None = Edge t (max place resume)
Front t place resume (Some a) = Edge t a × (a < place) × (resume ≤ place) × Feedless t a place

record Writes (t texts : List ℕ) (s : State) : Type 0 where
  nodes : AllByRecursion (IsGood t texts) s.nodes
  front : Front t s.place s.resume s.text
  within : s.place ≤ length t

record Shut (t texts : List ℕ) (s u : State) : Type 0 where
  nodes : AllByRecursion (IsGood t texts) u.nodes
  text : u.text ≡ None
  place : u.place ≡ s.place
  resume : u.resume ≡ s.resume

-- the open text ends
flush_shut : (t texts : List ℕ) (s : State) → Writes t texts s → Edge t s.place → Shut t texts s (flushed s)
unfolding flushed pushed
flush_shut t texts s h e = by s.text refl h.front
  where
    by : (o : Option ℕ) → s.text ≡ o → Front t s.place s.resume o → Shut t texts s (flushed_from o s)
    by None z f = record { nodes = h.nodes; text = z; place = refl; resume = refl }
    by (Some a) z f = record { nodes = all_both (IsGood t texts) s.nodes (record { depth = s.depth; item = item.Text; start = a; end = s.place } ∷ []) h.nodes ((f.1, h.within, f.0, e, f.3), tt); text = refl; place = refl; resume = refl }

after_edge : (t : List ℕ) (p : ℕ) → IsLow t p → Edge t (suc p)
after_edge t p low = inr (inl (subst (IsLow t) (let q : p ≡ suc p - 1 = omega arith in q) low))

-- a mark before a place whose range ends where roles are read again
record IsHeld (R : List Role) (place resume : ℕ) : Type 0 where
  at : ℕ
  role : Role
  got : slice_get R at ≡ Some role
  before : at < place
  is : end_of role ≡ resume

-- the marks before a place are passed
record Passing (R : List Role) (place resume : ℕ) : Type 0 where
  passed : (k : ℕ) (r : Role) → slice_get R k ≡ Some r → k < place → end_of r ≤ max place resume
  held : place < resume → IsHeld R place resume

same_role : (R : List Role) (k : ℕ) (r x : Role) → slice_get R k ≡ Some r → slice_get R k ≡ Some x → r ≡ x
same_role R k r x g h = let q : Some r ≡ Some x = sym g ∙ h in cc

-- one more role, which is read
read_on : (R : List Role) (p resume next : ℕ) (r : Role) → slice_get R p ≡ Some r → resume ≤ p → end_of r ≤ max (suc p) next → (suc p < next → end_of r ≡ next) → Passing R p resume → Passing R (suc p) next
read_on R p resume next r got l m ends h = record { passed = λ k x g b. at k x g b (k == p) refl; held = λ b. record { at = p; role = r; got = got; before = omega arith; is = ends b } }
  where
    at : (k : ℕ) (x : Role) → slice_get R k ≡ Some x → k < suc p → (z : Bool) → (k == p) ≡ z → end_of x ≤ max (suc p) next
    at k x g b true e = subst (λ y. end_of y ≤ max (suc p) next) (same_role R p r x got (ap (slice_get R) (sym (eq_of k p e)) ∙ g)) m
    at k x g b false e = let d : k < p = grind (arith, nat_tests, e, b) in let q : end_of x ≤ max p resume = h.passed k x g d in omega (arith, q, l)

-- or is passed by
skip_on : (t : List ℕ) (stop : ℕ) (R : List Role) (p resume : ℕ) (r : Role) → slice_get R p ≡ Some r → p < resume → Feeds t stop R → Passing R p resume → Passing R (suc p) resume
skip_on t stop R p resume r got l f h = record { passed = λ k x g b. at k x g b (k == p) refl; held = λ b. record { at = c.at; role = c.role; got = c.got; before = (let d : c.at < p = c.before in omega (arith, d)); is = c.is } }
  where
    c : IsHeld R p resume
    c = h.held l

    inside : IsIn R p
    inside = record { at = c.at; role = c.role; got = c.got; before = c.before; within = (let e : end_of c.role ≡ resume = c.is in omega (arith, e, l)) }

    narrow : (z : Bool) → nat_lt (suc p) (end_of r) ≡ z → end_of r ≤ suc p
    narrow true e = absurd ((f.wide p r got (grind (arith, nat_tests, e))).free inside)
    narrow false e = grind (arith, nat_tests, e)

    at : (k : ℕ) (x : Role) → slice_get R k ≡ Some x → k < suc p → (z : Bool) → (k == p) ≡ z → end_of x ≤ max (suc p) resume
    at k x g b true e = let n : end_of r ≤ suc p = narrow (nat_lt (suc p) (end_of r)) refl in subst (λ y. end_of y ≤ max (suc p) resume) (same_role R p r x got (ap (slice_get R) (sym (eq_of k p e)) ∙ g)) (omega (arith, n))
    at k x g b false e = let d : k < p = grind (arith, nat_tests, e, b) in let q : end_of x ≤ max p resume = h.passed k x g d in omega (arith, q, l)

-- a byte of a text is no line feed
text_calm : (t : List ℕ) (stop : ℕ) (R : List Role) (p resume : ℕ) (r : Role) → slice_get R p ≡ Some r → is_marked r ≡ false → p < stop → resume ≤ p → Feeds t stop R → Passing R p resume → (byte_at t p == 10) ≡ false
text_calm t stop R p resume r got plain w l f h = by (byte_at t p == 10) refl
  where
    either : (is_marked r ≡ true) ⊎ IsIn R p → ⊥
    either (inl k) = true≢false (sym k ∙ plain)
    either (inr c) = let b : c.at < p = c.before in let i : p < end_of c.role = c.within in let q : end_of c.role ≤ max p resume = h.passed c.at c.role c.got b in omega (arith, i, q, l)

    by : (z : Bool) → (byte_at t p == 10) ≡ z → z ≡ false
    by true e = absurd (either (f.feeds p r w (eq_of (byte_at t p) 10 e) got))
    by false e = refl

feedless_one : (t : List ℕ) (p q : ℕ) → q ≡ suc p → (byte_at t p == 10) ≡ false → Feedless t p q
feedless_one t p q e h k l m = ap (λ j. byte_at t j == 10) (let z : k ≡ p = omega (arith, e, l, m) in z) ∙ h

feedless_more : (t : List ℕ) (a p q : ℕ) → q ≡ suc p → Feedless t a p → (byte_at t p == 10) ≡ false → Feedless t a q
feedless_more t a p q e f h k l m = by (k == p) refl
  where
    by : (z : Bool) → (k == p) ≡ z → (byte_at t k == 10) ≡ false
    by true g = ap (λ j. byte_at t j == 10) (eq_of k p g) ∙ h
    by false g = f k l (let d : k < suc p = omega (arith, e, m) in grind (arith, nat_tests, g, d))

-- what is known of the roles and of one of them
record IsAt (t texts : List ℕ) (R : List Role) (s : State) (r : Role) : Type 0 where
  short : length t + 1 < 2 ^ 64
  within : s.place < length t
  mark : MarkAt t texts s.place r
  got : slice_get R s.place ≡ Some r
  stop : ℕ
  past : length t ≤ stop
  feeds : Feeds t stop R

-- one role that is read
record Next (t texts : List ℕ) (R : List Role) (s u : State) : Type 0 where
  place : u.place ≡ suc s.place
  writes : Writes t texts u
  passing : Passing R (suc s.place) u.resume

shown_next : (t texts : List ℕ) (R : List Role) (s : State) (r : Role) → IsAt t texts R s r → s.resume ≤ s.place → Passing R s.place s.resume → Writes t texts s → Next t texts R s (next_place (shown r s))
unfolding shown opened closed single pushed
shown_next t texts R s Plain a l c h = by s.text refl h.front
  where
    w : s.place < length t
    w = a.within

    short : length t + 1 < 2 ^ 64
    short = a.short

    next : plus s.place 1 ≡ suc s.place
    next = omega (arith, w, short)

    calm : (byte_at t s.place == 10) ≡ false
    calm = text_calm t a.stop R s.place s.resume Plain a.got refl (let q : length t ≤ a.stop = a.past in omega (arith, q, w)) l a.feeds c

    passing : Passing R (suc s.place) s.resume
    passing = read_on R s.place s.resume s.resume Plain a.got l (omega arith) (λ m. absurd (omega (arith, m, l))) c

    by : (o : Option ℕ) → s.text ≡ o → Front t s.place s.resume o → Next t texts R s (next_place (texted s o))
    by None z f = record {
      place = next;
      writes = record { nodes = h.nodes; front = (subst (Edge t) (let q : max s.place s.resume ≡ s.place = omega (arith, l) in q) f, omega (arith, next), omega (arith, next, l), feedless_one t s.place (plus s.place 1) next calm); within = omega (arith, next, w) };
      passing = passing;
    }
    by (Some b) z f = record {
      place = next;
      writes = record { nodes = h.nodes; front = subst (Front t (plus s.place 1) s.resume) (sym z) (f.0, (let q : b < s.place = f.1 in omega (arith, q, next)), omega (arith, next, l), feedless_more t b s.place (plus s.place 1) next (f.3) calm); within = omega (arith, next, w) };
      passing = passing;
    }
shown_next t texts R s Fresh a l c h = record {
  place = next;
  writes = record { nodes = k.nodes; front = (inr (inr (subst (IsLow t) (sym at) a.mark)), omega (arith, at, next), omega (arith, next, at, same, l), subst (λ q. Feedless t q (plus (flushed s).place 1)) (sym at) (feedless_one t s.place (plus (flushed s).place 1) next calm)); within = omega (arith, next, w) };
  passing = read_on R s.place s.resume (flushed s).resume Fresh a.got l (omega arith) (λ m. absurd (omega (arith, m, l, same))) c;
}
  where
    w : s.place < length t
    w = a.within

    short : length t + 1 < 2 ^ 64
    short = a.short

    k : Shut t texts s (flushed s)
    k = flush_shut t texts s h (inr (inr a.mark))

    at : (flushed s).place ≡ s.place
    at = k.place

    same : (flushed s).resume ≡ s.resume
    same = k.resume

    next : plus (flushed s).place 1 ≡ suc s.place
    next = omega (arith, at, w, short)

    calm : (byte_at t s.place == 10) ≡ false
    calm = text_calm t a.stop R s.place s.resume Fresh a.got refl (let q : length t ≤ a.stop = a.past in omega (arith, q, w)) l a.feeds c
shown_next t texts R s Hidden a l c h = record {
  place = next;
  writes = record { nodes = k.nodes; front = subst (Front t (plus (flushed s).place 1) (flushed s).resume) (sym k.text) (subst (Edge t) (let q : suc s.place ≡ max (plus (flushed s).place 1) (flushed s).resume = omega (arith, next, same, l) in q) (after_edge t s.place a.mark)); within = omega (arith, next, w) };
  passing = read_on R s.place s.resume (flushed s).resume Hidden a.got l (omega arith) (λ m. absurd (omega (arith, m, l, same))) c;
}
  where
    w : s.place < length t
    w = a.within

    short : length t + 1 < 2 ^ 64
    short = a.short

    k : Shut t texts s (flushed s)
    k = flush_shut t texts s h (inr (inr a.mark))

    at : (flushed s).place ≡ s.place
    at = k.place

    same : (flushed s).resume ≡ s.resume
    same = k.resume

    next : plus (flushed s).place 1 ≡ suc s.place
    next = omega (arith, at, w, short)
shown_next t texts R s (Open tag end) a l c h = record {
  place = next;
  writes = record { nodes = all_both (IsGood t texts) (flushed s).nodes (record { depth = (flushed s).depth; item = item.Span tag; start = (flushed s).place; end = end } ∷ []) k.nodes (tt, tt); front = subst (Front t (plus (flushed s).place 1) (flushed s).resume) (sym k.text) (subst (Edge t) (let q : suc s.place ≡ max (plus (flushed s).place 1) (flushed s).resume = omega (arith, next, same, l) in q) (after_edge t s.place a.mark)); within = omega (arith, next, w) };
  passing = read_on R s.place s.resume (flushed s).resume (Open tag end) a.got l (omega arith) (λ m. absurd (omega (arith, m, l, same))) c;
}
  where
    w : s.place < length t
    w = a.within

    short : length t + 1 < 2 ^ 64
    short = a.short

    k : Shut t texts s (flushed s)
    k = flush_shut t texts s h (inr (inr a.mark))

    at : (flushed s).place ≡ s.place
    at = k.place

    same : (flushed s).resume ≡ s.resume
    same = k.resume

    next : plus (flushed s).place 1 ≡ suc s.place
    next = omega (arith, at, w, short)
shown_next t texts R s (Close end) a l c h = record {
  place = next;
  writes = record { nodes = k.nodes; front = subst (Front t (plus (flushed s).place 1) end) (sym k.text) (edge (nat_le end (suc s.place)) refl); within = omega (arith, next, w) };
  passing = read_on R s.place s.resume end (Close end) a.got l (omega arith) (λ m. refl) c;
}
  where
    w : s.place < length t
    w = a.within

    short : length t + 1 < 2 ^ 64
    short = a.short

    k : Shut t texts s (flushed s)
    k = flush_shut t texts s h (inr (inr (a.mark.0)))

    at : (flushed s).place ≡ s.place
    at = k.place

    same : (flushed s).resume ≡ s.resume
    same = k.resume

    next : plus (flushed s).place 1 ≡ suc s.place
    next = omega (arith, at, w, short)

    edge : (z : Bool) → nat_le end (suc s.place) ≡ z → Edge t (max (plus (flushed s).place 1) end)
    edge true e = let m : end ≤ suc s.place = grind (arith, nat_tests, e) in subst (Edge t) (let q : suc s.place ≡ max (plus (flushed s).place 1) end = omega (arith, next, m) in q) (after_edge t s.place (a.mark.0))
    edge false e = let m : suc s.place < end = grind (arith, nat_tests, e) in subst (Edge t) (let q : end ≡ max (plus (flushed s).place 1) end = omega (arith, next, m) in q) (inr (inl (a.mark.1)))
shown_next t texts R s (Single x end) a l c h = record {
  place = next;
  writes = record { nodes = all_both (IsGood t texts) (flushed s).nodes (record { depth = (flushed s).depth; item = item.Leaf x; start = (flushed s).place; end = end } ∷ []) k.nodes (a.mark.2, tt); front = subst (Front t (plus (flushed s).place 1) end) (sym k.text) (edge (nat_le end (suc s.place)) refl); within = omega (arith, next, w) };
  passing = read_on R s.place s.resume end (Single x end) a.got l (omega arith) (λ m. refl) c;
}
  where
    w : s.place < length t
    w = a.within

    short : length t + 1 < 2 ^ 64
    short = a.short

    k : Shut t texts s (flushed s)
    k = flush_shut t texts s h (inr (inr (a.mark.0)))

    at : (flushed s).place ≡ s.place
    at = k.place

    same : (flushed s).resume ≡ s.resume
    same = k.resume

    next : plus (flushed s).place 1 ≡ suc s.place
    next = omega (arith, at, w, short)

    edge : (z : Bool) → nat_le end (suc s.place) ≡ z → Edge t (max (plus (flushed s).place 1) end)
    edge true e = let m : end ≤ suc s.place = grind (arith, nat_tests, e) in subst (Edge t) (let q : suc s.place ≡ max (plus (flushed s).place 1) end = omega (arith, next, m) in q) (after_edge t s.place (a.mark.0))
    edge false e = let m : suc s.place < end = grind (arith, nat_tests, e) in subst (Edge t) (let q : end ≡ max (plus (flushed s).place 1) end = omega (arith, next, m) in q) (inr (inl (a.mark.1)))

-- one role further
step_next : (t texts : List ℕ) (R : List Role) (s : State) (r : Role) → IsAt t texts R s r → Passing R s.place s.resume → Writes t texts s → Next t texts R s (role_step s r)
unfolding role_step
step_next t texts R s r a c h = by (nat_le s.resume s.place) refl
  where
    w : s.place < length t
    w = a.within

    short : length t + 1 < 2 ^ 64
    short = a.short

    next : plus s.place 1 ≡ suc s.place
    next = omega (arith, w, short)

    by : (z : Bool) → nat_le s.resume s.place ≡ z → Next t texts R s (next_place (if z then shown r s else s))
    by true e = shown_next t texts R s r a (grind (arith, nat_tests, e)) c h
    by false e = record { place = next; writes = record { nodes = h.nodes; front = on s.text h.front; within = omega (arith, next, w) }; passing = skip_on t a.stop R s.place s.resume r a.got later a.feeds c }
      where
        later : s.place < s.resume
        later = grind (arith, nat_tests, e)

        on : (o : Option ℕ) → Front t s.place s.resume o → Front t (plus s.place 1) s.resume o
        on None f = subst (Edge t) (let q : max s.place s.resume ≡ max (plus s.place 1) s.resume = omega (arith, later, next) in q) f
        on (Some b) f = absurd (let l : s.resume ≤ s.place = f.2 in omega (arith, l, later))

record Written (t texts : List ℕ) (s : State) : Type 0 where
  writes : Writes t texts s
  all : s.place ≡ length t

steps_write : (t texts : List ℕ) (R rs : List Role) (stop : ℕ) (s : State) → length t + 1 < 2 ^ 64 → s.place + length rs ≡ length t → length t ≤ stop → Feeds t stop R → ((j : ℕ) → slice_get R (s.place + j) ≡ slice_get rs j) → Marks t texts s.place rs → Passing R s.place s.resume → Writes t texts s
    → Written t texts (fold role_step s rs)
steps_write t texts R [] stop s short l past f here m c h = record { writes = h; all = omega (arith, l) }
steps_write t texts R (r ∷ rs) stop s short l past f here m c h =
    steps_write t texts R rs stop (role_step s r) short (omega (arith, l, p)) past f (λ j. ap (slice_get R) (let q : (role_step s r).place + j ≡ s.place + suc j = omega (arith, p) in q) ∙ here (suc j)) (subst (λ q. Marks t texts q rs) (sym p) (m.1)) (subst (λ q. Passing R q (role_step s r).resume) (sym p) n.passing) n.writes
  where
    n : Next t texts R s (role_step s r)
    n = step_next t texts R s r (record { short = short; within = omega (arith, l); mark = m.0; got = ap (slice_get R) (let q : s.place ≡ s.place + 0 = omega arith in q) ∙ here 0; stop = stop; past = past; feeds = f }) c h

    p : (role_step s r).place ≡ suc s.place
    p = n.place

-- all nodes of a content's roles are so
pub all_good : (t texts : List ℕ) (rs : List Role) (depth stop : ℕ) → length rs ≡ length t → length t + 1 < 2 ^ 64 → Marks t texts 0 rs → length t ≤ stop → Feeds t stop rs → AllByRecursion (IsGood t texts) (written rs depth)
unfolding written
all_good t texts rs depth stop l short m past f = (flush_shut t texts last w.writes (inr (inr (let e : byte_at t last.place ≡ 10 = past_end t last.place (let a : last.place ≡ length t = w.all in omega (arith, a)) in omega (arith, e))))).nodes
  where
    last : State
    last = fold role_step (write_start depth) rs

    w : Written t texts last
    w = steps_write t texts rs rs stop (write_start depth) short (omega (arith, l)) past f (λ j. ap (slice_get rs) (let q : 0 + j ≡ j = omega arith in q)) m (record { passed = λ k r g b. absurd (omega (arith, b)); held = λ b. absurd (omega (arith, b)) }) (record { nodes = tt; front = inl refl; within = omega arith })

-- what a node shows

some_letters : (d : ℕ) (xs : List ℕ) → 0 < length xs → IsSome (letters d xs)
some_letters d [] l = absurd (omega arith)
some_letters d (x ∷ xs) l = tt

tag_same : (texts : List ℕ) (targets : List Target) (s : Span) → span_tag texts targets s ≡ tag_as_text (tag_said texts targets s)
unfolding span_tag link_of image_of target_at
tag_same texts targets span.Emphasis = refl
tag_same texts targets span.Strong = refl
tag_same texts targets span.Strikethrough = refl
tag_same texts targets (span.Link number) = refl
tag_same texts targets (span.Image number) = refl
tag_same texts targets span.Subscript = refl
tag_same texts targets span.Superscript = refl

-- a node shows what it says, and this is something
abbrev IsShown : List Piece → List Piece → Type 0
IsShown shown said = (shown ≡ map piece_as_text said) × IsSome shown

one_character : (c : ℕ) → 0 < length (encode_utf8 c)
one_character c = let a : length (encode_utf8 c) ≡ _ = length-encode c in let b = (len_utf8_bounds c).0 in omega (arith, a, b)

leaf_shown : (text texts : List ℕ) (d : ℕ) (range : ℕ × ℕ) (targets : List Target) (l : LeafRole) → IsMade texts l → IsShown (item_shows text d range (inline_item texts targets (item.Leaf l))) (leaf_said texts d l)
unfolding inline_item leaf_of
leaf_shown text texts d range targets (leaf.Character c) h = (sym (letters_as_text d (encode_utf8 c)), some_letters d (encode_utf8 c) (one_character c))
leaf_shown text texts d range targets (leaf.Code s) h = (refl, tt)
leaf_shown text texts d range targets (leaf.Html s) h = (refl, tt)
leaf_shown text texts d range targets leaf.SoftBreak h = (refl, tt)
leaf_shown text texts d range targets leaf.HardBreak h = (refl, tt)
leaf_shown text texts d range targets (leaf.Text s) h = (ap (letters d) same ∙ sym (letters_as_text d (words texts s)), subst (λ bs. IsSome (letters d bs)) (sym same) (some_letters d (words texts s) (made.1)))
  where
    made : IsUtf8 (words texts s) × (0 < length (words texts s))
    made = subst (λ ts. IsUtf8 (words ts s) × (0 < length (words ts s))) (append-nil texts) (h [])

    same : utf8_lossy (words texts s) ≡ words texts s
    same = utf8_lossy-IsUtf8 (words texts s) (made.0)
leaf_shown text texts d range targets (leaf.Footnote s) h = absurd h
leaf_shown text texts d range targets (leaf.InlineMath s) h = absurd h
leaf_shown text texts d range targets (leaf.DisplayMath s) h = absurd h

kind_shown : (text : List ℕ) (c : content.State) (texts : List ℕ) (targets : List Target) (d start end : ℕ) (i : InlineKind) → AreShown text c.bytes c.places → IsGoodKind c.bytes texts start end i
    → IsShown (item_shows text d (snapped text (start_in c.places start) (end_in c.places end)) (inline_item texts targets i)) (kind_said c.bytes texts targets d start end i)
unfolding inline_item
kind_shown text c texts targets d start end item.Text ranges good = (ap (letters d) same ∙ sym (letters_as_text d (bytes_between c.bytes start end)), subst (λ bs. IsSome (letters d bs)) (sym same) (some_letters d (bytes_between c.bytes start end) (omega (arith, long, good.0))))
  where
    order : start < end
    order = good.0

    within : end ≤ length c.bytes
    within = good.1

    long : length (bytes_between c.bytes start end) ≡ end - start
    long = cut_length c.bytes start end (omega (arith, order)) within

    same : source_text text (snapped text (start_in c.places start) (end_in c.places end)) ≡ bytes_between c.bytes start end
    same = ranges start end order within (good.2) (good.3) (good.4)
kind_shown text c texts targets d start end (item.Span s) ranges good = (ap (λ t. (d, Start t) ∷ []) (tag_same texts targets s), tt)
kind_shown text c texts targets d start end (item.Leaf l) ranges good = leaf_shown text texts d (snapped text (start_in c.places start) (end_in c.places end)) targets l good

-- the node of the events
abbrev pub final : content.State → List ℕ → List Target → Node → NodeView
final c texts targets n = inline_node texts targets (moved c.places n)

node_shown : (text : List ℕ) (c : content.State) (texts : List ℕ) (targets : List Target) (n : Node) → AreShown text c.bytes c.places → IsGood c.bytes texts n → IsShown (node_shows text (final c texts targets n)) (node_said c.bytes texts targets n)
unfolding inline_node moved
node_shown text c texts targets n ranges good = kind_shown text c texts targets n.depth n.start n.end n.item ranges good

map_both : (xs ys : List Piece) → map piece_as_text xs ++ map piece_as_text ys ≡ map piece_as_text (xs ++ ys)
map_both [] ys = refl
map_both (x ∷ xs) ys = ap (λ ps. piece_as_text x ∷ ps) (map_both xs ys)

-- all nodes show what they say
pub nodes_shown : (text : List ℕ) (c : content.State) (texts : List ℕ) (targets : List Target) (ns : List Node) → AreShown text c.bytes c.places → AllByRecursion (IsGood c.bytes texts) ns
    → Shows text (map (inline_node texts targets) (map (moved c.places) ns)) (map piece_as_text (flat_map (node_said c.bytes texts targets) ns))
nodes_shown text c texts targets [] ranges good = (refl, tt)
nodes_shown text c texts targets (n ∷ ns) ranges good =
    let one : IsShown (node_shows text (final c texts targets n)) (node_said c.bytes texts targets n) = node_shown text c texts targets n ranges (good.0) in
    let rest : Shows text (map (inline_node texts targets) (map (moved c.places) ns)) (map piece_as_text (flat_map (node_said c.bytes texts targets) ns)) = nodes_shown text c texts targets ns ranges (good.1) in (
      ap (λ ps. ps ++ nodes_show text (map (inline_node texts targets) (map (moved c.places) ns))) (one.0)
          ∙ ap (λ ps. map piece_as_text (node_said c.bytes texts targets n) ++ ps) (rest.0)
          ∙ map_both (node_said c.bytes texts targets n) (flat_map (node_said c.bytes texts targets) ns),
      (one.1, rest.1),
    )

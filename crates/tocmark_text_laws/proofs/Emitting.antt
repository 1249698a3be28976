-- The events of nodes that are where they may be.
use Rattle.std.proofs.Common.{◌≡◌, ℕ, zero, suc, ◌+◌, false, List, [], ◌∷◌, ◌++◌, length, map, take, drop, reverse, refl, ap, sym, ◌∙◌, subst, arith, append_assoc, length-append, length-take}
use Rattle.std.specs.Prelude.{min}
use Rattle.std.specs.List.{fold}
use Rattle.std.proofs.lemmas.List.{take-append-drop, reverse-append, map-append}
use Rattle.tocmark_event.specs.View.{EventView, TagView, Start}
use Rattle.tocmark_reader.specs.Emitted.{ItemView, Container, Source, Given, NodeView, Writing, end_event, closings, closed, put, step, emitted}
use Rattle.tocmark_reader.specs.declared.emit.Open.{Open}
use Rattle.tocmark_text_laws.specs.Proper.{is_refused_in, NoneIsMisplaced}

-- the containers that are open after a node, the outermost first
abbrev pub after : List TagView → ItemView → List TagView
after ts (Container tag) = ts ++ tag ∷ []
after ts Source = ts
after ts (Given leaf) = ts

abbrev pub Allowed : List TagView → ItemView → Type 0
Allowed ts (Container tag) = is_refused_in tag (reverse ts) ≡ false
Allowed ts Source = Unit
Allowed ts (Given leaf) = Unit

-- the containers that are open after nodes, and that none of these is where it is refused
abbrev pub final : List TagView → List NodeView → List TagView
final ts [] = ts
final ts (n ∷ ns) = final (after (take n.depth ts) n.item) ns

abbrev pub Placed : List TagView → List NodeView → Type 0
Placed ts [] = Unit
Placed ts (n ∷ ns) = Allowed (take n.depth ts) n.item × Placed (after (take n.depth ts) n.item) ns

pub placed_both : (ts : List TagView) (ms ns : List NodeView) → Placed ts ms → Placed (final ts ms) ns → Placed ts (ms ++ ns)
placed_both ts [] ns h k = k
placed_both ts (m ∷ ms) ns h k = (h.0, placed_both (after (take m.depth ts) m.item) ms ns (h.1) k)

pub final_both : (ts : List TagView) (ms ns : List NodeView) → final ts (ms ++ ns) ≡ final (final ts ms) ns
final_both ts [] ns = refl
final_both ts (m ∷ ms) ns = final_both (after (take m.depth ts) m.item) ms ns

abbrev events_of : Writing → List EventView
events_of w = map (λ e. e.0) w.events

-- what is written so far, whatever follows it where these containers are open
record Ready (w : Writing) (ts : List TagView) : Type 0 where
  same : length w.stack ≡ length ts
  proper : (rest : List EventView) → NoneIsMisplaced (reverse ts) rest → NoneIsMisplaced [] (events_of w ++ rest)

-- the Ends of open containers
pops : (os : List Open) (ts rest : List TagView) (es : List EventView) → length os ≡ length ts → NoneIsMisplaced rest es → NoneIsMisplaced (ts ++ rest) (map (λ e. e.0) (map end_event os) ++ es)
pops [] [] rest es l h = h
pops [] (t ∷ ts) rest es l h = absurd (omega arith)
pops (o ∷ os) [] rest es l h = absurd (omega arith)
pops (o ∷ os) (t ∷ ts) rest es l h = pops os ts rest es (omega arith) h

both_events : (w : Writing) (es : List (EventView × (ℕ × ℕ))) (rest : List EventView) → map (λ (e : EventView × (ℕ × ℕ)). e.0) (w.events ++ es) ++ rest ≡ events_of w ++ (map (λ (e : EventView × (ℕ × ℕ)). e.0) es ++ rest)
both_events w es rest = ap (λ xs. xs ++ rest) (map-append (λ (e : EventView × (ℕ × ℕ)). e.0) w.events es) ∙ append_assoc (events_of w) (map (λ (e : EventView × (ℕ × ℕ)). e.0) es) rest

reverse_length : {A : Type 0} (xs : List A) → length (reverse xs) ≡ length xs
reverse_length [] = refl
reverse_length (x ∷ xs) = ap length (reverse-append (x ∷ []) xs) ∙ length-append (reverse xs) (x ∷ []) ∙ (let q : length (reverse xs) ≡ length xs = reverse_length xs in omega arith)

drop_same : {A B : Type 0} (n : ℕ) (xs : List A) (ys : List B) → length xs ≡ length ys → length (drop n xs) ≡ length (drop n ys)
drop_same zero xs ys l = l
drop_same (suc n) [] [] l = refl
drop_same (suc n) [] (y ∷ ys) l = absurd (omega arith)
drop_same (suc n) (x ∷ xs) [] l = absurd (omega arith)
drop_same (suc n) (x ∷ xs) (y ∷ ys) l = drop_same n xs ys (omega arith)

take_same : {A B : Type 0} (n : ℕ) (xs : List A) (ys : List B) → length xs ≡ length ys → length (take n xs) ≡ length (take n ys)
take_same n xs ys l = length-take n xs ∙ ap (min n) l ∙ sym (length-take n ys)

closed_ready : (depth : ℕ) (w : Writing) (ts : List TagView) → Ready w ts → Ready (closed depth w) (take depth ts)
closed_ready depth w ts h = record { same = take_same depth w.stack ts h.same; proper = proper }
  where
    split : reverse ts ≡ reverse (drop depth ts) ++ reverse (take depth ts)
    split = ap reverse (sym (take-append-drop depth ts)) ∙ reverse-append (take depth ts) (drop depth ts)

    many : length (reverse (drop depth w.stack)) ≡ length (reverse (drop depth ts))
    many = reverse_length (drop depth w.stack) ∙ drop_same depth w.stack ts h.same ∙ sym (reverse_length (drop depth ts))

    proper : (rest : List EventView) → NoneIsMisplaced (reverse (take depth ts)) rest → NoneIsMisplaced [] (events_of (closed depth w) ++ rest)
    proper rest k = subst (NoneIsMisplaced []) (sym (both_events w (closings depth w.stack) rest)) (h.proper (map (λ e. e.0) (closings depth w.stack) ++ rest)
        (subst (λ xs. NoneIsMisplaced xs (map (λ e. e.0) (closings depth w.stack) ++ rest)) (sym split) (pops (reverse (drop depth w.stack)) (reverse (drop depth ts)) (reverse (take depth ts)) rest many k)))

put_ready : (text : List ℕ) (i : ItemView) (range : ℕ × ℕ) (w : Writing) (ts : List TagView) → Allowed ts i → Ready w ts → Ready (put text i range w) (after ts i)
put_ready text (Container tag) range w ts a h = record {
  same = length-append w.stack _ ∙ (let q : length w.stack ≡ length ts = h.same in ap (λ n. n + 1) q) ∙ sym (length-append ts (tag ∷ []));
  proper = λ rest k. subst (NoneIsMisplaced []) (sym (both_events w ((Start tag, range) ∷ []) rest)) (h.proper (Start tag ∷ rest) (a, subst (λ xs. NoneIsMisplaced xs rest) (reverse-append ts (tag ∷ [])) k));
}
put_ready text Source range w ts a h = record { same = h.same; proper = λ rest k. subst (NoneIsMisplaced []) (sym (both_events w _ rest)) (h.proper _ k) }
put_ready text (Given leaf) range w ts a h = record { same = h.same; proper = λ rest k. subst (NoneIsMisplaced []) (sym (both_events w _ rest)) (h.proper _ k) }

nodes_ready : (text : List ℕ) (ns : List NodeView) (w : Writing) (ts : List TagView) → Placed ts ns → Ready w ts → Ready (fold (step text) w ns) (final ts ns)
nodes_ready text [] w ts p h = h
nodes_ready text (n ∷ ns) w ts p h = nodes_ready text ns (step text w n) (after (take n.depth ts) n.item) (p.1) (put_ready text n.item _ (closed n.depth w) (take n.depth ts) (p.0) (closed_ready n.depth w ts h))

pub events_proper : (text : List ℕ) (ns : List NodeView) → Placed [] ns → NoneIsMisplaced [] (map (λ e. e.0) (emitted text ns))
events_proper text ns p = subst (NoneIsMisplaced []) (none (events_of (closed 0 last))) ((closed_ready 0 last (final [] ns) (nodes_ready text ns nothing [] p (record { same = refl; proper = λ rest k. k }))).proper [] tt)
  where
    nothing : Writing
    nothing = record { events = []; stack = [] }

    last : Writing
    last = fold (step text) nothing ns

    none : (xs : List EventView) → xs ++ [] ≡ xs
    none [] = refl
    none (x ∷ xs) = ap (λ ys. x ∷ ys) (none xs)

-- Whatever the nodes are, their events are balanced and have good ranges; so those of a reading are and have.
use Rattle.std.proofs.Common.{◌≡◌, ℕ, zero, suc, Bool, false, cond, ◌&&◌, List, [], ◌∷◌, ◌++◌, take, drop, map, reverse, true, refl, ap, sym, subst, ◌∙◌, arith}
use Rattle.std.specs.List.{fold, AllByRecursion}
use Rattle.std.proofs.lemmas.List.{take-append-drop, reverse-append, map-append}
use mathlib.Core.List.{reverse_aux}
use Rattle.std.specs.Prelude.{nat_le}
use Rattle.std.proofs.lemmas.Bool.{leb-true}
use Rattle.std.proofs.lemmas.Bool.Decides.{nat_tests}
use Rattle.std.specs.Str.{IsUtf8, IsCharBoundary}
use Rattle.std.proofs.lemmas.Str.{IsCharBoundary-start}
use Rattle.tocmark_event.specs.Text.{ParserEvent, text_of}
use Rattle.tocmark_event.specs.View.{EventView, Start, End, Leaf, TagView, LeafView, event_view, end_of}
use Rattle.tocmark_event.specs.Reading.{ReadingView, reading_view}
use Rattle.tocmark_event.specs.declared.reader.Reading.{Reading}
use Rattle.tocmark_event.specs.Forest.{Forest, empty, leaf, node, flat_onto, flat, IsBalanced}
use Rattle.tocmark_event.specs.declared.event.TagEnd.{TagEnd}
use Rattle.tocmark_reader.specs.Emitted.{ItemView, Container, Source, Given, NodeView, shown, end_event, closings, step, put, closed, emitted, Writing}
use Rattle.tocmark_read_scan.specs.declared.syntax.Syntax.{Syntax}
use Rattle.tocmark_reader.specs.Reading.{reading_of, found_under}
use Rattle.tocmark_reader.specs.Range.{is_cut, snapped, IsGoodRange, HasGoodRanges}
use Rattle.tocmark_reader.specs.declared.emit.Open.{Open}

abbrev Marked : Type 0
Marked = EventView × (ℕ × ℕ)

-- what one event does to the open containers' Ends, the innermost first
abbrev Passes : EventView → List TagEnd → List TagEnd → Type 0
Passes (Start tag) old new = new ≡ end_of tag ∷ old
Passes (End end) old new = old ≡ end ∷ new
Passes (Leaf l) old new = old ≡ new

-- the events lead from these open containers to those
abbrev pub Leads : List TagEnd → List Marked → List TagEnd → Type 0
Leads old [] new = old ≡ new
Leads old (e ∷ es) new = (mid : List TagEnd) × Passes (e.0) old mid × Leads mid es new

-- the Ends of open containers, the innermost first
abbrev pub ends : List Open → List TagEnd
ends stack = map (λ o. o.end) (reverse stack)

leads_append : (a b c : List TagEnd) (xs ys : List Marked) → Leads a xs b → Leads b ys c → Leads a (xs ++ ys) c
leads_append a b c [] ys h k = subst (λ s. Leads s ys c) (sym h) k
leads_append a b c (x ∷ xs) ys h k = (h.0, h.1, leads_append (h.0) b c xs ys (h.2) k)

-- the Ends of some containers lead to what was open round them
leads_ends : (xs : List Open) (s : List TagEnd) → Leads (map (λ o. o.end) xs ++ s) (map end_event xs) s
leads_ends [] s = refl
leads_ends (x ∷ xs) s = (map (λ o. o.end) xs ++ s, refl, leads_ends xs s)

ends_split : (depth : ℕ) (stack : List Open) → ends stack ≡ map (λ o. o.end) (reverse (drop depth stack)) ++ ends (take depth stack)
ends_split depth stack =
    ap ends (sym (take-append-drop depth stack)) ∙ ap (λ (l : List Open). map (λ o. o.end) l) (reverse-append (take depth stack) (drop depth stack)) ∙ map-append (λ (o : Open). o.end) (reverse (drop depth stack)) (reverse (take depth stack))

pub leads_closed : (depth : ℕ) (w : Writing) → Leads [] w.events (ends w.stack) → Leads [] (closed depth w).events (ends (closed depth w).stack)
leads_closed depth w h =
    leads_append [] (ends w.stack) _ w.events (closings depth w.stack) h
    (subst (λ s. Leads s (closings depth w.stack) (ends (take depth w.stack))) (sym (ends_split depth w.stack)) (leads_ends (reverse (drop depth w.stack)) (ends (take depth w.stack))))

ends_push : (stack : List Open) (o : Open) → ends (stack ++ o ∷ []) ≡ o.end ∷ ends stack
ends_push stack o = ap (λ (l : List Open). map (λ p. p.end) l) (reverse-append stack (o ∷ []))

leads_put : (text : List ℕ) (i : ItemView) (range : ℕ × ℕ) (w : Writing) → Leads [] w.events (ends w.stack) → Leads [] (put text i range w).events (ends (put text i range w).stack)
leads_put text (Container tag) range w h =
    leads_append [] _ _ w.events _ h (end_of tag ∷ ends w.stack, refl, sym (ends_push w.stack (record { end = end_of tag; range = range })))
leads_put text Source range w h = leads_append [] _ _ w.events _ h (ends w.stack, refl, refl)
leads_put text (Given l) range w h = leads_append [] _ _ w.events _ h (ends w.stack, refl, refl)

pub leads_fold : (text : List ℕ) (nodes : List NodeView) (w : Writing) → Leads [] w.events (ends w.stack) → Leads [] (fold (step text) w nodes).events (ends (fold (step text) w nodes).stack)
leads_fold text [] w h = h
leads_fold text (n ∷ ns) w h = leads_fold text ns (step text w n) (leads_put text n.item _ (closed n.depth w) (leads_closed n.depth w h))

-- a forest, and after it for each open container its End and a forest
abbrev Levels : List TagEnd → List EventView → Type 0
Levels [] es = (f : Forest LeafView) × (flat f ≡ es)
Levels (k ∷ s) es = (f : Forest LeafView) × (rest : List EventView) × (flat_onto f (End k ∷ rest) ≡ es) × Levels s rest

with_leaf_first : (s : List TagEnd) (l : LeafView) (es : List EventView) → Levels s es → Levels s (Leaf l ∷ es)
with_leaf_first [] l es h = (leaf l (h.0), ap (λ x. Leaf l ∷ x) (h.1))
with_leaf_first (k ∷ s) l es h = (leaf l (h.0), h.1, ap (λ x. Leaf l ∷ x) (h.2), h.3)

with_start_first : (s : List TagEnd) (t : TagView) (es : List EventView) → Levels (end_of t ∷ s) es → Levels s (Start t ∷ es)
with_start_first [] t es h =
    let rest = h.3 in
    (node t (h.0) (rest.0), ap (λ x. Start t ∷ flat_onto (h.0) (End (end_of t) ∷ x)) (rest.1) ∙ ap (λ x. Start t ∷ x) (h.2))
with_start_first (k ∷ s) t es h =
    let rest = h.3 in
    (node t (h.0) (rest.0), rest.1, ap (λ x. Start t ∷ flat_onto (h.0) (End (end_of t) ∷ x)) (rest.2) ∙ ap (λ x. Start t ∷ x) (h.2), rest.3)

abbrev pub unplaced : List Marked → List EventView
unplaced es = map (λ e. e.0) es

pub levels : (s : List TagEnd) (es : List Marked) → Leads s es [] → Levels s (unplaced es)
levels s [] h = subst (λ (l : List TagEnd). Levels l []) (sym h) (empty, refl)
levels s ((Start t, r) ∷ es) h = with_start_first s t (unplaced es) (subst (λ (l : List TagEnd). Levels l (unplaced es)) (h.1) (levels (h.0) es (h.2)))
levels s ((End k, r) ∷ es) h = subst (λ (l : List TagEnd). Levels l (End k ∷ unplaced es)) (sym (h.1)) (empty, unplaced es, refl, levels (h.0) es (h.2))
levels s ((Leaf l, r) ∷ es) h = with_leaf_first s l (unplaced es) (subst (λ (x : List TagEnd). Levels x (unplaced es)) (sym (h.1)) (levels (h.0) es (h.2)))

emitted_balanced : (text : List ℕ) (nodes : List NodeView) → IsBalanced (map (λ e. e.0) (emitted text nodes))
emitted_balanced text nodes =
    let start : Writing = record { events = []; stack = [] } in
    levels [] (emitted text nodes) (leads_closed 0 (fold (step text) start nodes) (leads_fold text nodes start refl))

-- the events of a reading are those that it shows
unplaced_shown : (es : List (ParserEvent × (ℕ × ℕ))) → unplaced (map shown es) ≡ map (λ e. event_view text_of e.0) es
unplaced_shown [] = refl
unplaced_shown (e ∷ es) = ap (λ x. event_view text_of e.0 ∷ x) (unplaced_shown es)

shown_balanced : (es : List (ParserEvent × (ℕ × ℕ))) (text : List ℕ) (nodes : List NodeView) → map shown es ≡ emitted text nodes → IsBalanced (map (λ e. event_view text_of e.0) es)
shown_balanced es text nodes h =
    subst (λ (x : List EventView). IsBalanced x) (sym (ap unplaced h) ∙ unplaced_shown es) (emitted_balanced text nodes)

-- ranges

is_cut_boundary : (text : List ℕ) (at : ℕ) → is_cut text at ≡ true → IsCharBoundary text at
is_cut_boundary text at h = (grind (arith, nat_tests), λ l k. grind (arith, nat_tests))

-- by cases on the test
snapped_by : {text : List ℕ} (b : Bool) (start end : ℕ) → (nat_le start end && is_cut text start && is_cut text end) ≡ b → IsUtf8 text → IsGoodRange text (cond b (start, end) (0, 0))
snapped_by {text} true start end e utf8 =
    let parts : ((nat_le start end ≡ true) × (is_cut text start ≡ true) × (is_cut text end ≡ true)) = grind (arith, nat_tests) in
    record { ordered = leb-true start end parts.0; start = is_cut_boundary text start parts.1; end = is_cut_boundary text end parts.2 }
snapped_by {text} false start end e utf8 = let front = IsCharBoundary-start text utf8 in record { ordered = omega arith; start = front; end = front }

snapped_good : (text : List ℕ) (start end : ℕ) → IsUtf8 text → IsGoodRange text (snapped text start end)
snapped_good text start end utf8 = snapped_by _ start end refl utf8

-- all ranges so far are good
record Fine (text : List ℕ) (w : Writing) : Type 0 where
  events : HasGoodRanges text w.events
  stack : AllByRecursion (λ (o : Open). IsGoodRange text o.range) w.stack

all_append : {X : Type 0} (P : X → Type 0) (xs ys : List X) → AllByRecursion P xs → AllByRecursion P ys → AllByRecursion P (xs ++ ys)
all_append P [] ys h k = k
all_append P (x ∷ xs) ys h k = (h.0, all_append P xs ys (h.1) k)

all_take : {X : Type 0} (P : X → Type 0) (n : ℕ) (xs : List X) → AllByRecursion P xs → AllByRecursion P (take n xs)
all_take P zero xs h = tt
all_take P (suc n) [] h = tt
all_take P (suc n) (x ∷ xs) h = (h.0, all_take P n xs (h.1))

all_drop : {X : Type 0} (P : X → Type 0) (n : ℕ) (xs : List X) → AllByRecursion P xs → AllByRecursion P (drop n xs)
all_drop P zero xs h = h
all_drop P (suc n) [] h = tt
all_drop P (suc n) (x ∷ xs) h = all_drop P n xs (h.1)

all_onto : {X : Type 0} (P : X → Type 0) (xs ys : List X) → AllByRecursion P xs → AllByRecursion P ys → AllByRecursion P (reverse_aux xs ys)
all_onto P [] ys h k = k
all_onto P (x ∷ xs) ys h k = all_onto P xs (x ∷ ys) (h.1) (h.0, k)

good_ends : (text : List ℕ) (xs : List Open) → AllByRecursion (λ (o : Open). IsGoodRange text o.range) xs → HasGoodRanges text (map end_event xs)
good_ends text [] h = tt
good_ends text (x ∷ xs) h = (h.0, good_ends text xs (h.1))

fine_closed : (text : List ℕ) (depth : ℕ) (w : Writing) → Fine text w → Fine text (closed depth w)
fine_closed text depth w h = record {
  events = all_append _ w.events _ h.events (good_ends text _ (all_onto _ (drop depth w.stack) [] (all_drop _ depth w.stack h.stack) tt));
  stack = all_take _ depth w.stack h.stack;
}

fine_put : (text : List ℕ) (i : ItemView) (range : ℕ × ℕ) (w : Writing) → IsGoodRange text range → Fine text w → Fine text (put text i range w)
fine_put text (Container tag) range w g h = record { events = all_append _ w.events _ h.events (g, tt); stack = all_append _ w.stack _ h.stack (g, tt) }
fine_put text Source range w g h = record { events = all_append _ w.events _ h.events (g, tt); stack = h.stack }
fine_put text (Given l) range w g h = record { events = all_append _ w.events _ h.events (g, tt); stack = h.stack }

fine_fold : (text : List ℕ) → IsUtf8 text → (nodes : List NodeView) (w : Writing) → Fine text w → Fine text (fold (step text) w nodes)
fine_fold text utf8 [] w h = h
fine_fold text utf8 (n ∷ ns) w h =
    fine_fold text utf8 ns (step text w n) (fine_put text n.item _ (closed n.depth w) (snapped_good text n.start n.end utf8) (fine_closed text n.depth w h))

emitted_good : (text : List ℕ) (nodes : List NodeView) → IsUtf8 text → HasGoodRanges text (emitted text nodes)
emitted_good text nodes utf8 =
    let start : Writing = record { events = []; stack = [] } in
    (fine_closed text 0 (fold (step text) start nodes) (fine_fold text utf8 nodes start (record { events = tt; stack = tt }))).events

good_shown : (text : List ℕ) (es : List (ParserEvent × (ℕ × ℕ))) → HasGoodRanges text (map shown es) → HasGoodRanges text es
good_shown text [] h = tt
good_shown text (e ∷ es) h = (h.0, good_shown text es (h.1))

shown_good : (es : List (ParserEvent × (ℕ × ℕ))) (text : List ℕ) (nodes : List NodeView) → IsUtf8 text → map shown es ≡ emitted text nodes → HasGoodRanges text es
shown_good es text nodes utf8 h =
    good_shown text es (subst (λ (x : List Marked). HasGoodRanges text x) (sym h) (emitted_good text nodes utf8))

-- of a reading

pub reading_balanced : (r : Reading) (syntax : Syntax) (text : List ℕ) → reading_view r ≡ reading_of syntax text → IsBalanced (map (λ e. event_view text_of e.0) r.events.items)
unfolding reading_of
reading_balanced r syntax text h = shown_balanced r.events.items text (found_under syntax text).nodes (ap (λ (v : ReadingView). v.events) h)

pub reading_good : (r : Reading) (syntax : Syntax) (text : List ℕ) → IsUtf8 text → reading_view r ≡ reading_of syntax text → HasGoodRanges text r.events.items
unfolding reading_of
reading_good r syntax text utf8 h = shown_good r.events.items text (found_under syntax text).nodes utf8 (ap (λ (v : ReadingView). v.events) h)

-- The events of nodes depend on what the nodes say, and on the ranges that they end up with.
use Rattle.std.proofs.Common.{◌≡◌, ℕ, zero, suc, ◌+◌, ◌-◌, ◌^◌, ◌<◌, ◌≤◌, Bool, true, false, ◌==◌, ◌&&◌, if◌then◌else◌, nat_lt, nat_le, List, [], ◌∷◌, length, map, pred, take, drop, reverse, refl, ap, sym, ◌∙◌, arith}
use Rattle.std.specs.List.{fold}
use Rattle.std.proofs.lemmas.List.{map-append, drop-map, take-map}
use Prim.Native.Nat.compare
use Rattle.tocmark_event.specs.View.{EventView, End, Text}
use Rattle.std.proofs.lemmas.Bool.Decides.{nat_tests}
use Rattle.tocmark_read_scan.specs.Basic.{plus, bytes_between}
use Rattle.tocmark_reader.specs.Emitted.{ItemView, NodeView, Container, Source, Given, Writing, end_event, closings, closed, put, step, emitted, source_text}
use Rattle.tocmark_reader.specs.Range.{is_cut, snapped}
use Rattle.tocmark_reader.specs.declared.emit.Open.{Open}
use Rattle.tocmark_text_laws.proofs.Lists.{reverse_map}
use Rattle.tocmark_text_laws.proofs.LinesFurther.{le_on, between_on}

-- what a node says
abbrev pub plain_item : List ℕ → ItemView → ℕ → ℕ → ItemView
plain_item t (Container tag) start end = Container tag
plain_item t Source start end = Given (Text (source_text t (snapped t start end)))
plain_item t (Given l) start end = Given l

abbrev pub both : (ℕ → ℕ) → ℕ × ℕ → ℕ × ℕ
both f r = (f (r.0), f (r.1))

-- a node as it says it, at the places of its event changed by a function
abbrev pub plain : (ℕ → ℕ) → List ℕ → NodeView → NodeView
plain f t n = record { depth = n.depth; item = plain_item t n.item n.start n.end; start = f (snapped t n.start n.end).0; end = f (snapped t n.start n.end).1 }

-- places that stay
abbrev pub stay : ℕ → ℕ
stay p = p

-- an event at places changed by a function
abbrev pub event_by : (ℕ → ℕ) → EventView × (ℕ × ℕ) → EventView × (ℕ × ℕ)
event_by f e = (e.0, both f (e.1))

abbrev open_by : (ℕ → ℕ) → Open → Open
open_by f o = record { end = o.end; range = both f o.range }

abbrev writing_by : (ℕ → ℕ) → Writing → Writing
writing_by f w = record { events = map (event_by f) w.events; stack = map (open_by f) w.stack }

-- a node is written with the range that it has
abbrev step_as : Writing → NodeView → Writing
step_as w n = put [] n.item (n.start, n.end) (closed n.depth w)

abbrev emitted_as : List NodeView → List (EventView × (ℕ × ℕ))
emitted_as ns = (closed 0 (fold step_as (record { events = []; stack = [] }) ns)).events

ends_by : (f : ℕ → ℕ) (os : List Open) → map (event_by f) (map end_event os) ≡ map end_event (map (open_by f) os)
ends_by f [] = refl
ends_by f (o ∷ os) = ap (λ es. (End o.end, both f o.range) ∷ es) (ends_by f os)

closings_by : (f : ℕ → ℕ) (depth : ℕ) (os : List Open) → map (event_by f) (closings depth os) ≡ closings depth (map (open_by f) os)
closings_by f depth os =
    ends_by f (reverse (drop depth os))
    ∙ ap (map end_event) (sym (reverse_map (open_by f) (drop depth os)))
    ∙ ap (λ xs. map end_event (reverse xs)) (sym (drop-map (open_by f) depth os))

closed_by : (f : ℕ → ℕ) (depth : ℕ) (w : Writing) → writing_by f (closed depth w) ≡ closed depth (writing_by f w)
closed_by f depth w = rw (map-append (event_by f) w.events (closings depth w.stack), closings_by f depth w.stack, take-map (open_by f) depth w.stack) refl

put_by : (f : ℕ → ℕ) (t : List ℕ) (i : ItemView) (start end : ℕ) (w : Writing) → writing_by f (put t i (snapped t start end) w) ≡ put [] (plain_item t i start end) (both f (snapped t start end)) (writing_by f w)
put_by f t (Container tag) start end w = rw (map-append (event_by f) w.events, map-append (open_by f) w.stack) refl
put_by f t Source start end w = rw (map-append (event_by f) w.events) refl
put_by f t (Given l) start end w = rw (map-append (event_by f) w.events) refl

step_by : (f : ℕ → ℕ) (t : List ℕ) (n : NodeView) (w : Writing) → writing_by f (step t w n) ≡ step_as (writing_by f w) (plain f t n)
step_by f t n w = put_by f t n.item n.start n.end (closed n.depth w) ∙ ap (put [] (plain_item t n.item n.start n.end) (both f (snapped t n.start n.end))) (closed_by f n.depth w)

steps_by : (f : ℕ → ℕ) (t : List ℕ) (ns : List NodeView) (w : Writing) → writing_by f (fold (step t) w ns) ≡ fold step_as (writing_by f w) (map (plain f t) ns)
steps_by f t [] w = refl
steps_by f t (n ∷ ns) w = steps_by f t ns (step t w n) ∙ ap (λ v. fold step_as v (map (plain f t) ns)) (step_by f t n w)

emitted_by : (f : ℕ → ℕ) (t : List ℕ) (ns : List NodeView) → map (event_by f) (emitted t ns) ≡ emitted_as (map (plain f t) ns)
emitted_by f t ns = ap (λ (w : Writing). w.events) (closed_by f 0 (fold (step t) (record { events = []; stack = [] }) ns) ∙ ap (closed 0) (steps_by f t ns (record { events = []; stack = [] })))

all_stay : (es : List (EventView × (ℕ × ℕ))) → map (event_by stay) es ≡ es
all_stay [] = refl
all_stay ((v, (a, b)) ∷ es) = ap (λ xs. (v, (a, b)) ∷ xs) (all_stay es)

-- nodes that say the same in two texts, one of them one place further, give the same events there
pub same_events : (t u : List ℕ) (ns ms : List NodeView) → map (plain pred t) ns ≡ map (plain stay u) ms → map (event_by pred) (emitted t ns) ≡ emitted u ms
same_events t u ns ms h = emitted_by pred t ns ∙ ap emitted_as h ∙ sym (emitted_by stay u ms) ∙ all_stay (emitted u ms)

none_between : (t : List ℕ) → bytes_between t 0 0 ≡ []
none_between t = by (nat_le 0 0 && nat_le 0 (length t))
  where
    by : (b : Bool) → (if b then take (0 - 0) (drop 0 t) else []) ≡ []
    by true = refl
    by false = refl

nothing_read : (t : List ℕ) (c : ℕ) → source_text (c ∷ t) (0, 0) ≡ source_text t (0, 0)
nothing_read t c = rw (none_between (c ∷ t), none_between t) refl

same_cut : (t : List ℕ) (c at : ℕ) → is_cut (c ∷ t) (suc at) ≡ is_cut t at
same_cut t c at = simp compare.suc-suc

-- a text at places one further is the same
pub same_source : (t : List ℕ) (c start end : ℕ) → source_text (c ∷ t) (snapped (c ∷ t) (suc start) (suc end)) ≡ source_text t (snapped t start end)
same_source t c start end = rw (le_on start end, same_cut t c start, same_cut t c end) (by (nat_le start end && is_cut t start && is_cut t end))
  where
    by : (b : Bool) → source_text (c ∷ t) (if b then (suc start, suc end) else (0, 0)) ≡ source_text t (if b then (start, end) else (0, 0))
    by true = rw (between_on t c start end) refl
    by false = nothing_read t c

abbrev nothing : ℕ × ℕ
nothing = (0, 0)

over : (n : ℕ) → nat_le (suc n) 0 ≡ false
over n = grind (arith, nat_tests)

-- a range that ends at 0 is none, or empty at the front
none_over : (t : List ℕ) (start : ℕ) → snapped t (suc start) 0 ≡ (0, 0)
none_over t start = rw (over start) refl

none_to : (t : List ℕ) (start : ℕ) → snapped t start 0 ≡ (0, 0)
none_to t zero = by (nat_le 0 0 && is_cut t 0 && is_cut t 0)
  where
    by : (b : Bool) → (if b then nothing else nothing) ≡ nothing
    by true = refl
    by false = refl
none_to t (suc start) = none_over t start

pub same_nothing : (t : List ℕ) (c start : ℕ) → source_text (c ∷ t) (snapped (c ∷ t) (suc start) 0) ≡ source_text t (snapped t start 0)
same_nothing t c start = ap (source_text (c ∷ t)) (none_over (c ∷ t) start) ∙ nothing_read t c ∙ sym (ap (source_text t) (none_to t start))

-- a range one further
pub same_range : (t : List ℕ) (c start end : ℕ) → both pred (snapped (c ∷ t) (suc start) (suc end)) ≡ snapped t start end
same_range t c start end = rw (le_on start end, same_cut t c start, same_cut t c end) (by (nat_le start end && is_cut t start && is_cut t end))
  where
    by : (b : Bool) → both pred (if b then (suc start, suc end) else (0, 0)) ≡ (if b then (start, end) else (0, 0))
    by true = refl
    by false = refl

-- one that ends at 0
pub no_range : (t : List ℕ) (c start : ℕ) → both pred (snapped (c ∷ t) (suc start) 0) ≡ snapped t start 0
no_range t c start = ap (both pred) (none_over (c ∷ t) start) ∙ sym (none_to t start)

less : (n : ℕ) → suc n - 1 ≡ n
less n = omega arith

-- the space in front of a place
pub space_range : (t : List ℕ) (c start : ℕ) → both pred (snapped (c ∷ t) (suc start - 1) (suc start)) ≡ snapped t (start - 1) start
space_range t c zero = by (nat_le (suc zero - 1) (suc zero) && is_cut (c ∷ t) (suc zero - 1) && is_cut (c ∷ t) (suc zero)) ∙ sym (none_to t (zero - 1))
  where
    by : (b : Bool) → both pred (if b then (suc zero - 1, suc zero) else (0, 0)) ≡ (0, 0)
    by true = refl
    by false = refl
space_range t c (suc start) =
    ap (λ p. both pred (snapped (c ∷ t) p (suc (suc start)))) (less (suc start)) ∙ same_range t c start (suc start) ∙ ap (λ p. snapped t p (suc start)) (sym (less start))

past_end : (t : List ℕ) (at : ℕ) → length t < at → is_cut t at ≡ false
past_end t at h =
    let p : nat_lt at (length t) ≡ false = grind (arith, nat_tests) in
    let q : (at == length t) ≡ false = grind (arith, nat_tests) in
    rw (p, q) refl

-- the box of a task: its end is saturated
pub box_range : (t : List ℕ) (c start : ℕ) → length t + 3 < 2 ^ 64 → both pred (snapped (c ∷ t) (suc start) (plus (suc start) 3)) ≡ snapped t start (plus start 3)
box_range t c start h = by (nat_lt (start + 4) (2 ^ 64)) refl
  where
    none : (u : List ℕ) (a b : ℕ) → is_cut u b ≡ false → snapped u a b ≡ (0, 0)
    none u a b e = rw e (both_false (nat_le a b && is_cut u a))
      where
        range : ℕ × ℕ
        range = (a, b)

        both_false : (k : Bool) → (if k && false then range else nothing) ≡ nothing
        both_false true = refl
        both_false false = refl

    by : (k : Bool) → nat_lt (start + 4) (2 ^ 64) ≡ k → both pred (snapped (c ∷ t) (suc start) (plus (suc start) 3)) ≡ snapped t start (plus start 3)
    by true e =
        let q : start + 4 < 2 ^ 64 = grind (arith, nat_tests) in
        let p : plus (suc start) 3 ≡ suc (plus start 3) = omega arith in
        ap (λ end. both pred (snapped (c ∷ t) (suc start) end)) p ∙ same_range t c start (plus start 3)
    by false e =
        let q : 2 ^ 64 ≤ start + 4 = grind (arith, nat_tests) in
        ap (both pred) (none (c ∷ t) (suc start) (plus (suc start) 3) (past_end (c ∷ t) (plus (suc start) 3) (omega arith)))
        ∙ sym (none t start (plus start 3) (past_end t (plus start 3) (omega arith)))

-- nodes that say the same at places that are one further
pub same_node : (t : List ℕ) (c depth : ℕ) (i' i : ItemView) (a' b' a b : ℕ) → plain_item (c ∷ t) i' a' b' ≡ plain_item t i a b → both pred (snapped (c ∷ t) a' b') ≡ snapped t a b
    → plain pred (c ∷ t) (record { depth = depth; item = i'; start = a'; end = b' }) ≡ plain stay t (record { depth = depth; item = i; start = a; end = b })
same_node t c depth i' i a' b' a b h k =
    ap (λ (r : ℕ × ℕ). record { depth = depth; item = plain_item (c ∷ t) i' a' b'; start = r.0; end = r.1 }) k
    ∙ ap (λ x. record { depth = depth; item = x; start = (snapped t a b).0; end = (snapped t a b).1 }) h

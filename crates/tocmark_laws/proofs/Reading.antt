-- What is pending begins a forest, in which the containers are open that the standing holds as open.
use Rattle.std.proofs.Common.{◌≡◌, ℕ, subst, List, [], ◌∷◌, ◌++◌, Some, Result, Ok, Err, Bool, true, false, if◌then◌else◌, refl}
use Rattle.tocmark_event.specs.Forest.{IsReading}
use Rattle.tocmark_event.specs.View.{EventView, SourcedEvent, unsourced}
use Rattle.tocmark_event.specs.declared.event.TagEnd.{TagEnd}
use Rattle.tocmark_event.specs.declared.options.Error.{Error}
use Rattle.tocmark_write_pending.specs.Pending.{nested}
use Rattle.tocmark_write_pending.proofs.Balanced.{reading-more, reading-nothing}
use Rattle.tocmark_state.specs.Ranges.{Pair, resolved}
use Rattle.tocmark_state.specs.Walk.{Kept, Rendering, Standing, Walk, advance, advance_with, beginning, flush_of, flushed, flushed_before, flushed_or_deferred, go_on, is_due, joins, stay, step, walk, with_event}
use Rattle.tocmark_state.proofs.Walks.{due_closed}

abbrev Nested : Standing → Type 0
Nested s = IsReading s.pending s.open_tags

go_ok : {A S : Type 0} (ts : List (List ℕ)) (o : Result A Error) (f : A → Walk S) (t : S) → (go_on ts o f).outcome ≡ Ok t → (a : A) × (o ≡ Ok a) × ((f a).outcome ≡ Ok t)
go_ok ts (Ok a) f t h = (a, refl, h)
go_ok ts (Err e) f t h = absurd (cc)

ok_is : (a b : Standing) (r : Result Standing Error) → r ≡ Ok a → r ≡ Ok b → a ≡ b
ok_is a b r h k = cc

flush_nested : (s t : Standing) (r : Result (List ℕ × Kept) Error) → s.open_tags ≡ [] → (flush_of s r).outcome ≡ Ok t → Nested t
flush_nested s t (Ok x) o h = subst Nested (ok_is (record s { pending = []; document = x.1 }) t (flush_of s (Ok x)).outcome refl h) (rw o reading-nothing)
flush_nested s t (Err e) o h = absurd (cc)

choice_nested : (how : Rendering) (e : EventView) (s t : Standing) (b w : Bool) → is_due s ≡ b → Nested s → (if b then flushed_or_deferred how w e s else stay s).outcome ≡ Ok t → Nested t
unfolding flushed
choice_nested how e s t true true d n h = subst Nested (ok_is (record s { is_deferred = true }) t (Ok (record s { is_deferred = true })) refl h) n
choice_nested how e s t true false d n h = flush_nested s t (how.choice s.document s.pending (Some e)) (due_closed s d) h
choice_nested how e s t false w d n h = subst Nested (ok_is s t (Ok s) refl h) n

before_nested : (how : Rendering) (e : EventView) (s t : Standing) → Nested s → (flushed_before how e s).outcome ≡ Ok t → Nested t
unfolding flushed_before
before_nested how e s t n h = choice_nested how e s t (is_due s) (how.waits s.pending) refl n h

event_nested : (e : SourcedEvent) (s t : Standing) (r : Result (List TagEnd) Error) → nested s.open_tags (unsourced e) ≡ r → Nested s → (with_event s e r).outcome ≡ Ok t → Nested t
event_nested e s t (Ok os) h n k = subst Nested (ok_is (record s { pending = s.pending ++ e ∷ []; open_tags = os }) t (Ok (record s { pending = s.pending ++ e ∷ []; open_tags = os })) refl k) (reading-more s.pending e s.open_tags os n h)
event_nested e s t (Err x) h n k = absurd (cc)

joins_nested : (e : SourcedEvent) (s t : Standing) → Nested s → (joins e s).outcome ≡ Ok t → Nested t
unfolding joins
joins_nested e s t n h = event_nested e s t (nested s.open_tags (unsourced e)) refl n h

advance_nested : (how : Rendering) (e : SourcedEvent) (s t : Standing) → Nested s → (advance how e s).outcome ≡ Ok t → Nested t
unfolding advance
advance_nested how e s t n h =
    let (u, i, j) = go_ok (flushed_before how (unsourced e) s).texts (flushed_before how (unsourced e) s).outcome (λ u. joins e u) t h in
    joins_nested e u t (before_nested how (unsourced e) s u n i) j

step_nested : (how : Rendering) (s t : Standing) (r : Result (SourcedEvent × ℕ) Error) → Nested s → (advance_with how s r).outcome ≡ Ok t → Nested t
step_nested how s t (Ok x) n h = advance_nested how x.0 (record s { range_end = x.1 }) t n h
step_nested how s t (Err e) n h = absurd (cc)

-- what is pending begins a forest, of which just the containers that are open are open
pub walk_nested : (how : Rendering) (source : List ℕ) (s t : Standing) (p : List Pair) → IsReading s.pending s.open_tags → (walk how source s p).outcome ≡ Ok t → IsReading t.pending t.open_tags
unfolding step
walk_nested how source s t [] n h = subst Nested (ok_is s t (Ok s) refl h) n
walk_nested how source s t (x ∷ xs) n h =
    let (u, i, j) = go_ok (step how source x s).texts (step how source x s).outcome (λ u. walk how source u xs) t h in
    walk_nested how source u t xs (step_nested how s u (resolved source s.range_end x) n i) j

pub nothing_nested : (how : Rendering) (source : List ℕ) (kept : Kept) (t : Standing) (p : List Pair) → (walk how source (beginning kept) p).outcome ≡ Ok t → IsReading t.pending t.open_tags
nothing_nested how source kept t p h = walk_nested how source (beginning kept) t p reading-nothing h

-- Why a walk and a script are refused.
use Rattle.std.proofs.Common.{◌≡◌, ℕ, List, [], ◌∷◌, Bool, true, false, if◌then◌else◌, Result, Ok, Err, Option, Some, None, refl, ap, sym, ◌∙◌}
use Rattle.tocmark_event.specs.Ends.{same_end}
use Rattle.tocmark_event.specs.View.{EventView, Start, End, Leaf, SourcedEvent, unsourced}
use Rattle.tocmark_event.specs.declared.event.TagEnd.{TagEnd}
use Rattle.tocmark_event.specs.declared.options.Error.{Error}
use Rattle.tocmark_event.specs.declared.options.Error.TheVariants as error
use Rattle.tocmark_spelling.specs.Buffered.{sourced}
use Rattle.tocmark_laws.specs.Causes.{HasBadRange, Cause, BadRange, RefusedUnit, WrongEnd, IsRefusedAtPair, HasRefusedLastUnit, EndCause, OpenContainer, RefusedLastUnit, IsRefusedIn, AtPair, AtEnd}
use Rattle.tocmark_state.specs.Ranges.{Pair, Range, is_good_range, source_text, range_end_after, resolved_at}
use Rattle.tocmark_laws.specs.Trees.{ends_innermost}
use Rattle.tocmark_state.specs.Walk.{Kept, Rendering, Standing, Walk, go_on, stay, with_event, joins, flush_of, flushed, flushed_or_deferred, is_due, flushed_before, advance, advance_with, step, walk, finished, finished_of, ended, ended_at, script}
use Rattle.tocmark_write_pending.specs.Pending.{nested}
use Rattle.tocmark_write_pending.proofs.Joined.{unsourced-sourced}

same_error : {A : Type 0} (x y : Error) (r : Result A Error) → r ≡ Err x → r ≡ Err y → x ≡ y
same_error x y r h k = cc

same_ok : {A : Type 0} (s t : A) (r : Result A Error) → r ≡ Ok s → r ≡ Ok t → s ≡ t
same_ok s t r h k = cc

-- a walk that goes on is refused in its first part, or in its second one
go_err : {A S X : Type 0} (ts : List (List ℕ)) (o : Result A Error) (f : A → Walk S) (e : Error) → (go_on ts o f).outcome ≡ Err e → (o ≡ Err e → X) → ((a : A) → o ≡ Ok a → (f a).outcome ≡ Err e → X) → X
go_err ts (Ok a) f e h first second = second a refl h
go_err ts (Err x) f e h first second = first (ap (λ y. Err y) (same_error x e (Err x) refl h))

-- an event with its spelling and the end of its range, where that is good
abbrev ranged_as : Bool → SourcedEvent × ℕ → Result (SourcedEvent × ℕ) Error
ranged_as b y = if b then Ok y else Err error.InvalidSourceRange

-- a refused range is a bad one
range_cause : (source : List ℕ) (n : ℕ) (e : EventView) (range : Range) (x : Error) (b : Bool) → is_good_range source range ≡ b → ranged_as b (sourced e (source_text source n e range), range_end_after n e range) ≡ Err x → HasBadRange source (e, Some range) x
range_cause source n e range x true g h = absurd (cc)
range_cause source n e range x false g h = record { range = range; is = refl; bad = g; error_is = cc }

resolved_cause : (source : List ℕ) (n : ℕ) (e : EventView) (range : Option Range) (x : Error) → resolved_at source n e range ≡ Err x → HasBadRange source (e, range) x
resolved_cause source n e None x h = absurd (cc)
resolved_cause source n e (Some range) x h = range_cause source n e range x (is_good_range source range) refl h

-- an event keeps its view after its range
range_event : (source : List ℕ) (n : ℕ) (e : EventView) (range : Range) (y : SourcedEvent × ℕ) (b : Bool) → ranged_as b (sourced e (source_text source n e range), range_end_after n e range) ≡ Ok y → unsourced y.0 ≡ e
range_event source n e range y true h = ap (λ (z : SourcedEvent × ℕ). unsourced z.0) (sym (same_ok (sourced e (source_text source n e range), range_end_after n e range) y (Ok (sourced e (source_text source n e range), range_end_after n e range)) refl h)) ∙ unsourced-sourced e (source_text source n e range)
range_event source n e range y false h = absurd (cc)

resolved_event : (source : List ℕ) (n : ℕ) (e : EventView) (range : Option Range) (y : SourcedEvent × ℕ) → resolved_at source n e range ≡ Ok y → unsourced y.0 ≡ e
resolved_event source n e None y h = ap (λ (z : SourcedEvent × ℕ). unsourced z.0) (sym (same_ok (sourced e None, n) y (Ok (sourced e None, n)) refl h)) ∙ unsourced-sourced e None
resolved_event source n e (Some range) y h = range_event source n e range y (is_good_range source range) h

-- a unit that isn't taken from what is pending was refused
flush_cause : (s : Standing) (r : Result (List ℕ × Kept) Error) (x : Error) → (flush_of s r).outcome ≡ Err x → r ≡ Err x
flush_cause s (Ok y) x h = absurd (cc)
flush_cause s (Err y) x h = ap (λ z. Err z) (same_error y x (flush_of s (Err y)).outcome refl h)

due_cause : (how : Rendering) (e : EventView) (s : Standing) (x : Error) (b w : Bool) → is_due s ≡ b → how.waits s.pending ≡ w → (if b then flushed_or_deferred how w e s else stay s).outcome ≡ Err x → (is_due s ≡ true) × (how.waits s.pending ≡ false) × (how.choice s.document s.pending (Some e) ≡ Err x)
unfolding flushed
due_cause how e s x true true d v h = absurd (cc)
due_cause how e s x true false d v h = (d, v, flush_cause s (how.choice s.document s.pending (Some e)) x h)
due_cause how e s x false w d v h = absurd (cc)

before_cause : (how : Rendering) (e : EventView) (s : Standing) (x : Error) → (flushed_before how e s).outcome ≡ Err x → (is_due s ≡ true) × (how.waits s.pending ≡ false) × (how.choice s.document s.pending (Some e) ≡ Err x)
unfolding flushed_before
before_cause how e s x h = due_cause how e s x (is_due s) (how.waits s.pending) refl refl h

-- what is written before an event leaves the containers open
flush_tags : (s t : Standing) (r : Result (List ℕ × Kept) Error) → (flush_of s r).outcome ≡ Ok t → t.open_tags ≡ s.open_tags
flush_tags s t (Ok y) h = ap (λ (u : Standing). u.open_tags) (sym (same_ok (record s { pending = []; document = y.1 }) t (flush_of s (Ok y)).outcome refl h))
flush_tags s t (Err y) h = absurd (cc)

due_tags : (how : Rendering) (e : EventView) (s t : Standing) (b w : Bool) → (if b then flushed_or_deferred how w e s else stay s).outcome ≡ Ok t → t.open_tags ≡ s.open_tags
unfolding flushed
due_tags how e s t true true h = ap (λ (u : Standing). u.open_tags) (sym (same_ok (record s { is_deferred = true }) t (Ok (record s { is_deferred = true })) refl h))
due_tags how e s t true false h = flush_tags s t (how.choice s.document s.pending (Some e)) h
due_tags how e s t false w h = ap (λ (u : Standing). u.open_tags) (sym (same_ok s t (Ok s) refl h))

before_tags : (how : Rendering) (e : EventView) (s t : Standing) → (flushed_before how e s).outcome ≡ Ok t → t.open_tags ≡ s.open_tags
unfolding flushed_before
before_tags how e s t h = due_tags how e s t (is_due s) (how.waits s.pending) h

-- an event that isn't nested right is an End that isn't the innermost open container's
closed_cause : (o : TagEnd) (os : List TagEnd) (k : TagEnd) (x : Error) (b : Bool) → same_end k o ≡ b → (if b then Ok os else Err error.UnexpectedEvent) ≡ Err x → (ends_innermost k (o ∷ os) ≡ false) × (x ≡ error.UnexpectedEvent)
closed_cause o os k x true g h = absurd (cc)
closed_cause o os k x false g h = (g, cc)

nested_cause : (os : List TagEnd) (e : EventView) (x : Error) → nested os e ≡ Err x → (k : TagEnd) × (e ≡ End k) × (ends_innermost k os ≡ false) × (x ≡ error.UnexpectedEvent)
nested_cause os (Start t) x h = absurd (cc)
nested_cause os (Leaf l) x h = absurd (cc)
nested_cause [] (End k) x h = (k, refl, refl, cc)
nested_cause (o ∷ os) (End k) x h = let c = closed_cause o os k x (same_end k o) refl h in (k, refl, c.0, c.1)

joins_cause : (e : SourcedEvent) (s : Standing) (x : Error) → (joins e s).outcome ≡ Err x → nested s.open_tags (unsourced e) ≡ Err x
unfolding joins
joins_cause e s x h = go (nested s.open_tags (unsourced e)) h
  where
    go : (r : Result (List TagEnd) Error) → (with_event s e r).outcome ≡ Err x → r ≡ Err x
    go (Ok os) k = absurd (cc)
    go (Err y) k = ap (λ z. Err z) (same_error y x (with_event s e (Err y)).outcome refl k)

-- an event that is refused makes a unit due that is refused, or is a wrong End
advance_cause : (how : Rendering) (source : List ℕ) (pair : Pair) (e : SourcedEvent) (s : Standing) (n : ℕ) (x : Error) → unsourced e ≡ pair.0 → (advance how e (record s { range_end = n })).outcome ≡ Err x → Cause how source s pair x
unfolding advance
advance_cause how source pair e s n x same h =
    let at = record s { range_end = n } in
    go_err (flushed_before how (unsourced e) at).texts (flushed_before how (unsourced e) at).outcome (λ t. joins e t) x h
    (λ k. let c = before_cause how (unsourced e) at x k in RefusedUnit (record { due = c.0; writable = c.1; refused = ap (λ v. how.choice s.document s.pending (Some v)) (sym same) ∙ c.2 }))
    (λ t k j. let tags = before_tags how (unsourced e) at t k in
    let c = nested_cause s.open_tags (unsourced e) x (ap (λ os. nested os (unsourced e)) (sym tags) ∙ joins_cause e t x j) in
    WrongEnd (record { end = c.0; is = sym same ∙ c.1; wrong = c.2; error_is = c.3 }))

step_cause : (how : Rendering) (source : List ℕ) (pair : Pair) (s : Standing) (x : Error) → (step how source pair s).outcome ≡ Err x → Cause how source s pair x
unfolding step
step_cause how source (e, range) s x h = go (resolved_at source s.range_end e range) refl h
  where
    go : (r : Result (SourcedEvent × ℕ) Error) → resolved_at source s.range_end e range ≡ r → (advance_with how s r).outcome ≡ Err x → Cause how source s (e, range) x
    go (Ok y) k j = advance_cause how source (e, range) y.0 s y.1 x (resolved_event source s.range_end e range y k) j
    go (Err y) k j = BadRange (resolved_cause source s.range_end e range x (k ∙ ap (λ z. Err z) (same_error y x (advance_with how s (Err y)).outcome refl j)))

-- a walk that is refused has a first pair at which it is
pub walk_cause : (how : Rendering) (source : List ℕ) (s : Standing) (p : List Pair) (x : Error) → (walk how source s p).outcome ≡ Err x → IsRefusedAtPair how source s p x
walk_cause how source s [] x h = absurd (cc)
walk_cause how source s (y ∷ ys) x h =
    go_err (step how source y s).texts (step how source y s).outcome (λ t. walk how source t ys) x h
    (λ k. record { before = []; pair = y; after = ys; is = refl; at = s; stands = refl; cause = step_cause how source y s x k })
    (λ t k j. let r = walk_cause how source t ys x j in
    record {
      before = y ∷ r.before;
      pair = r.pair;
      after = r.after;
      is = ap (λ zs. y ∷ zs) r.is;
      at = r.at;
      stands = ap (λ o. (go_on (step how source y s).texts o (λ u. walk how source u r.before)).outcome) k ∙ r.stands;
      cause = r.cause;
    })

-- an end that is refused has a container open, or a last unit that is refused
finished_cause : (how : Rendering) (s : Standing) (unit : List SourcedEvent) (x : Error) → s.pending ≡ unit → (finished how unit s.document).outcome ≡ Err x → HasRefusedLastUnit how s x
finished_cause how s [] x p h = absurd (cc)
finished_cause how s (e ∷ es) x p h = record { pending = λ n. cons_nil (sym p ∙ n); refused = ap (λ u. how.choice s.document u None) p ∙ go (how.choice s.document (e ∷ es) None) h }
  where
    cons_nil : e ∷ es ≡ [] → ⊥
    cons_nil n = cc

    go : (r : Result (List ℕ × Kept) Error) → (finished_of how (e ∷ es) r).outcome ≡ Err x → r ≡ Err x
    go (Ok y) k = absurd (cc)
    go (Err y) k = ap (λ z. Err z) (same_error y x (finished_of how (e ∷ es) (Err y)).outcome refl k)

ended_cause : (how : Rendering) (s : Standing) (x : Error) → (ended how s).outcome ≡ Err x → EndCause how s x
unfolding ended
ended_cause how s x h = go s.open_tags refl h
  where
    cons_nil : (o : TagEnd) (os : List TagEnd) → o ∷ os ≡ [] → ⊥
    cons_nil o os n = cc

    go : (os : List TagEnd) → s.open_tags ≡ os → (ended_at how os s).outcome ≡ Err x → EndCause how s x
    go [] k j = RefusedLastUnit (finished_cause how s s.pending x refl j)
    go (o ∷ os) k j = OpenContainer (record { opened = λ n. cons_nil o os (sym k ∙ n); error_is = cc })

pub script_cause : (how : Rendering) (source : List ℕ) (s : Standing) (p : List Pair) (x : Error) → (script how source s p).outcome ≡ Err x → IsRefusedIn how source s p x
script_cause how source s p x h =
    go_err (walk how source s p).texts (walk how source s p).outcome (λ t. ended how t) x h
    (λ k. AtPair (walk_cause how source s p x k))
    (λ t k j. AtEnd (record { at = t; stands = k; cause = ended_cause how t x j }))

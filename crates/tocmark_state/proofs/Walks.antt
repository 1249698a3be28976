-- Laws of `go_on`, of what a call did with a writer, and of the steps of a walk.
use Rattle.std.proofs.Common.{◌≡◌, ℕ, Bool, List, [], ◌∷◌, ◌++◌, Result, Ok, Err, Option, Some, None, true, false, refl, ap, sym, ◌∙◌, append_assoc, append-nil, arith, codes, drop, length, take, not, ◌==◌, ◌&&◌, sum_by, ◌+◌}
use Rattle.std.proofs.lemmas.List.{append-nil, length-append}
use Rattle.std.proofs.lemmas.Bool.{ne_eqb}
use Rattle.std.proofs.lemmas.Bool.Decides.{nat_tests}
use Rattle.std.specs.List.{FoldsTo}
use Rattle.tocmark_event.specs.View.{EventView, SourcedEvent, unsourced}
use Rattle.tocmark_event.specs.declared.event.TagEnd.{TagEnd}
use Rattle.tocmark_event.specs.declared.options.Error.{Error}
use Rattle.tocmark_event.specs.declared.options.Error.TheVariants as error
use Rattle.tocmark_spelling.specs.Buffered.{sourced}
use Rattle.tocmark_event.specs.declared.event.flags.ParserOptions.{ParserOptions}
use Rattle.tocmark_write_labels.specs.Document.{DocumentView}
use Rattle.tocmark_write_labels.specs.Ending.{last_texts, leading_feeds, unless_empty, with_definitions_in_front}
use Rattle.tocmark_write_pending.specs.Pending.{PendingView, Joins, behind, nested}
use Rattle.tocmark_write_pending.proofs.Joined.{unsourced-sourced}
use Rattle.tocmark_choose.specs.TrialOf.{Refuses}
use Rattle.tocmark_choose.specs.DocumentOf.{Gives}
use Rattle.tocmark_state.specs.WorkView.{Answers, keeping}
use Rattle.tocmark_state.specs.Ranges.{Pair, resolved, unranged}
use Rattle.tocmark_state.specs.Walk.{done, Kept, Rendering, Standing, Walk, go_on, stay, refuse, handed_text, hand_walk, finished, finished_of, last_choice, last_walk, two_texts, with_event, joins, flush_of, flushed, is_due, is_whole, flushed_before, advance, step, walk, ended_at, ended}
use Rattle.tocmark_state.specs.Writes.{Makes, RefusesAt}

ok_err : {A : Type 0} (s : A) (e : Error) → Ok s ≡ Err e → ⊥
ok_err s e h = cc

err_same : {A S : Type 0} (x e : Error) (a : Result A Error) (b : Result S Error) → a ≡ Err x → a ≡ Err e → b ≡ Err x → b ≡ Err e
err_same x e a b h k l = cc

pub handed_text-nonempty : (t : List ℕ) → (length t == 0) ≡ false → handed_text t ≡ t ∷ []
handed_text-nonempty [] h = cc
handed_text-nonempty (b ∷ bs) h = refl

pub sum_by-handed_text : (t : List ℕ) → sum_by length (handed_text t) ≡ length t
sum_by-handed_text [] = refl
sum_by-handed_text (b ∷ bs) = omega arith

pub FoldsTo-append : {P A : Type 0} (R : P → A → P → Type 0) (p : P) (xs ys : List A) (q r : P) → FoldsTo R p xs q → FoldsTo R q ys r → FoldsTo R p (xs ++ ys) r
FoldsTo-append R p [] ys q r e h = rw e h
FoldsTo-append R p (x ∷ xs) ys q r (j, s, t) h = (j, s, FoldsTo-append R j xs ys q r t h)

-- what a call makes after another one that succeeded
pub Makes-then : {W X A S : Type 0} (gives refuses : W → List ℕ → W → Type 0) (w v u : W) (r : Result X Error) (t : S) (s : A) (ts : List (List ℕ)) (f : A → Walk S) → FoldsTo gives w ts v → Makes gives refuses v u r t (f s) → Makes gives refuses w u r t (go_on ts (Ok s) f)
Makes-then gives refuses w v u (Ok x) t s ts f h m = (m.0, FoldsTo-append gives w ts (f s).texts v u h m.1)
Makes-then gives refuses w v u (Err (error.FormatFailed e)) t s ts f h (front, at, rest, is, mid, folds, last) = (ts ++ front, at, rest, ap (λ xs. ts ++ xs) is ∙ sym (append_assoc ts front (at ∷ rest)), mid, FoldsTo-append gives w ts front v mid h folds, last)
Makes-then gives refuses w v u (Err error.OutOfMemory) t s ts f h (front, rest, is, folds) = (ts ++ front, rest, ap (λ xs. ts ++ xs) is ∙ sym (append_assoc ts front rest), FoldsTo-append gives w ts front v u h folds)
Makes-then gives refuses w v u (Err e) t s ts f h m = (m.0, FoldsTo-append gives w ts (f s).texts v u h m.1)

-- what a call that was refused makes of a longer walk
pub RefusesAt-longer : {W A S : Type 0} (gives refuses : W → List ℕ → W → Type 0) (w u : W) (e : Error) (ts : List (List ℕ)) (o : Result A Error) (f : A → Walk S) → RefusesAt gives refuses w u e (record { texts = ts; outcome = o }) → RefusesAt gives refuses w u e (go_on ts o f)
RefusesAt-longer gives refuses w u (error.FormatFailed e) ts (Err x) f m = m
RefusesAt-longer gives refuses w u (error.FormatFailed e) ts (Ok s) f (front, at, rest, is, mid, folds, last) = (front, at, rest ++ (f s).texts, ap (λ xs. xs ++ (f s).texts) is ∙ append_assoc front (at ∷ rest) (f s).texts, mid, folds, last)
RefusesAt-longer gives refuses w u error.OutOfMemory ts (Err x) f m = m
RefusesAt-longer gives refuses w u error.OutOfMemory ts (Ok s) f (front, rest, is, folds) = (front, rest ++ (f s).texts, ap (λ xs. xs ++ (f s).texts) is ∙ append_assoc front rest (f s).texts, folds)
RefusesAt-longer gives refuses w u e ts (Err x) f m = (err_same x e (Err x) (Err x) refl m.0 refl, m.1)
RefusesAt-longer gives refuses w u e ts (Ok s) f m = absurd (ok_err s e m.0)

-- a walk that hands one text, which leaves another standing
pub Makes-at : {W X S : Type 0} (gives refuses : W → List ℕ → W → Type 0) (w v : W) (r : Result X Error) (t : List ℕ) (s : S) → Makes gives refuses w v r done (hand_walk t done) → Makes gives refuses w v r s (hand_walk t s)
Makes-at gives refuses w v (Ok x) t s m = (refl, m.1)
Makes-at gives refuses w v (Err (error.FormatFailed f)) t s m = m
Makes-at gives refuses w v (Err error.OutOfMemory) t s m = m
Makes-at gives refuses w v (Err e) t s m = absurd (ok_err done e m.0)

-- an error of a part is one of the whole
pub Refuses-from : {X Y : Type 0} (e : Error) (a : Result X Error) (b : Result Y Error) → ((x : Error) → a ≡ Err x → b ≡ Err x) → Refuses e a → Refuses e b
Refuses-from (error.FormatFailed f) a b k h = h
Refuses-from error.OutOfMemory a b k h = tt
Refuses-from e a b k h = k e h

-- an error of a call that handed nothing
pub RefusesAt-quiet : {W S : Type 0} (gives refuses : W → List ℕ → W → Type 0) (w : W) (e : Error) (walk : Walk S) → walk.texts ≡ [] → Refuses e walk.outcome → RefusesAt gives refuses w w e walk
RefusesAt-quiet gives refuses w (error.FormatFailed e) walk n h = absurd h
RefusesAt-quiet gives refuses w error.OutOfMemory walk n h = ([], walk.texts, refl, refl)
RefusesAt-quiet gives refuses w e walk n h = (h, rw n refl)

pub joins_ok : (e : SourcedEvent) (s : Standing) (os : List TagEnd) → nested s.open_tags (unsourced e) ≡ Ok os → joins e s ≡ stay (record s { pending = s.pending ++ e ∷ []; open_tags = os })
unfolding joins
joins_ok e s os h = rw h refl

pub joins_err : (e : SourcedEvent) (s : Standing) (x : Error) → nested s.open_tags (unsourced e) ≡ Err x → joins e s ≡ refuse x
unfolding joins
joins_err e s x h = rw h refl

-- a standing with these events pending
abbrev with_pending : Standing → PendingView → Standing
with_pending s p = record s { pending = p.events; open_tags = p.open_tags }

ok_same : (a b : PendingView) (r : Result PendingView Error) → r ≡ Ok a → r ≡ Ok b → a ≡ b
ok_same a b r h k = cc

-- what a call made of the events that are pending, it made of the standing
pub joins_as : {X : Type 0} (r : Result X Error) (e : SourcedEvent) (s : Standing) (old new : PendingView) → Joins old e r new → Answers r (with_pending s new) (joins e (with_pending s old)).outcome
unfolding joins
joins_as (Ok x) e s old new h = added (nested old.open_tags (unsourced e)) h
  where
    added : (n : Result (List TagEnd) Error) → behind old e n ≡ Ok new → (with_event (with_pending s old) e n).outcome ≡ Ok (with_pending s new)
    added (Ok os) h = ap (λ (p : PendingView). Ok (with_pending s p)) (ok_same (record { events = old.events ++ e ∷ []; open_tags = os }) new (behind old e (Ok os)) refl h)
    added (Err y) h = absurd (cc)
joins_as (Err error.UnexpectedEvent) e s old new h = refused (nested old.open_tags (unsourced e)) h.0
  where
    refused : (n : Result (List TagEnd) Error) → behind old e n ≡ Err error.UnexpectedEvent → (with_event (with_pending s old) e n).outcome ≡ Err error.UnexpectedEvent
    refused (Ok os) h = absurd (cc)
    refused (Err y) h = err_same y error.UnexpectedEvent (behind old e (Err y)) (with_event (with_pending s old) e (Err y)).outcome refl h refl
joins_as (Err error.OutOfMemory) e s old new h = tt
joins_as (Err y) e s old new h = absurd h

pub joins_texts : (e : SourcedEvent) (s : Standing) → (joins e s).texts ≡ []
unfolding joins
joins_texts e s = go (nested s.open_tags (unsourced e))
  where
    go : (r : Result (List TagEnd) Error) → (with_event s e r).texts ≡ []
    go (Ok os) = refl
    go (Err x) = refl

pub flushed_is : (how : Rendering) (next : Option EventView) (s : Standing) → flushed how next s ≡ flush_of s (how.choice s.document s.pending next)
unfolding flushed
flushed_is how next s = refl

pub flushed_ok : (how : Rendering) (next : Option EventView) (s : Standing) (x : List ℕ × Kept) → how.choice s.document s.pending next ≡ Ok x → flushed how next s ≡ hand_walk x.0 (record s { pending = []; document = x.1 })
unfolding flushed
flushed_ok how next s x h = rw h refl

pub flushed_err : (how : Rendering) (next : Option EventView) (s : Standing) (x : Error) → how.choice s.document s.pending next ≡ Err x → flushed how next s ≡ refuse x
unfolding flushed
flushed_err how next s x h = rw h refl

pub flushed_refused : {W : Type 0} (gives refuses : W → List ℕ → W → Type 0) (w : W) (how : Rendering) (next : Option EventView) (s : Standing) (e : Error) → Refuses e (how.choice s.document s.pending next) → RefusesAt gives refuses w w e (flushed how next s)
flushed_refused gives refuses w how next s (error.FormatFailed f) h = absurd h
flushed_refused gives refuses w how next s error.OutOfMemory h = ([], (flushed how next s).texts, refl, refl)
flushed_refused gives refuses w how next s e h = rw (flushed_err how next s e h) (refl, refl)

whole_closed : (os : List TagEnd) (es : List SourcedEvent) → is_whole os es ≡ true → os ≡ []
whole_closed [] es h = refl
whole_closed (o ∷ os) es h = absurd (cc)

and_right : (a b : Bool) → a && b ≡ true → b ≡ true
and_right true b h = h
and_right false b h = absurd (cc)

-- in a unit that is due no container is open
pub due_closed : (s : Standing) → is_due s ≡ true → s.open_tags ≡ []
due_closed s h = whole_closed s.open_tags s.pending (and_right (not s.is_deferred) (is_whole s.open_tags s.pending) h)

pub before_not_due : (how : Rendering) (e : EventView) (s : Standing) → is_due s ≡ false → flushed_before how e s ≡ stay s
unfolding flushed_before
before_not_due how e s h = rw h refl

pub before_waiting : (how : Rendering) (e : EventView) (s : Standing) → is_due s ≡ true → how.waits s.pending ≡ true → flushed_before how e s ≡ stay (record s { is_deferred = true })
unfolding flushed_before
before_waiting how e s h k = rw (h, k) refl

pub before_due : (how : Rendering) (e : EventView) (s : Standing) → is_due s ≡ true → how.waits s.pending ≡ false → flushed_before how e s ≡ flushed how (Some e) s
unfolding flushed_before
before_due how e s h k = rw (h, k) refl

pub advance_is : (how : Rendering) (e : SourcedEvent) (s : Standing) → advance how e s ≡ go_on (flushed_before how (unsourced e) s).texts (flushed_before how (unsourced e) s).outcome (λ t. joins e t)
unfolding advance
advance_is how e s = refl

pub advance_sourced : (how : Rendering) (e : EventView) (source : Option (List ℕ)) (s : Standing) → advance how (sourced e source) s ≡ go_on (flushed_before how e s).texts (flushed_before how e s).outcome (λ t. joins (sourced e source) t)
advance_sourced how e source s = advance_is how (sourced e source) s ∙ ap (λ u. go_on (flushed_before how u s).texts (flushed_before how u s).outcome (λ t. joins (sourced e source) t)) (unsourced-sourced e source)

-- a step whose flush succeeded
pub advance_after : (how : Rendering) (e : EventView) (source : Option (List ℕ)) (s t : Standing) → (flushed_before how e s).outcome ≡ Ok t → advance how (sourced e source) s ≡ go_on (flushed_before how e s).texts (Ok t) (λ u. joins (sourced e source) u)
advance_after how e source s t h = advance_sourced how e source s ∙ ap (λ o. go_on (flushed_before how e s).texts o (λ u. joins (sourced e source) u)) h

pub advance_texts : (how : Rendering) (e : EventView) (source : Option (List ℕ)) (s t : Standing) → (flushed_before how e s).outcome ≡ Ok t → (advance how (sourced e source) s).texts ≡ (flushed_before how e s).texts
advance_texts how e source s t h = ap (λ (w : Walk Standing). w.texts) (advance_after how e source s t h) ∙ (ap (λ ts. (flushed_before how e s).texts ++ ts) (joins_texts (sourced e source) t) ∙ append-nil (flushed_before how e s).texts)

-- a step whose range is good
pub step_ok : (how : Rendering) (source : List ℕ) (x : Pair) (s : Standing) (e : SourcedEvent) (n : ℕ) → resolved source s.range_end x ≡ Ok (e, n) → step how source x s ≡ advance how e (record s { range_end = n })
unfolding step
step_ok how source x s e n h = rw h refl

step_err : (how : Rendering) (source : List ℕ) (x : Pair) (s : Standing) (e : Error) → resolved source s.range_end x ≡ Err e → step how source x s ≡ refuse e
unfolding step
step_err how source x s e h = rw h refl

-- a step whose range is refused
pub step_refused : {W : Type 0} (gives refuses : W → List ℕ → W → Type 0) (w : W) (how : Rendering) (source : List ℕ) (x : Pair) (s : Standing) (e : Error) → Refuses e (resolved source s.range_end x) → RefusesAt gives refuses w w e (step how source x s)
step_refused gives refuses w how source x s (error.FormatFailed f) h = absurd h
step_refused gives refuses w how source x s error.OutOfMemory h = ([], (step how source x s).texts, refl, refl)
step_refused gives refuses w how source x s e h = rw (step_err how source x s e h) (refl, refl)

-- without a range a step is that of the event
pub step_unranged : (how : Rendering) (source : List ℕ) (e : EventView) (s : Standing) → step how source (unranged e) s ≡ advance how (sourced e None) s
unfolding step
step_unranged how source e s = refl

abbrev pub prefixed : {S : Type 0} → List (List ℕ) → Walk S → Walk S
prefixed ts w = record { texts = ts ++ w.texts; outcome = w.outcome }

pub go_on-assoc : {A S : Type 0} (ts us : List (List ℕ)) (o : Result A Error) (f : A → Walk S) → prefixed ts (go_on us o f) ≡ go_on (ts ++ us) o f
go_on-assoc ts us (Ok s) f = ap (λ xs. record { texts = xs; outcome = (f s).outcome }) (sym (append_assoc ts us (f s).texts))
go_on-assoc ts us (Err e) f = refl

-- a longer list goes on where a shorter one is
pub walk-append : (how : Rendering) (source : List ℕ) (s : Standing) (xs ys : List Pair) → walk how source s (xs ++ ys) ≡ go_on (walk how source s xs).texts (walk how source s xs).outcome (λ t. walk how source t ys)
walk-append how source s [] ys = refl
walk-append how source s (x ∷ xs) ys = go (λ t. walk-append how source t xs ys) (step how source x s).texts (step how source x s).outcome
  where
    go : ((t : Standing) → walk how source t (xs ++ ys) ≡ go_on (walk how source t xs).texts (walk how source t xs).outcome (λ u. walk how source u ys)) → (ts : List (List ℕ)) (o : Result Standing Error) → go_on ts o (λ t. walk how source t (xs ++ ys)) ≡ go_on (go_on ts o (λ t. walk how source t xs)).texts (go_on ts o (λ t. walk how source t xs)).outcome (λ t. walk how source t ys)
    go again ts (Ok t) = ap (prefixed ts) (again t) ∙ go_on-assoc ts (walk how source t xs).texts (walk how source t xs).outcome (λ u. walk how source u ys)
    go again ts (Err e) = refl

pub walk_after : (how : Rendering) (source : List ℕ) (s t : Standing) (xs ys : List Pair) → (walk how source s xs).outcome ≡ Ok t → walk how source s (xs ++ ys) ≡ go_on (walk how source s xs).texts (Ok t) (λ u. walk how source u ys)
walk_after how source s t xs ys h = walk-append how source s xs ys ∙ ap (λ o. go_on (walk how source s xs).texts o (λ u. walk how source u ys)) h

go_on-stay : {S : Type 0} (ts : List (List ℕ)) (o : Result S Error) → go_on ts o (λ t. stay t) ≡ record { texts = ts; outcome = o }
go_on-stay ts (Ok t) = ap (λ xs. record { texts = xs; outcome = Ok t }) (append-nil ts)
go_on-stay ts (Err x) = refl

pub walk_one : (how : Rendering) (source : List ℕ) (s : Standing) (x : Pair) → walk how source s (x ∷ []) ≡ step how source x s
walk_one how source s x = go_on-stay (step how source x s).texts (step how source x s).outcome

pub walk_more : (how : Rendering) (source : List ℕ) (s t : Standing) (xs : List Pair) (x : Pair) → (walk how source s xs).outcome ≡ Ok t → walk how source s (xs ++ x ∷ []) ≡ go_on (walk how source s xs).texts (Ok t) (λ u. step how source x u)
walk_more how source s t xs x h = walk_after how source s t xs (x ∷ []) h ∙ ap (prefixed (walk how source s xs).texts) (walk_one how source t x)

-- one more call of a loop
pub Makes-more : {W X : Type 0} (gives refuses : W → List ℕ → W → Type 0) (w v u : W) (r : Result X Error) (t' : Standing) (how : Rendering) (source : List ℕ) (s t : Standing) (xs : List Pair) (x : Pair) → (walk how source s xs).outcome ≡ Ok t → FoldsTo gives w (walk how source s xs).texts v → Makes gives refuses v u r t' (step how source x t) → Makes gives refuses w u r t' (walk how source s (xs ++ x ∷ []))
Makes-more gives refuses w v u r t' how source s t xs x h folds m = rw (walk_more how source s t xs x h) (Makes-then gives refuses w v u r t' t (walk how source s xs).texts (λ y. step how source x y) folds m)

ended-at_open : (how : Rendering) (os : List TagEnd) (s : Standing) → (length os == 0) ≡ false → ended_at how os s ≡ refuse error.UnexpectedEvent
ended-at_open how [] s h = cc
ended-at_open how (o ∷ os) s h = refl

ended-at_closed : (how : Rendering) (os : List TagEnd) (s : Standing) → (length os == 0) ≡ true → ended_at how os s ≡ ended_at how [] s
ended-at_closed how [] s h = refl
ended-at_closed how (o ∷ os) s h = absurd (grind (arith, nat_tests))

pub ended_open : (how : Rendering) (s : Standing) → (length s.open_tags == 0) ≡ false → ended how s ≡ refuse error.UnexpectedEvent
unfolding ended
ended_open how s h = ended-at_open how s.open_tags s h

none-before : (defs : List ℕ) → unless_empty defs ≡ last_texts false defs []
none-before [] = refl
none-before (b ∷ defs) = refl

finished-last : (how : Rendering) (unit : List SourcedEvent) (kept : Kept) → how.holds_raw [] ≡ false → finished how unit kept ≡ finished_of how unit (last_choice how kept unit)
finished-last how [] kept h =
    ap (λ (ts : List (List ℕ)). record { texts = ts; outcome = Ok done }) (none-before (how.definitions kept))
    ∙ ap (λ (b : Bool). last_walk b (how.definitions kept) []) (sym h)
finished-last how (e ∷ es) kept h = refl

-- the end, where no container is open, is that of the last unit
pub ended_closed : (how : Rendering) (s : Standing) → (length s.open_tags == 0) ≡ true → how.holds_raw [] ≡ false → ended how s ≡ finished_of how s.pending (last_choice how s.document s.pending)
unfolding ended
ended_closed how s h n = ended-at_closed how s.open_tags s h ∙ finished-last how s.pending s.document n

-- what is handed at the end is what is left there
pub ended_as : (how : Rendering) (s : Standing) (raw : Bool) (defs text whole : List ℕ) (kept : Kept) → (length s.open_tags == 0) ≡ true → how.holds_raw [] ≡ false
    → raw ≡ how.holds_raw s.pending → last_choice how s.document s.pending ≡ Ok (whole, kept) → defs ≡ how.definitions kept → text ≡ whole → last_walk raw defs text ≡ ended how s
ended_as how s raw defs text whole kept h n is_raw is_chosen are_left is_text =
    ap (λ (raw : Bool). last_walk raw defs text) is_raw
    ∙ ap (λ (defs : List ℕ). last_walk (how.holds_raw s.pending) defs text) are_left
    ∙ ap (λ (text : List ℕ). last_walk (how.holds_raw s.pending) (how.definitions kept) text) is_text
    ∙ sym (ended_closed how s h n ∙ ap (finished_of how s.pending) is_chosen)

-- the last unit is refused
pub last_refused : {W : Type 0} (gives refuses : W → List ℕ → W → Type 0) (w : W) (how : Rendering) (unit : List SourcedEvent) (e : Error) (r : Result (List ℕ × Kept) Error) → Refuses e r → RefusesAt gives refuses w w e (finished_of how unit r)
last_refused gives refuses w how unit (error.FormatFailed f) r h = absurd h
last_refused gives refuses w how unit error.OutOfMemory r h = ([], (finished_of how unit r).texts, refl, refl)
last_refused gives refuses w how unit e r h = rw h (refl, refl)

-- an error of the definitions is want of memory
pub Gives-refused : {W S : Type 0} (gives refuses : W → List ℕ → W → Type 0) (w : W) (e : Error) (t : List ℕ) (walk : Walk S) → Gives (Err e) t → RefusesAt gives refuses w w e walk
Gives-refused gives refuses w (error.FormatFailed f) t walk h = absurd h
Gives-refused gives refuses w error.OutOfMemory t walk h = ([], walk.texts, refl, refl)
Gives-refused gives refuses w e t walk h = absurd h

-- nothing is pending, or something is
module _ (how : Rendering) (kept : Kept) where
  pub choice_empty : (es : List SourcedEvent) → (length es == 0) ≡ true → last_choice how kept es ≡ Ok ([], kept)
  choice_empty [] h = refl
  choice_empty (e ∷ es) h = absurd (grind (arith, nat_tests))

  pub choice_some : (es : List SourcedEvent) → (length es == 0) ≡ false → last_choice how kept es ≡ how.choice kept es None
  choice_some [] h = cc
  choice_some (e ∷ es) h = refl

-- ---- the texts at the end

front-nonempty : (defs text : List ℕ) → (length (with_definitions_in_front defs text) == 0) ≡ false
front-nonempty defs text =
    let front = take (leading_feeds text) text ++ drop (leading_feeds defs) defs in
    let body = drop (leading_feeds text) text in
    let long = length-append (front ++ codes "\n\n") body ∙ ap (λ n. n + length body) (length-append front (codes "\n\n")) in
    ne_eqb (length (with_definitions_in_front defs text)) 0 (λ e. absurd (omega arith))

-- definitions in front
pub last-front : (raw : Bool) (defs text : List ℕ) → (raw && not (length defs == 0)) ≡ true → two_texts (with_definitions_in_front defs text) [] ≡ last_walk raw defs text
last-front false defs text h = cc
last-front true [] text h = cc
last-front true (b ∷ defs) text h =
    ap (λ (ts : List (List ℕ)). record { texts = ts; outcome = Ok done }) (append-nil _ ∙ handed_text-nonempty (with_definitions_in_front (b ∷ defs) text) (front-nonempty (b ∷ defs) text))

-- definitions after, if there are any
pub last-behind : (raw : Bool) (defs text : List ℕ) → (raw && not (length defs == 0)) ≡ false → two_texts text defs ≡ last_walk raw defs text
last-behind raw [] text h = ap (λ (ts : List (List ℕ)). record { texts = ts; outcome = Ok done }) (append-nil (handed_text text))
last-behind false (b ∷ defs) text h = refl
last-behind true (b ∷ defs) text h = absurd (grind (arith, nat_tests))

pub keeping_ok : (f f' : ParserOptions) (o : Result (List ℕ × DocumentView) Error) (t : List ℕ) (d : DocumentView) → f' ≡ f → o ≡ Ok (t, d) → keeping f o ≡ Ok (t, record { flags = f'; document = d })
keeping_ok f f' o t d h k = rw (h, k) refl

pub keeping_refused : (f : ParserOptions) (o : Result (List ℕ × DocumentView) Error) (e : Error) → Refuses e o → Refuses e (keeping f o)
keeping_refused f o e h = Refuses-from e o (keeping f o) (λ x k. rw k refl) h

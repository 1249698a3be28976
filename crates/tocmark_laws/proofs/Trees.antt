-- The walk over pairs, seen over trees.
use Rattle.std.proofs.Common.{◌≡◌, ℕ, List, [], ◌∷◌, ◌++◌, Option, Some, None, Result, Ok, Err, Bool, true, false, not, ◌&&◌, if◌then◌else◌, refl, ap, sym, ◌∙◌, append_assoc}
use Rattle.std.proofs.lemmas.List.{append-nil}
use Rattle.tocmark_event.specs.Ends.{same_end}
use Rattle.tocmark_event.specs.Forest.{Forest, empty, leaf, node, flat, flat_onto, joined}
use Rattle.tocmark_event.specs.View.{EventView, Start, End, Leaf, SourcedEvent, SourcedLeaf, TagView, unsourced, end_of}
use Rattle.tocmark_event.specs.declared.event.TagEnd.{TagEnd}
use Rattle.tocmark_event.specs.declared.options.Error.{Error}
use Rattle.tocmark_event.specs.declared.options.Error.TheVariants as error
use Rattle.tocmark_write_pending.specs.Pending.{closed, nested}
use Rattle.tocmark_write_pending.proofs.Balanced.{flat_onto-joined, same-is, same-self}
use Rattle.tocmark_state.specs.Ranges.{Pair, Range, is_good_range, range_end_after, resolved, resolved_at, source_text}
use Rattle.tocmark_spelling.specs.Buffered.{sourced}
use Rattle.tocmark_laws.specs.Trees.{Part, Trees, IsRefused, ends_innermost, deferred_unit, followed_unit, stop_at, unit_walk, walk_trees, ranged, with_first, part_onto, part_ends, end_ranged, then_ranged}
use Rattle.tocmark_state.specs.Walk.{Kept, Rendering, Standing, Walk, beginning, go_on, refuse, stay, joins, with_event, is_due, handed_text, flush_of, flushed, flushed_or_deferred, flushed_before, advance, advance_with, step, walk}
use Rattle.tocmark_state.proofs.Walks.{joins_ok, joins_err, before_not_due, before_waiting, before_due, flushed_is, advance_is, prefixed, go_on-assoc}

-- ---- a list of events is trees

-- an open container, and the trees on its left; innermost first
abbrev Opens : Type 0
Opens = List (TagView × Forest SourcedLeaf)

-- what was read, and then the rest
abbrev written : Opens → Forest SourcedLeaf → List SourcedEvent → List SourcedEvent
written [] f rest = flat_onto f rest
written (o ∷ os) f rest = written os o.1 (Start o.0 ∷ flat_onto f rest)

abbrev opens_ends : Opens → List TagEnd
opens_ends [] = []
opens_ends (o ∷ os) = end_of o.0 ∷ opens_ends os

-- more trees beside those that were read
written-joined : (os : Opens) (f g : Forest SourcedLeaf) (rest : List SourcedEvent) → written os (joined f g) rest ≡ written os f (flat_onto g rest)
written-joined [] f g rest = flat_onto-joined f g rest
written-joined (o ∷ os) f g rest = ap (λ es. written os o.1 (Start o.0 ∷ es)) (flat_onto-joined f g rest)

-- what was read as trees, from the outermost container on
unrolled : (os : Opens) (f : Forest SourcedLeaf) (part : Part) (refused : List SourcedEvent) (events : List SourcedEvent) → written os f (part_onto part refused) ≡ events → IsRefused refused (part_ends part (opens_ends os)) → Trees events
unrolled [] f part refused events h k = record { whole = f; part = part; refused = refused; are = h; wrong = k }
unrolled (o ∷ os) f part refused events h k = unrolled os o.1 ((o.0, f) ∷ part) refused events h k

-- every list of events is trees
read : (os : Opens) (f : Forest SourcedLeaf) (es events : List SourcedEvent) → written os f es ≡ events → Trees events
read os f [] events h = unrolled os f [] [] events h tt
read os f (Leaf l ∷ es) events h = read os (joined f (leaf l empty)) es events (written-joined os f (leaf l empty) es ∙ h)
read os f (Start t ∷ es) events h = read ((t, f) ∷ os) empty es events h
read [] f (End k ∷ es) events h = unrolled [] f [] (End k ∷ es) events h refl
read (o ∷ os) f (End k ∷ es) events h = go (same_end k (end_of o.0)) refl (λ g. read os g es events)
  where
    go : (b : Bool) → same_end k (end_of o.0) ≡ b → ((g : Forest SourcedLeaf) → written os g es ≡ events → Trees events) → Trees events
    go true e again = again (joined o.1 (node o.0 f empty)) (written-joined os o.1 (node o.0 f empty) es ∙ (ap (λ x. written os o.1 (Start o.0 ∷ flat_onto f (End x ∷ es))) (sym (same-is k (end_of o.0) e)) ∙ h))
    go false e again = unrolled (o ∷ os) f [] (End k ∷ es) events h e

pub trees_of : (events : List SourcedEvent) → Trees events
trees_of events = read [] empty events events refl

-- ---- the walk over events

abbrev pub advance_all : Rendering → Standing → List SourcedEvent → Walk Standing
advance_all how s [] = stay s
advance_all how s (e ∷ es) = go_on (advance how e s).texts (advance how e s).outcome (λ t. advance_all how t es)

advance_quiet : (how : Rendering) (e : SourcedEvent) (s : Standing) → is_due s ≡ false → advance how e s ≡ joins e s
advance_quiet how e s n = advance_is how e s ∙ ap (λ (w : Walk Standing). go_on w.texts w.outcome (λ t. joins e t)) (before_not_due how (unsourced e) s n)

-- an event joins what is pending, where that isn't due
step_joins : (how : Rendering) (e : SourcedEvent) (es : List SourcedEvent) (s : Standing) (os : List TagEnd) → is_due s ≡ false → nested s.open_tags (unsourced e) ≡ Ok os → advance_all how s (e ∷ es) ≡ advance_all how (record s { pending = s.pending ++ e ∷ []; open_tags = os }) es
step_joins how e es s os n h = ap (λ (w : Walk Standing). go_on w.texts w.outcome (λ t. advance_all how t es)) (advance_quiet how e s n ∙ joins_ok e s os h)

step_refused : (how : Rendering) (e : SourcedEvent) (es : List SourcedEvent) (s : Standing) (x : Error) → is_due s ≡ false → nested s.open_tags (unsourced e) ≡ Err x → advance_all how s (e ∷ es) ≡ refuse x
step_refused how e es s x n h = ap (λ (w : Walk Standing). go_on w.texts w.outcome (λ t. advance_all how t es)) (advance_quiet how e s n ∙ joins_err e s x h)

-- what is pending is not due, whatever joins it within whole trees
data Holds (s : Standing) : Type 0 where
  waiting : s.is_deferred ≡ true → Holds s
  within : (o : TagEnd) (os : List TagEnd) → s.open_tags ≡ o ∷ os → Holds s

and_false : (b : Bool) → b && false ≡ false
and_false true = refl
and_false false = refl

not_due : (s : Standing) → Holds s → is_due s ≡ false
not_due s (waiting h) = rw h refl
not_due s (within o os h) = rw h (and_false (not s.is_deferred))

holds_as : (s t : Standing) → t.is_deferred ≡ s.is_deferred → t.open_tags ≡ s.open_tags → Holds s → Holds t
holds_as s t d o (waiting h) = waiting (d ∙ h)
holds_as s t d o (within x xs h) = within x xs (o ∙ h)

flat_onto-append : (f : Forest SourcedLeaf) (xs ys : List SourcedEvent) → flat_onto f (xs ++ ys) ≡ flat_onto f xs ++ ys
flat_onto-append empty xs ys = refl
flat_onto-append (leaf l f) xs ys = ap (λ es. Leaf l ∷ es) (flat_onto-append f xs ys)
flat_onto-append (node t kids f) xs ys =
    ap (λ es. Start t ∷ flat_onto kids (End (end_of t) ∷ es)) (flat_onto-append f xs ys)
    ∙ ap (λ es. Start t ∷ es) (flat_onto-append kids (End (end_of t) ∷ flat_onto f xs) ys)

-- the events of a forest, in front of others
flat_front : (f : Forest SourcedLeaf) (xs : List SourcedEvent) → flat f ++ xs ≡ flat_onto f xs
flat_front f xs = sym (flat_onto-append f [] xs)

abbrev added : Standing → List SourcedEvent → Standing
added s es = record s { pending = s.pending ++ es }

abbrev standing : List SourcedEvent → List TagEnd → Standing → Standing
standing pending os s = record s { pending = pending; open_tags = os }

-- a tree's events after what is pending
regroup : (p : List SourcedEvent) (a : SourcedEvent) (kids : Forest SourcedLeaf) (b : SourcedEvent) (f : Forest SourcedLeaf) → (((p ++ a ∷ []) ++ flat kids) ++ b ∷ []) ++ flat f ≡ p ++ (a ∷ flat_onto kids (b ∷ flat f))
regroup p a kids b f =
    let k : (((p ++ a ∷ []) ++ flat kids) ++ b ∷ []) ++ flat f ≡ p ++ (a ∷ (flat kids ++ (b ∷ flat f))) = simp append_assoc in
    k ∙ ap (λ es. p ++ (a ∷ es)) (flat_front kids (b ∷ flat f))

-- where nothing is due trees are pending whole
walk_within : (how : Rendering) (f : Forest SourcedLeaf) (s : Standing) → Holds s → (rest : List SourcedEvent) → advance_all how s (flat_onto f rest) ≡ advance_all how (added s (flat f)) rest
walk_within how empty s h rest = ap (λ q. advance_all how (standing q s.open_tags s) rest) (sym (append-nil s.pending))
walk_within how (leaf l f) s h rest =
    step_joins how (Leaf l) (flat_onto f rest) s s.open_tags (not_due s h) refl
    ∙ (walk_within how f (added s (Leaf l ∷ [])) (holds_as s (added s (Leaf l ∷ [])) refl refl h) rest
    ∙ ap (λ q. advance_all how (standing q s.open_tags s) rest) (append_assoc s.pending (Leaf l ∷ []) (flat f)))
walk_within how (node t kids f) s h rest =
    let x = end_of t in
    let p1 = s.pending ++ Start t ∷ [] in
    let s1 = standing p1 (x ∷ s.open_tags) s in
    let s2 = added s1 (flat kids) in
    let s3 = standing ((p1 ++ flat kids) ++ End x ∷ []) s.open_tags s in
    step_joins how (Start t) (flat_onto kids (End x ∷ flat_onto f rest)) s (x ∷ s.open_tags) (not_due s h) refl
    ∙ (walk_within how kids s1 (within x s.open_tags refl) (End x ∷ flat_onto f rest)
    ∙ (step_joins how (End x) (flat_onto f rest) s2 s.open_tags (not_due s2 (within x s.open_tags refl)) (rw (same-self x) refl)
    ∙ (walk_within how f s3 (holds_as s s3 refl refl h) rest
    ∙ ap (λ q. advance_all how (standing q s.open_tags s) rest) (regroup s.pending (Start t) kids (End x) f))))

closed_wrong : (os : List TagEnd) (k : TagEnd) → ends_innermost k os ≡ false → closed os k ≡ Err error.UnexpectedEvent
closed_wrong [] k h = refl
closed_wrong (o ∷ os) k h = rw h refl

-- what is left where the trees end
walk_refused : (how : Rendering) (refused : List SourcedEvent) (s : Standing) → is_due s ≡ false → IsRefused refused s.open_tags → advance_all how s refused ≡ stop_at refused s
walk_refused how [] s n h = refl
walk_refused how (End k ∷ rest) s n h = step_refused how (End k) rest s error.UnexpectedEvent n (closed_wrong s.open_tags k h)
walk_refused how (Start t ∷ rest) s n h = absurd h
walk_refused how (Leaf l ∷ rest) s n h = absurd h

-- a tree that isn't whole is pending
walk_part : (how : Rendering) (part : Part) (refused : List SourcedEvent) (s : Standing) → is_due s ≡ false → IsRefused refused (part_ends part s.open_tags) → advance_all how s (part_onto part refused) ≡ stop_at refused (standing (s.pending ++ part_onto part []) (part_ends part s.open_tags) s)
walk_part how [] refused s n h = walk_refused how refused s n h ∙ ap (λ q. stop_at refused (standing q s.open_tags s)) (sym (append-nil s.pending))
walk_part how (x ∷ xs) refused s n h =
    let k = end_of x.0 in
    let p1 = s.pending ++ Start x.0 ∷ [] in
    let s1 = standing p1 (k ∷ s.open_tags) s in
    let s2 = added s1 (flat x.1) in
    step_joins how (Start x.0) (flat_onto x.1 (part_onto xs refused)) s (k ∷ s.open_tags) n refl
    ∙ (walk_within how x.1 s1 (within k s.open_tags refl) (part_onto xs refused)
    ∙ (walk_part how xs refused s2 (not_due s2 (within k s.open_tags refl)) h
    ∙ ap (λ q. stop_at refused (standing q (part_ends xs (k ∷ s.open_tags)) s))
    (append_assoc p1 (flat x.1) (part_onto xs []) ∙ (append_assoc s.pending (Start x.0 ∷ []) (flat x.1 ++ part_onto xs []) ∙ ap (λ es. s.pending ++ (Start x.0 ∷ es)) (flat_front x.1 (part_onto xs []))))))

abbrev unit_at : Kept → List SourcedEvent → Standing
unit_at kept unit = record (beginning kept) { pending = unit }

-- a unit that waits is joined by all that follows
walk_deferred : (how : Rendering) (kept : Kept) (unit : List SourcedEvent) (f : Forest SourcedLeaf) (part : Part) (refused : List SourcedEvent) → IsRefused refused (part_ends part []) → advance_all how (record (unit_at kept unit) { is_deferred = true }) (flat_onto f (part_onto part refused)) ≡ deferred_unit kept (unit ++ flat_onto f (part_onto part [])) part refused
walk_deferred how kept unit f part refused h =
    let s = record (unit_at kept unit) { is_deferred = true } in
    walk_within how f s (waiting refl) (part_onto part refused)
    ∙ (walk_part how part refused (added s (flat f)) refl h
    ∙ ap (λ q. stop_at refused (standing q (part_ends part []) s)) (append_assoc unit (flat f) (part_onto part []) ∙ ap (λ es. unit ++ es) (flat_front f (part_onto part []))))

-- what a flush at top level leaves
flush_same : (kept : Kept) (unit : List SourcedEvent) (r : Result (List ℕ × Kept) Error) → flush_of (unit_at kept unit) r ≡ flush_of (beginning kept) r
flush_same kept unit (Ok x) = refl
flush_same kept unit (Err e) = refl

flush_then : (how : Rendering) (kept : Kept) (unit : List SourcedEvent) (e : SourcedEvent) (rest : List SourcedEvent) (r : Result (List ℕ × Kept) Error) (go : Kept → Walk Standing) → ((k : Kept) → advance_all how (beginning k) (e ∷ rest) ≡ go k)
    → go_on (go_on (flush_of (unit_at kept unit) r).texts (flush_of (unit_at kept unit) r).outcome (λ t. joins e t)).texts (go_on (flush_of (unit_at kept unit) r).texts (flush_of (unit_at kept unit) r).outcome (λ t. joins e t)).outcome (λ t. advance_all how t rest)
    ≡ go_on (flush_of (beginning kept) r).texts (flush_of (beginning kept) r).outcome (λ s. go s.document)
flush_then how kept unit e rest (Ok x) go again =
    sym (go_on-assoc (handed_text x.0) (joins e (beginning x.1)).texts (joins e (beginning x.1)).outcome (λ t. advance_all how t rest))
    ∙ ap (prefixed (handed_text x.0)) (ap (λ (w : Walk Standing). go_on w.texts w.outcome (λ t. advance_all how t rest)) (sym (advance_quiet how e (beginning x.1) refl)) ∙ again x.1)
flush_then how kept unit e rest (Err x) go again = refl

-- a unit at top level, and all that follows it
walk_unit : (how : Rendering) (kept : Kept) (e : SourcedEvent) (es : List SourcedEvent) (rest : List SourcedEvent) (deferred : Walk Standing) (go : Kept → Walk Standing)
    → advance_all how (record (unit_at kept (e ∷ es)) { is_deferred = true }) rest ≡ deferred
    → ((k : Kept) → advance_all how (beginning k) rest ≡ go k)
    → advance_all how (unit_at kept (e ∷ es)) rest ≡ unit_walk how kept (e ∷ es) rest deferred go
walk_unit how kept e es [] deferred go w again = refl
walk_unit how kept e es (x ∷ rest) deferred go w again = cases (how.waits (e ∷ es)) refl
  where
    cases : (b : Bool) → how.waits (e ∷ es) ≡ b → advance_all how (unit_at kept (e ∷ es)) (x ∷ rest) ≡ followed_unit how b kept (e ∷ es) (unsourced x) deferred go
    cases true h =
        ap (λ (v : Walk Standing). go_on v.texts v.outcome (λ t. advance_all how t rest))
        (advance_is how x (unit_at kept (e ∷ es))
        ∙ (ap (λ (v : Walk Standing). go_on v.texts v.outcome (λ t. joins x t)) (before_waiting how (unsourced x) (unit_at kept (e ∷ es)) refl h)
        ∙ sym (advance_quiet how x (record (unit_at kept (e ∷ es)) { is_deferred = true }) refl)))
        ∙ w
    cases false h =
        ap (λ (v : Walk Standing). go_on v.texts v.outcome (λ t. advance_all how t rest))
        (advance_is how x (unit_at kept (e ∷ es))
        ∙ ap (λ (v : Walk Standing). go_on v.texts v.outcome (λ t. joins x t)) (before_due how (unsourced x) (unit_at kept (e ∷ es)) refl h ∙ flushed_is how (Some (unsourced x)) (unit_at kept (e ∷ es))))
        ∙ flush_then how kept (e ∷ es) x rest (how.choice kept (e ∷ es) (Some (unsourced x))) go again

-- the walk over events is that over their trees
walk_events : (how : Rendering) (kept : Kept) (f : Forest SourcedLeaf) (part : Part) (refused : List SourcedEvent) → IsRefused refused (part_ends part []) → advance_all how (beginning kept) (flat_onto f (part_onto part refused)) ≡ walk_trees how kept f part refused
walk_events how kept empty part refused h = walk_part how part refused (beginning kept) refl h
walk_events how kept (leaf l f) part refused h =
    step_joins how (Leaf l) (flat_onto f (part_onto part refused)) (beginning kept) [] refl refl
    ∙ walk_unit how kept (Leaf l) [] (flat_onto f (part_onto part refused)) (deferred_unit kept (Leaf l ∷ flat_onto f (part_onto part [])) part refused) (λ k. walk_trees how k f part refused)
    (walk_deferred how kept (Leaf l ∷ []) f part refused h) (λ k. walk_events how k f part refused h)
walk_events how kept (node t kids f) part refused h =
    let x = end_of t in
    let rest = flat_onto f (part_onto part refused) in
    let s1 = standing (Start t ∷ []) (x ∷ []) (beginning kept) in
    let s2 = added s1 (flat kids) in
    let u : (Start t ∷ flat kids) ++ End x ∷ [] ≡ Start t ∷ flat_onto kids (End x ∷ []) = ap (λ es. Start t ∷ es) (flat_front kids (End x ∷ [])) in
    step_joins how (Start t) (flat_onto kids (End x ∷ rest)) (beginning kept) (x ∷ []) refl refl
    ∙ (walk_within how kids s1 (within x [] refl) (End x ∷ rest)
    ∙ (step_joins how (End x) rest s2 [] (not_due s2 (within x [] refl)) (rw (same-self x) refl)
    ∙ (ap (λ es. advance_all how (unit_at kept es) rest) u
    ∙ walk_unit how kept (Start t) (flat_onto kids (End x ∷ [])) rest (deferred_unit kept (Start t ∷ flat_onto kids (End x ∷ flat_onto f (part_onto part []))) part refused) (λ k. walk_trees how k f part refused)
    (walk_deferred how kept (Start t ∷ flat_onto kids (End x ∷ [])) f part refused h
    ∙ ap (λ es. deferred_unit kept (Start t ∷ es) part refused) (sym (flat_onto-append kids (End x ∷ []) (flat_onto f (part_onto part [])))))
    (λ k. walk_events how k f part refused h))))

-- ---- ranges

abbrev at : ℕ → Standing → Standing
at n s = record s { range_end = n }

abbrev moved_outcome : ℕ → Result Standing Error → Result Standing Error
moved_outcome n (Ok s) = Ok (at n s)
moved_outcome n (Err e) = Err e

abbrev moved : ℕ → Walk Standing → Walk Standing
moved n w = record { texts = w.texts; outcome = moved_outcome n w.outcome }

flush_of-at : (n : ℕ) (s : Standing) (r : Result (List ℕ × Kept) Error) → flush_of (at n s) r ≡ moved n (flush_of s r)
flush_of-at n s (Ok x) = refl
flush_of-at n s (Err e) = refl

flushed_before-at : (how : Rendering) (n : ℕ) (e : EventView) (s : Standing) → flushed_before how e (at n s) ≡ moved n (flushed_before how e s)
unfolding flushed_before flushed
flushed_before-at how n e s = go (is_due s) (how.waits s.pending)
  where
    go : (b w : Bool) → (if b then flushed_or_deferred how w e (at n s) else stay (at n s)) ≡ moved n (if b then flushed_or_deferred how w e s else stay s)
    go true true = refl
    go true false = flush_of-at n s (how.choice s.document s.pending (Some e))
    go false w = refl

joins-at : (n : ℕ) (e : SourcedEvent) (s : Standing) → joins e (at n s) ≡ moved n (joins e s)
unfolding joins
joins-at n e s = go (nested s.open_tags (unsourced e))
  where
    go : (r : Result (List TagEnd) Error) → with_event (at n s) e r ≡ moved n (with_event s e r)
    go (Ok os) = refl
    go (Err x) = refl

-- a step leaves the end of the last range as it is
advance-at : (how : Rendering) (n : ℕ) (e : SourcedEvent) (s : Standing) → advance how e (at n s) ≡ moved n (advance how e s)
advance-at how n e s =
    advance_is how e (at n s)
    ∙ (ap (λ (w : Walk Standing). go_on w.texts w.outcome (λ t. joins e t)) (flushed_before-at how n (unsourced e) s)
    ∙ (go (flushed_before how (unsourced e) s).texts (flushed_before how (unsourced e) s).outcome
    ∙ ap (moved n) (sym (advance_is how e s))))
  where
    go : (ts : List (List ℕ)) (o : Result Standing Error) → go_on ts (moved_outcome n o) (λ t. joins e t) ≡ moved n (go_on ts o (λ t. joins e t))
    go ts (Ok t) = ap (prefixed ts) (joins-at n e t)
    go ts (Err x) = refl

step_is : (how : Rendering) (source : List ℕ) (x : Pair) (s : Standing) → step how source x s ≡ advance_with how s (resolved source s.range_end x)
unfolding step
step_is how source x s = refl

bad_is-if : (b : Bool) (y : SourcedEvent × ℕ) (x : Error) → (if b then Ok y else Err error.InvalidSourceRange) ≡ Err x → x ≡ error.InvalidSourceRange
bad_is-if true y x h = cc
bad_is-if false y x h = cc

-- a range is refused for one reason
bad_is : (source : List ℕ) (n : ℕ) (e : EventView) (range : Option Range) (x : Error) → resolved_at source n e range ≡ Err x → x ≡ error.InvalidSourceRange
bad_is source n e None x h = cc
bad_is source n e (Some range) x h = bad_is-if (is_good_range source range) (sourced e (source_text source n e range), range_end_after n e range) x h

-- the walk over pairs is that over their events, up to the first bad range
walk_ranged : (how : Rendering) (source : List ℕ) (n : ℕ) (s : Standing) (p : List Pair) → walk how source (at n s) p ≡ then_ranged (ranged source n p) (advance_all how s (ranged source n p).events)
walk_ranged how source n s [] = refl
walk_ranged how source n s (x ∷ xs) =
    ap (λ (w : Walk Standing). go_on w.texts w.outcome (λ t. walk how source t xs)) (step_is how source x (at n s))
    ∙ first (λ m t. walk_ranged how source m t xs) (resolved source n x) refl
  where
    next : ((m : ℕ) (t : Standing) → walk how source (at m t) xs ≡ then_ranged (ranged source m xs) (advance_all how t (ranged source m xs).events)) → (m : ℕ) (ts : List (List ℕ)) (o : Result Standing Error) → go_on ts (moved_outcome m o) (λ t. walk how source t xs) ≡ then_ranged (ranged source m xs) (go_on ts o (λ t. advance_all how t (ranged source m xs).events))
    next again m ts (Ok t) = ap (prefixed ts) (again m t) ∙ go_on-assoc ts (advance_all how t (ranged source m xs).events).texts (advance_all how t (ranged source m xs).events).outcome (λ s. record { texts = []; outcome = end_ranged (ranged source m xs) s })
    next again m ts (Err x) = refl

    first : ((m : ℕ) (t : Standing) → walk how source (at m t) xs ≡ then_ranged (ranged source m xs) (advance_all how t (ranged source m xs).events)) → (r : Result (SourcedEvent × ℕ) Error) → resolved source n x ≡ r → go_on (advance_with how (at n s) r).texts (advance_with how (at n s) r).outcome (λ t. walk how source t xs) ≡ then_ranged (with_first r n (λ m. ranged source m xs)) (advance_all how s (with_first r n (λ m. ranged source m xs)).events)
    first again (Ok y) h = ap (λ (w : Walk Standing). go_on w.texts w.outcome (λ t. walk how source t xs)) (advance-at how y.1 y.0 s) ∙ next again y.1 (advance how y.0 s).texts (advance how y.0 s).outcome
    first again (Err e) h = ap (λ y. refuse y) (bad_is source n x.0 x.1 e h)

pub walk_is : (how : Rendering) (source : List ℕ) (kept : Kept) (p : List Pair) (trees : Trees (ranged source 0 p).events) → walk how source (beginning kept) p ≡ then_ranged (ranged source 0 p) (walk_trees how kept trees.whole trees.part trees.refused)
walk_is how source kept p trees =
    walk_ranged how source 0 (beginning kept) p
    ∙ ap (then_ranged (ranged source 0 p)) (ap (λ es. advance_all how (beginning kept) es) (sym trees.are) ∙ walk_events how kept trees.whole trees.part trees.refused trees.wrong)

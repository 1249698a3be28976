-- A list of events whose containers nest, with none where it is refused, is never refused as unexpected.
use Rattle.std.proofs.Common.{◌≡◌, ℕ, Bool, true, false, not, if◌then◌else◌, List, [], ◌∷◌, ◌++◌, map, drop, Option, Some, None, Result, Ok, Err, refl, sym, ap, ◌∙◌, subst, append_assoc}
use Rattle.std.specs.List.{list_any}
use Rattle.std.specs.Prelude.{◌||◌}
use Rattle.std.proofs.lemmas.Bool.{false≢true}
use Rattle.std.proofs.lemmas.List.{map-append, append-nil}
use Rattle.tocmark_event.specs.Ends.{same_end}
use Rattle.tocmark_event.specs.Forest.{Forest, empty, leaf, node, flat_onto}
use Rattle.tocmark_event.specs.Options.{OptionsView}
use Rattle.tocmark_event.specs.Reading.{ReadingView}
use Rattle.tocmark_event.specs.View.{EventView, SourcedEvent, TagView, LeafView, Start, End, Leaf, Heading, Item, ListOf, Table, TableCell, TableHead, unsourced, end_of}
use Rattle.tocmark_event.specs.declared.event.TagEnd.{TagEnd}
use Rattle.tocmark_event.specs.declared.event.flags.ParserOptions.{ParserOptions}
use Rattle.tocmark_event.specs.declared.options.Error.{Error}
use Rattle.tocmark_event.specs.declared.options.Error.TheVariants as error
use Rattle.tocmark_spelling.specs.Buffered.{sourced}
use Rattle.tocmark_spelling.specs.Kinds.{is_heading, is_list, is_table}
use Rattle.tocmark_spelling.specs.Spelling as spelling
use Rattle.tocmark_spelling.specs.Spelling.{is_wrong_in}
use Rattle.tocmark_write_pending.specs.Pending.{nested}
use Rattle.tocmark_write_pending.proofs.Balanced.{reading-nothing, same-self}
use Rattle.tocmark_write_pending.proofs.Joined.{unsourced-sourced}
use Rattle.tocmark_state.specs.Ranges.{Pair, Range, is_good_range, resolved, resolved_at, source_text, range_end_after}
use Rattle.tocmark_state.specs.Walk.{Kept, Rendering, Standing, Walk, advance, advance_with, ended, flush_of, flushed, flushed_before, flushed_or_deferred, go_on, is_due, joins, nothing_yet, script, stay, step, walk, with_event}
use Rattle.tocmark_state.specs.WorkView.{rendering}
use Rattle.tocmark_state.proofs.Walks.{due_closed, walk-append}
use Rattle.tocmark_text_laws.specs.Proper as proper
use Rattle.tocmark_text_laws.specs.Proper.{is_heading_tag, is_list_tag, is_table_tag, is_refused_in, NoneIsMisplaced}
use Rattle.tocmark_laws.specs.Causes.{HasWrongEnd}
use Rattle.tocmark_laws.specs.Misplaced.{events_in, open_behind}
use Rattle.tocmark_laws.specs.Trees.{ends_innermost}
use Rattle.tocmark_laws.specs.Unexpected.{IsMisplacedUnit, IsUnexpected, IsUnexpectedIn, IsUnexpectedEnd, HasUnexpectedPair, HasUnexpectedEnd, InUnit, ItsEnd, IsOpen, InLastUnit, AtPair, AtEnd, setting_at}
use Rattle.tocmark_laws.proofs.Unexpected.{rendering-misplaced}
use Rattle.tocmark_laws.proofs.UnexpectedCauses.{unexpected-cause}
use Rattle.tocmark_document_laws.specs.ProperLists.{AreExpected, IsProper, events_of}

-- ---- the two tests of a container say the same

heading_same : (t : TagView) → is_heading t ≡ is_heading_tag t
heading_same (Heading level id classes attributes) = refl
heading_same t = refl

list_same : (t : TagView) → is_list t ≡ is_list_tag t
list_same (ListOf first) = refl
list_same t = refl

table_same : (t : TagView) → is_table t ≡ is_table_tag t
table_same (Table alignments) = refl
table_same t = refl

direct_same : (f g : TagView → Bool) → ((t : TagView) → f t ≡ g t) → (ts : List TagView) → spelling.directly_in f ts ≡ proper.directly_in g ts
direct_same f g h [] = refl
direct_same f g h (t ∷ ts) = h t

any_same : (f g : TagView → Bool) → ((t : TagView) → f t ≡ g t) → (ts : List TagView) → list_any f ts ≡ list_any g ts
any_same f g h [] = refl
any_same f g h (t ∷ ts) = ap (λ b. b || list_any f ts) (h t) ∙ ap (λ b. g t || b) (any_same f g h ts)

wrong_same : (t : TagView) (outside : List TagView) → is_wrong_in t outside ≡ is_refused_in t outside
wrong_same Item outside = ap not (direct_same is_list is_list_tag list_same outside)
wrong_same (Heading level id classes attributes) outside = any_same is_heading is_heading_tag heading_same outside
wrong_same TableCell outside = ap not (any_same is_table is_table_tag table_same outside)
wrong_same TableHead outside = ap not (direct_same is_table is_table_tag table_same outside)
wrong_same t outside = refl

-- no Start of events is where it is refused
start_placed : (outside : List TagView) (es : List SourcedEvent) (tag : TagView) (rest : List SourcedEvent) → NoneIsMisplaced outside (map unsourced (es ++ Start tag ∷ rest)) → is_refused_in tag (open_behind outside es) ≡ false
start_placed outside [] tag rest h = h.0
start_placed outside (Leaf l ∷ es) tag rest h = start_placed outside es tag rest h
start_placed outside (Start t ∷ es) tag rest h = start_placed (t ∷ outside) es tag rest (h.1)
start_placed outside (End k ∷ es) tag rest h = start_placed (drop 1 outside) es tag rest h

-- ---- the Ends of events

-- each End is that of the innermost open container, and none is left open
abbrev Nests : List TagEnd → List EventView → Type 0
Nests os [] = os ≡ []
Nests os (Start t ∷ es) = Nests (end_of t ∷ os) es
Nests os (Leaf l ∷ es) = Nests os es
Nests [] (End k ∷ es) = ⊥
Nests (o ∷ os) (End k ∷ es) = (k ≡ o) × Nests os es

forest_nests : (f : Forest LeafView) (os : List TagEnd) (rest : List EventView) → Nests os rest → Nests os (flat_onto f rest)
forest_nests empty os rest h = h
forest_nests (leaf l f) os rest h = forest_nests f os rest h
forest_nests (node t kids f) os rest h = forest_nests kids (end_of t ∷ os) (End (end_of t) ∷ flat_onto f rest) (refl, forest_nests f os rest h)

tags_same : (a b : List TagEnd) (r : Result (List TagEnd) Error) → r ≡ Ok a → r ≡ Ok b → a ≡ b
tags_same a b r h k = cc

-- the containers that are open after an event
abbrev after_event : EventView → List TagView → List TagView
after_event (Start t) tags = t ∷ tags
after_event (End k) tags = drop 1 tags
after_event (Leaf l) tags = tags

closed_as : (k o : TagEnd) (os ps : List TagEnd) (b : Bool) → (if b then Ok os else Err error.UnexpectedEvent) ≡ Ok ps → os ≡ ps
closed_as k o os ps true h = tags_same os ps (Ok os) refl h
closed_as k o os ps false h = absurd (cc)

nests_on : (e : EventView) (os ps : List TagEnd) (rest : List EventView) → nested os e ≡ Ok ps → Nests os (e ∷ rest) → Nests ps rest
nests_on (Start t) os ps rest n h = subst (λ xs. Nests xs rest) (tags_same (end_of t ∷ os) ps (nested os (Start t)) refl n) h
nests_on (Leaf l) os ps rest n h = subst (λ xs. Nests xs rest) (tags_same os ps (nested os (Leaf l)) refl n) h
nests_on (End k) [] ps rest n h = absurd h
nests_on (End k) (o ∷ os) ps rest n h = subst (λ xs. Nests xs rest) (closed_as k o os ps (same_end k o) n) (h.1)

cons_end : (t : TagView) (ts : List TagView) (o : TagEnd) (os : List TagEnd) → map end_of (t ∷ ts) ≡ o ∷ os → map end_of ts ≡ os
cons_end t ts o os h = cc

ends_drop : (tags : List TagView) (o : TagEnd) (os : List TagEnd) → map end_of tags ≡ o ∷ os → map end_of (drop 1 tags) ≡ os
ends_drop [] o os h = absurd (cc)
ends_drop (t ∷ ts) o os h = cons_end t ts o os h

ends_on : (e : EventView) (os ps : List TagEnd) (tags : List TagView) → nested os e ≡ Ok ps → map end_of tags ≡ os → map end_of (after_event e tags) ≡ ps
ends_on (Start t) os ps tags n h = ap (λ xs. end_of t ∷ xs) h ∙ tags_same (end_of t ∷ os) ps (nested os (Start t)) refl n
ends_on (Leaf l) os ps tags n h = h ∙ tags_same os ps (nested os (Leaf l)) refl n
ends_on (End k) [] ps tags n h = absurd (cc)
ends_on (End k) (o ∷ os) ps tags n h = ends_drop tags o os h ∙ closed_as k o os ps (same_end k o) n

placed_on : (e : EventView) (tags : List TagView) (rest : List EventView) → NoneIsMisplaced tags (e ∷ rest) → NoneIsMisplaced (after_event e tags) rest
placed_on (Start t) tags rest h = h.1
placed_on (End k) tags rest h = h
placed_on (Leaf l) tags rest h = h

placed_first : (e : EventView) (tags : List TagView) (rest more : List EventView) → NoneIsMisplaced tags (e ∷ rest) → NoneIsMisplaced (after_event e tags) more → NoneIsMisplaced tags (e ∷ more)
placed_first (Start t) tags rest more h k = (h.0, k)
placed_first (End k) tags rest more h m = m
placed_first (Leaf l) tags rest more h k = k

-- ---- a standing before events that are proper

record Calm (s : Standing) (rest : List EventView) : Type 0 where
  tags : List TagView
  ends : map end_of tags ≡ s.open_tags
  nests : Nests s.open_tags rest
  placed : NoneIsMisplaced tags rest
  pending : (more : List EventView) → NoneIsMisplaced tags more → NoneIsMisplaced [] (map unsourced s.pending ++ more)

stands_same : (s t : Standing) (r : Result Standing Error) → r ≡ Ok s → r ≡ Ok t → s ≡ t
stands_same s t r h k = cc

joined_calm : (e : SourcedEvent) (s t : Standing) (rest : List EventView) (r : Result (List TagEnd) Error) → nested s.open_tags (unsourced e) ≡ r → Calm s (unsourced e ∷ rest) → (with_event s e r).outcome ≡ Ok t → Calm t rest
joined_calm e s t rest (Err x) n h k = absurd (cc)
joined_calm e s t rest (Ok os) n h k = subst (λ u. Calm u rest) (stands_same there t (with_event s e (Ok os)).outcome refl k) (record {
  tags = after_event (unsourced e) h.tags;
  ends = ends_on (unsourced e) s.open_tags os h.tags n h.ends;
  nests = nests_on (unsourced e) s.open_tags os rest n h.nests;
  placed = placed_on (unsourced e) h.tags rest h.placed;
  pending = λ more m. subst (NoneIsMisplaced []) (sym (same more)) (h.pending (unsourced e ∷ more) (placed_first (unsourced e) h.tags rest more h.placed m));
})
  where
    there : Standing
    there = record s { pending = s.pending ++ e ∷ []; open_tags = os }

    same : (more : List EventView) → map unsourced (s.pending ++ e ∷ []) ++ more ≡ map unsourced s.pending ++ (unsourced e ∷ more)
    same more = ap (λ xs. xs ++ more) (map-append unsourced s.pending (e ∷ [])) ∙ append_assoc (map unsourced s.pending) (unsourced e ∷ []) more

joins_calm : (e : SourcedEvent) (s t : Standing) (rest : List EventView) → Calm s (unsourced e ∷ rest) → (joins e s).outcome ≡ Ok t → Calm t rest
unfolding joins
joins_calm e s t rest h k = joined_calm e s t rest (nested s.open_tags (unsourced e)) refl h k

no_tags : (tags : List TagView) → map end_of tags ≡ [] → tags ≡ []
no_tags [] h = refl
no_tags (t ∷ ts) h = absurd (cc)

flush_calm : (s t : Standing) (rest : List EventView) (r : Result (List ℕ × Kept) Error) → s.open_tags ≡ [] → Calm s rest → (flush_of s r).outcome ≡ Ok t → Calm t rest
flush_calm s t rest (Err x) o h k = absurd (cc)
flush_calm s t rest (Ok x) o h k = subst (λ u. Calm u rest) (stands_same (record s { pending = []; document = x.1 }) t (flush_of s (Ok x)).outcome refl k) (record {
  tags = h.tags;
  ends = h.ends;
  nests = h.nests;
  placed = h.placed;
  pending = λ more m. subst (λ ts. NoneIsMisplaced ts more) (no_tags h.tags (h.ends ∙ o)) m;
})

due_calm : (how : Rendering) (e : EventView) (s t : Standing) (rest : List EventView) (b w : Bool) → is_due s ≡ b → Calm s rest → (if b then flushed_or_deferred how w e s else stay s).outcome ≡ Ok t → Calm t rest
unfolding flushed
due_calm how e s t rest true true d h k = subst (λ u. Calm u rest) (stands_same (record s { is_deferred = true }) t (Ok (record s { is_deferred = true })) refl k) (record { tags = h.tags; ends = h.ends; nests = h.nests; placed = h.placed; pending = h.pending })
due_calm how e s t rest true false d h k = flush_calm s t rest (how.choice s.document s.pending (Some e)) (due_closed s d) h k
due_calm how e s t rest false w d h k = subst (λ u. Calm u rest) (stands_same s t (Ok s) refl k) h

before_calm : (how : Rendering) (e : EventView) (s t : Standing) (rest : List EventView) → Calm s rest → (flushed_before how e s).outcome ≡ Ok t → Calm t rest
unfolding flushed_before
before_calm how e s t rest h k = due_calm how e s t rest (is_due s) (how.waits s.pending) refl h k

then_ok : {A S : Type 0} (ts : List (List ℕ)) (o : Result A Error) (f : A → Walk S) (t : S) → (go_on ts o f).outcome ≡ Ok t → (a : A) × (o ≡ Ok a) × ((f a).outcome ≡ Ok t)
then_ok ts (Ok a) f t h = (a, refl, h)
then_ok ts (Err e) f t h = absurd (cc)

advance_calm : (how : Rendering) (e : SourcedEvent) (s t : Standing) (rest : List EventView) → Calm s (unsourced e ∷ rest) → (advance how e s).outcome ≡ Ok t → Calm t rest
unfolding advance
advance_calm how e s t rest h k =
    let (u, i, j) = then_ok (flushed_before how (unsourced e) s).texts (flushed_before how (unsourced e) s).outcome (λ u. joins e u) t k in
    joins_calm e u t rest (before_calm how (unsourced e) s u (unsourced e ∷ rest) h i) j

-- an event keeps its view, whatever its range is
events_same : (y z : SourcedEvent × ℕ) (r : Result (SourcedEvent × ℕ) Error) → r ≡ Ok y → r ≡ Ok z → y ≡ z
events_same y z r h k = cc

ranged_view : (source : List ℕ) (n : ℕ) (e : EventView) (range : Range) (y : SourcedEvent × ℕ) (b : Bool) → (if b then Ok (sourced e (source_text source n e range), range_end_after n e range) else Err error.InvalidSourceRange) ≡ Ok y → unsourced y.0 ≡ e
ranged_view source n e range y true h =
    let there : SourcedEvent × ℕ = (sourced e (source_text source n e range), range_end_after n e range) in
    ap (λ (z : SourcedEvent × ℕ). unsourced z.0) (sym (events_same there y (Ok there) refl h)) ∙ unsourced-sourced e (source_text source n e range)
ranged_view source n e range y false h = absurd (cc)

resolved_view : (source : List ℕ) (n : ℕ) (e : EventView) (range : Option Range) (y : SourcedEvent × ℕ) → resolved_at source n e range ≡ Ok y → unsourced y.0 ≡ e
resolved_view source n e None y h = ap (λ (z : SourcedEvent × ℕ). unsourced z.0) (sym (events_same (sourced e None, n) y (Ok (sourced e None, n)) refl h)) ∙ unsourced-sourced e None
resolved_view source n e (Some range) y h = ranged_view source n e range y (is_good_range source range) h

taken_calm : (how : Rendering) (e : EventView) (s t : Standing) (rest : List EventView) (r : Result (SourcedEvent × ℕ) Error) → ((y : SourcedEvent × ℕ) → r ≡ Ok y → unsourced y.0 ≡ e) → Calm s (e ∷ rest) → (advance_with how s r).outcome ≡ Ok t → Calm t rest
taken_calm how e s t rest (Err x) same h k = absurd (cc)
taken_calm how e s t rest (Ok y) same h k =
    let c : Calm s (unsourced y.0 ∷ rest) = subst (λ x. Calm s (x ∷ rest)) (sym (same y refl)) h in
    advance_calm how y.0 (record s { range_end = y.1 }) t rest (record { tags = c.tags; ends = c.ends; nests = c.nests; placed = c.placed; pending = c.pending }) k

step_calm : (how : Rendering) (source : List ℕ) (pair : Pair) (s t : Standing) (rest : List EventView) → Calm s (pair.0 ∷ rest) → (step how source pair s).outcome ≡ Ok t → Calm t rest
unfolding step
step_calm how source pair s t rest h k = taken_calm how pair.0 s t rest (resolved source s.range_end pair) (λ y e. resolved_view source s.range_end pair.0 pair.1 y e) h k

walk_calm : (how : Rendering) (source : List ℕ) (p : List Pair) (s t : Standing) (rest : List EventView) → Calm s (events_of p ++ rest) → (walk how source s p).outcome ≡ Ok t → Calm t rest
walk_calm how source [] s t rest h k = subst (λ u. Calm u rest) (stands_same s t (Ok s) refl k) h
walk_calm how source (x ∷ xs) s t rest h k =
    let (u, i, j) = then_ok (step how source x s).texts (step how source x s).outcome (λ u. walk how source u xs) t k in
    walk_calm how source xs u t rest (step_calm how source x s u (events_of xs ++ rest) h i) j

-- ---- no cause is there

both : (b : Bool) → b ≡ true → b ≡ false → ⊥
both b h k = false≢true (sym k ∙ h)

no_unit : (options : OptionsView) (reading : List ℕ → ParserOptions → ReadingView) (at : Standing) (rest : List EventView) → Calm at rest → IsMisplacedUnit (setting_at options reading at.document) at.pending → ⊥
no_unit options reading at rest h m =
    let w = m.start in
    let is : at.pending ≡ events_in w.before ++ Start w.tag ∷ events_in w.after = sym m.is ∙ w.is in
    let all : NoneIsMisplaced [] (map unsourced at.pending ++ []) = h.pending [] tt in
    let placed : NoneIsMisplaced [] (map unsourced (events_in w.before ++ Start w.tag ∷ events_in w.after)) = subst (λ es. NoneIsMisplaced [] (map unsourced es)) is (subst (NoneIsMisplaced []) (append-nil (map unsourced at.pending)) all) in
    both (is_wrong_in w.tag (open_behind [] (events_in w.before))) w.wrong (wrong_same w.tag (open_behind [] (events_in w.before)) ∙ start_placed [] (events_in w.before) w.tag (events_in w.after) placed)

no_end : (k : TagEnd) (os : List TagEnd) (rest : List EventView) → Nests os (End k ∷ rest) → ends_innermost k os ≡ false → ⊥
no_end k [] rest h w = h
no_end k (o ∷ os) rest h w = both (same_end k o) (subst (λ x. same_end k x ≡ true) (h.0) (same-self k)) w

no_wrong_end : (at : Standing) (pair : Pair) (rest : List EventView) → Calm at (pair.0 ∷ rest) → HasWrongEnd at pair error.UnexpectedEvent → ⊥
no_wrong_end at pair rest h w = no_end w.end at.open_tags rest (subst (λ e. Nests at.open_tags (e ∷ rest)) w.is h.nests) w.wrong

module _ (options : OptionsView) (reading : List ℕ → ParserOptions → ReadingView) (flags : ParserOptions) (source : List ℕ) (p : List Pair) (is : IsProper (events_of p)) where
  abbrev how : Rendering
  how = rendering options reading

  begun : Calm (nothing_yet flags) (events_of p)
  begun = record {
    tags = [];
    ends = refl;
    nests = subst (Nests []) (is.balanced.1) (forest_nests (is.balanced.0) [] [] refl);
    placed = is.placed;
    pending = λ more m. m;
  }

  no_pair : HasUnexpectedPair how options reading source (nothing_yet flags) p → ⊥
  no_pair r =
      let split : events_of p ≡ events_of r.before ++ (r.pair.0 ∷ events_of r.after) = ap events_of r.is ∙ map-append (λ (x : Pair). x.0) r.before (r.pair ∷ r.after) in
      let calm : Calm r.at (r.pair.0 ∷ events_of r.after) = walk_calm how source r.before (nothing_yet flags) r.at (r.pair.0 ∷ events_of r.after) (subst (Calm (nothing_yet flags)) split begun) r.stands in
      by r.at r.pair (events_of r.after) calm r.cause
    where
      by : (at : Standing) (pair : Pair) (rest : List EventView) → Calm at (pair.0 ∷ rest) → IsUnexpected (setting_at options reading at.document) at pair → ⊥
      by at pair rest h (InUnit m) = no_unit options reading at (pair.0 ∷ rest) h m
      by at pair rest h (ItsEnd w) = no_wrong_end at pair rest h w

  no_last : HasUnexpectedEnd how options reading source (nothing_yet flags) p → ⊥
  no_last r = by r.at (walk_calm how source p (nothing_yet flags) r.at [] (subst (Calm (nothing_yet flags)) (sym (append-nil (events_of p))) begun) r.stands) r.cause
    where
      by : (at : Standing) → Calm at [] → IsUnexpectedEnd (setting_at options reading at.document) at → ⊥
      by at h (IsOpen opened) = opened h.nests
      by at h (InLastUnit m) = no_unit options reading at [] h m

  whole : (script how source (nothing_yet flags) p).outcome ≡ Err error.UnexpectedEvent → ⊥
  whole h = by (unexpected-cause how options reading source (nothing_yet flags) reading-nothing (rendering-misplaced options reading) p h)
    where
      by : IsUnexpectedIn how options reading source (nothing_yet flags) p → ⊥
      by (AtPair r) = no_pair r
      by (AtEnd r) = no_last r

  fronts : (front rest : List Pair) → p ≡ front ++ rest → (walk how source (nothing_yet flags) front).outcome ≡ Err error.UnexpectedEvent → ⊥
  fronts front rest e h =
      let w : (walk how source (nothing_yet flags) p).outcome ≡ Err error.UnexpectedEvent =
      ap (λ xs. (walk how source (nothing_yet flags) xs).outcome) e
      ∙ ap (λ (v : Walk Standing). v.outcome) (walk-append how source (nothing_yet flags) front rest)
      ∙ ap (λ o. (go_on (walk how source (nothing_yet flags) front).texts o (λ t. walk how source t rest)).outcome) h in
      whole (ap (λ o. (go_on (walk how source (nothing_yet flags) p).texts o (λ t. ended how t)).outcome) w)

  pub proper_expected : AreExpected options reading flags source p
  proper_expected = record { whole = whole; fronts = fronts }

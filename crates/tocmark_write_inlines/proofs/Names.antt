-- For which links and images the id is in place of the body.
use Rattle.std.proofs.Common.{◌≡◌, ◌∙◌, sym, ap, refl, ℕ, zero, suc, ◌+◌, ◌-◌, ◌<◌, ◌≤◌, Bool, true, false, List, [], ◌∷◌, ◌++◌, Option, length, map, drop, take, slice_index_or, arith, append-nil, append_assoc, get_or, Result, Ok, Err, IfOk}
use Rattle.std.specs.Prelude.{◌&&◌, ◌||◌, codes}
use Rattle.std.specs.List.{list_any}
use Rattle.std.proofs.lemmas.Bool.{false≢true}
use Rattle.std.proofs.lemmas.List.{drop_all, drop_more, drop-map, take-map}
use Rattle.tocmark_event.specs.Merged.{after_text, merged}
use Rattle.tocmark_event.specs.Reading.{ReadingView, reading_view}
use Rattle.tocmark_event.specs.Text.{ParserEvent, text_of}
use Rattle.tocmark_event.specs.View.{LeafView, TagView, Link, Image, Paragraph, EventView, SourcedEvent, Start, End, Leaf, Text, end_of, event_view, unsourced}
use Rattle.tocmark_event.specs.declared.event.TagEnd.{TagEnd}
use Rattle.tocmark_event.specs.declared.event.TagEnd.TheVariants as end
use Rattle.tocmark_event.specs.declared.reader.Reading.{Reading}
use Rattle.tocmark_write_pending.proofs.Ahead.{place-rest}
use Rattle.tocmark_write_pending.specs.Ahead.{body_in, is_named_by_id, reads_back}
use Rattle.tocmark_spelling.specs.Buffered.{buffered_view, event_of, sourced}
use Rattle.tocmark_spelling.specs.ById.{events_of, is_one_link, is_same_kind}
use Rattle.tocmark_spelling.specs.Plan.{Setting}
use Rattle.tocmark_spelling.specs.SameEvents.{same_events}
use Rattle.tocmark_spelling.specs.Scans.{span}
use Rattle.tocmark_spelling.specs.Spelling.{id_of}
use Rattle.tocmark_spelling.specs.declared.buffered.BufferedEvent.{BufferedEvent}
use Rattle.tocmark_write_inlines.specs.Named.{asks_reader, begins_link, is_named, mark_of, may_be_named, starts_paragraph}

-- what is after the body
text-ended : (t : List ℕ) (k : TagEnd) (es : List EventView) → after_text t (es ++ End k ∷ End end.Paragraph ∷ []) ≡ after_text t es ++ End k ∷ End end.Paragraph ∷ []
text-ended t k [] = refl
text-ended t k (Leaf (Text u) ∷ es) = refl
text-ended t k (e ∷ es) = refl

ended : (k : TagEnd) (es : List EventView) → merged (es ++ End k ∷ End end.Paragraph ∷ []) ≡ merged es ++ End k ∷ End end.Paragraph ∷ []
ended k [] = refl
ended k (Leaf (Text t) ∷ es) = ap (after_text t) (ended k es) ∙ text-ended t k (merged es)
ended k (e ∷ es) = ap (λ xs. e ∷ xs) (ended k es)

unsourced-is : (e : EventView) (source : Option (List ℕ)) → e ≡ unsourced (sourced e source)
unsourced-is (Start t) source = refl
unsourced-is (End k) source = refl
unsourced-is (Leaf l) source = refl

events-are : (bs : List BufferedEvent) → map event_of bs ≡ map unsourced (map buffered_view bs)
events-are [] = refl
events-are (b ∷ bs) = ap (λ e. e ∷ map event_of bs) (unsourced-is (event_of b) _) ∙ ap (λ es. unsourced (buffered_view b) ∷ es) (events-are bs)

pub body-ended : (xs : List EventView) (bs : List BufferedEvent) (k l : TagEnd) → k ≡ l
    → same_events xs (merged (map event_of bs ++ End k ∷ End end.Paragraph ∷ [])) ≡ same_events xs (merged (map unsourced (map buffered_view bs)) ++ End l ∷ End end.Paragraph ∷ [])
body-ended xs bs k l e =
    ap (λ ys. same_events xs (merged (ys ++ End k ∷ End end.Paragraph ∷ []))) (events-are bs)
    ∙ ap (same_events xs) (ended k (map unsourced (map buffered_view bs)))
    ∙ ap (λ n. same_events xs (merged (map unsourced (map buffered_view bs)) ++ End n ∷ End end.Paragraph ∷ [])) e

-- one link in a paragraph
pub too-few : (t : TagView) (body es : List EventView) → length es < 2 → false ≡ is_one_link t body (merged es)
too-few t body [] h = refl
too-few t body (Start Paragraph ∷ []) h = refl
too-few t body (Leaf (Text u) ∷ []) h = refl
too-few t body (e ∷ []) h = refl
too-few t body (e ∷ x ∷ es) h = absurd (omega (arith, h))

text-first : (t : TagView) (body : List EventView) (u : List ℕ) (es : List EventView) → false ≡ is_one_link t body (after_text u es)
text-first t body u [] = refl
text-first t body u (Leaf (Text v) ∷ es) = refl
text-first t body u (e ∷ es) = refl

leaf-kind : (t : TagView) (l : LeafView) → is_same_kind t (Leaf l) ≡ false
leaf-kind (Link k d n i) l = refl
leaf-kind (Image k d n i) l = refl
leaf-kind t l = refl

text-second : (t : TagView) (body : List EventView) (u : List ℕ) (es : List EventView) → false ≡ is_one_link t body (Start Paragraph ∷ after_text u es)
text-second t body u [] = sym (ap (λ b. b && same_events [] (body ++ End (end_of t) ∷ End end.Paragraph ∷ [])) (leaf-kind t (Text u)))
text-second t body u (Leaf (Text v) ∷ es) = sym (ap (λ b. b && same_events es (body ++ End (end_of t) ∷ End end.Paragraph ∷ [])) (leaf-kind t (Text (u ++ v))))
text-second t body u (e ∷ es) = sym (ap (λ b. b && same_events (e ∷ es) (body ++ End (end_of t) ∷ End end.Paragraph ∷ [])) (leaf-kind t (Text u)))

in-paragraph : (t : TagView) (body : List EventView) (e : EventView) (es : List EventView) → (is_same_kind t e && same_events (merged es) (body ++ End (end_of t) ∷ End end.Paragraph ∷ [])) ≡ is_one_link t body (Start Paragraph ∷ merged (e ∷ es))
in-paragraph t body (Leaf (Text u)) es =
    ap (λ b. b && same_events (merged es) (body ++ End (end_of t) ∷ End end.Paragraph ∷ [])) (leaf-kind t (Text u))
    ∙ text-second t body u (merged es)
in-paragraph t body e es = refl

-- whether it is one, by its first two events
link-in : (t : TagView) (body : List EventView) (p e : EventView) (es : List EventView) → ((starts_paragraph p && is_same_kind t e) && same_events (merged es) (body ++ End (end_of t) ∷ End end.Paragraph ∷ [])) ≡ is_one_link t body (merged (p ∷ e ∷ es))
link-in t body (Start Paragraph) e es = in-paragraph t body e es
link-in t body (Leaf (Text u)) e es = text-first t body u (merged (e ∷ es))
link-in t body p e es = refl

pub not-begun : (t : TagView) (body es : List EventView) → begins_link t es ≡ false → false ≡ is_one_link t body (merged es)
not-begun t body [] h = too-few t body [] (omega arith)
not-begun t body (p ∷ []) h = too-few t body (p ∷ []) (omega arith)
not-begun t body (p ∷ e ∷ es) h = sym (ap (λ b. b && same_events (merged es) (body ++ End (end_of t) ∷ End end.Paragraph ∷ [])) h) ∙ link-in t body p e es

pub begun : (t : TagView) (body es : List EventView) → begins_link t es ≡ true → same_events (merged (drop 2 es)) (body ++ End (end_of t) ∷ End end.Paragraph ∷ []) ≡ is_one_link t body (merged es)
begun t body [] h = absurd (false≢true h)
begun t body (p ∷ []) h = absurd (false≢true h)
begun t body (p ∷ e ∷ es) h = sym (ap (λ b. b && same_events (merged es) (body ++ End (end_of t) ∷ End end.Paragraph ∷ [])) h) ∙ link-in t body p e es

-- what the reader found
events-found : (xs : List (ParserEvent × (ℕ × ℕ))) → map (λ e. event_view text_of e.0) xs ≡ map (λ (e : EventView × (ℕ × ℕ)). e.0) (map (λ e. (event_view text_of e.0, e.1)) xs)
events-found [] = refl
events-found (x ∷ xs) = ap (λ es. event_view text_of x.0 ∷ es) (events-found xs)

pub found-in : (r : Reading) (q : ReadingView) → reading_view r ≡ q → map (λ e. event_view text_of e.0) r.events.items ≡ events_of q
found-in r q e = events-found r.events.items ∙ ap events_of e

-- by its type
pub by-reading : (s : Setting) (t : TagView) (body : List SourcedEvent) → may_be_named t ≡ true → reads_back s (mark_of t) t (id_of t) body ≡ is_named_by_id s t body
by-reading s (Link k d n i) body h = sym (ap (λ b. b && reads_back s [] (Link k d n i) i body) h)
by-reading s (Image k d n i) body h = sym (ap (λ b. b && reads_back s (codes "!") (Image k d n i) i body) h)
by-reading s t body h = absurd (false≢true h)

pub never-named : (s : Setting) (t : TagView) (body : List SourcedEvent) → may_be_named t ≡ false → false ≡ is_named_by_id s t body
never-named s (Link k d n i) body h = sym (ap (λ b. b && reads_back s [] (Link k d n i) i body) h)
never-named s (Image k d n i) body h = sym (ap (λ b. b && reads_back s (codes "!") (Image k d n i) i body) h)
never-named s t body h = refl

pub if-ok : {E : Type 0} (result : Result Bool E) (x y : Bool) → x ≡ y → IfOk result (λ b. b ≡ x) → IfOk result (λ b. b ≡ y)
if-ok (Ok b) x y e h = h ∙ e
if-ok (Err e') x y e h = tt

-- for each event
abbrev pub names : Setting → List SourcedEvent → List Bool
names s [] = []
names s (e ∷ es) = is_named s (e ∷ es) ∷ names s es

names-at : (s : Setting) (es : List SourcedEvent) (i : ℕ) → slice_index_or (names s es) i false ≡ is_named s (drop i es)
names-at s [] zero = refl
names-at s [] (suc i) = refl
names-at s (e ∷ es) zero = refl
names-at s (e ∷ es) (suc i) = names-at s es i

or-left : (a b : Bool) → (a || b) ≡ false → a ≡ false
or-left false b h = refl
or-left true b h = h

or-right : (a b : Bool) → (a || b) ≡ false → b ≡ false
or-right false b h = h
or-right true b h = absurd (false≢true (sym h))

not-named : (s : Setting) (e : SourcedEvent) (es : List SourcedEvent) → asks_reader e ≡ false → false ≡ is_named s (e ∷ es)
not-named s (Start t) es h = never-named s t (body_in es) h
not-named s (End k) es h = refl
not-named s (Leaf l) es h = refl

pub none-named : (s : Setting) (es : List SourcedEvent) (i : ℕ) → list_any asks_reader es ≡ false → slice_index_or [] i false ≡ is_named s (drop i es)
none-named s [] zero h = refl
none-named s [] (suc i) h = refl
none-named s (e ∷ es) zero h = not-named s e es (or-left (asks_reader e) (list_any asks_reader es) h)
none-named s (e ∷ es) (suc i) h = none-named s es i (or-right (asks_reader e) (list_any asks_reader es) h)

-- one place further
one-more : (i : ℕ) → suc (i + 1) ≡ suc i + 1
one-more i = omega arith

names-step : (s : Setting) (es : List SourcedEvent) (i : ℕ) → i < length es → names s (drop i es) ≡ is_named s (drop i es) ∷ names s (drop (i + 1) es)
names-step s [] i lt = absurd (omega (arith, lt))
names-step s (e ∷ es) zero lt = refl
names-step s (e ∷ es) (suc i) lt =
    names-step s es i (omega (arith, lt))
    ∙ ap (λ n. is_named s (drop i es) ∷ names s (drop n (e ∷ es))) (one-more i)

pub name-more : (s : Setting) (es : List SourcedEvent) (found more : List Bool) (i : ℕ) (b : Bool) → i < length es → more ≡ found ++ b ∷ [] → b ≡ is_named s (drop i es)
    → found ++ names s (drop i es) ≡ names s es → more ++ names s (drop (i + 1) es) ≡ names s es
name-more s es found more i b lt m h so_far =
    ap (λ xs. xs ++ names s (drop (i + 1) es)) m
    ∙ append_assoc found (b ∷ []) (names s (drop (i + 1) es))
    ∙ ap (λ n. found ++ n ∷ names s (drop (i + 1) es)) h
    ∙ ap (λ xs. found ++ xs) (sym (names-step s es i lt))
    ∙ so_far

pub all-named : (s : Setting) (es : List SourcedEvent) (found : List Bool) (i k : ℕ) → length es ≤ i → found ++ names s (drop i es) ≡ names s es → slice_index_or found k false ≡ is_named s (drop k es)
all-named s es found i k past h =
    ap (λ bs. slice_index_or bs k false) (sym (append-nil found) ∙ ap (λ xs. found ++ names s xs) (sym (drop_all i es past)) ∙ h)
    ∙ names-at s es k

-- the body of the container that starts at a place
pub body-is : (bs : List BufferedEvent) (t : TagView) (rest : List SourcedEvent) (i width end : ℕ) → drop i (map buffered_view bs) ≡ Start t ∷ rest → end ≡ i + 1 + span 0 rest → width ≡ end - (i + 1)
    → map buffered_view (take width (drop (i + 1) bs)) ≡ body_in rest
body-is bs t rest i width end at q w =
    let wide : width ≡ span 0 rest = omega (arith, w, q) in
    sym (take-map buffered_view width (drop (i + 1) bs))
    ∙ ap (take width) (sym (drop-map buffered_view (i + 1) bs))
    ∙ ap (take width) (place-rest (map buffered_view bs) rest i (Start t) at)
    ∙ ap (λ n. take n rest) wide

-- what is at a place
pub place-at : (bs : List BufferedEvent) (i : ℕ) (b : BufferedEvent) → i < length bs → b ≡ get_or bs i b → drop i (map buffered_view bs) ≡ buffered_view b ∷ drop (i + 1) (map buffered_view bs)
place-at bs i b lt is =
    drop-map buffered_view i bs
    ∙ ap (map buffered_view) (drop_more bs i b lt)
    ∙ ap (λ x. buffered_view x ∷ map buffered_view (drop (i + 1) bs)) (sym is)
    ∙ ap (λ es. buffered_view b ∷ es) (sym (drop-map buffered_view (i + 1) bs))

-- What a reader found is compared with what must be read.
use Rattle.std.proofs.Common.{◌≡◌, ◌∙◌, sym, ap, refl, ℕ, suc, arith, Bool, true, false, List, [], ◌∷◌, ◌++◌, Option, length, map, drop, bytes_eq, append-nil, eq-eqb, eqb-true}
use Rattle.std.specs.Prelude.{◌&&◌, ◌||◌, ◌==◌, nat_eq, if◌then◌else◌}
use Rattle.std.specs.List.{list_any, starts_with}
use Rattle.std.proofs.lemmas.Bool.{false≢true, true≢false}
use Rattle.std.proofs.lemmas.Bool.Decides.{nat_tests}
use Rattle.std.proofs.lemmas.List.{drop-map, length-map}
use Rattle.tocmark_event.specs.Merged.{after_text, merged}
use Rattle.tocmark_event.specs.View.{EventView, Start, End, Leaf, Text, Paragraph, unsourced}
use Rattle.tocmark_event.specs.declared.event.TagEnd.TheVariants as end
use Rattle.tocmark_spelling.specs.Buffered.{buffered_view, event_of, sourced}
use Rattle.tocmark_spelling.specs.SameEvents.{same_event, same_events}
use Rattle.tocmark_spelling.specs.declared.buffered.BufferedEvent.{BufferedEvent}
use Rattle.tocmark_compare.specs.Agrees.{begins_paragraph}
use Rattle.tocmark_compare.specs.InParagraph.{in_paragraph, stands_alone}

-- a text is first
abbrev pub begins_with_text : List EventView → Bool
begins_with_text (Leaf (Text t) ∷ es) = true
begins_with_text es = false

and-true : (b : Bool) → (b && true) ≡ b
and-true true = refl
and-true false = refl

bytes-front : (t a b : List ℕ) → bytes_eq (t ++ a) (t ++ b) ≡ bytes_eq a b
bytes-front [] a b = refl
bytes-front (x ∷ t) a b = ap (λ e. e && bytes_eq (t ++ a) (t ++ b)) (eq-eqb x x refl) ∙ bytes-front t a b

bytes-whole : (t b : List ℕ) → bytes_eq t (t ++ b) ≡ bytes_eq [] b
bytes-whole t b = ap (λ x. bytes_eq x (t ++ b)) (sym (append-nil t)) ∙ bytes-front t [] b

-- equal texts in front are taken away
pub texts-front : (t r : List ℕ) (es ys : List EventView) → same_events (after_text t es) (Leaf (Text (t ++ r)) ∷ ys) ≡ same_events (after_text [] es) (Leaf (Text r) ∷ ys)
texts-front t r [] ys = ap (λ b. (b && true) && same_events [] ys) (bytes-whole t r)
texts-front t r (Leaf (Text v) ∷ es) ys = ap (λ b. (b && true) && same_events es ys) (bytes-front t v r)
texts-front t r (e ∷ es) ys = ap (λ b. (b && true) && same_events (e ∷ es) ys) (bytes-whole t r)

-- a text that another doesn't begin with isn't begun by longer ones
bytes-differ : (t v w : List ℕ) → starts_with nat_eq w t ≡ false → bytes_eq (t ++ v) w ≡ false
bytes-differ [] v w h = absurd (false≢true (sym h))
bytes-differ (x ∷ t) v [] h = refl
bytes-differ (x ∷ t) v (y ∷ w) h = by (nat_eq x y) h (bytes-differ t v w)
  where
    by : (b : Bool) → (b && starts_with nat_eq w t) ≡ false → (starts_with nat_eq w t ≡ false → bytes_eq (t ++ v) w ≡ false) → (b && bytes_eq (t ++ v) w) ≡ false
    by true h rest = rest h
    by false h rest = refl

-- a text that begins with another one
pub starts-splits : (t w : List ℕ) → starts_with nat_eq w t ≡ true → w ≡ t ++ drop (length t) w
starts-splits [] w h = refl
starts-splits (x ∷ t) [] h = absurd (false≢true h)
starts-splits (x ∷ t) (y ∷ w) h = by (nat_eq x y) refl h (starts-splits t w)
  where
    by : (b : Bool) → nat_eq x y ≡ b → (b && starts_with nat_eq w t) ≡ true → (starts_with nat_eq w t ≡ true → w ≡ t ++ drop (length t) w) → y ∷ w ≡ x ∷ t ++ drop (length t) w
    by true e h rest = ap (λ z. z ∷ w) (sym (eqb-true x y e)) ∙ ap (λ z. x ∷ z) (rest h)
    by false e h rest = absurd (false≢true h)

pub texts-differ : (t w : List ℕ) (es ys : List EventView) → starts_with nat_eq w t ≡ false → same_events (after_text t es) (Leaf (Text w) ∷ ys) ≡ false
texts-differ t w [] ys h = ap (λ b. (b && true) && same_events [] ys) (ap (λ x. bytes_eq x w) (sym (append-nil t)) ∙ bytes-differ t [] w h)
texts-differ t w (Leaf (Text v) ∷ es) ys h = ap (λ b. (b && true) && same_events es ys) (bytes-differ t v w h)
texts-differ t w (e ∷ es) ys h = ap (λ b. (b && true) && same_events (e ∷ es) ys) (ap (λ x. bytes_eq x w) (sym (append-nil t)) ∙ bytes-differ t [] w h)

-- a text isn't another event
pub text-only : (t : List ℕ) (y : EventView) (es ys : List EventView) → begins_with_text (y ∷ []) ≡ false → same_events (after_text t es) (y ∷ ys) ≡ false
text-only t (Leaf (Text u)) es ys h = absurd (false≢true (sym h))
text-only t y [] ys h = refl
text-only t y (Leaf (Text v) ∷ es) ys h = refl
text-only t y (e ∷ es) ys h = refl

pub text-last : (t : List ℕ) (es : List EventView) → same_events (after_text t es) [] ≡ false
text-last t [] = refl
text-last t (Leaf (Text v) ∷ es) = refl
text-last t (e ∷ es) = refl

pub merged-begins : (es : List EventView) → begins_with_text es ≡ false → begins_with_text (merged es) ≡ false
merged-begins [] h = refl
merged-begins (Leaf (Text t) ∷ es) h = absurd (false≢true (sym h))
merged-begins (e ∷ es) h = refl

pub empty-text : (es : List EventView) → begins_with_text es ≡ false → after_text [] es ≡ Leaf (Text []) ∷ es
empty-text [] h = refl
empty-text (Leaf (Text t) ∷ es) h = absurd (false≢true (sym h))
empty-text (e ∷ es) h = refl

pub front-merged : (e : EventView) (es : List EventView) → begins_with_text (e ∷ []) ≡ false → merged (e ∷ es) ≡ e ∷ merged es
front-merged (Leaf (Text t)) es h = absurd (false≢true (sym h))
front-merged e es h = refl

-- ---- events in a paragraph

unsourced-is : (e : EventView) (source : Option (List ℕ)) → e ≡ unsourced (sourced e source)
unsourced-is (Start t) source = refl
unsourced-is (End k) source = refl
unsourced-is (Leaf l) source = refl

events-are : (bs : List BufferedEvent) → map event_of bs ≡ map unsourced (map buffered_view bs)
events-are [] = refl
events-are (b ∷ bs) = ap (λ e. e ∷ map event_of bs) (unsourced-is (event_of b) _) ∙ ap (λ es. unsourced (buffered_view b) ∷ es) (events-are bs)

-- whether a block is among them
blocks-after : (t : List ℕ) (es : List EventView) → list_any stands_alone (after_text t es) ≡ list_any stands_alone es
blocks-after t [] = refl
blocks-after t (Leaf (Text u) ∷ es) = refl
blocks-after t (e ∷ es) = refl

blocks-merged : (es : List EventView) → list_any stands_alone (merged es) ≡ list_any stands_alone es
blocks-merged [] = refl
blocks-merged (Leaf (Text t) ∷ es) = blocks-after t (merged es) ∙ blocks-merged es
blocks-merged (e ∷ es) = ap (λ b. stands_alone e || b) (blocks-merged es)

abbrev pub with_ends : List EventView → List EventView
with_ends es = Start Paragraph ∷ es ++ End end.Paragraph ∷ []

with-block : (es : List EventView) → list_any stands_alone es ≡ true → in_paragraph es ≡ es
with-block [] h = refl
with-block (e ∷ es) h = ap (λ (b : Bool). if b then e ∷ es else with_ends (e ∷ es)) h

without-block : (e : EventView) (es : List EventView) → list_any stands_alone (e ∷ es) ≡ false → in_paragraph (e ∷ es) ≡ with_ends (e ∷ es)
without-block e es h = ap (λ (b : Bool). if b then e ∷ es else with_ends (e ∷ es)) h

text-without : (t : List ℕ) (es : List EventView) → list_any stands_alone es ≡ false → in_paragraph (after_text t es) ≡ with_ends (after_text t es)
text-without t [] h = refl
text-without t (Leaf (Text u) ∷ es) h = without-block (Leaf (Text (t ++ u))) es h
text-without t (e ∷ es) h = without-block (Leaf (Text t)) (e ∷ es) h

not-empty : (n : ℕ) → (suc n == 0) ≡ false
not-empty n = by (suc n == 0) refl
  where
    by : (b : Bool) → (suc n == 0) ≡ b → (suc n == 0) ≡ false
    by true h = absurd (grind (arith, nat_tests))
    by false h = h

-- events are, and what else is asked of them
asked : (e : EventView) (es : List EventView) (b : Bool) → ((length (e ∷ es) == 0) || b) ≡ b
asked e es b = ap (λ z. z || b) (not-empty (length es))

as-they-are : (es : List EventView) → ((length es == 0) || list_any stands_alone es) ≡ true → in_paragraph (merged es) ≡ merged es
as-they-are [] h = refl
as-they-are (e ∷ es) h = with-block (merged (e ∷ es)) (blocks-merged (e ∷ es) ∙ sym (asked e es (list_any stands_alone (e ∷ es))) ∙ h)

inline-ones : (e : EventView) (es : List EventView) → list_any stands_alone (e ∷ es) ≡ false → in_paragraph (merged (e ∷ es)) ≡ with_ends (merged (e ∷ es))
inline-ones (Leaf (Text t)) es h = text-without t (merged es) (blocks-merged es ∙ h)
inline-ones e es h = without-block e (merged es) (ap (λ b. stands_alone e || b) (blocks-merged es) ∙ h)

in-paragraph : (es : List EventView) → ((length es == 0) || list_any stands_alone es) ≡ false → in_paragraph (merged es) ≡ with_ends (merged es)
in-paragraph [] h = absurd (true≢false h)
in-paragraph (e ∷ es) h = inline-ones e es (sym (asked e es (list_any stands_alone (e ∷ es))) ∙ h)

-- a unit with a block, or an empty one, is compared as it is
module _ (xs : List EventView) (bs : List BufferedEvent) (stays : Bool) (is : stays ≡ ((length bs == 0) || list_any stands_alone (map event_of bs))) where
  views-stay : stays ≡ ((length (map event_of bs) == 0) || list_any stands_alone (map event_of bs))
  views-stay = is ∙ ap (λ b. b || list_any stands_alone (map event_of bs)) (ap (λ n. n == 0) (sym (length-map bs event_of)))

  pub agrees-as-it-is : stays ≡ true → same_events xs (merged (map event_of bs ++ [])) ≡ same_events xs (in_paragraph (merged (map unsourced (map buffered_view bs))))
  agrees-as-it-is h =
      ap (λ ys. same_events xs (merged ys)) (append-nil (map event_of bs))
      ∙ ap (same_events xs) (sym (as-they-are (map event_of bs) (sym views-stay ∙ h)))
      ∙ ap (λ ys. same_events xs (in_paragraph (merged ys))) (events-are bs)

  -- any other is in a paragraph
  pub agrees-in-paragraph : stays ≡ false → same_events xs (with_ends (merged (map event_of bs))) ≡ same_events xs (in_paragraph (merged (map unsourced (map buffered_view bs))))
  agrees-in-paragraph h =
      ap (same_events xs) (sym (in-paragraph (map event_of bs) (sym views-stay ∙ h)))
      ∙ ap (λ ys. same_events xs (in_paragraph (merged ys))) (events-are bs)

-- ---- a paragraph of events

text-ended : (t : List ℕ) (es : List EventView) → after_text t (es ++ End end.Paragraph ∷ []) ≡ after_text t es ++ End end.Paragraph ∷ []
text-ended t [] = refl
text-ended t (Leaf (Text u) ∷ es) = refl
text-ended t (e ∷ es) = refl

ended : (es : List EventView) → merged (es ++ End end.Paragraph ∷ []) ≡ merged es ++ End end.Paragraph ∷ []
ended [] = refl
ended (Leaf (Text t) ∷ es) = ap (after_text t) (ended es) ∙ text-ended t (merged es)
ended (e ∷ es) = ap (λ xs. e ∷ xs) (ended es)

first-then : (e : EventView) (es ys : List EventView) → (same_event e (Start Paragraph) && same_events (merged es) ys) ≡ same_events (merged (e ∷ es)) (Start Paragraph ∷ ys)
first-then (Leaf (Text t)) es ys = sym (text-only t (Start Paragraph) (merged es) ys refl)
first-then e es ys = refl

pub not-begun : (es ys : List EventView) → begins_paragraph es ≡ false → false ≡ same_events (merged es) (Start Paragraph ∷ ys)
not-begun [] ys h = refl
not-begun (e ∷ es) ys h = sym (ap (λ b. b && same_events (merged es) ys) h) ∙ first-then e es ys

begun : (es ys : List EventView) → begins_paragraph es ≡ true → same_events (merged (drop 1 es)) ys ≡ same_events (merged es) (Start Paragraph ∷ ys)
begun [] ys h = absurd (false≢true h)
begun (e ∷ es) ys h = sym (ap (λ b. b && same_events (merged es) ys) h) ∙ first-then e es ys

-- what is after the start of a paragraph is compared with the events and its end
pub behind-start : {A : Type 0} (f : A → EventView) (found rest : List A) (es : List EventView) → rest ≡ drop 1 found → begins_paragraph (map f found) ≡ true
    → same_events (merged (map f rest)) (merged (es ++ End end.Paragraph ∷ [])) ≡ same_events (merged (map f found)) (with_ends (merged es))
behind-start f found rest es is h =
    ap (λ xs. same_events (merged xs) (merged (es ++ End end.Paragraph ∷ []))) (ap (map f) is ∙ sym (drop-map f 1 found))
    ∙ ap (same_events (merged (drop 1 (map f found)))) (ended es)
    ∙ begun (map f found) (merged es ++ End end.Paragraph ∷ []) h

-- Where stretches of texts begin.
use Rattle.std.proofs.Common.{◌≡◌, ◌≢◌, ◌⊎◌, inl, inr, ℕ, suc, ◌+◌, ◌-◌, ◌<◌, ◌≤◌, true, false, List, [], ◌∷◌, ap, arith, drop, eq-or-lt_of_le, get_or, length, refl, subst, sym, take, true≢false, ◌∙◌}
use Rattle.std.proofs.lemmas.List.{drop-map, drop_all, drop_more, length-drop, take_all}
use Rattle.tocmark_event.specs.Merged.{after_text, merged}
use Rattle.tocmark_event.specs.Text.{ParserEvent, text_of}
use Rattle.tocmark_event.specs.View.{EventView, Leaf, SoftBreak, Text, event_view}
use Rattle.tocmark_compare.specs.Given.{given_events}
use Rattle.tocmark_documents.specs.Document.{IsFirstBehind, goes_on, shared}

joins : (t u : List ℕ) (es : List EventView) → length (after_text t (after_text u es)) ≡ length (after_text u es)
joins t u [] = refl
joins t u (Leaf (Text v) ∷ es) = refl
joins t u (e ∷ es) = refl

-- two texts side by side are in one stretch
same_stretch : (a : EventView) (es : List EventView) → goes_on (a ∷ es) ≡ true → length (merged (a ∷ es)) ≡ length (merged es)
same_stretch a [] h = absurd (true≢false (sym h))
same_stretch (Leaf (Text t)) (Leaf (Text u) ∷ es) h = joins t u (merged es)
same_stretch (Leaf (Text t)) (e ∷ es) h = absurd (true≢false (sym h))
same_stretch a (e ∷ es) h = absurd (true≢false (sym h))

one_more : (n : ℕ) → suc n ≡ n + 1
one_more n = omega arith

-- any others are not
next_stretch : (a : EventView) (es : List EventView) → goes_on (a ∷ es) ≡ false → length (merged (a ∷ es)) ≡ length (merged es) + 1
next_stretch (Leaf (Text t)) [] h = refl
next_stretch (Leaf (Text t)) (Leaf (Text u) ∷ es) h = absurd (true≢false h)
next_stretch (Leaf (Text t)) (e ∷ es) h = one_more (length (merged (e ∷ es)))
next_stretch a es h = one_more (length (merged es))

-- a place is reached, with so many stretches to go
pub record IsReached (stretch left : ℕ) (es : List EventView) (place : ℕ) : Type 0 where
  pub ahead : length (merged (drop place es)) + stretch ≡ length (merged es) + left
  pub passed : (before : ℕ) → before < place → length (merged es) < length (merged (drop before es)) + stretch

pub begun : (stretch : ℕ) (es : List EventView) → IsReached stretch stretch es 0
begun stretch es = record { ahead = refl; passed = λ before h. absurd (omega arith) }

more : (all stretch left here : ℕ) → here + stretch ≡ all + left → left ≢ 0 → all < here + stretch
more all stretch left here h some = omega arith

one_less : (all stretch left here next : ℕ) → here + stretch ≡ all + left → left ≢ 0 → here ≡ next + 1 → next + stretch ≡ all + (left - 1)
one_less all stretch left here next h some is = omega arith

passes : (stretch left : ℕ) (es : List EventView) (place : ℕ) → left ≢ 0 → IsReached stretch left es place → (before : ℕ) → before < place + 1 → length (merged es) < length (merged (drop before es)) + stretch
passes stretch left es place some r before h = by_place (eq-or-lt_of_le (omega arith))
  where
    by_place : (before ≡ place) ⊎ (before < place) → length (merged es) < length (merged (drop before es)) + stretch
    by_place (inl same) = subst (λ (p : ℕ). length (merged es) < length (merged (drop p es)) + stretch) (sym same) (more (length (merged es)) stretch left (length (merged (drop place es))) r.ahead some)
    by_place (inr less) = r.passed before less

-- an event is passed that goes on in the next one
pub goes_along : (stretch left : ℕ) (es : List EventView) (place : ℕ) → place < length es → left ≢ 0 → goes_on (drop place es) ≡ true → IsReached stretch left es place → IsReached stretch left es (place + 1)
goes_along stretch left es place h some joined r =
    let more_of : drop place es ≡ get_or es place (Leaf SoftBreak) ∷ drop (place + 1) es = drop_more es place (Leaf SoftBreak) h in
    let same = ap (λ l. length (merged l)) more_of ∙ same_stretch (get_or es place (Leaf SoftBreak)) (drop (place + 1) es) (sym (ap goes_on more_of) ∙ joined) in
    record { ahead = ap (λ n. n + stretch) (sym same) ∙ r.ahead; passed = passes stretch left es place some r }

-- an event is passed that ends a stretch
pub goes_over : (stretch left : ℕ) (es : List EventView) (place : ℕ) → place < length es → left ≢ 0 → goes_on (drop place es) ≡ false → IsReached stretch left es place → IsReached stretch (left - 1) es (place + 1)
goes_over stretch left es place h some apart r =
    let more_of : drop place es ≡ get_or es place (Leaf SoftBreak) ∷ drop (place + 1) es = drop_more es place (Leaf SoftBreak) h in
    let less = ap (λ l. length (merged l)) more_of ∙ next_stretch (get_or es place (Leaf SoftBreak)) (drop (place + 1) es) (sym (ap goes_on more_of) ∙ apart) in
    record { ahead = one_less (length (merged es)) stretch left (length (merged (drop place es))) (length (merged (drop (place + 1) es))) r.ahead some less; passed = passes stretch left es place some r }

nothing_more : (n left : ℕ) → left ≡ 0 → n + left ≡ n
nothing_more n left h = omega arith

-- no stretch is to go
pub found_place : (stretch left : ℕ) (es : List EventView) (place : ℕ) → left ≡ 0 → IsReached stretch left es place → IsFirstBehind stretch es place
found_place stretch left es place none r = record { behind = r.ahead ∙ nothing_more (length (merged es)) left none; first = r.passed }

none_to_go : (all stretch left none : ℕ) → stretch ≤ all → none ≡ 0 → none + stretch ≡ all + left → left ≡ 0
none_to_go all stretch left none h z r = omega arith

-- all events are passed
pub found_end : (stretch left : ℕ) (es : List EventView) (place : ℕ) → length es ≤ place → stretch ≤ length (merged es) → IsReached stretch left es place → IsFirstBehind stretch es place
found_end stretch left es place h least r =
    found_place stretch left es place (none_to_go (length (merged es)) stretch left (length (merged (drop place es))) least (ap (λ l. length (merged l)) (drop_all place es h)) r.ahead) r

shared_none : (xs : List EventView) → shared xs [] ≡ 0
shared_none [] = refl
shared_none (x ∷ xs) = refl

all_shared : (place here all : ℕ) → here ≡ 0 → place + here ≡ all → place ≡ all
all_shared place here all none is = omega arith

-- one list is passed
pub ends_there : (place all : ℕ) (xs ys : List EventView) → ys ≡ [] → place + shared xs ys ≡ all → place ≡ all
ends_there place all xs ys none is = all_shared place (shared xs ys) all (ap (shared xs) none ∙ shared_none xs) is

-- the events of a slice from a place on
pub from_place : {X : Type 0} (given : List (ParserEvent × X)) (place : ℕ) → given_events (take (length given - place) (drop place given)) ≡ drop place (given_events given)
from_place given place =
    ap given_events (take_all (length given - place) (drop place given) (same_le (length (drop place given)) (length given - place) (length-drop place given)))
    ∙ sym (drop-map (λ e. event_view text_of e.0) place given)
  where
    same_le : (m n : ℕ) → m ≡ n → m ≤ n
    same_le m n h = omega arith

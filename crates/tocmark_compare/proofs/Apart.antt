-- Lists that are apart are so when their texts are joined.
use Rattle.std.proofs.Common.{◌≡◌, Bool, true, false, not, ◌&&◌, if◌then◌else◌, List, [], ◌∷◌, ◌++◌, refl, ap, sym, ◌∙◌, true≢false, ℕ, zero, suc, min, ◌≤◌, length, drop, arith}
use Rattle.tocmark_event.specs.Text.{ParserEvent}
use Rattle.tocmark_compare.specs.Given.{given_events}
use Rattle.tocmark_event.specs.Merged.{merged, after_text}
use Rattle.tocmark_event.specs.View.{EventView, Leaf, Text}
use Rattle.tocmark_spelling.specs.Kinds.{is_text}
use Rattle.tocmark_spelling.specs.SameEvents.{same_event, same_events}
use Rattle.tocmark_compare.proofs.SameIsEqual.{same-equal, equal-same}
use Rattle.tocmark_compare.specs.Apart.{are_apart}

merged_other : (a : EventView) (es : List EventView) → is_text a ≡ false → merged (a ∷ es) ≡ a ∷ merged es
merged_other (Leaf (Text t)) es h = absurd (true≢false h)
merged_other e es h = refl

text_other : (t : List ℕ) (a : EventView) (es : List EventView) → is_text a ≡ false → after_text t (a ∷ es) ≡ Leaf (Text t) ∷ a ∷ es
text_other t (Leaf (Text u)) es h = absurd (true≢false h)
text_other t e es h = refl

text_front : (t : List ℕ) (es : List EventView) (a : EventView) (more : List EventView) → is_text a ≡ false → after_text t (es ++ a ∷ more) ≡ after_text t es ++ a ∷ more
text_front t [] a more h = text_other t a more h
text_front t (Leaf (Text u) ∷ es) a more h = refl
text_front t (e ∷ es) a more h = refl

merged_front : (cs : List EventView) (a : EventView) (es : List EventView) → is_text a ≡ false → merged (cs ++ a ∷ es) ≡ merged cs ++ a ∷ merged es
merged_front [] a es h = merged_other a es h
merged_front (Leaf (Text t) ∷ cs) a es h = ap (after_text t) (merged_front cs a es h) ∙ text_front t (merged cs) a (merged es) h
merged_front (c ∷ cs) a es h = ap (λ x. c ∷ x) (merged_front cs a es h)

-- the first events in which two lists differ
record Parting (xs ys : List EventView) : Type 0 where
  front : List EventView
  one : EventView
  ones : List EventView
  other : EventView
  others : List EventView
  left : xs ≡ front ++ one ∷ ones
  right : ys ≡ front ++ other ∷ others
  differ : same_event one other ≡ false
  no_text : is_text one ≡ false
  no_other_text : is_text other ≡ false

is_not : (a b : Bool) → (not a && not b) ≡ true → (a ≡ false) × (b ≡ false)
is_not true b h = absurd (true≢false (sym h))
is_not false true h = absurd (true≢false (sym h))
is_not false false h = (refl, refl)

both_same : (x y : EventView) → same_event x y ≡ true → same_events (x ∷ []) (y ∷ []) ≡ true
both_same x y e = rw e refl

abbrev head_of : EventView → List EventView → EventView
head_of d [] = d
head_of d (x ∷ xs) = x

one_equal : (x y : EventView) → same_event x y ≡ true → x ≡ y
one_equal x y e = ap (head_of x) (same-equal (x ∷ []) (y ∷ []) (both_same x y e))

parting : (xs ys : List EventView) → are_apart xs ys ≡ true → Parting xs ys
parting [] ys h = absurd (true≢false (sym h))
parting (x ∷ xs) [] h = absurd (true≢false (sym h))
parting (x ∷ xs) (y ∷ ys) h = by_same (same_event x y) refl h (λ k. parting xs ys k)
  where
    by_same : (b : Bool) → same_event x y ≡ b → (if b then are_apart xs ys else (not (is_text x) && not (is_text y))) ≡ true → (are_apart xs ys ≡ true → Parting xs ys) → Parting (x ∷ xs) (y ∷ ys)
    by_same true e k rest =
        let p = rest k in
        record { front = x ∷ p.front; one = p.one; ones = p.ones; other = p.other; others = p.others; left = ap (λ l. x ∷ l) p.left; right = ap (λ l. y ∷ l) p.right ∙ ap (λ z. z ∷ (p.front ++ p.other ∷ p.others)) (sym (one_equal x y e)); differ = p.differ; no_text = p.no_text; no_other_text = p.no_other_text }
    by_same false e k rest =
        let both = is_not (is_text x) (is_text y) k in
        record { front = []; one = x; ones = xs; other = y; others = ys; left = refl; right = refl; differ = e; no_text = both.0; no_other_text = both.1 }

behind_front : (cs : List EventView) (a b : EventView) (as1 bs : List EventView) → cs ++ a ∷ as1 ≡ cs ++ b ∷ bs → a ≡ b
behind_front [] a b as1 bs e = ap (head_of a) e
behind_front (c ∷ cs) a b as1 bs e = behind_front cs a b as1 bs (ap (tail_of) e)
  where
    tail_of : List EventView → List EventView
    tail_of [] = []
    tail_of (x ∷ xs) = xs

one_itself : (x y : EventView) → x ≡ y → same_event x y ≡ true
one_itself x y e = by_test (same_event x y) refl
  where
    by_test : (b : Bool) → same_event x y ≡ b → b ≡ true
    by_test true k = refl
    by_test false k = absurd (true≢false (sym (equal-same (x ∷ []) (y ∷ []) (ap (λ z. z ∷ []) e)) ∙ rw k refl))

-- lists that are apart say different things, however their texts are cut
pub apart_differ : (xs ys : List EventView) → are_apart xs ys ≡ true → merged xs ≡ merged ys → ⊥
apart_differ xs ys h e =
    let p = parting xs ys h in
    let joined : merged p.front ++ p.one ∷ merged p.ones ≡ merged p.front ++ p.other ∷ merged p.others =
    sym (merged_front p.front p.one p.ones p.no_text) ∙ ap merged (sym p.left) ∙ e ∙ ap merged p.right ∙ merged_front p.front p.other p.others p.no_other_text
    in
    true≢false (sym (one_itself p.one p.other (behind_front (merged p.front) p.one p.other (merged p.ones) (merged p.others) joined)) ∙ p.differ)

none_apart : (xs : List EventView) → are_apart xs [] ≡ false
none_apart [] = refl
none_apart (x ∷ xs) = refl

none_left : (i : ℕ) → given_events {X = ℕ × ℕ} (drop i []) ≡ []
none_left zero = refl
none_left (suc i) = refl

-- where one list is at its end, the rests aren't apart
pub past_end : (i : ℕ) (xs ys : List (ParserEvent × (ℕ × ℕ))) → min (length xs) (length ys) ≤ i → are_apart (given_events (drop i xs)) (given_events (drop i ys)) ≡ false
past_end i [] ys h = ap (λ l. are_apart l (given_events (drop i ys))) (none_left i)
past_end i (x ∷ xs) [] h = ap (are_apart (given_events (drop i (x ∷ xs)))) (none_left i) ∙ none_apart (given_events (drop i (x ∷ xs)))
past_end zero (x ∷ xs) (y ∷ ys) h = absurd (omega (arith, h))
past_end (suc i) (x ∷ xs) (y ∷ ys) h = past_end i xs ys (omega (arith, h))

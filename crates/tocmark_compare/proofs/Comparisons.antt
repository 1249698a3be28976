-- What a reader found is compared with events that aren't joined yet.
use Rattle.std.proofs.Common.{◌≡◌, ◌∙◌, sym, ap, refl, ℕ, ◌+◌, ◌<◌, ◌≤◌, Bool, true, false, List, [], ◌∷◌, ◌++◌, Option, Some, None, length, map, drop, unwrap_or, length-drop, arith, drop-drop, append-nil, append_assoc}
use Rattle.std.specs.Prelude.{◌&&◌, nat_eq, if◌then◌else◌}
use Rattle.std.specs.Cmp.{IsEquivalence}
use Rattle.std.specs.List.{starts_with}
use Rattle.std.proofs.lemmas.Bool.{false≢true}
use Rattle.std.proofs.lemmas.List.{drop-map}
use Rattle.std.proofs.lemmas.Cmp.{lists_equiv, nat_list_eq_equiv}
use Rattle.tocmark_event.proofs.Merging.{after_text-twice}
use Rattle.tocmark_event.specs.Merged.{after_text, merged}
use Rattle.tocmark_event.specs.View.{EventView, Leaf, Text}
use Rattle.tocmark_spelling.specs.SameEvents.{event_key, same_event, same_events}
use Rattle.tocmark_compare.specs.Alike.{alike, cut, first, text_in}
use Rattle.tocmark_compare.proofs.Agreements.{begins_with_text, empty-text, front-merged, merged-begins, starts-splits, text-last, text-only, texts-differ, texts-front}

same_event-equiv : IsEquivalence same_event
same_event-equiv =
    let keys = lists_equiv nat_list_eq_equiv in
    record {
      refl = λ x. keys.refl (event_key x);
      symm = λ x y. keys.symm (event_key x) (event_key y);
      congr = λ x y z. keys.congr (event_key x) (event_key y) (event_key z);
    }

same-sym : (xs ys : List EventView) → same_events xs ys ≡ same_events ys xs
same-sym xs ys = (lists_equiv same_event-equiv).symm xs ys

alike-sym : (b : Bool) (xs ys : List EventView) → alike b xs ys ≡ alike b ys xs
alike-sym true xs ys = same-sym (after_text [] (merged xs)) (after_text [] (merged ys))
alike-sym false xs ys = same-sym (merged xs) (merged ys)

-- the text that joins a text in front, and what is after it
abbrev lead_of : List EventView → List ℕ
lead_of (Leaf (Text t) ∷ es) = t
lead_of es = []

abbrev behind_lead : List EventView → List EventView
behind_lead (Leaf (Text t) ∷ es) = es
behind_lead es = es

lead-is : (t : List ℕ) (es : List EventView) → after_text t es ≡ Leaf (Text (t ++ lead_of es)) ∷ behind_lead es
lead-is t [] = ap (λ u. Leaf (Text u) ∷ []) (sym (append-nil t))
lead-is t (Leaf (Text u) ∷ es) = refl
lead-is t (e ∷ es) = ap (λ u. Leaf (Text u) ∷ e ∷ es) (sym (append-nil t))

-- two texts in front, of which a stretch is begun or not
texts-alike : (b : Bool) (t u : List ℕ) (ls rs : List EventView) → alike b (Leaf (Text t) ∷ ls) (Leaf (Text u) ∷ rs) ≡ same_events (after_text t (merged ls)) (after_text u (merged rs))
texts-alike true t u ls rs =
    ap (λ xs. same_events xs (after_text [] (after_text u (merged rs)))) (after_text-twice [] t (merged ls))
    ∙ ap (λ ys. same_events (after_text t (merged ls)) ys) (after_text-twice [] u (merged rs))
texts-alike false t u ls rs = refl

-- equal texts in front are taken away
fronts-equal : (t r : List ℕ) (xs ys : List EventView) → same_events (after_text t xs) (after_text (t ++ r) ys) ≡ same_events (after_text [] xs) (after_text r ys)
fronts-equal t r xs ys =
    ap (λ zs. same_events (after_text t xs) zs) (lead-is (t ++ r) ys ∙ ap (λ u. Leaf (Text u) ∷ behind_lead ys) (append_assoc t r (lead_of ys)))
    ∙ texts-front t (r ++ lead_of ys) xs (behind_lead ys)
    ∙ ap (λ zs. same_events (after_text [] xs) zs) (sym (lead-is r ys))

starts-longer : (t w v : List ℕ) → length t ≤ length w → starts_with nat_eq (w ++ v) t ≡ starts_with nat_eq w t
starts-longer [] w v h = refl
starts-longer (x ∷ t) [] v h = absurd (omega (arith, h))
starts-longer (x ∷ t) (y ∷ w) v h = ap (λ b. nat_eq x y && b) (starts-longer t w v (omega (arith, h)))

fronts-differ : (t w : List ℕ) (xs ys : List EventView) → length t ≤ length w → starts_with nat_eq w t ≡ false → same_events (after_text t xs) (after_text w ys) ≡ false
fronts-differ t w xs ys le h =
    ap (λ zs. same_events (after_text t xs) zs) (lead-is w ys)
    ∙ texts-differ t (w ++ lead_of ys) xs (behind_lead ys) (starts-longer t w (lead_of ys) le ∙ h)

-- the text of what was found goes on in that of what must be read
found-passed : (b : Bool) (t u : List ℕ) (ls rs : List EventView) (i j : ℕ) → starts_with nat_eq (drop j u) (drop i t) ≡ true
    → alike true ls (Leaf (Text (drop (j + length (drop i t)) u)) ∷ rs) ≡ alike b (Leaf (Text (drop i t)) ∷ ls) (Leaf (Text (drop j u)) ∷ rs)
found-passed b t u ls rs i j h =
    let r : List ℕ = drop i t in
    let n : ℕ = j + length r in
    ap (λ ys. same_events (after_text [] (merged ls)) ys) (after_text-twice [] (drop n u) (merged rs))
    ∙ sym (fronts-equal r (drop n u) (merged ls) (merged rs))
    ∙ ap (λ w. same_events (after_text r (merged ls)) (after_text w (merged rs))) (ap (λ w. r ++ w) (sym (drop-drop (length r) j u)) ∙ sym (starts-splits r (drop j u) h))
    ∙ sym (texts-alike b r (drop j u) ls rs)

-- how far a whole text is read with these bytes, which go on from this place on
abbrev pub read_to : List ℕ → ℕ → List ℕ → Option ℕ
read_to u j r = if starts_with nat_eq (drop j u) r then Some (j + length r) else None

-- the first event of a list, if it is a text
text-first : (es : List EventView) (t : List ℕ) → text_in (first es) ≡ Some t → es ≡ Leaf (Text t) ∷ drop 1 es
text-first [] t h = absurd cc
text-first (Leaf (Text u) ∷ es) t h = ap (λ o. Leaf (Text (unwrap_or o [])) ∷ es) h
text-first (e ∷ es) t h = absurd cc

module _ (b : Bool) (xs ys : List EventView) (t u : List ℕ) (i j : ℕ) (x : text_in (first xs) ≡ Some t) (y : text_in (first ys) ≡ Some u) where
  cuts : alike b (cut i xs) (cut j ys) ≡ alike b (Leaf (Text (drop i t)) ∷ drop 1 xs) (Leaf (Text (drop j u)) ∷ drop 1 ys)
  cuts = ap (λ es. alike b (cut i es) (cut j ys)) (text-first xs t x) ∙ ap (λ es. alike b (Leaf (Text (drop i t)) ∷ drop 1 xs) (cut j es)) (text-first ys u y)

  pub found-reads : (n : ℕ) → read_to u j (drop i t) ≡ Some n → alike true (drop 1 xs) (cut n ys) ≡ alike b (cut i xs) (cut j ys)
  found-reads n h = by (starts_with nat_eq (drop j u) (drop i t)) refl h
    where
      by : (s : Bool) → starts_with nat_eq (drop j u) (drop i t) ≡ s → (if s then Some (j + length (drop i t)) else None) ≡ Some n → alike true (drop 1 xs) (cut n ys) ≡ alike b (cut i xs) (cut j ys)
      by true e h =
          ap (λ es. alike true (drop 1 xs) (cut n es)) (text-first ys u y)
          ∙ ap (λ k. alike true (drop 1 xs) (Leaf (Text (drop k u)) ∷ drop 1 ys)) (sym (ap (λ o. unwrap_or o 0) h))
          ∙ found-passed b t u (drop 1 xs) (drop 1 ys) i j e
          ∙ sym cuts
      by false e h = absurd cc

  pub found-differs : length (drop i t) ≤ length (drop j u) → read_to u j (drop i t) ≡ None → false ≡ alike b (cut i xs) (cut j ys)
  found-differs le h = by (starts_with nat_eq (drop j u) (drop i t)) refl h
    where
      by : (s : Bool) → starts_with nat_eq (drop j u) (drop i t) ≡ s → (if s then Some (j + length (drop i t)) else None) ≡ None → false ≡ alike b (cut i xs) (cut j ys)
      by true e h = absurd cc
      by false e h =
          sym (cuts ∙ texts-alike b (drop i t) (drop j u) (drop 1 xs) (drop 1 ys)
          ∙ fronts-differ (drop i t) (drop j u) (merged (drop 1 xs)) (merged (drop 1 ys)) le e)

-- the same from the other side
module _ (b : Bool) (xs ys : List EventView) (t u : List ℕ) (i j : ℕ) (x : text_in (first xs) ≡ Some t) (y : text_in (first ys) ≡ Some u) where
  pub expected-reads : (n : ℕ) → read_to t i (drop j u) ≡ Some n → alike true (cut n xs) (drop 1 ys) ≡ alike b (cut i xs) (cut j ys)
  expected-reads n h = alike-sym true (cut n xs) (drop 1 ys) ∙ found-reads b ys xs u t j i y x n h ∙ alike-sym b (cut j ys) (cut i xs)

  pub expected-differs : length (drop j u) ≤ length (drop i t) → read_to t i (drop j u) ≡ None → false ≡ alike b (cut i xs) (cut j ys)
  expected-differs le h = found-differs b ys xs u t j i y x le h ∙ alike-sym b (cut j ys) (cut i xs)

-- where no text is first, none is cut
no-cut : (es : List EventView) (n : ℕ) → text_in (first es) ≡ None → cut n es ≡ es
no-cut [] n h = refl
no-cut (Leaf (Text t) ∷ es) n h = absurd cc
no-cut (e ∷ es) n h = refl

no-text : (es : List EventView) → text_in (first es) ≡ None → begins_with_text es ≡ false
no-text [] h = refl
no-text (Leaf (Text t) ∷ es) h = absurd cc
no-text (e ∷ es) h = refl

-- where none is first, a begun stretch is an empty text
begun-text : (es : List EventView) → text_in (first es) ≡ None → after_text [] (merged es) ≡ Leaf (Text []) ∷ merged es
begun-text es h = empty-text (merged es) (merged-begins es (no-text es h))

never-text : (t : List ℕ) (xs ys : List EventView) → begins_with_text ys ≡ false → same_events (after_text t xs) ys ≡ false
never-text t xs [] h = text-last t xs
never-text t xs (Leaf (Text u) ∷ ys) h = absurd (false≢true (sym h))
never-text t xs (y ∷ ys) h = text-only t y xs ys h

never-empty : (t : List ℕ) (xs ys : List EventView) → 0 < length t → same_events (after_text t xs) (Leaf (Text []) ∷ ys) ≡ false
never-empty [] xs ys h = absurd (omega (arith, h))
never-empty (c ∷ t) xs ys h = ap (λ zs. same_events zs (Leaf (Text []) ∷ ys)) (lead-is (c ∷ t) xs)

-- a text that was found, where none must be read
module _ (xs ys : List EventView) (t : List ℕ) (i j : ℕ) (x : text_in (first xs) ≡ Some t) (y : text_in (first ys) ≡ None) where
  alone-cuts : (b : Bool) → alike b (cut i xs) (cut j ys) ≡ alike b (Leaf (Text (drop i t)) ∷ drop 1 xs) ys
  alone-cuts b = ap (λ es. alike b (cut i es) (cut j ys)) (text-first xs t x) ∙ ap (λ es. alike b (Leaf (Text (drop i t)) ∷ drop 1 xs) es) (no-cut ys j y)

  alone-begun : alike true (cut i xs) (cut j ys) ≡ same_events (after_text (drop i t) (merged (drop 1 xs))) (Leaf (Text []) ∷ merged ys)
  alone-begun =
      alone-cuts true
      ∙ ap (λ zs. same_events zs (after_text [] (merged ys))) (after_text-twice [] (drop i t) (merged (drop 1 xs)))
      ∙ ap (λ zs. same_events (after_text (drop i t) (merged (drop 1 xs))) zs) (begun-text ys y)

  pub alone-unbegun : (b : Bool) → b ≡ false → false ≡ alike b (cut i xs) (cut j ys)
  alone-unbegun true h = absurd (false≢true (sym h))
  alone-unbegun false h = sym (alone-cuts false ∙ never-text (drop i t) (merged (drop 1 xs)) (merged ys) (merged-begins ys (no-text ys y)))

  pub alone-unread : (b : Bool) → b ≡ true → i < length t → false ≡ alike b (cut i xs) (cut j ys)
  alone-unread true h lt = sym (alone-begun ∙ never-empty (drop i t) (merged (drop 1 xs)) (merged ys) (omega (arith, lt, length-drop i t)))
  alone-unread false h lt = absurd (false≢true h)

-- a text that must be read, where none was found
module _ (xs ys : List EventView) (t : List ℕ) (i j : ℕ) (x : text_in (first xs) ≡ None) (y : text_in (first ys) ≡ Some t) (b : Bool) where
  pub missing-unbegun : b ≡ false → false ≡ alike b (cut i xs) (cut j ys)
  missing-unbegun h = alone-unbegun ys xs t j i y x b h ∙ alike-sym b (cut j ys) (cut i xs)

  pub missing-unread : b ≡ true → j < length t → false ≡ alike b (cut i xs) (cut j ys)
  missing-unread h lt = alone-unread ys xs t j i y x b h lt ∙ alike-sym b (cut j ys) (cut i xs)

-- no text on either side
unbegun : (b : Bool) (xs ys : List EventView) → text_in (first xs) ≡ None → text_in (first ys) ≡ None → alike b xs ys ≡ alike false xs ys
unbegun true xs ys x y =
    ap (λ zs. same_events zs (after_text [] (merged ys))) (begun-text xs x)
    ∙ ap (λ zs. same_events (Leaf (Text []) ∷ merged xs) zs) (begun-text ys y)
unbegun false xs ys x y = refl

first-is : (es : List EventView) (e : EventView) → first es ≡ Some e → es ≡ e ∷ drop 1 es
first-is [] e h = absurd cc
first-is (x ∷ es) e h = ap (λ o. unwrap_or o e ∷ es) h

front-is : (es : List EventView) (e : EventView) → first es ≡ Some e → text_in (first es) ≡ None → merged es ≡ e ∷ merged (drop 1 es)
front-is es e h n =
    ap merged (first-is es e h)
    ∙ front-merged e (drop 1 es) (no-text (e ∷ []) (ap text_in (sym h) ∙ n))

both-if : (same : Bool) (rest : Bool) → (if same then rest else false) ≡ (same && rest)
both-if true rest = refl
both-if false rest = refl

pub others-alike : (b : Bool) (xs ys : List EventView) (e r : EventView) (i j : ℕ) → first xs ≡ Some e → first ys ≡ Some r → text_in (first xs) ≡ None → text_in (first ys) ≡ None
    → (if same_event e r then alike false (drop 1 xs) (drop 1 ys) else false) ≡ alike b (cut i xs) (cut j ys)
others-alike b xs ys e r i j h k x y =
    both-if (same_event e r) (alike false (drop 1 xs) (drop 1 ys))
    ∙ sym (ap (λ zs. alike b zs (cut j ys)) (no-cut xs i x)
    ∙ ap (λ zs. alike b xs zs) (no-cut ys j y)
    ∙ unbegun b xs ys x y
    ∙ ap (λ zs. same_events zs (merged ys)) (front-is xs e h x)
    ∙ ap (λ zs. same_events (e ∷ merged (drop 1 xs)) zs) (front-is ys r k y))

-- both events are passed
uncut : (es : List EventView) → cut 0 es ≡ es
uncut [] = refl
uncut (Leaf (Text t) ∷ es) = refl
uncut (e ∷ es) = refl

pub both-passed : {A : Type 0} (f : A → EventView) (left rest : List A) (right behind : List EventView) (so_far whole : Bool) → rest ≡ drop 1 left → behind ≡ drop 1 right
    → alike false (drop 1 (map f left)) (drop 1 right) ≡ so_far → so_far ≡ whole → same_events (merged (cut 0 (map f rest))) (merged (cut 0 behind)) ≡ whole
both-passed f left rest right behind so_far whole l r h e =
    ap (λ zs. same_events (merged zs) (merged (cut 0 behind))) (uncut (map f rest) ∙ ap (map f) l ∙ sym (drop-map f 1 left))
    ∙ ap (λ zs. same_events (merged (drop 1 (map f left))) (merged zs)) (uncut behind ∙ r)
    ∙ h
    ∙ e

-- From the last event back: where the open containers end.
use Rattle.std.proofs.Common.{◌≡◌, ℕ, zero, suc, ◌+◌, ◌-◌, ◌<◌, ◌≤◌, Option, Some, None, List, [], ◌∷◌, ◌++◌, refl, sym, ap, ◌∙◌, drop, length, get_or, reverse, arith, subst, ⊎_elim, if◌then◌else◌, nat_lt, slice_get, MatchOption, option_to_list}
use Rattle.std.specs.Prelude.{unwrap_or}
use Rattle.std.proofs.lemmas.Bool.{cases_lt, lt-ltb, le-ltb}
use Rattle.std.proofs.lemmas.List.{reverse-append, nil_from_length, length-drop, drop_all, get_or_past}
use Rattle.std.proofs.lemmas.Option.{same_Some, none-some}
use Rattle.tocmark_event.specs.View.{TagView, SourcedEvent, Start, End, Leaf}
use Rattle.tocmark_spelling.specs.Scans.{span, end_from, end_at, tail_of, closers_before, closer_of}

-- ---- a place that is so many places on, if there are more

abbrev place_by : ℕ → ℕ → ℕ → Option ℕ
place_by n m i = if nat_lt n m then Some (i + n) else None

there : (n m i : ℕ) → n < m → place_by n m i ≡ Some (i + n)
there n m i h = ap (λ b. if b then Some (i + n) else None) (lt-ltb n m h)

not-there : (n m i : ℕ) → m ≤ n → place_by n m i ≡ None
not-there n m i h = ap (λ b. if b then Some (i + n) else None) (le-ltb n m h)

one-later : (n m i : ℕ) → place_by n m (i + 1) ≡ place_by (suc n) (suc m) i
one-later n m i =
    ⊎_elim
    (λ (lt : n < m). let p : i + 1 + n ≡ i + suc n = omega arith in there n m (i + 1) lt ∙ ap Some p ∙ sym (there (suc n) (suc m) i (omega (arith, lt))))
    (λ (le : m ≤ n). not-there n m (i + 1) le ∙ sym (not-there (suc n) (suc m) i (omega (arith, le))))
    (cases_lt n m)

some-by : (n m i end : ℕ) → place_by n m i ≡ Some end → (end ≡ i + n) × (n < m)
some-by n m i end h =
    ⊎_elim
    (λ (lt : n < m). (same_Some end (i + n) (sym h ∙ there n m i lt), lt))
    (λ (le : m ≤ n). absurd (none-some end (sym (not-there n m i le) ∙ h)))
    (cases_lt n m)

none-by : (n m i : ℕ) → place_by n m i ≡ None → m ≤ n
none-by n m i h =
    ⊎_elim
    (λ (lt : n < m). absurd (none-some (i + n) (sym h ∙ there n m i lt)))
    (λ (le : m ≤ n). le)
    (cases_lt n m)

reach-by : (n m i len : ℕ) → n ≤ m → len ≡ i + m → unwrap_or (place_by n m i) len ≡ i + n
reach-by n m i len h q =
    ⊎_elim
    (λ (lt : n < m). ap (λ o. unwrap_or o len) (there n m i lt))
    (λ (le : m ≤ n). let p : len ≡ i + n = omega (arith, q, le, h) in ap (λ o. unwrap_or o len) (not-there n m i le) ∙ p)
    (cases_lt n m)

behind-by : (n m i len : ℕ) → i < len → i < unwrap_or (place_by n m (i + 1)) len
behind-by n m i len h =
    let P : Option ℕ → Type 0 = λ o. i < unwrap_or o len in
    ⊎_elim
    (λ (lt : n < m). subst P (sym (there n m (i + 1) lt)) (omega arith))
    (λ (le : m ≤ n). subst P (sym (not-there n m (i + 1) le)) h)
    (cases_lt n m)

-- ---- one event more in front

get-tail : (s : List ℕ) (d : ℕ) → slice_get (tail_of s) d ≡ slice_get s (suc d)
get-tail [] d = refl
get-tail (x ∷ s) d = refl

span-one : (l : _) (es : List SourcedEvent) (d : ℕ) → span d (Leaf l ∷ es) ≡ suc (span d es)
span-one l es zero = refl
span-one l es (suc d) = refl

closers-step : (e : SourcedEvent) (es : List SourcedEvent) (s : List ℕ) (i : ℕ) → ((d : ℕ) → slice_get s d ≡ end_from d (i + 1) es) → (d : ℕ) → slice_get (closers_before e i s) d ≡ end_from d i (e ∷ es)
closers-step (End k) es s i h zero = let p : i ≡ i + 0 = omega arith in ap Some p ∙ sym (there 0 (suc (length es)) i (omega arith))
closers-step (End k) es s i h (suc d) = h d ∙ one-later (span d es) (length es) i
closers-step (Start t) es s i h d = get-tail s d ∙ h (suc d) ∙ one-later (span (suc d) es) (length es) i
closers-step (Leaf l) es s i h d = h d ∙ one-later (span d es) (length es) i ∙ ap (λ n. place_by n (suc (length es)) i) (sym (span-one l es d))

pub closers-turn : (e : SourcedEvent) (evs : List SourcedEvent) (s t : List ℕ) (i k : ℕ) → i ≡ k + 1 → drop k evs ≡ e ∷ drop (k + 1) evs → t ≡ closers_before e k s
    → ((d : ℕ) → slice_get s d ≡ end_from d i (drop i evs)) → (d : ℕ) → slice_get t d ≡ end_from d k (drop k evs)
closers-turn e evs s t i k q at add h d =
    let P : ℕ → Type 0 = λ i. (d : ℕ) → slice_get s d ≡ end_from d i (drop i evs) in
    ap (λ s. slice_get s d) add ∙ closers-step e (drop (k + 1) evs) s k (subst P q h) d ∙ ap (end_from d k) (sym at)

pub closers-none : (evs : List SourcedEvent) (s : List ℕ) (len d : ℕ) → s ≡ [] → drop len evs ≡ [] → slice_get (reverse s) d ≡ end_from d len (drop len evs)
closers-none evs s len d e f =
    ap (λ s. slice_get (reverse s) d) e ∙ sym (not-there 0 0 len (omega arith)) ∙ ap (end_from d len) (sym f)

-- what was the last of a list is the first of it in reverse
pub popped-is : (old new : List ℕ) (r : Option ℕ) (n m : ℕ) → old ≡ new ++ option_to_list r → n ≡ length old → MatchOption r ((n ≡ 0) × (m ≡ 0)) (λ x. m + 1 ≡ n) → r ≡ slice_get (reverse old) 0
popped-is old new (Some x) n m e len h = sym (ap (λ s. slice_get (reverse s) 0) e ∙ ap (λ s. slice_get s 0) (reverse-append new (x ∷ [])))
popped-is old new None n m e len h = ap (λ s. slice_get (reverse s) 0) (sym (nil_from_length old (sym len ∙ h.0)))

-- ---- the End of what an event starts

closer-is : (e : SourcedEvent) (es : List SourcedEvent) (s : List ℕ) (k : ℕ) → slice_get s 0 ≡ end_from 0 (k + 1) es → closer_of e s ≡ end_at k (e ∷ es)
closer-is (Start t) es s k h = h
closer-is (End j) es s k h = refl
closer-is (Leaf l) es s k h = refl

pub closer-turn : (e : SourcedEvent) (evs : List SourcedEvent) (s : List ℕ) (i k : ℕ) (v : Option ℕ) → i ≡ k + 1 → drop k evs ≡ e ∷ drop (k + 1) evs → v ≡ closer_of e s
    → ((d : ℕ) → slice_get s d ≡ end_from d i (drop i evs)) → v ≡ end_at k (drop k evs)
closer-turn e evs s i k v q at is h =
    let P : ℕ → Type 0 = λ i. slice_get s 0 ≡ end_from 0 i (drop i evs) in
    is ∙ closer-is e (drop (k + 1) evs) s k (subst P q (h 0)) ∙ ap (end_at k) (sym at)

pub ends-past : (ends : List (Option ℕ)) (evs : List SourcedEvent) (len j : ℕ) → length ends ≡ len → length evs ≡ len → len ≤ j → get_or ends j None ≡ end_at j (drop j evs)
ends-past ends evs len j a b le = get_or_past ends j None (omega (arith, a)) ∙ ap (end_at j) (sym (drop_all j evs (omega (arith, b))))

-- ---- what is known at a Start

span-small : (es : List SourcedEvent) (d : ℕ) → span d es ≤ length es
span-small [] d = omega arith
span-small (Start t ∷ es) d = let h = span-small es (suc d) in omega (arith, h)
span-small (End k ∷ es) zero = omega arith
span-small (End k ∷ es) (suc d) = let h = span-small es d in omega (arith, h)
span-small (Leaf l ∷ es) d = let h = span-small es d in let q = span-one l es d in omega (arith, h, q)

module _ (es rest : List SourcedEvent) (i : ℕ) (t : TagView) (found : Option ℕ) (at : drop i es ≡ Start t ∷ rest) (is : found ≡ end_at i (drop i es)) where
  end-is : found ≡ end_from 0 (i + 1) rest
  end-is = is ∙ ap (end_at i) at

  -- how far a body reaches, in so many events
  pub body-reaches : (len : ℕ) → len ≡ length es → unwrap_or found len ≡ i + 1 + span 0 rest
  body-reaches len q =
      let count : length es - i ≡ suc (length rest) = sym (length-drop i es) ∙ ap length at in
      let whole : len ≡ i + 1 + length rest = omega (arith, q, count) in
      ap (λ o. unwrap_or o len) end-is ∙ reach-by (span 0 rest) (length rest) (i + 1) len (span-small rest 0) whole

  -- its End
  pub end-place : (end : ℕ) → found ≡ Some end → (end ≡ i + 1 + span 0 rest) × (span 0 rest < length rest)
  end-place end h = some-by (span 0 rest) (length rest) (i + 1) end (sym end-is ∙ h)

  -- none is there
  pub end-missing : found ≡ None → length rest ≤ span 0 rest
  end-missing h = none-by (span 0 rest) (length rest) (i + 1) (sym end-is ∙ h)

-- a body's end lies after what starts it
pub behind-start : (es : List SourcedEvent) (i len : ℕ) (found : Option ℕ) → found ≡ end_at i es → i < len → i < unwrap_or found len
behind-start [] i len found is lt = subst (λ o. i < unwrap_or o len) (sym is) lt
behind-start (Start t ∷ es) i len found is lt = subst (λ o. i < unwrap_or o len) (sym is) (behind-by (span 0 es) (length es) i len lt)
behind-start (End k ∷ es) i len found is lt = subst (λ o. i < unwrap_or o len) (sym is) lt
behind-start (Leaf l ∷ es) i len found is lt = subst (λ o. i < unwrap_or o len) (sym is) lt

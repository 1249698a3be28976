-- A column that says something of each container that has ended, with one event more.
use Rattle.std.proofs.Common.{◌≡◌, ◌≢◌, ℕ, zero, suc, ◌+◌, ◌≤◌, ◌<◌, Option, Some, None, List, [], ◌∷◌, ◌++◌, refl, sym, ap, ◌∙◌, subst, length, drop, arith, get_or, ⊎_elim, length-append, get_or-set_other, get_or-set_same}
use Rattle.std.proofs.Math.ListN.{set, get_or-append}
use Rattle.std.proofs.Math.Seq.{get_or-append_seam}
use Rattle.std.proofs.lemmas.Bool.{cases_lt}
use Rattle.std.proofs.lemmas.List.{drop_all, get_or_past, length-drop}
use Rattle.tocmark_event.specs.View.{SourcedEvent, SourcedLeaf, TagView, Start, End, Leaf}
use Rattle.tocmark_event.specs.declared.event.TagEnd.{TagEnd}
use Rattle.tocmark_write_pending.specs.OpenContainers.{IsOpenAt, left_open}
use Rattle.tocmark_write_pending.proofs.OpenContainers.{drop-last, drop-more, innermost, open-more, open_after, place-inside}

-- ---- what is found at each place, with one event more

module _ {V : Type 0} (f : ℕ → List SourcedEvent → V) (none : V) (nothing : (i : ℕ) → f i [] ≡ none) where
  -- this is found at each place
  abbrev pub IsFound : List SourcedEvent → (ℕ → V) → Type 0
  IsFound es at = (i : ℕ) → at i ≡ f i (drop i es)

  module _ (es : List SourcedEvent) (x : SourcedEvent) (last : f (length es) (x ∷ []) ≡ none) where
    -- after the others there is nothing
    behind : (i : ℕ) → length es ≤ i → f i (drop i es) ≡ f i (drop i (es ++ x ∷ []))
    behind i le =
        ap (f i) (drop_all i es le)
        ∙ nothing i
        ∙ ⊎_elim
        (λ (lt : length es < i). sym (nothing i) ∙ ap (f i) (sym (drop_all i (es ++ x ∷ []) (omega (arith, length-append es (x ∷ []))))))
        (λ (ge : i ≤ length es).
        let same : length es ≡ i = omega arith in
        let P : ℕ → Type 0 = λ i. none ≡ f i (drop i (es ++ x ∷ [])) in
        subst P same (sym last ∙ ap (f (length es)) (sym (drop-last es x))))
        (cases_lt (length es) i)

    -- nothing else changes
    pub found-grown : (at : ℕ → V) → IsFound es at → ((i : ℕ) → i < length es → f i (drop i (es ++ x ∷ [])) ≡ f i (drop i es)) → IsFound (es ++ x ∷ []) at
    found-grown at c same i = c i ∙ ⊎_elim (λ (lt : i < length es). sym (same i lt)) (λ (le : length es ≤ i). behind i le) (cases_lt i (length es))

    -- one place changes
    pub found-set : (at new : ℕ → V) (p : ℕ) (v : V) → IsFound es at → ((i : ℕ) → i < length es → i ≢ p → f i (drop i (es ++ x ∷ [])) ≡ f i (drop i es)) → f p (drop p (es ++ x ∷ [])) ≡ v
        → ((i : ℕ) → i ≢ p → new i ≡ at i) → new p ≡ v → IsFound (es ++ x ∷ []) new
    found-set at new p v c same is others here i =
        ⊎_elim
        (λ (before : i < p). other (omega arith))
        (λ (le : p ≤ i).
        ⊎_elim
        (λ (after : p < i). other (omega arith))
        (λ (ge : i ≤ p).
        let equal : p ≡ i = omega arith in
        let P : ℕ → Type 0 = λ i. new i ≡ f i (drop i (es ++ x ∷ [])) in
        subst P equal (here ∙ sym is))
        (cases_lt p i))
        (cases_lt i p)
      where
        other : i ≢ p → new i ≡ f i (drop i (es ++ x ∷ []))
        other ne = others i ne ∙ c i ∙ ⊎_elim (λ (lt : i < length es). sym (same i lt ne)) (λ (le : length es ≤ i). behind i le) (cases_lt i (length es))

-- what a column says of the container that starts at a place, of which it says nothing before that has ended
pub record IsOfEnded {V : Type 0} (f : ℕ → List SourcedEvent → V) (none : V) : Type 0 where
  pub kept : (i : ℕ) (t : TagView) (rest : List SourcedEvent) (x : SourcedEvent) → left_open 0 rest ≡ None → f i (Start t ∷ (rest ++ x ∷ [])) ≡ f i (Start t ∷ rest)
  pub opened : (i : ℕ) (t : TagView) (rest : List SourcedEvent) (k : ℕ) → left_open 0 rest ≡ Some k → f i (Start t ∷ rest) ≡ none
  pub at_end : (i : ℕ) (k : TagEnd) (rest : List SourcedEvent) → f i (End k ∷ rest) ≡ none
  pub at_leaf : (i : ℕ) (l : SourcedLeaf) (rest : List SourcedEvent) → f i (Leaf l ∷ rest) ≡ none

module _ {V : Type 0} (f : ℕ → List SourcedEvent → V) (none : V) (of : IsOfEnded f none) (es : List SourcedEvent) (x : SourcedEvent) where
  -- a container that has ended, or that stays open
  place-same : (i : ℕ) → i < length es → ((k : ℕ) → IsOpenAt es i k → (m : ℕ) × (open_after x (Some k) ≡ Some m)) → f i (drop i (es ++ x ∷ [])) ≡ f i (drop i es)
  place-same i lt stays = by (drop i es) refl
    where
      started : (t : TagView) (rest : List SourcedEvent) → drop i es ≡ Start t ∷ rest → (o : Option ℕ) → left_open 0 rest ≡ o → f i (Start t ∷ (rest ++ x ∷ [])) ≡ f i (Start t ∷ rest)
      started t rest e None o = of.kept i t rest x o
      started t rest e (Some k) o =
          let s = stays k (record { tag = t; rest = rest; starts = e; within = o }) in
          of.opened i t (rest ++ x ∷ []) s.0 (open-more 0 rest x ∙ ap (open_after x) o ∙ s.1) ∙ sym (of.opened i t rest k o)

      by : (ys : List SourcedEvent) → drop i es ≡ ys → f i (drop i (es ++ x ∷ [])) ≡ f i (drop i es)
      by [] e = absurd (omega (arith, lt, length-drop i es, ap length e))
      by (Start t ∷ rest) e = ap (f i) (drop-more es i (Start t) rest (x ∷ []) e) ∙ started t rest e (left_open 0 rest) refl ∙ ap (f i) (sym e)
      by (End k ∷ rest) e = ap (f i) (drop-more es i (End k) rest (x ∷ []) e) ∙ of.at_end i k (rest ++ x ∷ []) ∙ sym (of.at_end i k rest) ∙ ap (f i) (sym e)
      by (Leaf l ∷ rest) e = ap (f i) (drop-more es i (Leaf l) rest (x ∷ []) e) ∙ of.at_leaf i l (rest ++ x ∷ []) ∙ sym (of.at_leaf i l rest) ∙ ap (f i) (sym e)

-- all but the innermost one stay open after an End
stays-open : (es : List SourcedEvent) (k : TagEnd) (p i : ℕ) → IsOpenAt es p 0 → i ≢ p → (d : ℕ) → IsOpenAt es i d → (m : ℕ) × (open_after (End k) (Some d) ≡ Some m)
stays-open es k p i at ne zero a = absurd (ne (innermost es i p a at))
stays-open es k p i at ne (suc d) a = (d, refl)

-- the events after an open container's Start are all the rest
pub rest-length : (es : List SourcedEvent) (p k : ℕ) (a : IsOpenAt es p k) → p + 1 + length a.rest ≡ length es
rest-length es p k a = let lt = place-inside es p k a in omega (arith, lt, length-drop p es, ap length a.starts)

-- one event more, of whatever kind
module _ {V : Type 0} (f : ℕ → List SourcedEvent → V) (none : V) (nothing : (i : ℕ) → f i [] ≡ none) (of : IsOfEnded f none) (es : List SourcedEvent) (at : ℕ → V) (held : IsFound f none nothing es at) where
  -- a Start ends nothing
  pub found-start : (t : TagView) → f (length es) (Start t ∷ []) ≡ none → IsFound f none nothing (es ++ Start t ∷ []) at
  found-start t last = found-grown f none nothing es (Start t) last at held (λ i lt. place-same f none of es (Start t) i lt (λ k a. (suc k, refl)))

  -- nor does a leaf
  pub found-leaf : (l : SourcedLeaf) → IsFound f none nothing (es ++ Leaf l ∷ []) at
  found-leaf l = found-grown f none nothing es (Leaf l) (of.at_leaf (length es) l []) at held (λ i lt. place-same f none of es (Leaf l) i lt (λ k a. (k, refl)))

  -- an End ends the innermost container
  pub found-end : (k : TagEnd) (p : ℕ) (v : V) (new : ℕ → V) → IsOpenAt es p 0 → f p (drop p (es ++ End k ∷ [])) ≡ v → ((i : ℕ) → i ≢ p → new i ≡ at i) → new p ≡ v → IsFound f none nothing (es ++ End k ∷ []) new
  found-end k p v new a is others here =
      found-set f none nothing es (End k) (of.at_end (length es) k []) at new p v held
      (λ i lt ne. place-same f none of es (End k) i lt (stays-open es k p i a ne)) is others here

-- ---- lists of which each place is asked

-- one more that says nothing is as none
pub got-grown : {V : Type 0} (col : List V) (none : V) (i : ℕ) → get_or (col ++ none ∷ []) i none ≡ get_or col i none
got-grown col none i =
    ⊎_elim
    (λ (lt : i < length col). get_or-append col (none ∷ []) none i lt)
    (λ (le : length col ≤ i).
    ⊎_elim
    (λ (lt : length col < i). get_or_past (col ++ none ∷ []) i none (omega (arith, length-append col (none ∷ []))) ∙ sym (get_or_past col i none le))
    (λ (ge : i ≤ length col).
    let same : length col ≡ i = omega arith in
    ap (λ n. get_or (col ++ none ∷ []) n none) (sym same) ∙ get_or-append_seam col none [] none ∙ sym (get_or_past col i none le))
    (cases_lt (length col) i))
    (cases_lt i (length col))

pub got-other : {V : Type 0} (col : List V) (none v : V) (p i : ℕ) → i ≢ p → get_or (set col p v) i none ≡ get_or col i none
got-other col none v p i ne = let other : p ≢ i = λ e. ne (sym e) in rw get_or-set_other refl

pub got-same : {V : Type 0} (col : List V) (none v : V) (p : ℕ) → p < length col → get_or (set col p v) p none ≡ v
got-same col none v p lt = rw get_or-set_same refl
